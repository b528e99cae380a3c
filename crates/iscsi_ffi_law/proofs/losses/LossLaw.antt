-- A connection is lost that isn't closed: what it has is dropped, and the session hears of a Logout that closes it.
use Rattle.std.proofs.Common.{◌≡◌, ℕ, ◌+◌, ◌<◌, ◌≤◌, ◌==◌, not, Bool, true, false, List, [], ◌∷◌, ◌++◌, length, map, filter, Option, Some, None, refl, ap, sym, subst, ◌∙◌, arith, ne_eqb, length-append}
use Rattle.std.proofs.lemmas.List.{length-map}
use Rattle.iscsi_wire.specs.Fields.{connection_of, itt}
use Rattle.iscsi_rules.specs.declared.event.Event.{Event}
use Rattle.iscsi_rules.specs.declared.event.Event.TheVariants.{Arrive}
use Rattle.iscsi_rules.specs.rules.Agenda.{items_of}
use Rattle.iscsi_rules.specs.rules.Execution.{exp_of}
use Rattle.iscsi_rules.specs.rules.Logout.{is_open}
use Rattle.iscsi_rules.specs.rules.Settings.{is_known}
use Rattle.iscsi_rules.specs.rules.Trace.{Arrival, Command, Mark, entered, is_closed, waiting}
use Rattle.iscsi_rules.proofs.general.BoolLemmas.{and_parts}
use Rattle.iscsi_rules.proofs.general.ElementLemmas.{filter-in}
use Rattle.iscsi_rules.proofs.items.Forms.{AtArrival}
use Rattle.iscsi_outbox_rules.specs.promises.Room.{places}
use Rattle.iscsi_outbox_rules.specs.rules.Calls as outbox
use Rattle.iscsi_outbox_rules.specs.rules.Run.{after_call}
use Rattle.iscsi_outbox_rules.specs.rules.Words.{contains, replies_waiting}
use Rattle.iscsi_outbox_law.specs.private.Pairs.{EachOf}
use Rattle.iscsi_outbox_law.specs.private.Sound.{IsSound}
use Rattle.iscsi_outbox_law.proofs.general.PairLemmas.{each-filter, each-weaken}
use Rattle.iscsi_outbox_law.proofs.general.PlaceLemmas.{IsPlace, known_any}
use Rattle.iscsi_outbox_steps.specs.Steps.{lost}
use Rattle.iscsi_requests.specs.Conns.{count_all, of_conn}
use Rattle.iscsi_requests.specs.declared.replies.WaitingReply.{WaitingReply}
use Rattle.iscsi_ffi_rules.specs.rules.Calls.{Interface, Loses}
use Rattle.iscsi_ffi_rules.specs.rules.Happening.{happens, other}
use Rattle.iscsi_ffi_rules.specs.rules.Run as rules
use Rattle.iscsi_ffi_rules.specs.rules.Run.{cids, is_lost, parting}
use Rattle.iscsi_ffi_rules.specs.rules.Sides.{Asked, Side}
use Rattle.iscsi_ffi_steps.specs.State.{State}
use Rattle.iscsi_ffi_steps.specs.Steps.{Going, Side as StepsSide, done, drop_unwritten, happens as steps_happen}
use Rattle.iscsi_ffi_steps.specs.Walk.{Doing, drop_waiting}
use Rattle.iscsi_ffi_law.specs.Alike.{GoesAlike}
use Rattle.iscsi_ffi_law.specs.Arrived.{arrive_call, arrived, items_then}
use Rattle.iscsi_ffi_law.specs.Fit.{IsFit}
use Rattle.iscsi_ffi_law.specs.Lost.{IsLogoutFit, IsOpenLoss}
use Rattle.iscsi_ffi_law.specs.Names.{Name, asked_of, is_of_event, place_named}
use Rattle.iscsi_ffi_law.specs.Parts.{IsCommand, IsLiveNamed, is_named}
use Rattle.iscsi_ffi_law.specs.Sides.{IsLossFit}
use Rattle.iscsi_ffi_law.specs.Stands.{Stands}
use Rattle.iscsi_ffi_law.specs.Uses.{is_place}
use Rattle.iscsi_ffi_law.proofs.arrivals.Asked.{each_back, find_nothing}
use Rattle.iscsi_ffi_law.proofs.items.Between.{IsBetween, pending_as, pending_of}
use Rattle.iscsi_ffi_law.proofs.completions.DoneRoom.{all_few, noted_few}
use Rattle.iscsi_ffi_law.proofs.logouts.Dropping.{all_of}
use Rattle.iscsi_ffi_law.proofs.calls.Ends.{GoesTo}
use Rattle.iscsi_ffi_law.proofs.events.EventEnds.{AreBegun, IsEventOf}
use Rattle.iscsi_ffi_law.proofs.events.EventGoes.{first_between, first_unswept, outbox_first, parts}
use Rattle.iscsi_ffi_law.proofs.events.EventLaw.{event_goes, pairs_live}
use Rattle.iscsi_ffi_law.proofs.calls.Finish.{IsAtEnd}
use Rattle.iscsi_ffi_law.proofs.calls.Fitting.{each_below, few_noted, few_replies, more}
use Rattle.iscsi_ffi_law.proofs.items.ItemsGo.{FirstGo, side_after}
use Rattle.iscsi_ffi_law.proofs.requests.KeptCounts.{held_or_waiting, kept_few}
use Rattle.iscsi_ffi_law.proofs.losses.Losing.{gone, loses_by, losing_dropped, losing_end, none_taken, state_lost}
use Rattle.iscsi_ffi_law.proofs.losses.LossEvent.{loss_event}
use Rattle.iscsi_ffi_law.proofs.losses.LossGoes.{lost_first}
use Rattle.iscsi_ffi_law.proofs.losses.LossHead.{lost_begun}
use Rattle.iscsi_ffi_law.proofs.losses.LossItem.{bs, cs, ends, held_apart_there, held_as_came, held_there, leave_once, one_item, the_item}
use Rattle.iscsi_ffi_law.proofs.losses.LossOver.{over_lost}
use Rattle.iscsi_ffi_law.proofs.resets.Marking.{named_first}
use Rattle.iscsi_ffi_law.proofs.general.Members.{each_in, in_pairs}
use Rattle.iscsi_ffi_law.proofs.items.Plain.{plain_item}
use Rattle.iscsi_ffi_law.proofs.requests.Releases.{endings, releases}
use Rattle.iscsi_ffi_law.proofs.losses.TailLost.{LostGoes, goes_lost}
use Rattle.iscsi_ffi_law.proofs.items.TakingOut.{IsOut}
use Rattle.iscsi_ffi_law.proofs.events.Unswept.{Unswept, none_at, none_counted, none_unswept}

none_own : (q : ℕ) → None ≡ Some q → ⊥
none_own q some = cc

module _ (i : Interface) (s : StepsSide) (r : Side) (h : Stands i s r) (cid : ℕ) (u : IsOpenLoss i r cid) where
  abbrev known : is_known cid i.outbox.session.conns ≡ true
  known = u.known

  abbrev unclosed : is_closed cid r.both.trace ≡ false
  unclosed = u.unclosed

  abbrev ahead : EachOf (λ (b : Arrival). exp_of i.outbox.session r.both.trace + 1 ≤ b.number) (waiting r.both.trace)
  ahead = u.ahead

  abbrev fit : IsFit i r.both.box (after_call i.outbox r.both.box (outbox.Loses cid))
  fit = u.leaves

  abbrev loss : IsLossFit i r cid
  loss = u.event

  module _ (p : ℕ) (at : IsPlace r.both.box.links cid p) where
    -- the side of the rules then, and the state of the steps
    abbrev x : Side
    x = other i r (outbox.Loses cid)

    abbrev s1 : State
    s1 = state_lost i s r h cid fit p at

    -- the uses that have ended
    abbrev xs : List (Option ℕ)
    xs = all_of p s.state

    abbrev e : Event
    e = Arrive cid (parting cid)

    k : IsAtEnd i h.names h.notes (endings (all_of p s.state)) (gone i s r h cid fit p at) (state_lost i s r h cid fit p at) (other i r (outbox.Loses cid))
    k = losing_end i s r h cid fit p at

    -- ---- as the event begins

    abbrev begun : IsBetween i h.names h.notes s1 x None xs
    begun = record {
      unswept = none_unswept s1;
      gone = gone i s r h cid fit p at;
      requests = pending_as h.names h.notes (endings (all_of p s.state)) (pending_of (none_unswept s1) None xs) (gone i s r h cid fit p at) s1 x (λ q. omega (arith, none_counted (λ (y : WaitingReply). y.request == q) s1.replies.waiting, none_counted (is_place q) s1.noted.handed)) k.requests;
      slots = k.slots;
      functions = k.functions;
      outbox = k.outbox;
      sizes = k.sizes;
      flags = k.flags;
      counts = k.counts;
      withheld = k.withheld;
      distinct = loss.fit.distinct;
      over = over_lost i s r h u.answered u.entered_past p at.within;
      own_named = λ q some. absurd (none_own q some);
      own_unheld = λ q some. absurd (none_own q some);
      own_first = λ q some. absurd (none_own q some);
      long_replies = length-map s1.replies.waiting (λ (ys : List WaitingReply). []) ∙ k.sizes.replies;
      long_noted = length-map s1.noted.handed (λ (ys : List (Option ℕ)). []) ∙ k.sizes.noted;
      clear = λ q within takes. (none_at s1.replies.waiting q, none_at s1.noted.handed q);
    }

    abbrev lead : Bool
    lead = (parts i x e).lead

    abbrev s0 : State
    s0 = record s1 { outbox = outbox_first i x e lead s1.outbox }

    abbrev first : IsBetween i h.names h.notes s0 x None xs
    first = first_between i h.names h.notes s1 x None xs (after_call i.outbox x.both.box (arrive_call i x cid (parting cid))) loss.fit.fit lead begun

    same_first : first.unswept ≡ none_unswept s1
    same_first = first_unswept i h.names h.notes s1 x None xs (after_call i.outbox x.both.box (arrive_call i x cid (parting cid))) loss.fit.fit lead begun

    -- ---- its item

    abbrev a : Arrival
    a = arrived i x cid (parting cid)

    abbrev item : List Mark
    item = the_item i.outbox.session r.both.event r.both.trace cid known unclosed ahead

    is : items_then i x cid (parting cid) ≡ item ∷ []
    is = one_item i.outbox.session r.both.event r.both.trace cid known unclosed ahead

    logout : IsLogoutFit i x item
    logout = u.logout item is

    -- its event has no request
    unnamed : place_named h.names r.both.event ≡ None
    unnamed = ap (λ (y : Option Name). elim y as (λ (z : Option Name). Option ℕ) [ Some m ↦ Some m.place | None ↦ None ])
        (find_nothing (is_of_event r.both.event) h.names (λ m there. ne_eqb m.event r.both.event (λ same.
        let lt : m.event < r.both.event = each_in (λ (y : Name). y.event < r.both.event) h.names m there (each_back asked_of (λ (y : Asked). y.event < r.both.event) h.names (subst (EachOf (λ (y : Asked). y.event < r.both.event)) (sym h.requests.asked) u.before.asked)) in
        let no : ⊥ = omega (arith, same, lt) in no)))

    out : IsOut i h.names h.notes s0 x None xs (plain_item AtArrival a None None None ∷ x.both.trace) None xs s0.held s0.functions
    out = lost_begun i h.names h.notes s0 x xs first a refl u.before.waiting

    -- what waits is on connections of the session
    known_waits : EachOf (λ (b : Arrival). contains (cids i) (connection_of b.request) ≡ true) (waiting (plain_item AtArrival a None None None ∷ x.both.trace))
    known_waits = each-filter (λ (b : Arrival). contains (cids i) (connection_of b.request) ≡ true) (λ (b : Arrival). not (b.event == a.event)) (waiting r.both.trace)
        (each-weaken (λ (b : Arrival). is_open i.outbox.session r.both.trace (connection_of b.request) ≡ true) (λ (b : Arrival). contains (cids i) (connection_of b.request) ≡ true) (waiting r.both.trace) (λ b open_there.
        sym (known_any (connection_of b.request) i.outbox.session.conns)
        ∙ (and_parts (is_known (connection_of b.request) i.outbox.session.conns) (not (is_closed (connection_of b.request) r.both.trace)) open_there).0) u.waits)

    abbrev left : List Command
    left = cs i.outbox.session r.both.event r.both.trace cid known unclosed ahead

    abbrev taken : List Arrival
    taken = bs i.outbox.session r.both.event r.both.trace cid known unclosed ahead

    abbrev last : Bool
    last = ends i.outbox.session r.both.event r.both.trace cid known unclosed ahead

    item_goes : LostGoes i h.names h.notes first.unswept s0 x xs item
    item_goes = goes_lost i h.names h.notes s0 x xs first a left taken (itt a.request) (Some cid) last logout.fit logout.leaves loss.fit.sent loss.fit.handed (none_taken i s r h cid fit p at) fit.distinct logout.behind refl unnamed out
        (leave_once i.outbox.session r.both.event r.both.trace cid known unclosed ahead) (held_there i.outbox.session r.both.event r.both.trace cid known unclosed ahead) (held_apart_there i.outbox.session r.both.event r.both.trace cid known unclosed ahead)
        (held_as_came i.outbox.session r.both.event r.both.trace cid known unclosed ahead logout.emptied) known_waits (λ conn some. subst (λ c. is_known c i.outbox.session.conns ≡ true) (let same : cid ≡ conn = cc in same) known)

    goes : FirstGo i h.names h.notes (none_unswept s1) (record s1 { outbox = outbox_first i x e (parts i x e).lead s1.outbox }) x None xs (items_of i.outbox.session x.both.event x.both.trace e)
    goes = subst (FirstGo i h.names h.notes (none_unswept s1) s0 x None xs) (sym is)
        (lost_first i h.names h.notes s0 x xs item (subst (λ (u : Unswept). LostGoes i h.names h.notes u s0 x xs item) same_first item_goes) loss.fit.replies)

    -- ---- what is known of it

    event_of : IsEventOf i x e
    event_of = loss_event i x cid known unclosed ahead loss.fit (subst (λ items. IsSound i.outbox (side_after i x items).both.box) (sym is) logout.behind)

    few_kept : held_or_waiting s1.held s1.functions ≤ places i.outbox
    few_kept =
        let few = kept_few (cids i) h.names s1.functions (waiting r.both.trace) k.functions k.sizes.functions loss.fit.waits s1.held i.outbox.session.window k.slots.size_is in
        let conns = length-map i.outbox.session.conns (λ (c : ℕ × ℕ). c.0) in
        let some = fit.some in
        omega (arith, few, conns, some)

    few_ended : length (all_of p s.state) ≤ places i.outbox + i.outbox.own + i.unwritten
    few_ended =
        let all = length-append (map (λ (y : WaitingReply). Some y.request) (of_conn p s.state.replies.waiting)) (of_conn p s.state.noted.handed ++ of_conn p s.state.unwritten.handed) in
        let others = length-append (of_conn p s.state.noted.handed) (of_conn p s.state.unwritten.handed) in
        let mapped = length-map (of_conn p s.state.replies.waiting) (λ (y : WaitingReply). Some y.request) in
        let replies = few_replies i s r h (after_call i.outbox r.both.box (outbox.Loses cid)) fit p at.within in
        let noted = few_noted i s r h (after_call i.outbox r.both.box (outbox.Loses cid)) fit p at.within in
        let unwritten = each_below i.unwritten s.state.unwritten.handed p h.sizes.few in
        let room = fit.fits.replies in
        omega (arith, all, others, mapped, replies, noted, unwritten, room)

    begun_with : AreBegun i s1 x xs
    begun_with = record {
      waits = waits;
      replies_room = (let z = k.sizes.replies_room in let conns = length-map i.outbox.session.conns (λ (c : ℕ × ℕ). c.0) in omega (arith, z, conns));
      rooms =
          let noted = noted_few i h.names h.notes (endings (all_of p s.state)) (gone i s r h cid fit p at) s1 x k.requests k.outbox k.sizes k.sound in
          let replies = loss.fit.replies in
          let room = k.sizes.room in
          let conns = length-map i.outbox.session.conns (λ (c : ℕ × ℕ). c.0) in
          let product = more (i.outbox.own + i.unwritten) (length (cids i)) fit.some in
          omega (arith, waits, noted, replies, room, conns, product, few_ended);
      few =
          let lives = pairs_live h.names x s1.commands.items (filter (is_named h.names) (entered r.both.trace)) k.requests.commands in
          let named = ap length (named_first h.names r.both.trace (entered r.both.trace) k.requests.live_named) in
          let few = loss.fit.found in
          omega (arith, lives, named, few);
      kept = few_kept;
      freed = λ c there lives told.
          let named : is_named h.names c ≡ true = each_in (IsLiveNamed h.names r.both.trace) (entered r.both.trace) c there k.requests.live_named lives in
          let pair = in_pairs (IsCommand h.names x) s1.commands.items (filter (is_named h.names) (entered r.both.trace)) c (filter-in (is_named h.names) (entered r.both.trace) c there named) k.requests.commands in
          pair.2.freed told;
    }
      where
        waits : count_all s1.replies.waiting ≤ replies_waiting x.both.box
        waits = all_few i h.names h.notes (endings (all_of p s.state)) (gone i s r h cid fit p at) s1 x k.requests k.outbox k.sizes

    -- ---- the call

    -- what the steps go on with
    abbrev dropped : Doing
    dropped = let d' = drop_waiting p (record { state = record s.state { outbox = lost cid s.state.outbox }; actions = []; forgets = [] }) in drop_unwritten (length (of_conn p d'.state.unwritten.handed)) p d'

    same_going : ◌≡◌ {A = Going} (record { event = s.event; trace = s.trace; doing = dropped }) (record { event = x.both.event; trace = x.both.trace; doing = releases xs (record { state = s1; actions = []; forgets = [] }) })
    same_going =
        ap (λ m. record { event = m; trace = s.trace; doing = dropped }) h.event
        ∙ ap (λ t. record { event = r.both.event; trace = t; doing = dropped }) h.trace
        ∙ ap (λ (d : Doing). record { event = r.both.event; trace = r.both.trace; doing = d }) (losing_dropped i s r h cid fit p at)

    pub parting_goes : GoesTo i (done (steps_happen i None (Arrive cid (parting cid)) (record { event = s.event; trace = s.trace; doing = dropped }))) (rules.done (happens i (other i r (outbox.Loses cid)) (Arrive cid (parting cid))))
    parting_goes = subst (λ (g : Going). GoesTo i (done (steps_happen i None (Arrive cid (parting cid)) g)) (rules.done (happens i (other i r (outbox.Loses cid)) (Arrive cid (parting cid))))) (sym same_going)
        (event_goes i h.names h.notes s1 x None xs e event_of begun_with k.outbox goes k.calm loss.withheld)

  -- .. goes alike
  pub loses_open : GoesAlike i s r (Loses cid)
  loses_open = loses_by i s r h cid fit u.orderly false unclosed known u.kept parting_goes
