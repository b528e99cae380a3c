-- The Logout by which the session hears that a connection was lost: its answer goes nowhere, what it takes out is over, and nothing waits there any more.
use Rattle.std.proofs.Common.{◌≡◌, ℕ, ◌+◌, ◌<◌, ◌≤◌, ◌==◌, ◌&&◌, cond, Bool, true, false, List, [], ◌∷◌, ◌++◌, length, map, count_by, filter_map, Option, Some, None, inl, refl, ap, sym, subst, ◌∙◌, arith, append_assoc, length-append, ⊎_elim, inr, ◌%◌, ◌^◌, ◌-◌, ◌⊎◌}
use Rattle.iscsi_ffi_commands.specs.Commands.{Commands}
use Rattle.iscsi_ffi_law.proofs.completions.DonePhases.{runs_at}
use Rattle.std.specs.List.{flat_map, list_any}
use Rattle.std.proofs.lemmas.List.{length-map}
use Rattle.iscsi_wire.specs.Fields.{cmd_sn, connection_of}
use Rattle.iscsi_wire.specs.Serial.{wire}
use Rattle.iscsi_rules.specs.declared.effect.Effect.{Effect}
use Rattle.iscsi_rules.specs.declared.effect.Effect.TheVariants.{Send}
use Rattle.iscsi_rules.specs.rules.Run.{newly_enabled, stat_sn_of}
use Rattle.iscsi_rules.specs.rules.Settings.{are_distinct, is_known}
use Rattle.iscsi_rules.specs.rules.Trace.{Arrival, Command as RulesCommand, Mark, held, live, waiting}
use Rattle.iscsi_rules.proofs.items.Forms.{AtArrival}
use Rattle.iscsi_outbox_rules.specs.rules.Boxes.{AtConns, Box, Handed, Link}
use Rattle.iscsi_outbox_rules.specs.rules.Items.{after_item, answer, close_all, in_phase, newly_closed, outgoing, phase_enabled}
use Rattle.iscsi_outbox_rules.specs.rules.Queues.{takes_more, without}
use Rattle.iscsi_outbox_rules.specs.rules.Words.{contains}
use Rattle.iscsi_outbox_law.specs.private.Commands.{link_in}
use Rattle.iscsi_outbox_law.specs.private.Pairs.{EachOf, InOrder, PairsOf}
use Rattle.iscsi_outbox_law.specs.private.Sound.{IsSound}
use Rattle.iscsi_outbox_law.proofs.general.PairLemmas.{each-map, each-weaken}
use Rattle.iscsi_outbox_steps.specs.State.{State as OutboxState, place_of}
use Rattle.iscsi_outbox_steps.specs.Steps.{after_item as steps_after_item}
use Rattle.iscsi_requests.specs.Conns.{count_all, of_conn}
use Rattle.iscsi_requests.specs.Functions.{WaitingFunctions}
use Rattle.iscsi_requests.specs.Numbers.{HeldNumbers}
use Rattle.iscsi_ffi_rules.specs.declared.action.Action.{Action}
use Rattle.iscsi_ffi_rules.specs.rules.Calls.{Interface}
use Rattle.iscsi_ffi_rules.specs.rules.Happening.{leaving, stops_in}
use Rattle.iscsi_ffi_rules.specs.rules.Run.{cids}
use Rattle.iscsi_ffi_rules.specs.rules.Sides.{Side}
use Rattle.iscsi_ffi_steps.specs.State.{State}
use Rattle.iscsi_ffi_steps.specs.Walk.{Walk, on_effect, on_effects, reason_by, send_as}
use Rattle.iscsi_ffi_law.specs.Arrived.{IsItemFit, IsLeavingFit, effects_by, side_behind}
use Rattle.iscsi_ffi_law.specs.Names.{Name, Note, place_named}
use Rattle.iscsi_ffi_law.specs.Parts.{IsBefore}
use Rattle.iscsi_ffi_law.specs.Stands.{AreRequests}
use Rattle.iscsi_ffi_law.proofs.items.Between.{IsBetween, IsFound, pending_as, pending_of}
use Rattle.iscsi_ffi_law.proofs.events.Unswept.{Unswept, joined, put_state, unswept_at}
use Rattle.iscsi_ffi_law.proofs.logouts.ClosingBox.{IsPartingPart, parting_item, parts_runs}
use Rattle.iscsi_ffi_law.proofs.completions.DoneShape.{enables, tickets_of}
use Rattle.iscsi_ffi_law.proofs.logouts.DroppingEach.{functions_off, places_off}
use Rattle.iscsi_ffi_law.proofs.calls.Finish.{as_many_links}
use Rattle.iscsi_ffi_law.proofs.aborts.Leaving.{leave_effects}
use Rattle.iscsi_ffi_law.proofs.aborts.LeavingBox.{left_box}
use Rattle.iscsi_ffi_law.proofs.aborts.LeavingBy.{LeavesBy, endings_append, few2, leaves_on, over2, queued2, requests2, those}
use Rattle.iscsi_ffi_law.proofs.aborts.LeavingCommands.{ended_by, entered_left, gone_by}
use Rattle.iscsi_ffi_law.proofs.logouts.Parting.{answers_parted, close_effects, conns_parted, effects_parted, enters_parted, executed_parted, leaving_parted, parted_effects, parted_item, part_parted, tickets_parted}
use Rattle.iscsi_ffi_law.proofs.logouts.PartingOut.{close_walk, closed_conns, closed_pairs, closed_places, emptied, pairs_within, parted_out}
use Rattle.iscsi_ffi_law.proofs.items.Plain.{plain_item, start_effect}
use Rattle.iscsi_ffi_law.proofs.requests.Releases.{endings}
use Rattle.iscsi_ffi_law.proofs.items.Stepping.{AreFewer, last_then, stands_then}
use Rattle.iscsi_ffi_law.proofs.aborts.TailLeaves.{links_dropped}
use Rattle.iscsi_ffi_law.proofs.items.TakingOut.{IsOut, empty_effects}
use Rattle.iscsi_ffi_law.proofs.items.Waited.{IsCid}
use Rattle.iscsi_ffi_law.proofs.items.Framing.{touched_in}
use Rattle.iscsi_ffi_law.proofs.logouts.ClosingEach.{IsClosedTo, all_closed}
use Rattle.iscsi_ffi_law.proofs.logouts.ClosingPlaces.{HasPlace, closes_placed, parted_touched}
use Rattle.iscsi_outbox_law.proofs.general.PlaceLemmas.{IsPlace}
use Rattle.iscsi_rules.proofs.general.ElementLemmas.{In}
use Rattle.iscsi_requests.specs.declared.replies.WaitingReply.{WaitingReply}
use Rattle.iscsi_wire.specs.declared.reply.Reply.TheVariants.{Logout}
use Rattle.iscsi_ffi_law.proofs.losses.Unanswered.{IsUnanswered, all_unanswered, requests_unanswered}
use Rattle.iscsi_ffi_law.proofs.logouts.TailParts.{same_places}
use Rattle.iscsi_ffi_law.proofs.sending.Queued.{AllQueued, SettledTo, settled_to}
use Rattle.iscsi_ffi_law.proofs.calls.Quiet.{settled_sent}
use Rattle.iscsi_outbox_rules.specs.rules.Due.{settle}
use Rattle.iscsi_ffi_law.proofs.requests.Releasing.{ending}
use Rattle.iscsi_ffi_rules.specs.declared.action.StopReason.{StopReason}
use Rattle.iscsi_ffi_law.proofs.general.Members.{PassingAt, any_at as find_at, at_any}
use Rattle.iscsi_outbox_rules.specs.rules.Run.{new_link}
use Rattle.iscsi_rules.proofs.general.BoolLemmas.{and_parts}
use Rattle.std.proofs.lemmas.Bool.{and_from, false≢true}
use Rattle.iscsi_ffi_law.proofs.items.Walking.{enables_past, is_led, led_end, walk_at, walk_in}

-- such an item goes, as the first one of its event
pub record LostGoes (i : Interface) (names : List Name) (notes : List Note) (u : Unswept) (s : State) (r : Side) (xs : List (Option ℕ)) (item : List Mark) : Type 0 where
  pub state : State
  pub ended : List (Option ℕ)
  pub still : State
  pub between : IsBetween i names notes state (side_behind i r item) None ended
  pub put : put_state u still ≡ put_state between.unswept state
  pub still_replies : still.replies ≡ s.replies
  pub still_noted : still.noted ≡ s.noted
  pub waits : count_all state.replies.waiting + count_all between.unswept.replies ≡ count_all s.replies.waiting + count_all u.replies
  pub notes_kept : count_all state.noted.handed + count_all between.unswept.noted ≡ count_all s.noted.handed + count_all u.noted
  pub touched : (o : OutboxState) → IsFound i o → (p : ℕ) → ((of_conn p between.unswept.replies ≡ of_conn p u.replies) × (of_conn p between.unswept.noted ≡ of_conn p u.noted)) ⊎ In p (flat_map (touched_in o) (effects_by i r item))
  pub outbox : state.outbox ≡ steps_after_item (effects_by i r item) s.outbox
  pub room : state.room ≡ s.room
  pub few : AreFewer xs ended (length (stops_in r item)) s state
  pub walk : (o : OutboxState) → IsFound i o → (acts : List Action) → length acts + length (stops_in r item) ≤ s.room → (rest : List Effect) → is_led rest ≡ true
      → on_effects true (effects_by i r item ++ rest) (walk_at o s acts xs None r.both.box.sent) ≡ on_effects false rest (walk_at o still (acts ++ stops_in r item) ended None (side_behind i r item).both.box.sent)

module _ (i : Interface) (names : List Name) (notes : List Note) (s : State) (r : Side) (xs : List (Option ℕ)) (k : IsBetween i names notes s r None xs) (a : Arrival) (cs : List RulesCommand) (bs : List Arrival) (tag : ℕ) (closing : Option ℕ) (ends : Bool)
    (fit : IsItemFit i.outbox r.both.box (effects_by i r (parted_item AtArrival a cs bs (Logout tag 0) closing ends))) (leaves : EachOf (IsLeavingFit i r (parted_item AtArrival a cs bs (Logout tag 0) closing ends)) (filter_map leaving (parted_item AtArrival a cs bs (Logout tag 0) closing ends)))
    (small : r.both.box.sent < 2 ^ 64 - 1) (handed_before : EachOf (λ (l : Link). EachOf (λ (x : Handed). IsBefore r.both.box.sent x.out.sent) l.handed) r.both.box.links)
    (untaken : list_any (λ (l : Link). l.conn == connection_of a.request && takes_more l) r.both.box.links ≡ false)
    (distinct : are_distinct i.outbox.session.conns ≡ true) (sound : IsSound i.outbox (side_behind i r (parted_item AtArrival a cs bs (Logout tag 0) closing ends)).both.box)
    (now : a.event ≡ r.both.event) (unnamed : place_named names a.event ≡ None) (begun : IsOut i names notes s r None xs (plain_item AtArrival a None None None ∷ r.both.trace) None xs s.held s.functions) (each : (p : RulesCommand → Bool) → count_by p cs ≤ count_by p (live r.both.trace))
    (held_there : EachOf (λ (b : Arrival). held (plain_item AtArrival a None None None ∷ r.both.trace) b.number ≡ Some b) bs) (apart : InOrder (λ (b c : Arrival). (b.number == c.number) ≡ false) bs) (wired : EachOf (λ (b : Arrival). wire b.number ≡ cmd_sn b.request) bs)
    (known : EachOf (λ (b : Arrival). contains (cids i) (connection_of b.request) ≡ true) (waiting (plain_item AtArrival a None None None ∷ r.both.trace))) (known_closing : (conn : ℕ) → closing ≡ Some conn → is_known conn i.outbox.session.conns ≡ true) where
  abbrev by : StopReason
  by = reason_by a.request None

  abbrev item : List Mark
  item = parted_item AtArrival a cs bs (Logout tag 0) closing ends

  abbrev cid : ℕ
  cid = connection_of a.request

  abbrev sn : ℕ
  sn = stat_sn_of i.outbox.session r.both.trace (connection_of a.request)

  abbrev ns : List RulesCommand
  ns = newly_enabled i.outbox.session r.both.trace (parted_item AtArrival a cs bs (Logout tag 0) closing ends)

  abbrev es : List Effect
  es = parted_effects sn AtArrival a cs bs (Logout tag 0) closing ends ns

  abbrev conns : List ℕ
  conns = conns_parted r.both.box.links closing ends

  effects_are : effects_by i r (parted_item AtArrival a cs bs (Logout tag 0) closing ends) ≡ es
  effects_are = effects_parted i.outbox.session r.both.trace AtArrival a cs bs (Logout tag 0) closing ends

  part : IsPartingPart r.both.box.links es a.request cs ns (Some (cid, Logout tag 0)) conns
  part = part_parted r.both.box.links sn AtArrival a cs bs (Logout tag 0) closing ends ns

  abbrev ps : List ℕ
  ps = closed_places s.outbox (cids i) closing ends

  pairs : PairsOf (IsCid i) (closed_conns i closing ends) ps
  pairs = closed_pairs i names notes s r None xs k distinct closing ends known_closing

  within_each : EachOf (λ p. p < length s.functions.waiting) ps
  within_each = let m = k.sizes.functions in each-weaken (λ p. p < length (cids i)) (λ p. p < length s.functions.waiting) ps (λ p lt. omega (arith, lt, m)) (pairs_within i (closed_conns i closing ends) ps pairs)

  abbrev places : List (Option ℕ)
  places = (emptied i names notes s r None xs k AtArrival a None s.held s.functions begun cs bs (Logout tag 0) closing ends held_there apart wired known ps pairs).places

  abbrev v : HeldNumbers
  v = (emptied i names notes s r None xs k AtArrival a None s.held s.functions begun cs bs (Logout tag 0) closing ends held_there apart wired known ps pairs).held_then

  abbrev waits : List (Option ℕ)
  waits = places_off ps s.functions

  abbrev fs : WaitingFunctions
  fs = functions_off ps s.functions

  abbrev zs : List (Option ℕ)
  zs = places ++ waits

  leaves_by : LeavesBy i names notes s r None xs (parted_item AtArrival a cs bs (Logout tag 0) closing ends) a cs None by v fs zs
  leaves_by = record {
    none_enters = enters_parted AtArrival a cs bs (Logout tag 0) closing ends;
    left_by = λ n. tickets_parted AtArrival a cs bs (Logout tag 0) closing ends n;
    leaving_is = leaving_parted AtArrival a cs bs (Logout tag 0) closing ends;
    executed = executed_parted AtArrival a cs bs (Logout tag 0) closing ends;
    others_run = λ n other. ap (λ (b : Box). list_any (runs_at n) b.tasks) (ap (after_item i.outbox r.both.box) effects_are) ∙ parts_runs i.outbox r.both.box a.request cs ns (Some (cid, Logout tag 0)) conns es part n other;
    named = unnamed;
    why = refl;
    out = parted_out i names notes s r None xs k AtArrival a None s.held s.functions begun cs bs (Logout tag 0) closing ends held_there apart wired known ps pairs;
  }

  -- ---- the outbox

  abbrev closes : List ℕ
  closes = newly_closed r.both.box conns

  abbrev dropped : Box
  dropped = left_box r.both.box a.request cs

  abbrev shut_box : Box
  shut_box = close_all cid closes dropped

  abbrev box_then : Box
  box_then = after_item i.outbox r.both.box (effects_by i r item)

  abbrev outbox' : OutboxState
  outbox' = steps_after_item (effects_by i r item) s.outbox

  abbrev s2 : State
  s2 = record s { held = v; functions = fs; commands = record s.commands { items = map (gone_by cs) s.commands.items }; outbox = outbox' }

  abbrev r2 : Side
  r2 = record r { both = record r.both { trace = item ∷ r.both.trace; box = dropped } }

  abbrev rS : Side
  rS = record r { both = record r.both { trace = item ∷ r.both.trace; box = shut_box } }

  abbrev base : ℕ → ℕ
  base q = ending None q + (endings (xs ++ ended_by names r cs) q + endings zs q)

  abbrev Closed : Box → Type 0
  Closed = IsClosedTo names notes base k.unswept s2 r2 cid ps

  many : length dropped.links ≡ length r.both.box.links
  many = length-map r.both.box.links (without (contains (tickets_of cs)))

  as_many : length dropped.links ≡ length (cids i)
  as_many = many ∙ as_many_links i s r k.outbox

  -- nothing is closed yet
  opened : Closed dropped
  opened = record {
    replies = s.replies.waiting;
    noted = s.noted.handed;
    unswept = k.unswept;
    gone = k.gone;
    requests = requests2 i names notes s r None xs k item a cs None by v fs zs fit leaves distinct sound leaves_by each;
    queued = queued2 i names notes s r None xs k item a cs None by v fs zs fit leaves distinct sound leaves_by each;
    same_replies = refl;
    same_noted = refl;
    long_replies = refl;
    long_noted = refl;
    long_unswept = refl;
    long_others = refl;
    count_replies = refl;
    count_noted = refl;
    sent = refl;
    long = refl;
    conn = λ q short. refl;
    takes = λ q short more. (more, (refl, refl));
    own = λ q short is more. more;
    handed = λ x. x;
    touched = λ q. inl (refl, refl);
  }

  placed : EachOf (λ c. (p : ℕ) × (IsPlace dropped.links c p × In p ps)) closes
  placed = each-weaken (HasPlace r.both.box.links ps) (λ c. (p : ℕ) × (IsPlace dropped.links c p × In p ps)) closes
      (λ c at. (at.0, (record { within = (let w = at.1.0.within in omega (arith, w, many)); is = (links_dropped (tickets_of cs) r.both.box.links at.0 at.1.0.within).conn ∙ at.1.0.is }, at.1.1)))
      (closes_placed i names notes s r None xs k distinct closing ends ps pairs)

  abbrev closed : Closed (close_all cid closes dropped)
  closed = all_closed names notes base k.unswept s2 r2 cid ps (k.sizes.replies ∙ sym as_many) (k.sizes.noted ∙ sym as_many) (k.long_replies ∙ sym as_many) (k.long_noted ∙ sym as_many) closes dropped placed opened

  -- what waits still, and what is to be swept
  abbrev sC : State
  sC = record s2 { replies = record s.replies { waiting = closed.replies }; noted = record s.noted { handed = closed.noted } }

  abbrev unswept' : Unswept
  unswept' = closed.unswept

  abbrev pending1 : ℕ → ℕ
  pending1 q = base q + unswept_at closed.unswept q

  -- where one takes more, it did before, and nothing is to be swept
  took : (q : ℕ) → q < length r.both.box.links → takes_more (link_in shut_box.links q) ≡ true → (takes_more (link_in r.both.box.links q) ≡ true) × ((of_conn q closed.unswept.replies ≡ of_conn q k.unswept.replies) × (of_conn q closed.unswept.noted ≡ of_conn q k.unswept.noted))
  took q short more =
      let x = closed.takes q (omega (arith, short, many)) more in
      (sym (links_dropped (tickets_of cs) r.both.box.links q short).takes ∙ x.0, x.1)

  long_closed : length shut_box.links ≡ length r.both.box.links
  long_closed = closed.long ∙ many

  -- what didn't take more still doesn't
  gone_there : list_any (λ (l : Link). l.conn == cid && takes_more l) shut_box.links ≡ false
  gone_there = by_any (list_any (λ (l : Link). l.conn == cid && takes_more l) shut_box.links) refl
    where
      by_any : (w : Bool) → list_any (λ (l : Link). l.conn == cid && takes_more l) shut_box.links ≡ w → w ≡ false
      by_any false is = refl
      by_any true is =
          let at : PassingAt (λ (l : Link). l.conn == cid && takes_more l) shut_box.links (new_link 0) = find_at (λ (l : Link). l.conn == cid && takes_more l) shut_box.links (new_link 0) is in
          let inside : at.place < length r.both.box.links = (let w' = at.within in let l = long_closed in omega (arith, w', l)) in
          let passes = and_parts ((link_in shut_box.links at.place).conn == cid) (takes_more (link_in shut_box.links at.place)) at.passes in
          let conn = closed.conn at.place (omega (arith, inside, many)) ∙ (links_dropped (tickets_of cs) r.both.box.links at.place inside).conn in
          absurd (false≢true (sym untaken ∙ at_any (λ (l : Link). l.conn == cid && takes_more l) r.both.box.links at.place (new_link 0) inside
          (and_from ((link_in r.both.box.links at.place).conn == cid) (takes_more (link_in r.both.box.links at.place)) (ap (λ n. n == cid) (sym conn) ∙ passes.0) (took at.place inside passes.1).0)))

  abbrev sent_box : Box
  sent_box = in_phase phase_enabled (tickets_of ns) (record shut_box { sent = shut_box.sent + 1 })

  box_is : box_then ≡ settle i.outbox sent_box
  box_is =
      ap (after_item i.outbox r.both.box) effects_are ∙ parting_item i.outbox r.both.box a.request cs ns (Some (cid, Logout tag 0)) conns es part
      ∙ ap (λ v. settle i.outbox (in_phase phase_enabled (tickets_of ns) (let b' = cond v (record shut_box { undue = shut_box.undue ++ answer i.outbox shut_box a.request conns closes cid (outgoing shut_box (Some (a.request)) [] (Logout tag 0)) AtConns ∷ [] }) shut_box in record b' { sent = b'.sent + 1 }))) gone_there

  all_then : AllQueued names (item ∷ r.both.trace) (r.answers ++ a.event ∷ []) (λ q. of_conn q closed.replies) (λ q. length (of_conn q closed.noted)) shut_box.links shut_box.undue
  all_then = all_unanswered names (item ∷ r.both.trace) r.answers a.event (λ q. of_conn q closed.replies) (λ q. length (of_conn q closed.noted)) shut_box.links shut_box.undue closed.queued

  settled : SettledTo names (item ∷ r.both.trace) (r.answers ++ a.event ∷ []) (λ q. of_conn q closed.replies) (λ q. length (of_conn q closed.noted)) shut_box.links (settle i.outbox sent_box)
  settled = settled_to names (item ∷ r.both.trace) (r.answers ++ a.event ∷ []) (λ q. of_conn q closed.replies) (λ q. length (of_conn q closed.noted)) i.outbox sent_box all_then

  unanswered : IsUnanswered names sC rS a.event box_then
  unanswered = subst (IsUnanswered names sC rS a.event) (sym box_is) (record {
    all = settled.all;
    long = settled.long;
    same = settled.same;
    sent = settled_sent i.outbox [] shut_box.undue sent_box;
  })

  handed : EachOf (λ (l : Link). EachOf (λ (x : Handed). IsBefore r.both.box.sent x.out.sent) l.handed) shut_box.links
  handed = closed.handed (each-map (λ (l : Link). EachOf (λ (x : Handed). IsBefore r.both.box.sent x.out.sent) l.handed) (λ (l : Link). EachOf (λ (x : Handed). IsBefore r.both.box.sent x.out.sent) l.handed) (without (contains (tickets_of cs))) r.both.box.links (λ l x. x) handed_before)

  same_sent : shut_box.sent ≡ r.both.box.sent
  same_sent = closed.sent

  abbrev state' : State
  state' = record s {
    held = v;
    functions = fs;
    commands = record s.commands { items = map (gone_by cs) s.commands.items };
    outbox = steps_after_item (effects_by i r item) s.outbox;
    replies = record s.replies { waiting = closed.replies };
    noted = record s.noted { handed = closed.noted };
  }

  -- the steps keep all of it until it is swept
  abbrev still : State
  still = record s {
    held = v;
    functions = fs;
    commands = record s.commands { items = map (gone_by cs) s.commands.items };
    outbox = steps_after_item (effects_by i r item) s.outbox;
  }

  abbrev ended' : List (Option ℕ)
  ended' = ((xs ++ ended_by names r cs) ++ places) ++ waits

  counts : (q : ℕ) → endings ended' q ≡ endings (xs ++ ended_by names r cs) q + endings zs q
  counts q = omega (arith, endings_append ((xs ++ ended_by names r cs) ++ places) waits q, endings_append (xs ++ ended_by names r cs) places q, endings_append places waits q)

  requests3 : AreRequests names notes (pending_of closed.unswept None ended') closed.gone state' (side_behind i r item)
  requests3 = subst (λ as'. AreRequests names notes (pending_of closed.unswept None ended') closed.gone state' (record (side_behind i r item) { answers = r.answers ++ as' })) (sym (answers_parted AtArrival a cs bs (Logout tag 0) closing ends r.both.event))
      (pending_as names notes pending1 (pending_of closed.unswept None ended') closed.gone state' (record (side_behind i r item) { answers = r.answers ++ a.event ∷ [] }) (λ q. omega (arith, counts q))
      (requests_unanswered names notes pending1 closed.gone sC rS closed.requests a.event (subst (λ n. EachOf (λ (l : Link). EachOf (λ (x : Handed). IsBefore n x.out.sent) l.handed) shut_box.links) (sym same_sent) handed) outbox' box_then (λ ticket. refl) unanswered))

  -- nothing is to be swept where something goes out still
  clear' : (q : ℕ) → q < length box_then.links → takes_more (link_in box_then.links q) ≡ true → (of_conn q closed.unswept.replies ≡ []) × (of_conn q closed.unswept.noted ≡ [])
  clear' q short more =
      let inside : q < length shut_box.links = (let l = unanswered.long in omega (arith, short, l)) in
      let inside' : q < length r.both.box.links = (let l = long_closed in omega (arith, inside, l)) in
      let x = took q inside' (sym (unanswered.same q inside).takes ∙ more) in
      let y = k.clear q inside' x.0 in
      (x.1.0 ∙ y.0, x.1.1 ∙ y.1)

  between : IsBetween i names notes state' (side_behind i r item) None ended'
  between = record {
    requests = requests3;
    slots = leaves_by.out.slots;
    functions = leaves_by.out.functions_are;
    unswept = closed.unswept;
    gone = closed.gone;
    long_replies = closed.long_unswept ∙ k.long_replies;
    long_noted = closed.long_others ∙ k.long_noted;
    clear = clear';
    outbox = stands_then i names notes s r None xs k item fit distinct sound;
    sizes = record {
      room = k.sizes.room;
      functions = leaves_by.out.long_functions ∙ k.sizes.functions;
      replies = closed.long_replies ∙ k.sizes.replies;
      noted = closed.long_noted ∙ k.sizes.noted;
      unwritten = k.sizes.unwritten;
      noted_room = k.sizes.noted_room;
      unwritten_room = k.sizes.unwritten_room;
      replies_room = k.sizes.replies_room;
      slots = (let l = leaves_by.out.long in let some = k.sizes.slots in omega (arith, l, some));
      few = k.sizes.few;
    };
    flags = record { awake = k.flags.awake; over = k.flags.over };
    counts = record {
      units = k.counts.units;
      last =
          let same = ap length (entered_left r.both.trace item cs (those i names notes s r None xs k item a cs None by v fs zs fit leaves distinct sound leaves_by each).none_enters (those i names notes s r None xs k item a cs None by v fs zs fit leaves distinct sound leaves_by each).left_by) in
          let below = k.counts.last in
          omega (arith, same, below);
      tracked = last_then i names notes s r None xs k item fit distinct sound;
    };
    withheld = k.withheld;
    distinct = leaves_by.out.distinct;
    over = λ q some. over2 i names notes s r None xs k item a cs None by v fs zs fit leaves distinct sound leaves_by each q (omega (arith, some, counts q));
    own_named = λ q none. absurd (let no : ⊥ = cc in no);
    own_unheld = λ q none. absurd (let no : ⊥ = cc in no);
    own_first = λ q none. absurd (let no : ⊥ = cc in no);
  }

  put : put_state k.unswept still ≡ put_state closed.unswept state'
  put =
      ap (λ (ys : List (List WaitingReply)). record still { replies = record s.replies { waiting = ys }; noted = record s.noted { handed = joined s.noted.handed k.unswept.noted } }) (sym closed.same_replies)
      ∙ ap (λ (ys : List (List (Option ℕ))). record still { replies = record s.replies { waiting = joined closed.replies closed.unswept.replies }; noted = record s.noted { handed = ys } }) (sym closed.same_noted)

  walk : (o : OutboxState) → IsFound i o → (acts : List Action) → length acts + length (stops_in r item) ≤ s.room → (rest : List Effect) → is_led rest ≡ true
      → on_effects true (effects_by i r item ++ rest) (walk_at o s acts xs None r.both.box.sent) ≡ on_effects false rest (walk_at o still (acts ++ stops_in r item) ended' None (side_behind i r item).both.box.sent)
  walk o limits acts room rest led =
      ap (λ fs'. on_effects true (fs' ++ rest) (walk_at o s acts xs None r.both.box.sent)) effects_are
      ∙ ap (λ w. on_effects false ((leave_effects cs ++ (empty_effects bs ++ last)) ++ rest) w) begins
      ∙ ap (λ fs'. on_effects false fs' (walk_in o s acts xs None None (Some by) r.both.box.sent))
      (append_assoc (leave_effects cs) (empty_effects bs ++ last) rest ∙ ap (λ fs'. leave_effects cs ++ fs') (append_assoc (empty_effects bs) last rest))
      ∙ leaves_on i names notes s r None xs k item a cs None by v fs zs fit leaves distinct sound leaves_by each s.held s.functions o acts room (empty_effects bs ++ (last ++ rest))
      ∙ (emptied i names notes s r None xs k AtArrival a None s.held s.functions begun cs bs (Logout tag 0) closing ends held_there apart wired known ps pairs).walk gone (xs ++ ended_by names r cs) o (acts ++ stops_in r item) (Some by) r.both.box.sent (last ++ rest)
      ∙ ap (λ w. on_effects false ((close_effects closing ends ++ enables ns) ++ rest) w) (sends_nothing (place_of o cid))
      ∙ ap (λ fs'. on_effects false fs' after_send) (append_assoc (close_effects closing ends) (enables ns) rest)
      ∙ close_walk o (cids i) limits.many sE (acts ++ stops_in r item) ((xs ++ ended_by names r cs) ++ places) None (Some by) (r.both.box.sent + 1) closing ends
      (subst (λ (qs : List ℕ). EachOf (λ p. p < length s.functions.waiting) qs) (sym (same_places i names notes s r None xs k item fit distinct sound closing ends o limits)) within_each) (enables ns ++ rest)
      ∙ ap (λ (qs : List ℕ). on_effects false (enables ns ++ rest) (walk_in o (record sE { functions = functions_off qs s.functions }) (acts ++ stops_in r item) (((xs ++ ended_by names r cs) ++ places) ++ places_off qs s.functions) None None (Some by) (r.both.box.sent + 1))) (same_places i names notes s r None xs k item fit distinct sound closing ends o limits)
      ∙ enables_past ns rest after_close
      ∙ led_end rest led after_close
      ∙ ap (λ n. on_effects false rest (walk_at o (record sE { functions = fs }) (acts ++ stops_in r item) ended' None n)) (ap (λ n. n + 1) (sym same_sent) ∙ sym unanswered.sent)
    where
      gone : Commands
      gone = record s.commands { items = map (gone_by cs) s.commands.items }

      last : List Effect
      last = Send cid sn (Logout tag 0) ∷ (close_effects closing ends ++ enables ns)

      begins : on_effect true (start_effect AtArrival a.request) (walk_at o s acts xs None r.both.box.sent) ≡ walk_in o s acts xs None None (Some by) r.both.box.sent
      begins = refl

      sE : State
      sE = record s { held = v; functions = s.functions; commands = gone }

      before_send : Walk
      before_send = walk_in o sE (acts ++ stops_in r item) ((xs ++ ended_by names r cs) ++ places) None None (Some by) r.both.box.sent

      after_send : Walk
      after_send = walk_in o sE (acts ++ stops_in r item) ((xs ++ ended_by names r cs) ++ places) None None (Some by) (r.both.box.sent + 1)

      after_close : Walk
      after_close = walk_in o (record sE { functions = fs }) (acts ++ stops_in r item) ended' None None (Some by) (r.both.box.sent + 1)

      -- it has no request, so nothing waits for it
      nowhere : (x : Option ℕ) → send_as x None before_send ≡ before_send
      nowhere None = refl
      nowhere (Some p) = refl

      sends_nothing : (x : Option ℕ) → record (send_as x None before_send) { sent = (r.both.box.sent + 1) % 2 ^ 64 } ≡ after_send
      sends_nothing x = ap (λ (w : Walk). record w { sent = (r.both.box.sent + 1) % 2 ^ 64 }) (nowhere x) ∙ ap (λ n. record before_send { sent = n }) (let same : (r.both.box.sent + 1) % 2 ^ 64 ≡ r.both.box.sent + 1 = omega (arith, small) in same)

  pub goes_lost : LostGoes i names notes k.unswept s r xs (parted_item AtArrival a cs bs (Logout tag 0) closing ends)
  unfolding between
  goes_lost = record {
    state = state';
    ended = ended';
    between = between;
    outbox = refl;
    room = refl;
    few =
        let few = few2 i names notes s r None xs k item a cs None by v fs zs fit leaves distinct sound leaves_by each in
        let lives = few.0 in
        let fewer = leaves_by.out.fewer in
        record {
          lives = omega (arith, lives, fewer, length-append xs zs, length-append places waits, length-append ((xs ++ ended_by names r cs) ++ places) waits, length-append (xs ++ ended_by names r cs) places);
          going = few.1;
        };
    still = still;
    put = put;
    still_replies = refl;
    still_noted = refl;
    waits = closed.count_replies;
    notes_kept = closed.count_noted;
    touched = λ o found p. ⊎_elim (λ same. inl same) (λ among. inr (subst (λ (fs' : List Effect). In p (flat_map (touched_in o) fs')) (sym effects_are)
        (parted_touched o (cids i) found.many sn AtArrival a cs bs (Logout tag 0) closing ends ns p (subst (In p) (sym (same_places i names notes s r None xs k item fit distinct sound closing ends o found)) among)))) (closed.touched p);
    walk = λ o limits acts room rest led. walk o limits acts room rest led;
  }
