-- From the end of what a call does to its end.
use Rattle.std.proofs.Common.{◌≡◌, ℕ, ◌+◌, ◌*◌, ◌≤◌, ◌==◌, ◌&&◌, not, cond, Bool, true, false, List, [], ◌++◌, length, map, count_by, filter, Option, refl, ap, sym, subst, ◌∙◌, arith, length-append, None, lt-ltb}
use Rattle.std.specs.List.{list_any}
use Rattle.std.proofs.lemmas.List.{length-map}
use Rattle.std.proofs.lemmas.List.Elements.{filter_agree}
use Rattle.std.proofs.lemmas.List.Sums.{sum_by-append}
use Rattle.iscsi_rules.proofs.general.BoolLemmas.{and_parts}
use Rattle.iscsi_rules.proofs.general.ListLemmas.{count_by-map, filter-shorter}
use Rattle.iscsi_rules.specs.rules.Settings.{are_distinct}
use Rattle.iscsi_rules.specs.rules.Trace.{waiting}
use Rattle.iscsi_outbox_rules.specs.rules.Words.{contains, is_running}
use Rattle.iscsi_outbox_rules.specs.rules.Boxes.{Answer, Link}
use Rattle.iscsi_outbox_rules.specs.rules.Handing as box
use Rattle.iscsi_outbox_rules.specs.rules.Queues.{takes_more}
use Rattle.iscsi_outbox_law.specs.rules.Room.{AreFew}
use Rattle.iscsi_outbox_law.specs.private.Commands.{is_under_way}
use Rattle.iscsi_outbox_law.specs.private.Sound.{IsAnswerSound, IsSound}
use Rattle.iscsi_outbox_law.specs.private.Stands.{Stands as OutboxStands}
use Rattle.iscsi_outbox_law.proofs.general.PairLemmas.{each-append, each-new, each-weaken}
use Rattle.iscsi_outbox_law.proofs.general.PlaceLemmas.{AreApart as LinksApart, conns_of}
use Rattle.iscsi_outbox_law.proofs.connections.Standing.{links_apart}
use Rattle.iscsi_outbox_law.proofs.commands.Stops.{stops_answered}
use Rattle.iscsi_outbox_law.proofs.sending.Giving.{gives_answered}
use Rattle.iscsi_outbox_steps.specs.State.{Limits}
use Rattle.iscsi_outbox_steps.specs.Steps.{is_running_ticket}
use Rattle.iscsi_requests.specs.Cookies.{Cookies}
use Rattle.iscsi_requests.specs.Numbers.{size_for}
use Rattle.iscsi_ffi_rules.specs.declared.action.Action.{Action}
use Rattle.iscsi_ffi_rules.specs.declared.action.Action.TheVariants.{Ready, Close, Forget}
use Rattle.iscsi_ffi_rules.specs.promises.Words.{is_forget}
use Rattle.iscsi_ffi_rules.specs.rules.Calls.{Interface}
use Rattle.iscsi_ffi_rules.specs.rules.Happening.{Told}
use Rattle.iscsi_ffi_rules.specs.rules.Needs.{is_needed}
use Rattle.iscsi_ffi_rules.specs.rules.Run as rules
use Rattle.iscsi_ffi_rules.specs.rules.Run.{cids, newly_over, newly_ready, parted_handed, parted_waiting}
use Rattle.iscsi_ffi_rules.specs.rules.Clearing.{next_withheld}
use Rattle.iscsi_ffi_rules.specs.rules.Sides.{Asked, Noted, Side}
use Rattle.iscsi_ffi_rules.proofs.WordTheorem.{ended_counted}
use Rattle.iscsi_ffi_steps.specs.State.{State}
use Rattle.iscsi_ffi_steps.specs.Steps.{Going, after, close_each, ended, gives, gives_no_more, tell_each, told}
use Rattle.iscsi_ffi_steps.specs.Walk.{Doing}
use Rattle.iscsi_ffi_law.specs.Alike.{AreForgets, SameForgets, TellAlike, is_any_forget}
use Rattle.iscsi_ffi_law.specs.Names.{Name, Note, asked_of}
use Rattle.iscsi_ffi_law.specs.Parts.{AreFunctions, AreHeld}
use Rattle.iscsi_ffi_law.specs.Uses.{uses_of}
use Rattle.iscsi_ffi_law.specs.Stands.{AreCounts, AreFlags, AreRequests, AreSizes, Stands}
use Rattle.iscsi_ffi_law.proofs.calls.Ended.{IsReleased, left_of, requests_left, side_left}
use Rattle.iscsi_ffi_law.proofs.own_pdus.Flags.{is_used_place}
use Rattle.iscsi_ffi_law.proofs.requests.Kept.{count_nothing}
use Rattle.iscsi_ffi_law.proofs.general.Members.{Passing, any_in, in_any, map_in}
use Rattle.iscsi_ffi_law.proofs.own_pdus.NotePlaces.{noted_counted}
use Rattle.iscsi_ffi_law.proofs.requests.Replies.{HaveConns}
use Rattle.iscsi_ffi_law.proofs.arrivals.Slots.{functions_used, slots_used}
use Rattle.iscsi_ffi_law.proofs.calls.Telling.{flags_after, gives_alike, gives_to, is_over_to, over_alike, told_over, told_ready}
use Rattle.iscsi_ffi_law.proofs.general.Words.{words_kept}

-- what is found as a call ends
pub record IsAtEnd (i : Interface) (names : List Name) (notes : List Note) (pending : ℕ → ℕ) (gone : ℕ → List (Option ℕ)) (s : State) (r : Side) : Type 0 where
  pub outbox : OutboxStands i.outbox s.outbox r.both.box
  pub sound : IsSound i.outbox r.both.box
  pub few : AreFew r.both.box
  pub distinct : are_distinct i.outbox.session.conns ≡ true
  pub sizes : AreSizes i s
  pub flags : AreFlags i s r
  pub counts : AreCounts i s r
  pub requests : AreRequests names notes pending gone s r
  pub slots : AreHeld (size_for i.outbox.session.window) s.commands.room names s.held r.both.trace
  pub functions : AreFunctions (cids i) names s.functions (waiting r.both.trace)
  pub withheld : s.withheld ≡ []
  pub calm : next_withheld r ≡ None

any_first : {A : Type 0} (p q : A → Bool) (xs : List A) → list_any (λ x. p x && q x) xs ≡ true → list_any p xs ≡ true
any_first p q xs h = let x : Passing (λ x. p x && q x) xs = any_in (λ x. p x && q x) xs h in in_any p xs x.x x.there (and_parts (p x.x) (q x.x) x.passes).0

-- each connection of the rules has its place
pub as_many_links : (i : Interface) (s : State) (r : Side) → OutboxStands i.outbox s.outbox r.both.box → length r.both.box.links ≡ length (cids i)
as_many_links i s r h =
    sym (length-map r.both.box.links (λ (l : Link). l.conn)) ∙ ap length (h.links.conns ∙ ap (λ (l : Limits). l.cids) h.sizes.limits)

module _ (i : Interface) (names : List Name) (notes : List Note) (pending : ℕ → ℕ) (gone : ℕ → List (Option ℕ)) (s : State) (r : Side) (e : IsAtEnd i names notes pending gone s r) where
  pub have_conns : HaveConns names notes gone s r
  have_conns =
      let many = as_many_links i s r e.outbox in
      record {
        apart = e.requests.apart;
        tickets = e.requests.tickets;
        conns = e.requests.conns;
        undue = e.requests.undue;
        taken = each-weaken (IsAnswerSound r.both.box) (λ (a : Answer). list_any (λ (l : Link). l.conn == a.conn) r.both.box.links ≡ true) r.both.box.undue
            (λ a k. any_first (λ (l : Link). l.conn == a.conn) takes_more r.both.box.links k.taken) e.sound.undue;
        replies = e.sizes.replies ∙ sym many;
        noted = e.sizes.noted ∙ sym many;
        unwritten = e.sizes.unwritten ∙ sym many;
      }

  pub links_are_apart : LinksApart (conns_of r.both.box.links)
  links_are_apart = links_apart (is_under_way i.outbox r.both.box.links) i.outbox s.outbox r.both.box e.outbox e.distinct

  pub runs_alike : (ticket : ℕ) → is_running_ticket ticket s.outbox ≡ is_running r.both.box ticket
  runs_alike ticket = stops_answered i.outbox s.outbox r.both.box e.outbox e.sound e.distinct ticket

  -- ---- readiness

  gives_same : (cid : ℕ) → gives_to s cid ≡ rules.gives i r cid
  gives_same cid = ap gives (gives_answered i.outbox s.outbox r.both.box e.outbox e.sound e.distinct e.few cid) ∙ gives_alike (box.given i.outbox r.both.box cid)

  over_same : (cid : ℕ) → is_over_to s cid ≡ rules.is_over i r cid
  over_same cid = ap gives_no_more (gives_answered i.outbox s.outbox r.both.box e.outbox e.sound e.distinct e.few cid) ∙ over_alike (box.given i.outbox r.both.box cid)

  ready_same : filter (λ cid. gives_to s cid && not (contains r.awake cid)) (cids i) ≡ newly_ready i r
  ready_same = filter_agree (λ cid. gives_to s cid && not (contains r.awake cid)) (λ cid. rules.gives i r cid && not (contains r.awake cid)) (λ cid. ap (λ v. v && not (contains r.awake cid)) (gives_same cid)) (cids i)

  closed_same : filter (λ cid. is_over_to s cid && not (contains r.over cid)) (cids i) ≡ newly_over i r
  closed_same = filter_agree (λ cid. is_over_to s cid && not (contains r.over cid)) (λ cid. rules.is_over i r cid && not (contains r.over cid)) (λ cid. ap (λ v. v && not (contains r.over cid)) (over_same cid)) (cids i)

  -- ---- the end of a call

  module _ (v : Cookies) (forgets acts : List Action) (rel : IsReleased s v forgets) (short : length acts + 2 * length (cids i) ≤ s.room) where
    awake' : List Bool
    awake' = map (contains (r.awake ++ newly_ready i r)) (cids i)

    over' : List Bool
    over' = map (contains (r.over ++ newly_over i r)) (cids i)

    told' : List Action
    told' = (acts ++ map (λ cid. Ready cid) (newly_ready i r)) ++ map (λ cid. Close cid) (newly_over i r)

    abbrev at_last : Doing
    at_last = record {
      state = left_of s v (map (contains (r.awake ++ newly_ready i r)) (cids i)) (map (contains (r.over ++ newly_over i r)) (cids i));
      actions = (acts ++ map (λ cid. Ready cid) (newly_ready i r)) ++ map (λ cid. Close cid) (newly_over i r);
      forgets = forgets;
    }

    abbrev at_first : Doing
    at_first = record { state = left_of s v s.awake s.over; actions = acts; forgets = forgets }

    made_ready : tell_each 0 (cids i) at_first ≡ record { state = left_of s v (map (contains (r.awake ++ newly_ready i r)) (cids i)) s.over; actions = acts ++ map (λ cid. Ready cid) (newly_ready i r); forgets = forgets }
    made_ready =
        told_ready (left_of s v s.awake s.over) forgets r.awake (cids i) acts e.flags.awake (omega (arith, short))
        ∙ ap (λ bs. at bs (acts ++ map (λ cid. Ready cid) (filter (λ cid. gives_to s cid && not (contains r.awake cid)) (cids i))))
        (flags_after (gives_to s) r.awake (cids i) ∙ ap (λ ns. map (contains (r.awake ++ ns)) (cids i)) ready_same)
        ∙ ap (λ ns. at (map (contains (r.awake ++ newly_ready i r)) (cids i)) (acts ++ map (λ cid. Ready cid) ns)) ready_same
      where
        at : List Bool → List Action → Doing
        at bs xs = record { state = left_of s v bs s.over; actions = xs; forgets = forgets }

    few_ready : length (acts ++ map (λ cid. Ready cid) (newly_ready i r)) + length (cids i) ≤ s.room
    few_ready =
        let all = length-append acts (map (λ cid. Ready cid) (newly_ready i r)) in
        let mapped = length-map (newly_ready i r) (λ cid. Ready cid) in
        let fewer = filter-shorter (λ conn. rules.gives i r conn && not (contains r.awake conn)) (cids i) in
        omega (arith, all, mapped, fewer, short)

    made_over : close_each 0 (cids i) (tell_each 0 (cids i) at_first) ≡ at_last
    made_over =
        ap (close_each 0 (cids i)) made_ready
        ∙ told_over (left_of s v (map (contains (r.awake ++ newly_ready i r)) (cids i)) s.over) forgets r.over (cids i) (acts ++ map (λ cid. Ready cid) (newly_ready i r)) e.flags.over few_ready
        ∙ ap (λ bs. at bs ((acts ++ map (λ cid. Ready cid) (newly_ready i r)) ++ map (λ cid. Close cid) (filter (λ cid. is_over_to s cid && not (contains r.over cid)) (cids i))))
        (flags_after (is_over_to s) r.over (cids i) ∙ ap (λ ns. map (contains (r.over ++ ns)) (cids i)) closed_same)
        ∙ ap (λ ns. at (map (contains (r.over ++ newly_over i r)) (cids i)) ((acts ++ map (λ cid. Ready cid) (newly_ready i r)) ++ map (λ cid. Close cid) ns)) closed_same
      where
        at : List Bool → List Action → Doing
        at bs xs = record { state = left_of s v (map (contains (r.awake ++ newly_ready i r)) (cids i)) bs; actions = xs; forgets = forgets }

    cids_same : s.outbox.limits.cids ≡ cids i
    cids_same = ap (λ (l : Limits). l.cids) e.outbox.sizes.limits

    end_is : (let cs = s.outbox.limits.cids in close_each 0 cs (tell_each 0 cs at_first)) ≡ at_last
    end_is = ap (λ cs. close_each 0 cs (tell_each 0 cs at_first)) cids_same ∙ made_over

    -- ---- what is forgotten

    abbrev asked_gone : List Action
    asked_gone = map (λ (a : Asked). Forget a.cookie) (filter (λ (a : Asked). not (is_needed r a)) r.asked)

    abbrev noted_gone : List Action
    noted_gone = map (λ (n : Noted). Forget n.cookie) ((parted_waiting r).needless ++ (parted_handed r).needless)

    forgets_are : AreForgets (asked_gone ++ noted_gone)
    forgets_are =
        each-append (λ a. is_any_forget a ≡ true) asked_gone noted_gone
        (each-new (λ a. is_any_forget a ≡ true) (λ (a : Asked). Forget a.cookie) (filter (λ (a : Asked). not (is_needed r a)) r.asked) (λ a. refl))
        (each-new (λ a. is_any_forget a ≡ true) (λ (n : Noted). Forget n.cookie) ((parted_waiting r).needless ++ (parted_handed r).needless) (λ n. refl))

    none_forgotten : (word : ℕ) (f : ℕ → Action) (cs : List ℕ) → ((cid : ℕ) → is_forget word (f cid) ≡ false) → count_by (is_forget word) (map f cs) ≡ 0
    none_forgotten word f cs none = count_nothing (is_forget word) (map f cs) (λ a there. let c = map_in f cs a there in ap (is_forget word) (sym c.2) ∙ none c.0)

    abbrev w : Told
    w = record { side = r; actions = acts }

    same_forgets : SameForgets forgets (asked_gone ++ noted_gone)
    same_forgets word =
        let rules_kept = ended_counted word i w in
        let before = words_kept names notes s.cookies e.requests.kept (λ place cookie. cookie == word) in
        let left = requests_left names notes pending gone s r e.requests have_conns links_are_apart runs_alike v forgets rel s.awake s.over (r.awake ++ newly_ready i r) (r.over ++ newly_over i r) in
        let after' = words_kept (filter (λ (n : Name). is_used_place s n.place) names) (filter (λ (n : Note). is_used_place s n.place) notes) v left.kept (λ place cookie. cookie == word) in
        let asked_before : count_by (λ (a : Asked). a.cookie == word) r.asked ≡ count_by (λ (n : Name). n.cookie == word) names = ap (count_by (λ (a : Asked). a.cookie == word)) (sym e.requests.asked) ∙ count_by-map (λ (a : Asked). a.cookie == word) asked_of names in
        let noted_before = noted_counted (λ (n : Noted). n.cookie == word) notes r.noted r.handed_notes e.requests.noted in
        let asked_after : count_by (λ (a : Asked). a.cookie == word) (filter (is_needed r) r.asked) ≡ count_by (λ (n : Name). n.cookie == word) (filter (λ (n : Name). is_used_place s n.place) names)
        = ap (count_by (λ (a : Asked). a.cookie == word)) (sym left.asked) ∙ count_by-map (λ (a : Asked). a.cookie == word) asked_of (filter (λ (n : Name). is_used_place s n.place) names) in
        let noted_after = noted_counted (λ (n : Noted). n.cookie == word) (filter (λ (n : Note). is_used_place s n.place) notes) (parted_waiting r).needed (parted_handed r).needed left.noted in
        let told1 : count_by (is_forget word) (((acts ++ map (λ cid. Ready cid) (newly_ready i r)) ++ map (λ cid. Close cid) (newly_over i r)) ++ (asked_gone ++ noted_gone)) ≡ count_by (is_forget word) acts + 0 + 0 + count_by (is_forget word) (asked_gone ++ noted_gone)
        = by_parts word in
        omega (arith, rules_kept, before, after', asked_before, noted_before, asked_after, noted_after, told1, rel.words word)
      where
        by_parts : (word : ℕ) → count_by (is_forget word) (((acts ++ map (λ cid. Ready cid) (newly_ready i r)) ++ map (λ cid. Close cid) (newly_over i r)) ++ (asked_gone ++ noted_gone)) ≡ count_by (is_forget word) acts + 0 + 0 + count_by (is_forget word) (asked_gone ++ noted_gone)
        by_parts word = omega (
          arith,
          sum_by-append (λ (a : Action). cond (is_forget word a) 1 0) ((acts ++ map (λ cid. Ready cid) (newly_ready i r)) ++ map (λ cid. Close cid) (newly_over i r)) (asked_gone ++ noted_gone),
          sum_by-append (λ (a : Action). cond (is_forget word a) 1 0) (acts ++ map (λ cid. Ready cid) (newly_ready i r)) (map (λ cid. Close cid) (newly_over i r)),
          sum_by-append (λ (a : Action). cond (is_forget word a) 1 0) acts (map (λ cid. Ready cid) (newly_ready i r)),
          none_forgotten word (λ cid. Ready cid) (newly_ready i r) (λ cid. refl),
          none_forgotten word (λ cid. Close cid) (newly_over i r) (λ cid. refl),
        )

    -- ---- all of it

    module _ (g : Going) (doing : g.doing ≡ record { state = left_of s v s.awake s.over; actions = acts; forgets = forgets }) (event : g.event ≡ r.both.event) (trace : g.trace ≡ r.both.trace) where
      doing_ended : (ended g).doing ≡ at_last
      doing_ended = ap (λ (d : Doing). let cs = d.state.outbox.limits.cids in close_each 0 cs (tell_each 0 cs d)) doing ∙ end_is

      pub tells_alike : TellAlike (told (ended g)) (rules.ended i (record { side = r; actions = acts })).actions
      tells_alike = record {
        before = (acts ++ map (λ cid. Ready cid) (newly_ready i r)) ++ map (λ cid. Close cid) (newly_over i r);
        forgets = forgets;
        forgets_by_rules = asked_gone ++ noted_gone;
        steps = ap (λ (d : Doing). d.actions ++ d.forgets) doing_ended;
        rules = refl;
        are = rel.are;
        are_by_rules = forgets_are;
        same = same_forgets;
      }

      pub stands_ended : Stands i (after (ended g)) (rules.ended i (record { side = r; actions = acts })).side
      stands_ended = subst (λ (d : Doing). Stands i (record { event = g.event; trace = g.trace; state = d.state }) (side_left names notes pending gone s r e.requests have_conns links_are_apart runs_alike (r.awake ++ newly_ready i r) (r.over ++ newly_over i r))) (sym doing_ended) (record {
        names = filter (λ (n : Name). is_used_place s n.place) names;
        notes = filter (λ (n : Note). is_used_place s n.place) notes;
        event = event;
        trace = trace;
        outbox = e.outbox;
        sizes = record { room = e.sizes.room; functions = e.sizes.functions; replies = e.sizes.replies; noted = e.sizes.noted; unwritten = e.sizes.unwritten; noted_room = e.sizes.noted_room; unwritten_room = e.sizes.unwritten_room; replies_room = e.sizes.replies_room; slots = e.sizes.slots; few = e.sizes.few };
        flags = record { awake = refl; over = refl };
        requests = requests_left names notes pending gone s r e.requests have_conns links_are_apart runs_alike v forgets rel (map (contains (r.awake ++ newly_ready i r)) (cids i)) (map (contains (r.over ++ newly_over i r)) (cids i))
            (r.awake ++ newly_ready i r) (r.over ++ newly_over i r);
        counts = record { units = e.counts.units; last = e.counts.last; tracked = e.counts.tracked };
        slots = slots_used (size_for i.outbox.session.window) s.commands.room names notes e.requests.apart s.held r.both.trace e.slots (is_used_place s) (λ p some. lt-ltb 0 (uses_of p s) (omega (arith, some))) e.sizes.slots;
        functions = functions_used (cids i) names notes e.requests.apart s.functions (waiting r.both.trace) e.functions (is_used_place s) (λ p some. lt-ltb 0 (uses_of p s) (omega (arith, some)));
        withheld = e.withheld;
        calm = e.calm;
      })
