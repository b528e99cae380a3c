-- An event goes by the steps as by the rules, with those that are withheld then.
use Rattle.std.proofs.Common.{◌≡◌, ℕ, ◌+◌, ◌≤◌, ◌==◌, ◌&&◌, ◌||◌, Bool, count_by, inl, inr, not, cond, true, false, List, [], ◌∷◌, ◌++◌, length, map, filter, filter_map, Option, Some, None, refl, ap, sym, subst, ◌∙◌, arith, lt-ltb, eq-eqb, length-append}
use Rattle.std.specs.List.{flat_map}
use Rattle.std.proofs.lemmas.Bool.{eqb-true, false≢true}
use Rattle.std.proofs.lemmas.List.{length-map}
use Rattle.iscsi_rules.specs.declared.event.Event.{Event}
use Rattle.iscsi_rules.specs.rules.Agenda.{items_of}
use Rattle.iscsi_rules.specs.rules.Run.{entry_of}
use Rattle.iscsi_rules.specs.rules.Trace.{was_free, Command as RulesCommand, Mark, Trace, after_items, entered, has, leaves_ticket, live}
use Rattle.iscsi_rules.proofs.general.CountLemmas.{one, count-cons}
use Rattle.iscsi_rules.proofs.general.ListLemmas.{filter-shorter}
use Rattle.iscsi_outbox_rules.specs.rules.Words.{contains}
use Rattle.iscsi_outbox_law.specs.private.Pairs.{PairsOf}
use Rattle.iscsi_outbox_steps.specs.Steps.{is_running_ticket}
use Rattle.iscsi_ffi_commands.specs.declared.command.Command.{Command}
use Rattle.iscsi_ffi_commands.specs.Commands.{is_live}
use Rattle.iscsi_rules.proofs.general.ElementLemmas.{In, filter-in, in-filter}
use Rattle.iscsi_outbox_law.specs.private.Stands.{Stands as OutboxStands}
use Rattle.iscsi_ffi_rules.specs.declared.action.Action.{Action}
use Rattle.iscsi_ffi_rules.specs.rules.Calls.{Interface}
use Rattle.iscsi_ffi_rules.specs.rules.Clearing.{is_withheld, next_withheld}
use Rattle.iscsi_ffi_rules.specs.rules.Happening.{Told, happening as happening_there, happens as happens_there, live_with, start as start_there, stops_in, withheld, withholding as withholding_there}
use Rattle.iscsi_ffi_rules.specs.rules.Run as rules
use Rattle.iscsi_ffi_rules.specs.rules.Run.{cids}
use Rattle.iscsi_ffi_rules.specs.rules.Sides.{Side}
use Rattle.iscsi_ffi_steps.specs.State.{State}
use Rattle.iscsi_ffi_steps.specs.Steps.{Going, done, happening, happens, start_each, takes, withholding}
use Rattle.iscsi_ffi_steps.specs.Walk.{Doing}
use Rattle.iscsi_ffi_law.specs.Done.{AreDoneFit}
use Rattle.iscsi_ffi_law.specs.Parts.{IsCommand, is_named}
use Rattle.iscsi_ffi_law.specs.Uses.{is_used, uses_of}
use Rattle.iscsi_ffi_law.specs.Names.{Name, Note}
use Rattle.iscsi_ffi_law.specs.Stands.{AreRequests}
use Rattle.iscsi_ffi_law.proofs.items.Between.{IsBetween}
use Rattle.iscsi_ffi_law.proofs.general.Ascending.{all_more, all_up, filtered_up, same_list, times}
use Rattle.iscsi_ffi_law.proofs.arrivals.Asked.{find_nothing}
use Rattle.iscsi_ffi_law.proofs.commands.Commands.{one_command}
use Rattle.iscsi_ffi_law.proofs.completions.DoneChain.{chain}
use Rattle.iscsi_ffi_law.proofs.completions.DoneHeld.{held_of}
use Rattle.iscsi_ffi_law.proofs.completions.DoneMid.{IsMid, requests_held}
use Rattle.iscsi_ffi_law.proofs.completions.DoneShape.{tickets_of}
use Rattle.iscsi_ffi_law.proofs.calls.Ends.{EndsAlike, GoesTo}
use Rattle.iscsi_ffi_law.proofs.events.EventEnds.{AreBegun, IsEventOf, all_ended, between_n, d3, few_ended, few_reset, few_stopped, news_are, out', q, requests2, requests_started, resets, side2, side_e, side_n, stands', state2, stops, takes_is, tracked'}
use Rattle.iscsi_ffi_law.proofs.events.EventGoes.{outbox_first, parts}
use Rattle.iscsi_ffi_law.proofs.events.EventNews.{few_news, live_news, same_counts}
use Rattle.iscsi_ffi_law.proofs.events.EventRules.{all_enabled, news_of}
use Rattle.iscsi_ffi_law.proofs.own_pdus.Flags.{is_used_place}
use Rattle.iscsi_ffi_law.proofs.commands.HeldNews.{held_counts, told_free}
use Rattle.iscsi_ffi_law.proofs.items.ItemsGo.{FirstGo}
use Rattle.iscsi_ffi_law.proofs.resets.Marking.{named_first}
use Rattle.iscsi_ffi_law.proofs.general.Members.{find_in, in_counted, in_find}
use Rattle.iscsi_ffi_law.proofs.calls.Moved.{commands_known}
use Rattle.iscsi_ffi_law.proofs.requests.Releases.{all_released, endings, releases}
use Rattle.iscsi_ffi_law.proofs.requests.Releasing.{Released}
use Rattle.iscsi_ffi_law.proofs.events.Unswept.{none_unswept}
use Rattle.iscsi_ffi_law.proofs.commands.Starting.{Starts, all_inserted, starting_of, withheld_of}

-- the commands that are live are so on both sides
pub pairs_live : (names : List Name) (r : Side) (cs : List Command) (ds : List RulesCommand) → PairsOf (IsCommand names r) cs ds → length (filter (λ (d : RulesCommand). not (has (leaves_ticket d.ticket) r.both.trace)) ds) ≡ count_by is_live cs
pairs_live names r [] [] pairs = refl
pairs_live names r [] (d ∷ ds) pairs = absurd pairs
pairs_live names r (c ∷ cs) [] pairs = absurd pairs
pairs_live names r (c ∷ cs) (d ∷ ds) pairs = by_test (pairs_live names r cs ds pairs.1) (not (has (leaves_ticket d.ticket) r.both.trace)) refl
  where
    by_test : length (filter (λ (x : RulesCommand). not (has (leaves_ticket x.ticket) r.both.trace)) ds) ≡ count_by is_live cs → (v : Bool) → not (has (leaves_ticket d.ticket) r.both.trace) ≡ v
        → length (cond v (d ∷ filter (λ (x : RulesCommand). not (has (leaves_ticket x.ticket) r.both.trace)) ds) (filter (λ (x : RulesCommand). not (has (leaves_ticket x.ticket) r.both.trace)) ds)) ≡ count_by is_live (c ∷ cs)
    by_test rest true is = let here : one (is_live c) ≡ 1 = ap one (pairs.0.live ∙ is) in omega (arith, rest, here, count-cons is_live c cs)
    by_test rest false is = let here : one (is_live c) ≡ 0 = ap one (pairs.0.live ∙ is) in omega (arith, rest, here, count-cons is_live c cs)

live_kept : (keep : Command → Bool) (cs : List Command) → ((c : Command) → In c cs → is_live c ≡ true → keep c ≡ true) → count_by is_live cs ≤ length (filter keep cs)
live_kept keep [] kept = omega arith
live_kept keep (c ∷ cs) kept = by_tests (live_kept keep cs (λ x there. kept x (inr there))) (is_live c) refl (keep c) refl
  where
    by_tests : count_by is_live cs ≤ length (filter keep cs) → (v : Bool) → is_live c ≡ v → (w : Bool) → keep c ≡ w → count_by is_live (c ∷ cs) ≤ length (cond w (c ∷ filter keep cs) (filter keep cs))
    by_tests rest true is true is' = let here : one (is_live c) ≡ 1 = ap one is in omega (arith, rest, here, count-cons is_live c cs)
    by_tests rest true is false is' = absurd (false≢true (sym is' ∙ kept c (inl refl) is))
    by_tests rest false is true is' = let here : one (is_live c) ≡ 0 = ap one is in omega (arith, rest, here, count-cons is_live c cs)
    by_tests rest false is false is' = let here : one (is_live c) ≡ 0 = ap one is in omega (arith, rest, here, count-cons is_live c cs)

module _ (i : Interface) (names : List Name) (notes : List Note) (s : State) (r : Side) (own : Option ℕ) (before : List (Option ℕ)) (e : Event) (fit : IsEventOf i r e) (first : AreBegun i s r before) (k : OutboxStands i.outbox s.outbox r.both.box)
    (go : FirstGo i names notes (none_unswept s) (record s { outbox = outbox_first i r e (parts i r e).lead s.outbox }) r own before (items_of i.outbox.session r.both.event r.both.trace e))
    (calm : next_withheld r ≡ None)
    (fits : let w = happening_there i r e in AreDoneFit i (length (live w.side.both.trace)) w) where
  -- what it enabled, and of that what is live
  abbrev all_news : List RulesCommand
  all_news = news_of i.outbox.session r.both.trace (items_of i.outbox.session r.both.event r.both.trace e)

  abbrev news : List RulesCommand
  news = live_news i.outbox.session r.both.trace (items_of i.outbox.session r.both.event r.both.trace e)

  abbrev two : Side
  two = side2 i names notes s r own before e fit first k go

  abbrev t2 : Trace
  t2 = after_items (items_of i.outbox.session r.both.event r.both.trace e) r.both.trace

  abbrev marks : List (List Mark)
  marks = items_of i.outbox.session r.both.event r.both.trace e

  abbrev told : List Action
  told = (stops i names notes s r own before e fit first k go ++ resets i names notes s r own before e fit first k go) ++ map (start_there two) (starting_of two news)

  -- the uses that have ended
  abbrev ended : List (Option ℕ)
  ended = all_ended i names notes s r own before e fit first k go

  -- ---- the rules

  found_live : (x : RulesCommand) → In x news → live_with t2 x.ticket ≡ Some x
  found_live x at =
      let n = news_are i names notes s r own before e fit first k go x at in
      let there = filter-in (λ (d : RulesCommand). not (has (leaves_ticket d.ticket) t2)) (entered t2) x n.0 (ap not n.1) in
      let y = in_find (λ (d : RulesCommand). d.ticket == x.ticket) (live t2) x there (eq-eqb x.ticket x.ticket refl) in
      let found = find_in (λ (d : RulesCommand). d.ticket == x.ticket) (live t2) y.0 y.1 in
      let g = in-filter (λ (d : RulesCommand). not (has (leaves_ticket d.ticket) t2)) (entered t2) y.0 found.0 in
      let same : y.0 ≡ x = one_command (entered t2) y.0 x (requests2 i names notes s r own before e fit first k go).tickets g.0 n.0 (eqb-true y.0.ticket x.ticket found.1) in
      y.1 ∙ ap (λ (d : RulesCommand). Some d) same

  -- one that left isn't found
  none_found : (k : ℕ) → has (leaves_ticket k) t2 ≡ true → live_with t2 k ≡ None
  none_found k left = find_nothing (λ (d : RulesCommand). d.ticket == k) (live t2) (λ d there. by_test d there (d.ticket == k) refl)
    where
      by_test : (d : RulesCommand) → In d (live t2) → (v : Bool) → (d.ticket == k) ≡ v → v ≡ false
      by_test d there false is = refl
      by_test d there true is = absurd (false≢true (ap not (sym (ap (λ n. has (leaves_ticket n) t2) (eqb-true d.ticket k is) ∙ left)) ∙ (in-filter (λ (x : RulesCommand). not (has (leaves_ticket x.ticket) t2)) (entered t2) d there).1))

  all_found : (ms : List RulesCommand) → ((x : RulesCommand) → In x ms → has (leaves_ticket x.ticket) t2 ≡ false → live_with t2 x.ticket ≡ Some x) → filter_map (live_with t2) (tickets_of ms) ≡ filter (λ (x : RulesCommand). not (has (leaves_ticket x.ticket) t2)) ms
  all_found [] each = refl
  all_found (m ∷ ms) each = by_left (has (leaves_ticket m.ticket) t2) refl (all_found ms (λ x at. each x (inr at)))
    where
      add : Option RulesCommand → List RulesCommand → List RulesCommand
      add None xs = xs
      add (Some x) xs = x ∷ xs

      others : List RulesCommand
      others = filter (λ (x : RulesCommand). not (has (leaves_ticket x.ticket) t2)) ms

      by_left : (v : Bool) → has (leaves_ticket m.ticket) t2 ≡ v → filter_map (live_with t2) (tickets_of ms) ≡ others → filter_map (live_with t2) (tickets_of (m ∷ ms)) ≡ cond (not (has (leaves_ticket m.ticket) t2)) (m ∷ others) others
      by_left true is rest = ap (λ x. add x (filter_map (live_with t2) (tickets_of ms))) (none_found m.ticket is) ∙ rest ∙ ap (λ v. cond (not v) (m ∷ others) others) (sym is)
      by_left false is rest = ap (λ x. add x (filter_map (live_with t2) (tickets_of ms))) (each m (inl refl) is) ∙ ap (λ xs. m ∷ xs) rest ∙ ap (λ v. cond (not v) (m ∷ others) others) (sym is)

  abbrev side3 : Side
  side3 = record two { told = r.told ++ tickets_of (starting_of two news) }

  rules_are : happening_there i r e ≡ record { side = side3; actions = told }
  rules_are =
      ap (λ ks. by_started (filter (λ x. not (is_withheld two x)) (filter_map (live_with t2) ks))) (all_enabled i.outbox.session r.both.trace marks)
      ∙ ap (λ xs. by_started (filter (λ x. not (is_withheld two x)) xs)) (all_found all_news (λ x at lives. found_live x (filter-in (λ (d : RulesCommand). not (has (leaves_ticket d.ticket) t2)) all_news x at (ap not lives))))
    where
      by_started : List RulesCommand → Told
      by_started xs = record { side = record two { told = r.told ++ map (λ (x : RulesCommand). x.ticket) xs }; actions = (flat_map (stops_in r) marks ++ resets i names notes s r own before e fit first k go) ++ map (start_there two) xs }

  -- ---- the steps

  abbrev start : Starts names two (out' i names notes s r own before e fit first k go) (state2 i names notes s r own before e fit first k go).commands.items news (d3 i names notes s r own before e fit first k go) (start_each (tickets_of news) (d3 i names notes s r own before e fit first k go))
  start = q i names notes s r own before e fit first k go

  abbrev last_state : State
  last_state = record (state2 i names notes s r own before e fit first k go) { commands = record go.state.commands { items = start.items }; withheld = all_inserted (tickets_of (withheld_of two news)) go.state.withheld }

  started_is : start_each (tickets_of news) (d3 i names notes s r own before e fit first k go) ≡ record { state = last_state; actions = told; forgets = [] }
  started_is = start.is

  abbrev going_then : Going
  going_then = record { event = r.both.event + 1; trace = t2; doing = releases ended (record { state = last_state; actions = told; forgets = [] }) }

  happening_to : happening i own e (record { event = r.both.event; trace = r.both.trace; doing = releases before (record { state = s; actions = []; forgets = [] }) }) ≡ going_then
  happening_to =
      ap (λ v. cond v next found) (lt-ltb r.both.event i.outbox.session.events fit.events)
      ∙ ap (λ (d : Doing). record { event = r.both.event + 1; trace = t2; doing = d }) (takes_is i names notes s r own before e fit first k go ∙ ap (releases ended) started_is)
    where
      found : Going
      found = record { event = r.both.event; trace = r.both.trace; doing = releases before (record { state = s; actions = []; forgets = [] }) }

      next : Going
      next = record { event = r.both.event + 1; trace = t2; doing = takes own (entry_of i.outbox.session r.both.event r.both.trace e) (releases before (record { state = s; actions = []; forgets = [] })) }

  -- ---- the end

  abbrev b : IsBetween i names notes go.state (side_n i names notes s r own before e fit first k go) None go.ended
  b = between_n i names notes s r own before e fit first k go

  requests3 : AreRequests names notes (endings ended) b.gone last_state side3
  requests3 = requests_held names notes (endings ended) b.gone (record (state2 i names notes s r own before e fit first k go) { commands = record go.state.commands { items = start.items } }) side3 (all_inserted (tickets_of (withheld_of two news)) go.state.withheld)
      (requests_started names notes (endings ended) b.gone (state2 i names notes s r own before e fit first k go) (side_e i names notes s r own before e fit first k go) (r.both.event + 1) (r.told ++ tickets_of (starting_of two news)) go.state.commands.items start.items
      (requests2 i names notes s r own before e fit first k go) refl start.have)

  room_ended : length ended ≤ last_state.room
  room_ended = few_ended i names notes s r own before e fit first k go

  -- those that are live, and were told to start before, were free
  told_before : (c : RulesCommand) → In c (entered t2) → has (leaves_ticket c.ticket) t2 ≡ false → contains r.told c.ticket ≡ was_free c r.both.trace
  told_before = told_free i marks r fit.untold (requests2 i names notes s r own before e fit first k go).tickets calm first.freed

  -- those that are withheld, in the order of their tickets
  held_news : (n : ℕ) → times n (tickets_of (withheld_of two news)) ≡ times n (tickets_of (held_of side3))
  held_news = held_counts (is_withheld two) r.told t2 news (same_counts i.outbox.session marks r.both.trace r.told (requests2 i names notes s r own before e fit first k go).tickets fit.regular.units told_before) (requests2 i names notes s r own before e fit first k go).tickets

  held_then : all_inserted (tickets_of (withheld_of two news)) go.state.withheld ≡ tickets_of (held_of side3)
  held_then =
      ap (all_inserted (tickets_of (withheld_of two news))) b.withheld
      ∙ same_list (all_inserted (tickets_of (withheld_of two news)) []) (tickets_of (held_of side3)) (all_up (tickets_of (withheld_of two news)) [] tt)
      (filtered_up (λ (c : RulesCommand). was_free c t2 && not (contains side3.told c.ticket)) (λ (c : RulesCommand). not (has (leaves_ticket c.ticket) t2)) (entered t2) fit.regular.ascending) (λ n. omega (arith, all_more n (tickets_of (withheld_of two news)) [], held_news n))

  mid : IsMid i names notes last_state side3 told (endings ended)
  mid = record {
    gone = b.gone;
    requests = requests3;
    outbox = stands' i names notes s r own before e fit first k go;
    sizes = record {
      room = b.sizes.room;
      functions = b.sizes.functions;
      replies = b.sizes.replies;
      noted = b.sizes.noted;
      unwritten = b.sizes.unwritten;
      noted_room = b.sizes.noted_room;
      unwritten_room = b.sizes.unwritten_room;
      replies_room = b.sizes.replies_room;
      slots = b.sizes.slots;
      few = b.sizes.few;
    };
    flags = record { awake = b.flags.awake; over = b.flags.over };
    counts = record { units = b.counts.units; last = b.counts.last; tracked = tracked' i names notes s r own before e fit first k go };
    regular = record { ascending = fit.regular.ascending; units = fit.regular.units };
    slots = b.slots;
    functions = b.functions;
    held = held_then;
    room =
        let stopped = few_stopped i names notes s r own before e fit first k go in
        let reset = few_reset i names notes s r own before e fit first k go in
        let first_two = length-append (stops i names notes s r own before e fit first k go) (resets i names notes s r own before e fit first k go) in
        let long = length-append (stops i names notes s r own before e fit first k go ++ resets i names notes s r own before e fit first k go) (map (start_there two) (starting_of two news)) in
        let mapped = length-map (starting_of two news) (start_there two) in
        let fewer = filter-shorter (λ (c : RulesCommand). not (is_withheld two c)) news in
        let started = few_news i.outbox.session marks r.both.trace r.told (requests2 i names notes s r own before e fit first k go).tickets fit.regular.units told_before in
        let all = fit.few in
        omega (arith, stopped, reset, first_two, long, mapped, fewer, started, all);
    sound = fit.fit.sound_after;
    few = fit.fit.short.handed;
  }

  -- there are as many commands left as are live
  as_many : length (live t2) ≤ length going_then.doing.state.commands.items
  as_many =
      let rel : Released last_state told (releases ended (record { state = last_state; actions = told; forgets = [] }))
      = all_released last_state told requests3.counted (commands_known names notes (endings ended) b.gone last_state side3 requests3) ended room_ended requests3.uses in
      let left = ap (λ (d : Doing). length d.state.commands.items) rel.is in
      let named = ap length (named_first names t2 (entered t2) requests3.live_named) in
      let lives = pairs_live names side3 start.items (filter (is_named names) (entered t2)) start.have.commands in
      let kept = live_kept (λ (c : Command). is_used_place last_state c.request) start.items used in
      omega (arith, left, named, lives, kept)
    where
      used : (c : Command) → In c start.items → is_live c ≡ true → is_used_place last_state c.request ≡ true
      used c there lives =
          let some : 1 ≤ count_by (λ (x : Command). x.request == c.request && is_used last_state.outbox x) start.items
          = in_counted (λ (x : Command). x.request == c.request && is_used last_state.outbox x) start.items c there (ap (λ v. v && is_used last_state.outbox c) (eq-eqb c.request c.request refl) ∙ ap (λ v. v || is_running_ticket c.ticket last_state.outbox) lives) in
          lt-ltb 0 (uses_of c.request last_state) (omega (arith, some))

  ends : EndsAlike i (withholding i (length going_then.doing.state.commands.items) going_then) (withholding_there i (length (live side3.both.trace)) (record { side = side3; actions = told })).side (withholding_there i (length (live side3.both.trace)) (record { side = side3; actions = told })).actions
  ends = chain i names notes fit.fit.distinct ended (length (live side3.both.trace)) (length going_then.doing.state.commands.items) last_state side3 told mid room_ended (omega arith) as_many
      (subst (λ (w : Told). AreDoneFit i (length (live w.side.both.trace)) w) rules_are fits)

  pub event_goes : GoesTo i (done (happens i own e (record { event = r.both.event; trace = r.both.trace; doing = releases before (record { state = s; actions = []; forgets = [] }) }))) (rules.done (happens_there i r e))
  event_goes =
      subst (λ (g : Going). GoesTo i (done (withholding i (length g.doing.state.commands.items) g)) (rules.done (happens_there i r e))) (sym happening_to)
      (subst (λ (w : Told). GoesTo i (done (withholding i (length going_then.doing.state.commands.items) going_then)) (rules.done w)) (sym (ap (withheld i) rules_are)) (record { answer = refl; tells = ends.tells; stands = ends.stands }))
