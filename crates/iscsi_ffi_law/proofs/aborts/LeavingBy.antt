-- Commands leave as a request executes, whatever else it does: what holds behind them, before it is answered, or is over.
use Rattle.std.proofs.Common.{◌≡◌, ℕ, ◌+◌, ◌≤◌, ◌==◌, ◌&&◌, ◌||◌, inl, inr, ⊎_elim, not, cond, Bool, true, false, List, [], ◌∷◌, ◌++◌, length, map, count_by, filter, filter_map, Option, Some, None, nat_lt, refl, ap, sym, subst, ◌∙◌, arith, length-append, is_some, find, option_map}
use Rattle.iscsi_rules.specs.promises.Replies.{executed_in}
use Rattle.iscsi_requests.specs.Numbers.{HeldNumbers}
use Rattle.iscsi_requests.specs.Functions.{WaitingFunctions}
use Rattle.iscsi_ffi_law.proofs.items.TakingOut.{IsOut}
use Rattle.std.specs.List.{list_any}
use Rattle.std.proofs.lemmas.Bool.{cases_lt, eq-eqb, eqb-true, false≢true, ltb-false}
use Rattle.std.proofs.lemmas.List.{length-map}
use Rattle.iscsi_wire.specs.Fields.{opcode}
use Rattle.iscsi_rules.specs.declared.effect.Effect.{Effect}
use Rattle.iscsi_rules.specs.rules.Settings.{are_distinct}
use Rattle.iscsi_rules.specs.rules.Trace.{Arrival, Command as RulesCommand, Mark, are_apart, entered, has, is_among, leaves_ticket, live, enters}
use Rattle.iscsi_rules.proofs.traces.ApartLemmas.{apart-filter}
use Rattle.iscsi_rules.proofs.general.BoolLemmas.{and_parts}
use Rattle.iscsi_rules.proofs.general.CountLemmas.{one, count-cons, count-weaker}
use Rattle.iscsi_rules.proofs.general.ElementLemmas.{In}
use Rattle.iscsi_outbox_rules.specs.rules.Boxes.{Box}
use Rattle.iscsi_outbox_rules.specs.rules.Items.{after_item}
use Rattle.iscsi_outbox_rules.specs.rules.Words.{contains}
use Rattle.iscsi_outbox_law.specs.private.Pairs.{EachOf}
use Rattle.iscsi_outbox_law.specs.private.Sound.{IsSound}
use Rattle.iscsi_outbox_law.proofs.commands.Stops.{stops_answered}
use Rattle.iscsi_outbox_steps.specs.State.{State as OutboxState}
use Rattle.iscsi_outbox_steps.specs.Steps.{after_item as steps_after_item, is_running_ticket}
use Rattle.iscsi_requests.specs.Conns.{of_conn}
use Rattle.iscsi_requests.specs.declared.functions.WaitingFunction.{WaitingFunction}
use Rattle.iscsi_ffi_commands.specs.declared.command.Command.{Command}
use Rattle.iscsi_ffi_commands.specs.Commands.{is_going, is_live}
use Rattle.iscsi_ffi_rules.specs.declared.action.Action.{Action}
use Rattle.iscsi_ffi_rules.specs.declared.action.StopReason.{StopReason}
use Rattle.iscsi_ffi_rules.specs.declared.action.StopReason.TheVariants.{Aborted, LoggedOut, Lost}
use Rattle.iscsi_ffi_rules.specs.rules.Calls.{Interface}
use Rattle.iscsi_ffi_rules.specs.rules.Happening.{is_asked, is_started, leaving, reason_of, stop as stop_there, stops_in}
use Rattle.iscsi_ffi_rules.specs.rules.Needs.{is_held, is_waiting}
use Rattle.iscsi_ffi_rules.specs.rules.Sides.{Side}
use Rattle.iscsi_ffi_steps.specs.State.{State}
use Rattle.iscsi_ffi_steps.specs.Walk.{on_effects, reason_by}
use Rattle.iscsi_ffi_law.specs.Arrived.{IsItemFit, IsLeavingFit, effects_by, side_behind}
use Rattle.iscsi_ffi_law.specs.Names.{Name, Note, asked_of, is_of_event, place_named}
use Rattle.iscsi_ffi_law.specs.Parts.{IsRequest}
use Rattle.iscsi_ffi_law.specs.Stands.{AreRequests}
use Rattle.iscsi_ffi_law.specs.Uses.{count_commands, count_lists, is_place, is_used}
use Rattle.iscsi_ffi_law.proofs.items.Between.{IsBetween, pending_of}
use Rattle.iscsi_ffi_law.proofs.events.Unswept.{unswept_at}
use Rattle.iscsi_ffi_law.proofs.completions.DonePhases.{runs_at}
use Rattle.iscsi_ffi_law.proofs.completions.DoneShape.{tickets_of}
use Rattle.iscsi_ffi_law.proofs.requests.Kept.{count_nothing}
use Rattle.iscsi_ffi_law.proofs.aborts.Leaving.{leave_effects}
use Rattle.iscsi_ffi_law.proofs.aborts.LeavingBox.{left_box}
use Rattle.iscsi_ffi_law.proofs.aborts.LeavingCommands.{AreOnce, all_live, among_tickets, ended_by, entered_left, gone_by, live_ticket_left}
use Rattle.iscsi_ffi_law.proofs.aborts.LeavingQueues.{all_left}
use Rattle.iscsi_ffi_law.proofs.aborts.LeavingRequests.{AreLeaving, leavers, requests_left, silent}
use Rattle.iscsi_ffi_law.proofs.aborts.LeavingWalk.{MayLeave, few_leave, leaves_walk}
use Rattle.iscsi_ffi_law.proofs.general.Members.{each_in, in_any}
use Rattle.iscsi_ffi_law.proofs.calls.Moved.{all_queued}
use Rattle.iscsi_ffi_law.proofs.requests.NameLemmas.{Named, found_named}
use Rattle.iscsi_ffi_law.proofs.sending.Queued.{AllQueued}
use Rattle.iscsi_ffi_law.proofs.requests.Releases.{endings}
use Rattle.iscsi_ffi_law.proofs.requests.Releasing.{ending}
use Rattle.iscsi_ffi_law.proofs.sending.Sources.{cookie_named}
use Rattle.iscsi_ffi_law.proofs.items.Stepping.{stands_then}
use Rattle.iscsi_ffi_law.proofs.items.Walking.{walk_in}

-- ---- lists

pub endings_append : (xs ys : List (Option ℕ)) (p : ℕ) → endings (xs ++ ys) p ≡ endings xs p + endings ys p
endings_append [] ys p = omega arith
endings_append (x ∷ xs) ys p = let rest = endings_append xs ys p in omega (arith, rest)

apart_once : (cs : List RulesCommand) → are_apart cs ≡ true → AreOnce cs
apart_once [] apart k = omega arith
apart_once (c ∷ cs) apart k =
    let parts = and_parts (not (is_among c.ticket cs)) (are_apart cs) apart in
    by_test (c.ticket == k) refl (apart_once cs parts.1 k) parts.0
  where
    by_test : (v : Bool) → (c.ticket == k) ≡ v → count_by (λ (d : RulesCommand). d.ticket == k) cs ≤ 1 → not (is_among c.ticket cs) ≡ true → count_by (λ (d : RulesCommand). d.ticket == k) (c ∷ cs) ≤ 1
    by_test false is few none = let here : one (c.ticket == k) ≡ 0 = ap one is in omega (arith, here, few, count-cons (λ (d : RulesCommand). d.ticket == k) c cs)
    by_test true is few none =
        let here : one (c.ticket == k) ≡ 1 = ap one is in
        let nothing : count_by (λ (d : RulesCommand). d.ticket == k) cs ≡ 0 = count_nothing (λ (d : RulesCommand). d.ticket == k) cs (λ d there. by_other d there (d.ticket == k) refl) in
        omega (arith, here, nothing, count-cons (λ (d : RulesCommand). d.ticket == k) c cs)
      where
        by_other : (d : RulesCommand) → In d cs → (v : Bool) → (d.ticket == k) ≡ v → (d.ticket == k) ≡ false
        by_other d there false e = e
        by_other d there true e =
            absurd (false≢true (ap not (sym (in_any (λ (x : RulesCommand). x.ticket == c.ticket) cs d there (eq-eqb d.ticket c.ticket (eqb-true d.ticket k e ∙ sym (eqb-true c.ticket k is))))) ∙ none))

-- one whose use ends is one that leaves
ended_in : (names : List Name) (r : Side) (cs : List RulesCommand) (q : ℕ) → 1 ≤ endings (ended_by names r cs) q → (d : RulesCommand) × In d cs × (place_named names d.arrival.event ≡ Some q)
ended_in names r [] q some = absurd (let no : ⊥ = omega (arith, some) in no)
ended_in names r (d ∷ cs) q some = by_told (λ more. let x = ended_in names r cs q more in (x.0, inr x.1, x.2)) (contains r.told d.ticket) some
  where
    by_place : (1 ≤ endings (ended_by names r cs) q → (e : RulesCommand) × In e (d ∷ cs) × (place_named names e.arrival.event ≡ Some q)) → (x : Option ℕ) → place_named names d.arrival.event ≡ x → 1 ≤ ending x q + endings (ended_by names r cs) q → (e : RulesCommand) × In e (d ∷ cs) × (place_named names e.arrival.event ≡ Some q)
    by_place later None is more = later (omega (arith, more))
    by_place later (Some p) is more = by_test (p == q) refl
      where
        by_test : (v : Bool) → (p == q) ≡ v → (e : RulesCommand) × In e (d ∷ cs) × (place_named names e.arrival.event ≡ Some q)
        by_test true same = (d, inl refl, is ∙ ap (λ (n : ℕ). Some n) (eqb-true p q same))
        by_test false same = let none : one (p == q) ≡ 0 = ap one same in later (omega (arith, more, none))

    by_told : (1 ≤ endings (ended_by names r cs) q → (e : RulesCommand) × In e (d ∷ cs) × (place_named names e.arrival.event ≡ Some q)) → (v : Bool) → 1 ≤ endings (map (λ (e : RulesCommand). place_named names e.arrival.event) (cond (not v) (d ∷ filter (λ (e : RulesCommand). not (contains r.told e.ticket)) cs) (filter (λ (e : RulesCommand). not (contains r.told e.ticket)) cs))) q
        → (e : RulesCommand) × In e (d ∷ cs) × (place_named names e.arrival.event ≡ Some q)
    by_told later true more = later more
    by_told later false more = by_place later (place_named names d.arrival.event) refl more

nothing_there : (n : ℕ) → nat_lt 0 n ≡ false → n ≡ 0
nothing_there n none = let few : n ≤ 0 = ltb-false 0 n none in omega (arith, few)

-- a request is asked where it has a name
named_asked : (names : List Name) (event : ℕ) → is_asked (map asked_of names) event ≡ is_some (place_named names event)
named_asked [] event = refl
named_asked (n ∷ names) event = by_test (named_asked names event) (n.event == event)
  where
    by_test : is_asked (map asked_of names) event ≡ is_some (place_named names event) → (v : Bool)
        → (v || is_asked (map asked_of names) event) ≡ is_some (option_map (λ (m : Name). m.place) (cond v (Some n) (find (is_of_event event) names)))
    by_test rest true = refl
    by_test rest false = rest

-- ---- the item

-- what such an item does; `zs`: the other uses that end by it
pub record LeavesBy (i : Interface) (names : List Name) (notes : List Note) (s : State) (r : Side) (own : Option ℕ) (xs : List (Option ℕ)) (item : List Mark) (a : Arrival) (cs : List RulesCommand) (place : Option ℕ) (by : StopReason) (v : HeldNumbers) (fs : WaitingFunctions) (zs : List (Option ℕ)) : Type 0 where
  pub none_enters : filter_map enters item ≡ []
  pub left_by : (n : ℕ) → list_any (leaves_ticket n) item ≡ is_among n cs
  pub leaving_is : filter_map leaving item ≡ cs
  pub executed : executed_in item ≡ Some a
  pub others_run : (n : ℕ) → contains (tickets_of cs) n ≡ false → list_any (runs_at n) (after_item i.outbox r.both.box (effects_by i r item)).tasks ≡ list_any (runs_at n) r.both.box.tasks
  pub named : place_named names a.event ≡ place
  pub why : by ≡ reason_by a.request place
  pub out : IsOut i names notes s r own xs (item ∷ r.both.trace) place (xs ++ zs) v fs

module _ (i : Interface) (names : List Name) (notes : List Note) (s : State) (r : Side) (own : Option ℕ) (xs : List (Option ℕ)) (k : IsBetween i names notes s r own xs) (item : List Mark) (a : Arrival) (cs : List RulesCommand) (place : Option ℕ) (by : StopReason) (v : HeldNumbers) (fs : WaitingFunctions) (zs : List (Option ℕ))
    (fit : IsItemFit i.outbox r.both.box (effects_by i r item)) (leaves : EachOf (IsLeavingFit i r item) (filter_map leaving item)) (distinct : are_distinct i.outbox.session.conns ≡ true) (sound : IsSound i.outbox (side_behind i r item).both.box) (h : LeavesBy i names notes s r own xs item a cs place by v fs zs) (each : (p : RulesCommand → Bool) → count_by p cs ≤ count_by p (live r.both.trace)) where
  abbrev pub dropped : Box
  dropped = left_box r.both.box a.request cs

  abbrev pub outbox' : OutboxState
  outbox' = steps_after_item (effects_by i r item) s.outbox

  -- ---- those that leave

  leaves_fit : (d : RulesCommand) → In d cs → IsLeavingFit i r item d
  leaves_fit d there = each_in (IsLeavingFit i r item) cs d there (subst (EachOf (IsLeavingFit i r item)) h.leaving_is leaves)

  once : AreOnce cs
  once n = let few = each (λ (d : RulesCommand). d.ticket == n) in let most = apart_once (live r.both.trace) (apart-filter (λ (c : RulesCommand). not (has (leaves_ticket c.ticket) r.both.trace)) (entered r.both.trace) k.requests.tickets) n in omega (arith, few, most)

  pub those : AreLeaving names s r item (steps_after_item (effects_by i r item) s.outbox) cs
  those = record {
    none_enters = h.none_enters;
    left_by = h.left_by;
    lives = all_live r.both.trace cs each;
    once = once;
    unanswered = λ d there. (leaves_fit d there).unanswered;
    run = λ d there. stops_answered i.outbox outbox' (side_behind i r item).both.box (stands_then i names notes s r own xs k item fit distinct sound) sound distinct d.ticket ∙ (leaves_fit d there).runs;
    others = λ n other.
        stops_answered i.outbox outbox' (side_behind i r item).both.box (stands_then i names notes s r own xs k item fit distinct sound) sound distinct n
        ∙ h.others_run n (among_tickets cs n ∙ other)
        ∙ sym (stops_answered i.outbox s.outbox r.both.box k.outbox fit.sound distinct n);
  }

  -- ---- what is kept, as what waits of them is dropped

  abbrev pub s2 : State
  s2 = record s { held = v; functions = fs; commands = record s.commands { items = map (gone_by cs) s.commands.items }; outbox = outbox' }

  abbrev pub r2 : Side
  r2 = record r { both = record r.both { trace = item ∷ r.both.trace; box = dropped } }

  pub requests2 : AreRequests names notes (λ q. ending place q + (endings (xs ++ ended_by names r cs) q + endings zs q) + unswept_at k.unswept q) k.gone s2 r2
  requests2 = requests_left names notes (pending_of k.unswept own xs) k.gone s r k.requests item outbox' cs those dropped refl refl refl v fs (λ q. ending place q + (endings (xs ++ ended_by names r cs) q + endings zs q) + unswept_at k.unswept q)
      (λ q. let used = h.out.uses q in omega (arith, used, endings_append xs (ended_by names r cs) q, endings_append xs zs q)) h.out.requests h.out.noted

  pub queued2 : AllQueued names (item ∷ r.both.trace) r.answers (λ q. of_conn q s.replies.waiting) (λ q. length (of_conn q s.noted.handed)) dropped.links r.both.box.undue
  queued2 = all_left names r.both.trace (item ∷ r.both.trace) r.answers (tickets_of cs) (entered_left r.both.trace item cs those.none_enters those.left_by)
      (λ n other. live_ticket_left r.both.trace item cs those.none_enters those.left_by n (sym (among_tickets cs n) ∙ other))
      (λ q. of_conn q s.replies.waiting) (λ q. length (of_conn q s.noted.handed)) r.both.box.links r.both.box.undue (silent names notes (pending_of k.unswept own xs) k.gone s r k.requests item outbox' cs those)
      (all_queued i names notes (pending_of k.unswept own xs) k.gone s r k.requests k.outbox distinct fit.sound)

  -- uses that have ended are of requests that aren't held
  pub over2 : (q : ℕ) → 1 ≤ endings (xs ++ ended_by names r cs) q + endings zs q → count_by (is_place q) v.places + count_lists (λ (f : WaitingFunction). f.request == q) fs.waiting ≡ 0
  over2 q some = ⊎_elim
      (λ before. h.out.over q (omega (arith, before)))
      (λ none.
      let x = ended_in names r cs q (let none' = none in omega (arith, some, none', endings_append xs (ended_by names r cs) q, endings_append xs zs q)) in
      let f : Named names x.0.arrival.event q = found_named names x.0.arrival.event q x.2 in
      let fit' : IsLeavingFit i r item x.0 = leaves_fit x.0 x.1 in
      let e : IsRequest (record s { held = v; functions = fs }) (item ∷ r.both.trace) f.name = each_in (IsRequest (record s { held = v; functions = fs }) (item ∷ r.both.trace)) names f.name f.there h.out.requests in
      let unheld : count_by (is_place f.name.place) v.places ≡ 0 = nothing_there (count_by (is_place f.name.place) v.places) (sym e.held ∙ ap (λ n. is_held n (item ∷ r.both.trace)) f.event_is ∙ fit'.held) in
      let gone : count_lists (λ (g : WaitingFunction). g.request == f.name.place) fs.waiting ≡ 0
      = nothing_there (count_lists (λ (g : WaitingFunction). g.request == f.name.place) fs.waiting) (sym e.waiting ∙ ap (λ n. is_waiting n (item ∷ r.both.trace)) f.event_is ∙ fit'.waiting) in
      subst (λ p. count_by (is_place p) v.places + count_lists (λ (g : WaitingFunction). g.request == p) fs.waiting ≡ 0) f.place_is (omega (arith, unheld, gone)))
      (cases_lt 0 (endings (xs ++ zs) q))

  -- ---- what stops

  asked_there : is_asked r.asked a.event ≡ is_some place
  asked_there = ap (λ as'. is_asked as' a.event) (sym k.requests.asked) ∙ named_asked names a.event ∙ ap (λ (x : Option ℕ). is_some x) h.named

  reason_is : reason_of r.asked a ≡ by
  reason_is = ap (λ u. cond (opcode a.request == 6) (cond u LoggedOut Lost) Aborted) asked_there ∙ sym h.why

  pub stops_are : stops_in r item ≡ map (stop_there r by) (filter (is_started r) cs)
  stops_are =
      ap (λ (x : Option Arrival). elim x as (λ (y : Option Arrival). List Action) [ Some b ↦ map (stop_there r (reason_of r.asked b)) (filter (is_started r) (filter_map leaving item)) | None ↦ [] ]) h.executed
      ∙ ap (λ ds. map (stop_there r (reason_of r.asked a)) (filter (is_started r) ds)) h.leaving_is
      ∙ ap (λ (why : StopReason). map (stop_there r why) (filter (is_started r) cs)) reason_is

  pub few2 : (length (xs ++ ended_by names r cs) + count_by is_live (map (gone_by cs) s.commands.items) ≤ length xs + count_by is_live s.commands.items) × (length (stops_in r item) + count_by is_going (map (gone_by cs) s.commands.items) ≤ count_by is_going s.commands.items)
  few2 =
      let few = few_leave names r cs s.commands.items k.requests.numbered (leavers names notes (pending_of k.unswept own xs) k.gone s r k.requests item outbox' cs those) once in
      let lives = few.0 in
      let going = few.1 in
      let stops = ap length stops_are in
      let mapped = length-map (filter (is_started r) cs) (stop_there r by) in
      (omega (arith, lives, length-append xs (ended_by names r cs)), omega (arith, going, stops, mapped))

  -- ---- the walk over them; `v0`, `fs0`: what is held then, and what waits

  module _ (v0 : HeldNumbers) (fs0 : WaitingFunctions) where
    abbrev s1 : State
    s1 = record s { held = v0; functions = fs0 }

    may : (acts : List Action) → length acts + length (stops_in r item) ≤ s.room → MayLeave names r by s1 acts xs cs
    may acts room = record {
      counted = k.requests.counted;
      numbered = k.requests.numbered;
      leavers = leavers names notes (pending_of k.unswept own xs) k.gone s r k.requests item outbox' cs those;
      once = once;
      words = λ event at named. cookie_named names notes s.cookies r.asked k.requests.apart k.requests.kept k.requests.counted k.requests.asked event at (found_named names event at named);
      uses = λ p.
          let all = k.requests.uses p in
          let fewer : count_by (λ (c : Command). c.request == p && is_live c) s.commands.items ≤ count_commands p s
          = count-weaker (λ (c : Command). c.request == p && is_live c) (λ (c : Command). c.request == p && is_used s.outbox c) s.commands.items (λ c both. used_so (c.request == p) (is_live c) (is_running_ticket c.ticket s.outbox) both) in
          omega (arith, all, fewer);
      room = (let same = ap length stops_are in omega (arith, room, same));
    }
      where
        used_so : (u w x : Bool) → (u && w) ≡ true → (u && (w || x)) ≡ true
        used_so true true x both = refl
        used_so true false x both = absurd (false≢true both)
        used_so false w x both = absurd (false≢true both)

    pub leaves_on : (o : OutboxState) (acts : List Action) → length acts + length (stops_in r item) ≤ s.room → (rest : List Effect)
        → on_effects false (leave_effects cs ++ rest) (walk_in o (record s { held = v0; functions = fs0 }) acts xs place None (Some by) r.both.box.sent)
        ≡ on_effects false rest (walk_in o (record s { held = v0; functions = fs0; commands = record s.commands { items = map (gone_by cs) s.commands.items } }) (acts ++ stops_in r item) (xs ++ ended_by names r cs) place None (Some by) r.both.box.sent)
    leaves_on o acts room rest =
        leaves_walk names r by o place None r.both.box.sent cs s1 acts xs (may acts room) rest
        ∙ ap (λ as'. on_effects false rest (walk_in o (record s1 { commands = record s.commands { items = map (gone_by cs) s.commands.items } }) (acts ++ as') (xs ++ ended_by names r cs) place None (Some by) r.both.box.sent)) (sym stops_are)
