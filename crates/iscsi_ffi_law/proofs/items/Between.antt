-- What holds between two items of an event, and what it comes to as the next one begins.
use Rattle.std.proofs.Common.{◌≡◌, ℕ, ◌+◌, ◌<◌, ◌≤◌, ◌==◌, ◌&&◌, ◌||◌, ⊎_elim, not, cond, Bool, true, false, List, [], ◌∷◌, ◌++◌, length, count_by, filter_map, Option, Some, None, refl, ap, sym, subst, ◌∙◌, arith, ne_eqb, eq-eqb, nat_lt, le-ltb, lt-ltb, is_some}
use Rattle.iscsi_ffi_law.proofs.requests.KeptCounts.{held_or_waiting}
use Rattle.std.specs.List.{list_any}
use Rattle.std.proofs.lemmas.Bool.{cases_lt, false≢true}
use Rattle.std.proofs.lemmas.List.{append-nil}
use Rattle.iscsi_wire.specs.declared.reply.Reply.{Reply}
use Rattle.iscsi_wire.specs.Fields.{cmd_sn}
use Rattle.iscsi_rules.specs.rules.Trace.{Arrival, Command as RulesCommand, Mark, Trace, admits_at, delivers_number, empties_number, first_of, held, is_delivered, is_emptied, shown, waiting}
use Rattle.iscsi_rules.proofs.general.CountLemmas.{one}
use Rattle.iscsi_rules.proofs.items.Forms.{AtArrival, AtTurn, Start}
use Rattle.iscsi_rules.proofs.traces.HeldLemmas.{held-delivered}
use Rattle.iscsi_outbox_rules.specs.rules.Queues.{takes_more}
use Rattle.iscsi_outbox_law.specs.private.Commands.{link_in}
use Rattle.iscsi_outbox_law.specs.private.Pairs.{EachOf}
use Rattle.iscsi_outbox_law.specs.private.Stands.{Stands as OutboxStands}
use Rattle.iscsi_outbox_law.proofs.general.PairLemmas.{each-weaken}
use Rattle.iscsi_outbox_steps.specs.State.{State as OutboxState, limits_of}
use Rattle.iscsi_requests.specs.Conns.{of_conn}
use Rattle.iscsi_requests.specs.Functions.{WaitingFunctions}
use Rattle.iscsi_requests.specs.declared.functions.WaitingFunction.{WaitingFunction}
use Rattle.iscsi_requests.specs.Numbers.{HeldNumbers, index_of, size_for}
use Rattle.iscsi_ffi_rules.specs.declared.action.Action.{Action}
use Rattle.iscsi_ffi_rules.specs.declared.action.StopReason.{StopReason}
use Rattle.iscsi_ffi_rules.specs.rules.Calls.{Interface}
use Rattle.iscsi_ffi_rules.specs.rules.Needs.{admitted_by, is_of_event, is_waiting}
use Rattle.iscsi_ffi_rules.specs.rules.Run.{cids}
use Rattle.iscsi_ffi_rules.specs.rules.Sides.{Side}
use Rattle.iscsi_ffi_steps.specs.State.{State}
use Rattle.iscsi_ffi_steps.specs.Walk.{on_effect, reason_by}
use Rattle.iscsi_ffi_law.specs.Arrived.{AreDistinct, is_late}
use Rattle.iscsi_ffi_law.specs.Names.{Name, Note, place_named}
use Rattle.iscsi_ffi_law.specs.Parts.{AreFunctions, AreHeld, IsHeldAt, IsNote, IsRequest}
use Rattle.iscsi_ffi_law.specs.Stands.{AreCounts, AreFlags, AreRequests, AreSizes}
use Rattle.iscsi_ffi_law.specs.Uses.{count_functions, count_held, count_lists, is_place}
use Rattle.iscsi_ffi_law.proofs.requests.Kept.{filter_all}
use Rattle.iscsi_ffi_law.proofs.general.Members.{any_counted, each_in, in_counted}
use Rattle.iscsi_ffi_law.proofs.requests.NameLemmas.{Named, found_named}
use Rattle.iscsi_ffi_law.proofs.items.Plain.{plain_item, plain_marks, start_effect, unheld_marks, waits_arrival, waits_turn}
use Rattle.iscsi_ffi_law.proofs.items.QuietItems.{IsUnheld, is_held_on}
use Rattle.iscsi_ffi_law.proofs.requests.Releases.{endings}
use Rattle.iscsi_ffi_law.proofs.requests.Releasing.{ending}
use Rattle.iscsi_ffi_law.proofs.arrivals.Slots.{IsTurnOf, at, count_then, distinct_then, in_place, index_within, long_then, held_in, held_then, named_then, noted_then, slots_same, slots_then, count_put}
use Rattle.iscsi_ffi_law.proofs.events.Unswept.{Unswept, unswept_at}
use Rattle.iscsi_ffi_law.proofs.items.Walking.{walk_at, walk_in}

-- as many uses have ended, counted in another way
pub pending_as : (names : List Name) (notes : List Note) (pending pending' : ℕ → ℕ) (gone : ℕ → List (Option ℕ)) (s : State) (r : Side) → ((p : ℕ) → pending p ≡ pending' p) → AreRequests names notes pending gone s r → AreRequests names notes pending' gone s r
pending_as names notes pending pending' gone s r same a = record {
  asked = a.asked;
  noted = a.noted;
  apart = a.apart;
  kept = a.kept;
  counted = a.counted;
  uses = λ p. let u = a.uses p in omega (arith, u, same p);
  named = a.named;
  noted_apart = a.noted_apart;
  tickets = a.tickets;
  commands = a.commands;
  live_named = a.live_named;
  one_use = a.one_use;
  numbered = a.numbered;
  answers = a.answers;
  once = a.once;
  last = a.last;
  conns = a.conns;
  undue = a.undue;
}

-- how many uses of a place have ended, and aren't taken off yet; `u`: what is still to be swept
abbrev pub pending_of : Unswept → Option ℕ → List (Option ℕ) → ℕ → ℕ
pending_of u own xs p = ending own p + endings xs p + unswept_at u p

-- `own`: the request that arrives in this event, until it executes or is answered; `xs`: the uses that have ended in it. The state is that of the
-- steps without what is to be swept at the end of the event
pub record IsBetween (i : Interface) (names : List Name) (notes : List Note) (s : State) (r : Side) (own : Option ℕ) (xs : List (Option ℕ)) : Type 0 where
  pub unswept : Unswept
  -- of each connection, the places of own PDUs that are needed no more
  pub gone : ℕ → List (Option ℕ)
  pub requests : AreRequests names notes (pending_of unswept own xs) gone s r
  pub slots : AreHeld (size_for i.outbox.session.window) s.commands.room names s.held r.both.trace
  pub functions : AreFunctions (cids i) names s.functions (waiting r.both.trace)
  pub outbox : OutboxStands i.outbox s.outbox r.both.box
  pub sizes : AreSizes i s
  pub flags : AreFlags i s r
  pub counts : AreCounts i s r
  pub withheld : s.withheld ≡ []
  pub distinct : AreDistinct r.both.trace
  pub over : (p : ℕ) → 1 ≤ endings xs p → count_held p s + count_functions p s ≡ 0
  pub own_named : (p : ℕ) → own ≡ Some p → place_named names r.both.event ≡ Some p
  pub own_unheld : (p : ℕ) → own ≡ Some p → count_held p s + count_functions p s ≡ 0
  pub own_first : (p : ℕ) → own ≡ Some p → xs ≡ []
  pub long_replies : length unswept.replies ≡ length (cids i)
  pub long_noted : length unswept.noted ≡ length (cids i)
  -- nothing is left to be swept where something goes out still
  pub clear : (p : ℕ) → p < length r.both.box.links → takes_more (link_in r.both.box.links p) ≡ true → (of_conn p unswept.replies ≡ []) × (of_conn p unswept.noted ≡ [])

-- the outbox that an event finds: its effects are walked over that
pub record IsFound (i : Interface) (o : OutboxState) : Type 0 where
  pub limits : o.limits ≡ limits_of i.outbox
  pub many : length o.links ≡ length (cids i)

-- a request executes: it has a use that isn't any yet
pub record IsHeaded (i : Interface) (names : List Name) (notes : List Note) (s : State) (r : Side) (own : Option ℕ) (xs : List (Option ℕ)) (item : List Mark) (start : Start) (a : Arrival) : Type 0 where
  pub held : HeldNumbers
  pub functions : WaitingFunctions
  pub place : ℕ
  pub long : length held.places ≡ length s.held.places
  pub long_functions : length functions.waiting ≡ length s.functions.waiting
  pub functions_are : AreFunctions (cids i) names functions (waiting (item ∷ r.both.trace))
  pub named : place_named names a.event ≡ Some place
  pub uses : (p : ℕ) → count_by (is_place p) held.places + count_lists (λ (f : WaitingFunction). f.request == p) functions.waiting + (one (place == p) + endings xs p) ≡ count_held p s + count_functions p s + (ending own p + endings xs p)
  pub requests : EachOf (IsRequest (record s { held = held; functions = functions }) (item ∷ r.both.trace)) names
  pub noted : EachOf (IsNote (record s { held = held; functions = functions }) r.both.box.links) notes
  pub fewer : held_or_waiting held functions ≤ held_or_waiting s.held s.functions
  pub slots : AreHeld (size_for i.outbox.session.window) s.commands.room names held (item ∷ r.both.trace)
  pub distinct : AreDistinct (item ∷ r.both.trace)
  pub fresh : endings xs place ≡ 0
  pub over : count_by (is_place place) held.places + count_lists (λ (f : WaitingFunction). f.request == place) functions.waiting ≡ 0
  pub by : StopReason
  pub why : by ≡ reason_by a.request (Some place)
  pub walk : (o : OutboxState) → IsFound i o → (acts : List Action) (first : Bool) (sent : ℕ) → (first && is_late r.both.event item) ≡ false → on_effect first (start_effect start a.request) (walk_at o s acts xs own sent) ≡ walk_in o (record s { held = held; functions = functions }) acts xs (Some place) None (Some by) sent

-- ---- its turn comes

turn_is : (t : Trace) (a : Arrival) (void : Option ℕ) (entering : Option RulesCommand) (reply : Option Reply) → IsTurnOf t a (plain_item AtTurn a void entering reply)
turn_is t a void entering reply = record {
  gone = held-delivered t a (plain_marks a void entering reply) a.number refl;
  others = λ n other.
      ap (λ v. cond (((v || list_any (delivers_number n) ms) || is_delivered t n) || (list_any (empties_number n) ms || is_emptied t n)) None (first_of (shown (admits_at n) t ++ filter_map (admits_at n) ms))) other
      ∙ ap (λ v. cond ((v || is_delivered t n) || (list_any (empties_number n) ms || is_emptied t n)) None (first_of (shown (admits_at n) t ++ filter_map (admits_at n) ms))) (u.delivers n)
      ∙ ap (λ v. cond (is_delivered t n || (v || is_emptied t n)) None (first_of (shown (admits_at n) t ++ filter_map (admits_at n) ms))) (u.empties n)
      ∙ ap (λ xs. cond (is_delivered t n || is_emptied t n) None (first_of (shown (admits_at n) t ++ xs))) (u.admits_none n)
      ∙ ap (λ xs. cond (is_delivered t n || is_emptied t n) None (first_of xs)) (append-nil (shown (admits_at n) t));
  admits = u.admits;
}
  where
    ms : List Mark
    ms = plain_marks a void entering reply

    u : IsUnheld (plain_marks a void entering reply)
    u = unheld_marks a void entering reply

module _ (i : Interface) (names : List Name) (notes : List Note) (s : State) (r : Side) (xs : List (Option ℕ)) (k : IsBetween i names notes s r None xs) (a : Arrival) (is : held r.both.trace a.number ≡ Some a) (void : Option ℕ) (entering : Option RulesCommand) (reply : Option Reply) where
  abbrev size : ℕ
  size = size_for i.outbox.session.window

  abbrev item : List Mark
  item = plain_item AtTurn a void entering reply

  turn : IsTurnOf r.both.trace a (plain_item AtTurn a void entering reply)
  turn = turn_is r.both.trace a void entering reply

  abbrev it_stands : IsHeldAt names s.held a
  it_stands = at size s.commands.room names notes k.requests.apart s r.both.trace k.slots k.distinct k.sizes.slots a is item turn

  counted : (p : ℕ) → count_by (is_place p) (held_then size s.commands.room names notes k.requests.apart s r.both.trace k.slots k.distinct k.sizes.slots a is item turn).places + one (it_stands.place == p) ≡ count_held p s
  counted p = count_then size s.commands.room names notes k.requests.apart s r.both.trace k.slots k.distinct k.sizes.slots a is item turn p

  one_there : 1 ≤ count_held it_stands.place s
  one_there = in_place s.held.places (index_of (cmd_sn a.request) s.held) it_stands.place (index_within (cmd_sn a.request) s.held k.sizes.slots) it_stands.slot

  -- what is held doesn't wait
  none_waits : count_functions it_stands.place s ≡ 0
  none_waits =
      let f : Named names a.event it_stands.place = found_named names a.event it_stands.place it_stands.named in
      let q : IsRequest s r.both.trace f.name = each_in (IsRequest s r.both.trace) names f.name f.there k.requests.named in
      let there : 1 ≤ count_by (λ (b : Arrival). b.event == a.event) (shown admitted_by r.both.trace) = in_counted (λ (b : Arrival). b.event == a.event) (shown admitted_by r.both.trace) a (held_in r.both.trace a.number a is) (eq-eqb a.event a.event refl) in
      let few : count_by (λ (b : Arrival). b.event == a.event) (waiting r.both.trace) ≤ 0 = (let d = k.distinct.events a.event in omega (arith, d, there)) in
      let none : nat_lt 0 (count_functions f.name.place s) ≡ false = sym q.waiting ∙ ap (λ e. is_waiting e r.both.trace) f.event_is ∙ any_counted (λ (b : Arrival). b.event == a.event) (waiting r.both.trace) ∙ le-ltb 0 (count_by (λ (b : Arrival). b.event == a.event) (waiting r.both.trace)) few in
      ⊎_elim
      (λ more. absurd (false≢true (sym none ∙ lt-ltb 0 (count_functions f.name.place s) (subst (λ p. 0 < count_functions p s) (sym f.place_is) more))))
      (λ less. omega (arith, less)) (cases_lt 0 (count_functions it_stands.place s))

  pub turn_headed : IsHeaded i names notes s r None xs (plain_item AtTurn a void entering reply) AtTurn a
  turn_headed = record {
    held = held_then size s.commands.room names notes k.requests.apart s r.both.trace k.slots k.distinct k.sizes.slots a is item turn;
    functions = s.functions;
    place = it_stands.place;
    long_functions = refl;
    functions_are = subst (AreFunctions (cids i) names s.functions) (sym (waits_turn r.both.trace a void entering reply)) k.functions;
    long = long_then size s.commands.room names notes k.requests.apart s r.both.trace k.slots k.distinct k.sizes.slots a is item turn;
    named = it_stands.named;
    uses = λ p. omega (arith, counted p);
    fewer = (let put = count_put (λ (x : Option ℕ). is_some x) s.held.places (index_of (cmd_sn a.request) s.held) None (index_within (cmd_sn a.request) s.held k.sizes.slots) in omega (arith, put));
    requests = named_then size s.commands.room names notes k.requests.apart s r.both.trace k.slots k.distinct k.sizes.slots a is item turn (λ e. ap (list_any (is_of_event e)) (waits_turn r.both.trace a void entering reply)) k.requests.named;
    noted = noted_then size s.commands.room names notes k.requests.apart s r.both.trace k.slots k.distinct k.sizes.slots a is item turn r.both.box.links k.requests.noted_apart;
    slots = slots_then size s.commands.room names notes k.requests.apart s r.both.trace k.slots k.distinct k.sizes.slots a is item turn;
    distinct = distinct_then size s.commands.room names notes k.requests.apart s r.both.trace k.slots k.distinct k.sizes.slots a is item turn (waits_turn r.both.trace a void entering reply);
    fresh = ⊎_elim (λ some. absurd (let none = k.over it_stands.place (omega (arith, some)) in let no : ⊥ = omega (arith, none, one_there) in no)) (λ few. omega (arith, few)) (cases_lt 0 (endings xs it_stands.place));
    over =
        let here : one (it_stands.place == it_stands.place) ≡ 1 = ap one (eq-eqb it_stands.place it_stands.place refl) in
        omega (arith, here, counted it_stands.place, k.slots.once it_stands.place, none_waits);
    by = reason_by a.request (Some (it_stands.place));
    why = refl;
    walk = λ o limits acts first sent late. ap (λ (z : Option ℕ). record (walk_in o (record s { held = held_then size s.commands.room names notes k.requests.apart s r.both.trace k.slots k.distinct k.sizes.slots a is item turn }) acts xs z None (Some (reason_by a.request z)) sent) { own = None }) it_stands.slot;
  }

-- ---- an immediate one arrives

pub arrival_unheld : (a : Arrival) (void : Option ℕ) (entering : Option RulesCommand) (reply : Option Reply) → IsUnheld (plain_item AtArrival a void entering reply)
arrival_unheld a void entering reply = let u = unheld_marks a void entering reply in record { admits = u.admits; admits_none = u.admits_none; delivers = u.delivers; empties = u.empties }

-- the trace holds the same behind such an item
pub held_same : (t : Trace) (item : List Mark) (u : IsUnheld item) (n : ℕ) → held (item ∷ t) n ≡ held t n
held_same t item u n =
    ap (λ v. cond ((v || is_delivered t n) || (list_any (empties_number n) item || is_emptied t n)) None (first_of (shown (admits_at n) t ++ filter_map (admits_at n) item))) (u.delivers n)
    ∙ ap (λ v. cond (is_delivered t n || (v || is_emptied t n)) None (first_of (shown (admits_at n) t ++ filter_map (admits_at n) item))) (u.empties n)
    ∙ ap (λ xs. cond (is_delivered t n || is_emptied t n) None (first_of (shown (admits_at n) t ++ xs))) (u.admits_none n)
    ∙ ap (λ xs. cond (is_delivered t n || is_emptied t n) None (first_of xs)) (append-nil (shown (admits_at n) t))

pub distinct_same : (t : Trace) (item : List Mark) → IsUnheld item → ((e : ℕ) → count_by (λ (x : Arrival). x.event == e) (waiting (item ∷ t)) ≤ count_by (λ (x : Arrival). x.event == e) (waiting t)) → AreDistinct t → AreDistinct (item ∷ t)
distinct_same t item u fewer d = record {
  numbers = λ n. subst (λ xs. count_by (λ (x : Arrival). x.number == n) xs ≤ 1) (sym shown_same) (d.numbers n);
  events = λ e. let same = ap (count_by (λ (x : Arrival). x.event == e)) shown_same in omega (arith, same, fewer e, d.events e);
}
  where
    shown_same : shown admitted_by (item ∷ t) ≡ shown admitted_by t
    shown_same = ap (λ xs. shown admitted_by t ++ xs) u.admits ∙ append-nil (shown admitted_by t)

module _ (i : Interface) (names : List Name) (notes : List Note) (s : State) (r : Side) (place : ℕ) (xs : List (Option ℕ)) (k : IsBetween i names notes s r (Some place) xs) (a : Arrival) (now : a.event ≡ r.both.event)
    (before : EachOf (λ (b : Arrival). b.event < r.both.event) (waiting r.both.trace)) (void : Option ℕ) (entering : Option RulesCommand) (reply : Option Reply) where
  u : IsUnheld (plain_item AtArrival a void entering reply)
  u = arrival_unheld a void entering reply

  waits : waiting (plain_item AtArrival a void entering reply ∷ r.both.trace) ≡ waiting r.both.trace
  waits = waits_arrival r.both.trace a void entering reply
      ∙ filter_all (λ (b : Arrival). not (b.event == a.event)) (waiting r.both.trace)
      (λ b there. ap not (ne_eqb b.event a.event (λ same. let lt : b.event < r.both.event = each_in (λ (x : Arrival). x.event < r.both.event) (waiting r.both.trace) b there before in let none : ⊥ = omega (arith, same, lt, now) in none)))

  pub arrival_headed : IsHeaded i names notes s r (Some place) xs (plain_item AtArrival a void entering reply) AtArrival a
  arrival_headed = record {
    held = s.held;
    functions = s.functions;
    place = place;
    long = refl;
    long_functions = refl;
    functions_are = subst (AreFunctions (cids i) names s.functions) (sym waits) k.functions;
    named = ap (place_named names) now ∙ k.own_named place refl;
    uses = λ p. omega arith;
    fewer = omega arith;
    requests = each-weaken (IsRequest s r.both.trace) (IsRequest s (plain_item AtArrival a void entering reply ∷ r.both.trace)) names
        (λ n e. record { held = is_held_on r.both.trace (plain_item AtArrival a void entering reply) u n.event ∙ e.held; waiting = ap (list_any (is_of_event n.event)) waits ∙ e.waiting }) k.requests.named;
    noted = k.requests.noted_apart;
    slots = slots_same (size_for i.outbox.session.window) s.commands.room names s.held r.both.trace (plain_item AtArrival a void entering reply ∷ r.both.trace) (held_same r.both.trace (plain_item AtArrival a void entering reply) u) k.slots;
    distinct = distinct_same r.both.trace (plain_item AtArrival a void entering reply) u (λ e. let same = ap (count_by (λ (x : Arrival). x.event == e)) waits in omega (arith, same)) k.distinct;
    fresh = ap (λ ys. endings ys place) (k.own_first place refl);
    over = k.own_unheld place refl;
    by = reason_by a.request (Some place);
    why = refl;
    walk = λ o limits acts first sent late. refl;
  }
