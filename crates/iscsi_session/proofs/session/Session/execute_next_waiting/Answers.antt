use Rattle.iscsi_session.proofs.Names.{Bool, w64, to_z, ◌≡◌, ◌==◌, ◌≤◌, ◌+◌, ◌∙◌, not, find, filter, Some, length, count_by, pos, ◌-ℤ◌, ℤ, List, refl, ap, arith, append_assoc, eq-eqb, subst, ints, to_z_pos, number_of_first, number_expected, Queued, may_wait, function_deed, Deed, Core, is_held, after_effect, owed, Fits, facts_by, carried, next_waiting, next_position, function_taken, Immediate, Waiting, the_view, find-passes, fewer_left, nat_tests}
use Rattle.iscsi_session.proofs.DeedLemmas.{Whole, whole, whole_function, fits_function, carried_stays}
use Rattle.iscsi_session.proofs.SoundLemmas.{fewer_sound}
use Rattle.iscsi_session.proofs.session.Session.execute_next_waiting.Given.{Over}
use Rattle.iscsi_session.proofs.session.Session.execute_next_waiting.Goals as goal
use Rattle.iscsi_session.proofs.session.Session.execute_next_waiting.Goals.{In-Some, After-decide_function-deed}

-- the number of the next turn, as a cast reads it
next : (over : Over) (c : In-Some over) → to_z w64 c.turned-number.result ≡ pos (number_expected c.self.inside.window) -ℤ pos (number_of_first c.self.inside.window.first)
next over c = grind (arith, nat_tests, ints, to_z_pos)

-- what it does, and what that shows
function_is : (s : Core) (f : Waiting) (ws : List Waiting) (n : ℤ) (d : Deed) → next_waiting s ≡ Some f → ws ≡ filter (λ v. not (v.event == f.event)) s.waiting → n ≡ next_position s → d ≡ function_deed (facts_by (record s { waiting = ws }) f.request) f.request
    → after_effect (Immediate f.request) (carried (record s { waiting = ws }) f.request n f.event d) ≡ function_taken s (next_waiting s)
function_is s f ws n d found waits number does = rw (found, does, waits, number)

-- the function that waited is taken out and executed
record Executed (s : Core) (f : Waiting) (ws : List Waiting) (d : Deed) : Type 0 where
  found : next_waiting s ≡ Some f
  items : ws ≡ filter (λ v. not (v.event == f.event)) s.waiting
  fits : Fits (record s { waiting = ws }) f.request d
  whole : (n : ℤ) → Whole (record s { waiting = ws }) f.request n f.event d
  fewer : (n : ℤ) → length (carried (record s { waiting = ws }) f.request n f.event d).core.waiting + 1 ≤ length s.waiting

executed : (over : Over) (c : After-decide_function-deed over) → Executed (the_view c.self.inside) c.in-Some.function c.take_first.new.self.items c.decide_function-deed.result
executed over c =
    let s : Core = record (the_view c.self.inside) { waiting = c.take_first.new.self.items } in
    let f = c.in-Some.function in
    let d : Deed = c.decide_function-deed.result in
    let waits : Waiting → Bool = λ w. w.turn == c.self.inside.window.turned in
    let found : find waits c.self.inside.waiting.items ≡ Some f = rw (← c.turned-number.ensures, ← c.take_first.ensures.first) c.in-Some.is in
    let items = ap (λ (q : Queued Waiting). q.items) c.in-Some.ensures.rest in
    let may = find-passes waits (λ w. may_wait w.request) c.self.inside.waiting.items f c.self.invariant.functions.may found in
    let fits : Fits s f.request d = rw c.decide_function-deed.ensures (fits_function s f.request) in
    let left = fewer_left waits (λ v. v.event == f.event) c.self.inside.waiting.items f found (eq-eqb f.event f.event refl) in
    record {
      found = found;
      items = items;
      fits = fits;
      whole = λ n. whole s f.request n f.event d (rw c.decide_function-deed.ensures (whole_function (facts_by s f.request) f.request may));
      fewer = λ n. omega (arith, left, (carried_stays s f.request n f.event d fits).waiting, ap length items);
    }

pub invariant_of-self-2 : goal.invariant_of-self-2
invariant_of-self-2 over c =
    let left = c.in-Some.ensures.rest in
    fewer_sound c.self.invariant (λ v. not (v.event == c.in-Some.function.event)) (ap (λ (q : Queued Waiting). q.items) left) (omega (arith, ap (λ (q : Queued Waiting). q.room) left))

pub carry_out-requires-clause-fits : goal.carry_out-requires-clause-fits
carry_out-requires-clause-fits over c = (executed over (goal.at.carry_out-requires-clause-fits over c).After-decide_function-deed).fits

pub carry_out-requires-clause-ready : goal.carry_out-requires-clause-ready
carry_out-requires-clause-ready over c = ((executed over (goal.at.carry_out-requires-clause-ready over c).After-decide_function-deed).whole (pos 0)).ready

pub carry_out-requires-clause-room : goal.carry_out-requires-clause-room
carry_out-requires-clause-room over c =
    let x = executed over (goal.at.carry_out-requires-clause-room over c).After-decide_function-deed in
    omega (arith, (x.whole (pos 0)).none_emptied, x.fewer (pos 0), c.requires.room, c.put_immediate.ensures.len, c.put_immediate.ensures.capacity, ap (λ (u : Core). owed u.live u.sets) c.self.view_is, ap (λ (u : Core). length u.waiting) c.self.view_is)

pub returns-clause-done : goal.returns-clause-done
returns-clause-done over c =
    let e = executed over (goal.at.returns-clause-done over c).After-decide_function-deed in
    let x = c.carry_out.ensures.done in
    let same = function_is (the_view c.self.inside) c.in-Some.function c.take_first.new.self.items _ c.decide_function-deed.result e.found e.items (next over (goal.at.returns-clause-done over c).In-Some) c.decide_function-deed.ensures in
    rw (← c.self.view_is, ← same) (record { core = x.core; effects = λ text es was. subst (over.S.EffectSink.has c.carry_out.new.out text) (append_assoc es _ _) (x.effects text _ (c.put_immediate.ensures.has text es was)); room = x.room ∙ c.put_immediate.ensures.capacity })

pub returns-clause-spent : goal.returns-clause-spent
returns-clause-spent over c =
    let x = executed over (goal.at.returns-clause-spent over c).After-decide_function-deed in
    let n = to_z w64 c.turned-number.result in
    let now = c.carry_out.ensures.done.core in
    rw (← c.self.view_is) (omega (arith, x.fewer n, ap (λ (u : Core). length u.waiting) now, c.carry_out.ensures.spent, c.put_immediate.ensures.len, ap (λ (u : Core). count_by is_held u.window.places) now, ap (count_by is_held) (x.whole n).places))

pub returns-clause-fewer : goal.returns-clause-fewer
returns-clause-fewer over c = λ said.
    let x = executed over (goal.at.returns-clause-fewer over c).After-decide_function-deed in
    rw (← c.self.view_is) (omega (arith, x.fewer (to_z w64 c.turned-number.result), ap (λ (u : Core). length u.waiting) c.carry_out.ensures.done.core))

pub returns-clause-places : goal.returns-clause-places
returns-clause-places over c =
    ap (λ (u : Core). u.window.places) c.carry_out.ensures.done.core ∙ ((executed over (goal.at.returns-clause-places over c).After-decide_function-deed).whole _).places
    ∙ ap (λ (u : Core). u.window.places) c.self.view_is
