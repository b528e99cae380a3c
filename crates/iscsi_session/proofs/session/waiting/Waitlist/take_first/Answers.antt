use Rattle.iscsi_session.proofs.Names.{◌≡◌, ◌<◌, ◌==◌, ◌∙◌, position, remove, length, get_or, [], Some, None, List, arith, ap, sym, position-Some, all_pairs_remove, ltb-true, ltb-false, get_or-remove_below, get_or-remove_above, length-remove, deque_capacity, queued, remove_is, found_there, found_nowhere, Waiting, nat_tests}
use Rattle.iscsi_session.proofs.session.waiting.Waitlist.take_first.Goals as goal
use Rattle.iscsi_session.proofs.session.waiting.Waitlist.take_first.Goals.{In-Some}

-- some function, for where a list is empty
some_waiting : Waiting
some_waiting = record { request = record { conn = 0; bytes = [] }; turn = 0; event = 0 }

-- the place of the first function that waits for the turn
there : (c : In-Some) → position (λ (w : Waiting). w.turn == c.args.turn) c.self.inside.functions.items ≡ Some c.in-Some.at
there c = sym c.place_at.ensures ∙ c.in-Some.is

within : (c : In-Some) → c.in-Some.at < length c.self.inside.functions.items
within c = (position-Some (λ (w : Waiting). w.turn == c.args.turn) c.self.inside.functions.items c.in-Some.at some_waiting (there c)).0

pub returns-in-Some-clause-first : goal.returns-in-Some-clause-first
returns-in-Some-clause-first c =
    let ws : List Waiting = c.self.inside.functions.items in
    let here = (goal.at.returns-in-Some-clause-first c).In-Some in
    let found = found_there (λ (w : Waiting). w.turn == c.args.turn) ws c.in-Some.at some_waiting (there here) in
    rw (← c.self.view_is) (c.take_at.ensures.taken some_waiting (omega (arith, within here, c.self.inside.functions.ok.0)) ∙ sym found)

-- no other one arrived in its event
pub returns-in-Some-clause-rest : goal.returns-in-Some-clause-rest
returns-in-Some-clause-rest c =
    let ws : List Waiting = c.self.inside.functions.items in
    let here = (goal.at.returns-in-Some-clause-rest c).In-Some in
    let taken : c.take_at.result ≡ Some (get_or ws c.in-Some.at some_waiting) = c.take_at.ensures.taken some_waiting (omega (arith, within here, c.self.inside.functions.ok.0)) in
    let items : c.take_at.new.waiting.items ≡ remove ws c.in-Some.at = (c.take_at.ensures.items (omega (arith, within here, c.self.inside.functions.ok.0))) in
    let rest = remove_is (λ (w : Waiting). w.event) ws c.in-Some.at some_waiting c.self.invariant.1 (within here) in
    rw (taken, ← c.self.view_is, items, c.take_at.ensures.capacity) (ap (λ xs. queued xs (deque_capacity c.self.inside.functions)) rest)

pub returns-clause-first : goal.returns-clause-first
returns-clause-first c =
    let ws : List Waiting = c.self.inside.functions.items in
    let none : position (λ (w : Waiting). w.turn == c.args.turn) ws ≡ None = sym c.place_at.ensures ∙ c.in_default.is in
    rw (← c.self.view_is) (sym (found_nowhere (λ (w : Waiting). w.turn == c.args.turn) ws none))

-- those behind the next turn stay so, in the order of their arrival
pub invariant_of-self : goal.invariant_of-self
invariant_of-self c = grind (arith, nat_tests, within, get_or-remove_below, ltb-true, get_or-remove_above, ltb-false, length-remove, all_pairs_remove)
