use Rattle.std.proofs.Common.{◌≡◌, ◌<◌, ◌+◌, ◌∷◌, ◌++◌, [], ◌∙◌, ◌&&◌, true, false, ℤ, List, w64, to_z, of_z, length, map, rules, ap, sym, subst, arith}
use Rattle.std.proofs.lemmas.List.{length_push, length-map, map-append}
use Rattle.std.proofs.lemmas.Int.{to_z-of_z}
use Rattle.iscsi_tasks.proofs.Names.{common_steps, Task, Member, Members, IsNewest, after_moment, IsSettled, IsCoveredFrom, is_free_behind, covered_from}
use Rattle.iscsi_tasks.proofs.Names.{covered_from_with, ascends_with, IsAscendingTo, Linked, is_free_by}
use Rattle.iscsi_tasks.proofs.LinkedSetLemmas.{free_is, in_slots}
use Rattle.iscsi_tasks.proofs.EnterLemmas.{moment_entered, settled_entered}
use Rattle.iscsi_tasks.proofs.FrontLemmas.{ascending_push}
use Rattle.iscsi_tasks.proofs.CoveredFromLemmas.{covered_from_push}
use Rattle.iscsi_tasks.proofs.linked_tasks.LinkedTasks.take_in.Goals.{then-gives, else-gives}
use Rattle.iscsi_tasks.proofs.linked_tasks.LinkedTasks.take_in.Goals as goal

newest : (c : goal.After-push-slot) → IsNewest c.args.task.ticket (record { depth = c.self.inside.depth; looked = c.self.inside.looked; list = c.self.inside.chain.members })
newest c = subst (λ (s : Members). IsNewest c.args.task.ticket s) (sym (ap (λ (v : Linked). v.shown) c.self.view_is)) c.requires

free : (c : goal.After-push-slot) → c.test_free-enabled.result ≡ is_free_behind c.self.invariant.marked.counts (length c.self.inside.chain.members) c.args.task.attr
free c = c.test_free-enabled.ensures.value ∙ ap (λ n. is_free_by c.self.inside.marks n c.args.task.attr) c.len-len.ensures.len ∙ free_is c.self.invariant.marked c.args.task.attr

-- the set after the moment is the set with the command
after : (c : goal.After-push-slot) → after_moment (c.self.inside.chain.members ++ record { task = c.args.task; enabled = false; given = false } ∷ []) ≡ c.self.inside.chain.members ++ record { task = c.args.task; enabled = c.test_free-enabled.result; given = false } ∷ []
after c =
    let list = c.self.inside.chain.members in
    moment_entered c.self.invariant.marked.counts c.args.task list c.self.invariant.marked.counted c.self.invariant.settled (newest c)
    ∙ ap (λ b. list ++ record { task = c.args.task; enabled = b; given = false } ∷ []) (sym (free c))

-- whether its ticket is given
given_is : (c : goal.After-push-slot) → c.if-gives.given ≡ (c.args.gives && c.test_free-enabled.result)
given_is c = elim c.if-gives.branch [
  | then-gives w ↦ w.given-is ∙ ap (λ b. b && c.test_free-enabled.result) (sym w.if-gives.true)
  | else-gives w ↦ w.given-is ∙ w.if-gives.false ∙ ap (λ b. b && c.test_free-enabled.result) (sym w.if-gives.false)
]

room : (c : goal.After-push-slot) → (length c.self.inside.chain.members < c.self.inside.depth) × (length c.push-slot.new.chain.members ≡ length c.self.inside.chain.members + 1)
room c = (omega (arith, c.self.invariant.within), ap length c.push-slot.ensures.members ∙ length_push c.self.inside.chain.members (record { task = c.args.task; enabled = c.test_free-enabled.result; given = c.if-gives.given }))

-- no function with a number below the new one covers a command
covered_on : (c : goal.After-push-slot) → IsCoveredFrom (to_z w64 (of_z w64 c.covered_from_with-self-inside.result)) (map (λ m. m.task) c.push-slot.new.chain.members)
covered_on c =
    let i = c.self.inside in
    let tasks : List Task = map (λ m. m.task) i.chain.members in
    let same : to_z w64 (of_z w64 i.covered_from) ≡ i.covered_from = to_z-of_z w64 i.covered_from (search rules) in
    let len : c.len-len.result ≡ length tasks = c.len-len.ensures.len ∙ sym (length-map i.chain.members (λ m. m.task)) in
    let number : to_z w64 (of_z w64 c.covered_from_with-self-inside.result) ≡ covered_from_with i.covered_from (length tasks) c.args.task =
    to_z-of_z w64 c.covered_from_with-self-inside.result (search rules) ∙ c.covered_from_with-self-inside.ensures
    ∙ ap (λ n. covered_from_with n c.len-len.result c.args.task) same ∙ ap (λ n. covered_from_with i.covered_from n c.args.task) len in
    let more : map (λ m. m.task) c.push-slot.new.chain.members ≡ tasks ++ c.args.task ∷ [] =
    ap (map (λ m. m.task)) c.push-slot.ensures.members ∙ map-append (λ m. m.task) i.chain.members (record { task = c.args.task; enabled = c.test_free-enabled.result; given = c.if-gives.given } ∷ []) in
    grind (arith, common_steps, IsCoveredFrom, covered_from_push)

-- they go up still, where it says so
front_on : (c : goal.After-push-slot) → c.ascends_with-self-inside.result ≡ true → IsAscendingTo (to_z w64 (of_z w64 c.covered_from-self-inside.result)) c.push-slot.new.chain.members
front_on c on =
    let i = c.self.inside in
    let m : Member = record { task = c.args.task; enabled = c.test_free-enabled.result; given = c.if-gives.given } in
    let same : to_z w64 (of_z w64 i.ascends_to) ≡ i.ascends_to = to_z-of_z w64 i.ascends_to (search rules) in
    let up : ascends_with i.ascends i.ascends_to (length i.chain.members) c.args.task ≡ true =
    ap (λ n. ascends_with i.ascends n (length i.chain.members) c.args.task) (sym same) ∙ ap (λ n. ascends_with i.ascends (to_z w64 (of_z w64 i.ascends_to)) n c.args.task) (sym c.len-len.ensures.len)
    ∙ sym c.ascends_with-self-inside.ensures ∙ on in
    let most : to_z w64 (of_z w64 c.covered_from-self-inside.result) ≡ covered_from c.args.task = to_z-of_z w64 c.covered_from-self-inside.result (search rules) ∙ c.covered_from-self-inside.ensures in
    subst (λ (n : ℤ). IsAscendingTo n c.push-slot.new.chain.members) (sym most)
    (subst (IsAscendingTo (covered_from c.args.task)) (sym c.push-slot.ensures.members)
    (ascending_push i.ascends i.ascends_to i.chain.members m c.self.invariant.front up))

pub invariant_of-self-2 : goal.invariant_of-self-2
invariant_of-self-2 c = record {
  marked = c.push-slot.ensures.marked;
  least = c.self.invariant.least;
  within = omega (arith, (room c).0, (room c).1);
  room_left = omega (arith, c.self.invariant.room_left, c.push-slot.ensures.room);
  few = c.self.invariant.few;
  settled = subst IsSettled (sym c.push-slot.ensures.members)
      (settled_entered c.self.invariant.marked.counts c.args.task c.self.inside.chain.members c.self.invariant.marked.counted c.self.invariant.settled (newest c) c.test_free-enabled.result c.if-gives.given (free c));
  covered_from = covered_on c;
  front = front_on c;
}

pub returns-clause-ok : goal.returns-clause-ok
returns-clause-ok c = grind (arith, common_steps, room, given_is, after)

pub returns-clause-sound : goal.returns-clause-sound
returns-clause-sound c = in_slots (invariant_of-self-2 c)
