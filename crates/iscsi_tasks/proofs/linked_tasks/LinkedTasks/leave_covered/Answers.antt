use Rattle.std.proofs.Common.{List, length, map, ap, sym, subst, arith}
use Rattle.iscsi_tasks.proofs.Names.{common_steps, Member, InOrder, is_covered, Linked, IsSettled, IsCoveredFrom, IsAscendingTo}
use Rattle.iscsi_tasks.proofs.AllLeftLemmas.{StandsFor-staying}
use Rattle.iscsi_tasks.proofs.CoveredFromLemmas.{covered_from_staying}
use Rattle.iscsi_tasks.proofs.FrontLemmas.{ascending_staying}
use Rattle.iscsi_tasks.proofs.LinkedSetLemmas.{kept_on}
use Rattle.iscsi_tasks.proofs.StayingLemmas.{length-staying, settled-staying, staying_set, set_stays}
use Rattle.iscsi_tasks.proofs.linked_tasks.LinkedTasks.leave_covered.Goals as goal

pub returns-then-not-may_cover-clause-state : goal.returns-then-not-may_cover-clause-state
returns-then-not-may_cover-clause-state c = sym (set_stays (is_covered c.args.cover.now) c.args.self.now.shown (c.may_cover.ensures c.if-not-may_cover.true))

pub returns-then-not-may_cover-clause-stands : goal.returns-then-not-may_cover-clause-stands
returns-then-not-may_cover-clause-stands c = λ h st. StandsFor-staying c.args.self.now.shown (is_covered c.args.cover.now) h (subst (λ (l : Linked). InOrder l.shown.list) c.self.view_is c.self.invariant.marked.counted.order) st _ (returns-then-not-may_cover-clause-state c)

pub invariant_of-self : goal.invariant_of-self
invariant_of-self c =
    let i = c.self.inside in
    let covers = is_covered c.args.cover.now in
    let items = c.remove_covered.ensures.members in
    let long = ap length items in let fewer = length-staying covers i.chain.members in
    kept_on c.self.invariant c.remove_covered.ensures.marked (omega (arith, long, fewer)) c.remove_covered.ensures.room
    (subst IsSettled (sym items) (settled-staying covers i.chain.members c.self.invariant.settled))
    (subst (λ (l : List Member). IsCoveredFrom i.covered_from (map (λ m. m.task) l)) (sym items) (covered_from_staying i.covered_from covers i.chain.members c.self.invariant.covered_from))
    (λ up. subst (IsAscendingTo i.ascends_to) (sym items) (ascending_staying i.ascends_to covers i.chain.members up))

pub returns-clause-state : goal.returns-clause-state
returns-clause-state c = grind (arith, common_steps, staying_set)

pub returns-clause-sound : goal.returns-clause-sound
returns-clause-sound c = grind (arith, common_steps, length-staying)

pub returns-clause-stands : goal.returns-clause-stands
returns-clause-stands c = λ h st. StandsFor-staying c.args.self.now.shown (is_covered c.args.cover.now) h (subst (λ (l : Linked). InOrder l.shown.list) c.self.view_is c.self.invariant.marked.counted.order) st _ (returns-clause-state c)
