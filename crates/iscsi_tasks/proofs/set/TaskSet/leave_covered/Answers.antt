use Rattle.std.proofs.Common.{sym, subst}
use Rattle.iscsi_tasks.proofs.Names.{Members, InOrder, is_covered}
use Rattle.iscsi_tasks.proofs.AllLeftLemmas.{StandsFor-staying}
use Rattle.iscsi_tasks.proofs.StayingLemmas.{set_stays}
use Rattle.iscsi_tasks.proofs.set.TaskSet.leave_covered.Goals as goal

pub returns-then-not-may_cover-clause-state : goal.returns-then-not-may_cover-clause-state
returns-then-not-may_cover-clause-state c = sym (set_stays (is_covered c.args.cover.now) c.args.self.now (c.may_cover.ensures.none c.if-not-may_cover.true))

pub returns-then-not-may_cover-clause-stands : goal.returns-then-not-may_cover-clause-stands
returns-then-not-may_cover-clause-stands c = λ h st.
    StandsFor-staying c.args.self.now (is_covered c.args.cover.now) h (subst (λ (s : Members). InOrder s.list) c.self.view_is c.self.invariant.in_slots.order) st
    c.args.self.now (returns-then-not-may_cover-clause-state c)
