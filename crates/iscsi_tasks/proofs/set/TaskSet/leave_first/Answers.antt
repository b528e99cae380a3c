use Rattle.std.proofs.Common.{◌≡◌, ◌∙◌, None, find, ap, sym, arith}
use Rattle.iscsi_tasks.proofs.Names.{common_steps, tasks_in, left_by, is_covered, StandsFor, Linked}
use Rattle.iscsi_tasks.proofs.CoverLemmas.{absent, present}
use Rattle.iscsi_tasks.proofs.SearchLemmas.{find_nowhere}
use Rattle.iscsi_tasks.proofs.set.TaskSet.leave_first.Goals as goal

-- nothing may be covered
nothing : (c : goal.Then-not-may_cover) → find (is_covered c.args.cover.now) (tasks_in c.args.self.now) ≡ None
nothing c = find_nowhere (is_covered c.args.cover.now) (tasks_in c.args.self.now) (c.may_cover.ensures.none c.if-not-may_cover.true)

pub returns-then-not-may_cover : goal.returns-then-not-may_cover
returns-then-not-may_cover c = grind (arith, common_steps, nothing, left_by, is_covered)

-- nor is anything where the search found nothing
past : (c : goal.After-renumber) → find (is_covered c.args.cover.now) (tasks_in c.args.self.now) ≡ None
past c = absent (is_covered c.args.cover.now) c.args.self.now (sym c.first_covered.ensures ∙ c.in_default.is)

same : (c : goal.After-renumber) → c.renumber.new.self.shown ≡ c.args.self.now
same c = ap (λ (l : Linked). l.shown) c.renumber.ensures ∙ c.self.view_is

pub returns-in_default : goal.returns-in_default
returns-in_default c = grind (arith, common_steps, past, same, left_by, is_covered, StandsFor)

pub returns-clause-answer : goal.returns-clause-answer
returns-clause-answer c =
    sym (present (is_covered c.args.cover.now) c.args.self.now c.in-Some.at c.take_out.result (sym c.first_covered.ensures ∙ c.in-Some.is) c.take_out.ensures.answer)

pub returns-clause-state : goal.returns-clause-state
returns-clause-state c = c.take_out.ensures.state ∙ ap (left_by c.args.self.now) (returns-clause-answer c)

pub returns-clause-stands : goal.returns-clause-stands
returns-clause-stands c = λ h st. (returns-clause-answer c ∙ ap (find (is_covered c.args.cover.now)) st.tasks, c.take_out.ensures.stands h st)
