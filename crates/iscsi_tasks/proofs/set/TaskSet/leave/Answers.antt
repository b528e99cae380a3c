use Rattle.std.proofs.Common.{◌∙◌, Some, ap, sym, arith}
use Rattle.iscsi_tasks.proofs.Names.{common_steps, left_by, with_ticket, BLANK}
use Rattle.iscsi_tasks.proofs.SearchLemmas.{found, not_found}
use Rattle.iscsi_tasks.proofs.set.TaskSet.leave.Goals as goal

pub returns-in_err-at-clause-answer : goal.returns-in_err-at-clause-answer
returns-in_err-at-clause-answer c = c.from_residual.ensures ∙ sym (not_found c.args.self.now.list c.args.ticket c.in_err-at.ensures.place)

pub returns-in_err-at-clause-stands : goal.returns-in_err-at-clause-stands
returns-in_err-at-clause-stands c = grind (arith, common_steps, returns-in_err-at-clause-answer)

pub returns-clause-answer : goal.returns-clause-answer
returns-clause-answer c =
    let place = c.in_ok-at.ensures.place in
    sym (found c.args.self.now.list c.in_ok-at.ensures.order c.args.ticket c.in_ok-at.at place.0 place.1 BLANK ∙ ap Some (sym (c.take_out.ensures.answer BLANK)))

pub returns-clause-state : goal.returns-clause-state
returns-clause-state c = c.take_out.ensures.state ∙ ap (left_by c.args.self.now) (returns-clause-answer c)

pub returns-clause-stands : goal.returns-clause-stands
returns-clause-stands c = λ h st. (returns-clause-answer c ∙ ap (with_ticket c.args.ticket) st.tasks, c.take_out.ensures.stands h st)
