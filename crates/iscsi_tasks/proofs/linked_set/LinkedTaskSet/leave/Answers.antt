use Rattle.std.proofs.Common.{◌≡◌, ◌∙◌, None, Some, ap, sym, arith}
use Rattle.iscsi_tasks.proofs.Names.{common_steps, Members, left_by, tasks_in, with_ticket, BLANK, Linked}
use Rattle.iscsi_tasks.proofs.SearchLemmas.{not_found}
use Rattle.iscsi_tasks.proofs.LinkedSetLemmas.{place_in, task_found}
use Rattle.iscsi_tasks.proofs.linked_set.LinkedTaskSet.leave.Goals as goal

-- no command has the ticket
absent : (c : goal.After-from_residual) → with_ticket c.args.ticket (tasks_in c.args.self.now) ≡ None
absent c = ap (λ (s : Members). with_ticket c.args.ticket (tasks_in s)) (sym c.self.view_is) ∙ not_found c.self.inside.tasks.shown.list c.args.ticket c.in_err-slot.ensures

pub returns-in_err-slot : goal.returns-in_err-slot
returns-in_err-slot c = grind (arith, common_steps, absent, left_by)

pub returns-clause-answer : goal.returns-clause-answer
returns-clause-answer c =
    sym (task_found c.self.invariant c.args.ticket c.in_ok-slot.slot c.in_ok-slot.ensures c.let_go.result (λ k d l is. (c.let_go.ensures.state k d l is).0))
    ∙ ap (λ (s : Members). with_ticket c.args.ticket (tasks_in s)) c.self.view_is

pub returns-clause-state : goal.returns-clause-state
returns-clause-state c =
    let at = c.in_ok-slot.ensures in
    ap (λ (l : Linked). l.shown) (c.let_go.ensures.state at.place BLANK (place_in c.self.invariant c.args.ticket c.in_ok-slot.slot at) at.there).1
    ∙ ap (λ (s : Members). left_by s (Some c.let_go.result)) c.self.view_is ∙ ap (left_by c.args.self.now) (returns-clause-answer c)

pub returns-clause-stands : goal.returns-clause-stands
returns-clause-stands c = grind (arith, common_steps, returns-clause-answer)
