use Rattle.std.proofs.Common.{◌≡◌, ◌∙◌, Some, false, true, ap, sym, arith}
use Rattle.iscsi_tasks.proofs.Names.{common_steps, Members, left_by, tasks_in, with_ticket, is_enabled_in, BLANK, member_of, Linked}
use Rattle.iscsi_tasks.proofs.EnabledLemmas.{enabled_is}
use Rattle.iscsi_tasks.proofs.SearchLemmas.{not_enabled}
use Rattle.iscsi_tasks.proofs.LinkedSetLemmas.{place_in, task_found, enabled_found}
use Rattle.iscsi_tasks.proofs.linked_set.LinkedTaskSet.leave_sought.Goals as goal

pub returns-in_default-clause-answer : goal.returns-in_default-clause-answer
returns-in_default-clause-answer c = sym (not_enabled c.self.inside.tasks.shown.list c.args.ticket c.in_default.ensures) ∙ ap (λ (s : Members). is_enabled_in c.args.ticket s.list) c.self.view_is

pub returns-in_default-clause-since : goal.returns-in_default-clause-since
returns-in_default-clause-since c = enabled_is c.args.self.now c.args.ticket false (returns-in_default-clause-answer c)

pub returns-then-not-at-clause-answer : goal.returns-then-not-at-clause-answer
returns-then-not-at-clause-answer c =
    sym c.if-not-at.true ∙ enabled_found c.self.invariant c.args.ticket c.in-Some.sought c.in-Some.ensures (member_of c.at.result.now) c.at.ensures
    ∙ ap (λ (s : Members). is_enabled_in c.args.ticket s.list) c.self.view_is

pub returns-then-not-at-clause-since : goal.returns-then-not-at-clause-since
returns-then-not-at-clause-since c = enabled_is c.args.self.now c.args.ticket false (returns-then-not-at-clause-answer c)

pub returns-clause-answer : goal.returns-clause-answer
returns-clause-answer c =
    sym c.if-not-at.false ∙ enabled_found c.self.invariant c.args.ticket c.in-Some.sought c.in-Some.ensures (member_of c.at.result.now) c.at.ensures
    ∙ ap (λ (s : Members). is_enabled_in c.args.ticket s.list) c.self.view_is

-- the command that was found
found : (c : goal.After-let_go) → with_ticket c.args.ticket (tasks_in c.args.self.now) ≡ Some c.let_go.result
found c =
    ap (λ (s : Members). with_ticket c.args.ticket (tasks_in s)) (sym c.self.view_is)
    ∙ task_found c.self.invariant c.args.ticket c.in-Some.sought c.in-Some.ensures c.let_go.result (λ k d l is. (c.let_go.ensures.state k d l is).0)

pub returns-clause-left : goal.returns-clause-left
returns-clause-left c yet =
    let at = c.in-Some.ensures in
    ap (λ (l : Linked). l.shown) (c.let_go.ensures.state at.place BLANK (place_in c.self.invariant c.args.ticket c.in-Some.sought at) at.there).1
    ∙ ap (λ (s : Members). left_by s (Some c.let_go.result)) c.self.view_is ∙ ap (left_by c.args.self.now) (sym (found c))

pub returns-clause-since : goal.returns-clause-since
returns-clause-since c = enabled_is c.args.self.now c.args.ticket true (returns-clause-answer c)

pub returns-clause-stands : goal.returns-clause-stands
returns-clause-stands c h st = grind (arith, common_steps, found)
