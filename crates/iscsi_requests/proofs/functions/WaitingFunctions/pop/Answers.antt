use Rattle.std.proofs.Common.{◌∙◌, Some, ap}
use Rattle.iscsi_requests.specs.Functions.{first_request, popped, request_of}
use Rattle.iscsi_requests.specs.Kept.{NO_FUNCTION, functions_of}
use Rattle.iscsi_requests.proofs.ValueLemmas.{popped_by}
use Rattle.iscsi_requests.proofs.functions.WaitingFunctions.pop.Goals as goal

pub returns-clause-answer : goal.returns-clause-answer
returns-clause-answer c =
    let e = c.in_ok-first.ensures in
    let is = popped_by NO_FUNCTION c.args.conn c.self.inside.kept c.pop_front.new.self (Some c.in_ok-first.first) e.none e.unchanged e.value e.state in
    ap request_of is.answer ∙ ap (first_request c.args.conn) c.self.view_is

pub returns-clause-state : goal.returns-clause-state
returns-clause-state c =
    let e = c.in_ok-first.ensures in
    let is = popped_by NO_FUNCTION c.args.conn c.self.inside.kept c.pop_front.new.self (Some c.in_ok-first.first) e.none e.unchanged e.value e.state in
    ap (λ ws. record { waiting = ws; room = c.pop_front.new.self.room }) is.waiting
    ∙ ap (λ n. record (popped c.args.conn (functions_of c.self.inside.kept)) { room = n }) is.room ∙ ap (popped c.args.conn) c.self.view_is
