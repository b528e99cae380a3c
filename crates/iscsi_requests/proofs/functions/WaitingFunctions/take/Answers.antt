use Rattle.std.proofs.Common.{◌<◌, ◌∙◌, length, Some, ap, sym, subst, arith}
use Rattle.iscsi_lists.proofs.PlaceLemmas.{once_in}
use Rattle.iscsi_requests.specs.declared.functions.WaitingFunction.{WaitingFunction}
use Rattle.iscsi_requests.specs.Functions.{WaitingFunctions, find_number, request_of, taken}
use Rattle.iscsi_requests.specs.Kept.{NO_FUNCTION, functions_of}
use Rattle.iscsi_requests.proofs.ValueLemmas.{long_values}
use Rattle.iscsi_requests.proofs.WalkLemmas.{found_there, none_answer, none_state, taken_answer, taken_state}
use Rattle.iscsi_requests.proofs.functions.WaitingFunctions.take.Goals as goal

pub returns-in_err-slot-clause-answer : goal.returns-in_err-slot-clause-answer
returns-in_err-slot-clause-answer c =
    let kept = c.self.inside.kept in
    c.from_residual.ensures
    ∙ sym (ap (find_number c.args.conn c.args.number) (sym c.self.view_is) ∙ ap request_of (none_answer kept.values kept.lists c.args.conn c.args.number c.in_err-slot.ensures))

pub returns-in_err-slot-clause-state : goal.returns-in_err-slot-clause-state
returns-in_err-slot-clause-state c =
    let kept = c.self.inside.kept in
    sym (ap (taken c.args.conn c.args.number) (sym c.self.view_is)
    ∙ ap (λ ws. record { waiting = ws; room = kept.room }) (none_state kept.values kept.lists c.args.conn c.args.number c.in_err-slot.ensures) ∙ c.self.view_is)

pub remove-requires : goal.remove-requires
remove-requires c =
    let kept = c.self.inside.kept in
    let shown = subst (λ (v : WaitingFunctions). c.args.conn < length v.waiting) (sym c.self.view_is) c.requires in
    let long = long_values NO_FUNCTION kept.values kept.lists in
    found_there kept.values kept.lists c.args.conn c.args.number c.in_ok-slot.slot (omega (arith, shown, long)) c.in_ok-slot.ensures

pub returns-clause-answer : goal.returns-clause-answer
returns-clause-answer c =
    let kept = c.self.inside.kept in
    ap (λ (f : WaitingFunction). Some f.request) (c.remove.ensures.value NO_FUNCTION)
    ∙ sym (ap (find_number c.args.conn c.args.number) (sym c.self.view_is)
    ∙ ap request_of (taken_answer kept.values kept.lists c.args.conn c.args.number c.in_ok-slot.slot c.in_ok-slot.ensures))

pub returns-clause-state : goal.returns-clause-state
returns-clause-state c =
    let kept = c.self.inside.kept in
    let slot = c.in_ok-slot.slot in
    let shown = subst (λ (v : WaitingFunctions). c.args.conn < length v.waiting) (sym c.self.view_is) c.requires in
    let long = long_values NO_FUNCTION kept.values kept.lists in
    ap functions_of c.remove.ensures.state
    ∙ ap (λ ws. record { waiting = ws; room = kept.room })
    (taken_state kept.values kept.lists c.args.conn c.args.number slot (omega (arith, shown, long)) (once_in c.known.ensures.apart slot) c.in_ok-slot.ensures)
    ∙ ap (taken c.args.conn c.args.number) c.self.view_is
