use Rattle.std.proofs.Common.{◌∙◌, ap, Option, ℕ}
use Rattle.iscsi_ffi_steps.specs.Walk.{Doing}
use Rattle.iscsi_ffi_steps.specs.Steps.{request_handed}
use Rattle.iscsi_ffi_desk.specs.Calls.{cookie_of_place, pushed_out}
use Rattle.iscsi_ffi_desk.proofs.WordLemmas.{words_stay}
use Rattle.iscsi_ffi_desk.proofs.desk.Desk.hand_out.Goals as goal

pub returns-clause-cookie : goal.returns-clause-cookie
returns-clause-cookie c =
    let request = request_handed c.args.self.now.state c.args.conn c.args.pdu.now in
    c.cookie_of.ensures
    ∙ ap (λ (r : Option ℕ). cookie_of_place c.push_unwritten.new.self.state r) c.leave_queue-request.ensures.request
    ∙ ap (λ (d : Doing). cookie_of_place d.state request) (c.push_unwritten.ensures ∙ ap (λ (d : Doing). pushed_out c.args.conn c.leave_queue-request.result d) c.leave_queue-request.ensures.state)
    ∙ words_stay c.args.conn c.args.pdu.now c.args.self.now c.leave_queue-request.result request
