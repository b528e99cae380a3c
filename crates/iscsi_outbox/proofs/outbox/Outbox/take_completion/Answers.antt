use Rattle.std.proofs.Common.{Bool, [], None, sym, ap, ◌∙◌}
use Rattle.iscsi_outbox_steps.specs.State.{State}
use Rattle.iscsi_outbox_steps.specs.Steps.{counted, leave_one, placed, send_placed, settle}
use Rattle.iscsi_outbox.specs.private.Walks.{is_numbered_of}
use Rattle.iscsi_outbox.proofs.CommonestLemmas.{or_none}
use Rattle.iscsi_outbox.proofs.outbox.Outbox.take_completion.Goals as goal

pub returns : goal.returns
returns c = λ unit stat_sn.
    let now = c.args.self.now in
    let left = leave_one None c.args.ticket now in
    c.settle.ensures
    ∙ ap settle (c.count_reply.ensures
    ∙ ap counted (c.send_at_once.ensures
    ∙ ap (λ (s : State). send_placed None [] c.complete_ticket-numbered.result [] c.args.cid (placed c.args.reply.now s) s) c.complete_ticket-numbered.ensures.state
    ∙ ap (λ (b : Bool). send_placed None [] b [] c.args.cid (placed c.args.reply.now left) left) (c.complete_ticket-numbered.ensures.answer ∙ sym (or_none (is_numbered_of now c.args.ticket)))))
