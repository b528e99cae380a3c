use Rattle.std.proofs.Common.{length, ap, ◌∙◌, arith}
use Rattle.iscsi_outbox_steps.specs.State.{State as OutboxState}
use Rattle.iscsi_ffi_steps.specs.Walk.{Doing}
use Rattle.iscsi_ffi_desk.proofs.DropLemmas.{replies_outbox}
use Rattle.iscsi_ffi_desk.proofs.desk.Desk.drop_waiting.Goals as goal

pub drop_noted-requires : goal.drop_noted-requires
drop_noted-requires c =
    let same = ap (λ (d : Doing). length d.state.outbox.limits.cids) c.drop_replies.ensures ∙ ap (λ (o : OutboxState). length o.limits.cids) (replies_outbox c.args.conn c.args.self.now) in
    omega (arith, same)
