use Rattle.std.proofs.Common.{◌∙◌, ap}
use Rattle.iscsi_outbox_steps.specs.State.{State}
use Rattle.iscsi_ffi_steps.specs.Walk.{Doing}
use Rattle.iscsi_ffi_steps.specs.Steps.{close_each}
use Rattle.iscsi_ffi_desk.proofs.EndLemmas.{tell_each_outbox}
use Rattle.iscsi_ffi_desk.proofs.desk.Desk.end.Goals as goal

pub returns : goal.returns
returns c =
    let cids = c.args.self.now.state.outbox.limits.cids in
    c.tell_closed.ensures
    ∙ ap (λ (o : State). close_each 0 o.limits.cids c.tell_ready.new.self) (ap (λ (d : Doing). d.state.outbox) c.tell_ready.ensures ∙ tell_each_outbox 0 cids c.args.self.now)
    ∙ ap (λ (d : Doing). close_each 0 cids d) c.tell_ready.ensures
