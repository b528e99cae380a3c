use Rattle.std.proofs.Common.{◌∙◌, Some, sym, ap}
use Rattle.iscsi_outbox_state.specs.Waits.{first_item, queue_at}
use Rattle.iscsi_waiting.specs.Firsts.{response_of}
use Rattle.iscsi_outbox_steps.specs.State.{State}
use Rattle.iscsi_outbox.specs.promises.Responses.{response_out}
use Rattle.iscsi_outbox.proofs.ChoiceLemmas.{notice_goes, nothing_goes, ping_goes}
use Rattle.iscsi_outbox.proofs.ResponseLemmas.{first_next}
use Rattle.iscsi_outbox.proofs.outbox.Outbox.response.Goals as goal

pub returns-in-Some-Waiting : goal.returns-in-Some-Waiting
returns-in-Some-Waiting c =
    c.response.ensures ∙ ap (λ (s : State). response_of (first_item (queue_at s.waits c.args.conn))) c.self.view_is
    ∙ first_next c.args.conn c.args.self.now (sym c.chosen.ensures ∙ c.in-Some-Waiting.is ∙ ap Some c.in-Some-Waiting.field-0-is)

pub returns-in-Some-Ping : goal.returns-in-Some-Ping
returns-in-Some-Ping c = sym (ap response_out (ping_goes c.args.conn c.args.self.now (sym c.chosen.ensures ∙ c.in-Some-Ping.is ∙ ap Some c.in-Some-Ping.field-0-is)).is)

pub returns-in-Some-Notice : goal.returns-in-Some-Notice
returns-in-Some-Notice c = sym (ap response_out (notice_goes c.args.conn c.args.self.now (sym c.chosen.ensures ∙ c.in-Some-Notice.is ∙ ap Some c.in-Some-Notice.field-0-is)).is)

pub returns-in-None : goal.returns-in-None
returns-in-None c = sym (ap response_out (nothing_goes c.args.conn c.args.self.now (sym c.chosen.ensures ∙ c.in-None.is)))
