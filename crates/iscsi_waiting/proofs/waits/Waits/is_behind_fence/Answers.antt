use Rattle.std.proofs.Common.{ap, ◌∙◌}
use Rattle.iscsi_outbox_state.specs.Waits.{any_in, is_fenced_before}
use Rattle.iscsi_waiting.proofs.AskLemmas.{behind_fence}
use Rattle.iscsi_waiting.proofs.waits.Waits.is_behind_fence.Goals as goal

pub returns : goal.returns
returns c =
    behind_fence c.self.inside.slots c.args.time c.is_behind.result c.is_behind.ensures.yes c.is_behind.ensures.no
    ∙ ap (any_in (is_fenced_before c.args.time)) c.self.view_is
