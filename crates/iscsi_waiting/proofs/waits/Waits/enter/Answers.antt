use Rattle.std.proofs.Common.{◌<◌, sym, subst}
use Rattle.iscsi_outbox_state.specs.Waits.{Waits, count_in, is_any}
use Rattle.iscsi_waiting.proofs.AskLemmas.{some_free}
use Rattle.iscsi_waiting.proofs.waits.Waits.enter.Goals as goal

pub enter-requires-clause-room : goal.enter-requires-clause-room
enter-requires-clause-room c =
    some_free c.self.inside.slots.waiting c.known.ensures.apart (subst (λ (w : Waits). count_in is_any w < w.room) (sym c.self.view_is) c.requires.room)
