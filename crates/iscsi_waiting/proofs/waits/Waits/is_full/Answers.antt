use Rattle.std.proofs.Common.{◌≡◌, ◌<◌, subst}
use Rattle.iscsi_outbox_state.specs.Waits.{Waits, count_in, is_any}
use Rattle.iscsi_waiting.proofs.AskLemmas.{all_taken, some_left}
use Rattle.iscsi_waiting.proofs.waits.Waits.is_full.Goals as goal

pub returns-clause-yes : goal.returns-clause-yes
returns-clause-yes c = λ full.
    subst (λ (w : Waits). count_in is_any w ≡ w.room) c.self.view_is (all_taken c.self.inside.slots.waiting c.known.ensures.apart (c.is_full.ensures.yes full))

pub returns-clause-no : goal.returns-clause-no
returns-clause-no c = λ isnt.
    subst (λ (w : Waits). count_in is_any w < w.room) c.self.view_is (some_left c.self.inside.slots.waiting c.known.ensures.apart (c.is_full.ensures.some isnt))
