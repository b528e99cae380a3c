-- What holds of all outboxes. For private contracts alone.
use Rattle.std.specs.Prelude.{◌≡◌, ℕ, ◌+◌, ◌*◌, ◌^◌, ◌<◌, ◌≤◌, List, length, Option, IfSome}
use Rattle.iscsi_arrivals.specs.Counts.{Counts}
use Rattle.iscsi_outbox_state.specs.Lane.{Lane}
use Rattle.iscsi_outbox_state.specs.Waits.{Waits}
use Rattle.iscsi_outbox_steps.specs.declared.sent.Sent.{Sent}
use Rattle.iscsi_tracked.specs.Tracked.{Tracked}

-- places for commands, and for answers
abbrev pub places_of : ℕ → ℕ → ℕ
places_of window conns = 3 * (window + 12 * conns)

pub record IsOutbox (cids : List ℕ) (links : List Counts) (waits : Waits) (lane : Lane) (tracked : Tracked) (fence : Option Sent) (window units max shown : ℕ) : Type 0 where
  pub few : length cids ≤ 64
  pub of_links : length links ≡ length cids
  pub of_queues : length waits.queues ≡ length cids
  pub of_trails : length tracked.trails ≡ length cids
  pub of_conns : lane.conns ≡ length cids
  pub of_waits : waits.commands ≡ places_of window (length cids)
  pub of_tracked : tracked.room ≡ places_of window (length cids)
  pub of_lane : lane.commands ≡ places_of window (length cids)
  pub of_answers : lane.answers ≡ places_of window (length cids)
  pub of_fence : IfSome fence (λ f. f.conn < length cids)
  pub windows : window ≤ 1024
  pub of_units : units ≤ 256
  pub of_max : max < 2 ^ 63
  pub of_shown : shown < 2 ^ 63
