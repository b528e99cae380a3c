-- What holds of all desks. For private contracts alone.
use Rattle.std.specs.Prelude.{◌≡◌, ℕ, ◌≤◌, length}
use Rattle.iscsi_ffi_steps.specs.State.{State}

-- there is memory for so many actions, so many that are forgotten, and so many that are withheld
pub record IsDesk (s : State) (actions_room forgets_room withheld_room : ℕ) : Type 0 where
  pub few : length s.outbox.limits.cids ≤ 64
  pub functions : length s.functions.waiting ≡ length s.outbox.limits.cids
  pub replies : length s.replies.waiting ≡ length s.outbox.limits.cids
  pub noted : length s.noted.handed ≡ length s.outbox.limits.cids
  pub unwritten : length s.unwritten.handed ≡ length s.outbox.limits.cids
  pub awake : length s.awake ≡ length s.outbox.limits.cids
  pub over : length s.over ≡ length s.outbox.limits.cids
  pub units : s.commands.units ≡ s.outbox.limits.units
  pub actions : s.room ≤ actions_room
  pub forgets : s.room ≤ forgets_room
  pub withheld : s.room ≤ withheld_room
