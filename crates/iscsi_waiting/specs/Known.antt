-- What holds of all that waits.
use Rattle.std.specs.Prelude.{◌≡◌, ℕ, ◌<◌, ◌≤◌, true, List, [], ◌∷◌, map, IfSome}
use Rattle.std.specs.List.{AllByRecursion}
use Rattle.iscsi_outbox_state.specs.Waits.{Entry, Waits, count_in, is_any, queue_at}

-- each of these moments is after this one
abbrev pub AllAfter : ℕ → List ℕ → Type 0
AllAfter moment [] = Unit {0}
AllAfter moment (m ∷ moments) = (moment < m) × AllAfter moment moments

-- each is after those before it
abbrev pub Ascend : List ℕ → Type 0
Ascend [] = Unit {0}
Ascend (m ∷ moments) = AllAfter m moments × Ascend moments

-- of something that waits: when the next one enters, it has entered; its command is a place; and a fenced PDU takes a StatSN
pub record IsFit (time commands : ℕ) (e : Entry) : Type 0 where
  pub past : e.time < time
  pub command : IfSome e.item.command (λ c. (1 ≤ c) × (c ≤ commands))
  pub fence : e.item.fenced ≡ true → e.item.takes ≡ true

pub record AreWaiting (v : Waits) : Type 0 where
  pub each : (conn : ℕ) → AllByRecursion (IsFit v.time v.commands) (queue_at v conn)
  pub ascend : (conn : ℕ) → Ascend (map (λ (e : Entry). e.time) (queue_at v conn))
  pub room : count_in is_any v ≤ v.room
