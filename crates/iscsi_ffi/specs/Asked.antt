-- What a target asks.
use Rattle.std.specs.Prelude.{ℕ, nat_lt, Bool, false, Some, None}
use Rattle.iscsi_wire.specs.Serial.{wire}
use Rattle.iscsi_rules.specs.declared.effect.Numbers.{Numbers}
use Rattle.iscsi_arrivals.specs.Counts.{may_join_by}
use Rattle.iscsi_outbox_steps.specs.State.{State, link_at, place_of}

abbrev pub numbers_shown : State → Numbers
numbers_shown s = record { exp = s.exp; max = wire s.shown }

-- a ping was handed out there that isn't known to have arrived
abbrev pub is_asked : ℕ → State → Bool
is_asked cid s = elim (place_of s cid) [ Some conn ↦ nat_lt (link_at s conn).answered (link_at s conn).pings | None ↦ false ]

abbrev pub may_join : ℕ → State → Bool
may_join cid s = elim (place_of s cid) [ Some conn ↦ may_join_by (link_at s conn) | None ↦ false ]
