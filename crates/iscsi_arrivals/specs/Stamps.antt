-- When a PDU was handed out on its connection, by all that was handed out there.
use Rattle.std.specs.Prelude.{◌≡◌, ℕ, ◌+◌, Bool, List, [], ◌∷◌, ◌++◌, take, drop, count_by, nat_lt}
use Rattle.std.specs.List.{list_any}
use Rattle.iscsi_outbox_rules.specs.rules.Boxes.{Handed, Link}
use Rattle.iscsi_outbox_rules.specs.rules.Handing.{takes_handed, is_ping}
use Rattle.iscsi_arrivals.specs.declared.stamp.Stamp.{Stamp}

-- a PDU is handed out
abbrev pub handed_out : Handed → Link → Link
handed_out h l = record l { handed = l.handed ++ h ∷ [] }

-- the StatSN that the PDU in this place shows, as a number that doesn't wrap
abbrev pub stat_sn_at : Link → ℕ → ℕ
stat_sn_at l place = l.first + count_by takes_handed (take place l.handed)

-- how many pings were handed out before it
abbrev pub pings_at : Link → ℕ → ℕ
pings_at l place = count_by is_ping (take place l.handed)

abbrev pub stamp_at : Link → ℕ → Stamp
stamp_at l place = record { stat_sn = stat_sn_at l place; pings = pings_at l place; place = place }

-- so many of these PDUs stand up to the last one that passes the test; 0 where none does
abbrev pub IsUpToLast : (Handed → Bool) → List Handed → ℕ → Type 0
IsUpToLast test handed n = (k : ℕ) → list_any test (drop k handed) ≡ nat_lt k n
