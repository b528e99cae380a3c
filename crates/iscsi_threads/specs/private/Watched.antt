-- Which rings are marked, and which one is looked at next: for private contracts.
use Rattle.std.specs.Prelude.{◌≡◌, ◌≢◌, ℕ, ◌+◌, ◌-◌, ◌/◌, ◌%◌, List, slice_index, if◌then◌else◌, nat_lt}
use Rattle.std.specs.Int.{bit_at}
use Rattle.iscsi_rules.specs.declared.event.Event.{Event}
use Rattle.iscsi_rules.specs.declared.event.Event.TheVariants.{Arrive, Done}

-- the mark of the ring with this number, in words of 64 bits
abbrev pub mark : List ℕ → ℕ → ℕ
mark words number = bit_at (slice_index words (number / 64)) (number % 64)

-- the ring with this number is marked, and the others are as before
pub record IsMarked (old new : List ℕ) (number : ℕ) : Type 0 where
  pub here : mark new number ≡ 1
  pub others : (n : ℕ) → n ≢ number → mark new n ≡ mark old n

-- the number of the k-th ring, the connections first: the units' begin at 64
abbrev pub ring_at : ℕ → ℕ → ℕ
ring_at conns k = if nat_lt k conns then k else 64 + (k - conns)

-- the ring behind the one that an event came from, by the place of its port or unit port
abbrev pub ring_behind : Event → ℕ → ℕ
ring_behind (Arrive c x) place = place + 1
ring_behind (Done t s) place = 64 + place + 1
