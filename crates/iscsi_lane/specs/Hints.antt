-- The hints of what holds an answer back of which the lines don't tell: each is none, or a slot that stands in the log. For private
-- contracts alone.
use Rattle.std.specs.Prelude.{◌≡◌, ℕ, ◌≤◌, ◌==◌, true, List, [], ◌∷◌, ◌⊎◌, slice_index_or, if◌then◌else◌}
use Rattle.iscsi_slots.specs.Slots.{times}
use Rattle.iscsi_lists.specs.Lists.{Listed}
use Rattle.iscsi_outbox_state.specs.declared.lane.Standing.{Standing}
use Rattle.iscsi_outbox_state.specs.declared.lane.Standing.TheVariants.{Left as IsLeft, Undue as IsUndue}
use Rattle.iscsi_outbox_state.specs.Lane.{holds_back}
use Rattle.iscsi_lane.specs.Standings.{at, slots_at}

abbrev pub hint_at : List ℕ → ℕ → ℕ
hint_at hints t = slice_index_or hints t 0

abbrev pub IsHint : List ℕ → ℕ → Type 0
IsHint order hint = (hint ≡ 0) ⊎ (1 ≤ times hint order)

-- of each of these answers there is one
abbrev pub AreHints : List ℕ → List ℕ → List ℕ → Type 0
AreHints order hints answers = (t : ℕ) → 1 ≤ times t answers → IsHint order (hint_at hints t)

-- ---- a slot is passed

abbrev pub first_or_none : List ℕ → ℕ
first_or_none [] = 0
first_or_none (s ∷ slots) = s

-- what stands behind a slot
abbrev pub behind : ℕ → List ℕ → ℕ
behind slot [] = 0
behind slot (s ∷ slots) = if s == slot then first_or_none slots else behind slot slots

-- a hint that was the slot is what stands behind it
abbrev pub passed : ℕ → List ℕ → ℕ → ℕ
passed slot order hint = if hint == slot then behind slot order else hint

-- so it is with that of each of these answers
abbrev pub Passes : ℕ → List ℕ → List ℕ → List ℕ → List ℕ → Type 0
Passes slot order answers before after = (t : ℕ) → 1 ≤ times t answers → hint_at after t ≡ passed slot order (hint_at before t)

-- ---- what holds an answer back is noted

abbrev pub IsNotedAs : Listed Standing → ℕ → Standing → Type 0
IsNotedAs log hint (IsLeft c) = Unit {0}
IsNotedAs log hint (IsUndue a) = (1 ≤ times hint (slots_at log 2)) × (holds_back a (at log.values hint) ≡ true)

abbrev pub IsNoted : Listed Standing → List ℕ → ℕ → Type 0
IsNoted log hints t = IsNotedAs log (hint_at hints t) (at log.values t)
