use Rattle.std.proofs.Common.{◌≡◌, ◌≢◌, ℕ, ◌%◌, ◌/◌, ◌<◌, get_or}
use Rattle.iscsi_window.specs.FilledSlots.{slot_bit}
use Rattle.iscsi_window.proofs.place_tags.has_filled.Given as goal

-- no slot of the words before has the tag and a bit
abbrev pub invariant-loop-word : goal.invariant-loop-word
invariant-loop-word l = (n : ℕ) → n % 1024 / 64 < l.word → slot_bit l.filled n ≡ 1 → get_or l.tags (n % 1024) 0 ≢ l.itt
