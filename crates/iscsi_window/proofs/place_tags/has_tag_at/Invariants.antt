use Rattle.std.proofs.Common.{◌≡◌, ◌≢◌, ℕ, ◌<◌, get_or}
use Rattle.std.specs.Int.{bit_at}
use Rattle.iscsi_window.proofs.place_tags.has_tag_at.Given as goal

-- none of the tags whose bit was taken is the one that is sought
abbrev pub invariant-bits : goal.invariant-bits
invariant-bits l = (i : ℕ) → i < 64 → bit_at l.bits i ≡ 1 → bit_at l.left i ≢ 1 → get_or l.tags i 0 ≢ l.itt

abbrev pub decreases-bits : goal.decreases-bits
decreases-bits l = l.left
