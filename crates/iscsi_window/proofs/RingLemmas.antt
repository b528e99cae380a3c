-- A place of a ring is written.
use Rattle.std.proofs.Common.{◌≡◌, ℕ, ◌+◌, ◌<◌, List, length, set, get_or, arith, length-set, length-append, get_or-set_same, get_or-set_other}
use Rattle.std.proofs.lemmas.Bool.Decides.{nat_tests}
use Rattle.std.proofs.lemmas.List.{same_lists, get_or_append_left, get_or-append_right, get_or-drop, get_or-take, length-drop, length-take}
use Rattle.iscsi_window.specs.PlaceRing.{from_slot, wrapped}

module _ {X : Type 0} (first : ℕ) where
  pub ring_long : (xs : List X) → first < length xs → length (from_slot first xs) ≡ length xs
  ring_long xs within = grind (arith, length-append, length-drop, length-take)

  pub ring_at : (xs : List X) → first < length xs → (k : ℕ) (d : X) → k < length xs → get_or (from_slot first xs) k d ≡ get_or xs (wrapped (length xs) (first + k)) d
  ring_at xs within k d low = grind (arith, nat_tests, length-drop, length-take, get_or_append_left, get_or-append_right, get_or-drop, get_or-take)

  pub ring_set : (xs : List X) → first < length xs → (k : ℕ) (x : X) → k < length xs → from_slot first (set xs (wrapped (length xs) (first + k)) x) ≡ set (from_slot first xs) k x
  ring_set xs within k x low = same_lists _ _ (grind (arith, length-set, ring_long)) (λ j d small. grind (arith, nat_tests, length-set, ring_long, ring_at, get_or-set_same, get_or-set_other))
