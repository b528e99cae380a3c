-- The bounds stay right where a place is written, and where the first one turns; a search from a bound on.
use Rattle.std.proofs.Common.{◌≡◌, ◌⊎◌, ◌≢◌, inl, inr, ℕ, ◌+◌, ◌-◌, ◌%◌, ◌^◌, ◌<◌, ◌≤◌, ◌++◌, Bool, true, false, List, [], ◌∷◌, length, min, take, drop, replicate, set, get_or, position, Option, Some, None, arith, ⊎_elim, length-set, get_or-set_same, get_or-set_other}
use Rattle.std.proofs.lemmas.Bool.{cases_eq, lt-ltb}
use Rattle.std.proofs.lemmas.List.{set_past, get_or_past, get_or-take, length-take, length-replicate}
use Rattle.std.proofs.lemmas.List.Sums.{position_or_len_is}
use Rattle.std.proofs.lemmas.Bool.Decides.{nat_tests}
use Rattle.iscsi_window.specs.declared.held_request.HeldRequest.{HeldRequest}
use Rattle.iscsi_window.specs.Windows.{holds_command}
use Rattle.iscsi_window.specs.Tags.{group_of, is_none_of, occupied, vacated, IsCounted, AreBounds}
use Rattle.iscsi_window.proofs.PlaceLemmas.{passed}
use Rattle.iscsi_window.proofs.TagLemmas.{zeros, group_within, group_of_true, command_of, is_held}

-- ---- at the opening

pub opened_bounds : (size : ℕ) → AreBounds (replicate 4093 0) 0 (replicate size None)
opened_bounds size = search (arith, length-replicate, zeros)

-- ---- a place is written

-- a request comes, or a number with none: each that is held then is of the group that got a number, or was held before
occupied_bounds : (counts bounds : List ℕ) (turned n : ℕ) (xs ys : List (Option (Option HeldRequest))) (x : Option ℕ) → AreBounds bounds turned xs → n < 2 ^ 64 → ((h : ℕ) → x ≡ Some h → h < 4093)
    → ((j g : ℕ) → group_of (get_or ys j None) ≡ Some g → ((x ≡ Some g) × (n ≤ turned + j)) ⊎ ((get_or bounds g 0 ≤ turned + j) × (0 < get_or counts g 0)))
    → AreBounds (occupied bounds x n (is_none_of counts x)) turned ys
occupied_bounds counts bounds turned n xs ys j old fits low held =
    grind (arith, nat_tests, length-set, get_or-set_same, get_or-set_other)

pub bounds_filled : (counts bounds : List ℕ) (turned : ℕ) (xs : List (Option (Option HeldRequest))) (k : ℕ) (v : Option (Option HeldRequest)) → IsCounted counts xs → AreBounds bounds turned xs → k < length xs
    → AreBounds (occupied bounds (group_of v) (min (turned + k) (2 ^ 64 - 1)) (is_none_of counts (group_of v))) turned (set xs k v)
bounds_filled counts bounds turned xs k v counted old within =
    occupied_bounds counts bounds turned (min (turned + k) (2 ^ 64 - 1)) xs (set xs k v) (group_of v) old (omega arith) (group_within v)
    (λ j g here. ⊎_elim
    (λ same. inl (grind (arith, get_or-set_same xs k v None within)))
    (λ apart. inr (grind (arith, get_or-set_other xs k j v None apart, old.below j g, is_held counts xs j g counted, get_or_past xs j None)))
    (cases_eq j k))

-- a request is taken out
pub bounds_cleared : (bounds : List ℕ) (turned : ℕ) (xs : List (Option (Option HeldRequest))) (k : ℕ) → AreBounds bounds turned xs → k < length xs → (x : Option (Option HeldRequest))
    → AreBounds (vacated bounds (group_of x) (min (turned + k) (2 ^ 64 - 1))) turned (set xs k (Some None))
bounds_cleared bounds turned xs k old within x = vacated_bounds (group_of x)
  where
    held : (j g : ℕ) → group_of (get_or (set xs k (Some None)) j None) ≡ Some g → (j ≢ k) × (get_or bounds g 0 ≤ turned + j)
    held j g here = grind (arith, get_or-set_same xs k (Some None) None within, get_or-set_other xs k j (Some None) None, old.below j g)

    vacated_bounds : (x : Option ℕ) → AreBounds (vacated bounds x (min (turned + k) (2 ^ 64 - 1))) turned (set xs k (Some None))
    vacated_bounds x =
        grind (arith, nat_tests, held, length-set, get_or-set_same, get_or-set_other, get_or_past, set_past)

-- ---- the first place turns

pub turned_bounds : (bounds : List ℕ) (turned : ℕ) (xs : List (Option (Option HeldRequest))) → AreBounds bounds turned xs → AreBounds bounds (turned + 1) (drop 1 xs ++ None ∷ [])
turned_bounds bounds turned xs b = grind (arith, nat_tests, passed)

-- ---- a search

-- no such command is held below the bound of its tag
pub none_before : (bounds : List ℕ) (turned : ℕ) (xs : List (Option (Option HeldRequest))) (tag unit k : ℕ) → AreBounds bounds turned xs → k < get_or bounds (tag % 4093) 0 - turned → holds_command tag unit (get_or xs k None) ≡ false
none_before bounds turned xs tag unit k b short = grind (arith, nat_tests, group_of_true, command_of)

module _ {X : Type 0} (p : X → Bool) (xs : List X) (end : ℕ) (d : X) where
  -- the first place that passes
  pub found_below : (k : ℕ) → k < length xs → k < end → ((j : ℕ) → j < k → p (get_or xs j d) ≡ false) → p (get_or xs k d) ≡ true → Some k ≡ position p (take end xs)
  found_below k within short before here = grind (arith, nat_tests, length-take, position_or_len_is, get_or-take, lt-ltb)

  -- none passes
  pub none_below : ((j : ℕ) → j < end → j < length xs → p (get_or xs j d) ≡ false) → None ≡ position p (take end xs)
  none_below none = grind (arith, nat_tests, position_or_len_is p (take end xs) (length (take end xs)) d, length-take end xs, get_or-take end xs)

-- where none of the group is held the search finds nothing
pub none_found : (counts : List ℕ) (xs : List (Option (Option HeldRequest))) (tag unit end : ℕ) → IsCounted counts xs → get_or counts (tag % 4093) 0 ≡ 0 → None ≡ position (holds_command tag unit) (take end xs)
none_found counts xs tag unit end c none =
    none_below (holds_command tag unit) xs end None (λ j short within. grind (arith, nat_tests, is_held counts xs j (tag % 4093) c within))
