-- How many places are received, and how many hold a request, where one is written and where the first one turns.
use Rattle.std.proofs.Common.{◌≡◌, ℕ, ◌+◌, ◌-◌, ◌<◌, ◌≤◌, ◌++◌, cond, Bool, true, false, is_some, List, [], ◌∷◌, length, drop, set, get_or, count_by, Option, None, arith, refl}
use Rattle.std.proofs.lemmas.List.Sums.{sum_by-set, sum_by-cons, sum_by_push, get_or-le-sum_by}
use Rattle.std.proofs.lemmas.Bool.Decides.{nat_tests}
use Rattle.iscsi_window.specs.declared.held_request.HeldRequest.{HeldRequest}
use Rattle.iscsi_window.specs.Received.{is_held}
use Rattle.iscsi_window.specs.Tags.{group_of, lowered, ArePlacesSound}
use Rattle.iscsi_window.proofs.TagLemmas.{turned_counted}
use Rattle.iscsi_window.proofs.BoundLemmas.{turned_bounds}

module _ (p : Option (Option HeldRequest) → Bool) where
  -- 1 for a place that passes
  abbrev pub one : Option (Option HeldRequest) → ℕ
  one x = cond (p x) 1 0

  pub one_most : (x : Option (Option HeldRequest)) → one x ≤ 1
  one_most x = elim (p x) as (λ b. cond b 1 0 ≤ 1) [ true ↦ omega arith | false ↦ omega arith ]

  pub one_counted : (xs : List (Option (Option HeldRequest))) (k : ℕ) → k < length xs → one (get_or xs k None) ≤ count_by p xs
  one_counted xs k within = get_or-le-sum_by one xs k None within

  pub count_set : (xs : List (Option (Option HeldRequest))) (k : ℕ) (v : Option (Option HeldRequest)) → k < length xs → count_by p (set xs k v) + one (get_or xs k None) ≡ count_by p xs + one v
  count_set xs k v within = sum_by-set one xs k v None within

  count_turned : p None ≡ false → (xs : List (Option (Option HeldRequest))) → count_by p (drop 1 xs ++ None ∷ []) + one (get_or xs 0 None) ≡ count_by p xs
  count_turned fails [] = grind (arith, sum_by_push one [] None)
  count_turned fails (x ∷ xs) = grind (arith, sum_by-cons one x xs, sum_by_push one xs None)

-- where nothing is received all places are alike
all_alike : (xs : List (Option (Option HeldRequest))) → 0 ≡ count_by is_some xs → xs ++ None ∷ [] ≡ None ∷ xs
all_alike [] none = refl
all_alike (x ∷ xs) none = grind (arith, sum_by-cons (one is_some) x xs, all_alike xs)

pub turns_into_itself : (xs : List (Option (Option HeldRequest))) → 0 < length xs → 0 ≡ count_by is_some xs → drop 1 xs ++ None ∷ [] ≡ xs
turns_into_itself [] some none = absurd (omega (arith, some))
turns_into_itself (x ∷ xs) some none = grind (arith, sum_by-cons (one is_some) x xs, all_alike xs)

-- ---- what the counters say where the first place turns: through the ring, or past it

pub turned_sound : (counts bounds : List ℕ) (turned received held : ℕ) (xs : List (Option (Option HeldRequest))) → ArePlacesSound counts bounds turned received held xs → 0 < length xs
    → ArePlacesSound (lowered counts (group_of (get_or xs 0 None))) bounds (turned + 1) (received - one is_some (get_or xs 0 None)) (held - one is_held (get_or xs 0 None)) (drop 1 xs ++ None ∷ [])
turned_sound counts bounds turned received held xs sound some =
    let counted = turned_counted counts xs sound.tags some in
    grind (arith, nat_tests, turned_bounds bounds turned xs sound.lowest, count_turned is_some refl xs, count_turned is_held refl xs)
