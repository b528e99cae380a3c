-- Lists whose keys go up.
use Rattle.std.proofs.Common.{◌≡◌, ℕ, zero, suc, ◌-◌, ◌<◌, ◌≤◌, ◌==◌, not, cond, false, List, [], ◌∷◌, ◌++◌, length, filter, find, get_or, All, Some, None, refl, ap, sym, ◌∙◌, arith, eq-eqb, ne_eqb}
use Rattle.std.specs.List.{remove, insert}
use Rattle.std.proofs.lemmas.List.Edits.{length-insert, get_or-insert_at, get_or-insert_below, get_or-insert_above}
use Rattle.std.proofs.lemmas.List.Elements.{All-head, All-tail}
use Rattle.std.proofs.lemmas.List.Quantifiers.{all_pairs_push, all_pairs_remove}
use Rattle.std.proofs.lemmas.Bool.Decides.{nat_tests}
use Rattle.iscsi_slots.specs.Places.{AreAscending}

module _ {X : Type 0} (key : X → ℕ) where
  -- no two places have the same key
  pub same_place : (xs : List X) → AreAscending key xs → (i j : ℕ) (d : X) → i < length xs → j < length xs → key (get_or xs i d) ≡ key (get_or xs j d) → i ≡ j
  same_place xs up i j d li lj same = grind (arith, nat_tests)

  -- a place before another has no greater key
  pub not_greater : (xs : List X) → AreAscending key xs → (i j : ℕ) (d : X) → i ≤ j → j < length xs → key (get_or xs i d) ≤ key (get_or xs j d)
  not_greater xs up i j d le l = grind (arith, nat_tests)

  up_head : (x : X) (xs : List X) → AreAscending key (x ∷ xs) → (k : ℕ) (d : X) → k < length xs → key x < key (get_or xs k d)
  up_head x xs up k d l = up zero (suc k) d (omega arith) (omega (arith, l))

  up_tail : (x : X) (xs : List X) → AreAscending key (x ∷ xs) → AreAscending key xs
  up_tail x xs up i j d lt l = up (suc i) (suc j) d (omega (arith, lt)) (omega (arith, l))

  pub pushed_up : (xs : List X) (x : X) → AreAscending key xs → All (λ y. key y < key x) xs → AreAscending key (xs ++ x ∷ [])
  pushed_up xs x up less = all_pairs_push (λ a b. key a < key b) xs x up less

  pub removed_up : (xs : List X) (k : ℕ) → k < length xs → AreAscending key xs → AreAscending key (remove xs k)
  removed_up xs k l up = all_pairs_remove (λ a b. key a < key b) xs k l up

  module _ (xs : List X) (at : ℕ) (x : X) (up : AreAscending key xs) (within : at ≤ length xs) (below : (k : ℕ) (d : X) → k < at → key (get_or xs k d) < key x) (above : (k : ℕ) (d : X) → at ≤ k → k < length xs → key x < key (get_or xs k d)) where
    at_is : (i : ℕ) (d : X) → i ≡ at → key (get_or (insert xs at x) i d) ≡ key x
    at_is i d here = ap (λ n. key (get_or (insert xs at x) n d)) here ∙ ap key (get_or-insert_at xs at x d within)

    low_is : (i : ℕ) (d : X) → i < at → key (get_or (insert xs at x) i d) ≡ key (get_or xs i d)
    low_is i d low = ap key (get_or-insert_below xs at x d i low within)

    high_is : (i : ℕ) (d : X) → at < i → key (get_or (insert xs at x) i d) ≡ key (get_or xs (i - 1) d)
    high_is i d high = grind (arith, nat_tests, get_or-insert_above)

    -- a value is inserted at its place
    pub inserted_up : AreAscending key (insert xs at x)
    inserted_up i j d lt l = grind (arith, nat_tests, length-insert, low_is, at_is, high_is)

  -- ---- the value with a key

  pub find_nowhere : (n : ℕ) (xs : List X) → All (λ x. (key x == n) ≡ false) xs → find (λ x. key x == n) xs ≡ None
  find_nowhere n [] none = refl
  find_nowhere n (x ∷ xs) none =
      ap (λ b. cond b (Some x) (find (λ y. key y == n) xs)) (All-head (λ y. (key y == n) ≡ false) x xs none)
      ∙ find_nowhere n xs (All-tail (λ y. (key y == n) ≡ false) x xs none)

  pub find_here : (xs : List X) (k : ℕ) (d : X) → AreAscending key xs → k < length xs → find (λ x. key x == key (get_or xs k d)) xs ≡ Some (get_or xs k d)
  find_here (x ∷ xs) (suc k) d up l = grind (arith, nat_tests, find_here xs k d (up_tail x xs up) (omega (arith, l)), up_head, ne_eqb, up_tail)
  find_here xs k d up l = grind (arith, nat_tests, eq-eqb)

  pub filter_nowhere : (n : ℕ) (xs : List X) → All (λ x. (key x == n) ≡ false) xs → filter (λ x. not (key x == n)) xs ≡ xs
  filter_nowhere n [] none = refl
  filter_nowhere n (x ∷ xs) none =
      ap (λ b. cond (not b) (x ∷ filter (λ y. not (key y == n)) xs) (filter (λ y. not (key y == n)) xs)) (All-head (λ y. (key y == n) ≡ false) x xs none)
      ∙ ap (λ ys. x ∷ ys) (filter_nowhere n xs (All-tail (λ y. (key y == n) ≡ false) x xs none))

  -- the value at a place is the only one with its key
  pub remove_is : (xs : List X) (k : ℕ) (d : X) → AreAscending key xs → k < length xs → remove xs k ≡ filter (λ x. not (key x == key (get_or xs k d))) xs
  remove_is [] k d up l = absurd (omega arith)
  remove_is (x ∷ xs) zero d up l =
      let n : ℕ = key x in
      let none : All (λ y. (key y == n) ≡ false) xs = λ j e m. ne_eqb (key (get_or xs j e)) n (λ same. let u = up_head x xs up j e m in omega (arith, u, same)) in
      sym (ap (λ b. cond (not b) (x ∷ filter (λ y. not (key y == n)) xs) (filter (λ y. not (key y == n)) xs)) (eq-eqb n n refl) ∙ filter_nowhere n xs none)
  remove_is (x ∷ xs) (suc k) d up l = grind (arith, nat_tests, remove_is xs k d (up_tail x xs up) (omega (arith, l)), up_head, up_tail, ne_eqb)
