-- Elements of lists.
use Rattle.std.proofs.Common.{◌≡◌, ℕ, zero, suc, ◌<◌, ◌⊎◌, inl, inr, ⊎_elim, cond, Bool, true, false, List, [], ◌∷◌, length, filter, get_or, Some, refl, ap, sym, subst, ◌∙◌, arith}
use Rattle.std.specs.List.{find, list_any}
use Rattle.std.proofs.lemmas.Bool.{false≢true, or_cases, or_left, or_right}
use Rattle.iscsi_outbox_law.specs.private.Pairs.{PairsOf, EachOf, InOrder}

pub same_tests : (x y : Bool) → (x ≡ true → y ≡ true) → (y ≡ true → x ≡ true) → x ≡ y
same_tests true y f g = sym (f refl)
same_tests false true f g = g refl
same_tests false false f g = refl

abbrev pub In : {A : Type 0} → A → List A → Type 0
In x [] = ⊥
In x (y ∷ ys) = (x ≡ y) ⊎ In x ys

module _ {A : Type 0} where
  pub each-in : (P : A → Type 0) (xs : List A) (x : A) → In x xs → EachOf P xs → P x
  each-in P [] x at h = absurd at
  each-in P (y ∷ xs) x at h = ⊎_elim (λ same. subst P (sym same) h.0) (λ later. each-in P xs x later h.1) at

  pub any_found : (p : A → Bool) (xs : List A) → list_any p xs ≡ true → (x : A) × In x xs × (p x ≡ true)
  any_found p [] some = absurd (false≢true some)
  any_found p (y ∷ xs) some =
      ⊎_elim (λ here. (y, inl refl, here)) (λ later. let k : (x : A) × In x xs × (p x ≡ true) = any_found p xs later in (k.0, inr k.1, k.2)) (or_cases (p y) (list_any p xs) some)

  pub any_from : (p : A → Bool) (xs : List A) (x : A) → In x xs → p x ≡ true → list_any p xs ≡ true
  any_from p [] x at is = absurd at
  any_from p (y ∷ xs) x at is =
      ⊎_elim (λ same. or_left (p y) (list_any p xs) (sym (ap p same) ∙ is)) (λ later. or_right (p y) (list_any p xs) (any_from p xs x later is)) at

  pub any_index : (p : A → Bool) (xs : List A) (d : A) → list_any p xs ≡ true → (n : ℕ) × (n < length xs) × (p (get_or xs n d) ≡ true)
  any_index p [] d some = absurd (false≢true some)
  any_index p (y ∷ xs) d some =
      ⊎_elim (λ here. (0, (let z : 0 < suc (length xs) = omega arith in z), here))
      (λ later. let k : (n : ℕ) × (n < length xs) × (p (get_or xs n d) ≡ true) = any_index p xs d later in (suc k.0, (let z : suc k.0 < suc (length xs) = omega (arith, k.1) in z), k.2))
      (or_cases (p y) (list_any p xs) some)

  pub index_any : (p : A → Bool) (xs : List A) (n : ℕ) (d : A) → n < length xs → p (get_or xs n d) ≡ true → list_any p xs ≡ true
  index_any p [] n d lt is = absurd (omega (arith, lt))
  index_any p (y ∷ xs) zero d lt is = or_left (p y) (list_any p xs) is
  index_any p (y ∷ xs) (suc n) d lt is = or_right (p y) (list_any p xs) (index_any p xs n d (omega (arith, lt)) is)

  pub index_in : (xs : List A) (n : ℕ) (d : A) → n < length xs → In (get_or xs n d) xs
  index_in [] n d lt = omega (arith, lt)
  index_in (y ∷ xs) zero d lt = inl refl
  index_in (y ∷ xs) (suc n) d lt = inr (index_in xs n d (omega (arith, lt)))

  -- whatever passes the one passes the other
  pub any_more : (p q : A → Bool) (xs : List A) → ((x : A) → p x ≡ true → q x ≡ true) → list_any p xs ≡ true → list_any q xs ≡ true
  any_more p q [] more some = some
  any_more p q (y ∷ xs) more some =
      ⊎_elim (λ here. or_left (q y) (list_any q xs) (more y here)) (λ later. or_right (q y) (list_any q xs) (any_more p q xs more later)) (or_cases (p y) (list_any p xs) some)

  pub in_filter : (p : A → Bool) (xs : List A) (x : A) → In x (filter p xs) → In x xs × (p x ≡ true)
  in_filter p [] x at = absurd at
  in_filter p (y ∷ xs) x at =
      let rest : In x (filter p xs) → In x xs × (p x ≡ true) = in_filter p xs x in
      elim (p y) as (λ v. p y ≡ v → In x (cond v (y ∷ filter p xs) (filter p xs)) → In x (y ∷ xs) × (p x ≡ true)) [
        | true ↦ λ is k. ⊎_elim (λ same. (inl same, ap p same ∙ is)) (λ later. (inr (rest later).0, (rest later).1)) k
        | false ↦ λ is k. (inr (rest k).0, (rest k).1)
      ] refl at

  pub filter_in : (p : A → Bool) (xs : List A) (x : A) → In x xs → p x ≡ true → In x (filter p xs)
  filter_in p [] x at is = at
  filter_in p (y ∷ xs) x at is =
      let rest : In x xs → In x (filter p xs) = λ k. filter_in p xs x k is in
      elim (p y) as (λ v. p y ≡ v → In x (cond v (y ∷ filter p xs) (filter p xs))) [
        | true ↦ λ yes. ⊎_elim (λ same. inl same) (λ later. inr (rest later)) at
        | false ↦ λ never. ⊎_elim (λ same. absurd (false≢true (sym never ∙ sym (ap p same) ∙ is))) (λ later. rest later) at
      ] refl

  pub find_in : (p : A → Bool) (xs : List A) (x : A) → find p xs ≡ Some x → In x xs × (p x ≡ true)
  find_in p [] x found = absurd cc
  find_in p (y ∷ xs) x found =
      let rest : find p xs ≡ Some x → In x xs × (p x ≡ true) = find_in p xs x in
      elim (p y) as (λ v. p y ≡ v → cond v (Some y) (find p xs) ≡ Some x → In x (y ∷ xs) × (p x ≡ true)) [
        | true ↦ λ is k. let same : x ≡ y = cc in (inl same, ap p same ∙ is)
        | false ↦ λ is k. (inr (rest k).0, (rest k).1)
      ] refl found

  -- the one that passes is found, where no two pass
  pub in_find : (p : A → Bool) (xs : List A) (x : A) → In x xs → p x ≡ true → InOrder (λ (y z : A). p y ≡ true → p z ≡ true → ⊥) xs → find p xs ≡ Some x
  in_find p [] x at is apart = absurd at
  in_find p (y ∷ xs) x at is apart =
      ⊎_elim (λ same. ap (λ (v : Bool). cond v (Some y) (find p xs)) (sym (ap p same) ∙ is) ∙ ap Some (sym same))
      (λ later.
      let rest : find p xs ≡ Some x = in_find p xs x later is apart.1 in
      elim (p y) as (λ v. p y ≡ v → cond v (Some y) (find p xs) ≡ Some x) [
        | true ↦ λ yes. absurd (each-in (λ z. p y ≡ true → p z ≡ true → ⊥) xs x later apart.0 yes is)
        | false ↦ λ never. rest
      ] refl) at

  pub order-weaken : (R S : A → A → Type 0) (xs : List A) → ((x y : A) → R x y → S x y) → InOrder R xs → InOrder S xs
  order-weaken R S [] f h = tt
  order-weaken R S (x ∷ xs) f h = (each-more (R x) (S x) xs (f x) h.0, order-weaken R S xs f h.1)
    where
      each-more : (P Q : A → Type 0) (ys : List A) → ((y : A) → P y → Q y) → EachOf P ys → EachOf Q ys
      each-more P Q [] g k = tt
      each-more P Q (y ∷ ys) g k = (g y k.0, each-more P Q ys g k.1)

module _ {A B : Type 0} where
  -- what goes together with an element
  pub pair_of : (R : A → B → Type 0) (xs : List A) (ys : List B) (x : A) → In x xs → PairsOf R xs ys → (y : B) × In y ys × R x y
  pair_of R [] ys x at h = absurd at
  pair_of R (z ∷ xs) [] x at h = absurd h
  pair_of R (z ∷ xs) (y ∷ ys) x at h =
      ⊎_elim (λ same. (y, inl refl, subst (λ w. R w y) (sym same) h.0))
      (λ later. let k : (w : B) × In w ys × R x w = pair_of R xs ys x later h.1 in (k.0, inr k.1, k.2)) at

  pub pair_for : (R : A → B → Type 0) (xs : List A) (ys : List B) (y : B) → In y ys → PairsOf R xs ys → (x : A) × In x xs × R x y
  pair_for R xs [] y at h = absurd at
  pair_for R [] (w ∷ ys) y at h = absurd h
  pair_for R (x ∷ xs) (w ∷ ys) y at h =
      ⊎_elim (λ same. (x, inl refl, subst (λ z. R x z) (sym same) h.0))
      (λ later. let k : (z : A) × In z xs × R z y = pair_for R xs ys y later h.1 in (k.0, inr k.1, k.2)) at
