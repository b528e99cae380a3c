-- Elements of lists: one that passes, and how many do.
use Rattle.std.proofs.Common.{◌≡◌, ℕ, zero, suc, ◌+◌, ◌<◌, ◌≤◌, ◌||◌, ◌⊎◌, inl, inr, ⊎_elim, cond, nat_lt, Bool, true, false, List, [], ◌∷◌, length, map, count_by, find, get_or, Some, refl, ap, sym, subst, ◌∙◌, arith, lt-ltb}
use Rattle.std.specs.List.{list_any}
use Rattle.std.proofs.lemmas.Bool.{false≢true, or_left, or_right, cases_lt}
use Rattle.iscsi_rules.proofs.general.CountLemmas.{one, count-cons}
use Rattle.iscsi_rules.proofs.general.ElementLemmas.{In}
use Rattle.iscsi_outbox_law.specs.private.Pairs.{EachOf, PairsOf}
use Rattle.iscsi_requests.specs.Conns.{of_conn}
use Rattle.iscsi_ffi_law.specs.Uses.{count_lists}

-- one that passes
pub record Passing {A : Type 0} (p : A → Bool) (xs : List A) : Type 0 where
  pub x : A
  pub there : In x xs
  pub passes : p x ≡ true

module _ {A : Type 0} where
  pub any_in : (p : A → Bool) (xs : List A) → list_any p xs ≡ true → Passing p xs
  any_in p [] h = absurd (false≢true h)
  any_in p (x ∷ xs) h = by_first (any_in p xs) (p x) refl h
    where
      by_first : (list_any p xs ≡ true → Passing p xs) → (v : Bool) → p x ≡ v → (v || list_any p xs) ≡ true → Passing p (x ∷ xs)
      by_first later true is k = record { x = x; there = inl refl; passes = is }
      by_first later false is k = let rest : Passing p xs = later k in record { x = rest.x; there = inr rest.there; passes = rest.passes }

  pub in_any : (p : A → Bool) (xs : List A) (x : A) → In x xs → p x ≡ true → list_any p xs ≡ true
  in_any p [] x h passes = absurd h
  in_any p (y ∷ xs) x h passes =
      ⊎_elim (λ same. or_left (p y) (list_any p xs) (ap p same ∙ passes)) (λ later. or_right (p y) (list_any p xs) (in_any p xs x later passes)) h

  pub each_in : (P : A → Type 0) (xs : List A) (x : A) → In x xs → EachOf P xs → P x
  each_in P [] x h all = absurd h
  each_in P (y ∷ xs) x h all = ⊎_elim (λ same. subst P same all.0) (λ later. each_in P xs x later all.1) h

  pub in_each : (P : A → Type 0) (xs : List A) → ((x : A) → In x xs → P x) → EachOf P xs
  in_each P [] h = tt
  in_each P (y ∷ xs) h = (h y (inl refl), in_each P xs (λ x there. h x (inr there)))

  pub any_counted : (p : A → Bool) (xs : List A) → list_any p xs ≡ nat_lt 0 (count_by p xs)
  any_counted p [] = refl
  any_counted p (x ∷ xs) = by_first (any_counted p xs) (p x) refl
    where
      by_first : list_any p xs ≡ nat_lt 0 (count_by p xs) → (v : Bool) → p x ≡ v → (p x || list_any p xs) ≡ nat_lt 0 (count_by p (x ∷ xs))
      by_first later true is =
          let all : count_by p (x ∷ xs) ≡ one (p x) + count_by p xs = count-cons p x xs in
          let more : one (p x) ≡ 1 = ap one is in
          ap (λ v. v || list_any p xs) is ∙ sym (lt-ltb 0 (count_by p (x ∷ xs)) (omega (arith, all, more)))
      by_first later false is =
          let all : count_by p (x ∷ xs) ≡ one (p x) + count_by p xs = count-cons p x xs in
          let none : one (p x) ≡ 0 = ap one is in
          let same : count_by p (x ∷ xs) ≡ count_by p xs = omega (arith, all, none) in
          ap (λ v. v || list_any p xs) is ∙ later ∙ ap (nat_lt 0) (sym same)

  pub counted_in : (p : A → Bool) (xs : List A) → 1 ≤ count_by p xs → Passing p xs
  counted_in p xs some = any_in p xs (any_counted p xs ∙ lt-ltb 0 (count_by p xs) (omega (arith, some)))

  pub in_counted : (p : A → Bool) (xs : List A) (x : A) → In x xs → p x ≡ true → 1 ≤ count_by p xs
  in_counted p [] x h passes = absurd h
  in_counted p (y ∷ xs) x h passes =
      let all : count_by p (y ∷ xs) ≡ one (p y) + count_by p xs = count-cons p y xs in
      ⊎_elim
      (λ same. let here : one (p y) ≡ 1 = ap one (ap p same ∙ passes) in omega (arith, all, here))
      (λ later. let rest : 1 ≤ count_by p xs = in_counted p xs x later passes in omega (arith, all, rest)) h

  -- one alone passes
  pub two_counted : (p : A → Bool) (xs : List A) (x y : A) → count_by p xs ≤ 1 → In x xs → In y xs → p x ≡ true → p y ≡ true → x ≡ y
  two_counted p [] x y few h k is too = absurd h
  two_counted p (z ∷ xs) x y few h k is too =
      let all : count_by p (z ∷ xs) ≡ one (p z) + count_by p xs = count-cons p z xs in
      ⊎_elim
      (λ same. ⊎_elim
      (λ alike. sym same ∙ alike)
      (λ later.
      let here : one (p z) ≡ 1 = ap one (ap p same ∙ is) in
      let rest : 1 ≤ count_by p xs = in_counted p xs y later too in
      absurd (let none : ⊥ = omega (arith, all, here, rest, few) in none)) k)
      (λ before. ⊎_elim
      (λ alike.
      let here : one (p z) ≡ 1 = ap one (ap p alike ∙ too) in
      let rest : 1 ≤ count_by p xs = in_counted p xs x before is in
      absurd (let none : ⊥ = omega (arith, all, here, rest, few) in none))
      (λ later. two_counted p xs x y (omega (arith, all, few)) before later is too) k) h

  pub find_in : (p : A → Bool) (xs : List A) (x : A) → find p xs ≡ Some x → In x xs × (p x ≡ true)
  find_in p [] x h = absurd cc
  find_in p (y ∷ xs) x h = by_first (find_in p xs x) (p y) refl h
    where
      by_first : (find p xs ≡ Some x → In x xs × (p x ≡ true)) → (v : Bool) → p y ≡ v → cond v (Some y) (find p xs) ≡ Some x → In x (y ∷ xs) × (p x ≡ true)
      by_first later true is k = let same : y ≡ x = cc in (inl same, ap p (sym same) ∙ is)
      by_first later false is k = let rest : In x xs × (p x ≡ true) = later k in (inr rest.0, rest.1)

  pub in_find : (p : A → Bool) (xs : List A) (x : A) → In x xs → p x ≡ true → (y : A) × (find p xs ≡ Some y)
  in_find p [] x h passes = absurd h
  in_find p (y ∷ xs) x h passes = by_first (p y) refl (⊎_elim (λ same. inl same) (λ later. inr (in_find p xs x later passes)) h)
    where
      by_first : (v : Bool) → p y ≡ v → (y ≡ x) ⊎ ((z : A) × (find p xs ≡ Some z)) → (z : A) × (cond (p y) (Some y) (find p xs) ≡ Some z)
      by_first true is k = (y, ap (λ v. cond v (Some y) (find p xs)) is)
      by_first false is k =
          ⊎_elim
          (λ same. absurd (false≢true (sym is ∙ ap p same ∙ passes)))
          (λ rest. (rest.0, ap (λ v. cond v (Some y) (find p xs)) is ∙ rest.1)) k

  -- ---- by places

  pub record PassingAt (p : A → Bool) (xs : List A) (d : A) : Type 0 where
    pub place : ℕ
    pub within : place < length xs
    pub passes : p (get_or xs place d) ≡ true

  pub any_at : (p : A → Bool) (xs : List A) (d : A) → list_any p xs ≡ true → PassingAt p xs d
  any_at p [] d h = absurd (false≢true h)
  any_at p (x ∷ xs) d h = by_first (any_at p xs d) (p x) refl h
    where
      by_first : (list_any p xs ≡ true → PassingAt p xs d) → (v : Bool) → p x ≡ v → (v || list_any p xs) ≡ true → PassingAt p (x ∷ xs) d
      by_first later true is k = record { place = 0; within = omega arith; passes = is }
      by_first later false is k = let rest : PassingAt p xs d = later k in record { place = suc rest.place; within = omega (arith, rest.within); passes = rest.passes }

  pub at_any : (p : A → Bool) (xs : List A) (place : ℕ) (d : A) → place < length xs → p (get_or xs place d) ≡ true → list_any p xs ≡ true
  at_any p [] place d within is = absurd (omega (arith, within))
  at_any p (x ∷ xs) zero d within is = or_left (p x) (list_any p xs) is
  at_any p (x ∷ xs) (suc place) d within is = or_right (p x) (list_any p xs) (at_any p xs place d (omega (arith, within)) is)

  pub record CountedAt (p : A → Bool) (lists : List (List A)) : Type 0 where
    pub place : ℕ
    pub within : place < length lists
    pub some : 1 ≤ count_by p (of_conn place lists)

  pub lists_counted : (p : A → Bool) (lists : List (List A)) → 1 ≤ count_lists p lists → CountedAt p lists
  lists_counted p [] some = absurd (let none : ⊥ = omega (arith, some) in none)
  lists_counted p (xs ∷ lists) some =
      ⊎_elim
      (λ here. record { place = 0; within = omega arith; some = omega (arith, here) })
      (λ none. let rest : CountedAt p lists = lists_counted p lists (omega (arith, some, none)) in record { place = suc rest.place; within = omega (arith, rest.within); some = rest.some })
      (cases_lt 0 (count_by p xs))

-- ---- pairs

pub record Paired {A B : Type 0} (R : A → B → Type 0) (x : A) (ys : List B) : Type 0 where
  pub y : B
  pub there : In y ys
  pub pair : R x y

pub pairs_in : {A B : Type 0} (R : A → B → Type 0) (xs : List A) (ys : List B) (x : A) → In x xs → PairsOf R xs ys → Paired R x ys
pairs_in R [] ys x h all = absurd h
pairs_in R (z ∷ xs) [] x h all = absurd all
pairs_in R (z ∷ xs) (y ∷ ys) x h all =
    ⊎_elim
    (λ same. record { y = y; there = inl refl; pair = subst (λ w. R w y) same all.0 })
    (λ later. let rest : Paired R x ys = pairs_in R xs ys x later all.1 in record { y = rest.y; there = inr rest.there; pair = rest.pair }) h

pub in_pairs : {A B : Type 0} (R : A → B → Type 0) (xs : List A) (ys : List B) (y : B) → In y ys → PairsOf R xs ys → (x : A) × In x xs × R x y
in_pairs R xs [] y h all = absurd h
in_pairs R [] (z ∷ ys) y h all = absurd all
in_pairs R (x ∷ xs) (z ∷ ys) y h all =
    ⊎_elim
    (λ same. (x, inl refl, subst (λ w. R x w) same all.0))
    (λ later. let rest = in_pairs R xs ys y later all.1 in (rest.0, inr rest.1, rest.2)) h

pub map_in : {A B : Type 0} (f : A → B) (xs : List A) (y : B) → In y (map f xs) → (x : A) × In x xs × (f x ≡ y)
map_in f [] y h = absurd h
map_in f (x ∷ xs) y h = ⊎_elim (λ same. (x, inl refl, same)) (λ later. let rest = map_in f xs y later in (rest.0, inr rest.1, rest.2)) h
