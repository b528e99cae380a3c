-- Lists that go together, place by place.
use Rattle.std.proofs.Common.{◌≡◌, ℕ, zero, suc, ◌+◌, ◌<◌, ◌||◌, cond, Bool, true, false, List, [], ◌∷◌, ◌++◌, length, map, filter, count_by, get_or, set, refl, ap, sym, subst, ◌∙◌, arith, drop}
use Rattle.std.specs.List.{list_any}
use Rattle.std.proofs.lemmas.Bool.{cond_both}
use Rattle.std.proofs.lemmas.List.Sums.{sum_by-cons}
use Rattle.iscsi_outbox_law.specs.private.Pairs.{PairsOf, EachOf}

-- ---- each element

module _ {A : Type 0} where
  pub each-append : (P : A → Type 0) (xs ys : List A) → EachOf P xs → EachOf P ys → EachOf P (xs ++ ys)
  each-append P [] ys h k = k
  each-append P (x ∷ xs) ys h k = (h.0, each-append P xs ys h.1 k)

  pub each-weaken : (P Q : A → Type 0) (xs : List A) → ((x : A) → P x → Q x) → EachOf P xs → EachOf Q xs
  each-weaken P Q [] f h = tt
  each-weaken P Q (x ∷ xs) f h = (f x h.0, each-weaken P Q xs f h.1)

  pub each-filter : (P : A → Type 0) (p : A → Bool) (xs : List A) → EachOf P xs → EachOf P (filter p xs)
  each-filter P p [] h = tt
  each-filter P p (x ∷ xs) h = cond_both (p x) (x ∷ filter p xs) (filter p xs) (EachOf P) (λ is. (h.0, each-filter P p xs h.1)) (λ is. each-filter P p xs h.1)

  pub each-both : (P Q : A → Type 0) (xs : List A) → EachOf P xs → EachOf Q xs → EachOf (λ x. P x × Q x) xs
  each-both P Q [] h k = tt
  each-both P Q (x ∷ xs) h k = ((h.0, k.0), each-both P Q xs h.1 k.1)

  pub each-at : (P : A → Type 0) (xs : List A) (n : ℕ) (d : A) → n < length xs → EachOf P xs → P (get_or xs n d)
  each-at P [] n d lt h = absurd (omega (arith, lt))
  each-at P (x ∷ xs) zero d lt h = h.0
  each-at P (x ∷ xs) (suc n) d lt h = each-at P xs n d (omega (arith, lt)) h.1

  pub each-set : (P : A → Type 0) (xs : List A) (n : ℕ) (y : A) → P y → EachOf P xs → EachOf P (set xs n y)
  each-set P [] n y k h = tt
  each-set P (x ∷ xs) zero y k h = (k, h.1)
  each-set P (x ∷ xs) (suc n) y k h = (h.0, each-set P xs n y k h.1)

  -- one of them is another one that passes as it does
  pub any-set : (p : A → Bool) (xs : List A) (n : ℕ) (y d : A) → p y ≡ p (get_or xs n d) → list_any p (set xs n y) ≡ list_any p xs
  any-set p [] n y d same = refl
  any-set p (x ∷ xs) zero y d same = ap (λ (v : Bool). v || list_any p xs) same
  any-set p (x ∷ xs) (suc n) y d same = ap (λ (v : Bool). p x || v) (any-set p xs n y d same)

pub each-map : {A B : Type 0} (P : A → Type 0) (Q : B → Type 0) (g : A → B) (xs : List A) → ((x : A) → P x → Q (g x)) → EachOf P xs → EachOf Q (map g xs)
each-map P Q g [] f h = tt
each-map P Q g (x ∷ xs) f h = (f x h.0, each-map P Q g xs f h.1)

pub each-new : {A B : Type 0} (Q : B → Type 0) (g : A → B) (xs : List A) → ((x : A) → Q (g x)) → EachOf Q (map g xs)
each-new Q g [] f = tt
each-new Q g (x ∷ xs) f = (f x, each-new Q g xs f)

-- ---- pairs

module _ {A B : Type 0} where
  pub pairs-length : (R : A → B → Type 0) (xs : List A) (ys : List B) → PairsOf R xs ys → length xs ≡ length ys
  pairs-length R [] [] h = refl
  pairs-length R (x ∷ xs) (y ∷ ys) h = ap suc (pairs-length R xs ys h.1)
  pairs-length R [] (y ∷ ys) h = absurd h
  pairs-length R (x ∷ xs) [] h = absurd h

  pub pairs-weaken : (R S : A → B → Type 0) (xs : List A) (ys : List B) → ((x : A) (y : B) → R x y → S x y) → PairsOf R xs ys → PairsOf S xs ys
  pairs-weaken R S [] [] f h = tt
  pairs-weaken R S (x ∷ xs) (y ∷ ys) f h = (f x y h.0, pairs-weaken R S xs ys f h.1)
  pairs-weaken R S [] (y ∷ ys) f h = absurd h
  pairs-weaken R S (x ∷ xs) [] f h = absurd h

  pub pairs-append : (R : A → B → Type 0) (xs vs : List A) (ys ws : List B) → PairsOf R xs ys → PairsOf R vs ws → PairsOf R (xs ++ vs) (ys ++ ws)
  pairs-append R [] vs [] ws h k = k
  pairs-append R (x ∷ xs) vs (y ∷ ys) ws h k = (h.0, pairs-append R xs vs ys ws h.1 k)
  pairs-append R [] vs (y ∷ ys) ws h k = absurd h
  pairs-append R (x ∷ xs) vs [] ws h k = absurd h

  pub pairs-any : (R : A → B → Type 0) (p : A → Bool) (q : B → Bool) (xs : List A) (ys : List B) → ((x : A) (y : B) → R x y → p x ≡ q y) → PairsOf R xs ys → list_any p xs ≡ list_any q ys
  pairs-any R p q [] [] f h = refl
  pairs-any R p q (x ∷ xs) (y ∷ ys) f h = ap (λ (v : Bool). v || list_any p xs) (f x y h.0) ∙ ap (λ (v : Bool). q y || v) (pairs-any R p q xs ys f h.1)
  pairs-any R p q [] (y ∷ ys) f h = absurd h
  pairs-any R p q (x ∷ xs) [] f h = absurd h

  pub pairs-count : (R : A → B → Type 0) (p : A → Bool) (q : B → Bool) (xs : List A) (ys : List B) → ((x : A) (y : B) → R x y → p x ≡ q y) → PairsOf R xs ys → count_by p xs ≡ count_by q ys
  pairs-count R p q [] [] f h = refl
  pairs-count R p q (x ∷ xs) (y ∷ ys) f h =
      sum_by-cons (λ (z : A). cond (p z) 1 0) x xs ∙ ap (λ (v : Bool). cond v 1 0 + count_by p xs) (f x y h.0) ∙ ap (λ n. cond (q y) 1 0 + n) (pairs-count R p q xs ys f h.1)
      ∙ sym (sum_by-cons (λ (z : B). cond (q z) 1 0) y ys)
  pairs-count R p q [] (y ∷ ys) f h = absurd h
  pairs-count R p q (x ∷ xs) [] f h = absurd h

  pub pairs-filter : (R : A → B → Type 0) (p : A → Bool) (q : B → Bool) (xs : List A) (ys : List B) → ((x : A) (y : B) → R x y → p x ≡ q y) → PairsOf R xs ys → PairsOf R (filter p xs) (filter q ys)
  pairs-filter R p q [] [] f h = tt
  pairs-filter R p q (x ∷ xs) (y ∷ ys) f h =
      let rest : PairsOf R (filter p xs) (filter q ys) = pairs-filter R p q xs ys f h.1 in
      subst (λ (v : Bool). PairsOf R (cond v (x ∷ filter p xs) (filter p xs)) (cond (q y) (y ∷ filter q ys) (filter q ys))) (sym (f x y h.0))
      (elim (q y) as (λ v. PairsOf R (cond v (x ∷ filter p xs) (filter p xs)) (cond v (y ∷ filter q ys) (filter q ys))) [ true ↦ (h.0, rest) | false ↦ rest ])
  pairs-filter R p q [] (y ∷ ys) f h = absurd h
  pairs-filter R p q (x ∷ xs) [] f h = absurd h

  pub pairs-at : (R : A → B → Type 0) (xs : List A) (ys : List B) (n : ℕ) (d : A) (e : B) → n < length ys → PairsOf R xs ys → R (get_or xs n d) (get_or ys n e)
  pairs-at R [] [] n d e lt h = absurd (omega arith)
  pairs-at R (x ∷ xs) (y ∷ ys) zero d e lt h = h.0
  pairs-at R (x ∷ xs) (y ∷ ys) (suc n) d e lt h = pairs-at R xs ys n d e (omega arith) h.1
  pairs-at R [] (y ∷ ys) n d e lt h = absurd h
  pairs-at R (x ∷ xs) [] n d e lt h = absurd h

  pub pairs-set : (R : A → B → Type 0) (xs : List A) (ys : List B) (n : ℕ) (x : A) (y : B) → R x y → PairsOf R xs ys → PairsOf R (set xs n x) (set ys n y)
  pairs-set R [] [] n x y r h = tt
  pairs-set R (v ∷ xs) (w ∷ ys) zero x y r h = (r, h.1)
  pairs-set R (v ∷ xs) (w ∷ ys) (suc n) x y r h = (h.0, pairs-set R xs ys n x y r h.1)
  pairs-set R [] (w ∷ ys) n x y r h = absurd h
  pairs-set R (v ∷ xs) [] n x y r h = absurd h

-- but for the first of each
pub pairs-drop : {A B : Type 0} (R : A → B → Type 0) (xs : List A) (ys : List B) → PairsOf R xs ys → PairsOf R (drop 1 xs) (drop 1 ys)
pairs-drop R [] [] h = tt
pairs-drop R (x ∷ xs) (y ∷ ys) h = h.1
pairs-drop R [] (y ∷ ys) h = absurd h
pairs-drop R (x ∷ xs) [] h = absurd h

pub pairs-map : {A B C D : Type 0} (R : A → B → Type 0) (S : C → D → Type 0) (f : A → C) (g : B → D) (xs : List A) (ys : List B) → ((x : A) (y : B) → R x y → S (f x) (g y)) → PairsOf R xs ys → PairsOf S (map f xs) (map g ys)
pairs-map R S f g [] [] k h = tt
pairs-map R S f g (x ∷ xs) (y ∷ ys) k h = (k x y h.0, pairs-map R S f g xs ys k h.1)
pairs-map R S f g [] (y ∷ ys) k h = absurd h
pairs-map R S f g (x ∷ xs) [] k h = absurd h
