-- Lists: what some element passes, and in which order elements stand.
use Rattle.std.proofs.Common.{◌≡◌, ⊎_elim, cond, Bool, true, false, List, [], ◌∷◌, ◌++◌, map, filter, refl}
use Rattle.std.specs.List.{list_any}
use Rattle.std.proofs.lemmas.Bool.{or_cases, or_left, or_right}
use Rattle.iscsi_outbox_law.specs.private.Pairs.{EachOf, InOrder}

module _ {A B : Type 0} (p : A → Bool) (q : B → Bool) (g : A → B) where
  pub any_mapped : (xs : List A) → ((x : A) → p x ≡ true → q (g x) ≡ true) → list_any p xs ≡ true → list_any q (map g xs) ≡ true
  any_mapped [] f some = some
  any_mapped (x ∷ xs) f some =
      ⊎_elim (λ here. or_left (q (g x)) (list_any q (map g xs)) (f x here)) (λ later. or_right (q (g x)) (list_any q (map g xs)) (any_mapped xs f later)) (or_cases (p x) (list_any p xs) some)

  pub any_unmapped : (xs : List A) → ((x : A) → q (g x) ≡ true → p x ≡ true) → list_any q (map g xs) ≡ true → list_any p xs ≡ true
  any_unmapped [] f some = some
  any_unmapped (x ∷ xs) f some =
      ⊎_elim (λ here. or_left (p x) (list_any p xs) (f x here)) (λ later. or_right (p x) (list_any p xs) (any_unmapped xs f later)) (or_cases (q (g x)) (list_any q (map g xs)) some)

module _ {A : Type 0} where
  -- those that are kept pass
  pub each_passing : (P : A → Type 0) (p : A → Bool) (xs : List A) → EachOf P xs → EachOf (λ x. P x × (p x ≡ true)) (filter p xs)
  each_passing P p [] h = tt
  each_passing P p (x ∷ xs) h =
      let rest : EachOf (λ y. P y × (p y ≡ true)) (filter p xs) = each_passing P p xs h.1 in
      elim (p x) as (λ v. p x ≡ v → EachOf (λ y. P y × (p y ≡ true)) (cond v (x ∷ filter p xs) (filter p xs))) [ true ↦ λ is. ((h.0, is), rest) | false ↦ λ is. rest ] refl

  pub order_join : (R : A → A → Type 0) (xs ys : List A) → InOrder R xs → InOrder R ys → EachOf (λ x. EachOf (R x) ys) xs → InOrder R (xs ++ ys)
  order_join R [] ys h k across = k
  order_join R (x ∷ xs) ys h k across = (join (R x) xs ys h.0 across.0, order_join R xs ys h.1 k across.1)
    where
      join : (P : A → Type 0) (us vs : List A) → EachOf P us → EachOf P vs → EachOf P (us ++ vs)
      join P [] vs i j = j
      join P (u ∷ us) vs i j = (i.0, join P us vs i.1 j)
