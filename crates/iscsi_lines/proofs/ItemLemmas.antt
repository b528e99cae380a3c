-- The items of slots, where the item of one slot changes, or a slot is taken out.
use Rattle.std.proofs.Common.{◌≡◌, ℕ, ◌<◌, Bool, true, List, [], ◌∷◌, ◌++◌, length, get_or, set, refl, ap, sym, subst, ◌∙◌, ⊎_elim}
use Rattle.std.proofs.lemmas.Bool.{cases_eq}
use Rattle.std.proofs.lemmas.List.{get_or-set_same, get_or-set_other}
use Rattle.iscsi_slots.specs.Slots.{times}
use Rattle.iscsi_lists.specs.Lists.{without}
use Rattle.iscsi_lists.proofs.WithoutLemmas.{without_same, without_other, not_first, none_behind}
use Rattle.iscsi_lines.specs.declared.item.Item.{Item}
use Rattle.iscsi_lines.specs.Lines.{BLANK, items_of}
use Rattle.iscsi_lines.specs.Settling.{AllAre}

pub items_append : (values : List Item) (xs ys : List ℕ) → items_of values (xs ++ ys) ≡ items_of values xs ++ items_of values ys
items_append values [] ys = refl
items_append values (x ∷ xs) ys = ap (λ r. get_or values x BLANK ∷ r) (items_append values xs ys)

pub items_fresh : (values : List Item) (s : ℕ) (x : Item) (xs : List ℕ) → times s xs ≡ 0 → items_of (set values s x) xs ≡ items_of values xs
items_fresh values s x [] none = refl
items_fresh values s x (y ∷ ys) none =
    ap (λ i. i ∷ items_of (set values s x) ys) (get_or-set_other values s y x BLANK (not_first s y ys none))
    ∙ ap (λ r. get_or values y BLANK ∷ r) (items_fresh values s x ys (none_behind s y ys none))

-- ---- what holds of all

pub all_append : (test : Item → Bool) (xs ys : List Item) → AllAre test xs → AllAre test ys → AllAre test (xs ++ ys)
all_append test [] ys a b = b
all_append test (x ∷ xs) ys a b = (a.0, all_append test xs ys a.1 b)

module _ (test : Item → Bool) (values : List Item) (s : ℕ) where
  pub all_set : (x : Item) (xs : List ℕ) → s < length values → test x ≡ true → AllAre test (items_of values xs) → AllAre test (items_of (set values s x) xs)
  all_set x [] l on all = tt
  all_set x (y ∷ ys) l on all = (
    ⊎_elim
        (λ same. ap test (ap (λ k. get_or (set values s x) k BLANK) same ∙ get_or-set_same values s x BLANK l) ∙ on)
        (λ other. ap test (get_or-set_other values s y x BLANK other) ∙ all.0)
        (cases_eq y s),
    all_set x ys l on all.1,
  )

  pub all_without : (xs : List ℕ) → AllAre test (items_of values xs) → AllAre test (items_of values (without s xs))
  all_without [] all = tt
  all_without (y ∷ ys) all = ⊎_elim
      (λ same. subst (λ r. AllAre test (items_of values r)) (sym (without_same s y ys same)) (all_without ys all.1))
      (λ other. subst (λ r. AllAre test (items_of values r)) (sym (without_other s y ys other)) (all.0, all_without ys all.1))
      (cases_eq y s)
