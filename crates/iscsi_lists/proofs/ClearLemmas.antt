-- A list, as its values are taken out one after the other.
use Rattle.std.proofs.Common.{◌≤◌, ◌≡◌, ℕ, zero, suc, ◌<◌, List, [], ◌∷◌, ◌++◌, length, get_or, set, Option, Some, None, false, refl, ap, sym, subst, ◌∙◌, arith}
use Rattle.std.proofs.lemmas.List.{get_or-set_same, length-set, set-set, append-nil}
use Rattle.std.specs.Option.{is_some}
use Rattle.std.proofs.lemmas.Bool.{true≢false}
use Rattle.iscsi_lists.specs.Lists.{Listed, listed, first_of}
use Rattle.iscsi_lists.proofs.WithoutLemmas.{append_one}

-- so far some of its values were taken out, from the first one on
pub record IsClearing {X : Type 0} (before now : Listed X) (i : ℕ) : Type 0 where
  pub here : i < length now.lists
  pub free : now.free ++ get_or now.lists i [] ≡ before.free ++ get_or before.lists i []
  pub lists : now.lists ≡ set before.lists i (get_or now.lists i [])
  pub room : now.room ≡ before.room
  pub values : now.values ≡ before.values

set_same : (i : ℕ) (lists : List (List ℕ)) → i < length lists → lists ≡ set lists i (get_or lists i [])
set_same i [] l = absurd (omega (arith, l))
set_same zero (xs ∷ lists) l = refl
set_same (suc i) (xs ∷ lists) l = ap (λ r. xs ∷ r) (set_same i lists (omega (arith, l)))

module _ {X : Type 0} (before : Listed X) (i : ℕ) where
  pub begins : i < length before.lists → IsClearing before before i
  begins l = record { here = l; free = refl; lists = set_same i before.lists l; room = refl; values = refl }

  module _ (now : Listed X) (is : IsClearing before now i) where
    pub goes_on : (t : ℕ) (rest : List ℕ) → get_or now.lists i [] ≡ t ∷ rest → IsClearing before (listed (now.free ++ t ∷ []) (set now.lists i rest) now.room now.values) i
    goes_on t rest at =
        let left : get_or (set now.lists i rest) i [] ≡ rest = get_or-set_same now.lists i rest [] is.here in
        record {
          here = let a = length-set now.lists i rest in let b = is.here in omega (arith, a, b);
          free = ap (λ r. (now.free ++ t ∷ []) ++ r) left ∙ sym (append_one now.free rest t) ∙ sym (ap (λ r. now.free ++ r) at) ∙ is.free;
          lists = ap (λ ls. set ls i rest) is.lists ∙ set-set before.lists i (get_or now.lists i []) rest ∙ sym (ap (set before.lists i) left);
          room = is.room;
          values = is.values;
        }

    pub ends : get_or now.lists i [] ≡ [] → now ≡ record before { free = before.free ++ get_or before.lists i []; lists = set before.lists i [] }
    ends none =
        ap (λ f. listed f now.lists now.room now.values) (sym (append-nil now.free) ∙ sym (ap (λ r. now.free ++ r) none) ∙ is.free)
        ∙ ap (λ ls. listed (before.free ++ get_or before.lists i []) ls now.room now.values) (is.lists ∙ ap (set before.lists i) none)
        ∙ ap (λ r. listed (before.free ++ get_or before.lists i []) (set before.lists i []) r now.values) is.room
        ∙ ap (listed (before.free ++ get_or before.lists i []) (set before.lists i []) before.room) is.values

-- a list that isn't empty
pub record Begins (slots : List ℕ) : Type 0 where
  pub first : ℕ
  pub rest : List ℕ
  pub at : slots ≡ first ∷ rest

pub begins_with : (slots : List ℕ) → (slots ≡ [] → ⊥) → Begins slots
begins_with [] some = absurd (some refl)
begins_with (s ∷ slots) some = record { first = s; rest = slots; at = refl }

module _ {X : Type 0} (before : Listed X) (i : ℕ) (now : Listed X) (is : IsClearing before now i) (some : get_or now.lists i [] ≡ [] → ⊥) (after : Listed X)
    (taken : (t : ℕ) (rest : List ℕ) → get_or now.lists i [] ≡ t ∷ rest → after ≡ record now { free = now.free ++ t ∷ []; lists = set now.lists i rest }) where
  it : Begins (get_or now.lists i [])
  it = begins_with (get_or now.lists i []) some

  pub clearing : IsClearing before after i
  clearing = subst (λ s. IsClearing before s i) (sym (taken it.first it.rest it.at)) (goes_on before i now is it.first it.rest it.at)

  pub shorter : length (get_or after.lists i []) < length (get_or now.lists i [])
  shorter =
      let left = ap (λ (s : Listed X). length (get_or s.lists i [])) (taken it.first it.rest it.at) ∙ ap length (get_or-set_same now.lists i it.rest [] is.here) in
      let long = ap length it.at in omega (arith, left, long)

pub none_first : (slots : List ℕ) → first_of slots ≡ None → slots ≡ []
none_first [] e = refl
none_first (s ∷ slots) e = cc

pub not_some : {X : Type 0} (o : Option X) → is_some o ≡ false → o ≡ None
not_some None e = refl
not_some (Some x) e = absurd (true≢false e)

pub length_some : (slots : List ℕ) → (slots ≡ [] → ⊥) → 1 ≤ length slots
length_some [] some = absurd (some refl)
length_some (s ∷ slots) some = omega arith
