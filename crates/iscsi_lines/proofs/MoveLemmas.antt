-- The lists of slots, where one goes behind another list, or is taken out.
use Rattle.std.proofs.Common.{◌≡◌, ◌≢◌, ℕ, zero, suc, ◌<◌, ◌≤◌, List, [], ◌∷◌, ◌++◌, length, map, get_or, refl, ap, sym, ◌∙◌, arith, ⊎_elim}
use Rattle.std.proofs.lemmas.Bool.{cases_lt}
use Rattle.std.proofs.lemmas.List.{get_or-set_same, get_or-set_other, length-map}
use Rattle.iscsi_slots.specs.Slots.{times}
use Rattle.iscsi_lists.specs.Lists.{times_in, total, without, with_last}
use Rattle.iscsi_lists.proofs.PlaceLemmas.{times_any, only_there, nth_map}
use Rattle.iscsi_lists.proofs.WithoutLemmas.{times_same, without_same, without_none}

pub length_any : (k : ℕ) (lists : List (List ℕ)) → length (get_or lists k []) ≤ total lists
length_any zero [] = omega arith
length_any (suc k) [] = omega arith
length_any zero (xs ∷ lists) = omega arith
length_any (suc k) (xs ∷ lists) = let rest = length_any k lists in omega (arith, rest)

-- the list that a slot stands in
pub record StandsIn (s : ℕ) (lists : List (List ℕ)) : Type 0 where
  pub list : ℕ
  pub within : list < length lists
  pub there : 1 ≤ times s (get_or lists list [])

pub stands_in : (s : ℕ) (lists : List (List ℕ)) → 1 ≤ times_in s lists → StandsIn s lists
stands_in s [] there = absurd (omega (arith, there))
stands_in s (xs ∷ lists) there = ⊎_elim
    (λ here. record { list = 0; within = omega arith; there = here })
    (λ none. let rest = stands_in s lists (omega (arith, there, none)) in record { list = suc rest.list; within = let a = rest.within in omega (arith, a); there = rest.there })
    (cases_lt 0 (times s xs))

-- ---- a slot goes from the front of one list behind another one

module _ (lists : List (List ℕ)) (s from to : ℕ) (rest : List ℕ) (at : get_or lists from [] ≡ s ∷ rest) (apart : from ≢ to) (once : times_in s lists ≤ 1) where
  there : 1 ≤ times s (get_or lists from [])
  there = let a = ap (times s) at in let b = times_same s s rest refl in omega (arith, a, b)

  none_else : (k : ℕ) → k ≢ from → times s (get_or lists k []) ≡ 0
  none_else k other = only_there s from k lists there once other

  none_behind_it : times s rest ≡ 0
  none_behind_it =
      let a = ap (times s) at in let b = times_same s s rest refl in let c = times_any s from lists in omega (arith, a, b, c, once)

  pub moved_onto : to < length lists → get_or (with_last to s (map (without s) lists)) to [] ≡ get_or lists to [] ++ s ∷ []
  moved_onto l =
      get_or-set_same (map (without s) lists) to (get_or (map (without s) lists) to [] ++ s ∷ []) [] (let a = length-map lists (without s) in omega (arith, a, l))
      ∙ ap (λ xs. xs ++ s ∷ []) (nth_map s to lists ∙ without_none s (get_or lists to []) (none_else to (λ e. apart (sym e))))

  pub moved_left : get_or (with_last to s (map (without s) lists)) from [] ≡ rest
  moved_left =
      get_or-set_other (map (without s) lists) to from (get_or (map (without s) lists) to [] ++ s ∷ []) [] apart
      ∙ nth_map s from lists ∙ ap (without s) at ∙ without_same s s rest refl ∙ without_none s rest none_behind_it

  pub moved_others : (k : ℕ) → k ≢ from → k ≢ to → get_or (with_last to s (map (without s) lists)) k [] ≡ get_or lists k []
  moved_others k other past =
      get_or-set_other (map (without s) lists) to k (get_or (map (without s) lists) to [] ++ s ∷ []) [] past
      ∙ nth_map s k lists ∙ without_none s (get_or lists k []) (none_else k other)
