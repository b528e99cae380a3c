-- Lists of values, by their slots.
use Rattle.std.proofs.Common.{◌≡◌, ℕ, zero, suc, ◌+◌, ◌<◌, ◌≤◌, List, [], ◌∷◌, ◌++◌, length, map, get_or, set, Some, refl, ap, sym, subst, ◌∙◌, arith}
use Rattle.std.proofs.lemmas.List.{append-nil, length-map}
use Rattle.iscsi_slots.specs.Slots.{times}
use Rattle.iscsi_lists.specs.Lists.{Linked, AreApart, times_in, without, with_last, freed, moved, first_of, Listed, listed}
use Rattle.iscsi_lists.proofs.WithoutLemmas.{times_same, without_same, without_none, map_without_none, without_append, times_in_without}
use Rattle.iscsi_lists.proofs.ReadLemmas.{times_of}

module _ {v : Linked} (apart : AreApart v) (slot : ℕ) where
  pub in_one : 1 ≤ times slot v.free + times_in slot v.lists → times slot v.free + times_in slot v.lists ≡ 1
  in_one there = apart.once slot (apart.some slot there) (apart.within slot there)

  pub not_free : 1 ≤ times_in slot v.lists → times slot v.free ≡ 0
  not_free there = let one = in_one (omega (arith, there)) in omega (arith, one, there)

  pub not_listed : 1 ≤ times slot v.free → times_in slot v.lists ≡ 0
  not_listed there = let one = in_one (omega (arith, there)) in omega (arith, one, there)

module _ {X : Type 0} {v : Linked} {xs : List X} {s : Listed X} (apart : AreApart v) (view : listed v.free v.lists v.room xs ≡ s) (slot : ℕ) where
  pub there_in : 1 ≤ times_in slot s.lists → 1 ≤ times_in slot v.lists
  there_in there = subst (λ (u : Listed X). 1 ≤ times_in slot u.lists) (sym view) there

  pub moved_shown : (i : ℕ) (w : Linked) → w ≡ moved slot i v → 1 ≤ times_in slot s.lists → listed w.free w.lists w.room xs ≡ record s { lists = with_last i slot (map (without slot) s.lists) }
  moved_shown i w is there =
      ap (λ (u : Linked). listed u.free u.lists u.room xs) is
      ∙ ap (λ f. listed f (with_last i slot (map (without slot) v.lists)) v.room xs) (without_none slot v.free (not_free apart slot (there_in there)))
      ∙ ap (λ (u : Listed X). record u { lists = with_last i slot (map (without slot) u.lists) }) view

  pub freed_shown : (w : Linked) → w ≡ freed slot v → 1 ≤ times_in slot s.lists → listed w.free w.lists w.room xs ≡ record s { free = s.free ++ slot ∷ []; lists = map (without slot) s.lists }
  freed_shown w is there =
      ap (λ (u : Linked). listed u.free u.lists u.room xs) is
      ∙ ap (λ f. listed (f ++ slot ∷ []) (map (without slot) v.lists) v.room xs) (without_none slot v.free (not_free apart slot (there_in there)))
      ∙ ap (λ (u : Listed X). record u { free = u.free ++ slot ∷ []; lists = map (without slot) u.lists }) view

  pub pushed_shown : (i : ℕ) (x : X) (w : Linked) → w ≡ moved slot i v → 1 ≤ times slot v.free → listed w.free w.lists w.room (set xs slot x) ≡ record s { free = without slot s.free; lists = with_last i slot s.lists; values = set s.values slot x }
  pushed_shown i x w is there =
      ap (λ (u : Linked). listed u.free u.lists u.room (set xs slot x)) is
      ∙ ap (λ ls. listed (without slot v.free) (with_last i slot ls) v.room (set xs slot x)) (map_without_none slot v.lists (not_listed apart slot there))
      ∙ ap (λ (u : Listed X). record u { free = without slot u.free; lists = with_last i slot u.lists; values = set u.values slot x }) view

some_same : {a b : ℕ} → Some a ≡ Some b → a ≡ b
some_same e = cc

-- ---- the first slot of a list

first_there : (slot : ℕ) (xs : List ℕ) → first_of xs ≡ Some slot → 1 ≤ times slot xs
first_there slot [] e = cc
first_there slot (x ∷ xs) e = let same : x ≡ slot = cc in let a = times_same slot x xs same in omega (arith, a)

pub first_in : (slot i : ℕ) (lists : List (List ℕ)) → i < length lists → first_of (get_or lists i []) ≡ Some slot → 1 ≤ times_in slot lists
first_in slot i lists l e = let a = first_there slot (get_or lists i []) e in let b = times_of i slot lists l in omega (arith, a, b)

without_first : (slot : ℕ) (rest xs : List ℕ) → xs ≡ slot ∷ rest → times slot xs ≤ 1 → without slot xs ≡ rest
without_first slot rest xs e one =
    let once : times slot (slot ∷ rest) ≤ 1 = subst (λ ys. times slot ys ≤ 1) e one in
    let a = times_same slot slot rest refl in
    ap (without slot) e ∙ without_same slot slot rest refl ∙ without_none slot rest (omega (arith, a, once))

pub taken_first : (i slot : ℕ) (rest : List ℕ) (lists : List (List ℕ)) → i < length lists → get_or lists i [] ≡ slot ∷ rest → times_in slot lists ≤ 1 → map (without slot) lists ≡ set lists i rest
taken_first i slot rest [] l e one = absurd (omega (arith, l))
taken_first zero slot rest (xs ∷ lists) l e one =
    let a = times_same slot slot rest refl in
    let there : times slot xs ≡ times slot (slot ∷ rest) = ap (times slot) e in
    ap (λ r. r ∷ map (without slot) lists) (without_first slot rest xs e (omega (arith, one)))
    ∙ ap (λ ls. rest ∷ ls) (map_without_none slot lists (omega (arith, one, a, there)))
taken_first (suc i) slot rest (xs ∷ lists) l e one =
    let a = times_same slot slot rest refl in
    let there : times slot (get_or lists i []) ≡ times slot (slot ∷ rest) = ap (times slot) e in
    let b = times_of i slot lists (omega (arith, l)) in
    ap (λ r. r ∷ map (without slot) lists) (without_none slot xs (omega (arith, one, a, there, b)))
    ∙ ap (λ ls. xs ∷ ls) (taken_first i slot rest lists (omega (arith, l)) e (omega (arith, one)))

module _ {X : Type 0} {v : Linked} {xs : List X} {s : Listed X} (apart : AreApart v) (view : listed v.free v.lists v.room xs ≡ s) (slot i : ℕ) (l : i < length s.lists) (first : first_of (get_or v.lists i []) ≡ Some slot) where
  first_of_s : first_of (get_or s.lists i []) ≡ Some slot
  first_of_s = ap (λ (u : Listed X). first_of (get_or u.lists i [])) (sym view) ∙ first

  pub first_shown : 1 ≤ times_in slot s.lists
  first_shown = first_in slot i s.lists l first_of_s

  pub popped_shown : (w : Listed X) → w ≡ record s { free = s.free ++ slot ∷ []; lists = map (without slot) s.lists } → (t : ℕ) (rest : List ℕ) → get_or s.lists i [] ≡ t ∷ rest → w ≡ record s { free = s.free ++ t ∷ []; lists = set s.lists i rest }
  popped_shown w is t rest at =
      let same : slot ≡ t = some_same (sym first_of_s ∙ ap first_of at) in
      let one = in_one apart slot (let a = there_in apart view slot first_shown in omega (arith, a)) in
      let once : times_in slot s.lists ≤ 1 = subst (λ (u : Listed X). times_in slot u.lists ≤ 1) view (omega (arith, one)) in
      is
      ∙ ap (λ ls. record s { free = s.free ++ slot ∷ []; lists = ls }) (taken_first i slot rest s.lists l (at ∙ ap (λ n. n ∷ rest) (sym same)) once)
      ∙ ap (λ n. record s { free = s.free ++ n ∷ []; lists = set s.lists i rest }) same

-- ---- the other slots stay

pub others_with : (s i : ℕ) (lists : List (List ℕ)) → i < length lists → map (without s) (with_last i s lists) ≡ map (without s) lists
others_with s i [] l = absurd (omega (arith, l))
others_with s zero (xs ∷ lists) l =
    ap (λ r. r ∷ map (without s) lists) (without_append s xs (s ∷ []) ∙ ap (λ r. without s xs ++ r) (without_same s s [] refl) ∙ append-nil (without s xs))
others_with s (suc i) (xs ∷ lists) l = ap (λ r. without s xs ∷ r) (others_with s i lists (omega (arith, l)))

pub others_without : (s : ℕ) (lists : List (List ℕ)) → map (without s) (map (without s) lists) ≡ map (without s) lists
others_without s lists = map_without_none s (map (without s) lists) (times_in_without s lists)

module _ {X : Type 0} {v : Linked} {xs : List X} {s : Listed X} (apart : AreApart v) (view : listed v.free v.lists v.room xs ≡ s) (slot : ℕ) where
  pub fresh_shown : 1 ≤ times slot v.free → times_in slot s.lists ≡ 0
  fresh_shown there = subst (λ (u : Listed X). times_in slot u.lists ≡ 0) view (not_listed apart slot there)

-- what a list has, where a slot is taken out of all and put behind one of them
pub others_moved : (s i : ℕ) (lists : List (List ℕ)) → i < length lists → map (without s) (with_last i s (map (without s) lists)) ≡ map (without s) lists
others_moved s i lists l = others_with s i (map (without s) lists) (let a = length-map lists (without s) in omega (arith, a, l)) ∙ others_without s lists
