-- Lists of slots, with one more and with one less.
use Rattle.std.proofs.Common.{◌≡◌, ◌≢◌, ℕ, zero, suc, ◌+◌, ◌<◌, ◌≤◌, ◌==◌, cond, false, List, [], ◌∷◌, ◌++◌, length, map, refl, ap, sym, ◌∙◌, arith, ⊎_elim, eq-eqb, ne_eqb}
use Rattle.std.proofs.lemmas.Bool.{cases_eq}
use Rattle.std.proofs.lemmas.List.{length_push}
use Rattle.iscsi_slots.specs.Slots.{times}
use Rattle.iscsi_slots.proofs.SlotLemmas.{times_append}
use Rattle.iscsi_lists.specs.Lists.{times_in, total, without, with_last, end_of}
use Rattle.iscsi_lists.specs.Linking.{behind, flat}

pub times_same : (s x : ℕ) (xs : List ℕ) → x ≡ s → times s (x ∷ xs) ≡ 1 + times s xs
times_same s x xs e = ap (λ b. cond b 1 0 + times s xs) (eq-eqb x s e)

pub times_other : (s x : ℕ) (xs : List ℕ) → x ≢ s → times s (x ∷ xs) ≡ times s xs
times_other s x xs ne = let step : times s (x ∷ xs) ≡ cond false 1 0 + times s xs = ap (λ b. cond b 1 0 + times s xs) (ne_eqb x s ne) in omega (arith, step)

pub without_same : (s x : ℕ) (xs : List ℕ) → x ≡ s → without s (x ∷ xs) ≡ without s xs
without_same s x xs e = ap (λ b. cond b (without s xs) (x ∷ without s xs)) (eq-eqb x s e)

pub without_other : (s x : ℕ) (xs : List ℕ) → x ≢ s → without s (x ∷ xs) ≡ x ∷ without s xs
without_other s x xs ne = ap (λ b. cond b (without s xs) (x ∷ without s xs)) (ne_eqb x s ne)

pub not_first : (s x : ℕ) (xs : List ℕ) → times s (x ∷ xs) ≡ 0 → x ≢ s
not_first s x xs none same = let a = times_same s x xs same in absurd (omega (arith, a, none))

pub none_behind : (s x : ℕ) (xs : List ℕ) → times s (x ∷ xs) ≡ 0 → times s xs ≡ 0
none_behind s x xs none = omega (arith, none)

pub without_none : (s : ℕ) (xs : List ℕ) → times s xs ≡ 0 → without s xs ≡ xs
without_none s [] none = refl
without_none s (x ∷ xs) none = without_other s x xs (not_first s x xs none) ∙ ap (λ r. x ∷ r) (without_none s xs (none_behind s x xs none))

pub times_without : (s : ℕ) (xs : List ℕ) → times s (without s xs) ≡ 0
times_without s [] = refl
times_without s (x ∷ xs) = ⊎_elim
    (λ same. ap (times s) (without_same s x xs same) ∙ times_without s xs)
    (λ other. ap (times s) (without_other s x xs other) ∙ times_other s x (without s xs) other ∙ times_without s xs)
    (cases_eq x s)

pub times_without_other : (s t : ℕ) (xs : List ℕ) → t ≢ s → times t (without s xs) ≡ times t xs
times_without_other s t [] apart = refl
times_without_other s t (x ∷ xs) apart = ⊎_elim
    (λ same. ap (times t) (without_same s x xs same) ∙ times_without_other s t xs apart ∙ sym (times_other t x xs (λ e. apart (sym e ∙ same))))
    (λ other. let a = ap (times t) (without_other s x xs other) in let b = times_without_other s t xs apart in omega (arith, a, b))
    (cases_eq x s)

pub without_append : (s : ℕ) (xs ys : List ℕ) → without s (xs ++ ys) ≡ without s xs ++ without s ys
without_append s [] ys = refl
without_append s (x ∷ xs) ys = ⊎_elim
    (λ same. without_same s x (xs ++ ys) same ∙ without_append s xs ys ∙ sym (ap (λ r. r ++ without s ys) (without_same s x xs same)))
    (λ other. without_other s x (xs ++ ys) other ∙ ap (λ r. x ∷ r) (without_append s xs ys) ∙ sym (ap (λ r. r ++ without s ys) (without_other s x xs other)))
    (cases_eq x s)

pub length_without : (s : ℕ) (xs : List ℕ) → length (without s xs) + times s xs ≡ length xs
length_without s [] = refl
length_without s (x ∷ xs) = let rest = length_without s xs in ⊎_elim
    (λ same. let a = ap length (without_same s x xs same) in let b = times_same s x xs same in omega (arith, a, b, rest))
    (λ other. let a = ap length (without_other s x xs other) in let b = times_other s x xs other in omega (arith, a, b, rest))
    (cases_eq x s)

-- ---- a slot is put in front of another one

abbrev pub put : ℕ → ℕ → List ℕ → List ℕ
put t s [] = []
put t s (y ∷ ys) = cond (y == t) (s ∷ y ∷ ys) (y ∷ put t s ys)

pub put_same : (t s y : ℕ) (ys : List ℕ) → y ≡ t → put t s (y ∷ ys) ≡ s ∷ y ∷ ys
put_same t s y ys e = ap (λ b. cond b (s ∷ y ∷ ys) (y ∷ put t s ys)) (eq-eqb y t e)

pub put_other : (t s y : ℕ) (ys : List ℕ) → y ≢ t → put t s (y ∷ ys) ≡ y ∷ put t s ys
put_other t s y ys ne = ap (λ b. cond b (s ∷ y ∷ ys) (y ∷ put t s ys)) (ne_eqb y t ne)

pub put_append : (t s : ℕ) (xs ys : List ℕ) → times t xs ≡ 0 → put t s (xs ++ ys) ≡ xs ++ put t s ys
put_append t s [] ys none = refl
put_append t s (x ∷ xs) ys none = put_other t s x (xs ++ ys) (not_first t x xs none) ∙ ap (λ r. x ∷ r) (put_append t s xs ys (none_behind t x xs none))

-- ---- the end of a list that has something before it

pub end_append : (x : ℕ) (xs ys : List ℕ) → end_of x (xs ++ ys) ≡ end_of (end_of x xs) ys
end_append x [] ys = refl
end_append x (z ∷ xs) ys = end_append z xs ys

-- ---- the chain of all slots and heads

pub without_flat : (n : ℕ) (lists : List (List ℕ)) (s : ℕ) → s < n → without s (flat n lists) ≡ flat n (map (without s) lists)
without_flat n [] s low = without_other s n [] (λ e. omega (arith, e, low))
without_flat n (xs ∷ lists) s low =
    without_other s n (xs ++ flat (suc n) lists) (λ e. omega (arith, e, low))
    ∙ ap (λ r. n ∷ r) (without_append s xs (flat (suc n) lists) ∙ ap (λ r. without s xs ++ r) (without_flat (suc n) lists s (omega (arith, low))))

pub append_one : (xs ys : List ℕ) (s : ℕ) → xs ++ s ∷ ys ≡ (xs ++ s ∷ []) ++ ys
append_one [] ys s = refl
append_one (x ∷ xs) ys s = ap (λ r. x ∷ r) (append_one xs ys s)

pub put_flat : (n : ℕ) (lists : List (List ℕ)) (i s t : ℕ) → i < length lists → t ≡ n + i + 1 → times_in t lists ≡ 0 → put t s (flat n lists) ≡ flat n (with_last i s lists)
put_flat n [] i s t l at none = absurd (omega (arith, l))
put_flat n (xs ∷ lists) zero s t l at none =
    put_other t s n (xs ++ flat (suc n) lists) (λ e. omega (arith, e, at))
    ∙ ap (λ r. n ∷ r) (put_append t s xs (flat (suc n) lists) (omega (arith, none))
    ∙ ap (λ r. xs ++ r) (put_same t s (suc n) (behind (suc n) lists) (omega (arith, at)))
    ∙ append_one xs (flat (suc n) lists) s)
put_flat n (xs ∷ lists) (suc i) s t l at none =
    put_other t s n (xs ++ flat (suc n) lists) (λ e. omega (arith, e, at))
    ∙ ap (λ r. n ∷ r) (put_append t s xs (flat (suc n) lists) (omega (arith, none))
    ∙ ap (λ r. xs ++ r) (put_flat (suc n) lists i s t (omega (arith, l)) (omega (arith, at)) (omega (arith, none))))

pub put_first : (t s : ℕ) (xs : List ℕ) (lists : List (List ℕ)) → times t xs ≡ 0 → put t s (xs ++ flat t lists) ≡ (xs ++ s ∷ []) ++ flat t lists
put_first t s xs lists none = put_append t s xs (flat t lists) none ∙ ap (λ r. xs ++ r) (put_same t s t (behind t lists) refl) ∙ append_one xs (flat t lists) s

-- how often a node stands in it
pub times_low : (n : ℕ) (lists : List (List ℕ)) (s : ℕ) → s < n → times s (flat n lists) ≡ times_in s lists
times_low n [] s low = times_other s n [] (λ e. omega (arith, e, low))
times_low n (xs ∷ lists) s low =
    let a = times_other s n (xs ++ flat (suc n) lists) (λ e. omega (arith, e, low)) in
    let b = times_append s xs (flat (suc n) lists) in
    let c = times_low (suc n) lists s (omega (arith, low)) in omega (arith, a, b, c)

pub times_head : (n : ℕ) (lists : List (List ℕ)) (t : ℕ) → times_in t lists ≡ 0 → times t (flat n lists) ≤ 1
times_head n [] t none = ⊎_elim (λ same. let a = times_same t n [] same in omega (arith, a)) (λ other. let a = times_other t n [] other in omega (arith, a)) (cases_eq n t)
times_head n (xs ∷ lists) t none =
    let b = times_append t xs (flat (suc n) lists) in
    ⊎_elim
    (λ same. let a = times_same t n (xs ++ flat (suc n) lists) same in let c = times_low (suc n) lists t (omega (arith, same)) in omega (arith, a, b, c, none))
    (λ other. let a = times_other t n (xs ++ flat (suc n) lists) other in let c = times_head (suc n) lists t (omega (arith, none)) in omega (arith, a, b, c, none))
    (cases_eq n t)

pub head_there : (n : ℕ) (lists : List (List ℕ)) (t : ℕ) → n ≤ t → t ≤ n + length lists → 1 ≤ times t (flat n lists)
head_there n [] t low high = let a = times_same t n [] (omega (arith, low, high)) in omega (arith, a)
head_there n (xs ∷ lists) t low high = ⊎_elim
    (λ same. let a = times_same t n (xs ++ flat (suc n) lists) same in omega (arith, a))
    (λ other.
    let a = times_other t n (xs ++ flat (suc n) lists) other in let b = times_append t xs (flat (suc n) lists) in
    let c = head_there (suc n) lists t (omega (arith, low, other)) (omega (arith, high)) in omega (arith, a, b, c))
    (cases_eq n t)

pub end_flat : (x n : ℕ) (lists : List (List ℕ)) → end_of x (flat n lists) ≡ n + length lists
end_flat x n [] = omega arith
end_flat x n (xs ∷ lists) = end_append n xs (flat (suc n) lists) ∙ (let a = end_flat (end_of n xs) (suc n) lists in omega (arith, a))

-- ---- all lists

pub times_in_without : (s : ℕ) (lists : List (List ℕ)) → times_in s (map (without s) lists) ≡ 0
times_in_without s [] = refl
times_in_without s (xs ∷ lists) = let a = times_without s xs in let b = times_in_without s lists in omega (arith, a, b)

pub times_in_other : (s t : ℕ) (lists : List (List ℕ)) → t ≢ s → times_in t (map (without s) lists) ≡ times_in t lists
times_in_other s t [] apart = refl
times_in_other s t (xs ∷ lists) apart = let a = times_without_other s t xs apart in let b = times_in_other s t lists apart in omega (arith, a, b)

pub times_in_with : (i s t : ℕ) (lists : List (List ℕ)) → i < length lists → times_in t (with_last i s lists) ≡ times_in t lists + times t (s ∷ [])
times_in_with i s t [] l = absurd (omega (arith, l))
times_in_with zero s t (xs ∷ lists) l = let a = times_append t xs (s ∷ []) in omega (arith, a)
times_in_with (suc i) s t (xs ∷ lists) l = let a = times_in_with i s t lists (omega (arith, l)) in omega (arith, a)

pub total_without : (s : ℕ) (lists : List (List ℕ)) → total (map (without s) lists) + times_in s lists ≡ total lists
total_without s [] = refl
total_without s (xs ∷ lists) = let a = length_without s xs in let b = total_without s lists in omega (arith, a, b)

pub total_with : (i s : ℕ) (lists : List (List ℕ)) → i < length lists → total (with_last i s lists) ≡ total lists + 1
total_with i s [] l = absurd (omega (arith, l))
total_with zero s (xs ∷ lists) l = let a = length_push xs s in omega (arith, a)
total_with (suc i) s (xs ∷ lists) l = let a = total_with i s lists (omega (arith, l)) in omega (arith, a)

-- where none of them has the slot, nothing is taken out
pub map_without_none : (s : ℕ) (lists : List (List ℕ)) → times_in s lists ≡ 0 → map (without s) lists ≡ lists
map_without_none s [] none = refl
map_without_none s (xs ∷ lists) none = ap (λ x. x ∷ map (without s) lists) (without_none s xs (omega (arith, none))) ∙ ap (λ r. xs ∷ r) (map_without_none s lists (omega (arith, none)))

pub put_append_flat : (n : ℕ) (free : List ℕ) (lists : List (List ℕ)) (i s t : ℕ) → i < length lists → t ≡ n + i + 1 → times t free ≡ 0 → times_in t lists ≡ 0 → put t s (free ++ flat n lists) ≡ free ++ flat n (with_last i s lists)
put_append_flat n free lists i s t l at none none_in = put_append t s free (flat n lists) none ∙ ap (λ r. free ++ r) (put_flat n lists i s t l at none_in)
