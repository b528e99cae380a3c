-- What stands in the lane, by slots, where one comes, owes less, or goes.
use Rattle.std.proofs.Common.{◌≡◌, ◌≢◌, ℕ, suc, ◌+◌, ◌<◌, ◌≤◌, ◌||◌, cond, Bool, true, false, List, [], ◌∷◌, ◌++◌, length, map, filter, set, Some, None, refl, ap, sym, subst, ◌∙◌, arith, ⊎_elim, eq-eqb, ne_eqb}
use Rattle.std.specs.List.{count_by, list_any}
use Rattle.std.proofs.lemmas.Bool.{cases_eq, cases_lt, cases_Bool, or_parts, or_left, or_right}
use Rattle.std.proofs.lemmas.List.{get_or-set_same, get_or-set_other}
use Rattle.std.proofs.lemmas.List.Sums.{sum_by-cons}
use Rattle.iscsi_slots.specs.Slots.{times}
use Rattle.iscsi_lists.specs.Lists.{without}
use Rattle.iscsi_lists.proofs.WithoutLemmas.{times_same, times_other, without_same, without_other, without_none, not_first, none_behind}
use Rattle.iscsi_outbox_state.specs.declared.lane.Left.{Left}
use Rattle.iscsi_outbox_state.specs.declared.lane.Standing.{Standing}
use Rattle.iscsi_outbox_state.specs.declared.lane.Standing.TheVariants.{Left as IsLeft, Undue as IsUndue}
use Rattle.iscsi_outbox_state.specs.Lane.{is_command, is_left, owes, still_owes, with_left}
use Rattle.iscsi_lane.specs.Standings.{AllBehind, AreApart, NOBODY, StandAt, StandsAt, at, is_undue, left_in, standings, tally}

-- ---- one slot has another standing

pub standings_fresh : (xs : List Standing) (s : ℕ) (x : Standing) (slots : List ℕ) → times s slots ≡ 0 → standings (set xs s x) slots ≡ standings xs slots
standings_fresh xs s x [] none = refl
standings_fresh xs s x (y ∷ ys) none =
    ap (λ i. i ∷ standings (set xs s x) ys) (get_or-set_other xs s y x NOBODY (not_first s y ys none))
    ∙ ap (λ r. at xs y ∷ r) (standings_fresh xs s x ys (none_behind s y ys none))

pub standings_append : (xs : List Standing) (slots more : List ℕ) → standings xs (slots ++ more) ≡ standings xs slots ++ standings xs more
standings_append xs [] more = refl
standings_append xs (y ∷ ys) more = ap (λ r. at xs y ∷ r) (standings_append xs ys more)

pub stand_fresh : (n : ℕ) (xs : List Standing) (s : ℕ) (x : Standing) (slots : List ℕ) → times s slots ≡ 0 → StandAt n xs slots → StandAt n (set xs s x) slots
stand_fresh n xs s x [] none stand = tt
stand_fresh n xs s x (y ∷ ys) none stand = (
  subst (StandsAt n y) (sym (get_or-set_other xs s y x NOBODY (not_first s y ys none))) stand.0,
  stand_fresh n xs s x ys (none_behind s y ys none) stand.1,
)

pub stand_append : (n : ℕ) (xs : List Standing) (slots more : List ℕ) → StandAt n xs slots → StandAt n xs more → StandAt n xs (slots ++ more)
stand_append n xs [] more a b = b
stand_append n xs (y ∷ ys) more a b = (a.0, stand_append n xs ys more a.1 b)

pub stand_without : (n : ℕ) (xs : List Standing) (s : ℕ) (slots : List ℕ) → StandAt n xs slots → StandAt n xs (without s slots)
stand_without n xs s [] stand = tt
stand_without n xs s (y ∷ ys) stand = ⊎_elim
    (λ same. subst (StandAt n xs) (sym (without_same s y ys same)) (stand_without n xs s ys stand.1))
    (λ other. subst (StandAt n xs) (sym (without_other s y ys other)) (stand.0, stand_without n xs s ys stand.1))
    (cases_eq y s)

pub stand_set : (n : ℕ) (xs : List Standing) (s : ℕ) (x : Standing) (slots : List ℕ) → s < length xs → StandsAt n s x → StandAt n xs slots → StandAt n (set xs s x) slots
stand_set n xs s x [] l is stand = tt
stand_set n xs s x (y ∷ ys) l is stand = (
  ⊎_elim
      (λ (same : y ≡ s). subst (λ k. StandsAt n k (at (set xs s x) k)) (sym same) (subst (StandsAt n s) (sym (get_or-set_same xs s x NOBODY l)) is))
      (λ other. subst (StandsAt n y) (sym (get_or-set_other xs s y x NOBODY other)) stand.0)
      (cases_eq y s),
  stand_set n xs s x ys l is stand.1,
)

pub stands_at : (n : ℕ) (xs : List Standing) (s : ℕ) (slots : List ℕ) → 1 ≤ times s slots → StandAt n xs slots → StandsAt n s (at xs s)
stands_at n xs s [] there stand = absurd (omega (arith, there))
stands_at n xs s (y ∷ ys) there stand = ⊎_elim
    (λ (same : y ≡ s). subst (λ k. StandsAt n k (at xs k)) same stand.0)
    (λ other. let a = times_other s y ys other in stands_at n xs s ys (omega (arith, a, there)) stand.1)
    (cases_eq y s)

pub behind_without : (n s : ℕ) (slots : List ℕ) → AllBehind n slots → AllBehind n (without s slots)
behind_without n s [] all = tt
behind_without n s (y ∷ ys) all = ⊎_elim
    (λ same. subst (AllBehind n) (sym (without_same s y ys same)) (behind_without n s ys all.1))
    (λ other. subst (AllBehind n) (sym (without_other s y ys other)) (all.0, behind_without n s ys all.1))
    (cases_eq y s)

pub behind_append : (n : ℕ) (slots more : List ℕ) → AllBehind n slots → AllBehind n more → AllBehind n (slots ++ more)
behind_append n [] more a b = b
behind_append n (y ∷ ys) more a b = (a.0, behind_append n ys more a.1 b)

pub not_behind : (n s : ℕ) (slots : List ℕ) → s ≤ n → AllBehind n slots → times s slots ≡ 0
not_behind n s [] low all = refl
not_behind n s (y ∷ ys) low all =
    let up = all.0 in
    let a = times_other s y ys (λ e. omega (arith, e, up, low)) in let b = not_behind n s ys low all.1 in omega (arith, a, b)

pub is_behind : (n s : ℕ) (slots : List ℕ) → 1 ≤ times s slots → AllBehind n slots → n < s
is_behind n s slots there all = ⊎_elim
    (λ low. let a = not_behind n s slots (omega (arith, low)) all in absurd (omega (arith, a, there)))
    (λ high. omega (arith, high))
    (cases_lt s (suc n))

-- ---- a command is looked for

-- of a slot of a command
pub is_here : (n s : ℕ) (x : Standing) → StandsAt n s x → s ≤ n → is_command s x ≡ true
is_here n s (IsLeft c) is low = eq-eqb c.command s is.0
is_here n s (IsUndue a) is low = absurd (omega (arith, is, low))

pub not_here : (n s y : ℕ) (x : Standing) → StandsAt n y x → y ≢ s → is_command s x ≡ false
not_here n s y (IsLeft c) is other = ne_eqb c.command s (λ e. other (sym is.0 ∙ e))
not_here n s y (IsUndue a) is other = refl

past_here : (n s y : ℕ) (x : Standing) → StandsAt n y x → n < s → is_command s x ≡ false
past_here n s y (IsLeft c) is past = ne_eqb c.command s (λ e. let same = is.0 in let low = is.1.0 in omega (arith, e, same, low, past))
past_here n s y (IsUndue a) is past = refl

pub any_here : (n : ℕ) (xs : List Standing) (s : ℕ) (slots : List ℕ) → 1 ≤ times s slots → s ≤ n → StandAt n xs slots → list_any (is_command s) (standings xs slots) ≡ true
any_here n xs s [] there low stand = absurd (omega (arith, there))
any_here n xs s (y ∷ ys) there low stand = ⊎_elim
    (λ (same : y ≡ s). or_left (is_command s (at xs y)) (list_any (is_command s) (standings xs ys)) (is_here n s (at xs y) (subst (λ k. StandsAt n k (at xs y)) same stand.0) low))
    (λ other. let a = times_other s y ys other in or_right (is_command s (at xs y)) (list_any (is_command s) (standings xs ys)) (any_here n xs s ys (omega (arith, a, there)) low stand.1))
    (cases_eq y s)

pub none_here : (n : ℕ) (xs : List Standing) (s : ℕ) (slots : List ℕ) → times s slots ≡ 0 → StandAt n xs slots → list_any (is_command s) (standings xs slots) ≡ false
none_here n xs s [] none stand = refl
none_here n xs s (y ∷ ys) none stand =
    ap (λ b. b || list_any (is_command s) (standings xs ys)) (not_here n s y (at xs y) stand.0 (not_first s y ys none))
    ∙ none_here n xs s ys (none_behind s y ys none) stand.1

pub none_past : (n : ℕ) (xs : List Standing) (s : ℕ) (slots : List ℕ) → n < s → StandAt n xs slots → list_any (is_command s) (standings xs slots) ≡ false
none_past n xs s [] past stand = refl
none_past n xs s (y ∷ ys) past stand =
    ap (λ b. b || list_any (is_command s) (standings xs ys)) (past_here n s y (at xs y) stand.0 past)
    ∙ none_past n xs s ys past stand.1

left_skips : (s : ℕ) (x : Standing) (rest : List Standing) → is_command s x ≡ false → left_in s (x ∷ rest) ≡ left_in s rest
left_skips s (IsLeft c) rest off = ap (λ b. cond b (Some c) (left_in s rest)) off
left_skips s (IsUndue a) rest off = refl

pub left_none : (s : ℕ) (xs : List Standing) → list_any (is_command s) xs ≡ false → left_in s xs ≡ None
left_none s [] none = refl
left_none s (x ∷ xs) none = let parts = or_parts (is_command s x) (list_any (is_command s) xs) none in left_skips s x xs parts.0 ∙ left_none s xs parts.1

pub left_at : (n : ℕ) (xs : List Standing) (s : ℕ) (c : Left) (slots : List ℕ) → 1 ≤ times s slots → at xs s ≡ IsLeft c → c.command ≡ s → StandAt n xs slots → left_in s (standings xs slots) ≡ Some c
left_at n xs s c [] there is own stand = absurd (omega (arith, there))
left_at n xs s c (y ∷ ys) there is own stand = ⊎_elim
    (λ (same : y ≡ s).
    ap (λ x. left_in s (x ∷ standings xs ys)) (ap (at xs) same ∙ is)
    ∙ ap (λ b. cond b (Some c) (left_in s (standings xs ys))) (eq-eqb c.command s own))
    (λ other.
    let a = times_other s y ys other in
    left_skips s (at xs y) (standings xs ys) (not_here n s y (at xs y) stand.0 other)
    ∙ left_at n xs s c ys (omega (arith, a, there)) is own stand.1)
    (cases_eq y s)

-- ---- a command owes less

still_there : (n s : ℕ) (x : Standing) → StandsAt n s x → still_owes x ≡ true
still_there n s (IsLeft c) is = is.1.1
still_there n s (IsUndue a) is = refl

changed_not : (change : Left → Left) (s : ℕ) (x : Standing) → is_command s x ≡ false → with_left change s x ≡ x
changed_not change s (IsLeft c) off = ap (λ b. cond b (IsLeft (change c)) (IsLeft c)) off
changed_not change s (IsUndue a) off = refl

kept_first : (x y : Standing) (rest : List Standing) → x ≡ y → still_owes y ≡ true → filter still_owes (x ∷ rest) ≡ y ∷ filter still_owes rest
kept_first x y rest same on = ap (λ z. filter still_owes (z ∷ rest)) same ∙ ap (λ b. cond b (y ∷ filter still_owes rest) (filter still_owes rest)) on

gone_first : (x y : Standing) (rest : List Standing) → x ≡ y → still_owes y ≡ false → filter still_owes (x ∷ rest) ≡ filter still_owes rest
gone_first x y rest same off = ap (λ z. filter still_owes (z ∷ rest)) same ∙ ap (λ b. cond b (y ∷ filter still_owes rest) (filter still_owes rest)) off

-- none does, where there is no such command
pub lessened_none : (change : Left → Left) (n : ℕ) (xs : List Standing) (s : ℕ) (slots : List ℕ) → StandAt n xs slots → list_any (is_command s) (standings xs slots) ≡ false
    → filter still_owes (map (with_left change s) (standings xs slots)) ≡ standings xs slots
lessened_none change n xs s [] stand none = refl
lessened_none change n xs s (y ∷ ys) stand none =
    let parts = or_parts (is_command s (at xs y)) (list_any (is_command s) (standings xs ys)) none in
    kept_first (with_left change s (at xs y)) (at xs y) (map (with_left change s) (standings xs ys)) (changed_not change s (at xs y) parts.0) (still_there n y (at xs y) stand.0)
    ∙ ap (λ r. at xs y ∷ r) (lessened_none change n xs s ys stand.1 parts.1)

module _ (change : Left → Left) (n : ℕ) (xs : List Standing) (s : ℕ) (c : Left) (is : at xs s ≡ IsLeft c) (same_place : c.command ≡ s) where
  changed_here : (y : ℕ) → y ≡ s → with_left change s (at xs y) ≡ IsLeft (change c)
  changed_here y same =
      ap (with_left change s) (ap (at xs) same ∙ is)
      ∙ ap (λ b. cond b (IsLeft (change c)) (IsLeft c)) (eq-eqb c.command s same_place)

  changed_other : (y : ℕ) → y ≢ s → StandsAt n y (at xs y) → with_left change s (at xs y) ≡ at xs y
  changed_other y other stand = changed_not change s (at xs y) (not_here n s y (at xs y) stand other)

  -- it owes something still
  pub lessened_kept : owes (change c) ≡ true → s < length xs → (slots : List ℕ) → StandAt n xs slots
      → filter still_owes (map (with_left change s) (standings xs slots)) ≡ standings (set xs s (IsLeft (change c))) slots
  lessened_kept on l [] stand = refl
  lessened_kept on l (y ∷ ys) stand = ⊎_elim
      (λ (same : y ≡ s).
      kept_first (with_left change s (at xs y)) (IsLeft (change c)) (map (with_left change s) (standings xs ys)) (changed_here y same) on
      ∙ ap (λ r. IsLeft (change c) ∷ r) (lessened_kept on l ys stand.1)
      ∙ ap (λ z. z ∷ standings (set xs s (IsLeft (change c))) ys) (sym (ap (at (set xs s (IsLeft (change c)))) same ∙ get_or-set_same xs s (IsLeft (change c)) NOBODY l)))
      (λ other.
      kept_first (with_left change s (at xs y)) (at xs y) (map (with_left change s) (standings xs ys)) (changed_other y other stand.0) (still_there n y (at xs y) stand.0)
      ∙ ap (λ r. at xs y ∷ r) (lessened_kept on l ys stand.1)
      ∙ ap (λ z. z ∷ standings (set xs s (IsLeft (change c))) ys) (sym (get_or-set_other xs s y (IsLeft (change c)) NOBODY other)))
      (cases_eq y s)

  -- it owes nothing, and goes
  pub lessened_gone : owes (change c) ≡ false → (slots : List ℕ) → StandAt n xs slots
      → filter still_owes (map (with_left change s) (standings xs slots)) ≡ standings xs (without s slots)
  lessened_gone off [] stand = refl
  lessened_gone off (y ∷ ys) stand = ⊎_elim
      (λ (same : y ≡ s).
      gone_first (with_left change s (at xs y)) (IsLeft (change c)) (map (with_left change s) (standings xs ys)) (changed_here y same) off
      ∙ lessened_gone off ys stand.1
      ∙ ap (standings xs) (sym (without_same s y ys same)))
      (λ other.
      kept_first (with_left change s (at xs y)) (at xs y) (map (with_left change s) (standings xs ys)) (changed_other y other stand.0) (still_there n y (at xs y) stand.0)
      ∙ ap (λ r. at xs y ∷ r) (lessened_gone off ys stand.1)
      ∙ ap (standings xs) (sym (without_other s y ys other)))
      (cases_eq y s)

-- ---- how many there are

pub tally_is : (test : Standing → Bool) (xs : List Standing) → tally test xs ≡ count_by test xs
tally_is test [] = refl
tally_is test (x ∷ xs) = ap (λ n. cond (test x) 1 0 + n) (tally_is test xs) ∙ sym (sum_by-cons (λ (y : Standing). cond (test y) 1 0) x xs)

pub tally_append : (test : Standing → Bool) (xs ys : List Standing) → tally test (xs ++ ys) ≡ tally test xs + tally test ys
tally_append test [] ys = omega arith
tally_append test (x ∷ xs) ys = let rest = tally_append test xs ys in omega (arith, rest)

abbrev pub one_if : Bool → ℕ
one_if b = cond b 1 0

pub one_at_most : (b : Bool) → one_if b ≤ 1
one_at_most true = omega arith
one_at_most false = omega arith

-- a standing that counts as much as the one before
pub tally_set : (test : Standing → Bool) (xs : List Standing) (s : ℕ) (x : Standing) (slots : List ℕ) → s < length xs → test x ≡ test (at xs s) → tally test (standings (set xs s x) slots) ≡ tally test (standings xs slots)
tally_set test xs s x [] l same = refl
tally_set test xs s x (y ∷ ys) l same =
    let rest = tally_set test xs s x ys l same in
    let first : test (at (set xs s x) y) ≡ test (at xs y) =
    (⊎_elim
    (λ (here : y ≡ s). ap test (ap (at (set xs s x)) here ∙ get_or-set_same xs s x NOBODY l) ∙ same ∙ ap (λ k. test (at xs k)) (sym here))
    (λ other. ap test (get_or-set_other xs s y x NOBODY other))
    (cases_eq y s)) in
    let head = ap one_if first in omega (arith, rest, head)

-- one that goes counts no more
pub tally_gone : (test : Standing → Bool) (xs : List Standing) (s : ℕ) (slots : List ℕ) → times s slots ≡ 1 → tally test (standings xs (without s slots)) + one_if (test (at xs s)) ≡ tally test (standings xs slots)
tally_gone test xs s [] once = absurd (omega (arith, once))
tally_gone test xs s (y ∷ ys) once = ⊎_elim
    (λ (same : y ≡ s).
    let a = times_same s y ys same in
    let e = ap (λ r. tally test (standings xs r)) (without_same s y ys same ∙ without_none s ys (omega (arith, a, once))) in
    let head = ap (λ k. one_if (test (at xs k))) same in omega (arith, e, head))
    (λ other.
    let a = times_other s y ys other in
    let e = ap (λ r. tally test (standings xs r)) (without_other s y ys other) in
    let rest = tally_gone test xs s ys (omega (arith, a, once)) in omega (arith, e, rest))
    (cases_eq y s)

-- each stands there as a command or as an answer
pub tally_both : (xs : List Standing) → tally is_left xs + tally is_undue xs ≡ length xs
tally_both [] = refl
tally_both (IsLeft c ∷ xs) = let rest = tally_both xs in omega (arith, rest)
tally_both (IsUndue a ∷ xs) = let rest = tally_both xs in omega (arith, rest)

pub tally_few : (test : Standing → Bool) (xs : List Standing) → tally test xs ≤ length xs
tally_few test [] = omega arith
tally_few test (x ∷ xs) = let rest = tally_few test xs in ⊎_elim
    (λ on. let a = ap one_if on in omega (arith, a, rest))
    (λ off. let a = ap one_if off in omega (arith, a, rest))
    (cases_Bool (test x))

pub standings_long : (xs : List Standing) (slots : List ℕ) → length (standings xs slots) ≡ length slots
standings_long xs [] = refl
standings_long xs (y ∷ ys) = ap suc (standings_long xs ys)

-- ---- what callers know

apart_first : (n y : ℕ) (xs : List Standing) (x : Standing) (ys : List ℕ) → 1 ≤ y → StandsAt n y x → times y ys ≡ 0 → StandAt n xs ys → AreApart n (standings xs ys) → AreApart n (x ∷ standings xs ys)
apart_first n y xs (IsLeft c) ys some is none stand rest = (
  subst (λ k. list_any (is_command k) (standings xs ys) ≡ false) (sym is.0) (none_here n xs y ys none stand),
  ((let e = is.0 in omega (arith, e, some), (let e = is.0 in let l = is.1.0 in omega (arith, e, l), is.1.1)), rest),
)
apart_first n y xs (IsUndue a) ys some is none stand rest = rest

pub are_apart : (n : ℕ) (xs : List Standing) (slots : List ℕ) → ((s : ℕ) → 1 ≤ times s slots → 1 ≤ s) → ((s : ℕ) → times s slots ≤ 1) → StandAt n xs slots → AreApart n (standings xs slots)
are_apart n xs [] some once stand = tt
are_apart n xs (y ∷ ys) some once stand =
    let here = times_same y y ys refl in
    let one = once y in
    apart_first n y xs (at xs y) ys (some y (omega (arith, here))) stand.0 (omega (arith, here, one)) stand.1
    (are_apart n xs ys (λ s there. some s (omega (arith, there))) (λ s. let o = once s in omega (arith, o)) stand.1)
