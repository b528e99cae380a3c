-- Those that are due, in the order of the log, and the place of one more.
use Rattle.std.proofs.Common.{◌≡◌, ◌≢◌, ℕ, zero, suc, ◌<◌, ◌≤◌, ◌==◌, ◌||◌, ◌&&◌, cond, Bool, true, false, List, [], ◌∷◌, ◌++◌, length, filter, get_or, Some, None, refl, ap, sym, subst, ◌∙◌, arith, ⊎_elim, eq-eqb, ne_eqb}
use Rattle.std.specs.List.{insert, remove}
use Rattle.std.proofs.lemmas.Bool.{cases_Bool, cases_eq, cases_lt, false_from_ne_true, le-ltb, lt-ltb, ltb-true, true≢false}
use Rattle.std.proofs.lemmas.List.Kept.{AllPairs-filter}
use Rattle.iscsi_slots.specs.Places.{AreAscending}
use Rattle.iscsi_slots.specs.Slots.{times}
use Rattle.iscsi_slots.proofs.SlotLemmas.{stands, times_append, times_at}
use Rattle.iscsi_lists.specs.Lists.{without}
use Rattle.iscsi_lists.proofs.WithoutLemmas.{times_other, times_same, without_none, without_other, without_same}
use Rattle.iscsi_lines.specs.Lines.{due_in}
use Rattle.iscsi_outbox_state.specs.declared.lane.Standing.{Standing}
use Rattle.iscsi_scopes.specs.Scopes.{Scoped, slots_of}
use Rattle.iscsi_lane.specs.Standings.{at}
use Rattle.iscsi_lane.specs.Scoping.{is_it}
use Rattle.iscsi_lane.specs.Times.{AllAfter, AllUnder, InOrder, IsUp, gains, has, is_cleared, time_of}
use Rattle.iscsi_lane.proofs.StepLemmas.{filter_both, inserted, or_it}
use Rattle.iscsi_lane.proofs.TurnLemmas.{same_filter}

-- ---- times go up

after_at : (ts : List ℕ) (n : ℕ) (slots : List ℕ) → AllAfter ts n slots → (k d : ℕ) → k < length slots → n < time_of ts (get_or slots k d)
after_at ts n [] all k d l = absurd (omega (arith, l))
after_at ts n (s ∷ slots) all zero d l = all.0
after_at ts n (s ∷ slots) all (suc k) d l = after_at ts n slots all.1 k d (omega (arith, l))

pub ascending : (ts : List ℕ) (slots : List ℕ) → IsUp ts slots → AreAscending (time_of ts) slots
ascending ts [] up i j d lt l = absurd (omega (arith, l))
ascending ts (s ∷ slots) up zero zero d lt l = absurd (omega (arith, lt))
ascending ts (s ∷ slots) up zero (suc j) d lt l = after_at ts (time_of ts s) slots up.0 j d (omega (arith, l))
ascending ts (s ∷ slots) up (suc i) zero d lt l = absurd (omega (arith, lt))
ascending ts (s ∷ slots) up (suc i) (suc j) d lt l = ascending ts slots up.1 i j d (omega (arith, lt)) (omega (arith, l))

pub up_filter : (ts : List ℕ) (test : ℕ → Bool) (slots : List ℕ) → IsUp ts slots → AreAscending (time_of ts) (filter test slots)
up_filter ts test slots up = AllPairs-filter (λ a b. time_of ts a < time_of ts b) test slots (ascending ts slots up)

after_behind : (ts : List ℕ) (n : ℕ) (front back : List ℕ) → AllAfter ts n (front ++ back) → AllAfter ts n back
after_behind ts n [] back all = all
after_behind ts n (y ∷ ys) back all = after_behind ts n ys back all.1

front_under : (ts : List ℕ) (s : ℕ) (front back : List ℕ) → IsUp ts (front ++ s ∷ back) → AllUnder ts (time_of ts s) front
front_under ts s [] back up = tt
front_under ts s (y ∷ ys) back up = ((after_behind ts (time_of ts y) ys (s ∷ back) up.0).0, front_under ts s ys back up.1)

pub back_after : (ts : List ℕ) (s : ℕ) (front back : List ℕ) → IsUp ts (front ++ s ∷ back) → AllAfter ts (time_of ts s) back
back_after ts s [] back up = up.0
back_after ts s (y ∷ ys) back up = back_after ts s ys back up.1

under_filter : (ts : List ℕ) (n : ℕ) (test : ℕ → Bool) (slots : List ℕ) → AllUnder ts n slots → AllUnder ts n (filter test slots)
under_filter ts n test [] all = tt
under_filter ts n test (y ∷ ys) all = elim (test y) as (λ b. AllUnder ts n (cond b (y ∷ filter test ys) (filter test ys))) [
  | true ↦ (all.0, under_filter ts n test ys all.1)
  | false ↦ under_filter ts n test ys all.1
]

after_filter : (ts : List ℕ) (n : ℕ) (test : ℕ → Bool) (slots : List ℕ) → AllAfter ts n slots → AllAfter ts n (filter test slots)
after_filter ts n test [] all = tt
after_filter ts n test (y ∷ ys) all = elim (test y) as (λ b. AllAfter ts n (cond b (y ∷ filter test ys) (filter test ys))) [
  | true ↦ (all.0, after_filter ts n test ys all.1)
  | false ↦ after_filter ts n test ys all.1
]

under_at : (ts : List ℕ) (n : ℕ) (slots more : List ℕ) → AllUnder ts n slots → (k : ℕ) → k < length slots → time_of ts (get_or (slots ++ more) k 0) < n
under_at ts n [] more all k l = absurd (omega (arith, l))
under_at ts n (s ∷ slots) more all zero l = all.0
under_at ts n (s ∷ slots) more all (suc k) l = under_at ts n slots more all.1 k (omega (arith, l))

first_behind : (slots : List ℕ) (x : ℕ) (more : List ℕ) → get_or (slots ++ x ∷ more) (length slots) 0 ≡ x
first_behind [] x more = refl
first_behind (y ∷ ys) x more = first_behind ys x more

length_both : (xs : List ℕ) (y : ℕ) (ys : List ℕ) → length xs < length (xs ++ y ∷ ys)
length_both [] y ys = omega arith
length_both (x ∷ xs) y ys = let rest = length_both xs y ys in omega (arith, rest)

length_none : (xs : List ℕ) → length (xs ++ []) ≡ length xs
length_none [] = refl
length_none (x ∷ xs) = ap suc (length_none xs)

-- a place with lower times before it, and no lower ones from it on
place_parts : (ts : List ℕ) (n k : ℕ) (xs ys : List ℕ) → AllUnder ts n xs → ((y : ℕ) (more : List ℕ) → ys ≡ y ∷ more → n ≤ time_of ts y) → k ≤ length (xs ++ ys)
    → ((j : ℕ) → j < k → time_of ts (get_or (xs ++ ys) j 0) < n) → ((j : ℕ) → k ≤ j → j < length (xs ++ ys) → n ≤ time_of ts (get_or (xs ++ ys) j 0)) → k ≡ length xs
place_parts ts n k xs [] under first within below above = ⊎_elim
    (λ low. let a = above k (omega arith) (let e = length_none xs in omega (arith, e, low)) in let b = under_at ts n xs [] under k low in absurd (omega (arith, a, b)))
    (λ high. let e = length_none xs in omega (arith, e, high, within))
    (cases_lt k (length xs))
place_parts ts n k xs (y ∷ ys) under first within below above = ⊎_elim
    (λ low. let long = length_both xs y ys in let a = above k (omega arith) (omega (arith, long, low)) in let b = under_at ts n xs (y ∷ ys) under k low in absurd (omega (arith, a, b)))
    (λ high. ⊎_elim
    (λ (same : length xs ≡ k). sym same)
    (λ other.
    let a = below (length xs) (omega (arith, high, other)) in
    let b = ap (time_of ts) (first_behind xs y ys) in
    let c = first y ys refl in absurd (omega (arith, a, b, c)))
    (cases_eq (length xs) k))
    (cases_lt k (length xs))

-- ---- a slot in the order of the log

pub record StandsIn (s : ℕ) (order : List ℕ) : Type 0 where
  pub front : List ℕ
  pub back : List ℕ
  pub at_it : order ≡ front ++ s ∷ back

pub stands_in : (s : ℕ) (order : List ℕ) → 1 ≤ times s order → StandsIn s order
stands_in s [] there = absurd (omega (arith, there))
stands_in s (y ∷ ys) there = ⊎_elim
    (λ (same : y ≡ s). record { front = []; back = ys; at_it = ap (λ n. n ∷ ys) same })
    (λ other.
    let a = times_other s y ys other in
    let rest = stands_in s ys (omega (arith, a, there)) in
    record { front = y ∷ rest.front; back = rest.back; at_it = ap (λ r. y ∷ r) rest.at_it })
    (cases_eq y s)

pub times_filter : (t : ℕ) (test : ℕ → Bool) (slots : List ℕ) → test t ≡ true → times t (filter test slots) ≡ times t slots
times_filter t test [] on = refl
times_filter t test (y ∷ ys) on =
    let rest = times_filter t test ys on in
    ⊎_elim
    (λ yes. let e = ap (λ b. times t (cond b (y ∷ filter test ys) (filter test ys))) yes in omega (arith, e, rest))
    (λ no.
    let other : y ≢ t = λ same. true≢false (sym (ap test same ∙ on) ∙ no) in
    let e = ap (λ b. times t (cond b (y ∷ filter test ys) (filter test ys))) no in
    let a = times_other t y ys other in omega (arith, e, rest, a))
    (cases_Bool (test y))

pub filter_few : (t : ℕ) (test : ℕ → Bool) (slots : List ℕ) → times t (filter test slots) ≤ times t slots
filter_few t test [] = omega arith
filter_few t test (y ∷ ys) =
    let rest = filter_few t test ys in
    ⊎_elim
    (λ yes. let e = ap (λ b. times t (cond b (y ∷ filter test ys) (filter test ys))) yes in omega (arith, e, rest))
    (λ no. let e = ap (λ b. times t (cond b (y ∷ filter test ys) (filter test ys))) no in omega (arith, e, rest))
    (cases_Bool (test y))

pub filter_none : (t : ℕ) (test : ℕ → Bool) (slots : List ℕ) → test t ≡ false → times t (filter test slots) ≡ 0
filter_none t test [] off = refl
filter_none t test (y ∷ ys) off =
    let rest = filter_none t test ys off in
    ⊎_elim
    (λ yes.
    let other : y ≢ t = λ same. true≢false (sym yes ∙ ap test same ∙ off) in
    let e = ap (λ b. times t (cond b (y ∷ filter test ys) (filter test ys))) yes in
    let a = times_other t y (filter test ys) other in omega (arith, e, rest, a))
    (λ no. let e = ap (λ b. times t (cond b (y ∷ filter test ys) (filter test ys))) no in omega (arith, e, rest))
    (cases_Bool (test y))

pub has_some : (slots : List ℕ) (t : ℕ) → 1 ≤ times t slots → has slots t ≡ true
has_some slots t there = lt-ltb 0 (times t slots) (omega (arith, there))

pub has_none : (slots : List ℕ) (t : ℕ) → times t slots ≡ 0 → has slots t ≡ false
has_none slots t none = le-ltb 0 (times t slots) (omega (arith, none))

pub has_there : (slots : List ℕ) (t : ℕ) → has slots t ≡ true → 1 ≤ times t slots
has_there slots t on = let a = ltb-true 0 (times t slots) on in omega (arith, a)

-- what a filter kept has passed it
pub has_filter : (test : ℕ → Bool) (slots : List ℕ) (t : ℕ) → 1 ≤ times t slots → has (filter test slots) t ≡ test t
has_filter test slots t there = ⊎_elim
    (λ on. has_some (filter test slots) t (let a = times_filter t test slots on in omega (arith, a, there)) ∙ sym on)
    (λ off. has_none (filter test slots) t (filter_none t test slots off) ∙ sym off)
    (cases_Bool (test t))

pub filter_long : (test : ℕ → Bool) (slots : List ℕ) → length (filter test slots) ≤ length slots
filter_long test [] = omega arith
filter_long test (y ∷ ys) =
    let rest = filter_long test ys in
    ⊎_elim
    (λ yes. let e = ap (λ b. length (cond b (y ∷ filter test ys) (filter test ys))) yes in omega (arith, e, rest))
    (λ no. let e = ap (λ b. length (cond b (y ∷ filter test ys) (filter test ys))) no in omega (arith, e, rest))
    (cases_Bool (test y))

filter_shorter : (test : ℕ → Bool) (s : ℕ) (slots : List ℕ) → test s ≡ false → 1 ≤ times s slots → length (filter test slots) < length slots
filter_shorter test s [] off there = absurd (omega (arith, there))
filter_shorter test s (y ∷ ys) off there =
    let most = filter_long test ys in
    ⊎_elim
    (λ yes.
    let other : y ≢ s = λ same. true≢false (sym yes ∙ ap test same ∙ off) in
    let a = times_other s y ys other in
    let rest = filter_shorter test s ys off (omega (arith, a, there)) in
    let e = ap (λ b. length (cond b (y ∷ filter test ys) (filter test ys))) yes in omega (arith, e, rest))
    (λ no. let e = ap (λ b. length (cond b (y ∷ filter test ys) (filter test ys))) no in omega (arith, e, most))
    (cases_Bool (test y))

-- ---- a look at the line of a key

module _ (scopes : Scoped) (key : ℕ) (xs : List Standing) (order due : List ℕ) (in_order : InOrder due order) where
  abbrev pub after : ℕ → Bool
  after t = has due t || gains scopes key xs t

  or_none : (b : Bool) → (b || false) ≡ b
  or_none true = refl
  or_none false = refl

  -- it adds nothing
  pub adds_none : ((t : ℕ) → gains scopes key xs t ≡ false) → due ≡ filter after order
  adds_none none = in_order ∙ same_filter (has due) after order (λ t there. sym (ap (λ b. has due t || b) (none t) ∙ or_none (has due t)))

  and_none : (b : Bool) → (b && false) ≡ false
  and_none true = refl
  and_none false = refl

  pub none_due : due_in scopes.items (slots_of key scopes.lines) ≡ None → (t : ℕ) → gains scopes key xs t ≡ false
  none_due none t = ap (λ o. is_cleared (at xs t) && is_it t o) none ∙ and_none (is_cleared (at xs t))

  module _ (slot : ℕ) (due_is : due_in scopes.items (slots_of key scopes.lines) ≡ Some slot) where
    gained : (t : ℕ) → gains scopes key xs t ≡ (is_cleared (at xs t) && slot == t)
    gained t = ap (λ o. is_cleared (at xs t) && is_it t o) due_is

    pub none_cleared : is_cleared (at xs slot) ≡ false → (t : ℕ) → gains scopes key xs t ≡ false
    none_cleared off t = ⊎_elim
        (λ (same : t ≡ slot). gained t ∙ ap (λ b. b && slot == t) (ap (λ k. is_cleared (at xs k)) same ∙ off))
        (λ other. gained t ∙ ap (λ b. is_cleared (at xs t) && b) (ne_eqb slot t (λ e. other (sym e))) ∙ and_none (is_cleared (at xs t)))
        (cases_eq t slot)

    adds : is_cleared (at xs slot) ≡ true → (t : ℕ) → after t ≡ or_it (has due) slot t
    adds on t = ⊎_elim
        (λ (same : t ≡ slot).
        ap (λ b. has due t || b) (gained t ∙ ap (λ b. b && slot == t) (ap (λ k. is_cleared (at xs k)) same ∙ on) ∙ eq-eqb slot t (sym same))
        ∙ sym (ap (λ b. has due t || b) (eq-eqb t slot same)))
        (λ other.
        ap (λ b. has due t || b) (gained t ∙ ap (λ b. is_cleared (at xs t) && b) (ne_eqb slot t (λ e. other (sym e))) ∙ and_none (is_cleared (at xs t)))
        ∙ sym (ap (λ b. has due t || b) (ne_eqb t slot other)))
        (cases_eq t slot)

    or_all : (b : Bool) → (b || true) ≡ true
    or_all true = refl
    or_all false = refl

    module _ (on : is_cleared (at xs slot) ≡ true) (ts : List ℕ) (up : IsUp ts order) (there : 1 ≤ times slot order) (once : times slot order ≤ 1) (k : ℕ) (within : k ≤ length due)
        (below : (j : ℕ) → j < k → time_of ts (get_or due j 0) < time_of ts slot) (above : (j : ℕ) → k ≤ j → j < length due → time_of ts slot ≤ time_of ts (get_or due j 0)) where
      p : StandsIn slot order
      p = stands_in slot order there

      up_p : IsUp ts (p.front ++ slot ∷ p.back)
      up_p = subst (IsUp ts) p.at_it up

      alone : (times slot p.front ≡ 0) × (times slot p.back ≡ 0)
      alone =
          let e = ap (times slot) p.at_it in let b = times_append slot p.front (slot ∷ p.back) in let c = times_same slot slot p.back refl in
          (omega (arith, e, b, c, once), omega (arith, e, b, c, once))

      due_parts : due ≡ filter (has due) p.front ++ filter (has due) (slot ∷ p.back)
      due_parts = in_order ∙ ap (filter (has due)) p.at_it ∙ filter_both (has due) slot (has due) p.front (slot ∷ p.back)

      first_late : (y : ℕ) (rest : List ℕ) → filter (has due) (slot ∷ p.back) ≡ y ∷ rest → time_of ts slot ≤ time_of ts y
      first_late y rest e = ⊎_elim
          (λ yes.
          let f : slot ∷ filter (has due) p.back ≡ y ∷ rest = sym (ap (λ b. cond b (slot ∷ filter (has due) p.back) (filter (has due) p.back)) yes) ∙ e in
          let same : slot ≡ y = cc in let g = ap (time_of ts) same in omega (arith, g))
          (λ no.
          let f : filter (has due) p.back ≡ y ∷ rest = sym (ap (λ b. cond b (slot ∷ filter (has due) p.back) (filter (has due) p.back)) no) ∙ e in
          let g = subst (AllAfter ts (time_of ts slot)) f (after_filter ts (time_of ts slot) (has due) p.back (back_after ts slot p.front p.back up_p)) in let h = g.0 in omega (arith, h))
          (cases_Bool (has due slot))

      place_is : k ≡ length (filter (has due) p.front)
      place_is = place_parts ts (time_of ts slot) k (filter (has due) p.front) (filter (has due) (slot ∷ p.back))
          (under_filter ts (time_of ts slot) (has due) p.front (front_under ts slot p.front p.back up_p)) first_late
          (let e = ap length due_parts in omega (arith, e, within))
          (subst (λ d. (j : ℕ) → j < k → time_of ts (get_or d j 0) < time_of ts slot) due_parts below)
          (subst (λ d. (j : ℕ) → k ≤ j → j < length d → time_of ts slot ≤ time_of ts (get_or d j 0)) due_parts above)

      -- it is there already
      pub stays : k < length due → get_or due k 0 ≡ slot → due ≡ filter after order
      stays l is =
          let yes = has_some due slot (subst (λ n. 1 ≤ times n due) is (times_at due k l)) in
          in_order ∙ same_filter (has due) after order (λ t in_it. sym (adds on t ∙ ⊎_elim
          (λ (same : t ≡ slot). ap (λ b. has due t || b) (eq-eqb t slot same) ∙ or_all (has due t) ∙ sym (ap (has due) same ∙ yes))
          (λ other. ap (λ b. has due t || b) (ne_eqb t slot other) ∙ or_none (has due t))
          (cases_eq t slot)))

      -- or it isn't, and comes to its place
      pub not_yet : (k < length due → get_or due k 0 ≡ slot → ⊥) → has due slot ≡ false
      not_yet apart = false_from_ne_true (has due slot) (λ yes.
          let e : due ≡ filter (has due) p.front ++ slot ∷ filter (has due) p.back =
          due_parts ∙ ap (λ r. filter (has due) p.front ++ r) (ap (λ b. cond b (slot ∷ filter (has due) p.back) (filter (has due) p.back)) yes) in
          apart (let a = ap length e in let b = length_both (filter (has due) p.front) slot (filter (has due) p.back) in let c = place_is in omega (arith, a, b, c))
          (ap (λ n. get_or due n 0) place_is ∙ ap (λ d. get_or d (length (filter (has due) p.front)) 0) e ∙ first_behind (filter (has due) p.front) slot (filter (has due) p.back)))

      pub comes : has due slot ≡ false → insert due k slot ≡ filter after order
      comes off =
          ap (λ n. insert due n slot) place_is
          ∙ ap (λ d. insert d (length (filter (has due) p.front)) slot) (in_order ∙ ap (filter (has due)) p.at_it)
          ∙ sym (inserted (has due) slot p.front p.back alone.0 alone.1 off)
          ∙ ap (filter (or_it (has due) slot)) (sym p.at_it)
          ∙ sym (same_filter after (or_it (has due) slot) order (λ t in_it. adds on t))

      pub room_for : has due slot ≡ false → length due < length order
      room_for off = let a = ap length in_order in let b = filter_shorter (has due) slot order off there in omega (arith, a, b)

-- ---- one goes from those that are due, found by halves

none_at : (s : ℕ) (xs : List ℕ) → ((j : ℕ) → j < length xs → get_or xs j 0 ≡ s → ⊥) → times s xs ≡ 0
none_at s xs none = ⊎_elim
    (λ there. let p = stands s xs there in absurd (none p.place p.inside p.there))
    (λ gone. omega (arith, gone))
    (cases_lt 0 (times s xs))

remove_only : (s : ℕ) (xs : List ℕ) (k : ℕ) → k < length xs → get_or xs k 0 ≡ s → ((j : ℕ) → j < length xs → get_or xs j 0 ≡ s → j ≡ k) → remove xs k ≡ without s xs
remove_only s [] k l is only = absurd (omega (arith, l))
remove_only s (x ∷ xs) zero l is only =
    sym (without_same s x xs is ∙ without_none s xs (none_at s xs (λ j m e. let a = only (suc j) (omega (arith, m)) e in omega (arith, a))))
remove_only s (x ∷ xs) (suc k) l is only =
    let other : x ≢ s = λ same. (let a = only zero (omega arith) same in omega (arith, a)) in
    ap (λ r. x ∷ r) (remove_only s xs k (omega (arith, l)) is (λ j m e. let a = only (suc j) (omega (arith, m)) e in omega (arith, a)))
    ∙ sym (without_other s x xs other)

module _ (ts due : List ℕ) (slot k : ℕ) (up : AreAscending (time_of ts) due)
    (below : (j : ℕ) → j < k → time_of ts (get_or due j 0) < time_of ts slot) (above : (j : ℕ) → k ≤ j → j < length due → time_of ts slot ≤ time_of ts (get_or due j 0)) where
  only_at : (j : ℕ) → j < length due → get_or due j 0 ≡ slot → j ≡ k
  only_at j l is =
      let same = ap (time_of ts) is in
      ⊎_elim
      (λ low. let a = below j low in absurd (omega (arith, a, same)))
      (λ high. ⊎_elim
      (λ (e : j ≡ k). e)
      (λ other.
      let a = above k (omega arith) (omega (arith, high, l)) in
      let b = up k j 0 (omega (arith, high, other)) l in absurd (omega (arith, a, b, same)))
      (cases_eq j k))
      (cases_lt j k)

  pub left_at : k < length due → get_or due k 0 ≡ slot → remove due k ≡ without slot due
  left_at l is = remove_only slot due k l is only_at

  pub not_among : (k < length due → get_or due k 0 ≡ slot → ⊥) → times slot due ≡ 0
  not_among apart = none_at slot due (λ j l is.
      let same = only_at j l is in apart (omega (arith, l, same)) (subst (λ n. get_or due n 0 ≡ slot) same is))

  pub left_none : (k < length due → get_or due k 0 ≡ slot → ⊥) → due ≡ without slot due
  left_none apart = sym (without_none slot due (not_among apart))

  pub is_among : (b : Bool) → (b ≡ true → (k < length due) × (get_or due k 0 ≡ slot)) → (k < length due → get_or due k 0 ≡ slot → b ≡ true) → b ≡ has due slot
  is_among b on_it off_it = ⊎_elim
      (λ on. let found = on_it on in on ∙ sym (has_some due slot (subst (λ n. 1 ≤ times n due) found.1 (times_at due k found.0))))
      (λ off. off ∙ sym (has_none due slot (not_among (λ l is. true≢false (sym (off_it l is) ∙ off)))))
      (cases_Bool b)
