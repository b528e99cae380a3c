-- A walk over the log, from slot to slot; and what it finds.
use Rattle.std.proofs.Common.{◌≡◌, ◌≢◌, ℕ, suc, ◌<◌, ◌≤◌, ◌||◌, ◌&&◌, not, cond, Bool, true, false, List, [], ◌∷◌, ◌++◌, length, Option, Some, None, refl, ap, sym, subst, ◌∙◌, arith, ⊎_elim, eq-eqb, ne_eqb}
use Rattle.std.specs.List.{list_any}
use Rattle.std.proofs.lemmas.Bool.{cases_Bool, or_parts, or_from}
use Rattle.std.proofs.lemmas.List.{append-nil, append_assoc}
use Rattle.iscsi_slots.specs.Slots.{times}
use Rattle.iscsi_slots.proofs.SlotLemmas.{times_append}
use Rattle.iscsi_lists.specs.Lists.{Listed, first_of, without}
use Rattle.iscsi_lists.proofs.WithoutLemmas.{append_one, none_behind, not_first, times_other, times_same, without_append, without_none, without_same}
use Rattle.iscsi_outbox_state.specs.declared.lane.Left.{Left}
use Rattle.iscsi_outbox_state.specs.declared.lane.Undue.{Undue}
use Rattle.iscsi_outbox_state.specs.declared.lane.Standing.{Standing}
use Rattle.iscsi_outbox_state.specs.declared.lane.Standing.TheVariants.{Left as IsLeft, Undue as IsUndue}
use Rattle.iscsi_outbox_state.specs.Lane.{due_behind, holds_back, is_due, others_behind}
use Rattle.iscsi_lane.specs.Standings.{at, is_undue, slots_at, standings, tally}
use Rattle.iscsi_lane.specs.Walking.{IsPassed, IsWalk, NoneHolds, NoneIsDue, before_slot, from_slot, still_ahead}
use Rattle.iscsi_lane.proofs.StandLemmas.{standings_append}

-- ---- how far it has come

before_same : (s y : ℕ) (ys : List ℕ) → y ≡ s → before_slot s (y ∷ ys) ≡ []
before_same s y ys same = ap (λ b. cond b [] (y ∷ before_slot s ys)) (eq-eqb y s same)

before_other : (s y : ℕ) (ys : List ℕ) → y ≢ s → before_slot s (y ∷ ys) ≡ y ∷ before_slot s ys
before_other s y ys other = ap (λ b. cond b [] (y ∷ before_slot s ys)) (ne_eqb y s other)

pub before_at : (s : ℕ) (front back : List ℕ) → times s front ≡ 0 → before_slot s (front ++ back) ≡ front ++ before_slot s back
before_at s [] back none = refl
before_at s (y ∷ ys) back none =
    before_other s y (ys ++ back) (not_first s y ys none) ∙ ap (λ r. y ∷ r) (before_at s ys back (none_behind s y ys none))

pub before_it : (s : ℕ) (front back : List ℕ) → times s front ≡ 0 → before_slot s (front ++ s ∷ back) ≡ front
before_it s front back none = before_at s front (s ∷ back) none ∙ ap (λ r. front ++ r) (before_same s s back refl) ∙ append-nil front

from_same : (s y : ℕ) (ys : List ℕ) → y ≡ s → from_slot s (y ∷ ys) ≡ suc (length ys)
from_same s y ys same = ap (λ b. cond b (suc (length ys)) (from_slot s ys)) (eq-eqb y s same)

from_other : (s y : ℕ) (ys : List ℕ) → y ≢ s → from_slot s (y ∷ ys) ≡ from_slot s ys
from_other s y ys other = ap (λ b. cond b (suc (length ys)) (from_slot s ys)) (ne_eqb y s other)

from_at : (s : ℕ) (front back : List ℕ) → times s front ≡ 0 → from_slot s (front ++ s ∷ back) ≡ suc (length back)
from_at s [] back none = from_same s s back refl
from_at s (y ∷ ys) back none = from_other s y (ys ++ s ∷ back) (not_first s y ys none) ∙ from_at s ys back (none_behind s y ys none)

-- ---- a step of it

pub record Step (order front : List ℕ) (s : ℕ) (back : List ℕ) : Type 0 where
  pub rest : List ℕ
  pub here : back ≡ s ∷ rest
  pub parts : order ≡ front ++ s ∷ rest

pub step_of : (order front back : List ℕ) (s : ℕ) → order ≡ front ++ back → Some s ≡ first_of back → Step order front s back
step_of order front [] s parts first = absurd (cc)
step_of order front (y ∷ ys) s parts first =
    let same : y ≡ s = cc in
    record { rest = ys; here = ap (λ n. n ∷ ys) same; parts = parts ∙ ap (λ n. front ++ n ∷ ys) same }

pub none_ahead : (back : List ℕ) → None ≡ first_of back → back ≡ []
none_ahead [] first = refl
none_ahead (y ∷ ys) first = absurd (cc)

alone_in : (s : ℕ) (front back : List ℕ) → times s (front ++ s ∷ back) ≤ 1 → times s front ≡ 0
alone_in s front back once = let a = times_append s front (s ∷ back) in let b = times_same s s back refl in omega (arith, a, b, once)

pub ahead_is : (order front : List ℕ) (o : Option ℕ) (back : List ℕ) → ((t : ℕ) → times t order ≤ 1) → order ≡ front ++ back → o ≡ first_of back → still_ahead o order ≡ length back
ahead_is order front o [] once parts first = ap (λ x. still_ahead x order) first
ahead_is order front o (s ∷ back) once parts first =
    ap (λ x. still_ahead x order) first ∙ ap (from_slot s) parts
    ∙ from_at s front back (alone_in s front back (subst (λ q. times s q ≤ 1) parts (once s)))

module _ (order : List ℕ) (Holds : List ℕ → List ℕ → Type 0) where
  pub begins : (o : Option ℕ) → o ≡ first_of order → Holds [] order → IsWalk order Holds o
  begins o first holds = record { front = []; back = order; parts = refl; first = first; holds = holds }

  pub ends : IsWalk order Holds None → Holds order []
  ends is =
      let none = none_ahead is.back is.first in
      let all : is.front ≡ order = sym (append-nil is.front) ∙ ap (λ r. is.front ++ r) (sym none) ∙ sym is.parts in
      subst (λ f. Holds f []) all (subst (λ b. Holds is.front b) none is.holds)

  module _ (s : ℕ) (is : IsWalk order Holds (Some s)) (once : (t : ℕ) → times t order ≤ 1) where
    pub p : Step order is.front s is.back
    p = step_of order is.front is.back s is.parts is.first

    pub there : 1 ≤ times s order
    there = let a = ap (times s) p.parts in let b = times_append s is.front (s ∷ p.rest) in let c = times_same s s p.rest refl in omega (arith, a, b, c)

    pub alone : times s is.front ≡ 0
    alone = alone_in s is.front p.rest (subst (λ q. times s q ≤ 1) p.parts (once s))

    pub once_ahead : times s (s ∷ p.rest) ≤ 1
    once_ahead = let a = ap (times s) p.parts in let b = times_append s is.front (s ∷ p.rest) in let o = once s in omega (arith, a, b, o)

    pub here : Holds is.front (s ∷ p.rest)
    here = subst (λ b. Holds is.front b) p.here is.holds

    pub goes_on : (o : Option ℕ) → o ≡ first_of p.rest → Holds (is.front ++ s ∷ []) p.rest → IsWalk order Holds o
    goes_on o first holds = record { front = is.front ++ s ∷ []; back = p.rest; parts = p.parts ∙ append_one is.front p.rest s; first = first; holds = holds }

    pub nearer : (o : Option ℕ) → o ≡ first_of p.rest → still_ahead o order < still_ahead (Some s) order
    nearer o first =
        let a = ahead_is order (is.front ++ s ∷ []) o p.rest once (p.parts ∙ append_one is.front p.rest s) first in
        let b = ahead_is order is.front (Some s) (s ∷ p.rest) once p.parts refl in omega (arith, a, b)

-- ---- none so far is one that is looked for

pub any_push : (test : Standing → Bool) (xs : List Standing) (front : List ℕ) (s : ℕ) → list_any test (standings xs front) ≡ false → test (at xs s) ≡ false → list_any test (standings xs (front ++ s ∷ [])) ≡ false
any_push test xs [] s none off = or_from (test (at xs s)) false off refl
any_push test xs (y ∷ ys) s none off =
    let parts = or_parts (test (at xs y)) (list_any test (standings xs ys)) none in
    or_from (test (at xs y)) (list_any test (standings xs (ys ++ s ∷ []))) parts.0 (any_push test xs ys s parts.1 off)

pub any_at : (test : Standing → Bool) (xs : List Standing) (front : List ℕ) (s : ℕ) (back : List ℕ) → test (at xs s) ≡ true → list_any test (standings xs (front ++ s ∷ back)) ≡ true
any_at test xs [] s back on = ap (λ b. b || list_any test (standings xs back)) on
any_at test xs (y ∷ ys) s back on = ⊎_elim
    (λ yes. ap (λ b. b || list_any test (standings xs (ys ++ s ∷ back))) yes)
    (λ no. ap (λ b. b || list_any test (standings xs (ys ++ s ∷ back))) no ∙ any_at test xs ys s back on)
    (cases_Bool (test (at xs y)))

-- ---- whether an answer is due

pub uncleared_not : (before : List Standing) (a : Undue) → a.uncleared ≡ true → is_due before a ≡ false
uncleared_not before a waits = ap (λ b. not b && not (list_any (holds_back a) before)) waits

cleared_is : (before : List Standing) (a : Undue) → a.uncleared ≡ false → is_due before a ≡ not (list_any (holds_back a) before)
cleared_is before a cleared = ap (λ b. not b && not (list_any (holds_back a) before)) cleared

module _ (xs : List Standing) (a : Undue) (cleared : a.uncleared ≡ false) (order : List ℕ) (slot : ℕ) where
  -- it is reached, and none before it holds it back
  pub due_is : (front rest : List ℕ) → order ≡ front ++ slot ∷ rest → NoneHolds xs a slot front (slot ∷ rest) → is_due (standings xs (before_slot slot order)) a ≡ true
  due_is front rest parts held =
      ap (λ q. is_due (standings xs (before_slot slot q)) a) parts
      ∙ ap (λ q. is_due (standings xs q) a) (before_it slot front rest held.clear)
      ∙ cleared_is (standings xs front) a cleared ∙ ap not held.none

  -- one before it does
  pub due_not : (front : List ℕ) (s : ℕ) (rest : List ℕ) → order ≡ front ++ s ∷ rest → NoneHolds xs a slot front (s ∷ rest) → s ≢ slot → holds_back a (at xs s) ≡ true → is_due (standings xs (before_slot slot order)) a ≡ false
  due_not front s rest parts held other holds =
      ap (λ q. is_due (standings xs (before_slot slot q)) a) parts
      ∙ ap (λ q. is_due (standings xs q) a) (before_at slot front (s ∷ rest) held.clear ∙ ap (λ r. front ++ r) (before_other slot s rest other))
      ∙ cleared_is (standings xs (front ++ s ∷ before_slot slot rest)) a cleared
      ∙ ap not (any_at (holds_back a) xs front s (before_slot slot rest) holds)

  pub held_on : (front : List ℕ) (s : ℕ) (rest : List ℕ) → NoneHolds xs a slot front (s ∷ rest) → s ≢ slot → holds_back a (at xs s) ≡ false → NoneHolds xs a slot (front ++ s ∷ []) rest
  held_on front s rest held other off = record {
    none = any_push (holds_back a) xs front s held.none off;
    clear = let b = times_append slot front (s ∷ []) in let c = times_other slot s [] other in let d = held.clear in omega (arith, b, c, d);
  }

-- ---- the answer that is due first

not_both : (c : Left) (a : Undue) → IsLeft c ≡ IsUndue a → ⊥
not_both c a e = cc

same_answer : (a b : Undue) → IsUndue a ≡ IsUndue b → a ≡ b
same_answer a b e = cc

pub passed_none : (xs : List Standing) (order : List ℕ) → IsPassed xs order [] order
passed_none xs order = record { due = refl; others = refl }

module _ (xs : List Standing) (order front : List ℕ) (s : ℕ) (rest : List ℕ) (passed : IsPassed xs order front (s ∷ rest)) where
  pushed : standings xs (front ++ s ∷ []) ≡ standings xs front ++ at xs s ∷ []
  pushed = standings_append xs front (s ∷ [])

  due_on : (x : Standing) → at xs s ≡ x → (is_undue x ≡ true → (a : Undue) → x ≡ IsUndue a → is_due (standings xs front) a ≡ false) → due_behind (standings xs front) (x ∷ standings xs rest) ≡ due_behind (standings xs front ++ x ∷ []) (standings xs rest)
  due_on (IsLeft c) is off = refl
  due_on (IsUndue a) is off = ap (λ b. cond b (Some a) (due_behind (standings xs front ++ IsUndue a ∷ []) (standings xs rest))) (off refl a refl)

  others_on : (x : Standing) → at xs s ≡ x → (is_undue x ≡ true → (a : Undue) → x ≡ IsUndue a → is_due (standings xs front) a ≡ false) → others_behind (standings xs front) (x ∷ standings xs rest) ≡ others_behind (standings xs front ++ x ∷ []) (standings xs rest)
  others_on (IsLeft c) is off = refl
  others_on (IsUndue a) is off = ap (λ b. cond b (standings xs front ++ standings xs rest) (others_behind (standings xs front ++ IsUndue a ∷ []) (standings xs rest))) (off refl a refl)

  pub passes : ((a : Undue) → at xs s ≡ IsUndue a → is_due (standings xs front) a ≡ false) → IsPassed xs order (front ++ s ∷ []) rest
  passes off = record {
    due = passed.due ∙ due_on (at xs s) refl (λ it a is. off a is) ∙ ap (λ r. due_behind r (standings xs rest)) (sym pushed);
    others = passed.others ∙ others_on (at xs s) refl (λ it a is. off a is) ∙ ap (λ r. others_behind r (standings xs rest)) (sym pushed);
  }

  pub passes_undue : (a : Undue) → at xs s ≡ IsUndue a → is_due (standings xs front) a ≡ false → IsPassed xs order (front ++ s ∷ []) rest
  passes_undue a is off = passes (λ b at_it. ap (is_due (standings xs front)) (same_answer b a (sym at_it ∙ is)) ∙ off)

  pub passes_left : (c : Left) → at xs s ≡ IsLeft c → IsPassed xs order (front ++ s ∷ []) rest
  passes_left c is = passes (λ a e. absurd (not_both c a (sym is ∙ e)))

  module _ (a : Undue) (is : at xs s ≡ IsUndue a) (on : is_due (standings xs front) a ≡ true) where
    pub found_due : due_behind [] (standings xs order) ≡ Some a
    found_due =
        passed.due ∙ ap (λ x. due_behind (standings xs front) (x ∷ standings xs rest)) is
        ∙ ap (λ b. cond b (Some a) (due_behind (standings xs front ++ IsUndue a ∷ []) (standings xs rest))) on

    pub found_others : others_behind [] (standings xs order) ≡ standings xs (front ++ rest)
    found_others =
        passed.others ∙ ap (λ x. others_behind (standings xs front) (x ∷ standings xs rest)) is
        ∙ ap (λ b. cond b (standings xs front ++ standings xs rest) (others_behind (standings xs front ++ IsUndue a ∷ []) (standings xs rest))) on
        ∙ sym (standings_append xs front rest)

pub without_it : (order front : List ℕ) (s : ℕ) (rest : List ℕ) → times s order ≤ 1 → order ≡ front ++ s ∷ rest → without s order ≡ front ++ rest
without_it order front s rest once parts =
    let a = ap (times s) parts in let b = times_append s front (s ∷ rest) in let c = times_same s s rest refl in
    ap (without s) parts ∙ without_append s front (s ∷ rest)
    ∙ ap (λ r. r ++ without s (s ∷ rest)) (without_none s front (omega (arith, a, b, c, once)))
    ∙ ap (λ r. front ++ r) (without_same s s rest refl ∙ without_none s rest (omega (arith, a, b, c, once)))

pub none_is_due : (log : Listed Standing) → IsPassed log.values (slots_at log 2) (slots_at log 2) [] → NoneIsDue log
none_is_due log passed = record { due = passed.due; others = passed.others }

-- where no answer waits, none is due
pub none_waits : (before xs : List Standing) → tally is_undue xs ≡ 0 → (due_behind before xs ≡ None) × (others_behind before xs ≡ before ++ xs)
none_waits before [] none = (refl, sym (append-nil before))
none_waits before (IsLeft c ∷ xs) none =
    let rest = none_waits (before ++ IsLeft c ∷ []) xs (omega (arith, none)) in
    (rest.0, rest.1 ∙ append_assoc before (IsLeft c ∷ []) xs)
none_waits before (IsUndue a ∷ xs) none = absurd (omega (arith, none))
