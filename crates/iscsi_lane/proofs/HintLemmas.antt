-- The hints of what holds an answer back: as one comes, as a slot is passed, and as it goes.
use Rattle.std.proofs.Common.{◌≡◌, ◌≢◌, ℕ, ◌<◌, ◌≤◌, ◌==◌, inl, inr, cond, Bool, true, false, List, [], ◌∷◌, ◌++◌, length, Option, set, refl, ap, sym, subst, ◌∙◌, arith, ⊎_elim, eq-eqb, ne_eqb}
use Rattle.std.specs.Option.{unwrap_or}
use Rattle.std.proofs.lemmas.Bool.{cases_eq}
use Rattle.std.proofs.lemmas.List.{get_or-set_same, get_or-set_other}
use Rattle.iscsi_slots.specs.Slots.{times}
use Rattle.iscsi_slots.proofs.SlotLemmas.{times_append}
use Rattle.iscsi_lists.specs.Lists.{first_of, without}
use Rattle.iscsi_lists.proofs.WithoutLemmas.{none_behind, not_first, times_other, times_same, times_without, times_without_other}
use Rattle.iscsi_lane.specs.Hints.{AreHints, IsHint, Passes, behind, first_or_none, hint_at, passed}
use Rattle.iscsi_lane.proofs.OrderLemmas.{stands_in}

-- ---- what stands behind a slot

behind_at : (s : ℕ) (front back : List ℕ) → times s front ≡ 0 → behind s (front ++ s ∷ back) ≡ first_or_none back
behind_at s [] back none = ap (λ b. cond b (first_or_none back) (behind s back)) (eq-eqb s s refl)
behind_at s (y ∷ ys) back none =
    ap (λ b. cond b (first_or_none (ys ++ s ∷ back)) (behind s (ys ++ s ∷ back))) (ne_eqb y s (not_first s y ys none)) ∙ behind_at s ys back (none_behind s y ys none)

first_there : (slots : List ℕ) (o : Option ℕ) → o ≡ first_of slots → (unwrap_or o 0) ≡ first_or_none slots
first_there [] o is = ap (λ x. unwrap_or x 0) is
first_there (y ∷ ys) o is = ap (λ x. unwrap_or x 0) is

module _ (s : ℕ) (order : List ℕ) (there : 1 ≤ times s order) (once : times s order ≤ 1) where
  alone_here : (front back : List ℕ) → order ≡ front ++ s ∷ back → (times s front ≡ 0) × (times s back ≡ 0)
  alone_here front back at_it =
      let a = ap (times s) at_it in
      let b = times_append s front (s ∷ back) in
      let d = times_same s s back refl in
      (omega (arith, a, b, d, once), omega (arith, a, b, d, once))

  -- it is what the next one is
  pub next_is : (o : Option ℕ) → ((front back : List ℕ) → order ≡ front ++ s ∷ back → o ≡ first_of back) → (unwrap_or o 0) ≡ behind s order
  next_is o is =
      let p = stands_in s order there in
      first_there p.back o (is p.front p.back p.at_it) ∙ sym (behind_at s p.front p.back (alone_here p.front p.back p.at_it).0) ∙ ap (behind s) (sym p.at_it)

  first_hint : (front back : List ℕ) → IsHint (front ++ s ∷ back) (first_or_none back)
  first_hint front [] = inl refl
  first_hint front (y ∷ ys) =
      let a = times_append y front (s ∷ y ∷ ys) in
      let b = times_same y y ys refl in
      inr (⊎_elim
      (λ (same : s ≡ y). let d = times_same y s (y ∷ ys) same in omega (arith, a, b, d))
      (λ other. let d = times_other y s (y ∷ ys) other in omega (arith, a, b, d))
      (cases_eq s y))

  first_apart : (back : List ℕ) → 1 ≤ s → times s back ≡ 0 → first_or_none back ≢ s
  first_apart [] some none = λ e. omega (arith, e, some)
  first_apart (y ∷ ys) some none = not_first s y ys none

  behind_is : behind s order ≡ first_or_none (stands_in s order there).back
  behind_is =
      let p = stands_in s order there in
      ap (behind s) p.at_it ∙ behind_at s p.front p.back (alone_here p.front p.back p.at_it).0

  behind_hint : IsHint order (behind s order)
  behind_hint =
      let p = stands_in s order there in
      subst (IsHint order) (sym behind_is) (subst (λ q. IsHint q (first_or_none p.back)) (sym p.at_it) (first_hint p.front p.back))

  pub behind_apart : 1 ≤ s → behind s order ≢ s
  behind_apart some =
      let p = stands_in s order there in
      λ e. first_apart p.back some (alone_here p.front p.back p.at_it).1 (sym behind_is ∙ e)

  -- ---- a hint that is passed

  by_test : (P : ℕ → Type 0) (h : ℕ) → (h ≡ s → P (behind s order)) → (h ≢ s → P h) → P (passed s order h)
  by_test P h same other = ⊎_elim
      (λ is. subst (λ b. P (cond b (behind s order) h)) (sym (eq-eqb h s is)) (same is))
      (λ apart. subst (λ b. P (cond b (behind s order) h)) (sym (ne_eqb h s apart)) (other apart))
      (cases_eq h s)

  pub passed_hint : (h : ℕ) → IsHint order h → IsHint order (passed s order h)
  passed_hint h is = by_test (IsHint order) h (λ same. behind_hint) (λ other. is)

  pub passed_apart : 1 ≤ s → (h : ℕ) → passed s order h ≢ s
  passed_apart some h = by_test (λ k. k ≢ s) h (λ same. behind_apart some) (λ other. other)

  pub passed_twice : 1 ≤ s → (h : ℕ) → passed s order (passed s order h) ≡ passed s order h
  passed_twice some h = ap (λ b. cond b (behind s order) (passed s order h)) (ne_eqb (passed s order h) s (passed_apart some h))

  -- so it stands there still, once the slot is gone
  pub hint_goes : 1 ≤ s → (h : ℕ) → IsHint order h → IsHint (without s order) (passed s order h)
  hint_goes some h is = ⊎_elim
      (λ none. inl none)
      (λ stands. inr (subst (λ n. 1 ≤ n) (sym (times_without_other s (passed s order h) order (passed_apart some h))) stands))
      (passed_hint h is)

  -- ---- all of them

  pub hints_stay : (answers before after : List ℕ) → Passes s order answers before after → AreHints order before answers → AreHints order after answers
  hints_stay answers before after passes are = λ t among. subst (IsHint order) (sym (passes t among)) (passed_hint (hint_at before t) (are t among))

  pub hints_go : 1 ≤ s → (answers before after : List ℕ) → Passes s order answers before after → AreHints order before answers → AreHints (without s order) after answers
  hints_go some answers before after passes are = λ t among. subst (IsHint (without s order)) (sym (passes t among)) (hint_goes some (hint_at before t) (are t among))

-- a slot more stands behind all others
pub hint_comes : (order : List ℕ) (s h : ℕ) → IsHint order h → IsHint (order ++ s ∷ []) h
hint_comes order s h is = ⊎_elim (λ none. inl none) (λ stands. inr (let a = times_append h order (s ∷ []) in omega (arith, a, stands))) is

-- one answer's hint may have changed, which was one and is one
pub hints_changed : (order answers before after : List ℕ) (slot : ℕ) → AreHints order before answers → (IsHint order (hint_at before slot) → IsHint order (hint_at after slot))
    → ((t : ℕ) → (t == slot) ≡ false → hint_at after t ≡ hint_at before t) → AreHints order after answers
hints_changed order answers before after slot are here others = λ t among. ⊎_elim
    (λ (same : t ≡ slot). subst (λ k. IsHint order (hint_at after k)) (sym same) (here (subst (λ k. IsHint order (hint_at before k)) same (are t among))))
    (λ apart. subst (IsHint order) (sym (others t (ne_eqb t slot apart))) (are t among))
    (cases_eq t slot)

-- what is left of some was among them
left_among : (t s : ℕ) (slots : List ℕ) → 1 ≤ times t (without s slots) → 1 ≤ times t slots
left_among t s slots there = ⊎_elim
    (λ (same : t ≡ s). let a = ap (λ k. times k (without s slots)) same in let b = times_without s slots in absurd (omega (arith, a, b, there)))
    (λ apart. let a = times_without_other s t slots apart in omega (arith, a, there))
    (cases_eq t s)

-- an answer goes, and its slot is passed
pub hints_part : (s : ℕ) (order : List ℕ) → 1 ≤ times s order → times s order ≤ 1 → 1 ≤ s → (answers left before after : List ℕ) → left ≡ without s answers → Passes s order answers before after → AreHints order before answers
    → AreHints (without s order) after left
hints_part s order there once some answers left before after is passes are = λ t among.
    hints_go s order there once some answers before after passes are t (left_among t s answers (subst (λ (q : List ℕ). 1 ≤ times t q) is among))

-- an answer comes, of which nothing was looked at
pub hints_join : (s : ℕ) (order answers joined hints : List ℕ) (b : Bool) → s < length hints → joined ≡ answers ++ cond b (s ∷ []) [] → AreHints order hints answers → AreHints (order ++ s ∷ []) (set hints s 0) joined
hints_join s order answers joined hints b inside is are = λ t among. ⊎_elim
    (λ (same : t ≡ s). inl (ap (hint_at (set hints s 0)) same ∙ get_or-set_same hints s 0 0 inside))
    (λ apart. subst (IsHint (order ++ s ∷ [])) (sym (get_or-set_other hints s t 0 0 apart)) (hint_comes order s (hint_at hints t) (are t (before t apart among))))
    (cases_eq t s)
  where
    none_more : (t : ℕ) → t ≢ s → (v : Bool) → times t (cond v (s ∷ []) []) ≡ 0
    none_more t apart true = times_other t s [] (λ e. apart (sym e))
    none_more t apart false = refl

    before : (t : ℕ) → t ≢ s → 1 ≤ times t joined → 1 ≤ times t answers
    before t apart among =
        let a = ap (times t) is in
        let d = times_append t answers (cond b (s ∷ []) []) in
        let e = none_more t apart b in
        omega (arith, a, d, e, among)
