-- Which answers are due after a command owes less or an answer is taken: those that were, and what a look at the lines that changed
-- adds. And what is left of the lane where the first one that is due is taken.
use Rattle.std.proofs.Common.{◌≡◌, ◌≢◌, ℕ, ◌≤◌, ◌||◌, ◌&&◌, not, cond, Bool, true, false, List, [], ◌∷◌, ◌++◌, filter, Option, Some, None, refl, ap, sym, subst, ◌∙◌, arith, ⊎_elim, append_assoc, eq-eqb}
use Rattle.std.proofs.lemmas.Bool.{cases_Bool, cases_eq, eqb-true, false≢true, false_from_ne_true, or_cases, or_left, or_right, true≢false}
use Rattle.std.proofs.lemmas.List.{append-nil}
use Rattle.iscsi_slots.specs.Slots.{times}
use Rattle.iscsi_slots.proofs.SlotLemmas.{times_append}
use Rattle.iscsi_lists.specs.Lists.{first_of, without}
use Rattle.iscsi_lists.proofs.WithoutLemmas.{times_same, without_none, without_other, without_same}
use Rattle.iscsi_outbox_state.specs.declared.lane.Aim.{Aim}
use Rattle.iscsi_outbox_state.specs.declared.lane.Aim.TheVariants.{Tag, Unit as AtUnit, Conn, Session, Nothing}
use Rattle.iscsi_outbox_state.specs.declared.lane.Undue.{Undue}
use Rattle.iscsi_outbox_state.specs.declared.lane.Standing.{Standing}
use Rattle.iscsi_outbox_state.specs.declared.lane.Standing.TheVariants.{Left as IsLeft, Undue as IsUndue}
use Rattle.iscsi_outbox_state.specs.Lane.{is_due, is_same_aim, others_behind}
use Rattle.iscsi_scopes.specs.Scopes.{Scoped, slots_of}
use Rattle.iscsi_lane.specs.Standings.{at, standings}
use Rattle.iscsi_lane.specs.Scoping.{Mirrors, due_of, is_it, stands_in, told, told_of}
use Rattle.iscsi_lane.specs.Times.{gains, is_cleared}
use Rattle.iscsi_lane.proofs.DueLemmas.{AllTold, Tells}
use Rattle.iscsi_lane.proofs.MirrorLemmas.{none_in_line}
use Rattle.iscsi_lane.proofs.StepLemmas.{parted}
use Rattle.iscsi_lane.proofs.TurnLemmas.{due_at}

same_bool : (p q : Bool) → (p ≡ true → q ≡ true) → (q ≡ true → p ≡ true) → p ≡ q
same_bool true q on back = sym (on refl)
same_bool false q on back = sym (false_from_ne_true q (λ yes. false≢true (back yes)))

it_is : (t : ℕ) (o : Option ℕ) → o ≡ Some t → is_it t o ≡ true
it_is t o e = ap (is_it t) e ∙ eq-eqb t t refl

is_same : (t : ℕ) (o : Option ℕ) → is_it t o ≡ true → o ≡ Some t
is_same t None on = absurd (false≢true on)
is_same t (Some x) on = ap Some (eqb-true x t on)

-- what is due in the line of a key stands there
pub due_stands : (aim : ℕ → Aim) (scopes : Scoped) (xs : List Standing) (order : List ℕ) → Mirrors aim scopes xs order → (key t : ℕ) → due_at scopes key ≡ Some t → stands_in (aim key) (at xs t) ≡ true
due_stands aim scopes xs order mirrors key t due =
    let p = parted scopes.items [] (slots_of key scopes.lines) t due in
    let a = ap (times t) p.at in let b = times_append t p.front (t ∷ p.back) in let c = times_same t t p.back refl in
    let d = ap (times t) (mirrors.lines key) in
    ⊎_elim
    (λ on. on)
    (λ off. let e = none_in_line (aim key) xs t order off in absurd (omega (arith, a, b, c, d, e)))
    (cases_Bool (stands_in (aim key) (at xs t)))

-- and in the log
pub due_there : (scopes : Scoped) (key t : ℕ) → due_at scopes key ≡ Some t → 1 ≤ times t (slots_of key scopes.lines)
due_there scopes key t due =
    let p = parted scopes.items [] (slots_of key scopes.lines) t due in
    let a = ap (times t) p.at in let b = times_append t p.front (t ∷ p.back) in let c = times_same t t p.back refl in omega (arith, a, b, c)

module _ (units tags units' tags' : Scoped) (unit tag t : ℕ)
    (stays_u : (k : ℕ) → due_at units k ≡ Some t → due_at units' k ≡ Some t) (stays_t : (k : ℕ) → due_at tags k ≡ Some t → due_at tags' k ≡ Some t)
    (beside_u : (k : ℕ) → k ≢ unit → due_at units' k ≡ due_at units k) (beside_t : (k : ℕ) → k ≢ tag → due_at tags' k ≡ due_at tags k) where
  abbrev looks : Aim → Bool
  looks aim = (is_it t (due_of units tags aim) || is_it t (due_at units' unit)) || is_it t (due_at tags' tag)

  -- an aim that has no line
  no_line : (aim : Aim) (a : Undue) → a.aim ≡ aim → is_it t (due_of units tags aim) ≡ false → is_same_aim (AtUnit unit) aim ≡ false → is_same_aim (Tag tag) aim ≡ false
      → (due_at units' unit ≡ Some t → stands_in (AtUnit unit) (IsUndue a) ≡ true) → (due_at tags' tag ≡ Some t → stands_in (Tag tag) (IsUndue a) ≡ true)
      → looks aim ≡ false
  no_line aim a of_it none no_unit no_tag stand_u stand_t =
      ap (λ b. (b || is_it t (due_at units' unit)) || is_it t (due_at tags' tag)) none
      ∙ ap (λ b. b || is_it t (due_at tags' tag))
      (false_from_ne_true (is_it t (due_at units' unit)) (λ here. true≢false (sym (stand_u (is_same t (due_at units' unit) here)) ∙ ap (is_same_aim (AtUnit unit)) of_it ∙ no_unit)))
      ∙ false_from_ne_true (is_it t (due_at tags' tag)) (λ here. true≢false (sym (stand_t (is_same t (due_at tags' tag) here)) ∙ ap (is_same_aim (Tag tag)) of_it ∙ no_tag))

  by_aim : (aim : Aim) (a : Undue) → a.aim ≡ aim
      → (due_at units' unit ≡ Some t → stands_in (AtUnit unit) (IsUndue a) ≡ true) → (due_at tags' tag ≡ Some t → stands_in (Tag tag) (IsUndue a) ≡ true)
      → is_it t (due_of units' tags' aim) ≡ looks aim
  by_aim (AtUnit u) a of_it stand_u stand_t = same_bool (is_it t (due_at units' u)) (looks (AtUnit u))
      (λ on. ⊎_elim
      (λ (same : u ≡ unit).
      or_left (is_it t (due_at units u) || is_it t (due_at units' unit)) (is_it t (due_at tags' tag))
      (or_right (is_it t (due_at units u)) (is_it t (due_at units' unit)) (ap (λ k. is_it t (due_at units' k)) (sym same) ∙ on)))
      (λ other.
      or_left (is_it t (due_at units u) || is_it t (due_at units' unit)) (is_it t (due_at tags' tag))
      (or_left (is_it t (due_at units u)) (is_it t (due_at units' unit)) (ap (is_it t) (sym (beside_u u other)) ∙ on)))
      (cases_eq u unit))
      (λ any. ⊎_elim
      (λ first. ⊎_elim
      (λ before. it_is t (due_at units' u) (stays_u u (is_same t (due_at units u) before)))
      (λ here.
      let is = stand_u (is_same t (due_at units' unit) here) in
      let same : u ≡ unit = eqb-true u unit (subst (λ m. stands_in (AtUnit unit) (IsUndue (record a { aim = m })) ≡ true) of_it is) in
      ap (λ k. is_it t (due_at units' k)) same ∙ here)
      (or_cases (is_it t (due_at units u)) (is_it t (due_at units' unit)) first))
      (λ other.
      let is = stand_t (is_same t (due_at tags' tag) other) in
      absurd (false≢true (subst (λ m. stands_in (Tag tag) (IsUndue (record a { aim = m })) ≡ true) of_it is)))
      (or_cases (is_it t (due_at units u) || is_it t (due_at units' unit)) (is_it t (due_at tags' tag)) any))
  by_aim (Tag g) a of_it stand_u stand_t = same_bool (is_it t (due_at tags' g)) (looks (Tag g))
      (λ on. ⊎_elim
      (λ (same : g ≡ tag). or_right (is_it t (due_at tags g) || is_it t (due_at units' unit)) (is_it t (due_at tags' tag)) (ap (λ k. is_it t (due_at tags' k)) (sym same) ∙ on))
      (λ other.
      or_left (is_it t (due_at tags g) || is_it t (due_at units' unit)) (is_it t (due_at tags' tag))
      (or_left (is_it t (due_at tags g)) (is_it t (due_at units' unit)) (ap (is_it t) (sym (beside_t g other)) ∙ on)))
      (cases_eq g tag))
      (λ any. ⊎_elim
      (λ first. ⊎_elim
      (λ before. it_is t (due_at tags' g) (stays_t g (is_same t (due_at tags g) before)))
      (λ other.
      let is = stand_u (is_same t (due_at units' unit) other) in
      absurd (false≢true (subst (λ m. stands_in (AtUnit unit) (IsUndue (record a { aim = m })) ≡ true) of_it is)))
      (or_cases (is_it t (due_at tags g)) (is_it t (due_at units' unit)) first))
      (λ here.
      let is = stand_t (is_same t (due_at tags' tag) here) in
      let same : g ≡ tag = eqb-true g tag (subst (λ m. stands_in (Tag tag) (IsUndue (record a { aim = m })) ≡ true) of_it is) in
      ap (λ k. is_it t (due_at tags' k)) same ∙ here)
      (or_cases (is_it t (due_at tags g) || is_it t (due_at units' unit)) (is_it t (due_at tags' tag)) any))
  by_aim (Conn conn) a of_it stand_u stand_t = sym (no_line (Conn conn) a of_it refl refl refl stand_u stand_t)
  by_aim Session a of_it stand_u stand_t = sym (no_line Session a of_it refl refl refl stand_u stand_t)
  by_aim Nothing a of_it stand_u stand_t = sym (no_line Nothing a of_it refl refl refl stand_u stand_t)

  split : (b p q r : Bool) → (b && ((p || q) || r)) ≡ (((b && p) || (b && q)) || (b && r))
  split true p q r = refl
  split false p q r = refl

  by_standing : (x : Standing) → (due_at units' unit ≡ Some t → stands_in (AtUnit unit) x ≡ true) → (due_at tags' tag ≡ Some t → stands_in (Tag tag) x ≡ true)
      → told_of units' tags' t x ≡ ((told_of units tags t x || (is_cleared x && is_it t (due_at units' unit))) || (is_cleared x && is_it t (due_at tags' tag)))
  by_standing (IsLeft c) stand_u stand_t = refl
  by_standing (IsUndue a) stand_u stand_t =
      ap (λ b. not a.uncleared && b) (by_aim a.aim a refl stand_u stand_t)
      ∙ split (not a.uncleared) (is_it t (due_of units tags a.aim)) (is_it t (due_at units' unit)) (is_it t (due_at tags' tag))

  -- what is due then
  pub told_then : (xs ys : List Standing) (order : List ℕ) → Mirrors AtUnit units' ys order → Mirrors Tag tags' ys order → at ys t ≡ at xs t
      → told units' tags' ys t ≡ ((told units tags xs t || gains units' unit ys t) || gains tags' tag ys t)
  told_then xs ys order of_units of_tags same =
      by_standing (at ys t) (due_stands AtUnit units' ys order of_units unit t) (due_stands Tag tags' ys order of_tags tag t)
      ∙ ap (λ x. (told_of units tags t x || gains units' unit ys t) || gains tags' tag ys t) same

-- ---- the first one that is due is taken

abbrev pub without_first : (ℕ → Bool) → List ℕ → List ℕ
without_first test [] = []
without_first test (s ∷ slots) = cond (test s) slots (s ∷ without_first test slots)

standings_push : (xs : List Standing) (before : List ℕ) (s : ℕ) → standings xs (before ++ s ∷ []) ≡ standings xs before ++ at xs s ∷ []
standings_push xs [] s = refl
standings_push xs (y ∷ ys) s = ap (λ r. at xs y ∷ r) (standings_push xs ys s)

some_same : {a b : ℕ} → Some a ≡ Some b → a ≡ b
some_same e = cc

module _ (xs : List Standing) (test : ℕ → Bool) where
  first_in : (s : ℕ) (slots : List ℕ) → first_of (filter test slots) ≡ Some s → 1 ≤ times s slots
  first_in s [] first = absurd (cc)
  first_in s (y ∷ ys) first = ⊎_elim
      (λ on.
      let same : y ≡ s = some_same (sym (ap (λ b. first_of (cond b (y ∷ filter test ys) (filter test ys))) on) ∙ first) in
      let a = times_same s y ys same in omega (arith, a))
      (λ off. let rest = first_in s ys (sym (ap (λ b. first_of (cond b (y ∷ filter test ys) (filter test ys))) off) ∙ first) in omega (arith, rest))
      (cases_Bool (test y))

  first_off : (s : ℕ) (slots : List ℕ) → test s ≡ false → without_first test (s ∷ slots) ≡ s ∷ without_first test slots
  first_off s slots off = ap (λ b. cond b slots (s ∷ without_first test slots)) off

  first_on : (s : ℕ) (slots : List ℕ) → test s ≡ true → without_first test (s ∷ slots) ≡ slots
  first_on s slots on = ap (λ b. cond b slots (s ∷ without_first test slots)) on

  goes_on : (before : List Standing) (s : ℕ) (slots : List ℕ) (x : Standing) → at xs s ≡ x → test s ≡ false
      → others_behind (before ++ x ∷ []) (standings xs slots) ≡ (before ++ x ∷ []) ++ standings xs (without_first test slots)
      → others_behind (before ++ x ∷ []) (standings xs slots) ≡ before ++ standings xs (without_first test (s ∷ slots))
  goes_on before s slots x is off rest =
      rest ∙ append_assoc before (x ∷ []) (standings xs (without_first test slots))
      ∙ ap (λ z. before ++ z ∷ standings xs (without_first test slots)) (sym is)
      ∙ ap (λ r. before ++ standings xs r) (sym (first_off s slots off))

  step : (front : List ℕ) (before : List Standing) (s : ℕ) (slots : List ℕ) (x : Standing) → before ≡ standings xs front → at xs s ≡ x → Tells xs test front s x
      → others_behind (before ++ x ∷ []) (standings xs slots) ≡ (before ++ x ∷ []) ++ standings xs (without_first test slots)
      → others_behind before (x ∷ standings xs slots) ≡ before ++ standings xs (without_first test (s ∷ slots))
  step front before s slots (IsLeft c) same is tells rest = goes_on before s slots (IsLeft c) is tells rest
  step front before s slots (IsUndue a) same is tells rest = ⊎_elim
      (λ on.
      ap (λ b. cond b (before ++ standings xs slots) (others_behind (before ++ IsUndue a ∷ []) (standings xs slots))) (ap (λ r. is_due r a) same ∙ sym tells ∙ on)
      ∙ ap (λ r. before ++ standings xs r) (sym (first_on s slots on)))
      (λ off.
      ap (λ b. cond b (before ++ standings xs slots) (others_behind (before ++ IsUndue a ∷ []) (standings xs slots))) (ap (λ r. is_due r a) same ∙ sym tells ∙ off)
      ∙ goes_on before s slots (IsUndue a) is off rest)
      (cases_Bool (test s))

  pub others_are : (front slots : List ℕ) → AllTold xs test front slots → others_behind (standings xs front) (standings xs slots) ≡ standings xs front ++ standings xs (without_first test slots)
  others_are front [] all = sym (append-nil (standings xs front))
  others_are front (s ∷ slots) all =
      step front (standings xs front) s slots (at xs s) refl refl all.0
      (subst (λ r. others_behind r (standings xs slots) ≡ r ++ standings xs (without_first test slots)) (standings_push xs front s) (others_are (front ++ s ∷ []) slots all.1))

  -- where none is due, nothing is
  pub first_none : (slots : List ℕ) → first_of (filter test slots) ≡ None → without_first test slots ≡ slots
  first_none [] none = refl
  first_none (y ∷ ys) none = ⊎_elim
      (λ on. let e : Some y ≡ None = sym (ap (λ b. first_of (cond b (y ∷ filter test ys) (filter test ys))) on) ∙ none in absurd (cc))
      (λ off. first_off y ys off ∙ ap (λ r. y ∷ r) (first_none ys (sym (ap (λ b. first_of (cond b (y ∷ filter test ys) (filter test ys))) off) ∙ none)))
      (cases_Bool (test y))

  pub first_some : (slots : List ℕ) (s : ℕ) → times s slots ≤ 1 → first_of (filter test slots) ≡ Some s → without_first test slots ≡ without s slots
  first_some [] s once first = absurd (cc)
  first_some (y ∷ ys) s once first = ⊎_elim
      (λ on.
      let same : y ≡ s = some_same (sym (ap (λ b. first_of (cond b (y ∷ filter test ys) (filter test ys))) on) ∙ first) in
      let a = times_same s y ys same in
      first_on y ys on ∙ sym (without_same s y ys same ∙ without_none s ys (omega (arith, a, once))))
      (λ off.
      let later : first_of (filter test ys) ≡ Some s = sym (ap (λ b. first_of (cond b (y ∷ filter test ys) (filter test ys))) off) ∙ first in
      let other : y ≢ s = λ same. (let a = times_same s y ys same in let b = first_in s ys later in omega (arith, a, b, once)) in
      first_off y ys off ∙ ap (λ r. y ∷ r) (first_some ys s (omega (arith, once)) later) ∙ sym (without_other s y ys other))
      (cases_Bool (test y))
