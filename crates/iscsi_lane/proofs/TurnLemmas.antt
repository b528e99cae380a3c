-- Which answers the lines tell to be due, as one comes, owes less, or goes.
use Rattle.std.proofs.Common.{◌≡◌, ◌≢◌, ℕ, ◌<◌, ◌≤◌, ◌&&◌, not, cond, Bool, true, false, List, [], ◌∷◌, ◌++◌, length, filter, get_or, set, Option, Some, None, refl, ap, sym, ◌∙◌, arith, ⊎_elim, eq-eqb}
use Rattle.std.proofs.lemmas.Bool.{cases_Bool, cases_eq, eqb-true, false≢true, false_from_ne_true, true≢false}
use Rattle.std.proofs.lemmas.List.{append-nil, get_or-set_same, get_or-set_other}
use Rattle.iscsi_slots.specs.Slots.{times}
use Rattle.iscsi_lists.proofs.WithoutLemmas.{times_same}
use Rattle.iscsi_lines.specs.declared.item.Item.{Item}
use Rattle.iscsi_lines.specs.Lines.{BLANK, due_in, is_answer}
use Rattle.iscsi_outbox_state.specs.declared.lane.Aim.{Aim}
use Rattle.iscsi_outbox_state.specs.declared.lane.Aim.TheVariants.{Tag, Unit as AtUnit, Conn, Session, Nothing}
use Rattle.iscsi_outbox_state.specs.declared.lane.Standing.{Standing}
use Rattle.iscsi_outbox_state.specs.declared.lane.Standing.TheVariants.{Left as IsLeft, Undue as IsUndue}
use Rattle.iscsi_scopes.specs.Scopes.{AreKeysAscending, Scoped, entered, left, scoped, slots_of}
use Rattle.iscsi_scopes.proofs.FacetLemmas.{entered_here, entered_other, left_here, left_other}
use Rattle.iscsi_lane.specs.Standings.{NOBODY, at}
use Rattle.iscsi_lane.specs.Scoping.{Mirrors, blocks, due_of, is_it, told, told_of}
use Rattle.iscsi_lane.proofs.MirrorLemmas.{line_few}
use Rattle.iscsi_lane.proofs.StepLemmas.{due_before, due_command, due_fresh, due_gone, due_less, due_stays}

-- the answer that is due in the line of a key
abbrev pub due_at : Scoped → ℕ → Option ℕ
due_at scopes key = due_in scopes.items (slots_of key scopes.lines)

is_same : (s : ℕ) (o : Option ℕ) → is_it s o ≡ true → o ≡ Some s
is_same s None on = absurd (false≢true on)
is_same s (Some x) on = ap Some (eqb-true x s on)

it_is : (s : ℕ) (o : Option ℕ) → o ≡ Some s → is_it s o ≡ true
it_is s o e = ap (is_it s) e ∙ eq-eqb s s refl

-- two answers that tell the same of a slot
both_ways : (t : ℕ) (o p : Option ℕ) → (o ≡ Some t → p ≡ Some t) → (p ≡ Some t → o ≡ Some t) → is_it t o ≡ is_it t p
both_ways t o p on back = ⊎_elim
    (λ yes. yes ∙ sym (it_is t p (on (is_same t o yes))))
    (λ no. no ∙ sym (false_from_ne_true (is_it t p) (λ yes. true≢false (sym (it_is t o (back (is_same t p yes))) ∙ no))))
    (cases_Bool (is_it t o))

module _ (aim : ℕ → Aim) (scopes : Scoped) (xs : List Standing) (order : List ℕ) (mirrors : Mirrors aim scopes xs order) (up : AreKeysAscending scopes.lines) where
  few_in_line : (s k : ℕ) → times s (slots_of k scopes.lines) ≤ times s order
  few_in_line s k = let a = ap (times s) (mirrors.lines k) in let b = line_few (aim k) xs s order in omega (arith, a, b)

  -- ---- a slot comes to the line of a key

  module _ (key s : ℕ) (i : Item) (none : times s order ≡ 0) (inside : s < length scopes.items) where
    abbrev with_it : Scoped
    with_it = scoped (entered key s scopes.lines) (set scopes.items s i) scopes.room

    absent : (k : ℕ) → times s (slots_of k scopes.lines) ≡ 0
    absent k = let a = few_in_line s k in omega (arith, a, none)

    beside : (k : ℕ) → k ≢ key → due_at with_it k ≡ due_at scopes k
    beside k other = ap (due_in (set scopes.items s i)) (entered_other key s scopes.lines k other) ∙ due_fresh scopes.items s i [] (slots_of k scopes.lines) (absent k)

    here : due_at with_it key ≡ due_in (set scopes.items s i) (slots_of key scopes.lines ++ s ∷ [])
    here = ap (due_in (set scopes.items s i)) (entered_here key s scopes.lines up)

    -- a command makes no difference
    pub command_comes : is_answer i ≡ false → (k : ℕ) → due_at with_it k ≡ due_at scopes k
    command_comes off k = ⊎_elim
        (λ (same : k ≡ key).
        ap (due_at with_it) same ∙ here
        ∙ due_command (set scopes.items s i) s [] (slots_of key scopes.lines) (ap is_answer (get_or-set_same scopes.items s i BLANK inside) ∙ off)
        ∙ due_fresh scopes.items s i [] (slots_of key scopes.lines) (absent key) ∙ ap (due_at scopes) (sym same))
        (λ other. beside k other)
        (cases_eq k key)

    -- an answer makes none for others
    pub answer_comes : (t k : ℕ) → t ≢ s → is_it t (due_at with_it k) ≡ is_it t (due_at scopes k)
    answer_comes t k other = ⊎_elim
        (λ (same : k ≡ key).
        ap (λ n. is_it t (due_at with_it n)) same
        ∙ both_ways t (due_at with_it key) (due_at scopes key)
        (λ due. sym (due_fresh scopes.items s i [] (slots_of key scopes.lines) (absent key)) ∙ due_before (set scopes.items s i) s t [] (slots_of key scopes.lines) other (sym here ∙ due))
        (λ due. here ∙ due_stays (set scopes.items s i) (s ∷ []) t [] (slots_of key scopes.lines) (due_fresh scopes.items s i [] (slots_of key scopes.lines) (absent key) ∙ due))
        ∙ ap (λ n. is_it t (due_at scopes n)) (sym same))
        (λ away. ap (is_it t) (beside k away))
        (cases_eq k key)

  -- ---- a command of the line of a key owes less, or goes

  module _ (key s t : ℕ) (once : times t order ≤ 1) (other : t ≢ s) where
    once_in : (k : ℕ) → times t (slots_of k scopes.lines) ≤ 1
    once_in k = let a = few_in_line t k in omega (arith, a, once)

    -- what was due stays so
    pub less_stays : (i : Item) → s < length scopes.items → ((conn : ℕ) → blocks conn (get_or scopes.items s BLANK) ≡ false → blocks conn i ≡ false) → (k : ℕ) → due_at scopes k ≡ Some t
        → due_in (set scopes.items s i) (slots_of k scopes.lines) ≡ Some t
    less_stays i l less k due = due_less scopes.items (slots_of k scopes.lines) t s (once_in k) other due i l less

    pub gone_stays : (k : ℕ) → due_at scopes k ≡ Some t → due_at (scoped (left key s scopes.lines) scopes.items scopes.room) k ≡ Some t
    gone_stays k due = ⊎_elim
        (λ (same : k ≡ key).
        ap (λ n. due_in scopes.items (slots_of n (left key s scopes.lines))) same ∙ ap (due_in scopes.items) (left_here key s scopes.lines up)
        ∙ due_gone scopes.items (slots_of key scopes.lines) t s (once_in key) other (ap (due_at scopes) (sym same) ∙ due))
        (λ away. ap (due_in scopes.items) (left_other key s scopes.lines k away) ∙ due)
        (cases_eq k key)

  -- and in other lines nothing changes
  pub less_beside : (key s k : ℕ) (i : Item) → times s (slots_of k scopes.lines) ≡ 0 → due_in (set scopes.items s i) (slots_of k scopes.lines) ≡ due_at scopes k
  less_beside key s k i none = due_fresh scopes.items s i [] (slots_of k scopes.lines) none

  pub gone_beside : (key s k : ℕ) → k ≢ key → due_at (scoped (left key s scopes.lines) scopes.items scopes.room) k ≡ due_at scopes k
  gone_beside key s k away = ap (due_in scopes.items) (left_other key s scopes.lines k away)

-- ---- of all answers

pub same_filter : (f g : ℕ → Bool) (slots : List ℕ) → ((t : ℕ) → 1 ≤ times t slots → f t ≡ g t) → filter f slots ≡ filter g slots
same_filter f g [] same = refl
same_filter f g (y ∷ ys) same =
    let here = times_same y y ys refl in
    ap (λ b. cond b (y ∷ filter f ys) (filter f ys)) (same y (omega (arith, here)))
    ∙ ap (λ r. cond (g y) (y ∷ r) r) (same_filter f g ys (λ t there. same t (omega (arith, there))))

pub filter_push : (f : ℕ → Bool) (slots : List ℕ) (s : ℕ) → filter f (slots ++ s ∷ []) ≡ filter f slots ++ filter f (s ∷ [])
filter_push f [] s = refl
filter_push f (y ∷ ys) s = elim (f y) as (λ b. cond b (y ∷ filter f (ys ++ s ∷ [])) (filter f (ys ++ s ∷ [])) ≡ cond b (y ∷ filter f ys) (filter f ys) ++ filter f (s ∷ [])) [
  | true ↦ ap (λ r. y ∷ r) (filter_push f ys s)
  | false ↦ filter_push f ys s
]

-- two pairs of lines that tell the same of a slot, by each aim
abbrev pub TellSame : Scoped → Scoped → Scoped → Scoped → ℕ → Type 0
TellSame units tags units' tags' t = (key : ℕ) → (is_it t (due_at units' key) ≡ is_it t (due_at units key)) × (is_it t (due_at tags' key) ≡ is_it t (due_at tags key))

same_by_aim : (units tags units' tags' : Scoped) (t : ℕ) → TellSame units tags units' tags' t → (aim : Aim) → is_it t (due_of units' tags' aim) ≡ is_it t (due_of units tags aim)
same_by_aim units tags units' tags' t same (AtUnit unit) = (same unit).0
same_by_aim units tags units' tags' t same (Tag tag) = (same tag).1
same_by_aim units tags units' tags' t same (Conn conn) = refl
same_by_aim units tags units' tags' t same Session = refl
same_by_aim units tags units' tags' t same Nothing = refl

same_told : (units tags units' tags' : Scoped) (t : ℕ) → TellSame units tags units' tags' t → (x : Standing) → told_of units' tags' t x ≡ told_of units tags t x
same_told units tags units' tags' t same (IsLeft c) = refl
same_told units tags units' tags' t same (IsUndue a) = ap (λ b. not a.uncleared && b) (same_by_aim units tags units' tags' t same a.aim)

module _ (units tags units' tags' : Scoped) (xs : List Standing) (order : List ℕ) (s : ℕ) (x : Standing) (l : s < length xs) (none : times s order ≡ 0) (same : (t : ℕ) → t ≢ s → TellSame units tags units' tags' t) where
  pub told_beside : (t : ℕ) → 1 ≤ times t order → told units' tags' (set xs s x) t ≡ told units tags xs t
  told_beside t there =
      let other : t ≢ s = λ e. (let a = ap (λ k. times k order) e in omega (arith, a, there, none)) in
      ap (told_of units' tags' t) (get_or-set_other xs s t x NOBODY other) ∙ same_told units tags units' tags' t (same t other) (at xs t)

  -- as one comes, those that were due are, and perhaps it is
  pub told_comes : filter (told units' tags' (set xs s x)) (order ++ s ∷ []) ≡ filter (told units tags xs) order ++ filter (told units' tags' (set xs s x)) (s ∷ [])
  told_comes =
      filter_push (told units' tags' (set xs s x)) order s
      ∙ ap (λ r. r ++ filter (told units' tags' (set xs s x)) (s ∷ [])) (same_filter (told units' tags' (set xs s x)) (told units tags xs) order told_beside)

  -- which a command isn't
  pub told_left : told_of units' tags' s x ≡ false → filter (told units' tags' (set xs s x)) (order ++ s ∷ []) ≡ filter (told units tags xs) order
  told_left off =
      told_comes
      ∙ ap (λ b. filter (told units tags xs) order ++ cond b (s ∷ []) []) (ap (told_of units' tags' s) (get_or-set_same xs s x NOBODY l) ∙ off)
      ∙ append-nil (filter (told units tags xs) order)
