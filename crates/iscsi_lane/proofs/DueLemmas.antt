-- An answer to an abort is due by all that stands before it, where it is due by what stands before it in its line. And the first
-- answer of all that is due is the first of those that are, in the order of the log.
use Rattle.std.proofs.Common.{◌≡◌, ◌≢◌, ℕ, ◌==◌, ◌||◌, ◌&&◌, not, cond, Bool, true, false, List, [], ◌∷◌, ◌++◌, filter, get_or, Option, Some, None, refl, ap, sym, subst, ◌∙◌, ⊎_elim}
use Rattle.std.specs.List.{list_any}
use Rattle.std.proofs.lemmas.Bool.{cases_Bool, false≢true, or_parts, or_from}
use Rattle.iscsi_slots.specs.Slots.{times}
use Rattle.iscsi_lists.specs.Lists.{first_of}
use Rattle.iscsi_lists.proofs.WithoutLemmas.{not_first, none_behind}
use Rattle.iscsi_lines.specs.declared.item.Item.{Item}
use Rattle.iscsi_lines.specs.declared.item.Item.TheVariants.{Answer}
use Rattle.iscsi_lines.specs.Lines.{BLANK, conn_of, due_in, holds_back as holds_item, is_answer, items_of, due_behind as due_in_line}
use Rattle.iscsi_outbox_state.specs.declared.lane.Undue.{Undue}
use Rattle.iscsi_outbox_state.specs.declared.lane.Standing.{Standing}
use Rattle.iscsi_outbox_state.specs.declared.lane.Standing.TheVariants.{Left as IsLeft, Undue as IsUndue}
use Rattle.iscsi_outbox_state.specs.Lane.{aims_at, due_behind, holds_back, is_due, is_of_logout, is_same_aim}
use Rattle.iscsi_lane.specs.Standings.{at, standings}
use Rattle.iscsi_lane.specs.Scoping.{AreItems, as_item, blocks, line_of, stands_in}

false_of : (b : Bool) → not b ≡ true → b ≡ false
false_of true e = absurd (false≢true e)
false_of false e = refl

-- ---- in a line

none_answers : (conn : ℕ) (i : Item) → blocks conn i ≡ false → is_answer i ≡ false
none_answers conn i off = (or_parts (is_answer i) (holds_item conn i) off).0

none_holds : (conn : ℕ) (i : Item) → blocks conn i ≡ false → holds_item conn i ≡ false
none_holds conn i off = (or_parts (is_answer i) (holds_item conn i) off).1

any_push : (test : Item → Bool) (xs : List Item) (x : Item) → list_any test xs ≡ false → test x ≡ false → list_any test (xs ++ x ∷ []) ≡ false
any_push test [] x none off = or_from (test x) false off refl
any_push test (y ∷ ys) x none off =
    let parts = or_parts (test y) (list_any test ys) none in
    or_from (test y) (list_any test (ys ++ x ∷ [])) parts.0 (any_push test ys x parts.1 off)

any_pushed : (test : Item → Bool) (xs : List Item) (x : Item) → list_any test (xs ++ x ∷ []) ≡ false → (list_any test xs ≡ false) × (test x ≡ false)
any_pushed test [] x none = (refl, (or_parts (test x) false none).0)
any_pushed test (y ∷ ys) x none =
    let parts = or_parts (test y) (list_any test (ys ++ x ∷ [])) none in
    let rest = any_pushed test ys x parts.1 in
    (or_from (test y) (list_any test ys) parts.0 rest.0, rest.1)

module _ (items : List Item) (s : ℕ) (conn : ℕ) (is : get_or items s BLANK ≡ Answer conn) (ys : List ℕ) where
  abbrev item : ℕ → Item
  item x = get_or items x BLANK

  abbrev looked : List Item → ℕ → List ℕ → Bool → Option ℕ
  looked before x rest b = cond b (cond (list_any (holds_item (conn_of (item x))) before) None (Some x)) (due_in_line items (before ++ item x ∷ []) rest)

  at_it : (before : List Item) → due_in_line items before (s ∷ ys) ≡ cond (list_any (holds_item conn) before) None (Some s)
  at_it before = ap (λ i. cond (is_answer i) (cond (list_any (holds_item (conn_of i)) before) None (Some s)) (due_in_line items (before ++ i ∷ []) ys)) is

  -- nothing before it blocks it
  pub due_clear : (before : List Item) (xs : List ℕ) → list_any (holds_item conn) before ≡ false → list_any (blocks conn) (items_of items xs) ≡ false → due_in_line items before (xs ++ s ∷ ys) ≡ Some s
  due_clear before [] held clear = at_it before ∙ ap (λ b. cond b None (Some s)) held
  due_clear before (x ∷ xs) held clear =
      let parts = or_parts (blocks conn (item x)) (list_any (blocks conn) (items_of items xs)) clear in
      ap (looked before x (xs ++ s ∷ ys)) (none_answers conn (item x) parts.0)
      ∙ due_clear (before ++ item x ∷ []) xs (any_push (holds_item conn) before (item x) held (none_holds conn (item x) parts.0)) parts.1

  not_held : (b : Bool) → cond b None (Some s) ≡ Some s → b ≡ false
  not_held true e = absurd (cc)
  not_held false e = refl

  other_found : (x : ℕ) (b : Bool) → x ≢ s → cond b None (Some x) ≡ Some s → ⊥
  other_found x true other e = absurd (cc)
  other_found x false other e = other (cc)

  -- it is due, so nothing does
  pub due_says : (before : List Item) (xs : List ℕ) → times s xs ≡ 0 → due_in_line items before (xs ++ s ∷ ys) ≡ Some s → (list_any (holds_item conn) before ≡ false) × (list_any (blocks conn) (items_of items xs) ≡ false)
  due_says before [] none due = (not_held (list_any (holds_item conn) before) (sym (at_it before) ∙ due), refl)
  due_says before (x ∷ xs) none due = ⊎_elim
      (λ on. absurd (other_found x (list_any (holds_item (conn_of (item x))) before) (not_first s x xs none) (sym (ap (looked before x (xs ++ s ∷ ys)) on) ∙ due)))
      (λ off.
      let rest = due_says (before ++ item x ∷ []) xs (none_behind s x xs none) (sym (ap (looked before x (xs ++ s ∷ ys)) off) ∙ due) in
      let parts = any_pushed (holds_item conn) before (item x) rest.0 in
      (parts.0, or_from (blocks conn (item x)) (list_any (blocks conn) (items_of items xs)) (or_from (is_answer (item x)) (holds_item conn (item x)) off parts.1) rest.1))
      (cases_Bool (is_answer (item x)))

-- ---- of all that stands before an answer, what is not in its line doesn't hold it back

module _ (a : Undue) (abort : is_of_logout a.aim ≡ false) (stays : a.ends ≡ false) where
  or_and : (b : Bool) → (b || false) ≡ (b && true)
  or_and true = refl
  or_and false = refl

  held_one : (x : Standing) → holds_back a x ≡ (stands_in a.aim x && blocks a.conn (as_item x))
  held_one (IsLeft c) = ap (λ b. aims_at a.aim c && (c.running || (not b && (c.under_way && not (c.conn == a.conn))))) abort
  held_one (IsUndue b) = ap (λ e. is_same_aim a.aim b.aim || (e && b.conn == a.conn)) stays ∙ or_and (is_same_aim a.aim b.aim)

  held_first : (x : Standing) (b : Bool) → stands_in a.aim x ≡ b → holds_back a x ≡ (b && blocks a.conn (as_item x))
  held_first x b is = held_one x ∙ ap (λ q. q && blocks a.conn (as_item x)) is

  pub held_in_line : (xs : List Standing) (items : List Item) (slots : List ℕ) → AreItems xs items (line_of a.aim xs slots)
      → list_any (holds_back a) (standings xs slots) ≡ list_any (blocks a.conn) (items_of items (line_of a.aim xs slots))
  held_in_line xs items [] are = refl
  held_in_line xs items (s ∷ slots) are = ⊎_elim
      (λ on.
      let e : line_of a.aim xs (s ∷ slots) ≡ s ∷ line_of a.aim xs slots = ap (λ b. cond b (s ∷ line_of a.aim xs slots) (line_of a.aim xs slots)) on in
      let here = subst (AreItems xs items) e are in
      ap (λ b. b || list_any (holds_back a) (standings xs slots)) (held_first (at xs s) true on)
      ∙ ap (λ b. blocks a.conn (as_item (at xs s)) || b) (held_in_line xs items slots here.1)
      ∙ ap (λ i. blocks a.conn i || list_any (blocks a.conn) (items_of items (line_of a.aim xs slots))) (sym here.0)
      ∙ ap (λ r. list_any (blocks a.conn) (items_of items r)) (sym e))
      (λ off.
      let e : line_of a.aim xs (s ∷ slots) ≡ line_of a.aim xs slots = ap (λ b. cond b (s ∷ line_of a.aim xs slots) (line_of a.aim xs slots)) off in
      ap (λ b. b || list_any (holds_back a) (standings xs slots)) (held_first (at xs s) false off)
      ∙ held_in_line xs items slots (subst (AreItems xs items) e are)
      ∙ ap (λ r. list_any (blocks a.conn) (items_of items r)) (sym e))
      (cases_Bool (stands_in a.aim (at xs s)))

  -- so it is due by its line
  module _ (xs : List Standing) (items : List Item) (s : ℕ) (front back : List ℕ) (is : get_or items s BLANK ≡ Answer a.conn) (are : AreItems xs items (line_of a.aim xs front)) (cleared : a.uncleared ≡ false) where
    due_is : is_due (standings xs front) a ≡ not (list_any (blocks a.conn) (items_of items (line_of a.aim xs front)))
    due_is = ap (λ b. not b && not (list_any (holds_back a) (standings xs front))) cleared ∙ ap not (held_in_line xs items front are)

    pub due_from_line : times s (line_of a.aim xs front) ≡ 0 → due_in items (line_of a.aim xs front ++ s ∷ back) ≡ Some s → is_due (standings xs front) a ≡ true
    due_from_line none due = due_is ∙ ap not ((due_says items s a.conn is back [] (line_of a.aim xs front) none due).1)

    pub due_to_line : is_due (standings xs front) a ≡ true → due_in items (line_of a.aim xs front ++ s ∷ back) ≡ Some s
    due_to_line due = due_clear items s a.conn is back [] (line_of a.aim xs front) refl
        (false_of (list_any (blocks a.conn) (items_of items (line_of a.aim xs front))) (sym due_is ∙ due))

-- ---- the first one that is due

-- what a test of slots tells of an answer, and of no command: that it is due by what stands before it
abbrev pub Tells : List Standing → (ℕ → Bool) → List ℕ → ℕ → Standing → Type 0
Tells xs told before s (IsLeft c) = told s ≡ false
Tells xs told before s (IsUndue a) = told s ≡ is_due (standings xs before) a

abbrev pub AllTold : List Standing → (ℕ → Bool) → List ℕ → List ℕ → Type 0
AllTold xs told before [] = Unit {0}
AllTold xs told before (s ∷ slots) = Tells xs told before s (at xs s) × AllTold xs told (before ++ s ∷ []) slots

-- the answer in a slot
abbrev pub answer_in : Standing → Option Undue
answer_in (IsLeft c) = None
answer_in (IsUndue a) = Some a

abbrev pub answer_of : List Standing → Option ℕ → Option Undue
answer_of xs None = None
answer_of xs (Some s) = answer_in (at xs s)

standings_push : (xs : List Standing) (before : List ℕ) (s : ℕ) → standings xs (before ++ s ∷ []) ≡ standings xs before ++ at xs s ∷ []
standings_push xs [] s = refl
standings_push xs (y ∷ ys) s = ap (λ r. at xs y ∷ r) (standings_push xs ys s)

module _ (xs : List Standing) (told : ℕ → Bool) where
  abbrev told_in : List ℕ → List ℕ
  told_in slots = filter told slots

  told_first : (s : ℕ) (slots : List ℕ) → told s ≡ true → told_in (s ∷ slots) ≡ s ∷ told_in slots
  told_first s slots on = ap (λ b. cond b (s ∷ filter told slots) (filter told slots)) on

  told_later : (s : ℕ) (slots : List ℕ) → told s ≡ false → told_in (s ∷ slots) ≡ told_in slots
  told_later s slots off = ap (λ b. cond b (s ∷ filter told slots) (filter told slots)) off

  -- one step of the search, by what stands in the slot
  step : (before : List ℕ) (s : ℕ) (slots : List ℕ) (x : Standing) → at xs s ≡ x → Tells xs told before s x
      → (due_behind (standings xs before ++ x ∷ []) (standings xs slots) ≡ answer_of xs (first_of (told_in slots)))
      → due_behind (standings xs before) (x ∷ standings xs slots) ≡ answer_of xs (first_of (told_in (s ∷ slots)))
  step before s slots (IsLeft c) is tells rest = rest ∙ ap (λ r. answer_of xs (first_of r)) (sym (told_later s slots tells))
  step before s slots (IsUndue a) is tells rest = ⊎_elim
      (λ on.
      ap (λ b. cond b (Some a) (due_behind (standings xs before ++ IsUndue a ∷ []) (standings xs slots))) (sym tells ∙ on)
      ∙ ap answer_in (sym is)
      ∙ ap (λ r. answer_of xs (first_of r)) (sym (told_first s slots on)))
      (λ off.
      ap (λ b. cond b (Some a) (due_behind (standings xs before ++ IsUndue a ∷ []) (standings xs slots))) (sym tells ∙ off)
      ∙ rest ∙ ap (λ r. answer_of xs (first_of r)) (sym (told_later s slots off)))
      (cases_Bool (told s))

  pub first_is : (before slots : List ℕ) → AllTold xs told before slots → due_behind (standings xs before) (standings xs slots) ≡ answer_of xs (first_of (told_in slots))
  first_is before [] all = refl
  first_is before (s ∷ slots) all =
      step before s slots (at xs s) refl all.0
      (ap (λ r. due_behind r (standings xs slots)) (sym (standings_push xs before s)) ∙ first_is (before ++ s ∷ []) slots all.1)
