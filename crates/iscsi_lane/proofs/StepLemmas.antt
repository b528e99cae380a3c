-- Which answer of a line is due, as one comes, owes less, or goes: one that is due stays so.
use Rattle.std.proofs.Common.{◌≡◌, ◌≢◌, ℕ, ◌<◌, ◌≤◌, ◌==◌, ◌||◌, cond, Bool, true, false, List, [], ◌∷◌, ◌++◌, length, filter, get_or, set, Option, Some, None, refl, ap, sym, ◌∙◌, arith, ⊎_elim, eq-eqb, ne_eqb}
use Rattle.std.specs.List.{insert, list_any}
use Rattle.std.proofs.lemmas.Bool.{cases_Bool, cases_eq, false≢true, or_from, or_parts}
use Rattle.std.proofs.lemmas.List.{get_or-set_same, get_or-set_other}
use Rattle.iscsi_slots.specs.Slots.{times}
use Rattle.iscsi_slots.proofs.SlotLemmas.{times_append}
use Rattle.iscsi_lists.specs.Lists.{without}
use Rattle.iscsi_lists.proofs.WithoutLemmas.{none_behind, not_first, times_same, without_append, without_other, without_same}
use Rattle.iscsi_lines.specs.declared.item.Item.{Item}
use Rattle.iscsi_lines.specs.declared.item.Item.TheVariants.{Command, Answer}
use Rattle.iscsi_lines.specs.Lines.{BLANK, conn_of, due_behind, due_in, holds_back, is_answer, items_of}
use Rattle.iscsi_lane.specs.Scoping.{blocks}
use Rattle.iscsi_lane.proofs.DueLemmas.{due_clear, due_says}

abbrev item : List Item → ℕ → Item
item items x = get_or items x BLANK

abbrev looked : List Item → List Item → ℕ → List ℕ → Bool → Option ℕ
looked items before x rest b = cond b (cond (list_any (holds_back (conn_of (item items x))) before) None (Some x)) (due_behind items (before ++ item items x ∷ []) rest)

-- ---- a slot of another line has another item

pub due_fresh : (items : List Item) (s : ℕ) (i : Item) (before : List Item) (line : List ℕ) → times s line ≡ 0 → due_behind (set items s i) before line ≡ due_behind items before line
due_fresh items s i before [] none = refl
due_fresh items s i before (x ∷ xs) none =
    let same = get_or-set_other items s x i BLANK (not_first s x xs none) in
    ap (λ y. cond (is_answer y) (cond (list_any (holds_back (conn_of y)) before) None (Some x)) (due_behind (set items s i) (before ++ y ∷ []) xs)) same
    ∙ ap (λ r. cond (is_answer (item items x)) (cond (list_any (holds_back (conn_of (item items x))) before) None (Some x)) r) (due_fresh items s i (before ++ item items x ∷ []) xs (none_behind s x xs none))

-- ---- one comes behind

-- a command changes nothing
pub due_command : (items : List Item) (s : ℕ) (before : List Item) (line : List ℕ) → is_answer (item items s) ≡ false → due_behind items before (line ++ s ∷ []) ≡ due_behind items before line
due_command items s before [] off = ap (looked items before s []) off
due_command items s before (x ∷ xs) off =
    ap (λ r. cond (is_answer (item items x)) (cond (list_any (holds_back (conn_of (item items x))) before) None (Some x)) r) (due_command items s (before ++ item items x ∷ []) xs off)

-- nor does anything for one that is due
pub due_stays : (items : List Item) (more : List ℕ) (x : ℕ) (before : List Item) (line : List ℕ) → due_behind items before line ≡ Some x → due_behind items before (line ++ more) ≡ Some x
due_stays items more x before [] due = absurd (cc)
due_stays items more x before (y ∷ ys) due = ⊎_elim
    (λ on. ap (looked items before y (ys ++ more)) on ∙ sym (ap (looked items before y ys) on) ∙ due)
    (λ off. ap (looked items before y (ys ++ more)) off ∙ due_stays items more x (before ++ item items y ∷ []) ys (sym (ap (looked items before y ys) off) ∙ due))
    (cases_Bool (is_answer (item items y)))

not_it : (s x : ℕ) (b : Bool) → x ≢ s → cond b None (Some s) ≡ Some x → ⊥
not_it s x true other e = absurd (cc)
not_it s x false other e = other (cc)

nothing : (x : ℕ) → None ≡ Some x → ⊥
nothing x e = absurd (cc)

-- and one that is due then, and isn't what came, was before
pub due_before : (items : List Item) (s x : ℕ) (before : List Item) (line : List ℕ) → x ≢ s → due_behind items before (line ++ s ∷ []) ≡ Some x → due_behind items before line ≡ Some x
due_before items s x before [] other due = ⊎_elim
    (λ on. absurd (not_it s x (list_any (holds_back (conn_of (item items s))) before) other (sym (ap (looked items before s []) on) ∙ due)))
    (λ off. absurd (nothing x (sym (ap (looked items before s []) off) ∙ due)))
    (cases_Bool (is_answer (item items s)))
due_before items s x before (y ∷ ys) other due = ⊎_elim
    (λ on. ap (looked items before y ys) on ∙ sym (ap (looked items before y (ys ++ s ∷ [])) on) ∙ due)
    (λ off. ap (looked items before y ys) off ∙ due_before items s x (before ++ item items y ∷ []) ys other (sym (ap (looked items before y (ys ++ s ∷ [])) off) ∙ due))
    (cases_Bool (is_answer (item items y)))

-- ---- one owes less, or goes

-- where an answer stands that is due
pub record Parted (items : List Item) (line : List ℕ) (x : ℕ) : Type 0 where
  pub front : List ℕ
  pub back : List ℕ
  pub conn : ℕ
  pub at : line ≡ front ++ x ∷ back
  pub is : item items x ≡ Answer conn

answer_is : (i : Item) → is_answer i ≡ true → i ≡ Answer (conn_of i)
answer_is (Command c) on = absurd (false≢true on)
answer_is (Answer conn) on = refl

found_at : (x y : ℕ) (b : Bool) → cond b None (Some y) ≡ Some x → y ≡ x
found_at x y true e = absurd (cc)
found_at x y false e = cc

pub parted : (items : List Item) (before : List Item) (line : List ℕ) (x : ℕ) → due_behind items before line ≡ Some x → Parted items line x
parted items before [] x due = absurd (cc)
parted items before (y ∷ ys) x due = ⊎_elim
    (λ on.
    let same : y ≡ x = found_at x y (list_any (holds_back (conn_of (item items y))) before) (sym (ap (looked items before y ys) on) ∙ due) in
    record { front = []; back = ys; conn = conn_of (item items x); at = ap (λ n. n ∷ ys) same; is = answer_is (item items x) (ap (λ n. is_answer (item items n)) (sym same) ∙ on) })
    (λ off.
    let rest = parted items (before ++ item items y ∷ []) ys x (sym (ap (looked items before y ys) off) ∙ due) in
    record { front = y ∷ rest.front; back = rest.back; conn = rest.conn; at = ap (λ r. y ∷ r) rest.at; is = rest.is })
    (cases_Bool (is_answer (item items y)))

module _ (items : List Item) (line : List ℕ) (x s : ℕ) (once : times x line ≤ 1) (other : x ≢ s) (due : due_in items line ≡ Some x) where
  p : Parted items line x
  p = parted items [] line x due

  alone : times x p.front ≡ 0
  alone =
      let a = ap (times x) p.at in let b = times_append x p.front (x ∷ p.back) in let c = times_same x x p.back refl in omega (arith, a, b, c, once)

  clear : list_any (blocks p.conn) (items_of items p.front) ≡ false
  clear = (due_says items x p.conn p.is p.back [] p.front alone (ap (due_in items) (sym p.at) ∙ due)).1

  less_clear : (i : Item) → s < length items → (blocks p.conn (item items s) ≡ false → blocks p.conn i ≡ false) → (front : List ℕ) → list_any (blocks p.conn) (items_of items front) ≡ false
      → list_any (blocks p.conn) (items_of (set items s i) front) ≡ false
  less_clear i l less [] none = refl
  less_clear i l less (y ∷ ys) none =
      let parts = or_parts (blocks p.conn (item items y)) (list_any (blocks p.conn) (items_of items ys)) none in
      or_from (blocks p.conn (item (set items s i) y)) (list_any (blocks p.conn) (items_of (set items s i) ys))
      (⊎_elim
      (λ (same : y ≡ s). ap (blocks p.conn) (ap (item (set items s i)) same ∙ get_or-set_same items s i BLANK l) ∙ less (ap (λ k. blocks p.conn (item items k)) (sym same) ∙ parts.0))
      (λ away. ap (blocks p.conn) (get_or-set_other items s y i BLANK away) ∙ parts.0)
      (cases_eq y s))
      (less_clear i l less ys parts.1)

  -- what held nothing back holds nothing back
  pub due_less : (i : Item) → s < length items → ((conn : ℕ) → blocks conn (item items s) ≡ false → blocks conn i ≡ false) → due_in (set items s i) line ≡ Some x
  due_less i l less =
      ap (due_in (set items s i)) p.at
      ∙ due_clear (set items s i) x p.conn (get_or-set_other items s x i BLANK other ∙ p.is) p.back [] p.front refl (less_clear i l (less p.conn) p.front clear)

  gone_clear : (front : List ℕ) → list_any (blocks p.conn) (items_of items front) ≡ false → list_any (blocks p.conn) (items_of items (without s front)) ≡ false
  gone_clear [] none = refl
  gone_clear (y ∷ ys) none =
      let parts = or_parts (blocks p.conn (item items y)) (list_any (blocks p.conn) (items_of items ys)) none in
      ⊎_elim
      (λ (same : y ≡ s). ap (λ r. list_any (blocks p.conn) (items_of items r)) (without_same s y ys same) ∙ gone_clear ys parts.1)
      (λ away.
      ap (λ r. list_any (blocks p.conn) (items_of items r)) (without_other s y ys away)
      ∙ or_from (blocks p.conn (item items y)) (list_any (blocks p.conn) (items_of items (without s ys))) parts.0 (gone_clear ys parts.1))
      (cases_eq y s)

  -- and what goes doesn't either
  pub due_gone : due_in items (without s line) ≡ Some x
  due_gone =
      ap (λ r. due_in items (without s r)) p.at
      ∙ ap (due_in items) (without_append s p.front (x ∷ p.back) ∙ ap (λ r. without s p.front ++ r) (without_other s x p.back other))
      ∙ due_clear items x p.conn p.is (without s p.back) [] (without s p.front) refl (gone_clear p.front clear)

-- ---- one more of those that are due, in the order of the log

abbrev pub or_it : (ℕ → Bool) → ℕ → ℕ → Bool
or_it told s t = told t || t == s

or_none : (b : Bool) → (b || false) ≡ b
or_none true = refl
or_none false = refl

or_all : (b : Bool) → (b || true) ≡ true
or_all true = refl
or_all false = refl

module _ (told : ℕ → Bool) (s : ℕ) where
  same_beside : (slots : List ℕ) → times s slots ≡ 0 → filter (or_it told s) slots ≡ filter told slots
  same_beside [] none = refl
  same_beside (y ∷ ys) none =
      let off = ne_eqb y s (not_first s y ys none) in
      let rest = same_beside ys (none_behind s y ys none) in
      ap (λ b. cond (told y || b) (y ∷ filter (or_it told s) ys) (filter (or_it told s) ys)) off
      ∙ ap (λ b. cond b (y ∷ filter (or_it told s) ys) (filter (or_it told s) ys)) (or_none (told y))
      ∙ ap (λ r. cond (told y) (y ∷ r) r) rest

  told_here : (back : List ℕ) → filter (or_it told s) (s ∷ back) ≡ s ∷ filter (or_it told s) back
  told_here back = ap (λ b. cond (told s || b) (s ∷ filter (or_it told s) back) (filter (or_it told s) back)) (eq-eqb s s refl)
      ∙ ap (λ b. cond b (s ∷ filter (or_it told s) back) (filter (or_it told s) back)) (or_all (told s))

  not_told : (back : List ℕ) → told s ≡ false → filter told (s ∷ back) ≡ filter told back
  not_told back off = ap (λ b. cond b (s ∷ filter told back) (filter told back)) off

  pub filter_both : (test : ℕ → Bool) (xs ys : List ℕ) → filter test (xs ++ ys) ≡ filter test xs ++ filter test ys
  filter_both test [] ys = refl
  filter_both test (x ∷ xs) ys = elim (test x) as (λ b. cond b (x ∷ filter test (xs ++ ys)) (filter test (xs ++ ys)) ≡ cond b (x ∷ filter test xs) (filter test xs) ++ filter test ys) [
    | true ↦ ap (λ r. x ∷ r) (filter_both test xs ys)
    | false ↦ filter_both test xs ys
  ]

  insert_here : (xs ys : List ℕ) → insert (xs ++ ys) (length xs) s ≡ xs ++ s ∷ ys
  insert_here [] [] = refl
  insert_here [] (y ∷ ys) = refl
  insert_here (x ∷ xs) ys = ap (λ r. x ∷ r) (insert_here xs ys)

  -- it stands behind those that stand before it
  pub inserted : (front back : List ℕ) → times s front ≡ 0 → times s back ≡ 0 → told s ≡ false
      → filter (or_it told s) (front ++ s ∷ back) ≡ insert (filter told (front ++ s ∷ back)) (length (filter told front)) s
  inserted front back none_front none_back off =
      filter_both (or_it told s) front (s ∷ back)
      ∙ ap (λ r. r ++ filter (or_it told s) (s ∷ back)) (same_beside front none_front)
      ∙ ap (λ r. filter told front ++ r) (told_here back ∙ ap (λ r. s ∷ r) (same_beside back none_back))
      ∙ sym (insert_here (filter told front) (filter told back))
      ∙ ap (λ r. insert r (length (filter told front)) s) (sym (filter_both told front (s ∷ back) ∙ ap (λ r. filter told front ++ r) (not_told back off)))
