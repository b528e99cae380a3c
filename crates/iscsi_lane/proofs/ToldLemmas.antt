-- The lines tell which answers are due: so the first of those that they tell, in the order of the log, is the first that is due.
use Rattle.std.proofs.Common.{◌≡◌, ℕ, ◌≤◌, ◌&&◌, not, true, false, List, [], ◌∷◌, ◌++◌, get_or, Option, Some, None, refl, ap, sym, subst, ◌∙◌, arith, ⊎_elim, eq-eqb}
use Rattle.std.specs.List.{list_any}
use Rattle.std.proofs.lemmas.Bool.{cases_Bool, cases_eq, true≢false, false≢true, eqb-true, false_from_ne_true}
use Rattle.iscsi_slots.specs.Slots.{times}
use Rattle.iscsi_slots.proofs.SlotLemmas.{times_append}
use Rattle.iscsi_lists.proofs.WithoutLemmas.{times_other, times_same}
use Rattle.iscsi_lines.specs.declared.item.Item.{Item}
use Rattle.iscsi_lines.specs.declared.item.Item.TheVariants.{Answer}
use Rattle.iscsi_lines.specs.Lines.{BLANK, due_in}
use Rattle.iscsi_outbox_state.specs.declared.lane.Aim.{Aim}
use Rattle.iscsi_outbox_state.specs.declared.lane.Aim.TheVariants.{Tag, Unit as AtUnit, Conn, Session, Nothing}
use Rattle.iscsi_outbox_state.specs.declared.lane.Undue.{Undue}
use Rattle.iscsi_outbox_state.specs.declared.lane.Standing.{Standing}
use Rattle.iscsi_outbox_state.specs.declared.lane.Standing.TheVariants.{Left as IsLeft, Undue as IsUndue}
use Rattle.iscsi_outbox_state.specs.Lane.{holds_back, is_due, is_of_logout}
use Rattle.iscsi_scopes.specs.Scopes.{Scoped, slots_of}
use Rattle.iscsi_lane.specs.Standings.{at, standings}
use Rattle.iscsi_lane.specs.Scoping.{AreItems, IsAbort, Mirrors, as_item, due_of, is_it, line_of, stands_in, told, told_of}
use Rattle.iscsi_lane.proofs.DueLemmas.{Tells, due_from_line, due_to_line}
use Rattle.iscsi_lane.proofs.MirrorLemmas.{line_append, line_few, line_first}

is_same : (s : ℕ) (o : Option ℕ) → is_it s o ≡ true → o ≡ Some s
is_same s None on = absurd (false≢true on)
is_same s (Some x) on = ap Some (eqb-true x s on)

-- the item of a slot of a line
pub item_at : (xs : List Standing) (items : List Item) (s : ℕ) (slots : List ℕ) → 1 ≤ times s slots → AreItems xs items slots → get_or items s BLANK ≡ as_item (at xs s)
item_at xs items s [] there are = absurd (omega (arith, there))
item_at xs items s (y ∷ ys) there are = ⊎_elim
    (λ (same : y ≡ s). subst (λ k. get_or items k BLANK ≡ as_item (at xs k)) same are.0)
    (λ other. let a = times_other s y ys other in item_at xs items s ys (omega (arith, a, there)) are.1)
    (cases_eq y s)

items_front : (xs : List Standing) (items : List Item) (front back : List ℕ) → AreItems xs items (front ++ back) → AreItems xs items front
items_front xs items [] back are = tt
items_front xs items (y ∷ ys) back are = (are.0, items_front xs items ys back are.1)

-- an answer of one key
module _ (aim : ℕ → Aim) (scopes : Scoped) (xs : List Standing) (order : List ℕ) (mirrors : Mirrors aim scopes xs order) (once : (s : ℕ) → times s order ≤ 1)
    (key : ℕ) (a : Undue) (of_key : a.aim ≡ aim key) (itself : stands_in a.aim (IsUndue a) ≡ true) (abort : is_of_logout a.aim ≡ false) (stays : a.ends ≡ false) (cleared : a.uncleared ≡ false)
    (s : ℕ) (front back : List ℕ) (at_it : order ≡ front ++ s ∷ back) (is : at xs s ≡ IsUndue a) where
  alone : times s front ≡ 0
  alone =
      let e = ap (times s) at_it in let b = times_append s front (s ∷ back) in let c = times_same s s back refl in let o = once s in omega (arith, e, b, c, o)

  line_is : line_of a.aim xs order ≡ line_of a.aim xs front ++ s ∷ line_of a.aim xs back
  line_is =
      ap (line_of a.aim xs) at_it ∙ line_append a.aim xs front (s ∷ back)
      ∙ ap (λ r. line_of a.aim xs front ++ r) (line_first a.aim xs s back (ap (stands_in a.aim) is ∙ itself))

  are : AreItems xs scopes.items (line_of a.aim xs front ++ s ∷ line_of a.aim xs back)
  are = subst (AreItems xs scopes.items) line_is (subst (λ m. AreItems xs scopes.items (line_of m xs order)) (sym of_key) (mirrors.items key))

  item_is : get_or scopes.items s BLANK ≡ Answer a.conn
  item_is =
      item_at xs scopes.items s (line_of a.aim xs front ++ s ∷ line_of a.aim xs back)
      (let b = times_append s (line_of a.aim xs front) (s ∷ line_of a.aim xs back) in let c = times_same s s (line_of a.aim xs back) refl in omega (arith, b, c)) are
      ∙ ap as_item is

  due_is : due_in scopes.items (slots_of key scopes.lines) ≡ due_in scopes.items (line_of a.aim xs front ++ s ∷ line_of a.aim xs back)
  due_is = ap (due_in scopes.items) (mirrors.lines key ∙ ap (λ m. line_of m xs order) (sym of_key) ∙ line_is)

  front_are : AreItems xs scopes.items (line_of a.aim xs front)
  front_are = items_front xs scopes.items (line_of a.aim xs front) (s ∷ line_of a.aim xs back) are

  pub told_by_line : is_it s (due_in scopes.items (slots_of key scopes.lines)) ≡ is_due (standings xs front) a
  told_by_line = ⊎_elim
      (λ on.
      ap (is_it s) (due_is ∙ due_to_line a abort stays xs scopes.items s front (line_of a.aim xs back) item_is front_are cleared on)
      ∙ eq-eqb s s refl ∙ sym on)
      (λ off.
      false_from_ne_true (is_it s (due_in scopes.items (slots_of key scopes.lines)))
      (λ yes.
      true≢false (sym (due_from_line a abort stays xs scopes.items s front (line_of a.aim xs back) item_is front_are cleared
      (let few = line_few a.aim xs s front in let none = alone in omega (arith, few, none))
      (sym due_is ∙ is_same s (due_in scopes.items (slots_of key scopes.lines)) yes)) ∙ off))
      ∙ sym off)
      (cases_Bool (is_due (standings xs front) a))

module _ (units tags : Scoped) (xs : List Standing) (order : List ℕ) (of_units : Mirrors AtUnit units xs order) (of_tags : Mirrors Tag tags xs order) (once : (s : ℕ) → times s order ≤ 1) where
  -- an answer that isn't uncleared, by its aim
  by_aim : (aim : Aim) (a : Undue) → a.aim ≡ aim → is_of_logout aim ≡ false → a.ends ≡ false → a.uncleared ≡ false → (s : ℕ) (front back : List ℕ) → order ≡ front ++ s ∷ back → at xs s ≡ IsUndue a
      → is_it s (due_of units tags aim) ≡ is_due (standings xs front) a
  by_aim (AtUnit unit) a of_it abort stays cleared s front back at_it is =
      told_by_line AtUnit units xs order of_units once unit a of_it (subst (λ m. stands_in m (IsUndue a) ≡ true) (sym of_it) (subst (λ m. stands_in (AtUnit unit) (IsUndue (record a { aim = m })) ≡ true) (sym of_it) (eq-eqb unit unit refl)))
      (ap is_of_logout of_it ∙ abort) stays cleared s front back at_it is
  by_aim (Tag tag) a of_it abort stays cleared s front back at_it is =
      told_by_line Tag tags xs order of_tags once tag a of_it (subst (λ m. stands_in m (IsUndue a) ≡ true) (sym of_it) (subst (λ m. stands_in (Tag tag) (IsUndue (record a { aim = m })) ≡ true) (sym of_it) (eq-eqb tag tag refl)))
      (ap is_of_logout of_it ∙ abort) stays cleared s front back at_it is
  by_aim (Conn conn) a of_it abort stays cleared s front back at_it is = absurd (true≢false abort)
  by_aim Session a of_it abort stays cleared s front back at_it is = absurd (true≢false abort)
  by_aim Nothing a of_it abort stays cleared s front back at_it is = absurd (true≢false abort)

  pub tells : (s : ℕ) (front back : List ℕ) (x : Standing) → order ≡ front ++ s ∷ back → at xs s ≡ x → IsAbort x → Tells xs (told units tags xs) front s x
  tells s front back (IsLeft c) at_it is abort = ap (told_of units tags s) is
  tells s front back (IsUndue a) at_it is abort =
      ap (told_of units tags s) is
      ∙ ⊎_elim
      (λ (waits : a.uncleared ≡ true).
      ap (λ b. not b && is_it s (due_of units tags a.aim)) waits ∙ sym (ap (λ b. not b && not (list_any (holds_back a) (standings xs front))) waits))
      (λ (cleared : a.uncleared ≡ false).
      ap (λ b. not b && is_it s (due_of units tags a.aim)) cleared ∙ by_aim a.aim a refl abort.0 abort.1 cleared s front back at_it is)
      (cases_Bool a.uncleared)
