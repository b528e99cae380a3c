-- In the log of a list of events the effects of each item stand in order.
use Rattle.std.proofs.Common.{◌≡◌, ℕ, ◌+◌, ◌≤◌, ◌||◌, cond, true, false, List, [], ◌∷◌, ◌++◌, map, count_by, refl, ap, sym, subst, arith, nat_le}
use Rattle.std.proofs.lemmas.Grind.{common_steps}
use Rattle.std.specs.List.{list_any, list_all}
use Rattle.std.proofs.lemmas.Bool.{false≢true}
use Rattle.std.proofs.lemmas.Bool.Decides.{nat_tests}
use Rattle.iscsi_rules.specs.declared.effect.Effect.{Effect}
use Rattle.iscsi_rules.specs.declared.event.Event.{Event}
use Rattle.iscsi_rules.specs.rules.Settings.{Setting}
use Rattle.iscsi_rules.specs.rules.Trace.{Mark, Trace}
use Rattle.iscsi_rules.specs.rules.Agenda.{items_of}
use Rattle.iscsi_rules.specs.rules.Run.{after_event, effects_of_item, effects_of, entries_from, run_of}
use Rattle.iscsi_rules.specs.promises.Order.{is_request, rank, never_falls, onto_first, in_parts, IsInOrder, AreInOrder, KeepsOrder}
use Rattle.iscsi_rules.proofs.general.BoolLemmas.{and_parts, and_both}
use Rattle.iscsi_rules.proofs.items.Forms.{AtTurn, AfterWaiting, Form, Executed, marks_of_form, HasForm, is_turn}
use Rattle.iscsi_rules.proofs.items.FormRuns.{AnyArrival, Turns, TurnsOf, any_brought, event_stands}
use Rattle.iscsi_rules.proofs.promises.OrderLemmas.{item_in_order}

-- ---- effects in parts

-- no request is among them
abbrev Unasked : List Effect → Type 0
Unasked es = list_any is_request es ≡ false

-- no effect has a rank below the first one's
none_below : (n : ℕ) (es : List Effect) → never_falls (n ∷ map rank es) ≡ true → list_all (λ e. nat_le n (rank e)) es ≡ true
none_below n [] h = refl
none_below n (e ∷ es) h =
    let parts = and_parts (nat_le n (rank e)) (never_falls (map rank (e ∷ es))) h in
    let rest : list_all (λ x. nat_le (rank e) (rank x)) es ≡ true = none_below (rank e) es parts.1 in
    and_both (nat_le n (rank e)) (list_all (λ x. nat_le n (rank x)) es) parts.0 (more es rest parts.0)
  where
    more : (xs : List Effect) → list_all (λ x. nat_le (rank e) (rank x)) xs ≡ true → nat_le n (rank e) ≡ true → list_all (λ x. nat_le n (rank x)) xs ≡ true
    more [] h low = refl
    more (x ∷ xs) h low = grind (arith, more xs)

none_asked : (n : ℕ) (es : List Effect) → 1 ≤ n → list_all (λ e. nat_le n (rank e)) es ≡ true → Unasked es
none_asked n [] low h = refl
none_asked n (e ∷ es) low h = grind (arith, none_asked n es)

none_counted : (es : List Effect) → count_by is_request es ≤ 0 → Unasked es
none_counted [] h = refl
none_counted (e ∷ es) h = grind (arith, common_steps, none_counted es)

-- after the first effect of an item there is no request
unasked_later : (e : Effect) (es : List Effect) → IsInOrder (e ∷ es) → Unasked es
unasked_later e es x = grind (arith, common_steps, none_counted, none_asked, none_below)

-- effects that begin with a request, or none
record IsFresh (es : List Effect) : Type 0 where
  parts : List (List Effect)
  first : in_parts es ≡ [] ∷ parts

parts-unasked : (xs ys : List Effect) → Unasked xs → (f : IsFresh ys) → in_parts (xs ++ ys) ≡ xs ∷ f.parts
parts-unasked [] ys none f = f.first
parts-unasked (e ∷ xs) ys none f =
    elim (is_request e) as (λ b. (b || list_any is_request xs) ≡ false → cond b ([] ∷ onto_first e (in_parts (xs ++ ys))) (onto_first e (in_parts (xs ++ ys))) ≡ (e ∷ xs) ∷ f.parts) [
      | true ↦ λ asked. absurd (false≢true (sym asked))
      | false ↦ λ rest. ap (onto_first e) (parts-unasked xs ys rest f)
    ] none

nothing_in_order : IsInOrder []
nothing_in_order = record { kinds = refl; one_request = (let z : 0 ≤ 1 = omega arith in z); one_reply = (let z : 0 ≤ 1 = omega arith in z); alone = λ h. absurd (false≢true h) }

-- an item's effects, and then fresh ones
parts_in_order : (es ys : List Effect) → IsInOrder es → (f : IsFresh ys) → AreInOrder f.parts → AreInOrder (in_parts (es ++ ys))
parts_in_order [] ys x f rest = subst AreInOrder (sym f.first) (nothing_in_order, rest)
parts_in_order (e ∷ es) ys x f rest = grind (arith, nat_tests, parts-unasked es ys (unasked_later e es x) f, unasked_later e es x, nothing_in_order)

-- ---- the items of an event: all but the first begin with a request

fresh_form : (o : Setting) (t : Trace) (form : Form) (items : List (List Mark)) → is_turn form ≡ true → IsFresh (effects_of o t (marks_of_form form ∷ items))
fresh_form o t (Executed AtTurn a d) items h = record { parts = _; first = refl }
fresh_form o t (Executed AfterWaiting a d) items h = record { parts = _; first = refl }
fresh_form o t form items h = absurd (false≢true h)

module _ (o : Setting) (now : ℕ) where
  fresh_turns : (p e : ℕ) (t : Trace) (items : List (List Mark)) → Turns AnyArrival o now p e t items → IsFresh (effects_of o t items)
  fresh_turns p e t [] s = record { parts = []; first = refl }
  fresh_turns p e t (item ∷ items) s = let f : HasForm o now t item = s.1.1.0.has in subst (λ ms. IsFresh (effects_of o t (ms ∷ items))) (sym f.is) (fresh_form o t f.form items s.1.1.1.0)

  -- an item, and then some that have their turns
  item_first : (p e : ℕ) (t : Trace) (item : List Mark) (items : List (List Mark)) → HasForm o now t item → (s : Turns AnyArrival o now p e (item ∷ t) items) → AreInOrder (in_parts (effects_of o (item ∷ t) items)) → AreInOrder (in_parts (effects_of o t (item ∷ items)))
  item_first p e t item items has s rest =
      let f : IsFresh (effects_of o (item ∷ t) items) = fresh_turns p e (item ∷ t) items s in
      let later : AreInOrder ([] ∷ f.parts) = subst AreInOrder f.first rest in
      parts_in_order (effects_of_item o t item) (effects_of o (item ∷ t) items) (item_in_order o now t item has) f later.1

  turns_in_order : (p e : ℕ) (t : Trace) (items : List (List Mark)) → Turns AnyArrival o now p e t items → AreInOrder (in_parts (effects_of o t items))
  turns_in_order p e t [] s = (nothing_in_order, tt)
  turns_in_order p e t (item ∷ items) s = item_first s.0 e t item items s.1.1.0.has s.1.1.1.1 (turns_in_order s.0 e (item ∷ t) items s.1.1.1.1)

  event_in_order : (t : Trace) (e : Event) → AreInOrder (in_parts (effects_of o t (items_of o now t e)))
  event_in_order t e = by_items (items_of o now t e) (event_stands AnyArrival o now t e (any_brought o now t e))
    where
      by_items : (items : List (List Mark)) → TurnsOf AnyArrival o now t items → AreInOrder (in_parts (effects_of o t items))
      by_items items s = grind (arith, item_first, turns_in_order)

-- ---- the entries of a log

both_in_order : (xs ys : List (List Effect)) → AreInOrder xs → AreInOrder ys → AreInOrder (xs ++ ys)
both_in_order [] ys h k = k
both_in_order (x ∷ xs) ys h k = (h.0, both_in_order xs ys h.1 k)

entries_in_order : (o : Setting) (now : ℕ) (t : Trace) (h : List Event) → KeepsOrder (entries_from o now t h)
entries_in_order o now t [] = tt
entries_in_order o now t (e ∷ h) = grind (arith, entries_in_order o (now + 1) (after_event o now t e) h, both_in_order, event_in_order)

-- the log of every list of events keeps the order
pub keeps_order : (o : Setting) (h : List Event) → KeepsOrder (run_of o h)
keeps_order o h = entries_in_order o 0 [] h
