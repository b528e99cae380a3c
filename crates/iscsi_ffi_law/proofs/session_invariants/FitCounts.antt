-- How many items an event has by which a request arrives, and how many commands it enables: little more than what the session has at once.
use Rattle.std.proofs.Common.{◌≡◌, ℕ, suc, ◌+◌, ◌≤◌, ◌==◌, ◌&&◌, ◌||◌, not, nat_lt, Bool, true, false, List, [], ◌∷◌, ◌++◌, map, filter, filter_map, count_by, length, refl, ap, sym, subst, ◌∙◌, arith, length-append}
use Rattle.std.specs.List.{flat_map}
use Rattle.std.proofs.lemmas.List.Elements.{filter_map-append}
use Rattle.iscsi_rules.specs.declared.effect.Effect.{Effect}
use Rattle.iscsi_rules.specs.declared.effect.Effect.TheVariants.{Enable}
use Rattle.iscsi_rules.specs.declared.event.Event.{Event}
use Rattle.iscsi_rules.specs.rules.Agenda.{arrival, items_of}
use Rattle.iscsi_rules.specs.rules.Run.{effects_of, effects_of_item, effects_of_mark, entry_of, newly_enabled}
use Rattle.iscsi_rules.specs.rules.Settings.{Setting}
use Rattle.iscsi_rules.specs.rules.Trace.{Admits, Arrival, ClosesConn, ClosesSession, Command, Delivers, Empties, Enters, Executes, Ignores, Leaves, Mark, Sends, Trace, Voids, Waits, after_items, enabled_in, is_free_at, live, waiting, was_free}
use Rattle.iscsi_rules.proofs.general.CountLemmas.{count-cons, count-filter, count-split, count-weaker}
use Rattle.iscsi_rules.proofs.items.Forms.{AfterWaiting, AtArrival, AtTurn, Form, HasForm, IsFormed, Start, marks_done, marks_of_form, start_mark}
use Rattle.iscsi_rules.proofs.general.ListLemmas.{count_by-push, fewer_counted}
use Rattle.iscsi_rules.proofs.promises.NumberingLemmas.{to_list}
use Rattle.iscsi_rules.proofs.promises.ReplyForms.{live_form}
use Rattle.iscsi_rules.proofs.items.TouchLemmas.{entering_in, enters_form}
use Rattle.iscsi_outbox_rules.specs.rules.Items.{ticket_enabled}
use Rattle.iscsi_outbox_rules.proofs.closes.ClosedParts.{EachOn}
use Rattle.iscsi_outbox_rules.proofs.room.RoomEnters.{Entering, Formed, entering, enters_in, event_enters, pending}
use Rattle.iscsi_outbox_rules.proofs.room.RoomSteps.{shrinks_done}
use Rattle.iscsi_outbox_rules.proofs.room.RoomStored.{admits_done, any, at_once, stored_item, stored_turn, waited}
use Rattle.iscsi_ffi_law.proofs.completions.DoneShape.{few_counted, few_units, filter_counted}
use Rattle.iscsi_ffi_law.proofs.arrivals.Turns.{AreDue, Becomes, IsDue, IsDueBy, IsExecuted, IsIgnored, IsPostponed, IsReceived, IsRejected, becomes}

module _ (o : Setting) where
  -- ---- items

  -- a request that is due waits no more, or is held no more
  pending_less : (t : Trace) (item : List Mark) → IsDue o t item → pending (item ∷ t) + 1 ≤ pending t
  pending_less t item d = subst (λ ms. pending (ms ∷ t) + 1 ≤ pending t) (sym d.is) (by_start d.start d.due)
    where
      by_start : (s : Start) → IsDueBy t s d.a → pending ((start_mark s d.a ∷ marks_done d.a d.deeds) ∷ t) + 1 ≤ pending t
      by_start AtTurn due = omega (arith, stored_turn d.a (marks_done d.a d.deeds) t (admits_done d.a d.deeds) due, shrinks_done d.a d.deeds any (waiting t))
      by_start AtArrival due = absurd due
      by_start AfterWaiting due =
          let ws : List Arrival = filter (λ (b : Arrival). not (b.event == d.a.event)) (waiting t) in
          omega (arith, stored_item (Executes d.a ∷ marks_done d.a d.deeds) t, ap (count_by any) (admits_done d.a d.deeds), shrinks_done d.a d.deeds any ws, waited d.a (waiting t) due)

  due_short : (t : Trace) (items : List (List Mark)) → AreDue o t items → pending (after_items items t) + length items ≤ pending t
  due_short t [] h = omega arith
  due_short t (item ∷ items) h = omega (arith, pending_less t item h.0, due_short (item ∷ t) items h.1)

  pub items_short : (t : Trace) (a : Arrival) → length (arrival o t a) ≤ pending t + 2
  items_short t a = by_first (arrival o t a) (becomes o t a)
    where
      by_first : (items : List (List Mark)) → Becomes o t a items → length items ≤ pending t + 2
      by_first items (IsIgnored why is) = omega (arith, ap length is)
      by_first items (IsRejected is) = omega (arith, ap length is)
      by_first items (IsReceived rest later new is due) = omega (arith, ap length is, due_short ((Admits a ∷ []) ∷ t) rest due, stored_item (Admits a ∷ []) t, count-cons any a [])
      by_first items (IsExecuted d rest now done opens is due) =
          let ws : List Arrival = filter (λ (b : Arrival). not (b.event == a.event)) (waiting t) in
          omega (
            arith,
            ap length is,
            due_short ((Executes a ∷ marks_done a d) ∷ t) rest due,
            stored_item (Executes a ∷ marks_done a d) t,
            ap (count_by any) (admits_done a d),
            shrinks_done a d any ws,
            fewer_counted any (λ (b : Arrival). not (b.event == a.event)) (waiting t),
          )
      by_first items (IsPostponed rest now few is due) = omega (arith, ap length is, due_short ((Waits a ∷ []) ∷ t) rest due, stored_item (Waits a ∷ []) t, count_by-push any (waiting t) a)

  -- ---- commands that are enabled

  -- the live ones that weren't enabled so far
  abbrev dormant : Trace → ℕ
  dormant t = count_by (λ (c : Command). not (was_free c t)) (live t)

  new_counted : (t : Trace) (item : List Mark) → length (newly_enabled o t item) ≤ count_by (λ (c : Command). was_free c (item ∷ t) && not (was_free c t)) (live (item ∷ t))
  new_counted t item =
      let new : List Command = filter (λ (c : Command). was_free c (item ∷ t) && not (was_free c t)) (live (item ∷ t)) in
      omega (
        arith,
        few_units (λ unit. filter (λ c. not (was_free c t)) (enabled_in unit (item ∷ t))) new in_unit 0 o.units,
        few_counted (λ (c : Command). not (nat_lt c.unit 0)) new,
        filter_counted (λ (c : Command). was_free c (item ∷ t) && not (was_free c t)) (live (item ∷ t)),
      )
    where
      in_unit : (u : ℕ) → length (filter (λ c. not (was_free c t)) (enabled_in u (item ∷ t))) ≤ count_by (λ (c : Command). c.unit == u) (filter (λ (c : Command). was_free c (item ∷ t) && not (was_free c t)) (live (item ∷ t)))
      in_unit u =
          omega (
            arith,
            filter_counted (λ c. not (was_free c t)) (enabled_in u (item ∷ t)),
            count-filter (λ (c : Command). not (was_free c t)) (λ c. was_free c (item ∷ t)) (filter (λ (c : Command). c.unit == u) (live (item ∷ t))),
            count-filter (λ (c : Command). was_free c (item ∷ t) && not (was_free c t)) (λ (c : Command). c.unit == u) (live (item ∷ t)),
            count-filter (λ (c : Command). c.unit == u) (λ (c : Command). was_free c (item ∷ t) && not (was_free c t)) (live (item ∷ t)),
            count-weaker (λ (c : Command). c.unit == u && (was_free c (item ∷ t) && not (was_free c t))) (λ (c : Command). (was_free c (item ∷ t) && not (was_free c t)) && c.unit == u) (live (item ∷ t)) (λ c h. swapped (c.unit == u) (was_free c (item ∷ t) && not (was_free c t)) h),
          )
        where
          swapped : (v w : Bool) → (v && w) ≡ true → (w && v) ≡ true
          swapped true true h = refl
          swapped true false h = h
          swapped false true h = h
          swapped false false h = h

  -- what an item enables was dormant before it, or enters by it
  dormant_item : (now : ℕ) (t : Trace) (item : List Mark) (f : HasForm o now t item) → length (newly_enabled o t item) + dormant (item ∷ t) ≤ dormant t + enters_in item
  dormant_item now t item f =
      omega (
        arith,
        new_counted t item,
        count-split (λ (c : Command). not (was_free c t)) (λ (c : Command). was_free c (item ∷ t)) (live (item ∷ t)),
        count-weaker (λ (c : Command). not (was_free c (item ∷ t))) (λ (c : Command). not (was_free c (item ∷ t)) && not (was_free c t)) (live (item ∷ t)) (λ c h. still (is_free_at c (item ∷ t)) (was_free c t) h),
        subst (λ ms. count_by (λ (c : Command). not (was_free c t)) (live (ms ∷ t)) ≤ dormant t + enters_in ms) (sym f.is) (by_form f.form f.formed),
      )
    where
      still : (u v : Bool) → not (u || v) ≡ true → (not (u || v) && not v) ≡ true
      still true v h = h
      still false true h = h
      still false false h = h

      by_form : (form : Form) → IsFormed o now t form → count_by (λ (c : Command). not (was_free c t)) (live (marks_of_form form ∷ t)) ≤ dormant t + enters_in (marks_of_form form)
      by_form form formed =
          omega (
            arith,
            live_form o now t form formed (λ (c : Command). not (was_free c t)),
            count-weaker (λ (c : Command). not (was_free c t)) any (to_list (entering_in form)) (λ c h. refl),
            ap (count_by any) (enters_form form),
          )

  -- ---- in the log

  marks_enable : (t : Trace) (ms : List Mark) (cs : List Command) → length (filter_map ticket_enabled (flat_map (effects_of_mark o t) ms ++ map (λ (c : Command). Enable c.ticket c.unit) cs)) ≡ length cs
  marks_enable t [] [] = refl
  marks_enable t [] (c ∷ cs) = ap suc (marks_enable t [] cs)
  marks_enable t (Admits a ∷ ms) cs = marks_enable t ms cs
  marks_enable t (Delivers a ∷ ms) cs = marks_enable t ms cs
  marks_enable t (Executes a ∷ ms) cs = marks_enable t ms cs
  marks_enable t (Voids n ∷ ms) cs = marks_enable t ms cs
  marks_enable t (Empties a ∷ ms) cs = marks_enable t ms cs
  marks_enable t (Waits a ∷ ms) cs = marks_enable t ms cs
  marks_enable t (Leaves c ∷ ms) cs = marks_enable t ms cs
  marks_enable t (Enters c ∷ ms) cs = marks_enable t ms cs
  marks_enable t (Sends conn reply ∷ ms) cs = marks_enable t ms cs
  marks_enable t (ClosesConn conn ∷ ms) cs = marks_enable t ms cs
  marks_enable t (ClosesSession ∷ ms) cs = marks_enable t ms cs
  marks_enable t (Ignores why ∷ ms) cs = marks_enable t ms cs

  items_enable : (t : Trace) (items : List (List Mark)) → EachOn (Formed o) t items → length (filter_map ticket_enabled (effects_of o t items)) + dormant (after_items items t) ≤ dormant t + entering items
  items_enable t [] h = omega arith
  items_enable t (item ∷ items) h =
      let es : List Effect = effects_of_item o t item in
      let both : length (filter_map ticket_enabled (es ++ effects_of o (item ∷ t) items)) ≡ length (filter_map ticket_enabled es) + length (filter_map ticket_enabled (effects_of o (item ∷ t) items))
      = ap length (filter_map-append ticket_enabled es (effects_of o (item ∷ t) items)) ∙ length-append (filter_map ticket_enabled es) (filter_map ticket_enabled (effects_of o (item ∷ t) items)) in
      omega (arith, both, marks_enable t item (newly_enabled o t item), dormant_item h.0.0 t item h.0.1, items_enable (item ∷ t) items h.1)

  -- no more than are live, wait or are held, and one more
  pub event_enables : (now : ℕ) (t : Trace) (e : Event) → length (filter_map ticket_enabled (entry_of o now t e).effects) ≤ at_once t + 1
  event_enables now t e =
      let g : Entering o 1 t (items_of o now t e) = event_enters o now t e in
      omega (arith, g.less, items_enable t (items_of o now t e) g.each, count-weaker (λ (c : Command). not (was_free c t)) any (live t) (λ c h. refl))
