-- The machine's run is the log of the rules: one walk over the items of an event, and one over the events.
use Rattle.std.proofs.Common.{◌≡◌, ℕ, zero, suc, ◌+◌, ◌-◌, ◌<◌, ◌≤◌, ◌==◌, ◌&&◌, ◌||◌, not, cond, Bool, true, false, List, [], ◌∷◌, ◌++◌, map, filter, Option, Some, None, refl, ap, sym, subst, ◌∙◌, arith, append_assoc, nat_lt, nat_le}
use Rattle.std.specs.List.{list_any, range_with_len}
use Rattle.std.proofs.lemmas.Bool.Decides.{nat_tests}
use Rattle.std.proofs.lemmas.List.{append-nil}
use Rattle.iscsi_wire.specs.declared.reply.Reply.{Reply}
use Rattle.iscsi_wire.specs.declared.reply.Reply.TheVariants.{Scsi, Task, Reject}
use Rattle.iscsi_wire.specs.Serial.{wire, lift}
use Rattle.iscsi_wire.specs.Fields.{request_of, connection_of, header_of, is_immediate, opcode, itt, cmd_sn}
use Rattle.iscsi_rules.specs.declared.effect.Why.TheVariants.{Outside, Duplicate, Closed, Data, Stale}
use Rattle.iscsi_rules.specs.declared.entry.Entry.{Entry}
use Rattle.iscsi_rules.specs.declared.event.Event.{Event}
use Rattle.iscsi_rules.specs.declared.event.Event.TheVariants.{Arrive, Done}
use Rattle.iscsi_rules.specs.declared.kind.Kind.{Kind}
use Rattle.iscsi_rules.specs.declared.kind.Kind.TheVariants.{PassedOver, Unknown, Executes as ExecutesKind}
use Rattle.iscsi_rules.specs.rules.Settings.{Setting}
use Rattle.iscsi_rules.specs.rules.Trace.{Arrival, Command, Mark, Admits, Delivers, Executes, Waits, Leaves, Ignores, Trace, after_items, first_of, contains, is_received, held, waiting, live, was_free, is_closed}
use Rattle.iscsi_rules.specs.rules.Execution.{exp_of, max_of, rejected, ignored, completion, reply_on, sense_of_status}
use Rattle.iscsi_rules.specs.rules.Management.{may_wait, refusal_of_function, MOST_WAITING, waiting_on}
use Rattle.iscsi_rules.specs.rules.Items as Items
use Rattle.iscsi_rules.specs.rules.Agenda as Agenda
use Rattle.iscsi_rules.specs.rules.Run as Rules
use Rattle.iscsi_rules.proofs.general.BoolLemmas.{or_none}
use Rattle.iscsi_rules.proofs.general.ElementLemmas.{in-filter, first-in}
use Rattle.iscsi_rules.proofs.traces.TraceLemmas.{after_items-append}
use Rattle.iscsi_rules.proofs.traces.HeldLemmas.{held-number, held_received}
use Rattle.iscsi_rules.proofs.general.Missing.{exp_item, expected_low}
use Rattle.iscsi_rules.proofs.items.Forms.{AtTurn, AtArrival, AfterWaiting}
use Rattle.iscsi_rules.proofs.items.FormItems.{does_function, does_after}
use Rattle.iscsi_machine.specs.Machine as Machine
use Rattle.iscsi_machine.specs.Machine.{Member, State, Stage, does, start, machine_run}
use Rattle.iscsi_machine.proofs.ItemLemmas.{AllAllowed, members_of, Fits, Leads, item_leads}
use Rattle.iscsi_machine.proofs.MarkLemmas.{max_same, closed_same, execution_same, function_item_same, immediate_same}
use Rattle.iscsi_machine.proofs.AllowedLemmas.{live_entered, done_allowed}

effects-append : (o : Setting) (t : Trace) (xs ys : List (List Mark)) → Rules.effects_of o t (xs ++ ys) ≡ Rules.effects_of o t xs ++ Rules.effects_of o (after_items xs t) ys
effects-append o t [] ys = refl
effects-append o t (item ∷ xs) ys =
    ap (λ es. Rules.effects_of_item o t item ++ es) (effects-append o (item ∷ t) xs ys)
    ∙ sym (append_assoc (Rules.effects_of_item o t item) (Rules.effects_of o (item ∷ t) xs) (Rules.effects_of o (after_items xs (item ∷ t)) ys))

module _ (o : Setting) (now : ℕ) where
  -- no item
  leads_on : (d : Stage) (t : Trace) → Fits o now d.state t → Leads o now d t [] d
  leads_on d t a = record { fits = a; told = sym (append-nil d.effects) }

  -- some items, and others behind them
  leads_then : (d d' d'' : Stage) (t : Trace) (xs ys : List (List Mark)) → Leads o now d t xs d' → Leads o now d' (after_items xs t) ys d'' → Leads o now d t (xs ++ ys) d''
  leads_then d d' d'' t xs ys a b = record {
    fits = subst (Fits o now d''.state) (sym (after_items-append xs ys t)) b.fits;
    told =
        b.told ∙ ap (λ es. es ++ Rules.effects_of o (after_items xs t) ys) a.told
        ∙ append_assoc d.effects (Rules.effects_of o t xs) (Rules.effects_of o (after_items xs t) ys)
        ∙ ap (λ es. d.effects ++ es) (sym (effects-append o t xs ys));
  }

  -- an item of the machine that is one of the rules
  leads_by : (d : Stage) (t : Trace) (mine theirs : List Mark) → mine ≡ theirs → Fits o now d.state t → AllAllowed o d.state t theirs → Leads o now d t (theirs ∷ []) (does o mine d)
  leads_by d t mine theirs same a may = subst (λ ms. Leads o now d t (theirs ∷ []) (does o ms d)) (sym same) (item_leads o now d t theirs a may)

  -- ---- turns

  functions_lead : (as' : List Arrival) (d : Stage) (t : Trace) → Fits o now d.state t → Leads o now d t (Items.functions o as' t) (Machine.functions o as' d)
  functions_lead [] d t a = leads_on d t a
  functions_lead (b ∷ as') d t a =
      subst (λ v. Leads o now d t (Items.functions o (b ∷ as') t) (Machine.functions o as' (cond v (does o item d) d))) (sym (ap (list_any (λ (c : Arrival). c.event == b.event)) a.waiting))
      (by_test (functions_lead as') (Items.is_waiting b t))
    where
      item : List Mark
      item = Executes b ∷ Machine.function_marks o (Machine.after_mark d.state (Executes b)) b

      by_test : ((e : Stage) (u : Trace) → Fits o now e.state u → Leads o now e u (Items.functions o as' u) (Machine.functions o as' e)) → (v : Bool)
          → Leads o now d t (let due : List (List Mark) = cond v (Items.function_item o t b ∷ []) [] in due ++ Items.functions o as' (after_items due t)) (Machine.functions o as' (cond v (does o item d) d))
      by_test rest true =
          let first : Leads o now d t (Items.function_item o t b ∷ []) (does o item d) = leads_by d t item (Items.function_item o t b) (function_item_same o now (λ c. was_free c t) d.state t a b) a (tt, done_allowed o now (λ c. was_free c t) d.state t a AfterWaiting b _ (does_function o t AfterWaiting b)) in
          leads_then d (does o item d) (Machine.functions o as' (does o item d)) t (Items.function_item o t b ∷ []) (Items.functions o as' (Items.function_item o t b ∷ t)) first (rest (does o item d) (Items.function_item o t b ∷ t) first.fits)
      by_test rest false = rest d t a

  functions_at_lead : (n : ℕ) (d : Stage) (t : Trace) → Fits o now d.state t → Leads o now d t (Items.functions_at o n t) (Machine.functions_at o n d)
  functions_at_lead n d t a =
      subst (λ ws. Leads o now d t (Items.functions_at o n t) (Machine.functions o (filter (λ (b : Arrival). b.number == n) ws) d)) (sym a.waiting)
      (functions_lead (filter (λ b. b.number == n) (waiting t)) d t a)

  turn_at_leads : (n : ℕ) (d : Stage) (t : Trace) → Fits o now d.state t → Leads o now d t (Items.turn_at o n t) (Machine.turn_at o n d)
  turn_at_leads n d t a =
      subst (λ x. Leads o now d t (Items.turn_at o n t) (elim x [ Some b ↦ does o (Machine.execution o d.state (Delivers b) b) d | None ↦ d ])) (sym (a.held.same n)) (by_held (held t n) refl)
    where
      by_held : (x : Option Arrival) → held t n ≡ x → Leads o now d t (elim x [ Some b ↦ Items.item_of o t b ∷ [] | None ↦ [] ]) (elim x [ Some b ↦ does o (Machine.execution o d.state (Delivers b) b) d | None ↦ d ])
      by_held (Some b) is =
          let there : is_received t b.number ≡ true = ap (is_received t) (held-number t n b is) ∙ held_received t n b is in
          leads_by d t (Machine.execution o d.state (Delivers b) b) (Items.item_of o t b) (execution_same o now (λ c. was_free c t) d.state t a (Delivers b) b there) a
          (there, done_allowed o now (λ c. was_free c t) d.state t a AtTurn b _ (does_after o t AtTurn b))
      by_held None is = leads_on d t a

  turns_lead : (more n : ℕ) (d : Stage) (t : Trace) → Fits o now d.state t → Leads o now d t (Items.agenda o n more t) (Machine.functions_at o (n + more) (Machine.turns o (range_with_len n more) d))
  turns_lead zero n d t a = subst (λ k. Leads o now d t (Items.functions_at o n t) (Machine.functions_at o k d)) (let z : n ≡ n + 0 = omega arith in z) (functions_at_lead n d t a)
  turns_lead (suc more) n d t a =
      let before : Leads o now d t (Items.functions_at o n t) (Machine.functions_at o n d) = functions_at_lead n d t a in
      let d' : Stage = Machine.functions_at o n d in
      let t' : Trace = after_items (Items.functions_at o n t) t in
      let turn : Leads o now d' t' (Items.turn_at o n t') (Machine.turn_at o n d') = turn_at_leads n d' t' before.fits in
      let at : Leads o now d t (Items.at_number o n t) (Machine.turn_at o n d') = leads_then d d' (Machine.turn_at o n d') t (Items.functions_at o n t) (Items.turn_at o n t') before turn in
      subst (λ k. Leads o now d t (Items.agenda o n (suc more) t) (Machine.functions_at o k (Machine.turns o (range_with_len (n + 1) more) (Machine.turn_at o n d')))) (let z : n + 1 + more ≡ n + suc more = omega arith in z)
      (leads_then d (Machine.turn_at o n d') (Machine.functions_at o (n + 1 + more) (Machine.turns o (range_with_len (n + 1) more) (Machine.turn_at o n d'))) t (Items.at_number o n t) (Items.agenda o (n + 1) more (after_items (Items.at_number o n t) t))
      at (turns_lead more (n + 1) (Machine.turn_at o n d') (after_items (Items.at_number o n t) t) at.fits))

  with_turns_lead : (d : Stage) (t : Trace) (mine theirs : List Mark) → mine ≡ theirs → Fits o now d.state t → AllAllowed o d.state t theirs → Leads o now d t (Agenda.with_turns o t theirs) (Machine.with_turns o mine d)
  with_turns_lead d t mine theirs same a may =
      let d' : Stage = does o mine d in
      let t' : Trace = theirs ∷ t in
      let first : Leads o now d t (theirs ∷ []) d' = leads_by d t mine theirs same a may in
      let e : ℕ = exp_of o t in
      let e' : ℕ = exp_of o t' in
      let on : e ≤ e' = exp_item o theirs t in
      let rest : Leads o now d' t' (Items.agenda o e (e' - e) t') (Machine.functions_at o (e + (e' - e)) (Machine.turns o (range_with_len e (e' - e)) d')) = turns_lead (e' - e) e d' t' first.fits in
      let at : Leads o now d' t' (Items.agenda o e (e' - e) t') (Machine.functions_at o e' (Machine.turns o (range_with_len e (e' - e)) d')) =
      subst (λ k. Leads o now d' t' (Items.agenda o e (e' - e) t') (Machine.functions_at o k (Machine.turns o (range_with_len e (e' - e)) d'))) (let z : e + (e' - e) ≡ e' = omega (arith, on) in z) rest in
      let from : Leads o now d' t' (Items.agenda o e (e' - e) t') (Machine.functions_at o e' (Machine.turns o (range_with_len d.state.exp (e' - d.state.exp)) d')) =
      subst (λ k. Leads o now d' t' (Items.agenda o e (e' - e) t') (Machine.functions_at o e' (Machine.turns o (range_with_len k (e' - k)) d'))) (sym a.numbers.exp) at in
      leads_then d d' (Machine.with_turns o mine d) t (theirs ∷ []) (Items.agenda o e (e' - e) t') first
      (subst (λ k. Leads o now d' t' (Items.agenda o e (e' - e) t') (Machine.functions_at o k (Machine.turns o (range_with_len d.state.exp (k - d.state.exp)) d'))) (sym first.fits.numbers.exp) from)

  -- ---- arrivals

  ignored_leads : (d : Stage) (t : Trace) (why : _) → Fits o now d.state t → Leads o now d t (ignored why) (does o (Ignores why ∷ []) d)
  ignored_leads d t why a = item_leads o now d t (Ignores why ∷ []) a (tt, tt)

  numbered_leads : (d : Stage) (t : Trace) (b : Arrival) → Fits o now d.state t → Leads o now d t (Agenda.numbered o t b) (Machine.numbered o b d)
  numbered_leads d t b a =
      subst (λ v. Leads o now d t (Agenda.numbered o t b) (cond v (does o (Ignores Outside ∷ []) d) (cond (contains d.state.above b.number) (does o (Ignores Duplicate ∷ []) d) (Machine.with_turns o (Admits b ∷ []) d))))
      (sym (ap (λ e. nat_lt b.number e || nat_lt (Machine.max_of o d.state) b.number) a.numbers.exp ∙ ap (λ m. nat_lt b.number (exp_of o t) || nat_lt m b.number) (max_same o now (λ c. was_free c t) d.state t a)))
      (by_tests (nat_lt b.number (exp_of o t) || nat_lt (max_of o t) b.number) refl (is_received t b.number) refl)
    where
      by_tests : (v : Bool) → (nat_lt b.number (exp_of o t) || nat_lt (max_of o t) b.number) ≡ v → (u : Bool) → is_received t b.number ≡ u
          → Leads o now d t (cond v (ignored Outside) (cond u (ignored Duplicate) (Agenda.with_turns o t (Admits b ∷ []))))
          (cond v (does o (Ignores Outside ∷ []) d) (cond (contains d.state.above b.number) (does o (Ignores Duplicate ∷ []) d) (Machine.with_turns o (Admits b ∷ []) d)))
      by_tests true outside u is = ignored_leads d t Outside a
      by_tests false outside u is =
          let tests = or_none (nat_lt b.number (exp_of o t)) (nat_lt (max_of o t) b.number) outside in
          let below : nat_lt b.number (exp_of o t) ≡ false = tests.0 in
          let above : nat_lt (max_of o t) b.number ≡ false = tests.1 in
          let low : exp_of o t ≤ b.number = grind (arith, nat_tests) in
          let high : b.number ≤ max_of o t = grind (arith, nat_tests) in
          let mine : contains d.state.above b.number ≡ u = a.numbers.above b.number (omega (arith, low, a.numbers.exp)) ∙ is in
          subst (λ x. Leads o now d t (cond u (ignored Duplicate) (Agenda.with_turns o t (Admits b ∷ []))) (cond x (does o (Ignores Duplicate ∷ []) d) (Machine.with_turns o (Admits b ∷ []) d))) (sym mine)
          (by_received u is (omega (arith, low, a.numbers.exp)) (omega (arith, low, high, a.numbers.exp, expected_low o.first t)))
        where
          by_received : (x : Bool) → is_received t b.number ≡ x → d.state.exp ≤ b.number → b.number < d.state.exp + o.window
              → Leads o now d t (cond x (ignored Duplicate) (Agenda.with_turns o t (Admits b ∷ []))) (cond x (does o (Ignores Duplicate ∷ []) d) (Machine.with_turns o (Admits b ∷ []) d))
          by_received true there low high = ignored_leads d t Duplicate a
          by_received false new low high = with_turns_lead d t (Admits b ∷ []) (Admits b ∷ []) refl a ((new, (low, high)), tt)

  immediate_allowed : (d : Stage) (t : Trace) (b : Arrival) → Fits o now d.state t → AllAllowed o d.state t (Items.immediate_item o t b)
  immediate_allowed d t b a =
      by_tests (opcode b.request == 0x02 && may_wait b.request) (refusal_of_function o b.request) (nat_lt (max_of o t + 1) b.number) (nat_lt (exp_of o t) b.number) (nat_le MOST_WAITING (waiting_on (connection_of b.request) t))
    where
      executes : AllAllowed o d.state t (Items.execution o t (Executes b) b)
      executes = (tt, done_allowed o now (λ c. was_free c t) d.state t a AtArrival b _ (does_after o t AtArrival b))

      by_tests : (may : Bool) (refusal : Option Reply) (far later many : Bool)
          → AllAllowed o d.state t (cond may
          (elim refusal [
            | Some reply ↦ Items.execution o t (Executes b) b
            | None ↦ cond far (Executes b ∷ reply_on b (Task (itt b.request) 255)) (cond (not later) (Items.execution o t (Executes b) b) (cond many (Executes b ∷ reply_on b (Reject 6 (header_of b.request))) (Waits b ∷ [])))
          ])
          (Items.execution o t (Executes b) b))
      by_tests false refusal far later many = executes
      by_tests true (Some reply) far later many = executes
      by_tests true None true later many = (tt, (tt, tt))
      by_tests true None false false many = executes
      by_tests true None false true true = (tt, (tt, tt))
      by_tests true None false true false = (tt, tt)

  arrival_leads : (d : Stage) (t : Trace) (b : Arrival) → Fits o now d.state t → Leads o now d t (Agenda.arrival o t b) (Machine.arrival o b d)
  arrival_leads d t b a =
      subst (λ v. Leads o now d t (Agenda.arrival o t b) (cond v (does o (Ignores Closed ∷ []) d) (Machine.arrival_as o b (Agenda.kind_of b.request) d))) (sym (closed_same o now (λ c. was_free c t) d.state t a (connection_of b.request)))
      (by_test (is_closed (connection_of b.request) t))
    where
      by_way : (v : Bool) → Leads o now d t (cond v (Agenda.with_turns o t (Items.immediate_item o t b)) (Agenda.numbered o t b)) (cond v (Machine.with_turns o (Machine.immediate_item o d.state b) d) (Machine.numbered o b d))
      by_way true = with_turns_lead d t (Machine.immediate_item o d.state b) (Items.immediate_item o t b) (immediate_same o now (λ c. was_free c t) d.state t a b) a (immediate_allowed d t b a)
      by_way false = numbered_leads d t b a

      by_kind : (k : Kind) → Leads o now d t (Agenda.arrival_as o t b k) (Machine.arrival_as o b k d)
      by_kind PassedOver = ignored_leads d t Data a
      by_kind Unknown = item_leads o now d t (rejected b) a (tt, tt)
      by_kind ExecutesKind = by_way (is_immediate b.request)

      by_test : (v : Bool) → Leads o now d t (cond v (ignored Closed) (Agenda.arrival_open o t b)) (cond v (does o (Ignores Closed ∷ []) d) (Machine.arrival_as o b (Agenda.kind_of b.request) d))
      by_test true = ignored_leads d t Closed a
      by_test false = by_kind (Agenda.kind_of b.request)

  -- ---- completions

  abbrev command_named : ℕ → State → Option Command
  command_named ticket s = first_of (map (λ (m : Member). m.command) (filter (λ (m : Member). m.command.ticket == ticket && m.enabled) s.live))

  command_same : (d : Stage) (t : Trace) (ticket : ℕ) → Fits o now d.state t → command_named ticket d.state ≡ Agenda.command_of t ticket
  command_same d t ticket a =
      ap (λ ms. first_of (map (λ (m : Member). m.command) (filter (λ (m : Member). m.command.ticket == ticket && m.enabled) ms))) a.commands.same
      ∙ ap first_of (members_of (λ c. was_free c t) (λ m. m.command.ticket == ticket && m.enabled) (live t))

  completed_leads : (d : Stage) (t : Trace) (ticket status : ℕ) → Fits o now d.state t → Leads o now d t (completion status (Agenda.command_of t ticket)) (Machine.completed o status (command_named ticket d.state) d)
  completed_leads d t ticket status a =
      subst (λ x. Leads o now d t (completion status (Agenda.command_of t ticket)) (Machine.completed o status x d)) (sym (command_same d t ticket a)) (by_command (Agenda.command_of t ticket) refl)
    where
      by_command : (x : Option Command) → Agenda.command_of t ticket ≡ x → Leads o now d t (completion status x) (Machine.completed o status x d)
      by_command None is = ignored_leads d t Stale a
      by_command (Some c) is =
          item_leads o now d t (Leaves c ∷ reply_on c.arrival (Scsi (itt c.arrival.request) status (sense_of_status status))) a
          (live_entered o now (λ x. was_free x t) d.state t a c (in-filter (λ (x : Command). x.ticket == ticket && was_free x t) (live t) c (first-in _ c is)).0, (tt, tt))

  -- ---- an event

  event_leads : (e : Event) (d : Stage) (t : Trace) → Fits o now d.state t → Leads o now d t (Agenda.items_of o now t e) (Machine.after_event o e d)
  event_leads (Arrive conn header) d t a =
      subst (λ b. Leads o now d t (Agenda.arrival o t (Agenda.arrival_of o now t (request_of conn header))) (Machine.arrival o b d))
      (sym (ap (λ k. let b : Arrival = record { event = k; number = lift d.state.exp (cmd_sn (request_of conn header)); request = request_of conn header } in b) a.event
      ∙ ap (λ e. let b : Arrival = record { event = now; number = lift e (cmd_sn (request_of conn header)); request = request_of conn header } in b) a.numbers.exp))
      (arrival_leads d t (Agenda.arrival_of o now t (request_of conn header)) a)
  event_leads (Done ticket status) d t a = completed_leads d t ticket status a

-- ---- the run

next_event : (o : Setting) (now : ℕ) (s : State) (t : Trace) (before : ℕ) → before ≡ now → Fits o now s t → Fits o (now + 1) (record s { event = before + 1 }) t
next_event o now s t before is a = record {
  numbers = a.numbers;
  held = a.held;
  waiting = a.waiting;
  commands = a.commands;
  closings = a.closings;
  replies = a.replies;
  event = ap (λ n. n + 1) is;
}

runs_alike : (o : Setting) (h : List Event) (now : ℕ) (s : State) (t : Trace) → Fits o now s t → Rules.entries_from o now t h ≡ Machine.run_from o s h
runs_alike o [] now s t a = refl
runs_alike o (e ∷ h) now s t a =
    let d : Stage = record { state = s; effects = [] } in
    let d' : Stage = Machine.after_event o e d in
    let t' : Trace = Rules.after_event o now t e in
    let on : Leads o now d t (Agenda.items_of o now t e) d' = event_leads o now e d t a in
    let entry : Rules.entry_of o now t e ≡ record { numbers = record { exp = wire d'.state.exp; max = wire (Machine.max_of o d'.state) }; effects = d'.effects } =
    ap (λ n. let x : Entry = record { numbers = record { exp = wire n; max = wire (max_of o t') }; effects = Rules.effects_of o t (Agenda.items_of o now t e) } in x) (sym on.fits.numbers.exp)
    ∙ ap (λ n. let x : Entry = record { numbers = record { exp = wire d'.state.exp; max = wire n }; effects = Rules.effects_of o t (Agenda.items_of o now t e) } in x) (sym (max_same o now (λ c. was_free c t') d'.state t' on.fits))
    ∙ ap (λ es. let x : Entry = record { numbers = record { exp = wire d'.state.exp; max = wire (Machine.max_of o d'.state) }; effects = es } in x) (sym on.told) in
    ap (λ x. x ∷ Rules.entries_from o (now + 1) t' h) entry
    ∙ ap (λ xs. record { numbers = record { exp = wire d'.state.exp; max = wire (Machine.max_of o d'.state) }; effects = d'.effects } ∷ xs) (runs_alike o h (now + 1) (record d'.state { event = s.event + 1 }) t' (next_event o now d'.state t' s.event a.event on.fits))

start_fits : (o : Setting) → Fits o 0 (start o) []
start_fits o = record {
  numbers = record { exp = refl; above = λ n low. refl; rising = tt; high = λ k there. absurd there };
  held = record { same = λ n. refl; rising = tt; within = λ h there. absurd there; undone = λ n new. (refl, refl) };
  waiting = refl;
  commands = record { same = refl; count = refl; tickets = λ c there. absurd there; unleft = λ k high. refl; unseen = λ c high. refl };
  closings = record { each = λ conn. refl; session = refl };
  replies = λ conn. (let z : Rules.first_stat_sn o conn ≡ Rules.first_stat_sn o conn + 0 = omega arith in z);
  event = refl;
}

-- with any options, and for any events, the log is that of the machine
pub machine_runs : (o : Setting) (h : List Event) → Rules.run_of o h ≡ machine_run o h
machine_runs o h = runs_alike o h 0 (start o) [] (start_fits o)
