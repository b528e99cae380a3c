-- What the machine does is what the rules do, where its state agrees with the trace.
use Rattle.std.proofs.Common.{◌≡◌, ℕ, ◌+◌, ◌-◌, ◌<◌, ◌≤◌, ◌==◌, ◌&&◌, ◌||◌, not, cond, Bool, true, false, List, [], ◌∷◌, ◌++◌, length, map, filter, count_by, Option, Some, None, option_map, refl, ap, sym, ◌∙◌, arith, nat_lt, nat_le}
use Rattle.std.specs.List.{list_any, list_all, flat_map, range_with_len}
use Rattle.std.proofs.lemmas.Bool.Decides.{nat_tests}
use Rattle.iscsi_wire.specs.Serial.{wire, lift, number_of_first}
use Rattle.iscsi_wire.specs.Fields.{connection_of, is_immediate, opcode, attr_code, itt, rtt, cid, ref_cmd_sn}
use Rattle.iscsi_rules.specs.declared.deed.Answer.TheVariants.{Reject, Respond}
use Rattle.iscsi_rules.specs.declared.deed.Deed.{Deed}
use Rattle.iscsi_rules.specs.declared.deed.Deed.TheVariants.{Nothing, Wait as ToWait, Reply as Replies, Enter as EnterUnit, Void as VoidNumber, Empty as EmptyNumber, Abort, AbortEarlier, AbortAll, CloseConn as Closes, CloseSession as Ends}
use Rattle.iscsi_rules.specs.rules.Settings.{Setting, is_known}
use Rattle.iscsi_rules.specs.rules.Trace.{Arrival, Command, Mark, Executes, Voids, Empties, Waits, Leaves, Enters, ClosesConn, ClosesSession, Trace, first_of, contains, live, live_in, is_ended, is_closed}
use Rattle.iscsi_rules.specs.rules.Execution as Rules
use Rattle.iscsi_rules.specs.rules.Management as Functions
use Rattle.iscsi_rules.specs.rules.Logout as Logouts
use Rattle.iscsi_rules.specs.rules.Deeds as Deeds
use Rattle.iscsi_rules.specs.rules.Deeds.{Facts}
use Rattle.iscsi_rules.specs.rules.Items as Items
use Rattle.iscsi_rules.proofs.general.BoolLemmas.{and_first, and_second}
use Rattle.iscsi_rules.proofs.items.DeedTable.{Befits, befits_function, befits_deed}
use Rattle.iscsi_rules.proofs.general.Missing.{expected_low}
use Rattle.iscsi_machine.specs.Machine as Machine
use Rattle.iscsi_machine.specs.Machine.{Member, State, after_mark}
use Rattle.iscsi_machine.proofs.Ascending.{filter-same_in, filter-all_in, held_range, is_between}
use Rattle.iscsi_machine.proofs.Agreement.{Agrees, Allowed, more, mark_agrees}
use Rattle.iscsi_machine.proofs.ItemLemmas.{commands_same}

module _ (o : Setting) (now : ℕ) (w : Command → Bool) (s : State) (t : Trace) (a : Agrees o now w s t) where
  -- ---- what the rules ask of the history

  pub max_same : Machine.max_of o s ≡ Rules.max_of o t
  max_same =
      ap (λ e. e + o.window - 1 - count_by (λ (c : Command). not (is_immediate c.arrival.request)) (Machine.commands s)) a.numbers.exp
      ∙ ap (λ cs. Rules.exp_of o t + o.window - 1 - count_by (λ (c : Command). not (is_immediate c.arrival.request)) cs) (commands_same o now w s t a)

  live_in_same : (unit : ℕ) → Machine.live_in unit s ≡ live_in unit t
  live_in_same unit = ap (filter (λ (c : Command). c.unit == unit)) (commands_same o now w s t a)

  pub closed_same : (conn : ℕ) → Machine.is_closed conn s ≡ is_closed conn t
  closed_same conn = ap (λ b. b || contains s.closed conn) a.closings.session ∙ ap (λ b. is_ended t || b) (a.closings.each conn)

  held_requests_same : filter (λ h. nat_le s.exp h.number) s.held ≡ Functions.held_requests o t
  held_requests_same =
      filter-same_in (λ h. nat_le s.exp h.number) (is_between (Rules.exp_of o t) (Rules.exp_of o t + o.window)) s.held
      (λ h there. inside h (a.held.within h there).1)
      ∙ sym (held_range t s.held a.held.rising a.held.same o.window (Rules.exp_of o t))
    where
      inside : (h : Arrival) → h.number < s.exp + o.window → nat_le s.exp h.number ≡ (nat_le (Rules.exp_of o t) h.number && nat_lt h.number (Rules.exp_of o t + o.window))
      inside h high =
          let lt : h.number < Rules.exp_of o t + o.window = omega (arith, high, a.numbers.exp) in
          let test : nat_lt h.number (Rules.exp_of o t + o.window) ≡ true = grind (arith, nat_tests) in
          ap (λ e. nat_le e h.number) a.numbers.exp ∙ sym (ap (λ b. nat_le (Rules.exp_of o t) h.number && b) test ∙ and_true' (nat_le (Rules.exp_of o t) h.number))
        where
          and_true' : (b : Bool) → (b && true) ≡ b
          and_true' true = refl
          and_true' false = refl

  all_held_same : s.held ≡ Logouts.all_held o t
  all_held_same =
      sym (filter-all_in (is_between (number_of_first o.first) (number_of_first o.first + (Rules.exp_of o t + o.window - number_of_first o.first))) s.held (λ h there. inside h (a.held.within h there).0 (a.held.within h there).1))
      ∙ sym (held_range t s.held a.held.rising a.held.same (Rules.exp_of o t + o.window - number_of_first o.first) (number_of_first o.first))
    where
      inside : (h : Arrival) → number_of_first o.first ≤ h.number → h.number < s.exp + o.window
          → (nat_le (number_of_first o.first) h.number && nat_lt h.number (number_of_first o.first + (Rules.exp_of o t + o.window - number_of_first o.first))) ≡ true
      inside h low high =
          let up : number_of_first o.first ≤ Rules.exp_of o t = expected_low o.first t in
          let lt : h.number < number_of_first o.first + (Rules.exp_of o t + o.window - number_of_first o.first) = omega (arith, high, up, a.numbers.exp) in
          let first : nat_le (number_of_first o.first) h.number ≡ true = grind (arith, nat_tests) in
          let second : nat_lt h.number (number_of_first o.first + (Rules.exp_of o t + o.window - number_of_first o.first)) ≡ true = grind (arith, nat_tests) in
          ap (λ b. b && nat_lt h.number (number_of_first o.first + (Rules.exp_of o t + o.window - number_of_first o.first))) first ∙ second

  -- ---- Logout

  units_same : (units : List ℕ) → flat_map (λ unit. Machine.live_in unit s) units ≡ flat_map (λ unit. live_in unit t) units
  units_same units = ap (λ cs. flat_map (λ unit. filter (λ (c : Command). c.unit == unit) cs) units) (commands_same o now w s t a)

  taken_out_same : (of_these : ℕ → Bool) → Machine.taken_out o s of_these ≡ Logouts.taken_out o t of_these
  taken_out_same of_these =
      ap (λ cs. map Leaves (filter (λ (c : Command). of_these (connection_of c.arrival.request)) cs) ++ map Empties (filter (λ (b : Arrival). of_these (connection_of b.request)) s.held)) (units_same (range_with_len 0 o.units))
      ∙ ap (λ hs. map Leaves (filter (λ (c : Command). of_these (connection_of c.arrival.request)) (Logouts.live_of_units o t)) ++ map Empties (filter (λ (b : Arrival). of_these (connection_of b.request)) hs)) all_held_same

  last_same : (closing : ℕ) (conns : List (ℕ × ℕ)) → list_all (λ c. (c.0 == closing) || Machine.is_closed c.0 s) conns ≡ list_all (λ c. (c.0 == closing) || is_closed c.0 t) conns
  last_same closing [] = refl
  last_same closing (c ∷ conns) =
      ap (λ b. ((c.0 == closing) || b) && list_all (λ d. (d.0 == closing) || Machine.is_closed d.0 s) conns) (closed_same c.0)
      ∙ ap (λ b. ((c.0 == closing) || is_closed c.0 t) && b) (last_same closing conns)

  -- ---- what a request does that executes

  facts_same : (b : Arrival) → Machine.facts_of o s b ≡ Deeds.facts_of o t b
  facts_same b = alike is_used is_crowded is_full has_commands tagged held is_missing is_open
    where
      made : (used crowded full commands : Bool) (live held : Option ℕ) (missing is_open : Bool) → Facts
      made used crowded full commands live held missing is_open =
          record { level = o.level; unit = Rules.unit_named o.units b.request; is_used = used; is_crowded = crowded; is_full = full; has_commands = commands; live = live; held = held; is_missing = missing; is_open = is_open }

      alike : {u u' c c' f f' h h' m m' p p' : Bool} {l l' k k' : Option ℕ} → u ≡ u' → c ≡ c' → f ≡ f' → h ≡ h' → l ≡ l' → k ≡ k' → m ≡ m' → p ≡ p' → made u c f h l k m p ≡ made u' c' f' h' l' k' m' p'
      alike used crowded full commands live held missing open_is = cc

      unit : Option ℕ
      unit = Rules.unit_named o.units b.request

      n : ℕ → ℕ
      n e = lift e (ref_cmd_sn b.request)

      cs_same : Machine.commands s ≡ live t
      cs_same = commands_same o now w s t a

      is_used : list_any (λ (c : Command). itt c.arrival.request == itt b.request) (Machine.commands s) ≡ Rules.is_tag_live t (itt b.request)
      is_used = ap (list_any (λ (c : Command). itt c.arrival.request == itt b.request)) cs_same

      is_crowded : (is_immediate b.request && nat_le Rules.MOST_IMMEDIATE (Machine.live_immediate (connection_of b.request) s)) ≡ Rules.is_crowded t b.request
      is_crowded = ap (λ cs. is_immediate b.request && nat_le Rules.MOST_IMMEDIATE (count_by (λ (c : Command). is_immediate c.arrival.request && connection_of c.arrival.request == connection_of b.request) cs)) cs_same

      is_full : Deeds.of_unit unit false (λ u. nat_le o.depth (length (Machine.live_in u s))) ≡ Deeds.of_unit unit false (λ u. Rules.is_full o t u)
      is_full = ap (λ cs. Deeds.of_unit unit false (λ u. nat_le o.depth (length (filter (λ (c : Command). c.unit == u) cs)))) cs_same

      has_commands : Deeds.of_unit unit false (λ u. list_any (λ (c : Command). true) (Machine.live_in u s)) ≡ Deeds.of_unit unit false (λ u. list_any (λ (c : Command). true) (live_in u t))
      has_commands = ap (λ cs. Deeds.of_unit unit false (λ u. list_any (λ (c : Command). true) (filter (λ (c : Command). c.unit == u) cs))) cs_same

      tagged : Deeds.of_unit unit None (λ u. option_map (λ (c : Command). c.ticket) (Machine.live_with_tag s (rtt b.request) u)) ≡ Deeds.of_unit unit None (λ u. option_map (λ (c : Command). c.ticket) (Functions.live_with_tag t (rtt b.request) u))
      tagged = ap (λ cs. Deeds.of_unit unit None (λ u. option_map (λ (c : Command). c.ticket) (first_of (filter (λ (c : Command). itt c.arrival.request == rtt b.request) (filter (λ (c : Command). c.unit == u) cs))))) cs_same

      held : Deeds.of_unit unit None (λ u. option_map (λ (h : Arrival). wire h.number) (Machine.held_command o s (rtt b.request) u b.number)) ≡ Deeds.of_unit unit None (λ u. option_map (λ (h : Arrival). wire h.number) (Functions.held_command o t (rtt b.request) u b.number))
      held = ap (λ hs. Deeds.of_unit unit None (λ u. option_map (λ (h : Arrival). wire h.number) (first_of (filter (λ (h : Arrival). nat_lt h.number b.number && opcode h.request == 0x01 && itt h.request == rtt b.request && Functions.is_to o u h.request) hs)))) held_requests_same

      is_missing : (is_immediate b.request && nat_le s.exp (n s.exp) && nat_le (n s.exp) (Machine.max_of o s) && nat_lt (n s.exp) b.number) ≡ (Deeds.facts_of o t b).is_missing
      is_missing =
          ap (λ m. is_immediate b.request && nat_le s.exp (n s.exp) && nat_le (n s.exp) m && nat_lt (n s.exp) b.number) max_same
          ∙ ap (λ e. is_immediate b.request && nat_le e (n e) && nat_le (n e) (Rules.max_of o t) && nat_lt (n e) b.number) a.numbers.exp

      is_open : (is_known (cid b.request) o.conns && not (Machine.is_closed (cid b.request) s)) ≡ Logouts.is_open o t (cid b.request)
      is_open = ap (λ v. is_known (cid b.request) o.conns && not v) (closed_same (cid b.request))

  -- a number that is voided isn't below ExpCmdSN
  marks_same : (b : Arrival) (d : Deed) → Befits (Deeds.facts_of o t b) b.request d → Machine.deed_marks o s b d ≡ Deeds.deed_marks o t b d
  marks_same b Nothing fits = refl
  marks_same b ToWait fits = refl
  marks_same b (Replies x) fits = refl
  marks_same b (EnterUnit unit) fits = ap (λ n. Enters (record { ticket = n + 1; unit = unit; attr = Rules.attr_of (attr_code b.request); arrival = b }) ∷ []) a.commands.count
  marks_same b VoidNumber fits =
      let n : ℕ = lift (Rules.exp_of o t) (ref_cmd_sn b.request) in
      let window = and_first (is_immediate b.request && nat_le (Rules.exp_of o t) n && nat_le n (Rules.max_of o t)) (nat_lt n b.number) fits.1 in
      let above = and_first (is_immediate b.request && nat_le (Rules.exp_of o t) n) (nat_le n (Rules.max_of o t)) window in
      let test = and_second (is_immediate b.request) (nat_le (Rules.exp_of o t) n) above in
      let low : Rules.exp_of o t ≤ n = grind (arith, nat_tests) in
      ap (λ e. let k : ℕ = lift e (ref_cmd_sn b.request) in cond (contains s.above k) [] (Voids k ∷ []) ++ Functions.answer b 0) a.numbers.exp
      ∙ ap (λ v. cond v [] (Voids n ∷ []) ++ Functions.answer b 0) (a.numbers.above n (omega (arith, low, a.numbers.exp)))
  marks_same b (EmptyNumber unit sn) fits =
      ap (λ hs. Deeds.if_found Empties (first_of (filter (λ (h : Arrival). nat_lt h.number b.number && opcode h.request == 0x01 && itt h.request == rtt b.request && Functions.is_to o unit h.request) hs)) ++ Functions.answer b 0) held_requests_same
  marks_same b (Abort unit ticket) fits = ap (λ cs. Deeds.if_found Leaves (first_of (filter (λ (c : Command). itt c.arrival.request == rtt b.request) cs)) ++ Functions.answer b 0) (live_in_same unit)
  marks_same b (AbortEarlier unit) fits = ap (λ cs. map Leaves (filter (Functions.is_before b) cs) ++ Functions.answer b 0) (live_in_same unit)
  marks_same b (AbortAll unit) fits = ap (λ cs. map Leaves (filter (λ c. true) cs) ++ Functions.answer b 0) (live_in_same unit)
  marks_same b (Closes closing) fits =
      ap (λ ms. ms ++ Logouts.parting b 0 ++ ClosesConn closing ∷ cond (list_all (λ c. (c.0 == closing) || Machine.is_closed c.0 s) o.conns) (ClosesSession ∷ []) []) (taken_out_same (λ conn. conn == closing))
      ∙ ap (λ v. Logouts.taken_out o t (λ conn. conn == closing) ++ Logouts.parting b 0 ++ ClosesConn closing ∷ cond v (ClosesSession ∷ []) []) (last_same closing o.conns)
  marks_same b Ends fits = ap (λ ms. ms ++ Logouts.parting b 0 ++ ClosesSession ∷ []) (taken_out_same (λ conn. true))

  pub after_same : (b : Arrival) → Machine.marks_after o s b ≡ Deeds.marks_after o t b
  after_same b = ap (λ f. Machine.deed_marks o s b (Deeds.deed_of f b.request)) (facts_same b) ∙ marks_same b _ (befits_deed (Deeds.facts_of o t b) b.request)

  pub function_same : (b : Arrival) → Machine.function_marks o s b ≡ Deeds.function_marks o t b
  function_same b = ap (λ f. Machine.deed_marks o s b (Deeds.function_deed f b.request)) (facts_same b) ∙ marks_same b _ (befits_function (Deeds.facts_of o t b) b.request)

module _ (o : Setting) (now : ℕ) (w : Command → Bool) (s : State) (t : Trace) (a : Agrees o now w s t) where
  pub execution_same : (mark : Mark) (b : Arrival) → Allowed o s t mark → Machine.execution o s mark b ≡ Items.execution o t mark b
  execution_same mark b may = ap (λ ms. mark ∷ ms) (after_same o now w (after_mark s mark) (more mark t) (mark_agrees o now w s t a mark may) b)

  pub function_item_same : (b : Arrival) → (Executes b ∷ Machine.function_marks o (after_mark s (Executes b)) b) ≡ Items.function_item o t b
  function_item_same b = ap (λ ms. Executes b ∷ ms) (function_same o now w (after_mark s (Executes b)) (more (Executes b) t) (mark_agrees o now w s t a (Executes b) tt) b)

  waiting_item_same : (b : Arrival) → Machine.waiting_item o s b ≡ Items.waiting_item o t b
  waiting_item_same b =
      ap (λ m. chosen m s.exp (Machine.execution o s (Executes b) b) s.waiting) (max_same o now w s t a)
      ∙ ap (λ e. chosen (Rules.max_of o t) e (Machine.execution o s (Executes b) b) s.waiting) a.numbers.exp
      ∙ ap (λ ms. chosen (Rules.max_of o t) (Rules.exp_of o t) ms s.waiting) (execution_same (Executes b) b tt)
      ∙ ap (chosen (Rules.max_of o t) (Rules.exp_of o t) (Items.execution o t (Executes b) b)) a.waiting
    where
      chosen : ℕ → ℕ → List Mark → List Arrival → List Mark
      chosen last e ms ws =
          cond (nat_lt (last + 1) b.number) (Executes b ∷ Rules.reply_on b (Rules.reply_of b.request (Respond 255)))
          (cond (not (nat_lt e b.number)) ms
          (cond (nat_le Functions.MOST_WAITING (count_by (λ (c : Arrival). connection_of c.request == connection_of b.request) ws)) (Executes b ∷ Rules.reply_on b (Rules.reply_of b.request (Reject 6)))
          (Waits b ∷ [])))

  pub immediate_same : (b : Arrival) → Machine.immediate_item o s b ≡ Items.immediate_item o t b
  immediate_same b =
      ap (λ ms. chosen ms (Machine.waiting_item o s b)) (execution_same (Executes b) b tt)
      ∙ ap (chosen (Items.execution o t (Executes b) b)) (waiting_item_same b)
    where
      chosen : List Mark → List Mark → List Mark
      chosen at_once waits = cond (opcode b.request == 0x02 && Functions.may_wait b.request) (elim (Functions.refusal_of_function o b.request) [ Some reply ↦ at_once | None ↦ waits ]) at_once
