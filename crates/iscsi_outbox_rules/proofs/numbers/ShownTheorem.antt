-- Whatever MaxCmdSN was shown has room, where requests come at numbers that were shown.
use Rattle.std.proofs.Common.{◌≡◌, ℕ, ◌+◌, ◌-◌, ◌≤◌, ◌==◌, ◌&&◌, ◌||◌, not, cond, Bool, true, false, List, [], ◌∷◌, map, count_by, Option, Some, None, refl, ap, sym, subst, ◌∙◌, arith, nat_le, nat_lt}
use Rattle.std.proofs.lemmas.Bool.{false≢true, eqb-true}
use Rattle.std.proofs.lemmas.Bool.Decides.{nat_tests}
use Rattle.std.proofs.lemmas.List.Sums.{sum_by-cons}
use Rattle.iscsi_wire.specs.Serial.{lift, wire}
use Rattle.iscsi_wire.specs.declared.reply.Reply.TheVariants.{Scsi}
use Rattle.iscsi_wire.specs.declared.request.Request.{Request}
use Rattle.iscsi_wire.specs.Fields.{is_immediate, opcode, cmd_sn, itt, request_of}
use Rattle.iscsi_rules.specs.declared.effect.Effect.{Effect}
use Rattle.iscsi_rules.specs.declared.effect.Effect.TheVariants.{Enable}
use Rattle.iscsi_rules.specs.declared.effect.Why.TheVariants.{Stale}
use Rattle.iscsi_rules.specs.declared.entry.Entry.{Entry}
use Rattle.iscsi_rules.specs.declared.event.Event.{Event}
use Rattle.iscsi_rules.specs.declared.event.Event.TheVariants.{Arrive, Done}
use Rattle.iscsi_rules.specs.declared.kind.Kind.TheVariants.{PassedOver, Unknown, Executes as ExecutesKind}
use Rattle.iscsi_rules.specs.rules.Settings.{are_distinct}
use Rattle.iscsi_rules.specs.rules.Trace.{Command, Mark, Leaves, Trace, after_items, entered, live, was_free, has, leaves_ticket}
use Rattle.iscsi_rules.specs.rules.Execution.{exp_of, max_of, unfinished, completion, reply_on, sense_of_status}
use Rattle.iscsi_rules.specs.rules.Agenda.{kind_of, arrival_of, command_of, items_of}
use Rattle.iscsi_rules.specs.rules.Run.{newly_enabled, effects_of_item, entry_of, after_event}
use Rattle.iscsi_rules.specs.promises.Order.{in_parts}
use Rattle.iscsi_rules.proofs.general.BoolLemmas.{and_parts}
use Rattle.iscsi_rules.proofs.general.CountLemmas.{one, count-cons}
use Rattle.iscsi_rules.proofs.general.ElementLemmas.{In, in-filter, first-in}
use Rattle.iscsi_rules.proofs.general.Missing.{expected_low}
use Rattle.iscsi_rules.proofs.promises.ReplyForms.{live_form}
use Rattle.iscsi_rules.proofs.traces.FlowItems.{same_exp}
use Rattle.iscsi_rules.proofs.items.Forms.{Completed, HaveForms}
use Rattle.iscsi_rules.proofs.items.FormRuns.{event_going}
use Rattle.iscsi_outbox_rules.specs.rules.Calls.{Opening, Call, Takes, Puts, Stops, Nexts, Writes, Hears, Joins, Loses, Clears}
use Rattle.iscsi_outbox_rules.specs.rules.Boxes.{Box}
use Rattle.iscsi_outbox_rules.specs.rules.Words.{numbered_room, numbered_waiting}
use Rattle.iscsi_outbox_rules.specs.rules.Items.{tickets_left, is_numbered, in_phase, phase_completed, after_item}
use Rattle.iscsi_outbox_rules.specs.rules.Items.{after_items as items_taken}
use Rattle.iscsi_outbox_rules.specs.rules.Run.{new_link, after_call}
use Rattle.iscsi_outbox_rules.specs.promises.Room.{Step, Happens, Other, Both, is_other, after_step, after_steps, begun, has_number, is_within_shown, all_are, ShownFits}
use Rattle.iscsi_outbox_rules.proofs.general.Walks.{event_keeps}
use Rattle.iscsi_outbox_rules.proofs.room.RoomLimits.{none_received}
use Rattle.iscsi_outbox_rules.proofs.closes.ClosedParts.{effects_each, Parts, event_parts}
use Rattle.iscsi_outbox_rules.proofs.room.RoomSends.{Formed}
use Rattle.iscsi_outbox_rules.proofs.room.RoomSends.{event_going as event_sends}
use Rattle.iscsi_outbox_rules.proofs.room.RoomTheorem.{all_alone}
use Rattle.iscsi_outbox_rules.proofs.room.RoomTurns.{Within, event_limits, none_limits}
use Rattle.iscsi_outbox_rules.proofs.numbers.ShownLemmas.{Rise, max_by, rises}
use Rattle.iscsi_outbox_rules.proofs.numbers.ShownReplies.{numbered_in, numbered_on, answers_numbered, Few, few_walk, completing_item, empty_item, call_few}
use Rattle.iscsi_outbox_rules.proofs.numbers.ShownTasks.{SameNumbered, same_completed, same_nothing, same_event, same_call, completed_numbered}
use Rattle.iscsi_outbox_rules.proofs.numbers.ShownTurns.{Below, still_below, numbering, Flown, ignored_flown, arrival_flown}

-- the number nearest to m that the wire shows as n isn't above it
lift_low : (m n : ℕ) → m ≤ n → lift m (wire n) ≤ n
lift_low m n on = omega (arith, on)

-- a request that executes, and isn't immediate, has a number of its own
has_own_number : (r : Request) → kind_of r ≡ ExecutesKind → is_immediate r ≡ false → has_number r ≡ true
has_own_number r kind later = ap (λ v. not v && (nat_lt (opcode r) 0x05 || opcode r == 0x06)) later ∙ by_opcode (opcode r) kind
  where
    by_opcode : (n : ℕ) → cond (n == 0x05 || n == 0x10) PassedOver (cond (n == 0x00 || n == 0x01 || n == 0x02 || n == 0x04 || n == 0x06) ExecutesKind Unknown) ≡ ExecutesKind → (nat_lt n 0x05 || n == 0x06) ≡ true
    by_opcode n is = by_tests (n == 0x05 || n == 0x10) (n == 0x00) (n == 0x01) (n == 0x02) (n == 0x04) (n == 0x06) refl refl refl refl refl is
      where
        below : (k : ℕ) → (n == k) ≡ true → (nat_lt k 0x05 || k == 0x06) ≡ true → (nat_lt n 0x05 || n == 0x06) ≡ true
        below k same there = ap (λ m. nat_lt m 0x05 || m == 0x06) (eqb-true n k same) ∙ there

        by_tests : (b c d e f g : Bool) → (n == 0x00) ≡ c → (n == 0x01) ≡ d → (n == 0x02) ≡ e → (n == 0x04) ≡ f → (n == 0x06) ≡ g → cond b PassedOver (cond (c || d || e || f || g) ExecutesKind Unknown) ≡ ExecutesKind → (nat_lt n 0x05 || n == 0x06) ≡ true
        by_tests true c d e f g i j k l m h = absurd cc
        by_tests false true d e f g i j k l m h = below 0x00 i refl
        by_tests false false true e f g i j k l m h = below 0x01 j refl
        by_tests false false false true f g i j k l m h = below 0x02 k refl
        by_tests false false false false true g i j k l m h = below 0x04 l refl
        by_tests false false false false false true i j k l m h = below 0x06 m refl
        by_tests false false false false false false i j k l m h = absurd cc

module _ (o : Opening) where
  -- a session and its outbox, and what stands of them
  record Stands (s : Both) : Type 0 where
    within : Within o.session s.trace
    forms : HaveForms o.session s.event s.trace
    same : SameNumbered s.box s.trace
    below : Below o.session s.box.shown s.trace
    top : s.box.max ≤ max_of o.session s.trace
    few : Few o (unfinished s.trace) (exp_of o.session s.trace) (numbered_room o) [] s.box

  -- what stands after an event, where its places do
  eventful : (s : Both) (e : Event) → let s' = after_step o s (Happens e) in Below o.session s.box.shown s'.trace → unfinished s'.trace + exp_of o.session s.trace ≤ unfinished s.trace + exp_of o.session s'.trace
      → Few o (unfinished s'.trace) (exp_of o.session s'.trace) (numbered_room o) [] s'.box → Stands s → Stands s'
  eventful s e below more few h =
      let entry : Entry = entry_of o.session s.event s.trace e in
      let t' : Trace = after_event o.session s.event s.trace e in
      let r : Rise s.box (after_call o s.box (Takes entry.effects entry.numbers)) (Takes entry.effects entry.numbers) = rises o s.box (Takes entry.effects entry.numbers) in
      record {
        within = event_limits o.session s.event s.trace e h.within;
        forms = event_going o.session s.event s.trace e h.forms;
        same = same_event o s.event s.trace e s.box h.same;
        below = λ k a is. omega (arith, r.low, below k a is);
        top = subst (λ n. n ≤ max_of o.session t') (sym r.max_is) (lift_low s.box.max (max_of o.session t') (omega (arith, h.top, more)));
        few = few;
      }

  -- its parts, as the box takes them
  parts_of : (s : Both) (e : Event) → Parts o.session s.trace (items_of o.session s.event s.trace e)
  parts_of s e = event_parts o.session (Formed o.session (λ c. false)) (λ t item x. x) s.event s.trace e (event_sends o.session (λ c. false) s.event s.trace e).each

  -- ---- an event whose numbered requests were shown

  flown : (s : Both) (e : Event) → Flown o.session s.box.shown s.trace (items_of o.session s.event s.trace e) → Stands s → Stands (after_step o s (Happens e))
  flown s e g h =
      let entry : Entry = entry_of o.session s.event s.trace e in
      let t' : Trace = after_event o.session s.event s.trace e in
      let now : ℕ = unfinished t' in
      let exp : ℕ = exp_of o.session t' in
      let k : ℕ = numbered_waiting s.box + now + (s.box.shown + 1 - exp) in
      let f : Few o now exp k (in_parts entry.effects) (after_call o s.box (Takes entry.effects entry.numbers))
      = event_keeps o (Few o now exp k) (few_walk o now exp k) (λ items b n m x. record { alone = x.alone; few = omega (arith, x.few) }) [] s.box entry.effects entry.numbers (record { alone = h.few.alone; few = omega arith }) in
      let parts : Parts o.session s.trace (items_of o.session s.event s.trace e) = parts_of s e in
      eventful s e g.below g.more (record { alone = f.alone; few = omega (arith, f.few, g.less, h.few.few, by_lead parts.lead (in_parts entry.effects) parts.are) }) h
    where
      by_lead : (v : Bool) (ps : List (List Effect)) → ps ≡ cond v ([] ∷ effects_each o.session s.trace (items_of o.session s.event s.trace e)) (effects_each o.session s.trace (items_of o.session s.event s.trace e))
          → count_by answers_numbered ps ≡ numbering o.session s.box.shown (effects_each o.session s.trace (items_of o.session s.event s.trace e))
      by_lead true ps is = ap (count_by answers_numbered) is ∙ first (effects_each o.session s.trace (items_of o.session s.event s.trace e))
        where
          first : (rest : List (List Effect)) → count_by answers_numbered ([] ∷ rest) ≡ count_by answers_numbered rest
          first rest = omega (arith, count-cons answers_numbered [] rest)
      by_lead false ps is = ap (count_by answers_numbered) is

  -- ---- a completion

  module _ (s : Both) (e : Event) (c : Command) (status : ℕ) (is : items_of o.session s.event s.trace e ≡ completion status (Some c)) (there : In c (live s.trace)) (h : Stands s) where
    abbrev item : List Mark
    item = Leaves c ∷ reply_on c.arrival (Scsi (itt c.arrival.request) status (sense_of_status status))

    abbrev after : Trace
    after = after_event o.session s.event s.trace e

    abbrev effects : List Effect
    effects = effects_of_item o.session s.trace item

    after_is : after ≡ item ∷ s.trace
    after_is = ap (λ items. after_items items s.trace) is

    same_number : exp_of o.session after ≡ exp_of o.session s.trace
    same_number = ap (exp_of o.session) after_is ∙ same_exp o.session (item ∷ s.trace) s.trace (none_received o.session item s.trace refl)

    -- the command isn't live any more
    one_less : unfinished after + one (not (is_immediate c.arrival.request)) ≤ unfinished s.trace
    one_less =
        let p : Command → Bool = λ d. not (is_immediate d.arrival.request) in
        omega (arith, ap unfinished after_is, live_form o.session 0 s.trace (Completed c status) there p, count-cons p c [])

    abbrev before : ℕ
    before = numbered_waiting s.box + unfinished after + (s.box.shown + 1 - exp_of o.session after)

    abbrev Taken : ℕ → Box → Type 0
    Taken n b = Few o (unfinished after) (exp_of o.session after) n [] b

    -- its reply is numbered as it is
    completes : (b : Box) → SameNumbered b s.trace → Taken before b → Taken (before + one (not (is_immediate c.arrival.request))) (after_item o b effects)
    completes b same few =
        let tickets : tickets_left effects ≡ c.ticket ∷ [] = ap (λ ks. c.ticket ∷ ks) (none_left (newly_enabled o.session s.trace item)) in
        let x : Taken (before + one (is_numbered (in_phase phase_completed (tickets_left effects) b) None (tickets_left effects))) (after_item o b effects) = completing_item o (unfinished after) (exp_of o.session after) before b effects refl few in
        let n : one (is_numbered (in_phase phase_completed (tickets_left effects) b) None (tickets_left effects)) ≤ one (not (is_immediate c.arrival.request))
        = subst (λ ks. one (is_numbered (in_phase phase_completed ks b) None ks) ≤ one (not (is_immediate c.arrival.request))) (sym tickets)
        (completed_numbered o.session s.trace s.event (in_phase phase_completed (c.ticket ∷ []) b) c h.forms (same_completed (c.ticket ∷ []) b s.trace same) (in-filter (λ (d : Command). not (has (leaves_ticket d.ticket) s.trace)) (entered s.trace) c there).0) in
        record { alone = x.alone; few = omega (arith, x.few, n) }
      where
        none_left : (cs : List Command) → tickets_left (map (λ (d : Command). Enable d.ticket d.unit) cs) ≡ []
        none_left [] = refl
        none_left (d ∷ ds) = none_left ds

    by_lead : (v : Bool) (ps : List (List Effect)) → ps ≡ cond v ([] ∷ effects_each o.session s.trace (items_of o.session s.event s.trace e)) (effects_each o.session s.trace (items_of o.session s.event s.trace e))
        → Taken (before + one (not (is_immediate c.arrival.request))) (items_taken o s.box ps)
    by_lead v ps ps_are = subst (λ qs. Taken (before + one (not (is_immediate c.arrival.request))) (items_taken o s.box qs)) (sym (ps_are ∙ ap (λ items. cond v ([] ∷ effects_each o.session s.trace items) (effects_each o.session s.trace items)) is)) (by_items v)
      where
        begin : Taken before s.box
        begin = record { alone = h.few.alone; few = omega arith }

        by_items : (w : Bool) → Taken (before + one (not (is_immediate c.arrival.request))) (items_taken o s.box (cond w ([] ∷ effects ∷ []) (effects ∷ [])))
        by_items false = completes s.box h.same begin
        by_items true = completes (after_item o s.box []) (same_nothing o s.box s.trace h.same) (empty_item o (unfinished after) (exp_of o.session after) before s.box begin)

    completed : Stands (after_step o s (Happens e))
    completed =
        let entry : Entry = entry_of o.session s.event s.trace e in
        let parts : Parts o.session s.trace (items_of o.session s.event s.trace e) = parts_of s e in
        let x : Taken (before + one (not (is_immediate c.arrival.request))) (items_taken o s.box (in_parts entry.effects)) = by_lead parts.lead (in_parts entry.effects) parts.are in
        eventful s e
        (subst (Below o.session s.box.shown) (sym after_is) (still_below o.session s.box.shown item s.trace (λ n. refl) h.below))
        (omega (arith, same_number, one_less))
        (record { alone = x.alone; few = omega (arith, x.few, same_number, one_less, h.few.few) }) h

  -- ---- steps

  happens : (s : Both) (e : Event) → is_within_shown o s (Happens e) ≡ true → Stands s → Stands (after_step o s (Happens e))
  happens s (Arrive conn header) within h =
      let r : Request = request_of conn header in
      flown s (Arrive conn header) (arrival_flown o.session s.box.shown s.trace (arrival_of o.session s.event s.trace r) (λ kind later. within_shown r kind later within) h.within.kept h.below) h
    where
      within_shown : (r : Request) → kind_of r ≡ ExecutesKind → is_immediate r ≡ false → (not (has_number r) || nat_le (lift (exp_of o.session s.trace) (cmd_sn r)) s.box.shown) ≡ true → lift (exp_of o.session s.trace) (cmd_sn r) ≤ s.box.shown
      within_shown r kind later is =
          let below : nat_le (lift (exp_of o.session s.trace) (cmd_sn r)) s.box.shown ≡ true = ap (λ v. not v || nat_le (lift (exp_of o.session s.trace) (cmd_sn r)) s.box.shown) (sym (has_own_number r kind later)) ∙ is in
          number (lift (exp_of o.session s.trace) (cmd_sn r)) below
        where
          number : (n : ℕ) → nat_le n s.box.shown ≡ true → n ≤ s.box.shown
          number n below = grind (arith, nat_tests)
  happens s (Done ticket status) within h = by_command (command_of s.trace ticket) refl
    where
      by_command : (y : Option Command) → command_of s.trace ticket ≡ y → Stands (after_step o s (Happens (Done ticket status)))
      by_command None is = flown s (Done ticket status) (subst (Flown o.session s.box.shown s.trace) (sym (ap (completion status) is)) (ignored_flown o.session s.box.shown s.trace Stale h.below)) h
      by_command (Some c) is = completed s (Done ticket status) c status (ap (completion status) is) (in-filter (λ (d : Command). d.ticket == ticket && was_free d s.trace) (live s.trace) c (first-in _ c is)).0 h

  step_stands : (s : Both) (step : Step) → is_within_shown o s step ≡ true → Stands s → Stands (after_step o s step)
  step_stands s (Happens e) within h = happens s e within h
  step_stands s (Other c) other h =
      let r : Rise s.box (after_call o s.box c) c = rises o s.box c in
      let e : ℕ = exp_of o.session s.trace in
      record {
        within = h.within;
        forms = h.forms;
        same = same_call o s.box c other ∙ h.same;
        below = λ k a is. omega (arith, r.low, h.below k a is);
        top = subst (λ n. n ≤ max_of o.session s.trace) (sym (r.max_is ∙ same_max c other)) h.top;
        few = call_few o (unfinished s.trace) e s.box c other (omega (arith, expected_low o.session.first s.trace)) h.top h.few;
      }
    where
      same_max : (c : Call) → is_other c ≡ true → max_by s.box.max c ≡ s.box.max
      same_max (Takes effects numbers) is = absurd (false≢true is)
      same_max (Puts p) is = refl
      same_max (Stops ticket) is = refl
      same_max (Nexts conn) is = refl
      same_max (Writes conn) is = refl
      same_max (Hears conn exp_stat_sn tag) is = refl
      same_max (Joins conn stat_sn) is = refl
      same_max (Loses conn) is = refl
      same_max (Clears unit) is = refl

  steps_stand : (s : Both) (steps : List Step) → all_are (is_within_shown o) o s steps ≡ true → Stands s → Stands (after_steps o s steps)
  steps_stand s [] all h = h
  steps_stand s (step ∷ steps) all h =
      let parts = and_parts (is_within_shown o s step) (all_are (is_within_shown o) o (after_step o s step) steps) all in
      steps_stand (after_step o s step) steps parts.1 (step_stands s step parts.0 h)

  -- ---- before any step

  none_waits : (cs : List (ℕ × ℕ)) → numbered_on (map (λ (c : ℕ × ℕ). new_link c.0) cs) ≤ 0
  none_waits [] = omega arith
  none_waits (c ∷ cs) = omega (arith, sum_by-cons numbered_in (new_link c.0) (map (λ (d : ℕ × ℕ). new_link d.0) cs), none_waits cs)

  begun_stands : are_distinct o.session.conns ≡ true → Stands (begun o)
  begun_stands distinct = record {
    within = none_limits o.session;
    forms = tt;
    same = refl;
    below = λ k a is. absurd cc;
    top = omega arith;
    few = record { alone = all_alone o o.session.conns distinct; few = omega (arith, none_waits o.session.conns) };
  }

  pub shown_fits : (steps : List Step) → ShownFits o steps
  shown_fits steps distinct within =
      let h : Stands (after_steps o (begun o) steps) = steps_stand (begun o) steps within (begun_stands distinct) in
      omega (arith, h.few.few)
