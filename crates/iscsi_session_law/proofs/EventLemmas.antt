-- What an event does: received numbers, ExpCmdSN, MaxCmdSN and unfinished commands, and what has been delivered; and the laws that follow.
use Rattle.std.proofs.Common.{arith, ◌≡◌, ℕ, ◌+◌, ◌-◌, ◌<◌, ◌≤◌, ◌==◌, ◌&&◌, ◌||◌, inl, inr, not, cond, Bool, true, false, List, [], ◌∷◌, ◌++◌, length, count_by, Option, Some, None, refl, ap, sym, subst, ◌∙◌, ⊎_elim, nat_lt, nat_le}
use Rattle.std.specs.List.{list_all, list_any, filter_map, range_with_len}
use Rattle.std.proofs.lemmas.Bool.{false≢true, cond_both, cases_lt}
use Rattle.std.proofs.lemmas.Bool.Decides.{nat_tests}
use Rattle.std.proofs.lemmas.List.{append-nil}
use Rattle.iscsi_wire.specs.Serial.{number_of_first, lift}
use Rattle.iscsi_wire.specs.Fields.{connection_of, is_immediate, opcode, request_of, ref_cmd_sn, rtt}
use Rattle.iscsi_wire.specs.declared.reply.Reply.{Reply}
use Rattle.iscsi_rules.specs.declared.deed.Answer.TheVariants.{Respond, Reject}
use Rattle.iscsi_rules.specs.declared.deed.Deed.{Deed}
use Rattle.iscsi_rules.specs.declared.deed.Deed.TheVariants.{Void, Empty, Abort, AbortEarlier, AbortAll, CloseConn, CloseSession}
use Rattle.iscsi_rules.specs.declared.effect.Why.{Why}
use Rattle.iscsi_rules.specs.declared.effect.Why.TheVariants.{Outside, Duplicate, Closed, Data, Stale}
use Rattle.iscsi_rules.specs.declared.event.Event.{Event}
use Rattle.iscsi_rules.specs.declared.event.Event.TheVariants.{Arrive, Done}
use Rattle.iscsi_rules.specs.declared.kind.Kind.{Kind}
use Rattle.iscsi_rules.specs.declared.kind.Kind.TheVariants.{PassedOver, Unknown, Executes as ExecutesKind}
use Rattle.iscsi_rules.specs.rules.Settings.{Setting}
use Rattle.iscsi_rules.specs.rules.Trace.{Arrival, Command, Mark, Admits, Executes, Voids, Empties, Waits, Leaves, Ignores, Trace, after_items, has, number_received, received, contains, is_received, delivers_number, live, was_free, is_closed}
use Rattle.iscsi_rules.specs.rules.Execution.{exp_of, max_of, unfinished, rejected, ignored, completion, reply_on, reply_of}
use Rattle.iscsi_rules.specs.rules.Management.{may_wait, refusal_of_function, MOST_WAITING, waiting_on, held_command, live_with_tag, answer}
use Rattle.iscsi_rules.specs.rules.Deeds.{facts_of, deed_of, deed_marks, if_found}
use Rattle.iscsi_rules.specs.rules.Items.{execution, immediate_item, agenda}
use Rattle.iscsi_rules.specs.rules.Agenda.{with_turns, numbered, kind_of, arrival_as, arrival, arrival_of, command_of, belongs}
use Rattle.iscsi_rules.specs.rules.Run.{after_event, after_events, trace_of, run_of}
use Rattle.iscsi_rules.specs.promises.Flow.{HasOneMore, Flows, FlowsThrough}
use Rattle.iscsi_rules.specs.promises.Executed.{delivers, delivered, executed, request_at, executed_below}
use Rattle.iscsi_rules.specs.promises.Promises.{KeepsPromises}
use Rattle.iscsi_rules.proofs.general.BoolLemmas.{and_parts}
use Rattle.iscsi_rules.proofs.general.CountLemmas.{one}
use Rattle.iscsi_rules.proofs.general.ElementLemmas.{in-filter, first-in}
use Rattle.iscsi_rules.proofs.general.Missing.{expected_below, expected_low, exp_item}
use Rattle.iscsi_rules.proofs.traces.DeliveryLemmas.{log_delivers}
use Rattle.iscsi_rules.proofs.traces.FateLemmas.{Touch, NotTouched, touch_form}
use Rattle.iscsi_rules.proofs.traces.FlowItems.{same_exp}
use Rattle.iscsi_rules.proofs.traces.RunLemmas.{trace_of-push}
use Rattle.iscsi_rules.proofs.traces.TraceLemmas.{received-item}
use Rattle.iscsi_rules.proofs.items.DeedTable.{Befits, befits_deed}
use Rattle.iscsi_rules.proofs.items.DeedLemmas.{views}
use Rattle.iscsi_rules.proofs.items.Forms.{AtArrival, Ignored, Rejected, Received, Postponed, Completed, marks_of_form, begun}
use Rattle.iscsi_rules.proofs.items.FormItems.{does_after, live-begun}
use Rattle.iscsi_rules.proofs.items.FormRuns.{trace_has_forms}
use Rattle.iscsi_rules.proofs.items.ReceivedItems.{AtMostOne, immediate_receives_one}
use Rattle.iscsi_rules.proofs.promises.AbortTheorem.{aborts_hold_in}
use Rattle.iscsi_rules.proofs.promises.AnswerTheorem.{answers_once_in}
use Rattle.iscsi_rules.proofs.promises.CloseTheorem.{closes_hold_in}
use Rattle.iscsi_rules.proofs.promises.LifeTheorem.{starts_once}
use Rattle.iscsi_rules.proofs.promises.MeaningTheorem.{means_what_it_says}
use Rattle.iscsi_rules.proofs.promises.MomentLemmas.{log_effects, rule_means}
use Rattle.iscsi_rules.proofs.promises.NumberingLemmas.{counts_replies}
use Rattle.iscsi_rules.proofs.promises.OrderRuns.{keeps_order}
use Rattle.iscsi_session_law.proofs.FitLemmas.{misfits}
use Rattle.iscsi_session_law.proofs.CountLemmas.{unfinished_none, unfinished_executed}
use Rattle.iscsi_session_law.proofs.DeliveryLemmas.{DeliversBelow, delivers_quiet}
use Rattle.iscsi_session_law.proofs.EnablingLemmas.{enabled_so_far}
use Rattle.iscsi_session_law.proofs.AgendaLemmas.{Steps, agenda_goes, fits_executed, touches_executed, executes_quiet, executes_no}

-- ---- between events

pub record Holds (o : Setting) (t : Trace) : Type 0 where
  pub fits : has misfits t ≡ false
  pub above : (n : ℕ) → max_of o t < n → is_received t n ≡ false
  pub few : unfinished t ≤ o.window
  pub delivered : DeliversBelow o (exp_of o t) t

record Goes (o : Setting) (t t' : Trace) : Type 0 where
  flows : Flows o t t'
  holds : Holds o t'

-- ---- the first item of an event

record Begins (o : Setting) (t : Trace) (item : List Mark) : Type 0 where
  low : (n : ℕ) → contains (filter_map number_received item) n ≡ true → n ≤ max_of o t
  fits : list_any misfits item ≡ false
  enters : unfinished (item ∷ t) ≤ unfinished t
  touches : (k : ℕ) → Touch t k item
  quiet : filter_map delivers item ≡ []
  quiet_at : (k : ℕ) → list_any (delivers_number k) item ≡ false

module _ (o : Setting) (t : Trace) (item : List Mark) (h : Holds o t) (b : Begins o t item) (some_received : AtMostOne (filter_map number_received item)) where
  abbrev t' : Trace
  t' = item ∷ t

  has_one : HasOneMore (received t) (received t')
  has_one = by_one some_received
    where
      by_one : AtMostOne (filter_map number_received item) → HasOneMore (received t) (received t')
      by_one (inl none) = inl (ap (λ ns. received t ++ ns) none ∙ append-nil (received t))
      by_one (inr some) = inr (some.0, ap (λ ns. received t ++ ns) some.1)

  -- what is received then is in the window of before
  low_now : (n : ℕ) → is_received t' n ≡ true → n ≤ max_of o t
  low_now n there = by_before (is_received t n) refl
    where
      by_before : (v : Bool) → is_received t n ≡ v → n ≤ max_of o t
      by_before true was = ⊎_elim (λ high. absurd (false≢true (sym (h.above n high) ∙ was))) (λ low. low) (cases_lt (max_of o t) n)
      by_before false new = b.low n (sym (ap (λ v. v || contains (filter_map number_received item) n) new) ∙ sym (received-item item t n) ∙ there)

  -- ExpCmdSN is at most one past it
  exp_near : exp_of o t' ≤ max_of o t + 1
  exp_near =
      ⊎_elim (λ past. let last : exp_of o t' - 1 ≤ max_of o t = low_now (exp_of o t' - 1) (expected_below o.first t' (exp_of o t' - 1) (omega (arith, past, expected_low o.first t)) (omega (arith, past))) in omega (arith, last))
      (λ same. omega (arith, same, h.few, expected_low o.first t))
      (cases_lt (exp_of o t) (exp_of o t'))

  delivered_now : DeliversBelow o (exp_of o t) t'
  delivered_now = delivers_quiet o (exp_of o t) t item b.touches (omega arith) h.delivered b.quiet b.quiet_at

  fits_now : has misfits t' ≡ false
  fits_now = ap (λ v. v || has misfits t) b.fits ∙ h.fits

  -- the event ends in a trace that receives no more, and in which no more commands entered than ExpCmdSN went past numbers
  ends : (t'' : Trace) → Steps o (exp_of o t') (exp_of o t' - exp_of o t) t' t'' → Goes o t t''
  ends t'' s =
      let exp_is : exp_of o t'' ≡ exp_of o t' = same_exp o t'' t' s.receives in
      let on : exp_of o t ≤ exp_of o t' = exp_item o item t in
      let few : unfinished t'' ≤ o.window = omega (arith, s.enters, b.enters, exp_near, on, h.few, expected_low o.first t) in
      let max_stays : max_of o t ≤ max_of o t'' = omega (arith, s.enters, b.enters, exp_is, exp_near, on, h.few, expected_low o.first t) in
      let above : (n : ℕ) → max_of o t'' < n → is_received t'' n ≡ false = λ n high. by_test n (omega (arith, high, max_stays)) (is_received t' n) refl (ap (λ ns. contains ns n) s.receives) in
      record {
        flows = record {
          one_number = subst (HasOneMore (received t)) (sym s.receives) has_one;
          none_above = above;
          exp_stays = omega (arith, on, exp_is);
          max_stays = max_stays;
          max_near = omega (arith, few, expected_low o.first t'');
          few_unfinished = few;
        };
        holds = record {
          fits = s.fits;
          above = above;
          few = few;
          delivered = subst (λ n. DeliversBelow o n t'') (sym exp_is) s.delivered;
        };
      }
    where
      by_test : (n : ℕ) → max_of o t < n → (v : Bool) → is_received t' n ≡ v → {w : Bool} → w ≡ is_received t' n → w ≡ false
      by_test n high true there same = absurd (omega (arith, high, low_now n there))
      by_test n high false there same = same ∙ there

  -- the item, and what it makes due
  turns_go : Goes o t (after_items (with_turns o t item) t)
  turns_go =
      let e : ℕ = exp_of o t in
      let on : e ≤ exp_of o t' = exp_item o item t in
      let m : ℕ = exp_of o t' - e in
      let sum : e + m ≡ exp_of o t' = omega (arith, on) in
      ends (after_items (agenda o e m t') t')
      (subst (λ k. Steps o k m t' (after_items (agenda o e m t') t')) sum
      (agenda_goes o m e t' (expected_low o.first t) (omega (arith, sum)) fits_now delivered_now))

  -- an item that receives nothing, alone
  alone_goes : filter_map number_received item ≡ [] → Goes o t t'
  alone_goes none =
      let same : received t' ≡ received t = ap (λ ns. received t ++ ns) none ∙ append-nil (received t) in
      let exp_is : exp_of o t' ≡ exp_of o t = same_exp o t' t same in
      ends t' (record { receives = refl; fits = fits_now; enters = omega arith; delivered = subst (λ n. DeliversBelow o n t') (sym exp_is) delivered_now })

-- ---- the items that an event begins with

-- an item of a form that receives, enters and delivers nothing
begins_plain : (o : Setting) (now : ℕ) (t : Trace) (item : List Mark) → filter_map number_received item ≡ [] → list_any misfits item ≡ false → unfinished (item ∷ t) ≤ unfinished t → ((k : ℕ) → Touch t k item)
    → filter_map delivers item ≡ [] → ((k : ℕ) → list_any (delivers_number k) item ≡ false) → Begins o t item
begins_plain o now t item none fits enters touches quiet quiet_at = record {
  low = λ n there. absurd (false≢true (sym (ap (λ ns. contains ns n) none) ∙ there));
  fits = fits;
  enters = enters;
  touches = touches;
  quiet = quiet;
  quiet_at = quiet_at;
}

-- what isn't taken
ignored_goes : (o : Setting) (t : Trace) (why : Why) → Holds o t → Goes o t (after_items (ignored why) t)
ignored_goes o t why h =
    let item : List Mark = Ignores why ∷ [] in
    alone_goes o t item h (begins_plain o 0 t item refl refl (unfinished_none item t refl) (λ k. touch_form o 0 t k (Ignored why) tt) refl (λ k. refl)) (inl refl) refl

rejected_goes : (o : Setting) (t : Trace) (a : Arrival) → Holds o t → Goes o t (after_items (rejected a ∷ []) t)
rejected_goes o t a h =
    alone_goes o t (rejected a) h (begins_plain o 0 t (rejected a) refl refl (unfinished_none (rejected a) t refl) (λ k. touch_form o 0 t k (Rejected a) tt) refl (λ k. refl)) (inl refl) refl

-- a completion
completion_goes : (o : Setting) (t : Trace) (ticket status : ℕ) → Holds o t → Goes o t (after_items (completion status (command_of t ticket)) t)
completion_goes o t ticket status h = by_command (command_of t ticket) refl
  where
    by_command : (x : Option Command) → command_of t ticket ≡ x → Goes o t (after_items (completion status x) t)
    by_command None is = ignored_goes o t Stale h
    by_command (Some c) is =
        let item : List Mark = marks_of_form (Completed c status) in
        alone_goes o t item h
        (begins_plain o 0 t item refl refl (unfinished_none item t refl)
        (λ k. touch_form o 0 t k (Completed c status) (in-filter (λ (d : Command). d.ticket == ticket && was_free d t) (live t) c (first-in _ c is)).0) refl (λ k. refl)) (inl refl) refl

-- a numbered request that is received
admitted_goes : (o : Setting) (t : Trace) (a : Arrival) → is_immediate a.request ≡ false → is_received t a.number ≡ false → a.number ≤ max_of o t → Holds o t → Goes o t (after_items (with_turns o t (Admits a ∷ [])) t)
admitted_goes o t a numbered new high h = turns_go o t (Admits a ∷ []) h (record {
  low = λ n there. let same : a.number ≡ n = grind (arith, nat_tests) in omega (arith, same, high);
  fits = ap (λ v. v || false) numbered;
  enters = unfinished_none (Admits a ∷ []) t refl;
  touches = λ k. touch_form o a.event t k (Received a) (refl, new);
  quiet = refl;
  quiet_at = λ k. refl;
}) (inr (a.number, refl))

-- ---- an immediate request

-- the number that an ABORT TASK voids is in the window
module _ (o : Setting) (t : Trace) (a : Arrival) where
  abbrev voided : ℕ
  voided = lift (exp_of o t) (ref_cmd_sn a.request)

  by_deed : (d : Deed) → Befits (facts_of o t a) a.request d → (n : ℕ) → contains (filter_map number_received (deed_marks o t a d)) n ≡ true → n ≤ max_of o t
  by_deed Void befits n there = by_known (is_received t voided) there
    where
      high : voided ≤ max_of o t
      high = grind (arith, nat_tests, befits.1)

      by_known : (v : Bool) → contains (filter_map number_received (cond v [] (Voids voided ∷ []) ++ answer a 0)) n ≡ true → n ≤ max_of o t
      by_known true there = absurd (false≢true there)
      by_known false there = let same : voided ≡ n = grind (arith, nat_tests) in omega (arith, same, high)
  by_deed (Empty unit sn) befits n there = by_held (held_command o t (rtt a.request) unit a.number) there
    where
      by_held : (x : Option Arrival) → contains (filter_map number_received (if_found Empties x ++ answer a 0)) n ≡ true → n ≤ max_of o t
      by_held (Some x) there = absurd (false≢true there)
      by_held None there = absurd (false≢true there)
  by_deed (Abort unit ticket) befits n there = by_live (live_with_tag t (rtt a.request) unit) there
    where
      by_live : (x : Option Command) → contains (filter_map number_received (if_found Leaves x ++ answer a 0)) n ≡ true → n ≤ max_of o t
      by_live (Some x) there = absurd (false≢true there)
      by_live None there = absurd (false≢true there)
  by_deed (AbortEarlier unit) befits n there = absurd (false≢true (sym (ap (λ ns. contains ns n) none) ∙ there))
    where
      none : filter_map number_received (deed_marks o t a (AbortEarlier unit)) ≡ []
      none = simp views
  by_deed (AbortAll unit) befits n there = absurd (false≢true (sym (ap (λ ns. contains ns n) none) ∙ there))
    where
      none : filter_map number_received (deed_marks o t a (AbortAll unit)) ≡ []
      none = simp views
  by_deed (CloseConn closing) befits n there = absurd (false≢true (sym (ap (λ ns. contains ns n) none) ∙ there))
    where
      none : filter_map number_received (deed_marks o t a (CloseConn closing)) ≡ []
      none = simp views
  by_deed CloseSession befits n there = absurd (false≢true (sym (ap (λ ns. contains ns n) none) ∙ there))
    where
      none : filter_map number_received (deed_marks o t a CloseSession) ≡ []
      none = simp views
  by_deed d befits n there = absurd (false≢true there)

-- the mark by which it executes leaves the window as it is
max_begun : (o : Setting) (a : Arrival) (t : Trace) → max_of o (begun AtArrival a t) ≡ max_of o t
max_begun o a t =
    let same : received (begun AtArrival a t) ≡ received t = append-nil (received t) in
    let exp_is : exp_of o (begun AtArrival a t) ≡ exp_of o t = same_exp o (begun AtArrival a t) t same in
    let unfinished_is : unfinished (begun AtArrival a t) ≡ unfinished t = ap (λ cs. count_by (λ (c : Command). not (is_immediate c.arrival.request)) cs) (live-begun AtArrival a t) in
    rw (exp_is, unfinished_is) refl

-- it executes, is refused, or waits
by_shape : (P : List Mark → Type 0) (o : Setting) (t : Trace) (a : Arrival) → P (execution o t (Executes a) a) → ((reply : Reply) → P (Executes a ∷ reply_on a reply)) → (may_wait a.request ≡ true → P (Waits a ∷ [])) → P (immediate_item o t a)
by_shape P o t a executes refused waits =
    by_tests (opcode a.request == 0x02 && may_wait a.request) (refusal_of_function o a.request) refl (nat_lt (max_of o t + 1) a.number) (nat_lt (exp_of o t) a.number) (nat_le MOST_WAITING (waiting_on (connection_of a.request) t))
  where
    by_tests : (b : Bool) (x : Option Reply) → (opcode a.request == 0x02 && may_wait a.request) ≡ b → (far later many : Bool)
        → P (cond b (elim x [
          | Some reply ↦ execution o t (Executes a) a
          | None ↦ cond far (Executes a ∷ reply_on a (reply_of a.request (Respond 255))) (cond (not later) (execution o t (Executes a) a) (cond many (Executes a ∷ reply_on a (reply_of a.request (Reject 6))) (Waits a ∷ [])))
        ]) (execution o t (Executes a) a))
    by_tests false x is far later many = executes
    by_tests true (Some reply) is far later many = executes
    by_tests true None is true later many = refused (reply_of a.request (Respond 255))
    by_tests true None is false false many = executes
    by_tests true None is false true true = refused (reply_of a.request (Reject 6))
    by_tests true None is false true false = waits (and_parts (opcode a.request == 0x02) (may_wait a.request) is).1

immediate_begins : (o : Setting) (t : Trace) (a : Arrival) → is_immediate a.request ≡ true → Begins o t (immediate_item o t a)
immediate_begins o t a at_once =
    by_shape (Begins o t) o t a executes (λ reply. refused reply) (λ may. waits may)
  where
    executes : Begins o t (execution o t (Executes a) a)
    executes = record {
      low = λ n there. omega (arith, max_begun o a t, by_deed o (begun AtArrival a t) a (deed_of (facts_of o (begun AtArrival a t) a) a.request) (befits_deed (facts_of o (begun AtArrival a t) a) a.request) n there);
      fits = fits_executed o t AtArrival a _ (does_after o t AtArrival a);
      enters = omega (arith, unfinished_executed o t AtArrival a _ (does_after o t AtArrival a), ap (λ b. one (not b)) at_once);
      touches = touches_executed o t AtArrival a _ (does_after o t AtArrival a) a.event refl;
      quiet = executes_quiet o t AtArrival a _ (does_after o t AtArrival a);
      quiet_at = executes_no o t AtArrival a _ (does_after o t AtArrival a);
    }

    refused : (reply : Reply) → Begins o t (Executes a ∷ reply_on a reply)
    refused reply =
        begins_plain o 0 t (Executes a ∷ reply_on a reply) refl refl (unfinished_none (Executes a ∷ reply_on a reply) t refl)
        (λ k. NotTouched (record { receives = refl; voided = refl; emptied = refl; delivered = refl; admits = refl })) refl (λ k. refl)

    waits : may_wait a.request ≡ true → Begins o t (Waits a ∷ [])
    waits may =
        begins_plain o 0 t (Waits a ∷ []) refl (ap (λ v. not v || false) may) (unfinished_none (Waits a ∷ []) t refl)
        (λ k. touch_form o a.event t k (Postponed a) refl) refl (λ k. refl)

-- ---- an event

abbrev GoesBy : Setting → Trace → List (List Mark) → Type 0
GoesBy o t items = Goes o t (after_items items t)

numbered_goes : (o : Setting) (t : Trace) (a : Arrival) → is_immediate a.request ≡ false → Holds o t → GoesBy o t (numbered o t a)
numbered_goes o t a is h =
    cond_both (nat_lt a.number (exp_of o t) || nat_lt (max_of o t) a.number) _ _ (GoesBy o t) (λ outside. ignored_goes o t Outside h) (λ inside.
    cond_both (is_received t a.number) _ _ (GoesBy o t) (λ there. ignored_goes o t Duplicate h) (λ new.
    admitted_goes o t a is new (in_window inside) h))
  where
    in_window : (nat_lt a.number (exp_of o t) || nat_lt (max_of o t) a.number) ≡ false → a.number ≤ max_of o t
    in_window inside = grind (arith, nat_tests)

arrival_goes : (o : Setting) (t : Trace) (a : Arrival) → Holds o t → GoesBy o t (arrival o t a)
arrival_goes o t a h =
    cond_both (is_closed (connection_of a.request) t) _ _ (GoesBy o t) (λ is. ignored_goes o t Closed h) (λ is. by_kind (kind_of a.request))
  where
    by_kind : (k : Kind) → GoesBy o t (arrival_as o t a k)
    by_kind PassedOver = ignored_goes o t Data h
    by_kind Unknown = rejected_goes o t a h
    by_kind ExecutesKind =
        cond_both (is_immediate a.request) _ _ (GoesBy o t)
        (λ is. turns_go o t (immediate_item o t a) h (immediate_begins o t a is) (immediate_receives_one o t a))
        (λ is. numbered_goes o t a is h)

event_goes : (o : Setting) (event : ℕ) (t : Trace) (e : Event) → Holds o t → Goes o t (after_event o event t e)
event_goes o event t (Arrive conn header) h = arrival_goes o t (arrival_of o event t (request_of conn header)) h
event_goes o event t (Done ticket status) h = completion_goes o t ticket status h

-- ---- the whole run

start_holds : (o : Setting) → Holds o []
start_holds o = record {
  fits = refl;
  above = λ n high. refl;
  few = omega arith;
  delivered = record { all = sym none_below; none = λ k past. refl; gone = λ k low high. refl };
}
  where
    none_below : executed_below o [] (exp_of o []) ≡ []
    none_below = ap (λ n. filter_map (request_at []) (range_with_len (number_of_first o.first) n)) (let z : number_of_first o.first - number_of_first o.first ≡ 0 = omega arith in z)

events_hold : (o : Setting) (event : ℕ) (t : Trace) (h : List Event) → Holds o t → Holds o (after_events o event t h)
events_hold o event t [] x = x
events_hold o event t (e ∷ h) x = events_hold o (event + 1) (after_event o event t e) h (event_goes o event t e x).holds

trace_holds : (o : Setting) (h : List Event) → Holds o (trace_of o h)
trace_holds o h = events_hold o 0 [] h (start_holds o)

-- for every list of events
pub flows_through : (o : Setting) (h : List Event) → FlowsThrough o h
flows_through o h = λ before after event is.
    subst (Flows o (trace_of o before)) (sym (trace_of-push o before event)) (event_goes o (length before) (trace_of o before) event (trace_holds o before)).flows

delivers_all : (o : Setting) (h : List Event) → delivered (run_of o h) ≡ executed o h
delivers_all o h = sym (log_delivers o 0 [] h) ∙ (trace_holds o h).delivered.all

-- and where each arrival comes on a connection of the session, its log keeps every promise
pub keeps_promises : (o : Setting) (h : List Event) → list_all (belongs o) h ≡ true → KeepsPromises o h (run_of o h)
keeps_promises o h known = record {
  delivery = delivers_all o h;
  enabling = record {
    whole = sym (log_effects o 0 [] h);
    exact = enabled_so_far o (trace_of o h) (length h) (trace_has_forms o h);
    means = rule_means;
  };
  aborts = aborts_hold_in o h;
  closes = closes_hold_in o h known;
  flow = flows_through o h;
  started_once = starts_once o h;
  answered_once = answers_once_in o h;
  stat_sns = counts_replies o h;
  in_order = keeps_order o h;
  meaning = means_what_it_says o h;
}
