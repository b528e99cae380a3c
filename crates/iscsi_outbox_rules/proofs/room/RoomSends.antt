-- What an event of a session sends, with what there is at once after it, is no more than what there was before, and one more where a
-- request came. A Logout that comes on a connection whose replies don't wait adds none.
use Rattle.std.proofs.Common.{◌≡◌, ℕ, zero, suc, ◌+◌, ◌-◌, ◌≤◌, ◌==◌, ◌&&◌, ◌||◌, not, cond, Bool, true, false, List, [], ◌∷◌, ◌++◌, map, filter, filter_map, count_by, length, Option, Some, None, refl, ap, sym, ◌∙◌, subst, arith, nat_le, nat_lt, length-append}
use Rattle.std.specs.List.{flat_map}
use Rattle.std.proofs.lemmas.List.{length-map}
use Rattle.std.proofs.lemmas.List.Elements.{filter_map-append}
use Rattle.iscsi_wire.specs.declared.reply.Reply.{Reply}
use Rattle.iscsi_wire.specs.declared.reply.Reply.TheVariants.{Task, Reject}
use Rattle.iscsi_wire.specs.Fields.{connection_of, header_of, is_immediate, opcode, function, itt, cid, request_of}
use Rattle.iscsi_rules.specs.declared.effect.Effect.{Effect}
use Rattle.iscsi_rules.specs.declared.effect.Effect.TheVariants.{Enable}
use Rattle.iscsi_rules.specs.declared.effect.Why.{Why}
use Rattle.iscsi_rules.specs.declared.effect.Why.TheVariants.{Outside, Duplicate, Closed, Data, Stale}
use Rattle.iscsi_rules.specs.declared.event.Event.{Event}
use Rattle.iscsi_rules.specs.declared.event.Event.TheVariants.{Arrive, Done}
use Rattle.iscsi_rules.specs.declared.kind.Kind.{Kind}
use Rattle.iscsi_rules.specs.declared.kind.Kind.TheVariants.{PassedOver, Unknown, Executes as ExecutesKind}
use Rattle.iscsi_rules.specs.declared.deed.Answer.TheVariants.{Reject as RejectBy, LogOut}
use Rattle.iscsi_rules.specs.declared.deed.Deed.TheVariants.{Reply as Replies, CloseConn, CloseSession}
use Rattle.iscsi_rules.specs.rules.Deeds.{logout_deed, facts_of, deed_marks, marks_after}
use Rattle.iscsi_rules.specs.rules.Settings.{Setting}
use Rattle.iscsi_rules.specs.rules.Trace.{Arrival, Command, Mark, Admits, Delivers, Executes, Voids, Empties, Waits, Leaves, Enters, Sends, ClosesConn, ClosesSession, Ignores, Trace, after_items, first_of, is_received, held, waiting, live, was_free, is_closed}
use Rattle.iscsi_rules.specs.rules.Execution.{exp_of, max_of, NO_TAG, rejected, ignored, completion, reply_on}
use Rattle.iscsi_rules.specs.rules.Management.{may_wait, refusal_of_function, MOST_WAITING, waiting_on}
use Rattle.iscsi_rules.specs.rules.Logout.{is_open, is_last_open, taken_out, parting, end_session, close_conn}
use Rattle.iscsi_rules.specs.rules.Items.{execution, waiting_item, immediate_item, function_item, item_of, is_waiting, functions, functions_at, turn_at, at_number, agenda}
use Rattle.iscsi_rules.specs.rules.Agenda.{with_turns, numbered, kind_of, arrival_as, arrival_open, arrival, arrival_of, command_of, items_of}
use Rattle.iscsi_rules.specs.rules.Run.{effects_of_mark, newly_enabled, effects_of_item}
use Rattle.iscsi_rules.proofs.general.CountLemmas.{one, count-cons}
use Rattle.iscsi_rules.proofs.general.ElementLemmas.{in-filter, first-in}
use Rattle.iscsi_rules.proofs.traces.TraceLemmas.{after_items-append}
use Rattle.iscsi_rules.proofs.traces.HeldLemmas.{held-number}
use Rattle.iscsi_rules.proofs.promises.NumberingLemmas.{to_list}
use Rattle.iscsi_rules.proofs.items.Forms.{Start, AtTurn, AtArrival, AfterWaiting, start_mark, Deeds, if_some, marks_done, Form, Ignored, Rejected, Received, Postponed, Completed, Executed, marks_of_form, Starts, HasForm}
use Rattle.iscsi_rules.proofs.items.FormItems.{Does, does_reply, does_function, does_after}
use Rattle.iscsi_rules.proofs.promises.ReplyForms.{replies_seen}
use Rattle.iscsi_outbox_rules.specs.rules.Items.{reply_sent}
use Rattle.iscsi_outbox_rules.proofs.closes.ClosedParts.{effects_each, EachOn}
use Rattle.iscsi_outbox_rules.proofs.room.RoomStored.{any, at_once, taken_by, sent_by_form, at_once_form}

-- ---- the replies of an item

abbrev pub mark_reply : Mark → Option (ℕ × Reply)
mark_reply (Sends conn reply) = Some (conn, reply)
mark_reply _ = None

marks_reply : (o : Setting) (t : Trace) (ms : List Mark) (cs : List Command) → filter_map reply_sent (flat_map (effects_of_mark o t) ms ++ map (λ (c : Command). Enable c.ticket c.unit) cs) ≡ filter_map mark_reply ms
marks_reply o t [] cs = none cs
  where
    none : (ds : List Command) → filter_map reply_sent (map (λ (c : Command). Enable c.ticket c.unit) ds) ≡ []
    none [] = refl
    none (d ∷ ds) = none ds
marks_reply o t (Admits a ∷ ms) cs = marks_reply o t ms cs
marks_reply o t (Delivers a ∷ ms) cs = marks_reply o t ms cs
marks_reply o t (Executes a ∷ ms) cs = marks_reply o t ms cs
marks_reply o t (Voids n ∷ ms) cs = marks_reply o t ms cs
marks_reply o t (Empties a ∷ ms) cs = marks_reply o t ms cs
marks_reply o t (Waits a ∷ ms) cs = marks_reply o t ms cs
marks_reply o t (Leaves c ∷ ms) cs = marks_reply o t ms cs
marks_reply o t (Enters c ∷ ms) cs = marks_reply o t ms cs
marks_reply o t (Sends conn reply ∷ ms) cs = ap (λ rs. (conn, reply) ∷ rs) (marks_reply o t ms cs)
marks_reply o t (ClosesConn conn ∷ ms) cs = marks_reply o t ms cs
marks_reply o t (ClosesSession ∷ ms) cs = marks_reply o t ms cs
marks_reply o t (Ignores why ∷ ms) cs = marks_reply o t ms cs

pub done_replies : (a : Arrival) (d : Deeds) → filter_map mark_reply (marks_done a d) ≡ map (λ reply. (connection_of a.request, reply)) (to_list d.reply)
done_replies a d = replies_seen mark_reply (λ n. refl) (λ c. refl) (λ b. refl) (λ c. refl) (λ conn. refl) refl a d ∙ by_reply d.reply
  where
    by_reply : (x : Option Reply) → filter_map mark_reply (if_some (Sends (connection_of a.request)) x) ≡ map (λ reply. (connection_of a.request, reply)) (to_list x)
    by_reply None = refl
    by_reply (Some reply) = refl

-- ---- Logouts answer

abbrev pub answers : List Mark → ℕ
answers ms = length (filter_map mark_reply ms)

answers-append : (xs ys : List Mark) → answers (xs ++ ys) ≡ answers xs + answers ys
answers-append xs ys = ap length (filter_map-append mark_reply xs ys) ∙ length-append (filter_map mark_reply xs) (filter_map mark_reply ys)

logout_answers : (o : Setting) (t : Trace) (a : Arrival) → 1 ≤ answers (deed_marks o t a (logout_deed (facts_of o t a) a.request))
logout_answers o t a = by_tests (itt a.request == NO_TAG) (function a.request == 0) (function a.request == 1) (is_open o t (cid a.request)) (function a.request == 2)
  where
    ends : 1 ≤ answers (end_session o t a)
    ends = omega (arith, answers-append (taken_out o t (λ conn. true) ++ parting a 0) (ClosesSession ∷ []), answers-append (taken_out o t (λ conn. true)) (parting a 0))

    closes : 1 ≤ answers (close_conn o t a (cid a.request))
    closes = omega (arith, answers-append (taken_out o t (λ conn. conn == cid a.request) ++ parting a 0) (ClosesConn (cid a.request) ∷ cond (is_last_open o t (cid a.request)) (ClosesSession ∷ []) []), answers-append (taken_out o t (λ conn. conn == cid a.request)) (parting a 0))

    by_tests : (d e f g i : Bool) → 1 ≤ answers (deed_marks o t a (cond d (Replies (RejectBy 9)) (cond e CloseSession (cond f (cond g (CloseConn (cid a.request)) (Replies (LogOut 1))) (cond i (Replies (LogOut 2)) (Replies (RejectBy 9)))))))
    by_tests true e f g i = omega arith
    by_tests false true f g i = ends
    by_tests false false true true i = closes
    by_tests false false true false i = omega arith
    by_tests false false false g true = omega arith
    by_tests false false false g false = omega arith

pub parting_answers : (o : Setting) (t : Trace) (a : Arrival) → opcode a.request ≡ 0x06 → 1 ≤ answers (marks_after o t a)
parting_answers o t a is =
    let other : (opcode a.request == 0x02) ≡ false = ap (λ n. n == 0x02) is in
    let same : (opcode a.request == 0x06) ≡ true = ap (λ n. n == 0x06) is in
    rw (other, same) (logout_answers o t a)

module _ (o : Setting) (quiet : ℕ → Bool) where
  -- as RoomReplies counts them
  abbrev waits : Option (ℕ × Reply) → Bool
  waits (Some sent) = not (quiet sent.0)
  waits None = false

  abbrev pub sending : List (List Effect) → ℕ
  sending items = count_by (λ item. waits (first_of (filter_map reply_sent item))) items

  abbrev waits_in : List Mark → Bool
  waits_in ms = waits (first_of (filter_map mark_reply ms))

  one_most : (b : Bool) → one b ≤ 1
  one_most true = omega arith
  one_most false = omega arith

  by_form : (form : Form) → one (waits_in (marks_of_form form)) ≤ sent_by_form form
  by_form (Ignored why) = omega arith
  by_form (Rejected a) = one_most (not (quiet (connection_of a.request)))
  by_form (Received a) = omega arith
  by_form (Postponed a) = omega arith
  by_form (Completed c status) = one_most (not (quiet (connection_of c.arrival.request)))
  by_form (Executed start a d) = by_start start
    where
      done : one (waits_in (marks_done a d)) ≤ length (to_list d.reply)
      done = omega (arith, ap (λ rs. one (waits (first_of rs))) (done_replies a d), by_reply d.reply)
        where
          by_reply : (x : Option Reply) → one (waits (first_of (map (λ reply. (connection_of a.request, reply)) (to_list x)))) ≤ length (to_list x)
          by_reply None = omega arith
          by_reply (Some reply) = one_most (not (quiet (connection_of a.request)))

      by_start : (s : Start) → one (waits_in (start_mark s a ∷ marks_done a d)) ≤ length (to_list d.reply)
      by_start AtTurn = done
      by_start AtArrival = done
      by_start AfterWaiting = done

  -- ---- items one after the other

  abbrev pub Formed : Trace → List Mark → Type 0
  Formed t item = (now : ℕ) × HasForm o now t item

  pub record Going (k : ℕ) (t : Trace) (items : List (List Mark)) : Type 0 where
    pub each : EachOn Formed t items
    pub less : at_once (after_items items t) + sending (effects_each o t items) ≤ at_once t + k

  going_none : (t : Trace) → Going 0 t []
  going_none t = record { each = tt; less = omega arith }

  going_more : (k m : ℕ) (t : Trace) (items : List (List Mark)) → k ≤ m → Going k t items → Going m t items
  going_more k m t items le g = record { each = g.each; less = omega (arith, le, g.less) }

  sending_first : (t : Trace) (item : List Mark) (rest : List (List Effect)) → sending (effects_of_item o t item ∷ rest) ≡ one (waits_in item) + sending rest
  sending_first t item rest =
      count-cons (λ (es : List Effect). waits (first_of (filter_map reply_sent es))) (effects_of_item o t item) rest
      ∙ ap (λ rs. one (waits (first_of rs)) + sending rest) (marks_reply o t item (newly_enabled o t item))

  going_first : (now k : ℕ) (t : Trace) (item : List Mark) (items : List (List Mark)) → HasForm o now t item → at_once (item ∷ t) + one (waits_in item) ≤ at_once t + k → Going 0 (item ∷ t) items → Going k t (item ∷ items)
  going_first now k t item items f step g = record { each = ((now, f), g.each); less = omega (arith, step, g.less, sending_first t item (effects_each o (item ∷ t) items)) }

  by_item : (now : ℕ) (t : Trace) (item : List Mark) (f : HasForm o now t item) → at_once (item ∷ t) + one (waits_in item) ≤ at_once t + taken_by f.form
  by_item now t item f =
      subst (λ ms. at_once (ms ∷ t) + one (waits_in ms) ≤ at_once t + taken_by f.form) (sym f.is) (omega (arith, at_once_form o now t f.form f.formed, by_form f.form))

  each-append : (t : Trace) (xs ys : List (List Mark)) → EachOn Formed t xs → EachOn Formed (after_items xs t) ys → EachOn Formed t (xs ++ ys)
  each-append t [] ys h k = k
  each-append t (x ∷ xs) ys h k = (h.0, each-append (x ∷ t) xs ys h.1 k)

  sending-append : (t : Trace) (xs ys : List (List Mark)) → sending (effects_each o t (xs ++ ys)) ≡ sending (effects_each o t xs) + sending (effects_each o (after_items xs t) ys)
  sending-append t [] ys = omega arith
  sending-append t (x ∷ xs) ys =
      omega (arith, sending_first t x (effects_each o (x ∷ t) (xs ++ ys)), sending_first t x (effects_each o (x ∷ t) xs), sending-append (x ∷ t) xs ys)

  going-append : (t : Trace) (xs ys : List (List Mark)) → Going 0 t xs → Going 0 (after_items xs t) ys → Going 0 t (xs ++ ys)
  going-append t xs ys g h = record {
    each = each-append t xs ys g.each h.each;
    less = omega (arith, g.less, h.less, sending-append t xs ys, ap at_once (after_items-append xs ys t));
  }

  -- ---- the agenda

  executed_form : (now : ℕ) (t : Trace) (start : Start) (a : Arrival) (ms : List Mark) → Starts now t start a → Does o t start a ms → HasForm o now t (start_mark start a ∷ ms)
  executed_form now t start a ms starts d = record { form = Executed start a d.deeds; is = ap (λ xs. start_mark start a ∷ xs) d.is; formed = (starts, d.done) }

  abbrev taken_of : Start → ℕ
  taken_of AtArrival = 1
  taken_of AtTurn = 0
  taken_of AfterWaiting = 0

  same_taken : (start : Start) (a : Arrival) (d : Deeds) → taken_by (Executed start a d) ≡ taken_of start
  same_taken AtArrival a d = refl
  same_taken AtTurn a d = refl
  same_taken AfterWaiting a d = refl

  by_executed : (now : ℕ) (t : Trace) (start : Start) (a : Arrival) (ms : List Mark) → Starts now t start a → Does o t start a ms → at_once ((start_mark start a ∷ ms) ∷ t) + one (waits_in (start_mark start a ∷ ms)) ≤ at_once t + taken_of start
  by_executed now t start a ms starts d =
      subst (λ xs. at_once ((start_mark start a ∷ xs) ∷ t) + one (waits_in (start_mark start a ∷ xs)) ≤ at_once t + taken_of start) (sym d.is)
      (omega (arith, at_once_form o now t (Executed start a d.deeds) (starts, d.done), by_form (Executed start a d.deeds), same_taken start a d.deeds))

  functions_going : (as' : List Arrival) (t : Trace) → Going 0 t (functions o as' t)
  functions_going [] t = going_none t
  functions_going (a ∷ as') t =
      elim (is_waiting a t) as (λ b. is_waiting a t ≡ b → Going 0 t (let due : List (List Mark) = cond b (function_item o t a ∷ []) [] in due ++ functions o as' (after_items due t))) [
        | true ↦ λ is.
            let f : HasForm o 0 t (function_item o t a) = executed_form 0 t AfterWaiting a _ is (does_function o t AfterWaiting a) in
            going_first 0 0 t (function_item o t a) (functions o as' (function_item o t a ∷ t)) f (by_executed 0 t AfterWaiting a _ is (does_function o t AfterWaiting a)) (functions_going as' (function_item o t a ∷ t))
        | false ↦ λ is. functions_going as' t
      ] refl

  turn_going : (n : ℕ) (t : Trace) → Going 0 t (turn_at o n t)
  turn_going n t =
      elim (held t n) as (λ y. held t n ≡ y → Going 0 t (elim y [ Some a ↦ item_of o t a ∷ [] | None ↦ [] ])) [
        | Some a ↦ λ is.
            let f : HasForm o 0 t (item_of o t a) = executed_form 0 t AtTurn a _ (ap (held t) (held-number t n a is) ∙ is) (does_after o t AtTurn a) in
            going_first 0 0 t (item_of o t a) [] f (by_executed 0 t AtTurn a _ (ap (held t) (held-number t n a is) ∙ is) (does_after o t AtTurn a)) (going_none (item_of o t a ∷ t))
        | None ↦ λ is. going_none t
      ] refl

  functions_at_going : (n : ℕ) (t : Trace) → Going 0 t (functions_at o n t)
  functions_at_going n t = functions_going (filter (λ a. a.number == n) (waiting t)) t

  agenda_going : (n m : ℕ) (t : Trace) → Going 0 t (agenda o n m t)
  agenda_going n zero t = functions_at_going n t
  agenda_going n (suc m) t =
      let before : List (List Mark) = functions_at o n t in
      let now : List (List Mark) = at_number o n t in
      going-append t now (agenda o (n + 1) m (after_items now t)) (going-append t before (turn_at o n (after_items before t)) (functions_at_going n t) (turn_going n (after_items before t))) (agenda_going (n + 1) m (after_items now t))

  -- ---- an event

  turns_going : (now k : ℕ) (t : Trace) (item : List Mark) → HasForm o now t item → at_once (item ∷ t) + one (waits_in item) ≤ at_once t + k → Going k t (with_turns o t item)
  turns_going now k t item f step = going_first now k t item _ f step (agenda_going (exp_of o t) (exp_of o (item ∷ t) - exp_of o t) (item ∷ t))

  alone : (now : ℕ) (t : Trace) (item : List Mark) (f : HasForm o now t item) → Going (taken_by f.form) t (item ∷ [])
  alone now t item f = going_first now (taken_by f.form) t item [] f (by_item now t item f) (going_none (item ∷ t))

  ignored_going : (t : Trace) (why : Why) → Going 0 t (ignored why)
  ignored_going t why = alone 0 t (Ignores why ∷ []) (record { form = Ignored why; is = refl; formed = tt })

  -- the first item of an immediate request
  execution_going : (t : Trace) (a : Arrival) → Going 1 t (with_turns o t (execution o t (Executes a) a))
  execution_going t a =
      let f : HasForm o a.event t (execution o t (Executes a) a) = executed_form a.event t AtArrival a _ refl (does_after o t AtArrival a) in
      turns_going a.event 1 t (execution o t (Executes a) a) f (by_executed a.event t AtArrival a _ refl (does_after o t AtArrival a))

  reply_going : (t : Trace) (a : Arrival) (ms : List Mark) → Does o t AtArrival a ms → Going 1 t (with_turns o t (Executes a ∷ ms))
  reply_going t a ms d =
      let f : HasForm o a.event t (Executes a ∷ ms) = executed_form a.event t AtArrival a ms refl d in
      turns_going a.event 1 t (Executes a ∷ ms) f (by_executed a.event t AtArrival a ms refl d)

  immediate_going : (t : Trace) (a : Arrival) → Going 1 t (with_turns o t (immediate_item o t a))
  immediate_going t a = by_tests (opcode a.request == 0x02 && may_wait a.request) (refusal_of_function o a.request)
    where
      waiting_going : (b c d : Bool) → Going 1 t (with_turns o t (cond b (Executes a ∷ reply_on a (Task (itt a.request) 255)) (cond (not c) (execution o t (Executes a) a) (cond d (Executes a ∷ reply_on a (Reject 6 (header_of a.request))) (Waits a ∷ [])))))
      waiting_going true c d = reply_going t a _ (does_reply o t AtArrival a (Task (itt a.request) 255) refl)
      waiting_going false false d = execution_going t a
      waiting_going false true true = reply_going t a _ (does_reply o t AtArrival a (Reject 6 (header_of a.request)) refl)
      waiting_going false true false =
          let f : HasForm o a.event t (Waits a ∷ []) = record { form = Postponed a; is = refl; formed = refl } in
          turns_going a.event 1 t (Waits a ∷ []) f (by_item a.event t (Waits a ∷ []) f)

      by_tests : (b : Bool) (x : Option Reply) → Going 1 t (with_turns o t (cond b (elim x [ Some reply ↦ execution o t (Executes a) a | None ↦ waiting_item o t a ]) (execution o t (Executes a) a)))
      by_tests true (Some reply) = execution_going t a
      by_tests true None = waiting_going (nat_lt (max_of o t + 1) a.number) (nat_lt (exp_of o t) a.number) (nat_le MOST_WAITING (waiting_on (connection_of a.request) t))
      by_tests false x = execution_going t a

  numbered_going : (t : Trace) (a : Arrival) → Going 1 t (numbered o t a)
  numbered_going t a =
      elim (nat_lt a.number (exp_of o t) || nat_lt (max_of o t) a.number) as (λ b. Going 1 t (cond b (ignored Outside) (cond (is_received t a.number) (ignored Duplicate) (with_turns o t (Admits a ∷ []))))) [
        | true ↦ going_more 0 1 t _ (omega arith) (ignored_going t Outside)
        | false ↦ elim (is_received t a.number) as (λ b. is_received t a.number ≡ b → Going 1 t (cond b (ignored Duplicate) (with_turns o t (Admits a ∷ [])))) [
          | true ↦ λ is. going_more 0 1 t _ (omega arith) (ignored_going t Duplicate)
          | false ↦ λ is.
              let f : HasForm o a.event t (Admits a ∷ []) = record { form = Received a; is = refl; formed = (refl, is) } in
              turns_going a.event 1 t (Admits a ∷ []) f (by_item a.event t (Admits a ∷ []) f)
        ] refl
      ]

  arrival_going : (t : Trace) (a : Arrival) → Going 1 t (arrival o t a)
  arrival_going t a =
      elim (is_closed (connection_of a.request) t) as (λ b. Going 1 t (cond b (ignored Closed) (arrival_open o t a))) [
        | true ↦ going_more 0 1 t _ (omega arith) (ignored_going t Closed)
        | false ↦ by_kind (kind_of a.request)
      ]
    where
      by_kind : (k : Kind) → Going 1 t (arrival_as o t a k)
      by_kind PassedOver = going_more 0 1 t _ (omega arith) (ignored_going t Data)
      by_kind Unknown = alone 0 t (rejected a) (record { form = Rejected a; is = refl; formed = tt })
      by_kind ExecutesKind =
          elim (is_immediate a.request) as (λ b. Going 1 t (cond b (with_turns o t (immediate_item o t a)) (numbered o t a))) [
            | true ↦ immediate_going t a
            | false ↦ numbered_going t a
          ]

  -- a Logout whose answer doesn't wait
  pub parting_going : (t : Trace) (a : Arrival) → is_immediate a.request ≡ true → opcode a.request ≡ 0x06 → quiet (connection_of a.request) ≡ true → Going 0 t (arrival o t a)
  parting_going t a now is q =
      elim (is_closed (connection_of a.request) t) as (λ b. Going 0 t (cond b (ignored Closed) (arrival_open o t a))) [
        | true ↦ ignored_going t Closed
        | false ↦ subst (λ n. Going 0 t (arrival_as o t a (cond (n == 0x05 || n == 0x10) PassedOver (cond (n == 0x00 || n == 0x01 || n == 0x02 || n == 0x04 || n == 0x06) ExecutesKind Unknown)))) (sym is)
            (subst (λ b. Going 0 t (cond b (with_turns o t (immediate_item o t a)) (numbered o t a))) (sym now)
            (subst (λ n. Going 0 t (with_turns o t (cond (n == 0x02 && may_wait a.request) (elim (refusal_of_function o a.request) [ Some reply ↦ execution o t (Executes a) a | None ↦ waiting_item o t a ]) (execution o t (Executes a) a)))) (sym is) goes))
      ]
    where
      goes : Going 0 t (with_turns o t (execution o t (Executes a) a))
      goes = by_does (does_after o t AtArrival a)
        where
          logout : 1 ≤ answers (marks_after o ((Executes a ∷ []) ∷ t) a)
          logout = parting_answers o ((Executes a ∷ []) ∷ t) a is

          by_does : Does o t AtArrival a (marks_after o ((Executes a ∷ []) ∷ t) a) → Going 0 t (with_turns o t (execution o t (Executes a) a))
          by_does d =
              let f : HasForm o a.event t (execution o t (Executes a) a) = executed_form a.event t AtArrival a _ refl d in
              let replies : filter_map mark_reply (execution o t (Executes a) a) ≡ map (λ reply. (connection_of a.request, reply)) (to_list d.deeds.reply) = ap (filter_map mark_reply) d.is ∙ done_replies a d.deeds in
              let some : 1 ≤ length (to_list d.deeds.reply) = omega (arith, logout, ap length replies, length-map {B = ℕ × Reply} (to_list d.deeds.reply) (λ reply. (connection_of a.request, reply))) in
              let none : one (waits_in (execution o t (Executes a) a)) ≡ 0 = ap (λ rs. one (waits (first_of rs))) replies ∙ by_reply d.deeds.reply in
              turns_going a.event 0 t (execution o t (Executes a) a) f
              (omega (arith, none, some, subst (λ xs. at_once ((Executes a ∷ xs) ∷ t) + length (to_list d.deeds.reply) + count_by any d.deeds.leaving ≤ at_once t + 1) (sym d.is) (at_once_form o a.event t (Executed AtArrival a d.deeds) (refl, d.done))))
            where
              by_reply : (x : Option Reply) → one (waits (first_of (map (λ reply. (connection_of a.request, reply)) (to_list x)))) ≡ 0
              by_reply None = refl
              by_reply (Some reply) = ap (λ v. one (not v)) q

  pub done_going : (now : ℕ) (t : Trace) (ticket status : ℕ) → Going 0 t (items_of o now t (Done ticket status))
  done_going now t ticket status = by_command (command_of t ticket) refl
    where
      by_command : (y : Option Command) → command_of t ticket ≡ y → Going 0 t (completion status y)
      by_command None is = ignored_going t Stale
      by_command (Some c) is =
          alone 0 t _ (record { form = Completed c status; is = refl; formed = (in-filter (λ (d : Command). d.ticket == ticket && was_free d t) (live t) c (first-in _ c is)).0 })

  pub event_going : (now : ℕ) (t : Trace) (e : Event) → Going 1 t (items_of o now t e)
  event_going now t (Arrive conn header) = arrival_going t (arrival_of o now t (request_of conn header))
  event_going now t (Done ticket status) = going_more 0 1 t _ (omega arith) (done_going now t ticket status)
