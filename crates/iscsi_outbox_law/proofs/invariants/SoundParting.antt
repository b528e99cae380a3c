-- An item that closes is that of a Logout that succeeds, and a task management function isn't answered as a Logout is.
use Rattle.std.proofs.Common.{◌≡◌, ℕ, zero, suc, ◌+◌, ◌-◌, ◌==◌, ◌&&◌, ◌||◌, not, cond, nat_le, nat_lt, Bool, true, false, List, [], ◌∷◌, ◌++◌, map, filter, filter_map, Option, Some, None, refl, ap, sym, subst, ◌∙◌}
use Rattle.std.specs.List.{list_any}
use Rattle.std.proofs.lemmas.Bool.{false≢true}
use Rattle.std.proofs.lemmas.List.{append_assoc}
use Rattle.std.proofs.lemmas.List.Elements.{filter_map-append}
use Rattle.std.proofs.lemmas.List.Folds.{list_any-append}
use Rattle.iscsi_wire.specs.declared.reply.Reply.{Reply}
use Rattle.iscsi_wire.specs.declared.reply.Reply.TheVariants.{Task, Logout, Reject}
use Rattle.iscsi_wire.specs.Serial.{lift}
use Rattle.iscsi_wire.specs.Fields.{connection_of, header_of, is_immediate, opcode, itt, rtt, ref_cmd_sn, request_of}
use Rattle.iscsi_rules.specs.declared.effect.Why.TheVariants.{Outside, Duplicate, Closed, Data, Stale}
use Rattle.iscsi_rules.specs.declared.event.Event.{Event}
use Rattle.iscsi_rules.specs.declared.event.Event.TheVariants.{Arrive, Done}
use Rattle.iscsi_rules.specs.declared.kind.Kind.{Kind}
use Rattle.iscsi_rules.specs.declared.kind.Kind.TheVariants.{PassedOver, Unknown, Executes as ExecutesKind}
use Rattle.iscsi_rules.specs.declared.deed.Answer.{Answer}
use Rattle.iscsi_rules.specs.declared.deed.Answer.TheVariants.{Reject, Pong, LogOut}
use Rattle.iscsi_rules.specs.declared.deed.Deed.TheVariants.{Reply as Replies, Enter, Void}
use Rattle.iscsi_rules.specs.rules.Settings.{Setting}
use Rattle.iscsi_rules.specs.rules.Trace.{Arrival, Command, Mark, Admits, Delivers, Executes, Voids, Empties, Waits, Leaves, ClosesConn, ClosesSession, Ignores, Trace, after_items, first_of, is_received, held, waiting, live_in, is_closed}
use Rattle.iscsi_rules.specs.rules.Execution.{exp_of, max_of, reply_on, ignored, completion, reply_of}
use Rattle.iscsi_rules.specs.rules.Deeds.{Facts, function_deed, deed_of, facts_of, if_found, deed_marks, marks_after, function_marks}
use Rattle.iscsi_rules.specs.rules.Management.{may_wait, refusal_of_function, MOST_WAITING, waiting_on, answer, held_command, live_with_tag, is_before, abort_all, refusal}
use Rattle.iscsi_rules.specs.rules.Logout.{is_last_open, live_of_units, all_held, taken_out, parting, end_session, close_conn}
use Rattle.iscsi_rules.specs.rules.Items.{execution, item_of, waiting_item, immediate_item, function_item, is_waiting, functions, functions_at, turn_at, at_number, agenda}
use Rattle.iscsi_rules.specs.rules.Agenda.{with_turns, numbered, kind_of, arrival_as, arrival_open, arrival, arrival_of, command_of, items_of}
use Rattle.iscsi_rules.specs.promises.Replies.{executed_in}
use Rattle.iscsi_rules.proofs.promises.AbortMarks.{none_mapped, none_viewed}
use Rattle.iscsi_rules.proofs.items.DeedTable.{with_answers, through_deed, is_parting, refused_plainly}
use Rattle.iscsi_outbox_rules.proofs.closes.ClosedItems.{send_of, some_pair}
use Rattle.iscsi_outbox_law.specs.private.Pairs.{EachOf}
use Rattle.iscsi_outbox_law.proofs.general.PairLemmas.{each-append}

abbrev pub closes_any : Mark → Bool
closes_any (ClosesConn conn) = true
closes_any ClosesSession = true
closes_any _ = false

abbrev is_logout : Reply → Bool
is_logout (Logout tag response) = true
is_logout _ = false

abbrev sent_first : List Mark → Option (ℕ × Reply)
sent_first ms = first_of (filter_map send_of ms)

pub record IsParting (item : List Mark) : Type 0 where
  pub executes : list_any closes_any item ≡ true → (a : Arrival) × (executed_in item ≡ Some a)
  pub closing : list_any closes_any item ≡ true → (conn : ℕ) (reply : Reply) → first_of (filter_map send_of item) ≡ Some (conn, reply) → (tag : ℕ) × (reply ≡ Logout tag 0)
  pub logout : (a : Arrival) → executed_in item ≡ Some a → (conn tag response : ℕ) → first_of (filter_map send_of item) ≡ Some (conn, Logout tag response) → (opcode a.request == 0x02) ≡ false

-- ---- what a request does that executes

module _ (a : Arrival) where
  record Parts (ms : List Mark) : Type 0 where
    closing : list_any closes_any ms ≡ true → (conn : ℕ) (reply : Reply) → sent_first ms ≡ Some (conn, reply) → (tag : ℕ) × (reply ≡ Logout tag 0)
    logout : (opcode a.request == 0x02) ≡ true → (conn : ℕ) (reply : Reply) → sent_first ms ≡ Some (conn, reply) → is_logout reply ≡ false

  -- nothing is closed, and the reply isn't that of a Logout
  of_reply : (reply : Reply) → is_logout reply ≡ false → Parts (reply_on a reply)
  of_reply reply plain = record {
    closing = λ is. absurd (false≢true is);
    logout = λ is conn sent found. ap (λ (s : ℕ × Reply). is_logout s.1) (sym (some_pair (connection_of a.request, reply) (conn, sent) found)) ∙ plain;
  }

  of_none : Parts []
  of_none = record { closing = λ is. absurd (false≢true is); logout = λ is conn sent found. absurd cc }

  of_other : (ms : List Mark) → (opcode a.request == 0x02) ≡ false → list_any closes_any ms ≡ false → Parts ms
  of_other ms apart none = record { closing = λ is. absurd (false≢true (sym none ∙ is)); logout = λ is. absurd (false≢true (sym apart ∙ is)) }

  -- behind marks that send and close nothing
  behind : (xs ms : List Mark) → filter_map send_of xs ≡ [] → list_any closes_any xs ≡ false → Parts ms → Parts (xs ++ ms)
  behind xs ms unsent unclosed p =
      let sent : sent_first (xs ++ ms) ≡ sent_first ms = ap first_of (filter_map-append send_of xs ms ∙ ap (λ (ys : List (ℕ × Reply)). ys ++ filter_map send_of ms) unsent) in
      let closed : list_any closes_any (xs ++ ms) ≡ list_any closes_any ms = list_any-append closes_any xs ms ∙ ap (λ (v : Bool). v || list_any closes_any ms) unclosed in
      record { closing = λ is conn reply found. p.closing (sym closed ∙ is) conn reply (sym sent ∙ found); logout = λ is conn reply found. p.logout is conn reply (sym sent ∙ found) }

  of_answer : (response : ℕ) → Parts (answer a response)
  of_answer response = of_reply (Task (itt a.request) response) refl

  -- ---- functions

  of_all : (t : Trace) (unit : ℕ) (covers : Command → Bool) → Parts (abort_all t a unit covers)
  of_all t unit covers =
      let cs : List Command = filter covers (live_in unit t) in
      behind (map Leaves cs) (answer a 0) (none_viewed send_of Leaves cs (λ c. refl)) (none_mapped closes_any Leaves cs (λ c. refl)) (of_answer 0)

  -- ---- Logouts

  of_parting : (rest : List Mark) → (opcode a.request == 0x02) ≡ false → Parts (parting a 0 ++ rest)
  of_parting rest apart = record {
    closing = λ is conn reply found. (itt a.request, ap (λ (s : ℕ × Reply). s.1) (sym (some_pair (connection_of a.request, Logout (itt a.request) 0) (conn, reply) found)));
    logout = λ is. absurd (false≢true (sym apart ∙ is));
  }

  of_taken : (o : Setting) (t : Trace) (of_these : ℕ → Bool) (ms : List Mark) → Parts ms → Parts (taken_out o t of_these ++ ms)
  of_taken o t of_these ms p =
      let cs : List Command = filter (λ (c : Command). of_these (connection_of c.arrival.request)) (live_of_units o t) in
      let hs : List Arrival = filter (λ (h : Arrival). of_these (connection_of h.request)) (all_held o t) in
      behind (map Leaves cs ++ map Empties hs) ms
      (filter_map-append send_of (map Leaves cs) (map Empties hs) ∙ ap (λ (ys : List (ℕ × Reply)). ys ++ filter_map send_of (map Empties hs)) (none_viewed send_of Leaves cs (λ c. refl)) ∙ none_viewed send_of Empties hs (λ h. refl))
      (list_any-append closes_any (map Leaves cs) (map Empties hs) ∙ ap (λ (v : Bool). v || list_any closes_any (map Empties hs)) (none_mapped closes_any Leaves cs (λ c. refl)) ∙ none_mapped closes_any Empties hs (λ h. refl))
      p

  of_end : (o : Setting) (t : Trace) → (opcode a.request == 0x02) ≡ false → Parts (end_session o t a)
  of_end o t apart =
      let rest : List Mark = ClosesSession ∷ [] in
      subst Parts (sym (append_assoc (taken_out o t (λ conn. true)) (parting a 0) rest)) (of_taken o t (λ conn. true) (parting a 0 ++ rest) (of_parting rest apart))

  of_close : (o : Setting) (t : Trace) (closing : ℕ) → (opcode a.request == 0x02) ≡ false → Parts (close_conn o t a closing)
  of_close o t closing apart =
      let rest : List Mark = ClosesConn closing ∷ cond (is_last_open o t closing) (ClosesSession ∷ []) [] in
      subst Parts (sym (append_assoc (taken_out o t (λ conn. conn == closing)) (parting a 0) rest)) (of_taken o t (λ conn. conn == closing) (parting a 0 ++ rest) (of_parting rest apart))

  -- ---- any request

  of_found : {A : Type 0} (f : A → Mark) (x : Option A) → ((y : A) → (filter_map send_of (f y ∷ []) ≡ []) × (closes_any (f y) ≡ false)) → Parts (if_found f x ++ answer a 0)
  of_found f None h = of_answer 0
  of_found f (Some y) h = behind (f y ∷ []) (answer a 0) (h y).0 (ap (λ b. b || false) (h y).1) (of_answer 0)

  of_void : (o : Setting) (t : Trace) → Parts (deed_marks o t a Void)
  of_void o t = by_known (is_received t (lift (exp_of o t) (ref_cmd_sn a.request)))
    where
      by_known : (v : Bool) → Parts (cond v [] (Voids (lift (exp_of o t) (ref_cmd_sn a.request)) ∷ []) ++ answer a 0)
      by_known true = of_answer 0
      by_known false = behind (Voids (lift (exp_of o t) (ref_cmd_sn a.request)) ∷ []) (answer a 0) refl refl (of_answer 0)

  of_function : (o : Setting) (t : Trace) → Parts (function_marks o t a)
  of_function o t =
      with_answers (λ d. Parts (deed_marks o t a d)) (facts_of o t a) a.request of_none (λ n. of_answer n) (of_void o t)
      (λ unit sn. of_found Empties (held_command o t (rtt a.request) unit a.number) (λ h. (refl, refl))) (λ unit ticket. of_found Leaves (live_with_tag t (rtt a.request) unit) (λ c. (refl, refl)))
      (λ unit. of_all t unit (is_before a)) (λ unit. of_all t unit (λ x. true))

  of_after : (o : Setting) (t : Trace) → Parts (marks_after o t a)
  of_after o t = by_opcode (opcode a.request == 0x02) refl
    where
      f : Facts
      f = facts_of o t a

      by_refusal : (x : Option Answer) → refusal f.level f.unit a.request ≡ x → Parts (deed_marks o t a (elim x [ Some y ↦ Replies y | None ↦ function_deed f a.request ]))
      by_refusal None is = of_function o t
      by_refusal (Some y) is = of_reply (reply_of a.request y) (plain y (refused_plainly f a.request y is))
        where
          plain : (y : Answer) → is_parting y ≡ false → is_logout (reply_of a.request y) ≡ false
          plain (LogOut response) h = absurd (false≢true (sym h))
          plain (Reject reason) h = refl
          plain Pong h = refl
          plain _ h = refl

      by_opcode : (v : Bool) → (opcode a.request == 0x02) ≡ v → Parts (deed_marks o t a (deed_of f a.request))
      by_opcode true is = rw is (by_refusal (refusal f.level f.unit a.request) refl)
      by_opcode false is =
          through_deed (λ d. Parts (deed_marks o t a d)) f a.request (of_function o t) of_none (λ x. of_other (reply_on a (reply_of a.request x)) is refl) (λ unit. of_other (deed_marks o t a (Enter unit)) is refl) (λ closing. of_close o t closing is) (of_end o t is)

  -- ---- items

  apart_by : (v : Bool) → (v ≡ true → ⊥) → v ≡ false
  apart_by true never = absurd (never refl)
  apart_by false never = refl

  some_arrival : (x y : Arrival) → Some x ≡ Some y → x ≡ y
  some_arrival x y is = cc

  delivered : (ms : List Mark) → Parts ms → IsParting (Delivers a ∷ ms)
  delivered ms p = record {
    executes = λ is. (a, refl);
    closing = p.closing;
    logout = λ b is conn tag response found.
        subst (λ (x : Arrival). (opcode x.request == 0x02) ≡ false) (some_arrival a b is)
        (apart_by (opcode a.request == 0x02) (λ same. false≢true (sym (p.logout same conn (Logout tag response) found))));
  }

  executed : (ms : List Mark) → Parts ms → IsParting (Executes a ∷ ms)
  executed ms p = record {
    executes = λ is. (a, refl);
    closing = p.closing;
    logout = λ b is conn tag response found.
        subst (λ (x : Arrival). (opcode x.request == 0x02) ≡ false) (some_arrival a b is)
        (apart_by (opcode a.request == 0x02) (λ same. false≢true (sym (p.logout same conn (Logout tag response) found))));
  }

-- no request executes, and nothing is closed
idles : (item : List Mark) → executed_in item ≡ None → list_any closes_any item ≡ false → IsParting item
idles item none unclosed = record {
  executes = λ is. absurd (false≢true (sym unclosed ∙ is));
  closing = λ is. absurd (false≢true (sym unclosed ∙ is));
  logout = λ a is. absurd (let no : None ≡ Some a = sym none ∙ is in cc);
}

module _ (o : Setting) where
  waiting_parts : (t : Trace) (a : Arrival) → IsParting (waiting_item o t a)
  waiting_parts t a = by_tests (nat_lt (max_of o t + 1) a.number) (nat_lt (exp_of o t) a.number) (nat_le MOST_WAITING (waiting_on (connection_of a.request) t))
    where
      by_tests : (b c d : Bool)
          → IsParting (cond b (Executes a ∷ reply_on a (Task (itt a.request) 255)) (cond (not c) (execution o t (Executes a) a) (cond d (Executes a ∷ reply_on a (Reject 6 (header_of a.request))) (Waits a ∷ []))))
      by_tests true c d = executed a (reply_on a (Task (itt a.request) 255)) (of_reply a (Task (itt a.request) 255) refl)
      by_tests false false d = executed a (marks_after o ((Executes a ∷ []) ∷ t) a) (of_after a o ((Executes a ∷ []) ∷ t))
      by_tests false true true = executed a (reply_on a (Reject 6 (header_of a.request))) (of_reply a (Reject 6 (header_of a.request)) refl)
      by_tests false true false = idles (Waits a ∷ []) refl refl

  immediate_parts : (t : Trace) (a : Arrival) → IsParting (immediate_item o t a)
  immediate_parts t a = by_tests (opcode a.request == 0x02 && may_wait a.request) (refusal_of_function o a.request)
    where
      at_once : IsParting (execution o t (Executes a) a)
      at_once = executed a (marks_after o ((Executes a ∷ []) ∷ t) a) (of_after a o ((Executes a ∷ []) ∷ t))

      by_tests : (b : Bool) (x : Option Reply) → IsParting (cond b (elim x [ Some reply ↦ execution o t (Executes a) a | None ↦ waiting_item o t a ]) (execution o t (Executes a) a))
      by_tests true (Some reply) = at_once
      by_tests true None = waiting_parts t a
      by_tests false x = at_once

  function_parts : (t : Trace) (a : Arrival) → IsParting (function_item o t a)
  function_parts t a = executed a (function_marks o ((Executes a ∷ []) ∷ t) a) (of_function a o ((Executes a ∷ []) ∷ t))

  functions_part : (as' : List Arrival) (t : Trace) → EachOf IsParting (functions o as' t)
  functions_part [] t = tt
  functions_part (a ∷ as') t =
      elim (is_waiting a t) as (λ v. EachOf IsParting (let now : List (List Mark) = cond v (function_item o t a ∷ []) [] in now ++ functions o as' (after_items now t))) [
        | true ↦ (function_parts t a, functions_part as' (function_item o t a ∷ t))
        | false ↦ functions_part as' t
      ]

  functions_at_part : (n : ℕ) (t : Trace) → EachOf IsParting (functions_at o n t)
  functions_at_part n t = functions_part (filter (λ a. a.number == n) (waiting t)) t

  turn_parts : (n : ℕ) (t : Trace) → EachOf IsParting (turn_at o n t)
  turn_parts n t = elim (held t n) as (λ y. EachOf IsParting (elim y [ Some a ↦ item_of o t a ∷ [] | None ↦ [] ])) [
    | Some a ↦ (delivered a (marks_after o ((Delivers a ∷ []) ∷ t) a) (of_after a o ((Delivers a ∷ []) ∷ t)), tt)
    | None ↦ tt
  ]

  number_parts : (n : ℕ) (t : Trace) → EachOf IsParting (at_number o n t)
  number_parts n t = each-append IsParting (functions_at o n t) (turn_at o n (after_items (functions_at o n t) t)) (functions_at_part n t) (turn_parts n (after_items (functions_at o n t) t))

  agenda_parts : (n m : ℕ) (t : Trace) → EachOf IsParting (agenda o n m t)
  agenda_parts n zero t = functions_at_part n t
  agenda_parts n (suc m) t = each-append IsParting (at_number o n t) (agenda o (n + 1) m (after_items (at_number o n t) t)) (number_parts n t) (agenda_parts (n + 1) m (after_items (at_number o n t) t))

  turns_part : (t : Trace) (item : List Mark) → IsParting item → EachOf IsParting (with_turns o t item)
  turns_part t item p = (p, agenda_parts (exp_of o t) (exp_of o (item ∷ t) - exp_of o t) (item ∷ t))

  numbered_parts : (t : Trace) (a : Arrival) → EachOf IsParting (numbered o t a)
  numbered_parts t a = by_tests (nat_lt a.number (exp_of o t) || nat_lt (max_of o t) a.number) (is_received t a.number)
    where
      by_tests : (b c : Bool) → EachOf IsParting (cond b (ignored Outside) (cond c (ignored Duplicate) (with_turns o t (Admits a ∷ []))))
      by_tests true c = (idles (Ignores Outside ∷ []) refl refl, tt)
      by_tests false true = (idles (Ignores Duplicate ∷ []) refl refl, tt)
      by_tests false false = turns_part t (Admits a ∷ []) (idles (Admits a ∷ []) refl refl)

  arrival_parts : (t : Trace) (a : Arrival) → EachOf IsParting (arrival o t a)
  arrival_parts t a = by_closed (is_closed (connection_of a.request) t)
    where
      by_kind : (k : Kind) → EachOf IsParting (arrival_as o t a k)
      by_kind PassedOver = (idles (Ignores Data ∷ []) refl refl, tt)
      by_kind Unknown = (idles (reply_on a (Reject 5 (header_of a.request))) refl refl, tt)
      by_kind ExecutesKind = elim (is_immediate a.request) as (λ v. EachOf IsParting (cond v (with_turns o t (immediate_item o t a)) (numbered o t a))) [
        | true ↦ turns_part t (immediate_item o t a) (immediate_parts t a)
        | false ↦ numbered_parts t a
      ]

      by_closed : (v : Bool) → EachOf IsParting (cond v (ignored Closed) (arrival_open o t a))
      by_closed true = (idles (Ignores Closed ∷ []) refl refl, tt)
      by_closed false = by_kind (kind_of a.request)

  -- each item of an event
  pub event_parting : (now : ℕ) (t : Trace) (e : Event) → EachOf IsParting (items_of o now t e)
  event_parting now t (Arrive conn header) = arrival_parts t (arrival_of o now t (request_of conn header))
  event_parting now t (Done ticket status) =
      elim (command_of t ticket) as (λ y. EachOf IsParting (completion status y)) [
        | Some c ↦ (idles _ refl refl, tt)
        | None ↦ (idles (Ignores Stale ∷ []) refl refl, tt)
      ]
