-- Each item that a session gives fits the box in which it is taken.
use Rattle.std.proofs.Common.{◌≡◌, ◌<◌, ◌≤◌, ℕ, zero, suc, ◌+◌, ◌==◌, ◌&&◌, not, cond, nat_le, Bool, true, false, List, [], ◌∷◌, ◌++◌, map, filter, filter_map, length, Option, Some, None, refl, ap, sym, subst, ◌∙◌, arith, eq-eqb, ◌||◌}
use Rattle.std.specs.List.{list_any, range_with_len}
use Rattle.std.proofs.lemmas.Bool.{and_parts, false≢true, or_left, or_right}
use Rattle.std.proofs.lemmas.List.{append-nil, length-map, map-append}
use Rattle.iscsi_wire.specs.declared.reply.Reply.{Reply}
use Rattle.iscsi_wire.specs.declared.reply.Reply.TheVariants.{Scsi, Task as TaskReply, Logout, Nop, Reject}
use Rattle.iscsi_wire.specs.declared.request.Request.{Request}
use Rattle.iscsi_wire.specs.Fields.{connection_of, opcode, function, rtt}
use Rattle.iscsi_rules.specs.declared.effect.Effect.{Effect}
use Rattle.iscsi_rules.specs.declared.effect.Effect.TheVariants.{Deliver, Immediate, Wait, Void, Empty, Enter, Enable, Leave, Send, CloseConn, CloseSession, Ignore}
use Rattle.iscsi_rules.specs.rules.Settings.{is_known}
use Rattle.iscsi_rules.specs.rules.Trace.{Arrival, Command, Mark, Admits, Delivers, Executes, Voids, Empties, Waits, Leaves, Enters, Sends, ClosesConn, ClosesSession, Ignores, Trace, first_of, enters, entered, has, leaves_ticket, live, is_among, is_closed}
use Rattle.iscsi_rules.specs.rules.Execution.{unit_named}
use Rattle.iscsi_rules.specs.rules.Logout.{is_open}
use Rattle.iscsi_rules.specs.rules.Run.{newly_enabled, effects_of_item}
use Rattle.iscsi_rules.specs.promises.Replies.{executed_in}
use Rattle.iscsi_rules.proofs.promises.CloseLemmas.{is_at, Sound}
use Rattle.iscsi_rules.proofs.general.ElementLemmas.{in-filter}
use Rattle.iscsi_rules.proofs.items.Forms.{AtTurn, AtArrival, AfterWaiting, Deeds, Form, Ignored, Rejected, Received, Postponed, Completed, Executed, marks_of_form, Each, EntersAs, IsFormed, HasForm, HaveForms}
use Rattle.iscsi_rules.proofs.promises.LifeLemmas.{tickets_count}
use Rattle.iscsi_rules.proofs.promises.NumberingLemmas.{to_list}
use Rattle.iscsi_rules.proofs.items.TouchLemmas.{leaving_in, entering_in, enters_form, leaves_form, EntersNext, entering_next}
use Rattle.iscsi_outbox_rules.specs.rules.Calls.{Opening}
use Rattle.iscsi_outbox_rules.specs.rules.Boxes.{Task, Aim, AtTag, AtUnit, AtConns, Box}
use Rattle.iscsi_outbox_rules.specs.rules.Words.{contains}
use Rattle.iscsi_outbox_rules.specs.rules.Items.{executing, ticket_left, tickets_left, ticket_enabled, reply_sent, task_entered, phase_taken_out, phase_completed, phase_enabled, aim_of, after_item}
use Rattle.iscsi_outbox_rules.proofs.closes.ClosedItems.{send_of, sent_item}
use Rattle.iscsi_outbox_rules.proofs.room.RoomLives.{tickets_of, entered_form, left_marks, live_tickets_item}
use Rattle.iscsi_outbox_rules.proofs.room.RoomTasks.{live_after_item, ticket_entered, tickets_entered}
use Rattle.iscsi_outbox_rules.proofs.commands.TaskLives.{item_tasks, entered_tasks, left_tasks}
use Rattle.iscsi_outbox_law.specs.private.Pairs.{EachOf, InOrder}
use Rattle.iscsi_outbox_law.specs.private.Sound.{entries_of, entry_of, is_live_in, conn_closed, is_close, IsLogout, IsItemSound}
use Rattle.iscsi_outbox_law.proofs.general.PairLemmas.{each-weaken}
use Rattle.iscsi_outbox_law.proofs.general.Members.{any_from}
use Rattle.iscsi_outbox_law.proofs.invariants.SoundCalls.{each_member}
use Rattle.iscsi_outbox_law.proofs.invariants.SoundFirm.{has_home}
use Rattle.iscsi_outbox_law.proofs.invariants.SoundForms.{Follows, home_of_task, home_of_command, homes_turn, none_enabled, seen_marks, entry_shown, entry_seen, entries_shown, closing_shown, closing_seen, closes_shown, executing_as, Executing, executing_form, few_closes, live_command, among_tickets, live_task, homes_any, home_there}
use Rattle.iscsi_outbox_law.proofs.invariants.SoundParting.{closes_any, IsParting}
use Rattle.iscsi_outbox_law.proofs.invariants.SoundTaking.{IsItemFirm}
use Rattle.iscsi_outbox_law.proofs.invariants.SoundTurns.{phased, turn_phased, taken_out_left, completed_left, enabled_left}

-- ---- tickets go up

below_range : (a n : ℕ) → EachOf (λ (k : ℕ). k < a + n) (range_with_len a n)
below_range a zero = tt
below_range a (suc n) = ((let z : a < a + suc n = omega arith in z), each-weaken (λ (k : ℕ). k < (a + 1) + n) (λ (k : ℕ). k < a + suc n) (range_with_len (a + 1) n) (λ k lt. omega (arith, lt)) (below_range (a + 1) n))

tasks_below : (n : ℕ) (ts : List Task) → EachOf (λ (h : ℕ × ℕ). h.0 < n) (map home_of_task ts) → EachOf (λ (x : Task). x.ticket < n) ts
tasks_below n [] h = tt
tasks_below n (x ∷ ts) h = (h.0, tasks_below n ts h.1)

commands_below : (n : ℕ) (cs : List Command) → EachOf (λ (k : ℕ). k < n) (map (λ (c : Command). c.ticket) cs) → EachOf (λ (h : ℕ × ℕ). h.0 < n) (map home_of_command cs)
commands_below n [] h = tt
commands_below n (c ∷ cs) h = (h.0, commands_below n cs h.1)

-- ---- commands that enter

news_homes : (r : Request) (es : List Effect) → map home_of_task (filter_map (task_entered r) es) ≡ map (λ (k : ℕ). (k, connection_of r)) (filter_map ticket_entered es)
news_homes r [] = refl
news_homes r (Enter ticket unit attr ∷ es) = ap (λ (hs : List (ℕ × ℕ)). (ticket, connection_of r) ∷ hs) (news_homes r es)
news_homes r (Deliver q ∷ es) = news_homes r es
news_homes r (Immediate q ∷ es) = news_homes r es
news_homes r (Wait q ∷ es) = news_homes r es
news_homes r (Void sn ∷ es) = news_homes r es
news_homes r (Empty sn ∷ es) = news_homes r es
news_homes r (Enable ticket unit ∷ es) = news_homes r es
news_homes r (Leave ticket unit ∷ es) = news_homes r es
news_homes r (Send conn stat_sn reply ∷ es) = news_homes r es
news_homes r (CloseConn conn ∷ es) = news_homes r es
news_homes r (CloseSession ∷ es) = news_homes r es
news_homes r (Ignore why ∷ es) = news_homes r es

module _ (o : Opening) (t : Trace) (ts : List Task) where
  abbrev Entering : Form → Type 0
  Entering form =
      let es : List Effect = effects_of_item o.session t (marks_of_form form) in
      (map home_of_task (entered_tasks (executing es) es ts) ≡ map home_of_task ts ++ map home_of_command (filter_map enters (marks_of_form form)))

  none_enters : (form : Form) → executing (effects_of_item o.session t (marks_of_form form)) ≡ None → filter_map enters (marks_of_form form) ≡ [] → Entering form
  none_enters form none empty =
      ap (λ (x : Option Request). map home_of_task (entered_tasks x (effects_of_item o.session t (marks_of_form form)) ts)) none
      ∙ sym (append-nil (map home_of_task ts)) ∙ ap (λ (cs : List Command). map home_of_task ts ++ map home_of_command cs) (sym empty)

  some_enters : (form : Form) (a : Arrival) (y : Option Command) → executing (effects_of_item o.session t (marks_of_form form)) ≡ Some a.request → entering_in form ≡ y → Each (λ (c : Command). c.arrival ≡ a) y → Entering form
  some_enters form a y is entering from =
      let es : List Effect = effects_of_item o.session t (marks_of_form form) in
      ap (λ (x : Option Request). map home_of_task (entered_tasks x es ts)) is
      ∙ map-append home_of_task ts (filter_map (task_entered a.request) es)
      ∙ ap (λ (hs : List (ℕ × ℕ)). map home_of_task ts ++ hs)
      (news_homes a.request es
      ∙ ap (map (λ (k : ℕ). (k, connection_of a.request))) (sym (ap (λ (x : Option Request). tickets_entered x es) is) ∙ entered_form o.session t form ∙ ap tickets_of (enters_form form ∙ ap (λ (z : Option Command). to_list z) entering))
      ∙ by_entering y from
      ∙ ap (map home_of_command) (sym (enters_form form ∙ ap (λ (z : Option Command). to_list z) entering)))
    where
      by_entering : (z : Option Command) → Each (λ (c : Command). c.arrival ≡ a) z → map (λ (k : ℕ). (k, connection_of a.request)) (tickets_of (to_list z)) ≡ map home_of_command (to_list z)
      by_entering None k = refl
      by_entering (Some c) k = ap (λ (x : Arrival). (c.ticket, connection_of x.request) ∷ []) (sym k)

  none_at_all : (cs : List Command) → executing (map (λ (c : Command). Enable c.ticket c.unit) cs) ≡ None
  none_at_all [] = refl
  none_at_all (c ∷ cs) = refl

  -- a command that enters came with the request that executes
  came : (a : Arrival) (d : Deeds) (y : Option Command) → Each (EntersAs o.session t a d) y → Each (λ (c : Command). c.arrival ≡ a) y
  came a d None k = tt
  came a d (Some c) k = ap (λ (z : Command). z.arrival) k.next

  entering_homes : (now : ℕ) (form : Form) → IsFormed o.session now t form → Entering form
  entering_homes now (Ignored why) x = none_enters (Ignored why) refl refl
  entering_homes now (Rejected a) x = none_enters (Rejected a) refl refl
  entering_homes now (Received a) x = none_enters (Received a) (none_at_all (newly_enabled o.session t (marks_of_form (Received a)))) refl
  entering_homes now (Postponed a) x = none_enters (Postponed a) refl refl
  entering_homes now (Completed c status) x = none_enters (Completed c status) refl refl
  entering_homes now (Executed AtTurn a d) x = some_enters (Executed AtTurn a d) a d.entering refl refl (came a d d.entering x.1.enters)
  entering_homes now (Executed AtArrival a d) x = some_enters (Executed AtArrival a d) a d.entering refl refl (came a d d.entering x.1.enters)
  entering_homes now (Executed AfterWaiting a d) x = some_enters (Executed AfterWaiting a d) a d.entering refl refl (came a d d.entering x.1.enters)

left_homes : (r : Option Request) (tickets : List ℕ) (ts : List Task) → map home_of_task (left_tasks r tickets ts) ≡ map home_of_task ts
left_homes (Some r) tickets ts = homes_turn (phased phase_taken_out tickets) (turn_phased phase_taken_out tickets taken_out_left) ts
left_homes None tickets ts = homes_turn (phased phase_completed tickets) (turn_phased phase_completed tickets (λ p is. completed_left p ∙ is)) ts

-- a reply goes out on its connection
sent_at : (conn : ℕ) (reply : Reply) (ms : List Mark) → first_of (filter_map send_of ms) ≡ Some (conn, reply) → list_any (is_at conn) ms ≡ true
sent_at conn reply [] sent = absurd cc
sent_at conn reply (Sends k r ∷ ms) sent = or_left (k == conn) (list_any (is_at conn) ms) (eq-eqb k conn (ap (λ (y : Option (ℕ × Reply)). elim y [ Some x ↦ x.0 | None ↦ 0 ]) sent))
sent_at conn reply (Admits a ∷ ms) sent = or_right (is_at conn (Admits a)) (list_any (is_at conn) ms) (sent_at conn reply ms sent)
sent_at conn reply (Delivers a ∷ ms) sent = or_right (is_at conn (Delivers a)) (list_any (is_at conn) ms) (sent_at conn reply ms sent)
sent_at conn reply (Executes a ∷ ms) sent = or_right (is_at conn (Executes a)) (list_any (is_at conn) ms) (sent_at conn reply ms sent)
sent_at conn reply (Waits a ∷ ms) sent = or_right (is_at conn (Waits a)) (list_any (is_at conn) ms) (sent_at conn reply ms sent)
sent_at conn reply (Enters c ∷ ms) sent = or_right (is_at conn (Enters c)) (list_any (is_at conn) ms) (sent_at conn reply ms sent)
sent_at conn reply (Voids n ∷ ms) sent = sent_at conn reply ms sent
sent_at conn reply (Empties a ∷ ms) sent = sent_at conn reply ms sent
sent_at conn reply (Leaves c ∷ ms) sent = sent_at conn reply ms sent
sent_at conn reply (ClosesConn n ∷ ms) sent = sent_at conn reply ms sent
sent_at conn reply (ClosesSession ∷ ms) sent = sent_at conn reply ms sent
sent_at conn reply (Ignores why ∷ ms) sent = sent_at conn reply ms sent

-- ---- an item of a session

module _ (o : Opening) (b : Box) (t : Trace) (now next : ℕ) (forms : HaveForms o.session next t) (item : List Mark) (f : HasForm o.session now t item) (h : Follows b t) where
  pub follows_item : Follows (after_item o b (effects_of_item o.session t item)) (item ∷ t)
  follows_item = record {
    lives =
        let es : List Effect = effects_of_item o.session t item in
        live_after_item o b es ∙ ap (λ (ks : List ℕ). filter (λ k. not (contains (tickets_left es) k)) ks ++ tickets_entered (executing es) es) h.lives ∙ sym (live_tickets_item o.session now next t item forms f);
    homes =
        let es : List Effect = effects_of_item o.session t item in
        let left : List Task = left_tasks (executing es) (tickets_left es) b.tasks in
        ap (map home_of_task) (item_tasks o b es)
        ∙ homes_turn (phased phase_enabled (filter_map ticket_enabled es)) (turn_phased phase_enabled (filter_map ticket_enabled es) (λ p is. enabled_left p ∙ is)) (entered_tasks (executing es) es left)
        ∙ subst (λ (ms : List Mark). map home_of_task (entered_tasks (executing (effects_of_item o.session t ms)) (effects_of_item o.session t ms) left) ≡ map home_of_task left ++ map home_of_command (filter_map enters ms)) (sym f.is) (entering_homes o t left now f.form f.formed)
        ∙ ap (λ (hs : List (ℕ × ℕ)). hs ++ map home_of_command (filter_map enters item)) (left_homes (executing es) (tickets_left es) b.tasks ∙ h.homes)
        ∙ sym (map-append home_of_command (entered t) (filter_map enters item));
  }

  -- ---- commands

  goes : (k : ℕ) → contains (tickets_left (effects_of_item o.session t item)) k ≡ true → is_live_in b k ≡ true
  goes k among =
      let leaves : is_among k (leaving_in f.form) ≡ true = sym (left_marks o.session t k item (newly_enabled o.session t item) ∙ ap (list_any (leaves_ticket k)) f.is ∙ leaves_form k f.form) ∙ among in
      live_task b.tasks k (ap (λ (ks : List ℕ). contains ks k) h.lives ∙ among_tickets k (live t) ∙ live_command o.session now t f.form k f.formed leaves)

  left : EachOf (λ k. is_live_in b k ≡ true) (tickets_left (effects_of_item o.session t item))
  left = each_member (λ k. is_live_in b k ≡ true) (tickets_left (effects_of_item o.session t item)) (λ k at. goes k (any_from (λ (n : ℕ). n == k) (tickets_left (effects_of_item o.session t item)) k at (eq-eqb k k refl)))

  entries_are : entries_of (effects_of_item o.session t item) ≡ map (λ (c : Command). (c.ticket, c.unit)) (to_list (entering_in f.form))
  entries_are =
      seen_marks o.session t entry_of entry_shown (entry_seen o.session t) (λ k u. refl) item (newly_enabled o.session t item)
      ∙ entries_shown item ∙ ap (map (λ (c : Command). (c.ticket, c.unit))) (ap (filter_map enters) f.is ∙ enters_form f.form)

  old : EachOf (λ (x : Task). x.ticket < 1 + length (entered t)) b.tasks
  old =
      tasks_below (1 + length (entered t)) b.tasks
      (subst (EachOf (λ (y : ℕ × ℕ). y.0 < 1 + length (entered t))) (sym h.homes)
      (commands_below (1 + length (entered t)) (entered t) (subst (EachOf (λ (k : ℕ). k < 1 + length (entered t))) (sym (tickets_count o.session t next forms)) (below_range 1 (length (entered t))))))

  entering : EachOf (λ (e : ℕ × ℕ). EachOf (λ (x : Task). x.ticket < e.0) b.tasks × (e.1 < o.session.units)) (entries_of (effects_of_item o.session t item))
  entering =
      subst (EachOf (λ (e : ℕ × ℕ). EachOf (λ (x : Task). x.ticket < e.0) b.tasks × (e.1 < o.session.units))) (sym entries_are)
      (by_entering (entering_in f.form) (entering_next o.session now t f.form f.formed))
    where
      by_entering : (y : Option Command) → Each (EntersNext o.session t f.form) y → EachOf (λ (e : ℕ × ℕ). EachOf (λ (x : Task). x.ticket < e.0) b.tasks × (e.1 < o.session.units)) (map (λ (c : Command). (c.ticket, c.unit)) (to_list y))
      by_entering None e = tt
      by_entering (Some c) e = ((each-weaken (λ (x : Task). x.ticket < 1 + length (entered t)) (λ (x : Task). x.ticket < c.ticket) b.tasks (λ x lt. (let at = e.next in omega (arith, lt, at))) old, e.below), tt)

  ascending : InOrder (λ (d e : ℕ × ℕ). d.0 < e.0) (entries_of (effects_of_item o.session t item))
  ascending = subst (InOrder (λ (d e : ℕ × ℕ). d.0 < e.0)) (sym entries_are) (by_entering (entering_in f.form))
    where
      by_entering : (y : Option Command) → InOrder (λ (d e : ℕ × ℕ). d.0 < e.0) (map (λ (c : Command). (c.ticket, c.unit)) (to_list y))
      by_entering None = tt
      by_entering (Some c) = (tt, tt)

  next_ticket : EachOf (λ (e : ℕ × ℕ). e.0 ≡ 1 + length b.tasks) (entries_of (effects_of_item o.session t item))
  next_ticket = subst (EachOf (λ (e : ℕ × ℕ). e.0 ≡ 1 + length b.tasks)) (sym entries_are) (by_entering (entering_in f.form) (entering_next o.session now t f.form f.formed))
    where
      as_many : length b.tasks ≡ length (entered t)
      as_many = sym (length-map b.tasks home_of_task) ∙ ap length h.homes ∙ length-map (entered t) home_of_command

      by_entering : (y : Option Command) → Each (EntersNext o.session t f.form) y → EachOf (λ (e : ℕ × ℕ). e.0 ≡ 1 + length b.tasks) (map (λ (c : Command). (c.ticket, c.unit)) (to_list y))
      by_entering None e = tt
      by_entering (Some c) e = ((let at = e.next in let same = as_many in omega (arith, at, same)), tt)

  -- ---- the request that executes

  executes : (r : Request) → executing (effects_of_item o.session t item) ≡ Some r → Executing f.form r
  executes r is = executing_form o.session t f.form r (ap (λ (ms : List Mark). executing (effects_of_item o.session t ms)) (sym f.is) ∙ is)

  known : Sound o.session t item → (r : Request) → executing (effects_of_item o.session t item) ≡ Some r → is_known (connection_of r) o.session.conns ≡ true
  known sound r is = by_open (is_open o.session t (connection_of r)) refl
    where
      by_open : (v : Bool) → is_open o.session t (connection_of r) ≡ v → is_known (connection_of r) o.session.conns ≡ true
      by_open true there = (and_parts (is_known (connection_of r) o.session.conns) (not (is_closed (connection_of r) t)) there).0
      by_open false shut = absurd (false≢true (sym (sound.on_open (connection_of r) shut) ∙ ap (list_any (is_at (connection_of r))) f.is ∙ (executes r is).there))

  replies : Sound o.session t item → (conn : ℕ) (reply : Reply) → first_of (filter_map reply_sent (effects_of_item o.session t item)) ≡ Some (conn, reply) → is_known conn o.session.conns ≡ true
  replies sound conn reply sent = by_open (is_open o.session t conn) refl
    where
      by_open : (v : Bool) → is_open o.session t conn ≡ v → is_known conn o.session.conns ≡ true
      by_open true there = (and_parts (is_known conn o.session.conns) (not (is_closed conn t)) there).0
      by_open false shut = absurd (false≢true (sym (sound.on_open conn shut) ∙ sent_at conn reply item (ap first_of (sym (sent_item o.session t item)) ∙ sent)))

  -- ---- closing

  one_close : length (filter_map conn_closed (effects_of_item o.session t item)) ≤ 1
  one_close =
      subst (λ (ns : List ℕ). length ns ≤ 1)
      (sym (seen_marks o.session t conn_closed closing_shown (closing_seen o.session t) (λ k u. refl) item (newly_enabled o.session t item) ∙ ap (filter_map closing_shown) f.is)) (few_closes f.form)

  module _ (p : IsParting item) where
    closing : (conn : ℕ) (reply : Reply) → first_of (filter_map reply_sent (effects_of_item o.session t item)) ≡ Some (conn, reply) → list_any is_close (effects_of_item o.session t item) ≡ true
        → (r : Request) × (executing (effects_of_item o.session t item) ≡ Some r) × IsLogout o r reply
    closing conn reply sent closed =
        let closed' : list_any closes_any item ≡ true = sym (closes_shown o.session t item (newly_enabled o.session t item)) ∙ closed in
        let a : (x : Arrival) × _ = p.executes closed' in
        (a.0.request, executing_as o.session t item a.0 a.1, ap (aim_of o a.0.request) (p.closing closed' conn reply (ap first_of (sym (sent_item o.session t item)) ∙ sent)).1)

    logout : (r : Request) (conn : ℕ) (reply : Reply) → executing (effects_of_item o.session t item) ≡ Some r → first_of (filter_map reply_sent (effects_of_item o.session t item)) ≡ Some (conn, reply)
        → IsLogout o r reply → (opcode r == 0x02) ≡ false
    logout r conn (Logout tag response) is sent aimed =
        let x : Executing f.form r = executes r is in
        subst (λ (q : Request). (opcode q == 0x02) ≡ false) x.request
        (p.logout x.arrival (ap executed_in f.is ∙ x.executes) conn tag response (ap first_of (sym (sent_item o.session t item)) ∙ sent))
    logout r conn (TaskReply tag response) is sent aimed =
        absurd (by_tests (opcode r == 0x02 && function r == 1 && nat_le response 1) (opcode r == 0x02 && (function r == 2 || function r == 4 || function r == 5) && response == 0) (unit_named o.session.units r) aimed)
      where
        by_tests : (c d : Bool) (x : Option ℕ)
            → cond {A = Option Aim} c (elim x as (λ (y : Option ℕ). Option Aim) [ Some unit ↦ Some (AtTag (rtt r) unit) | None ↦ None ]) (cond {A = Option Aim} d (elim x as (λ (y : Option ℕ). Option Aim) [ Some unit ↦ Some (AtUnit unit) | None ↦ None ]) None) ≡ Some AtConns → ⊥
        by_tests true d (Some unit) e = absurd cc
        by_tests true d None e = absurd cc
        by_tests false true (Some unit) e = absurd cc
        by_tests false true None e = absurd cc
        by_tests false false x e = absurd cc
    logout r conn (Scsi tag status sense) is sent aimed = absurd cc
    logout r conn (Nop tag) is sent aimed = absurd cc
    logout r conn (Reject reason header) is sent aimed = absurd cc

    pub item_sound : Sound o.session t item → IsItemSound o b (effects_of_item o.session t item)
    item_sound sound = record { left = left; entered = entering; ascending = ascending; next = next_ticket; known = known sound; replies = replies sound; one_close = one_close; closing = closing; logout = logout }

  -- ---- a completion

  none_left : (cs : List Command) (k : ℕ) → first_of (tickets_left (map (λ (c : Command). Enable c.ticket c.unit) cs)) ≡ Some k → ⊥
  none_left cs k is = let no : None ≡ Some k = sym (ap first_of (none_enabled ticket_left (λ n u. refl) cs)) ∙ is in absurd cc

  home_form : (form : Form) → IsFormed o.session now t form → executing (effects_of_item o.session t (marks_of_form form)) ≡ None → (k conn : ℕ) (reply : Reply)
      → first_of (tickets_left (effects_of_item o.session t (marks_of_form form))) ≡ Some k → first_of (filter_map reply_sent (effects_of_item o.session t (marks_of_form form))) ≡ Some (conn, reply) → has_home b.tasks conn k ≡ true
  home_form (Ignored why) x none k conn reply first sent = absurd (none_left (newly_enabled o.session t (marks_of_form (Ignored why))) k first)
  home_form (Rejected a) x none k conn reply first sent = absurd (none_left (newly_enabled o.session t (marks_of_form (Rejected a))) k first)
  home_form (Received a) x none k conn reply first sent = absurd (none_left (newly_enabled o.session t (marks_of_form (Received a))) k first)
  home_form (Postponed a) x none k conn reply first sent = absurd (none_left (newly_enabled o.session t (marks_of_form (Postponed a))) k first)
  home_form (Completed c status) x none k conn reply first sent =
      let ticket : c.ticket ≡ k = same_number c.ticket k first in
      let on : connection_of c.arrival.request ≡ conn = ap (λ (y : Option (ℕ × Reply)). elim y [ Some s ↦ s.0 | None ↦ 0 ]) sent in
      let there = in-filter (λ (d : Command). not (has (leaves_ticket d.ticket) t)) (entered t) c x in
      subst (λ (n : ℕ). has_home b.tasks conn n ≡ true) ticket
      (subst (λ (n : ℕ). has_home b.tasks n c.ticket ≡ true) on
      (sym (homes_any b.tasks (connection_of c.arrival.request) c.ticket) ∙ ap (list_any (λ (y : ℕ × ℕ). y.0 == c.ticket && y.1 == connection_of c.arrival.request)) h.homes ∙ home_there (entered t) c there.0))
    where
      same_number : (m n : ℕ) → Some m ≡ Some n → m ≡ n
      same_number m n is = cc
  home_form (Executed AtTurn a d) x none k conn reply first sent = absurd (let no : Some a.request ≡ None = none in cc)
  home_form (Executed AtArrival a d) x none k conn reply first sent = absurd (let no : Some a.request ≡ None = none in cc)
  home_form (Executed AfterWaiting a d) x none k conn reply first sent = absurd (let no : Some a.request ≡ None = none in cc)

  pub item_firm : Sound o.session t item → IsItemFirm o b (effects_of_item o.session t item)
  item_firm sound = record {
    left = left;
    later = each-weaken (λ (e : ℕ × ℕ). EachOf (λ (x : Task). x.ticket < e.0) b.tasks × (e.1 < o.session.units)) (λ (e : ℕ × ℕ). EachOf (λ (x : Task). x.ticket < e.0) b.tasks) (entries_of (effects_of_item o.session t item)) (λ e k. k.0) entering;
    ascending = ascending;
    known = known sound;
    home = subst (λ (ms : List Mark). executing (effects_of_item o.session t ms) ≡ None → (k conn : ℕ) (reply : Reply)
        → first_of (tickets_left (effects_of_item o.session t ms)) ≡ Some k → first_of (filter_map reply_sent (effects_of_item o.session t ms)) ≡ Some (conn, reply) → has_home b.tasks conn k ≡ true) (sym f.is) (home_form f.form f.formed);
  }
