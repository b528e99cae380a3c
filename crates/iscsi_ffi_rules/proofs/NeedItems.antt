-- What the items of an event do to a session and its outbox: a request that isn't needed isn't needed then.
use Rattle.std.proofs.Common.{◌≡◌, ℕ, zero, suc, ◌+◌, ◌<◌, ◌==◌, ◌&&◌, ◌||◌, not, cond, Bool, true, false, List, [], ◌∷◌, ◌++◌, map, filter, filter_map, length, Option, Some, None, refl, ap, sym, subst, ◌∙◌, arith, eq-eqb, length-append}
use Rattle.std.specs.List.{list_any, flat_map}
use Rattle.std.proofs.lemmas.Bool.{false≢true, cond_both}
use Rattle.std.proofs.lemmas.List.{append_assoc, append-nil}
use Rattle.iscsi_wire.specs.declared.reply.Reply.{Reply}
use Rattle.iscsi_wire.specs.declared.request.Request.{Request}
use Rattle.iscsi_wire.specs.Fields.{connection_of}
use Rattle.iscsi_wire.specs.Serial.{lift}
use Rattle.iscsi_rules.specs.declared.effect.Effect.{Effect}
use Rattle.iscsi_rules.specs.declared.event.Event.{Event}
use Rattle.iscsi_rules.specs.rules.Settings.{Setting}
use Rattle.iscsi_rules.specs.rules.Trace.{Command, Mark, Admits, Delivers, Executes, Voids, Empties, Waits, Leaves, Enters, Sends, ClosesConn, ClosesSession, Ignores, Trace, after_items, first_of, has, enters, entered, leaves_ticket, live}
use Rattle.iscsi_rules.specs.rules.Agenda.{items_of}
use Rattle.iscsi_rules.specs.rules.Run.{effects_of_item, newly_enabled, entry_of, after_event}
use Rattle.iscsi_rules.specs.promises.Order.{in_parts}
use Rattle.iscsi_rules.specs.promises.Replies.{reply_sent}
use Rattle.iscsi_rules.proofs.general.BoolLemmas.{or_none, or_first}
use Rattle.iscsi_rules.proofs.general.ListLemmas.{any_filter, list_any-map}
use Rattle.iscsi_rules.proofs.items.Forms.{Start, AtTurn, AtArrival, AfterWaiting, start_mark, if_some, marks_done, Form, Ignored, Rejected, Received, Postponed, Completed, Executed, marks_of_form, IsFormed, HasForm, HaveForms}
use Rattle.iscsi_rules.proofs.items.FormRuns.{event_going}
use Rattle.iscsi_rules.proofs.promises.MomentLemmas.{left_unlive}
use Rattle.iscsi_rules.proofs.promises.ReplyForms.{replies_seen}
use Rattle.iscsi_outbox_rules.specs.rules.Calls.{Opening}
use Rattle.iscsi_outbox_rules.specs.rules.Boxes.{Phase, Dormant, Fresh, Started, Completed as CompletedPhase, Running, Gone, Task, Aim, Answer, Link, Box}
use Rattle.iscsi_outbox_rules.specs.rules.Words.{contains, is_live_phase, is_running_phase, is_running}
use Rattle.iscsi_outbox_rules.specs.rules.Queues.{at_link, takes_more, enter, drop_on}
use Rattle.iscsi_outbox_rules.specs.rules.Due.{is_due, settle_from}
use Rattle.iscsi_outbox_rules.specs.rules.Items.{executing, tickets_left, ticket_enabled, closed_in, newly_closed, phase_taken_out, phase_completed, phase_enabled, phase_told, task_entered, in_phase, leave, enter_tasks, close_one, close_all, close, outgoing, answer, send_as, aim, send, after_item}
use Rattle.iscsi_outbox_rules.specs.rules.Items.{reply_sent as effect_reply, after_items as items_taken, after_event as event_taken}
use Rattle.iscsi_outbox_rules.specs.promises.Scope.{nth}
use Rattle.iscsi_outbox_rules.proofs.general.EachLemmas.{EachOf}
use Rattle.iscsi_outbox_rules.proofs.closes.ClosedParts.{effects_each, Parts, event_parts}
use Rattle.iscsi_outbox_rules.proofs.closes.ClosedItems.{send_of, sent_item}
use Rattle.iscsi_outbox_rules.proofs.room.RoomLives.{left_marks, live_tickets_item, forms_below, SameLive}
use Rattle.iscsi_outbox_rules.proofs.room.RoomTasks.{live_tickets, live_same, same_told, tickets_entered, live_after_item}
use Rattle.iscsi_outbox_rules.proofs.commands.TaskLives.{left_tasks, entered_tasks, item_tasks, dormant}
use Rattle.iscsi_outbox_rules.proofs.general.TaskWalks.{phased}
use Rattle.iscsi_ffi_rules.specs.rules.Needs.{is_of_event, is_live, runs, is_ticket_of}
use Rattle.iscsi_ffi_rules.specs.rules.Happening.{answered_event, answers_in}
use Rattle.iscsi_ffi_rules.proofs.EventForms.{Formed, event_formed}
use Rattle.iscsi_ffi_rules.proofs.BoxOuts.{OfBox, of_both, of_item, Sending}
use Rattle.iscsi_ffi_rules.proofs.NeedForms.{Out, any_none, any_none_of_two, both_none, entering_other, answered_other, out_more, left_other, ticket_more}

-- ---- the replies of an item

same_replies : (ms : List Mark) → filter_map reply_sent ms ≡ map {B = Reply} (λ (s : ℕ × Reply). s.1) (filter_map send_of ms)
same_replies [] = refl
same_replies (Admits a ∷ ms) = same_replies ms
same_replies (Delivers a ∷ ms) = same_replies ms
same_replies (Executes a ∷ ms) = same_replies ms
same_replies (Voids n ∷ ms) = same_replies ms
same_replies (Empties a ∷ ms) = same_replies ms
same_replies (Waits a ∷ ms) = same_replies ms
same_replies (Leaves c ∷ ms) = same_replies ms
same_replies (Enters c ∷ ms) = same_replies ms
same_replies (Sends conn reply ∷ ms) = ap (λ rs. reply ∷ rs) (same_replies ms)
same_replies (ClosesConn conn ∷ ms) = same_replies ms
same_replies (ClosesSession ∷ ms) = same_replies ms
same_replies (Ignores why ∷ ms) = same_replies ms

-- no reply, or one
data OneMost (xs : List (ℕ × Reply)) : Type 0 where
  Nought : xs ≡ [] → OneMost xs
  Single : (s : ℕ × Reply) → xs ≡ s ∷ [] → OneMost xs

one_reply : (form : Form) → OneMost (filter_map send_of (marks_of_form form))
one_reply (Ignored why) = Nought refl
one_reply (Rejected a) = Single _ refl
one_reply (Received a) = Nought refl
one_reply (Postponed a) = Nought refl
one_reply (Completed c status) = Single _ refl
one_reply (Executed start a d) = by_start start
  where
    by_reply : (x : Option Reply) → OneMost (filter_map send_of (if_some (Sends (connection_of a.request)) x))
    by_reply None = Nought refl
    by_reply (Some reply) = Single _ refl

    done : OneMost (filter_map send_of (marks_done a d))
    done = subst OneMost (sym (replies_seen send_of (λ n. refl) (λ c. refl) (λ b. refl) (λ c. refl) (λ conn. refl) refl a d)) (by_reply d.reply)

    by_start : (s : Start) → OneMost (filter_map send_of (start_mark s a ∷ marks_done a d))
    by_start AtTurn = done
    by_start AtArrival = done
    by_start AfterWaiting = done

-- what an item sends, in its effects and as an answer
data Sent (o : Setting) (now : ℕ) (t : Trace) (item : List Mark) : Type 0 where
  Silent : first_of (filter_map effect_reply (effects_of_item o t item)) ≡ None → answers_in now item ≡ [] → Sent o now t item
  Speaks : (s : ℕ × Reply) → first_of (filter_map effect_reply (effects_of_item o t item)) ≡ Some s → answers_in now item ≡ answered_event now item ∷ [] → Sent o now t item

sent_in : (o : Setting) (now : ℕ) (t : Trace) (item : List Mark) → HasForm o now t item → Sent o now t item
sent_in o now t item f = by_most (subst (λ ms. OneMost (filter_map send_of ms)) (sym f.is) (one_reply f.form))
  where
    by_most : OneMost (filter_map send_of item) → Sent o now t item
    by_most (Nought is) =
        Silent (ap first_of (sent_item o t item) ∙ ap first_of is)
        (ap (map (λ (r : Reply). answered_event now item)) (same_replies item) ∙ ap (λ xs. map (λ (r : Reply). answered_event now item) (map {B = Reply} (λ (s : ℕ × Reply). s.1) xs)) is)
    by_most (Single s is) =
        Speaks s (ap first_of (sent_item o t item) ∙ ap first_of is)
        (ap (map (λ (r : Reply). answered_event now item)) (same_replies item) ∙ ap (λ xs. map (λ (r : Reply). answered_event now item) (map {B = Reply} (λ (s : ℕ × Reply). s.1) xs)) is)

-- ---- how many replies the box counts

settled_sent : (o : Opening) (before rest : List Answer) (b : Box) → (settle_from o before rest b).sent ≡ b.sent
settled_sent o before [] b = refl
settled_sent o before (a ∷ rest) b =
    cond_both (is_due o b before a) (settle_from o before rest (enter a.conn a.out b)) (settle_from o (before ++ a ∷ []) rest b) (λ (x : Box). x.sent ≡ b.sent)
    (λ due. settled_sent o before rest (enter a.conn a.out b)) (λ undue. settled_sent o (before ++ a ∷ []) rest b)

closed_one_sent : (by conn : ℕ) (b : Box) → (close_one by conn b).sent ≡ b.sent
closed_one_sent by conn b =
    cond_both (conn == by) (record b { links = at_link conn (λ l. record l { closed = true }) b.links }) (drop_on conn (record b { links = at_link conn (λ l. record l { closed = true; cut = true }) b.links })) (λ (x : Box). x.sent ≡ b.sent) (λ is. refl) (λ is. refl)

closed_all_sent : (by : ℕ) (conns : List ℕ) (b : Box) → (close_all by conns b).sent ≡ b.sent
closed_all_sent by [] b = refl
closed_all_sent by (conn ∷ conns) b = closed_all_sent by conns (close_one by conn b) ∙ closed_one_sent by conn b

closed_sent : (r : Option Request) (conns : List ℕ) (b : Box) → (close r conns b).sent ≡ b.sent
closed_sent (Some r) conns b = closed_all_sent (connection_of r) conns b
closed_sent None conns b = refl

moved_sent : (r : Option Request) (tickets : List ℕ) (item : List Effect) (b : Box) → (enter_tasks r item (leave r tickets b)).sent ≡ b.sent
moved_sent (Some r) tickets item b = refl
moved_sent None tickets item b = refl

abbrev counts : Option (ℕ × Reply) → ℕ
counts (Some s) = 1
counts None = 0

send_sent : (o : Opening) (r : Option Request) (tickets conns closes : List ℕ) (x : Option (ℕ × Reply)) (b : Box) → (send o r tickets conns closes x b).sent ≡ b.sent + counts x
send_sent o r tickets conns closes None b = omega arith
send_sent o None tickets conns closes (Some s) b = refl
send_sent o (Some r) tickets conns closes (Some s) b = by_aim (aim o (Some r) s.1)
  where
    by_aim : (about : Option Aim) → (send_as o (Some r) about conns closes s.0 (outgoing b (Some r) tickets s.1) b).sent + 1 ≡ b.sent + 1
    by_aim None = refl
    by_aim (Some about) =
        let a : Answer = answer o b r conns closes s.0 (outgoing b (Some r) tickets s.1) about in
        cond_both (list_any (λ (l : Link). l.conn == a.conn && takes_more l) b.links) (record b { undue = b.undue ++ a ∷ [] }) b (λ (y : Box). y.sent + 1 ≡ b.sent + 1) (λ may. refl) (λ may. refl)

-- before it sends
abbrev before_sending : Box → List Effect → Box
before_sending b item = close (executing item) (newly_closed b (closed_in b item)) (enter_tasks (executing item) item (leave (executing item) (tickets_left item) b))

before_sent : (b : Box) (item : List Effect) → (before_sending b item).sent ≡ b.sent
before_sent b item = closed_sent (executing item) (newly_closed b (closed_in b item)) (enter_tasks (executing item) item (leave (executing item) (tickets_left item) b)) ∙ moved_sent (executing item) (tickets_left item) item b

item_sent : (o : Opening) (b : Box) (item : List Effect) → (after_item o b item).sent ≡ b.sent + counts (first_of (filter_map effect_reply item))
item_sent o b item =
    let r = executing item in
    let tickets = tickets_left item in
    let conns = closed_in b item in
    let closes = newly_closed b conns in
    let x : Option (ℕ × Reply) = first_of (filter_map effect_reply item) in
    let sent : Box = in_phase phase_enabled (filter_map ticket_enabled item) (send o r tickets conns closes x (before_sending b item)) in
    settled_sent o [] sent.undue sent ∙ send_sent o r tickets conns closes x (before_sending b item) ∙ ap (λ n. n + counts x) (before_sent b item)

-- ---- commands that run

abbrev runs_as : ℕ → Task → Bool
runs_as k x = x.ticket == k && is_running_phase x.phase

-- live, or running
abbrev goes_as : ℕ → Task → Bool
goes_as k x = x.ticket == k && (is_live_phase x.phase || is_running_phase x.phase)

and_never : (b : Bool) → (b && false) ≡ false
and_never true = refl
and_never false = refl

none_by_phase : (b c d : Bool) → (c ≡ false → d ≡ false) → (b && c) ≡ false → (b && d) ≡ false
none_by_phase true c d turns h = turns h
none_by_phase false c d turns h = refl

out_goes : (p : Phase) → (is_live_phase p || is_running_phase p) ≡ false → (is_live_phase (phase_taken_out p) || is_running_phase (phase_taken_out p)) ≡ false
out_goes Dormant h = absurd (false≢true (sym h))
out_goes Fresh h = absurd (false≢true (sym h))
out_goes Started h = absurd (false≢true (sym h))
out_goes CompletedPhase h = refl
out_goes Running h = absurd (false≢true (sym h))
out_goes Gone h = refl

completed_goes : (p : Phase) → (is_live_phase p || is_running_phase p) ≡ false → (is_live_phase (phase_completed p) || is_running_phase (phase_completed p)) ≡ false
completed_goes Dormant h = refl
completed_goes Fresh h = refl
completed_goes Started h = refl
completed_goes CompletedPhase h = refl
completed_goes Running h = absurd (false≢true (sym h))
completed_goes Gone h = refl

enabled_runs : (p : Phase) → is_running_phase p ≡ false → is_running_phase (phase_enabled p) ≡ false
enabled_runs Dormant h = refl
enabled_runs Fresh h = refl
enabled_runs Started h = refl
enabled_runs CompletedPhase h = refl
enabled_runs Running h = h
enabled_runs Gone h = refl

told_runs : (p : Phase) → is_running_phase p ≡ false → is_running_phase (phase_told p) ≡ false
told_runs Dormant h = refl
told_runs Fresh h = refl
told_runs Started h = refl
told_runs CompletedPhase h = refl
told_runs Running h = h
told_runs Gone h = refl

module _ (k : ℕ) where
  none_phased : (test : Phase → Bool) (change : Phase → Phase) → ((p : Phase) → test p ≡ false → test (change p) ≡ false) → (tickets : List ℕ) (ts : List Task)
      → list_any (λ (x : Task). x.ticket == k && test x.phase) ts ≡ false → list_any (λ (x : Task). x.ticket == k && test x.phase) (map (phased change tickets) ts) ≡ false
  none_phased test change turns tickets ts none =
      list_any-map (λ (x : Task). x.ticket == k && test x.phase) (phased change tickets) ts
      ∙ any_none (λ (x : Task). x.ticket == k && test x.phase) (λ (x : Task). (phased change tickets x).ticket == k && test (phased change tickets x).phase) ts
      (λ x h. cond_both (contains tickets x.ticket) (record x { phase = change x.phase }) x (λ (y : Task). (y.ticket == k && test y.phase) ≡ false) (λ is. none_by_phase (x.ticket == k) (test x.phase) (test (change x.phase)) (turns x.phase) h) (λ is. h)) none

  none_left : (r : Option Request) (tickets : List ℕ) (ts : List Task) → list_any (goes_as k) ts ≡ false → list_any (goes_as k) (left_tasks r tickets ts) ≡ false
  none_left (Some r) tickets ts none = none_phased (λ p. is_live_phase p || is_running_phase p) phase_taken_out out_goes tickets ts none
  none_left None tickets ts none = none_phased (λ p. is_live_phase p || is_running_phase p) phase_completed completed_goes tickets ts none

  none_dormant : (ts : List Task) → EachOf (λ (x : Task). x.phase ≡ Dormant) ts → list_any (runs_as k) ts ≡ false
  none_dormant [] h = refl
  none_dormant (x ∷ ts) h = ap (λ b. b || list_any (runs_as k) ts) (ap (λ p. x.ticket == k && is_running_phase p) h.0 ∙ and_never (x.ticket == k)) ∙ none_dormant ts h.1

  none_entered : (r : Option Request) (item : List Effect) (ts : List Task) → list_any (runs_as k) ts ≡ false → list_any (runs_as k) (entered_tasks r item ts) ≡ false
  none_entered (Some r) item ts none = both_none (runs_as k) ts (filter_map (task_entered r) item) none (none_dormant (filter_map (task_entered r) item) (dormant r item))
  none_entered None item ts none = none

  none_goes : (b : Box) → is_running b k ≡ false → contains (live_tickets b.tasks) k ≡ false → list_any (goes_as k) b.tasks ≡ false
  none_goes b unrun unlive =
      any_none_of_two (runs_as k) (λ (x : Task). is_live_phase x.phase && x.ticket == k) (goes_as k) b.tasks
      (λ x h g. by_tests (x.ticket == k) (is_live_phase x.phase) (is_running_phase x.phase) h g) unrun
      (sym (any_filter (λ (x : Task). x.ticket == k) (λ (x : Task). is_live_phase x.phase) b.tasks)
      ∙ sym (list_any-map (λ n. n == k) (λ (x : Task). x.ticket) (filter (λ (x : Task). is_live_phase x.phase) b.tasks)) ∙ unlive)
    where
      by_tests : (a l r : Bool) → (a && r) ≡ false → (l && a) ≡ false → (a && (l || r)) ≡ false
      by_tests true true r h g = absurd (false≢true (sym g))
      by_tests true false r h g = h
      by_tests false l r h g = refl

  -- one that neither runs nor is live doesn't run after an item
  unrun_item : (o : Opening) (b : Box) (item : List Effect) → is_running b k ≡ false → contains (live_tickets b.tasks) k ≡ false → is_running (after_item o b item) k ≡ false
  unrun_item o b item unrun unlive =
      ap (list_any (runs_as k)) (item_tasks o b item)
      ∙ none_phased is_running_phase phase_enabled enabled_runs (filter_map ticket_enabled item) (entered_tasks (executing item) item (left_tasks (executing item) (tickets_left item) b.tasks))
      (none_entered (executing item) item (left_tasks (executing item) (tickets_left item) b.tasks)
      (any_none (goes_as k) (runs_as k) (left_tasks (executing item) (tickets_left item) b.tasks)
      (λ x h. none_by_phase (x.ticket == k) (is_live_phase x.phase || is_running_phase x.phase) (is_running_phase x.phase) (λ g. (or_none (is_live_phase x.phase) (is_running_phase x.phase) g).1) h)
      (none_left (executing item) (tickets_left item) b.tasks (none_goes b unrun unlive))))

  unrun_told : (ts : List Task) → list_any (runs_as k) ts ≡ false → list_any (runs_as k) (map (λ (x : Task). record x { phase = phase_told x.phase }) ts) ≡ false
  unrun_told ts none =
      list_any-map (runs_as k) (λ (x : Task). record x { phase = phase_told x.phase }) ts
      ∙ any_none (runs_as k) (λ (x : Task). x.ticket == k && is_running_phase (phase_told x.phase)) ts (λ x h. none_by_phase (x.ticket == k) (is_running_phase x.phase) (is_running_phase (phase_told x.phase)) (told_runs x.phase) h) none

-- ---- PDUs

-- one with this place and ticket is about the request of the event
abbrev pub about : ℕ → Trace → List ℕ → Option ℕ → Option ℕ → Bool
about v t answers sent ticket =
    elim sent [ Some place ↦ elim (nth place answers) [ Some e ↦ e == v | None ↦ false ] | None ↦ false ]
    || elim ticket [ Some k ↦ is_ticket_of v t k | None ↦ false ]

abbrev pub Below : ℕ → Option ℕ → Option ℕ → Type 0
Below n sent ticket = (place : ℕ) → sent ≡ Some place → place < n

nth_first : (xs ys : List ℕ) (n : ℕ) → n < length xs → nth n (xs ++ ys) ≡ nth n xs
nth_first [] ys n h = absurd (omega arith)
nth_first (x ∷ xs) ys zero h = refl
nth_first (x ∷ xs) ys (suc n) h = nth_first xs ys n (omega arith)

nth_last : (xs : List ℕ) (x : ℕ) → nth (length xs) (xs ++ x ∷ []) ≡ Some x
nth_last [] x = refl
nth_last (y ∷ xs) x = nth_last xs x

first_contained : (ks : List ℕ) (k : ℕ) → first_of ks ≡ Some k → contains ks k ≡ true
first_contained [] k h = absurd cc
first_contained (j ∷ ks) k h = or_first (j == k) (contains ks k) (let same : j ≡ k = cc in eq-eqb j k same)

none_either : (a b : Bool) → a ≡ false → b ≡ false → (a || b) ≡ false
none_either a b h k = ap (λ c. c || b) h ∙ k

every : (ks : List ℕ) → filter (λ k. true) ks ++ [] ≡ ks
every [] = refl
every (k ∷ ks) = ap (λ js. k ∷ js) (every ks)

-- ---- a session and its outbox

module _ (o : Opening) where
  -- each reply that is kept has an answer; the live commands are the same in both
  pub record Core (t : Trace) (b : Box) (answers : List ℕ) : Type 0 where
    pub same : SameLive o b t
    pub sent : b.sent ≡ length answers
    pub bounded : OfBox (Below (length answers)) b

  -- the request of the event isn't needed
  pub record Fine (v : ℕ) (t : Trace) (b : Box) (answers : List ℕ) : Type 0 where
    pub out : Out v t
    pub unrun : runs v t b ≡ false
    pub quiet : OfBox (λ sent ticket. about v t answers sent ticket ≡ false) b

  -- ---- an item

  core_item : (now next : ℕ) (t : Trace) (item : List Mark) (b : Box) (answers : List ℕ) → HaveForms o.session next t → HasForm o.session now t item → Core t b answers
      → Core (item ∷ t) (after_item o b (effects_of_item o.session t item)) (answers ++ answers_in now item)
  core_item now next t item b answers forms f h = by_sent (sent_in o.session now t item f)
    where
      es : List Effect
      es = effects_of_item o.session t item

      live_as : SameLive o (after_item o b (effects_of_item o.session t item)) (item ∷ t)
      live_as =
          live_after_item o b es
          ∙ ap (λ ks. filter (λ k. not (contains (tickets_left es) k)) ks ++ tickets_entered (executing es) es) h.same ∙ sym (live_tickets_item o.session now next t item forms f)

      by_sent : Sent o.session now t item → Core (item ∷ t) (after_item o b (effects_of_item o.session t item)) (answers ++ answers_in now item)
      by_sent (Silent none unanswered) =
          let same_length : length (answers ++ answers_in now item) ≡ length answers = ap (λ xs. length (answers ++ xs)) unanswered ∙ ap length (append-nil answers) in
          record {
            same = live_as;
            sent = item_sent o b es ∙ ap (λ x. b.sent + counts x) none ∙ (let z : b.sent + 0 ≡ length (answers ++ answers_in now item) = omega (arith, h.sent, same_length) in z);
            bounded = subst (λ n. OfBox (Below n) (after_item o b es)) (sym same_length)
                (of_item (Below (length answers)) o b es (subst (Sending (Below (length answers)) (executing es) (tickets_left es) (before_sending b es).sent) (sym none) tt) h.bounded);
          }
      by_sent (Speaks s some answered) =
          let longer : length (answers ++ answers_in now item) ≡ length answers + 1 = ap (λ xs. length (answers ++ xs)) answered ∙ length-append answers (answered_event now item ∷ []) in
          record {
            same = live_as;
            sent = item_sent o b es ∙ ap (λ x. b.sent + counts x) some ∙ (let z : b.sent + 1 ≡ length (answers ++ answers_in now item) = omega (arith, h.sent, longer) in z);
            bounded = subst (λ n. OfBox (Below n) (after_item o b es)) (sym longer)
                (of_item (Below (length answers + 1)) o b es
                (subst (Sending (Below (length answers + 1)) (executing es) (tickets_left es) (before_sending b es).sent) (sym some)
                (λ place is. let same : (before_sending b es).sent ≡ place = cc in omega (arith, same, before_sent b es, h.sent)))
                (of_both (Below (length answers)) (Below (length answers)) (Below (length answers + 1)) (λ sent ticket p q place is. omega (arith, p place is)) b h.bounded h.bounded));
          }

  core_none : (t : Trace) (b : Box) (answers : List ℕ) → Core t b answers → Core t (after_item o b []) answers
  core_none t b answers h = record {
    same = live_after_item o b [] ∙ every (live_tickets b.tasks) ∙ h.same;
    sent = item_sent o b [] ∙ (let z : b.sent + 0 ≡ length answers = omega (arith, h.sent) in z);
    bounded = of_item (Below (length answers)) o b [] tt h.bounded;
  }

  abbrev ending : Box → ℕ → ℕ → Box
  ending b exp max = record b { tasks = map (λ (x : Task). record x { phase = phase_told x.phase }) b.tasks; exp = exp; max = max }

  core_ends : (t : Trace) (b : Box) (answers : List ℕ) (exp max : ℕ) → Core t b answers → Core t (ending b exp max) answers
  core_ends t b answers exp max h = record {
    same = live_same (λ (x : Task). record x { phase = phase_told x.phase }) (λ x. (refl, same_told x.phase)) b.tasks ∙ h.same;
    sent = h.sent;
    bounded = record { links = h.bounded.links; undue = h.bounded.undue };
  }

  -- the commands of a request that isn't live don't run after an item, if they don't run before
  unrun_after : (v : ℕ) (t : Trace) (b : Box) (es : List Effect) → SameLive o b t → is_live v t ≡ false → runs v t b ≡ false → runs v t (after_item o b es) ≡ false
  unrun_after v t b es same unlive unrun =
      any_none_of_two (λ (c : Command). not (has (leaves_ticket c.ticket) t) && is_of_event v c.arrival) (λ (c : Command). is_of_event v c.arrival && is_running b c.ticket) (λ (c : Command). is_of_event v c.arrival && is_running (after_item o b es) c.ticket) (entered t)
      (λ c f g. by_tests c (is_of_event v c.arrival) (has (leaves_ticket c.ticket) t) refl (is_running b c.ticket) refl f g)
      (sym (any_filter (λ (c : Command). is_of_event v c.arrival) (λ (c : Command). not (has (leaves_ticket c.ticket) t)) (entered t)) ∙ unlive) unrun
    where
      by_tests : (c : Command) (p l : Bool) → has (leaves_ticket c.ticket) t ≡ l → (r : Bool) → is_running b c.ticket ≡ r → (not l && p) ≡ false → (p && r) ≡ false → (p && is_running (after_item o b es) c.ticket) ≡ false
      by_tests c true true is r run f g =
          unrun_item c.ticket o b es (run ∙ g) (ap (λ ks. contains ks c.ticket) same ∙ list_any-map (λ n. n == c.ticket) (λ (d : Command). d.ticket) (live t) ∙ left_unlive t c.ticket is)
      by_tests c true false is r run f g = absurd (false≢true (sym f))
      by_tests c false l is r run f g = refl

  fine_item : (v now next : ℕ) → v < now → (t : Trace) (item : List Mark) (b : Box) (answers : List ℕ) → HaveForms o.session next t → HasForm o.session now t item → Core t b answers → Fine v t b answers
      → Fine v (item ∷ t) (after_item o b (effects_of_item o.session t item)) (answers ++ answers_in now item)
  fine_item v now next earlier t item b answers forms f h k =
      subst (λ ms. Fine v (ms ∷ t) (after_item o b (effects_of_item o.session t ms)) (answers ++ answers_in now ms)) (sym f.is)
      (by_form f.form f.formed (sent_in o.session now t (marks_of_form f.form) (record { form = f.form; is = refl; formed = f.formed })))
    where
      by_form : (form : Form) → IsFormed o.session now t form → Sent o.session now t (marks_of_form form) → Fine v (marks_of_form form ∷ t) (after_item o b (effects_of_item o.session t (marks_of_form form))) (answers ++ answers_in now (marks_of_form form))
      by_form form formed s = record {
        out = out_more o.session v now next earlier t forms k.out form formed;
        unrun =
            both_none (λ (c : Command). is_of_event v c.arrival && is_running (after_item o b es) c.ticket) (entered t) (filter_map enters (marks_of_form form))
            (unrun_after v t b es h.same k.out.unlive k.unrun)
            (any_none (λ (c : Command). is_of_event v c.arrival) (λ (c : Command). is_of_event v c.arrival && is_running (after_item o b es) c.ticket) (filter_map enters (marks_of_form form))
            (λ c none. ap (λ w. w && is_running (after_item o b es) c.ticket) none) (entering_other o.session v now next earlier t forms k.out form formed));
        quiet = of_item Quiet o b es (sends s) (of_both (Below (length answers)) (λ sent ticket. about v t answers sent ticket ≡ false) Quiet older b h.bounded k.quiet);
      }
        where
          es : List Effect
          es = effects_of_item o.session t (marks_of_form form)

          Quiet : Option ℕ → Option ℕ → Type 0
          Quiet sent ticket = about v (marks_of_form form ∷ t) (answers ++ answers_in now (marks_of_form form)) sent ticket ≡ false

          ticket_stays : (ticket : Option ℕ) → elim ticket [ Some j ↦ is_ticket_of v t j | None ↦ false ] ≡ false → elim ticket [ Some j ↦ is_ticket_of v (marks_of_form form ∷ t) j | None ↦ false ] ≡ false
          ticket_stays None none = refl
          ticket_stays (Some j) none = ticket_more o.session v now next earlier t forms k.out form formed j none

          older : (sent ticket : Option ℕ) → Below (length answers) sent ticket → about v t answers sent ticket ≡ false → about v (marks_of_form form ∷ t) (answers ++ answers_in now (marks_of_form form)) sent ticket ≡ false
          older None ticket below none = ticket_stays ticket none
          older (Some place) ticket below none =
              let parts = or_none (elim (nth place answers) [ Some e ↦ e == v | None ↦ false ]) (elim ticket [ Some j ↦ is_ticket_of v t j | None ↦ false ]) none in
              none_either (elim (nth place (answers ++ answers_in now (marks_of_form form))) [ Some e ↦ e == v | None ↦ false ]) (elim ticket [ Some j ↦ is_ticket_of v (marks_of_form form ∷ t) j | None ↦ false ])
              (ap (λ y. elim y [ Some e ↦ e == v | None ↦ false ]) (nth_first answers (answers_in now (marks_of_form form)) place (below place refl)) ∙ parts.0)
              (ticket_stays ticket parts.1)

          ticket_sent : (r : Option Request) (x : Option ℕ) → first_of (tickets_left (effects_of_item o.session t (marks_of_form form))) ≡ x
              → elim (elim r as (λ y. Option ℕ) [ Some request ↦ None | None ↦ x ]) [ Some j ↦ is_ticket_of v (marks_of_form form ∷ t) j | None ↦ false ] ≡ false
          ticket_sent (Some r) x is = refl
          ticket_sent None None is = refl
          ticket_sent None (Some j) is =
              ticket_more o.session v now next earlier t forms k.out form formed j
              (left_other o.session v now next earlier t forms k.out form formed j
              (sym (left_marks o.session t j (marks_of_form form) (newly_enabled o.session t (marks_of_form form))) ∙ first_contained (tickets_left (effects_of_item o.session t (marks_of_form form))) j is))

          sends : Sent o.session now t (marks_of_form form)
              → Sending (λ sent ticket. about v (marks_of_form form ∷ t) (answers ++ answers_in now (marks_of_form form)) sent ticket ≡ false) (executing (effects_of_item o.session t (marks_of_form form))) (tickets_left (effects_of_item o.session t (marks_of_form form)))
              (before_sending b (effects_of_item o.session t (marks_of_form form))).sent (first_of (filter_map effect_reply (effects_of_item o.session t (marks_of_form form))))
          sends (Silent none unanswered) = subst (Sending Quiet (executing es) (tickets_left es) (before_sending b es).sent) (sym none) tt
          sends (Speaks s some answered) =
              subst (Sending Quiet (executing es) (tickets_left es) (before_sending b es).sent) (sym some)
              (none_either
              (elim (nth (before_sending b es).sent (answers ++ answers_in now (marks_of_form form))) [ Some e ↦ e == v | None ↦ false ]) _
              (ap (λ n. elim (nth n (answers ++ answers_in now (marks_of_form form))) [ Some e ↦ e == v | None ↦ false ]) (before_sent b es ∙ h.sent)
              ∙ ap (λ xs. elim (nth (length answers) (answers ++ xs)) [ Some e ↦ e == v | None ↦ false ]) answered
              ∙ ap (λ y. elim y [ Some e ↦ e == v | None ↦ false ]) (nth_last answers (answered_event now (marks_of_form form)))
              ∙ answered_other o.session v now next earlier t forms k.out form formed)
              (ticket_sent (executing es) (first_of (tickets_left es)) refl))

  fine_none : (v : ℕ) (t : Trace) (b : Box) (answers : List ℕ) → Core t b answers → Fine v t b answers → Fine v t (after_item o b []) answers
  fine_none v t b answers h k = record {
    out = k.out;
    unrun = unrun_after v t b [] h.same k.out.unlive k.unrun;
    quiet = of_item (λ sent ticket. about v t answers sent ticket ≡ false) o b [] tt k.quiet;
  }

  fine_ends : (v : ℕ) (t : Trace) (b : Box) (answers : List ℕ) (exp max : ℕ) → Fine v t b answers → Fine v t (ending b exp max) answers
  fine_ends v t b answers exp max k = record {
    out = k.out;
    unrun =
        any_none (λ (c : Command). is_of_event v c.arrival && is_running b c.ticket) (λ (c : Command). is_of_event v c.arrival && is_running (ending b exp max) c.ticket) (entered t)
        (λ c none. none_by_phase (is_of_event v c.arrival) (is_running b c.ticket) (is_running (ending b exp max) c.ticket) (unrun_told c.ticket b.tasks) none) k.unrun;
    quiet = record { links = k.quiet.links; undue = k.quiet.undue };
  }

  -- ---- an event

  -- what each item keeps, and the end of an event
  record ItemWalk (now : ℕ) (P : Trace → Box → List ℕ → Type 0) : Type 0 where
    item : (next : ℕ) (t : Trace) (ms : List Mark) (b : Box) (answers : List ℕ) → HaveForms o.session next t → HasForm o.session now t ms → P t b answers → P (ms ∷ t) (after_item o b (effects_of_item o.session t ms)) (answers ++ answers_in now ms)
    none : (t : Trace) (b : Box) (answers : List ℕ) → P t b answers → P t (after_item o b []) answers
    ends : (t : Trace) (b : Box) (answers : List ℕ) (exp max : ℕ) → P t b answers → P t (ending b exp max) answers

  module _ (now : ℕ) (P : Trace → Box → List ℕ → Type 0) (w : ItemWalk now P) where
    by_items : (items : List (List Mark)) (t : Trace) (b : Box) (answers : List ℕ) (next : ℕ) → HaveForms o.session next (after_items items t) → Formed o.session now t items → P t b answers
        → P (after_items items t) (items_taken o b (effects_each o.session t items)) (answers ++ flat_map (answers_in now) items)
    by_items [] t b answers next forms formed h = subst (P t b) (sym (append-nil answers)) h
    by_items (item ∷ items) t b answers next forms formed h =
        let before = forms_below o (item ∷ items) t next forms in
        let b' : Box = after_item o b (effects_of_item o.session t item) in
        subst (P (after_items items (item ∷ t)) (items_taken o b' (effects_each o.session (item ∷ t) items))) (append_assoc answers (answers_in now item) (flat_map (answers_in now) items))
        (by_items items (item ∷ t) b' (answers ++ answers_in now item) next forms formed.1 (w.item before.0 t item b answers before.1 formed.0 h))

    by_event : (t : Trace) (e : Event) (b : Box) (answers : List ℕ) → HaveForms o.session now t → P t b answers
        → let entry = entry_of o.session now t e in P (after_event o.session now t e) (event_taken o b entry.effects entry.numbers) (answers ++ flat_map (answers_in now) (items_of o.session now t e))
    by_event t e b answers forms h =
        let entry = entry_of o.session now t e in
        let formed : Formed o.session now t (items_of o.session now t e) = event_formed o.session now t e in
        let parts : Parts o.session t (items_of o.session now t e) = event_parts o.session (λ u item. HasForm o.session now u item) (λ u item f. (now, f)) now t e formed in
        w.ends (after_event o.session now t e) (items_taken o b (in_parts entry.effects)) (answers ++ flat_map (answers_in now) (items_of o.session now t e)) entry.numbers.exp (lift (items_taken o b (in_parts entry.effects)).max entry.numbers.max)
        (subst (λ ps. P (after_event o.session now t e) (items_taken o b ps) (answers ++ flat_map (answers_in now) (items_of o.session now t e))) (sym parts.are) (by_lead parts.lead))
      where
        items : List (List Mark)
        items = items_of o.session now t e

        by_lead : (v : Bool) → P (after_event o.session now t e) (items_taken o b (cond v ([] ∷ effects_each o.session t (items_of o.session now t e)) (effects_each o.session t (items_of o.session now t e)))) (answers ++ flat_map (answers_in now) (items_of o.session now t e))
        by_lead false = by_items items t b answers (now + 1) (event_going o.session now t e forms) (event_formed o.session now t e) h
        by_lead true = by_items items t (after_item o b []) answers (now + 1) (event_going o.session now t e forms) (event_formed o.session now t e) (w.none t b answers h)

  pub core_event : (now : ℕ) (t : Trace) (e : Event) (b : Box) (answers : List ℕ) → HaveForms o.session now t → Core t b answers
      → let entry = entry_of o.session now t e in Core (after_event o.session now t e) (event_taken o b entry.effects entry.numbers) (answers ++ flat_map (answers_in now) (items_of o.session now t e))
  core_event now = by_event now Core (record { item = core_item now; none = core_none; ends = core_ends })

  abbrev Both : ℕ → Trace → Box → List ℕ → Type 0
  Both v t b answers = Core t b answers × Fine v t b answers

  pub fine_event : (v now : ℕ) → v < now → (t : Trace) (e : Event) (b : Box) (answers : List ℕ) → HaveForms o.session now t → Core t b answers → Fine v t b answers
      → let entry = entry_of o.session now t e in Fine v (after_event o.session now t e) (event_taken o b entry.effects entry.numbers) (answers ++ flat_map (answers_in now) (items_of o.session now t e))
  fine_event v now earlier t e b answers forms h k =
      (by_event now (Both v) (record {
        item = λ next t item b answers x f both. (core_item now next t item b answers x f both.0, fine_item v now next earlier t item b answers x f both.0 both.1);
        none = λ t b answers both. (core_none t b answers both.0, fine_none v t b answers both.0 both.1);
        ends = λ t b answers exp max both. (core_ends t b answers exp max both.0, fine_ends v t b answers exp max both.1);
      }) t e b answers forms (h, k)).1
