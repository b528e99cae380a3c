-- An item that is taken keeps what holds of a box.
use Rattle.std.proofs.Common.{◌≡◌, ◌<◌, ◌≤◌, ℕ, ◌+◌, ◌==◌, ◌&&◌, cond, Bool, true, false, List, [], ◌∷◌, ◌++◌, map, filter, filter_map, Option, Some, None, refl, sym, subst, ◌∙◌, arith, ⊎_elim, ◌||◌}
use Rattle.std.specs.List.{list_any}
use Rattle.std.proofs.lemmas.Bool.{and_from, cond_both, false≢true, or_cases, or_left, or_right, false_from_ne_true}
use Rattle.iscsi_wire.specs.declared.reply.Reply.{Reply}
use Rattle.iscsi_wire.specs.declared.request.Request.{Request}
use Rattle.iscsi_wire.specs.Fields.{connection_of}
use Rattle.iscsi_rules.specs.declared.effect.Effect.{Effect}
use Rattle.iscsi_rules.specs.rules.Settings.{is_known}
use Rattle.iscsi_rules.specs.rules.Trace.{first_of}
use Rattle.iscsi_outbox_rules.specs.rules.Calls.{Opening}
use Rattle.iscsi_outbox_rules.specs.rules.Boxes.{Phase, Task, Aim, Answer, Link, Box}
use Rattle.iscsi_outbox_rules.specs.rules.Words.{contains, is_left_phase}
use Rattle.iscsi_outbox_rules.specs.rules.Queues.{at_link, takes_more, drop_on}
use Rattle.iscsi_outbox_rules.specs.rules.Items.{executing, tickets_left, ticket_enabled, reply_sent, closed_in, newly_closed, phase_taken_out, phase_completed, phase_enabled, in_phase, leave, task_entered, enter_tasks, close_one, close_all, close, outgoing, answer, send_as, aim, send, is_aimed_at, after_item}
use Rattle.iscsi_outbox_law.specs.private.Pairs.{EachOf, InOrder}
use Rattle.iscsi_outbox_law.specs.private.Sound.{entries_of, is_live_in}
use Rattle.iscsi_outbox_law.proofs.general.PairLemmas.{each-append, each-map, each-weaken}
use Rattle.iscsi_outbox_law.proofs.invariants.SoundFirm.{has_home, left_in, own_queued, IsLinkFirm, IsAnswerFirm, IsFirm, turned, dropped}
use Rattle.iscsi_outbox_law.proofs.invariants.SoundMoves.{entered, firm_closed, firm_cut, firm_settled}
use Rattle.iscsi_outbox_law.proofs.invariants.SoundTurns.{IsTurn, phased, turn_phased, unleft_phased, taken_out_left, completed_left, enabled_left, onto_turn, unleft_turn, firm_turn, left_out, live_stays, firm_entering, onto_entering, unleft_entering}

-- what an item has to be like for this
pub record IsItemFirm (o : Opening) (b : Box) (item : List Effect) : Type 0 where
  pub left : EachOf (λ k. is_live_in b k ≡ true) (tickets_left item)
  pub later : EachOf (λ (e : ℕ × ℕ). EachOf (λ (t : Task). t.ticket < e.0) b.tasks) (entries_of item)
  pub ascending : InOrder (λ (d e : ℕ × ℕ). d.0 < e.0) (entries_of item)
  pub known : (r : Request) → executing item ≡ Some r → is_known (connection_of r) o.session.conns ≡ true
  -- a command is answered where it entered
  pub home : executing item ≡ None → (k conn : ℕ) (reply : Reply) → first_of (tickets_left item) ≡ Some k → first_of (filter_map reply_sent item) ≡ Some (conn, reply) → has_home b.tasks conn k ≡ true

-- ---- phases

-- none is taken out
pub firm_phases : (o : Opening) (b : Box) (f : Task → Task) → IsTurn f → ((t : Task) → is_left_phase (f t).phase ≡ true → is_left_phase t.phase ≡ true) → IsFirm o b → IsFirm o (record b { tasks = map f b.tasks })
firm_phases o b f turn back h = turned o b.tasks (map f b.tasks) b.time b.links b.undue (firm_turn f turn b.tasks o h.tasks) (onto_turn f turn b.tasks) (unleft_turn f turn b.tasks back) h

pub firm_phased : (o : Opening) (b : Box) (change : Phase → Phase) (tickets : List ℕ) → ((p : Phase) → is_left_phase (change p) ≡ is_left_phase p) → IsFirm o b → IsFirm o (in_phase change tickets b)
firm_phased o b change tickets same h =
    firm_phases o b (phased change tickets) (turn_phased change tickets (λ p is. same p ∙ is)) (unleft_phased change tickets (λ p is. sym (same p) ∙ is)) h

firm_leave : (o : Opening) (b : Box) (r : Option Request) (tickets : List ℕ) → IsFirm o b → IsFirm o (leave r tickets b)
firm_leave o b (Some r) tickets h =
    let turn : IsTurn (phased phase_taken_out tickets) = turn_phased phase_taken_out tickets taken_out_left in
    dropped o b.tasks (map (phased phase_taken_out tickets) b.tasks) b.time b.links b.undue (firm_turn (phased phase_taken_out tickets) turn b.tasks o h.tasks) (onto_turn (phased phase_taken_out tickets) turn b.tasks)
    (contains tickets) (left_out tickets b.tasks) h
firm_leave o b None tickets h = firm_phased o b phase_completed tickets completed_left h

-- ---- closing

firm_close_one : (o : Opening) (by conn : ℕ) (b : Box) → IsFirm o b → IsFirm o (close_one by conn b)
firm_close_one o by conn b h =
    cond_both (conn == by) (record b { links = at_link conn (λ l. record l { closed = true }) b.links }) (drop_on conn (record b { links = at_link conn (λ l. record l { closed = true; cut = true }) b.links })) (IsFirm o)
    (λ own. firm_closed o b conn h) (λ own. firm_cut o b conn h)

firm_close_all : (o : Opening) (by : ℕ) (conns : List ℕ) (b : Box) → IsFirm o b → IsFirm o (close_all by conns b)
firm_close_all o by [] b h = h
firm_close_all o by (conn ∷ conns) b h = firm_close_all o by conns (close_one by conn b) (firm_close_one o by conn b h)

-- ---- what is sent

-- what is in a scope has left
in_scope : (p : Task → Bool) (ts : List Task) (k : ℕ) → contains (map (λ (t : Task). t.ticket) (filter (λ (t : Task). is_left_phase t.phase && p t) ts)) k ≡ true → left_in ts k ≡ true
in_scope p [] k some = some
in_scope p (t ∷ ts) k some =
    let rest : contains (map (λ (x : Task). x.ticket) (filter (λ (x : Task). is_left_phase x.phase && p x) ts)) k ≡ true → left_in ts k ≡ true = in_scope p ts k in
    by_left (is_left_phase t.phase) (p t) refl rest some
  where
    by_left : (u v : Bool) → is_left_phase t.phase ≡ u → (contains (map (λ (x : Task). x.ticket) (filter (λ (x : Task). is_left_phase x.phase && p x) ts)) k ≡ true → left_in ts k ≡ true)
        → contains (map (λ (x : Task). x.ticket) (cond (u && v) (t ∷ filter (λ (x : Task). is_left_phase x.phase && p x) ts) (filter (λ (x : Task). is_left_phase x.phase && p x) ts))) k ≡ true
        → ((t.ticket == k && is_left_phase t.phase) || left_in ts k) ≡ true
    by_left true true is later found =
        ⊎_elim (λ here. or_left (t.ticket == k && is_left_phase t.phase) (left_in ts k) (and_from (t.ticket == k) (is_left_phase t.phase) here is))
        (λ there. or_right (t.ticket == k && is_left_phase t.phase) (left_in ts k) (later there))
        (or_cases (t.ticket == k) (contains (map (λ (x : Task). x.ticket) (filter (λ (x : Task). is_left_phase x.phase && p x) ts)) k) found)
    by_left true false is later found = or_right (t.ticket == k && is_left_phase t.phase) (left_in ts k) (later found)
    by_left false v is later found = or_right (t.ticket == k && is_left_phase t.phase) (left_in ts k) (later found)

-- a reply isn't one of the target's own PDUs, and has room
few_own : (o : Opening) (b : Box) (conn : ℕ) → IsFirm o b → EachOf (λ (l : Link). l.conn ≡ conn → takes_more l ≡ true → own_queued l + cond {A = ℕ} false 1 0 ≤ o.own) b.links
few_own o b conn h =
    each-weaken (IsLinkFirm o b.tasks b.time) (λ (l : Link). l.conn ≡ conn → takes_more l ≡ true → own_queued l + cond {A = ℕ} false 1 0 ≤ o.own) b.links (λ l k at more. (let old = k.own in omega (arith, old))) h.links

-- of a request that executes
firm_send : (o : Opening) (b : Box) (r : Request) (tickets conns closes : List ℕ) (x : Option (ℕ × Reply)) → IsFirm o b → IsFirm o (send o (Some r) tickets conns closes x b)
firm_send o b r tickets conns closes None h = h
firm_send o b r tickets conns closes (Some s) h = by_aim (aim o (Some r) s.1)
  where
    by_aim : (x : Option Aim) → IsFirm o (send_as o (Some r) x conns closes s.0 (outgoing b (Some r) tickets s.1) b)
    by_aim None = entered o b.tasks b.links b.undue b.time s.0 (outgoing b (Some r) tickets s.1) (record { home = tt; alive = refl; fenced = λ is. refl; own = few_own o b s.0 h }) h
    by_aim (Some about) =
        let a : Answer = answer o b r conns closes s.0 (outgoing b (Some r) tickets s.1) about in
        cond_both (list_any (λ (l : Link). l.conn == a.conn && takes_more l) b.links) (record b { undue = b.undue ++ a ∷ [] }) b (IsFirm o)
        (λ may. record {
          tasks = h.tasks;
          links = h.links;
          undue = each-append (IsAnswerFirm b.tasks b.links) b.undue (a ∷ []) h.undue
              (record { scope = λ k named. in_scope (is_aimed_at about conns) b.tasks k named; taken = may; ticket = refl; plain = refl; takes = refl }, tt);
          conns = h.conns;
        })
        (λ none. h)

-- of a command that is completed
firm_complete : (o : Opening) (b : Box) (tickets conns closes : List ℕ) (x : Option (ℕ × Reply)) → ((k conn : ℕ) (reply : Reply) → first_of tickets ≡ Some k → x ≡ Some (conn, reply) → (has_home b.tasks conn k ≡ true) × (left_in b.tasks k ≡ false)) → IsFirm o b
    → IsFirm o (send o None tickets conns closes x b)
firm_complete o b tickets conns closes None answers h = h
firm_complete o b tickets conns closes (Some s) answers h =
    entered o b.tasks b.links b.undue b.time s.0 (outgoing b None tickets s.1)
    (record {
      home = homes (first_of tickets) (λ k is. (answers k s.0 s.1 is refl).0);
      alive = lives (first_of tickets) (λ k is. (answers k s.0 s.1 is refl).1);
      fenced = λ is. refl;
      own = few_own o b s.0 h;
    }) h
  where
    homes : (y : Option ℕ) → ((k : ℕ) → y ≡ Some k → has_home b.tasks s.0 k ≡ true) → elim y as (λ (z : Option ℕ). Type 0) [ Some k ↦ has_home b.tasks s.0 k ≡ true | None ↦ Unit {0} ]
    homes (Some k) f = f k refl
    homes None f = tt

    lives : (y : Option ℕ) → ((k : ℕ) → y ≡ Some k → left_in b.tasks k ≡ false) → (elim y [ Some k ↦ left_in b.tasks k | None ↦ false ]) ≡ false
    lives (Some k) f = f k refl
    lives None f = refl

-- ---- an item

first_each : {A : Type 0} (P : A → Type 0) (xs : List A) (x : A) → first_of xs ≡ Some x → EachOf P xs → P x
first_each P [] x is h = absurd cc
first_each P (y ∷ xs) x is h = let same : y ≡ x = cc in subst P same h.0

module _ (o : Opening) (b : Box) (item : List Effect) (fit : IsItemFirm o b item) (h : IsFirm o b) where
  -- while a request executes
  executed : (r : Request) (conns closes : List ℕ) → executing item ≡ Some r
      → IsFirm o (send o (Some r) (tickets_left item) conns closes (first_of (filter_map reply_sent item)) (close (Some r) closes (enter_tasks (Some r) item (leave (Some r) (tickets_left item) b))))
  executed r conns closes is =
      let tickets : List ℕ = tickets_left item in
      let left : Box = leave (Some r) tickets b in
      let h' : IsFirm o left = firm_leave o b (Some r) tickets h in
      let later : EachOf (λ (e : ℕ × ℕ). EachOf (λ (t : Task). t.ticket < e.0) left.tasks) (entries_of item) =
      each-weaken (λ (e : ℕ × ℕ). EachOf (λ (t : Task). t.ticket < e.0) b.tasks) (λ (e : ℕ × ℕ). EachOf (λ (t : Task). t.ticket < e.0) left.tasks) (entries_of item)
      (λ e k. each-map (λ (t : Task). t.ticket < e.0) (λ (t : Task). t.ticket < e.0) (phased phase_taken_out tickets) b.tasks
      (λ t lt. subst (λ (n : ℕ). n < e.0) (sym ((turn_phased phase_taken_out tickets taken_out_left).ticket t)) lt) k) fit.later in
      let entering : IsFirm o (enter_tasks (Some r) item left) =
      turned o left.tasks (left.tasks ++ filter_map (task_entered r) item) left.time left.links left.undue (firm_entering o left.tasks r item fit.ascending later (fit.known r is) h'.tasks)
      (onto_entering o left.tasks r item fit.ascending later) (unleft_entering o left.tasks r item fit.ascending later) h' in
      firm_send o (close (Some r) closes (enter_tasks (Some r) item left)) r tickets conns closes (first_of (filter_map reply_sent item)) (firm_close_all o (connection_of r) closes (enter_tasks (Some r) item left) entering)

  -- at a completion
  completed : (conns closes : List ℕ) → executing item ≡ None
      → IsFirm o (send o None (tickets_left item) conns closes (first_of (filter_map reply_sent item)) (leave None (tickets_left item) b))
  completed conns closes is =
      firm_complete o (leave None (tickets_left item) b) (tickets_left item) conns closes (first_of (filter_map reply_sent item))
      (λ k conn reply first sent. (
        (onto_turn (phased phase_completed (tickets_left item)) (turn_phased phase_completed (tickets_left item) (λ p i. completed_left p ∙ i)) b.tasks).homes conn k (fit.home is k conn reply first sent),
        false_from_ne_true (left_in (leave None (tickets_left item) b).tasks k)
            (λ left. false≢true
            (sym (live_stays b.tasks k h.tasks.ascending (first_each (λ (n : ℕ). is_live_in b n ≡ true) (tickets_left item) k first fit.left))
            ∙ unleft_turn (phased phase_completed (tickets_left item)) (turn_phased phase_completed (tickets_left item) (λ p i. completed_left p ∙ i)) b.tasks (unleft_phased phase_completed (tickets_left item) (λ p i. sym (completed_left p) ∙ i)) k left)),
      ))
      (firm_leave o b None (tickets_left item) h)

  -- before it settles
  pub firm_sent : IsFirm o (send o (executing item) (tickets_left item) (closed_in b item) (newly_closed b (closed_in b item)) (first_of (filter_map reply_sent item))
      (close (executing item) (newly_closed b (closed_in b item)) (enter_tasks (executing item) item (leave (executing item) (tickets_left item) b))))
  firm_sent = by_request (executing item) refl
    where
      by_request : (r : Option Request) → executing item ≡ r
          → IsFirm o (send o r (tickets_left item) (closed_in b item) (newly_closed b (closed_in b item)) (first_of (filter_map reply_sent item)) (close r (newly_closed b (closed_in b item)) (enter_tasks r item (leave r (tickets_left item) b))))
      by_request (Some r) is = executed r (closed_in b item) (newly_closed b (closed_in b item)) is
      by_request None is = completed (closed_in b item) (newly_closed b (closed_in b item)) is

  pub firm_item : IsFirm o (after_item o b item)
  firm_item =
      let sent : Box = send o (executing item) (tickets_left item) (closed_in b item) (newly_closed b (closed_in b item)) (first_of (filter_map reply_sent item))
      (close (executing item) (newly_closed b (closed_in b item)) (enter_tasks (executing item) item (leave (executing item) (tickets_left item) b))) in
      firm_settled o (in_phase phase_enabled (filter_map ticket_enabled item) sent) (firm_phased o sent phase_enabled (filter_map ticket_enabled item) enabled_left firm_sent)
