-- How far commands come: under a session a command that entered doesn't come out of a phase that it can't leave, as what left stays
-- left, and what doesn't run any more doesn't run again.
use Rattle.std.proofs.Common.{◌≡◌, ℕ, ◌+◌, ◌≤◌, Bool, true, List, [], ◌∷◌, ◌++◌, map, Option, Some, None, refl, ap, sym, subst, ◌∙◌, arith}
use Rattle.std.proofs.lemmas.Bool.{cond_both}
use Rattle.std.proofs.lemmas.List.Sums.{sum_by-append}
use Rattle.std.proofs.Common.{◌==◌, ◌&&◌, cond}
use Rattle.std.specs.List.{list_any}
use Rattle.iscsi_wire.specs.declared.reply.Reply.{Reply}
use Rattle.iscsi_wire.specs.declared.request.Request.{Request}
use Rattle.iscsi_rules.specs.declared.effect.Effect.{Effect}
use Rattle.iscsi_outbox_rules.specs.declared.own_pdu.OwnPdu.{OwnPdu}
use Rattle.iscsi_outbox_rules.specs.declared.own_pdu.PutRefusal.{PutRefusal}
use Rattle.iscsi_outbox_rules.specs.rules.Calls.{Opening, Call, Takes, Puts, Stops, Nexts, Writes, Hears, Joins, Loses, Clears}
use Rattle.iscsi_outbox_rules.specs.rules.Boxes.{Phase, Task, Aim, Answer, Link, Box}
use Rattle.iscsi_outbox_rules.specs.rules.Words.{is_running, is_left_phase}
use Rattle.iscsi_outbox_rules.specs.rules.Queues.{at_link, takes_more, enter, drop_on}
use Rattle.iscsi_outbox_rules.specs.rules.Due.{settle}
use Rattle.iscsi_outbox_rules.specs.rules.Items.{phase_taken_out, in_phase, outgoing, answer, aim, send_as, send}
use Rattle.iscsi_outbox_rules.specs.rules.Own.{own_conn, own_outgoing, put_refusal}
use Rattle.iscsi_outbox_rules.specs.rules.Run.{opened, after_call, after_calls, answered, phase_stopped, one_written, link_heard, may_join, link_joined, link_lost, cleared}
use Rattle.iscsi_outbox_rules.specs.promises.Deeds.{deeds_from, deeds_of, items_in, items_of_call, FollowsSession}
use Rattle.iscsi_outbox_rules.proofs.general.EachLemmas.{EachOf, each-append, each-first, each-map, each-second, each-weaken}
use Rattle.iscsi_outbox_rules.proofs.general.Cuts.{Hand, Idle, next}
use Rattle.iscsi_outbox_rules.proofs.general.DeedLemmas.{items_in-append}
use Rattle.iscsi_outbox_rules.proofs.commands.TicketLemmas.{with_ticket, none_of, ticket_counts, entries, entries-append, enters_once, EntersOn, enters_on}
use Rattle.iscsi_outbox_rules.proofs.general.TaskWalks.{Stays, Onward, is_over_phase, left_stays, over_stays, phased, phased_onward, TaskWalk, task_settles, task_event}
use Rattle.iscsi_outbox_rules.proofs.commands.CommandRuns.{CommandStands}
use Rattle.iscsi_outbox_rules.proofs.commands.CommandTheorem.{command_stands}
use Rattle.std.proofs.Common.{⊎_elim}

-- the commands with this ticket are in such a phase
abbrev pub AreIn : (Phase → Bool) → ℕ → List Task → Type 0
AreIn among t ts = EachOf (λ (x : Task). x.ticket ≡ t → among x.phase ≡ true) ts

-- a command with the ticket entered, and is in such a phase
pub record HasCome (among : Phase → Bool) (t : ℕ) (b : Box) : Type 0 where
  pub entered : 1 ≤ with_ticket t b.tasks
  pub phase : AreIn among t b.tasks

pub sent_tasks : (o : Opening) (b : Box) (r : Option Request) (tickets conns closes : List ℕ) (s : ℕ × Reply) → (send o r tickets conns closes (Some s) b).tasks ≡ b.tasks
sent_tasks o b None tickets conns closes s = refl
sent_tasks o b (Some r) tickets conns closes s = by_aim (aim o (Some r) s.1)
  where
    by_aim : (x : Option Aim) → (send_as o (Some r) x conns closes s.0 (outgoing b (Some r) tickets s.1) b).tasks ≡ b.tasks
    by_aim None = refl
    by_aim (Some about) =
        let a : Answer = answer o b r conns closes s.0 (outgoing b (Some r) tickets s.1) about in
        cond_both (list_any (λ (l : Link). (l.conn == a.conn) && takes_more l) b.links) (record b { undue = b.undue ++ a ∷ [] }) b (λ (b' : Box). b'.tasks ≡ b.tasks) (λ may. refl) (λ may. refl)

-- the box after a put, by what it finds
abbrev pub entered_by : Box → OwnPdu → Option ℕ → Box
entered_by b p x = elim x [ Some conn ↦ enter conn (own_outgoing p) b | None ↦ b ]

abbrev pub put_by : Box → OwnPdu → Option PutRefusal → Box
put_by b p x = elim x [ Some refusal ↦ b | None ↦ entered_by b p (own_conn b p) ]

pub put_tasks : (o : Opening) (b : Box) (p : OwnPdu) → (after_call o b (Puts p)).tasks ≡ b.tasks
put_tasks o b p = by_refusal (put_refusal o b p)
  where
    by_conn : (x : Option ℕ) → (entered_by b p x).tasks ≡ b.tasks
    by_conn (Some conn) = refl
    by_conn None = refl

    by_refusal : (x : Option PutRefusal) → (put_by b p x).tasks ≡ b.tasks
    by_refusal (Some refusal) = refl
    by_refusal None = by_conn (own_conn b p)

module _ (t c : ℕ) (among : Phase → Bool) (stays : Stays among) where
  record PhaseStands (n : ℕ) (b : Box) : Type 0 where
    come : HasCome among t b
    known : with_ticket t b.tasks ≤ n

  same : (n : ℕ) (b : Box) (ts : List Task) → ts ≡ b.tasks → PhaseStands n b → (b' : Box) → b'.tasks ≡ ts → PhaseStands n b'
  same n b ts is h b' is' = record {
    come = record { entered = subst (λ us. 1 ≤ with_ticket t us) (sym (is' ∙ is)) h.come.entered; phase = subst (AreIn among t) (sym (is' ∙ is)) h.come.phase };
    known = subst (λ us. with_ticket t us ≤ n) (sym (is' ∙ is)) h.known;
  }

  phase_moves : (n : ℕ) (b : Box) (f : Task → Task) → ((x : Task) → Onward x (f x)) → PhaseStands n b → PhaseStands n (record b { tasks = map f b.tasks })
  phase_moves n b f onward h =
      let counted : with_ticket t (map f b.tasks) ≡ with_ticket t b.tasks = ticket_counts t f (λ x. (onward x).ticket) b.tasks in
      record {
        come = record {
          entered = subst (λ k. 1 ≤ k) (sym counted) h.come.entered;
          phase = each-map (λ (x : Task). x.ticket ≡ t → among x.phase ≡ true) (λ (x : Task). x.ticket ≡ t → among x.phase ≡ true) f b.tasks
              (λ x k is. (onward x).phase among stays (k (sym (onward x).ticket ∙ is))) h.come.phase;
        };
        known = subst (λ k. k ≤ n) (sym counted) h.known;
      }

  phase_enters : (n k : ℕ) (b : Box) (ts : List Task) → n + k ≤ 1 → with_ticket t ts ≤ k → PhaseStands n b → PhaseStands (n + k) (record b { tasks = b.tasks ++ ts })
  phase_enters n k b ts once few h =
      let counted : with_ticket t (b.tasks ++ ts) ≡ with_ticket t b.tasks + with_ticket t ts = sum_by-append (λ (y : Task). cond (y.ticket == t) 1 0) b.tasks ts in
      let before : 1 ≤ with_ticket t b.tasks = h.come.entered in
      let known : with_ticket t b.tasks ≤ n = h.known in
      record {
        come = record {
          entered = omega (arith, counted, before);
          phase = each-append (λ (x : Task). x.ticket ≡ t → among x.phase ≡ true) b.tasks ts h.come.phase
              (each-weaken (λ (x : Task). x.ticket ≡ t → ⊥) (λ (x : Task). x.ticket ≡ t → among x.phase ≡ true) ts (λ x none is. absurd (none is)) (none_of t ts (omega (arith, before, known, once, few))));
        };
        known = omega (arith, counted, known, few);
      }

  sends_one : (o : Opening) (n : ℕ) (b : Box) (r : Option Request) (tickets conns closes : List ℕ) (x : Option (ℕ × Reply)) → PhaseStands n b → PhaseStands n (send o r tickets conns closes x b)
  sends_one o n b r tickets conns closes None h = h
  sends_one o n b r tickets conns closes (Some s) h = same n b b.tasks refl h (send o r tickets conns closes (Some s) b) (sent_tasks o b r tickets conns closes s)

  phase_walk : (o : Opening) → TaskWalk o t c PhaseStands
  phase_walk o = record {
    takes_out = λ n b tickets h. same n (in_phase phase_taken_out tickets b) _ refl (phase_moves n b (phased phase_taken_out tickets) (phased_onward phase_taken_out (λ in' s. s.taken_out) tickets) h) _ refl;
    phases = λ n b f onward back h. phase_moves n b f onward h;
    enters = λ n k b ts once conns few h. phase_enters n k b ts once few h;
    closes = λ n b conn h. same n b b.tasks refl h _ refl;
    cuts = λ n b conn h. same n b b.tasks refl h _ refl;
    drops_on = λ n b conn over h. same n b b.tasks refl h _ refl;
    moves = λ n b before rest a h. same n (record b { undue = before ++ a ∷ rest }) b.tasks refl h _ refl;
    sends = λ n b r tickets conns closes x h. sends_one o n b r tickets conns closes x h;
    numbers = λ n b exp max h. same n b b.tasks refl h _ refl;
    more = λ n k b h. record { come = h.come; known = let known : with_ticket t b.tasks ≤ n = h.known in omega (arith, known) };
  }

  settled : (o : Opening) (n : ℕ) (b : Box) → PhaseStands n b → PhaseStands n (settle o b)
  settled o n b h = task_settles o t c PhaseStands (phase_walk o) n b h

  phase_call : (o : Opening) (n : ℕ) (b : Box) (call : Call) → n + entries t (items_of_call call) ≤ 1 → EachOf (EntersOn t c) (items_of_call call) → PhaseStands n b → PhaseStands (n + entries t (items_of_call call)) (after_call o b call)
  phase_call o n b (Takes effects numbers) once on h = task_event o t c PhaseStands (phase_walk o) n b effects numbers once on h
  phase_call o n b (Puts p) once on h = (phase_walk o).more n 0 (after_call o b (Puts p)) (same n b b.tasks refl h (after_call o b (Puts p)) (put_tasks o b p))
  phase_call o n b (Stops ticket) once on h =
      (phase_walk o).more n 0 (after_call o b (Stops ticket))
      (cond_both (is_running b ticket) (settle o (in_phase phase_stopped (ticket ∷ []) b)) b (PhaseStands n)
      (λ is. settled o n (in_phase phase_stopped (ticket ∷ []) b) (phase_moves n b (phased phase_stopped (ticket ∷ [])) (phased_onward phase_stopped (λ in' s. s.stopped) (ticket ∷ [])) h)) (λ is. h))
  phase_call o n b (Nexts conn) once on h =
      (phase_walk o).more n 0 (after_call o b (Nexts conn))
      (⊎_elim
      (λ (k : Hand o b conn). same n b b.tasks refl h (after_call o b (Nexts conn)) (ap (λ (x : Box). x.tasks) k.after_is))
      (λ (k : Idle o b conn). same n b b.tasks refl h (after_call o b (Nexts conn)) (ap (λ (x : Box). x.tasks) k.after_is))
      (next o b conn))
  phase_call o n b (Writes conn) once on h =
      let marked : Box = record b { links = at_link conn one_written b.links } in (phase_walk o).more n 0 (after_call o b (Writes conn)) (settled o n marked (same n b b.tasks refl h marked refl))
  phase_call o n b (Hears conn exp_stat_sn tag) once on h =
      let marked : Box = record b { links = at_link conn (link_heard exp_stat_sn tag) b.links } in
      (phase_walk o).more n 0 (after_call o b (Hears conn exp_stat_sn tag)) (settled o n marked (same n b b.tasks refl h marked refl))
  phase_call o n b (Joins conn stat_sn) once on h =
      (phase_walk o).more n 0 (after_call o b (Joins conn stat_sn))
      (cond_both (may_join b conn) (record b { links = at_link conn (link_joined stat_sn) b.links }) b (PhaseStands n) (λ is. same n b b.tasks refl h _ refl) (λ is. h))
  phase_call o n b (Loses conn) once on h =
      let lost : Box = drop_on conn (record b { links = at_link conn link_lost b.links; reached = 0 }) in
      (phase_walk o).more n 0 (after_call o b (Loses conn)) (settled o n lost (same n b b.tasks refl h lost refl))
  phase_call o n b (Clears unit) once on h =
      let marked : Box = record b { undue = cleared unit b.undue } in (phase_walk o).more n 0 (after_call o b (Clears unit)) (settled o n marked (same n b b.tasks refl h marked refl))

  phase_calls : (o : Opening) (n : ℕ) (b : Box) (calls : List Call) → n + entries t (items_in (deeds_from o b calls)) ≤ 1 → EachOf (EntersOn t c) (items_in (deeds_from o b calls)) → PhaseStands n b
      → HasCome among t (after_calls o b calls)
  phase_calls o n b [] once on h = h.come
  phase_calls o n b (call ∷ calls) once on h =
      let now : List (List Effect) = items_of_call call in
      let then : List (List Effect) = items_in (deeds_from o (after_call o b call) calls) in
      let counted : entries t (now ++ then) ≡ entries t now + entries t then = entries-append t now then in
      phase_calls o (n + entries t now) (after_call o b call) calls (omega (arith, once, counted)) (each-second (EntersOn t c) now then on)
      (phase_call o n b call (omega (arith, once, counted)) (each-first (EntersOn t c) now then on) h)

deeds_cut : (o : Opening) (b : Box) (first rest : List Call) → deeds_from o b (first ++ rest) ≡ deeds_from o b first ++ deeds_from o (after_calls o b first) rest
deeds_cut o b [] rest = refl
deeds_cut o b (call ∷ first) rest = ap (λ ds. (call, answered o b call) ∷ ds) (deeds_cut o (after_call o b call) first rest)

-- a command stays in phases that it can't leave, whatever is called later
pub stays_in : (o : Opening) (first rest : List Call) → FollowsSession o (first ++ rest) → (among : Phase → Bool) → Stays among → (t : ℕ)
    → HasCome among t (after_calls o (opened o) first) → HasCome among t (after_calls o (after_calls o (opened o) first) rest)
stays_in o first rest follows among stays t h =
    let b : Box = after_calls o (opened o) first in
    let before : List (List Effect) = items_in (deeds_of o first) in
    let later : List (List Effect) = items_in (deeds_from o b rest) in
    let all : List (List Effect) = items_in (deeds_of o (first ++ rest)) in
    let parts : all ≡ before ++ later = ap items_in (deeds_cut o (opened o) first rest) ∙ items_in-append (deeds_of o first) (deeds_from o b rest) in
    let once : entries t all ≤ 1 = enters_once t o (first ++ rest) follows in
    let home = enters_on t all once in
    let stands : CommandStands t home.0 (entries t before) (deeds_of o first) b = command_stands t home.0 o all once home.1 first later (sym parts) in
    let counted : entries t all ≡ entries t before + entries t later = ap (entries t) parts ∙ entries-append t before later in
    phase_calls t home.0 among stays o (entries t before) b rest (omega (arith, counted, once))
    (each-second (EntersOn t home.0) before later (subst (EachOf (EntersOn t home.0)) parts home.1)) (record { come = h; known = stands.known })

-- what left stays left
pub stays_left : (o : Opening) (first rest : List Call) → FollowsSession o (first ++ rest) → (t : ℕ) → HasCome is_left_phase t (after_calls o (opened o) first) → HasCome is_left_phase t (after_calls o (after_calls o (opened o) first) rest)
stays_left o first rest follows t h = stays_in o first rest follows is_left_phase left_stays t h

-- what neither runs nor is live won't run again
pub stays_over : (o : Opening) (first rest : List Call) → FollowsSession o (first ++ rest) → (t : ℕ) → HasCome is_over_phase t (after_calls o (opened o) first) → HasCome is_over_phase t (after_calls o (after_calls o (opened o) first) rest)
stays_over o first rest follows t h = stays_in o first rest follows is_over_phase over_stays t h
