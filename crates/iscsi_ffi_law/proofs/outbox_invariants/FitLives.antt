-- The commands of a box are those of the session: the same are live, and each is on the connection of its request.
use Rattle.std.proofs.Common.{◌≡◌, ℕ, List, [], ◌∷◌, ◌++◌, map, filter_map, Option, Some, None, refl, ap, sym, subst, ◌∙◌, ⊎_elim}
use Rattle.std.specs.List.{flat_map}
use Rattle.std.proofs.lemmas.Bool.{cond_both}
use Rattle.std.proofs.lemmas.List.{append-nil, map-append}
use Rattle.iscsi_wire.specs.declared.request.Request.{Request}
use Rattle.iscsi_wire.specs.Fields.{connection_of}
use Rattle.iscsi_rules.specs.declared.effect.Effect.{Effect}
use Rattle.iscsi_rules.specs.declared.effect.Effect.TheVariants.{Enable}
use Rattle.iscsi_rules.specs.rules.Run.{effects_of_item, effects_of_mark, newly_enabled}
use Rattle.iscsi_rules.specs.rules.Settings.{Setting}
use Rattle.iscsi_rules.specs.rules.Trace.{Admits, Arrival, ClosesConn, ClosesSession, Command, Delivers, Empties, Enters, Executes, Ignores, Leaves, Mark, Sends, Trace, Voids, Waits, entered, enters}
use Rattle.iscsi_rules.proofs.items.Forms.{AfterWaiting, AtArrival, AtTurn, Completed, Each, EntersAs, Executed, Form, HasForm, Ignored, IsFormed, Postponed, Received, Rejected, Start, marks_of_form}
use Rattle.iscsi_rules.proofs.promises.NumberingLemmas.{to_list}
use Rattle.iscsi_rules.proofs.items.TouchLemmas.{enters_form}
use Rattle.iscsi_outbox_rules.specs.rules.Boxes.{Box, Completed as CompletedPhase, Dormant, Fresh, Gone, Phase, Running, Started, Task}
use Rattle.iscsi_outbox_rules.specs.rules.Calls.{Call, Clears, Hears, Joins, Loses, Nexts, Opening, Puts, Stops, Takes, Writes}
use Rattle.iscsi_outbox_rules.specs.rules.Due.{settle}
use Rattle.iscsi_outbox_rules.specs.rules.Items.{after_item, executing, in_phase, phase_enabled, phase_taken_out, phase_completed, task_entered, ticket_enabled, tickets_left}
use Rattle.iscsi_outbox_rules.specs.rules.Own.{own_conn, put_refusal}
use Rattle.iscsi_outbox_rules.specs.declared.own_pdu.PutRefusal.{PutRefusal}
use Rattle.iscsi_outbox_rules.specs.rules.Own.{own_outgoing}
use Rattle.iscsi_outbox_rules.specs.rules.Queues.{at_link, drop_on, enter}
use Rattle.iscsi_outbox_rules.specs.rules.Run.{after_call, cleared, link_heard, link_joined, link_lost, may_join, one_written, phase_stopped}
use Rattle.iscsi_outbox_rules.specs.rules.Words.{contains, is_live_phase, is_running}
use Rattle.iscsi_outbox_rules.proofs.general.Cuts.{Hand, Idle, next}
use Rattle.iscsi_outbox_rules.proofs.room.RoomLives.{SameLive}
use Rattle.iscsi_outbox_rules.proofs.room.RoomTasks.{live_same, live_tickets}
use Rattle.iscsi_outbox_rules.proofs.commands.TaskLives.{entered_tasks, item_tasks, left_tasks, settled_tasks}
use Rattle.iscsi_outbox_rules.proofs.general.TaskWalks.{phased}
use Rattle.iscsi_outbox_law.proofs.invariants.SoundCalls.{TakesNone}

-- ---- where each command is

abbrev pub home_of_task : Task → ℕ × ℕ
home_of_task t = (t.ticket, t.conn)

abbrev pub home_of_command : Command → ℕ × ℕ
home_of_command c = (c.ticket, connection_of c.arrival.request)

abbrev pub SameHomes : Box → Trace → Type 0
SameHomes b t = map home_of_task b.tasks ≡ map home_of_command (entered t)

homes_phased : (change : Phase → Phase) (tickets : List ℕ) (ts : List Task) → map home_of_task (map (phased change tickets) ts) ≡ map home_of_task ts
homes_phased change tickets [] = refl
homes_phased change tickets (x ∷ ts) =
    ap (λ h. h ∷ map home_of_task (map (phased change tickets) ts)) (cond_both (contains tickets x.ticket) (record x { phase = change x.phase }) x (λ (y : Task). home_of_task y ≡ home_of_task x) (λ is. refl) (λ is. refl))
    ∙ ap (λ hs. home_of_task x ∷ hs) (homes_phased change tickets ts)

-- those that enter with a request
entering_effects : (o : Setting) (t : Trace) (r : Request) (ms : List Mark) (cs : List Command)
    → map home_of_task (filter_map (task_entered r) (flat_map (effects_of_mark o t) ms ++ map (λ (c : Command). Enable c.ticket c.unit) cs)) ≡ map (λ (c : Command). (c.ticket, connection_of r)) (filter_map enters ms)
entering_effects o t r [] cs = none cs
  where
    none : (xs : List Command) → map home_of_task (filter_map (task_entered r) (map (λ (c : Command). Enable c.ticket c.unit) xs)) ≡ []
    none [] = refl
    none (x ∷ xs) = none xs
entering_effects o t r (Admits a ∷ ms) cs = entering_effects o t r ms cs
entering_effects o t r (Delivers a ∷ ms) cs = entering_effects o t r ms cs
entering_effects o t r (Executes a ∷ ms) cs = entering_effects o t r ms cs
entering_effects o t r (Voids n ∷ ms) cs = entering_effects o t r ms cs
entering_effects o t r (Empties a ∷ ms) cs = entering_effects o t r ms cs
entering_effects o t r (Waits a ∷ ms) cs = entering_effects o t r ms cs
entering_effects o t r (Leaves d ∷ ms) cs = entering_effects o t r ms cs
entering_effects o t r (Enters d ∷ ms) cs = ap (λ hs. (d.ticket, connection_of r) ∷ hs) (entering_effects o t r ms cs)
entering_effects o t r (Sends conn reply ∷ ms) cs = entering_effects o t r ms cs
entering_effects o t r (ClosesConn conn ∷ ms) cs = entering_effects o t r ms cs
entering_effects o t r (ClosesSession ∷ ms) cs = entering_effects o t r ms cs
entering_effects o t r (Ignores why ∷ ms) cs = entering_effects o t r ms cs

module _ (o : Opening) (t : Trace) (b : Box) (h : SameHomes b t) where
  -- an item by which none enters
  homes_none : (ms : List Mark) → filter_map enters ms ≡ [] → (r : Option Request) → executing (effects_of_item o.session t ms) ≡ r → SameHomes (after_item o b (effects_of_item o.session t ms)) (ms ∷ t)
  homes_none ms none r is =
      let es : List Effect = effects_of_item o.session t ms in
      ap (map home_of_task) (item_tasks o b es) ∙ homes_phased phase_enabled (filter_map ticket_enabled es) (entered_tasks (executing es) es (left_tasks (executing es) (tickets_left es) b.tasks))
      ∙ by_request (executing es) ∙ h ∙ sym (ap (map home_of_command) (ap (λ cs. entered t ++ cs) none ∙ append-nil (entered t)))
    where
      by_request : (x : Option Request) → map home_of_task (entered_tasks x (effects_of_item o.session t ms) (left_tasks x (tickets_left (effects_of_item o.session t ms)) b.tasks)) ≡ map home_of_task b.tasks
      by_request (Some q) =
          map-append home_of_task (map (phased phase_taken_out (tickets_left (effects_of_item o.session t ms))) b.tasks) (filter_map (task_entered q) (effects_of_item o.session t ms))
          ∙ ap (λ hs. map home_of_task (map (phased phase_taken_out (tickets_left (effects_of_item o.session t ms))) b.tasks) ++ hs) (entering_effects o.session t q ms (newly_enabled o.session t ms) ∙ ap (map (λ (c : Command). (c.ticket, connection_of q))) none)
          ∙ append-nil (map home_of_task (map (phased phase_taken_out (tickets_left (effects_of_item o.session t ms))) b.tasks))
          ∙ homes_phased phase_taken_out (tickets_left (effects_of_item o.session t ms)) b.tasks
      by_request None = homes_phased phase_completed (tickets_left (effects_of_item o.session t ms)) b.tasks

  -- .. and one by which these enter, with the request that executes
  homes_some : (ms : List Mark) (r : Request) → executing (effects_of_item o.session t ms) ≡ Some r → map home_of_command (filter_map enters ms) ≡ map (λ (c : Command). (c.ticket, connection_of r)) (filter_map enters ms)
      → SameHomes (after_item o b (effects_of_item o.session t ms)) (ms ∷ t)
  homes_some ms r is same =
      let es : List Effect = effects_of_item o.session t ms in
      let left : List Task = map (phased phase_taken_out (tickets_left es)) b.tasks in
      ap (map home_of_task) (item_tasks o b es) ∙ homes_phased phase_enabled (filter_map ticket_enabled es) (entered_tasks (executing es) es (left_tasks (executing es) (tickets_left es) b.tasks))
      ∙ ap (λ x. map home_of_task (entered_tasks x es (left_tasks x (tickets_left es) b.tasks))) is
      ∙ map-append home_of_task left (filter_map (task_entered r) es)
      ∙ ap (λ hs. hs ++ map home_of_task (filter_map (task_entered r) es)) (homes_phased phase_taken_out (tickets_left es) b.tasks ∙ h)
      ∙ ap (λ hs. map home_of_command (entered t) ++ hs) (entering_effects o.session t r ms (newly_enabled o.session t ms) ∙ sym same)
      ∙ sym (map-append home_of_command (entered t) (filter_map enters ms))

pub homes_item : (o : Opening) (now : ℕ) (t : Trace) (item : List Mark) (b : Box) → HasForm o.session now t item → SameHomes b t → SameHomes (after_item o b (effects_of_item o.session t item)) (item ∷ t)
homes_item o now t item b f h = subst (λ ms. SameHomes (after_item o b (effects_of_item o.session t ms)) (ms ∷ t)) (sym f.is) (by_form f.form f.formed)
  where
    entering : (start : Start) (a : Arrival) (d : _) → executing (effects_of_item o.session t (marks_of_form (Executed start a d))) ≡ Some a.request → Each (EntersAs o.session t a d) d.entering
        → SameHomes (after_item o b (effects_of_item o.session t (marks_of_form (Executed start a d)))) (marks_of_form (Executed start a d) ∷ t)
    entering start a d is each =
        homes_some o t b h (marks_of_form (Executed start a d)) a.request is
        (ap (map home_of_command) (enters_form (Executed start a d)) ∙ by_entering d.entering each ∙ sym (ap (map (λ (c : Command). (c.ticket, connection_of a.request))) (enters_form (Executed start a d))))
      where
        by_entering : (y : Option Command) → Each (EntersAs o.session t a d) y → map home_of_command (to_list y) ≡ map (λ (c : Command). (c.ticket, connection_of a.request)) (to_list y)
        by_entering None e = refl
        by_entering (Some c) e = ap (λ (b' : Arrival). (c.ticket, connection_of b'.request) ∷ []) (ap (λ (z : Command). z.arrival) e.next)

    by_form : (form : Form) → IsFormed o.session now t form → SameHomes (after_item o b (effects_of_item o.session t (marks_of_form form))) (marks_of_form form ∷ t)
    by_form (Ignored why) formed = homes_none o t b h (marks_of_form (Ignored why)) refl _ refl
    by_form (Rejected a) formed = homes_none o t b h (marks_of_form (Rejected a)) refl _ refl
    by_form (Received a) formed = homes_none o t b h (marks_of_form (Received a)) refl _ refl
    by_form (Postponed a) formed = homes_none o t b h (marks_of_form (Postponed a)) refl _ refl
    by_form (Completed c status) formed = homes_none o t b h (marks_of_form (Completed c status)) refl _ refl
    by_form (Executed AtTurn a d) formed = entering AtTurn a d refl formed.1.enters
    by_form (Executed AtArrival a d) formed = entering AtArrival a d refl formed.1.enters
    by_form (Executed AfterWaiting a d) formed = entering AfterWaiting a d refl formed.1.enters

pub homes_empty : (o : Opening) (t : Trace) (b : Box) → SameHomes b t → SameHomes (after_item o b []) t
homes_empty o t b h = ap (map home_of_task) (item_tasks o b []) ∙ homes_phased phase_enabled [] (map (phased phase_completed []) b.tasks) ∙ homes_phased phase_completed [] b.tasks ∙ h

-- ---- a call that takes no event

-- it lets one command stop at the most
pub data Moved (b b' : Box) : Type 0 where
  Same : b'.tasks ≡ b.tasks → Moved b b'
  Stopping : (ticket : ℕ) → b'.tasks ≡ map (phased phase_stopped (ticket ∷ [])) b.tasks → Moved b b'

pub moved : (o : Opening) (b : Box) (c : Call) → TakesNone c → Moved b (after_call o b c)
moved o b (Takes effects numbers) none = absurd none
moved o b (Puts p) none = by_refusal (put_refusal o b p)
  where
    by_conn : (x : Option ℕ) → Moved b (elim x as (λ y. Box) [ Some conn ↦ enter conn (own_outgoing p) b | None ↦ b ])
    by_conn None = Same refl
    by_conn (Some conn) = Same refl

    by_refusal : (x : Option PutRefusal) → Moved b (elim x as (λ y. Box) [ Some refusal ↦ b | None ↦ elim (own_conn b p) [ Some conn ↦ enter conn (own_outgoing p) b | None ↦ b ] ])
    by_refusal (Some refusal) = Same refl
    by_refusal None = by_conn (own_conn b p)
moved o b (Stops ticket) none =
    let b' : Box = in_phase phase_stopped (ticket ∷ []) b in
    cond_both (is_running b ticket) (settle o b') b (Moved b) (λ is. Stopping ticket (settled_tasks o b')) (λ is. Same refl)
moved o b (Nexts conn) none = ⊎_elim (λ (k : Hand o b conn). Same (ap (λ (x : Box). x.tasks) k.after_is)) (λ (k : Idle o b conn). Same (ap (λ (x : Box). x.tasks) k.after_is)) (next o b conn)
moved o b (Writes conn) none = Same (settled_tasks o (record b { links = at_link conn one_written b.links }))
moved o b (Hears conn exp_stat_sn tag) none = Same (settled_tasks o (record b { links = at_link conn (link_heard exp_stat_sn tag) b.links }))
moved o b (Joins conn stat_sn) none = cond_both (may_join b conn) (record b { links = at_link conn (link_joined stat_sn) b.links }) b (Moved b) (λ may. Same refl) (λ may. Same refl)
moved o b (Loses conn) none = Same (settled_tasks o (drop_on conn (record b { links = at_link conn link_lost b.links; reached = 0 })))
moved o b (Clears unit) none = Same (settled_tasks o (record b { undue = cleared unit b.undue }))

still_live : (p : Phase) → is_live_phase (phase_stopped p) ≡ is_live_phase p
still_live Dormant = refl
still_live Fresh = refl
still_live Started = refl
still_live CompletedPhase = refl
still_live Running = refl
still_live Gone = refl

moved_live : (b b' : Box) → Moved b b' → live_tickets b'.tasks ≡ live_tickets b.tasks
moved_live b b' (Same tasks) = ap live_tickets tasks
moved_live b b' (Stopping ticket tasks) =
    ap live_tickets tasks
    ∙ live_same (phased phase_stopped (ticket ∷ []))
    (λ x. cond_both (contains (ticket ∷ []) x.ticket) (record x { phase = phase_stopped x.phase }) x (λ (y : Task). (y.ticket ≡ x.ticket) × (is_live_phase y.phase ≡ is_live_phase x.phase)) (λ is. (refl, still_live x.phase)) (λ is. (refl, refl))) b.tasks

moved_homes : (b b' : Box) → Moved b b' → map home_of_task b'.tasks ≡ map home_of_task b.tasks
moved_homes b b' (Same tasks) = ap (map home_of_task) tasks
moved_homes b b' (Stopping ticket tasks) = ap (map home_of_task) tasks ∙ homes_phased phase_stopped (ticket ∷ []) b.tasks

pub lives_call : (o : Opening) (b : Box) (c : Call) (t : Trace) → TakesNone c → SameLive o b t → SameLive o (after_call o b c) t
lives_call o b c t none h = moved_live b (after_call o b c) (moved o b c none) ∙ h

pub homes_call : (o : Opening) (b : Box) (c : Call) (t : Trace) → TakesNone c → SameHomes b t → SameHomes (after_call o b c) t
homes_call o b c t none h = moved_homes b (after_call o b c) (moved o b c none) ∙ h
