-- The commands that are live or owe have places, where requests are read while there is room.
use Rattle.std.proofs.Common.{◌≡◌, ℕ, ◌+◌, ◌≤◌, ◌<◌, ◌==◌, ◌&&◌, ◌||◌, ⊎_elim, cond, Bool, true, false, List, [], ◌∷◌, ◌++◌, length, refl, ap, sym, ◌∙◌, subst, arith, nat_lt, length-append}
use Rattle.std.specs.List.{list_any, flat_map}
use Rattle.std.proofs.lemmas.Bool.{cond_both, false≢true, eqb-true}
use Rattle.std.proofs.lemmas.Bool.Decides.{nat_tests}
use Rattle.std.proofs.lemmas.List.{append_assoc}
use Rattle.iscsi_wire.specs.Fields.{connection_of, is_immediate, opcode, request_of}
use Rattle.iscsi_rules.specs.declared.entry.Entry.{Entry}
use Rattle.iscsi_rules.specs.declared.event.Event.{Event}
use Rattle.iscsi_rules.specs.declared.event.Event.TheVariants.{Arrive, Done}
use Rattle.iscsi_rules.specs.rules.Settings.{is_known}
use Rattle.iscsi_rules.specs.rules.Trace.{live}
use Rattle.iscsi_rules.specs.rules.Agenda.{arrival_of, belongs, items_of}
use Rattle.iscsi_rules.specs.rules.Run.{entry_of, trace_of, run_of, after_event}
use Rattle.iscsi_rules.proofs.general.BoolLemmas.{and_parts}
use Rattle.iscsi_rules.proofs.traces.RunLemmas.{trace_of-push, run_of-push}
use Rattle.iscsi_rules.proofs.items.Forms.{HaveForms}
use Rattle.iscsi_rules.proofs.items.FormRuns.{event_going}
use Rattle.iscsi_outbox_rules.specs.rules.Calls.{Opening, Call, Takes, Puts, Stops, Nexts, Writes, Hears, Joins, Loses, Clears}
use Rattle.iscsi_outbox_rules.specs.rules.Boxes.{Phase, Dormant, Fresh, Started, Completed, Running, Gone, Task, Link, Box}
use Rattle.iscsi_outbox_rules.specs.rules.Words.{contains, is_live_phase, is_running, replies_waiting, room, owing, may_take}
use Rattle.iscsi_outbox_rules.specs.rules.Queues.{at_link, drop_on}
use Rattle.iscsi_outbox_rules.specs.rules.Due.{settle}
use Rattle.iscsi_outbox_rules.specs.rules.Items.{in_phase}
use Rattle.iscsi_outbox_rules.specs.rules.Run.{opened, after_call, after_calls, phase_stopped, one_written, link_heard, may_join, link_joined, link_lost, cleared}
use Rattle.iscsi_outbox_rules.specs.promises.Deeds.{entry_taken}
use Rattle.iscsi_outbox_rules.specs.promises.Room.{Step, Happens, Other, Both, is_other, after_step, after_steps, begun, is_parting, is_read_with_room, all_are, places, tasks_kept, TasksFit}
use Rattle.iscsi_outbox_rules.proofs.general.Cuts.{Hand, Idle, next}
use Rattle.iscsi_outbox_rules.proofs.aborts.ScopeConns.{KnownIn, event_known}
use Rattle.iscsi_outbox_rules.proofs.commands.TaskRuns.{put_tasks}
use Rattle.iscsi_outbox_rules.proofs.commands.TaskLives.{settled_tasks}
use Rattle.iscsi_outbox_rules.proofs.room.RoomBound.{few_at_once}
use Rattle.iscsi_outbox_rules.proofs.room.RoomTurns.{Within, event_limits, none_limits}
use Rattle.iscsi_outbox_rules.proofs.room.RoomTasks.{live_tickets, live_same}
use Rattle.iscsi_outbox_rules.proofs.room.RoomLives.{SameLive, lives_event, same_count}
use Rattle.iscsi_outbox_rules.proofs.room.RoomEnters.{pending, Entering, event_enters, done_enters, parting_enters}
use Rattle.iscsi_outbox_rules.proofs.room.RoomWeights.{all_counted, event_kept}
use Rattle.iscsi_outbox_rules.proofs.room.RoomKept.{untaken, call_kept}

-- ---- the calls with one more

calls_push : (o : Opening) (b : Box) (cs : List Call) (c : Call) → after_calls o b (cs ++ c ∷ []) ≡ after_call o (after_calls o b cs) c
calls_push o b [] c = refl
calls_push o b (x ∷ cs) c = calls_push o (after_call o b x) cs c

taken_push : (cs : List Call) (c : Call) → flat_map entry_taken (cs ++ c ∷ []) ≡ flat_map entry_taken cs ++ entry_taken c
taken_push [] (Takes effects numbers) = refl
taken_push [] (Puts p) = refl
taken_push [] (Stops ticket) = refl
taken_push [] (Nexts conn) = refl
taken_push [] (Writes conn) = refl
taken_push [] (Hears conn exp_stat_sn tag) = refl
taken_push [] (Joins conn stat_sn) = refl
taken_push [] (Loses conn) = refl
taken_push [] (Clears unit) = refl
taken_push (x ∷ cs) c = ap (λ es. entry_taken x ++ es) (taken_push cs c) ∙ sym (append_assoc (entry_taken x) (flat_map entry_taken cs) (entry_taken c))

pub none_taken : (c : Call) → is_other c ≡ true → entry_taken c ≡ []
none_taken (Takes effects numbers) is = absurd (false≢true is)
none_taken (Puts p) is = refl
none_taken (Stops ticket) is = refl
none_taken (Nexts conn) is = refl
none_taken (Writes conn) is = refl
none_taken (Hears conn exp_stat_sn tag) is = refl
none_taken (Joins conn stat_sn) is = refl
none_taken (Loses conn) is = refl
none_taken (Clears unit) is = refl

same_stopped : (p : Phase) → is_live_phase (phase_stopped p) ≡ is_live_phase p
same_stopped Dormant = refl
same_stopped Fresh = refl
same_stopped Started = refl
same_stopped Completed = refl
same_stopped Running = refl
same_stopped Gone = refl

module _ (o : Opening) where
  -- a call that takes no event leaves the live commands as they are
  live_call : (b : Box) (c : Call) → is_other c ≡ true → live_tickets (after_call o b c).tasks ≡ live_tickets b.tasks
  live_call b (Takes effects numbers) is = absurd (false≢true is)
  live_call b (Puts p) is = ap live_tickets (put_tasks o b p)
  live_call b (Stops ticket) is =
      cond_both (is_running b ticket) (settle o (in_phase phase_stopped (ticket ∷ []) b)) b (λ (x : Box). live_tickets x.tasks ≡ live_tickets b.tasks)
      (λ runs.
      ap live_tickets (settled_tasks o (in_phase phase_stopped (ticket ∷ []) b))
      ∙ live_same (λ (y : Task). cond (contains (ticket ∷ []) y.ticket) (record y { phase = phase_stopped y.phase }) y)
      (λ y. cond_both (contains (ticket ∷ []) y.ticket) (record y { phase = phase_stopped y.phase }) y (λ (z : Task). (z.ticket ≡ y.ticket) × (is_live_phase z.phase ≡ is_live_phase y.phase)) (λ has. (refl, same_stopped y.phase)) (λ has. (refl, refl))) b.tasks)
      (λ runs. refl)
  live_call b (Nexts conn) is =
      ap live_tickets (⊎_elim (λ (k : Hand o b conn). ap (λ (x : Box). x.tasks) k.after_is) (λ (k : Idle o b conn). ap (λ (x : Box). x.tasks) k.after_is) (next o b conn))
  live_call b (Writes conn) is = ap live_tickets (settled_tasks o (record b { links = at_link conn one_written b.links }))
  live_call b (Hears conn exp_stat_sn tag) is = ap live_tickets (settled_tasks o (record b { links = at_link conn (link_heard exp_stat_sn tag) b.links }))
  live_call b (Joins conn stat_sn) is = cond_both (may_join b conn) (record b { links = at_link conn (link_joined stat_sn) b.links }) b (λ (x : Box). live_tickets x.tasks ≡ live_tickets b.tasks) (λ may. refl) (λ may. refl)
  live_call b (Loses conn) is = ap live_tickets (settled_tasks o (drop_on conn (record b { links = at_link conn link_lost b.links; reached = 0 })))
  live_call b (Clears unit) is = ap live_tickets (settled_tasks o (record b { undue = cleared unit b.undue }))

  -- a session and its outbox, and what stands of them
  pub record Keeps (s : Both) : Type 0 where
    pub calls : List Call
    pub events : List Event
    pub box_is : s.box ≡ after_calls o (opened o) calls
    pub follows : flat_map entry_taken calls ≡ run_of o.session events
    pub trace_is : s.trace ≡ trace_of o.session events
    pub event_is : s.event ≡ length events
    pub within : Within o.session s.trace
    pub forms : HaveForms o.session s.event s.trace
    pub known : KnownIn o.session s.trace
    pub same : SameLive o s.box s.trace
    pub few : tasks_kept o s.box + pending s.trace ≤ places o

  -- an event comes with so many more at the most
  pub record Comes (s : Both) (e : Event) : Type 0 where
    pub more : ℕ
    pub mine : belongs o.session e ≡ true
    pub entering : Entering o.session more s.trace (items_of o.session s.event s.trace e)
    pub fits : tasks_kept o s.box + pending s.trace + more ≤ places o

  taken : (s : Both) (e : Event) → Comes s e → Keeps s → Keeps (after_step o s (Happens e))
  taken s e x h =
      let entry : Entry = entry_of o.session s.event s.trace e in
      let c : Call = Takes entry.effects entry.numbers in
      record {
        calls = h.calls ++ c ∷ [];
        events = h.events ++ e ∷ [];
        box_is = ap (λ x. after_call o x c) h.box_is ∙ sym (calls_push o (opened o) h.calls c);
        follows = taken_push h.calls c ∙ ap (λ es. es ++ entry ∷ []) h.follows ∙ ap (λ n. run_of o.session h.events ++ entry_of o.session n s.trace e ∷ []) h.event_is
            ∙ ap (λ t. run_of o.session h.events ++ entry_of o.session (length h.events) t e ∷ []) h.trace_is ∙ sym (run_of-push o.session h.events e);
        trace_is = ap (λ n. after_event o.session n s.trace e) h.event_is ∙ ap (λ t. after_event o.session (length h.events) t e) h.trace_is ∙ sym (trace_of-push o.session h.events e);
        event_is = (let z : s.event + 1 ≡ length (h.events ++ e ∷ []) = omega (arith, h.event_is, length-append h.events (e ∷ [])) in z);
        within = event_limits o.session s.event s.trace e h.within;
        forms = event_going o.session s.event s.trace e h.forms;
        known = event_known o.session s.event s.trace e x.mine h.known;
        same = lives_event o s.event s.trace e s.box h.forms h.same;
        few = omega (arith, event_kept o x.more s.event s.trace e s.box x.entering, x.fits);
      }

  arrives : (s : Both) (conn : ℕ) (header : List ℕ) → is_read_with_room o s (Happens (Arrive conn header)) ≡ true → Keeps s → Comes s (Arrive conn header)
  arrives s conn header read h =
      let parts = and_parts (is_known conn o.session.conns) (may_take o s.box || is_parting s (request_of conn header)) read in
      by_room (may_take o s.box) refl parts.0 parts.1
    where
      by_room : (v : Bool) → may_take o s.box ≡ v → is_known conn o.session.conns ≡ true → (v || is_parting s (request_of conn header)) ≡ true → Comes s (Arrive conn header)
      by_room true is mine any =
          let fits = and_parts (nat_lt (replies_waiting s.box) (room o)) (nat_lt (owing o s.box) (room o)) is in
          let below : nat_lt (owing o s.box) (room o) ≡ true = fits.1 in
          let less : owing o s.box < room o = grind (arith, nat_tests) in
          record {
            more = 1;
            mine = mine;
            entering = event_enters o.session s.event s.trace (Arrive conn header);
            fits = omega (arith, less, few_at_once o.session s.trace s.event h.forms h.within h.known, same_count o s.box s.trace h.same, all_counted (live s.trace));
          }
      by_room false is mine parted =
          let r = request_of conn header in
          let first = and_parts (is_immediate r && opcode r == 0x06) (list_any (λ (l : Link). l.conn == connection_of r && l.lost) s.box.links) parted in
          let second = and_parts (is_immediate r) (opcode r == 0x06) first.0 in
          record {
            more = 0;
            mine = mine;
            entering = parting_enters o.session s.trace (arrival_of o.session s.event s.trace r) second.0 (eqb-true (opcode r) 6 second.1);
            fits = omega (arith, h.few);
          }

  pub comes : (s : Both) (e : Event) → is_read_with_room o s (Happens e) ≡ true → Keeps s → Comes s e
  comes s (Arrive conn header) read h = arrives s conn header read h
  comes s (Done ticket status) read h = record { more = 0; mine = refl; entering = done_enters o.session s.event s.trace ticket status; fits = omega (arith, h.few) }

  pub step_keeps : (s : Both) (step : Step) → is_read_with_room o s step ≡ true → Keeps s → Keeps (after_step o s step)
  step_keeps s (Happens e) read h = taken s e (comes s e read h) h
  step_keeps s (Other c) read h =
      let kept : tasks_kept o (after_call o s.box c) ≤ tasks_kept o s.box = subst (λ x. tasks_kept o (after_call o x c) ≤ tasks_kept o x) (sym h.box_is) (call_kept o h.calls (h.events, h.follows) c read) in
      record {
        calls = h.calls ++ c ∷ [];
        events = h.events;
        box_is = ap (λ x. after_call o x c) h.box_is ∙ sym (calls_push o (opened o) h.calls c);
        follows = untaken h.calls c (none_taken c read) ∙ h.follows;
        trace_is = h.trace_is;
        event_is = h.event_is;
        within = h.within;
        forms = h.forms;
        known = h.known;
        same = live_call s.box c read ∙ h.same;
        few = omega (arith, kept, h.few);
      }

  steps_keep : (s : Both) (steps : List Step) → all_are (is_read_with_room o) o s steps ≡ true → Keeps s → Keeps (after_steps o s steps)
  steps_keep s [] all h = h
  steps_keep s (step ∷ steps) all h =
      let parts = and_parts (is_read_with_room o s step) (all_are (is_read_with_room o) o (after_step o s step) steps) all in
      steps_keep (after_step o s step) steps parts.1 (step_keeps s step parts.0 h)

  pub begun_keeps : Keeps (begun o)
  begun_keeps = record {
    calls = [];
    events = [];
    box_is = refl;
    follows = refl;
    trace_is = refl;
    event_is = refl;
    within = none_limits o.session;
    forms = tt;
    known = tt;
    same = refl;
    few = omega arith;
  }

  pub tasks_fit : (steps : List Step) → TasksFit o steps
  tasks_fit steps read =
      let h : Keeps (after_steps o (begun o) steps) = steps_keep (begun o) steps read begun_keeps in
      omega (arith, h.few)
