-- A request that is kept no more isn't needed again, and each that is kept is needed.
use Rattle.std.proofs.Common.{◌≡◌, ℕ, ◌+◌, ◌<◌, ◌==◌, ◌&&◌, ◌||◌, not, cond, Bool, true, false, List, [], ◌∷◌, ◌++◌, map, filter, length, Option, Some, None, refl, ap, sym, subst, ◌∙◌, arith}
use Rattle.std.specs.List.{list_any, list_all}
use Rattle.std.proofs.lemmas.Bool.{false≢true, cond_both, eqb-true}
use Rattle.std.proofs.lemmas.List.Folds.{list_any-append}
use Rattle.iscsi_rules.specs.declared.event.Event.TheVariants.{Arrive}
use Rattle.iscsi_rules.specs.rules.Trace.{Command, Trace, first_of, has, entered, leaves_ticket, live, is_among}
use Rattle.iscsi_rules.proofs.general.BoolLemmas.{or_none, or_first, or_second}
use Rattle.iscsi_rules.proofs.general.ListLemmas.{all_of_filter, any_filter, list_any-map}
use Rattle.iscsi_rules.proofs.promises.MomentLemmas.{left_unlive}
use Rattle.iscsi_outbox_rules.specs.declared.own_pdu.OwnPdu.{OwnPdu}
use Rattle.iscsi_outbox_rules.specs.declared.own_pdu.OwnPdu.TheVariants.{OfCommand, OfConnection}
use Rattle.iscsi_outbox_rules.specs.declared.own_pdu.PutRefusal.{PutRefusal}
use Rattle.iscsi_outbox_rules.specs.declared.own_pdu.PutRefusal.TheVariants.{Unfit, Gone as GoneRefusal}
use Rattle.iscsi_outbox_rules.specs.rules.Calls as outbox
use Rattle.iscsi_outbox_rules.specs.rules.Boxes.{Phase, Dormant, Fresh, Started, Completed, Running, Gone, Task, Handed, Answer, Link, Box}
use Rattle.iscsi_outbox_rules.specs.rules.Words.{contains, is_live_phase, is_running_phase, is_running}
use Rattle.iscsi_outbox_rules.specs.rules.Queues.{at_link, enter, drop_on}
use Rattle.iscsi_outbox_rules.specs.rules.Due.{is_due, settle_from, settle}
use Rattle.iscsi_outbox_rules.specs.rules.Own.{is_fit, live_task, own_conn, own_ticket, own_outgoing, put_refusal, refusal_on}
use Rattle.iscsi_outbox_rules.specs.rules.Items.{in_phase}
use Rattle.iscsi_outbox_rules.specs.rules.Handing.{Given, Hands, Nothing, IsOver, given, link_of, after_given}
use Rattle.iscsi_outbox_rules.specs.rules.Run.{phase_stopped, one_written, link_heard, may_join, link_joined, link_lost, cleared, new_link, after_call as after_outbox_call}
use Rattle.iscsi_outbox_rules.specs.promises.Room.{is_other}
use Rattle.iscsi_outbox_rules.proofs.general.EachLemmas.{EachOf}
use Rattle.iscsi_outbox_rules.proofs.room.RoomTasks.{live_tickets, live_same, settled_tasks}
use Rattle.iscsi_ffi_rules.specs.declared.action.Action.{Action}
use Rattle.iscsi_ffi_rules.specs.declared.refusal.Refusal.{Refusal}
use Rattle.iscsi_ffi_rules.specs.rules.Calls.{Interface, Call, Arrives, Completes, Stops, Nexts, Puts, Writes, Hears, Joins, Loses, Clears, Cleared}
use Rattle.iscsi_ffi_rules.specs.rules.Sides.{Asked, Side, opened}
use Rattle.iscsi_ffi_rules.specs.rules.Needs.{is_of_event, is_held, is_waiting, is_live, runs, is_about, waits, is_being_written, left_to_write, is_needed}
use Rattle.iscsi_ffi_rules.specs.rules.Happening.{Told, is_asked, happening, happens, other}
use Rattle.iscsi_ffi_rules.specs.rules.Run.{Refused, Answered, done, answers, refusal_of, heard_in, ended, called, after_call}
use Rattle.iscsi_ffi_rules.specs.promises.Deeds.{side_after, side_of}
use Rattle.iscsi_ffi_rules.specs.promises.Needed.{event_taken, events_from, NeededNoMore, KeepsNeeded}
use Rattle.iscsi_ffi_rules.proofs.Follows.{Follows, follows_begun, follows_event, follows_forms}
use Rattle.iscsi_ffi_rules.proofs.SideWalks.{InCall, Kept, in_call, on_withheld, on_happens, on_called, kept_by_call, kept_by_calls}
use Rattle.iscsi_ffi_rules.proofs.BoxOuts.{OfLink, of_other, Putting}
use Rattle.iscsi_ffi_rules.proofs.NeedForms.{any_none, unlive_ticket}
use Rattle.iscsi_ffi_rules.proofs.NeedItems.{about, Below, Core, Fine, core_event, fine_event}

-- ---- a call of the outbox that takes no event

settled_sent : (o : outbox.Opening) (before rest : List Answer) (b : Box) → (settle_from o before rest b).sent ≡ b.sent
settled_sent o before [] b = refl
settled_sent o before (a ∷ rest) b =
    cond_both (is_due o b before a) (settle_from o before rest (enter a.conn a.out b)) (settle_from o (before ++ a ∷ []) rest b) (λ (x : Box). x.sent ≡ b.sent)
    (λ due. settled_sent o before rest (enter a.conn a.out b)) (λ undue. settled_sent o (before ++ a ∷ []) rest b)

-- it sends no reply, and lets one command stop at the most
data Moved (b b' : Box) : Type 0 where
  Same : b'.tasks ≡ b.tasks → b'.sent ≡ b.sent → Moved b b'
  Stopping : (ticket : ℕ) → b'.tasks ≡ (in_phase phase_stopped (ticket ∷ []) b).tasks → b'.sent ≡ b.sent → Moved b b'

settles : (o : outbox.Opening) (b b' : Box) → b'.tasks ≡ b.tasks → b'.sent ≡ b.sent → Moved b (settle o b')
settles o b b' tasks sent = Same (settled_tasks o b' ∙ tasks) (settled_sent o [] b'.undue b' ∙ sent)

moved : (o : outbox.Opening) (b : Box) (c : outbox.Call) → is_other c ≡ true → Moved b (after_outbox_call o b c)
moved o b (outbox.Takes effects numbers) h = absurd (false≢true h)
moved o b (outbox.Puts p) h = by_refusal (put_refusal o b p)
  where
    by_conn : (x : Option ℕ) → Moved b (elim x [ Some conn ↦ enter conn (own_outgoing p) b | None ↦ b ])
    by_conn None = Same refl refl
    by_conn (Some conn) = Same refl refl

    by_refusal : (x : Option PutRefusal) → Moved b (elim x [ Some refusal ↦ b | None ↦ elim (own_conn b p) [ Some conn ↦ enter conn (own_outgoing p) b | None ↦ b ] ])
    by_refusal (Some refusal) = Same refl refl
    by_refusal None = by_conn (own_conn b p)
moved o b (outbox.Stops ticket) h =
    let b' : Box = in_phase phase_stopped (ticket ∷ []) b in
    cond_both (is_running b ticket) (settle o b') b (Moved b) (λ is. Stopping ticket (settled_tasks o b') (settled_sent o [] b'.undue b')) (λ is. Same refl refl)
moved o b (outbox.Nexts conn) h = by_link (link_of b conn)
  where
    by_given : (l : Link) (g : Given) → Moved b (elim g [ Hands k ↦ after_given o b l k | Nothing ↦ b | IsOver ↦ b ])
    by_given l (Hands k) = Same refl refl
    by_given l Nothing = Same refl refl
    by_given l IsOver = Same refl refl

    by_link : (x : Option Link) → Moved b (elim x [ Some l ↦ elim (given o b conn) [ Hands k ↦ after_given o b l k | Nothing ↦ b | IsOver ↦ b ] | None ↦ b ])
    by_link None = Same refl refl
    by_link (Some l) = by_given l (given o b conn)
moved o b (outbox.Writes conn) h = settles o b (record b { links = at_link conn one_written b.links }) refl refl
moved o b (outbox.Hears conn exp_stat_sn tag) h = settles o b (record b { links = at_link conn (link_heard exp_stat_sn tag) b.links }) refl refl
moved o b (outbox.Joins conn stat_sn) h = cond_both (may_join b conn) (record b { links = at_link conn (link_joined stat_sn) b.links }) b (Moved b) (λ may. Same refl refl) (λ may. Same refl refl)
moved o b (outbox.Loses conn) h = settles o b (drop_on conn (record b { links = at_link conn link_lost b.links; reached = 0 })) refl refl
moved o b (outbox.Clears unit) h = settles o b (record b { undue = cleared unit b.undue }) refl refl

live_stopped : (p : Phase) → is_live_phase (phase_stopped p) ≡ is_live_phase p
live_stopped Dormant = refl
live_stopped Fresh = refl
live_stopped Started = refl
live_stopped Completed = refl
live_stopped Running = refl
live_stopped Gone = refl

unrun_stopped : (p : Phase) → is_running_phase p ≡ false → is_running_phase (phase_stopped p) ≡ false
unrun_stopped Dormant h = refl
unrun_stopped Fresh h = refl
unrun_stopped Started h = refl
unrun_stopped Completed h = refl
unrun_stopped Running h = absurd (false≢true (sym h))
unrun_stopped Gone h = refl

moved_live : (b b' : Box) → Moved b b' → live_tickets b'.tasks ≡ live_tickets b.tasks
moved_live b b' (Same tasks sent) = ap live_tickets tasks
moved_live b b' (Stopping ticket tasks sent) =
    ap live_tickets tasks
    ∙ live_same (λ (x : Task). cond (contains (ticket ∷ []) x.ticket) (record x { phase = phase_stopped x.phase }) x)
    (λ x. cond_both (contains (ticket ∷ []) x.ticket) (record x { phase = phase_stopped x.phase }) x (λ (y : Task). (y.ticket ≡ x.ticket) × (is_live_phase y.phase ≡ is_live_phase x.phase)) (λ is. (refl, live_stopped x.phase)) (λ is. (refl, refl))) b.tasks

moved_sent : (b b' : Box) → Moved b b' → b'.sent ≡ b.sent
moved_sent b b' (Same tasks sent) = sent
moved_sent b b' (Stopping ticket tasks sent) = sent

moved_unrun : (b b' : Box) → Moved b b' → (k : ℕ) → is_running b k ≡ false → is_running b' k ≡ false
moved_unrun b b' (Same tasks sent) k h = ap (list_any (λ (x : Task). x.ticket == k && is_running_phase x.phase)) tasks ∙ h
moved_unrun b b' (Stopping ticket tasks sent) k h =
    let change : Task → Task = λ x. cond (contains (ticket ∷ []) x.ticket) (record x { phase = phase_stopped x.phase }) x in
    ap (list_any (λ (x : Task). x.ticket == k && is_running_phase x.phase)) tasks
    ∙ list_any-map (λ (x : Task). x.ticket == k && is_running_phase x.phase) change b.tasks
    ∙ any_none (λ (x : Task). x.ticket == k && is_running_phase x.phase) (λ (x : Task). (change x).ticket == k && is_running_phase (change x).phase) b.tasks
    (λ x none. cond_both (contains (ticket ∷ []) x.ticket) (record x { phase = phase_stopped x.phase }) x (λ (y : Task). (y.ticket == k && is_running_phase y.phase) ≡ false) (λ is. by_test (x.ticket == k) x.phase none) (λ is. none)) h
  where
    by_test : (a : Bool) (p : Phase) → (a && is_running_phase p) ≡ false → (a && is_running_phase (phase_stopped p)) ≡ false
    by_test true p none = unrun_stopped p none
    by_test false p none = refl

-- a PDU of a command is taken only while that is live
first_some : (p : Task → Bool) (ts : List Task) (x : Task) → first_of (filter p ts) ≡ Some x → list_any p ts ≡ true
first_some p [] x h = absurd cc
first_some p (y ∷ ts) x h =
    elim (p y) as (λ b. first_of (cond b (y ∷ filter p ts) (filter p ts)) ≡ Some x → (b || list_any p ts) ≡ true) [
      | true ↦ λ here. refl
      | false ↦ λ later. first_some p ts x later
    ] h

task_live : (b : Box) (k : ℕ) (x : Task) → live_task b k ≡ Some x → contains (live_tickets b.tasks) k ≡ true
task_live b k x found = by_test (contains (live_tickets b.tasks) k) refl
  where
    swapped : (a l : Bool) → (l && a) ≡ false → (a && l) ≡ false
    swapped true true h = h
    swapped true false h = refl
    swapped false l h = refl

    by_test : (v : Bool) → contains (live_tickets b.tasks) k ≡ v → contains (live_tickets b.tasks) k ≡ true
    by_test true is = is
    by_test false is =
        absurd (false≢true (
        sym (any_none (λ (y : Task). is_live_phase y.phase && y.ticket == k) (λ (y : Task). y.ticket == k && is_live_phase y.phase) b.tasks (λ y h. swapped (y.ticket == k) (is_live_phase y.phase) h)
        (sym (any_filter (λ (y : Task). y.ticket == k) (λ (y : Task). is_live_phase y.phase) b.tasks) ∙ sym (list_any-map (λ n. n == k) (λ (y : Task). y.ticket) (filter (λ (y : Task). is_live_phase y.phase) b.tasks)) ∙ is))
        ∙ first_some (λ (y : Task). y.ticket == k && is_live_phase y.phase) b.tasks x found))

put_live : (o : outbox.Opening) (b : Box) (ticket : ℕ) (header : List ℕ) → put_refusal o b (OfCommand ticket header) ≡ None → contains (live_tickets b.tasks) ticket ≡ true
put_live o b ticket header h =
    elim (is_fit (OfCommand ticket header)) as (λ v. cond (not v) (Some Unfit) (elim (own_conn b (OfCommand ticket header)) [ Some conn ↦ refusal_on o b conn | None ↦ Some GoneRefusal ]) ≡ None → contains (live_tickets b.tasks) ticket ≡ true) [
      | true ↦ λ is. by_task (live_task b ticket) refl is
      | false ↦ λ is. absurd cc
    ] h
  where
    by_task : (x : Option Task) → live_task b ticket ≡ x → elim (elim x as (λ y. Option ℕ) [ Some t ↦ Some t.conn | None ↦ None ]) as (λ z. Option PutRefusal) [ Some conn ↦ refusal_on o b conn | None ↦ Some GoneRefusal ] ≡ None → contains (live_tickets b.tasks) ticket ≡ true
    by_task None found is = absurd cc
    by_task (Some t) found is = task_live b ticket t found

-- ---- lists

each_none : {A : Type 0} (p : A → Bool) (xs : List A) → list_any p xs ≡ false → EachOf (λ x. p x ≡ false) xs
each_none p [] h = tt
each_none p (x ∷ xs) h = let parts = or_none (p x) (list_any p xs) h in (parts.0, each_none p xs parts.1)

none_each : {A : Type 0} (p : A → Bool) (xs : List A) → EachOf (λ x. p x ≡ false) xs → list_any p xs ≡ false
none_each p [] h = refl
none_each p (x ∷ xs) h = ap (λ b. b || list_any p xs) h.0 ∙ none_each p xs h.1

none_either : (a b : Bool) → a ≡ false → b ≡ false → (a || b) ≡ false
none_either a b h k = ap (λ c. c || b) h ∙ k

module _ (i : Interface) where
  abbrev o : outbox.Opening
  o = i.outbox

  pub record Sound (s : Side) : Type 0 where
    pub follows : Follows o.session s.both
    pub core : Core o s.both.trace s.both.box s.answers

  -- the request of an earlier event isn't needed
  pub record Free (v : ℕ) (s : Side) : Type 0 where
    pub earlier : v < s.both.event
    pub fine : Fine o v s.both.trace s.both.box s.answers

  -- ---- what is needed

  abbrev Quiet : ℕ → Side → Option ℕ → Option ℕ → Type 0
  Quiet v s sent ticket = about v s.both.trace s.answers sent ticket ≡ false

  links_quiet : (v : ℕ) (s : Side) (links : List Link) → list_any (λ (l : Link). list_any (is_about v s) l.queue) links ≡ false → list_any (λ (l : Link). list_any (λ (h : Handed). is_about v s h.out) (left_to_write l)) links ≡ false
      → EachOf (OfLink (Quiet v s)) links
  links_quiet v s [] wait write = tt
  links_quiet v s (l ∷ links) wait write =
      let first = or_none (list_any (is_about v s) l.queue) (list_any (λ (m : Link). list_any (is_about v s) m.queue) links) wait in
      let second = or_none (list_any (λ (h : Handed). is_about v s h.out) (left_to_write l)) (list_any (λ (m : Link). list_any (λ (h : Handed). is_about v s h.out) (left_to_write m)) links) write in
      ((each_none (is_about v s) l.queue first.0, each_none (λ (h : Handed). is_about v s h.out) (left_to_write l) second.0), links_quiet v s links first.1 second.1)

  none_wait : (v : ℕ) (s : Side) (links : List Link) → EachOf (OfLink (Quiet v s)) links → list_any (λ (l : Link). list_any (is_about v s) l.queue) links ≡ false
  none_wait v s [] h = refl
  none_wait v s (l ∷ links) h = none_either (list_any (is_about v s) l.queue) (list_any (λ (m : Link). list_any (is_about v s) m.queue) links) (none_each (is_about v s) l.queue h.0.0) (none_wait v s links h.1)

  none_written : (v : ℕ) (s : Side) (links : List Link) → EachOf (OfLink (Quiet v s)) links → list_any (λ (l : Link). list_any (λ (h : Handed). is_about v s h.out) (left_to_write l)) links ≡ false
  none_written v s [] h = refl
  none_written v s (l ∷ links) h =
      none_either (list_any (λ (g : Handed). is_about v s g.out) (left_to_write l)) (list_any (λ (m : Link). list_any (λ (g : Handed). is_about v s g.out) (left_to_write m)) links)
      (none_each (λ (g : Handed). is_about v s g.out) (left_to_write l) h.0.1) (none_written v s links h.1)

  free_of : (v cookie : ℕ) (s : Side) → v < s.both.event → is_needed s (record { event = v; cookie = cookie }) ≡ false → Free v s
  free_of v cookie s earlier h =
      let t : Trace = s.both.trace in
      let b : Box = s.both.box in
      let writing = or_none (is_held v t || is_waiting v t || is_live v t || runs v t b || waits v s) (is_being_written v s) h in
      let waiting = or_none (is_held v t || is_waiting v t || is_live v t || runs v t b) (waits v s) writing.0 in
      let running = or_none (is_held v t || is_waiting v t || is_live v t) (runs v t b) waiting.0 in
      let living = or_none (is_held v t || is_waiting v t) (is_live v t) running.0 in
      let holding = or_none (is_held v t) (is_waiting v t) living.0 in
      let queues = or_none (list_any (λ (l : Link). list_any (is_about v s) l.queue) b.links) (list_any (λ (a : Answer). is_about v s a.out) b.undue) waiting.1 in
      record {
        earlier = earlier;
        fine = record {
          out = record { unheld = holding.0; unwaiting = holding.1; unlive = living.1 };
          unrun = running.1;
          quiet = record { links = links_quiet v s b.links queues.0 writing.1; undue = each_none (λ (a : Answer). is_about v s a.out) b.undue queues.1 };
        };
      }

  needless : (v cookie : ℕ) (s : Side) → Free v s → is_needed s (record { event = v; cookie = cookie }) ≡ false
  needless v cookie s h =
      let t : Trace = s.both.trace in
      let b : Box = s.both.box in
      none_either (is_held v t || is_waiting v t || is_live v t || runs v t b || waits v s) (is_being_written v s)
      (none_either (is_held v t || is_waiting v t || is_live v t || runs v t b) (waits v s)
      (none_either (is_held v t || is_waiting v t || is_live v t) (runs v t b)
      (none_either (is_held v t || is_waiting v t) (is_live v t)
      (none_either (is_held v t) (is_waiting v t) h.fine.out.unheld h.fine.out.unwaiting) h.fine.out.unlive) h.fine.unrun)
      (none_either (list_any (λ (l : Link). list_any (is_about v s) l.queue) b.links) (list_any (λ (a : Answer). is_about v s a.out) b.undue)
      (none_wait v s b.links h.fine.quiet.links) (none_each (λ (a : Answer). is_about v s a.out) b.undue h.fine.quiet.undue)))
      (none_written v s b.links h.fine.quiet.links)

  -- ---- each part of a call

  sound_other : (s : Side) (c : outbox.Call) → is_other c ≡ true → Sound s → Sound (other i s c)
  sound_other s c is h =
      let m : Moved s.both.box (after_outbox_call o s.both.box c) = moved o s.both.box c is in
      record {
        follows = record { events = h.follows.events; at = h.follows.at; is = h.follows.is };
        core = record {
          same = moved_live s.both.box (after_outbox_call o s.both.box c) m ∙ h.core.same;
          sent = moved_sent s.both.box (after_outbox_call o s.both.box c) m ∙ h.core.sent;
          bounded = of_other (Below (length s.answers)) o s.both.box c is (λ place no_place. absurd cc) (putting c) h.core.bounded;
        };
      }
    where
      putting : (d : outbox.Call) → Putting (Below (length s.answers)) o s.both.box d
      putting (outbox.Takes effects numbers) = tt
      putting (outbox.Puts p) = λ taken place no_place. absurd cc
      putting (outbox.Stops ticket) = tt
      putting (outbox.Nexts conn) = tt
      putting (outbox.Writes conn) = tt
      putting (outbox.Hears conn exp_stat_sn tag) = tt
      putting (outbox.Joins conn stat_sn) = tt
      putting (outbox.Loses conn) = tt
      putting (outbox.Clears unit) = tt

  free_other : (v : ℕ) (s : Side) (c : outbox.Call) → is_other c ≡ true → Sound s → Free v s → Free v (other i s c)
  free_other v s c is h k = record {
    earlier = k.earlier;
    fine = record {
      out = k.fine.out;
      unrun =
          any_none (λ (d : Command). is_of_event v d.arrival && is_running s.both.box d.ticket) (λ (d : Command). is_of_event v d.arrival && is_running (after_outbox_call o s.both.box c) d.ticket) (entered s.both.trace)
          (λ d none. by_test d (is_of_event v d.arrival) none) k.fine.unrun;
      quiet = of_other (Quiet v s) o s.both.box c is refl (putting c) k.fine.quiet;
    };
  }
    where
      by_test : (d : Command) (b : Bool) → (b && is_running s.both.box d.ticket) ≡ false → (b && is_running (after_outbox_call o s.both.box c) d.ticket) ≡ false
      by_test d true none = moved_unrun s.both.box (after_outbox_call o s.both.box c) (moved o s.both.box c is) d.ticket none
      by_test d false none = refl

      -- the command of a PDU that is taken is live, so it isn't that of the request
      own : (p : OwnPdu) → put_refusal o s.both.box p ≡ None → Quiet v s None (own_ticket p)
      own (OfConnection conn header) taken = refl
      own (OfCommand ticket header) taken =
          unlive_ticket o.session v s.both.event s.both.event k.earlier s.both.trace (follows_forms o.session s.both h.follows) k.fine.out ticket (stays (has (leaves_ticket ticket) s.both.trace) refl)
        where
          among : is_among ticket (live s.both.trace) ≡ true
          among = sym (list_any-map (λ n. n == ticket) (λ (d : Command). d.ticket) (live s.both.trace)) ∙ ap (λ ks. contains ks ticket) (sym h.core.same) ∙ put_live o s.both.box ticket header taken

          stays : (b : Bool) → has (leaves_ticket ticket) s.both.trace ≡ b → has (leaves_ticket ticket) s.both.trace ≡ false
          stays false at = at
          stays true at = absurd (false≢true (sym (left_unlive s.both.trace ticket at) ∙ among))

      putting : (d : outbox.Call) → Putting (Quiet v s) o s.both.box d
      putting (outbox.Takes effects numbers) = tt
      putting (outbox.Puts p) = own p
      putting (outbox.Stops ticket) = tt
      putting (outbox.Nexts conn) = tt
      putting (outbox.Writes conn) = tt
      putting (outbox.Hears conn exp_stat_sn tag) = tt
      putting (outbox.Joins conn stat_sn) = tt
      putting (outbox.Loses conn) = tt
      putting (outbox.Clears unit) = tt

  sound_same : (s s' : Side) → s'.both ≡ s.both → s'.answers ≡ s.answers → Sound s → Sound s'
  sound_same s s' both same h = record {
    follows = subst (Follows o.session) (sym both) h.follows;
    core = subst (λ xs. Core o s'.both.trace s'.both.box xs) (sym same) (subst (λ b. Core o b.trace b.box s.answers) (sym both) h.core);
  }

  free_same : (v : ℕ) (s s' : Side) → s'.both ≡ s.both → s'.answers ≡ s.answers → Free v s → Free v s'
  free_same v s s' both same h = record {
    earlier = subst (λ b. v < b.event) (sym both) h.earlier;
    fine = subst (λ xs. Fine o v s'.both.trace s'.both.box xs) (sym same) (subst (λ b. Fine o v b.trace b.box s.answers) (sym both) h.fine);
  }

  abbrev IsSound : Side → List Action → Type 0
  IsSound s acts = Sound s

  abbrev IsFree : ℕ → Side → List Action → Type 0
  IsFree v s acts = Sound s × Free v s

  abbrev IsLater : ℕ → Side → List Action → Type 0
  IsLater v s acts = v < s.both.event

  abbrev HasAsked : ℕ → Side → List Action → Type 0
  HasAsked v s acts = is_asked s.asked v ≡ true

  sound_kept : Kept i IsSound
  sound_kept = record {
    event = λ s acts e h. record { follows = follows_event o s.both e h.follows; core = core_event o s.both.event s.both.trace e s.both.box s.answers (follows_forms o.session s.both h.follows) h.core };
    by_other = λ s acts c is h. sound_other s c is h;
    clearing = λ s acts unit h. sound_same s _ refl refl h;
    beside = λ s acts asked noted handed awake over h. sound_same s (record s { asked = asked; noted = noted; handed_notes = handed; awake = awake; over = over }) refl refl h;
    aside = λ s acts more each h. h;
  }

  free_kept : (v : ℕ) → Kept i (IsFree v)
  free_kept v = record {
    event = λ s acts e h. (
      sound_kept.event s acts e h.0,
      record {
        earlier = (let z : v < s.both.event + 1 = omega (arith, h.1.earlier) in z);
        fine = fine_event o v s.both.event h.1.earlier s.both.trace e s.both.box s.answers (follows_forms o.session s.both h.0.follows) h.0.core h.1.fine;
      },
    );
    by_other = λ s acts c is h. (sound_other s c is h.0, free_other v s c is h.0 h.1);
    clearing = λ s acts unit h. (sound_same s _ refl refl h.0, free_same v s _ refl refl h.1);
    beside = λ s acts asked noted handed awake over h. (
      sound_same s (record s { asked = asked; noted = noted; handed_notes = handed; awake = awake; over = over }) refl refl h.0,
      free_same v s (record s { asked = asked; noted = noted; handed_notes = handed; awake = awake; over = over }) refl refl h.1,
    );
    aside = λ s acts more each h. h;
  }

  later_kept : (v : ℕ) → Kept i (IsLater v)
  later_kept v = record {
    event = λ s acts e h. (let z : v < s.both.event + 1 = omega (arith, h) in z);
    by_other = λ s acts c is h. h;
    clearing = λ s acts unit h. h;
    beside = λ s acts asked noted handed awake over h. h;
    aside = λ s acts more each h. h;
  }

  asked_kept : (v : ℕ) → InCall i (HasAsked v)
  asked_kept v = record {
    event = λ s acts e h. h;
    by_other = λ s acts c is h. h;
    clearing = λ s acts unit h. h;
    arrives = λ s acts new h. list_any-append (λ (a : Asked). a.event == v) s.asked (new ∷ []) ∙ or_first (is_asked s.asked v) (is_asked (new ∷ []) v) h;
    notes = λ s acts more h. h;
    hands = λ s acts conn h. h;
    sleeps = λ s acts conn h. h;
  }

  -- ---- what is kept no more

  dropped : (v : ℕ) (s : Side) (asked : List Asked) → is_asked asked v ≡ true → is_asked (filter (is_needed s) asked) v ≡ false → is_needed s (record { event = v; cookie = 0 }) ≡ false
  dropped v s [] h gone = absurd (false≢true h)
  dropped v s (a ∷ asked) h gone = by_event (dropped v s asked) (a.event == v) refl (is_needed s a) refl h gone
    where
      by_event : (is_asked asked v ≡ true → is_asked (filter (is_needed s) asked) v ≡ false → is_needed s (record { event = v; cookie = 0 }) ≡ false) → (b : Bool) → (a.event == v) ≡ b → (n : Bool) → is_needed s a ≡ n → (b || is_asked asked v) ≡ true
          → is_asked (cond n (a ∷ filter (is_needed s) asked) (filter (is_needed s) asked)) v ≡ false → is_needed s (record { event = v; cookie = 0 }) ≡ false
      by_event rest true is true need h gone = absurd (false≢true (sym gone ∙ or_first (a.event == v) (is_asked (filter (is_needed s) asked) v) is))
      by_event rest true is false need h gone = ap (λ n. is_needed s (record { event = n; cookie = 0 })) (sym (eqb-true a.event v is)) ∙ need
      by_event rest false is true need h gone = rest h (or_none (a.event == v) (is_asked (filter (is_needed s) asked) v) gone).1
      by_event rest false is false need h gone = rest h gone

  -- at the end of a call, and in what comes behind
  forgotten : (v : ℕ) (cs : List Call) → ((s : Side) → Sound s → v < s.both.event → is_asked s.asked v ≡ true → is_asked (side_after i s cs).asked v ≡ false → IsFree v (side_after i s cs) [])
      → (w : Told) → Sound w.side → v < w.side.both.event → is_asked w.side.asked v ≡ true → is_asked (side_after i (ended i w).side cs).asked v ≡ false → IsFree v (side_after i (ended i w).side cs) []
  forgotten v cs further w sound later asked gone = by_kept (is_asked (filter (is_needed w.side) w.side.asked) v) refl
    where
      sound' : Sound (ended i w).side
      sound' = sound_same w.side (ended i w).side refl refl sound

      by_kept : (b : Bool) → is_asked (filter (is_needed w.side) w.side.asked) v ≡ b → IsFree v (side_after i (ended i w).side cs) []
      by_kept true is = further (ended i w).side sound' later is gone
      by_kept false is =
          let free : Free v w.side = free_of v 0 w.side later (dropped v w.side w.side.asked asked is) in
          kept_by_calls i (IsFree v) (free_kept v) [] (ended i w).side cs (sound', free_same v w.side (ended i w).side refl refl free)

  once_asked : (v : ℕ) (cs : List Call) (s : Side) → Sound s → v < s.both.event → is_asked s.asked v ≡ true → is_asked (side_after i s cs).asked v ≡ false → IsFree v (side_after i s cs) []
  once_asked v [] s sound later asked gone = absurd (false≢true (sym gone ∙ asked))
  once_asked v (c ∷ cs) s sound later asked gone =
      forgotten v cs (once_asked v cs) (called i s c).told
      (on_called i IsSound (in_call i IsSound sound_kept) [] s c sound)
      (on_called i (IsLater v) (in_call i (IsLater v) (later_kept v)) [] s c later)
      (on_called i (HasAsked v) (asked_kept v) [] s c asked) gone

  -- a request that is taken is asked
  record Asks (v : ℕ) (w : Told) : Type 0 where
    asked : is_asked w.side.asked v ≡ true
    later : v < w.side.both.event

  asks : (v : ℕ) (s : Side) (c : Call) → contains (event_taken s c (called i s c).answer) v ≡ true → Asks v (called i s c).told
  asks v s (Arrives conn header cookie) h = by_refusal (refusal_of i s conn) h
    where
      by_refusal : (x : Option Refusal) → let a : Answered = elim x [
        | Some refusal ↦ answers s (Refused refusal)
        | None ↦
            let s' = heard_in i s conn header in
            done (happens i (record s' { asked = s'.asked ++ record { event = s'.both.event; cookie = cookie } ∷ [] }) (Arrive conn header))
      ] in contains (event_taken s (Arrives conn header cookie) a.answer) v ≡ true → Asks v a.told
      by_refusal (Some refusal) taken = absurd (false≢true taken)
      by_refusal None taken =
          let s' : Side = heard_in i s conn header in
          let new : Asked = record { event = s'.both.event; cookie = cookie } in
          let s'' : Side = record s' { asked = s'.asked ++ new ∷ [] } in
          let here : s.both.event ≡ v = eqb-true s.both.event v (one_true (s.both.event == v) taken) in
          record {
            asked =
                on_happens i (HasAsked v) (asked_kept v) [] s'' (Arrive conn header)
                (list_any-append (λ (a : Asked). a.event == v) s'.asked (new ∷ []) ∙ or_second (is_asked s'.asked v) (is_asked (new ∷ []) v) taken);
            later = on_withheld i (IsLater v) (in_call i (IsLater v) (later_kept v)) [] (happening i s'' (Arrive conn header)) (let z : v < s.both.event + 1 = omega (arith, here) in z);
          }
        where
          one_true : (b : Bool) → (b || false) ≡ true → b ≡ true
          one_true true h = refl
          one_true false h = h
  asks v s (Completes ticket status) h = absurd (false≢true h)
  asks v s (Stops ticket) h = absurd (false≢true h)
  asks v s (Nexts conn) h = absurd (false≢true h)
  asks v s (Puts p cookie) h = absurd (false≢true h)
  asks v s (Writes conn) h = absurd (false≢true h)
  asks v s (Hears conn exp_stat_sn tag) h = absurd (false≢true h)
  asks v s (Joins conn stat_sn) h = absurd (false≢true h)
  asks v s (Loses conn) h = absurd (false≢true h)
  asks v s (Clears unit) h = absurd (false≢true h)
  asks v s (Cleared unit) h = absurd (false≢true h)

  once_taken : (v : ℕ) (cs : List Call) (s : Side) → Sound s → contains (events_from i s cs) v ≡ true → is_asked (side_after i s cs).asked v ≡ false → IsFree v (side_after i s cs) []
  once_taken v [] s sound taken gone = absurd (false≢true taken)
  once_taken v (c ∷ cs) s sound taken gone =
      let now : List ℕ = event_taken s c (called i s c).answer in
      by_call (contains now v) refl (sym (list_any-append (λ n. n == v) now (events_from i (after_call i s c).told.side cs)) ∙ taken) (once_taken v cs (after_call i s c).told.side (kept_by_call i IsSound sound_kept [] s c sound))
    where
      by_call : (b : Bool) → contains (event_taken s c (called i s c).answer) v ≡ b → (b || contains (events_from i (after_call i s c).told.side cs) v) ≡ true
          → (contains (events_from i (after_call i s c).told.side cs) v ≡ true → is_asked (side_after i (after_call i s c).told.side cs).asked v ≡ false → IsFree v (side_after i (after_call i s c).told.side cs) [])
          → IsFree v (side_after i s (c ∷ cs)) []
      by_call true is h further =
          let k : Asks v (called i s c).told = asks v s c is in
          forgotten v cs (once_asked v cs) (called i s c).told (on_called i IsSound (in_call i IsSound sound_kept) [] s c sound) k.later k.asked gone
      by_call false is h further = further h gone

  sound_opened : Sound (opened i)
  sound_opened = record {
    follows = follows_begun o;
    core = record { same = refl; sent = refl; bounded = record { links = none_there o.session.conns; undue = tt } };
  }
    where
      none_there : (conns : List (ℕ × ℕ)) → EachOf (OfLink (Below 0)) (map (λ (c : ℕ × ℕ). new_link c.0) conns)
      none_there [] = tt
      none_there (c ∷ conns) = ((tt, tt), none_there conns)

  after_both : (cs later : List Call) (s : Side) → side_after i s (cs ++ later) ≡ side_after i (side_after i s cs) later
  after_both [] later s = refl
  after_both (c ∷ cs) later s = after_both cs later (after_call i s c).told.side

  keeps_needed_from : (cs : List Call) (s : Side) → list_all (is_needed s) s.asked ≡ true → list_all (is_needed (side_after i s cs)) (side_after i s cs).asked ≡ true
  keeps_needed_from [] s h = h
  keeps_needed_from (c ∷ cs) s h = let w : Told = (called i s c).told in keeps_needed_from cs (ended i w).side (all_of_filter (is_needed w.side) w.side.asked)

pub needed_no_more : (i : Interface) (cs later : List Call) → NeededNoMore i cs later
needed_no_more i cs later v cookie taken gone =
    let there : IsFree i v (side_of i cs) [] = once_taken i v cs (opened i) (sound_opened i) taken gone in
    let behind : IsFree i v (side_after i (side_of i cs) later) [] = kept_by_calls i (IsFree i v) (free_kept i v) [] (side_of i cs) later there in
    ap (λ s. is_needed s (record { event = v; cookie = cookie })) (after_both i cs later (opened i)) ∙ needless i v cookie (side_after i (side_of i cs) later) behind.1

pub keeps_needed : (i : Interface) (cs : List Call) → KeepsNeeded i cs
keeps_needed i cs = keeps_needed_from i cs (opened i) refl
