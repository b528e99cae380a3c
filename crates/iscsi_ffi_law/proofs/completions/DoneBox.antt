-- The end of a command in the outbox: it completes, and its reply enters the queue of its connection.
use Rattle.std.proofs.Common.{◌≡◌, ℕ, ◌≤◌, ◌+◌, ◌-◌, ◌<◌, ◌==◌, ◌&&◌, ◌^◌, ⊎_elim, not, cond, Bool, true, false, List, [], ◌∷◌, ◌++◌, length, map, filter, filter_map, find, Option, Some, None, refl, ap, sym, subst, ◌∙◌, arith, ne_eqb}
use Rattle.std.specs.List.{list_any}
use Rattle.std.proofs.lemmas.Bool.{and_from, cases_eq, cond_both, eqb-true, eq-eqb, false≢true, not-true}
use Rattle.std.proofs.lemmas.List.{get_or-set_same, get_or-set_other, length-map}
use Rattle.iscsi_wire.specs.declared.reply.Reply.{Reply}
use Rattle.iscsi_wire.specs.declared.request.Request.{Request}
use Rattle.iscsi_wire.specs.Serial.{lift}
use Rattle.iscsi_wire.specs.Fields.{connection_of}
use Rattle.iscsi_rules.specs.declared.effect.Effect.{Effect}
use Rattle.iscsi_rules.specs.declared.effect.Numbers.{Numbers}
use Rattle.iscsi_rules.specs.declared.entry.Entry.{Entry}
use Rattle.iscsi_rules.specs.promises.Order.{in_parts}
use Rattle.iscsi_rules.specs.rules.Agenda.{command_of}
use Rattle.iscsi_rules.specs.rules.Run.{numbers_of}
use Rattle.iscsi_rules.specs.rules.Settings.{Setting, is_known}
use Rattle.iscsi_rules.specs.rules.Trace.{Command as RulesCommand, entered, has, leaves_ticket, live, was_free}
use Rattle.iscsi_rules.proofs.general.BoolLemmas.{and_parts}
use Rattle.iscsi_rules.proofs.general.ElementLemmas.{In, first-in, in-filter}
use Rattle.iscsi_outbox_rules.specs.promises.Room.{FitItems, Fits, FitsCall}
use Rattle.iscsi_outbox_rules.specs.promises.Scope.{nth}
use Rattle.iscsi_outbox_rules.specs.rules.Boxes.{Answer, Box, Link, Outgoing, Task}
use Rattle.iscsi_outbox_rules.specs.rules.Calls as outbox
use Rattle.iscsi_outbox_rules.specs.rules.Calls.{Opening}
use Rattle.iscsi_outbox_rules.specs.rules.Due.{settle}
use Rattle.iscsi_outbox_rules.specs.rules.Items.{after_event, after_item, after_items, in_phase, outgoing, phase_completed, phase_enabled, phase_told, ticket_enabled, ticket_left, tickets_left}
use Rattle.iscsi_outbox_rules.specs.rules.Queues.{append, enter, takes_more}
use Rattle.iscsi_outbox_rules.specs.rules.Run.{after_call, new_link}
use Rattle.iscsi_outbox_rules.specs.rules.Words.{is_live_phase}
use Rattle.iscsi_outbox_rules.proofs.commands.TaskLives.{item_tasks}
use Rattle.iscsi_outbox_law.specs.private.Commands.{is_under_way, link_in}
use Rattle.iscsi_outbox_law.specs.private.Pairs.{EachOf, InOrder}
use Rattle.iscsi_outbox_law.specs.private.Sound.{IsItemSound, IsLinkSound, conn_closed, entries_of, entry_of, is_close, is_live_in}
use Rattle.iscsi_outbox_law.specs.private.Stands.{Stands as OutboxStands}
use Rattle.iscsi_outbox_law.proofs.general.PairLemmas.{each-at, each-weaken}
use Rattle.iscsi_outbox_law.proofs.general.PlaceLemmas.{AreApart as LinksApart, IsPlace, conns_of, known_any, none_here, one_place}
use Rattle.iscsi_outbox_law.proofs.connections.Standing.{cids_are, links_apart, stands_nowhere, stands_there}
use Rattle.iscsi_outbox_law.proofs.items.TakesItem.{item_stands}
use Rattle.iscsi_outbox_law.proofs.commands.TurningCount.{item_last}
use Rattle.iscsi_outbox_law.proofs.commands.TurningEach.{event_stands}
use Rattle.iscsi_outbox_law.proofs.commands.TurningLast.{tell_last}
use Rattle.iscsi_outbox_law.proofs.commands.TurningFresh.{event_fresh}
use Rattle.iscsi_outbox_steps.specs.State.{place_of}
use Rattle.iscsi_outbox_steps.specs.Steps.{after_item as steps_after_item, after_items as steps_after_items, is_running_ticket, taken}
use Rattle.iscsi_requests.specs.Conns.{of_conn}
use Rattle.iscsi_requests.specs.Replies.{WaitingReplies, pushed}
use Rattle.iscsi_requests.specs.declared.replies.WaitingReply.{WaitingReply}
use Rattle.iscsi_ffi_rules.specs.rules.Calls.{Interface}
use Rattle.iscsi_ffi_rules.specs.rules.Sides.{Side}
use Rattle.iscsi_ffi_steps.specs.State.{State}
use Rattle.iscsi_ffi_law.specs.Done.{IsDoneFit, done_call, home_of}
use Rattle.iscsi_ffi_law.specs.Fit.{IsFit}
use Rattle.iscsi_ffi_law.specs.Names.{Name, Note}
use Rattle.iscsi_ffi_law.specs.Parts.{IsKnownOut, IsLiveNamed, IsNamedEvent, IsQueued, is_named}
use Rattle.iscsi_ffi_law.specs.Stands.{AreCounts, AreRequests, AreSizes}
use Rattle.iscsi_ffi_law.proofs.commands.Commands.{one_command}
use Rattle.iscsi_ffi_law.proofs.completions.DonePhases.{running_completed, running_enabled, runs_at, told_runs, turned, turned_runs}
use Rattle.iscsi_ffi_law.proofs.completions.DoneQueue.{apart_on, nth_last, queued_apart, queued_reply, undue_more}
use Rattle.iscsi_ffi_law.proofs.completions.DoneShape.{done_effects, done_reply, done_trace, entered_same, entry_is, news, none_is, one_part, shows_none}
use Rattle.iscsi_ffi_law.proofs.calls.Finish.{as_many_links}
use Rattle.iscsi_ffi_law.proofs.general.Members.{Passing, PassingAt, any_at, any_in, each_in, find_in, in_any, in_find}
use Rattle.iscsi_ffi_law.proofs.calls.Moved.{all_queued, run_same}
use Rattle.iscsi_ffi_law.proofs.sending.Queued.{AllQueued, SameOut, SettledTo, any_map, conns_map, is_taking, link_map, settled_to}
use Rattle.iscsi_ffi_law.proofs.calls.Quiet.{settled_sent}
use Rattle.iscsi_ffi_law.proofs.commands.Staging.{Both, both_of}

-- what is found as a command completes
pub record IsFound (i : Interface) (names : List Name) (notes : List Note) (s : State) (r : Side) (d : RulesCommand) (status : ℕ) : Type 0 where
  pub pending : ℕ → ℕ  -- uses that have ended already, and aren't taken off yet
  pub gone : ℕ → List (Option ℕ)  -- of each connection, the places of own PDUs that are needed no more
  pub requests : AreRequests names notes pending gone s r
  pub outbox : OutboxStands i.outbox s.outbox r.both.box
  pub sizes : AreSizes i s
  pub counts : AreCounts i s r
  pub command : command_of r.both.trace d.ticket ≡ Some d
  pub fit : IsDoneFit i r d.ticket status

-- ---- the item

module _ (i : Interface) (names : List Name) (notes : List Note) (s : State) (r : Side) (d : RulesCommand) (status : ℕ) (f : IsFound i names notes s r d status) where
  abbrev pub session : Setting
  session = i.outbox.session

  abbrev pub effects : List Effect
  effects = done_effects i.outbox.session r.both.trace d status

  abbrev pub numbers : Numbers
  numbers = numbers_of i.outbox.session (done_trace r.both.trace d status)

  abbrev pub conn : ℕ
  conn = connection_of d.arrival.request

  abbrev pub ns : List RulesCommand
  ns = news i.outbox.session r.both.trace d status

  call_is : done_call i r d.ticket status ≡ outbox.Takes (done_effects i.outbox.session r.both.trace d status) (numbers_of i.outbox.session (done_trace r.both.trace d status))
  call_is = ap (λ (e : Entry). outbox.Takes e.effects e.numbers) (entry_is i.outbox.session r.both.event r.both.trace d status f.command)

  home_is : home_of r d.ticket ≡ connection_of d.arrival.request
  home_is = ap (λ (x : Option RulesCommand). elim x [ Some e ↦ connection_of e.arrival.request | None ↦ 0 ]) f.command

  fit_event : IsFit i r.both.box (after_event i.outbox r.both.box (done_effects i.outbox.session r.both.trace d status) (numbers_of i.outbox.session (done_trace r.both.trace d status)))
  fit_event = subst (λ c. IsFit i r.both.box (after_call i.outbox r.both.box c)) call_is f.fit.fit

  item_of : after_items i.outbox r.both.box (in_parts (done_effects i.outbox.session r.both.trace d status)) ≡ after_item i.outbox r.both.box (done_effects i.outbox.session r.both.trace d status)
  item_of = ap (after_items i.outbox r.both.box) (one_part i.outbox.session r.both.trace d status)

  -- what the event makes of what its item leaves
  abbrev pub over : Box → Box
  over b = record b { tasks = map (λ (t : Task). record t { phase = phase_told t.phase }) b.tasks; exp = (numbers_of i.outbox.session (done_trace r.both.trace d status)).exp; max = lift b.max (numbers_of i.outbox.session (done_trace r.both.trace d status)).max }

  abbrev pub box_after : Box
  box_after = over (after_item i.outbox r.both.box (done_effects i.outbox.session r.both.trace d status))

  pub box_is : after_event i.outbox r.both.box (done_effects i.outbox.session r.both.trace d status) (numbers_of i.outbox.session (done_trace r.both.trace d status)) ≡ box_after
  box_is = ap over item_of

  pub fit_after : IsFit i r.both.box box_after
  fit_after = subst (IsFit i r.both.box) box_is fit_event

  fits_item : Fits i.outbox (after_item i.outbox r.both.box (done_effects i.outbox.session r.both.trace d status))
  fits_item =
      let all : FitItems i.outbox r.both.box (in_parts (done_effects i.outbox.session r.both.trace d status)) = subst (FitsCall i.outbox r.both.box) call_is f.fit.room in
      (subst (FitItems i.outbox r.both.box) (one_part i.outbox.session r.both.trace d status) all).0

  -- ---- its connection

  pub place : PassingAt (λ (l : Link). l.conn == connection_of d.arrival.request && takes_more l) r.both.box.links (new_link 0)
  place = any_at (λ (l : Link). l.conn == connection_of d.arrival.request && takes_more l) r.both.box.links (new_link 0) (subst (λ c. list_any (λ (l : Link). l.conn == c && takes_more l) r.both.box.links ≡ true) home_is f.fit.takes)

  abbrev pub p : ℕ
  p = place.place

  pub conn_is : (link_in r.both.box.links p).conn ≡ connection_of d.arrival.request
  conn_is = eqb-true (link_in r.both.box.links p).conn (connection_of d.arrival.request) (and_parts ((link_in r.both.box.links p).conn == connection_of d.arrival.request) (takes_more (link_in r.both.box.links p)) place.passes).0

  pub takes_it : takes_more (link_in r.both.box.links p) ≡ true
  takes_it = (and_parts ((link_in r.both.box.links p).conn == connection_of d.arrival.request) (takes_more (link_in r.both.box.links p)) place.passes).1

  pub apart_links : LinksApart (conns_of r.both.box.links)
  apart_links = links_apart (is_under_way i.outbox r.both.box.links) i.outbox s.outbox r.both.box f.outbox f.fit.fit.distinct

  pub place_is : place_of s.outbox (connection_of d.arrival.request) ≡ Some p
  place_is = by_place (place_of s.outbox (connection_of d.arrival.request)) refl
    where
      by_place : (y : Option ℕ) → place_of s.outbox (connection_of d.arrival.request) ≡ y → y ≡ Some p
      by_place None none = absurd (none_here r.both.box.links (connection_of d.arrival.request) p (stands_nowhere (is_under_way i.outbox r.both.box.links) i.outbox s.outbox r.both.box f.outbox (connection_of d.arrival.request) none) place.within conn_is)
      by_place (Some q) found =
          let at : IsPlace r.both.box.links (connection_of d.arrival.request) q = stands_there (is_under_way i.outbox r.both.box.links) i.outbox s.outbox r.both.box f.outbox (connection_of d.arrival.request) q found in
          ap (λ (v : ℕ). Some v) (one_place r.both.box.links q p apart_links at.within place.within (at.is ∙ sym conn_is))

  is_one : is_known (connection_of d.arrival.request) i.outbox.session.conns ≡ true
  is_one = by_test (is_known (connection_of d.arrival.request) i.outbox.session.conns) refl
    where
      by_test : (v : Bool) → is_known (connection_of d.arrival.request) i.outbox.session.conns ≡ v → v ≡ true
      by_test true is = refl
      by_test false is =
          absurd (none_here r.both.box.links (connection_of d.arrival.request) p
          (ap (list_any (λ k. k == connection_of d.arrival.request)) (f.outbox.links.conns ∙ cids_are (is_under_way i.outbox r.both.box.links) i.outbox s.outbox r.both.box f.outbox) ∙ sym (known_any (connection_of d.arrival.request) i.outbox.session.conns) ∙ is)
          place.within conn_is)

  -- ---- its command

  task : Passing (λ (t : Task). t.ticket == d.ticket && (t.conn == home_of r d.ticket && is_live_phase t.phase)) r.both.box.tasks
  task = any_in (λ (t : Task). t.ticket == d.ticket && (t.conn == home_of r d.ticket && is_live_phase t.phase)) r.both.box.tasks f.fit.there

  task_parts : ((task.x.ticket == d.ticket) ≡ true) × ((task.x.conn == home_of r d.ticket && is_live_phase task.x.phase) ≡ true)
  task_parts = and_parts (task.x.ticket == d.ticket) (task.x.conn == home_of r d.ticket && is_live_phase task.x.phase) task.passes

  task_home : ((task.x.conn == home_of r d.ticket) ≡ true) × (is_live_phase task.x.phase ≡ true)
  task_home = and_parts (task.x.conn == home_of r d.ticket) (is_live_phase task.x.phase) task_parts.1

  lives_there : is_live_in r.both.box d.ticket ≡ true
  lives_there = in_any (λ (t : Task). t.ticket == d.ticket && is_live_phase t.phase) r.both.box.tasks task.x task.there (and_from (task.x.ticket == d.ticket) (is_live_phase task.x.phase) task_parts.0 task_home.1)

  -- ---- it is what a session gives

  none_entered : entries_of (done_effects i.outbox.session r.both.trace d status) ≡ []
  none_entered = shows_none entry_of ns (λ ticket unit. refl)

  item_ok : IsItemSound i.outbox r.both.box (done_effects i.outbox.session r.both.trace d status)
  item_ok = record {
    left = (lives_there, subst (EachOf (λ k. is_live_in r.both.box k ≡ true)) (sym (shows_none ticket_left ns (λ ticket unit. refl))) tt);
    entered = subst (EachOf (λ (e : ℕ × ℕ). EachOf (λ (t : Task). t.ticket < e.0) r.both.box.tasks × (e.1 < i.outbox.session.units))) (sym none_entered) tt;
    ascending = subst (InOrder (λ (x y : ℕ × ℕ). x.0 < y.0)) (sym none_entered) tt;
    next = subst (EachOf (λ (e : ℕ × ℕ). e.0 ≡ 1 + length r.both.box.tasks)) (sym none_entered) tt;
    known = λ q is. absurd (none_executes q is);
    replies = λ c reply is. ap (λ k. is_known k i.outbox.session.conns) (sym (first_conn c reply is)) ∙ is_one;
    one_close = (let none = ap length (shows_none conn_closed ns (λ ticket unit. refl)) in omega (arith, none));
    closing = λ c reply is close. absurd (false≢true (sym (none_is is_close ns (λ ticket unit. refl)) ∙ close));
    logout = λ q c reply is. absurd (none_executes q is);
  }
    where
      none_executes : (q : Request) → None ≡ Some q → ⊥
      none_executes q is = cc

      first_conn : (c : ℕ) (reply : Reply) → ◌≡◌ {A = Option (ℕ × Reply)} (Some (connection_of d.arrival.request, done_reply d status)) (Some (c, reply)) → connection_of d.arrival.request ≡ c
      first_conn c reply is = ap (λ (x : Option (ℕ × Reply)). elim x [ Some y ↦ y.0 | None ↦ c ]) is

  stands_item : OutboxStands i.outbox (steps_after_item (done_effects i.outbox.session r.both.trace d status) s.outbox) (after_item i.outbox r.both.box (done_effects i.outbox.session r.both.trace d status))
  stands_item = item_stands i.outbox s.outbox r.both.box f.outbox f.fit.fit.sound f.fit.fit.distinct (done_effects i.outbox.session r.both.trace d status) item_ok
      (subst (EachOf (λ (e : ℕ × ℕ). s.outbox.tracked.last < e.0)) (sym none_entered) tt) fits_item (subst (λ (b : Box). b.time < 2 ^ 64 - 1) item_of fit_event.short.time)

  pub stands_after : OutboxStands i.outbox (taken (done_effects i.outbox.session r.both.trace d status) (numbers_of i.outbox.session (done_trace r.both.trace d status)) s.outbox) box_after
  stands_after = subst (OutboxStands i.outbox (taken (done_effects i.outbox.session r.both.trace d status) (numbers_of i.outbox.session (done_trace r.both.trace d status)) s.outbox)) box_is
      (event_stands i.outbox s.outbox r.both.box (done_effects i.outbox.session r.both.trace d status) (numbers_of i.outbox.session (done_trace r.both.trace d status))
      (subst (λ items. OutboxStands i.outbox (steps_after_items items s.outbox) (after_items i.outbox r.both.box items)) (sym (one_part i.outbox.session r.both.trace d status)) stands_item)
      (event_fresh i.outbox r.both.box (done_effects i.outbox.session r.both.trace d status) f.fit.stale) fit_event.short.max)

  -- the steps count no ticket more
  pub last_after : (taken (done_effects i.outbox.session r.both.trace d status) (numbers_of i.outbox.session (done_trace r.both.trace d status)) s.outbox).tracked.last ≤ length box_after.tasks
  last_after =
      let told = tell_last (filter_map ticket_enabled (done_effects i.outbox.session r.both.trace d status)) (steps_after_items (in_parts (done_effects i.outbox.session r.both.trace d status)) s.outbox) in
      let one = ap (λ items. (steps_after_items items s.outbox).tracked.last) (one_part i.outbox.session r.both.trace d status) in
      let item = item_last i.outbox s.outbox r.both.box (done_effects i.outbox.session r.both.trace d status) f.counts.tracked item_ok.next in
      let long = length-map (after_item i.outbox r.both.box (done_effects i.outbox.session r.both.trace d status)).tasks (λ (t : Task). record t { phase = phase_told t.phase }) in
      omega (arith, told, one, item, long)

  -- no command begins to run, or stops
  pub runs_after : (ticket : ℕ) → is_running_ticket ticket (taken (done_effects i.outbox.session r.both.trace d status) (numbers_of i.outbox.session (done_trace r.both.trace d status)) s.outbox) ≡ is_running_ticket ticket s.outbox
  runs_after = run_same i s r (taken (done_effects i.outbox.session r.both.trace d status) (numbers_of i.outbox.session (done_trace r.both.trace d status)) s.outbox) box_after f.outbox f.fit.fit.sound stands_after fit_after.sound_after f.fit.fit.distinct
      (λ ticket.
      told_runs ticket (after_item i.outbox r.both.box (done_effects i.outbox.session r.both.trace d status)).tasks
      ∙ ap (list_any (runs_at ticket)) (item_tasks i.outbox r.both.box (done_effects i.outbox.session r.both.trace d status))
      ∙ turned_runs phase_enabled (filter_map ticket_enabled (done_effects i.outbox.session r.both.trace d status)) ticket (map (turned phase_completed (tickets_left (done_effects i.outbox.session r.both.trace d status))) r.both.box.tasks) running_enabled
      ∙ turned_runs phase_completed (tickets_left (done_effects i.outbox.session r.both.trace d status)) ticket r.both.box.tasks running_completed)

  -- ---- the reply

  abbrev completed : Box
  completed = in_phase phase_completed (tickets_left (done_effects i.outbox.session r.both.trace d status)) r.both.box

  abbrev pub out : Outgoing
  out = record (outgoing completed None (tickets_left (done_effects i.outbox.session r.both.trace d status)) (done_reply d status)) { time = r.both.box.time }

  abbrev gets : Link → Link
  gets l = cond (l.conn == connection_of d.arrival.request) (append out l) l

  -- before what is due enters
  abbrev replied : Box
  replied = in_phase phase_enabled (filter_map ticket_enabled (done_effects i.outbox.session r.both.trace d status)) (record (enter (connection_of d.arrival.request) (outgoing completed None (tickets_left (done_effects i.outbox.session r.both.trace d status)) (done_reply d status)) completed) { sent = r.both.box.sent + 1 })

  item_is : after_item i.outbox r.both.box (done_effects i.outbox.session r.both.trace d status) ≡ settle i.outbox replied
  item_is = refl

  same_got : (l : Link) → SameOut l (gets l)
  same_got l =
      cond_both (l.conn == connection_of d.arrival.request) (append out l) l (SameOut l)
      (λ is. cond_both (takes_more l) (record l { queue = l.queue ++ out ∷ [] }) l (SameOut l) (λ takes. record { conn = refl; takes = refl; left = refl }) (λ isnt. record { conn = refl; takes = refl; left = refl }))
      (λ isnt. record { conn = refl; takes = refl; left = refl })

  -- ---- the command itself

  commanded : In d (live r.both.trace) × (was_free d r.both.trace ≡ true)
  commanded =
      let x = in-filter (λ (c : RulesCommand). c.ticket == d.ticket && was_free c r.both.trace) (live r.both.trace) d (first-in (filter (λ (c : RulesCommand). c.ticket == d.ticket && was_free c r.both.trace) (live r.both.trace)) d f.command) in
      (x.0, (and_parts (d.ticket == d.ticket) (was_free d r.both.trace) x.1).1)

  pub entered_there : In d (entered r.both.trace)
  entered_there = (in-filter (λ (c : RulesCommand). not (has (leaves_ticket c.ticket) r.both.trace)) (entered r.both.trace) d commanded.0).0

  pub lives_now : has (leaves_ticket d.ticket) r.both.trace ≡ false
  lives_now = not-true (has (leaves_ticket d.ticket) r.both.trace) (in-filter (λ (c : RulesCommand). not (has (leaves_ticket c.ticket) r.both.trace)) (entered r.both.trace) d commanded.0).1

  pub b : Both names r s.commands.items d
  b = both_of names r s.commands.items f.requests.commands f.requests.numbered f.requests.live_named d entered_there lives_now

  found_now : find (λ (e : RulesCommand). e.ticket == d.ticket) (entered (done_trace r.both.trace d status)) ≡ Some d
  found_now =
      let y = in_find (λ (e : RulesCommand). e.ticket == d.ticket) (entered r.both.trace) d entered_there (eq-eqb d.ticket d.ticket refl) in
      let found = find_in (λ (e : RulesCommand). e.ticket == d.ticket) (entered r.both.trace) y.0 y.1 in
      let same : y.0 ≡ d = one_command (entered r.both.trace) y.0 d f.requests.tickets found.0 entered_there (eqb-true y.0.ticket d.ticket found.1) in
      ap (find (λ (e : RulesCommand). e.ticket == d.ticket)) (entered_same r.both.trace d status) ∙ y.1 ∙ ap (λ (e : RulesCommand). Some e) same

  named_it : is_named names d ≡ true
  named_it = each_in (IsLiveNamed names r.both.trace) (entered r.both.trace) d entered_there f.requests.live_named lives_now

  -- ---- what waits

  abbrev pub waiting : WaitingReply
  waiting = record { log_place = r.both.box.sent; request = b.c.request }

  abbrev pub replies' : WaitingReplies
  replies' = pushed p waiting s.replies

  pub replies_long : length s.replies.waiting ≡ length r.both.box.links
  replies_long = f.sizes.replies ∙ sym (as_many_links i s r f.outbox)

  pub replies_here : of_conn p replies'.waiting ≡ of_conn p s.replies.waiting ++ waiting ∷ []
  replies_here = get_or-set_same s.replies.waiting p (of_conn p s.replies.waiting ++ waiting ∷ []) [] (let there = place.within in omega (arith, there, replies_long))

  pub replies_others : (q : ℕ) → (q ≡ p → ⊥) → of_conn q replies'.waiting ≡ of_conn q s.replies.waiting
  replies_others q other = get_or-set_other s.replies.waiting p q (of_conn p s.replies.waiting ++ waiting ∷ []) [] other

  known_reply : IsKnownOut names (done_trace r.both.trace d status) (r.answers ++ d.arrival.event ∷ []) out
  known_reply = record {
    of_reply = subst (IsNamedEvent names) (sym at_last) named_it;
    of_command = (d, found_now, named_it);
    same = (d, found_now, at_last);
    own = refl;
  }
    where
      at_last : nth r.both.box.sent (r.answers ++ d.arrival.event ∷ []) ≡ Some d.arrival.event
      at_last = ap (λ k. nth k (r.answers ++ d.arrival.event ∷ [])) (sym f.requests.answers) ∙ nth_last r.answers d.arrival.event

  all_before : AllQueued names r.both.trace r.answers (λ q. of_conn q s.replies.waiting) (λ q. length (of_conn q s.noted.handed)) r.both.box.links r.both.box.undue
  all_before = all_queued i names notes f.pending f.gone s r f.requests f.outbox f.fit.fit.distinct f.fit.fit.sound

  many_got : length (map gets r.both.box.links) ≡ length r.both.box.links
  many_got = length-map r.both.box.links gets

  link_here : link_in (map gets r.both.box.links) p ≡ record (link_in r.both.box.links p) { queue = (link_in r.both.box.links p).queue ++ out ∷ [] }
  link_here =
      link_map gets r.both.box.links p place.within
      ∙ ap (λ v. cond v (append out (link_in r.both.box.links p)) (link_in r.both.box.links p)) (eq-eqb (link_in r.both.box.links p).conn (connection_of d.arrival.request) conn_is)
      ∙ ap (λ v. cond v (record (link_in r.both.box.links p) { queue = (link_in r.both.box.links p).queue ++ out ∷ [] }) (link_in r.both.box.links p)) takes_it

  elsewhere : (q : ℕ) → q < length r.both.box.links → (q ≡ p → ⊥) → ((link_in r.both.box.links q).conn == connection_of d.arrival.request) ≡ false
  elsewhere q short other = ne_eqb (link_in r.both.box.links q).conn (connection_of d.arrival.request) (λ same. other (one_place r.both.box.links q p apart_links short place.within (same ∙ sym conn_is)))

  link_other : (q : ℕ) → q < length r.both.box.links → (q ≡ p → ⊥) → link_in (map gets r.both.box.links) q ≡ link_in r.both.box.links q
  link_other q short other = link_map gets r.both.box.links q short ∙ ap (λ v. cond v (append out (link_in r.both.box.links q)) (link_in r.both.box.links q)) (elsewhere q short other)

  -- nothing of the command waits there
  apart_there : (q : ℕ) → q < length r.both.box.links → (q ≡ p → ⊥) → (task.x.conn == (link_in r.both.box.links q).conn) ≡ false
  apart_there q short other =
      let at : task.x.conn ≡ connection_of d.arrival.request = eqb-true task.x.conn (home_of r d.ticket) task_home.0 ∙ home_is in
      ne_eqb task.x.conn (link_in r.both.box.links q).conn (λ same. false≢true (sym (elsewhere q short other) ∙ eq-eqb (link_in r.both.box.links q).conn (connection_of d.arrival.request) (sym same ∙ at)))

  all_replied : AllQueued names (done_trace r.both.trace d status) (r.answers ++ d.arrival.event ∷ []) (λ q. of_conn q replies'.waiting) (λ q. length (of_conn q s.noted.handed)) (map gets r.both.box.links) r.both.box.undue
  all_replied = record {
    queued = λ q within. ⊎_elim
        (λ (same : q ≡ p). subst (λ k. IsQueued names (done_trace r.both.trace d status) (r.answers ++ d.arrival.event ∷ []) r.both.box.undue (of_conn k replies'.waiting) (length (of_conn k s.noted.handed)) (link_in (map gets r.both.box.links) k)) (sym same)
        (subst (λ xs. IsQueued names (done_trace r.both.trace d status) (r.answers ++ d.arrival.event ∷ []) r.both.box.undue xs (length (of_conn p s.noted.handed)) (link_in (map gets r.both.box.links) p)) (sym replies_here)
        (subst (IsQueued names (done_trace r.both.trace d status) (r.answers ++ d.arrival.event ∷ []) r.both.box.undue (of_conn p s.replies.waiting ++ waiting ∷ []) (length (of_conn p s.noted.handed))) (sym link_here)
        (queued_reply names r.both.trace r.answers d status out r.both.box.sent refl refl r.both.box.undue (of_conn p s.replies.waiting) waiting (length (of_conn p s.noted.handed)) (link_in r.both.box.links p) refl refl known_reply (all_before.queued p place.within)))))
        (λ (other : q ≡ p → ⊥).
        let short : q < length r.both.box.links = omega (arith, within, many_got) in
        subst (λ xs. IsQueued names (done_trace r.both.trace d status) (r.answers ++ d.arrival.event ∷ []) r.both.box.undue xs (length (of_conn q s.noted.handed)) (link_in (map gets r.both.box.links) q)) (sym (replies_others q other))
        (subst (IsQueued names (done_trace r.both.trace d status) (r.answers ++ d.arrival.event ∷ []) r.both.box.undue (of_conn q s.replies.waiting) (length (of_conn q s.noted.handed))) (sym (link_other q short other))
        (queued_apart names r.both.trace r.answers d status r.both.box.undue (of_conn q s.replies.waiting) (length (of_conn q s.noted.handed)) (link_in r.both.box.links q)
        (apart_on names r.both.trace r.answers d status r.both.box.tasks task.x f.fit.fit.sound.homes.ascending task.there (eqb-true task.x.ticket d.ticket task_parts.0) (link_in r.both.box.links q).conn (apart_there q short other) (link_in r.both.box.links q).queue
        (each-at (IsLinkSound i.outbox r.both.box.tasks) r.both.box.links q (new_link 0) short f.fit.fit.sound.links).queued)
        (all_before.queued q short))))
        (cases_eq q p);
    undue_are = undue_more names r.both.trace r.answers d status r.both.box.undue all_before.undue_are;
    taken = each-weaken (λ (x : Answer). list_any (is_taking x.conn) r.both.box.links ≡ true) (λ (x : Answer). list_any (is_taking x.conn) (map gets r.both.box.links) ≡ true) r.both.box.undue
        (λ x k. any_map (is_taking x.conn) gets r.both.box.links (λ l. ap (λ c. c == x.conn && takes_more (gets l)) (same_got l).conn ∙ ap (λ v. l.conn == x.conn && v) (same_got l).takes) ∙ k) all_before.taken;
    apart = subst LinksApart (sym (conns_map gets r.both.box.links (λ l. (same_got l).conn))) all_before.apart;
  }

  settled : SettledTo names (done_trace r.both.trace d status) (r.answers ++ d.arrival.event ∷ []) (λ q. of_conn q replies'.waiting) (λ q. length (of_conn q s.noted.handed)) (map gets r.both.box.links) (settle i.outbox replied)
  settled = settled_to names (done_trace r.both.trace d status) (r.answers ++ d.arrival.event ∷ []) (λ q. of_conn q replies'.waiting) (λ q. length (of_conn q s.noted.handed)) i.outbox replied all_replied

  -- ---- what waits then

  pub queued_after : AllQueued names (done_trace r.both.trace d status) (r.answers ++ d.arrival.event ∷ []) (λ q. of_conn q replies'.waiting) (λ q. length (of_conn q s.noted.handed)) box_after.links box_after.undue
  queued_after = settled.all

  pub many_after : length box_after.links ≡ length r.both.box.links
  many_after = settled.long ∙ many_got

  pub same_after : (q : ℕ) → q < length r.both.box.links → SameOut (link_in r.both.box.links q) (link_in box_after.links q)
  same_after q short =
      let x : SameOut (link_in (map gets r.both.box.links) q) (link_in box_after.links q) = settled.same q (omega (arith, short, many_got)) in
      let y : SameOut (link_in r.both.box.links q) (link_in (map gets r.both.box.links) q) = subst (SameOut (link_in r.both.box.links q)) (sym (link_map gets r.both.box.links q short)) (same_got (link_in r.both.box.links q)) in
      record { conn = x.conn ∙ y.conn; takes = x.takes ∙ y.takes; left = x.left ∙ y.left }

  pub sent_after : box_after.sent ≡ r.both.box.sent + 1
  sent_after = settled_sent i.outbox [] r.both.box.undue replied
