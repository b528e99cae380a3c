-- A unit doesn't touch the medium for a command any more.
use Rattle.std.proofs.Common.{◌≡◌, ℕ, ◌-◌, ◌<◌, ◌==◌, ◌&&◌, ◌^◌, cond, Bool, true, false, List, [], ◌∷◌, map, filter, Option, Some, None, refl, ap, sym, subst, ◌∙◌, arith, eq-eqb}
use Rattle.std.specs.List.{list_any}
use Rattle.std.proofs.lemmas.Bool.{and_from, and_parts, eqb-true, false≢true}
use Rattle.iscsi_rules.specs.rules.Settings.{are_distinct}
use Rattle.iscsi_outbox_rules.specs.promises.Room.{Fits}
use Rattle.iscsi_outbox_rules.specs.rules.Calls.{Opening}
use Rattle.iscsi_outbox_rules.specs.rules.Boxes.{Phase, Dormant, Fresh, Started, Completed, Running, Gone, Task, Handed, Link, Answer, Box}
use Rattle.iscsi_outbox_rules.specs.rules.Words.{contains, is_left, is_left_phase, is_running as is_running_box, is_running_phase}
use Rattle.iscsi_outbox_rules.specs.rules.Due.{settle as settle_box}
use Rattle.iscsi_outbox_rules.specs.rules.Items.{in_phase as tasks_in_phase}
use Rattle.iscsi_outbox_rules.specs.rules.Run.{after_stopped, phase_stopped}
use Rattle.iscsi_outbox_state.specs.Lane.{stopped as stopped_in}
use Rattle.iscsi_outbox_steps.specs.State.{State}
use Rattle.iscsi_outbox_steps.specs.Steps.{is_running, is_running_ticket, settle, stopped, stopped_command}
use Rattle.iscsi_tracked.specs.declared.command.Command.{Command}
use Rattle.iscsi_tracked.specs.declared.command.Phase.TheVariants.{Gone as Left}
use Rattle.iscsi_tracked.specs.Tracked.{find_ticket, in_phase, is_out, removed}
use Rattle.iscsi_outbox_law.specs.private.Pairs.{EachOf}
use Rattle.iscsi_outbox_law.specs.private.Commands.{IsCommand, is_kept, is_under_way}
use Rattle.iscsi_outbox_law.specs.private.Sound.{HasHome, IsSound}
use Rattle.iscsi_outbox_law.specs.private.Stands.{Stands}
use Rattle.iscsi_outbox_law.proofs.general.PairLemmas.{each-weaken}
use Rattle.iscsi_outbox_law.proofs.general.Members.{In, any_found, any_from, filter_in, find_in, in_filter, pair_for, pair_of, same_tests}
use Rattle.iscsi_outbox_law.proofs.sending.NextStands.{found_ticket}
use Rattle.iscsi_outbox_law.proofs.commands.TrackedLemmas.{any_map, order_map}
use Rattle.iscsi_outbox_law.proofs.queues.Dues.{running_as, running_kept}
use Rattle.iscsi_outbox_law.proofs.calls.Calm.{calm, room_there}
use Rattle.iscsi_outbox_law.proofs.queues.Settling.{IsCalm, settle_stands}
use Rattle.iscsi_outbox_law.proofs.commands.StopsOut.{out_stands, turned}
use Rattle.iscsi_outbox_law.proofs.commands.StopsGone.{gone_stands}

-- ---- a task that stops keeps its ticket and its connection, and has left just where it had

turned_ticket : (ticket : ℕ) (t : Task) → (turned ticket t).ticket ≡ t.ticket
turned_ticket ticket t = elim (contains (ticket ∷ []) t.ticket) as (λ w. (cond w (record t { phase = phase_stopped t.phase }) t).ticket ≡ t.ticket) [ true ↦ refl | false ↦ refl ]

turned_conn : (ticket : ℕ) (t : Task) → (turned ticket t).conn ≡ t.conn
turned_conn ticket t = elim (contains (ticket ∷ []) t.ticket) as (λ w. (cond w (record t { phase = phase_stopped t.phase }) t).conn ≡ t.conn) [ true ↦ refl | false ↦ refl ]

stopped_left : (p : Phase) → is_left_phase (phase_stopped p) ≡ is_left_phase p
stopped_left Dormant = refl
stopped_left Fresh = refl
stopped_left Started = refl
stopped_left Completed = refl
stopped_left Running = refl
stopped_left Gone = refl

turned_left : (ticket : ℕ) (t : Task) → is_left_phase (turned ticket t).phase ≡ is_left_phase t.phase
turned_left ticket t = elim (contains (ticket ∷ []) t.ticket) as (λ w. is_left_phase (cond w (record t { phase = phase_stopped t.phase }) t).phase ≡ is_left_phase t.phase) [ true ↦ stopped_left t.phase | false ↦ refl ]

home_turned : (ticket conn : ℕ) (tasks : List Task) (x : Option ℕ) → (elim x as (λ (y : Option ℕ). Type 0) [ Some k ↦ list_any (λ (t : Task). t.ticket == k && t.conn == conn) tasks ≡ true | None ↦ Unit {0} ])
    → (elim x as (λ (y : Option ℕ). Type 0) [ Some k ↦ list_any (λ (t : Task). t.ticket == k && t.conn == conn) (map (turned ticket) tasks) ≡ true | None ↦ Unit {0} ])
home_turned ticket conn tasks None h = tt
home_turned ticket conn tasks (Some k) h =
    any_map (λ (t : Task). t.ticket == k && t.conn == conn) (turned ticket) tasks (λ t. ap (λ n. n == k && (turned ticket t).conn == conn) (turned_ticket ticket t) ∙ ap (λ n. t.ticket == k && n == conn) (turned_conn ticket t)) ∙ h

module _ (o : Opening) (s : State) (b : Box) (h : Stands o s b) (sound : IsSound o b) (distinct : are_distinct o.session.conns ≡ true) (ticket : ℕ) where
  abbrev b' : Box
  b' = tasks_in_phase phase_stopped (ticket ∷ []) b

  calm_stopped : IsCalm o b' b.undue
  calm_stopped =
      let k : IsCalm o b b.undue = calm o s b h sound distinct in
      record {
        homes = record {
          ascending = order_map (λ (t u : Task). t.ticket < u.ticket) (turned ticket) b.tasks (λ t u lt. omega (arith, lt, turned_ticket ticket t, turned_ticket ticket u)) k.homes.ascending;
          handed = each-weaken (λ (l : Link). EachOf (λ (g : Handed). HasHome b.tasks l.conn g.out) l.handed) (λ (l : Link). EachOf (λ (g : Handed). HasHome b'.tasks l.conn g.out) l.handed) b.links
              (λ l j. each-weaken (λ (g : Handed). HasHome b.tasks l.conn g.out) (λ (g : Handed). HasHome b'.tasks l.conn g.out) l.handed (λ g i. home_turned ticket l.conn b.tasks (g.out.ticket) i) j) k.homes.handed;
        };
        apart = k.apart;
        own = k.own;
        scopes = each-weaken (λ (a : Answer). (n : ℕ) → contains a.out.scope n ≡ true → is_left b n ≡ true) (λ (a : Answer). (n : ℕ) → contains a.out.scope n ≡ true → is_left b' n ≡ true) b.undue
            (λ a j n named. any_map (λ (t : Task). t.ticket == n && is_left_phase t.phase) (turned ticket) b.tasks (λ t. ap (λ m. m == n && is_left_phase (turned ticket t).phase) (turned_ticket ticket t) ∙ ap (λ v. t.ticket == n && v) (turned_left ticket t)) ∙ j n named) k.scopes;
      }

  runs_both : is_running_ticket ticket s ≡ is_running_box b ticket
  runs_both = same_tests (is_running_ticket ticket s) (is_running_box b ticket) (to_box (find_ticket ticket s.tracked) refl) from_box
    where
      to_box : (x : Option Command) → find_ticket ticket s.tracked ≡ x → (elim x as (λ (y : Option Command). Bool) [ Some c ↦ is_running c | None ↦ false ]) ≡ true → is_running_box b ticket ≡ true
      to_box None found is = absurd (false≢true is)
      to_box (Some c) found is =
          let at = find_in (λ (x : Command). x.ticket == ticket) s.tracked.commands c found in
          let k : (t : Task) × In t (filter (is_kept (is_under_way o b.links)) b.tasks) × IsCommand (is_under_way o b.links) s.limits.cids b.links c t =
          pair_of (IsCommand (is_under_way o b.links) s.limits.cids b.links) s.tracked.commands (filter (is_kept (is_under_way o b.links)) b.tasks) c at.0 h.commands in
          any_from (λ (t : Task). t.ticket == ticket && is_running_phase t.phase) b.tasks k.0 (in_filter (is_kept (is_under_way o b.links)) b.tasks k.0 k.1).0
          (and_from (k.0.ticket == ticket) (is_running_phase k.0.phase) (eq-eqb k.0.ticket ticket (sym k.2.ticket ∙ eqb-true c.ticket ticket at.1)) (sym (running_as c k.0 k.2.phase) ∙ is))

      from_box : is_running_box b ticket ≡ true → is_running_ticket ticket s ≡ true
      from_box some =
          let t : (x : Task) × In x b.tasks × ((x.ticket == ticket && is_running_phase x.phase) ≡ true) = any_found (λ (x : Task). x.ticket == ticket && is_running_phase x.phase) b.tasks some in
          let parts = and_parts (t.0.ticket == ticket) (is_running_phase t.0.phase) t.2 in
          let d : (c : Command) × In c s.tracked.commands × IsCommand (is_under_way o b.links) s.limits.cids b.links c t.0 =
          pair_for (IsCommand (is_under_way o b.links) s.limits.cids b.links) s.tracked.commands (filter (is_kept (is_under_way o b.links)) b.tasks) t.0
          (filter_in (is_kept (is_under_way o b.links)) b.tasks t.0 t.1 (running_kept t.0.phase (is_under_way o b.links t.0.ticket) parts.1)) h.commands in
          ap (λ (x : Option Command). elim x as (λ (y : Option Command). Bool) [ Some c ↦ is_running c | None ↦ false ]) (found_ticket s.tracked d.0 ticket h.placed d.1 (d.2.ticket ∙ eqb-true t.0.ticket ticket parts.0))
          ∙ running_as d.0 t.0 d.2.phase ∙ parts.1

  pub stops_answered : is_running_ticket ticket s ≡ is_running_box b ticket
  stops_answered = runs_both

  stopped_now : (c : Command) → find_ticket ticket s.tracked ≡ Some c → is_running c ≡ true → Stands o (stopped_command c s) b'
  stopped_now c found running = by_out (is_out c) refl
    where
      by_out : (w : Bool) → is_out c ≡ w → Stands o (stopped_command c s) b'
      by_out true is =
          subst (λ (w : Bool). Stands o (cond w (record s { lane = stopped_in c.place s.lane; tracked = in_phase Left c.place s.tracked }) (record s { lane = stopped_in c.place s.lane; tracked = removed c.place s.tracked })) b') (sym is)
          (out_stands o s b h sound.homes ticket c found running is)
      by_out false is =
          subst (λ (w : Bool). Stands o (cond w (record s { lane = stopped_in c.place s.lane; tracked = in_phase Left c.place s.tracked }) (record s { lane = stopped_in c.place s.lane; tracked = removed c.place s.tracked })) b') (sym is)
          (gone_stands o s b h sound.homes ticket c found running is)

  module _ (fits : Fits o b) (timed : (after_stopped o b ticket).time < 2 ^ 64 - 1) where
    abbrev box_at : Bool → Box
    box_at v = cond v (settle_box o b') b

    runs_so : (x : Option Command) → find_ticket ticket s.tracked ≡ x → (elim x as (λ (y : Option Command). Bool) [ Some c ↦ is_running c | None ↦ false ]) ≡ is_running_box b ticket
    runs_so x found = sym (ap (λ (z : Option Command). elim z as (λ (y : Option Command). Bool) [ Some c ↦ is_running c | None ↦ false ]) found) ∙ runs_both

    by_running : (c : Command) (v : Bool) → find_ticket ticket s.tracked ≡ Some c → is_running c ≡ v → Stands o (cond v (settle (stopped_command c s)) s) (after_stopped o b ticket)
    by_running c true found running =
        let same : is_running_box b ticket ≡ true = sym (runs_so (Some c) found) ∙ running in
        subst (λ (v : Bool). Stands o (settle (stopped_command c s)) (box_at v)) (sym same)
        (settle_stands o (stopped_command c s) b' (stopped_now c found running) calm_stopped (room_there o s b h sound distinct fits) (subst (λ (v : Bool). (box_at v).time < 2 ^ 64 - 1) same timed))
    by_running c false found running =
        let same : is_running_box b ticket ≡ false = sym (runs_so (Some c) found) ∙ running in
        subst (λ (v : Bool). Stands o s (box_at v)) (sym same) h

    pub stops_stands : Stands o (stopped ticket s) (after_stopped o b ticket)
    stops_stands = by_found (find_ticket ticket s.tracked) refl
      where
        by_found : (x : Option Command) → find_ticket ticket s.tracked ≡ x → Stands o (elim x as (λ (y : Option Command). State) [ Some c ↦ cond (is_running c) (settle (stopped_command c s)) s | None ↦ s ]) (after_stopped o b ticket)
        by_found None found = subst (λ (v : Bool). Stands o s (box_at v)) (runs_so None found) h
        by_found (Some c) found = by_running c (is_running c) found refl
