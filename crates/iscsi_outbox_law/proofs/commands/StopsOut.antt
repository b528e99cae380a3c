-- A command that ran is stopped, of which something is under way still.
use Rattle.std.proofs.Common.{◌≡◌, ℕ, ◌+◌, ◌==◌, ◌&&◌, ◌||◌, inl, inr, ⊎_elim, cond, Bool, true, false, List, [], ◌∷◌, map, filter, count_by, Option, Some, None, refl, ap, sym, subst, ◌∙◌, eq-eqb, ne_eqb}
use Rattle.std.specs.List.{find}
use Rattle.std.proofs.lemmas.Bool.{cases_eq, eqb-false, eqb-true}
use Rattle.iscsi_arrivals.proofs.CountLemmas.{count-cons}
use Rattle.iscsi_outbox_rules.specs.rules.Calls.{Opening}
use Rattle.iscsi_outbox_rules.specs.rules.Boxes.{Phase, Running, Task, Box}
use Rattle.iscsi_outbox_rules.specs.rules.Words.{contains, is_left_phase, is_live_phase, is_running_phase}
use Rattle.iscsi_outbox_rules.specs.rules.Items.{in_phase as tasks_in_phase}
use Rattle.iscsi_outbox_rules.specs.rules.Run.{phase_stopped}
use Rattle.iscsi_outbox_state.specs.Lane.{not_running, stopped as stopped_in}
use Rattle.iscsi_outbox_steps.specs.State.{State}
use Rattle.iscsi_outbox_steps.specs.Steps.{is_live, is_running}
use Rattle.iscsi_tracked.specs.declared.command.Command.{Command}
use Rattle.iscsi_tracked.specs.declared.command.Phase.{Phase as KeptPhase}
use Rattle.iscsi_tracked.specs.declared.command.Phase.TheVariants.{Dormant as KeptDormant, Fresh as KeptFresh, Started as KeptStarted, Running as KeptRunning, Gone as KeptGone}
use Rattle.iscsi_tracked.specs.Tracked.{Tracked, find_place, find_ticket, in_phase, is_at, is_out, to_phase, with_command}
use Rattle.iscsi_outbox_law.specs.private.Pairs.{PairsOf}
use Rattle.iscsi_outbox_law.specs.private.Links.{live_place}
use Rattle.iscsi_outbox_law.specs.private.Commands.{AreCommands, IsCommand, is_kept, is_under_way, link_in, phase_of}
use Rattle.iscsi_outbox_law.specs.private.Lanes.{is_gone, left_at}
use Rattle.iscsi_outbox_law.specs.private.Sound.{HaveHomes}
use Rattle.iscsi_outbox_law.specs.private.Stands.{Stands}
use Rattle.iscsi_outbox_law.proofs.general.Members.{In, find_in, in_filter, pair_of}
use Rattle.iscsi_outbox_law.proofs.commands.Homes.{one_task}
use Rattle.iscsi_outbox_law.proofs.commands.LeftOut.{found_there, out_under}
use Rattle.iscsi_outbox_law.proofs.sending.NextStands.{found_ticket}
use Rattle.iscsi_outbox_law.proofs.sending.HandedLemmas.{queues_weaken}
use Rattle.iscsi_outbox_law.proofs.commands.TrackedLemmas.{at_place, found_changed, ticket_changed}
use Rattle.iscsi_outbox_law.proofs.commands.TrackedChanges.{keeps_phase, placed_phase, trails_phase}
use Rattle.iscsi_outbox_law.proofs.commands.LeftEnds.{answers_stay, stays_left}
use Rattle.iscsi_outbox_law.proofs.commands.Stopping.{dead_owes, filter_turn, keeps_not_running, pairs_turn_both, runs}

-- the command of the tasks that stops
abbrev pub turned : ℕ → Task → Task
turned ticket t = cond (contains (ticket ∷ []) t.ticket) (record t { phase = phase_stopped t.phase }) t

or_no : (v : Bool) → (v || false) ≡ v
or_no true = refl
or_no false = refl

pub turned_mine : (ticket : ℕ) (t : Task) → t.ticket ≡ ticket → turned ticket t ≡ record t { phase = phase_stopped t.phase }
turned_mine ticket t is = ap (λ (v : Bool). cond v (record t { phase = phase_stopped t.phase }) t) (or_no (ticket == t.ticket) ∙ eq-eqb ticket t.ticket (sym is))

pub turned_other : (ticket : ℕ) (t : Task) → (t.ticket ≡ ticket → ⊥) → turned ticket t ≡ t
turned_other ticket t apart = ap (λ (v : Bool). cond v (record t { phase = phase_stopped t.phase }) t) (or_no (ticket == t.ticket) ∙ ne_eqb ticket t.ticket (λ same. apart (sym same)))

module _ (o : Opening) (s : State) (b : Box) (h : Stands o s b) (homes : HaveHomes b) (ticket : ℕ) (c : Command) (found : find_ticket ticket s.tracked ≡ Some c) (running : is_running c ≡ true) where
  abbrev v : Tracked
  v = s.tracked

  pub kept : In c s.tracked.commands
  kept = (find_in (λ (x : Command). x.ticket == ticket) s.tracked.commands c found).0

  pub ticket_is : c.ticket ≡ ticket
  ticket_is = eqb-true c.ticket ticket (find_in (λ (x : Command). x.ticket == ticket) s.tracked.commands c found).1

  phase_is : c.phase ≡ KeptRunning
  phase_is = runs (c.phase) running

  pub dead : is_live c ≡ false
  dead = ap (λ (p : KeptPhase). elim p as (λ (q : KeptPhase). Bool) [ KeptDormant ↦ true | KeptFresh ↦ true | KeptStarted ↦ true | KeptRunning ↦ false | KeptGone ↦ false ]) phase_is

  pub by_place : (d : Command) → In d s.tracked.commands → d.place ≡ c.place → d ≡ c
  by_place d at same =
      let e : find_place c.place s.tracked ≡ Some d = ap (λ n. find_place n s.tracked) (sym same) ∙ found_there s.tracked d h.placed at in
      let f : find_place c.place s.tracked ≡ Some c = found_there s.tracked c h.placed kept in cc

  pub by_ticket : (d : Command) → In d s.tracked.commands → d.ticket ≡ ticket → d ≡ c
  by_ticket d at same = let e : find_ticket ticket s.tracked ≡ Some d = found_ticket s.tracked d ticket h.placed at same in cc

  pair : (t : Task) × In t (filter (is_kept (is_under_way o b.links)) b.tasks) × IsCommand (is_under_way o b.links) s.limits.cids b.links c t
  pair = pair_of (IsCommand (is_under_way o b.links) s.limits.cids b.links) s.tracked.commands (filter (is_kept (is_under_way o b.links)) b.tasks) c kept h.commands

  pub task_runs : (t : Task) → In t b.tasks → t.ticket ≡ ticket → t.phase ≡ Running
  task_runs t at is =
      let k = pair in
      let same : t ≡ k.0 = one_task b.tasks t k.0 homes.ascending at (in_filter (is_kept (is_under_way o b.links)) b.tasks k.0 k.1).0 (is ∙ sym ticket_is ∙ k.2.ticket) in
      ap (λ (x : Task). x.phase) same ∙ sym k.2.phase ∙ ap phase_of phase_is

  pub out_is : is_out c ≡ is_under_way o b.links c.ticket
  out_is = out_under (is_under_way o b.links) c.ticket (link_in b.links c.conn) (c.last_out) pair.2.out

  -- whether the task is kept, once it is stopped
  pub stopped_kept : (t : Task) → In t b.tasks → t.ticket ≡ ticket → is_kept (is_under_way o b.links) (turned ticket t) ≡ is_out c
  stopped_kept t at is =
      ap (is_kept (is_under_way o b.links)) (turned_mine ticket t is)
      ∙ ap (λ (p : Phase). is_live_phase (phase_stopped p) || (is_running_phase (phase_stopped p) || (is_left_phase (phase_stopped p) && is_under_way o b.links t.ticket))) (task_runs t at is)
      ∙ ap (is_under_way o b.links) (is ∙ sym ticket_is) ∙ sym out_is

  pub running_kept : (t : Task) → In t b.tasks → t.ticket ≡ ticket → is_kept (is_under_way o b.links) t ≡ true
  running_kept t at is = ap (λ (p : Phase). is_live_phase p || (is_running_phase p || (is_left_phase p && is_under_way o b.links t.ticket))) (task_runs t at is)

  -- ---- something of it is under way

  module _ (out : is_out c ≡ true) where
    abbrev v' : Tracked
    v' = in_phase KeptGone c.place s.tracked

    lives : (d : Command) → In d s.tracked.commands → is_live (at_place (to_phase KeptGone) c.place d) ≡ is_live d
    lives d at = elim (is_at c.place d) as (λ w. is_at c.place d ≡ w → is_live (cond w (to_phase KeptGone d) d) ≡ is_live d) [
      | true ↦ λ here. sym (ap is_live (by_place d at (eqb-true d.place c.place here)) ∙ dead)
      | false ↦ λ there. refl
    ] refl

    same_kept : (t : Task) → In t b.tasks → is_kept (is_under_way o b.links) (turned ticket t) ≡ is_kept (is_under_way o b.links) t
    same_kept t at = ⊎_elim (λ is. stopped_kept t at is ∙ out ∙ sym (running_kept t at is)) (λ apart. ap (is_kept (is_under_way o b.links)) (turned_other ticket t apart)) (cases_eq t.ticket ticket)

    commands_out : AreCommands (is_under_way o b.links) s.limits.cids b.links (map (turned ticket) b.tasks) v'
    commands_out =
        subst (PairsOf (IsCommand (is_under_way o b.links) s.limits.cids b.links) v'.commands) (sym (filter_turn (is_kept (is_under_way o b.links)) (turned ticket) b.tasks same_kept))
        (pairs_turn_both (IsCommand (is_under_way o b.links) s.limits.cids b.links) (IsCommand (is_under_way o b.links) s.limits.cids b.links) (at_place (to_phase KeptGone) c.place) (turned ticket) s.tracked.commands (filter (is_kept (is_under_way o b.links)) b.tasks) both h.commands)
      where
        both : (d : Command) (t : Task) → In d s.tracked.commands → In t (filter (is_kept (is_under_way o b.links)) b.tasks) → IsCommand (is_under_way o b.links) s.limits.cids b.links d t
            → IsCommand (is_under_way o b.links) s.limits.cids b.links (at_place (to_phase KeptGone) c.place d) (turned ticket t)
        both d t at for k = elim (is_at c.place d) as (λ w. is_at c.place d ≡ w → IsCommand (is_under_way o b.links) s.limits.cids b.links (cond w (to_phase KeptGone d) d) (turned ticket t)) [
          | true ↦ λ here.
              let same : d ≡ c = by_place d at (eqb-true d.place c.place here) in
              let is : t.ticket ≡ ticket = sym k.ticket ∙ ap (λ (x : Command). x.ticket) same ∙ ticket_is in
              subst (IsCommand (is_under_way o b.links) s.limits.cids b.links (to_phase KeptGone d)) (sym (turned_mine ticket t is))
              (record {
                ticket = k.ticket;
                conn = k.conn;
                unit = k.unit;
                tag = k.tag;
                numbered = k.numbered;
                phase = sym (ap phase_stopped (task_runs t (in_filter (is_kept (is_under_way o b.links)) b.tasks t for).0 is));
                out = k.out;
              })
          | false ↦ λ there.
              let apart : t.ticket ≡ ticket → ⊥ = λ is. eqb-false d.place c.place there (ap (λ (x : Command). x.place) (by_ticket d at (k.ticket ∙ is))) in
              subst (IsCommand (is_under_way o b.links) s.limits.cids b.links d) (sym (turned_other ticket t apart)) k
        ] refl

    place_out : (k : ℕ) → live_place v' k ≡ live_place s.tracked k
    place_out k =
        ap (λ (x : Option Command). elim x as (λ (y : Option Command). Option ℕ) [ Some d ↦ cond (is_live d) (Some d.place) None | None ↦ None ]) (ticket_changed (to_phase KeptGone) (keeps_phase KeptGone) c.place k s.tracked.commands)
        ∙ by_found (find (λ (d : Command). d.ticket == k) s.tracked.commands) refl
      where
        by_found : (x : Option Command) → find (λ (d : Command). d.ticket == k) s.tracked.commands ≡ x
            → (elim (elim x as (λ (y : Option Command). Option Command) [ Some d ↦ Some (at_place (to_phase KeptGone) c.place d) | None ↦ None ]) as (λ (y : Option Command). Option ℕ) [ Some d ↦ cond (is_live d) (Some d.place) None | None ↦ None ])
            ≡ (elim x as (λ (y : Option Command). Option ℕ) [ Some d ↦ cond (is_live d) (Some d.place) None | None ↦ None ])
        by_found None is = refl
        by_found (Some d) is =
            let at : In d s.tracked.commands = (find_in (λ (x : Command). x.ticket == k) s.tracked.commands d is).0 in
            elim (is_at c.place d) as (λ w. is_at c.place d ≡ w → cond (is_live (cond w (to_phase KeptGone d) d)) (Some (cond w (to_phase KeptGone d) d).place) None ≡ cond (is_live d) (Some d.place) None) [
              | true ↦ λ here. sym (ap (λ (u : Bool). cond u (Some d.place) None) (ap is_live (by_place d at (eqb-true d.place c.place here)) ∙ dead))
              | false ↦ λ there. refl
            ] refl

    there : (n : ℕ) → (n ≡ c.place → ⊥) → find_place n v' ≡ find_place n s.tracked
    there n apart = found_changed (to_phase KeptGone) (keeps_phase KeptGone) c.place n s.tracked.commands ∙ by_found (find (is_at n) s.tracked.commands) refl
      where
        by_found : (x : Option Command) → find (is_at n) s.tracked.commands ≡ x → (elim x as (λ (y : Option Command). Option Command) [ Some d ↦ Some (at_place (to_phase KeptGone) c.place d) | None ↦ None ]) ≡ x
        by_found None is = refl
        by_found (Some d) is =
            ap (λ (w : Bool). Some (cond w (to_phase KeptGone d) d)) (ne_eqb d.place c.place (λ same. apart (sym (eqb-true d.place n (find_in (is_at n) s.tracked.commands d is).1) ∙ same)))

    here : find_place c.place v' ≡ Some (to_phase KeptGone c)
    here =
        found_changed (to_phase KeptGone) (keeps_phase KeptGone) c.place c.place s.tracked.commands
        ∙ ap (λ (x : Option Command). elim x as (λ (y : Option Command). Option Command) [ Some d ↦ Some (at_place (to_phase KeptGone) c.place d) | None ↦ None ]) (found_there s.tracked c h.placed kept)
        ∙ ap (λ (w : Bool). Some (cond w (to_phase KeptGone c) c)) (eq-eqb c.place c.place refl)

    counted : (cs : List Command) → ((d : Command) → In d cs → In d s.tracked.commands) → count_by is_gone (with_command (to_phase KeptGone) c.place cs) ≡ count_by is_gone cs
    counted [] among = refl
    counted (d ∷ cs) among =
        count-cons is_gone (at_place (to_phase KeptGone) c.place d) (with_command (to_phase KeptGone) c.place cs)
        ∙ ap (λ (u : Bool). cond (cond u false true) 1 0 + count_by is_gone (with_command (to_phase KeptGone) c.place cs)) (lives d (among d (inl refl)))
        ∙ ap (λ n. cond (is_gone d) 1 0 + n) (counted cs (λ e at. among e (inr at))) ∙ sym (count-cons is_gone d cs)

    pub out_stands : Stands o (record s { lane = stopped_in c.place s.lane; tracked = v' }) (tasks_in_phase phase_stopped (ticket ∷ []) b)
    out_stands = record {
      sizes = record { limits = h.sizes.limits; waits = h.sizes.waits; answers = h.sizes.answers; commands = h.sizes.commands; trails = h.sizes.trails };
      numbers = record { time = h.numbers.time; exp = h.numbers.exp; max = h.numbers.max; shown = h.numbers.shown; reached = h.numbers.reached; sent = h.numbers.sent };
      links = h.links;
      queues = queues_weaken s.tracked v' place_out s.waits.queues b.links h.queues;
      commands = commands_out;
      placed = placed_phase KeptGone c.place s.tracked h.placed;
      trails = trails_phase KeptGone c.place s.tracked h.trails;
      left = stays_left s.tracked s.lane.items h.left h.placed (dead_owes (is_under_way o b.links) o s b h) c kept dead not_running keeps_not_running v' out there (ap left_at here) (counted s.tracked.commands (λ d at. at));
      answers = answers_stay s.tracked s.lane.items h.left h.placed (dead_owes (is_under_way o b.links) o s b h) c kept dead not_running keeps_not_running s.limits.cids v' (to_phase KeptGone) (keeps_phase KeptGone) lives refl out b.undue h.answers;
      fence = h.fence;
    }
