-- A command that ran is stopped, of which nothing is under way: it isn't kept any more.
use Rattle.std.proofs.Common.{◌≡◌, ◌≢◌, ℕ, ◌+◌, ◌==◌, inl, inr, ⊎_elim, not, cond, Bool, true, false, List, [], ◌∷◌, map, filter, count_by, Option, Some, None, refl, ap, sym, subst, ◌∙◌, arith, eq-eqb, ne_eqb}
use Rattle.std.specs.List.{find}
use Rattle.std.proofs.lemmas.Bool.{cases_eq, eqb-false, eqb-true, true≢false}
use Rattle.std.proofs.lemmas.List.{length-map}
use Rattle.iscsi_lists.specs.Lists.{without}
use Rattle.iscsi_arrivals.proofs.CountLemmas.{count-cons}
use Rattle.iscsi_outbox_rules.specs.rules.Calls.{Opening}
use Rattle.iscsi_outbox_rules.specs.rules.Boxes.{Task, Box}
use Rattle.iscsi_outbox_rules.specs.rules.Items.{in_phase as tasks_in_phase}
use Rattle.iscsi_outbox_rules.specs.rules.Run.{phase_stopped}
use Rattle.iscsi_outbox_state.specs.Lane.{not_running, stopped as stopped_in}
use Rattle.iscsi_outbox_steps.specs.State.{State}
use Rattle.iscsi_outbox_steps.specs.Steps.{is_live, is_running}
use Rattle.iscsi_tracked.specs.declared.command.Command.{Command}
use Rattle.iscsi_tracked.specs.Tracked.{Tracked, find_ticket, is_at, is_out, removed}
use Rattle.iscsi_outbox_law.specs.private.Pairs.{PairsOf, InOrder}
use Rattle.iscsi_outbox_law.specs.private.Links.{live_place}
use Rattle.iscsi_outbox_law.specs.private.Commands.{AreCommands, IsCommand, is_kept, is_under_way}
use Rattle.iscsi_outbox_law.specs.private.Lanes.{is_gone}
use Rattle.iscsi_outbox_law.specs.private.Sound.{HaveHomes}
use Rattle.iscsi_outbox_law.specs.private.Stands.{Stands}
use Rattle.iscsi_outbox_law.proofs.general.PairLemmas.{each-weaken}
use Rattle.iscsi_outbox_law.proofs.general.Members.{In, any_from, each-in, find_in, in_filter, same_tests}
use Rattle.iscsi_outbox_law.proofs.sending.HandedLemmas.{queues_weaken}
use Rattle.iscsi_outbox_law.proofs.commands.TrackedEnds.{all_others, none_find, other_find, others, placed_removed, trails_removed}
use Rattle.iscsi_outbox_law.proofs.commands.LeftEnds.{answers_go, goes_left}
use Rattle.iscsi_outbox_law.proofs.commands.Stopping.{dead_owes, filter_drop, keeps_not_running, pairs_filter_in}
use Rattle.iscsi_outbox_law.proofs.commands.StopsOut.{by_place, by_ticket, dead, kept, stopped_kept, ticket_is, turned, turned_other}

-- ---- all but one

-- one that isn't live is one fewer
pub fewer_gone : (c : Command) (cs : List Command) → In c cs → is_gone c ≡ true → InOrder (λ (x y : Command). x.place ≢ y.place) cs → count_by is_gone (others c.place cs) + 1 ≡ count_by is_gone cs
fewer_gone c [] at gone apart = absurd at
fewer_gone c (x ∷ cs) at gone apart =
    let first : c ≡ x → count_by is_gone (others c.place (x ∷ cs)) + 1 ≡ count_by is_gone (x ∷ cs) = λ same.
    let alone : others c.place cs ≡ cs = all_others c.place cs (each-weaken (λ (d : Command). x.place ≢ d.place) (λ (d : Command). d.place ≡ c.place → ⊥) cs (λ d other e. other (sym (ap (λ (y : Command). y.place) same) ∙ sym e)) apart.0) in
    let out : others c.place (x ∷ cs) ≡ others c.place cs = ap (λ (v : Bool). cond (not v) (x ∷ others c.place cs) (others c.place cs)) (eq-eqb x.place c.place (sym (ap (λ (y : Command). y.place) same))) in
    let e : count_by is_gone (others c.place (x ∷ cs)) ≡ count_by is_gone cs = ap (count_by is_gone) (out ∙ alone) in
    let f = count-cons is_gone x cs in
    let g : cond {A = ℕ} (is_gone x) 1 0 ≡ 1 = ap {B = ℕ} (λ (v : Bool). cond v 1 0) (sym (ap is_gone same) ∙ gone) in
    omega (arith, e, f, g) in
    let later : In c cs → count_by is_gone (others c.place (x ∷ cs)) + 1 ≡ count_by is_gone (x ∷ cs) = λ there.
    let rest = fewer_gone c cs there gone apart.1 in
    let other : (x.place == c.place) ≡ false = ne_eqb x.place c.place (each-in (λ (d : Command). x.place ≢ d.place) cs c there apart.0) in
    let e : count_by is_gone (others c.place (x ∷ cs)) ≡ count_by is_gone (x ∷ others c.place cs) = ap (λ (v : Bool). count_by is_gone (cond (not v) (x ∷ others c.place cs) (others c.place cs))) other in
    let f = count-cons is_gone x cs in
    let g = count-cons is_gone x (others c.place cs) in
    omega (arith, e, f, g, rest) in
    ⊎_elim first later at

-- a ticket among all but one
pub other_ticket : (place k : ℕ) (cs : List Command) → ((x : Command) → In x cs → x.ticket ≡ k → x.place ≡ place → ⊥) → find (λ (x : Command). x.ticket == k) (others place cs) ≡ find (λ (x : Command). x.ticket == k) cs
other_ticket place k [] apart = refl
other_ticket place k (x ∷ cs) apart =
    let rest = other_ticket place k cs (λ y at. apart y (inr at)) in
    elim (is_at place x) as (λ v. is_at place x ≡ v → find (λ (y : Command). y.ticket == k) (cond (not v) (x ∷ others place cs) (others place cs)) ≡ cond (x.ticket == k) (Some x) (find (λ (y : Command). y.ticket == k) cs)) [
      | true ↦ λ here. rest ∙ sym (ap (λ (w : Bool). cond w (Some x) (find (λ (y : Command). y.ticket == k) cs)) (ne_eqb x.ticket k (λ same. apart x (inl refl) same (eqb-true x.place place here))))
      | false ↦ λ there. ap (λ y. cond (x.ticket == k) (Some x) y) rest
    ] refl

pub in_others : (place : ℕ) (cs : List Command) (x : Command) → In x (others place cs) → In x cs × (x.place ≡ place → ⊥)
in_others place cs x at =
    let f = in_filter (λ (c : Command). not (is_at place c)) cs x at in
    (f.0, λ same. true≢false (sym f.1 ∙ ap not (eq-eqb x.place place same)))

module _ (o : Opening) (s : State) (b : Box) (h : Stands o s b) (homes : HaveHomes b) (ticket : ℕ) (c : Command) (found : find_ticket ticket s.tracked ≡ Some c) (running : is_running c ≡ true) (idle : is_out c ≡ false) where
  abbrev v' : Tracked
  v' = removed c.place s.tracked

  here : In c s.tracked.commands
  here = kept o s b h homes ticket c found running

  gone : is_live c ≡ false
  gone = dead o s b h homes ticket c found running

  same_command : (d : Command) (t : Task) → In d s.tracked.commands → IsCommand (is_under_way o b.links) s.limits.cids b.links d t → (d.place == c.place) ≡ (t.ticket == ticket)
  same_command d t at k =
      same_tests (d.place == c.place) (t.ticket == ticket)
      (λ is. eq-eqb t.ticket ticket (sym k.ticket ∙ ap (λ (x : Command). x.ticket) (by_place o s b h homes ticket c found running d at (eqb-true d.place c.place is)) ∙ ticket_is o s b h homes ticket c found running))
      (λ is. eq-eqb d.place c.place (ap (λ (x : Command). x.place) (by_ticket o s b h homes ticket c found running d at (k.ticket ∙ eqb-true t.ticket ticket is))))

  commands_gone : AreCommands (is_under_way o b.links) s.limits.cids b.links (map (turned ticket) b.tasks) v'
  commands_gone =
      subst (PairsOf (IsCommand (is_under_way o b.links) s.limits.cids b.links) v'.commands)
      (sym (filter_drop (is_kept (is_under_way o b.links)) (λ (t : Task). t.ticket == ticket) (turned ticket) b.tasks (λ t at isnt. turned_other ticket t (eqb-false t.ticket ticket isnt))
      (λ t at is. stopped_kept o s b h homes ticket c found running t at (eqb-true t.ticket ticket is) ∙ idle)))
      (pairs_filter_in (IsCommand (is_under_way o b.links) s.limits.cids b.links) (λ (d : Command). not (is_at c.place d)) (λ (t : Task). not (t.ticket == ticket)) s.tracked.commands (filter (is_kept (is_under_way o b.links)) b.tasks)
      (λ d t at for k. ap not (same_command d t at k)) h.commands)

  place_gone : (k : ℕ) → live_place v' k ≡ live_place s.tracked k
  place_gone k = ⊎_elim mine (λ apart. ap told (other_ticket c.place k s.tracked.commands (λ x at same place. apart (sym same ∙ ap (λ (y : Command). y.ticket) (by_place o s b h homes ticket c found running x at place) ∙ ticket_is o s b h homes ticket c found running)))) (cases_eq k ticket)
    where
      told : Option Command → Option ℕ
      told x = elim x as (λ (y : Option Command). Option ℕ) [ Some d ↦ cond (is_live d) (Some d.place) None | None ↦ None ]

      mine : k ≡ ticket → live_place v' k ≡ live_place s.tracked k
      mine is = by_found (find (λ (x : Command). x.ticket == k) (others c.place s.tracked.commands)) refl
        where
          was : live_place s.tracked k ≡ None
          was =
              ap (live_place s.tracked) is ∙ ap (λ (x : Option Command). elim x as (λ (y : Option Command). Option ℕ) [ Some d ↦ cond (is_live d) (Some d.place) None | None ↦ None ]) found
              ∙ ap (λ (w : Bool). cond w (Some c.place) None) gone

          by_found : (x : Option Command) → find (λ (y : Command). y.ticket == k) (others c.place s.tracked.commands) ≡ x
              → (elim (find (λ (y : Command). y.ticket == k) (others c.place s.tracked.commands)) as (λ (y : Option Command). Option ℕ) [ Some d ↦ cond (is_live d) (Some d.place) None | None ↦ None ]) ≡ live_place s.tracked k
          by_found None none = ap (λ (x : Option Command). elim x as (λ (y : Option Command). Option ℕ) [ Some d ↦ cond (is_live d) (Some d.place) None | None ↦ None ]) none ∙ sym was
          by_found (Some d) some =
              let at = find_in (λ (y : Command). y.ticket == k) (others c.place s.tracked.commands) d some in
              let two = in_others c.place s.tracked.commands d at.0 in
              absurd (two.1 (ap (λ (y : Command). y.place) (by_ticket o s b h homes ticket c found running d two.0 (eqb-true d.ticket k at.1 ∙ is))))

  pub gone_stands : Stands o (record s { lane = stopped_in c.place s.lane; tracked = v' }) (tasks_in_phase phase_stopped (ticket ∷ []) b)
  gone_stands = record {
    sizes = record { limits = h.sizes.limits; waits = h.sizes.waits; answers = h.sizes.answers; commands = h.sizes.commands; trails = length-map s.tracked.trails (without c.place) ∙ h.sizes.trails };
    numbers = record { time = h.numbers.time; exp = h.numbers.exp; max = h.numbers.max; shown = h.numbers.shown; reached = h.numbers.reached; sent = h.numbers.sent };
    links = h.links;
    queues = queues_weaken s.tracked v' place_gone s.waits.queues b.links h.queues;
    commands = commands_gone;
    placed = placed_removed c.place s.tracked (any_from (is_at c.place) s.tracked.commands c here (eq-eqb c.place c.place refl)) h.placed;
    trails = trails_removed c.place s.tracked h.trails;
    left = goes_left s.tracked s.lane.items h.left h.placed (dead_owes (is_under_way o b.links) o s b h) c here gone not_running keeps_not_running v' idle (λ n apart. other_find c.place n s.tracked.commands apart) (none_find c.place s.tracked.commands)
        (fewer_gone c s.tracked.commands here (ap (λ (w : Bool). cond w false true) gone) h.placed.apart);
    answers = answers_go s.tracked s.lane.items h.left h.placed (dead_owes (is_under_way o b.links) o s b h) c here gone not_running keeps_not_running s.limits.cids v' refl b.undue h.answers;
    fence = h.fence;
  }
