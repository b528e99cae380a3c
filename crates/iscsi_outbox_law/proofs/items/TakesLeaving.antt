-- A command leaves: it is taken out, and kept as long as it owes something; or it completes.
use Rattle.std.proofs.Common.{◌≡◌, ℕ, ◌<◌, ◌==◌, ◌&&◌, ◌||◌, ⊎_elim, not, cond, Bool, true, false, List, [], ◌∷◌, map, filter, Option, Some, None, refl, ap, sym, subst, ◌∙◌, eq-eqb, ne_eqb}
use Rattle.std.specs.List.{list_any}
use Rattle.std.proofs.lemmas.Bool.{and_from, and_parts, cases_eq, eqb-true, false_from_ne_true, false≢true, true≢false}
use Rattle.std.proofs.lemmas.List.{length-map}
use Rattle.iscsi_wire.specs.declared.request.Request.{Request}
use Rattle.iscsi_lists.specs.Lists.{without as without_place}
use Rattle.iscsi_outbox_rules.specs.rules.Calls.{Opening}
use Rattle.iscsi_outbox_rules.specs.rules.Boxes.{Task, Answer, Box}
use Rattle.iscsi_outbox_rules.specs.rules.Words.{contains, is_left, is_left_phase, is_live_phase}
use Rattle.iscsi_outbox_rules.specs.rules.Queues.{without}
use Rattle.iscsi_outbox_rules.specs.rules.Items.{leave as leave_box, phase_completed, phase_taken_out}
use Rattle.iscsi_outbox_state.specs.declared.lane.Left.{Left}
use Rattle.iscsi_outbox_state.specs.declared.lane.Standing.TheVariants.{Left as IsLeft}
use Rattle.iscsi_outbox_state.specs.Lane.{has_left}
use Rattle.iscsi_outbox_state.specs.Waits.{dropped_of}
use Rattle.iscsi_outbox_steps.specs.State.{State}
use Rattle.iscsi_outbox_steps.specs.Steps.{completed, is_live, is_started, leave_one, live_command, taken_out}
use Rattle.iscsi_tracked.specs.declared.command.Command.{Command}
use Rattle.iscsi_tracked.specs.declared.command.Phase.{Phase as KeptPhase}
use Rattle.iscsi_tracked.specs.declared.command.Phase.TheVariants.{Dormant, Fresh, Started, Running, Gone}
use Rattle.iscsi_tracked.specs.Tracked.{Tracked, find_ticket, in_phase, is_at, is_out, removed, to_phase}
use Rattle.iscsi_outbox_law.specs.private.Pairs.{EachOf, InOrder}
use Rattle.iscsi_outbox_law.specs.private.Links.{live_place}
use Rattle.iscsi_outbox_law.specs.private.Commands.{AreCommands, IsCommand, is_kept, is_under_way, phase_of}
use Rattle.iscsi_outbox_law.specs.private.Lanes.{is_gone, left_at, left_of}
use Rattle.iscsi_outbox_law.specs.private.Sound.{is_live_in}
use Rattle.iscsi_outbox_law.specs.private.Stands.{Stands}
use Rattle.iscsi_outbox_law.proofs.general.PairLemmas.{each-weaken}
use Rattle.iscsi_outbox_law.proofs.general.Members.{In, any_found, any_from, filter_in, find_in, in_filter, pair_for, pair_of}
use Rattle.iscsi_outbox_law.proofs.queues.Waiting.{live_as}
use Rattle.iscsi_outbox_law.proofs.sending.NextStands.{found_ticket, live_kept}
use Rattle.iscsi_outbox_law.proofs.commands.TrackedChanges.{keeps_phase, placed_phase, trails_phase}
use Rattle.iscsi_outbox_law.proofs.commands.TrackedEnds.{placed_removed, trails_removed}
use Rattle.iscsi_outbox_law.proofs.items.TakesPhases.{by_place, commands_phase, commands_removed, here, is_kept_in, kept, more_gone, place_phase, place_removed, same_gone, task_phase, there, ticket_is, told, turned_to}
use Rattle.iscsi_outbox_law.proofs.items.TakesQueues.{commands_map, fence_map, links_without, moves_without, queues_dropped, queues_released, under_without}
use Rattle.iscsi_outbox_law.proofs.items.TakesLane.{answers_left, answers_removed, left_more, left_removed, none_waits}

-- ---- phases

abbrev lives_in : KeptPhase → Bool
lives_in p = elim p [ Dormant ↦ true | Fresh ↦ true | Started ↦ true | Running ↦ false | Gone ↦ false ]

abbrev runs_in : KeptPhase → Bool
runs_in p = elim p [ Running ↦ true | Dormant ↦ false | Fresh ↦ false | Started ↦ false | Gone ↦ false ]

abbrev started_in : KeptPhase → Bool
started_in p = elim p [ Started ↦ true | Dormant ↦ false | Fresh ↦ false | Running ↦ false | Gone ↦ false ]

-- the phase of a command that was taken out
abbrev pub phase_out : KeptPhase → KeptPhase
phase_out p = cond (started_in p) Running Gone

out_told : (p : KeptPhase) → lives_in p ≡ true → phase_of (phase_out p) ≡ phase_taken_out (phase_of p)
out_told Dormant lives = refl
out_told Fresh lives = refl
out_told Started lives = refl
out_told Running lives = absurd (false≢true lives)
out_told Gone lives = absurd (false≢true lives)

out_kept : (p : KeptPhase) (u : Bool) → lives_in p ≡ true → is_kept_in (phase_taken_out (phase_of p)) u ≡ (started_in p || u)
out_kept Dormant u lives = refl
out_kept Fresh u lives = refl
out_kept Started u lives = refl
out_kept Running u lives = absurd (false≢true lives)
out_kept Gone u lives = absurd (false≢true lives)

out_dead : (p : KeptPhase) → lives_in (phase_out p) ≡ false
out_dead p = elim (started_in p) as (λ w. lives_in (cond w Running Gone) ≡ false) [ true ↦ refl | false ↦ refl ]

out_runs : (p : KeptPhase) → runs_in (phase_out p) ≡ started_in p
out_runs p = elim (started_in p) as (λ w. runs_in (cond w Running Gone) ≡ w) [ true ↦ refl | false ↦ refl ]

completed_kept : (p : KeptPhase) (u : Bool) → lives_in p ≡ true → is_kept_in (phase_completed (phase_of p)) u ≡ false
completed_kept Dormant u lives = refl
completed_kept Fresh u lives = refl
completed_kept Started u lives = refl
completed_kept Running u lives = absurd (false≢true lives)
completed_kept Gone u lives = absurd (false≢true lives)

lives_stays : (p : KeptPhase) → lives_in p ≡ true → is_left_phase (phase_of p) ≡ true → ⊥
lives_stays Dormant lives left = false≢true left
lives_stays Fresh lives left = false≢true left
lives_stays Started lives left = false≢true left
lives_stays Running lives left = false≢true lives
lives_stays Gone lives left = false≢true lives

-- the tickets of an answer's scope are of commands that left
abbrev pub HaveLeft : Box → Type 0
HaveLeft b = EachOf (λ (a : Answer). (k : ℕ) → contains a.out.scope k ≡ true → is_left b k ≡ true) b.undue

module _ (o : Opening) (s : State) (b : Box) (h : Stands o s b) (ascending : InOrder (λ (t u : Task). t.ticket < u.ticket) b.tasks) (scopes : HaveLeft b) (ticket : ℕ) (c : Command) (found : find_ticket ticket s.tracked ≡ Some c) (live : is_live c ≡ true) where
  mine : In c s.tracked.commands
  mine = kept o s b h ascending ticket c found

  pub named : (k : ℕ) → (elim (live_place s.tracked k) as (λ (x : Option ℕ). Bool) [ Some n ↦ n == c.place | None ↦ false ]) ≡ (ticket == k)
  named k =
      ⊎_elim
      (λ same.
      ap (λ j. is_mine (live_place s.tracked j)) same ∙ ap (λ x. is_mine (told x)) found ∙ ap (λ (w : Bool). is_mine (cond w (Some c.place) None)) live ∙ eq-eqb c.place c.place refl
      ∙ sym (eq-eqb ticket k (sym same)))
      (λ apart. other (find_ticket k s.tracked) refl apart ∙ sym (ne_eqb ticket k (λ same. apart (sym same))))
      (cases_eq k ticket)
    where
      is_mine : Option ℕ → Bool
      is_mine x = elim x as (λ (y : Option ℕ). Bool) [ Some n ↦ n == c.place | None ↦ false ]

      other : (x : Option Command) → find_ticket k s.tracked ≡ x → (k ≡ ticket → ⊥) → is_mine (told x) ≡ false
      other None is apart = refl
      other (Some d) is apart =
          let at = find_in (λ (x : Command). x.ticket == k) s.tracked.commands d is in
          elim (is_live d) as (λ w. is_mine (cond w (Some d.place) None) ≡ false) [
            | true ↦ ne_eqb d.place c.place (λ same. apart (sym (eqb-true d.ticket k at.1) ∙ ap (λ (x : Command). x.ticket) (by_place o s b h ascending ticket c found d at.0 same) ∙ ticket_is o s b h ascending ticket c found))
            | false ↦ refl
          ]

  free : EachOf (λ (answer : Answer). contains answer.out.scope c.ticket ≡ false) b.undue
  free = each-weaken (λ (a : Answer). (k : ℕ) → contains a.out.scope k ≡ true → is_left b k ≡ true) (λ (answer : Answer). contains answer.out.scope c.ticket ≡ false) b.undue
      (λ a k. false_from_ne_true (contains a.out.scope c.ticket) (λ is. none_left (k c.ticket is))) scopes
    where
      none_left : is_left b c.ticket ≡ true → ⊥
      none_left some =
          let t : (x : Task) × In x b.tasks × ((x.ticket == c.ticket && is_left_phase x.phase) ≡ true) = any_found (λ (x : Task). x.ticket == c.ticket && is_left_phase x.phase) b.tasks some in
          let parts = and_parts (t.0.ticket == c.ticket) (is_left_phase t.0.phase) t.2 in
          lives_stays (c.phase) live (sym (ap is_left_phase (task_phase o s b h ascending ticket c found t.0 t.1 (eqb-true t.0.ticket c.ticket parts.0 ∙ ticket_is o s b h ascending ticket c found))) ∙ parts.1)

  lives_here : is_gone c ≡ false
  lives_here = ap (λ (w : Bool). cond w false true) live

  there_is : list_any (is_at c.place) s.tracked.commands ≡ true
  there_is = any_from (is_at c.place) s.tracked.commands c mine (eq-eqb c.place c.place refl)

  -- what is under way is the same without what waits
  commands_without : (tasks : List Task) (v' : Tracked) → AreCommands (is_under_way o b.links) s.limits.cids b.links tasks v' → AreCommands (is_under_way o (map (without (contains (ticket ∷ []))) b.links)) s.limits.cids (map (without (contains (ticket ∷ []))) b.links) tasks v'
  commands_without tasks v' k =
      subst (λ (under : ℕ → Bool). AreCommands under s.limits.cids (map (without (contains (ticket ∷ []))) b.links) tasks v') (λ i t. sym (under_without o (contains (ticket ∷ [])) b.links t) i)
      (commands_map (without (contains (ticket ∷ []))) (moves_without (contains (ticket ∷ []))) refl (is_under_way o b.links) s.limits.cids b.links tasks v' k)

  -- ---- it is taken out, and owes

  module _ (owes : (is_started c || is_out c) ≡ true) where
    abbrev v' : Tracked
    v' = in_phase (phase_out c.phase) c.place s.tracked

    dead : is_live (to_phase (phase_out c.phase) c) ≡ false
    dead = out_dead c.phase

    places : (k : ℕ) → live_place v' k ≡ cond (ticket == k) None (live_place s.tracked k)
    places k =
        place_phase o s b h ascending ticket c found (phase_out c.phase) k
        ∙ ap (λ (w : Bool). cond {A = Option ℕ} (ticket == k) (cond w (Some c.place) None) (live_place s.tracked k)) dead

    out_stands : Stands o (record s { waits = dropped_of c.place s.waits; lane = has_left (left_of (to_phase (phase_out c.phase) c)) s.lane; tracked = v' }) (record b { tasks = map (turned_to phase_taken_out ticket) b.tasks; links = map (without (contains (ticket ∷ []))) b.links })
    out_stands = record {
      sizes = record { limits = h.sizes.limits; waits = h.sizes.waits; answers = h.sizes.answers; commands = h.sizes.commands; trails = h.sizes.trails };
      numbers = record { time = h.numbers.time; exp = h.numbers.exp; max = h.numbers.max; shown = h.numbers.shown; reached = h.numbers.reached; sent = h.numbers.sent };
      links = links_without (contains (ticket ∷ [])) s.limits.cids s.links b.links h.links;
      queues = queues_dropped s.tracked v' ticket c.place named places s.waits.queues b.links h.queues;
      commands = commands_without (map (turned_to phase_taken_out ticket) b.tasks) v'
          (commands_phase o s b h ascending ticket c found phase_taken_out (phase_out c.phase) (out_told c.phase live) (ap (λ p. is_kept_in p (is_out c)) (out_told c.phase live) ∙ out_kept c.phase (is_out c) live ∙ owes));
      placed = placed_phase (phase_out c.phase) c.place s.tracked h.placed;
      trails = trails_phase (phase_out c.phase) c.place s.tracked h.trails;
      left = left_more s.tracked s.lane.items h.left h.placed c mine live (to_phase (phase_out c.phase)) (keeps_phase (phase_out c.phase)) s.limits.cids v' refl dead
          (ap left_at (here o s b h ascending ticket c found (phase_out c.phase)) ∙ ap (λ (w : Bool). cond w [] (IsLeft (left_of (to_phase (phase_out c.phase) c)) ∷ [])) dead)
          (there o s b h ascending ticket c found (phase_out c.phase)) (more_gone (phase_out c.phase) c s.tracked.commands mine lives_here (ap (λ (w : Bool). cond w false true) dead) h.placed.apart);
      answers = answers_left s.tracked s.lane.items h.left h.placed c mine live (to_phase (phase_out c.phase)) (keeps_phase (phase_out c.phase)) s.limits.cids v' refl (by_place o s b h ascending ticket c found) (left_of (to_phase (phase_out c.phase) c)) b.undue free h.answers;
      fence = fence_map (without (contains (ticket ∷ []))) (moves_without (contains (ticket ∷ []))) refl s.limits.looks b.links s.fence h.fence;
    }

  -- ---- it is taken out, and owes nothing

  gone_stands : (is_started c || is_out c) ≡ false
      → Stands o (record s { waits = dropped_of c.place s.waits; tracked = removed c.place s.tracked }) (record b { tasks = map (turned_to phase_taken_out ticket) b.tasks; links = map (without (contains (ticket ∷ []))) b.links })
  gone_stands none = record {
    sizes = record { limits = h.sizes.limits; waits = h.sizes.waits; answers = h.sizes.answers; commands = h.sizes.commands; trails = length-map s.tracked.trails (without_place c.place) ∙ h.sizes.trails };
    numbers = record { time = h.numbers.time; exp = h.numbers.exp; max = h.numbers.max; shown = h.numbers.shown; reached = h.numbers.reached; sent = h.numbers.sent };
    links = links_without (contains (ticket ∷ [])) s.limits.cids s.links b.links h.links;
    queues = queues_dropped s.tracked (removed c.place s.tracked) ticket c.place named (place_removed o s b h ascending ticket c found) s.waits.queues b.links h.queues;
    commands = commands_without (map (turned_to phase_taken_out ticket) b.tasks) (removed c.place s.tracked) (commands_removed o s b h ascending ticket c found phase_taken_out (out_kept c.phase (is_out c) live ∙ none));
    placed = placed_removed c.place s.tracked there_is h.placed;
    trails = trails_removed c.place s.tracked h.trails;
    left = left_removed s.tracked s.lane.items h.left h.placed c mine live (removed c.place s.tracked) refl (same_gone c s.tracked.commands mine lives_here h.placed.apart);
    answers = answers_removed s.tracked s.lane.items h.left h.placed c mine live s.limits.cids (removed c.place s.tracked) refl b.undue h.answers;
    fence = fence_map (without (contains (ticket ∷ []))) (moves_without (contains (ticket ∷ []))) refl s.limits.looks b.links s.fence h.fence;
  }

  pub taken_out_stands : Stands o (taken_out c s) (record b { tasks = map (turned_to phase_taken_out ticket) b.tasks; links = map (without (contains (ticket ∷ []))) b.links })
  taken_out_stands =
      subst (λ (u : Bool). Stands o (cond ((is_started c || is_out c) && not u) owing (record s { waits = dropped_of c.place s.waits; tracked = removed c.place s.tracked })) after)
      (sym (none_waits s.tracked s.lane.items h.left h.placed c mine live)) (by_owing (is_started c || is_out c) refl)
    where
      after : Box
      after = record b { tasks = map (turned_to phase_taken_out ticket) b.tasks; links = map (without (contains (ticket ∷ []))) b.links }

      with_running : Bool → Left
      with_running w = record { command = c.place; conn = c.conn; unit = c.unit; tag = c.tag; running = w; under_way = is_out c }

      owing : State
      owing = record s { waits = dropped_of c.place s.waits; lane = has_left (with_running (is_started c)) s.lane; tracked = in_phase (phase_out c.phase) c.place s.tracked }

      by_owing : (w : Bool) → (is_started c || is_out c) ≡ w → Stands o (cond ((is_started c || is_out c) && true) owing (record s { waits = dropped_of c.place s.waits; tracked = removed c.place s.tracked })) after
      by_owing true is =
          subst (λ (w : Bool). Stands o (cond (w && true) owing (record s { waits = dropped_of c.place s.waits; tracked = removed c.place s.tracked })) after) (sym is)
          (subst (λ (w : Bool). Stands o (record s { waits = dropped_of c.place s.waits; lane = has_left (with_running w) s.lane; tracked = in_phase (phase_out c.phase) c.place s.tracked }) after) (out_runs c.phase) (out_stands is))
      by_owing false is =
          subst (λ (w : Bool). Stands o (cond (w && true) owing (record s { waits = dropped_of c.place s.waits; tracked = removed c.place s.tracked })) after) (sym is) (gone_stands is)

  -- ---- it completes

  pub completed_stands : Stands o (completed c s) (record b { tasks = map (turned_to phase_completed ticket) b.tasks })
  completed_stands = record {
    sizes = record { limits = h.sizes.limits; waits = h.sizes.waits; answers = h.sizes.answers; commands = h.sizes.commands; trails = length-map s.tracked.trails (without_place c.place) ∙ h.sizes.trails };
    numbers = record { time = h.numbers.time; exp = h.numbers.exp; max = h.numbers.max; shown = h.numbers.shown; reached = h.numbers.reached; sent = h.numbers.sent };
    links = h.links;
    queues = queues_released s.tracked (removed c.place s.tracked) ticket c.place named (place_removed o s b h ascending ticket c found) s.waits.queues b.links h.queues;
    commands = commands_removed o s b h ascending ticket c found phase_completed (completed_kept c.phase (is_out c) live);
    placed = placed_removed c.place s.tracked there_is h.placed;
    trails = trails_removed c.place s.tracked h.trails;
    left = left_removed s.tracked s.lane.items h.left h.placed c mine live (removed c.place s.tracked) refl (same_gone c s.tracked.commands mine lives_here h.placed.apart);
    answers = answers_removed s.tracked s.lane.items h.left h.placed c mine live s.limits.cids (removed c.place s.tracked) refl b.undue h.answers;
    fence = h.fence;
  }

-- ---- by its ticket

module _ (o : Opening) (s : State) (b : Box) (h : Stands o s b) (ticket : ℕ) where
  -- a command that lives in the box is kept, and lives
  pub live_found : is_live_in b ticket ≡ true → (c : Command) × (find_ticket ticket s.tracked ≡ Some c) × (is_live c ≡ true)
  live_found some =
      let t : (x : Task) × In x b.tasks × ((x.ticket == ticket && is_live_phase x.phase) ≡ true) = any_found (λ (x : Task). x.ticket == ticket && is_live_phase x.phase) b.tasks some in
      let parts = and_parts (t.0.ticket == ticket) (is_live_phase t.0.phase) t.2 in
      let d : (c : Command) × In c s.tracked.commands × IsCommand (is_under_way o b.links) s.limits.cids b.links c t.0 =
      pair_for (IsCommand (is_under_way o b.links) s.limits.cids b.links) s.tracked.commands (filter (is_kept (is_under_way o b.links)) b.tasks) t.0
      (filter_in (is_kept (is_under_way o b.links)) b.tasks t.0 t.1 (live_kept (is_under_way o b.links) t.0 parts.1)) h.commands in
      (d.0, found_ticket s.tracked d.0 ticket h.placed d.1 (d.2.ticket ∙ eqb-true t.0.ticket ticket parts.0), live_as d.0 t.0 d.2.phase ∙ parts.1)

  pub live_none : is_live_in b ticket ≡ false → live_command s ticket ≡ None
  live_none none = by_found (find_ticket ticket s.tracked) refl
    where
      by_found : (x : Option Command) → find_ticket ticket s.tracked ≡ x → (elim x as (λ (y : Option Command). Option Command) [ Some c ↦ cond (is_live c) (Some c) None | None ↦ None ]) ≡ None
      by_found None is = refl
      by_found (Some c) is = by_live (is_live c) refl
        where
          by_live : (w : Bool) → is_live c ≡ w → cond w (Some c) None ≡ None
          by_live false gone = refl
          by_live true lives =
              let at = find_in (λ (x : Command). x.ticket == ticket) s.tracked.commands c is in
              let k : (t : Task) × In t (filter (is_kept (is_under_way o b.links)) b.tasks) × IsCommand (is_under_way o b.links) s.limits.cids b.links c t =
              pair_of (IsCommand (is_under_way o b.links) s.limits.cids b.links) s.tracked.commands (filter (is_kept (is_under_way o b.links)) b.tasks) c at.0 h.commands in
              absurd (true≢false (sym (any_from (λ (t : Task). t.ticket == ticket && is_live_phase t.phase) b.tasks k.0 (in_filter (is_kept (is_under_way o b.links)) b.tasks k.0 k.1).0
              (and_from (k.0.ticket == ticket) (is_live_phase k.0.phase) (eq-eqb k.0.ticket ticket (sym k.2.ticket ∙ eqb-true c.ticket ticket at.1)) (sym (live_as c k.0 k.2.phase) ∙ lives))) ∙ none))

pub leave_one_stands : (o : Opening) (s : State) (b : Box) (r : Option Request) (ticket : ℕ) → Stands o s b → InOrder (λ (t u : Task). t.ticket < u.ticket) b.tasks → HaveLeft b → is_live_in b ticket ≡ true
    → Stands o (leave_one r ticket s) (leave_box r (ticket ∷ []) b)
leave_one_stands o s b r ticket h ascending scopes some =
    let k = live_found o s b h ticket some in
    subst (λ (x : Option Command). Stands o (elim x as (λ (y : Option Command). State) [ Some c ↦ elim r as (λ (z : Option Request). State) [ Some request ↦ taken_out c s | None ↦ completed c s ] | None ↦ s ]) (leave_box r (ticket ∷ []) b))
    (sym (ap (λ (x : Option Command). elim x as (λ (y : Option Command). Option Command) [ Some c ↦ cond (is_live c) (Some c) None | None ↦ None ]) k.1 ∙ ap (λ (w : Bool). cond w (Some k.0) None) k.2))
    (by_request r k.0 k.1 k.2)
  where
    by_request : (x : Option Request) (c : Command) → find_ticket ticket s.tracked ≡ Some c → is_live c ≡ true → Stands o (elim x as (λ (z : Option Request). State) [ Some request ↦ taken_out c s | None ↦ completed c s ]) (leave_box x (ticket ∷ []) b)
    by_request (Some request) c found live = taken_out_stands o s b h ascending scopes ticket c found live
    by_request None c found live = completed_stands o s b h ascending scopes ticket c found live
