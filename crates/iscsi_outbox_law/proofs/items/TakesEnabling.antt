-- Commands are enabled by an event, in both.
use Rattle.std.proofs.Common.{◌≡◌, ℕ, ◌+◌, ◌<◌, ◌==◌, ◌||◌, inl, inr, ⊎_elim, cond, Bool, true, false, List, [], ◌∷◌, map, filter, count_by, Option, Some, None, refl, ap, sym, subst, ◌∙◌, arith, eq-eqb, ne_eqb}
use Rattle.std.proofs.lemmas.Bool.{cases_eq, eqb-true, false≢true, true≢false}
use Rattle.iscsi_arrivals.proofs.CountLemmas.{count-cons}
use Rattle.iscsi_outbox_rules.specs.rules.Calls.{Opening}
use Rattle.iscsi_outbox_rules.specs.rules.Boxes.{Phase, Dormant as DormantTask, Fresh as FreshTask, Started as StartedTask, Completed as CompletedTask, Running as RunningTask, Gone as GoneTask, Task, Box}
use Rattle.iscsi_outbox_rules.specs.rules.Words.{contains, is_live_phase}
use Rattle.iscsi_outbox_rules.specs.rules.Items.{in_phase as tasks_in_phase, phase_enabled}
use Rattle.iscsi_outbox_state.specs.declared.lane.Standing.TheVariants.{Left as IsLeft}
use Rattle.iscsi_outbox_steps.specs.State.{State}
use Rattle.iscsi_outbox_steps.specs.Steps.{enable, in_phase_if, is_dormant, is_live}
use Rattle.iscsi_tracked.specs.declared.command.Command.{Command}
use Rattle.iscsi_tracked.specs.declared.command.Phase.{Phase as KeptPhase}
use Rattle.iscsi_tracked.specs.declared.command.Phase.TheVariants.{Dormant, Fresh, Started, Running, Gone}
use Rattle.iscsi_tracked.specs.Tracked.{Tracked, find_ticket, in_phase, is_at, to_phase, with_command}
use Rattle.iscsi_outbox_law.specs.private.Pairs.{InOrder}
use Rattle.iscsi_outbox_law.specs.private.Links.{live_place}
use Rattle.iscsi_outbox_law.specs.private.Commands.{IsCommand, is_kept, is_under_way, phase_of}
use Rattle.iscsi_outbox_law.specs.private.Lanes.{is_gone, left_at, left_of}
use Rattle.iscsi_outbox_law.specs.private.Stands.{Stands}
use Rattle.iscsi_outbox_law.proofs.general.Members.{In, filter_in, pair_for}
use Rattle.iscsi_outbox_law.proofs.sending.NextStands.{found_ticket, live_kept}
use Rattle.iscsi_outbox_law.proofs.sending.HandedLemmas.{queues_weaken}
use Rattle.iscsi_outbox_law.proofs.commands.TrackedLemmas.{at_place, order_map}
use Rattle.iscsi_outbox_law.proofs.commands.TrackedChanges.{keeps_phase, placed_phase, trails_phase}
use Rattle.iscsi_outbox_law.proofs.items.TakesPhases.{by_place, commands_phase, here, is_kept_in, kept, place_phase, task_phase, there, told, turned_mine, turned_other, turned_to}
use Rattle.iscsi_outbox_law.proofs.items.TakesLane.{answers_live, left_lives}
use Rattle.iscsi_outbox_law.proofs.items.TakesLeaves.{turned_by, turned_ticket, turned_twice}

abbrev lives_in : KeptPhase → Bool
lives_in p = elim p [ Dormant ↦ true | Fresh ↦ true | Started ↦ true | Running ↦ false | Gone ↦ false ]

-- a phase into which the commands come that pass, and no other ones
pub record IsTurn (test : Command → Bool) (phase : KeptPhase) (turn : Phase → Phase) : Type 0 where
  pub lives : lives_in phase ≡ true
  pub kept : (out : Bool) → is_kept_in (phase_of phase) out ≡ true
  pub passes : (c : Command) → test c ≡ true → (is_live c ≡ true) × (phase_of phase ≡ turn (phase_of c.phase))
  pub fails : (c : Command) → test c ≡ false → turn (phase_of c.phase) ≡ phase_of c.phase
  pub others : (p : Phase) → is_live_phase p ≡ false → turn p ≡ p
  pub twice : (p : Phase) → turn (turn p) ≡ turn p

abbrev all_turned : (Command → Bool) → KeptPhase → List ℕ → State → State
all_turned test phase [] s = s
all_turned test phase (ticket ∷ tickets) s = all_turned test phase tickets (in_phase_if test phase ticket s)

unturned : (turn : Phase → Phase) (ticket : ℕ) (ts : List Task) → ((t : Task) → In t ts → t.ticket ≡ ticket → turn t.phase ≡ t.phase) → map (turned_to turn ticket) ts ≡ ts
unturned turn ticket [] same = refl
unturned turn ticket (t ∷ ts) same =
    ap (λ u. u ∷ map (turned_to turn ticket) ts)
    (⊎_elim (λ is. turned_mine turn ticket t is ∙ ap (λ (p : Phase). record t { phase = p }) (same t (inl refl) is)) (λ apart. turned_other turn ticket t apart) (cases_eq t.ticket ticket))
    ∙ ap (λ us. t ∷ us) (unturned turn ticket ts (λ u at. same u (inr at)))

module _ (test : Command → Bool) (phase : KeptPhase) (turn : Phase → Phase) (is : IsTurn test phase turn) (o : Opening) where
  module _ (s : State) (b : Box) (h : Stands o s b) (ascending : InOrder (λ (t u : Task). t.ticket < u.ticket) b.tasks) (ticket : ℕ) where
    module _ (c : Command) (found : find_ticket ticket s.tracked ≡ Some c) (passed : test c ≡ true) where
      abbrev v' : Tracked
      v' = in_phase phase c.place s.tracked

      live : is_live c ≡ true
      live = (is.passes c passed).0

      mine : In c s.tracked.commands
      mine = kept o s b h ascending ticket c found

      alike : (d : Command) → In d s.tracked.commands → is_live (at_place (to_phase phase) c.place d) ≡ is_live d
      alike d at = elim (is_at c.place d) as (λ w. is_at c.place d ≡ w → is_live (cond w (to_phase phase d) d) ≡ is_live d) [
        | true ↦ λ same. is.lives ∙ sym (ap is_live (by_place o s b h ascending ticket c found d at (eqb-true d.place c.place same)) ∙ live)
        | false ↦ λ other. refl
      ] refl

      counted : (cs : List Command) → ((d : Command) → In d cs → In d s.tracked.commands) → count_by is_gone (with_command (to_phase phase) c.place cs) ≡ count_by is_gone cs
      counted [] among = refl
      counted (d ∷ cs) among =
          count-cons is_gone (at_place (to_phase phase) c.place d) (with_command (to_phase phase) c.place cs)
          ∙ ap (λ (u : Bool). cond (cond u false true) 1 0 + count_by is_gone (with_command (to_phase phase) c.place cs)) (alike d (among d (inl refl)))
          ∙ ap (λ n. cond (is_gone d) 1 0 + n) (counted cs (λ e at. among e (inr at))) ∙ sym (count-cons is_gone d cs)

      places : (k : ℕ) → live_place v' k ≡ live_place s.tracked k
      places k =
          place_phase o s b h ascending ticket c found phase k ∙ ap (λ (w : Bool). cond {A = Option ℕ} (ticket == k) (cond w (Some c.place) None) (live_place s.tracked k)) is.lives
          ∙ ⊎_elim
          (λ same. ap (λ (w : Bool). cond w (Some c.place) (live_place s.tracked k)) (eq-eqb ticket k (sym same)) ∙ sym (ap (live_place s.tracked) same ∙ ap told found ∙ ap (λ (w : Bool). cond w (Some c.place) None) live))
          (λ apart. ap (λ (w : Bool). cond w (Some c.place) (live_place s.tracked k)) (ne_eqb ticket k (λ same. apart (sym same))))
          (cases_eq k ticket)

      turned_stands : Stands o (record s { tracked = v' }) (record b { tasks = map (turned_to turn ticket) b.tasks })
      turned_stands = record {
        sizes = record { limits = h.sizes.limits; waits = h.sizes.waits; answers = h.sizes.answers; commands = h.sizes.commands; trails = h.sizes.trails };
        numbers = record { time = h.numbers.time; exp = h.numbers.exp; max = h.numbers.max; shown = h.numbers.shown; reached = h.numbers.reached; sent = h.numbers.sent };
        links = h.links;
        queues = queues_weaken s.tracked v' places s.waits.queues b.links h.queues;
        commands = commands_phase o s b h ascending ticket c found turn phase (is.passes c passed).1 (is.kept _);
        placed = placed_phase phase c.place s.tracked h.placed;
        trails = trails_phase phase c.place s.tracked h.trails;
        left = left_lives s.tracked s.lane.items h.left h.placed c mine live v' (there o s b h ascending ticket c found phase)
            (ap left_at (here o s b h ascending ticket c found phase) ∙ ap (λ (w : Bool). cond w [] (IsLeft (left_of (to_phase phase c)) ∷ [])) is.lives) (counted s.tracked.commands (λ d at. at));
        answers = answers_live s.tracked s.lane.items h.left h.placed c mine live (to_phase phase) (keeps_phase phase) s.limits.cids v' refl alike b.undue h.answers;
        fence = h.fence;
      }

    one_turned : Stands o (in_phase_if test phase ticket s) (record b { tasks = map (turned_to turn ticket) b.tasks })
    one_turned = by_found (find_ticket ticket s.tracked) refl
      where
        stays : ((t : Task) → In t b.tasks → t.ticket ≡ ticket → turn t.phase ≡ t.phase) → Stands o s (record b { tasks = map (turned_to turn ticket) b.tasks })
        stays same = subst (λ ts. Stands o s (record b { tasks = ts })) (sym (unturned turn ticket b.tasks same)) h

        by_found : (x : Option Command) → find_ticket ticket s.tracked ≡ x
            → Stands o (elim x as (λ (y : Option Command). State) [ Some c ↦ cond (test c) (record s { tracked = in_phase phase c.place s.tracked }) s | None ↦ s ]) (record b { tasks = map (turned_to turn ticket) b.tasks })
        by_found None none = stays (λ t at same. is.others t.phase (dead t at same (is_live_phase t.phase) refl))
          where
            dead : (t : Task) → In t b.tasks → t.ticket ≡ ticket → (w : Bool) → is_live_phase t.phase ≡ w → is_live_phase t.phase ≡ false
            dead t at same false it = it
            dead t at same true it =
                let d : (c : Command) × In c s.tracked.commands × IsCommand (is_under_way o b.links) s.limits.cids b.links c t =
                pair_for (IsCommand (is_under_way o b.links) s.limits.cids b.links) s.tracked.commands (filter (is_kept (is_under_way o b.links)) b.tasks) t
                (filter_in (is_kept (is_under_way o b.links)) b.tasks t at (live_kept (is_under_way o b.links) t it)) h.commands in
                absurd (let e : None ≡ Some d.0 = sym none ∙ found_ticket s.tracked d.0 ticket h.placed d.1 (d.2.ticket ∙ same) in cc)
        by_found (Some c) found = by_test (test c) refl
          where
            by_test : (w : Bool) → test c ≡ w → Stands o (cond w (record s { tracked = in_phase phase c.place s.tracked }) s) (record b { tasks = map (turned_to turn ticket) b.tasks })
            by_test true passed = turned_stands c found passed
            by_test false failed = stays (λ t at same. ap turn (task_phase o s b h ascending ticket c found t at same) ∙ is.fails c failed ∙ sym (task_phase o s b h ascending ticket c found t at same))

  pub turns_stand : (tickets : List ℕ) (s : State) (b : Box) → Stands o s b → InOrder (λ (t u : Task). t.ticket < u.ticket) b.tasks → Stands o (all_turned test phase tickets s) (tasks_in_phase turn tickets b)
  turns_stand [] s b h ascending = subst (λ ts. Stands o s (record b { tasks = ts })) (sym (none_turned b.tasks)) h
    where
      none_turned : (ts : List Task) → map (turned_by turn (λ n. false)) ts ≡ ts
      none_turned [] = refl
      none_turned (t ∷ ts) = ap (λ us. t ∷ us) (none_turned ts)
  turns_stand (ticket ∷ tickets) s b h ascending =
      subst (λ ts. Stands o (all_turned test phase tickets (in_phase_if test phase ticket s)) (record b { tasks = ts }))
      (turned_twice turn is.twice (contains (ticket ∷ [])) (contains tickets) b.tasks ∙ ap (λ (these : ℕ → Bool). map (turned_by turn these) b.tasks) (λ i n. joined (ticket == n) (contains tickets n) i))
      (turns_stand tickets (in_phase_if test phase ticket s) (record b { tasks = map (turned_to turn ticket) b.tasks }) (one_turned s b h ascending ticket)
      (order_map (λ (t u : Task). t.ticket < u.ticket) (turned_to turn ticket) b.tasks (λ t u lt. omega (arith, lt, turned_ticket turn (contains (ticket ∷ [])) t, turned_ticket turn (contains (ticket ∷ [])) u)) ascending))
    where
      joined : (v w : Bool) → ((v || false) || w) ≡ (v || w)
      joined true w = refl
      joined false w = refl

-- ---- enabled

dormant_of : (p : KeptPhase) → (elim p as (λ (q : KeptPhase). Bool) [ Dormant ↦ true | Fresh ↦ false | Started ↦ false | Running ↦ false | Gone ↦ false ]) ≡ true → (lives_in p ≡ true) × (FreshTask ≡ phase_enabled (phase_of p))
dormant_of Dormant k = (refl, refl)
dormant_of Fresh k = absurd (false≢true k)
dormant_of Started k = absurd (false≢true k)
dormant_of Running k = absurd (false≢true k)
dormant_of Gone k = absurd (false≢true k)

not_dormant : (p : KeptPhase) → (elim p as (λ (q : KeptPhase). Bool) [ Dormant ↦ true | Fresh ↦ false | Started ↦ false | Running ↦ false | Gone ↦ false ]) ≡ false → phase_enabled (phase_of p) ≡ phase_of p
not_dormant Dormant k = absurd (true≢false k)
not_dormant Fresh k = refl
not_dormant Started k = refl
not_dormant Running k = refl
not_dormant Gone k = refl

enabled_others : (p : Phase) → is_live_phase p ≡ false → phase_enabled p ≡ p
enabled_others DormantTask k = absurd (true≢false k)
enabled_others FreshTask k = refl
enabled_others StartedTask k = refl
enabled_others CompletedTask k = refl
enabled_others RunningTask k = refl
enabled_others GoneTask k = refl

enabled_twice : (p : Phase) → phase_enabled (phase_enabled p) ≡ phase_enabled p
enabled_twice DormantTask = refl
enabled_twice FreshTask = refl
enabled_twice StartedTask = refl
enabled_twice CompletedTask = refl
enabled_twice RunningTask = refl
enabled_twice GoneTask = refl

enabling : IsTurn is_dormant Fresh phase_enabled
enabling = record { lives = refl; kept = λ out. refl; passes = λ c k. dormant_of c.phase k; fails = λ c k. not_dormant c.phase k; others = enabled_others; twice = enabled_twice }

enable_as : (tickets : List ℕ) (s : State) → all_turned is_dormant Fresh tickets s ≡ enable tickets s
enable_as [] s = refl
enable_as (ticket ∷ tickets) s = enable_as tickets (in_phase_if is_dormant Fresh ticket s)

pub enable_stands : (o : Opening) (tickets : List ℕ) (s : State) (b : Box) → Stands o s b → InOrder (λ (t u : Task). t.ticket < u.ticket) b.tasks → Stands o (enable tickets s) (tasks_in_phase phase_enabled tickets b)
enable_stands o tickets s b h ascending = subst (λ x. Stands o x (tasks_in_phase phase_enabled tickets b)) (enable_as tickets s) (turns_stand is_dormant Fresh phase_enabled enabling o tickets s b h ascending)
