-- Commands that are live come to another phase in which they are live, too, in both: as they are enabled, and as they count as started.
use Rattle.std.proofs.Common.{◌≡◌, ℕ, ◌+◌, ◌==◌, ◌&&◌, ◌||◌, inl, inr, ⊎_elim, cond, Bool, true, false, List, [], ◌∷◌, length, map, filter, count_by, Option, Some, None, refl, ap, sym, subst, ◌∙◌, eq-eqb, ne_eqb}
use Rattle.std.specs.List.{find, list_any}
use Rattle.std.proofs.lemmas.Bool.{and_from, and_parts, cases_eq, eqb-true}
use Rattle.iscsi_arrivals.proofs.CountLemmas.{count-cons}
use Rattle.iscsi_outbox_rules.specs.rules.Calls.{Opening}
use Rattle.iscsi_outbox_rules.specs.rules.Boxes.{Phase, Task, Answer, Box}
use Rattle.iscsi_outbox_rules.specs.rules.Words.{contains, is_left_phase, is_live_phase, is_running_phase}
use Rattle.iscsi_outbox_rules.specs.rules.Items.{in_phase as tasks_in_phase}
use Rattle.iscsi_outbox_state.specs.declared.lane.Undue.{Undue}
use Rattle.iscsi_outbox_state.specs.declared.lane.Standing.{Standing}
use Rattle.iscsi_outbox_state.specs.declared.lane.Standing.TheVariants.{Left as IsLeft}
use Rattle.iscsi_outbox_steps.specs.State.{State}
use Rattle.iscsi_outbox_steps.specs.Steps.{in_phase_if, is_live}
use Rattle.iscsi_tracked.specs.declared.command.Command.{Command}
use Rattle.iscsi_tracked.specs.declared.command.Phase.{Phase as KeptPhase}
use Rattle.iscsi_tracked.specs.Tracked.{Tracked, find_place, find_ticket, in_phase, is_at, to_phase}
use Rattle.iscsi_outbox_law.specs.private.Pairs.{PairsOf, EachOf}
use Rattle.iscsi_outbox_law.specs.private.Links.{live_place}
use Rattle.iscsi_outbox_law.specs.private.Commands.{AreCommands, ArePlaced, AreTrails, IsCommand, is_kept, phase_of}
use Rattle.iscsi_outbox_law.specs.private.Lanes.{AreLeft, IsInScope, is_aimed_at, is_gone, left_at, left_of}
use Rattle.iscsi_outbox_law.specs.private.Stands.{StandsWith}
use Rattle.iscsi_outbox_law.proofs.general.PairLemmas.{each-map}
use Rattle.iscsi_outbox_law.proofs.general.Members.{In, find_in, same_tests}
use Rattle.iscsi_outbox_law.proofs.commands.LeftOut.{found_there}
use Rattle.iscsi_outbox_law.proofs.sending.NextStands.{found_ticket}
use Rattle.iscsi_outbox_law.proofs.sending.HandedLemmas.{answers_weaken, queues_weaken}
use Rattle.iscsi_outbox_law.proofs.commands.TrackedLemmas.{at_place, find_map}
use Rattle.iscsi_outbox_law.proofs.commands.TrackedChanges.{placed_phase, trails_phase}
use Rattle.iscsi_outbox_law.proofs.commands.Stopping.{filter_turn, pairs_turn_both}

-- what becomes of a command that passes, and of the phase of its task
pub record IsLiveTurn (test : Command → Bool) (phase : KeptPhase) (change : Phase → Phase) : Type 0 where
  pub live : (d : Command) → test d ≡ true → is_live d ≡ true
  pub after : (d : Command) → is_live (to_phase phase d) ≡ true
  pub turned : (d : Command) → test d ≡ true → phase_of phase ≡ change (phase_of d.phase)
  pub stays : (d : Command) → test d ≡ false → phase_of d.phase ≡ change (phase_of d.phase)
  pub kept : (p : Phase) (w : Bool) → (is_live_phase (change p) || (is_running_phase (change p) || (is_left_phase (change p) && w))) ≡ (is_live_phase p || (is_running_phase p || (is_left_phase p && w)))
  pub twice : (p : Phase) → change (change p) ≡ change p

pub map_same : {A B : Type 0} (f g : A → B) (xs : List A) → ((x : A) → In x xs → f x ≡ g x) → map f xs ≡ map g xs
map_same f g [] same = refl
map_same f g (x ∷ xs) same = ap (λ y. y ∷ map f xs) (same x (inl refl)) ∙ ap (λ ys. g x ∷ ys) (map_same f g xs (λ y at. same y (inr at)))

pub map_none : {A : Type 0} (f : A → A) (xs : List A) → ((x : A) → In x xs → f x ≡ x) → map f xs ≡ xs
map_none f [] same = refl
map_none f (x ∷ xs) same = ap (λ y. y ∷ map f xs) (same x (inl refl)) ∙ ap (λ ys. x ∷ ys) (map_none f xs (λ y at. same y (inr at)))

-- the tasks with these tickets
abbrev pub turned_by : (Phase → Phase) → List ℕ → Task → Task
turned_by change tickets t = cond (contains tickets t.ticket) (record t { phase = change t.phase }) t

or_no : (v : Bool) → (v || false) ≡ v
or_no true = refl
or_no false = refl

one_mine : (change : Phase → Phase) (ticket : ℕ) (t : Task) → t.ticket ≡ ticket → turned_by change (ticket ∷ []) t ≡ record t { phase = change t.phase }
one_mine change ticket t is = ap (λ (v : Bool). cond v (record t { phase = change t.phase }) t) (or_no (ticket == t.ticket) ∙ eq-eqb ticket t.ticket (sym is))

one_other : (change : Phase → Phase) (ticket : ℕ) (t : Task) → (t.ticket ≡ ticket → ⊥) → turned_by change (ticket ∷ []) t ≡ t
one_other change ticket t apart = ap (λ (v : Bool). cond v (record t { phase = change t.phase }) t) (or_no (ticket == t.ticket) ∙ ne_eqb ticket t.ticket (λ same. apart (sym same)))

module _ (test : Command → Bool) (phase : KeptPhase) (change : Phase → Phase) (turn : IsLiveTurn test phase change) where
  -- ---- one command

  abbrev moved : ℕ → Command → Command
  moved ticket d = cond (d.ticket == ticket && test d) (to_phase phase d) d

  module _ (ticket : ℕ) where
    same_ticket : (d : Command) → (moved ticket d).ticket ≡ d.ticket
    same_ticket d = elim (d.ticket == ticket && test d) as (λ v. (cond v (to_phase phase d) d).ticket ≡ d.ticket) [ true ↦ refl | false ↦ refl ]

    same_place : (d : Command) → (moved ticket d).place ≡ d.place
    same_place d = elim (d.ticket == ticket && test d) as (λ v. (cond v (to_phase phase d) d).place ≡ d.place) [ true ↦ refl | false ↦ refl ]

    by_move : (P : Command → Type 0) (d : Command) → (test d ≡ true → P (to_phase phase d)) → P d → P (moved ticket d)
    by_move P d turns stays = elim (d.ticket == ticket) as (λ v. P (cond (v && test d) (to_phase phase d) d)) [
      | true ↦ elim (test d) as (λ w. test d ≡ w → P (cond w (to_phase phase d) d)) [ true ↦ λ is. turns is | false ↦ λ isnt. stays ] refl
      | false ↦ stays
    ]

    live_moved : (d : Command) → is_live (moved ticket d) ≡ is_live d
    live_moved d = by_move (λ (c : Command). is_live c ≡ is_live d) d (λ is. turn.after d ∙ sym (turn.live d is)) refl

    left_moved : (d : Command) → left_at (Some (moved ticket d)) ≡ left_at (Some d)
    left_moved d =
        by_move (λ (c : Command). left_at (Some c) ≡ left_at (Some d)) d
        (λ is. ap {B = List Standing} (λ (v : Bool). cond v [] (IsLeft (left_of (to_phase phase d)) ∷ [])) (turn.after d) ∙ sym (ap {B = List Standing} (λ (v : Bool). cond v [] (IsLeft (left_of d) ∷ [])) (turn.live d is))) refl

    counted_moved : (cs : List Command) → count_by is_gone (map (moved ticket) cs) ≡ count_by is_gone cs
    counted_moved [] = refl
    counted_moved (d ∷ cs) =
        count-cons is_gone (moved ticket d) (map (moved ticket) cs)
        ∙ ap (λ (u : Bool). cond (cond u false true) 1 0 + count_by is_gone (map (moved ticket) cs)) (live_moved d)
        ∙ ap (λ n. cond (is_gone d) 1 0 + n) (counted_moved cs) ∙ sym (count-cons is_gone d cs)

  -- ---- all of it

  module _ (under : ℕ → Bool) (o : Opening) (s : State) (b : Box) (h : StandsWith under o s b) (ticket : ℕ) where
    both : (d : Command) (t : Task) → IsCommand under s.limits.cids b.links d t → IsCommand under s.limits.cids b.links (moved ticket d) (turned_by change (ticket ∷ []) t)
    both d t k =
        ⊎_elim
        (λ is. subst (IsCommand under s.limits.cids b.links (moved ticket d)) (sym (one_mine change ticket t is))
        (subst (λ (v : Bool). IsCommand under s.limits.cids b.links (cond (v && test d) (to_phase phase d) d) (record t { phase = change t.phase })) (sym (eq-eqb d.ticket ticket (k.ticket ∙ is))) (by_test (test d) refl)))
        (λ apart. subst (IsCommand under s.limits.cids b.links (moved ticket d)) (sym (one_other change ticket t apart))
        (subst (λ (v : Bool). IsCommand under s.limits.cids b.links (cond (v && test d) (to_phase phase d) d) t) (sym (ne_eqb d.ticket ticket (λ same. apart (sym k.ticket ∙ same)))) k))
        (cases_eq t.ticket ticket)
      where
        by_test : (w : Bool) → test d ≡ w → IsCommand under s.limits.cids b.links (cond w (to_phase phase d) d) (record t { phase = change t.phase })
        by_test true is = record {
          ticket = k.ticket;
          conn = k.conn;
          unit = k.unit;
          tag = k.tag;
          numbered = k.numbered;
          phase = turn.turned d is ∙ ap change k.phase;
          out = k.out;
        }
        by_test false isnt = record {
          ticket = k.ticket;
          conn = k.conn;
          unit = k.unit;
          tag = k.tag;
          numbered = k.numbered;
          phase = turn.stays d isnt ∙ ap change k.phase;
          out = k.out;
        }

    module _ (v' : Tracked) (are : v'.commands ≡ map (moved ticket) s.tracked.commands) where
      commands_after : AreCommands under s.limits.cids b.links (map (turned_by change (ticket ∷ [])) b.tasks) v'
      commands_after =
          subst (λ cs. PairsOf (IsCommand under s.limits.cids b.links) cs (filter (is_kept under) (map (turned_by change (ticket ∷ [])) b.tasks))) (sym are)
          (subst (PairsOf (IsCommand under s.limits.cids b.links) (map (moved ticket) s.tracked.commands)) (sym (filter_turn (is_kept under) (turned_by change (ticket ∷ [])) b.tasks same_kept))
          (pairs_turn_both (IsCommand under s.limits.cids b.links) (IsCommand under s.limits.cids b.links) (moved ticket) (turned_by change (ticket ∷ [])) s.tracked.commands (filter (is_kept under) b.tasks) (λ d t at for k. both d t k) h.commands))
        where
          same_kept : (t : Task) → In t b.tasks → is_kept under (turned_by change (ticket ∷ []) t) ≡ is_kept under t
          same_kept t at = elim (contains (ticket ∷ []) t.ticket) as (λ w. is_kept under (cond w (record t { phase = change t.phase }) t) ≡ is_kept under t) [ true ↦ turn.kept t.phase (under t.ticket) | false ↦ refl ]

      place_after : (k : ℕ) → live_place v' k ≡ live_place s.tracked k
      place_after k =
          ap (λ (x : Option Command). elim x as (λ (y : Option Command). Option ℕ) [ Some d ↦ cond (is_live d) (Some d.place) None | None ↦ None ])
          (ap (find (λ (d : Command). d.ticket == k)) are ∙ find_map (λ (d : Command). d.ticket == k) (moved ticket) s.tracked.commands (λ d. ap (λ n. n == k) (same_ticket ticket d)))
          ∙ by_found (find (λ (d : Command). d.ticket == k) s.tracked.commands)
        where
          by_found : (x : Option Command)
              → (elim (elim x as (λ (y : Option Command). Option Command) [ Some d ↦ Some (moved ticket d) | None ↦ None ]) as (λ (y : Option Command). Option ℕ) [ Some d ↦ cond (is_live d) (Some d.place) None | None ↦ None ])
              ≡ (elim x as (λ (y : Option Command). Option ℕ) [ Some d ↦ cond (is_live d) (Some d.place) None | None ↦ None ])
          by_found None = refl
          by_found (Some d) = ap (λ (u : Bool). cond u (Some (moved ticket d).place) None) (live_moved ticket d) ∙ ap (λ n. cond (is_live d) (Some n) None) (same_place ticket d)

      left_after : AreLeft v' s.lane.items
      left_after = record { each = λ n. h.left.each n ∙ sym (left_same n); counted = h.left.counted ∙ sym (ap (count_by is_gone) are ∙ counted_moved ticket s.tracked.commands) }
        where
          by_found : (x : Option Command) → left_at (elim x as (λ (y : Option Command). Option Command) [ Some d ↦ Some (moved ticket d) | None ↦ None ]) ≡ left_at x
          by_found None = refl
          by_found (Some d) = left_moved ticket d

          left_same : (n : ℕ) → left_at (find_place n v') ≡ left_at (find_place n s.tracked)
          left_same n =
              ap left_at (ap (find (is_at n)) are ∙ find_map (is_at n) (moved ticket) s.tracked.commands (λ d. ap (λ k. k == n) (same_place ticket d)))
              ∙ by_found (find (is_at n) s.tracked.commands)

      scope_after : (before : List Standing) (a : Undue) (answer : Answer) → EachOf (IsInScope before a answer) s.tracked.commands → EachOf (IsInScope before a answer) v'.commands
      scope_after before a answer k =
          subst (EachOf (IsInScope before a answer)) (sym are)
          (each-map (IsInScope before a answer) (IsInScope before a answer) (moved ticket) s.tracked.commands
          (λ d i gone. ap (contains answer.out.scope) (same_ticket ticket d) ∙ i (sym (live_moved ticket d) ∙ gone) ∙ sym (ap (λ n. list_any (is_aimed_at a.aim n) before) (same_place ticket d))) k)

      stands_after : ArePlaced v' → AreTrails v' → v'.room ≡ s.tracked.room → length v'.trails ≡ length s.tracked.trails → StandsWith under o (record s { tracked = v' }) (tasks_in_phase change (ticket ∷ []) b)
      stands_after placed trails room long = record {
        sizes = record { limits = h.sizes.limits; waits = h.sizes.waits; answers = h.sizes.answers; commands = room ∙ h.sizes.commands; trails = long ∙ h.sizes.trails };
        numbers = record { time = h.numbers.time; exp = h.numbers.exp; max = h.numbers.max; shown = h.numbers.shown; reached = h.numbers.reached; sent = h.numbers.sent };
        links = h.links;
        queues = queues_weaken s.tracked v' place_after s.waits.queues b.links h.queues;
        commands = commands_after;
        placed = placed;
        trails = trails;
        left = left_after;
        answers = answers_weaken s.limits.cids s.tracked v' scope_after [] s.lane.items b.undue h.answers;
        fence = h.fence;
      }

    -- ---- whether there is such a command

    idle : ((d : Command) → In d s.tracked.commands → d.ticket ≡ ticket → test d ≡ false) → StandsWith under o s (tasks_in_phase change (ticket ∷ []) b)
    idle none = stands_after s.tracked (sym (map_none (moved ticket) s.tracked.commands stays)) h.placed h.trails refl refl
      where
        stays : (d : Command) → In d s.tracked.commands → moved ticket d ≡ d
        stays d at =
            ⊎_elim
            (λ is. ap (λ (v : Bool). cond (v && test d) (to_phase phase d) d) (eq-eqb d.ticket ticket is) ∙ ap (λ (v : Bool). cond v (to_phase phase d) d) (none d at is))
            (λ apart. ap (λ (v : Bool). cond (v && test d) (to_phase phase d) d) (ne_eqb d.ticket ticket apart))
            (cases_eq d.ticket ticket)

    by_ticket : (d : Command) → In d s.tracked.commands → d.ticket ≡ ticket → find_ticket ticket s.tracked ≡ Some d
    by_ticket d at is = found_ticket s.tracked d ticket h.placed at is

    turns : (c : Command) → find_ticket ticket s.tracked ≡ Some c → test c ≡ true → StandsWith under o (record s { tracked = in_phase phase c.place s.tracked }) (tasks_in_phase change (ticket ∷ []) b)
    turns c found passes =
        stands_after (in_phase phase c.place s.tracked)
        (map_same (at_place (to_phase phase) c.place) (moved ticket) s.tracked.commands (λ d at. ap (λ (v : Bool). cond v (to_phase phase d) d) (same_test d at)))
        (placed_phase phase c.place s.tracked h.placed) (trails_phase phase c.place s.tracked h.trails) refl refl
      where
        mine : In c s.tracked.commands × ((c.ticket == ticket) ≡ true)
        mine = find_in (λ (x : Command). x.ticket == ticket) s.tracked.commands c found

        by_place : (d : Command) → In d s.tracked.commands → d.place ≡ c.place → d ≡ c
        by_place d at same =
            let e : find_place c.place s.tracked ≡ Some d = ap (λ n. find_place n s.tracked) (sym same) ∙ found_there s.tracked d h.placed at in
            let f : find_place c.place s.tracked ≡ Some c = found_there s.tracked c h.placed mine.0 in cc

        one : (d : Command) → In d s.tracked.commands → d.ticket ≡ ticket → d ≡ c
        one d at is = let e : find_ticket ticket s.tracked ≡ Some d = by_ticket d at is in cc

        same_test : (d : Command) → In d s.tracked.commands → (d.place == c.place) ≡ (d.ticket == ticket && test d)
        same_test d at =
            same_tests (d.place == c.place) (d.ticket == ticket && test d)
            (λ is.
            let same : d ≡ c = by_place d at (eqb-true d.place c.place is) in
            and_from (d.ticket == ticket) (test d) (ap (λ (x : Command). x.ticket == ticket) same ∙ mine.1) (ap test same ∙ passes))
            (λ is. eq-eqb d.place c.place (ap (λ (x : Command). x.place) (one d at (eqb-true d.ticket ticket (and_parts (d.ticket == ticket) (test d) is).0))))

    pub one_stands : StandsWith under o (in_phase_if test phase ticket s) (tasks_in_phase change (ticket ∷ []) b)
    one_stands = by_found (find_ticket ticket s.tracked) refl
      where
        by_test : (c : Command) (w : Bool) → find_ticket ticket s.tracked ≡ Some c → test c ≡ w → StandsWith under o (cond w (record s { tracked = in_phase phase c.place s.tracked }) s) (tasks_in_phase change (ticket ∷ []) b)
        by_test c true found passes = turns c found passes
        by_test c false found fails = idle (λ d at is. let e : find_ticket ticket s.tracked ≡ Some d = by_ticket d at is in let same : d ≡ c = cc in ap test same ∙ fails)

        by_found : (x : Option Command) → find_ticket ticket s.tracked ≡ x
            → StandsWith under o (elim x as (λ (y : Option Command). State) [ Some c ↦ cond (test c) (record s { tracked = in_phase phase c.place s.tracked }) s | None ↦ s ]) (tasks_in_phase change (ticket ∷ []) b)
        by_found None none = idle (λ d at is. let e : find_ticket ticket s.tracked ≡ Some d = by_ticket d at is in absurd cc)
        by_found (Some c) found = by_test c (test c) found refl

  -- ---- several tickets, one by one

  pub phases_one : (ticket : ℕ) (tickets : List ℕ) (b : Box) → tasks_in_phase change tickets (tasks_in_phase change (ticket ∷ []) b) ≡ tasks_in_phase change (ticket ∷ tickets) b
  phases_one ticket tickets b = ap (λ ts. record b { tasks = ts }) (both_maps b.tasks)
    where
      both_turns : (t : Task) → turned_by change tickets (turned_by change (ticket ∷ []) t) ≡ turned_by change (ticket ∷ tickets) t
      both_turns t = elim (ticket == t.ticket) as (λ v. turned_by change tickets (cond (v || false) (record t { phase = change t.phase }) t) ≡ cond (v || contains tickets t.ticket) (record t { phase = change t.phase }) t) [
        | true ↦ elim (contains tickets t.ticket) as (λ w. cond w (record t { phase = change (change t.phase) }) (record t { phase = change t.phase }) ≡ record t { phase = change t.phase }) [
          | true ↦ ap (λ p. record t { phase = p }) (turn.twice t.phase)
          | false ↦ refl
        ]
        | false ↦ refl
      ]

      both_maps : (ts : List Task) → map (turned_by change tickets) (map (turned_by change (ticket ∷ [])) ts) ≡ map (turned_by change (ticket ∷ tickets)) ts
      both_maps [] = refl
      both_maps (t ∷ ts) = ap (λ x. x ∷ map (turned_by change tickets) (map (turned_by change (ticket ∷ [])) ts)) (both_turns t) ∙ ap (λ xs. turned_by change (ticket ∷ tickets) t ∷ xs) (both_maps ts)
