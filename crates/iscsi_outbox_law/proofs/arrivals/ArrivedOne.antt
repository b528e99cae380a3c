-- Nothing of a command is under way any more: what stands then.
use Rattle.std.proofs.Common.{◌≡◌, ℕ, ◌+◌, ◌==◌, ◌&&◌, ◌||◌, inl, inr, ⊎_elim, not, cond, Bool, true, false, List, [], ◌∷◌, map, filter, count_by, Option, Some, None, refl, ap, sym, subst, ◌∙◌, eq-eqb, ne_eqb}
use Rattle.std.specs.List.{find, list_any}
use Rattle.std.proofs.lemmas.Bool.{cases_eq, eqb-false, eqb-true}
use Rattle.std.proofs.lemmas.List.{length-map}
use Rattle.iscsi_lists.specs.Lists.{without}
use Rattle.iscsi_arrivals.specs.declared.stamp.Stamp.{Stamp}
use Rattle.iscsi_arrivals.proofs.CountLemmas.{count-cons}
use Rattle.iscsi_outbox_rules.specs.rules.Calls.{Opening}
use Rattle.iscsi_outbox_rules.specs.rules.Boxes.{Phase, Task, Link, Box}
use Rattle.iscsi_outbox_rules.specs.rules.Words.{contains, is_left_phase, is_live_phase, is_running_phase}
use Rattle.iscsi_outbox_state.specs.declared.lane.Standing.{Standing}
use Rattle.iscsi_outbox_state.specs.declared.lane.Standing.TheVariants.{Left as IsLeft, Undue as IsUndue}
use Rattle.iscsi_outbox_state.specs.Lane.{arrived as arrived_in, is_command, not_under_way, owes, still_owes}
use Rattle.iscsi_outbox_steps.specs.State.{State}
use Rattle.iscsi_outbox_steps.specs.Steps.{arrived_command, is_live, is_running}
use Rattle.iscsi_tracked.specs.declared.command.Command.{Command}
use Rattle.iscsi_tracked.specs.declared.command.Phase.{Phase as KeptPhase}
use Rattle.iscsi_tracked.specs.declared.command.Phase.TheVariants.{Dormant as KeptDormant, Fresh as KeptFresh, Started as KeptStarted, Running as KeptRunning, Gone as KeptGone}
use Rattle.iscsi_tracked.specs.Tracked.{Tracked, arrived as arrived_at, find_place, find_ticket, has_place, is_at, removed, with_command, with_out}
use Rattle.iscsi_outbox_law.specs.private.Pairs.{PairsOf}
use Rattle.iscsi_outbox_law.specs.private.Links.{live_place}
use Rattle.iscsi_outbox_law.specs.private.Commands.{AreCommands, IsCommand, IsOut, is_kept, link_in, phase_of}
use Rattle.iscsi_outbox_law.specs.private.Lanes.{AreAnswers, AreLeft, IsInScope, is_aimed_at, is_gone, left_at, left_of}
use Rattle.iscsi_outbox_law.specs.private.Sound.{HaveHomes}
use Rattle.iscsi_outbox_law.specs.private.Stands.{StandsWith}
use Rattle.iscsi_outbox_law.proofs.general.PairLemmas.{each-map}
use Rattle.iscsi_outbox_law.proofs.general.Members.{In, any_from, filter_in, find_in, in_filter, pair_of, same_tests}
use Rattle.iscsi_outbox_law.proofs.commands.Homes.{one_task}
use Rattle.iscsi_outbox_law.proofs.commands.LeftOut.{found_there}
use Rattle.iscsi_outbox_law.proofs.sending.NextStands.{found_ticket}
use Rattle.iscsi_outbox_law.proofs.sending.HandedLemmas.{answers_weaken, filter_same, pairs_keep, pairs_turn, queues_weaken}
use Rattle.iscsi_outbox_law.proofs.commands.TrackedLemmas.{at_place, found_changed, has_changed, same_place, same_ticket, ticket_changed}
use Rattle.iscsi_outbox_law.proofs.commands.TrackedChanges.{keeps_out, placed_arrived, trails_arrived}
use Rattle.iscsi_outbox_law.proofs.commands.TrackedEnds.{none_find, other_find, others, placed_removed, trails_removed}
use Rattle.iscsi_outbox_law.proofs.commands.Lessening.{IsMine, all_mine, lessen}
use Rattle.iscsi_outbox_law.proofs.commands.LeftEnds.{answers_go, answers_stay, goes_left, stays_left}
use Rattle.iscsi_outbox_law.proofs.commands.Stopping.{dead_owes, keeps_not_under_way, pairs_filter_in}
use Rattle.iscsi_outbox_law.proofs.commands.StopsGone.{fewer_gone, in_others, other_ticket}

-- ---- what is under way, but for one command

abbrev pub less : (ℕ → Bool) → ℕ → ℕ → Bool
less under ticket k = under k && not (k == ticket)

pub less_here : (under : ℕ → Bool) (ticket : ℕ) → less under ticket ticket ≡ false
less_here under ticket = ap (λ (v : Bool). under ticket && not v) (eq-eqb ticket ticket refl) ∙ and_no (under ticket)
  where
    and_no : (w : Bool) → (w && false) ≡ false
    and_no true = refl
    and_no false = refl

pub less_there : (under : ℕ → Bool) (ticket k : ℕ) → (k ≡ ticket → ⊥) → less under ticket k ≡ under k
less_there under ticket k apart = ap (λ (v : Bool). under k && not v) (ne_eqb k ticket apart) ∙ and_yes (under k)
  where
    and_yes : (w : Bool) → (w && true) ≡ w
    and_yes true = refl
    and_yes false = refl

out_same : (under more : ℕ → Bool) (ticket : ℕ) (l : Link) (x : Option Stamp) → under ticket ≡ more ticket → IsOut under ticket l x → IsOut more ticket l x
out_same under more ticket l None same h = sym same ∙ h
out_same under more ticket l (Some stamp) same h = (sym same ∙ h.0, h.1)

pub command_same : (under more : ℕ → Bool) (cids : List ℕ) (links : List Link) (d : Command) (t : Task) → under d.ticket ≡ more d.ticket → IsCommand under cids links d t → IsCommand more cids links d t
command_same under more cids links d t same k = record {
  ticket = k.ticket;
  conn = k.conn;
  unit = k.unit;
  tag = k.tag;
  numbered = k.numbered;
  phase = k.phase;
  out = out_same under more d.ticket (link_in links d.conn) (d.last_out) same k.out;
}

-- ---- lists

-- all but those that pass q
filter_less : {A : Type 0} (p r q : A → Bool) (xs : List A) → ((x : A) → In x xs → q x ≡ false → p x ≡ r x) → ((x : A) → In x xs → q x ≡ true → p x ≡ false) → filter p xs ≡ filter (λ x. not (q x)) (filter r xs)
filter_less p r q [] same none = refl
filter_less p r q (x ∷ xs) same none =
    let rest = filter_less p r q xs (λ y at. same y (inr at)) (λ y at. none y (inr at)) in
    elim (q x) as (λ v. q x ≡ v → filter p (x ∷ xs) ≡ filter (λ y. not (q y)) (cond (r x) (x ∷ filter r xs) (filter r xs))) [
      | true ↦ λ is. ap (λ (v : Bool). cond v (x ∷ filter p xs) (filter p xs)) (none x (inl refl) is) ∙ rest
          ∙ elim (r x) as (λ w. filter (λ y. not (q y)) (filter r xs) ≡ filter (λ y. not (q y)) (cond w (x ∷ filter r xs) (filter r xs))) [
            | true ↦ sym (ap (λ (u : Bool). cond (not u) (x ∷ filter (λ y. not (q y)) (filter r xs)) (filter (λ y. not (q y)) (filter r xs))) is)
            | false ↦ refl
          ]
      | false ↦ λ isnt. ap (λ (v : Bool). cond v (x ∷ filter p xs) (filter p xs)) (same x (inl refl) isnt)
          ∙ elim (r x) as (λ w. cond w (x ∷ filter p xs) (filter p xs) ≡ filter (λ y. not (q y)) (cond w (x ∷ filter r xs) (filter r xs))) [
            | true ↦ ap (λ ys. x ∷ ys) rest ∙ sym (ap (λ (u : Bool). cond (not u) (x ∷ filter (λ y. not (q y)) (filter r xs)) (filter (λ y. not (q y)) (filter r xs))) isnt)
            | false ↦ rest
          ]
    ] refl

-- where no command of that place stands, nothing changes
lessen_none : (place : ℕ) (items : List Standing) → ((x : Standing) → In x items → is_command place x ≡ false) → ((x : Standing) → In x items → still_owes x ≡ true) → lessen not_under_way place items ≡ items
lessen_none place [] none owing = refl
lessen_none place (IsUndue a ∷ items) none owing = ap (λ xs. IsUndue a ∷ xs) (lessen_none place items (λ y at. none y (inr at)) (λ y at. owing y (inr at)))
lessen_none place (IsLeft d ∷ items) none owing =
    ap (λ (w : Bool). cond (still_owes (cond w (IsLeft (not_under_way d)) (IsLeft d))) (cond w (IsLeft (not_under_way d)) (IsLeft d) ∷ lessen not_under_way place items) (lessen not_under_way place items)) (none (IsLeft d) (inl refl))
    ∙ ap (λ (w : Bool). cond w (IsLeft d ∷ lessen not_under_way place items) (lessen not_under_way place items)) (owing (IsLeft d) (inl refl))
    ∙ ap (λ xs. IsLeft d ∷ xs) (lessen_none place items (λ y at. none y (inr at)) (λ y at. owing y (inr at)))

others_out : (place : ℕ) (cs : List Command) → others place (with_command (with_out None) place cs) ≡ others place cs
others_out place [] = refl
others_out place (x ∷ cs) =
    let rest = others_out place cs in
    elim (is_at place x) as (λ v. is_at place x ≡ v → cond (not (is_at place (cond v (with_out None x) x))) (cond v (with_out None x) x ∷ others place (with_command (with_out None) place cs)) (others place (with_command (with_out None) place cs)) ≡ cond (not v) (x ∷ others place cs) (others place cs)) [
      | true ↦ λ is. ap (λ (w : Bool). cond (not w) (with_out None x ∷ others place (with_command (with_out None) place cs)) (others place (with_command (with_out None) place cs))) is ∙ rest
      | false ↦ λ is. ap (λ (w : Bool). cond (not w) (x ∷ others place (with_command (with_out None) place cs)) (others place (with_command (with_out None) place cs))) is ∙ ap (λ xs. x ∷ xs) rest
    ] refl

abbrev live_of : KeptPhase → Bool
live_of p = elim p as (λ (q : KeptPhase). Bool) [ KeptDormant ↦ true | KeptFresh ↦ true | KeptStarted ↦ true | KeptRunning ↦ false | KeptGone ↦ false ]

abbrev running_of : KeptPhase → Bool
running_of p = elim p as (λ (q : KeptPhase). Bool) [ KeptRunning ↦ true | KeptDormant ↦ false | KeptFresh ↦ false | KeptStarted ↦ false | KeptGone ↦ false ]

abbrev told : Option Command → Option ℕ
told x = elim x as (λ (y : Option Command). Option ℕ) [ Some d ↦ cond (is_live d) (Some d.place) None | None ↦ None ]

-- ---- one command

module _ (under : ℕ → Bool) (o : Opening) (s : State) (b : Box) (h : StandsWith under o s b) (homes : HaveHomes b) (c : Command) (kept : In c s.tracked.commands) where
  by_place : (d : Command) → In d s.tracked.commands → d.place ≡ c.place → d ≡ c
  by_place d at same =
      let e : find_place c.place s.tracked ≡ Some d = ap (λ n. find_place n s.tracked) (sym same) ∙ found_there s.tracked d h.placed at in
      let f : find_place c.place s.tracked ≡ Some c = found_there s.tracked c h.placed kept in cc

  by_ticket : (d : Command) → In d s.tracked.commands → d.ticket ≡ c.ticket → d ≡ c
  by_ticket d at same =
      let e : find_ticket c.ticket s.tracked ≡ Some d = found_ticket s.tracked d c.ticket h.placed at same in
      let f : find_ticket c.ticket s.tracked ≡ Some c = found_ticket s.tracked c c.ticket h.placed kept refl in cc

  pub pair : (t : Task) × In t (filter (is_kept under) b.tasks) × IsCommand under s.limits.cids b.links c t
  pair = pair_of (IsCommand under s.limits.cids b.links) s.tracked.commands (filter (is_kept under) b.tasks) c kept h.commands

  pub same_task : (t : Task) → In t b.tasks → t.ticket ≡ c.ticket → t ≡ pair.0
  same_task t at is = one_task b.tasks t pair.0 homes.ascending at (in_filter (is_kept under) b.tasks pair.0 pair.1).0 (is ∙ pair.2.ticket)

  phase_is : (t : Task) → In t b.tasks → t.ticket ≡ c.ticket → t.phase ≡ phase_of c.phase
  phase_is t at is = ap (λ (x : Task). x.phase) (same_task t at is) ∙ sym pair.2.phase

  apart_ticket : (d : Command) → In d s.tracked.commands → (d.place ≡ c.place → ⊥) → d.ticket ≡ c.ticket → ⊥
  apart_ticket d at apart same = apart (ap (λ (x : Command). x.place) (by_ticket d at same))

  owing : (d : Command) → In d s.tracked.commands → is_live d ≡ false → owes (left_of d) ≡ true
  owing = dead_owes under o s b h

  -- ---- it is kept still

  abbrev v1 : Tracked
  v1 = arrived_at c.place s.tracked

  lives : (d : Command) → is_live (at_place (with_out None) c.place d) ≡ is_live d
  lives d = elim (is_at c.place d) as (λ w. is_live (cond w (with_out None d) d) ≡ is_live d) [ true ↦ refl | false ↦ refl ]

  place_stays : (k : ℕ) → live_place v1 k ≡ live_place s.tracked k
  place_stays k = ap told (ticket_changed (with_out None) (keeps_out None) c.place k s.tracked.commands) ∙ by_found (find (λ (d : Command). d.ticket == k) s.tracked.commands)
    where
      by_found : (x : Option Command) → told (elim x as (λ (y : Option Command). Option Command) [ Some d ↦ Some (at_place (with_out None) c.place d) | None ↦ None ]) ≡ told x
      by_found None = refl
      by_found (Some d) = elim (is_at c.place d) as (λ w. cond (is_live (cond w (with_out None d) d)) (Some (cond w (with_out None d) d).place) None ≡ cond (is_live d) (Some d.place) None) [ true ↦ refl | false ↦ refl ]

  there : (n : ℕ) → (n ≡ c.place → ⊥) → find_place n v1 ≡ find_place n s.tracked
  there n apart = found_changed (with_out None) (keeps_out None) c.place n s.tracked.commands ∙ by_found (find (is_at n) s.tracked.commands) refl
    where
      by_found : (x : Option Command) → find (is_at n) s.tracked.commands ≡ x → (elim x as (λ (y : Option Command). Option Command) [ Some d ↦ Some (at_place (with_out None) c.place d) | None ↦ None ]) ≡ x
      by_found None is = refl
      by_found (Some d) is =
          ap (λ (w : Bool). Some (cond w (with_out None d) d)) (ne_eqb d.place c.place (λ same. apart (sym (eqb-true d.place n (find_in (is_at n) s.tracked.commands d is).1) ∙ same)))

  here : find_place c.place v1 ≡ Some (with_out None c)
  here =
      found_changed (with_out None) (keeps_out None) c.place c.place s.tracked.commands
      ∙ ap (λ (x : Option Command). elim x as (λ (y : Option Command). Option Command) [ Some d ↦ Some (at_place (with_out None) c.place d) | None ↦ None ]) (found_there s.tracked c h.placed kept)
      ∙ ap (λ (w : Bool). Some (cond w (with_out None c) c)) (eq-eqb c.place c.place refl)

  counted : (cs : List Command) → count_by is_gone (with_command (with_out None) c.place cs) ≡ count_by is_gone cs
  counted [] = refl
  counted (d ∷ cs) =
      count-cons is_gone (at_place (with_out None) c.place d) (with_command (with_out None) c.place cs)
      ∙ ap (λ (u : Bool). cond (cond u false true) 1 0 + count_by is_gone (with_command (with_out None) c.place cs)) (lives d)
      ∙ ap (λ n. cond (is_gone d) 1 0 + n) (counted cs) ∙ sym (count-cons is_gone d cs)

  module _ (stays : (u : Bool) → (is_live_phase (phase_of c.phase) || (is_running_phase (phase_of c.phase) || (is_left_phase (phase_of c.phase) && u))) ≡ true) where
    kept_by : (test : ℕ → Bool) (t : Task) → In t b.tasks → t.ticket ≡ c.ticket → is_kept test t ≡ true
    kept_by test t at is = ap (λ (p : Phase). is_live_phase p || (is_running_phase p || (is_left_phase p && test t.ticket))) (phase_is t at is) ∙ stays (test t.ticket)

    same_kept : (t : Task) → In t b.tasks → is_kept (less under c.ticket) t ≡ is_kept under t
    same_kept t at =
        ⊎_elim (λ is. kept_by (less under c.ticket) t at is ∙ sym (kept_by under t at is))
        (λ apart. ap (λ (v : Bool). is_live_phase t.phase || (is_running_phase t.phase || (is_left_phase t.phase && v))) (less_there under c.ticket t.ticket apart)) (cases_eq t.ticket c.ticket)

    commands_stay : AreCommands (less under c.ticket) s.limits.cids b.links b.tasks v1
    commands_stay =
        subst (PairsOf (IsCommand (less under c.ticket) s.limits.cids b.links) v1.commands) (sym (filter_same (is_kept (less under c.ticket)) (is_kept under) b.tasks same_kept))
        (pairs_turn (IsCommand under s.limits.cids b.links) (IsCommand (less under c.ticket) s.limits.cids b.links) (at_place (with_out None) c.place) s.tracked.commands (filter (is_kept under) b.tasks) both h.commands)
      where
        both : (d : Command) (t : Task) → In d s.tracked.commands → In t (filter (is_kept under) b.tasks) → IsCommand under s.limits.cids b.links d t → IsCommand (less under c.ticket) s.limits.cids b.links (at_place (with_out None) c.place d) t
        both d t at for k = elim (is_at c.place d) as (λ w. is_at c.place d ≡ w → IsCommand (less under c.ticket) s.limits.cids b.links (cond w (with_out None d) d) t) [
          | true ↦ λ is. record {
            ticket = k.ticket;
            conn = k.conn;
            unit = k.unit;
            tag = k.tag;
            numbered = k.numbered;
            phase = k.phase;
            out = ap (λ (x : Command). less under c.ticket x.ticket) (by_place d at (eqb-true d.place c.place is)) ∙ less_here under c.ticket;
          }
          | false ↦ λ isnt. command_same under (less under c.ticket) s.limits.cids b.links d t (sym (less_there under c.ticket d.ticket (apart_ticket d at (eqb-false d.place c.place isnt)))) k
        ] refl

    stands_so : (items : List Standing) → AreLeft v1 items → AreAnswers s.limits.cids v1 [] items b.undue
        → StandsWith (less under c.ticket) o (record s { lane = record s.lane { items = items }; tracked = v1 }) b
    stands_so items left answers = record {
      sizes = record { limits = h.sizes.limits; waits = h.sizes.waits; answers = h.sizes.answers; commands = h.sizes.commands; trails = length-map s.tracked.trails (without c.place) ∙ h.sizes.trails };
      numbers = record { time = h.numbers.time; exp = h.numbers.exp; max = h.numbers.max; shown = h.numbers.shown; reached = h.numbers.reached; sent = h.numbers.sent };
      links = h.links;
      queues = queues_weaken s.tracked v1 place_stays s.waits.queues b.links h.queues;
      commands = commands_stay;
      placed = placed_arrived c.place s.tracked h.placed;
      trails = trails_arrived c.place s.tracked h.trails;
      left = left;
      answers = answers;
      fence = h.fence;
    }

    -- it runs
    pub running_stands : is_live c ≡ false → is_running c ≡ true → StandsWith (less under c.ticket) o (record s { lane = arrived_in c.place s.lane; tracked = v1 }) b
    running_stands dead running =
        stands_so (lessen not_under_way c.place s.lane.items)
        (stays_left s.tracked s.lane.items h.left h.placed owing c kept dead not_under_way keeps_not_under_way v1 some there
        (ap left_at here ∙ ap (λ (u : Bool). cond u [] (IsLeft (not_under_way (left_of c)) ∷ [])) dead) (counted s.tracked.commands))
        (answers_stay s.tracked s.lane.items h.left h.placed owing c kept dead not_under_way keeps_not_under_way s.limits.cids v1 (with_out None) (keeps_out None) (λ d at. lives d) refl some b.undue h.answers)
      where
        some : owes (not_under_way (left_of c)) ≡ true
        some = ap (λ (v : Bool). v || false) running

    -- it is live
    pub live_stands : is_live c ≡ true → StandsWith (less under c.ticket) o (record s { lane = arrived_in c.place s.lane; tracked = v1 }) b
    live_stands live =
        subst (λ (items : List Standing). StandsWith (less under c.ticket) o (record s { lane = record s.lane { items = items }; tracked = v1 }) b) (sym same_items)
        (stands_so s.lane.items left_live answers_live)
      where
        none_at : filter (is_command c.place) s.lane.items ≡ []
        none_at = h.left.each c.place ∙ ap left_at (found_there s.tracked c h.placed kept) ∙ ap (λ (u : Bool). cond u [] (IsLeft (left_of c) ∷ [])) live

        absent : (x : Standing) → In x s.lane.items → is_command c.place x ≡ false
        absent x at = elim (is_command c.place x) as (λ w. is_command c.place x ≡ w → w ≡ false) [
          | true ↦ λ is. absurd (subst (λ (xs : List Standing). In x xs) none_at (filter_in (is_command c.place) s.lane.items x at is))
          | false ↦ λ is. refl
        ] refl

        same_items : lessen not_under_way c.place s.lane.items ≡ s.lane.items
        same_items = lessen_none c.place s.lane.items absent (λ x at. (let k : IsMine s.tracked x = all_mine s.tracked s.lane.items owing h.left x at in k.owing))

        left_live : AreLeft v1 s.lane.items
        left_live = record {
          each = λ n. ⊎_elim
              (λ same.
              ap (λ k. filter (is_command k) s.lane.items) same ∙ none_at
              ∙ sym (ap (λ k. left_at (find_place k v1)) same ∙ ap left_at here ∙ ap (λ (u : Bool). cond u [] (IsLeft (left_of (with_out None c)) ∷ [])) live))
              (λ apart. h.left.each n ∙ sym (ap left_at (there n apart))) (cases_eq n c.place);
          counted = h.left.counted ∙ sym (counted s.tracked.commands);
        }

        answers_live : AreAnswers s.limits.cids v1 [] s.lane.items b.undue
        answers_live =
            answers_weaken s.limits.cids s.tracked v1
            (λ before a answer k. each-map (IsInScope before a answer) (IsInScope before a answer) (at_place (with_out None) c.place) s.tracked.commands
            (λ d j alive. ap (contains answer.out.scope) (same_ticket (with_out None) (keeps_out None) c.place d) ∙ j (sym (lives d) ∙ alive)
            ∙ sym (ap (λ n. list_any (is_aimed_at a.aim n) before) (same_place (with_out None) (keeps_out None) c.place d))) k)
            [] s.lane.items b.undue h.answers

  -- ---- it isn't kept any more

  module _ (phase : c.phase ≡ KeptGone) where
    abbrev v2 : Tracked
    v2 = removed c.place v1

    dead : is_live c ≡ false
    dead = ap live_of phase

    none : owes (not_under_way (left_of c)) ≡ false
    none = ap (λ (p : KeptPhase). running_of p || false) phase

    commands_are : v2.commands ≡ others c.place s.tracked.commands
    commands_are = others_out c.place s.tracked.commands

    same_command : (d : Command) (t : Task) → In d s.tracked.commands → IsCommand under s.limits.cids b.links d t → (d.place == c.place) ≡ (t.ticket == c.ticket)
    same_command d t at k =
        same_tests (d.place == c.place) (t.ticket == c.ticket)
        (λ is. eq-eqb t.ticket c.ticket (sym k.ticket ∙ ap (λ (x : Command). x.ticket) (by_place d at (eqb-true d.place c.place is))))
        (λ is. eq-eqb d.place c.place (ap (λ (x : Command). x.place) (by_ticket d at (k.ticket ∙ eqb-true t.ticket c.ticket is))))

    not_kept : (t : Task) → In t b.tasks → t.ticket ≡ c.ticket → is_kept (less under c.ticket) t ≡ false
    not_kept t at is =
        ap (λ (p : Phase). is_live_phase p || (is_running_phase p || (is_left_phase p && less under c.ticket t.ticket))) (phase_is t at is ∙ ap phase_of phase)
        ∙ ap (less under c.ticket) is ∙ less_here under c.ticket

    kept_tasks : filter (is_kept (less under c.ticket)) b.tasks ≡ filter (λ (t : Task). not (t.ticket == c.ticket)) (filter (is_kept under) b.tasks)
    kept_tasks =
        filter_less (is_kept (less under c.ticket)) (is_kept under) (λ (t : Task). t.ticket == c.ticket) b.tasks
        (λ t at isnt. ap (λ (v : Bool). is_live_phase t.phase || (is_running_phase t.phase || (is_left_phase t.phase && v))) (less_there under c.ticket t.ticket (eqb-false t.ticket c.ticket isnt)))
        (λ t at is. not_kept t at (eqb-true t.ticket c.ticket is))

    commands_go : AreCommands (less under c.ticket) s.limits.cids b.links b.tasks v2
    commands_go =
        subst (λ cs. PairsOf (IsCommand (less under c.ticket) s.limits.cids b.links) cs (filter (is_kept (less under c.ticket)) b.tasks)) (sym commands_are)
        (subst (PairsOf (IsCommand (less under c.ticket) s.limits.cids b.links) (others c.place s.tracked.commands)) (sym kept_tasks)
        (pairs_keep (IsCommand under s.limits.cids b.links) (IsCommand (less under c.ticket) s.limits.cids b.links) (others c.place s.tracked.commands) (filter (λ (t : Task). not (t.ticket == c.ticket)) (filter (is_kept under) b.tasks))
        (λ d t at for k. let two = in_others c.place s.tracked.commands d at in
        command_same under (less under c.ticket) s.limits.cids b.links d t (sym (less_there under c.ticket d.ticket (apart_ticket d two.0 two.1))) k)
        (pairs_filter_in (IsCommand under s.limits.cids b.links) (λ (d : Command). not (is_at c.place d)) (λ (t : Task). not (t.ticket == c.ticket)) s.tracked.commands (filter (is_kept under) b.tasks)
        (λ d t at for k. ap not (same_command d t at k)) h.commands)))

    place_goes : (k : ℕ) → live_place v2 k ≡ live_place s.tracked k
    place_goes k =
        ap (λ (cs : List Command). told (find (λ (x : Command). x.ticket == k) cs)) commands_are
        ∙ ⊎_elim mine (λ apart. ap told (other_ticket c.place k s.tracked.commands (λ x at same place. apart (sym same ∙ ap (λ (y : Command). y.ticket) (by_place x at place))))) (cases_eq k c.ticket)
      where
        mine : k ≡ c.ticket → told (find (λ (x : Command). x.ticket == k) (others c.place s.tracked.commands)) ≡ live_place s.tracked k
        mine is = by_found (find (λ (x : Command). x.ticket == k) (others c.place s.tracked.commands)) refl
          where
            was : live_place s.tracked k ≡ None
            was = ap (live_place s.tracked) is ∙ ap told (found_ticket s.tracked c c.ticket h.placed kept refl) ∙ ap (λ (w : Bool). cond w (Some c.place) None) dead

            by_found : (x : Option Command) → find (λ (y : Command). y.ticket == k) (others c.place s.tracked.commands) ≡ x → told (find (λ (y : Command). y.ticket == k) (others c.place s.tracked.commands)) ≡ live_place s.tracked k
            by_found None found = ap told found ∙ sym was
            by_found (Some d) found =
                let at = find_in (λ (y : Command). y.ticket == k) (others c.place s.tracked.commands) d found in
                let two = in_others c.place s.tracked.commands d at.0 in
                absurd (apart_ticket d two.0 two.1 (eqb-true d.ticket k at.1 ∙ is))

    pub gone_stands : StandsWith (less under c.ticket) o (record s { lane = arrived_in c.place s.lane; tracked = v2 }) b
    gone_stands = record {
      sizes = record {
        limits = h.sizes.limits;
        waits = h.sizes.waits;
        answers = h.sizes.answers;
        commands = h.sizes.commands;
        trails = length-map (map (without c.place) s.tracked.trails) (without c.place) ∙ length-map s.tracked.trails (without c.place) ∙ h.sizes.trails;
      };
      numbers = record { time = h.numbers.time; exp = h.numbers.exp; max = h.numbers.max; shown = h.numbers.shown; reached = h.numbers.reached; sent = h.numbers.sent };
      links = h.links;
      queues = queues_weaken s.tracked v2 place_goes s.waits.queues b.links h.queues;
      commands = commands_go;
      placed = placed_removed c.place v1 has_it (placed_arrived c.place s.tracked h.placed);
      trails = trails_removed c.place v1 (trails_arrived c.place s.tracked h.trails);
      left = goes_left s.tracked s.lane.items h.left h.placed owing c kept dead not_under_way keeps_not_under_way v2 none
          (λ n apart. ap (find (is_at n)) commands_are ∙ other_find c.place n s.tracked.commands apart) (ap (find (is_at c.place)) commands_are ∙ none_find c.place s.tracked.commands)
          (ap (λ (cs : List Command). count_by is_gone cs + 1) commands_are ∙ fewer_gone c s.tracked.commands kept (ap (λ (w : Bool). cond w false true) dead) h.placed.apart);
      answers = answers_go s.tracked s.lane.items h.left h.placed owing c kept dead not_under_way keeps_not_under_way s.limits.cids v2 commands_are b.undue h.answers;
      fence = h.fence;
    }
      where
        has_it : has_place c.place v1 ≡ true
        has_it = has_changed (with_out None) (keeps_out None) c.place c.place s.tracked.commands ∙ any_from (is_at c.place) s.tracked.commands c kept (eq-eqb c.place c.place refl)

  -- ---- by its phase

  abbrev with_it : State
  with_it = record s { lane = arrived_in c.place s.lane; tracked = v1 }

  by_phase : (p : KeptPhase) → c.phase ≡ p
      → StandsWith (less under c.ticket) o (elim p as (λ (q : KeptPhase). State) [ KeptGone ↦ record with_it { tracked = removed c.place v1 } | KeptDormant ↦ with_it | KeptFresh ↦ with_it | KeptStarted ↦ with_it | KeptRunning ↦ with_it ]) b
  by_phase KeptDormant is = live_stands (λ u. ap (λ (p : KeptPhase). is_live_phase (phase_of p) || (is_running_phase (phase_of p) || (is_left_phase (phase_of p) && u))) is) (ap live_of is)
  by_phase KeptFresh is = live_stands (λ u. ap (λ (p : KeptPhase). is_live_phase (phase_of p) || (is_running_phase (phase_of p) || (is_left_phase (phase_of p) && u))) is) (ap live_of is)
  by_phase KeptStarted is = live_stands (λ u. ap (λ (p : KeptPhase). is_live_phase (phase_of p) || (is_running_phase (phase_of p) || (is_left_phase (phase_of p) && u))) is) (ap live_of is)
  by_phase KeptRunning is = running_stands (λ u. ap (λ (p : KeptPhase). is_live_phase (phase_of p) || (is_running_phase (phase_of p) || (is_left_phase (phase_of p) && u))) is) (ap live_of is) (ap running_of is)
  by_phase KeptGone is = gone_stands is

  pub arrived_stands : StandsWith (less under c.ticket) o (arrived_command c s) b
  arrived_stands = by_phase (c.phase) refl
