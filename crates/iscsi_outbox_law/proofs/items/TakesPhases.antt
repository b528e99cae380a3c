-- One command comes to another phase in both, or isn't kept any more: the commands that are kept, and the tickets of those that live.
use Rattle.std.proofs.Common.{◌≡◌, ◌≢◌, ℕ, ◌+◌, ◌<◌, ◌==◌, ◌&&◌, ◌||◌, inl, inr, ⊎_elim, not, cond, Bool, true, false, List, [], ◌∷◌, map, filter, count_by, Option, Some, None, refl, ap, sym, subst, ◌∙◌, arith, eq-eqb, ne_eqb}
use Rattle.std.specs.List.{find}
use Rattle.std.proofs.lemmas.Bool.{cases_eq, eqb-false, eqb-true}
use Rattle.iscsi_arrivals.proofs.CountLemmas.{count-cons}
use Rattle.iscsi_outbox_rules.specs.rules.Calls.{Opening}
use Rattle.iscsi_outbox_rules.specs.rules.Boxes.{Phase, Task, Box}
use Rattle.iscsi_outbox_rules.specs.rules.Words.{contains, is_left_phase, is_live_phase, is_running_phase}
use Rattle.iscsi_outbox_steps.specs.State.{State}
use Rattle.iscsi_outbox_steps.specs.Steps.{is_live}
use Rattle.iscsi_tracked.specs.declared.command.Command.{Command}
use Rattle.iscsi_tracked.specs.declared.command.Phase.{Phase as KeptPhase}
use Rattle.iscsi_tracked.specs.Tracked.{find_place, find_ticket, in_phase, is_at, is_out, removed, to_phase, with_command}
use Rattle.iscsi_outbox_law.specs.private.Pairs.{PairsOf, InOrder}
use Rattle.iscsi_outbox_law.specs.private.Links.{live_place}
use Rattle.iscsi_outbox_law.specs.private.Commands.{AreCommands, IsCommand, is_kept, is_under_way, link_in, phase_of}
use Rattle.iscsi_outbox_law.specs.private.Lanes.{is_gone}
use Rattle.iscsi_outbox_law.specs.private.Stands.{Stands}
use Rattle.iscsi_outbox_law.proofs.general.PairLemmas.{each-weaken}
use Rattle.iscsi_outbox_law.proofs.general.Members.{In, each-in, find_in, in_filter, pair_of, same_tests}
use Rattle.iscsi_outbox_law.proofs.commands.Homes.{one_task}
use Rattle.iscsi_outbox_law.proofs.commands.LeftOut.{found_there, out_under}
use Rattle.iscsi_outbox_law.proofs.sending.NextStands.{found_ticket}
use Rattle.iscsi_outbox_law.proofs.commands.TrackedLemmas.{at_place, found_changed, ticket_changed}
use Rattle.iscsi_outbox_law.proofs.commands.TrackedChanges.{keeps_phase}
use Rattle.iscsi_outbox_law.proofs.commands.TrackedEnds.{all_others, others}
use Rattle.iscsi_outbox_law.proofs.commands.Stopping.{filter_drop, filter_turn, pairs_filter_in, pairs_turn_both}
use Rattle.iscsi_outbox_law.proofs.commands.StopsGone.{in_others, other_ticket}

-- ---- a task

-- the task with this ticket comes to another phase
abbrev pub turned_to : (Phase → Phase) → ℕ → Task → Task
turned_to turn ticket t = cond (contains (ticket ∷ []) t.ticket) (record t { phase = turn t.phase }) t

-- whether a task in this phase is kept
abbrev pub is_kept_in : Phase → Bool → Bool
is_kept_in p out = is_live_phase p || (is_running_phase p || (is_left_phase p && out))

or_no : (v : Bool) → (v || false) ≡ v
or_no true = refl
or_no false = refl

pub turned_mine : (turn : Phase → Phase) (ticket : ℕ) (t : Task) → t.ticket ≡ ticket → turned_to turn ticket t ≡ record t { phase = turn t.phase }
turned_mine turn ticket t is = ap (λ (v : Bool). cond v (record t { phase = turn t.phase }) t) (or_no (ticket == t.ticket) ∙ eq-eqb ticket t.ticket (sym is))

pub turned_other : (turn : Phase → Phase) (ticket : ℕ) (t : Task) → (t.ticket ≡ ticket → ⊥) → turned_to turn ticket t ≡ t
turned_other turn ticket t apart = ap (λ (v : Bool). cond v (record t { phase = turn t.phase }) t) (or_no (ticket == t.ticket) ∙ ne_eqb ticket t.ticket (λ same. apart (sym same)))

-- the place of a command that lives
abbrev pub told : Option Command → Option ℕ
told x = elim x as (λ (y : Option Command). Option ℕ) [ Some d ↦ cond (is_live d) (Some d.place) None | None ↦ None ]

-- ---- how many left

-- as many where a command that lives isn't kept any more
pub same_gone : (c : Command) (cs : List Command) → In c cs → is_gone c ≡ false → InOrder (λ (x y : Command). x.place ≢ y.place) cs → count_by is_gone (others c.place cs) ≡ count_by is_gone cs
same_gone c [] at lives apart = absurd at
same_gone c (x ∷ cs) at lives apart =
    let first : c ≡ x → count_by is_gone (others c.place (x ∷ cs)) ≡ count_by is_gone (x ∷ cs) = λ same.
    let alone : others c.place cs ≡ cs = all_others c.place cs (each-weaken (λ (d : Command). x.place ≢ d.place) (λ (d : Command). d.place ≡ c.place → ⊥) cs (λ d other e. other (sym (ap (λ (y : Command). y.place) same) ∙ sym e)) apart.0) in
    let out : others c.place (x ∷ cs) ≡ others c.place cs = ap (λ (v : Bool). cond (not v) (x ∷ others c.place cs) (others c.place cs)) (eq-eqb x.place c.place (sym (ap (λ (y : Command). y.place) same))) in
    let e : count_by is_gone (others c.place (x ∷ cs)) ≡ count_by is_gone cs = ap (count_by is_gone) (out ∙ alone) in
    let f = count-cons is_gone x cs in
    let g : cond {A = ℕ} (is_gone x) 1 0 ≡ 0 = ap {B = ℕ} (λ (v : Bool). cond v 1 0) (sym (ap is_gone same) ∙ lives) in
    omega (arith, e, f, g) in
    let later : In c cs → count_by is_gone (others c.place (x ∷ cs)) ≡ count_by is_gone (x ∷ cs) = λ there.
    let rest = same_gone c cs there lives apart.1 in
    let other : (x.place == c.place) ≡ false = ne_eqb x.place c.place (each-in (λ (d : Command). x.place ≢ d.place) cs c there apart.0) in
    let e : count_by is_gone (others c.place (x ∷ cs)) ≡ count_by is_gone (x ∷ others c.place cs) = ap (λ (v : Bool). count_by is_gone (cond (not v) (x ∷ others c.place cs) (others c.place cs))) other in
    let f = count-cons is_gone x cs in
    let g = count-cons is_gone x (others c.place cs) in
    omega (arith, e, f, g, rest) in
    ⊎_elim first later at

-- nothing changes where none stands in that place
none_turned : (phase : KeptPhase) (place : ℕ) (cs : List Command) → ((x : Command) → In x cs → x.place ≡ place → ⊥) → with_command (to_phase phase) place cs ≡ cs
none_turned phase place [] apart = refl
none_turned phase place (x ∷ cs) apart =
    ap (λ (v : Bool). cond v (to_phase phase x) x ∷ with_command (to_phase phase) place cs) (ne_eqb x.place place (apart x (inl refl))) ∙ ap (λ xs. x ∷ xs) (none_turned phase place cs (λ y at. apart y (inr at)))

-- one more where a command that lives leaves, and is kept
pub more_gone : (phase : KeptPhase) (c : Command) (cs : List Command) → In c cs → is_gone c ≡ false → is_gone (to_phase phase c) ≡ true → InOrder (λ (x y : Command). x.place ≢ y.place) cs
    → count_by is_gone (with_command (to_phase phase) c.place cs) ≡ count_by is_gone cs + 1
more_gone phase c [] at lives gone apart = absurd at
more_gone phase c (x ∷ cs) at lives gone apart =
    let first : c ≡ x → count_by is_gone (with_command (to_phase phase) c.place (x ∷ cs)) ≡ count_by is_gone (x ∷ cs) + 1 = λ same.
    let alone : with_command (to_phase phase) c.place cs ≡ cs = none_turned phase c.place cs (λ y there e. each-in (λ (d : Command). x.place ≢ d.place) cs y there apart.0 (sym (ap (λ (z : Command). z.place) same) ∙ sym e)) in
    let out : with_command (to_phase phase) c.place (x ∷ cs) ≡ to_phase phase x ∷ with_command (to_phase phase) c.place cs = ap (λ (v : Bool). cond v (to_phase phase x) x ∷ with_command (to_phase phase) c.place cs) (eq-eqb x.place c.place (sym (ap (λ (y : Command). y.place) same))) in
    let e : count_by is_gone (with_command (to_phase phase) c.place (x ∷ cs)) ≡ count_by is_gone (to_phase phase x ∷ cs) = ap (count_by is_gone) (out ∙ ap (λ xs. to_phase phase x ∷ xs) alone) in
    let f = count-cons is_gone x cs in
    let f' = count-cons is_gone (to_phase phase x) cs in
    let g : cond {A = ℕ} (is_gone x) 1 0 ≡ 0 = ap {B = ℕ} (λ (v : Bool). cond v 1 0) (sym (ap is_gone same) ∙ lives) in
    let g' : cond {A = ℕ} (is_gone (to_phase phase x)) 1 0 ≡ 1 = ap {B = ℕ} (λ (v : Bool). cond v 1 0) (sym (ap (λ (y : Command). is_gone (to_phase phase y)) same) ∙ gone) in
    omega (arith, e, f, f', g, g') in
    let later : In c cs → count_by is_gone (with_command (to_phase phase) c.place (x ∷ cs)) ≡ count_by is_gone (x ∷ cs) + 1 = λ there.
    let rest = more_gone phase c cs there lives gone apart.1 in
    let other : (x.place == c.place) ≡ false = ne_eqb x.place c.place (each-in (λ (d : Command). x.place ≢ d.place) cs c there apart.0) in
    let e : count_by is_gone (with_command (to_phase phase) c.place (x ∷ cs)) ≡ count_by is_gone (x ∷ with_command (to_phase phase) c.place cs) = ap (λ (v : Bool). count_by is_gone (cond v (to_phase phase x) x ∷ with_command (to_phase phase) c.place cs)) other in
    let f = count-cons is_gone x cs in
    let g = count-cons is_gone x (with_command (to_phase phase) c.place cs) in
    omega (arith, e, f, g, rest) in
    ⊎_elim first later at

-- ---- both

module _ (o : Opening) (s : State) (b : Box) (h : Stands o s b) (ascending : InOrder (λ (t u : Task). t.ticket < u.ticket) b.tasks) (ticket : ℕ) (c : Command) (found : find_ticket ticket s.tracked ≡ Some c) where
  pub kept : In c s.tracked.commands
  kept = (find_in (λ (x : Command). x.ticket == ticket) s.tracked.commands c found).0

  pub ticket_is : c.ticket ≡ ticket
  ticket_is = eqb-true c.ticket ticket (find_in (λ (x : Command). x.ticket == ticket) s.tracked.commands c found).1

  pub by_place : (d : Command) → In d s.tracked.commands → d.place ≡ c.place → d ≡ c
  by_place d at same =
      let e : find_place c.place s.tracked ≡ Some d = ap (λ n. find_place n s.tracked) (sym same) ∙ found_there s.tracked d h.placed at in
      let f : find_place c.place s.tracked ≡ Some c = found_there s.tracked c h.placed kept in cc

  pub by_ticket : (d : Command) → In d s.tracked.commands → d.ticket ≡ ticket → d ≡ c
  by_ticket d at same = let e : find_ticket ticket s.tracked ≡ Some d = found_ticket s.tracked d ticket h.placed at same in cc

  pair : (t : Task) × In t (filter (is_kept (is_under_way o b.links)) b.tasks) × IsCommand (is_under_way o b.links) s.limits.cids b.links c t
  pair = pair_of (IsCommand (is_under_way o b.links) s.limits.cids b.links) s.tracked.commands (filter (is_kept (is_under_way o b.links)) b.tasks) c kept h.commands

  pub task_phase : (t : Task) → In t b.tasks → t.ticket ≡ ticket → t.phase ≡ phase_of c.phase
  task_phase t at is =
      let k = pair in
      let same : t ≡ k.0 = one_task b.tasks t k.0 ascending at (in_filter (is_kept (is_under_way o b.links)) b.tasks k.0 k.1).0 (is ∙ sym ticket_is ∙ k.2.ticket) in
      ap (λ (x : Task). x.phase) same ∙ sym k.2.phase

  task_kept : (t : Task) → In t b.tasks → t.ticket ≡ ticket → is_kept (is_under_way o b.links) t ≡ true
  task_kept t at is =
      let k = pair in
      let f = in_filter (is_kept (is_under_way o b.links)) b.tasks k.0 k.1 in
      let same : t ≡ k.0 = one_task b.tasks t k.0 ascending at f.0 (is ∙ sym ticket_is ∙ k.2.ticket) in
      ap (is_kept (is_under_way o b.links)) same ∙ f.1

  out_is : is_out c ≡ is_under_way o b.links c.ticket
  out_is = out_under (is_under_way o b.links) c.ticket (link_in b.links c.conn) (c.last_out) pair.2.out

  same_command : (d : Command) (t : Task) → In d s.tracked.commands → IsCommand (is_under_way o b.links) s.limits.cids b.links d t → (d.place == c.place) ≡ (t.ticket == ticket)
  same_command d t at k =
      same_tests (d.place == c.place) (t.ticket == ticket)
      (λ is. eq-eqb t.ticket ticket (sym k.ticket ∙ ap (λ (x : Command). x.ticket) (by_place d at (eqb-true d.place c.place is)) ∙ ticket_is))
      (λ is. eq-eqb d.place c.place (ap (λ (x : Command). x.place) (by_ticket d at (k.ticket ∙ eqb-true t.ticket ticket is))))

  -- the place of any other command stays
  other_told : (k : ℕ) → (k ≡ ticket → ⊥) → live_place (removed c.place s.tracked) k ≡ live_place s.tracked k
  other_told k apart = ap told (other_ticket c.place k s.tracked.commands (λ x at same place. apart (sym same ∙ ap (λ (y : Command). y.ticket) (by_place x at place) ∙ ticket_is)))

  none_told : live_place (removed c.place s.tracked) ticket ≡ None
  none_told = by_found (find (λ (x : Command). x.ticket == ticket) (others c.place s.tracked.commands)) refl
    where
      by_found : (x : Option Command) → find (λ (y : Command). y.ticket == ticket) (others c.place s.tracked.commands) ≡ x → live_place (removed c.place s.tracked) ticket ≡ None
      by_found None none = ap told none
      by_found (Some d) some =
          let at = find_in (λ (y : Command). y.ticket == ticket) (others c.place s.tracked.commands) d some in
          let two = in_others c.place s.tracked.commands d at.0 in
          absurd (two.1 (ap (λ (y : Command). y.place) (by_ticket d two.0 (eqb-true d.ticket ticket at.1))))

  pub place_removed : (k : ℕ) → live_place (removed c.place s.tracked) k ≡ cond (ticket == k) None (live_place s.tracked k)
  place_removed k =
      ⊎_elim
      (λ same. ap (live_place (removed c.place s.tracked)) same ∙ none_told ∙ sym (ap (λ (v : Bool). cond v None (live_place s.tracked k)) (eq-eqb ticket k (sym same))))
      (λ apart. other_told k apart ∙ sym (ap (λ (v : Bool). cond v None (live_place s.tracked k)) (ne_eqb ticket k (λ same. apart (sym same)))))
      (cases_eq k ticket)

  module _ (turn : Phase → Phase) where
    turned_kept : (t : Task) → In t b.tasks → t.ticket ≡ ticket → is_kept (is_under_way o b.links) (turned_to turn ticket t) ≡ is_kept_in (turn (phase_of c.phase)) (is_out c)
    turned_kept t at is =
        ap (is_kept (is_under_way o b.links)) (turned_mine turn ticket t is)
        ∙ ap (λ (p : Phase). is_kept_in (turn p) (is_under_way o b.links t.ticket)) (task_phase t at is)
        ∙ ap (is_kept_in (turn (phase_of c.phase))) (ap (is_under_way o b.links) (is ∙ sym ticket_is) ∙ sym out_is)

    -- it isn't kept any more
    pub commands_removed : is_kept_in (turn (phase_of c.phase)) (is_out c) ≡ false → AreCommands (is_under_way o b.links) s.limits.cids b.links (map (turned_to turn ticket) b.tasks) (removed c.place s.tracked)
    commands_removed none =
        subst (PairsOf (IsCommand (is_under_way o b.links) s.limits.cids b.links) (others c.place s.tracked.commands))
        (sym (filter_drop (is_kept (is_under_way o b.links)) (λ (t : Task). t.ticket == ticket) (turned_to turn ticket) b.tasks (λ t at isnt. turned_other turn ticket t (eqb-false t.ticket ticket isnt))
        (λ t at is. turned_kept t at (eqb-true t.ticket ticket is) ∙ none)))
        (pairs_filter_in (IsCommand (is_under_way o b.links) s.limits.cids b.links) (λ (d : Command). not (is_at c.place d)) (λ (t : Task). not (t.ticket == ticket)) s.tracked.commands (filter (is_kept (is_under_way o b.links)) b.tasks)
        (λ d t at for k. ap not (same_command d t at k)) h.commands)

    -- it is kept, in its new phase
    module _ (phase : KeptPhase) (as_told : phase_of phase ≡ turn (phase_of c.phase)) (stays : is_kept_in (phase_of phase) (is_out c) ≡ true) where
      same_kept : (t : Task) → In t b.tasks → is_kept (is_under_way o b.links) (turned_to turn ticket t) ≡ is_kept (is_under_way o b.links) t
      same_kept t at =
          ⊎_elim (λ is. turned_kept t at is ∙ ap (λ p. is_kept_in p (is_out c)) (sym as_told) ∙ stays ∙ sym (task_kept t at is)) (λ apart. ap (is_kept (is_under_way o b.links)) (turned_other turn ticket t apart)) (cases_eq t.ticket ticket)

      pub commands_phase : AreCommands (is_under_way o b.links) s.limits.cids b.links (map (turned_to turn ticket) b.tasks) (in_phase phase c.place s.tracked)
      commands_phase =
          subst (PairsOf (IsCommand (is_under_way o b.links) s.limits.cids b.links) (with_command (to_phase phase) c.place s.tracked.commands)) (sym (filter_turn (is_kept (is_under_way o b.links)) (turned_to turn ticket) b.tasks same_kept))
          (pairs_turn_both (IsCommand (is_under_way o b.links) s.limits.cids b.links) (IsCommand (is_under_way o b.links) s.limits.cids b.links) (at_place (to_phase phase) c.place) (turned_to turn ticket) s.tracked.commands (filter (is_kept (is_under_way o b.links)) b.tasks) both h.commands)
        where
          both : (d : Command) (t : Task) → In d s.tracked.commands → In t (filter (is_kept (is_under_way o b.links)) b.tasks) → IsCommand (is_under_way o b.links) s.limits.cids b.links d t
              → IsCommand (is_under_way o b.links) s.limits.cids b.links (at_place (to_phase phase) c.place d) (turned_to turn ticket t)
          both d t at for k = elim (is_at c.place d) as (λ w. is_at c.place d ≡ w → IsCommand (is_under_way o b.links) s.limits.cids b.links (cond w (to_phase phase d) d) (turned_to turn ticket t)) [
            | true ↦ λ here.
                let same : d ≡ c = by_place d at (eqb-true d.place c.place here) in
                let is : t.ticket ≡ ticket = sym k.ticket ∙ ap (λ (x : Command). x.ticket) same ∙ ticket_is in
                subst (IsCommand (is_under_way o b.links) s.limits.cids b.links (to_phase phase d)) (sym (turned_mine turn ticket t is))
                (record {
                  ticket = k.ticket;
                  conn = k.conn;
                  unit = k.unit;
                  tag = k.tag;
                  numbered = k.numbered;
                  phase = as_told ∙ sym (ap turn (task_phase t (in_filter (is_kept (is_under_way o b.links)) b.tasks t for).0 is));
                  out = k.out;
                })
            | false ↦ λ there.
                let apart : t.ticket ≡ ticket → ⊥ = λ is. eqb-false d.place c.place there (ap (λ (x : Command). x.place) (by_ticket d at (k.ticket ∙ is))) in
                subst (IsCommand (is_under_way o b.links) s.limits.cids b.links d) (sym (turned_other turn ticket t apart)) k
          ] refl

  -- ---- where the commands stand

  module _ (phase : KeptPhase) where
    pub there : (n : ℕ) → (n ≡ c.place → ⊥) → find_place n (in_phase phase c.place s.tracked) ≡ find_place n s.tracked
    there n apart = found_changed (to_phase phase) (keeps_phase phase) c.place n s.tracked.commands ∙ by_found (find (is_at n) s.tracked.commands) refl
      where
        by_found : (x : Option Command) → find (is_at n) s.tracked.commands ≡ x → (elim x as (λ (y : Option Command). Option Command) [ Some d ↦ Some (at_place (to_phase phase) c.place d) | None ↦ None ]) ≡ x
        by_found None is = refl
        by_found (Some d) is =
            ap (λ (w : Bool). Some (cond w (to_phase phase d) d)) (ne_eqb d.place c.place (λ same. apart (sym (eqb-true d.place n (find_in (is_at n) s.tracked.commands d is).1) ∙ same)))

    pub here : find_place c.place (in_phase phase c.place s.tracked) ≡ Some (to_phase phase c)
    here =
        found_changed (to_phase phase) (keeps_phase phase) c.place c.place s.tracked.commands
        ∙ ap (λ (x : Option Command). elim x as (λ (y : Option Command). Option Command) [ Some d ↦ Some (at_place (to_phase phase) c.place d) | None ↦ None ]) (found_there s.tracked c h.placed kept)
        ∙ ap (λ (w : Bool). Some (cond w (to_phase phase c) c)) (eq-eqb c.place c.place refl)

    -- the place of the command, once it came to this phase
    pub place_phase : (k : ℕ) → live_place (in_phase phase c.place s.tracked) k ≡ cond (ticket == k) (told (Some (to_phase phase c))) (live_place s.tracked k)
    place_phase k = ap told (ticket_changed (to_phase phase) (keeps_phase phase) c.place k s.tracked.commands) ∙ ⊎_elim mine others_stay (cases_eq k ticket)
      where
        changed : Option Command → Option Command
        changed x = elim x as (λ (y : Option Command). Option Command) [ Some d ↦ Some (at_place (to_phase phase) c.place d) | None ↦ None ]

        mine : k ≡ ticket → told (changed (find_ticket k s.tracked)) ≡ cond (ticket == k) (told (Some (to_phase phase c))) (live_place s.tracked k)
        mine same =
            ap (λ n. told (changed (find_ticket n s.tracked))) same ∙ ap (λ x. told (changed x)) found ∙ ap (λ (w : Bool). told (Some (cond w (to_phase phase c) c))) (eq-eqb c.place c.place refl)
            ∙ sym (ap (λ (v : Bool). cond v (told (Some (to_phase phase c))) (live_place s.tracked k)) (eq-eqb ticket k (sym same)))

        others_stay : (k ≡ ticket → ⊥) → told (changed (find_ticket k s.tracked)) ≡ cond (ticket == k) (told (Some (to_phase phase c))) (live_place s.tracked k)
        others_stay apart =
            ap told (by_found (find_ticket k s.tracked) refl) ∙ sym (ap (λ (v : Bool). cond v (told (Some (to_phase phase c))) (live_place s.tracked k)) (ne_eqb ticket k (λ same. apart (sym same))))
          where
            by_found : (x : Option Command) → find_ticket k s.tracked ≡ x → changed x ≡ x
            by_found None is = refl
            by_found (Some d) is =
                let at = find_in (λ (x : Command). x.ticket == k) s.tracked.commands d is in
                ap (λ (w : Bool). Some (cond w (to_phase phase d) d)) (ne_eqb d.place c.place (λ same. apart (sym (eqb-true d.ticket k at.1) ∙ ap (λ (x : Command). x.ticket) (by_place d at.0 same) ∙ ticket_is)))
