-- The lane, where an answer goes.
use Rattle.std.proofs.Common.{◌≡◌, ℕ, ◌+◌, ◌≤◌, Bool, [], ◌∷◌, ◌++◌, length, map, ap, sym, subst, ◌∙◌, arith}
use Rattle.std.proofs.lemmas.List.{length-append}
use Rattle.iscsi_slots.specs.Slots.{times}
use Rattle.iscsi_lists.specs.Lists.{AreApart, Listed, linked_in, with_last, without}
use Rattle.iscsi_lists.proofs.WithoutLemmas.{without_none}
use Rattle.iscsi_outbox_state.specs.declared.lane.Undue.{Undue}
use Rattle.iscsi_outbox_state.specs.declared.lane.Standing.{Standing}
use Rattle.iscsi_outbox_state.specs.declared.lane.Standing.TheVariants.{Undue as IsUndue}
use Rattle.iscsi_outbox_state.specs.Lane.{is_left, is_numbered}
use Rattle.iscsi_lane.specs.Standings.{AllBehind, IsLane, StandAt, StandsAt, at, is_undue, items_in, slots_at, standings, tally}
use Rattle.iscsi_lane.proofs.StandLemmas.{behind_append, one_if, stand_without, stands_at, tally_gone}
use Rattle.iscsi_lane.proofs.LaneLemmas.{at_once, moved_free, moved_here, moved_long, moved_other, moved_room, moved_values, only_at}

module _ (log : Listed Standing) (commands answers owing waiting numbered : ℕ) (lane : IsLane log commands answers owing waiting numbered) (known : AreApart (linked_in log))
    (s : ℕ) (a : Undue) (there : 1 ≤ times s (slots_at log 2)) (is : at log.values s ≡ IsUndue a) (t : Listed Standing) (is_t : t ≡ record log { lists = with_last 1 s (map (without s) log.lists) }) where
  pub taken_items : items_in t ≡ standings log.values (without s (slots_at log 2))
  taken_items = ap (λ v. standings v (slots_at t 2)) (moved_values log t 1 s is_t) ∙ ap (standings log.values) (moved_other log t 1 s is_t 2 (λ e. omega (arith, e)))

  taken_tally : (test : Standing → Bool) → tally test (items_in t) + one_if (test (IsUndue a)) ≡ tally test (items_in log)
  taken_tally test =
      let once : times s (slots_at log 2) ≡ 1 = (let b = at_once log commands lane.standing known 2 s in omega (arith, b, there)) in
      let b = ap (tally test) taken_items in
      let d = tally_gone test log.values s (slots_at log 2) once in
      let e = ap (λ y. one_if (test y)) is in omega (arith, b, d, e)

  pub some_waiting : 1 ≤ waiting
  some_waiting = let b = taken_tally is_undue in let d = lane.undue in omega (arith, b, d)

  pub some_numbered : one_if a.numbered ≤ numbered
  some_numbered = let b = taken_tally is_numbered in let d = lane.of_numbered in omega (arith, b, d)

  free_list : slots_at t 1 ≡ slots_at log 1 ++ s ∷ []
  free_list =
      moved_here log t 1 s is_t (let b = lane.standing.lists in omega (arith, b))
      ∙ ap (λ q. q ++ s ∷ []) (without_none s (slots_at log 1) (only_at log commands lane.standing known 2 s 1 there (λ e. omega (arith, e))))

  pub taken_lane : (w m : ℕ) → w + 1 ≡ waiting → m + one_if a.numbered ≡ numbered → IsLane t commands answers owing w m
  taken_lane w m ew em = record {
    standing = record {
      all = moved_free log t 1 s is_t ∙ lane.standing.all;
      lists = moved_long log t 1 s is_t ∙ lane.standing.lists;
      behind = subst (AllBehind commands) (sym free_list) (behind_append commands (slots_at log 1) (s ∷ []) lane.standing.behind
          (subst (StandsAt commands s) is (stands_at commands log.values s (slots_at log 2) there lane.standing.stand), tt));
      stand = subst (λ v. StandAt commands v (slots_at t 2)) (sym (moved_values log t 1 s is_t))
          (subst (StandAt commands log.values) (sym (moved_other log t 1 s is_t 2 (λ e. omega (arith, e)))) (stand_without commands log.values s (slots_at log 2) lane.standing.stand));
      most = let b = moved_room log t 1 s is_t in let d = lane.standing.most in omega (arith, b, d);
    };
    slots = moved_room log t 1 s is_t ∙ lane.slots;
    left = let b = taken_tally is_left in let d = lane.left in omega (arith, b, d);
    undue = let b = taken_tally is_undue in let d = lane.undue in omega (arith, b, d, ew);
    of_numbered = let b = taken_tally is_numbered in let d = lane.of_numbered in omega (arith, b, d, em);
    rest = let b = ap length free_list in let d = length-append (slots_at log 1) (s ∷ []) in let e = lane.rest in omega (arith, b, d, e, ew);
  }
