-- A walk that drops the answers of a connection, step by step.
use Rattle.std.proofs.Common.{◌≡◌, ℕ, ◌+◌, ◌-◌, ◌≤◌, ◌<◌, ◌&&◌, true, false, List, [], ◌∷◌, ◌++◌, length, map, Option, Some, None, refl, ap, sym, subst, ◌∙◌, arith, ⊎_elim}
use Rattle.std.specs.List.{list_any}
use Rattle.std.proofs.lemmas.Bool.{cases_Bool, cases_eq}
use Rattle.std.proofs.lemmas.List.{append-nil}
use Rattle.iscsi_slots.specs.Slots.{times}
use Rattle.iscsi_lists.specs.Lists.{AreApart, Listed, first_of, linked_in, with_last, without}
use Rattle.iscsi_lists.proofs.WithoutLemmas.{append_one, length_without, times_without, times_without_other}
use Rattle.iscsi_outbox_state.specs.declared.lane.Undue.{Undue}
use Rattle.iscsi_outbox_state.specs.declared.lane.Standing.{Standing}
use Rattle.iscsi_outbox_state.specs.declared.lane.Standing.TheVariants.{Left as IsLeft, Undue as IsUndue}
use Rattle.iscsi_outbox_state.specs.Lane.{goes_out_on, is_numbered}
use Rattle.iscsi_lane.specs.Standings.{IsLane, at, items_in, slots_at, standings}
use Rattle.iscsi_lane.specs.Dropping.{IsDropping, others_on}
use Rattle.iscsi_lane.specs.Walking.{still_ahead}
use Rattle.iscsi_lane.proofs.DropLemmas.{none_to_drop, others_same, stands}
use Rattle.iscsi_lane.proofs.GoingLemmas.{some_numbered, some_waiting, taken_lane}
use Rattle.iscsi_lane.proofs.LaneLemmas.{moved_long, moved_other, moved_room, moved_values}
use Rattle.iscsi_lane.proofs.StampLemmas.{few_at, once_at}
use Rattle.iscsi_lane.proofs.StandLemmas.{one_at_most, one_if}
use Rattle.iscsi_lane.proofs.WalkLemmas.{Step, ahead_is, any_push, none_ahead, step_of, without_it}

none_less : (n : ℕ) → n ≡ n - 0
none_less n = omega arith

pub begins : (log : Listed Standing) (conn : ℕ) (o : Option ℕ) → AreApart (linked_in log) → length log.lists ≡ 3 → o ≡ first_of (slots_at log 2) → IsDropping log log conn 0 0 o
begins log conn o known lists first = record {
  front = [];
  back = slots_at log 2;
  parts = refl;
  first = first;
  none = refl;
  rest = refl;
  lists = lists;
  room = refl;
  few = let a = few_at log known 2 in omega (arith, a);
  fewer = omega arith;
  less = λ commands most owing waiting of_numbered lane. record {
    some = omega arith;
    some_numbered = omega arith;
    lane = subst (λ w. IsLane log commands most owing w (of_numbered - 0)) (none_less waiting) (subst (IsLane log commands most owing waiting) (none_less of_numbered) lane);
  };
}

-- the walk is over: none of the connection's stands there
pub none_left : (old log : Listed Standing) (conn k n : ℕ) → IsDropping old log conn k n None → items_in log ≡ others_on conn (items_in old)
none_left old log conn k n d =
    let all : d.front ≡ slots_at log 2 = sym (append-nil d.front) ∙ ap (λ r. d.front ++ r) (sym (none_ahead d.back d.first)) ∙ sym d.parts in
    sym (none_to_drop (goes_out_on conn) (items_in log) (subst (λ q. list_any (goes_out_on conn) (standings log.values q) ≡ false) all d.none)) ∙ d.rest

module _ (old log : Listed Standing) (conn k n s : ℕ) (d : IsDropping old log conn k n (Some s)) (known : AreApart (linked_in log)) where
  abbrev order : List ℕ
  order = slots_at log 2

  pub p : Step order d.front s d.back
  p = step_of order d.front d.back s d.parts d.first

  pub there : 1 ≤ times s order
  there = stands order d.front s p.rest p.parts

  once : (t : ℕ) → times t order ≤ 1
  once t = once_at log known 2 t

  -- it stays

  stays : goes_out_on conn (at log.values s) ≡ false → (o : Option ℕ) → o ≡ first_of p.rest → IsDropping old log conn k n o
  stays off o first = record {
    front = d.front ++ s ∷ [];
    back = p.rest;
    parts = p.parts ∙ append_one d.front p.rest s;
    first = first;
    none = any_push (goes_out_on conn) log.values d.front s d.none off;
    rest = d.rest;
    lists = d.lists;
    room = d.room;
    few = d.few;
    fewer = d.fewer;
    less = d.less;
  }

  -- or goes

  module _ (a : Undue) (is : at log.values s ≡ IsUndue a) (on : goes_out_on conn (at log.values s) ≡ true) (t : Listed Standing) (is_t : t ≡ record log { lists = with_last 1 s (map (without s) log.lists) }) where
    gone_order : slots_at t 2 ≡ without s order
    gone_order = moved_other log t 1 s is_t 2 (λ e. omega (arith, e))

    t_order : slots_at t 2 ≡ d.front ++ p.rest
    t_order = gone_order ∙ without_it order d.front s p.rest (once s) p.parts

    t_items : items_in t ≡ standings log.values (d.front ++ p.rest)
    t_items = ap (λ v. standings v (slots_at t 2)) (moved_values log t 1 s is_t) ∙ ap (standings log.values) t_order

    goes : (o : Option ℕ) → o ≡ first_of p.rest → IsDropping old t conn (k + 1) (n + one_if a.numbered) o
    goes o first = record {
      front = d.front;
      back = p.rest;
      parts = t_order;
      first = first;
      none = subst (λ v. list_any (goes_out_on conn) (standings v d.front) ≡ false) (sym (moved_values log t 1 s is_t)) d.none;
      rest = ap (others_on conn) t_items ∙ others_same (goes_out_on conn) log.values s on d.front p.rest
          ∙ ap (λ q. others_on conn (standings log.values q)) (sym p.parts) ∙ d.rest;
      lists = moved_long log t 1 s is_t ∙ d.lists;
      room = moved_room log t 1 s is_t ∙ d.room;
      few = let b = ap length gone_order in let e = length_without s order in let f = there in let g = d.few in omega (arith, b, e, f, g);
      fewer = let b = one_at_most a.numbered in let e = d.fewer in omega (arith, b, e);
      less = λ commands most owing waiting of_numbered lane.
          (let l = d.less commands most owing waiting of_numbered lane in
          let b = some_waiting log commands most owing (waiting - k) (of_numbered - n) l.lane known s a there is t is_t in
          let e = some_numbered log commands most owing (waiting - k) (of_numbered - n) l.lane known s a there is t is_t in
          let f = l.some in let g = l.some_numbered in
          record {
            some = omega (arith, b, f);
            some_numbered = omega (arith, e, g);
            lane = taken_lane log commands most owing (waiting - k) (of_numbered - n) l.lane known s a there is t is_t
                (waiting - (k + 1)) (of_numbered - (n + one_if a.numbered)) (omega (arith, b, f)) (omega (arith, e, g));
          });
    }

  -- as the call has it

  module _ (t : Listed Standing) (k' n' : ℕ)
      (gone : goes_out_on conn (at log.values s) ≡ true → t ≡ record log { lists = with_last 1 s (map (without s) log.lists) }) (still : goes_out_on conn (at log.values s) ≡ false → t ≡ log)
      (more : k' ≡ k + one_if (goes_out_on conn (at log.values s))) (more_numbered : n' ≡ n + one_if (goes_out_on conn (at log.values s) && is_numbered (at log.values s)))
      (o : Option ℕ) (first : o ≡ first_of p.rest) where
    stands_still : goes_out_on conn (at log.values s) ≡ false → IsDropping old t conn k' n' o
    stands_still off =
        let ek : k' ≡ k = (let a = ap one_if off in omega (arith, a, more)) in
        let en : n' ≡ n = (let a = ap (λ b. one_if (b && is_numbered (at log.values s))) off in omega (arith, a, more_numbered)) in
        subst (λ u. IsDropping old u conn k' n' o) (sym (still off))
        (subst (λ j. IsDropping old log conn j n' o) (sym ek) (subst (λ j. IsDropping old log conn k j o) (sym en) (stays off o first)))

    by_standing : (x : Standing) → at log.values s ≡ x → IsDropping old t conn k' n' o
    by_standing (IsLeft c) is = stands_still (ap (goes_out_on conn) is)
    by_standing (IsUndue a) is = ⊎_elim
        (λ on.
        let ek : k' ≡ k + 1 = (let b = ap one_if on in omega (arith, b, more)) in
        let en : n' ≡ n + one_if a.numbered = more_numbered ∙ ap (λ b. n + one_if (b && is_numbered (at log.values s))) on ∙ ap (λ x. n + one_if (is_numbered x)) is in
        subst (λ j. IsDropping old t conn j n' o) (sym ek) (subst (λ j. IsDropping old t conn (k + 1) j o) (sym en) (goes a is on t (gone on) o first)))
        (λ off. stands_still off)
        (cases_Bool (goes_out_on conn (at log.values s)))

    pub goes_on : IsDropping old t conn k' n' o
    goes_on = by_standing (at log.values s) refl

    few_left : (u : ℕ) → times u (without s order) ≤ times u order
    few_left u = ⊎_elim
        (λ (same : u ≡ s). let a = ap (λ v. times v (without s order)) same in let b = times_without s order in omega (arith, a, b))
        (λ other. let a = times_without_other s u order other in omega (arith, a))
        (cases_eq u s)

    t_once : (u : ℕ) → times u (slots_at t 2) ≤ 1
    t_once u = ⊎_elim
        (λ on. let a = ap (times u) (moved_other log t 1 s (gone on) 2 (λ e. omega (arith, e))) in let b = few_left u in let c = once u in omega (arith, a, b, c))
        (λ off. let a = ap (λ (v : Listed Standing). times u (slots_at v 2)) (still off) in let c = once u in omega (arith, a, c))
        (cases_Bool (goes_out_on conn (at log.values s)))

    ahead : still_ahead o (slots_at t 2) ≡ length p.rest
    ahead = ⊎_elim
        (λ on. ahead_is (slots_at t 2) d.front o p.rest t_once (moved_other log t 1 s (gone on) 2 (λ e. omega (arith, e)) ∙ without_it order d.front s p.rest (once s) p.parts) first)
        (λ off. ahead_is (slots_at t 2) (d.front ++ s ∷ []) o p.rest t_once (ap (λ (v : Listed Standing). slots_at v 2) (still off) ∙ p.parts ∙ append_one d.front p.rest s) first)
        (cases_Bool (goes_out_on conn (at log.values s)))

    pub nearer : still_ahead o (slots_at t 2) < still_ahead (Some s) order
    nearer = let a = ahead in let b = ahead_is order d.front (Some s) (s ∷ p.rest) once p.parts refl in omega (arith, a, b)
