-- Something is written on a connection, or known to have arrived: what stands before its trail is walked, by what was under way
-- before.
use Rattle.std.proofs.Common.{◌≡◌, ℕ, ◌+◌, ◌-◌, cond, max, nat_lt, true, false, length, drop, refl, ap, sym, subst, ◌∙◌, arith}
use Rattle.std.specs.List.{list_any}
use Rattle.std.proofs.lemmas.List.{drop-drop}
use Rattle.iscsi_rules.specs.rules.Settings.{are_distinct}
use Rattle.iscsi_arrivals.specs.Counts.{heard_by, written_by}
use Rattle.iscsi_arrivals.proofs.HeardLemmas.{stands_heard}
use Rattle.iscsi_outbox_rules.specs.rules.Calls.{Opening}
use Rattle.iscsi_outbox_rules.specs.rules.Boxes.{Link, Box}
use Rattle.iscsi_outbox_rules.specs.rules.Words.{is_open}
use Rattle.iscsi_outbox_rules.specs.rules.Queues.{at_link}
use Rattle.iscsi_outbox_rules.specs.rules.Handing.{fenced_handed}
use Rattle.iscsi_outbox_rules.specs.rules.Run.{arrived_by_ping, arrived_by_stat_sn, link_heard, one_written}
use Rattle.iscsi_outbox_steps.specs.State.{State, link_at, with_link}
use Rattle.iscsi_outbox_law.specs.private.Commands.{is_under_way, link_in}
use Rattle.iscsi_outbox_law.specs.private.Stands.{Stands, StandsWith}
use Rattle.iscsi_outbox_law.proofs.general.PlaceLemmas.{IsPlace, at_place}
use Rattle.iscsi_outbox_law.proofs.connections.Standing.{counts_at, links_apart}
use Rattle.iscsi_outbox_law.proofs.connections.LinkChanges.{Moves, stands_moved, stays}
use Rattle.iscsi_outbox_law.proofs.connections.CountChanges.{stands_written}
use Rattle.iscsi_outbox_law.proofs.sending.Fencing.{any_drop}

moves_written : (l : Link) → Moves l (one_written l)
moves_written l = elim (nat_lt l.written (length l.handed)) as (λ v. Moves l (cond v (record l { written = l.written + 1 }) l)) [
  | true ↦ record { conn = refl; handed = refl; stamps = λ place lt. refl; fence = λ none. none }
  | false ↦ stays l
]

pub queue_written : (l : Link) → (one_written l).queue ≡ l.queue
queue_written l = elim (nat_lt l.written (length l.handed)) as (λ v. (cond v (record l { written = l.written + 1 }) l).queue ≡ l.queue) [ true ↦ refl | false ↦ refl ]

moves_arrived : (l : Link) (n : ℕ) → Moves l (record l { arrived = max l.arrived n })
moves_arrived l n = record {
  conn = refl;
  handed = refl;
  stamps = λ place lt. refl;
  fence = λ none opens. fewer (none opens);
}
  where
    later : l.arrived + (max l.arrived n - l.arrived) ≡ max l.arrived n
    later = omega arith

    fewer : list_any fenced_handed (drop l.arrived l.handed) ≡ false → list_any fenced_handed (drop (max l.arrived n) l.handed) ≡ false
    fewer none =
        sym (ap (list_any fenced_handed) (drop-drop (max l.arrived n - l.arrived) l.arrived l.handed ∙ ap (λ k. drop k l.handed) later)) ∙ any_drop fenced_handed (max l.arrived n - l.arrived) (drop l.arrived l.handed) none

moves_heard : (exp_stat_sn tag : ℕ) (l : Link) → Moves l (link_heard exp_stat_sn tag l)
moves_heard exp_stat_sn tag l = elim (is_open l) as (λ v. Moves l (cond v (record l { arrived = max l.arrived (max (arrived_by_stat_sn l exp_stat_sn) (arrived_by_ping l tag)) }) l)) [
  | true ↦ moves_arrived l (max (arrived_by_stat_sn l exp_stat_sn) (arrived_by_ping l tag))
  | false ↦ stays l
]

pub queue_heard : (exp_stat_sn tag : ℕ) (l : Link) → (link_heard exp_stat_sn tag l).queue ≡ l.queue
queue_heard exp_stat_sn tag l = elim (is_open l) as (λ v. (cond v (record l { arrived = max l.arrived (max (arrived_by_stat_sn l exp_stat_sn) (arrived_by_ping l tag)) }) l).queue ≡ l.queue) [ true ↦ refl | false ↦ refl ]

module _ (o : Opening) (s : State) (b : Box) (h : Stands o s b) (distinct : are_distinct o.session.conns ≡ true) (cid p : ℕ) (at : IsPlace b.links cid p) where
  pub wrote_stands : StandsWith (is_under_way o b.links) o (with_link p written_by s) (record b { links = at_link cid one_written b.links })
  wrote_stands =
      subst (λ ls. StandsWith (is_under_way o b.links) o (with_link p written_by s) (record b { links = ls })) (sym (at_place one_written b.links cid p (links_apart (is_under_way o b.links) o s b h distinct) at.within at.is))
      (stands_moved (is_under_way o b.links) o s b p (written_by (link_at s p)) (one_written (link_in b.links p)) h at.within (moves_written (link_in b.links p)) (queue_written (link_in b.links p))
      (stands_written (link_at s p) (link_in b.links p) (counts_at (is_under_way o b.links) o s b h p at.within)))

  pub heard_stands : (exp_stat_sn tag : ℕ) → StandsWith (is_under_way o b.links) o (with_link p (heard_by exp_stat_sn tag) s) (record b { links = at_link cid (link_heard exp_stat_sn tag) b.links })
  heard_stands exp_stat_sn tag =
      subst (λ ls. StandsWith (is_under_way o b.links) o (with_link p (heard_by exp_stat_sn tag) s) (record b { links = ls })) (sym (at_place (link_heard exp_stat_sn tag) b.links cid p (links_apart (is_under_way o b.links) o s b h distinct) at.within at.is))
      (stands_moved (is_under_way o b.links) o s b p (heard_by exp_stat_sn tag (link_at s p)) (link_heard exp_stat_sn tag (link_in b.links p)) h at.within (moves_heard exp_stat_sn tag (link_in b.links p)) (queue_heard exp_stat_sn tag (link_in b.links p))
      (stands_heard (link_at s p) (link_in b.links p) (counts_at (is_under_way o b.links) o s b h p at.within) exp_stat_sn tag))
