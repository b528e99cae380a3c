-- Something is written on a connection, or a header arrives there: the state after it.
use Rattle.std.proofs.Common.{◌≡◌, ℕ, ◌-◌, ◌<◌, ◌^◌, length, set, count_by, true, Option, Some, None, refl, ap, sym, subst, arith}
use Rattle.iscsi_rules.specs.rules.Settings.{are_distinct}
use Rattle.iscsi_arrivals.specs.Counts.{Counts, heard_by, written_by}
use Rattle.iscsi_outbox_rules.specs.promises.Room.{Fits}
use Rattle.iscsi_outbox_rules.specs.rules.Calls.{Opening}
use Rattle.iscsi_outbox_rules.specs.rules.Boxes.{Outgoing, Link, Box}
use Rattle.iscsi_outbox_rules.specs.rules.Words.{is_reply}
use Rattle.iscsi_outbox_rules.specs.rules.Queues.{at_link}
use Rattle.iscsi_outbox_rules.specs.rules.Due.{settle as settle_box}
use Rattle.iscsi_outbox_rules.specs.rules.Own.{is_own}
use Rattle.iscsi_outbox_rules.specs.rules.Run.{link_heard, one_written}
use Rattle.iscsi_outbox_steps.specs.State.{State, place_of, with_link}
use Rattle.iscsi_outbox_steps.specs.Steps.{heard, settle, trail, written}
use Rattle.iscsi_tracked.specs.Tracked.{trail_at}
use Rattle.iscsi_outbox_law.specs.private.Commands.{is_under_way, link_in}
use Rattle.iscsi_outbox_law.specs.private.Sound.{IsSound}
use Rattle.iscsi_outbox_law.specs.private.Stands.{Stands, StandsWith}
use Rattle.iscsi_outbox_law.proofs.general.PlaceLemmas.{IsPlace, at_none, at_place}
use Rattle.iscsi_outbox_law.proofs.connections.Standing.{links_apart, stands_nowhere, stands_there}
use Rattle.iscsi_outbox_law.proofs.calls.Calm.{calm, room_there}
use Rattle.iscsi_outbox_law.proofs.queues.Settling.{IsCalm, settle_stands}
use Rattle.iscsi_outbox_law.proofs.arrivals.Arriving.{heard_stands, queue_heard, queue_written, wrote_stands}
use Rattle.iscsi_outbox_law.proofs.arrivals.Trails.{Walks, walk}
use Rattle.iscsi_outbox_law.proofs.arrivals.Silence.{Quiets, calm_at, quiets_heard, quiets_written, replies_at, walks_start}

module _ (o : Opening) (s : State) (b : Box) (h : Stands o s b) (sound : IsSound o b) (distinct : are_distinct o.session.conns ≡ true) (fits : Fits o b) (cid : ℕ) where
  -- what a link becomes, and its counts
  module _ (f : Link → Link) (quiets : (l : Link) → Quiets o l (f l)) (queue : (l : Link) → (f l).queue ≡ l.queue) (change : Counts → Counts)
      (moved : (p : ℕ) → IsPlace b.links cid p → StandsWith (is_under_way o b.links) o (with_link p change s) (record b { links = at_link cid f b.links }))
      (timed : (settle_box o (record b { links = at_link cid f b.links })).time < 2 ^ 64 - 1) where
    abbrev b' : Box
    b' = record b { links = at_link cid f b.links }

    calm_now : IsCalm o b' b.undue
    calm_now = calm_at cid f o b b.undue quiets (λ l. (let e = ap (count_by (λ (x : Outgoing). is_own x.pdu)) (queue l) in omega (arith, e))) (calm o s b h sound distinct)

    at_known : (p : ℕ) → place_of s cid ≡ Some p → Stands o (settle (trail p (with_link p change s))) (settle_box o b')
    at_known p found =
        let at : IsPlace b.links cid p = stands_there (is_under_way o b.links) o s b h cid p found in
        let now : StandsWith (is_under_way o b.links) o (with_link p change s) b' = moved p at in
        let same : at_link cid f b.links ≡ set b.links p (f (link_in b.links p)) = at_place f b.links cid p (links_apart (is_under_way o b.links) o s b h distinct) at.within at.is in
        let walks : Walks o b' cid (is_under_way o b.links) = subst (λ ls. Walks o (record b { links = ls }) cid (is_under_way o b.links)) (sym same) (walks_start o b sound.homes cid p at (f (link_in b.links p)) (quiets (link_in b.links p))) in
        settle_stands o (trail p (with_link p change s)) b'
        (walk o b' calm_now.homes calm_now.apart cid p (stands_there (is_under_way o b.links) o (with_link p change s) b' now cid p found) (length (trail_at s.tracked p)) (is_under_way o b.links) (with_link p change s) now walks (omega arith))
        calm_now
        (let e = replies_at cid f (λ l. (let g = ap (count_by (λ (x : Outgoing). is_reply x.pdu)) (queue l) in omega (arith, g))) b.links in let g = room_there o s b h sound distinct fits in omega (arith, e, g))
        timed

    at_unknown : place_of s cid ≡ None → Stands o s (settle_box o b')
    at_unknown none =
        subst (λ ls. Stands o s (settle_box o (record b { links = ls }))) (sym (at_none f b.links cid (stands_nowhere (is_under_way o b.links) o s b h cid none)))
        (subst (Stands o s) (sym sound.settled) h)

    pub moved_stands : Stands o (elim (place_of s cid) as (λ (y : Option ℕ). State) [ Some p ↦ settle (trail p (with_link p change s)) | None ↦ s ]) (settle_box o b')
    moved_stands = by_place (place_of s cid) refl
      where
        by_place : (x : Option ℕ) → place_of s cid ≡ x → Stands o (elim x as (λ (y : Option ℕ). State) [ Some p ↦ settle (trail p (with_link p change s)) | None ↦ s ]) (settle_box o b')
        by_place None none = at_unknown none
        by_place (Some p) found = at_known p found

  pub writes_stands : (settle_box o (record b { links = at_link cid one_written b.links })).time < 2 ^ 64 - 1 → Stands o (written cid s) (settle_box o (record b { links = at_link cid one_written b.links }))
  writes_stands timed = moved_stands one_written (quiets_written o) queue_written written_by (λ p at. wrote_stands o s b h distinct cid p at) timed

  pub hears_stands : (exp_stat_sn tag : ℕ) → (settle_box o (record b { links = at_link cid (link_heard exp_stat_sn tag) b.links })).time < 2 ^ 64 - 1
      → Stands o (heard cid exp_stat_sn tag s) (settle_box o (record b { links = at_link cid (link_heard exp_stat_sn tag) b.links }))
  hears_stands exp_stat_sn tag timed =
      moved_stands (link_heard exp_stat_sn tag) (quiets_heard o exp_stat_sn tag) (queue_heard exp_stat_sn tag) (heard_by exp_stat_sn tag) (λ p at. heard_stands o s b h distinct cid p at exp_stat_sn tag) timed
