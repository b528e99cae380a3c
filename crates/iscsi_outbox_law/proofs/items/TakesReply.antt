-- The reply of an item, after its other parts.
use Rattle.std.proofs.Common.{◌≡◌, ℕ, ◌+◌, ◌-◌, ◌<◌, ◌≤◌, ◌==◌, ◌^◌, ◌&&◌, cond, true, false, List, [], length, filter_map, Option, Some, None, refl, ap, sym, subst, ◌∙◌, arith, lt-ltb}
use Rattle.std.specs.List.{list_any}
use Rattle.iscsi_wire.specs.declared.reply.Reply.{Reply}
use Rattle.iscsi_wire.specs.declared.request.Request.{Request}
use Rattle.iscsi_rules.specs.declared.effect.Effect.{Effect}
use Rattle.iscsi_rules.specs.rules.Settings.{are_distinct}
use Rattle.iscsi_rules.specs.rules.Trace.{first_of}
use Rattle.iscsi_outbox_rules.specs.rules.Calls.{Opening}
use Rattle.iscsi_outbox_rules.specs.rules.Boxes.{Task, Box}
use Rattle.iscsi_outbox_rules.specs.rules.Words.{contains, replies_waiting}
use Rattle.iscsi_outbox_rules.specs.rules.Queues.{takes_more}
use Rattle.iscsi_outbox_rules.specs.rules.Items.{aim as aim_box, closed_in as closed_in_box, executing, is_numbered as is_numbered_box, leave as leave_box, newly_closed as newly_closed_box, outgoing, phase_completed, reply_sent, send_as}
use Rattle.iscsi_outbox_rules.specs.promises.Room.{places as places_of}
use Rattle.iscsi_outbox_steps.specs.State.{State, place_of}
use Rattle.iscsi_outbox_steps.specs.Steps.{closed_in, has_room, has_time, is_numbered, newly_closed, placed, send_on}
use Rattle.iscsi_outbox_law.specs.private.Pairs.{EachOf, place_in}
use Rattle.iscsi_outbox_law.specs.private.Commands.{is_under_way, link_in}
use Rattle.iscsi_outbox_law.specs.private.Sound.{IsItemSound, IsSound, is_live_in}
use Rattle.iscsi_outbox_law.specs.private.Stands.{Stands}
use Rattle.iscsi_outbox_law.proofs.general.PlaceLemmas.{AreApart, IsPlace, any_at, conns_of}
use Rattle.iscsi_outbox_law.proofs.connections.Standing.{cids_are, links_apart, stands_there}
use Rattle.iscsi_outbox_law.proofs.commands.TrackedLemmas.{any_map}
use Rattle.iscsi_outbox_law.proofs.queues.Rooms.{own_bound, room_is}
use Rattle.iscsi_outbox_law.proofs.queues.Settling.{all_replies}
use Rattle.iscsi_outbox_law.proofs.items.TakesClosed.{closes_are}
use Rattle.iscsi_outbox_law.proofs.items.TakesFacts.{closes_logout, completes_numbered, none_placed}
use Rattle.iscsi_outbox_law.proofs.items.TakesLeaves.{IsReady, lives_none, turned_by}
use Rattle.iscsi_outbox_law.proofs.items.TakesSending.{send_on_stands}
use Rattle.iscsi_outbox_law.proofs.items.TakesSent.{waits_sent}

-- ---- the reply of an item

module _ (o : Opening) (s : State) (b : Box) (h : Stands o s b) (sound : IsSound o b) (distinct : are_distinct o.session.conns ≡ true) (item : List Effect) (is : IsItemSound o b item)
    (s3 : State) (b3 : Box) (h3 : Stands o s3 b3) (ready : IsReady o b3) (tickets : List ℕ) (live : EachOf (λ k. is_live_in b k ≡ true) tickets)
    (made : (x : Option Request) → executing item ≡ x → x ≡ None → b3 ≡ leave_box None tickets b) where
  abbrev closes : List ℕ
  closes = newly_closed_box b (closed_in_box b item)

  number_is : (r : Option Request) → executing item ≡ r → is_numbered s r tickets ≡ is_numbered_box b3 r tickets
  number_is (Some x) e = refl
  number_is None e =
      completes_numbered o s b h sound.homes.ascending tickets live
      ∙ sym (any_map (λ (t : Task). contains tickets t.ticket && t.numbered) (turned_by phase_completed (contains tickets)) b.tasks
      (λ t. elim (contains tickets t.ticket) as (λ w. (contains tickets (cond w (record t { phase = phase_completed t.phase }) t).ticket && (cond w (record t { phase = phase_completed t.phase }) t).numbered) ≡ (contains tickets t.ticket && t.numbered)) [ true ↦ refl | false ↦ refl ]))
      ∙ sym (ap (λ c. is_numbered_box c None tickets) (made None e refl))

  pub reply_stands : (cid : ℕ) (reply : Reply) → first_of (filter_map reply_sent item) ≡ Some (cid, reply) → b3.time < 2 ^ 64 - 1
      → replies_waiting (send_as o (executing item) (aim_box o (executing item) reply) (closed_in_box b item) closes cid (outgoing b3 (executing item) tickets reply) b3) ≤ places_of o
      → (p : ℕ) → place_of s3 cid ≡ Some p
      → Stands o (send_on p (executing item) item (is_numbered s (executing item) tickets) (list_any (λ q. q == p) (newly_closed s (closed_in s item))) (placed reply s3) s3)
      (send_as o (executing item) (aim_box o (executing item) reply) (closed_in_box b item) closes cid (outgoing b3 (executing item) tickets reply) b3)
  reply_stands cid reply sent timed few p found =
      subst (λ ps. Stands o (send_on p (executing item) item (is_numbered s (executing item) tickets) (list_any (λ q. q == p) ps) (placed reply s3) s3)
      (send_as o (executing item) (aim_box o (executing item) reply) (closed_in_box b item) closes cid (outgoing b3 (executing item) tickets reply) b3))
      (sym (closes_are o s b h (links_apart (is_under_way o b.links) o s b h distinct) item ∙ ap (λ cs. filter_map (place_in cs) closes) same))
      (send_on_stands o s3 b3 h3 apart b conns item is.one_close ready.calm.homes.ascending tickets (is_numbered s (executing item) tickets) closes cid p found reply now roomy fewer (executing item) (number_is (executing item) refl)
      (λ aimed x e. is.logout x cid reply e sent (ap (λ r. aim_box o r reply) (sym e) ∙ aimed))
      (closes_logout o b item is cid reply sent) (λ e. none_placed o s3 b3 h3 tickets (λ k some. ap (λ c. is_live_in c k) (made (executing item) refl e) ∙ lives_none None (contains tickets) k b some)))
    where
      same : s.limits.cids ≡ s3.limits.cids
      same = cids_are (is_under_way o b.links) o s b h ∙ sym (cids_are (is_under_way o b3.links) o s3 b3 h3)

      conns : conns_of b.links ≡ conns_of b3.links
      conns = h.links.conns ∙ same ∙ sym h3.links.conns

      apart : AreApart (conns_of b3.links)
      apart = links_apart (is_under_way o b3.links) o s3 b3 h3 distinct

      at : IsPlace b3.links cid p
      at = stands_there (is_under_way o b3.links) o s3 b3 h3 cid p found

      now : has_time s3.waits ≡ true
      now = lt-ltb s3.waits.time (2 ^ 64 - 1) (let e = h3.numbers.time in omega (arith, e, timed))

      more : takes_more (link_in b3.links p) ≡ true → replies_waiting b3 + 1 ≤ places_of o
      more takes = let e = waits_sent o (executing item) (aim_box o (executing item) reply) tickets (closed_in_box b item) closes cid reply b3 (any_at takes_more b3.links cid p apart at.within at.is ∙ takes) in omega (arith, e, few)

      roomy : takes_more (link_in b3.links p) ≡ true → has_room s3.waits ≡ true
      roomy takes = room_is (is_under_way o b3.links) o s3 b3 h3 (let e = more takes in let f = own_bound o.own b3.links ready.calm.own in omega (arith, e, f)) now

      fewer : takes_more (link_in b3.links p) ≡ true → length b3.undue < places_of o
      fewer takes = let e = more takes in let f = all_replies s3.limits.cids s3.tracked [] s3.lane.items b3.undue h3.answers in omega (arith, e, f)
