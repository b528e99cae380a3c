-- A reply that its connection takes waits afterwards: room after the item is room before the reply.
use Rattle.std.proofs.Common.{◌≡◌, ℕ, ◌+◌, ◌≤◌, ◌==◌, ◌&&◌, cond, Bool, true, false, List, [], ◌∷◌, ◌++◌, Option, Some, None, sym, subst, arith}
use Rattle.std.specs.List.{list_any}
use Rattle.iscsi_wire.specs.declared.reply.Reply.{Reply}
use Rattle.iscsi_wire.specs.declared.request.Request.{Request}
use Rattle.iscsi_outbox_rules.specs.rules.Calls.{Opening}
use Rattle.iscsi_outbox_rules.specs.rules.Boxes.{Aim, Answer, Link, Box}
use Rattle.iscsi_outbox_rules.specs.rules.Words.{is_reply, replies_waiting}
use Rattle.iscsi_outbox_rules.specs.rules.Queues.{takes_more}
use Rattle.iscsi_outbox_rules.specs.rules.Items.{answer, outgoing, send_as}
use Rattle.iscsi_outbox_law.proofs.items.TakesRoom.{count_push, one_more}

pub waits_sent : (o : Opening) (r : Option Request) (aim : Option Aim) (tickets conns closes : List ℕ) (cid : ℕ) (reply : Reply) (b : Box) → list_any (λ (l : Link). l.conn == cid && takes_more l) b.links ≡ true
    → replies_waiting b + 1 ≤ replies_waiting (send_as o r aim conns closes cid (outgoing b r tickets reply) b)
waits_sent o (Some r) (Some aim) tickets conns closes cid reply b takes =
    subst (λ (w : Bool). replies_waiting b + 1 ≤ replies_waiting (cond w (record b { undue = b.undue ++ answer o b r conns closes cid (outgoing b (Some r) tickets reply) aim ∷ [] }) b)) (sym takes)
    (let e = count_push (λ (a : Answer). is_reply a.out.pdu) b.undue (answer o b r conns closes cid (outgoing b (Some r) tickets reply) aim) in omega (arith, e))
waits_sent o (Some r) None tickets conns closes cid reply b takes = let e = one_more cid (record (outgoing b (Some r) tickets reply) { time = b.time }) b.links takes in omega (arith, e)
waits_sent o None (Some aim) tickets conns closes cid reply b takes = let e = one_more cid (record (outgoing b None tickets reply) { time = b.time }) b.links takes in omega (arith, e)
waits_sent o None None tickets conns closes cid reply b takes = let e = one_more cid (record (outgoing b None tickets reply) { time = b.time }) b.links takes in omega (arith, e)

pub time_sent : (o : Opening) (r : Option Request) (aim : Option Aim) (tickets conns closes : List ℕ) (cid : ℕ) (reply : Reply) (b : Box) → b.time ≤ (send_as o r aim conns closes cid (outgoing b r tickets reply) b).time
time_sent o (Some r) (Some aim) tickets conns closes cid reply b =
    elim (list_any (λ (l : Link). l.conn == cid && takes_more l) b.links) as (λ w. b.time ≤ (cond w (record b { undue = b.undue ++ answer o b r conns closes cid (outgoing b (Some r) tickets reply) aim ∷ [] }) b).time) [
      | true ↦ (let z : b.time ≤ b.time = omega arith in z)
      | false ↦ (let z : b.time ≤ b.time = omega arith in z)
    ]
time_sent o (Some r) None tickets conns closes cid reply b = (let z : b.time ≤ b.time + 1 = omega arith in z)
time_sent o None (Some aim) tickets conns closes cid reply b = (let z : b.time ≤ b.time + 1 = omega arith in z)
time_sent o None None tickets conns closes cid reply b = (let z : b.time ≤ b.time + 1 = omega arith in z)
