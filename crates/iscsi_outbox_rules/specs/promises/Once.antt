-- Each once: every reply of the session's log goes out at most once, on its connection, in the log's order but for answers that
-- had to wait.
use Rattle.std.specs.Prelude.{◌≡◌, ◌<◌, ℕ, List, ◌∷◌, ◌++◌, Some, None, Contains}
use Rattle.iscsi_wire.specs.declared.reply.Reply.{Reply}
use Rattle.iscsi_outbox_rules.specs.rules.Calls.{Opening}
use Rattle.iscsi_outbox_rules.specs.rules.Boxes.{Replies, Handed}
use Rattle.iscsi_outbox_rules.specs.promises.Deeds.{Deed, handed_in_deed, items_in, handed_in}
use Rattle.iscsi_outbox_rules.specs.promises.Scope.{Sent, nth, sent_by, sent_as, aim_of_sent}

-- a reply that goes out is one that the session sent on this connection
abbrev pub SendsWhatWasSent : List Deed → Type 0
SendsWhatWasSent ds = (before after : List Deed) (handing : Deed) (c : ℕ) (h : Handed) (reply : Reply)
    → before ++ handing ∷ after ≡ ds → handed_in_deed handing ≡ Some (c, h) → h.out.pdu ≡ Replies reply
    → (place : ℕ) × (s : Sent) × (h.out.sent ≡ Some place) × (nth place (sent_by (items_in before)) ≡ Some s) × (s.conn ≡ c) × (s.reply ≡ reply)

-- and doesn't go out again
abbrev pub GoesOnce : List Deed → Type 0
GoesOnce ds = (before between after : List Deed) (handing later : Deed) (c d : ℕ) (h g : Handed) (place : ℕ)
    → before ++ handing ∷ (between ++ later ∷ after) ≡ ds
    → handed_in_deed handing ≡ Some (c, h) → handed_in_deed later ≡ Some (d, g)
    → h.out.sent ≡ Some place → g.out.sent ≡ Some place → ⊥

-- those of a connection that didn't have to wait go out in the log's order
abbrev pub GoesInOrder : Opening → List Deed → Type 0
GoesInOrder o ds = (before between after : List Deed) (handing later : Deed) (c : ℕ) (h g : Handed) (place behind : ℕ) (s r : Sent)
    → before ++ handing ∷ (between ++ later ∷ after) ≡ ds
    → handed_in_deed handing ≡ Some (c, h) → handed_in_deed later ≡ Some (c, g)
    → h.out.sent ≡ Some place → g.out.sent ≡ Some behind
    → sent_as (items_in before) h.out ≡ Some s → sent_as (items_in (before ++ handing ∷ between)) g.out ≡ Some r
    → aim_of_sent o s ≡ None → aim_of_sent o r ≡ None → place < behind

-- on all connections they entered their queues in the log's order
abbrev pub EntersInOrder : Opening → List Deed → Type 0
EntersInOrder o ds = (c d : ℕ) (h g : Handed) (place behind : ℕ) (s r : Sent)
    → Contains (handed_in ds) (c, h) → Contains (handed_in ds) (d, g)
    → h.out.sent ≡ Some place → g.out.sent ≡ Some behind
    → sent_as (items_in ds) h.out ≡ Some s → sent_as (items_in ds) g.out ≡ Some r
    → aim_of_sent o s ≡ None → aim_of_sent o r ≡ None → place < behind → h.out.time < g.out.time

pub record OnceHolds (o : Opening) (ds : List Deed) : Type 0 where
  pub sent : SendsWhatWasSent ds
  pub once : GoesOnce ds
  pub order : GoesInOrder o ds
  pub moments : EntersInOrder o ds
