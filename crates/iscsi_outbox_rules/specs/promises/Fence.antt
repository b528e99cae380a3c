-- The response fence of functions of several tasks (RFC 7143 section 4.2.2.3.4), and of ABORT TASKs that found none: with several
-- connections.
use Rattle.std.specs.Prelude.{◌≡◌, ◌≢◌, ◌<◌, ℕ, ◌==◌, ◌||◌, Bool, true, false, List, ◌∷◌, ◌++◌, Some, None, not}
use Rattle.std.specs.List.{list_any}
use Rattle.iscsi_rules.specs.declared.effect.Effect.{Effect}
use Rattle.iscsi_outbox_rules.specs.rules.Calls.{Opening}
use Rattle.iscsi_outbox_rules.specs.rules.Boxes.{Handed}
use Rattle.iscsi_outbox_rules.specs.promises.Deeds.{Deed, handed_in_deed, handed_in, items_in, has_joined, was_lost}
use Rattle.iscsi_outbox_rules.specs.promises.Arrived.{is_through}
use Rattle.iscsi_outbox_rules.specs.promises.Scope.{Sent, nth, sent_by, sent_as, aim_of_sent, covers_completed, cut_by}

-- the answer to a function of several tasks, or to an ABORT TASK that found none
abbrev pub is_fenced : Opening → List (List Effect) → Handed → Bool
is_fenced o items h = elim (sent_as items h.out) [
  | Some s ↦ elim (aim_of_sent o s) [ Some about ↦ covers_completed about s.reply | None ↦ false ]
  | None ↦ false
]

-- the reply with this place in the log was handed out
abbrev pub is_handed : ℕ → List Deed → Bool
is_handed place ds = list_any (λ (g : ℕ × Handed). elim (g.1.out.sent) [ Some k ↦ k == place | None ↦ false ]) (handed_in ds)

-- as it goes out, what took a StatSN before it on another connection isn't under way any more
abbrev pub FenceBefore : Opening → List Deed → Type 0
FenceBefore o ds = (earlier since after : List Deed) (handing answer : Deed) (c d : ℕ) (h g : Handed)
    → earlier ++ handing ∷ (since ++ answer ∷ after) ≡ ds
    → handed_in_deed answer ≡ Some (c, h) → is_fenced o (items_in (earlier ++ handing ∷ since)) h ≡ true
    → handed_in_deed handing ≡ Some (d, g) → d ≢ c → g.out.takes ≡ true
    → is_through o d earlier handing g since ≡ true

-- what takes a StatSN goes out behind it on another connection only when it is known to have arrived, where that is looked for, or
-- its own connection is lost
abbrev pub FenceBehind : Opening → List Deed → Type 0
FenceBehind o ds = (earlier since after : List Deed) (answer handing : Deed) (c d : ℕ) (h g : Handed)
    → earlier ++ answer ∷ (since ++ handing ∷ after) ≡ ds
    → handed_in_deed answer ≡ Some (c, h) → is_fenced o (items_in earlier) h ≡ true
    → handed_in_deed handing ≡ Some (d, g) → d ≢ c → g.out.takes ≡ true → o.acknowledged ≡ true
    → is_through o c earlier answer h since ≡ true

-- and no other way: of it and what takes a StatSN on another connection, the one that entered its queue first goes first
abbrev pub FenceInOrder : Opening → List Deed → Type 0
FenceInOrder o ds = (earlier since after : List Deed) (handing later : Deed) (c d : ℕ) (h g : Handed)
    → earlier ++ handing ∷ (since ++ later ∷ after) ≡ ds
    → handed_in_deed handing ≡ Some (c, h) → handed_in_deed later ≡ Some (d, g) → d ≢ c → h.out.takes ≡ true → g.out.takes ≡ true
    → is_fenced o (items_in earlier) h || is_fenced o (items_in (earlier ++ handing ∷ since)) g ≡ true
    → h.out.time < g.out.time

-- a reply that stands before it in the log, and didn't have to wait, goes out before it, unless its connection hadn't joined as it
-- was sent, was lost, or closed by another one's Logout. `earlier` are the deeds before it was sent, or some of them
abbrev pub FenceFirst : Opening → List Deed → Type 0
FenceFirst o ds = (earlier since after : List Deed) (answer : Deed) (c : ℕ) (h : Handed) (place fenced : ℕ) (s : Sent)
    → let all = earlier ++ since in all ++ answer ∷ after ≡ ds
    → handed_in_deed answer ≡ Some (c, h) → is_fenced o (items_in all) h ≡ true → h.out.sent ≡ Some fenced
    → place < fenced → nth place (sent_by (items_in earlier)) ≡ None → nth place (sent_by (items_in all)) ≡ Some s → aim_of_sent o s ≡ None
    → is_handed place all || not (has_joined earlier s.conn) || was_lost all s.conn || cut_by (items_in all) s.conn ≡ true

pub record FenceHolds (o : Opening) (ds : List Deed) : Type 0 where
  pub before : FenceBefore o ds
  pub behind : FenceBehind o ds
  pub in_order : FenceInOrder o ds
  pub first : FenceFirst o ds
