-- Closed: nothing goes out on a connection behind the Logout Response that closes it, be that here or on another (RFC 7143
-- section 11.15).
use Rattle.std.specs.Prelude.{◌≡◌, ℕ, true, false, List, ◌∷◌, ◌++◌, Some}
use Rattle.iscsi_outbox_rules.specs.rules.Calls.{Opening}
use Rattle.iscsi_outbox_rules.specs.rules.Boxes.{Handed}
use Rattle.iscsi_outbox_rules.specs.promises.Deeds.{Deed, handed_in_deed, has_joined, was_lost, items_in}
use Rattle.iscsi_outbox_rules.specs.promises.Scope.{says_closed}

-- a connection that a reply closes gives nothing behind it
abbrev pub NoneBehind : Opening → List Deed → Type 0
NoneBehind o ds = (before between after : List Deed) (answer later : Deed) (c d : ℕ) (h g : Handed)
    → before ++ answer ∷ (between ++ later ∷ after) ≡ ds
    → handed_in_deed answer ≡ Some (c, h) → handed_in_deed later ≡ Some (d, g)
    → says_closed o (items_in before) h.out d ≡ false

-- nor does one give anything before it joined
abbrev pub NoneUnjoined : List Deed → Type 0
NoneUnjoined ds = (before after : List Deed) (handing : Deed) (c : ℕ) (h : Handed)
    → before ++ handing ∷ after ≡ ds → handed_in_deed handing ≡ Some (c, h) → has_joined before c ≡ true

-- nor after it was lost
abbrev pub NoneLost : List Deed → Type 0
NoneLost ds = (before after : List Deed) (handing : Deed) (c : ℕ) (h : Handed)
    → before ++ handing ∷ after ≡ ds → handed_in_deed handing ≡ Some (c, h) → was_lost before c ≡ false

pub record ClosedHolds (o : Opening) (ds : List Deed) : Type 0 where
  pub behind : NoneBehind o ds
  pub joined : NoneUnjoined ds
  pub lost : NoneLost ds
