-- Worked fences, computed.
use Rattle.std.specs.Prelude.{◌≡◌, ℕ, Bool, true, false, List, [], ◌∷◌, None, refl}
use Rattle.iscsi_outbox_rules.specs.rules.Boxes.{Notices, Outgoing, Link}
use Rattle.iscsi_outbox_rules.specs.rules.Run.{new_link}
use Rattle.iscsi_fences.specs.Passing.{fenced_before, takes_before, any_waits, count_waits}

abbrev entered_at : ℕ → Bool → Outgoing
entered_at time fenced = record { time = time; pdu = Notices; sent = None; ticket = None; takes = true; fenced = fenced; numbered = false; scope = []; closes = [] }

abbrev open_with : ℕ → List Outgoing → Link
open_with conn queue = record (new_link conn) { joined = true; queue = queue }

-- a PDU waits on one connection, and a fenced answer behind it on another one
abbrev two_links : List Link
two_links = open_with 1 (entered_at 3 false ∷ []) ∷ open_with 2 (entered_at 5 true ∷ []) ∷ []

pub behind_fence : any_waits (fenced_before 7) two_links ≡ true
behind_fence = refl

pub fence_itself : any_waits (fenced_before 5) two_links ≡ false
fence_itself = refl

pub before_fence : any_waits (takes_before 5) two_links ≡ true
before_fence = refl

pub both : count_waits (takes_before 9) two_links ≡ 2
both = refl
