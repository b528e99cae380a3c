-- What `next` of a connection would give, and whether one is closed.
use Rattle.std.specs.Prelude.{ℕ, nat_lt, Bool, true, false, slice_index_or}
use Rattle.iscsi_links.specs.Links.{closed_in}
use Rattle.iscsi_outbox_steps.specs.declared.given.Given.{Given}
use Rattle.iscsi_outbox_steps.specs.declared.given.Given.TheVariants.{Hands, Nothing, IsOver}
use Rattle.iscsi_outbox_steps.specs.State.{State}

-- the CID of the connection at a place
abbrev pub cid_at : State → ℕ → ℕ
cid_at s conn = slice_index_or s.limits.cids conn 0

-- a PDU is handed out
abbrev pub gives_pdu : Given → Bool
gives_pdu (Hands handed) = true
gives_pdu Nothing = false
gives_pdu IsOver = false

-- nothing goes out there any more
abbrev pub gives_no_more : Given → Bool
gives_no_more (Hands handed) = false
gives_no_more Nothing = false
gives_no_more IsOver = true

-- a Logout closed a connection
abbrev pub has_closed : State → Bool
has_closed s = nat_lt 0 (closed_in s.links)
