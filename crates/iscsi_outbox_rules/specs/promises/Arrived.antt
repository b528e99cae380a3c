-- When a PDU that was handed out is written, and when it is known to have arrived (RFC 7143 sections 4.2.2.2, 11.18 and 11.19).
use Rattle.std.specs.Prelude.{ℕ, ◌+◌, ◌==◌, ◌&&◌, ◌||◌, not, nat_lt, nat_le, Bool, false, List, [], ◌∷◌, ◌++◌, length, Some, None, if◌then◌else◌}
use Rattle.std.specs.List.{list_any}
use Rattle.iscsi_wire.specs.Serial.{wire, lift, number_of_first}
use Rattle.iscsi_outbox_rules.specs.rules.Calls.{Opening, Call, Writes, Hears}
use Rattle.iscsi_outbox_rules.specs.rules.Boxes.{Replies, Owns, Pings, Notices, Handed}
use Rattle.iscsi_outbox_rules.specs.promises.Deeds.{Deed, handed_in_deed, is_handed_on, handed_on, was_lost}

-- a header that arrived on the connection acknowledges this StatSN, and not one that wasn't handed out yet, of which the next
-- one is told
abbrev pub acknowledges : ℕ → ℕ → ℕ → Call → Bool
acknowledges conn stat_sn next (Hears c exp_stat_sn tag) =
    c == conn && nat_lt (number_of_first stat_sn) (lift (number_of_first stat_sn) exp_stat_sn)
    && nat_le (lift (number_of_first stat_sn) exp_stat_sn) (lift (number_of_first stat_sn) next)
acknowledges conn stat_sn next _ = false

-- it answers the ping with this transfer tag
abbrev pub answers : ℕ → ℕ → Call → Bool
answers conn tag (Hears c exp_stat_sn t) = c == conn && t == tag
answers conn tag _ = false

abbrev pub is_write_of : ℕ → Call → Bool
is_write_of conn (Writes c) = c == conn
is_write_of conn _ = false

-- how many PDUs of the connection were written; a report that one more was than were handed out says nothing
abbrev pub writes_from : ℕ → ℕ → ℕ → List Deed → ℕ
writes_from conn handed written [] = written
writes_from conn handed written (d ∷ ds) =
    writes_from conn (if is_handed_on conn d then handed + 1 else handed) (if is_write_of conn d.0 && nat_lt written handed then written + 1 else written) ds

abbrev pub writes_on : ℕ → List Deed → ℕ
writes_on conn ds = writes_from conn 0 0 ds

-- the StatSN behind the last one that was handed out on the connection
abbrev pub next_behind : ℕ → ℕ → Deed → ℕ
next_behind conn next d = elim (handed_in_deed d) [ Some g ↦ if g.0 == conn && g.1.out.takes then wire (g.1.stat_sn + 1) else next | None ↦ next ]

-- it is acknowledged by one of these calls, `next` being the StatSN that the next PDU takes before them
abbrev pub is_acknowledged : ℕ → ℕ → ℕ → List Deed → Bool
is_acknowledged conn stat_sn next [] = false
is_acknowledged conn stat_sn next (d ∷ ds) =
    acknowledges conn stat_sn next d.0 || is_acknowledged conn stat_sn (next_behind conn next d) ds

-- the calls since show that this PDU arrived: it took a StatSN that was acknowledged, or is a ping that was answered
abbrev pub shows_arrival : ℕ → Handed → List Deed → Bool
shows_arrival conn h since =
    (h.out.takes && is_acknowledged conn h.stat_sn (wire (h.stat_sn + 1)) since)
    || elim (h.out.pdu) [ Pings tag ↦ list_any (λ (d : Deed). answers conn tag d.0) since | Replies reply ↦ false | Owns p ↦ false | Notices ↦ false ]

-- the calls show of a PDU on this connection that was handed out by one of them that it arrived
abbrev pub shows_later : ℕ → List Deed → Bool
shows_later conn [] = false
shows_later conn (d ∷ since) = elim (handed_in_deed d) [ Some g ↦ g.0 == conn && shows_arrival conn g.1 since | None ↦ false ] || shows_later conn since

-- a PDU that was handed out on the connection is known to have arrived, by the calls since: it or one behind it is
abbrev pub has_arrived : ℕ → Handed → List Deed → Bool
has_arrived conn h since = shows_arrival conn h since || shows_later conn since

-- the PDU that was handed out by this call is written: so many were handed out before it, and more were written by now
abbrev pub is_written : ℕ → List Deed → Deed → List Deed → Bool
is_written conn before handing since = nat_lt (length (handed_on conn before)) (writes_on conn (before ++ handing ∷ since))

-- it isn't under way any more: its connection was lost, or it is known to have arrived, or, where that isn't looked for, written
abbrev pub is_through : Opening → ℕ → List Deed → Deed → Handed → List Deed → Bool
is_through o conn before handing h since =
    was_lost since conn || has_arrived conn h since || (not o.acknowledged && is_written conn before handing since)
