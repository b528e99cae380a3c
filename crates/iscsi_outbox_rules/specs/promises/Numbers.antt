-- Numbers: StatSN in sequence, ExpCmdSN and MaxCmdSN of the moment, and never back (RFC 7143 section 4.2.2).
use Rattle.std.specs.Prelude.{◌≡◌, ◌≤◌, ◌<◌, ◌^◌, ℕ, ◌+◌, ◌-◌, Bool, true, false, List, [], ◌∷◌, ◌++◌, length, map, filter_map, Option, Some, None, if◌then◌else◌}
use Rattle.iscsi_wire.specs.Serial.{wire, lift, number_of_first}
use Rattle.iscsi_rules.specs.declared.effect.Numbers.{Numbers as SessionNumbers}
use Rattle.iscsi_rules.specs.rules.Trace.{first_of}
use Rattle.iscsi_outbox_rules.specs.rules.Calls.{Opening, Call, Takes, Joins, Puts, Stops, Nexts, Writes, Hears, Loses, Clears}
use Rattle.iscsi_outbox_rules.specs.rules.Boxes.{Pdu, Replies, Owns, Pings, Notices, Handed}
use Rattle.iscsi_outbox_rules.specs.rules.Own.{own_takes}
use Rattle.iscsi_outbox_rules.specs.promises.Deeds.{Deed, handed_in_deed, handed_on, is_join_of}

-- it takes a StatSN: a response of the session, a Text Response, an Asynchronous Message
abbrev pub takes_stat_sn : Pdu → Bool
takes_stat_sn (Replies reply) = true
takes_stat_sn (Owns p) = own_takes p
takes_stat_sn (Pings tag) = false
takes_stat_sn Notices = false

-- the StatSNs of a connection's PDUs from this number on: one that takes none shows the next one
abbrev pub in_sequence : ℕ → List Handed → List ℕ
in_sequence n [] = []
in_sequence n (h ∷ hs) = wire n ∷ in_sequence (if takes_stat_sn h.out.pdu then n + 1 else n) hs

abbrev pub stat_sn_of_join : Call → ℕ
stat_sn_of_join (Joins conn stat_sn) = stat_sn
stat_sn_of_join _ = 0

-- the StatSN with which a connection joined
abbrev pub joined_with : ℕ → List Deed → Option ℕ
joined_with conn ds = first_of (filter_map (λ (d : Deed). if is_join_of conn d then Some (stat_sn_of_join d.0) else None) ds)

-- the numbers of the last event that was taken
abbrev pub numbers_after : SessionNumbers → List Deed → SessionNumbers
numbers_after n [] = n
numbers_after n (d ∷ ds) = numbers_after (elim (d.0) [
  | Takes effects numbers ↦ numbers
  | Puts p ↦ n
  | Stops ticket ↦ n
  | Nexts c ↦ n
  | Writes c ↦ n
  | Hears c stat_sn tag ↦ n
  | Joins c stat_sn ↦ n
  | Loses c ↦ n
  | Clears unit ↦ n
]) ds

abbrev pub first_numbers : Opening → SessionNumbers
first_numbers o = record { exp = o.session.first; max = wire (o.session.first + o.session.window - 1) }

-- the StatSNs of each connection are in sequence from the one with which it joined
abbrev pub CountStatSns : List Deed → Type 0
CountStatSns ds = (conn first : ℕ) → joined_with conn ds ≡ Some first
    → map (λ (h : Handed). h.stat_sn) (handed_on conn ds) ≡ in_sequence first (handed_on conn ds)

-- a PDU shows ExpCmdSN as the last event that was taken left it
abbrev pub ShowsExp : Opening → List Deed → Type 0
ShowsExp o ds = (before after : List Deed) (handing : Deed) (c : ℕ) (h : Handed)
    → before ++ handing ∷ after ≡ ds → handed_in_deed handing ≡ Some (c, h) → h.exp ≡ (numbers_after (first_numbers o) before).exp

-- MaxCmdSN doesn't go back, on any connection: of two PDUs with fewer than 2 ^ 19 calls between them, each of which moves it by
-- less than 2 ^ 12, so that no number of 32 bits comes round. Numbers that no session gives could move it by more, so it holds
-- under `FollowsFlow` alone
abbrev pub GoesOnward : List Deed → Type 0
GoesOnward ds = (before between after : List Deed) (handing later : Deed) (c d : ℕ) (h g : Handed)
    → before ++ handing ∷ (between ++ later ∷ after) ≡ ds
    → handed_in_deed handing ≡ Some (c, h) → handed_in_deed later ≡ Some (d, g)
    → length between < 2 ^ 19
    → number_of_first h.max ≤ lift (number_of_first h.max) g.max

pub record NumbersHold (o : Opening) (ds : List Deed) : Type 0 where
  pub stat_sns : CountStatSns ds
  pub exp : ShowsExp o ds
  pub onward : GoesOnward ds
