-- Worked connections, computed.
use Rattle.std.specs.Prelude.{◌≡◌, Bool, true, false, [], drop, None, refl}
use Rattle.std.specs.List.{list_any}
use Rattle.iscsi_wire.specs.Replies.{NO_TAG}
use Rattle.iscsi_outbox_rules.specs.rules.Boxes.{Pdu, Pings, Notices, Handed, Link}
use Rattle.iscsi_outbox_rules.specs.rules.Handing.{takes_handed}
use Rattle.iscsi_outbox_rules.specs.rules.Run.{new_link, link_joined, link_heard}
use Rattle.iscsi_arrivals.specs.Counts.{Counts, new_counts, takes_more_by, joined_by, stamp_by, handed_by, tag_of_ping, pinged_by, written_by, number_heard, heard_by, has_arrived_by, is_written_by, is_busy_by}
use Rattle.iscsi_arrivals.specs.Stamps.{handed_out, stat_sn_at, pings_at}

-- ---- numbers

pub first_tag : tag_of_ping 0 ≡ 0x8000_0000
first_tag = refl

pub last_tag : tag_of_ping 0x7fff_fffe ≡ 0xffff_fffe
last_tag = refl

pub first_tag_again : tag_of_ping 0x7fff_ffff ≡ 0x8000_0000
first_tag_again = refl

-- the next StatSN is 5
pub all_acknowledged : number_heard 0x1_0000_0005 5 ≡ 0x1_0000_0005
all_acknowledged = refl

pub not_handed_out_yet : number_heard 0x1_0000_0005 6 ≡ 0
not_handed_out_yet = refl

pub an_older_one : number_heard 0x1_0000_0005 3 ≡ 0x1_0000_0003
an_older_one = refl

pub across_the_wrap : number_heard 0x2_0000_0001 0xffff_ffff ≡ 0x1_ffff_ffff
across_the_wrap = refl

pub nearly_half_behind : number_heard 0x2_0000_0005 0x8000_0007 ≡ 0x1_8000_0007
nearly_half_behind = refl

pub half_behind : number_heard 0x2_0000_0005 0x8000_0006 ≡ 0
half_behind = refl

-- ---- counts

-- joined with StatSN 1; a PDU takes it, one takes none, and one takes 2
abbrev joined : Counts
joined = joined_by 1 new_counts

-- before, nothing enters its queue
pub takes_nothing : takes_more_by new_counts ≡ false
takes_nothing = refl

pub takes_more_now : takes_more_by joined ≡ true
takes_more_now = refl

abbrev after_one : Counts
after_one = handed_by true false joined

abbrev after_two : Counts
after_two = handed_by false false after_one

abbrev after_three : Counts
after_three = handed_by true false after_two

pub next_one : after_three.next ≡ 0x1_0000_0003
next_one = refl

-- the first one is acknowledged: what showed StatSN 2 without taking it isn't known to have arrived
pub first_arrived : has_arrived_by (stamp_by joined) (heard_by 2 NO_TAG after_three) ≡ true
first_arrived = refl

pub second_has_not : has_arrived_by (stamp_by after_one) (heard_by 2 NO_TAG after_three) ≡ false
second_has_not = refl

-- StatSN 2 is acknowledged, which was taken behind it
pub second_arrived : has_arrived_by (stamp_by after_one) (heard_by 3 NO_TAG after_three) ≡ true
second_arrived = refl

-- a ping stands behind all three, and its answer tells of all, whatever its ExpStatSN is
pub all_arrived : has_arrived_by (stamp_by after_two) (heard_by 1 0x8000_0000 (pinged_by after_three)) ≡ true
all_arrived = refl

pub not_what_follows : has_arrived_by (stamp_by (pinged_by after_three)) (heard_by 1 0x8000_0000 (pinged_by after_three)) ≡ false
not_what_follows = refl

pub another_tag : has_arrived_by (stamp_by after_two) (heard_by 1 0x8000_0001 (pinged_by after_three)) ≡ false
another_tag = refl

-- a ping is known to have arrived, too, where a StatSN behind it is acknowledged
pub by_number : (heard_by 4 NO_TAG (handed_by true false (pinged_by after_three))).answered ≡ 1
by_number = refl

pub not_by_number : (heard_by 3 NO_TAG (handed_by true false (pinged_by after_three))).answered ≡ 0
not_by_number = refl

-- two are written: what takes no StatSN keeps nothing busy
pub written_two : is_written_by (stamp_by after_one) (written_by (written_by after_three)) ≡ true
written_two = refl

pub busy_still : is_busy_by false (written_by (written_by after_three)) ≡ true
busy_still = refl

pub busy_no_more : is_busy_by false (written_by (handed_by false false after_one)) ≡ false
busy_no_more = refl

-- ---- stamps

abbrev handed_as : Pdu → Bool → Handed
handed_as pdu takes = record {
  out = record { time = 0; pdu = pdu; sent = None; ticket = None; takes = takes; fenced = false; numbered = false; scope = []; closes = [] };
  stat_sn = 0;
  exp = 0;
  max = 0;
}

-- a PDU that takes a StatSN, a ping and one that takes none
abbrev three_handed : Link
three_handed = handed_out (handed_as Notices false) (handed_out (handed_as (Pings 0x8000_0000) false) (handed_out (handed_as Notices true) (link_joined 1 (new_link 7))))

pub shown_first : stat_sn_at three_handed 0 ≡ 0x1_0000_0001
shown_first = refl

pub shown_last : stat_sn_at three_handed 2 ≡ 0x1_0000_0002
shown_last = refl

pub pings_before : pings_at three_handed 1 ≡ 0
pings_before = refl

pub pings_behind : pings_at three_handed 2 ≡ 1
pings_behind = refl

pub last_taking : list_any takes_handed (drop 1 three_handed.handed) ≡ false
last_taking = refl

-- what the rules say of it, and what its stamp does
pub two_arrived : (link_heard 1 0x8000_0000 three_handed).arrived ≡ 2
two_arrived = refl
