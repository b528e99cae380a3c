-- Worked connections, computed: three, of which the second and the third have joined.
use Rattle.std.specs.Prelude.{◌≡◌, true, false, Some, None, refl}
use Rattle.iscsi_arrivals.specs.Counts.{handed_by, joined_by, written_by}
use Rattle.iscsi_links.specs.Links.{Links, busy_in, changed, closed, first_usable, is_busy_elsewhere, lost, opened}

abbrev pub three : Links
three = changed 2 (joined_by 1) (changed 1 (joined_by 1) (opened 3 false))

pub none_first : first_usable (opened 3 false) ≡ None
none_first = refl

pub second_first : first_usable three ≡ Some 1
second_first = refl

pub third_next : first_usable (changed 1 closed three) ≡ Some 2
third_next = refl

pub third_stays : first_usable (changed 2 lost three) ≡ Some 1
third_stays = refl

-- a PDU that takes a StatSN is under way on the third, until it is written
abbrev pub busy : Links
busy = changed 2 (handed_by true false) three

pub elsewhere : is_busy_elsewhere 1 busy ≡ true
elsewhere = refl

pub itself_alone : is_busy_elsewhere 2 busy ≡ false
itself_alone = refl

pub written : is_busy_elsewhere 1 (changed 2 written_by busy) ≡ false
written = refl

pub not_taking : busy_in false (changed 2 (handed_by false false) three).links ≡ 0
not_taking = refl
