-- Worked lists, computed: two lists over three slots.
use Rattle.std.specs.Prelude.{◌≡◌, [], ◌∷◌, replicate, refl, Some}
use Rattle.iscsi_lists.specs.Lists.{Linked, linked, freed, moved, counted, last_of, total}

-- no slot is used yet: the last one is taken first
abbrev pub opened : Linked
opened = linked (counted 1 3) (replicate 2 []) 3

pub all_free : opened ≡ linked (1 ∷ 2 ∷ 3 ∷ []) ([] ∷ [] ∷ []) 3
all_free = refl

pub last_one_is_taken : last_of opened.free ≡ Some 3
last_one_is_taken = refl

-- all three are put to the first list
abbrev pub filled : Linked
filled = moved 1 0 (moved 2 0 (moved 3 0 opened))

pub in_order : filled ≡ linked [] ((3 ∷ 2 ∷ 1 ∷ []) ∷ [] ∷ []) 3
in_order = refl

pub three : total filled.lists ≡ 3
three = refl

-- one from the middle goes to the other list, and then back, to the end
abbrev pub parted : Linked
parted = moved 2 1 filled

pub from_the_middle : parted ≡ linked [] ((3 ∷ 1 ∷ []) ∷ (2 ∷ []) ∷ []) 3
from_the_middle = refl

pub back_at_the_end : moved 2 0 parted ≡ linked [] ((3 ∷ 1 ∷ 2 ∷ []) ∷ [] ∷ []) 3
back_at_the_end = refl

-- one goes to the end of its own list
pub to_its_own_end : moved 3 0 filled ≡ linked [] ((2 ∷ 1 ∷ 3 ∷ []) ∷ [] ∷ []) 3
to_its_own_end = refl

-- the slot that was freed last is taken next
pub freed_last : freed 2 (freed 3 parted) ≡ linked (3 ∷ 2 ∷ []) ((1 ∷ []) ∷ [] ∷ []) 3
freed_last = refl

pub taken_next : last_of (freed 2 (freed 3 parted)).free ≡ Some 2
taken_next = refl
