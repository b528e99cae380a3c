-- What a linked set keeps beside its commands, so that none of them is tested again. For private contracts alone.
use Rattle.std.specs.Prelude.{◌≡◌, ℕ, ℤ, ◌-◌, ◌<◌, ◌≤◌, ◌==◌, ◌&&◌, not, Bool, true, false, List, length, map, filter, slice_index_or, Option, Some, MatchOption, All, position, if◌then◌else◌}
use Rattle.iscsi_tasks.specs.declared.task.Attr.{Attr}
use Rattle.iscsi_tasks.specs.declared.task.Task.{Task}
use Rattle.iscsi_tasks.specs.declared.task.Attr.TheVariants.{Simple, Ordered, Head}
use Rattle.iscsi_tasks.specs.declared.member.Member.{Member}
use Rattle.iscsi_tasks.specs.declared.marks.Marks.{Marks}
use Rattle.iscsi_tasks.specs.Rules.{is_head_of, is_ordered_of}
use Rattle.iscsi_tasks.specs.Sets.{is_new}
use Rattle.iscsi_tasks.specs.Counted.{Counts, IsCounted, IsSettled, IsCoveredFrom, IsAscendingTo, is_ordered_in, plus_one_if}
use Rattle.iscsi_tasks.specs.Chains.{AreApart}

-- the marks are the slots at the places that counts of the set tell
pub record IsMarked (m : Marks) (slots : List ℕ) (list : List Member) : Type 0 where
  pub counts : Counts
  pub counted : IsCounted counts list
  pub heads : m.heads ≡ counts.heads
  pub ordered : m.ordered ≡ slice_index_or slots counts.ordered_at 0
  pub dormant : m.dormant ≡ slice_index_or slots counts.enabled_to 0
  pub new_from : m.new_from ≡ slice_index_or slots counts.new_from 0
  pub new_to : m.new_to ≡ slice_index_or slots counts.new_to 0
  pub apart : AreApart slots
  pub long : length slots ≡ length list

-- a command that enters behind so many others is free
abbrev pub is_free_by : Marks → ℕ → Attr → Bool
is_free_by m len Head = true
is_free_by m len Ordered = len == 0
is_free_by m len Simple = m.heads == 0 && m.ordered == 0

-- no command is enabled and wasn't given
abbrev pub is_none_marked : Marks → Bool
is_none_marked m = m.new_from == m.new_to

-- a mark, once the command in a slot left, behind which another one stood
abbrev pub moved_off : ℕ → ℕ → ℕ → ℕ
moved_off mark slot next = if mark == slot then next else mark

-- one command more, in this slot
abbrev pub pushed_by : Marks → Attr → Bool → Bool → ℕ → Marks
pushed_by m attr enabled given slot = record {
  heads = plus_one_if (is_head_of attr) m.heads;
  ordered = if m.ordered == 0 && is_ordered_of attr then slot else m.ordered;
  dormant = if m.dormant == 0 && not enabled then slot else m.dormant;
  new_from = if (enabled && not given) && m.new_from == 0 then slot else m.new_from;
  new_to = if enabled && not given then 0 else m.new_to;
}

-- the command in this slot left, and the oldest ORDERED one is in that slot now
abbrev pub left_by : Marks → ℕ → ℕ → Attr → ℕ → Marks
left_by m slot next attr ordered = record {
  heads = if is_head_of attr then m.heads - 1 else m.heads;
  ordered = ordered;
  dormant = moved_off m.dormant slot next;
  new_from = moved_off m.new_from slot next;
  new_to = moved_off m.new_to slot next;
}

-- the commands before this slot are enabled too, and the new ones are from one slot on and before another one
abbrev pub enabled_by : Marks → ℕ → ℕ → ℕ → Marks
enabled_by m end new_from new_to = record {
  heads = m.heads;
  ordered = m.ordered;
  dormant = end;
  new_from = new_from;
  new_to = new_to;
}

-- ---- what is found

-- the command in this slot has this ticket
pub record HasTicket (slots : List ℕ) (list : List Member) (ticket slot : ℕ) : Type 0 where
  pub place : ℕ
  pub inside : place < length list
  pub there : slice_index_or slots place 0 ≡ slot
  pub ticket_is : (d : Member) → (slice_index_or list place d).task.ticket ≡ ticket

-- the slot of the command with this ticket, or none
abbrev pub IsSlotOf : List ℕ → List Member → ℕ → Option ℕ → Type 0
IsSlotOf slots list ticket r = MatchOption r (All (λ m. (m.task.ticket == ticket) ≡ false) list) (λ slot. HasTicket slots list ticket slot)

-- the command in this slot is the oldest one that is new
pub record IsFirstNew (slots : List ℕ) (list : List Member) (slot : ℕ) : Type 0 where
  pub place : ℕ
  pub inside : place < length list
  pub there : slice_index_or slots place 0 ≡ slot
  pub first : position is_new list ≡ Some place

-- the commands before this slot are no ORDERED ones
pub record IsPastNone (slots : List ℕ) (list : List Member) (slot : ℕ) : Type 0 where
  pub place : ℕ
  pub within : place ≤ length list
  pub there : slot ≡ slice_index_or slots place 0
  pub none : (k : ℕ) (d : Member) → k < place → is_ordered_in (slice_index_or list k d) ≡ false

-- from one slot on, up to another one
pub record IsSpan (slots : List ℕ) (from to : ℕ) : Type 0 where
  pub low : ℕ
  pub high : ℕ
  pub ordered : low ≤ high
  pub within : high ≤ length slots
  pub from_is : from ≡ slice_index_or slots low 0
  pub to_is : to ≡ slice_index_or slots high 0

-- ---- what holds of every linked set: the marks are right, it holds no more than its depth, whose room it has, no command
-- waits to be enabled, none is covered by a function with a number below the one that the set keeps, and where it says
-- that the numbers go up along it, they do
pub record IsKeptLinked (depth room : ℕ) (number : ℤ) (ascends : Bool) (most : ℤ) (m : Marks) (slots : List ℕ) (list : List Member) : Type 0 where
  pub marked : IsMarked m slots list
  pub least : 1 ≤ depth
  pub within : length list ≤ depth
  pub room_left : depth ≤ room
  pub few : depth ≤ 1024
  pub settled : IsSettled list
  pub covered_from : IsCoveredFrom number (map (λ m. m.task) list)
  pub front : ascends ≡ true → IsAscendingTo most list

-- ---- what leaves

-- the tickets of the covered commands
abbrev pub covered_tickets : (Task → Bool) → List Member → List ℕ
covered_tickets covers list = map (λ t. t.ticket) (filter covers (map (λ m. m.task) list))
