-- How the members of a linked set are kept: each in a slot, with the slots of those beside it. For private contracts alone.
use Rattle.std.specs.Prelude.{◌≡◌, ℕ, zero, suc, pos, false, ◌+◌, ◌-◌, ◌<◌, ◌≤◌, ◌⊎◌, ◌++◌, List, [], ◌∷◌, length, slice_index_or, slice_set}
use Rattle.iscsi_tasks.specs.declared.task.Attr.TheVariants.{Simple}
use Rattle.iscsi_tasks.specs.declared.task.Task.{Task}
use Rattle.iscsi_tasks.specs.declared.member.Member.{Member}
use Rattle.iscsi_tasks.specs.declared.node.Node.{Node}
use Rattle.iscsi_slots.specs.Slots.{times, AreShared}

-- the members, the oldest first, the slot of each, and how many there may be
pub record Chained : Type 0 where
  pub slots : List ℕ
  pub members : List Member
  pub room : ℕ

abbrev pub chained : List ℕ → List Member → ℕ → Chained
chained slots members room = record { slots = slots; members = members; room = room }

-- each slot stands there once, and none is that of no command
pub record AreApart (slots : List ℕ) : Type 0 where
  pub once : (slot : ℕ) → times slot slots ≤ 1
  pub some : times 0 slots ≡ 0

-- any member and any node, which stand for none
abbrev pub BLANK_TASK : Task
BLANK_TASK = record { ticket = 0; conn = 0; itt = 0; attr = Simple; immediate = false; pos = pos 0; event = 0 }

abbrev pub BLANK : Member
BLANK = record { task = BLANK_TASK; enabled = false; given = false }

abbrev pub BLANK_NODE : Node
BLANK_NODE = record { task = BLANK_TASK; enabled = false; given = false; before = 0; after = 0 }

abbrev pub node_at : List Node → ℕ → Node
node_at nodes slot = slice_index_or nodes slot BLANK_NODE

abbrev pub after_of : List Node → ℕ → ℕ
after_of nodes slot = (node_at nodes slot).after

abbrev pub before_of : List Node → ℕ → ℕ
before_of nodes slot = (node_at nodes slot).before

abbrev pub member_of : Node → Member
member_of n = record { task = n.task; enabled = n.enabled; given = n.given }

abbrev pub member_at : List Node → ℕ → Member
member_at nodes slot = member_of (node_at nodes slot)

-- ---- the order of the slots

-- so many slots from one on, each behind the one before it
abbrev pub order_from : List Node → ℕ → ℕ → List ℕ
order_from nodes slot zero = []
order_from nodes slot (suc n) = slot ∷ order_from nodes (after_of nodes slot) n

-- the slots of the members
abbrev pub order_in : List Node → ℕ → List ℕ
order_in nodes len = order_from nodes (after_of nodes 0) len

-- the free slots, the one that was freed last first
abbrev pub free_in : List Node → ℕ → ℕ → List ℕ
free_in nodes free len = order_from nodes free (length nodes - 1 - len)

-- each slot knows those beside it: slot 0 stands before the first one and behind the last one
pub record IsLinked (nodes : List Node) (order : List ℕ) : Type 0 where
  pub after : (k : ℕ) → k ≤ length order → after_of nodes (slice_index_or (0 ∷ order) k 0) ≡ slice_index_or order k 0
  pub before : (k : ℕ) → k ≤ length order → before_of nodes (slice_index_or order k 0) ≡ slice_index_or (0 ∷ order) k 0

-- what is kept of a chain: each slot has a member or is free, and no call asks for memory
pub record IsChained (nodes : List Node) (capacity free len room : ℕ) : Type 0 where
  pub shared : AreShared (0 ∷ order_in nodes len) (free_in nodes free len) (length nodes) (room + 1)
  pub linked : IsLinked nodes (order_in nodes len)
  pub freed : (slot : ℕ) → 1 ≤ times slot (free_in nodes free len) → before_of nodes slot ≡ 65535
  pub has_room : room + 1 ≤ capacity
  pub short : room ≤ 1024

-- ---- changes

abbrev pub with_after : ℕ → Node → Node
with_after slot n = record { task = n.task; enabled = n.enabled; given = n.given; before = n.before; after = slot }

abbrev pub with_before : ℕ → Node → Node
with_before slot n = record { task = n.task; enabled = n.enabled; given = n.given; before = slot; after = n.after }

abbrev pub points_to : List Node → ℕ → ℕ → List Node
points_to nodes first second = slice_set nodes first (with_after second (node_at nodes first))

-- the second slot stands behind the first one
abbrev pub linked_to : List Node → ℕ → ℕ → List Node
linked_to nodes first second = let pointed = points_to nodes first second in slice_set pointed second (with_before first (node_at pointed second))

-- a free slot, in front of the one that was freed before it
abbrev pub freed_before : ℕ → Node → Node
freed_before free n = record { task = n.task; enabled = n.enabled; given = n.given; before = 65535; after = free }

-- a node was put into the slot that was freed last, or into a new one where none was free
pub record IsReused (before : List Node) (free len : ℕ) (node : Node) (after : List Node) (rest slot : ℕ) : Type 0 where
  pub some : len + 1 < length before
  pub last : slot ≡ free
  pub next : rest ≡ after_of before free
  pub written : after ≡ slice_set before free node

pub record IsAdded (before : List Node) (free len : ℕ) (node : Node) (after : List Node) (rest slot : ℕ) : Type 0 where
  pub none : length before ≡ len + 1
  pub new : slot ≡ length before
  pub same : rest ≡ free
  pub added : after ≡ before ++ node ∷ []

abbrev pub IsTaken : List Node → ℕ → ℕ → Node → List Node → ℕ → ℕ → Type 0
IsTaken before free len node after rest slot = IsReused before free len node after rest slot ⊎ IsAdded before free len node after rest slot
