-- How slots are linked. For private contracts alone.
use Rattle.std.specs.Prelude.{◌≡◌, ℕ, zero, suc, ◌+◌, ◌-◌, ◌<◌, ◌≤◌, ◌++◌, List, [], ◌∷◌, length, nat_lt, slice_index_or, slice_set, Option, Some, None, if◌then◌else◌}
use Rattle.iscsi_slots.specs.Slots.{times}
use Rattle.iscsi_lists.specs.declared.link.Link.{Link}
use Rattle.iscsi_lists.specs.Lists.{Linked, linked, AreApart}

-- any node, which stands for none
abbrev pub BLANK : Link
BLANK = record { before = 0; after = 0; list = 0 }

-- the list of a slot that is free
abbrev pub NO_LIST : ℕ
NO_LIST = 4294967295

abbrev pub node_at : List Link → ℕ → Link
node_at nodes s = slice_index_or nodes s BLANK

abbrev pub after_of : List Link → ℕ → ℕ
after_of nodes s = (node_at nodes s).after

abbrev pub before_of : List Link → ℕ → ℕ
before_of nodes s = (node_at nodes s).before

abbrev pub list_of : List Link → ℕ → ℕ
list_of nodes s = (node_at nodes s).list

-- ---- changes

abbrev pub with_after : ℕ → Link → Link
with_after s n = record { before = n.before; after = s; list = n.list }

abbrev pub with_before : ℕ → Link → Link
with_before s n = record { before = s; after = n.after; list = n.list }

abbrev pub in_list : ℕ → Link → Link
in_list list n = record { before = n.before; after = n.after; list = list }

abbrev pub points_to : List Link → ℕ → ℕ → List Link
points_to nodes first second = slice_set nodes first (with_after second (node_at nodes first))

-- the second node stands behind the first one
abbrev pub linked_to : List Link → ℕ → ℕ → List Link
linked_to nodes first second = let pointed = points_to nodes first second in slice_set pointed second (with_before first (node_at pointed second))

-- those beside a node stand beside each other
abbrev pub cut : List Link → ℕ → List Link
cut nodes slot = linked_to nodes (before_of nodes slot) (after_of nodes slot)

-- a node stands in front of another one
abbrev pub placed : List Link → ℕ → ℕ → List Link
placed nodes slot target = linked_to (linked_to nodes (before_of nodes target) slot) slot target

abbrev pub noted : List Link → ℕ → ℕ → List Link
noted nodes slot list = slice_set nodes slot (in_list list (node_at nodes slot))

abbrev pub moved_before : List Link → ℕ → ℕ → ℕ → List Link
moved_before nodes slot target list = noted (placed (cut nodes slot) slot target) slot list

-- ---- what nodes tell

-- the slots from one on, until a head comes, or so many
abbrev pub walk : List Link → ℕ → ℕ → ℕ → List ℕ
walk nodes room zero slot = []
walk nodes room (suc n) slot = if nat_lt room slot then [] else slot ∷ walk nodes room n (after_of nodes slot)

-- the slots behind a head
abbrev pub slots_of : List Link → ℕ → ℕ → List ℕ
slots_of nodes room head = walk nodes room room (after_of nodes head)

-- so many lists, from that of a head on
abbrev pub lists_from : List Link → ℕ → ℕ → ℕ → List (List ℕ)
lists_from nodes room head zero = []
lists_from nodes room head (suc n) = slots_of nodes room head ∷ lists_from nodes room (suc head) n

abbrev pub view_of : List Link → ℕ → ℕ → Linked
view_of nodes lists room = linked (slots_of nodes room 0) (lists_from nodes room (room + 1) lists) room

-- a node, where it isn't the head of a list
abbrev pub a_slot : ℕ → ℕ → Option ℕ
a_slot room node = if nat_lt room node then None else Some node

-- so many nodes, each linked to the one before it and the one behind it
abbrev pub first_links : ℕ → List Link
first_links zero = []
first_links (suc n) = first_links n ++ record { before = n - 1; after = n + 1; list = NO_LIST } ∷ []

-- ---- the chain

-- what stands behind the head of these lists: their slots, each list's behind its head, and one head more
abbrev pub behind : ℕ → List (List ℕ) → List ℕ
behind head [] = []
behind head (slots ∷ lists) = slots ++ suc head ∷ behind (suc head) lists

abbrev pub flat : ℕ → List (List ℕ) → List ℕ
flat head lists = head ∷ behind head lists

pub record Follows (nodes : List Link) (a b : ℕ) : Type 0 where
  pub after : after_of nodes a ≡ b
  pub before : before_of nodes b ≡ a

-- each of these nodes stands behind the one before it
abbrev pub AreLinked : List Link → ℕ → List ℕ → Type 0
AreLinked nodes x [] = Unit {0}
AreLinked nodes x (y ∷ ys) = Follows nodes x y × AreLinked nodes y ys

-- each slot knows its list
abbrev pub AreListed : List Link → ℕ → List (List ℕ) → Type 0
AreListed nodes i [] = Unit {0}
AreListed nodes i (slots ∷ lists) = ((s : ℕ) → 1 ≤ times s slots → list_of nodes s ≡ i) × AreListed nodes (suc i) lists

-- no node leads past all nodes
pub record AreInside (nodes : List Link) : Type 0 where
  pub after : (s : ℕ) → after_of nodes s < length nodes
  pub before : (s : ℕ) → before_of nodes s < length nodes

pub record AreKept (nodes : List Link) (v : Linked) : Type 0 where
  pub chain : AreLinked nodes 0 (v.free ++ flat (v.room + 1) v.lists)
  pub apart : AreApart v
  pub listed : AreListed nodes 0 v.lists
  pub freed : (s : ℕ) → 1 ≤ times s v.free → list_of nodes s ≡ NO_LIST
  pub inside : AreInside nodes
  pub long : length nodes ≡ v.room + length v.lists + 2

-- what holds of all lists of these nodes
pub record IsLinked (nodes : List Link) (lists room : ℕ) : Type 0 where
  pub kept : AreKept nodes (view_of nodes lists room)
  pub short : room + lists + 2 ≤ 4294967295
