-- Lines by key: of each key the slots that stand in its line, in the order in which they came, and what each slot has.
use Rattle.std.specs.Prelude.{◌≡◌, ℕ, ◌+◌, ◌<◌, ◌==◌, nat_lt, List, [], ◌∷◌, ◌++◌, length, map, slice_index_or, if◌then◌else◌}
use Rattle.iscsi_slots.specs.Slots.{times}
use Rattle.iscsi_lists.specs.Lists.{without}
use Rattle.iscsi_lines.specs.declared.item.Item.{Item}
use Rattle.iscsi_lines.specs.Lines.{BLANK, Lined, line_at}
use Rattle.iscsi_tags.specs.declared.tag_line.TagLine.{TagLine}
use Rattle.iscsi_tags.specs.Tags.{Tagged, lines, total}
use Rattle.iscsi_scopes.specs.SlotLines.{outside_at}

pub record Keyed : Type 0 where
  pub key : ℕ
  pub slots : List ℕ

abbrev pub keyed : ℕ → List ℕ → Keyed
keyed key slots = record { key = key; slots = slots }

-- the lines in which something stands, in the order of their keys, and the item of each slot
pub record Scoped : Type 0 where
  pub lines : List Keyed
  pub items : List Item
  pub room : ℕ

abbrev pub scoped : List Keyed → List Item → ℕ → Scoped
scoped ks items room = record { lines = ks; items = items; room = room }

-- the slots of a key
abbrev pub slots_of : ℕ → List Keyed → List ℕ
slots_of key [] = []
slots_of key (k ∷ ks) = if k.key == key then k.slots else slots_of key ks

-- how often a slot stands in all lines
abbrev pub times_over : ℕ → List Keyed → ℕ
times_over slot [] = 0
times_over slot (k ∷ ks) = times slot k.slots + times_over slot ks

abbrev pub item_of : Scoped → ℕ → Item
item_of v slot = slice_index_or v.items slot BLANK

-- ---- changes

-- a slot stands behind all others of a key
abbrev pub entered : ℕ → ℕ → List Keyed → List Keyed
entered key slot [] = keyed key (slot ∷ []) ∷ []
entered key slot (k ∷ ks) =
    if nat_lt key k.key then keyed key (slot ∷ []) ∷ k ∷ ks
    else (if k.key == key then keyed k.key (k.slots ++ slot ∷ []) ∷ ks else k ∷ entered key slot ks)

-- the line is gone where nothing stands in it
abbrev pub unless_empty : ℕ → List ℕ → List Keyed → List Keyed
unless_empty key [] ks = ks
unless_empty key (s ∷ slots) ks = keyed key (s ∷ slots) ∷ ks

-- a slot stands in the line of a key no more
abbrev pub left : ℕ → ℕ → List Keyed → List Keyed
left key slot [] = []
left key slot (k ∷ ks) = if k.key == key then unless_empty k.key (without slot k.slots) ks else k ∷ left key slot ks

-- ---- how keys have lines. For private contracts alone

abbrev pub shown : Lined → List TagLine → List Keyed
shown v tags = map (λ (t : TagLine). keyed t.tag (line_at v t.line)) tags

abbrev pub scoped_of : Tagged → Lined → Scoped
scoped_of keys v = scoped (shown v keys.tags) v.slots.values v.slots.room

-- a key is used as often as something stands in its line
abbrev pub AreCounted : Lined → List TagLine → Type 0
AreCounted v [] = Unit {0}
AreCounted v (t ∷ ts) = (t.uses ≡ length (line_at v t.line)) × AreCounted v ts

pub record AreKeyed (keys : Tagged) (v : Lined) : Type 0 where
  pub counted : AreCounted v keys.tags
  pub unused : (line : ℕ) → line < v.count → times line (lines keys.tags) ≡ 0 → line_at v line ≡ []
  pub all : total keys.tags + length (outside_at v) ≡ keys.room
  pub count : v.count ≡ keys.room
  pub room : v.slots.room ≡ keys.room

-- ---- what holds of all lines by key

-- each key is above a number
abbrev pub AllKeysAbove : ℕ → List Keyed → Type 0
AllKeysAbove n [] = Unit {0}
AllKeysAbove n (k ∷ ks) = (n < k.key) × AllKeysAbove n ks

-- keys go up, so no two are the same
abbrev pub AreKeysAscending : List Keyed → Type 0
AreKeysAscending [] = Unit {0}
AreKeysAscending (k ∷ ks) = AllKeysAbove k.key ks × AreKeysAscending ks
