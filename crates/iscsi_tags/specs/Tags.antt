-- Tags in use, as callers see them: each with its line, and how often it is used.
use Rattle.std.specs.Prelude.{◌≡◌, ℕ, ◌+◌, ◌-◌, ◌<◌, ◌≤◌, ◌==◌, nat_lt, List, [], ◌∷◌, length, map, Option, Some, None, slice_index_or, if◌then◌else◌}
use Rattle.iscsi_slots.specs.Places.{AreAscending}
use Rattle.iscsi_slots.specs.Slots.{times}
use Rattle.iscsi_tags.specs.declared.tag_line.TagLine.{TagLine}

-- the tags in their order, and how many lines there are
pub record Tagged : Type 0 where
  pub tags : List TagLine
  pub room : ℕ

abbrev pub tagged : List TagLine → ℕ → Tagged
tagged tags room = record { tags = tags; room = room }

abbrev pub tag_line : ℕ → ℕ → ℕ → TagLine
tag_line tag line uses = record { tag = tag; line = line; uses = uses }

abbrev pub tag_of : TagLine → ℕ
tag_of t = t.tag

abbrev pub used_more : TagLine → TagLine
used_more t = tag_line t.tag t.line (t.uses + 1)

abbrev pub used_less : TagLine → TagLine
used_less t = tag_line t.tag t.line (t.uses - 1)

-- the line of a tag
abbrev pub line_of : ℕ → List TagLine → Option ℕ
line_of tag [] = None
line_of tag (t ∷ ts) = if t.tag == tag then Some t.line else line_of tag ts

-- how often a tag is used
abbrev pub uses_of : ℕ → List TagLine → ℕ
uses_of tag [] = 0
uses_of tag (t ∷ ts) = if t.tag == tag then t.uses else uses_of tag ts

-- the lines of all tags
abbrev pub lines : List TagLine → List ℕ
lines tags = map (λ (t : TagLine). t.line) tags

-- how often all of them are used
abbrev pub total : List TagLine → ℕ
total [] = 0
total (t ∷ ts) = t.uses + total ts

-- ---- changes

-- a tag is used once more, and has this line where it wasn't in use
abbrev pub entered : ℕ → ℕ → List TagLine → List TagLine
entered tag line [] = tag_line tag line 1 ∷ []
entered tag line (t ∷ ts) =
    if nat_lt tag t.tag then tag_line tag line 1 ∷ t ∷ ts
    else (if t.tag == tag then used_more t ∷ ts else t ∷ entered tag line ts)

-- a tag is used once less, and isn't in use where it was used once
abbrev pub left : ℕ → List TagLine → List TagLine
left tag [] = []
left tag (t ∷ ts) = if t.tag == tag then (if nat_lt 1 t.uses then used_less t ∷ ts else ts) else t ∷ left tag ts

-- ---- what holds of them

-- each is used
abbrev pub AreUsed : List TagLine → Type 0
AreUsed [] = Unit {0}
AreUsed (t ∷ ts) = (1 ≤ t.uses) × AreUsed ts

pub record AreTags (v : Tagged) : Type 0 where
  pub ascending : AreAscending tag_of v.tags  -- so no two are the same
  pub used : AreUsed v.tags
  pub apart : (line : ℕ) → times line (lines v.tags) ≤ 1
  pub within : (line : ℕ) → 1 ≤ times line (lines v.tags) → line < v.room
  pub few : total v.tags ≤ v.room

-- ---- for private contracts alone

abbrev pub NO_TAG : TagLine
NO_TAG = tag_line 0 0 0

abbrev pub line_at : List TagLine → ℕ → TagLine
line_at tags k = slice_index_or tags k NO_TAG

abbrev pub tag_at : List TagLine → ℕ → ℕ
tag_at tags k = tag_of (line_at tags k)

-- each line is free, or of one tag
pub record AreHeld (tags : List TagLine) (free : List ℕ) (tags_capacity free_capacity room : ℕ) : Type 0 where
  pub ascending : AreAscending tag_of tags
  pub used : AreUsed tags
  pub once : (line : ℕ) → times line free + times line (lines tags) ≡ (if nat_lt line room then 1 else 0)
  pub all : length free + length tags ≡ room
  pub few : total tags ≤ room
  pub tags_room : room ≤ tags_capacity
  pub free_room : room ≤ free_capacity
  pub short : room ≤ 4294967295
