-- Worked tags in use, computed: of three lines.
use Rattle.std.specs.Prelude.{◌≡◌, List, [], ◌∷◌, Some, None, refl}
use Rattle.iscsi_tags.specs.declared.tag_line.TagLine.{TagLine}
use Rattle.iscsi_tags.specs.Tags.{entered, left, line_of, tag_line, total, uses_of}

-- tag 7 gets line 2, and tag 5 line 1: they stand in their order
abbrev pub two : List TagLine
two = entered 5 1 (entered 7 2 [])

pub in_order : two ≡ tag_line 5 1 1 ∷ tag_line 7 2 1 ∷ []
in_order = refl

pub has_its_line : line_of 7 two ≡ Some 2
has_its_line = refl

pub not_in_use : line_of 6 two ≡ None
not_in_use = refl

-- used once more, a tag keeps its line
abbrev pub more : List TagLine
more = entered 7 0 two

pub keeps_its_line : more ≡ tag_line 5 1 1 ∷ tag_line 7 2 2 ∷ []
keeps_its_line = refl

pub three_uses : total more ≡ 3
three_uses = refl

pub twice : uses_of 7 more ≡ 2
twice = refl

-- used once less, it has it still
pub has_it_still : left 7 more ≡ two
has_it_still = refl

-- and not any more, when it isn't used
pub gone : left 7 two ≡ tag_line 5 1 1 ∷ []
gone = refl

pub nothing_changes : left 6 two ≡ two
nothing_changes = refl
