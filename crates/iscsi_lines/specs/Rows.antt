-- Worked lines, computed: slots 1, 2 and 3 of one line.
use Rattle.std.specs.Prelude.{◌≡◌, ℕ, true, false, Bool, List, [], ◌∷◌, Some, None, refl}
use Rattle.iscsi_lines.specs.declared.item.Item.{Item}
use Rattle.iscsi_lines.specs.declared.item.Item.TheVariants.{Command, Answer}
use Rattle.iscsi_lines.specs.Lines.{BLANK, due_in}

abbrev pub command : ℕ → Bool → Bool → Item
command conn running under_way = Command (record { conn = conn; running = running; under_way = under_way })

abbrev pub three : Item → Item → Item → List Item
three a b c = BLANK ∷ a ∷ b ∷ c ∷ []

-- an answer waits for a command that runs
pub running : due_in (three (command 1 true false) (Answer 1) (Answer 1)) (1 ∷ 2 ∷ []) ≡ None
running = refl

-- and for what is under way on another connection
pub elsewhere : due_in (three (command 2 false true) (Answer 1) (Answer 1)) (1 ∷ 2 ∷ []) ≡ None
elsewhere = refl

-- but not on its own
pub on_its_own : due_in (three (command 1 false true) (Answer 1) (Answer 1)) (1 ∷ 2 ∷ []) ≡ Some 2
on_its_own = refl

-- nor for what left behind it
pub behind : due_in (three (command 2 true true) (Answer 1) (Answer 1)) (2 ∷ 1 ∷ 3 ∷ []) ≡ Some 2
behind = refl

-- the second answer waits for the first
pub second : due_in (three (command 2 true false) (Answer 1) (Answer 2)) (1 ∷ 2 ∷ 3 ∷ []) ≡ None
second = refl

-- a line without an answer has none that is due
pub none : due_in (three (command 1 false true) BLANK BLANK) (1 ∷ []) ≡ None
none = refl
