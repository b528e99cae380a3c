-- The two parts of a line. For private contracts alone.
use Rattle.std.specs.Prelude.{◌≡◌, ◌≢◌, ◌==◌, ℕ, ◌+◌, ◌≤◌, ◌||◌, ◌&&◌, not, Bool, true, false, List, [], ◌∷◌, ◌++◌, length, Some, slice_index_or}
use Rattle.iscsi_lists.specs.Lists.{Listed, first_of}
use Rattle.iscsi_lines.specs.declared.item.Owing.{Owing}
use Rattle.iscsi_lines.specs.declared.item.Item.{Item}
use Rattle.iscsi_lines.specs.declared.item.Item.TheVariants.{Command, Answer}
use Rattle.iscsi_lines.specs.Lines.{owes, is_answer, BLANK, items_of}

abbrev pub AllAre : (Item → Bool) → List Item → Type 0
AllAre test [] = Unit {0}
AllAre test (x ∷ xs) = (test x ≡ true) × AllAre test xs

-- a command that owes something
abbrev pub is_owing : Item → Bool
is_owing (Command c) = owes c
is_owing (Answer conn) = false

-- an answer, or a command that owes something
abbrev pub may_stand : Item → Bool
may_stand x = is_answer x || is_owing x

-- a command that doesn't run, of which something is under way on this connection
abbrev pub is_ahead : ℕ → Item → Bool
is_ahead conn (Command c) = not c.running && (c.under_way && c.conn == conn)
is_ahead conn (Answer other) = false

abbrev pub is_none : List Item → Bool
is_none [] = true
is_none (x ∷ xs) = false

-- the first item behind comes ahead
abbrev pub comes_ahead : ℕ → List Item → Item → Bool
comes_ahead conn ahead (Command c) = not c.running && (c.conn == conn || is_none ahead)
comes_ahead conn ahead (Answer other) = false

-- nothing behind comes ahead
abbrev pub settles : ℕ → List Item → List Item → Type 0
settles conn ahead [] = Unit {0}
settles conn ahead (x ∷ xs) = comes_ahead conn ahead x ≡ false

pub record IsLine (conn : ℕ) (ahead behind : List Item) : Type 0 where
  pub passed : AllAre (is_ahead conn) ahead
  pub stand : AllAre may_stand behind
  pub settled : settles conn ahead behind

-- the slots of a list, and their items
abbrev pub slots_at : Listed Item → ℕ → List ℕ
slots_at s list = slice_index_or s.lists list []

abbrev pub items_at : Listed Item → ℕ → List Item
items_at s list = items_of s.values (slots_at s list)

abbrev pub conn_at : List ℕ → ℕ → ℕ
conn_at conns line = slice_index_or conns line 0

abbrev pub IsLineAt : List ℕ → Listed Item → ℕ → Type 0
IsLineAt conns s line = IsLine (conn_at conns line) (items_at s line) (items_at s (length conns + line))

-- ---- changes

-- the command of this item owes this or more
abbrev pub IsLess : Item → Owing → Type 0
IsLess (Command before) after = (after.conn ≡ before.conn) × ((after.running ≡ true → before.running ≡ true) × (after.under_way ≡ true → before.under_way ≡ true))
IsLess (Answer conn) after = ⊥

-- nothing changed but these two lists
pub record SameBut (old new : Listed Item) (ahead behind : ℕ) : Type 0 where
  pub others : (k : ℕ) → k ≢ ahead → k ≢ behind → slots_at new k ≡ slots_at old k
  pub values : new.values ≡ old.values
  pub free : new.free ≡ old.free
  pub room : new.room ≡ old.room
  pub lists : length new.lists ≡ length old.lists

-- some slots went from the front of one list to the end of the other one
pub record Moves (old new : Listed Item) (ahead behind : ℕ) : Type 0 where
  pub whole : slots_at new ahead ++ slots_at new behind ≡ slots_at old ahead ++ slots_at old behind
  pub same : SameBut old new ahead behind

pub record ComesNext (s : Listed Item) (conn ahead behind slot : ℕ) (c : Owing) : Type 0 where
  pub first : first_of (slots_at s behind) ≡ Some slot
  pub item : slice_index_or s.values slot BLANK ≡ Command c
  pub comes : comes_ahead conn (items_at s ahead) (Command c) ≡ true
  pub within : slot ≤ s.room

-- what the loop keeps
pub record IsSettling (old now : Listed Item) (conn ahead behind : ℕ) : Type 0 where
  pub moves : Moves old now ahead behind
  pub passed : AllAre (is_ahead conn) (items_at now ahead)
  pub stand : AllAre may_stand (items_at now behind)
