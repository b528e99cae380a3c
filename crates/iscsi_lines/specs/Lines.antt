-- Lines: commands that left and owe something, and the answers that wait for them, in the order of the log. What stands before an
-- answer in its line is its scope; the first answer is due where nothing of that holds it back.
use Rattle.std.specs.Prelude.{ℕ, ◌+◌, ◌==◌, ◌&&◌, ◌||◌, not, Bool, true, false, List, [], ◌∷◌, ◌++◌, map, Option, Some, None, slice_index_or, if◌then◌else◌}
use Rattle.std.specs.List.{list_any}
use Rattle.iscsi_lists.specs.Lists.{Listed}
use Rattle.iscsi_lines.specs.declared.item.Owing.{Owing}
use Rattle.iscsi_lines.specs.declared.item.Item.{Item}
use Rattle.iscsi_lines.specs.declared.item.Item.TheVariants.{Command, Answer}

-- its unit may touch the medium for it, or something of it is under way
abbrev pub owes : Owing → Bool
owes c = c.running || c.under_way

-- an answer that goes out on this connection waits for it. What is under way on the same connection is read before the answer
abbrev pub holds_back : ℕ → Item → Bool
holds_back conn (Command c) = c.running || (c.under_way && not (c.conn == conn))
holds_back conn (Answer other) = false

abbrev pub is_answer : Item → Bool
is_answer (Command c) = false
is_answer (Answer conn) = true

abbrev pub conn_of : Item → ℕ
conn_of (Command c) = c.conn
conn_of (Answer conn) = conn

-- any item
abbrev pub BLANK : Item
BLANK = Answer 0

-- the items of slots, by what each slot has
abbrev pub items_of : List Item → List ℕ → List Item
items_of values slots = map (λ s. slice_index_or values s BLANK) slots

-- the first answer of these slots, where nothing that stands before it holds it back
abbrev pub due_behind : List Item → List Item → List ℕ → Option ℕ
due_behind values before [] = None
due_behind values before (s ∷ slots) =
    let item = slice_index_or values s BLANK in
    if is_answer item then (if list_any (holds_back (conn_of item)) before then None else Some s)
    else due_behind values (before ++ item ∷ []) slots

abbrev pub due_in : List Item → List ℕ → Option ℕ
due_in values slots = due_behind values [] slots

-- what callers see: slots in lists, two for each line, and so many lines
pub record Lined : Type 0 where
  pub slots : Listed Item
  pub count : ℕ

abbrev pub item_at : Lined → ℕ → Item
item_at v slot = slice_index_or v.slots.values slot BLANK

-- the slots of a line, in order
abbrev pub line_at : Lined → ℕ → List ℕ
line_at v line = slice_index_or v.slots.lists line [] ++ slice_index_or v.slots.lists (v.count + line) []
