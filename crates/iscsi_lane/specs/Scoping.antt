-- Which of what stands in the lane stands in the line of an aim; so which answer is due is told by its line. For private
-- contracts alone.
use Rattle.std.specs.Prelude.{◌≡◌, ℕ, ◌==◌, ◌||◌, ◌&&◌, not, Bool, false, List, [], ◌∷◌, filter, Option, Some, None, slice_index_or}
use Rattle.iscsi_lines.specs.declared.item.Owing.{Owing}
use Rattle.iscsi_lines.specs.declared.item.Item.{Item}
use Rattle.iscsi_lines.specs.declared.item.Item.TheVariants.{Command, Answer}
use Rattle.iscsi_lines.specs.Lines.{BLANK, due_in, holds_back as holds_item, is_answer}
use Rattle.iscsi_outbox_state.specs.declared.lane.Aim.{Aim}
use Rattle.iscsi_outbox_state.specs.declared.lane.Aim.TheVariants.{Tag, Unit as AtUnit}
use Rattle.iscsi_outbox_state.specs.declared.lane.Left.{Left}
use Rattle.iscsi_outbox_state.specs.declared.lane.Standing.{Standing}
use Rattle.iscsi_outbox_state.specs.declared.lane.Standing.TheVariants.{Left as IsLeft, Undue as IsUndue}
use Rattle.iscsi_outbox_state.specs.Lane.{aims_at, is_of_logout, is_same_aim}
use Rattle.iscsi_scopes.specs.Scopes.{Scoped, slots_of}
use Rattle.iscsi_lane.specs.Standings.{at}

-- what a command owes
abbrev pub owing_of : Left → Owing
owing_of c = record { conn = c.conn; running = c.running; under_way = c.under_way }

-- what stands there, as an item of a line
abbrev pub as_item : Standing → Item
as_item (IsLeft c) = Command (record { conn = c.conn; running = c.running; under_way = c.under_way })
as_item (IsUndue a) = Answer a.conn

abbrev pub stands_in : Aim → Standing → Bool
stands_in aim (IsLeft c) = aims_at aim c
stands_in aim (IsUndue a) = is_same_aim aim a.aim

-- the slots of an aim's line, of some slots
abbrev pub line_of : Aim → List Standing → List ℕ → List ℕ
line_of aim xs slots = filter (λ s. stands_in aim (at xs s)) slots

-- what holds an answer back that goes out on this connection, in its line: each answer, and commands
abbrev pub blocks : ℕ → Item → Bool
blocks conn i = is_answer i || holds_item conn i

-- each of these slots has the item of what stands there
abbrev pub AreItems : List Standing → List Item → List ℕ → Type 0
AreItems xs items [] = Unit {0}
AreItems xs items (s ∷ slots) = (slice_index_or items s BLANK ≡ as_item (at xs s)) × AreItems xs items slots

-- lines by key follow the lane: that of each key has, in the order of the log, what stands in the line of its aim
pub record Mirrors (aim : ℕ → Aim) (scopes : Scoped) (xs : List Standing) (order : List ℕ) : Type 0 where
  pub lines : (key : ℕ) → slots_of key scopes.lines ≡ line_of (aim key) xs order
  pub items : (key : ℕ) → AreItems xs scopes.items (line_of (aim key) xs order)

-- ---- which answers the lines tell to be due

-- the answer of an aim that its line tells to be due
abbrev pub due_of : Scoped → Scoped → Aim → Option ℕ
due_of units tags (AtUnit unit) = due_in units.items (slots_of unit units.lines)
due_of units tags (Tag tag) = due_in tags.items (slots_of tag tags.lines)
due_of units tags _ = None

abbrev pub is_it : ℕ → Option ℕ → Bool
is_it s None = false
is_it s (Some x) = x == s

abbrev pub told_of : Scoped → Scoped → ℕ → Standing → Bool
told_of units tags s (IsLeft c) = false
told_of units tags s (IsUndue a) = not a.uncleared && is_it s (due_of units tags a.aim)

abbrev pub told : Scoped → Scoped → List Standing → ℕ → Bool
told units tags xs s = told_of units tags s (at xs s)

-- an answer of which the lines don't tell: that of a Logout, or one that closes its connection
abbrev pub is_untold : Standing → Bool
is_untold (IsLeft c) = false
is_untold (IsUndue a) = is_of_logout a.aim || a.ends

-- the slot of such a one
abbrev pub untold_at : List Standing → ℕ → Bool
untold_at xs s = is_untold (at xs s)

-- no answer, or one that is none of these
abbrev pub IsAbort : Standing → Type 0
IsAbort (IsLeft c) = Unit {0}
IsAbort (IsUndue a) = (is_of_logout a.aim ≡ false) × (a.ends ≡ false)
