-- What stands in the lane stands for the answers that wait, and for the commands that left and owe.
use Rattle.std.specs.Prelude.{◌≡◌, ℕ, ◌==◌, ◌&&◌, Bool, true, false, List, [], ◌∷◌, ◌++◌, filter, count_by, Option, Some, None, if◌then◌else◌}
use Rattle.std.specs.List.{list_any}
use Rattle.iscsi_outbox_rules.specs.rules.Boxes.{Aim as RulesAim, AtTag, AtUnit, AtConns, Replies, Answer}
use Rattle.iscsi_outbox_rules.specs.rules.Words.{contains}
use Rattle.iscsi_outbox_state.specs.declared.lane.Aim.{Aim}
use Rattle.iscsi_outbox_state.specs.declared.lane.Aim.TheVariants.{Tag, Unit as OfUnit, Conn, Session, Nothing}
use Rattle.iscsi_outbox_state.specs.declared.lane.Left.{Left}
use Rattle.iscsi_outbox_state.specs.declared.lane.Undue.{Undue}
use Rattle.iscsi_outbox_state.specs.declared.lane.Standing.{Standing}
use Rattle.iscsi_outbox_state.specs.declared.lane.Standing.TheVariants.{Left as IsLeft, Undue as IsUndue}
use Rattle.iscsi_outbox_state.specs.Lane.{aims_at, is_command, is_left}
use Rattle.iscsi_tracked.specs.declared.command.Command.{Command}
use Rattle.iscsi_tracked.specs.Tracked.{Tracked, find_place, is_out}
use Rattle.iscsi_outbox_steps.specs.Steps.{is_fence, is_live, is_running}
use Rattle.iscsi_outbox_law.specs.private.Pairs.{EachOf, place_in}
use Rattle.iscsi_outbox_law.specs.private.Links.{word_of}

-- ---- commands

abbrev pub is_gone : Command → Bool
is_gone c = if is_live c then false else true

-- what stands in the lane of a command that left
abbrev pub left_of : Command → Left
left_of c = record { command = c.place; conn = c.conn; unit = c.unit; tag = c.tag; running = is_running c; under_way = is_out c }

abbrev pub left_at : Option Command → List Standing
left_at (Some c) = if is_live c then [] else IsLeft (left_of c) ∷ []
left_at None = []

-- each command that left stands there once, and no other one
pub record AreLeft (v : Tracked) (items : List Standing) : Type 0 where
  pub each : (place : ℕ) → filter (is_command place) items ≡ left_at (find_place place v)
  pub counted : count_by is_left items ≡ count_by is_gone v.commands

-- ---- answers

abbrev pub IsAim : Aim → RulesAim → Type 0
IsAim (Tag tag) (AtTag t unit) = tag ≡ t
IsAim (OfUnit unit) (AtUnit u) = unit ≡ u
IsAim (Conn conn) AtConns = Unit {0}
IsAim Session AtConns = Unit {0}
IsAim Nothing AtConns = Unit {0}
IsAim _ _ = ⊥

-- the command in this place stands here, and the answer aims at it
abbrev pub is_aimed_at : Aim → ℕ → Standing → Bool
is_aimed_at aim place (IsLeft c) = c.command == place && aims_at aim c
is_aimed_at aim place (IsUndue a) = false

-- a command that left is in the scope of an answer just where it stands before that, and is what it aims at
abbrev pub IsInScope : List Standing → Undue → Answer → Command → Type 0
IsInScope before a answer c = is_live c ≡ false → contains answer.out.scope c.ticket ≡ list_any (is_aimed_at a.aim c.place) before

-- an answer, with what stands before it
pub record IsAnswer (cids : List ℕ) (v : Tracked) (before : List Standing) (a : Undue) (answer : Answer) : Type 0 where
  pub pdu : answer.out.pdu ≡ Replies a.reply.reply
  pub sent : word_of answer.out.sent ≡ Some a.reply.place
  pub conn : place_in cids answer.conn ≡ Some a.conn
  pub aim : IsAim a.aim answer.aim
  pub takes : answer.out.takes ≡ true
  pub fenced : answer.out.fenced ≡ is_fence a.aim a.reply.reply
  pub numbered : a.numbered ≡ answer.out.numbered
  pub ends : a.ends ≡ contains answer.out.closes answer.conn
  pub ticket : answer.out.ticket ≡ None
  pub uncleared : a.uncleared ≡ answer.uncleared
  pub scope : EachOf (IsInScope before a answer) v.commands

-- the answers are those of the rules, in their order
abbrev pub AreAnswers : List ℕ → Tracked → List Standing → List Standing → List Answer → Type 0
AreAnswers cids v before [] [] = Unit {0}
AreAnswers cids v before [] (answer ∷ answers) = ⊥
AreAnswers cids v before (IsLeft c ∷ items) answers = AreAnswers cids v (before ++ IsLeft c ∷ []) items answers
AreAnswers cids v before (IsUndue a ∷ items) [] = ⊥
AreAnswers cids v before (IsUndue a ∷ items) (answer ∷ answers) = IsAnswer cids v before a answer × AreAnswers cids v (before ++ IsUndue a ∷ []) items answers
