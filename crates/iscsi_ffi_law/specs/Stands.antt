-- When what the steps keep of a side stands for what the rules have of it.
use Rattle.std.specs.Prelude.{◌≡◌, ◌<◌, ◌≤◌, ℕ, ◌+◌, ◌*◌, true, List, [], length, map, count_by, Option, None}
use Rattle.iscsi_rules.specs.rules.Trace.{are_apart, entered, waiting}
use Rattle.iscsi_outbox_rules.specs.rules.Words.{contains}
use Rattle.iscsi_outbox_law.specs.private.Commands.{link_in}
use Rattle.iscsi_outbox_law.specs.private.Pairs.{EachOf}
use Rattle.iscsi_outbox_law.specs.private.Stands.{Stands as OutboxStands}
use Rattle.iscsi_outbox_steps.specs.State.{limits_of, most_at_once}
use Rattle.iscsi_ffi_commands.specs.Commands.{has_ticket}
use Rattle.iscsi_requests.specs.Cookies.{uses_at}
use Rattle.iscsi_requests.specs.Numbers.{size_for}
use Rattle.iscsi_requests.specs.Replies.{has_log_place}
use Rattle.iscsi_ffi_rules.specs.rules.Calls.{Interface}
use Rattle.iscsi_ffi_rules.specs.rules.Run.{cids}
use Rattle.iscsi_ffi_rules.specs.rules.Clearing.{next_withheld}
use Rattle.iscsi_ffi_rules.specs.rules.Sides.{Side}
use Rattle.iscsi_ffi_steps.specs.State.{State, actions_room}
use Rattle.iscsi_ffi_steps.specs.Steps.{Side as StepsSide}
use Rattle.iscsi_ffi_law.specs.Names.{AreNoted, Name, Note, asked_of}
use Rattle.iscsi_ffi_law.specs.Uses.{count_lists, uses_of}
use Rattle.iscsi_ffi_law.specs.Parts.{AreApart, AreCommands, AreCounted, AreFunctions, AreHeld, AreKept, IsBefore, IsConn, IsLiveNamed, IsNote, IsOneUse, IsRequest, IsUndue}

pub record AreSizes (i : Interface) (s : State) : Type 0 where
  pub room : s.room ≡ actions_room i.unwritten (limits_of i.outbox)
  pub functions : length s.functions.waiting ≡ length (cids i)
  pub replies : length s.replies.waiting ≡ length (cids i)
  pub noted : length s.noted.handed ≡ length (cids i)
  pub unwritten : length s.unwritten.handed ≡ length (cids i)
  pub noted_room : s.noted.room ≡ i.outbox.own * length (cids i)
  pub unwritten_room : s.unwritten.room ≡ i.unwritten * length (cids i)
  pub replies_room : s.replies.room ≡ 3 * most_at_once (limits_of i.outbox)
  pub few : EachOf (λ (xs : List (Option ℕ)). length xs ≤ i.unwritten) s.unwritten.handed
  pub slots : 0 < length s.held.places

-- who was told to be ready, or to be closed
pub record AreFlags (i : Interface) (s : State) (r : Side) : Type 0 where
  pub awake : s.awake ≡ map (contains r.awake) (cids i)
  pub over : s.over ≡ map (contains r.over) (cids i)

-- what is kept of requests; `pending`: how many uses of a place have ended and aren't taken off yet; `gone`: of each connection, the
-- places of own PDUs that are needed no more
pub record AreRequests (names : List Name) (notes : List Note) (pending : ℕ → ℕ) (gone : ℕ → List (Option ℕ)) (s : State) (r : Side) : Type 0 where
  pub asked : map asked_of names ≡ r.asked
  pub noted : AreNoted notes r.noted r.handed_notes
  pub apart : AreApart names notes
  pub kept : AreKept names notes s.cookies
  pub counted : AreCounted s.cookies
  pub uses : (place : ℕ) → uses_at place s.cookies ≡ uses_of place s + pending place
  pub named : EachOf (IsRequest s r.both.trace) names
  pub noted_apart : EachOf (IsNote s r.both.box.links) notes
  pub tickets : are_apart (entered r.both.trace) ≡ true
  pub commands : AreCommands names r s.commands.items
  pub live_named : EachOf (IsLiveNamed names r.both.trace) (entered r.both.trace)
  pub one_use : EachOf (IsOneUse s.outbox) s.commands.items
  pub numbered : (ticket : ℕ) → count_by (has_ticket ticket) s.commands.items ≤ 1
  pub answers : length r.answers ≡ r.both.box.sent
  pub once : (log_place : ℕ) → count_lists (has_log_place log_place) s.replies.waiting ≤ 1
  pub last : IsBefore (length r.answers) s.replies.last
  pub conns : (p : ℕ) → p < length r.both.box.links → IsConn names notes (gone p) s r p (link_in r.both.box.links p)
  pub undue : EachOf (IsUndue names r.answers) r.both.box.undue

-- what the steps count as the rules do: units, and the tickets of commands
pub record AreCounts (i : Interface) (s : State) (r : Side) : Type 0 where
  pub units : s.commands.units ≡ i.outbox.session.units
  pub last : s.commands.last ≤ length (entered r.both.trace)
  pub tracked : s.outbox.tracked.last ≤ length r.both.box.tasks

-- between the calls
pub record Stands (i : Interface) (s : StepsSide) (r : Side) : Type 0 where
  pub names : List Name
  pub notes : List Note
  pub event : s.event ≡ r.both.event
  pub trace : s.trace ≡ r.both.trace
  pub outbox : OutboxStands i.outbox s.state.outbox r.both.box
  pub sizes : AreSizes i s.state
  pub flags : AreFlags i s.state r
  pub counts : AreCounts i s.state r
  pub requests : AreRequests names notes (λ place. 0) (λ p. []) s.state r
  pub slots : AreHeld (size_for i.outbox.session.window) s.state.commands.room names s.state.held r.both.trace
  pub functions : AreFunctions (cids i) names s.state.functions (waiting r.both.trace)
  pub withheld : s.state.withheld ≡ []
  -- no command waits to be completed that never starts
  pub calm : next_withheld r ≡ None
