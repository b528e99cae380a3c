-- The commands that are kept stand for those of the rules that are live or owe; the trails of the connections.
use Rattle.std.specs.Prelude.{◌≡◌, ◌≢◌, ◌<◌, ◌≤◌, ℕ, ◌+◌, ◌==◌, ◌&&◌, ◌||◌, Bool, true, false, List, filter, length, Option, Some, None, slice_index_or}
use Rattle.std.specs.List.{list_any}
use Rattle.iscsi_slots.specs.Slots.{times}
use Rattle.iscsi_lists.specs.Lists.{times_in}
use Rattle.iscsi_arrivals.specs.declared.stamp.Stamp.{Stamp}
use Rattle.iscsi_arrivals.specs.Stamps.{stamp_at, IsUpToLast}
use Rattle.iscsi_outbox_rules.specs.rules.Calls.{Opening}
use Rattle.iscsi_outbox_rules.specs.rules.Boxes.{Phase as RulesPhase, Dormant as DormantTask, Fresh as FreshTask, Started as StartedTask, Running as RunningTask, Gone as GoneTask, Task, Handed, Link}
use Rattle.iscsi_outbox_rules.specs.rules.Words.{has_under_way, is_left_phase, is_live_phase, is_of, is_running_phase}
use Rattle.iscsi_outbox_rules.specs.rules.Run.{new_link}
use Rattle.iscsi_tracked.specs.declared.command.Command.{Command}
use Rattle.iscsi_tracked.specs.declared.command.Phase.{Phase}
use Rattle.iscsi_tracked.specs.declared.command.Phase.TheVariants.{Dormant, Fresh, Started, Running, Gone}
use Rattle.iscsi_tracked.specs.Tracked.{Tracked, find_place, has_place, is_out, trail_at}
use Rattle.iscsi_outbox_law.specs.private.Pairs.{PairsOf, EachOf, InOrder, place_in}

-- something of the command with this ticket is under way
abbrev pub is_under_way : Opening → List Link → ℕ → Bool
is_under_way o links ticket = list_any (has_under_way o (λ k. k == ticket)) links

-- it is live, or owes, where something of these commands is under way
abbrev pub is_kept : (ℕ → Bool) → Task → Bool
is_kept under t = is_live_phase t.phase || (is_running_phase t.phase || (is_left_phase t.phase && under t.ticket))

abbrev pub phase_of : Phase → RulesPhase
phase_of Dormant = DormantTask
phase_of Fresh = FreshTask
phase_of Started = StartedTask
phase_of Running = RunningTask
phase_of Gone = GoneTask

abbrev pub link_in : List Link → ℕ → Link
link_in links place = slice_index_or links place (new_link 0)

abbrev pub of_ticket : ℕ → Handed → Bool
of_ticket ticket h = is_of (λ k. k == ticket) h.out

-- the last PDU of a command that was handed out on this connection has this stamp
pub record IsLastOut (ticket : ℕ) (l : Link) (last_out : Stamp) : Type 0 where
  pub place : ℕ
  pub stamp : last_out ≡ stamp_at l place
  pub last : IsUpToLast (of_ticket ticket) l.handed (place + 1)

-- it is kept just where something of the command is under way
abbrev pub IsOut : (ℕ → Bool) → ℕ → Link → Option Stamp → Type 0
IsOut under ticket l None = under ticket ≡ false
IsOut under ticket l (Some stamp) = (under ticket ≡ true) × IsLastOut ticket l stamp

pub record IsCommand (under : ℕ → Bool) (cids : List ℕ) (links : List Link) (c : Command) (t : Task) : Type 0 where
  pub ticket : c.ticket ≡ t.ticket
  pub conn : place_in cids t.conn ≡ Some c.conn
  pub unit : c.unit ≡ t.unit
  pub tag : c.tag ≡ t.tag
  pub numbered : c.numbered ≡ t.numbered
  pub phase : phase_of c.phase ≡ t.phase
  pub out : IsOut under c.ticket (link_in links c.conn) c.last_out

abbrev pub AreCommands : (ℕ → Bool) → List ℕ → List Link → List Task → Tracked → Type 0
AreCommands under cids links tasks v = PairsOf (IsCommand under cids links) v.commands (filter (is_kept under) tasks)

-- ---- places and trails

-- how many PDUs were handed out on its connection before the last one of the command in this place
abbrev pub out_place : Tracked → ℕ → ℕ
out_place v place = elim (find_place place v) [ Some c ↦ elim (c.last_out) [ Some stamp ↦ stamp.place | None ↦ 0 ] | None ↦ 0 ]

-- a command stands on the trail of its connection just where something of it is under way, and on no other one
pub record IsTrailed (v : Tracked) (c : Command) : Type 0 where
  pub conn : c.conn < length v.trails
  pub out : is_out c ≡ true → times c.place (trail_at v c.conn) ≡ 1
  pub idle : is_out c ≡ false → times_in c.place v.trails ≡ 0
  pub once : times_in c.place v.trails ≤ 1

pub record ArePlaced (v : Tracked) : Type 0 where
  pub ascending : InOrder (λ (c d : Command). c.ticket < d.ticket) v.commands
  pub newest : EachOf (λ (c : Command). c.ticket ≤ v.last) v.commands
  pub apart : InOrder (λ (c d : Command). c.place ≢ d.place) v.commands
  -- places that are free are those of no command, and each is free once
  pub counted : length v.commands + length v.free ≡ v.room
  pub unused : (place : ℕ) → 1 ≤ times place v.free → has_place place v ≡ false
  pub free_once : (place : ℕ) → times place v.free ≤ 1

pub record AreTrails (v : Tracked) : Type 0 where
  pub trailed : EachOf (IsTrailed v) v.commands
  pub of_one : (place : ℕ) → 1 ≤ times_in place v.trails → has_place place v ≡ true
  -- what went out last stands last
  pub onward : EachOf (InOrder (λ (p q : ℕ). out_place v p < out_place v q)) v.trails
