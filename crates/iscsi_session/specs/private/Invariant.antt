-- What holds of every session, whatever it has taken.
use Rattle.std.specs.Prelude.{◌≡◌, ℕ, ◌+◌, ◌*◌, ◌^◌, ◌≤◌, true, List, length, count_by, is_some, nat_lt}
use Rattle.std.specs.List.{list_all}
use Rattle.iscsi_wire.specs.Fields.{connection_of}
use Rattle.iscsi_window.specs.Received.{Arrived}
use Rattle.iscsi_tasks.specs.Sets.{Members}
use Rattle.iscsi_commands.specs.declared.live.Live.{Live}
use Rattle.iscsi_session.specs.declared.session.waiting.Waiting.{Waiting}
use Rattle.iscsi_rules.specs.rules.Settings.{is_known}
use Rattle.iscsi_rules.specs.rules.Management.{may_wait}
use Rattle.iscsi_session.specs.private.Standing.{Core, are_known, is_place_known, Match, AreRoomy, are_ascending, are_within}
use Rattle.iscsi_session.specs.private.Steps.{is_numbered, AreCounted, waiting_in}

-- the window, and the requests that it holds
pub record IsWindowSound (w : Arrived) (count taken : ℕ) (conns : List (ℕ × ℕ)) : Type 0 where
  pub fits : w.unfinished ≤ length w.places  -- each command in execution has a place
  pub most : length w.places ≤ 1024
  pub turned : w.turned + count_by is_some w.places ≤ taken  -- an event received one number at the most
  pub entered : count + count_by is_some w.places ≤ taken  -- and so many commands may enter yet
  pub known : list_all (is_place_known conns) w.places ≡ true  -- each held request is numbered, and came on a connection of the session

-- the live commands
pub record AreCommandsSound (unfinished count : ℕ) (conns : List (ℕ × ℕ)) (immediate : List ℕ) (sets : List Members) (live : List Live) : Type 0 where
  pub numbered : count_by is_numbered live ≤ unfinished  -- the window counts the numbered ones
  pub known : are_known live conns ≡ true  -- each came on a connection of the session
  pub in_sets : Match sets live  -- the task sets have them
  pub ascending : are_ascending live ≡ true  -- they are in the order in which they entered
  pub within : are_within count (length sets) live ≡ true  -- each has a ticket that was given, and a unit of the session
  pub counted : AreCounted immediate conns live  -- the immediate ones are counted

-- the functions that wait
pub record AreFunctionsSound (taken : ℕ) (conns : List (ℕ × ℕ)) (waiting : List Waiting) : Type 0 where
  pub before : list_all (λ w. nat_lt w.event taken) waiting ≡ true  -- each arrived before
  pub known : list_all (λ w. is_known (connection_of w.request) conns) waiting ≡ true  -- on a connection of the session
  pub may : list_all (λ w. may_wait w.request) waiting ≡ true  -- is one that may wait
  pub few : (cid : ℕ) → waiting_in waiting cid ≤ 4  -- and is one of few on its connection

-- what holds of every session, with the count of immediate commands of each connection, and how many elements the containers
-- have memory for
pub record IsSessionSound (s : Core) (immediate : List ℕ) (live_room waiting_room left_room : ℕ) : Type 0 where
  pub window : IsWindowSound s.window s.entered s.taken s.conns
  pub commands : AreCommandsSound s.window.unfinished s.entered s.conns immediate s.sets s.live
  pub functions : AreFunctionsSound s.taken s.conns s.waiting
  pub sets : AreRoomy s.depth live_room s.sets
  pub live_fits : length s.window.places + 8 * length s.conns ≤ live_room  -- a command at each place, and the immediate ones of each connection
  pub waiting_fits : 4 * length s.conns ≤ waiting_room  -- the functions that may wait on each connection
  pub left_fits : length s.window.places + 8 * length s.conns ≤ left_room  -- the tickets of as many commands as there is room for, where all leave
  pub most : s.taken ≤ s.events  -- no more events were taken than the options allow
  pub few_events : s.events ≤ 2 ^ 48
  pub few_conns : length s.conns ≤ 64
  pub few_units : length s.sets ≤ 256
