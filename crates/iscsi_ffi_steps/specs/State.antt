-- What a side keeps: its outbox, and where each request is.
use Rattle.std.specs.Prelude.{ℕ, ◌+◌, ◌*◌, ◌&&◌, ◌||◌, nat_lt, Bool, false, List, [], ◌∷◌, length, replicate, if◌then◌else◌}
use Rattle.iscsi_outbox_steps.specs.State.{State as OutboxState, Limits, limits_of, most_at_once, opened as outbox_opened}
use Rattle.iscsi_requests.specs.Cookies.{Cookies, opened as no_requests}
use Rattle.iscsi_requests.specs.Numbers.{HeldNumbers, opened as no_numbers}
use Rattle.iscsi_requests.specs.Functions.{WaitingFunctions, opened as no_functions}
use Rattle.iscsi_requests.specs.Replies.{WaitingReplies, opened as no_replies}
use Rattle.iscsi_requests.specs.Unwritten.{Unwritten, opened as nothing_handed}
use Rattle.iscsi_ffi_commands.specs.declared.command.Command.{Command}
use Rattle.iscsi_ffi_commands.specs.Commands.{Commands, is_clearing, is_head, is_marked, opened as no_commands}
use Rattle.iscsi_ffi_rules.specs.rules.Calls.{Interface}

pub record State : Type 0 where
  pub outbox : OutboxState
  pub cookies : Cookies  -- the requests, and the own PDUs that are of no command
  pub held : HeldNumbers
  pub functions : WaitingFunctions
  pub commands : Commands  -- each is kept until its request is forgotten
  pub replies : WaitingReplies
  pub noted : Unwritten  -- the own PDUs that wait and are of no command
  pub unwritten : Unwritten
  pub withheld : List ℕ  -- the tickets of the commands that are to be completed and never start, going up
  pub awake : List Bool
  pub over : List Bool
  pub room : ℕ  -- how many actions may be told in a call, how many requests forgotten, and how many commands withheld

-- ---- sizes

-- so many requests are kept at once: held, waiting or live; taken out and running; answered by what waits; with something that isn't
-- written. `unwritten`: the most PDUs of a connection that are handed out and aren't written
abbrev pub requests_room : ℕ → Limits → ℕ
requests_room unwritten l = 7 * most_at_once l + (l.own + unwritten) * length l.cids

-- each request starts, stops and resets once at the most, and each connection is told to be ready and closed once
abbrev pub actions_room : ℕ → Limits → ℕ
actions_room unwritten l = 3 * requests_room unwritten l + 2 * length l.cids

-- `first`: the session's first CmdSN
abbrev pub opened_with : ℕ → Limits → ℕ → State
opened_with unwritten l first =
    let conns = length l.cids in
    record {
      outbox = outbox_opened l first;
      cookies = no_requests (requests_room unwritten l);
      held = no_numbers l.window;
      functions = no_functions conns (4 * conns);
      commands = no_commands (requests_room unwritten l) l.units;
      replies = no_replies conns (3 * most_at_once l);
      noted = nothing_handed conns (l.own * conns);
      unwritten = nothing_handed conns (unwritten * conns);
      withheld = [];
      awake = replicate conns false;
      over = replicate conns false;
      room = actions_room unwritten l;
    }

abbrev pub opened : Interface → State
opened i = opened_with i.unwritten (limits_of i.outbox) i.outbox.session.first

-- ---- commands

-- it isn't told to start as it is enabled: one that another session's reset takes out, nor a HEAD OF QUEUE command that would bar those
abbrev pub is_withheld : State → Command → Bool
is_withheld s c = is_marked c || (is_head c && is_clearing c.unit s.commands)

-- a ticket comes among others that go up
abbrev pub inserted : ℕ → List ℕ → List ℕ
inserted ticket [] = ticket ∷ []
inserted ticket (t ∷ ts) = if nat_lt ticket t then ticket ∷ t ∷ ts else t ∷ inserted ticket ts

-- a command is to be completed, and never starts, if there is room, as there is meant to be
abbrev pub withhold : ℕ → State → State
withhold ticket s = if nat_lt (length s.withheld) s.room then record s { withheld = inserted ticket s.withheld } else s
