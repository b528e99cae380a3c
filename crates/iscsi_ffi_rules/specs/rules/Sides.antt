-- The state: a session and its outbox, and what is kept beside them.
use Rattle.std.specs.Prelude.{ℕ, ◌==◌, List, []}
use Rattle.std.specs.List.{find}
use Rattle.std.specs.Prelude.{Some, None}
use Rattle.iscsi_outbox_rules.specs.promises.Room.{Both, begun}
use Rattle.iscsi_ffi_rules.specs.rules.Calls.{Interface}

-- a request by the event in which it arrived, and the caller's word for it
pub record Asked : Type 0 where
  pub event : ℕ
  pub cookie : ℕ

-- a PDU of the target's own that is of no command, by its connection
pub record Noted : Type 0 where
  pub conn : ℕ
  pub cookie : ℕ

pub record Side : Type 0 where
  pub both : Both
  pub asked : List Asked  -- the requests that aren't forgotten, oldest first
  pub noted : List Noted  -- so the own PDUs that wait
  pub handed_notes : List Noted  -- and those that were handed out
  pub answers : List ℕ  -- of each reply of the session's log, the event of the request that it answers
  pub told : List ℕ  -- the tickets that were told to start
  pub marked : List ℕ  -- the tickets that another session's reset takes out
  pub awake : List ℕ  -- the connections that were told to be ready, and didn't give nothing since
  pub over : List ℕ  -- the connections that were told to be closed

abbrev pub opened : Interface → Side
opened i = record {
  both = begun i.outbox;
  asked = [];
  noted = [];
  handed_notes = [];
  answers = [];
  told = [];
  marked = [];
  awake = [];
  over = [];
}

-- the word of the request that arrived in this event
abbrev pub cookie_of : List Asked → ℕ → ℕ
cookie_of asked event = elim (find (λ (a : Asked). a.event == event) asked) [ Some a ↦ a.cookie | None ↦ 0 ]
