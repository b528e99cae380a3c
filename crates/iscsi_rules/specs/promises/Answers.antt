-- Replies: a request that executed has at most one, and one whose command was taken out has none.
use Rattle.std.specs.Prelude.{◌≡◌, ◌≤◌, ℕ, false, List, [], ◌∷◌, ◌++◌, length, Some, None, Contains, ⊤}
use Rattle.iscsi_wire.specs.declared.reply.Reply.{Reply}
use Rattle.iscsi_wire.specs.declared.reply.Reply.TheVariants.{Scsi, Task, Logout, Nop, Reject}
use Rattle.iscsi_wire.specs.declared.request.Request.{Request}
use Rattle.iscsi_wire.specs.Fields.{connection_of, header_of, itt}
use Rattle.iscsi_rules.specs.declared.effect.Effect.{Effect}
use Rattle.iscsi_rules.specs.declared.effect.Effect.TheVariants.{Leave, Send, Ignore}
use Rattle.iscsi_rules.specs.declared.effect.Why.TheVariants.{Stale}
use Rattle.iscsi_rules.specs.declared.event.Event.{Event}
use Rattle.iscsi_rules.specs.declared.event.Event.TheVariants.{Arrive, Done}
use Rattle.iscsi_rules.specs.declared.entry.Entry.{Entry}
use Rattle.iscsi_rules.specs.rules.Settings.{Setting}
use Rattle.iscsi_rules.specs.rules.Trace.{Arrival, Command, Mark, Leaves, Sends, Trace, admitted, is_delivered}
use Rattle.iscsi_rules.specs.rules.Execution.{sense_of_status}
use Rattle.iscsi_rules.specs.rules.Run.{trace_of}
use Rattle.iscsi_rules.specs.promises.Enabling.{effects_so_far, effects_in}
use Rattle.iscsi_rules.specs.promises.Replies.{executed_in, answered_in, replies_to}

-- the reply is one to the request: it has its tag, and a Reject has its header
abbrev pub Answers : Request → Reply → Type 0
Answers r (Scsi tag status sense) = tag ≡ itt r
Answers r (Task tag response) = tag ≡ itt r
Answers r (Logout tag response) = tag ≡ itt r
Answers r (Nop tag) = tag ≡ itt r
Answers r (Reject reason header) = header ≡ header_of r

pub record AnswersOnce (t : Trace) : Type 0 where
  -- a request has at most one reply
  pub once : (event : ℕ) → length (replies_to event t) ≤ 1
  -- what goes out in the item by which it executes goes out on its connection, and is a reply to it
  pub fitting : (later before : Trace) (item : List Mark) (a : Arrival) → later ++ item ∷ before ≡ t → executed_in item ≡ Some a
      → (conn : ℕ) (reply : Reply) → Contains item (Sends conn reply) → (conn ≡ connection_of a.request) × Answers a.request reply
  -- a completion is the leaving of the command and, right after it, a SCSI Response on its connection, with its tag
  pub completing : (later before : Trace) (c : Command) (ms : List Mark) → later ++ (Leaves c ∷ ms) ∷ before ≡ t
      → (status : ℕ) × (ms ≡ Sends (connection_of c.arrival.request) (Scsi (itt c.arrival.request) status (sense_of_status status)) ∷ [])
  -- an item that answers no request sends nothing, or is the Reject of one that doesn't execute, for its opcode
  pub rejecting : (later before : Trace) (item : List Mark) → later ++ item ∷ before ≡ t → answered_in item ≡ None → (conn : ℕ) (reply : Reply) → Contains item (Sends conn reply)
      → (r : Request) × (item ≡ Sends (connection_of r) (Reject 5 (header_of r)) ∷ [])
  -- a command that left while a request executed, by an abort or a Logout, is never answered, before or after
  pub unanswered : (later before : Trace) (item : List Mark) (a : Arrival) (c : Command) → later ++ item ∷ before ≡ t → executed_in item ≡ Some a → Contains item (Leaves c)
      → replies_to c.arrival.event t ≡ []
  -- nor is a numbered request that wasn't delivered, as one that is taken out while it is held
  pub undelivered : (n : ℕ) (a : Arrival) → admitted t n ≡ Some a → is_delivered t n ≡ false → replies_to a.event t ≡ []

-- a completion is passed over, or the command of its ticket leaves and is answered with its status
abbrev pub CompletesWith : ℕ → ℕ → List Effect → Type 0
CompletesWith ticket status (Ignore why ∷ rest) = why ≡ Stale
CompletesWith ticket status (Leave left unit ∷ Send conn stat_sn (Scsi tag shown sense) ∷ rest) = (left ≡ ticket) × (shown ≡ status) × (sense ≡ sense_of_status status)
CompletesWith ticket status _ = ⊥

-- so is each completion of the events, in its own entry of the log
abbrev pub CompletesAll : List Event → List Entry → Type 0
CompletesAll [] [] = ⊤
CompletesAll (Arrive conn header ∷ h) (entry ∷ log) = CompletesAll h log
CompletesAll (Done ticket status ∷ h) (entry ∷ log) = CompletesWith ticket status entry.effects × CompletesAll h log
CompletesAll _ _ = ⊥

pub record AnswersOnceIn (o : Setting) (h : List Event) (log : List Entry) : Type 0 where
  -- the log has the effects of all items, one after the other
  pub whole : effects_in log ≡ effects_so_far o (trace_of o h)
  pub hold : AnswersOnce (trace_of o h)
  pub completed : CompletesAll h log
