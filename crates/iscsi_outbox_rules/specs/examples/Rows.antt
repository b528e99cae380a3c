-- The words in which worked lists are written: the events of a session and the calls to its outbox, and what they answer.
use Rattle.std.specs.Prelude.{◌≡◌, ℕ, ◌+◌, Bool, true, false, List, [], ◌∷◌, ◌++◌, map, replicate, Option, Some, None}
use Rattle.iscsi_wire.specs.declared.reply.Reply.{Reply}
use Rattle.iscsi_wire.specs.Replies.{NO_TAG}
use Rattle.iscsi_rules.specs.declared.event.Event.{Event}
use Rattle.iscsi_rules.specs.declared.event.Event.TheVariants.{Arrive, Done}
use Rattle.iscsi_rules.specs.rules.Settings.{Setting}
use Rattle.iscsi_rules.specs.rules.Trace.{Trace}
use Rattle.iscsi_rules.specs.rules.Run.{entry_of, after_event}
use Rattle.iscsi_rules.specs.examples.Rows.{word}
use Rattle.iscsi_outbox_rules.specs.declared.own_pdu.OwnPdu.{OwnPdu}
use Rattle.iscsi_outbox_rules.specs.declared.own_pdu.OwnPdu.TheVariants.{OfCommand, OfConnection}
use Rattle.iscsi_outbox_rules.specs.declared.own_pdu.PutRefusal.{PutRefusal}
use Rattle.iscsi_outbox_rules.specs.rules.Calls.{Opening, Call, Takes, Puts, Stops, Nexts, Writes, Hears, Joins, Loses}
use Rattle.iscsi_outbox_rules.specs.rules.Boxes.{Pdu, Replies, Box}
use Rattle.iscsi_outbox_rules.specs.rules.Handing.{Given, Hands, Nothing, IsOver}
use Rattle.iscsi_outbox_rules.specs.rules.Run.{opened, after_calls, Answered, Silent, Put, Stopped, Gives, Joined, answered_by}

-- an outbox of a session, in which what was written is under way until it is known to have arrived
abbrev pub outbox : Setting → Opening
outbox setting = record { session = setting; own = 4; acknowledged = true; shared = false }

-- something happens to the session, or its outbox is called
pub data Move : Type 0 where
  Happens : Event → Move
  Calls : Call → Move

-- the calls of these moves: the session's entry of each event is taken
abbrev pub calls_from : Setting → ℕ → Trace → List Move → List Call
calls_from o event t [] = []
calls_from o event t (Happens e ∷ ms) = let entry = entry_of o event t e in Takes entry.effects entry.numbers ∷ calls_from o (event + 1) (after_event o event t e) ms
calls_from o event t (Calls c ∷ ms) = c ∷ calls_from o event t ms

abbrev pub calls_of : Opening → List Move → List Call
calls_of o ms = calls_from o.session 0 [] ms

-- what a call answers, as rows have it
pub data Said : Type 0 where
  Quiet : Said
  IsIn : Said  -- the own PDU, or the connection, was taken
  Refused : PutRefusal → Said
  IsRefused : Said  -- the connection may not join
  WasRunning : Said
  WasStill : Said  -- it wasn't running, or there is no such command
  Goes : Pdu → ℕ → ℕ → ℕ → Said  -- a PDU goes out with this StatSN, ExpCmdSN and MaxCmdSN
  NoneGoes : Said
  NoneIsLeft : Said  -- nothing goes out on the connection any more

abbrev pub said_by_given : Given → Said
said_by_given (Hands h) = Goes h.out.pdu h.stat_sn h.exp h.max
said_by_given Nothing = NoneGoes
said_by_given IsOver = NoneIsLeft

abbrev pub said_by_put : Option PutRefusal → Said
said_by_put (Some refusal) = Refused refusal
said_by_put None = IsIn

abbrev pub said_by_stopped : Bool → Said
said_by_stopped true = WasRunning
said_by_stopped false = WasStill

abbrev pub said_by_join : Bool → Said
said_by_join true = IsIn
said_by_join false = IsRefused

abbrev pub said : Answered → Said
said Silent = Quiet
said (Put refusal) = said_by_put refusal
said (Stopped was) = said_by_stopped was
said (Gives given) = said_by_given given
said (Joined may) = said_by_join may

abbrev pub Row : Type 0
Row = Move × Said

-- an outbox of this session answers so
abbrev pub Worked : Opening → List Row → Type 0
Worked o rows = map said (answered_by o (calls_of o (map (λ (r : Row). r.0) rows))) ≡ map (λ (r : Row). r.1) rows

-- the state after these moves
abbrev pub box_after : Opening → List Move → Box
box_after o ms = after_calls o (opened o) (calls_of o ms)

-- ---- moves, and what they answer

abbrev pub arrives : ℕ → List ℕ → Row
arrives conn header = (Happens (Arrive conn header), Quiet)

abbrev pub completes : ℕ → ℕ → Row
completes ticket status = (Happens (Done ticket status), Quiet)

abbrev pub joins : ℕ → ℕ → Row
joins conn stat_sn = (Calls (Joins conn stat_sn), IsIn)

abbrev pub is_lost : ℕ → Row
is_lost conn = (Calls (Loses conn), Quiet)

abbrev pub stops : ℕ → Row
stops ticket = (Calls (Stops ticket), WasRunning)

abbrev pub is_written : ℕ → Row
is_written conn = (Calls (Writes conn), Quiet)

-- a header that acknowledges all StatSNs before this one
abbrev pub acknowledges : ℕ → ℕ → Row
acknowledges conn exp_stat_sn = (Calls (Hears conn exp_stat_sn NO_TAG), Quiet)

-- the answer to a ping, with this ExpStatSN
abbrev pub answers_ping : ℕ → ℕ → ℕ → Row
answers_ping conn exp_stat_sn tag = (Calls (Hears conn exp_stat_sn tag), Quiet)

abbrev pub goes : ℕ → Pdu → ℕ → ℕ → ℕ → Row
goes conn pdu stat_sn exp max = (Calls (Nexts conn), Goes pdu stat_sn exp max)

abbrev pub replies : ℕ → Reply → ℕ → ℕ → ℕ → Row
replies conn reply stat_sn exp max = goes conn (Replies reply) stat_sn exp max

abbrev pub none_goes : ℕ → Row
none_goes conn = (Calls (Nexts conn), NoneGoes)

abbrev pub none_is_left : ℕ → Row
none_is_left conn = (Calls (Nexts conn), NoneIsLeft)

-- a Data-In of a command
abbrev pub data_of : ℕ → OwnPdu
data_of ticket = OfCommand ticket (0x25 ∷ replicate 47 0)

-- an Asynchronous Message
abbrev pub message : ℕ → OwnPdu
message conn = OfConnection conn (0x32 ∷ 0x80 ∷ replicate 46 0)

-- a NOP-In of the target's own, with this transfer tag
abbrev pub own_nop : ℕ → ℕ → OwnPdu
own_nop conn tag = OfConnection conn (0x20 ∷ 0x80 ∷ replicate 14 0 ++ word NO_TAG ++ word tag ++ replicate 24 0)

abbrev pub puts : OwnPdu → Row
puts p = (Calls (Puts p), IsIn)

abbrev pub is_refused : OwnPdu → PutRefusal → Row
is_refused p refusal = (Calls (Puts p), Refused refusal)
