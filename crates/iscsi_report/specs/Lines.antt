-- The lines of a report.
use Rattle.std.specs.Prelude.{ℕ, List, [], ◌∷◌, ◌++◌, codes, decimal}
use Rattle.std.specs.List.{flat_map}
use Rattle.hex.specs.Hex.{encode_lower}
use Rattle.iscsi_wire.specs.declared.request.Request.{Request}
use Rattle.iscsi_wire.specs.Fields.{connection_of, cmd_sn, itt}
use Rattle.iscsi_wire.specs.Replies.{bytes_4, header_of, tail_of}
use Rattle.iscsi_tasks.specs.declared.task.Attr.{Attr}
use Rattle.iscsi_tasks.specs.declared.task.Attr.TheVariants.{Simple, Ordered, Head}
use Rattle.iscsi_rules.specs.declared.effect.Why.{Why}
use Rattle.iscsi_rules.specs.declared.effect.Why.TheVariants.{Outside, Duplicate, Closed, Stale, Data}
use Rattle.iscsi_rules.specs.declared.effect.Effect.{Effect}
use Rattle.iscsi_rules.specs.declared.effect.Effect.TheVariants.{Deliver, Immediate, Wait, Void, Empty, Enter, Enable, Leave, Send, CloseConn, CloseSession, Ignore}
use Rattle.iscsi_rules.specs.declared.effect.Numbers.{Numbers}
use Rattle.iscsi_rules.specs.declared.event.Event.{Event}
use Rattle.iscsi_rules.specs.declared.event.Event.TheVariants.{Arrive, Done}
use Rattle.iscsi_rules.specs.declared.entry.Entry.{Entry}

-- a number of 32 bits in eight lower case hexadecimal digits
abbrev pub eight_digits : ℕ → List ℕ
eight_digits n = encode_lower (bytes_4 n)

-- `> C cid header` or `> D ticket status`
abbrev pub event_line : Event → List ℕ
event_line (Arrive conn header) = codes "> C " ++ (decimal conn ++ (codes " " ++ (encode_lower header ++ codes "\n")))
event_line (Done ticket status) = codes "> D " ++ (decimal ticket ++ (codes " " ++ (encode_lower (status ∷ []) ++ codes "\n")))

abbrev pub attr_word : Attr → List ℕ
attr_word Simple = codes "simple"
attr_word Ordered = codes "ordered"
attr_word Head = codes "head"

abbrev pub why_word : Why → List ℕ
why_word Outside = codes "outside"
why_word Duplicate = codes "duplicate"
why_word Closed = codes "closed"
why_word Stale = codes "stale"
why_word Data = codes "data"

-- `cid sn itt`: the connection, CmdSN and tag of a request
abbrev pub request_fields : Request → List ℕ
request_fields r = decimal (connection_of r) ++ (codes " " ++ (eight_digits (cmd_sn r) ++ (codes " " ++ eight_digits (itt r))))

-- `ticket unit attr`
abbrev pub enter_fields : ℕ → ℕ → Attr → List ℕ
enter_fields ticket unit attr = decimal ticket ++ (codes " " ++ (decimal unit ++ (codes " " ++ attr_word attr)))

-- an effect, with ExpCmdSN and MaxCmdSN of the end of its event
abbrev pub effect_text : Effect → Numbers → List ℕ
effect_text (Deliver request) n = codes "deliver " ++ request_fields request
effect_text (Immediate request) n = codes "immediate " ++ request_fields request
effect_text (Wait request) n = codes "wait " ++ request_fields request
effect_text (Void sn) n = codes "void " ++ eight_digits sn
effect_text (Empty sn) n = codes "empty " ++ eight_digits sn
effect_text (Enter ticket unit attr) n = codes "enter " ++ enter_fields ticket unit attr
effect_text (Enable ticket unit) n = codes "enable " ++ decimal ticket
effect_text (Leave ticket unit) n = codes "leave " ++ decimal ticket
effect_text (Send conn stat_sn reply) n =
    codes "send " ++ (decimal conn ++ (codes " " ++ encode_lower (header_of reply stat_sn n.exp n.max ++ tail_of reply)))
effect_text (CloseConn conn) n = codes "close-conn " ++ decimal conn
effect_text CloseSession n = codes "close-session"
effect_text (Ignore why) n = codes "ignore " ++ why_word why

-- two blanks, the effect and a line feed
abbrev pub effect_line : Effect → Numbers → List ℕ
effect_line effect n = codes "  " ++ (effect_text effect n ++ codes "\n")

-- the lines of what an event came to
abbrev pub entry_lines : Entry → List ℕ
entry_lines entry = flat_map (λ effect. effect_line effect entry.numbers) entry.effects

-- the report of events with their entries
abbrev pub report_from : List Event → List Entry → List ℕ
report_from [] log = []
report_from (e ∷ es) [] = []
report_from (e ∷ es) (entry ∷ log) = event_line e ++ (entry_lines entry ++ report_from es log)
