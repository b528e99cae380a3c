-- The plain form of options and of effects, in which C gives and reads them.
use Rattle.std.specs.Prelude.{ℕ, ◌-◌, List, [], ◌++◌, length, take, replicate, map, slice_get, Option, Some, None, option_map}
use Rattle.std.specs.List.{filter_map, last_or}
use Rattle.iscsi_wire.specs.declared.request.Request.{Request}
use Rattle.iscsi_wire.specs.declared.reply.Reply.{Reply}
use Rattle.iscsi_wire.specs.Fields.{connection_of, cmd_sn}
use Rattle.iscsi_wire.specs.Fields as fields
use Rattle.iscsi_wire.specs.Replies as replies
use Rattle.iscsi_tasks.specs.declared.task.Attr.{Attr}
use Rattle.iscsi_tasks.specs.declared.task.Attr.TheVariants.{Simple, Ordered, Head}
use Rattle.iscsi_rules.specs.declared.effect.Effect.{Effect}
use Rattle.iscsi_rules.specs.declared.effect.Effect.TheVariants.{Deliver, Immediate, Wait, Void, Empty, Enter, Enable, Leave, Send, CloseConn, CloseSession, Ignore}
use Rattle.iscsi_rules.specs.declared.effect.Numbers.{Numbers}
use Rattle.iscsi_rules.specs.declared.effect.Why.{Why}
use Rattle.iscsi_rules.specs.declared.effect.Why.TheVariants.{Outside, Duplicate, Closed, Stale, Data}
use Rattle.iscsi_rules.specs.rules.Settings.{Setting}
use Rattle.iscsi_host.specs.declared.options.PlainOptions.{PlainOptions}
use Rattle.iscsi_host.specs.declared.options.PlainConnection.{PlainConnection}
use Rattle.iscsi_host.specs.declared.plain.PlainEffect.{PlainEffect}

-- ---- options

abbrev pub connection_pair : PlainConnection → ℕ × ℕ
connection_pair c = (c.cid, c.first_stat_sn)

abbrev pub plain_setting : PlainOptions → List PlainConnection → Setting
plain_setting o connections = record {
  first = o.first_cmd_sn;
  window = o.window;
  units = o.units;
  depth = o.depth;
  level = o.level;
  events = o.events;
  conns = map connection_pair connections;
}

-- ---- effects

-- ATTR (RFC 7143 section 11.3.1)
abbrev pub attribute_code : Attr → ℕ
attribute_code Simple = 1
attribute_code Ordered = 2
attribute_code Head = 3

abbrev pub reason_code : Why → ℕ
reason_code Outside = 1
reason_code Duplicate = 2
reason_code Closed = 3
reason_code Stale = 4
reason_code Data = 5

-- 48 bytes: those given, and zeros
abbrev pub padded : List ℕ → List ℕ
padded bytes = take 48 bytes ++ replicate (48 - length bytes) 0

abbrev pub NO_HEADER : List ℕ
NO_HEADER = replicate 48 0

abbrev pub form : (kind ticket sn cid unit attribute reason : ℕ) → List ℕ → List ℕ → PlainEffect
form kind ticket sn cid unit attribute reason header tail = record {
  ticket = ticket;
  sn = sn;
  cid = cid;
  unit = unit;
  kind = kind;
  attribute = attribute;
  reason = reason;
  tail_length = length tail;
  header = header;
  tail = padded tail;
  reserved = replicate 4 0;
}

abbrev pub request_form : ℕ → Request → PlainEffect
request_form kind r = form kind 0 (cmd_sn r) (connection_of r) 0 0 0 (fields.header_of r) []

abbrev pub number_form : ℕ → ℕ → PlainEffect
number_form kind sn = form kind 0 sn 0 0 0 0 NO_HEADER []

abbrev pub command_form : ℕ → ℕ → ℕ → PlainEffect
command_form kind ticket unit = form kind ticket 0 0 unit 0 0 NO_HEADER []

-- a command that enters, with the header of its request
abbrev pub enter_form : ℕ → ℕ → Attr → Option Request → PlainEffect
enter_form ticket unit attr (Some r) = form 6 ticket (cmd_sn r) (connection_of r) unit (attribute_code attr) 0 (fields.header_of r) []
enter_form ticket unit attr None = form 6 ticket 0 0 unit (attribute_code attr) 0 NO_HEADER []

-- a reply, encoded with the numbers of its event
abbrev pub reply_form : ℕ → ℕ → Reply → Numbers → PlainEffect
reply_form cid stat_sn reply n = form 9 0 stat_sn cid 0 0 0 (replies.header_of reply stat_sn n.exp n.max) (replies.tail_of reply)

-- the plain form of an effect, where `request` is the last one that executed before it
abbrev pub plain_of : Effect → Option Request → Numbers → PlainEffect
plain_of (Deliver r) request n = request_form 1 r
plain_of (Immediate r) request n = request_form 2 r
plain_of (Wait r) request n = request_form 3 r
plain_of (Void sn) request n = number_form 4 sn
plain_of (Empty sn) request n = number_form 5 sn
plain_of (Enter ticket unit attr) request n = enter_form ticket unit attr request
plain_of (Enable ticket unit) request n = command_form 7 ticket unit
plain_of (Leave ticket unit) request n = command_form 8 ticket unit
plain_of (Send conn stat_sn reply) request n = reply_form conn stat_sn reply n
plain_of (CloseConn conn) request n = form 10 0 0 conn 0 0 0 NO_HEADER []
plain_of CloseSession request n = form 11 0 0 0 0 0 0 NO_HEADER []
plain_of (Ignore why) request n = form 12 0 0 0 0 0 (reason_code why) NO_HEADER []

-- ---- the effects of an event

-- the request that executes
abbrev pub executing : Effect → Option Request
executing (Deliver r) = Some r
executing (Immediate r) = Some r
executing _ = None

-- the last request that executes among the effects
abbrev pub last_executing : List Effect → Option Request
last_executing es = last_or None (filter_map executing es)

-- the plain form of the effect with this index, if there is one
abbrev pub plain_at : List Effect → Numbers → ℕ → Option PlainEffect
plain_at es n index = option_map (λ (e : Effect). plain_of e (last_executing (take index es)) n) (slice_get es index)
