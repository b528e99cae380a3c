-- The words in which worked recordings are written: headers, settings, and events with what must come of them.
use Rattle.std.specs.Prelude.{◌≡◌, ℕ, ◌+◌, ◌/◌, ◌%◌, List, [], ◌∷◌, ◌++◌, map, replicate}
use Rattle.iscsi_wire.specs.declared.reply.Sense.{Sense}
use Rattle.iscsi_wire.specs.Fields.{request_of}
use Rattle.iscsi_tasks.specs.declared.task.Attr.{Attr}
use Rattle.iscsi_rules.specs.declared.effect.Effect.{Effect}
use Rattle.iscsi_rules.specs.declared.effect.Effect.TheVariants.{Deliver, Immediate, Wait, Enter, Enable, Ignore}
use Rattle.iscsi_rules.specs.declared.effect.Why.{Why}
use Rattle.iscsi_rules.specs.declared.event.Event.{Event}
use Rattle.iscsi_rules.specs.declared.event.Event.TheVariants.{Arrive, Done}
use Rattle.iscsi_rules.specs.declared.entry.Entry.{Entry}
use Rattle.iscsi_rules.specs.rules.Settings.{Setting}
use Rattle.iscsi_rules.specs.rules.Run.{run_of}

-- ---- headers

-- four bytes
abbrev pub word : ℕ → List ℕ
word n = n / 16777216 ∷ (n / 65536) % 256 ∷ (n / 256) % 256 ∷ n % 256 ∷ []

-- a header: bytes 0 and 1, the tag and CmdSN; the others are zero
abbrev pub head : ℕ → ℕ → ℕ → ℕ → List ℕ
head a b t n = a ∷ b ∷ replicate 14 0 ++ word t ++ word 0 ++ word n ++ replicate 20 0

-- the tag that names no task
abbrev pub NO_TAG : ℕ
NO_TAG = 0xffff_ffff

-- the header of a SCSI Command that is SIMPLE
abbrev pub command : ℕ → ℕ → List ℕ
command t n = head 0x01 0x81 t n

-- the header of a SCSI Command to a unit, with this ATTR
abbrev pub command_to : ℕ → ℕ → ℕ → ℕ → List ℕ
command_to u a t n = 0x01 ∷ (0x80 + a) ∷ replicate 7 0 ++ u ∷ replicate 6 0 ++ word t ++ word 0 ++ word n ++ replicate 20 0

-- the same, immediate
abbrev pub command_now : ℕ → ℕ → ℕ → ℕ → List ℕ
command_now u a t n = 0x41 ∷ (0x80 + a) ∷ replicate 7 0 ++ u ∷ replicate 6 0 ++ word t ++ word 0 ++ word n ++ replicate 20 0

-- an immediate SCSI Command
abbrev pub immediate_command : ℕ → List ℕ
immediate_command t = head 0x41 0x81 t 1

-- the header of a SIMPLE SCSI Command with these eight bytes as its LUN
abbrev pub command_lun : List ℕ → ℕ → ℕ → List ℕ
command_lun lun t n = 0x01 ∷ 0x81 ∷ replicate 6 0 ++ lun ++ word t ++ word 0 ++ word n ++ replicate 20 0

-- a NOP-Out, and an immediate one
abbrev pub nop : ℕ → ℕ → List ℕ
nop t n = head 0x00 0x80 t n

abbrev pub nop_now : ℕ → ℕ → List ℕ
nop_now t n = head 0x40 0x80 t n

-- the header of a Task Management Request: byte 0, the function, CmdSN, the tag, the referenced tag and RefCmdSN, the unit
abbrev pub management : ℕ → ℕ → ℕ → ℕ → ℕ → ℕ → ℕ → List ℕ
management first f n t rt ref u = first ∷ (0x80 + f) ∷ replicate 7 0 ++ u ∷ replicate 6 0 ++ word t ++ word rt ++ word n ++ word 0 ++ word ref ++ replicate 12 0

-- an immediate one to unit 0
abbrev pub function_now : ℕ → ℕ → ℕ → ℕ → ℕ → List ℕ
function_now f n t rt ref = management 0x42 f n t rt ref 0

-- the header of a Logout Request, of this reason and CID
abbrev pub logout : ℕ → ℕ → ℕ → ℕ → ℕ → List ℕ
logout a reason t n cid = a ∷ (0x80 + reason) ∷ replicate 14 0 ++ word t ++ 0 ∷ cid ∷ 0 ∷ 0 ∷ word n ++ replicate 20 0

-- an immediate one
abbrev pub logout_now : ℕ → ℕ → ℕ → ℕ → List ℕ
logout_now reason t n cid = logout 0x46 reason t n cid

-- ---- settings

-- a session of one connection that begins with CmdSN 1 and StatSN 1
abbrev pub setting : ℕ → ℕ → Setting
setting conn window = record { first = 1; window = window; units = 1; depth = 64; level = 1; events = 1048576; conns = (conn, 1) ∷ [] }

-- a session of two connections
abbrev pub of_two : ℕ → Setting
of_two window = record (setting 1 window) { conns = (1, 1) ∷ (2, 1) ∷ [] }

-- ---- events, and what must come of them

abbrev pub entry : ℕ → ℕ → List Effect → Entry
entry exp max effects = record { numbers = record { exp = exp; max = max }; effects = effects }

-- the sense of a SCSI Command to a unit that there isn't: ILLEGAL REQUEST, LOGICAL UNIT NOT SUPPORTED
abbrev pub absent_unit : Sense
absent_unit = record { key = 5; asc = 0x25; ascq = 0 }

-- an event with its entry of the log
abbrev pub Row : Type 0
Row = Event × Entry

-- a session with these options gives for these events these entries
abbrev pub Worked : Setting → List Row → Type 0
Worked o rows = run_of o (map (λ (r : Row). r.0) rows) ≡ map (λ (r : Row). r.1) rows

-- a numbered request arrives on a connection, and its turn has come. After it: ExpCmdSN, MaxCmdSN, and its other effects
abbrev pub turn : ℕ → List ℕ → ℕ → ℕ → List Effect → Row
turn conn header exp max effects = (Arrive conn header, entry exp max (Deliver (request_of conn header) ∷ effects))

-- an immediate request arrives, and executes
abbrev pub at_once : ℕ → List ℕ → ℕ → ℕ → List Effect → Row
at_once conn header exp max effects = (Arrive conn header, entry exp max (Immediate (request_of conn header) ∷ effects))

-- a numbered request arrives, and is held
abbrev pub is_held : ℕ → List ℕ → ℕ → ℕ → Row
is_held conn header exp max = (Arrive conn header, entry exp max [])

-- an immediate function arrives, and waits
abbrev pub waits : ℕ → List ℕ → ℕ → ℕ → Row
waits conn header exp max = (Arrive conn header, entry exp max (Wait (request_of conn header) ∷ []))

-- a request arrives, and is passed over
abbrev pub is_ignored : ℕ → List ℕ → Why → ℕ → ℕ → Row
is_ignored conn header why exp max = (Arrive conn header, entry exp max (Ignore why ∷ []))

-- a unit completes a command
abbrev pub done : ℕ → ℕ → ℕ → ℕ → List Effect → Row
done ticket status exp max effects = (Done ticket status, entry exp max effects)

-- a command enters the task set of a unit, and is enabled
abbrev pub entered : ℕ → ℕ → Attr → List Effect
entered ticket unit attr = Enter ticket unit attr ∷ Enable ticket unit ∷ []
