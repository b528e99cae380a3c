-- The bytes of replies (RFC 7143 sections 11.4, 11.6, 11.15, 11.17 and 11.19; sense: SPC fixed format).
use Rattle.std.specs.Prelude.{ℕ, ◌/◌, ◌%◌, List, [], ◌∷◌, ◌++◌, length, replicate, Option, Some, None}
use Rattle.iscsi_wire.specs.declared.reply.Sense.{Sense}
use Rattle.iscsi_wire.specs.declared.reply.Reply.{Reply}
use Rattle.iscsi_wire.specs.declared.reply.Reply.TheVariants.{Scsi, Task, Logout, Nop, Reject}

-- a number's two, three or four bytes, the highest first
abbrev pub bytes_2 : ℕ → List ℕ
bytes_2 n = n / 256 % 256 ∷ n % 256 ∷ []

abbrev pub bytes_3 : ℕ → List ℕ
bytes_3 n = n / 65536 % 256 ∷ n / 256 % 256 ∷ n % 256 ∷ []

abbrev pub bytes_4 : ℕ → List ℕ
bytes_4 n = n / 16777216 % 256 ∷ n / 65536 % 256 ∷ n / 256 % 256 ∷ n % 256 ∷ []

abbrev pub NO_TAG : ℕ
NO_TAG = 0xffff_ffff

-- fixed-format sense of 18 bytes, after its length
abbrev pub sense_bytes : Sense → List ℕ
sense_bytes s = bytes_2 18 ++ 0x70 ∷ 0 ∷ s.key ∷ replicate 4 0 ++ 0x0a ∷ replicate 4 0 ++ s.asc ∷ s.ascq ∷ replicate 4 0

abbrev pub sense_tail : Option Sense → List ℕ
sense_tail None = []
sense_tail (Some s) = sense_bytes s

-- what follows a reply's header
abbrev pub tail_of : Reply → List ℕ
tail_of (Scsi itt status sense) = sense_tail sense
tail_of (Task itt response) = []
tail_of (Logout itt response) = []
tail_of (Nop itt) = []
tail_of (Reject reason header) = header

-- byte 0, the opcode
abbrev pub opcode_of : Reply → ℕ
opcode_of (Scsi itt status sense) = 0x21
opcode_of (Task itt response) = 0x22
opcode_of (Logout itt response) = 0x26
opcode_of (Nop itt) = 0x20
opcode_of (Reject reason header) = 0x3f

-- byte 2, the response or the reason
abbrev pub response_of : Reply → ℕ
response_of (Scsi itt status sense) = 0
response_of (Task itt response) = response
response_of (Logout itt response) = response
response_of (Nop itt) = 0
response_of (Reject reason header) = reason

-- byte 3, the status of a SCSI Response
abbrev pub status_of : Reply → ℕ
status_of (Scsi itt status sense) = status
status_of _ = 0

-- bytes 16 to 19, the tag of the request, which a Reject hasn't
abbrev pub tag_of : Reply → ℕ
tag_of (Scsi itt status sense) = itt
tag_of (Task itt response) = itt
tag_of (Logout itt response) = itt
tag_of (Nop itt) = itt
tag_of (Reject reason header) = NO_TAG

-- bytes 20 to 23: a NOP-In that answers a ping has no target transfer tag
abbrev pub transfer_tag_of : Reply → ℕ
transfer_tag_of (Nop itt) = NO_TAG
transfer_tag_of _ = 0

-- the 48 bytes of a reply's header
abbrev pub header_of : Reply → ℕ → ℕ → ℕ → List ℕ
header_of reply stat_sn exp max =
    opcode_of reply ∷ 0x80 ∷ response_of reply ∷ status_of reply
    ∷ 0 ∷ bytes_3 (length (tail_of reply)) ++ replicate 8 0
    ++ bytes_4 (tag_of reply) ++ bytes_4 (transfer_tag_of reply)
    ++ bytes_4 stat_sn ++ bytes_4 exp ++ bytes_4 max ++ replicate 12 0
