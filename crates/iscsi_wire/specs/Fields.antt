-- The fields of a request's header (RFC 7143 chapter 11), and the unit of a LUN (SAM-5 section 4.7).
use Rattle.std.specs.Prelude.{ℕ, ◌+◌, ◌*◌, ◌/◌, ◌%◌, ◌==◌, Bool, List, [], ◌∷◌, take, drop, Option, Some, None, if◌then◌else◌, slice_index}
use Rattle.std.specs.List.{list_all}
use Rattle.iscsi_wire.specs.declared.request.Request.{Request}

-- the request that came on a connection with this header
abbrev pub request_of : ℕ → List ℕ → Request
request_of conn header = record { conn = conn; bytes = header }

-- the connection that a request came on, and its header
abbrev pub connection_of : Request → ℕ
connection_of r = r.conn

abbrev pub header_of : Request → List ℕ
header_of r = r.bytes

-- the big-endian number of some bytes
abbrev pub big_endian_from : ℕ → List ℕ → ℕ
big_endian_from n [] = n
big_endian_from n (b ∷ bs) = big_endian_from (256 * n + b) bs

-- the number in the len bytes from byte `from` on
abbrev pub field : ℕ → ℕ → Request → ℕ
field from len r = big_endian_from 0 (take len (drop from (header_of r)))

-- byte 0: the I bit 0x40, and the opcode in the low six bits
abbrev pub is_immediate : Request → Bool
is_immediate r = (slice_index (header_of r) 0 / 64) % 2 == 1

abbrev pub opcode : Request → ℕ
opcode r = slice_index (header_of r) 0 % 64

-- byte 1 of a SCSI Command: ATTR in the low three bits
abbrev pub attr_code : Request → ℕ
attr_code r = slice_index (header_of r) 1 % 8

-- byte 1 of a Task Management Request, and of a Logout Request: the low seven bits
abbrev pub function : Request → ℕ
function r = slice_index (header_of r) 1 % 128

abbrev pub lun : Request → List ℕ
lun r = take 8 (drop 8 (header_of r))

abbrev pub itt : Request → ℕ
itt r = field 16 4 r

abbrev pub rtt : Request → ℕ
rtt r = field 20 4 r

abbrev pub cid : Request → ℕ
cid r = field 20 2 r

abbrev pub cmd_sn : Request → ℕ
cmd_sn r = field 24 4 r

abbrev pub ref_cmd_sn : Request → ℕ
ref_cmd_sn r = field 32 4 r

abbrev pub cdb : Request → List ℕ
cdb r = take 16 (drop 32 (header_of r))

-- the unit that eight bytes name: peripheral device addressing on bus 0, or flat space addressing, with
-- nothing in the lower levels
abbrev pub unit_of : List ℕ → Option ℕ
unit_of lun =
    let b0 = slice_index lun 0 in
    let b1 = slice_index lun 1 in
    if list_all (λ b. b == 0) (drop 2 lun)
    then (if b0 == 0 then Some b1 else (if b0 / 64 == 1 then Some ((b0 % 64) * 256 + b1) else None))
    else None
