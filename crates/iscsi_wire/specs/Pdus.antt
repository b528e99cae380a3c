-- What an encoded PDU holds.
use Rattle.std.specs.Prelude.{ℕ, List, []}
use Rattle.iscsi_wire.specs.declared.pdu.Pdu.{Pdu}
use Rattle.iscsi_wire.specs.declared.pdu.Tail.{Tail}
use Rattle.iscsi_wire.specs.declared.pdu.Tail.TheVariants.{Nothing, Sense, Header}

abbrev pub bytes_of_tail : Tail → List ℕ
bytes_of_tail Nothing = []
bytes_of_tail (Sense bytes) = bytes
bytes_of_tail (Header bytes) = bytes

-- the header's bytes
abbrev pub pdu_header : Pdu → List ℕ
pdu_header p = p.header

-- the bytes after the header
abbrev pub pdu_tail : Pdu → List ℕ
pdu_tail p = bytes_of_tail p.tail
