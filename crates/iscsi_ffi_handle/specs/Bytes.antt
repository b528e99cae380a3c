-- The bytes of a PDU that goes out, in a buffer.
use Rattle.std.specs.Prelude.{ℕ, List, [], ◌++◌, length, drop, replicate, Option, Some, None}
use Rattle.iscsi_wire.specs.Replies.{tail_of}
use Rattle.iscsi_outbox_steps.specs.declared.given.Handed.{Handed}
use Rattle.iscsi_outbox_steps.specs.declared.given.Pdu.{Pdu}
use Rattle.iscsi_outbox_steps.specs.declared.given.Pdu.TheVariants.{Reply, Own, Ping, Notice}
use Rattle.iscsi_outbox.specs.rules.Headers.{header_of}
use Rattle.iscsi_ffi.specs.declared.answer.Answer.{Answer}
use Rattle.iscsi_ffi.specs.declared.answer.Answer.TheVariants.{Done}
use Rattle.iscsi_ffi.specs.declared.side.outgoing.Next.{Next}
use Rattle.iscsi_ffi.specs.declared.side.outgoing.Next.TheVariants.{Goes, None as GivesNone}
use Rattle.iscsi_ffi_handle.specs.declared.plain.PlainPdu.{PlainPdu}

-- the data segment: only a reply of the session has one here
abbrev pub tail_in : Pdu → List ℕ
tail_in (Reply sent) = tail_of sent.reply
tail_in (Own own) = []
tail_in (Ping tag) = []
tail_in Notice = []

abbrev pub bytes_of : Handed → List ℕ
bytes_of h = header_of h ++ tail_in h.pdu

-- the PDU's bytes first, and what stood there behind them
abbrev pub put_first : List ℕ → List ℕ → List ℕ
put_first bytes buffer = bytes ++ drop (length bytes) buffer

abbrev pub kind_code : Pdu → ℕ
kind_code (Reply sent) = 1
kind_code (Own own) = 2
kind_code (Ping tag) = 3
kind_code Notice = 4

abbrev pub pdu_form : ℕ → ℕ → ℕ → ℕ → PlainPdu
pdu_form cookie kind has_cookie length = record { cookie = cookie; kind = kind; has_cookie = has_cookie; length = length; reserved = replicate 5 0 }

abbrev pub plain_pdu : Handed → Option ℕ → PlainPdu
plain_pdu h (Some cookie) = pdu_form cookie (kind_code h.pdu) 1 (length (bytes_of h))
plain_pdu h None = pdu_form 0 (kind_code h.pdu) 0 (length (bytes_of h))

-- ---- what `next` writes, and answers

abbrev pub buffer_after : Next → List ℕ → List ℕ
buffer_after (Goes h cookie) buffer = put_first (bytes_of h) buffer
buffer_after (GivesNone answer) buffer = buffer

abbrev pub pdu_after : Next → PlainPdu → PlainPdu
pdu_after (Goes h cookie) pdu = plain_pdu h cookie
pdu_after (GivesNone answer) pdu = pdu

abbrev pub answer_by : Next → Answer
answer_by (Goes h cookie) = Done
answer_by (GivesNone answer) = answer
