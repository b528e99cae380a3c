-- The target's own PDUs (RFC 7143 sections 11.7, 11.8, 11.9, 11.11 and 11.19).
use Rattle.std.specs.Prelude.{ℕ, ◌%◌, ◌==◌, ◌&&◌, ◌||◌, not, nat_lt, nat_le, Bool, true, false, List, [], take, drop, filter, count_by, Option, Some, None, if◌then◌else◌, slice_index}
use Rattle.iscsi_wire.specs.Fields.{big_endian_from}
use Rattle.iscsi_wire.specs.Replies.{NO_TAG}
use Rattle.iscsi_rules.specs.rules.Trace.{first_of}
use Rattle.iscsi_outbox_rules.specs.declared.own_pdu.OwnPdu.{OwnPdu}
use Rattle.iscsi_outbox_rules.specs.declared.own_pdu.OwnPdu.TheVariants.{OfCommand, OfConnection}
use Rattle.iscsi_outbox_rules.specs.declared.own_pdu.PutRefusal.{PutRefusal}
use Rattle.iscsi_outbox_rules.specs.declared.own_pdu.PutRefusal.TheVariants.{Unfit, Gone as GoneRefusal, Closed, Full}
use Rattle.iscsi_outbox_rules.specs.rules.Calls.{Opening}
use Rattle.iscsi_outbox_rules.specs.rules.Boxes.{Task, Pdu, Owns, Outgoing, Link, Box}
use Rattle.iscsi_outbox_rules.specs.rules.Words.{is_live_phase, is_usable}
use Rattle.iscsi_outbox_rules.specs.rules.Queues.{enter}

abbrev pub pdu_opcode : List ℕ → ℕ
pdu_opcode header = slice_index header 0 % 64

abbrev pub pdu_word : ℕ → List ℕ → ℕ
pdu_word from header = big_endian_from 0 (take 4 (drop from header))

-- the first transfer tag that is kept for pings
abbrev pub FIRST_PING : ℕ
FIRST_PING = 0x8000_0000

-- a transfer tag that isn't kept for pings
abbrev pub is_free_tag : ℕ → Bool
is_free_tag tag = nat_lt tag FIRST_PING || tag == NO_TAG

-- a Data-In without the S bit, or an R2T; a NOP-In without a task's tag, a Text Response or an Asynchronous Message
abbrev pub is_fit : OwnPdu → Bool
is_fit (OfCommand ticket header) = pdu_opcode header == 0x31 || (pdu_opcode header == 0x25 && slice_index header 1 % 2 == 0)
is_fit (OfConnection conn header) =
    pdu_opcode header == 0x24 || pdu_opcode header == 0x32
    || (pdu_opcode header == 0x20 && pdu_word 16 header == NO_TAG && is_free_tag (pdu_word 20 header))

-- it takes a StatSN: a Text Response, an Asynchronous Message
abbrev pub own_takes : OwnPdu → Bool
own_takes (OfCommand ticket header) = false
own_takes (OfConnection conn header) = not (pdu_opcode header == 0x20)

abbrev pub own_ticket : OwnPdu → Option ℕ
own_ticket (OfCommand ticket header) = Some ticket
own_ticket (OfConnection conn header) = None

-- the live command with this ticket
abbrev pub live_task : Box → ℕ → Option Task
live_task b ticket = first_of (filter (λ (t : Task). t.ticket == ticket && is_live_phase t.phase) b.tasks)

-- the connection that it goes out on
abbrev pub own_conn : Box → OwnPdu → Option ℕ
own_conn b (OfCommand ticket header) = elim (live_task b ticket) [ Some t ↦ Some t.conn | None ↦ None ]
own_conn b (OfConnection conn header) = Some conn

abbrev pub is_own : Pdu → Bool
is_own (Owns p) = true
is_own _ = false

abbrev pub is_full : Opening → Link → Bool
is_full o l = nat_le o.own (count_by (λ (out : Outgoing). is_own out.pdu) l.queue)

abbrev pub refusal_on : Opening → Box → ℕ → Option PutRefusal
refusal_on o b conn = elim (first_of (filter (λ (l : Link). l.conn == conn && is_usable l) b.links)) [
  | Some l ↦ if is_full o l then Some Full else None
  | None ↦ Some Closed
]

-- outbox: put/unfit, put/gone, put/closed, put/full
abbrev pub put_refusal : Opening → Box → OwnPdu → Option PutRefusal
put_refusal o b p =
    if not (is_fit p) then Some Unfit
    else elim (own_conn b p) [ Some conn ↦ refusal_on o b conn | None ↦ Some GoneRefusal ]

abbrev pub own_outgoing : OwnPdu → Outgoing
own_outgoing p = record {
  time = 0;
  pdu = Owns p;
  sent = None;
  ticket = own_ticket p;
  takes = own_takes p;
  fenced = false;
  numbered = false;
  scope = [];
  closes = [];
}

abbrev pub after_put : Opening → Box → OwnPdu → Box
after_put o b p = elim (put_refusal o b p) [
  | Some refusal ↦ b
  | None ↦ elim (own_conn b p) [ Some conn ↦ enter conn (own_outgoing p) b | None ↦ b ]
]
