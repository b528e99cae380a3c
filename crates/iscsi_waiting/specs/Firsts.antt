-- What is looked at of the first PDU that waits, where all of it needn't be.
use Rattle.std.specs.Prelude.{ℕ, Option, Some, None}
use Rattle.iscsi_wire.specs.declared.reply.Reply.{Reply as ReplyValue}
use Rattle.iscsi_wire.specs.declared.reply.Reply.TheVariants.{Scsi}
use Rattle.iscsi_outbox_state.specs.declared.waiting.Content.{Content}
use Rattle.iscsi_outbox_state.specs.declared.waiting.Content.TheVariants.{Reply, Own}
use Rattle.iscsi_outbox_state.specs.declared.waiting.Waiting.{Waiting}
use Rattle.iscsi_waiting.specs.declared.first.Marks.{Marks}
use Rattle.iscsi_waiting.specs.declared.first.Response.{Response}

abbrev pub plain_response : ℕ → ReplyValue → Option Response
plain_response place (Scsi itt status None) = Some (record { itt = itt; status = status; place = place })
plain_response place _ = None

-- a SCSI Response without sense
abbrev pub response_in : Content → Option Response
response_in (Reply sent) = plain_response sent.place sent.reply
response_in (Own own) = None

abbrev pub response_of : Option Waiting → Option Response
response_of (Some w) = response_in w.content
response_of None = None

-- what the rules look at as it goes out
abbrev pub marks_of : Waiting → Marks
marks_of w = record { takes = w.takes; fenced = w.fenced; ends = w.ends; command = w.command }
