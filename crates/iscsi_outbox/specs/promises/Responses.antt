-- A SCSI Response without sense that goes out, in a form of its own.
use Rattle.std.specs.Prelude.{ℕ, Option, Some, None}
use Rattle.iscsi_wire.specs.declared.reply.Reply.TheVariants.{Scsi}
use Rattle.iscsi_waiting.specs.Firsts.{response_in}
use Rattle.iscsi_waiting.specs.declared.first.Response.{Response}
use Rattle.iscsi_outbox_steps.specs.declared.given.Handed.{Handed}
use Rattle.iscsi_outbox_steps.specs.declared.given.Pdu.TheVariants.{Reply}
use Rattle.iscsi_outbox_steps.specs.State.{State}
use Rattle.iscsi_outbox_steps.specs.Steps.{Out, Waited, Pinged, Noticed, chosen}
use Rattle.iscsi_outbox.specs.declared.outbox.responding.HandedResponse.{HandedResponse}

-- as any PDU is handed out
abbrev pub handed_of : HandedResponse → Handed
handed_of r = record { pdu = Reply (record { reply = Scsi r.itt r.status None; place = r.place }); stat_sn = r.stat_sn; exp = r.exp; max = r.max }

abbrev pub response_out : Option Out → Option Response
response_out (Some (Waited item)) = response_in item.content
response_out (Some (Pinged tag)) = None
response_out (Some Noticed) = None
response_out None = None

-- what goes out next on a connection, if it is a SCSI Response without sense
abbrev pub response_next : ℕ → State → Option Response
response_next conn s = response_out (chosen conn s)
