-- The bytes of what goes out, as the rules have them.
use Rattle.std.specs.Prelude.{ℕ, List}
use Rattle.iscsi_outbox_rules.specs.rules.Boxes.{Pdu as RulesPdu, Replies, Owns, Pings, Notices}
use Rattle.iscsi_outbox_rules.specs.rules.Handing.{header_with}
use Rattle.iscsi_outbox_steps.specs.declared.given.Handed.{Handed}
use Rattle.iscsi_outbox_steps.specs.declared.given.Pdu.{Pdu}
use Rattle.iscsi_outbox_steps.specs.declared.given.Pdu.TheVariants.{Reply, Own, Ping, Notice}

abbrev pub as_rules : Pdu → RulesPdu
as_rules (Reply sent) = Replies sent.reply
as_rules (Own own) = Owns own
as_rules (Ping tag) = Pings tag
as_rules Notice = Notices

-- its 48 bytes
abbrev pub header_of : Handed → List ℕ
header_of h = header_with (as_rules h.pdu) h.stat_sn h.exp h.max
