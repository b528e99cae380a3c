-- The target's own PDUs, as C gives them.
use Rattle.std.specs.Prelude.{ℕ, List, ◌==◌, if◌then◌else◌}
use Rattle.iscsi_outbox_rules.specs.declared.own_pdu.OwnPdu.{OwnPdu}
use Rattle.iscsi_outbox_rules.specs.declared.own_pdu.OwnPdu.TheVariants.{OfCommand, OfConnection}

-- there is no ticket 0
abbrev pub own_of : ℕ → ℕ → List ℕ → OwnPdu
own_of cid ticket header = if ticket == 0 then OfConnection cid header else OfCommand ticket header
