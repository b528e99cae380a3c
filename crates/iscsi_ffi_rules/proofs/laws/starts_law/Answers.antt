use Rattle.iscsi_ffi_rules.proofs.StartTheorem.{starts_once, stops_started}
use Rattle.iscsi_ffi_rules.proofs.laws.starts_law.Goals as goal

pub returns-clause-once : goal.returns-clause-once
returns-clause-once c = starts_once

pub returns-clause-stops : goal.returns-clause-stops
returns-clause-stops c = stops_started
