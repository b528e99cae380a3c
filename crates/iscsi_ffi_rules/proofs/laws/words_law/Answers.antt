use Rattle.iscsi_ffi_rules.proofs.WordTheorem.{comes_back_once}
use Rattle.iscsi_ffi_rules.proofs.WordOrder.{forgotten_last}
use Rattle.iscsi_ffi_rules.proofs.laws.words_law.Goals as goal

pub returns-clause-once : goal.returns-clause-once
returns-clause-once c = comes_back_once

pub returns-clause-last : goal.returns-clause-last
returns-clause-last c = forgotten_last
