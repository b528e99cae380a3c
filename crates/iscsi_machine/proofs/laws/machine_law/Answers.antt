use Rattle.iscsi_machine.proofs.RunLemmas.{machine_runs}
use Rattle.iscsi_machine.proofs.laws.machine_law.Goals as goal

pub returns : goal.returns
returns c = record { runs = machine_runs }
