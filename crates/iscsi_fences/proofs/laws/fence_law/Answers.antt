use Rattle.iscsi_fences.proofs.PassingLemmas.{fence_parts, same_waits, waits_elsewhere, others_busy}
use Rattle.iscsi_fences.proofs.laws.fence_law.Goals as goal

pub returns-clause-parts : goal.returns-clause-parts
returns-clause-parts c = fence_parts

pub returns-clause-waits : goal.returns-clause-waits
returns-clause-waits c = same_waits

pub returns-clause-elsewhere : goal.returns-clause-elsewhere
returns-clause-elsewhere c = waits_elsewhere

pub returns-clause-busy : goal.returns-clause-busy
returns-clause-busy c = others_busy
