use Rattle.iscsi_threads.specs.rules.Ports.{unit_rings}
use Rattle.iscsi_threads.proofs.Lists.{map_kept}
use Rattle.check_faults.proofs.rig.take_at.Goals as goal

pub returns : goal.returns
returns c = map_kept unit_rings c.args.units.now.items c.args.unit _ _ c.index_mut.ensures.value c.take.ensures.same
