use Rattle.iscsi_threads.specs.rules.Outlets.{given, heard, outlet_rings}
use Rattle.iscsi_threads.proofs.Lists.{map_kept}
use Rattle.iscsi_threads.proofs.ends.fill_at.Goals as goal

pub returns-clause-given : goal.returns-clause-given
returns-clause-given c = map_kept given c.args.outlets.now.items c.args.at _ _ c.index_mut.ensures.value c.fill.ensures.0

pub returns-clause-heard : goal.returns-clause-heard
returns-clause-heard c = map_kept heard c.args.outlets.now.items c.args.at _ _ c.index_mut.ensures.value c.fill.ensures.1

pub returns-clause-rings : goal.returns-clause-rings
returns-clause-rings c = map_kept outlet_rings c.args.outlets.now.items c.args.at _ _ c.index_mut.ensures.value c.fill.ensures.2
