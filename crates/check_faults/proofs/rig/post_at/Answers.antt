use Rattle.iscsi_threads.specs.rules.Ports.{port_ring}
use Rattle.iscsi_threads.proofs.Lists.{map_kept}
use Rattle.check_faults.proofs.rig.post_at.Goals as goal

pub returns : goal.returns
returns c = map_kept port_ring c.args.ports.now.items c.args.place _ _ c.index_mut.ensures.value c.post.ensures.same
