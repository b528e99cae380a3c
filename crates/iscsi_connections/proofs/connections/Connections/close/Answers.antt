use Rattle.iscsi_connections.proofs.ViewLemmas.{placed_same, cids_closed, view_closed}
use Rattle.iscsi_connections.proofs.connections.Connections.close.Goals as goal

pub invariant_of-self : goal.invariant_of-self
invariant_of-self c = rw c.close_in.ensures (placed_same _ _ _ (cids_closed c.args.cid c.self.inside.list.items) c.self.invariant)

pub returns : goal.returns
returns c = rw (c.close_in.ensures, ← c.self.view_is) (view_closed c.args.cid c.self.inside.list.items)
