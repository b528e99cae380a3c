use Rattle.std.proofs.Common.{◌∙◌, sym}
use Rattle.iscsi_connections.proofs.OpenLemmas.{open_at, open_nowhere}
use Rattle.iscsi_connections.proofs.connections.Connections.is_open.Goals as goal

pub returns-in-Some : goal.returns-in-Some
returns-in-Some c =
    let found = rw (← c.self.view_is) at (sym c.place_of.ensures ∙ c.in-Some.is) in
    rw (← c.self.view_is) (open_at _ c.self.inside.list.items c.self.invariant c.args.cid c.in-Some.place found c.index.result.now c.index.ensures)

pub returns-in-None : goal.returns-in-None
returns-in-None c = rw (← c.self.view_is) (open_nowhere c.self.inside.list.items c.args.cid (rw (← c.self.view_is) at (sym c.place_of.ensures ∙ c.in-None.is)))
