use Rattle.iscsi_connections.proofs.ViewLemmas.{conns_opened, view_opened}
use Rattle.iscsi_connections.proofs.connections.Connections.open.Goals as goal

pub places_of-requires-clause-distinct : goal.places_of-requires-clause-distinct
places_of-requires-clause-distinct c = rw (c.deref.ensures.value, c.in_ok-list.ensures, conns_opened c.args.conns.now) c.requires.distinct

pub returns : goal.returns
returns c = rw c.in_ok-list.ensures (view_opened c.args.conns.now)
