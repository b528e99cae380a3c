use Rattle.std.proofs.Common.{◌∙◌, ap}
use Rattle.std.specs.Prelude.{is_some}
use Rattle.iscsi_connections.proofs.PlaceLemmas.{has_cid, known_by_place}
use Rattle.iscsi_connections.proofs.connections.Connections.knows.Goals as goal

pub returns : goal.returns
returns c = c.is_some.ensures ∙ ap is_some c.place_of.ensures ∙ known_by_place (has_cid c.args.cid) c.args.self.now.conns
