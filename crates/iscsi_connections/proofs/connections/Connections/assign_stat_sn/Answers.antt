use Rattle.std.proofs.Common.{rules, ◌≡◌, ◌∙◌, map, position, Some, ap, sym}
use Rattle.iscsi_connections.specs.Connected.{Connected}
use Rattle.iscsi_connections.specs.Placed.{cid_and_stat_sn}
use Rattle.iscsi_connections.proofs.PlaceLemmas.{has_cid}
use Rattle.iscsi_connections.proofs.ViewLemmas.{placed_same}
use Rattle.iscsi_connections.proofs.ChangeLemmas.{number_is, view_numbered, cids_numbered, unknown_number, unknown_count}
use Rattle.iscsi_connections.proofs.connections.Connections.assign_stat_sn.Goals as goal
use Rattle.iscsi_connections.proofs.connections.Connections.assign_stat_sn.Goals.{After-index_mut-connection}

pub returns-in_default-clause-number : goal.returns-in_default-clause-number
returns-in_default-clause-number c = sym (unknown_number c.args.self.now.conns c.args.cid (sym c.place_of.ensures ∙ c.in_default.is))

pub returns-in_default-clause-state : goal.returns-in_default-clause-state
returns-in_default-clause-state c = ap (λ conns. let s : Connected = c.args.self.now in record s { conns = conns }) (sym (unknown_count c.args.self.now.conns c.args.cid (sym c.place_of.ensures ∙ c.in_default.is)))

-- the place of the connection, as the table tells it
found : (c : After-index_mut-connection) → position (has_cid c.args.cid) (map cid_and_stat_sn c.self.inside.list.items) ≡ Some c.in-Some.place
found c = ap (λ (s : Connected). position (has_cid c.args.cid) s.conns) c.self.view_is ∙ sym c.place_of.ensures ∙ c.in-Some.is

pub invariant_of-self : goal.invariant_of-self
invariant_of-self c = placed_same _ _ _ (cids_numbered _ _ _ (found (goal.at.invariant_of-self c).After-index_mut-connection) _ c.index_mut-connection.ensures.value) c.self.invariant

pub returns-clause-number : goal.returns-clause-number
returns-clause-number c =
    rw (← c.self.view_is) (number_is _ _ _ (found (goal.at.returns-clause-number c).After-index_mut-connection) c.index_mut-connection.result.now c.index_mut-connection.ensures.value (search rules))

pub returns-clause-state : goal.returns-clause-state
returns-clause-state c = rw (← c.self.view_is) (view_numbered _ _ _ (found (goal.at.returns-clause-state c).After-index_mut-connection) _ c.index_mut-connection.ensures.value)
