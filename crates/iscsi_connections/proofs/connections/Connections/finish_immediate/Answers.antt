use Rattle.std.proofs.Common.{◌≡◌, ◌∙◌, ◌-◌, map, position, Some, ap, sym, arith}
use Rattle.iscsi_connections.specs.Connected.{Connected}
use Rattle.iscsi_connections.specs.Placed.{cid_and_stat_sn}
use Rattle.iscsi_connections.proofs.PlaceLemmas.{has_cid, IsSome-position}
use Rattle.iscsi_connections.proofs.ViewLemmas.{placed_same}
use Rattle.iscsi_connections.proofs.ChangeLemmas.{count_is, view_counting, cids_counting, counting_down}
use Rattle.iscsi_connections.proofs.connections.Connections.finish_immediate.Goals as goal
use Rattle.iscsi_connections.proofs.connections.Connections.finish_immediate.Goals.{After-unwrap-place}

-- the place of the connection, as the table tells it
found : (c : After-unwrap-place) → position (has_cid c.args.cid) (map cid_and_stat_sn c.self.inside.list.items) ≡ Some c.unwrap-place.result
found c = ap (λ (s : Connected). position (has_cid c.args.cid) s.conns) c.self.view_is ∙ sym c.place_of.ensures ∙ c.unwrap-place.ensures

pub unwrap-place-requires : goal.unwrap-place-requires
unwrap-place-requires c = rw c.place_of.ensures (IsSome-position (has_cid c.args.cid) c.args.self.now.conns c.requires.known)

pub overflow_sub-index_mut : goal.overflow_sub-index_mut
overflow_sub-index_mut c =
    let count = count_is _ _ _ (found (goal.at.overflow_sub-index_mut c).After-unwrap-place) _ c.index_mut.ensures.value in
    omega (arith, count, rw (← c.self.view_is) at c.requires.some)

pub invariant_of-self : goal.invariant_of-self
invariant_of-self c = placed_same _ _ _ (cids_counting _ _ _ (found (goal.at.invariant_of-self c).After-unwrap-place) _ c.index_mut.ensures.value (c.index_mut.result.now.immediate - 1)) c.self.invariant

pub returns-clause-state : goal.returns-clause-state
returns-clause-state c = rw (← c.self.view_is) (view_counting _ _ _ (found (goal.at.returns-clause-state c).After-unwrap-place) _ c.index_mut.ensures.value (c.index_mut.result.now.immediate - 1))

pub returns-clause-counted : goal.returns-clause-counted
returns-clause-counted c = λ other.
    let there = found (goal.at.returns-clause-counted c).After-unwrap-place in
    let count = count_is _ _ _ there _ c.index_mut.ensures.value in
    rw (← c.self.view_is) (counting_down _ _ _ there _ c.index_mut.ensures.value other (omega (arith, count, rw (← c.self.view_is) at c.requires.some)))
