use Rattle.std.proofs.Common.{◌∙◌, ◌<◌, ap, sym, length, rules}
use Rattle.iscsi_threads.specs.rules.Ports.{posted, port_ring}
use Rattle.iscsi_threads.specs.rules.Outlets.{got, inlet_ring}
use Rattle.iscsi_threads.proofs.Lists.{map_kept, map_at, get_same}
use Rattle.iscsi_threads.proofs.quiet.is_empty_at.Goals as goal

pub is_empty-requires : goal.is_empty-requires
is_empty-requires c =
    let ps = c.args.ports.now.items in let is = c.args.inlets.now.items in let i = c.args.at in
    let p = c.index_mut-2.result.now in let q = c.index_mut.result.now in
    let lt : i < length ps = search rules in let lt' : i < length is = search rules in
    ap port_ring c.index_mut-2.ensures.value ∙ map_at port_ring inlet_ring ps is i _ _ c.requires.pairs lt lt' ∙ sym (ap inlet_ring c.index_mut.ensures.value)

pub returns-clause-got : goal.returns-clause-got
returns-clause-got c = map_kept got c.args.inlets.now.items c.args.at _ _ c.index_mut.ensures.value c.is_empty.ensures.got

pub returns-clause-posted : goal.returns-clause-posted
returns-clause-posted c = map_kept posted c.args.ports.now.items c.args.at _ _ c.index_mut-2.ensures.value c.is_empty.ensures.posted

pub returns-clause-rings : goal.returns-clause-rings
returns-clause-rings c = (
  map_kept inlet_ring c.args.inlets.now.items c.args.at _ _ c.index_mut.ensures.value c.is_empty.ensures.rings.0,
  map_kept port_ring c.args.ports.now.items c.args.at _ _ c.index_mut-2.ensures.value c.is_empty.ensures.rings.1,
)

pub returns-clause-empty : goal.returns-clause-empty
returns-clause-empty c = λ p i yes.
    let ps = c.args.ports.now.items in let is = c.args.inlets.now.items in let k = c.args.at in
    let lt : k < length ps = search rules in let lt' : k < length is = search rules in
    let e = c.is_empty.ensures in
    ap posted (get_same ps k p _ lt ∙ sym c.index_mut-2.ensures.value) ∙ sym e.posted ∙ e.empty yes ∙ e.got ∙ ap got (c.index_mut.ensures.value ∙ get_same is k _ i lt')
