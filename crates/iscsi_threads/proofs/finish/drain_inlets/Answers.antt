use Rattle.std.proofs.Common.{◌<◌, ◌≤◌, ◌∙◌, ap, sym, length, rules, arith}
use Rattle.iscsi_threads.specs.rules.Ports.{port_ring}
use Rattle.iscsi_threads.specs.rules.Outlets.{inlet_ring}
use Rattle.iscsi_threads.proofs.Lists.{map_at}
use Rattle.iscsi_threads.proofs.FinishLemmas.{pair_of}
use Rattle.iscsi_threads.proofs.finish.drain_inlets.Goals as goal

pub drain_ring-requires-clause-pair : goal.drain_ring-requires-clause-pair
drain_ring-requires-clause-pair c =
    let i = c.loop-i.i in
    let ports = c.args.ports.now.items in let inlets = c.args.inlets.now.items in
    let p = c.index_mut-in-loop-i.result.now in let o = c.index_mut.result.now in
    let lt : i < length ports = search rules in
    let lt' : i < length inlets = search rules in
    let same : i ≤ i = omega arith in
    pair_of p.headers o.headers
    (ap port_ring (c.index_mut-in-loop-i.ensures.value ∙ c.loop-i.invariant.ports i p same)
    ∙ map_at port_ring inlet_ring ports inlets i p o c.requires.pairs lt lt'
    ∙ sym (ap inlet_ring (c.index_mut.ensures.value ∙ c.loop-i.invariant.inlets i o same)))
