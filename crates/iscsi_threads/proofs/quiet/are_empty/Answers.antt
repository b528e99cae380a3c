use Rattle.std.proofs.Common.{◌≡◌, ◌<◌, ◌≤◌, ◌∙◌, ℕ, sym, length, below_more, rules, arith, get_or}
use Rattle.std.specs.Prelude.{IsTrue}
use Rattle.iscsi_threads.specs.declared.port.Port.{Port}
use Rattle.iscsi_threads.specs.declared.inlet.Inlet.{Inlet}
use Rattle.iscsi_threads.specs.rules.Ports.{posted, port_ring}
use Rattle.iscsi_threads.specs.rules.Outlets.{got, inlet_ring}
use Rattle.iscsi_threads.proofs.Lists.{map_at, some_of, same_length}
use Rattle.iscsi_threads.proofs.ServeLemmas.{pairwise}
use Rattle.iscsi_threads.proofs.quiet.are_empty.Goals as goal

pub loop-place-preserved : goal.loop-place-preserved
loop-place-preserved c =
    let v = c.loop-place.invariant in let e = c.is_empty_at.ensures in
    let ports = c.args.ports.now.items in let inlets = c.args.inlets.now.items in let i = c.loop-place.place in
    let same : length ports ≡ length inlets = same_length port_ring inlet_ring ports inlets c.requires in
    let was : i < length ports = search rules in
    let was' : i < length inlets = omega (arith, was, same) in
    let low : i < length c.loop-place.ports.items = omega (arith, was, same_length posted posted c.loop-place.ports.items ports v.all_posted) in
    let low' : i < length c.loop-place.inlets.items = omega (arith, was', same_length got got c.loop-place.inlets.items inlets v.all_got) in
    let yes : IsTrue c.is_empty_at.result = search rules in
    record {
      all_got = e.got ∙ v.all_got;
      all_posted = e.posted ∙ v.all_posted;
      inlet_rings = e.rings.0 ∙ v.inlet_rings;
      port_rings = e.rings.1 ∙ v.port_rings;
      inlets_len = e.len.0 ∙ v.inlets_len;
      ports_len = e.len.1 ∙ v.ports_len;
      empty = λ k p inlet lt. below_more (λ (j : ℕ). (q : Port) (r : Inlet) → posted (get_or ports j q) ≡ got (get_or inlets j r)) i
          (λ j less q r. v.empty j q r less)
          (λ q r. let a = some_of c.loop-place.ports.items i low in let b = some_of c.loop-place.inlets.items i low' in
          sym (map_at posted posted c.loop-place.ports.items ports i a q v.all_posted low was)
          ∙ e.empty a b yes
          ∙ map_at got got c.loop-place.inlets.items inlets i b r v.all_got low' was')
          k lt p inlet;
    }

pub returns-clause-empty : goal.returns-clause-empty
returns-clause-empty c = λ yes.
    let v = c.loop-place.invariant in
    let ports = c.args.ports.now.items in let inlets = c.args.inlets.now.items in
    let all : length ports ≤ c.loop-place.place = search rules in
    v.all_posted ∙ pairwise posted got ports inlets (same_length port_ring inlet_ring ports inlets c.requires) (λ k p i lt. v.empty k p i (omega (arith, all, lt))) ∙ sym v.all_got
