use Rattle.std.proofs.Common.{◌≡◌, ◌∙◌, ◌+◌, ◌<◌, ℤ, take, length, get_or, w64, to_z, of_z, rules, ap, sym, subst, arith}
use Rattle.std.specs.Int.{int_min}
use Rattle.std.proofs.lemmas.Int.{to_z-of_z}
use Rattle.std.proofs.lemmas.List.Sums.{fold_more}
use Rattle.iscsi_tasks.proofs.Names.{Member, member_of, covered_from, covered_from_in, greatest_number, IsAscendingTo}
use Rattle.iscsi_tasks.proofs.FrontLemmas.{ascending_more}
use Rattle.iscsi_tasks.proofs.linked_front.numbers_along.Goals as goal

pub loop-k-preserved : goal.loop-k-preserved
loop-k-preserved c =
    let list = c.args.chain.now.members in
    let m : Member = member_of c.at.result.now in
    let least : ℤ = covered_from_in (take c.loop-k.k list) in
    let a = c.len-k-end.ensures.slots in
    let l : c.loop-k.k < length c.args.chain.now.slots = omega (arith, a) in
    let within : c.loop-k.k < length list = let b = c.len-k-end.ensures.len in omega (arith, b) in
    let read : m ≡ get_or list c.loop-k.k m = c.at.ensures c.loop-k.k m l (sym c.loop-k.invariant.there) in
    let most : to_z w64 (of_z w64 c.covered_from-most.result) ≡ covered_from m.task = to_z-of_z w64 c.covered_from-most.result (search rules) ∙ c.covered_from-most.ensures in
    record {
      least = to_z-of_z w64 c.min-least.result (search rules) ∙ c.min-least.ensures.value
          ∙ ap (λ n. int_min n (to_z w64 (of_z w64 c.covered_from-most.result))) c.loop-k.invariant.least
          ∙ ap (int_min least) most
          ∙ ap (λ (x : Member). int_min least (covered_from x.task)) read
          ∙ sym (fold_more (λ n (x : Member). int_min n (covered_from x.task)) greatest_number list c.loop-k.k m within);
      front = λ on. subst (λ (n : ℤ). IsAscendingTo n (take (c.loop-k.k + 1) list)) (sym most)
          (ascending_more c.loop-k.ascends _ list c.loop-k.k m within read c.loop-k.invariant.front (sym c.ascends_with-ascends.ensures ∙ on));
      there = c.after-slot.ensures c.loop-k.k l (sym c.loop-k.invariant.there);
    }
