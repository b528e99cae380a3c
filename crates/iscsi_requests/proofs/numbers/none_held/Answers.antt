use Rattle.std.proofs.Common.{◌∙◌, ◌++◌, ◌∷◌, [], None, ap, length, arith}
use Rattle.std.proofs.lemmas.List.{replicate-append-replicate, length-replicate}
use Rattle.iscsi_requests.proofs.numbers.none_held.Goals as goal

pub loop-preserved : goal.loop-preserved
loop-preserved c = record {
  items = c.push_reserved.ensures.items ∙ ap (λ xs. xs ++ None ∷ []) c.loop.invariant.items ∙ replicate-append-replicate c.loop.counter 1 None;
  capacity = omega (arith, c.loop.invariant.capacity, c.push_reserved.ensures.capacity);
  within = omega (arith, c.loop-test.true);
}

pub push_reserved-requires : goal.push_reserved-requires
push_reserved-requires c =
    let long = ap length c.loop.invariant.items ∙ length-replicate c.loop.counter None in
    let len = c.loop.places.ok.0 in let room = c.loop.invariant.capacity in let more = c.loop-test.true in
    omega (arith, long, len, room, more)
