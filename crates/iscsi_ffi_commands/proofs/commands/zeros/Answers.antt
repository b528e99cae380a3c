use Rattle.std.proofs.Common.{◌∙◌, ◌++◌, ◌∷◌, [], ap, length, arith}
use Rattle.std.proofs.lemmas.List.{replicate-append-replicate, length-replicate}
use Rattle.iscsi_ffi_commands.proofs.commands.zeros.Goals as goal

pub loop-preserved : goal.loop-preserved
loop-preserved c = record {
  items = c.push_reserved.ensures.items ∙ ap (λ xs. xs ++ 0 ∷ []) c.loop.invariant.items ∙ replicate-append-replicate c.loop.counter 1 0;
  capacity = omega (arith, c.loop.invariant.capacity, c.push_reserved.ensures.capacity);
  within = omega (arith, c.loop-test.true);
}

pub push_reserved-requires : goal.push_reserved-requires
push_reserved-requires c =
    let long = ap length c.loop.invariant.items ∙ length-replicate c.loop.counter 0 in
    let len = c.loop.numbers.ok.0 in let room = c.loop.invariant.capacity in let more = c.loop-test.true in
    omega (arith, long, len, room, more)
