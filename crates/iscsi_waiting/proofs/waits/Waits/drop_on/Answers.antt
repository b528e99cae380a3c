use Rattle.std.proofs.Common.{◌∙◌, arith}
use Rattle.iscsi_waiting.proofs.LoopLemmas.{on_more, on_within}
use Rattle.iscsi_waiting.proofs.waits.Waits.drop_on.Goals as goal

pub loop-preserved : goal.loop-preserved
loop-preserved c =
    let i = c.loop.invariant in
    record {
      state = on_more c.loop.self c.pop.new.self c.args.conn c.pop.ensures.state ∙ i.state;
      within = let a = on_within c.loop.self c.pop.new.self c.args.conn c.pop.ensures.state in let b = i.within in omega (arith, a, b);
    }
