use Rattle.std.proofs.Common.{ap, ◌∙◌, arith}
use Rattle.iscsi_slots.specs.Slots.{times}
use Rattle.iscsi_tags.proofs.TagLemmas.{counted_more}
use Rattle.iscsi_tags.proofs.tags.all_lines.Goals as goal

pub loop-line-preserved : goal.loop-line-preserved
loop-line-preserved c =
    let i = c.loop-line.invariant in
    record {
      lines = λ line. ap (times line) c.push_reserved.ensures.items ∙ counted_more c.loop-line.free.items c.loop-line.line i.lines line;
      count = let a = i.count in let b = c.push_reserved.ensures.len in let d = c.loop-line.free.ok.0 in let e = c.push_reserved.new.self.ok.0 in omega (arith, a, b, d, e);
      capacity = let a = i.capacity in let b = c.push_reserved.ensures.capacity in omega (arith, a, b);
    }
