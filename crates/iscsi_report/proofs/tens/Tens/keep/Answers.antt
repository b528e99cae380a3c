use Rattle.std.proofs.Common.{arith}
use Rattle.iscsi_report.proofs.TensLemmas.{tens_of}
use Rattle.iscsi_report.proofs.tens.Tens.keep.Goals as goal

pub invariant_of-self : goal.invariant_of-self
invariant_of-self c =
    let copied = c.copy_from_slice in
    record {
      kept = tens_of c.args.line.now copied.new.self c.args.n c.args.from c.args.to _ copied.ensures.after (omega arith) (omega arith) (omega arith) (omega arith) (omega arith) c.requires.digits;
    }
