use Rattle.std.proofs.Common.{ℕ, [], ◌∷◌, ◌++◌, take, decimal, ap, ◌∙◌}
use Rattle.iscsi_report.proofs.TensLemmas.{last_of}
use Rattle.iscsi_report.proofs.tens.Tens.put_then.Goals as goal

pub returns-then-last-lt10-clause-written : goal.returns-then-last-lt10-clause-written
returns-then-last-lt10-clause-written c =
    let tens = c.args.self.now in
    c.put_with.ensures.written
    ∙ ap (λ (m : ℕ). take c.args.at c.args.line.now ++ (decimal m ++ c.args.next ∷ [])) (last_of c.args.n tens.least tens.kept.small c.ranges.n.fits c.if-last-lt10.true)
