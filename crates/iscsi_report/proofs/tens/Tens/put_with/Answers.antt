use Rattle.std.proofs.Common.{ℕ, ◌≡◌, ◌+◌, take, sym, ap, ◌∙◌, arith}
use Rattle.iscsi_report.proofs.TensLemmas.{put_by_tens}
use Rattle.iscsi_report.proofs.tens.Tens.put_with.Goals as goal

pub returns-clause-written : goal.returns-clause-written
returns-clause-written c =
    let tens = c.args.self.now in
    let line = c.put_text-2.new.line in
    let end : c.put_text-2.result ≡ c.args.at + tens.len + 1 + 1 = omega arith in
    put_by_tens line c.put_text.new.line c.args.line.now tens.digits tens.least tens.len c.args.last c.args.next c.args.at c.put_text.result
    (c.args.at + tens.len + 1 + 1) tens.kept (omega arith) c.put_text.ensures.written (omega arith) (omega arith) (omega arith)
    (ap (λ (m : ℕ). take m line) (sym end) ∙ c.put_text-2.ensures.written)
