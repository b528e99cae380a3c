use Rattle.std.proofs.Common.{ℕ, ◌≡◌, ap, ◌∙◌, ◌+◌, take, drop, arith}
use Rattle.iscsi_report.proofs.LineEnds.{kept, between, before_last}
use Rattle.iscsi_report.proofs.event_line.write_completion.Goals as goal

pub returns-clause-ticket : goal.returns-clause-ticket
returns-clause-ticket c =
    let number = c.put_then-ticket_end in
    let behind : c.args.at + 4 ≡ c.put_text-at.result = omega arith in
    let status = kept c.put_byte_and_end.new.line number.new.line _ (number.result + 1) number.result c.put_byte_and_end.result
    c.put_byte_and_end.ensures.written (omega arith) (omega arith) (omega arith) in (
      omega arith,
      omega arith,
      ap (drop (c.args.at + 4)) status ∙ ap (λ (m : ℕ). drop m (take number.result number.new.line)) behind
          ∙ between number.new.line c.put_text-at.new.line _ c.put_text-at.result number.result
          (before_last number.new.line c.put_text-at.new.line _ _ c.put_text-at.result number.result number.ensures.written (omega arith) (omega arith)) (omega arith),
    )
