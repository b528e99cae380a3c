use Rattle.std.proofs.Common.{ℕ, ◌≡◌, ap, ◌∙◌, ◌+◌, take, drop, arith}
use Rattle.iscsi_report.proofs.LineEnds.{kept, between, before_last}
use Rattle.iscsi_report.proofs.effect_line.write_enter.Goals as goal

pub returns-clause-ticket : goal.returns-clause-ticket
returns-clause-ticket c =
    let number = c.put_then-ticket_end in
    let behind : c.args.at + 8 ≡ c.put_text-at.result = omega arith in
    let unit = kept c.put_small-at.new.line number.new.line _ (number.result + 1) number.result c.put_small-at.result
    c.put_small-at.ensures.written (omega arith) (omega arith) (omega arith) in
    let attr = kept c.put_attr.new.line c.put_small-at.new.line _ c.put_small-at.result number.result c.put_attr.result c.put_attr.ensures.written
    (omega arith) (omega arith) (omega arith) in (
      omega arith,
      omega arith,
      ap (drop (c.args.at + 8)) (attr ∙ unit) ∙ ap (λ (m : ℕ). drop m (take number.result number.new.line)) behind
          ∙ between number.new.line c.put_text-at.new.line _ c.put_text-at.result number.result
          (before_last number.new.line c.put_text-at.new.line _ _ c.put_text-at.result number.result number.ensures.written (omega arith) (omega arith)) (omega arith),
    )

pub returns-clause-end : goal.returns-clause-end
returns-clause-end c = (omega arith, omega arith)
