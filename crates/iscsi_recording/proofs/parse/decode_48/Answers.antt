use Rattle.std.proofs.Common.{arith, ◌∙◌, sym, ap}
use Rattle.std.specs.Prelude.{Some}
use Rattle.iscsi_recording.proofs.DigitSteps.{decoded, not_decoded, other_length}
use Rattle.iscsi_recording.proofs.parse.decode_48.Goals as goal

pub returns-then-text-ne96 : goal.returns-then-text-ne96
returns-then-text-ne96 c = sym (other_length c.args.text.now (λ e. omega arith))

pub returns-in_err-values : goal.returns-in_err-values
returns-in_err-values c = c.from_residual.ensures ∙ sym (not_decoded c.args.text.now c.in_err-values.ensures)

pub returns : goal.returns
returns c = ap Some c.joined.ensures ∙ sym (decoded c.args.text.now c.in_ok-values.values (omega arith) c.in_ok-values.ensures)
