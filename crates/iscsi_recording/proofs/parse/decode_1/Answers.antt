use Rattle.std.proofs.Common.{◌≡◌, ◌-◌, true, arith, rules}
use Rattle.iscsi_recording.specs.Fields.{is_digit}
use Rattle.iscsi_recording.proofs.DigitSteps.{decimal_value, decoded_two, decoded_raised}
use Rattle.iscsi_recording.proofs.parse.decode_1.Goals as goal

pub returns-then-is_decimal-2 : goal.returns-then-is_decimal-2
returns-then-is_decimal-2 c =
    let first : is_digit c.args.high ≡ true = search rules in
    let second : is_digit c.args.low ≡ true = search rules in
    decoded_two c.args.high c.args.low (c.args.high - 48) (c.args.low - 48) (decimal_value c.args.high first) (decimal_value c.args.low second)

pub returns-then-min-ge240 : goal.returns-then-min-ge240
returns-then-min-ge240 c =
    rw c.byte_of.ensures (decoded_raised c.args.high c.args.low c.raised_value-high.result c.raised_value-low.result c.raised_value-high.ensures c.raised_value-low.ensures
    (omega (arith, c.min.ensures)) (omega (arith, c.min.ensures)))
