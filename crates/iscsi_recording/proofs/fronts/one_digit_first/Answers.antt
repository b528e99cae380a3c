use Rattle.std.proofs.Common.{arith}
use Rattle.iscsi_recording.proofs.FrontLemmas.{one_led}
use Rattle.iscsi_recording.proofs.fronts.one_digit_first.Goals as goal

pub returns-then-n-lt10 : goal.returns-then-n-lt10
returns-then-n-lt10 c = one_led c.args.bytes.now _ c.requires (omega (arith, c.from_le_bytes-n.ensures)) ((c.type_inv.bytes 0).fits) ((c.type_inv.bytes 1).fits) c.if-n-lt10.true
