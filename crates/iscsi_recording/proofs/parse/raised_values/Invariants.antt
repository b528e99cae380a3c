use Rattle.iscsi_recording.proofs.DigitSteps.{Valued}
use Rattle.iscsi_recording.proofs.parse.raised_values.Given as goal

abbrev pub invariant-digits : goal.invariant-digits
invariant-digits l = Valued l.text l.values l.least l.i
