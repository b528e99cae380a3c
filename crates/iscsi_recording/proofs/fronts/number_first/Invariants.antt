use Rattle.iscsi_recording.proofs.FrontLemmas.{Numbered}
use Rattle.iscsi_recording.proofs.fronts.number_first.Given as goal

abbrev pub invariant-digits : goal.invariant-digits
invariant-digits l = Numbered l.bytes l.n l.i
