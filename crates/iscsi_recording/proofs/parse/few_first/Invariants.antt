use Rattle.iscsi_recording.proofs.FirstLemmas.{Counted}
use Rattle.iscsi_recording.proofs.parse.few_first.Given as goal

abbrev pub invariant-digits : goal.invariant-digits
invariant-digits l = Counted l.bytes l.n l.i
