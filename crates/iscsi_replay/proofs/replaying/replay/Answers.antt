use Rattle.iscsi_recording.proofs.OrderLemmas.{settings_at_first}
use Rattle.iscsi_replay.proofs.ReportLemmas.{front_of_none}
use Rattle.iscsi_replay.proofs.replaying.replay.Goals as goal

pub returns-then-not-are_valid-clause-order : goal.returns-then-not-are_valid-clause-order
returns-then-not-are_valid-clause-order g c = settings_at_first _

pub returns-in_err-read_recording-clause-front : goal.returns-in_err-read_recording-clause-front
returns-in_err-read_recording-clause-front g c = front_of_none _ _ _
