use Rattle.iscsi_session_law.proofs.EventLemmas.{flows_through, keeps_promises}
use Rattle.iscsi_session_law.proofs.laws.session_law.Goals as goal

pub returns : goal.returns
returns c = record { flow = flows_through; promises = keeps_promises }
