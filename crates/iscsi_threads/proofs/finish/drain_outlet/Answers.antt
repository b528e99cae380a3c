use Rattle.rtrb.specs.Ring.{sent}
use Rattle.iscsi_threads.specs.rules.Ports.{taken}
use Rattle.iscsi_threads.proofs.FinishLemmas.{prefix_append}
use Rattle.iscsi_threads.proofs.finish.drain_outlet.Goals as goal

pub returns-clause-taken : goal.returns-clause-taken
returns-clause-taken c = prefix_append (taken c.args.port.now) (sent c.args.outlet.now.jobs) c.args.outlet.now.backlog.items c.drain_jobs.ensures.taken
