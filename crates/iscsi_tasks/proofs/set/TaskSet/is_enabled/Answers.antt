use Rattle.std.proofs.Common.{sym, false}
use Rattle.iscsi_tasks.proofs.Names.{member_of}
use Rattle.iscsi_tasks.proofs.SearchLemmas.{enabled_read, not_enabled}
use Rattle.iscsi_tasks.proofs.EnabledLemmas.{enabled_is}
use Rattle.iscsi_tasks.proofs.set.TaskSet.is_enabled.Goals as goal

pub returns-in_default-clause-answer : goal.returns-in_default-clause-answer
returns-in_default-clause-answer c = sym (not_enabled c.args.self.now.list c.args.ticket c.in_default.ensures.place)

pub returns-in_default-clause-since : goal.returns-in_default-clause-since
returns-in_default-clause-since c = enabled_is c.args.self.now c.args.ticket false (returns-in_default-clause-answer c)

pub returns-clause-answer : goal.returns-clause-answer
returns-clause-answer c =
    let place = c.in-Some.ensures.place in
    enabled_read c.args.self.now.list c.in-Some.ensures.order c.args.ticket c.in-Some.at place.0 place.1 (member_of c.at.result.now) c.at.ensures.member

pub returns-clause-since : goal.returns-clause-since
returns-clause-since c = enabled_is c.args.self.now c.args.ticket c.at.result.now.enabled (returns-clause-answer c)
