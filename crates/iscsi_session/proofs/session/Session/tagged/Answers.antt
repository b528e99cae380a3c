use Rattle.iscsi_session.proofs.Names.{rules, ◌≡◌, ◌==◌, tagged_in}
use Rattle.iscsi_session.proofs.KeptLemmas.{passing, find_passing}
use Rattle.iscsi_session.proofs.session.Session.tagged.Goals as goal
use Rattle.iscsi_session.proofs.session.Session.tagged.Goals.{After-find_tagged}

tagged_is : (c : After-find_tagged) → tagged_in c.args.self.now c.args.itt c.args.unit ≡ passing (λ l. l.unit == c.args.unit) c.find_tagged.result
tagged_is c = rw (← c.self.view_is, c.find_tagged.ensures.command) (find_passing (λ l. l.unit == c.args.unit) c.self.inside.live.items c.args.itt c.find_tagged.ensures.alone)

pub returns-in_err-command : goal.returns-in_err-command
returns-in_err-command c = rw (tagged_is (goal.at.returns-in_err-command c).After-find_tagged, c.in_err-command.was) (search rules)

pub returns-then-command-unit : goal.returns-then-command-unit
returns-then-command-unit c = rw (tagged_is (goal.at.returns-then-command-unit c).After-find_tagged, c.in_ok-command.was, c.if-command-unit.true) (search rules)

pub returns-else-command-unit : goal.returns-else-command-unit
returns-else-command-unit c = rw (tagged_is (goal.at.returns-else-command-unit c).After-find_tagged, c.in_ok-command.was) (search rules)
