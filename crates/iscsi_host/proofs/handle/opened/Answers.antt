use Rattle.iscsi_session.specs.promises.Settings.{setting_of}
use Rattle.iscsi_host.specs.Plain.{plain_setting}
use Rattle.iscsi_host.proofs.AnswerLemmas.{valid_as_opened}
use Rattle.iscsi_host.proofs.handle.opened.Goals as goal

pub returns-in-Ok-clause-refused : goal.returns-in-Ok-clause-refused
returns-in-Ok-clause-refused c = valid_as_opened (setting_of c.in-Some.options) (plain_setting c.args.options.now c.args.connections.now) c.open.result c.in_ok-host.host c.in-Some.ensures c.open.ensures.refused c.in_ok-host.was
