use Rattle.iscsi_outbox_rules.proofs.numbers.NumberTheorem.{counts_stat_sns, shows_exp}
use Rattle.iscsi_outbox_rules.proofs.numbers.OnwardTheorem.{goes_onward}
use Rattle.iscsi_outbox_rules.proofs.laws.numbers_law.Goals as goal

pub returns-clause-stat_sns : goal.returns-clause-stat_sns
returns-clause-stat_sns c = counts_stat_sns

pub returns-clause-exp : goal.returns-clause-exp
returns-clause-exp c = shows_exp

pub returns-clause-onward : goal.returns-clause-onward
returns-clause-onward c = goes_onward
