use Rattle.std.proofs.Common.{◌∙◌, rules}
use Rattle.iscsi_arrivals.proofs.SinceLemmas.{unarrived_is}
use Rattle.iscsi_arrivals.proofs.arrivals.Arrivals.has_unarrived.Goals as goal

pub returns-clause-answer : goal.returns-clause-answer
returns-clause-answer c = search rules

pub returns-clause-since : goal.returns-clause-since
returns-clause-since c = λ l st. returns-clause-answer c ∙ unarrived_is c.args.self.now l st
