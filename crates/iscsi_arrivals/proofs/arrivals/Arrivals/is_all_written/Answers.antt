use Rattle.std.proofs.Common.{◌∙◌, rules}
use Rattle.iscsi_arrivals.proofs.SinceLemmas.{all_written_is}
use Rattle.iscsi_arrivals.proofs.arrivals.Arrivals.is_all_written.Goals as goal

pub returns-clause-answer : goal.returns-clause-answer
returns-clause-answer c = search rules

pub returns-clause-since : goal.returns-clause-since
returns-clause-since c = λ l st. returns-clause-answer c ∙ all_written_is c.args.self.now l st
