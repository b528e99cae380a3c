use Rattle.std.proofs.Common.{rules, ap, ◌∙◌}
use Rattle.iscsi_arrivals.specs.declared.stamp.Stamp.{Stamp}
use Rattle.iscsi_arrivals.specs.Counts.{has_arrived_by}
use Rattle.iscsi_arrivals.proofs.SinceLemmas.{arrived_is}
use Rattle.iscsi_arrivals.proofs.arrivals.Arrivals.has_arrived.Goals as goal

pub returns-then-stamp-self-clause-answer : goal.returns-then-stamp-self-clause-answer
returns-then-stamp-self-clause-answer c = search rules

pub returns-then-stamp-self-clause-since : goal.returns-then-stamp-self-clause-since
returns-then-stamp-self-clause-since c = λ l place st is.
    returns-then-stamp-self-clause-answer c ∙ ap (λ (t : Stamp). has_arrived_by t c.args.self.now) is ∙ arrived_is c.args.self.now l st place

pub returns-else-stamp-self-clause-answer : goal.returns-else-stamp-self-clause-answer
returns-else-stamp-self-clause-answer c = search rules

pub returns-else-stamp-self-clause-since : goal.returns-else-stamp-self-clause-since
returns-else-stamp-self-clause-since c = λ l place st is.
    returns-else-stamp-self-clause-answer c ∙ ap (λ (t : Stamp). has_arrived_by t c.args.self.now) is ∙ arrived_is c.args.self.now l st place
