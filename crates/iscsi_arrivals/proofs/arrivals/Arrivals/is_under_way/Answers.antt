use Rattle.std.proofs.Common.{rules, ap, ◌∙◌}
use Rattle.iscsi_arrivals.specs.declared.stamp.Stamp.{Stamp}
use Rattle.iscsi_arrivals.specs.Counts.{is_under_way_by}
use Rattle.iscsi_arrivals.proofs.SinceLemmas.{under_way_is}
use Rattle.iscsi_arrivals.proofs.arrivals.Arrivals.is_under_way.Goals as goal

pub returns-then-looks-clause-answer : goal.returns-then-looks-clause-answer
returns-then-looks-clause-answer c = search rules

pub returns-then-looks-clause-since : goal.returns-then-looks-clause-since
returns-then-looks-clause-since c = λ l place st is.
    returns-then-looks-clause-answer c ∙ ap (λ (t : Stamp). is_under_way_by c.args.looks t c.args.self.now) is
    ∙ under_way_is c.args.self.now l st c.args.looks place

pub returns-else-looks-clause-answer : goal.returns-else-looks-clause-answer
returns-else-looks-clause-answer c = search rules

pub returns-else-looks-clause-since : goal.returns-else-looks-clause-since
returns-else-looks-clause-since c = λ l place st is.
    returns-else-looks-clause-answer c ∙ ap (λ (t : Stamp). is_under_way_by c.args.looks t c.args.self.now) is
    ∙ under_way_is c.args.self.now l st c.args.looks place

pub returns-else-is_open-clause-answer : goal.returns-else-is_open-clause-answer
returns-else-is_open-clause-answer c = search rules

pub returns-else-is_open-clause-since : goal.returns-else-is_open-clause-since
returns-else-is_open-clause-since c = λ l place st is.
    returns-else-is_open-clause-answer c ∙ ap (λ (t : Stamp). is_under_way_by c.args.looks t c.args.self.now) is
    ∙ under_way_is c.args.self.now l st c.args.looks place
