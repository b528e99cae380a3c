use Rattle.std.proofs.Common.{rules, Bool, ap, sym, ◌∙◌}
use Rattle.iscsi_arrivals.specs.Counts.{is_busy_by}
use Rattle.iscsi_arrivals.proofs.SinceLemmas.{busy_is}
use Rattle.iscsi_arrivals.proofs.arrivals.Arrivals.is_busy.Goals as goal

pub returns-then-looks-clause-answer : goal.returns-then-looks-clause-answer
returns-then-looks-clause-answer c = search rules

pub returns-then-looks-clause-since : goal.returns-then-looks-clause-since
returns-then-looks-clause-since c = λ o l st looks.
    returns-then-looks-clause-answer c ∙ ap (λ (v : Bool). is_busy_by v c.args.self.now) (sym looks) ∙ busy_is c.args.self.now l st o

pub returns-else-looks-clause-answer : goal.returns-else-looks-clause-answer
returns-else-looks-clause-answer c = search rules

pub returns-else-looks-clause-since : goal.returns-else-looks-clause-since
returns-else-looks-clause-since c = λ o l st looks.
    returns-else-looks-clause-answer c ∙ ap (λ (v : Bool). is_busy_by v c.args.self.now) (sym looks) ∙ busy_is c.args.self.now l st o

pub returns-else-is_open-clause-answer : goal.returns-else-is_open-clause-answer
returns-else-is_open-clause-answer c = search rules

pub returns-else-is_open-clause-since : goal.returns-else-is_open-clause-since
returns-else-is_open-clause-since c = λ o l st looks.
    returns-else-is_open-clause-answer c ∙ ap (λ (v : Bool). is_busy_by v c.args.self.now) (sym looks) ∙ busy_is c.args.self.now l st o
