use Rattle.std.proofs.Common.{rules, not, sym, subst, ◌∙◌}
use Rattle.std.proofs.lemmas.Bool.{and_parts}
use Rattle.iscsi_arrivals.specs.Counts.{Counts}
use Rattle.iscsi_arrivals.specs.Stamps.{handed_out}
use Rattle.iscsi_arrivals.specs.Standing.{StandsFor}
use Rattle.iscsi_arrivals.proofs.StandingLemmas.{stands_handed}
use Rattle.iscsi_arrivals.proofs.SinceLemmas.{stamp_is}
use Rattle.iscsi_arrivals.proofs.arrivals.Arrivals.hand_out.Goals as goal

pub returns-clause-answer : goal.returns-clause-answer
returns-clause-answer c = search rules

pub returns-clause-state : goal.returns-clause-state
returns-clause-state c = search rules

pub returns-clause-since : goal.returns-clause-since
returns-clause-since c = λ l st. returns-clause-answer c ∙ stamp_is c.args.self.now l st

pub returns-clause-stands : goal.returns-clause-stands
returns-clause-stands c = λ l h st takes closes isnt.
    let s : Counts = c.args.self.now in
    subst (λ (s : Counts). StandsFor s (handed_out h l)) (sym (returns-clause-state c))
    (stands_handed s l st h c.args.takes c.args.ends (sym st.joined ∙ (and_parts s.joined (not s.lost) c.requires.open).0) takes closes isnt)
