use Rattle.std.proofs.Common.{rules, sym, subst}
use Rattle.iscsi_outbox_rules.specs.rules.Run.{link_heard}
use Rattle.iscsi_arrivals.specs.Counts.{Counts}
use Rattle.iscsi_arrivals.specs.Standing.{StandsFor}
use Rattle.iscsi_arrivals.proofs.HeardLemmas.{stands_heard}
use Rattle.iscsi_arrivals.proofs.arrivals.Arrivals.hear.Goals as goal

pub returns-clause-state : goal.returns-clause-state
returns-clause-state c = search rules

pub returns-clause-stands : goal.returns-clause-stands
returns-clause-stands c = λ l st.
    subst (λ (s : Counts). StandsFor s (link_heard c.args.exp_stat_sn c.args.transfer_tag l)) (sym (returns-clause-state c))
    (stands_heard c.args.self.now l st c.args.exp_stat_sn c.args.transfer_tag)
