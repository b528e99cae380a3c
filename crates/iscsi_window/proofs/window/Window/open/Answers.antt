use Rattle.std.proofs.Common.{◌∙◌, ap, sym, subst, []}
use Rattle.iscsi_window.specs.Windows.{shown}
use Rattle.iscsi_window.specs.History.{StandsFor}
use Rattle.iscsi_window.proofs.HistoryLemmas.{StandsFor-opened}
use Rattle.iscsi_window.proofs.ShownLemmas.{opened_shown}
use Rattle.iscsi_window.proofs.window.Window.open.Goals as goal

pub returns-clause-ok : goal.returns-clause-ok
returns-clause-ok c = ap shown c.in_ok-open.ensures.ok ∙ opened_shown c.args.first c.args.size

pub returns-clause-stands : goal.returns-clause-stands
returns-clause-stands c = subst (λ s. StandsFor s []) (sym (ap shown c.in_ok-open.ensures.ok ∙ opened_shown c.args.first c.args.size)) (StandsFor-opened c.args.first c.args.size)
