use Rattle.std.proofs.Common.{◌∙◌, ◌∷◌, ap, sym, subst}
use Rattle.iscsi_tasks.proofs.Names.{Members, Entered, StandsFor, Linked}
use Rattle.iscsi_tasks.proofs.HistoryLemmas.{StandsFor-entered}
use Rattle.iscsi_tasks.proofs.set.TaskSet.enter.Goals as goal

pub returns-clause-stands : goal.returns-clause-stands
returns-clause-stands c = λ h st below.
    let ok = c.in_ok-taken.ensures.ok in
    subst (λ (s : Members). StandsFor s (Entered c.args.task ∷ h)) (sym (ap (λ (l : Linked). l.shown) ok.1 ∙ sym ok.2))
    (StandsFor-entered c.self.inside.tasks.shown c.args.task h (subst (λ (s : Members). StandsFor s h) (sym c.self.view_is) st) below)
