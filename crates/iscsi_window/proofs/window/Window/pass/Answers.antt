use Rattle.std.proofs.Common.{◌∙◌, ap}
use Rattle.iscsi_window.specs.Windows.{shown}
use Rattle.iscsi_window.proofs.SinceLemmas.{StandsFor-pass}
use Rattle.iscsi_window.proofs.ShownLemmas.{passed_shown}
use Rattle.iscsi_window.proofs.window.Window.pass.Goals as goal

pub returns-clause-state : goal.returns-clause-state
returns-clause-state c = rw (← c.self.view_is) (ap shown (c.pass.ensures.state 0) ∙ passed_shown c.self.inside.events c.args.request.now)

pub returns-clause-stands : goal.returns-clause-stands
returns-clause-stands c = λ h st. StandsFor-pass c.args.self.now c.args.request.now _ h st c.requires.next (returns-clause-state c)
