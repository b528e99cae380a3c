use Rattle.std.proofs.Common.{◌∙◌, ap}
use Rattle.iscsi_window.specs.Windows.{shown}
use Rattle.iscsi_window.proofs.SinceLemmas.{StandsFor-take}
use Rattle.iscsi_window.proofs.ShownLemmas.{taken_shown}
use Rattle.iscsi_window.proofs.window.Window.drop_at.Goals as goal

pub returns-clause-state : goal.returns-clause-state
returns-clause-state c = rw (← c.self.view_is) (ap shown c.drop_at.ensures.state ∙ taken_shown c.self.inside.events c.args.ahead c.args.conn)

pub returns-clause-stands : goal.returns-clause-stands
returns-clause-stands c = λ h st. StandsFor-take c.args.self.now c.args.ahead c.args.conn _ h st (returns-clause-state c)
