use Rattle.std.proofs.Common.{◌∙◌, ap, sym}
use Rattle.iscsi_window.specs.Windows.{shown}
use Rattle.iscsi_window.proofs.SinceLemmas.{StandsFor-advance}
use Rattle.iscsi_window.proofs.ShownLemmas.{turn_shown, advanced_shown}
use Rattle.iscsi_window.proofs.window.Window.advance.Goals as goal

pub returns-clause-answer : goal.returns-clause-answer
returns-clause-answer c = rw (← c.self.view_is, c.exp-sn.ensures) (turn_shown c.self.inside.events c.in_ok-advance.field-0 c.request_of-request.result (sym c.advance.ensures.answer ∙ c.in_ok-advance.was) c.request_of-request.ensures)

pub returns-clause-state : goal.returns-clause-state
returns-clause-state c = rw (← c.self.view_is) (ap shown c.advance.ensures.state ∙ advanced_shown c.self.inside.events)

pub returns-clause-stands : goal.returns-clause-stands
returns-clause-stands c = λ h st. StandsFor-advance c.args.self.now _ _ h st (returns-clause-answer c) (returns-clause-state c)
