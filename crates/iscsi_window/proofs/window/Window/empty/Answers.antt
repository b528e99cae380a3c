use Rattle.std.proofs.Common.{◌∙◌, ap, sym, refl}
use Rattle.iscsi_window.specs.Windows.{shown}
use Rattle.iscsi_window.proofs.SinceLemmas.{emptied_since, StandsFor-empty}
use Rattle.iscsi_window.proofs.ShownLemmas.{held_shown, emptied_shown}
use Rattle.iscsi_window.proofs.window.Window.empty.Goals as goal

pub returns-in_err-held-clause-answer : goal.returns-in_err-held-clause-answer
returns-in_err-held-clause-answer c = rw (← c.self.view_is) (c.from_residual.ensures ∙ held_shown c.self.inside.events c.args.w _ _ (sym c.in_err-held.was ∙ c.empty.ensures.answer) refl)

pub returns-in_err-held-clause-answer_since : goal.returns-in_err-held-clause-answer_since
returns-in_err-held-clause-answer_since c = λ h st. returns-in_err-held-clause-answer c ∙ emptied_since c.args.self.now c.args.w h st

pub returns-clause-answer : goal.returns-clause-answer
returns-clause-answer c = rw (← c.self.view_is) (held_shown c.self.inside.events c.args.w _ _ (sym c.in_ok-held.was ∙ c.empty.ensures.answer) refl)

pub returns-clause-state : goal.returns-clause-state
returns-clause-state c = rw (← c.self.view_is) (ap shown c.empty.ensures.state ∙ emptied_shown c.self.inside.events c.args.w)

pub returns-clause-answer_since : goal.returns-clause-answer_since
returns-clause-answer_since c = λ h st. returns-clause-answer c ∙ emptied_since c.args.self.now c.args.w h st

pub returns-clause-stands : goal.returns-clause-stands
returns-clause-stands c = λ h st. StandsFor-empty c.args.self.now c.args.w _ _ h st (returns-clause-answer c) (returns-clause-state c)
