use Rattle.std.proofs.Common.{◌∙◌, ap, sym, subst}
use Rattle.iscsi_window.specs.Received.{Received, IsSound}
use Rattle.iscsi_window.specs.Windows.{shown}
use Rattle.iscsi_window.proofs.SinceLemmas.{offered_since, StandsFor-offer}
use Rattle.iscsi_window.proofs.ShownLemmas.{offer_shown, offered_shown, sound_shown}
use Rattle.iscsi_window.proofs.window.Window.offer.Goals as goal

pub returns-clause-answer : goal.returns-clause-answer
returns-clause-answer c = rw (← c.self.view_is) (c.offer.ensures.answer ∙ sym (offer_shown c.self.inside.events c.args.request.now))

pub returns-clause-state : goal.returns-clause-state
returns-clause-state c = rw (← c.self.view_is) (ap shown c.offer.ensures.state ∙ offered_shown c.self.inside.events c.args.request.now 0)

pub returns-clause-answer_since : goal.returns-clause-answer_since
returns-clause-answer_since c = λ h st. returns-clause-answer c ∙ offered_since c.args.self.now c.args.request.now h (subst (λ (s : Received). IsSound s) c.self.view_is (sound_shown c.self.inside.events c.offer.ensures.sound)) st

pub returns-clause-stands : goal.returns-clause-stands
returns-clause-stands c = λ h st. StandsFor-offer c.args.self.now c.args.request.now _ _ h st (returns-clause-answer c) (returns-clause-state c)
