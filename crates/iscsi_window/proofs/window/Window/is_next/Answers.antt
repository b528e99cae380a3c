use Rattle.std.proofs.Common.{◌∙◌, subst}
use Rattle.iscsi_window.specs.Received.{Received, IsSound}
use Rattle.iscsi_window.proofs.SinceLemmas.{next_since}
use Rattle.iscsi_window.proofs.ShownLemmas.{offer_shown, next_shown, sound_shown}
use Rattle.iscsi_window.proofs.window.Window.is_next.Goals as goal

pub returns-clause-answer : goal.returns-clause-answer
returns-clause-answer c = rw (← c.self.view_is) (c.is_next.ensures.answer ∙ next_shown c.self.inside.events c.args.request.now)

pub returns-clause-held : goal.returns-clause-held
returns-clause-held c = λ next. rw (← c.self.view_is) (offer_shown c.self.inside.events c.args.request.now ∙ c.is_next.ensures.held next)

pub returns-clause-answer_since : goal.returns-clause-answer_since
returns-clause-answer_since c = λ h st. returns-clause-answer c ∙ next_since c.args.self.now c.args.request.now h (subst (λ (s : Received). IsSound s) c.self.view_is (sound_shown c.self.inside.events c.is_next.ensures.sound)) st
