use Rattle.std.proofs.Common.{subst}
use Rattle.iscsi_window.specs.Received.{Received, IsSound}
use Rattle.iscsi_window.proofs.SinceLemmas.{Law-stands}
use Rattle.iscsi_window.proofs.ShownLemmas.{sound_shown}
use Rattle.iscsi_window.proofs.window.Window.size.Goals as goal
use Rattle.iscsi_window.proofs.window.Window.size.Goals.{After-size}

sound : (c : After-size) → IsSound c.args.self.now
sound c = subst (λ (s : Received). IsSound s) c.self.view_is (sound_shown c.self.inside.events c.size.ensures.sound)

pub returns-clause-sound : goal.returns-clause-sound
returns-clause-sound c = sound (goal.at.returns-clause-sound c).After-size

pub returns-clause-law : goal.returns-clause-law
returns-clause-law c = λ h st. Law-stands c.args.self.now h (sound (goal.at.returns-clause-law c).After-size) st
