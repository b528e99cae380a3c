use Rattle.std.proofs.Common.{◌∙◌, ap, sym, subst, option_map}
use Rattle.iscsi_window.specs.Windows.{number_shown}
use Rattle.iscsi_window.specs.History.{number_of, is_command_below, ShowsLowest}
use Rattle.iscsi_window.proofs.LowestLemmas.{find_since}
use Rattle.iscsi_window.proofs.ShownLemmas.{found_shown}
use Rattle.iscsi_window.proofs.window.Window.find_held.Goals as goal

pub returns-clause-answer : goal.returns-clause-answer
returns-clause-answer c = rw (← c.self.view_is) (c.find_held.ensures ∙ ap (option_map (number_shown c.self.inside.events)) (found_shown c.self.inside.events c.args.itt c.args.unit c.args.below))

pub returns-clause-answer_since : goal.returns-clause-answer_since
returns-clause-answer_since c = λ h st.
    let s = c.args.self.now in
    subst (ShowsLowest (is_command_below h c.args.itt c.args.unit (number_of s.first h c.args.below))) (sym (returns-clause-answer c)) (find_since s c.args.itt c.args.unit c.args.below h st)
