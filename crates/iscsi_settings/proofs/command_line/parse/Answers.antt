use Rattle.std.proofs.Common.{ap, refl, true, ◌≡◌, ◌∙◌, subst, List, map}
use Rattle.std.proofs.lemmas.Result.{IfOk-weaker}
use Rattle.clap.specs.Words.{App, Text, app_of, found_of, is_simple, is_simple_and_free, matches_of, FailsBy, fault_of, rows_of}
use Rattle.iscsi_settings.specs.Command.{replay_app}
use Rattle.iscsi_settings.proofs.CheckedLemmas.{values_checked}
use Rattle.iscsi_settings.proofs.command_line.parse.Goals as goal

simple : is_simple replay_app ≡ true
unfolding replay_app
simple = refl

free : is_simple_and_free replay_app ≡ true
unfolding replay_app
free = refl

pub returns : goal.returns
returns c =
    let app_is : app_of c.in_ok-command.command ≡ replay_app = c.in_ok-command.ensures in
    let run = c.try_get_matches_from in
    let words : List Text = map (λ w. w.now) c.args.words.now in
    let matched = IfOk-weaker run.result _ (λ m. rows_of (found_of m) ≡ matches_of replay_app words)
    (λ m h. (h (ap is_simple app_is ∙ simple)).0 ∙ ap (λ (a : App). matches_of a words) app_is) run.ensures.matches in
    record {
      ok = matched;
      checked = IfOk-weaker run.result _ _ (λ m h. values_checked c.in_ok-command.command m app_is h) run.ensures.parsed;
      kinds = subst (λ (a : App). FailsBy (fault_of a words) run.result) app_is (run.ensures.kinds (ap is_simple_and_free app_is ∙ free));
    }
