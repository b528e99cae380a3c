-- The next event's commands have tickets above those of the jobs that wait.
use Rattle.std.specs.Prelude.{◌≡◌, List, [], ◌∷◌, ◌++◌}
use Rattle.std.proofs.Common.{sym, subst, arith}
use Rattle.iscsi_rules.specs.declared.event.Event.{Event}
use Rattle.iscsi_rules.specs.rules.Settings.{Setting}
use Rattle.iscsi_rules.specs.rules.Run.{run_of, next_entry}
use Rattle.iscsi_rules.specs.promises.Enabling.{effects_in}
use Rattle.iscsi_rules.proofs.promises.LifeTheorem.{starts_once}
use Rattle.iscsi_threads.specs.rules.Desks.{Known, nothing, known_after, EnterAbove}
use Rattle.iscsi_threads.proofs.DeskLemmas.{after_above}
use Rattle.iscsi_threads.proofs.Turning.{effects_run}

-- from the start on, the commands that enter take the tickets 1, 2, 3, ..
whole_above : (o : Setting) (h : List Event) → EnterAbove nothing (effects_in (run_of o h))
whole_above o h = record {
  first = 1;
  rising = λ i j d up within. absurd (omega arith);
  below = λ i d within. absurd (omega arith);
  entered = (starts_once o h).tickets;
}

pub enters_above : (o : Setting) (j : List Event) (e : Event) (k : Known) → k ≡ known_after nothing (effects_in (run_of o j)) → EnterAbove k (next_entry o j e).effects
enters_above o j e k is =
    let whole : EnterAbove nothing (effects_in (run_of o j) ++ (next_entry o j e).effects) = subst (EnterAbove nothing) (effects_run o j e) (whole_above o (j ++ e ∷ [])) in
    subst (λ (x : Known). EnterAbove x (next_entry o j e).effects) (sym is) (after_above nothing (effects_in (run_of o j)) (next_entry o j e).effects whole)
