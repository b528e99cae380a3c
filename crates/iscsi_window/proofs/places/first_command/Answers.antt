use Rattle.std.proofs.Common.{◌≡◌, ◌+◌, ◌<◌, false, ℕ, ◌∙◌, get_or, None, length, ap, sym, arith, ⊎_elim}
use Rattle.std.proofs.lemmas.Bool.{eqb-true, cases_lt}
use Rattle.std.proofs.lemmas.Bool.Decides.{nat_tests}
use Rattle.iscsi_window.specs.PlaceTags.{Placed}
use Rattle.iscsi_window.specs.Windows.{holds_command}
use Rattle.iscsi_window.proofs.BoundLemmas.{none_found, none_before, found_below, none_below}
use Rattle.iscsi_window.proofs.LabelLemmas.{none_between, first_between}
use Rattle.iscsi_window.proofs.FilledLemmas.{untagged, none_filled_with}
use Rattle.iscsi_window.proofs.places.first_command.Goals as goal
use Rattle.iscsi_window.proofs.places.first_command.Goals.{After-min-first, then-may_have+else-is_some, else-may_have}

pub returns-then-is_none : goal.returns-then-is_none
returns-then-is_none c = grind (arith, nat_tests, eqb-true, none_found)

-- no place before the first of the search holds one
none_yet : (c : After-min-first) (j : ℕ) → j < c.min-first.result → holds_command c.args.itt c.args.unit (get_or c.args.places.now.items j None) ≡ false
none_yet c j below = grind (arith, nat_tests, none_before)

pub returns-then-holds_command_at : goal.returns-then-holds_command_at
returns-then-holds_command_at c =
    grind (arith, nat_tests, found_below (holds_command c.args.itt c.args.unit) c.args.places.now.items c.args.end None c.min-first.result, none_yet)

pub loop-k-init : goal.loop-k-init
loop-k-init c = none_yet (goal.at.loop-k-init c).After-min-first

-- no place of the block has a command, or none has the tag
pub loop-k-preserved : goal.loop-k-preserved
loop-k-preserved c = λ j below. ⊎_elim
    (λ before. c.loop-k.invariant j before)
    (λ inside. elim c.if-may_have.branch [
      | then-may_have+else-is_some w ↦
          none_between (holds_command c.args.itt c.args.unit) c.args.places.now.items c.loop-k.k (c.loop-k.k + c.of_one_word-count.result) w.first_between-found.result w.first_between-found.ensures (sym w.is_some.ensures ∙ w.if-is_some.false) j inside (omega (arith, below))
      | else-may_have w ↦
          ap (λ b. holds_command c.args.itt c.args.unit (get_or b.items j None)) (sym c.places.view_is)
          ∙ untagged c.places.inside.labels c.places.inside.turned c.places.inside.ring c.args.itt c.args.unit c.loop-k.k c.of_one_word-count.result c.saturating_add-number.result j c.places.invariant.labels c.saturating_add-number.ensures
          (c.may_have.ensures.fits w.if-may_have.false) c.of_one_word-count.ensures.together (c.may_have.ensures.none w.if-may_have.false) inside (omega (arith, below))
    ])
    (cases_lt j c.loop-k.k)

pub returns-then-is_some : goal.returns-then-is_some
returns-then-is_some c = grind (arith, nat_tests, first_between)

pub returns : goal.returns
returns c =
    let long = ap (λ (b : Placed). length b.items) c.places.view_is in
    none_below (holds_command c.args.itt c.args.unit) c.args.places.now.items c.args.end None (λ j short within. c.loop-k.invariant j (omega (arith, long, short, within)))

-- no place with a bit has the tag
pub returns-then-not-may_be_filled : goal.returns-then-not-may_be_filled
returns-then-not-may_be_filled c =
    none_below (holds_command c.args.itt c.args.unit) c.args.places.now.items c.args.end None (λ j short within.
    ap (λ b. holds_command c.args.itt c.args.unit (get_or b.items j None)) (sym c.places.view_is)
    ∙ none_filled_with c.places.inside.labels c.places.inside.filled c.places.inside.turned c.places.inside.ring c.args.itt c.args.unit j c.places.invariant.labels c.places.invariant.filled
    (c.may_be_filled.ensures.fits c.if-not-may_be_filled.true) (c.may_be_filled.ensures.none c.if-not-may_be_filled.true) (omega (arith, c.requires, short, within)))
