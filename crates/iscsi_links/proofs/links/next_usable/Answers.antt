use Rattle.std.proofs.Common.{◌≡◌, ◌∙◌, get_or, ap, sym, arith, ⊎_elim}
use Rattle.std.proofs.lemmas.Bool.{cases_lt}
use Rattle.std.proofs.lemmas.List.{get_or_default}
use Rattle.std.proofs.lemmas.List.Sums.{position_or_len_is}
use Rattle.iscsi_arrivals.specs.Counts.{is_usable_by, new_counts}
use Rattle.iscsi_links.proofs.links.next_usable.Goals as goal

pub loop-place-init : goal.loop-place-init
loop-place-init c = record { within = c.requires.within; none = c.requires.none }

pub loop-place-preserved : goal.loop-place-preserved
loop-place-preserved c = record {
  within = let a = c.loop-place-test.true in omega (arith, a);
  none = λ j l. ⊎_elim
      (λ before. c.loop-place.invariant.none j before)
      (λ last.
      let same : j ≡ c.loop-place.place = omega (arith, l, last) in
      ap (λ n. is_usable_by (get_or c.args.list.now n new_counts)) same
      ∙ ap is_usable_by (get_or_default c.args.list.now c.loop-place.place new_counts c.index-list-place.result c.loop-place-test.true ∙ sym c.index-list-place.is)
      ∙ sym c.is_usable.ensures.answer ∙ c.if-not-is_usable.true)
      (cases_lt j c.loop-place.place);
}

pub returns-else-not-is_usable : goal.returns-else-not-is_usable
returns-else-not-is_usable c =
    sym (position_or_len_is is_usable_by c.args.list.now c.loop-place.place new_counts c.loop-place.invariant.within c.loop-place.invariant.none (λ l.
    ap is_usable_by (get_or_default c.args.list.now c.loop-place.place new_counts c.index-list-place.result c.loop-place-test.true ∙ sym c.index-list-place.is)
    ∙ sym c.is_usable.ensures.answer ∙ c.if-not-is_usable.false))

pub returns-after-loop-place : goal.returns-after-loop-place
returns-after-loop-place c =
    sym (position_or_len_is is_usable_by c.args.list.now c.loop-place.place new_counts c.loop-place.invariant.within c.loop-place.invariant.none (λ l.
    let past = c.loop-place-test.false in absurd (omega (arith, l, past))))
