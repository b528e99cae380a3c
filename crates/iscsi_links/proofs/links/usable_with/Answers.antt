use Rattle.std.proofs.Common.{◌∙◌, get_or, ap, sym, arith, ⊎_elim}
use Rattle.std.proofs.lemmas.Bool.{cases_eq}
use Rattle.std.proofs.lemmas.List.{get_or_default}
use Rattle.std.proofs.lemmas.List.Sums.{position_or_len_is}
use Rattle.iscsi_arrivals.specs.Counts.{is_usable_by, new_counts}
use Rattle.iscsi_links.proofs.links.usable_with.Goals as goal

pub returns-then-place-usable : goal.returns-then-place-usable
returns-then-place-usable c =
    let lower = c.if-place-usable.true in
    sym (position_or_len_is is_usable_by c.args.list.now c.args.place new_counts (let a = c.requires.within in omega (arith, a))
    (λ k l. c.requires.before k (omega (arith, l, lower)) (λ same. omega (arith, same, l)))
    (λ l. ap is_usable_by (get_or_default c.args.list.now c.args.place new_counts c.index-list-place.result c.requires.within ∙ sym c.index-list-place.is) ∙ sym c.is_usable.ensures.answer ∙ c.if-is_usable.true))

pub returns-else-place-usable : goal.returns-else-place-usable
returns-else-place-usable c =
    let lower = c.if-place-usable.false in
    sym (position_or_len_is is_usable_by c.args.list.now c.args.usable new_counts c.requires.first
    (λ k l. c.requires.before k l (λ same. omega (arith, same, l, lower)))
    (λ l. ⊎_elim
    (λ same.
    ap (λ n. is_usable_by (get_or c.args.list.now n new_counts)) same
    ∙ ap is_usable_by (get_or_default c.args.list.now c.args.place new_counts c.index-list-place.result c.requires.within ∙ sym c.index-list-place.is) ∙ sym c.is_usable.ensures.answer ∙ c.if-is_usable.true)
    (λ other. c.requires.here l other)
    (cases_eq c.args.usable c.args.place)))

pub returns : goal.returns
returns c =
    sym (position_or_len_is is_usable_by c.args.list.now c.args.usable new_counts c.requires.first
    (λ k l. ⊎_elim
    (λ same.
    ap (λ n. is_usable_by (get_or c.args.list.now n new_counts)) same
    ∙ ap is_usable_by (get_or_default c.args.list.now c.args.place new_counts c.index-list-place.result c.requires.within ∙ sym c.index-list-place.is) ∙ sym c.is_usable.ensures.answer ∙ c.if-is_usable.false)
    (λ other. c.requires.before k l other)
    (cases_eq k c.args.place))
    (λ l. c.requires.here l (λ same. c.if-place-usable-2.false (sym same))))
