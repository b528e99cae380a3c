use Rattle.std.proofs.Common.{◌∙◌, ◌<◌, ℕ, List, map, length, ◌≡◌, get_or, Some, ap, sym, subst, arith, ⊎_elim}
use Rattle.std.proofs.lemmas.Bool.{cases_eq}
use Rattle.std.proofs.lemmas.Option.{slice_get-map, slice_get-get_or}
use Rattle.std.specs.Prelude.{option_map, option_and_then, unwrap_or}
use Rattle.iscsi_tasks.specs.declared.cover.Cover.TheVariants.{All as AllOfThem}
use Rattle.iscsi_tasks.specs.declared.member.Member.{Member}
use Rattle.iscsi_tasks.specs.Sets.{covered_at, is_covered, ticket_if}
use Rattle.check_units.proofs.task_set.is_newest.Goals as goal

-- each command is covered, so its ticket is told
told : (list : List Member) (k : ℕ) (d : Member) → k < length list → covered_at AllOfThem (map (λ m. m.task) list) k ≡ Some (get_or list k d).task.ticket
told list k d l =
    ap (option_and_then (λ t. ticket_if (is_covered AllOfThem t) t)) (slice_get-map (λ m. m.task) list k ∙ ap (option_map (λ m. m.task)) (slice_get-get_or list k d l))

pub loop-place-preserved : goal.loop-place-preserved
loop-place-preserved c = λ j d below. ⊎_elim
    (λ same.
    let list = c.args.set.now.list in
    let k = c.loop-place.place in
    let ticket = ap (λ o. unwrap_or o 0) (sym c.in-Some.is ∙ c.covered_at.ensures.answer ∙ told list k d (omega (arith, c.loop-place-test.true, c.len-place-end.ensures.len))) in
    subst (λ n. (get_or list n d).task.ticket < c.args.ticket) (sym same) (subst (λ n. n < c.args.ticket) ticket c.if-older-ticket.true))
    (λ apart. c.loop-place.invariant j d (omega (arith, below, apart)))
    (cases_eq j c.loop-place.place)
