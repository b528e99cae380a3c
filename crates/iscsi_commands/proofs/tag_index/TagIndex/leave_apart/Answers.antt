use Rattle.std.proofs.Common.{◌≡◌, ap, sym, ◌∙◌, arith, ⊎_elim}
use Rattle.std.proofs.lemmas.Bool.{cases_lt}
use Rattle.std.proofs.lemmas.Bool.Decides.{nat_tests}
use Rattle.iscsi_slots.specs.Slots.{times}
use Rattle.iscsi_commands.specs.Log.{tag_at}
use Rattle.iscsi_commands.proofs.TagIndexLemmas.{other_within, other_at, left_first, left_other}
use Rattle.iscsi_commands.proofs.tag_index.TagIndex.leave_apart.Goals as goal
use Rattle.iscsi_commands.proofs.tag_index.TagIndex.leave_apart.Goals.{else-place-len-via-then-place-len+else-from-k, else-place-len-via-else-place-len}

pub count_below-place-requires-clause-within : goal.count_below-place-requires-clause-within
count_below-place-requires-clause-within c = other_within c.requires.tagged

pub returns-then-from-k-clause-tagged : goal.returns-then-from-k-clause-tagged
returns-then-from-k-clause-tagged c = grind (arith, nat_tests, left_other)

pub returns-else-place-len-clause-tagged : goal.returns-else-place-len-clause-tagged
returns-else-place-len-clause-tagged c =
    let found = c.count_below-place.ensures in
    let tag : c.entry_at.result.now.command.itt ≡ tag_at c.args.log.now c.args.k = ap (λ e. e.command.itt) c.entry_at.ensures in
    let long = c.len.ensures.len in
    ⊎_elim
    (λ none. left_first c.requires.tagged c.args.k c.requires.live (omega (arith, none)))
    (λ some.
    let at = other_at c.requires.tagged c.entry_at.result.now.command.itt c.count_below-place.result found.below found.above c.args.k some (sym tag) in
    let l = at.0 in
    absurd (elim c.else-place-len.branch [
      | else-place-len-via-then-place-len+else-from-k w ↦ w.if-from-k.false (w.from.ensures ∙ w.at.ensures ∙ at.1)
      | else-place-len-via-else-place-len w ↦ let over = w.if-place-len.false in omega (arith, l, over, long)
    ]))
    (cases_lt (times c.args.k c.args.self.now.others.items) 1)
