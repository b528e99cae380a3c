use Rattle.std.proofs.Common.{◌≡◌, ◌∙◌, sym, subst, arith}
use Rattle.iscsi_tasks.proofs.Names.{Marks, IsMarked}
use Rattle.iscsi_tasks.proofs.ChainLemmas.{same_to_end}
use Rattle.iscsi_tasks.proofs.CountLemmas.{enabled_up_to}
use Rattle.iscsi_tasks.proofs.MarkedLemmas.{marked_enabled_first, marked_enabled_more}
use Rattle.iscsi_tasks.proofs.linked_queue.with_enabled.Goals as goal

pub returns-then-is_none_new-clause-marked : goal.returns-then-is_none_new-clause-marked
returns-then-is_none_new-clause-marked c i k more within dormant end =
    let m = c.requires.marked in
    let long = m.long in
    let in_place = m.counted.enabled_to in
    let at : m.counts.enabled_to ≡ i = same_to_end m.apart m.counts.enabled_to i (omega (arith, in_place, long)) (omega (arith, more, within)) (sym m.dormant ∙ dormant) in
    subst (λ (n : Marks). IsMarked n c.args.chain.now.slots (enabled_up_to k c.args.chain.now.members)) (sym c.with_enabled.ensures)
    (marked_enabled_first m (sym c.is_none_new.ensures ∙ c.if-is_none_new.true) k c.args.end (omega (arith, at, more)) (omega (arith, within, long)) end)

pub returns-clause-marked : goal.returns-clause-marked
returns-clause-marked c i k more within dormant end =
    let m = c.requires.marked in
    let long = m.long in
    let in_place = m.counted.enabled_to in
    let at : m.counts.enabled_to ≡ i = same_to_end m.apart m.counts.enabled_to i (omega (arith, in_place, long)) (omega (arith, more, within)) (sym m.dormant ∙ dormant) in
    subst (λ (n : Marks). IsMarked n c.args.chain.now.slots (enabled_up_to k c.args.chain.now.members)) (sym c.with_enabled-2.ensures)
    (marked_enabled_more m (sym c.is_none_new.ensures ∙ c.if-is_none_new.false) k c.args.end c.older-new_from.result c.younger-new_to.result (omega (arith, at, more)) (omega (arith, within, long)) end
    (c.older-new_from.ensures m.counts.enabled_to m.counts.new_from m.dormant m.new_from)
    (c.younger-new_to.ensures m.counts.new_to k m.new_to end))
