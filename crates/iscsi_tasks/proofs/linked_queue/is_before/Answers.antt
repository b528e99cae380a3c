use Rattle.std.proofs.Common.{◌≡◌, get_or, ap, sym, arith}
use Rattle.std.proofs.lemmas.Bool.{ltb-true, ltb-false}
use Rattle.iscsi_tasks.proofs.Names.{common_steps, Member, BLANK}
use Rattle.iscsi_tasks.proofs.MarkedLemmas.{within_some}
use Rattle.iscsi_tasks.proofs.linked_queue.is_before.Goals as goal

-- the tickets that were read, and where they stand
pub returns-else-end-eq-ENDS-clause-yes : goal.returns-else-end-eq-ENDS-clause-yes
returns-else-end-eq-ENDS-clause-yes c j k j_in k_in slot end is =
    let list = c.args.chain.now.members in
    let long = c.requires.long in
    let k_there = within_some c.args.chain.now.slots k c.args.end end c.if-end-eq-ENDS.false in
    let first : c.at.result.now.task.ticket ≡ (get_or list j BLANK).task.ticket = ap (λ (m : Member). m.task.ticket) (c.at.ensures j BLANK j_in (sym slot)) in
    let second : c.at-else-end-eq-ENDS.result.now.task.ticket ≡ (get_or list k BLANK).task.ticket = ap (λ (m : Member). m.task.ticket) (c.at-else-end-eq-ENDS.ensures k BLANK k_there (sym end)) in
    let lower = ltb-true c.at.result.now.task.ticket c.at-else-end-eq-ENDS.result.now.task.ticket is in
    grind (arith, common_steps, c.requires.order k j BLANK)

pub returns-else-end-eq-ENDS-clause-no : goal.returns-else-end-eq-ENDS-clause-no
returns-else-end-eq-ENDS-clause-no c j k j_in k_in slot end is =
    let list = c.args.chain.now.members in
    let long = c.requires.long in
    let k_there = within_some c.args.chain.now.slots k c.args.end end c.if-end-eq-ENDS.false in
    let first : c.at.result.now.task.ticket ≡ (get_or list j BLANK).task.ticket = ap (λ (m : Member). m.task.ticket) (c.at.ensures j BLANK j_in (sym slot)) in
    let second : c.at-else-end-eq-ENDS.result.now.task.ticket ≡ (get_or list k BLANK).task.ticket = ap (λ (m : Member). m.task.ticket) (c.at-else-end-eq-ENDS.ensures k BLANK k_there (sym end)) in
    let higher = ltb-false c.at.result.now.task.ticket c.at-else-end-eq-ENDS.result.now.task.ticket is in
    grind (arith, common_steps, BLANK)
