use Rattle.std.proofs.Common.{◌∙◌, ap, sym, true≢false}
use Rattle.std.proofs.lemmas.List.{get_or_default}
use Rattle.iscsi_slots.proofs.HalvingLemmas.{not_there}
use Rattle.iscsi_tasks.proofs.Names.{Member}
use Rattle.iscsi_tasks.proofs.set.TaskSet.place_of.Goals as goal

pub returns-else-is_at-3-clause-place : goal.returns-else-is_at-3-clause-place
returns-else-is_at-3-clause-place c =
    let list = c.args.self.now.list in
    let from = c.first_from-at.ensures in
    not_there (λ (m : Member). m.task.ticket) list c.args.ticket c.first_from-at.result c.is_at-3.ensures.order from.below from.above
    (λ within d same. true≢false (sym (c.is_at-3.ensures.there.1 (within, λ e. ap (λ (m : Member). m.task.ticket) (get_or_default list c.first_from-at.result e d within) ∙ same)) ∙ c.if-is_at-3.false))
