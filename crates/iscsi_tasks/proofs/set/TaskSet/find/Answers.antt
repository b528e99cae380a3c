use Rattle.std.proofs.Common.{◌==◌, ◌<◌, ◌∙◌, ℕ, Some, option_map, length, ap, sym, arith, eq-eqb}
use Rattle.iscsi_tasks.proofs.Names.{common_steps, Member, with_tag, member_of}
use Rattle.iscsi_tasks.proofs.ListLemmas.{find-map}
use Rattle.iscsi_tasks.proofs.PlaceLemmas.{place_is}
use Rattle.iscsi_tasks.proofs.SearchLemmas.{find_place, find_nowhere}
use Rattle.iscsi_tasks.proofs.set.TaskSet.find.Goals as goal

pub returns-then-task-itt-clause-answer : goal.returns-then-task-itt-clause-answer
returns-then-task-itt-clause-answer c =
    let list = c.args.self.now.list in
    let k : ℕ = c.loop-place.place in
    let m : Member = member_of c.at.result.now in
    let tagged = λ (x : Member). x.task.itt == c.args.itt in
    let within : k < length list = omega arith in
    let first = place_is tagged list k m within (λ j l. c.loop-place.invariant j m l) (ap tagged (sym (c.at.ensures.member m)) ∙ eq-eqb m.task.itt c.args.itt c.if-task-itt.true) in
    ap (λ (x : Member). Some x.task) (c.at.ensures.member m)
    ∙ sym (find-map (λ t. t.itt == c.args.itt) (λ (x : Member). x.task) list ∙ ap (option_map (λ (x : Member). x.task)) (find_place tagged list k m first within))

pub returns-then-task-itt-clause-stands : goal.returns-then-task-itt-clause-stands
returns-then-task-itt-clause-stands c = λ h st. returns-then-task-itt-clause-answer c ∙ ap (with_tag c.args.itt) st.tasks

pub returns : goal.returns
returns c = grind (arith, common_steps, common_steps, find-map, find_nowhere, with_tag)
