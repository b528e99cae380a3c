use Rattle.std.proofs.Common.{◌∙◌, Some, ap, sym, arith}
use Rattle.std.proofs.lemmas.List.{length-map, get_or-map}
use Rattle.std.proofs.lemmas.Option.{slice_get-get_or}
use Rattle.iscsi_tasks.proofs.Names.{Member, tasks_in, member_of}
use Rattle.iscsi_tasks.proofs.set.TaskSet.task_at.Goals as goal

pub returns-then-place-len : goal.returns-then-place-len
returns-then-place-len c =
    let list = c.args.self.now.list in
    let m : Member = member_of c.at.result.now in
    let long = length-map list (λ (x : Member). x.task) in
    ap (λ (x : Member). Some x.task) (c.at.ensures.member m)
    ∙ sym (slice_get-get_or (tasks_in c.args.self.now) c.args.place m.task (omega (arith, long)) ∙ ap Some (get_or-map (λ (x : Member). x.task) list c.args.place m m.task (omega arith)))
