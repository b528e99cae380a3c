use Rattle.std.proofs.Common.{◌∙◌, ap, sym, arith, eq-eqb}
use Rattle.std.proofs.lemmas.Bool.{eqb-true}
use Rattle.iscsi_tasks.proofs.Names.{Member, member_of}
use Rattle.iscsi_tasks.proofs.set.TaskSet.is_at.Goals as goal

pub returns-then-at-len-clause-there : goal.returns-then-at-len-clause-there
returns-then-at-len-clause-there c =
    let m : Member = member_of c.at.result.now in (
      λ is. (
        omega (arith, c.if-at-len.true, c.len.ensures.len),
        λ d. ap (λ (x : Member). x.task.ticket) (sym (c.at.ensures.member d)) ∙ eqb-true m.task.ticket c.args.ticket is,
      ),
      λ there. eq-eqb m.task.ticket c.args.ticket (ap (λ (x : Member). x.task.ticket) (c.at.ensures.member m) ∙ there.1 m),
    )
