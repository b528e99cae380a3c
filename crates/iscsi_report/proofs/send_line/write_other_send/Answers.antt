use Rattle.std.proofs.Common.{List, ℕ, ◌++◌, take, ap, ◌∙◌}
use Rattle.iscsi_report.proofs.AnswerDigits.{task_line}
use Rattle.iscsi_report.proofs.send_line.write_other_send.Goals as goal

pub returns-in-Task-clause-written : goal.returns-in-Task-clause-written
returns-in-Task-clause-written c =
    let r = c.in-Task in
    c.write_answer.ensures.written ∙ ap (λ (l : List ℕ). take c.args.at c.args.line.now ++ l) (task_line c.args.conn r.itt r.response c.args.stat_sn
    c.args.numbers c.args.reply.now r.is)
