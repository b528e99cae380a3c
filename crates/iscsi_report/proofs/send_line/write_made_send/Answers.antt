use Rattle.std.proofs.Common.{rules, List, ℕ, ◌++◌, ◌≡◌, None, take, ap, ◌∙◌}
use Rattle.iscsi_report.proofs.AnswerDigits.{response_line}
use Rattle.iscsi_report.proofs.send_line.write_made_send.Goals as goal

pub returns-in-Scsi-default-default-None-clause-written :
    goal.returns-in-Scsi-default-default-None-clause-written
returns-in-Scsi-default-default-None-clause-written c =
    let r = c.in-Scsi-default-default-None in
    let none : r.sense ≡ None = search rules in
    c.write_answer.ensures.written ∙ ap (λ (l : List ℕ). take c.args.at c.args.line.now ++ l) (response_line c.args.conn r.itt r.status c.args.stat_sn
    c.args.numbers c.args.reply.now r.sense r.is none)
