use Rattle.std.proofs.Common.{◌++◌, []}
use Rattle.std.proofs.lemmas.Result.{IfOk-weaker}
use Rattle.iscsi_report.specs.Lines.{event_line}
use Rattle.iscsi_replay.proofs.replaying.step.Goals as goal

pub returns-in-Arrive-clause-lines : goal.returns-in-Arrive-clause-lines
returns-in-Arrive-clause-lines c = λ o h stands.
    IfOk-weaker c.step_into.result _ _ (λ x taken. taken (c.args.report.now.bytes ++ event_line c.args.event.now) [] (rw c.in-Arrive.is c.begin_arrival.ensures))
    (c.step_into.ensures.effects o h stands)

pub returns-in-Done-clause-lines : goal.returns-in-Done-clause-lines
returns-in-Done-clause-lines c = λ o h stands.
    IfOk-weaker c.step_into-in-Done.result _ _ (λ x taken. taken (c.args.report.now.bytes ++ event_line c.args.event.now) [] (rw c.in-Done.is c.begin_completion.ensures))
    (c.step_into-in-Done.ensures.effects o h stands)
