use Rattle.std.proofs.Common.{◌++◌, []}
use Rattle.std.proofs.lemmas.Result.{IfOk-weaker}
use Rattle.iscsi_report.specs.Lines.{event_line}
use Rattle.iscsi_session.specs.promises.Arrivals.{arrived}
use Rattle.iscsi_replay.proofs.recorded.step_arrival.Goals as goal

pub returns : goal.returns
returns c = record {
  event = arrived c.pass_arrival-request.result;
  came = c.pass_arrival-request.ensures;
  stands = c.arrive_into.ensures.stands;
  lines = λ o h stands.
      IfOk-weaker c.arrive_into.result _ _ (λ x taken. taken (c.args.report.now.bytes ++ event_line (arrived c.pass_arrival-request.result)) [] (rw (← c.conn.ensures, ← c.header.ensures) c.begin_arrival.ensures))
      (c.arrive_into.ensures.effects o h stands);
  refused = c.arrive_into.ensures.refused;
  memory = c.arrive_into.ensures.memory;
  flow = c.arrive_into.ensures.flow;
}
