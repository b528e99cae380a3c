use Rattle.std.proofs.Common.{◌≡◌, ◌++◌, List, length, false}
use Rattle.iscsi_rules.specs.declared.event.Event.{Event}
use Rattle.iscsi_rules.specs.promises.Flow.{FlowsThrough}
use Rattle.iscsi_session.specs.private.Standing.{StandsFor}
use Rattle.iscsi_report.specs.Filled.{IsAtRest}
use Rattle.iscsi_replay.specs.promises.Replayed.{setting_with, report_by}
use Rattle.iscsi_recording.specs.Writing.{AppendsBut}
use Rattle.iscsi_replay.proofs.recorded.write_recorded.Given as goal

abbrev pub invariant-events : goal.invariant-events
invariant-events g l = record {
  before : List Event;
  whole : l.initial.events ≡ before ++ l.events;
  rest : IsAtRest l.report;
  fresh : g.W.Sink.has_failed l.writer ≡ false;
  stands : StandsFor (setting_with l.fn.most l.settings l.fn.conns.items) l.session before;
  flow : FlowsThrough (setting_with l.fn.most l.settings l.fn.conns.items) before;
  written : AppendsBut (g.W.Sink.contents l.initial.writer) (g.W.Sink.contents l.writer) l.report.bytes
      (report_by (setting_with l.fn.most l.settings l.fn.conns.items) before);
}

abbrev pub decreases-events : goal.decreases-events
decreases-events g l = length l.events
