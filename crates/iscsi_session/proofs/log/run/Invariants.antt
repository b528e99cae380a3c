use Rattle.iscsi_session.proofs.Names.{◌≡◌, take, drop, Setting, setting_of, run_of, FlowsThrough, first_refusal, StandsFor}
use Rattle.iscsi_session.proofs.log.run.Given as goal

-- the session stands for the events so far, of which the log is, and nothing was refused
abbrev pub invariant-loop-event : goal.invariant-loop-event
invariant-loop-event l =
    let o : Setting = setting_of l.fn.options in
    record {
      stands : StandsFor o l.session (take l.event-index l.events);
      flow : FlowsThrough o (take l.event-index l.events);
      log : l.log.items ≡ run_of o (take l.event-index l.events);
      refusal : first_refusal o l.event-index (drop l.event-index l.events) ≡ first_refusal o 0 l.events;
    }
