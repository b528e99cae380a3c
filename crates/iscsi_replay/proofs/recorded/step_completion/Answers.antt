use Rattle.iscsi_rules.specs.declared.event.Event.TheVariants.{Done}
use Rattle.iscsi_replay.proofs.recorded.step_completion.Goals as goal

pub returns : goal.returns
returns c = record {
  event = Done c.pass_completion-ticket.result.0 c.pass_completion-ticket.result.1;
  came = c.pass_completion-ticket.ensures;
  stands = c.step.ensures.stands;
  lines = c.step.ensures.lines;
  refused = c.step.ensures.refused;
  memory = c.step.ensures.memory;
  flow = c.step.ensures.flow;
}
