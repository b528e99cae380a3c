use Rattle.iscsi_outbox.proofs.ItemLemmas.{is_item}
use Rattle.iscsi_outbox.proofs.outbox.Outbox.take_effects.Goals as goal

pub returns : goal.returns
returns c = is_item c.args.item.now c.args.self.now (record {
  request = c.executing-request.result;
  numbered = c.is_numbered-numbered.result;
  sent = c.first_reply-sent.result;
  ends = c.ends-ends.result;
  left = c.leave.new.self;
  entered = c.enter_commands.new.self;
  closed = c.close.new.self;
  replied = c.send.new.self;
  enabled = c.enable.new.self;
  settled = c.settle.new.self;
  of_request = c.executing-request.ensures;
  of_numbered = c.is_numbered-numbered.ensures;
  of_sent = c.first_reply-sent.ensures;
  of_ends = c.ends-ends.ensures;
  of_left = c.leave.ensures;
  of_entered = c.enter_commands.ensures;
  of_closed = c.close.ensures;
  of_replied = c.send.ensures;
  of_enabled = c.enable.ensures;
  of_settled = c.settle.ensures;
})
