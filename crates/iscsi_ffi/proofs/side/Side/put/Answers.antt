use Rattle.std.proofs.Common.{sym, ◌∙◌}
use Rattle.iscsi_ffi_rules.specs.rules.Calls.{Puts}
use Rattle.iscsi_ffi.specs.Answers.{answer_of}
use Rattle.iscsi_ffi.specs.declared.answer.Answer.TheVariants.{ActionsWait}
use Rattle.iscsi_ffi.proofs.PublicLemmas.{call_taken, call_waits}
use Rattle.iscsi_ffi.proofs.side.Side.put.Goals as goal

pub returns-then-waits : goal.returns-then-waits
returns-then-waits c = call_waits answer_of ActionsWait (Puts c.args.pdu.now c.args.cookie) c.args.self.now (sym c.waits.ensures ∙ c.if-waits.true)

pub returns : goal.returns
returns c = call_taken answer_of ActionsWait (Puts c.args.pdu.now c.args.cookie) c.args.self.now c.begin.new.self c.put_now-answer.new.self c.end.new.self c.put_now-answer.result (sym c.waits.ensures ∙ c.if-waits.false) c.begin.ensures.stands c.put_now-answer.ensures.stands c.put_now-answer.ensures.answer c.end.ensures
