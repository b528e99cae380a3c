use Rattle.std.proofs.Common.{sym, ◌∙◌}
use Rattle.iscsi_ffi_rules.specs.rules.Calls.{Completes}
use Rattle.iscsi_ffi.specs.Answers.{answer_of}
use Rattle.iscsi_ffi.specs.declared.answer.Answer.TheVariants.{ActionsWait}
use Rattle.iscsi_ffi.proofs.PublicLemmas.{call_taken, call_waits}
use Rattle.iscsi_ffi.proofs.side.Side.complete.Goals as goal

pub returns-then-waits : goal.returns-then-waits
returns-then-waits c = call_waits answer_of ActionsWait (Completes c.args.ticket c.args.status) c.args.self.now (sym c.waits.ensures ∙ c.if-waits.true)

pub returns : goal.returns
returns c = call_taken answer_of ActionsWait (Completes c.args.ticket c.args.status) c.args.self.now c.begin.new.self c.complete_now-answer.new.self c.end.new.self c.complete_now-answer.result (sym c.waits.ensures ∙ c.if-waits.false) c.begin.ensures.stands c.complete_now-answer.ensures.stands c.complete_now-answer.ensures.answer c.end.ensures
