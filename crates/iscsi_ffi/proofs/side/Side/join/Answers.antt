use Rattle.std.proofs.Common.{sym, ◌∙◌}
use Rattle.iscsi_ffi_rules.specs.rules.Calls.{Joins}
use Rattle.iscsi_ffi.specs.Answers.{answer_of}
use Rattle.iscsi_ffi.specs.declared.answer.Answer.TheVariants.{ActionsWait}
use Rattle.iscsi_ffi.proofs.PublicLemmas.{call_taken, call_waits}
use Rattle.iscsi_ffi.proofs.side.Side.join.Goals as goal

pub returns-then-waits : goal.returns-then-waits
returns-then-waits c = call_waits answer_of ActionsWait (Joins c.args.cid c.args.stat_sn) c.args.self.now (sym c.waits.ensures ∙ c.if-waits.true)

pub returns : goal.returns
returns c = call_taken answer_of ActionsWait (Joins c.args.cid c.args.stat_sn) c.args.self.now c.begin.new.self c.join_now-answer.new.self c.end.new.self c.join_now-answer.result (sym c.waits.ensures ∙ c.if-waits.false) c.begin.ensures.stands c.join_now-answer.ensures.stands c.join_now-answer.ensures.answer c.end.ensures
