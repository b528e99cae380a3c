use Rattle.std.proofs.Common.{refl, sym, ◌∙◌}
use Rattle.iscsi_ffi_rules.specs.rules.Calls.{Writes}
use Rattle.iscsi_ffi.specs.Answers.{answer_of}
use Rattle.iscsi_ffi.specs.declared.answer.Answer.TheVariants.{ActionsWait, Done}
use Rattle.iscsi_ffi.proofs.PublicLemmas.{call_taken, call_waits}
use Rattle.iscsi_ffi.proofs.side.Side.written.Goals as goal

pub returns-then-waits : goal.returns-then-waits
returns-then-waits c = call_waits answer_of ActionsWait (Writes c.args.cid) c.args.self.now (sym c.waits.ensures ∙ c.if-waits.true)

pub returns : goal.returns
returns c = call_taken answer_of ActionsWait (Writes c.args.cid) c.args.self.now c.begin.new.self c.written_now.new.self c.end.new.self Done (sym c.waits.ensures ∙ c.if-waits.false) c.begin.ensures.stands c.written_now.ensures (λ i s b. refl) c.end.ensures
