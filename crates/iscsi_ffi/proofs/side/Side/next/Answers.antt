use Rattle.std.proofs.Common.{sym, ◌∙◌}
use Rattle.iscsi_ffi_rules.specs.rules.Calls.{Nexts}
use Rattle.iscsi_ffi.specs.Answers.{given_of}
use Rattle.iscsi_ffi.specs.declared.answer.Answer.TheVariants.{ActionsWait}
use Rattle.iscsi_ffi.specs.declared.side.outgoing.Next.TheVariants.{None as NoPdu}
use Rattle.iscsi_ffi.proofs.PublicLemmas.{call_taken, call_waits}
use Rattle.iscsi_ffi.proofs.side.Side.next.Goals as goal

pub returns-then-waits : goal.returns-then-waits
returns-then-waits c = call_waits given_of (NoPdu ActionsWait) (Nexts c.args.cid) c.args.self.now (sym c.waits.ensures ∙ c.if-waits.true)

pub returns : goal.returns
returns c = call_taken given_of (NoPdu ActionsWait) (Nexts c.args.cid) c.args.self.now c.begin.new.self c.next_now-next.new.self c.end.new.self c.next_now-next.result (sym c.waits.ensures ∙ c.if-waits.false) c.begin.ensures.stands c.next_now-next.ensures.stands c.next_now-next.ensures.answer c.end.ensures
