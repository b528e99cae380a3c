-- A call, as it is answered to C and Rust.
use Rattle.iscsi_ffi_rules.specs.rules.Calls.{Call}
use Rattle.iscsi_ffi.specs.declared.answer.Answer.{Answer}
use Rattle.iscsi_ffi.specs.declared.answer.Answer.TheVariants.{ActionsWait}
use Rattle.iscsi_ffi.specs.declared.side.outgoing.Next.{Next}
use Rattle.iscsi_ffi.specs.declared.side.outgoing.Next.TheVariants.{None as GivesNone}
use Rattle.iscsi_ffi.specs.Answers.{answer_of, given_of}
use Rattle.iscsi_ffi.specs.Standing.{Sided, TakesAs}

abbrev pub Takes : Call → Sided → Sided → Answer → Type 0
Takes c old new answer = TakesAs answer_of ActionsWait c old new answer

abbrev pub Gives : Call → Sided → Sided → Next → Type 0
Gives c old new next = TakesAs given_of (GivesNone ActionsWait) c old new next
