-- The answers of a handle's calls as numbers, as C reads them.
use Rattle.std.specs.Prelude.{◌≡◌, ℕ, List, Option}
use Rattle.iscsi_ffi_rules.specs.rules.Calls.{Call}
use Rattle.iscsi_ffi.specs.declared.answer.Answer.{Answer}
use Rattle.iscsi_ffi.specs.declared.options.PlainOptions.{PlainOptions}
use Rattle.iscsi_ffi.specs.Answers.{code_of}
use Rattle.iscsi_ffi.specs.Calls.{Takes}
use Rattle.iscsi_ffi.specs.Standing.{Sided}
use Rattle.iscsi_ffi_handle.specs.Calling.{Called, HandsMore, Shown}
use Rattle.iscsi_ffi_handle.specs.Opening.{Opens, closing_answer}

-- the number of an answer that is as it is to be
abbrev pub ByCode : (Answer → Type 0) → ℕ → Type 0
ByCode Is code = (answer : Answer) × ((code ≡ code_of answer) × Is answer)

abbrev pub CalledBy : (Sided → Sided → Answer → Type 0) → Shown → Shown → ℕ → Type 0
CalledBy Does old new code = ByCode (Called Does old new) code

abbrev pub CallsBy : Call → Shown → Shown → ℕ → Type 0
CallsBy c old new code = CalledBy (Takes c) old new code

abbrev pub HandsMoreBy : Shown → Shown → ℕ → Type 0
HandsMoreBy old new code = ByCode (HandsMore old new) code

abbrev pub OpensBy : PlainOptions → List ℕ → Option Sided → Option Sided → ℕ → Type 0
OpensBy o cids old new code = ByCode (Opens o cids old new) code

abbrev pub closing_code : Option Sided → ℕ
closing_code inside = code_of (closing_answer inside)
