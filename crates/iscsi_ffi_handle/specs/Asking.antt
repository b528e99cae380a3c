-- What a handle answers to what it is asked: nothing changes by that.
use Rattle.std.specs.Prelude.{ℕ, Bool, false, Option, Some, None, Result, Ok, Err}
use Rattle.iscsi_outbox_steps.specs.State.{may_take}
use Rattle.iscsi_ffi.specs.declared.answer.Answer.{Answer}
use Rattle.iscsi_ffi.specs.declared.answer.Answer.TheVariants.{NotOpen}
use Rattle.iscsi_ffi.specs.Answers.{code_of}
use Rattle.iscsi_ffi.specs.Asked.{is_asked, may_join, numbers_shown}
use Rattle.iscsi_ffi.specs.Standing.{Sided}
use Rattle.iscsi_ffi_handle.specs.declared.plain.PlainNumbers.{PlainNumbers}

abbrev pub plain_numbers : Sided → PlainNumbers
plain_numbers v = record { exp_cmd_sn = (numbers_shown v.desk.state.outbox).exp; max_cmd_sn = (numbers_shown v.desk.state.outbox).max }

abbrev pub numbers_in : Option Sided → Result PlainNumbers Answer
numbers_in (Some v) = Ok (plain_numbers v)
numbers_in None = Err NotOpen

abbrev pub takes_in : Option Sided → Bool
takes_in (Some v) = may_take v.desk.state.outbox
takes_in None = false

abbrev pub asked_in : ℕ → Option Sided → Bool
asked_in cid (Some v) = is_asked cid v.desk.state.outbox
asked_in cid None = false

abbrev pub joins_in : ℕ → Option Sided → Bool
joins_in cid (Some v) = may_join cid v.desk.state.outbox
joins_in cid None = false

-- ---- as C reads it

abbrev pub numbers_code : Option Sided → ℕ
numbers_code (Some v) = 0
numbers_code None = code_of NotOpen

abbrev pub numbers_after : Option Sided → PlainNumbers → PlainNumbers
numbers_after (Some v) old = plain_numbers v
numbers_after None old = old
