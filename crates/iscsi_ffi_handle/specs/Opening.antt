-- What opening and closing a handle come to.
use Rattle.std.specs.Prelude.{◌≡◌, ℕ, false, List, [], Option, Some, None, Result, Ok, Err, IfOk}
use Rattle.iscsi_ffi.specs.declared.answer.Answer.{Answer}
use Rattle.iscsi_ffi.specs.declared.answer.Answer.TheVariants.{AlreadyOpen, Done, NotOpen}
use Rattle.iscsi_ffi.specs.declared.options.PlainOptions.{PlainOptions}
use Rattle.iscsi_ffi.specs.Opened.{RefusesAs}
use Rattle.iscsi_ffi.specs.Options.{interface_of, is_valid}
use Rattle.iscsi_ffi.specs.Standing.{Follows, Sided, is_waiting}

abbrev pub answer_to : Result Sided Answer → Answer
answer_to (Ok side) = Done
answer_to (Err answer) = answer

abbrev pub opened_in : Result Sided Answer → Option Sided
opened_in (Ok side) = Some side
opened_in (Err answer) = None

-- a side is opened, just as its options are good and there is memory
pub record OpensTo (o : PlainOptions) (cids : List ℕ) (new : Option Sided) (answer : Answer) : Type 0 where
  pub opened : Result Sided Answer
  pub follows : IfOk opened (λ side. Follows (interface_of o cids) side [])
  pub nothing : IfOk opened (λ side. is_waiting side ≡ false)
  pub refused : RefusesAs (is_valid o cids) opened
  pub state : new ≡ opened_in opened
  pub answers : answer ≡ answer_to opened

-- a handle is opened that is closed
pub record Opens (o : PlainOptions) (cids : List ℕ) (old new : Option Sided) (answer : Answer) : Type 0 where
  pub already : (side : Sided) → old ≡ Some side → (answer ≡ AlreadyOpen) × (new ≡ old)
  pub opens : old ≡ None → OpensTo o cids new answer

abbrev pub closing_answer : Option Sided → Answer
closing_answer (Some side) = Done
closing_answer None = NotOpen
