-- Whether a handle takes a call. For private contracts alone.
use Rattle.std.specs.Prelude.{◌≡◌, true, false, Option, Some, None}
use Rattle.iscsi_ffi.specs.declared.answer.Answer.{Answer}
use Rattle.iscsi_ffi.specs.declared.answer.Answer.TheVariants.{ActionsWait, NotOpen}
use Rattle.iscsi_ffi.specs.Standing.{Sided, is_waiting}

-- the side is taken out
pub record IsReady (old new : Option Sided) (side : Sided) : Type 0 where
  pub was : old ≡ Some side
  pub rests : is_waiting side ≡ false
  pub closed : new ≡ None

-- it isn't, and nothing changes
pub record IsNotReady (old new : Option Sided) (answer : Answer) : Type 0 where
  pub same : new ≡ old
  pub closed : old ≡ None → answer ≡ NotOpen
  pub waits : (side : Sided) → old ≡ Some side → (answer ≡ ActionsWait) × (is_waiting side ≡ true)
