-- A call of a handle that is refused.
use Rattle.std.proofs.Common.{◌≡◌, ◌∙◌, List, Option, Some, None, sym, ap}
use Rattle.std.proofs.lemmas.Bool.{false≢true}
use Rattle.iscsi_ffi.specs.declared.answer.Answer.{Answer}
use Rattle.iscsi_ffi.specs.Standing.{Sided}
use Rattle.iscsi_ffi_handle.specs.declared.plain.PlainAction.{PlainAction}
use Rattle.iscsi_ffi_handle.specs.declared.plain.PlainTold.{PlainTold}
use Rattle.iscsi_ffi_handle.specs.Calling.{Called, shown}
use Rattle.iscsi_ffi_handle.specs.Ready.{IsNotReady}

pub no_side : {side : Sided} → Some side ≡ None → ⊥
no_side e = cc

-- nothing changes
pub not_called : (Does : Sided → Sided → Answer → Type 0) (old new : Option Sided) (places : List PlainAction) (told : PlainTold) (answer : Answer)
    → IsNotReady old new answer → Called Does (shown old places told) (shown new places told) answer
not_called Does old new places told answer is =
    let same : shown new places told ≡ shown old places told = ap (λ (o : Option Sided). shown o places told) is.same in
    record {
      closed = λ none. (is.closed none, same);
      waits = λ side some wait. ((is.waits side some).0, same);
      takes = λ side some rests. absurd (false≢true (sym rests ∙ (is.waits side some).1));
    }
