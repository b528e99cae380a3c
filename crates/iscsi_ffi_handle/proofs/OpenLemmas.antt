-- A side is opened in a box, just as it is without, and a handle with it.
use Rattle.std.proofs.Common.{◌≡◌, ◌∙◌, ℕ, Bool, true, false, List, [], Option, Some, None, is_some, Ok, Err, refl, sym}
use Rattle.iscsi_ffi.specs.declared.answer.Answer.{Answer}
use Rattle.iscsi_ffi.specs.declared.answer.Answer.TheVariants.{Done, NoMemory}
use Rattle.iscsi_ffi.specs.declared.options.PlainOptions.{PlainOptions}
use Rattle.iscsi_ffi.specs.Opened.{RefusesAs}
use Rattle.iscsi_ffi.specs.Options.{interface_of, is_valid}
use Rattle.iscsi_ffi.specs.Standing.{Follows, Sided, is_waiting}
use Rattle.iscsi_ffi_handle.specs.Opening.{Opens}
use Rattle.iscsi_ffi_handle.proofs.CallLemmas.{no_side}

module _ {A B : Type 0} where
  -- whatever it is that is opened
  pub opens_too : (b : Bool) (x : A) (y : B) → RefusesAs b (Ok x) → RefusesAs b (Ok y)
  opens_too true x y is = tt
  opens_too false x y is = is

refuses_too : (A B : Type 0) (b : Bool) (answer : Answer) → RefusesAs {A = A} b (Err answer) → RefusesAs {A = B} b (Err answer)
refuses_too A B true answer is = is
refuses_too A B false answer is = is

-- a side was opened, and there is no memory for its box
pub no_memory : (A : Type 0) {B : Type 0} (b : Bool) (x : B) → RefusesAs b (Ok x) → RefusesAs {A = A} b (Err NoMemory)
no_memory A true x is = refl
no_memory A false x is = absurd is

-- ---- a handle

pub is_closed : (o : Option Sided) → is_some o ≡ false → o ≡ None
is_closed (Some side) is = cc
is_closed None is = refl

module _ {B : Type 0} where
  pub is_opened : (o : PlainOptions) (cids : List ℕ) (old new : Option Sided) (side : Sided) (box : B)
      → old ≡ None → Follows (interface_of o cids) side [] → is_waiting side ≡ false → RefusesAs (is_valid o cids) (Ok box) → new ≡ Some side
      → Opens o cids old new Done
  is_opened o cids old new side box none follows nothing refused state = record {
    already = λ other some. absurd (no_side (sym some ∙ none));
    opens = λ closed. record {
      opened = Ok side;
      follows = follows;
      nothing = nothing;
      refused = opens_too (is_valid o cids) box side refused;
      state = state;
      answers = refl;
    };
  }

pub not_opened : (B : Type 0) (o : PlainOptions) (cids : List ℕ) (old : Option Sided) (answer : Answer)
    → old ≡ None → RefusesAs {A = B} (is_valid o cids) (Err answer) → Opens o cids old old answer
not_opened B o cids old answer none refused = record {
  already = λ other some. absurd (no_side (sym some ∙ none));
  opens = λ closed. record {
    opened = Err answer;
    follows = tt;
    nothing = tt;
    refused = refuses_too B Sided (is_valid o cids) answer refused;
    state = none;
    answers = refl;
  };
}
