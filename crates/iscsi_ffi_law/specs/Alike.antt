-- What a call answers and tells by the steps, and by the rules.
use Rattle.std.specs.Prelude.{◌≡◌, ℕ, Bool, true, false, List, ◌++◌, count_by}
use Rattle.iscsi_outbox_law.specs.private.Pairs.{EachOf}
use Rattle.iscsi_outbox_law.specs.rules.Said.{handed_said}
use Rattle.iscsi_ffi_rules.specs.declared.action.Action.{Action}
use Rattle.iscsi_ffi_rules.specs.rules.Calls.{Call, Interface}
use Rattle.iscsi_ffi_rules.specs.rules.Run as rules
use Rattle.iscsi_ffi_rules.specs.rules.Sides.{Side}
use Rattle.iscsi_ffi_rules.specs.promises.Words.{is_forget}
use Rattle.iscsi_ffi_rules.specs.declared.action.Action.TheVariants.{Start, Stop, Reset, Ready, Close, Forget}
use Rattle.iscsi_ffi_steps.specs.Steps.{Answer, Side as StepsSide, Taken, Refused, Stale, Put, Joined, Goes, Blocked, NoneGoes, NoneIsLeft, after, called, ended, told}
use Rattle.iscsi_ffi_law.specs.Stands.{Stands}

-- what the rules answer, as the steps say it
abbrev pub said : rules.Answer → Answer
said rules.Taken = Taken
said (rules.Refused refusal) = Refused refusal
said rules.Stale = Stale
said (rules.Put refusal) = Put refusal
said (rules.Joined may) = Joined may
said (rules.Goes h cookie) = Goes (handed_said h) cookie
said rules.Blocked = Blocked
said rules.NoneGoes = NoneGoes
said rules.NoneIsLeft = NoneIsLeft

abbrev pub is_any_forget : Action → Bool
is_any_forget (Forget cookie) = true
is_any_forget (Start ticket unit attr cookie) = false
is_any_forget (Stop ticket cookie why) = false
is_any_forget (Reset unit function) = false
is_any_forget (Ready cid) = false
is_any_forget (Close cid) = false

abbrev pub AreForgets : List Action → Type 0
AreForgets xs = EachOf (λ a. is_any_forget a ≡ true) xs

-- each word is forgotten as often by both
abbrev pub SameForgets : List Action → List Action → Type 0
SameForgets xs ys = (word : ℕ) → count_by (is_forget word) xs ≡ count_by (is_forget word) ys

-- the same is told in the same order, and behind that the same requests are forgotten, in any order
pub record TellAlike (by_steps by_rules : List Action) : Type 0 where
  pub before : List Action
  pub forgets : List Action
  pub forgets_by_rules : List Action
  pub steps : by_steps ≡ before ++ forgets
  pub rules : by_rules ≡ before ++ forgets_by_rules
  pub are : AreForgets forgets
  pub are_by_rules : AreForgets forgets_by_rules
  pub same : SameForgets forgets forgets_by_rules

-- a call goes by the steps as by the rules
pub record GoesAlike (i : Interface) (s : StepsSide) (r : Side) (c : Call) : Type 0 where
  pub answer : (called i c s).answer ≡ said (rules.after_call i r c).answer
  pub tells : TellAlike (told (ended (called i c s).going)) (rules.after_call i r c).told.actions
  pub stands : Stands i (after (ended (called i c s).going)) (rules.after_call i r c).told.side
