-- A call that answers what its step answers, and leads where that leads, follows the rules.
use Rattle.std.proofs.Common.{◌≡◌, ℕ, Bool, List, [], ◌∷◌, ◌++◌, Option, refl, ap, sym, ◌∙◌}
use Rattle.iscsi_outbox_rules.specs.declared.own_pdu.OwnPdu.{OwnPdu}
use Rattle.iscsi_outbox_rules.specs.declared.own_pdu.PutRefusal.{PutRefusal}
use Rattle.iscsi_outbox_rules.specs.rules.Calls.{Call, Joins, Nexts, Puts, Stops}
use Rattle.iscsi_outbox_steps.specs.declared.given.Given.{Given}
use Rattle.iscsi_outbox_steps.specs.State.{State}
use Rattle.iscsi_outbox_steps.specs.Steps.{given, is_running_ticket, joined, may_join, next, put, put_refusal, stopped}
use Rattle.iscsi_outbox_steps.specs.Run.{Answered, Gives, Joined, Put, Silent, Stopped, after_call, answered}
use Rattle.iscsi_outbox_law.specs.promises.Called.{after_calls}
use Rattle.iscsi_outbox_law.proofs.calls.Called.{keeps}
use Rattle.iscsi_outbox.specs.promises.Called.{FollowsRules}

after_push : (s : State) (cs : List Call) (c : Call) → after_calls s (cs ++ c ∷ []) ≡ after_call (after_calls s cs) c
after_push s [] c = refl
after_push s (d ∷ cs) c = after_push (after_call s d) cs c

pub follows : (s : State) (c : Call) (a : Answered) (s' : State) → a ≡ answered s c → s' ≡ after_call s c → FollowsRules s c a s'
follows s c a s' answer state = record {
  leads = λ o cs came. state ∙ ap (λ t. after_call t c) came ∙ sym (after_push _ cs c);
  answers = λ o cs came run. answer ∙ keeps s c o cs came run;
}

-- a call that answers nothing
pub follows_silent : (s : State) (c : Call) (s' : State) → Silent ≡ answered s c → s' ≡ after_call s c → FollowsRules s c Silent s'
follows_silent s c s' silent state = follows s c Silent s' silent state

pub follows_stops : (s : State) (ticket : ℕ) (was : Bool) (s' : State) → was ≡ is_running_ticket ticket s → s' ≡ stopped ticket s → FollowsRules s (Stops ticket) (Stopped was) s'
follows_stops s ticket was s' answer state = follows s (Stops ticket) (Stopped was) s' (ap Stopped answer) state

pub follows_joins : (s : State) (cid n : ℕ) (may : Bool) (s' : State) → may ≡ may_join cid s → s' ≡ joined cid n s → FollowsRules s (Joins cid n) (Joined may) s'
follows_joins s cid n may s' answer state = follows s (Joins cid n) (Joined may) s' (ap Joined answer) state

pub follows_puts : (s : State) (p : OwnPdu) (refusal : Option PutRefusal) (s' : State) → refusal ≡ put_refusal p s → s' ≡ put p s → FollowsRules s (Puts p) (Put refusal) s'
follows_puts s p refusal s' answer state = follows s (Puts p) (Put refusal) s' (ap Put answer) state

pub follows_nexts : (s : State) (cid : ℕ) (gives : Given) (s' : State) → gives ≡ given cid s → s' ≡ next cid s → FollowsRules s (Nexts cid) (Gives gives) s'
follows_nexts s cid gives s' answer state = follows s (Nexts cid) (Gives gives) s' (ap Gives answer) state
