-- The whole run: what each call of a list answers, by what is kept.
use Rattle.std.specs.Prelude.{Bool, List, [], ◌∷◌, Option}
use Rattle.iscsi_outbox_rules.specs.declared.own_pdu.PutRefusal.{PutRefusal}
use Rattle.iscsi_outbox_rules.specs.rules.Calls.{Opening, Call, Takes, Puts, Stops, Nexts, Writes, Hears, Joins, Loses, Clears}
use Rattle.iscsi_outbox_steps.specs.declared.given.Given.{Given}
use Rattle.iscsi_outbox_steps.specs.State.{State, limits_of, opened}
use Rattle.iscsi_outbox_steps.specs.Steps.{cleared_of, given, heard, is_running_ticket, joined, lost, may_join, next, put, put_refusal, stopped, taken, written}

abbrev pub after_call : State → Call → State
after_call s (Takes effects numbers) = taken effects numbers s
after_call s (Puts p) = put p s
after_call s (Stops ticket) = stopped ticket s
after_call s (Nexts cid) = next cid s
after_call s (Writes cid) = written cid s
after_call s (Hears cid exp_stat_sn tag) = heard cid exp_stat_sn tag s
after_call s (Joins cid stat_sn) = joined cid stat_sn s
after_call s (Loses cid) = lost cid s
after_call s (Clears unit) = cleared_of unit s

-- what a call answers
pub data Answered : Type 0 where
  Silent : Answered
  Put : Option PutRefusal → Answered
  Stopped : Bool → Answered  -- whether the command was running
  Gives : Given → Answered
  Joined : Bool → Answered  -- whether it may

abbrev pub answered : State → Call → Answered
answered s (Puts p) = Put (put_refusal p s)
answered s (Stops ticket) = Stopped (is_running_ticket ticket s)
answered s (Nexts cid) = Gives (given cid s)
answered s (Joins cid stat_sn) = Joined (may_join cid s)
answered s _ = Silent

abbrev pub answered_from : State → List Call → List Answered
answered_from s [] = []
answered_from s (c ∷ cs) = answered s c ∷ answered_from (after_call s c) cs

abbrev pub begun : Opening → State
begun o = opened (limits_of o) o.session.first

abbrev pub answered_by : Opening → List Call → List Answered
answered_by o cs = answered_from (begun o) cs
