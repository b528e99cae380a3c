-- What a side keeps, and when it follows a list of calls.
use Rattle.std.specs.Prelude.{◌≡◌, ℕ, ◌+◌, Bool, true, false, List, [], ◌∷◌, ◌++◌, ◌||◌, length, nat_lt, drop, if◌then◌else◌}
use Rattle.iscsi_rules.specs.declared.event.Event.{Event}
use Rattle.iscsi_rules.specs.rules.Run.{trace_of}
use Rattle.iscsi_outbox_steps.specs.State.{limits_of}
use Rattle.iscsi_host.specs.Serving.{Hosted, Serves}
use Rattle.iscsi_ffi_rules.specs.declared.action.Action.{Action}
use Rattle.iscsi_ffi_rules.specs.rules.Calls.{Interface, Call}
use Rattle.iscsi_ffi_rules.specs.rules.Run.{kept_back}
use Rattle.iscsi_ffi_steps.specs.Walk.{Doing}
use Rattle.iscsi_ffi_steps.specs.Steps.{Answer, Going, after, begun, called, ended, going, told}

-- a side, as its callers see it
pub record Sided : Type 0 where
  pub host : Hosted
  pub desk : Doing
  pub taken : ℕ  -- how many events there were
  pub events : ℕ  -- how many there may be
  pub kept_back : ℕ  -- how many of these are kept back for losses and completions
  pub unwritten : ℕ  -- the most PDUs of a connection that are handed out and aren't written
  pub given : ℕ  -- how many of the actions that were told are handed over
  pub forgotten : ℕ  -- and of those that tell what is forgotten

-- it stands at this place of the steps
pub record Stands (i : Interface) (v : Sided) (g : Going) : Type 0 where
  pub history : List Event
  pub serves : Serves i.outbox.session v.host history
  pub event : g.event ≡ length history
  pub trace : g.trace ≡ trace_of i.outbox.session history
  pub taken : v.taken ≡ length history
  pub doing : v.desk ≡ g.doing
  pub limits : g.doing.state.outbox.limits ≡ limits_of i.outbox
  pub events : v.events ≡ i.outbox.session.events
  pub kept : v.kept_back ≡ kept_back i.outbox.session
  pub unwritten : v.unwritten ≡ i.unwritten

-- a call has begun: nothing that it tells is handed over yet
pub record Begun (i : Interface) (v : Sided) (g : Going) : Type 0 where
  pub stands : Stands i v g
  pub given : v.given ≡ 0
  pub forgotten : v.forgotten ≡ 0

-- ---- calls

-- the next call begins where the last one ended
abbrev pub next_call : Interface → Going → Call → Going
next_call i g c = ended (called i c (after g)).going

abbrev pub through : Interface → Going → List Call → Going
through i g [] = g
through i g (c ∷ cs) = through i (next_call i g c) cs

-- where these calls lead to
abbrev pub going_of : Interface → List Call → Going
going_of i cs = through i (going (begun i)) cs

-- what a call answers behind these
abbrev pub answered : Interface → List Call → Call → Answer
answered i cs c = (called i c (after (going_of i cs))).answer

-- the side was opened so, and these are the calls that it took
abbrev pub Follows : Interface → Sided → List Call → Type 0
Follows i v cs = Stands i v (going_of i cs)

-- ---- what is told

-- what the last call told, and isn't handed over yet
abbrev pub waiting : Sided → List Action
waiting v = drop v.given v.desk.actions ++ drop v.forgotten v.desk.forgets

abbrev pub is_waiting : Sided → Bool
is_waiting v = nat_lt v.given (length v.desk.actions) || nat_lt v.forgotten (length v.desk.forgets)

-- the next action is handed over, if one waits
abbrev pub taken_one : Sided → Sided
taken_one v =
    if nat_lt v.given (length v.desk.actions) then record v { given = v.given + 1 }
    else (if nat_lt v.forgotten (length v.desk.forgets) then record v { forgotten = v.forgotten + 1 } else v)

-- ---- a call

-- what a call comes to that is taken, whatever calls came before; and where actions of an earlier one wait it changes nothing. `say`: how
-- the answer is told
pub record TakesAs {A : Type 0} (say : Answer → A) (wait : A) (c : Call) (old new : Sided) (answer : A) : Type 0 where
  pub follows : (i : Interface) (calls : List Call) → Follows i old calls → is_waiting old ≡ false → Follows i new (calls ++ c ∷ [])
  pub answers : (i : Interface) (calls : List Call) → Follows i old calls → is_waiting old ≡ false → answer ≡ say (answered i calls c)
  pub tells : (i : Interface) (calls : List Call) → Follows i old calls → is_waiting old ≡ false → waiting new ≡ told (going_of i (calls ++ c ∷ []))
  pub waits : is_waiting old ≡ true → (answer ≡ wait) × (new ≡ old)
