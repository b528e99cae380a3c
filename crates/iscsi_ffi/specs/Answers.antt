-- What a call answers, as C and Rust read it.
use Rattle.std.specs.Prelude.{ℕ, Bool, true, false, Option, Some, None}
use Rattle.iscsi_outbox_rules.specs.declared.own_pdu.PutRefusal.{PutRefusal}
use Rattle.iscsi_outbox_rules.specs.declared.own_pdu.PutRefusal.TheVariants.{Unfit as IsUnfit, Gone as IsGone, Closed as IsClosed, Full as IsFull}
use Rattle.iscsi_ffi_rules.specs.declared.refusal.Refusal.{Refusal}
use Rattle.iscsi_ffi_rules.specs.declared.refusal.Refusal.TheVariants.{UnknownConnection as IsUnknown, NotJoined as HasNotJoined, Exhausted as IsExhausted, Busy as IsBusy}
use Rattle.iscsi_ffi_steps.specs.Steps as steps
use Rattle.iscsi_ffi.specs.declared.side.outgoing.Next.{Next}
use Rattle.iscsi_ffi.specs.declared.side.outgoing.Next.TheVariants.{Goes as IsGoing, None as GivesNone}
use Rattle.iscsi_ffi.specs.declared.answer.Answer.{Answer}
use Rattle.iscsi_ffi.specs.declared.answer.Answer.TheVariants.{Done, BadOptions, NoMemory, NotOpen, AlreadyOpen, ShortHeader, ShortBuffer, NullPointer, ActionsWait, UnknownConnection, NotJoined, Exhausted, Busy, Stale, CannotJoin, Unfit, Gone, Closed, Full, Nothing, Blocked, Over}

abbrev pub code_of : Answer → ℕ
code_of Done = 0
code_of BadOptions = 1
code_of NoMemory = 2
code_of NotOpen = 3
code_of AlreadyOpen = 4
code_of ShortHeader = 5
code_of ShortBuffer = 6
code_of NullPointer = 7
code_of ActionsWait = 8
code_of UnknownConnection = 9
code_of NotJoined = 10
code_of Exhausted = 11
code_of Busy = 12
code_of Stale = 13
code_of CannotJoin = 14
code_of Unfit = 15
code_of Gone = 16
code_of Closed = 17
code_of Full = 18
code_of Nothing = 19
code_of Blocked = 20
code_of Over = 21

abbrev pub of_refusal : Refusal → Answer
of_refusal IsUnknown = UnknownConnection
of_refusal HasNotJoined = NotJoined
of_refusal IsExhausted = Exhausted
of_refusal IsBusy = Busy

abbrev pub of_put : Option PutRefusal → Answer
of_put None = Done
of_put (Some IsUnfit) = Unfit
of_put (Some IsGone) = Gone
of_put (Some IsClosed) = Closed
of_put (Some IsFull) = Full

abbrev pub of_join : Bool → Answer
of_join true = Done
of_join false = CannotJoin

-- what the steps of a side answer
abbrev pub answer_of : steps.Answer → Answer
answer_of steps.Taken = Done
answer_of (steps.Refused refusal) = of_refusal refusal
answer_of steps.Stale = Stale
answer_of (steps.Put refusal) = of_put refusal
answer_of (steps.Joined may) = of_join may
answer_of (steps.Goes handed cookie) = Done
answer_of steps.Blocked = Blocked
answer_of steps.NoneGoes = Nothing
answer_of steps.NoneIsLeft = Over

-- what `next` gives
abbrev pub given_of : steps.Answer → Next
given_of (steps.Goes handed cookie) = IsGoing handed cookie
given_of steps.Blocked = GivesNone Blocked
given_of steps.NoneGoes = GivesNone Nothing
given_of steps.NoneIsLeft = GivesNone Over
given_of steps.Taken = GivesNone Done
given_of (steps.Refused refusal) = GivesNone (of_refusal refusal)
given_of steps.Stale = GivesNone Stale
given_of (steps.Put refusal) = GivesNone (of_put refusal)
given_of (steps.Joined may) = GivesNone (of_join may)
