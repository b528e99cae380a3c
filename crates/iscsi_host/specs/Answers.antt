-- What a call from C or Rust answers, and when.
use Rattle.std.specs.Prelude.{◌≡◌, ℕ, nat_lt, Bool, true, false, if◌then◌else◌, List, length, take, Option, Some, None, Result, Ok, Err, ⊤, ◌⊎◌}
use Rattle.iscsi_session.specs.declared.fault.SessionFault.{SessionFault}
use Rattle.iscsi_session.specs.declared.fault.SessionFault.TheVariants as faults
use Rattle.iscsi_rules.specs.declared.event.Event.{Event}
use Rattle.iscsi_rules.specs.declared.event.Event.TheVariants.{Arrive}
use Rattle.iscsi_rules.specs.rules.Settings.{Setting}
use Rattle.iscsi_session.specs.promises.Refusals.{refusal_of}
use Rattle.iscsi_host.specs.declared.plain.PlainEffect.{PlainEffect}
use Rattle.iscsi_host.specs.Serving.{Hosted}
use Rattle.iscsi_host.specs.Plain.{plain_at}
use Rattle.iscsi_host.specs.declared.answer.Answer.{Answer}
use Rattle.iscsi_host.specs.declared.answer.Answer.TheVariants.{Done, BadOptions, NoMemory, UnknownConnection, Exhausted, NotOpen, AlreadyOpen, NoEffect, ShortHeader}

-- the answer where a session refuses
abbrev pub refused_with : SessionFault → Answer
refused_with faults.BadOptions = BadOptions
refused_with faults.NoMemory = NoMemory
refused_with faults.UnknownConnection = UnknownConnection
refused_with faults.Exhausted = Exhausted

-- the answer of a call that a session refuses so, or doesn't
abbrev pub answer_of : Option SessionFault → Answer
answer_of None = Done
answer_of (Some fault) = refused_with fault

-- the answer of an opening, memory aside, where there is this host and the options are valid or not
abbrev pub OpensAs : Option Hosted → Bool → Answer → Type 0
OpensAs (Some host) valid answer = answer ≡ AlreadyOpen
OpensAs None valid NoMemory = ⊤
OpensAs None true answer = answer ≡ Done
OpensAs None false answer = answer ≡ BadOptions

-- the answer to an arrival after the events: a header has 48 bytes
abbrev pub arrival_answer : Setting → List Event → ℕ → List ℕ → Answer
arrival_answer o h cid header = if nat_lt (length header) 48 then ShortHeader else answer_of (refusal_of o h (Arrive cid (take 48 header)))

-- the answer to an arrival where the handle is closed
abbrev pub closed_arrival_answer : List ℕ → Answer
closed_arrival_answer header = if nat_lt (length header) 48 then ShortHeader else NotOpen

-- the plain form of the effect with this index
abbrev pub effect_in : Option Hosted → ℕ → Result PlainEffect Answer
effect_in None index = Err NotOpen
effect_in (Some host) index = elim (plain_at host.effects host.numbers index) [ Some effect ↦ Ok effect | None ↦ Err NoEffect ]

abbrev pub closing_answer : Option Hosted → Answer
closing_answer None = NotOpen
closing_answer (Some host) = Done

-- a host isn't made by options that aren't valid; memory may always be refused
abbrev pub MayRefuseAs : {A : Type 0} → Bool → Result A SessionFault → Type 0
MayRefuseAs valid (Ok host) = valid ≡ true
MayRefuseAs valid (Err fault) = (fault ≡ faults.NoMemory) ⊎ ((valid ≡ false) × (fault ≡ faults.BadOptions))

abbrev pub answer_in : {A : Type 0} → Result A Answer → Answer
answer_in (Ok x) = Done
answer_in (Err answer) = answer

-- what stands in a place that a result is written to
abbrev pub written_over : {A : Type 0} → A → Result A Answer → A
written_over old (Ok x) = x
written_over old (Err answer) = old
