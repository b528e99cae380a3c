-- The form of an item: each item that the definitions give has one, and what a law asks of items is read off it.
use Rattle.std.specs.Prelude.{◌≡◌, ◌≤◌, ◌<◌, ℕ, ◌+◌, Bool, true, false, List, [], ◌∷◌, ◌++◌, map, count_by, Option, Some, None, if◌then◌else◌, filter, is_some, ◌==◌, ◌||◌}
use Rattle.iscsi_wire.specs.declared.reply.Reply.{Reply}
use Rattle.iscsi_wire.specs.declared.reply.Reply.TheVariants.{Scsi}
use Rattle.iscsi_wire.specs.Fields.{connection_of, function, is_immediate, itt}
use Rattle.iscsi_rules.specs.declared.effect.Why.{Why}
use Rattle.iscsi_rules.specs.rules.Settings.{Setting}
use Rattle.iscsi_rules.specs.rules.Trace.{Arrival, Command, Mark, Admits, Delivers, Executes, Voids, Empties, Waits, Leaves, Enters, Sends, ClosesConn, ClosesSession, Ignores, Trace, is_received, held, live, live_in}
use Rattle.iscsi_rules.specs.rules.Execution.{rejected, reply_on, sense_of_status, next_command, unit_named}
use Rattle.iscsi_rules.specs.rules.Management.{is_before}
use Rattle.iscsi_rules.specs.rules.Logout.{is_open, live_of_units, all_held}
use Rattle.iscsi_rules.specs.rules.Items.{is_waiting}
use Rattle.iscsi_rules.specs.promises.Aborts.{is_complete}
use Rattle.iscsi_rules.specs.promises.Answers.{Answers}
use Rattle.iscsi_rules.proofs.general.ElementLemmas.{In}

-- how a request comes to execute
pub data Start : Type 0 where
  AtTurn : Start  -- a numbered one, as its turn comes
  AtArrival : Start  -- an immediate one
  AfterWaiting : Start  -- a function that has waited

abbrev pub start_mark : Start → Arrival → Mark
start_mark AtTurn a = Delivers a
start_mark AtArrival a = Executes a
start_mark AfterWaiting a = Executes a

-- what a request does that executes
pub record Deeds : Type 0 where
  pub void : Option ℕ
  pub leaving : List Command
  pub emptied : List Arrival
  pub entering : Option Command
  pub reply : Option Reply
  pub closing : Option ℕ
  pub ending : Bool

-- it does nothing
abbrev pub idle : Deeds
idle = record { void = None; leaving = []; emptied = []; entering = None; reply = None; closing = None; ending = false }

abbrev pub if_some : {A : Type 0} → (A → Mark) → Option A → List Mark
if_some f (Some x) = f x ∷ []
if_some f None = []

-- its marks, in order
abbrev pub marks_done : Arrival → Deeds → List Mark
marks_done a d =
    if_some Voids d.void ++ (map Leaves d.leaving ++ (map Empties d.emptied ++ (if_some Enters d.entering
    ++ (if_some (Sends (connection_of a.request)) d.reply ++ (if_some ClosesConn d.closing ++ (if d.ending then ClosesSession ∷ [] else []))))))

pub data Form : Type 0 where
  Ignored : Why → Form
  Rejected : Arrival → Form  -- for its opcode
  Received : Arrival → Form  -- it is held from now on
  Postponed : Arrival → Form  -- it waits
  Completed : Command → ℕ → Form
  Executed : Start → Arrival → Deeds → Form

abbrev pub marks_of_form : Form → List Mark
marks_of_form (Ignored why) = Ignores why ∷ []
marks_of_form (Rejected a) = rejected a
marks_of_form (Received a) = Admits a ∷ []
marks_of_form (Postponed a) = Waits a ∷ []
marks_of_form (Completed c status) = Leaves c ∷ reply_on c.arrival (Scsi (itt c.arrival.request) status (sense_of_status status))
marks_of_form (Executed start a d) = start_mark start a ∷ marks_done a d

-- why it executes, after t, in the event `now`
abbrev pub Starts : ℕ → Trace → Start → Arrival → Type 0
Starts now t AtTurn a = held t a.number ≡ Some a
Starts now t AtArrival a = a.event ≡ now
Starts now t AfterWaiting a = is_waiting a t ≡ true

-- if there is a value, the fact holds of it
abbrev pub Each : {A : Type 0} → (A → Type 0) → Option A → Type 0
Each P (Some x) = P x
Each P None = Unit {0}

-- a command that enters is the next one, of a unit that there is, and then none leaves and nothing is answered
pub record EntersAs (o : Setting) (t : Trace) (a : Arrival) (d : Deeds) (c : Command) : Type 0 where
  pub unit : ℕ
  pub next : c ≡ next_command t a unit
  pub below : unit < o.units
  pub stays : d.leaving ≡ []
  pub silent : d.reply ≡ None

-- it executes now
abbrev pub begun : Start → Arrival → Trace → Trace
begun start a t = (start_mark start a ∷ []) ∷ t

-- it closes a connection, or the session
abbrev pub is_closing : Deeds → Bool
is_closing d = d.ending || is_some d.closing

-- a closing takes out what there is of these connections, which it closes: the commands, and the requests that are held
pub record TakesOut (o : Setting) (t : Trace) (d : Deeds) : Type 0 where
  pub of_these : ℕ → Bool
  pub leaving : d.leaving ≡ filter (λ (c : Command). of_these (connection_of c.arrival.request)) (live_of_units o t)
  pub emptied : d.emptied ≡ filter (λ (b : Arrival). of_these (connection_of b.request)) (all_held o t)
  pub entering : d.entering ≡ None
  pub closing : Each (λ conn. of_these conn ≡ true) d.closing
  pub ending : d.ending ≡ true → (conn : ℕ) → is_open o t conn ≡ true → of_these conn ≡ true

-- Function complete is its answer
abbrev pub is_completed_by : Arrival → Deeds → Bool
is_completed_by a d = elim d.reply [ Some reply ↦ is_complete (itt a.request) reply | None ↦ false ]

-- an abort of a whole set takes out what it covers of a unit's set: the earlier ones at the least, and all of them after LOGICAL UNIT RESET
pub record Sweeps (o : Setting) (t : Trace) (a : Arrival) (d : Deeds) : Type 0 where
  pub unit : ℕ
  pub named : unit_named o.units a.request ≡ Some unit
  pub covers : Command → Bool
  pub early : (c : Command) → is_before a c ≡ true → covers c ≡ true
  pub whole : (function a.request == 5) ≡ true → (c : Command) → covers c ≡ true
  pub is : d.leaving ≡ filter covers (live_in unit t)

pub record IsDone (o : Setting) (t : Trace) (start : Start) (a : Arrival) (d : Deeds) : Type 0 where
  -- a number that is voided wasn't received, and it is an immediate ABORT TASK that voids it
  pub voids : Each (λ n. is_received t n ≡ false) d.void
  pub missing : Each (λ n. (is_immediate a.request ≡ true) × ((function a.request == 1) ≡ true)) d.void
  -- those that leave are live, each once
  pub leaves : (p : Command → Bool) → count_by p d.leaving ≤ count_by p (live t)
  -- those that are taken out are held, and aren't the one that executes
  pub empties : (b : Arrival) → In b d.emptied → held (begun start a t) b.number ≡ Some b
  pub enters : Each (EntersAs o t a d) d.entering
  pub answers : Each (Answers a.request) d.reply
  pub takes_out : is_closing d ≡ true → TakesOut o (begun start a t) d

-- what holds of an item of this form, after t, in the event `now`
abbrev pub IsFormed : Setting → ℕ → Trace → Form → Type 0
IsFormed o now t (Ignored why) = Unit {0}
IsFormed o now t (Rejected a) = Unit {0}
IsFormed o now t (Received a) = (a.event ≡ now) × (is_received t a.number ≡ false)
IsFormed o now t (Postponed a) = a.event ≡ now
IsFormed o now t (Completed c status) = In c (live t)
IsFormed o now t (Executed start a d) = Starts now t start a × IsDone o t start a d

pub record HasForm (o : Setting) (now : ℕ) (t : Trace) (item : List Mark) : Type 0 where
  pub form : Form
  pub is : item ≡ marks_of_form form
  pub formed : IsFormed o now t form

-- the item is the first one of an arrival that is received, executes or waits: no item of its event comes before
abbrev pub is_arrival : Form → Bool
is_arrival (Received a) = true
is_arrival (Postponed a) = true
is_arrival (Executed AtArrival a d) = true
is_arrival _ = false

-- the item has its turn in the agenda
abbrev pub is_turn : Form → Bool
is_turn (Executed AtTurn a d) = true
is_turn (Executed AfterWaiting a d) = true
is_turn _ = false

-- each item has a form. Those of a trace are of events before `next`; before an arrival those of earlier events stand
abbrev pub HaveForms : Setting → ℕ → Trace → Type 0
HaveForms o next [] = Unit {0}
HaveForms o next (item ∷ t) =
    (now : ℕ) × ((now < next) × ((f : HasForm o now t item) × HaveForms o (if is_arrival f.form then now else now + 1) t))
