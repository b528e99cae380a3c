-- The jobs that a log gives its units.
use Rattle.std.specs.Prelude.{◌≡◌, ℕ, ◌<◌, ◌==◌, nat_eq, true, if◌then◌else◌, List, [], ◌∷◌, ◌++◌, length, map, filter_map, find, slice_index_or, Option, Some, None}
use Rattle.std.specs.List.{list_all}
use Rattle.iscsi_wire.specs.declared.request.Request.{Request}
use Rattle.iscsi_rules.specs.declared.effect.Effect.{Effect}
use Rattle.iscsi_rules.specs.declared.effect.Effect.TheVariants.{Deliver, Immediate, Enter, Enable}
use Rattle.iscsi_rules.specs.declared.entry.Entry.{Entry}
use Rattle.iscsi_rules.specs.promises.Enabling.{effects_in}
use Rattle.iscsi_threads.specs.declared.job.Job.{Job}
use Rattle.iscsi_threads.specs.rules.Desks.{is_for, entered}

-- the jobs of the commands that enter, in order: each has the ticket, unit and attribute of its Enter, and the tag
-- and CDB of the request in the last Deliver or Immediate before it
abbrev pub commands_entering : Option Request → List Effect → List Job
commands_entering last [] = []
commands_entering last (Deliver r ∷ es) = commands_entering (Some r) es
commands_entering last (Immediate r ∷ es) = commands_entering (Some r) es
commands_entering last (Enter ticket unit attr ∷ es) = entered last ticket unit attr ++ commands_entering last es
commands_entering last (e ∷ es) = commands_entering last es

-- the job that an Enable of the unit starts, among those of the commands that enter
abbrev pub job_started : ℕ → List Job → Effect → Option Job
job_started u js (Enable ticket unit) = if nat_eq unit u then find (is_for ticket) js else None
job_started u js _ = None

-- the jobs of the unit in a log, in the order of its Enables
abbrev pub jobs : ℕ → List Entry → List Job
jobs u log = let es = effects_in log in filter_map (job_started u (commands_entering None es)) es

-- the ticket of an Enable of the unit
abbrev pub ticket_enabled : ℕ → Effect → Option ℕ
ticket_enabled u (Enable ticket unit) = if nat_eq unit u then Some ticket else None
ticket_enabled u _ = None

-- the tickets of the unit's Enables, in order
abbrev pub tickets_enabled : ℕ → List Effect → List ℕ
tickets_enabled u es = filter_map (ticket_enabled u) es

-- what a log gives the units to do
pub record GivesJobs (log : List Entry) : Type 0 where
  -- a job for each Enable of the unit, in their order
  pub each : (u : ℕ) → map (λ (j : Job). j.ticket) (jobs u log) ≡ tickets_enabled u (effects_in log)
  -- each job is of its unit
  pub of_unit : (u : ℕ) → list_all (λ (j : Job). j.unit == u) (jobs u log) ≡ true
  -- no ticket stands in two jobs, of one unit or of two
  pub apart : (u v i k : ℕ) (d : Job) → i < length (jobs u log) → k < length (jobs v log)
      → (slice_index_or (jobs u log) i d).ticket ≡ (slice_index_or (jobs v log) k d).ticket → (u ≡ v) × (i ≡ k)
