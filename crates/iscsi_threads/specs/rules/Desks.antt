-- The jobs of a list of effects.
use Rattle.std.specs.Prelude.{◌≡◌, ℕ, ◌==◌, ◌<◌, Bool, List, [], ◌∷◌, ◌++◌, Option, Some, None, length, position, find, All, AllPairs}
use Rattle.std.specs.List.{remove, range_with_len}
use Rattle.iscsi_wire.specs.declared.request.Request.{Request}
use Rattle.iscsi_wire.specs.Fields.{itt, cdb}
use Rattle.iscsi_tasks.specs.declared.task.Attr.{Attr}
use Rattle.iscsi_rules.specs.declared.effect.Effect.{Effect}
use Rattle.iscsi_rules.specs.declared.effect.Effect.TheVariants.{Deliver, Immediate, Enter, Enable, Leave}
use Rattle.iscsi_rules.specs.promises.Lives.{tickets_entered}
use Rattle.iscsi_threads.specs.declared.job.Job.{Job}
use Rattle.iscsi_threads.specs.declared.desk.Desk.{Desk}

-- what effects show of commands that aren't enabled yet
pub record Known : Type 0 where
  pub last : Option Request  -- the request that executes
  pub dormant : List Job  -- the jobs of the commands that entered, oldest first

abbrev pub nothing : Known
nothing = record { last = None; dormant = [] }

abbrev pub is_for : ℕ → Job → Bool
is_for ticket j = j.ticket == ticket

abbrev pub without : ℕ → List Job → List Job
without ticket js = elim (position (is_for ticket) js) [ Some i ↦ remove js i | None ↦ js ]

-- the job of a command that enters as the request executes
abbrev pub job_for : Request → ℕ → ℕ → Attr → Job
job_for r ticket unit attr = record { ticket = ticket; unit = unit; itt = itt r; attr = attr; cdb = cdb r }

abbrev pub entered : Option Request → ℕ → ℕ → Attr → List Job
entered None ticket unit attr = []
entered (Some r) ticket unit attr = job_for r ticket unit attr ∷ []

abbrev pub after_effect : Known → Effect → Known
after_effect k (Deliver r) = record k { last = Some r }
after_effect k (Immediate r) = record k { last = Some r }
after_effect k (Enter ticket unit attr) = record k { dormant = k.dormant ++ entered k.last ticket unit attr }
after_effect k (Enable ticket unit) = record k { dormant = without ticket k.dormant }
after_effect k (Leave ticket unit) = record k { dormant = without ticket k.dormant }
after_effect k e = k

-- the job that becomes enabled
abbrev pub job_at : Known → Effect → Option Job
job_at k (Enable ticket unit) = find (is_for ticket) k.dormant
job_at k e = None

abbrev pub listed : Option Job → List Job
listed None = []
listed (Some j) = j ∷ []

abbrev pub jobs_from : Known → List Effect → List Job
jobs_from k [] = []
jobs_from k (e ∷ es) = listed (job_at k e) ++ jobs_from (after_effect k e) es

abbrev pub known_after : Known → List Effect → Known
known_after k [] = k
known_after k (e ∷ es) = known_after (after_effect k e) es

abbrev pub seen : Desk → Known
seen d = record { last = d.last; dormant = d.dormant.items }

-- tickets go up along the jobs
abbrev pub InOrderOfTickets : List Job → Type 0
InOrderOfTickets js = AllPairs (λ a b. a.ticket < b.ticket) js

-- the commands that enter take the tickets from some number on, in order, and the jobs that wait have lower ones
pub record EnterAbove (k : Known) (es : List Effect) : Type 0 where
  pub first : ℕ
  pub rising : InOrderOfTickets k.dormant
  pub below : All (λ j. j.ticket < first) k.dormant
  pub entered : tickets_entered es ≡ range_with_len first (length (tickets_entered es))
