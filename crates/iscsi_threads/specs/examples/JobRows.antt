-- Worked recordings: the jobs that they give.
use Rattle.std.specs.Prelude.{◌≡◌, ℕ, List, [], ◌∷◌, ◌++◌, map, take, replicate, refl, None}
use Rattle.std.specs.List.{range_with_len}
use Rattle.iscsi_wire.specs.declared.reply.Reply.TheVariants.{Scsi, Task}
use Rattle.iscsi_wire.specs.Fields.{request_of}
use Rattle.iscsi_tasks.specs.declared.task.Attr.{Attr}
use Rattle.iscsi_tasks.specs.declared.task.Attr.TheVariants.{Simple, Ordered, Head}
use Rattle.iscsi_tasks.specs.Rules as Rules
use Rattle.iscsi_rules.specs.declared.effect.Effect.TheVariants.{Deliver, Enter, Enable, Leave, Send}
use Rattle.iscsi_rules.specs.rules.Settings.{Setting}
use Rattle.iscsi_rules.specs.examples.Rows.{Row, Worked, command_to, function_now, management, setting, turn, at_once, is_held, done, entered}
use Rattle.iscsi_threads.specs.declared.job.Job.{Job}
use Rattle.iscsi_threads.specs.rules.Jobs.{jobs}

-- the CDB of a READ (10) of one block
abbrev pub read_at : ℕ → List ℕ
read_at block = 0x28 ∷ replicate 4 0 ++ block ∷ 0 ∷ 0 ∷ 1 ∷ replicate 7 0

-- the header of a SCSI Command with this CDB, to a unit, with an ATTR, a tag and CmdSN
abbrev pub command_with : List ℕ → ℕ → ℕ → ℕ → ℕ → List ℕ
command_with cdb u a t n = take 32 (command_to u a t n) ++ cdb

abbrev pub job : ℕ → ℕ → ℕ → Attr → List ℕ → Job
job ticket unit itt attr cdb = record { ticket = ticket; unit = unit; itt = itt; attr = attr; cdb = cdb }

-- a session with these options gives for these events these entries, and each of its units these jobs
abbrev pub WorkedJobs : Setting → List Row → List (List Job) → Type 0
WorkedJobs o rows js = Worked o rows × (map (λ u. jobs u (map (λ (r : Row). r.1) rows)) (range_with_len 0 o.units) ≡ js)

-- an ORDERED command starts last, with its own tag and CDB: the SIMPLE command of another unit and a HEAD OF QUEUE
-- command, which enter later, start before it
pub two_units : WorkedJobs (record (setting 1 8) { units = 2 }) (
    turn 1 (command_with (read_at 10) 0 1 0xa1 1) 2 8 (entered 1 0 Simple)
    ∷ turn 1 (command_with (read_at 20) 0 2 0xa2 2) 3 8 (Enter 2 0 Ordered ∷ [])
    ∷ turn 1 (command_with (read_at 30) 1 1 0xa3 3) 4 8 (entered 3 1 Simple)
    ∷ turn 1 (command_with (read_at 40) 0 3 0xa4 4) 5 8 (entered 4 0 Head)
    ∷ done 1 0 5 9 (Leave 1 0 ∷ Send 1 1 (Scsi 0xa1 0 None) ∷ [])
    ∷ done 4 0 5 10 (Leave 4 0 ∷ Send 1 2 (Scsi 0xa4 0 None) ∷ Enable 2 0 ∷ [])
    ∷ [])
    ((job 1 0 0xa1 Simple (read_at 10) ∷ job 4 0 0xa4 Head (read_at 40) ∷ job 2 0 0xa2 Ordered (read_at 20) ∷ [])
    ∷ (job 3 1 0xa3 Simple (read_at 30) ∷ [])
    ∷ [])
unfolding Rules.bars_as
two_units = (refl, refl)

-- a command that starts and leaves in one event, at the turn of an ABORT TASK SET that was held, is a job
pub left_at_once : WorkedJobs (setting 1 8) (
    is_held 1 (management 0x02 2 2 0xb1 0 0 0) 1 8
    ∷ turn 1 (command_with (read_at 10) 0 1 0xa1 1) 3 10 (entered 1 0 Simple ++ Deliver (request_of 1 (management 0x02 2 2 0xb1 0 0 0)) ∷ Leave 1 0 ∷ Send 1 1 (Task 0xb1 0) ∷ [])
    ∷ [])
    ((job 1 0 0xa1 Simple (read_at 10) ∷ []) ∷ [])
unfolding Rules.bars_as
left_at_once = (refl, refl)

-- a command that leaves before it starts is none, and the next one with its tag is
pub never_started : WorkedJobs (setting 1 8) (
    turn 1 (command_with (read_at 10) 0 1 0xa1 1) 2 8 (entered 1 0 Simple)
    ∷ turn 1 (command_with (read_at 20) 0 2 0xa2 2) 3 8 (Enter 2 0 Ordered ∷ [])
    ∷ at_once 1 (function_now 1 1 0xb1 0xa2 0) 3 9 (Leave 2 0 ∷ Send 1 1 (Task 0xb1 0) ∷ [])
    ∷ turn 1 (command_with (read_at 30) 0 1 0xa2 3) 4 9 (entered 3 0 Simple)
    ∷ [])
    ((job 1 0 0xa1 Simple (read_at 10) ∷ job 3 0 0xa2 Simple (read_at 30) ∷ []) ∷ [])
unfolding Rules.bars_as
never_started = (refl, refl)
