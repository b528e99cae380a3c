-- The parts of a journal.
use Rattle.std.specs.Prelude.{ℕ, ◌<◌, ◌≢◌, Bool, true, false, ◌&&◌, List, [], ◌∷◌, length, map, slice_index, nat_eq, nat_lt, if◌then◌else◌}
use Rattle.std.specs.List.{range_with_len}
use Rattle.iscsi_rules.specs.declared.event.Event.{Event}
use Rattle.iscsi_rules.specs.declared.event.Event.TheVariants.{Arrive, Done}
use Rattle.iscsi_rules.specs.declared.entry.Entry.{Entry}
use Rattle.iscsi_rules.specs.rules.Settings.{Setting}
use Rattle.iscsi_threads.specs.declared.job.Job.{Job}
use Rattle.iscsi_threads.specs.rules.Ports.{Answer}
use Rattle.iscsi_threads.specs.rules.Jobs.{jobs}

-- the CIDs of connections, in order
abbrev pub cids_in : List (ℕ × ℕ) → List ℕ
cids_in conns = map (λ (c : ℕ × ℕ). c.0) conns

abbrev pub cids_of : Setting → List ℕ
cids_of o = cids_in o.conns

-- the headers that arrived on the connection c, oldest first
abbrev pub part : ℕ → List Event → List (List ℕ)
part c [] = []
part c (Arrive d x ∷ es) = if nat_eq d c then x ∷ part c es else part c es
part c (Done t s ∷ es) = part c es

-- the answers that came from the unit u, oldest first
abbrev pub done : ℕ → List Event → List ℕ → List Answer
done u [] fs = []
done u (e ∷ es) [] = []
done u (Arrive c x ∷ es) (f ∷ fs) = done u es fs
done u (Done t s ∷ es) (f ∷ fs) = if nat_eq f u then (t, s) ∷ done u es fs else done u es fs

-- the jobs of the unit u among these
abbrev pub jobs_of : ℕ → List Job → List Job
jobs_of u [] = []
jobs_of u (j ∷ js) = if nat_eq j.unit u then j ∷ jobs_of u js else jobs_of u js

-- for each connection its part
abbrev pub parts : List ℕ → List Event → List (List (List ℕ))
parts cids j = map (λ c. part c j) cids

-- for each of n units its answers
abbrev pub dones : ℕ → List Event → List ℕ → List (List Answer)
dones n j from = map (λ u. done u j from) (range_with_len 0 n)

-- for each of n units its jobs
abbrev pub all_jobs : ℕ → List Entry → List (List Job)
all_jobs n log = map (λ u. jobs u log) (range_with_len 0 n)

-- f is the place of the event's connection, or a unit
abbrev pub is_source : List ℕ → ℕ → Event → ℕ → Bool
is_source cids n (Arrive c x) f = nat_lt f (length cids) && nat_eq (slice_index cids f) c
is_source cids n (Done t s) f = nat_lt f n

-- there is one source for each event
abbrev pub are_sources : List ℕ → ℕ → List Event → List ℕ → Bool
are_sources cids n [] [] = true
are_sources cids n [] (f ∷ fs) = false
are_sources cids n (e ∷ es) [] = false
are_sources cids n (e ∷ es) (f ∷ fs) = is_source cids n e f && are_sources cids n es fs

-- no number stands twice
abbrev pub AllDiffer : List ℕ → Type 0
AllDiffer xs = (i k : ℕ) → i < length xs → k < length xs → k ≢ i → slice_index xs k ≢ slice_index xs i
