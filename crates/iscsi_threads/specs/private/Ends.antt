-- The lists behind the loop's ends of all rings, and the journal's parts.
use Rattle.std.specs.Prelude.{◌≡◌, ℕ, ◌<◌, List, [], ◌∷◌, ◌++◌, length, slice_index, slice_index_or, slice_set}
use Rattle.iscsi_rules.specs.declared.event.Event.{Event}
use Rattle.iscsi_rules.specs.declared.event.Event.TheVariants.{Arrive, Done}
use Rattle.iscsi_threads.specs.declared.job.Job.{Job}
use Rattle.iscsi_threads.specs.rules.Ports.{Answer}

-- x stands behind the others in the list at i
abbrev pub grow : {X : Type 0} → List (List X) → ℕ → X → List (List X)
grow xss i x = slice_set xss i (slice_index_or xss i [] ++ x ∷ [])

-- the event e came from the ring f, and from no other
abbrev pub Polled : List ℕ → List (List (List ℕ)) → List (List (List ℕ)) → List (List Answer) → List (List Answer) → Event → ℕ → Type 0
Polled cids heads heads' dones dones' (Arrive c x) f = (f < length cids) × (c ≡ slice_index cids f) × (heads' ≡ grow heads f x) × (dones' ≡ dones)
Polled cids heads heads' dones dones' (Done t s) f = (f < length dones) × (heads' ≡ heads) × (dones' ≡ grow dones f ((t, s)))

-- each job behind the others of its unit
abbrev pub put_jobs : List Job → List (List Job) → List (List Job)
put_jobs [] jobs = jobs
put_jobs (j ∷ js) jobs = put_jobs js (grow jobs j.unit j)
