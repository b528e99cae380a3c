-- How many of each kind wait. For private contracts alone.
use Rattle.std.specs.Prelude.{ℕ, ◌+◌, ◌-◌, ◌<◌, ◌≤◌, ◌^◌, Bool, List, count_by, sum_by, if◌then◌else◌}
use Rattle.iscsi_outbox_state.specs.declared.waiting.Waiting.{Waiting}
use Rattle.iscsi_outbox_state.specs.Waits.{Entry, entry, is_fenced, is_numbered, is_own, is_reply, is_taking}
use Rattle.iscsi_waiting.specs.declared.counts.Counts.{Counts}

abbrev pub counts : ℕ → ℕ → ℕ → ℕ → ℕ → Counts
counts own replies taking fenced numbered = record { own = own; replies = replies; taking = taking; fenced = fenced; numbered = numbered }

abbrev pub nothing_counted : Counts
nothing_counted = counts 0 0 0 0 0

abbrev pub is_own_item : Waiting → Bool
is_own_item w = is_own (entry 0 w)

abbrev pub one_if : (Entry → Bool) → Waiting → ℕ
one_if test w = if test (entry 0 w) then 1 else 0

-- one more waits
abbrev pub with_one : Waiting → Counts → Counts
with_one w c = counts (c.own + one_if is_own w) (c.replies + one_if is_reply w) (c.taking + one_if is_taking w) (c.fenced + one_if is_fenced w) (c.numbered + one_if is_numbered w)

-- one fewer does
abbrev pub without_one : Waiting → Counts → Counts
without_one w c = counts (c.own - one_if is_own w) (c.replies - one_if is_reply w) (c.taking - one_if is_taking w) (c.fenced - one_if is_fenced w) (c.numbered - one_if is_numbered w)

-- of a queue
abbrev pub counts_of : List Entry → Counts
counts_of q = counts (count_by is_own q) (count_by is_reply q) (count_by is_taking q) (count_by is_fenced q) (count_by is_numbered q)

abbrev pub total_by : (Entry → Bool) → List (List Entry) → ℕ
total_by test queues = sum_by (λ (q : List Entry). count_by test q) queues

-- of all queues
abbrev pub counts_in : List (List Entry) → Counts
counts_in queues = counts (total_by is_own queues) (total_by is_reply queues) (total_by is_taking queues) (total_by is_fenced queues) (total_by is_numbered queues)

-- one more can be counted
pub record HasPlace (c : Counts) : Type 0 where
  pub own : c.own + 1 < 2 ^ 64
  pub replies : c.replies + 1 < 2 ^ 64
  pub taking : c.taking + 1 < 2 ^ 64
  pub fenced : c.fenced + 1 < 2 ^ 64
  pub numbered : c.numbered + 1 < 2 ^ 64

-- this one was counted
pub record HasOne (w : Waiting) (c : Counts) : Type 0 where
  pub own : one_if is_own w ≤ c.own
  pub replies : one_if is_reply w ≤ c.replies
  pub taking : one_if is_taking w ≤ c.taking
  pub fenced : one_if is_fenced w ≤ c.fenced
  pub numbered : one_if is_numbered w ≤ c.numbered
