-- What a set keeps beside its commands, so that none of them is tested again.
use Rattle.std.specs.Prelude.{◌≡◌, ℕ, ℤ, pos, ◌+ℤ◌, ◌≤ℤ◌, int_lt, ◌+◌, ◌-◌, ◌^◌, ◌<◌, ◌≤◌, ◌==◌, ◌&&◌, ◌||◌, not, nat_lt, Bool, true, false, List, [], ◌∷◌, ◌++◌, length, All, slice_index_or, count_by, Option, MatchOption, if◌then◌else◌}
use Rattle.std.specs.Int.{int_min}
use Rattle.std.specs.List.{position_or_len, fold, AllPairs}
use Rattle.iscsi_tasks.specs.declared.task.Attr.{Attr}
use Rattle.iscsi_tasks.specs.declared.task.Attr.TheVariants.{Simple, Ordered, Head}
use Rattle.iscsi_tasks.specs.declared.task.Task.{Task}
use Rattle.iscsi_tasks.specs.declared.cover.Cover.{Cover}
use Rattle.iscsi_tasks.specs.declared.cover.Cover.TheVariants.{All as AllOfThem, Conn, Below}
use Rattle.iscsi_tasks.specs.declared.member.Member.{Member}
use Rattle.iscsi_tasks.specs.Sets.{Members, is_head_of, is_ordered_of, is_new, is_covered, InOrder, is_free_among}

abbrev pub is_head_in : Member → Bool
is_head_in m = is_head_of m.task.attr

abbrev pub is_ordered_in : Member → Bool
is_ordered_in m = is_ordered_of m.task.attr

-- the place of the command with this ticket, or none
abbrev pub IsPlaceOf : List Member → ℕ → Option ℕ → Type 0
IsPlaceOf list ticket r = MatchOption r (All (λ m. (m.task.ticket == ticket) ≡ false) list) (λ k. (k < length list) × ((d : Member) → (slice_index_or list k d).task.ticket ≡ ticket))

-- a HEAD OF QUEUE command is enabled
abbrev pub AreHeadsEnabled : List Member → Type 0
AreHeadsEnabled list = All (λ m. is_head_in m ≡ true → m.enabled ≡ true) list

-- counts of a set, and places in it from 0 on. Marks of a set are slots at such places, so contracts need no counts
pub record Counts : Type 0 where
  pub heads : ℕ  -- how many commands are HEAD OF QUEUE
  pub ordered_at : ℕ  -- the place of the oldest ORDERED one, and the number of commands where there is none
  pub enabled_to : ℕ  -- the commands before this place are enabled
  pub new_from : ℕ  -- the commands that are enabled and weren't given are from this place on ..
  pub new_to : ℕ  -- .. and before this one

-- the counts are those of the set
pub record IsCounted (c : Counts) (list : List Member) : Type 0 where
  pub order : InOrder list
  pub heads : c.heads ≡ count_by is_head_in list
  pub ordered_at : c.ordered_at ≡ position_or_len is_ordered_in list
  pub enabled_to : c.enabled_to ≤ length list
  pub enabled : (k : ℕ) (d : Member) → k < c.enabled_to → (slice_index_or list k d).enabled ≡ true
  pub heads_enabled : AreHeadsEnabled list
  pub new_to : c.new_to ≤ length list
  pub new : (k : ℕ) (d : Member) → k < length list → is_new (slice_index_or list k d) ≡ true → (c.new_from ≤ k) × (k < c.new_to)

-- every command that is free is enabled
abbrev pub IsSettled : List Member → Type 0
IsSettled list = All (λ m. (m.enabled || is_free_among m.task list) ≡ m.enabled) list

-- the commands before a function with a number below this one
abbrev pub is_below : ℤ → Cover → Bool
is_below number AllOfThem = false
is_below number (Conn cid) = false
is_below number (Below at event) = int_lt at number

-- no function with a number below this one covers one of the commands
abbrev pub IsCoveredFrom : ℤ → List Task → Type 0
IsCoveredFrom number ts = (cover : Cover) → is_below number cover ≡ true → All (λ t. is_covered cover t ≡ false) ts

-- a command that enters behind so many others is free
abbrev pub is_free_behind : Counts → ℕ → Attr → Bool
is_free_behind c len Head = true
is_free_behind c len Ordered = len == 0
is_free_behind c len Simple = c.heads == 0 && c.ordered_at == len

abbrev pub plus_one_if : Bool → ℕ → ℕ
plus_one_if b n = if b then n + 1 else n

-- a place, after the command at another one left
abbrev pub shifted_by : ℕ → ℕ → ℕ
shifted_by at place = if nat_lt at place then place - 1 else place

-- the command at this place left, and the oldest ORDERED one is at that place now
abbrev pub without_one : Counts → ℕ → Attr → ℕ → Counts
without_one c at attr ordered_at = record {
  heads = if is_head_of attr then c.heads - 1 else c.heads;
  ordered_at = ordered_at;
  enabled_to = shifted_by at c.enabled_to;
  new_from = shifted_by at c.new_from;
  new_to = shifted_by at c.new_to;
}

-- a member that is enabled from now on
abbrev pub enabled_now : Member → Member
enabled_now m = record { task = m.task; enabled = true; given = m.given }

-- a member whose ticket is given from now on
abbrev pub given_now : Member → Member
given_now m = record { task = m.task; enabled = m.enabled; given = true }

-- the set, once a command entered that is enabled or not, and given or not
abbrev pub taken_in : Members → Task → Bool → Bool → Members
taken_in s task enabled given = record { depth = s.depth; looked = 1; list = s.list ++ record { task = task; enabled = enabled; given = given } ∷ [] }

-- ---- from which number on functions may cover commands

-- the greatest number of a function
abbrev pub greatest_number : ℤ
greatest_number = pos (2 ^ 63 - 1)

-- the least number of a function that may cover this one
abbrev pub covered_from : Task → ℤ
covered_from t = if t.immediate then t.pos else int_min (t.pos +ℤ pos 1) greatest_number

-- that of the set, once the command entered behind so many others
abbrev pub covered_from_with : ℤ → ℕ → Task → ℤ
covered_from_with number len t = if len == 0 then covered_from t else int_min number (covered_from t)

-- the least one of these commands
abbrev pub covered_from_in : List Member → ℤ
covered_from_in list = fold (λ n m. int_min n (covered_from m.task)) greatest_number list

-- that of the oldest
abbrev pub covered_from_first : List Member → ℤ
covered_from_first [] = greatest_number
covered_from_first (m ∷ ms) = covered_from m.task

-- ---- where they go up along the set

abbrev pub IsAscending : List Member → Type 0
IsAscending list = AllPairs (λ a b. covered_from a.task ≤ℤ covered_from b.task) list

-- they go up, and none is above this one
pub record IsAscendingTo (most : ℤ) (list : List Member) : Type 0 where
  pub ascending : IsAscending list
  pub within : All (λ m. covered_from m.task ≤ℤ most) list

-- they go up, once the command entered behind so many others, none of whose is above this one if they go up
abbrev pub ascends_with : Bool → ℤ → ℕ → Task → Bool
ascends_with ascends most len t = len == 0 || (ascends && not (int_lt (covered_from t) most))
