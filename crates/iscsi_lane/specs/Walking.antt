-- What a walk over the log finds. For private contracts alone.
use Rattle.std.specs.Prelude.{◌≡◌, ℕ, ◌≤◌, ◌==◌, Bool, true, false, List, [], ◌∷◌, ◌++◌, length, suc, Option, Some, None, if◌then◌else◌}
use Rattle.std.specs.List.{list_any}
use Rattle.iscsi_slots.specs.Slots.{times}
use Rattle.iscsi_lists.specs.Lists.{Listed, first_of, without}
use Rattle.iscsi_outbox_state.specs.declared.lane.Undue.{Undue}
use Rattle.iscsi_outbox_state.specs.declared.lane.Standing.{Standing}
use Rattle.iscsi_outbox_state.specs.declared.lane.Standing.TheVariants.{Left as IsLeft, Undue as IsUndue}
use Rattle.iscsi_outbox_state.specs.Lane.{due_behind, holds_back, is_due, is_of_logout, others_behind, waits_for_clear}
use Rattle.iscsi_lane.specs.Scoping.{is_untold}
use Rattle.iscsi_lane.specs.Standings.{at, items_in, slots_at, standings}
use Rattle.iscsi_lane.specs.Times.{has}

-- ---- how far a walk has come

-- the slots before one
abbrev pub before_slot : ℕ → List ℕ → List ℕ
before_slot s [] = []
before_slot s (y ∷ ys) = if y == s then [] else y ∷ before_slot s ys

-- how many stand from a slot on
abbrev pub from_slot : ℕ → List ℕ → ℕ
from_slot s [] = 0
from_slot s (y ∷ ys) = if y == s then suc (length ys) else from_slot s ys

abbrev pub still_ahead : Option ℕ → List ℕ → ℕ
still_ahead None order = 0
still_ahead (Some s) order = from_slot s order

-- what was passed and what stands ahead of the walk, and what holds of the two
pub record IsWalk (order : List ℕ) (Holds : List ℕ → List ℕ → Type 0) (at_it : Option ℕ) : Type 0 where
  pub front : List ℕ
  pub back : List ℕ
  pub parts : order ≡ front ++ back
  pub first : at_it ≡ first_of back
  pub holds : Holds front back

-- ---- the first answer that is due

pub record NoneIsDue (log : Listed Standing) : Type 0 where
  pub due : due_behind [] (items_in log) ≡ None
  pub others : others_behind [] (items_in log) ≡ items_in log

pub record IsDueFirst (log : Listed Standing) (slot : ℕ) (a : Undue) : Type 0 where
  pub there : 1 ≤ times slot (slots_at log 2)
  pub is : at log.values slot ≡ IsUndue a
  pub due : due_behind [] (items_in log) ≡ Some a
  pub others : others_behind [] (items_in log) ≡ standings log.values (without slot (slots_at log 2))

abbrev pub IsFirstDue : Listed Standing → Option (ℕ × Undue) → Type 0
IsFirstDue log None = NoneIsDue log
IsFirstDue log (Some found) = IsDueFirst log found.0 found.1

-- the slots that are due tell of each answer, but of those of which the lines don't tell
abbrev pub AreTold : Listed Standing → List ℕ → Type 0
AreTold log due = (s : ℕ) (a : Undue) → 1 ≤ times s (slots_at log 2) → at log.values s ≡ IsUndue a → is_untold (IsUndue a) ≡ false
    → has due s ≡ is_due (standings log.values (before_slot s (slots_at log 2))) a

-- something before it holds a Logout's answer back
abbrev pub IsHeld : List Standing → Standing → Type 0
IsHeld before (IsLeft c) = Unit {0}
IsHeld before (IsUndue a) = (is_of_logout a.aim ≡ true) × (list_any (holds_back a) before ≡ true)

abbrev pub IsHeldAt : Listed Standing → ℕ → Type 0
IsHeldAt log s = IsHeld (standings log.values (before_slot s (slots_at log 2))) (at log.values s)

-- what stands there is looked at from here on
pub record IsPassed (xs : List Standing) (order front back : List ℕ) : Type 0 where
  pub due : due_behind [] (standings xs order) ≡ due_behind (standings xs front) (standings xs back)
  pub others : others_behind [] (standings xs order) ≡ others_behind (standings xs front) (standings xs back)

-- nothing so far holds this answer back, and its slot wasn't reached
pub record NoneHolds (xs : List Standing) (a : Undue) (slot : ℕ) (front back : List ℕ) : Type 0 where
  pub none : list_any (holds_back a) (standings xs front) ≡ false
  pub clear : times slot front ≡ 0

-- ---- the first of some answers

abbrev pub is_uncleared_of : ℕ → Standing → Bool
is_uncleared_of unit (IsLeft c) = false
is_uncleared_of unit (IsUndue a) = waits_for_clear unit a

abbrev pub NoneSoFar : (Standing → Bool) → List Standing → List ℕ → List ℕ → Type 0
NoneSoFar test xs front back = list_any test (standings xs front) ≡ false

pub record IsFirstAt (test : Standing → Bool) (log : Listed Standing) (slot : ℕ) (a : Undue) : Type 0 where
  pub front : List ℕ
  pub back : List ℕ
  pub parts : slots_at log 2 ≡ front ++ slot ∷ back
  pub is : at log.values slot ≡ IsUndue a
  pub on : test (IsUndue a) ≡ true
  pub none : list_any test (standings log.values front) ≡ false

abbrev pub IsFirst : (Standing → Bool) → Listed Standing → Option (ℕ × Undue) → Type 0
IsFirst test log None = list_any test (items_in log) ≡ false
IsFirst test log (Some found) = IsFirstAt test log found.0 found.1
