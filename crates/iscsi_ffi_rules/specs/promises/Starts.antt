-- Starts and stops: a unit is told at most once to start a command, and at most once, behind that, to stop it.
use Rattle.std.specs.Prelude.{◌≡◌, ◌≤◌, ℕ, ◌==◌, Bool, true, false, List, ◌∷◌, ◌++◌, count_by}
use Rattle.std.specs.List.{list_any}
use Rattle.iscsi_ffi_rules.specs.declared.action.Action.{Action}
use Rattle.iscsi_ffi_rules.specs.declared.action.Action.TheVariants.{Start, Stop}
use Rattle.iscsi_ffi_rules.specs.declared.action.StopReason.{StopReason}
use Rattle.iscsi_ffi_rules.specs.rules.Calls.{Interface, Call}
use Rattle.iscsi_ffi_rules.specs.promises.Deeds.{deeds_of, told_in}

abbrev pub is_start : ℕ → Action → Bool
is_start ticket (Start k unit attr cookie) = k == ticket
is_start ticket _ = false

abbrev pub is_stop : ℕ → Action → Bool
is_stop ticket (Stop k cookie why) = k == ticket
is_stop ticket _ = false

-- no ticket is told twice to start
abbrev pub StartsOnce : Interface → List Call → Type 0
StartsOnce i cs = (ticket : ℕ) → count_by (is_start ticket) (told_in (deeds_of i cs)) ≤ 1

pub record StopsStarted (i : Interface) (cs : List Call) : Type 0 where
  -- what is told to stop was told to start before
  pub started : (before after : List Action) (ticket cookie : ℕ) (why : StopReason) → before ++ Stop ticket cookie why ∷ after ≡ told_in (deeds_of i cs) → list_any (is_start ticket) before ≡ true
  -- and isn't told so twice
  pub once : (ticket : ℕ) → count_by (is_stop ticket) (told_in (deeds_of i cs)) ≤ 1
