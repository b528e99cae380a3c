-- Readiness: whoever asks a connection that is told to be ready, until it gives nothing, misses nothing, and is told once.
use Rattle.std.specs.Prelude.{◌≡◌, ℕ, ◌==◌, ◌&&◌, ◌||◌, not, Bool, true, false, List, [], ◌∷◌, ◌++◌}
use Rattle.std.specs.List.{list_any}
use Rattle.iscsi_outbox_rules.specs.rules.Words.{contains}
use Rattle.iscsi_ffi_rules.specs.declared.action.Action.{Action}
use Rattle.iscsi_ffi_rules.specs.declared.action.Action.TheVariants.{Ready}
use Rattle.iscsi_ffi_rules.specs.rules.Calls.{Interface, Call, Nexts}
use Rattle.iscsi_ffi_rules.specs.rules.Run.{Answer, NoneGoes, NoneIsLeft, cids, gives}
use Rattle.iscsi_ffi_rules.specs.promises.Deeds.{Deed, deeds_of, side_of}

abbrev pub is_ready : ℕ → Action → Bool
is_ready conn (Ready cid) = cid == conn
is_ready conn _ = false

-- the connection was asked, and gave nothing
abbrev pub is_in_vain : ℕ → Call → Answer → Bool
is_in_vain conn (Nexts c) NoneGoes = c == conn
is_in_vain conn (Nexts c) NoneIsLeft = c == conn
is_in_vain conn _ _ = false

abbrev pub is_awake_from : ℕ → Bool → List Deed → Bool
is_awake_from conn awake [] = awake
is_awake_from conn awake (d ∷ ds) = is_awake_from conn (list_any (is_ready conn) d.actions || (awake && not (is_in_vain conn d.call d.answer))) ds

-- it was told to be ready since it last gave nothing
abbrev pub is_awake : ℕ → List Deed → Bool
is_awake conn ds = is_awake_from conn false ds

pub record ReadyHolds (i : Interface) (cs : List Call) : Type 0 where
  -- a connection of the session that could give something was told
  pub no_lost : (conn : ℕ) → contains (cids i) conn ≡ true → gives i (side_of i cs) conn ≡ true → is_awake conn (deeds_of i cs) ≡ true
  -- and is told once, until it gives nothing
  pub once : (before after : List Deed) (d : Deed) (conn : ℕ) → before ++ d ∷ after ≡ deeds_of i cs → is_awake conn before ≡ true → is_in_vain conn d.call d.answer ≡ false → list_any (is_ready conn) d.actions ≡ false
