-- Phases that a command that is enabled comes to, and what becomes of them.
use Rattle.std.proofs.Common.{◌≡◌, Bool, true, false, refl}
use Rattle.std.proofs.lemmas.Bool.{false≢true}
use Rattle.iscsi_outbox_rules.specs.rules.Boxes.{Phase, Dormant, Fresh, Started, Completed, Running, Gone}
use Rattle.iscsi_outbox_rules.specs.rules.Words.{is_live_phase, is_running_phase}
use Rattle.iscsi_outbox_rules.specs.rules.Items.{phase_taken_out, phase_completed, phase_enabled, phase_told}

abbrev pub is_started_phase : Phase → Bool
is_started_phase Started = true
is_started_phase _ = false

-- enabled, and told or not
abbrev pub is_awake_phase : Phase → Bool
is_awake_phase Fresh = true
is_awake_phase Started = true
is_awake_phase _ = false

-- phases that a change keeps
abbrev pub Keeps : (Phase → Bool) → (Phase → Phase) → Type 0
Keeps among change = (p : Phase) → among p ≡ true → among (change p) ≡ true

pub no : {A : Type 0} → false ≡ true → A
no h = absurd (false≢true h)

pub started_enabled : Keeps is_started_phase phase_enabled
started_enabled Dormant h = no h
started_enabled Fresh h = no h
started_enabled Started h = h
started_enabled Completed h = no h
started_enabled Running h = no h
started_enabled Gone h = no h

pub awake_enabled : Keeps is_awake_phase phase_enabled
awake_enabled Dormant h = no h
awake_enabled Fresh h = h
awake_enabled Started h = h
awake_enabled Completed h = no h
awake_enabled Running h = no h
awake_enabled Gone h = no h

pub running_enabled : Keeps is_running_phase phase_enabled
running_enabled Dormant h = no h
running_enabled Fresh h = no h
running_enabled Started h = no h
running_enabled Completed h = no h
running_enabled Running h = h
running_enabled Gone h = no h

pub running_told : Keeps is_running_phase phase_told
running_told Dormant h = no h
running_told Fresh h = no h
running_told Started h = no h
running_told Completed h = no h
running_told Running h = h
running_told Gone h = no h

pub started_told : Keeps is_started_phase phase_told
started_told Dormant h = no h
started_told Fresh h = no h
started_told Started h = h
started_told Completed h = no h
started_told Running h = no h
started_told Gone h = no h

-- what wakes was live, and has started once it is told
pub woken_live : (p : Phase) → is_live_phase p ≡ true → is_awake_phase (phase_enabled p) ≡ true
woken_live Dormant h = refl
woken_live Fresh h = refl
woken_live Started h = refl
woken_live Completed h = no h
woken_live Running h = no h
woken_live Gone h = no h

pub awake_told : (p : Phase) → is_awake_phase p ≡ true → is_started_phase (phase_told p) ≡ true
awake_told Dormant h = no h
awake_told Fresh h = refl
awake_told Started h = refl
awake_told Completed h = no h
awake_told Running h = no h
awake_told Gone h = no h

-- what started runs as it is taken out
pub started_out : (p : Phase) → is_started_phase p ≡ true → is_running_phase (phase_taken_out p) ≡ true
started_out Dormant h = no h
started_out Fresh h = no h
started_out Started h = refl
started_out Completed h = no h
started_out Running h = no h
started_out Gone h = no h

pub running_out : Keeps is_running_phase phase_taken_out
running_out Dormant h = no h
running_out Fresh h = no h
running_out Started h = no h
running_out Completed h = no h
running_out Running h = h
running_out Gone h = no h

pub running_completed : Keeps is_running_phase phase_completed
running_completed Dormant h = no h
running_completed Fresh h = no h
running_completed Started h = no h
running_completed Completed h = no h
running_completed Running h = h
running_completed Gone h = no h
