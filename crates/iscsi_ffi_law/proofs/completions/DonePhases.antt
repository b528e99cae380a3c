-- No command begins to run, or stops, as others complete, are enabled and are told to start.
use Rattle.std.proofs.Common.{◌≡◌, ℕ, ◌==◌, ◌&&◌, cond, Bool, List, map, refl, ap, ◌∙◌}
use Rattle.std.specs.List.{list_any}
use Rattle.std.proofs.lemmas.Bool.{cond_both}
use Rattle.iscsi_rules.proofs.general.ListLemmas.{any_same, list_any-map}
use Rattle.iscsi_outbox_rules.specs.rules.Boxes.{Completed, Dormant, Fresh, Gone, Phase, Running, Started, Task}
use Rattle.iscsi_outbox_rules.specs.rules.Items.{phase_completed, phase_enabled, phase_told}
use Rattle.iscsi_outbox_rules.specs.rules.Words.{contains, is_running_phase}

pub running_completed : (p : Phase) → is_running_phase (phase_completed p) ≡ is_running_phase p
running_completed Dormant = refl
running_completed Fresh = refl
running_completed Started = refl
running_completed Completed = refl
running_completed Running = refl
running_completed Gone = refl

pub running_enabled : (p : Phase) → is_running_phase (phase_enabled p) ≡ is_running_phase p
running_enabled Dormant = refl
running_enabled Fresh = refl
running_enabled Started = refl
running_enabled Completed = refl
running_enabled Running = refl
running_enabled Gone = refl

running_told : (p : Phase) → is_running_phase (phase_told p) ≡ is_running_phase p
running_told Dormant = refl
running_told Fresh = refl
running_told Started = refl
running_told Completed = refl
running_told Running = refl
running_told Gone = refl

abbrev pub runs_at : ℕ → Task → Bool
runs_at k t = t.ticket == k && is_running_phase t.phase

abbrev pub turned : (Phase → Phase) → List ℕ → Task → Task
turned change tickets t = cond (contains tickets t.ticket) (record t { phase = change t.phase }) t

pub turned_runs : (change : Phase → Phase) (tickets : List ℕ) (k : ℕ) (ts : List Task) → ((p : Phase) → is_running_phase (change p) ≡ is_running_phase p) → list_any (runs_at k) (map (turned change tickets) ts) ≡ list_any (runs_at k) ts
turned_runs change tickets k ts same =
    list_any-map (runs_at k) (turned change tickets) ts
    ∙ any_same (λ (t : Task). runs_at k (turned change tickets t)) (runs_at k) ts
    (λ t. cond_both (contains tickets t.ticket) (record t { phase = change t.phase }) t (λ (u : Task). runs_at k u ≡ runs_at k t) (λ is. ap (λ v. (t.ticket == k) && v) (same t.phase)) (λ isnt. refl))

pub told_runs : (k : ℕ) (ts : List Task) → list_any (runs_at k) (map (λ (t : Task). record t { phase = phase_told t.phase }) ts) ≡ list_any (runs_at k) ts
told_runs k ts =
    list_any-map (runs_at k) (λ (t : Task). record t { phase = phase_told t.phase }) ts
    ∙ any_same (λ (t : Task). runs_at k (record t { phase = phase_told t.phase })) (runs_at k) ts (λ t. ap (λ v. (t.ticket == k) && v) (running_told t.phase))
