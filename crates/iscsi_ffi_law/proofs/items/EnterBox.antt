-- A command enters in the outbox, and what its item enables.
use Rattle.std.proofs.Common.{◌≡◌, ℕ, ◌==◌, ◌&&◌, ◌||◌, Bool, true, false, List, [], ◌∷◌, ◌++◌, filter_map, Option, Some, refl, ap, ◌∙◌}
use Rattle.std.specs.List.{flat_map, list_any}
use Rattle.std.proofs.lemmas.List.Folds.{list_any-append}
use Rattle.iscsi_wire.specs.declared.reply.Reply.{Reply}
use Rattle.iscsi_wire.specs.declared.request.Request.{Request}
use Rattle.iscsi_rules.specs.declared.effect.Effect.{Effect}
use Rattle.iscsi_rules.specs.rules.Trace.{Command as RulesCommand, first_of}
use Rattle.iscsi_outbox_rules.specs.rules.Boxes.{Box, Link, Task}
use Rattle.iscsi_outbox_rules.specs.rules.Calls.{Opening}
use Rattle.iscsi_outbox_rules.specs.rules.Due.{settle}
use Rattle.iscsi_outbox_rules.specs.rules.Items.{after_item, close, conns_closed, enter_tasks, executing, in_phase, leave, newly_closed, phase_enabled, reply_sent, send, task_entered, ticket_enabled, tickets_left}
use Rattle.iscsi_outbox_rules.specs.rules.Words.{is_running_phase}
use Rattle.iscsi_ffi_law.proofs.completions.DonePhases.{running_enabled, runs_at, turned_runs}
use Rattle.iscsi_ffi_law.proofs.completions.DoneShape.{tickets_of}
use Rattle.iscsi_ffi_law.proofs.calls.Quiet.{settled_tasks}
use Rattle.iscsi_ffi_law.proofs.items.QuietBox.{none_leaves}

-- what such an item shows; `ns`: the commands that it enables
pub record IsEnteringPart (es : List Effect) (q : Request) (task : Task) (ns : List RulesCommand) : Type 0 where
  pub enabled : filter_map ticket_enabled es ≡ tickets_of ns
  pub left : tickets_left es ≡ []
  pub entering : filter_map (task_entered q) es ≡ task ∷ []
  pub closing : (links : List Link) → flat_map (conns_closed links) es ≡ []
  pub executes : executing es ≡ Some q
  pub sends : filter_map reply_sent es ≡ []

module _ (o : Opening) (b : Box) (q : Request) (task : Task) (ns : List RulesCommand) (es : List Effect) (h : IsEnteringPart es q task ns) where
  abbrev pub entered_box : Box
  entered_box = in_phase phase_enabled (tickets_of ns) (record b { tasks = b.tasks ++ task ∷ [] })

  pub enters_item : after_item o b es ≡ settle o entered_box
  enters_item =
      ap (λ (x : Option Request). by x (tickets_left es) (flat_map (conns_closed b.links) es) (filter_map ticket_enabled es) (first_of (filter_map reply_sent es))) h.executes
      ∙ ap (λ (ts : List ℕ). by (Some q) ts (flat_map (conns_closed b.links) es) (filter_map ticket_enabled es) (first_of (filter_map reply_sent es))) h.left
      ∙ ap (λ (cs : List ℕ). by (Some q) [] cs (filter_map ticket_enabled es) (first_of (filter_map reply_sent es))) (h.closing b.links)
      ∙ ap (λ (ks : List ℕ). by (Some q) [] [] ks (first_of (filter_map reply_sent es))) h.enabled
      ∙ ap (λ (xs : List (ℕ × Reply)). by (Some q) [] [] (tickets_of ns) (first_of xs)) h.sends
      ∙ ap (λ (xs : List Task). settle o (in_phase phase_enabled (tickets_of ns) (let b' = leave (Some q) [] b in record b' { tasks = b'.tasks ++ xs }))) h.entering
      ∙ ap (λ (c : Box). settle o (in_phase phase_enabled (tickets_of ns) (record c { tasks = c.tasks ++ task ∷ [] }))) (none_leaves (Some q) b)
    where
      by : Option Request → List ℕ → List ℕ → List ℕ → Option (ℕ × Reply) → Box
      by x ts cs ks w = settle o (in_phase phase_enabled ks (send o x ts cs (newly_closed b cs) w (close x (newly_closed b cs) (enter_tasks x es (leave x ts b)))))

  -- no command begins to run, or stops
  pub enters_runs : is_running_phase task.phase ≡ false → (n : ℕ) → list_any (runs_at n) (settle o entered_box).tasks ≡ list_any (runs_at n) b.tasks
  enters_runs dormant n =
      ap (list_any (runs_at n)) (settled_tasks o [] b.undue entered_box)
      ∙ turned_runs phase_enabled (tickets_of ns) n (b.tasks ++ task ∷ []) running_enabled
      ∙ list_any-append (runs_at n) b.tasks (task ∷ [])
      ∙ ap (λ v. list_any (runs_at n) b.tasks || ((task.ticket == n && v) || false)) dormant ∙ by_last (list_any (runs_at n) b.tasks) (task.ticket == n)
    where
      by_last : (v w : Bool) → (v || ((w && false) || false)) ≡ v
      by_last true w = refl
      by_last false true = refl
      by_last false false = refl
