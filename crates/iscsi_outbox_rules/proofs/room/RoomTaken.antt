-- A command that counts as left was taken out by a request that executed.
use Rattle.std.proofs.Common.{◌≡◌, ℕ, ⊎_elim, ◌||◌, true, false, List, [], ◌∷◌, ◌++◌, map, filter_map, Option, Some, None, refl, ap, sym, subst, ◌∙◌}
use Rattle.std.specs.List.{list_any}
use Rattle.std.proofs.lemmas.Bool.{cond_both, false≢true}
use Rattle.std.proofs.lemmas.List.{append_assoc, append-nil}
use Rattle.std.proofs.lemmas.List.Folds.{list_any-append}
use Rattle.iscsi_wire.specs.declared.request.Request.{Request}
use Rattle.iscsi_rules.specs.declared.effect.Effect.{Effect}
use Rattle.iscsi_rules.specs.promises.Order.{in_parts}
use Rattle.iscsi_rules.proofs.general.BoolLemmas.{or_first, or_second}
use Rattle.iscsi_outbox_rules.specs.rules.Calls.{Opening, Call, Takes, Puts, Stops, Nexts, Writes, Hears, Joins, Loses, Clears}
use Rattle.iscsi_outbox_rules.specs.rules.Boxes.{Phase, Dormant, Fresh, Started, Completed, Running, Gone, Task, Box}
use Rattle.iscsi_outbox_rules.specs.rules.Words.{contains, is_left_phase, is_running}
use Rattle.iscsi_outbox_rules.specs.rules.Queues.{at_link, drop_on}
use Rattle.iscsi_outbox_rules.specs.rules.Due.{settle}
use Rattle.iscsi_outbox_rules.specs.rules.Items.{executing, tickets_left, ticket_enabled, phase_taken_out, phase_completed, phase_enabled, phase_told, task_entered, in_phase, after_item, after_items}
use Rattle.iscsi_outbox_rules.specs.rules.Run.{after_call, answered, phase_stopped, one_written, link_heard, may_join, link_joined, link_lost, cleared}
use Rattle.iscsi_outbox_rules.specs.promises.Deeds.{Deed, items_in, items_of_call}
use Rattle.iscsi_outbox_rules.specs.promises.Scope.{is_taken_out_in}
use Rattle.iscsi_outbox_rules.proofs.general.EachLemmas.{EachOf, each-append, each-map, each-weaken}
use Rattle.iscsi_outbox_rules.proofs.general.Cuts.{Hand, Idle, next}
use Rattle.iscsi_outbox_rules.proofs.general.DeedLemmas.{items_in-more}
use Rattle.iscsi_outbox_rules.proofs.general.TaskWalks.{phased}
use Rattle.iscsi_outbox_rules.proofs.commands.TaskRuns.{put_tasks}
use Rattle.iscsi_outbox_rules.proofs.commands.TaskLives.{left_tasks, entered_tasks, item_tasks, settled_tasks, dormant}

abbrev IsTaken : List (List Effect) → Task → Type 0
IsTaken items x = is_left_phase x.phase ≡ true → list_any (is_taken_out_in x.ticket) items ≡ true

abbrev pub AllTaken : List (List Effect) → List Task → Type 0
AllTaken items ts = EachOf (IsTaken items) ts

-- ---- phases

back_completed : (p : Phase) → is_left_phase (phase_completed p) ≡ true → is_left_phase p ≡ true
back_completed Dormant h = h
back_completed Fresh h = h
back_completed Started h = h
back_completed Completed h = h
back_completed Running h = h
back_completed Gone h = h

back_enabled : (p : Phase) → is_left_phase (phase_enabled p) ≡ true → is_left_phase p ≡ true
back_enabled Dormant h = h
back_enabled Fresh h = h
back_enabled Started h = h
back_enabled Completed h = h
back_enabled Running h = h
back_enabled Gone h = h

back_told : (p : Phase) → is_left_phase (phase_told p) ≡ true → is_left_phase p ≡ true
back_told Dormant h = h
back_told Fresh h = h
back_told Started h = h
back_told Completed h = h
back_told Running h = h
back_told Gone h = h

back_stopped : (p : Phase) → is_left_phase (phase_stopped p) ≡ true → is_left_phase p ≡ true
back_stopped Dormant h = h
back_stopped Fresh h = h
back_stopped Started h = h
back_stopped Completed h = h
back_stopped Running h = refl
back_stopped Gone h = h

phased_taken : (items : List (List Effect)) (change : Phase → Phase) → ((p : Phase) → is_left_phase (change p) ≡ true → is_left_phase p ≡ true) → (tickets : List ℕ) (ts : List Task) → AllTaken items ts → AllTaken items (map (phased change tickets) ts)
phased_taken items change back tickets ts h =
    each-map (IsTaken items) (IsTaken items) (phased change tickets) ts
    (λ x k. cond_both (contains tickets x.ticket) (record x { phase = change x.phase }) x (IsTaken items) (λ is left. k (back x.phase left)) (λ is. k)) h

-- ---- an item

taken_more : (items : List (List Effect)) (item : List Effect) (x : Task) → IsTaken items x → IsTaken (items ++ item ∷ []) x
taken_more items item x k left = list_any-append (is_taken_out_in x.ticket) items (item ∷ []) ∙ or_first (list_any (is_taken_out_in x.ticket) items) (list_any (is_taken_out_in x.ticket) (item ∷ [])) (k left)

taken_now : (items : List (List Effect)) (item : List Effect) (k : ℕ) → is_taken_out_in k item ≡ true → list_any (is_taken_out_in k) (items ++ item ∷ []) ≡ true
taken_now items item k is =
    list_any-append (is_taken_out_in k) items (item ∷ []) ∙ or_second (list_any (is_taken_out_in k) items) (is_taken_out_in k item || false) (or_first (is_taken_out_in k item) false is)

taken_left : (items : List (List Effect)) (item : List Effect) (r : Option Request) → executing item ≡ r → (ts : List Task) → AllTaken items ts → AllTaken (items ++ item ∷ []) (left_tasks r (tickets_left item) ts)
taken_left items item (Some r) is ts h =
    each-map (IsTaken items) (IsTaken (items ++ item ∷ [])) (phased phase_taken_out (tickets_left item)) ts
    (λ x k. cond_both (contains (tickets_left item) x.ticket) (record x { phase = phase_taken_out x.phase }) x (IsTaken (items ++ item ∷ []))
    (λ has left. taken_now items item x.ticket (ap (λ y. elim y [ Some q ↦ contains (tickets_left item) x.ticket | None ↦ false ]) is ∙ has)) (λ has. taken_more items item x k)) h
taken_left items item None is ts h =
    phased_taken (items ++ item ∷ []) phase_completed back_completed (tickets_left item) ts (each-weaken (IsTaken items) (IsTaken (items ++ item ∷ [])) ts (taken_more items item) h)

taken_entered : (items : List (List Effect)) (r : Option Request) (item : List Effect) (ts : List Task) → AllTaken items ts → AllTaken items (entered_tasks r item ts)
taken_entered items (Some r) item ts h =
    each-append (IsTaken items) ts (filter_map (task_entered r) item) h
    (each-weaken (λ (x : Task). x.phase ≡ Dormant) (IsTaken items) (filter_map (task_entered r) item) (λ x d left. absurd (false≢true (sym (ap is_left_phase d) ∙ left))) (dormant r item))
taken_entered items None item ts h = h

taken_item : (o : Opening) (items : List (List Effect)) (b : Box) (item : List Effect) → AllTaken items b.tasks → AllTaken (items ++ item ∷ []) (after_item o b item).tasks
taken_item o items b item h =
    let all : List (List Effect) = items ++ item ∷ [] in
    let left : List Task = left_tasks (executing item) (tickets_left item) b.tasks in
    subst (AllTaken all) (sym (item_tasks o b item))
    (phased_taken all phase_enabled back_enabled (filter_map ticket_enabled item) (entered_tasks (executing item) item left)
    (taken_entered all (executing item) item left (taken_left items item (executing item) refl b.tasks h)))

taken_items : (o : Opening) (items : List (List Effect)) (b : Box) (more : List (List Effect)) → AllTaken items b.tasks → AllTaken (items ++ more) (after_items o b more).tasks
taken_items o items b [] h = subst (λ its. AllTaken its b.tasks) (sym (append-nil items)) h
taken_items o items b (item ∷ more) h =
    subst (λ its. AllTaken its (after_items o (after_item o b item) more).tasks) (append_assoc items (item ∷ []) more)
    (taken_items o (items ++ item ∷ []) (after_item o b item) more (taken_item o items b item h))

-- ---- a call

module _ (o : Opening) where
  no_items : (ds : List Deed) (deed : Deed) (ts ts' : List Task) → items_of_call deed.0 ≡ [] → ts' ≡ ts → AllTaken (items_in ds) ts → AllTaken (items_in (ds ++ deed ∷ [])) ts'
  no_items ds deed ts ts' none same h =
      subst (AllTaken (items_in (ds ++ deed ∷ []))) (sym same)
      (subst (λ its. AllTaken its ts) (sym (items_in-more ds deed ∙ ap (λ its. items_in ds ++ its) none ∙ append-nil (items_in ds))) h)

  pub taken_call : (ds : List Deed) (b : Box) (c : Call) → AllTaken (items_in ds) b.tasks → AllTaken (items_in (ds ++ (c, answered o b c) ∷ [])) (after_call o b c).tasks
  taken_call ds b (Takes effects numbers) h =
      let b' : Box = after_items o b (in_parts effects) in
      let all : List (List Effect) = items_in ds ++ in_parts effects in
      subst (λ its. AllTaken its (after_call o b (Takes effects numbers)).tasks) (sym (items_in-more ds (Takes effects numbers, answered o b (Takes effects numbers))))
      (each-map (IsTaken all) (IsTaken all) (λ (x : Task). record x { phase = phase_told x.phase }) b'.tasks (λ x k left. k (back_told x.phase left)) (taken_items o (items_in ds) b (in_parts effects) h))
  taken_call ds b (Puts p) h = no_items ds (Puts p, answered o b (Puts p)) b.tasks (after_call o b (Puts p)).tasks refl (put_tasks o b p) h
  taken_call ds b (Stops ticket) h =
      cond_both (is_running b ticket) (settle o (in_phase phase_stopped (ticket ∷ []) b)) b (λ (x : Box). AllTaken (items_in (ds ++ (Stops ticket, answered o b (Stops ticket)) ∷ [])) x.tasks)
      (λ is. no_items ds (Stops ticket, answered o b (Stops ticket)) (in_phase phase_stopped (ticket ∷ []) b).tasks (settle o (in_phase phase_stopped (ticket ∷ []) b)).tasks refl (settled_tasks o (in_phase phase_stopped (ticket ∷ []) b))
      (phased_taken (items_in ds) phase_stopped back_stopped (ticket ∷ []) b.tasks h))
      (λ is. no_items ds (Stops ticket, answered o b (Stops ticket)) b.tasks b.tasks refl refl h)
  taken_call ds b (Nexts conn) h =
      no_items ds (Nexts conn, answered o b (Nexts conn)) b.tasks (after_call o b (Nexts conn)).tasks refl
      (⊎_elim (λ (k : Hand o b conn). ap (λ (x : Box). x.tasks) k.after_is) (λ (k : Idle o b conn). ap (λ (x : Box). x.tasks) k.after_is) (next o b conn)) h
  taken_call ds b (Writes conn) h =
      no_items ds (Writes conn, answered o b (Writes conn)) b.tasks (after_call o b (Writes conn)).tasks refl (settled_tasks o (record b { links = at_link conn one_written b.links })) h
  taken_call ds b (Hears conn exp_stat_sn tag) h =
      no_items ds (Hears conn exp_stat_sn tag, answered o b (Hears conn exp_stat_sn tag)) b.tasks (after_call o b (Hears conn exp_stat_sn tag)).tasks refl (settled_tasks o (record b { links = at_link conn (link_heard exp_stat_sn tag) b.links })) h
  taken_call ds b (Joins conn stat_sn) h =
      no_items ds (Joins conn stat_sn, answered o b (Joins conn stat_sn)) b.tasks (after_call o b (Joins conn stat_sn)).tasks refl
      (cond_both (may_join b conn) (record b { links = at_link conn (link_joined stat_sn) b.links }) b (λ (x : Box). x.tasks ≡ b.tasks) (λ is. refl) (λ is. refl)) h
  taken_call ds b (Loses conn) h =
      no_items ds (Loses conn, answered o b (Loses conn)) b.tasks (after_call o b (Loses conn)).tasks refl (settled_tasks o (drop_on conn (record b { links = at_link conn link_lost b.links; reached = 0 }))) h
  taken_call ds b (Clears unit) h =
      no_items ds (Clears unit, answered o b (Clears unit)) b.tasks (after_call o b (Clears unit)).tasks refl (settled_tasks o (record b { undue = cleared unit b.undue })) h
