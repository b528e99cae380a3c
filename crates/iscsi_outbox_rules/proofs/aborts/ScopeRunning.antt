-- A command that was told to its unit before it was taken out runs from then on, until it is reported stopped.
use Rattle.std.proofs.Common.{◌≡◌, ℕ, zero, suc, ◌⊎◌, inl, inr, ⊎_elim, ◌==◌, ◌+◌, ◌≤◌, ◌<◌, ◌||◌, cond, Bool, true, false, List, [], ◌∷◌, ◌++◌, length, map, filter_map, Option, Some, None, refl, ap, sym, subst, ◌∙◌, arith}
use Rattle.std.specs.Prelude.{Contains}
use Rattle.std.specs.List.{list_any, flat_map}
use Rattle.std.proofs.lemmas.Bool.{cond_both, false≢true, eqb-true}
use Rattle.std.proofs.lemmas.List.Folds.{list_any-append}
use Rattle.iscsi_wire.specs.declared.request.Request.{Request}
use Rattle.iscsi_rules.specs.declared.effect.Effect.{Effect}
use Rattle.iscsi_rules.specs.declared.effect.Numbers.{Numbers}
use Rattle.iscsi_rules.specs.promises.Order.{in_parts}
use Rattle.iscsi_outbox_rules.specs.rules.Calls.{Opening, Call, Takes, Puts, Stops, Nexts, Writes, Hears, Joins, Loses, Clears}
use Rattle.iscsi_outbox_rules.specs.rules.Boxes.{Dormant, Fresh, Started, Completed, Running, Gone, Task, Box}
use Rattle.iscsi_outbox_rules.specs.rules.Words.{is_running_phase, is_running}
use Rattle.iscsi_outbox_rules.specs.rules.Queues.{at_link, drop_on}
use Rattle.iscsi_outbox_rules.specs.rules.Due.{settle}
use Rattle.iscsi_outbox_rules.specs.rules.Items.{executing, tickets_left, ticket_enabled, phase_taken_out, phase_completed, phase_enabled, phase_told, in_phase, after_item, after_items, after_event}
use Rattle.iscsi_outbox_rules.specs.rules.Run.{Stopped, after_call, after_calls, answered, phase_stopped, one_written, link_heard, may_join, link_joined, link_lost, cleared}
use Rattle.iscsi_outbox_rules.specs.promises.Deeds.{Deed, deeds_from, effects_taken, items_in, items_of_call}
use Rattle.iscsi_outbox_rules.specs.promises.Scope.{is_taken_out_in}
use Rattle.iscsi_outbox_rules.specs.promises.Still.{enables, enabled_in}
use Rattle.iscsi_outbox_rules.proofs.general.Cuts.{Hand, Idle, next}
use Rattle.iscsi_outbox_rules.proofs.commands.TicketLemmas.{parts_whole, entered, none_or_some}
use Rattle.iscsi_outbox_rules.proofs.commands.LeaveLemmas.{leaving, leavings, leavings-append}
use Rattle.iscsi_outbox_rules.proofs.general.TaskWalks.{phased}
use Rattle.iscsi_outbox_rules.proofs.commands.TaskRuns.{AreIn, put_tasks}
use Rattle.iscsi_outbox_rules.proofs.commands.TaskFits.{Fits, fits-first, fits-second}
use Rattle.iscsi_outbox_rules.proofs.commands.TaskLives.{or_false, or_assoc, left_tasks, item_tasks, settled_tasks, in_map, unturned, Lives, lives_call}
use Rattle.iscsi_outbox_rules.proofs.commands.TaskPhases.{Keeps, is_started_phase, running_enabled, running_told, running_out, running_completed}
use Rattle.iscsi_outbox_rules.proofs.aborts.ScopeWakes.{wakes, Rises, rises-first, rises-second, Woken, kept, woken_event}
use Rattle.iscsi_outbox_rules.proofs.aborts.ScopeItems.{in_entered}

any_flat : {A : Type 0} (p : A → Bool) (xss : List (List A)) → list_any (λ xs. list_any p xs) xss ≡ list_any p (flat_map (λ (xs : List A). xs) xss)
any_flat p [] = refl
any_flat {A = A} p (xs ∷ xss) = ap (λ v. list_any p xs || v) (any_flat p xss) ∙ sym (list_any-append p xs (flat_map (λ (ys : List A). ys) xss))

started_stopped : Keeps is_started_phase phase_stopped
started_stopped Dormant h = h
started_stopped Fresh h = h
started_stopped Started h = h
started_stopped Completed h = h
started_stopped Running h = h
started_stopped Gone h = h

contains_head : {A : Type 0} (x y : A) (xs : List A) → y ≡ x → Contains (y ∷ xs) x
contains_head x y xs same = (zero, (let z : 0 < suc (length xs) = omega arith in z), same)

contains_later : {A : Type 0} (x y : A) (xs : List A) → Contains xs x → Contains (y ∷ xs) x
contains_later x y xs h = let low : h.0 < length xs = h.1 in (suc h.0, (let z : suc h.0 < suc (length xs) = omega (arith, low) in z), h.2)

module _ (t : ℕ) where
  -- ---- before it leaves

  pub wakes_call : (call : Call) → list_any (wakes t) (items_of_call call) ≡ list_any (enables t) (effects_taken call)
  wakes_call (Takes effects numbers) = any_flat (enables t) (in_parts effects) ∙ ap (list_any (enables t)) (parts_whole effects)
  wakes_call (Puts p) = refl
  wakes_call (Stops ticket) = refl
  wakes_call (Nexts conn) = refl
  wakes_call (Writes conn) = refl
  wakes_call (Hears conn exp_stat_sn tag) = refl
  wakes_call (Joins conn stat_sn) = refl
  wakes_call (Loses conn) = refl
  wakes_call (Clears unit) = refl

  abbrev pub HasStarted : ℕ → Bool → List Task → Type 0
  HasStarted l told ts = Woken t l told false false ts

  same_started : (l : ℕ) (told : Bool) (ts us : List Task) → us ≡ ts → HasStarted l told ts → HasStarted (l + 0) (told || false) us
  same_started l told ts us same h =
      let z : l ≡ l + 0 = omega arith in
      subst (λ k. HasStarted k (told || false) us) z (subst (λ v. HasStarted l v us) (sym (or_false told)) (subst (HasStarted l told) (sym same) h))

  stopped_started : (l : ℕ) (told : Bool) (ticket : ℕ) (ts : List Task) → HasStarted l told ts → HasStarted l told (map (phased phase_stopped (ticket ∷ [])) ts)
  stopped_started l told ticket ts h = record {
    fits = h.fits;
    started = λ is z. kept t is_started_phase phase_stopped started_stopped (ticket ∷ []) ts (h.started is z);
    awake = λ is. absurd (false≢true is);
    runs = λ is. absurd (false≢true is);
  }

  started_call : (o : Opening) (l : ℕ) (out told : Bool) (b : Box) (call : Call) → Fits t l (items_of_call call) → Rises t told (items_of_call call) → Lives t l out b.tasks → HasStarted l told b.tasks
      → HasStarted (l + leavings t (items_of_call call)) (told || list_any (wakes t) (items_of_call call)) (after_call o b call).tasks
  started_call o l out told b (Takes effects numbers) fits rises lives h =
      let k = woken_event t o l out told false b effects numbers fits rises lives h in
      record { fits = λ is. absurd (false≢true is); started = k.started; awake = k.awake; runs = λ is. absurd (false≢true is) }
  started_call o l out told b (Puts p) fits rises lives h = same_started l told b.tasks (after_call o b (Puts p)).tasks (put_tasks o b p) h
  started_call o l out told b (Stops ticket) fits rises lives h =
      cond_both (is_running b ticket) (settle o (in_phase phase_stopped (ticket ∷ []) b)) b (λ (x : Box). HasStarted (l + 0) (told || false) x.tasks)
      (λ is. same_started l told (map (phased phase_stopped (ticket ∷ [])) b.tasks) (settle o (in_phase phase_stopped (ticket ∷ []) b)).tasks (settled_tasks o (in_phase phase_stopped (ticket ∷ []) b)) (stopped_started l told ticket b.tasks h))
      (λ is. same_started l told b.tasks b.tasks refl h)
  started_call o l out told b (Nexts conn) fits rises lives h =
      ⊎_elim (λ (k : Hand o b conn). same_started l told b.tasks (after_call o b (Nexts conn)).tasks (ap (λ (x : Box). x.tasks) k.after_is) h)
      (λ (k : Idle o b conn). same_started l told b.tasks (after_call o b (Nexts conn)).tasks (ap (λ (x : Box). x.tasks) k.after_is) h) (next o b conn)
  started_call o l out told b (Writes conn) fits rises lives h = same_started l told b.tasks (after_call o b (Writes conn)).tasks (settled_tasks o (record b { links = at_link conn one_written b.links })) h
  started_call o l out told b (Hears conn exp_stat_sn tag) fits rises lives h =
      same_started l told b.tasks (after_call o b (Hears conn exp_stat_sn tag)).tasks (settled_tasks o (record b { links = at_link conn (link_heard exp_stat_sn tag) b.links })) h
  started_call o l out told b (Joins conn stat_sn) fits rises lives h =
      cond_both (may_join b conn) (record b { links = at_link conn (link_joined stat_sn) b.links }) b (λ (x : Box). HasStarted (l + 0) (told || false) x.tasks)
      (λ is. same_started l told b.tasks b.tasks refl h) (λ is. same_started l told b.tasks b.tasks refl h)
  started_call o l out told b (Loses conn) fits rises lives h =
      same_started l told b.tasks (after_call o b (Loses conn)).tasks (settled_tasks o (drop_on conn (record b { links = at_link conn link_lost b.links; reached = 0 }))) h
  started_call o l out told b (Clears unit) fits rises lives h = same_started l told b.tasks (after_call o b (Clears unit)).tasks (settled_tasks o (record b { undue = cleared unit b.undue })) h

  -- what earlier events enabled has started
  pub has_started : (o : Opening) (l : ℕ) (out told : Bool) (b : Box) (calls : List Call) → Fits t l (items_in (deeds_from o b calls)) → Rises t told (items_in (deeds_from o b calls)) → Lives t l out b.tasks → HasStarted l told b.tasks
      → HasStarted (l + leavings t (items_in (deeds_from o b calls))) (told || list_any (enabled_in t) (deeds_from o b calls)) (after_calls o b calls).tasks
  has_started o l out told b [] fits rises lives h = same_started l told b.tasks b.tasks refl h
  has_started o l out told b (call ∷ calls) fits rises lives h =
      let now : List (List Effect) = items_of_call call in
      let ds : List Deed = deeds_from o (after_call o b call) calls in
      let then : List (List Effect) = items_in ds in
      let woken : Bool = list_any (enables t) (effects_taken call) in
      let counted : leavings t (now ++ then) ≡ leavings t now + leavings t then = leavings-append t now then in
      let z : (l + leavings t now) + leavings t then ≡ l + leavings t (now ++ then) = omega (arith, counted) in
      let k : HasStarted ((l + leavings t now) + leavings t then) ((told || woken) || list_any (enabled_in t) ds) (after_calls o (after_call o b call) calls).tasks =
      has_started o (l + leavings t now) (out || list_any (is_taken_out_in t) now) (told || woken) (after_call o b call) calls (fits-second t l now then fits)
      (subst (λ v. Rises t (told || v) then) (wakes_call call) (rises-second t told now then rises))
      (lives_call t o l out b call (fits-first t l now then fits) lives)
      (subst (λ v. HasStarted (l + leavings t now) (told || v) (after_call o b call).tasks) (wakes_call call) (started_call o l out told b call (fits-first t l now then fits) (rises-first t told now then rises) lives h)) in
      subst (λ v. HasStarted (l + leavings t (now ++ then)) v (after_calls o (after_call o b call) calls).tasks) (or_assoc told woken (list_any (enabled_in t) ds))
      (subst (λ n. HasStarted n ((told || woken) || list_any (enabled_in t) ds) (after_calls o (after_call o b call) calls).tasks) z k)

  -- ---- while it runs

  running_left : (ts : List Task) (r : Option Request) (tickets : List ℕ) → AreIn is_running_phase t ts → AreIn is_running_phase t (left_tasks r tickets ts)
  running_left ts (Some r) tickets h = kept t is_running_phase phase_taken_out running_out tickets ts h
  running_left ts None tickets h = kept t is_running_phase phase_completed running_completed tickets ts h

  running_items : (o : Opening) (l : ℕ) (b : Box) (items : List (List Effect)) → 1 ≤ l → Fits t l items → AreIn is_running_phase t b.tasks → AreIn is_running_phase t (after_items o b items).tasks
  running_items o l b [] some fits h = h
  running_items o l b (item ∷ items) some fits h =
      let none : entered t item ≡ 0 = ⊎_elim (λ z. z) (λ (more : 1 ≤ entered t item). absurd (omega (arith, some, fits.1.0 more))) (none_or_some (entered t item)) in
      let gone : List Task = left_tasks (executing item) (tickets_left item) b.tasks in
      running_items o (l + leaving t item) (after_item o b item) items (omega (arith, some)) fits.1.1
      (subst (AreIn is_running_phase t) (sym (item_tasks o b item))
      (kept t is_running_phase phase_enabled running_enabled (filter_map ticket_enabled item) _ (in_entered t 0 is_running_phase item gone (executing item) none (running_left b.tasks (executing item) (tickets_left item) h))))

  running_event : (o : Opening) (l : ℕ) (b : Box) (effects : List Effect) (numbers : Numbers) → 1 ≤ l → Fits t l (in_parts effects) → AreIn is_running_phase t b.tasks → AreIn is_running_phase t (after_event o b effects numbers).tasks
  running_event o l b effects numbers some fits h =
      in_map t is_running_phase is_running_phase (λ (x : Task). record x { phase = phase_told x.phase }) (after_items o b (in_parts effects)).tasks (λ x. refl) (λ x at k. running_told x.phase k) (running_items o l b (in_parts effects) some fits h)

  -- it was reported stopped by one of these calls, or runs still
  abbrev pub IsStopped : Opening → Box → List Call → Type 0
  IsStopped o b calls = Contains (deeds_from o b calls) (Stops t, Stopped true) ⊎ AreIn is_running_phase t (after_calls o b calls).tasks

  abbrev StopsNow : Opening → Box → Call → Type 0
  StopsNow o b call = ◌≡◌ {A = Deed} (call, answered o b call) (Stops t, Stopped true) ⊎ AreIn is_running_phase t (after_call o b call).tasks

  same_running : (ts us : List Task) → us ≡ ts → AreIn is_running_phase t ts → AreIn is_running_phase t us
  same_running ts us same h = subst (AreIn is_running_phase t) (sym same) h

  running_stop : (o : Opening) (b : Box) (ticket : ℕ) → AreIn is_running_phase t b.tasks → StopsNow o b (Stops ticket)
  running_stop o b ticket h = by_running (is_running b ticket) refl
    where
      stopped : Box
      stopped = in_phase phase_stopped (ticket ∷ []) b

      after : Bool → Box
      after v = cond v (settle o stopped) b

      other : (ticket == t) ≡ false → AreIn is_running_phase t (settle o stopped).tasks
      other isnt =
          same_running (map (phased phase_stopped (ticket ∷ [])) b.tasks) (settle o stopped).tasks (settled_tasks o stopped) (unturned t phase_stopped (ticket ∷ []) (ap (λ v. v || false) isnt) is_running_phase b.tasks h)

      by_ticket : (v : Bool) → (ticket == t) ≡ v → ◌≡◌ {A = Deed} (Stops ticket, Stopped true) (Stops t, Stopped true) ⊎ AreIn is_running_phase t (settle o stopped).tasks
      by_ticket true is = inl (ap (λ k. (Stops k, Stopped true)) (eqb-true ticket t is))
      by_ticket false isnt = inr (other isnt)

      by_running : (v : Bool) → is_running b ticket ≡ v → StopsNow o b (Stops ticket)
      by_running true is = subst (λ v. ◌≡◌ {A = Deed} (Stops ticket, Stopped v) (Stops t, Stopped true) ⊎ AreIn is_running_phase t (after v).tasks) (sym is) (by_ticket (ticket == t) refl)
      by_running false is = subst (λ v. ◌≡◌ {A = Deed} (Stops ticket, Stopped v) (Stops t, Stopped true) ⊎ AreIn is_running_phase t (after v).tasks) (sym is) (inr h)

  running_call : (o : Opening) (l : ℕ) (b : Box) (call : Call) → 1 ≤ l → Fits t l (items_of_call call) → AreIn is_running_phase t b.tasks → StopsNow o b call
  running_call o l b (Takes effects numbers) some fits h = inr (running_event o l b effects numbers some fits h)
  running_call o l b (Puts p) some fits h = inr (same_running b.tasks (after_call o b (Puts p)).tasks (put_tasks o b p) h)
  running_call o l b (Stops ticket) some fits h = running_stop o b ticket h
  running_call o l b (Nexts conn) some fits h =
      inr (⊎_elim (λ (k : Hand o b conn). same_running b.tasks (after_call o b (Nexts conn)).tasks (ap (λ (x : Box). x.tasks) k.after_is) h)
      (λ (k : Idle o b conn). same_running b.tasks (after_call o b (Nexts conn)).tasks (ap (λ (x : Box). x.tasks) k.after_is) h) (next o b conn))
  running_call o l b (Writes conn) some fits h = inr (same_running b.tasks (after_call o b (Writes conn)).tasks (settled_tasks o (record b { links = at_link conn one_written b.links })) h)
  running_call o l b (Hears conn exp_stat_sn tag) some fits h =
      inr (same_running b.tasks (after_call o b (Hears conn exp_stat_sn tag)).tasks (settled_tasks o (record b { links = at_link conn (link_heard exp_stat_sn tag) b.links })) h)
  running_call o l b (Joins conn stat_sn) some fits h =
      inr (cond_both (may_join b conn) (record b { links = at_link conn (link_joined stat_sn) b.links }) b (λ (x : Box). AreIn is_running_phase t x.tasks) (λ is. h) (λ is. h))
  running_call o l b (Loses conn) some fits h =
      inr (same_running b.tasks (after_call o b (Loses conn)).tasks (settled_tasks o (drop_on conn (record b { links = at_link conn link_lost b.links; reached = 0 }))) h)
  running_call o l b (Clears unit) some fits h = inr (same_running b.tasks (after_call o b (Clears unit)).tasks (settled_tasks o (record b { undue = cleared unit b.undue })) h)

  pub running_since : (o : Opening) (l : ℕ) (b : Box) (calls : List Call) → 1 ≤ l → Fits t l (items_in (deeds_from o b calls)) → AreIn is_running_phase t b.tasks → IsStopped o b calls
  running_since o l b [] some fits h = inr h
  running_since o l b (call ∷ calls) some fits h =
      let now : List (List Effect) = items_of_call call in
      let b' : Box = after_call o b call in
      let ds : List Deed = deeds_from o b' calls in
      let d : Deed = (call, answered o b call) in
      ⊎_elim
      (λ (here : ◌≡◌ {A = Deed} d (Stops t, Stopped true)). inl (contains_head (Stops t, Stopped true) d ds here))
      (λ (runs : AreIn is_running_phase t b'.tasks).
      ⊎_elim (λ (later : Contains ds (Stops t, Stopped true)). inl (contains_later (Stops t, Stopped true) d ds later)) (λ still. inr still)
      (running_since o (l + leavings t now) b' calls (omega (arith, some)) (fits-second t l now (items_in ds) fits) runs))
      (running_call o l b call some (fits-first t l now (items_in ds) fits) h)
