-- How far a command has come by what enabled it: one that an earlier event enabled has started, and runs once an abort or a
-- Logout takes it out.
use Rattle.std.proofs.Common.{◌≡◌, ℕ, ◌==◌, ◌+◌, ◌≤◌, ◌&&◌, ◌||◌, ⊎_elim, cond, Bool, true, false, List, [], ◌∷◌, ◌++◌, map, filter_map, count_by, Option, Some, None, refl, ap, sym, subst, ◌∙◌, arith}
use Rattle.std.specs.List.{list_any, flat_map, cons_option}
use Rattle.std.proofs.lemmas.Bool.{cond_both, false≢true}
use Rattle.std.proofs.lemmas.List.{append_assoc}
use Rattle.std.proofs.lemmas.List.Elements.{filter_map-append, filter-append}
use Rattle.std.proofs.lemmas.List.Folds.{list_any-append}
use Rattle.std.proofs.lemmas.List.Sums.{sum_by-append}
use Rattle.iscsi_wire.specs.declared.request.Request.{Request}
use Rattle.iscsi_rules.specs.declared.effect.Effect.{Effect}
use Rattle.iscsi_rules.specs.declared.effect.Effect.TheVariants.{Deliver, Immediate, Wait, Void, Empty, Enter, Enable, Leave, Send, CloseConn, CloseSession, Ignore}
use Rattle.iscsi_rules.specs.declared.effect.Numbers.{Numbers}
use Rattle.iscsi_rules.specs.declared.entry.Entry.{Entry}
use Rattle.iscsi_rules.specs.rules.Run.{run_of}
use Rattle.iscsi_rules.specs.promises.Lives.{names_ticket, ticket_entered, tickets_entered, life_of, is_life}
use Rattle.iscsi_rules.specs.promises.Order.{in_parts}
use Rattle.iscsi_rules.proofs.general.BoolLemmas.{or_none}
use Rattle.iscsi_rules.proofs.promises.LifeTheorem.{starts_once}
use Rattle.iscsi_outbox_rules.specs.rules.Calls.{Opening, Call}
use Rattle.iscsi_outbox_rules.specs.rules.Boxes.{Phase, Task, Box}
use Rattle.iscsi_outbox_rules.specs.rules.Words.{contains, is_live_phase, is_running_phase}
use Rattle.iscsi_outbox_rules.specs.rules.Items.{executing, tickets_left, ticket_enabled, phase_taken_out, phase_completed, phase_enabled, phase_told, task_entered, after_item, after_items, after_event}
use Rattle.iscsi_outbox_rules.specs.rules.Run.{opened}
use Rattle.iscsi_outbox_rules.specs.promises.Deeds.{deeds_of, items_in, FollowsSession}
use Rattle.iscsi_outbox_rules.specs.promises.Scope.{is_taken_out_in}
use Rattle.iscsi_outbox_rules.specs.promises.Still.{enables}
use Rattle.iscsi_outbox_rules.proofs.general.EachLemmas.{each-append, each-weaken}
use Rattle.iscsi_outbox_rules.proofs.order.SentLemmas.{items_logged}
use Rattle.iscsi_outbox_rules.proofs.commands.TicketLemmas.{log_whole, entered, entries, enters_once, none_of, none_or_some, count_entering}
use Rattle.iscsi_outbox_rules.proofs.commands.LeaveLemmas.{leaving, leavings}
use Rattle.iscsi_outbox_rules.proofs.general.TaskWalks.{phased}
use Rattle.iscsi_outbox_rules.proofs.commands.TaskRuns.{AreIn}
use Rattle.iscsi_outbox_rules.proofs.commands.TaskPhases.{is_started_phase, is_awake_phase, Keeps, no, started_enabled, awake_enabled, running_enabled, running_told, started_told, woken_live, awake_told, started_out}
use Rattle.iscsi_outbox_rules.proofs.commands.TaskFits.{Fits, before_entry}
use Rattle.iscsi_outbox_rules.proofs.commands.TaskLives.{or_false, or_assoc, left_tasks, entered_tasks, item_tasks, phased_ticket, counted_in, uncounted, taken_by, Lives, in_map, unturned, lives_left, lives_entered, lives_item}

or_split : {A : Type 0} (u v : Bool) → (u || v) ≡ true → (u ≡ true → A) → (v ≡ true → A) → A
or_split true v h f g = f refl
or_split false v h f g = g h

and_left : (u v : Bool) → (u && v) ≡ true → u ≡ true
and_left true v h = refl
and_left false v h = no h

module _ (t : ℕ) where
  abbrev pub wakes : List Effect → Bool
  wakes item = list_any (enables t) item

  -- ---- a command is enabled after it entered

  abbrev pub Rises : Bool → List (List Effect) → Type 0
  Rises w [] = Unit {0}
  Rises w (item ∷ items) = (1 ≤ entered t item → w ≡ false) × Rises (w || wakes item) items

  pub rises-first : (w : Bool) (xs ys : List (List Effect)) → Rises w (xs ++ ys) → Rises w xs
  rises-first w [] ys h = tt
  rises-first w (x ∷ xs) ys h = (h.0, rises-first (w || wakes x) xs ys h.1)

  pub rises-second : (w : Bool) (xs ys : List (List Effect)) → Rises w (xs ++ ys) → Rises (w || list_any wakes xs) ys
  rises-second w [] ys h = subst (λ v. Rises v ys) (sym (or_false w)) h
  rises-second w (x ∷ xs) ys h = subst (λ v. Rises v ys) (or_assoc w (wakes x) (list_any wakes xs)) (rises-second (w || wakes x) xs ys h.1)

  unwoken : (es : List Effect) → life_of t es ≡ [] → wakes es ≡ false
  unwoken [] h = refl
  unwoken (e ∷ es) h = by_effect e (unwoken es) h
    where
      named : (v : Bool) (x : Effect) → cond v (x ∷ life_of t es) (life_of t es) ≡ [] → (v ≡ false) × (life_of t es ≡ [])
      named true x k = absurd cc
      named false x k = (refl, k)

      by_effect : (x : Effect) → (life_of t es ≡ [] → wakes es ≡ false) → life_of t (x ∷ es) ≡ [] → wakes (x ∷ es) ≡ false
      by_effect (Deliver r) rest k = rest k
      by_effect (Immediate r) rest k = rest k
      by_effect (Wait r) rest k = rest k
      by_effect (Void n) rest k = rest k
      by_effect (Empty n) rest k = rest k
      by_effect (Enter ticket u attr) rest k = rest (named (ticket == t) (Enter ticket u attr) k).1
      by_effect (Enable ticket u) rest k = let parts = named (ticket == t) (Enable ticket u) k in ap (λ v. v || wakes es) parts.0 ∙ rest parts.1
      by_effect (Leave ticket u) rest k = rest (named (ticket == t) (Leave ticket u) k).1
      by_effect (Send conn stat_sn reply) rest k = rest k
      by_effect (CloseConn conn) rest k = rest k
      by_effect CloseSession rest k = rest k
      by_effect (Ignore why) rest k = rest k

  rises_from : (seen : List Effect) (items : List (List Effect)) → is_life (life_of t (seen ++ flat_map (λ (es : List Effect). es) items)) ≡ true → entered t seen + entries t items ≤ 1 → Rises (wakes seen) items
  rises_from seen [] life once = tt
  rises_from seen (item ∷ items) life once =
      let counted : entered t (seen ++ item) ≡ entered t seen + entered t item =
      ap (count_by (λ k. k == t)) (filter_map-append ticket_entered seen item) ∙ sum_by-append (λ k. cond (k == t) 1 0) (tickets_entered seen) (tickets_entered item) in
      let more : Rises (wakes (seen ++ item)) items = rises_from (seen ++ item) items (ap (λ es. is_life (life_of t es)) (append_assoc seen item rest) ∙ life) (omega (arith, once, counted)) in
      (fresh, subst (λ v. Rises v items) (list_any-append (enables t) seen item) more)
    where
      rest : List Effect
      rest = flat_map (λ (es : List Effect). es) items

      fresh : 1 ≤ entered t item → wakes seen ≡ false
      fresh some =
          let parted : is_life (life_of t seen ++ life_of t (item ++ rest)) ≡ true = ap is_life (sym (filter-append (names_ticket t) seen (item ++ rest))) ∙ life in
          unwoken seen (before_entry t seen (life_of t (item ++ rest)) parted (omega (arith, once, some))).1

  pub rises_all : (o : Opening) (cs : List Call) → FollowsSession o cs → Rises false (items_in (deeds_of o cs))
  rises_all o cs follows =
      let log : List Entry = run_of o.session follows.0 in
      let all : List (List Effect) = items_in (deeds_of o cs) in
      let same : all ≡ flat_map (λ (e : Entry). in_parts e.effects) log = items_logged o (opened o) cs ∙ ap (flat_map (λ (e : Entry). in_parts e.effects)) follows.1 in
      let life : is_life (life_of t (flat_map (λ (es : List Effect). es) all)) ≡ true =
      ap (λ es. is_life (life_of t es)) (ap (flat_map (λ (es : List Effect). es)) same ∙ log_whole log) ∙ (starts_once o.session follows.0).lives t in
      let once : 0 + entries t all ≤ 1 = omega (arith, enters_once t o cs follows) in
      rises_from [] all life once

  -- ---- phases

  -- the ticket left `l` times; `told` says whether an earlier event enabled it, `woken` whether this one did, and `ran` whether
  -- it left after it was told
  pub record Woken (l : ℕ) (told woken ran : Bool) (ts : List Task) : Type 0 where
    pub fits : ran ≡ true → 1 ≤ l
    pub started : told ≡ true → l ≡ 0 → AreIn is_started_phase t ts
    pub awake : woken ≡ true → l ≡ 0 → AreIn is_awake_phase t ts
    pub runs : ran ≡ true → AreIn is_running_phase t ts

  pub kept : (among : Phase → Bool) (change : Phase → Phase) → Keeps among change → (tickets : List ℕ) (ts : List Task) → AreIn among t ts → AreIn among t (map (phased change tickets) ts)
  kept among change keeps tickets ts h =
      in_map t among among (phased change tickets) ts (phased_ticket change tickets)
      (λ x at k. cond_both (contains tickets x.ticket) (record x { phase = change x.phase }) x (λ (y : Task). among y.phase ≡ true) (λ is. keeps x.phase k) (λ is. k)) h

  pub turn : (p q : Phase → Bool) (change : Phase → Phase) → ((x : Phase) → p x ≡ true → q (change x) ≡ true) → (tickets : List ℕ) → contains tickets t ≡ true → (ts : List Task) → AreIn p t ts → AreIn q t (map (phased change tickets) ts)
  turn p q change turns tickets is ts h =
      in_map t p q (phased change tickets) ts (phased_ticket change tickets)
      (λ x at k. ap (λ v. q (cond v (record x { phase = change x.phase }) x).phase) (ap (contains tickets) at ∙ is) ∙ turns x.phase k) h

  others_leave : (l : ℕ) (told woken ran : Bool) (r : Option Request) (tickets : List ℕ) (ts : List Task) → contains tickets t ≡ false → Woken l told woken ran ts → Woken l told woken ran (left_tasks r tickets ts)
  others_leave l told woken ran (Some r) tickets ts isnt h = record {
    fits = h.fits;
    started = λ is z. unturned t phase_taken_out tickets isnt is_started_phase ts (h.started is z);
    awake = λ is z. unturned t phase_taken_out tickets isnt is_awake_phase ts (h.awake is z);
    runs = λ is. unturned t phase_taken_out tickets isnt is_running_phase ts (h.runs is);
  }
  others_leave l told woken ran None tickets ts isnt h = record {
    fits = h.fits;
    started = λ is z. unturned t phase_completed tickets isnt is_started_phase ts (h.started is z);
    awake = λ is z. unturned t phase_completed tickets isnt is_awake_phase ts (h.awake is z);
    runs = λ is. unturned t phase_completed tickets isnt is_running_phase ts (h.runs is);
  }

  it_leaves : (l n : ℕ) (told woken ran : Bool) (r : Option Request) (tickets : List ℕ) (ts : List Task) → contains tickets t ≡ true → 1 ≤ n → l + n ≤ 1 → Woken l told woken ran ts
      → Woken (l + n) told woken (ran || (told && taken_by t r tickets)) (left_tasks r tickets ts)
  it_leaves l n told woken ran r tickets ts is some once h = record {
    fits = λ e. omega (arith, some);
    started = λ e z. absurd (omega (arith, some, z));
    awake = λ e z. absurd (omega (arith, some, z));
    runs = λ e. or_split ran (told && taken_by t r tickets) e (λ ran'. let before : 1 ≤ l = h.fits ran' in absurd (omega (arith, before, some, once))) (λ both. by_request r both);
  }
    where
      by_request : (x : Option Request) → (told && taken_by t x tickets) ≡ true → AreIn is_running_phase t (left_tasks x tickets ts)
      by_request (Some q) both = turn is_started_phase is_running_phase phase_taken_out started_out tickets is ts (h.started (and_left told (contains tickets t) both) (omega (arith, some, once)))
      by_request None both = absurd (never told both)
        where
          never : (v : Bool) → (v && false) ≡ true → ⊥
          never true e = false≢true e
          never false e = false≢true e

  untaken : (told : Bool) (r : Option Request) (tickets : List ℕ) → contains tickets t ≡ false → (told && taken_by t r tickets) ≡ false
  untaken true (Some r) tickets isnt = isnt
  untaken true None tickets isnt = refl
  untaken false r tickets isnt = refl

  recounted : (l k : ℕ) (told woken ran v : Bool) (ts : List Task) → l ≡ k → ran ≡ v → Woken l told woken ran ts → Woken k told woken v ts
  recounted l k told woken ran v ts same is h = subst (λ m. Woken m told woken v ts) same (subst (λ w. Woken l told woken w ts) is h)

  woken_left : (l : ℕ) (told woken ran : Bool) (r : Option Request) (item : List Effect) (ts : List Task) → l + leaving t item ≤ 1 → Woken l told woken ran ts
      → Woken (l + leaving t item) told woken (ran || (told && taken_by t r (tickets_left item))) (left_tasks r (tickets_left item) ts)
  woken_left l told woken ran r item ts once h =
      elim (contains (tickets_left item) t) as (λ v. contains (tickets_left item) t ≡ v → Woken (l + leaving t item) told woken (ran || (told && taken_by t r (tickets_left item))) (left_tasks r (tickets_left item) ts)) [
        | true ↦ λ is. it_leaves l (leaving t item) told woken ran r (tickets_left item) ts is (counted_in t (tickets_left item) is) once h
        | false ↦ λ isnt.
            let none : leaving t item ≡ 0 = uncounted t (tickets_left item) isnt in
            recounted l (l + leaving t item) told woken ran (ran || (told && taken_by t r (tickets_left item))) (left_tasks r (tickets_left item) ts) (omega (arith, none))
            (sym (ap (λ v. ran || v) (untaken told r (tickets_left item) isnt) ∙ or_false ran)) (others_leave l told woken ran r (tickets_left item) ts isnt h)
      ] refl

  woken_entered : (l : ℕ) (told woken ran : Bool) (r : Option Request) (item : List Effect) (ts : List Task) → (1 ≤ entered t item → l ≡ 0) → (1 ≤ entered t item → (told || woken) ≡ false) → Woken l told woken ran ts
      → Woken l told woken ran (entered_tasks r item ts)
  woken_entered l told woken ran None item ts fresh asleep h = h
  woken_entered l told woken ran (Some r) item ts fresh asleep h = ⊎_elim others itself (none_or_some (entered t item))
    where
      new : List Task
      new = filter_map (task_entered r) item

      both : (among : Phase → Bool) → entered t item ≡ 0 → AreIn among t ts → AreIn among t (ts ++ new)
      both among none old =
          each-append (λ (x : Task). x.ticket ≡ t → among x.phase ≡ true) ts new old
          (each-weaken (λ (x : Task). x.ticket ≡ t → ⊥) (λ (x : Task). x.ticket ≡ t → among x.phase ≡ true) new (λ x none' is. absurd (none' is)) (none_of t new (count_entering t r item ∙ none)))

      others : entered t item ≡ 0 → Woken l told woken ran (ts ++ new)
      others none = record {
        fits = h.fits;
        started = λ is z. both is_started_phase none (h.started is z);
        awake = λ is z. both is_awake_phase none (h.awake is z);
        runs = λ is. both is_running_phase none (h.runs is);
      }

      itself : 1 ≤ entered t item → Woken l told woken ran (ts ++ new)
      itself some =
          let parts = or_none told woken (asleep some) in
          let none : l ≡ 0 = fresh some in
          record {
            fits = h.fits;
            started = λ is z. no (sym parts.0 ∙ is);
            awake = λ is z. no (sym parts.1 ∙ is);
            runs = λ is. let before : 1 ≤ l = h.fits is in absurd (omega (arith, before, none));
          }

  -- those that an item enables
  enabled_by : (item : List Effect) → contains (filter_map ticket_enabled item) t ≡ wakes item
  enabled_by [] = refl
  enabled_by (e ∷ item) = by_effect e (enabled_by item)
    where
      by_effect : (x : Effect) → contains (filter_map ticket_enabled item) t ≡ wakes item → contains (cons_option (ticket_enabled x) (filter_map ticket_enabled item)) t ≡ (enables t x || wakes item)
      by_effect (Deliver r) rest = rest
      by_effect (Immediate r) rest = rest
      by_effect (Wait r) rest = rest
      by_effect (Void n) rest = rest
      by_effect (Empty n) rest = rest
      by_effect (Enter ticket u attr) rest = rest
      by_effect (Enable ticket u) rest = ap (λ v. (ticket == t) || v) rest
      by_effect (Leave ticket u) rest = rest
      by_effect (Send conn stat_sn reply) rest = rest
      by_effect (CloseConn conn) rest = rest
      by_effect CloseSession rest = rest
      by_effect (Ignore why) rest = rest

  woken_enabled : (l : ℕ) (told woken ran : Bool) (item : List Effect) (ts : List Task) → (l ≡ 0 → AreIn is_live_phase t ts) → Woken l told woken ran ts
      → Woken l told (woken || wakes item) ran (map (phased phase_enabled (filter_map ticket_enabled item)) ts)
  woken_enabled l told woken ran item ts live h = record {
    fits = h.fits;
    started = λ is z. kept is_started_phase phase_enabled started_enabled (filter_map ticket_enabled item) ts (h.started is z);
    awake = λ e z.
        or_split woken (wakes item) e (λ is. kept is_awake_phase phase_enabled awake_enabled (filter_map ticket_enabled item) ts (h.awake is z))
        (λ is. turn is_live_phase is_awake_phase phase_enabled woken_live (filter_map ticket_enabled item) (enabled_by item ∙ is) ts (live z));
    runs = λ is. kept is_running_phase phase_enabled running_enabled (filter_map ticket_enabled item) ts (h.runs is);
  }

  -- ---- an event

  woken_item : (o : Opening) (l : ℕ) (out told woken ran : Bool) (b : Box) (item : List Effect) → l + leaving t item ≤ 1 → (1 ≤ entered t item → l + leaving t item ≡ 0) → (1 ≤ entered t item → (told || woken) ≡ false)
      → Lives t l out b.tasks → Woken l told woken ran b.tasks → Woken (l + leaving t item) told (woken || wakes item) (ran || (told && is_taken_out_in t item)) (after_item o b item).tasks
  woken_item o l out told woken ran b item once fresh asleep lives h =
      let r = executing item in
      let n : ℕ = l + leaving t item in
      let ran' : Bool = ran || (told && is_taken_out_in t item) in
      let gone : List Task = left_tasks r (tickets_left item) b.tasks in
      let come : List Task = entered_tasks r item gone in
      let live : Lives t n (out || is_taken_out_in t item) come = lives_entered t n (out || is_taken_out_in t item) r item gone fresh (lives_left t l out r item b.tasks once lives) in
      subst (Woken n told (woken || wakes item) ran') (sym (item_tasks o b item))
      (woken_enabled n told woken ran' item come live.live (woken_entered n told woken ran' r item gone fresh asleep (woken_left l told woken ran r item b.tasks once h)))

  more_ran : (ran told x y : Bool) → ((ran || (told && x)) || (told && y)) ≡ (ran || (told && (x || y)))
  more_ran true told x y = refl
  more_ran false true x y = refl
  more_ran false false x y = refl

  and_none : (v : Bool) → (v && false) ≡ false
  and_none true = refl
  and_none false = refl

  woken_items : (o : Opening) (l : ℕ) (out told woken ran : Bool) (b : Box) (items : List (List Effect)) → Fits t l items → Rises (told || woken) items → Lives t l out b.tasks → Woken l told woken ran b.tasks
      → Woken (l + leavings t items) told (woken || list_any wakes items) (ran || (told && list_any (is_taken_out_in t) items)) (after_items o b items).tasks
  woken_items o l out told woken ran b [] fits rises lives h =
      let z : l ≡ l + 0 = omega arith in
      subst (λ w. Woken (l + 0) told w (ran || (told && false)) b.tasks) (sym (or_false woken))
      (recounted l (l + 0) told woken ran (ran || (told && false)) b.tasks z (sym (ap (λ v. ran || v) (and_none told) ∙ or_false ran)) h)
  woken_items o l out told woken ran b (item ∷ items) fits rises lives h =
      let z : (l + leaving t item) + leavings t items ≡ l + (leaving t item + leavings t items) = omega arith in
      let n : ℕ = l + leaving t item in
      let woken' : Bool = woken || wakes item in
      let ran' : Bool = ran || (told && is_taken_out_in t item) in
      let b' : Box = after_item o b item in
      let later : Woken (n + leavings t items) told (woken' || list_any wakes items) (ran' || (told && list_any (is_taken_out_in t) items)) (after_items o b' items).tasks =
      woken_items o n (out || is_taken_out_in t item) told woken' ran' b' items fits.1.1 (subst (λ v. Rises v items) (or_assoc told woken (wakes item)) rises.1)
      (lives_item t o l out b item fits.0 fits.1.0 lives) (woken_item o l out told woken ran b item fits.0 fits.1.0 rises.0 lives h) in
      subst (λ w. Woken (l + (leaving t item + leavings t items)) told w (ran || (told && (is_taken_out_in t item || list_any (is_taken_out_in t) items))) (after_items o b' items).tasks) (or_assoc woken (wakes item) (list_any wakes items))
      (recounted (n + leavings t items) (l + (leaving t item + leavings t items)) told (woken' || list_any wakes items) (ran' || (told && list_any (is_taken_out_in t) items))
      (ran || (told && (is_taken_out_in t item || list_any (is_taken_out_in t) items))) (after_items o b' items).tasks z (more_ran ran told (is_taken_out_in t item) (list_any (is_taken_out_in t) items)) later)

  -- what the event enabled has started from now on
  woken_told : (l : ℕ) (told woken ran : Bool) (ts : List Task) → Woken l told woken ran ts → Woken l (told || woken) false ran (map (λ (x : Task). record x { phase = phase_told x.phase }) ts)
  woken_told l told woken ran ts h = record {
    fits = h.fits;
    started = λ e z.
        or_split told woken e (λ is. in_map t is_started_phase is_started_phase f ts (λ x. refl) (λ x at k. started_told x.phase k) (h.started is z))
        (λ is. in_map t is_awake_phase is_started_phase f ts (λ x. refl) (λ x at k. awake_told x.phase k) (h.awake is z));
    awake = λ is z. no is;
    runs = λ is. in_map t is_running_phase is_running_phase f ts (λ x. refl) (λ x at k. running_told x.phase k) (h.runs is);
  }
    where
      f : Task → Task
      f x = record x { phase = phase_told x.phase }

  pub woken_event : (o : Opening) (l : ℕ) (out told ran : Bool) (b : Box) (effects : List Effect) (numbers : Numbers) → Fits t l (in_parts effects) → Rises told (in_parts effects) → Lives t l out b.tasks → Woken l told false ran b.tasks
      → Woken (l + leavings t (in_parts effects)) (told || list_any wakes (in_parts effects)) false (ran || (told && list_any (is_taken_out_in t) (in_parts effects))) (after_event o b effects numbers).tasks
  woken_event o l out told ran b effects numbers fits rises lives h =
      woken_told (l + leavings t (in_parts effects)) told (list_any wakes (in_parts effects)) (ran || (told && list_any (is_taken_out_in t) (in_parts effects))) (after_items o b (in_parts effects)).tasks
      (woken_items o l out told false ran b (in_parts effects) fits (subst (λ v. Rises v (in_parts effects)) (sym (or_false told)) rises) lives h)
