-- The phases of a box's commands: one that is live is dormant just where it wasn't free yet, whatever calls come.
use Rattle.std.proofs.Common.{◌≡◌, ℕ, ◌+◌, ◌<◌, ◌≤◌, ◌==◌, ◌&&◌, ◌||◌, ⊎_elim, inl, inr, not, cond, Bool, true, false, List, [], ◌∷◌, ◌++◌, length, map, filter_map, Option, Some, None, refl, ap, sym, subst, ◌∙◌, arith, length-append, lt-ltb, nat_lt, ne_eqb}
use Rattle.std.specs.List.{flat_map, list_all, list_any}
use Rattle.std.proofs.lemmas.Bool.{cond_both, eq-eqb, eqb-true, false≢true}
use Rattle.std.proofs.lemmas.List.{append-nil}
use Rattle.std.proofs.lemmas.List.Folds.{list_any-append}
use Rattle.iscsi_wire.specs.declared.request.Request.{Request}
use Rattle.iscsi_rules.specs.declared.effect.Effect.{Effect}
use Rattle.iscsi_rules.specs.declared.effect.Effect.TheVariants.{Enable}
use Rattle.iscsi_rules.specs.declared.event.Event.{Event}
use Rattle.iscsi_rules.specs.rules.Run.{effects_of_item, effects_of_mark, entry_of, newly_enabled}
use Rattle.iscsi_rules.specs.rules.Run as history
use Rattle.iscsi_rules.specs.rules.Settings.{Setting}
use Rattle.iscsi_rules.specs.rules.Trace.{Admits, ClosesConn, ClosesSession, Command, Delivers, Empties, Enters, Executes, Ignores, Leaves, Mark, Sends, Trace, Voids, Waits, are_apart, entered, enters, has, is_among, leaves_ticket, live, was_free}
use Rattle.iscsi_rules.proofs.traces.ApartLemmas.{apart-push}
use Rattle.iscsi_rules.proofs.general.BoolLemmas.{and_parts, not_true, or_false, or_none}
use Rattle.iscsi_rules.proofs.general.ElementLemmas.{In, filter-in, in-append, in-filter}
use Rattle.iscsi_rules.proofs.items.Forms.{AfterWaiting, AtArrival, AtTurn, Completed, Each, Executed, Form, HasForm, HaveForms, Ignored, Postponed, Received, Rejected, marks_of_form}
use Rattle.iscsi_rules.proofs.general.ListLemmas.{any_same, list_any-map}
use Rattle.iscsi_rules.proofs.traces.NewlyLemmas.{is_new, never_free, newly_among, was_or_new}
use Rattle.iscsi_rules.proofs.promises.NumberingLemmas.{to_list}
use Rattle.iscsi_rules.proofs.items.TouchLemmas.{EntersNext, entering_in, entering_next, enters_form}
use Rattle.iscsi_outbox_rules.specs.rules.Boxes.{Box, Completed as CompletedPhase, Dormant, Fresh, Gone, Phase, Running, Started, Task}
use Rattle.iscsi_outbox_rules.specs.rules.Calls.{Call, Opening, Takes}
use Rattle.iscsi_outbox_rules.specs.rules.Items.{after_item, executing, phase_completed, phase_enabled, phase_taken_out, phase_told, task_entered, ticket_enabled, tickets_left}
use Rattle.iscsi_outbox_rules.specs.rules.Run.{after_call, phase_stopped}
use Rattle.iscsi_outbox_rules.specs.rules.Words.{contains}
use Rattle.iscsi_outbox_rules.proofs.commands.TaskLives.{entered_tasks, item_tasks, left_tasks}
use Rattle.iscsi_outbox_rules.proofs.general.TaskWalks.{phased}
use Rattle.iscsi_outbox_law.specs.private.Pairs.{EachOf}
use Rattle.iscsi_outbox_law.proofs.general.PairLemmas.{each-append, each-weaken}
use Rattle.iscsi_outbox_law.proofs.invariants.SoundCalls.{TakesNone}
use Rattle.iscsi_ffi_law.proofs.arrivals.Asked.{any_nothing}
use Rattle.iscsi_ffi_law.proofs.commands.Commands.{one_command}
use Rattle.iscsi_ffi_law.proofs.events.EventRules.{item_enabled}
use Rattle.iscsi_ffi_law.proofs.outbox_invariants.FitFollows.{ItemWalk, by_event}
use Rattle.iscsi_ffi_law.proofs.outbox_invariants.FitLives.{Moved, SameHomes, Same, Stopping, home_of_command, home_of_task, homes_call, homes_empty, homes_item, moved}
use Rattle.iscsi_ffi_law.proofs.aborts.LeavingCommands.{among_tickets}
use Rattle.iscsi_ffi_law.proofs.general.Members.{any_in, each_in, in_any}

abbrev pub is_dormant_phase : Phase → Bool
is_dormant_phase Dormant = true
is_dormant_phase _ = false

abbrev pub is_started_phase : Phase → Bool
is_started_phase Started = true
is_started_phase _ = false

-- the command with this ticket is in such a phase
abbrev pub is_at : ℕ → (Phase → Bool) → List Task → Bool
is_at k test ts = list_any (λ (x : Task). x.ticket == k && test x.phase) ts

-- ---- as commands come to other phases

pub phased_other : (change : Phase → Phase) (test : Phase → Bool) (tickets : List ℕ) (k : ℕ) → contains tickets k ≡ false → (ts : List Task) → is_at k test (map (phased change tickets) ts) ≡ is_at k test ts
phased_other change test tickets k other ts = list_any-map (λ (x : Task). x.ticket == k && test x.phase) (phased change tickets) ts ∙ all_same ts
  where
    one_same : (t : Task) (v w : Bool) → (t.ticket == k) ≡ v → contains tickets t.ticket ≡ w → ((phased change tickets t).ticket == k && test (phased change tickets t).phase) ≡ (t.ticket == k && test t.phase)
    one_same t v false is apart = ap (λ x. (cond x (record t { phase = change t.phase }) t).ticket == k && test (cond x (record t { phase = change t.phase }) t).phase) apart
    one_same t true true is among = absurd (false≢true (sym other ∙ ap (contains tickets) (sym (eqb-true t.ticket k is)) ∙ among))
    one_same t false true is among =
        ap (λ x. (cond x (record t { phase = change t.phase }) t).ticket == k && test (cond x (record t { phase = change t.phase }) t).phase) among
        ∙ ap (λ x. x && test (change t.phase)) is ∙ sym (ap (λ x. x && test t.phase) is)

    all_same : (us : List Task) → list_any (λ (x : Task). (phased change tickets x).ticket == k && test (phased change tickets x).phase) us ≡ is_at k test us
    all_same [] = refl
    all_same (u ∷ us) = ap (λ v. v || list_any (λ (x : Task). (phased change tickets x).ticket == k && test (phased change tickets x).phase) us) (one_same u (u.ticket == k) (contains tickets u.ticket) refl refl) ∙ ap (λ v. (u.ticket == k && test u.phase) || v) (all_same us)

pub phased_same : (change : Phase → Phase) (test : Phase → Bool) (tickets : List ℕ) (k : ℕ) → ((p : Phase) → test (change p) ≡ test p) → (ts : List Task) → is_at k test (map (phased change tickets) ts) ≡ is_at k test ts
phased_same change test tickets k same ts =
    list_any-map (λ (x : Task). x.ticket == k && test x.phase) (phased change tickets) ts
    ∙ any_same (λ (x : Task). (phased change tickets x).ticket == k && test (phased change tickets x).phase) (λ (x : Task). x.ticket == k && test x.phase) ts
    (λ x. cond_both (contains tickets x.ticket) (record x { phase = change x.phase }) x (λ (y : Task). (y.ticket == k && test y.phase) ≡ (x.ticket == k && test x.phase)) (λ is. ap (λ v. (x.ticket == k) && v) (same x.phase)) (λ isnt. refl))

pub phased_in : (change : Phase → Phase) (test : Phase → Bool) (tickets : List ℕ) (k : ℕ) → contains tickets k ≡ true → (ts : List Task) → is_at k test (map (phased change tickets) ts) ≡ is_at k (λ p. test (change p)) ts
phased_in change test tickets k among ts = list_any-map (λ (x : Task). x.ticket == k && test x.phase) (phased change tickets) ts ∙ all_same ts
  where
    one_in : (t : Task) (v w : Bool) → (t.ticket == k) ≡ v → contains tickets t.ticket ≡ w → ((phased change tickets t).ticket == k && test (phased change tickets t).phase) ≡ (t.ticket == k && test (change t.phase))
    one_in t v true is there = ap (λ x. (cond x (record t { phase = change t.phase }) t).ticket == k && test (cond x (record t { phase = change t.phase }) t).phase) there
    one_in t true false is apart = absurd (false≢true (sym apart ∙ ap (contains tickets) (eqb-true t.ticket k is) ∙ among))
    one_in t false false is apart =
        ap (λ x. (cond x (record t { phase = change t.phase }) t).ticket == k && test (cond x (record t { phase = change t.phase }) t).phase) apart
        ∙ ap (λ x. x && test t.phase) is ∙ sym (ap (λ x. x && test (change t.phase)) is)

    all_same : (us : List Task) → list_any (λ (x : Task). (phased change tickets x).ticket == k && test (phased change tickets x).phase) us ≡ is_at k (λ p. test (change p)) us
    all_same [] = refl
    all_same (u ∷ us) = ap (λ v. v || list_any (λ (x : Task). (phased change tickets x).ticket == k && test (phased change tickets x).phase) us) (one_in u (u.ticket == k) (contains tickets u.ticket) refl refl) ∙ ap (λ v. (u.ticket == k && test (change u.phase)) || v) (all_same us)

all_in : {A : Type 0} (p : A → Bool) (xs : List A) → ((x : A) → In x xs → p x ≡ true) → list_all p xs ≡ true
all_in p [] each = refl
all_in p (x ∷ xs) each = ap (λ v. v && list_all p xs) (each x (inl refl)) ∙ all_in p xs (λ y at. each y (inr at))

-- no phase passes
pub never_at : (k : ℕ) (test : Phase → Bool) → ((p : Phase) → test p ≡ false) → (ts : List Task) → is_at k test ts ≡ false
never_at k test never ts = any_nothing (λ (x : Task). x.ticket == k && test x.phase) ts (λ x there. ap (λ v. (x.ticket == k) && v) (never x.phase) ∙ none (x.ticket == k))
  where
    none : (v : Bool) → (v && false) ≡ false
    none true = refl
    none false = refl

-- ---- as commands enter

new_tasks : (o : Setting) (t : Trace) (q : Request) (k : ℕ) (test : Phase → Bool) (ms : List Mark) (cs : List Command)
    → is_at k test (filter_map (task_entered q) (flat_map (effects_of_mark o t) ms ++ map (λ (c : Command). Enable c.ticket c.unit) cs)) ≡ (is_among k (filter_map enters ms) && test Dormant)
new_tasks o t q k test [] cs = none cs
  where
    none : (ds : List Command) → is_at k test (filter_map (task_entered q) (map (λ (c : Command). Enable c.ticket c.unit) ds)) ≡ false
    none [] = refl
    none (d ∷ ds) = none ds
new_tasks o t q k test (Admits a ∷ ms) cs = new_tasks o t q k test ms cs
new_tasks o t q k test (Delivers a ∷ ms) cs = new_tasks o t q k test ms cs
new_tasks o t q k test (Executes a ∷ ms) cs = new_tasks o t q k test ms cs
new_tasks o t q k test (Voids n ∷ ms) cs = new_tasks o t q k test ms cs
new_tasks o t q k test (Empties a ∷ ms) cs = new_tasks o t q k test ms cs
new_tasks o t q k test (Waits a ∷ ms) cs = new_tasks o t q k test ms cs
new_tasks o t q k test (Leaves d ∷ ms) cs = new_tasks o t q k test ms cs
new_tasks o t q k test (Enters d ∷ ms) cs = ap (λ v. (d.ticket == k && test Dormant) || v) (new_tasks o t q k test ms cs) ∙ both (d.ticket == k) (is_among k (filter_map enters ms)) (test Dormant)
  where
    both : (u v w : Bool) → ((u && w) || (v && w)) ≡ ((u || v) && w)
    both true v true = refl
    both true true false = refl
    both true false false = refl
    both false v w = refl
new_tasks o t q k test (Sends conn reply ∷ ms) cs = new_tasks o t q k test ms cs
new_tasks o t q k test (ClosesConn conn ∷ ms) cs = new_tasks o t q k test ms cs
new_tasks o t q k test (ClosesSession ∷ ms) cs = new_tasks o t q k test ms cs
new_tasks o t q k test (Ignores why ∷ ms) cs = new_tasks o t q k test ms cs

-- what leaves
left_shown : (o : Setting) (t : Trace) (k : ℕ) (ms : List Mark) (cs : List Command) → contains (tickets_left (flat_map (effects_of_mark o t) ms ++ map (λ (c : Command). Enable c.ticket c.unit) cs)) k ≡ list_any (leaves_ticket k) ms
left_shown o t k [] cs = none cs
  where
    none : (ds : List Command) → contains (tickets_left (map (λ (c : Command). Enable c.ticket c.unit) ds)) k ≡ false
    none [] = refl
    none (d ∷ ds) = none ds
left_shown o t k (Admits a ∷ ms) cs = left_shown o t k ms cs
left_shown o t k (Delivers a ∷ ms) cs = left_shown o t k ms cs
left_shown o t k (Executes a ∷ ms) cs = left_shown o t k ms cs
left_shown o t k (Voids n ∷ ms) cs = left_shown o t k ms cs
left_shown o t k (Empties a ∷ ms) cs = left_shown o t k ms cs
left_shown o t k (Waits a ∷ ms) cs = left_shown o t k ms cs
left_shown o t k (Leaves d ∷ ms) cs = ap (λ v. (d.ticket == k) || v) (left_shown o t k ms cs)
left_shown o t k (Enters d ∷ ms) cs = left_shown o t k ms cs
left_shown o t k (Sends conn reply ∷ ms) cs = left_shown o t k ms cs
left_shown o t k (ClosesConn conn ∷ ms) cs = left_shown o t k ms cs
left_shown o t k (ClosesSession ∷ ms) cs = left_shown o t k ms cs
left_shown o t k (Ignores why ∷ ms) cs = left_shown o t k ms cs

pub left_by_item : (o : Setting) (t : Trace) (k : ℕ) (item : List Mark) → contains (tickets_left (effects_of_item o t item)) k ≡ list_any (leaves_ticket k) item
left_by_item o t k item = left_shown o t k item (newly_enabled o t item)

-- ---- an item

module _ (o : Opening) (now : ℕ) (t : Trace) (item : List Mark) (b : Box) (f : HasForm o.session now t item) where
  abbrev es : List Effect
  es = effects_of_item o.session t item

  -- no command enters but with a request that executes
  none_enters : executing (effects_of_item o.session t item) ≡ None → filter_map enters item ≡ []
  none_enters = subst (λ ms. executing (effects_of_item o.session t ms) ≡ None → filter_map enters ms ≡ []) (sym f.is) (by_form f.form)
    where
      by_form : (form : Form) → executing (effects_of_item o.session t (marks_of_form form)) ≡ None → filter_map enters (marks_of_form form) ≡ []
      by_form (Ignored why) none = refl
      by_form (Rejected a) none = refl
      by_form (Received a) none = refl
      by_form (Postponed a) none = refl
      by_form (Completed c status) none = refl
      by_form (Executed AtTurn a d) none = absurd (let no : ⊥ = cc in no)
      by_form (Executed AtArrival a d) none = absurd (let no : ⊥ = cc in no)
      by_form (Executed AfterWaiting a d) none = absurd (let no : ⊥ = cc in no)

  pub entered_at : (k : ℕ) (test : Phase → Bool) (ts : List Task) → is_at k test (entered_tasks (executing (effects_of_item o.session t item)) (effects_of_item o.session t item) ts) ≡ (is_at k test ts || (is_among k (filter_map enters item) && test Dormant))
  entered_at k test ts = by_request (executing es) refl
    where
      by_request : (x : Option Request) → executing (effects_of_item o.session t item) ≡ x → is_at k test (entered_tasks x (effects_of_item o.session t item) ts) ≡ (is_at k test ts || (is_among k (filter_map enters item) && test Dormant))
      by_request (Some q) is = list_any-append (λ (x : Task). x.ticket == k && test x.phase) ts (filter_map (task_entered q) es) ∙ ap (λ v. is_at k test ts || v) (new_tasks o.session t q k test item (newly_enabled o.session t item))
      by_request None is = sym (ap (λ cs. is_at k test ts || (is_among k cs && test Dormant)) (none_enters is) ∙ or_false (is_at k test ts))

  -- one that doesn't leave, before those that it enables are
  stays_at : (k : ℕ) (test : Phase → Bool) → list_any (leaves_ticket k) item ≡ false → is_at k test (entered_tasks (executing (effects_of_item o.session t item)) (effects_of_item o.session t item) (left_tasks (executing (effects_of_item o.session t item)) (tickets_left (effects_of_item o.session t item)) b.tasks))
      ≡ (is_at k test b.tasks || (is_among k (filter_map enters item) && test Dormant))
  stays_at k test stays = entered_at k test (left_tasks (executing es) (tickets_left es) b.tasks) ∙ ap (λ v. v || (is_among k (filter_map enters item) && test Dormant)) (by_request (executing es))
    where
      none : contains (tickets_left es) k ≡ false
      none = left_by_item o.session t k item ∙ stays

      by_request : (x : Option Request) → is_at k test (left_tasks x (tickets_left es) b.tasks) ≡ is_at k test b.tasks
      by_request (Some q) = phased_other phase_taken_out test (tickets_left es) k none b.tasks
      by_request None = phased_other phase_completed test (tickets_left es) k none b.tasks

  -- it is dormant still where it was, or enters, and isn't enabled
  pub dormant_item : (k : ℕ) → list_any (leaves_ticket k) item ≡ false
      → is_at k is_dormant_phase (after_item o b (effects_of_item o.session t item)).tasks ≡ (not (is_among k (newly_enabled o.session t item)) && (is_at k is_dormant_phase b.tasks || is_among k (filter_map enters item)))
  dormant_item k stays =
      ap (is_at k is_dormant_phase) (item_tasks o b es)
      ∙ by_enabled (contains (filter_map ticket_enabled es) k) refl
      ∙ ap (λ v. not v && (is_at k is_dormant_phase b.tasks || is_among k (filter_map enters item))) (ap (λ ks. contains ks k) (item_enabled o.session t item) ∙ among_tickets (newly_enabled o.session t item) k)
    where
      and_true : (v : Bool) → (v && true) ≡ v
      and_true true = refl
      and_true false = refl

      never : (p : Phase) → is_dormant_phase (phase_enabled p) ≡ false
      never Dormant = refl
      never Fresh = refl
      never Started = refl
      never CompletedPhase = refl
      never Running = refl
      never Gone = refl

      ts : List Task
      ts = entered_tasks (executing es) es (left_tasks (executing es) (tickets_left es) b.tasks)

      by_enabled : (v : Bool) → contains (filter_map ticket_enabled es) k ≡ v → is_at k is_dormant_phase (map (phased phase_enabled (filter_map ticket_enabled es)) ts) ≡ (not (contains (filter_map ticket_enabled es) k) && (is_at k is_dormant_phase b.tasks || is_among k (filter_map enters item)))
      by_enabled true is = phased_in phase_enabled is_dormant_phase (filter_map ticket_enabled es) k is ts ∙ never_at k (λ p. is_dormant_phase (phase_enabled p)) never ts
          ∙ sym (ap (λ v. not v && (is_at k is_dormant_phase b.tasks || is_among k (filter_map enters item))) is)
      by_enabled false is = phased_other phase_enabled is_dormant_phase (filter_map ticket_enabled es) k is ts ∙ stays_at k is_dormant_phase stays ∙ ap (λ v. is_at k is_dormant_phase b.tasks || v) (and_true (is_among k (filter_map enters item)))
          ∙ sym (ap (λ v. not v && (is_at k is_dormant_phase b.tasks || is_among k (filter_map enters item))) is)

  -- .. and so it is started as it was
  pub started_item : (k : ℕ) → list_any (leaves_ticket k) item ≡ false → is_at k is_started_phase (after_item o b (effects_of_item o.session t item)).tasks ≡ is_at k is_started_phase b.tasks
  started_item k stays =
      ap (is_at k is_started_phase) (item_tasks o b es)
      ∙ phased_same phase_enabled is_started_phase (filter_map ticket_enabled es) k same (entered_tasks (executing es) es (left_tasks (executing es) (tickets_left es) b.tasks))
      ∙ stays_at k is_started_phase stays ∙ ap (λ v. is_at k is_started_phase b.tasks || v) (none (is_among k (filter_map enters item))) ∙ or_false (is_at k is_started_phase b.tasks)
    where
      none : (v : Bool) → (v && false) ≡ false
      none true = refl
      none false = refl

      same : (p : Phase) → is_started_phase (phase_enabled p) ≡ is_started_phase p
      same Dormant = refl
      same Fresh = refl
      same Started = refl
      same CompletedPhase = refl
      same Running = refl
      same Gone = refl

-- ---- whatever calls come

pub record AreFreed (o : Opening) (t : Trace) (b : Box) : Type 0 where
  pub homes : SameHomes b t
  pub low : EachOf (λ (c : Command). c.ticket ≤ length (entered t)) (entered t)
  pub apart : are_apart (entered t) ≡ true
  pub units : EachOf (λ (c : Command). c.unit < o.session.units) (entered t)
  pub dormant : (c : Command) → In c (live t) → is_at c.ticket is_dormant_phase b.tasks ≡ not (was_free c t)

-- no command has a ticket that none entered with
pub none_at : (t : Trace) (b : Box) (k : ℕ) (test : Phase → Bool) → SameHomes b t → is_among k (entered t) ≡ false → is_at k test b.tasks ≡ false
none_at t b k test homes none = by_test (is_at k test b.tasks) refl
  where
    by_test : (v : Bool) → is_at k test b.tasks ≡ v → v ≡ false
    by_test false is = refl
    by_test true is =
        let x = any_in (λ (y : Task). y.ticket == k && test y.phase) b.tasks is in
        let here = in_any (λ (y : Task). y.ticket == k) b.tasks x.x x.there (and_parts (x.x.ticket == k) (test x.x.phase) x.passes).0 in
        absurd (false≢true (sym none
        ∙ sym (list_any-map (λ (y : ℕ × ℕ). y.0 == k) home_of_command (entered t))
        ∙ sym (ap (list_any (λ (y : ℕ × ℕ). y.0 == k)) homes)
        ∙ list_any-map (λ (y : ℕ × ℕ). y.0 == k) home_of_task b.tasks
        ∙ here))

beyond : (t : Trace) (k : ℕ) → EachOf (λ (c : Command). c.ticket ≤ length (entered t)) (entered t) → length (entered t) < k → is_among k (entered t) ≡ false
beyond t k low lt = any_nothing (λ (c : Command). c.ticket == k) (entered t) (λ c there. ne_eqb c.ticket k (λ same. let le : c.ticket ≤ length (entered t) = each_in (λ (d : Command). d.ticket ≤ length (entered t)) (entered t) c there low in let no : ⊥ = omega (arith, same, le, lt) in no))

module _ (o : Opening) where
  freed_item : (now : ℕ) (t : Trace) (item : List Mark) (b : Box) → HasForm o.session now t item → AreFreed o t b → AreFreed o (item ∷ t) (after_item o b (effects_of_item o.session t item))
  freed_item now t item b f h = by_entering (entering_in f.form) refl (ap (filter_map enters) f.is ∙ enters_form f.form) (entering_next o.session now t f.form f.formed)
    where
      t' : Trace
      t' = item ∷ t

      homes' : SameHomes (after_item o b (effects_of_item o.session t item)) (item ∷ t)
      homes' = homes_item o now t item b f h.homes

      lived : (c : Command) → In c (live (item ∷ t)) → In c (entered (item ∷ t)) × (list_any (leaves_ticket c.ticket) item ≡ false) × (has (leaves_ticket c.ticket) t ≡ false)
      lived c there =
          let x = in-filter (λ (d : Command). not (has (leaves_ticket d.ticket) (item ∷ t))) (entered (item ∷ t)) c there in
          let y = or_none (list_any (leaves_ticket c.ticket) item) (has (leaves_ticket c.ticket) t) (not_true (has (leaves_ticket c.ticket) (item ∷ t)) x.1) in
          (x.0, y.0, y.1)

      -- what it enables
      enabled_is : are_apart (entered (item ∷ t)) ≡ true → EachOf (λ (c : Command). c.unit < o.session.units) (entered (item ∷ t)) → (c : Command) → In c (live (item ∷ t)) → is_among c.ticket (newly_enabled o.session t item) ≡ is_new item t c
      enabled_is apart units c there =
          newly_among o.session item t c.ticket
          (all_in (λ (d : Command). nat_lt d.unit o.session.units) (live (item ∷ t)) (λ d at. let lt : d.unit < o.session.units = each_in (λ (x : Command). x.unit < o.session.units) (entered (item ∷ t)) d (lived d at).0 units in lt-ltb d.unit o.session.units lt))
          ∙ by_new (is_new item t c) refl
        where
          by_new : (v : Bool) → is_new item t c ≡ v → list_any (λ (d : Command). d.ticket == c.ticket && is_new item t d) (live (item ∷ t)) ≡ v
          by_new true is = in_any (λ (d : Command). d.ticket == c.ticket && is_new item t d) (live (item ∷ t)) c there (ap (λ v. v && is_new item t c) (eq-eqb c.ticket c.ticket refl) ∙ is)
          by_new false is = any_nothing (λ (d : Command). d.ticket == c.ticket && is_new item t d) (live (item ∷ t)) (λ d at. by_ticket d at (d.ticket == c.ticket) refl)
            where
              by_ticket : (d : Command) → In d (live (item ∷ t)) → (v : Bool) → (d.ticket == c.ticket) ≡ v → ((d.ticket == c.ticket) && is_new item t d) ≡ false
              by_ticket d at false e = ap (λ v. v && is_new item t d) e
              by_ticket d at true e = ap (λ v. v && is_new item t d) e ∙ ap (is_new item t) (one_command (entered (item ∷ t)) d c apart (lived d at).0 (lived c there).0 (eqb-true d.ticket c.ticket e)) ∙ is

      -- one that was live before
      was_there : (c : Command) → In c (entered t) → has (leaves_ticket c.ticket) t ≡ false → In c (live t)
      was_there c there lives = filter-in (λ (d : Command). not (has (leaves_ticket d.ticket) t)) (entered t) c there (ap not lives)

      settles : (n f' : Bool) → (not n && (not f' || false)) ≡ not (f' || n)
      settles true true = refl
      settles true false = refl
      settles false true = refl
      settles false false = refl

      begins : (n : Bool) → (not n && (false || true)) ≡ not (false || n)
      begins true = refl
      begins false = refl

      by_entering : (x : Option Command) → entering_in f.form ≡ x → filter_map enters item ≡ to_list (entering_in f.form) → Each (EntersNext o.session t f.form) (entering_in f.form) → AreFreed o (item ∷ t) (after_item o b (effects_of_item o.session t item))
      by_entering None is enters_are next =
          let same : entered (item ∷ t) ≡ entered t = ap (λ cs. entered t ++ cs) (enters_are ∙ ap to_list is) ∙ append-nil (entered t) in
          let apart : are_apart (entered (item ∷ t)) ≡ true = ap are_apart same ∙ h.apart in
          let units : EachOf (λ (c : Command). c.unit < o.session.units) (entered (item ∷ t)) = subst (EachOf (λ (c : Command). c.unit < o.session.units)) (sym same) h.units in
          record {
            homes = homes';
            low = subst (λ (cs : List Command). EachOf (λ (c : Command). c.ticket ≤ length cs) cs) (sym same) h.low;
            apart = apart;
            units = units;
            dormant = λ c there.
                let l = lived c there in
                dormant_item o now t item b f c.ticket l.1
                ∙ ap (λ v. not v && (is_at c.ticket is_dormant_phase b.tasks || is_among c.ticket (filter_map enters item))) (enabled_is apart units c there)
                ∙ ap (λ v. not (is_new item t c) && (v || is_among c.ticket (filter_map enters item))) (h.dormant c (was_there c (subst (In c) same l.0) l.2))
                ∙ ap (λ cs. not (is_new item t c) && (not (was_free c t) || is_among c.ticket cs)) (enters_are ∙ ap to_list is)
                ∙ settles (is_new item t c) (was_free c t) ∙ ap not (sym (was_or_new item t c));
          }
      by_entering (Some e) is enters_are next =
          let en : EntersNext o.session t f.form e = subst (Each (EntersNext o.session t f.form)) is next in
          let new : filter_map enters item ≡ e ∷ [] = enters_are ∙ ap to_list is in
          let same : entered (item ∷ t) ≡ entered t ++ e ∷ [] = ap (λ cs. entered t ++ cs) new in
          let ticket = en.next in
          let none : is_among e.ticket (entered t) ≡ false = beyond t e.ticket h.low (omega (arith, ticket)) in
          let apart : are_apart (entered (item ∷ t)) ≡ true = ap are_apart same ∙ apart-push (entered t) e h.apart none in
          let units : EachOf (λ (c : Command). c.unit < o.session.units) (entered (item ∷ t)) = subst (EachOf (λ (c : Command). c.unit < o.session.units)) (sym same) (each-append (λ (c : Command). c.unit < o.session.units) (entered t) (e ∷ []) h.units (en.below, tt)) in
          let long : length (entered t ++ e ∷ []) ≡ length (entered t) + 1 = length-append (entered t) (e ∷ []) in
          record {
            homes = homes';
            low = subst (λ (cs : List Command). EachOf (λ (c : Command). c.ticket ≤ length cs) cs) (sym same)
                (each-append (λ (c : Command). c.ticket ≤ length (entered t ++ e ∷ [])) (entered t) (e ∷ []) (each-weaken (λ (c : Command). c.ticket ≤ length (entered t)) (λ (c : Command). c.ticket ≤ length (entered t ++ e ∷ [])) (entered t) (λ c le. omega (arith, le, long)) h.low) (omega (arith, ticket, long), tt));
            apart = apart;
            units = units;
            dormant = λ c there.
                let l = lived c there in
                dormant_item o now t item b f c.ticket l.1
                ∙ ap (λ v. not v && (is_at c.ticket is_dormant_phase b.tasks || is_among c.ticket (filter_map enters item))) (enabled_is apart units c there)
                ∙ ap (λ cs. not (is_new item t c) && (is_at c.ticket is_dormant_phase b.tasks || is_among c.ticket cs)) new
                ∙ ⊎_elim
                (λ before.
                let le : c.ticket ≤ length (entered t) = each_in (λ (d : Command). d.ticket ≤ length (entered t)) (entered t) c before h.low in
                let apart_from : (e.ticket == c.ticket) ≡ false = ne_eqb e.ticket c.ticket (λ eq. let no : ⊥ = omega (arith, eq, le, ticket) in no) in
                ap (λ v. not (is_new item t c) && (is_at c.ticket is_dormant_phase b.tasks || (v || false))) apart_from
                ∙ ap (λ v. not (is_new item t c) && (v || false)) (h.dormant c (was_there c before l.2))
                ∙ settles (is_new item t c) (was_free c t) ∙ ap not (sym (was_or_new item t c)))
                (λ now_there.
                let it : e ≡ c = ⊎_elim (λ (x : e ≡ c). x) (λ no. absurd no) now_there in
                let none' : is_among c.ticket (entered t) ≡ false = ap (λ (d : Command). is_among d.ticket (entered t)) (sym it) ∙ none in
                ap (λ v. not (is_new item t c) && (is_at c.ticket is_dormant_phase b.tasks || (v || false))) (eq-eqb e.ticket c.ticket (ap (λ (d : Command). d.ticket) it))
                ∙ ap (λ v. not (is_new item t c) && (v || true)) (none_at t b c.ticket is_dormant_phase h.homes none')
                ∙ begins (is_new item t c) ∙ ap (λ v. not (v || is_new item t c)) (sym (never_free c t none')) ∙ ap not (sym (was_or_new item t c)))
                (in-append (entered t) (e ∷ []) c (subst (In c) same l.0));
          }

  freed_walk : ItemWalk o (AreFreed o)
  freed_walk = record {
    item = freed_item;
    none = λ t b h. record {
      homes = homes_empty o t b h.homes;
      low = h.low;
      apart = h.apart;
      units = h.units;
      dormant = λ c there. ap (is_at c.ticket is_dormant_phase) (item_tasks o b []) ∙ phased_other phase_enabled is_dormant_phase [] c.ticket refl (left_tasks None [] b.tasks) ∙ phased_other phase_completed is_dormant_phase [] c.ticket refl b.tasks ∙ h.dormant c there;
    };
    ends = λ t b exp max h. record {
      homes = told_homes b.tasks ∙ h.homes;
      low = h.low;
      apart = h.apart;
      units = h.units;
      dormant = λ c there.
          list_any-map (λ (x : Task). x.ticket == c.ticket && is_dormant_phase x.phase) (λ (x : Task). record x { phase = phase_told x.phase }) b.tasks
          ∙ any_same (λ (x : Task). x.ticket == c.ticket && is_dormant_phase (phase_told x.phase)) (λ (x : Task). x.ticket == c.ticket && is_dormant_phase x.phase) b.tasks (λ x. ap (λ v. (x.ticket == c.ticket) && v) (told_dormant x.phase))
          ∙ h.dormant c there;
    };
  }
    where
      told_homes : (ts : List Task) → map home_of_task (map (λ (x : Task). record x { phase = phase_told x.phase }) ts) ≡ map home_of_task ts
      told_homes [] = refl
      told_homes (x ∷ ts) = ap (λ hs. home_of_task x ∷ hs) (told_homes ts)

      told_dormant : (p : Phase) → is_dormant_phase (phase_told p) ≡ is_dormant_phase p
      told_dormant Dormant = refl
      told_dormant Fresh = refl
      told_dormant Started = refl
      told_dormant CompletedPhase = refl
      told_dormant Running = refl
      told_dormant Gone = refl

  pub freed_event : (now : ℕ) (t : Trace) (e : Event) (b : Box) → HaveForms o.session now t → AreFreed o t b → let entry = entry_of o.session now t e in AreFreed o (history.after_event o.session now t e) (after_call o b (Takes entry.effects entry.numbers))
  freed_event = by_event o (AreFreed o) freed_walk

  pub freed_call : (b : Box) (c : Call) (t : Trace) → TakesNone c → AreFreed o t b → AreFreed o t (after_call o b c)
  freed_call b c t none h = record {
    homes = homes_call o b c t none h.homes;
    low = h.low;
    apart = h.apart;
    units = h.units;
    dormant = λ d there. by_moved d.ticket (moved o b c none) ∙ h.dormant d there;
  }
    where
      stopped_dormant : (p : Phase) → is_dormant_phase (phase_stopped p) ≡ is_dormant_phase p
      stopped_dormant Dormant = refl
      stopped_dormant Fresh = refl
      stopped_dormant Started = refl
      stopped_dormant CompletedPhase = refl
      stopped_dormant Running = refl
      stopped_dormant Gone = refl

      by_moved : (k : ℕ) → Moved b (after_call o b c) → is_at k is_dormant_phase (after_call o b c).tasks ≡ is_at k is_dormant_phase b.tasks
      by_moved k (Same tasks) = ap (is_at k is_dormant_phase) tasks
      by_moved k (Stopping ticket tasks) = ap (is_at k is_dormant_phase) tasks ∙ phased_same phase_stopped is_dormant_phase (ticket ∷ []) k stopped_dormant b.tasks
