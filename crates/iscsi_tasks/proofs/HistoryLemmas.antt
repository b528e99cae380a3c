-- What a set stands for, after each change.
use Rattle.std.proofs.Common.{◌≡◌, ℕ, suc, ◌<◌, ◌==◌, ◌||◌, not, Bool, false, List, [], ◌∷◌, ◌++◌, map, filter, get_or, set, refl, ap, sym, ◌∙◌, arith, All, eq-eqb, Some}
use Rattle.iscsi_tasks.proofs.Names.{nat_tests, Task, Member, Members, queued, looked_at, after_moment, without, entered_to, left_by}
use Rattle.iscsi_tasks.proofs.Names.{Change, Entered, Left, Gave, is_free_in, is_live, live, was_free, was_given, AllBelow, StandsFor}
use Rattle.std.proofs.lemmas.List.{map-append}
use Rattle.std.proofs.lemmas.List.Elements.{All-map, All-push, All-filter, All-nil}
use Rattle.std.proofs.lemmas.List.Folds.{list_any_at}
use Rattle.iscsi_tasks.proofs.ListLemmas.{list_any-map, filter-map}

pub tasks-looked : (list xs : List Member) → map (λ m. m.task) (map (looked_at list) xs) ≡ map (λ m. m.task) xs
tasks-looked list [] = refl
tasks-looked list (x ∷ xs) = ap (λ r. x.task ∷ r) (tasks-looked list xs)

pub queued-tasks : (xs : List Member) → map queued (map (λ m. m.task) xs) ≡ map (λ m. queued m.task) xs
queued-tasks [] = refl
queued-tasks (x ∷ xs) = ap (λ r. queued x.task ∷ r) (queued-tasks xs)

-- a member's flag after a moment
pub looked_at_enabled : (list : List Member) (now : List Task) (before : Task → Bool) → map (λ m. m.task) list ≡ now → All (λ m. m.enabled ≡ before m.task) list → All (λ m. m.enabled ≡ (is_free_in m.task now || before m.task)) (after_moment list)
looked_at_enabled list now before same flags =
    All-map (λ m. m.enabled ≡ (is_free_in m.task now || before m.task)) (looked_at list) list
    (λ k d h. let m = get_or list k d in
    let there = list_any-map (λ t. t.ticket == m.task.ticket) (λ (x : Member). x.task) list in
    let itself = list_any_at (λ (x : Member). x.task.ticket == m.task.ticket) list k d h (eq-eqb m.task.ticket m.task.ticket refl) in
    grind (arith, nat_tests, there, itself, queued-tasks list, flags k d h))

-- a ticket above all that entered is new
none_live : (task : Task) (set : List Task) → All (λ t. t.ticket < task.ticket) set → is_live task set ≡ false
none_live task [] h = refl
none_live task (t ∷ set) h = let below : t.ticket < task.ticket = h 0 t (omega arith) in let rest : is_live task set ≡ false = none_live task set (λ k d l. h (suc k) d (omega arith)) in grind (arith, nat_tests)

pub live_below : (ticket : ℕ) (h : List Change) → AllBelow ticket h → All (λ t. t.ticket < ticket) (live h)
live_below ticket [] b = All-nil (λ t. t.ticket < ticket)
live_below ticket (Entered task ∷ h) b = All-push (λ t. t.ticket < ticket) (live h) task (live_below ticket h b.1) b.0
live_below ticket (Left left ∷ h) b = All-filter (λ t. not (t.ticket == left)) (λ t. t.ticket < ticket) (live h) (live_below ticket h b)
live_below ticket (Gave given ∷ h) b = live_below ticket h b.1

pub was_free_new : (task : Task) (h : List Change) → AllBelow task.ticket h → was_free task h ≡ false
was_free_new task [] b = refl
was_free_new task (Entered t ∷ h) b = rw (none_live task (live (Entered t ∷ h)) (live_below task.ticket (Entered t ∷ h) b)) (was_free_new task h b.1)
was_free_new task (Left left ∷ h) b = rw (none_live task (live (Left left ∷ h)) (live_below task.ticket (Left left ∷ h) b)) (was_free_new task h b)
was_free_new task (Gave given ∷ h) b = was_free_new task h b.1

pub was_given_new : (ticket : ℕ) (h : List Change) → AllBelow ticket h → was_given ticket h ≡ false
was_given_new ticket [] b = refl
was_given_new ticket (Entered t ∷ h) b = was_given_new ticket h b.1
was_given_new ticket (Left t ∷ h) b = was_given_new ticket h b
was_given_new ticket (Gave given ∷ h) b = let rest : was_given ticket h ≡ false = was_given_new ticket h b.1 in grind (arith, nat_tests)

-- ---- each change

pub StandsFor-entered : (s : Members) (task : Task) (h : List Change) → StandsFor s h → AllBelow task.ticket h → StandsFor (entered_to s task) (Entered task ∷ h)
StandsFor-entered s task h st new =
    let list : List Member = s.list ++ record { task = task; enabled = false; given = false } ∷ [] in
    let same : map (λ m. m.task) list ≡ live (Entered task ∷ h) = map-append (λ m. m.task) s.list (record { task = task; enabled = false; given = false } ∷ []) ∙ ap (λ r. r ++ task ∷ []) st.tasks in
    record {
      tasks = tasks-looked list list ∙ same;
      enabled = looked_at_enabled list (live (Entered task ∷ h)) (λ t. was_free t h) same (All-push (λ m. m.enabled ≡ was_free m.task h) s.list (record { task = task; enabled = false; given = false }) st.enabled (sym (was_free_new task h new)));
      given = All-map (λ m. m.given ≡ was_given m.task.ticket h) (looked_at list) list (All-push (λ m. m.given ≡ was_given m.task.ticket h) s.list (record { task = task; enabled = false; given = false }) st.given (sym (was_given_new task.ticket h new)));
    }

pub StandsFor-left : (s : Members) (task : Task) (h : List Change) → StandsFor s h → StandsFor (left_by s (Some task)) (Left task.ticket ∷ h)
StandsFor-left s task h st =
    let list : List Member = without task.ticket s.list in
    let same : map (λ m. m.task) list ≡ live (Left task.ticket ∷ h) = sym (filter-map (λ t. not (t.ticket == task.ticket)) (λ m. m.task) s.list) ∙ ap (filter (λ t. not (t.ticket == task.ticket))) st.tasks in
    record {
      tasks = tasks-looked list list ∙ same;
      enabled = looked_at_enabled list (live (Left task.ticket ∷ h)) (λ t. was_free t h) same (All-filter (λ m. not (m.task.ticket == task.ticket)) (λ m. m.enabled ≡ was_free m.task h) s.list st.enabled);
      given = All-map (λ m. m.given ≡ was_given m.task.ticket h) (looked_at list) list (All-filter (λ m. not (m.task.ticket == task.ticket)) (λ m. m.given ≡ was_given m.task.ticket h) s.list st.given);
    }
