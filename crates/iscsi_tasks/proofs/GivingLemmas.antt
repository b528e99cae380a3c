-- Tickets that are given: each once, the oldest first.
use Rattle.std.proofs.Common.{◌≡◌, ℕ, suc, ◌<◌, ◌==◌, ◌||◌, cond, Bool, true, false, List, [], ◌∷◌, length, map, find, get_or, set, refl, ap, sym, ◌∙◌, arith, All, Option, Some, None, option_map, subst, ⊎_elim}
use Rattle.std.proofs.lemmas.Bool.{cases_Bool}
use Rattle.iscsi_tasks.proofs.Names.{nat_tests, Task, Member, Members, InOrder, queued, is_free, is_free_among, is_new, given_in, given_by, next_in, IsSettled}
use Rattle.iscsi_tasks.proofs.Names.{given_now, Change, was_free, was_given, StandsFor, next_after, after_giving}
use Rattle.std.proofs.lemmas.List.Elements.{All-cons, All-head, All-tail, All-nil}
use Rattle.iscsi_tasks.proofs.ListLemmas.{find-map, find-agree}
use Rattle.iscsi_tasks.proofs.HistoryLemmas.{queued-tasks}

-- what the first new one leaves, where it is the head or where it isn't
pub given_in_new : (m : Member) (ms : List Member) → is_new m ≡ true → given_in (m ∷ ms) ≡ record { task = m.task; enabled = m.enabled; given = true } ∷ ms
given_in_new m ms new = ap (λ b. cond b (record { task = m.task; enabled = m.enabled; given = true } ∷ ms) (m ∷ given_in ms)) new

pub given_in_old : (m : Member) (ms : List Member) → is_new m ≡ false → given_in (m ∷ ms) ≡ m ∷ given_in ms
given_in_old m ms old = ap (λ b. cond b (record { task = m.task; enabled = m.enabled; given = true } ∷ ms) (m ∷ given_in ms)) old

pub next_in_new : (m : Member) (ms : List Member) → is_new m ≡ true → next_in (m ∷ ms) ≡ Some m.task.ticket
next_in_new m ms new = ap (λ b. option_map (λ (k : Member). k.task.ticket) (cond b (Some m) (find is_new ms))) new

pub next_in_old : (m : Member) (ms : List Member) → is_new m ≡ false → next_in (m ∷ ms) ≡ next_in ms
next_in_old m ms old = ap (λ b. option_map (λ (k : Member). k.task.ticket) (cond b (Some m) (find is_new ms))) old

pub InOrder-tail : (m : Member) (ms : List Member) → InOrder (m ∷ ms) → InOrder ms
InOrder-tail m ms order i j d below within = order (suc i) (suc j) d (omega arith) (omega arith)

pub InOrder-head : (m : Member) (ms : List Member) → InOrder (m ∷ ms) → All (λ k. m.task.ticket < k.task.ticket) ms
InOrder-head m ms order k d within = order 0 (suc k) d (omega arith) (omega arith)

-- giving leaves the commands as they are
pub tasks-given : (list : List Member) → map (λ m. m.task) (given_in list) ≡ map (λ m. m.task) list
tasks-given [] = refl
tasks-given (m ∷ ms) = grind (arith, nat_tests, tasks-given ms, given_in_new, given_in_old)

-- what holds of the members holds still, where it holds of one that is given
all-given : (P : Member → Type 0) (list : List Member) → ((m : Member) → P m → P (given_now m)) → All P list → All P (given_in list)
all-given P [] kept all = all
all-given P (m ∷ ms) kept all =
    let rest = all-given P ms kept (All-tail P m ms all) in
    grind (arith, nat_tests, given_in_new, given_in_old, All-cons P (given_now m) ms, All-cons P m (given_in ms) (all 0 m (omega arith)) rest, kept m (all 0 m (omega arith)), All-tail P m ms all)

pub enabled-given : (e : Task → Bool) (list : List Member) → All (λ m. m.enabled ≡ e m.task) list → All (λ m. m.enabled ≡ e m.task) (given_in list)
enabled-given e list all = all-given (λ m. m.enabled ≡ e m.task) list (λ m here. here) all

-- the ticket that comes next is that of a member
pub next_in_above : (a t : ℕ) (list : List Member) → All (λ m. a < m.task.ticket) list → next_in list ≡ Some t → a < t
next_in_above a t [] all next = cc
next_in_above a t (m ∷ ms) all next =
    grind (arith, nat_tests, next_in_above a t ms (All-tail (λ k. a < k.task.ticket) m ms all), all 0 m (omega arith), next_in_new m ms, next_in_old m ms)

-- after it is given, the flags tell so
pub flags-given : (g : ℕ → Bool) (t : ℕ) (list : List Member) → InOrder list → next_in list ≡ Some t → All (λ m. m.given ≡ g m.task.ticket) list → All (λ m. m.given ≡ (t == m.task.ticket || g m.task.ticket)) (given_in list)
flags-given g t [] order next all = All-nil (λ m. m.given ≡ (t == m.task.ticket || g m.task.ticket))
flags-given g t (m ∷ ms) order next all =
    let Q : Member → Type 0 = λ k. k.given ≡ (t == k.task.ticket || g k.task.ticket) in
    let rest = All-tail (λ k. k.given ≡ g k.task.ticket) m ms all in
    let above = InOrder-head m ms order in ⊎_elim
    (λ new. subst (λ (l : List Member). All Q l) (sym (given_in_new m ms new)) (All-cons Q (given_now m) ms (grind (arith, nat_tests, next_in_new m ms new))
    (λ k d l. grind (arith, nat_tests, next_in_new m ms new, above k d l, rest k d l))))
    (λ old.
    let later : next_in ms ≡ Some t = sym (next_in_old m ms old) ∙ next in
    subst (λ (l : List Member). All Q l) (sym (given_in_old m ms old))
    (All-cons Q m (given_in ms) (grind (arith, nat_tests, next_in_above m.task.ticket t ms above later, all 0 m (omega arith))) (flags-given g t ms (InOrder-tail m ms order) later rest)))
    (cases_Bool (is_new m))

-- where nothing is new, nothing changes
pub given_in_none : (list : List Member) → next_in list ≡ None → given_in list ≡ list
given_in_none [] next = refl
given_in_none (m ∷ ms) next = grind (arith, nat_tests, given_in_none ms, next_in_new m ms, next_in_old m ms, given_in_old m ms)

-- ---- the history

pub next_from_history : (s : Members) (h : List Change) → StandsFor s h → next_in s.list ≡ next_after h
next_from_history s h st = grind (arith, nat_tests, find-agree, find-map)

StandsFor-giving_of : (s : Members) (next : Option ℕ) (h : List Change) → next_in s.list ≡ next → InOrder s.list → StandsFor s h → StandsFor (given_by s) (after_giving next h)
StandsFor-giving_of s None h none order st = subst (λ (l : List Member). StandsFor (record s { list = l }) h) (sym (given_in_none s.list none)) st
StandsFor-giving_of s (Some t) h next order st =
    grind (arith, tasks-given s.list, enabled-given (λ k. was_free k h) s.list st.enabled, flags-given (λ k. was_given k h) t s.list order next st.given)

pub StandsFor-giving : (s : Members) (h : List Change) → InOrder s.list → StandsFor s h → (next_in s.list ≡ next_after h) × StandsFor (given_by s) (after_giving (next_in s.list) h)
StandsFor-giving s h order st = (next_from_history s h st, StandsFor-giving_of s (next_in s.list) h refl order st)

-- ---- the place of the next one

-- where none is new, nothing is given
pub next_in_none : (list : List Member) → All (λ m. is_new m ≡ false) list → next_in list ≡ None
next_in_none [] none = refl
next_in_none (m ∷ ms) none = next_in_old m ms (All-head (λ k. is_new k ≡ false) m ms none) ∙ next_in_none ms (All-tail (λ k. is_new k ≡ false) m ms none)

-- else the first one is
pub next_in_at : (list : List Member) (at : ℕ) (d : Member) → at < length list → ((k : ℕ) → k < at → is_new (get_or list k d) ≡ false) → is_new (get_or list at d) ≡ true → next_in list ≡ Some (get_or list at d).task.ticket
next_in_at (m ∷ ms) (suc at) d within before here = next_in_old m ms (before 0 (omega arith)) ∙ next_in_at ms at d (omega arith) (λ k l. before (suc k) (omega arith)) here
next_in_at list at d within before here = grind (arith, nat_tests, next_in_new)

pub given_in_at : (list : List Member) (at : ℕ) (d : Member) → at < length list → ((k : ℕ) → k < at → is_new (get_or list k d) ≡ false) → is_new (get_or list at d) ≡ true → given_in list ≡ set list at (given_now (get_or list at d))
given_in_at (m ∷ ms) (suc at) d within before here = given_in_old m ms (before 0 (omega arith)) ∙ ap (λ r. m ∷ r) (given_in_at ms at d (omega arith) (λ k l. before (suc k) (omega arith)) here)
given_in_at list at d within before here = grind (arith, nat_tests, given_in_new)

free-given : (f : Task → Bool) (list : List Member) → All (λ m. (m.enabled || f m.task) ≡ m.enabled) list → All (λ m. (m.enabled || f m.task) ≡ m.enabled) (given_in list)
free-given f list all = all-given (λ m. (m.enabled || f m.task) ≡ m.enabled) list (λ m here. here) all

-- giving keeps a set in which every command that is free is enabled
pub settled-given : (list : List Member) → IsSettled list → IsSettled (given_in list)
settled-given list settled =
    let same : (task : Task) → is_free_among task (given_in list) ≡ is_free_among task list = λ task. ap (is_free (queued task)) (sym (queued-tasks (given_in list)) ∙ ap (map queued) (tasks-given list) ∙ queued-tasks list) in
    λ k d l. let m = get_or (given_in list) k d in ap (λ b. m.enabled || b) (same m.task) ∙ free-given (λ t. is_free_among t list) list settled k d l
