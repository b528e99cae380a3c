-- The history of commands that leave together: it is as if they left one after the other.
use Rattle.std.proofs.Common.{◌≡◌, ◌∙◌, ◌<◌, ℕ, ◌==◌, ◌||◌, ◌&&◌, not, cond, Bool, true, false, List, [], ◌∷◌, length, map, filter, get_or, All, refl, ap, sym, subst, arith, ⊎_elim, true≢false, eq-eqb}
use Rattle.std.specs.List.{list_any, AllPairs}
use Rattle.std.proofs.lemmas.Bool.{cases_Bool, and_parts, and_from}
use Rattle.std.proofs.lemmas.List.{get_or_default, get_or-map, length-map}
use Rattle.std.proofs.lemmas.List.Elements.{All-filter, All-head, All-tail, All-map}
use Rattle.std.proofs.lemmas.List.Folds.{list_any_at, list_any_none}
use Rattle.iscsi_tasks.proofs.Names.{nat_tests, Task, Member, Queued, Members, InOrder, queued, looked_at, after_moment, uncovered, set_staying, Change, Left}
use Rattle.iscsi_tasks.proofs.Names.{StandsFor, live, is_live, is_free_in, was_free, was_given, after_all_left}
use Rattle.iscsi_tasks.specs.Rules.{is_free}
use Rattle.iscsi_tasks.proofs.HistoryLemmas.{looked_at_enabled, tasks-looked}
use Rattle.iscsi_tasks.proofs.ListLemmas.{filter-map, list_any-map}
use Rattle.iscsi_tasks.proofs.RuleLemmas.{stays_free}

any_filter : {X : Type 0} (p q : X → Bool) (xs : List X) → list_any p (filter q xs) ≡ list_any (λ x. q x && p x) xs
any_filter p q [] = refl
any_filter p q (x ∷ xs) = grind (arith, nat_tests, any_filter p q xs)

any_kept : {X : Type 0} (q : X → Bool) (xs : List X) → list_any (λ x. true) (filter q xs) ≡ list_any q xs
any_kept q [] = refl
any_kept q (x ∷ xs) = grind (arith, nat_tests, any_kept q xs)

filter_agree : {X : Type 0} (p q : X → Bool) (xs : List X) → All (λ x. p x ≡ q x) xs → filter p xs ≡ filter q xs
filter_agree p q [] same = refl
filter_agree p q (x ∷ xs) same =
    ap (λ b. cond b (x ∷ filter p xs) (filter p xs)) (All-head (λ y. p y ≡ q y) x xs same)
    ∙ ap (λ r. cond (q x) (x ∷ r) r) (filter_agree p q xs (All-tail (λ y. p y ≡ q y) x xs same))

filter_true : {X : Type 0} (xs : List X) → filter (λ x. true) xs ≡ xs
filter_true [] = refl
filter_true (x ∷ xs) = ap (λ r. x ∷ r) (filter_true xs)

filter_filter : {X : Type 0} (p q : X → Bool) (xs : List X) → filter (λ x. not (q x)) (filter (λ x. not (p x)) xs) ≡ filter (λ x. not (p x || q x)) xs
filter_filter p q [] = refl
filter_filter p q (x ∷ xs) = grind (arith, nat_tests, filter_filter p q xs)

-- one of these commands has this ticket
abbrev has_ticket : List Task → ℕ → Bool
has_ticket ts ticket = list_any (λ x. ticket == x.ticket) ts

live-all_left : (ts : List Task) (h : List Change) → live (after_all_left ts h) ≡ filter (λ t. not (has_ticket ts t.ticket)) (live h)
live-all_left [] h = sym (filter_true (live h))
live-all_left (x ∷ xs) h = live-all_left xs (Left x.ticket ∷ h) ∙ filter_filter (λ (t : Task). t.ticket == x.ticket) (λ t. has_ticket xs t.ticket) (live h)

-- who is free among more is free among fewer
free_fewer : (task : Task) (ts set : List Task) → is_live task (filter (λ t. not (has_ticket ts t.ticket)) set) ≡ true → is_free_in task set ≡ true → is_free_in task (filter (λ t. not (has_ticket ts t.ticket)) set) ≡ true
free_fewer task ts set there free =
    let stays : Queued → Bool = λ q. not (has_ticket ts q.ticket) in
    and_from _ _ there
    (ap (is_free (queued task)) (sym (filter-map stays queued set)) ∙ stays_free (queued task) (map queued set) stays (and_parts (is_live task set) _ free).1)

-- the moments between tell nothing of those that stay
was-all_left : (task x : Task) (xs : List Task) (h : List Change) → is_live task (live (after_all_left (x ∷ xs) h)) ≡ true → was_free task (after_all_left (x ∷ xs) h) ≡ (is_free_in task (live (after_all_left (x ∷ xs) h)) || was_free task h)
was-all_left task x [] h there = refl
was-all_left task x (y ∷ ys) h there =
    let mid : List Change = Left x.ticket ∷ h in
    let end : List Task = live (after_all_left (y ∷ ys) mid) in
    let is = live-all_left (y ∷ ys) mid in
    grind (arith, nat_tests, was-all_left task y ys, free_fewer)

given-all_left : (ticket : ℕ) (ts : List Task) (h : List Change) → was_given ticket (after_all_left ts h) ≡ was_given ticket h
given-all_left ticket [] h = refl
given-all_left ticket (x ∷ xs) h = given-all_left ticket xs (Left x.ticket ∷ h)

-- no two commands have one ticket
one_ticket : (tasks : List Task) → AllPairs (λ a b. a.ticket < b.ticket) tasks → (j k : ℕ) (d e : Task) → j < length tasks → k < length tasks → (get_or tasks j e).ticket ≡ (get_or tasks k d).ticket → get_or tasks j e ≡ get_or tasks k d
one_ticket tasks order j k d e l within alike = grind (arith, nat_tests, order j k d, order k j d, get_or_default tasks j e d l)

-- the covered ones are those with a ticket of theirs
covered_by_ticket : (covers : Task → Bool) (tasks : List Task) → AllPairs (λ a b. a.ticket < b.ticket) tasks → All (λ t. has_ticket (filter covers tasks) t.ticket ≡ covers t) tasks
covered_by_ticket covers tasks order k d within =
    let t : Task = get_or tasks k d in let same : Task → Bool = λ x. covers x && t.ticket == x.ticket in
    any_filter (λ x. t.ticket == x.ticket) covers tasks
    ∙ ⊎_elim
    (λ yes. list_any_at same tasks k d within (grind (arith, nat_tests)) ∙ sym yes)
    (λ no. list_any_none same tasks (λ j e l. grind (arith, nat_tests, one_ticket tasks order j k d e l within)) ∙ sym no)
    (cases_Bool (covers t))

tasks_ordered : (list : List Member) → InOrder list → AllPairs (λ (a b : Task). a.ticket < b.ticket) (map (λ m. m.task) list)
tasks_ordered list order i j d below within =
    let m : Member = record { task = d; enabled = false; given = false } in
    grind (arith, length-map list (λ (x : Member). x.task), order i j m, get_or-map (λ (x : Member). x.task) list i m d, get_or-map (λ (x : Member). x.task) list j m d)

module _ (s : Members) (covers : Task → Bool) (h : List Change) (order : InOrder s.list) (st : StandsFor s h) where
  abbrev ts : List Task
  ts = filter covers (live h)

  stay : map (λ m. m.task) (uncovered covers s.list) ≡ live (after_all_left ts h)
  stay =
      let ordered : AllPairs (λ (a b : Task). a.ticket < b.ticket) (live h) = subst (AllPairs (λ (a b : Task). a.ticket < b.ticket)) st.tasks (tasks_ordered s.list order) in
      let covered : All (λ t. has_ticket ts t.ticket ≡ covers t) (live h) = covered_by_ticket covers (live h) ordered in
      sym (filter-map (λ t. not (covers t)) (λ (m : Member). m.task) s.list) ∙ ap (filter (λ t. not (covers t))) st.tasks
      ∙ sym (live-all_left ts h ∙ filter_agree (λ t. not (has_ticket ts t.ticket)) (λ t. not (covers t)) (live h) (λ k d l. ap not (covered k d l)))

  -- with at least one that leaves, there was a moment behind them
  was : (task : Task) (ls : List Task) → list_any (λ t. true) ls ≡ true → is_live task (live (after_all_left ls h)) ≡ true → was_free task (after_all_left ls h) ≡ (is_free_in task (live (after_all_left ls h)) || was_free task h)
  was task [] some there = absurd (true≢false (sym some))
  was task (x ∷ xs) some there = was-all_left task x xs h there

  some_left : list_any (λ m. covers m.task) s.list ≡ true → list_any (λ (t : Task). true) ts ≡ true
  some_left some = any_kept covers (live h) ∙ ap (list_any covers) (sym st.tasks) ∙ list_any-map covers (λ (m : Member). m.task) s.list ∙ some

  some_case : list_any (λ m. covers m.task) s.list ≡ true → StandsFor (record s { list = after_moment (uncovered covers s.list) }) (after_all_left ts h)
  some_case some =
      let list : List Member = uncovered covers s.list in
      let rest : List Member = after_moment list in
      let tasks : map (λ m. m.task) rest ≡ live (after_all_left ts h) = tasks-looked list list ∙ stay in
      let flags = looked_at_enabled list (live (after_all_left ts h)) (λ t. was_free t h) stay (All-filter (λ m. not (covers m.task)) (λ m. m.enabled ≡ was_free m.task h) s.list st.enabled) in
      record {
        tasks = tasks;
        enabled = λ k d l.
            let m : Member = get_or rest k d in
            let there : is_live m.task (live (after_all_left ts h)) ≡ true =
            ap (is_live m.task) (sym tasks) ∙ list_any-map (λ t. t.ticket == m.task.ticket) (λ (x : Member). x.task) rest
            ∙ list_any_at (λ (x : Member). x.task.ticket == m.task.ticket) rest k d l (eq-eqb m.task.ticket m.task.ticket refl) in
            flags k d l ∙ sym (was m.task ts (some_left some) there);
        given =
            let was : All (λ m. m.given ≡ was_given m.task.ticket h) rest = All-map (λ m. m.given ≡ was_given m.task.ticket h) (looked_at list) list (All-filter (λ m. not (covers m.task)) (λ m. m.given ≡ was_given m.task.ticket h) s.list st.given) in
            λ k d l. was k d l ∙ sym (given-all_left (get_or rest k d).task.ticket ts h);
      }

  none_case : list_any (λ m. covers m.task) s.list ≡ false → StandsFor s (after_all_left ts h)
  none_case none =
      let nowhere : list_any covers (live h) ≡ false = ap (list_any covers) (sym st.tasks) ∙ list_any-map covers (λ (m : Member). m.task) s.list ∙ none in
      subst (λ (ls : List Task). StandsFor s (after_all_left ls h)) (sym (none_filtered (live h) nowhere)) st
    where
      none_filtered : (xs : List Task) → list_any covers xs ≡ false → filter covers xs ≡ []
      none_filtered [] nothing = refl
      none_filtered (x ∷ xs) nothing = grind (arith, nat_tests, none_filtered xs)

  pub StandsFor-all_left : StandsFor (set_staying covers s) (after_all_left (filter covers (live h)) h)
  StandsFor-all_left = grind (arith, nat_tests, some_case, none_case)

-- so does the set that became so
pub StandsFor-staying : (s : Members) (covers : Task → Bool) (h : List Change) → InOrder s.list → StandsFor s h → (t : Members) → t ≡ set_staying covers s → StandsFor t (after_all_left (filter covers (live h)) h)
StandsFor-staying s covers h order st t is = subst (λ (x : Members). StandsFor x (after_all_left (filter covers (live h)) h)) (sym is) (StandsFor-all_left s covers h order st)
