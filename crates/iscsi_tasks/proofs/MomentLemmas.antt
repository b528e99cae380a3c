-- A moment: which commands are free, and what becomes enabled.
use Rattle.std.proofs.Common.{◌≡◌, ℕ, zero, suc, ◌<◌, ◌≤◌, ◌==◌, ◌||◌, ◌&&◌, ◌≢◌, not, nat_lt, min, max, cond, Bool, true, false, List, [], ◌∷◌, ◌++◌, length, map, take, drop, get_or, All, count_by, refl, ap, sym, ◌∙◌, arith, ⊎_elim, ne_eqb, lt-ltb, le-ltb}
use Rattle.std.specs.List.{list_any, position_or_len}
use Rattle.std.proofs.lemmas.Bool.{cases_Bool, or_left, or_right, or_from, and_left, and_right, and_from}
use Rattle.std.proofs.lemmas.List.{get_or_default}
use Rattle.std.proofs.lemmas.List.Elements.{All-map, All-nil, All-cons}
use Rattle.std.proofs.lemmas.List.Folds.{map_fixed, list_any_at, list_any_none, Any-from_list_any}
use Rattle.std.proofs.lemmas.List.Sums.{fails_before_first, passes_at_first, sum_by-cons}
use Rattle.iscsi_tasks.specs.Rules.{bars_as}
use Rattle.iscsi_tasks.proofs.Names.{nat_tests, Attr, Simple, Ordered, Head, Task, Member, Queued, is_head_of, is_ordered_of, bars, queued, is_free_among}
use Rattle.iscsi_tasks.proofs.Names.{looked_at, after_moment, InOrder, is_head_in, is_ordered_in, enabled_now, IsSettled}
use Rattle.iscsi_tasks.proofs.ListLemmas.{list_any-map}

-- the rules see the same commands after a moment
pub queued-looked : (list xs : List Member) → map (λ m. queued m.task) (map (looked_at list) xs) ≡ map (λ m. queued m.task) xs
queued-looked list [] = refl
queued-looked list (x ∷ xs) = ap (λ r. queued x.task ∷ r) (queued-looked list xs)

-- after a moment every command that is free is enabled
pub settled_after : (list : List Member) → IsSettled (after_moment list)
settled_after list = All-map (λ m. (m.enabled || is_free_among m.task (after_moment list)) ≡ m.enabled) (looked_at list) list (grind (arith, nat_tests, queued-looked list list))

-- a moment at which nothing becomes enabled
pub map-looked_same : (list xs : List Member) → All (λ m. (m.enabled || is_free_among m.task list) ≡ m.enabled) xs → map (looked_at list) xs ≡ xs
map-looked_same list xs same = map_fixed (looked_at list) xs (λ k d l. ap (λ b. record (get_or xs k d) { enabled = b }) (same k d l))

-- ---- what bars a command, by its attribute

bars_simple : (t : ℕ) (o : Queued) → bars_as Simple t o ≡ ((is_ordered_of o.attr && nat_lt o.ticket t) || is_head_of o.attr)
unfolding bars_as
bars_simple t o = refl

bars_ordered : (t : ℕ) (o : Queued) → bars_as Ordered t o ≡ (nat_lt o.ticket t || (is_head_of o.attr && not (o.ticket == t)))
unfolding bars_as
bars_ordered t o = refl

bars_head : (t : ℕ) (o : Queued) → bars_as Head t o ≡ false
unfolding bars_as
bars_head t o = refl

-- the test, over members
abbrev pub bars_in : Task → Member → Bool
bars_in task m = bars (queued task) (queued m.task)

pub free_among : (task : Task) (list : List Member) → is_free_among task list ≡ not (list_any (bars_in task) list)
free_among task list = ap not (list_any-map (bars (queued task)) (λ m. queued m.task) list)

pub free_none : (task : Task) (list : List Member) → All (λ m. bars_in task m ≡ false) list → is_free_among task list ≡ true
free_none task list none = free_among task list ∙ ap not (list_any_none (bars_in task) list none)

pub free_barred : (task : Task) (list : List Member) (k : ℕ) (d : Member) → k < length list → bars_in task (get_or list k d) ≡ true → is_free_among task list ≡ false
free_barred task list k d l here = free_among task list ∙ ap not (list_any_at (bars_in task) list k d l here)

-- HEAD OF QUEUE is always free
pub free_head : (a : Attr) (task : Task) (list : List Member) → task.attr ≡ a → is_head_of a ≡ true → is_free_among task list ≡ true
free_head a task list is head = grind (arith, nat_tests, free_none, bars_head)

-- every other one is barred by HEAD OF QUEUE
pub head_bars : (a : Attr) (task : Task) (m : Member) → task.attr ≡ a → is_head_of a ≡ false → is_head_in m ≡ true → m.task.ticket ≢ task.ticket → bars_in task m ≡ true
head_bars a task m is other head apart = grind (arith, nat_tests, bars_ordered, or_right, and_from, ne_eqb, bars_simple)

-- an older ORDERED bars every other one
pub ordered_bars : (a : Attr) (task : Task) (m : Member) → task.attr ≡ a → is_head_of a ≡ false → is_ordered_in m ≡ true → m.task.ticket < task.ticket → bars_in task m ≡ true
ordered_bars a task m is other ordered older = grind (arith, nat_tests, bars_ordered, or_left, lt-ltb, bars_simple, and_from)

-- every older one bars ORDERED
pub older_bars : (task : Task) (m : Member) → task.attr ≡ Ordered → m.task.ticket < task.ticket → bars_in task m ≡ true
older_bars task m is older = grind (arith, nat_tests, bars_ordered)

-- one that isn't older and isn't HEAD OF QUEUE bars nothing
pub younger_passes : (a : Attr) (task : Task) (m : Member) → task.attr ≡ a → is_head_in m ≡ false → task.ticket ≤ m.task.ticket → bars_in task m ≡ false
younger_passes Ordered task m is plain younger = ap (λ a. bars_as a task.ticket (queued m.task)) is ∙ bars_ordered task.ticket (queued m.task) ∙ or_from _ _ (le-ltb _ _ younger) (and_left _ _ plain)
younger_passes a task m is plain younger = grind (arith, nat_tests, bars_head, bars_simple, or_from, and_right, le-ltb)

-- one that is SIMPLE bars no SIMPLE
pub simple_passes : (task : Task) (m : Member) → task.attr ≡ Simple → is_head_in m ≡ false → is_ordered_in m ≡ false → bars_in task m ≡ false
simple_passes task m is plain unordered = ap (λ a. bars_as a task.ticket (queued m.task)) is ∙ bars_simple task.ticket (queued m.task) ∙ or_from _ _ (and_left _ _ unordered) plain

-- ---- which commands are free

ordered_of : (a : Attr) → is_ordered_of a ≡ true → a ≡ Ordered
ordered_of a ordered = grind (arith, nat_tests)

-- without HEAD OF QUEUE: those before the oldest ORDERED, and the oldest of all
module _ (list : List Member) (order : InOrder list) (plain : All (λ m. is_head_in m ≡ false) list) where
  passes_below : (k j : ℕ) (d e : Member) → k < length list → j < length list → k < max 1 (position_or_len is_ordered_in list) → bars_in (get_or list k d).task (get_or list j e) ≡ false
  passes_below k j d e within l below =
      grind (arith, nat_tests, simple_passes, younger_passes, fails_before_first is_ordered_in list k d, fails_before_first is_ordered_in list j e, get_or_default list j d e l)

  pub free_below : (k : ℕ) (d : Member) → k < length list → k < max 1 (position_or_len is_ordered_in list) → is_free_among (get_or list k d).task list ≡ true
  free_below k d within below = free_none (get_or list k d).task list (λ j e l. passes_below k j d e within l below)

  pub free_above : (k : ℕ) (d : Member) → k < length list → max 1 (position_or_len is_ordered_in list) ≤ k → is_free_among (get_or list k d).task list ≡ false
  free_above k d within above =
      let m = get_or list k d in let p = position_or_len is_ordered_in list in
      grind (arith, nat_tests, free_barred m.task list 0 d, free_barred m.task list p d, older_bars m.task (get_or list 0 d), ordered_of m.task.attr, order 0 k d, order p k d, passes_at_first is_ordered_in list d, ordered_bars m.task.attr m.task (get_or list p d) refl, plain k d)

-- with HEAD OF QUEUE: no other one
pub barred_by_head : (list : List Member) (h k : ℕ) (d : Member) → InOrder list → h < length list → k < length list → is_head_in (get_or list h d) ≡ true → is_head_in (get_or list k d) ≡ false → is_free_among (get_or list k d).task list ≡ false
barred_by_head list h k d order inside within head plain =
    let m = get_or list k d in let o = get_or list h d in
    grind (arith, nat_tests, free_barred m.task list h d, head_bars m.task.attr m.task o refl, order h k d, order k h d)

-- ---- counts

pub none_counted : (p : Member → Bool) (xs : List Member) → count_by p xs ≡ 0 → All (λ m. p m ≡ false) xs
none_counted p [] zero_all = All-nil (λ m. p m ≡ false)
none_counted p (x ∷ xs) zero_all =
    grind (arith, nat_tests, none_counted p xs, All-cons (λ m. p m ≡ false) x xs, sum_by-cons (λ (m : Member). cond {A = ℕ} (p m) 1 0) x xs)

pub some_counted : (p : Member → Bool) (xs : List Member) → 0 < count_by p xs → list_any p xs ≡ true
some_counted p [] some = absurd (omega arith)
some_counted p (x ∷ xs) some = grind (arith, nat_tests, some_counted p xs, sum_by-cons (λ (m : Member). cond {A = ℕ} (p m) 1 0) x xs)

-- ---- moments

or_false : (b : Bool) → (b || false) ≡ b
or_false b = grind (arith, nat_tests)

-- while HEAD OF QUEUE is in the set, nothing becomes enabled
pub moment_with_heads : (list : List Member) → InOrder list → 0 < count_by is_head_in list → All (λ m. is_head_in m ≡ true → m.enabled ≡ true) list → after_moment list ≡ list
moment_with_heads list order some enabled = map-looked_same list list (λ k d l.
    let m = get_or list k d in ⊎_elim
    (λ head. let on : m.enabled ≡ true = enabled k d l head in or_left _ _ on ∙ sym on)
    (λ plain.
    let (h, x, inside, read, head) = Any-from_list_any is_head_in list (some_counted is_head_in list some) in
    let there : is_head_in (get_or list h d) ≡ true = ap is_head_in (get_or_default list h d x inside ∙ read) ∙ head in
    ap (λ b. m.enabled || b) (barred_by_head list h k d order inside l there plain) ∙ or_false m.enabled)
    (cases_Bool (is_head_in m)))

map_parts : (f g : Member → Member) (xs : List Member) (n : ℕ) → ((k : ℕ) (d : Member) → k < length xs → k < n → f (get_or xs k d) ≡ g (get_or xs k d)) → ((k : ℕ) (d : Member) → k < length xs → n ≤ k → f (get_or xs k d) ≡ get_or xs k d) → map f xs ≡ map g (take n xs) ++ drop n xs
map_parts f g [] zero below above = refl
map_parts f g [] (suc n) below above = refl
map_parts f g (x ∷ xs) zero below above = ap (λ y. y ∷ map f xs) (above 0 x (omega arith) (omega arith)) ∙ ap (λ r. x ∷ r) (map_parts f g xs zero (λ k d l b. absurd (omega arith)) (λ k d l a. above (suc k) d (omega arith) (omega arith)))
map_parts f g (x ∷ xs) (suc n) below above = ap (λ y. y ∷ map f xs) (below 0 x (omega arith) (omega arith)) ∙ ap (λ r. g x ∷ r) (map_parts f g xs n (λ k d l b. below (suc k) d (omega arith) (omega arith)) (λ k d l a. above (suc k) d (omega arith) (omega arith)))

-- otherwise the first ones are enabled
pub moment_without_heads : (list : List Member) (n : ℕ) → InOrder list → count_by is_head_in list ≡ 0 → n ≡ min (length list) (max 1 (position_or_len is_ordered_in list)) → after_moment list ≡ map enabled_now (take n list) ++ drop n list
moment_without_heads list n order none is = grind (arith, nat_tests, none_counted, map_parts, free_below, or_right, free_above, or_false)
