-- The counts stay those of the set.
use Rattle.std.proofs.Common.{◌≡◌, ℕ, zero, suc, ◌+◌, ◌-◌, ◌<◌, ◌≤◌, ◌==◌, ◌&&◌, ◌⊎◌, inl, inr, not, cond, Bool, true, false, List, [], ◌∷◌, ◌++◌, length, map, take, drop, set, get_or, All, count_by, refl, ap, sym, ◌∙◌, arith, eqb-true, lt-ltb, le-ltb}
use Rattle.std.specs.List.{position_or_len, remove}
use Rattle.std.proofs.lemmas.Bool.{and_right, cond-true, cond-false}
use Rattle.std.proofs.lemmas.List.{length_push, get_or_append_left, get_or_push, get_or-set_same, get_or-set_other, length-set}
use Rattle.std.proofs.lemmas.List.Edits.{length-remove, get_or-remove_below, get_or-remove_above}
use Rattle.std.proofs.lemmas.List.Elements.{All-push}
use Rattle.std.proofs.lemmas.List.Folds.{position_or_len_push, position_or_len-set}
use Rattle.std.proofs.lemmas.List.Quantifiers.{all_pairs_push, all_pairs_remove}
use Rattle.std.proofs.lemmas.List.Sums.{fails_before_first, sum_by-remove, sum_by_push, sum_by-cons, sum_by-set, prefix_len-le-length}
use Rattle.iscsi_tasks.proofs.Names.{nat_tests, Attr, Member, is_new, Counts, IsCounted, is_head_in, is_ordered_in, plus_one_if, shifted_by, without_one}
use Rattle.iscsi_tasks.proofs.Names.{enabled_now, given_now}
use Rattle.iscsi_tasks.specs.Sets.{is_head_of}

-- a first place is within the list or its end
pub first-le : {X : Type 0} (p : X → Bool) (xs : List X) → position_or_len p xs ≤ length xs
first-le p xs = prefix_len-le-length (λ x. not (p x)) xs

-- the place of the first one, with one more at the end
first_push : (p : Member → Bool) (xs : List Member) (y : Member) (at : ℕ) → at ≡ position_or_len p xs → plus_one_if (at == length xs && not (p y)) at ≡ position_or_len p (xs ++ y ∷ [])
first_push p xs y at is = grind (arith, nat_tests, eqb-true, position_or_len_push, cond-true, cond-false)

-- one command more, the last, with what is new between these places
abbrev pub with_last : Counts → ℕ → Member → ℕ → ℕ → Counts
with_last c len m from to = record {
  heads = plus_one_if (is_head_in m) c.heads;
  ordered_at = plus_one_if (c.ordered_at == len && not (is_ordered_in m)) c.ordered_at;
  enabled_to = plus_one_if (c.enabled_to == len && m.enabled) c.enabled_to;
  new_from = from;
  new_to = to;
}

-- the commands up to a place are enabled, with what is new between these places
abbrev pub with_enabled : Counts → ℕ → ℕ → ℕ → Counts
with_enabled c end from to = record { heads = c.heads; ordered_at = c.ordered_at; enabled_to = end; new_from = from; new_to = to }

-- the counts of no command
pub counted_none_yet : IsCounted (record { heads = 0; ordered_at = 0; enabled_to = 0; new_from = 0; new_to = 0 }) []
counted_none_yet = grind (arith, nat_tests)

module _ (c : Counts) (list : List Member) (counted : IsCounted c list) (m : Member) (newest : All (λ x. x.task.ticket < m.task.ticket) list) (head : is_head_in m ≡ true → m.enabled ≡ true) where
  pub counted_push : (from to : ℕ) → to ≤ length list + 1 → ((k : ℕ) (d : Member) → k < length list → is_new (get_or list k d) ≡ true → (from ≤ k) × (k < to)) → (is_new m ≡ true → (from ≤ length list) × (length list < to)) → IsCounted (with_last c (length list) m from to) (list ++ m ∷ [])
  counted_push from to upto old new =
      grind (arith, nat_tests, all_pairs_push, sum_by_push, get_or_append_left, get_or_push, All-push, first_push is_ordered_in list m c.ordered_at counted.ordered_at, length_push list m)

-- ---- a command leaves

pub shifted_cases : (at place : ℕ) → ((at < place) × (shifted_by at place ≡ place - 1)) ⊎ ((place ≤ at) × (shifted_by at place ≡ place))
shifted_cases at place = grind (arith, nat_tests, lt-ltb, le-ltb)

-- a place between two others is between them still
shifted_within : (at from to k j : ℕ) → ((k < at) × (j ≡ k)) ⊎ ((at ≤ k) × (j ≡ k + 1)) → from ≤ j → j < to → (shifted_by at from ≤ k) × (k < shifted_by at to)
shifted_within at from to k j place low high = grind (arith, nat_tests)

module _ (list : List Member) (at : ℕ) (within : at < length list) where
  at_remove : (P : Member → Type 0) (k : ℕ) (d : Member) → (k < at → P (get_or list k d)) → (at ≤ k → P (get_or list (k + 1) d)) → P (get_or (remove list at) k d)
  at_remove P k d before after = grind (arith, nat_tests, get_or-remove_below, get_or-remove_above)

  shorter : length (remove list at) + 1 ≡ length list
  shorter = length-remove list at within

  shifted-le : (place : ℕ) → place ≤ length list → shifted_by at place ≤ length (remove list at)
  shifted-le place inside = grind (arith, nat_tests, shorter)

  -- what is below a shifted place was below the place
  below_shifted : (P : Member → Type 0) (place : ℕ) → ((k : ℕ) (d : Member) → k < place → P (get_or list k d)) → (k : ℕ) (d : Member) → k < shifted_by at place → P (get_or (remove list at) k d)
  below_shifted P place before k d below = grind (arith, nat_tests, get_or-remove_below, get_or-remove_above)

  pub ordered_shifted : (place : ℕ) → place ≡ position_or_len is_ordered_in list → (shifted_by at place ≤ length (remove list at)) × ((k : ℕ) (d : Member) → k < shifted_by at place → is_ordered_in (get_or (remove list at) k d) ≡ false)
  ordered_shifted place is = (
    shifted-le place (let le = first-le is_ordered_in list in omega (arith, le, is)),
    below_shifted (λ m. is_ordered_in m ≡ false) place (λ k d l. fails_before_first is_ordered_in list k d (omega (arith, is))),
  )

  heads_less : (d : Member) → count_by is_head_in (remove list at) + cond {A = ℕ} (is_head_in (get_or list at d)) 1 0 ≡ count_by is_head_in list
  heads_less d = sum_by-remove (λ m. cond {A = ℕ} (is_head_in m) 1 0) list at d within

  -- HEAD OF QUEUE is counted, so there is one less
  pub one_less : (c : Counts) (d : Member) (attr : Attr) → c.heads ≡ count_by is_head_in list → attr ≡ (get_or list at d).task.attr → (is_head_of attr ≡ true → 0 < c.heads) × (cond {A = ℕ} (is_head_of attr) (c.heads - 1) c.heads ≡ count_by is_head_in (remove list at))
  one_less c d attr counted is = grind (arith, nat_tests, heads_less d)

  pub counted_remove : (c : Counts) (d : Member) (attr : Attr) (ordered_at : ℕ) → IsCounted c list → attr ≡ (get_or list at d).task.attr → ordered_at ≡ position_or_len is_ordered_in (remove list at) → IsCounted (without_one c at attr ordered_at) (remove list at)
  counted_remove c d attr ordered_at counted is first = record {
    order = all_pairs_remove (λ a b. a.task.ticket < b.task.ticket) list at within counted.order;
    heads = (one_less c d attr counted.heads is).1;
    ordered_at = first;
    enabled_to = shifted-le c.enabled_to counted.enabled_to;
    enabled = below_shifted (λ m. m.enabled ≡ true) c.enabled_to counted.enabled;
    heads_enabled = λ k e l. at_remove (λ m. is_head_in m ≡ true → m.enabled ≡ true) k e (λ b. counted.heads_enabled k e (omega arith)) (λ a. counted.heads_enabled (k + 1) e (omega (arith, shorter)));
    new_to = shifted-le c.new_to counted.new_to;
    new = λ k e l. at_remove (λ m. is_new m ≡ true → (shifted_by at c.new_from ≤ k) × (k < shifted_by at c.new_to)) k e
        (λ b new. let was = counted.new k e (omega arith) new in shifted_within at c.new_from c.new_to k k (inl (b, refl)) was.0 was.1)
        (λ a new. let was = counted.new (k + 1) e (omega (arith, shorter)) new in shifted_within at c.new_from c.new_to k (k + 1) (inr (a, refl)) was.0 was.1);
  }

-- ---- the first commands are enabled

-- the first ones are enabled, the rest is as before
abbrev pub enabled_up_to : ℕ → List Member → List Member
enabled_up_to n xs = map enabled_now (take n xs) ++ drop n xs

parts-task : (xs : List Member) (n k : ℕ) (d : Member) → (get_or (enabled_up_to n xs) k d).task ≡ (get_or xs k d).task
parts-task [] zero k d = refl
parts-task [] (suc n) k d = refl
parts-task (x ∷ xs) zero k d = refl
parts-task (x ∷ xs) (suc n) zero d = refl
parts-task (x ∷ xs) (suc n) (suc k) d = parts-task xs n k d

parts-below : (xs : List Member) (n k : ℕ) (d : Member) → k < length xs → k < n → get_or (enabled_up_to n xs) k d ≡ enabled_now (get_or xs k d)
parts-below (x ∷ xs) (suc n) (suc k) d l b = parts-below xs n k d (omega arith) (omega arith)
parts-below xs n k d l b = grind (arith, nat_tests)

parts-above : (xs : List Member) (n k : ℕ) (d : Member) → n ≤ k → get_or (enabled_up_to n xs) k d ≡ get_or xs k d
parts-above [] zero k d a = refl
parts-above [] (suc n) k d a = refl
parts-above (x ∷ xs) zero k d a = refl
parts-above (x ∷ xs) (suc n) zero d a = absurd (omega arith)
parts-above (x ∷ xs) (suc n) (suc k) d a = parts-above xs n k d (omega arith)

pub parts-length : (xs : List Member) (n : ℕ) → length (enabled_up_to n xs) ≡ length xs
parts-length [] zero = refl
parts-length [] (suc n) = refl
parts-length (x ∷ xs) zero = refl
parts-length (x ∷ xs) (suc n) = ap suc (parts-length xs n)

parts-heads : (xs : List Member) (n : ℕ) → count_by is_head_in (enabled_up_to n xs) ≡ count_by is_head_in xs
parts-heads [] zero = refl
parts-heads [] (suc n) = refl
parts-heads (x ∷ xs) zero = refl
parts-heads (x ∷ xs) (suc n) =
    sum_by-cons (λ m. cond {A = ℕ} (is_head_in m) 1 0) (enabled_now x) (enabled_up_to n xs)
    ∙ ap (λ s. cond {A = ℕ} (is_head_in x) 1 0 + s) (parts-heads xs n)
    ∙ sym (sum_by-cons (λ m. cond {A = ℕ} (is_head_in m) 1 0) x xs)

parts-first : (xs : List Member) (n : ℕ) → position_or_len is_ordered_in (enabled_up_to n xs) ≡ position_or_len is_ordered_in xs
parts-first [] zero = refl
parts-first [] (suc n) = refl
parts-first (x ∷ xs) zero = refl
parts-first (x ∷ xs) (suc n) = ap (λ s. cond {A = ℕ} (not (is_ordered_in x)) (1 + s) 0) (parts-first xs n)

pub counted_enabled : (c : Counts) (list : List Member) (to : ℕ) → IsCounted c list → c.enabled_to < to → to ≤ length list → (new_from new_to : ℕ) → new_from ≤ c.enabled_to → to ≤ new_to → new_to ≤ length list → ((k : ℕ) (d : Member) → k < length list → is_new (get_or list k d) ≡ true → (new_from ≤ k) × (k < new_to)) → IsCounted (with_enabled c to new_from new_to) (enabled_up_to to list)
counted_enabled c list to counted more inside new_from new_to low high upto between =
    grind (arith, nat_tests, parts-below, parts-above, parts-length, parts-task, parts-heads, parts-first)

-- ---- a ticket is given

pub counted_none : (c : Counts) (list : List Member) → IsCounted c list → All (λ m. is_new m ≡ false) list → IsCounted (record c { new_from = c.new_to }) list
counted_none c list counted none = grind (arith, nat_tests)

pub counted_given : (c : Counts) (list : List Member) (at : ℕ) (m : Member) → IsCounted c list → at < length list → ((d : Member) → get_or list at d ≡ m) → ((k : ℕ) (d : Member) → k < at → is_new (get_or list k d) ≡ false) → IsCounted (record c { new_from = at + 1 }) (set list at (given_now m))
counted_given c list at m counted within here before =
    grind (arith, nat_tests, get_or-set_same, get_or-set_other, length-set, sum_by-set, position_or_len-set, and_right)
