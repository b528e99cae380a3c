-- Commands that are covered leave, from the oldest on.
use Rattle.std.proofs.Common.{◌≡◌, ◌∙◌, ℕ, suc, ◌+◌, ◌<◌, not, cond, Bool, true, false, List, [], ◌∷◌, ◌++◌, length, map, filter, take, drop, get_or, All, refl, ap, sym, arith}
use Rattle.std.specs.List.{remove}
use Rattle.std.proofs.lemmas.List.{take_more, take-append-drop, map-append, append-nil}
use Rattle.std.proofs.lemmas.List.Elements.{filter-append, All-head, All-tail}
use Rattle.iscsi_tasks.proofs.Names.{nat_tests, Task, Member, covered_tickets}

module _ {X : Type 0} (covers : X → Bool) where
  -- those so far that stay, and the others
  abbrev pub kept_yet : List X → ℕ → List X
  kept_yet xs k = filter (λ x. not (covers x)) (take k xs) ++ drop k xs

  -- how many of those so far stay
  abbrev pub passed : List X → ℕ → ℕ
  passed xs k = length (filter (λ x. not (covers x)) (take k xs))

  module _ (x : X) (xs : List X) (k : ℕ) where
    count_stays : covers x ≡ false → passed (x ∷ xs) (suc k) ≡ suc (passed xs k)
    count_stays is = ap (λ b. length (cond (not b) (x ∷ filter (λ y. not (covers y)) (take k xs)) (filter (λ y. not (covers y)) (take k xs)))) is

  -- the next one stands behind those that stay
  pub yet_at : (xs : List X) (k : ℕ) (d : X) → k < length xs → get_or (kept_yet xs k) (passed xs k) d ≡ get_or xs k d
  yet_at (x ∷ xs) (suc k) d l = grind (arith, nat_tests, yet_at xs k d (omega arith), count_stays)
  yet_at xs k d l = grind (arith, nat_tests)

  pub yet_inside : (xs : List X) (k : ℕ) → k < length xs → passed xs k < length (kept_yet xs k)
  yet_inside (x ∷ xs) (suc k) l = grind (arith, nat_tests, yet_inside xs k (omega arith), count_stays)
  yet_inside xs k l = grind (arith, nat_tests)

  -- it leaves
  pub yet_without : (xs : List X) (k : ℕ) (d : X) → k < length xs → covers (get_or xs k d) ≡ true → (remove (kept_yet xs k) (passed xs k) ≡ kept_yet xs (suc k)) × (passed xs (suc k) ≡ passed xs k)
  yet_without (x ∷ xs) (suc k) d l goes = grind (arith, nat_tests, yet_without xs k d (omega arith) goes, count_stays)
  yet_without xs k d l goes = grind (arith, nat_tests)

  -- or it stays
  pub yet_with : (xs : List X) (k : ℕ) (d : X) → k < length xs → covers (get_or xs k d) ≡ false → (kept_yet xs k ≡ kept_yet xs (suc k)) × (passed xs (suc k) ≡ suc (passed xs k))
  yet_with (x ∷ xs) (suc k) d l stays = grind (arith, nat_tests, yet_with xs k d (omega arith) stays, count_stays)
  yet_with xs k d l stays = grind (arith, nat_tests, count_stays)

  none_filtered : (xs : List X) → All (λ x. covers x ≡ false) xs → filter (λ x. not (covers x)) xs ≡ xs
  none_filtered [] none = refl
  none_filtered (x ∷ xs) none = ap (λ b. cond (not b) (x ∷ filter (λ y. not (covers y)) xs) (filter (λ y. not (covers y)) xs)) (All-head (λ y. covers y ≡ false) x xs none) ∙ ap (λ r. x ∷ r) (none_filtered xs (All-tail (λ y. covers y ≡ false) x xs none))

  -- from here on none is covered
  pub yet_all : (xs : List X) (k : ℕ) → All (λ x. covers x ≡ false) (drop k xs) → kept_yet xs k ≡ filter (λ x. not (covers x)) xs
  yet_all xs k none = grind (arith, nat_tests, filter-append, none_filtered (drop k xs) none, take-append-drop k xs)

module _ (covers : Task → Bool) where
  tickets_append : (xs ys : List Member) → covered_tickets covers (xs ++ ys) ≡ covered_tickets covers xs ++ covered_tickets covers ys
  tickets_append xs ys = grind (arith, nat_tests, map-append, filter-append)

  tickets_one : (m : Member) (b : Bool) → covers m.task ≡ b → covered_tickets covers (m ∷ []) ≡ cond b (m.task.ticket ∷ []) []
  tickets_one m b is = ap (λ c. map (λ (t : Task). t.ticket) (cond c (m.task ∷ []) [])) is ∙ both b
    where
      both : (b : Bool) → map (λ (t : Task). t.ticket) (cond b (m.task ∷ []) []) ≡ cond b (m.task.ticket ∷ []) []
      both b = grind (arith, nat_tests)

  -- one more is looked at
  pub tickets_more : (xs : List Member) (k : ℕ) (d : Member) (b : Bool) → k < length xs → covers (get_or xs k d).task ≡ b → covered_tickets covers (take (k + 1) xs) ≡ covered_tickets covers (take k xs) ++ cond b ((get_or xs k d).task.ticket ∷ []) []
  tickets_more xs k d b l is = grind (arith, nat_tests, take_more xs k d l, tickets_append (take k xs) (get_or xs k d ∷ []), tickets_one (get_or xs k d) b is)

  tickets_none : (xs : List Member) → All (λ m. covers m.task ≡ false) xs → covered_tickets covers xs ≡ []
  tickets_none [] none = refl
  tickets_none (m ∷ ms) none =
      tickets_append (m ∷ []) ms ∙ ap (λ r. r ++ covered_tickets covers ms) (tickets_one m false (All-head (λ x. covers x.task ≡ false) m ms none)) ∙ tickets_none ms (All-tail (λ x. covers x.task ≡ false) m ms none)

  -- from here on none is covered
  pub tickets_all : (xs : List Member) (k : ℕ) → All (λ m. covers m.task ≡ false) (drop k xs) → covered_tickets covers (take k xs) ≡ covered_tickets covers xs
  tickets_all xs k none =
      sym (ap (covered_tickets covers) (sym (take-append-drop k xs)) ∙ tickets_append (take k xs) (drop k xs) ∙ ap (λ r. covered_tickets covers (take k xs) ++ r) (tickets_none (drop k xs) none) ∙ append-nil (covered_tickets covers (take k xs)))

-- the place of the command that is looked at
pub place_in : (covers : Member → Bool) (list members : List Member) (slots : List ℕ) (k : ℕ) → k < length list → members ≡ kept_yet covers list k → length slots ≡ length members → passed covers list k < length slots
place_in covers list members slots k l same long = let a = yet_inside covers list k l in let b = ap length same in omega (arith, a, b, long)

pub none_left : (covers : Task → Bool) (ts : List Task) → All (λ t. covers t ≡ false) ts → filter covers ts ≡ []
none_left covers [] none = refl
none_left covers (t ∷ ts) none = ap (λ b. cond b (t ∷ filter covers ts) (filter covers ts)) (All-head (λ x. covers x ≡ false) t ts none) ∙ none_left covers ts (All-tail (λ x. covers x ≡ false) t ts none)
