-- The tags beside the places stay right where a place is written, and where the first one turns; a search by them.
use Rattle.std.proofs.Common.{◌⊎◌, inl, inr, ◌^◌, min, ◌≡◌, ◌≢◌, ℕ, ◌+◌, ◌-◌, ◌%◌, ◌<◌, ◌≤◌, ◌++◌, Bool, true, false, List, [], ◌∷◌, length, take, drop, replicate, set, get_or, position, is_some, Option, Some, None, arith, ⊎_elim, length-set, get_or-set_same, get_or-set_other}
use Rattle.std.proofs.lemmas.Bool.{cases_eq, cases_lt}
use Rattle.std.proofs.lemmas.List.{get_or_past, length-replicate}
use Rattle.std.proofs.lemmas.Bool.Decides.{nat_tests}
use Rattle.iscsi_wire.specs.Fields.{itt}
use Rattle.iscsi_window.specs.declared.held_request.HeldRequest.{HeldRequest}
use Rattle.iscsi_window.specs.PlaceTags.{labelled, AreLabelled, IsFirstBetween}
use Rattle.iscsi_window.proofs.PlaceLemmas.{nothing_at, passed}
use Rattle.iscsi_window.proofs.BoundLemmas.{found_below}

-- what a place has stands within
pub inside : (xs : List (Option (Option HeldRequest))) (k : ℕ) (x : Option HeldRequest) → get_or xs k None ≡ Some x → k < length xs
inside xs k x is = ⊎_elim (λ lt. lt) (λ past. let none : get_or xs k None ≡ None = get_or_past xs k None past in absurd cc) (cases_lt k (length xs))

pub opened_labels : (size : ℕ) → AreLabelled (replicate 1024 0) 0 (replicate size None)
opened_labels size = grind (arith, nat_tests, length-replicate, nothing_at)

-- ---- a place is written

labelled_at : (tags : List ℕ) (v : Option (Option HeldRequest)) (n m : ℕ) (r : HeldRequest) → length tags ≡ 1024 → ((v ≡ Some (Some r)) × (m ≡ n)) ⊎ ((m % 1024 ≢ n % 1024) × (get_or tags (m % 1024) 0 ≡ itt r.request)) → get_or (labelled tags v n) (m % 1024) 0 ≡ itt r.request
labelled_at tags v n m r long at = grind (arith, nat_tests, get_or-set_same, get_or-set_other)

pub labels_put : (tags : List ℕ) (turned : ℕ) (xs : List (Option (Option HeldRequest))) (k : ℕ) (v : Option (Option HeldRequest)) → AreLabelled tags turned xs → length xs ≤ 1024 → k < length xs → AreLabelled (labelled tags v (min (turned + k) (2 ^ 64 - 1))) turned (set xs k v)
labels_put tags turned xs k v l few within = record {
  as_many = grind (arith, l.as_many, length-set);
  named = λ j r at fits. labelled_at tags v (min (turned + k) (2 ^ 64 - 1)) (turned + j) r l.as_many (⊎_elim
      (λ same. inl (grind (arith, get_or-set_same xs k v None within)))
      (λ apart. inr (grind (arith, get_or-set_other xs k j v None apart, l.named j r, inside xs j (Some r))))
      (cases_eq j k));
}

-- the first place turns
pub labels_turned : (tags : List ℕ) (turned : ℕ) (xs : List (Option (Option HeldRequest))) → AreLabelled tags turned xs → AreLabelled tags (turned + 1) (drop 1 xs ++ None ∷ [])
labels_turned tags turned xs l = grind (arith, nat_tests, passed)

-- ---- a block of places

pub none_between : (p : Option (Option HeldRequest) → Bool) (xs : List (Option (Option HeldRequest))) (from end : ℕ) (found : Option ℕ) → IsFirstBetween p xs from end found → is_some found ≡ false → (j : ℕ) → from ≤ j → j < end → p (get_or xs j None) ≡ false
none_between p xs from end found is none = grind (arith, nat_tests)

-- the first one of the block is the first of all, where none passes before
pub first_between : (p : Option (Option HeldRequest) → Bool) (xs : List (Option (Option HeldRequest))) (end from to : ℕ) (found : Option ℕ) → IsFirstBetween p xs from to found → is_some found ≡ true → to ≤ end → to ≤ length xs → ((j : ℕ) → j < from → p (get_or xs j None) ≡ false)
    → found ≡ position p (take end xs)
first_between p xs end from to found is some most within before = search (arith, found_below)
