-- The counters stay right where a place is written, and where the first one turns.
use Rattle.std.proofs.Common.{◌≡◌, ◌∙◌, ℕ, ◌+◌, ◌%◌, ◌<◌, ◌≤◌, ◌++◌, true, cond, List, [], ◌∷◌, length, drop, replicate, set, get_or, count_by, Option, Some, None, arith, refl, length-set, length-append, get_or-set_same, get_or-set_other}
use Rattle.std.proofs.lemmas.Bool.Decides.{nat_tests}
use Rattle.std.proofs.lemmas.List.{get_or_past, get_or-replicate, length-replicate, set-set}
use Rattle.std.proofs.lemmas.List.Sums.{sum_by-set, sum_by-cons, sum_by_push, get_or-le-sum_by}
use Rattle.iscsi_window.specs.declared.held_request.HeldRequest.{HeldRequest}
use Rattle.iscsi_window.specs.Windows.{holds_command}
use Rattle.iscsi_window.proofs.PlaceLemmas.{none_pass}
use Rattle.iscsi_window.specs.Tags.{group_of, is_group, is_of, raised, lowered, IsCounted}

-- ---- one place is written

count_set : (g : ℕ) (xs : List (Option (Option HeldRequest))) (k : ℕ) (v : Option (Option HeldRequest)) → k < length xs → count_by (is_of g) (set xs k v) + cond (is_of g (get_or xs k None)) 1 0 ≡ count_by (is_of g) xs + cond (is_of g v) 1 0
count_set g xs k v within = sum_by-set (λ x. cond (is_of g x) 1 0) xs k v None within

pub group_of_true : (g : ℕ) (x : Option ℕ) → is_group g x ≡ true → x ≡ Some g
group_of_true g x passes = grind (arith, nat_tests)

-- a counter that a group of a place has stands in the table
pub group_within : (place : Option (Option HeldRequest)) (g : ℕ) → group_of place ≡ Some g → g < 4093
group_within place g is = grind (arith, nat_tests)

pub is_held : (counts : List ℕ) (xs : List (Option (Option HeldRequest))) (k g : ℕ) → IsCounted counts xs → k < length xs → group_of (get_or xs k None) ≡ Some g → 0 < get_or counts g 0
is_held counts xs k g c within is = let least = get_or-le-sum_by (λ x. cond (is_of g x) 1 0) xs k None within in grind (arith, nat_tests, c.exact g)

-- what was there is taken back
lowered_counted : (counts : List ℕ) (xs : List (Option (Option HeldRequest))) (k : ℕ) → IsCounted counts xs → k < length xs → IsCounted (lowered counts (group_of (get_or xs k None))) (set xs k None)
lowered_counted counts xs k c within = record {
  as_many = grind (arith, c.as_many, length-set);
  few = grind (arith, c.few, length-set);
  exact = λ g. grind (arith, nat_tests, count_set g xs k None within, c.exact g, c.as_many, get_or-set_same counts, get_or-set_other counts);
}

-- what comes there is counted, where nothing was
pub raised_counted : (counts : List ℕ) (xs : List (Option (Option HeldRequest))) (k : ℕ) (v : Option (Option HeldRequest)) → IsCounted counts xs → k < length xs → get_or xs k None ≡ None → IsCounted (raised counts (group_of v)) (set xs k v)
raised_counted counts xs k v c within free = record {
  as_many = grind (arith, c.as_many, length-set);
  few = grind (arith, c.few, length-set);
  exact = λ g. grind (arith, nat_tests, count_set g xs k v within, c.exact g, c.as_many, get_or-set_same counts, get_or-set_other counts);
}

pub put_counted : (counts : List ℕ) (xs : List (Option (Option HeldRequest))) (k : ℕ) (v : Option (Option HeldRequest)) → IsCounted counts xs → k < length xs → IsCounted (raised (lowered counts (group_of (get_or xs k None))) (group_of v)) (set xs k v)
put_counted counts xs k v c within = grind (arith, nat_tests, set-set, raised_counted, lowered_counted, length-set, get_or-set_same)

-- ---- the first place turns

pub turned_counted : (counts : List ℕ) (xs : List (Option (Option HeldRequest))) → IsCounted counts xs → 0 < length xs → IsCounted (lowered counts (group_of (get_or xs 0 None))) (drop 1 xs ++ None ∷ [])
turned_counted counts xs c some = grind (arith, nat_tests, lowered_counted, length-append, sum_by-cons, sum_by_push)

-- ---- at the opening

pub zeros : (n g : ℕ) → get_or {A = ℕ} (replicate n 0) g 0 ≡ 0
zeros n g = grind (arith, get_or-replicate, get_or_past, length-replicate)

pub opened_counted : (size : ℕ) → size ≤ 1024 → IsCounted (replicate 4093 0) (replicate size None)
opened_counted size few = record {
  as_many = length-replicate {A = ℕ} 4093 0;
  few = simp length-replicate few;
  exact = λ g. zeros 4093 g ∙ none_pass {X = Option HeldRequest} (is_of g) refl size;
}

-- ---- a search

-- a command with a tag is of the tag's group
pub command_of : (tag unit : ℕ) (x : Option (Option HeldRequest)) → holds_command tag unit x ≡ true → is_of (tag % 4093) x ≡ true
command_of tag unit x is = grind (arith, nat_tests)
