-- The oldest command that passes a test, by the place that a search along the set gave.
use Rattle.std.proofs.Common.{◌≡◌, ℕ, Bool, false, Some, None, position, find, get_or, arith}
use Rattle.std.proofs.lemmas.List.Quantifiers.{position-Some}
use Rattle.iscsi_tasks.proofs.Names.{nat_tests, Task, Member, Members, tasks_in}
use Rattle.iscsi_tasks.proofs.ListLemmas.{find-map}
use Rattle.iscsi_tasks.proofs.PlaceLemmas.{place_is, none_at_position}
use Rattle.iscsi_tasks.proofs.SearchLemmas.{find_place, find_nowhere}

module _ (passes : Task → Bool) (s : Members) where
  -- none passes
  pub absent : position (λ m. passes m.task) s.list ≡ None → find passes (tasks_in s) ≡ None
  absent none = grind (arith, nat_tests, find-map, find_nowhere, none_at_position)

  -- the one at this place is the oldest that passes
  pub present : (at : ℕ) (task : Task) → position (λ m. passes m.task) s.list ≡ Some at → ((d : Member) → task ≡ (get_or s.list at d).task) → find passes (tasks_in s) ≡ Some task
  present at task place is =
      let d : Member = record { task = task; enabled = false; given = false } in
      let here = position-Some (λ (m : Member). passes m.task) s.list at d place in
      grind (arith, nat_tests, find-map, find_place, place_is)
