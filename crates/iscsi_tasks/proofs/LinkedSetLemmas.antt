-- What holds of every linked set, as its commands change.
use Rattle.std.proofs.Common.{◌≡◌, ◌∙◌, ℕ, ℤ, ◌<◌, ◌≤◌, ◌==◌, not, Bool, true, eq-eqb, ne_eqb, List, [], length, map, get_or, Some, refl, ap, sym, subst, arith}
use Rattle.std.specs.List.{remove}
use Rattle.std.proofs.lemmas.List.{length-map, get_or_past}
use Rattle.iscsi_tasks.proofs.Names.{times, Attr, Simple, Ordered, Head, Member, Task, Marks, BLANK, tasks_in, after_moment, looked_at, without, with_ticket}
use Rattle.iscsi_tasks.proofs.Names.{is_enabled_in, IsCoveredFrom, IsSettled, IsAscendingTo, is_free_behind, Linked, linked, IsInSlots, IsMarked, IsKeptLinked}
use Rattle.iscsi_tasks.proofs.Names.{HasTicket, is_free_by, nat_tests}
use Rattle.iscsi_slots.proofs.SlotLemmas.{StandsAt}
use Rattle.iscsi_slots.proofs.SortedLemmas.{remove_is}
use Rattle.iscsi_tasks.proofs.ChainLemmas.{not_end}
use Rattle.iscsi_tasks.proofs.CountLemmas.{counted_none_yet, first-le}
use Rattle.iscsi_tasks.proofs.CoveredFromLemmas.{covered_from_left}
use Rattle.iscsi_tasks.proofs.FrontLemmas.{ascending_none, ascending_left}
use Rattle.iscsi_tasks.proofs.MarkedLemmas.{some_at}
use Rattle.iscsi_tasks.proofs.MomentLemmas.{settled_after}
use Rattle.iscsi_tasks.proofs.SearchLemmas.{found, enabled_at}
use Rattle.iscsi_tasks.proofs.StayingLemmas.{filter-shorter}

pub marked_none_yet : IsMarked (record { heads = 0; ordered = 0; dormant = 0; new_from = 0; new_to = 0 }) [] []
marked_none_yet = grind (arith, nat_tests, counted_none_yet)

pub kept_none_yet : (depth : ℕ) (number most : ℤ) → 1 ≤ depth → depth ≤ 1024 → IsKeptLinked depth depth number true most (record { heads = 0; ordered = 0; dormant = 0; new_from = 0; new_to = 0 }) [] []
unfolding marked_none_yet
kept_none_yet depth number most least few = grind (arith, nat_tests, marked_none_yet, ascending_none)

-- commands change or leave, and none comes
pub kept_on : {depth room : ℕ} {number : ℤ} {ascends : Bool} {most : ℤ} {m : Marks} {slots : List ℕ} {list : List Member} → IsKeptLinked depth room number ascends most m slots list → {after : Marks} {slots_after : List ℕ} {now : List Member} {room_after : ℕ} → IsMarked after slots_after now → length now ≤ length list → room_after ≡ room → IsSettled now → IsCoveredFrom number (map (λ x. x.task) now) → (IsAscendingTo most list → IsAscendingTo most now) → IsKeptLinked depth room_after number ascends most after slots_after now
kept_on kept marked fewer same settled covered_from front = grind (arith, nat_tests)

-- the numbers from which on functions may cover the commands are determined anew
pub kept_numbered : {depth room : ℕ} {number : ℤ} {ascends : Bool} {most : ℤ} {m : Marks} {slots : List ℕ} {list : List Member} → IsKeptLinked depth room number ascends most m slots list → {number_now : ℤ} {ascends_now : Bool} {most_now : ℤ} → IsCoveredFrom number_now (map (λ x. x.task) list) → (ascends_now ≡ true → IsAscendingTo most_now list) → IsKeptLinked depth room number_now ascends_now most_now m slots list
kept_numbered kept covered_from front = grind (arith, nat_tests)

pub in_slots : {depth looked room : ℕ} {number : ℤ} {ascends : Bool} {most : ℤ} {m : Marks} {slots : List ℕ} {list : List Member} → IsKeptLinked depth room number ascends most m slots list → IsInSlots (linked (record { depth = depth; looked = looked; list = list }) slots)
in_slots kept = grind (arith, nat_tests)

-- a command that enters is free by the marks where it is by the counts
pub free_is : {m : Marks} {slots : List ℕ} {list : List Member} (marked : IsMarked m slots list) (attr : Attr) → is_free_by m (length list) attr ≡ is_free_behind marked.counts (length list) attr
free_is marked Head = refl
free_is marked Ordered = refl
free_is {m} {slots} {list} marked Simple = grind (arith, nat_tests, first-le, ne_eqb, not_end, eq-eqb, get_or_past)

-- ---- the command with a ticket

module _ {l : Linked} (sound : IsInSlots l) (ticket slot : ℕ) (at : HasTicket l.slots l.shown.list ticket slot) where
  pub place_in : at.place < length l.slots
  place_in = let inside = at.inside in let long = sound.long in omega (arith, inside, long)

  pub slot_there : 1 ≤ times slot l.slots
  slot_there = some_at l.slots at.place slot place_in at.there

  -- it is the one that was read
  pub task_found : (task : Task) → ((k : ℕ) (d : Member) → k < length l.slots → get_or l.slots k 0 ≡ slot → task ≡ (get_or l.shown.list k d).task) → with_ticket ticket (tasks_in l.shown) ≡ Some task
  task_found task read = found l.shown.list sound.order ticket at.place at.inside at.ticket_is BLANK ∙ ap Some (sym (read at.place BLANK place_in at.there))

  pub enabled_found : (one : Member) → ((k : ℕ) (d : Member) → k < length l.slots → get_or l.slots k 0 ≡ slot → one ≡ get_or l.shown.list k d) → one.enabled ≡ is_enabled_in ticket l.shown.list
  enabled_found one read = ap (λ (x : Member). x.enabled) (read at.place BLANK place_in at.there) ∙ enabled_at l.shown.list sound.order ticket at.place at.inside at.ticket_is BLANK

-- ---- a command leaves

module _ {depth room : ℕ} {number : ℤ} {ascends : Bool} {most : ℤ} {m : Marks} {slots : List ℕ} {list : List Member} (kept : IsKeptLinked depth room number ascends most m slots list) (one : Member) where
  -- what is left of the set without the one that was read
  pub left_is : {slot : ℕ} (at : StandsAt slot slots) → ((k : ℕ) (d : Member) → k < length slots → get_or slots k 0 ≡ slot → one ≡ get_or list k d) → after_moment (remove list at.place) ≡ after_moment (without one.task.ticket list)
  left_is at read =
      let inside = at.inside in let long = kept.marked.long in
      ap after_moment (remove_is (λ (x : Member). x.task.ticket) list at.place BLANK kept.marked.counted.order (omega (arith, inside, long))
      ∙ ap (λ (x : Member). without x.task.ticket list) (sym (read at.place BLANK inside at.there)))

  pub kept_left : {after : Marks} {slots_after : List ℕ} {now : List Member} {room_after : ℕ} → IsMarked after slots_after now → now ≡ after_moment (without one.task.ticket list) → room_after ≡ room → IsKeptLinked depth room_after number ascends most after slots_after now
  kept_left {now = now} marked is same =
      let ticket : ℕ = one.task.ticket in
      let short = filter-shorter (λ (x : Member). not (x.task.ticket == ticket)) list in
      let long = ap length is in let mapped = length-map (without ticket list) (looked_at (without ticket list)) in
      kept_on kept marked (omega (arith, short, long, mapped)) same (subst IsSettled (sym is) (settled_after (without ticket list)))
      (subst (λ (l : List Member). IsCoveredFrom number (map (λ x. x.task) l)) (sym is) (covered_from_left number list ticket kept.covered_from))
      (λ up. subst (IsAscendingTo most) (sym is) (ascending_left most list ticket up))
