-- Sets along which the numbers from which on functions may cover the commands go up.
use Rattle.std.proofs.Common.{◌≡◌, ◌∙◌, ℕ, suc, ◌<◌, ◌+◌, ◌==◌, ◌||◌, ◌&&◌, not, ℤ, ◌≤ℤ◌, int_lt, Bool, true, List, [], ◌∷◌, ◌++◌, length, map, filter, take, get_or, All, ap, sym, arith, ne_eqb}
use Rattle.std.proofs.lemmas.Int.{ints}
use Rattle.std.proofs.lemmas.Bool.{and_parts}
use Rattle.std.proofs.lemmas.List.{get_or-map, length-map, length-take-le, take_more}
use Rattle.std.proofs.lemmas.List.Elements.{All-push, All-nil, All-filter}
use Rattle.std.proofs.lemmas.List.Kept.{AllPairs-filter}
use Rattle.std.proofs.lemmas.List.Quantifiers.{all_pairs_push}
use Rattle.iscsi_tasks.proofs.Names.{nat_tests, Task, Member, uncovered, without, after_moment, given_in, list_staying, covered_from, ascends_with}
use Rattle.iscsi_tasks.proofs.Names.{IsAscendingTo}
use Rattle.iscsi_tasks.proofs.HistoryLemmas.{tasks-looked}
use Rattle.iscsi_tasks.proofs.GivingLemmas.{tasks-given}
use Rattle.iscsi_tasks.proofs.StayingLemmas.{staying_cases}

-- ---- sets with the same commands

module _ (xs ys : List Member) (same : map (λ m. m.task) ys ≡ map (λ m. m.task) xs) where
  long_alike : length ys ≡ length xs
  long_alike = sym (length-map ys (λ m. m.task)) ∙ ap length same ∙ length-map xs (λ m. m.task)

  task_alike : (k : ℕ) (d : Member) → k < length ys → (get_or ys k d).task ≡ (get_or xs k d).task
  task_alike k d within =
      let inside : k < length xs = omega (arith, long_alike) in
      sym (get_or-map (λ (m : Member). m.task) ys k d d.task within) ∙ ap (λ (ts : List Task). get_or ts k d.task) same ∙ get_or-map (λ (m : Member). m.task) xs k d d.task inside

  pub ascending_alike : (most : ℤ) → IsAscendingTo most xs → IsAscendingTo most ys
  ascending_alike most up = grind (arith, nat_tests, task_alike, long_alike)

-- ---- a set that changes

pub ascending_none : (most : ℤ) → IsAscendingTo most []
ascending_none most = record { ascending = λ i j d below within. absurd (omega (arith, within)); within = All-nil (λ (m : Member). covered_from m.task ≤ℤ most) }

pub ascending_filter : (most : ℤ) (p : Member → Bool) (list : List Member) → IsAscendingTo most list → IsAscendingTo most (filter p list)
ascending_filter most p list up =
    grind (arith, nat_tests, AllPairs-filter (λ (a b : Member). covered_from a.task ≤ℤ covered_from b.task) p list up.ascending, All-filter p (λ (m : Member). covered_from m.task ≤ℤ most) list up.within)

-- a moment passes
ascending_looked : (most : ℤ) (list : List Member) → IsAscendingTo most list → IsAscendingTo most (after_moment list)
ascending_looked most list up = ascending_alike list (after_moment list) (tasks-looked list list) most up

-- a command leaves
pub ascending_left : (most : ℤ) (list : List Member) (ticket : ℕ) → IsAscendingTo most list → IsAscendingTo most (after_moment (without ticket list))
ascending_left most list ticket up = ascending_looked most (without ticket list) (ascending_filter most (λ m. not (m.task.ticket == ticket)) list up)

-- commands leave together
pub ascending_staying : (most : ℤ) (covers : Task → Bool) (list : List Member) → IsAscendingTo most list → IsAscendingTo most (list_staying covers list)
ascending_staying most covers list up = staying_cases covers list (IsAscendingTo most)
    (λ none. up)
    (λ some. ascending_looked most (uncovered covers list) (ascending_filter most (λ m. not (covers m.task)) list up))

-- a ticket is given
pub ascending_given : (most : ℤ) (list : List Member) → IsAscendingTo most list → IsAscendingTo most (given_in list)
ascending_given most list up = ascending_alike list (given_in list) (tasks-given list) most up

-- a command enters
pub ascending_push : (ascends : Bool) (most : ℤ) (list : List Member) (m : Member) → (ascends ≡ true → IsAscendingTo most list) → ascends_with ascends most (length list) m.task ≡ true → IsAscendingTo (covered_from m.task) (list ++ m ∷ [])
ascending_push ascends most [] m kept up = grind (arith, nat_tests, All-push, All-nil, ints)
ascending_push ascends most (x ∷ xs) m kept up =
    let P : Member → Type 0 = λ y. covered_from y.task ≤ℤ covered_from m.task in
    let parts = and_parts ascends (not (int_lt (covered_from m.task) most)) (sym (ap (λ b. b || (ascends && not (int_lt (covered_from m.task) most))) (ne_eqb (suc (length xs)) 0 (λ e. omega arith))) ∙ up) in
    let was = kept parts.0 in
    let each : All P (x ∷ xs) = grind (arith, nat_tests, ints) in
    record {
      ascending = all_pairs_push (λ (a b : Member). covered_from a.task ≤ℤ covered_from b.task) (x ∷ xs) m was.ascending each;
      within = All-push P (x ∷ xs) m each (omega (arith, ints));
    }

-- one more is looked at
pub ascending_more : (ascends : Bool) (most : ℤ) (list : List Member) (k : ℕ) (m : Member) → k < length list → m ≡ get_or list k m → (ascends ≡ true → IsAscendingTo most (take k list)) → ascends_with ascends most k m.task ≡ true → IsAscendingTo (covered_from m.task) (take (k + 1) list)
ascending_more ascends most list k m within read kept up =
    grind (arith, nat_tests, ascending_push, length-take-le k list (omega arith), take_more list k m within)
