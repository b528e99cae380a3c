-- From which number on functions may cover commands of a set.
use Rattle.std.proofs.Common.{◌≡◌, ◌∙◌, ◌==◌, not, Bool, ℕ, zero, suc, ◌<◌, ℤ, ◌≤ℤ◌, cond, true, false, List, [], ◌∷◌, ◌++◌, length, map, get_or, All, ap, sym, subst, arith}
use Rattle.std.specs.Int.{int_min}
use Rattle.std.specs.List.{fold}
use Rattle.std.proofs.lemmas.Int.{ints, clamps}
use Rattle.std.proofs.lemmas.Bool.{and_left, and_right, or_from, ne_eqb, false_from_ne_true, true_from_ne_false}
use Rattle.iscsi_tasks.proofs.Names.{nat_tests, Task, Cover, Member, is_covered, after_moment, without, uncovered, list_staying, IsCoveredFrom, is_below}
use Rattle.iscsi_tasks.proofs.Names.{covered_from, greatest_number, covered_from_with, covered_from_in, covered_from_first, IsAscending}
use Rattle.std.proofs.lemmas.Bool.Decides.{Decides-int_eq}
use Rattle.std.proofs.lemmas.List.Elements.{All-cons, All-filter, All-map, All-nil, All-push}
use Rattle.iscsi_tasks.proofs.HistoryLemmas.{tasks-looked}
use Rattle.iscsi_tasks.proofs.ListLemmas.{filter-map}
use Rattle.iscsi_tasks.proofs.StayingLemmas.{staying_cases}

-- no function with a number below that of the command covers it
none_below : (t : Task) (cover : Cover) → is_below (covered_from t) cover ≡ true → is_covered cover t ≡ false
none_below t cover below = grind (arith, nat_tests, or_from, ints, and_right, false_from_ne_true, Decides-int_eq, clamps, and_left)

-- where a number serves, each lower one does
is_below-le : (a b : ℤ) (cover : Cover) → a ≤ℤ b → is_below a cover ≡ true → is_below b cover ≡ true
is_below-le a b cover le below = grind (arith, nat_tests, true_from_ne_false, ints)

-- a command entered
pub covered_from_push : (number : ℤ) (list : List Task) (t : Task) → IsCoveredFrom number list → IsCoveredFrom (covered_from_with number (length list) t) (list ++ t ∷ [])
covered_from_push number [] t kept cover below = All-push (λ x. is_covered cover x ≡ false) [] t (All-nil (λ x. is_covered cover x ≡ false)) (none_below t cover below)
covered_from_push number (x ∷ xs) t kept cover below =
    let lower : is_below (int_min number (covered_from t)) cover ≡ true = ap (λ b. is_below (cond b (covered_from t) (int_min number (covered_from t))) cover) (sym (ne_eqb (suc (length xs)) 0 (λ e. omega arith))) ∙ below in
    let least : int_min number (covered_from t) ≤ℤ number = omega (arith, ints, clamps) in
    let last : int_min number (covered_from t) ≤ℤ covered_from t = omega (arith, ints, clamps) in
    All-push (λ y. is_covered cover y ≡ false) (x ∷ xs) t
    (kept cover (is_below-le _ number cover least lower))
    (none_below t cover (is_below-le _ (covered_from t) cover last lower))

-- a command left
pub covered_from_left : (number : ℤ) (list : List Member) (ticket : ℕ) → IsCoveredFrom number (map (λ m. m.task) list) → IsCoveredFrom number (map (λ m. m.task) (after_moment (without ticket list)))
covered_from_left number list ticket kept cover below =
    let P : Task → Type 0 = λ t. is_covered cover t ≡ false in
    subst (All P) (filter-map (λ t. not (t.ticket == ticket)) (λ m. m.task) list ∙ sym (tasks-looked (without ticket list) (without ticket list)))
    (All-filter (λ t. not (t.ticket == ticket)) P (map (λ m. m.task) list) (kept cover below))

-- commands left together
pub covered_from_staying : (number : ℤ) (covers : Task → Bool) (list : List Member) → IsCoveredFrom number (map (λ m. m.task) list) → IsCoveredFrom number (map (λ m. m.task) (list_staying covers list))
covered_from_staying number covers list kept = staying_cases covers list (λ (l : List Member). IsCoveredFrom number (map (λ m. m.task) l))
    (λ none. kept)
    (λ some cover below.
    let P : Task → Type 0 = λ t. is_covered cover t ≡ false in
    subst (All P) (filter-map (λ t. not (covers t)) (λ m. m.task) list ∙ sym (tasks-looked (uncovered covers list) (uncovered covers list)))
    (All-filter (λ t. not (covers t)) P (map (λ m. m.task) list) (kept cover below)))

-- the commands were looked at
least : (number : ℤ) (list : List Member) → (fold (λ n m. int_min n (covered_from m.task)) number list ≤ℤ number) × All (λ x. fold (λ n m. int_min n (covered_from m.task)) number list ≤ℤ covered_from x.task) list
least number [] = (omega (arith, ints), All-nil (λ x. number ≤ℤ covered_from x.task))
least number (m ∷ ms) = grind (arith, nat_tests, least (int_min number (covered_from m.task)) ms, ints, clamps, All-cons)

pub covered_from_all : (list : List Member) → IsCoveredFrom (covered_from_in list) (map (λ m. m.task) list)
covered_from_all list cover below = All-map (λ t. is_covered cover t ≡ false) (λ (m : Member). m.task) list
    (λ k d l. let m = get_or list k d in none_below m.task cover (is_below-le _ (covered_from m.task) cover ((least greatest_number list).1 k d l) below))

-- the oldest was looked at
oldest : (m : Member) (ms : List Member) → IsAscending (m ∷ ms) → (k : ℕ) (d : Member) → k < length (m ∷ ms) → covered_from m.task ≤ℤ covered_from (get_or (m ∷ ms) k d).task
oldest m ms up zero d within = omega (arith, ints)
oldest m ms up (suc k) d within = up 0 (suc k) d (omega arith) within

pub covered_from_oldest : (list : List Member) → IsAscending list → IsCoveredFrom (covered_from_first list) (map (λ m. m.task) list)
covered_from_oldest [] up cover below = All-nil (λ t. is_covered cover t ≡ false)
covered_from_oldest (m ∷ ms) up cover below = All-map (λ t. is_covered cover t ≡ false) (λ (x : Member). x.task) (m ∷ ms)
    (λ k d l. let x = get_or (m ∷ ms) k d in none_below x.task cover (is_below-le (covered_from m.task) (covered_from x.task) cover (oldest m ms up k d l) below))
