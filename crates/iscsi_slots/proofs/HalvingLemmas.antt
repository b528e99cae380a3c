-- A binary search by ticket.
use Rattle.std.proofs.Common.{◌≡◌, ◌≢◌, ℕ, ◌+◌, ◌-◌, ◌/◌, ◌<◌, ◌≤◌, ◌==◌, false, List, length, All, get_or, sym, subst, arith, ⊎_elim, ne_eqb}
use Rattle.std.proofs.Math.Nat.{div-lt_self}
use Rattle.std.proofs.lemmas.Bool.{cases_eq}
use Rattle.std.proofs.lemmas.Bool.Decides.{nat_tests}
use Rattle.iscsi_slots.specs.Places.{AreAscending}

module _ {X : Type 0} (ticket : X → ℕ) (xs : List X) (n : ℕ) where
  -- those before the low place have lower tickets, and those from the high one on have not
  pub record IsHalved (low high : ℕ) : Type 0 where
    pub ordered : low ≤ high
    pub inside : high ≤ length xs
    pub below : (k : ℕ) (d : X) → k < low → ticket (get_or xs k d) < n
    pub above : (k : ℕ) (d : X) → high ≤ k → k < length xs → n ≤ ticket (get_or xs k d)

  module _ (ascending : AreAscending ticket xs) {low high : ℕ} (halved : IsHalved low high) (m : ℕ) (from : low ≤ m) (to : m < high) where
    inside : m < length xs
    inside = let l = halved.inside in omega (arith, l, to)

    pub halved_up : ((d : X) → ticket (get_or xs m d) < n) → IsHalved (m + 1) high
    halved_up lower = record {
      ordered = omega (arith, to);
      inside = halved.inside;
      below = λ k d l. ⊎_elim
          (λ same. subst (λ j. ticket (get_or xs j d) < n) (sym same) (lower d))
          (λ apart. let up : ticket (get_or xs k d) < ticket (get_or xs m d) = ascending k m d (omega (arith, l, apart)) inside in let least = lower d in omega (arith, up, least))
          (cases_eq k m);
      above = halved.above;
    }

    pub halved_down : ((d : X) → n ≤ ticket (get_or xs m d)) → IsHalved low m
    halved_down upper = record {
      ordered = from;
      inside = let l = inside in omega (arith, l);
      below = halved.below;
      above = λ k d l within. ⊎_elim
          (λ same. subst (λ j. n ≤ ticket (get_or xs j d)) (sym same) (upper d))
          (λ apart. let up : ticket (get_or xs m d) < ticket (get_or xs k d) = ascending m k d (omega (arith, l, apart)) within in let most = upper d in omega (arith, up, most))
          (cases_eq k m);
    }

-- the place in the middle
pub half_from : (low high : ℕ) → low ≤ low + (high - low) / 2
half_from low high = omega arith

pub half_to : (low high : ℕ) → low < high → low + (high - low) / 2 < high
half_to low high l = let half : (high - low) / 2 < high - low = div-lt_self (omega (arith, l)) (omega arith) in omega (arith, l, half)

-- the same place, by the sum of both ends
pub middle_from : (low high : ℕ) → low ≤ high → low ≤ (low + high) / 2
middle_from low high l = omega (arith, l)

pub middle_to : (low high : ℕ) → low < high → (low + high) / 2 < high
middle_to low high l = omega (arith, l)

-- the ticket isn't there, as the first of those that aren't lower, if there is one, has another
pub not_there : {X : Type 0} (ticket : X → ℕ) (xs : List X) (n at : ℕ) → AreAscending ticket xs → ((k : ℕ) (d : X) → k < at → ticket (get_or xs k d) < n) → ((k : ℕ) (d : X) → at ≤ k → k < length xs → n ≤ ticket (get_or xs k d)) → (at < length xs → (d : X) → ticket (get_or xs at d) ≢ n) → All (λ x. (ticket x == n) ≡ false) xs
not_there ticket xs n at ascending below above other = grind (arith, nat_tests, ne_eqb)
