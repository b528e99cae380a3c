-- Numbers of one window never meet in a table whose size divides 2 ^ 32.
use Rattle.std.proofs.Common.{◌≡◌, ℕ, ◌+◌, ◌-◌, ◌*◌, ◌/◌, ◌%◌, ◌<◌, ◌≤◌, ◌&&◌, ◌==◌, nat_le, ◌⊎◌, Bool, true, false, cond, List, [], ◌∷◌, length, find, get_or, set, Some, None, unwrap_or, refl, ap, sym, ◌∙◌, arith, ⊎_elim, inl, inr, le_refl}
use Rattle.std.specs.List.{list_all}
use Rattle.std.proofs.lemmas.Bool.{cases_eq, cases_lt, eqb-true, false≢true, leb-true}
use Rattle.std.proofs.lemmas.List.{get_or-set_other, get_or-set_same, length-set}
use Rattle.std.proofs.lemmas.Nat.{div-add-mod', mod_below, row_fits}
use Rattle.std.proofs.Math.Nat.{add-mul-mod_self_right}
use Rattle.iscsi_requests.specs.Numbers.{AreKnown, HeldNumbers, IsInWindow, SIZES, distance, size_for}
use Rattle.iscsi_requests.specs.Kept.{IsRound}

-- two numbers that are less than a size apart, with one remainder
below_apart : (size a b from : ℕ) → b < size → (a + from) % size ≡ (b + from) % size → (a + from) / size < (b + from) / size → ⊥
below_apart size a b from small same less =
    let x = div-add-mod' (a + from) size in
    let y = div-add-mod' (b + from) size in
    let z = row_fits ((a + from) / size) size ((b + from) / size) size less (le_refl size) in
    absurd (omega (arith, x, y, z, small, same))

one_remainder : (size a b from : ℕ) → a < size → b < size → (a + from) % size ≡ (b + from) % size → a ≡ b
one_remainder size a b from a_small b_small same = ⊎_elim
    (λ less. absurd (below_apart size a b from b_small same less))
    (λ more. ⊎_elim
    (λ (even : (a + from) / size ≡ (b + from) / size).
    let x = div-add-mod' (a + from) size in
    let y = div-add-mod' (b + from) size in
    let z = ap (λ q. q * size) even in omega (arith, x, y, z, same))
    (λ other. absurd (below_apart size b a from a_small (sym same) (omega (arith, more, other))))
    (cases_eq ((a + from) / size) ((b + from) / size)))
    (cases_lt ((a + from) / size) ((b + from) / size))

-- a number is as far behind another one as is told, where it may have wrapped
wrapped : (from number : ℕ) → from < 4294967296 → number < 4294967296 → (distance from number + from ≡ number) ⊎ (distance from number + from ≡ number + 4294967296)
wrapped from number a b =
    let sum = number + (4294967296 - from) in
    let x = div-add-mod' sum 4294967296 in
    let y = mod_below sum 4294967296 (omega arith) in
    ⊎_elim
    (λ less. inr (omega (arith, x, y, a, b, less)))
    (λ more. inl (omega (arith, x, y, a, b, more)))
    (cases_lt number from)

module _ (size : ℕ) (whole : 4294967296 % size ≡ 0) where
  turns : 4294967296 ≡ 4294967296 / size * size
  turns = let x = div-add-mod' 4294967296 size in omega (arith, x, whole)

  remainder : (from number : ℕ) → IsInWindow size from number → (distance from number + from) % size ≡ number % size
  remainder from number is = ⊎_elim
      (λ same. ap (λ n. n % size) same)
      (λ more. ap (λ n. n % size) more ∙ ap (λ w. (number + w) % size) turns ∙ add-mul-mod_self_right number (4294967296 / size) size)
      (wrapped from number is.from_fits is.fits)

  pub never_meet : (from number other : ℕ) → IsInWindow size from number → IsInWindow size from other → number % size ≡ other % size → number ≡ other
  never_meet from number other is too same =
      let even : distance from number ≡ distance from other =
      one_remainder size (distance from number) (distance from other) from is.near too.near (remainder from number is ∙ same ∙ sym (remainder from other too)) in
      let a = wrapped from number is.from_fits is.fits in
      let b = wrapped from other too.from_fits too.fits in
      let c = is.fits in
      let d = too.fits in
      ⊎_elim
      (λ x. ⊎_elim (λ y. omega (arith, even, x, y)) (λ y. absurd (omega (arith, even, x, y, c))) b)
      (λ x. ⊎_elim (λ y. absurd (omega (arith, even, x, y, d))) (λ y. omega (arith, even, x, y)) b)
      a

pub are_known : (v : HeldNumbers) → (size : ℕ) → IsRound size (length v.places) → AreKnown v
are_known v size is = record {
  some = some;
  here = λ number place.
      ap (λ n. get_or (set v.places (number % length v.places) place) (number % n) None) (length-set v.places (number % length v.places) place)
      ∙ get_or-set_same v.places (number % length v.places) place None (mod_below number (length v.places) some);
  others = λ from number other place near too apart.
      ap (λ n. get_or (set v.places (number % length v.places) place) (other % n) None) (length-set v.places (number % length v.places) place)
      ∙ get_or-set_other v.places (number % length v.places) (other % length v.places) place None
      (λ same. apart (never_meet (length v.places) whole from number other near too (sym same)));
}
  where
    some : 1 ≤ length v.places
    some = let a = is.some in let b = is.same in omega (arith, a, b)

    whole : 4294967296 % length v.places ≡ 0
    whole = ap (λ n. 4294967296 % n) is.same ∙ is.whole

-- ---- the size of a table

module _ (p : ℕ → Bool) (d : ℕ) where
  passes : (test : ℕ → Bool) (sizes : List ℕ) → list_all test sizes ≡ true → test d ≡ true → test (unwrap_or (find p sizes) d) ≡ true
  passes test [] all last = last
  passes test (s ∷ sizes) all last =
      elim (p s) as (λ b. test (unwrap_or (cond b (Some s) (find p sizes)) d) ≡ true) [
        | true ↦ and_left (test s) (list_all test sizes) all
        | false ↦ passes test sizes (and_right (test s) (list_all test sizes) all) last
      ]
    where
      and_left : (a b : Bool) → (a && b) ≡ true → a ≡ true
      and_left true b e = refl
      and_left false b e = e

      and_right : (a b : Bool) → (a && b) ≡ true → b ≡ true
      and_right true b e = e
      and_right false b e = absurd (false≢true e)

wide_enough : (window : ℕ) (sizes : List ℕ) → window ≤ 1024 → window ≤ unwrap_or (find (λ size. nat_le window size) sizes) 1024
wide_enough window [] few = few
wide_enough window (s ∷ sizes) few =
    elim (nat_le window s) as (λ b. nat_le window s ≡ b → window ≤ unwrap_or (cond b (Some s) (find (λ size. nat_le window size) sizes)) 1024) [
      | true ↦ λ is. leb-true window s is
      | false ↦ λ is. wide_enough window sizes few
    ] refl

pub is_wide : (window : ℕ) → window ≤ 1024 → window ≤ size_for window
is_wide window few = wide_enough window SIZES few

pub is_some : (window : ℕ) → 1 ≤ size_for window
is_some window = leb-true 1 (size_for window) (passes (λ size. nat_le window size) 1024 (λ size. nat_le 1 size) SIZES refl refl)

pub is_whole : (window : ℕ) → 4294967296 % size_for window ≡ 0
is_whole window = eqb-true (4294967296 % size_for window) 0 (passes (λ size. nat_le window size) 1024 (λ size. 4294967296 % size == 0) SIZES refl refl)
