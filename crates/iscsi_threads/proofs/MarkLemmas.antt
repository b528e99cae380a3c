-- A ring is marked, and marks stay.
use Rattle.std.proofs.Common.{◌^◌, w64, ◌≡◌, ◌≢◌, ◌∙◌, ℕ, ◌*◌, ◌/◌, ◌%◌, ◌<◌, List, length, set, get_or, arith, ap, sym, ⊎_elim, get_or-set_same, get_or-set_other}
use Rattle.std.specs.Prelude.{bit_or}
use Rattle.std.specs.Int.{bit_at}
use Rattle.std.proofs.lemmas.Bool.{cases_eq}
use Rattle.std.proofs.lemmas.Nat.Bits.{bit_at_set_same, bit_at_set_other}
use Rattle.iscsi_threads.specs.private.Watched.{mark, IsMarked}

-- two numbers of one word have two bits
two_bits : (n m : ℕ) → n ≢ m → n / 64 ≡ m / 64 → n % 64 ≢ m % 64
two_bits n m ne same both = ne (omega (arith, same, both))

pub marked : (words : List ℕ) (n : ℕ) → length words ≡ 5 → n < 320 → IsMarked words (set words (n / 64) (bit_or (get_or words (n / 64) 0) (1 * 2 ^ (n % 64) % 2 ^ 64))) n
marked words n long low =
    let word : ℕ = get_or words (n / 64) 0 in
    let x : ℕ = bit_or word (1 * 2 ^ (n % 64) % 2 ^ 64) in
    let within : n % 64 < 64 = omega arith in
    let there : n / 64 < length words = omega (arith, long, low) in
    record {
      here = ap (λ y. bit_at y (n % 64)) (get_or-set_same words (n / 64) x 0 there) ∙ bit_at_set_same w64 word (n % 64) within;
      others = λ m ne. ⊎_elim
          (λ same.
          ap (λ i. bit_at (get_or (set words (n / 64) x) i 0) (m % 64)) same
          ∙ ap (λ y. bit_at y (m % 64)) (get_or-set_same words (n / 64) x 0 there)
          ∙ bit_at_set_other w64 word (n % 64) within (m % 64) (two_bits m n ne same)
          ∙ ap (λ i. bit_at (get_or words i 0) (m % 64)) (sym same))
          (λ other. ap (λ y. bit_at y (m % 64)) (get_or-set_other words (n / 64) (m / 64) x 0 other))
          (cases_eq (m / 64) (n / 64));
    }

-- what is marked stays so where another ring is marked
pub stays : (old new : List ℕ) (k n : ℕ) → IsMarked old new k → mark old n ≡ 1 → mark new n ≡ 1
stays old new k n is before = ⊎_elim
    (λ same. ap (mark new) same ∙ is.here)
    (λ other. is.others n other ∙ before)
    (cases_eq n k)
