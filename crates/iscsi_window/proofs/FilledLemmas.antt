-- The bits of the slots stay right where a place is written, and where the first one turns; a search by them.
use Rattle.std.proofs.Common.{◌^◌, w64, min, ◌≡◌, ◌≢◌, ◌∙◌, ℕ, suc, ◌+◌, ◌-◌, ◌*◌, ◌/◌, ◌%◌, ◌<◌, ◌≤◌, ◌==◌, ◌++◌, false, List, [], ◌∷◌, length, take, drop, replicate, set, get_or, Option, Some, None, arith, ap, sym, ⊎_elim, get_or-set_same, get_or-set_other, eq-eqb}
use Rattle.std.specs.Prelude.{bit_and, bit_or}
use Rattle.std.specs.Int.{bit_at, bit_not}
use Rattle.std.specs.List.{list_any}
use Rattle.std.proofs.lemmas.Bool.Decides.{nat_tests}
use Rattle.std.proofs.lemmas.Bool.{cases_eq}
use Rattle.std.proofs.lemmas.List.{get_or-take, get_or-drop}
use Rattle.std.proofs.lemmas.List.Folds.{list_any_at}
use Rattle.std.proofs.lemmas.Nat.{and_le_l}
use Rattle.std.proofs.lemmas.Nat.Bits.{bit_at_set_same, bit_at_set_other, bit_at_clear_same, bit_at_clear_other}
use Rattle.iscsi_wire.specs.Fields.{itt}
use Rattle.iscsi_window.specs.declared.held_request.HeldRequest.{HeldRequest}
use Rattle.iscsi_window.specs.Windows.{holds_command}
use Rattle.iscsi_window.specs.FilledSlots.{slot_bit, IsSlotSet, AreFilled, NoneTagged}
use Rattle.iscsi_window.specs.PlaceTags.{AreLabelled}
use Rattle.iscsi_window.proofs.PlaceLemmas.{nothing_at, passed}
use Rattle.iscsi_window.proofs.LabelLemmas.{inside}

-- ---- one bit of a word is written

-- two slots of one word have two bits
module _ (words : List ℕ) (n x b : ℕ) (long : length words ≡ 16) (here : bit_at x (n % 64) ≡ b)
    (others : (i : ℕ) → i < 64 → i ≢ n % 64 → bit_at x i ≡ bit_at (get_or words (n % 1024 / 64) 0) i) where
  -- a word that differs in one bit
  pub written : IsSlotSet words (set words (n % 1024 / 64) x) n b
  written = grind (arith, nat_tests, get_or-set_same, get_or-set_other)

pub bit_set : (words : List ℕ) (n : ℕ) → length words ≡ 16 → IsSlotSet words (set words (n % 1024 / 64) (bit_or (get_or words (n % 1024 / 64) 0) (1 * 2 ^ (n % 64) % 2 ^ 64))) n 1
bit_set words n long =
    let word : ℕ = get_or words (n % 1024 / 64) 0 in
    let within : n % 64 < 64 = omega arith in
    written words n (bit_or word (1 * 2 ^ (n % 64) % 2 ^ 64)) 1 long (bit_at_set_same w64 word (n % 64) within) (λ i small ne. bit_at_set_other w64 word (n % 64) within i ne)

pub bit_cleared : (words : List ℕ) (n : ℕ) → length words ≡ 16 → IsSlotSet words (set words (n % 1024 / 64) (bit_and (get_or words (n % 1024 / 64) 0) (bit_not w64 (1 * 2 ^ (n % 64) % 2 ^ 64)))) n 0
bit_cleared words n long =
    let word : ℕ = get_or words (n % 1024 / 64) 0 in
    let within : n % 64 < 64 = omega arith in
    written words n (bit_and word (bit_not w64 (1 * 2 ^ (n % 64) % 2 ^ 64))) 0 long (bit_at_clear_same w64 word (n % 64) within) (λ i small ne. bit_at_clear_other w64 word (n % 64) within i small ne)

-- ---- a place is written, or the first one turns

pub none_filled : (size : ℕ) → AreFilled (replicate 16 0) 0 (replicate size None)
none_filled size = grind (arith, nat_tests, nothing_at)

pub filled_put : (old new : List ℕ) (turned : ℕ) (xs : List (Option (Option HeldRequest))) (k : ℕ) (v : Option (Option HeldRequest)) → AreFilled old turned xs → IsSlotSet old new (min (turned + k) (2 ^ 64 - 1)) 1 → length xs ≤ 1024 → k < length xs → AreFilled new turned (set xs k v)
filled_put old new turned xs k v f at few within = record {
  marked = λ j r is fits. grind (arith, nat_tests, at.here, at.others (turned + j), f.marked j r, get_or-set_other xs k j v None, inside xs j (Some r));
}

-- a place has no request any more
pub filled_cleared : (words : List ℕ) (turned : ℕ) (xs : List (Option (Option HeldRequest))) (k : ℕ) → AreFilled words turned xs → k < length xs → AreFilled words turned (set xs k (Some None))
filled_cleared words turned xs k f within = grind (arith, nat_tests, get_or-set_same, get_or-set_other)

-- the first place turns, whether its bit is cleared or not
pub filled_passed : (words : List ℕ) (turned : ℕ) (xs : List (Option (Option HeldRequest))) → AreFilled words turned xs → AreFilled words (turned + 1) (drop 1 xs ++ None ∷ [])
filled_passed words turned xs f = grind (arith, nat_tests, passed)

pub filled_turned : (old new : List ℕ) (turned : ℕ) (xs : List (Option (Option HeldRequest))) → AreFilled old turned xs → IsSlotSet old new turned 0 → length xs ≤ 1024 → AreFilled new (turned + 1) (drop 1 xs ++ None ∷ [])
filled_turned old new turned xs f at few = record {
  marked = λ j r is fits.
      let there : get_or xs (suc j) None ≡ Some (Some r) = sym (passed xs j) ∙ is in
      let number : turned + 1 + j ≡ turned + suc j = omega arith in
      ap (slot_bit new) number
      ∙ at.others (turned + suc j) (λ same. omega (arith, inside xs (suc j) (Some r) there, few, same))
      ∙ f.marked (suc j) r there (omega (arith, fits, number));
}

-- ---- a search

-- the tags of a word, read one by one
pub read_of_word : (tags part : List ℕ) (from : ℕ) → part ≡ take 64 (drop from tags) → (i : ℕ) → i < 64 → get_or part i 0 ≡ get_or tags (from + i) 0
read_of_word tags part from is i low = ap (λ ts. get_or ts i 0) is ∙ get_or-take 64 (drop from tags) i 0 low ∙ get_or-drop from tags i 0

-- the slot of a place behind another one of its word
of_one_word : (n d : ℕ) → n % 64 + d < 64 → (n + d) % 1024 ≡ n % 1024 / 64 * 64 + (n + d) % 64
of_one_word n d low = omega (arith, low)

-- none of them is one that isn't among them
pub none_of_word : (tags part : List ℕ) (from tag : ℕ) → part ≡ take 64 (drop from tags) → length part ≡ 64 → list_any (λ t. t == tag) part ≡ false → (i : ℕ) → i < 64 → get_or tags (from + i) 0 ≢ tag
none_of_word tags part from tag is long none i low same = grind (arith, nat_tests, read_of_word tags part from is i low, list_any_at, eq-eqb)

-- what holds a command with the tag has the tag
command_tag : (tag unit : ℕ) (x : Option (Option HeldRequest)) → ((r : HeldRequest) → x ≡ Some (Some r) → itt r.request ≡ tag → ⊥) → holds_command tag unit x ≡ false
command_tag tag unit x other = grind (arith, nat_tests)

-- no command with the tag is held where no slot with a bit has it
pub none_filled_with : (tags words : List ℕ) (turned : ℕ) (xs : List (Option (Option HeldRequest))) (tag unit j : ℕ) → AreLabelled tags turned xs → AreFilled words turned xs → turned ≤ 2 ^ 64 - 2049 → NoneTagged tags words tag → j < 1024 → holds_command tag unit (get_or xs j None) ≡ false
none_filled_with tags words turned xs tag unit j l f fits none low =
    command_tag tag unit (get_or xs j None) (λ r held same. grind (arith, none (turned + j), f.marked j r held, l.named j r held))

-- no command with the tag is held at places of a word none of whose slots has it
pub untagged : (tags : List ℕ) (turned : ℕ) (xs : List (Option (Option HeldRequest))) (tag unit k count number j : ℕ) → AreLabelled tags turned xs → number ≡ min (turned + k) (2 ^ 64 - 1) → number ≤ 2 ^ 64 - 2049 → number % 64 + count ≤ 64
    → ((i : ℕ) → i < 64 → get_or tags (number % 1024 / 64 * 64 + i) 0 ≢ tag) → k ≤ j → j < k + count → holds_command tag unit (get_or xs j None) ≡ false
untagged tags turned xs tag unit k count number j l is fits together none low high =
    command_tag tag unit (get_or xs j None) (λ r held same. grind (arith, none ((number + (j - k)) % 64), of_one_word number (j - k), l.named j r held))

-- ---- the bits of a word, from the lowest on

-- to clear a bit that is set makes the word smaller, and leaves the other bits
pub bit_taken : (word k : ℕ) → k < 64 → bit_at word k ≡ 1
    → let left = bit_and word (bit_not w64 (1 * 2 ^ k % 2 ^ 64)) in
    (left < word) × ((j : ℕ) → j < 64 → j ≢ k → bit_at left j ≡ bit_at word j)
bit_taken word k within one =
    let left : ℕ = bit_and word (bit_not w64 (1 * 2 ^ k % 2 ^ 64)) in
    let gone : bit_at left k ≡ 0 = bit_at_clear_same w64 word k within in (
      ⊎_elim
          (λ same. absurd (let both : bit_at left k ≡ bit_at word k = ap (λ x. bit_at x k) same in omega (arith, both, gone, one)))
          (λ other. omega (arith, other, and_le_l word (bit_not w64 (1 * 2 ^ k % 2 ^ 64))))
          (cases_eq left word),
      λ j small other. bit_at_clear_other w64 word k within j small other,
    )
