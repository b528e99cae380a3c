-- Slots that are shared among an order and the free ones.
use Rattle.std.proofs.Common.{◌≡◌, ℕ, ◌+◌, ◌<◌, ◌≤◌, List, length, get_or, arith, ⊎_elim}
use Rattle.std.proofs.lemmas.Bool.{cases_lt}
use Rattle.std.proofs.lemmas.Bool.Decides.{nat_tests}
use Rattle.iscsi_slots.specs.Slots.{times, AreShared}
use Rattle.iscsi_slots.proofs.SlotLemmas.{times_at}

module _ {order free : List ℕ} {slots room : ℕ} (shared : AreShared order free slots room) where
  -- a slot stands once among the values' and the free ones
  pub at_most_once : (slot : ℕ) → times slot order + times slot free ≤ 1
  at_most_once slot = let is = shared.once slot in grind (arith, nat_tests)

  -- none beyond the slots stands there
  pub none_beyond : (slot : ℕ) → slots ≤ slot → times slot order + times slot free ≡ 0
  none_beyond slot above = let is = shared.once slot in grind (arith, nat_tests)

  within : (slot : ℕ) → 1 ≤ times slot order + times slot free → slot < slots
  within slot some = ⊎_elim (λ below. below) (λ above. let none = none_beyond slot above in absurd (omega (arith, none, some))) (cases_lt slot slots)

  pub order_within : (k : ℕ) → k < length order → get_or order k 0 < slots
  order_within k l = let some = times_at order k l in within (get_or order k 0) (omega (arith, some))
