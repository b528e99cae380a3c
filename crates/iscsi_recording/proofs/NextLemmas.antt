-- The event that comes next, by its kind.
use Rattle.std.proofs.Common.{◌≡◌, ℕ, zero, suc, ◌≤◌, ◌<◌, ◌∙◌, ◌==◌, if◌then◌else◌, ◌-◌, Bool, true, false, List, [], ◌∷◌, length, take, drop, slice_index, refl, ap, sym, arith}
use Rattle.std.proofs.lemmas.Bool.{false≢true}
use Rattle.std.proofs.lemmas.List.{get_or-take}
use Rattle.byteorder.specs.Endian.{big_number}
use Rattle.iscsi_rules.specs.declared.event.Event.{Event}
use Rattle.iscsi_rules.specs.declared.event.Event.TheVariants.{Arrive, Done}
use Rattle.iscsi_recording.specs.Dense.{first_size, event_in, events_of, IsDense}
use Rattle.iscsi_recording.specs.Firsts.{begins_with_arrival, begins_with_completion}
use Rattle.iscsi_recording.proofs.DenseLemmas.{size_least, next_of}

-- the event that bytes of this kind say
said_by : Bool → List ℕ → Event
said_by kind bytes = if kind then Arrive (big_number 2 (drop 1 bytes)) (drop 3 bytes) else Done (big_number 8 (drop 1 bytes)) (slice_index bytes 9)

said_as : (bytes : List ℕ) (k : ℕ) (kind : Bool) → 0 < k → (slice_index bytes 0 == 0) ≡ kind → event_in (take k bytes) ≡ said_by kind (take k bytes)
unfolding said_by
said_as bytes k kind some is =
    ap (λ b. if b then Arrive (big_number 2 (drop 1 (take k bytes))) (drop 3 (take k bytes)) else Done (big_number 8 (drop 1 (take k bytes))) (slice_index (take k bytes) 9))
    (ap (λ (x : ℕ). x == 0) (get_or-take k bytes 0 0 some) ∙ is)

-- what stands there where so many events begin with one of this kind and size
record Comes (n : ℕ) (bytes : List ℕ) (kind : Bool) (size : ℕ) : Type 0 where
  some : 0 < length bytes
  whole : size ≤ length bytes
  rest : IsDense (n - 1) (drop size bytes)
  is : events_of n bytes ≡ said_by kind (take size bytes) ∷ events_of (n - 1) (drop size bytes)

comes : (n : ℕ) (bytes : List ℕ) (kind : Bool) (size : ℕ) → (n ≡ 0 → ⊥) → IsDense n bytes → (slice_index bytes 0 == 0) ≡ kind → first_size bytes ≡ size → Comes n bytes kind size
comes n bytes kind size some dense is long =
    let next = next_of n bytes some dense in
    let least = size_least bytes in
    let positive : 0 < size = omega (arith, long) in
    record {
      some = next.some;
      whole = rw long at next.whole;
      rest = rw long at next.rest;
      is = (rw long at next.is) ∙ ap (λ e. e ∷ events_of (n - 1) (drop size bytes)) (said_as bytes size kind positive is);
    }

pub record IsArrivalNext (n : ℕ) (bytes : List ℕ) : Type 0 where
  pub whole : 51 ≤ length bytes
  pub rest : IsDense (n - 1) (drop 51 bytes)
  pub is : events_of n bytes ≡ Arrive (big_number 2 (drop 1 (take 51 bytes))) (drop 3 (take 51 bytes)) ∷ events_of (n - 1) (drop 51 bytes)

pub record IsCompletionNext (n : ℕ) (bytes : List ℕ) : Type 0 where
  pub whole : 10 ≤ length bytes
  pub rest : IsDense (n - 1) (drop 10 bytes)
  pub is : events_of n bytes ≡ Done (big_number 8 (drop 1 (take 10 bytes))) (slice_index (take 10 bytes) 9) ∷ events_of (n - 1) (drop 10 bytes)

-- the kind of the first event is told by the first byte
pub kind_told : (n : ℕ) (bytes : List ℕ) → (n ≡ 0 → ⊥) → IsDense n bytes → begins_with_arrival (events_of n bytes) ≡ (slice_index bytes 0 == 0)
unfolding said_by
kind_told n bytes some dense = go (slice_index bytes 0 == 0) refl where
  go : (kind : Bool) → (slice_index bytes 0 == 0) ≡ kind → begins_with_arrival (events_of n bytes) ≡ (slice_index bytes 0 == 0)
  go true is = ap begins_with_arrival (comes n bytes true 51 some dense is (ap (λ b. if b then 51 else 10) is)).is ∙ sym is
  go false is = ap begins_with_arrival (comes n bytes false 10 some dense is (ap (λ b. if b then 51 else 10) is)).is ∙ sym is

-- where it isn't of this kind it is of the other
pub completion_told : (n : ℕ) (bytes : List ℕ) → (n ≡ 0 → ⊥) → IsDense n bytes → (slice_index bytes 0 == 0) ≡ false → begins_with_completion (events_of n bytes) ≡ true
unfolding said_by
completion_told n bytes some dense is = ap begins_with_completion (comes n bytes false 10 some dense is (ap (λ b. if b then 51 else 10) is)).is

none_begins : (n : ℕ) (bytes : List ℕ) (f : List Event → Bool) → f [] ≡ false → f (events_of n bytes) ≡ true → n ≡ 0 → ⊥
none_begins zero bytes f none begins is = false≢true (sym none ∙ begins)
none_begins (suc n) bytes f none begins is = absurd (omega arith)

pub arrival_next : (n : ℕ) (bytes : List ℕ) → IsDense n bytes → begins_with_arrival (events_of n bytes) ≡ true → IsArrivalNext n bytes
unfolding said_by
arrival_next n bytes dense begins =
    let some = none_begins n bytes begins_with_arrival refl begins in
    let is : (slice_index bytes 0 == 0) ≡ true = sym (kind_told n bytes some dense) ∙ begins in
    let next = comes n bytes true 51 some dense is (ap (λ b. if b then 51 else 10) is) in
    record { whole = next.whole; rest = next.rest; is = next.is }

pub completion_next : (n : ℕ) (bytes : List ℕ) → IsDense n bytes → begins_with_completion (events_of n bytes) ≡ true → IsCompletionNext n bytes
unfolding said_by
completion_next n bytes dense begins = go (slice_index bytes 0 == 0) refl where
  some : n ≡ 0 → ⊥
  some = none_begins n bytes begins_with_completion refl begins

  go : (kind : Bool) → (slice_index bytes 0 == 0) ≡ kind → IsCompletionNext n bytes
  go true is =
      let next = comes n bytes true 51 some dense is (ap (λ b. if b then 51 else 10) is) in
      absurd (false≢true (sym (ap begins_with_completion next.is) ∙ begins))
  go false is =
      let next = comes n bytes false 10 some dense is (ap (λ b. if b then 51 else 10) is) in
      record { whole = next.whole; rest = next.rest; is = next.is }
