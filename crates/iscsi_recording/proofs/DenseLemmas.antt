-- Events that stand one after another in bytes.
use Rattle.std.proofs.Common.{◌≡◌, ℕ, zero, suc, ◌*◌, ◌≤◌, ◌<◌, ◌∙◌, ◌==◌, if◌then◌else◌, ◌-◌, true, false, List, [], ◌∷◌, ◌++◌, length, take, drop, slice_index, replicate, refl, ap, ap₂, sym, subst, arith, length-append, length-drop, lit≤}
use Rattle.std.proofs.lemmas.List.{take-append-le, drop-append-le, take_all, drop_all}
use Rattle.byteorder.specs.Numbers.{big_number-reads_back}
use Rattle.iscsi_rules.specs.declared.event.Event.{Event}
use Rattle.iscsi_rules.specs.declared.event.Event.TheVariants.{Arrive, Done}
use Rattle.iscsi_recording.specs.Dense.{bytes_of, first_size, event_in, events_of, IsDense, Fits}

-- a completion and an arrival, and the bytes that they stand in
pub two_of : events_of 2 (bytes_of (Done 258 8) ++ bytes_of (Arrive 513 (replicate 48 7))) ≡ Done 258 8 ∷ Arrive 513 (replicate 48 7) ∷ []
two_of = refl

pub bytes_of_one : bytes_of (Done 258 8) ≡ 1 ∷ 0 ∷ 0 ∷ 0 ∷ 0 ∷ 0 ∷ 0 ∷ 1 ∷ 2 ∷ 8 ∷ []
bytes_of_one = refl

-- there are so many
pub length_events : (n : ℕ) (bytes : List ℕ) → length (events_of n bytes) ≡ n
length_events zero bytes = refl
length_events (suc n) bytes = ap suc (length_events n (drop (first_size bytes) bytes))

pub size_least : (bytes : List ℕ) → 10 ≤ first_size bytes
size_least bytes = elim (slice_index bytes 0 == 0) as (λ b. 10 ≤ (if b then 51 else 10)) [ true ↦ lit≤ tt | false ↦ lit≤ tt ]

-- each takes ten bytes or more
pub count_short : (n : ℕ) (bytes : List ℕ) → IsDense n bytes → 10 * n ≤ length bytes
count_short zero bytes h = omega arith
count_short (suc n) bytes h =
    let least = size_least bytes in
    let rest = count_short n (drop (first_size bytes) bytes) h.1 in
    let first = h.0 in
    omega (arith, length-drop (first_size bytes) bytes)

-- these bytes are one event
pub record IsOne (bytes : List ℕ) (e : Event) : Type 0 where
  pub whole : first_size bytes ≡ length bytes
  pub is : event_in bytes ≡ e

-- the bytes of an event are that event
pub one_of : (e : Event) → Fits e → IsOne (bytes_of e) e
one_of (Arrive conn header) h = record { whole = omega (arith, h.1); is = ap (λ n. Arrive n header) (big_number-reads_back 2 conn header h.0) }
one_of (Done ticket status) h = record { whole = refl; is = ap (λ n. Done n status) (big_number-reads_back 8 ticket (status ∷ []) h) }

front_same : (bytes more : List ℕ) → 0 < length bytes → first_size (bytes ++ more) ≡ first_size bytes
front_same [] more h = absurd (omega arith)
front_same (b ∷ bytes) more h = refl

-- one event more
pub events_more : (n : ℕ) (bytes more : List ℕ) (e : Event) → IsDense n bytes → IsOne more e → events_of (suc n) (bytes ++ more) ≡ events_of n bytes ++ e ∷ []
events_more zero bytes more e dense one =
    rw dense (ap (λ x. x ∷ []) (ap event_in (take_all (first_size more) more (omega (arith, one.whole))) ∙ one.is))
events_more (suc n) bytes more e dense one =
    let least = size_least bytes in
    let first = dense.0 in
    let same = front_same bytes more (omega arith) in
    rw same (ap₂ (λ x (xs : List Event). x ∷ xs) (ap event_in (take-append-le (first_size bytes) bytes more first))
    (ap (events_of (suc n)) (drop-append-le (first_size bytes) bytes more first) ∙ events_more n (drop (first_size bytes) bytes) more e dense.1 one))

pub dense_more : (n : ℕ) (bytes more : List ℕ) (e : Event) → IsDense n bytes → IsOne more e → IsDense (suc n) (bytes ++ more)
dense_more zero bytes more e dense one = rw dense (omega (arith, one.whole), drop_all (first_size more) more (omega (arith, one.whole)))
dense_more (suc n) bytes more e dense one =
    let least = size_least bytes in
    let first = dense.0 in
    let same = front_same bytes more (omega arith) in
    rw same (omega (arith, length-append bytes more), subst (IsDense (suc n)) (sym (drop-append-le (first_size bytes) bytes more first)) (dense_more n (drop (first_size bytes) bytes) more e dense.1 one))

-- what is there where they aren't none
pub record IsNext (n : ℕ) (bytes : List ℕ) : Type 0 where
  pub some : 0 < length bytes
  pub whole : first_size bytes ≤ length bytes
  pub rest : IsDense (n - 1) (drop (first_size bytes) bytes)
  pub is : events_of n bytes ≡ event_in (take (first_size bytes) bytes) ∷ events_of (n - 1) (drop (first_size bytes) bytes)

pub next_of : (n : ℕ) (bytes : List ℕ) → (n ≡ 0 → ⊥) → IsDense n bytes → IsNext n bytes
next_of zero bytes some dense = absurd (some refl)
next_of (suc n) bytes some dense =
    let least = size_least bytes in
    let first = dense.0 in
    let before : (suc n) - 1 ≡ n = omega arith in
    record {
      some = omega arith;
      whole = first;
      rest = rw before dense.1;
      is = rw before refl;
    }
