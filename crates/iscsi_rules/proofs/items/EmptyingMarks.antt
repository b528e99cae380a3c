-- Items that receive a number without a request, and items that take held requests out.
use Rattle.std.proofs.Common.{List, ◌∷◌, refl, [], false, ℕ, ◌≡◌, ◌==◌, ap, sym, ◌||◌, ◌∙◌, ◌++◌, None, cond, Bool, map, Some, ◌+◌, ◌<◌, arith, suc, zero, ◌≤◌, Option, append_assoc}
use Rattle.std.specs.List.{filter_map, list_any, cons_option, range_with_len}
use Rattle.std.proofs.lemmas.List.{append-nil}
use Rattle.std.proofs.lemmas.Grind.{flat_map-append}
use Rattle.iscsi_rules.proofs.items.DeedLemmas.{views, tests}
use Rattle.iscsi_rules.specs.rules.Trace.{Arrival, Executes, Mark, Trace, admits_at, delivers_number, empties_number, number_received, Voids, Empties, admitted, contains, held, is_delivered, is_emptied, is_received, shown, received, Command, Leaves, Enters, Sends, held_among}
use Rattle.iscsi_wire.specs.declared.reply.Reply.{Reply}
use Rattle.iscsi_rules.specs.promises.Executed.{delivers, request_at}
use Rattle.iscsi_rules.proofs.traces.DeliveryLemmas.{IsQuiet}
use Rattle.iscsi_rules.proofs.general.ListLemmas.{none_first, range-parts}
use Rattle.iscsi_rules.proofs.general.BoolLemmas.{or_false}
use Rattle.iscsi_rules.proofs.traces.TraceLemmas.{received-item}

-- ---- quiet items

pub quiet_executes : (a : Arrival) (ms : List Mark) → IsQuiet ms → IsQuiet (Executes a ∷ ms)
quiet_executes a ms q = record { receives = q.receives; admits = q.admits; delivers_none = q.delivers_none; delivers_no = q.delivers_no; empties_no = q.empties_no }

pub quiet_none : IsQuiet []
quiet_none = record { receives = refl; admits = λ n. refl; delivers_none = refl; delivers_no = λ n. refl; empties_no = λ n. refl }

pub quiet_sends : (conn : ℕ) (reply : Reply) → IsQuiet (Sends conn reply ∷ [])
quiet_sends conn reply = record { receives = refl; admits = λ n. refl; delivers_none = refl; delivers_no = λ n. refl; empties_no = λ n. refl }

pub quiet_enters : (c : Command) → IsQuiet (Enters c ∷ [])
quiet_enters c = record { receives = refl; admits = λ n. refl; delivers_none = refl; delivers_no = λ n. refl; empties_no = λ n. refl }

-- ---- the items

-- an item that receives this number alone, and admits, delivers and empties nothing
pub record VoidsOne (item : List Mark) (n : ℕ) : Type 0 where
  pub receives : filter_map number_received item ≡ n ∷ []
  pub admits : (k : ℕ) → filter_map (admits_at k) item ≡ []
  pub delivers_none : filter_map delivers item ≡ []
  pub delivers_no : (k : ℕ) → list_any (delivers_number k) item ≡ false
  pub empties_no : (k : ℕ) → list_any (empties_number k) item ≡ false

-- an item that empties these numbers, and receives, admits and delivers nothing
pub record EmptiesThese (item : List Mark) (out : ℕ → Bool) : Type 0 where
  pub receives : filter_map number_received item ≡ []
  pub admits : (k : ℕ) → filter_map (admits_at k) item ≡ []
  pub delivers_none : filter_map delivers item ≡ []
  pub delivers_no : (k : ℕ) → list_any (delivers_number k) item ≡ false
  pub empties : (k : ℕ) → list_any (empties_number k) item ≡ out k

-- this number alone
abbrev pub EmptiesOne : List Mark → ℕ → Type 0
EmptiesOne item n = EmptiesThese item (λ k. n == k)

pub voids-one : (m : Mark) (n : ℕ) (ms : List Mark) → IsQuiet (m ∷ []) → IsQuiet ms → VoidsOne (m ∷ Voids n ∷ ms) n
voids-one m n ms q qs = record {
  receives = ap (λ x. cons_option x (n ∷ filter_map number_received ms)) (none_first (number_received m) q.receives) ∙ ap (λ ns. n ∷ ns) qs.receives;
  admits = λ k. ap (λ x. cons_option x (filter_map (admits_at k) ms)) (none_first (admits_at k m) (q.admits k)) ∙ qs.admits k;
  delivers_none = ap (λ x. cons_option x (filter_map delivers ms)) (none_first (delivers m) q.delivers_none) ∙ qs.delivers_none;
  delivers_no = λ k. ap (λ b. b || list_any (delivers_number k) ms) (sym (or_false (delivers_number k m)) ∙ q.delivers_no k) ∙ qs.delivers_no k;
  empties_no = λ k. ap (λ b. b || list_any (empties_number k) ms) (sym (or_false (empties_number k m)) ∙ q.empties_no k) ∙ qs.empties_no k;
}

pub empties-one : (m : Mark) (h : Arrival) (ms : List Mark) → IsQuiet (m ∷ []) → IsQuiet ms → EmptiesOne (m ∷ Empties h ∷ ms) h.number
empties-one m h ms q qs = record {
  receives = ap (λ x. cons_option x (filter_map number_received ms)) (none_first (number_received m) q.receives) ∙ qs.receives;
  admits = λ k. ap (λ x. cons_option x (filter_map (admits_at k) ms)) (none_first (admits_at k m) (q.admits k)) ∙ qs.admits k;
  delivers_none = ap (λ x. cons_option x (filter_map delivers ms)) (none_first (delivers m) q.delivers_none) ∙ qs.delivers_none;
  delivers_no = λ k. ap (λ b. b || list_any (delivers_number k) ms) (sym (or_false (delivers_number k m)) ∙ q.delivers_no k) ∙ qs.delivers_no k;
  empties = λ k. ap (λ b. b || ((h.number == k) || list_any (empties_number k) ms)) (sym (or_false (empties_number k m)) ∙ q.empties_no k) ∙ ap (λ b. (h.number == k) || b) (qs.empties_no k) ∙ or_false (h.number == k);
}

-- ---- a number is received without a request

module _ (item : List Mark) (t : Trace) (n : ℕ) (v : VoidsOne item n) where
  pub received-voids : (k : ℕ) → is_received (item ∷ t) k ≡ (is_received t k || (n == k))
  received-voids k = received-item item t k ∙ ap (λ ns. is_received t k || contains ns k) v.receives ∙ ap (λ b. is_received t k || b) (or_false (n == k))

  pub admitted-voids : (k : ℕ) → shown (admits_at k) (item ∷ t) ≡ shown (admits_at k) t
  admitted-voids k = ap (λ xs. shown (admits_at k) t ++ xs) (v.admits k) ∙ append-nil (shown (admits_at k) t)

  pub held-voids : (k : ℕ) → held (item ∷ t) k ≡ held t k
  held-voids k = grind (arith, v.delivers_no k, v.empties_no k, admitted-voids k)

  pub request_at-voids : (k : ℕ) → request_at (item ∷ t) k ≡ request_at t k
  request_at-voids k = grind (arith, v.empties_no k, admitted-voids k)

-- ---- a request is taken out

module _ (item : List Mark) (t : Trace) (n : ℕ) (v : EmptiesOne item n) where
  pub received-empties : received (item ∷ t) ≡ received t
  received-empties = ap (λ ns. received t ++ ns) v.receives ∙ append-nil (received t)

  pub admitted-empties : (k : ℕ) → shown (admits_at k) (item ∷ t) ≡ shown (admits_at k) t
  admitted-empties k = ap (λ xs. shown (admits_at k) t ++ xs) (v.admits k) ∙ append-nil (shown (admits_at k) t)

  pub emptied-empties : (k : ℕ) → is_emptied (item ∷ t) k ≡ ((n == k) || is_emptied t k)
  emptied-empties k = ap (λ b. b || is_emptied t k) (v.empties k)

  pub held-empties : (k : ℕ) → held (item ∷ t) k ≡ cond (is_delivered t k || ((n == k) || is_emptied t k)) None (admitted t k)
  held-empties k = grind (arith, v.delivers_no k, admitted-empties k)

  pub held-other : (k : ℕ) → (n == k) ≡ false → held (item ∷ t) k ≡ held t k
  held-other k apart = held-empties k ∙ ap (λ b. cond (is_delivered t k || (b || is_emptied t k)) None (admitted t k)) apart

  pub held-gone : held (item ∷ t) n ≡ None
  held-gone = grind (arith, held-empties n)

  pub request_at-empties : (k : ℕ) → (n == k) ≡ false → request_at (item ∷ t) k ≡ request_at t k
  request_at-empties k apart = grind (arith, admitted-empties k)

-- ---- requests are taken out together

-- some of these requests has the number
abbrev pub is_number_of : List Arrival → ℕ → Bool
is_number_of hs n = list_any (λ (a : Arrival). a.number == n) hs

-- commands leave, requests are taken out, and quiet marks follow
pub empties-these : (cs : List Command) (hs : List Arrival) (rest : List Mark) → IsQuiet rest → EmptiesThese ((map Leaves cs ++ map Empties hs) ++ rest) (is_number_of hs)
empties-these cs hs rest q = record {
  receives = simp (views, q.receives);
  admits = λ k. simp (views, q.admits k);
  delivers_none = simp (views, q.delivers_none);
  delivers_no = λ k. simp (tests, q.delivers_no k);
  empties = λ k. simp (tests, q.empties_no k);
}

-- ---- the requests that are held at the numbers of a range

-- the request that is held at a number, or none
abbrev pub held_list : Trace → ℕ → List Arrival
held_list t n = elim (held t n) [ Some a ↦ a ∷ [] | None ↦ [] ]

abbrev pub held_from : Trace → ℕ → ℕ → List Arrival
held_from t a count = held_among t (range_with_len a count)

module _ (t : Trace) where
  pub held_from-parts : (a m n : ℕ) → held_from t a (m + n) ≡ held_from t a m ++ held_from t (a + m) n
  held_from-parts a m n = ap (held_among t) (range-parts a m n) ∙ flat_map-append (held_list t) (range_with_len a m) (range_with_len (a + m) n)

  pub held_from-none : (a count : ℕ) → ((n : ℕ) → a ≤ n → n < a + count → held t n ≡ None) → held_from t a count ≡ []
  held_from-none a zero none = refl
  held_from-none a (suc count) none =
      grind (arith, none a (omega arith) (omega arith), held_from-none (a + 1) count (λ n l u. none n (omega arith) (omega arith)))

-- ---- items that are joined

-- two traces in which the same has happened to each number
pub record SameNumbers (t t' : Trace) : Type 0 where
  pub received_is : received t' ≡ received t
  pub admitted_is : (n : ℕ) → admitted t' n ≡ admitted t n
  pub delivered_is : (n : ℕ) → is_delivered t' n ≡ is_delivered t n
  pub emptied_is : (n : ℕ) → is_emptied t' n ≡ is_emptied t n
  pub delivers_is : shown delivers t' ≡ shown delivers t

module _ (m : Mark) (ms : List Mark) (t : Trace) where
  pub shown-joined : {A : Type 0} (view : Mark → Option A) → shown view ((m ∷ ms) ∷ t) ≡ shown view (ms ∷ (m ∷ []) ∷ t)
  shown-joined {A} view = grind (arith, append_assoc)

  pub joined-same : SameNumbers (ms ∷ (m ∷ []) ∷ t) ((m ∷ ms) ∷ t)
  joined-same = grind (arith, shown-joined)
