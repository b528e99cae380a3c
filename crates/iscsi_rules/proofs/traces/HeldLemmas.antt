-- Which requests are held, and which are due.
use Rattle.std.proofs.Common.{◌≡◌, ℕ, ◌==◌, ◌||◌, ◌⊎◌, ⊎_elim, cond, Bool, true, false, List, [], ◌∷◌, ◌++◌, Option, Some, None, option_map, refl, ap, ◌∙◌, ◌&&◌, ◌<◌, ◌≤◌, ◌+◌, zero, suc, filter, arith, nat_lt, subst}
use Rattle.std.specs.List.{filter_map, cons_option, range_with_len}
use Rattle.std.proofs.lemmas.List.{append-nil}
use Rattle.iscsi_rules.specs.rules.Trace.{Arrival, Mark, Admits, Delivers, Trace, shown, first_of, is_received, is_delivered, is_emptied, held, admitted, admits_at, received, held_among}
use Rattle.iscsi_rules.specs.promises.Executed.{request_at}
use Rattle.iscsi_rules.proofs.traces.TraceLemmas.{unadmitted}
use Rattle.iscsi_rules.proofs.traces.DeliveryLemmas.{IsQuiet}
use Rattle.std.proofs.lemmas.List.Folds.{list_any-append}
use Rattle.iscsi_rules.proofs.general.BoolLemmas.{or_false}
use Rattle.iscsi_wire.specs.declared.request.Request.{Request}
use Rattle.iscsi_rules.specs.rules.Settings.{Setting}
use Rattle.iscsi_rules.proofs.general.ListLemmas.{first_itself}
use Rattle.iscsi_rules.specs.rules.Management.{held_command, is_to}
use Rattle.iscsi_wire.specs.Fields.{itt, opcode}
use Rattle.iscsi_rules.specs.rules.Execution.{exp_of}

-- ---- who was admitted at a number

pub first_of-append : {A : Type 0} (xs ys : List A) (x : A) → first_of (xs ++ ys) ≡ Some x → (first_of xs ≡ Some x) ⊎ (first_of ys ≡ Some x)
first_of-append xs ys x h = grind arith

mark_number : (n : ℕ) (m : Mark) (a : Arrival) → admits_at n m ≡ Some a → a.number ≡ n
mark_number n m a h = grind arith

pub first_of-cons : {A : Type 0} (x : Option A) (xs : List A) (y : A) → first_of (cons_option x xs) ≡ Some y → (x ≡ Some y) ⊎ (first_of xs ≡ Some y)
first_of-cons x xs y h = grind arith

item_number : (n : ℕ) (item : List Mark) (a : Arrival) → first_of (filter_map (admits_at n) item) ≡ Some a → a.number ≡ n
item_number n [] a h = absurd cc
item_number n (m ∷ ms) a h = ⊎_elim (λ here. mark_number n m a here) (λ later. item_number n ms a later) (first_of-cons (admits_at n m) (filter_map (admits_at n) ms) a h)

pub admitted-number : (t : Trace) (n : ℕ) (a : Arrival) → admitted t n ≡ Some a → a.number ≡ n
admitted-number [] n a h = absurd cc
admitted-number (item ∷ t) n a h = ⊎_elim (λ before. admitted-number t n a before) (λ now. item_number n item a now) (first_of-append (shown (admits_at n) t) (filter_map (admits_at n) item) a h)

-- a request that is held was admitted at its number
pub held-number : (t : Trace) (n : ℕ) (a : Arrival) → held t n ≡ Some a → a.number ≡ n
held-number t n a h =
    elim (is_delivered t n || is_emptied t n) as (λ b. cond b None (admitted t n) ≡ Some a → a.number ≡ n) [
      | true ↦ λ found. absurd cc
      | false ↦ λ found. admitted-number t n a found
    ] h

-- and was admitted
pub admitted_of_held : (t : Trace) (n : ℕ) (a : Arrival) → held t n ≡ Some a → admitted t n ≡ Some a
admitted_of_held t n a h = grind arith

-- and isn't taken out
pub held_unemptied : (t : Trace) (n : ℕ) (a : Arrival) → held t n ≡ Some a → is_emptied t n ≡ false
held_unemptied t n a h = grind arith

-- ---- one item more

pub admitted-admits : (t : Trace) (a : Arrival) (n : ℕ) → (a.number == n) ≡ false → admitted ((Admits a ∷ []) ∷ t) n ≡ admitted t n
admitted-admits t a n apart = ap (λ b. first_of (shown (admits_at n) t ++ cons_option (cond b (Some a) None) [])) apart ∙ ap first_of (append-nil (shown (admits_at n) t))

pub held-admits : (t : Trace) (a : Arrival) (n : ℕ) → (a.number == n) ≡ false → held ((Admits a ∷ []) ∷ t) n ≡ held t n
held-admits t a n apart = ap (λ x. cond (is_delivered t n || is_emptied t n) None x) (admitted-admits t a n apart)

pub held-here : (t : Trace) (a : Arrival) → is_received t a.number ≡ false → is_delivered t a.number ≡ false → is_emptied t a.number ≡ false → held ((Admits a ∷ []) ∷ t) a.number ≡ Some a
held-here t a new undelivered unemptied = grind (arith, unadmitted)

-- a request's turn: others are held as before
pub held-turned : (t : Trace) (a : Arrival) (ms : List Mark) (n : ℕ) → IsQuiet ms → (a.number == n) ≡ false → held ((Delivers a ∷ ms) ∷ t) n ≡ held t n
held-turned t a ms n q apart = grind (arith, q.delivers_no n, q.empties_no n, q.admits n)

-- the request itself isn't held any more
pub held-delivered : (t : Trace) (a : Arrival) (ms : List Mark) (n : ℕ) → a.number ≡ n → held ((Delivers a ∷ ms) ∷ t) n ≡ None
held-delivered t a ms n here = grind arith

pub request_at-turned : (t : Trace) (a : Arrival) (ms : List Mark) (n : ℕ) → IsQuiet ms → request_at ((Delivers a ∷ ms) ∷ t) n ≡ request_at t n
request_at-turned t a ms n q = grind (arith, q.empties_no n, q.admits n)

-- who is admitted after an admission
pub admitted-cases : (t : Trace) (a : Arrival) (n : ℕ) (b : Arrival) → admitted ((Admits a ∷ []) ∷ t) n ≡ Some b → (admitted t n ≡ Some b) ⊎ (a ≡ b)
admitted-cases t a n b h = grind arith

-- ---- what is held was received

pub held_received : (t : Trace) (n : ℕ) (h : Arrival) → held t n ≡ Some h → is_received t n ≡ true
held_received t n h is = grind (arith, unadmitted)

-- what isn't received isn't held
pub unreceived_unheld : (t : Trace) (n : ℕ) → is_received t n ≡ false → held t n ≡ None
unreceived_unheld t n gone = grind (arith, unadmitted)

-- ---- an admission, and an item without one

-- the numbers received after an admission
pub received-admits : (t : Trace) (a : Arrival) (k : ℕ) → is_received ((Admits a ∷ []) ∷ t) k ≡ (is_received t k || (a.number == k))
received-admits t a k = list_any-append (λ n. n == k) (received t) (a.number ∷ []) ∙ ap (λ b. is_received t k || b) (or_false (a.number == k))

pub request_at-admits : (t : Trace) (a : Arrival) (k : ℕ) → (a.number == k) ≡ false → request_at ((Admits a ∷ []) ∷ t) k ≡ request_at t k
request_at-admits t a k apart = ap (λ x. cond (is_emptied t k) None (option_map (λ (b : Arrival). b.request) x)) (admitted-admits t a k apart)

-- what is held after an item that admits nothing was held before
pub held_before : (item : List Mark) (t : Trace) (n : ℕ) (h : Arrival) → filter_map (admits_at n) item ≡ [] → held (item ∷ t) n ≡ Some h → held t n ≡ Some h
held_before item t n h none found = grind arith

-- ---- by what the window sees of a number

pub some_held : (b : Bool) (x : Option Arrival) (r : Request) → cond b (Some (option_map (λ (a : Arrival). a.request) x)) None ≡ Some (Some r) → (b ≡ true) × ((a : Arrival) × ((x ≡ Some a) × (a.request ≡ r)))
some_held b x r h = grind arith

-- ---- the held command that a function asks for

-- a SCSI Command with this tag and unit, of a number below
abbrev pub is_sought : Setting → ℕ → ℕ → ℕ → Arrival → Bool
is_sought o tag unit below h = nat_lt h.number below && opcode h.request == 0x01 && itt h.request == tag && is_to o unit h.request

module _ (o : Setting) (t : Trace) (tag unit below : ℕ) where
  -- none from the number below on
  pub none_below : (count e : ℕ) → below ≤ e → filter (is_sought o tag unit below) (held_among t (range_with_len e count)) ≡ []
  none_below zero e past = refl
  none_below (suc count) e past = grind (arith, none_below count (e + 1), held-number t e)

  -- the one that is found is held, at a number of the range
  pub found_held : (count e : ℕ) (h : Arrival) → first_of (filter (is_sought o tag unit below) (held_among t (range_with_len e count))) ≡ Some h
      → (held t h.number ≡ Some h) × ((e ≤ h.number) × (h.number < e + count))
  found_held zero e h found = absurd cc
  found_held (suc count) e h found =
      by_held (λ f. let p = found_held count (e + 1) h f in (p.0, (omega (arith, p.1.0), omega (arith, p.1.1)))) (held t e) refl found
    where
      rest : List Arrival
      rest = held_among t (range_with_len (e + 1) count)

      by_held : (first_of (filter (is_sought o tag unit below) rest) ≡ Some h → (held t h.number ≡ Some h) × ((e ≤ h.number) × (h.number < e + suc count))) → (x : Option Arrival) → held t e ≡ x
          → first_of (filter (is_sought o tag unit below) ((let l : List Arrival = elim x [ Some a ↦ a ∷ [] | None ↦ [] ] in l) ++ rest)) ≡ Some h
          → (held t h.number ≡ Some h) × ((e ≤ h.number) × (h.number < e + suc count))
      by_held later None is f = later f
      by_held later (Some a) is f =
          let number : a.number ≡ e = held-number t e a is in
          elim (is_sought o tag unit below a) as (λ b. first_of (cond b (a ∷ filter (is_sought o tag unit below) rest) (filter (is_sought o tag unit below) rest)) ≡ Some h → (held t h.number ≡ Some h) × ((e ≤ h.number) × (h.number < e + suc count))) [
            | true ↦ λ here. let same : a ≡ h = cc in subst (λ (b : Arrival). (held t b.number ≡ Some b) × ((e ≤ b.number) × (b.number < e + suc count))) same (ap (held t) number ∙ is, (omega (arith, number), omega (arith, number)))
            | false ↦ λ not_here. later not_here
          ] f

-- it is below the function's number
pub held_command-below : (o : Setting) (t : Trace) (tag unit below : ℕ) (h : Arrival) → held_command o t tag unit below ≡ Some h → h.number < below
held_command-below o t tag unit below h found = grind (arith, first_itself)

-- and is held at a place of the window
pub held_command-held : (o : Setting) (t : Trace) (tag unit below : ℕ) (h : Arrival) → held_command o t tag unit below ≡ Some h → (held t h.number ≡ Some h) × ((exp_of o t ≤ h.number) × (h.number < exp_of o t + o.window))
held_command-held o t tag unit below h found = found_held o t tag unit below o.window (exp_of o t) h found

-- none is held below ExpCmdSN
pub held_command-none : (o : Setting) (t : Trace) (tag unit below : ℕ) → below ≤ exp_of o t → held_command o t tag unit below ≡ None
held_command-none o t tag unit below past = ap first_of (none_below o t tag unit below o.window (exp_of o t) past)
