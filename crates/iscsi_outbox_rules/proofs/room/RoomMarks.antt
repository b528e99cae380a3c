-- In the trace of a list of events each request that is admitted is numbered, and each that waits is a function that may.
use Rattle.std.proofs.Common.{◌≡◌, ℕ, ◌==◌, ◌≤◌, not, true, false, List, [], ◌∷◌, filter_map, Option, Some, None, refl, sym, ◌∙◌, subst}
use Rattle.std.specs.List.{cons_option}
use Rattle.std.proofs.lemmas.Bool.{cond_both}
use Rattle.iscsi_wire.specs.Fields.{connection_of, is_immediate}
use Rattle.iscsi_rules.specs.rules.Settings.{Setting}
use Rattle.iscsi_rules.specs.rules.Trace.{Arrival, Mark, Admits, Delivers, Executes, Voids, Empties, Waits, Leaves, Enters, Sends, ClosesConn, ClosesSession, Ignores, Trace, first_of, shown, number_received, admits_at, held, waiting_by, waiting_through, waiting}
use Rattle.iscsi_rules.specs.rules.Execution.{max_of}
use Rattle.iscsi_rules.specs.rules.Management.{may_wait}
use Rattle.iscsi_rules.proofs.traces.HeldLemmas.{admitted_of_held, held_before}
use Rattle.iscsi_outbox_rules.proofs.general.EachLemmas.{EachOf, each-append, each-filter}
use Rattle.iscsi_outbox_rules.proofs.room.RoomFair.{MarkFair, Fair}

abbrev pub IsNumbered : Arrival → Type 0
IsNumbered a = is_immediate a.request ≡ false

abbrev pub Waiter : Arrival → Type 0
Waiter a = may_wait a.request ≡ true

abbrev pub MarkKept : Mark → Type 0
MarkKept (Admits a) = IsNumbered a
MarkKept (Waits a) = Waiter a
MarkKept _ = Unit {0}

-- so it is in a trace
abbrev pub KeptIn : Trace → Type 0
KeptIn [] = Unit {0}
KeptIn (item ∷ t) = EachOf MarkKept item × KeptIn t

-- a request that executes admits none, and lets none wait
pub kept_fair : (o : Setting) (t : Trace) (a : Arrival) (ms : List Mark) → Fair o t a ms → EachOf MarkKept ms
kept_fair o t a [] h = tt
kept_fair o t a (m ∷ ms) h = (by_mark m h.0, kept_fair o t a ms h.1)
  where
    by_mark : (x : Mark) → MarkFair o t a x → MarkKept x
    by_mark (Admits b) k = absurd k
    by_mark (Delivers b) k = tt
    by_mark (Executes b) k = tt
    by_mark (Voids n) k = tt
    by_mark (Empties b) k = tt
    by_mark (Waits b) k = absurd k
    by_mark (Leaves c) k = tt
    by_mark (Enters c) k = tt
    by_mark (Sends conn reply) k = tt
    by_mark (ClosesConn conn) k = tt
    by_mark ClosesSession k = tt
    by_mark (Ignores why) k = tt

-- and what it voids is within the window
pub received_fair : (o : Setting) (t : Trace) (a : Arrival) (ms : List Mark) → Fair o t a ms → EachOf (λ n. n ≤ max_of o t) (filter_map number_received ms)
received_fair o t a [] h = tt
received_fair o t a (m ∷ ms) h = by_mark m h.0 (received_fair o t a ms h.1)
  where
    by_mark : (x : Mark) → MarkFair o t a x → EachOf (λ n. n ≤ max_of o t) (filter_map number_received ms) → EachOf (λ n. n ≤ max_of o t) (cons_option (number_received x) (filter_map number_received ms))
    by_mark (Admits b) k rest = absurd k
    by_mark (Delivers b) k rest = rest
    by_mark (Executes b) k rest = rest
    by_mark (Voids n) k rest = (k.1, rest)
    by_mark (Empties b) k rest = rest
    by_mark (Waits b) k rest = rest
    by_mark (Leaves c) k rest = rest
    by_mark (Enters c) k rest = rest
    by_mark (Sends conn reply) k rest = rest
    by_mark (ClosesConn conn) k rest = rest
    by_mark ClosesSession k rest = rest
    by_mark (Ignores why) k rest = rest

-- no mark by which a request executes admits one
pub admits_fair : (o : Setting) (t : Trace) (a : Arrival) (k : ℕ) (ms : List Mark) → Fair o t a ms → filter_map (admits_at k) ms ≡ []
admits_fair o t a k [] h = refl
admits_fair o t a k (Admits b ∷ ms) h = absurd h.0
admits_fair o t a k (Delivers b ∷ ms) h = absurd h.0
admits_fair o t a k (Executes b ∷ ms) h = absurd h.0
admits_fair o t a k (Voids n ∷ ms) h = admits_fair o t a k ms h.1
admits_fair o t a k (Empties b ∷ ms) h = admits_fair o t a k ms h.1
admits_fair o t a k (Waits b ∷ ms) h = absurd h.0
admits_fair o t a k (Leaves c ∷ ms) h = admits_fair o t a k ms h.1
admits_fair o t a k (Enters c ∷ ms) h = admits_fair o t a k ms h.1
admits_fair o t a k (Sends conn reply ∷ ms) h = admits_fair o t a k ms h.1
admits_fair o t a k (ClosesConn conn ∷ ms) h = admits_fair o t a k ms h.1
admits_fair o t a k (ClosesSession ∷ ms) h = admits_fair o t a k ms h.1
admits_fair o t a k (Ignores why ∷ ms) h = admits_fair o t a k ms h.1

-- what isn't held stays so where none is admitted
pub still_unheld : (item : List Mark) (t : Trace) (k : ℕ) → filter_map (admits_at k) item ≡ [] → held t k ≡ None → held (item ∷ t) k ≡ None
still_unheld item t k none gone = by_held (held (item ∷ t) k) refl
  where
    by_held : (x : Option Arrival) → held (item ∷ t) k ≡ x → x ≡ None
    by_held None is = refl
    by_held (Some h) is = let same : None ≡ Some h = sym gone ∙ held_before item t k h none is in absurd cc

-- ---- what is held, and what waits

admitted_numbered : (n : ℕ) (item : List Mark) → EachOf MarkKept item → EachOf IsNumbered (filter_map (admits_at n) item)
admitted_numbered n [] h = tt
admitted_numbered n (m ∷ item) h = by_mark m h.0 (admitted_numbered n item h.1)
  where
    by_mark : (x : Mark) → MarkKept x → EachOf IsNumbered (filter_map (admits_at n) item) → EachOf IsNumbered (cons_option (admits_at n x) (filter_map (admits_at n) item))
    by_mark (Admits a) k rest = cond_both (a.number == n) (Some a) None (λ (y : Option Arrival). EachOf IsNumbered (cons_option y (filter_map (admits_at n) item))) (λ is. (k, rest)) (λ is. rest)
    by_mark (Delivers a) k rest = rest
    by_mark (Executes a) k rest = rest
    by_mark (Voids i) k rest = rest
    by_mark (Empties a) k rest = rest
    by_mark (Waits a) k rest = rest
    by_mark (Leaves c) k rest = rest
    by_mark (Enters c) k rest = rest
    by_mark (Sends conn reply) k rest = rest
    by_mark (ClosesConn conn) k rest = rest
    by_mark ClosesSession k rest = rest
    by_mark (Ignores why) k rest = rest

all_admitted : (n : ℕ) (t : Trace) → KeptIn t → EachOf IsNumbered (shown (admits_at n) t)
all_admitted n [] h = tt
all_admitted n (item ∷ t) h = each-append IsNumbered (shown (admits_at n) t) (filter_map (admits_at n) item) (all_admitted n t h.1) (admitted_numbered n item h.0)

first_numbered : (as' : List Arrival) (a : Arrival) → first_of as' ≡ Some a → EachOf IsNumbered as' → IsNumbered a
first_numbered [] a is h = absurd cc
first_numbered (b ∷ as') a is h = let same : b ≡ a = cc in subst IsNumbered same h.0

-- a request that is held is numbered
pub held_numbered : (t : Trace) (n : ℕ) (a : Arrival) → held t n ≡ Some a → KeptIn t → IsNumbered a
held_numbered t n a is h = first_numbered (shown (admits_at n) t) a (admitted_of_held t n a is) (all_admitted n t h)

waits_kept : (item : List Mark) (ws : List Arrival) → EachOf MarkKept item → EachOf Waiter ws → EachOf Waiter (waiting_through item ws)
waits_kept [] ws h k = k
waits_kept (m ∷ item) ws h k = waits_kept item (waiting_by m ws) h.1 (by_mark m h.0)
  where
    by_mark : (x : Mark) → MarkKept x → EachOf Waiter (waiting_by x ws)
    by_mark (Admits a) z = k
    by_mark (Delivers a) z = k
    by_mark (Executes a) z = each-filter Waiter (λ (b : Arrival). not (b.event == a.event)) ws k
    by_mark (Voids i) z = k
    by_mark (Empties a) z = k
    by_mark (Waits a) z = each-append Waiter ws (a ∷ []) k (z, tt)
    by_mark (Leaves c) z = k
    by_mark (Enters c) z = k
    by_mark (Sends conn reply) z = k
    by_mark (ClosesConn conn) z = each-filter Waiter (λ (b : Arrival). not (connection_of b.request == conn)) ws k
    by_mark ClosesSession z = tt
    by_mark (Ignores why) z = k

-- what waits may
pub all_waiters : (t : Trace) → KeptIn t → EachOf Waiter (waiting t)
all_waiters [] h = tt
all_waiters (item ∷ t) h = waits_kept item (waiting t) h.0 (all_waiters t h.1)
