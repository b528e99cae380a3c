-- In the trace of a session each request that is admitted is numbered, and each that waits is a function that may.
use Rattle.std.proofs.Common.{Bool, ◌≤◌, filter, count_by, arith, ◌≡◌, ℕ, ◌==◌, not, cond, true, false, List, [], ◌∷◌, map, filter_map, Option, Some, None, refl, sym, subst, ◌∙◌}
use Rattle.std.specs.List.{cons_option}
use Rattle.std.proofs.lemmas.Bool.{cond_both}
use Rattle.iscsi_wire.specs.Fields.{connection_of, is_immediate}
use Rattle.iscsi_rules.specs.rules.Settings.{Setting}
use Rattle.iscsi_rules.specs.rules.Trace.{Admits, Arrival, ClosesConn, ClosesSession, Delivers, Empties, Enters, Executes, Ignores, Leaves, Mark, Sends, Trace, Voids, Waits, admits_at, first_of, held, shown, waiting, waiting_by, waiting_through}
use Rattle.iscsi_rules.specs.rules.Management.{may_wait}
use Rattle.iscsi_rules.proofs.items.FormItems.{Does}
use Rattle.iscsi_rules.proofs.items.Forms.{AfterWaiting, AtArrival, AtTurn, Deeds, Start, if_some, marks_done, start_mark}
use Rattle.iscsi_rules.proofs.traces.HeldLemmas.{admitted_of_held, held_before}
use Rattle.iscsi_rules.proofs.general.ListLemmas.{fewer_counted}
use Rattle.iscsi_outbox_rules.proofs.room.RoomSteps.{shrinks_done}
use Rattle.iscsi_rules.proofs.promises.NumberingLemmas.{unseen}
use Rattle.iscsi_rules.proofs.promises.ReplyForms.{replies_seen}
use Rattle.iscsi_outbox_law.specs.private.Pairs.{EachOf}
use Rattle.iscsi_ffi_law.proofs.session_invariants.FitArrivals.{through, waits_by}
use Rattle.iscsi_outbox_law.proofs.general.PairLemmas.{each-append, each-filter}

abbrev pub IsNumbered : Arrival → Type 0
IsNumbered a = is_immediate a.request ≡ false

abbrev pub IsWaiter : Arrival → Type 0
IsWaiter a = may_wait a.request ≡ true

abbrev pub MarkKept : Mark → Type 0
MarkKept (Admits a) = IsNumbered a
MarkKept (Waits a) = IsWaiter a
MarkKept _ = Unit {0}

-- so it is in a trace
abbrev pub KeptIn : Trace → Type 0
KeptIn [] = Unit {0}
KeptIn (item ∷ t) = EachOf MarkKept item × KeptIn t

-- ---- a request that executes

each-some : {A : Type 0} (f : A → Mark) (x : Option A) → ((y : A) → MarkKept (f y)) → EachOf MarkKept (if_some f x)
each-some f (Some x) h = (h x, tt)
each-some f None h = tt

each-all : {A : Type 0} (f : A → Mark) (xs : List A) → ((y : A) → MarkKept (f y)) → EachOf MarkKept (map f xs)
each-all f [] h = tt
each-all f (x ∷ xs) h = (h x, each-all f xs h)

done_kept : (a : Arrival) (d : Deeds) → EachOf MarkKept (marks_done a d)
done_kept a d =
    each-append MarkKept (if_some Voids d.void) _ (each-some Voids d.void (λ n. tt))
    (each-append MarkKept (map Leaves d.leaving) _ (each-all Leaves d.leaving (λ c. tt))
    (each-append MarkKept (map Empties d.emptied) _ (each-all Empties d.emptied (λ b. tt))
    (each-append MarkKept (if_some Enters d.entering) _ (each-some Enters d.entering (λ c. tt))
    (each-append MarkKept (if_some (Sends (connection_of a.request)) d.reply) _ (each-some (Sends (connection_of a.request)) d.reply (λ reply. tt))
    (each-append MarkKept (if_some ClosesConn d.closing) (cond d.ending (ClosesSession ∷ []) []) (each-some ClosesConn d.closing (λ conn. tt))
    (cond_both d.ending (ClosesSession ∷ []) [] (EachOf MarkKept) (λ is. (tt, tt)) (λ is. tt)))))))

-- it keeps what waits, and admits none
pub record IsExecuting (item : List Mark) : Type 0 where
  pub kept : EachOf MarkKept item
  pub admits_none : (k : ℕ) → filter_map (admits_at k) item ≡ []

pub executing : (o : Setting) (t : Trace) (start : Start) (a : Arrival) (ms : List Mark) → Does o t start a ms → IsExecuting (start_mark start a ∷ ms)
executing o t start a ms d = subst (λ xs. IsExecuting (start_mark start a ∷ xs)) (sym d.is) (record { kept = (kept start, done_kept a d.deeds); admits_none = λ k. none start k })
  where
    kept : (s : Start) → MarkKept (start_mark s a)
    kept AtTurn = tt
    kept AtArrival = tt
    kept AfterWaiting = tt

    done : (k : ℕ) → filter_map (admits_at k) (marks_done a d.deeds) ≡ []
    done k = replies_seen (admits_at k) (λ n. refl) (λ c. refl) (λ b. refl) (λ c. refl) (λ conn. refl) refl a d.deeds ∙ unseen (admits_at k) (Sends (connection_of a.request)) d.deeds.reply (λ reply. refl)

    none : (s : Start) (k : ℕ) → filter_map (admits_at k) (start_mark s a ∷ marks_done a d.deeds) ≡ []
    none AtTurn k = done k
    none AtArrival k = done k
    none AfterWaiting k = done k

-- it lets none wait more
pub fewer_wait : (o : Setting) (t : Trace) (start : Start) (a : Arrival) (ms : List Mark) → Does o t start a ms → (p : Arrival → Bool) → count_by p (waiting ((start_mark start a ∷ ms) ∷ t)) ≤ count_by p (waiting t)
fewer_wait o t start a ms d p = subst (λ xs. count_by p (waiting ((start_mark start a ∷ xs) ∷ t)) ≤ count_by p (waiting t)) (sym d.is) (by_start start)
  where
    by_start : (s : Start) → count_by p (waiting ((start_mark s a ∷ marks_done a d.deeds) ∷ t)) ≤ count_by p (waiting t)
    by_start AtTurn = let less = shrinks_done a d.deeds p (waiting t) in omega (arith, less)
    by_start AtArrival =
        let ws : List Arrival = filter (λ (b : Arrival). not (b.event == a.event)) (waiting t) in
        let less = shrinks_done a d.deeds p ws in omega (arith, less, fewer_counted p (λ (b : Arrival). not (b.event == a.event)) (waiting t))
    by_start AfterWaiting =
        let ws : List Arrival = filter (λ (b : Arrival). not (b.event == a.event)) (waiting t) in
        let less = shrinks_done a d.deeds p ws in omega (arith, less, fewer_counted p (λ (b : Arrival). not (b.event == a.event)) (waiting t))

pub fewer_each : (o : Setting) (t : Trace) (start : Start) (a : Arrival) (ms : List Mark) → Does o t start a ms → (P : Arrival → Type 0) → EachOf P (waiting t) → EachOf P (waiting ((start_mark start a ∷ ms) ∷ t))
fewer_each o t start a ms d P each = subst (λ xs. EachOf P (waiting ((start_mark start a ∷ xs) ∷ t))) (sym d.is) (by_start start)
  where
    none : EachOf P (filter_map waits_by (marks_done a d.deeds))
    none = subst (EachOf P) (sym (replies_seen waits_by (λ n. refl) (λ c. refl) (λ b. refl) (λ c. refl) (λ conn. refl) refl a d.deeds ∙ unseen waits_by (Sends (connection_of a.request)) d.deeds.reply (λ reply. refl))) tt

    by_start : (s : Start) → EachOf P (waiting ((start_mark s a ∷ marks_done a d.deeds) ∷ t))
    by_start AtTurn = through P (marks_done a d.deeds) (waiting t) none each
    by_start AtArrival = through P (marks_done a d.deeds) (filter (λ (b : Arrival). not (b.event == a.event)) (waiting t)) none (each-filter P (λ (b : Arrival). not (b.event == a.event)) (waiting t) each)
    by_start AfterWaiting = through P (marks_done a d.deeds) (filter (λ (b : Arrival). not (b.event == a.event)) (waiting t)) none (each-filter P (λ (b : Arrival). not (b.event == a.event)) (waiting t) each)

-- what isn't held stays so where none is admitted
pub still_unheld : (item : List Mark) (t : Trace) (k : ℕ) → filter_map (admits_at k) item ≡ [] → held t k ≡ None → held (item ∷ t) k ≡ None
still_unheld item t k none gone = by_held (held (item ∷ t) k) refl
  where
    by_held : (x : Option Arrival) → held (item ∷ t) k ≡ x → x ≡ None
    by_held None is = refl
    by_held (Some h) is = let same : None ≡ Some h = sym gone ∙ held_before item t k h none is in absurd cc

-- ---- what is held, and what waits

admitted_numbered : (n : ℕ) (item : List Mark) → EachOf MarkKept item → EachOf IsNumbered (filter_map (admits_at n) item)
admitted_numbered n [] h = tt
admitted_numbered n (m ∷ item) h = by_mark m h.0 (admitted_numbered n item h.1)
  where
    by_mark : (x : Mark) → MarkKept x → EachOf IsNumbered (filter_map (admits_at n) item) → EachOf IsNumbered (cons_option (admits_at n x) (filter_map (admits_at n) item))
    by_mark (Admits a) k rest = cond_both (a.number == n) (Some a) None (λ (y : Option Arrival). EachOf IsNumbered (cons_option y (filter_map (admits_at n) item))) (λ is. (k, rest)) (λ is. rest)
    by_mark (Delivers a) k rest = rest
    by_mark (Executes a) k rest = rest
    by_mark (Voids i) k rest = rest
    by_mark (Empties a) k rest = rest
    by_mark (Waits a) k rest = rest
    by_mark (Leaves c) k rest = rest
    by_mark (Enters c) k rest = rest
    by_mark (Sends conn reply) k rest = rest
    by_mark (ClosesConn conn) k rest = rest
    by_mark ClosesSession k rest = rest
    by_mark (Ignores why) k rest = rest

all_admitted : (n : ℕ) (t : Trace) → KeptIn t → EachOf IsNumbered (shown (admits_at n) t)
all_admitted n [] h = tt
all_admitted n (item ∷ t) h = each-append IsNumbered (shown (admits_at n) t) (filter_map (admits_at n) item) (all_admitted n t h.1) (admitted_numbered n item h.0)

first_numbered : (as' : List Arrival) (a : Arrival) → first_of as' ≡ Some a → EachOf IsNumbered as' → IsNumbered a
first_numbered [] a is h = absurd cc
first_numbered (b ∷ as') a is h = let same : b ≡ a = cc in subst IsNumbered same h.0

-- a request that is held is numbered
pub held_numbered : (t : Trace) (n : ℕ) (a : Arrival) → held t n ≡ Some a → KeptIn t → IsNumbered a
held_numbered t n a is h = first_numbered (shown (admits_at n) t) a (admitted_of_held t n a is) (all_admitted n t h)

waits_kept : (item : List Mark) (ws : List Arrival) → EachOf MarkKept item → EachOf IsWaiter ws → EachOf IsWaiter (waiting_through item ws)
waits_kept [] ws h k = k
waits_kept (m ∷ item) ws h k = waits_kept item (waiting_by m ws) h.1 (by_mark m h.0)
  where
    by_mark : (x : Mark) → MarkKept x → EachOf IsWaiter (waiting_by x ws)
    by_mark (Admits a) z = k
    by_mark (Delivers a) z = k
    by_mark (Executes a) z = each-filter IsWaiter (λ (b : Arrival). not (b.event == a.event)) ws k
    by_mark (Voids i) z = k
    by_mark (Empties a) z = k
    by_mark (Waits a) z = each-append IsWaiter ws (a ∷ []) k (z, tt)
    by_mark (Leaves c) z = k
    by_mark (Enters c) z = k
    by_mark (Sends conn reply) z = k
    by_mark (ClosesConn conn) z = each-filter IsWaiter (λ (b : Arrival). not (connection_of b.request == conn)) ws k
    by_mark ClosesSession z = tt
    by_mark (Ignores why) z = k

-- what waits may
pub all_waiters : (t : Trace) → KeptIn t → EachOf IsWaiter (waiting t)
all_waiters [] h = tt
all_waiters (item ∷ t) h = waits_kept item (waiting t) h.0 (all_waiters t h.1)
