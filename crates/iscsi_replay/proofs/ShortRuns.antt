-- No effect of a run is long: requests with long headers or great CIDs don't come in.
use Rattle.std.proofs.Common.{◌≡◌, ℕ, ◌+◌, ◌^◌, ◌<◌, ◌==◌, ⊎_elim, cond, Bool, true, false, List, [], ◌∷◌, length, map, Option, Some, None, refl, sym, subst, arith}
use Rattle.std.specs.List.{flat_map, filter_map, All}
use Rattle.std.proofs.lemmas.List.Elements.{All-nil, All-cons, All-head, All-tail, All-append}
use Rattle.std.proofs.lemmas.Fmt.{length-decimal-le}
use Rattle.iscsi_wire.specs.declared.reply.Sense.{Sense}
use Rattle.iscsi_wire.specs.declared.reply.Reply.{Reply}
use Rattle.iscsi_wire.specs.declared.reply.Reply.TheVariants.{Scsi, Task, Logout, Nop, Reject}
use Rattle.iscsi_wire.specs.Fields.{connection_of, header_of, itt}
use Rattle.iscsi_rules.specs.declared.effect.Effect.TheVariants.{Enable}
use Rattle.iscsi_rules.specs.declared.event.Event.{Event}
use Rattle.iscsi_rules.specs.declared.event.Event.TheVariants.{Arrive, Done}
use Rattle.iscsi_rules.specs.rules.Settings.{Setting}
use Rattle.iscsi_rules.specs.rules.Trace.{Arrival, Command, Mark, Admits, Delivers, Executes, Voids, Empties, Waits, Leaves, Enters, Sends, ClosesConn, ClosesSession, Ignores, Trace, after_items, shown, admits_at, held, waiting, waiting_by, waiting_through}
use Rattle.iscsi_rules.specs.rules.Execution.{sense_of_status}
use Rattle.iscsi_rules.specs.rules.Agenda.{items_of}
use Rattle.iscsi_rules.specs.rules.Run.{after_event, effects_of_mark, newly_enabled, effects_of_item, effects_of, entries_from, entry_of, run_of}
use Rattle.iscsi_rules.specs.promises.Answers.{Answers}
use Rattle.iscsi_rules.proofs.general.ElementLemmas.{In, in-append, in-cons, in-filter, first-in}
use Rattle.iscsi_rules.proofs.traces.HeldLemmas.{admitted_of_held}
use Rattle.iscsi_rules.proofs.items.Forms.{Start, AtTurn, AtArrival, AfterWaiting, start_mark, marks_done, Form, Ignored, Rejected, Received, Postponed, Completed, Executed, marks_of_form, Starts, IsFormed}
use Rattle.iscsi_rules.proofs.items.FormRuns.{IsDue, StandsAt, Stands, Turns, TurnsOf, Brings, event_stands}
use Rattle.iscsi_rules.proofs.items.DeedLemmas.{each_is, each_done}
use Rattle.iscsi_replay.specs.promises.Again.{IsRecordableEvent}
use Rattle.iscsi_recording.proofs.FieldLemmas.{decimal_length}
use Rattle.iscsi_recording.proofs.EffectLemmas.{IsShortReply, IsShortEffect}
use Rattle.iscsi_replay.proofs.AgainLemmas.{IsShortEntry}

-- ---- replies

-- a CID of 16 bits and a header of 48 bytes
abbrev IsSmall : Arrival → Type 0
IsSmall a = (connection_of a.request < 2 ^ 16) × (length (header_of a.request) ≡ 48)

short_task : (conn tag response : ℕ) → IsShortReply conn (Task tag response)
short_task conn tag response = omega (arith, decimal_length conn)

short_logout : (conn tag response : ℕ) → IsShortReply conn (Logout tag response)
short_logout conn tag response = omega (arith, decimal_length conn)

short_nop : (conn tag : ℕ) → IsShortReply conn (Nop tag)
short_nop conn tag = omega (arith, decimal_length conn)

short_scsi : (conn tag status : ℕ) (sense : Option Sense) → IsShortReply conn (Scsi tag status sense)
short_scsi conn tag status None = omega (arith, decimal_length conn)
short_scsi conn tag status (Some s) = omega (arith, decimal_length conn)

short_reject : (a : Arrival) (reason : ℕ) → IsSmall a → IsShortReply (connection_of a.request) (Reject reason (header_of a.request))
short_reject a reason small =
    let cid = small.0 in
    let long = small.1 in
    omega (arith, long, length-decimal-le 5 (connection_of a.request) (omega arith) (omega (arith, cid)) (omega (arith, cid)))

-- ---- marks whose effects are short, and that bring in small requests alone

abbrev IsShortMark : Mark → Type 0
IsShortMark (Admits a) = IsSmall a
IsShortMark (Waits a) = IsSmall a
IsShortMark (Sends conn reply) = IsShortReply conn reply
IsShortMark _ = Unit {0}

abbrev AreShortMarks : List Mark → Type 0
AreShortMarks [] = Unit {0}
AreShortMarks (m ∷ ms) = IsShortMark m × AreShortMarks ms

-- so of items, in either order
abbrev AreShortItems : List (List Mark) → Type 0
AreShortItems [] = Unit {0}
AreShortItems (item ∷ items) = AreShortMarks item × AreShortItems items

after_short : (items : List (List Mark)) (t : Trace) → AreShortItems items → AreShortItems t → AreShortItems (after_items items t)
after_short [] t x y = y
after_short (item ∷ items) t x y = after_short items (item ∷ t) x.1 (x.0, y)

-- ---- requests that are held, and functions that wait

abbrev AreSmall : List Arrival → Type 0
AreSmall as' = (a : Arrival) → In a as' → IsSmall a

mark_admits : (n : ℕ) (m : Mark) (a : Arrival) → IsShortMark m → admits_at n m ≡ Some a → IsSmall a
mark_admits n (Admits b) a x is = elim (b.number == n) as (λ v. cond v (Some b) None ≡ Some a → IsSmall a) [ true ↦ λ found. let same : b ≡ a = cc in subst IsSmall same x | false ↦ λ found. absurd cc ] is
mark_admits n (Delivers b) a x is = absurd cc
mark_admits n (Executes b) a x is = absurd cc
mark_admits n (Voids k) a x is = absurd cc
mark_admits n (Empties b) a x is = absurd cc
mark_admits n (Waits b) a x is = absurd cc
mark_admits n (Leaves c) a x is = absurd cc
mark_admits n (Enters c) a x is = absurd cc
mark_admits n (Sends conn reply) a x is = absurd cc
mark_admits n (ClosesConn conn) a x is = absurd cc
mark_admits n ClosesSession a x is = absurd cc
mark_admits n (Ignores why) a x is = absurd cc

item_admits : (n : ℕ) (item : List Mark) → AreShortMarks item → AreSmall (filter_map (admits_at n) item)
item_admits n [] x a h = absurd h
item_admits n (m ∷ ms) x a h = ⊎_elim (λ is. mark_admits n m a x.0 is) (λ later. item_admits n ms x.1 a later) (in-cons (admits_at n m) (filter_map (admits_at n) ms) a h)

trace_admits : (n : ℕ) (t : Trace) → AreShortItems t → AreSmall (shown (admits_at n) t)
trace_admits n [] x a h = absurd h
trace_admits n (item ∷ t) x a h = ⊎_elim (λ before. trace_admits n t x.1 a before) (λ now. item_admits n item x.0 a now) (in-append (shown (admits_at n) t) (filter_map (admits_at n) item) a h)

held_small : (t : Trace) (n : ℕ) (a : Arrival) → AreShortItems t → held t n ≡ Some a → IsSmall a
held_small t n a x is = trace_admits n t x a (first-in (shown (admits_at n) t) a (admitted_of_held t n a is))

mark_waits : (m : Mark) (ws : List Arrival) → IsShortMark m → AreSmall ws → AreSmall (waiting_by m ws)
mark_waits (Waits b) ws h x a there = ⊎_elim (λ before. x a before) (λ now. ⊎_elim (λ same. subst IsSmall same h) (λ none. absurd none) now) (in-append ws (b ∷ []) a there)
mark_waits (Executes b) ws h x a there = x a (in-filter _ ws a there).0
mark_waits (ClosesConn conn) ws h x a there = x a (in-filter _ ws a there).0
mark_waits ClosesSession ws h x a there = absurd there
mark_waits (Admits b) ws h x a there = x a there
mark_waits (Delivers b) ws h x a there = x a there
mark_waits (Voids n) ws h x a there = x a there
mark_waits (Empties b) ws h x a there = x a there
mark_waits (Leaves c) ws h x a there = x a there
mark_waits (Enters c) ws h x a there = x a there
mark_waits (Sends conn reply) ws h x a there = x a there
mark_waits (Ignores why) ws h x a there = x a there

item_waits : (item : List Mark) (ws : List Arrival) → AreShortMarks item → AreSmall ws → AreSmall (waiting_through item ws)
item_waits [] ws h x a there = x a there
item_waits (m ∷ ms) ws h x a there = item_waits ms (waiting_by m ws) h.1 (mark_waits m ws h.0 x) a there

waiting_small : (t : Trace) → AreShortItems t → AreSmall (waiting t)
waiting_small [] x a h = absurd h
waiting_small (item ∷ t) x a h = item_waits item (waiting t) x.0 (waiting_small t x.1) a h

-- ---- items

-- either way
pub either : {A : Type 0} (P : A → Type 0) (b : Bool) (x y : A) → P x → P y → P (cond b x y)
either P true x y h k = h
either P false x y h k = k

-- a reply to the request itself
own_short : (a : Arrival) (reply : Reply) → IsSmall a → Answers a.request reply → IsShortReply (connection_of a.request) reply
own_short a (Scsi tag status sense) small own = short_scsi (connection_of a.request) tag status sense
own_short a (Task tag response) small own = short_task (connection_of a.request) tag response
own_short a (Logout tag response) small own = short_logout (connection_of a.request) tag response
own_short a (Nop tag) small own = short_nop (connection_of a.request) tag
own_short a (Reject reason header) small own = rw own (short_reject a reason small)

-- an arrival is small
abbrev Small : Trace → Arrival → Type 0
Small t a = IsSmall a

form_short : (o : Setting) (now p : ℕ) (t : Trace) (form : Form) → IsFormed o now t form → StandsAt Small o now p t form → AreShortItems t → AreShortMarks (marks_of_form form)
form_short o now p t (Ignored why) x at short = (tt, tt)
form_short o now p t (Rejected a) x at short = (short_reject a 5 at, tt)
form_short o now p t (Received a) x at short = (at.0, tt)
form_short o now p t (Postponed a) x at short = (at, tt)
form_short o now p t (Completed c status) x at short = (tt, (short_scsi (connection_of c.arrival.request) (itt c.arrival.request) status (sense_of_status status), tt))
form_short o now p t (Executed start a d) x at short = (by_mark start, done (small start x.0 at.0))
  where
    small : (s : Start) → Starts now t s a → IsDue Small o now p t s a → IsSmall a
    small AtTurn is due = held_small t a.number a short is
    small AtArrival is due = due
    small AfterWaiting is due = waiting_small t short a due.1

    by_mark : (s : Start) → IsShortMark (start_mark s a)
    by_mark AtTurn = tt
    by_mark AtArrival = tt
    by_mark AfterWaiting = tt

    done : IsSmall a → AreShortMarks (marks_done a d)
    done of_request =
        each_done a d AreShortMarks tt (λ n is ms rest. (tt, rest)) (λ c there ms rest. (tt, rest)) (λ b there ms rest. (tt, rest)) (λ c is ms rest. (tt, rest))
        (λ reply is ms rest. (own_short a reply of_request (each_is (Answers a.request) d.reply reply x.1.answers is), rest)) (λ conn is ms rest. (tt, rest)) (λ is ms rest. (tt, rest))

item_short : (o : Setting) (now p : ℕ) (t : Trace) (item : List Mark) → Stands Small o now p t item → AreShortItems t → AreShortMarks item
item_short o now p t item s short = subst AreShortMarks (sym s.has.is) (form_short o now p t s.has.form s.has.formed s.at short)

turns_short : (o : Setting) (now p e : ℕ) (t : Trace) (items : List (List Mark)) → Turns Small o now p e t items → AreShortItems t → AreShortItems items
turns_short o now p e t [] s short = tt
turns_short o now p e t (item ∷ items) s short = let this : AreShortMarks item = item_short o now s.0 t item s.1.1.0 short in (this, turns_short o now s.0 e (item ∷ t) items s.1.1.1.1 (this, short))

event_short : (o : Setting) (event : ℕ) (t : Trace) (e : Event) → AreShortItems t → IsRecordableEvent e → AreShortItems (items_of o event t e)
event_short o event t e short h = by_items (items_of o event t e) (event_stands Small o event t e (comes e h))
  where
    comes : (e : Event) → IsRecordableEvent e → Brings Small o event t e
    comes (Arrive conn header) h = λ is. (h.0, h.1)
    comes (Done ticket status) h = tt

    by_items : (items : List (List Mark)) → TurnsOf Small o event t items → AreShortItems items
    by_items [] s = tt
    by_items (item ∷ items) s = let this : AreShortMarks item = item_short o event _ t item s.0 short in (this, turns_short o event _ _ (item ∷ t) items s.1 (this, short))

-- ---- effects

mark_effects : (o : Setting) (t : Trace) (m : Mark) → IsShortMark m → All IsShortEffect (effects_of_mark o t m)
mark_effects o t (Admits a) h = All-nil IsShortEffect
mark_effects o t (Delivers a) h = All-cons IsShortEffect _ [] tt (All-nil IsShortEffect)
mark_effects o t (Executes a) h = All-cons IsShortEffect _ [] tt (All-nil IsShortEffect)
mark_effects o t (Voids n) h = All-cons IsShortEffect _ [] tt (All-nil IsShortEffect)
mark_effects o t (Empties a) h = All-cons IsShortEffect _ [] tt (All-nil IsShortEffect)
mark_effects o t (Waits a) h = All-cons IsShortEffect _ [] tt (All-nil IsShortEffect)
mark_effects o t (Leaves c) h = All-cons IsShortEffect _ [] tt (All-nil IsShortEffect)
mark_effects o t (Enters c) h = All-cons IsShortEffect _ [] tt (All-nil IsShortEffect)
mark_effects o t (Sends conn reply) h = All-cons IsShortEffect _ [] h (All-nil IsShortEffect)
mark_effects o t (ClosesConn conn) h = All-cons IsShortEffect _ [] tt (All-nil IsShortEffect)
mark_effects o t ClosesSession h = All-cons IsShortEffect _ [] tt (All-nil IsShortEffect)
mark_effects o t (Ignores why) h = All-cons IsShortEffect _ [] tt (All-nil IsShortEffect)

marks_effects : (o : Setting) (t : Trace) (ms : List Mark) → AreShortMarks ms → All IsShortEffect (flat_map (effects_of_mark o t) ms)
marks_effects o t [] h = All-nil IsShortEffect
marks_effects o t (m ∷ ms) h = All-append IsShortEffect (effects_of_mark o t m) (flat_map (effects_of_mark o t) ms) (mark_effects o t m h.0) (marks_effects o t ms h.1)

enables_effects : (cs : List Command) → All IsShortEffect (map (λ (c : Command). Enable c.ticket c.unit) cs)
enables_effects [] = All-nil IsShortEffect
enables_effects (c ∷ cs) = All-cons IsShortEffect (Enable c.ticket c.unit) (map (λ (d : Command). Enable d.ticket d.unit) cs) tt (enables_effects cs)

items_effects : (o : Setting) (t : Trace) (items : List (List Mark)) → AreShortItems items → All IsShortEffect (effects_of o t items)
items_effects o t [] h = All-nil IsShortEffect
items_effects o t (item ∷ items) h =
    All-append IsShortEffect (effects_of_item o t item) (effects_of o (item ∷ t) items)
    (All-append IsShortEffect (flat_map (effects_of_mark o t) item) _ (marks_effects o t item h.0) (enables_effects (newly_enabled o t item)))
    (items_effects o (item ∷ t) items h.1)

-- ---- a run

entries_short : (o : Setting) (event : ℕ) (t : Trace) (events : List Event) → AreShortItems t → All IsRecordableEvent events → All IsShortEntry (entries_from o event t events)
entries_short o event t [] x h = All-nil IsShortEntry
entries_short o event t (e ∷ es) x h =
    let items : List (List Mark) = items_of o event t e in
    let short : AreShortItems items = event_short o event t e x (All-head IsRecordableEvent e es h) in
    All-cons IsShortEntry (entry_of o event t e) (entries_from o (event + 1) (after_event o event t e) es) (items_effects o t items short)
    (entries_short o (event + 1) (after_event o event t e) es (after_short items t short x) (All-tail IsRecordableEvent e es h))

-- no effect of a run is long, where each event can be recorded
pub run_short : (o : Setting) (events : List Event) → All IsRecordableEvent events → All IsShortEntry (run_of o events)
run_short o events h = entries_short o 0 [] events tt h

entries_count : (o : Setting) (event : ℕ) (t : Trace) (events : List Event) → length (entries_from o event t events) ≡ length events
entries_count o event t [] = refl
entries_count o event t (e ∷ es) = let rest = entries_count o (event + 1) (after_event o event t e) es in omega (arith, rest)

-- one entry for each event
pub run_count : (o : Setting) (events : List Event) → length (run_of o events) ≡ length events
run_count o events = entries_count o 0 [] events
