-- What is known of a command that leaves by a request: its own request is neither held nor waits, has no reply, and it runs on where it was told.
use Rattle.std.proofs.Common.{◌≡◌, ℕ, ◌+◌, ◌<◌, ◌≤◌, ◌==◌, ◌&&◌, ◌||◌, not, ⊎_elim, cond, Bool, true, false, List, [], ◌∷◌, ◌++◌, length, count_by, filter_map, find, is_some, Option, Some, None, refl, ap, sym, subst, ◌∙◌, arith, eq-eqb, lt-ltb, nat_lt, ne_eqb, filter}
use Rattle.iscsi_ffi_law.proofs.arrivals.Opens.{leaving_seen}
use Rattle.iscsi_rules.proofs.general.ListLemmas.{list_any-map}
use Rattle.std.specs.List.{list_any}
use Rattle.std.proofs.lemmas.Bool.{eqb-true, false≢true}
use Rattle.iscsi_wire.specs.declared.request.Request.{Request}
use Rattle.iscsi_rules.specs.declared.effect.Effect.{Effect}
use Rattle.iscsi_rules.specs.promises.Replies.{answered_in, replies_to, reply_sent}
use Rattle.iscsi_rules.specs.rules.Run.{effects_of_item}
use Rattle.iscsi_rules.specs.rules.Settings.{Setting}
use Rattle.iscsi_rules.specs.rules.Trace.{Admits, Arrival, ClosesConn, ClosesSession, Command, Delivers, Empties, Enters, Executes, Ignores, Leaves, Mark, Sends, Trace, Voids, Waits, admitted, after_items, entered, enters, has, held, is_among, is_delivered, is_emptied, leaves_ticket, live, shown, waiting, was_free}
use Rattle.iscsi_rules.proofs.general.BoolLemmas.{and_parts, not_true, or_false, or_none}
use Rattle.iscsi_rules.proofs.general.ElementLemmas.{In, filter-in, in-append, in-filter}
use Rattle.iscsi_rules.proofs.items.Forms.{AfterWaiting, AtArrival, AtTurn, Deeds, Each, Executed, HasForm, HaveForms, IsDone, Start, Starts, marks_done, start_mark, Ignored, Postponed, Received}
use Rattle.iscsi_rules.proofs.promises.LifeLemmas.{beyond_entered}
use Rattle.iscsi_rules.proofs.promises.NumberingLemmas.{to_list}
use Rattle.iscsi_rules.proofs.promises.ReplyForms.{comes_of, is_of}
use Rattle.iscsi_rules.proofs.promises.ReplyRuns.{is_below, one_most, standing, standing_item, standing_once}
use Rattle.iscsi_rules.proofs.promises.ReplyTurns.{admits_request, awaited, begins_of, is_owed, owed}
use Rattle.iscsi_rules.proofs.items.TouchLemmas.{EntersNext, entering_in, entering_next, enters_form, leaves_form}
use Rattle.iscsi_outbox_rules.specs.rules.Boxes.{Box, Completed as CompletedPhase, Dormant, Fresh, Gone, Phase, Running, Started, Task}
use Rattle.iscsi_outbox_rules.specs.rules.Items.{after_item, executing, phase_enabled, phase_taken_out, ticket_enabled, tickets_left}
use Rattle.iscsi_outbox_rules.specs.rules.Words.{contains, is_live_phase, is_running, is_running_phase}
use Rattle.iscsi_outbox_rules.proofs.closes.ClosedParts.{effects_each}
use Rattle.iscsi_outbox_rules.proofs.room.RoomLives.{SameLive, forms_below}
use Rattle.iscsi_outbox_rules.proofs.commands.TaskLives.{entered_tasks, item_tasks, left_tasks}
use Rattle.iscsi_outbox_law.specs.private.Pairs.{EachOf, InOrder}
use Rattle.iscsi_outbox_law.specs.private.Sound.{IsItemSound, IsSound, is_live_in, NoneIsFresh, is_fresh_phase}
use Rattle.iscsi_outbox_law.proofs.general.PairLemmas.{each-weaken}
use Rattle.iscsi_ffi_rules.specs.rules.Calls.{Interface}
use Rattle.iscsi_ffi_rules.specs.rules.Happening.{leaving}
use Rattle.iscsi_ffi_rules.specs.rules.Needs.{admitted_by, is_held}
use Rattle.iscsi_ffi_rules.specs.rules.Sides.{Side}
use Rattle.iscsi_ffi_law.specs.Arrived.{AreLeavingFit, IsLeavingFit, side_behind}
use Rattle.iscsi_ffi_law.specs.Sides.{AreItemsFit}
use Rattle.iscsi_ffi_law.proofs.outbox_invariants.FitLives.{SameHomes, homes_item}
use Rattle.iscsi_ffi_law.proofs.session_invariants.FitOnce.{AreTickets, entered_more, none_beyond}
use Rattle.iscsi_ffi_law.proofs.outbox_invariants.FitPhases.{AreFreed, entered_at, is_at, is_started_phase, left_by_item, none_at, phased_in, phased_same, started_item, is_dormant_phase}
use Rattle.iscsi_ffi_law.proofs.session_invariants.FitReplied.{AreReplied, due_form, due_told, replied_item, begins_none, executed_told}
use Rattle.iscsi_ffi_law.proofs.general.Members.{any_counted, any_in, each_in, find_in, in_any, in_counted, in_each}
use Rattle.iscsi_ffi_law.proofs.arrivals.Turns.{AreDue, Becomes, IsExecuted, IsIgnored, IsPostponed, IsReceived, IsRejected, IsDueBy}

-- ---- which commands leave

leaving_done : (s : Start) (a : Arrival) (d : Deeds) → filter_map leaving (start_mark s a ∷ marks_done a d) ≡ d.leaving
leaving_done AtTurn a d = leaving_seen a d
leaving_done AtArrival a d = leaving_seen a d
leaving_done AfterWaiting a d = leaving_seen a d

-- ---- a request that nothing stands of

same_admits : (ms : List Mark) → filter_map admitted_by ms ≡ filter_map admits_request ms
same_admits [] = refl
same_admits (Admits a ∷ ms) = ap (λ xs. a ∷ xs) (same_admits ms)
same_admits (Delivers a ∷ ms) = same_admits ms
same_admits (Executes a ∷ ms) = same_admits ms
same_admits (Voids n ∷ ms) = same_admits ms
same_admits (Empties a ∷ ms) = same_admits ms
same_admits (Waits a ∷ ms) = same_admits ms
same_admits (Leaves c ∷ ms) = same_admits ms
same_admits (Enters c ∷ ms) = same_admits ms
same_admits (Sends conn reply ∷ ms) = same_admits ms
same_admits (ClosesConn conn ∷ ms) = same_admits ms
same_admits (ClosesSession ∷ ms) = same_admits ms
same_admits (Ignores why ∷ ms) = same_admits ms

same_shown : (t : Trace) → shown admitted_by t ≡ shown admits_request t
same_shown [] = refl
same_shown (item ∷ t) = ap (λ xs. xs ++ filter_map admitted_by item) (same_shown t) ∙ ap (λ xs. shown admits_request t ++ xs) (same_admits item)

pub unheld : (e : ℕ) (t : Trace) → count_by (is_of e) (owed t) ≡ 0 → is_held e t ≡ false
unheld e t none = by_found (find (is_of e) (shown admitted_by t)) refl
  where
    by_tests : (a : Arrival) → is_owed t a ≡ false → (u v : Bool) → is_delivered t a.number ≡ u → is_emptied t a.number ≡ v → is_some (cond (u || v) None (admitted t a.number)) ≡ false
    by_tests a unowed true v is k = refl
    by_tests a unowed false v is k = absurd (false≢true (sym unowed ∙ ap not is))

    by_owed : (a : Arrival) → In a (shown admits_request t) → (a.event == e) ≡ true → (v : Bool) → is_owed t a ≡ v → is_owed t a ≡ false
    by_owed a there is false k = k
    by_owed a there is true k = let some = in_counted (is_of e) (owed t) a (filter-in (is_owed t) (shown admits_request t) a there k) is in let no : ⊥ = omega (arith, some, none) in absurd no

    by_found : (x : Option Arrival) → find (is_of e) (shown admitted_by t) ≡ x → elim x [ Some a ↦ is_some (held t a.number) | None ↦ false ] ≡ false
    by_found None is = refl
    by_found (Some a) is =
        let there = find_in (is_of e) (shown admitted_by t) a is in
        by_tests a (by_owed a (subst (In a) (same_shown t) there.0) there.1 (is_owed t a) refl) (is_delivered t a.number) (is_emptied t a.number) refl refl

-- ---- the phase of a task

none_later : (k : ℕ) (test : Phase → Bool) (ts : List Task) → EachOf (λ (y : Task). k < y.ticket) ts → is_at k test ts ≡ false
none_later k test [] each = refl
none_later k test (y ∷ ts) each =
    let lt = each.0 in
    ap (λ v. (v && test y.phase) || is_at k test ts) (ne_eqb y.ticket k (λ same. let no : ⊥ = omega (arith, same, lt) in no)) ∙ none_later k test ts each.1

-- tickets go up, so there is one with a ticket
one_at : (ts : List Task) (x : Task) → InOrder (λ (t u : Task). t.ticket < u.ticket) ts → In x ts → (test : Phase → Bool) → is_at x.ticket test ts ≡ test x.phase
one_at [] x up there test = absurd there
one_at (y ∷ ts) x up there test =
    ⊎_elim
    (λ (same : y ≡ x).
    ap (λ v. (v && test y.phase) || is_at x.ticket test ts) (eq-eqb y.ticket x.ticket (ap (λ (z : Task). z.ticket) same))
    ∙ ap (λ v. test y.phase || v) (none_later x.ticket test ts (subst (λ (z : Task). EachOf (λ (u : Task). z.ticket < u.ticket) ts) same up.0)) ∙ or_false (test y.phase) ∙ ap (λ (z : Task). test z.phase) same)
    (λ later.
    let lt : y.ticket < x.ticket = each_in (λ (u : Task). y.ticket < u.ticket) ts x later up.0 in
    ap (λ v. (v && test y.phase) || is_at x.ticket test ts) (ne_eqb y.ticket x.ticket (λ same. let no : ⊥ = omega (arith, same, lt) in no)) ∙ one_at ts x up.1 later test)
    there

-- the task of a live command
record IsLiveTask (b : Box) (k : ℕ) : Type 0 where
  x : Task
  there : In x b.tasks
  ticket : x.ticket ≡ k
  alive : is_live_phase x.phase ≡ true

live_task : (b : Box) (k : ℕ) → is_live_in b k ≡ true → IsLiveTask b k
live_task b k is =
    let x = any_in (λ (y : Task). y.ticket == k && is_live_phase y.phase) b.tasks is in
    let parts = and_parts (x.x.ticket == k) (is_live_phase x.x.phase) x.passes in
    record { x = x.x; there = x.there; ticket = eqb-true x.x.ticket k parts.0; alive = parts.1 }

at_task : (b : Box) (k : ℕ) → InOrder (λ (t u : Task). t.ticket < u.ticket) b.tasks → (x : IsLiveTask b k) → (test : Phase → Bool) → is_at k test b.tasks ≡ test x.x.phase
at_task b k up x test = ap (λ n. is_at n test b.tasks) (sym x.ticket) ∙ one_at b.tasks x.x up x.there test

-- one that started runs on as it is taken out
running_is : (p : Phase) → is_live_phase p ≡ true → is_running_phase (phase_taken_out p) ≡ is_started_phase p
running_is Dormant live = refl
running_is Fresh live = refl
running_is Started live = refl
running_is CompletedPhase live = absurd (false≢true live)
running_is Running live = absurd (false≢true live)
running_is Gone live = absurd (false≢true live)

-- ---- before each item

pub record IsMid (r : Side) : Type 0 where
  pub replied : AreReplied r.both.event r.both.trace r.answers
  pub homes : SameHomes r.both.box r.both.trace
  pub told : AreTickets r.both.trace r.told
  -- what is live started where it was told to
  pub started : (k : ℕ) → is_among k (live r.both.trace) ≡ true → is_at k is_started_phase r.both.box.tasks ≡ contains r.told k

module _ (i : Interface) where
  abbrev o : Setting
  o = i.outbox.session

  mid_item : (r : Side) (item : List Mark) (m : ℕ) → HaveForms o m r.both.trace → HasForm o r.both.event r.both.trace item → (answered_in item ≡ None → filter_map reply_sent item ≡ []) → IsMid r → IsMid (side_behind i r item)
  mid_item r item m forms f told mid = record {
    replied = replied_item i.outbox.session r.both.event r.both.trace item r.answers f told mid.replied;
    homes = homes_item i.outbox r.both.event r.both.trace item r.both.box f mid.homes;
    told = each-weaken (λ (k : ℕ). k ≤ length (entered r.both.trace)) (λ (k : ℕ). k ≤ length (entered (item ∷ r.both.trace))) r.told (λ k le. let grown = entered_more item r.both.trace in omega (arith, le, grown)) mid.told;
    started = started;
  }
    where
      entering : (x : Option Command) → entering_in f.form ≡ x → Each (EntersNext i.outbox.session r.both.trace f.form) x → (c : Command) → In c (to_list x) → c.ticket ≡ length (entered r.both.trace) + 1
      entering None is next c there = absurd there
      entering (Some e) is next c there = ⊎_elim (λ (same : e ≡ c). ap (λ (d : Command). d.ticket) (sym same) ∙ next.next) (λ no. absurd no) there

      started : (k : ℕ) → is_among k (live (item ∷ r.both.trace)) ≡ true → is_at k is_started_phase (after_item i.outbox r.both.box (effects_of_item i.outbox.session r.both.trace item)).tasks ≡ contains r.told k
      started k lives =
          let c = any_in (λ (d : Command). d.ticket == k) (live (item ∷ r.both.trace)) lives in
          let ticket : c.x.ticket ≡ k = eqb-true c.x.ticket k c.passes in
          let there = in-filter (λ (d : Command). not (has (leaves_ticket d.ticket) (item ∷ r.both.trace))) (entered (item ∷ r.both.trace)) c.x c.there in
          let unleft = or_none (list_any (leaves_ticket c.x.ticket) item) (has (leaves_ticket c.x.ticket) r.both.trace) (not_true (has (leaves_ticket c.x.ticket) (item ∷ r.both.trace)) there.1) in
          started_item i.outbox r.both.event r.both.trace item r.both.box f k (ap (λ n. list_any (leaves_ticket n) item) (sym ticket) ∙ unleft.0)
          ∙ ⊎_elim
          (λ before. mid.started k (in_any (λ (d : Command). d.ticket == k) (live r.both.trace) c.x (filter-in (λ (d : Command). not (has (leaves_ticket d.ticket) r.both.trace)) (entered r.both.trace) c.x before (ap not unleft.1)) c.passes))
          (λ new.
          let next = entering (entering_in f.form) refl (entering_next i.outbox.session r.both.event r.both.trace f.form f.formed) c.x (subst (In c.x) (ap (filter_map enters) f.is ∙ enters_form f.form) new) in
          let none : is_among k (entered r.both.trace) ≡ false = beyond_entered i.outbox.session r.both.trace m forms k (omega (arith, next, ticket)) in
          none_at r.both.trace r.both.box k is_started_phase mid.homes none ∙ sym (none_beyond (length (entered r.both.trace)) k r.told (omega (arith, next, ticket)) mid.told))
          (in-append (entered r.both.trace) (filter_map enters item) c.x there.0)

  -- a request that executes
  module _ (r : Side) (s : Start) (a : Arrival) (d : Deeds) (m : ℕ) (forms : HaveForms i.outbox.session m r.both.trace) (starts : Starts r.both.event r.both.trace s a) (done : IsDone i.outbox.session r.both.trace s a d)
      (later : (e : ℕ) → 1 ≤ standing e r.both.trace → begins_of r.both.event e (Executed s a d) ≡ 0) (mid : IsMid r)
      (sound : IsSound i.outbox r.both.box) (item_sound : IsItemSound i.outbox r.both.box (effects_of_item i.outbox.session r.both.trace (start_mark s a ∷ marks_done a d))) where
    abbrev t : Trace
    t = r.both.trace

    abbrev item : List Mark
    item = start_mark s a ∷ marks_done a d

    abbrev es : List Effect
    es = effects_of_item i.outbox.session t item

    abbrev f : HasForm i.outbox.session r.both.event t item
    f = record { form = Executed s a d; is = refl; formed = (starts, done) }

    -- the request of one that leaves
    module _ (c : Command) (there : In c d.leaving) where
      abbrev e : ℕ
      e = c.arrival.event

      some : 1 ≤ count_by (comes_of e) d.leaving
      some = in_counted (comes_of e) d.leaving c there (eq-eqb e e refl)

      lives : 1 ≤ count_by (comes_of e) (live t)
      lives = let le = done.leaves (comes_of e) in omega (arith, some, le)

      parts : (u : Trace) → standing e u ≡ length (replies_to e u) + count_by (comes_of e) (live u) + awaited e u
      parts u = refl

      one_stands : standing e t ≤ 1
      one_stands = let once = standing_once i.outbox.session e t m forms in let most = one_most (nat_lt e m) in omega (arith, once, most)

      none_stands : standing e (item ∷ t) ≡ 0
      none_stands =
          let split = parts t in
          let stands : 1 ≤ standing e t = omega (arith, split, lives) in
          let falls : standing e (item ∷ t) + count_by (comes_of e) d.leaving ≤ standing e t + begins_of r.both.event e (Executed s a d) = standing_item i.outbox.session r.both.event e t item f in
          omega (arith, falls, some, one_stands, later e stands)

      waits_none : (u : Trace) → standing e u ≡ 0 → (count_by (is_of e) (waiting u) ≡ 0) × (count_by (is_of e) (owed u) ≡ 0)
      waits_none u zero =
          let split = parts u in
          let same : awaited e u ≡ count_by (is_of e) (waiting u) + count_by (is_of e) (owed u) = refl in
          ((let z : count_by (is_of e) (waiting u) ≡ 0 = omega (arith, zero, split, same) in z), (let z : count_by (is_of e) (owed u) ≡ 0 = omega (arith, zero, split, same) in z))

      unanswered : contains r.answers e ≡ false
      unanswered = by_test (contains r.answers e) refl
        where
          by_test : (v : Bool) → contains r.answers e ≡ v → contains r.answers e ≡ false
          by_test false is = is
          by_test true is =
              let split = parts t in
              absurd (⊎_elim (λ replied. let no : ⊥ = omega (arith, replied, split, lives, one_stands) in no) (λ none. let zero : standing e t ≡ 0 = none.1 in let no : ⊥ = omega (arith, zero, split, lives) in no) (mid.replied e is))

      abbrev k : ℕ
      k = c.ticket

      among : is_among k (live t) ≡ true
      among =
          let le = done.leaves (λ (x : Command). x.ticket == k) in
          let have = in_counted (λ (x : Command). x.ticket == k) d.leaving c there (eq-eqb k k refl) in
          any_counted (λ (x : Command). x.ticket == k) (live t) ∙ lt-ltb 0 (count_by (λ (x : Command). x.ticket == k) (live t)) (omega (arith, le, have))

      leaves_here : contains (tickets_left es) k ≡ true
      leaves_here = left_by_item i.outbox.session t k item ∙ leaves_form k (Executed s a d) ∙ in_any (λ (x : Command). x.ticket == k) d.leaving c there (eq-eqb k k refl)

      task : IsLiveTask r.both.box k
      task =
          let x = any_in (λ n. n == k) (tickets_left es) leaves_here in
          live_task r.both.box k (subst (λ n. is_live_in r.both.box n ≡ true) (eqb-true x.x k x.passes) (each_in (λ n. is_live_in r.both.box n ≡ true) (tickets_left es) x.x x.there item_sound.left))

      executes : (q : Request) × (executing es ≡ Some q)
      executes = by_start s
        where
          by_start : (u : Start) → (q : Request) × (executing (effects_of_item i.outbox.session t (start_mark u a ∷ marks_done a d)) ≡ Some q)
          by_start AtTurn = (a.request, refl)
          by_start AtArrival = (a.request, refl)
          by_start AfterWaiting = (a.request, refl)

      same_enabled : (p : Phase) → is_running_phase (phase_enabled p) ≡ is_running_phase p
      same_enabled Dormant = refl
      same_enabled Fresh = refl
      same_enabled Started = refl
      same_enabled CompletedPhase = refl
      same_enabled Running = refl
      same_enabled Gone = refl

      and_none : (v : Bool) → (v && false) ≡ false
      and_none true = refl
      and_none false = refl

      runs : is_running (after_item i.outbox r.both.box es) k ≡ contains r.told k
      runs =
          let ts : List Task = left_tasks (executing es) (tickets_left es) r.both.box.tasks in
          ap (is_at k is_running_phase) (item_tasks i.outbox r.both.box es)
          ∙ phased_same phase_enabled is_running_phase (filter_map ticket_enabled es) k same_enabled (entered_tasks (executing es) es ts)
          ∙ entered_at i.outbox r.both.event t item r.both.box f k is_running_phase ts
          ∙ ap (λ v. is_at k is_running_phase ts || v) (and_none (is_among k (filter_map enters item)))
          ∙ or_false (is_at k is_running_phase ts)
          ∙ ap (λ x. is_at k is_running_phase (left_tasks x (tickets_left es) r.both.box.tasks)) executes.1
          ∙ phased_in phase_taken_out is_running_phase (tickets_left es) k leaves_here r.both.box.tasks
          ∙ at_task r.both.box k sound.homes.ascending task (λ p. is_running_phase (phase_taken_out p))
          ∙ running_is task.x.phase task.alive
          ∙ sym (at_task r.both.box k sound.homes.ascending task is_started_phase)
          ∙ mid.started k among

      one_fits : IsLeavingFit i r item c
      one_fits =
          let none = waits_none (item ∷ t) none_stands in
          record {
            held = unheld e (item ∷ t) none.1;
            waiting = any_counted (is_of e) (waiting (item ∷ t)) ∙ ap (nat_lt 0) none.0;
            unanswered = unanswered;
            runs = runs;
          }

    all_fit : EachOf (IsLeavingFit i r item) (filter_map leaving item)
    all_fit = subst (EachOf (IsLeavingFit i r item)) (sym (leaving_done s a d)) (in_each (IsLeavingFit i r item) d.leaving one_fits)

  -- ---- the items of an event

  not_begun : (now : ℕ) (t : Trace) (start : Start) (a : Arrival) (d : Deeds) → IsDueBy t start a → (e : ℕ) → begins_of now e (Executed start a d) ≡ 0
  not_begun now t AtTurn a d due e = refl
  not_begun now t AtArrival a d due e = absurd due
  not_begun now t AfterWaiting a d due e = refl

  starts_due : (now : ℕ) (t : Trace) (start : Start) (a : Arrival) → IsDueBy t start a → Starts now t start a
  starts_due now t AtTurn a due = due
  starts_due now t AtArrival a due = absurd due
  starts_due now t AfterWaiting a due = due

  due_fit : (items : List (List Mark)) (r : Side) (next : ℕ) → HaveForms i.outbox.session next (after_items items r.both.trace) → AreDue i.outbox.session r.both.trace items → AreItemsFit i.outbox r.both.box (effects_each i.outbox.session r.both.trace items) → IsMid r → AreLeavingFit i r items
  due_fit [] r next forms due fits mid = tt
  due_fit (item ∷ items) r next forms due fits mid =
      let x = due.0 in
      let below = forms_below i.outbox (item ∷ items) r.both.trace next forms in
      let make : IsItemSound i.outbox r.both.box (effects_of_item i.outbox.session r.both.trace item) → EachOf (IsLeavingFit i r item) (filter_map leaving item)
      = subst (λ ms. IsItemSound i.outbox r.both.box (effects_of_item i.outbox.session r.both.trace ms) → EachOf (IsLeavingFit i r ms) (filter_map leaving ms)) (sym x.is)
      (λ item_sound. all_fit r x.start x.a x.deeds below.0 below.1 (starts_due r.both.event r.both.trace x.start x.a x.due) x.done (λ e some. not_begun r.both.event r.both.trace x.start x.a x.deeds x.due e) mid fits.0.sound item_sound) in (
        make fits.0.item_sound,
        due_fit items (side_behind i r item) next forms due.1 fits.1 (mid_item r item below.0 below.1 (due_form i.outbox.session r.both.event r.both.trace item x) (due_told i.outbox.session r.both.trace item x) mid),
      )

  -- the first one, and those that are due by it
  module _ (r : Side) (next : ℕ) where
    abbrev Fits : List (List Mark) → Type 0
    Fits items = HaveForms i.outbox.session next (after_items items r.both.trace) → AreItemsFit i.outbox r.both.box (effects_each i.outbox.session r.both.trace items) → IsMid r → AreLeavingFit i r items

    then_due : (item : List Mark) (rest : List (List Mark)) → HasForm i.outbox.session r.both.event r.both.trace item → (answered_in item ≡ None → filter_map reply_sent item ≡ []) → AreDue i.outbox.session (item ∷ r.both.trace) rest
        → (IsSound i.outbox r.both.box → IsItemSound i.outbox r.both.box (effects_of_item i.outbox.session r.both.trace item) → IsMid r → EachOf (IsLeavingFit i r item) (filter_map leaving item)) → Fits (item ∷ rest)
    then_due item rest f told due first forms fits mid =
        let below = forms_below i.outbox (item ∷ rest) r.both.trace next forms in
        (first fits.0.sound fits.0.item_sound mid, due_fit rest (side_behind i r item) next forms due fits.1 (mid_item r item below.0 below.1 f told mid))

    pub arrival_fit : (a : Arrival) → a.event ≡ r.both.event → HaveForms i.outbox.session r.both.event r.both.trace → (items : List (List Mark)) → Becomes i.outbox.session r.both.trace a items → Fits items
    arrival_fit a here before items (IsIgnored why is) = subst Fits (sym is) (then_due (Ignores why ∷ []) [] (record { form = Ignored why; is = refl; formed = tt }) (λ none. refl) tt (λ sound item_sound mid. tt))
    arrival_fit a here before items (IsRejected is) = subst Fits (sym is) (λ forms fits mid. (tt, tt))
    arrival_fit a here before items (IsReceived rest numbered new is due) = subst Fits (sym is) (then_due (Admits a ∷ []) rest (record { form = Received a; is = refl; formed = (here, new) }) (λ none. refl) due (λ sound item_sound mid. tt))
    arrival_fit a here before items (IsExecuted d rest at_once done opens is due) =
        subst Fits (sym is)
        (then_due (Executes a ∷ marks_done a d) rest (record { form = Executed AtArrival a d; is = refl; formed = (here, done) }) (executed_told AtArrival a (marks_done a d)) due
        (λ sound item_sound mid. all_fit r AtArrival a d r.both.event before here done later mid sound item_sound))
      where
        -- what stands is of events before
        later : (e : ℕ) → 1 ≤ standing e r.both.trace → begins_of r.both.event e (Executed AtArrival a d) ≡ 0
        later e some =
            let once = standing_once i.outbox.session e r.both.trace r.both.event before in
            begins_none r.both.event e (Executed AtArrival a d) (is_below e r.both.event (omega (arith, some, once)))
    arrival_fit a here before items (IsPostponed rest at_once few is due) = subst Fits (sym is) (then_due (Waits a ∷ []) rest (record { form = Postponed a; is = refl; formed = here }) (λ none. refl) due (λ sound item_sound mid. tt))

  -- ---- as the event begins

  pub mid_begun : (r : Side) → AreReplied r.both.event r.both.trace r.answers → AreFreed i.outbox r.both.trace r.both.box → AreTickets r.both.trace r.told → SameLive i.outbox r.both.box r.both.trace → IsSound i.outbox r.both.box → NoneIsFresh r.both.box
      → ((c : Command) → In c (live r.both.trace) → contains r.told c.ticket ≡ was_free c r.both.trace) → IsMid r
  mid_begun r replied freed told lives sound stale told_is = record { replied = replied; homes = freed.homes; told = told; started = started }
    where
      task : (k : ℕ) → is_among k (live r.both.trace) ≡ true → IsLiveTask r.both.box k
      task k among =
          let ts : List Task = filter (λ (x : Task). is_live_phase x.phase) r.both.box.tasks in
          let some : list_any (λ (x : Task). x.ticket == k) ts ≡ true
          = sym (list_any-map (λ (n : ℕ). n == k) (λ (x : Task). x.ticket) ts) ∙ ap (λ ks. contains ks k) lives ∙ list_any-map (λ (n : ℕ). n == k) (λ (c : Command). c.ticket) (live r.both.trace) ∙ among in
          let x = any_in (λ (y : Task). y.ticket == k) ts some in
          let there = in-filter (λ (y : Task). is_live_phase y.phase) r.both.box.tasks x.x x.there in
          record { x = x.x; there = there.0; ticket = eqb-true x.x.ticket k x.passes; alive = there.1 }

      by_phase : (p : Phase) → is_live_phase p ≡ true → is_fresh_phase p ≡ false → (v : Bool) → is_dormant_phase p ≡ not v → is_started_phase p ≡ v
      by_phase Dormant live fresh true is = absurd (false≢true (sym is))
      by_phase Dormant live fresh false is = refl
      by_phase Fresh live fresh v is = absurd (false≢true (sym fresh))
      by_phase Started live fresh true is = refl
      by_phase Started live fresh false is = absurd (false≢true is)
      by_phase CompletedPhase live fresh v is = absurd (false≢true live)
      by_phase Running live fresh v is = absurd (false≢true live)
      by_phase Gone live fresh v is = absurd (false≢true live)

      started : (k : ℕ) → is_among k (live r.both.trace) ≡ true → is_at k is_started_phase r.both.box.tasks ≡ contains r.told k
      started k among =
          let x = task k among in
          let c = any_in (λ (d : Command). d.ticket == k) (live r.both.trace) among in
          let same : c.x.ticket ≡ k = eqb-true c.x.ticket k c.passes in
          let dormant : is_dormant_phase x.x.phase ≡ not (was_free c.x r.both.trace)
          = sym (at_task r.both.box k sound.homes.ascending x is_dormant_phase) ∙ ap (λ n. is_at n is_dormant_phase r.both.box.tasks) (sym same) ∙ freed.dormant c.x c.there in
          at_task r.both.box k sound.homes.ascending x is_started_phase
          ∙ by_phase x.x.phase x.alive (each_in (λ (y : Task). is_fresh_phase y.phase ≡ false) r.both.box.tasks x.x x.there stale) (was_free c.x r.both.trace) dormant
          ∙ sym (told_is c.x c.there) ∙ ap (contains r.told) same
