-- The limits of a session: on each connection at most four functions wait and eight immediate commands are live, and a number that
-- was received, with the numbered commands that are unfinished, is within the window. So it stays, item by item, through an event.
use Rattle.std.proofs.Common.{◌≡◌, ℕ, ◌+◌, ◌-◌, ◌≤◌, ◌<◌, ◌==◌, ◌||◌, ⊎_elim, inl, inr, ◌⊎◌, not, Bool, true, false, List, [], ◌∷◌, ◌++◌, filter_map, count_by, None, refl, ap, sym, ◌∙◌, subst, arith}
use Rattle.std.proofs.lemmas.Bool.{false≢true, eqb-true, cases_lt}
use Rattle.std.proofs.lemmas.List.{append-nil}
use Rattle.iscsi_wire.specs.Fields.{is_immediate}
use Rattle.iscsi_rules.specs.rules.Settings.{Setting}
use Rattle.iscsi_rules.specs.rules.Trace.{Arrival, Command, Mark, Trace, number_received, received, is_received, contains, admits_at, held, waiting}
use Rattle.iscsi_rules.specs.rules.Execution.{exp_of, max_of, unfinished, live_immediate}
use Rattle.iscsi_rules.specs.rules.Management.{waiting_on}
use Rattle.iscsi_rules.specs.promises.Flow.{HasOneMore}
use Rattle.iscsi_rules.proofs.general.CountLemmas.{one}
use Rattle.iscsi_rules.proofs.general.Missing.{expected_below, expected_low}
use Rattle.iscsi_rules.proofs.traces.FlowItems.{same_exp, exp_stays}
use Rattle.iscsi_rules.proofs.items.Forms.{Start, AtTurn, AtArrival, AfterWaiting, start_mark, marks_done, begun, Starts}
use Rattle.iscsi_rules.proofs.items.FormItems.{Does}
use Rattle.iscsi_outbox_rules.proofs.general.EachLemmas.{EachOf}
use Rattle.iscsi_outbox_rules.proofs.room.RoomFair.{Fair}
use Rattle.iscsi_outbox_rules.proofs.room.RoomSteps.{live-begun, fewer_wait, unfinished_more, few_immediate}
use Rattle.iscsi_outbox_rules.proofs.room.RoomMarks.{MarkKept, KeptIn, kept_fair, received_fair, admits_fair}

-- ---- an item by which a request executes

pub record Executing (o : Setting) (t : Trace) (a : Arrival) (item : List Mark) : Type 0 where
  pub waits : (p : Arrival → Bool) → count_by p (waiting (item ∷ t)) ≤ count_by p (waiting t)
  pub unfinished_by : unfinished (item ∷ t) ≤ unfinished t + one (not (is_immediate a.request))
  pub immediate : (conn : ℕ) → live_immediate conn t ≤ 8 → live_immediate conn (item ∷ t) ≤ 8
  pub kept : EachOf MarkKept item
  pub within : EachOf (λ n. n ≤ max_of o t) (filter_map number_received item)
  pub admits_none : (k : ℕ) → filter_map (admits_at k) item ≡ []

same_max : (o : Setting) (start : Start) (a : Arrival) (t : Trace) → max_of o (begun start a t) ≡ max_of o t
same_max o start a t =
    let e : exp_of o (begun start a t) ≡ exp_of o t = same_exp o (begun start a t) t (by_start start) in
    let u : unfinished (begun start a t) ≡ unfinished t = ap (λ cs. count_by (λ (c : Command). not (is_immediate c.arrival.request)) cs) (live-begun start a t) in
    ap (λ x. x + o.window - 1 - unfinished (begun start a t)) e ∙ ap (λ y. exp_of o t + o.window - 1 - y) u
  where
    by_start : (s : Start) → received (begun s a t) ≡ received t
    by_start AtTurn = append-nil (received t)
    by_start AtArrival = append-nil (received t)
    by_start AfterWaiting = append-nil (received t)

pub executing : (o : Setting) (now : ℕ) (t : Trace) (start : Start) (a : Arrival) (ms : List Mark) → Starts now t start a → Does o t start a ms → Fair o (begun start a t) a ms → Executing o t a (start_mark start a ∷ ms)
executing o now t start a ms s d f =
    subst (λ xs. Executing o t a (start_mark start a ∷ xs)) (sym d.is) (done (subst (Fair o (begun start a t) a) d.is f))
  where
    done : Fair o (begun start a t) a (marks_done a d.deeds) → Executing o t a (start_mark start a ∷ marks_done a d.deeds)
    done g = record {
      waits = fewer_wait o now t start a d.deeds (s, d.done) g;
      unfinished_by = unfinished_more o now t start a d.deeds (s, d.done) g;
      immediate = few_immediate o now t start a d.deeds (s, d.done) g;
      kept = (mark_kept start, kept_fair o (begun start a t) a (marks_done a d.deeds) g);
      within = none_by start (subst (λ m. EachOf (λ n. n ≤ m) (filter_map number_received (marks_done a d.deeds))) (same_max o start a t) (received_fair o (begun start a t) a (marks_done a d.deeds) g));
      admits_none = λ k. none_at start k (admits_fair o (begun start a t) a k (marks_done a d.deeds) g);
    }
      where
        mark_kept : (x : Start) → MarkKept (start_mark x a)
        mark_kept AtTurn = tt
        mark_kept AtArrival = tt
        mark_kept AfterWaiting = tt

        none_at : (x : Start) (k : ℕ) → filter_map (admits_at k) (marks_done a d.deeds) ≡ [] → filter_map (admits_at k) (start_mark x a ∷ marks_done a d.deeds) ≡ []
        none_at AtTurn k h = h
        none_at AtArrival k h = h
        none_at AfterWaiting k h = h

        none_by : (x : Start) → EachOf (λ n. n ≤ max_of o t) (filter_map number_received (marks_done a d.deeds)) → EachOf (λ n. n ≤ max_of o t) (filter_map number_received (start_mark x a ∷ marks_done a d.deeds))
        none_by AtTurn h = h
        none_by AtArrival h = h
        none_by AfterWaiting h = h

-- ---- the limits

-- after t, while the turns of the numbers before n are over
pub record Limits (o : Setting) (n : ℕ) (t : Trace) : Type 0 where
  pub kept : KeptIn t
  pub four : (conn : ℕ) → waiting_on conn t ≤ 4
  pub eight : (conn : ℕ) → live_immediate conn t ≤ 8
  pub near : (k : ℕ) → is_received t k ≡ true → k + unfinished t < n + o.window
  pub few : unfinished t + (exp_of o t - n) ≤ o.window
  pub low : n ≤ exp_of o t
  pub turned : (k : ℕ) → k < n → held t k ≡ None

pub none_received : (o : Setting) (item : List Mark) (t : Trace) → filter_map number_received item ≡ [] → received (item ∷ t) ≡ received t
none_received o item t none = ap (λ ns. received t ++ ns) none ∙ append-nil (received t)

-- a request that executes and receives no number, where the turn goes on by as many as are unfinished then
pub limits_same : (o : Setting) (n m : ℕ) (t : Trace) (item : List Mark) → filter_map number_received item ≡ [] → ((k : ℕ) → k < m → held (item ∷ t) k ≡ None) → EachOf MarkKept item
    → ((conn : ℕ) → waiting_on conn (item ∷ t) ≤ 4) → ((conn : ℕ) → live_immediate conn (item ∷ t) ≤ 8)
    → unfinished (item ∷ t) + n ≤ unfinished t + m → n ≤ m → m ≤ exp_of o t → Limits o n t → Limits o m (item ∷ t)
limits_same o n m t item none turned kept four eight more on low h =
    let same : received (item ∷ t) ≡ received t = none_received o item t none in
    let exp : exp_of o (item ∷ t) ≡ exp_of o t = same_exp o (item ∷ t) t same in
    record {
      kept = (kept, h.kept);
      four = four;
      eight = eight;
      near = λ k is. omega (arith, h.near k (ap (λ ns. contains ns k) (sym same) ∙ is), more);
      few = omega (arith, exp, h.few, more, on, low);
      low = omega (arith, exp, low);
      turned = turned;
    }

-- the first item of an event, which may receive a number within the window
pub limits_more : (o : Setting) (t : Trace) (item : List Mark) → HasOneMore (received t) (received (item ∷ t)) → EachOf (λ n. n ≤ max_of o t) (filter_map number_received item) → ((k : ℕ) → k < exp_of o t → held (item ∷ t) k ≡ None) → EachOf MarkKept item
    → ((conn : ℕ) → waiting_on conn (item ∷ t) ≤ 4) → ((conn : ℕ) → live_immediate conn (item ∷ t) ≤ 8)
    → unfinished (item ∷ t) ≤ unfinished t → Limits o (exp_of o t) t → Limits o (exp_of o t) (item ∷ t)
limits_more o t item one_more within turned kept four eight more h = record {
  kept = (kept, h.kept);
  four = four;
  eight = eight;
  near = near;
  few = ⊎_elim
      (λ past. omega (arith, near (exp_of o (item ∷ t) - 1) (expected_below o.first (item ∷ t) (exp_of o (item ∷ t) - 1) (omega (arith, past, expected_low o.first t)) (omega (arith, past)))))
      (λ stays. omega (arith, h.few, more, stays))
      (cases_lt (exp_of o t) (exp_of o (item ∷ t)));
  low = exp_stays o t (item ∷ t) one_more;
  turned = turned;
}
  where
    fresh : (ns : List ℕ) (k : ℕ) → EachOf (λ n. n ≤ max_of o t) ns → contains ns k ≡ true → k ≤ max_of o t
    fresh [] k all is = absurd (false≢true is)
    fresh (n ∷ ns) k all is = elim (n == k) as (λ b. (n == k) ≡ b → (b || contains ns k) ≡ true → k ≤ max_of o t) [
      | true ↦ λ same there. omega (arith, all.0, eqb-true n k same)
      | false ↦ λ apart there. fresh ns k all.1 there
    ] refl is

    either : (ns ms : List ℕ) (k : ℕ) → contains (ns ++ ms) k ≡ true → (contains ns k ≡ true) ⊎ (contains ms k ≡ true)
    either [] ms k is = inr is
    either (n ∷ ns) ms k is = elim (n == k) as (λ b. (b || contains (ns ++ ms) k) ≡ true → ((b || contains ns k) ≡ true) ⊎ (contains ms k ≡ true)) [
      | true ↦ λ there. inl refl
      | false ↦ λ there. either ns ms k there
    ] is

    near : (k : ℕ) → is_received (item ∷ t) k ≡ true → k + unfinished (item ∷ t) < exp_of o t + o.window
    near k is =
        ⊎_elim
        (λ before. omega (arith, h.near k before, more))
        (λ now. omega (arith, fresh (filter_map number_received item) k within now, h.few, more, expected_low o.first t))
        (either (received t) (filter_map number_received item) k is)
