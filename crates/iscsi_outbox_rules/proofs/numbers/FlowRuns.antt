-- How far MaxCmdSN goes while calls are made.
use Rattle.std.proofs.Common.{◌≡◌, ℕ, ⊎_elim, ◌+◌, ◌-◌, ◌*◌, ◌≤◌, ◌<◌, ◌^◌, ◌==◌, ◌||◌, suc, true, false, List, [], ◌∷◌, ◌++◌, length, refl, ap, sym, subst, ◌∙◌, arith}
use Rattle.std.specs.List.{flat_map, list_any}
use Rattle.std.proofs.lemmas.Bool.{false≢true, eqb-true, cases_lt}
use Rattle.std.proofs.lemmas.List.{append_assoc}
use Rattle.std.proofs.lemmas.List.Folds.{list_any-append}
use Rattle.iscsi_wire.specs.Serial.{lift, wire, number_of_first}
use Rattle.iscsi_rules.specs.declared.event.Event.{Event}
use Rattle.iscsi_rules.specs.declared.entry.Entry.{Entry}
use Rattle.iscsi_rules.specs.declared.effect.Effect.{Effect}
use Rattle.iscsi_rules.specs.declared.effect.Numbers.{Numbers}
use Rattle.iscsi_rules.specs.rules.Settings.{Setting}
use Rattle.iscsi_rules.specs.rules.Trace.{Trace, received, is_received}
use Rattle.iscsi_rules.specs.rules.Execution.{exp_of, max_of}
use Rattle.iscsi_rules.specs.rules.Run.{after_event, trace_of, entry_of, entries_from}
use Rattle.iscsi_rules.specs.promises.Flow.{HasOneMore, Flows, FlowsThrough}
use Rattle.iscsi_rules.specs.promises.Meaning.{IsLeastMissing}
use Rattle.iscsi_rules.proofs.general.BoolLemmas.{or_false}
use Rattle.iscsi_rules.proofs.traces.RunLemmas.{trace_of-push}
use Rattle.iscsi_rules.proofs.promises.MeaningTheorem.{means_what_it_says}
use Rattle.iscsi_outbox_rules.specs.rules.Calls.{Opening, Call, Takes, Puts, Stops, Nexts, Writes, Hears, Joins, Loses, Clears}
use Rattle.iscsi_outbox_rules.specs.rules.Boxes.{Box}
use Rattle.iscsi_outbox_rules.specs.rules.Run.{opened, after_call, after_calls}
use Rattle.iscsi_outbox_rules.specs.promises.Deeds.{entry_taken}
use Rattle.iscsi_outbox_rules.proofs.general.FirstLemmas.{length-push}
use Rattle.iscsi_outbox_rules.proofs.numbers.ShownLemmas.{Rise, rises}

-- ---- one event

-- what stands of a session's numbers after its events
pub record Flowed (o : Setting) (t : Trace) : Type 0 where
  pub from_first : number_of_first o.first ≤ exp_of o t
  pub near : exp_of o t ≤ max_of o t + 1
  pub none_above : (n : ℕ) → max_of o t < n → is_received t n ≡ false

-- of two numbers above MaxCmdSN one isn't received by the next event
one_new : (o : Setting) (t t' : Trace) (n : ℕ) → Flowed o t → HasOneMore (received t) (received t') → max_of o t < n → is_received t' n ≡ true → is_received t' (n + 1) ≡ true → ⊥
one_new o t t' n f more above here there =
    ⊎_elim
    (λ same. false≢true (sym (f.none_above n above) ∙ ap (λ ns. list_any (λ k. k == n) ns) (sym same) ∙ here))
    (λ (one : (k : ℕ) × (received t' ≡ received t ++ k ∷ [])).
    let first : n ≡ one.0 = new one.0 n one.1 above here in
    let second : n + 1 ≡ one.0 = new one.0 (n + 1) one.1 (omega (arith, above)) there in
    omega (arith, first, second))
    more
  where
    new : (k m : ℕ) → received t' ≡ received t ++ k ∷ [] → max_of o t < m → is_received t' m ≡ true → m ≡ k
    new k m is high yes' =
        let only : (k == m) ≡ true =
        sym (ap (λ v. v || ((k == m) || false)) (f.none_above m high) ∙ or_false (k == m)) ∙ sym (list_any-append (λ j. j == m) (received t) (k ∷ [])) ∙ ap (λ ns. list_any (λ j. j == m) ns) (sym is) ∙ yes' in
        sym (eqb-true k m only)

-- so ExpCmdSN goes to the number behind MaxCmdSN and one more at most
pub exp_near : (o : Setting) (h : List Event) (t : Trace) → Flowed o t → HasOneMore (received t) (received (trace_of o h)) → exp_of o (trace_of o h) ≤ max_of o t + 2
exp_near o h t f more =
    ⊎_elim
    (λ far.
    let least : IsLeastMissing o (trace_of o h) = (means_what_it_says o h).expected in
    let n : ℕ = max_of o t + 1 in
    absurd (one_new o t (trace_of o h) n f more (omega arith) (least.least n (omega (arith, f.from_first, f.near)) (omega (arith, far))) (least.least (n + 1) (omega (arith, f.from_first, f.near)) (omega (arith, far)))))
    (λ near. near)
    (cases_lt (max_of o t + 2) (exp_of o (trace_of o h)))

flowed_next : (o : Setting) (h : List Event) (t : Trace) → Flows o t (trace_of o h) → Flowed o (trace_of o h)
flowed_next o h t f = record { from_first = (means_what_it_says o h).expected.from_first; near = f.max_near; none_above = f.none_above }

-- MaxCmdSN goes up by little more than the window
max_step : (o : Setting) (h : List Event) (t : Trace) → Flowed o t → Flows o t (trace_of o h) → max_of o (trace_of o h) ≤ max_of o t + (o.window + 1)
max_step o h t f g = omega (arith, exp_near o h t f g.one_number)

lift_near : (e n : ℕ) → 2 ^ 31 ≤ e → e ≤ n → n < e + 2 ^ 31 → lift e (wire n) ≡ n
lift_near e n big low high = omega arith

-- ---- calls

-- a box stands for these events of the session
pub record Along (o : Opening) (h : List Event) (b : Box) : Type 0 where
  pub max_is : b.max ≡ max_of o.session (trace_of o.session h)
  pub flowed : Flowed o.session (trace_of o.session h)

-- how far the numbers went in so many calls
pub record Risen (b b' : Box) (calls : ℕ) : Type 0 where
  pub up : b.max ≤ b'.max
  pub near : b'.max ≤ b.max + 1025 * calls
  pub low : b.shown ≤ b'.shown
  pub high : (m : ℕ) → b.shown ≤ m → b'.max ≤ m → b'.shown ≤ m

-- the events that are still to be taken
pub record Ahead (o : Opening) (h : List Event) (cs : List Call) : Type 0 where
  pub rest : List Event
  pub entries : flat_map entry_taken cs ≡ entries_from o.session (length h) (trace_of o.session h) rest
  pub flows : FlowsThrough o.session (h ++ rest)
  pub window : o.session.window ≤ 1024

pub record Reached (o : Opening) (b : Box) (cs more : List Call) : Type 0 where
  pub events : List Event
  pub along : Along o events (after_calls o b cs)
  pub ahead : Ahead o events more
  pub risen : Risen b (after_calls o b cs) (length cs)

pub record Stepped (o : Opening) (b : Box) (c : Call) (more : List Call) : Type 0 where
  pub events : List Event
  pub along : Along o events (after_call o b c)
  pub ahead : Ahead o events more
  pub up : b.max ≤ (after_call o b c).max
  pub near : (after_call o b c).max ≤ b.max + 1025

stays : (o : Opening) (h : List Event) (b : Box) (c : Call) (more : List Call) → (after_call o b c).max ≡ b.max → flat_map entry_taken (c ∷ more) ≡ flat_map entry_taken more → Along o h b → Ahead o h (c ∷ more) → Stepped o b c more
stays o h b c more same none along ahead = record {
  events = h;
  along = record { max_is = same ∙ along.max_is; flowed = along.flowed };
  ahead = record { rest = ahead.rest; entries = sym none ∙ ahead.entries; flows = ahead.flows; window = ahead.window };
  up = omega (arith, same);
  near = omega (arith, same);
}

takes : (o : Opening) (h : List Event) (b : Box) (effects : List Effect) (numbers : Numbers) (more : List Call) (rest : List Event)
    → record { numbers = numbers; effects = effects } ∷ flat_map entry_taken more ≡ entries_from o.session (length h) (trace_of o.session h) rest → FlowsThrough o.session (h ++ rest) → o.session.window ≤ 1024
    → Along o h b → Stepped o b (Takes effects numbers) more
takes o h b effects numbers more [] is flows window along = absurd cc
takes o h b effects numbers more (e ∷ rest) is flows window along =
    record {
      events = h';
      along = record { max_is = reached; flowed = flowed_next o.session h' t f };
      ahead = record { rest = rest; entries = entries; flows = subst (FlowsThrough o.session) (sym (append_assoc h (e ∷ []) rest)) flows; window = window };
      up = subst (λ n. b.max ≤ n) (sym reached) low;
      near = subst (λ n. n ≤ b.max + 1025) (sym reached) (omega (arith, high, window));
    }
  where
    h' : List Event
    h' = h ++ e ∷ []

    t : Trace
    t = trace_of o.session h

    f : Flows o.session t (trace_of o.session h')
    f = flows h rest e refl

    next : trace_of o.session h' ≡ after_event o.session (length h) t e
    next = trace_of-push o.session h e

    head : record { numbers = numbers; effects = effects } ≡ entry_of o.session (length h) t e
    head = first_same _ _ _ _ is
      where
        first_same : (x y : Entry) (xs ys : List Entry) → x ∷ xs ≡ y ∷ ys → x ≡ y
        first_same x y xs ys k = cc

    tail : flat_map entry_taken more ≡ entries_from o.session (length h + 1) (after_event o.session (length h) t e) rest
    tail = rest_same _ _ _ _ is
      where
        rest_same : (x y : Entry) (xs ys : List Entry) → x ∷ xs ≡ y ∷ ys → xs ≡ ys
        rest_same x y xs ys k = cc

    entries : flat_map entry_taken more ≡ entries_from o.session (length h') (trace_of o.session h') rest
    entries = tail ∙ ap (λ n. entries_from o.session n (after_event o.session (length h) t e) rest) (sym (length-push h e)) ∙ ap (λ u. entries_from o.session (length h') u rest) (sym next)

    shown : numbers.max ≡ wire (max_of o.session (trace_of o.session h'))
    shown = ap (λ (x : Entry). x.numbers.max) head ∙ ap (λ u. wire (max_of o.session u)) (sym next)

    low : b.max ≤ max_of o.session (trace_of o.session h')
    low = subst (λ n. n ≤ max_of o.session (trace_of o.session h')) (sym along.max_is) f.max_stays

    high : max_of o.session (trace_of o.session h') ≤ b.max + (o.session.window + 1)
    high = subst (λ n. max_of o.session (trace_of o.session h') ≤ n + (o.session.window + 1)) (sym along.max_is) (max_step o.session h' t along.flowed f)

    big : 2 ^ 31 ≤ b.max
    big =
        let first : number_of_first o.session.first ≤ exp_of o.session t = along.flowed.from_first in
        let near : exp_of o.session t ≤ max_of o.session t + 1 = along.flowed.near in
        subst (λ n. 2 ^ 31 ≤ n) (sym along.max_is) (far (exp_of o.session t) (max_of o.session t) o.session.first first near)
      where
        far : (e m k : ℕ) → number_of_first k ≤ e → e ≤ m + 1 → 2 ^ 31 ≤ m
        far e m k first near = omega (arith, first, near)

    reached : (after_call o b (Takes effects numbers)).max ≡ max_of o.session (trace_of o.session h')
    reached =
        (rises o b (Takes effects numbers)).max_is ∙ ap (lift b.max) shown
        ∙ within b.max (max_of o.session (trace_of o.session h')) o.session.window big low high window
      where
        within : (m n w : ℕ) → 2 ^ 31 ≤ m → m ≤ n → n ≤ m + (w + 1) → w ≤ 1024 → lift m (wire n) ≡ n
        within m n w large from to few = lift_near m n large from (omega (arith, to, few))

pub steps : (o : Opening) (h : List Event) (b : Box) (c : Call) (more : List Call) → Along o h b → Ahead o h (c ∷ more) → Stepped o b c more
steps o h b (Takes effects numbers) more along ahead = takes o h b effects numbers more ahead.rest ahead.entries ahead.flows ahead.window along
steps o h b (Puts p) more along ahead = stays o h b (Puts p) more (rises o b (Puts p)).max_is refl along ahead
steps o h b (Stops ticket) more along ahead = stays o h b (Stops ticket) more (rises o b (Stops ticket)).max_is refl along ahead
steps o h b (Nexts conn) more along ahead = stays o h b (Nexts conn) more (rises o b (Nexts conn)).max_is refl along ahead
steps o h b (Writes conn) more along ahead = stays o h b (Writes conn) more (rises o b (Writes conn)).max_is refl along ahead
steps o h b (Hears conn exp_stat_sn tag) more along ahead = stays o h b (Hears conn exp_stat_sn tag) more (rises o b (Hears conn exp_stat_sn tag)).max_is refl along ahead
steps o h b (Joins conn stat_sn) more along ahead = stays o h b (Joins conn stat_sn) more (rises o b (Joins conn stat_sn)).max_is refl along ahead
steps o h b (Loses conn) more along ahead = stays o h b (Loses conn) more (rises o b (Loses conn)).max_is refl along ahead
steps o h b (Clears unit) more along ahead = stays o h b (Clears unit) more (rises o b (Clears unit)).max_is refl along ahead

risen_more : (b b₁ b' : Box) (k : ℕ) → b.max ≤ b₁.max → b₁.max ≤ b.max + 1025 → b.shown ≤ b₁.shown → ((m : ℕ) → b.shown ≤ m → b.max ≤ m → b₁.shown ≤ m) → Risen b₁ b' k → Risen b b' (suc k)
risen_more b b₁ b' k up near low high r = record {
  up = omega (arith, up, r.up);
  near = omega (arith, near, r.near);
  low = omega (arith, low, r.low);
  high = λ m here there. r.high m (high m here (omega (arith, up, r.up, there))) there;
}

pub run : (o : Opening) (h : List Event) (b : Box) (cs more : List Call) → Along o h b → Ahead o h (cs ++ more) → Reached o b cs more
run o h b [] more along ahead = record { events = h; along = along; ahead = ahead; risen = record { up = omega arith; near = omega arith; low = omega arith; high = λ m here there. here } }
run o h b (c ∷ cs) more along ahead =
    let s : Stepped o b c (cs ++ more) = steps o h b c (cs ++ more) along ahead in
    let r : Reached o (after_call o b c) cs more = run o s.events (after_call o b c) cs more s.along s.ahead in
    let rise : Rise b (after_call o b c) c = rises o b c in
    record { events = r.events; along = r.along; ahead = r.ahead; risen = risen_more b (after_call o b c) (after_calls o (after_call o b c) cs) (length cs) s.up s.near rise.low rise.high r.risen }

less_none : (n : ℕ) → n ≡ n - 0
less_none n = omega arith

pub starts_along : (o : Opening) → Along o [] (opened o)
starts_along o = record { max_is = less_none (number_of_first o.session.first + o.session.window - 1); flowed = record { from_first = omega arith; near = omega arith; none_above = λ n above. refl } }
