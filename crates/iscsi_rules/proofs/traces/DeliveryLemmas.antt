-- Delivery: in each run, the requests delivered are those admitted below ExpCmdSN, in the order of their numbers.
use Rattle.std.proofs.Common.{◌≡◌, ℕ, zero, suc, ◌+◌, ◌-◌, ◌<◌, ◌≤◌, false, List, [], ◌∷◌, ◌++◌, map, refl, ap, sym, ◌∙◌, arith, append_assoc}
use Rattle.std.specs.List.{list_any, filter_map, flat_map, range_with_len}
use Rattle.std.proofs.lemmas.List.{append-nil}
use Rattle.std.proofs.lemmas.List.Elements.{filter_map-append}
use Rattle.std.proofs.lemmas.Grind.{flat_map-append}
use Rattle.std.proofs.lemmas.Bool.Decides.{nat_tests}
use Rattle.iscsi_wire.specs.declared.request.Request.{Request}
use Rattle.iscsi_wire.specs.Serial.{number_of_first}
use Rattle.iscsi_rules.specs.declared.effect.Effect.TheVariants.{Enable}
use Rattle.iscsi_rules.specs.declared.effect.Why.{Why}
use Rattle.iscsi_rules.specs.declared.event.Event.{Event}
use Rattle.iscsi_rules.specs.rules.Settings.{Setting}
use Rattle.iscsi_rules.specs.rules.Trace.{Command, Mark, Delivers, Ignores, Trace, after_items, shown, number_received, received, delivers_number, empties_number, held, admits_at}
use Rattle.iscsi_rules.specs.rules.Agenda.{items_of}
use Rattle.iscsi_rules.specs.rules.Run.{after_event, after_events, effects_of_mark, newly_enabled, effects_of_item, effects_of, entries_from}
use Rattle.iscsi_rules.specs.promises.Executed.{request_at, executed_below, delivers, delivered_by, delivered}

-- ---- what the log delivers is what the trace has delivered

marks_deliver : (o : Setting) (t : Trace) (item : List Mark) → flat_map delivered_by (flat_map (effects_of_mark o t) item) ≡ filter_map delivers item
marks_deliver o t [] = refl
marks_deliver o t (Delivers a ∷ ms) = ap (λ rs. a.request ∷ rs) (marks_deliver o t ms)
marks_deliver o t (m ∷ ms) = marks_deliver o t ms

enables_deliver : (cs : List Command) → flat_map delivered_by (map (λ (c : Command). Enable c.ticket c.unit) cs) ≡ []
enables_deliver [] = refl
enables_deliver (c ∷ cs) = enables_deliver cs

item_delivers : (o : Setting) (t : Trace) (item : List Mark) → flat_map delivered_by (effects_of_item o t item) ≡ filter_map delivers item
item_delivers o t item = grind (arith, nat_tests, flat_map-append, enables_deliver (newly_enabled o t item), append-nil, marks_deliver o t item)

items_deliver : (o : Setting) (t : Trace) (items : List (List Mark)) → shown delivers (after_items items t) ≡ shown delivers t ++ flat_map delivered_by (effects_of o t items)
items_deliver o t [] = sym (append-nil (shown delivers t))
items_deliver o t (item ∷ items) = grind (arith, items_deliver o (item ∷ t) items, append_assoc, item_delivers, flat_map-append)

pub log_delivers : (o : Setting) (event : ℕ) (t : Trace) (h : List Event) → shown delivers (after_events o event t h) ≡ shown delivers t ++ delivered (entries_from o event t h)
log_delivers o event t [] = sym (append-nil (shown delivers t))
log_delivers o event t (e ∷ h) =
    let now : List Request = flat_map delivered_by (effects_of o t (items_of o event t e)) in
    log_delivers o (event + 1) (after_event o event t e) h
    ∙ ap (λ rs. rs ++ delivered (entries_from o (event + 1) (after_event o event t e) h)) (items_deliver o t (items_of o event t e))
    ∙ append_assoc (shown delivers t) now (delivered (entries_from o (event + 1) (after_event o event t e) h))

-- ---- the requests admitted below a number

pub range_more : (a n : ℕ) → range_with_len a (suc n) ≡ range_with_len a n ++ (a + n) ∷ []
range_more a zero = ap (λ k. k ∷ []) (let z : a ≡ a + 0 = omega arith in z)
range_more a (suc n) = ap (λ ks. a ∷ ks) (range_more (a + 1) n ∙ ap (λ k. range_with_len (a + 1) n ++ k ∷ []) (let z : (a + 1) + n ≡ a + suc n = omega arith in z))

pub executed_below-more : (o : Setting) (t : Trace) (n : ℕ) → number_of_first o.first ≤ n → executed_below o t (n + 1) ≡ executed_below o t n ++ filter_map (request_at t) (n ∷ [])
executed_below-more o t n low =
    let first : ℕ = number_of_first o.first in
    ap (filter_map (request_at t)) (ap (range_with_len first) (let c : (n + 1) - first ≡ suc (n - first) = omega arith in c) ∙ range_more first (n - first) ∙ ap (λ k. range_with_len first (n - first) ++ k ∷ []) (let z : first + (n - first) ≡ n = omega arith in z))
    ∙ filter_map-append (request_at t) (range_with_len first (n - first)) (n ∷ [])

-- traces that admit the same at the numbers of a range
pub same_range : (t t' : Trace) (a count : ℕ) → ((k : ℕ) → a ≤ k → k < a + count → request_at t k ≡ request_at t' k) → filter_map (request_at t) (range_with_len a count) ≡ filter_map (request_at t') (range_with_len a count)
same_range t t' a zero h = refl
same_range t t' a (suc count) h = grind (arith, h a (omega arith) (omega arith), same_range t t' (a + 1) count (λ k l u. h k (omega arith) (omega arith)))

-- an item that receives, admits and delivers nothing
pub record IsQuiet (item : List Mark) : Type 0 where
  pub receives : filter_map number_received item ≡ []
  pub admits : (n : ℕ) → filter_map (admits_at n) item ≡ []
  pub delivers_none : filter_map delivers item ≡ []
  pub delivers_no : (n : ℕ) → list_any (delivers_number n) item ≡ false
  pub empties_no : (n : ℕ) → list_any (empties_number n) item ≡ false

pub quiet-ignored : (why : Why) → IsQuiet (Ignores why ∷ [])
quiet-ignored why = record { receives = refl; admits = λ n. refl; delivers_none = refl; delivers_no = λ n. refl; empties_no = λ n. refl }

pub received-quiet : (item : List Mark) (t : Trace) → IsQuiet item → received (item ∷ t) ≡ received t
received-quiet item t q = ap (λ ns. received t ++ ns) q.receives ∙ append-nil (received t)

pub admitted-quiet : (item : List Mark) (t : Trace) (n : ℕ) → IsQuiet item → shown (admits_at n) (item ∷ t) ≡ shown (admits_at n) t
admitted-quiet item t n q = ap (λ xs. shown (admits_at n) t ++ xs) (q.admits n) ∙ append-nil (shown (admits_at n) t)

pub held-quiet : (item : List Mark) (t : Trace) (n : ℕ) → IsQuiet item → held (item ∷ t) n ≡ held t n
held-quiet item t n q = grind (arith, q.delivers_no n, q.empties_no n, admitted-quiet item t n q)

pub request_at-quiet : (item : List Mark) (t : Trace) (n : ℕ) → IsQuiet item → request_at (item ∷ t) n ≡ request_at t n
request_at-quiet item t n q = grind (arith, q.empties_no n, admitted-quiet item t n q)

pub executed_below-quiet : (o : Setting) (item : List Mark) (t : Trace) (n : ℕ) → IsQuiet item → executed_below o (item ∷ t) n ≡ executed_below o t n
executed_below-quiet o item t n q =
    same_range (item ∷ t) t (number_of_first o.first) (n - number_of_first o.first) (λ k l h. request_at-quiet item t k q)

pub delivered-quiet : (item : List Mark) (t : Trace) → IsQuiet item → shown delivers (item ∷ t) ≡ shown delivers t
delivered-quiet item t q = ap (λ rs. shown delivers t ++ rs) q.delivers_none ∙ append-nil (shown delivers t)
