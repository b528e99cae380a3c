-- Items one after the other: their effects, the agenda in two halves, and ExpCmdSN, which doesn't go back.
use Rattle.std.proofs.Common.{◌++◌, List, [], ap, append_assoc, refl, sym, ◌∙◌, ◌∷◌, ◌≡◌, length, ◌+◌, suc, zero, ℕ, ◌-◌, ◌<◌, arith, inl, inr, true, ◌≤◌, ⊎_elim, ◌⊎◌}
use Rattle.std.specs.List.{list_all}
use Rattle.std.proofs.lemmas.List.{append-nil}
use Rattle.std.proofs.lemmas.List.Folds.{list_any-append}
use Rattle.std.proofs.lemmas.Bool.{cases_lt, false≢true}
use Rattle.iscsi_wire.specs.Serial.{number_of_first}
use Rattle.iscsi_rules.specs.rules.Trace.{Mark, Trace, after_items, least_missing, received, contains}
use Rattle.iscsi_rules.specs.rules.Settings.{Setting}
use Rattle.iscsi_rules.specs.rules.Run.{effects_of, effects_of_item, trace_of}
use Rattle.iscsi_rules.specs.rules.Execution.{exp_of}
use Rattle.iscsi_rules.specs.rules.Items.{agenda, turn_at, functions_at}
use Rattle.iscsi_rules.specs.promises.Flow.{HasOneMore, FlowsThrough, Flows}
use Rattle.iscsi_rules.specs.declared.event.Event.{Event}
use Rattle.iscsi_rules.specs.rules.Agenda.{belongs}
use Rattle.iscsi_rules.proofs.traces.TraceLemmas.{after_items-append}
use Rattle.iscsi_rules.proofs.general.BoolLemmas.{and_both}
use Rattle.iscsi_rules.proofs.general.Missing.{expected_below, expected_gone, expected_low}

-- ---- lists of items

pub effects_of-append : (o : Setting) (now later : List (List Mark)) (t : Trace) → effects_of o t (now ++ later) ≡ effects_of o t now ++ effects_of o (after_items now t) later
effects_of-append o [] later t = refl
effects_of-append o (item ∷ now) later t = ap (λ es. effects_of_item o t item ++ es) (effects_of-append o now later (item ∷ t)) ∙ sym (append_assoc (effects_of_item o t item) (effects_of o (item ∷ t) now) (effects_of o (after_items now (item ∷ t)) later))

pub same_exp : (o : Setting) (t t' : Trace) → received t ≡ received t' → exp_of o t ≡ exp_of o t'
same_exp o t t' h = ap (λ ns. least_missing ns (length ns) (number_of_first o.first)) h

-- ---- the agenda in two halves: the functions of a number, and the rest

-- from the turn of a number on
abbrev pub turns : Setting → ℕ → ℕ → Trace → List (List Mark)
turns o n zero t = []
turns o n (suc more) t = let now = turn_at o n t in now ++ agenda o (n + 1) more (after_items now t)

pub agenda-halves : (o : Setting) (n m : ℕ) (t : Trace) → agenda o n m t ≡ functions_at o n t ++ turns o n m (after_items (functions_at o n t) t)
agenda-halves o n m t = grind (arith, append-nil, append_assoc, after_items-append)

pub turns-more : (o : Setting) (e f : ℕ) (t : Trace) → e < f → turns o e (f - e) t ≡ turn_at o e t ++ agenda o (e + 1) (f - (e + 1)) (after_items (turn_at o e t) t)
turns-more o e f t past = ap (λ n. turns o e n t) (let z : f - e ≡ suc (f - (e + 1)) = omega arith in z)

-- ---- ExpCmdSN doesn't go back

still_received : (ns ns' : List ℕ) (n : ℕ) → HasOneMore ns ns' → contains ns n ≡ true → contains ns' n ≡ true
still_received ns ns' n more there = grind (arith, list_any-append)

pub exp_stays : (o : Setting) (t t' : Trace) → HasOneMore (received t) (received t') → exp_of o t ≤ exp_of o t'
exp_stays o t t' more =
    let e' : ℕ = exp_of o t' in
    ⊎_elim (λ less. absurd (false≢true (sym (expected_gone o.first t') ∙ still_received (received t) (received t') e' more (expected_below o.first t e' (expected_low o.first t') less))))
    (λ stays. stays)
    (cases_lt e' (exp_of o t))

-- ---- one event after the other

pub FlowsThrough-none : (o : Setting) → FlowsThrough o []
FlowsThrough-none o = λ before after event is. absurd (none_split before after event is)
  where
    none_split : (before after : List Event) (event : Event) → [] ≡ before ++ event ∷ after → ⊥
    none_split [] after event is = cc
    none_split (e ∷ before) after event is = cc

-- a list of events ends either at its last one, or the rest of it has the last one too
split_last : (h : List Event) (e : Event) (before after : List Event) (event : Event) → h ++ e ∷ [] ≡ before ++ event ∷ after
    → ((before ≡ h) × (event ≡ e)) ⊎ ((rest : List Event) × (h ≡ before ++ event ∷ rest))
split_last [] e [] after event is = inl (refl, cc)
split_last [] e (b ∷ before) after event is = absurd (two before (let z : [] ≡ before ++ event ∷ after = cc in z))
  where
    two : (before : List Event) → [] ≡ before ++ event ∷ after → ⊥
    two [] z = cc
    two (x ∷ before) z = cc
split_last (x ∷ h) e [] after event is = inr (h, cc)
split_last (x ∷ h) e (b ∷ before) after event is = grind (arith, split_last h e before after event)

pub FlowsThrough-push : (o : Setting) (h : List Event) (e : Event) → FlowsThrough o h → Flows o (trace_of o h) (trace_of o (h ++ e ∷ [])) → FlowsThrough o (h ++ e ∷ [])
FlowsThrough-push o h e all now = grind (arith, split_last)

-- so do the events with it
pub belong_more : (o : Setting) (h : List Event) (e : Event) → list_all (belongs o) h ≡ true → belongs o e ≡ true → list_all (belongs o) (h ++ e ∷ []) ≡ true
belong_more o [] e before here = and_both (belongs o e) true here refl
belong_more o (d ∷ h) e before here = grind (arith, belong_more o h e)
