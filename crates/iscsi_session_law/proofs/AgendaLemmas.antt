-- What becomes due: the agenda receives nothing, delivers the numbers that ExpCmdSN went past, and no more commands enter in it than those.
use Rattle.std.proofs.Common.{arith, ◌≡◌, ℕ, zero, suc, ◌+◌, ◌<◌, ◌≤◌, ◌==◌, ◌||◌, not, cond, Bool, true, false, List, [], ◌∷◌, ◌++◌, filter, Some, None, refl, ap, sym, subst, ◌∙◌}
use Rattle.std.specs.List.{list_all, list_any, filter_map}
use Rattle.std.proofs.lemmas.List.{append-nil}
use Rattle.iscsi_wire.specs.Serial.{number_of_first}
use Rattle.iscsi_wire.specs.Fields.{is_immediate}
use Rattle.iscsi_rules.specs.rules.Settings.{Setting}
use Rattle.iscsi_rules.specs.rules.Trace.{Arrival, Mark, Executes, Trace, after_items, has, received, delivers_number, waiting, held}
use Rattle.iscsi_rules.specs.rules.Execution.{exp_of, unfinished}
use Rattle.iscsi_rules.specs.rules.Management.{may_wait}
use Rattle.iscsi_rules.specs.rules.Items.{function_item, item_of, is_waiting, functions, functions_at, turn_at, agenda}
use Rattle.iscsi_rules.specs.promises.Executed.{delivers}
use Rattle.iscsi_rules.proofs.general.BoolLemmas.{and_parts}
use Rattle.iscsi_rules.proofs.general.CountLemmas.{one}
use Rattle.iscsi_rules.proofs.general.ListLemmas.{list_all-filter}
use Rattle.iscsi_rules.proofs.traces.FlowItems.{same_exp}
use Rattle.iscsi_rules.proofs.traces.TraceLemmas.{after_items-append}
use Rattle.iscsi_rules.proofs.traces.HeldLemmas.{held-number, admitted_of_held}
use Rattle.iscsi_rules.proofs.traces.FateLemmas.{Touch, touch_form}
use Rattle.iscsi_rules.proofs.items.Forms.{Start, AtTurn, AfterWaiting, start_mark, Deeds, marks_done, Executed, Starts}
use Rattle.iscsi_rules.proofs.items.FormItems.{Does, does_function, does_after}
use Rattle.iscsi_rules.proofs.items.DeedLemmas.{views, tests}
use Rattle.iscsi_rules.proofs.items.ReceivedItems.{function_receives_none, turn_receives_none, may_immediate}
use Rattle.iscsi_session_law.proofs.FitLemmas.{misfits, admitted_numbered, waiting_may, executed_fits}
use Rattle.iscsi_session_law.proofs.CountLemmas.{unfinished_executed}
use Rattle.iscsi_session_law.proofs.DeliveryLemmas.{DeliversBelow, delivers_quiet, delivers_turn, delivers_past}

-- ---- the item of a request that executes

done_delivers : (a : Arrival) (d : Deeds) → filter_map delivers (marks_done a d) ≡ []
done_delivers a d = simp views

done_delivers_no : (k : ℕ) (a : Arrival) (d : Deeds) → list_any (delivers_number k) (marks_done a d) ≡ false
done_delivers_no k a d = simp tests

module _ (o : Setting) (t : Trace) (start : Start) (a : Arrival) (ms : List Mark) (does : Does o t start a ms) where
  abbrev item : List Mark
  item = start_mark start a ∷ ms

  same : item ≡ start_mark start a ∷ marks_done a does.deeds
  same = ap (λ xs. start_mark start a ∷ xs) does.is

  pub fits_executed : list_any misfits item ≡ false
  fits_executed = ap (list_any misfits) same ∙ executed_fits start a does.deeds

  pub touches_executed : (now : ℕ) → Starts now t start a → (k : ℕ) → Touch t k item
  touches_executed now starts k = subst (Touch t k) (sym same) (touch_form o now t k (Executed start a does.deeds) (starts, does.done))

-- one that executes as it arrives, or has waited, delivers nothing
pub executes_quiet : (o : Setting) (t : Trace) (start : Start) (a : Arrival) (ms : List Mark) → Does o t start a ms → filter_map delivers (Executes a ∷ ms) ≡ []
executes_quiet o t start a ms does = ap (filter_map delivers) does.is ∙ done_delivers a does.deeds

pub executes_no : (o : Setting) (t : Trace) (start : Start) (a : Arrival) (ms : List Mark) → Does o t start a ms → (k : ℕ) → list_any (delivers_number k) (Executes a ∷ ms) ≡ false
executes_no o t start a ms does k = ap (list_any (delivers_number k)) does.is ∙ done_delivers_no k a does.deeds

-- ---- from one trace to another, as the turns of the numbers from n to n' are over

pub record Steps (o : Setting) (n' few : ℕ) (t t' : Trace) : Type 0 where
  pub receives : received t' ≡ received t
  pub fits : has misfits t' ≡ false
  pub enters : unfinished t' ≤ unfinished t + few
  pub delivered : DeliversBelow o n' t'

steps_then : (o : Setting) (n n' few few' : ℕ) (t t' t'' : Trace) → Steps o n few t t' → Steps o n' few' t' t'' → Steps o n' (few + few') t t''
steps_then o n n' few few' t t' t'' s s' = record {
  receives = s'.receives ∙ s.receives;
  fits = s'.fits;
  enters = omega (arith, s.enters, s'.enters);
  delivered = s'.delivered;
}

module _ (o : Setting) where
  -- a function that has waited
  function_steps : (n : ℕ) (t : Trace) (a : Arrival) → may_wait a.request ≡ true → is_waiting a t ≡ true → n ≤ exp_of o t → has misfits t ≡ false → DeliversBelow o n t → Steps o n 0 t (function_item o t a ∷ t)
  function_steps n t a may waits below fits d =
      let does = does_function o t AfterWaiting a in
      record {
        receives = ap (λ ns. received t ++ ns) (function_receives_none o t a may) ∙ append-nil (received t);
        fits = ap (λ b. b || has misfits t) (fits_executed o t AfterWaiting a _ does) ∙ fits;
        enters = omega (arith, unfinished_executed o t AfterWaiting a _ does, ap (λ b. one (not b)) (may_immediate a.request may));
        delivered = delivers_quiet o n t (function_item o t a) (touches_executed o t AfterWaiting a _ does 0 waits) below d (executes_quiet o t AfterWaiting a _ does) (executes_no o t AfterWaiting a _ does);
      }

  functions_steps : (n : ℕ) (as' : List Arrival) (t : Trace) → list_all (λ a. may_wait a.request) as' ≡ true → n ≤ exp_of o t → has misfits t ≡ false → DeliversBelow o n t → Steps o n 0 t (after_items (functions o as' t) t)
  functions_steps n [] t may below fits d = record { receives = refl; fits = fits; enters = omega arith; delivered = d }
  functions_steps n (a ∷ as') t may below fits d =
      let parts = and_parts (may_wait a.request) (list_all (λ b. may_wait b.request) as') may in
      elim (is_waiting a t) as (λ b. is_waiting a t ≡ b → Steps o n 0 t (after_items (let now : List (List Mark) = cond b (function_item o t a ∷ []) [] in now ++ functions o as' (after_items now t)) t)) [
        | true ↦ λ waits.
            let s : Steps o n 0 t (function_item o t a ∷ t) = function_steps n t a parts.0 waits below fits d in
            let t' : Trace = function_item o t a ∷ t in
            steps_then o n n 0 0 t t' (after_items (functions o as' t') t') s
            (functions_steps n as' t' parts.1 (omega (arith, below, same_exp o t' t s.receives)) s.fits s.delivered)
        | false ↦ λ waits. functions_steps n as' t parts.1 below fits d
      ] refl

  functions_at_steps : (n m : ℕ) (t : Trace) → n ≤ exp_of o t → has misfits t ≡ false → DeliversBelow o n t → Steps o n 0 t (after_items (functions_at o m t) t)
  functions_at_steps n m t below fits d =
      functions_steps n (filter (λ a. a.number == m) (waiting t)) t (list_all-filter (λ a. a.number == m) (λ a. may_wait a.request) (waiting t) (waiting_may t fits)) below fits d

  -- the request that is held at a number
  turn_steps : (n : ℕ) (t : Trace) → number_of_first o.first ≤ n → n < exp_of o t → has misfits t ≡ false → DeliversBelow o n t → Steps o (n + 1) 1 t (after_items (turn_at o n t) t)
  turn_steps n t low inside fits d =
      elim (held t n) as (λ y. held t n ≡ y → Steps o (n + 1) 1 t (after_items (elim y [ Some a ↦ item_of o t a ∷ [] | None ↦ [] ]) t)) [
        | Some a ↦ λ is.
            let does = does_after o t AtTurn a in
            let number : a.number ≡ n = held-number t n a is in
            let numbered : is_immediate a.request ≡ false = admitted_numbered t n a fits (admitted_of_held t n a is) in
            record {
              receives = ap (λ ns. received t ++ ns) (turn_receives_none o t a numbered) ∙ append-nil (received t);
              fits = ap (λ b. b || has misfits t) (fits_executed o t AtTurn a _ does) ∙ fits;
              enters = omega (arith, unfinished_executed o t AtTurn a _ does, ap (λ b. one (not b)) numbered);
              delivered = delivers_turn o n t (item_of o t a) (touches_executed o t AtTurn a _ does 0 (ap (held t) number ∙ is)) (omega (arith, inside)) d a is inside low
                  (ap (λ xs. a.request ∷ filter_map delivers xs) does.is ∙ ap (λ rs. a.request ∷ rs) (done_delivers a does.deeds))
                  (λ k. ap (λ xs. (a.number == k) || list_any (delivers_number k) xs) does.is ∙ ap (λ b. (a.number == k) || b) (done_delivers_no k a does.deeds) ∙ or_right (a.number == k));
            }
        | None ↦ λ is. record { receives = refl; fits = fits; enters = omega arith; delivered = delivers_past o n t d is low }
      ] refl
    where
      or_right : (b : Bool) → (b || false) ≡ b
      or_right b = grind arith

  agenda_steps : (m n : ℕ) (t : Trace) → number_of_first o.first ≤ n → n + m ≤ exp_of o t → has misfits t ≡ false → DeliversBelow o n t → Steps o (n + m) m t (after_items (agenda o n m t) t)
  agenda_steps zero n t low below fits d =
      let s : Steps o n 0 t (after_items (functions_at o n t) t) = functions_at_steps n n t (omega (arith, below)) fits d in
      subst (λ k. Steps o k 0 t (after_items (functions_at o n t) t)) (let z : n ≡ n + 0 = omega arith in z) s
  agenda_steps (suc m) n t low below fits d =
      let first : List (List Mark) = functions_at o n t in
      let t' : Trace = after_items first t in
      let due : List (List Mark) = turn_at o n t' in
      let t'' : Trace = after_items due t' in
      let s : Steps o n 0 t t' = functions_at_steps n n t (omega (arith, below)) fits d in
      let exp' : exp_of o t' ≡ exp_of o t = same_exp o t' t s.receives in
      let turn : Steps o (n + 1) 1 t' t'' = turn_steps n t' low (omega (arith, below, exp')) s.fits s.delivered in
      let both : Steps o (n + 1) 1 t t'' = subst (λ k. Steps o (n + 1) k t t'') (let z : 0 + 1 ≡ 1 = omega arith in z) (steps_then o n (n + 1) 0 1 t t' t'' s turn) in
      let exp'' : exp_of o t'' ≡ exp_of o t = same_exp o t'' t both.receives in
      let rest : Steps o (n + 1 + m) m t'' (after_items (agenda o (n + 1) m t'') t'') = agenda_steps m (n + 1) t'' (omega (arith, low)) (omega (arith, below, exp'')) both.fits both.delivered in
      let whole : Steps o (n + 1 + m) (1 + m) t (after_items (agenda o (n + 1) m t'') t'') = steps_then o (n + 1) (n + 1 + m) 1 m t t'' (after_items (agenda o (n + 1) m t'') t'') both rest in
      let now : List (List Mark) = first ++ due in
      let joined : after_items now t ≡ t'' = after_items-append first due t in
      let ended : after_items (now ++ agenda o (n + 1) m (after_items now t)) t ≡ after_items (agenda o (n + 1) m t'') t'' =
      after_items-append now (agenda o (n + 1) m (after_items now t)) t ∙ ap (λ x. after_items (agenda o (n + 1) m x) x) joined in
      subst (λ x. Steps o (n + suc m) (suc m) t x) (sym ended)
      (subst (λ k. Steps o k (suc m) t (after_items (agenda o (n + 1) m t'') t'')) (let z : n + 1 + m ≡ n + suc m = omega arith in z)
      (subst (λ k. Steps o (n + 1 + m) k t (after_items (agenda o (n + 1) m t'') t'')) (let z : 1 + m ≡ suc m = omega arith in z) whole))

  pub agenda_goes : (m n : ℕ) (t : Trace) → number_of_first o.first ≤ n → n + m ≤ exp_of o t → has misfits t ≡ false → DeliversBelow o n t → Steps o (n + m) m t (after_items (agenda o n m t) t)
  agenda_goes m n t low below fits d = agenda_steps m n t low below fits d
