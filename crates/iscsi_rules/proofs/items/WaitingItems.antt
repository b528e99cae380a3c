-- Which functions wait after an item, and the functions of a number.
use Rattle.std.proofs.Common.{arith, List, ◌≡◌, ◌++◌, [], ◌∷◌, Bool, filter, refl, ℕ, cond, false, true, ◌==◌, not, ap, sym, subst, ◌∙◌, eq-eqb}
use Rattle.std.specs.List.{list_any}
use Rattle.std.proofs.lemmas.Bool.Decides.{nat_tests}
use Rattle.iscsi_rules.specs.rules.Deeds.{function_marks}
use Rattle.iscsi_rules.specs.rules.Trace.{Arrival, Mark, waiting_through, Trace, Executes, waiting, after_items}
use Rattle.iscsi_rules.specs.rules.Settings.{Setting}
use Rattle.iscsi_rules.specs.rules.Items.{function_item, is_waiting, functions, functions_at}
use Rattle.iscsi_rules.proofs.general.ElementLemmas.{In, filter-in}
use Rattle.iscsi_rules.proofs.general.ListLemmas.{filter-swap}
use Rattle.iscsi_rules.proofs.items.Forms.{AfterWaiting, Deeds, marks_done, is_closing}
use Rattle.iscsi_rules.proofs.items.FormItems.{DoesFunction, function_does}
use Rattle.iscsi_rules.proofs.items.DeedLemmas.{each_done, unended, unparted}

-- ---- those that wait, once a function executed

-- by what closes nothing none begins or ceases to wait
calm_done : (a : Arrival) (d : Deeds) → is_closing d ≡ false → (ws : List Arrival) → waiting_through (marks_done a d) ws ≡ ws
calm_done a d stays =
    each_done a d (λ ms. (ws : List Arrival) → waiting_through ms ws ≡ ws) (λ ws. refl) (λ n is ms rest. rest) (λ c there ms rest. rest) (λ b there ms rest. rest) (λ c is ms rest. rest) (λ reply is ms rest. rest)
    (λ conn is. absurd (unparted a d stays conn is)) (λ is. absurd (unended a d stays is))

abbrev pub without_event : ℕ → List Arrival → List Arrival
without_event event ws = filter (λ b. not (b.event == event)) ws

pub waiting_after_function : (o : Setting) (t : Trace) (a : Arrival) → waiting (function_item o t a ∷ t) ≡ without_event a.event (waiting t)
waiting_after_function o t a =
    let f : DoesFunction o t AfterWaiting a (function_marks o ((Executes a ∷ []) ∷ t) a) = function_does o t AfterWaiting a in
    let ws : List Arrival = without_event a.event (waiting t) in
    ap (λ ms. waiting_through ms ws) f.does.is ∙ calm_done a f.does.deeds f.stays ws

-- ---- functions that don't wait any more may be left out

waits_still : (event : ℕ) (b : Arrival) (ws : List Arrival) → list_any (λ x. x.event == b.event) (without_event event ws) ≡ true → list_any (λ (x : Arrival). x.event == b.event) ws ≡ true
waits_still event b [] h = h
waits_still event b (x ∷ ws) h = grind (arith, waits_still event b ws)

still_waiting : (o : Setting) (t : Trace) (a b : Arrival) → is_waiting b (function_item o t a ∷ t) ≡ true → is_waiting b t ≡ true
still_waiting o t a b h = waits_still a.event b (waiting t) (sym (ap (list_any (λ (x : Arrival). x.event == b.event)) (waiting_after_function o t a)) ∙ h)

left_out : (o : Setting) (p : Arrival → Bool) (as' : List Arrival) (t : Trace) → ((x : Arrival) → is_waiting x t ≡ true → p x ≡ true) → functions o (filter p as') t ≡ functions o as' t
left_out o p [] t covers = refl
left_out o p (x ∷ as') t covers =
    elim (is_waiting x t) as (λ w. is_waiting x t ≡ w → functions o (cond (p x) (x ∷ filter p as') (filter p as')) t ≡ (let now : List (List Mark) = cond w (function_item o t x ∷ []) [] in now ++ functions o as' (after_items now t))) [
      | true ↦ λ is.
          let t' : Trace = function_item o t x ∷ t in
          ap (λ b. functions o (cond b (x ∷ filter p as') (filter p as')) t) (covers x is)
          ∙ ap (λ b. let now : List (List Mark) = cond b (function_item o t x ∷ []) [] in now ++ functions o (filter p as') (after_items now t)) is
          ∙ ap (λ items. function_item o t x ∷ items) (left_out o p as' t' (λ y still. covers y (still_waiting o t x y still)))
      | false ↦ λ is.
          elim (p x) as (λ b. functions o (cond b (x ∷ filter p as') (filter p as')) t ≡ functions o as' t) [
            | true ↦ ap (λ b. let now : List (List Mark) = cond b (function_item o t x ∷ []) [] in now ++ functions o (filter p as') (after_items now t)) is ∙ left_out o p as' t covers
            | false ↦ left_out o p as' t covers
          ]
    ] refl

-- ---- the first function of a number, and the others

gone : (event : ℕ) (x : Arrival) (ws : List Arrival) → (x.event == event) ≡ true → list_any (λ y. y.event == x.event) (without_event event ws) ≡ false
gone event x [] is = refl
gone event x (y ∷ ws) is = grind (arith, gone event x ws)

-- one that waits still, once a function executed, came in another event
still_apart : (o : Setting) (t : Trace) (a x : Arrival) → is_waiting x (function_item o t a ∷ t) ≡ true → not (x.event == a.event) ≡ true
still_apart o t a x still = grind (arith, nat_tests, waiting_after_function o t a, gone)

-- so it is still there
pub still_in : (o : Setting) (t : Trace) (a x : Arrival) → (is_waiting x t ≡ true → In x (waiting t)) → is_waiting x (function_item o t a ∷ t) ≡ true → In x (waiting (function_item o t a ∷ t))
still_in o t a x before still =
    subst (In x) (sym (waiting_after_function o t a)) (filter-in (λ (b : Arrival). not (b.event == a.event)) (waiting t) x (before (still_waiting o t a x still)) (still_apart o t a x still))

-- the functions of a number, the first of which is this one
pub first_function : (o : Setting) (n : ℕ) (t : Trace) (a : Arrival) (as' : List Arrival) → filter (λ b. b.number == n) (waiting t) ≡ a ∷ as' → is_waiting a t ≡ true → functions_at o n t ≡ function_item o t a ∷ functions_at o n (function_item o t a ∷ t)
first_function o n t a as' these waits =
    grind (arith, nat_tests, waiting_after_function o t a, filter-swap, eq-eqb a.event a.event refl, left_out, still_apart o t a)

-- what is first among some is one of them
pub waits_itself : (p : Arrival → Bool) (ws : List Arrival) (a : Arrival) (as' : List Arrival) → filter p ws ≡ a ∷ as' → list_any (λ (x : Arrival). x.event == a.event) ws ≡ true
waits_itself p [] a as' h = absurd cc
waits_itself p (x ∷ ws) a as' h = grind (arith, waits_itself p ws a as')
