-- What ABORT TASK finds: a session's lookups against those of the definitions.
use Rattle.iscsi_session.proofs.Names.{◌≡◌, ℕ, suc, ◌+◌, ◌-◌, ◌<◌, ◌≤◌, ◌==◌, ◌&&◌, ⊎_elim, cond, Bool, true, false, List, [], ◌∷◌, length, map, filter, find, take, get_or, position, Option, Some, None, option_map, nat_lt, refl, ap, ◌∙◌, arith, ◌^◌, sym, range_with_len, cases_lt, false≢true, nat_tests, HeldRequest, Request, lift, wire, itt, lun, unit_of, is_immediate, rtt, cmd_sn, Arrived, number_expected, is_unit, holds_command, find_held, at_place, turned_on, Live, Setting, Arrival, Command, Trace, first_of, held, held_among, live, Mark, Delivers, Executes, waiting, exp_of, is_to, held_command, live_with_tag, Core, held_of, place_of, kept, arrival_waiting, Agrees, Settled, tagged_in, missing_by, Fits, held-number, held_received, is_sought, none_below, admitted_of_held, held_command-below, held_command-held, held_command-none, position-cons, Deed, facts_of, arrival_of, last_number, within_window}
use Rattle.iscsi_session.proofs.WindowLemmas.{Next, WindowAgrees-turned, expected_past_next}
use Rattle.iscsi_session.proofs.AgreeLemmas.{settled_expected, settled_max, Agrees-waits}
use Rattle.iscsi_session.proofs.DeedLemmas.{is_of_number, missing_parts}

-- ---- held commands

-- the unit that a request names is one of the session's
pub is_to-unit : (o : Setting) (unit : ℕ) (r : Request) → unit < o.units → is_to o unit r ≡ is_unit unit (unit_of (lun r))
is_to-unit o unit r inside = grind (arith, nat_tests)

module _ (o : Setting) (t : Trace) (tag unit below : ℕ) where
  one : (b : Bool) (a : Arrival) (as' : List Arrival) (e : ℕ) (y : Option ℕ) → a.number ≡ e → option_map (λ (h : Arrival). h.number) (first_of as') ≡ option_map (λ k. e + 1 + k) y
      → option_map (λ (h : Arrival). h.number) (first_of (cond b (a ∷ as') as')) ≡ option_map (λ k. e + k) (cond b (Some 0) (option_map suc y))
  one b a as' e y is after = grind (arith, nat_tests)

  take-none : {A : Type 0} (n : ℕ) → take n (let xs : List A = [] in xs) ≡ []
  take-none n = grind (arith, nat_tests)

  -- the number that is found is that of the place that is found
  pub found_numbers : (ps : List (Option (Option HeldRequest))) (e : ℕ) → unit < o.units → ((k : ℕ) → k < length ps → get_or ps k None ≡ place_of t (e + k))
      → option_map (λ (h : Arrival). h.number) (first_of (filter (is_sought o tag unit below) (held_among t (range_with_len e (length ps))))) ≡ option_map (λ k. e + k) (position (holds_command tag unit) (take (below - e) ps))
  found_numbers [] e inside same = rw (take-none (below - e))
  found_numbers (p ∷ ps) e inside same =
      let rest : List Arrival = held_among t (range_with_len (e + 1) (length ps)) in
      let found : Option ℕ = position (holds_command tag unit) (take (below - (e + 1)) ps) in
      let goal : Type 0 =
      option_map (λ (h : Arrival). h.number) (first_of (filter (is_sought o tag unit below) (held_among t (range_with_len e (suc (length ps)))))) ≡ option_map (λ k. e + k) (position (holds_command tag unit) (take (below - e) (p ∷ ps))) in
      let at_first : p ≡ place_of t e = same 0 (omega arith) ∙ ap (place_of t) (let z : e + 0 ≡ e = omega arith in z) in
      let after : option_map (λ (h : Arrival). h.number) (first_of (filter (is_sought o tag unit below) rest)) ≡ option_map (λ k. e + 1 + k) found =
      found_numbers ps (e + 1) inside (λ k l. same (suc k) (omega arith) ∙ ap (place_of t) (let z : e + suc k ≡ e + 1 + k = omega arith in z)) in
      let by_held : suc (below - (e + 1)) ≡ below - e → e < below → (x : Option Arrival) → held t e ≡ x → goal = λ more lt.
      elim [
        | None ↦ λ is.
            let none : holds_command tag unit p ≡ false = rw (at_first, is) (grind arith) in
            rw (is, ← more, position-cons (holds_command tag unit) p (take (below - (e + 1)) ps), none, after) (grind arith)
        | Some a ↦ λ is.
            let number = held-number t e a is in
            let low : nat_lt a.number below ≡ true = grind (arith, nat_tests) in
            let here : p ≡ Some (Some (held_of a)) = rw (at_first, held_received t e a is, is) in
            rw (is, ← more, position-cons (holds_command tag unit) p (take (below - (e + 1)) ps), low, is_to-unit o unit a.request inside, here) (one (holds_command tag unit (Some (Some (held_of a)))) a (filter (is_sought o tag unit below) rest) e found number after)
      ] in
      ⊎_elim (λ lt. by_held (omega arith) lt (held t e) refl) (λ ge. let none : below - e ≡ 0 = omega arith in rw (none_below o t tag unit below (suc (length ps)) e ge, none)) (cases_lt e below)

-- ---- live commands

find-two : (p : Live → Bool) (q r : Command → Bool) (cs : List Command) → ((c : Command) → p (kept c) ≡ (q c && r c)) → find p (map kept cs) ≡ option_map kept (first_of (filter r (filter q cs)))
find-two p q r [] h = refl
find-two p q r (c ∷ cs) h = grind (arith, nat_tests, find-two p q r cs h)

-- the live command with a tag and a unit
pub tagged_in-is : (s : Core) (t : Trace) (tag unit : ℕ) → s.live ≡ map kept (live t) → tagged_in s tag unit ≡ option_map kept (live_with_tag t tag unit)
tagged_in-is s t tag unit lives = rw lives (find-two (λ l. l.unit == unit && l.itt == tag) (λ c. c.unit == unit) (λ c. itt c.arrival.request == tag) (live t) (λ c. refl))

-- ==== what ABORT TASK comes to, by what a session keeps, and by the definitions

-- ---- what it comes to

-- what ABORT TASK finds is what the definitions find
pub record Found (o : Setting) (s : Core) (t : Trace) (a : Arrival) : Type 0 where
  pub held_same : (unit : ℕ) → unit < o.units → option_map (λ (h : Arrival). h.number) (held_command o t (rtt a.request) unit a.number) ≡ option_map (λ k. number_expected s.window + k) (find_held s.window (rtt a.request) unit (cmd_sn a.request))
  pub held_inside : (unit : ℕ) (h : Arrival) → held_command o t (rtt a.request) unit a.number ≡ Some h
      → (held t h.number ≡ Some h) × (number_expected s.window ≤ h.number) × (h.number < number_expected s.window + length s.window.places) × (h.number < number_expected s.window + 2 ^ 31)
  pub missing_same : (facts_of o t a).is_missing ≡ missing_by s a.request
  pub expected_is : is_immediate a.request ≡ true → exp_of o t ≡ number_expected s.window

-- no request is held below the number of a numbered function
none_held_below : (w : Arrived) (r : Request) (unit n : ℕ) → n + 1 ≡ number_expected w → wire (cmd_sn r) ≡ wire n → find_held w (rtt r) unit (cmd_sn r) ≡ None
none_held_below w r unit n next shows = grind (arith, nat_tests, last_number)

-- so it neither empties nor voids a number
pub numbered_deed : (s : Core) (r : Request) (n : ℕ) (d : Deed) → is_immediate r ≡ false → n + 1 ≡ number_expected s.window → wire (cmd_sn r) ≡ wire n → Fits s r d → is_of_number d ≡ false
numbered_deed s r number d later next shows fits = grind (arith, nat_tests, false≢true, missing_parts, none_held_below)

-- an immediate request, at its arrival
pub Found-arrived : (o : Setting) (s : Core) (index : ℕ) (t : Trace) (r : Request) → Settled o s t → waiting ((Executes (arrival_of o index t r) ∷ []) ∷ t) ≡ map (arrival_waiting o.first) s.waiting
    → Found o s ((Executes (arrival_of o index t r) ∷ []) ∷ t) (arrival_of o index t r)
Found-arrived o s index t r h waits =
    let a : Arrival = arrival_of o index t r in
    let item : List Mark = Executes a ∷ [] in
    let t' : Trace = item ∷ t in
    let now : Agrees o s t' = Agrees-waits o s t item s.waiting (search) (search) (search) refl h.agrees (record { list = waits; may = h.agrees.waiting.may; known = h.agrees.waiting.known }) in
    let h' : Settled o s t' = record { agrees = now; none_due = h.none_due } in
    let own : a.number ≡ lift (number_expected s.window) (cmd_sn r) = ap (λ e. lift e (cmd_sn r)) (settled_expected o s t h) in
    let exp : exp_of o t' ≡ number_expected s.window = settled_expected o s t' h' in
    record {
      held_same = λ unit inside. rw (exp, ← now.window.size, own) (found_numbers o t' (rtt r) unit (lift (number_expected s.window) (cmd_sn r)) s.window.places (number_expected s.window) inside now.window.inside);
      held_inside = λ unit x found.
          let k = held_command-held o t' (rtt r) unit a.number x found in
          (k.0, omega (arith, k.1.0, exp), omega (arith, k.1.1, exp, now.window.size), omega (arith, held_command-below o t' (rtt r) unit a.number x found, own));
      missing_same = grind (arith, nat_tests, within_window, settled_max o s t' h', exp, own, now.window);
      expected_is = λ is. exp;
    }

-- a numbered one, at its turn
pub Found-turned : (o : Setting) (s : Core) (t : Trace) (r : HeldRequest) → Agrees o s t → at_place s.window 0 ≡ Some (Some r) → (x : Next s.window t r)
    → Found o (record s { window = turned_on s.window }) ((Delivers x.arrival ∷ []) ∷ t) x.arrival
Found-turned o s t r h place x =
    let a : Arrival = x.arrival in
    let e : ℕ = number_expected s.window in
    let s' : Core = record s { window = turned_on s.window } in
    let t' : Trace = (Delivers a ∷ []) ∷ t in
    let number : a.number ≡ e = held-number t e a x.held_is in
    let admitted_is = admitted_of_held t e a x.held_is in
    let regular = h.window.requests e a admitted_is in
    let numbered : is_immediate a.request ≡ false = regular.numbered in
    let next : a.number + 1 ≡ number_expected s'.window = omega (arith, number) in
    let shows : wire (cmd_sn a.request) ≡ wire a.number = regular.shows ∙ ap wire (sym number) in
    let exp = expected_past_next o s'.window t' (WindowAgrees-turned o s.window t r [] h.window place x (search)).agrees in
    let nowhere : (unit : ℕ) → held_command o t' (rtt a.request) unit a.number ≡ None = λ unit. held_command-none o t' (rtt a.request) unit a.number (omega (arith, exp, next)) in
    record {
      held_same = λ unit inside. rw (nowhere unit, none_held_below s'.window a.request unit a.number next shows);
      held_inside = λ unit y found. absurd (let z : None ≡ Some y = sym (nowhere unit) ∙ found in cc);
      missing_same = grind (arith, nat_tests, numbered);
      expected_is = λ is. absurd (false≢true (sym numbered ∙ is));
    }
