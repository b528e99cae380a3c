-- What a request does that executes, by what a session keeps: when it does that, and what stays as it was.
use Rattle.iscsi_session.proofs.Names.{◌≡◌, ℕ, ℤ, ◌+◌, ◌<◌, ◌≤◌, ◌==◌, ◌&&◌, not, cond, Bool, true, false, length, count_by, is_some, Option, Some, None, refl, ap, sym, ◌∙◌, arith, ◌-◌, subst, filter, List, [], ◌∷◌, map, length-set, nat_tests, to_z-of_z, false≢true, cond_both, HeldRequest, Request, connection_of, is_immediate, opcode, ref_cmd_sn, HasRoom, IsInside, place_in, Arrived, number_expected, at_place, advanced, advanced_if, with_unfinished, Task, AllOfThem, Below, is_covered, Respond, Immediate, Answer, Deed, Nothing, Wait, Enter, Void, Empty, Abort, AbortEarlier, AbortAll, CloseConn, CloseSession, is_known, unit_named, reply_of, may_wait, Facts, of_unit, function_deed, Core, is_held, set_at, is_numbered, is_gone, covers_ticket, after_effect, left_answered, KeepsPace, completed, set_staying, commands_left, all_commands_left, emptied_place, logged_out, refusal_by, missing_by, facts_by, deed_by, waits_by, arrival_by, Fits, IsReady, most_emptied, carried, position_by, executed, turn_taken, next_position, function_taken, immediate_taken, and_first, and_second, fewer_counted, filter-shorter, count_by-map, named_below, Befits, befits_function, befits_deed, through_function, Waiting, Live, sum_by-cons}
use Rattle.iscsi_rules.specs.declared.deed.Deed.TheVariants.{Reply}
use Rattle.iscsi_session.proofs.WindowLemmas.{emptied_changes, voided_changes}

-- ---- what stays

-- no number turns, no event is counted, no request more is held or waits, and so many commands more are unfinished at the most
pub record Stays (more : ℕ) (s s' : Core) : Type 0 where
  pub first : s'.window.first ≡ s.window.first
  pub turned : s'.window.turned ≡ s.window.turned
  pub unfinished : s'.window.unfinished ≤ s.window.unfinished + more
  pub taken : s'.taken ≡ s.taken
  pub held : count_by is_held s'.window.places ≤ count_by is_held s.window.places
  pub waiting : length s'.waiting ≤ length s.waiting

-- ---- commands of several units leave

-- the live commands, their sets and the count of the unfinished ones have changed, and nothing else
pub record Keeps (s s' : Core) : Type 0 where
  pub same : s' ≡ record s { window = with_unfinished s.window s'.window.unfinished; live = s'.live; sets = s'.sets }
  pub unfinished : s'.window.unfinished ≤ s.window.unfinished
  pub units : length s'.sets ≡ length s.sets

pub left_keeps : (s : Core) (units : List ℕ) (covers : Task → Bool) → Keeps s (all_commands_left s units covers).core
left_keeps s [] covers = record { same = refl; unfinished = omega arith; units = refl }
left_keeps s (unit ∷ units) covers =
    grind (arith, nat_tests, left_keeps (commands_left s unit covers).core units covers, fewer_counted is_numbered (λ l. not (is_gone covers (set_at s unit) l.ticket)) s.live, length-set s.sets unit (set_staying covers (set_at s unit)))

-- ---- held requests are taken out

emptied_fewer : (scope : Option ℕ) (ps : List (Option (Option HeldRequest))) → count_by is_held (map (emptied_place scope) ps) ≤ count_by is_held ps
emptied_fewer scope [] = omega arith
emptied_fewer scope (p ∷ ps) =
    grind (arith, sum_by-cons (λ q. cond (is_held q) 1 0) (emptied_place scope p) (map (emptied_place scope) ps), sum_by-cons (λ q. cond (is_held q) 1 0) p ps, emptied_fewer scope ps)

-- ---- a Logout

-- what stays, and as many numbers are received
logged_out_parts : (s : Core) (r : Request) (scope : Option ℕ) → Stays 0 s (logged_out s r scope).core × (count_by is_some (logged_out s r scope).core.window.places ≡ count_by is_some s.window.places)
logged_out_parts s r scope = grind (arith, nat_tests, left_keeps, emptied_fewer, count_by-map, filter-shorter)

-- ==== what a request does that executes: when it does that, and what stays as it was

-- ---- what it does fits

-- what holds of the unit that a request names
of_named : {A : Type 0} (units : ℕ) (r : Request) (unit : ℕ) (none : A) (some : ℕ → A) → unit_named units r ≡ Some unit → some unit ≡ of_unit (unit_named units r) none some
of_named units r unit none some named = sym (ap (λ x. of_unit x none some) named)

fits : (s : Core) (r : Request) (d : Deed) → Befits (facts_by s r) r d → Fits s r d
fits s r Wait b = absurd b
fits s r Void b = b.1
fits s r (AbortEarlier unit) b = named_below (length s.sets) r unit b.0
fits s r (AbortAll unit) b = named_below (length s.sets) r unit b
fits s r d b = grind (arith, nat_tests, named_below, of_named)

pub fits_function : (s : Core) (r : Request) → Fits s r (function_deed (facts_by s r) r)
fits_function s r = fits s r _ (befits_function (facts_by s r) r)

pub fits_deed : (s : Core) (r : Request) → Fits s r (deed_by s r)
fits_deed s r = fits s r _ (befits_deed (facts_by s r) r)

pub fits_arrival : (s : Core) (r : Request) → Fits s r (arrival_by s r)
fits_arrival s r =
    let waits : may_wait r ≡ true → Fits s r (waits_by s r) = λ may. grind (arith, nat_tests, cond_both, fits_function) in
    let unless_refused : (x : Option Answer) → Fits s r (waits_by s r) → Fits s r (elim x [ Some y ↦ Reply y | None ↦ waits_by s r ]) = λ x rest. grind (arith, nat_tests) in
    cond_both (opcode r == 0x02 && may_wait r) _ _ (Fits s r) (λ is. unless_refused (refusal_by s r) (waits (and_second (opcode r == 0x02) (may_wait r) is))) (λ is. fits_deed s r)

-- ---- a number is voided, or a held request is taken out

abbrev pub is_of_number : Deed → Bool
is_of_number (Empty unit sn) = true
is_of_number Void = true
is_of_number _ = false

-- only an immediate function voids a number, which is in the window
pub missing_parts : (s : Core) (r : Request) → missing_by s r ≡ true → (is_immediate r ≡ true) × IsInside (place_in s.window (ref_cmd_sn r))
missing_parts s r missing = grind (arith, nat_tests, false≢true, and_first)

-- there is room for it
pub ready : (s : Core) (r : Request) (d : Deed) → Fits s r d → (is_immediate r ≡ false → HasRoom s.window) → (is_immediate r ≡ true → s.window.turned + count_by is_some s.window.places < s.taken)
    → s.entered + count_by is_some s.window.places < s.taken → is_known (connection_of r) s.conns ≡ true → IsReady s r d
ready s r d befits space turned entered known = grind (arith, nat_tests, missing_parts)

-- ---- a function over a whole set

-- it takes out commands of a unit, or is answered, or nothing happens
abbrev pub is_whole : Deed → Bool
is_whole Nothing = true
is_whole (Reply x) = true
is_whole (AbortEarlier unit) = true
is_whole (AbortAll unit) = true
is_whole _ = false

pub whole_function : (f : Facts) (r : Request) → may_wait r ≡ true → is_whole (function_deed f r) ≡ true
whole_function f r may = grind (arith, nat_tests)

-- which is ready, empties nothing and leaves the places of the window
pub record Whole (s : Core) (r : Request) (number : ℤ) (event : ℕ) (d : Deed) : Type 0 where
  pub ready : IsReady s r d
  pub none_emptied : most_emptied s d ≡ 0
  pub places : (carried s r number event d).core.window.places ≡ s.window.places

pub whole : (s : Core) (r : Request) (number : ℤ) (event : ℕ) (d : Deed) → is_whole d ≡ true → Whole s r number event d
whole s r number event d is = grind (arith, nat_tests, ready, false≢true)

-- ---- what stays

-- a numbered command begins
abbrev pub begins : Request → Deed → ℕ
begins r (Enter unit) = cond (is_immediate r) 0 1
begins r _ = 0

left_stays : (s : Core) (r : Request) (unit : ℕ) (covers : Task → Bool) → Stays 0 s (left_answered s unit covers (connection_of r) (reply_of r (Respond 0))).core
left_stays s r unit covers = omega (arith, fewer_counted is_numbered (λ l. not (is_gone covers (set_at s unit) l.ticket)) s.live)

pub carried_stays : (s : Core) (r : Request) (number : ℤ) (event : ℕ) (d : Deed) → Fits s r d → Stays (begins r d) s (carried s r number event d).core
carried_stays s r number event Void fits = omega (arith, voided_changes s.window (ref_cmd_sn r) (missing_parts s r fits).1)
carried_stays s r number event (Empty unit sn) fits = omega (arith, emptied_changes s.window sn)
carried_stays s r number event (CloseConn closing) fits = (logged_out_parts s r (Some closing)).0
carried_stays s r number event CloseSession fits = (logged_out_parts s r None).0
carried_stays s r number event (Abort unit ticket) fits = left_stays s r unit (covers_ticket ticket)
carried_stays s r number event (AbortEarlier unit) fits = left_stays s r unit (is_covered (Below number event))
carried_stays s r number event (AbortAll unit) fits = left_stays s r unit (is_covered AllOfThem)
carried_stays s r number event d fits = grind arith

-- a numbered request voids no number
pub carried_counted : (s : Core) (r : Request) (number : ℤ) (event : ℕ) (d : Deed) → Fits s r d → is_immediate r ≡ false → count_by is_some (carried s r number event d).core.window.places ≡ count_by is_some s.window.places
carried_counted s r number event Void fits numbered = absurd (false≢true (sym numbered ∙ (missing_parts s r fits).0))
carried_counted s r number event (Empty unit sn) fits numbered = let g = emptied_changes s.window sn in omega (arith, g.counted)
carried_counted s r number event (CloseConn closing) fits numbered = (logged_out_parts s r (Some closing)).1
carried_counted s r number event CloseSession fits numbered = (logged_out_parts s r None).1
carried_counted s r number event d fits numbered = grind arith

-- ==== what a turn leaves as it was, and a function that has waited: the numbers that have turned, and the events. A turn begins one command at the most

pub same_expected : (w w' : Arrived) → w'.first ≡ w.first → w'.turned ≡ w.turned → number_expected w' ≡ number_expected w
same_expected w w' first turned = cc

pub stays_expected : (more : ℕ) (s s' : Core) → Stays more s s' → number_expected s'.window ≡ number_expected s.window
stays_expected more s s' h = same_expected s.window s'.window h.first h.turned

one_more : (s s' : Core) (r : Request) (d : Deed) → Stays (begins r d) s s' → Stays 1 s s'
one_more s s' r d h = let one : begins r d ≤ 1 = grind arith in omega (arith, h)

-- ---- a function that has waited

-- it begins no command
pub function_stays : (s : Core) (x : Option Waiting) → Stays 0 s (function_taken s x).core
function_stays s None = omega arith
function_stays s (Some w) =
    let s' : Core = record s { waiting = filter (λ v. not (v.event == w.event)) s.waiting } in
    let h = carried_stays s' w.request (next_position s) w.event (function_deed (facts_by s' w.request) w.request) (fits_function s' w.request) in
    let none = through_function (λ d. begins w.request d ≡ 0) (facts_by s' w.request) w.request refl (λ x. refl) refl (λ u n. refl) (λ u n. refl) (λ u. refl) (λ u. refl) in
    omega (arith, h, none, filter-shorter (λ (v : Waiting). not (v.event == w.event)) s.waiting)

-- ---- a request

pub executed_stays : (s : Core) (r : Request) (event : ℕ) → Stays 1 s (executed s r event).core
executed_stays s r event = one_more s (executed s r event).core r (deed_by s r) (carried_stays s r (position_by s r) event (deed_by s r) (fits_deed s r))

-- an immediate one that doesn't wait begins none of the numbered commands
pub at_once_stays : (s : Core) (r : Request) (d : Deed) → Fits s r d → is_immediate r ≡ true → Stays 0 s (carried s r (position_by s r) (s.taken - 1) d).core
at_once_stays s r d fits immediate =
    let none : begins r d ≡ 0 = grind (arith, nat_tests) in
    omega (arith, carried_stays s r (position_by s r) (s.taken - 1) d fits, none)

pub immediate_is : (s : Core) (r : Request) (d : Deed) → (d ≡ Wait → ⊥) → immediate_taken s r d ≡ after_effect (Immediate r) (carried s r (position_by s r) (s.taken - 1) d)
immediate_is s r d other = grind (arith, nat_tests)

-- it takes out no more than is held
pub emptied_most : (s : Core) (d : Deed) → most_emptied s d ≤ count_by is_held s.window.places
emptied_most s d = grind arith

pub ruleset arrival_steps = (false≢true, fits_arrival, ready, at_once_stays, immediate_is, emptied_most, nat_tests)

-- the numbers and the events are the same after it
pub record Same (s s' : Core) : Type 0 where
  pub expected : number_expected s'.window ≡ number_expected s.window
  pub taken : s'.taken ≡ s.taken

pub immediate_same : (s : Core) (r : Request) → Same s (immediate_taken s r (arrival_by s r)).core
immediate_same s r =
    let d : Deed = arrival_by s r in
    let by_deed : (d : Deed) → Stays 1 s (carried s r (position_by s r) (s.taken - 1) d).core → Same s (immediate_taken s r d).core = λ d h. grind (arith, nat_tests, stays_expected) in
    by_deed d (one_more s _ r d (carried_stays s r (position_by s r) (s.taken - 1) d (fits_arrival s r)))

-- ---- a completion

pub pace-completed : (s : Core) (x : Option Live) (status : ℕ) → KeepsPace s.window (completed s x status).core.window
pace-completed s x status = grind (arith, nat_tests, fewer_counted)

-- ---- a turn

pub pace-turned : (s : Core) → KeepsPace s.window (turn_taken s (at_place s.window 0)).core.window
pace-turned s = by_place (at_place s.window 0) refl
  where
    by_place : (p : Option (Option HeldRequest)) → at_place s.window 0 ≡ p → KeepsPace s.window (turn_taken s p).core.window
    by_place None is = omega arith
    by_place (Some None) is = subst (λ q. KeepsPace s.window (advanced_if s.window q)) (sym is) (omega arith)
    by_place (Some (Some h)) is =
        let turned = ap (λ q. (advanced_if s.window q).turned) is in
        let same = ap (λ q. (advanced_if s.window q).unfinished) is in
        omega (arith, executed_stays (record s { window = advanced s.window }) h.request h.event, turned, same)

pub turned_taken : (s : Core) (p : Option (Option HeldRequest)) → (turn_taken s p).core.taken ≡ s.taken
turned_taken s (Some (Some h)) = (executed_stays (record s { window = advanced s.window }) h.request h.event).taken
turned_taken s p = grind arith

-- ---- a number that code reads

pub ruleset numbers_read = (to_z-of_z, nat_tests)
