-- A Logout: the held requests that it takes out, and the item of it.
use Rattle.iscsi_session.proofs.Names.{◌≡◌, ℕ, zero, suc, ◌+◌, cond, Bool, true, false, List, [], ◌∷◌, length, map, set, slice_index_or, not, count_by, is_some, Option, Some, None, refl, arith, add-one, ◌-◌, ◌<◌, ◌&&◌, ◌||◌, ◌++◌, filter, get_or, nat_lt, nat_le, ap, sym, ◌∙◌, list_all, false≢true, sum_by-cons, HeldRequest, wire, number_of_first, holds_from, Arrived, number_expected, is_asked, is_held, is_place_known, place_of, WindowAgrees, emptied_place, emptied_from, is_clear_below, and_parts, nat_tests, append-nil, length-map, get_or-map, connection_of, Effect, Setting, Arrival, Command, Mark, Empties, Leaves, Trace, shown, received, contains, is_received, is_delivered, is_emptied, held, admitted, exp_of, delivers, request_at, all_held, held-number, unreceived_unheld, IsQuiet, same_range, EmptiesThese, SameNumbers, empties-these, held_from, held_from-none, held_from-parts, is_number_of, joined-same, ⊎_elim, ◌≤◌, length-set, ◌==◌, append_assoc, cases_Bool, list_any, flat_map, range_with_len, get_or-set_same, get_or-set_other, Task, opened, is_covered, Core, Agrees, CommandsAgree, arrival_waiting, open_of, task_of, set_staying, covered_tickets, set_at, is_numbered, is_gone, leave_each, commands_left, all_commands_left, is_among_open, still_open, after_effect, all_given, enable_effects, cover_of, session_closes, logged_out, filter-same, filter-true, filter-twice, Untouched, live-untouched, filter_all, filter-none, any_in_range, flat_map_in_range, list_all-filter, list_all-same, list_any-map, any_filter, any_flat_map, filter-flat_map, map-flat_map, filter-map, filtered_among, filter_map-append, Logout, itt, Leave, Send, Waiting, is_known, ClosesConn, ClosesSession, waiting, waiting_by, waiting_through, closes_conn, closes_session, has, is_ended, enters, entered, leaves_ticket, live, live_in, is_among, live_of_units, is_open, is_last_open, taken_out, parting, end_session, close_conn, may_wait, effects_of_mark, effects_of_item, newly_enabled, stat_sn_of, enables, or_false, and_false, alike, alike_same, eq_sym, unamong-filter, quiet_none, LeavesSome, live_in-left, among_passing, any_in_units, enters_only, leaves_only, EnabledSoFar-left, closed-same, closing_marks, quiet-closing, untouched-closing, untouched-emptied, emptied_any, emptied_sends, emptied_shown, emptied_waits, is_nil, last_is, left_any, left_sends, left_shown, left_waits, nil_is}
use Rattle.iscsi_rules.specs.declared.effect.Effect.TheVariants.{Empty, CloseConn, CloseSession}
use Rattle.iscsi_session.proofs.WindowLemmas.{expected_past_next}
use Rattle.iscsi_session.proofs.AgreeLemmas.{RepliesAgree-sent, CommandsAgree-left, units_live}
use Rattle.iscsi_session.proofs.ExecutionLemmas.{Begun, Follows, WindowAgrees-fewer, numbered_live, gone_tickets, leaving_shown, SetLeft, set_left}
use Rattle.iscsi_session.proofs.DeedLemmas.{Keeps, left_keeps}

-- the first place that is concerned is given up, and what is left to do after it: the first place stands for number n
pub record Dropped (scope : Option ℕ) (n : ℕ) (ps : List (Option (Option HeldRequest))) (k : ℕ) : Type 0 where
  pub rest : map (emptied_place scope) (set ps k (Some None)) ≡ map (emptied_place scope) ps
  pub effects : emptied_from n scope ps ≡ Empty (wire (n + k)) ∷ emptied_from n scope (set ps k (Some None))
  pub held : count_by is_held (set ps k (Some None)) + 1 ≡ count_by is_held ps
  pub counted : count_by is_some (set ps k (Some None)) ≡ count_by is_some ps
  pub known : (conns : List (ℕ × ℕ)) → list_all (is_place_known conns) ps ≡ true → list_all (is_place_known conns) (set ps k (Some None)) ≡ true
  pub clear : is_clear_below scope (k + 1) (set ps k (Some None)) ≡ true

pub dropped : (scope : Option ℕ) (n : ℕ) (ps : List (Option (Option HeldRequest))) (k : ℕ) → is_clear_below scope k ps ≡ true → holds_from scope (slice_index_or ps k None) ≡ true → Dropped scope n ps k
dropped scope n [] k clear here = absurd (false≢true here)
dropped scope n (p ∷ ps) zero clear here =
    grind (arith, sum_by-cons (λ y. cond (is_held y) 1 0) (Some None) ps, sum_by-cons (λ y. cond (is_held y) 1 0) p ps, sum_by-cons (λ y. cond (is_some {T = Option HeldRequest} y) 1 0) (Some None) ps, sum_by-cons (λ y. cond (is_some y) 1 0) p ps)
dropped scope n (p ∷ ps) (suc k) clear here =
    let d = dropped scope (n + 1) ps k (and_parts (not (holds_from scope p)) (is_clear_below scope k ps) clear).1 here in record {
      rest = rw d.rest;
      effects = grind (arith, d.effects);
      held = omega (arith, d.held, sum_by-cons (λ y. cond (is_held y) 1 0) p (set ps k (Some None)), sum_by-cons (λ y. cond (is_held y) 1 0) p ps);
      counted = omega (arith, d.counted, sum_by-cons (λ y. cond (is_some y) 1 0) p (set ps k (Some None)), sum_by-cons (λ y. cond (is_some y) 1 0) p ps);
      known = λ conns all. grind (arith, d.known conns);
      clear = grind (arith, d.clear);
    }

-- a place more that isn't concerned
pub clear_past : (scope : Option ℕ) (k : ℕ) (ps : List (Option (Option HeldRequest))) → is_clear_below scope k ps ≡ true → holds_from scope (slice_index_or ps k None) ≡ false → is_clear_below scope (k + 1) ps ≡ true
clear_past scope k ps clear none = rw add-one (past k ps clear none)
  where
    past : (n : ℕ) (qs : List (Option (Option HeldRequest))) → is_clear_below scope n qs ≡ true → holds_from scope (slice_index_or qs n None) ≡ false → is_clear_below scope (suc n) qs ≡ true
    past n [] below here = refl
    past zero (q ∷ qs) below here = rw here
    past (suc n) (q ∷ qs) below here = grind (arith, past n qs)

-- at the end nothing is to be taken out
pub dropped_all : (scope : Option ℕ) (n : ℕ) (ps : List (Option (Option HeldRequest))) → is_clear_below scope (length ps) ps ≡ true → (map (emptied_place scope) ps ≡ ps) × (emptied_from n scope ps ≡ [])
dropped_all scope n [] clear = (refl, refl)
dropped_all scope n (p ∷ ps) clear = grind (arith, dropped_all scope (n + 1) ps)

-- what the window answers says whether there was one
pub answered_some : (b : Bool) (n sn : ℕ) → cond b (Some n) None ≡ Some sn → (b ≡ true) × (sn ≡ n)
answered_some b n sn said = grind arith

pub answered_none : (b : Bool) (n : ℕ) → cond b (Some n) None ≡ None → b ≡ false
answered_none b n said = grind arith

-- ==== those that are taken out, in the window

-- ---- the requests that are held at the numbers of a range

-- all that is held is held in the window
all_held-window : (o : Setting) (w : Arrived) (t : Trace) → WindowAgrees o w t → all_held o t ≡ held_from t (number_expected w) (length w.places)
all_held-window o w t h =
    let first : ℕ = number_of_first o.first in
    let e : ℕ = number_expected w in
    let len : ℕ = length w.places in
    let m : ℕ = e - first in
    let d : ℕ = exp_of o t + o.window - first - (m + len) in
    let at : first + m ≡ e = omega (arith, h.first) in
    let parts : exp_of o t + o.window - first ≡ m + (len + d) = omega (arith, h.first, h.size, expected_past_next o w t h) in
    rw (parts, held_from-parts t first m (len + d), held_from-none t first m (λ n l u. h.past n (omega (arith, at))), at, held_from-parts t e len d, held_from-none t (e + len) d (λ n l u. unreceived_unheld t n (h.above n l)), append-nil)

-- ---- which are taken out

-- a request of these connections is held
abbrev is_taken : Option ℕ → Option Arrival → Bool
is_taken scope None = false
is_taken scope (Some a) = is_asked scope (connection_of a.request)

-- those of these connections
abbrev of_scope : Option ℕ → List Arrival → List Arrival
of_scope scope = filter (λ (a : Arrival). is_asked scope (connection_of a.request))

-- the held requests that are taken out
abbrev pub taken_requests : Setting → Trace → Option ℕ → List Arrival
taken_requests o t scope = of_scope scope (all_held o t)

-- what is told of them
abbrev told : List Arrival → List Effect
told = map (λ (a : Arrival). Empty (wire a.number))

module _ (t : Trace) (scope : Option ℕ) where
  -- the window sees so at the number's place
  place_taken : (n : ℕ) → holds_from scope (place_of t n) ≡ is_taken scope (held t n)
  place_taken n = grind (arith, unreceived_unheld t n)

  -- the effects of the places from a number on
  emptied-numbers : (ps : List (Option (Option HeldRequest))) (e : ℕ) → ((k : ℕ) → k < length ps → get_or ps k None ≡ place_of t (e + k)) → emptied_from e scope ps ≡ told (of_scope scope (held_from t e (length ps)))
  emptied-numbers [] e same = refl
  emptied-numbers (p ∷ ps) e same =
      let here : p ≡ place_of t e = same 0 (omega arith) ∙ ap (place_of t) (omega arith) in
      rw (here, place_taken, emptied-numbers ps (e + 1) (λ k l. same (suc k) (omega arith) ∙ ap (place_of t) (omega arith))) (grind (arith, held-number t e))

  -- the numbers of those that are taken out of a range
  taken-range : (n count e : ℕ) → is_number_of (of_scope scope (held_from t e count)) n ≡ ((nat_le e n && nat_lt n (e + count)) && is_taken scope (held t n))
  taken-range n zero e = grind (arith, nat_tests)
  taken-range n (suc count) e =
      let same : e ≡ n → is_taken scope (held t e) ≡ is_taken scope (held t n) = ap (λ k. is_taken scope (held t k)) in
      grind (arith, nat_tests, held-number t e, taken-range n count (e + 1))

-- ---- the effects

-- the window tells of the requests that are taken out, in the order of their numbers
pub emptied_from-is : (o : Setting) (w : Arrived) (t : Trace) (scope : Option ℕ) → WindowAgrees o w t → emptied_from (number_expected w) scope w.places ≡ map (λ (a : Arrival). Empty (wire a.number)) (taken_requests o t scope)
emptied_from-is o w t scope h = rw (all_held-window o w t h) (emptied-numbers t scope w.places (number_expected w) h.inside)

-- a number is taken out where a request of these connections is held
taken-number : (o : Setting) (w : Arrived) (t : Trace) (scope : Option ℕ) → WindowAgrees o w t → (n : ℕ) → is_number_of (taken_requests o t scope) n ≡ is_taken scope (held t n)
taken-number o w t scope h n = rw (all_held-window o w t h) (grind (arith, nat_tests, taken-range t scope n, h.past n, h.above n, unreceived_unheld t n))

-- ---- the window

-- what has happened to each number is the same, but that these were emptied
record Emptied (t t' : Trace) (out : ℕ → Bool) : Type 0 where
  received_is : received t' ≡ received t
  admitted_is : (n : ℕ) → admitted t' n ≡ admitted t n
  delivered_is : (n : ℕ) → is_delivered t' n ≡ is_delivered t n
  emptied_is : (n : ℕ) → is_emptied t' n ≡ (out n || is_emptied t n)
  delivers_is : shown delivers t' ≡ shown delivers t

module _ (t t' : Trace) (scope : Option ℕ) (v : Emptied t t' (λ n. is_taken scope (held t n))) where
  held-taken : (k : ℕ) → held t' k ≡ cond (is_taken scope (held t k)) None (held t k)
  held-taken k = grind (arith, v.delivered_is k, v.emptied_is k, v.admitted_is k)

  WindowAgrees-taken : (o : Setting) (w : Arrived) → WindowAgrees o w t → WindowAgrees o (record w { places = map (emptied_place scope) w.places }) t'
  WindowAgrees-taken o w h =
      let e : ℕ = number_expected w in
      let long : length (map (emptied_place scope) w.places) ≡ length w.places = length-map w.places (emptied_place scope) in
      -- where nothing is held, nothing changes
      let same_request : (k : ℕ) → held t k ≡ None → request_at t' k ≡ request_at t k = λ k none. rw (v.emptied_is k, none, v.admitted_is k) in
      let same_received : (k : ℕ) → is_received t' k ≡ is_received t k = λ k. ap (λ ns. contains ns k) v.received_is in
      record {
        first = h.first;
        size = long ∙ h.size;
        below = λ k l u. same_received k ∙ h.below k l u;
        inside = λ k lt. rw (get_or-map (emptied_place scope) w.places k None, h.inside k (omega (arith, long, lt))) (grind (arith, held-taken (e + k), v.received_is));
        above = λ k u. same_received k ∙ h.above k (omega (arith, long, u));
        past = λ k before. rw (held-taken k, h.past k before);
        undelivered = λ k u. v.delivered_is k ∙ h.undelivered k u;
        unemptied = λ k gone. let before = sym (same_received k) ∙ gone in rw (v.emptied_is k, unreceived_unheld t k before) (h.unemptied k before);
        requests = λ k b found. h.requests k b (sym (v.admitted_is k) ∙ found);
        delivered = v.delivers_is ∙ h.delivered ∙ same_range t t' (number_of_first o.first) (e - number_of_first o.first) (λ k l u. sym (same_request k (h.past k (omega (arith, h.first, l, u)))));
        few = omega (arith, h.few, long);
        free = λ k big. rw (get_or-map (emptied_place scope) w.places k None, h.free k (omega (arith, big, long)));
      }

-- ---- a Logout, from its first mark on

module _ (o : Setting) (w : Arrived) (t : Trace) (m : Mark) (scope : Option ℕ) (cs : List Command) (rest : List Mark) (h : WindowAgrees o w ((m ∷ []) ∷ t)) (q : IsQuiet rest) where
  abbrev at_mark : Trace
  at_mark = (m ∷ []) ∷ t

  abbrev taken_marks : List Mark
  taken_marks = (map Leaves cs ++ map Empties (taken_requests o at_mark scope)) ++ rest

  emptied : Emptied at_mark ((m ∷ taken_marks) ∷ t) (λ n. is_taken scope (held at_mark n))
  emptied =
      let e : EmptiesThese taken_marks (is_number_of (taken_requests o at_mark scope)) = empties-these cs (taken_requests o at_mark scope) rest q in
      let j : SameNumbers (taken_marks ∷ at_mark) ((m ∷ taken_marks) ∷ t) = joined-same m taken_marks t in
      record {
        received_is = rw (j.received_is, e.receives, append-nil);
        admitted_is = λ n. rw (j.admitted_is n, e.admits n, append-nil);
        delivered_is = λ n. rw (j.delivered_is n, e.delivers_no n);
        emptied_is = λ n. rw (j.emptied_is n, e.empties n, taken-number o w at_mark scope h n);
        delivers_is = rw (j.delivers_is, e.delivers_none, append-nil);
      }

  pub WindowAgrees-logged_out : WindowAgrees o (record w { places = map (emptied_place scope) w.places }) ((m ∷ taken_marks) ∷ t)
  WindowAgrees-logged_out = WindowAgrees-taken at_mark ((m ∷ taken_marks) ∷ t) scope emptied o w h

-- ==== the item

-- ==== the covered commands of several units leave: what it comes to at once, in place of one unit after the other

module _ (covers : Task → Bool) where
  -- ---- the sets

  -- those of other units are as they were
  other_set : (s : Core) (unit other : ℕ) → (other ≡ unit → ⊥) → set_at (commands_left s unit covers).core other ≡ set_at s other
  other_set s unit other apart = get_or-set_other s.sets unit other (set_staying covers (set_at s unit)) (opened 0) apart

  -- those of the units before
  sets_before : (s : Core) (from n unit : ℕ) → unit < from → set_at (all_commands_left s (range_with_len from n) covers).core unit ≡ set_at s unit
  sets_before s from zero unit lt = refl
  sets_before s from (suc n) unit lt = rw (sets_before (commands_left s from covers).core (from + 1) n unit (omega arith)) (other_set s from unit (omega arith))

  -- and those of these units
  pub sets_left : (s : Core) (from n unit : ℕ) → from + n ≤ length s.sets → from ≤ unit → unit < from + n → set_at (all_commands_left s (range_with_len from n) covers).core unit ≡ set_staying covers (set_at s unit)
  sets_left s from zero unit few low high = absurd (omega arith)
  sets_left s from (suc n) unit few low high =
      let s' : Core = (commands_left s from covers).core in
      grind (arith, nat_tests, sets_left s' (from + 1) n unit, sets_before s' (from + 1) n from, other_set s from unit, length-set s.sets from (set_staying covers (set_at s from)), get_or-set_same s.sets from (set_staying covers (set_at s from)) (opened 0))

  -- ---- the live commands

  -- a covered command of one of the units has the ticket
  abbrev pub gone_in : Core → List ℕ → ℕ → Bool
  gone_in s units ticket = list_any (λ unit. is_gone covers (set_at s unit) ticket) units

  pub live_staying : (s : Core) (from n : ℕ) → (all_commands_left s (range_with_len from n) covers).core.live ≡ filter (λ l. not (gone_in s (range_with_len from n) l.ticket)) s.live
  live_staying s from zero = sym (filter-true s.live)
  live_staying s from (suc n) =
      let s' : Core = (commands_left s from covers).core in
      rw (live_staying s' (from + 1) n, filter-twice) (filter-same _ _ s.live (λ l.
      rw (any_in_range (λ unit. is_gone covers (set_at s' unit) l.ticket) (λ unit. is_gone covers (set_at s unit) l.ticket) (from + 1) n (λ unit low high. rw (other_set s from unit (omega arith))))
      (grind arith)))

  -- ---- the effects

  pub effects_leaving : (s : Core) (from n : ℕ) → (all_commands_left s (range_with_len from n) covers).effects ≡ flat_map (λ unit. leave_each unit (covered_tickets covers (set_at s unit).list)) (range_with_len from n)
  effects_leaving s from zero = refl
  effects_leaving s from (suc n) =
      ap (λ es. leave_each from (covered_tickets covers (set_at s from).list) ++ es)
      (effects_leaving (commands_left s from covers).core (from + 1) n ∙ flat_map_in_range _ _ (from + 1) n (λ unit low high. rw (other_set s from unit (omega arith))))

  -- ---- the numbered commands

  pub unfinished_left : (s : Core) (units : List ℕ) → s.window.unfinished ≡ count_by is_numbered s.live → (all_commands_left s units covers).core.window.unfinished ≡ count_by is_numbered (all_commands_left s units covers).core.live
  unfinished_left s [] counted = counted
  unfinished_left s (unit ∷ units) counted = unfinished_left (commands_left s unit covers).core units (omega (arith, counted))

-- ---- what the closing marks come to

module _ (o : Setting) (t : Trace) (a : Arrival) where
  -- whether the session closes
  abbrev ends : Option ℕ → Bool
  ends None = true
  ends (Some closing) = is_last_open o t closing

  -- whether this connection is the one that closes
  abbrev hits : Option ℕ → ℕ → Bool
  hits None c = false
  hits (Some closing) c = closing == c

  -- what closes is shown
  abbrev closes_shown : Option ℕ → List Effect
  closes_shown None = CloseSession ∷ []
  closes_shown (Some closing) = CloseConn closing ∷ cond (is_last_open o t closing) (CloseSession ∷ []) []

  closing_shown : (before : Trace) (x : Option ℕ) → flat_map (effects_of_mark o before) (closing_marks o t a x) ≡ Send (connection_of a.request) (stat_sn_of o before (connection_of a.request)) (Logout (itt a.request) 0) ∷ closes_shown x
  closing_shown before x = grind arith

-- ---- what is open afterwards

none_stay : (cids : List ℕ) → still_open None cids ≡ []
none_stay [] = refl
none_stay (c ∷ cids) = none_stay cids

-- ---- the covered commands

covers_asked : (o : Setting) (scope : Option ℕ) (c : Command) → is_covered (cover_of scope) (task_of o c) ≡ is_asked scope (connection_of c.arrival.request)
covers_asked o scope c = grind arith

-- ---- a connection or the session is closed

module _ (o : Setting) (s : Core) (t : Trace) (m : Mark) (e : Effect) (a : Arrival) (b : Begun o s t m e a) (scope : Option ℕ) where
  abbrev t₁ : Trace
  t₁ = (m ∷ []) ∷ t

  abbrev covers : Task → Bool
  covers = is_covered (cover_of scope)

  -- a command of one of these connections
  abbrev asked : Command → Bool
  asked c = is_asked scope (connection_of c.arrival.request)

  abbrev cs : List Command
  cs = filter asked (live_of_units o t₁)

  abbrev hs : List Arrival
  hs = taken_requests o t₁ scope

  abbrev rest : List Mark
  rest = closing_marks o t₁ a scope

  abbrev marks : List Mark
  marks = (map Leaves cs ++ map Empties hs) ++ rest

  abbrev item : List Mark
  item = m ∷ marks

  grouped : marks ≡ map Leaves cs ++ (map Empties hs ++ rest)
  grouped = append_assoc (map Leaves cs) (map Empties hs) rest

  abbrev conn : ℕ
  conn = connection_of a.request

  abbrev left : Core
  left = (all_commands_left s (range_with_len 0 (length s.sets)) covers).core

  k : Keeps s left
  k = left_keeps s (range_with_len 0 (length s.sets)) covers

  -- ---- the commands that leave

  -- the tickets that leave
  abbrev out : ℕ → Bool
  out n = is_among n (filter asked (live t))

  abbrev goes : ℕ → Command → Bool
  goes n c = asked c && (c.ticket == n)

  regular : list_all (λ c. nat_lt c.unit o.units) (live t) ≡ true
  regular = units_live o s.live s.entered t b.lasts.commands

  out_is : (n : ℕ) → out n ≡ list_any (goes n) (live t)
  out_is n = any_filter (λ (c : Command). c.ticket == n) asked (live t)

  -- the commands are those of before the mark
  units_are : live_of_units o t₁ ≡ live_of_units o t
  units_are = rw (live-untouched (m ∷ []) t (record { enters_none = rw b.enters_no; leaves_no = λ n. rw (b.leaves_no n) }))

  leaves : LeavesSome item out
  leaves =
      let quiet_rest : Untouched rest = untouched-closing o t₁ a scope in
      record {
        enters_none = rw (b.enters_no, filter_map-append enters (map Leaves cs ++ map Empties hs) rest, enters_only cs (map Empties hs), (untouched-emptied hs).enters_none, quiet_rest.enters_none);
        some = λ n. rw (b.leaves_no n, grouped, leaves_only cs (map Empties hs ++ rest) n, emptied_any (leaves_ticket n) hs rest (λ h. refl), quiet_rest.leaves_no n, or_false, units_are, out_is n, any_filter (λ (c : Command). c.ticket == n) asked (live_of_units o t), any_flat_map)
            (any_in_units (goes n) o.units (live t) regular);
      }

  covered_are : (unit : ℕ) → filter (λ c. covers (task_of o c)) (live_in unit t) ≡ filter asked (live_in unit t)
  covered_are unit = filter-same _ _ (live_in unit t) (covers_asked o scope)

  -- the covered ones of the sets have these tickets
  gone_is : (n : ℕ) → gone_in covers s (range_with_len 0 (length s.sets)) n ≡ out n
  gone_is n =
      rw (b.lasts.sets.units, out_is n) (any_in_range _ (λ unit. list_any (goes n) (live_in unit t)) 0 o.units
      (λ unit low high. rw (gone_tickets o t (set_at s unit) unit (b.lasts.sets.lists unit (omega arith)) covers n, covered_are unit) (any_filter (λ (c : Command). c.ticket == n) asked (live_in unit t)))
      ∙ any_in_units (goes n) o.units (live t) regular)

  commands : CommandsAgree o left.live s.entered (item ∷ t)
  commands =
      simp (live_staying covers s 0 (length s.sets), gone_is) (CommandsAgree-left o s.live s.entered t item out b.lasts.commands leaves
      (λ n late. unamong-filter asked n (live t) (unamong-filter _ n (entered t) (b.lasts.commands.fresh n late))))

  -- the effects of leaving
  leaving : (all_commands_left s (range_with_len 0 (length s.sets)) covers).effects ≡ map (λ (c : Command). Leave c.ticket c.unit) cs
  leaving =
      rw (effects_leaving covers s 0 (length s.sets), b.lasts.sets.units, units_are, filter-flat_map, map-flat_map) (flat_map_in_range _ _ 0 o.units
      (λ unit low high. rw (leaving_shown o t (set_at s unit) unit (b.lasts.sets.lists unit (omega arith)) covers, covered_are unit)))

  -- ---- the sets

  -- the commands of a unit that stay
  stay_in : (unit : ℕ) → live_in unit (item ∷ t) ≡ filter (λ c. not (covers (task_of o c))) (live_in unit t)
  stay_in unit =
      let decides : Command → Bool = λ c. alike (is_among c.ticket (filter asked (live t))) (asked c) in
      live_in-left item t out unit leaves
      ∙ filter_all _ _ decides (live_in unit t) (list_all-filter (λ (c : Command). c.unit == unit) decides (live t) (among_passing asked (live t) b.lasts.commands.apart))
      (λ c h. rw (alike_same (is_among c.ticket (filter asked (live t))) (asked c) h, covers_asked o scope c))

  set_after : (unit : ℕ) → unit < o.units → SetLeft o t item unit (set_at s unit) (set_staying covers (set_at s unit))
  set_after unit inside = set_left o t item unit (set_at s unit) covers (b.lasts.sets.lists unit inside) (stay_in unit)

  units_same : length left.sets ≡ o.units
  units_same = k.units ∙ b.lasts.sets.units

  set_is : (unit : ℕ) → unit < o.units → set_at left unit ≡ set_staying covers (set_at s unit)
  set_is unit inside = sets_left covers s 0 (length s.sets) unit (omega arith) (omega arith) (omega (arith, b.lasts.sets.units))

  enabling : flat_map (λ unit. enable_effects unit (set_at left unit).list) (range_with_len 0 (length left.sets)) ≡ enables (newly_enabled o t item)
  enabling = rw (units_same, map-flat_map) (flat_map_in_range _ _ 0 o.units (λ unit low high. rw (set_is unit (omega arith)) (set_after unit (omega arith)).effects))

  -- ---- the window

  before : WindowAgrees o s.window t₁
  before = b.window [] quiet_none

  -- ---- the connections

  abbrev cids : List ℕ
  cids = map (λ (c : ℕ × ℕ). c.0) o.conns

  -- none stays open but for the one that closes
  last_open : (closing : ℕ) → is_nil (still_open (Some closing) s.open_conns) ≡ is_last_open o t₁ closing
  last_open closing =
      rw (b.lasts.open_conns, filter-twice, last_is o t closing o.conns (λ c known. known)) (list_all-same _ _ o.conns (λ d. rw (closed-same d.0 (m ∷ []) t b.closes_no)))

  closes_are : (x : Option ℕ) → elim x [ Some conn ↦ CloseConn conn ∷ [] | None ↦ [] ] ++ session_closes (still_open x s.open_conns) ≡ closes_shown o t₁ a x
  closes_are x = grind (arith, nat_tests, none_stay, last_open)

  -- what the item closes, the closing marks do
  closes : (test : Mark → Bool) → (test m || false) ≡ false → ((c : Command) → test (Leaves c) ≡ false) → ((h : Arrival) → test (Empties h) ≡ false) → has test (item ∷ t) ≡ (list_any test rest || has test t)
  closes test no_first no_leave no_empty = rw (sym (or_false (test m)) ∙ no_first, grouped, left_any test cs (map Empties hs ++ rest) no_leave, emptied_any test hs rest no_empty)

  abbrev opens : Option ℕ → ℕ → Bool
  opens x c = is_known c o.conns && not ((ends o t₁ a x || is_ended t) || (hits o t₁ a x c || has (closes_conn c) t))

  open_after : open_of o (item ∷ t) ≡ filter (opens scope) cids
  open_after = filter-same _ _ cids (λ c.
      rw (closes closes_session b.closes_no.session (λ d. refl) (λ h. refl), closes (closes_conn c) (b.closes_no.conns c) (λ d. refl) (λ h. refl)) (grind arith))

  stays_open : (x : Option ℕ) → still_open x (open_of o t) ≡ filter (opens x) cids
  stays_open None = rw none_stay (sym (filter-none (opens None) cids (λ c. and_false (is_known c o.conns))))
  stays_open (Some closing) =
      ⊎_elim (λ (is : is_last_open o t₁ closing ≡ true). grind (arith, nat_tests, nil_is, last_open, filter-none, and_false))
      (λ (is : is_last_open o t₁ closing ≡ false). rw filter-twice (filter-same _ _ cids (λ c. grind (arith, is, eq_sym closing c))))
      (cases_Bool (is_last_open o t₁ closing))

  -- ---- what waits still

  still_all : (test : Waiting → Bool) → list_all test s.waiting ≡ true → list_all test (logged_out s a.request scope).core.waiting ≡ true
  still_all test h = rw k.same (grind (arith, list_all-filter (λ w. not (is_asked scope (connection_of w.request))) test s.waiting h))

  -- ---- the whole

  agrees : Agrees o (logged_out s a.request scope).core (item ∷ t)
  agrees =
      let waits : waiting_through marks (waiting_by m (waiting t)) ≡ map (arrival_waiting o.first) (logged_out s a.request scope).core.waiting = rw (b.waits.list, append_assoc, left_waits, emptied_waits, k.same) (grind (arith, nat_tests, none_stay, last_open, filter-map)) in record {
        lasts = record {
          events = rw k.same b.lasts.events;
          depth = rw k.same b.lasts.depth;
          level = rw k.same b.lasts.level;
          commands = rw k.same commands;
          sets = record {
            units = length-map left.sets all_given ∙ units_same;
            lists = λ unit inside. rw (get_or-map all_given left.sets unit (opened 0), set_is unit inside) (set_after unit inside).given;
          };
          unfinished = rw (unfinished_left covers s (range_with_len 0 (length s.sets)) (b.lasts.unfinished ∙ sym (numbered_live o s.live s.entered t b.lasts.commands))) (numbered_live o left.live s.entered (item ∷ t) commands);
          enabled = EnabledSoFar-left o item t out leaves (units_live o left.live s.entered (item ∷ t) commands) b.lasts.enabled;
          open_conns = rw (k.same, b.lasts.open_conns, open_after) (stays_open scope);
        };
        window = WindowAgrees-logged_out o left.window t m scope cs rest (rw k.same (WindowAgrees-fewer o s.window t₁ left.window.unfinished k.unfinished before)) (quiet-closing o t₁ a scope);
        replies = rw k.same (RepliesAgree-sent o s.conns t item conn (rw (b.sends_no, grouped, left_sends, emptied_sends) (grind arith)) b.known b.replies);
        waiting = record { list = waits; may = still_all (λ w. may_wait w.request) b.waits.may; known = still_all (λ w. is_known (connection_of w.request) o.conns) b.waits.known };
      }

  showing : e ∷ (logged_out s a.request scope).effects ≡ effects_of_item o t item
  showing = rw k.same (simp (leaving, emptied_from-is o s.window t₁ scope before, b.replies.stat_sns conn b.known, closes_are scope, enabling, b.shows, append_assoc, left_shown, emptied_shown, closing_shown o t₁ a t scope))

-- ---- what a Logout Request does

module _ (o : Setting) (s : Core) (t : Trace) (m : Mark) (e : Effect) (a : Arrival) (b : Begun o s t m e a) where
  abbrev began : Trace
  began = (m ∷ []) ∷ t

  pub session_ends : Follows o t (m ∷ end_session o began a) (after_effect e (logged_out s a.request None))
  session_ends = rw (append_assoc (taken_out o began (λ conn. true)) (parting a 0) (ClosesSession ∷ [])) (agrees o s t m e a b None, showing o s t m e a b None)

  pub conn_closes : (closing : ℕ) → Follows o t (m ∷ close_conn o began a closing) (after_effect e (logged_out s a.request (Some closing)))
  conn_closes closing =
      rw (append_assoc (taken_out o began (λ conn. conn == closing)) (parting a 0) (ClosesConn closing ∷ cond (is_last_open o began closing) (ClosesSession ∷ []) []))
      (agrees o s t m e a b (Some closing), showing o s t m e a b (Some closing))

  -- the session knows whether the connection is open
  pub open_same : (c : ℕ) → is_among_open c s.open_conns ≡ is_open o began c
  open_same c = rw (b.lasts.open_conns, filtered_among (is_open o t) c (map (λ (d : ℕ × ℕ). d.0) o.conns), list_any-map (λ d. d == c) (λ (d : ℕ × ℕ). d.0) o.conns, closed-same c (m ∷ []) t b.closes_no) (grind arith)
