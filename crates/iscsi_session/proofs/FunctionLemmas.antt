-- A request executes, whatever it does: at its turn, at its arrival, or once it has waited.
use Rattle.iscsi_session.proofs.Names.{⊎_elim, ◌≡◌, ℕ, ◌+◌, ◌==◌, ◌&&◌, Bool, true, false, [], ◌∷◌, Option, Some, None, option_map, refl, ap, sym, ◌∙◌, arith, ℤ, pos, ◌-ℤ◌, ◌-◌, ◌<◌, ◌≤◌, not, cond, nat_lt, List, ◌++◌, map, filter, subst, list_any, list_all, filter_map, flat_map, Request, wire, lift, number_of_first, function, itt, rtt, cid, cmd_sn, connection_of, is_immediate, opcode, ref_cmd_sn, number_expected, find_held, number_shown, room_of, at_place, with_place, turned_on, advanced_if, Live, Effect, Setting, is_known, Arrival, Command, Mark, Trace, live, live_in, Executes, Delivers, Voids, Empties, Waits, Leaves, admits_at, contains, is_received, held, waiting, waiting_by, waiting_through, sent_on, unit_named, exp_of, max_of, reply_of, live_with_tag, held_command, may_wait, waiting_on, answer, is_before, refusal, Facts, function_deed, deed_of, of_unit, facts_of, if_found, deed_marks, Core, kept, member_of, CommandsAgree, SetsAgree, task_of, WindowAgrees, arrival_waiting, WaitingAgrees, Agrees, Settled, facts_by, refusal_by, deed_by, waits_by, arrival_by, Fits, position_by, carried, executed, turn_taken, next_waiting, next_position, function_taken, immediate_taken, and_true, and_parts, list_any-map, any_filter, any_same, count_by-map, list_all-filter, find-passes, find-found, filter-map, Untouched, live_in-untouched, newly-untouched, named_below, never_waits, nat_tests, cases_Bool, false≢true, eqb-true, append-nil, map-append, length-map, list_all-append, filter_map-append, HeldRequest, is_covered, Deliver, Immediate, Waiting, arrival_of, execution, waiting_item, immediate_item, item_of, function_item, effects_of_mark, filter-same, IsQuiet, received-quiet, held-quiet, held-number, admitted_of_held, ClosesNone, closes-more, no_abort_task, may_immediate, position_eq, position_lt, wire-lift, quiet_executes, TaskReply, AllOfThem, Below, Answer, Respond, Deed, Nothing, Wait, Enter, Void, Empty, Abort, AbortEarlier, AbortAll, CloseConn, CloseSession, is_immediate_on, count_reply, and_then, after_effect, waiting_in, replied, number_by, event_by, covers_ticket, apart-filter, ticket_alone}
use Rattle.iscsi_rules.specs.declared.deed.Deed.TheVariants.{Reply}
use Rattle.iscsi_session.proofs.AgreeLemmas.{CommandsAgree-untouched, SetsAgree-untouched, RepliesAgree-sent, settled_expected, settled_max, Agrees-untouched, Agrees-waits}
use Rattle.iscsi_session.proofs.FindLemmas.{tagged_in-is, Found, numbered_deed, Found-arrived, Found-turned}
use Rattle.iscsi_session.proofs.ExecutionLemmas.{Begun, untouched-begun, Follows, nothing_more, answered, enters_unit, covered_in, leaving-item, turned_core, numbered_held, turn-begun}
use Rattle.iscsi_session.proofs.LogoutLemmas.{open_same, session_ends, conn_closes}
use Rattle.iscsi_session.proofs.WindowLemmas.{Next, Turned, WindowAgrees-quiet, inside_bounds, WindowAgrees-voided, WindowAgrees-emptied, VoidedAt, voided_at, emptied_at}
use Rattle.iscsi_session.proofs.DeedLemmas.{fits_deed, fits_function, is_of_number, missing_parts, is_whole, whole_function, immediate_is}

-- ==== a session finds what the definitions find, and so it does what they say

-- ---- facts that are alike

-- but for what ABORT TASK alone asks, and a function that may wait
pub record Alike (f g : Facts) : Type 0 where
  pub level : f.level ≡ g.level
  pub unit : f.unit ≡ g.unit
  pub is_used : f.is_used ≡ g.is_used
  pub is_crowded : f.is_crowded ≡ g.is_crowded
  pub is_full : f.is_full ≡ g.is_full
  pub has_commands : f.has_commands ≡ g.has_commands
  pub live : f.live ≡ g.live
  pub is_open : f.is_open ≡ g.is_open

pub record Finds (f g : Facts) : Type 0 where
  pub held : f.held ≡ g.held
  pub is_missing : f.is_missing ≡ g.is_missing

pub function_alike : (f g : Facts) (r : Request) → Alike f g → ((function r == 1) ≡ true → Finds f g) → function_deed f r ≡ function_deed g r
function_alike f g r a finds = grind (arith, nat_tests, finds)

pub deed_alike : (f g : Facts) (r : Request) → Alike f g → ((function r == 1) ≡ true → Finds f g) → deed_of f r ≡ deed_of g r
deed_alike f g r a finds = grind (arith, nat_tests, function_alike, finds)

-- ---- those of a unit

of_unit-same : {A : Type 0} (x : Option ℕ) (none : A) (p q : ℕ → A) → ((unit : ℕ) → x ≡ Some unit → p unit ≡ q unit) → of_unit x none p ≡ of_unit x none q
of_unit-same x none p q same = grind (arith, nat_tests)

-- ---- what begins to execute

-- a mark that leaves all but the window, beside the function's answer
record IsMute (a : Arrival) (x : Mark) : Type 0 where
  untouched : Untouched (x ∷ answer a 0)
  closes : ClosesNone (x ∷ answer a 0)
  sends : filter_map sent_on (x ∷ answer a 0) ≡ connection_of a.request ∷ []
  admits : (n : ℕ) → filter_map (admits_at n) (x ∷ answer a 0) ≡ []
  waits : (ws : List Arrival) → waiting_through (x ∷ answer a 0) ws ≡ ws

-- where a function voids or empties a number, its window agrees before it
record Windowed (o : Setting) (s : Core) (t : Trace) (m : Mark) : Type 0 where
  window : WindowAgrees o s.window t
  quiet : IsQuiet (m ∷ [])

module _ (o : Setting) (s : Core) (t : Trace) (m : Mark) (e : Effect) (a : Arrival) (b : Begun o s t m e a) where
  abbrev t₁ : Trace
  t₁ = (m ∷ []) ∷ t

  untouched : Untouched (m ∷ [])
  untouched = untouched-begun o s t m e a b [] (search)

  pub commands : CommandsAgree o s.live s.entered t₁
  commands = CommandsAgree-untouched o s.live s.entered t (m ∷ []) untouched b.lasts.commands

  sets : SetsAgree o s.sets t₁
  sets = SetsAgree-untouched o s.sets t (m ∷ []) untouched b.lasts.sets

  -- a live command passes
  asked : (p : Command → Bool) (q : Live → Bool) → ((c : Command) → q (kept c) ≡ p c) → list_any q s.live ≡ list_any p (live t₁)
  asked p q same = rw (commands.commands, list_any-map) (any_same (λ c. q (kept c)) p (live t₁) same)

  alike : Alike (facts_of o t₁ a) (facts_by s a.request)
  alike = record {
    level = sym b.lasts.level;
    unit = rw b.lasts.sets.units;
    is_used = sym (asked (λ c. itt c.arrival.request == itt a.request) (λ l. l.itt == itt a.request) (λ c. refl));
    is_crowded = cc (commands.commands, count_by-map (is_immediate_on (connection_of a.request)) kept (live t₁));
    is_full = rw b.lasts.sets.units (of_unit-same (unit_named o.units a.request) false _ _ (λ unit is. cc (b.lasts.depth, sets.lists unit (named_below o.units a.request unit is), length-map (live_in unit t₁) (member_of o t₁))));
    has_commands = rw b.lasts.sets.units (of_unit-same (unit_named o.units a.request) false _ _ (λ unit is. rw (any_filter, asked (λ c. c.unit == unit && true) (λ l. l.unit == unit) (λ c. sym (and_true (c.unit == unit))))));
    live = rw b.lasts.sets.units (of_unit-same (unit_named o.units a.request) None _ _ (λ unit is. grind (arith, nat_tests, tagged_in-is s t₁ (rtt a.request) unit commands.commands)));
    is_open = sym (open_same o s t m e a b (cid a.request));
  }

  finds : Found o s t₁ a → Finds (facts_of o t₁ a) (facts_by s a.request)
  finds x = record {
    held = rw b.lasts.sets.units (of_unit-same (unit_named o.units a.request) None _ _ (λ unit is. grind (arith, nat_tests, x.held_same unit (named_below o.units a.request unit is))));
    is_missing = x.missing_same;
  }

  -- what the session does is what the definitions say
  pub deed_is : ((function a.request == 1) ≡ true → Found o s t₁ a) → deed_of (facts_of o t₁ a) a.request ≡ deed_of (facts_by s a.request) a.request
  deed_is found = deed_alike _ _ a.request alike (λ one. finds (found one))

  pub function_is : ((function a.request == 1) ≡ true → Found o s t₁ a) → function_deed (facts_of o t₁ a) a.request ≡ function_deed (facts_by s a.request) a.request
  function_is found = function_alike _ _ a.request alike (λ one. finds (found one))

  -- ---- a number is voided, or a held request is taken out

  same_live : (unit : ℕ) → live_in unit t₁ ≡ live_in unit t
  same_live unit = live_in-untouched (m ∷ []) t untouched unit

  abbrev n : ℕ
  n = lift (number_expected s.window) (ref_cmd_sn a.request)

  -- the number of a place is taken out of the window or put into it, and the function is answered
  windowed : (k : ℕ) (x : Mark) → Windowed o s t m → WindowAgrees o (with_place s.window k (Some None)) ((m ∷ x ∷ answer a 0) ∷ t) → IsMute a x
      → Follows o t (m ∷ x ∷ answer a 0) (after_effect e (and_then (record { core = record s { window = with_place s.window k (Some None) }; effects = effects_of_mark o t x }) (λ s'. replied s' (connection_of a.request) (reply_of a.request (Respond 0)))))
  windowed k x before window mute =
      let conn : ℕ = connection_of a.request in
      let ms : List Mark = x ∷ answer a 0 in
      let item : List Mark = m ∷ ms in
      let u : Untouched item = untouched-begun o s t m e a b ms mute.untouched in
      let admits : (n : ℕ) → filter_map (admits_at n) item ≡ [] = λ n. filter_map-append (admits_at n) (m ∷ []) ms ∙ rw (before.quiet.admits n) (mute.admits n) in (
        Agrees-untouched o s t item (with_place s.window k (Some None)) (count_reply conn s.conns) s.waiting u (closes-more m ms b.closes_no mute.closes) b.lasts refl window (RepliesAgree-sent o s.conns t item conn (rw b.sends_no mute.sends) b.known b.replies)
            (record { list = mute.waits (waiting_by m (waiting t)) ∙ b.waits.list; may = b.waits.may; known = b.waits.known }),
        rw (newly-untouched o t item u, append-nil (flat_map (effects_of_mark o t) item), b.shows, b.replies.stat_sns conn b.known),
      )

  -- ---- what it does

  abbrev Does : ℤ → ℕ → Deed → Type 0
  Does position event d = Follows o t (m ∷ deed_marks o t₁ a d) (after_effect e (carried s a.request position event d))

  void_number : (position : ℤ) (event : ℕ) → Fits s a.request Void → Found o s t₁ a → Windowed o s t m → Does position event Void
  void_number position event fits x before =
      let parts = missing_parts s a.request fits in
      let bounds : (number_expected s.window ≤ n) × (n < number_expected s.window + room_of s.window) = inside_bounds s.window (ref_cmd_sn a.request) parts.1 in
      let marks : deed_marks o t₁ a Void ≡ cond (is_received t₁ n) [] (Voids n ∷ []) ++ answer a 0 =
      ap (λ k. cond (is_received t₁ (lift k (ref_cmd_sn a.request))) [] (Voids (lift k (ref_cmd_sn a.request)) ∷ []) ++ answer a 0) (x.expected_is parts.0) in
      let same : is_received t₁ n ≡ is_received t n = ap (λ ns. contains ns n) (received-quiet (m ∷ []) t before.quiet) in
      let v : VoidedAt s.window t (ref_cmd_sn a.request) n = voided_at o s.window t (ref_cmd_sn a.request) n before.window bounds.0 bounds.1 refl in
      subst (λ ms. Follows o t (m ∷ ms) (after_effect e (carried s a.request position event Void))) (sym marks) (⊎_elim
      (λ (there : is_received t n ≡ true). rw (v.known there, v.received_is, same, there) (answered o s t m e a b (TaskReply (itt a.request) 0)))
      (λ (gone : is_received t n ≡ false). rw (v.new gone, v.received_is, same, gone, ← wire-lift (number_expected s.window) (ref_cmd_sn a.request))
      (windowed (n - number_expected s.window) (Voids n) before (WindowAgrees-voided o s.window t m n (answer a 0) before.window before.quiet (search) bounds.0 bounds.1 gone) (search)))
      (cases_Bool (is_received t n)))

  empty_number : (position : ℤ) (event unit sn : ℕ) → Fits s a.request (Empty unit sn) → Found o s t₁ a → Windowed o s t m → Does position event (Empty unit sn)
  empty_number position event unit sn fits x before = by_found (held_command o t₁ (rtt a.request) unit a.number) (find_held s.window (rtt a.request) unit (cmd_sn a.request)) refl refl (x.held_same unit (omega (arith, fits.0, b.lasts.sets.units)))
    where
      by_found : (y : Option Arrival) (k : Option ℕ) → held_command o t₁ (rtt a.request) unit a.number ≡ y → find_held s.window (rtt a.request) unit (cmd_sn a.request) ≡ k
          → option_map (λ (h : Arrival). h.number) y ≡ option_map (λ i. number_expected s.window + i) k
          → Follows o t (m ∷ (if_found Empties y ++ answer a 0)) (after_effect e (carried s a.request position event (Empty unit sn)))
      by_found y None is at same = absurd (let none : None ≡ Some sn = sym (ap (option_map (number_shown s.window)) at) ∙ fits.1 in cc)
      by_found None (Some k) is at same = absurd cc
      by_found (Some h) (Some k) is at same =
          let number : h.number ≡ number_expected s.window + k = cc in
          let shown : wire (number_expected s.window + k) ≡ sn = let z : Some (wire (number_expected s.window + k)) ≡ Some sn = sym (ap (option_map (number_shown s.window)) at) ∙ fits.1 in cc in
          let inside = x.held_inside unit h is in
          let held_is : held t h.number ≡ Some h = sym (held-quiet (m ∷ []) t h.number before.quiet) ∙ inside.0 in
          rw (← shown, ← number, emptied_at o s.window t h.number h before.window inside.3 held_is inside.1 inside.2)
          (windowed (h.number - number_expected s.window) (Empties h) before (WindowAgrees-emptied o s.window t m h.number h (answer a 0) before.window before.quiet (search) held_is inside.1 inside.2) (search))

  -- the command of a unit with the tag leaves
  abort_one : (position : ℤ) (event unit ticket : ℕ) → Fits s a.request (Abort unit ticket) → Does position event (Abort unit ticket)
  abort_one position event unit ticket fits =
      by_live (live_with_tag t₁ (rtt a.request) unit) refl (sym (ap (option_map (λ (l : Live). l.ticket)) (tagged_in-is s t₁ (rtt a.request) unit commands.commands)) ∙ fits.1)
    where
      by_live : (x : Option Command) → live_with_tag t₁ (rtt a.request) unit ≡ x → option_map (λ (l : Live). l.ticket) (option_map kept x) ≡ Some ticket
          → Follows o t (m ∷ (if_found Leaves x ++ answer a 0)) (after_effect e (carried s a.request position event (Abort unit ticket)))
      by_live None is none = absurd cc
      by_live (Some c) is this =
          let ticket_is : c.ticket ≡ ticket = cc in
          let one = (ticket_alone (λ d. itt d.arrival.request == rtt a.request) (live_in unit t₁) c (apart-filter (λ d. d.unit == unit) (live t₁) commands.apart) is).0 in
          let gone : covered_in o t unit (covers_ticket ticket) ≡ c ∷ [] = rw (← ticket_is, ← same_live unit) one in
          rw gone at (leaving-item o s t m e a b unit (omega (arith, fits.0, b.lasts.sets.units)) (covers_ticket ticket))

  -- what is known where a request does this
  abbrev Meets : Deed → Type 0
  Meets (Enter unit) = (number_by s a.request ≡ a.number) × (event_by s a.request ≡ cond (is_immediate a.request) a.event 0)
  Meets Void = Found o s t₁ a × Windowed o s t m
  Meets (Empty unit sn) = Found o s t₁ a × Windowed o s t m
  Meets _ = Unit {0}

  does : (position : ℤ) (event : ℕ) → position ≡ pos a.number -ℤ pos (number_of_first o.first) → event ≡ a.event → (d : Deed) → Fits s a.request d → Meets d → Does position event d
  does position event position_is event_is Nothing fits k = nothing_more o s t m e a b
  does position event position_is event_is Wait fits k = nothing_more o s t m e a b
  does position event position_is event_is (Reply x) fits k = answered o s t m e a b (reply_of a.request x)
  does position event position_is event_is (Enter unit) fits k = enters_unit o s t m e a b k.0 k.1 unit (omega (arith, fits.0, b.lasts.sets.units))
  does position event position_is event_is Void fits k = void_number position event fits k.0 k.1
  does position event position_is event_is (Empty unit sn) fits k = empty_number position event unit sn fits k.0 k.1
  does position event position_is event_is (Abort unit ticket) fits k = abort_one position event unit ticket fits
  does position event position_is event_is (AbortEarlier unit) fits k =
      let inside : unit < o.units = omega (arith, fits, b.lasts.sets.units) in
      let before : filter (is_before a) (live_in unit t₁) ≡ covered_in o t unit (is_covered (Below position event)) =
      rw (position_is, event_is, same_live unit) (filter-same (is_before a) (λ c. is_covered (Below (pos a.number -ℤ pos (number_of_first o.first)) a.event) (task_of o c)) (live_in unit t) (λ c. grind (arith, position_lt, position_eq))) in
      rw before (leaving-item o s t m e a b unit inside (is_covered (Below position event)))
  does position event position_is event_is (AbortAll unit) fits k =
      rw (same_live unit) (leaving-item o s t m e a b unit (omega (arith, fits, b.lasts.sets.units)) (is_covered AllOfThem))
  does position event position_is event_is (CloseConn closing) fits k = conn_closes o s t m e a b closing
  does position event position_is event_is CloseSession fits k = session_ends o s t m e a b

-- ==== a request executes, whatever it does

-- what is known of a request that begins to execute meets what it does
meets : (o : Setting) (s : Core) (t : Trace) (m : Mark) (e : Effect) (a : Arrival) (b : Begun o s t m e a) → number_by s a.request ≡ a.number → event_by s a.request ≡ cond (is_immediate a.request) a.event 0 → Found o s ((m ∷ []) ∷ t) a → (d : Deed)
    → (is_of_number d ≡ true → Windowed o s t m) → Meets o s t m e a b d
meets o s t m e a b number_is event_is x d w = grind (arith, nat_tests)

-- a request of any kind executes
executes : (o : Setting) (s : Core) (t : Trace) (m : Mark) (e : Effect) (a : Arrival) (event : ℕ) → Begun o s t m e a → number_by s a.request ≡ a.number → event_by s a.request ≡ cond (is_immediate a.request) a.event 0 → event ≡ a.event → Found o s ((m ∷ []) ∷ t) a
    → (is_of_number (deed_by s a.request) ≡ true → Windowed o s t m) → Follows o t (execution o t m a) (after_effect e (executed s a.request event))
executes o s t m e a event b number_is event_is now x w =
    let d : Deed = deed_by s a.request in
    let done = does o s t m e a b (position_by s a.request) event (rw (number_is, b.first)) now d (fits_deed s a.request) (meets o s t m e a b number_is event_is x d w) in
    let is : execution o t m a ≡ m ∷ deed_marks o ((m ∷ []) ∷ t) a d = ap (λ d. m ∷ deed_marks o ((m ∷ []) ∷ t) a d) (deed_is o s t m e a b (λ one. x)) in
    subst (λ item. Follows o t item (after_effect e (executed s a.request event))) (sym is) done

-- ---- at its turn

pub turned-item : (o : Setting) (s : Core) (t : Trace) (r : HeldRequest) → Agrees o s t → at_place s.window 0 ≡ Some (Some r) → (x : Next s.window t r)
    → Follows o t (item_of o t x.arrival) (turn_taken s (Some (Some r)))
turned-item o s t r h place x =
    let a : Arrival = x.arrival in
    let b = turn-begun o s t r h place x in
    let number : a.number ≡ number_expected s.window = held-number t (number_expected s.window) a x.held_is in
    let numbered : is_immediate a.request ≡ false = numbered_held o s t r h x in
    let same : number_by (turned_core s) a.request ≡ a.number = rw numbered (omega (arith, number)) in
    let shows = (h.window.requests (number_expected s.window) a (admitted_of_held t (number_expected s.window) a x.held_is)).shows ∙ ap wire (sym number) in
    let next : a.number + 1 ≡ number_expected (turned_on s.window) = omega (arith, number) in
    let never = numbered_deed (turned_core s) a.request a.number (deed_by (turned_core s) a.request) numbered next shows (fits_deed (turned_core s) a.request) in
    subst (λ p. Follows o t (item_of o t a) (after_effect (Deliver r.request) (executed (record s { window = advanced_if s.window p }) r.request r.event))) (sym place)
    (subst (λ (q : HeldRequest). Follows o t (item_of o t a) (after_effect (Deliver q.request) (executed (turned_core s) q.request q.event))) x.request_is
    (executes o (turned_core s) t (Delivers a) (Deliver a.request) a a.event b same (rw numbered) refl (Found-turned o s t r h place x) (λ said. absurd (false≢true (sym never ∙ said)))))

-- ---- an immediate request begins to execute

immediate_begun : (o : Setting) (s : Core) (t : Trace) (a : Arrival) (waits : List Waiting) → Agrees o s t → is_immediate a.request ≡ true → is_known (connection_of a.request) o.conns ≡ true → WaitingAgrees o waits ((Executes a ∷ []) ∷ t)
    → Begun o (record s { waiting = waits }) t (Executes a) (Immediate a.request) a
immediate_begun o s t a waits h immediate known w =
    let window : (ms : List Mark) → IsQuiet ms → WindowAgrees o s.window ((Executes a ∷ ms) ∷ t) = λ ms q. WindowAgrees-quiet o s.window t (Executes a ∷ ms) (quiet_executes a ms q) h.window in
    let room : is_immediate a.request ≡ false → (ms : List Mark) → IsQuiet ms → Turned o s.window ((Executes a ∷ ms) ∷ t) = λ no ms q. absurd (false≢true (sym no ∙ immediate)) in
    search (window, room, known, w)

-- ---- once it has waited

pub waited-item : (o : Setting) (s : Core) (t : Trace) (w : Waiting) → Agrees o s t → next_waiting s ≡ Some w
    → Follows o t (function_item o t (arrival_waiting o.first w)) (function_taken s (Some w))
waited-item o s t w h found =
    let a : Arrival = arrival_waiting o.first w in
    let s' : Core = record s { waiting = filter (λ v. not (v.event == w.event)) s.waiting } in
    let stays : Waiting → Bool = λ v. not (v.event == w.event) in
    let turns : Waiting → Bool = λ v. v.turn == s.window.turned in
    let may : may_wait w.request ≡ true = find-passes turns (λ v. may_wait v.request) s.waiting w h.waiting.may found in
    let known = find-passes turns (λ v. is_known (connection_of v.request) o.conns) s.waiting w h.waiting.known found in
    let b = immediate_begun o s t a (filter stays s.waiting) h (may_immediate w.request may) known (record {
      list = rw h.waiting.list (filter-map (λ (b : Arrival). not (b.event == w.event)) (arrival_waiting o.first) s.waiting);
      may = list_all-filter stays (λ v. may_wait v.request) s.waiting h.waiting.may;
      known = list_all-filter stays (λ v. is_known (connection_of v.request) o.conns) s.waiting h.waiting.known;
    }) in
    let turn : w.turn ≡ s.window.turned = eqb-true w.turn s.window.turned (find-found turns s.waiting w found) in
    let number : number_expected s.window ≡ a.number = omega (arith, h.window.first, turn) in
    let t' : Trace = (Executes a ∷ []) ∷ t in
    let d : Deed = function_deed (facts_by s' w.request) w.request in
    let whole_meets : (d : Deed) → is_whole d ≡ true → Meets o s' t (Executes a) (Immediate a.request) a b d = λ d is. grind (arith, nat_tests, false≢true) in
    let done = does o s' t (Executes a) (Immediate a.request) a b (next_position s) w.event (rw (number, h.window.first)) refl d (fits_function s' w.request) (whole_meets d (whole_function (facts_by s' w.request) w.request may)) in
    let is : function_item o t a ≡ Executes a ∷ deed_marks o t' a d =
    ap (λ x. Executes a ∷ deed_marks o t' a x) (function_is o s' t (Executes a) (Immediate a.request) a b (λ one. absurd (false≢true (sym (no_abort_task w.request may) ∙ one)))) in
    subst (λ item. Follows o t item (function_taken s (Some w))) (sym is) done

-- ---- at its arrival

-- no function that waits arrived in this event
none_of_event : (first index taken : ℕ) (ws : List Waiting) → taken ≡ index + 1 → list_all (λ w. nat_lt (w.event + 1) taken) ws ≡ true → filter (λ b. not (b.event == index)) (map (arrival_waiting first) ws) ≡ map (arrival_waiting first) ws
none_of_event first index taken [] is all = refl
none_of_event first index taken (w ∷ ws) is all = grind (arith, nat_tests, none_of_event first index taken ws is, and_parts)

-- an immediate request of a settled session
module _ (o : Setting) (s : Core) (index : ℕ) (t : Trace) (r : Request) (h : Settled o s t) (immediate : is_immediate r ≡ true) (known : is_known (connection_of r) o.conns ≡ true) (taken : s.taken ≡ index + 1) (waited : list_all (λ w. nat_lt (w.event + 1) s.taken) s.waiting ≡ true) where
  abbrev a : Arrival
  a = arrival_of o index t r

  abbrev Becomes : List Mark → Deed → Type 0
  Becomes item d = Follows o t item (immediate_taken s r d)

  last : s.taken - 1 ≡ index
  last = omega (arith, taken)

  waits : waiting_by (Executes a) (waiting t) ≡ map (arrival_waiting o.first) s.waiting
  waits = rw h.agrees.waiting.list (none_of_event o.first index s.taken s.waiting taken waited)

  begun : Begun o s t (Executes a) (Immediate r) a
  begun = immediate_begun o s t a s.waiting h.agrees immediate known (record { list = waits; may = h.agrees.waiting.may; known = h.agrees.waiting.known })

  found : Found o s ((Executes a ∷ []) ∷ t) a
  found = Found-arrived o s index t r h waits

  -- it does this at once
  becomes_done : (d : Deed) → Fits s r d → (d ≡ Wait → ⊥) → Becomes (Executes a ∷ deed_marks o ((Executes a ∷ []) ∷ t) a d) d
  becomes_done d fits other =
      let now = h.agrees in
      let number : number_by s r ≡ a.number = rw (immediate, settled_expected o s t h) in
      rw (immediate_is s r d other) (does o s t (Executes a) (Immediate r) a begun (position_by s r) (s.taken - 1) (rw (number, now.window.first)) last d fits
      (meets o s t (Executes a) (Immediate r) a begun number (rw (immediate, last)) found d (λ said. record { window = now.window; quiet = quiet_executes a [] (search) })))

  -- it executes
  becomes_now : Becomes (execution o t (Executes a) a) (deed_by s r)
  becomes_now =
      let is : execution o t (Executes a) a ≡ Executes a ∷ deed_marks o ((Executes a ∷ []) ∷ t) a (deed_by s r) =
      ap (λ d. Executes a ∷ deed_marks o ((Executes a ∷ []) ∷ t) a d) (deed_is o s t (Executes a) (Immediate r) a begun (λ one. found)) in
      subst (λ item. Becomes item (deed_by s r)) (sym is) (becomes_done (deed_by s r) (fits_deed s r) (never_waits (facts_by s r) r))

  -- it waits
  becomes_waiting : may_wait r ≡ true → nat_lt (number_expected s.window) (lift (number_expected s.window) (cmd_sn r)) ≡ true → Becomes (Waits a ∷ []) Wait
  becomes_waiting may later =
      let now = h.agrees in
      let ahead : number_expected s.window < lift (number_expected s.window) (cmd_sn r) = grind (arith, nat_tests) in
      let w : Waiting = record { request = r; turn = lift (number_expected s.window) (cmd_sn r) - number_of_first s.window.first; event = s.taken - 1 } in
      let number : number_of_first o.first + w.turn ≡ lift (number_expected s.window) (cmd_sn r) = omega (arith, now.window.first, ahead) in
      let same : arrival_waiting o.first w ≡ a = rw (number, last, settled_expected o s t h) in (
        Agrees-waits o s t (Waits a ∷ []) (s.waiting ++ w ∷ []) (search) (search) (search) refl now (record {
          list = rw (now.waiting.list, map-append, same);
          may = rw (list_all-append, now.waiting.may, may);
          known = rw (list_all-append, now.waiting.known, known);
        }),
        rw (newly-untouched o t (Waits a ∷ []) (search)),
      )

  -- a function that isn't refused, and may wait
  becomes_by_number : may_wait r ≡ true → deed_by s r ≡ function_deed (facts_by s r) r → Becomes (waiting_item o t a) (waits_by s r)
  becomes_by_number may executed =
      let e : ℕ = number_expected s.window in
      let n : ℕ = lift e (cmd_sn r) in
      let number : a.number ≡ n = rw (settled_expected o s t h) in
      let most : max_of o t + 1 ≡ e + room_of s.window = omega (arith, settled_max o s t h, h.agrees.window.few) in
      let far : nat_lt (max_of o t + 1) a.number ≡ nat_lt (e + room_of s.window) n = rw (most, number) in
      let near : nat_lt (exp_of o t) a.number ≡ nat_lt e n = rw (settled_expected o s t h) in
      let many : waiting_on (connection_of r) t ≡ waiting_in s.waiting (connection_of r) =
      rw h.agrees.waiting.list (count_by-map (λ (b : Arrival). connection_of b.request == connection_of r) (arrival_waiting o.first) s.waiting) in
      grind (arith, nat_tests, far, becomes_done, near, becomes_now, many, becomes_waiting)

  pub immediate-item : Follows o t (immediate_item o t (arrival_of o index t r)) (immediate_taken s r (arrival_by s r))
  immediate-item =
      let same : refusal o.level (unit_named o.units r) r ≡ refusal_by s r = ap (λ level. refusal level (unit_named o.units r) r) (sym h.agrees.lasts.level) ∙ ap (λ units. refusal s.level (unit_named units r) r) (sym h.agrees.lasts.sets.units) in
      ⊎_elim
      (λ (is : (opcode r == 0x02 && may_wait r) ≡ true). let parts = and_parts (opcode r == 0x02) (may_wait r) is in rw is (by_refusal parts.0 parts.1 _ (refusal_by s r) refl same))
      (λ (is : (opcode r == 0x02 && may_wait r) ≡ false). rw is becomes_now)
      (cases_Bool (opcode r == 0x02 && may_wait r))
    where
      by_refusal : (opcode r == 0x02) ≡ true → may_wait r ≡ true → (x y : Option Answer) → refusal_by s r ≡ y → x ≡ y
          → Becomes (elim (option_map (reply_of r) x) [ Some reply ↦ execution o t (Executes a) a | None ↦ waiting_item o t a ]) (elim y [ Some z ↦ Reply z | None ↦ waits_by s r ])
      by_refusal is may x y refused equal = grind (arith, nat_tests, becomes_now, becomes_by_number)
