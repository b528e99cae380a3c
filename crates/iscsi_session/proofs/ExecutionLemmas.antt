-- A request executes: it is answered, a command enters, or nothing more happens.
use Rattle.iscsi_session.proofs.Names.{⊎_elim, ◌≡◌, ℕ, ◌+◌, ◌<◌, not, cond, Bool, true, false, List, [], ◌∷◌, length, map, count_by, get_or, None, refl, ap, sym, ◌∙◌, arith, Some, ◌-◌, ◌≤◌, ◌==◌, ◌&&◌, ◌++◌, filter, set, append_assoc, cases_Bool, cond_both, lt-ltb, eqb-true, append-nil, get_or-set_same, set-set, Reply, connection_of, is_immediate, itt, Arrived, number_expected, at_place, turned_on, with_unfinished, opened, Members, Effect, Setting, is_known, Arrival, Command, Mark, Enters, Sends, Trace, waiting, waiting_by, enters, leaves_ticket, sent_on, entered, live, live_in, Delivers, Leaves, is_among, are_apart, unfinished, reply_of, reply_on, next_command, effects_of_mark, effects_of_item, newly_enabled, stat_sn_of, Core, kept, is_regular, task_of, member_of, WindowAgrees, RepliesAgree, SetsAgree, WaitingAgrees, Lasting, Agrees, set_of, CommandsAgree, count_reply, Step, unchanged, after_effect, replied, new_live, number_by, event_by, new_task, started, command_entered, set_staying, covered_tickets, set_at, as_given, all_given, enable_effects, is_numbered, is_gone, staying, leave_each, has_covered, left_answered, and_both, and_parts, and_comm, alike, alike_same, count_by-map, count_by-push, list_any-map, list_all-filter, any_filter, any_same, fewer_counted, map_all, filter-map, map-map, none_out, IsQuiet, never_free, Untouched, newly-untouched, filter_all, filter-twice, is_here, all_here, new_in, new_in-none, ClosesNone, closes-more, EntersOne, LeavesSome, live_in-left, live_in-left_elsewhere, are_all_in, among_passing, leaving-calm, leaving-closes, leaving-enters, leaving-sends, leaving-shown, leaving-tickets, quiet-leaving, quiet_none, quiet_sends, quiet_enters, HeldRequest, Deliver, Leave, Send, Respond, held-number, admitted_of_held, filter_map, TaskReply, Task, Live, weaker, unamong-filter, apart-filter, enables, EnabledSoFar-left, newly-one, nat_tests}
use Rattle.iscsi_session.proofs.AgreeLemmas.{open_of-same, RepliesAgree-quiet, RepliesAgree-sent, EnabledSoFar-entered, live-entered, CommandsAgree-entered, Agrees-untouched, SetEntry, SetsAgree-entered, set_of-same, noted_given, noted_effects, CommandsAgree-left, set-changed, units_live}
use Rattle.iscsi_session.proofs.WindowLemmas.{Turned, WindowAgrees-started, Next, WindowAgrees-turned}

-- ---- an execution

-- a request begins to execute. This is kept by then, and its item begins with this mark and this effect
pub record Begun (o : Setting) (s : Core) (t : Trace) (m : Mark) (e : Effect) (a : Arrival) : Type 0 where
  pub lasts : Lasting o s t
  pub window : (ms : List Mark) → IsQuiet ms → WindowAgrees o s.window ((m ∷ ms) ∷ t)
  pub room : is_immediate a.request ≡ false → (ms : List Mark) → IsQuiet ms → Turned o s.window ((m ∷ ms) ∷ t)
  pub replies : RepliesAgree o s.conns t
  pub known : is_known (connection_of a.request) o.conns ≡ true
  pub first : s.window.first ≡ o.first
  pub waits : WaitingAgrees o s.waiting ((m ∷ []) ∷ t)
  pub enters_no : enters m ≡ None
  pub leaves_no : (k : ℕ) → leaves_ticket k m ≡ false
  pub sends_no : sent_on m ≡ None
  pub closes_no : ClosesNone (m ∷ [])
  pub shows : effects_of_mark o t m ≡ e ∷ []

-- what an item leads to
abbrev pub Follows : Setting → Trace → List Mark → Step → Type 0
Follows o t item x = Agrees o x.core (item ∷ t) × (x.effects ≡ effects_of_item o t item)

module _ (o : Setting) (s : Core) (t : Trace) (m : Mark) (e : Effect) (a : Arrival) (b : Begun o s t m e a) where
  pub untouched-begun : (ms : List Mark) → Untouched ms → Untouched (m ∷ ms)
  untouched-begun ms u = record { enters_none = cc (b.enters_no, u.enters_none); leaves_no = λ k. cc (b.leaves_no k, u.leaves_no k) }

  -- no command enters or leaves, and nothing closes
  begun-untouched : (ms : List Mark) (conns : List (ℕ × ℕ)) → IsQuiet ms → Untouched ms → ClosesNone ms → RepliesAgree o conns ((m ∷ ms) ∷ t) → waiting ((m ∷ ms) ∷ t) ≡ waiting_by m (waiting t)
      → Agrees o (record s { conns = conns }) ((m ∷ ms) ∷ t)
  begun-untouched ms conns q none closes_none replies waits =
      Agrees-untouched o s t (m ∷ ms) s.window conns s.waiting (untouched-begun ms none) (closes-more m ms b.closes_no closes_none) b.lasts refl (b.window ms q) replies (record { list = waits ∙ b.waits.list; may = b.waits.may; known = b.waits.known })

  -- nothing more happens
  pub nothing_more : Follows o t (m ∷ []) (after_effect e (unchanged s))
  nothing_more = (
    begun-untouched [] s.conns quiet_none (search) (record { session = refl; conns = λ k. refl }) (RepliesAgree-quiet o s.conns t (m ∷ []) (cc b.sends_no) b.replies) refl,
    cc (b.shows, newly-untouched o t (m ∷ []) (untouched-begun [] (search))),
  )

  -- a reply goes out
  pub answered : (reply : Reply) → Follows o t (m ∷ reply_on a reply) (after_effect e (replied s (connection_of a.request) reply))
  answered reply =
      let conn : ℕ = connection_of a.request in
      let sends : List Mark = Sends conn reply ∷ [] in (
        begun-untouched sends (count_reply conn s.conns) (quiet_sends conn reply) (search) (record { session = refl; conns = λ k. refl }) (RepliesAgree-sent o s.conns t (m ∷ sends) conn (cc b.sends_no) b.known b.replies) refl,
        cc (b.replies.stat_sns conn b.known, b.shows, newly-untouched o t (m ∷ sends) (untouched-begun sends (search))),
      )

  -- a command enters
  pub enters_unit : number_by s a.request ≡ a.number → event_by s a.request ≡ cond (is_immediate a.request) a.event 0 → (unit : ℕ) → unit < o.units
      → Follows o t (m ∷ Enters (next_command ((m ∷ []) ∷ t) a unit) ∷ []) (after_effect e (command_entered s a.request unit))
  enters_unit number_is event_is unit inside =
      let c : Command = next_command ((m ∷ []) ∷ t) a unit in
      let ms : List Mark = Enters c ∷ [] in
      let item : List Mark = m ∷ ms in
      let q : IsQuiet ms = quiet_enters c in
      let entered_is : length (entered ((m ∷ []) ∷ t)) ≡ length (entered t) = cc (b.enters_no, append-nil (entered t)) in
      let count : s.entered ≡ length (entered ((m ∷ []) ∷ t)) = b.lasts.commands.count_is ∙ sym entered_is in
      let en : EntersOne item t c = record { one = cc b.enters_no; leaves_no = λ k. cc (b.leaves_no k); ticket = omega (arith, entered_is) } in
      let task_is : new_task s a.request ≡ task_of o c = cc (count, number_is, b.first, event_is) in
      let live_is : new_live s a.request unit ≡ kept c = cc count in
      let entry : SetEntry o s.sets t item c (new_task s a.request) = SetsAgree-entered o s.live s.entered s.sets t item c (new_task s a.request) b.lasts.commands b.lasts.sets en inside task_is in
      let regular : is_regular o c ≡ true = and_both _ _ (lt-ltb unit o.units inside) b.known in
      let starts : (started s.window a.request).unfinished ≡ s.window.unfinished + cond (not (is_immediate a.request)) 1 0 = grind arith in
      let numbered : Command → Bool = λ d. not (is_immediate d.arrival.request) in
      let lives : unfinished (item ∷ t) ≡ unfinished t + cond (numbered c) 1 0 = ap (count_by numbered) (live-entered o s.live s.entered item t c b.lasts.commands en) ∙ count_by-push numbered (live t) c in
      let window : WindowAgrees o (started s.window a.request) (item ∷ t) =
      cond_both (is_immediate a.request) _ _ (λ v. WindowAgrees o v (item ∷ t)) (λ is. b.window ms q) (λ is. WindowAgrees-started o s.window (item ∷ t) (b.room is ms q)) in
      let commands : CommandsAgree o (s.live ++ new_live s a.request unit ∷ []) (s.entered + 1) (item ∷ t) = rw live_is (CommandsAgree-entered o s.live s.entered t item c b.lasts.commands en regular) in
      let replies : RepliesAgree o s.conns (item ∷ t) = RepliesAgree-quiet o s.conns t item (cc b.sends_no) b.replies in
      let enabled = EnabledSoFar-entered o s.live s.entered item t c b.lasts.commands en inside (never_free c t (b.lasts.commands.fresh c.ticket (omega (arith, en.ticket)))) b.lasts.enabled in
      let open_is = b.lasts.open_conns ∙ sym (open_of-same o item t (closes-more m ms b.closes_no (search))) in (
        search (window, replies, commands, entry.agrees, starts ∙ ap (λ n. n + cond (not (is_immediate a.request)) 1 0) b.lasts.unfinished ∙ sym lives, enabled, open_is),
        cc (entry.effects, count, b.shows),
      )

-- ==== a turn: the request of the next number begins to execute

-- ---- the state after a turn

abbrev pub turned_core : Core → Core
turned_core s = record s { window = turned_on s.window }

-- a request that is held is numbered
pub numbered_held : (o : Setting) (s : Core) (t : Trace) (r : HeldRequest) (h : Agrees o s t) → (x : Next s.window t r) → is_immediate x.arrival.request ≡ false
numbered_held o s t r h x = (h.window.requests (number_expected s.window) x.arrival (admitted_of_held t (number_expected s.window) x.arrival x.held_is)).numbered

-- the request of the turn, as it begins to execute
pub turn-begun : (o : Setting) (s : Core) (t : Trace) (r : HeldRequest) (h : Agrees o s t) → at_place s.window 0 ≡ Some (Some r) → (x : Next s.window t r) → Begun o (turned_core s) t (Delivers x.arrival) (Deliver x.arrival.request) x.arrival
turn-begun o s t r h place x =
    let a : Arrival = x.arrival in
    let e : ℕ = number_expected s.window in
    let number : a.number ≡ e = held-number t e a x.held_is in
    let known = (h.window.requests e a (admitted_of_held t e a x.held_is)).known in
    let turns : (ms : List Mark) → IsQuiet ms → Turned o (turned_on s.window) ((Delivers a ∷ ms) ∷ t) = λ ms q. WindowAgrees-turned o s.window t r ms h.window place x q in
    let agrees : (ms : List Mark) → IsQuiet ms → WindowAgrees o (turned_on s.window) ((Delivers a ∷ ms) ∷ t) = λ ms q. (turns ms q).agrees in
    search (turns, agrees, known)

-- ==== commands of a unit leave together, and the function that took them out is answered

-- ---- the window

-- fewer are unfinished
pub WindowAgrees-fewer : (o : Setting) (w : Arrived) (t : Trace) (n : ℕ) → n ≤ w.unfinished → WindowAgrees o w t → WindowAgrees o (with_unfinished w n) t
WindowAgrees-fewer o w t n less a = grind (arith, nat_tests)

-- the numbered live commands are the unfinished ones
pub numbered_live : (o : Setting) (lives : List Live) (n : ℕ) (t : Trace) → CommandsAgree o lives n t → count_by is_numbered lives ≡ unfinished t
numbered_live o lives n t a = rw a.commands (count_by-map is_numbered kept (live t))

-- ---- the set of a unit, after the covered ones left

-- a set that nothing leaves, once every enabled command is given
as_it_was : (o : Setting) (t : Trace) (unit : ℕ) (cs : List Command) → (map as_given (map (member_of o t) cs) ≡ map (member_of o t) cs) × (enable_effects unit (map (member_of o t) cs) ≡ [])
as_it_was o t unit [] = (refl, refl)
as_it_was o t unit (c ∷ cs) = let rest = as_it_was o t unit cs in (grind (arith, rest.0), grind (arith, rest.1))

-- what it is then, and what its unit is told
pub record SetLeft (o : Setting) (t : Trace) (item : List Mark) (unit : ℕ) (old set : Members) : Type 0 where
  pub given : map as_given set.list ≡ set_of o (item ∷ t) unit
  pub effects : enable_effects unit set.list ≡ enables (new_in t item unit)

pub set_left : (o : Setting) (t : Trace) (item : List Mark) (unit : ℕ) (old : Members) (covers : Task → Bool) → old.list ≡ set_of o t unit → live_in unit (item ∷ t) ≡ filter (λ c. not (covers (task_of o c))) (live_in unit t)
    → SetLeft o t item unit old (set_staying covers old)
set_left o t item unit old covers list_is stay =
    let stays : filter (λ m. not (covers m.task)) old.list ≡ map (member_of o t) (live_in unit (item ∷ t)) = rw (list_is, filter-map, stay) in
    ⊎_elim
    (λ (some : has_covered covers old ≡ true). rw some (record { given = rw stays (noted_given o t item unit); effects = rw stays (noted_effects o t item unit) }))
    (λ (none : has_covered covers old ≡ false).
    let same : live_in unit (item ∷ t) ≡ live_in unit t = rw stay (none_out _ (live_in unit t) (rw (list_is, list_any-map) at none)) in
    let was = as_it_was o t unit (live_in unit t) in
    rw none (record { given = rw (list_is, set_of-same o item t unit same) was.0; effects = rw (list_is, new_in-none item t unit same) was.1 }))
    (cases_Bool (has_covered covers old))

-- ---- commands of a unit leave

-- those of the unit that are covered
abbrev pub covered_in : Setting → Trace → ℕ → (Task → Bool) → List Command
covered_in o t unit covers = filter (λ c. covers (task_of o c)) (live_in unit t)

-- the mark of the function, those that leave, and the reply
abbrev pub leaving_item : Setting → Trace → Mark → Arrival → ℕ → (Task → Bool) → List Mark
leaving_item o t m a unit covers = m ∷ (map Leaves (covered_in o t unit covers) ++ reply_on a (TaskReply (itt a.request) 0))

module _ (o : Setting) (t : Trace) (old : Members) (unit : ℕ) (list_is : old.list ≡ set_of o t unit) (covers : Task → Bool) where
  -- the tickets that leave are those of the covered commands
  pub gone_tickets : (k : ℕ) → is_gone covers old k ≡ is_among k (covered_in o t unit covers)
  gone_tickets k = grind (arith, nat_tests, list_is, list_any-map, any_filter, any_same, and_comm)

  -- they are all of the unit
  gone_in_unit : are_apart (live t) ≡ true → are_all_in unit (is_gone covers old) (live t) ≡ true
  gone_in_unit apart =
      let q : Command → Bool = λ c. (c.unit == unit) && covers (task_of o c) in
      weaker _ _ (live t)
      (λ c h. rw (gone_tickets c.ticket, filter-twice (λ c. covers (task_of o c)) (λ (c : Command). c.unit == unit) (live t), alike_same (is_among c.ticket (filter q (live t))) (q c) h) (grind arith))
      (among_passing q (live t) apart)

  -- the commands of the unit that stay
  stay_in : (item : List Mark) → LeavesSome item (is_gone covers old) → are_apart (live t) ≡ true → live_in unit (item ∷ t) ≡ filter (λ c. not (covers (task_of o c))) (live_in unit t)
  stay_in item l apart =
      let q : Command → Bool = λ c. covers (task_of o c) in
      live_in-left item t (is_gone covers old) unit l
      ∙ filter_all _ _ (λ c. alike (is_among c.ticket (filter q (live_in unit t))) (q c)) (live_in unit t) (among_passing q (live_in unit t) (apart-filter _ (live t) apart))
      (λ c h. rw (gone_tickets c.ticket, alike_same _ (q c) h))

  -- the effects of leaving
  pub leaving_shown : leave_each unit (covered_tickets covers old.list) ≡ map (λ (c : Command). Leave c.ticket c.unit) (covered_in o t unit covers)
  leaving_shown =
      let here : List Command = live_in unit t in
      simp (list_is, filter-map, map-map) (map_all _ _ (is_here unit here) (covered_in o t unit covers) (list_all-filter _ (is_here unit here) here (all_here unit t)) (λ c h. rw (eqb-true c.unit unit (and_parts _ _ h).0)))

-- covered commands of a unit leave by an item, and a reply goes out. All else is as it was
pub record Leaving (o : Setting) (s : Core) (t : Trace) (item : List Mark) (unit : ℕ) (covers : Task → Bool) (conn : ℕ) : Type 0 where
  pub lasts : Lasting o s t
  pub window : WindowAgrees o s.window (item ∷ t)
  pub replies : RepliesAgree o s.conns t
  pub waits : WaitingAgrees o s.waiting (item ∷ t)
  pub closes : ClosesNone item
  pub inside : unit < o.units
  pub known : is_known conn o.conns ≡ true
  pub leaves : LeavesSome item (is_gone covers (set_at s unit))
  pub sends : filter_map sent_on item ≡ conn ∷ []

module _ (o : Setting) (s : Core) (t : Trace) (item : List Mark) (unit : ℕ) (covers : Task → Bool) (conn : ℕ) (reply : Reply) (b : Leaving o s t item unit covers conn) where
  abbrev old : Members
  old = set_at s unit

  abbrev gone : List Command
  gone = covered_in o t unit covers

  abbrev out : ℕ → Bool
  out = is_gone covers old

  abbrev rest : List Live
  rest = staying covers old s.live

  list_is : old.list ≡ set_of o t unit
  list_is = b.lasts.sets.lists unit b.inside

  commands : CommandsAgree o rest s.entered (item ∷ t)
  commands = CommandsAgree-left o s.live s.entered t item out b.lasts.commands b.leaves
      (λ k late. rw (gone_tickets o t old unit list_is covers k) (unamong-filter _ k _ (unamong-filter _ k _ (unamong-filter _ k (entered t) (b.lasts.commands.fresh k late)))))

  -- the set of the unit without those that leave
  left : SetLeft o t item unit old (set_staying covers old)
  left = set_left o t item unit old covers list_is (stay_in o t old unit list_is covers item b.leaves b.lasts.commands.apart)

  elsewhere : (other : ℕ) → (other == unit) ≡ false → live_in other (item ∷ t) ≡ live_in other t
  elsewhere = live_in-left_elsewhere item t out unit b.leaves (gone_in_unit o t old unit list_is covers b.lasts.commands.apart)

  left_is : get_or (set s.sets unit (set_staying covers old)) unit (opened 0) ≡ set_staying covers old
  left_is = get_or-set_same s.sets unit (set_staying covers old) (opened 0) (omega (arith, b.inside, b.lasts.sets.units))

  pub leaving-agrees : Agrees o (left_answered s unit covers conn reply).core (item ∷ t)
  leaving-agrees =
      let fewer = fewer_counted is_numbered (λ l. not (out l.ticket)) s.live in
      let now : Core = (left_answered s unit covers conn reply).core in
      let window : WindowAgrees o now.window (item ∷ t) = WindowAgrees-fewer o s.window (item ∷ t) (s.window.unfinished + count_by is_numbered rest - count_by is_numbered s.live) (omega (arith, fewer)) b.window in
      let sets : SetsAgree o now.sets (item ∷ t) = rw (left_is, set-set) (set-changed o s.sets t item unit (all_given (set_staying covers old)) b.lasts.sets b.inside left.given elsewhere) in
      let counts : now.window.unfinished ≡ unfinished (item ∷ t) = omega (arith, numbered_live o s.live s.entered t b.lasts.commands, numbered_live o rest s.entered (item ∷ t) commands, b.lasts.unfinished) in
      let replies : RepliesAgree o now.conns (item ∷ t) = RepliesAgree-sent o s.conns t item conn b.sends b.known b.replies in
      search (window, sets, counts, replies, commands, EnabledSoFar-left o item t out b.leaves (units_live o rest s.entered (item ∷ t) commands) b.lasts.enabled, b.lasts.open_conns ∙ sym (open_of-same o item t b.closes))

  pub leaving-effects : (left_answered s unit covers conn reply).effects ≡ map (λ (c : Command). Leave c.ticket c.unit) gone ++ (Send conn (stat_sn_of o t conn) reply ∷ enables (newly_enabled o t item))
  leaving-effects = rw (leaving_shown o t old unit list_is covers, b.replies.stat_sns conn b.known, left_is, left.effects, ← newly-one o item t unit b.inside elsewhere)

-- a function takes them out
pub leaving-item : (o : Setting) (s : Core) (t : Trace) (m : Mark) (e : Effect) (a : Arrival) → Begun o s t m e a → (unit : ℕ) → unit < o.units → (covers : Task → Bool) → Follows o t (leaving_item o t m a unit covers) (after_effect e (left_answered s unit covers (connection_of a.request) (reply_of a.request (Respond 0))))
leaving-item o s t m e a b unit inside covers =
    let item : List Mark = leaving_item o t m a unit covers in
    let conn : ℕ = connection_of a.request in
    let reply : Reply = TaskReply (itt a.request) 0 in
    let gone : List Command = covered_in o t unit covers in
    let ms : List Mark = map Leaves gone ++ reply_on a reply in
    let waits : WaitingAgrees o s.waiting (item ∷ t) = record { list = leaving-calm gone a reply (waiting_by m (waiting t)) ∙ b.waits.list; may = b.waits.may; known = b.waits.known } in
    let leaves : LeavesSome item (is_gone covers (set_at s unit)) = record {
      enters_none = rw b.enters_no (leaving-enters gone a reply);
      some = λ k. rw (b.leaves_no k, leaving-tickets gone a reply k) (sym (gone_tickets o t (set_at s unit) unit (b.lasts.sets.lists unit inside) covers k));
    } in
    let sends : filter_map sent_on item ≡ conn ∷ [] = rw b.sends_no (leaving-sends gone a reply) in
    let leaving : Leaving o s t item unit covers conn = search (b.window ms (quiet-leaving gone a reply), waits, closes-more m ms b.closes_no (leaving-closes gone a reply), leaves, sends) in
    (leaving-agrees o s t item unit covers conn reply leaving, rw (leaving-effects o s t item unit covers conn reply leaving, b.shows, leaving-shown o t gone a reply, append_assoc))
