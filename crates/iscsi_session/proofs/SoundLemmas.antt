-- What holds of every session holds on after each change; the functions that wait, and how many effects are to come.
use Rattle.iscsi_session.proofs.Names.{find, Some, All, ◌&&◌, nat_lt, is_some, ◌-◌, ◌≡◌, ℕ, ◌+◌, ◌*◌, ◌<◌, ◌≤◌, ◌==◌, not, cond, true, List, [], ◌∷◌, ◌++◌, length, filter, ap, arith, count_by, suc, nat_le, get_or, sym, ◌∙◌, Bool, false, drop, map, position, None, refl, list_all, nat_tests, length_push, length-map, list_all-append, length-filter, count_by-le-length, sum_by-cons, AllPass-from_list_all, Request, connection_of, Members, opened, Waiting, is_known, Setting, Core, is_held, Match, tickets_of, tickets_in, are_within, arrival_waiting, IsSessionSound, waiting_in, command_entered, ungiven, owed, ungiven_in, count_by-map, count_by-push, find-passes, filter-map, ungiven_given, Member, Live, one_unit, may_wait, Arrived, advanced, offered_in, comes_next, All-weaker, number_of_first, find_nowhere, Arrival, Trace, waiting, function_item, functions_at, position-cons, filter-same, first_function, waits_itself, Option, take, set, length-set, HeldRequest, is_place_known, AreRoomy, count_reply, AreCounted, is_numbered, set_staying, is_gone, staying, finished_by, IsWindowSound, AreCommandsSound, AreFunctionsSound, list_all-filter, fewer_counted, weaker, later_event, Task, written}
use Rattle.iscsi_session.proofs.KeptLemmas.{few_live, few_of, ungiven_in-set, length-replied, AreCounted-replied, list_all-push, are_known-replied, are_places_known-replied, ascending-push, within-push, ascending-kept, Match-staying, roomy_set}
use Rattle.iscsi_session.proofs.WindowLemmas.{held_now, comes_alone, delivered, Changed, Advanced}

-- the functions that a session finds for the next number are those of the number
at_turn : (first turned : ℕ) (ws : List Waiting) → filter (λ b. b.number == number_of_first first + turned) (map (arrival_waiting first) ws) ≡ map (arrival_waiting first) (filter (λ w. w.turn == turned) ws)
at_turn first turned ws = grind (arith, nat_tests, filter-map, filter-same)

first_found : (p : Waiting → Bool) (ws : List Waiting) (w : Waiting) → find p ws ≡ Some w → filter p ws ≡ w ∷ drop 1 (filter p ws)
first_found p [] w h = absurd cc
first_found p (x ∷ ws) w h = grind (arith, nat_tests, first_found p ws w)

none_found : (p : Waiting → Bool) (ws : List Waiting) → find p ws ≡ None → filter p ws ≡ []
none_found p [] h = refl
none_found p (x ∷ ws) h = grind (arith, nat_tests, none_found p ws)

-- the next function is the first of those of the next number
pub next_function : (o : Setting) (t : Trace) (ws : List Waiting) (turned : ℕ) (w : Waiting) → waiting t ≡ map (arrival_waiting o.first) ws → find (λ v. v.turn == turned) ws ≡ Some w
    → functions_at o (number_of_first o.first + turned) t ≡ function_item o t (arrival_waiting o.first w) ∷ functions_at o (number_of_first o.first + turned) (function_item o t (arrival_waiting o.first w) ∷ t)
next_function o t ws turned w same found =
    let rest : List Arrival = map (arrival_waiting o.first) (drop 1 (filter (λ (v : Waiting). v.turn == turned) ws)) in
    let these : filter (λ b. b.number == number_of_first o.first + turned) (waiting t) ≡ arrival_waiting o.first w ∷ rest = rw (same, at_turn o.first turned ws) (ap (map (arrival_waiting o.first)) (first_found (λ (v : Waiting). v.turn == turned) ws w found)) in
    first_function o (number_of_first o.first + turned) t (arrival_waiting o.first w) rest these (waits_itself (λ (b : Arrival). b.number == number_of_first o.first + turned) (waiting t) (arrival_waiting o.first w) rest these)

-- or there is none
pub no_function : (o : Setting) (t : Trace) (ws : List Waiting) (turned : ℕ) → waiting t ≡ map (arrival_waiting o.first) ws → find (λ v. v.turn == turned) ws ≡ None → functions_at o (number_of_first o.first + turned) t ≡ []
no_function o t ws turned same none = rw (same, at_turn o.first turned ws, none_found (λ v. v.turn == turned) ws none)

-- ---- whether a function waits for a turn

-- none does for a turn below all that are waited for
pub none_due : (ws : List Waiting) (next turn : ℕ) → All (λ w. next ≤ w.turn) ws → turn < next → find (λ w. w.turn == turn) ws ≡ None
none_due ws next turn all before = find_nowhere (λ (w : Waiting). w.turn) turn ws (All-weaker (λ (w : Waiting). next ≤ w.turn) (λ w. (w.turn == turn) ≡ false) (λ w le. grind (arith, nat_tests)) ws all)

-- one has a place where one is found
pub found_where : (p : Waiting → Bool) (ws : List Waiting) → is_some (position p ws) ≡ is_some (find p ws)
found_where p [] = refl
found_where p (w ∷ ws) = grind (arith, nat_tests, found_where p ws, position-cons)

-- ==== how many functions wait, and how many effects are to come

-- ---- how many functions wait

pub few_waiting : (conns : List (ℕ × ℕ)) (waits : List Waiting) → ((cid : ℕ) → waiting_in waits cid ≤ 4) → list_all (λ w. is_known (connection_of w.request) conns) waits ≡ true → length waits ≤ 4 * length conns
few_waiting conns waits few known = few_of (λ (w : Waiting). connection_of w.request) 4 conns waits few known

-- what is known of the functions that wait, with one more
pub record Waits (conns : List (ℕ × ℕ)) (waits : List Waiting) (w : Waiting) : Type 0 where
  pub few : (cid : ℕ) → waiting_in (waits ++ w ∷ []) cid ≤ 4
  pub known : list_all (λ v. is_known (connection_of v.request) conns) (waits ++ w ∷ []) ≡ true
  pub room : length waits < 4 * length conns

pub waits_more : (conns : List (ℕ × ℕ)) (waits : List Waiting) (w : Waiting) → ((cid : ℕ) → waiting_in waits cid ≤ 4) → list_all (λ v. is_known (connection_of v.request) conns) waits ≡ true
    → is_known (connection_of w.request) conns ≡ true → waiting_in waits (connection_of w.request) < 4 → Waits conns waits w
waits_more conns waits w few known this room =
    let few' : (cid : ℕ) → waiting_in (waits ++ w ∷ []) cid ≤ 4 = λ cid.
    let there : connection_of w.request ≡ cid → waiting_in waits (connection_of w.request) ≡ waiting_in waits cid = ap (waiting_in waits) in
    grind (arith, nat_tests, count_by-push (λ (v : Waiting). connection_of v.request == cid) waits w, few cid) in
    let known' : list_all (λ v. is_known (connection_of v.request) conns) (waits ++ w ∷ []) ≡ true = rw (list_all-append, known, this) in
    record { few = few'; known = known'; room = omega (arith, few_waiting conns (waits ++ w ∷ []) few' known', length_push waits w) }

-- ---- what may be to come

-- a command that enters may leave, and be enabled before
pub owed_entered : (s : Core) (r : Request) (unit : ℕ) → unit < length s.sets → owed (command_entered s r unit).core.live (command_entered s r unit).core.sets ≤ owed s.live s.sets + 2
owed_entered s r unit inside = grind (arith, nat_tests, ungiven_in-set, count_by-map, count_by-push, ungiven_given, length_push)

-- few requests are held, few functions wait, and few commands are live
pub record Few (s : Core) : Type 0 where
  pub held : count_by is_held s.window.places ≤ length s.window.places
  pub waiting : length s.waiting ≤ 4 * length s.conns
  pub live : length s.live ≤ s.window.unfinished + 8 * length s.conns

pub few : {s : Core} {immediate : List ℕ} {live_room waiting_room left_room : ℕ} → IsSessionSound s immediate live_room waiting_room left_room → Few s
few inv = grind (arith, nat_tests, count_by-le-length, few_waiting, few_live)

pub ruleset few_steps = (count_by-le-length, few_waiting, few_live)

-- ---- what live commands may bring: each leaves once, and is enabled once before

-- those of a unit, and those of later units
unit_and_later : (u : ℕ) (lives : List Live) → count_by (λ l. l.unit == u) lives + count_by (λ l. nat_le (u + 1) l.unit) lives ≤ count_by (λ l. nat_le u l.unit) lives
unit_and_later u [] = omega arith
unit_and_later u (x ∷ lives) =
    omega (arith, one_unit x.unit u, unit_and_later u lives, sum_by-cons (λ (l : Live). cond (l.unit == u) 1 0) x lives, sum_by-cons (λ (l : Live). cond (nat_le (u + 1) l.unit) 1 0) x lives, sum_by-cons (λ (l : Live). cond (nat_le u l.unit) 1 0) x lives)

-- the sets of the units from u on
ungiven_from : (lives : List Live) (sets : List Members) (u : ℕ) → ((k : ℕ) → k < length sets → tickets_of (get_or sets k (opened 0)) ≡ tickets_in (u + k) lives) → ungiven_in sets ≤ count_by (λ l. nat_le u l.unit) lives
ungiven_from lives [] u is = omega arith
ungiven_from lives (x ∷ sets) u is =
    let tickets : tickets_of x ≡ tickets_in u lives = is 0 (omega arith) ∙ ap (λ k. tickets_in k lives) (let z : u + 0 ≡ u = omega arith in z) in
    let size : length x.list ≡ count_by (λ (l : Live). l.unit == u) lives =
    sym (length-map x.list (λ (m : Member). m.task.ticket)) ∙ ap length tickets ∙ length-map (filter (λ (l : Live). l.unit == u) lives) (λ (l : Live). l.ticket) ∙ length-filter (λ (l : Live). l.unit == u) lives in
    let few : ungiven x ≤ length x.list = count_by-le-length (λ (m : Member). not m.given) x.list in
    let rest : ungiven_in sets ≤ count_by (λ (l : Live). nat_le (u + 1) l.unit) lives = ungiven_from lives sets (u + 1) (λ k lt. is (suc k) (omega arith) ∙ ap (λ n. tickets_in n lives) (let z : u + suc k ≡ u + 1 + k = omega arith in z)) in
    omega (arith, size, few, rest, unit_and_later u lives)

pub owed_few : (sets : List Members) (lives : List Live) → Match sets lives → owed lives sets ≤ 2 * length lives
owed_few sets lives m =
    let given : ungiven_in sets ≤ count_by (λ (l : Live). nat_le 0 l.unit) lives = ungiven_from lives sets 0 (λ k lt. m k lt ∙ ap (λ n. tickets_in n lives) (let z : k ≡ 0 + k = omega arith in z)) in
    omega (arith, given, count_by-le-length (λ (l : Live). nat_le 0 l.unit) lives)

-- ---- what one call takes, and what it leaves

-- each live command has a ticket before the next
pub all_before : (n units : ℕ) (lives : List Live) → are_within n units lives ≡ true → All (λ l. l.ticket < n + 1) lives
all_before n units lives within = λ k d lt.
    let test = AllPass-from_list_all (λ (l : Live). nat_le l.ticket n && nat_lt l.unit units) lives within k d lt in
    grind (arith, nat_tests)

-- a request that turns as it comes leaves as many that are held and received
pub turned_counts : {s v : Core} {w : Arrived} → (r : Request) → s ≡ v → comes_next v r ≡ true → ((event : ℕ) → w ≡ advanced (offered_in s.window r event))
    → (count_by is_held w.places ≡ count_by is_held v.window.places) × (count_by is_some w.places ≡ count_by is_some v.window.places)
turned_counts {s} {v} r same next is =
    let d = delivered v.window (held_now v r) (comes_alone v r next).1 in
    rw (is (v.taken - 1), same) (omega (arith, d.advanced_is, d.grown_is))

-- the function that waits for a turn may wait
pub next_may : (turn : ℕ) (waits : List Waiting) (f : Waiting) → find (λ w. w.turn == turn) waits ≡ Some f → list_all (λ w. may_wait w.request) waits ≡ true → may_wait f.request ≡ true
next_may turn waits f found may = find-passes (λ w. w.turn == turn) (λ w. may_wait w.request) waits f may found

-- ==== what holds of every session

-- ---- the window

-- so many requests fewer are held, and so many numbers more received
pub changed_sound : {old new : Arrived} {fewer more count taken : ℕ} {conns : List (ℕ × ℕ)} → IsWindowSound old count taken conns → Changed old new fewer more
    → old.turned + count_by is_some old.places + more ≤ taken → count + count_by is_some old.places + more ≤ taken → IsWindowSound new count taken conns
changed_sound {conns = conns} w g turned entered = search (arith, g.known conns w.known)

-- its places have stayed the same, and a command may have entered or left
pub places_sound : {old new : Arrived} {count now taken : ℕ} {conns : List (ℕ × ℕ)} → IsWindowSound old count taken conns → new.places ≡ old.places → new.turned ≡ old.turned
    → new.unfinished ≤ length old.places → now + count_by is_some old.places ≤ taken → IsWindowSound new now taken conns
places_sound {conns = conns} w places turned fits entered = search (arith, ap length places, ap (count_by is_some) places, ap (list_all (is_place_known conns)) places)

-- the next number has turned: it isn't received any more
pub advanced_sound : {w new : Arrived} {q : Option HeldRequest} {count taken : ℕ} {conns : List (ℕ × ℕ)} → IsWindowSound w count taken conns → Advanced w q → new ≡ advanced w → IsWindowSound new count taken conns
advanced_sound {conns = conns} sound a is = rw is (search (arith, a.known conns sound.known))

-- ---- the commands

-- one more, of the next ticket, has entered
pub entered_sound : {unfinished now count : ℕ} {conns : List (ℕ × ℕ)} {immediate counts : List ℕ} {sets new : List Members} {live entered : List Live} → AreCommandsSound unfinished count conns immediate sets live
    → (l : Live) → entered ≡ live ++ l ∷ [] → l.ticket ≡ count + 1 → l.unit < length sets → is_known l.conn conns ≡ true → count_by is_numbered live + cond (not l.immediate) 1 0 ≤ now
    → length new ≡ length sets → Match new (live ++ l ∷ []) → AreCounted counts conns (live ++ l ∷ []) → AreCommandsSound now (count + 1) conns counts new entered
entered_sound {count = count} {conns = conns} {counts = counts} {sets = sets} {new = new} {live = live} c l is next inside known numbered long match counted =
    grind (arith, nat_tests, count_by-push, list_all-push, ascending-push, within-push)

-- those that are left once some have left
pub kept_sound : {unfinished now count : ℕ} {conns : List (ℕ × ℕ)} {immediate counts : List ℕ} {sets new : List Members} {live left : List Live} → AreCommandsSound unfinished count conns immediate sets live
    → (p : Live → Bool) → left ≡ filter p live → count_by is_numbered (filter p live) ≤ now → length new ≡ length sets → Match new (filter p live) → AreCounted counts conns (filter p live)
    → AreCommandsSound now count conns counts new left
kept_sound {count = count} {conns = conns} {counts = counts} {sets = sets} {new = new} {live = live} c p is numbered long match counted =
    grind (arith, nat_tests, list_all-filter, ascending-kept)

-- the sets, once the set of the unit was written
pub sets_written : (unit n : ℕ) (covers : Task → Bool) (old sets : List Members) → n ≡ length old → sets ≡ set old unit (set_staying covers (get_or old unit (opened 0)))
    → take n (sets ++ drop (length sets) old) ≡ set old unit (set_staying covers (get_or old unit (opened 0)))
sets_written unit n covers old sets long is = written n sets old (rw is (length-set old unit (set_staying covers (get_or old unit (opened 0))))) long ∙ is

-- ---- the whole

module _ {s : Core} {immediate : List ℕ} {live_room waiting_room left_room : ℕ} (inv : IsSessionSound s immediate live_room waiting_room left_room) where
  -- the window has become another, with as many places and as many commands in execution
  pub window_sound : {w : Arrived} → w.unfinished ≡ s.window.unfinished → length w.places ≡ length s.window.places → IsWindowSound w s.entered s.taken s.conns → IsSessionSound (record s { window = w }) immediate live_room waiting_room left_room
  window_sound unfinished long sound = grind (arith, nat_tests)

  -- it has stayed the same
  pub same_sound : {w : Arrived} → w ≡ s.window → IsSessionSound (record s { window = w }) immediate live_room waiting_room left_room
  same_sound same = rw same inv

  -- a command has entered or left: the window counts it, and the room is no less
  pub commands_sound : {w : Arrived} {count : ℕ} {live : List Live} {counts : List ℕ} {sets : List Members} {room : ℕ} → IsWindowSound w count s.taken s.conns → AreCommandsSound w.unfinished count s.conns counts sets live
      → w.places ≡ s.window.places → length sets ≡ length s.sets → AreRoomy s.depth room sets → live_room ≤ room → IsSessionSound (record s { window = w; entered = count; live = live; sets = sets }) counts room waiting_room left_room
  commands_sound window commands places units roomy more_live = search (arith, ap length places)

  -- the sets have become others, of the same commands
  pub sets_sound : {sets new : List Members} → sets ≡ new → length new ≡ length s.sets → Match new s.live → AreRoomy s.depth live_room new → IsSessionSound (record s { sets = sets }) immediate live_room waiting_room left_room
  sets_sound is long match roomy =
      let c = inv.commands in
      rw is (commands_sound inv.window (record { numbered = c.numbered; known = c.known; in_sets = match; ascending = c.ascending; within = rw long c.within; counted = c.counted }) refl long roomy (omega arith))

  -- the functions that wait have become others
  pub functions_sound : {waiting : List Waiting} {room : ℕ} → AreFunctionsSound s.taken s.conns waiting → waiting_room ≤ room → IsSessionSound (record s { waiting = waiting }) immediate live_room room left_room
  functions_sound sound more = search arith

  -- some of them don't wait any longer
  pub fewer_sound : (stays : Waiting → Bool) {waiting : List Waiting} {room : ℕ} → waiting ≡ filter stays s.waiting → waiting_room ≤ room → IsSessionSound (record s { waiting = waiting }) immediate live_room room left_room
  fewer_sound stays rest more =
      let f = inv.functions in
      functions_sound (rw rest (record {
        before = list_all-filter stays (λ (w : Waiting). nat_lt w.event s.taken) s.waiting f.before;
        known = list_all-filter stays (λ (w : Waiting). is_known (connection_of w.request) s.conns) s.waiting f.known;
        may = list_all-filter stays (λ (w : Waiting). may_wait w.request) s.waiting f.may;
        few = λ cid. omega (arith, f.few cid, fewer_counted (λ (w : Waiting). connection_of w.request == cid) stays s.waiting);
      })) more

  -- one event more was taken
  pub taken_sound : s.taken < s.events → IsSessionSound (record s { taken = s.taken + 1 }) immediate live_room waiting_room left_room
  taken_sound one = grind (arith, nat_tests, weaker, later_event)

  -- a reply went out on a connection
  pub replied_sound : (cid : ℕ) {conns : List (ℕ × ℕ)} → conns ≡ count_reply cid s.conns → IsSessionSound (record s { conns = conns }) immediate live_room waiting_room left_room
  replied_sound cid is =
      rw is (search (
        arith,
        length-replied cid s.conns,
        are_places_known-replied cid s.window.places s.conns inv.window.known,
        are_known-replied (λ (l : Live). l.conn) cid s.live s.conns inv.commands.known,
        AreCounted-replied cid immediate s.conns s.live inv.commands.counted,
        are_known-replied (λ (v : Waiting). connection_of v.request) cid s.waiting s.conns inv.functions.known,
      ))

  -- covered commands of a unit left
  pub left_sound : (unit : ℕ) (covers : Task → Bool) → unit < length s.sets → {counts : List ℕ} → AreCounted counts s.conns (staying covers (get_or s.sets unit (opened 0)) s.live)
      → IsSessionSound (record s { window = finished_by s.window s.live (staying covers (get_or s.sets unit (opened 0)) s.live); live = staying covers (get_or s.sets unit (opened 0)) s.live; sets = set s.sets unit (set_staying covers (get_or s.sets unit (opened 0))) }) counts live_room waiting_room left_room
  left_sound unit covers inside counted =
      let old : Members = get_or s.sets unit (opened 0) in
      let stays : Live → Bool = λ l. not (is_gone covers old l.ticket) in
      let long : length (set s.sets unit (set_staying covers old)) ≡ length s.sets = length-set s.sets unit (set_staying covers old) in
      let fewer = fewer_counted is_numbered stays s.live in
      let depth_same : (set_staying covers old).depth ≡ old.depth = grind (arith, nat_tests) in
      commands_sound (places_sound inv.window refl refl (omega (arith, inv.window.fits, fewer)) inv.window.entered)
      (kept_sound inv.commands stays refl (omega (arith, fewer, inv.commands.numbered)) long (Match-staying s.sets s.live unit covers inside inv.commands.in_sets inv.commands.ascending) counted)
      refl long (roomy_set s.depth live_room s.sets unit (set_staying covers old) inside inv.sets depth_same) (omega arith)
