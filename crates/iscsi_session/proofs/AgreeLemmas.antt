-- A session that agrees with what has happened agrees after one item more.
use Rattle.iscsi_session.proofs.Names.{◌≡◌, ℕ, ◌==◌, ◌&&◌, ◌||◌, not, cond, Bool, true, false, List, [], ◌∷◌, ◌++◌, map, filter, refl, ap, sym, ◌∙◌, arith, ◌+◌, ◌<◌, length, option_map, eq-eqb, get_or, set, length-set, ◌-◌, ◌≤◌, nat_lt, subst, eqb-true, ne_eqb, false≢true, ltb-true, append-nil, map-append, length_push, get_or-set_same, get_or-set_other, Member, is_free_among, looked_at, after_moment, next_in, given_in, Members, opened, entered_to, given_by, Enable, Ignore, Setting, is_known, Command, Mark, Trace, live, live_in, was_free, has, entered, leaves_ticket, is_among, first_of, sent_on, Arrival, Admits, Ignores, after_items, waiting, is_received, received, task_of, member_of, set_of, open_of, kept, is_regular, CommandsAgree, SetsAgree, stat_sn_on, RepliesAgree, Core, WaitingAgrees, WindowAgrees, IsRegularRequest, Lasting, Agrees, Settled, as_given, enable_effects, enable_effect, find_ticket, count_reply, Step, Appends, Handles, numbers_by, and_parts, or_comm, list_all-filter, all_of_filter, filter-map, map-map, map_all, is_known-cids, count_by-push, enables, all_here, filter-twice, is_here, new_in, new_in-more, was_free-stays, Untouched, never_free, live_in-untouched, newly-untouched, was_before, newly-one, EnabledSoFar-more, enabled_once, exact_now, same_enabled, shown-before, shown-item, EnabledSoFar-untouched, nat_tests, is_open, filter-same, filter-true, live-enters, weaker, ClosesNone, closed-same, list_all, filter_map, list_any, filter-append, list_any-append, Live, eq_sym, unamong-filter, apart-push, apart-filter, EntersOne, LeavesSome, live-left, unfinished-untouched, untouched-admits, Task, newly_enabled, effects_of, numbers_of, wire, wire-next, EnabledSoFar, connection_of, Arrived, number_expected, room_of, Effect, Why, exp_of, max_of, ignored, HasOneMore, Waiting, ignored_receives, IsQuiet, quiet-ignored}
use Rattle.iscsi_session.proofs.KeptLemmas.{list_all-push, cids-count_reply}
use Rattle.iscsi_session.proofs.WindowLemmas.{next_expected, WindowAgrees-quiet, with_held, WindowAgrees-admitted}

-- ==== which commands were free at some moment, after one item more

-- ---- a set, after a moment

-- a member, before the commands that became enabled are given
abbrev noted_member : Setting → Trace → List Mark → Command → Member
noted_member o t item c = record { task = task_of o c; enabled = was_free c (item ∷ t); given = was_free c t }

-- the set, as it is then
noted : (o : Setting) (t : Trace) (item : List Mark) (unit : ℕ) → after_moment (map (member_of o t) (live_in unit (item ∷ t))) ≡ map (noted_member o t item) (live_in unit (item ∷ t))
noted o t item unit =
    let cs : List Command = live_in unit (item ∷ t) in
    let one : (c : Command) → is_here unit cs c ≡ true → (was_free c t || is_free_among (task_of o c) (map (member_of o t) cs)) ≡ was_free c (item ∷ t) = λ c here. grind (arith, nat_tests, and_parts, map-map, or_comm, eqb-true) in
    map-map (looked_at (map (member_of o t) cs)) (member_of o t) cs
    ∙ map_all (λ c. looked_at (map (member_of o t) cs) (member_of o t c)) (noted_member o t item) (is_here unit cs) cs (all_here unit (item ∷ t)) (λ c here. cc (one c here))

-- once they are given, it is the set after the item
pub noted_given : (o : Setting) (t : Trace) (item : List Mark) (unit : ℕ) → map as_given (after_moment (map (member_of o t) (live_in unit (item ∷ t)))) ≡ set_of o (item ∷ t) unit
noted_given o t item unit =
    let cs : List Command = live_in unit (item ∷ t) in
    ap (map as_given) (noted o t item unit) ∙ map-map as_given (noted_member o t item) cs
    ∙ map_all (λ c. as_given (noted_member o t item c)) (member_of o (item ∷ t)) (is_here unit cs) cs (all_here unit (item ∷ t)) (λ c here. cc (was_before c item t))

-- the effects of the set are those of the definitions
pub noted_effects : (o : Setting) (t : Trace) (item : List Mark) (unit : ℕ) → enable_effects unit (after_moment (map (member_of o t) (live_in unit (item ∷ t)))) ≡ enables (new_in t item unit)
noted_effects o t item unit =
    let cs : List Command = live_in unit (item ∷ t) in
    let new : Command → Bool = λ c. was_free c (item ∷ t) && not (was_free c t) in
    rw (noted o t item unit, filter-map, map-map)
    (map_all (λ (c : Command). Enable c.ticket unit) (λ (c : Command). Enable c.ticket c.unit) (λ c. c.unit == unit) (filter new cs) (list_all-filter new (λ c. c.unit == unit) cs (all_of_filter (λ (c : Command). c.unit == unit) (live (item ∷ t))))
    (λ c here. cc (eqb-true c.unit unit here)) ∙ ap enables (sym (filter-twice (λ c. not (was_free c t)) (λ c. was_free c (item ∷ t)) cs)))

-- ---- a unit that nothing leaves

-- its commands of before are as they were
pub set_of-stays : (o : Setting) (item : List Mark) (t : Trace) (unit : ℕ) (more : List Command) → live_in unit (item ∷ t) ≡ live_in unit t ++ more → map (member_of o (item ∷ t)) (live_in unit t) ≡ set_of o t unit
set_of-stays o item t unit more now =
    map_all (member_of o (item ∷ t)) (member_of o t) (is_here unit (live_in unit t)) (live_in unit t) (all_here unit t) (λ c here. cc (was_free-stays item t unit more c now here))

pub set_of-same : (o : Setting) (item : List Mark) (t : Trace) (unit : ℕ) → live_in unit (item ∷ t) ≡ live_in unit t → set_of o (item ∷ t) unit ≡ set_of o t unit
set_of-same o item t unit now = ap (map (member_of o (item ∷ t))) now ∙ set_of-stays o item t unit [] (now ∙ sym (append-nil (live_in unit t)))

-- ---- a set that a command enters: only that one can be new

past : (o : Setting) (t : Trace) (cs : List Command) (ms : List Member) → (given_in (map (member_of o t) cs ++ ms) ≡ map (member_of o t) cs ++ given_in ms) × (next_in (map (member_of o t) cs ++ ms) ≡ next_in ms)
past o t [] ms = (refl, refl)
past o t (c ∷ cs) ms = let rest = past o t cs ms in (grind (arith, rest.0), grind (arith, rest.1))

-- ==== an item that closes nothing leaves the connections open that were

pub open_of-same : (o : Setting) (item : List Mark) (t : Trace) → ClosesNone item → open_of o (item ∷ t) ≡ open_of o t
open_of-same o item t c =
    filter-same (is_open o (item ∷ t)) (is_open o t) (map (λ (k : ℕ × ℕ). k.0) o.conns) (λ conn. ap (λ b. is_known conn o.conns && not b) (closed-same conn item t c))

-- ==== the live commands that are kept agree with what has happened after one item more

-- ---- a command enters

module _ (o : Setting) (lives : List Live) (n : ℕ) (item : List Mark) (t : Trace) (c : Command) (a : CommandsAgree o lives n t) (e : EntersOne item t c) where
  pub live-entered : live (item ∷ t) ≡ live t ++ c ∷ []
  live-entered = live-enters item t c e.one e.leaves_no (a.unleft c.ticket (omega (arith, e.ticket)))

  pub live_in-entered : live_in c.unit (item ∷ t) ≡ live_in c.unit t ++ c ∷ []
  live_in-entered = cc (live-entered, filter-append (λ (d : Command). d.unit == c.unit) (live t) (c ∷ []), eq-eqb c.unit c.unit refl)

  pub live_in-elsewhere : (other : ℕ) → (other == c.unit) ≡ false → live_in other (item ∷ t) ≡ live_in other t
  live_in-elsewhere other apart = cc (live-entered, filter-append (λ (d : Command). d.unit == other) (live t) (c ∷ []), eq_sym c.unit other, append-nil (live_in other t))

pub CommandsAgree-entered : (o : Setting) (lives : List Live) (n : ℕ) (t : Trace) (item : List Mark) (c : Command) → CommandsAgree o lives n t → EntersOne item t c → is_regular o c ≡ true
    → CommandsAgree o (lives ++ kept c ∷ []) (n + 1) (item ∷ t)
CommandsAgree-entered o lives n t item c a e regular =
    let more : live (item ∷ t) ≡ live t ++ c ∷ [] = live-entered o lives n item t c a e in
    let entries : entered (item ∷ t) ≡ entered t ++ c ∷ [] = ap (λ cs. entered t ++ cs) e.one in
    let one : length (entered (item ∷ t)) ≡ length (entered t) + 1 = ap length entries ∙ length_push (entered t) c in
    let new : is_among c.ticket (entered t) ≡ false = a.fresh c.ticket (omega (arith, e.ticket)) in
    record {
      commands = cc (a.commands, map-append kept (live t) (c ∷ []));
      regular = rw entries (list_all-push (is_regular o) (entered t) c a.regular regular);
      apart = rw more (apart-push (live t) c a.apart (unamong-filter (λ (d : Command). not (has (leaves_ticket d.ticket) t)) c.ticket (entered t) new));
      count_is = omega (arith, a.count_is, one);
      fresh = λ k u. cc (list_any-append (λ (d : Command). d.ticket == k) (entered t) (c ∷ []), a.fresh k (omega (arith, one)), ne_eqb c.ticket k (omega (arith, one, e.ticket)));
      unleft = λ k u. cc (e.leaves_no k, a.unleft k (omega (arith, one)));
    }

-- ---- commands leave

-- no ticket that is yet to come leaves
pub CommandsAgree-left : (o : Setting) (lives : List Live) (n : ℕ) (t : Trace) (item : List Mark) (out : ℕ → Bool) → CommandsAgree o lives n t → LeavesSome item out → ((k : ℕ) → length (entered t) < k → out k ≡ false)
    → CommandsAgree o (filter (λ l. not (out l.ticket)) lives) n (item ∷ t)
CommandsAgree-left o lives n t item out a l early =
    let fewer : live (item ∷ t) ≡ filter (λ c. not (out c.ticket)) (live t) = live-left item t out l in
    let entries : entered (item ∷ t) ≡ entered t = ap (λ cs. entered t ++ cs) l.enters_none ∙ append-nil (entered t) in
    record {
      commands = cc (a.commands, filter-map (λ (x : Live). not (out x.ticket)) kept (live t));
      regular = rw entries a.regular;
      apart = rw fewer (apart-filter (λ c. not (out c.ticket)) (live t) a.apart);
      count_is = rw entries a.count_is;
      fresh = λ k lt. cc (a.fresh k (rw entries at lt));
      unleft = λ k lt. let late = rw entries at lt in cc (l.some k, early k late, a.unleft k late);
    }

-- nor does any other
pub CommandsAgree-untouched : (o : Setting) (lives : List Live) (n : ℕ) (t : Trace) (item : List Mark) → Untouched item → CommandsAgree o lives n t → CommandsAgree o lives n (item ∷ t)
CommandsAgree-untouched o lives n t item u a =
    subst (λ ls. CommandsAgree o ls n (item ∷ t)) (filter-true lives) (CommandsAgree-left o lives n t item (λ k. false) a (record { enters_none = u.enters_none; some = u.leaves_no }) (λ k late. refl))

-- ---- the command with a ticket

pub find_kept : (ticket : ℕ) (cs : List Command) → find_ticket ticket (map kept cs) ≡ option_map kept (first_of (filter (λ c. c.ticket == ticket) cs))
find_kept ticket [] = refl
find_kept ticket (c ∷ cs) = grind (arith, find_kept ticket cs)

-- ==== task sets that agree with what has happened agree after one item more

pub SetsAgree-untouched : (o : Setting) (sets : List Members) (t : Trace) (item : List Mark) → Untouched item → SetsAgree o sets t → SetsAgree o sets (item ∷ t)
SetsAgree-untouched o sets t item u a = record {
  units = a.units;
  lists = λ unit lt. a.lists unit lt ∙ sym (set_of-same o item t unit (live_in-untouched item t u unit));
}

-- one set is another now, and the other units are as they were
pub set-changed : (o : Setting) (sets : List Members) (t : Trace) (item : List Mark) (unit : ℕ) (new : Members) → SetsAgree o sets t → unit < o.units → new.list ≡ set_of o (item ∷ t) unit
    → ((other : ℕ) → (other == unit) ≡ false → live_in other (item ∷ t) ≡ live_in other t) → SetsAgree o (set sets unit new) (item ∷ t)
set-changed o sets t item unit new a inside list same = grind (arith, nat_tests, get_or-set_same, get_or-set_other, length-set, set_of-same, ne_eqb)

-- ---- a command enters

pub record SetEntry (o : Setting) (sets : List Members) (t : Trace) (item : List Mark) (c : Command) (task : Task) : Type 0 where
  pub agrees : SetsAgree o (set sets c.unit (given_by (entered_to (get_or sets c.unit (opened 0)) task))) (item ∷ t)
  pub effects : enable_effect c.unit (next_in (entered_to (get_or sets c.unit (opened 0)) task).list) ≡ enables (newly_enabled o t item)

pub SetsAgree-entered : (o : Setting) (lives : List Live) (n : ℕ) (sets : List Members) (t : Trace) (item : List Mark) (c : Command) (task : Task) → CommandsAgree o lives n t → SetsAgree o sets t → EntersOne item t c → c.unit < o.units → task ≡ task_of o c
    → SetEntry o sets t item c task
SetsAgree-entered o lives n sets t item c task commands a e inside is =
    let old : Members = get_or sets c.unit (opened 0) in
    let before : List Command = live_in c.unit t in
    let free : Bool = was_free c (item ∷ t) in
    let newcomer : Task → Bool → Member = λ x b. record { task = x; enabled = b; given = false } in
    let now : live_in c.unit (item ∷ t) ≡ live_in c.unit t ++ c ∷ [] = live_in-entered o lives n item t c commands e in
    let new : was_free c t ≡ false = never_free c t (commands.fresh c.ticket (omega (arith, e.ticket))) in
    let elsewhere = live_in-elsewhere o lives n item t c commands e in
    let list_is : old.list ++ newcomer task false ∷ [] ≡ set_of o t c.unit ++ newcomer (task_of o c) false ∷ [] = cc (a.lists c.unit inside) in
    let same : map (noted_member o t item) before ≡ set_of o t c.unit =
    map_all (noted_member o t item) (member_of o t) (is_here c.unit before) before (all_here c.unit t) (λ d here. cc (was_free-stays item t c.unit (c ∷ []) d now here)) in
    let moment : after_moment (set_of o t c.unit ++ newcomer (task_of o c) false ∷ []) ≡ set_of o t c.unit ++ newcomer (task_of o c) free ∷ [] =
    cc (map-append (member_of o t) before (c ∷ []), noted o t item c.unit, map-append (noted_member o t item) before (c ∷ [])) in
    let passed = past o t before (newcomer (task_of o c) free ∷ []) in
    let given_one : given_in (newcomer (task_of o c) free ∷ []) ≡ record { task = task_of o c; enabled = free; given = free } ∷ [] = grind arith in
    let effect_one : enable_effect c.unit (next_in (newcomer (task_of o c) free ∷ [])) ≡ enables (cond (free && not false) (c ∷ []) []) = grind arith in
    let given : given_in (after_moment (set_of o t c.unit ++ newcomer (task_of o c) false ∷ [])) ≡ set_of o (item ∷ t) c.unit =
    cc (passed.0, given_one, set_of-stays o item t c.unit (c ∷ []) now, map-append (member_of o (item ∷ t)) before (c ∷ [])) in
    let effects : enable_effect c.unit (next_in (after_moment (set_of o t c.unit ++ newcomer (task_of o c) false ∷ []))) ≡ enables (new_in t item c.unit) =
    cc (passed.1, effect_one, new_in-more item t c.unit (c ∷ []) now) in
    record {
      agrees = set-changed o sets t item c.unit (given_by (entered_to old task)) a inside (cc (list_is, given)) elsewhere;
      effects = cc (list_is, effects, newly-one o item t c.unit inside elsewhere);
    }

-- ==== connections that agree with what has happened agree after one item more

stat_sn_on-same : (cid : ℕ) (conns : List (ℕ × ℕ)) → is_known cid conns ≡ true → stat_sn_on cid (count_reply cid conns) ≡ wire (stat_sn_on cid conns + 1)
stat_sn_on-same cid [] known = absurd (false≢true known)
stat_sn_on-same cid (c ∷ conns) known = grind (arith, nat_tests, stat_sn_on-same cid conns)

stat_sn_on-other : (cid other : ℕ) (conns : List (ℕ × ℕ)) → (other == cid) ≡ false → stat_sn_on cid (count_reply other conns) ≡ stat_sn_on cid conns
stat_sn_on-other cid other [] apart = refl
stat_sn_on-other cid other (c ∷ conns) apart = grind (arith, nat_tests, stat_sn_on-other cid other conns apart)

-- an item that sends nothing
pub RepliesAgree-quiet : (o : Setting) (conns : List (ℕ × ℕ)) (t : Trace) (item : List Mark) → filter_map sent_on item ≡ [] → RepliesAgree o conns t → RepliesAgree o conns (item ∷ t)
RepliesAgree-quiet o conns t item none a = grind (arith, nat_tests, append-nil)

-- an item that sends one reply
pub RepliesAgree-sent : (o : Setting) (conns : List (ℕ × ℕ)) (t : Trace) (item : List Mark) (conn : ℕ) → filter_map sent_on item ≡ conn ∷ [] → is_known conn o.conns ≡ true → RepliesAgree o conns t → RepliesAgree o (count_reply conn conns) (item ∷ t)
RepliesAgree-sent o conns t item conn one known a = grind (arith, nat_tests, cids-count_reply conn conns, count_by-push, eqb-true, stat_sn_on-same, is_known-cids, wire-next, stat_sn_on-other)

-- ==== the commands that the effects show as enabled are those that the rule enables, after one item more

-- ---- a command enters

pub EnabledSoFar-entered : (o : Setting) (lives : List Live) (n : ℕ) (item : List Mark) (t : Trace) (c : Command) → CommandsAgree o lives n t → EntersOne item t c → c.unit < o.units → was_free c t ≡ false → EnabledSoFar o t → EnabledSoFar o (item ∷ t)
EnabledSoFar-entered o lives n item t c a e inside new x =
    let more : ℕ → List Command = λ unit. cond (unit == c.unit) (c ∷ []) [] in
    let now : (unit : ℕ) → live_in unit (item ∷ t) ≡ live_in unit t ++ more unit = λ unit. grind (arith, nat_tests, eqb-true, live_in-entered, live_in-elsewhere, append-nil) in
    let newly : newly_enabled o t item ≡ filter (λ d. was_free d (item ∷ t) && not (was_free d t)) (c ∷ []) =
    newly-one o item t c.unit inside (live_in-elsewhere o lives n item t c a e) ∙ new_in-more item t c.unit (c ∷ []) (live_in-entered o lives n item t c a e) in
    EnabledSoFar-more o item t x (λ k.
    let free : Command → Bool = λ d. d.ticket == k && was_free d (item ∷ t) in
    let old : list_any free (live t) ≡ (enabled_once o t k && not (has (leaves_ticket k) t)) = same_enabled item t k more now ∙ sym (exact_now o t x k) ∙ shown-before o t k in
    rw (shown-item o t item k, newly, e.leaves_no k)
    (by_ticket k (c.ticket == k) (was_free c (item ∷ t)) (was_free c t) (enabled_once o t k) refl new ∙ sym (ap (list_any free) (live-entered o lives n item t c a e) ∙ list_any-append free (live t) (c ∷ []) ∙ rw old)))
  where
    by_ticket : (k : ℕ) (b free before was : Bool) → (c.ticket == k) ≡ b → before ≡ false
        → ((was || is_among k (cond (free && not before) (c ∷ []) [])) && not (has (leaves_ticket k) t)) ≡ ((was && not (has (leaves_ticket k) t)) || (((c.ticket == k) && free) || false))
    by_ticket k b free before was is none = grind (arith, nat_tests, eqb-true)

-- ==== the whole session

-- ---- numbers

pub settled_expected : (o : Setting) (s : Core) (t : Trace) → Settled o s t → exp_of o t ≡ number_expected s.window
settled_expected o s t h = next_expected o s.window t h.agrees.window h.none_due

-- a connection that a session knows is one of the setting's
pub known_of : (o : Setting) (s : Core) (t : Trace) (cid : ℕ) → Agrees o s t → is_known cid s.conns ≡ true → is_known cid o.conns ≡ true
known_of o s t cid a known = sym (is_known-cids cid s.conns o.conns a.replies.cids) ∙ known

-- what is regular of a command
pub record Regular (o : Setting) (c : Command) : Type 0 where
  pub unit : c.unit < o.units
  pub known : is_known (connection_of c.arrival.request) o.conns ≡ true

pub regular_parts : (o : Setting) (c : Command) → is_regular o c ≡ true → Regular o c
regular_parts o c h = grind (arith, nat_tests, and_parts, ltb-true)

-- the live commands are regular
pub regular_live : (o : Setting) (lives : List Live) (n : ℕ) (t : Trace) → CommandsAgree o lives n t → list_all (is_regular o) (live t) ≡ true
regular_live o lives n t a = list_all-filter (λ (c : Command). not (has (leaves_ticket c.ticket) t)) (is_regular o) (entered t) a.regular

-- each is in a unit of the session
pub units_live : (o : Setting) (lives : List Live) (n : ℕ) (t : Trace) → CommandsAgree o lives n t → list_all (λ c. nat_lt c.unit o.units) (live t) ≡ true
units_live o lives n t a = weaker (is_regular o) (λ c. nat_lt c.unit o.units) (live t) (λ c h. (and_parts _ _ h).0) (regular_live o lives n t a)

pub settled_max : (o : Setting) (s : Core) (t : Trace) → Settled o s t → max_of o t ≡ number_expected s.window + length s.window.places - 1 - s.window.unfinished
settled_max o s t h = omega (arith, settled_expected o s t h, h.agrees.lasts.unfinished, h.agrees.window.size)

pub settled_numbers : (o : Setting) (s : Core) (t : Trace) → Settled o s t → numbers_by s ≡ numbers_of o t
settled_numbers o s t h = cc (settled_expected o s t h, settled_max o s t h)

-- ---- one step: what is kept, and the effects

pub record Stepped (o : Setting) (x : Step) (t : Trace) (items : List (List Mark)) : Type 0 where
  pub settled : Settled o x.core (after_items items t)
  pub effects_are : x.effects ≡ effects_of o t items
  pub receives : HasOneMore (received t) (received (after_items items t))

-- and what becomes of a session that takes it
pub handled : {S : Type 0} (has : S → List ℕ → List Effect → Type 0) (o : Setting) (x : Step) (t : Trace) (items : List (List Mark)) (now : Core) (out out' : S) → Stepped o x t items → now ≡ x.core → Appends has x.effects out out' → Handles has o t items HasOneMore now out out'
handled has o x t items now out out' h core effects = record {
  settled = rw core h.settled;
  effects = subst (λ more. Appends has more out out') h.effects_are effects;
  receives = h.receives;
}

-- an event is ignored
abbrev pub step_ignored : Core → Why → Step
step_ignored s why = record { core = s; effects = Ignore why ∷ [] }

-- ---- an item by which no command enters or leaves, and nothing closes

pub Agrees-untouched : (o : Setting) (s : Core) (t : Trace) (item : List Mark) (w : Arrived) (conns : List (ℕ × ℕ)) (waits : List Waiting) → Untouched item → ClosesNone item → Lasting o s t → w.unfinished ≡ s.window.unfinished
    → WindowAgrees o w (item ∷ t) → RepliesAgree o conns (item ∷ t) → WaitingAgrees o waits (item ∷ t) → Agrees o (record s { window = w; conns = conns; waiting = waits }) (item ∷ t)
Agrees-untouched o s t item w conns waits u closes a same window replies waiting =
    search (CommandsAgree-untouched o s.live s.entered t item u a.commands, SetsAgree-untouched o s.sets t item u a.sets, same ∙ a.unfinished ∙ sym (unfinished-untouched item t u), EnabledSoFar-untouched o item t u a.enabled, a.open_conns ∙ sym (open_of-same o item t closes))

-- nor does it receive or send anything
pub Agrees-waits : (o : Setting) (s : Core) (t : Trace) (item : List Mark) (waits : List Waiting) → IsQuiet item → Untouched item → ClosesNone item → filter_map sent_on item ≡ [] → Agrees o s t → WaitingAgrees o waits (item ∷ t) → Agrees o (record s { waiting = waits }) (item ∷ t)
Agrees-waits o s t item waits q u closes sends h w =
    Agrees-untouched o s t item s.window s.conns waits u closes h.lasts refl (WindowAgrees-quiet o s.window t item q h.window) (RepliesAgree-quiet o s.conns t item sends h.replies) w

-- ---- an ignored event

pub Stepped-ignored : (o : Setting) (s : Core) (t : Trace) (why : Why) → Settled o s t → Stepped o (step_ignored s why) t (ignored why)
Stepped-ignored o s t why h = record {
  settled = record {
    agrees = Agrees-waits o s t (Ignores why ∷ []) s.waiting (quiet-ignored why) (search) (search) refl h.agrees (record { list = h.agrees.waiting.list; may = h.agrees.waiting.may; known = h.agrees.waiting.known });
    none_due = h.none_due;
  };
  effects_are = rw (newly-untouched o t (Ignores why ∷ []) (search));
  receives = ignored_receives t (ignored why) why refl;
}

-- ---- an admission

pub Agrees-admitted : (o : Setting) (s : Core) (t : Trace) (a : Arrival) → Agrees o s t → number_expected s.window ≤ a.number → a.number < number_expected s.window + room_of s.window → is_received t a.number ≡ false → IsRegularRequest o a.number a.request
    → Agrees o (record s { window = with_held s.window a }) ((Admits a ∷ []) ∷ t)
Agrees-admitted o s t a h low high new regular =
    Agrees-untouched o s t (Admits a ∷ []) (with_held s.window a) s.conns s.waiting (untouched-admits a) (record { session = refl; conns = λ c. refl }) h.lasts refl
    (WindowAgrees-admitted o s.window t a h.window low high new regular) (RepliesAgree-quiet o s.conns t (Admits a ∷ []) refl h.replies) (record { list = h.waiting.list; may = h.waiting.may; known = h.waiting.known })
