-- The live commands that a session keeps, their counts and their task sets, and effects that are appended one after another.
use Rattle.iscsi_session.proofs.Names.{◌≡◌, ℕ, zero, suc, ◌+◌, ◌-◌, ◌*◌, ◌<◌, ◌≤◌, ◌==◌, ◌&&◌, not, cond, Bool, true, false, nat_lt, List, [], ◌∷◌, ◌++◌, length, filter, count_by, replicate, Some, refl, ap, sym, ◌∙◌, arith, eq-eqb, map, Option, list_all, eqb-true, ltb-true, false≢true, nat_tests, length-map, length-replicate, length_push, length-filter_both, length-filter, Live, Arrived, is_known, are_known, are_ascending, is_place_known, find_ticket, without_ticket, count_reply, counted_on, is_immediate_on, immediate_in, AreCounted, is_numbered, finished, finished_by, and_parts, count-cons, count-filter, filter_all, filter-true, count_by-push, is_known-cids, list_all-filter, find-found, find-passes, list_all-same, fewer_counted, list_all-append, HeldRequest, mul-suc, subst, append_assoc, append-nil, Effect, Appends, Continues, nat_le, get_or, set, None, length-set, ◌||◌, All, take, is_some, drop, find, list_any, AllPairs, range_with_len, flat_map, cond_both, leb-true, cases_eq, ne_eqb, lt-ltb, map-append, get_or-set_same, get_or-set_other, get_or_default, get_or-take, length-take-le, at_drop_more, set-get_or, filter-append, All-head, All-tail, list_all-map, list_any_none, list_any_more, AllPass-from_list_all, sum_by-cons, Task, Member, eq_sym, is_enabled_in, Members, opened, entered_to, given_by, tasks_in, left_by, with_ticket, uncovered, is_new, next_in, given_in, Match, AreRoomy, are_within, tickets_of, tickets_in, enabled_of, covers_ticket, has_covered, set_staying, covered_tickets, as_given, all_given, is_gone, staying, leave_each, without_tickets, ungiven, ungiven_in, enable_effects, and_both, and_comm, and_true, and_false, or_first, or_second, any_filter, any_same, list_any-map, count_by-map, filter-swap, filter-map, map-map, filter-shorter, filter_every, filter_here, none_out, weaker, filter-same, tickets-given_in, tickets-moment, none_filtered, tickets, gone_each, none_covered, none_found, one_gone, rising, some_covered, IsSome, with_unfinished, Leave, Enable, filter-twice, both_all, fewer, none_above, AreTagsApart, get_or-set_at}

-- one more that passes
pub list_all-push : {A : Type 0} (p : A → Bool) (xs : List A) (x : A) → list_all p xs ≡ true → p x ≡ true → list_all p (xs ++ x ∷ []) ≡ true
list_all-push p xs x all this = cc (list_all-append p xs (x ∷ []))

-- ---- StatSNs

-- a reply changes no CID
pub cids-count_reply : (cid : ℕ) (conns : List (ℕ × ℕ)) → map (λ (c : ℕ × ℕ). c.0) (count_reply cid conns) ≡ map (λ (c : ℕ × ℕ). c.0) conns
cids-count_reply cid [] = refl
cids-count_reply cid (c ∷ conns) = grind (arith, cids-count_reply cid conns)

-- a reply leaves each connection known
pub is_known-replied : (cid other : ℕ) (conns : List (ℕ × ℕ)) → is_known other (count_reply cid conns) ≡ is_known other conns
is_known-replied cid other conns = is_known-cids other (count_reply cid conns) conns (cids-count_reply cid conns)

-- and so what came on known connections
pub are_known-replied : {A : Type 0} (of : A → ℕ) (cid : ℕ) (xs : List A) (conns : List (ℕ × ℕ)) → list_all (λ x. is_known (of x) conns) xs ≡ true → list_all (λ x. is_known (of x) (count_reply cid conns)) xs ≡ true
are_known-replied of cid xs conns h = list_all-same (λ x. is_known (of x) (count_reply cid conns)) (λ x. is_known (of x) conns) xs (λ x. is_known-replied cid (of x) conns) ∙ h

-- and the requests that are held
pub are_places_known-replied : (cid : ℕ) (places : List (Option (Option HeldRequest))) (conns : List (ℕ × ℕ)) → list_all (is_place_known conns) places ≡ true → list_all (is_place_known (count_reply cid conns)) places ≡ true
are_places_known-replied cid places conns h = grind (arith, nat_tests, list_all-same, is_known-replied)

-- ---- few of each connection

-- who isn't of the first connection is of the others
others_known : {A : Type 0} (of : A → ℕ) (c : ℕ × ℕ) (conns : List (ℕ × ℕ)) (xs : List A) → list_all (λ x. is_known (of x) (c ∷ conns)) xs ≡ true → list_all (λ x. is_known (of x) conns) (filter (λ x. not (of x == c.0)) xs) ≡ true
others_known of c conns [] h = refl
others_known of c conns (x ∷ xs) h = grind (arith, nat_tests, others_known of c conns xs, and_parts)

-- where no more are of each connection, and none of another one, they are no more than so many times the connections
pub few_of : {A : Type 0} (of : A → ℕ) (most : ℕ) (conns : List (ℕ × ℕ)) (xs : List A) → ((cid : ℕ) → count_by (λ x. of x == cid) xs ≤ most) → list_all (λ x. is_known (of x) conns) xs ≡ true → length xs ≤ most * length conns
few_of of most [] [] few known = omega arith
few_of of most [] (x ∷ xs) few known = absurd (false≢true known)
few_of {A} of most (c ∷ conns) xs few known =
    let here : A → Bool = λ x. of x == c.0 in
    let rest = few_of of most conns (filter (λ x. not (here x)) xs) (λ cid. omega (arith, fewer_counted (λ x. of x == cid) (λ x. not (here x)) xs, few cid)) (others_known of c conns xs known) in
    omega (arith, length-filter_both here (λ x. not (here x)) (λ x. refl) xs, length-filter here xs, few c.0, rest, mul-suc most (length conns))

-- ==== the counts of live immediate commands, how many commands are live, and one that is found by its ticket

-- ---- how many are live

pub few_live : (n : ℕ) (conns : List (ℕ × ℕ)) (lives : List Live) → count_by is_numbered lives ≤ n → ((cid : ℕ) → immediate_in lives cid ≤ 8) → are_known lives conns ≡ true → length lives ≤ n + 8 * length conns
few_live n conns lives numbered few known =
    let now : List Live = filter (λ l. l.immediate) lives in
    let all = few_of (λ (l : Live). l.conn) 8 conns now (λ cid. omega (arith, count-filter (λ (l : Live). l.conn == cid) (λ l. l.immediate) lives, few cid)) (list_all-filter (λ (l : Live). l.immediate) (λ l. is_known l.conn conns) lives known) in
    omega (arith, length-filter_both (λ (l : Live). l.immediate) is_numbered (λ l. refl) lives, length-filter is_numbered lives, numbered, all, length-filter (λ (l : Live). l.immediate) lives)

-- no more than eight of a connection
few_more : (lives : List Live) (l : Live) → ((cid : ℕ) → immediate_in lives cid ≤ 8) → (l.immediate ≡ true → immediate_in lives l.conn < 8) → (cid : ℕ) → immediate_in (lives ++ l ∷ []) cid ≤ 8
few_more lives l few room cid =
    let there : l.conn ≡ cid → immediate_in lives l.conn ≡ immediate_in lives cid = ap (immediate_in lives) in
    grind (arith, nat_tests, count_by-push (is_immediate_on cid) lives l, few cid)

-- there is room for one command more
pub room_for_one : (u p : ℕ) (conns : List (ℕ × ℕ)) (lives : List Live) (l : Live) → count_by is_numbered lives ≤ u → u ≤ p → ((cid : ℕ) → immediate_in lives cid ≤ 8) → are_known lives conns ≡ true → is_known l.conn conns ≡ true
    → (l.immediate ≡ false → u < p) → (l.immediate ≡ true → immediate_in lives l.conn < 8) → length lives < p + 8 * length conns
room_for_one u p conns lives l numbered fit few known this begins room =
    let numbered_more : count_by is_numbered (lives ++ l ∷ []) ≤ p = grind (arith, count_by-push is_numbered lives l) in
    omega (arith, length_push lives l, few_live p conns (lives ++ l ∷ []) numbered_more (few_more lives l few room) (list_all-push (λ (x : Live). is_known x.conn conns) lives l known this))

-- ---- counts that follow

pub AreCounted-opened : (n : ℕ) (conns : List (ℕ × ℕ)) → n ≡ length conns → AreCounted (replicate n 0) conns []
AreCounted-opened n conns is = record {
  long = length-replicate n 0 ∙ is;
  exact = λ cid known. none n conns cid;
  few = λ cid. omega arith;
}
  where
    none : (n : ℕ) (conns : List (ℕ × ℕ)) (cid : ℕ) → counted_on cid conns (replicate n 0) ≡ 0
    none n [] cid = refl
    none zero (c ∷ conns) cid = refl
    none (suc n) (c ∷ conns) cid = grind (arith, none n conns cid)

pub length-replied : (cid : ℕ) (conns : List (ℕ × ℕ)) → length (count_reply cid conns) ≡ length conns
length-replied cid conns = sym (length-map (count_reply cid conns) (λ (c : ℕ × ℕ). c.0)) ∙ ap length (cids-count_reply cid conns) ∙ length-map conns (λ (c : ℕ × ℕ). c.0)

-- a reply changes no count
pub AreCounted-replied : (cid : ℕ) (counts : List ℕ) (conns : List (ℕ × ℕ)) (lives : List Live) → AreCounted counts conns lives → AreCounted counts (count_reply cid conns) lives
AreCounted-replied cid counts conns lives h = record {
  long = h.long ∙ sym (length-replied cid conns);
  exact = λ other known. same counts conns other ∙ h.exact other (sym (is_known-cids other (count_reply cid conns) conns (cids-count_reply cid conns)) ∙ known);
  few = h.few;
}
  where
    same : (counts : List ℕ) (conns : List (ℕ × ℕ)) (other : ℕ) → counted_on other (count_reply cid conns) counts ≡ counted_on other conns counts
    same counts [] other = refl
    same [] (c ∷ conns) other = grind arith
    same (n ∷ counts) (c ∷ conns) other = grind (arith, same counts conns other)

-- a command enters
pub AreCounted-entered : (counts counts' : List ℕ) (conns : List (ℕ × ℕ)) (lives : List Live) (l : Live) → AreCounted counts conns lives → length counts' ≡ length counts
    → ((cid : ℕ) → counted_on cid conns counts' ≡ counted_on cid conns counts + cond (is_immediate_on cid l) 1 0) → (l.immediate ≡ true → immediate_in lives l.conn < 8)
    → AreCounted counts' conns (lives ++ l ∷ [])
AreCounted-entered counts counts' conns lives l h long counted room =
    let push = λ (cid : ℕ). count_by-push (is_immediate_on cid) lives l in
    grind (arith, nat_tests, push, counted, h.exact, few_more lives l h.few room)

-- later tickets stay
pub kept_later : (k : ℕ) (lives : List Live) → list_all (λ m. nat_lt k m.ticket) lives ≡ true → without_ticket k lives ≡ lives
kept_later k lives h = filter_all (λ l. not (l.ticket == k)) (λ l. true) (λ l. nat_lt k l.ticket) lives h (λ l later. grind (arith, nat_tests)) ∙ filter-true lives

-- how many pass, without the command of a ticket
pub count-left : (p : Live → Bool) (k : ℕ) (lives : List Live) (l : Live) → are_ascending lives ≡ true → find_ticket k lives ≡ Some l → count_by p (without_ticket k lives) + cond (p l) 1 0 ≡ count_by p lives
count-left p k [] l up found = absurd cc
count-left p k (x ∷ lives) l up found = grind (arith, nat_tests, count-left p k lives l, and_parts, kept_later, eqb-true, count-cons)

-- a command leaves
pub AreCounted-left : (counts counts' : List ℕ) (conns : List (ℕ × ℕ)) (lives : List Live) (l : Live) → AreCounted counts conns lives → length counts' ≡ length counts
    → ((cid : ℕ) → counted_on cid conns counts' + cond (is_immediate_on cid l) 1 0 ≡ counted_on cid conns counts) → are_ascending lives ≡ true → find_ticket l.ticket lives ≡ Some l
    → AreCounted counts' conns (without_ticket l.ticket lives)
AreCounted-left counts counts' conns lives l h long counted up found = record {
  long = long ∙ h.long;
  exact = λ cid known. omega (arith, counted cid, h.exact cid known, count-left (is_immediate_on cid) l.ticket lives l up found);
  few = λ cid. omega (arith, h.few cid, count-left (is_immediate_on cid) l.ticket lives l up found);
}

-- some are counted where a live one is immediate
pub some_counted : (counts : List ℕ) (conns : List (ℕ × ℕ)) (lives : List Live) (l : Live) → AreCounted counts conns lives → are_ascending lives ≡ true → find_ticket l.ticket lives ≡ Some l → is_known l.conn conns ≡ true → l.immediate ≡ true → 0 < counted_on l.conn conns counts
some_counted counts conns lives l h up found known immediate =
    let here = ap (λ b. b && (l.conn == l.conn)) immediate ∙ eq-eqb l.conn l.conn refl in
    let counts_one : ◌≡◌ {A = ℕ} (cond (is_immediate_on l.conn l) 1 0) 1 = ap {B = ℕ} (λ b. cond b 1 0) here in
    omega (arith, h.exact l.conn known, count-left (is_immediate_on l.conn) l.ticket lives l up found, counts_one)

-- a numbered command gives its place back
pub finished_left : (w : Arrived) (lives : List Live) (l : Live) → are_ascending lives ≡ true → find_ticket l.ticket lives ≡ Some l → count_by is_numbered lives ≤ w.unfinished → finished w l ≡ finished_by w lives (without_ticket l.ticket lives)
finished_left w lives l up found few = grind (arith, count-left is_numbered l.ticket lives l up found)

pub ruleset left_steps = (find-passes, some_counted, AreCounted-left, finished_left)

-- ---- a live command that is found by its ticket

-- what is found by a ticket has it
pub found_ticket : (ticket : ℕ) (lives : List Live) (l : Live) → find_ticket ticket lives ≡ Some l → l.ticket ≡ ticket
found_ticket ticket lives l found = eqb-true l.ticket ticket (find-found (λ (x : Live). x.ticket == ticket) lives l found)

pub ruleset found_steps = (found_ticket, find-passes, ltb-true)

-- ==== effects that are appended one after another

module _ {S : Type 0} {has : S → List ℕ → List Effect → Type 0} where
  -- none was
  pub started : {whole : List Effect} {out : S} → Continues has whole whole out out
  started {out = out} = record { done = []; effects = λ text es was. subst (has out text) (sym (append-nil es)) was; both = refl }

  -- some more are
  pub continued : {whole rest rest' : List Effect} (next : List Effect) {out out' out'' : S} → Continues has whole rest out out' → rest ≡ next ++ rest' → Appends has next out' out'' → Continues has whole rest' out out''
  continued {rest' = rest'} next {out'' = out''} c is more = record {
    done = c.done ++ next;
    effects = λ text es was. subst (has out'' text) (append_assoc es c.done next) (more text (es ++ c.done) (c.effects text es was));
    both = append_assoc c.done next rest' ∙ ap (λ l. c.done ++ l) (sym is) ∙ c.both;
  }

  -- all were
  pub ended : {whole rest : List Effect} {out out' : S} → Continues has whole rest out out' → rest ≡ [] → Appends has whole out out'
  ended {out = out} {out' = out'} c none = subst (λ l. Appends has l out out') (sym (append-nil c.done) ∙ ap (λ l. c.done ++ l) (sym none) ∙ c.both) c.effects

-- ==== the live commands beside their task sets

-- ---- no call but entering and leaving changes the tickets

tickets-entered : (s : Members) (task : Task) → tickets_of (given_by (entered_to s task)) ≡ tickets_of s ++ task.ticket ∷ []
tickets-entered s task = grind (arith, nat_tests, tickets-given_in, tickets-moment, map-append)

-- one set is another now, and the commands of the other units are as they were
pub match_set : (sets : List Members) (lives left : List Live) (unit : ℕ) (new : Members) → unit < length sets → Match sets lives → tickets_of new ≡ tickets_in unit left
    → ((u : ℕ) → (u == unit) ≡ false → tickets_in u left ≡ tickets_in u lives) → Match (set sets unit new) left
match_set sets lives left unit new inside m here elsewhere = grind (arith, nat_tests, get_or-set_same, get_or-set_other, length-set)

-- as roomy as it was
pub roomy_set : (depth most : ℕ) (sets : List Members) (unit : ℕ) (new : Members) → unit < length sets → AreRoomy depth most sets → new.depth ≡ (get_or sets unit (opened 0)).depth → AreRoomy depth most (set sets unit new)
roomy_set depth most sets unit new inside roomy same = λ u n lt few fits.
    let old : n < (get_or sets u (opened 0)).depth = roomy u n (omega (arith, lt, length-set sets unit new)) few fits in
    grind (arith, get_or-set_same, get_or-set_other, cases_eq u unit, old)

-- ---- a command enters

tickets_in-push : (unit : ℕ) (lives : List Live) (l : Live) → tickets_in unit (lives ++ l ∷ []) ≡ tickets_in unit lives ++ map (λ (x : Live). x.ticket) (cond (l.unit == unit) (l ∷ []) [])
tickets_in-push unit lives l = grind (arith, nat_tests, filter-append, map-append)

pub Match-entered : (sets : List Members) (lives : List Live) (l : Live) (task : Task) → Match sets lives → l.unit < length sets → task.ticket ≡ l.ticket
    → Match (set sets l.unit (given_by (entered_to (get_or sets l.unit (opened 0)) task))) (lives ++ l ∷ [])
Match-entered sets lives l task m inside same =
    match_set sets lives (lives ++ l ∷ []) l.unit (given_by (entered_to (get_or sets l.unit (opened 0)) task)) inside m
    (cc (tickets-entered (get_or sets l.unit (opened 0)) task, m l.unit inside, tickets_in-push l.unit lives l, eq-eqb l.unit l.unit refl))
    (λ other apart. cc (tickets_in-push other lives l, eq_sym l.unit other, append-nil (tickets_in other lives)))

pub ascending-push : (n units : ℕ) (lives : List Live) (l : Live) → are_ascending lives ≡ true → are_within n units lives ≡ true → n < l.ticket → are_ascending (lives ++ l ∷ []) ≡ true
ascending-push n units [] l up within later = refl
ascending-push n units (x ∷ lives) l up within later = grind (arith, nat_tests, ascending-push n units lives l, and_parts, and_both, list_all-push)

pub within-push : (n units : ℕ) (lives : List Live) (l : Live) → are_within n units lives ≡ true → l.ticket ≡ n + 1 → l.unit < units → are_within (n + 1) units (lives ++ l ∷ []) ≡ true
within-push n units lives l within ticket inside = grind (arith, nat_tests, list_all-push, weaker)

-- no member of a set is newer than the last command that entered
pub newest_in : (sets : List Members) (lives : List Live) (n units unit : ℕ) → Match sets lives → are_within n units lives ≡ true → unit < length sets
    → (k : ℕ) (d : Member) → k < length (get_or sets unit (opened 0)).list → (get_or (get_or sets unit (opened 0)).list k d).task.ticket < n + 1
newest_in sets lives n units unit m within inside = λ k d lt.
    let ms : List Member = (get_or sets unit (opened 0)).list in
    let here : List Live = filter (λ (x : Live). x.unit == unit) lives in
    let old = list_all-filter (λ (x : Live). x.unit == unit) (λ x. nat_le x.ticket n) lives (weaker (λ (x : Live). nat_le x.ticket n && nat_lt x.unit units) (λ x. nat_le x.ticket n) lives (λ x h. grind (arith, nat_tests)) within) in
    let all : list_all (λ (x : Member). nat_le x.task.ticket n) ms ≡ true =
    cc (list_all-map (λ t. nat_le t n) (λ (x : Member). x.task.ticket) ms, list_all-map (λ t. nat_le t n) (λ (x : Live). x.ticket) here, m unit inside, old) in
    let test = AllPass-from_list_all (λ (x : Member). nat_le x.task.ticket n) ms all k d lt in
    omega (arith, leb-true (get_or ms k d).task.ticket n test)

-- ---- commands leave

pub ascending-kept : (p : Live → Bool) (lives : List Live) → are_ascending lives ≡ true → are_ascending (filter p lives) ≡ true
ascending-kept p [] up = refl
ascending-kept p (x ∷ lives) up = grind (arith, nat_tests, ascending-kept p lives, and_parts, cond_both, and_both, list_all-filter)

-- the command that is enabled was found by its ticket
pub enabled_found : (sets : List Members) (k : ℕ) (x : Option Live) (l : Live) → enabled_of sets k x ≡ Some l → x ≡ Some l
enabled_found sets k x l h = grind (arith, nat_tests)

-- and is in the set of its unit
among_enabled : (k : ℕ) (ms : List Member) → is_enabled_in k ms ≡ true → list_any (λ m. m.task.ticket == k) ms ≡ true
among_enabled k [] is = is
among_enabled k (m ∷ ms) is = grind (arith, among_enabled k ms)

pub enabled_covered : (sets : List Members) (k : ℕ) (x : Option Live) (l : Live) → enabled_of sets k x ≡ Some l → has_covered (covers_ticket k) (get_or sets l.unit (opened 0)) ≡ true
enabled_covered sets k None l h = absurd cc
enabled_covered sets k (Some y) l h = grind (arith, nat_tests, among_enabled k (get_or sets y.unit (opened 0)).list)

-- ==== covered commands of a unit leave: what is left of its set and of the live commands

-- ---- tickets go up along a set

later_in : (k unit : ℕ) (lives : List Live) → list_all (λ m. nat_lt k m.ticket) lives ≡ true → list_all (λ u. nat_lt k u) (tickets_in unit lives) ≡ true
later_in k unit lives h = rw list_all-map (list_all-filter _ _ lives h)

pub rising_in : (unit : ℕ) (lives : List Live) → are_ascending lives ≡ true → rising (tickets_in unit lives) ≡ true
rising_in unit lives up = rw rising_are (ascending-kept _ lives up)
  where
    rising_are : (ls : List Live) → rising (map (λ (l : Live). l.ticket) ls) ≡ are_ascending ls
    rising_are [] = refl
    rising_are (l ∷ ls) = cc (rising_are ls, list_all-map (λ u. nat_lt l.ticket u) (λ (m : Live). m.ticket) ls)

-- ---- who leaves, of a set and of the live commands

module _ (covers : Task → Bool) (now : Members) where
  -- the tickets that are left in its set
  left_tickets : rising (tickets now.list) ≡ true → tickets_of (set_staying covers now) ≡ filter (λ t. not (is_gone covers now t)) (tickets now.list)
  left_tickets up =
      let stay : tickets_of (set_staying covers now) ≡ tickets (uncovered covers now.list) = grind (arith, map-map {A = Member}, none_out {A = Member}) in
      rw (stay, filter-map) (sym (ap tickets (filter_here _ _ now.list (λ k d l. ap not (gone_each covers now.list k d up l)))))

-- and among the live commands of any unit
live_tickets : (goes : ℕ → Bool) (unit : ℕ) (lives : List Live) → tickets_in unit (filter (λ l. not (goes l.ticket)) lives) ≡ filter (λ t. not (goes t)) (tickets_in unit lives)
live_tickets goes unit lives = rw (filter-swap, filter-map)

-- ---- no command is in two units

abbrev is_in : ℕ → List Live → ℕ → Bool
is_in unit lives t = list_any (λ u. u == t) (tickets_in unit lives)

apart_units : (unit other : ℕ) (lives : List Live) → (other == unit) ≡ false → are_ascending lives ≡ true → list_all (λ t. not (is_in unit lives t)) (tickets_in other lives) ≡ true
apart_units unit other [] apart up = refl
apart_units unit other (x ∷ lives) apart up =
    let ups = and_parts (list_all (λ m. nat_lt x.ticket m.ticket) lives) (are_ascending lives) up in
    let rest = apart_units unit other lives apart ups.1 in
    let later : list_all (λ t. not ((x.ticket == t) || is_in unit lives t)) (tickets_in other lives) ≡ true =
    weaker (λ t. nat_lt x.ticket t && not (is_in unit lives t)) _ _ (λ t both. grind (arith, nat_tests)) (both_all _ _ (tickets_in other lives) (later_in x.ticket other lives ups.0) rest) in
    grind (arith, rest, later, none_above x.ticket (tickets_in unit lives) (later_in x.ticket unit lives ups.0))

-- ---- the sets and the live commands that are left

module _ (sets : List Members) (lives : List Live) (unit : ℕ) (covers : Task → Bool) (inside : unit < length sets) (m : Match sets lives) (up : are_ascending lives ≡ true) where
  abbrev here : Members
  here = get_or sets unit (opened 0)

  pub rises : rising (tickets here.list) ≡ true
  rises = rw (m unit inside) (rising_in unit lives up)

  pub Match-staying : Match (set sets unit (set_staying covers here)) (staying covers here lives)
  Match-staying = match_set sets lives (staying covers here lives) unit (set_staying covers here) inside m
      (rw (left_tickets covers here rises, m unit inside, live_tickets (is_gone covers here)))
      (λ u apart. rw (live_tickets (is_gone covers here)) (filter_every _ _ (weaker _ _ (tickets_in u lives) (λ t absent. grind (arith, none_covered covers t here.list, m unit inside)) (apart_units unit u lives apart up))))

-- ---- what is owed

pub ungiven_in-set : (sets : List Members) (unit : ℕ) (new : Members) → unit < length sets → ungiven_in (set sets unit new) + ungiven (get_or sets unit (opened 0)) ≡ ungiven_in sets + ungiven new
ungiven_in-set [] unit new lt = absurd (omega arith)
ungiven_in-set (x ∷ sets) zero new lt = omega arith
ungiven_in-set (x ∷ sets) (suc unit) new lt = omega (arith, ungiven_in-set sets unit new (omega arith))

-- no more is owed than was
pub ungiven_in-staying : (sets : List Members) (unit : ℕ) (covers : Task → Bool) → unit < length sets → ungiven_in (set sets unit (set_staying covers (get_or sets unit (opened 0)))) ≤ ungiven_in sets
ungiven_in-staying sets unit covers inside = grind (arith, nat_tests, ungiven_in-set, count_by-map {A = Member}, fewer_counted {A = Member})

-- ---- tickets that go up

-- each of them is among them
all_in : (ts : List ℕ) → list_all (λ t. list_any (λ u. u == t) ts) ts ≡ true
all_in [] = refl
all_in (x ∷ ts) = and_both _ _ (or_first (x == x) (list_any (λ u. u == x) ts) (eq-eqb x x refl)) (weaker (λ t. list_any (λ u. u == t) ts) (λ t. (x == t) || list_any (λ u. u == t) ts) ts (λ t h. or_second (x == t) (list_any (λ u. u == t) ts) h) (all_in ts))

pairs_up : (ts : List ℕ) → rising ts ≡ true → AllPairs (λ (a b : ℕ). a < b) ts
pairs_up [] up i j d lt l = absurd (omega (arith, l))
pairs_up (t ∷ ts) up i zero d lt l = absurd (omega (arith, lt))
pairs_up (t ∷ ts) up zero (suc j) d lt l = grind (arith, nat_tests, and_parts, ltb-true, AllPass-from_list_all)
pairs_up (t ∷ ts) up (suc i) (suc j) d lt l = grind (arith, nat_tests, pairs_up ts, and_parts)

-- ---- one command after the other

pub without_shorter : (k : ℕ) (lives : List Live) → IsSome (find_ticket k lives) → length (without_ticket k lives) + 1 ≤ length lives
without_shorter k lives there = grind (arith, fewer (λ (y : Live). y.ticket == k) lives)

some_live : (k unit : ℕ) (lives : List Live) → is_in unit lives k ≡ true → IsSome (find_ticket k lives)
some_live k unit [] h = absurd (false≢true h)
some_live k unit (x ∷ lives) h = grind (arith, some_live k unit lives)

-- none has left yet
pub without_none : (lives : List Live) → without_tickets [] lives ≡ lives
without_none lives = filter-true lives

module _ (ts : List ℕ) (k d : ℕ) (inside : k < length ts) where
  abbrev ticket : ℕ
  ticket = get_or ts k d

  -- one more leaves
  pub without_more : (lives : List Live) → without_ticket ticket (without_tickets (take k ts) lives) ≡ without_tickets (take (k + 1) ts) lives
  without_more lives = rw filter-twice (filter-same _ _ lives (λ l. rw (list_any_more (λ t. t == l.ticket) ts k d inside, eq_sym l.ticket ticket) (grind arith)))

  pub leave_next : (unit : ℕ) → leave_each unit (drop k ts) ≡ Leave ticket unit ∷ leave_each unit (drop (k + 1) ts)
  leave_next unit = at_drop_more (leave_each unit) ts k d inside

  -- it is still among the live ones, as it is above those that left
  pub there_yet : (lives : List Live) → AllPairs (λ (a b : ℕ). a < b) ts → IsSome (find_ticket ticket lives) → IsSome (find_ticket ticket (without_tickets (take k ts) lives))
  there_yet lives up there = still_found lives there
    where
      stays : list_any (λ t. t == ticket) (take k ts) ≡ false
      stays = list_any_none _ (take k ts) (λ i e l.
          let within : i < k = omega (arith, length-take-le k ts (omega (arith, inside)), l) in
          let lower : get_or ts i e < get_or ts k e = up i k e within inside in
          ne_eqb _ _ (λ same. absurd (omega (arith, lower, get_or_default ts k e d inside, get_or-take k ts i e within, same))))

      still_found : (ls : List Live) → IsSome (find_ticket ticket ls) → IsSome (find_ticket ticket (without_tickets (take k ts) ls))
      still_found [] there = there
      still_found (l ∷ ls) there = grind (arith, still_found ls, stays)

-- a set has no more commands than are live
pub few_in : (now : Members) (unit : ℕ) (lives : List Live) → tickets_of now ≡ tickets_in unit lives → length now.list ≤ length lives
few_in now unit lives match = grind (arith, nat_tests, length-map, filter-shorter)

-- ---- the covered commands of a set, by their tickets

module _ (now : Members) (covers : Task → Bool) where
  covered_are : covered_tickets covers now.list ≡ tickets (filter (λ m. covers m.task) now.list)
  covered_are = rw (filter-map, map-map)

  pub without_covered : (lives : List Live) → without_tickets (covered_tickets covers now.list) lives ≡ staying covers now lives
  without_covered lives = filter-same _ _ lives (λ l.
      let gone : list_any (λ t. t == l.ticket) (covered_tickets covers now.list) ≡ is_gone covers now l.ticket = rw (covered_are, list_any-map, any_filter) (any_same _ _ now.list (λ m. and_comm (covers m.task) (m.task.ticket == l.ticket))) in ap not gone)

  -- each is among the live ones
  pub covered_live : (unit : ℕ) (lives : List Live) → tickets_of now ≡ tickets_in unit lives → All (λ t. IsSome (find_ticket t lives)) (covered_tickets covers now.list)
  covered_live unit lives match k d l =
      let all : list_all (is_in unit lives) (covered_tickets covers now.list) ≡ true =
      rw (covered_are, list_all-map) (list_all-filter _ _ now.list (sym (list_all-map (is_in unit lives) (λ (m : Member). m.task.ticket) now.list) ∙ rw match (all_in (tickets_in unit lives)))) in
      some_live (get_or (covered_tickets covers now.list) k d) unit lives (AllPass-from_list_all (is_in unit lives) (covered_tickets covers now.list) all k d l)

  -- and their tickets go up
  pub covered_up : rising (tickets now.list) ≡ true → AllPairs (λ (a b : ℕ). a < b) (covered_tickets covers now.list)
  covered_up up = rw covered_are (pairs_up (tickets (filter (λ m. covers m.task) now.list)) (rising-filter now.list up))
    where
      rising-filter : (ms : List Member) → rising (tickets ms) ≡ true → rising (tickets (filter (λ m. covers m.task) ms)) ≡ true
      rising-filter [] up = refl
      rising-filter (x ∷ ms) up = grind (arith, nat_tests, rising-filter ms, and_parts, list_all-map, list_all-filter)

-- the places that are given back one after the other
pub finished_on : (w v : Arrived) (a b c : List Live) → v ≡ finished_by w a b → count_by is_numbered a ≤ w.unfinished → count_by is_numbered c ≤ count_by is_numbered b → count_by is_numbered b ≤ count_by is_numbered a → finished_by v b c ≡ finished_by w a c
finished_on w v a b c is few less_c less_b = rw is (ap (with_unfinished w) (omega arith))

pub finished_none : (w : Arrived) (a : List Live) → finished_by w a a ≡ w
finished_none w a = ap (with_unfinished w) {y = w.unfinished} (omega arith)

-- ---- the one with a ticket

-- what is left of its set, and whether it was there
pub one_leaving : (k : ℕ) (now : Members) → (set_staying (covers_ticket k) now ≡ left_by now (with_ticket k (tasks_in now))) × (is_some (with_ticket k (tasks_in now)) ≡ has_covered (covers_ticket k) now)
one_leaving k now = grind (arith, nat_tests, none_found, some_covered, eqb-true, find-found)

pub one_missing : (k unit : ℕ) (now : Members) (lives : List Live) → tickets_of now ≡ tickets_in unit lives → find_ticket k lives ≡ None → has_covered (covers_ticket k) now ≡ false
one_missing k unit now lives match none = grind (arith, nat_tests, some_live k unit lives, list_any-map (λ t. t == k) (λ (m : Member). m.task.ticket) now.list)

pub one_live : (k : ℕ) (now : Members) (lives : List Live) → cond (has_covered (covers_ticket k) now) (without_ticket k lives) lives ≡ staying (covers_ticket k) now lives
one_live k now lives = simp one_gone (elim (has_covered (covers_ticket k) now) as (λ b. cond b (without_ticket k lives) lives ≡ filter (λ l. not (l.ticket == k && b)) lives) [ true ↦ simp and_true | false ↦ simp (and_false, filter-true) ])

pub one_covered : (k : ℕ) (ms : List Member) → rising (tickets ms) ≡ true → covered_tickets (covers_ticket k) ms ≡ cond (list_any (λ m. m.task.ticket == k) ms) (k ∷ []) []
one_covered k [] up = refl
one_covered k (x ∷ ms) up =
    let parts = and_parts (list_all (λ u. nat_lt x.task.ticket u) (tickets ms)) (rising (tickets ms)) up in
    let none : (x.task.ticket == k) ≡ true → list_any (λ (m : Member). m.task.ticket == k) ms ≡ false =
    λ is. rw (← eqb-true x.task.ticket k is) (simp list_any-map at (none_above x.task.ticket (tickets ms) parts.0)) in
    grind (arith, nat_tests, eqb-true x.task.ticket k, one_covered k ms parts.1, none, none_filtered (λ m. m.task.ticket == k) ms)

pub one_leaves : (k unit : ℕ) (ms : List Member) → rising (tickets ms) ≡ true → cond (list_any (λ m. m.task.ticket == k) ms) (Leave k unit ∷ []) [] ≡ leave_each unit (covered_tickets (covers_ticket k) ms)
one_leaves k unit ms up = rw (one_covered k ms up) (elim (list_any (λ m. m.task.ticket == k) ms) as (λ b. cond b (Leave k unit ∷ []) [] ≡ leave_each unit (cond b (k ∷ []) [])) [ true ↦ refl | false ↦ refl ])

-- ---- a unit is told

-- what is given isn't owed any more
ungiven-given : (ms : List Member) → count_by (λ m. not m.given) (map as_given ms) + count_by is_new ms ≡ count_by (λ m. not m.given) ms
ungiven-given [] = refl
ungiven-given (x ∷ ms) =
    grind (arith, ungiven-given ms, sum_by-cons (λ (m : Member). cond (not m.given) 1 0) (as_given x) (map as_given ms), sum_by-cons (λ m. cond (is_new m) 1 0) x ms, sum_by-cons (λ (m : Member). cond (not m.given) 1 0) x ms)

pub owed-given : (sets : List Members) (unit : ℕ) → unit < length sets → ungiven_in (set sets unit (all_given (get_or sets unit (opened 0)))) + count_by is_new (get_or sets unit (opened 0)).list ≡ ungiven_in sets
owed-given sets unit inside = omega (arith, ungiven_in-set sets unit (all_given (get_or sets unit (opened 0))) inside, ungiven-given (get_or sets unit (opened 0)).list)

pub Match-given : (sets : List Members) (lives : List Live) (unit : ℕ) → Match sets lives → unit < length sets → Match (set sets unit (all_given (get_or sets unit (opened 0)))) lives
Match-given sets lives unit m inside = match_set sets lives lives unit (all_given (get_or sets unit (opened 0))) inside m (rw map-map (m unit inside)) (λ u apart. refl)

-- ==== a live command is found by its tag, which no other one has, by its unit, or by its ticket

-- some command passes just where one is found
pub any_found : (q : Live → Bool) (lives : List Live) → list_any q lives ≡ is_some (find q lives)
any_found q [] = refl
any_found q (x ∷ lives) = elim (q x) as (λ b. (b || list_any q lives) ≡ is_some (cond b (Some x) (find q lives))) [ true ↦ refl | false ↦ any_found q lives ]

-- the command that is found by its tag, if it passes
abbrev pub passing : (Live → Bool) → Option Live → Option Live
passing q x = elim x [ Some l ↦ cond (q l) (Some l) None | None ↦ None ]

none_later : (q : Live → Bool) (itt : ℕ) (lives : List Live) → All (λ l. (l.itt == itt) ≡ false) lives → find (λ l. q l && l.itt == itt) lives ≡ None
none_later q itt [] none = refl
none_later q itt (x ∷ lives) none =
    rw (All-head (λ l. (l.itt == itt) ≡ false) x lives none, and_false (q x)) (none_later q itt lives (All-tail (λ l. (l.itt == itt) ≡ false) x lives none))

-- a tag is that of one command at the most
pub find_passing : (q : Live → Bool) (lives : List Live) (itt : ℕ) → AreTagsApart lives → find (λ l. q l && l.itt == itt) lives ≡ passing q (find (λ l. l.itt == itt) lives)
find_passing q [] itt apart = refl
find_passing q (x ∷ lives) itt apart =
    let others : x.itt ≡ itt → All (λ l. (l.itt == itt) ≡ false) lives = λ this k d within. ne_eqb _ _ (λ tag. apart zero (suc k) d (omega arith) (omega (arith, within)) (this ∙ sym tag)) in
    grind (arith, nat_tests, eqb-true, and_false, others, none_later q itt lives, find_passing q lives itt (λ i j d lt within. apart (suc i) (suc j) d (omega (arith, lt)) (omega (arith, within))))

-- ---- commands of a unit

pub any_filtered : (p : Live → Bool) (lives : List Live) → list_any p lives ≡ nat_lt 0 (length (filter p lives))
any_filtered p [] = refl
any_filtered p (x ∷ lives) = grind (arith, nat_tests, any_filtered p lives, lt-ltb)

-- a set has a command just where the unit has a live one
pub any_in_set : (sets : List Members) (lives : List Live) (unit i : ℕ) (set : Members) → Match sets lives → i ≡ unit → set ≡ get_or sets i set → unit < length sets → nat_lt 0 (length set.list) ≡ list_any (λ l. l.unit == unit) lives
any_in_set sets lives unit i set match at read inside = grind (arith, nat_tests, get_or_default, length-map, any_filtered)

pub ruleset unit_steps = (lt-ltb, get_or_default, length-map, any_filtered, any_in_set, nat_tests)

-- ---- a ticket in a set

-- it is the only one, if it is there
pub noted : (k unit : ℕ) (now : Members) (lives : List Live) (there : Bool) → tickets_of now ≡ tickets_in unit lives → are_ascending lives ≡ true → has_covered (covers_ticket k) now ≡ there → covered_tickets (covers_ticket k) now.list ≡ cond there (k ∷ []) []
noted k unit now lives there match up has = rw has at (one_covered k now.list (rw match (rising_in unit lives up)))

pub ruleset ticket_steps = (get_or_default, set-get_or, one_leaving, one_missing, one_covered, rising_in, noted, nat_tests)

-- ==== the commands that became enabled: those of a set are given one after the other, and each unit is told of its own

-- a command is given
pub record Given (unit ticket : ℕ) (ms : List Member) : Type 0 where
  pub same : map as_given (given_in ms) ≡ map as_given ms
  pub effects : enable_effects unit ms ≡ Enable ticket unit ∷ enable_effects unit (given_in ms)
  pub fewer : count_by is_new (given_in ms) + 1 ≡ count_by is_new ms

counts : (b : Bool) (x : Member) (xs : List Member) → is_new x ≡ b → count_by is_new (x ∷ xs) ≡ cond b 1 0 + count_by is_new xs
counts b x xs is = rw (← is) (sum_by-cons (λ y. cond (is_new y) 1 0) x xs)

pub given_one : (unit ticket : ℕ) (ms : List Member) → next_in ms ≡ Some ticket → Given unit ticket ms
given_one unit ticket [] h = absurd cc
given_one unit ticket (m ∷ ms) h = by_new (is_new m) refl (given_one unit ticket ms)
  where
    now : Member
    now = record { task = m.task; enabled = m.enabled; given = true }

    never : is_new now ≡ false
    never = grind arith

    by_new : (b : Bool) → is_new m ≡ b → (next_in ms ≡ Some ticket → Given unit ticket ms) → Given unit ticket (m ∷ ms)
    by_new true is by_rest =
        let same : m.task.ticket ≡ ticket = cc in
        let given : (m.given || m.enabled) ≡ true = grind arith in
        let now_is : given_in (m ∷ ms) ≡ now ∷ ms = rw is in
        record { same = rw (is, given); effects = rw (now_is, is, never, same); fewer = omega (arith, counts true m ms is, counts false now ms never, ap (count_by is_new) now_is) }
    by_new false is by_rest = grind (arith, nat_tests)

-- none is left to be given
pub record AllGiven (unit : ℕ) (ms : List Member) : Type 0 where
  pub same : map as_given ms ≡ ms
  pub effects : enable_effects unit ms ≡ []
  pub unchanged : given_in ms ≡ ms
  pub none_new : count_by is_new ms ≡ 0

pub given_all : (unit : ℕ) (ms : List Member) → next_in ms ≡ None → AllGiven unit ms
given_all unit [] h = record { same = refl; effects = refl; unchanged = refl; none_new = refl }
given_all unit (m ∷ ms) h = grind (arith, nat_tests, given_all unit ms)

-- ---- each unit is told of its commands, one unit after the other

given_again : (ms : List Member) → map as_given (map as_given ms) ≡ map as_given ms
given_again [] = refl
given_again (m ∷ ms) = grind (arith, nat_tests, given_again ms)

pub given_set : (sets : List Members) (u : ℕ) → map all_given (set sets u (all_given (get_or sets u (opened 0)))) ≡ map all_given sets
given_set [] u = refl
given_set (s ∷ sets) zero = rw (given_again s.list)
given_set (s ∷ sets) (suc u) = rw (given_set sets u)

pub told_more : (sets : List Members) (u : ℕ) → u < length sets → ((k : ℕ) → k < u → all_given (get_or sets k (opened 0)) ≡ get_or sets k (opened 0))
    → (k : ℕ) → k < u + 1 → all_given (get_or (set sets u (all_given (get_or sets u (opened 0)))) k (opened 0)) ≡ get_or (set sets u (all_given (get_or sets u (opened 0)))) k (opened 0)
told_more sets u inside told k lt = grind (arith, nat_tests, get_or-set_at, given_again, get_or-set_other)

pub told_all : (sets : List Members) → ((k : ℕ) → k < length sets → all_given (get_or sets k (opened 0)) ≡ get_or sets k (opened 0)) → map all_given sets ≡ sets
told_all [] told = refl
told_all (s ∷ sets) told = ap (λ t. t ∷ map all_given sets) (told 0 (omega arith)) ∙ rw (told_all sets (λ k lt. told (suc k) (omega (arith, lt))))

-- a unit that was told doesn't matter to the later ones
pub told_later : (sets : List Members) (u : ℕ) (now : Members) (n e : ℕ) → u < e
    → flat_map (λ unit. enable_effects unit (get_or (set sets u now) unit (opened 0)).list) (range_with_len e n) ≡ flat_map (λ unit. enable_effects unit (get_or sets unit (opened 0)).list) (range_with_len e n)
told_later sets u now zero e lt = refl
told_later sets u now (suc n) e lt = rw (get_or-set_other sets u e now (opened 0) (λ same. omega (arith, same, lt)), told_later sets u now n (e + 1) (omega (arith, lt)))
