-- Where there is room for a request, there is room for it still behind its numbers; and a Logout that tells of a lost connection is read.
use Rattle.std.proofs.Common.{◌≡◌, ℕ, zero, suc, ◌+◌, ◌≤◌, ◌<◌, ◌==◌, ◌&&◌, ◌||◌, not, cond, nat_lt, max, Bool, true, false, List, [], ◌∷◌, ◌++◌, map, drop, count_by, refl, ap, sym, ◌∙◌, arith}
use Rattle.std.specs.Prelude.{sum_by}
use Rattle.std.specs.List.{list_any}
use Rattle.std.proofs.lemmas.Bool.{cond_both, eqb-true}
use Rattle.std.proofs.lemmas.Bool.Decides.{nat_tests}
use Rattle.std.proofs.lemmas.List.Sums.{sum_by-append, sum_by-cons}
use Rattle.iscsi_wire.specs.Fields.{request_of}
use Rattle.iscsi_rules.specs.declared.event.Event.TheVariants.{Arrive}
use Rattle.iscsi_rules.specs.rules.Settings.{are_distinct, is_known}
use Rattle.iscsi_rules.proofs.general.BoolLemmas.{and_both, and_parts, not_true, or_first, or_none, or_second}
use Rattle.iscsi_rules.proofs.general.CountLemmas.{count-cons, count-weaker, one}
use Rattle.iscsi_outbox_rules.specs.rules.Boxes.{Answer, Box, Handed, Link, Outgoing, Task}
use Rattle.iscsi_outbox_rules.specs.rules.Calls.{Hears, Loses, Opening}
use Rattle.iscsi_outbox_rules.specs.rules.Due.{is_due, settle, settle_from}
use Rattle.iscsi_outbox_rules.specs.rules.Queues.{append, at_link, drop_on, enter, takes_more}
use Rattle.iscsi_outbox_rules.specs.rules.Run.{after_call, arrived_by_ping, arrived_by_stat_sn, link_heard, link_lost}
use Rattle.iscsi_outbox_rules.specs.rules.Words.{has_under_way, is_left_phase, is_of, is_open, is_reply, is_running_phase, looks_for_arrival, may_take, owes, owing, replies_waiting, room}
use Rattle.iscsi_outbox_rules.specs.promises.Room.{Both, Happens, is_parting, is_read_with_room}
use Rattle.iscsi_outbox_rules.proofs.commands.TaskLives.{settled_tasks}
use Rattle.iscsi_outbox_law.proofs.general.PlaceLemmas.{conns_of}
use Rattle.iscsi_ffi_rules.specs.rules.Run.{parting}
use Rattle.iscsi_ffi_law.proofs.outbox_invariants.FitLinks.{IsQueueRule, Moves, moved_at, moved_by, moved_dropped, moved_settled}

-- ---- no two connections have one CID

abbrev pub AreAlone : List Link → Type 0
AreAlone links = (x : ℕ) → count_by (λ (l : Link). l.conn == x) links ≤ 1

count_conns : (x : ℕ) (links : List Link) → count_by (λ (l : Link). l.conn == x) links ≡ count_by (λ (c : ℕ). c == x) (conns_of links)
count_conns x [] = refl
count_conns x (l ∷ links) = omega (arith, count_conns x links, count-cons (λ (m : Link). m.conn == x) l links, count-cons (λ (c : ℕ). c == x) l.conn (conns_of links))

none_known : (x : ℕ) (cs : List (ℕ × ℕ)) → is_known x cs ≡ false → count_by (λ (c : ℕ). c == x) (map (λ (c : ℕ × ℕ). c.0) cs) ≤ 0
none_known x [] h = omega arith
none_known x (c ∷ cs) h =
    let parts = or_none (c.0 == x) (is_known x cs) h in
    omega (arith, count-cons (λ (d : ℕ). d == x) c.0 (map (λ (d : ℕ × ℕ). d.0) cs), ap one parts.0, none_known x cs parts.1)

distinct_alone : (cs : List (ℕ × ℕ)) → are_distinct cs ≡ true → (x : ℕ) → count_by (λ (c : ℕ). c == x) (map (λ (c : ℕ × ℕ). c.0) cs) ≤ 1
distinct_alone [] h x = omega arith
distinct_alone (c ∷ cs) h x = let parts = and_parts (not (is_known c.0 cs)) (are_distinct cs) h in by_first parts.0 (distinct_alone cs parts.1 x) (c.0 == x) refl
  where
    by_first : not (is_known c.0 cs) ≡ true → count_by (λ (d : ℕ). d == x) (map (λ (d : ℕ × ℕ). d.0) cs) ≤ 1 → (v : Bool) → (c.0 == x) ≡ v → count_by (λ (d : ℕ). d == x) (c.0 ∷ map (λ (d : ℕ × ℕ). d.0) cs) ≤ 1
    by_first apart rest true is =
        let none = none_known x cs (ap (λ n. is_known n cs) (sym (eqb-true c.0 x is)) ∙ not_true (is_known c.0 cs) apart) in
        omega (arith, count-cons (λ (d : ℕ). d == x) c.0 (map (λ (d : ℕ × ℕ). d.0) cs), ap one is, none)
    by_first apart rest false is = omega (arith, count-cons (λ (d : ℕ). d == x) c.0 (map (λ (d : ℕ × ℕ). d.0) cs), ap one is, rest)

pub alone_of : (cs : List (ℕ × ℕ)) (links : List Link) → are_distinct cs ≡ true → conns_of links ≡ map (λ (c : ℕ × ℕ). c.0) cs → AreAlone links
alone_of cs links distinct same x = let all = count_conns x links in let few = distinct_alone cs distinct x in let e = ap (count_by (λ (c : ℕ). c == x)) same in omega (arith, all, few, e)

-- ---- replies that wait

abbrev in_queue : Link → ℕ
in_queue l = count_by (λ (out : Outgoing). is_reply out.pdu) l.queue

abbrev on_links : List Link → ℕ
on_links links = sum_by in_queue links

abbrev not_due : List Answer → ℕ
not_due answers = count_by (λ (a : Answer). is_reply a.out.pdu) answers

appended : (out : Outgoing) (l : Link) → in_queue (append out l) ≤ in_queue l + one (is_reply out.pdu)
appended out l =
    cond_both (takes_more l) (record l { queue = l.queue ++ out ∷ [] }) l (λ (m : Link). in_queue m ≤ in_queue l + one (is_reply out.pdu))
    (λ may. omega (arith, sum_by-append (λ (x : Outgoing). cond (is_reply x.pdu) 1 0) l.queue (out ∷ []), count-cons (λ (x : Outgoing). is_reply x.pdu) out []))
    (λ may. omega arith)

entered_none : (conn : ℕ) (out : Outgoing) (links : List Link) → count_by (λ (l : Link). l.conn == conn) links ≤ 0 → on_links (at_link conn (append out) links) ≤ on_links links
entered_none conn out [] few = omega arith
entered_none conn out (l ∷ links) few = by_first (entered_none conn out links) (l.conn == conn) refl
  where
    all : count_by (λ (m : Link). m.conn == conn) (l ∷ links) ≡ one (l.conn == conn) + count_by (λ (m : Link). m.conn == conn) links
    all = count-cons (λ (m : Link). m.conn == conn) l links

    by_first : (count_by (λ (m : Link). m.conn == conn) links ≤ 0 → on_links (at_link conn (append out) links) ≤ on_links links) → (v : Bool) → (l.conn == conn) ≡ v
        → on_links (cond v (append out l) l ∷ at_link conn (append out) links) ≤ on_links (l ∷ links)
    by_first further true is = absurd (let here = ap one is in let z : ⊥ = omega (arith, all, here, few) in z)
    by_first further false is =
        let here = ap one is in
        let rest = further (omega (arith, all, here, few)) in
        omega (arith, rest, sum_by-cons in_queue l links, sum_by-cons in_queue l (at_link conn (append out) links))

entered_one : (conn : ℕ) (out : Outgoing) (links : List Link) → count_by (λ (l : Link). l.conn == conn) links ≤ 1 → on_links (at_link conn (append out) links) ≤ on_links links + one (is_reply out.pdu)
entered_one conn out [] few = omega arith
entered_one conn out (l ∷ links) few = by_first (entered_one conn out links) (l.conn == conn) refl
  where
    all : count_by (λ (m : Link). m.conn == conn) (l ∷ links) ≡ one (l.conn == conn) + count_by (λ (m : Link). m.conn == conn) links
    all = count-cons (λ (m : Link). m.conn == conn) l links

    by_first : (count_by (λ (m : Link). m.conn == conn) links ≤ 1 → on_links (at_link conn (append out) links) ≤ on_links links + one (is_reply out.pdu)) → (v : Bool) → (l.conn == conn) ≡ v
        → on_links (cond v (append out l) l ∷ at_link conn (append out) links) ≤ on_links (l ∷ links) + one (is_reply out.pdu)
    by_first further true is =
        let here = ap one is in
        let rest = entered_none conn out links (omega (arith, all, here, few)) in
        let first = appended out l in
        omega (arith, rest, first, sum_by-cons in_queue l links, sum_by-cons in_queue (append out l) (at_link conn (append out) links))
    by_first further false is =
        let rest = further (omega (arith, all, few)) in
        omega (arith, rest, sum_by-cons in_queue l links, sum_by-cons in_queue l (at_link conn (append out) links))

same_conns : (conn : ℕ) (out : Outgoing) (links : List Link) → AreAlone links → AreAlone (at_link conn (append out) links)
same_conns conn out links alone x = omega (arith, alone x, same links)
  where
    kept : (l : Link) → (cond (l.conn == conn) (append out l) l).conn ≡ l.conn
    kept l = cond_both (l.conn == conn) (append out l) l (λ (m : Link). m.conn ≡ l.conn) (λ is. cond_both (takes_more l) (record l { queue = l.queue ++ out ∷ [] }) l (λ (m : Link). m.conn ≡ l.conn) (λ may. refl) (λ may. refl)) (λ is. refl)

    same : (ls : List Link) → count_by (λ (l : Link). l.conn == x) (at_link conn (append out) ls) ≡ count_by (λ (l : Link). l.conn == x) ls
    same [] = refl
    same (l ∷ ls) =
        let here = ap (λ (n : ℕ). one (n == x)) (kept l) in
        omega (arith, here, same ls, count-cons (λ (m : Link). m.conn == x) l ls, count-cons (λ (m : Link). m.conn == x) (cond (l.conn == conn) (append out l) l) (at_link conn (append out) ls))

settled_few : (o : Opening) (before rest : List Answer) (b : Box) → AreAlone b.links → replies_waiting (settle_from o before rest b) ≤ not_due before + not_due rest + on_links b.links
settled_few o before [] b alone = omega arith
settled_few o before (a ∷ rest) b alone =
    cond_both (is_due o b before a) (settle_from o before rest (enter a.conn a.out b)) (settle_from o (before ++ a ∷ []) rest b) (λ (x : Box). replies_waiting x ≤ not_due before + not_due (a ∷ rest) + on_links b.links)
    (λ due.
    let out : Outgoing = record a.out { time = b.time } in
    let later = settled_few o before rest (enter a.conn a.out b) (same_conns a.conn out b.links alone) in
    let one_more = entered_one a.conn out b.links (alone a.conn) in
    omega (arith, later, one_more, count-cons (λ (x : Answer). is_reply x.out.pdu) a rest))
    (λ undue.
    let later = settled_few o (before ++ a ∷ []) rest b alone in
    omega (arith, later, sum_by-append (λ (x : Answer). cond (is_reply x.out.pdu) 1 0) before (a ∷ []), count-cons (λ (x : Answer). is_reply x.out.pdu) a rest, count-cons (λ (x : Answer). is_reply x.out.pdu) a []))

-- ---- what is under way

-- no more is under way
abbrev IsLess : Opening → Link → Link → Type 0
IsLess o l m = (these : ℕ → Bool) → has_under_way o these m ≡ true → has_under_way o these l ≡ true

less_rule : (o : Opening) → IsQueueRule (IsLess o)
less_rule o = record { same = λ l these h. h; queued = λ l queue may these h. h; then = λ l m n f g these h. f these (g these h) }

any_drop : (p : Handed → Bool) (a b : ℕ) (xs : List Handed) → a ≤ b → list_any p (drop b xs) ≡ true → list_any p (drop a xs) ≡ true
any_drop p zero zero xs le h = h
any_drop p zero (suc b) [] le h = h
any_drop p zero (suc b) (x ∷ xs) le h = or_second (p x) (list_any p xs) (any_drop p zero b xs (omega arith) h)
any_drop p (suc a) zero xs le h = absurd (let z : ⊥ = omega (arith, le) in z)
any_drop p (suc a) (suc b) [] le h = h
any_drop p (suc a) (suc b) (x ∷ xs) le h = any_drop p a b xs (omega (arith, le)) h

heard_less : (o : Opening) (exp_stat_sn tag : ℕ) (l : Link) → IsLess o l (link_heard exp_stat_sn tag l)
heard_less o exp_stat_sn tag l these h = by_open (is_open l) refl h
  where
    to : ℕ
    to = max l.arrived (max (arrived_by_stat_sn l exp_stat_sn) (arrived_by_ping l tag))

    m : Link
    m = record l { arrived = to }

    p : Handed → Bool
    p x = is_of these x.out

    by_looks : (v : Bool) → list_any (λ (x : Handed). is_of these x.out) (cond v (drop (max l.arrived (max (arrived_by_stat_sn l exp_stat_sn) (arrived_by_ping l tag))) l.handed) (drop l.written l.handed)) ≡ true
        → list_any (λ (x : Handed). is_of these x.out) (cond v (drop l.arrived l.handed) (drop l.written l.handed)) ≡ true
    by_looks true k = any_drop (λ (x : Handed). is_of these x.out) l.arrived (max l.arrived (max (arrived_by_stat_sn l exp_stat_sn) (arrived_by_ping l tag))) l.handed (omega arith) k
    by_looks false k = k

    by_open : (v : Bool) → is_open l ≡ v → has_under_way o these (cond v (record l { arrived = max l.arrived (max (arrived_by_stat_sn l exp_stat_sn) (arrived_by_ping l tag)) }) l) ≡ true → has_under_way o these l ≡ true
    by_open true is k =
        ap (λ v. list_any (λ (x : Handed). is_of these x.out) (cond v (cond (looks_for_arrival o) (drop l.arrived l.handed) (drop l.written l.handed)) [])) is
        ∙ by_looks (looks_for_arrival o) (sym (ap (λ v. list_any (λ (x : Handed). is_of these x.out) (cond v (cond (looks_for_arrival o) (drop (max l.arrived (max (arrived_by_stat_sn l exp_stat_sn) (arrived_by_ping l tag))) l.handed) (drop l.written l.handed)) [])) is) ∙ k)
    by_open false is k = k

any_moved : (o : Opening) (these : ℕ → Bool) (f : Link → Link) (links : List Link) → ((l : Link) → IsLess o l (f l)) → list_any (has_under_way o these) (map f links) ≡ true → list_any (has_under_way o these) links ≡ true
any_moved o these f [] less h = h
any_moved o these f (l ∷ links) less h = by_first (any_moved o these f links less) (has_under_way o these (f l)) refl h
  where
    by_first : (list_any (has_under_way o these) (map f links) ≡ true → list_any (has_under_way o these) links ≡ true) → (v : Bool) → has_under_way o these (f l) ≡ v → (v || list_any (has_under_way o these) (map f links)) ≡ true → (has_under_way o these l || list_any (has_under_way o these) links) ≡ true
    by_first further true is k = or_first (has_under_way o these l) (list_any (has_under_way o these) links) (less l these is)
    by_first further false is k = or_second (has_under_way o these l) (list_any (has_under_way o these) links) (further k)

module _ (o : Opening) (b : Box) (conn exp_stat_sn tag : ℕ) where
  abbrev heard : Box
  heard = record b { links = at_link conn (link_heard exp_stat_sn tag) b.links }

  abbrev after : Box
  after = after_call o b (Hears conn exp_stat_sn tag)

  way : Moves (IsLess o) b.links (settle o (record b { links = at_link conn (link_heard exp_stat_sn tag) b.links })).links
  way =
      moved_by o (IsLess o) (less_rule o) b.links (at_link conn (link_heard exp_stat_sn tag) b.links) (settle o (record b { links = at_link conn (link_heard exp_stat_sn tag) b.links })).links
      (moved_at o (IsLess o) (less_rule o) conn (link_heard exp_stat_sn tag) b.links (heard_less o exp_stat_sn tag)) (moved_settled o (IsLess o) (less_rule o) (record b { links = at_link conn (link_heard exp_stat_sn tag) b.links }))

  less_owing : owing o (after_call o b (Hears conn exp_stat_sn tag)) ≤ owing o b
  less_owing =
      let b' : Box = record b { links = at_link conn (link_heard exp_stat_sn tag) b.links } in
      let same = ap (count_by (owes o (settle o b'))) (settled_tasks o b') in
      let fewer = count-weaker (owes o (settle o b')) (owes o b) b.tasks (λ t h. by_phase t (is_running_phase t.phase) (is_left_phase t.phase) h) in
      omega (arith, same, fewer)
    where
      by_phase : (t : Task) (u v : Bool) → (u || (v && list_any (has_under_way o (λ ticket. ticket == t.ticket)) (settle o (record b { links = at_link conn (link_heard exp_stat_sn tag) b.links })).links)) ≡ true → (u || (v && list_any (has_under_way o (λ ticket. ticket == t.ticket)) b.links)) ≡ true
      by_phase t true v h = refl
      by_phase t false true h = any_moved o (λ ticket. ticket == t.ticket) way.by b.links way.each (sym (ap (list_any (has_under_way o (λ ticket. ticket == t.ticket))) way.is) ∙ h)
      by_phase t false false h = h

  kept_queue : (l : Link) → in_queue (cond (l.conn == conn) (link_heard exp_stat_sn tag l) l) ≡ in_queue l
  kept_queue l =
      cond_both (l.conn == conn) (link_heard exp_stat_sn tag l) l (λ (m : Link). in_queue m ≡ in_queue l)
      (λ here. cond_both (is_open l) (record l { arrived = max l.arrived (max (arrived_by_stat_sn l exp_stat_sn) (arrived_by_ping l tag)) }) l (λ (m : Link). in_queue m ≡ in_queue l) (λ is. refl) (λ is. refl)) (λ other. refl)

  kept_conn : (l : Link) → (cond (l.conn == conn) (link_heard exp_stat_sn tag l) l).conn ≡ l.conn
  kept_conn l =
      cond_both (l.conn == conn) (link_heard exp_stat_sn tag l) l (λ (m : Link). m.conn ≡ l.conn)
      (λ here. cond_both (is_open l) (record l { arrived = max l.arrived (max (arrived_by_stat_sn l exp_stat_sn) (arrived_by_ping l tag)) }) l (λ (m : Link). m.conn ≡ l.conn) (λ is. refl) (λ is. refl)) (λ other. refl)

  same_queues : (links : List Link) → on_links (at_link conn (link_heard exp_stat_sn tag) links) ≡ on_links links
  same_queues [] = refl
  same_queues (l ∷ links) =
      let here = kept_queue l in
      omega (arith, here, same_queues links, sum_by-cons in_queue l links, sum_by-cons in_queue (cond (l.conn == conn) (link_heard exp_stat_sn tag l) l) (at_link conn (link_heard exp_stat_sn tag) links))

  still_alone : AreAlone b.links → AreAlone (at_link conn (link_heard exp_stat_sn tag) b.links)
  still_alone alone x = omega (arith, alone x, same b.links)
    where
      same : (ls : List Link) → count_by (λ (l : Link). l.conn == x) (at_link conn (link_heard exp_stat_sn tag) ls) ≡ count_by (λ (l : Link). l.conn == x) ls
      same [] = refl
      same (l ∷ ls) =
          let here = ap (λ (n : ℕ). one (n == x)) (kept_conn l) in
          omega (arith, here, same ls, count-cons (λ (m : Link). m.conn == x) l ls, count-cons (λ (m : Link). m.conn == x) (cond (l.conn == conn) (link_heard exp_stat_sn tag l) l) (at_link conn (link_heard exp_stat_sn tag) ls))

  less_waiting : AreAlone b.links → replies_waiting (after_call o b (Hears conn exp_stat_sn tag)) ≤ replies_waiting b
  less_waiting alone =
      let b' : Box = record b { links = at_link conn (link_heard exp_stat_sn tag) b.links } in
      let few = settled_few o [] b.undue b' (still_alone alone) in
      let same = same_queues b.links in
      omega (arith, few, same)

  pub heard_room : AreAlone b.links → may_take o b ≡ true → may_take o (after_call o b (Hears conn exp_stat_sn tag)) ≡ true
  heard_room alone may =
      let parts = and_parts (nat_lt (replies_waiting b) (room o)) (nat_lt (owing o b) (room o)) may in
      let first : nat_lt (replies_waiting b) (room o) ≡ true = parts.0 in
      let second : nat_lt (owing o b) (room o) ≡ true = parts.1 in
      let waiting : replies_waiting b < room o = grind (arith, nat_tests) in
      let owed : owing o b < room o = grind (arith, nat_tests) in
      let less : replies_waiting (after_call o b (Hears conn exp_stat_sn tag)) < room o = omega (arith, waiting, less_waiting alone) in
      let fewer : owing o (after_call o b (Hears conn exp_stat_sn tag)) < room o = omega (arith, owed, less_owing) in
      and_both (nat_lt (replies_waiting (after_call o b (Hears conn exp_stat_sn tag))) (room o)) (nat_lt (owing o (after_call o b (Hears conn exp_stat_sn tag))) (room o)) (grind (arith, nat_tests)) (grind (arith, nat_tests))

-- ---- a connection that is lost

-- a lost one is lost still
abbrev StaysLost : Link → Link → Type 0
StaysLost l m = (m.conn ≡ l.conn) × (l.lost ≡ true → m.lost ≡ true)

lost_rule : IsQueueRule StaysLost
lost_rule = record { same = λ l. (refl, λ h. h); queued = λ l queue may. (refl, λ h. h); then = λ l m n f g. (g.0 ∙ f.0, λ h. g.1 (f.1 h)) }

still_lost : (conn : ℕ) (f : Link → Link) (links : List Link) → ((l : Link) → StaysLost l (f l)) → list_any (λ (l : Link). l.conn == conn && l.lost) links ≡ true → list_any (λ (l : Link). l.conn == conn && l.lost) (map f links) ≡ true
still_lost conn f [] stays h = h
still_lost conn f (l ∷ links) stays h = by_first (still_lost conn f links stays) (l.conn == conn && l.lost) refl h
  where
    by_first : (list_any (λ (m : Link). m.conn == conn && m.lost) links ≡ true → list_any (λ (m : Link). m.conn == conn && m.lost) (map f links) ≡ true) → (v : Bool) → (l.conn == conn && l.lost) ≡ v → (v || list_any (λ (m : Link). m.conn == conn && m.lost) links) ≡ true → (((f l).conn == conn && (f l).lost) || list_any (λ (m : Link). m.conn == conn && m.lost) (map f links)) ≡ true
    by_first further true is k =
        let parts = and_parts (l.conn == conn) l.lost is in
        or_first ((f l).conn == conn && (f l).lost) (list_any (λ (m : Link). m.conn == conn && m.lost) (map f links))
        (and_both ((f l).conn == conn) (f l).lost (ap (λ n. n == conn) (stays l).0 ∙ parts.0) ((stays l).1 parts.1))
    by_first further false is k = or_second ((f l).conn == conn && (f l).lost) (list_any (λ (m : Link). m.conn == conn && m.lost) (map f links)) (further k)

now_lost : (conn : ℕ) (links : List Link) → list_any (λ (l : Link). l.conn == conn) links ≡ true → list_any (λ (l : Link). l.conn == conn && l.lost) (at_link conn link_lost links) ≡ true
now_lost conn [] h = h
now_lost conn (l ∷ links) h = by_first (now_lost conn links) (l.conn == conn) refl h
  where
    by_first : (list_any (λ (m : Link). m.conn == conn) links ≡ true → list_any (λ (m : Link). m.conn == conn && m.lost) (at_link conn link_lost links) ≡ true) → (v : Bool) → (l.conn == conn) ≡ v → (v || list_any (λ (m : Link). m.conn == conn) links) ≡ true → (((cond v (link_lost l) l).conn == conn && (cond v (link_lost l) l).lost) || list_any (λ (m : Link). m.conn == conn && m.lost) (at_link conn link_lost links)) ≡ true
    by_first further true is k = or_first (l.conn == conn && true) (list_any (λ (m : Link). m.conn == conn && m.lost) (at_link conn link_lost links)) (and_both (l.conn == conn) true is refl)
    by_first further false is k = or_second (l.conn == conn && l.lost) (list_any (λ (m : Link). m.conn == conn && m.lost) (at_link conn link_lost links)) (further k)

module _ (o : Opening) (b : Box) (conn : ℕ) where
  pub lost_there : list_any (λ (l : Link). l.conn == conn) b.links ≡ true → list_any (λ (l : Link). l.conn == conn && l.lost) (after_call o b (Loses conn)).links ≡ true
  lost_there some =
      let lost : Box = record b { links = at_link conn link_lost b.links; reached = 0 } in
      let dropped : Box = drop_on conn lost in
      let way : Moves StaysLost lost.links (settle o dropped).links
      = moved_by o StaysLost lost_rule lost.links dropped.links (settle o dropped).links (moved_dropped o StaysLost lost_rule conn lost) (moved_settled o StaysLost lost_rule dropped) in
      ap (list_any (λ (l : Link). l.conn == conn && l.lost)) way.is ∙ still_lost conn way.by lost.links way.each (now_lost conn b.links some)

-- the Logout of a lost connection is read
pub parting_read : (o : Opening) (s : Both) (conn : ℕ) → is_known conn o.session.conns ≡ true → list_any (λ (l : Link). l.conn == conn && l.lost) s.box.links ≡ true → is_read_with_room o s (Happens (Arrive conn (parting conn))) ≡ true
parting_read o s conn known lost =
    and_both (is_known conn o.session.conns) (may_take o s.box || is_parting s (request_of conn (parting conn))) known
    (or_second (may_take o s.box) (is_parting s (request_of conn (parting conn))) lost)
