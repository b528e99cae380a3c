-- How many replies wait: with each item one more at the most, where it sends one on a connection that isn't lost, and no more with any
-- other call.
use Rattle.std.proofs.Common.{◌≡◌, ℕ, ◌+◌, ◌≤◌, ◌==◌, ◌&&◌, ◌||◌, not, cond, Bool, true, false, List, [], ◌∷◌, ◌++◌, map, filter_map, count_by, Option, Some, None, refl, ap, sym, ◌∙◌, arith}
use Rattle.std.specs.List.{list_any, sum_by}
use Rattle.std.proofs.lemmas.Bool.{and_left, and_right, cond_both, false≢true, eqb-true, not_from_true}
use Rattle.std.proofs.lemmas.List.Sums.{sum_by-cons, sum_by-append}
use Rattle.iscsi_wire.specs.declared.reply.Reply.{Reply}
use Rattle.iscsi_wire.specs.declared.request.Request.{Request}
use Rattle.iscsi_rules.specs.declared.effect.Effect.{Effect}
use Rattle.iscsi_rules.specs.rules.Trace.{first_of}
use Rattle.iscsi_rules.proofs.general.ListLemmas.{fewer_counted, count_by-push}
use Rattle.iscsi_rules.proofs.general.CountLemmas.{one, count-cons}
use Rattle.iscsi_outbox_rules.specs.rules.Calls.{Opening}
use Rattle.iscsi_outbox_rules.specs.rules.Boxes.{Outgoing, Aim, Answer, Link, Box}
use Rattle.iscsi_outbox_rules.specs.rules.Words.{is_open, is_reply, replies_waiting}
use Rattle.iscsi_outbox_rules.specs.rules.Queues.{at_link, takes_more, append, enter, without, emptied}
use Rattle.iscsi_outbox_rules.specs.rules.Items.{executing, tickets_left, reply_sent, outgoing, answer, send_as, aim, send}
use Rattle.iscsi_outbox_rules.proofs.general.EachLemmas.{EachOf, each-map, each-at_link}
use Rattle.iscsi_outbox_rules.proofs.general.Walks.{Walk}

abbrev pub replies_in : Link → ℕ
replies_in l = count_by (λ (out : Outgoing). is_reply out.pdu) l.queue

abbrev pub replies_on : List Link → ℕ
replies_on links = sum_by replies_in links

abbrev pub replies_undue : List Answer → ℕ
replies_undue answers = count_by (λ (a : Answer). is_reply a.out.pdu) answers

-- no two connections have one CID
abbrev pub AreOne : List Link → Type 0
AreOne links = (c : ℕ) → count_by (λ (l : Link). l.conn == c) links ≤ 1

-- ---- connections that change

conns_map : (change : Link → Link) → ((l : Link) → (change l).conn ≡ l.conn) → (c : ℕ) (links : List Link) → count_by (λ (l : Link). l.conn == c) (map change links) ≡ count_by (λ (l : Link). l.conn == c) links
conns_map change same c [] = refl
conns_map change same c (l ∷ links) =
    omega (arith, count-cons (λ (m : Link). m.conn == c) (change l) (map change links), count-cons (λ (m : Link). m.conn == c) l links, ap (λ n. one (n == c)) (same l), conns_map change same c links)

one_map : (change : Link → Link) → ((l : Link) → (change l).conn ≡ l.conn) → (links : List Link) → AreOne links → AreOne (map change links)
one_map change same links h c = omega (arith, conns_map change same c links, h c)

pub one_at : (conn : ℕ) (change : Link → Link) → ((l : Link) → (change l).conn ≡ l.conn) → (links : List Link) → AreOne links → AreOne (at_link conn change links)
one_at conn change same links h =
    one_map (λ (l : Link). cond (l.conn == conn) (change l) l) (λ l. cond_both (l.conn == conn) (change l) l (λ (m : Link). m.conn ≡ l.conn) (λ is. same l) (λ is. refl)) links h

fewer_map : (change : Link → Link) → ((l : Link) → replies_in (change l) ≤ replies_in l) → (links : List Link) → replies_on (map change links) ≤ replies_on links
fewer_map change fewer [] = omega arith
fewer_map change fewer (l ∷ links) = omega (arith, sum_by-cons replies_in (change l) (map change links), sum_by-cons replies_in l links, fewer l, fewer_map change fewer links)

pub fewer_at : (conn : ℕ) (change : Link → Link) → ((l : Link) → replies_in (change l) ≤ replies_in l) → (links : List Link) → replies_on (at_link conn change links) ≤ replies_on links
fewer_at conn change fewer links =
    fewer_map (λ (l : Link). cond (l.conn == conn) (change l) l) (λ l. cond_both (l.conn == conn) (change l) l (λ (m : Link). replies_in m ≤ replies_in l) (λ is. fewer l) (λ is. omega arith)) links

-- with one more on a connection, for each that has its CID
more_at : (v : Bool) (conn : ℕ) (change : Link → Link) (P : Link → Type 0) → ((l : Link) → P l → l.conn ≡ conn → replies_in (change l) ≤ replies_in l + one v) → (links : List Link) → EachOf P links
    → replies_on (at_link conn change links) ≤ replies_on links + cond v (count_by (λ (l : Link). l.conn == conn) links) 0
more_at true conn change P more [] h = omega arith
more_at false conn change P more [] h = omega arith
more_at true conn change P more (l ∷ links) h =
    let rest : replies_on (at_link conn change links) ≤ replies_on links + count_by (λ (m : Link). m.conn == conn) links = more_at true conn change P more links h.1 in
    let all : count_by (λ (m : Link). m.conn == conn) (l ∷ links) ≡ one (l.conn == conn) + count_by (λ (m : Link). m.conn == conn) links = count-cons (λ (m : Link). m.conn == conn) l links in
    elim (l.conn == conn) as (λ b. (l.conn == conn) ≡ b → one (l.conn == conn) ≡ one b → replies_on (cond b (change l) l ∷ at_link conn change links) ≤ replies_on (l ∷ links) + count_by (λ (m : Link). m.conn == conn) (l ∷ links)) [
      | true ↦ λ is same. omega (arith, rest, all, same, sum_by-cons replies_in (change l) (at_link conn change links), sum_by-cons replies_in l links, more l h.0 (eqb-true l.conn conn is))
      | false ↦ λ is same. omega (arith, rest, all, sum_by-cons replies_in l (at_link conn change links), sum_by-cons replies_in l links)
    ] refl refl
more_at false conn change P more (l ∷ links) h =
    let rest : replies_on (at_link conn change links) ≤ replies_on links + 0 = more_at false conn change P more links h.1 in
    elim (l.conn == conn) as (λ b. (l.conn == conn) ≡ b → replies_on (cond b (change l) l ∷ at_link conn change links) ≤ replies_on (l ∷ links) + 0) [
      | true ↦ λ is. omega (arith, rest, sum_by-cons replies_in (change l) (at_link conn change links), sum_by-cons replies_in l links, more l h.0 (eqb-true l.conn conn is))
      | false ↦ λ is. omega (arith, rest, sum_by-cons replies_in l (at_link conn change links), sum_by-cons replies_in l links)
    ] refl

pub any_link : (links : List Link) → EachOf (λ (l : Link). Unit {0}) links
any_link [] = tt
any_link (l ∷ links) = (tt, any_link links)

appended : (out : Outgoing) (l : Link) → replies_in (append out l) ≤ replies_in l + one (is_reply out.pdu)
appended out l =
    cond_both (takes_more l) (record l { queue = l.queue ++ out ∷ [] }) l (λ (m : Link). replies_in m ≤ replies_in l + one (is_reply out.pdu))
    (λ is. omega (arith, count_by-push (λ (x : Outgoing). is_reply x.pdu) l.queue out)) (λ is. omega arith)

append_conn : (out : Outgoing) (l : Link) → (append out l).conn ≡ l.conn
append_conn out l = cond_both (takes_more l) (record l { queue = l.queue ++ out ∷ [] }) l (λ (m : Link). m.conn ≡ l.conn) (λ is. refl) (λ is. refl)

append_lost : (out : Outgoing) (l : Link) → (append out l).lost ≡ l.lost
append_lost out l = cond_both (takes_more l) (record l { queue = l.queue ++ out ∷ [] }) l (λ (m : Link). m.lost ≡ l.lost) (λ is. refl) (λ is. refl)

-- what enters is one more at the most
pub entered_one : (conn : ℕ) (out : Outgoing) (links : List Link) → AreOne links → replies_on (at_link conn (append out) links) ≤ replies_on links + one (is_reply out.pdu)
entered_one conn out links alone =
    by_reply (is_reply out.pdu) (more_at (is_reply out.pdu) conn (append out) (λ (l : Link). Unit {0}) (λ l any is. appended out l) links (any_link links))
  where
    by_reply : (v : Bool) → replies_on (at_link conn (append out) links) ≤ replies_on links + cond v (count_by (λ (l : Link). l.conn == conn) links) 0 → replies_on (at_link conn (append out) links) ≤ replies_on links + one v
    by_reply true h = omega (arith, h, alone conn)
    by_reply false h = omega (arith, h)

module _ (o : Opening) (k : ℕ) (quiet : ℕ → Bool) where
  -- what enters on such a connection doesn't wait
  abbrev pub Quiet : Link → Type 0
  Quiet l = quiet l.conn ≡ true → l.lost ≡ true

  -- an item sends a reply that may wait
  abbrev pub sends_reply : Option (ℕ × Reply) → Bool
  sends_reply (Some sent) = not (quiet sent.0)
  sends_reply None = false

  abbrev pub sends : List (List Effect) → ℕ
  sends items = count_by (λ item. sends_reply (first_of (filter_map reply_sent item))) items

  pub record Few (items : List (List Effect)) (b : Box) : Type 0 where
    pub alone : AreOne b.links
    pub quiet_are : EachOf Quiet b.links
    pub few : replies_waiting b ≤ k + sends items

  quiet_at : (conn : ℕ) (change : Link → Link) → ((l : Link) → (change l).conn ≡ l.conn) → ((l : Link) → (change l).lost ≡ l.lost) → (links : List Link) → EachOf Quiet links → EachOf Quiet (at_link conn change links)
  quiet_at conn change same lost links h =
      each-at_link Quiet Quiet conn change links (λ l is q there. lost l ∙ q (ap quiet (sym (same l)) ∙ there)) (λ l isnt q. q) h

  untaking : (l : Link) → Quiet l → quiet l.conn ≡ true → takes_more l ≡ false
  untaking l q there = and_left (is_open l) (not l.cut) (and_right l.joined (not l.lost) (not_from_true l.lost (q there)))

  entered_quiet : (conn : ℕ) (out : Outgoing) (links : List Link) → EachOf Quiet links → quiet conn ≡ true → replies_on (at_link conn (append out) links) ≤ replies_on links + 0
  entered_quiet conn out links h there =
      more_at false conn (append out) Quiet
      (λ l q is. omega (arith, ap (λ v. replies_in (cond v (record l { queue = l.queue ++ out ∷ [] }) l)) (untaking l q (ap quiet is ∙ there)))) links h

  -- ---- a reply is sent

  sent_more : (items : List (List Effect)) (item : List Effect) → sends (items ++ item ∷ []) ≡ sends items + one (sends_reply (first_of (filter_map reply_sent item)))
  sent_more items item = count_by-push (λ (i : List Effect). sends_reply (first_of (filter_map reply_sent i))) items item

  -- with so many more, the counter of replies aside
  record Grown (n : ℕ) (b b' : Box) : Type 0 where
    alone : AreOne b'.links
    quiet_are : EachOf Quiet b'.links
    few : replies_waiting b' ≤ replies_waiting b + n

  enters : (conn : ℕ) (out : Outgoing) (b : Box) → AreOne b.links → EachOf Quiet b.links → is_reply out.pdu ≡ true → Grown (one (not (quiet conn))) b (enter conn out b)
  enters conn out b alone q is = record {
    alone = one_at conn (append (record out { time = b.time })) (append_conn (record out { time = b.time })) b.links alone;
    quiet_are = quiet_at conn (append (record out { time = b.time })) (append_conn (record out { time = b.time })) (append_lost (record out { time = b.time })) b.links q;
    few = by_quiet (quiet conn) refl;
  }
    where
      by_quiet : (v : Bool) → quiet conn ≡ v → replies_waiting (enter conn out b) ≤ replies_waiting b + one (not v)
      by_quiet true there = omega (arith, entered_quiet conn (record out { time = b.time }) b.links q there)
      by_quiet false there = omega (arith, entered_one conn (record out { time = b.time }) b.links alone, ap one is)

  awaits : (b : Box) (a : Answer) → AreOne b.links → EachOf Quiet b.links → is_reply a.out.pdu ≡ true → Grown (one (not (quiet a.conn))) b (cond (list_any (λ (l : Link). (l.conn == a.conn) && takes_more l) b.links) (record b { undue = b.undue ++ a ∷ [] }) b)
  awaits b a alone q is =
      cond_both (list_any (λ (l : Link). (l.conn == a.conn) && takes_more l) b.links) (record b { undue = b.undue ++ a ∷ [] }) b (Grown (one (not (quiet a.conn))) b)
      (λ some. record { alone = alone; quiet_are = q; few = by_quiet (quiet a.conn) refl some })
      (λ none. record { alone = alone; quiet_are = q; few = omega arith })
    where
      none_takes : (links : List Link) → EachOf Quiet links → quiet a.conn ≡ true → list_any (λ (l : Link). (l.conn == a.conn) && takes_more l) links ≡ false
      none_takes [] h there = refl
      none_takes (l ∷ links) h there =
          elim (l.conn == a.conn) as (λ v. (l.conn == a.conn) ≡ v → ((v && takes_more l) || list_any (λ (m : Link). (m.conn == a.conn) && takes_more m) links) ≡ false) [
            | true ↦ λ here. ap (λ v. v || list_any (λ (m : Link). (m.conn == a.conn) && takes_more m) links) (untaking l h.0 (ap quiet (eqb-true l.conn a.conn here) ∙ there)) ∙ none_takes links h.1 there
            | false ↦ λ apart. none_takes links h.1 there
          ] refl

      by_quiet : (v : Bool) → quiet a.conn ≡ v → list_any (λ (l : Link). (l.conn == a.conn) && takes_more l) b.links ≡ true → replies_waiting (record b { undue = b.undue ++ a ∷ [] }) ≤ replies_waiting b + one (not v)
      by_quiet true there some = absurd (false≢true (sym (none_takes b.links q there) ∙ some))
      by_quiet false there some = omega (arith, count_by-push (λ (x : Answer). is_reply x.out.pdu) b.undue a, ap one is)

  sends_one : (b : Box) (r : Option Request) (tickets conns closes : List ℕ) (x : Option (ℕ × Reply)) → AreOne b.links → EachOf Quiet b.links → Grown (one (sends_reply x)) b (send o r tickets conns closes x b)
  sends_one b r tickets conns closes None alone q = record { alone = alone; quiet_are = q; few = omega arith }
  sends_one b r tickets conns closes (Some s) alone q = by_request r
    where
      counted : (b' : Box) → Grown (one (not (quiet s.0))) b b' → Grown (one (not (quiet s.0))) b (record b' { sent = b'.sent + 1 })
      counted b' g = record { alone = g.alone; quiet_are = g.quiet_are; few = g.few }

      by_aim : (p : Request) (about : Option Aim) → Grown (one (not (quiet s.0))) b (let b' = send_as o (Some p) about conns closes s.0 (outgoing b (Some p) tickets s.1) b in record b' { sent = b'.sent + 1 })
      by_aim p None = counted _ (enters s.0 (outgoing b (Some p) tickets s.1) b alone q refl)
      by_aim p (Some about) = counted _ (awaits b (answer o b p conns closes s.0 (outgoing b (Some p) tickets s.1) about) alone q refl)

      by_request : (p : Option Request) → Grown (one (not (quiet s.0))) b (send o p tickets conns closes (Some s) b)
      by_request (Some p) = by_aim p (aim o (Some p) s.1)
      by_request None = counted _ (enters s.0 (outgoing b None tickets s.1) b alone q refl)

  -- ---- each step

  counted-without : {A : Type 0} (f : A → Bool) (before rest : List A) (x : A) → count_by f (before ++ x ∷ rest) ≡ count_by f (before ++ rest) + one (f x)
  counted-without f before rest x =
      omega (arith, sum_by-append (λ y. one (f y)) before (x ∷ rest), sum_by-append (λ y. one (f y)) before rest, sum_by-cons (λ y. one (f y)) x rest)

  pub few_walk : Walk o Few
  few_walk = record {
    tasks = λ items b ts h. record { alone = h.alone; quiet_are = h.quiet_are; few = h.few };
    drops = λ items b these h. record {
      alone = one_map (without these) (λ l. refl) b.links h.alone;
      quiet_are = each-map Quiet Quiet (without these) b.links (λ l q. q) h.quiet_are;
      few = omega (arith, h.few, fewer_map (without these) (λ l. fewer_counted (λ (out : Outgoing). is_reply out.pdu) _ l.queue) b.links);
    };
    closes = λ items b conn h. record {
      alone = one_at conn (λ l. record l { closed = true }) (λ l. refl) b.links h.alone;
      quiet_are = quiet_at conn (λ l. record l { closed = true }) (λ l. refl) (λ l. refl) b.links h.quiet_are;
      few = omega (arith, h.few, fewer_at conn (λ l. record l { closed = true }) (λ l. omega arith) b.links);
    };
    cuts = λ items b conn h. record {
      alone = one_at conn (λ l. record l { closed = true; cut = true }) (λ l. refl) b.links h.alone;
      quiet_are = quiet_at conn (λ l. record l { closed = true; cut = true }) (λ l. refl) (λ l. refl) b.links h.quiet_are;
      few = omega (arith, h.few, fewer_at conn (λ l. record l { closed = true; cut = true }) (λ l. omega arith) b.links);
    };
    drops_on = λ items b conn over h. record {
      alone = one_at conn emptied (λ l. refl) b.links h.alone;
      quiet_are = quiet_at conn emptied (λ l. refl) (λ l. refl) b.links h.quiet_are;
      few = omega (arith, h.few, fewer_at conn emptied (λ l. omega arith) b.links, fewer_counted (λ (a : Answer). is_reply a.out.pdu) (λ (a : Answer). not (a.conn == conn)) b.undue);
    };
    moves = λ items b before rest a due h.
        let timed : Outgoing = record (a.out) { time = b.time } in
        record {
          alone = one_at a.conn (append timed) (append_conn timed) b.links h.alone;
          quiet_are = quiet_at a.conn (append timed) (append_conn timed) (append_lost timed) b.links h.quiet_are;
          few = omega (arith, h.few, entered_one a.conn timed b.links h.alone, counted-without (λ (x : Answer). is_reply x.out.pdu) before rest a);
        };
    sends = λ items b item conns closes h.
        let g : Grown (one (sends_reply (first_of (filter_map reply_sent item)))) b (send o (executing item) (tickets_left item) conns closes (first_of (filter_map reply_sent item)) b)
        = sends_one b (executing item) (tickets_left item) conns closes (first_of (filter_map reply_sent item)) h.alone h.quiet_are in
        record { alone = g.alone; quiet_are = g.quiet_are; few = omega (arith, g.few, h.few, sent_more items item) };
  }
