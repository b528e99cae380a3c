-- The moves that a box makes: each keeps what holds of it.
use Rattle.std.proofs.Common.{◌≡◌, ◌<◌, ◌≤◌, ℕ, ◌+◌, ◌==◌, ◌&&◌, not, cond, Bool, true, false, List, [], ◌∷◌, ◌++◌, map, filter, drop, count_by, Option, Some, None, refl, ap, sym, subst, ◌∙◌, arith, nat_lt, length}
use Rattle.std.proofs.lemmas.Bool.{and_parts, cond_both, eqb-true, false≢true}
use Rattle.std.proofs.lemmas.List.{append_assoc, append-nil}
use Rattle.std.proofs.lemmas.List.Sums.{sum_by-append, sum_by-cons}
use Rattle.iscsi_outbox_rules.specs.rules.Calls.{Opening}
use Rattle.iscsi_outbox_rules.specs.rules.Boxes.{Task, Outgoing, Handed, Answer, Link, Box}
use Rattle.iscsi_outbox_rules.specs.rules.Words.{is_open}
use Rattle.iscsi_outbox_rules.specs.rules.Own.{is_own}
use Rattle.iscsi_outbox_rules.specs.rules.Queues.{at_link, takes_more, append, enter, emptied, drop_on}
use Rattle.iscsi_outbox_rules.specs.rules.Due.{is_due, settle_from, settle}
use Rattle.iscsi_outbox_rules.specs.rules.Handing.{is_from_queue, taken_from, after_given}
use Rattle.iscsi_outbox_rules.specs.rules.Run.{one_written, link_heard, link_joined, link_lost, cleared, waits_for_clear}
use Rattle.iscsi_outbox_law.specs.private.Pairs.{EachOf, InOrder}
use Rattle.iscsi_outbox_law.specs.private.Sound.{HasHome, IsAlive, IsFenceFit}
use Rattle.iscsi_outbox_law.proofs.general.PairLemmas.{each-append, each-both, each-map, each-weaken}
use Rattle.iscsi_outbox_law.proofs.commands.TrackedLemmas.{order_push}
use Rattle.iscsi_outbox_law.proofs.invariants.SoundFirm.{has_home, left_in, own_queued, IsEntryFirm, IsLinkFirm, IsAnswerFirm, Firm, IsFirm, conns_map, still_taken, taken_elsewhere, at_conn, at_same, at_twice}

-- ---- lists

pub each-first : {A : Type 0} (P : A → Type 0) (xs ys : List A) → EachOf P (xs ++ ys) → EachOf P xs
each-first P [] ys h = tt
each-first P (x ∷ xs) ys h = (h.0, each-first P xs ys h.1)

pub each-second : {A : Type 0} (P : A → Type 0) (xs ys : List A) → EachOf P (xs ++ ys) → EachOf P ys
each-second P [] ys h = h
each-second P (x ∷ xs) ys h = each-second P xs ys h.1

each-behind : {A : Type 0} (P : A → Type 0) (xs : List A) → EachOf P xs → EachOf P (drop 1 xs)
each-behind P [] h = tt
each-behind P (x ∷ xs) h = h.1

order-behind : {A : Type 0} (R : A → A → Type 0) (xs : List A) → InOrder R xs → InOrder R (drop 1 xs)
order-behind R [] h = tt
order-behind R (x ∷ xs) h = h.1

fewer-behind : {A : Type 0} (p : A → Bool) (xs : List A) → count_by p (drop 1 xs) ≤ count_by p xs
fewer-behind p [] = omega arith
fewer-behind p (x ∷ xs) = let all = sum_by-cons (λ y. cond (p y) 1 0) x xs in omega (arith, all)

-- ---- changes of connections

module _ (o : Opening) (tasks : List Task) (links : List Link) (undue : List Answer) where
  -- each connection becomes another one
  pub changed : (time later : ℕ) (g : Link → Link) → ((l : Link) → (g l).conn ≡ l.conn) → ((l : Link) → takes_more l ≡ true → takes_more (g l) ≡ true)
      → ((l : Link) → IsLinkFirm o tasks time l → IsLinkFirm o tasks later (g l)) → Firm o tasks time links undue → Firm o tasks later (map g links) undue
  changed time later g same more kept h = record {
    tasks = h.tasks;
    links = each-map (IsLinkFirm o tasks time) (IsLinkFirm o tasks later) g links kept h.links;
    undue = still_taken tasks links g same more undue h.undue;
    conns = conns_map g same links ∙ h.conns;
  }

  -- one of them does
  pub marked : (time conn : ℕ) (change : Link → Link) → ((l : Link) → (change l).conn ≡ l.conn) → ((l : Link) → takes_more l ≡ true → takes_more (change l) ≡ true)
      → ((l : Link) → IsLinkFirm o tasks time l → IsLinkFirm o tasks time (change l)) → Firm o tasks time links undue → Firm o tasks time (at_link conn change links) undue
  marked time conn change same more kept h =
      changed time time (at_conn conn change) (at_same conn change same)
      (λ l is. cond_both (l.conn == conn) (change l) l (λ (m : Link). takes_more m ≡ true) (λ at. more l is) (λ at. is))
      (λ l k. cond_both (l.conn == conn) (change l) l (IsLinkFirm o tasks time) (λ at. kept l k) (λ at. k)) h

  -- what waits there is dropped, and what would go there
  pub emptied_at : (time conn : ℕ) (change : Link → Link) → ((l : Link) → (change l).conn ≡ l.conn) → ((l : Link) → (change l).handed ≡ l.handed) → Firm o tasks time links undue
      → Firm o tasks time (at_link conn emptied (at_link conn change links)) (filter (λ (a : Answer). not (a.conn == conn)) undue)
  emptied_at time conn change same handed h =
      subst (λ (ls : List Link). Firm o tasks time ls (filter (λ (a : Answer). not (a.conn == conn)) undue)) (sym (at_twice conn emptied change same links))
      (record {
        tasks = h.tasks;
        links = each-map (IsLinkFirm o tasks time) (IsLinkFirm o tasks time) (at_conn conn both) links
            (λ l k. cond_both (l.conn == conn) (both l) l (IsLinkFirm o tasks time)
            (λ at. record {
              waits = tt;
              own = omega arith;
              times = tt;
              idle = λ shut. refl;
              handed = subst (EachOf (λ (g : Handed). HasHome tasks (change l).conn g.out)) (sym (handed l)) (subst (λ (c : ℕ). EachOf (λ (g : Handed). HasHome tasks c g.out) l.handed) (sym (same l)) k.handed);
            })
            (λ at. k)) h.links;
        undue = taken_elsewhere tasks links conn both undue h.undue;
        conns = conns_map (at_conn conn both) (at_same conn both same) links ∙ h.conns;
      })
    where
      both : Link → Link
      both l = emptied (change l)

  -- ---- entering a queue

  pub record MayEnter (conn : ℕ) (out : Outgoing) : Type 0 where
    pub home : HasHome tasks conn out
    pub alive : IsAlive tasks out
    pub fenced : IsFenceFit out
    pub own : EachOf (λ (l : Link). l.conn ≡ conn → takes_more l ≡ true → own_queued l + cond {A = ℕ} (is_own out.pdu) 1 0 ≤ o.own) links

  pub entered : (time conn : ℕ) (out : Outgoing) → MayEnter conn out → Firm o tasks time links undue → Firm o tasks (time + 1) (at_link conn (append (record out { time = time })) links) undue
  entered time conn out may h = record {
    tasks = h.tasks;
    links = each-map (λ (l : Link). IsLinkFirm o tasks time l × (l.conn ≡ conn → takes_more l ≡ true → own_queued l + cond {A = ℕ} (is_own out.pdu) 1 0 ≤ o.own)) (IsLinkFirm o tasks (time + 1)) (at_conn conn (append new)) links
        (λ l k. cond_both (l.conn == conn) (append new l) l (IsLinkFirm o tasks (time + 1)) (λ is. appended l (eqb-true l.conn conn is) (k.1 (eqb-true l.conn conn is)) k.0) (λ is. later l k.0))
        (each-both (IsLinkFirm o tasks time) _ links h.links may.own);
    undue = still_taken tasks links (at_conn conn (append new)) (at_same conn (append new) append_same)
        (λ l is. cond_both (l.conn == conn) (append new l) l (λ (m : Link). takes_more m ≡ true) (λ at. cond_both (takes_more l) (record l { queue = l.queue ++ new ∷ [] }) l (λ (m : Link). takes_more m ≡ true) (λ more. is) (λ more. is)) (λ at. is)) undue h.undue;
    conns = conns_map (at_conn conn (append new)) (at_same conn (append new) append_same) links ∙ h.conns;
  }
    where
      new : Outgoing
      new = record out { time = time }

      append_same : (l : Link) → (append new l).conn ≡ l.conn
      append_same l = cond_both (takes_more l) (record l { queue = l.queue ++ new ∷ [] }) l (λ (m : Link). m.conn ≡ l.conn) (λ more. refl) (λ more. refl)

      entry_later : (c : ℕ) (x : Outgoing) → IsEntryFirm tasks time c x → IsEntryFirm tasks (time + 1) c x
      entry_later c x e = record { home = e.home; alive = e.alive; fenced = e.fenced; below = (let old = e.below in omega (arith, old)) }

      later : (l : Link) → IsLinkFirm o tasks time l → IsLinkFirm o tasks (time + 1) l
      later l k = record {
        waits = each-weaken (IsEntryFirm tasks time l.conn) (IsEntryFirm tasks (time + 1) l.conn) l.queue (entry_later l.conn) k.waits;
        own = k.own;
        times = k.times;
        idle = k.idle;
        handed = k.handed;
      }

      appended : (l : Link) → l.conn ≡ conn → (takes_more l ≡ true → own_queued l + cond {A = ℕ} (is_own out.pdu) 1 0 ≤ o.own) → IsLinkFirm o tasks time l → IsLinkFirm o tasks (time + 1) (append new l)
      appended l at few k =
          cond_both (takes_more l) (record l { queue = l.queue ++ new ∷ [] }) l (IsLinkFirm o tasks (time + 1))
          (λ more. record {
            waits = each-append (IsEntryFirm tasks (time + 1) l.conn) l.queue (new ∷ []) (each-weaken (IsEntryFirm tasks time l.conn) (IsEntryFirm tasks (time + 1) l.conn) l.queue (entry_later l.conn) k.waits)
                (record { home = subst (λ (c : ℕ). HasHome tasks c out) (sym at) may.home; alive = may.alive; fenced = may.fenced; below = omega arith }, tt);
            own = (let whole = sum_by-append (λ (x : Outgoing). cond {A = ℕ} (is_own x.pdu) 1 0) l.queue (new ∷ []) in
                let one = sum_by-cons (λ (x : Outgoing). cond {A = ℕ} (is_own x.pdu) 1 0) new [] in
                let fits = few more in omega (arith, whole, one, fits));
            times = order_push (λ (x y : Outgoing). x.time < y.time) l.queue new k.times (each-weaken (IsEntryFirm tasks time l.conn) (λ (x : Outgoing). x.time < time) l.queue (λ x e. e.below) k.waits);
            idle = λ shut. absurd (false≢true (sym shut ∙ (and_parts (is_open l) (not l.cut) more).0));
            handed = k.handed;
          })
          (λ none. later l k)

  -- an answer that waits enters
  pub may_answer : (conn : ℕ) (a : Answer) (time : ℕ) → IsAnswerFirm tasks links a → Firm o tasks time links undue → MayEnter conn a.out
  may_answer conn a time k h = record {
    home = subst (λ (x : Option ℕ). elim x as (λ (y : Option ℕ). Type 0) [ Some n ↦ has_home tasks conn n ≡ true | None ↦ Unit {0} ]) (sym k.ticket) tt;
    alive = ap (λ (x : Option ℕ). elim x as (λ (y : Option ℕ). Bool) [ Some n ↦ left_in tasks n | None ↦ false ]) k.ticket;
    fenced = λ is. k.takes;
    own = each-weaken (IsLinkFirm o tasks time) (λ (l : Link). l.conn ≡ conn → takes_more l ≡ true → own_queued l + cond {A = ℕ} (is_own a.out.pdu) 1 0 ≤ o.own) links
        (λ l j at more. (let none : cond {A = ℕ} (is_own a.out.pdu) 1 0 ≡ 0 = ap (λ (v : Bool). cond {A = ℕ} v 1 0) k.plain in let old = j.own in omega (arith, none, old))) h.links;
  }

-- ---- settling

module _ (o : Opening) where
  pub firm_settled_from : (before rest : List Answer) (b : Box) → Firm o b.tasks b.time b.links (before ++ rest) → IsFirm o (settle_from o before rest b)
  firm_settled_from before [] b h = subst (Firm o b.tasks b.time b.links) (append-nil before) h
  firm_settled_from before (a ∷ rest) b h =
      cond_both (is_due o b before a) (settle_from o before rest (enter a.conn a.out b)) (settle_from o (before ++ a ∷ []) rest b) (IsFirm o)
      (λ due.
      let behind : EachOf (IsAnswerFirm b.tasks b.links) (a ∷ rest) = each-second (IsAnswerFirm b.tasks b.links) before (a ∷ rest) h.undue in
      let fewer : Firm o b.tasks b.time b.links (before ++ rest) = record {
        tasks = h.tasks;
        links = h.links;
        undue = each-append (IsAnswerFirm b.tasks b.links) before rest (each-first (IsAnswerFirm b.tasks b.links) before (a ∷ rest) h.undue) behind.1;
        conns = h.conns;
      } in
      firm_settled_from before rest (enter a.conn a.out b) (entered o b.tasks b.links (before ++ rest) b.time a.conn a.out (may_answer o b.tasks b.links (before ++ rest) a.conn a b.time behind.0 fewer) fewer))
      (λ undue. firm_settled_from (before ++ a ∷ []) rest b (subst (Firm o b.tasks b.time b.links) (sym (append_assoc before (a ∷ []) rest)) h))

  pub firm_settled : (b : Box) → IsFirm o b → IsFirm o (settle o b)
  firm_settled b h = firm_settled_from [] b.undue b h

  -- ---- what a connection goes through

  pub firm_written : (b : Box) (conn : ℕ) → IsFirm o b → IsFirm o (record b { links = at_link conn one_written b.links })
  firm_written b conn h =
      marked o b.tasks b.links b.undue b.time conn one_written
      (λ l. cond_both (nat_lt l.written (length l.handed)) (record l { written = l.written + 1 }) l (λ (m : Link). m.conn ≡ l.conn) (λ is. refl) (λ is. refl))
      (λ l more. cond_both (nat_lt l.written (length l.handed)) (record l { written = l.written + 1 }) l (λ (m : Link). takes_more m ≡ true) (λ is. more) (λ is. more))
      (λ l k. cond_both (nat_lt l.written (length l.handed)) (record l { written = l.written + 1 }) l (IsLinkFirm o b.tasks b.time)
      (λ is. record { waits = k.waits; own = k.own; times = k.times; idle = k.idle; handed = k.handed }) (λ is. k)) h

  pub firm_heard : (b : Box) (conn exp_stat_sn tag : ℕ) → IsFirm o b → IsFirm o (record b { links = at_link conn (link_heard exp_stat_sn tag) b.links })
  firm_heard b conn exp_stat_sn tag h =
      marked o b.tasks b.links b.undue b.time conn (link_heard exp_stat_sn tag)
      (λ l. cond_both (is_open l) _ l (λ (m : Link). m.conn ≡ l.conn) (λ is. refl) (λ is. refl))
      (λ l more. cond_both (is_open l) _ l (λ (m : Link). takes_more m ≡ true) (λ is. more) (λ is. more))
      (λ l k. cond_both (is_open l) _ l (IsLinkFirm o b.tasks b.time) (λ is. record { waits = k.waits; own = k.own; times = k.times; idle = k.idle; handed = k.handed }) (λ is. k)) h

  pub firm_joined : (b : Box) (conn stat_sn : ℕ) → IsFirm o b → IsFirm o (record b { links = at_link conn (link_joined stat_sn) b.links })
  firm_joined b conn stat_sn h =
      marked o b.tasks b.links b.undue b.time conn (link_joined stat_sn) (λ l. refl)
      (λ l more. still_open l.joined (not l.lost) (not l.cut) more)
      (λ l k. record { waits = k.waits; own = k.own; times = k.times; idle = λ shut. k.idle (shut_before l.joined (not l.lost) shut); handed = k.handed }) h
    where
      still_open : (j u c : Bool) → ((j && u) && c) ≡ true → (u && c) ≡ true
      still_open true u c is = is
      still_open false u c is = absurd (false≢true is)

      shut_before : (j u : Bool) → u ≡ false → (j && u) ≡ false
      shut_before true u is = is
      shut_before false u is = refl

  pub firm_lost : (b : Box) (conn : ℕ) → IsFirm o b → IsFirm o (drop_on conn (record b { links = at_link conn link_lost b.links; reached = 0 }))
  firm_lost b conn h = emptied_at o b.tasks b.links b.undue b.time conn link_lost (λ l. refl) (λ l. refl) h

  pub firm_closed : (b : Box) (conn : ℕ) → IsFirm o b → IsFirm o (record b { links = at_link conn (λ l. record l { closed = true }) b.links })
  firm_closed b conn h =
      marked o b.tasks b.links b.undue b.time conn (λ l. record l { closed = true }) (λ l. refl) (λ l more. more)
      (λ l k. record { waits = k.waits; own = k.own; times = k.times; idle = k.idle; handed = k.handed }) h

  pub firm_cut : (b : Box) (conn : ℕ) → IsFirm o b → IsFirm o (drop_on conn (record b { links = at_link conn (λ l. record l { closed = true; cut = true }) b.links }))
  firm_cut b conn h = emptied_at o b.tasks b.links b.undue b.time conn (λ l. record l { closed = true; cut = true }) (λ l. refl) (λ l. refl) h

  -- ---- handing out

  pub firm_given : (b : Box) (l : Link) (g : Handed) → HasHome b.tasks l.conn g.out → IsFirm o b → IsFirm o (after_given o b l g)
  firm_given b l g home h =
      subst (λ (ls : List Link). Firm o b.tasks b.time ls b.undue) (sym (at_twice l.conn push (taken_from g.out) taken_same b.links))
      (record {
        tasks = h.tasks;
        links = each-map (IsLinkFirm o b.tasks b.time) (IsLinkFirm o b.tasks b.time) (at_conn l.conn both) b.links
            (λ m k. cond_both (m.conn == l.conn) (both m) m (IsLinkFirm o b.tasks b.time) (λ is. taken m (eqb-true m.conn l.conn is) k) (λ is. k)) h.links;
        undue = still_taken b.tasks b.links (at_conn l.conn both) (at_same l.conn both taken_same)
            (λ m more. cond_both (m.conn == l.conn) (both m) m (λ (x : Link). takes_more x ≡ true)
            (λ at. cond_both (is_from_queue g.out) (record m { queue = drop 1 m.queue }) m (λ (x : Link). takes_more (push x) ≡ true) (λ is. more) (λ is. more)) (λ at. more)) b.undue h.undue;
        conns = conns_map (at_conn l.conn both) (at_same l.conn both taken_same) b.links ∙ h.conns;
      })
    where
      push : Link → Link
      push m = record m { handed = m.handed ++ g ∷ [] }

      both : Link → Link
      both m = push (taken_from g.out m)

      taken_same : (m : Link) → (taken_from g.out m).conn ≡ m.conn
      taken_same m = cond_both (is_from_queue g.out) (record m { queue = drop 1 m.queue }) m (λ (x : Link). x.conn ≡ m.conn) (λ is. refl) (λ is. refl)

      more_handed : (m : Link) → m.conn ≡ l.conn → IsLinkFirm o b.tasks b.time m → EachOf (λ (x : Handed). HasHome b.tasks m.conn x.out) (m.handed ++ g ∷ [])
      more_handed m at k = each-append (λ (x : Handed). HasHome b.tasks m.conn x.out) m.handed (g ∷ []) k.handed (subst (λ (c : ℕ). HasHome b.tasks c g.out) (sym at) home, tt)

      taken : (m : Link) → m.conn ≡ l.conn → IsLinkFirm o b.tasks b.time m → IsLinkFirm o b.tasks b.time (push (taken_from g.out m))
      taken m at k =
          cond_both (is_from_queue g.out) (record m { queue = drop 1 m.queue }) m (λ (x : Link). IsLinkFirm o b.tasks b.time (push x))
          (λ is. record {
            waits = each-behind (IsEntryFirm b.tasks b.time m.conn) m.queue k.waits;
            own = (let fewer = fewer-behind (λ (x : Outgoing). is_own x.pdu) m.queue in let old = k.own in omega (arith, fewer, old));
            times = order-behind (λ (x y : Outgoing). x.time < y.time) m.queue k.times;
            idle = λ shut. ap (drop 1) (k.idle shut);
            handed = more_handed m at k;
          })
          (λ is. record { waits = k.waits; own = k.own; times = k.times; idle = k.idle; handed = more_handed m at k })

  -- ---- other sessions

  pub firm_cleared : (b : Box) (unit : ℕ) → IsFirm o b → IsFirm o (record b { undue = cleared unit b.undue })
  firm_cleared b unit h = record { tasks = h.tasks; links = h.links; undue = clears b.undue h.undue; conns = h.conns }
    where
      clears : (answers : List Answer) → EachOf (IsAnswerFirm b.tasks b.links) answers → EachOf (IsAnswerFirm b.tasks b.links) (cleared unit answers)
      clears [] k = tt
      clears (a ∷ answers) k =
          cond_both (waits_for_clear unit a) (record a { uncleared = false } ∷ answers) (a ∷ cleared unit answers) (EachOf (IsAnswerFirm b.tasks b.links))
          (λ is. (record { scope = k.0.scope; taken = k.0.taken; ticket = k.0.ticket; plain = k.0.plain; takes = k.0.takes }, k.1)) (λ is. (k.0, clears answers k.1))
