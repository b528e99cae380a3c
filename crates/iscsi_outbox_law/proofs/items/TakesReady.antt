-- What a box keeps as commands enter, connections are closed and a reply is sent.
use Rattle.std.proofs.Common.{◌≡◌, ℕ, ◌<◌, ◌≤◌, ◌==◌, ◌&&◌, ◌||◌, not, cond, Bool, true, false, List, [], ◌∷◌, ◌++◌, map, filter, Option, Some, None, refl, ap, sym, subst, ◌∙◌, arith, ne_eqb}
use Rattle.std.specs.List.{list_any}
use Rattle.std.proofs.lemmas.Bool.{eqb-true, eqb-false, false≢true}
use Rattle.std.proofs.lemmas.List.Folds.{list_any-append}
use Rattle.iscsi_wire.specs.declared.reply.Reply.{Reply}
use Rattle.iscsi_wire.specs.declared.request.Request.{Request}
use Rattle.iscsi_outbox_rules.specs.rules.Calls.{Opening}
use Rattle.iscsi_outbox_rules.specs.rules.Boxes.{Aim, Task, Outgoing, Handed, Answer, Link, Box}
use Rattle.iscsi_outbox_rules.specs.rules.Words.{contains, is_left, is_left_phase}
use Rattle.iscsi_outbox_rules.specs.rules.Queues.{append, at_link, emptied, enter, takes_more}
use Rattle.iscsi_outbox_rules.specs.rules.Own.{is_own}
use Rattle.iscsi_outbox_rules.specs.rules.Items.{answer, await, close_all, close_one, is_aimed_at, outgoing, send_as}
use Rattle.iscsi_outbox_law.specs.private.Pairs.{EachOf, InOrder}
use Rattle.iscsi_outbox_law.specs.private.Sound.{HasHome}
use Rattle.iscsi_outbox_law.proofs.general.PairLemmas.{each-append, each-filter, each-map, each-weaken}
use Rattle.iscsi_outbox_law.proofs.general.PlaceLemmas.{AreApart, conns_of}
use Rattle.iscsi_outbox_law.proofs.commands.TrackedLemmas.{any_map}
use Rattle.iscsi_outbox_law.proofs.queues.Rooms.{own_on}
use Rattle.iscsi_outbox_law.proofs.queues.Settling.{IsCalm, calm_enter}
use Rattle.iscsi_outbox_law.proofs.items.TakesLeaves.{IsReady}
use Rattle.iscsi_outbox_law.proofs.items.TakesEnters.{home_more}
use Rattle.iscsi_outbox_law.proofs.items.TakesClosing.{at_twice, closed_link, cut_link}

-- ---- commands enter

pub ready_enters : (o : Opening) (b : Box) (more : List Task) → IsReady o b → InOrder (λ (t u : Task). t.ticket < u.ticket) (b.tasks ++ more) → IsReady o (record b { tasks = b.tasks ++ more })
ready_enters o b more k ascending = record {
  calm = record {
    homes = record {
      ascending = ascending;
      handed = each-weaken (λ (l : Link). EachOf (λ (g : Handed). HasHome b.tasks l.conn g.out) l.handed) (λ (l : Link). EachOf (λ (g : Handed). HasHome (b.tasks ++ more) l.conn g.out) l.handed) b.links
          (λ l j. each-weaken (λ (g : Handed). HasHome b.tasks l.conn g.out) (λ (g : Handed). HasHome (b.tasks ++ more) l.conn g.out) l.handed (λ g i. home_more b.tasks more l.conn g.out i) j) k.calm.homes.handed;
    };
    apart = k.calm.apart;
    own = k.calm.own;
    scopes = each-weaken (λ (a : Answer). (n : ℕ) → contains a.out.scope n ≡ true → is_left b n ≡ true) (λ (a : Answer). (n : ℕ) → contains a.out.scope n ≡ true → is_left (record b { tasks = b.tasks ++ more }) n ≡ true) b.undue
        (λ a j n named. list_any-append (λ (t : Task). t.ticket == n && is_left_phase t.phase) b.tasks more ∙ ap (λ (w : Bool). w || list_any (λ (t : Task). t.ticket == n && is_left_phase t.phase) more) (j n named)) k.calm.scopes;
  };
  taken = k.taken;
}

-- ---- one connection changes, in what isn't handed out there

module _ (f : Link → Link) (conn : (l : Link) → (f l).conn ≡ l.conn) (handed : (l : Link) → (f l).handed ≡ l.handed) (own : (l : Link) → own_on (f l) ≤ own_on l) where
  conns_at : (cid : ℕ) (links : List Link) → conns_of (at_link cid f links) ≡ conns_of links
  conns_at cid [] = refl
  conns_at cid (l ∷ links) =
      ap (λ c. c ∷ conns_of (at_link cid f links)) (elim (l.conn == cid) as (λ v. (cond v (f l) l).conn ≡ l.conn) [ true ↦ conn l | false ↦ refl ]) ∙ ap (λ cs. l.conn ∷ cs) (conns_at cid links)

  homes_at : (tasks : List Task) (l : Link) → EachOf (λ (g : Handed). HasHome tasks l.conn g.out) l.handed → EachOf (λ (g : Handed). HasHome tasks (f l).conn g.out) (f l).handed
  homes_at tasks l k =
      subst (λ gs. EachOf (λ (g : Handed). HasHome tasks (f l).conn g.out) gs) (sym (handed l)) (subst (λ c. EachOf (λ (g : Handed). HasHome tasks c g.out) l.handed) (sym (conn l)) k)

  calm_at : (o : Opening) (b : Box) (cid : ℕ) (rest : List Answer) → IsCalm o b rest → IsCalm o (record b { links = at_link cid f b.links }) rest
  calm_at o b cid rest k = record {
    homes = record {
      ascending = k.homes.ascending;
      handed = each-map (λ (l : Link). EachOf (λ (g : Handed). HasHome b.tasks l.conn g.out) l.handed) (λ (l : Link). EachOf (λ (g : Handed). HasHome b.tasks l.conn g.out) l.handed) (λ (l : Link). cond (l.conn == cid) (f l) l) b.links
          (λ l j. elim (l.conn == cid) as (λ v. EachOf (λ (g : Handed). HasHome b.tasks (cond v (f l) l).conn g.out) (cond v (f l) l).handed) [ true ↦ homes_at b.tasks l j | false ↦ j ]) k.homes.handed;
    };
    apart = subst AreApart (sym (conns_at cid b.links)) k.apart;
    own = each-map (λ (l : Link). own_on l ≤ o.own) (λ (l : Link). own_on l ≤ o.own) (λ (l : Link). cond (l.conn == cid) (f l) l) b.links
        (λ l j. elim (l.conn == cid) as (λ v. own_on (cond v (f l) l) ≤ o.own) [ true ↦ (let e = own l in omega (arith, e, j)) | false ↦ j ]) k.own;
    scopes = k.scopes;
  }

-- ---- connections are closed

ready_itself : (o : Opening) (b : Box) (cid : ℕ) → IsReady o b → IsReady o (record b { links = at_link cid closed_link b.links })
ready_itself o b cid k = record {
  calm = calm_at closed_link (λ l. refl) (λ l. refl) (λ l. (let z : own_on l ≤ own_on l = omega arith in z)) o b cid b.undue k.calm;
  taken = each-weaken (λ (a : Answer). list_any (λ (l : Link). l.conn == a.conn && takes_more l) b.links ≡ true) (λ (a : Answer). list_any (λ (l : Link). l.conn == a.conn && takes_more l) (at_link cid closed_link b.links) ≡ true) b.undue
      (λ a is. any_map (λ (l : Link). l.conn == a.conn && takes_more l) (λ (l : Link). cond (l.conn == cid) (closed_link l) l) b.links
      (λ l. elim (l.conn == cid) as (λ v. ((cond v (closed_link l) l).conn == a.conn && takes_more (cond v (closed_link l) l)) ≡ (l.conn == a.conn && takes_more l)) [ true ↦ refl | false ↦ refl ]) ∙ is) k.taken;
}

each_others : (cid : ℕ) (P Q : Answer → Type 0) (answers : List Answer) → ((a : Answer) → (a.conn ≡ cid → ⊥) → P a → Q a) → EachOf P answers → EachOf Q (filter (λ (a : Answer). not (a.conn == cid)) answers)
each_others cid P Q [] f h = tt
each_others cid P Q (a ∷ answers) f h =
    let rest : EachOf Q (filter (λ (x : Answer). not (x.conn == cid)) answers) = each_others cid P Q answers f h.1 in
    elim (a.conn == cid) as (λ w. (a.conn == cid) ≡ w → EachOf Q (cond (not w) (a ∷ filter (λ (x : Answer). not (x.conn == cid)) answers) (filter (λ (x : Answer). not (x.conn == cid)) answers))) [
      | true ↦ λ is. rest
      | false ↦ λ isnt. (f a (eqb-false a.conn cid isnt) h.0, rest)
    ] refl

ready_other : (o : Opening) (b : Box) (cid : ℕ) → IsReady o b → IsReady o (record b { links = at_link cid emptied (at_link cid cut_link b.links); undue = filter (λ (a : Answer). not (a.conn == cid)) b.undue })
ready_other o b cid k =
    subst (λ ls. IsReady o (record b { links = ls; undue = filter (λ (a : Answer). not (a.conn == cid)) b.undue })) (sym (at_twice cid b.links))
    (record {
      calm = (let c = calm_at (λ l. emptied (cut_link l)) (λ l. refl) (λ l. refl) (λ l. (let z : 0 ≤ own_on l = omega arith in z)) o b cid b.undue k.calm in
          record {
            homes = record { ascending = c.homes.ascending; handed = c.homes.handed };
            apart = c.apart;
            own = c.own;
            scopes = each-filter (λ (a : Answer). (n : ℕ) → contains a.out.scope n ≡ true → is_left b n ≡ true) (λ (a : Answer). not (a.conn == cid)) b.undue k.calm.scopes;
          });
      taken = each_others cid (λ (a : Answer). list_any (λ (l : Link). l.conn == a.conn && takes_more l) b.links ≡ true)
          (λ (a : Answer). list_any (λ (l : Link). l.conn == a.conn && takes_more l) (at_link cid (λ l. emptied (cut_link l)) b.links) ≡ true) b.undue (λ a apart is. stays a apart b.links ∙ is) k.taken;
    })
  where
    stays : (a : Answer) → (a.conn ≡ cid → ⊥) → (links : List Link) → list_any (λ (l : Link). l.conn == a.conn && takes_more l) (at_link cid (λ l. emptied (cut_link l)) links) ≡ list_any (λ (l : Link). l.conn == a.conn && takes_more l) links
    stays a apart links = any_map (λ (l : Link). l.conn == a.conn && takes_more l) (λ (l : Link). cond (l.conn == cid) (emptied (cut_link l)) l) links
        (λ l. elim (l.conn == cid) as (λ v. (l.conn == cid) ≡ v → ((cond v (emptied (cut_link l)) l).conn == a.conn && takes_more (cond v (emptied (cut_link l)) l)) ≡ (l.conn == a.conn && takes_more l)) [
          | true ↦ λ is.
              let differs : (l.conn == a.conn) ≡ false = ne_eqb l.conn a.conn (λ same. apart (sym same ∙ eqb-true l.conn cid is)) in
              ap (λ (w : Bool). w && takes_more (emptied (cut_link l))) differs ∙ sym (ap (λ (w : Bool). w && takes_more l) differs)
          | false ↦ λ isnt. refl
        ] refl)

pub ready_closes : (o : Opening) (by : ℕ) (cids : List ℕ) (b : Box) → IsReady o b → IsReady o (close_all by cids b)
ready_closes o by [] b k = k
ready_closes o by (cid ∷ cids) b k =
    ready_closes o by cids (close_one by cid b)
    (elim (cid == by) as (λ w. IsReady o (cond w (record b { links = at_link cid closed_link b.links }) (record b { links = at_link cid emptied (at_link cid cut_link b.links); undue = filter (λ (a : Answer). not (a.conn == cid)) b.undue }))) [
      | true ↦ ready_itself o b cid k
      | false ↦ ready_other o b cid k
    ])

-- ---- a reply is sent

ready_enter : (o : Opening) (b : Box) (cid : ℕ) (out : Outgoing) → is_own out.pdu ≡ false → IsReady o b → IsReady o (enter cid out b)
ready_enter o b cid out isnt k = record {
  calm = calm_enter o b b.undue cid out isnt k.calm;
  taken = each-weaken (λ (a : Answer). list_any (λ (l : Link). l.conn == a.conn && takes_more l) b.links ≡ true) (λ (a : Answer). list_any (λ (l : Link). l.conn == a.conn && takes_more l) (enter cid out b).links ≡ true) b.undue
      (λ a is. any_map (λ (l : Link). l.conn == a.conn && takes_more l) (λ (l : Link). cond (l.conn == cid) (append (record out { time = b.time }) l) l) b.links (λ l. same a l) ∙ is) k.taken;
}
  where
    same : (a : Answer) (l : Link) → ((cond (l.conn == cid) (append (record out { time = b.time }) l) l).conn == a.conn && takes_more (cond (l.conn == cid) (append (record out { time = b.time }) l) l)) ≡ (l.conn == a.conn && takes_more l)
    same a l = elim (l.conn == cid) as (λ v. ((cond v (append (record out { time = b.time }) l) l).conn == a.conn && takes_more (cond v (append (record out { time = b.time }) l) l)) ≡ (l.conn == a.conn && takes_more l)) [
      | true ↦ elim (takes_more l) as (λ w. ((cond w (record l { queue = l.queue ++ record out { time = b.time } ∷ [] }) l).conn == a.conn && takes_more (cond w (record l { queue = l.queue ++ record out { time = b.time } ∷ [] }) l)) ≡ (l.conn == a.conn && takes_more l)) [
        | true ↦ refl
        | false ↦ refl
      ]
      | false ↦ refl
    ]

scope_left : (b : Box) (test : Task → Bool) (ts : List Task) (n : ℕ) → contains (map (λ (t : Task). t.ticket) (filter (λ (t : Task). is_left_phase t.phase && test t) ts)) n ≡ true → list_any (λ (t : Task). t.ticket == n && is_left_phase t.phase) ts ≡ true
scope_left b test [] n some = absurd (false≢true some)
scope_left b test (t ∷ ts) n some = by_left (is_left_phase t.phase) (test t) (t.ticket == n) (scope_left b test ts n) some refl
  where
    or_yes : (w : Bool) → (w || true) ≡ true
    or_yes true = refl
    or_yes false = refl

    by_left : (v w x : Bool) → (contains (map (λ (u : Task). u.ticket) (filter (λ (u : Task). is_left_phase u.phase && test u) ts)) n ≡ true → list_any (λ (u : Task). u.ticket == n && is_left_phase u.phase) ts ≡ true)
        → contains (map (λ (u : Task). u.ticket) (cond (v && w) (t ∷ filter (λ (u : Task). is_left_phase u.phase && test u) ts) (filter (λ (u : Task). is_left_phase u.phase && test u) ts))) n ≡ true
        → ((t.ticket == n) ≡ x) → ((x && v) || list_any (λ (u : Task). u.ticket == n && is_left_phase u.phase) ts) ≡ true
    by_left true true true rest k is = refl
    by_left true true false rest k is = rest (sym (ap (λ (u : Bool). u || contains (map (λ (y : Task). y.ticket) (filter (λ (y : Task). is_left_phase y.phase && test y) ts)) n) is) ∙ k)
    by_left true false x rest k is = ap (λ (u : Bool). (x && true) || u) (rest k) ∙ or_yes (x && true)
    by_left false w x rest k is = ap (λ (u : Bool). (x && false) || u) (rest k) ∙ or_yes (x && false)

ready_await : (o : Opening) (b : Box) (r : Request) (conns closes : List ℕ) (cid : ℕ) (out : Outgoing) (aim : Aim) → IsReady o b → IsReady o (await (answer o b r conns closes cid out aim) b)
ready_await o b r conns closes cid out aim k = by_test (list_any (λ (l : Link). l.conn == cid && takes_more l) b.links) refl
  where
    by_test : (w : Bool) → list_any (λ (l : Link). l.conn == cid && takes_more l) b.links ≡ w → IsReady o (cond w (record b { undue = b.undue ++ answer o b r conns closes cid out aim ∷ [] }) b)
    by_test false isnt = k
    by_test true is = record {
      calm = record {
        homes = record { ascending = k.calm.homes.ascending; handed = k.calm.homes.handed };
        apart = k.calm.apart;
        own = k.calm.own;
        scopes = each-append (λ (a : Answer). (n : ℕ) → contains a.out.scope n ≡ true → is_left b n ≡ true) b.undue (answer o b r conns closes cid out aim ∷ []) k.calm.scopes ((λ n some. scope_left b (is_aimed_at aim conns) b.tasks n some), tt);
      };
      taken = each-append (λ (a : Answer). list_any (λ (l : Link). l.conn == a.conn && takes_more l) b.links ≡ true) b.undue (answer o b r conns closes cid out aim ∷ []) k.taken (is, tt);
    }

pub ready_sends : (o : Opening) (r : Option Request) (aim : Option Aim) (tickets conns closes : List ℕ) (cid : ℕ) (reply : Reply) (b : Box) → IsReady o b → IsReady o (send_as o r aim conns closes cid (outgoing b r tickets reply) b)
ready_sends o (Some r) (Some aim) tickets conns closes cid reply b k = ready_await o b r conns closes cid (outgoing b (Some r) tickets reply) aim k
ready_sends o (Some r) None tickets conns closes cid reply b k = ready_enter o b cid (outgoing b (Some r) tickets reply) refl k
ready_sends o None (Some aim) tickets conns closes cid reply b k = ready_enter o b cid (outgoing b None tickets reply) refl k
ready_sends o None None tickets conns closes cid reply b k = ready_enter o b cid (outgoing b None tickets reply) refl k
