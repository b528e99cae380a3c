-- Less is under way on a connection: what the steps take to be under way before its trail is walked, and what the box keeps.
use Rattle.std.proofs.Common.{◌≡◌, ℕ, ◌+◌, ◌-◌, ◌<◌, ◌≤◌, ◌==◌, ◌&&◌, ◌⊎◌, inl, inr, ⊎_elim, nat_lt, cond, max, Bool, true, false, List, [], ◌∷◌, length, drop, count_by, set, refl, ap, sym, subst, ◌∙◌, arith}
use Rattle.std.specs.List.{list_any}
use Rattle.std.proofs.lemmas.Bool.{cases_eq, true≢false}
use Rattle.std.proofs.lemmas.List.{drop-drop, get_or-set_other, get_or-set_same, length-set}
use Rattle.std.proofs.lemmas.List.Sums.{sum_by-cons}
use Rattle.iscsi_outbox_rules.specs.rules.Calls.{Opening}
use Rattle.iscsi_outbox_rules.specs.rules.Boxes.{Task, Outgoing, Handed, Answer, Link, Box}
use Rattle.iscsi_outbox_rules.specs.rules.Words.{has_under_way, is_of, is_open, is_reply, looks_for_arrival, unarrived, unwritten}
use Rattle.iscsi_outbox_rules.specs.rules.Queues.{at_link, emptied}
use Rattle.iscsi_outbox_rules.specs.rules.Run.{arrived_by_ping, arrived_by_stat_sn, link_heard, link_lost, new_link, one_written}
use Rattle.iscsi_outbox_law.specs.private.Pairs.{EachOf}
use Rattle.iscsi_outbox_law.specs.private.Commands.{is_under_way, link_in}
use Rattle.iscsi_outbox_law.specs.private.Sound.{HasHome, HaveHomes}
use Rattle.iscsi_outbox_law.proofs.general.PairLemmas.{each-at, each-map}
use Rattle.iscsi_outbox_law.proofs.general.Members.{In, any_index, index_any}
use Rattle.iscsi_outbox_law.proofs.general.PlaceLemmas.{AreApart, IsPlace, conns_of}
use Rattle.iscsi_outbox_law.proofs.sending.Fencing.{any_drop}
use Rattle.iscsi_outbox_law.proofs.commands.Homes.{handed_home}
use Rattle.iscsi_outbox_law.proofs.queues.Rooms.{own_on, replies_queued}
use Rattle.iscsi_outbox_law.proofs.queues.Settling.{IsCalm}
use Rattle.iscsi_outbox_law.proofs.arrivals.Trails.{Walks}

-- what was handed out stays, and no more of it is under way
pub record Quiets (o : Opening) (l m : Link) : Type 0 where
  pub conn : m.conn ≡ l.conn
  pub handed : m.handed ≡ l.handed
  pub under : (these : ℕ → Bool) → has_under_way o these l ≡ false → has_under_way o these m ≡ false

-- ---- what makes it less

pub quiets_written : (o : Opening) (l : Link) → Quiets o l (one_written l)
quiets_written o l = by_test (nat_lt l.written (length l.handed))
  where
    by_looks : (these : ℕ → Bool) (v w : Bool) → list_any (λ (h : Handed). is_of these h.out) (cond v (cond w (unarrived l) (unwritten l)) []) ≡ false
        → list_any (λ (h : Handed). is_of these h.out) (cond v (cond w (unarrived l) (drop (l.written + 1) l.handed)) []) ≡ false
    by_looks these true true none = none
    by_looks these true false none = sym (ap (list_any (λ (h : Handed). is_of these h.out)) (drop-drop 1 l.written l.handed)) ∙ any_drop (λ (h : Handed). is_of these h.out) 1 (drop l.written l.handed) none
    by_looks these false w none = refl

    by_test : (v : Bool) → Quiets o l (cond v (record l { written = l.written + 1 }) l)
    by_test true = record { conn = refl; handed = refl; under = λ these none. by_looks these (is_open l) (looks_for_arrival o) none }
    by_test false = record { conn = refl; handed = refl; under = λ these none. none }

pub quiets_heard : (o : Opening) (exp_stat_sn tag : ℕ) (l : Link) → Quiets o l (link_heard exp_stat_sn tag l)
quiets_heard o exp_stat_sn tag l = by_test (is_open l)
  where
    later : (n : ℕ) → l.arrived + (max l.arrived n - l.arrived) ≡ max l.arrived n
    later n = omega arith

    by_looks : (these : ℕ → Bool) (n : ℕ) (v w : Bool) → list_any (λ (h : Handed). is_of these h.out) (cond v (cond w (unarrived l) (unwritten l)) []) ≡ false
        → list_any (λ (h : Handed). is_of these h.out) (cond v (cond w (drop (max l.arrived n) l.handed) (unwritten l)) []) ≡ false
    by_looks these n true true none =
        sym (ap (list_any (λ (h : Handed). is_of these h.out)) (drop-drop (max l.arrived n - l.arrived) l.arrived l.handed ∙ ap (λ k. drop k l.handed) (later n)))
        ∙ any_drop (λ (h : Handed). is_of these h.out) (max l.arrived n - l.arrived) (drop l.arrived l.handed) none
    by_looks these n true false none = none
    by_looks these n false w none = refl

    by_test : (v : Bool) → Quiets o l (cond v (record l { arrived = max l.arrived (max (arrived_by_stat_sn l exp_stat_sn) (arrived_by_ping l tag)) }) l)
    by_test true = record { conn = refl; handed = refl; under = λ these none. by_looks these (max (arrived_by_stat_sn l exp_stat_sn) (arrived_by_ping l tag)) (is_open l) (looks_for_arrival o) none }
    by_test false = record { conn = refl; handed = refl; under = λ these none. none }

pub never_open : (v : Bool) → (v && false) ≡ false
never_open true = refl
never_open false = refl

pub quiets_lost : (o : Opening) (l : Link) → Quiets o l (emptied (link_lost l))
quiets_lost o l = record {
  conn = refl;
  handed = refl;
  under = λ these none. ap (λ (v : Bool). list_any (λ (h : Handed). is_of these h.out) (cond v (cond (looks_for_arrival o) (unarrived l) (unwritten l)) [])) (never_open l.joined);
}

-- ---- what the steps take to be under way

module _ (o : Opening) (b : Box) (homes : HaveHomes b) (cid p : ℕ) (at : IsPlace b.links cid p) (m : Link) (quiets : Quiets o (link_in b.links p) m) where
  here_now : link_in (set b.links p m) p ≡ m
  here_now = get_or-set_same b.links p m (new_link 0) at.within

  there_now : (n : ℕ) → (n ≡ p → ⊥) → link_in (set b.links p m) n ≡ link_in b.links n
  there_now n other = get_or-set_other b.links p n m (new_link 0) other

  was : (these : ℕ → Bool) (v : Bool) → has_under_way o these (link_in b.links p) ≡ v → has_under_way o these m ≡ true → has_under_way o these (link_in b.links p) ≡ true
  was these true is some = is
  was these false is some = absurd (true≢false (sym some ∙ quiets.under these is))

  pub walks_start : Walks o (record b { links = set b.links p m }) cid (is_under_way o b.links)
  walks_start = record { more = more_before; here = only_here }
    where
      more_before : (k : ℕ) → is_under_way o (set b.links p m) k ≡ true → is_under_way o b.links k ≡ true
      more_before k some =
          let f : (n : ℕ) × (n < length (set b.links p m)) × (has_under_way o (λ j. j == k) (link_in (set b.links p m) n) ≡ true) = any_index (has_under_way o (λ j. j == k)) (set b.links p m) (new_link 0) some in
          ⊎_elim
          (λ same. index_any (has_under_way o (λ j. j == k)) b.links p (new_link 0) at.within
          (was (λ j. j == k) (has_under_way o (λ j. j == k) (link_in b.links p)) refl (sym (ap (has_under_way o (λ j. j == k)) (ap (link_in (set b.links p m)) same ∙ here_now)) ∙ f.2)))
          (λ other. index_any (has_under_way o (λ j. j == k)) b.links f.0 (new_link 0) (let lt = f.1 in let e = length-set b.links p m in omega (arith, lt, e))
          (sym (ap (has_under_way o (λ j. j == k)) (there_now f.0 other)) ∙ f.2))
          (cases_eq f.0 p)

      only_here : (t : Task) → In t b.tasks → is_under_way o b.links t.ticket ≡ true → (is_under_way o (set b.links p m) t.ticket ≡ true) ⊎ (t.conn ≡ cid)
      only_here t of some =
          let f : (n : ℕ) × (n < length b.links) × (has_under_way o (λ j. j == t.ticket) (link_in b.links n) ≡ true) = any_index (has_under_way o (λ j. j == t.ticket)) b.links (new_link 0) some in
          ⊎_elim
          (λ same. inr (handed_home o b.tasks t (link_in b.links p) homes.ascending of (each-at (λ (l : Link). EachOf (λ (h : Handed). HasHome b.tasks l.conn h.out) l.handed) b.links p (new_link 0) at.within homes.handed)
          (subst (λ n. has_under_way o (λ j. j == t.ticket) (link_in b.links n) ≡ true) same f.2) ∙ at.is))
          (λ other. inl (index_any (has_under_way o (λ j. j == t.ticket)) (set b.links p m) f.0 (new_link 0) (let lt = f.1 in let e = length-set b.links p m in omega (arith, lt, e))
          (ap (has_under_way o (λ j. j == t.ticket)) (there_now f.0 other) ∙ f.2)))
          (cases_eq f.0 p)

-- ---- what the box keeps

module _ (cid : ℕ) (f : Link → Link) where
  conns_at : ((l : Link) → (f l).conn ≡ l.conn) → (links : List Link) → conns_of (at_link cid f links) ≡ conns_of links
  conns_at conn [] = refl
  conns_at conn (l ∷ links) =
      ap (λ c. c ∷ conns_of (at_link cid f links)) (elim (l.conn == cid) as (λ v. (cond v (f l) l).conn ≡ l.conn) [ true ↦ conn l | false ↦ refl ]) ∙ ap (λ cs. l.conn ∷ cs) (conns_at conn links)

  pub replies_at : ((l : Link) → count_by (λ (x : Outgoing). is_reply x.pdu) (f l).queue ≤ count_by (λ (x : Outgoing). is_reply x.pdu) l.queue) → (links : List Link) → replies_queued (at_link cid f links) ≤ replies_queued links
  replies_at few [] = omega arith
  replies_at few (l ∷ links) =
      let rest = replies_at few links in
      let before = sum_by-cons (λ (x : Link). count_by (λ (y : Outgoing). is_reply y.pdu) x.queue) l links in
      elim (l.conn == cid) as (λ v. replies_queued (cond v (f l) l ∷ at_link cid f links) ≤ replies_queued (l ∷ links)) [
        | true ↦ (let e = sum_by-cons (λ (x : Link). count_by (λ (y : Outgoing). is_reply y.pdu) x.queue) (f l) (at_link cid f links) in let g = few l in omega (arith, before, e, g, rest))
        | false ↦ (let e = sum_by-cons (λ (x : Link). count_by (λ (y : Outgoing). is_reply y.pdu) x.queue) l (at_link cid f links) in omega (arith, before, e, rest))
      ]

  pub calm_at : (o : Opening) (b : Box) (rest : List Answer) → ((l : Link) → Quiets o l (f l)) → ((l : Link) → own_on (f l) ≤ own_on l) → IsCalm o b rest → IsCalm o (record b { links = at_link cid f b.links }) rest
  calm_at o b rest quiets few h = record {
    homes = record {
      ascending = h.homes.ascending;
      handed = each-map (λ (l : Link). EachOf (λ (g : Handed). HasHome b.tasks l.conn g.out) l.handed) (λ (l : Link). EachOf (λ (g : Handed). HasHome b.tasks l.conn g.out) l.handed) (λ (l : Link). cond (l.conn == cid) (f l) l) b.links
          (λ l k. elim (l.conn == cid) as (λ v. EachOf (λ (g : Handed). HasHome b.tasks (cond v (f l) l).conn g.out) (cond v (f l) l).handed) [
            | true ↦ (let q : Quiets o l (f l) = quiets l in
                subst (λ c. EachOf (λ (g : Handed). HasHome b.tasks c g.out) (f l).handed) (sym q.conn) (subst (λ hs. EachOf (λ (g : Handed). HasHome b.tasks l.conn g.out) hs) (sym q.handed) k))
            | false ↦ k
          ]) h.homes.handed;
    };
    apart = subst AreApart (sym (conns_at (λ l. (let q : Quiets o l (f l) = quiets l in q.conn)) b.links)) h.apart;
    own = each-map (λ (l : Link). own_on l ≤ o.own) (λ (l : Link). own_on l ≤ o.own) (λ (l : Link). cond (l.conn == cid) (f l) l) b.links
        (λ l k. elim (l.conn == cid) as (λ v. own_on (cond v (f l) l) ≤ o.own) [ true ↦ (let e = few l in omega (arith, e, k)) | false ↦ k ]) h.own;
    scopes = h.scopes;
  }
