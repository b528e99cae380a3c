-- The connections stay the same ones.
use Rattle.std.proofs.Common.{◌≡◌, ℕ, ◌==◌, ◌||◌, ◌&&◌, ◌+◌, cond, true, false, List, [], ◌∷◌, ◌++◌, map, filter, filter_map, drop, Option, Some, None, refl, ap, sym, ◌∙◌}
use Rattle.std.specs.List.{list_any}
use Rattle.std.proofs.lemmas.Bool.{cond_both, false≢true}
use Rattle.iscsi_wire.specs.declared.reply.Reply.{Reply}
use Rattle.iscsi_wire.specs.declared.request.Request.{Request}
use Rattle.iscsi_rules.specs.declared.effect.Effect.{Effect}
use Rattle.iscsi_rules.specs.rules.Trace.{first_of}
use Rattle.iscsi_outbox_rules.specs.rules.Calls.{Opening}
use Rattle.iscsi_outbox_rules.specs.rules.Boxes.{Outgoing, Aim, Answer, Handed, Link, Box}
use Rattle.iscsi_outbox_rules.specs.rules.Queues.{at_link, takes_more, append, without, emptied}
use Rattle.iscsi_outbox_rules.specs.rules.Items.{executing, tickets_left, reply_sent, outgoing, answer, send_as, aim, send}
use Rattle.iscsi_outbox_rules.specs.rules.Own.{own_outgoing}
use Rattle.iscsi_outbox_rules.specs.rules.Handing.{is_from_queue, taken_from, handed_as}
use Rattle.iscsi_outbox_rules.specs.promises.Deeds.{Deed}
use Rattle.iscsi_outbox_rules.proofs.general.EachLemmas.{EachOf, each-map}
use Rattle.iscsi_outbox_rules.proofs.general.FoundLemmas.{find_link}
use Rattle.iscsi_outbox_rules.proofs.general.Walks.{Walk}
use Rattle.iscsi_outbox_rules.proofs.general.Boxwise.{Boxwise}

abbrev pub conns_of : List Link → List ℕ
conns_of links = map (λ (l : Link). l.conn) links

same_map : (g : Link → Link) → ((l : Link) → (g l).conn ≡ l.conn) → (links : List Link) → conns_of (map g links) ≡ conns_of links
same_map g kept [] = refl
same_map g kept (l ∷ links) = ap (λ c. c ∷ conns_of (map g links)) (kept l) ∙ ap (λ cs. l.conn ∷ cs) (same_map g kept links)

append-conn : (out : Outgoing) (l : Link) → (append out l).conn ≡ l.conn
append-conn out l = cond_both (takes_more l) (record l { queue = l.queue ++ out ∷ [] }) l (λ (m : Link). m.conn ≡ l.conn) (λ is. refl) (λ is. refl)

-- what stands of connections whatever becomes of each
module _ (Q : List Link → Type 0) (closed : (g : Link → Link) → ((l : Link) → (g l).conn ≡ l.conn) → (links : List Link) → Q links → Q (map g links)) where
  abbrev pub HeldBy : List (List Effect) → Box → Type 0
  HeldBy items b = Q b.links

  at_one : (conn : ℕ) (change : Link → Link) → ((l : Link) → (change l).conn ≡ l.conn) → (links : List Link) → Q links → Q (at_link conn change links)
  at_one conn change kept links h = closed (λ (l : Link). cond (l.conn == conn) (change l) l) (λ l. cond_both (l.conn == conn) (change l) l (λ (m : Link). m.conn ≡ l.conn) (λ is. kept l) (λ is. refl)) links h

  sends_one : (o : Opening) (b : Box) (r : Option Request) (tickets conns closes : List ℕ) (x : Option (ℕ × Reply)) → HeldBy [] b → HeldBy [] (send o r tickets conns closes x b)
  sends_one o b r tickets conns closes None h = h
  sends_one o b None tickets conns closes (Some s) h = at_one s.0 (append (record (outgoing b None tickets s.1) { time = b.time })) (append-conn _) b.links h
  sends_one o b (Some r) tickets conns closes (Some s) h = by_aim (aim o (Some r) s.1)
    where
      by_aim : (x : Option Aim) → HeldBy [] (let b' = send_as o (Some r) x conns closes s.0 (outgoing b (Some r) tickets s.1) b in record b' { sent = b'.sent + 1 })
      by_aim None = at_one s.0 (append (record (outgoing b (Some r) tickets s.1) { time = b.time })) (append-conn _) b.links h
      by_aim (Some about) =
          let a : Answer = answer o b r conns closes s.0 (outgoing b (Some r) tickets s.1) about in
          cond_both (list_any (λ (l : Link). (l.conn == a.conn) && takes_more l) b.links) (record b { undue = b.undue ++ a ∷ [] }) b (λ (b' : Box). HeldBy [] (record b' { sent = b'.sent + 1 })) (λ may. h) (λ may. h)

  pub conn_walk : (o : Opening) → Walk o HeldBy
  conn_walk o = record {
    tasks = λ items b ts h. h;
    drops = λ items b these h. closed (without these) (λ l. refl) b.links h;
    closes = λ items b conn h. at_one conn (λ l. record l { closed = true }) (λ l. refl) b.links h;
    cuts = λ items b conn h. at_one conn (λ l. record l { closed = true; cut = true }) (λ l. refl) b.links h;
    drops_on = λ items b conn over h. at_one conn emptied (λ l. refl) b.links h;
    moves = λ items b before rest a due h. at_one a.conn (append (record (a.out) { time = b.time })) (append-conn _) b.links h;
    sends = λ items b item conns closes h. sends_one o b (executing item) (tickets_left item) conns closes (first_of (filter_map reply_sent item)) h;
  }

  -- whatever else stands
  pub conn_boxes : (o : Opening) (J : List Deed → Box → Type 0) → Boxwise o J HeldBy
  conn_boxes o J = record {
    walk = conn_walk o;
    numbers = λ items b exp max h. h;
    puts = λ items b conn p h. at_one conn (append (record (own_outgoing p) { time = b.time })) (append-conn _) b.links h;
    marks = λ items b conn change alike h. at_one conn change (λ l. (alike l).conn) b.links h;
    reaches = λ items b n h. h;
    clears = λ items b unit h. h;
    hands = λ ds b conn h n from j k.
        let g : Handed = handed_as o b n.link n.out in
        at_one n.link.conn (λ m. record m { handed = m.handed ++ g ∷ [] }) (λ m. refl) (at_link n.link.conn (taken_from n.out) b.links)
        (at_one n.link.conn (taken_from n.out) (λ m. cond_both (is_from_queue n.out) (record m { queue = drop 1 m.queue }) m (λ (x : Link). x.conn ≡ m.conn) (λ is. refl) (λ is. refl)) b.links k);
  }

-- ---- the CIDs

abbrev pub HaveConns : List ℕ → List Link → Type 0
HaveConns cs links = conns_of links ≡ cs

pub have_conns : (cs : List ℕ) (g : Link → Link) → ((l : Link) → (g l).conn ≡ l.conn) → (links : List Link) → HaveConns cs links → HaveConns cs (map g links)
have_conns cs g kept links h = same_map g kept links ∙ h

-- where there was a connection with a CID there is one
find-conns : (c : ℕ) (links : List Link) (l : Link) → find_link c links ≡ Some l → list_any (λ k. k == c) (conns_of links) ≡ true
find-conns c [] l found = absurd cc
find-conns c (m ∷ links) l found =
    elim (m.conn == c) as (λ v. first_of (cond v (m ∷ filter (λ (x : Link). x.conn == c) links) (filter (λ (x : Link). x.conn == c) links)) ≡ Some l → (v || list_any (λ k. k == c) (conns_of links)) ≡ true) [
      | true ↦ λ here. refl
      | false ↦ λ later. find-conns c links l later
    ] found

conns-find : (c : ℕ) (links : List Link) → list_any (λ k. k == c) (conns_of links) ≡ true → (l : Link) × (find_link c links ≡ Some l)
conns-find c [] some = absurd (false≢true some)
conns-find c (m ∷ links) some =
    elim (m.conn == c) as (λ v. (v || list_any (λ k. k == c) (conns_of links)) ≡ true → (l : Link) × (first_of (cond v (m ∷ filter (λ (x : Link). x.conn == c) links) (filter (λ (x : Link). x.conn == c) links)) ≡ Some l)) [
      | true ↦ λ here. (m, refl)
      | false ↦ λ later. conns-find c links later
    ] some

pub find_again : (c : ℕ) (links links' : List Link) (l : Link) → conns_of links ≡ conns_of links' → find_link c links ≡ Some l → (m : Link) × (find_link c links' ≡ Some m)
find_again c links links' l same found = conns-find c links' (ap (list_any (λ k. k == c)) (sym same) ∙ find-conns c links l found)

-- ---- each connection is the one with its CID

abbrev pub Twins : List Link → Type 0
Twins links = EachOf (λ (l : Link). find_link l.conn links ≡ Some l) links

map-find : (g : Link → Link) → ((l : Link) → (g l).conn ≡ l.conn) → (c : ℕ) (links : List Link) (l : Link) → find_link c links ≡ Some l → find_link c (map g links) ≡ Some (g l)
map-find g kept c [] l found = absurd cc
map-find g kept c (m ∷ links) l found =
    ap (λ k. first_of (cond (k == c) (g m ∷ filter (λ (x : Link). x.conn == c) (map g links)) (filter (λ (x : Link). x.conn == c) (map g links)))) (kept m)
    ∙ elim (m.conn == c) as (λ v. first_of (cond v (m ∷ filter (λ (x : Link). x.conn == c) links) (filter (λ (x : Link). x.conn == c) links)) ≡ Some l
    → first_of (cond v (g m ∷ filter (λ (x : Link). x.conn == c) (map g links)) (filter (λ (x : Link). x.conn == c) (map g links))) ≡ Some (g l)) [
      | true ↦ λ here. let same : m ≡ l = cc in ap (λ x. Some (g x)) same
      | false ↦ λ later. map-find g kept c links l later
    ] found

pub twins_kept : (g : Link → Link) → ((l : Link) → (g l).conn ≡ l.conn) → (links : List Link) → Twins links → Twins (map g links)
twins_kept g kept links h =
    each-map (λ (l : Link). find_link l.conn links ≡ Some l) (λ (l : Link). find_link l.conn (map g links) ≡ Some l) g links
    (λ l k. ap (λ e. find_link e (map g links)) (kept l) ∙ map-find g kept l.conn links l k) h
