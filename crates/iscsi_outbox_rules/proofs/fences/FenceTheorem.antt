-- The answer to a function of several tasks goes out behind what went before it on other connections, and before what goes behind it.
use Rattle.std.proofs.Common.{◌≡◌, ◌≢◌, ℕ, ⊎_elim, ◌==◌, ◌&&◌, ◌||◌, not, cond, Bool, true, false, List, [], ◌∷◌, ◌++◌, filter, nat_lt, Option, Some, None, refl, ap, sym, subst, ◌∙◌, ne_eqb}
use Rattle.std.specs.List.{list_any, list_all}
use Rattle.std.proofs.lemmas.Bool.{false≢true}
use Rattle.std.proofs.lemmas.List.{append_assoc}
use Rattle.iscsi_rules.specs.declared.effect.Effect.{Effect}
use Rattle.iscsi_rules.specs.rules.Trace.{first_of}
use Rattle.iscsi_rules.proofs.general.BoolLemmas.{and_parts, and_both, and_second, not_true}
use Rattle.iscsi_outbox_rules.specs.rules.Calls.{Opening, Call}
use Rattle.iscsi_outbox_rules.specs.rules.Boxes.{Outgoing, Handed, Link, Box}
use Rattle.iscsi_outbox_rules.specs.rules.Words.{is_open, looks_for_arrival, unwritten, unarrived, under_way}
use Rattle.iscsi_outbox_rules.specs.rules.Handing.{others, takes_handed, fenced_handed, lets_pass, is_clear}
use Rattle.iscsi_outbox_rules.specs.rules.Run.{opened}
use Rattle.iscsi_outbox_rules.specs.promises.Deeds.{Deed, deeds_of, items_in, handed_in_deed, FollowsSession}
use Rattle.iscsi_outbox_rules.specs.promises.Scope.{Sent, nth, sent_by}
use Rattle.iscsi_outbox_rules.specs.promises.Fence.{is_fenced, FenceBefore, FenceBehind}
use Rattle.iscsi_outbox_rules.proofs.general.EachLemmas.{EachOf, each-first_of}
use Rattle.iscsi_outbox_rules.proofs.general.Cuts.{Handing, at_handing}
use Rattle.iscsi_outbox_rules.proofs.general.DeedLemmas.{items_in-append}
use Rattle.iscsi_outbox_rules.proofs.general.Chosen.{FromQueue, IsPing, IsNotice, Chosen, chosen_from}
use Rattle.iscsi_outbox_rules.proofs.general.FoundLemmas.{find_link, found-conn}
use Rattle.iscsi_outbox_rules.proofs.general.ConnLemmas.{conns_of}
use Rattle.iscsi_outbox_rules.proofs.order.PlaceRuns.{IsSent, IsOwn, own_ping}
use Rattle.iscsi_outbox_rules.proofs.order.OnceTheorem.{Reply_moment, reply_moment}
use Rattle.iscsi_outbox_rules.proofs.order.PlaceSent.{SentHere, sent_here}
use Rattle.iscsi_outbox_rules.proofs.closes.SealTheorem.{known_conn}
use Rattle.iscsi_outbox_rules.proofs.fences.FenceRuns.{is_for_set, Fenced, Fences, fences_kept, fence_start}
use Rattle.iscsi_outbox_rules.proofs.arrivals.ArriveThrough.{ArriveStand, arrive_kept, arrive_start, find_known, looks_as_opened, through}

-- ---- what is fenced

-- the answer as the rules have it
pub went_fenced : (o : Opening) (calls : List Call) → FollowsSession o calls → (before after : List Deed) (answer : Deed) (c : ℕ) (h : Handed) → before ++ answer ∷ after ≡ deeds_of o calls
    → handed_in_deed answer ≡ Some (c, h) → is_fenced o (items_in before) h ≡ true → (h.out.fenced ≡ true) × (h.out.takes ≡ true)
went_fenced o calls follows before after answer c h whole shown fenced = ⊎_elim sent own moment.entry
  where
    all : List (List Effect)
    all = items_in (deeds_of o calls)

    moment : Reply_moment o before c h
    moment = reply_moment o calls before after answer c h whole shown

    says : Option Sent → Bool
    says x = elim x [ Some s ↦ is_for_set o s | None ↦ false ]

    own : IsOwn h.out → (h.out.fenced ≡ true) × (h.out.takes ≡ true)
    own k = absurd (false≢true (sym (ap (λ x. says (elim x [ Some place ↦ nth place (sent_by (items_in before)) | None ↦ None ])) k.none) ∙ fenced))

    of_out : (b : Box) (n : Handing o b c h) → EachOf (λ (l : Link). EachOf (Fenced o all) l.queue) b.links → Fenced o all h.out
    of_out b n each =
        let from : Chosen o b n.link n.out = chosen_from o b n.link n.out n.chosen_is in
        let queue : EachOf (Fenced o all) n.link.queue = each-first_of (λ (l : Link). EachOf (Fenced o all) l.queue) (λ (l : Link). l.conn == c) b.links n.link n.found each in
        subst (λ (x : Handed). Fenced o all x.out) (sym n.is)
        (⊎_elim (λ (q : FromQueue o b n.link n.out). (subst (EachOf (Fenced o all)) q.queue_is queue).0)
        (λ other. λ p s place nth_is is. absurd (let no : None ≡ Some p = sym (own_ping o b n.link n.out other).none ∙ place in cc)) from.source)

    sent : IsSent (items_in before) c h.out → (h.out.fenced ≡ true) × (h.out.takes ≡ true)
    sent k =
        let here : SentHere o calls before h k.place k.reply = sent_here o calls follows before (answer ∷ after) whole c h k in
        let m = at_handing o calls (λ (ds : List Deed) (b : Box). Fences o all (items_in ds) b) (fences_kept o all) (fence_start o all) before after answer c h whole shown in
        of_out m.0 m.2 (m.1 (items_in (answer ∷ after)) (sym (items_in-append before (answer ∷ after)) ∙ ap items_in whole)).links k.place k.reply k.place_is here.in_all (sym (ap says here.as_sent) ∙ fenced)

-- ---- what passes a fence

-- of the first connection with a CID
pub found_all : (p q : Link → Bool) (c : ℕ) (links : List Link) (m : Link) → list_all q (filter p links) ≡ true → find_link c links ≡ Some m → p m ≡ true → q m ≡ true
found_all p q c [] m all found is = absurd cc
found_all p q c (l ∷ links) m all found is =
    elim (l.conn == c) as (λ v. first_of (cond v (l ∷ filter (λ (k : Link). k.conn == c) links) (filter (λ (k : Link). k.conn == c) links)) ≡ Some m → q m ≡ true) [
      | true ↦ λ here. let same : l ≡ m = cc in ap q (sym same) ∙ first (p l) (ap p same ∙ is) all
      | false ↦ λ later. found_all p q c links m (rest (p l) all) later is
    ] found
  where
    first : (v : Bool) → v ≡ true → list_all q (cond v (l ∷ filter p links) (filter p links)) ≡ true → q l ≡ true
    first true passes each = (and_parts (q l) (list_all q (filter p links)) each).0
    first false passes each = absurd (false≢true passes)

    rest : (v : Bool) → list_all q (cond v (l ∷ filter p links) (filter p links)) ≡ true → list_all q (filter p links) ≡ true
    rest true each = (and_parts (q l) (list_all q (filter p links)) each).1
    rest false each = each

-- the PDUs that were handed out, and pass the test, aren't under way where none of them is in what is
abbrev Gone : Opening → (Handed → Bool) → Link → Type 0
Gone o p m = list_any p (under_way o m) ≡ false

-- the connections that a PDU passes which is handed out now
abbrev pub LetsAllPass : Opening → Box → Link → Outgoing → Type 0
LetsAllPass o b l out = list_all (λ k. lets_pass o out k && (not out.fenced || is_clear o out k)) (others b l) ≡ true

pub either_way : (v w : Bool) → v ≡ true → (not v || w) ≡ true → w ≡ true
either_way true w is h = h
either_way false w is h = absurd (false≢true is)

-- if it takes a StatSN
pub all_pass : (o : Opening) (b : Box) (l : Link) (out : Outgoing) → out.takes ≡ true → Chosen o b l out → LetsAllPass o b l out
all_pass o b l out takes from =
    ⊎_elim (λ (q : FromQueue o b l out). either_way out.takes (list_all (λ k. lets_pass o out k && (not out.fenced || is_clear o out k)) (others b l)) takes q.passes)
    (⊎_elim (λ (p : IsPing o b l out). absurd (false≢true (sym (ap (λ (x : Outgoing). x.takes) p.is) ∙ takes))) (λ (p : IsNotice o b l out). absurd (false≢true (sym (ap (λ (x : Outgoing). x.takes) p.is) ∙ takes))))
    from.source

-- two PDUs on two connections, as the later one goes out
record Both (o : Opening) (ds : List Deed) (c d : ℕ) (later : Handed) : Type 0 where
  box : Box
  stands : ArriveStand o ds box
  handing : Handing o box d later
  link : Link
  found : find_link c box.links ≡ Some link
  looks : looks_for_arrival o ≡ o.acknowledged

both : (o : Opening) (calls : List Call) (earlier since after : List Deed) (first later : Deed) (c d : ℕ) (h g : Handed) → earlier ++ first ∷ (since ++ later ∷ after) ≡ deeds_of o calls → handed_in_deed first ≡ Some (c, h)
    → handed_in_deed later ≡ Some (d, g) → d ≢ c → Both o (earlier ++ first ∷ since) c d g
both o calls earlier since after first later c d h g whole shown shown_later apart =
    let ds : List Deed = earlier ++ first ∷ since in
    let whole' : ds ++ later ∷ after ≡ deeds_of o calls = append_assoc earlier (first ∷ since) (later ∷ after) ∙ whole in
    let m = at_handing o calls (ArriveStand o) (arrive_kept o) (arrive_start o) ds after later d g whole' shown_later in
    let known_first : list_any (λ k. k == c) (conns_of (opened o).links) ≡ true = known_conn o calls earlier (since ++ later ∷ after) first c h whole shown in
    let known_later : list_any (λ k. k == d) (conns_of (opened o).links) ≡ true = known_conn o calls ds after later d g whole' shown_later in
    let link = find_known c m.0.links (ap (list_any (λ k. k == c)) m.1.marks.conns ∙ known_first) in
    record { box = m.0; stands = m.1; handing = m.2; link = link.0; found = link.1; looks = looks_as_opened o c d apart known_first known_later }

-- what passing says of the other connection, if that is open
other_passes : (o : Opening) (ds : List Deed) (c d : ℕ) (g : Handed) → d ≢ c → (x : Both o ds c d g) → is_open x.link ≡ true → g.out.takes ≡ true → (lets_pass o g.out x.link && (not g.out.fenced || is_clear o g.out x.link)) ≡ true
other_passes o ds c d g apart x opens takes =
    let l : Link = x.handing.link in
    let out : x.handing.out ≡ g.out = sym (ap (λ (k : Handed). k.out) x.handing.is) in
    let from : Chosen o x.box l g.out = subst (Chosen o x.box l) out (chosen_from o x.box l x.handing.out x.handing.chosen_is) in
    let elsewhere : (x.link.conn == l.conn) ≡ false =
    ne_eqb x.link.conn l.conn (λ same. apart (sym (found-conn d x.box.links l x.handing.found) ∙ sym same ∙ found-conn c x.box.links x.link x.found)) in
    found_all (λ k. is_open k && not (k.conn == l.conn)) (λ k. lets_pass o g.out k && (not g.out.fenced || is_clear o g.out k)) c x.box.links x.link (all_pass o x.box l g.out takes from) x.found
    (and_both (is_open x.link) (not (x.link.conn == l.conn)) opens (ap (λ v. not v) elsewhere))

-- ---- the theorems

pub fence_before : (o : Opening) (calls : List Call) → FollowsSession o calls → FenceBefore o (deeds_of o calls)
fence_before o calls follows earlier since after handing answer c d h g whole shown fenced shown_first apart takes =
    through o calls ds (answer ∷ after) whole' x.box x.stands d x.link x.found x.looks earlier since handing g refl shown_first takes_handed takes (by_open (is_open x.link) refl)
  where
    ds : List Deed
    ds = earlier ++ handing ∷ since

    whole' : ds ++ answer ∷ after ≡ deeds_of o calls
    whole' = append_assoc earlier (handing ∷ since) (answer ∷ after) ∙ whole

    x : Both o ds d c h
    x = both o calls earlier since after handing answer d c g h whole shown_first shown (λ same. apart (sym same))

    out : (h.out.fenced ≡ true) × (h.out.takes ≡ true)
    out = went_fenced o calls follows ds after answer c h whole' shown fenced

    by_open : (v : Bool) → is_open x.link ≡ v → list_any takes_handed (cond v (cond (looks_for_arrival o) (unarrived x.link) (unwritten x.link)) []) ≡ false
    by_open false shut = refl
    by_open true opens =
        let passes = and_parts (lets_pass o h.out x.link) (not h.out.fenced || is_clear o h.out x.link) (other_passes o ds d c h (λ same. apart (sym same)) x opens out.1) in
        let clear : is_clear o h.out x.link ≡ true = either_way h.out.fenced (is_clear o h.out x.link) out.0 passes.1 in
        let gone : Gone o takes_handed x.link =
        not_true (list_any takes_handed (under_way o x.link))
        (and_second (not (list_any (λ (y : Outgoing). y.takes && nat_lt y.time h.out.time) x.link.queue)) (not (list_any takes_handed (under_way o x.link))) clear) in
        ap (λ u. list_any takes_handed (cond u (cond (looks_for_arrival o) (unarrived x.link) (unwritten x.link)) [])) (sym opens) ∙ gone

pub fence_behind : (o : Opening) (calls : List Call) → FollowsSession o calls → FenceBehind o (deeds_of o calls)
fence_behind o calls follows earlier since after answer handing c d h g whole shown fenced shown_later apart takes acknowledged =
    through o calls ds (handing ∷ after) whole' x.box x.stands c x.link x.found x.looks earlier since answer h refl shown fenced_handed out.0 (by_open (is_open x.link) refl)
  where
    ds : List Deed
    ds = earlier ++ answer ∷ since

    whole' : ds ++ handing ∷ after ≡ deeds_of o calls
    whole' = append_assoc earlier (answer ∷ since) (handing ∷ after) ∙ whole

    x : Both o ds c d g
    x = both o calls earlier since after answer handing c d h g whole shown shown_later apart

    out : (h.out.fenced ≡ true) × (h.out.takes ≡ true)
    out = went_fenced o calls follows earlier (since ++ handing ∷ after) answer c h whole shown fenced

    looks : looks_for_arrival o ≡ true
    looks = x.looks ∙ acknowledged

    none_of : (v w : Bool) → v ≡ true → (v && w) ≡ false → w ≡ false
    none_of true w is k = k
    none_of false w is k = absurd (false≢true is)

    by_open : (v : Bool) → is_open x.link ≡ v → list_any fenced_handed (cond v (cond (looks_for_arrival o) (unarrived x.link) (unwritten x.link)) []) ≡ false
    by_open false shut = refl
    by_open true opens =
        let passes = and_parts (lets_pass o g.out x.link) (not g.out.fenced || is_clear o g.out x.link) (other_passes o ds c d g apart x opens takes) in
        let held : (looks_for_arrival o && list_any fenced_handed (unarrived x.link)) ≡ false =
        not_true (looks_for_arrival o && list_any fenced_handed (unarrived x.link))
        (and_second (not (list_any (λ (y : Outgoing). y.fenced && nat_lt y.time g.out.time) x.link.queue)) (not (looks_for_arrival o && list_any fenced_handed (unarrived x.link))) passes.0) in
        ap (λ u. list_any fenced_handed (cond u (unarrived x.link) (unwritten x.link))) looks ∙ none_of (looks_for_arrival o) (list_any fenced_handed (unarrived x.link)) looks held
