-- What isn't under way on a connection any more is through, as the calls show.
use Rattle.std.proofs.Common.{◌≡◌, ◌≢◌, ℕ, zero, suc, ◌==◌, ◌&&◌, ◌||◌, ◌+◌, ◌<◌, not, cond, Bool, true, false, List, [], ◌∷◌, ◌++◌, length, map, filter, drop, nat_lt, Option, Some, refl, ap, sym, subst, ◌∙◌, arith, eqb-true, lt-ltb}
use Rattle.std.specs.List.{list_any}
use Rattle.std.proofs.lemmas.Bool.{cond_both, false≢true, ltb-true}
use Rattle.std.proofs.lemmas.List.{append_assoc}
use Rattle.std.proofs.lemmas.List.Folds.{list_any-append}
use Rattle.iscsi_rules.specs.rules.Trace.{first_of}
use Rattle.iscsi_rules.proofs.general.BoolLemmas.{and_parts, and_both, or_none, or_first, or_second}
use Rattle.iscsi_outbox_rules.specs.rules.Calls.{Opening, Call, Takes, Puts, Stops, Nexts, Writes, Hears, Joins, Loses, Clears}
use Rattle.iscsi_outbox_rules.specs.rules.Boxes.{Handed, Link, Box}
use Rattle.iscsi_outbox_rules.specs.rules.Words.{is_open, looks_for_arrival, unwritten, unarrived, under_way}
use Rattle.iscsi_outbox_rules.specs.rules.Run.{new_link, opened, after_call, answered}
use Rattle.iscsi_outbox_rules.specs.promises.Deeds.{Deed, deeds_of, handed_by, handed_in_deed, handed_on, items_in, is_lose_of, was_lost}
use Rattle.iscsi_outbox_rules.specs.promises.Arrived.{is_write_of, writes_on, has_arrived, is_written, is_through}
use Rattle.iscsi_outbox_rules.proofs.general.DeedLemmas.{handed_on-append, some_on}
use Rattle.iscsi_outbox_rules.proofs.general.FoundLemmas.{find_link, EachFound, found-conn}
use Rattle.iscsi_outbox_rules.proofs.general.ConnLemmas.{conns_of}
use Rattle.iscsi_outbox_rules.proofs.general.LinkRuns.{link_starts}
use Rattle.iscsi_outbox_rules.proofs.numbers.NumberTheorem.{BoxShows, box_shows, none_lost}
use Rattle.iscsi_outbox_rules.proofs.closes.MarkItems.{MarksStand}
use Rattle.iscsi_outbox_rules.proofs.closes.MarkCalls.{marks_kept, marks_start}
use Rattle.iscsi_outbox_rules.proofs.arrivals.ArriveDeeds.{or_stays, arrived-stays, one_more, writes_on-more}
use Rattle.iscsi_outbox_rules.proofs.arrivals.ArriveWalk.{bare, bare_keeps}
use Rattle.iscsi_outbox_rules.proofs.arrivals.ArrivePlaces.{Places, places_wise, places_start}

-- what stands of connections, call by call
pub record ArriveStand (o : Opening) (ds : List Deed) (b : Box) : Type 0 where
  pub shows : BoxShows ds b
  pub marks : MarksStand (conns_of (opened o).links) (items_in ds) b
  pub places : EachFound (λ (l : Link). Places ds (bare l)) b.links

pub arrive_kept : (o : Opening) (ds : List Deed) (b : Box) (c : Call) → ArriveStand o ds b → ArriveStand o (ds ++ (c, answered o b c) ∷ []) (after_call o b c)
arrive_kept o ds b c h = record { shows = box_shows o ds b c h.shows; marks = marks_kept o (conns_of (opened o).links) ds b c h.marks; places = bare_keeps o Places (places_wise o) ds b c h.shows h.places }

pub arrive_start : (o : Opening) → ArriveStand o [] (opened o)
arrive_start o = record { shows = link_starts o; marks = marks_start o; places = places_start o }

-- ---- the connection with a CID

pub find_known : (c : ℕ) (links : List Link) → list_any (λ k. k == c) (conns_of links) ≡ true → (l : Link) × (find_link c links ≡ Some l)
find_known c [] known = absurd (false≢true known)
find_known c (l ∷ links) known =
    elim (l.conn == c) as (λ v. (v || list_any (λ k. k == c) (conns_of links)) ≡ true
    → (m : Link) × (first_of (cond v (l ∷ filter (λ (k : Link). k.conn == c) links) (filter (λ (k : Link). k.conn == c) links)) ≡ Some m)) [
      | true ↦ λ here. (l, refl)
      | false ↦ λ later. find_known c links later
    ] known

-- where two connections are known, arrival is looked for as the opening says
pub looks_as_opened : (o : Opening) (c d : ℕ) → d ≢ c → list_any (λ k. k == c) (conns_of (opened o).links) ≡ true → list_any (λ k. k == d) (conns_of (opened o).links) ≡ true → looks_for_arrival o ≡ o.acknowledged
looks_as_opened o c d apart first second = by_acknowledged o.acknowledged
  where
    same : (xs : List (ℕ × ℕ)) → length (conns_of (map (λ (x : ℕ × ℕ). new_link x.0) xs)) ≡ length xs
    same [] = refl
    same (x ∷ xs) = let rest : length (conns_of (map (λ (y : ℕ × ℕ). new_link y.0) xs)) ≡ length xs = same xs in omega (arith, rest)

    only : (x e : ℕ) → ((x == e) || false) ≡ true → x ≡ e
    only x e is = elim (x == e) as (λ v. (x == e) ≡ v → (v || false) ≡ true → x ≡ e) [ true ↦ λ here k. eqb-true x e here | false ↦ λ there k. absurd (false≢true k) ] refl is

    two : (ns : List ℕ) → list_any (λ k. k == c) ns ≡ true → list_any (λ k. k == d) ns ≡ true → 1 < length ns
    two [] p q = absurd (false≢true p)
    two (n ∷ []) p q = absurd (apart (sym (only n d q) ∙ only n c p))
    two (n ∷ m ∷ ns) p q = omega arith

    many : nat_lt 1 (length o.session.conns) ≡ true
    many = lt-ltb 1 (length o.session.conns) (let some : 1 < length (conns_of (opened o).links) = two (conns_of (opened o).links) first second in let all : length (conns_of (opened o).links) ≡ length o.session.conns = same o.session.conns in omega (arith, some, all))

    by_acknowledged : (v : Bool) → (v && nat_lt 1 (length o.session.conns)) ≡ v
    by_acknowledged true = many
    by_acknowledged false = refl

-- ---- a connection that isn't open any more was lost since

not_lose : (call : Call) (x : Option Handed) (c d : ℕ) (g : Handed) → handed_by call x ≡ Some (d, g) → is_lose_of c call ≡ false
not_lose (Takes effects numbers) x c d g is = refl
not_lose (Puts p) x c d g is = refl
not_lose (Stops ticket) x c d g is = refl
not_lose (Nexts conn) x c d g is = refl
not_lose (Writes conn) x c d g is = refl
not_lose (Hears conn exp_stat_sn tag) x c d g is = refl
not_lose (Joins conn stat_sn) x c d g is = refl
not_lose (Loses conn) x c d g is = absurd cc
not_lose (Clears unit) x c d g is = refl

-- in what stays of a list when so many are dropped isn't what stood before
kept_out : {A : Type 0} (p : A → Bool) (k : ℕ) (xs ys : List A) (x : A) → p x ≡ true → list_any p (drop k (xs ++ x ∷ ys)) ≡ false → length xs < k
kept_out p zero xs ys x is none =
    let parts = or_none (list_any p xs) (list_any p (x ∷ ys)) (sym (list_any-append p xs (x ∷ ys)) ∙ none) in
    absurd (false≢true (sym parts.1 ∙ or_first (p x) (list_any p ys) is))
kept_out p (suc k) [] ys x is none = omega arith
kept_out p (suc k) (y ∷ xs) ys x is none = let rest : length xs < k = kept_out p k xs ys x is none in omega (arith, rest)

-- of a PDU that passes a test: where none that passes is under way, it is through
pub through_link : (o : Opening) (calls : List Call) (ds rest : List Deed) → ds ++ rest ≡ deeds_of o calls → (d : ℕ) (m : Link) → m.conn ≡ d → Places ds (bare m) → looks_for_arrival o ≡ o.acknowledged
    → (earlier since : List Deed) (handing : Deed) (g : Handed) → earlier ++ handing ∷ since ≡ ds → handed_in_deed handing ≡ Some (d, g) → (p : Handed → Bool) → p g ≡ true → list_any p (under_way o m) ≡ false
    → is_through o d earlier handing g since ≡ true
through_link o calls ds rest whole d m at places looks earlier since handing g split shown p is none = by_open (is_open m) refl none
  where
    parts : handed_on d ds ≡ handed_on d earlier ++ g ∷ handed_on d since
    parts =
        ap (handed_on d) (sym split) ∙ handed_on-append d earlier (handing ∷ since)
        ∙ ap (λ hs. handed_on d earlier ++ hs) (handed_on-append d (handing ∷ []) since ∙ ap (λ hs. hs ++ handed_on d since) (some_on d handing g shown))

    handed : m.handed ≡ handed_on d earlier ++ g ∷ handed_on d since
    handed = places.handed ∙ ap (λ c. handed_on c ds) at ∙ parts

    unlost_before : was_lost earlier d ≡ false
    unlost_before = none_lost o calls earlier (since ++ rest) handing d g (sym (append_assoc earlier (handing ∷ since) rest) ∙ ap (λ es. es ++ rest) split ∙ whole) shown

    lost_since : m.lost ≡ true → was_lost since d ≡ true
    lost_since lost =
        let all : (was_lost earlier d || (is_lose_of d handing.0 || was_lost since d)) ≡ true =
        sym (list_any-append (λ (e : Deed). is_lose_of d e.0) earlier (handing ∷ since)) ∙ ap (λ es. was_lost es d) split ∙ ap (was_lost ds) (sym at) ∙ sym places.lost ∙ lost in
        ap (λ v. v || was_lost since d) (sym (not_lose handing.0 _ d d g shown)) ∙ ap (λ v. v || (is_lose_of d handing.0 || was_lost since d)) (sym unlost_before) ∙ all

    nonempty : (xs ys : List Handed) → xs ++ g ∷ ys ≡ [] → ⊥
    nonempty [] ys none = absurd cc
    nonempty (x ∷ xs) ys none = absurd cc

    closed : (j v : Bool) → m.joined ≡ j → m.lost ≡ v → (j && not v) ≡ false → m.lost ≡ true
    closed false v joined lost shut = absurd (nonempty (handed_on d earlier) (handed_on d since) (sym handed ∙ places.empty joined))
    closed true true joined lost shut = lost
    closed true false joined lost shut = absurd (false≢true (sym shut))

    by_looks : (v : Bool) → looks_for_arrival o ≡ v → list_any p (cond v (unarrived m) (unwritten m)) ≡ false → is_through o d earlier handing g since ≡ true
    by_looks true look gone =
        let low : length (handed_on d earlier) < m.arrived = kept_out p m.arrived (handed_on d earlier) (handed_on d since) g is (ap (λ hs. list_any p (drop m.arrived hs)) (sym handed) ∙ gone) in
        let arrived : has_arrived m.conn g since ≡ true =
        places.arrived earlier since handing g split (shown ∙ ap (λ c. Some (c, g)) (sym at)) (subst (λ c. length (handed_on c earlier) < m.arrived) (sym at) low) in
        or_first (was_lost since d || has_arrived d g since) (not o.acknowledged && is_written d earlier handing since)
        (or_second (was_lost since d) (has_arrived d g since) (ap (λ c. has_arrived c g since) (sym at) ∙ arrived))
    by_looks false look gone =
        let low : length (handed_on d earlier) < m.written = kept_out p m.written (handed_on d earlier) (handed_on d since) g is (ap (λ hs. list_any p (drop m.written hs)) (sym handed) ∙ gone) in
        let written : m.written ≡ writes_on d (earlier ++ handing ∷ since) = places.written ∙ ap (λ c. writes_on c ds) at ∙ ap (writes_on d) (sym split) in
        or_second (was_lost since d || has_arrived d g since) (not o.acknowledged && is_written d earlier handing since)
        (and_both (not o.acknowledged) (is_written d earlier handing since) (ap (λ v. not v) (sym looks ∙ look)) (lt-ltb (length (handed_on d earlier)) (writes_on d (earlier ++ handing ∷ since)) (subst (λ n. length (handed_on d earlier) < n) written low)))

    by_open : (v : Bool) → is_open m ≡ v → list_any p (cond v (cond (looks_for_arrival o) (unarrived m) (unwritten m)) []) ≡ false → is_through o d earlier handing g since ≡ true
    by_open false shut gone =
        or_first (was_lost since d || has_arrived d g since) (not o.acknowledged && is_written d earlier handing since)
        (or_first (was_lost since d) (has_arrived d g since) (lost_since (closed m.joined m.lost refl refl shut)))
    by_open true opens gone = by_looks (looks_for_arrival o) refl gone

pub through : (o : Opening) (calls : List Call) (ds rest : List Deed) → ds ++ rest ≡ deeds_of o calls → (b : Box) → ArriveStand o ds b → (d : ℕ) (m : Link) → find_link d b.links ≡ Some m → looks_for_arrival o ≡ o.acknowledged
    → (earlier since : List Deed) (handing : Deed) (g : Handed) → earlier ++ handing ∷ since ≡ ds → handed_in_deed handing ≡ Some (d, g) → (p : Handed → Bool) → p g ≡ true → list_any p (under_way o m) ≡ false
    → is_through o d earlier handing g since ≡ true
through o calls ds rest whole b h d m found = through_link o calls ds rest whole d m (found-conn d b.links m found) (h.places d m found)

-- ---- what is through stays so

written-stays : (c : ℕ) (earlier since : List Deed) (handing d : Deed) → is_written c earlier handing since ≡ true → is_written c earlier handing (since ++ d ∷ []) ≡ true
written-stays c earlier since handing d h =
    let ds : List Deed = earlier ++ handing ∷ since in
    let n : ℕ = length (handed_on c earlier) in
    let more : writes_on c (earlier ++ handing ∷ (since ++ d ∷ [])) ≡ one_more (is_write_of c d.0) (length (handed_on c ds)) (writes_on c ds) =
    ap (writes_on c) (sym (append_assoc earlier (handing ∷ since) (d ∷ []))) ∙ writes_on-more c ds d in
    let low : n < writes_on c ds = ltb-true n (writes_on c ds) h in
    lt-ltb n (writes_on c (earlier ++ handing ∷ (since ++ d ∷ [])))
    (subst (λ m. n < m) (sym more)
    (cond_both (is_write_of c d.0 && nat_lt (writes_on c ds) (length (handed_on c ds))) (writes_on c ds + 1) (writes_on c ds) (λ m. n < m) (λ is. let k : n < writes_on c ds + 1 = omega (arith, low) in k) (λ is. low)))

pub through-stays : (o : Opening) (c : ℕ) (earlier since : List Deed) (handing d : Deed) (g : Handed) → is_through o c earlier handing g since ≡ true → is_through o c earlier handing g (since ++ d ∷ []) ≡ true
through-stays o c earlier since handing d g h =
    or_stays (was_lost since c || has_arrived c g since) (not o.acknowledged && is_written c earlier handing since) (was_lost later c || has_arrived c g later) (not o.acknowledged && is_written c earlier handing later)
    (or_stays (was_lost since c) (has_arrived c g since) (was_lost later c) (has_arrived c g later)
    (λ lost. list_any-append (λ (e : Deed). is_lose_of c e.0) since (d ∷ []) ∙ or_first (was_lost since c) (is_lose_of c d.0 || false) lost) (arrived-stays c g since (d ∷ [])))
    (λ both. let parts = and_parts (not o.acknowledged) (is_written c earlier handing since) both in and_both (not o.acknowledged) (is_written c earlier handing later) parts.0 (written-stays c earlier since handing d parts.1)) h
  where
    later : List Deed
    later = since ++ d ∷ []
