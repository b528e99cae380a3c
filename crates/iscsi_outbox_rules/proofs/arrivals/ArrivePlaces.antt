-- What the box has of a connection's PDUs that were written, and that arrived, is what the calls show.
use Rattle.std.proofs.Common.{◌≡◌, ℕ, ⊎_elim, ◌==◌, ◌&&◌, ◌||◌, ◌+◌, ◌≤◌, ◌<◌, cond, Bool, true, false, List, [], ◌∷◌, ◌++◌, length, map, max, nat_lt, nat_le, count_by, Some, None, refl, ap, sym, subst, ◌∙◌, arith, eq-eqb, length-append}
use Rattle.std.specs.List.{list_any}
use Rattle.std.proofs.lemmas.Bool.{cond_both, false≢true, eqb-true, cases_lt}
use Rattle.std.proofs.lemmas.List.{append-nil, length_push}
use Rattle.std.proofs.lemmas.List.Folds.{list_any-append}
use Rattle.iscsi_wire.specs.Serial.{wire, lift, number_of_first}
use Rattle.iscsi_rules.proofs.general.BoolLemmas.{and_both, or_first, or_second}
use Rattle.iscsi_rules.proofs.general.ListLemmas.{count_by-push}
use Rattle.iscsi_rules.proofs.general.NumberLemmas.{wire-lift}
use Rattle.iscsi_outbox_rules.specs.rules.Calls.{Opening, Nexts, Writes, Hears, Joins, Loses}
use Rattle.iscsi_outbox_rules.specs.rules.Boxes.{Pdu, Replies, Owns, Pings, Notices, Handed, Link}
use Rattle.iscsi_outbox_rules.specs.rules.Words.{is_open}
use Rattle.iscsi_outbox_rules.specs.rules.Handing.{takes_handed, next_stat_sn}
use Rattle.iscsi_outbox_rules.specs.rules.Run.{Silent, Joined, new_link, opened, one_written, arrived_by_stat_sn, arrived_by_ping, link_heard, link_joined, link_lost}
use Rattle.iscsi_outbox_rules.specs.promises.Deeds.{Deed, handed_in_deed, handed_on, is_lose_of, was_lost}
use Rattle.iscsi_outbox_rules.specs.promises.Arrived.{acknowledges, answers, is_write_of, writes_on, shows_arrival, has_arrived, is_acknowledged}
use Rattle.iscsi_outbox_rules.proofs.general.FoundLemmas.{EachFound}
use Rattle.iscsi_outbox_rules.proofs.general.EachLemmas.{EachOf, each-first_of}
use Rattle.iscsi_outbox_rules.proofs.general.DeedLemmas.{was_lost-more, handed_on-append, some_on}
use Rattle.iscsi_outbox_rules.proofs.arrivals.ArriveDeeds.{split_last, Apart, apart_on, next_after, next_after-more, next_apart, next_on, acknowledged-now, is_answered, arrived-stays, arrives_with, one_more, writes_on-more}
use Rattle.iscsi_outbox_rules.proofs.arrivals.ArriveNumbers.{CountFrom, count-push, acknowledged_by, Pointed, pointed, Pinged, pinged}
use Rattle.iscsi_outbox_rules.proofs.arrivals.ArriveWalk.{bare, some_handed, Barewise}

-- ---- what the deeds show

-- the StatSN behind each PDU that took one, as the deeds tell it, is n by now
abbrev pub NextIs : List Deed → ℕ → ℕ → Type 0
NextIs ds c n = (earlier since : List Deed) (deed : Deed) (h : Handed) → earlier ++ deed ∷ since ≡ ds → handed_in_deed deed ≡ Some (c, h) → h.out.takes ≡ true → next_after c (wire (h.stat_sn + 1)) since ≡ n

-- the first k of what was handed out on the connection are known to have arrived
abbrev pub ArrivedTo : List Deed → ℕ → ℕ → Type 0
ArrivedTo ds c k = (earlier since : List Deed) (deed : Deed) (h : Handed) → earlier ++ deed ∷ since ≡ ds → handed_in_deed deed ≡ Some (c, h) → length (handed_on c earlier) < k → has_arrived c h since ≡ true

pub record Places (ds : List Deed) (l : Link) : Type 0 where
  pub handed : l.handed ≡ handed_on l.conn ds
  pub counts : CountFrom l.first l.handed
  pub next : NextIs ds l.conn (wire (next_stat_sn l))
  pub below : l.arrived ≤ length l.handed
  pub arrived : ArrivedTo ds l.conn l.arrived
  pub written : l.written ≡ writes_on l.conn ds
  pub lost : l.lost ≡ was_lost ds l.conn
  pub empty : l.joined ≡ false → l.handed ≡ []

-- ---- a deed more that hands out nothing there

handed_apart : (c : ℕ) (ds : List Deed) (d : Deed) → Apart c d → handed_on c (ds ++ d ∷ []) ≡ handed_on c ds
handed_apart c ds d apart = handed_on-append c ds (d ∷ []) ∙ ap (λ hs. handed_on c ds ++ hs) (apart_on c d apart) ∙ append-nil (handed_on c ds)

next_stays : (c n : ℕ) (ds : List Deed) (d : Deed) → Apart c d → NextIs ds c n → NextIs (ds ++ d ∷ []) c n
next_stays c n ds d apart k earlier since deed h whole shown takes =
    ⊎_elim
    (λ last. absurd (apart h (ap handed_in_deed (sym last.1) ∙ shown)))
    (λ later.
    let from : ℕ = wire (h.stat_sn + 1) in
    ap (next_after c from) later.1 ∙ next_after-more c from later.0 d ∙ next_apart c (next_after c from later.0) d apart ∙ k earlier later.0 deed h later.2 shown takes)
    (split_last earlier since ds deed d whole)

arrived_more : (c k : ℕ) (ds : List Deed) (d : Deed) → k ≤ length (handed_on c ds) → ArrivedTo ds c k → ArrivedTo (ds ++ d ∷ []) c k
arrived_more c k ds d few h earlier since deed g whole shown low =
    ⊎_elim
    (λ last. let same : length (handed_on c earlier) ≡ length (handed_on c ds) = ap (λ es. length (handed_on c es)) last.0 in absurd (omega (arith, same, low, few)))
    (λ later. subst (λ es. has_arrived c g es ≡ true) (sym later.1) (arrived-stays c g later.0 (d ∷ []) (h earlier later.0 deed g later.2 shown low)))
    (split_last earlier since ds deed d whole)

written_apart : (c : ℕ) (ds : List Deed) (d : Deed) → is_write_of c d.0 ≡ false → writes_on c (ds ++ d ∷ []) ≡ writes_on c ds
written_apart c ds d isnt = writes_on-more c ds d ∙ ap (λ v. one_more v (length (handed_on c ds)) (writes_on c ds)) isnt

same_lost : (c : ℕ) (ds : List Deed) (d : Deed) → is_lose_of c d.0 ≡ false → was_lost (ds ++ d ∷ []) c ≡ was_lost ds c
same_lost c ds d isnt = was_lost-more ds d c ∙ ap (λ v. was_lost ds c || v) isnt ∙ or_false (was_lost ds c)
  where
    or_false : (v : Bool) → (v || false) ≡ v
    or_false true = refl
    or_false false = refl

-- `l'` is `l` but for its marks
still : (ds : List Deed) (d : Deed) (l l' : Link) → Apart l.conn d → is_write_of l.conn d.0 ≡ false → l'.conn ≡ l.conn → l'.first ≡ l.first → l'.handed ≡ l.handed → l'.arrived ≡ l.arrived → l'.written ≡ l.written
    → l'.joined ≡ l.joined → l'.lost ≡ was_lost (ds ++ d ∷ []) l'.conn → Places ds l → Places (ds ++ d ∷ []) l'
still ds d l l' apart unwritten conn first handed arrived written joined lost k = record {
  handed = handed ∙ k.handed ∙ sym (handed_apart l.conn ds d apart) ∙ ap (λ c. handed_on c (ds ++ d ∷ [])) (sym conn);
  counts = subst (λ n. CountFrom n l'.handed) (sym first) (subst (CountFrom l.first) (sym handed) k.counts);
  next = subst (λ c. NextIs (ds ++ d ∷ []) c (wire (next_stat_sn l'))) (sym conn)
      (subst (λ n. NextIs (ds ++ d ∷ []) l.conn (wire n)) (sym same_next) (next_stays l.conn (wire (next_stat_sn l)) ds d apart k.next));
  below = subst (λ n. n ≤ length l'.handed) (sym arrived) (subst (λ hs. l.arrived ≤ length hs) (sym handed) k.below);
  arrived = subst (λ n. ArrivedTo (ds ++ d ∷ []) l'.conn n) (sym arrived)
      (subst (λ c. ArrivedTo (ds ++ d ∷ []) c l.arrived) (sym conn) (arrived_more l.conn l.arrived ds d (subst (λ hs. l.arrived ≤ length hs) k.handed k.below) k.arrived));
  written = written ∙ k.written ∙ sym (written_apart l.conn ds d unwritten) ∙ ap (λ c. writes_on c (ds ++ d ∷ [])) (sym conn);
  lost = lost;
  empty = λ is. handed ∙ k.empty (sym joined ∙ is);
}
  where
    same_next : next_stat_sn l' ≡ next_stat_sn l
    same_next = ap (λ n. n + count_by takes_handed l'.handed) first ∙ ap (λ hs. l.first + count_by takes_handed hs) handed

-- ---- a PDU more

wire_next : (g n : ℕ) → g ≡ wire n → wire (g + 1) ≡ wire (n + 1)
wire_next g n is = omega (arith, is)

next_hand : (c n : ℕ) (ds : List Deed) (d : Deed) (g : Handed) → handed_in_deed d ≡ Some (c, g) → g.stat_sn ≡ wire n → NextIs ds c (wire n) → NextIs (ds ++ d ∷ []) c (wire (cond g.out.takes (n + 1) n))
next_hand c n ds d g handed sn k earlier since deed h whole shown takes = ⊎_elim last later (split_last earlier since ds deed d whole)
  where
    from : ℕ
    from = wire (h.stat_sn + 1)

    last : (earlier ≡ ds) × (deed ≡ d) × (since ≡ []) → next_after c from since ≡ wire (cond g.out.takes (n + 1) n)
    last e =
        let same : h ≡ g = ap (λ (x : ℕ × Handed). x.1) (some_handed (c, h) (c, g) (sym shown ∙ ap handed_in_deed e.1 ∙ handed)) in
        ap (next_after c from) e.2 ∙ ap (λ (x : Handed). wire (x.stat_sn + 1)) same ∙ wire_next g.stat_sn n sn ∙ ap (λ v. wire (cond v (n + 1) n)) (sym (ap (λ (x : Handed). x.out.takes) (sym same) ∙ takes))

    by_takes : (v : Bool) → cond v (wire (g.stat_sn + 1)) (wire n) ≡ wire (cond v (n + 1) n)
    by_takes true = wire_next g.stat_sn n sn
    by_takes false = refl

    later : (rest : List Deed) × (since ≡ rest ++ d ∷ []) × (earlier ++ deed ∷ rest ≡ ds) → next_after c from since ≡ wire (cond g.out.takes (n + 1) n)
    later e =
        ap (next_after c from) e.1 ∙ next_after-more c from e.0 d ∙ next_on c (next_after c from e.0) d g handed
        ∙ ap (λ m. cond g.out.takes (wire (g.stat_sn + 1)) m) (k earlier e.0 deed h e.2 shown takes) ∙ by_takes g.out.takes

next_pushed : (l : Link) (h : Handed) → next_stat_sn (record l { handed = l.handed ++ h ∷ [] }) ≡ cond h.out.takes (next_stat_sn l + 1) (next_stat_sn l)
next_pushed l h = by_takes h.out.takes (count_by takes_handed (l.handed ++ h ∷ [])) (count_by-push takes_handed l.handed h)
  where
    by_takes : (v : Bool) (all : ℕ) → all ≡ count_by takes_handed l.handed + cond v 1 0 → l.first + all ≡ cond v (next_stat_sn l + 1) (next_stat_sn l)
    by_takes true all same = omega (arith, same)
    by_takes false all same = omega (arith, same)

hand : (ds : List Deed) (d : Deed) (l : Link) (h : Handed) → d.0 ≡ Nexts l.conn → handed_in_deed d ≡ Some (l.conn, h) → h.stat_sn ≡ wire (next_stat_sn l) → l.joined ≡ true → Places ds l
    → Places (ds ++ d ∷ []) (record l { handed = l.handed ++ h ∷ [] })
hand ds d l h call shown sn joined k = record {
  handed = ap (λ hs. hs ++ h ∷ []) k.handed ∙ sym (handed_on-append l.conn ds (d ∷ []) ∙ ap (λ hs. handed_on l.conn ds ++ hs) (some_on l.conn d h shown));
  counts = count-push l.first l.handed h k.counts sn;
  next = subst (λ n. NextIs (ds ++ d ∷ []) l.conn (wire n)) (sym (next_pushed l h)) (next_hand l.conn (next_stat_sn l) ds d h shown sn k.next);
  below = omega (arith, k.below, length_push l.handed h);
  arrived = arrived_more l.conn l.arrived ds d (subst (λ hs. l.arrived ≤ length hs) k.handed k.below) k.arrived;
  written = k.written ∙ sym (written_apart l.conn ds d (ap (is_write_of l.conn) call));
  lost = k.lost ∙ sym (same_lost l.conn ds d (ap (is_lose_of l.conn) call));
  empty = λ isnt. absurd (false≢true (sym isnt ∙ joined));
}

-- ---- one is written

wrote : (ds : List Deed) (l : Link) → Places ds l → Places (ds ++ (Writes l.conn, Silent) ∷ []) (one_written l)
wrote ds l k = by_test (nat_lt l.written (length l.handed)) refl
  where
    d : Deed
    d = (Writes l.conn, Silent)

    c : ℕ
    c = l.conn

    more : writes_on c (ds ++ d ∷ []) ≡ cond (nat_lt l.written (length l.handed)) (l.written + 1) l.written
    more =
        writes_on-more c ds d ∙ ap (λ v. one_more v (length (handed_on c ds)) (writes_on c ds)) (eq-eqb c c refl)
        ∙ ap (λ n. cond (nat_lt n (length (handed_on c ds))) (n + 1) n) (sym k.written) ∙ ap (λ hs. cond (nat_lt l.written (length hs)) (l.written + 1) l.written) (sym k.handed)

    with : (n : ℕ) → n ≡ writes_on c (ds ++ d ∷ []) → Places (ds ++ d ∷ []) (record l { written = n })
    with n is = record {
      handed = k.handed ∙ sym (handed_apart c ds d (λ g shown. absurd cc));
      counts = k.counts;
      next = next_stays c (wire (next_stat_sn l)) ds d (λ g shown. absurd cc) k.next;
      below = k.below;
      arrived = arrived_more c l.arrived ds d (subst (λ hs. l.arrived ≤ length hs) k.handed k.below) k.arrived;
      written = is;
      lost = k.lost ∙ sym (same_lost c ds d refl);
      empty = k.empty;
    }

    by_test : (v : Bool) → nat_lt l.written (length l.handed) ≡ v → Places (ds ++ d ∷ []) (cond v (record l { written = l.written + 1 }) l)
    by_test true is = with (l.written + 1) (sym (more ∙ ap (λ v. cond v (l.written + 1) l.written) is))
    by_test false is = with l.written (sym (more ∙ ap (λ v. cond v (l.written + 1) l.written) is))

-- ---- something is heard

all_below : (a b c n : ℕ) → a ≤ n → b ≤ n → c ≤ n → max a (max b c) ≤ n
all_below a b c n h k j = omega (arith, h, k, j)

the_last : (i a b c : ℕ) → i < max a (max b c) → a ≤ i → b ≤ i → i < c
the_last i a b c low h k = omega (arith, low, h, k)

none_below : (a n : ℕ) → a ≤ 0 → a ≤ n
none_below a n h = omega (arith, h)

module _ (ds : List Deed) (l : Link) (exp_stat_sn tag : ℕ) (k : Places ds l) where
  abbrev heard : Deed
  heard = (Hears l.conn exp_stat_sn tag, Silent)

  -- an ExpStatSN acknowledges the PDU that took the StatSN before it
  points : (p : Pointed l exp_stat_sn) (before after : List Deed) (e : Deed) → before ++ e ∷ after ≡ ds → handed_in_deed e ≡ Some (l.conn, p.at) → shows_arrival l.conn p.at (after ++ heard ∷ []) ≡ true
  points p before after e whole shown =
      let c : ℕ = l.conn in
      let s : ℕ = p.at.stat_sn in
      let next : next_after c (wire (s + 1)) after ≡ wire (next_stat_sn l) = k.next before after e p.at whole shown p.takes in
      let tests = acknowledged_by s p.number (lift (next_stat_sn l) exp_stat_sn) (next_stat_sn l) exp_stat_sn p.sn p.next p.low p.near (wire-lift (next_stat_sn l) exp_stat_sn) in
      let now : acknowledges c s (next_after c (wire (s + 1)) after) (Hears c exp_stat_sn tag) ≡ true =
      ap (λ n. acknowledges c s n (Hears c exp_stat_sn tag)) next
      ∙ and_both ((c == c) && nat_lt (number_of_first s) (lift (number_of_first s) exp_stat_sn)) (nat_le (lift (number_of_first s) exp_stat_sn) (lift (number_of_first s) (wire (next_stat_sn l))))
      (and_both (c == c) (nat_lt (number_of_first s) (lift (number_of_first s) exp_stat_sn)) (eq-eqb c c refl) tests.0) tests.1 in
      or_first (p.at.out.takes && is_acknowledged c s (wire (s + 1)) (after ++ heard ∷ [])) (is_answered c p.at.out.pdu (after ++ heard ∷ []))
      (and_both p.at.out.takes (is_acknowledged c s (wire (s + 1)) (after ++ heard ∷ [])) p.takes (acknowledged-now c s (wire (s + 1)) after heard now))

  -- a ping is answered by its tag
  pings : (p : Pinged l tag) (after : List Deed) → shows_arrival l.conn p.at (after ++ heard ∷ []) ≡ true
  pings p after =
      or_second (p.at.out.takes && is_acknowledged l.conn p.at.stat_sn (wire (p.at.stat_sn + 1)) (after ++ heard ∷ [])) (is_answered l.conn p.at.out.pdu (after ++ heard ∷ [])) (by_pdu p.at.out.pdu p.ping)
    where
      by_pdu : (x : Pdu) → elim x [ Pings t ↦ t == tag | Replies reply ↦ false | Owns q ↦ false | Notices ↦ false ] ≡ true → is_answered l.conn x (after ++ heard ∷ []) ≡ true
      by_pdu (Pings t) is =
          list_any-append (λ (e : Deed). answers l.conn t e.0) after (heard ∷ [])
          ∙ or_second (list_any (λ (e : Deed). answers l.conn t e.0) after) (answers l.conn t heard.0 || false)
          (or_first (answers l.conn t heard.0) false (and_both (l.conn == l.conn) (tag == t) (eq-eqb l.conn l.conn refl) (eq-eqb tag t (sym (eqb-true t tag is)))))
      by_pdu (Replies reply) is = absurd (false≢true is)
      by_pdu (Owns q) is = absurd (false≢true is)
      by_pdu Notices is = absurd (false≢true is)

  -- up to the one in this place
  reached : (n : ℕ) (xs ys : List Handed) (g : Handed) → xs ++ g ∷ ys ≡ l.handed → length xs + 1 ≡ n
      → ((before after : List Deed) (e : Deed) → before ++ e ∷ after ≡ ds → handed_in_deed e ≡ Some (l.conn, g) → shows_arrival l.conn g (after ++ heard ∷ []) ≡ true) → ArrivedTo (ds ++ heard ∷ []) l.conn n
  reached n xs ys g whole place arrives earlier since deed h split shown low =
      ⊎_elim
      (λ last. let none : None ≡ Some (l.conn, h) = sym (ap handed_in_deed last.1) ∙ shown in absurd cc)
      (λ later. subst (λ es. has_arrived l.conn h es ≡ true) (sym later.1)
      (arrives_with l.conn ds earlier later.0 deed heard h xs ys g later.2 shown (sym (whole ∙ k.handed)) (omega (arith, low, place)) arrives))
      (split_last earlier since ds deed heard split)

  by_stat_sn : (i : ℕ) → i < arrived_by_stat_sn l exp_stat_sn → ArrivedTo (ds ++ heard ∷ []) l.conn (arrived_by_stat_sn l exp_stat_sn)
  by_stat_sn i low = let p : Pointed l exp_stat_sn = pointed l exp_stat_sn i k.counts low in reached (arrived_by_stat_sn l exp_stat_sn) p.before p.after p.at p.whole p.place (points p)

  by_ping : (i : ℕ) → i < arrived_by_ping l tag → ArrivedTo (ds ++ heard ∷ []) l.conn (arrived_by_ping l tag)
  by_ping i low = let p : Pinged l tag = pinged l tag i k.below low in reached (arrived_by_ping l tag) p.before p.after p.at p.whole p.place (λ before after e whole shown. pings p after)

  placed_before : (xs ys : List Handed) (g : Handed) (n : ℕ) → xs ++ g ∷ ys ≡ l.handed → length xs + 1 ≡ n → n ≤ length l.handed
  placed_before xs ys g n whole place =
      let all : length (xs ++ g ∷ ys) ≡ length l.handed = ap length whole in
      let size : length (xs ++ g ∷ ys) ≡ length xs + length (g ∷ ys) = length-append xs (g ∷ ys) in
      omega (arith, all, size, place)

  stat_sn_below : arrived_by_stat_sn l exp_stat_sn ≤ length l.handed
  stat_sn_below = ⊎_elim (λ some. let p : Pointed l exp_stat_sn = pointed l exp_stat_sn 0 k.counts some in placed_before p.before p.after p.at (arrived_by_stat_sn l exp_stat_sn) p.whole p.place) (λ none. none_below (arrived_by_stat_sn l exp_stat_sn) (length l.handed) none) (cases_lt 0 (arrived_by_stat_sn l exp_stat_sn))

  ping_below : arrived_by_ping l tag ≤ length l.handed
  ping_below = ⊎_elim (λ some. let p : Pinged l tag = pinged l tag 0 k.below some in placed_before p.before p.after p.at (arrived_by_ping l tag) p.whole p.place) (λ none. none_below (arrived_by_ping l tag) (length l.handed) none) (cases_lt 0 (arrived_by_ping l tag))

  apart : Apart l.conn heard
  apart g shown = absurd cc

  hear : Places (ds ++ heard ∷ []) (link_heard exp_stat_sn tag l)
  hear =
      cond_both (is_open l) (record l { arrived = max l.arrived (max (arrived_by_stat_sn l exp_stat_sn) (arrived_by_ping l tag)) }) l (Places (ds ++ heard ∷ []))
      (λ opens. record {
        handed = k.handed ∙ sym (handed_apart l.conn ds heard apart);
        counts = k.counts;
        next = next_stays l.conn (wire (next_stat_sn l)) ds heard apart k.next;
        below = all_below l.arrived (arrived_by_stat_sn l exp_stat_sn) (arrived_by_ping l tag) (length l.handed) k.below stat_sn_below ping_below;
        arrived = all;
        written = k.written ∙ sym (written_apart l.conn ds heard refl);
        lost = k.lost ∙ sym (same_lost l.conn ds heard refl);
        empty = k.empty;
      })
      (λ shut. still ds heard l l apart refl refl refl refl refl refl refl (k.lost ∙ sym (same_lost l.conn ds heard refl)) k)
    where
      old : ArrivedTo (ds ++ heard ∷ []) l.conn l.arrived
      old = arrived_more l.conn l.arrived ds heard (subst (λ hs. l.arrived ≤ length hs) k.handed k.below) k.arrived

      all : ArrivedTo (ds ++ heard ∷ []) l.conn (max l.arrived (max (arrived_by_stat_sn l exp_stat_sn) (arrived_by_ping l tag)))
      all earlier since deed h split shown low =
          let i : ℕ = length (handed_on l.conn earlier) in
          ⊎_elim (λ before. old earlier since deed h split shown before)
          (λ behind. ⊎_elim (λ by_sn. by_stat_sn i by_sn earlier since deed h split shown by_sn)
          (λ beyond. let by_tag : i < arrived_by_ping l tag = the_last i l.arrived (arrived_by_stat_sn l exp_stat_sn) (arrived_by_ping l tag) low behind beyond in by_ping i by_tag earlier since deed h split shown by_tag)
          (cases_lt i (arrived_by_stat_sn l exp_stat_sn)))
          (cases_lt i l.arrived)

-- ---- call by call

join : (ds : List Deed) (l : Link) (stat_sn : ℕ) → l.handed ≡ [] → Places ds l → Places (ds ++ (Joins l.conn stat_sn, Joined true) ∷ []) (link_joined stat_sn l)
join ds l stat_sn empty k = record {
  handed = k.handed ∙ sym (handed_apart l.conn ds d apart);
  counts = subst (CountFrom (number_of_first stat_sn)) (sym empty) tt;
  next = next_stays l.conn (wire (next_stat_sn (link_joined stat_sn l))) ds d apart (λ earlier since deed h whole shown takes. absurd (none earlier since deed h whole shown));
  below = k.below;
  arrived = arrived_more l.conn l.arrived ds d (subst (λ hs. l.arrived ≤ length hs) k.handed k.below) k.arrived;
  written = k.written ∙ sym (written_apart l.conn ds d refl);
  lost = k.lost ∙ sym (same_lost l.conn ds d refl);
  empty = λ isnt. empty;
}
  where
    d : Deed
    d = (Joins l.conn stat_sn, Joined true)

    apart : Apart l.conn d
    apart g shown = absurd cc

    unhanded : (xs ys : List Handed) (h : Handed) → xs ++ h ∷ ys ≡ [] → ⊥
    unhanded [] ys h is = absurd cc
    unhanded (x ∷ xs) ys h is = absurd cc

    none : (earlier since : List Deed) (deed : Deed) (h : Handed) → earlier ++ deed ∷ since ≡ ds → handed_in_deed deed ≡ Some (l.conn, h) → ⊥
    none earlier since deed h whole shown =
        unhanded (handed_on l.conn earlier) (handed_on l.conn since) h
        (sym (handed_on-append l.conn earlier (deed ∷ since)
        ∙ ap (λ hs. handed_on l.conn earlier ++ hs) (handed_on-append l.conn (deed ∷ []) since ∙ ap (λ hs. hs ++ handed_on l.conn since) (some_on l.conn deed h shown)))
        ∙ ap (handed_on l.conn) whole ∙ sym k.handed ∙ empty)

pub places_wise : (o : Opening) → Barewise o Places
places_wise o = record {
  quiet = λ ds d l quiet k. still ds d l l quiet.apart quiet.unwritten refl refl refl refl refl refl (k.lost ∙ sym (same_lost l.conn ds d quiet.unlost)) k;
  writes = wrote;
  hears = λ ds l exp_stat_sn tag k. hear ds l exp_stat_sn tag k;
  loses = λ ds l k. still ds (Loses l.conn, Silent) l (link_lost l) (λ g shown. absurd cc) refl refl refl refl refl refl refl
      (sym (was_lost-more ds (Loses l.conn, Silent) l.conn ∙ or_second (was_lost ds l.conn) (l.conn == l.conn) (eq-eqb l.conn l.conn refl))) k;
  joins = join;
  hands = hand;
}

pub places_start : (o : Opening) → EachFound (λ (l : Link). Places [] (bare l)) (opened o).links
places_start o conn l found = each-first_of (λ (m : Link). Places [] (bare m)) (λ (m : Link). m.conn == conn) (opened o).links l found (starts o.session.conns)
  where
    none : (earlier since : List Deed) (deed : Deed) → earlier ++ deed ∷ since ≡ [] → ⊥
    none [] since deed is = absurd cc
    none (e ∷ earlier) since deed is = absurd cc

    new : (c : ℕ) → Places [] (bare (new_link c))
    new c = record {
      handed = refl;
      counts = tt;
      next = λ earlier since deed h whole shown takes. absurd (none earlier since deed whole);
      below = (let z : 0 ≤ 0 = omega arith in z);
      arrived = λ earlier since deed h whole shown low. absurd (none earlier since deed whole);
      written = refl;
      lost = refl;
      empty = λ isnt. refl;
    }

    starts : (cs : List (ℕ × ℕ)) → EachOf (λ (m : Link). Places [] (bare m)) (map (λ (x : ℕ × ℕ). new_link x.0) cs)
    starts [] = tt
    starts (x ∷ cs) = (new x.0, starts cs)
