-- Where in what a connection handed out an ExpStatSN points to, and the PDU that it acknowledges.
use Rattle.std.proofs.Common.{◌≡◌, ℕ, zero, suc, ◌&&◌, ◌+◌, ◌-◌, ◌≤◌, ◌<◌, ◌^◌, not, cond, Bool, true, false, List, [], ◌∷◌, ◌++◌, length, take, count_by, nat_lt, nat_le, Some, None, refl, ap, sym, subst, ◌∙◌, arith, lt-ltb, le-leb, ltb-true, leb-true, length-append}
use Rattle.std.specs.List.{position_or_len}
use Rattle.std.proofs.lemmas.List.{append_assoc, take-append-drop, length-take-le}
use Rattle.std.proofs.lemmas.List.Sums.{sum_by-cons}
use Rattle.iscsi_wire.specs.Serial.{wire, lift, number_of_first}
use Rattle.iscsi_rules.proofs.general.BoolLemmas.{and_parts}
use Rattle.iscsi_outbox_rules.specs.rules.Boxes.{Handed, Link}
use Rattle.iscsi_outbox_rules.specs.rules.Words.{unarrived}
use Rattle.iscsi_outbox_rules.specs.rules.Handing.{takes_handed, next_stat_sn}
use Rattle.iscsi_outbox_rules.specs.rules.Run.{up_to_taking, arrived_by_stat_sn, is_ping_with, arrived_by_ping}

-- ---- StatSNs along what was handed out

-- they count from n on
abbrev pub CountFrom : ℕ → List Handed → Type 0
CountFrom n [] = Unit {0}
CountFrom n (h ∷ hs) = (h.stat_sn ≡ wire n) × CountFrom (cond h.out.takes (n + 1) n) hs

pub count-push : (n : ℕ) (hs : List Handed) (h : Handed) → CountFrom n hs → h.stat_sn ≡ wire (n + count_by takes_handed hs) → CountFrom n (hs ++ h ∷ [])
count-push n [] h k is = (is ∙ ap wire (let z : n + 0 ≡ n = omega arith in z), tt)
count-push n (g ∷ hs) h k is =
    (k.0, count-push (cond g.out.takes (n + 1) n) hs h k.1 (is ∙ ap wire (by_takes g.out.takes (count_by takes_handed (g ∷ hs)) (count_by takes_handed hs) (sum_by-cons (λ (x : Handed). cond (takes_handed x) 1 0) g hs))))
  where
    by_takes : (v : Bool) (all rest : ℕ) → all ≡ cond v 1 0 + rest → n + all ≡ cond v (n + 1) n + rest
    by_takes true all rest same = omega (arith, same)
    by_takes false all rest same = omega (arith, same)

-- the PDU that took the k-th StatSN, from 0
pub record Taking (n : ℕ) (hs : List Handed) (k : ℕ) : Type 0 where
  pub before : List Handed
  pub at : Handed
  pub after : List Handed
  pub whole : before ++ at ∷ after ≡ hs
  pub takes : at.out.takes ≡ true
  pub sn : at.stat_sn ≡ wire (n + k)
  pub place : length before + 1 ≡ up_to_taking (suc k) hs

taking_later : (n m : ℕ) (h : Handed) (hs : List Handed) (j k : ℕ) → m + j ≡ n + k → 1 + up_to_taking (suc j) hs ≡ up_to_taking (suc k) (h ∷ hs) → Taking m hs j → Taking n (h ∷ hs) k
taking_later n m h hs j k same place t = record {
  before = h ∷ t.before;
  at = t.at;
  after = t.after;
  whole = ap (λ gs. h ∷ gs) t.whole;
  takes = t.takes;
  sn = t.sn ∙ ap wire same;
  place = (let z : length (h ∷ t.before) + 1 ≡ 1 + (length t.before + 1) = omega arith in z) ∙ ap (λ x. 1 + x) t.place ∙ place;
}

taking_more : (n : ℕ) (h : Handed) (hs : List Handed) (k : ℕ) → ((m j : ℕ) → CountFrom m hs → suc j ≤ count_by takes_handed hs → Taking m hs j) → CountFrom n (h ∷ hs) → suc k ≤ count_by takes_handed (h ∷ hs) → Taking n (h ∷ hs) k
taking_more n h hs k later s few = by_takes h.out.takes refl s.1 (sum_by-cons (λ (x : Handed). cond (takes_handed x) 1 0) h hs) k few
  where
    by_takes : (v : Bool) → h.out.takes ≡ v → CountFrom (cond v (n + 1) n) hs → count_by takes_handed (h ∷ hs) ≡ cond v 1 0 + count_by takes_handed hs → (j : ℕ) → suc j ≤ count_by takes_handed (h ∷ hs) → Taking n (h ∷ hs) j
    by_takes false is t all j some = taking_later n n h hs j j refl (ap (λ v. 1 + cond v (up_to_taking j hs) (up_to_taking (suc j) hs)) (sym is)) (later n j t (omega (arith, some, all)))
    by_takes true is t all zero some = record {
      before = [];
      at = h;
      after = hs;
      whole = refl;
      takes = is;
      sn = s.0 ∙ ap wire (let z : n ≡ n + 0 = omega arith in z);
      place = ap (λ v. 1 + cond v (up_to_taking 0 hs) (up_to_taking 1 hs)) (sym is);
    }
    by_takes true is t all (suc j) some =
        taking_later n (n + 1) h hs j (suc j) (let z : n + 1 + j ≡ n + suc j = omega arith in z) (ap (λ v. 1 + cond v (up_to_taking (suc j) hs) (up_to_taking (suc (suc j)) hs)) (sym is))
        (later (n + 1) j t (omega (arith, some, all)))

pub taking_at : (n : ℕ) (hs : List Handed) (k : ℕ) → CountFrom n hs → suc k ≤ count_by takes_handed hs → Taking n hs k
taking_at n [] k s few = absurd (let none : suc k ≤ 0 = few in omega (arith, none))
taking_at n (h ∷ hs) k s few = taking_more n h hs k (λ m j t some. taking_at m hs j t some) s few

-- ---- an ExpStatSN

lifted : (e j w : ℕ) → 2 ^ 32 ≤ e → j < 2 ^ 31 → wire w ≡ wire (e + j) → lift e w ≡ e + j
lifted e j w big near shows = omega (arith, big, near, shows)

shown_one : (s m n exp : ℕ) → s ≡ wire m → n ≡ m + 1 → wire n ≡ wire exp → wire exp ≡ wire (number_of_first s + 1)
shown_one s m n exp is next shows = omega (arith, is, next, shows)

shown_more : (s m next j : ℕ) → s ≡ wire m → next ≡ m + j → wire (wire next) ≡ wire (number_of_first s + j)
shown_more s m next j is far = omega (arith, is, far)

-- it is above the PDU's StatSN, and not above the next one: `m` is the number of the PDU, `n` the one that is heard
pub acknowledged_by : (s m n next exp : ℕ) → s ≡ wire m → n ≡ m + 1 → n ≤ next → next - n < 2 ^ 31 - 1 → wire n ≡ wire exp
    → (nat_lt (number_of_first s) (lift (number_of_first s) exp) ≡ true) × (nat_le (lift (number_of_first s) exp) (lift (number_of_first s) (wire next)) ≡ true)
acknowledged_by s m n next exp is at low near shows =
    let far : next ≡ m + (next - m) = omega (arith, at, low) in
    let close : next - m < 2 ^ 31 = omega (arith, at, low, near) in
    let first : lift (number_of_first s) exp ≡ number_of_first s + 1 = lifted (number_of_first s) 1 exp (omega arith) (omega arith) (shown_one s m n exp is at shows) in
    let second : lift (number_of_first s) (wire next) ≡ number_of_first s + (next - m) = lifted (number_of_first s) (next - m) (wire next) (omega arith) close (shown_more s m next (next - m) is far) in
    let above : number_of_first s < number_of_first s + 1 = omega arith in
    let below : number_of_first s + 1 ≤ number_of_first s + (next - m) = omega (arith, at, low) in (
      lt-ltb (number_of_first s) (lift (number_of_first s) exp) (subst (λ k. number_of_first s < k) (sym first) above),
      le-leb (lift (number_of_first s) exp) (lift (number_of_first s) (wire next))
          (subst (λ k. k ≤ lift (number_of_first s) (wire next)) (sym first) (subst (λ k. number_of_first s + 1 ≤ k) (sym second) below)),
    )

taking_few : (n f c k : ℕ) → n - f ≡ suc k → n ≤ f + c → suc k ≤ c
taking_few n f c k same low = omega (arith, same, low)

taking_next : (n f k : ℕ) → n - f ≡ suc k → n ≡ f + k + 1
taking_next n f k same = omega (arith, same)

-- the PDU that took the StatSN before it
pub record Pointed (l : Link) (exp : ℕ) : Type 0 where
  pub before : List Handed
  pub at : Handed
  pub after : List Handed
  pub whole : before ++ at ∷ after ≡ l.handed
  pub takes : at.out.takes ≡ true
  pub number : ℕ
  pub sn : at.stat_sn ≡ wire number
  pub next : lift (next_stat_sn l) exp ≡ number + 1
  pub low : lift (next_stat_sn l) exp ≤ next_stat_sn l
  pub near : next_stat_sn l - lift (next_stat_sn l) exp < 2 ^ 31 - 1
  pub place : length before + 1 ≡ arrived_by_stat_sn l exp

pub pointed : (l : Link) (exp i : ℕ) → CountFrom l.first l.handed → i < arrived_by_stat_sn l exp → Pointed l exp
pointed l exp i counts low = by_test (nat_le n next && nat_lt (next - n) (2 ^ 31 - 1)) refl low
  where
    next : ℕ
    next = next_stat_sn l

    n : ℕ
    n = lift (next_stat_sn l) exp

    by_count : (nat_le n next && nat_lt (next - n) (2 ^ 31 - 1)) ≡ true → (k : ℕ) → n - l.first ≡ k → i < up_to_taking k l.handed → Pointed l exp
    by_count is zero same there = absurd (let none : i < 0 = there in omega (arith, none))
    by_count is (suc k) same there =
        let parts = and_parts (nat_le n next) (nat_lt (next - n) (2 ^ 31 - 1)) is in
        let below : n ≤ next = leb-true n next parts.0 in
        let short : next - n < 2 ^ 31 - 1 = ltb-true (next - n) (2 ^ 31 - 1) parts.1 in
        let few : suc k ≤ count_by takes_handed l.handed = taking_few n l.first (count_by takes_handed l.handed) k same below in
        let t : Taking l.first l.handed k = taking_at l.first l.handed k counts few in
        record {
          before = t.before;
          at = t.at;
          after = t.after;
          whole = t.whole;
          takes = t.takes;
          number = l.first + k;
          sn = t.sn;
          next = taking_next n l.first k same;
          low = below;
          near = short;
          place = t.place ∙ ap (λ m. up_to_taking m l.handed) (sym same) ∙ ap (λ v. cond v (up_to_taking (n - l.first) l.handed) 0) (sym is);
        }

    by_test : (v : Bool) → (nat_le n next && nat_lt (next - n) (2 ^ 31 - 1)) ≡ v → i < cond v (up_to_taking (n - l.first) l.handed) 0 → Pointed l exp
    by_test true is there = by_count is (n - l.first) refl there
    by_test false is there = absurd (let none : i < 0 = there in omega (arith, none))

-- ---- the answer to a ping

record FoundAt {A : Type 0} (p : A → Bool) (xs : List A) : Type 0 where
  before : List A
  at : A
  after : List A
  whole : before ++ at ∷ after ≡ xs
  passes : p at ≡ true
  place : length before ≡ position_or_len p xs

found_at : {A : Type 0} (p : A → Bool) (xs : List A) → nat_lt (position_or_len p xs) (length xs) ≡ true → FoundAt p xs
found_at p [] some = absurd (let lt : position_or_len p [] < 0 = ltb-true (position_or_len p []) 0 some in omega (arith, lt))
found_at p (x ∷ xs) some =
    elim (p x) as (λ v. p x ≡ v → nat_lt (cond (not v) (1 + position_or_len p xs) 0) (length (x ∷ xs)) ≡ true → FoundAt p (x ∷ xs)) [
      | true ↦ λ is lt. record { before = []; at = x; after = xs; whole = refl; passes = is; place = ap (λ v. cond (not v) (1 + position_or_len p xs) 0) (sym is) }
      | false ↦ λ is lt.
          let low : 1 + position_or_len p xs < length (x ∷ xs) = ltb-true (1 + position_or_len p xs) (length (x ∷ xs)) lt in
          let k : FoundAt p xs = found_at p xs (lt-ltb (position_or_len p xs) (length xs) (omega (arith, low))) in
          record {
            before = x ∷ k.before;
            at = k.at;
            after = k.after;
            whole = ap (λ ys. x ∷ ys) k.whole;
            passes = k.passes;
            place = (let z : length (x ∷ k.before) ≡ 1 + position_or_len p xs = omega (arith, k.place) in z) ∙ ap (λ v. cond (not v) (1 + position_or_len p xs) 0) (sym is);
          }
    ] refl some

-- the ping that is answered
pub record Pinged (l : Link) (tag : ℕ) : Type 0 where
  pub before : List Handed
  pub at : Handed
  pub after : List Handed
  pub whole : before ++ at ∷ after ≡ l.handed
  pub ping : is_ping_with tag at ≡ true
  pub place : length before + 1 ≡ arrived_by_ping l tag

pub pinged : (l : Link) (tag i : ℕ) → l.arrived ≤ length l.handed → i < arrived_by_ping l tag → Pinged l tag
pinged l tag i below low = by_found (nat_lt place (length (unarrived l))) refl low
  where
    place : ℕ
    place = position_or_len (is_ping_with tag) (unarrived l)

    by_found : (v : Bool) → nat_lt place (length (unarrived l)) ≡ v → i < elim (cond v (Some place) None) [ Some k ↦ l.arrived + k + 1 | None ↦ 0 ] → Pinged l tag
    by_found false is there = absurd (let none : i < 0 = there in omega (arith, none))
    by_found true is there =
        let k : FoundAt (is_ping_with tag) (unarrived l) = found_at (is_ping_with tag) (unarrived l) is in
        let first : List Handed = take l.arrived l.handed in
        let parts : length (first ++ k.before) ≡ length first + length k.before = length-append first k.before in
        let size : length first ≡ l.arrived = length-take-le l.arrived l.handed below in
        record {
          before = first ++ k.before;
          at = k.at;
          after = k.after;
          whole = append_assoc first k.before (k.at ∷ k.after) ∙ ap (λ hs. first ++ hs) k.whole ∙ take-append-drop l.arrived l.handed;
          ping = k.passes;
          place = (let z : length (first ++ k.before) + 1 ≡ l.arrived + place + 1 = omega (arith, parts, size, k.place) in z)
              ∙ ap (λ v. elim (cond v (Some place) None) [ Some j ↦ l.arrived + j + 1 | None ↦ 0 ]) (sym is);
        }
