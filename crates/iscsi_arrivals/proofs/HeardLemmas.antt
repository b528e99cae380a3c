-- What counts stand for, after a header arrived.
use Rattle.std.proofs.Common.{◌≡◌, ℕ, ◌+◌, ◌-◌, ◌<◌, ◌≤◌, ◌⊎◌, ◌&&◌, ◌==◌, ◌^◌, inl, inr, ⊎_elim, cond, Bool, true, false, List, [], ◌∷◌, ◌++◌, length, take, drop, count_by, position, max, nat_lt, nat_le, Option, Some, None, refl, ap, sym, subst, ◌∙◌, arith, append_assoc, ltb-true, ltb-false, leb-true, lt-ltb}
use Rattle.std.proofs.lemmas.Bool.{cases_lt, cond_both, and_parts}
use Rattle.std.proofs.lemmas.List.{length-append, length-drop, length_push, take_at, take-append-le, drop-append-le}
use Rattle.iscsi_wire.specs.Serial.{lift}
use Rattle.iscsi_outbox_rules.specs.rules.Boxes.{Handed, Link}
use Rattle.iscsi_outbox_rules.specs.rules.Words.{is_open, unarrived}
use Rattle.iscsi_outbox_rules.specs.rules.Handing.{takes_handed, is_ping, next_stat_sn}
use Rattle.iscsi_outbox_rules.specs.rules.Run.{up_to_taking, arrived_by_stat_sn, is_ping_with, arrived_by_ping, link_heard}
use Rattle.iscsi_arrivals.specs.Counts.{Counts, tag_of_ping, number_heard, is_answer_by, acknowledged_with, answered_with, heard_by}
use Rattle.iscsi_arrivals.specs.Stamps.{stat_sn_at, pings_at}
use Rattle.iscsi_arrivals.specs.Standing.{LastPing, StandsFor}
use Rattle.iscsi_arrivals.proofs.CountLemmas.{count-append, count-cons, count_rest, count_within, count_mono, push_yes, push_no}
use Rattle.iscsi_arrivals.proofs.TakingLemmas.{up_within, up_before, up_reached}
use Rattle.iscsi_arrivals.proofs.StandingLemmas.{open_is}
use Rattle.iscsi_arrivals.proofs.PingLemmas.{position_none, position_some, is_ping_by, tag_is, none_tagged}

-- ---- stamps go up

module _ (l : Link) where
  pub stat_sn_mono : (m n : ℕ) → m ≤ n → stat_sn_at l m ≤ stat_sn_at l n
  stat_sn_mono m n le = let more = count_mono takes_handed m n l.handed le in omega (arith, more)

  pub pings_mono : (m n : ℕ) → m ≤ n → pings_at l m ≤ pings_at l n
  pings_mono m n le = count_mono is_ping m n l.handed le

  pub pings_within : (n : ℕ) → pings_at l n ≤ count_by is_ping l.handed
  pings_within n = count_within is_ping n l.handed

  -- a function that goes up, at the greater of two places
  max_of : (f : ℕ → ℕ) → ((m n : ℕ) → m ≤ n → f m ≤ f n) → (m n : ℕ) → f (max m n) ≡ max (f m) (f n)
  max_of f up m n =
      ⊎_elim (λ lt. let one : max m n ≡ n = omega (arith, lt) in let le = up m n (omega (arith, lt)) in ap f one ∙ (let other : f n ≡ max (f m) (f n) = omega (arith, le) in other))
      (λ ge. let one : max m n ≡ m = omega (arith, ge) in let le = up n m ge in ap f one ∙ (let other : f m ≡ max (f m) (f n) = omega (arith, le) in other))
      (cases_lt m n)

  pub stat_sn_max : (m n : ℕ) → stat_sn_at l (max m n) ≡ max (stat_sn_at l m) (stat_sn_at l n)
  stat_sn_max = max_of (stat_sn_at l) stat_sn_mono

  pub pings_max : (m n : ℕ) → pings_at l (max m n) ≡ max (pings_at l m) (pings_at l n)
  pings_max = max_of (pings_at l) pings_mono

  -- all before this place has a lesser stamp
  abbrev pub Ends : ℕ → Type 0
  Ends n = (place : ℕ) → place < n → (stat_sn_at l place < stat_sn_at l n) ⊎ (pings_at l place < pings_at l n)

  pub ends_max : (m n : ℕ) → Ends m → Ends n → Ends (max m n)
  ends_max m n a b =
      ⊎_elim (λ lt. subst Ends (let one : n ≡ max m n = omega (arith, lt) in one) b) (λ ge. subst Ends (let one : m ≡ max m n = omega (arith, ge) in one) a) (cases_lt m n)

-- ---- an ExpStatSN

-- up to where it says that all arrived
record HeardNumber (l : Link) (place number : ℕ) : Type 0 where
  within : place ≤ length l.handed
  stat_sn : stat_sn_at l place ≡ max l.first number
  lesser : (before : ℕ) → before < place → stat_sn_at l before < stat_sn_at l place

number_reached : (l : Link) (n : ℕ) → n ≤ next_stat_sn l → HeardNumber l (up_to_taking (n - l.first) l.handed) n
number_reached l n le =
    let taking : ℕ = count_by takes_handed (take (up_to_taking (n - l.first) l.handed) l.handed) in
    let so_many : taking ≡ n - l.first = up_reached (n - l.first) l.handed (omega (arith, le)) in
    record {
      within = up_within (n - l.first) l.handed;
      stat_sn = omega (arith, so_many);
      lesser = λ before lt. let fewer = up_before (n - l.first) l.handed before lt in omega (arith, fewer, so_many);
    }

none_reached : (l : Link) → HeardNumber l 0 0
none_reached l = record { within = omega arith; stat_sn = omega arith; lesser = λ before lt. absurd (omega (arith, lt)) }

heard_number : (l : Link) (exp_stat_sn : ℕ) → HeardNumber l (arrived_by_stat_sn l exp_stat_sn) (number_heard (next_stat_sn l) exp_stat_sn)
heard_number l exp_stat_sn =
    let next : ℕ = next_stat_sn l in
    let n : ℕ = lift next exp_stat_sn in
    let test : Bool = nat_le n next && nat_lt (next - n) (2 ^ 31 - 1) in
    elim test as (λ v. test ≡ v → HeardNumber l (cond v (up_to_taking (n - l.first) l.handed) 0) (cond v n 0)) [
      | true ↦ λ is. number_reached l n (leb-true n next (and_parts (nat_le n next) (nat_lt (next - n) (2 ^ 31 - 1)) is).0)
      | false ↦ λ is. none_reached l
    ] refl

-- ---- where the last ping stands

record PingPlace (l : Link) (asked pings place : ℕ) : Type 0 where
  within : place + 1 ≤ length l.handed
  stat_sn : stat_sn_at l place ≡ asked
  stat_sn_behind : stat_sn_at l (place + 1) ≡ asked
  pings_here : pings_at l place + 1 ≡ pings
  pings_behind : pings_at l (place + 1) ≡ pings

ping_place : (s : Counts) (l : Link) → StandsFor s l → (p : LastPing l.handed l.first s.asked) → PingPlace l s.asked s.pings (length p.before)
ping_place s l st p =
    let up_to : take (length p.before) l.handed ≡ p.before = ap (take (length p.before)) (sym p.whole) ∙ take_at p.before (p.ping ∷ p.after) (length p.before) refl in
    let parted : (p.before ++ p.ping ∷ []) ++ p.after ≡ l.handed = append_assoc p.before (p.ping ∷ []) p.after ∙ p.whole in
    let behind : take (length p.before + 1) l.handed ≡ p.before ++ p.ping ∷ [] =
    ap (take (length p.before + 1)) (sym parted) ∙ take_at (p.before ++ p.ping ∷ []) p.after (length p.before + 1) (length_push p.before p.ping) in
    let is : is_ping p.ping ≡ true = is_ping_by p.ping (tag_of_ping (count_by is_ping p.before)) p.tag in
    let taking : count_by takes_handed (take (length p.before) l.handed) ≡ count_by takes_handed p.before = ap (count_by takes_handed) up_to in
    let taking_behind : count_by takes_handed (take (length p.before + 1) l.handed) ≡ count_by takes_handed p.before =
    ap (count_by takes_handed) behind ∙ push_no takes_handed p.before p.ping p.takes in
    let pinged : count_by is_ping (take (length p.before) l.handed) ≡ count_by is_ping p.before = ap (count_by is_ping) up_to in
    let pinged_behind : count_by is_ping (take (length p.before + 1) l.handed) ≡ count_by is_ping p.before + 1 =
    ap (count_by is_ping) behind ∙ push_yes is_ping p.before p.ping is in
    let all : count_by is_ping l.handed ≡ count_by is_ping (p.before ++ p.ping ∷ []) + count_by is_ping p.after =
    ap (count_by is_ping) (sym parted) ∙ count-append is_ping (p.before ++ p.ping ∷ []) p.after in
    let counted : s.pings ≡ count_by is_ping p.before + 1 = omega (arith, st.pings, all, push_yes is_ping p.before p.ping is, p.last) in
    let long : length l.handed ≡ length (p.before ++ p.ping ∷ []) + length p.after =
    ap (λ (hs : List Handed). length hs) (sym parted) ∙ length-append (p.before ++ p.ping ∷ []) p.after in
    record {
      within = omega (arith, long, length_push p.before p.ping);
      stat_sn = omega (arith, taking, p.shown);
      stat_sn_behind = omega (arith, taking_behind, p.shown);
      pings_here = omega (arith, pinged, counted);
      pings_behind = omega (arith, pinged_behind, counted);
    }

-- ---- the answer to a ping

abbrev place_told : ℕ → Option ℕ → ℕ
place_told arrived x = elim x [ Some place ↦ arrived + place + 1 | None ↦ 0 ]

-- up to where all arrived, with this answer or none
record HeardAnswer (s : Counts) (l : Link) (place : ℕ) (is_answer : Bool) : Type 0 where
  within : place ≤ length l.handed
  stat_sn : stat_sn_at l place ≡ max s.acknowledged (cond is_answer s.asked 0)
  pings : pings_at l place ≡ cond is_answer s.pings s.answered
  ends : Ends l place

module _ (s : Counts) (l : Link) (st : StandsFor s l) (tag : ℕ) where
  -- it tells nothing new
  tells_nothing : (is_answer : Bool) → count_by (is_ping_with tag) (unarrived l) ≡ 0 → (is_answer ≡ true → (s.asked ≤ s.acknowledged) × (s.answered ≡ s.pings))
      → HeardAnswer s l (max l.arrived (arrived_by_ping l tag)) is_answer
  tells_nothing is_answer none known =
      let zero : arrived_by_ping l tag ≡ 0 = ap (place_told l.arrived) (position_none (is_ping_with tag) (unarrived l) none) in
      let same : l.arrived ≡ max l.arrived (arrived_by_ping l tag) = omega (arith, zero) in
      subst (λ n. HeardAnswer s l n is_answer) same (as_before is_answer known)
    where
      as_before : (v : Bool) → (v ≡ true → (s.asked ≤ s.acknowledged) × (s.answered ≡ s.pings)) → HeardAnswer s l l.arrived v
      as_before true known = record {
        within = st.within;
        stat_sn = let less = (known refl).0 in omega (arith, st.acknowledged, less);
        pings = sym st.answered ∙ (known refl).1;
        ends = st.ends;
      }
      as_before false known = record { within = st.within; stat_sn = omega (arith, st.acknowledged); pings = sym st.answered; ends = st.ends }

  -- no ping was handed out
  no_ping : s.pings ≡ 0 → HeardAnswer s l (max l.arrived (arrived_by_ping l tag)) (is_answer_by tag s)
  no_ping none =
      let rest : count_by is_ping (take l.arrived l.handed) + count_by is_ping (unarrived l) ≡ count_by is_ping l.handed = count_rest is_ping l.handed l.arrived in
      let isnt : is_answer_by tag s ≡ false = ap (λ n. nat_lt 0 n && (tag_of_ping (s.pings - 1) == tag)) none in
      subst (λ (v : Bool). HeardAnswer s l (max l.arrived (arrived_by_ping l tag)) v) (sym isnt)
      (tells_nothing false (none_tagged tag (unarrived l) (omega (arith, rest, none, st.pings))) (λ no. absurd cc))

  module _ (p : LastPing l.handed l.first s.asked) where
    -- it arrived before
    there : (v : Bool) → length p.before < l.arrived → HeardAnswer s l (max l.arrived (arrived_by_ping l tag)) v
    there v lt =
        let here : PingPlace l s.asked s.pings (length p.before) = ping_place s l st p in
        let more = pings_mono l (length p.before + 1) l.arrived (omega (arith, lt)) in
        let all = pings_within l l.arrived in
        let up = stat_sn_mono l (length p.before + 1) l.arrived (omega (arith, lt)) in
        let rest : pings_at l l.arrived + count_by is_ping (unarrived l) ≡ count_by is_ping l.handed = count_rest is_ping l.handed l.arrived in
        tells_nothing v (none_tagged tag (unarrived l) (omega (arith, rest, more, here.pings_behind, st.pings)))
        (λ is. (omega (arith, st.acknowledged, up, here.stat_sn_behind), omega (arith, st.answered, st.pings, more, all, here.pings_behind)))

    -- what isn't known to have arrived, where the ping is among it: no ping stands before it there
    parted : l.arrived ≤ length p.before → unarrived l ≡ drop l.arrived p.before ++ p.ping ∷ p.after
    parted le = ap (drop l.arrived) (sym p.whole) ∙ drop-append-le l.arrived p.before (p.ping ∷ p.after) le

    none_before : l.arrived ≤ length p.before → count_by is_ping (drop l.arrived p.before) ≡ 0
    none_before le =
        let here : PingPlace l s.asked s.pings (length p.before) = ping_place s l st p in
        let shorter : take l.arrived l.handed ≡ take l.arrived p.before = ap (take l.arrived) (sym p.whole) ∙ take-append-le l.arrived p.before (p.ping ∷ p.after) le in
        let up_to : take (length p.before) l.handed ≡ p.before = ap (take (length p.before)) (sym p.whole) ∙ take_at p.before (p.ping ∷ p.after) (length p.before) refl in
        let known : pings_at l l.arrived ≡ count_by is_ping (take l.arrived p.before) = ap (count_by is_ping) shorter in
        let whole : pings_at l (length p.before) ≡ count_by is_ping p.before = ap (count_by is_ping) up_to in
        let rest : count_by is_ping (take l.arrived p.before) + count_by is_ping (drop l.arrived p.before) ≡ count_by is_ping p.before = count_rest is_ping p.before l.arrived in
        omega (arith, known, whole, rest, here.pings_here, st.answered, st.one_ping)

    -- it is answered now
    answered_now : l.arrived ≤ length p.before → is_ping_with tag p.ping ≡ true → HeardAnswer s l (max l.arrived (arrived_by_ping l tag)) true
    answered_now le is =
        let here : PingPlace l s.asked s.pings (length p.before) = ping_place s l st p in
        let found : arrived_by_ping l tag ≡ l.arrived + length (drop l.arrived p.before) + 1 =
        ap (λ (hs : List Handed). place_told l.arrived (position (is_ping_with tag) hs)) (parted le)
        ∙ ap (place_told l.arrived) (position_some (is_ping_with tag) (drop l.arrived p.before) p.ping p.after (none_tagged tag (drop l.arrived p.before) (none_before le)) is) in
        let same : length p.before + 1 ≡ max l.arrived (arrived_by_ping l tag) = omega (arith, le, found, length-drop l.arrived p.before) in
        let up = stat_sn_mono l l.arrived (length p.before) le in
        subst (λ n. HeardAnswer s l n true) same (record {
          within = here.within;
          stat_sn = omega (arith, st.acknowledged, up, here.stat_sn, here.stat_sn_behind);
          pings = here.pings_behind;
          ends = λ before lt. let less = pings_mono l before (length p.before) (omega (arith, lt)) in inr (omega (arith, less, here.pings_here, here.pings_behind));
        })

    -- the tag is that of another one
    other_tag : l.arrived ≤ length p.before → is_ping_with tag p.ping ≡ false → HeardAnswer s l (max l.arrived (arrived_by_ping l tag)) false
    other_tag le isnt =
        let here : count_by (is_ping_with tag) (p.ping ∷ p.after) ≡ 0 + count_by (is_ping_with tag) p.after =
        count-cons (is_ping_with tag) p.ping p.after ∙ ap (λ (v : Bool). cond v 1 0 + count_by (is_ping_with tag) p.after) isnt in
        let before : count_by (is_ping_with tag) (drop l.arrived p.before) ≡ 0 = none_tagged tag (drop l.arrived p.before) (none_before le) in
        let behind : count_by (is_ping_with tag) p.after ≡ 0 = none_tagged tag p.after p.last in
        let all : count_by (is_ping_with tag) (unarrived l) ≡ count_by (is_ping_with tag) (drop l.arrived p.before) + count_by (is_ping_with tag) (p.ping ∷ p.after) =
        ap (count_by (is_ping_with tag)) (parted le) ∙ count-append (is_ping_with tag) (drop l.arrived p.before) (p.ping ∷ p.after) in
        tells_nothing false (omega (arith, all, before, here, behind)) (λ no. absurd cc)

    answer_shown : is_ping_with tag p.ping ≡ is_answer_by tag s
    answer_shown =
        let here : PingPlace l s.asked s.pings (length p.before) = ping_place s l st p in
        let up_to : take (length p.before) l.handed ≡ p.before = ap (take (length p.before)) (sym p.whole) ∙ take_at p.before (p.ping ∷ p.after) (length p.before) refl in
        let before : count_by is_ping p.before ≡ s.pings - 1 = let shown : pings_at l (length p.before) ≡ count_by is_ping p.before = ap (count_by is_ping) up_to in omega (arith, shown, here.pings_here) in
        let some : nat_lt 0 s.pings ≡ true = lt-ltb 0 s.pings (omega (arith, here.pings_here)) in
        tag_is p.ping tag (tag_of_ping (count_by is_ping p.before)) p.tag
        ∙ ap (λ n. tag_of_ping n == tag) before
        ∙ sym (ap (λ (v : Bool). v && (tag_of_ping (s.pings - 1) == tag)) some)

    with_ping : HeardAnswer s l (max l.arrived (arrived_by_ping l tag)) (is_answer_by tag s)
    with_ping =
        ⊎_elim (λ lt. there (is_answer_by tag s) lt)
        (λ le. subst (λ (v : Bool). HeardAnswer s l (max l.arrived (arrived_by_ping l tag)) v) answer_shown
        (elim (is_ping_with tag p.ping) as (λ v. is_ping_with tag p.ping ≡ v → HeardAnswer s l (max l.arrived (arrived_by_ping l tag)) v) [
          | true ↦ λ is. answered_now le is
          | false ↦ λ is. other_tag le is
        ] refl))
        (cases_lt (length p.before) l.arrived)

  heard_answer : HeardAnswer s l (max l.arrived (arrived_by_ping l tag)) (is_answer_by tag s)
  heard_answer = ⊎_elim (λ none. no_ping none) (λ (p : LastPing l.handed l.first s.asked). with_ping p) st.last_ping

-- ---- both

module _ (s : Counts) (l : Link) (st : StandsFor s l) (exp_stat_sn tag : ℕ) where
  -- how many pings arrived, by the two together
  answered_both : (by_number by_answer number : ℕ) (is_answer : Bool) → HeardNumber l by_number number → HeardAnswer s l by_answer is_answer
      → answered_with (max s.acknowledged (max number (cond is_answer s.asked 0))) is_answer s ≡ max (pings_at l by_answer) (pings_at l by_number)
  answered_both by_number by_answer number true a b =
      let few = pings_within l by_number in omega (arith, b.pings, few, st.pings)
  answered_both by_number by_answer number false a b =
      ⊎_elim none (λ (p : LastPing l.handed l.first s.asked). some p) st.last_ping
    where
      known : ℕ
      known = max s.acknowledged (max number 0)

      none : s.pings ≡ 0 → cond (nat_lt s.asked known) s.pings s.answered ≡ max (pings_at l by_answer) (pings_at l by_number)
      none zero =
          let few = pings_within l by_number in
          let fewer = pings_within l l.arrived in
          cond_both (nat_lt s.asked known) s.pings s.answered (λ n. n ≡ max (pings_at l by_answer) (pings_at l by_number))
          (λ is. omega (arith, zero, few, fewer, b.pings, st.answered, st.pings)) (λ is. omega (arith, zero, few, fewer, b.pings, st.answered, st.pings))

      -- one behind the ping is acknowledged
      behind : (p : LastPing l.handed l.first s.asked) → PingPlace l s.asked s.pings (length p.before) → s.asked < known → s.pings ≡ max (pings_at l by_answer) (pings_at l by_number)
      behind p here lt =
          let few = pings_within l by_number in
          let fewer = pings_within l l.arrived in
          ⊎_elim
          (λ arrived. let more = pings_mono l (length p.before + 1) l.arrived (omega (arith, arrived)) in omega (arith, more, few, fewer, here.pings_behind, b.pings, st.pings, st.answered))
          (λ before. ⊎_elim
          (λ reached. let more = pings_mono l (length p.before + 1) by_number (omega (arith, reached)) in omega (arith, more, few, fewer, here.pings_behind, b.pings, st.pings, st.answered))
          (λ short. let down = stat_sn_mono l by_number (length p.before) short in
          let low = stat_sn_mono l l.arrived (length p.before) before in
          absurd (omega (arith, down, low, lt, here.stat_sn, a.stat_sn, st.acknowledged)))
          (cases_lt (length p.before) by_number))
          (cases_lt (length p.before) l.arrived)

      -- none behind it is
      not_behind : (p : LastPing l.handed l.first s.asked) → PingPlace l s.asked s.pings (length p.before) → known ≤ s.asked → s.answered ≡ max (pings_at l by_answer) (pings_at l by_number)
      not_behind p here le =
          ⊎_elim
          (λ reached. let up = a.lesser (length p.before) reached in absurd (omega (arith, up, le, here.stat_sn, a.stat_sn)))
          (λ short. let down = pings_mono l by_number (length p.before) short in omega (arith, down, here.pings_here, b.pings, st.one_ping))
          (cases_lt (length p.before) by_number)

      some : LastPing l.handed l.first s.asked → cond (nat_lt s.asked known) s.pings s.answered ≡ max (pings_at l by_answer) (pings_at l by_number)
      some p =
          let here : PingPlace l s.asked s.pings (length p.before) = ping_place s l st p in
          cond_both (nat_lt s.asked known) s.pings s.answered (λ n. n ≡ max (pings_at l by_answer) (pings_at l by_number))
          (λ is. behind p here (ltb-true s.asked known is)) (λ is. not_behind p here (ltb-false s.asked known is))

  known_is : (known number answer first by_answer by_number now : ℕ) → by_answer ≡ max known answer → by_number ≡ max first number → first ≤ known
      → now ≡ max by_answer by_number → max known (max number answer) ≡ now
  known_is known number answer first by_answer by_number now a b low is = omega (arith, a, b, low, is)

  hears : (by_number told number : ℕ) (is_answer : Bool) → HeardNumber l by_number number → HeardAnswer s l (max l.arrived told) is_answer
      → StandsFor (record s { acknowledged = max s.acknowledged (max number (cond is_answer s.asked 0)); answered = answered_with (max s.acknowledged (max number (cond is_answer s.asked 0))) is_answer s })
      (record l { arrived = max l.arrived (max by_number told) })
  hears by_number told number is_answer a b =
      let by_answer : ℕ = max l.arrived told in
      let now : ℕ = max l.arrived (max by_number told) in
      let same : max by_answer by_number ≡ now = omega arith in
      let stat_sn : stat_sn_at l now ≡ max (stat_sn_at l by_answer) (stat_sn_at l by_number) = ap (stat_sn_at l) (sym same) ∙ stat_sn_max l by_answer by_number in
      let pings : pings_at l now ≡ max (pings_at l by_answer) (pings_at l by_number) = ap (pings_at l) (sym same) ∙ pings_max l by_answer by_number in
      let answered : answered_with (max s.acknowledged (max number (cond is_answer s.asked 0))) is_answer s ≡ pings_at l now =
      answered_both by_number by_answer number is_answer a b ∙ sym pings in
      let low : l.first ≤ s.acknowledged = omega (arith, st.acknowledged) in
      let later : l.arrived ≤ now = omega arith in
      let more : pings_at l l.arrived ≤ pings_at l now = pings_mono l l.arrived now later in
      let enough : s.pings ≤ pings_at l now + 1 = omega (arith, more, st.answered, st.one_ping) in
      record {
        joined = st.joined;
        closed = st.closed;
        cut = st.cut;
        lost = st.lost;
        next = st.next;
        handed = st.handed;
        written = st.written;
        taken = st.taken;
        ended = st.ended;
        pings = st.pings;
        last_ping = st.last_ping;
        acknowledged = known_is s.acknowledged number (cond is_answer s.asked 0) l.first (stat_sn_at l by_answer) (stat_sn_at l by_number) (stat_sn_at l now) b.stat_sn a.stat_sn low stat_sn;
        answered = answered;
        ends = subst (Ends l) same (ends_max l by_answer by_number b.ends (λ before lt. inl (a.lesser before lt)));
        one_ping = subst (λ n. s.pings ≤ n + 1) (sym answered) enough;
        within = omega (arith, a.within, b.within);
        few_written = st.few_written;
        unjoined = st.unjoined;
        first = st.first;
      }

  pub stands_heard : StandsFor (heard_by exp_stat_sn tag s) (link_heard exp_stat_sn tag l)
  stands_heard =
      let known : ℕ = acknowledged_with exp_stat_sn (is_answer_by tag s) s in
      let s' : Counts = record s { acknowledged = known; answered = answered_with known (is_answer_by tag s) s } in
      let l' : Link = record l { arrived = max l.arrived (max (arrived_by_stat_sn l exp_stat_sn) (arrived_by_ping l tag)) } in
      subst (λ (v : Bool). StandsFor (cond v s' s) (link_heard exp_stat_sn tag l)) (sym (open_is s l st))
      (elim (is_open l) as (λ v. is_open l ≡ v → StandsFor (cond v s' s) (cond v l' l)) [
        | true ↦ λ opens. hears (arrived_by_stat_sn l exp_stat_sn) (arrived_by_ping l tag) (number_heard s.next exp_stat_sn) (is_answer_by tag s)
            (subst (λ n. HeardNumber l (arrived_by_stat_sn l exp_stat_sn) (number_heard n exp_stat_sn)) (sym st.next) (heard_number l exp_stat_sn)) (heard_answer s l st tag)
        | false ↦ λ opens. st
      ] refl)
