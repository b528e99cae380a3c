-- How many connections are busy, and which is the first that takes requests.
use Rattle.std.proofs.Common.{◌≡◌, ◌≢◌, ℕ, zero, suc, ◌+◌, ◌<◌, ◌≤◌, cond, not, nat_lt, Bool, true, false, List, [], ◌∷◌, length, get_or, set, replicate, refl, ap, sym, subst, ◌∙◌, arith, if◌then◌else◌}
use Rattle.std.specs.List.{position_or_len}
use Rattle.std.proofs.lemmas.List.{get_or-replicate, get_or-set_other, length-replicate, length-set}
use Rattle.std.proofs.lemmas.List.Sums.{fails_before_first, passes_at_first, position_or_len_is, sum_by-set}
use Rattle.iscsi_arrivals.specs.Counts.{Counts, acknowledged_with, answered_with, heard_by, is_answer_by, is_busy_by, is_open_by, is_usable_by, new_counts, written_by}
use Rattle.iscsi_links.specs.Links.{AreCounted, busy_in, closed_in}

-- ---- none has joined

none_busy : (looks : Bool) (n : ℕ) → busy_in looks (replicate n new_counts) ≡ 0
none_busy looks zero = refl
none_busy looks (suc n) = let rest = none_busy looks n in omega (arith, rest)

none_closed : (n : ℕ) → closed_in (replicate n new_counts) ≡ 0
none_closed zero = refl
none_closed (suc n) = let rest = none_closed n in omega (arith, rest)

pub opened_counted : (looks : Bool) (n : ℕ) → n ≤ 64 → AreCounted (replicate n new_counts) looks 0 n 0
opened_counted looks n few = record {
  counted = sym (none_busy looks n);
  first = sym (position_or_len_is is_usable_by (replicate n new_counts) n new_counts (let a = length-replicate n new_counts in omega (arith, a))
      (λ k l. ap is_usable_by (get_or-replicate n k new_counts new_counts l))
      (λ l. let a = length-replicate n new_counts in absurd (omega (arith, a, l))));
  closings = sym (none_closed n);
  few = let a = length-replicate n new_counts in omega (arith, a, few);
}

-- ---- one changes

module _ (links : List Counts) (place : ℕ) (new : Counts) where
  pub before_with : (usable : ℕ) → usable ≡ position_or_len is_usable_by links → (j : ℕ) → j < usable → j ≢ place → is_usable_by (get_or (set links place new) j new_counts) ≡ false
  before_with usable is j l other =
      ap is_usable_by (get_or-set_other links place j new new_counts other)
      ∙ fails_before_first is_usable_by links j new_counts (omega (arith, is, l))

  pub here_with : (usable : ℕ) → usable ≡ position_or_len is_usable_by links → usable < length (set links place new) → usable ≢ place → is_usable_by (get_or (set links place new) usable new_counts) ≡ true
  here_with usable is l other =
      let long = length-set links place new in
      ap is_usable_by (get_or-set_other links place usable new new_counts other) ∙ ap (λ n. is_usable_by (get_or links n new_counts)) is
      ∙ passes_at_first is_usable_by links new_counts (omega (arith, is, l, long))

  pub busy_with : (looks : Bool) → place < length links
      → busy_in looks (set links place new) + cond (is_busy_by looks (get_or links place new_counts)) 1 0 ≡ busy_in looks links + cond (is_busy_by looks new) 1 0
  busy_with looks within = sum_by-set (λ (l : Counts). cond (is_busy_by looks l) 1 0) links place new new_counts within

  pub closed_with : place < length links
      → closed_in (set links place new) + cond ((get_or links place new_counts).closed) 1 0 ≡ closed_in links + cond new.closed 1 0
  closed_with within = sum_by-set (λ (l : Counts). cond l.closed 1 0) links place new new_counts within

-- ---- one changes, and takes requests just where it did

first_alike : (links : List Counts) (place : ℕ) (new : Counts) → is_usable_by new ≡ is_usable_by (get_or links place new_counts)
    → position_or_len is_usable_by (set links place new) ≡ position_or_len is_usable_by links
first_alike [] place new same = refl
first_alike (l ∷ links) zero new same = ap (λ b. cond (not b) (1 + position_or_len is_usable_by links) 0) same
first_alike (l ∷ links) (suc place) new same = ap (λ n. cond (not (is_usable_by l)) (1 + n) 0) (first_alike links place new same)

pub counted_alike : (links : List Counts) (place : ℕ) (new : Counts) (looks : Bool) (busy usable shut now : ℕ) → AreCounted links looks busy usable shut → place < length links
    → is_usable_by new ≡ is_usable_by (get_or links place new_counts) → new.closed ≡ (get_or links place new_counts).closed
    → now + cond (is_busy_by looks (get_or links place new_counts)) 1 0 ≡ busy + cond (is_busy_by looks new) 1 0
    → AreCounted (set links place new) looks now usable shut
counted_alike links place new looks busy usable shut now are within same closed count = record {
  counted = (let a = busy_with links place new looks within in let b = are.counted in omega (arith, a, b, count));
  first = are.first ∙ sym (first_alike links place new same);
  closings = (let a = closed_with links place new within in let b = are.closings in let d = ap {B = ℕ} (λ b. cond b 1 0) closed in omega (arith, a, b, d));
  few = (let a = length-set links place new in let b = are.few in omega (arith, a, b));
}

-- ---- what is under way

-- as long as a PDU is so until it is written, nothing that is heard ends it
pub heard_quietly : (exp_stat_sn tag : ℕ) (l : Counts) → is_busy_by false (heard_by exp_stat_sn tag l) ≡ is_busy_by false l
heard_quietly exp_stat_sn tag l = by (is_open_by l) (acknowledged_with exp_stat_sn (is_answer_by tag l) l) (answered_with (acknowledged_with exp_stat_sn (is_answer_by tag l) l) (is_answer_by tag l) l)
  where
    by : (b : Bool) (known answered : ℕ) → is_busy_by false (if b then record l { acknowledged = known; answered = answered } else l) ≡ is_busy_by false l
    by true known answered = refl
    by false known answered = refl

-- as long as it is so until it arrives, no writing ends it
pub written_quietly : (l : Counts) → is_busy_by true (written_by l) ≡ is_busy_by true l
written_quietly l = by (nat_lt l.written l.handed)
  where
    by : (b : Bool) → is_busy_by true (if b then record l { written = l.written + 1 } else l) ≡ is_busy_by true l
    by true = refl
    by false = refl

-- what a PDU that goes out, is written or is heard of changes, leaves that as it was
pub written_alike : (l : Counts) → (is_usable_by (written_by l) ≡ is_usable_by l) × ((written_by l).closed ≡ l.closed)
written_alike l = by (nat_lt l.written l.handed)
  where
    by : (b : Bool) → (is_usable_by (if b then record l { written = l.written + 1 } else l) ≡ is_usable_by l) × ((if b then record l { written = l.written + 1 } else l).closed ≡ l.closed)
    by true = (refl, refl)
    by false = (refl, refl)

pub heard_alike : (exp_stat_sn tag : ℕ) (l : Counts) → (is_usable_by (heard_by exp_stat_sn tag l) ≡ is_usable_by l) × ((heard_by exp_stat_sn tag l).closed ≡ l.closed)
heard_alike exp_stat_sn tag l = by (is_open_by l) (acknowledged_with exp_stat_sn (is_answer_by tag l) l) (answered_with (acknowledged_with exp_stat_sn (is_answer_by tag l) l) (is_answer_by tag l) l)
  where
    by : (b : Bool) (known answered : ℕ)
        → (is_usable_by (if b then record l { acknowledged = known; answered = answered } else l) ≡ is_usable_by l) × ((if b then record l { acknowledged = known; answered = answered } else l).closed ≡ l.closed)
    by true known answered = (refl, refl)
    by false known answered = (refl, refl)

pub heard_counted : (links : List Counts) (place exp_stat_sn tag : ℕ) (looks : Bool) (busy usable shut : ℕ) → looks ≡ false → AreCounted links looks busy usable shut → place < length links
    → AreCounted (set links place (heard_by exp_stat_sn tag (get_or links place new_counts))) looks busy usable shut
heard_counted links place exp_stat_sn tag looks busy usable shut quiet are within =
    let old = get_or links place new_counts in
    let alike = heard_alike exp_stat_sn tag old in
    counted_alike links place (heard_by exp_stat_sn tag old) looks busy usable shut busy are within alike.0 alike.1
    (subst (λ b. busy + cond (is_busy_by b old) 1 0 ≡ busy + cond (is_busy_by b (heard_by exp_stat_sn tag old)) 1 0) (sym quiet)
    (ap (λ b. busy + cond b 1 0) (sym (heard_quietly exp_stat_sn tag old))))
