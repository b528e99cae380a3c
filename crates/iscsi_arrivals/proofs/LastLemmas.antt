-- Up to where the last one stands that passes a test.
use Rattle.std.proofs.Common.{◌≡◌, ℕ, ◌+◌, ◌<◌, ◌≤◌, ◌||◌, ⊎_elim, ◌&&◌, nat_lt, not, cond, Bool, true, false, List, [], ◌∷◌, ◌++◌, length, drop, count_by, refl, ap, sym, ◌∙◌, arith, lt-ltb, le-ltb}
use Rattle.std.specs.List.{list_any}
use Rattle.std.proofs.lemmas.Bool.{cases_lt, or_right}
use Rattle.std.proofs.lemmas.List.{drop_all, drop-append-le, take-append-le, length_push}
use Rattle.std.proofs.lemmas.List.Folds.{list_any-append}
use Rattle.iscsi_outbox_rules.specs.rules.Boxes.{Handed, Link}
use Rattle.iscsi_outbox_rules.specs.rules.Calls.{Opening}
use Rattle.iscsi_outbox_rules.specs.rules.Words.{is_open, looks_for_arrival, unwritten, unarrived, under_way}
use Rattle.iscsi_outbox_rules.specs.rules.Handing.{takes_handed, is_ping}
use Rattle.iscsi_arrivals.specs.declared.stamp.Stamp.{Stamp}
use Rattle.iscsi_arrivals.specs.Stamps.{IsUpToLast, handed_out, stat_sn_at, pings_at, stamp_at}

pub or_false : (v : Bool) → (v || false) ≡ v
or_false true = refl
or_false false = refl

-- ---- stamps

pub same_stat_sn : (l : Link) (h : Handed) (place : ℕ) → place ≤ length l.handed → stat_sn_at (handed_out h l) place ≡ stat_sn_at l place
same_stat_sn l h place le = ap (λ (hs : List Handed). l.first + count_by takes_handed hs) (take-append-le place l.handed (h ∷ []) le)

pub same_pings : (l : Link) (h : Handed) (place : ℕ) → place ≤ length l.handed → pings_at (handed_out h l) place ≡ pings_at l place
same_pings l h place le = ap (count_by is_ping) (take-append-le place l.handed (h ∷ []) le)

pub same_stamp : (l : Link) (h : Handed) (place : ℕ) → place ≤ length l.handed → stamp_at (handed_out h l) place ≡ stamp_at l place
same_stamp l h place le =
    ap (λ (hs : List Handed). let s : Stamp = record { stat_sn = l.first + count_by takes_handed hs; pings = count_by is_ping hs; place = place } in s)
    (take-append-le place l.handed (h ∷ []) le)

-- ---- the last one

module _ (test : Handed → Bool) where
  none_from : (hs : List Handed) (k : ℕ) → length hs ≤ k → list_any test (drop k hs) ≡ false
  none_from hs k past = ap (list_any test) (drop_all k hs past)

  pub last_none : IsUpToLast test [] 0
  last_none k = none_from [] k (omega arith) ∙ sym (le-ltb k 0 (omega arith))

  one_more : (hs : List Handed) (h : Handed) (k : ℕ) → k ≤ length hs → list_any test (drop k (hs ++ h ∷ [])) ≡ (list_any test (drop k hs) || test h)
  one_more hs h k le =
      ap (list_any test) (drop-append-le k hs (h ∷ []) le) ∙ list_any-append test (drop k hs) (h ∷ [])
      ∙ ap (λ (v : Bool). list_any test (drop k hs) || v) (or_false (test h))

  past_all : (hs : List Handed) (h : Handed) (k : ℕ) → length hs < k → list_any test (drop k (hs ++ h ∷ [])) ≡ false
  past_all hs h k past = none_from (hs ++ h ∷ []) k (omega (arith, past, length_push hs h))

  pub last_passes : (hs : List Handed) (h : Handed) → test h ≡ true → IsUpToLast test (hs ++ h ∷ []) (length hs + 1)
  last_passes hs h is k =
      ⊎_elim (λ past. past_all hs h k past ∙ sym (le-ltb k (length hs + 1) (omega (arith, past))))
      (λ le. one_more hs h k le ∙ or_right (list_any test (drop k hs)) (test h) is ∙ sym (lt-ltb k (length hs + 1) (omega (arith, le))))
      (cases_lt (length hs) k)

  pub last_fails : (hs : List Handed) (h : Handed) (n : ℕ) → test h ≡ false → IsUpToLast test hs n → IsUpToLast test (hs ++ h ∷ []) n
  last_fails hs h n isnt up k =
      ⊎_elim (λ past. past_all hs h k past ∙ sym (none_from hs k (omega (arith, past))) ∙ up k)
      (λ le. one_more hs h k le ∙ ap (λ (v : Bool). list_any test (drop k hs) || v) isnt ∙ or_false (list_any test (drop k hs)) ∙ up k)
      (cases_lt (length hs) k)

  -- ---- what is under way

  past_last : (hs : List Handed) (place n : ℕ) → IsUpToLast test hs (place + 1) → list_any test (drop n hs) ≡ not (nat_lt place n)
  past_last hs place n up =
      ⊎_elim (λ lt. up n ∙ le-ltb n (place + 1) (omega (arith, lt)) ∙ sym (ap not (lt-ltb place n lt)))
      (λ ge. up n ∙ lt-ltb n (place + 1) (omega (arith, ge)) ∙ sym (ap not (le-ltb place n ge)))
      (cases_lt place n)

  pub last_unarrived : (l : Link) (place : ℕ) → IsUpToLast test l.handed (place + 1) → list_any test (unarrived l) ≡ not (nat_lt place l.arrived)
  last_unarrived l place up = past_last l.handed place l.arrived up

  pub last_under_way : (o : Opening) (l : Link) (place : ℕ) → IsUpToLast test l.handed (place + 1)
      → list_any test (under_way o l) ≡ (is_open l && not (nat_lt place (cond (looks_for_arrival o) l.arrived l.written)))
  last_under_way o l place up = by_open (is_open l) (looks_for_arrival o)
    where
      by_open : (v w : Bool) → list_any test (cond v (cond w (unarrived l) (unwritten l)) []) ≡ (v && not (nat_lt place (cond w l.arrived l.written)))
      by_open true true = past_last l.handed place l.arrived up
      by_open true false = past_last l.handed place l.written up
      by_open false w = refl

  pub none_under_way : (o : Opening) (l : Link) → IsUpToLast test l.handed 0 → list_any test (under_way o l) ≡ false
  none_under_way o l up = by_open (is_open l) (looks_for_arrival o)
    where
      none : (n : ℕ) → list_any test (drop n l.handed) ≡ false
      none n = up n ∙ le-ltb n 0 (omega arith)

      by_open : (v w : Bool) → list_any test (cond v (cond w (unarrived l) (unwritten l)) []) ≡ false
      by_open true true = none l.arrived
      by_open true false = none l.written
      by_open false w = refl
