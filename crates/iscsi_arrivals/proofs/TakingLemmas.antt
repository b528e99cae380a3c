-- What an ExpStatSN tells: up to where the PDUs stand of which so many took a StatSN.
use Rattle.std.proofs.Common.{◌≡◌, ℕ, zero, suc, ◌+◌, ◌<◌, ◌≤◌, cond, true, false, List, [], ◌∷◌, length, take, count_by, refl, ap, sym, subst, ◌∙◌, arith}
use Rattle.iscsi_outbox_rules.specs.rules.Boxes.{Handed}
use Rattle.iscsi_outbox_rules.specs.rules.Handing.{takes_handed}
use Rattle.iscsi_outbox_rules.specs.rules.Run.{up_to_taking}
use Rattle.iscsi_arrivals.proofs.CountLemmas.{count-cons}

abbrev taking : List Handed → ℕ
taking hs = count_by takes_handed hs

pub up_within : (k : ℕ) (hs : List Handed) → up_to_taking k hs ≤ length hs
up_within zero hs = omega arith
up_within (suc k) [] = omega arith
up_within (suc k) (h ∷ hs) =
    let fewer : up_to_taking k hs ≤ length hs = up_within k hs in
    let same : up_to_taking (suc k) hs ≤ length hs = up_within (suc k) hs in
    elim (h.out.takes) as (λ v. 1 + cond v (up_to_taking k hs) (up_to_taking (suc k) hs) ≤ suc (length hs)) [
      | true ↦ omega (arith, fewer)
      | false ↦ omega (arith, same)
    ]

-- before it fewer took one
pub up_before : (k : ℕ) (hs : List Handed) (place : ℕ) → place < up_to_taking k hs → taking (take place hs) < k
up_before zero hs place lt = absurd (omega (arith, lt))
up_before (suc k) [] place lt = absurd (omega (arith, lt))
up_before (suc k) (h ∷ hs) zero lt = omega arith
up_before (suc k) (h ∷ hs) (suc place) lt =
    let few : cond h.out.takes 1 0 + taking (take place hs) < suc k = elim (h.out.takes) as (λ v. suc place < 1 + cond v (up_to_taking k hs) (up_to_taking (suc k) hs) → cond v 1 0 + taking (take place hs) < suc k) [
      | true ↦ λ here. let less : taking (take place hs) < k = up_before k hs place (omega (arith, here)) in omega (arith, less)
      | false ↦ λ here. let less : taking (take place hs) < suc k = up_before (suc k) hs place (omega (arith, here)) in omega (arith, less)
    ] lt in
    subst (λ n. n < suc k) (sym (count-cons takes_handed h (take place hs))) few

-- up to it just so many did
pub up_reached : (k : ℕ) (hs : List Handed) → k ≤ taking hs → taking (take (up_to_taking k hs) hs) ≡ k
up_reached zero hs le = refl
up_reached (suc k) [] le = absurd (omega (arith, le))
up_reached (suc k) (h ∷ hs) le =
    step (cond h.out.takes (up_to_taking k hs) (up_to_taking (suc k) hs))
    ∙ elim (h.out.takes) as (λ v. suc k ≤ cond v 1 0 + taking hs → cond v 1 0 + taking (take (cond v (up_to_taking k hs) (up_to_taking (suc k) hs)) hs) ≡ suc k) [
      | true ↦ λ some. let rest : taking (take (up_to_taking k hs) hs) ≡ k = up_reached k hs (omega (arith, some)) in omega (arith, rest)
      | false ↦ λ some. let rest : taking (take (up_to_taking (suc k) hs) hs) ≡ suc k = up_reached (suc k) hs (omega (arith, some)) in omega (arith, rest)
    ] (subst (λ n. suc k ≤ n) (count-cons takes_handed h hs) le)
  where
    step : (n : ℕ) → taking (take (1 + n) (h ∷ hs)) ≡ cond h.out.takes 1 0 + taking (take n hs)
    step n = ap (λ m. taking (take m (h ∷ hs))) (let same : 1 + n ≡ suc n = omega arith in same) ∙ count-cons takes_handed h (take n hs)
