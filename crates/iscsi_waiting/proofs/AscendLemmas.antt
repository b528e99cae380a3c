-- Slots in the order in which they came, by the moments when they did.
use Rattle.std.proofs.Common.{◌≡◌, ◌≢◌, ℕ, ◌<◌, ◌≤◌, ◌==◌, cond, true, false, List, [], ◌∷◌, ◌++◌, length, map, Some, refl, ap, sym, subst, arith, ⊎_elim}
use Rattle.std.proofs.lemmas.Bool.{cases_eq}
use Rattle.iscsi_slots.specs.Slots.{times}
use Rattle.iscsi_lists.specs.Lists.{Listed, first_of, without, with_last}
use Rattle.iscsi_lists.proofs.WithoutLemmas.{times_same, times_other, times_without, times_without_other}
use Rattle.iscsi_waiting.specs.Known.{AllAfter, Ascend}
use Rattle.iscsi_waiting.specs.Marks.{slots_at, value_at}
use Rattle.iscsi_waiting.proofs.MarkLemmas.{Elsewhere, moved_here, moved_other}
use Rattle.iscsi_waiting.proofs.ShownLemmas.{map_alike}

module _ (g : ℕ → ℕ) where
  after_push : (m slot : ℕ) (slots : List ℕ) → m < g slot → AllAfter m (map g slots) → AllAfter m (map g (slots ++ slot ∷ []))
  after_push m slot [] lt up = (lt, tt)
  after_push m slot (s ∷ slots) lt up = (up.0, after_push m slot slots lt up.1)

  pub ascend_push : (slot : ℕ) (slots : List ℕ) → ((s : ℕ) → 1 ≤ times s slots → g s < g slot) → Ascend (map g slots) → Ascend (map g (slots ++ slot ∷ []))
  ascend_push slot [] past up = (tt, tt)
  ascend_push slot (s ∷ slots) past up =
      let first : 1 ≤ times s (s ∷ slots) = (let a = times_same s s slots refl in omega (arith, a)) in
      (after_push (g s) slot slots (past s first) up.0, ascend_push slot slots (λ t there. past t (omega (arith, there))) up.1)

  after_without : (m slot : ℕ) (slots : List ℕ) → AllAfter m (map g slots) → AllAfter m (map g (without slot slots))
  after_without m slot [] up = tt
  after_without m slot (s ∷ slots) up =
      let rest : AllAfter m (map g (without slot slots)) = after_without m slot slots up.1 in
      elim (s == slot) as (λ v. AllAfter m (map g (cond v (without slot slots) (s ∷ without slot slots)))) [ true ↦ rest | false ↦ (up.0, rest) ]

  pub ascend_without : (slot : ℕ) (slots : List ℕ) → Ascend (map g slots) → Ascend (map g (without slot slots))
  ascend_without slot [] up = tt
  ascend_without slot (s ∷ slots) up =
      let rest : Ascend (map g (without slot slots)) = ascend_without slot slots up.1 in
      elim (s == slot) as (λ v. Ascend (map g (cond v (without slot slots) (s ∷ without slot slots)))) [ true ↦ rest | false ↦ (after_without (g s) slot slots up.0, rest) ]

  after_each : (m : ℕ) (slots : List ℕ) → AllAfter m (map g slots) → (s : ℕ) → 1 ≤ times s slots → m < g s
  after_each m [] up s there = absurd (omega (arith, there))
  after_each m (x ∷ slots) up s there = ⊎_elim
      (λ (same : x ≡ s). subst (λ n. m < g n) same up.0)
      (λ other. after_each m slots up.1 s (let a = times_other s x slots other in omega (arith, a, there)))
      (cases_eq x s)

  -- the first one came first
  pub first_least : (slot : ℕ) (slots : List ℕ) → first_of slots ≡ Some slot → Ascend (map g slots) → (s : ℕ) → 1 ≤ times s slots → g slot ≤ g s
  first_least slot [] first up s there = absurd (cc)
  first_least slot (x ∷ slots) first up s there =
      let here : x ≡ slot = cc in
      ⊎_elim
      (λ (same : x ≡ s). let a = ap g here in let b = ap g same in omega (arith, a, b))
      (λ other.
      let later = after_each (g x) slots up.0 s (let a = times_other s x slots other in omega (arith, a, there)) in
      let a = ap g here in omega (arith, a, later))
      (cases_eq x s)

-- a slot goes to the end of a list, from any of them
module _ {X : Type 0} (blank : X) (when : X → ℕ) (v t : Listed X) (slot : ℕ) (rest : Elsewhere blank v t slot)
    (m p : Listed ℕ) (list : ℕ) (is : p ≡ record m { lists = with_last list slot (map (without slot) m.lists) }) (l : list < length m.lists) where
  abbrev before : ℕ → ℕ
  before s = when (value_at blank v s)

  abbrev now : ℕ → ℕ
  now s = when (value_at blank t s)

  apart : (k s : ℕ) → 1 ≤ times s (without slot (slots_at m k)) → s ≢ slot
  apart k s there same =
      let a = ap (λ n. times n (without slot (slots_at m k))) same in let b = times_without slot (slots_at m k) in absurd (omega (arith, a, b, there))

  others_ascend : (k : ℕ) → Ascend (map before (slots_at m k)) → Ascend (map now (without slot (slots_at m k)))
  others_ascend k up =
      subst Ascend (sym (map_alike before now (without slot (slots_at m k)) (λ s there. ap when (rest.values s (apart k s there)))))
      (ascend_without before slot (slots_at m k) up)

  pub moved_ascend : (k : ℕ) → Ascend (map before (slots_at m k)) → (k ≡ list → (s : ℕ) → s ≢ slot → 1 ≤ times s (slots_at m k) → now s < now slot) → Ascend (map now (slots_at p k))
  moved_ascend k up past = ⊎_elim
      (λ (same : k ≡ list).
      subst (λ n. Ascend (map now (slots_at p n))) (sym same)
      (subst (λ (q : List ℕ). Ascend (map now q)) (sym (moved_here m p list slot is l))
      (ascend_push now slot (without slot (slots_at m list))
      (λ s there.
      let off : s ≢ slot = apart list s there in
      let a = times_without_other slot s (slots_at m list) off in
      let b = ap (λ n. times s (slots_at m n)) same in
      past same s off (omega (arith, a, b, there)))
      (subst (λ n. Ascend (map now (without slot (slots_at m n)))) same (others_ascend k up)))))
      (λ other. subst (λ (q : List ℕ). Ascend (map now q)) (sym (moved_other m p list slot is k other)) (others_ascend k up))
      (cases_eq k list)
