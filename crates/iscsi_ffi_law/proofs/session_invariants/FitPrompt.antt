-- As a number is received, no function that waits executes before its turn comes.
use Rattle.std.proofs.Common.{◌≡◌, ℕ, zero, suc, ◌+◌, ◌-◌, ◌<◌, ◌≤◌, ◌==◌, ◌||◌, cond, nat_lt, Bool, true, false, List, [], ◌∷◌, ◌++◌, filter, filter_map, Some, None, refl, ap, sym, subst, ◌∙◌, arith, eq-eqb, ne_eqb}
use Rattle.std.specs.List.{cons_option}
use Rattle.std.proofs.lemmas.Bool.{eqb-true, false≢true}
use Rattle.iscsi_wire.specs.Fields.{connection_of, is_immediate}
use Rattle.iscsi_rules.specs.declared.effect.Why.TheVariants.{Closed, Duplicate, Outside}
use Rattle.iscsi_rules.specs.declared.kind.Kind.{Kind}
use Rattle.iscsi_rules.specs.declared.kind.Kind.TheVariants.{Executes as ExecutesKind, PassedOver, Unknown}
use Rattle.iscsi_rules.specs.rules.Agenda.{arrival, arrival_as, arrival_open, kind_of, numbered, with_turns}
use Rattle.iscsi_rules.specs.rules.Execution.{exp_of, ignored, max_of}
use Rattle.iscsi_rules.specs.rules.Items.{agenda, functions, immediate_item, item_of, turn_at}
use Rattle.iscsi_rules.specs.rules.Settings.{Setting}
use Rattle.iscsi_rules.specs.rules.Trace.{Admits, Arrival, Mark, Trace, admits_at, after_items, held, is_closed, is_delivered, is_emptied, is_received, waiting}
use Rattle.iscsi_rules.proofs.promises.AbortRuns.{exp_item}
use Rattle.iscsi_rules.proofs.general.BoolLemmas.{or_none}
use Rattle.iscsi_rules.proofs.traces.HeldLemmas.{held-here, received-admits}
use Rattle.iscsi_rules.proofs.general.Missing.{expected_below, expected_gone, expected_low}
use Rattle.iscsi_outbox_law.specs.private.Pairs.{EachOf}
use Rattle.iscsi_ffi_law.specs.Arrived.{starts_late}
use Rattle.iscsi_ffi_law.proofs.session_invariants.FitTurns.{IsTurned, first_immediate}

pub none_at : (n : ℕ) (ws : List Arrival) → EachOf (λ (b : Arrival). n + 1 ≤ b.number) ws → filter (λ (b : Arrival). b.number == n) ws ≡ []
none_at n [] h = refl
none_at n (b ∷ ws) h =
    let le = h.0 in
    ap (λ v. cond v (b ∷ filter (λ (x : Arrival). x.number == n) ws) (filter (λ (x : Arrival). x.number == n) ws)) (ne_eqb b.number n (λ same. omega (arith, same, le))) ∙ none_at n ws h.1

module _ (o : Setting) (now : ℕ) (t : Trace) (a : Arrival) (turned : IsTurned o t) where
  abbrev admitted : Trace
  admitted = (Admits a ∷ []) ∷ t

  module _ (new : is_received t a.number ≡ false) (untaken : (is_delivered t a.number || is_emptied t a.number) ≡ false) where
    none_now : filter (λ (b : Arrival). b.number == exp_of o t) (waiting t) ≡ []
    none_now = none_at (exp_of o t) (waiting t) turned.ahead

    held_now : exp_of o t < exp_of o admitted → held admitted (exp_of o t) ≡ Some a
    held_now on =
        let there : is_received admitted (exp_of o t) ≡ true = expected_below o.first admitted (exp_of o t) (expected_low o.first t) on in
        let same : a.number ≡ exp_of o t = by_new (is_received t (exp_of o t)) (a.number == exp_of o t) (expected_gone o.first t) refl (sym (received-admits t a (exp_of o t)) ∙ there) in
        let parts = or_none (is_delivered t a.number) (is_emptied t a.number) untaken in
        subst (λ n. held admitted n ≡ Some a) same (held-here t a new parts.0 parts.1)
      where
        by_new : (u v : Bool) → u ≡ false → (a.number == exp_of o t) ≡ v → (u || v) ≡ true → a.number ≡ exp_of o t
        by_new u true gone is some = eqb-true a.number (exp_of o t) is
        by_new true false gone is some = absurd (false≢true (sym gone))
        by_new false false gone is some = absurd (false≢true some)

    agenda_prompt : (m : ℕ) → exp_of o t + m ≡ exp_of o admitted → starts_late now (agenda o (exp_of o t) m admitted) ≡ false
    agenda_prompt zero is = ap (λ bs. starts_late now (functions o bs admitted)) none_now
    agenda_prompt (suc m) is =
        ap (λ bs. (let before : List (List Mark) = functions o bs admitted in let first : List (List Mark) = before ++ turn_at o (exp_of o t) (after_items before admitted) in starts_late now (first ++ agenda o (exp_of o t + 1) m (after_items first admitted)))) none_now
        ∙ ap (λ y. (let first : List (List Mark) = elim y [ Some b ↦ item_of o admitted b ∷ [] | None ↦ [] ] in starts_late now (first ++ agenda o (exp_of o t + 1) m (after_items first admitted)))) (held_now (omega (arith, is)))

  -- what comes behind the item by which it is received
  rest_is : (rest : List (List Mark)) → arrival o t a ≡ (Admits a ∷ []) ∷ rest → rest ≡ agenda o (exp_of o t) (exp_of o admitted - exp_of o t) admitted
  rest_is rest same =
      (elim (is_closed (connection_of a.request) t) as (λ v. cond v (ignored Closed) (arrival_open o t a) ≡ (Admits a ∷ []) ∷ rest → rest ≡ agenda o (exp_of o t) (exp_of o admitted - exp_of o t) admitted) [
        | true ↦ λ s. absurd cc
        | false ↦ by_kind (kind_of a.request)
      ]) same
    where
      never : immediate_item o t a ≡ Admits a ∷ [] → ⊥
      never is =
          let none = (first_immediate o t a turned).executes.admits_none a.number in
          let some : filter_map (admits_at a.number) (Admits a ∷ []) ≡ a ∷ [] = ap (λ v. cons_option (cond v (Some a) None) []) (eq-eqb a.number a.number refl) in
          let both : [] ≡ a ∷ [] = sym none ∙ ap (filter_map (admits_at a.number)) is ∙ some in
          cc

      by_numbered : numbered o t a ≡ (Admits a ∷ []) ∷ rest → rest ≡ agenda o (exp_of o t) (exp_of o admitted - exp_of o t) admitted
      by_numbered =
          elim (nat_lt a.number (exp_of o t) || nat_lt (max_of o t) a.number) as (λ v. cond v (ignored Outside) (cond (is_received t a.number) (ignored Duplicate) (with_turns o t (Admits a ∷ []))) ≡ (Admits a ∷ []) ∷ rest → rest ≡ agenda o (exp_of o t) (exp_of o admitted - exp_of o t) admitted) [
            | true ↦ λ s. absurd cc
            | false ↦ elim (is_received t a.number) as (λ v. cond v (ignored Duplicate) (with_turns o t (Admits a ∷ [])) ≡ (Admits a ∷ []) ∷ rest → rest ≡ agenda o (exp_of o t) (exp_of o admitted - exp_of o t) admitted) [
              | true ↦ λ s. absurd cc
              | false ↦ λ s. cc
            ]
          ]

      by_kind : (k : Kind) → arrival_as o t a k ≡ (Admits a ∷ []) ∷ rest → rest ≡ agenda o (exp_of o t) (exp_of o admitted - exp_of o t) admitted
      by_kind PassedOver s = absurd cc
      by_kind Unknown s = absurd cc
      by_kind ExecutesKind s =
          (elim (is_immediate a.request) as (λ v. cond v (with_turns o t (immediate_item o t a)) (numbered o t a) ≡ (Admits a ∷ []) ∷ rest → rest ≡ agenda o (exp_of o t) (exp_of o admitted - exp_of o t) admitted) [
            | true ↦ λ e. absurd (never (let z : immediate_item o t a ≡ Admits a ∷ [] = cc in z))
            | false ↦ by_numbered
          ]) s

  pub prompt_arrival : is_received t a.number ≡ false → (is_delivered t a.number || is_emptied t a.number) ≡ false → (rest : List (List Mark)) → arrival o t a ≡ (Admits a ∷ []) ∷ rest → starts_late now rest ≡ false
  prompt_arrival new untaken rest same =
      let up = exp_item o (Admits a ∷ []) t in
      ap (starts_late now) (rest_is rest same) ∙ agenda_prompt new untaken (exp_of o admitted - exp_of o t) (omega (arith, up))
