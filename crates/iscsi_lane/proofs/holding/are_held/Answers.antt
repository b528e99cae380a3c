use Rattle.std.proofs.Common.{◌≡◌, ◌<◌, get_or, ap, sym, subst, arith, ⊎_elim, ne_eqb}
use Rattle.std.proofs.lemmas.Bool.{cases_eq}
use Rattle.iscsi_slots.proofs.SlotLemmas.{stands, times_at}
use Rattle.iscsi_lane.specs.Hints.{IsNoted, IsNotedAs}
use Rattle.iscsi_lane.specs.Standings.{at, slots_at}
use Rattle.iscsi_lane.specs.Walking.{IsHeldAt}
use Rattle.iscsi_lane.proofs.HintLemmas.{hints_changed}
use Rattle.iscsi_lane.proofs.holding.are_held.Goals as goal

pub is_held-requires-clause-there : goal.is_held-requires-clause-there
is_held-requires-clause-there c = c.requires.there _ (times_at c.args.untold.now c.loop-k.k c.loop-k-test.true)

pub returns-then-not-is_held-clause-hints : goal.returns-then-not-is_held-clause-hints
returns-then-not-is_held-clause-hints c =
    hints_changed (slots_at c.args.log.now 2) c.args.untold.now c.loop-k.holders.items c.is_held.new.holders.items (get_or c.args.untold.now c.loop-k.k 0) c.loop-k.invariant.hints c.is_held.ensures.hint c.is_held.ensures.others

pub loop-k-preserved : goal.loop-k-preserved
loop-k-preserved c =
    let log = c.args.log.now in
    let untold = c.args.untold.now in
    let slot = get_or untold c.loop-k.k 0 in
    let inv = c.loop-k.invariant in
    record {
      within = let a = c.loop-k-test.true in omega (arith, a);
      held = λ j l. ⊎_elim
          (λ (same : j ≡ c.loop-k.k). subst (λ i. IsHeldAt log (get_or untold i 0)) (sym same) (c.is_held.ensures.held c.if-not-is_held.false))
          (λ other. inv.held j (omega (arith, l, other)))
          (cases_eq j c.loop-k.k);
      noted = λ j l. ⊎_elim
          (λ (same : get_or untold j 0 ≡ slot). subst (IsNoted log c.is_held.new.holders.items) (sym same) (c.is_held.ensures.noted c.if-not-is_held.false))
          (λ apart.
          let before : j < c.loop-k.k = ⊎_elim (λ (same : j ≡ c.loop-k.k). absurd (apart (ap (λ i. get_or untold i 0) same))) (λ other. omega (arith, l, other)) (cases_eq j c.loop-k.k) in
          subst (λ h. IsNotedAs log h (at log.values (get_or untold j 0))) (sym (c.is_held.ensures.others (get_or untold j 0) (ne_eqb (get_or untold j 0) slot apart))) (inv.noted j before))
          (cases_eq (get_or untold j 0) slot);
      holders = c.is_held.ensures.holders;
      hints = hints_changed (slots_at log 2) untold c.loop-k.holders.items c.is_held.new.holders.items slot inv.hints c.is_held.ensures.hint c.is_held.ensures.others;
    }

pub returns-clause-held : goal.returns-clause-held
returns-clause-held c e t there =
    let p = stands t c.args.untold.now there in
    subst (IsHeldAt c.args.log.now) p.there (c.loop-k.invariant.held p.place (let a = p.inside in let b = c.loop-k-test.false in omega (arith, a, b)))

pub returns-clause-noted : goal.returns-clause-noted
returns-clause-noted c e t there =
    let p = stands t c.args.untold.now there in
    subst (IsNoted c.args.log.now c.loop-k.holders.items) p.there (c.loop-k.invariant.noted p.place (let a = p.inside in let b = c.loop-k-test.false in omega (arith, a, b)))
