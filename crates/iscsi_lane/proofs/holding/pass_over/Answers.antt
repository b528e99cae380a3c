use Rattle.std.proofs.Common.{◌≡◌, ◌<◌, ◌∙◌, ◌⊎◌, get_or, inr, ap, sym, subst, arith, ⊎_elim, ne_eqb}
use Rattle.std.proofs.lemmas.Bool.{cases_eq}
use Rattle.iscsi_slots.proofs.SlotLemmas.{stands, times_at}
use Rattle.iscsi_lane.specs.Hints.{hint_at, passed}
use Rattle.iscsi_lane.specs.Standings.{slots_at}
use Rattle.iscsi_lane.proofs.HintLemmas.{passed_twice}
use Rattle.iscsi_lane.proofs.StampLemmas.{once_at, some_at, within_at}
use Rattle.iscsi_lane.proofs.holding.pass_over.Goals as goal

pub pass_one-requires-clause-waiting : goal.pass_one-requires-clause-waiting
pass_one-requires-clause-waiting c =
    let a = within_at c.args.log.now c.known.ensures.apart 2 (get_or c.args.untold.now c.loop-k.k 0) (c.requires.there _ (times_at c.args.untold.now c.loop-k.k c.loop-k-test.true)) in
    let b = c.loop-k.invariant.holders in omega (arith, a, b)

pub loop-k-preserved : goal.loop-k-preserved
loop-k-preserved c =
    let log = c.args.log.now in
    let untold = c.args.untold.now in
    let order = slots_at log 2 in
    let w = get_or untold c.loop-k.k 0 in
    let inv = c.loop-k.invariant in
    let start = c.args.holders.now.items in
    let now = c.pass_one.new.holders.items in
    let twice = passed_twice c.args.slot order c.requires.slot (once_at log c.known.ensures.apart 2 c.args.slot) (some_at log c.known.ensures.apart 2 c.args.slot c.requires.slot) (hint_at start w) in
    let here : hint_at now w ≡ passed c.args.slot order (hint_at start w) = c.pass_one.ensures.here ∙ ⊎_elim
    (λ same. ap (passed c.args.slot order) same)
    (λ gone. ap (passed c.args.slot order) gone ∙ twice)
    (inv.each w) in
    record {
      within = let a = c.loop-k-test.true in omega (arith, a);
      holders = c.pass_one.ensures.holders ∙ inv.holders;
      each = λ t. ⊎_elim
          (λ (same : t ≡ w). inr (subst (λ k. hint_at now k ≡ passed c.args.slot order (hint_at start k)) (sym same) here))
          (λ apart. subst (λ h. (h ≡ hint_at start t) ⊎ (h ≡ passed c.args.slot order (hint_at start t))) (sym (c.pass_one.ensures.others t (ne_eqb t w apart))) (inv.each t))
          (cases_eq t w);
      so_far = λ j l. ⊎_elim
          (λ (same : get_or untold j 0 ≡ w). subst (λ k. hint_at now k ≡ passed c.args.slot order (hint_at start k)) (sym same) here)
          (λ apart.
          let before : j < c.loop-k.k = ⊎_elim (λ (same : j ≡ c.loop-k.k). absurd (apart (ap (λ i. get_or untold i 0) same))) (λ other. omega (arith, l, other)) (cases_eq j c.loop-k.k) in
          c.pass_one.ensures.others (get_or untold j 0) (ne_eqb (get_or untold j 0) w apart) ∙ inv.so_far j before)
          (cases_eq (get_or untold j 0) w);
    }

pub returns-clause-passes : goal.returns-clause-passes
returns-clause-passes c t there =
    let p = stands t c.args.untold.now there in
    subst (λ k. hint_at c.loop-k.holders.items k ≡ passed c.args.slot (slots_at c.args.log.now 2) (hint_at c.args.holders.now.items k)) p.there
    (c.loop-k.invariant.so_far p.place (let a = p.inside in let b = c.loop-k-test.false in omega (arith, a, b)))
