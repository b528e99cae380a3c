use Rattle.iscsi_session.proofs.Names.{◌∙◌, ◌+◌, ◌-◌, ◌<◌, ℕ, arith, length-set, refl, List, [], ap, ◌≡◌, Effect, range_with_len, flat_map, Core, set_at, all_given, enable_effects, range_step}
use Rattle.iscsi_session.proofs.KeptLemmas.{continued, ended, given_set, told_more, told_all, told_later}
use Rattle.iscsi_session.proofs.session.Session.announce_all.Goals as goal

abbrev told_from : Core → ℕ → ℕ → List Effect
told_from s from count = flat_map (λ unit. enable_effects unit (set_at s unit).list) (range_with_len from count)

pub loop-unit-preserved : goal.loop-unit-preserved
loop-unit-preserved over c =
    let inv = c.loop-unit.invariant in
    let s : Core = c.loop-unit.self in
    let u : ℕ = c.loop-unit.unit in
    let end : ℕ = c.units-unit-end.result in
    let lt : u < end = c.loop-unit-test.true in
    let told = c.announce_enabled.ensures.done.core in
    record {
      session = rw (told, given_set s.sets u) inv.session;
      told = rw told (told_more s.sets u (omega (arith, lt, inv.units)) inv.told);
      effects = continued (enable_effects u (set_at s u).list) inv.effects (rw (range_step u end lt, told, told_later s.sets u (all_given (set_at s u)) (end - (u + 1)) (u + 1) (omega arith)) refl) c.announce_enabled.ensures.done.effects;
      units = rw (told, length-set) inv.units;
      spent = omega (arith, c.announce_enabled.ensures.spent, inv.spent);
      capacity = c.announce_enabled.ensures.done.room ∙ inv.capacity;
    }

pub returns-clause-done : goal.returns-clause-done
returns-clause-done over c =
    let inv = c.loop-unit.invariant in
    let u : ℕ = c.loop-unit.unit in
    let end : ℕ = c.units-unit-end.result in
    let none : range_with_len u (end - u) ≡ [] = ap (range_with_len u) (let z : end - u ≡ 0 = omega (arith, c.loop-unit-test.false) in z) in
    record {
      core = rw (told_all c.loop-unit.self.sets (λ k lt. inv.told k (omega (arith, lt, inv.units, c.loop-unit-test.false)))) at inv.session;
      effects = ended inv.effects (rw none refl);
      room = inv.capacity;
    }
