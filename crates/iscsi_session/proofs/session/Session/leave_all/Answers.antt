use Rattle.iscsi_session.proofs.Names.{◌≡◌, ◌∙◌, ℕ, arith, length-set, refl, Core, is_covered, commands_left, cover_of, range_step}
use Rattle.iscsi_session.proofs.KeptLemmas.{continued}
use Rattle.iscsi_session.proofs.session.Session.leave_all.Goals as goal

pub loop-unit-preserved : goal.loop-unit-preserved
loop-unit-preserved over c =
    let inv = c.loop-unit.invariant in
    let s : Core = c.loop-unit.self in
    let u : ℕ = c.loop-unit.unit in
    let end : ℕ = c.units-unit-end.result in
    let step = range_step u end c.loop-unit-test.true in
    let x = c.leave.ensures.done in
    let left : c.leave.new.self ≡ (commands_left s u (is_covered (cover_of c.args.scope))).core = x.core ∙ rw inv.cover in
    record {
      session = rw left (rw step at inv.session);
      effects = continued (commands_left s u (is_covered (cover_of c.args.scope))).effects inv.effects (rw (step, left) refl) (rw inv.cover at x.effects);
      cover = inv.cover;
      units = rw (left, length-set) inv.units;
      places = rw left inv.places;
      spent = omega (arith, c.leave.ensures.spent, inv.spent);
      capacity = x.room ∙ inv.capacity;
    }
