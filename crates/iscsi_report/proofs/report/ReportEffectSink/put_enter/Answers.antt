use Rattle.std.proofs.Common.{ap, length, refl, ◌∙◌, arith}
use Rattle.iscsi_rules.specs.declared.effect.Effect.TheVariants.{Enter}
use Rattle.iscsi_report.specs.Filled.{filled}
use Rattle.iscsi_report.proofs.FilledLemmas.{line_put}
use Rattle.iscsi_report.proofs.report.ReportEffectSink.put_enter.Goals as goal

pub returns-then-has_room-clause-has : goal.returns-then-has_room-clause-has
returns-then-has_room-clause-has c = λ text es lines whole n.
    let is = c.deref_mut.ensures.value in
    line_put n c.self.inside.places.items c.has_room.new.memory.text c.deref_mut.result.now c.write_enter.new.line c.self.inside.len c.write_enter.result.1 text es (Enter c.args.ticket c.args.unit c.args.attr) c.self.invariant.1.0
    (omega (arith, c.has_room.ensures.longer, ap length is, c.deref_mut.ensures.len)) is (omega (arith, c.write_enter.auto.line, c.deref_mut.ensures.len))
    (ap (filled n c.self.inside.places.items) c.has_room.ensures.kept ∙ (rw (← c.self.view_is) at lines) (c.has_room.ensures.whole whole) n) c.write_enter.ensures.written refl
