use Rattle.std.proofs.Common.{ap, length, refl, ◌∙◌, arith}
use Rattle.iscsi_rules.specs.declared.effect.Effect.TheVariants.{Wait}
use Rattle.iscsi_report.specs.Filled.{filled}
use Rattle.iscsi_report.proofs.FilledLemmas.{line_put, written_to}
use Rattle.iscsi_report.proofs.report.ReportEffectSink.put_wait.Goals as goal

pub returns-then-has_room-clause-has : goal.returns-then-has_room-clause-has
returns-then-has_room-clause-has c = λ text es lines whole n.
    let is = c.deref_mut.ensures.value in
    line_put n c.self.inside.places.items c.has_room.new.memory.text c.deref_mut.result.now c.write_request-self-inside.new.line c.self.inside.len c.write_request-self-inside.result text es (Wait c.args.request.now) c.self.invariant.1.0
    (omega (arith, c.has_room.ensures.longer, ap length is, c.deref_mut.ensures.len)) is (omega (arith, c.write_request-self-inside.auto.line, c.deref_mut.ensures.len))
    (ap (filled n c.self.inside.places.items) c.has_room.ensures.kept ∙ (rw (← c.self.view_is) at lines) (c.has_room.ensures.whole whole) n) c.write_request-self-inside.ensures.written refl

pub invariant_of-self : goal.invariant_of-self
invariant_of-self c =
    let line = c.write_request-self-inside in
    let end = written_to line.new.line c.deref_mut.result.now _ c.self.inside.len line.result line.ensures.written
    (omega (arith, c.if-has_room.ensures.room, c.deref_mut.ensures.len, line.auto.line, line.ensures.end)) (omega (arith, c.if-has_room.ensures.room, c.deref_mut.ensures.len)) in
    (omega (arith, c.if-has_room.ensures.room, line.ensures.end), (λ k d lt. omega (arith, end, c.self.invariant.1.0 k d lt), c.has_room.ensures.there))
