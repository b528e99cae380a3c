use Rattle.std.proofs.Common.{ap, length, refl, arith}
use Rattle.iscsi_rules.specs.declared.effect.Effect.TheVariants.{Ignore}
use Rattle.iscsi_report.proofs.FilledLemmas.{line_put}
use Rattle.iscsi_report.proofs.report.ReportEffectSink.put_ignore.Goals as goal

pub returns-then-has_room_left-clause-has : goal.returns-then-has_room_left-clause-has
returns-then-has_room_left-clause-has c = λ text es lines whole n.
    let is = c.deref_mut.ensures.value in
    line_put n c.self.inside.places.items c.self.inside.memory.text c.deref_mut.result.now c.write_ignore-self-inside.new.line c.self.inside.len c.write_ignore-self-inside.result text es (Ignore c.args.why) c.self.invariant.1.0
    (omega (arith, c.self.invariant.0, ap length is, c.deref_mut.ensures.len)) is (omega (arith, c.write_ignore-self-inside.auto.line, c.deref_mut.ensures.len))
    ((rw (← c.self.view_is) at lines) whole n) c.write_ignore-self-inside.ensures.written refl
