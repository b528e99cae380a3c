use Rattle.std.proofs.Common.{ap, length, refl, ◌∙◌, arith}
use Rattle.iscsi_rules.specs.declared.effect.Effect.TheVariants.{Ignore}
use Rattle.iscsi_report.specs.Filled.{filled}
use Rattle.iscsi_report.proofs.FilledLemmas.{line_put}
use Rattle.iscsi_report.proofs.report.Report.put_ignore_grown.Goals as goal

pub returns-then-has_room : goal.returns-then-has_room
returns-then-has_room c = λ text es lines whole n.
    let is = c.deref_mut.ensures.value in
    line_put n c.self.inside.places.items c.has_room.new.memory.text c.deref_mut.result.now c.write_ignore-self-inside.new.line c.self.inside.len c.write_ignore-self-inside.result text es (Ignore c.args.why) c.self.invariant.1.0
    (omega (arith, c.has_room.ensures.longer, ap length is, c.deref_mut.ensures.len)) is (omega (arith, c.write_ignore-self-inside.auto.line, c.deref_mut.ensures.len))
    (ap (filled n c.self.inside.places.items) c.has_room.ensures.kept ∙ (rw (← c.self.view_is) at lines) (c.has_room.ensures.whole whole) n) c.write_ignore-self-inside.ensures.written refl
