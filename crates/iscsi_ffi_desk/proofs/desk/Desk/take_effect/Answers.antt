use Rattle.std.proofs.Common.{sym, ap, ◌∙◌}
use Rattle.iscsi_ffi_steps.specs.Walk.{on_effect}
use Rattle.iscsi_ffi_desk.specs.Courses.{walk_of}
use Rattle.iscsi_ffi_desk.proofs.desk.Desk.take_effect.Goals as goal

pub returns-in-Empty : goal.returns-in-Empty
returns-in-Empty c = c.empty.ensures c.args.course.now ∙ ap (λ e. on_effect c.args.first e (walk_of c.args.self.now c.args.course.now)) (sym c.in-Empty.is)

pub returns-in-Ignore : goal.returns-in-Ignore
returns-in-Ignore c = c.ignore.ensures c.in-Ignore.why ∙ ap (λ e. on_effect c.args.first e (walk_of c.args.self.now c.args.course.now)) (sym c.in-Ignore.is)
