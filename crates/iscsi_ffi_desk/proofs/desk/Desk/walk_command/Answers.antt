use Rattle.std.proofs.Common.{ℕ, Option, ap, ◌∙◌}
use Rattle.iscsi_ffi_commands.specs.Commands.{find_ticket}
use Rattle.iscsi_ffi_steps.specs.Walk.{Doing, Walk, deliver, end_item, enter, release_if}
use Rattle.iscsi_ffi_desk.specs.declared.course.Course.{Course}
use Rattle.iscsi_ffi_desk.specs.Courses.{begun, walk_of}
use Rattle.iscsi_ffi_desk.proofs.desk.Desk.walk_command.Goals as goal

pub returns-clause-walk : goal.returns-clause-walk
returns-clause-walk c = λ enabled of.
    ap (λ (w : Walk). w.doing) (c.end_item.ensures
    ∙ ap end_item (c.enter-place.ensures.walk
    ∙ ap (λ (w : Walk). enter c.args.ticket c.args.unit c.args.attr w.current w) (c.deliver.ensures
    ∙ ap (λ (k : Course). deliver c.args.request.now (walk_of c.args.self.now k)) (c.begin-course.ensures ∙ ap (λ (n : ℕ). begun c.args.own n) (c.sent.ensures ∙ ap (λ (d : Doing). d.state.outbox.sent) c.self.view_is)))))

pub returns-clause-entered : goal.returns-clause-entered
returns-clause-entered c = λ some.
    let ended = ap (λ (w : Walk). w.doing) c.end_item.ensures ∙ ap (λ (o : Option ℕ). release_if o c.enter-place.new.self) (c.enter-place.ensures.done some) in
    ap (λ (d : Doing). find_ticket c.args.ticket d.state.commands) ended ∙ c.enter-place.ensures.entered some
