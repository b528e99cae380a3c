use Rattle.std.proofs.Common.{ℕ, ap, ◌∙◌}
use Rattle.iscsi_ffi_steps.specs.Walk.{Doing, Walk, end_item, leave, send}
use Rattle.iscsi_ffi_desk.specs.declared.course.Course.{Course}
use Rattle.iscsi_ffi_desk.specs.Courses.{begun, walk_of}
use Rattle.iscsi_ffi_desk.proofs.desk.Desk.walk_completion.Goals as goal

pub returns : goal.returns
returns c = λ unit stat_sn reply.
    ap (λ (w : Walk). w.doing) (c.end_item.ensures
    ∙ ap end_item (c.send.ensures
    ∙ ap (λ (w : Walk). send c.args.cid w) (c.leave.ensures
    ∙ ap (λ (k : Course). leave c.args.ticket (walk_of c.args.self.now k)) (c.begin-course.ensures ∙ ap (λ (n : ℕ). begun c.args.own n) (c.sent.ensures ∙ ap (λ (d : Doing). d.state.outbox.sent) c.self.view_is)))))
