use Rattle.std.proofs.Common.{sym, ap, ◌∙◌}
use Rattle.iscsi_requests.specs.Replies.{find_log_place}
use Rattle.iscsi_ffi_steps.specs.Walk.{Doing}
use Rattle.iscsi_ffi_desk.specs.Calls.{reply_left}
use Rattle.iscsi_ffi_desk.specs.contracts.desk.Desk.{the_view}
use Rattle.iscsi_ffi_desk.proofs.ReplyLemmas.{none_at_end, stays_at_end}
use Rattle.iscsi_ffi_desk.proofs.CallLemmas.{stays_replied}
use Rattle.iscsi_ffi_desk.proofs.desk.Desk.take_reply.Goals as goal

pub returns-clause-request : goal.returns-clause-request
returns-clause-request c =
    let last = c.last-last.ensures in
    sym (none_at_end c.args.log_place c.self.inside.replies c.last-last.result c.known.ensures last.last last.short c.if-log_place-lt18446744073709551615.false)
    ∙ ap (λ (d : Doing). find_log_place c.args.log_place d.state.replies) c.self.view_is

pub returns-clause-state : goal.returns-clause-state
returns-clause-state c =
    let last = c.last-last.ensures in
    sym c.self.view_is
    ∙ stays_replied (the_view c.self.inside) c.args.log_place
    (stays_at_end c.args.log_place c.self.inside.replies c.last-last.result c.known.ensures last.last last.short c.if-log_place-lt18446744073709551615.false)
    ∙ ap (λ (d : Doing). reply_left c.args.log_place d) c.self.view_is
