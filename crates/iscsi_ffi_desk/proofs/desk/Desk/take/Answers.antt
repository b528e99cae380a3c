use Rattle.std.proofs.Common.{List, ap, sym, ◌∙◌}
use Rattle.iscsi_rules.specs.declared.effect.Effect.{Effect}
use Rattle.iscsi_outbox_steps.specs.Steps.{taken}
use Rattle.iscsi_outbox.proofs.CommonestLemmas.{three_of, two_of}
use Rattle.iscsi_ffi_commands.specs.Commands.{find_ticket}
use Rattle.iscsi_ffi_steps.specs.Walk.{Doing}
use Rattle.iscsi_ffi_desk.specs.Calls.{with_outbox}
use Rattle.iscsi_ffi_desk.proofs.TakeLemmas.{command_taken, completion_taken}
use Rattle.iscsi_ffi_desk.proofs.desk.Desk.take.Goals as goal

pub returns : goal.returns
returns c =
    let is = two_of _ _ c.args.effects.now _ _ c.in-len2.len_at_least c.in-len2.len_below c.in-Leave.is c.in-Send.is in
    let walked = c.walk_completion.new.self in
    completion_taken c.args.own c.args.numbers c.args.effects.now c.args.self.now walked c.tell_left.new.self
    (c.tell_left.ensures c.in-Leave.unit c.in-Send.stat_sn ∙ ap (λ (es : List Effect). with_outbox (taken es c.args.numbers walked.state.outbox) walked) (sym is))
    c.in-Leave.ticket c.in-Leave.unit c.in-Send.conn c.in-Send.stat_sn c.in-Send.reply c.sweep_conn.new.self is (c.walk_completion.ensures c.in-Leave.unit c.in-Send.stat_sn c.in-Send.reply) c.sweep_conn.ensures

pub returns-2 : goal.returns-2
returns-2 c =
    let is = three_of _ _ _ c.args.effects.now _ _ _ c.in-len3.len_at_least c.in-len3.len_below c.in-Deliver.is c.in-Enter.is c.in-Enable.is in
    let walked = c.walk_command-place.new.self in
    command_taken c.args.own c.args.numbers c.args.effects.now c.args.self.now walked c.tell_entered.new.self
    (c.tell_entered.ensures c.in-Enter.attr c.in-Enable.unit ∙ ap (λ (es : List Effect). with_outbox (taken es c.args.numbers walked.state.outbox) walked) (sym is))
    c.in-Deliver.request c.in-Enter.ticket c.in-Enter.unit c.in-Enter.attr c.in-Enable.enabled c.in-Enable.unit c.start_behind.new.self is (c.walk_command-place.ensures.walk c.in-Enable.enabled c.in-Enable.unit) c.start_behind.ensures

pub start_behind-requires : goal.start_behind-requires
start_behind-requires c = λ some.
    ap (λ (d : Doing). find_ticket c.in-Enter.ticket d.state.commands) (c.tell_entered.ensures c.in-Enter.attr c.in-Enable.unit) ∙ c.walk_command-place.ensures.entered some
