use Rattle.std.proofs.Common.{List, sym, ap, ◌∙◌}
use Rattle.iscsi_rules.specs.declared.effect.Effect.{Effect}
use Rattle.iscsi_outbox.specs.private.Walks.{after_event}
use Rattle.iscsi_outbox.proofs.CommonestLemmas.{three_of, two_of}
use Rattle.iscsi_outbox.proofs.outbox.Outbox.take_event.Goals as goal

pub returns : goal.returns
returns c =
    let two = two_of _ _ c.args.effects.now _ _ c.in-len2.len_at_least c.in-len2.len_below c.in-Leave.is c.in-Send.is in
    c.take_completion.ensures c.in-Leave.unit c.in-Send.stat_sn ∙ sym (ap (λ (es : List Effect). after_event es c.args.self.now) two)

pub returns-2 : goal.returns-2
returns-2 c =
    let three = three_of _ _ _ c.args.effects.now _ _ _ c.in-len3.len_at_least c.in-len3.len_below c.in-Deliver.is c.in-Enter.is c.in-Enable.is in
    c.take_command.ensures c.in-Enter.attr c.in-Enable.unit ∙ sym (ap (λ (es : List Effect). after_event es c.args.self.now) three)
