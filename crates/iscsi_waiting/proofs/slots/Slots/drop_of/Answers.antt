use Rattle.std.proofs.Common.{sym, ◌∙◌}
use Rattle.iscsi_waiting.proofs.LoopLemmas.{drop_done, drop_more, it_waits, lists_long, shorter}
use Rattle.iscsi_waiting.proofs.slots.Slots.drop_of.Goals as goal

pub take_out-requires-clause-waits : goal.take_out-requires-clause-waits
take_out-requires-clause-waits c = it_waits c.args.command c.loop-slot.self c.loop-slot.invariant.kept c.requires.low c.in-Some.slot (sym c.in-Some.ensures.slot)

pub loop-slot-smaller : goal.loop-slot-smaller
loop-slot-smaller c =
    shorter c.args.command c.loop-slot.self c.loop-slot.invariant.kept c.requires.low c.in-Some.slot (sym c.in-Some.ensures.slot) c.take_out.new.self c.take_out.ensures.left.owned

pub loop-slot-preserved : goal.loop-slot-preserved
loop-slot-preserved c =
    let now = c.loop-slot.self in let i = c.loop-slot.invariant in
    record {
      kept = c.take_out.ensures.kept;
      state = drop_more c.args.command now i.kept c.requires.low c.in-Some.slot (sym c.in-Some.ensures.slot) c.take_out.new.self c.take_out.ensures.left ∙ i.state;
      lists = lists_long c.args.command now i.kept c.requires.low c.in-Some.slot (sym c.in-Some.ensures.slot) c.take_out.new.self c.take_out.ensures.left.owned ∙ i.lists;
    }

pub returns-clause-state : goal.returns-clause-state
returns-clause-state c =
    drop_done c.args.command c.loop-slot.self c.loop-slot.invariant.kept c.requires.low (sym c.first.ensures.slot ∙ c.in_default.is) ∙ c.loop-slot.invariant.state
