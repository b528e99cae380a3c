use Rattle.std.proofs.Common.{sym, ◌∙◌, arith}
use Rattle.iscsi_waiting.proofs.LoopLemmas.{it_waits, lists_long, release_done, release_more, shorter}
use Rattle.iscsi_waiting.proofs.slots.Slots.release.Goals as goal

pub let_go-requires-clause-waits : goal.let_go-requires-clause-waits
let_go-requires-clause-waits c = it_waits c.args.command c.loop-slot.self c.loop-slot.invariant.kept c.requires.low c.in-Some.slot (sym c.in-Some.ensures.slot)

pub loop-slot-smaller : goal.loop-slot-smaller
loop-slot-smaller c =
    shorter c.args.command c.loop-slot.self c.loop-slot.invariant.kept c.requires.low c.in-Some.slot (sym c.in-Some.ensures.slot) c.let_go.new.self c.let_go.ensures.gone.owned

pub loop-slot-preserved : goal.loop-slot-preserved
loop-slot-preserved c =
    let now = c.loop-slot.self in let i = c.loop-slot.invariant in
    let waits = it_waits c.args.command now i.kept c.requires.low c.in-Some.slot (sym c.in-Some.ensures.slot) in
    let high = c.known.ensures.apart.within c.in-Some.slot (omega (arith, waits)) in let long = c.known.ensures.values in
    record {
      kept = c.let_go.ensures.kept;
      state = release_more c.args.command now i.kept c.requires.low c.in-Some.slot (sym c.in-Some.ensures.slot) c.let_go.new.self c.let_go.ensures.gone (omega (arith, high, long)) ∙ i.state;
      lists = lists_long c.args.command now i.kept c.requires.low c.in-Some.slot (sym c.in-Some.ensures.slot) c.let_go.new.self c.let_go.ensures.gone.owned ∙ i.lists;
    }

pub returns-clause-state : goal.returns-clause-state
returns-clause-state c =
    release_done c.args.command c.loop-slot.self c.loop-slot.invariant.kept c.requires.low (sym c.first.ensures.slot ∙ c.in_default.is) ∙ c.loop-slot.invariant.state
