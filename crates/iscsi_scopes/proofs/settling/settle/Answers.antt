use Rattle.std.proofs.Common.{refl}
use Rattle.iscsi_lines.proofs.SettleLemmas.{ahead_within, comes_there, shorter, settling, settling_begins, settling_ends}
use Rattle.iscsi_scopes.proofs.settling.settle.Goals as goal

pub loop-slot-init : goal.loop-slot-init
loop-slot-init c = settling_begins c.args.lists.now c.args.conn c.args.ahead c.args.behind c.requires.passed c.requires.stand

pub move_to_back-requires-clause-slot : goal.move_to_back-requires-clause-slot
move_to_back-requires-clause-slot c = comes_there c.loop-slot.lists c.loop-slot.on c.args.ahead c.args.behind c.in-Some.slot c.in-Some.command c.in-Some.ensures.next

pub loop-slot-smaller : goal.loop-slot-smaller
loop-slot-smaller c =
    shorter c.args.lists.now c.loop-slot.lists c.move_to_back.new.self c.loop-slot.on c.args.ahead c.args.behind c.in-Some.slot c.in-Some.command c.in-Some.ensures.next c.move_to_back.ensures.state c.requires.apart
    (ahead_within c.args.lists.now c.loop-slot.lists c.loop-slot.on c.args.ahead c.args.behind c.loop-slot.invariant c.requires.ahead) c.known.ensures.apart

pub loop-slot-preserved : goal.loop-slot-preserved
loop-slot-preserved c =
    settling c.args.lists.now c.loop-slot.lists c.move_to_back.new.self c.loop-slot.on c.args.ahead c.args.behind c.in-Some.slot c.in-Some.command c.in-Some.ensures.next c.move_to_back.ensures.state c.requires.apart
    (ahead_within c.args.lists.now c.loop-slot.lists c.loop-slot.on c.args.ahead c.args.behind c.loop-slot.invariant c.requires.ahead) c.known.ensures.apart c.loop-slot.invariant

pub returns-clause-line : goal.returns-clause-line
returns-clause-line c = settling_ends c.args.lists.now c.loop-slot.lists c.loop-slot.on c.args.ahead c.args.behind c.loop-slot.invariant (c.in_default.ensures.none refl)
