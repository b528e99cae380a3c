use Rattle.std.proofs.Common.{◌+◌, refl}
use Rattle.iscsi_scopes.proofs.ScopeOpening.{opening_begins, opening_goes_on}
use Rattle.iscsi_scopes.proofs.slot_lines.SlotLines.with_room.Goals as goal

pub loop-init : goal.loop-init
loop-init c = opening_begins c.in_ok-lists.lists c.args.lines c.args.room (c.args.lines + c.args.lines + 1) refl c.in_ok-lists.ensures

pub loop-preserved : goal.loop-preserved
loop-preserved c =
    opening_goes_on c.loop.lists c.push_back.new.self c.args.lines c.args.room c.loop.counter (c.args.lines + c.args.lines) c.push_back.result _ refl c.loop-test.true
    c.loop.invariant c.known.ensures.apart c.push_back.ensures.slot c.push_back.ensures.fresh c.push_back.ensures.state
