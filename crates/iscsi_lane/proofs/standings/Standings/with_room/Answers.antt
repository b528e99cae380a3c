use Rattle.std.proofs.Common.{◌≡◌, ◌+◌, ◌-◌, suc, arith}
use Rattle.iscsi_lane.proofs.OpeningLemmas.{answer_opens, opened, place_opens}
use Rattle.iscsi_lane.proofs.LiningLemmas.{new_lined}
use Rattle.iscsi_lane.proofs.standings.Standings.with_room.Goals as goal

pub loop-preserved : goal.loop-preserved
loop-preserved c =
    let i = c.loop.invariant in
    let more = c.loop-test.true in
    let places = c.args.commands + c.args.answers in
    let next : places - c.loop.counter ≡ suc (places - (c.loop.counter + 1)) = omega (arith, more) in
    record {
      opening = answer_opens c.loop.log c.push_back.new.self (places - c.loop.counter) (places - (c.loop.counter + 1)) c.loop.counter places c.push_back.result _ i.opening next c.push_back.ensures.slot c.push_back.ensures.state;
      within = omega (arith, more);
    }

pub loop-2-preserved : goal.loop-2-preserved
loop-2-preserved c =
    let i = c.loop-2.invariant in
    let more = c.loop-2-test.true in
    let p = c.push_back-in-loop-2 in
    let next : c.args.commands - c.loop-2.counter ≡ suc (c.args.commands - (c.loop-2.counter + 1)) = omega (arith, more) in
    record {
      opening = place_opens c.loop-2.log p.new.self c.args.commands (c.args.commands - c.loop-2.counter) (c.args.commands - (c.loop-2.counter + 1)) c.args.answers (c.args.commands + c.args.answers) p.result _ i.opening next p.ensures.slot p.ensures.state;
      within = omega (arith, more);
    }

pub invariant_of-result : goal.invariant_of-result
invariant_of-result c =
    let log = c.loop-2.log in
    let opening = c.loop-2.invariant.opening in
    let past = c.loop-2-test.false in
    let all : c.args.commands - c.loop-2.counter ≡ 0 = omega (arith, past) in
    record {
      lane = opened log c.args.commands c.args.answers (c.args.commands - c.loop-2.counter) opening all;
      lined = new_lined c.in_ok-with_room.field-0 log (c.args.commands + c.args.answers) c.in_ok-with_room.ensures opening.slots opening.none;
    }
