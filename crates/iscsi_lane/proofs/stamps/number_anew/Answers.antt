use Rattle.std.proofs.Common.{◌+◌, subst, arith}
use Rattle.iscsi_lane.specs.Standings.{slots_at}
use Rattle.iscsi_lane.proofs.StampLemmas.{IsNumbering, begins, goes_on, once_at, p, there, within_at}
use Rattle.iscsi_lane.proofs.stamps.number_anew.Goals as goal

pub loop-at-init : goal.loop-at-init
loop-at-init c = begins (slots_at c.args.log.now 2) c.args.stamps.now.items (c.args.log.now.room + 1) c.first-at.result c.first-at.ensures.slot c.requires.long

pub index_mut-requires : goal.index_mut-requires
index_mut-requires c =
    let log = c.args.log.now in
    let order = slots_at log 2 in
    let is = subst (IsNumbering order c.loop-at.stamps.items c.loop-at.next (log.room + 1)) c.in-Some.is c.loop-at.invariant in
    let once = once_at log c.known.ensures.apart 2 in
    let low = within_at log c.known.ensures.apart 2 c.in-Some.slot (there order c.loop-at.stamps.items c.loop-at.next (log.room + 1) c.in-Some.slot is once) in
    let size = is.size in let len = c.loop-at.stamps.ok.0 in omega (arith, low, size, len)

pub next-at-requires : goal.next-at-requires
next-at-requires c =
    let log = c.args.log.now in
    let order = slots_at log 2 in
    let is = subst (IsNumbering order c.loop-at.stamps.items c.loop-at.next (log.room + 1)) c.in-Some.is c.loop-at.invariant in
    within_at log c.known.ensures.apart 2 c.in-Some.slot (there order c.loop-at.stamps.items c.loop-at.next (log.room + 1) c.in-Some.slot is (once_at log c.known.ensures.apart 2))

pub loop-at-preserved : goal.loop-at-preserved
loop-at-preserved c =
    let log = c.args.log.now in
    let order = slots_at log 2 in
    let is = subst (IsNumbering order c.loop-at.stamps.items c.loop-at.next (log.room + 1)) c.in-Some.is c.loop-at.invariant in
    let once = once_at log c.known.ensures.apart 2 in
    let low = within_at log c.known.ensures.apart 2 c.in-Some.slot (there order c.loop-at.stamps.items c.loop-at.next (log.room + 1) c.in-Some.slot is once) in
    let part = p order c.loop-at.stamps.items c.loop-at.next (log.room + 1) c.in-Some.slot is once in
    goes_on order c.loop-at.stamps.items c.loop-at.next (log.room + 1) c.in-Some.slot is once c.next-at.result
    (c.next-at.ensures.slot 2 is.front part.rest (let a = c.requires.lists in omega (arith, a)) part.parts) (omega (arith, low))
