use Rattle.std.proofs.Common.{◌∙◌, ◌<◌, Some, ap, sym, subst, arith}
use Rattle.iscsi_outbox_state.specs.Lane.{holds_back}
use Rattle.iscsi_lane.specs.Standings.{NOBODY, slots_at}
use Rattle.iscsi_lane.specs.Walking.{IsWalk, NoneHolds, still_ahead}
use Rattle.iscsi_lane.proofs.StampLemmas.{once_at, within_at}
use Rattle.iscsi_lane.proofs.WalkLemmas.{due_is, due_not, goes_on, held_on, here, nearer, p, there}
use Rattle.iscsi_lane.proofs.walking.is_due_by_walk.Goals as goal

pub returns-then-before-slot : goal.returns-then-before-slot
returns-then-before-slot c =
    let log = c.args.log.now in let order = slots_at log 2 in
    let Held = NoneHolds log.values c.args.answer c.args.slot in
    let is = subst (IsWalk order Held) (c.in-Some.is ∙ ap Some c.if-before-slot.true) c.loop-at.invariant in
    let once = once_at log c.known.ensures.apart 2 in
    sym (due_is log.values c.args.answer c.if-answer.false order c.args.slot is.front (p order Held c.args.slot is once).rest
    (p order Held c.args.slot is once).parts (here order Held c.args.slot is once))

pub at-requires : goal.at-requires
at-requires c =
    let log = c.args.log.now in let order = slots_at log 2 in
    let Held = NoneHolds log.values c.args.answer c.args.slot in
    let is = subst (IsWalk order Held) c.in-Some.is c.loop-at.invariant in
    within_at log c.known.ensures.apart 2 c.in-Some.before (there order Held c.in-Some.before is (once_at log c.known.ensures.apart 2))

pub returns-then-holds_back : goal.returns-then-holds_back
returns-then-holds_back c =
    let log = c.args.log.now in let order = slots_at log 2 in
    let Held = NoneHolds log.values c.args.answer c.args.slot in
    let is = subst (IsWalk order Held) c.in-Some.is c.loop-at.invariant in
    let once = once_at log c.known.ensures.apart 2 in
    let step = p order Held c.in-Some.before is once in
    sym (due_not log.values c.args.answer c.if-answer.false order c.args.slot is.front c.in-Some.before step.rest step.parts (here order Held c.in-Some.before is once)
    c.if-before-slot.false (ap (holds_back c.args.answer) (sym (c.at.ensures NOBODY)) ∙ sym c.holds_back.ensures ∙ c.if-holds_back.true))

pub next-at-requires : goal.next-at-requires
next-at-requires c =
    let log = c.args.log.now in let order = slots_at log 2 in
    let Held = NoneHolds log.values c.args.answer c.args.slot in
    let is = subst (IsWalk order Held) c.in-Some.is c.loop-at.invariant in
    within_at log c.known.ensures.apart 2 c.in-Some.before (there order Held c.in-Some.before is (once_at log c.known.ensures.apart 2))

pub loop-at-smaller : goal.loop-at-smaller
loop-at-smaller c =
    let log = c.args.log.now in let order = slots_at log 2 in
    let Held = NoneHolds log.values c.args.answer c.args.slot in
    let is = subst (IsWalk order Held) c.in-Some.is c.loop-at.invariant in
    let once = once_at log c.known.ensures.apart 2 in
    let step = p order Held c.in-Some.before is once in
    subst (λ o. still_ahead c.next-at.result order < still_ahead o order) (sym c.in-Some.is)
    (nearer order Held c.in-Some.before is once c.next-at.result (c.next-at.ensures.slot 2 is.front step.rest (let a = c.requires.lists in omega (arith, a)) step.parts))

pub loop-at-preserved : goal.loop-at-preserved
loop-at-preserved c =
    let log = c.args.log.now in let order = slots_at log 2 in
    let Held = NoneHolds log.values c.args.answer c.args.slot in
    let is = subst (IsWalk order Held) c.in-Some.is c.loop-at.invariant in
    let once = once_at log c.known.ensures.apart 2 in
    let step = p order Held c.in-Some.before is once in
    goes_on order Held c.in-Some.before is once c.next-at.result (c.next-at.ensures.slot 2 is.front step.rest (let a = c.requires.lists in omega (arith, a)) step.parts)
    (held_on log.values c.args.answer c.if-answer.false order c.args.slot is.front c.in-Some.before step.rest (here order Held c.in-Some.before is once)
    c.if-before-slot.false (ap (holds_back c.args.answer) (sym (c.at.ensures NOBODY)) ∙ sym c.holds_back.ensures ∙ c.if-holds_back.false))
