use Rattle.std.proofs.Common.{◌≤◌, ◌<◌, ℕ, List, sym, subst, arith}
use Rattle.iscsi_slots.specs.Slots.{times}
use Rattle.iscsi_lane.specs.Standings.{slots_at}
use Rattle.iscsi_lane.specs.Walking.{IsWalk, still_ahead}
use Rattle.iscsi_lane.proofs.HoldLemmas.{starts}
use Rattle.iscsi_lane.proofs.StampLemmas.{once_at, within_at}
use Rattle.iscsi_lane.proofs.WalkLemmas.{goes_on, nearer, p, there}
use Rattle.iscsi_lane.proofs.holding.next_holder.Goals as goal

pub loop-at-init : goal.loop-at-init
loop-at-init c = starts (slots_at c.args.log.now 2) c.args.from c.requires.there

pub at-requires : goal.at-requires
at-requires c =
    let log = c.args.log.now in let order = slots_at log 2 in
    let is = subst (IsWalk order (λ (front back : List ℕ). Unit {0})) c.in-Some.is c.loop-at.invariant in
    within_at log c.known.ensures.apart 2 c.in-Some.before (there order (λ (front back : List ℕ). Unit {0}) c.in-Some.before is (once_at log c.known.ensures.apart 2))

pub returns-then-holds_back : goal.returns-then-holds_back
returns-then-holds_back c s e =
    let log = c.args.log.now in let order = slots_at log 2 in
    let is = subst (IsWalk order (λ (front back : List ℕ). Unit {0})) c.in-Some.is c.loop-at.invariant in
    subst (λ n. 1 ≤ times n order) (cc) (there order (λ (front back : List ℕ). Unit {0}) c.in-Some.before is (once_at log c.known.ensures.apart 2))

pub next-at-requires : goal.next-at-requires
next-at-requires c =
    let log = c.args.log.now in let order = slots_at log 2 in
    let is = subst (IsWalk order (λ (front back : List ℕ). Unit {0})) c.in-Some.is c.loop-at.invariant in
    within_at log c.known.ensures.apart 2 c.in-Some.before (there order (λ (front back : List ℕ). Unit {0}) c.in-Some.before is (once_at log c.known.ensures.apart 2))

pub loop-at-smaller : goal.loop-at-smaller
loop-at-smaller c =
    let log = c.args.log.now in let order = slots_at log 2 in
    let is = subst (IsWalk order (λ (front back : List ℕ). Unit {0})) c.in-Some.is c.loop-at.invariant in
    let once = once_at log c.known.ensures.apart 2 in
    let step = p order (λ (front back : List ℕ). Unit {0}) c.in-Some.before is once in
    subst (λ o. still_ahead c.next-at.result order < still_ahead o order) (sym c.in-Some.is)
    (nearer order (λ (front back : List ℕ). Unit {0}) c.in-Some.before is once c.next-at.result (c.next-at.ensures.slot 2 is.front step.rest (let a = c.requires.lists in omega (arith, a)) step.parts))

pub loop-at-preserved : goal.loop-at-preserved
loop-at-preserved c =
    let log = c.args.log.now in let order = slots_at log 2 in
    let is = subst (IsWalk order (λ (front back : List ℕ). Unit {0})) c.in-Some.is c.loop-at.invariant in
    let once = once_at log c.known.ensures.apart 2 in
    let step = p order (λ (front back : List ℕ). Unit {0}) c.in-Some.before is once in
    goes_on order (λ (front back : List ℕ). Unit {0}) c.in-Some.before is once c.next-at.result (c.next-at.ensures.slot 2 is.front step.rest (let a = c.requires.lists in omega (arith, a)) step.parts) tt
