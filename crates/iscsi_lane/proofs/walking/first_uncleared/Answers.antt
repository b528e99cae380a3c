use Rattle.std.proofs.Common.{◌∙◌, ◌<◌, ap, sym, subst, arith}
use Rattle.iscsi_lane.specs.Standings.{NOBODY, slots_at}
use Rattle.iscsi_lane.specs.Walking.{IsWalk, NoneSoFar, is_uncleared_of, still_ahead}
use Rattle.iscsi_lane.proofs.StampLemmas.{once_at, within_at}
use Rattle.iscsi_lane.proofs.WalkLemmas.{any_push, goes_on, here, nearer, p, there}
use Rattle.iscsi_lane.proofs.walking.first_uncleared.Goals as goal
use Rattle.iscsi_lane.proofs.walking.first_uncleared.Goals.{in-Undue+else-is_uncleared, in_default-at}

pub at-requires : goal.at-requires
at-requires c =
    let log = c.args.log.now in let order = slots_at log 2 in
    let Held = NoneSoFar (is_uncleared_of c.args.unit) log.values in
    let is = subst (IsWalk order Held) c.in-Some.is c.loop-at.invariant in
    within_at log c.known.ensures.apart 2 c.in-Some.slot (there order Held c.in-Some.slot is (once_at log c.known.ensures.apart 2))

pub returns-then-is_uncleared : goal.returns-then-is_uncleared
returns-then-is_uncleared c =
    let log = c.args.log.now in let order = slots_at log 2 in
    let Held = NoneSoFar (is_uncleared_of c.args.unit) log.values in
    let slot = c.in-Some.slot in
    let is = subst (IsWalk order Held) c.in-Some.is c.loop-at.invariant in
    let once = once_at log c.known.ensures.apart 2 in
    let step = p order Held slot is once in
    record {
      front = is.front;
      back = step.rest;
      parts = step.parts;
      is = sym (c.at.ensures NOBODY) ∙ c.in-Undue.is;
      on = sym c.is_uncleared.ensures ∙ c.if-is_uncleared.true;
      none = here order Held slot is once;
    }

pub next-at-requires : goal.next-at-requires
next-at-requires c =
    let log = c.args.log.now in let order = slots_at log 2 in
    let Held = NoneSoFar (is_uncleared_of c.args.unit) log.values in
    let is = subst (IsWalk order Held) c.in-Some.is c.loop-at.invariant in
    within_at log c.known.ensures.apart 2 c.in-Some.slot (there order Held c.in-Some.slot is (once_at log c.known.ensures.apart 2))

pub loop-at-smaller : goal.loop-at-smaller
loop-at-smaller c =
    let log = c.args.log.now in let order = slots_at log 2 in
    let Held = NoneSoFar (is_uncleared_of c.args.unit) log.values in
    let slot = c.in-Some.slot in
    let is = subst (IsWalk order Held) c.in-Some.is c.loop-at.invariant in
    let once = once_at log c.known.ensures.apart 2 in
    let step = p order Held slot is once in
    subst (λ o. still_ahead c.next-at.result order < still_ahead o order) (sym c.in-Some.is)
    (nearer order Held slot is once c.next-at.result (c.next-at.ensures.slot 2 is.front step.rest (let a = c.requires in omega (arith, a)) step.parts))

pub loop-at-preserved : goal.loop-at-preserved
loop-at-preserved c =
    let log = c.args.log.now in let order = slots_at log 2 in
    let Held = NoneSoFar (is_uncleared_of c.args.unit) log.values in
    let slot = c.in-Some.slot in
    let is = subst (IsWalk order Held) c.in-Some.is c.loop-at.invariant in
    let once = once_at log c.known.ensures.apart 2 in
    let step = p order Held slot is once in
    goes_on order Held slot is once c.next-at.result (c.next-at.ensures.slot 2 is.front step.rest (let a = c.requires in omega (arith, a)) step.parts)
    (any_push (is_uncleared_of c.args.unit) log.values is.front slot (here order Held slot is once)
    (elim c.match-at-2.branch [
      | in-Undue+else-is_uncleared w ↦ ap (is_uncleared_of c.args.unit) (sym (c.at.ensures NOBODY) ∙ w.in-Undue.is) ∙ sym w.is_uncleared.ensures ∙ w.if-is_uncleared.false
      | in_default-at w ↦ ap (is_uncleared_of c.args.unit) (sym (c.at.ensures NOBODY) ∙ w.in_default-at.is)
    ]))
