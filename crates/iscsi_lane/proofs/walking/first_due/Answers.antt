use Rattle.std.proofs.Common.{◌∙◌, ◌<◌, ap, sym, subst, arith}
use Rattle.iscsi_outbox_state.specs.Lane.{is_due}
use Rattle.iscsi_lane.specs.Standings.{NOBODY, slots_at, standings}
use Rattle.iscsi_lane.specs.Walking.{IsPassed, IsWalk, before_slot, still_ahead}
use Rattle.iscsi_lane.proofs.StampLemmas.{once_at, within_at}
use Rattle.iscsi_lane.proofs.WalkLemmas.{alone, before_it, found_due, found_others, goes_on, here, nearer, p, passes_left, passes_undue, there, without_it}
use Rattle.iscsi_lane.proofs.walking.first_due.Goals as goal
use Rattle.iscsi_lane.proofs.walking.first_due.Goals.{in-Undue+else-is_due, in_default-at}

pub at-requires : goal.at-requires
at-requires c =
    let log = c.args.log.now in let order = slots_at log 2 in
    let Held = IsPassed log.values order in
    let is = subst (IsWalk order Held) c.in-Some.is c.loop-at.invariant in
    within_at log c.known.ensures.apart 2 c.in-Some.slot (there order Held c.in-Some.slot is (once_at log c.known.ensures.apart 2))

pub is_due-requires-clause-there : goal.is_due-requires-clause-there
is_due-requires-clause-there c =
    let log = c.args.log.now in let order = slots_at log 2 in
    let Held = IsPassed log.values order in
    let is = subst (IsWalk order Held) c.in-Some.is c.loop-at.invariant in
    there order Held c.in-Some.slot is (once_at log c.known.ensures.apart 2)

pub is_due-requires-clause-is : goal.is_due-requires-clause-is
is_due-requires-clause-is c = sym (c.at.ensures NOBODY) ∙ c.in-Undue.is

pub returns-then-is_due : goal.returns-then-is_due
returns-then-is_due c =
    let log = c.args.log.now in let order = slots_at log 2 in
    let Held = IsPassed log.values order in
    let slot = c.in-Some.slot in
    let is = subst (IsWalk order Held) c.in-Some.is c.loop-at.invariant in
    let once = once_at log c.known.ensures.apart 2 in
    let step = p order Held slot is once in
    let passed = here order Held slot is once in
    let at_it = sym (c.at.ensures NOBODY) ∙ c.in-Undue.is in
    let due = ap (λ q. is_due (standings log.values q) c.in-Undue.answer) (sym (ap (before_slot slot) step.parts ∙ before_it slot is.front step.rest (alone order Held slot is once)))
    ∙ sym c.is_due.ensures ∙ c.if-is_due.true in
    record {
      there = there order Held slot is once;
      is = at_it;
      due = found_due log.values order is.front slot step.rest passed c.in-Undue.answer at_it due;
      others = found_others log.values order is.front slot step.rest passed c.in-Undue.answer at_it due ∙ ap (standings log.values) (sym (without_it order is.front slot step.rest (once slot) step.parts));
    }

pub next-at-requires : goal.next-at-requires
next-at-requires c =
    let log = c.args.log.now in let order = slots_at log 2 in
    let Held = IsPassed log.values order in
    let is = subst (IsWalk order Held) c.in-Some.is c.loop-at.invariant in
    within_at log c.known.ensures.apart 2 c.in-Some.slot (there order Held c.in-Some.slot is (once_at log c.known.ensures.apart 2))

pub loop-at-smaller : goal.loop-at-smaller
loop-at-smaller c =
    let log = c.args.log.now in let order = slots_at log 2 in
    let Held = IsPassed log.values order in
    let slot = c.in-Some.slot in
    let is = subst (IsWalk order Held) c.in-Some.is c.loop-at.invariant in
    let once = once_at log c.known.ensures.apart 2 in
    let step = p order Held slot is once in
    subst (λ o. still_ahead c.next-at.result order < still_ahead o order) (sym c.in-Some.is)
    (nearer order Held slot is once c.next-at.result (c.next-at.ensures.slot 2 is.front step.rest (let a = c.requires.lists in omega (arith, a)) step.parts))

pub loop-at-preserved : goal.loop-at-preserved
loop-at-preserved c =
    let log = c.args.log.now in let order = slots_at log 2 in
    let Held = IsPassed log.values order in
    let slot = c.in-Some.slot in
    let is = subst (IsWalk order Held) c.in-Some.is c.loop-at.invariant in
    let once = once_at log c.known.ensures.apart 2 in
    let step = p order Held slot is once in
    let passed = here order Held slot is once in
    goes_on order Held slot is once c.next-at.result (c.next-at.ensures.slot 2 is.front step.rest (let a = c.requires.lists in omega (arith, a)) step.parts)
    (elim c.match-at-2.branch [
      | in-Undue+else-is_due w ↦
          passes_undue log.values order is.front slot step.rest passed w.in-Undue.answer (sym (c.at.ensures NOBODY) ∙ w.in-Undue.is)
          (ap (λ q. is_due (standings log.values q) w.in-Undue.answer) (sym (ap (before_slot slot) step.parts ∙ before_it slot is.front step.rest (alone order Held slot is once)))
          ∙ sym w.is_due.ensures ∙ w.if-is_due.false)
      | in_default-at w ↦ passes_left log.values order is.front slot step.rest passed w.in_default-at.field-0 (sym (c.at.ensures NOBODY) ∙ w.in_default-at.is)
    ])
