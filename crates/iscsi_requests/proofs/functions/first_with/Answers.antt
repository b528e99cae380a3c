use Rattle.std.proofs.Common.{◌∙◌, ◌<◌, ap, sym, subst, ne_eqb}
use Rattle.iscsi_requests.specs.declared.functions.WaitingFunction.{WaitingFunction}
use Rattle.iscsi_requests.specs.Kept.{IsWalk, NO_FUNCTION, slots_at, still_ahead}
use Rattle.iscsi_requests.proofs.ValueLemmas.{once_at, within_at}
use Rattle.iscsi_requests.proofs.WalkLemmas.{behind, parts_here, slot_there, walk_goes_on, walk_nears}
use Rattle.iscsi_requests.proofs.functions.first_with.Goals as goal

pub at-requires : goal.at-requires
at-requires c =
    let kept = c.args.kept.now in
    let order = slots_at kept c.args.conn in
    let is = subst (IsWalk order kept.values c.args.number) c.in-Some.is c.loop-at.invariant in
    within_at kept c.known.ensures.apart c.args.conn c.in-Some.slot (slot_there order kept.values c.args.number (once_at kept c.known.ensures.apart c.args.conn) c.in-Some.slot is)

pub next-at-requires : goal.next-at-requires
next-at-requires c =
    let kept = c.args.kept.now in
    let order = slots_at kept c.args.conn in
    let is = subst (IsWalk order kept.values c.args.number) c.in-Some.is c.loop-at.invariant in
    within_at kept c.known.ensures.apart c.args.conn c.in-Some.slot (slot_there order kept.values c.args.number (once_at kept c.known.ensures.apart c.args.conn) c.in-Some.slot is)

pub loop-at-smaller : goal.loop-at-smaller
loop-at-smaller c =
    let kept = c.args.kept.now in
    let order = slots_at kept c.args.conn in
    let slot = c.in-Some.slot in
    let is = subst (IsWalk order kept.values c.args.number) c.in-Some.is c.loop-at.invariant in
    let once = once_at kept c.known.ensures.apart c.args.conn in
    let rest = (behind order kept.values c.args.number slot is.back is.first).0 in
    let told = c.next-at.ensures.slot c.args.conn is.front rest c.requires (parts_here order kept.values c.args.number once slot is) in
    subst (λ o. still_ahead c.next-at.result order < still_ahead o order) (sym c.in-Some.is) (walk_nears order kept.values c.args.number once slot is c.next-at.result told)

pub loop-at-preserved : goal.loop-at-preserved
loop-at-preserved c =
    let kept = c.args.kept.now in
    let order = slots_at kept c.args.conn in
    let slot = c.in-Some.slot in
    let is = subst (IsWalk order kept.values c.args.number) c.in-Some.is c.loop-at.invariant in
    let once = once_at kept c.known.ensures.apart c.args.conn in
    let rest = (behind order kept.values c.args.number slot is.back is.first).0 in
    let told = c.next-at.ensures.slot c.args.conn is.front rest c.requires (parts_here order kept.values c.args.number once slot is) in
    let read = ap (λ (f : WaitingFunction). f.number) (c.at.ensures NO_FUNCTION) in
    walk_goes_on order kept.values c.args.number once slot is c.next-at.result told (ne_eqb _ c.args.number (λ same. c.if-at-number.false (read ∙ same)))
