use Rattle.std.proofs.Common.{◌<◌, sym, subst, arith}
use Rattle.iscsi_lane.specs.Dropping.{IsDropping}
use Rattle.iscsi_lane.specs.Standings.{slots_at}
use Rattle.iscsi_lane.specs.Walking.{still_ahead}
use Rattle.iscsi_lane.proofs.DroppingLemmas.{begins, goes_on, nearer, p, there}
use Rattle.iscsi_lane.proofs.StampLemmas.{within_at}
use Rattle.iscsi_lane.proofs.dropping.drop_all.Goals as goal

pub loop-at-init : goal.loop-at-init
loop-at-init c = record {
  dropping = begins c.args.log.now c.args.conn c.first-at.result c.known.ensures.apart c.requires.lists c.first-at.ensures.slot;
  lined = c.requires.lined;
}

pub next-at-requires : goal.next-at-requires
next-at-requires c =
    let d = subst (IsDropping c.args.log.now c.loop-at.log c.args.conn c.loop-at.dropped.answers c.loop-at.dropped.numbered) c.in-Some.is c.loop-at.invariant.dropping in
    within_at c.loop-at.log c.known-in-Some.ensures.apart 2 c.in-Some.slot (there c.args.log.now c.loop-at.log c.args.conn c.loop-at.dropped.answers c.loop-at.dropped.numbered c.in-Some.slot d c.known-in-Some.ensures.apart)

pub drop_at-dropped-requires-clause-there : goal.drop_at-dropped-requires-clause-there
drop_at-dropped-requires-clause-there c =
    let d = subst (IsDropping c.args.log.now c.loop-at.log c.args.conn c.loop-at.dropped.answers c.loop-at.dropped.numbered) c.in-Some.is c.loop-at.invariant.dropping in
    there c.args.log.now c.loop-at.log c.args.conn c.loop-at.dropped.answers c.loop-at.dropped.numbered c.in-Some.slot d c.known-in-Some.ensures.apart

pub loop-at-smaller : goal.loop-at-smaller
loop-at-smaller c =
    let d = subst (IsDropping c.args.log.now c.loop-at.log c.args.conn c.loop-at.dropped.answers c.loop-at.dropped.numbered) c.in-Some.is c.loop-at.invariant.dropping in
    subst (λ o. still_ahead c.next-at.result (slots_at c.drop_at-dropped.new.log 2) < still_ahead o (slots_at c.loop-at.log 2)) (sym c.in-Some.is)
    (nearer c.args.log.now c.loop-at.log c.args.conn c.loop-at.dropped.answers c.loop-at.dropped.numbered c.in-Some.slot d c.known-in-Some.ensures.apart c.drop_at-dropped.new.log c.drop_at-dropped.result.answers c.drop_at-dropped.result.numbered
    c.drop_at-dropped.ensures.gone c.drop_at-dropped.ensures.stays c.drop_at-dropped.ensures.answers c.drop_at-dropped.ensures.numbered c.next-at.result
    (c.next-at.ensures.slot 2 d.front (p c.args.log.now c.loop-at.log c.args.conn c.loop-at.dropped.answers c.loop-at.dropped.numbered c.in-Some.slot d c.known-in-Some.ensures.apart).rest (let a = d.lists in omega (arith, a)) (p c.args.log.now c.loop-at.log c.args.conn c.loop-at.dropped.answers c.loop-at.dropped.numbered c.in-Some.slot d c.known-in-Some.ensures.apart).parts))

pub loop-at-preserved : goal.loop-at-preserved
loop-at-preserved c =
    let d = subst (IsDropping c.args.log.now c.loop-at.log c.args.conn c.loop-at.dropped.answers c.loop-at.dropped.numbered) c.in-Some.is c.loop-at.invariant.dropping in
    record {
      dropping = goes_on c.args.log.now c.loop-at.log c.args.conn c.loop-at.dropped.answers c.loop-at.dropped.numbered c.in-Some.slot d c.known-in-Some.ensures.apart c.drop_at-dropped.new.log c.drop_at-dropped.result.answers c.drop_at-dropped.result.numbered
          c.drop_at-dropped.ensures.gone c.drop_at-dropped.ensures.stays c.drop_at-dropped.ensures.answers c.drop_at-dropped.ensures.numbered c.next-at.result
          (c.next-at.ensures.slot 2 d.front (p c.args.log.now c.loop-at.log c.args.conn c.loop-at.dropped.answers c.loop-at.dropped.numbered c.in-Some.slot d c.known-in-Some.ensures.apart).rest (let a = d.lists in omega (arith, a)) (p c.args.log.now c.loop-at.log c.args.conn c.loop-at.dropped.answers c.loop-at.dropped.numbered c.in-Some.slot d c.known-in-Some.ensures.apart).parts);
      lined = c.drop_at-dropped.ensures.lined;
    }
