use Rattle.std.proofs.Common.{◌∙◌, ap, sym, arith}
use Rattle.iscsi_tasks.proofs.Names.{Member, is_covered, member_of}
use Rattle.iscsi_tasks.proofs.PlaceLemmas.{place_is, position_of}
use Rattle.iscsi_tasks.proofs.set.TaskSet.first_covered.Goals as goal

pub returns-then-covers : goal.returns-then-covers
returns-then-covers c =
    let covered = λ (m : Member). is_covered c.args.cover.now m.task in
    let m : Member = member_of c.at.result.now in
    position_of covered c.args.self.now.list c.loop-place.place
    (place_is covered c.args.self.now.list c.loop-place.place m (omega arith) (λ j l. c.loop-place.invariant j m l)
    (ap covered (sym (c.at.ensures.member m)) ∙ sym c.covers.ensures ∙ c.if-covers.true))
    (omega arith)
