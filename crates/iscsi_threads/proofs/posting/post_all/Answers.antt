use Rattle.std.proofs.Common.{◌≤◌, ◌∙◌, length, rules, true, false}
use Rattle.std.proofs.lemmas.Bool.{false≢true}
use Rattle.iscsi_threads.proofs.PostLemmas.{posted_some}
use Rattle.iscsi_threads.proofs.posting.post_all.Goals as goal

pub returns-then-not-post_one : goal.returns-then-not-post_one
returns-then-not-post_one g c =
    let v = c.loop-header.invariant in
    posted_some c.args.port c.args.list.now c.post_one.new.port false c.loop-header.header-index
    (c.post_one.ensures.ring ∙ v.ring) (c.post_one.ensures.stopped c.if-not-post_one.true ∙ v.posted) (λ yes. absurd (false≢true yes))

pub returns : goal.returns
returns g c =
    let v = c.loop-header.invariant in
    let all : length c.args.list.now ≤ c.loop-header.header-index = search rules in
    posted_some c.args.port c.args.list.now c.loop-header.port true c.loop-header.header-index v.ring v.posted (λ yes. all)
