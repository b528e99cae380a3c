use Rattle.std.proofs.Common.{◌≡◌, ◌∙◌, false, nat_lt, length, take, rules}
use Rattle.iscsi_host.proofs.AnswerLemmas.{long_enough}
use Rattle.iscsi_host.proofs.handle.Handle.arrive.Goals as goal

pub returns-in-Some-clause-answer : goal.returns-in-Some-clause-answer
returns-in-Some-clause-answer c = λ o h serves.
    let long : nat_lt (length c.args.header.now) 48 ≡ false = search rules in
    let first : c.in-Some.header.now ≡ take 48 c.args.header.now = search rules in
    c.step.ensures.answer o h serves ∙ long_enough o h c.args.cid c.args.header.now c.in-Some.header.now long first
