use Rattle.std.proofs.Common.{refl, arith}
use Rattle.std.proofs.lemmas.List.{take_rest}
use Rattle.iscsi_recording.proofs.DigitSteps.{decoded_two}
use Rattle.iscsi_recording.proofs.FrontLemmas.{completion_first}
use Rattle.iscsi_recording.proofs.parse.first_completion.Goals as goal

pub returns-in-Some : goal.returns-in-Some
returns-in-Some c =
    let found = c.in-Some.good in
    completion_first c.args.bytes.now _ found.0 0 found.1 _ (take_rest c.args.bytes.now 2)
    (omega arith) (omega arith) (omega arith) c.in-Some.ensures.number (omega (arith, c.in-Some.ensures.most)) c.in-Some.ensures.good.1.1.1
    (rw (c.in-Some.ensures.good.1.0, c.in-Some.ensures.good.1.1.0) (decoded_two 48 48 0 0 refl refl)) (omega arith)

pub returns : goal.returns
returns c =
    let found = c.in_ok-ticket.ticket in
    completion_first c.args.bytes.now _ found.0 c.in_ok-status.status found.1 _ (take_rest c.args.bytes.now 2)
    (omega arith) (omega arith) (omega arith) c.in_ok-ticket.ensures.number c.in_ok-ticket.ensures.most (omega arith) c.in_ok-status.ensures (omega arith)
