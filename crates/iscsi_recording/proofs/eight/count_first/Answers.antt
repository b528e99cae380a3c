use Rattle.std.proofs.Common.{◌≡◌, ◌<◌, ◌%◌, arith}
use Rattle.std.specs.Int.{bit_at}
use Rattle.iscsi_recording.proofs.EightLemmas.{no_bit, first_bit}
use Rattle.iscsi_recording.proofs.eight.count_first.Goals as goal

pub returns-clause-some : goal.returns-clause-some
returns-clause-some c =
    let n = c.others_of-others.result in
    let digit : bit_at n 0 ≡ 0 = no_bit n _ (c.others_of-others.ensures.other 0 (omega arith)) c.requires.first in
    let some : 0 < n % 512 = omega arith in
    let found = first_bit n some digit in
    (found.0, found.1)

pub returns-clause-digits : goal.returns-clause-digits
returns-clause-digits c =
    λ i lt. (
    let n = c.others_of-others.result in
    let digit : bit_at n 0 ≡ 0 = no_bit n _ (c.others_of-others.ensures.other 0 (omega arith)) c.requires.first in
    let some : 0 < n % 512 = omega arith in
    let found = first_bit n some digit in
    let few = found.1 in
    c.others_of-others.ensures.digit i (omega arith) (found.2 i lt)
    )
