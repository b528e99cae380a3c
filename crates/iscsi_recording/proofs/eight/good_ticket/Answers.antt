use Rattle.std.proofs.Common.{◌≤◌, get_or, refl, arith, rules, sym}
use Rattle.iscsi_recording.proofs.FrontLemmas.{number_led}
use Rattle.iscsi_recording.proofs.EightLemmas.{numbered}
use Rattle.iscsi_recording.proofs.eight.good_ticket.Goals as goal

pub returns-clause-number : goal.returns-clause-number
returns-clause-number c =
    let bytes = c.args.bytes.now in
    let count = c.in_ok-count.count in
    let values = c.values_of-values in
    let found = c.in_ok-count.ensures in
    let few = found.some.1 in
    let lead : 49 ≤ get_or bytes 0 0 = search rules in
    let so = numbered bytes values.result count (omega arith) (λ i. (c.type_inv.bytes i).fits) (λ i lt. values.ensures.values i (omega arith)) found.digits in
    number_led bytes c.number_first_of.result count found.some.0 (omega arith) (omega arith) (c.if-not-ends_good.ensures refl).0 (λ h. omega arith) (rw (sym c.number_first_of.ensures) at so)
