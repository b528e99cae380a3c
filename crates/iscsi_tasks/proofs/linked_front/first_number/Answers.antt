use Rattle.std.proofs.Common.{◌≡◌, ◌∙◌, ◌<◌, List, length, get_or, w64, rules, ap, sym, arith}
use Rattle.std.proofs.lemmas.Int.{to_z-of_z}
use Rattle.iscsi_tasks.proofs.Names.{nat_tests, Member, covered_from, covered_from_first, BLANK}
use Rattle.iscsi_tasks.proofs.linked_front.first_number.Goals as goal

-- that of the oldest
oldest : (list : List Member) → 0 < length list → covered_from (get_or list 0 BLANK).task ≡ covered_from_first list
oldest list some = grind (arith, nat_tests)

pub returns : goal.returns
returns c =
    let list = c.args.chain.now.members in
    let long = c.len.ensures.len in let slots = c.len.ensures.slots in let some = c.if-len-eq0.false in
    to_z-of_z w64 c.covered_from.result (search rules) ∙ c.covered_from.ensures
    ∙ ap (λ (m : Member). covered_from m.task) (c.at.ensures 0 BLANK (omega (arith, slots, some)) (sym c.oldest.ensures)) ∙ oldest list (omega (arith, long, some))
