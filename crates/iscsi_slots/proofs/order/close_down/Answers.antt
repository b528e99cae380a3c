use Rattle.std.proofs.Common.{◌≡◌, ◌+◌, ◌-◌, ◌∙◌, suc, drop, drop-drop, ap, sym, arith}
use Rattle.std.specs.List.{remove}
use Rattle.iscsi_slots.proofs.SlotLemmas.{drop-moved_block}
use Rattle.iscsi_slots.proofs.order.close_down.Goals as goal

pub returns-then-count-gt0-clause-slots : goal.returns-then-count-gt0-clause-slots
returns-then-count-gt0-clause-slots c =
    let from = c.args.head - c.filler.result in
    let many : c.args.head + c.args.count - from ≡ c.filler.result + c.args.count = omega (arith, c.filler.ensures) in
    let next : from + 1 ≡ suc from = omega arith in
    let past : c.args.head + 1 ≡ suc c.args.head = omega arith in
    rw (c.copy_within.ensures.items, many, next, past)
    (drop-moved_block c.args.order.now.items from c.filler.result c.args.head c.args.count (suc from + (c.filler.result + c.args.count))
    (omega (arith, c.filler.ensures)) c.requires (omega (arith, c.filler.ensures)))

pub returns-else-count-gt0-clause-slots : goal.returns-else-count-gt0-clause-slots
returns-else-count-gt0-clause-slots c =
    let none : 0 ≡ c.args.count = omega (arith, c.if-count-gt0.false) in
    sym (drop-drop 1 c.args.head c.args.order.now.items) ∙ ap (remove (drop c.args.head c.args.order.now.items)) none
