use Rattle.std.proofs.Common.{rules, ◌≡◌, ◌+◌, ◌≤◌, length, drop, ap, sym, subst, ◌∙◌, arith}
use Rattle.std.specs.List.{insert}
use Rattle.std.proofs.lemmas.List.{length-drop}
use Rattle.iscsi_slots.specs.Queued.{queued}
use Rattle.iscsi_slots.proofs.SlotLemmas.{drop-insert}
use Rattle.iscsi_slots.proofs.order.Order.insert.Goals as goal

pub returns : goal.returns
returns c =
    let made = c.make_place-self-inside.ensures in
    let head = c.make_place-self-inside.result in
    let places = c.make_place-self-inside.new.order.items in
    let long = length-drop head places in
    let l = subst (λ o. c.args.k ≤ length o.items) (sym c.self.view_is) c.requires.place in
    let same = ap length made.slots in
    let done : c.insert-inserted.new.self.items ≡ insert places (head + c.args.k) c.args.slot = search (rules, c.insert-inserted.ensures.items) in
    ap (λ xs. queued (drop head xs) c.self.inside.room) done
    ∙ ap (λ xs. queued xs c.self.inside.room) (drop-insert places head c.args.k c.args.slot (omega (arith, long, l, same, made.head)))
    ∙ ap (λ xs. queued (insert xs c.args.k c.args.slot) c.self.inside.room) made.slots
    ∙ ap (λ o. queued (insert o.items c.args.k c.args.slot) o.room) c.self.view_is
