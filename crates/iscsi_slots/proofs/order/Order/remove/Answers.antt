use Rattle.std.proofs.Common.{◌<◌, length, drop, ap, sym, subst, ◌∙◌, arith}
use Rattle.std.specs.List.{remove}
use Rattle.std.proofs.lemmas.List.{length-drop}
use Rattle.iscsi_slots.specs.Queued.{queued}
use Rattle.iscsi_slots.proofs.SlotLemmas.{drop-remove}
use Rattle.iscsi_slots.proofs.order.Order.remove.Goals as goal

pub returns-else-k-len : goal.returns-else-k-len
returns-else-k-len c =
    let long = length-drop c.self.inside.head c.self.inside.places.items in
    let l = subst (λ o. c.args.k < length o.items) (sym c.self.view_is) c.requires in
    ap (λ xs. queued (drop c.self.inside.head xs) c.self.inside.room) c.close_up.ensures.slots
    ∙ ap (λ xs. queued xs c.self.inside.room) (drop-remove c.self.inside.places.items c.self.inside.head c.args.k (omega (arith, long, l)))
    ∙ ap (λ o. queued (remove o.items c.args.k) o.room) c.self.view_is

pub returns-then-k-len : goal.returns-then-k-len
returns-then-k-len c =
    ap (λ xs. queued xs c.self.inside.room) c.close_down.ensures.slots
    ∙ ap (λ o. queued (remove o.items c.args.k) o.room) c.self.view_is
