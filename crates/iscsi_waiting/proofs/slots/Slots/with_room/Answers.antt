use Rattle.std.proofs.Common.{ap, refl, replicate, sym, subst, ◌∙◌}
use Rattle.iscsi_lists.specs.Lists.{Listed}
use Rattle.iscsi_waiting.specs.Kept.{IsKept}
use Rattle.iscsi_waiting.specs.declared.counts.Counts.{Counts}
use Rattle.iscsi_waiting.specs.declared.slots.Kept.{Kept}
use Rattle.iscsi_waiting.proofs.EnterLemmas.{opened_kept, opened_state}
use Rattle.iscsi_waiting.proofs.slots.Slots.with_room.Goals as goal

pub returns-clause-kept : goal.returns-clause-kept
returns-clause-kept c =
    let v = c.in_ok-with_room.field-0 in let state = c.in_ok-with_room.ensures in
    let owned = c.in_ok-all_in_first.field-0 in let fence = c.in_ok-all_in_first-2.field-0 in
    subst (λ (all : Counts). IsKept v owned fence c.in_ok-vec.field-0.items all 0) (sym c.none-2.ensures)
    (opened_kept v c.args.conns c.args.room (ap (λ (u : Listed Kept). u.lists) state) (ap (λ (u : Listed Kept). u.room) state) owned fence c.args.commands c.in_ok-vec.field-0.items
    c.in_ok-all_in_first.ensures c.in_ok-all_in_first-2.ensures (c.in_ok-vec.ensures.items_if_clones_equal (λ y is. is) ∙ ap (λ (x : Counts). replicate c.args.conns x) c.none.ensures))

pub returns-clause-state : goal.returns-clause-state
returns-clause-state c =
    let v = c.in_ok-with_room.field-0 in let state = c.in_ok-with_room.ensures in
    opened_state v c.args.conns c.args.room (ap (λ (u : Listed Kept). u.lists) state) (ap (λ (u : Listed Kept). u.room) state) c.in_ok-all_in_first.field-0 c.args.commands c.in_ok-all_in_first.ensures _ refl
