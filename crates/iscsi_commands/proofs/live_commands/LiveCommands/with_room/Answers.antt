use Rattle.std.proofs.Common.{◌≡◌, ◌≤◌, ◌+◌, ◌*◌, List, length, vec_capacity, sym, subst, rules}
use Rattle.iscsi_commands.specs.declared.entry.Entry.{Entry}
use Rattle.iscsi_commands.specs.Log.{AreLogged}
use Rattle.iscsi_commands.proofs.LogLemmas.{none_logged}
use Rattle.iscsi_commands.proofs.live_commands.LiveCommands.with_room.Goals as goal

pub invariant_of-result : goal.invariant_of-result
invariant_of-result c =
    let tags = c.in_ok-with_room.field-0 in
    let long : length c.in_ok-vec.field-0.items ≡ 4096 = search rules in
    let roomy : 2 * c.args.room + 64 ≤ vec_capacity c.in_ok-with_capacity.field-0 = c.in_ok-with_capacity.ensures.capacity in
    subst (λ (log : List Entry). AreLogged log (vec_capacity c.in_ok-with_capacity.field-0) 0 c.args.room (length c.in_ok-vec.field-0.items) tags.places.items tags.crowded.items tags.others.items tags.others.room) (sym c.in_ok-with_capacity.ensures.items)
    (none_logged (vec_capacity c.in_ok-with_capacity.field-0) c.args.room (length c.in_ok-vec.field-0.items) tags.others.room roomy c.requires long c.in_ok-with_room.ensures.room c.in_ok-with_room.ensures.tagged)
