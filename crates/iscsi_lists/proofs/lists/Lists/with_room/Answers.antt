use Rattle.std.proofs.Common.{◌∙◌, [], replicate, ap}
use Rattle.iscsi_lists.specs.Lists.{Linked, listed, counted}
use Rattle.iscsi_lists.proofs.lists.Lists.with_room.Goals as goal

pub returns : goal.returns
returns g c = ap (λ (u : Linked). listed u.free u.lists u.room c.in_ok-filled.field-0.items) c.in_ok-with_room.ensures.state ∙ ap (listed (counted 1 c.args.room) (replicate c.args.lists []) c.args.room) c.in_ok-filled.ensures
