use Rattle.std.proofs.Common.{◌+◌, ◌∙◌, None, ap, replicate}
use Rattle.iscsi_requests.specs.Kept.{unwritten_of}
use Rattle.iscsi_requests.proofs.ValueLemmas.{none_values}
use Rattle.iscsi_requests.proofs.CountLemmas.{none_counted}
use Rattle.iscsi_requests.proofs.unwritten.Unwritten.with_room.Goals as goal

pub invariant_of-result : goal.invariant_of-result
invariant_of-result c = none_counted c.args.conns c.args.room c.in_ok-none_yet.field-0.items c.in_ok-with_room.field-0 c.in_ok-none_yet.ensures c.in_ok-with_room.ensures

pub returns : goal.returns
returns c =
    ap unwritten_of c.in_ok-with_room.ensures
    ∙ ap (λ ws. record { handed = ws; room = c.args.room }) (none_values None (replicate (c.args.room + 1) None) c.args.conns)
