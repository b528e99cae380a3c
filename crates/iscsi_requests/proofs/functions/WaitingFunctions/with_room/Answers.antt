use Rattle.std.proofs.Common.{◌+◌, ◌∙◌, ap, replicate}
use Rattle.iscsi_requests.specs.Kept.{NO_FUNCTION, functions_of}
use Rattle.iscsi_requests.proofs.ValueLemmas.{none_values}
use Rattle.iscsi_requests.proofs.functions.WaitingFunctions.with_room.Goals as goal

pub returns : goal.returns
returns c =
    ap functions_of c.in_ok-with_room.ensures
    ∙ ap (λ ws. record { waiting = ws; room = c.args.room }) (none_values NO_FUNCTION (replicate (c.args.room + 1) NO_FUNCTION) c.args.conns)
