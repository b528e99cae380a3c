-- All promises of what goes out, in one.
use Rattle.std.proofs.Common.{List}
use Rattle.iscsi_outbox_rules.specs.rules.Calls.{Opening, Call}
use Rattle.iscsi_outbox_rules.specs.promises.Deeds.{FollowsSession, FollowsFlow, FollowsKnown}
use Rattle.iscsi_outbox_rules.specs.promises.Promises.{KeepsPromises}
use Rattle.iscsi_outbox_rules.proofs.numbers.NumberTheorem.{counts_stat_sns, shows_exp, none_unjoined, none_lost}
use Rattle.iscsi_outbox_rules.proofs.numbers.OnwardTheorem.{goes_onward}
use Rattle.iscsi_outbox_rules.proofs.order.OnceTheorem.{sends_what_was_sent, goes_once}
use Rattle.iscsi_outbox_rules.proofs.order.InOrderTheorem.{goes_in_order}
use Rattle.iscsi_outbox_rules.proofs.order.MomentTheorem.{enters_in_order}
use Rattle.iscsi_outbox_rules.proofs.commands.CommandTheorem.{keeps_command_order}
use Rattle.iscsi_outbox_rules.proofs.order.OwnTheorem.{keeps_connection_order}
use Rattle.iscsi_outbox_rules.proofs.commands.ResponseTheorem.{sends_all_before}
use Rattle.iscsi_outbox_rules.proofs.closes.ClosedTheorem.{none_behind}
use Rattle.iscsi_outbox_rules.proofs.aborts.PastTheorem.{completes_before, is_silent_after}
use Rattle.iscsi_outbox_rules.proofs.aborts.ScopeTheorem.{stops_before}
use Rattle.iscsi_outbox_rules.proofs.aborts.DueTheorem.{arrives_before}
use Rattle.iscsi_outbox_rules.proofs.fences.FenceTheorem.{fence_before, fence_behind}
use Rattle.iscsi_outbox_rules.proofs.fences.FenceOrder.{fence_in_order}
use Rattle.iscsi_outbox_rules.proofs.order.PlaceTheorem.{fence_first}

pub keeps_promises : (o : Opening) (calls : List Call) → FollowsFlow o calls → FollowsKnown o calls → KeepsPromises o calls
keeps_promises o calls flow known =
    let follows : FollowsSession o calls = (known.events, known.follows) in
    record {
      silent = is_silent_after o calls follows;
      still = record { stopped = stops_before o calls known; through = arrives_before o calls known; completed = completes_before o calls follows };
      fence = record { before = fence_before o calls follows; behind = fence_behind o calls follows; in_order = fence_in_order o calls follows; first = fence_first o calls follows };
      closed = record { behind = none_behind o calls known; joined = none_unjoined o calls; lost = none_lost o calls };
      once = record { sent = sends_what_was_sent o calls follows; once = goes_once o calls; order = goes_in_order o calls follows; moments = enters_in_order o calls follows };
      numbers = record { stat_sns = counts_stat_sns o calls; exp = shows_exp o calls; onward = goes_onward o calls flow };
      order = record { of_command = keeps_command_order o calls follows; of_connection = keeps_connection_order o calls; response = sends_all_before o calls follows };
    }
