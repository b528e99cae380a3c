use Rattle.std.proofs.Common.{arith}
use Rattle.std.proofs.lemmas.Bool.Decides.{nat_tests}
use Rattle.iscsi_commands.proofs.LogLemmas.{live_within, ticket_at}
use Rattle.iscsi_commands.proofs.live_commands.seek.Goals as goal

pub returns-else-is_at : goal.returns-else-is_at
returns-else-is_at c = λ k live is.
    let log = c.args.log.now in
    let at = ticket_at log c.args.ticket c.count_below-k.result c.requires c.count_below-k.ensures.below c.count_below-k.ensures.above k (live_within log k live) is in
    grind (arith, nat_tests, at, live_within log k live)
