use Rattle.std.proofs.Common.{ltb, arith, rules}
use Rattle.std.proofs.lemmas.Bool.{ltb-true, ltb-false}
use Rattle.std.proofs.lemmas.List.Sorted.{IsPartitionPoint-from_clause, IsPartitionedBy-ltb}
use Rattle.iscsi_slots.proofs.SortedLemmas.{not_greater}
use Rattle.iscsi_tickets.specs.Tickets.{NOTHING, ticket_of}
use Rattle.iscsi_tickets.proofs.tickets.count_below.Goals as goal

pub returns-clause-below : goal.returns-clause-below
returns-clause-below c =
    let parted = IsPartitionedBy-ltb ticket_of c.args.log.now c.args.ticket (λ i j d le l. not_greater ticket_of c.args.log.now c.requires i j d le l) in
    let point = IsPartitionPoint-from_clause (λ e. ltb (ticket_of e) c.args.ticket) _ _ c.partition_point.ensures.partitioned parted (λ a r q k. search rules) in
    λ k l. ltb-true _ _ (point.0 k NOTHING (omega arith) l)

pub returns-clause-above : goal.returns-clause-above
returns-clause-above c =
    let parted = IsPartitionedBy-ltb ticket_of c.args.log.now c.args.ticket (λ i j d le l. not_greater ticket_of c.args.log.now c.requires i j d le l) in
    let point = IsPartitionPoint-from_clause (λ e. ltb (ticket_of e) c.args.ticket) _ _ c.partition_point.ensures.partitioned parted (λ a r q k. search rules) in
    λ k from l. ltb-false _ _ (point.1 k NOTHING from l)
