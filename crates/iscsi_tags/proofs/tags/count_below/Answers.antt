use Rattle.std.proofs.Common.{ltb, arith, rules}
use Rattle.std.proofs.lemmas.Bool.{ltb-true, ltb-false}
use Rattle.std.proofs.lemmas.List.Sorted.{IsPartitionPoint-from_clause, IsPartitionedBy-ltb}
use Rattle.iscsi_slots.proofs.SortedLemmas.{not_greater}
use Rattle.iscsi_tags.specs.Tags.{NO_TAG, tag_of}
use Rattle.iscsi_tags.proofs.tags.count_below.Goals as goal

pub returns-clause-below : goal.returns-clause-below
returns-clause-below c =
    let parted = IsPartitionedBy-ltb tag_of c.args.tags.now c.args.tag (λ i j d le l. not_greater tag_of c.args.tags.now c.requires i j d le l) in
    let point = IsPartitionPoint-from_clause (λ t. ltb (tag_of t) c.args.tag) _ _ c.partition_point.ensures.partitioned parted (λ a r q k. search rules) in
    λ k l. ltb-true _ _ (point.0 k NO_TAG (omega arith) l)

pub returns-clause-above : goal.returns-clause-above
returns-clause-above c =
    let parted = IsPartitionedBy-ltb tag_of c.args.tags.now c.args.tag (λ i j d le l. not_greater tag_of c.args.tags.now c.requires i j d le l) in
    let point = IsPartitionPoint-from_clause (λ t. ltb (tag_of t) c.args.tag) _ _ c.partition_point.ensures.partitioned parted (λ a r q k. search rules) in
    λ k from l. ltb-false _ _ (point.1 k NO_TAG from l)
