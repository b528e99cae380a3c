use Rattle.std.proofs.Common.{List, sym, subst}
use Rattle.iscsi_arrivals.specs.Counts.{Counts}
use Rattle.iscsi_links.specs.Links.{AreCounted}
use Rattle.iscsi_links.proofs.LinkLemmas.{opened_counted}
use Rattle.iscsi_links.proofs.links.Links.open.Goals as goal

pub invariant_of-result : goal.invariant_of-result
invariant_of-result c = subst (λ (ls : List Counts). AreCounted ls c.args.looks 0 c.args.count 0) (sym c.in_ok-unjoined.ensures) (opened_counted c.args.looks c.args.count c.requires)
