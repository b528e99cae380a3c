use Rattle.std.proofs.Common.{◌∙◌, ap}
use Rattle.std.proofs.lemmas.Bool.{both_ways}
use Rattle.iscsi_lists.specs.Lists.{Listed}
use Rattle.iscsi_lists.proofs.ClearLemmas.{length_some}
use Rattle.iscsi_lists.proofs.lists.Lists.is_full.Goals as goal

pub returns-clause-some : goal.returns-clause-some
returns-clause-some g c not_full = length_some c.args.self.now.free
    (λ none. both_ways c.is_full.result not_full (c.is_full.ensures.no (ap (λ (u : Listed g.row.T.Denot). u.free) c.self.view_is ∙ none)))
