use Rattle.std.proofs.lemmas.List.{length-map}
use Rattle.std.proofs.Common.{◌∙◌, map, ap, length}
use Rattle.iscsi_lists.specs.Lists.{without, times_in, Listed}
use Rattle.iscsi_lists.proofs.WithoutLemmas.{times_in_without}
use Rattle.iscsi_lists.proofs.ListedLemmas.{freed_shown, others_without}
use Rattle.iscsi_lists.proofs.lists.Lists.remove.Goals as goal

pub returns-clause-state : goal.returns-clause-state
returns-clause-state g c = freed_shown c.self.invariant.apart c.self.view_is c.args.slot c.give_back.new.self c.give_back.ensures.state c.requires

pub returns-clause-others : goal.returns-clause-others
returns-clause-others g c = ap (λ (u : Listed g.row.T.Denot). map (without c.args.slot) u.lists) (returns-clause-state g c) ∙ others_without c.args.slot c.args.self.now.lists

pub returns-clause-gone : goal.returns-clause-gone
returns-clause-gone g c = ap (λ (u : Listed g.row.T.Denot). times_in c.args.slot u.lists) (returns-clause-state g c) ∙ times_in_without c.args.slot c.args.self.now.lists

pub returns-clause-count : goal.returns-clause-count
returns-clause-count g c = ap (λ (u : Listed g.row.T.Denot). length u.lists) (returns-clause-state g c) ∙ length-map c.args.self.now.lists (without c.args.slot)
