use Rattle.std.proofs.lemmas.List.{length-set, length-map}
use Rattle.std.proofs.Common.{◌∙◌, map, ap, length, get_or, ◌++◌, ◌∷◌, []}
use Rattle.iscsi_lists.specs.Lists.{without, Listed}
use Rattle.iscsi_lists.proofs.ListedLemmas.{moved_shown, others_moved}
use Rattle.iscsi_lists.proofs.lists.Lists.move_to_back.Goals as goal

pub returns-clause-state : goal.returns-clause-state
returns-clause-state g c = moved_shown c.self.invariant.apart c.self.view_is c.args.slot c.args.list c.move_to_back.new.self c.move_to_back.ensures.state c.requires.slot

pub returns-clause-others : goal.returns-clause-others
returns-clause-others g c = ap (λ (u : Listed g.row.T.Denot). map (without c.args.slot) u.lists) (returns-clause-state g c) ∙ others_moved c.args.slot c.args.list c.args.self.now.lists c.requires.list

pub returns-clause-count : goal.returns-clause-count
returns-clause-count g c =
    let others = map (without c.args.slot) c.args.self.now.lists in
    ap (λ (u : Listed g.row.T.Denot). length u.lists) (returns-clause-state g c)
    ∙ length-set others c.args.list (get_or others c.args.list [] ++ c.args.slot ∷ [])
    ∙ length-map c.args.self.now.lists (without c.args.slot)
