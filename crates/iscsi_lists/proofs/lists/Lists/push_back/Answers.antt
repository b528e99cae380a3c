use Rattle.std.proofs.lemmas.List.{length-set}
use Rattle.std.proofs.Common.{◌∙◌, map, ap, length, get_or, ◌++◌, ◌∷◌, []}
use Rattle.iscsi_lists.specs.Lists.{without, Listed}
use Rattle.iscsi_lists.proofs.WithoutLemmas.{map_without_none}
use Rattle.iscsi_lists.proofs.ListedLemmas.{pushed_shown, fresh_shown, others_with}
use Rattle.iscsi_lists.proofs.lists.Lists.push_back.Goals as goal

pub returns-clause-state : goal.returns-clause-state
returns-clause-state g c = c.set.ensures ∙ pushed_shown c.self.invariant.apart c.self.view_is c.free_slot-slot.result c.args.list c.args.value c.move_to_back.new.self c.move_to_back.ensures.state c.free_slot-slot.ensures.there

pub returns-clause-fresh : goal.returns-clause-fresh
returns-clause-fresh g c = fresh_shown c.self.invariant.apart c.self.view_is c.free_slot-slot.result c.free_slot-slot.ensures.there

pub returns-clause-others : goal.returns-clause-others
returns-clause-others g c =
    ap (λ (u : Listed g.row.T.Denot). map (without c.free_slot-slot.result) u.lists) (returns-clause-state g c)
    ∙ others_with c.free_slot-slot.result c.args.list c.args.self.now.lists c.requires.list
    ∙ map_without_none c.free_slot-slot.result c.args.self.now.lists (returns-clause-fresh g c)

pub returns-clause-count : goal.returns-clause-count
returns-clause-count g c =
    ap (λ (u : Listed g.row.T.Denot). length u.lists) (returns-clause-state g c)
    ∙ length-set c.args.self.now.lists c.args.list (get_or c.args.self.now.lists c.args.list [] ++ c.free_slot-slot.result ∷ [])
