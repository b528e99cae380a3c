use Rattle.iscsi_session.proofs.Names.{◌≡◌, ◌∙◌, ◌++◌, List, [], ◌∷◌, ap, sym, get_or, get_or_default, Members, opened, has_covered, covers_ticket}
use Rattle.iscsi_session.proofs.KeptLemmas.{one_leaving, noted}
use Rattle.iscsi_session.proofs.session.leaving.dequeue_one.Goals as goal
use Rattle.iscsi_session.proofs.session.leaving.dequeue_one.Goals.{After-is_some}

-- whether the command was there
there : (c : After-is_some) → has_covered (covers_ticket c.args.ticket) (get_or c.args.sets.now c.args.unit (opened 0)) ≡ c.is_some.result
there c =
    let sets : List Members = c.args.sets.now in
    let same : get_or sets c.from.result c.index-sets-from.result ≡ get_or sets c.args.unit (opened 0) = rw c.from.ensures (get_or_default sets c.args.unit c.index-sets-from.result (opened 0) c.requires.unit) in
    sym (c.is_some.ensures ∙ rw (c.leave.ensures.answer, same) (one_leaving c.args.ticket (get_or sets c.args.unit (opened 0))).1)

pub returns-then-is_some-clause-left : goal.returns-then-is_some-clause-left
returns-then-is_some-clause-left c =
    c.push_reserved.ensures.items ∙ ap (λ ts. ts ++ c.args.ticket ∷ []) c.requires.none
    ∙ sym (noted c.args.ticket c.args.unit (get_or c.args.sets.now c.args.unit (opened 0)) _ _ c.requires.there c.requires.ascending (there (goal.at.returns-then-is_some-clause-left c).After-is_some ∙ c.if-is_some.true))

pub returns-else-is_some-clause-left : goal.returns-else-is_some-clause-left
returns-else-is_some-clause-left c =
    c.requires.none ∙ sym (noted c.args.ticket c.args.unit (get_or c.args.sets.now c.args.unit (opened 0)) _ _ c.requires.there c.requires.ascending (there (goal.at.returns-else-is_some-clause-left c).After-is_some ∙ c.if-is_some.false))
