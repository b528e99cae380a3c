use Rattle.std.proofs.Common.{◌∙◌, List, ℕ, get_or, ap, arith}
use Rattle.iscsi_cids.proofs.PlaceLemmas.{told_place, told_nowhere}
use Rattle.iscsi_cids.proofs.cids.Cids.place.Goals as goal

pub returns-then-place-lt-NOWHERE : goal.returns-then-place-lt-NOWHERE
returns-then-place-lt-NOWHERE c =
    let is = c.told-place.ensures ∙ ap (λ (ps : List ℕ). get_or ps c.args.cid 255) c.deref.ensures.value in
    rw (c.from.ensures, is, ← c.self.view_is) (told_place _ _ c.self.invariant c.args.cid (omega (arith, is, c.if-place-lt-NOWHERE.true)))

pub returns-else-place-lt-NOWHERE : goal.returns-else-place-lt-NOWHERE
returns-else-place-lt-NOWHERE c =
    let is = c.told-place.ensures ∙ ap (λ (ps : List ℕ). get_or ps c.args.cid 255) c.deref.ensures.value in
    rw (← c.self.view_is) (told_nowhere _ _ c.self.invariant c.args.cid (omega (arith, is, c.if-place-lt-NOWHERE.false)))
