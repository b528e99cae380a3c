use Rattle.std.proofs.Common.{◌∙◌, ℕ, false, List, get_or, ap, arith}
use Rattle.iscsi_connections.specs.declared.connections.Connection.{Connection}
use Rattle.iscsi_connections.proofs.PlaceLemmas.{told_place, told_nowhere}
use Rattle.iscsi_connections.proofs.connections.Connections.place_of.Goals as goal

nobody : Connection
nobody = record { cid = 0; stat_sn = 0; is_open = false; immediate = 0 }

pub returns-then-place-lt-NOWHERE : goal.returns-then-place-lt-NOWHERE
returns-then-place-lt-NOWHERE c =
    let is = c.told-place.ensures ∙ ap (λ (ps : List ℕ). get_or ps c.args.cid 255) c.deref.ensures.value in
    rw (c.from.ensures, is, ← c.self.view_is) (told_place _ _ c.self.invariant c.args.cid nobody (omega (arith, is, c.if-place-lt-NOWHERE.true)))

pub returns-else-place-lt-NOWHERE : goal.returns-else-place-lt-NOWHERE
returns-else-place-lt-NOWHERE c =
    let is = c.told-place.ensures ∙ ap (λ (ps : List ℕ). get_or ps c.args.cid 255) c.deref.ensures.value in
    rw (← c.self.view_is) (told_nowhere _ _ c.self.invariant c.args.cid (omega (arith, is, c.if-place-lt-NOWHERE.false)))
