use Rattle.std.proofs.Common.{◌≡◌, ◌+◌, length, subst}
use Rattle.iscsi_scopes.specs.Scopes.{AreKeysAscending, Scoped}
use Rattle.iscsi_scopes.proofs.KeyLemmas.{ascend}
use Rattle.iscsi_scopes.proofs.FacetLemmas.{shown_ascending}
use Rattle.iscsi_scopes.proofs.scopes.Scopes.known.Goals as goal

pub returns-clause-ascending : goal.returns-clause-ascending
returns-clause-ascending c =
    let i = c.self.inside in
    subst (λ (s : Scoped). AreKeysAscending s.lines) c.self.view_is (shown_ascending i.lines i.keys.tags (ascend i.keys.tags c.known.ensures.ascending))

pub returns-clause-items : goal.returns-clause-items
returns-clause-items c = subst (λ (s : Scoped). length s.items ≡ s.room + 1) c.self.view_is c.known-2.ensures.lines.values
