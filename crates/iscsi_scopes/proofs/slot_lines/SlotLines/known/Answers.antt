use Rattle.std.proofs.Common.{◌+◌, ◌≤◌, subst, arith}
use Rattle.iscsi_lines.specs.Lines.{Lined}
use Rattle.iscsi_scopes.specs.SlotLines.{AreInLines}
use Rattle.iscsi_scopes.proofs.ScopeLemmas.{in_lines}
use Rattle.iscsi_scopes.proofs.slot_lines.SlotLines.known.Goals as goal

pub returns-clause-lines : goal.returns-clause-lines
returns-clause-lines c = subst AreInLines c.self.view_is (in_lines c.self.inside.conns.items c.self.inside.lists c.self.invariant c.known.ensures.apart c.known.ensures.values)

pub returns-clause-short : goal.returns-clause-short
returns-clause-short c =
    subst (λ (v : Lined). v.slots.room + v.count + v.count + 3 ≤ 4294967295) c.self.view_is
    (let a = c.known.ensures.short in let b = c.self.invariant.lists in omega (arith, a, b))
