use Rattle.std.proofs.Common.{◌≡◌, ◌∙◌, ◌≤◌, not, ap, sym, subst, ne_eqb, arith}
use Rattle.std.proofs.lemmas.List.{get_or_default}
use Rattle.iscsi_tasks.proofs.Names.{times, Node, Chained, BLANK_NODE, before_of, order_in}
use Rattle.iscsi_tasks.proofs.ChainedLemmas.{slot_marked}
use Rattle.iscsi_tasks.proofs.chain.Chain.holds.Goals as goal

-- a slot that has a member isn't marked as free
pub returns-then-from-len-clause-no : goal.returns-then-from-len-clause-no
returns-then-from-len-clause-no c some =
    let nodes = c.self.inside.nodes.items in
    let there : 1 ≤ times c.args.slot (order_in nodes c.self.inside.len) = subst (λ (v : Chained). 1 ≤ times c.args.slot v.slots) (sym c.self.view_is) some in
    let marked = slot_marked c.self.invariant c.args.slot there in
    let at = c.from-then-from-len.ensures in
    let read : c.index.result.now.before ≡ before_of nodes c.args.slot =
    ap (λ (n : Node). n.before) (c.index.ensures ∙ get_or_default nodes c.from-then-from-len.result c.index.result.now BLANK_NODE (omega (arith, marked.0, at))) ∙ ap (before_of nodes) at in
    let low = marked.1 in
    ap not (ne_eqb c.index.result.now.before 65535 (λ e. omega (arith, e, read, low)))
