use Rattle.std.proofs.Common.{◌≤◌, true, refl, sym, subst}
use Rattle.iscsi_tasks.proofs.Names.{times, Node, Chained, order_in, enabled_now}
use Rattle.iscsi_tasks.proofs.ChainedLemmas.{chained_now, view_now}
use Rattle.iscsi_tasks.proofs.chain.Chain.enable.Goals as goal

abbrev written : Node → Node
written n = record { task = n.task; enabled = true; given = n.given; before = n.before; after = n.after }

there : (c : goal.After-self-1) → 1 ≤ times c.args.slot (order_in c.self.inside.nodes.items c.self.inside.len)
there c = subst (λ (v : Chained). 1 ≤ times c.args.slot v.slots) (sym c.self.view_is) c.requires

pub invariant_of-self : goal.invariant_of-self
invariant_of-self c = chained_now c.self.invariant c.args.slot c.from.result (there c) c.from.ensures c.index_mut.result.now c.index_mut.ensures.value written (λ n. refl) (λ n. refl)

pub returns : goal.returns
returns c k d l at = view_now c.self.invariant c.args.slot c.from.result (there c) c.from.ensures c.index_mut.result.now c.index_mut.ensures.value written (λ n. refl) (λ n. refl) enabled_now (λ n. refl) c.args.self.now c.self.view_is k d l at
