use Rattle.std.proofs.Common.{◌≡◌, ◌∙◌, ◌<◌, ◌≤◌, ◌-◌, ℕ, List, length, map, get_or, set, ap, sym, subst, arith}
use Rattle.std.specs.List.{remove}
use Rattle.std.proofs.lemmas.List.{get_or_default}
use Rattle.iscsi_tasks.proofs.Names.{common_steps, times, Node, Chained, chained, BLANK_NODE, node_at, after_of, before_of, member_at, order_in, linked_to}
use Rattle.iscsi_tasks.proofs.Names.{freed_before, IsChained}
use Rattle.iscsi_slots.proofs.SlotLemmas.{StandsAt, stands}
use Rattle.iscsi_tasks.proofs.ChainLemmas.{inside_order}
use Rattle.iscsi_tasks.proofs.ChainedLemmas.{before_in, after_in, order_without, chained_without, members_without}
use Rattle.iscsi_tasks.proofs.chain.Chain.remove.Goals as goal

-- the node of the slot, as it was read, and where the slot stands
record Read (nodes : List Node) (len slot : ℕ) (n : Node) : Type 0 where
  at : StandsAt slot (order_in nodes len)
  node : n ≡ node_at nodes slot

read_is : {nodes : List Node} {capacity free len room : ℕ} → IsChained nodes capacity free len room → (v : Chained) → chained (order_in nodes len) (map (member_at nodes) (order_in nodes len)) room ≡ v → (slot i : ℕ) → 1 ≤ times slot v.slots → i ≡ slot → (n : Node) → n ≡ get_or nodes i n → Read nodes len slot n
read_is {nodes} {len = len} is v view slot i some at n read =
    let there : 1 ≤ times slot (order_in nodes len) = subst (λ (w : Chained). 1 ≤ times slot w.slots) (sym view) some in
    let low = inside_order is.shared slot there in
    record {
      at = stands slot (order_in nodes len) there;
      node = read ∙ get_or_default nodes i n BLANK_NODE (omega (arith, low, at)) ∙ ap (node_at nodes) at;
    }

read : (c : goal.After-link-arg-1) → Read c.self.inside.nodes.items c.self.inside.len c.args.slot c.index.result.now
read c = read_is c.self.invariant c.args.self.now c.self.view_is c.args.slot c.from.result c.requires c.from.ensures c.index.result.now c.index.ensures

pub link-requires : goal.link-requires
link-requires c =
    let r = read c in
    let a = before_in c.self.invariant r.at.place r.at.inside in let b = after_in c.self.invariant r.at.place r.at.inside in
    grind (arith, common_steps, r.node, r.at.there, a, b)

-- the nodes without the slot
abbrev without : List Node → ℕ → ℕ → List Node
without nodes free slot = let closed = linked_to nodes (before_of nodes slot) (after_of nodes slot) in set closed slot (freed_before free (node_at closed slot))

left : (c : goal.After-self-2-1) → Read c.self.inside.nodes.items c.self.inside.len c.args.slot c.index.result.now
left c = read_is c.self.invariant c.args.self.now c.self.view_is c.args.slot c.from.result c.requires c.from.ensures c.index.result.now c.index.ensures

nodes_are : (c : goal.After-self-2-1) → c.give_back.new.nodes.items ≡ without c.self.inside.nodes.items c.self.inside.free c.args.slot
nodes_are c = grind (arith, common_steps, left)

pub invariant_of-self : goal.invariant_of-self
invariant_of-self c =
    let r = left c in
    grind (arith, common_steps, nodes_are c, r.at.there, chained_without c.self.invariant r.at.place r.at.inside)

view_without : {nodes : List Node} {capacity free len room : ℕ} → IsChained nodes capacity free len room → (v : Chained) → chained (order_in nodes len) (map (member_at nodes) (order_in nodes len)) room ≡ v → (p slot : ℕ) → p < length (order_in nodes len) → get_or (order_in nodes len) p 0 ≡ slot
    → chained (order_in (without nodes free slot) (len - 1)) (map (member_at (without nodes free slot)) (order_in (without nodes free slot) (len - 1))) room ≡ chained (remove v.slots p) (remove v.members p) v.room
view_without {nodes} {free = free} {len = len} {room = room} is v view p slot l at =
    subst (λ s. chained (order_in (without nodes free s) (len - 1)) (map (member_at (without nodes free s)) (order_in (without nodes free s) (len - 1))) room ≡ chained (remove v.slots p) (remove v.members p) v.room) at
    (let s : ℕ = get_or (order_in nodes len) p 0 in
    ap (λ o. chained o (map (member_at (without nodes free s)) (order_in (without nodes free s) (len - 1))) room) (order_without is p l)
    ∙ ap (λ ms. chained (remove (order_in nodes len) p) ms room) (members_without is p l)
    ∙ ap (λ (w : Chained). chained (remove w.slots p) (remove w.members p) w.room) view)

pub returns : goal.returns
returns c k l at =
    let i = c.self.inside in
    let k_in : k < length (order_in i.nodes.items i.len) = subst (λ (v : Chained). k < length v.slots) (sym c.self.view_is) l in
    ap (λ ns. chained (order_in ns (i.len - 1)) (map (member_at ns) (order_in ns (i.len - 1))) i.room) (nodes_are c)
    ∙ view_without c.self.invariant c.args.self.now c.self.view_is k c.args.slot k_in (ap (λ (v : Chained). get_or v.slots k 0) c.self.view_is ∙ at)
