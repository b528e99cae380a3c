use Rattle.std.proofs.Common.{◌≡◌, ◌∙◌, ◌<◌, ◌+◌, ◌++◌, ◌∷◌, [], ℕ, List, length, map, get_or, ap, sym, subst, arith}
use Rattle.std.proofs.lemmas.List.{get_or_default}
use Rattle.iscsi_tasks.proofs.Names.{common_steps, Member, Node, Chained, chained, BLANK_NODE, before_of, member_at, order_in, IsChained}
use Rattle.iscsi_tasks.proofs.ChainedLemmas.{few, long, free_inside, slot_fresh, slot_new, last_fresh, last_other, entered_in, chained_with, members_with, order_with, apart}
use Rattle.iscsi_tasks.proofs.chain.Chain.push.Goals as goal

-- the last slot, as it was read
last_is : {nodes : List Node} {capacity free len room : ℕ} → IsChained nodes capacity free len room → (i : ℕ) (n : Node) → i ≡ 0 → n ≡ get_or nodes i n → n.before ≡ before_of nodes 0
last_is {nodes} is i n at read = let some = few is in ap (λ (x : Node). x.before) (read ∙ get_or_default nodes i n BLANK_NODE (omega (arith, some, at))) ∙ ap (before_of nodes) at

few_yet : {nodes : List Node} {capacity free len room : ℕ} → IsChained nodes capacity free len room → (v : Chained) → chained (order_in nodes len) (map (member_at nodes) (order_in nodes len)) room ≡ v → length v.slots < v.room → len < room
few_yet is v view l = let a = long is in let b = ap (λ (w : Chained). length w.slots) view in let r = ap (λ (w : Chained). w.room) view in omega (arith, a, b, r, l)

pub take-slot-requires : goal.take-slot-requires
take-slot-requires c = grind (arith, common_steps, free_inside c.self.invariant, few c.self.invariant)

pub link_last-requires : goal.link_last-requires
link_last-requires c =
    let yet = few_yet c.self.invariant c.args.self.now c.self.view_is c.requires in
    let taken = c.take-slot.ensures.taken in
    let last = last_is c.self.invariant c.from.result c.index.result.now c.from.ensures c.index.ensures in
    grind (arith, common_steps, last, last_fresh c.self.invariant yet taken, slot_fresh c.self.invariant yet taken, last_other c.self.invariant yet taken, slot_new c.self.invariant yet taken)

-- the nodes, once the member entered
nodes_are : (c : goal.After-self-1) → c.link_last.new.nodes.items ≡ entered_in c.self.inside.nodes.items c.take-slot.new.nodes.items c.take-slot.result
nodes_are c = grind (arith, common_steps, last_is)

pub invariant_of-self : goal.invariant_of-self
invariant_of-self c =
    let yet = few_yet c.self.invariant c.args.self.now c.self.view_is c.requires in
    let i = c.self.inside in
    subst (λ ns. IsChained ns c.link_last.new.nodes.cap c.take-slot.new.free (i.len + 1) i.room) (sym (nodes_are c))
    (subst (λ n. IsChained (entered_in i.nodes.items c.take-slot.new.nodes.items c.take-slot.result) n c.take-slot.new.free (i.len + 1) i.room) (sym (c.link_last.ensures.capacity ∙ c.take-slot.ensures.capacity))
    (chained_with c.self.invariant yet c.take-slot.ensures.taken))

pub returns-clause-state : goal.returns-clause-state
returns-clause-state c =
    let yet = few_yet c.self.invariant c.args.self.now c.self.view_is c.requires in
    let i = c.self.inside in
    let taken = c.take-slot.ensures.taken in
    let m : Member = record { task = c.args.task; enabled = c.args.enabled; given = c.args.given } in
    ap (λ ns. chained (order_in ns (i.len + 1)) (map (member_at ns) (order_in ns (i.len + 1))) i.room) (nodes_are c)
    ∙ ap (λ o. chained o (map (member_at (entered_in i.nodes.items c.take-slot.new.nodes.items c.take-slot.result)) (order_in (entered_in i.nodes.items c.take-slot.new.nodes.items c.take-slot.result) (i.len + 1))) i.room) (order_with c.self.invariant yet taken)
    ∙ ap (λ ms. chained (order_in i.nodes.items i.len ++ c.take-slot.result ∷ []) ms i.room) (members_with c.self.invariant yet taken)
    ∙ ap (λ (v : Chained). chained (v.slots ++ c.take-slot.result ∷ []) (v.members ++ m ∷ []) v.room) c.self.view_is

pub returns-clause-apart : goal.returns-clause-apart
returns-clause-apart c = apart (invariant_of-self c)
