use Rattle.std.proofs.Common.{◌≡◌, ◌∙◌, ◌<◌, Some, ℕ, List, length, get_or, ap, sym, arith}
use Rattle.std.specs.List.{remove}
use Rattle.iscsi_tasks.proofs.Names.{common_steps, Members, left_by, StandsFor, BLANK, Linked, linked, IsPlaced}
use Rattle.iscsi_slots.specs.Queued.{Queued}
use Rattle.iscsi_tasks.proofs.MarkedLemmas.{some_at}
use Rattle.iscsi_tasks.proofs.set.TaskSet.take_out.Goals as goal

-- the slot at a place
within : {l : Linked} {order : List ℕ} {order_room left_room : ℕ} (s : Members) (at : ℕ) → IsPlaced l order order_room left_room → l.shown ≡ s → at < length s.list → at < length l.slots
within {l} s at placed same inside = grind (arith, common_steps)

there : {l : Linked} {order : List ℕ} {order_room left_room : ℕ} (at slot : ℕ) → IsPlaced l order order_room left_room → slot ≡ get_or order at 0 → get_or l.slots at 0 ≡ slot
there at slot placed is = sym (is ∙ ap (λ o. get_or o at 0) placed.same)

pub let_go-requires : goal.let_go-requires
let_go-requires c = grind (arith, common_steps, some_at, within, there)

left : (c : goal.After-let_go) → c.let_go.new.self ≡ linked (left_by c.self.inside.tasks.shown (Some c.let_go.result)) (remove c.self.inside.tasks.slots c.args.at)
left c = (c.let_go.ensures.state c.args.at BLANK (within c.args.self.now c.args.at c.self.invariant c.self.view_is c.requires) (there c.args.at c.at-slot.result c.self.invariant c.at-slot.ensures)).1

pub invariant_of-self : goal.invariant_of-self
invariant_of-self c =
    let depth = ap (λ (l : Linked). l.shown.depth) (left c) in
    let room = ap (λ (q : Queued ℕ). q.room) c.remove.ensures in
    let for_order = c.self.invariant.for_order in
    let for_left = c.self.invariant.for_left in
    record {
      in_slots = c.let_go.ensures.sound;
      same = ap (λ (q : Queued ℕ). q.items) c.remove.ensures ∙ ap (λ o. remove o c.args.at) c.self.invariant.same ∙ sym (ap (λ (l : Linked). l.slots) (left c));
      for_order = omega (arith, depth, room, for_order);
      for_left = omega (arith, depth, for_left);
    }

pub returns : goal.returns
returns c = grind (arith, common_steps, left, left_by, StandsFor)
