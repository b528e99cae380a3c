use Rattle.std.proofs.Common.{◌≡◌, ◌∙◌, ◌+◌, ◌<◌, ◌≤◌, ℕ, List, length, get_or, false, ap, sym, arith}
use Rattle.std.specs.List.{position_or_len}
use Rattle.std.proofs.lemmas.List.{get_or_past}
use Rattle.iscsi_tasks.proofs.Names.{common_steps, Member, is_ordered_in, IsPastNone}
use Rattle.iscsi_tasks.proofs.PlaceLemmas.{place_is, no_place}
use Rattle.iscsi_tasks.proofs.ChainLemmas.{not_end}
use Rattle.iscsi_tasks.proofs.MarkedLemmas.{within_some}
use Rattle.iscsi_tasks.proofs.linked_queue.next_ordered.Goals.{then-slot-eq-ENDS-via-then-slot-eq-ENDS, then-slot-eq-ENDS-via-else-slot-eq-ENDS+then-is_ordered}
use Rattle.iscsi_tasks.proofs.linked_queue.next_ordered.Goals as goal

-- where none is ORDERED up to the end
none_to_end : (slots : List ℕ) (list : List Member) (slot : ℕ) (past : IsPastNone slots list slot) → length slots ≡ length list → length list ≤ past.place → 0 ≡ get_or slots (position_or_len is_ordered_in list) 0
none_to_end slots list slot past long far = grind (arith, common_steps, no_place, get_or_past)

inside : (slots : List ℕ) (list : List Member) (slot : ℕ) (past : IsPastNone slots list slot) → (slot ≡ 0 → ⊥) → past.place < length slots
inside slots list slot past some = within_some slots past.place slot past.there some

pub returns-then-slot-eq-ENDS : goal.returns-then-slot-eq-ENDS
returns-then-slot-eq-ENDS c =
    let slots = c.args.chain.now.slots in let list = c.args.chain.now.members in
    let past = c.loop.invariant.past in
    let long : length slots ≡ length list = let a = c.len-end.ensures.len in let b = c.len-end.ensures.slots in omega (arith, a, b) in
    elim c.then-slot-eq-ENDS.branch [
      | then-slot-eq-ENDS-via-then-slot-eq-ENDS w ↦
          w.if-slot-eq-ENDS.true ∙ none_to_end slots list c.loop.slot past long (grind (arith, common_steps, not_end c.len-end.ensures.apart past.place, past.there, w.if-slot-eq-ENDS.true))
      | then-slot-eq-ENDS-via-else-slot-eq-ENDS+then-is_ordered w ↦
          let l = inside slots list c.loop.slot past w.if-slot-eq-ENDS.false in
          let d : Member = record { task = w.at.result.now.task; enabled = false; given = false } in
          let here = place_is is_ordered_in list past.place d (omega (arith, l, long)) (λ j b. past.none j d b)
          (sym (ap is_ordered_in (w.at.ensures past.place d l (sym past.there))) ∙ sym w.is_ordered.ensures ∙ w.if-is_ordered.true) in
          past.there ∙ ap (λ n. get_or slots n 0) (sym here)
    ]

pub loop-preserved : goal.loop-preserved
loop-preserved c =
    let slots = c.args.chain.now.slots in let list = c.args.chain.now.members in
    let past = c.loop.invariant.past in
    let l = inside slots list c.loop.slot past c.if-slot-eq-ENDS.false in
    let a = c.len-end.ensures.len in let b = c.len-end.ensures.slots in
    let far = c.loop.invariant.far in
    record {
      past = record {
        place = past.place + 1;
        within = omega (arith, l, a, b);
        there = c.after-slot.ensures past.place l (sym past.there);
        none = grind (arith, common_steps, past.none, c.at.ensures past.place, c.is_ordered.ensures);
      };
      far = omega (arith, far);
    }

pub returns : goal.returns
returns c =
    let past = c.loop.invariant.past in
    let a = c.len-end.ensures.len in let b = c.len-end.ensures.slots in
    let far = c.loop.invariant.far in let end = c.loop-test.false in
    none_to_end c.args.chain.now.slots c.args.chain.now.members c.loop.slot past (omega (arith, a, b)) (omega (arith, far, end, a))
