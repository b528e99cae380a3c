use Rattle.std.proofs.Common.{◌≡◌, ◌∙◌, ◌+◌, ◌<◌, ◌≤◌, ℕ, List, length, get_or, position, None, false, ap, sym, arith, ⊎_elim}
use Rattle.std.proofs.lemmas.Bool.{cases_lt}
use Rattle.iscsi_tasks.proofs.Names.{nat_tests, common_steps, Member, Marks, is_new, IsMarked}
use Rattle.iscsi_tasks.proofs.PlaceLemmas.{place_is, no_place, position_of, position_none}
use Rattle.iscsi_tasks.proofs.ChainLemmas.{not_end, same_to_end}
use Rattle.iscsi_tasks.proofs.MarkedLemmas.{within_some}
use Rattle.iscsi_tasks.proofs.linked_queue.first_new.Goals as goal

-- none is new before a place, and the place is the end of those that may be
none_there : (m : Marks) (slots : List ℕ) (list : List Member) → IsMarked m slots list → (place slot : ℕ) → slot ≡ get_or slots place 0 → slot ≡ m.new_to
    → ((k : ℕ) (d : Member) → k < place → k < length list → is_new (get_or list k d) ≡ false) → position is_new list ≡ None
none_there m slots list marked place slot there end none =
    let same = same_to_end marked.apart place marked.counts.new_to in
    sym (position_none is_new list (no_place is_new list (grind (arith, nat_tests, same))))

-- none is new before a place that is behind all
none_past : (list : List Member) (place : ℕ) → length list ≤ place → ((k : ℕ) (d : Member) → k < place → k < length list → is_new (get_or list k d) ≡ false) → position is_new list ≡ None
none_past list place past none = sym (position_none is_new list (no_place is_new list (λ k d l. none k d (omega (arith, l, past)) l)))

pub returns-then-slot-marks : goal.returns-then-slot-marks
returns-then-slot-marks c =
    let inv = c.loop.invariant in
    let slots = c.args.chain.now.slots in let list = c.args.chain.now.members in
    ⊎_elim
    (λ end. none_there c.args.marks.now slots list c.requires inv.place c.loop.slot inv.there end inv.none)
    (λ over. none_past list inv.place (grind (arith, nat_tests, not_end c.requires.apart inv.place)) inv.none)
    c.then-slot-marks.either

pub returns-then-is_new : goal.returns-then-is_new
returns-then-is_new c =
    let inv = c.loop.invariant in
    let list = c.args.chain.now.members in
    let l = within_some c.args.chain.now.slots inv.place c.loop.slot inv.there c.if-slot-eq-ENDS.false in
    let long = c.requires.long in
    let inside : inv.place < length list = omega (arith, l, long) in
    let d : Member = record { task = c.at.result.now.task; enabled = false; given = false } in
    record {
      place = inv.place;
      inside = inside;
      there = sym inv.there;
      first = sym (position_of is_new list inv.place
          (place_is is_new list inv.place d inside (λ j b. inv.none j d b (omega (arith, b, inside)))
          (sym (ap is_new (c.at.ensures inv.place d l (sym inv.there))) ∙ sym c.is_new.ensures ∙ c.if-is_new.true))
          inside);
    }

pub loop-preserved : goal.loop-preserved
loop-preserved c =
    let inv = c.loop.invariant in
    let list = c.args.chain.now.members in
    let l = within_some c.args.chain.now.slots inv.place c.loop.slot inv.there c.if-slot-eq-ENDS.false in
    let far = inv.far in
    record {
      place = inv.place + 1;
      there = c.after-slot.ensures inv.place l (sym inv.there);
      far = omega (arith, far);
      none = λ k d below k_in. ⊎_elim
          (λ before. inv.none k d before k_in)
          (λ above. let here : k ≡ inv.place = omega (arith, below, above) in
          ap (λ n. is_new (get_or list n d)) here ∙ sym (ap is_new (c.at.ensures inv.place d l (sym inv.there))) ∙ sym c.is_new.ensures ∙ c.if-is_new.false)
          (cases_lt k inv.place);
    }

pub returns : goal.returns
returns c = grind (arith, common_steps, none_past)
