-- The marks of a linked set stay right.
use Rattle.std.proofs.Common.{◌≡◌, ◌≢◌, ℕ, ◌+◌, ◌-◌, ◌<◌, ◌≤◌, ◌==◌, ◌&&◌, not, nat_lt, lt-ltb, le-ltb, cond, max, min, Bool, true, false, List, [], ◌∷◌, ◌++◌, length, set, get_or, All, refl, ap, sym, subst, ◌∙◌, arith, ⊎_elim, eq-eqb, ne_eqb, eqb-true}
use Rattle.std.specs.List.{position_or_len, remove}
use Rattle.std.proofs.lemmas.Bool.{cases_Bool, cases_eq, cases_lt}
use Rattle.std.proofs.lemmas.List.{get_or_past, get_or_push, get_or_append_left, length_push, length-set}
use Rattle.std.proofs.lemmas.List.Edits.{length-remove, get_or-remove_below, get_or-remove_above}
use Rattle.iscsi_tasks.proofs.Names.{nat_tests, times, Attr, Member, Marks, is_head_of, is_ordered_of, is_new, Counts, IsCounted, is_head_in, is_ordered_in}
use Rattle.iscsi_tasks.proofs.Names.{plus_one_if, shifted_by, without_one, given_now, AreApart, IsMarked, IsPastNone, IsSpan, moved_off, pushed_by, enabled_by}
use Rattle.iscsi_tasks.proofs.Names.{is_none_marked}
use Rattle.iscsi_slots.proofs.SlotLemmas.{times_at, times_remove}
use Rattle.iscsi_tasks.specs.Marked.{left_by}
use Rattle.iscsi_tasks.proofs.ChainLemmas.{not_end, same_to_end}
use Rattle.iscsi_tasks.proofs.CountLemmas.{first-le, counted_push, with_last, with_enabled, shifted_cases, ordered_shifted, one_less, counted_remove, enabled_up_to, parts-length, counted_enabled, counted_none, counted_given}

pub some_at : (slots : List ℕ) (k slot : ℕ) → k < length slots → get_or slots k 0 ≡ slot → 1 ≤ times slot slots
some_at slots k slot l at = subst (λ s. 1 ≤ times s slots) at (times_at slots k l)

-- where a slot that is no end stands, there is a place
pub within_some : (slots : List ℕ) (k slot : ℕ) → slot ≡ get_or slots k 0 → slot ≢ 0 → k < length slots
within_some slots k slot at some = ⊎_elim (λ below. below) (λ past. absurd (some (at ∙ get_or_past slots k 0 past))) (cases_lt k (length slots))

-- ---- a command enters

module _ (slots : List ℕ) (s : ℕ) (apart : AreApart slots) where
  at_old : (p : ℕ) → p < length slots → get_or (slots ++ s ∷ []) p 0 ≡ get_or slots p 0
  at_old p l = get_or_append_left slots (s ∷ []) 0 p l

  at_end : (p : ℕ) → length slots < p → get_or (slots ++ s ∷ []) p 0 ≡ 0
  at_end p l = let long = length_push slots s in get_or_past (slots ++ s ∷ []) p 0 (omega (arith, l, long))

  -- a mark that is the end moves to the new slot where it should
  mark_push : (at mark : ℕ) (b : Bool) → at ≤ length slots → mark ≡ get_or slots at 0 → cond (mark == 0 && b) s mark ≡ get_or (slots ++ s ∷ []) (plus_one_if (at == length slots && not b) at) 0
  mark_push at mark b within is = ⊎_elim
      (λ below.
      let some : (mark == 0) ≡ false = ne_eqb mark 0 (λ e. not_end apart at below (sym is ∙ e)) in
      let before : (at == length slots) ≡ false = ne_eqb at (length slots) (λ e. omega (arith, e, below)) in
      ap (λ t. cond (t && b) s mark) some ∙ is ∙ sym (ap (λ t. get_or (slots ++ s ∷ []) (plus_one_if (t && not b) at) 0) before ∙ at_old at below))
      (λ past.
      let end : at ≡ length slots = omega (arith, past, within) in
      let none : mark ≡ 0 = is ∙ get_or_past slots at 0 past in
      ap (λ t. cond (t && b) s mark) (eq-eqb mark 0 none) ∙ last at mark b end none
      ∙ sym (ap (λ t. get_or (slots ++ s ∷ []) (plus_one_if (t && not b) at) 0) (eq-eqb at (length slots) end)))
      (cases_lt at (length slots))
    where
      last : (at mark : ℕ) (b : Bool) → at ≡ length slots → mark ≡ 0 → cond (true && b) s mark ≡ get_or (slots ++ s ∷ []) (plus_one_if (true && not b) at) 0
      last at mark b end none = grind (arith, nat_tests, get_or_push, at_end)

  -- a place, where those at the end or behind it stay behind all
  abbrev bumped : ℕ → ℕ
  bumped p = cond (nat_lt p (length slots)) p (length slots + 1)

  -- a mark that is the end moves to the new slot
  mark_new : (p mark : ℕ) → mark ≡ get_or slots p 0 → cond (mark == 0) s mark ≡ get_or (slots ++ s ∷ []) (min p (length slots)) 0
  mark_new p mark is = grind (arith, nat_tests, ne_eqb, not_end, at_old, eq-eqb, get_or_past, get_or_push)

  mark_stays : (p mark : ℕ) → mark ≡ get_or slots p 0 → mark ≡ get_or (slots ++ s ∷ []) (bumped p) 0
  mark_stays p mark is = grind (arith, nat_tests, lt-ltb, le-ltb, at_old, get_or_past, at_end)

-- the marks are right by these counts
abbrev AreMarks : Marks → Counts → List ℕ → List Member → Type 0
AreMarks m c slots list = (m.heads ≡ c.heads) × (m.ordered ≡ get_or slots c.ordered_at 0) × (m.dormant ≡ get_or slots c.enabled_to 0) × (m.new_from ≡ get_or slots c.new_from 0)
    × (m.new_to ≡ get_or slots c.new_to 0) × AreApart slots × (length slots ≡ length list)

marked_by : {m : Marks} {slots : List ℕ} {list : List Member} (c : Counts) → IsCounted c list → AreMarks m c slots list → IsMarked m slots list
marked_by c counted are = record { counts = c; counted = counted; heads = are.0; ordered = are.1; dormant = are.2; new_from = are.3; new_to = are.4; apart = are.5; long = are.6 }

module _ {m : Marks} {slots : List ℕ} {list : List Member} (marked : IsMarked m slots list) (one : Member) (s : ℕ) (apart : AreApart (slots ++ s ∷ [])) (newest : All (λ x. x.task.ticket < one.task.ticket) list) (head : is_head_in one ≡ true → one.enabled ≡ true) where
  -- with what is new between these places
  pushed : (from to : ℕ) → IsCounted (with_last marked.counts (length list) one from to) (list ++ one ∷ []) → (pushed_by m one.task.attr one.enabled one.given s).new_from ≡ get_or (slots ++ s ∷ []) from 0
      → (pushed_by m one.task.attr one.enabled one.given s).new_to ≡ get_or (slots ++ s ∷ []) to 0 → IsMarked (pushed_by m one.task.attr one.enabled one.given s) (slots ++ s ∷ []) (list ++ one ∷ [])
  pushed from to counted from_is to_is =
      let le = first-le is_ordered_in list in
      let ordered = mark_push slots s marked.apart marked.counts.ordered_at m.ordered (is_ordered_of one.task.attr) (omega (arith, le, marked.counted.ordered_at, marked.long)) marked.ordered in
      let dormant = mark_push slots s marked.apart marked.counts.enabled_to m.dormant (not one.enabled) (omega (arith, marked.counted.enabled_to, marked.long)) marked.dormant in
      marked_by (with_last marked.counts (length list) one from to) counted (grind (arith, nat_tests, length_push))

  pushed_new : is_new one ≡ true → IsMarked (pushed_by m one.task.attr one.enabled one.given s) (slots ++ s ∷ []) (list ++ one ∷ [])
  pushed_new new =
      pushed (min marked.counts.new_from (length slots)) (length list + 1)
      (counted_push marked.counts list marked.counted one newest head (min marked.counts.new_from (length slots)) (length list + 1) (omega arith) (grind arith) (grind arith))
      (grind (arith, nat_tests, mark_new)) (grind (arith, nat_tests, at_end slots s marked.apart))

  pushed_old : is_new one ≡ false → IsMarked (pushed_by m one.task.attr one.enabled one.given s) (slots ++ s ∷ []) (list ++ one ∷ [])
  pushed_old old =
      let from : ℕ = bumped slots s marked.apart marked.counts.new_from in let to : ℕ = bumped slots s marked.apart marked.counts.new_to in
      pushed from to
      (counted_push marked.counts list marked.counted one newest head from to (grind (arith, nat_tests)) (grind (arith, nat_tests)) (grind arith))
      (grind (arith, nat_tests, mark_stays)) (grind (arith, nat_tests, mark_stays))

  pub marked_push : IsMarked (pushed_by m one.task.attr one.enabled one.given s) (slots ++ s ∷ []) (list ++ one ∷ [])
  marked_push = ⊎_elim pushed_new pushed_old (cases_Bool (is_new one))

-- ---- a command leaves

module _ (slots : List ℕ) (apart : AreApart slots) (p : ℕ) (l : p < length slots) (slot next : ℕ) (slot_is : get_or slots p 0 ≡ slot) (next_is : next ≡ get_or slots (p + 1) 0) where
  pub apart_left : AreApart (remove slots p)
  apart_left = grind (arith, nat_tests, times_remove)

  pub mark_left : (at mark : ℕ) → mark ≡ get_or slots at 0 → moved_off mark slot next ≡ get_or (remove slots p) (shifted_by p at) 0
  mark_left at mark is = ⊎_elim
      (λ case. ap (λ b. cond b next mark) (ne_eqb mark slot (other at mark is (λ e. omega (arith, e, case.0)))) ∙ is
      ∙ sym (ap (λ n. get_or (remove slots p) n 0) case.1 ∙ get_or-remove_above slots p 0 (at - 1) (omega (arith, case.0)) l ∙ ap (λ n. get_or slots n 0) (let e : at - 1 + 1 ≡ at = omega (arith, case.0) in e)))
      (λ case. ⊎_elim
      (λ (here : at ≡ p). ap (λ b. cond b next mark) (eq-eqb mark slot (is ∙ ap (λ n. get_or slots n 0) here ∙ slot_is)) ∙ next_is
      ∙ sym (ap (λ n. get_or (remove slots p) n 0) (case.1 ∙ here) ∙ get_or-remove_above slots p 0 p (omega arith) l))
      (λ apart_from. ap (λ b. cond b next mark) (ne_eqb mark slot (other at mark is apart_from)) ∙ is
      ∙ sym (ap (λ n. get_or (remove slots p) n 0) case.1 ∙ get_or-remove_below slots p 0 at (omega (arith, case.0, apart_from)) l))
      (cases_eq at p))
      (shifted_cases p at)
    where
      -- a mark of another place is another slot
      other : (at mark : ℕ) → mark ≡ get_or slots at 0 → at ≢ p → mark ≢ slot
      other at mark is apart_from same = grind (arith, nat_tests, same_to_end, not_end, get_or_past)

module _ {m : Marks} {slots : List ℕ} {list : List Member} (marked : IsMarked m slots list) (p : ℕ) (l : p < length slots) (slot next : ℕ) (slot_is : get_or slots p 0 ≡ slot) (next_is : next ≡ get_or slots (p + 1) 0) where
  in_list : p < length list
  in_list = let a = marked.long in omega (arith, a, l)

  -- no ORDERED command is before the mark that is left
  pub past_none : IsPastNone (remove slots p) (remove list p) (moved_off m.ordered slot next)
  past_none =
      let shifted = ordered_shifted list p in_list marked.counts.ordered_at marked.counted.ordered_at in
      record {
        place = shifted_by p marked.counts.ordered_at;
        within = shifted.0;
        there = mark_left slots marked.apart p l slot next slot_is next_is marked.counts.ordered_at m.ordered marked.ordered;
        none = shifted.1;
      }

  pub one_head : (d : Member) (attr : Attr) → attr ≡ (get_or list p d).task.attr → is_head_of attr ≡ true → 0 < m.heads
  one_head d attr is head = let some = (one_less list p in_list marked.counts d attr marked.counted.heads is).0 head in let same = marked.heads in omega (arith, some, same)

  pub marked_left : (d : Member) (attr : Attr) (ordered : ℕ) → attr ≡ (get_or list p d).task.attr → ordered ≡ get_or (remove slots p) (position_or_len is_ordered_in (remove list p)) 0 → IsMarked (left_by m slot next attr ordered) (remove slots p) (remove list p)
  marked_left d attr ordered is first =
      marked_by (without_one marked.counts p attr (position_or_len is_ordered_in (remove list p)))
      (counted_remove list p in_list marked.counts d attr (position_or_len is_ordered_in (remove list p)) marked.counted is refl)
      (grind (arith, nat_tests, mark_left slots marked.apart p l slot next slot_is next_is, apart_left slots marked.apart p l slot next slot_is next_is, length-remove))

-- ---- commands are enabled, and tickets are given

-- a mark is the end, or a command before it
pub span_to_end : (slots : List ℕ) (p mark : ℕ) → mark ≡ get_or slots p 0 → IsSpan slots mark 0
span_to_end slots p mark is = grind (arith, nat_tests, get_or_past, get_or_past slots (length slots) 0 (omega arith))

module _ {m : Marks} {slots : List ℕ} {list : List Member} (marked : IsMarked m slots list) where
  pub none_marked : is_none_marked m ≡ true → All (λ x. is_new x ≡ false) list
  none_marked none k d l = grind (arith, nat_tests, same_to_end, eqb-true)

  pub marked_enabled_first : is_none_marked m ≡ true → (to end : ℕ) → marked.counts.enabled_to < to → to ≤ length list → end ≡ get_or slots to 0 → IsMarked (enabled_by m end m.dormant end) slots (enabled_up_to to list)
  marked_enabled_first none to end more within end_is =
      marked_by (with_enabled marked.counts to marked.counts.enabled_to to)
      (counted_enabled marked.counts list to marked.counted more within marked.counts.enabled_to to (omega arith) (omega arith) within (grind (arith, none_marked none)))
      (grind (arith, parts-length))

  pub marked_enabled_more : is_none_marked m ≡ false → (to end from upto : ℕ) → marked.counts.enabled_to < to → to ≤ length list → end ≡ get_or slots to 0
      → from ≡ get_or slots (min marked.counts.enabled_to marked.counts.new_from) 0 → upto ≡ get_or slots (max marked.counts.new_to to) 0
      → IsMarked (enabled_by m end from upto) slots (enabled_up_to to list)
  marked_enabled_more some to end from upto more within end_is from_is upto_is =
      let c : Counts = marked.counts in
      marked_by (with_enabled c to (min c.enabled_to c.new_from) (max c.new_to to))
      (counted_enabled c list to marked.counted more within (min c.enabled_to c.new_from) (max c.new_to to) (omega arith) (omega arith) (omega (arith, within, marked.counted.new_to)) (grind arith))
      (grind (arith, parts-length))

  pub marked_none : All (λ x. is_new x ≡ false) list → IsMarked (record m { new_from = m.new_to }) slots list
  marked_none none = marked_by (record marked.counts { new_from = marked.counts.new_to }) (counted_none marked.counts list marked.counted none) (grind arith)

  pub marked_given : (p next : ℕ) (one : Member) → p < length list → ((d : Member) → get_or list p d ≡ one) → ((k : ℕ) (d : Member) → k < p → is_new (get_or list k d) ≡ false) → next ≡ get_or slots (p + 1) 0 → IsMarked (record m { new_from = next }) slots (set list p (given_now one))
  marked_given p next one l here before next_is = marked_by (record marked.counts { new_from = p + 1 }) (counted_given marked.counts list p one marked.counted l here before) (grind (arith, length-set))
