-- A chain stays one as a member enters, as one leaves, and as one is written.
use Rattle.std.proofs.Common.{◌≡◌, ◌≢◌, ℕ, suc, ◌+◌, ◌-◌, ◌<◌, ◌≤◌, List, [], ◌∷◌, ◌++◌, length, map, get_or, set, refl, ap, sym, subst, ◌∙◌, arith, ⊎_elim}
use Rattle.std.specs.List.{remove}
use Rattle.iscsi_tasks.proofs.Names.{nat_tests, times, AreShared, Member, Node, AreApart, Chained, chained, BLANK_NODE, node_at, after_of, before_of, member_of}
use Rattle.iscsi_tasks.proofs.Names.{member_at, order_from, order_in, free_in, linked_to, freed_before, IsLinked, IsChained, IsReused, IsAdded, IsTaken}
use Rattle.std.proofs.lemmas.List.{get_or-set_same, get_or-set_other, get_or_past, get_or_push, get_or_append_left, get_or-map, get_or_default, same_lists, length-set, length_push, length-map, map-append}
use Rattle.std.proofs.lemmas.List.Edits.{length-remove, get_or-remove_below, get_or-remove_above}
use Rattle.iscsi_slots.proofs.SlotLemmas.{times_at, times_remove, times_append, map-remove, stands}
use Rattle.iscsi_slots.proofs.ShareLemmas.{at_most_once, none_beyond}
use Rattle.iscsi_tasks.proofs.ChainLemmas.{kept_by_set, length_linked, after_here, after_else, before_here, before_else, member_linked, order_is, order_same, length_order, members_same, same_place, same_to_end, not_end, apart_in, inside, inside_order}

module _ {nodes : List Node} {capacity free len room : ℕ} (chained : IsChained nodes capacity free len room) where
  abbrev pub slots : List ℕ
  slots = order_in nodes len

  abbrev frees : List ℕ
  frees = free_in nodes free len

  pub long : length slots ≡ len
  long = length_order nodes (after_of nodes 0) len

  pub few : len + 1 ≤ length nodes
  few = let all = chained.shared.all in let a = long in omega (arith, all, a)

  pub within : length nodes ≤ room + 1
  within = chained.shared.most

  pub apart : AreApart slots
  apart = apart_in chained.shared

  once_in_ring : (s : ℕ) → times s (0 ∷ slots) ≤ 1
  once_in_ring s = let one = at_most_once chained.shared s in omega (arith, one)

  -- a place of the ring and the end of the order have slots of the ring
  in_ring : (k : ℕ) → k ≤ len → 1 ≤ times (get_or slots k 0) (0 ∷ slots)
  in_ring k l = grind (arith, nat_tests, times_at, get_or_past)

  pub last_inside : before_of nodes 0 < length nodes
  last_inside = grind (arith, nat_tests, get_or_past, long, inside, times_at)

  pub free_inside : len + 1 < length nodes → free < length nodes
  free_inside some = grind (arith, nat_tests, none_beyond, times_at)

  -- ---- a member leaves

  module _ (p : ℕ) (l : p < length slots) where
    abbrev slot : ℕ
    slot = get_or slots p 0

    abbrev before : ℕ
    before = before_of nodes slot

    abbrev after : ℕ
    after = after_of nodes slot

    before_is : before ≡ get_or (0 ∷ slots) p 0
    before_is = chained.linked.before p (omega arith)

    after_is : after ≡ get_or slots (p + 1) 0
    after_is = let same : p + 1 ≡ suc p = omega arith in chained.linked.after (suc p) (omega (arith, l)) ∙ ap (λ n. get_or slots n 0) (sym same)

    slot_in : slot < length nodes
    slot_in = inside_order chained.shared slot (times_at slots p l)

    pub before_in : before < length nodes
    before_in = subst (λ s. s < length nodes) (sym before_is) (inside chained.shared (get_or (0 ∷ slots) p 0) (times_at (0 ∷ slots) p (omega (arith, l))))

    pub after_in : after < length nodes
    after_in = subst (λ s. s < length nodes) (sym after_is) (inside chained.shared (get_or slots (p + 1) 0) (in_ring (p + 1) (let a = long in omega (arith, a, l))))

    abbrev closed : List Node
    closed = linked_to nodes before after

    abbrev now : List Node
    now = set closed slot (freed_before free (node_at closed slot))

    abbrev rest : List ℕ
    rest = remove slots p

    now_long : length now ≡ length nodes
    now_long = length-set closed slot (freed_before free (node_at closed slot)) ∙ length_linked nodes before after

    slot_closed : slot < length closed
    slot_closed = let a = length_linked nodes before after in let b = slot_in in omega (arith, a, b)

    rest_long : length rest + 1 ≡ len
    rest_long = let a = length-remove slots p l in let b = long in omega (arith, a, b)

    ring_below : (k : ℕ) → k ≤ p → get_or (0 ∷ rest) k 0 ≡ get_or (0 ∷ slots) k 0
    ring_below k b = get_or-remove_below (0 ∷ slots) (suc p) 0 k (omega arith) (omega (arith, l))

    ring_above : (k : ℕ) → p < k → get_or (0 ∷ rest) k 0 ≡ get_or (0 ∷ slots) (k + 1) 0
    ring_above k a = get_or-remove_above (0 ∷ slots) (suc p) 0 k (omega arith) (omega (arith, l))

    ring_apart : (i j : ℕ) → i ≤ len → j ≤ p + 1 → i ≢ j → get_or (0 ∷ slots) i 0 ≢ get_or (0 ∷ slots) j 0
    ring_apart i j i_in j_in other same = other (same_place (0 ∷ slots) once_in_ring i j (omega (arith, i_in, long)) (omega (arith, j_in, l)) same)

    -- what the nodes of others tell
    after_other : (i : ℕ) → i ≤ len → i ≢ p → i ≢ p + 1 → after_of now (get_or (0 ∷ slots) i 0) ≡ get_or slots i 0
    after_other i within not_before not_it =
        let j : ℕ = get_or (0 ∷ slots) i 0 in
        ap (λ (n : Node). n.after) (get_or-set_other closed slot j (freed_before free (node_at closed slot)) BLANK_NODE (ring_apart i (suc p) within (omega arith) (λ e. not_it (omega arith))))
        ∙ after_else nodes before after before_in after_in j (λ same. ring_apart i p within (omega arith) not_before (same ∙ before_is))
        ∙ chained.linked.after i (omega (arith, within, long))

    after_before : after_of now before ≡ after
    after_before = grind (arith, nat_tests, long, same_place, once_in_ring, before_is, get_or-set_other, after_here, before_in, after_in)

    before_other : (i : ℕ) → i ≤ len → i ≢ p → i ≢ p + 1 → before_of now (get_or slots i 0) ≡ get_or (0 ∷ slots) i 0
    before_other i within not_it not_after =
        grind (arith, nat_tests, long, same_to_end apart i, after_is, get_or-set_other, before_else nodes before after before_in after_in)

    before_after : before_of now after ≡ before
    before_after = grind (arith, nat_tests, long, same_to_end apart (p + 1) p, after_is, get_or-set_other, before_here nodes before after before_in after_in)

    linked_without : IsLinked now rest
    linked_without =
        grind (arith, nat_tests, rest_long, ring_below, after_other, get_or-remove_below, before_is, after_before, after_is, get_or-remove_above, ring_above, before_other, before_after)

    pub order_without : order_in now (len - 1) ≡ rest
    order_without =
        let a = rest_long in
        let n : len - 1 ≡ length rest = omega (arith, a) in
        ap (order_in now) n ∙ order_is now 0 rest (λ k k_in. linked_without.after k (omega (arith, k_in)))

    -- a slot of the ring isn't free
    not_free : (s j : ℕ) → 1 ≤ times s (0 ∷ slots) → 1 ≤ times j frees → j ≢ s
    not_free s j used some same = grind (arith, nat_tests, at_most_once)

    slot_used : 1 ≤ times slot (0 ∷ slots)
    slot_used = times_at (0 ∷ slots) (suc p) (omega (arith, l))

    before_used : 1 ≤ times before (0 ∷ slots)
    before_used = subst (λ s. 1 ≤ times s (0 ∷ slots)) (sym before_is) (times_at (0 ∷ slots) p (omega (arith, l)))

    free_without : free_in now slot (len - 1) ≡ slot ∷ frees
    free_without =
        let a = now_long in let b = few in let e = long in
        let n : length now - 1 - (len - 1) ≡ suc (length nodes - 1 - len) = omega (arith, a, b, e, l) in
        let m : ℕ = length nodes - 1 - len in
        let next : after_of now slot ≡ free = ap (λ (x : Node). x.after) (get_or-set_same closed slot (freed_before free (node_at closed slot)) BLANK_NODE slot_closed) in
        ap (order_from now slot) n
        ∙ ap (λ s. slot ∷ order_from now s m) next
        ∙ ap (λ r. slot ∷ r) (order_same nodes now free m (λ j some.
        ap (λ (x : Node). x.after) (get_or-set_other closed slot j (freed_before free (node_at closed slot)) BLANK_NODE (not_free slot j slot_used some))
        ∙ after_else nodes before after before_in after_in j (not_free before j before_used some)))

    pub chained_without : IsChained now capacity slot (len - 1) room
    chained_without =
        grind (arith, nat_tests, order_without, free_without, now_long, times_remove, linked_without, get_or-set_same, slot_closed, get_or-set_other, before_else, before_in, after_in, not_free, after_is, in_ring, long, length-remove slots p l)

    pub members_without : map (member_at now) (order_in now (len - 1)) ≡ remove (map (member_at nodes) slots) p
    members_without =
        ap (map (member_at now)) order_without
        ∙ members_same nodes now rest (λ j some. kept_by_set member_of closed slot j (freed_before free (node_at closed slot)) slot_closed refl ∙ member_linked nodes before after before_in after_in j)
        ∙ map-remove (member_at nodes) slots p

  -- ---- a member is written, and those beside it stay

  module _ (slot : ℕ) (n : Node) (l : slot < length nodes) (same_after : n.after ≡ after_of nodes slot) (same_before : n.before ≡ before_of nodes slot) where
    after_written : (j : ℕ) → after_of (set nodes slot n) j ≡ after_of nodes j
    after_written j = kept_by_set (λ x. x.after) nodes slot j n l same_after

    before_written : (j : ℕ) → before_of (set nodes slot n) j ≡ before_of nodes j
    before_written j = kept_by_set (λ x. x.before) nodes slot j n l same_before

    pub order_written : order_in (set nodes slot n) len ≡ slots
    order_written = ap (λ s. order_from (set nodes slot n) s len) (after_written 0) ∙ order_same nodes (set nodes slot n) (after_of nodes 0) len (λ j some. after_written j)

    pub chained_written : IsChained (set nodes slot n) capacity free len room
    chained_written = grind (arith, nat_tests, order_written, order_same, length-set, after_written, before_written)

  written_at : (n : Node) (k i : ℕ) (d : Member) → k < length slots → i < length slots → get_or (map (member_at (set nodes (get_or slots k 0) n)) slots) i d ≡ get_or (set (map (member_at nodes) slots) k (member_of n)) i d
  written_at n k i d l i_in =
      let there = inside_order chained.shared (get_or slots k 0) (times_at slots k l) in
      grind (arith, nat_tests, get_or-map (member_at (set nodes (get_or slots k 0) n)) slots i 0 d, get_or-map (member_at nodes) slots i 0 d, get_or-set_same, get_or-set_other, same_place slots apart.once i k, length-map slots (member_at nodes))

  pub members_written : (n : Node) (k : ℕ) → k < length slots → n.after ≡ after_of nodes (get_or slots k 0) → n.before ≡ before_of nodes (get_or slots k 0)
      → map (member_at (set nodes (get_or slots k 0) n)) (order_in (set nodes (get_or slots k 0) n) len) ≡ set (map (member_at nodes) slots) k (member_of n)
  members_written n k l same_after same_before =
      let slot : ℕ = get_or slots k 0 in
      let there : slot < length nodes = inside_order chained.shared slot (times_at slots k l) in
      ap (map (member_at (set nodes slot n))) (order_written slot n there same_after same_before)
      ∙ same_lists (map (member_at (set nodes slot n)) slots) (set (map (member_at nodes) slots) k (member_of n))
      (length-map slots (member_at (set nodes slot n)) ∙ sym (length-set (map (member_at nodes) slots) k (member_of n) ∙ length-map slots (member_at nodes)))
      (λ i d i_in. written_at n k i d l (omega (arith, i_in, length-map slots (member_at (set nodes slot n)))))

-- ---- a member enters

-- a slot that has a node now, and the nodes of the others are as they were
record Fresh (nodes n0 : List Node) (order rest : List ℕ) (node : Node) (slot : ℕ) : Type 0 where
  here : slot < length n0
  more : length nodes ≤ length n0
  new : node_at n0 slot ≡ node
  same : (j : ℕ) → 1 ≤ times j (0 ∷ order) + times j rest → node_at n0 j ≡ node_at nodes j
  none : times slot (0 ∷ order) + times slot rest ≡ 0

-- the slots that are free then
abbrev pub left_in : List Node → List Node → ℕ → ℕ → List ℕ
left_in nodes n0 next len = order_from nodes next (length n0 - 1 - (len + 1))

abbrev pub end_in : List Node → List Node → ℕ → List Node
end_in nodes n0 slot = linked_to n0 (before_of nodes 0) slot

abbrev pub entered_in : List Node → List Node → ℕ → List Node
entered_in nodes n0 slot = linked_to (end_in nodes n0 slot) slot 0

module _ {nodes : List Node} {capacity free len room : ℕ} (chained : IsChained nodes capacity free len room) (few_yet : len < room) {node : Node} {n0 : List Node} {next slot : ℕ} where
  module _ (reused : IsReused nodes free len node n0 next slot) where
    long_reused : length n0 ≡ length nodes
    long_reused = ap length reused.written ∙ length-set nodes free node

    free_split : free_in nodes free len ≡ slot ∷ (left_in nodes n0 next len)
    free_split = grind (arith, nat_tests, long_reused)

    alone_reused : times slot (0 ∷ (order_in nodes len)) + times slot (left_in nodes n0 next len) ≡ 0
    alone_reused = grind (arith, nat_tests, at_most_once, free_split, times_at)

    fresh_reused : Fresh nodes n0 (order_in nodes len) (left_in nodes n0 next len) node slot
    fresh_reused =
        let free_in_nodes = free_inside chained reused.some in
        let apart_from : (j : ℕ) → 1 ≤ times j (0 ∷ (order_in nodes len)) + times j (left_in nodes n0 next len) → j ≢ free = grind (arith, nat_tests, alone_reused) in
        grind (arith, nat_tests, long_reused, get_or-set_same nodes free node BLANK_NODE, get_or-set_other, alone_reused)

    shared_reused : AreShared (0 ∷ ((order_in nodes len) ++ slot ∷ [])) (left_in nodes n0 next len) (length n0) (room + 1)
    shared_reused = grind (arith, nat_tests, long_reused, times_append, free_split, length_push)

  module _ (added : IsAdded nodes free len node n0 next slot) where
    long_added : length n0 ≡ length nodes + 1
    long_added = ap length added.added ∙ length_push nodes node

    none_left : (left_in nodes n0 next len) ≡ []
    none_left = let a = long_added in let b = added.none in let n : length n0 - 1 - (len + 1) ≡ 0 = omega (arith, a, b) in ap (order_from nodes next) n

    fresh_added : Fresh nodes n0 (order_in nodes len) (left_in nodes n0 next len) node slot
    fresh_added =
        let none = none_beyond chained.shared slot (omega (arith, added.new)) in
        let old : (j : ℕ) → 1 ≤ times j (0 ∷ (order_in nodes len)) → j < length nodes = λ j some. inside chained.shared j some in
        grind (arith, nat_tests, long_added, none_left, get_or_push nodes node BLANK_NODE slot, get_or_append_left)

    shared_added : AreShared (0 ∷ ((order_in nodes len) ++ slot ∷ [])) (left_in nodes n0 next len) (length n0) (room + 1)
    shared_added = grind (arith, nat_tests, times_append, none_left, long_added, length_push)

  fresh_slot : IsTaken nodes free len node n0 next slot → Fresh nodes n0 (order_in nodes len) (left_in nodes n0 next len) node slot
  fresh_slot taken = ⊎_elim fresh_reused fresh_added taken

  shared_with : IsTaken nodes free len node n0 next slot → AreShared (0 ∷ ((order_in nodes len) ++ slot ∷ [])) (left_in nodes n0 next len) (length n0) (room + 1)
  shared_with taken = ⊎_elim shared_reused shared_added taken

  -- the slots that are free now were free before
  free_before : IsTaken nodes free len node n0 next slot → (s : ℕ) → 1 ≤ times s (left_in nodes n0 next len) → 1 ≤ times s (free_in nodes free len)
  free_before taken s some = grind (arith, nat_tests, free_split, none_left)

  module _ (taken : IsTaken nodes free len node n0 next slot) where
    is : Fresh nodes n0 (order_in nodes len) (left_in nodes n0 next len) node slot
    is = fresh_slot taken

    pub slot_fresh : slot < length n0
    slot_fresh = is.here

    pub last_fresh : (before_of nodes 0) < length n0
    last_fresh = let a = is.more in let b = last_inside chained in omega (arith, a, b)

    pub slot_new : node_at n0 slot ≡ node
    slot_new = is.new

    slot_n1 : slot < length (end_in nodes n0 slot)
    slot_n1 = let a = length_linked n0 (before_of nodes 0) slot in let b = is.here in omega (arith, a, b)

    zero_n1 : 0 < length (end_in nodes n0 slot)
    zero_n1 = let b = slot_n1 in omega (arith, b)

    order_long : length (order_in nodes len ++ slot ∷ []) ≡ len + 1
    order_long = let a = length_push (order_in nodes len) slot in let b = long chained in omega (arith, a, b)

    last_is : (before_of nodes 0) ≡ get_or (0 ∷ (order_in nodes len)) len 0
    last_is = let a = long chained in ap (before_of nodes) (sym (get_or_past (order_in nodes len) len 0 (omega (arith, a)))) ∙ chained.linked.before len (omega (arith, a))

    -- a slot that was there or is free isn't the new one
    not_slot : (j : ℕ) → 1 ≤ times j (0 ∷ (order_in nodes len)) + times j (left_in nodes n0 next len) → j ≢ slot
    not_slot j some same = grind (arith, nat_tests, is)

    ring_old : (k : ℕ) → k ≤ len → 1 ≤ times (get_or (0 ∷ (order_in nodes len)) k 0) (0 ∷ (order_in nodes len)) + times (get_or (0 ∷ (order_in nodes len)) k 0) (left_in nodes n0 next len)
    ring_old k k_in = let a = long chained in let there = times_at (0 ∷ (order_in nodes len)) k (omega (arith, k_in, a)) in omega (arith, there)

    zero_old : 1 ≤ times 0 (0 ∷ (order_in nodes len)) + times 0 (left_in nodes n0 next len)
    zero_old = ring_old 0 (omega arith)

    same_ring : (k : ℕ) → k ≤ len → get_or (0 ∷ (order_in nodes len ++ slot ∷ [])) k 0 ≡ get_or (0 ∷ (order_in nodes len)) k 0
    same_ring k k_in = let a = long chained in get_or_append_left (0 ∷ (order_in nodes len)) (slot ∷ []) 0 k (omega (arith, k_in, a))

    same_order : (k : ℕ) → k < len → get_or (order_in nodes len ++ slot ∷ []) k 0 ≡ get_or (order_in nodes len) k 0
    same_order k k_in = let a = long chained in get_or_append_left (order_in nodes len) (slot ∷ []) 0 k (omega (arith, k_in, a))

    order_last : get_or (order_in nodes len ++ slot ∷ []) len 0 ≡ slot
    order_last = get_or_push (order_in nodes len) slot 0 len (long chained)

    order_past : get_or (order_in nodes len ++ slot ∷ []) (len + 1) 0 ≡ 0
    order_past = let a = order_long in get_or_past (order_in nodes len ++ slot ∷ []) (len + 1) 0 (omega (arith, a))

    ring_last : get_or (0 ∷ (order_in nodes len ++ slot ∷ [])) (len + 1) 0 ≡ slot
    ring_last = let e : len + 1 ≡ suc len = omega arith in ap (λ n. get_or (0 ∷ (order_in nodes len ++ slot ∷ [])) n 0) e ∙ order_last

    pub last_other : before_of nodes 0 ≢ slot
    last_other = subst (λ s. s ≢ slot) (sym last_is) (not_slot (get_or (0 ∷ (order_in nodes len)) len 0) (ring_old len (omega arith)))

    -- what the nodes tell
    after_new : after_of (entered_in nodes n0 slot) slot ≡ 0
    after_new = after_here (end_in nodes n0 slot) slot 0 slot_n1 zero_n1

    after_last : after_of (entered_in nodes n0 slot) (before_of nodes 0) ≡ slot
    after_last =
        after_else (end_in nodes n0 slot) slot 0 slot_n1 zero_n1 (before_of nodes 0) last_other
        ∙ after_here n0 (before_of nodes 0) slot last_fresh slot_fresh

    after_old : (j : ℕ) → 1 ≤ times j (0 ∷ (order_in nodes len)) + times j (left_in nodes n0 next len) → j ≢ (before_of nodes 0) → after_of (entered_in nodes n0 slot) j ≡ after_of nodes j
    after_old j some other = grind (arith, nat_tests, after_else, slot_n1, zero_n1, not_slot, last_fresh, slot_fresh, is)

    before_zero : before_of (entered_in nodes n0 slot) 0 ≡ slot
    before_zero = before_here (end_in nodes n0 slot) slot 0 slot_n1 zero_n1

    before_new : before_of (entered_in nodes n0 slot) slot ≡ (before_of nodes 0)
    before_new = before_else (end_in nodes n0 slot) slot 0 slot_n1 zero_n1 slot (λ e. not_slot 0 zero_old (sym e)) ∙ before_here n0 (before_of nodes 0) slot last_fresh slot_fresh

    before_old : (j : ℕ) → 1 ≤ times j (0 ∷ (order_in nodes len)) + times j (left_in nodes n0 next len) → j ≢ 0 → before_of (entered_in nodes n0 slot) j ≡ before_of nodes j
    before_old j some other = grind (arith, nat_tests, before_else, slot_n1, zero_n1, last_fresh, slot_fresh, not_slot, is)

    old_after : (k : ℕ) → k < len → after_of (entered_in nodes n0 slot) (get_or (0 ∷ (order_in nodes len)) k 0) ≡ get_or (order_in nodes len) k 0
    old_after k below =
        after_old (get_or (0 ∷ (order_in nodes len)) k 0) (ring_old k (omega arith))
        (λ same. let e = same_place (0 ∷ (order_in nodes len)) (once_in_ring chained) k len (omega (arith, below, long chained)) (omega (arith, long chained)) (same ∙ last_is) in omega (arith, below, e))
        ∙ chained.linked.after k (omega (arith, below, long chained))

    old_before : (k : ℕ) → k < len → before_of (entered_in nodes n0 slot) (get_or (order_in nodes len) k 0) ≡ get_or (0 ∷ (order_in nodes len)) k 0
    old_before k below = grind (arith, nat_tests, before_old (get_or (order_in nodes len) k 0), ring_old (suc k), not_end (apart chained) k, long chained)

    linked_with : IsLinked (entered_in nodes n0 slot) (order_in nodes len ++ slot ∷ [])
    linked_with =
        grind (arith, nat_tests, order_long, same_ring, same_order, old_after, old_before, last_is, after_last, after_new, order_last, order_past, ring_last, before_new, before_zero)

    pub order_with : order_in (entered_in nodes n0 slot) (len + 1) ≡ (order_in nodes len ++ slot ∷ [])
    order_with = ap (order_in (entered_in nodes n0 slot)) (sym order_long) ∙ order_is (entered_in nodes n0 slot) 0 (order_in nodes len ++ slot ∷ []) (λ k k_in. linked_with.after k (omega (arith, k_in)))

    -- a slot that is free isn't the last one
    not_last : (j : ℕ) → 1 ≤ times j (left_in nodes n0 next len) → j ≢ (before_of nodes 0)
    not_last j some same =
        grind (arith, nat_tests, at_most_once (shared_with taken) j, times_at (0 ∷ (order_in nodes len)) len, last_is, long chained, times_append)

    pub chained_with : IsChained (entered_in nodes n0 slot) capacity next (len + 1) room
    chained_with =
        grind (arith, nat_tests, order_with, order_same, after_old, not_last, length_linked, shared_with, linked_with, free_before, before_old, at_most_once, times_at)

    pub members_with : map (member_at (entered_in nodes n0 slot)) (order_in (entered_in nodes n0 slot) (len + 1)) ≡ map (member_at nodes) (order_in nodes len) ++ member_of node ∷ []
    members_with = grind (arith, nat_tests, order_with, map-append, members_same, member_linked, slot_n1, zero_n1, last_fresh, slot_fresh, is)

-- ---- a member is written in place

module _ {nodes : List Node} {capacity free len room : ℕ} (is : IsChained nodes capacity free len room) (slot i : ℕ) (there : 1 ≤ times slot (order_in nodes len)) (at : i ≡ slot) (node : Node) (read : node ≡ get_or nodes i node)
    (write : Node → Node) (same_after : (n : Node) → (write n).after ≡ n.after) (same_before : (n : Node) → (write n).before ≡ n.before) where
  slot_there : slot < length nodes
  slot_there = inside_order is.shared slot there

  node_is : node ≡ node_at nodes slot
  node_is = read ∙ get_or_default nodes i node BLANK_NODE (let a = slot_there in omega (arith, a, at)) ∙ ap (node_at nodes) at

  pub chained_now : IsChained (set nodes i (write node)) capacity free len room
  chained_now = subst (λ j. IsChained (set nodes j (write node)) capacity free len room) (sym at)
      (chained_written is slot (write node) slot_there (same_after node ∙ ap (λ (n : Node). n.after) node_is) (same_before node ∙ ap (λ (n : Node). n.before) node_is))

  pub view_now : (change : Member → Member) → ((n : Node) → member_of (write n) ≡ change (member_of n)) → (v : Chained) → chained (order_in nodes len) (map (member_at nodes) (order_in nodes len)) room ≡ v
      → (k : ℕ) (d : Member) → k < length v.slots → get_or v.slots k 0 ≡ slot
      → chained (order_in (set nodes i (write node)) len) (map (member_at (set nodes i (write node))) (order_in (set nodes i (write node)) len)) room ≡ record v { members = set v.members k (change (get_or v.members k d)) }
  view_now change changed v view k d l here =
      let slots = order_in nodes len in
      let k_in : k < length slots = subst (λ (w : Chained). k < length w.slots) (sym view) l in
      let found : get_or slots k 0 ≡ slot = ap (λ (w : Chained). get_or w.slots k 0) view ∙ here in
      let members = members_written is (write node) k k_in (grind (arith, same_after node, node_is, found)) (grind (arith, same_before node, node_is, found)) in
      let order = order_written is slot (write node) slot_there (grind (arith, same_after node, node_is)) (grind (arith, same_before node, node_is)) in
      grind (arith, nat_tests, node_is, members, order, changed node, get_or-map (member_at nodes) slots k 0 d k_in)

-- what stands before a slot that has a member is another slot
pub slot_marked : {nodes : List Node} {capacity free len room : ℕ} → IsChained nodes capacity free len room → (slot : ℕ) → 1 ≤ times slot (order_in nodes len) → (slot < length nodes) × (before_of nodes slot < 65535)
slot_marked {nodes} {len = len} is slot some =
    let at = stands slot (order_in nodes len) some in
    let low = before_in is at.place at.inside in
    let most = within is in let short = is.short in
    let before : before_of nodes (get_or (order_in nodes len) at.place 0) ≡ before_of nodes slot = ap (before_of nodes) at.there in
    (inside_order is.shared slot some, omega (arith, low, most, short, before))
