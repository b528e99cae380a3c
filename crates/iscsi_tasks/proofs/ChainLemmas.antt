-- Members in slots, each linked to those beside it.
use Rattle.std.proofs.Common.{◌≡◌, ◌≢◌, ℕ, zero, suc, ◌+◌, ◌<◌, ◌≤◌, List, [], ◌∷◌, length, map, get_or, set, refl, ap, sym, subst, ◌∙◌, arith}
use Rattle.iscsi_tasks.proofs.Names.{nat_tests, times, AreShared, Node, AreApart, BLANK_NODE, node_at, after_of, before_of, member_of, member_at, order_from}
use Rattle.iscsi_tasks.proofs.Names.{with_after, with_before, points_to, linked_to}
use Rattle.std.proofs.lemmas.List.{get_or-set_same, get_or-set_other, get_or_past, length-set, set-get_or}
use Rattle.iscsi_slots.proofs.SlotLemmas.{times_at, stands}
use Rattle.iscsi_slots.proofs.ShareLemmas.{at_most_once, order_within}

-- what a write to a node leaves as it is, it leaves of all
pub kept_by_set : {X : Type 0} (f : Node → X) (nodes : List Node) (i j : ℕ) (n : Node) → i < length nodes → f n ≡ f (node_at nodes i) → f (node_at (set nodes i n) j) ≡ f (node_at nodes j)
kept_by_set f nodes i j n l same = grind (arith, nat_tests, get_or-set_same, get_or-set_other)

module _ (nodes : List Node) (first second : ℕ) where
  abbrev pointed : List Node
  pointed = points_to nodes first second

  pub length_linked : length (linked_to nodes first second) ≡ length nodes
  length_linked = length-set pointed second (with_before first (node_at pointed second)) ∙ length-set nodes first (with_after second (node_at nodes first))

  module _ (first_in : first < length nodes) (second_in : second < length nodes) where
    second_there : second < length pointed
    second_there = let long = length-set nodes first (with_after second (node_at nodes first)) in omega (arith, long, second_in)

    pub after_here : after_of (linked_to nodes first second) first ≡ second
    after_here = kept_by_set (λ n. n.after) pointed second first (with_before first (node_at pointed second)) second_there refl
        ∙ ap (λ (n : Node). n.after) (get_or-set_same nodes first (with_after second (node_at nodes first)) BLANK_NODE first_in)

    pub after_else : (j : ℕ) → j ≢ first → after_of (linked_to nodes first second) j ≡ after_of nodes j
    after_else j apart = kept_by_set (λ n. n.after) pointed second j (with_before first (node_at pointed second)) second_there refl
        ∙ ap (λ (n : Node). n.after) (get_or-set_other nodes first j (with_after second (node_at nodes first)) BLANK_NODE apart)

    pub before_here : before_of (linked_to nodes first second) second ≡ first
    before_here = ap (λ (n : Node). n.before) (get_or-set_same pointed second (with_before first (node_at pointed second)) BLANK_NODE second_there)

    pub before_else : (j : ℕ) → j ≢ second → before_of (linked_to nodes first second) j ≡ before_of nodes j
    before_else j apart = ap (λ (n : Node). n.before) (get_or-set_other pointed second j (with_before first (node_at pointed second)) BLANK_NODE apart)
        ∙ kept_by_set (λ n. n.before) nodes first j (with_after second (node_at nodes first)) first_in refl

    pub member_linked : (j : ℕ) → member_at (linked_to nodes first second) j ≡ member_at nodes j
    member_linked j = kept_by_set member_of pointed second j (with_before first (node_at pointed second)) second_there refl
        ∙ kept_by_set member_of nodes first j (with_after second (node_at nodes first)) first_in refl

-- a slot whose node tells already what it stands between
pub linked_last : (nodes : List Node) (last slot : ℕ) → slot < length nodes → last ≢ slot → before_of nodes slot ≡ last → after_of nodes slot ≡ 0
    → linked_to (linked_to nodes last slot) slot 0 ≡ (let pointed = points_to nodes last slot in set pointed 0 (with_before slot (node_at pointed 0)))
linked_last nodes last slot inside apart before after =
    let pointed : List Node = points_to nodes last slot in
    let kept : node_at pointed slot ≡ node_at nodes slot = get_or-set_other nodes last slot (with_after slot (node_at nodes last)) BLANK_NODE (λ e. apart (sym e)) in
    let same : linked_to nodes last slot ≡ pointed =
    ap (λ b. set pointed slot (with_before b (node_at pointed slot))) (sym before ∙ ap (λ (n : Node). n.before) (sym kept)) ∙ set-get_or pointed slot BLANK_NODE in
    let also : points_to pointed slot 0 ≡ pointed =
    ap (λ a. set pointed slot (with_after a (node_at pointed slot))) (sym after ∙ ap (λ (n : Node). n.after) (sym kept)) ∙ set-get_or pointed slot BLANK_NODE in
    ap (λ ns. linked_to ns slot 0) same ∙ ap (λ ns. set ns 0 (with_before slot (node_at ns 0))) also

-- ---- the order that the nodes tell

pub order_is : (nodes : List Node) (s : ℕ) (order : List ℕ) → ((k : ℕ) → k < length order → after_of nodes (get_or (s ∷ order) k 0) ≡ get_or order k 0) → order_from nodes (after_of nodes s) (length order) ≡ order
order_is nodes s [] linked = refl
order_is nodes s (x ∷ xs) linked =
    let first : after_of nodes s ≡ x = linked 0 (omega arith) in
    ap (λ i. i ∷ order_from nodes (after_of nodes i) (length xs)) first ∙ ap (λ r. x ∷ r) (order_is nodes x xs (λ k l. linked (suc k) (omega (arith, l))))

pub order_same : (nodes now : List Node) (s n : ℕ) → ((j : ℕ) → 1 ≤ times j (order_from nodes s n) → after_of now j ≡ after_of nodes j) → order_from now s n ≡ order_from nodes s n
order_same nodes now s zero same = refl
order_same nodes now s (suc n) same =
    let rest = order_from nodes (after_of nodes s) n in
    ap (λ i. s ∷ order_from now i n) (same s (times_at (s ∷ rest) 0 (omega arith)))
    ∙ ap (λ r. s ∷ r) (order_same nodes now (after_of nodes s) n (λ j some. same j (omega (arith, some))))

pub length_order : (nodes : List Node) (s n : ℕ) → length (order_from nodes s n) ≡ n
length_order nodes s zero = refl
length_order nodes s (suc n) = ap suc (length_order nodes (after_of nodes s) n)

pub members_same : (nodes now : List Node) (order : List ℕ) → ((j : ℕ) → 1 ≤ times j order → member_at now j ≡ member_at nodes j) → map (member_at now) order ≡ map (member_at nodes) order
members_same nodes now [] same = refl
members_same nodes now (s ∷ order) same =
    ap (λ m. m ∷ map (member_at now) order) (same s (times_at (s ∷ order) 0 (omega arith)))
    ∙ ap (λ r. member_at nodes s ∷ r) (members_same nodes now order (λ j some. same j (omega (arith, some))))

-- ---- no slot stands there twice

times_here : (s : ℕ) (order : List ℕ) → times s (s ∷ order) ≡ 1 + times s order
times_here s order = grind (arith, nat_tests)

pub same_place : (order : List ℕ) → ((s : ℕ) → times s order ≤ 1) → (i j : ℕ) → i < length order → j < length order → get_or order i 0 ≡ get_or order j 0 → i ≡ j
same_place [] once i j li lj same = absurd (omega arith)
same_place (s ∷ order) once zero zero li lj same = refl
same_place (s ∷ order) once zero (suc j) li lj same = grind (arith, nat_tests, times_at order j (omega arith), times_here s order)
same_place (s ∷ order) once (suc i) zero li lj same = grind (arith, nat_tests, times_at order i (omega arith), times_here s order)
same_place (s ∷ order) once (suc i) (suc j) li lj same = ap suc (same_place order (λ t. let one = once t in omega (arith, one)) i j (omega arith) (omega arith) same)

module _ {order : List ℕ} (apart : AreApart order) where
  -- a place of the order has a slot
  pub not_end : (k : ℕ) → k < length order → get_or order k 0 ≢ 0
  not_end k l is = grind (arith, nat_tests, times_at)

  -- places up to the end with the same slot are one
  pub same_to_end : (i j : ℕ) → i ≤ length order → j ≤ length order → get_or order i 0 ≡ get_or order j 0 → i ≡ j
  same_to_end i j li lj same = grind (arith, nat_tests, same_place, not_end, get_or_past)

module _ {order free : List ℕ} {n room : ℕ} (shared : AreShared (0 ∷ order) free n room) where
  pub apart_in : AreApart order
  apart_in = grind (arith, nat_tests, at_most_once, times_here)

  -- a slot that stands there is one of the slots
  pub inside : (s : ℕ) → 1 ≤ times s (0 ∷ order) → s < n
  inside s some = let at = stands s (0 ∷ order) some in subst (λ t. t < n) at.there (order_within shared at.place at.inside)

  pub inside_order : (s : ℕ) → 1 ≤ times s order → s < n
  inside_order s some = inside s (omega (arith, some))
