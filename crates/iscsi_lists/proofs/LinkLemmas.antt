-- Nodes that are linked anew.
use Rattle.std.proofs.Common.{◌≡◌, ◌≢◌, ℕ, ◌<◌, ◌≤◌, List, [], ◌∷◌, ◌++◌, length, set, refl, ap, sym, subst, ◌∙◌, arith, ⊎_elim}
use Rattle.std.proofs.lemmas.Bool.{cases_eq}
use Rattle.std.proofs.lemmas.List.{get_or-set_same, get_or-set_other, length-set}
use Rattle.iscsi_slots.specs.Slots.{times}
use Rattle.iscsi_lists.specs.declared.link.Link.{Link}
use Rattle.iscsi_lists.specs.Lists.{without, end_of}
use Rattle.iscsi_lists.specs.Linking.{BLANK, node_at, after_of, before_of, list_of, with_after, with_before, in_list, points_to, linked_to, cut, placed, moved_before, Follows, AreLinked, AreInside}
use Rattle.iscsi_lists.proofs.WithoutLemmas.{times_same, times_other, not_first, none_behind, without_same, without_other, without_none, times_without, times_without_other, put, put_same, put_other}

-- what a write to a node leaves as it is, it leaves of all
pub kept_by_set : {X : Type 0} (f : Link → X) (nodes : List Link) (i j : ℕ) (n : Link) → i < length nodes → f n ≡ f (node_at nodes i) → f (node_at (set nodes i n) j) ≡ f (node_at nodes j)
kept_by_set f nodes i j n l same = ⊎_elim
    (λ (e : j ≡ i). ap (λ k. f (node_at (set nodes i n) k)) e ∙ ap f (get_or-set_same nodes i n BLANK l) ∙ same ∙ ap (λ k. f (node_at nodes k)) (sym e))
    (λ apart. ap f (get_or-set_other nodes i j n BLANK apart))
    (cases_eq j i)

module _ (nodes : List Link) (first second : ℕ) where
  abbrev pointed : List Link
  pointed = points_to nodes first second

  pub length_linked : length (linked_to nodes first second) ≡ length nodes
  length_linked = length-set pointed second (with_before first (node_at pointed second)) ∙ length-set nodes first (with_after second (node_at nodes first))

  module _ (first_in : first < length nodes) (second_in : second < length nodes) where
    second_there : second < length pointed
    second_there = let long = length-set nodes first (with_after second (node_at nodes first)) in omega (arith, long, second_in)

    pub after_here : after_of (linked_to nodes first second) first ≡ second
    after_here = kept_by_set (λ n. n.after) pointed second first (with_before first (node_at pointed second)) second_there refl
        ∙ ap (λ (n : Link). n.after) (get_or-set_same nodes first (with_after second (node_at nodes first)) BLANK first_in)

    pub after_else : (j : ℕ) → j ≢ first → after_of (linked_to nodes first second) j ≡ after_of nodes j
    after_else j apart = kept_by_set (λ n. n.after) pointed second j (with_before first (node_at pointed second)) second_there refl
        ∙ ap (λ (n : Link). n.after) (get_or-set_other nodes first j (with_after second (node_at nodes first)) BLANK apart)

    pub before_here : before_of (linked_to nodes first second) second ≡ first
    before_here = ap (λ (n : Link). n.before) (get_or-set_same pointed second (with_before first (node_at pointed second)) BLANK second_there)

    pub before_else : (j : ℕ) → j ≢ second → before_of (linked_to nodes first second) j ≡ before_of nodes j
    before_else j apart = ap (λ (n : Link). n.before) (get_or-set_other pointed second j (with_before first (node_at pointed second)) BLANK apart)
        ∙ kept_by_set (λ n. n.before) nodes first j (with_after second (node_at nodes first)) first_in refl

    pub list_linked : (j : ℕ) → list_of (linked_to nodes first second) j ≡ list_of nodes j
    list_linked j = kept_by_set (λ n. n.list) pointed second j (with_before first (node_at pointed second)) second_there refl
        ∙ kept_by_set (λ n. n.list) nodes first j (with_after second (node_at nodes first)) first_in refl

    pub inside_linked : AreInside nodes → AreInside (linked_to nodes first second)
    inside_linked inside = record {
      after = λ s. let long = length_linked in ⊎_elim
          (λ (same : s ≡ first). let a = ap (after_of (linked_to nodes first second)) same ∙ after_here in omega (arith, a, long, second_in))
          (λ other. let a = after_else s other in let b = inside.after s in omega (arith, a, b, long))
          (cases_eq s first);
      before = λ s. let long = length_linked in ⊎_elim
          (λ (same : s ≡ second). let a = ap (before_of (linked_to nodes first second)) same ∙ before_here in omega (arith, a, long, first_in))
          (λ other. let a = before_else s other in let b = inside.before s in omega (arith, a, b, long))
          (cases_eq s second);
    }

-- ---- a chain of nodes

-- what stands before a node of the chain leads to it
pub led_to : (nodes : List Link) (x : ℕ) (zs : List ℕ) (s : ℕ) → AreLinked nodes x zs → 1 ≤ times s zs → after_of nodes (before_of nodes s) ≡ s
led_to nodes x [] s l some = absurd (omega (arith, some))
led_to nodes x (y ∷ ys) s l some = ⊎_elim
    (λ (same : y ≡ s). subst (λ t. after_of nodes (before_of nodes t) ≡ t) same (ap (after_of nodes) l.0.before ∙ l.0.after))
    (λ other. led_to nodes y ys s l.1 (let a = times_other s y ys other in omega (arith, a, some)))
    (cases_eq y s)

-- what stands behind a node of the chain, but for the last one, leads back to it
pub led_back : (nodes : List Link) (x : ℕ) (zs : List ℕ) (s : ℕ) → AreLinked nodes x zs → 1 ≤ times s (x ∷ zs) → s ≢ end_of x zs → before_of nodes (after_of nodes s) ≡ s
led_back nodes x [] s l some last = ⊎_elim
    (λ (same : x ≡ s). absurd (last (sym same)))
    (λ other. let a = times_other s x [] other in absurd (omega (arith, a, some)))
    (cases_eq x s)
led_back nodes x (y ∷ ys) s l some last = ⊎_elim
    (λ (same : x ≡ s). subst (λ t. before_of nodes (after_of nodes t) ≡ t) same (ap (before_of nodes) l.0.after ∙ l.0.before))
    (λ other. led_back nodes y ys s l.1 (let a = times_other s x (y ∷ ys) other in omega (arith, a, some)) last)
    (cases_eq x s)

-- what stands before a node of the chain is one of it
pub before_among : (nodes : List Link) (x : ℕ) (zs : List ℕ) (s : ℕ) → AreLinked nodes x zs → 1 ≤ times s zs → 1 ≤ times (before_of nodes s) (x ∷ zs)
before_among nodes x [] s l some = absurd (omega (arith, some))
before_among nodes x (y ∷ ys) s l some = ⊎_elim
    (λ (same : y ≡ s). let at : x ≡ before_of nodes s = sym l.0.before ∙ ap (before_of nodes) same in let a = times_same (before_of nodes s) x (y ∷ ys) at in omega (arith, a))
    (λ other.
    let rest = before_among nodes y ys s l.1 (let a = times_other s y ys other in omega (arith, a, some)) in
    omega (arith, rest))
    (cases_eq y s)

pub linked_same : (nodes now : List Link) (x : ℕ) (zs : List ℕ) → ((j : ℕ) → after_of now j ≡ after_of nodes j) → ((j : ℕ) → before_of now j ≡ before_of nodes j) → AreLinked nodes x zs → AreLinked now x zs
linked_same nodes now x [] after before l = tt
linked_same nodes now x (y ∷ ys) after before l = (record { after = after x ∙ l.0.after; before = before y ∙ l.0.before }, linked_same nodes now y ys after before l.1)

pub linked_behind : (nodes : List Link) (x : ℕ) (xs ys : List ℕ) → AreLinked nodes x (xs ++ ys) → AreLinked nodes (end_of x xs) ys
linked_behind nodes x [] ys l = l
linked_behind nodes x (z ∷ xs) ys l = linked_behind nodes z xs ys l.1

-- ---- a node is taken out of the chain

module _ (nodes : List Link) (slot : ℕ) (inside : AreInside nodes) (to : after_of nodes (before_of nodes slot) ≡ slot) (back : before_of nodes (after_of nodes slot) ≡ slot) where
  abbrev before : ℕ
  before = before_of nodes slot

  abbrev after : ℕ
  after = after_of nodes slot

  cut_keeps : (x y : ℕ) → x ≢ slot → y ≢ slot → Follows nodes x y → Follows (cut nodes slot) x y
  cut_keeps x y not_x not_y f = record {
    after = after_else nodes before after (inside.before slot) (inside.after slot) x (λ same. not_y (sym f.after ∙ ap (after_of nodes) same ∙ to)) ∙ f.after;
    before = before_else nodes before after (inside.before slot) (inside.after slot) y (λ same. not_x (sym f.before ∙ ap (before_of nodes) same ∙ back)) ∙ f.before;
  }

  cut_joins : (x y : ℕ) → Follows nodes x slot → Follows nodes slot y → Follows (cut nodes slot) x y
  cut_joins x y f g = record {
    after = ap (after_of (cut nodes slot)) (sym f.before) ∙ after_here nodes before after (inside.before slot) (inside.after slot) ∙ g.after;
    before = ap (before_of (cut nodes slot)) (sym g.after) ∙ before_here nodes before after (inside.before slot) (inside.after slot) ∙ f.before;
  }

  cut_beside : (x : ℕ) (zs : List ℕ) → x ≢ slot → times slot zs ≡ 0 → AreLinked nodes x zs → AreLinked (cut nodes slot) x zs
  cut_beside x [] not_x none l = tt
  cut_beside x (y ∷ ys) not_x none l = let not_y = not_first slot y ys none in (cut_keeps x y not_x not_y l.0, cut_beside y ys not_y (none_behind slot y ys none) l.1)

  cut_here : (x : ℕ) (ys : List ℕ) → times slot ys ≡ 0 → Follows nodes x slot → AreLinked nodes slot ys → AreLinked (cut nodes slot) x ys
  cut_here x [] none f l = tt
  cut_here x (y ∷ ys) none f l = let not_y = not_first slot y ys none in (cut_joins x y f l.0, cut_beside y ys not_y (none_behind slot y ys none) l.1)

  pub linked_cut : (x : ℕ) (zs : List ℕ) → x ≢ slot → times slot zs ≤ 1 → AreLinked nodes x zs → AreLinked (cut nodes slot) x (without slot zs)
  linked_cut x [] not_x once l = tt
  linked_cut x (y ∷ ys) not_x once l = ⊎_elim
      (λ (same : y ≡ slot).
      let none : times slot ys ≡ 0 = let a = times_same slot y ys same in omega (arith, a, once) in
      subst (AreLinked (cut nodes slot) x) (sym (without_same slot y ys same ∙ without_none slot ys none))
      (cut_here x ys none (subst (Follows nodes x) same l.0) (subst (λ s. AreLinked nodes s ys) same l.1)))
      (λ other.
      subst (AreLinked (cut nodes slot) x) (sym (without_other slot y ys other))
      (cut_keeps x y not_x other l.0, linked_cut y ys other (let a = times_other slot y ys other in omega (arith, a, once)) l.1))
      (cases_eq y slot)

-- ---- a node is put in front of another one

module _ (nodes : List Link) (slot target : ℕ) (inside : AreInside nodes) (slot_in : slot < length nodes) (target_in : target < length nodes) (to : after_of nodes (before_of nodes target) ≡ target) (apart : target ≢ slot) (fresh : before_of nodes target ≢ slot) where
  abbrev last : ℕ
  last = before_of nodes target

  abbrev ended : List Link
  ended = linked_to nodes last slot

  ended_slot : slot < length ended
  ended_slot = let a = length_linked nodes last slot in omega (arith, a, slot_in)

  ended_target : target < length ended
  ended_target = let a = length_linked nodes last slot in omega (arith, a, target_in)

  put_keeps : (x y : ℕ) → x ≢ slot → y ≢ slot → y ≢ target → Follows nodes x y → Follows (placed nodes slot target) x y
  put_keeps x y not_x not_y other f = record {
    after = after_else ended slot target ended_slot ended_target x not_x
        ∙ after_else nodes last slot (inside.before target) slot_in x (λ same. other (sym f.after ∙ ap (after_of nodes) same ∙ to)) ∙ f.after;
    before = before_else ended slot target ended_slot ended_target y other
        ∙ before_else nodes last slot (inside.before target) slot_in y not_y ∙ f.before;
  }

  put_after : (x : ℕ) → Follows nodes x target → Follows (placed nodes slot target) x slot
  put_after x f = record {
    after = ap (after_of (placed nodes slot target)) (sym f.before) ∙ after_else ended slot target ended_slot ended_target last fresh ∙ after_here nodes last slot (inside.before target) slot_in;
    before = before_else ended slot target ended_slot ended_target slot (λ same. apart (sym same)) ∙ before_here nodes last slot (inside.before target) slot_in ∙ f.before;
  }

  put_front : Follows (placed nodes slot target) slot target
  put_front = record { after = after_here ended slot target ended_slot ended_target; before = before_here ended slot target ended_slot ended_target }

  put_beside : (x : ℕ) (zs : List ℕ) → x ≢ slot → times slot zs ≡ 0 → times target zs ≡ 0 → AreLinked nodes x zs → AreLinked (placed nodes slot target) x zs
  put_beside x [] not_x none other l = tt
  put_beside x (y ∷ ys) not_x none other l =
      let not_y = not_first slot y ys none in
      (put_keeps x y not_x not_y (not_first target y ys other) l.0, put_beside y ys not_y (none_behind slot y ys none) (none_behind target y ys other) l.1)

  pub linked_put : (x : ℕ) (zs : List ℕ) → x ≢ slot → times slot zs ≡ 0 → times target zs ≤ 1 → AreLinked nodes x zs → AreLinked (placed nodes slot target) x (put target slot zs)
  linked_put x [] not_x none once l = tt
  linked_put x (y ∷ ys) not_x none once l =
      let not_y = not_first slot y ys none in
      ⊎_elim
      (λ (same : y ≡ target).
      subst (AreLinked (placed nodes slot target) x) (sym (put_same target slot y ys same)) (
        put_after x (subst (Follows nodes x) same l.0),
        (
          subst (Follows (placed nodes slot target) slot) (sym same) put_front,
          put_beside y ys not_y (none_behind slot y ys none) (let a = times_same target y ys same in omega (arith, a, once)) l.1,
        ),
      ))
      (λ other.
      subst (AreLinked (placed nodes slot target) x) (sym (put_other target slot y ys other))
      (put_keeps x y not_x not_y other l.0, linked_put y ys not_y (none_behind slot y ys none) (let a = times_other target y ys other in omega (arith, a, once)) l.1))
      (cases_eq y target)

-- ---- what a moved slot leaves of all

module _ (nodes : List Link) (slot target list : ℕ) (inside : AreInside nodes) (slot_in : slot < length nodes) (target_in : target < length nodes) where
  abbrev a1 : List Link
  a1 = cut nodes slot

  long1 : length a1 ≡ length nodes
  long1 = length_linked nodes (before_of nodes slot) (after_of nodes slot)

  pub inside_cut : AreInside a1
  inside_cut = inside_linked nodes (before_of nodes slot) (after_of nodes slot) (inside.before slot) (inside.after slot) inside

  slot1 : slot < length a1
  slot1 = let a = long1 in omega (arith, a, slot_in)

  pub target1 : target < length a1
  target1 = let a = long1 in omega (arith, a, target_in)

  abbrev a2 : List Link
  a2 = linked_to a1 (before_of a1 target) slot

  long2 : length a2 ≡ length a1
  long2 = length_linked a1 (before_of a1 target) slot

  slot2 : slot < length a2
  slot2 = let a = long2 in let b = slot1 in omega (arith, a, b)

  target2 : target < length a2
  target2 = let a = long2 in let b = target1 in omega (arith, a, b)

  inside2 : AreInside a2
  inside2 = inside_linked a1 (before_of a1 target) slot (inside_cut.before target) slot1 inside_cut

  abbrev a3 : List Link
  a3 = placed a1 slot target

  long3 : length a3 ≡ length a2
  long3 = length_linked a2 slot target

  slot3 : slot < length a3
  slot3 = let a = long3 in let b = slot2 in omega (arith, a, b)

  inside3 : AreInside a3
  inside3 = inside_linked a2 slot target slot2 target2 inside2

  pub long_moved : length (moved_before nodes slot target list) ≡ length nodes
  long_moved = length-set a3 slot (in_list list (node_at a3 slot)) ∙ long3 ∙ long2 ∙ long1

  pub after_noted : (j : ℕ) → after_of (moved_before nodes slot target list) j ≡ after_of a3 j
  after_noted j = kept_by_set (λ n. n.after) a3 slot j (in_list list (node_at a3 slot)) slot3 refl

  pub before_noted : (j : ℕ) → before_of (moved_before nodes slot target list) j ≡ before_of a3 j
  before_noted j = kept_by_set (λ n. n.before) a3 slot j (in_list list (node_at a3 slot)) slot3 refl

  pub inside_moved : AreInside (moved_before nodes slot target list)
  inside_moved =
      let long = length-set a3 slot (in_list list (node_at a3 slot)) in
      record {
        after = λ s. let a = after_noted s in let b = inside3.after s in omega (arith, a, b, long);
        before = λ s. let a = before_noted s in let b = inside3.before s in omega (arith, a, b, long);
      }

  pub list_here : list_of (moved_before nodes slot target list) slot ≡ list
  list_here = ap (λ (n : Link). n.list) (get_or-set_same a3 slot (in_list list (node_at a3 slot)) BLANK slot3)

  pub list_else : (j : ℕ) → j ≢ slot → list_of (moved_before nodes slot target list) j ≡ list_of nodes j
  list_else j other =
      ap (λ (n : Link). n.list) (get_or-set_other a3 slot j (in_list list (node_at a3 slot)) BLANK other)
      ∙ list_linked a2 slot target slot2 target2 j
      ∙ list_linked a1 (before_of a1 target) slot (inside_cut.before target) slot1 j
      ∙ list_linked nodes (before_of nodes slot) (after_of nodes slot) (inside.before slot) (inside.after slot) j

-- a node of a chain of its own, moved in front of another one of it
pub linked_moved : (nodes : List Link) (slot target list : ℕ) (zs : List ℕ) → AreInside nodes → slot < length nodes → target < length nodes → 1 ≤ slot → target ≢ slot → times slot zs ≡ 1 → times target zs ≡ 1 → slot ≢ end_of 0 zs → AreLinked nodes 0 zs
    → AreLinked (moved_before nodes slot target list) 0 (put target slot (without slot zs))
linked_moved nodes slot target list zs inside slot_in target_in some apart once target_once last l =
    let to = led_to nodes 0 zs slot l (omega (arith, once)) in
    let back = led_back nodes 0 zs slot l (omega (arith, once)) last in
    let first : 0 ≢ slot = λ e. omega (arith, e, some) in
    let short = linked_cut nodes slot inside to back 0 zs first (omega (arith, once)) l in
    let none = times_without slot zs in
    let there = times_without_other slot target zs apart in
    let fresh : before_of (cut nodes slot) target ≢ slot = λ e.
    let among = before_among (cut nodes slot) 0 (without slot zs) target short (omega (arith, there, target_once)) in
    let among_is : 1 ≤ times slot (0 ∷ without slot zs) = subst (λ t. 1 ≤ times t (0 ∷ without slot zs)) e among in
    let b = times_other slot 0 (without slot zs) first in omega (arith, among_is, b, none) in
    let put_in = linked_put (cut nodes slot) slot target (inside_cut nodes slot target list inside slot_in target_in) (slot1 nodes slot target list inside slot_in target_in) (target1 nodes slot target list inside slot_in target_in)
    (led_to (cut nodes slot) 0 (without slot zs) target short (omega (arith, there, target_once))) apart fresh 0 (without slot zs) first none (omega (arith, there, target_once)) short in
    linked_same (placed (cut nodes slot) slot target) (moved_before nodes slot target list) 0 (put target slot (without slot zs)) (after_noted nodes slot target list inside slot_in target_in) (before_noted nodes slot target list inside slot_in target_in) put_in
