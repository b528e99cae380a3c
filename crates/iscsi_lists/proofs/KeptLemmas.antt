-- The chain of all slots stays one as a slot moves.
use Rattle.std.proofs.Common.{◌≡◌, ◌≢◌, ℕ, zero, suc, ◌+◌, ◌<◌, ◌≤◌, cond, List, [], ◌∷◌, ◌++◌, length, map, get_or, refl, ap, sym, subst, ◌∙◌, arith, ⊎_elim}
use Rattle.std.proofs.lemmas.Bool.{cases_eq, cases_lt, lt-ltb, le-ltb}
use Rattle.std.proofs.lemmas.List.{length-set, length-map, length_push}
use Rattle.iscsi_slots.specs.Slots.{times}
use Rattle.iscsi_slots.proofs.SlotLemmas.{times_append}
use Rattle.iscsi_lists.specs.declared.link.Link.{Link}
use Rattle.iscsi_lists.specs.Lists.{Linked, linked, AreApart, times_in, total, without, with_last, freed, moved, end_of}
use Rattle.iscsi_lists.specs.Linking.{NO_LIST, after_of, list_of, moved_before, walk, slots_of, lists_from, view_of, behind, flat, AreLinked, AreListed, AreKept, IsLinked}
use Rattle.iscsi_lists.proofs.WithoutLemmas.{times_same, times_other, times_without, times_without_other, without_append, length_without, put, put_append_flat, put_first, without_flat, times_low, times_head, head_there, end_append, end_flat, times_in_without, times_in_other, times_in_with, total_without, total_with}
use Rattle.iscsi_lists.proofs.LinkLemmas.{linked_moved, linked_behind, inside_moved, long_moved, list_here, list_else}

-- ---- each slot knows its list

listed_without : (nodes now : List Link) (slot : ℕ) → ((j : ℕ) → j ≢ slot → list_of now j ≡ list_of nodes j) → (k : ℕ) (lists : List (List ℕ)) → AreListed nodes k lists → AreListed now k (map (without slot) lists)
listed_without nodes now slot same k [] l = tt
listed_without nodes now slot same k (xs ∷ lists) l = (
  λ s some. ⊎_elim
      (λ (e : s ≡ slot). let none = subst (λ t. times t (without slot xs) ≡ 0) (sym e) (times_without slot xs) in absurd (omega (arith, some, none)))
      (λ other. same s other ∙ l.0 s (let a = times_without_other slot s xs other in omega (arith, a, some)))
      (cases_eq s slot),
  listed_without nodes now slot same (suc k) lists l.1,
)

listed_with : (nodes : List Link) (k i slot : ℕ) (lists : List (List ℕ)) → AreListed nodes k lists → list_of nodes slot ≡ k + i → AreListed nodes k (with_last i slot lists)
listed_with nodes k i slot [] l at = tt
listed_with nodes k zero slot (xs ∷ lists) l at = (
  λ s some. ⊎_elim
      (λ (e : s ≡ slot). ap (list_of nodes) e ∙ at ∙ (omega arith))
      (λ other. l.0 s (let a = times_append s xs (slot ∷ []) in let b = times_other s slot [] (λ e. other (sym e)) in omega (arith, a, b, some)))
      (cases_eq s slot),
  l.1,
)
listed_with nodes k (suc i) slot (xs ∷ lists) l at = (l.0, listed_with nodes (suc k) i slot lists l.1 (at ∙ omega arith))

-- ---- a slot moves

module _ {nodes : List Link} {v : Linked} (kept : AreKept nodes v) (slot : ℕ) (some : 1 ≤ slot) (within : slot ≤ v.room) where
  abbrev chain : List ℕ
  chain = v.free ++ flat (v.room + 1) v.lists

  slot_once : times slot chain ≡ 1
  slot_once =
      let a = times_append slot v.free (flat (v.room + 1) v.lists) in let b = times_low (v.room + 1) v.lists slot (omega (arith, within)) in
      let c = kept.apart.once slot some within in omega (arith, a, b, c)

  pub past_none : (t : ℕ) → v.room < t → times t v.free + times_in t v.lists ≡ 0
  past_none t past = ⊎_elim
      (λ there. let w = kept.apart.within t (omega (arith, there)) in absurd (omega (arith, w, past)))
      (λ none. omega (arith, none))
      (cases_lt 0 (times t v.free + times_in t v.lists))

  head_once : (t : ℕ) → v.room + 1 ≤ t → t ≤ v.room + 1 + length v.lists → times t chain ≡ 1
  head_once t low high =
      let a = times_append t v.free (flat (v.room + 1) v.lists) in
      let none = past_none t (omega (arith, low)) in
      let b = times_head (v.room + 1) v.lists t (omega (arith, none)) in
      let c = head_there (v.room + 1) v.lists t low high in omega (arith, a, b, c, none)

  not_last : slot ≢ end_of 0 chain
  not_last e =
      let a : end_of 0 chain ≡ v.room + 1 + length v.lists = end_append 0 v.free (flat (v.room + 1) v.lists) ∙ end_flat (end_of 0 v.free) (v.room + 1) v.lists in
      absurd (omega (arith, a, e, within))

  without_chain : without slot chain ≡ without slot v.free ++ flat (v.room + 1) (map (without slot) v.lists)
  without_chain = without_append slot v.free (flat (v.room + 1) v.lists) ∙ ap (λ r. without slot v.free ++ r) (without_flat (v.room + 1) v.lists slot (omega (arith, within)))

  pub slot_in : slot < length nodes
  slot_in = let a = kept.long in omega (arith, a, within)

  module _ (target list : ℕ) (low : v.room + 1 ≤ target) (high : target ≤ v.room + 1 + length v.lists) where
    pub target_in : target < length nodes
    target_in = let a = kept.long in omega (arith, a, high)

    chain_moved : AreLinked (moved_before nodes slot target list) 0 (put target slot (without slot v.free ++ flat (v.room + 1) (map (without slot) v.lists)))
    chain_moved = subst (λ c. AreLinked (moved_before nodes slot target list) 0 (put target slot c)) without_chain
        (linked_moved nodes slot target list chain kept.inside slot_in target_in some (λ e. omega (arith, e, low, within)) slot_once (head_once target low high) not_last kept.chain)

    free_none : times target (without slot v.free) ≡ 0
    free_none = let a = times_without_other slot target v.free (λ e. omega (arith, e, low, within)) in let b = past_none target (omega (arith, low)) in omega (arith, a, b)

    lists_none : times_in target (map (without slot) v.lists) ≡ 0
    lists_none = let a = times_in_other slot target v.lists (λ e. omega (arith, e, low, within)) in let b = past_none target (omega (arith, low)) in omega (arith, a, b)

  apart_again : (free : List ℕ) (lists : List (List ℕ)) → (times slot free + times_in slot lists ≡ 1) → ((t : ℕ) → t ≢ slot → times t free + times_in t lists ≡ times t v.free + times_in t v.lists) → length free + total lists ≡ v.room → AreApart (linked free lists v.room)
  apart_again free lists here else all = record {
    once = λ t low high. ⊎_elim
        (λ same. subst (λ s. times s free + times_in s lists ≡ 1) (sym same) here)
        (λ other. else t other ∙ kept.apart.once t low high)
        (cases_eq t slot);
    some = λ t there. ⊎_elim
        (λ same. omega (arith, same, some))
        (λ other. let e = else t other in kept.apart.some t (omega (arith, e, there)))
        (cases_eq t slot);
    within = λ t there. ⊎_elim
        (λ same. omega (arith, same, within))
        (λ other. let e = else t other in kept.apart.within t (omega (arith, e, there)))
        (cases_eq t slot);
    all = all;
  }

  one_here : times slot (slot ∷ []) ≡ 1
  one_here = times_same slot slot [] refl

  -- the slot is put to the end of a list

  module _ (i : ℕ) (l : i < length v.lists) where
    l_now : i < length (map (without slot) v.lists)
    l_now = let a = length-map v.lists (without slot) in omega (arith, a, l)

    apart_moved : AreApart (moved slot i v)
    apart_moved = apart_again (without slot v.free) (with_last i slot (map (without slot) v.lists))
        (let a = times_without slot v.free in let b = times_in_with i slot slot (map (without slot) v.lists) l_now in let c = times_in_without slot v.lists in let d = one_here in omega (arith, a, b, c, d))
        (λ t other. let a = times_without_other slot t v.free other in let b = times_in_with i slot t (map (without slot) v.lists) l_now in let c = times_in_other slot t v.lists other in let d = times_other t slot [] (λ e. other (sym e)) in omega (arith, a, b, c, d))
        (let a = length_without slot v.free in let b = total_with i slot (map (without slot) v.lists) l_now in let c = total_without slot v.lists in let d = kept.apart.once slot some within in let e = kept.apart.all in omega (arith, a, b, c, d, e))

    pub long_lists : length (with_last i slot (map (without slot) v.lists)) ≡ length v.lists
    long_lists = length-set (map (without slot) v.lists) i (get_or (map (without slot) v.lists) i [] ++ slot ∷ []) ∙ length-map v.lists (without slot)

    pub kept_moved : AreKept (moved_before nodes slot (v.room + i + 2) i) (moved slot i v)
    kept_moved =
        let t : ℕ = v.room + i + 2 in
        let low : v.room + 1 ≤ t = omega arith in
        let high : t ≤ v.room + 1 + length v.lists = omega (arith, l) in
        record {
          chain = subst (AreLinked (moved_before nodes slot t i) 0)
              (put_append_flat (v.room + 1) (without slot v.free) (map (without slot) v.lists) i slot t l_now (omega arith) (free_none t i low high) (lists_none t i low high))
              (chain_moved t i low high);
          apart = apart_moved;
          listed = listed_with (moved_before nodes slot t i) 0 i slot (map (without slot) v.lists)
              (listed_without nodes (moved_before nodes slot t i) slot (list_else nodes slot t i kept.inside slot_in (target_in t i low high)) 0 v.lists kept.listed)
              (list_here nodes slot t i kept.inside slot_in (target_in t i low high) ∙ omega arith);
          freed = λ s there. ⊎_elim
              (λ (same : s ≡ slot). let none = subst (λ x. times x (without slot v.free) ≡ 0) (sym same) (times_without slot v.free) in absurd (omega (arith, none, there)))
              (λ other. list_else nodes slot t i kept.inside slot_in (target_in t i low high) s other ∙ kept.freed s (let c = times_without_other slot s v.free other in omega (arith, c, there)))
              (cases_eq s slot);
          inside = inside_moved nodes slot t i kept.inside slot_in (target_in t i low high);
          long = let a = long_moved nodes slot t i kept.inside slot_in (target_in t i low high) in let b = kept.long in let c = long_lists in omega (arith, a, b, c);
        }

  -- the slot is free

  apart_freed : AreApart (freed slot v)
  apart_freed = apart_again (without slot v.free ++ slot ∷ []) (map (without slot) v.lists)
      (let a = times_without slot v.free in let b = times_append slot (without slot v.free) (slot ∷ []) in let c = times_in_without slot v.lists in let d = one_here in omega (arith, a, b, c, d))
      (λ t other. let a = times_without_other slot t v.free other in let b = times_append t (without slot v.free) (slot ∷ []) in let c = times_in_other slot t v.lists other in let d = times_other t slot [] (λ e. other (sym e)) in omega (arith, a, b, c, d))
      (let a = length_without slot v.free in let b = length_push (without slot v.free) slot in let c = total_without slot v.lists in let d = kept.apart.once slot some within in let e = kept.apart.all in omega (arith, a, b, c, d, e))

  pub kept_freed : AreKept (moved_before nodes slot (v.room + 1) NO_LIST) (freed slot v)
  kept_freed =
      let t : ℕ = v.room + 1 in
      let low : v.room + 1 ≤ t = omega arith in
      let high : t ≤ v.room + 1 + length v.lists = omega arith in
      record {
        chain = subst (AreLinked (moved_before nodes slot t NO_LIST) 0) (put_first t slot (without slot v.free) (map (without slot) v.lists) (free_none t NO_LIST low high)) (chain_moved t NO_LIST low high);
        apart = apart_freed;
        listed = listed_without nodes (moved_before nodes slot t NO_LIST) slot (list_else nodes slot t NO_LIST kept.inside slot_in (target_in t NO_LIST low high)) 0 v.lists kept.listed;
        freed = λ s there. ⊎_elim
            (λ (same : s ≡ slot). ap (list_of (moved_before nodes slot t NO_LIST)) same ∙ list_here nodes slot t NO_LIST kept.inside slot_in (target_in t NO_LIST low high))
            (λ other. list_else nodes slot t NO_LIST kept.inside slot_in (target_in t NO_LIST low high) s other
            ∙ kept.freed s (let a = times_append s (without slot v.free) (slot ∷ []) in let b = times_other s slot [] (λ e. other (sym e)) in let c = times_without_other slot s v.free other in omega (arith, a, b, c, there)))
            (cases_eq s slot);
        inside = inside_moved nodes slot t NO_LIST kept.inside slot_in (target_in t NO_LIST low high);
        long = let a = long_moved nodes slot t NO_LIST kept.inside slot_in (target_in t NO_LIST low high) in let b = kept.long in let c = length-map v.lists (without slot) in omega (arith, a, b, c);
      }

-- ---- what nodes tell

walk_is : (nodes : List Link) (room x : ℕ) (xs : List ℕ) (h : ℕ) (ys : List ℕ) (fuel : ℕ) → AreLinked nodes x (xs ++ h ∷ ys) → ((s : ℕ) → 1 ≤ times s xs → s ≤ room) → room < h → length xs ≤ fuel → walk nodes room fuel (after_of nodes x) ≡ xs
walk_is nodes room x [] h ys zero l low past enough = refl
walk_is nodes room x [] h ys (suc fuel) l low past enough =
    ap (λ s. walk nodes room (suc fuel) s) l.0.after ∙ ap (λ b. cond b [] (h ∷ walk nodes room fuel (after_of nodes h))) (lt-ltb room h past)
walk_is nodes room x (y ∷ xs) h ys zero l low past enough = absurd (omega (arith, enough))
walk_is nodes room x (y ∷ xs) h ys (suc fuel) l low past enough =
    ap (λ s. walk nodes room (suc fuel) s) l.0.after
    ∙ ap (λ b. cond b [] (y ∷ walk nodes room fuel (after_of nodes y))) (le-ltb room y (low y (let a = times_same y y xs refl in omega (arith, a))))
    ∙ ap (λ r. y ∷ r) (walk_is nodes room y xs h ys fuel l.1 (λ s some. low s (omega (arith, some))) past (omega (arith, enough)))

lists_are : (nodes : List Link) (room n : ℕ) (lists : List (List ℕ)) → AreLinked nodes n (behind n lists) → ((s : ℕ) → 1 ≤ times_in s lists → s ≤ room) → room < n → total lists ≤ room → lists_from nodes room n (length lists) ≡ lists
lists_are nodes room n [] l low past enough = refl
lists_are nodes room n (xs ∷ lists) l low past enough =
    let after : AreLinked nodes (end_of n xs) (flat (suc n) lists) = linked_behind nodes n xs (flat (suc n) lists) l in
    ap (λ r. r ∷ lists_from nodes room (suc n) (length lists)) (walk_is nodes room n xs (suc n) (behind (suc n) lists) room l (λ s some. low s (omega (arith, some))) (omega (arith, past)) (omega (arith, enough)))
    ∙ ap (λ r. xs ∷ r) (lists_are nodes room (suc n) lists after.1 (λ s some. low s (omega (arith, some))) (omega (arith, past)) (omega (arith, enough)))

module _ {nodes : List Link} {v : Linked} (kept : AreKept nodes v) where
  pub free_is : slots_of nodes v.room 0 ≡ v.free
  free_is = walk_is nodes v.room 0 v.free (v.room + 1) (behind (v.room + 1) v.lists) v.room kept.chain (λ s there. kept.apart.within s (omega (arith, there))) (omega arith) (let a = kept.apart.all in omega (arith, a))

  pub lists_is : lists_from nodes v.room (v.room + 1) (length v.lists) ≡ v.lists
  lists_is =
      let after : AreLinked nodes (end_of 0 v.free) (flat (v.room + 1) v.lists) = linked_behind nodes 0 v.free (flat (v.room + 1) v.lists) kept.chain in
      lists_are nodes v.room (v.room + 1) v.lists after.1 (λ s there. kept.apart.within s (omega (arith, there))) (omega arith) (let a = kept.apart.all in omega (arith, a))

  pub view_is : (n room : ℕ) → length v.lists ≡ n → v.room ≡ room → view_of nodes n room ≡ v
  view_is n room long same =
      ap (λ r. view_of nodes n r) (sym same) ∙ ap (λ k. view_of nodes k v.room) (sym long)
      ∙ ap (λ f. linked f (lists_from nodes v.room (v.room + 1) (length v.lists)) v.room) free_is
      ∙ ap (λ ls. linked v.free ls v.room) lists_is

  -- nodes that keep lists are those of a value
  pub linked_again : (n room : ℕ) → length v.lists ≡ n → v.room ≡ room → room + n + 2 ≤ 4294967295 → IsLinked nodes n room
  linked_again n room long same short = record { kept = subst (AreKept nodes) (sym (view_is n room long same)) kept; short = short }

pub length_from : (nodes : List Link) (room h n : ℕ) → length (lists_from nodes room h n) ≡ n
length_from nodes room h zero = refl
length_from nodes room h (suc n) = ap suc (length_from nodes room (suc h) n)

-- ---- links, as their methods see them

module _ {nodes : List Link} {n room : ℕ} (is : IsLinked nodes n room) {v : Linked} (view : view_of nodes n room ≡ v) where
  pub kept_at : AreKept nodes v
  kept_at = subst (AreKept nodes) view is.kept

  pub room_at : v.room ≡ room
  room_at = sym (ap (λ (w : Linked). w.room) view)

  pub count_at : length v.lists ≡ n
  count_at = ap (λ (w : Linked). length w.lists) (sym view) ∙ length_from nodes room (room + 1) n

  module _ (slot : ℕ) (some : 1 ≤ slot) (within : slot ≤ v.room) where
    module _ (i : ℕ) (l : i < length v.lists) (now : List Link) (given : now ≡ moved_before nodes slot (room + i + 2) i) where
      kept_now : AreKept now (moved slot i v)
      kept_now = subst (λ ns. AreKept ns (moved slot i v)) (sym given) (subst (λ r. AreKept (moved_before nodes slot (r + i + 2) i) (moved slot i v)) room_at (kept_moved kept_at slot some within i l))

      long_now : length (with_last i slot (map (without slot) v.lists)) ≡ n
      long_now = long_lists kept_at slot some within i l ∙ count_at

      pub moved_links : IsLinked now n room
      moved_links = linked_again kept_now n room long_now room_at is.short

      pub moved_view : view_of now n room ≡ moved slot i v
      moved_view = view_is kept_now n room long_now room_at

      pub moved_apart : AreApart (view_of now n room)
      moved_apart = moved_links.kept.apart

    module _ (now : List Link) (given : now ≡ moved_before nodes slot (room + 1) NO_LIST) where
      kept_after : AreKept now (freed slot v)
      kept_after = subst (λ ns. AreKept ns (freed slot v)) (sym given) (subst (λ r. AreKept (moved_before nodes slot (r + 1) NO_LIST) (freed slot v)) room_at (kept_freed kept_at slot some within))

      long_after : length (map (without slot) v.lists) ≡ n
      long_after = length-map v.lists (without slot) ∙ count_at

      pub freed_links : IsLinked now n room
      freed_links = linked_again kept_after n room long_after room_at is.short

      pub freed_view : view_of now n room ≡ freed slot v
      freed_view = view_is kept_after n room long_after room_at

      pub freed_apart : AreApart (view_of now n room)
      freed_apart = freed_links.kept.apart

    pub slot_inside : slot < length nodes
    slot_inside = slot_in kept_at slot some within

  pub target_inside : (i : ℕ) → i < length v.lists → room + i + 2 < length nodes
  target_inside i l = let a = kept_at.long in let b = room_at in omega (arith, a, b, l)

  pub end_inside : room + 1 < length nodes
  end_inside = let a = kept_at.long in let b = room_at in omega (arith, a, b)

  pub list_fits : (i : ℕ) → i < length v.lists → room + i + 2 ≤ 4294967295
  list_fits i l = let a = count_at in let b = is.short in omega (arith, a, b, l)
