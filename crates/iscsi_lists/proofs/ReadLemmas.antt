-- What the nodes of a slot and of a head tell.
use Rattle.std.proofs.Common.{◌≡◌, ℕ, zero, suc, ◌+◌, ◌<◌, ◌≤◌, cond, List, [], ◌∷◌, ◌++◌, length, get_or, Some, None, refl, ap, sym, subst, ◌∙◌, arith, ⊎_elim}
use Rattle.std.proofs.lemmas.Bool.{cases_lt, lt-ltb, le-ltb}
use Rattle.std.proofs.lemmas.List.{get_or_default}
use Rattle.iscsi_slots.specs.Slots.{times}
use Rattle.iscsi_lists.specs.declared.link.Link.{Link}
use Rattle.iscsi_lists.specs.Lists.{Linked, times_in, first_of, last_of, end_of}
use Rattle.iscsi_lists.specs.Linking.{BLANK, node_at, after_of, before_of, list_of, a_slot, view_of, behind, flat, AreLinked, AreListed, AreKept, IsLinked}
use Rattle.iscsi_lists.proofs.WithoutLemmas.{times_same}
use Rattle.iscsi_lists.proofs.LinkLemmas.{linked_behind}
use Rattle.iscsi_lists.proofs.KeptLemmas.{kept_at, room_at, count_at}

pub node_read : (nodes : List Link) (i : ℕ) (n : Link) → n ≡ get_or nodes i n → i < length nodes → n ≡ node_at nodes i
node_read nodes i n read l = read ∙ get_or_default nodes i n BLANK l

pub times_of : (i s : ℕ) (lists : List (List ℕ)) → i < length lists → times s (get_or lists i []) ≤ times_in s lists
times_of i s [] l = absurd (omega (arith, l))
times_of zero s (xs ∷ lists) l = omega arith
times_of (suc i) s (xs ∷ lists) l = let rest = times_of i s lists (omega (arith, l)) in omega (arith, rest)

pub listed_at : (nodes : List Link) (k i s : ℕ) (lists : List (List ℕ)) → AreListed nodes k lists → i < length lists → 1 ≤ times s (get_or lists i []) → list_of nodes s ≡ k + i
listed_at nodes k i s [] listed l some = absurd (omega (arith, l))
listed_at nodes k zero s (xs ∷ lists) listed l some = listed.0 s some ∙ omega arith
listed_at nodes k (suc i) s (xs ∷ lists) listed l some = listed_at nodes (suc k) i s lists listed.1 (omega (arith, l)) some ∙ omega arith

pub end_there : (s : ℕ) (slots : List ℕ) → 1 ≤ times (end_of s slots) (s ∷ slots)
end_there s [] = let a = times_same s s [] refl in omega (arith, a)
end_there s (t ∷ slots) = let rest = end_there t slots in omega (arith, rest)

pub listed_below : (nodes : List Link) (k s : ℕ) (lists : List (List ℕ)) → AreListed nodes k lists → 1 ≤ times_in s lists → list_of nodes s < k + length lists
listed_below nodes k s [] listed some = absurd (omega (arith, some))
listed_below nodes k s (xs ∷ lists) listed some = ⊎_elim
    (λ here. let a = listed.0 s here in omega (arith, a))
    (λ none. let a = listed_below nodes (suc k) s lists listed.1 (omega (arith, none, some)) in omega (arith, a))
    (cases_lt 0 (times s xs))

-- the slots of a list, behind its head and before the next one
record Part (nodes : List Link) (h : ℕ) (xs : List ℕ) : Type 0 where
  rest : List ℕ
  chain : AreLinked nodes h (xs ++ suc h ∷ rest)

part_of : (nodes : List Link) (n i h : ℕ) (lists : List (List ℕ)) → AreLinked nodes n (behind n lists) → i < length lists → h ≡ n + i → Part nodes h (get_or lists i [])
part_of nodes n i h [] l there at = absurd (omega (arith, there))
part_of nodes n zero h (xs ∷ lists) l there at = let same : n ≡ h = omega (arith, at) in subst (λ k. Part nodes k xs) same (record { rest = behind (suc n) lists; chain = l })
part_of nodes n (suc i) h (xs ∷ lists) l there at =
    let after : AreLinked nodes (end_of n xs) (flat (suc n) lists) = linked_behind nodes n xs (flat (suc n) lists) l in
    part_of nodes (suc n) i h lists after.1 (omega (arith, there)) (omega (arith, at))

first_after : (nodes : List Link) (room x : ℕ) (xs : List ℕ) (g : ℕ) (ys : List ℕ) → AreLinked nodes x (xs ++ g ∷ ys) → ((s : ℕ) → 1 ≤ times s xs → s ≤ room) → room < g → a_slot room (after_of nodes x) ≡ first_of xs
first_after nodes room x [] g ys l low past = ap (a_slot room) l.0.after ∙ ap (λ b. cond b None (Some g)) (lt-ltb room g past)
first_after nodes room x (y ∷ xs) g ys l low past = ap (a_slot room) l.0.after ∙ ap (λ b. cond b None (Some y)) (le-ltb room y (low y (let a = times_same y y xs refl in omega (arith, a))))

last_before : (room h : ℕ) (xs : List ℕ) → ((s : ℕ) → 1 ≤ times s xs → s ≤ room) → room < h → a_slot room (end_of h xs) ≡ last_of xs
last_before room h [] low past = ap (λ b. cond b None (Some h)) (lt-ltb room h past)
last_before room h (y ∷ xs) low past = ap (λ b. cond b None (Some (end_of y xs))) (le-ltb room (end_of y xs) (low (end_of y xs) (end_there y xs)))

append_again : (xs : List ℕ) (s : ℕ) (ys zs : List ℕ) → (xs ++ s ∷ ys) ++ zs ≡ xs ++ s ∷ (ys ++ zs)
append_again [] s ys zs = refl
append_again (x ∷ xs) s ys zs = ap (λ r. x ∷ r) (append_again xs s ys zs)

pub times_behind : (t s : ℕ) (xs ys : List ℕ) → times t ys ≤ times t (xs ++ s ∷ ys)
times_behind t s [] ys = omega arith
times_behind t s (x ∷ xs) ys = let rest = times_behind t s xs ys in omega (arith, rest)

pub times_before : (t s : ℕ) (xs ys : List ℕ) → times t xs ≤ times t (xs ++ s ∷ ys)
times_before t s [] ys = omega arith
times_before t s (x ∷ xs) ys = let rest = times_before t s xs ys in omega (arith, rest)

module _ {nodes : List Link} {n room : ℕ} (is : IsLinked nodes n room) {v : Linked} (view : view_of nodes n room ≡ v) where
  kept : AreKept nodes v
  kept = kept_at is view

  same : v.room ≡ room
  same = room_at is view

  chain_of_lists : AreLinked nodes (v.room + 1) (behind (v.room + 1) v.lists)
  chain_of_lists = let after : AreLinked nodes (end_of 0 v.free) (flat (v.room + 1) v.lists) = linked_behind nodes 0 v.free (flat (v.room + 1) v.lists) kept.chain in after.1

  module _ (i : ℕ) (l : i < length v.lists) where
    part : Part nodes (room + 1 + i) (get_or v.lists i [])
    part = part_of nodes (v.room + 1) i (room + 1 + i) v.lists chain_of_lists l (let a = same in omega (arith, a))

    low : (s : ℕ) → 1 ≤ times s (get_or v.lists i []) → s ≤ room
    low s some = let a = times_of i s v.lists l in let b = kept.apart.within s (omega (arith, a, some)) in let c = same in omega (arith, b, c)

    pub head_inside : room + 1 + i < length nodes
    head_inside = let a = kept.long in let b = same in omega (arith, a, b, l)

    pub first_is : a_slot room (after_of nodes (room + 1 + i)) ≡ first_of (get_or v.lists i [])
    first_is = first_after nodes room (room + 1 + i) (get_or v.lists i []) (suc (room + 1 + i)) part.rest part.chain low (omega arith)

    module _ (slot : ℕ) (before after : List ℕ) (at : get_or v.lists i [] ≡ before ++ slot ∷ after) where
      chain_at : AreLinked nodes (end_of (room + 1 + i) before) (slot ∷ (after ++ suc (room + 1 + i) ∷ part.rest))
      chain_at = linked_behind nodes (room + 1 + i) before (slot ∷ (after ++ suc (room + 1 + i) ∷ part.rest))
          (subst (AreLinked nodes (room + 1 + i)) (ap (λ xs. xs ++ suc (room + 1 + i) ∷ part.rest) at ∙ append_again before slot after (suc (room + 1 + i) ∷ part.rest)) part.chain)

      low_at : (s : ℕ) → 1 ≤ times s (before ++ slot ∷ after) → s ≤ room
      low_at s some = low s (subst (λ xs. 1 ≤ times s xs) (sym at) some)

      pub next_is : a_slot room (after_of nodes slot) ≡ first_of after
      next_is = first_after nodes room slot after (suc (room + 1 + i)) part.rest chain_at.1 (λ s some. low_at s (let a = times_behind s slot before after in omega (arith, a, some))) (omega arith)

      pub previous_is : a_slot room (before_of nodes slot) ≡ last_of before
      previous_is = ap (a_slot room) chain_at.0.before ∙ last_before room (room + 1 + i) before (λ s some. low_at s (let a = times_before s slot before after in omega (arith, a, some))) (omega arith)

    pub list_is : (slot : ℕ) → 1 ≤ times slot (get_or v.lists i []) → list_of nodes slot ≡ i
    list_is slot some = listed_at nodes 0 i slot v.lists kept.listed l some ∙ omega arith

  pub node_inside : (slot : ℕ) → slot ≤ v.room → slot < length nodes
  node_inside slot within = let a = kept.long in omega (arith, a, within)

  -- what stands before the head of the first list is the last free slot
  pub last_is : before_of nodes (room + 1) ≡ end_of 0 v.free
  last_is = ap (λ r. before_of nodes (r + 1)) (sym same) ∙ (let after : AreLinked nodes (end_of 0 v.free) (flat (v.room + 1) v.lists) = linked_behind nodes 0 v.free (flat (v.room + 1) v.lists) kept.chain in after.0.before)

  pub first_inside : room + 1 < length nodes
  first_inside = let a = kept.long in let b = same in omega (arith, a, b)

  pub slot_at_room : (slot : ℕ) → slot ≤ room → slot < length nodes
  slot_at_room slot within = let a = kept.long in let b = same in omega (arith, a, b, within)

  -- a slot whose list is known is in it
  pub held : (slot : ℕ) → 1 ≤ slot → slot ≤ room → (list_of nodes slot ≡ 4294967295 → ⊥) → 1 ≤ times_in slot v.lists
  held slot some within known = ⊎_elim
      (λ there. there)
      (λ none. let one = kept.apart.once slot some (let a = same in omega (arith, a, within)) in absurd (known (kept.freed slot (omega (arith, one, none)))))
      (cases_lt 0 (times_in slot v.lists))

  pub known : (slot : ℕ) → 1 ≤ times_in slot v.lists → list_of nodes slot < 4294967295
  known slot there = let a = listed_below nodes 0 slot v.lists kept.listed there in let b = count_at is view in let c = is.short in omega (arith, a, b, c)

  pub slot_low : (slot : ℕ) → 1 ≤ times_in slot v.lists → (1 ≤ slot) × (slot ≤ room)
  slot_low slot there = let a = kept.apart.some slot (omega (arith, there)) in let b = kept.apart.within slot (omega (arith, there)) in let c = same in (a, omega (arith, b, c))

  pub free_some : (s : ℕ) → 1 ≤ times s v.free → 1 ≤ s
  free_some s there = kept.apart.some s (omega (arith, there))

pub last_not_0 : (xs : List ℕ) → ((s : ℕ) → 1 ≤ times s xs → 1 ≤ s) → 1 ≤ length xs → 1 ≤ end_of 0 xs
last_not_0 [] some l = absurd (omega (arith, l))
last_not_0 (x ∷ xs) some l = some (end_of x xs) (end_there x xs)

pub last_some : (xs : List ℕ) → 1 ≤ length xs → last_of xs ≡ Some (end_of 0 xs)
last_some [] l = absurd (omega (arith, l))
last_some (x ∷ xs) l = refl

pub last_there : (xs : List ℕ) → 1 ≤ length xs → 1 ≤ times (end_of 0 xs) xs
last_there [] l = absurd (omega (arith, l))
last_there (x ∷ xs) l = end_there x xs

pub none_of_0 : (xs : List ℕ) → ((s : ℕ) → 1 ≤ times s xs → 1 ≤ s) → end_of 0 xs ≡ 0 → xs ≡ []
none_of_0 [] some e = refl
none_of_0 (x ∷ xs) some e = let a = some (end_of x xs) (end_there x xs) in absurd (omega (arith, a, e))
