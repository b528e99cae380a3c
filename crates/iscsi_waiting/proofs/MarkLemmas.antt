-- Slots in lists by their marks, as one of them changes.
use Rattle.std.proofs.Common.{◌≡◌, ◌≢◌, ℕ, zero, suc, ◌+◌, ◌<◌, ◌≤◌, ◌==◌, cond, Bool, true, false, List, [], ◌∷◌, ◌++◌, length, map, get_or, refl, ap, sym, subst, ◌∙◌, arith, ⊎_elim, eq-eqb, ne_eqb}
use Rattle.std.proofs.lemmas.Bool.{cases_eq, cases_lt, eqb-true}
use Rattle.std.proofs.lemmas.List.{get_or-set_same, get_or-set_other, length-set, length-map}
use Rattle.iscsi_slots.specs.Slots.{times}
use Rattle.iscsi_slots.proofs.SlotLemmas.{times_append}
use Rattle.iscsi_lists.specs.Lists.{Listed, AreApart, linked_in, times_in, without, with_last}
use Rattle.iscsi_lists.proofs.WithoutLemmas.{times_same, times_other, times_without, times_without_other, without_none}
use Rattle.iscsi_lists.proofs.PlaceLemmas.{nth_map}
use Rattle.iscsi_waiting.specs.Kept.{GoesTo}
use Rattle.iscsi_waiting.specs.Marks.{AreMarked, slots_at, value_at}

-- ---- where a slot stands

pub times_any : (s k : ℕ) (lists : List (List ℕ)) → times s (get_or lists k []) ≤ times_in s lists
times_any s zero [] = omega arith
times_any s (suc k) [] = omega arith
times_any s zero (xs ∷ lists) = omega arith
times_any s (suc k) (xs ∷ lists) = let rest = times_any s k lists in omega (arith, rest)

times_two : (s k : ℕ) (lists : List (List ℕ)) → 1 ≤ k → times s (get_or lists 0 []) + times s (get_or lists k []) ≤ times_in s lists
times_two s zero lists low = absurd (omega (arith, low))
times_two s (suc k) [] low = omega arith
times_two s (suc k) (xs ∷ lists) low = let rest = times_any s k lists in omega (arith, rest)

pub once_in : {X : Type 0} (v : Listed X) → AreApart (linked_in v) → (slot : ℕ) → times_in slot v.lists ≤ 1
once_in v known slot = ⊎_elim
    (λ there.
    let some : 1 ≤ times slot v.free + times_in slot v.lists = omega (arith, there) in
    let one = known.once slot (known.some slot some) (known.within slot some) in omega (arith, one))
    (λ none. omega (arith, none))
    (cases_lt 0 (times_in slot v.lists))

-- a list that has it
pub record StandsIn (slot : ℕ) (lists : List (List ℕ)) : Type 0 where
  pub list : ℕ
  pub within : list < length lists
  pub there : 1 ≤ times slot (get_or lists list [])

pub stands_in : (slot : ℕ) (lists : List (List ℕ)) → 1 ≤ times_in slot lists → StandsIn slot lists
stands_in slot [] there = absurd (omega (arith, there))
stands_in slot (xs ∷ lists) there = ⊎_elim
    (λ here. record { list = 0; within = omega arith; there = here })
    (λ none.
    let rest = stands_in slot lists (omega (arith, none, there)) in
    record { list = suc rest.list; within = let w = rest.within in omega (arith, w); there = rest.there })
    (cases_lt 0 (times slot xs))

-- where a slot is said to be
pub told_in : (slot : ℕ) (lists : List (List ℕ)) → 1 ≤ times_in slot lists → (list : ℕ) → ((i : ℕ) → i < length lists → 1 ≤ times slot (get_or lists i []) → list ≡ i)
    → (list < length lists) × (1 ≤ times slot (get_or lists list []))
told_in slot lists there list told =
    let st = stands_in slot lists there in
    let same : list ≡ st.list = told st.list st.within st.there in
    (subst (λ k. k < length lists) (sym same) st.within, subst (λ k. 1 ≤ times slot (get_or lists k [])) (sym same) st.there)

-- ---- a slot goes to the end of a list, from any of them

module _ (m p : Listed ℕ) (list slot : ℕ) (is : p ≡ record m { lists = with_last list slot (map (without slot) m.lists) }) where
  abbrev left : List (List ℕ)
  left = map (without slot) m.lists

  pub moved_other : (k : ℕ) → k ≢ list → slots_at p k ≡ without slot (slots_at m k)
  moved_other k other = ap (λ (u : Listed ℕ). slots_at u k) is ∙ get_or-set_other left list k (get_or left list [] ++ slot ∷ []) [] other ∙ nth_map slot k m.lists

  pub moved_here : list < length m.lists → slots_at p list ≡ without slot (slots_at m list) ++ slot ∷ []
  moved_here l =
      ap (λ (u : Listed ℕ). slots_at u list) is
      ∙ get_or-set_same left list (get_or left list [] ++ slot ∷ []) [] (let a = length-map m.lists (without slot) in omega (arith, a, l))
      ∙ ap (λ r. r ++ slot ∷ []) (nth_map slot list m.lists)

  pub moved_long : length p.lists ≡ length m.lists
  moved_long = ap (λ (u : Listed ℕ). length u.lists) is ∙ length-set left list (get_or left list [] ++ slot ∷ []) ∙ length-map m.lists (without slot)

  pub moved_free : p.free ≡ m.free
  moved_free = ap (λ (u : Listed ℕ). u.free) is

  pub moved_room : p.room ≡ m.room
  moved_room = ap (λ (u : Listed ℕ). u.room) is

  pub moved_off : (k : ℕ) → k ≢ list → times slot (slots_at p k) ≡ 0
  moved_off k other = ap (times slot) (moved_other k other) ∙ times_without slot (slots_at m k)

  module _ (l : list < length m.lists) where
    pub moved_to : times slot (slots_at p list) ≡ 1
    moved_to =
        let a = ap (times slot) (moved_here l) in
        let b = times_append slot (without slot (slots_at m list)) (slot ∷ []) in
        let c = times_without slot (slots_at m list) in let d = times_same slot slot [] refl in omega (arith, a, b, c, d)

    -- the other slots stay
    pub moved_times : (k x : ℕ) → x ≢ slot → times x (slots_at p k) ≡ times x (slots_at m k)
    moved_times k x apart = ⊎_elim
        (λ (same : k ≡ list).
        let a = ap (times x) (ap (slots_at p) same ∙ moved_here l) in
        let b = times_append x (without slot (slots_at m list)) (slot ∷ []) in
        let c = times_other x slot [] (λ e. apart (sym e)) in
        let d = times_without_other slot x (slots_at m list) apart in
        let f = ap (λ n. times x (slots_at m n)) same in omega (arith, a, b, c, d, f))
        (λ other. ap (times x) (moved_other k other) ∙ times_without_other slot x (slots_at m k) apart)
        (cases_eq k list)

-- it went there, or stays in the first one
module _ (m : Listed ℕ) (list slot : ℕ) where
  abbrev target : Listed ℕ
  target = record m { lists = with_last list slot (map (without slot) m.lists) }

  pub goes_moved : (p : Listed ℕ) → p ≡ target → GoesTo m p list slot
  goes_moved p is = record {
    free = moved_free m p list slot is;
    room = moved_room m p list slot is;
    long = moved_long m p list slot is;
    lists = λ k low. ap (λ (u : Listed ℕ). slots_at u k) is;
  }

  pub goes_nowhere : list ≡ 0 → AreApart (linked_in m) → 1 ≤ times_in slot m.lists → (told : ℕ) → told ≡ 0 → ((i : ℕ) → i < length m.lists → 1 ≤ times slot (get_or m.lists i []) → told ≡ i) → GoesTo m m list slot
  goes_nowhere first known there told is tells = record {
    free = refl;
    room = refl;
    long = refl;
    lists = λ k low. sym (moved_other m target list slot refl k (λ e. omega (arith, e, first, low)) ∙ without_none slot (slots_at m k) (none k low));
  }
    where
      here : 1 ≤ times slot (get_or m.lists 0 [])
      here = subst (λ i. 1 ≤ times slot (get_or m.lists i [])) is (told_in slot m.lists there told tells).1

      none : (k : ℕ) → 1 ≤ k → times slot (slots_at m k) ≡ 0
      none k low = let two = times_two slot k m.lists low in let one = once_in m known slot in let a = here in omega (arith, two, one, a)

-- ---- by marks

-- the same lists from 1 on have the same marks
pub alike_marked : {X : Type 0} (blank : X) (mark : X → ℕ) (v : Listed X) (m p : Listed ℕ) (list slot : ℕ) → GoesTo m p list slot
    → AreMarked blank mark v (record m { lists = with_last list slot (map (without slot) m.lists) }) → AreMarked blank mark v p
alike_marked blank mark v m p list slot goes are = record {
  all = goes.free ∙ are.all;
  room = goes.room ∙ are.room;
  some = let a = goes.long in let b = moved_long m (record m { lists = with_last list slot (map (without slot) m.lists) }) list slot refl in let c = are.some in omega (arith, a, b, c);
  marks = λ k s low. ap (times s) (goes.lists k low) ∙ are.marks k s low;
}

-- nothing but this slot changes
pub record Elsewhere {X : Type 0} (blank : X) (v t : Listed X) (slot : ℕ) : Type 0 where
  pub values : (s : ℕ) → s ≢ slot → value_at blank t s ≡ value_at blank v s
  pub waits : (s : ℕ) → s ≢ slot → times_in s t.lists ≡ times_in s v.lists
  pub room : t.room ≡ v.room

-- so many where the test holds
abbrev pub where_so : Bool → ℕ → ℕ
where_so b n = cond b n 0

pub no_matter : (b : Bool) → where_so b 0 ≡ 0
no_matter true = refl
no_matter false = refl

module _ {X : Type 0} (blank : X) (mark : X → ℕ) (v : Listed X) (m : Listed ℕ) (are : AreMarked blank mark v m) where
  -- a slot stands in a list by its mark, and waits
  pub waits_by : (k s : ℕ) → 1 ≤ k → 1 ≤ times s (slots_at m k) → (1 ≤ times_in s v.lists) × (mark (value_at blank v s) ≡ k)
  waits_by k s low there = by (mark (value_at blank v s) == k) refl
    where
      by : (b : Bool) → (mark (value_at blank v s) == k) ≡ b → (1 ≤ times_in s v.lists) × (mark (value_at blank v s) ≡ k)
      by true e =
          let a : times s (slots_at m k) ≡ times_in s v.lists = are.marks k s low ∙ ap (λ (b : Bool). cond b (times_in s v.lists) 0) e in
          (omega (arith, a, there), eqb-true (mark (value_at blank v s)) k e)
      by false e =
          let a : times s (slots_at m k) ≡ 0 = are.marks k s low ∙ ap (λ (b : Bool). cond b (times_in s v.lists) 0) e in absurd (omega (arith, a, there))

  pub stands_by : (k s : ℕ) → 1 ≤ k → mark (value_at blank v s) ≡ k → 1 ≤ times_in s v.lists → 1 ≤ times s (slots_at m k)
  stands_by k s low of_mark waits =
      let a : times s (slots_at m k) ≡ times_in s v.lists = are.marks k s low ∙ ap (λ (b : Bool). cond b (times_in s v.lists) 0) (eq-eqb (mark (value_at blank v s)) k of_mark) in
      omega (arith, a, waits)

  -- each slot is in one of the lists
  pub all_in : AreApart (linked_in m) → (s : ℕ) → 1 ≤ s → s ≤ v.room → 1 ≤ times_in s m.lists
  all_in known s low high =
      let one = known.once s low (let a = are.room in omega (arith, a, high)) in let a = ap (times s) are.all in omega (arith, one, a)

  module _ (t : Listed X) (slot : ℕ) (rest : Elsewhere blank v t slot) where
    pub stays_marked : mark (value_at blank t slot) ≡ mark (value_at blank v slot) → times_in slot t.lists ≡ times_in slot v.lists → AreMarked blank mark t m
    stays_marked same_mark same_times = record {
      all = are.all;
      room = are.room ∙ sym rest.room;
      some = are.some;
      marks = λ k s low.
          are.marks k s low
          ∙ ap (λ n. cond (n == k) (times_in s v.lists) 0) (sym (mark_at s))
          ∙ ap (λ n. cond (mark (value_at blank t s) == k) n 0) (sym (times_at s));
    }
      where
        mark_at : (s : ℕ) → mark (value_at blank t s) ≡ mark (value_at blank v s)
        mark_at s = ⊎_elim
            (λ (same : s ≡ slot). subst (λ n. mark (value_at blank t n) ≡ mark (value_at blank v n)) (sym same) same_mark)
            (λ other. ap mark (rest.values s other))
            (cases_eq s slot)

        times_at : (s : ℕ) → times_in s t.lists ≡ times_in s v.lists
        times_at s = ⊎_elim
            (λ (same : s ≡ slot). subst (λ n. times_in n t.lists ≡ times_in n v.lists) (sym same) same_times)
            (λ other. rest.waits s other)
            (cases_eq s slot)

    -- its slot goes to another list
    module _ (p : Listed ℕ) (list : ℕ) (is : p ≡ record m { lists = with_last list slot (map (without slot) m.lists) }) (l : list < length m.lists) where
      remarked : ((k : ℕ) → 1 ≤ k → times slot (slots_at p k) ≡ cond (mark (value_at blank t slot) == k) (times_in slot t.lists) 0) → AreMarked blank mark t p
      remarked here = record {
        all = moved_free m p list slot is ∙ are.all;
        room = moved_room m p list slot is ∙ are.room ∙ sym rest.room;
        some = let a = moved_long m p list slot is in let b = are.some in omega (arith, a, b);
        marks = λ k s low. ⊎_elim
            (λ (same : s ≡ slot). subst (λ n. times n (slots_at p k) ≡ cond (mark (value_at blank t n) == k) (times_in n t.lists) 0) (sym same) (here k low))
            (λ other.
            moved_times m p list slot is l k s other ∙ are.marks k s low
            ∙ ap (λ x. cond (mark x == k) (times_in s v.lists) 0) (sym (rest.values s other))
            ∙ ap (λ n. cond (mark (value_at blank t s) == k) n 0) (sym (rest.waits s other)))
            (cases_eq s slot);
      }

      -- that of its mark, where it waits
      pub marked_in : mark (value_at blank t slot) ≡ list → times_in slot t.lists ≡ 1 → AreMarked blank mark t p
      marked_in of_mark one = remarked (λ k low. ⊎_elim
          (λ (same : k ≡ list).
          ap (λ n. times slot (slots_at p n)) same ∙ moved_to m p list slot is l ∙ sym one
          ∙ ap (λ (b : Bool). cond b (times_in slot t.lists) 0) (sym (eq-eqb (mark (value_at blank t slot)) k (of_mark ∙ sym same))))
          (λ other.
          moved_off m p list slot is k other
          ∙ ap (λ (b : Bool). cond b (times_in slot t.lists) 0) (sym (ne_eqb (mark (value_at blank t slot)) k (λ e. other (sym e ∙ of_mark)))))
          (cases_eq k list))

      -- the first one, where it waits no more
      pub marked_out : list ≡ 0 → times_in slot t.lists ≡ 0 → AreMarked blank mark t p
      marked_out first none = remarked (λ k low.
          moved_off m p list slot is k (λ e. omega (arith, e, first, low))
          ∙ sym (ap (λ n. cond (mark (value_at blank t slot) == k) n 0) none ∙ no_matter (mark (value_at blank t slot) == k)))

      -- the first one, where it has that mark from now on
      pub marked_first : list ≡ 0 → mark (value_at blank t slot) ≡ 0 → AreMarked blank mark t p
      marked_first first of_mark = remarked (λ k low.
          moved_off m p list slot is k (λ e. omega (arith, e, first, low))
          ∙ ap (λ (b : Bool). cond b (times_in slot t.lists) 0) (sym (ne_eqb (mark (value_at blank t slot)) k (λ e. omega (arith, e, of_mark, low)))))
