-- A walk over the slots of a connection's functions, and the one that it finds.
use Rattle.std.proofs.Common.{◌≡◌, ℕ, zero, suc, ◌+◌, ◌<◌, ◌≤◌, ◌||◌, Bool, true, false, cond, List, [], ◌∷◌, ◌++◌, length, map, find, get_or, set, Option, Some, None, refl, ap, sym, subst, ◌∙◌, arith, eq-eqb, ne_eqb}
use Rattle.std.specs.List.{list_any}
use Rattle.std.proofs.lemmas.Bool.{false≢true}
use Rattle.std.proofs.lemmas.List.{map-set, set-get_or}
use Rattle.iscsi_slots.specs.Slots.{times, values}
use Rattle.iscsi_slots.proofs.SlotLemmas.{times_append}
use Rattle.iscsi_lists.specs.Lists.{first_of, times_in, without}
use Rattle.iscsi_lists.proofs.WithoutLemmas.{map_without_none, none_behind, not_first, times_same, without_append, without_none, without_same}
use Rattle.iscsi_lists.proofs.ReadLemmas.{times_of}
use Rattle.iscsi_requests.specs.declared.functions.WaitingFunction.{WaitingFunction}
use Rattle.iscsi_requests.specs.Conns.{of_conn}
use Rattle.iscsi_requests.specs.Functions.{has_number, without_number}
use Rattle.iscsi_requests.specs.Kept.{IsFirst, IsWalk, NO_FUNCTION, from_slot, still_ahead, values_in}
use Rattle.iscsi_requests.proofs.ValueLemmas.{conn_values}

-- ---- where neither holds

or_left : (a b : Bool) → (a || b) ≡ false → a ≡ false
or_left true b e = e
or_left false b e = refl

or_right : (a b : Bool) → (a || b) ≡ false → b ≡ false
or_right true b e = absurd (false≢true (sym e))
or_right false b e = e

or_none : (a b : Bool) → a ≡ false → b ≡ false → (a || b) ≡ false
or_none a b x y = ap (λ c. c || b) x ∙ y

-- ---- the walk

abbrev pub NoneIn : ℕ → List WaitingFunction → List ℕ → Type 0
NoneIn number xs slots = list_any (has_number number) (values NO_FUNCTION xs slots) ≡ false

abbrev at : List WaitingFunction → ℕ → WaitingFunction
at xs slot = get_or xs slot NO_FUNCTION

none_push : (number : ℕ) (xs : List WaitingFunction) (front : List ℕ) (slot : ℕ) → NoneIn number xs front → has_number number (at xs slot) ≡ false → NoneIn number xs (front ++ slot ∷ [])
none_push number xs [] slot none here = or_none (has_number number (at xs slot)) false here refl
none_push number xs (s ∷ front) slot none here =
    let first = has_number number (at xs s) in
    let later = list_any (has_number number) (values NO_FUNCTION xs front) in
    or_none first (list_any (has_number number) (values NO_FUNCTION xs (front ++ slot ∷ []))) (or_left first later none) (none_push number xs front slot (or_right first later none) here)

from_here : (slot : ℕ) (front back : List ℕ) → times slot front ≡ 0 → from_slot slot (front ++ slot ∷ back) ≡ suc (length back)
from_here slot [] back none = ap (λ b. cond b (suc (length back)) (from_slot slot back)) (eq-eqb slot slot refl)
from_here slot (s ∷ front) back none =
    ap (λ b. cond b (suc (length (front ++ slot ∷ back))) (from_slot slot (front ++ slot ∷ back))) (ne_eqb s slot (not_first slot s front none))
    ∙ from_here slot front back (none_behind slot s front none)

append_one : (front : List ℕ) (slot : ℕ) (back : List ℕ) → front ++ slot ∷ back ≡ (front ++ slot ∷ []) ++ back
append_one [] slot back = refl
append_one (s ∷ front) slot back = ap (λ r. s ∷ r) (append_one front slot back)

same_some : (n m : ℕ) → Some n ≡ Some m → n ≡ m
same_some n m e = cc

module _ (order : List ℕ) (xs : List WaitingFunction) (number : ℕ) where
  pub walk_starts : (it : Option ℕ) → it ≡ first_of order → IsWalk order xs number it
  walk_starts it is = record { front = []; back = order; parts = refl; first = is; none = refl }

  -- what stands ahead of it
  pub behind : (slot : ℕ) (back : List ℕ) → Some slot ≡ first_of back → (rest : List ℕ) × (back ≡ slot ∷ rest)
  behind slot [] e = absurd (cc)
  behind slot (s ∷ rest) e = (rest, ap (λ n. n ∷ rest) (sym (same_some slot s e)))

  module _ (once : (s : ℕ) → times s order ≤ 1) (slot : ℕ) (is : IsWalk order xs number (Some slot)) where
    abbrev rest : List ℕ
    rest = (behind slot is.back is.first).0

    pub parts_here : order ≡ is.front ++ slot ∷ rest
    parts_here = is.parts ∙ ap (λ r. is.front ++ r) (behind slot is.back is.first).1

    times_here : (s : ℕ) → times s order ≡ times s is.front + times s (slot ∷ rest)
    times_here s = ap (times s) parts_here ∙ times_append s is.front (slot ∷ rest)

    pub slot_there : 1 ≤ times slot order
    slot_there = let a = times_here slot in let b = times_same slot slot rest refl in omega (arith, a, b)

    not_before : times slot is.front ≡ 0
    not_before = let a = times_here slot in let b = times_same slot slot rest refl in let c = once slot in omega (arith, a, b, c)

    pub found_here : has_number number (at xs slot) ≡ true → IsFirst order xs number (Some slot)
    found_here here = record { front = is.front; back = rest; parts = parts_here; here = here; none = is.none }

    module _ (next : Option ℕ) (told : next ≡ first_of rest) where
      pub walk_goes_on : has_number number (at xs slot) ≡ false → IsWalk order xs number next
      walk_goes_on past = record { front = is.front ++ slot ∷ []; back = rest; parts = parts_here ∙ append_one is.front slot rest; first = told; none = none_push number xs is.front slot is.none past }

      ahead_now : from_slot slot order ≡ suc (length rest)
      ahead_now = ap (from_slot slot) parts_here ∙ from_here slot is.front rest not_before

      ahead_next : (r : List ℕ) → rest ≡ r → still_ahead (first_of r) order ≤ length r
      ahead_next [] e = omega arith
      ahead_next (t ∷ r) e =
          let parts : order ≡ (is.front ++ slot ∷ []) ++ t ∷ r = parts_here ∙ append_one is.front slot rest ∙ ap (λ q. (is.front ++ slot ∷ []) ++ q) e in
          let a = ap (times t) parts ∙ times_append t (is.front ++ slot ∷ []) (t ∷ r) in
          let b = times_same t t r refl in
          let c = once t in
          let clear : times t (is.front ++ slot ∷ []) ≡ 0 = omega (arith, a, b, c) in
          let d = ap (from_slot t) parts ∙ from_here t (is.front ++ slot ∷ []) r clear in omega (arith, d)

      pub walk_nears : still_ahead next order < from_slot slot order
      walk_nears = let a = ahead_now in let b = ap (λ o. still_ahead o order) told in let c = ahead_next rest refl in omega (arith, a, b, c)

  walk_none : (back : List ℕ) (front : List ℕ) → None ≡ first_of back → order ≡ front ++ back → NoneIn number xs front → NoneIn number xs order
  walk_none [] front e parts none = subst (NoneIn number xs) (sym (parts ∙ append_nil front)) none
    where
      append_nil : (ys : List ℕ) → ys ++ [] ≡ ys
      append_nil [] = refl
      append_nil (y ∷ ys) = ap (λ r. y ∷ r) (append_nil ys)
  walk_none (s ∷ back) front e parts none = absurd (cc)

  pub walk_ends : IsWalk order xs number None → IsFirst order xs number None
  walk_ends is = walk_none is.back is.front is.first is.parts is.none

-- ---- what it found goes

find_found : (number slot : ℕ) (xs : List WaitingFunction) (front back : List ℕ) → NoneIn number xs front → has_number number (at xs slot) ≡ true
    → find (has_number number) (values NO_FUNCTION xs (front ++ slot ∷ back)) ≡ Some (at xs slot)
find_found number slot xs [] back none here = ap (λ b. cond b (Some (at xs slot)) (find (has_number number) (values NO_FUNCTION xs back))) here
find_found number slot xs (s ∷ front) back none here =
    let first = has_number number (at xs s) in
    let later = list_any (has_number number) (values NO_FUNCTION xs front) in
    let more = values NO_FUNCTION xs (front ++ slot ∷ back) in
    ap (λ b. cond b (Some (at xs s)) (find (has_number number) more)) (or_left first later none) ∙ find_found number slot xs front back (or_right first later none) here

find_none : (number : ℕ) (fs : List WaitingFunction) → list_any (has_number number) fs ≡ false → find (has_number number) fs ≡ None
find_none number [] none = refl
find_none number (f ∷ fs) none =
    let first = has_number number f in
    let later = list_any (has_number number) fs in
    ap (λ b. cond b (Some f) (find (has_number number) fs)) (or_left first later none) ∙ find_none number fs (or_right first later none)

drop_found : (number slot : ℕ) (xs : List WaitingFunction) (front back : List ℕ) → NoneIn number xs front → has_number number (at xs slot) ≡ true
    → without_number number (values NO_FUNCTION xs (front ++ slot ∷ back)) ≡ values NO_FUNCTION xs (front ++ back)
drop_found number slot xs [] back none here =
    ap (λ b. cond b (values NO_FUNCTION xs back) (at xs slot ∷ without_number number (values NO_FUNCTION xs back))) here
drop_found number slot xs (s ∷ front) back none here =
    let first = has_number number (at xs s) in
    let later = list_any (has_number number) (values NO_FUNCTION xs front) in
    let more = values NO_FUNCTION xs (front ++ slot ∷ back) in
    ap (λ b. cond b more (at xs s ∷ without_number number more)) (or_left first later none)
    ∙ ap (λ fs. at xs s ∷ fs) (drop_found number slot xs front back (or_right first later none) here)

drop_none : (number : ℕ) (fs : List WaitingFunction) → list_any (has_number number) fs ≡ false → without_number number fs ≡ fs
drop_none number [] none = refl
drop_none number (f ∷ fs) none =
    let first = has_number number f in
    let later = list_any (has_number number) fs in
    ap (λ b. cond b fs (f ∷ without_number number fs)) (or_left first later none) ∙ ap (λ gs. f ∷ gs) (drop_none number fs (or_right first later none))

-- a slot goes from the middle of a list
gone_from : (slot : ℕ) (front back : List ℕ) → times slot (front ++ slot ∷ back) ≤ 1 → without slot (front ++ slot ∷ back) ≡ front ++ back
gone_from slot front back once =
    let a = times_append slot front (slot ∷ back) in
    let b = times_same slot slot back refl in
    without_append slot front (slot ∷ back)
    ∙ ap (λ r. r ++ without slot (slot ∷ back)) (without_none slot front (omega (arith, a, b, once)))
    ∙ ap (λ r. front ++ r) (without_same slot slot back refl ∙ without_none slot back (omega (arith, a, b, once)))

gone_in : (conn slot : ℕ) (front back : List ℕ) (lists : List (List ℕ)) → conn < length lists → get_or lists conn [] ≡ front ++ slot ∷ back → times_in slot lists ≤ 1
    → map (without slot) lists ≡ set lists conn (front ++ back)
gone_in conn slot front back [] l at_it once = absurd (omega (arith, l))
gone_in zero slot front back (order ∷ lists) l at_it once =
    let a = ap (times slot) at_it ∙ times_append slot front (slot ∷ back) in
    let b = times_same slot slot back refl in
    ap (λ r. r ∷ map (without slot) lists) (ap (without slot) at_it ∙ gone_from slot front back (let c = times_append slot front (slot ∷ back) in omega (arith, a, c, once)))
    ∙ ap (λ ls. (front ++ back) ∷ ls) (map_without_none slot lists (omega (arith, a, b, once)))
gone_in (suc conn) slot front back (order ∷ lists) l at_it once =
    let a = ap (times slot) at_it ∙ times_append slot front (slot ∷ back) in
    let b = times_same slot slot back refl in
    let c = times_of conn slot lists (omega (arith, l)) in
    ap (λ r. r ∷ map (without slot) lists) (without_none slot order (omega (arith, a, b, c, once)))
    ∙ ap (λ ls. order ∷ ls) (gone_in conn slot front back lists (omega (arith, l)) at_it (omega (arith, once)))

module _ (xs : List WaitingFunction) (lists : List (List ℕ)) (conn number : ℕ) where
  abbrev all : List (List WaitingFunction)
  all = values_in NO_FUNCTION xs lists

  pub taken_answer : (slot : ℕ) → IsFirst (get_or lists conn []) xs number (Some slot) → find (has_number number) (of_conn conn all) ≡ Some (at xs slot)
  taken_answer slot is =
      ap (find (has_number number)) (conn_values NO_FUNCTION xs lists conn ∙ ap (values NO_FUNCTION xs) is.parts)
      ∙ find_found number slot xs is.front is.back is.none is.here

  pub none_answer : IsFirst (get_or lists conn []) xs number None → find (has_number number) (of_conn conn all) ≡ None
  none_answer none = ap (find (has_number number)) (conn_values NO_FUNCTION xs lists conn) ∙ find_none number (values NO_FUNCTION xs (get_or lists conn [])) none

  pub found_there : (slot : ℕ) → conn < length lists → IsFirst (get_or lists conn []) xs number (Some slot) → 1 ≤ times_in slot lists
  found_there slot l is =
      let a = ap (times slot) is.parts ∙ times_append slot is.front (slot ∷ is.back) in
      let b = times_same slot slot is.back refl in
      let c = times_of conn slot lists l in omega (arith, a, b, c)

  pub taken_state : (slot : ℕ) → conn < length lists → times_in slot lists ≤ 1 → IsFirst (get_or lists conn []) xs number (Some slot)
      → values_in NO_FUNCTION xs (map (without slot) lists) ≡ set all conn (without_number number (of_conn conn all))
  taken_state slot l once is =
      ap (values_in NO_FUNCTION xs) (gone_in conn slot is.front is.back lists l is.parts once)
      ∙ map-set (values NO_FUNCTION xs) lists conn (is.front ++ is.back)
      ∙ ap (set all conn) (sym (ap (without_number number) (conn_values NO_FUNCTION xs lists conn ∙ ap (values NO_FUNCTION xs) is.parts)
      ∙ drop_found number slot xs is.front is.back is.none is.here))

  pub none_state : IsFirst (get_or lists conn []) xs number None → set all conn (without_number number (of_conn conn all)) ≡ all
  none_state none =
      ap (set all conn) (drop_none number (of_conn conn all) (ap (list_any (has_number number)) (conn_values NO_FUNCTION xs lists conn) ∙ none)) ∙ set-get_or all conn []
