-- The values of lists of slots, as one enters and as the oldest one of a list goes.
use Rattle.std.proofs.Common.{◌≡◌, ℕ, zero, suc, ◌+◌, ◌<◌, ◌≤◌, List, [], ◌∷◌, ◌++◌, length, get_or, set, replicate, Option, Some, None, refl, ap, sym, subst, ◌∙◌, arith}
use Rattle.std.proofs.lemmas.List.{get_or-set_same, get_or_default, length-map, map-append, map-set, set-get_or}
use Rattle.iscsi_slots.specs.Slots.{times, values}
use Rattle.iscsi_slots.proofs.SlotLemmas.{times_at, values_other}
use Rattle.iscsi_lists.specs.Lists.{AreApart, Listed, linked_in, times_in, total, with_last}
use Rattle.iscsi_lists.proofs.PlaceLemmas.{once_in, times_any}
use Rattle.iscsi_requests.specs.Conns.{behind_oldest, count_all, of_conn, oldest, with_newest, without_oldest}
use Rattle.iscsi_requests.specs.Kept.{slots_at, values_in}

-- a slot of a list stands there
pub times_there : (slots : List ℕ) (k d : ℕ) → k < length slots → 1 ≤ times (get_or slots k d) slots
times_there slots k d l = let a = times_at slots k l in subst (λ n. 1 ≤ times n slots) (get_or_default slots k 0 d l) a

module _ {X : Type 0} (blank : X) where
  pub count_values : (xs : List X) (lists : List (List ℕ)) → count_all (values_in blank xs lists) ≡ total lists
  count_values xs [] = refl
  count_values xs (slots ∷ lists) = let a = length-map slots (λ s. get_or xs s blank) in let b = count_values xs lists in omega (arith, a, b)

  pub long_values : (xs : List X) (lists : List (List ℕ)) → length (values_in blank xs lists) ≡ length lists
  long_values xs lists = length-map lists (values blank xs)

  pub none_values : (xs : List X) (n : ℕ) → values_in blank xs (replicate {A = List ℕ} n []) ≡ replicate n []
  none_values xs zero = refl
  none_values xs (suc n) = ap (λ ls. [] ∷ ls) (none_values xs n)

  pub conn_values : (xs : List X) (lists : List (List ℕ)) (conn : ℕ) → of_conn conn (values_in blank xs lists) ≡ values blank xs (get_or lists conn [])
  conn_values xs [] zero = refl
  conn_values xs [] (suc conn) = refl
  conn_values xs (slots ∷ lists) zero = refl
  conn_values xs (slots ∷ lists) (suc conn) = conn_values xs lists conn

  -- a value elsewhere changes nothing
  pub others_in : (xs : List X) (slot : ℕ) (x : X) (lists : List (List ℕ)) → times_in slot lists ≡ 0 → values_in blank (set xs slot x) lists ≡ values_in blank xs lists
  others_in xs slot x [] none = refl
  others_in xs slot x (slots ∷ lists) none =
      ap (λ r. r ∷ values_in blank (set xs slot x) lists) (values_other blank xs slot x slots (omega (arith, none)))
      ∙ ap (λ ls. values blank xs slots ∷ ls) (others_in xs slot x lists (omega (arith, none)))

  pub pushed_values : (xs : List X) (slot : ℕ) (x : X) (conn : ℕ) (lists : List (List ℕ)) → times_in slot lists ≡ 0 → slot < length xs
      → values_in blank (set xs slot x) (with_last conn slot lists) ≡ with_newest conn x (values_in blank xs lists)
  pushed_values xs slot x conn lists none within =
      let order : List ℕ = get_or lists conn [] in
      let new : List X = set xs slot x in
      let clear : times slot order ≡ 0 = let a = times_any slot conn lists in omega (arith, a, none) in
      let read : values blank new (order ++ slot ∷ []) ≡ of_conn conn (values_in blank xs lists) ++ x ∷ [] =
      map-append (λ s. get_or new s blank) order (slot ∷ [])
      ∙ ap (λ r. r ++ get_or new slot blank ∷ []) (values_other blank xs slot x order clear)
      ∙ ap (λ y. values blank xs order ++ y ∷ []) (get_or-set_same xs slot x blank within)
      ∙ ap (λ r. r ++ x ∷ []) (sym (conn_values xs lists conn)) in
      map-set (values blank new) lists conn (order ++ slot ∷ [])
      ∙ ap (λ ls. set ls conn (values blank new (order ++ slot ∷ []))) (others_in xs slot x lists none)
      ∙ ap (set (values_in blank xs lists) conn) read

  -- ---- the oldest one of a list goes

  pub nothing_there : (xs : List X) (lists : List (List ℕ)) (conn : ℕ) → get_or lists conn [] ≡ [] → oldest (of_conn conn (values_in blank xs lists)) ≡ None
  nothing_there xs lists conn none = ap oldest (conn_values xs lists conn ∙ ap (values blank xs) none)

  pub nothing_goes : (xs : List X) (lists : List (List ℕ)) (conn : ℕ) → get_or lists conn [] ≡ [] → without_oldest conn (values_in blank xs lists) ≡ values_in blank xs lists
  nothing_goes xs lists conn none =
      let all : List (List X) = values_in blank xs lists in
      let empty : of_conn conn all ≡ [] = conn_values xs lists conn ∙ ap (values blank xs) none in
      ap (λ r. set all conn (behind_oldest r)) empty ∙ ap (set all conn) (sym empty) ∙ set-get_or all conn []

  pub first_there : (xs : List X) (lists : List (List ℕ)) (conn slot : ℕ) (rest : List ℕ) → get_or lists conn [] ≡ slot ∷ rest → oldest (of_conn conn (values_in blank xs lists)) ≡ Some (get_or xs slot blank)
  first_there xs lists conn slot rest at = ap oldest (conn_values xs lists conn ∙ ap (values blank xs) at)

  pub first_goes : (xs : List X) (lists : List (List ℕ)) (conn slot : ℕ) (rest : List ℕ) → get_or lists conn [] ≡ slot ∷ rest
      → values_in blank xs (set lists conn rest) ≡ without_oldest conn (values_in blank xs lists)
  first_goes xs lists conn slot rest at =
      map-set (values blank xs) lists conn rest
      ∙ ap (set (values_in blank xs lists) conn) (sym (ap behind_oldest (conn_values xs lists conn ∙ ap (values blank xs) at)))

-- ---- what a call of `pop_front` tells, and what becomes of the values

pub record IsPopped {X : Type 0} (blank : X) (conn : ℕ) (old new : Listed X) (result : Option X) : Type 0 where
  pub answer : result ≡ oldest (of_conn conn (values_in blank old.values old.lists))
  pub waiting : values_in blank new.values new.lists ≡ without_oldest conn (values_in blank old.values old.lists)
  pub room : new.room ≡ old.room

module _ {X : Type 0} (blank : X) (conn : ℕ) (old new : Listed X) (result : Option X) where
  pub popped_by :
      (slots_at old conn ≡ [] → result ≡ None)
      → (slots_at old conn ≡ [] → new ≡ old)
      → ((slot : ℕ) (rest : List ℕ) (d : X) → slots_at old conn ≡ slot ∷ rest → result ≡ Some (get_or old.values slot d))
      → ((slot : ℕ) (rest : List ℕ) → slots_at old conn ≡ slot ∷ rest → new ≡ record old { free = old.free ++ slot ∷ []; lists = set old.lists conn rest })
      → IsPopped blank conn old new result
  popped_by none same value state = elim (slots_at old conn) as (λ slots. slots_at old conn ≡ slots → IsPopped blank conn old new result) [
    | [] ↦ λ is. record {
      answer = none is ∙ sym (nothing_there blank old.values old.lists conn is);
      waiting = ap (λ (u : Listed X). values_in blank u.values u.lists) (same is) ∙ sym (nothing_goes blank old.values old.lists conn is);
      room = ap (λ (u : Listed X). u.room) (same is);
    }
    | (slot ∷ rest) ↦ λ is. record {
      answer = value slot rest blank is ∙ sym (first_there blank old.values old.lists conn slot rest is);
      waiting = ap (λ (u : Listed X). values_in blank u.values u.lists) (state slot rest is) ∙ first_goes blank old.values old.lists conn slot rest is;
      room = ap (λ (u : Listed X). u.room) (state slot rest is);
    }
  ] refl

-- ---- how many there are

module _ {X : Type 0} (blank : X) (kept : Listed X) (apart : AreApart (linked_in kept)) where
  pub all_there : kept.free ≡ [] → count_all (values_in blank kept.values kept.lists) ≡ kept.room
  all_there none = let a = ap (λ (xs : List ℕ). length xs) none in let b = count_values blank kept.values kept.lists in let c = apart.all in omega (arith, a, b, c)

  pub fewer_there : 1 ≤ length kept.free → count_all (values_in blank kept.values kept.lists) < kept.room
  fewer_there some = let b = count_values blank kept.values kept.lists in let c = apart.all in omega (arith, some, b, c)

  pub free_there : count_all (values_in blank kept.values kept.lists) < kept.room → 1 ≤ length kept.free
  free_there few = let b = count_values blank kept.values kept.lists in let c = apart.all in omega (arith, few, b, c)

  -- a slot that was free is one of theirs
  pub slot_within : (slot : ℕ) → length kept.values ≡ kept.room + 1 → 1 ≤ times_in slot kept.lists → slot < length kept.values
  slot_within slot long there = let a = apart.within slot (let b = there in omega (arith, b)) in omega (arith, a, long)

module _ {X : Type 0} (kept : Listed X) (apart : AreApart (linked_in kept)) where
  pub within_at : (list slot : ℕ) → 1 ≤ times slot (slots_at kept list) → slot ≤ kept.room
  within_at list slot there = apart.within slot (let a = times_any slot list kept.lists in omega (arith, a, there))

  pub once_at : (list slot : ℕ) → times slot (slots_at kept list) ≤ 1
  once_at list slot = let a = times_any slot list kept.lists in let b = once_in apart slot in omega (arith, a, b)
