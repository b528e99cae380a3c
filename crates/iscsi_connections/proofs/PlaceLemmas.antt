-- A connection's place, and the table that tells it.
use Rattle.std.proofs.Common.{◌≡◌, ℕ, zero, suc, ◌+◌, ◌<◌, ◌≤◌, ◌==◌, cond, Bool, true, false, List, [], ◌∷◌, length, map, get_or, position, Some, None, refl, ap, sym, arith}
use Rattle.std.proofs.lemmas.Bool.Decides.{nat_tests}
use Rattle.std.proofs.lemmas.Bool.{false≢true, or_parts, lt-ltb}
use Rattle.std.proofs.lemmas.List.{get_or-map, get_or_default, length-map}
use Rattle.std.proofs.lemmas.List.Sums.{position_or_len_is}
use Rattle.std.specs.List.{list_any, position_or_len}
use Rattle.std.specs.Prelude.{is_some, IsSome}
use Rattle.iscsi_wire.specs.Cids.{is_known, are_distinct}
use Rattle.iscsi_connections.specs.declared.connections.Connection.{Connection}
use Rattle.iscsi_connections.specs.Placed.{cid_and_stat_sn, TellsPlaces, ArePlaced}

abbrev pub has_cid : ℕ → ℕ × ℕ → Bool
has_cid cid conn = conn.0 == cid

-- ---- the first place that passes

pub position_at : {X : Type 0} (p : X → Bool) (xs : List X) (k : ℕ) (d : X) → k < length xs → p (get_or xs k d) ≡ true → ((j : ℕ) → j < k → p (get_or xs j d) ≡ false) → position p xs ≡ Some k
position_at p xs k d within here before = grind (arith, nat_tests, position_or_len_is, lt-ltb k (length xs) within)

pub position_nowhere : {X : Type 0} (p : X → Bool) (xs : List X) → ((j : ℕ) (d : X) → j < length xs → p (get_or xs j d) ≡ false) → position p xs ≡ None
position_nowhere p [] none = refl
position_nowhere p (x ∷ xs) none = grind (arith, nat_tests, position_nowhere p xs (λ j d l. none (suc j) d (omega (arith, l))), none 0 x)

pub known_by_place : (p : ℕ × ℕ → Bool) (xs : List (ℕ × ℕ)) → is_some (position p xs) ≡ list_any p xs
known_by_place p [] = refl
known_by_place p (x ∷ xs) = grind (arith, nat_tests, known_by_place p xs)

-- where some element passes, there is a first that does
first_place : {A : Type 0} (p : A → Bool) (xs : List A) → list_any p xs ≡ true → position_or_len p xs < length xs
first_place p [] h = absurd (false≢true h)
first_place p (x ∷ xs) h = grind (arith, first_place p xs)

pub IsSome-position : {A : Type 0} (p : A → Bool) (xs : List A) → list_any p xs ≡ true → IsSome (position p xs)
IsSome-position p xs h = grind (arith, first_place)

-- ---- what the table tells

module _ (places : List ℕ) (list : List Connection) (are : ArePlaced places list) (cid : ℕ) where
  cid_at : (j : ℕ) (d : Connection) → j < length list → (get_or (map cid_and_stat_sn list) j (cid_and_stat_sn d)).0 ≡ (get_or list j d).cid
  cid_at j d within = ap (λ (p : ℕ × ℕ). p.0) (get_or-map cid_and_stat_sn list j d (cid_and_stat_sn d) within)

  pub told_place : (d : Connection) → get_or places cid 255 < 255 → Some (get_or places cid 255) ≡ position (has_cid cid) (map cid_and_stat_sn list)
  told_place d some =
      let here = are.told.meant cid d some in
      sym (position_at (has_cid cid) (map cid_and_stat_sn list) (get_or places cid 255) (cid_and_stat_sn d)
      (grind (arith, here, length-map list cid_and_stat_sn)) (grind (arith, nat_tests, here, cid_at (get_or places cid 255) d))
      (λ j before. grind (arith, nat_tests, here, cid_at j d, are.told.placed j d)))

  pub told_nowhere : 255 ≤ get_or places cid 255 → None ≡ position (has_cid cid) (map cid_and_stat_sn list)
  told_nowhere none = sym (position_nowhere (has_cid cid) (map cid_and_stat_sn list) (λ j e within.
      let d : Connection = record { cid = e.0; stat_sn = e.1; is_open = false; immediate = 0 } in
      grind (arith, nat_tests, cid_at j d, are.told.placed j d, are.few, length-map list cid_and_stat_sn)))

-- ---- filling it

-- of connections with distinct CIDs the later one has another than the earlier one
known_at : (list : List Connection) (cid k : ℕ) (d : Connection) → is_known cid (map cid_and_stat_sn list) ≡ false → k < length list → ((get_or list k d).cid == cid) ≡ false
known_at [] cid k d none within = absurd (omega arith)
known_at (c ∷ list) cid zero d none within = (or_parts _ _ none).0
known_at (c ∷ list) cid (suc k) d none within = known_at list cid k d (or_parts _ _ none).1 (omega arith)

pub apart_at : (list : List Connection) (j k : ℕ) (d : Connection) → are_distinct (map cid_and_stat_sn list) ≡ true → j < k → k < length list → ((get_or list k d).cid == (get_or list j d).cid) ≡ false
apart_at [] j k d distinct before within = absurd (omega arith)
apart_at (c ∷ list) j zero d distinct before within = absurd (omega arith)
apart_at (c ∷ list) zero (suc k) d distinct before within = grind (arith, known_at list c.cid k d)
apart_at (c ∷ list) (suc j) (suc k) d distinct before within = grind (arith, apart_at list j k d)

pub told_more : (places new : List ℕ) (list : List Connection) (n : ℕ) (e : Connection) → TellsPlaces places list n → are_distinct (map cid_and_stat_sn list) ≡ true → n < length list → length list ≤ 64
    → ((other : ℕ) → get_or new other 255 ≡ cond (other == (get_or list n e).cid) n (get_or places other 255))
    → TellsPlaces new list (n + 1)
told_more places new list n e tells distinct within few written = record {
  placed = λ k d before. grind (arith, nat_tests, get_or_default list n e d within, written (get_or list k d).cid, apart_at, tells.placed k d);
  meant = λ cid d some. grind (arith, nat_tests, get_or_default list n d e within, written cid, tells.meant cid d);
}
