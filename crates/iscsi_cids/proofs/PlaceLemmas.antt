-- The table of places, as it is read and filled.
use Rattle.std.proofs.Common.{◌≡◌, ◌≢◌, ℕ, ◌+◌, ◌<◌, ◌≤◌, ◌==◌, cond, Bool, true, false, List, [], ◌∷◌, length, get_or, position, Some, None, refl, ap, sym, ◌∙◌, arith, ⊎_elim}
use Rattle.std.specs.List.{AllPairs, position_or_len}
use Rattle.std.proofs.lemmas.Bool.{eq-eqb, eqb-true, ne_eqb, lt-ltb, le-ltb, cases_lt}
use Rattle.std.proofs.lemmas.List.{get_or_default}
use Rattle.std.proofs.lemmas.List.Sums.{position_or_len_is}
use Rattle.iscsi_cids.specs.Cids.{ArePlaced, TellsPlaces, place_of}

-- ---- the first place that passes

position_at : (p : ℕ → Bool) (xs : List ℕ) (k d : ℕ) → k < length xs → p (get_or xs k d) ≡ true → ((j : ℕ) → j < k → p (get_or xs j d) ≡ false) → position p xs ≡ Some k
position_at p xs k d within here before =
    let is : position_or_len p xs ≡ k = position_or_len_is p xs k d (omega arith) before (λ l. here) in
    cc (lt-ltb k (length xs) within)

position_nowhere : (p : ℕ → Bool) (xs : List ℕ) → ((j d : ℕ) → j < length xs → p (get_or xs j d) ≡ false) → position p xs ≡ None
position_nowhere p xs none =
    let is : position_or_len p xs ≡ length xs = past xs none in
    cc (le-ltb (length xs) (length xs) (omega arith))
  where
    past : (xs : List ℕ) → ((j d : ℕ) → j < length xs → p (get_or xs j d) ≡ false) → position_or_len p xs ≡ length xs
    past [] none = refl
    past (x ∷ xs) none = position_or_len_is p (x ∷ xs) (length (x ∷ xs)) x (omega arith) (λ j l. none j x l) (λ l. absurd (omega arith))

-- ---- what the table tells

module _ (places cids : List ℕ) (are : ArePlaced places cids) (cid : ℕ) where
  pub told_place : get_or places cid 255 < 255 → Some (get_or places cid 255) ≡ place_of cid cids
  told_place some =
      let k : ℕ = get_or places cid 255 in
      let here = are.told.meant cid 0 some in
      sym (position_at (λ c. c == cid) cids k 0 here.0 (eq-eqb (get_or cids k 0) cid here.1)
      (λ j before. ne_eqb (get_or cids j 0) cid (λ same.
      let a = are.told.placed j 0 (omega (arith, before, here.0)) in
      let b = ap (λ n. get_or places n 255) same in omega (arith, a, b, before))))

  pub told_nowhere : 255 ≤ get_or places cid 255 → None ≡ place_of cid cids
  told_nowhere none =
      sym (position_nowhere (λ c. c == cid) cids (λ j d within. ne_eqb (get_or cids j d) cid (λ same.
      let a = are.told.placed j d within in
      let b = ap (λ n. get_or places n 255) same in
      let few = are.few in omega (arith, a, b, few, none, within))))

-- ---- filling it

pub told_more : (places new cids : List ℕ) (n e : ℕ) → TellsPlaces places cids n → AllPairs (λ a b. a ≢ b) cids → n < length cids → length cids ≤ 64
    → ((other : ℕ) → get_or new other 255 ≡ cond (other == get_or cids n e) n (get_or places other 255))
    → TellsPlaces new cids (n + 1)
told_more places new cids n e tells distinct within few written = record {
  placed = λ k d before. ⊎_elim
      (λ earlier.
      let apart : get_or cids k d ≢ get_or cids n e = λ same. distinct k n d earlier within (same ∙ get_or_default cids n e d within) in
      written (get_or cids k d) ∙ ap (λ b. cond b n (get_or places (get_or cids k d) 255)) (ne_eqb (get_or cids k d) (get_or cids n e) apart) ∙ tells.placed k d earlier)
      (λ last.
      let is : k ≡ n = omega (arith, before, last) in
      let same : get_or cids k d ≡ get_or cids n e = ap (λ i. get_or cids i d) is ∙ get_or_default cids n d e within in
      written (get_or cids k d) ∙ ap (λ b. cond b n (get_or places (get_or cids k d) 255)) (eq-eqb (get_or cids k d) (get_or cids n e) same) ∙ sym is)
      (cases_lt k n);
  meant = λ cid d some.
      elim (cid == get_or cids n e) as (λ b. (cid == get_or cids n e) ≡ b → (get_or new cid 255 < n + 1) × (get_or cids (get_or new cid 255) d ≡ cid)) [
        | true ↦ λ is.
            let told : get_or new cid 255 ≡ n = written cid ∙ ap (λ b. cond b n (get_or places cid 255)) is in
            (omega (arith, told), ap (λ i. get_or cids i d) told ∙ get_or_default cids n d e within ∙ sym (eqb-true cid (get_or cids n e) is))
        | false ↦ λ is.
            let told : get_or new cid 255 ≡ get_or places cid 255 = written cid ∙ ap (λ b. cond b n (get_or places cid 255)) is in
            let here = tells.meant cid d (omega (arith, told, some)) in
            let low = here.0 in
            (omega (arith, told, low), ap (λ i. get_or cids i d) told ∙ here.1)
      ] refl;
}
