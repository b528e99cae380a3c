-- Uses that end leave a request that has more of them, with its word.
use Rattle.std.proofs.Common.{◌≡◌, ℕ, ◌+◌, ◌-◌, ◌<◌, ◌≤◌, ◌==◌, ◌&&◌, not, cond, Bool, true, false, List, [], ◌∷◌, count_by, Option, Some, None, is_some, nat_lt, refl, ap, sym, subst, ◌∙◌, arith, lt-ltb, ne_eqb}
use Rattle.std.proofs.lemmas.Bool.{and_from, eq-eqb, eqb-true, false≢true}
use Rattle.std.proofs.lemmas.Bool.Decides.{nat_tests}
use Rattle.iscsi_rules.proofs.general.BoolLemmas.{and_parts}
use Rattle.iscsi_rules.proofs.general.CountLemmas.{one}
use Rattle.iscsi_requests.specs.Cookies.{Cookies, cookie_at, has_place, last_cookie, removed, used_less, uses_at, with_uses}
use Rattle.iscsi_ffi_law.specs.Parts.{AreCounted}
use Rattle.iscsi_ffi_law.proofs.requests.Cookies.{cookie_there, counted_with, counted_without, is_word, used_there, uses_elsewhere, uses_here, uses_others, words_left, words_same}
use Rattle.iscsi_ffi_law.proofs.general.Members.{Passing, counted_in, in_counted}
use Rattle.iscsi_ffi_law.proofs.requests.Releases.{endings}
use Rattle.iscsi_ffi_law.proofs.requests.Releasing.{ending}
use Rattle.iscsi_ffi_law.proofs.commands.StartsAfter.{cookies_all, cookies_one, keeps_all, keeps_one}

-- a place whose words stay has its word
word_same : (v v' : Cookies) → AreCounted v → AreCounted v' → (p : ℕ) → 1 ≤ uses_at p v → ((k : ℕ) → count_by (is_word p k) v'.requests ≡ count_by (is_word p k) v.requests) → cookie_at p v' ≡ cookie_at p v
word_same v v' c c' p some same =
    let y = used_there v c p some in
    let before : 1 ≤ count_by (is_word p y.0.cookie) v.requests = in_counted (is_word p y.0.cookie) v.requests y.0 y.1 (and_from (y.0.place == p) (y.0.cookie == y.0.cookie) (eq-eqb y.0.place p y.2) (eq-eqb y.0.cookie y.0.cookie refl)) in
    let kept = same y.0.cookie in
    let z : Passing (is_word p y.0.cookie) v'.requests = counted_in (is_word p y.0.cookie) v'.requests (omega (arith, before, kept)) in
    let parts = and_parts (z.x.place == p) (z.x.cookie == y.0.cookie) z.passes in
    ap (λ n. cookie_at n v') (sym (eqb-true z.x.place p parts.0)) ∙ cookie_there v' c' z.x z.there ∙ eqb-true z.x.cookie y.0.cookie parts.1
    ∙ sym (cookie_there v c y.0 y.1) ∙ ap (λ n. cookie_at n v) y.2

-- a place that is used still
pub record IsKept (keeps : Bool) (v v' : Cookies) (less p : ℕ) : Type 0 where
  pub keeps_it : keeps ≡ true
  pub counted : AreCounted v'
  pub uses : uses_at p v ≤ uses_at p v' + less
  pub word : cookie_at p v' ≡ cookie_at p v

one_kept : (x : Option ℕ) (v : Cookies) → AreCounted v → (p : ℕ) → ending x p < uses_at p v → IsKept (keeps_one x v p) v (cookies_one x v) (ending x p) p
one_kept None v c p more = record { keeps_it = refl; counted = c; uses = omega arith; word = refl }
one_kept (Some q) v c p more = by_place (has_place q v) refl
  where
    by_place : (w : Bool) → has_place q v ≡ w → IsKept (not (w && (is_some (last_cookie q v) && (p == q)))) v (cond w (used_less q v) v) (one (q == p)) p
    by_place false is = record { keeps_it = refl; counted = c; uses = omega arith; word = refl }
    by_place true is = by_same (p == q) refl
      where
        ends_last : (w : Bool) → not (w && false) ≡ true
        ends_last true = refl
        ends_last false = refl

        by_same : (u : Bool) → (p == q) ≡ u → IsKept (not (is_some (last_cookie q v) && (p == q))) v (used_less q v) (one (q == p)) p
        by_same true same =
            let at : p ≡ q = eqb-true p q same in
            let here : one (q == p) ≡ 1 = ap one (eq-eqb q p (sym at)) in
            let many : 1 < uses_at q v = (let u = ap (λ n. uses_at n v) at in omega (arith, more, here, u)) in
            let on : nat_lt 1 (uses_at q v) ≡ true = lt-ltb 1 (uses_at q v) many in
            let some : 1 ≤ uses_at q v - 1 = omega (arith, many) in
            let v' : Cookies = with_uses (uses_at q v - 1) q v in
            subst (λ w. IsKept (not (is_some (cond w None (Some (cookie_at q v))) && (p == q))) v (cond w (with_uses (uses_at q v - 1) q v) (removed q v)) (one (q == p)) p) (sym on) (record {
              keeps_it = refl;
              counted = counted_with v c (uses_at q v - 1) q some;
              uses =
                  let left : uses_at q v' ≡ uses_at q v - 1 = uses_here v c (uses_at q v - 1) q some is in
                  let u = ap (λ n. uses_at n v) at in
                  let u' = ap (λ n. uses_at n v') at in
                  omega (arith, left, here, u, u', many);
              word = word_same v v' c (counted_with v c (uses_at q v - 1) q some) p (omega (arith, more)) (λ k. words_same v c (uses_at q v - 1) q some (λ p' k'. p' == p && k' == k));
            })
        by_same false other =
            let none : one (q == p) ≡ 0 = ap one (ne_eqb q p (λ same. false≢true (sym other ∙ eq-eqb p q (sym same)))) in
            by_more (nat_lt 1 (uses_at q v)) refl none
          where
            by_more : (w : Bool) → nat_lt 1 (uses_at q v) ≡ w → one (q == p) ≡ 0 → IsKept (not (is_some (cond (nat_lt 1 (uses_at q v)) None (Some (cookie_at q v))) && (p == q))) v (cond (nat_lt 1 (uses_at q v)) (with_uses (uses_at q v - 1) q v) (removed q v)) (one (q == p)) p
            by_more true on none =
                let many : 1 < uses_at q v = grind (arith, nat_tests) in
                let some : 1 ≤ uses_at q v - 1 = omega (arith, many) in
                subst (λ w. IsKept (not (is_some (cond w None (Some (cookie_at q v))) && (p == q))) v (cond w (with_uses (uses_at q v - 1) q v) (removed q v)) (one (q == p)) p) (sym on) (record {
                  keeps_it = refl;
                  counted = counted_with v c (uses_at q v - 1) q some;
                  uses = (let same = uses_elsewhere v c (uses_at q v - 1) q some p other in omega (arith, same, none));
                  word = word_same v (with_uses (uses_at q v - 1) q v) c (counted_with v c (uses_at q v - 1) q some) p (omega (arith, more)) (λ k. words_same v c (uses_at q v - 1) q some (λ p' k'. p' == p && k' == k));
                })
            by_more false off none =
                subst (λ w. IsKept (not (is_some (cond w None (Some (cookie_at q v))) && (p == q))) v (cond w (with_uses (uses_at q v - 1) q v) (removed q v)) (one (q == p)) p) (sym off) (record {
                  keeps_it = ap not other;
                  counted = counted_without v c q;
                  uses = (let same = uses_others v c q p other in omega (arith, same, none));
                  word = word_same v (removed q v) c (counted_without v c q) p (omega (arith, more)) (λ k. words_left v c q p k ∙ ap (λ u. cond (not u) (count_by (is_word p k) v.requests) 0) other);
                })

-- .. behind several that end
pub all_kept : (xs : List (Option ℕ)) (v : Cookies) → AreCounted v → (p : ℕ) → endings xs p < uses_at p v → IsKept (keeps_all xs v p) v (cookies_all xs v) (endings xs p) p
all_kept [] v c p more = record { keeps_it = refl; counted = c; uses = omega arith; word = refl }
all_kept (x ∷ xs) v c p more =
    let k : IsKept (keeps_one x v p) v (cookies_one x v) (ending x p) p = one_kept x v c p (omega (arith, more)) in
    let u = k.uses in
    let later : IsKept (keeps_all xs (cookies_one x v) p) (cookies_one x v) (cookies_all xs (cookies_one x v)) (endings xs p) p = all_kept xs (cookies_one x v) k.counted p (omega (arith, more, u)) in
    record {
      keeps_it = and_from (keeps_one x v p) (keeps_all xs (cookies_one x v) p) k.keeps_it later.keeps_it;
      counted = later.counted;
      uses = (let w = later.uses in omega (arith, u, w));
      word = later.word ∙ k.word;
    }
