-- What has the same places and words has each word as often.
use Rattle.std.proofs.Common.{◌≡◌, ℕ, ◌+◌, ◌≤◌, ◌==◌, ◌&&◌, cond, Bool, true, false, List, [], ◌∷◌, ◌++◌, map, count_by, refl, ap, sym, ◌∙◌, arith}
use Rattle.std.proofs.lemmas.Bool.{eqb-true, eq-eqb, and_from}
use Rattle.std.proofs.lemmas.List.Sums.{sum_by-append}
use Rattle.iscsi_rules.proofs.general.BoolLemmas.{and_parts}
use Rattle.iscsi_rules.proofs.general.CountLemmas.{one, count-cons}
use Rattle.iscsi_rules.proofs.general.ListLemmas.{count_by-map}
use Rattle.iscsi_requests.specs.Cookies as cookies
use Rattle.iscsi_requests.specs.Cookies.{Cookies}
use Rattle.iscsi_ffi_law.specs.Names.{Name, Note}
use Rattle.iscsi_ffi_law.specs.Parts.{AreKept}

abbrev is_pair : ℕ → ℕ → ℕ × ℕ → Bool
is_pair place cookie e = e.0 == place && e.1 == cookie

without : ℕ → ℕ → List (ℕ × ℕ) → List (ℕ × ℕ)
without place cookie [] = []
without place cookie (e ∷ es) = cond (is_pair place cookie e) es (e ∷ without place cookie es)

is_itself : (place cookie : ℕ) → is_pair place cookie (place, cookie) ≡ true
is_itself place cookie = and_from (place == place) (cookie == cookie) (eq-eqb place place refl) (eq-eqb cookie cookie refl)

module _ (P : ℕ → ℕ → Bool) where
  abbrev passes : ℕ × ℕ → Bool
  passes e = P e.0 e.1

  passes_same : (place cookie : ℕ) (e : ℕ × ℕ) → is_pair place cookie e ≡ true → passes e ≡ P place cookie
  passes_same place cookie e is =
      let parts = and_parts (e.0 == place) (e.1 == cookie) is in
      ap (λ x. P x e.1) (eqb-true e.0 place parts.0) ∙ ap (P place) (eqb-true e.1 cookie parts.1)

  without_counted : (place cookie : ℕ) (es : List (ℕ × ℕ)) → 1 ≤ count_by (is_pair place cookie) es → count_by passes (without place cookie es) + one (P place cookie) ≡ count_by passes es
  unfolding without
  without_counted place cookie [] some = absurd (let none : ⊥ = omega (arith, some) in none)
  without_counted place cookie (e ∷ es) some = by_first (without_counted place cookie es) (is_pair place cookie e) refl
    where
      by_first : (1 ≤ count_by (is_pair place cookie) es → count_by passes (without place cookie es) + one (P place cookie) ≡ count_by passes es) → (v : Bool) → is_pair place cookie e ≡ v
          → count_by passes (cond v es (e ∷ without place cookie es)) + one (P place cookie) ≡ count_by passes (e ∷ es)
      by_first later true is = let here : one (passes e) ≡ one (P place cookie) = ap one (passes_same place cookie e is) in omega (arith, here, count-cons passes e es)
      by_first later false is =
          let none : one (is_pair place cookie e) ≡ 0 = ap one is in
          let rest : count_by passes (without place cookie es) + one (P place cookie) ≡ count_by passes es = later (omega (arith, some, none, count-cons (is_pair place cookie) e es)) in
          omega (arith, rest, count-cons passes e es, count-cons passes e (without place cookie es))

pub same_counts : (xs ys : List (ℕ × ℕ)) → ((place cookie : ℕ) → count_by (is_pair place cookie) xs ≡ count_by (is_pair place cookie) ys) → (P : ℕ → ℕ → Bool) → count_by (λ (e : ℕ × ℕ). P e.0 e.1) xs ≡ count_by (λ (e : ℕ × ℕ). P e.0 e.1) ys
same_counts [] [] same P = refl
same_counts [] (y ∷ ys) same P =
    let here : one (is_pair y.0 y.1 y) ≡ 1 = ap one (is_itself y.0 y.1) in
    absurd (let none : ⊥ = omega (arith, here, same y.0 y.1, count-cons (is_pair y.0 y.1) y ys) in none)
same_counts (x ∷ xs) ys same P =
    let here : one (is_pair x.0 x.1 x) ≡ 1 = ap one (is_itself x.0 x.1) in
    let some : 1 ≤ count_by (is_pair x.0 x.1) ys = omega (arith, here, same x.0 x.1, count-cons (is_pair x.0 x.1) x xs) in
    let rest : count_by (λ (e : ℕ × ℕ). P e.0 e.1) xs ≡ count_by (λ (e : ℕ × ℕ). P e.0 e.1) (without x.0 x.1 ys)
    = same_counts xs (without x.0 x.1 ys) (λ place cookie. omega (arith, same place cookie, count-cons (is_pair place cookie) x xs, without_counted (λ a b. a == place && b == cookie) x.0 x.1 ys some)) P in
    omega (arith, rest, count-cons (λ (e : ℕ × ℕ). P e.0 e.1) x xs, without_counted P x.0 x.1 ys some)

-- ---- requests

abbrev pairs_named : List Name → List Note → List (ℕ × ℕ)
pairs_named names notes = map (λ (n : Name). (n.place, n.cookie)) names ++ map (λ (n : Note). (n.place, n.cookie)) notes

pairs_counted : (p : ℕ → ℕ → Bool) (names : List Name) (notes : List Note)
    → count_by (λ (e : ℕ × ℕ). p e.0 e.1) (pairs_named names notes) ≡ count_by (λ (n : Name). p n.place n.cookie) names + count_by (λ (n : Note). p n.place n.cookie) notes
pairs_counted p names notes =
    sum_by-append (λ (e : ℕ × ℕ). cond (p e.0 e.1) 1 0) (map (λ (n : Name). (n.place, n.cookie)) names) (map (λ (n : Note). (n.place, n.cookie)) notes)
    ∙ ap (λ k. k + count_by (λ (e : ℕ × ℕ). p e.0 e.1) (map (λ (n : Note). (n.place, n.cookie)) notes)) (count_by-map {B = ℕ × ℕ} (λ (e : ℕ × ℕ). p e.0 e.1) (λ (n : Name). (n.place, n.cookie)) names)
    ∙ ap (λ k. count_by (λ (n : Name). p n.place n.cookie) names + k) (count_by-map {B = ℕ × ℕ} (λ (e : ℕ × ℕ). p e.0 e.1) (λ (n : Note). (n.place, n.cookie)) notes)

-- each word is kept as often as it is named
pub words_kept : (names : List Name) (notes : List Note) (v : Cookies) → AreKept names notes v → (p : ℕ → ℕ → Bool)
    → count_by (λ (q : cookies.Request). p q.place q.cookie) v.requests ≡ count_by (λ (n : Name). p n.place n.cookie) names + count_by (λ (n : Note). p n.place n.cookie) notes
words_kept names notes v kept p =
    sym (count_by-map {B = ℕ × ℕ} (λ (e : ℕ × ℕ). p e.0 e.1) (λ (q : cookies.Request). (q.place, q.cookie)) v.requests)
    ∙ same_counts (map (λ (q : cookies.Request). (q.place, q.cookie)) v.requests) (pairs_named names notes)
    (λ place cookie. count_by-map {B = ℕ × ℕ} (is_pair place cookie) (λ (q : cookies.Request). (q.place, q.cookie)) v.requests ∙ kept place cookie ∙ sym (pairs_counted (λ a b. a == place && b == cookie) names notes)) p
    ∙ pairs_counted p names notes
