-- Lists of commands with their slots, as one enters, changes and goes.
use Rattle.std.proofs.Common.{◌≡◌, ◌≢◌, ℕ, zero, suc, ◌+◌, ◌≤◌, ◌==◌, ◌⊎◌, not, cond, Bool, true, false, List, [], ◌∷◌, ◌++◌, length, map, filter, find, Some, None, refl, ap, sym, ◌∙◌, arith, inl, inr, ⊎_elim, eq-eqb, ne_eqb}
use Rattle.std.proofs.lemmas.Bool.{cases_eq, false≢true}
use Rattle.iscsi_ffi_commands.specs.Kept.{AreApartBy, Cell, HasNone, IsIn}

-- ---- one of them

pub in_push : (x d : Cell) (cells : List Cell) → IsIn x (cells ++ d ∷ []) → IsIn x cells ⊎ (d ≡ x)
in_push x d [] is = ⊎_elim (λ same. inr same) (λ no. absurd no) is
in_push x d (c ∷ cells) is = ⊎_elim
    (λ same. inl (inl same))
    (λ later. ⊎_elim (λ there. inl (inr there)) (λ same. inr same) (in_push x d cells later))
    is

pub push_in : (x d : Cell) (cells : List Cell) → IsIn x cells → IsIn x (cells ++ d ∷ [])
push_in x d [] never = absurd never
push_in x d (c ∷ cells) is = ⊎_elim (λ same. inl same) (λ later. inr (push_in x d cells later)) is

pub last_in : (d : Cell) (cells : List Cell) → IsIn d (cells ++ d ∷ [])
last_in d [] = inl refl
last_in d (c ∷ cells) = inr (last_in d cells)

-- one that a change made
pub record IsMade (f : Cell → Cell) (y : Cell) (cells : List Cell) : Type 0 where
  pub from : Cell
  pub there : IsIn from cells
  pub made : f from ≡ y

pub in_map : (f : Cell → Cell) (y : Cell) (cells : List Cell) → IsIn y (map f cells) → IsMade f y cells
in_map f y [] never = absurd never
in_map f y (c ∷ cells) is = ⊎_elim
    (λ same. record { from = c; there = inl refl; made = same })
    (λ later. let rest = in_map f y cells later in record { from = rest.from; there = inr rest.there; made = rest.made })
    is

pub map_in : (f : Cell → Cell) (x : Cell) (cells : List Cell) → IsIn x cells → IsIn (f x) (map f cells)
map_in f x [] never = absurd never
map_in f x (c ∷ cells) is = ⊎_elim (λ same. inl (ap f same)) (λ later. inr (map_in f x cells later)) is

pub record IsPicked (p : Cell → Bool) (x : Cell) (cells : List Cell) : Type 0 where
  pub there : IsIn x cells
  pub holds : p x ≡ true

pub in_filter : (p : Cell → Bool) (x : Cell) (cells : List Cell) → IsIn x (filter p cells) → IsPicked p x cells
in_filter p x [] never = absurd never
in_filter p x (c ∷ cells) is =
    elim (p c) as (λ b. p c ≡ b → IsIn x (cond b (c ∷ filter p cells) (filter p cells)) → IsPicked p x (c ∷ cells)) [
      | true ↦ λ holds i. ⊎_elim
          (λ same. record { there = inl same; holds = sym (ap p same) ∙ holds })
          (λ later. let rest = in_filter p x cells later in record { there = inr rest.there; holds = rest.holds })
          i
      | false ↦ λ _ i. let rest = in_filter p x cells i in record { there = inr rest.there; holds = rest.holds }
    ] refl is

pub filter_in : (p : Cell → Bool) (x : Cell) (cells : List Cell) → IsIn x cells → p x ≡ true → IsIn x (filter p cells)
filter_in p x [] never holds = absurd never
filter_in p x (c ∷ cells) is holds =
    elim (p c) as (λ b. p c ≡ b → IsIn x (cond b (c ∷ filter p cells) (filter p cells))) [
      | true ↦ λ _. ⊎_elim (λ same. inl same) (λ later. inr (filter_in p x cells later holds)) is
      | false ↦ λ no. ⊎_elim (λ same. absurd (false≢true (sym no ∙ ap p same ∙ holds))) (λ later. filter_in p x cells later holds) is
    ] refl

pub find_in : (p : Cell → Bool) (x : Cell) (cells : List Cell) → find p cells ≡ Some x → IsPicked p x cells
find_in p x [] never = absurd (let e : None ≡ Some x = never in cc)
find_in p x (c ∷ cells) is =
    elim (p c) as (λ b. p c ≡ b → cond b (Some c) (find p cells) ≡ Some x → IsPicked p x (c ∷ cells)) [
      | true ↦ λ holds e. let same : c ≡ x = cc in record { there = inl same; holds = sym (ap p same) ∙ holds }
      | false ↦ λ _ e. let rest = find_in p x cells e in record { there = inr rest.there; holds = rest.holds }
    ] refl is

pub find_none : (p : Cell → Bool) (cells : List Cell) → find p cells ≡ None → (c : Cell) → IsIn c cells → p c ≡ false
find_none p [] none c never = absurd never
find_none p (x ∷ cells) none c is =
    elim (p x) as (λ b. p x ≡ b → cond b (Some x) (find p cells) ≡ None → p c ≡ false) [
      | true ↦ λ _ e. absurd (let no : Some x ≡ None = e in cc)
      | false ↦ λ isnt e. ⊎_elim (λ same. sym (ap p same) ∙ isnt) (λ later. find_none p cells e c later) is
    ] refl none

-- ---- what is done to each

pub map_same : {X : Type 0} (f g : Cell → X) (cells : List Cell) → ((c : Cell) → IsIn c cells → f c ≡ g c) → map f cells ≡ map g cells
map_same f g [] same = refl
map_same f g (c ∷ cells) same = ap (λ x. x ∷ map f cells) (same c (inl refl)) ∙ ap (λ xs. g c ∷ xs) (map_same f g cells (λ d is. same d (inr is)))

pub filter_same : (p q : Cell → Bool) (cells : List Cell) → ((c : Cell) → IsIn c cells → p c ≡ q c) → filter p cells ≡ filter q cells
filter_same p q [] same = refl
filter_same p q (c ∷ cells) same =
    ap (λ b. cond b (c ∷ filter p cells) (filter p cells)) (same c (inl refl))
    ∙ ap (λ xs. cond (q c) (c ∷ xs) xs) (filter_same p q cells (λ d is. same d (inr is)))

pub filter_all : (p : Cell → Bool) (cells : List Cell) → ((c : Cell) → IsIn c cells → p c ≡ true) → filter p cells ≡ cells
filter_all p [] all = refl
filter_all p (c ∷ cells) all =
    ap (λ b. cond b (c ∷ filter p cells) (filter p cells)) (all c (inl refl)) ∙ ap (λ xs. c ∷ xs) (filter_all p cells (λ d is. all d (inr is)))

pub filter_mapped : {X : Type 0} (f : Cell → X) (p : X → Bool) (cells : List Cell) → filter p (map f cells) ≡ map f (filter (λ c. p (f c)) cells)
filter_mapped f p [] = refl
filter_mapped f p (c ∷ cells) =
    let rest = filter_mapped f p cells in
    elim (p (f c)) as (λ b. cond b (f c ∷ filter p (map f cells)) (filter p (map f cells)) ≡ map f (cond b (c ∷ filter (λ d. p (f d)) cells) (filter (λ d. p (f d)) cells))) [
      | true ↦ ap (λ xs. f c ∷ xs) rest
      | false ↦ rest
    ]

-- ---- numbers that are apart

pub apart_push : (key : Cell → ℕ) (d : Cell) (cells : List Cell) → AreApartBy key cells → HasNone key (key d) cells → AreApartBy key (cells ++ d ∷ [])
apart_push key d [] apart none = ((λ c no. absurd no), tt)
apart_push key d (c ∷ cells) apart none = (
  (λ x is. ⊎_elim (λ there. apart.0 x there) (λ same e. none c (inl refl) (sym e ∙ ap key (sym same))) (in_push x d cells is)),
  apart_push key d cells apart.1 (λ x is. none x (inr is)),
)

pub apart_map : (key : Cell → ℕ) (f : Cell → Cell) (cells : List Cell) → ((c : Cell) → key (f c) ≡ key c) → AreApartBy key cells → AreApartBy key (map f cells)
apart_map key f [] same apart = tt
apart_map key f (c ∷ cells) same apart = (
  (λ y is e. let m = in_map f y cells is in apart.0 m.from m.there (sym (same m.from) ∙ ap key m.made ∙ e ∙ same c)),
  apart_map key f cells same apart.1,
)

pub apart_filter : (key : Cell → ℕ) (p : Cell → Bool) (cells : List Cell) → AreApartBy key cells → AreApartBy key (filter p cells)
apart_filter key p [] apart = tt
apart_filter key p (c ∷ cells) apart =
    let rest = apart_filter key p cells apart.1 in
    elim (p c) as (λ b. AreApartBy key (cond b (c ∷ filter p cells) (filter p cells))) [
      | true ↦ ((λ x is. apart.0 x (in_filter p x cells is).there), rest)
      | false ↦ rest
    ]

pub same_cell : (key : Cell → ℕ) (cells : List Cell) → AreApartBy key cells → (x y : Cell) → IsIn x cells → IsIn y cells → key x ≡ key y → x ≡ y
same_cell key [] apart x y never also same = absurd never
same_cell key (c ∷ cells) apart x y at_x at_y same = ⊎_elim
    (λ cx. ⊎_elim
    (λ cy. sym cx ∙ cy)
    (λ later. absurd (apart.0 y later (sym same ∙ ap key (sym cx))))
    at_y)
    (λ later. ⊎_elim
    (λ cy. absurd (apart.0 x later (same ∙ ap key (sym cy))))
    (λ also. same_cell key cells apart.1 x y later also same)
    at_y)
    at_x

-- what has one number of it has the other one, too
pub same_by : (key other : Cell → ℕ) (cells : List Cell) → AreApartBy key cells → AreApartBy other cells → (x : Cell) → IsIn x cells
    → (c : Cell) → IsIn c cells → (key c == key x) ≡ (other c == other x)
same_by key other cells a b x at_x c at_c = ⊎_elim
    (λ same. eq-eqb (key c) (key x) same ∙ sym (eq-eqb (other c) (other x) (ap other (same_cell key cells a c x at_c at_x same))))
    (λ isnt. ne_eqb (key c) (key x) isnt ∙ sym (ne_eqb (other c) (other x) (λ same. isnt (ap key (same_cell other cells b c x at_c at_x same)))))
    (cases_eq (key c) (key x))

-- ---- no more numbers than there are

fewer : (key : Cell → ℕ) (n : ℕ) (cells : List Cell) → AreApartBy key cells → length cells ≤ length (filter (λ c. not (key c == n)) cells) + 1
fewer key n [] apart = omega arith
fewer key n (c ∷ cells) apart = ⊎_elim
    (λ same.
    let all = ap (λ (xs : List Cell). length xs) (filter_all (λ d. not (key d == n)) cells (λ d is. ap not (ne_eqb (key d) n (λ e. apart.0 d is (e ∙ sym same))))) in
    let gone = ap (λ b. length (cond (not b) (c ∷ filter (λ d. not (key d == n)) cells) (filter (λ d. not (key d == n)) cells))) (eq-eqb (key c) n same) in
    omega (arith, all, gone))
    (λ other.
    let rest = fewer key n cells apart.1 in
    let stays = ap (λ b. length (cond (not b) (c ∷ filter (λ d. not (key d == n)) cells) (filter (λ d. not (key d == n)) cells))) (ne_eqb (key c) n other) in
    omega (arith, rest, stays))
    (cases_eq (key c) n)

pub no_more : (key : Cell → ℕ) (n : ℕ) (cells : List Cell) → AreApartBy key cells → ((c : Cell) → IsIn c cells → 1 ≤ key c) → ((c : Cell) → IsIn c cells → key c ≤ n) → length cells ≤ n
no_more key zero [] apart low high = omega arith
no_more key zero (c ∷ cells) apart low high = let a = low c (inl refl) in let b = high c (inl refl) in absurd (omega (arith, a, b))
no_more key (suc n) cells apart low high =
    let p : Cell → Bool = λ c. not (key c == suc n) in
    let rest = no_more key n (filter p cells) (apart_filter key p cells apart)
    (λ c is. low c (in_filter p c cells is).there)
    (λ c is.
    let i = in_filter p c cells is in
    let a = high c i.there in
    let other : key c ≢ suc n = λ e. false≢true (sym (ap not (eq-eqb (key c) (suc n) e)) ∙ i.holds) in
    ⊎_elim (λ e. absurd (other e)) (λ ne. omega (arith, a, ne)) (cases_eq (key c) (suc n))) in
    let a = fewer key (suc n) cells apart in
    omega (arith, rest, a)
