-- Ascending lists: an element more, the numbers that ExpCmdSN goes past, and the requests that are held at numbers.
use Rattle.std.proofs.Common.{◌≡◌, ℕ, zero, suc, ◌+◌, ◌<◌, ◌≤◌, ◌==◌, ◌&&◌, ◌||◌, ◌⊎◌, not, inl, inr, ⊎_elim, cond, Bool, true, false, List, [], ◌∷◌, ◌++◌, filter, Option, Some, None, refl, ap, sym, ◌∙◌, arith, nat_lt, nat_le, eq-eqb}
use Rattle.std.specs.List.{range_with_len}
use Rattle.std.proofs.lemmas.Bool.{cases_eq, cases_lt, false≢true}
use Rattle.std.proofs.lemmas.Bool.Decides.{nat_tests}
use Rattle.iscsi_rules.specs.rules.Trace.{Arrival, Trace, first_of, contains, held, held_among}
use Rattle.iscsi_rules.proofs.general.BoolLemmas.{or_first, or_second}
use Rattle.iscsi_rules.proofs.general.ElementLemmas.{In, in-filter}
use Rattle.iscsi_machine.specs.Machine.{inserted, past}

abbrev pub Rising : {A : Type 0} → (A → ℕ) → List A → Type 0
Rising place [] = Unit {0}
Rising {A = A} place (x ∷ xs) = ((y : A) → In y xs → place x < place y) × Rising place xs

-- ---- an element more

pub inserted-in : {A : Type 0} (place : A → ℕ) (x : A) (ys : List A) (z : A) → In z (inserted place x ys) → (x ≡ z) ⊎ In z ys
inserted-in place x [] z h = h
inserted-in place x (y ∷ ys) z h =
    elim (nat_lt (place x) (place y)) as (λ b. In z (cond b (x ∷ y ∷ ys) (y ∷ inserted place x ys)) → (x ≡ z) ⊎ In z (y ∷ ys)) [
      | true ↦ λ k. k
      | false ↦ λ k. ⊎_elim (λ same. inr (inl same)) (λ later. ⊎_elim (λ it. inl it) (λ rest. inr (inr rest)) (inserted-in place x ys z later)) k
    ] h

pub inserted-rising : {A : Type 0} (place : A → ℕ) (x : A) (ys : List A) → Rising place ys → ((y : A) → In y ys → (place x == place y) ≡ false) → Rising place (inserted place x ys)
inserted-rising place x [] r apart = (λ y h. absurd h, tt)
inserted-rising {A = A} place x (y ∷ ys) r apart = by_test (nat_lt (place x) (place y)) refl (inserted-rising place x ys r.1 (λ z h. apart z (inr h)))
  where
    by_test : (v : Bool) → nat_lt (place x) (place y) ≡ v → Rising place (inserted place x ys) → Rising place (cond v (x ∷ y ∷ ys) (y ∷ inserted place x ys))
    by_test true is rest =
        let lt : place x < place y = grind (arith, nat_tests) in
        (λ z h. ⊎_elim (λ same. omega (arith, lt, ap place same)) (λ later. omega (arith, lt, r.0 z later)) h, r)
    by_test false is rest =
        let no : (place x == place y) ≡ false = apart y (inl refl) in
        let lt : place y < place x = grind (arith, nat_tests) in
        (λ z h. ⊎_elim (λ same. omega (arith, lt, ap place same)) (λ later. r.0 z later) (inserted-in place x ys z h), rest)

or_swap : (a b c : Bool) → (a || (b || c)) ≡ (b || (a || c))
or_swap true true c = refl
or_swap true false c = refl
or_swap false b c = refl

pub contains-inserted : (n : ℕ) (ns : List ℕ) (k : ℕ) → contains (inserted (λ j. j) n ns) k ≡ ((n == k) || contains ns k)
contains-inserted n [] k = refl
contains-inserted n (m ∷ ns) k =
    elim (nat_lt n m) as (λ b. contains (cond b (n ∷ m ∷ ns) (m ∷ inserted (λ j. j) n ns)) k ≡ ((n == k) || ((m == k) || contains ns k))) [
      | true ↦ refl
      | false ↦ ap (λ b. (m == k) || b) (contains-inserted n ns k) ∙ or_swap (m == k) (n == k) (contains ns k)
    ]

pub filter-rising : {A : Type 0} (place : A → ℕ) (p : A → Bool) (xs : List A) → Rising place xs → Rising place (filter p xs)
filter-rising place p [] r = tt
filter-rising place p (x ∷ xs) r =
    elim (p x) as (λ b. Rising place (cond b (x ∷ filter p xs) (filter p xs))) [
      | true ↦ (λ y h. r.0 y (in-filter p xs y h).0, filter-rising place p xs r.1)
      | false ↦ filter-rising place p xs r.1
    ]

pub filter-same_in : {A : Type 0} (p q : A → Bool) (xs : List A) → ((x : A) → In x xs → p x ≡ q x) → filter p xs ≡ filter q xs
filter-same_in p q [] h = refl
filter-same_in p q (x ∷ xs) h = ap (λ b. cond b (x ∷ filter p xs) (filter p xs)) (h x (inl refl)) ∙ ap (λ ys. cond (q x) (x ∷ ys) ys) (filter-same_in p q xs (λ y k. h y (inr k)))

pub filter-all_in : {A : Type 0} (p : A → Bool) (xs : List A) → ((x : A) → In x xs → p x ≡ true) → filter p xs ≡ xs
filter-all_in p [] h = refl
filter-all_in p (x ∷ xs) h = ap (λ b. cond b (x ∷ filter p xs) (filter p xs)) (h x (inl refl)) ∙ ap (λ ys. x ∷ ys) (filter-all_in p xs (λ y k. h y (inr k)))

pub filter-none_in : {A : Type 0} (p : A → Bool) (xs : List A) → ((x : A) → In x xs → p x ≡ false) → filter p xs ≡ []
filter-none_in p [] h = refl
filter-none_in p (x ∷ xs) h = ap (λ b. cond b (x ∷ filter p xs) (filter p xs)) (h x (inl refl)) ∙ filter-none_in p xs (λ y k. h y (inr k))

pub contains_in : (ns : List ℕ) (n : ℕ) → contains ns n ≡ false → (k : ℕ) → In k ns → (n == k) ≡ false
contains_in [] n gone k h = absurd h
contains_in (m ∷ ns) n gone k h = by_test (λ none later. contains_in ns n none k later) (m == n) refl gone
  where
    by_test : (contains ns n ≡ false → In k ns → (n == k) ≡ false) → (v : Bool) → (m == n) ≡ v → (v || contains ns n) ≡ false → (n == k) ≡ false
    by_test rest true is none = absurd (false≢true (sym none))
    by_test rest false is none = ⊎_elim (λ same. let no : (n == k) ≡ false = grind (arith, nat_tests) in no) (λ later. rest none later) h

pub gone_below : (ns : List ℕ) (e n : ℕ) → ((k : ℕ) → In k ns → e < k) → n ≤ e → contains ns n ≡ false
gone_below [] e n high low = refl
gone_below (m ∷ ns) e n high low =
    let lt : e < m = high m (inl refl) in
    let no : (m == n) ≡ false = grind (arith, nat_tests) in
    ap (λ b. b || contains ns n) no ∙ gone_below ns e n (λ k h. high k (inr h)) low

-- ---- the numbers that ExpCmdSN goes past

pub past_low : (ns : List ℕ) (e : ℕ) → e ≤ past e ns
past_low [] e = omega arith
past_low (n ∷ ns) e = elim (n == e) as (λ b. e ≤ past (cond b (e + 1) e) ns) [ true ↦ omega (arith, past_low ns (e + 1)) | false ↦ past_low ns e ]

pub past_below : (ns : List ℕ) (e k : ℕ) → e ≤ k → k < past e ns → contains ns k ≡ true
past_below [] e k low high = absurd (omega arith)
past_below (n ∷ ns) e k low high = by_test (past_below ns) (n == e) refl high
  where
    by_test : ((f j : ℕ) → f ≤ j → j < past f ns → contains ns j ≡ true) → (v : Bool) → (n == e) ≡ v → k < past (cond v (e + 1) e) ns → contains (n ∷ ns) k ≡ true
    by_test rest true is lt =
        ⊎_elim (λ same. or_first (n == k) (contains ns k) (ap (λ j. n == j) same ∙ is))
        (λ apart. or_second (n == k) (contains ns k) (rest (e + 1) k (omega arith) lt)) (cases_eq k e)
    by_test rest false is lt = or_second (n == k) (contains ns k) (rest e k low lt)

past_stuck : (ns : List ℕ) (e : ℕ) → ((k : ℕ) → In k ns → e < k) → past e ns ≡ e
past_stuck [] e above = refl
past_stuck (n ∷ ns) e above =
    let lt : e < n = above n (inl refl) in
    let no : (n == e) ≡ false = grind (arith, nat_tests) in
    ap (λ b. past (cond b (e + 1) e) ns) no ∙ past_stuck ns e (λ k h. above k (inr h))

pub past_gone : (ns : List ℕ) (e : ℕ) → Rising (λ k. k) ns → contains ns (past e ns) ≡ false
past_gone [] e r = refl
past_gone (n ∷ ns) e r = by_test (λ f. past_gone ns f r.1) (n == e) refl
  where
    none : (m : ℕ) → (n == m) ≡ false → contains ns m ≡ false → ((n == m) || contains ns m) ≡ false
    none m apart rest = ap (λ b. b || contains ns m) apart ∙ rest

    by_test : ((f : ℕ) → contains ns (past f ns) ≡ false) → (v : Bool) → (n == e) ≡ v → ((n == past (cond v (e + 1) e) ns) || contains ns (past (cond v (e + 1) e) ns)) ≡ false
    by_test rest true is =
        let low : e + 1 ≤ past (e + 1) ns = past_low ns (e + 1) in
        let no : (n == past (e + 1) ns) ≡ false = grind (arith, nat_tests) in
        none (past (e + 1) ns) no (rest (e + 1))
    by_test rest false is =
        ⊎_elim
        (λ less. let low : e ≤ past e ns = past_low ns e in let no : (n == past e ns) ≡ false = grind (arith, nat_tests) in none (past e ns) no (rest e))
        (λ more.
        let lt : e < n = grind (arith, nat_tests) in
        let here : past e ns ≡ e = past_stuck ns e (λ k h. let up : n < k = r.0 k h in omega (arith, lt, up)) in
        none (past e ns) (ap (λ m. n == m) here ∙ is) (rest e))
        (cases_lt n e)

-- ---- the requests that are held

abbrev pub number_of : Arrival → ℕ
number_of h = h.number

abbrev pub is_at : ℕ → Arrival → Bool
is_at n h = h.number == n

abbrev pub held_at : List Arrival → ℕ → Option Arrival
held_at hs n = first_of (filter (is_at n) hs)

pub unheld : (hs : List Arrival) (n : ℕ) → held_at hs n ≡ None → (h : Arrival) → In h hs → (h.number == n) ≡ false
unheld [] n none h there = absurd there
unheld (x ∷ hs) n none h there = by_test (λ gone later. unheld hs n gone h later) (x.number == n) refl none
  where
    by_test : (held_at hs n ≡ None → In h hs → (h.number == n) ≡ false) → (v : Bool) → (x.number == n) ≡ v → first_of (cond v (x ∷ filter (is_at n) hs) (filter (is_at n) hs)) ≡ None → (h.number == n) ≡ false
    by_test rest true is gone = absurd cc
    by_test rest false is gone = ⊎_elim (λ same. ap (is_at n) (sym same) ∙ is) (λ later. rest gone later) there

pub inserted-apart : (a : Arrival) (hs : List Arrival) (n : ℕ) → (a.number == n) ≡ false → filter (is_at n) (inserted number_of a hs) ≡ filter (is_at n) hs
inserted-apart a [] n apart = ap (λ b. let l : List Arrival = cond b (a ∷ []) [] in l) apart
inserted-apart a (h ∷ hs) n apart =
    elim (nat_lt a.number h.number) as (λ b. filter (is_at n) (cond b (a ∷ h ∷ hs) (h ∷ inserted number_of a hs)) ≡ filter (is_at n) (h ∷ hs)) [
      | true ↦ ap (λ b. cond b (a ∷ filter (is_at n) (h ∷ hs)) (filter (is_at n) (h ∷ hs))) apart
      | false ↦ ap (λ ys. cond (h.number == n) (h ∷ ys) ys) (inserted-apart a hs n apart)
    ]

pub inserted-here : (a : Arrival) (hs : List Arrival) (n : ℕ) → (a.number == n) ≡ true → ((h : Arrival) → In h hs → (h.number == n) ≡ false) → held_at (inserted number_of a hs) n ≡ Some a
inserted-here a [] n here none = ap (λ b. first_of (cond b (a ∷ []) [])) here
inserted-here a (h ∷ hs) n here none =
    elim (nat_lt a.number h.number) as (λ b. held_at (cond b (a ∷ h ∷ hs) (h ∷ inserted number_of a hs)) n ≡ Some a) [
      | true ↦ ap (λ b. first_of (cond b (a ∷ filter (is_at n) (h ∷ hs)) (filter (is_at n) (h ∷ hs)))) here
      | false ↦ ap (λ b. first_of (cond b (h ∷ filter (is_at n) (inserted number_of a hs)) (filter (is_at n) (inserted number_of a hs)))) (none h (inl refl)) ∙ inserted-here a hs n here (λ x k. none x (inr k))
    ]

abbrev pub is_not_at : ℕ → Arrival → Bool
is_not_at k h = not (k == h.number)

pub released-here : (hs : List Arrival) (k n : ℕ) → (k == n) ≡ true → filter (is_at n) (filter (is_not_at k) hs) ≡ []
released-here hs k n here = filter-none_in (is_at n) (filter (is_not_at k) hs) (λ h there. no h (k == h.number) refl (in-filter (is_not_at k) hs h there).1)
  where
    no : (h : Arrival) (v : Bool) → (k == h.number) ≡ v → not v ≡ true → (h.number == n) ≡ false
    no h true is out = absurd (false≢true out)
    no h false is out = let z : (h.number == n) ≡ false = grind (arith, nat_tests) in z

pub released-apart : (hs : List Arrival) (k n : ℕ) → (k == n) ≡ false → filter (is_at n) (filter (is_not_at k) hs) ≡ filter (is_at n) hs
released-apart [] k n apart = refl
released-apart (h ∷ hs) k n apart = by_test (released-apart hs k n apart) (k == h.number) refl
  where
    by_test : filter (is_at n) (filter (is_not_at k) hs) ≡ filter (is_at n) hs → (v : Bool) → (k == h.number) ≡ v → filter (is_at n) (cond (not v) (h ∷ filter (is_not_at k) hs) (filter (is_not_at k) hs)) ≡ filter (is_at n) (h ∷ hs)
    by_test rest true is =
        let no : (h.number == n) ≡ false = grind (arith, nat_tests) in
        rest ∙ sym (ap (λ b. cond b (h ∷ filter (is_at n) hs) (filter (is_at n) hs)) no)
    by_test rest false is = ap (λ ys. cond (h.number == n) (h ∷ ys) ys) rest

-- from a number on, and before another one
abbrev pub is_between : ℕ → ℕ → Arrival → Bool
is_between a b h = nat_le a h.number && nat_lt h.number b

abbrev listed : Option Arrival → List Arrival
listed x = elim x [ Some h ↦ h ∷ [] | None ↦ [] ]

at_and_after : (hs : List Arrival) (a b : ℕ) → a < b → Rising number_of hs → filter (is_between a b) hs ≡ listed (held_at hs a) ++ filter (is_between (a + 1) b) hs
at_and_after [] a b lt r = refl
at_and_after (h ∷ hs) a b lt r = ⊎_elim (λ low. less low (at_and_after hs a b lt r.1)) (λ low. ⊎_elim here (λ apart. more (omega (arith, low, apart))) (cases_eq h.number a)) (cases_lt h.number a)
  where
    parts : (u v w : Bool) → is_between a b h ≡ u → (h.number == a) ≡ v → is_between (a + 1) b h ≡ w
        → cond u (h ∷ filter (is_between a b) hs) (filter (is_between a b) hs) ≡ listed (first_of (cond v (h ∷ filter (is_at a) hs) (filter (is_at a) hs))) ++ cond w (h ∷ filter (is_between (a + 1) b) hs) (filter (is_between (a + 1) b) hs)
        → filter (is_between a b) (h ∷ hs) ≡ listed (held_at (h ∷ hs) a) ++ filter (is_between (a + 1) b) (h ∷ hs)
    parts u v w i j k same =
        ap (λ x. cond x (h ∷ filter (is_between a b) hs) (filter (is_between a b) hs)) i ∙ same
        ∙ sym (ap (λ x. listed (first_of (cond x (h ∷ filter (is_at a) hs) (filter (is_at a) hs))) ++ cond w (h ∷ filter (is_between (a + 1) b) hs) (filter (is_between (a + 1) b) hs)) j)
        ∙ sym (ap (λ x. listed (held_at (h ∷ hs) a) ++ cond x (h ∷ filter (is_between (a + 1) b) hs) (filter (is_between (a + 1) b) hs)) k)

    less : h.number < a → filter (is_between a b) hs ≡ listed (held_at hs a) ++ filter (is_between (a + 1) b) hs → filter (is_between a b) (h ∷ hs) ≡ listed (held_at (h ∷ hs) a) ++ filter (is_between (a + 1) b) (h ∷ hs)
    less low rest =
        let i : nat_le a h.number ≡ false = grind (arith, nat_tests) in
        let j : (h.number == a) ≡ false = grind (arith, nat_tests) in
        let k : nat_le (a + 1) h.number ≡ false = grind (arith, nat_tests) in
        parts false false false (ap (λ x. x && nat_lt h.number b) i) j (ap (λ x. x && nat_lt h.number b) k) rest

    next : (x : Arrival) → a < x.number → is_between a b x ≡ is_between (a + 1) b x
    next x up =
        let i : nat_le a x.number ≡ true = grind (arith, nat_tests) in
        let k : nat_le (a + 1) x.number ≡ true = grind (arith, nat_tests) in
        ap (λ y. y && nat_lt x.number b) (i ∙ sym k)

    here : h.number ≡ a → filter (is_between a b) (h ∷ hs) ≡ listed (held_at (h ∷ hs) a) ++ filter (is_between (a + 1) b) (h ∷ hs)
    here same =
        let i : nat_le a h.number ≡ true = grind (arith, nat_tests) in
        let ii : nat_lt h.number b ≡ true = grind (arith, nat_tests) in
        let j : (h.number == a) ≡ true = eq-eqb h.number a same in
        let k : nat_le (a + 1) h.number ≡ false = grind (arith, nat_tests) in
        parts true true false (ap (λ x. x && nat_lt h.number b) i ∙ ii) j (ap (λ x. x && nat_lt h.number b) k)
        (ap (λ ys. h ∷ ys) (filter-same_in (is_between a b) (is_between (a + 1) b) hs (λ x there. next x (let up : h.number < x.number = r.0 x there in omega (arith, up, same)))))

    more : a < h.number → filter (is_between a b) (h ∷ hs) ≡ listed (held_at (h ∷ hs) a) ++ filter (is_between (a + 1) b) (h ∷ hs)
    more up =
        filter-same_in (is_between a b) (is_between (a + 1) b) (h ∷ hs) (λ x there. next x (above x there))
        ∙ sym (ap (λ ys. listed (first_of ys) ++ filter (is_between (a + 1) b) (h ∷ hs)) (filter-none_in (is_at a) (h ∷ hs) (λ x there. apart x (above x there))))
      where
        above : (x : Arrival) → In x (h ∷ hs) → a < x.number
        above x there = ⊎_elim (λ same. omega (arith, up, ap number_of same)) (λ later. let on : h.number < x.number = r.0 x later in omega (arith, up, on)) there

        apart : (x : Arrival) → a < x.number → (x.number == a) ≡ false
        apart x on = let z : (x.number == a) ≡ false = grind (arith, nat_tests) in z

-- the requests that are held at the numbers of a range
pub held_range : (t : Trace) (hs : List Arrival) → Rising number_of hs → ((n : ℕ) → held_at hs n ≡ held t n) → (len a : ℕ) → held_among t (range_with_len a len) ≡ filter (is_between a (a + len)) hs
held_range t hs r same zero a = sym (filter-none_in (is_between a (a + 0)) hs (λ h there. out h (nat_le a h.number) refl))
  where
    out : (h : Arrival) (v : Bool) → nat_le a h.number ≡ v → (v && nat_lt h.number (a + 0)) ≡ false
    out h true is = let no : nat_lt h.number (a + 0) ≡ false = grind (arith, nat_tests) in no
    out h false is = refl
held_range t hs r same (suc len) a =
    ap (λ ys. listed (held t a) ++ ys) (held_range t hs r same len (a + 1) ∙ ap (λ b. filter (is_between (a + 1) b) hs) (let z : a + 1 + len ≡ a + suc len = omega arith in z))
    ∙ ap (λ x. listed x ++ filter (is_between (a + 1) (a + suc len)) hs) (sym (same a))
    ∙ sym (at_and_after hs a (a + suc len) (omega arith) r)
