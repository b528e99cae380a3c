-- Lists of numbers that go up: those that have each number as often are the same.
use Rattle.std.proofs.Common.{◌≡◌, ℕ, ◌+◌, ◌<◌, ◌≤◌, ◌==◌, cond, nat_lt, Bool, true, false, List, [], ◌∷◌, count_by, filter, refl, ap, ◌∙◌, arith}
use Rattle.std.proofs.lemmas.Bool.{eqb-true, eq-eqb, ltb-false, ltb-true}
use Rattle.iscsi_rules.specs.rules.Trace.{Command}
use Rattle.iscsi_rules.proofs.general.CountLemmas.{one, count-cons}
use Rattle.iscsi_outbox_law.specs.private.Pairs.{EachOf, InOrder}
use Rattle.iscsi_outbox_law.proofs.general.PairLemmas.{each-filter, each-map, each-weaken}
use Rattle.iscsi_ffi_steps.specs.State.{inserted}
use Rattle.iscsi_ffi_law.proofs.completions.DoneShape.{tickets_of}
use Rattle.iscsi_ffi_law.proofs.general.Members.{Passing, counted_in, each_in}
use Rattle.iscsi_ffi_law.proofs.commands.Starting.{all_inserted}

abbrev pub GoUp : List ℕ → Type 0
GoUp xs = InOrder (λ (a b : ℕ). a ≤ b) xs

abbrev pub times : ℕ → List ℕ → ℕ
times n xs = count_by (λ (k : ℕ). k == n) xs

low_first : (a n : ℕ) (xs : List ℕ) → EachOf (λ b. a ≤ b) xs → 1 ≤ times n (a ∷ xs) → a ≤ n
low_first a n xs low some = by_test (a == n) refl
  where
    by_test : (v : Bool) → (a == n) ≡ v → a ≤ n
    by_test true is = let same : a ≡ n = eqb-true a n is in omega (arith, same)
    by_test false is =
        let none : one (a == n) ≡ 0 = ap one is in
        let x : Passing (λ (k : ℕ). k == n) xs = counted_in (λ (k : ℕ). k == n) xs (omega (arith, some, none, count-cons (λ (k : ℕ). k == n) a xs)) in
        let le : a ≤ x.x = each_in (λ b. a ≤ b) xs x.x x.there low in
        let same : x.x ≡ n = eqb-true x.x n x.passes in
        omega (arith, le, same)

itself : (x : ℕ) (xs : List ℕ) → 1 ≤ times x (x ∷ xs)
itself x xs = let here : one (x == x) ≡ 1 = ap one (eq-eqb x x refl) in omega (arith, here, count-cons (λ (k : ℕ). k == x) x xs)

pub same_list : (xs ys : List ℕ) → GoUp xs → GoUp ys → ((n : ℕ) → times n xs ≡ times n ys) → xs ≡ ys
same_list [] [] up up' same = refl
same_list [] (y ∷ ys) up up' same = absurd (let some = itself y ys in let none : ⊥ = omega (arith, some, same y) in none)
same_list (x ∷ xs) [] up up' same = absurd (let some = itself x xs in let none : ⊥ = omega (arith, some, same x) in none)
same_list (x ∷ xs) (y ∷ ys) up up' same =
    let le : x ≤ y = low_first x y xs up.0 (omega (arith, itself y ys, same y)) in
    let ge : y ≤ x = low_first y x ys up'.0 (omega (arith, itself x xs, same x)) in
    let e : x ≡ y = omega (arith, le, ge) in
    let rest : xs ≡ ys = same_list xs ys up.1 up'.1 (λ n.
    let first : one (x == n) ≡ one (y == n) = ap (λ k. one (k == n)) e in
    omega (arith, same n, first, count-cons (λ (k : ℕ). k == n) x xs, count-cons (λ (k : ℕ). k == n) y ys)) in
    ap (λ z. z ∷ xs) e ∙ ap (λ zs. y ∷ zs) rest

-- ---- one comes among others

one_more : (n t : ℕ) (ts : List ℕ) → times n (inserted t ts) ≡ one (t == n) + times n ts
one_more n t [] = omega (arith, count-cons (λ (k : ℕ). k == n) t [])
one_more n t (u ∷ us) = by_test (one_more n t us) (nat_lt t u)
  where
    by_test : times n (inserted t us) ≡ one (t == n) + times n us → (v : Bool) → times n (cond v (t ∷ u ∷ us) (u ∷ inserted t us)) ≡ one (t == n) + times n (u ∷ us)
    by_test rest true = omega (arith, count-cons (λ (k : ℕ). k == n) t (u ∷ us))
    by_test rest false = omega (arith, rest, count-cons (λ (k : ℕ). k == n) u (inserted t us), count-cons (λ (k : ℕ). k == n) u us)

each_with : (P : ℕ → Type 0) (t : ℕ) (ts : List ℕ) → P t → EachOf P ts → EachOf P (inserted t ts)
each_with P t [] here each = (here, tt)
each_with P t (u ∷ us) here each = by_test (each_with P t us here each.1) (nat_lt t u)
  where
    by_test : EachOf P (inserted t us) → (v : Bool) → EachOf P (cond v (t ∷ u ∷ us) (u ∷ inserted t us))
    by_test rest true = (here, each)
    by_test rest false = (each.0, rest)

still_up : (t : ℕ) (ts : List ℕ) → GoUp ts → GoUp (inserted t ts)
still_up t [] up = (tt, tt)
still_up t (u ∷ us) up = by_test (still_up t us up.1) (nat_lt t u) refl
  where
    by_test : GoUp (inserted t us) → (v : Bool) → nat_lt t u ≡ v → GoUp (cond v (t ∷ u ∷ us) (u ∷ inserted t us))
    by_test rest true is =
        let lt : t < u = ltb-true t u is in
        (((let le : t ≤ u = omega (arith, lt) in le), each-weaken (λ b. u ≤ b) (λ b. t ≤ b) us (λ b le. omega (arith, lt, le)) up.0), up)
    by_test rest false is = let le : u ≤ t = ltb-false t u is in (each_with (λ b. u ≤ b) t us le up.0, rest)

pub all_more : (n : ℕ) (ns ts : List ℕ) → times n (all_inserted ns ts) ≡ times n ns + times n ts
all_more n [] ts = omega arith
all_more n (k ∷ ns) ts = omega (arith, all_more n ns (inserted k ts), one_more n k ts, count-cons (λ (m : ℕ). m == n) k ns)

pub all_up : (ns ts : List ℕ) → GoUp ts → GoUp (all_inserted ns ts)
all_up [] ts up = up
all_up (k ∷ ns) ts up = all_up ns (inserted k ts) (still_up k ts up)

-- ---- tickets

pub order_filter : {A : Type 0} (R : A → A → Type 0) (p : A → Bool) (xs : List A) → InOrder R xs → InOrder R (filter p xs)
order_filter R p [] order = tt
order_filter R p (x ∷ xs) order = by_test (order_filter R p xs order.1) (p x)
  where
    by_test : InOrder R (filter p xs) → (v : Bool) → InOrder R (cond v (x ∷ filter p xs) (filter p xs))
    by_test rest true = (each-filter (R x) p xs order.0, rest)
    by_test rest false = rest

tickets_up : (cs : List Command) → InOrder (λ (c d : Command). c.ticket < d.ticket) cs → GoUp (tickets_of cs)
tickets_up [] order = tt
tickets_up (c ∷ cs) order = (each-map (λ (d : Command). c.ticket < d.ticket) (λ k. c.ticket ≤ k) (λ (d : Command). d.ticket) cs (λ d lt. omega (arith, lt)) order.0, tickets_up cs order.1)

pub filtered_up : (p q : Command → Bool) (cs : List Command) → InOrder (λ (c d : Command). c.ticket < d.ticket) cs → GoUp (tickets_of (filter p (filter q cs)))
filtered_up p q cs order = tickets_up (filter p (filter q cs)) (order_filter (λ (c d : Command). c.ticket < d.ticket) p (filter q cs) (order_filter (λ (c d : Command). c.ticket < d.ticket) q cs order))

pub thrice_up : (p q o : Command → Bool) (cs : List Command) → InOrder (λ (c d : Command). c.ticket < d.ticket) cs → GoUp (tickets_of (filter p (filter q (filter o cs))))
thrice_up p q o cs order = filtered_up p q (filter o cs) (order_filter (λ (c d : Command). c.ticket < d.ticket) o cs order)
