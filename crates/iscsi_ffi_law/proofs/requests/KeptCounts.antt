-- How many requests are held, or wait as functions: no more than there is room for.
use Rattle.std.proofs.Common.{◌≡◌, ℕ, suc, ◌+◌, ◌*◌, ◌<◌, ◌≤◌, ◌==◌, cond, unwrap_or, Bool, true, false, List, [], ◌∷◌, length, count_by, filter, find, get_or, is_some, Option, Some, nat_le, refl, ap, subst, arith, ⊎_elim}
use Rattle.iscsi_outbox_law.proofs.general.PairLemmas.{pairs-length}
use Rattle.std.proofs.lemmas.Bool.{eqb-true, leb-false, cases_lt}
use Rattle.iscsi_wire.specs.Fields.{connection_of}
use Rattle.iscsi_rules.specs.rules.Management.{MOST_WAITING}
use Rattle.iscsi_rules.specs.rules.Trace.{Arrival}
use Rattle.iscsi_rules.proofs.general.CountLemmas.{count-cons, one}
use Rattle.iscsi_outbox_law.specs.private.Pairs.{EachOf}
use Rattle.iscsi_requests.specs.Conns.{of_conn}
use Rattle.iscsi_requests.specs.Functions.{WaitingFunctions}
use Rattle.iscsi_requests.specs.declared.functions.WaitingFunction.{WaitingFunction}
use Rattle.iscsi_requests.specs.Numbers.{HeldNumbers, SIZES, size_for}
use Rattle.iscsi_ffi_law.specs.Names.{Name}
use Rattle.iscsi_ffi_law.specs.Parts.{AreFunctions, IsFunctionAt}
use Rattle.iscsi_ffi_law.specs.Uses.{count_lists}
use Rattle.iscsi_ffi_law.proofs.general.Members.{each_in, Passing, counted_in}

abbrev pub held_or_waiting : HeldNumbers → WaitingFunctions → ℕ
held_or_waiting v fs = count_by (λ (x : Option ℕ). is_some x) v.places + count_lists (λ (f : WaitingFunction). true) fs.waiting

-- ---- what is held

one_few : (b : Bool) → one b ≤ 1
one_few true = omega arith
one_few false = omega arith

held_few : (xs : List (Option ℕ)) → count_by (λ (x : Option ℕ). is_some x) xs ≤ length xs
held_few [] = omega arith
held_few (x ∷ xs) = let rest = held_few xs in let here = one_few (is_some x) in omega (arith, rest, here, count-cons (λ (y : Option ℕ). is_some y) x xs)

-- each of these isn't more than twice the one before it
abbrev Doubles : ℕ → List ℕ → Type 0
Doubles x [] = 1024 ≤ 2 * x + 1
Doubles x (y ∷ ys) = (y ≤ 2 * x + 1) × Doubles y ys

size_from : (w x : ℕ) → x ≤ w → (ys : List ℕ) → Doubles x ys → unwrap_or (find (λ size. nat_le w size) ys) 1024 ≤ 2 * w + 1
size_from w x le [] d = omega (arith, le, d)
size_from w x le (y ∷ ys) d = by_test (λ more. size_from w y more ys d.1) (nat_le w y) refl
  where
    by_test : (y ≤ w → unwrap_or (find (λ size. nat_le w size) ys) 1024 ≤ 2 * w + 1) → (v : Bool) → nat_le w y ≡ v → unwrap_or (cond v (Some y) (find (λ size. nat_le w size) ys)) 1024 ≤ 2 * w + 1
    by_test further true is = let up = d.0 in omega (arith, up, le)
    by_test further false is = further (let more = leb-false w y is in omega (arith, more))

pub size_few : (w : ℕ) → size_for w ≤ 2 * w + 1
size_few w = size_from w 0 (omega arith) SIZES (omega arith, (omega arith, (omega arith, (omega arith, (omega arith, (omega arith, (omega arith, (omega arith, (omega arith, (omega arith, (omega arith, omega arith)))))))))))

-- ---- functions that wait

pub long_filter : (test : Arrival → Bool) (ws : List Arrival) → length (filter test ws) ≡ count_by test ws
long_filter test [] = refl
long_filter test (b ∷ ws) = by_test (long_filter test ws) (test b) refl
  where
    by_test : length (filter test ws) ≡ count_by test ws → (u : Bool) → test b ≡ u → length (cond u (b ∷ filter test ws) (filter test ws)) ≡ count_by test (b ∷ ws)
    by_test rest true is = let here : one (test b) ≡ 1 = ap one is in let all = count-cons test b ws in omega (arith, rest, here, all)
    by_test rest false is = let here : one (test b) ≡ 0 = ap one is in let all = count-cons test b ws in omega (arith, rest, here, all)

-- each connection has no more than these, if each one that has any
pub few_on : (ws : List Arrival) → EachOf (λ (b : Arrival). count_by (λ (c : Arrival). connection_of c.request == connection_of b.request) ws ≤ MOST_WAITING) ws → (cid : ℕ) → count_by (λ (c : Arrival). connection_of c.request == cid) ws ≤ 4
few_on ws each cid = ⊎_elim
    (λ some.
    let x : Passing (λ (c : Arrival). connection_of c.request == cid) ws = counted_in (λ (c : Arrival). connection_of c.request == cid) ws (omega (arith, some)) in
    subst (λ m. count_by (λ (c : Arrival). connection_of c.request == m) ws ≤ 4) (eqb-true (connection_of x.x.request) cid x.passes) (each_in (λ (b : Arrival). count_by (λ (c : Arrival). connection_of c.request == connection_of b.request) ws ≤ MOST_WAITING) ws x.x x.there each))
    (λ none. omega (arith, none)) (cases_lt 0 (count_by (λ (c : Arrival). connection_of c.request == cid) ws))

all_counted : {A : Type 0} (xs : List A) → count_by (λ (x : A). true) xs ≡ length xs
all_counted [] = refl
all_counted (x ∷ xs) = let rest = all_counted xs in omega (arith, rest, count-cons (λ (y : _). true) x xs)

lists_few : {A : Type 0} (m : ℕ) (lists : List (List A)) → ((p : ℕ) → p < length lists → length (of_conn p lists) ≤ m) → count_lists (λ (x : A). true) lists ≤ m * length lists
lists_few m [] each = omega arith
lists_few m (xs ∷ lists) each =
    let here : length xs ≤ m = each 0 (omega arith) in
    let all = all_counted xs in
    let rest = lists_few m lists (λ p lt. each (suc p) (omega (arith, lt))) in
    omega (arith, here, all, rest)

module _ (cids : List ℕ) (names : List Name) (v : WaitingFunctions) (ws : List Arrival) (h : AreFunctions cids names v ws) (long : length v.waiting ≡ length cids) (waits : EachOf (λ (b : Arrival). count_by (λ (a : Arrival). connection_of a.request == connection_of b.request) ws ≤ 4) ws) where
  pub functions_few : count_lists (λ (f : WaitingFunction). true) v.waiting ≤ 4 * length cids
  functions_few =
      let few = lists_few 4 v.waiting (λ p lt. let inside : p < length cids = (let l = long in omega (arith, lt, l)) in let pairs = pairs-length (IsFunctionAt names) (of_conn p v.waiting) (filter (λ (a : Arrival). connection_of a.request == get_or cids p 0) ws) (h.each p inside) in let counted = long_filter (λ (a : Arrival). connection_of a.request == get_or cids p 0) ws in let most = few_on ws waits (get_or cids p 0) in omega (arith, pairs, counted, most)) in
      let l = long in
      omega (arith, few, l)

  -- all of them
  pub kept_few : (u : HeldNumbers) (window : ℕ) → length u.places ≡ size_for window → held_or_waiting u v ≤ 2 * window + 1 + 4 * length cids
  kept_few u window is = let held = held_few u.places in let size = size_few window in let functions = functions_few in omega (arith, held, is, size, functions)
