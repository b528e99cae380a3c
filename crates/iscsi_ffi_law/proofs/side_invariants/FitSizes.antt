-- The sizes of what the steps keep, whatever calls come.
use Rattle.std.proofs.Common.{◌≡◌, ℕ, zero, suc, ◌+◌, ◌≤◌, ◌==◌, ◌&&◌, ◌||◌, not, cond, nat_le, nat_lt, Bool, true, false, List, [], ◌∷◌, ◌++◌, length, map, count_by, replicate, set, Option, refl, ap, sym, ◌∙◌, arith, length-append, eq-eqb, ⊎_elim}
use Rattle.std.proofs.lemmas.Bool.{and_parts, cond_both, eqb-true, false≢true, leb-true, ltb-true, cases_lt}
use Rattle.std.proofs.lemmas.List.Sums.{sum_by-append}
use Rattle.std.specs.List.{list_any}
use Rattle.iscsi_rules.proofs.general.BoolLemmas.{not_true}
use Rattle.iscsi_rules.proofs.general.CountLemmas.{count-cons, one}
use Rattle.iscsi_rules.proofs.general.ListLemmas.{fewer_counted}
use Rattle.iscsi_lists.proofs.WithoutLemmas.{length_without, times_without, times_without_other}
use Rattle.iscsi_lists.specs.Lists.{without}
use Rattle.iscsi_slots.specs.Slots.{times}
use Rattle.iscsi_ffi_commands.specs.Commands.{Commands, entered as command_entered, forgotten, has_ticket, in_stage, is_of, may_enter, staged}
use Rattle.iscsi_ffi_commands.specs.declared.command.Command.{Command}
use Rattle.iscsi_ffi_commands.specs.declared.command.Stage.{Stage}
use Rattle.iscsi_ffi_steps.specs.Steps.{pushed_with_room}
use Rattle.iscsi_outbox_law.specs.private.Pairs.{EachOf}
use Rattle.iscsi_outbox_law.proofs.general.PairLemmas.{each-append, each-filter, each-map}
use Rattle.iscsi_requests.specs.Conns.{behind_oldest, count_all, of_conn, with_newest, without_oldest}
use Rattle.iscsi_requests.specs.Functions.{has_number, without_number}
use Rattle.iscsi_requests.specs.Replies.{has_log_place, without_log_place}
use Rattle.iscsi_requests.specs.Unwritten.{Unwritten}
use Rattle.iscsi_requests.specs.declared.functions.WaitingFunction.{WaitingFunction}
use Rattle.iscsi_requests.specs.declared.replies.WaitingReply.{WaitingReply}
use Rattle.iscsi_ffi_law.proofs.outbox_invariants.FitNumbers.{fewer_left}

-- ---- lists of connections

module _ {X : Type 0} where
  -- a list becomes another one
  pub count_set : (lists : List (List X)) (p : ℕ) (xs : List X) → count_all (set lists p xs) + length (of_conn p lists) ≤ count_all lists + length xs
  count_set [] p xs = omega arith
  count_set (ys ∷ lists) zero xs = omega arith
  count_set (ys ∷ lists) (suc p) xs = let rest = count_set lists p xs in omega (arith, rest)

  fewer_behind : (xs : List X) → length (behind_oldest xs) ≤ length xs
  fewer_behind [] = omega arith
  fewer_behind (x ∷ xs) = omega arith

  pub count_popped : (lists : List (List X)) (p : ℕ) → count_all (without_oldest p lists) ≤ count_all lists
  count_popped lists p = omega (arith, count_set lists p (behind_oldest (of_conn p lists)), fewer_behind (of_conn p lists))

  pub count_pushed : (lists : List (List X)) (p : ℕ) (x : X) → count_all (with_newest p x lists) ≤ count_all lists + 1
  count_pushed lists p x = omega (arith, count_set lists p (of_conn p lists ++ x ∷ []), length-append (of_conn p lists) (x ∷ []))

pub count_none : (X : Type 0) (n : ℕ) → count_all {X = X} (replicate n []) ≡ 0
count_none X zero = refl
count_none X (suc n) = let rest = count_none X n in omega (arith, rest)

pub fewer_numbers : (number : ℕ) (fs : List WaitingFunction) → length (without_number number fs) ≤ length fs
fewer_numbers number [] = omega arith
fewer_numbers number (f ∷ fs) =
    let rest = fewer_numbers number fs in
    cond_both (has_number number f) fs (f ∷ without_number number fs) (λ (xs : List WaitingFunction). length xs ≤ length (f ∷ fs)) (λ is. omega arith) (λ is. omega (arith, rest))

pub fewer_taken : (place : ℕ) (lists : List (List WaitingReply)) → count_all (map (without_log_place place) lists) ≤ count_all lists
fewer_taken place [] = omega arith
fewer_taken place (xs ∷ lists) = omega (arith, fewer_taken place lists, fewer_left (λ (r : WaitingReply). not (has_log_place place r)) xs)

pub count_room : (conn : ℕ) (x : Option ℕ) (v : Unwritten) → count_all v.handed ≤ v.room → count_all (pushed_with_room conn x v).handed ≤ v.room
count_room conn x v few =
    cond_both (nat_lt (count_all v.handed) v.room) (record v { handed = with_newest conn x v.handed }) v (λ (u : Unwritten). count_all u.handed ≤ v.room)
    (λ is. let lt = ltb-true (count_all v.handed) v.room is in omega (arith, lt, count_pushed v.handed conn x)) (λ is. few)

pub room_same : (conn : ℕ) (x : Option ℕ) (v : Unwritten) → (pushed_with_room conn x v).room ≡ v.room
room_same conn x v = cond_both (nat_lt (count_all v.handed) v.room) (record v { handed = with_newest conn x v.handed }) v (λ (u : Unwritten). u.room ≡ v.room) (λ is. refl) (λ is. refl)

-- ---- commands

-- each has a request of its own, in one of the places that there are
pub record AreOfPlaces (v : Commands) : Type 0 where
  pub once : (p : ℕ) → count_by (is_of p) v.items ≤ 1
  pub within : EachOf (λ (c : Command). (1 ≤ c.request) × (c.request ≤ v.room)) v.items

pub commands_entered : (c : Command) (v : Commands) → may_enter c v ≡ true → AreOfPlaces v → AreOfPlaces (command_entered c v)
commands_entered c v may h = record {
  once = λ p. by_place p (c.request == p) refl;
  within = each-append (λ (x : Command). (1 ≤ x.request) × (x.request ≤ v.room)) v.items (c ∷ []) h.within ((leb-true 1 c.request low, leb-true c.request v.room high), tt);
}
  where
    a : (nat_lt v.last c.ticket && nat_lt c.unit v.units && nat_le 1 c.request && nat_le c.request v.room ≡ true) × (not (list_any (is_of c.request) v.items) ≡ true)
    a = and_parts (nat_lt v.last c.ticket && nat_lt c.unit v.units && nat_le 1 c.request && nat_le c.request v.room) (not (list_any (is_of c.request) v.items)) may

    b : (nat_lt v.last c.ticket && nat_lt c.unit v.units && nat_le 1 c.request ≡ true) × (nat_le c.request v.room ≡ true)
    b = and_parts (nat_lt v.last c.ticket && nat_lt c.unit v.units && nat_le 1 c.request) (nat_le c.request v.room) a.0

    high : nat_le c.request v.room ≡ true
    high = b.1

    low : nat_le 1 c.request ≡ true
    low = (and_parts (nat_lt v.last c.ticket && nat_lt c.unit v.units) (nat_le 1 c.request) b.0).1

    none : (cs : List Command) → list_any (is_of c.request) cs ≡ false → count_by (is_of c.request) cs ≡ 0
    none [] is = refl
    none (x ∷ cs) is = by_first (none cs) (is_of c.request x) refl is
      where
        by_first : (list_any (is_of c.request) cs ≡ false → count_by (is_of c.request) cs ≡ 0) → (w : Bool) → is_of c.request x ≡ w → (w || list_any (is_of c.request) cs) ≡ false → count_by (is_of c.request) (x ∷ cs) ≡ 0
        by_first further true e k = absurd (false≢true (sym k))
        by_first further false e k = let here = ap one e in omega (arith, here, further k, count-cons (is_of c.request) x cs)

    push : (p : ℕ) → count_by (is_of p) (v.items ++ c ∷ []) ≡ count_by (is_of p) v.items + one (c.request == p)
    push p = omega (arith, sum_by-append (λ (x : Command). cond (is_of p x) 1 0) v.items (c ∷ []), count-cons (is_of p) c [])

    by_place : (p : ℕ) (w : Bool) → (c.request == p) ≡ w → count_by (is_of p) (v.items ++ c ∷ []) ≤ 1
    by_place p true is =
        let here = ap one is in
        let left = none v.items (not_true (list_any (is_of c.request) v.items) a.1) in
        let same = ap (λ q. count_by (is_of q) v.items) (eqb-true c.request p is) in
        omega (arith, here, left, same, push p)
    by_place p false is = let here = ap one is in omega (arith, here, h.once p, push p)

pub commands_staged : (stage : Stage) (ticket : ℕ) (v : Commands) → AreOfPlaces v → AreOfPlaces (staged stage ticket v)
commands_staged stage ticket v h = record {
  once = λ p. omega (arith, same p v.items, h.once p);
  within = each-map (λ (x : Command). (1 ≤ x.request) × (x.request ≤ v.room)) (λ (x : Command). (1 ≤ x.request) × (x.request ≤ v.room)) (λ (c : Command). cond (has_ticket ticket c) (in_stage stage c) c) v.items
      (λ c k. cond_both (has_ticket ticket c) (in_stage stage c) c (λ (x : Command). (1 ≤ x.request) × (x.request ≤ v.room)) (λ is. k) (λ is. k)) h.within;
}
  where
    same : (p : ℕ) (cs : List Command) → count_by (is_of p) (map (λ (c : Command). cond (has_ticket ticket c) (in_stage stage c) c) cs) ≡ count_by (is_of p) cs
    same p [] = refl
    same p (c ∷ cs) =
        let here : one (is_of p (cond (has_ticket ticket c) (in_stage stage c) c)) ≡ one (is_of p c) = cond_both (has_ticket ticket c) (in_stage stage c) c (λ (x : Command). one (is_of p x) ≡ one (is_of p c)) (λ is. refl) (λ is. refl) in
        omega (arith, here, same p cs, count-cons (is_of p) c cs, count-cons (is_of p) (cond (has_ticket ticket c) (in_stage stage c) c) (map (λ (x : Command). cond (has_ticket ticket x) (in_stage stage x) x) cs))

pub commands_forgotten : (request : ℕ) (v : Commands) → AreOfPlaces v → AreOfPlaces (forgotten request v)
commands_forgotten request v h = record {
  once = λ p. omega (arith, fewer_counted (is_of p) (λ (c : Command). not (is_of request c)) v.items, h.once p);
  within = each-filter (λ (x : Command). (1 ≤ x.request) × (x.request ≤ v.room)) (λ (c : Command). not (is_of request c)) v.items h.within;
}

-- so there are no more than places
few_places : (room : ℕ) (xs : List ℕ) → ((p : ℕ) → times p xs ≤ 1) → EachOf (λ (x : ℕ). (1 ≤ x) × (x ≤ room)) xs → length xs ≤ room
few_places zero [] once within = omega arith
few_places zero (x ∷ xs) once within = absurd (let a = within.0.0 in let b = within.0.1 in let z : ⊥ = omega (arith, a, b) in z)
few_places (suc room) xs once within =
    let rest = few_places room (without (suc room) xs) (λ p. still p (suc room == p) refl) (lower xs within) in
    omega (arith, rest, length_without (suc room) xs, once (suc room))
  where
    still : (p : ℕ) (w : Bool) → (suc room == p) ≡ w → times p (without (suc room) xs) ≤ 1
    still p true is = let none : times p (without (suc room) xs) ≡ 0 = ap (λ q. times q (without (suc room) xs)) (sym (eqb-true (suc room) p is)) ∙ times_without (suc room) xs in omega (arith, none)
    still p false is = let same = times_without_other (suc room) p xs (λ e. false≢true (sym is ∙ eq-eqb (suc room) p (sym e))) in omega (arith, same, once p)

    lower : (ys : List ℕ) → EachOf (λ (x : ℕ). (1 ≤ x) × (x ≤ suc room)) ys → EachOf (λ (x : ℕ). (1 ≤ x) × (x ≤ room)) (without (suc room) ys)
    lower [] h = tt
    lower (y ∷ ys) h = by_first (lower ys h.1) (y == suc room) refl
      where
        by_first : EachOf (λ (x : ℕ). (1 ≤ x) × (x ≤ room)) (without (suc room) ys) → (w : Bool) → (y == suc room) ≡ w → EachOf (λ (x : ℕ). (1 ≤ x) × (x ≤ room)) (cond w (without (suc room) ys) (y ∷ without (suc room) ys))
        by_first more true is = more
        by_first more false is =
            let apart : y ≡ suc room → ⊥ = λ e. false≢true (sym is ∙ eq-eqb y (suc room) e) in
            ((h.0.0, (let high = h.0.1 in let z : y ≤ room = ⊎_elim (λ lt. omega (arith, lt)) (λ le. absurd (apart (omega (arith, le, high)))) (cases_lt y (suc room)) in z)), more)

pub few_commands : (v : Commands) → AreOfPlaces v → length v.items ≤ v.room
few_commands v h =
    let long = length_requests v.items in
    omega (arith, long, few_places v.room (map (λ (c : Command). c.request) v.items) (λ p. omega (arith, as_often p v.items, h.once p)) (each-map (λ (c : Command). (1 ≤ c.request) × (c.request ≤ v.room)) (λ (x : ℕ). (1 ≤ x) × (x ≤ v.room)) (λ (c : Command). c.request) v.items (λ c k. k) h.within))
  where
    length_requests : (cs : List Command) → length (map (λ (c : Command). c.request) cs) ≡ length cs
    length_requests [] = refl
    length_requests (c ∷ cs) = omega (arith, length_requests cs)

    as_often : (p : ℕ) (cs : List Command) → times p (map (λ (c : Command). c.request) cs) ≡ count_by (is_of p) cs
    as_often p [] = refl
    as_often p (c ∷ cs) = omega (arith, as_often p cs, count-cons (is_of p) c cs)
