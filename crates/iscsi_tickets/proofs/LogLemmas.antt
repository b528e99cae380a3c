-- The values in the order in which they entered, of which some are there.
use Rattle.std.proofs.Common.{◌≡◌, ◌≢◌, ℕ, zero, suc, ◌+◌, ◌*◌, ◌<◌, ◌≤◌, ◌==◌, not, cond, Bool, true, false, List, [], ◌∷◌, ◌++◌, length, map, filter, find, get_or, set, All, Some, None, option_map, refl, ap, sym, ◌∙◌, arith, ⊎_elim, eq-eqb, ne_eqb}
use Rattle.std.proofs.lemmas.Bool.{cases_Bool, cases_lt, cases_eq, false≢true, eqb-true}
use Rattle.std.proofs.lemmas.List.{get_or_past, get_or-map, get_or_default, length-map, map-append, get_or-set_same, get_or-set_other, length-set, length_push, get_or_append_left, get_or_push}
use Rattle.std.proofs.lemmas.List.Quantifiers.{all_pairs_push}
use Rattle.std.proofs.lemmas.List.Elements.{All-filter, filter-append}
use Rattle.std.proofs.lemmas.List.Kept.{AllPairs-filter}
use Rattle.iscsi_slots.specs.Places.{AreAscending}
use Rattle.iscsi_slots.proofs.SortedLemmas.{same_place}
use Rattle.iscsi_tickets.specs.declared.kept.Kept.{Kept}
use Rattle.iscsi_tickets.specs.Tickets.{AreAscending as AreTicketsAscending, AreKnown, AreLogged, IsLiveAt, NOTHING, ended, kept_at, known, live_in, pair_of, ticket_of, value_of, without_ticket}

-- what is there stands within the log
pub live_within : (log : List Kept) (k : ℕ) → IsLiveAt log k → k < length log
live_within log k live = ⊎_elim
    (λ below. below)
    (λ past. absurd (false≢true (sym (ap (λ (e : Kept). e.is_live) (get_or_past log k NOTHING past)) ∙ live)))
    (cases_lt k (length log))

pub live_first : (e : Kept) (log : List Kept) → e.is_live ≡ true → live_in (e ∷ log) ≡ pair_of e ∷ live_in log
live_first e log is = ap (λ b. map pair_of (cond b (e ∷ filter (λ (x : Kept). x.is_live) log) (filter (λ (x : Kept). x.is_live) log))) is

pub ended_first : (e : Kept) (log : List Kept) → e.is_live ≡ false → live_in (e ∷ log) ≡ live_in log
ended_first e log is = ap (λ b. map pair_of (cond b (e ∷ filter (λ (x : Kept). x.is_live) log) (filter (λ (x : Kept). x.is_live) log))) is

-- ---- what passes a test

pub find_live : (p : ℕ × ℕ → Bool) (log : List Kept) (k : ℕ) → IsLiveAt log k → p (pair_of (kept_at log k)) ≡ true
    → ((j : ℕ) → IsLiveAt log j → p (pair_of (kept_at log j)) ≡ true → j ≡ k)
    → find p (live_in log) ≡ Some (pair_of (kept_at log k))
find_live p [] k live passes alone = absurd (false≢true live)
find_live p (e ∷ log) zero live passes alone = ap (find p) (live_first e log live) ∙ ap (λ b. cond b (Some (pair_of e)) (find p (live_in log))) passes
find_live p (e ∷ log) (suc k) live passes alone =
    let rest = find_live p log k live passes (λ j is yes. let same = alone (suc j) is yes in omega (arith, same)) in
    ⊎_elim
    (λ yes. ap (find p) (live_first e log yes)
    ∙ ap (λ b. cond b (Some (pair_of e)) (find p (live_in log))) (⊎_elim
    (λ too. let same = alone 0 yes too in absurd (omega (arith, same)))
    (λ no. no)
    (cases_Bool (p (pair_of e))))
    ∙ rest)
    (λ no. ap (find p) (ended_first e log no) ∙ rest)
    (cases_Bool e.is_live)

pub find_none : (p : ℕ × ℕ → Bool) (log : List Kept) → ((j : ℕ) → IsLiveAt log j → p (pair_of (kept_at log j)) ≡ false) → find p (live_in log) ≡ None
find_none p [] none = refl
find_none p (e ∷ log) none =
    let rest = find_none p log (λ j is. none (suc j) is) in
    ⊎_elim
    (λ yes. ap (find p) (live_first e log yes) ∙ ap (λ b. cond b (Some (pair_of e)) (find p (live_in log))) (none 0 yes) ∙ rest)
    (λ no. ap (find p) (ended_first e log no) ∙ rest)
    (cases_Bool e.is_live)

-- ---- one is taken out

all_stay : (p : ℕ × ℕ → Bool) (log : List Kept) → ((j : ℕ) → IsLiveAt log j → p (pair_of (kept_at log j)) ≡ false)
    → filter (λ l. not (p l)) (live_in log) ≡ live_in log
all_stay p [] none = refl
all_stay p (e ∷ log) none =
    let rest = all_stay p log (λ j is. none (suc j) is) in
    ⊎_elim
    (λ yes. ap (filter (λ l. not (p l))) (live_first e log yes)
    ∙ ap (λ b. cond (not b) (pair_of e ∷ filter (λ l. not (p l)) (live_in log)) (filter (λ l. not (p l)) (live_in log))) (none 0 yes)
    ∙ ap (λ ls. pair_of e ∷ ls) rest
    ∙ sym (live_first e log yes))
    (λ no. ap (filter (λ l. not (p l))) (ended_first e log no) ∙ rest ∙ sym (ended_first e log no))
    (cases_Bool e.is_live)

pub one_leaves : (p : ℕ × ℕ → Bool) (log : List Kept) (k : ℕ) → IsLiveAt log k → p (pair_of (kept_at log k)) ≡ true
    → ((j : ℕ) → IsLiveAt log j → p (pair_of (kept_at log j)) ≡ true → j ≡ k)
    → live_in (set log k (ended (kept_at log k))) ≡ filter (λ l. not (p l)) (live_in log)
one_leaves p [] k live passes alone = absurd (false≢true live)
one_leaves p (e ∷ log) zero live passes alone =
    sym (ap (filter (λ l. not (p l))) (live_first e log live)
    ∙ ap (λ b. cond (not b) (pair_of e ∷ filter (λ l. not (p l)) (live_in log)) (filter (λ l. not (p l)) (live_in log))) passes
    ∙ all_stay p log (λ j is. ⊎_elim
    (λ too. let same = alone (suc j) is too in absurd (omega (arith, same)))
    (λ no. no)
    (cases_Bool (p (pair_of (kept_at log j))))))
one_leaves p (e ∷ log) (suc k) live passes alone =
    let rest = one_leaves p log k live passes (λ j is yes. let same = alone (suc j) is yes in omega (arith, same)) in
    let after = set log k (ended (kept_at log k)) in
    ⊎_elim
    (λ yes. live_first e after yes
    ∙ ap (λ ls. pair_of e ∷ ls) rest
    ∙ sym (ap (filter (λ l. not (p l))) (live_first e log yes)
    ∙ ap (λ b. cond (not b) (pair_of e ∷ filter (λ l. not (p l)) (live_in log)) (filter (λ l. not (p l)) (live_in log))) (⊎_elim
    (λ too. let same = alone 0 yes too in absurd (omega (arith, same)))
    (λ no. no)
    (cases_Bool (p (pair_of e))))))
    (λ no. ended_first e after no ∙ rest ∙ sym (ap (filter (λ l. not (p l))) (ended_first e log no)))
    (cases_Bool e.is_live)

pub one_fewer : (log : List Kept) (k : ℕ) → IsLiveAt log k → length (live_in (set log k (ended (kept_at log k)))) + 1 ≡ length (live_in log)
one_fewer [] k live = absurd (false≢true live)
one_fewer (e ∷ log) zero live = let a = ap length (live_first e log live) in omega (arith, a)
one_fewer (e ∷ log) (suc k) live =
    let rest = one_fewer log k live in
    let after = set log k (ended (kept_at log k)) in
    ⊎_elim
    (λ yes. let a = ap length (live_first e after yes) in let b = ap length (live_first e log yes) in omega (arith, a, b, rest))
    (λ no. let a = ap length (ended_first e after no) in let b = ap length (ended_first e log no) in omega (arith, a, b, rest))
    (cases_Bool e.is_live)

-- ---- those that are there alone

filter_again : {X : Type 0} (p : X → Bool) (xs : List X) → filter p (filter p xs) ≡ filter p xs
filter_again p [] = refl
filter_again p (x ∷ xs) = ⊎_elim
    (λ yes. ap (λ b. filter p (cond b (x ∷ filter p xs) (filter p xs))) yes
    ∙ ap (λ b. cond b (x ∷ filter p (filter p xs)) (filter p (filter p xs))) yes
    ∙ ap (λ ys. x ∷ ys) (filter_again p xs)
    ∙ sym (ap (λ b. cond b (x ∷ filter p xs) (filter p xs)) yes))
    (λ no. ap (λ b. filter p (cond b (x ∷ filter p xs) (filter p xs))) no
    ∙ filter_again p xs
    ∙ sym (ap (λ b. cond b (x ∷ filter p xs) (filter p xs)) no))
    (cases_Bool (p x))

pub live_again : (log : List Kept) → live_in (filter (λ e. e.is_live) log) ≡ live_in log
live_again log = ap (map pair_of) (filter_again (λ (x : Kept). x.is_live) log)

pub all_live : (log : List Kept) → length (live_in (filter (λ e. e.is_live) log)) ≡ length (filter (λ e. e.is_live) log)
all_live log =
    let kept = filter (λ (x : Kept). x.is_live) log in
    length-map (filter (λ (x : Kept). x.is_live) kept) pair_of ∙ ap length (filter_again (λ (x : Kept). x.is_live) log)

pub tickets_up : (log : List Kept) → AreAscending ticket_of log → AreTicketsAscending (live_in log)
tickets_up log up i j d lt l =
    let kept = filter (λ (x : Kept). x.is_live) log in
    let long = length-map kept pair_of in
    let a = get_or-map pair_of kept i NOTHING d (omega (arith, lt, l, long)) in
    let b = get_or-map pair_of kept j NOTHING d (omega (arith, l, long)) in
    let u : ticket_of (get_or kept i NOTHING) < ticket_of (get_or kept j NOTHING) = AllPairs-filter (λ (x y : Kept). ticket_of x < ticket_of y) (λ (x : Kept). x.is_live) log up i j NOTHING lt (omega (arith, l, long)) in
    let s = ap (λ (x : ℕ × ℕ). x.0) a in let t = ap (λ (x : ℕ × ℕ). x.0) b in
    omega (arith, u, s, t)

pub kept_up : (log : List Kept) → AreAscending ticket_of log → AreAscending ticket_of (filter (λ e. e.is_live) log)
kept_up log up = AllPairs-filter (λ (x y : Kept). ticket_of x < ticket_of y) (λ (x : Kept). x.is_live) log up

-- ---- places by ticket

-- two places with the same ticket are one
pub same_ticket : (log : List Kept) → AreAscending ticket_of log → (j k : ℕ) → j < length log → k < length log
    → ticket_of (kept_at log j) ≡ ticket_of (kept_at log k) → j ≡ k
same_ticket log up j k lj lk same = same_place ticket_of log up j k NOTHING lj lk same

-- where a search for a ticket ends it stands, if it does
pub ticket_at : (log : List Kept) (n at : ℕ) → AreAscending ticket_of log
    → ((k : ℕ) → k < at → ticket_of (kept_at log k) < n)
    → ((k : ℕ) → at ≤ k → k < length log → n ≤ ticket_of (kept_at log k)) → (k : ℕ) → k < length log
    → ticket_of (kept_at log k) ≡ n → k ≡ at
ticket_at log n at up below above k l is = ⊎_elim
    (λ lower. let u = below k lower in absurd (omega (arith, u, is)))
    (λ higher. ⊎_elim
    (λ here. here)
    (λ apart.
    let u : ticket_of (kept_at log at) < ticket_of (kept_at log k) = up at k NOTHING (omega (arith, higher, apart)) l in
    let least = above at (omega arith) (omega (arith, higher, l)) in
    absurd (omega (arith, u, least, is)))
    (cases_eq k at))
    (cases_lt k at)

-- ---- the log as one is taken out

set_up : (log : List Kept) (k : ℕ) → AreAscending ticket_of log → k < length log → AreAscending ticket_of (set log k (ended (kept_at log k)))
set_up log k up within i j d lt l =
    let long = length-set log k (ended (kept_at log k)) in
    let at : (n : ℕ) → n < length log → ticket_of (get_or (set log k (ended (kept_at log k))) n d) ≡ ticket_of (get_or log n d) = λ n m. ⊎_elim
    (λ same. ap (λ x. ticket_of (get_or (set log k (ended (kept_at log k))) x d)) same ∙ ap ticket_of (get_or-set_same log k (ended (kept_at log k)) d within) ∙ ap ticket_of (get_or_default log k NOTHING d within) ∙ ap (λ x. ticket_of (get_or log x d)) (sym same))
    (λ apart. ap ticket_of (get_or-set_other log k n (ended (kept_at log k)) d apart))
    (cases_eq n k) in
    let a = at i (omega (arith, lt, l, long)) in let b = at j (omega (arith, l, long)) in
    let u : ticket_of (get_or log i d) < ticket_of (get_or log j d) = up i j d lt (omega (arith, l, long)) in
    omega (arith, a, b, u)

-- what holds of all tickets holds of those that are there, and of the log as one is taken out
pub kept_newest : (log : List Kept) (last : ℕ) → All (λ e. ticket_of e ≤ last) log → All (λ e. ticket_of e ≤ last) (filter (λ e. e.is_live) log)
kept_newest log last all = All-filter (λ (e : Kept). e.is_live) (λ (e : Kept). ticket_of e ≤ last) log all

set_newest : (log : List Kept) (k last : ℕ) → k < length log → All (λ e. ticket_of e ≤ last) log
    → All (λ e. ticket_of e ≤ last) (set log k (ended (kept_at log k)))
set_newest log k last within all n d l =
    let long = length-set log k (ended (kept_at log k)) in
    ⊎_elim
    (λ same.
    let a = ap (λ x. ticket_of (get_or (set log k (ended (kept_at log k))) x d)) same ∙ ap ticket_of (get_or-set_same log k (ended (kept_at log k)) d within) in
    let b : ticket_of (kept_at log k) ≤ last = all k NOTHING within in omega (arith, a, b))
    (λ apart.
    let a = ap ticket_of (get_or-set_other log k n (ended (kept_at log k)) d apart) in
    let b : ticket_of (get_or log n d) ≤ last = all n d (omega (arith, l, long)) in omega (arith, a, b))
    (cases_eq n k)

-- ---- what is found by ticket

pub found : (log : List Kept) (n k : ℕ) → AreAscending ticket_of log → IsLiveAt log k → ticket_of (kept_at log k) ≡ n
    → value_of n (live_in log) ≡ Some (kept_at log k).value
found log n k up live is = ap (option_map (λ (e : ℕ × ℕ). e.1)) (find_live (λ e. e.0 == n) log k live (eq-eqb _ _ is)
    (λ j j_live same. same_ticket log up j k (live_within log j j_live) (live_within log k live) (eqb-true _ _ same ∙ sym is)))

pub none_found : (log : List Kept) (n : ℕ) → ((k : ℕ) → IsLiveAt log k → ticket_of (kept_at log k) ≢ n) → value_of n (live_in log) ≡ None
none_found log n none = ap (option_map (λ (e : ℕ × ℕ). e.1)) (find_none (λ e. e.0 == n) log (λ j live. ne_eqb _ _ (none j live)))

pub taken : (log : List Kept) (n k : ℕ) → AreAscending ticket_of log → IsLiveAt log k → ticket_of (kept_at log k) ≡ n
    → live_in (set log k (ended (kept_at log k))) ≡ without_ticket n (live_in log)
taken log n k up live is = one_leaves (λ e. e.0 == n) log k live (eq-eqb _ _ is)
    (λ j j_live same. same_ticket log up j k (live_within log j j_live) (live_within log k live) (eqb-true _ _ same ∙ sym is))

pub none_taken : (log : List Kept) (n : ℕ) → ((k : ℕ) → IsLiveAt log k → ticket_of (kept_at log k) ≢ n) → without_ticket n (live_in log) ≡ live_in log
none_taken log n none = all_stay (λ e. e.0 == n) log (λ j live. ne_eqb _ _ (none j live))

-- ---- what holds of the log

pub none_logged : (capacity room : ℕ) → 2 * room ≤ capacity → 2 * room ≤ 4294967295 → AreLogged [] capacity 0 0 room
none_logged capacity room has_room short = record {
  ascending = λ i j d lt l. absurd (omega (arith, l));
  newest = λ k d l. absurd (omega (arith, l));
  counted = refl;
  few = omega arith;
  long = omega arith;
  has_room = has_room;
  short = short;
}

module _ {log : List Kept} {capacity count last room : ℕ} (logged : AreLogged log capacity count last room) where
  -- what callers see of it
  pub are_known : AreKnown (known (live_in log) last room)
  are_known = record {
    ascending = tickets_up log logged.ascending;
    newest = λ k d l.
        let kept = filter (λ (x : Kept). x.is_live) log in
        let long = length-map kept pair_of in
        let a = ap (λ (x : ℕ × ℕ). x.0) (get_or-map pair_of kept k NOTHING d (omega (arith, l, long))) in
        let b : ticket_of (get_or kept k NOTHING) ≤ last = kept_newest log last logged.newest k NOTHING (omega (arith, l, long)) in
        omega (arith, a, b);
    few = logged.few;
  }

  -- one is taken out
  pub logged_without : (k : ℕ) → IsLiveAt log k → AreLogged (set log k (ended (kept_at log k))) capacity (count + 1) last room
  logged_without k is_live =
      let within = live_within log k is_live in
      let fewer = one_fewer log k is_live in
      let same = length-set log k (ended (kept_at log k)) in
      let counted = logged.counted in let few = logged.few in let long = logged.long in
      record {
        ascending = set_up log k logged.ascending within;
        newest = set_newest log k last within logged.newest;
        counted = omega (arith, counted, fewer, same);
        few = omega (arith, few, fewer);
        long = omega (arith, long, same);
        has_room = logged.has_room;
        short = logged.short;
      }

pub live_pushed : (log : List Kept) (ticket value : ℕ)
    → live_in (log ++ record { ticket = ticket; value = value; is_live = true } ∷ []) ≡ live_in log ++ (ticket, value) ∷ []
live_pushed log ticket value =
    let e : Kept = record { ticket = ticket; value = value; is_live = true } in
    ap (map pair_of) (filter-append (λ (x : Kept). x.is_live) log (e ∷ []))
    ∙ map-append pair_of (filter (λ (x : Kept). x.is_live) log) (e ∷ [])

all_pushed : (log : List Kept) (e : Kept) (last : ℕ) → ticket_of e ≡ last → All (λ x. ticket_of x < last) log
    → All (λ x. ticket_of x ≤ last) (log ++ e ∷ [])
all_pushed log e last is lower k d l =
    let one = length_push log e in
    ⊎_elim
    (λ below.
    let a = ap ticket_of (get_or_append_left log (e ∷ []) d k below) in
    let b : ticket_of (get_or log k d) < last = lower k d below in omega (arith, a, b))
    (λ from.
    let a = ap ticket_of (get_or_push log e d k (omega (arith, from, l, one))) in omega (arith, a, is))
    (cases_lt k (length log))

-- one enters
pub logged_with : (log : List Kept) (ticket value : ℕ) {capacity count last room : ℕ} → AreAscending ticket_of log
    → All (λ e. ticket_of e ≤ last) log → length (live_in log) + count ≡ length log → length (live_in log) < room
    → length log < 2 * room → 2 * room ≤ capacity → 2 * room ≤ 4294967295 → last < ticket
    → AreLogged (log ++ record { ticket = ticket; value = value; is_live = true } ∷ []) capacity count ticket room
logged_with log ticket value {last = last} up newest counted few long has_room short newer =
    let e : Kept = record { ticket = ticket; value = value; is_live = true } in
    let lower : All (λ x. ticket_of x < ticket) log = λ k d l. let a : ticket_of (get_or log k d) ≤ last = newest k d l in omega (arith, a, newer) in
    let live = ap length (live_pushed log ticket value) ∙ length_push (live_in log) (ticket, value) in
    let one = length_push log e in
    record {
      ascending = all_pairs_push (λ (x y : Kept). ticket_of x < ticket_of y) log e up lower;
      newest = all_pushed log e ticket refl lower;
      counted = omega (arith, counted, live, one);
      few = omega (arith, few, live);
      long = omega (arith, long, one);
      has_room = has_room;
      short = short;
    }
