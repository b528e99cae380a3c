-- What is asked of requests and commands where there is none, and where a ticket comes among others.
use Rattle.std.proofs.Common.{◌≡◌, ◌≢◌, ◌<◌, ◌≤◌, ℕ, suc, ◌+◌, ◌==◌, ◌&&◌, ◌||◌, ◌∙◌, not, nat_lt, cond, Bool, true, false, List, [], ◌∷◌, ◌++◌, length, get_or, take, drop, find, Option, Some, None, unwrap_or, position, refl, ap, arith, ne_eqb, lt-ltb, ⊎_elim, if◌then◌else◌}
use Rattle.std.specs.List.{list_any, position_or_len}
use Rattle.std.proofs.lemmas.Bool.{cases_lt, le-ltb}
use Rattle.iscsi_requests.specs.Cookies.{Cookies, Request, cookie_at, has_place, is_at}
use Rattle.iscsi_ffi_commands.specs.declared.command.Command.{Command}
use Rattle.iscsi_ffi_commands.specs.Commands.{AreKnown, Commands, is_clearing, is_marked}
use Rattle.iscsi_ffi_steps.specs.State.{inserted}

-- ---- requests

none_found : (place : ℕ) (requests : List Request) → list_any (is_at place) requests ≡ false → find (is_at place) requests ≡ None
none_found place [] none = refl
none_found place (r ∷ requests) none = by_test (is_at place r) (none_found place requests) none
  where
    by_test : (b : Bool) → (list_any (is_at place) requests ≡ false → find (is_at place) requests ≡ None) → (b || list_any (is_at place) requests) ≡ false → cond b (Some r) (find (is_at place) requests) ≡ None
    by_test true rest e = cc
    by_test false rest e = rest e

-- no request stands in a place: none has a word there
pub no_cookie : (place : ℕ) (v : Cookies) → has_place place v ≡ false → cookie_at place v ≡ 0
no_cookie place v none = ap (λ (o : Option Request). elim o as (λ (x : Option Request). ℕ) [ Some r ↦ r.cookie | None ↦ 0 ]) (none_found place v.requests none)

-- ---- commands

none_of : (unit : ℕ) (cs : List Command) → ((k : ℕ) (d : Command) → k < length cs → (get_or cs k d).unit ≢ unit) → list_any (λ (c : Command). c.unit == unit && is_marked c) cs ≡ false
none_of unit [] other = refl
none_of unit (c ∷ cs) other =
    ap (λ b. (b && is_marked c) || list_any (λ (d : Command). d.unit == unit && is_marked d) cs) (ne_eqb c.unit unit (other 0 c (omega arith)))
    ∙ none_of unit cs (λ k d l. other (suc k) d (omega (arith, l)))

-- a unit that isn't the session's has no command
pub no_clearing : (unit : ℕ) (v : Commands) → AreKnown v → v.units ≤ unit → is_clearing unit v ≡ false
no_clearing unit v known past = none_of unit v.items (λ k d l same. let below = known.below k d l in omega (arith, below, past, same))

-- ---- tickets

-- it comes before the first one that is above it
pub at_place : (ticket : ℕ) (ts : List ℕ) → take (position_or_len (nat_lt ticket) ts) ts ++ ticket ∷ drop (position_or_len (nat_lt ticket) ts) ts ≡ inserted ticket ts
at_place ticket [] = refl
at_place ticket (t ∷ ts) = by_test (nat_lt ticket t) (at_place ticket ts)
  where
    n : ℕ
    n = position_or_len (nat_lt ticket) ts

    by_test : (b : Bool) → take n ts ++ ticket ∷ drop n ts ≡ inserted ticket ts → take (cond (not b) (1 + n) 0) (t ∷ ts) ++ ticket ∷ drop (cond (not b) (1 + n) 0) (t ∷ ts) ≡ (if b then ticket ∷ t ∷ ts else t ∷ inserted ticket ts)
    by_test true rest = refl
    by_test false rest =
        let more : 1 + n ≡ suc n = omega arith in
        ap (λ k. take k (t ∷ ts) ++ ticket ∷ drop k (t ∷ ts)) more ∙ ap (λ r. t ∷ r) rest

place_within : (ticket : ℕ) (ts : List ℕ) → position_or_len (nat_lt ticket) ts ≤ length ts
place_within ticket [] = omega arith
place_within ticket (t ∷ ts) = by_test (nat_lt ticket t) (place_within ticket ts)
  where
    by_test : (b : Bool) → position_or_len (nat_lt ticket) ts ≤ length ts → cond (not b) (1 + position_or_len (nat_lt ticket) ts) 0 ≤ length (t ∷ ts)
    by_test true rest = omega arith
    by_test false rest = omega (arith, rest)

pub place_is : (ticket : ℕ) (ts : List ℕ) → let at = unwrap_or (position (nat_lt ticket) ts) (length ts) in take at ts ++ ticket ∷ drop at ts ≡ inserted ticket ts
place_is ticket ts =
    let n = position_or_len (nat_lt ticket) ts in
    let within = place_within ticket ts in
    let same : unwrap_or (position (nat_lt ticket) ts) (length ts) ≡ n = ⊎_elim
    (λ below. ap (λ b. unwrap_or (cond b (Some n) None) (length ts)) (lt-ltb n (length ts) below))
    (λ past. ap (λ b. unwrap_or (cond b (Some n) None) (length ts)) (le-ltb n (length ts) past) ∙ omega (arith, within, past))
    (cases_lt n (length ts)) in
    ap (λ k. take k ts ++ ticket ∷ drop k ts) same ∙ at_place ticket ts
