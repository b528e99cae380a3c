-- The word of a request stays as a PDU of it is handed out.
use Rattle.std.proofs.Common.{◌≡◌, ℕ, ◌+◌, ◌&&◌, nat_lt, cond, Bool, true, false, List, [], ◌∷◌, map, find, Option, Some, None, refl, ap, if◌then◌else◌}
use Rattle.iscsi_outbox_rules.specs.declared.own_pdu.OwnPdu.TheVariants.{OfCommand, OfConnection}
use Rattle.iscsi_outbox_steps.specs.declared.given.Pdu.{Pdu}
use Rattle.iscsi_outbox_steps.specs.declared.given.Pdu.TheVariants.{Reply, Own, Ping, Notice}
use Rattle.iscsi_requests.specs.Cookies.{Request, cookie_at, has_place, is_at, used_more, uses_at}
use Rattle.iscsi_ffi_steps.specs.State.{State}
use Rattle.iscsi_ffi_steps.specs.Steps.{request_handed, used_again}
use Rattle.iscsi_ffi_steps.specs.Walk.{Doing}
use Rattle.iscsi_ffi_desk.specs.Calls.{cookie_of_place, left_queue, pushed_out}

abbrev word : Option Request → ℕ
word o = elim o [ Some r ↦ r.cookie | None ↦ 0 ]

-- a request is at its place, and has its word, whatever uses it has
one_stays : (uses place x : ℕ) (r : Request) (b : Bool) (rest rest' : Option Request) → word rest' ≡ word rest
    → word (cond (is_at x (if b then record r { uses = uses } else r)) (Some (if b then record r { uses = uses } else r)) rest') ≡ word (cond (is_at x r) (Some r) rest)
one_stays uses place x r true rest rest' e = at (is_at x r)
  where
    at : (b : Bool) → word (cond b (Some (record r { uses = uses })) rest') ≡ word (cond b (Some r) rest)
    at true = refl
    at false = e
one_stays uses place x r false rest rest' e = at (is_at x r)
  where
    at : (b : Bool) → word (cond b (Some r) rest') ≡ word (cond b (Some r) rest)
    at true = refl
    at false = e

all_stay : (uses place x : ℕ) (rs : List Request) → word (find (is_at x) (map (λ (r : Request). if is_at place r then record r { uses = uses } else r) rs)) ≡ word (find (is_at x) rs)
all_stay uses place x [] = refl
all_stay uses place x (r ∷ rs) =
    one_stays uses place x r (is_at place r) (find (is_at x) rs) (find (is_at x) (map (λ (q : Request). if is_at place q then record q { uses = uses } else q) rs)) (all_stay uses place x rs)

used_stays : (place x : ℕ) (s : State) (b : Bool) → cookie_at x (if b then record s { cookies = used_more place s.cookies } else s).cookies ≡ cookie_at x s.cookies
used_stays place x s true = all_stay (uses_at place s.cookies + 1) place x s.cookies.requests
used_stays place x s false = refl

again_stays : (x : ℕ) (s : State) (o : Option ℕ) → cookie_at x (elim o as (λ (q : Option ℕ). State) [ Some place ↦ used_again place s | None ↦ s ]).cookies ≡ cookie_at x s.cookies
again_stays x s (Some place) = used_stays place x s (has_place place s.cookies && nat_lt (uses_at place s.cookies) 4294967295)
again_stays x s None = refl

word_stays : (conn : ℕ) (pdu : Pdu) (d : Doing) (request : Option ℕ) (x : ℕ) → cookie_at x (pushed_out conn request (left_queue conn pdu d)).state.cookies ≡ cookie_at x d.state.cookies
word_stays conn (Reply sent) d request x = refl
word_stays conn (Own (OfCommand ticket header)) d request x = again_stays x d.state (request_handed d.state conn (Own (OfCommand ticket header)))
word_stays conn (Own (OfConnection cid header)) d request x = refl
word_stays conn (Ping tag) d request x = refl
word_stays conn Notice d request x = refl

pub words_stay : (conn : ℕ) (pdu : Pdu) (d : Doing) (request asked : Option ℕ) → cookie_of_place (pushed_out conn request (left_queue conn pdu d)).state asked ≡ cookie_of_place d.state asked
words_stay conn pdu d request (Some x) = ap (λ n. Some n) (word_stays conn pdu d request x)
words_stay conn pdu d request None = refl
