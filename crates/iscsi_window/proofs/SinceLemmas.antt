-- What each call answers and becomes, by the history.
use Rattle.std.proofs.Common.{◌≡◌, ℕ, ◌+◌, ◌-◌, ◌<◌, not, cond, Bool, true, false, List, ◌∷◌, length, Option, Some, None, option_map, get_or-set_same, refl, ap, ◌∙◌, arith}
use Rattle.std.specs.Option.{option_flatten}
use Rattle.std.proofs.lemmas.Bool.Decides.{nat_tests}
use Rattle.iscsi_wire.specs.declared.request.Request.{Request}
use Rattle.iscsi_wire.specs.Serial.{wire, lift, number_of_first}
use Rattle.iscsi_wire.specs.Fields.{cmd_sn}
use Rattle.iscsi_window.specs.declared.answer.Offer.{Offer}
use Rattle.iscsi_window.specs.declared.answer.Offer.TheVariants.{Held}
use Rattle.iscsi_window.specs.declared.answer.Turned.{Turned as Turn}
use Rattle.iscsi_window.specs.Received.{Received, number_expected, room_of, at_place, IsSound}
use Rattle.iscsi_window.specs.Windows.{place_in, IsInside, held_at, is_received_at, offer_to, offered_to, voided, is_held_from, number_shown, emptied, taken_at, turned_by, advanced, is_next}
use Rattle.iscsi_window.specs.History.{Change, Admitted, Turned, is_received, held, expected, place_of, StandsFor, number_of, after_offer, after_voiding, after_taking, after_emptying, after_turning, offer_since, is_next_since, turn_since, is_held_at, held_number, Law}
use Rattle.iscsi_window.proofs.HistoryLemmas.{received_of_held, unheld, unheld_below, is_some-place_of, place_shows, StandsFor-admitted, StandsFor-voided, StandsFor-emptied, StandsFor-turned}

-- ExpCmdSN, as the history has it
pub expected_is : (s : Received) (h : List Change) → StandsFor s h → number_expected s ≡ expected s.first h
expected_is s h st = ap (λ n. number_of_first s.first + n) st.turned

-- ---- requests that come

pub StandsFor-offer : (s : Received) (r : Request) (answer : Offer) (now : Received) (h : List Change) → StandsFor s h → answer ≡ offer_to s r → now ≡ offered_to s r → StandsFor now (after_offer answer (number_of s.first h (cmd_sn r)) r h)
StandsFor-offer s r answer now h st told state =
    let e : ℕ = number_expected s in
    let k : ℕ = lift e (cmd_sn r) - e in
    grind (arith, nat_tests, expected_is s h st, place_shows s h k st, is_some-place_of h (e + k), StandsFor-admitted s k r h st)

pub offered_since : (s : Received) (r : Request) (h : List Change) → IsSound s → StandsFor s h → offer_to s r ≡ offer_since s.first (length s.places) h (number_of s.first h (cmd_sn r))
offered_since s r h sound st = grind (arith, nat_tests, expected_is, place_shows, is_some-place_of)

-- the number that comes next
pub next_since : (s : Received) (r : Request) (h : List Change) → IsSound s → StandsFor s h → is_next s r ≡ is_next_since s.first (length s.places) h (number_of s.first h (cmd_sn r))
next_since s r h sound st = grind (arith, nat_tests, expected_is s h st, place_shows s h 0 st, is_some-place_of h (number_expected s + 0))

-- ---- a number without a request

pub voided_since : (s : Received) (w : ℕ) (h : List Change) → StandsFor s h → IsInside (place_in s w) → is_received_at s (place_in s w) ≡ is_received h (number_of s.first h w)
voided_since s w h st there = grind (arith, nat_tests, expected_is, place_shows, is_some-place_of)

pub StandsFor-void : (s : Received) (w : ℕ) (answer : Bool) (now : Received) (h : List Change) → StandsFor s h → IsInside (place_in s w) → answer ≡ not (is_received_at s (place_in s w)) → now ≡ voided s w → StandsFor now (after_voiding answer (number_of s.first h w) h)
StandsFor-void s w answer now h st there told state =
    let e : ℕ = number_expected s in
    let k : ℕ = lift e w - e in
    grind (arith, nat_tests, expected_is s h st, place_shows s h k st, is_some-place_of h (e + k), StandsFor-voided s k h st)

-- ---- requests that are taken out

-- a test that passes for nothing tells the same of a place and of what is held
pub test_held : (f : Option (Option Request) → Bool) (h : List Change) (n : ℕ) → f None ≡ false → f (Some None) ≡ false → f (place_of h n) ≡ f (Some (held h n))
test_held f h n missing empty = grind (arith, unheld h n)

held_place : (h : List Change) (n : ℕ) → option_flatten (place_of h n) ≡ held h n
held_place h n = grind (arith, unheld h n)

held_here : (s : Received) (w : ℕ) (h : List Change) → StandsFor s h → held_at s (place_in s w) ≡ held h (lift (number_expected s) w)
held_here s w h st = grind (arith, nat_tests, place_shows, held_place, unheld_below, unheld)

pub emptied_since : (s : Received) (w : ℕ) (h : List Change) → StandsFor s h → held_at s (place_in s w) ≡ held h (number_of s.first h w)
emptied_since s w h st = held_here s w h st ∙ ap (λ e. held h (lift e w)) (expected_is s h st)

pub StandsFor-empty : (s : Received) (w : ℕ) (answer : Option Request) (now : Received) (h : List Change) → StandsFor s h → answer ≡ held_at s (place_in s w) → now ≡ emptied s w → StandsFor now (after_taking answer (number_of s.first h w) h)
StandsFor-empty s w answer now h st told state = grind (arith, nat_tests, expected_is s h st, held_here s w h st, received_of_held, StandsFor-emptied)

-- ---- the request of one place

-- a test that passes where a request is held shows that its number was received
pub received_of_test : (f : Option (Option Request) → Bool) (h : List Change) (n : ℕ) → f (Some None) ≡ false → f (Some (held h n)) ≡ true → is_received h n ≡ true
received_of_test f h n empty passes = grind (arith, unheld h n)

-- a received number, from ExpCmdSN on, has a place below the room
pub within_room : (s : Received) (k : ℕ) (h : List Change) → StandsFor s h → is_received h (number_expected s + k) ≡ true → k < room_of s
within_room s k h st there = grind (arith, st.above (number_expected s + k))

pub held_from_here : (s : Received) (k : ℕ) (conn : Option ℕ) (h : List Change) → StandsFor s h → is_held_from conn (at_place s k) ≡ is_held_at h conn (number_expected s + k)
held_from_here s k conn h st = ap (is_held_from conn) (place_shows s h k st) ∙ test_held (is_held_from conn) h (number_expected s + k) refl refl

pub taken_since : (s : Received) (k : ℕ) (conn : Option ℕ) (h : List Change) → StandsFor s h
    → cond (is_held_from conn (at_place s k)) (Some (number_shown s k)) None ≡ option_map wire (held_number h conn (expected s.first h + k))
taken_since s k conn h st = grind (arith, held_from_here s k conn h st, expected_is s h st)

pub StandsFor-take : (s : Received) (k : ℕ) (conn : Option ℕ) (now : Received) (h : List Change) → StandsFor s h → now ≡ taken_at s k conn → StandsFor now (after_emptying (held_number h conn (expected s.first h + k)) h)
StandsFor-take s k conn now h st state =
    let e : ℕ = number_expected s in
    grind (arith, expected_is s h st, held_from_here, received_of_test (is_held_from conn) h (e + k) refl, within_room, StandsFor-emptied s k h st)

-- ---- the expected number turns

-- the place of ExpCmdSN
first_shows : (s : Received) (h : List Change) → StandsFor s h → at_place s 0 ≡ place_of h (number_expected s)
first_shows s h st = place_shows s h 0 st ∙ ap (place_of h) (let z : number_expected s + 0 ≡ number_expected s = omega arith in z)

pub turned_since : (s : Received) (h : List Change) → StandsFor s h → turned_by s ≡ turn_since s.first h
turned_since s h st = grind (arith, first_shows s h st, expected_is s h st)

pub StandsFor-advance : (s : Received) (answer : Option Turn) (now : Received) (h : List Change) → StandsFor s h → answer ≡ turned_by s → now ≡ advanced s → StandsFor now (after_turning answer (expected s.first h) h)
StandsFor-advance s answer now h st told state = grind (arith, first_shows s h st, expected_is s h st, within_room s 0 h st, StandsFor-turned s h st)

-- ---- a request that turns as it comes

pub StandsFor-pass : (s : Received) (r : Request) (now : Received) (h : List Change) → StandsFor s h → is_next s r ≡ true → now ≡ advanced (offered_to s r) → StandsFor now (Turned (number_of s.first h (cmd_sn r)) ∷ Admitted (number_of s.first h (cmd_sn r)) r ∷ h)
StandsFor-pass s r now h st next state =
    let e : ℕ = number_expected s in
    let one : Received = offered_to s r in
    let offered : StandsFor one (Admitted (number_of s.first h (cmd_sn r)) r ∷ h) = grind (arith, nat_tests, StandsFor-offer s r Held one h st) in
    let turns = StandsFor-advance one (turned_by one) now (Admitted (number_of s.first h (cmd_sn r)) r ∷ h) offered refl in
    grind (arith, nat_tests, expected_is s h st, get_or-set_same s.places 0 (Some (Some r)) None, turns)

-- ---- the law

pub Law-stands : (s : Received) (h : List Change) → IsSound s → StandsFor s h → Law s h
Law-stands s h sound st = grind (arith, nat_tests, expected_is, received_of_held, unheld_below)
