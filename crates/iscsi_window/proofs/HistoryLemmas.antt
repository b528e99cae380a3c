-- What a window stands for, after each change.
use Rattle.std.proofs.Common.{◌≡◌, ℕ, suc, ◌+◌, ◌-◌, ◌<◌, ◌≤◌, true, false, List, [], ◌∷◌, ◌++◌, length, drop, Some, None, is_some, ap, arith, length-set, length-drop}
use Rattle.std.proofs.lemmas.Bool.Decides.{nat_tests}
use Rattle.std.proofs.lemmas.List.{get_or_past, length-replicate, length_push, get_or-set_same, get_or-set_other, get_or-replicate}
use Rattle.iscsi_wire.specs.declared.request.Request.{Request}
use Rattle.iscsi_wire.specs.Serial.{wire}
use Rattle.iscsi_wire.specs.Fields.{cmd_sn}
use Rattle.iscsi_window.specs.Received.{Received, number_expected, room_of, at_place, HasRoom}
use Rattle.iscsi_window.specs.Windows.{opened, with_place, with_unfinished}
use Rattle.iscsi_window.specs.History.{Change, Admitted, Voided, Emptied, Turned, Started, Finished, is_received, held, place_of, StandsFor}
use Rattle.iscsi_window.proofs.PlaceLemmas.{passed}

-- ---- what is held

-- what is held was received
pub received_of_held : (h : List Change) (n : ℕ) (r : Request) → held h n ≡ Some r → is_received h n ≡ true
received_of_held [] n r is = absurd cc
received_of_held (change ∷ h) n r is = grind (arith, received_of_held h n r)

-- what isn't received isn't held
pub unheld : (h : List Change) (n : ℕ) → is_received h n ≡ false → held h n ≡ None
unheld h n gone = grind (arith, received_of_held h n)

-- nothing is held below ExpCmdSN
pub unheld_below : (s : Received) (h : List Change) (n : ℕ) → StandsFor s h → n < number_expected s → held h n ≡ None
unheld_below s h n st low = grind (arith, unheld h n, st.before n, st.past n)

-- ---- what a place shows

pub is_some-place_of : (h : List Change) (n : ℕ) → is_some (place_of h n) ≡ is_received h n
is_some-place_of h n = grind arith

-- a place shows its number, also beyond the last one
pub place_shows : (s : Received) (h : List Change) (k : ℕ) → StandsFor s h → at_place s k ≡ place_of h (number_expected s + k)
place_shows s h k st = grind (arith, nat_tests, get_or_past)

-- ---- changes of one number

-- a request is admitted at a number from ExpCmdSN to MaxCmdSN
pub StandsFor-admitted : (s : Received) (k : ℕ) (r : Request) (h : List Change) → StandsFor s h → k < room_of s → wire (cmd_sn r) ≡ wire (number_expected s + k) → StandsFor (with_place s k (Some (Some r))) (Admitted (number_expected s + k) r ∷ h)
StandsFor-admitted s k r h st within shows = grind (arith, nat_tests, length-set, get_or-set_same, get_or-set_other)

-- a number from ExpCmdSN to MaxCmdSN that wasn't received is voided
pub StandsFor-voided : (s : Received) (k : ℕ) (h : List Change) → StandsFor s h → k < room_of s → is_received h (number_expected s + k) ≡ false → StandsFor (with_place s k (Some None)) (Voided (number_expected s + k) ∷ h)
StandsFor-voided s k h st within new = grind (arith, nat_tests, unheld h (number_expected s + k), length-set, get_or-set_same, get_or-set_other)

-- the request of a received number is taken out
pub StandsFor-emptied : (s : Received) (k : ℕ) (h : List Change) → StandsFor s h → k < room_of s → is_received h (number_expected s + k) ≡ true → StandsFor (with_place s k (Some None)) (Emptied (number_expected s + k) ∷ h)
StandsFor-emptied s k h st within there = grind (arith, nat_tests, length-set, get_or-set_same, get_or-set_other)

-- ---- the first history

pub StandsFor-opened : (first size : ℕ) → StandsFor (opened first size) []
StandsFor-opened first size = grind (arith, nat_tests, get_or-replicate, get_or_past, length-replicate)

-- ---- a turn

-- the expected number turns, where it is received
pub StandsFor-turned : (s : Received) (h : List Change) → StandsFor s h → 1 ≤ length s.places → is_received h (number_expected s) ≡ true → StandsFor (record s { turned = s.turned + 1; places = drop 1 s.places ++ None ∷ [] }) (Turned (number_expected s) ∷ h)
StandsFor-turned s h st some there = record {
  turned = ap (λ n. n + 1) st.turned;
  unfinished = st.unfinished;
  inside = λ k lt. grind (arith, nat_tests, passed s.places k, place_shows s h (suc k) st);
  before = λ n low. grind (arith, nat_tests, st.before n);
  past = λ n from low. grind (arith, nat_tests, st.past n);
  ahead = λ n from. grind (arith, nat_tests, st.ahead n);
  above = λ n high. grind (arith, nat_tests, st.above n, length-drop 1 s.places, length_push (drop 1 s.places) None);
  numbers = λ n r is. grind (arith, nat_tests, st.numbers n r);
}

-- ---- commands that are being executed

pub StandsFor-started : (s : Received) (h : List Change) → StandsFor s h → HasRoom s → StandsFor (with_unfinished s (s.unfinished + 1)) (Started ∷ h)
StandsFor-started s h st room = grind (arith, nat_tests, is_some-place_of, place_shows)

pub StandsFor-finished : (s : Received) (h : List Change) → StandsFor s h → StandsFor (with_unfinished s (s.unfinished - 1)) (Finished ∷ h)
StandsFor-finished s h st = grind (arith, nat_tests)
