-- The history of a window: what was received, taken out and turned, and which commands began and ended
-- (RFC 7143 section 4.2.2.1). Numbers are without bound; the newest change comes first.
use Rattle.std.specs.Prelude.{◌≡◌, ◌↔◌, ℕ, ◌+◌, ◌-◌, ◌<◌, ◌≤◌, ◌==◌, ◌&&◌, ◌||◌, Bool, true, false, not, nat_lt, nat_le, List, [], ◌∷◌, length, Option, Some, None, option_map, if◌then◌else◌}
use Rattle.iscsi_wire.specs.Serial.{wire, lift, number_of_first}
use Rattle.iscsi_wire.specs.Fields.{cmd_sn}
use Rattle.iscsi_wire.specs.declared.request.Request.{Request}
use Rattle.iscsi_window.specs.declared.answer.Offer.{Offer}
use Rattle.iscsi_window.specs.declared.answer.Offer.TheVariants.{Held, Outside, Duplicate}
use Rattle.iscsi_window.specs.declared.answer.Turned.{Turned as Turn}
use Rattle.iscsi_window.specs.Received.{Received, number_expected, room_of, at_place}
use Rattle.iscsi_window.specs.Windows.{number_last, is_command, is_held_from}

pub data Change : Type 0 where
  Admitted : (number : ℕ) → Request → Change  -- a request was received, and is held from now on
  Voided : (number : ℕ) → Change  -- a number was received without a request
  Emptied : (number : ℕ) → Change  -- the request that was held at the number was taken out
  Turned : (number : ℕ) → Change  -- the expected number turned
  Started : Change  -- a command is being executed
  Finished : Change  -- a command is executed no more

-- ---- queries over the whole history

-- the number was ever admitted or voided
abbrev pub is_received : List Change → ℕ → Bool
is_received [] n = false
is_received (Admitted number r ∷ h) n = number == n || is_received h n
is_received (Voided number ∷ h) n = number == n || is_received h n
is_received (Emptied number ∷ h) n = is_received h n
is_received (Turned number ∷ h) n = is_received h n
is_received (Started ∷ h) n = is_received h n
is_received (Finished ∷ h) n = is_received h n

-- the request that was admitted at the number, where it was neither taken out nor turned since
abbrev pub held : List Change → ℕ → Option Request
held [] n = None
held (Admitted number r ∷ h) n = if number == n then Some r else held h n
held (Voided number ∷ h) n = held h n
held (Emptied number ∷ h) n = if number == n then None else held h n
held (Turned number ∷ h) n = if number == n then None else held h n
held (Started ∷ h) n = held h n
held (Finished ∷ h) n = held h n

-- the number has had its turn
abbrev pub has_turned : List Change → ℕ → Bool
has_turned [] n = false
has_turned (Turned number ∷ h) n = number == n || has_turned h n
has_turned (Admitted number r ∷ h) n = has_turned h n
has_turned (Voided number ∷ h) n = has_turned h n
has_turned (Emptied number ∷ h) n = has_turned h n
has_turned (Started ∷ h) n = has_turned h n
has_turned (Finished ∷ h) n = has_turned h n

-- how many numbers have turned
abbrev pub turned : List Change → ℕ
turned [] = 0
turned (Turned number ∷ h) = turned h + 1
turned (Admitted number r ∷ h) = turned h
turned (Voided number ∷ h) = turned h
turned (Emptied number ∷ h) = turned h
turned (Started ∷ h) = turned h
turned (Finished ∷ h) = turned h

-- how many commands are being executed
abbrev pub unfinished : List Change → ℕ
unfinished [] = 0
unfinished (Started ∷ h) = unfinished h + 1
unfinished (Finished ∷ h) = unfinished h - 1
unfinished (Admitted number r ∷ h) = unfinished h
unfinished (Voided number ∷ h) = unfinished h
unfinished (Emptied number ∷ h) = unfinished h
unfinished (Turned number ∷ h) = unfinished h

-- ExpCmdSN: so many numbers above the session's first one have turned
abbrev pub expected : ℕ → List Change → ℕ
expected first h = number_of_first first + turned h

-- MaxCmdSN of a window of this size: a command that is being executed takes one place
abbrev pub last : ℕ → ℕ → List Change → ℕ
last first size h = expected first h + size - 1 - unfinished h

-- the number isn't received, and all from the first one up to it are
pub record IsLeastMissing (first : ℕ) (h : List Change) (n : ℕ) : Type 0 where
  pub from_first : number_of_first first ≤ n
  pub missing : is_received h n ≡ false
  pub none_lower : (k : ℕ) → number_of_first first ≤ k → k < n → is_received h k ≡ true

-- ---- when a window stands for a history

-- what a place shows of its number: None where it wasn't received, and what is held where it was
abbrev pub place_of : List Change → ℕ → Option (Option Request)
place_of h n = if is_received h n then Some (held h n) else None

pub record StandsFor (s : Received) (h : List Change) : Type 0 where
  pub turned : s.turned ≡ turned h
  pub unfinished : s.unfinished ≡ unfinished h
  -- each place shows its number
  pub inside : (k : ℕ) → k < length s.places → at_place s k ≡ place_of h (number_expected s + k)
  -- no number below the first one was received, and none has turned
  pub before : (n : ℕ) → n < number_of_first s.first → (is_received h n ≡ false) × (has_turned h n ≡ false)
  -- each from the first one up to ExpCmdSN was received and has turned, and nothing is held there
  pub past : (n : ℕ) → number_of_first s.first ≤ n → n < number_expected s → (is_received h n ≡ true) × (has_turned h n ≡ true) × (held h n ≡ None)
  -- none from ExpCmdSN on has turned
  pub ahead : (n : ℕ) → number_expected s ≤ n → has_turned h n ≡ false
  -- none above MaxCmdSN was received
  pub above : (n : ℕ) → number_expected s + room_of s ≤ n → is_received h n ≡ false
  -- a request carries its number
  pub numbers : (n : ℕ) (r : Request) → held h n ≡ Some r → wire (cmd_sn r) ≡ wire n

-- ---- the history after a call

-- the number that the wire shows as w: the nearest one to ExpCmdSN
abbrev pub number_of : ℕ → List Change → ℕ → ℕ
number_of first h w = lift (expected first h) w

abbrev pub after_offer : Offer → ℕ → Request → List Change → List Change
after_offer Held n r h = Admitted n r ∷ h
after_offer Outside n r h = h
after_offer Duplicate n r h = h

abbrev pub after_voiding : Bool → ℕ → List Change → List Change
after_voiding true n h = Voided n ∷ h
after_voiding false n h = h

-- the request that was held at the number was taken out, if there was one
abbrev pub after_taking : Option Request → ℕ → List Change → List Change
after_taking None n h = h
after_taking (Some r) n h = Emptied n ∷ h

-- the request at this number was taken out, where there is a number
abbrev pub after_emptying : Option ℕ → List Change → List Change
after_emptying None h = h
after_emptying (Some n) h = Emptied n ∷ h

abbrev pub after_turning : Option Turn → ℕ → List Change → List Change
after_turning None n h = h
after_turning (Some turn) n h = Turned n ∷ h

-- a request was received, and its number turned
abbrev pub after_passing : ℕ → Request → List Change → List Change
after_passing n r h = Turned n ∷ Admitted n r ∷ h

-- ---- what a call answers, by the history

-- a number from ExpCmdSN to MaxCmdSN is held or a duplicate, any other one is outside
abbrev pub offer_since : ℕ → ℕ → List Change → ℕ → Offer
offer_since first size h n =
    if nat_le (expected first h) n && nat_le n (last first size h)
    then (if is_received h n then Duplicate else Held)
    else Outside

-- the number is ExpCmdSN, and would be held
abbrev pub is_next_since : ℕ → ℕ → List Change → ℕ → Bool
is_next_since first size h n = n == expected first h && nat_le n (last first size h) && not (is_received h n)

-- the expected number turns, where it is received, with what is held there
abbrev pub turn_since : ℕ → List Change → Option Turn
turn_since first h =
    if is_received h (expected first h)
    then Some (record { sn = wire (expected first h); request = held h (expected first h) })
    else None

-- a SCSI Command with this tag, to this unit, is held at the number, which is below this one
abbrev pub is_command_below : List Change → ℕ → ℕ → ℕ → ℕ → Bool
is_command_below h tag unit below n = nat_lt n below && is_command tag unit (Some (held h n))

-- a request of that connection is held at the number
abbrev pub is_held_at : List Change → Option ℕ → ℕ → Bool
is_held_at h conn n = is_held_from conn (Some (held h n))

-- the number, if a request of that connection is held there
abbrev pub held_number : List Change → Option ℕ → ℕ → Option ℕ
held_number h conn n = if is_held_at h conn n then Some n else None

-- the lowest number that fits; None where there is none
abbrev pub IsLowest : (ℕ → Bool) → Option ℕ → Type 0
IsLowest fits None = (n : ℕ) → fits n ≡ false
IsLowest fits (Some n) = (fits n ≡ true) × ((k : ℕ) → k < n → fits k ≡ false)

-- the answer is what the wire shows of the lowest number that fits
pub record ShowsLowest (fits : ℕ → Bool) (answer : Option ℕ) : Type 0 where
  pub number : Option ℕ
  pub lowest : IsLowest fits number
  pub shown : answer ≡ option_map wire number

-- and its request was taken out
pub record TookLowest (fits : ℕ → Bool) (answer : Option ℕ) (now : Received) (h : List Change) : Type 0 where
  pub shows : ShowsLowest fits answer
  pub stands : StandsFor now (after_emptying shows.number h)

-- ---- what it means that a window stands for a history

pub record Law (s : Received) (h : List Change) : Type 0 where
  pub expected_is : number_expected s ≡ expected s.first h
  pub last_is : number_last s ≡ last s.first (length s.places) h
  -- those that have turned are those from the first one up to ExpCmdSN, and all of them were received
  pub turned_are : (n : ℕ) → (has_turned h n ≡ true) ↔ ((number_of_first s.first ≤ n) × (n < expected s.first h))
  pub gapless : (n : ℕ) → number_of_first s.first ≤ n → n < expected s.first h → is_received h n ≡ true
  -- nothing is received below the first one, or above MaxCmdSN
  pub none_before : (n : ℕ) → n < number_of_first s.first → is_received h n ≡ false
  pub none_above : (n : ℕ) → last s.first (length s.places) h < n → is_received h n ≡ false
  -- where no number is due, ExpCmdSN is the least one that isn't received
  pub least : is_received h (expected s.first h) ≡ false → IsLeastMissing s.first h (expected s.first h)
  -- what is held was received, from ExpCmdSN to MaxCmdSN, and carries its number
  pub held_are : (n : ℕ) (r : Request) → held h n ≡ Some r → (is_received h n ≡ true) × (expected s.first h ≤ n) × (n ≤ last s.first (length s.places) h) × (wire (cmd_sn r) ≡ wire n)
