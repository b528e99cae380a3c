-- Worked histories, computed: what the queries give, beside what must come.
use Rattle.std.specs.Prelude.{◌≡◌, ℕ, ◌+◌, List, [], ◌∷◌, Some, None, refl, true, false}
use Rattle.iscsi_wire.specs.declared.request.Request.{Request}
use Rattle.iscsi_window.specs.declared.answer.Offer.TheVariants.{Held, Outside, Duplicate}
use Rattle.iscsi_window.specs.History.{Change, Admitted, Voided, Emptied, Turned, Started, Finished, held, place_of, number_of, offer_since, turn_since, is_next_since}

-- a session whose first CmdSN is 2 ^ 32 - 1: the wire shows the next one as 0
abbrev pub first : ℕ
first = 4294967295

-- its number that is so many above the first one
abbrev pub nth : ℕ → ℕ
nth k = 8589934591 + k

-- the request of the first number comes last: the third one and the second one are held before
abbrev pub out_of_order : Request → Request → Request → List Change
out_of_order a b c = Admitted (nth 0) a ∷ Admitted (nth 1) b ∷ Admitted (nth 2) c ∷ []

pub third_is_held : (a b c : Request) → held (out_of_order a b c) (nth 2) ≡ Some c
third_is_held a b c = refl

-- a window of four places still expects the first number, and admits the fourth one
pub fourth_is_new : (a b c : Request) → offer_since first 4 (out_of_order a b c) (nth 3) ≡ Held
fourth_is_new a b c = refl

pub third_came : (a b c : Request) → offer_since first 4 (out_of_order a b c) (nth 2) ≡ Duplicate
third_came a b c = refl

pub fifth_is_outside : (a b c : Request) → offer_since first 4 (out_of_order a b c) (nth 4) ≡ Outside
fifth_is_outside a b c = refl

-- the first number turns with its request, and is shown as 2 ^ 32 - 1
pub first_turns : (a b c : Request) → turn_since first (out_of_order a b c) ≡ Some (record { sn = 4294967295; request = Some a })
first_turns a b c = refl

-- it has turned, and its command is being executed; the second one is taken out, and its number turns without a request
abbrev pub under_way : Request → Request → Request → List Change
under_way a b c = Emptied (nth 1) ∷ Started ∷ Turned (nth 0) ∷ out_of_order a b c

pub second_turns_empty : (a b c : Request) → turn_since first (under_way a b c) ≡ Some (record { sn = 0; request = None })
second_turns_empty a b c = refl

-- the wire shows the numbers past the wrap from 0 on
pub second_is_zero : (a b c : Request) → number_of first (under_way a b c) 0 ≡ nth 1
second_is_zero a b c = refl

-- a command under way takes one place: the fifth number is outside until it ends
pub one_place_less : (a b c : Request) → offer_since first 4 (under_way a b c) (nth 4) ≡ Outside
one_place_less a b c = refl

pub place_again : (a b c : Request) → offer_since first 4 (Finished ∷ under_way a b c) (nth 4) ≡ Held
place_again a b c = refl

-- the first number came, turned, and is outside now: it is no duplicate
pub first_is_outside : (a b c : Request) → offer_since first 4 (under_way a b c) (nth 0) ≡ Outside
first_is_outside a b c = refl

-- a number that is voided counts as received, and nothing is held there
pub voided_is_received : (a b c : Request) → place_of (Voided (nth 3) ∷ under_way a b c) (nth 3) ≡ Some None
voided_is_received a b c = refl

-- where the next number isn't received nothing turns
pub none_due : (a b c : Request) → turn_since first (Turned (nth 2) ∷ Turned (nth 1) ∷ under_way a b c) ≡ None
none_due a b c = refl

-- the first number is the one that comes next until it is received; no other number is
pub first_is_next : is_next_since first 4 [] (nth 0) ≡ true
first_is_next = refl

pub second_is_not_next : is_next_since first 4 [] (nth 1) ≡ false
second_is_not_next = refl

pub received_is_not_next : (a b c : Request) → is_next_since first 4 (out_of_order a b c) (nth 0) ≡ false
received_is_not_next a b c = refl

-- a command under way takes the only place of a window, so that no number is admitted
pub none_is_next : is_next_since first 1 (Started ∷ []) (nth 0) ≡ false
none_is_next = refl
