-- How they are kept: values in slots, and lists of slots. For private contracts alone.
use Rattle.std.specs.Prelude.{◌≡◌, ℕ, zero, suc, ◌+◌, ◌%◌, ◌<◌, ◌≤◌, ◌==◌, ◌^◌, false, true, List, [], ◌∷◌, ◌++◌, length, map, Option, Some, None, slice_index_or, if◌then◌else◌}
use Rattle.std.specs.List.{AllPairs, list_any}
use Rattle.iscsi_slots.specs.Slots.{times, values}
use Rattle.iscsi_lists.specs.Lists.{Listed, first_of, times_in}
use Rattle.iscsi_tickets.specs.Tickets.{Known, value_of}
use Rattle.iscsi_requests.specs.declared.cookies.Counted.{Counted}
use Rattle.iscsi_requests.specs.declared.functions.WaitingFunction.{WaitingFunction}
use Rattle.iscsi_requests.specs.declared.replies.WaitingReply.{WaitingReply}
use Rattle.iscsi_requests.specs.Cookies.{Cookies, Request}
use Rattle.iscsi_requests.specs.Functions.{WaitingFunctions, has_number}
use Rattle.iscsi_requests.specs.Replies.{WaitingReplies}
use Rattle.iscsi_requests.specs.Unwritten.{Unwritten}

module _ {X : Type 0} where
  abbrev pub slots_at : Listed X → ℕ → List ℕ
  slots_at kept list = slice_index_or kept.lists list []

  -- the values of all lists
  abbrev pub values_in : X → List X → List (List ℕ) → List (List X)
  values_in blank xs lists = map (values blank xs) lists

-- ---- cookies

abbrev pub NO_COOKIE : Counted
NO_COOKIE = record { cookie = 0; uses = 0 }

abbrev pub counted_at : List Counted → ℕ → Counted
counted_at xs place = slice_index_or xs place NO_COOKIE

abbrev pub request_in : List Counted → ℕ → Request
request_in xs place = record { place = place; cookie = (counted_at xs place).cookie; uses = (counted_at xs place).uses }

abbrev pub requests_in : List Counted → List ℕ → List Request
requests_in xs places = map (request_in xs) places

abbrev pub cookies_of : Listed Counted → Cookies
cookies_of kept = record { requests = requests_in kept.values (slots_at kept 0); free = kept.free; room = kept.room }

pub record AreCookies (kept : Listed Counted) : Type 0 where
  pub one : length kept.lists ≡ 1
  pub used : (place : ℕ) → 1 ≤ times place (slots_at kept 0) → 1 ≤ (counted_at kept.values place).uses

-- ---- numbers

-- a table of this size has the numbers go round in it, also where they wrap
pub record IsRound (size long : ℕ) : Type 0 where
  pub some : 1 ≤ size
  pub whole : 2 ^ 32 % size ≡ 0
  pub same : long ≡ size

-- ---- functions

abbrev pub NO_FUNCTION : WaitingFunction
NO_FUNCTION = record { number = 0; request = 0 }

abbrev pub functions_of : Listed WaitingFunction → WaitingFunctions
functions_of kept = record { waiting = values_in NO_FUNCTION kept.values kept.lists; room = kept.room }

-- a walk over the slots of a list: those that it has passed have another number
pub record IsWalk (order : List ℕ) (xs : List WaitingFunction) (number : ℕ) (at_it : Option ℕ) : Type 0 where
  pub front : List ℕ
  pub back : List ℕ
  pub parts : order ≡ front ++ back
  pub first : at_it ≡ first_of back
  pub none : list_any (has_number number) (values NO_FUNCTION xs front) ≡ false

-- how many slots stand from one on
abbrev pub from_slot : ℕ → List ℕ → ℕ
from_slot slot [] = 0
from_slot slot (s ∷ slots) = if s == slot then suc (length slots) else from_slot slot slots

abbrev pub still_ahead : Option ℕ → List ℕ → ℕ
still_ahead None order = 0
still_ahead (Some slot) order = from_slot slot order

-- the first slot of a list whose function has a number
pub record IsFirstAt (order : List ℕ) (xs : List WaitingFunction) (number slot : ℕ) : Type 0 where
  pub front : List ℕ
  pub back : List ℕ
  pub parts : order ≡ front ++ slot ∷ back
  pub here : has_number number (slice_index_or xs slot NO_FUNCTION) ≡ true
  pub none : list_any (has_number number) (values NO_FUNCTION xs front) ≡ false

abbrev pub IsFirst : List ℕ → List WaitingFunction → ℕ → Option ℕ → Type 0
IsFirst order xs number None = list_any (has_number number) (values NO_FUNCTION xs order) ≡ false
IsFirst order xs number (Some slot) = IsFirstAt order xs number slot

-- ---- replies

abbrev pub NO_REPLY : WaitingReply
NO_REPLY = record { log_place = 0; request = 0 }

abbrev pub reply_at : List WaitingReply → ℕ → WaitingReply
reply_at xs slot = slice_index_or xs slot NO_REPLY

-- a reply's ticket is one above its log place
abbrev pub ticket_of : List WaitingReply → ℕ → ℕ
ticket_of xs slot = (reply_at xs slot).log_place + 1

abbrev pub log_place_of : ℕ → Option ℕ
log_place_of zero = None
log_place_of (suc log_place) = Some log_place

abbrev pub replies_of : Known → Listed WaitingReply → WaitingReplies
replies_of tickets kept = record { waiting = values_in NO_REPLY kept.values kept.lists; last = log_place_of tickets.last; room = kept.room }

-- the reply of a ticket stands in its slot
pub record IsKept (kept : Listed WaitingReply) (e : ℕ × ℕ) : Type 0 where
  pub ticket : ticket_of kept.values e.1 ≡ e.0
  pub there : 1 ≤ times_in e.1 kept.lists

abbrev pub AllKept : Listed WaitingReply → List (ℕ × ℕ) → Type 0
AllKept kept [] = Unit {0}
AllKept kept (e ∷ entries) = IsKept kept e × AllKept kept entries

pub record AreReplies (tickets : Known) (kept : Listed WaitingReply) : Type 0 where
  pub each : AllKept kept tickets.entries
  -- a slot that is in use is that of its reply's ticket
  pub owned : (slot : ℕ) → 1 ≤ times_in slot kept.lists → value_of (ticket_of kept.values slot) tickets.entries ≡ Some slot
  pub short : (slot : ℕ) → 1 ≤ times_in slot kept.lists → ticket_of kept.values slot < 2 ^ 64
  pub ascending : (conn : ℕ) → AllPairs (λ (s t : ℕ). ticket_of kept.values s < ticket_of kept.values t) (slots_at kept conn)
  pub counted : length tickets.entries + length kept.free ≡ kept.room
  pub room : tickets.room ≡ kept.room

-- ---- what isn't written

abbrev pub unwritten_of : Listed (Option ℕ) → Unwritten
unwritten_of kept = record { handed = values_in None kept.values kept.lists; room = kept.room }

-- how many each list has
abbrev pub AreCounted : List ℕ → Listed (Option ℕ) → Type 0
AreCounted counts kept = counts ≡ map (λ (slots : List ℕ). length slots) kept.lists
