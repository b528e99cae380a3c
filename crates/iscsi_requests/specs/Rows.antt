-- Worked requests, numbers, functions and replies, computed.
use Rattle.std.specs.Prelude.{◌≡◌, ℕ, false, [], ◌∷◌, Some, None, refl}
use Rattle.iscsi_requests.specs.declared.functions.WaitingFunction.{WaitingFunction}
use Rattle.iscsi_requests.specs.declared.replies.WaitingReply.{WaitingReply}
use Rattle.iscsi_requests.specs.Conns.{count_all, of_conn, oldest}
use Rattle.iscsi_requests.specs.Cookies.{Cookies, Request, cookie_at, entered, has_place, last_cookie, next_place, opened, used_less, used_more, uses_at}
use Rattle.iscsi_requests.specs.Numbers.{HeldNumbers, distance, held_at, opened as no_numbers, size_for, with_held}
use Rattle.iscsi_requests.specs.Functions.{WaitingFunctions, find_number, first_request as first_function, opened as no_functions, popped as function_popped, pushed as function_pushed, taken as function_taken}
use Rattle.iscsi_requests.specs.Replies.{WaitingReplies, find_log_place, first_request as first_reply, opened as no_replies, popped as reply_popped, pushed as reply_pushed, taken as reply_taken}
use Rattle.iscsi_requests.specs.Unwritten.{Unwritten, opened as nothing, popped as written, pushed as handed}

-- ---- cookies: 70 enters, and then 80

abbrev pub two : Cookies
two = entered 80 2 (entered 70 3 (opened 3))

abbrev pub request : ℕ → ℕ → ℕ → Request
request place cookie uses = record { place = place; cookie = cookie; uses = uses }

pub in_order : two.requests ≡ request 3 70 1 ∷ request 2 80 1 ∷ []
in_order = refl

pub its_cookie : cookie_at 2 two ≡ 80
its_cookie = refl

pub next : next_place two ≡ Some 1
next = refl

-- one that has two uses stays as one ends
pub used_twice : uses_at 3 (used_more 3 two) ≡ 2
used_twice = refl

pub stays : used_less 3 (used_more 3 two) ≡ two
stays = refl

pub not_told : last_cookie 3 (used_more 3 two) ≡ None
not_told = refl

-- and goes with the other one
pub told : last_cookie 3 two ≡ Some 70
told = refl

pub gone : has_place 3 (used_less 3 two) ≡ false
gone = refl

pub freed_last : next_place (used_less 3 two) ≡ Some 3
freed_last = refl

-- ---- numbers: a window of three, in a table of four

pub four : size_for 3 ≡ 4
four = refl

pub one : size_for 1 ≡ 1
one = refl

pub widest : size_for 1000 ≡ 1024
widest = refl

-- it wraps behind 4294967295
abbrev pub held : HeldNumbers
held = with_held 0 (Some 6) (with_held 4294967295 (Some 5) (no_numbers 3))

pub before_it_wraps : held_at 4294967295 held ≡ Some 5
before_it_wraps = refl

pub behind : held_at 0 held ≡ Some 6
behind = refl

pub none_there : held_at 1 held ≡ None
none_there = refl

pub not_held : held_at 0 (with_held 0 None held) ≡ None
not_held = refl

pub one_apart : distance 4294967295 0 ≡ 1
one_apart = refl

-- ---- functions: two on the first connection wait for number 9, between them one for 8

abbrev pub function : ℕ → ℕ → WaitingFunction
function number place = record { number = number; request = place }

abbrev pub three : WaitingFunctions
three = function_pushed 0 (function 9 3) (function_pushed 0 (function 8 2) (function_pushed 0 (function 9 1) (no_functions 2 4)))

pub first_of_nine : find_number 0 9 three ≡ Some 1
first_of_nine = refl

pub second_of_nine : find_number 0 9 (function_taken 0 9 three) ≡ Some 3
second_of_nine = refl

pub eight_first : first_function 0 (function_popped 0 three) ≡ Some 2
eight_first = refl

pub none_elsewhere : find_number 1 9 three ≡ None
none_elsewhere = refl

-- ---- replies: log places 0 and 5 on the first connection, and 4 on the second

abbrev pub reply : ℕ → ℕ → WaitingReply
reply log_place place = record { log_place = log_place; request = place }

abbrev pub replies : WaitingReplies
replies = reply_pushed 0 (reply 5 3) (reply_pushed 1 (reply 4 2) (reply_pushed 0 (reply 0 1) (no_replies 2 4)))

pub last_one : replies.last ≡ Some 5
last_one = refl

pub found : find_log_place 4 replies ≡ Some 2
found = refl

pub not_found : find_log_place 3 replies ≡ None
not_found = refl

pub not_there : (reply_taken 4 replies).waiting ≡ (reply 0 1 ∷ reply 5 3 ∷ []) ∷ [] ∷ []
not_there = refl

pub five_next : first_reply 0 (reply_popped 0 replies) ≡ Some 3
five_next = refl

-- ---- what isn't written: of request 7, of none, and of request 7 again

abbrev pub handed_out : Unwritten
handed_out = handed 1 (Some 7) (handed 1 None (handed 1 (Some 7) (nothing 2 4)))

pub oldest_one : oldest (of_conn 1 handed_out.handed) ≡ Some (Some 7)
oldest_one = refl

pub of_none : oldest (of_conn 1 (written 1 handed_out).handed) ≡ Some None
of_none = refl

pub nothing_first : oldest (of_conn 0 handed_out.handed) ≡ None
nothing_first = refl

pub all_three : count_all handed_out.handed ≡ 3
all_three = refl
