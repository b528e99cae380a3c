-- Worked waits, computed: two connections, three places for commands, and room for four.
use Rattle.std.specs.Prelude.{◌≡◌, ℕ, Bool, true, false, [], ◌∷◌, Option, Some, None, refl}
use Rattle.iscsi_outbox_rules.specs.declared.own_pdu.OwnPdu.TheVariants.{OfConnection}
use Rattle.iscsi_wire.specs.declared.reply.Reply.TheVariants.{Nop}
use Rattle.iscsi_outbox_state.specs.declared.waiting.Content.TheVariants.{Reply, Own}
use Rattle.iscsi_outbox_state.specs.declared.waiting.Waiting.{Waiting}
use Rattle.iscsi_outbox_state.specs.Waits.{Waits, any_in, count_in, dropped_of, dropped_on, entered, entry, first_item, front_of, is_any, is_fenced, is_fenced_before, is_own, is_reply, is_taking, is_taking_before, opened, popped, queue_at, released_of}

abbrev pub own : Option ℕ → Waiting
own command = record { content = Own (OfConnection 0 []); takes = false; fenced = false; numbered = false; ends = false; command = command }

abbrev pub reply : Bool → Waiting
reply fenced = record { content = Reply (record { reply = Nop 7; place = 5 }); takes = true; fenced = fenced; numbered = true; ends = false; command = None }

-- on the first connection a PDU of command 2 and a fenced answer, on the second one another PDU of command 2 and a reply
abbrev pub four : Waits
four = entered 1 (reply false) (entered 1 (own (Some 2)) (entered 0 (reply true) (entered 0 (own (Some 2)) (opened 2 3 4))))

pub first_queue : queue_at four 0 ≡ entry 0 (own (Some 2)) ∷ entry 1 (reply true) ∷ []
first_queue = refl

pub second_queue : queue_at four 1 ≡ entry 2 (own (Some 2)) ∷ entry 3 (reply false) ∷ []
second_queue = refl

pub no_queue : queue_at four 2 ≡ []
no_queue = refl

pub first_front : front_of (queue_at four 0) ≡ Some (record { time = 0; takes = false; fenced = false })
first_front = refl

pub first_is : first_item (queue_at four 0) ≡ Some (own (Some 2))
first_is = refl

-- as it is taken out the answer comes first
pub next_is : first_item (queue_at (popped 0 four) 0) ≡ Some (reply true)
next_is = refl

pub none_popped : popped 0 (opened 2 3 4) ≡ opened 2 3 4
none_popped = refl

-- what entered behind the fenced answer is behind it, on either connection
pub behind : any_in (is_fenced_before 2) four ≡ true
behind = refl

pub before : any_in (is_fenced_before 1) four ≡ false
before = refl

-- an own PDU that takes no StatSN holds nothing back
pub behind_none : any_in (is_taking_before 1) four ≡ false
behind_none = refl

pub behind_reply : any_in (is_taking_before 4) (popped 0 (popped 0 four)) ≡ true
behind_reply = refl

pub all_wait : count_in is_any four ≡ 4
all_wait = refl

pub two_own : count_in is_own four ≡ 2
two_own = refl

pub two_replies : count_in is_reply four ≡ 2
two_replies = refl

pub one_fenced : count_in is_fenced four ≡ 1
one_fenced = refl

pub two_taking : count_in is_taking four ≡ 2
two_taking = refl

-- the PDUs of command 2 are dropped from both queues; those of command 1 are none
pub dropped : queue_at (dropped_of 2 four) 0 ≡ entry 1 (reply true) ∷ []
dropped = refl

pub dropped_there : queue_at (dropped_of 2 four) 1 ≡ entry 3 (reply false) ∷ []
dropped_there = refl

pub none_dropped : dropped_of 1 four ≡ four
none_dropped = refl

-- or wait on, of no command
pub released : queue_at (released_of 2 four) 0 ≡ entry 0 (own None) ∷ entry 1 (reply true) ∷ []
released = refl

pub emptied : queue_at (dropped_on 0 four) 0 ≡ []
emptied = refl

pub others_stay : queue_at (dropped_on 0 four) 1 ≡ queue_at four 1
others_stay = refl
