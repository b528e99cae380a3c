-- Once a command has left, nothing is sent any more to its request, and nothing ever to a numbered request that doesn't execute.
use Rattle.std.proofs.Common.{◌≡◌, ℕ, ◌+◌, ◌<◌, ◌≤◌, not, true, false, [], ◌∷◌, ◌++◌, length, count_by, Some, refl, ap, sym, ◌∙◌, arith, nat_lt, eq-eqb, append_assoc, length-append}
use Rattle.std.proofs.lemmas.List.{append-nil}
use Rattle.iscsi_rules.specs.rules.Settings.{Setting}
use Rattle.iscsi_rules.specs.rules.Trace.{Arrival, Command, Trace, has, shown, admits_at, admitted, is_delivered, entered, leaves_ticket, live}
use Rattle.iscsi_rules.specs.promises.Replies.{replies_to}
use Rattle.iscsi_rules.proofs.general.ElementLemmas.{In, filter-in, first-in}
use Rattle.iscsi_rules.proofs.traces.HeldLemmas.{admitted-number}
use Rattle.iscsi_rules.proofs.general.CountLemmas.{one, count-one, count-filter, count-lost}
use Rattle.iscsi_rules.proofs.items.Forms.{HaveForms}
use Rattle.iscsi_rules.proofs.promises.ReplyForms.{is_of, comes_of}
use Rattle.iscsi_rules.proofs.promises.ReplyTurns.{admits_request, is_owed, owed, admitted_there}
use Rattle.iscsi_rules.proofs.promises.ReplyRuns.{one_most, is_below, none_left, becoming, becoming_once, standing_once, Since, since}

-- the replies of later items come after those of the items before
replies-append : (v : ℕ) (later t : Trace) → replies_to v (later ++ t) ≡ replies_to v t ++ replies_to v later
replies-append v [] t = sym (append-nil (replies_to v t))
replies-append v (item ∷ later) t = grind (arith, replies-append v later t, append_assoc)

-- a command that entered and left isn't live: of its event none is
left_unlive_of : (t : Trace) (c : Command) → In c (entered t) → has (leaves_ticket c.ticket) t ≡ true → count_by (comes_of c.arrival.event) (live t) + 1 ≤ count_by (comes_of c.arrival.event) (entered t)
left_unlive_of t c there left = grind (arith, count-filter, count-lost)

pub silent_since : (o : Setting) (next : ℕ) (later t : Trace) (c : Command) → HaveForms o next (later ++ t) → In c (entered t) → has (leaves_ticket c.ticket) t ≡ true → replies_to c.arrival.event later ≡ []
silent_since o next later t c x there left =
    let v : ℕ = c.arrival.event in
    let s : Since o next later t = since o later t next x in
    let gone : count_by (comes_of v) (live t) + 1 ≤ count_by (comes_of v) (entered t) = left_unlive_of t c there left in
    let once : becoming v t ≤ one (nat_lt v s.place) = becoming_once o v t s.place s.before in
    let lt : v < s.place = is_below v s.place (omega (arith, gone, once)) in
    let all : length (replies_to v (later ++ t)) ≡ length (replies_to v t) + length (replies_to v later) = ap length (replies-append v later t) ∙ length-append (replies_to v t) (replies_to v later) in
    none_left (replies_to v later) (omega (arith, gone, once, all, s.falls v lt, one_most (nat_lt v s.place)))

-- a numbered request that wasn't delivered has no reply
pub undelivered_silent : (o : Setting) (next : ℕ) (t : Trace) (n : ℕ) (a : Arrival) → HaveForms o next t → admitted t n ≡ Some a → is_delivered t n ≡ false → replies_to a.event t ≡ []
undelivered_silent o next t n a x there undelivered =
    let v : ℕ = a.event in
    let number : a.number ≡ n = admitted-number t n a there in
    let waits : In a (owed t) = filter-in (is_owed t) (shown admits_request t) a (admitted_there n t a (first-in (shown (admits_at n) t) a there)) (ap (λ k. not (is_delivered t k)) number ∙ ap not undelivered) in
    none_left (replies_to v t) (omega (arith, count-one (is_of v) (owed t) a waits (eq-eqb v v refl), standing_once o v t next x, one_most (nat_lt v next)))
