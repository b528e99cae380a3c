-- What an item of each form does to the requests of an event: which wait for their turn, execute, are live and are answered.
use Rattle.std.proofs.Common.{◌≡◌, ℕ, ◌+◌, ◌≤◌, ◌==◌, ◌&&◌, not, inl, inr, cond, Bool, true, List, [], ◌∷◌, filter, length, count_by, Option, None, refl, ap, sym, ◌∙◌, arith, eq-eqb, length-append}
use Rattle.std.specs.List.{list_any, filter_map}
use Rattle.std.proofs.lemmas.List.Sums.{sum_by-append}
use Rattle.iscsi_wire.specs.Fields.{connection_of}
use Rattle.iscsi_rules.specs.rules.Settings.{Setting}
use Rattle.iscsi_rules.specs.rules.Trace.{Arrival, Command, Mark, Voids, Empties, Leaves, Enters, Sends, ClosesConn, ClosesSession, Trace, has, enters, entered, leaves_ticket, live, is_among}
use Rattle.iscsi_rules.specs.promises.Replies.{reply_sent, replies_to}
use Rattle.iscsi_rules.proofs.general.ListLemmas.{fewer_counted}
use Rattle.iscsi_rules.proofs.general.CountLemmas.{one, count-cons, count-filter, count-weaker, count-split}
use Rattle.iscsi_rules.proofs.general.ElementLemmas.{In, in-any}
use Rattle.iscsi_rules.proofs.traces.TraceLemmas.{live-item}
use Rattle.iscsi_rules.proofs.items.Forms.{Deeds, if_some, marks_done, Form, Completed, Executed, marks_of_form, IsFormed}
use Rattle.iscsi_rules.proofs.items.DeedLemmas.{to_list, views}
use Rattle.iscsi_rules.proofs.items.TouchLemmas.{leaving_in, entering_in, enters_form, leaves_form, leaving_few}

-- the request arrived in this event
abbrev pub is_of : ℕ → Arrival → Bool
is_of v a = a.event == v

-- so did that of the command
abbrev pub comes_of : ℕ → Command → Bool
comes_of v c = c.arrival.event == v

-- ---- what is seen of the marks that are done

-- a view that sees no more of them than replies
module _ {B : Type 0} (view : Mark → Option B) (voids : (n : ℕ) → view (Voids n) ≡ None) (leaves : (c : Command) → view (Leaves c) ≡ None) (empties : (a : Arrival) → view (Empties a) ≡ None)
    (enter : (c : Command) → view (Enters c) ≡ None) (closes : (conn : ℕ) → view (ClosesConn conn) ≡ None) (ends : view ClosesSession ≡ None) where
  pub replies_seen : (a : Arrival) (d : Deeds) → filter_map view (marks_done a d) ≡ filter_map view (if_some (Sends (connection_of a.request)) d.reply)
  replies_seen a d = simp (views, voids, leaves, empties, enter, closes, ends)

-- ---- replies

replied_done : (a : Arrival) (d : Deeds) → filter_map reply_sent (marks_done a d) ≡ to_list d.reply
replied_done a d = simp views

-- how many replies an item of this form sends to the request of the event
abbrev pub answers_of : ℕ → Form → ℕ
answers_of v (Completed c status) = one (comes_of v c)
answers_of v (Executed start a d) = cond (is_of v a) (length (to_list d.reply)) 0
answers_of v _ = 0

pub replies_form : (v : ℕ) (form : Form) (t : Trace) → length (replies_to v (marks_of_form form ∷ t)) ≡ length (replies_to v t) + answers_of v form
replies_form v form t = grind (arith, length-append, replied_done)

-- ---- commands

pub entered_form : (p : Command → Bool) (form : Form) (t : Trace) → count_by p (entered (marks_of_form form ∷ t)) ≡ count_by p (entered t) + count_by p (to_list (entering_in form))
entered_form p form t = grind (arith, sum_by-append, enters_form)

pub in_among : (cs : List Command) (c : Command) → In c cs → is_among c.ticket cs ≡ true
in_among cs c h = in-any (λ (d : Command). d.ticket == c.ticket) cs c h (eq-eqb c.ticket c.ticket refl)

among_in : (p : Command → Bool) (cs : List Command) → count_by (λ c. is_among c.ticket cs && p c) cs ≡ count_by p cs
among_in p cs = all cs cs (λ c h. h)
  where
    same_tests : (b c : Bool) → b ≡ true → (b && c) ≡ c
    same_tests b c h = grind arith

    all : (xs ds : List Command) → ((c : Command) → In c xs → In c ds) → count_by (λ c. is_among c.ticket ds && p c) xs ≡ count_by p xs
    all [] ds h = refl
    all (x ∷ xs) ds h =
        count-cons (λ c. is_among c.ticket ds && p c) x xs ∙ ap (λ n. n + count_by (λ c. is_among c.ticket ds && p c) xs) (ap one (same_tests (is_among x.ticket ds) (p x) (in_among ds x (h x (inl refl)))))
        ∙ ap (λ n. one (p x) + n) (all xs ds (λ c there. h c (inr there))) ∙ sym (count-cons p x xs)

-- those that leave are taken off, and those that enter are added
pub live_form : (o : Setting) (now : ℕ) (t : Trace) (form : Form) → IsFormed o now t form → (p : Command → Bool)
    → count_by p (live (marks_of_form form ∷ t)) + count_by p (leaving_in form) ≤ count_by p (live t) + count_by p (to_list (entering_in form))
live_form o now t form x p =
    let item : List Mark = marks_of_form form in
    let out : Command → Bool = λ c. is_among c.ticket (leaving_in form) in
    let gone : Command → Bool = λ c. list_any (leaves_ticket c.ticket) item in
    let new : List Command = filter (λ (c : Command). not (has (leaves_ticket c.ticket) (item ∷ t))) (filter_map enters item) in
    let parts : count_by p (live (item ∷ t)) ≡ count_by p (filter (λ c. not (gone c)) (live t)) + count_by p new
    = ap (count_by p) (live-item item t) ∙ sum_by-append (λ c. one (p c)) (filter (λ c. not (gone c)) (live t)) new in
    let stay : count_by p (filter (λ c. not (gone c)) (live t)) ≤ count_by (λ c. not (out c) && p c) (live t)
    = omega (arith, count-filter p (λ c. not (gone c)) (live t), count-weaker (λ c. not (gone c) && p c) (λ c. not (out c) && p c) (live t) (λ c h. ap (λ b. not b && p c) (sym (leaves_form c.ticket form)) ∙ h)) in
    let enter : count_by p new ≤ count_by p (to_list (entering_in form)) = omega (arith, fewer_counted p (λ (c : Command). not (has (leaves_ticket c.ticket) (item ∷ t))) (filter_map enters item), ap (count_by p) (enters_form form)) in
    let lost : count_by (λ c. out c && p c) (leaving_in form) ≤ count_by (λ c. out c && p c) (live t) = leaving_few o now t form x (λ c. out c && p c) in
    omega (arith, parts, stay, enter, lost, among_in p (leaving_in form), count-split p out (live t))
