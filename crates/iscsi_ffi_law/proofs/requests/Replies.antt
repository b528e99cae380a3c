-- What waits about a request, by the steps and by the rules.
use Rattle.std.proofs.Common.{◌≡◌, ℕ, ◌<◌, ◌≤◌, ◌==◌, ◌&&◌, ◌||◌, ◌⊎◌, inl, inr, ⊎_elim, Bool, true, false, List, [], ◌∷◌, length, count_by, Option, Some, None, is_some, refl, ap, sym, subst, ◌∙◌, arith}
use Rattle.std.specs.List.{list_any}
use Rattle.std.proofs.lemmas.Bool.{false≢true, eqb-true, eq-eqb, and_parts, and_from, or_cases, or_left, or_right, cases_lt}
use Rattle.iscsi_rules.specs.rules.Trace.{Command as RulesCommand, Trace, are_apart, entered}
use Rattle.iscsi_rules.proofs.general.ElementLemmas.{In}
use Rattle.iscsi_outbox_rules.specs.promises.Scope.{nth}
use Rattle.iscsi_outbox_rules.specs.rules.Boxes.{Answer, Link, Outgoing}
use Rattle.iscsi_outbox_rules.specs.rules.Run.{new_link}
use Rattle.iscsi_outbox_law.specs.private.Commands.{link_in}
use Rattle.iscsi_outbox_law.specs.private.Pairs.{EachOf}
use Rattle.iscsi_requests.specs.Conns.{of_conn}
use Rattle.iscsi_requests.specs.Replies.{has_log_place}
use Rattle.iscsi_requests.specs.declared.replies.WaitingReply.{WaitingReply}
use Rattle.iscsi_ffi_rules.specs.rules.Needs.{is_about, is_live as is_live_event, is_of_event, is_ticket_of, waits}
use Rattle.iscsi_ffi_rules.specs.rules.Sides.{Side}
use Rattle.iscsi_ffi_steps.specs.State.{State}
use Rattle.iscsi_ffi_law.specs.Names.{Name, Note, place_named}
use Rattle.iscsi_ffi_law.specs.Parts.{AreApart, IsAnswered, IsAtEvent, IsConn, IsCovered, IsKnownOut, IsReplyOf, IsUndue, count_sent, covers, is_live_ticket, is_sent_at}
use Rattle.iscsi_ffi_law.specs.Uses.{count_replies}
use Rattle.iscsi_ffi_law.proofs.commands.Commands.{live_of_ticket, one_command}
use Rattle.iscsi_ffi_law.proofs.general.Lists.{lists_at}
use Rattle.iscsi_ffi_law.proofs.general.Members.{CountedAt, Passing, PassingAt, any_at, any_in, at_any, counted_in, each_in, find_in, in_any, in_counted, lists_counted}
use Rattle.iscsi_ffi_law.proofs.requests.NameLemmas.{place_event}

-- ---- a PDU

-- it is the reply to the request of this event
abbrev pub is_reply_to : ℕ → List ℕ → Option ℕ → Bool
is_reply_to event answers sent = elim sent [ Some place ↦ elim (nth place answers) [ Some e ↦ e == event | None ↦ false ] | None ↦ false ]

-- it is of the command of the request of this event
abbrev pub is_part_of : ℕ → Trace → Option ℕ → Bool
is_part_of event t ticket = elim ticket [ Some k ↦ is_ticket_of event t k | None ↦ false ]

-- the reply at a place of the log answers a request in its place
pub record AnswersIt (names : List Name) (answers : List ℕ) (log_place request : ℕ) : Type 0 where
  pub event : ℕ
  pub is : nth log_place answers ≡ Some event
  pub named : place_named names event ≡ Some request

pub answers_it : (names : List Name) (answers : List ℕ) (log_place request : ℕ) → IsAnswered names answers log_place request → AnswersIt names answers log_place request
answers_it names answers log_place request h = by_event (nth log_place answers) refl h
  where
    by_event : (x : Option ℕ) → nth log_place answers ≡ x → IsAtEvent names request x → AnswersIt names answers log_place request
    by_event (Some event) is k = record { event = event; is = is; named = k }
    by_event None is k = absurd k

-- it stands at a place of the log
pub record SentAt (event : ℕ) (answers : List ℕ) (sent : Option ℕ) : Type 0 where
  pub place : ℕ
  pub is : sent ≡ Some place
  pub answers_is : nth place answers ≡ Some event

pub sent_at : (event : ℕ) (answers : List ℕ) (sent : Option ℕ) → is_reply_to event answers sent ≡ true → SentAt event answers sent
sent_at event answers None h = absurd (false≢true h)
sent_at event answers (Some place) h = by_event (nth place answers) refl h
  where
    by_event : (x : Option ℕ) → nth place answers ≡ x → elim x [ Some e ↦ e == event | None ↦ false ] ≡ true → SentAt event answers (Some place)
    by_event None is k = absurd (false≢true k)
    by_event (Some e) is k = record { place = place; is = refl; answers_is = is ∙ ap (λ (v : ℕ). Some v) (eqb-true e event k) }

pub at_sent : (event : ℕ) (answers : List ℕ) (sent : Option ℕ) (place : ℕ) → sent ≡ Some place → nth place answers ≡ Some event → is_reply_to event answers sent ≡ true
at_sent event answers sent place is at =
    ap (is_reply_to event answers) is ∙ ap (λ (x : Option ℕ). elim x [ Some e ↦ e == event | None ↦ false ]) at ∙ eq-eqb event event refl

place_sent : (out : Outgoing) (place : ℕ) → is_sent_at place out ≡ true → out.sent ≡ Some place
place_sent out place h = by_sent out.sent refl h
  where
    by_sent : (x : Option ℕ) → out.sent ≡ x → elim x [ Some p ↦ p == place | None ↦ false ] ≡ true → out.sent ≡ Some place
    by_sent None is k = absurd (false≢true k)
    by_sent (Some p) is k = is ∙ ap (λ (v : ℕ). Some v) (eqb-true p place k)

sent_place : (out : Outgoing) (place : ℕ) → out.sent ≡ Some place → is_sent_at place out ≡ true
sent_place out place is = ap (λ (x : Option ℕ). elim x [ Some p ↦ p == place | None ↦ false ]) is ∙ eq-eqb place place refl

-- ---- own PDUs of a command

module _ (names : List Name) (t : Trace) (answers : List ℕ) (apart : are_apart (entered t) ≡ true) (event ticket : ℕ) where
  -- the reply of a command answers its request
  reply_of_command : (out : Outgoing) (d : RulesCommand) → In d (entered t) → d.arrival.event ≡ event → d.ticket ≡ ticket → out.ticket ≡ Some ticket → is_some out.sent ≡ true → IsReplyOf t answers out.sent out.ticket
      → is_reply_to event answers out.sent ≡ true
  reply_of_command out d there of_it ticket_is ticketed some same = by_sent out.sent refl some (subst (IsReplyOf t answers out.sent) ticketed same)
    where
      by_sent : (x : Option ℕ) → out.sent ≡ x → is_some x ≡ true → IsReplyOf t answers x (Some ticket) → is_reply_to event answers out.sent ≡ true
      by_sent None is k same' = absurd (false≢true k)
      by_sent (Some place) is k same' =
          let found = find_in (λ (e : RulesCommand). e.ticket == ticket) (entered t) same'.0 same'.1 in
          let one : same'.0 ≡ d = one_command (entered t) same'.0 d apart found.0 there (eqb-true same'.0.ticket ticket found.1 ∙ sym ticket_is) in
          at_sent event answers out.sent place is (same'.2 ∙ ap (λ (x : RulesCommand). Some x.arrival.event) one ∙ ap (λ (v : ℕ). Some v) of_it)

  of_ticket : (out : Outgoing) → elim (out.ticket) [ Some k ↦ k == ticket | None ↦ false ] ≡ true → out.ticket ≡ Some ticket
  of_ticket out h = by_ticket out.ticket refl h
    where
      by_ticket : (x : Option ℕ) → out.ticket ≡ x → elim x [ Some k ↦ k == ticket | None ↦ false ] ≡ true → out.ticket ≡ Some ticket
      by_ticket None is k = absurd (false≢true k)
      by_ticket (Some p) is k = is ∙ ap (λ (v : ℕ). Some v) (eqb-true p ticket k)

  -- what waits of it is its reply, or it is live, or its reply stands behind
  covered_here : (out : Outgoing) (later : List Outgoing) → EachOf (IsKnownOut names t answers) later → IsKnownOut names t answers out → out.ticket ≡ Some ticket → is_ticket_of event t ticket ≡ true
      → (is_some out.sent || covers (is_live_ticket t) later ticket) ≡ true
      → (is_reply_to event answers out.sent ≡ true) ⊎ ((list_any (λ (o : Outgoing). is_reply_to event answers o.sent) later ≡ true) ⊎ (is_live_event event t ≡ true))
  covered_here out later known here ticketed of_it covered =
      ⊎_elim
      (λ some. inl (reply_of_command out d.x d.there event_is ticket_is ticketed some here.same))
      (λ rest. ⊎_elim
      (λ lives. inr (inr (subst (λ e. is_live_event e t ≡ true) event_is (live_of_ticket t d.x apart d.there (subst (λ k. is_live_ticket t k ≡ true) (sym ticket_is) lives)))))
      (λ behind.
      let o : Passing (λ (out' : Outgoing). is_some out'.sent && elim (out'.ticket) [ Some k ↦ k == ticket | None ↦ false ]) later
      = any_in (λ (out' : Outgoing). is_some out'.sent && elim (out'.ticket) [ Some k ↦ k == ticket | None ↦ false ]) later behind in
      let both = and_parts (is_some o.x.sent) (elim (o.x.ticket) [ Some k ↦ k == ticket | None ↦ false ]) o.passes in
      inr (inl (in_any (λ (o' : Outgoing). is_reply_to event answers o'.sent) later o.x o.there
      (reply_of_command o.x d.x d.there event_is ticket_is (of_ticket o.x both.1) both.0 (each_in (IsKnownOut names t answers) later o.x o.there known).same))))
      (or_cases (is_live_ticket t ticket) (list_any (λ (out' : Outgoing). is_some out'.sent && elim (out'.ticket) [ Some k ↦ k == ticket | None ↦ false ]) later) rest))
      (or_cases (is_some out.sent) (covers (is_live_ticket t) later ticket) covered)
    where
      d : Passing (λ (c : RulesCommand). is_of_event event c.arrival && c.ticket == ticket) (entered t)
      d = any_in (λ (c : RulesCommand). is_of_event event c.arrival && c.ticket == ticket) (entered t) of_it

      parts : (is_of_event event d.x.arrival ≡ true) × ((d.x.ticket == ticket) ≡ true)
      parts = and_parts (is_of_event event d.x.arrival) (d.x.ticket == ticket) d.passes

      event_is : d.x.arrival.event ≡ event
      event_is = eqb-true d.x.arrival.event event parts.0

      ticket_is : d.x.ticket ≡ ticket
      ticket_is = eqb-true d.x.ticket ticket parts.1

pub covered_out : (names : List Name) (t : Trace) (answers : List ℕ) (event : ℕ) → are_apart (entered t) ≡ true → (queue : List Outgoing) (out : Outgoing) → In out queue → EachOf (IsKnownOut names t answers) queue
    → IsCovered (is_live_ticket t) queue → is_part_of event t out.ticket ≡ true
    → (list_any (λ (o : Outgoing). is_reply_to event answers o.sent) queue ≡ true) ⊎ (is_live_event event t ≡ true)
covered_out names t answers event apart [] out h known covered part = absurd h
covered_out names t answers event apart (o ∷ queue) out h known covered part =
    ⊎_elim
    (λ same. by_ticket o.ticket refl (ap (λ (x : Outgoing). is_part_of event t x.ticket) same ∙ part) covered.0)
    (λ later. ⊎_elim (λ found. inl (or_right (is_reply_to event answers o.sent) (list_any (λ (x : Outgoing). is_reply_to event answers x.sent) queue) found)) (λ lives. inr lives)
    (covered_out names t answers event apart queue out later known.1 covered.1 part)) h
  where
    by_ticket : (x : Option ℕ) → o.ticket ≡ x → is_part_of event t o.ticket ≡ true → elim (o.ticket) [ Some ticket ↦ is_some o.sent || covers (is_live_ticket t) queue ticket | None ↦ true ] ≡ true
        → (list_any (λ (x : Outgoing). is_reply_to event answers x.sent) (o ∷ queue) ≡ true) ⊎ (is_live_event event t ≡ true)
    by_ticket None is k c = absurd (false≢true (sym (ap (is_part_of event t) is) ∙ k))
    by_ticket (Some ticket) is k c =
        ⊎_elim
        (λ here. inl (or_left (is_reply_to event answers o.sent) (list_any (λ (x : Outgoing). is_reply_to event answers x.sent) queue) here))
        (λ rest. ⊎_elim (λ found. inl (or_right (is_reply_to event answers o.sent) (list_any (λ (x : Outgoing). is_reply_to event answers x.sent) queue) found)) (λ lives. inr lives) rest)
        (covered_here names t answers apart event ticket o queue known.1 known.0 is (sym (ap (is_part_of event t) is) ∙ k)
        (sym (ap (λ (y : Option ℕ). elim y [ Some v ↦ is_some o.sent || covers (is_live_ticket t) queue v | None ↦ true ]) is) ∙ c))

-- ---- a request

-- what the connections have
pub record HaveConns (names : List Name) (notes : List Note) (gone : ℕ → List (Option ℕ)) (s : State) (r : Side) : Type 0 where
  pub apart : AreApart names notes
  pub tickets : are_apart (entered r.both.trace) ≡ true
  pub conns : (p : ℕ) → p < length r.both.box.links → IsConn names notes (gone p) s r p (link_in r.both.box.links p)
  pub undue : EachOf (IsUndue names r.answers) r.both.box.undue
  -- what isn't due goes out on one of the connections
  pub taken : EachOf (λ (a : Answer). list_any (λ (l : Link). l.conn == a.conn) r.both.box.links ≡ true) r.both.box.undue
  pub replies : length s.replies.waiting ≡ length r.both.box.links
  pub noted : length s.noted.handed ≡ length r.both.box.links
  pub unwritten : length s.unwritten.handed ≡ length r.both.box.links

module _ (names : List Name) (notes : List Note) (gone : ℕ → List (Option ℕ)) (s : State) (r : Side) (h : HaveConns names notes gone s r) (n : Name) (there : In n names) where
  abbrev pub replying : Outgoing → Bool
  replying out = is_reply_to n.event r.answers out.sent

  -- a reply that waits is that of a request in its place
  reply_counted : (p : ℕ) → p < length r.both.box.links → (place : ℕ) → nth place r.answers ≡ Some n.event → 1 ≤ count_sent place r.both.box.undue (link_in r.both.box.links p) → 1 ≤ count_replies n.place s
  reply_counted p within place is some =
      let c : IsConn names notes (gone p) s r p (link_in r.both.box.links p) = h.conns p within in
      let x : Passing (has_log_place place) (of_conn p s.replies.waiting) = counted_in (has_log_place place) (of_conn p s.replies.waiting) (omega (arith, c.queued.sent place, some)) in
      let a : AnswersIt names r.answers x.x.log_place x.x.request = answers_it names r.answers x.x.log_place x.x.request (each_in (λ (y : WaitingReply). IsAnswered names r.answers y.log_place y.request) (of_conn p s.replies.waiting) x.x x.there c.replies) in
      let at : x.x.log_place ≡ place = eqb-true x.x.log_place place x.passes in
      let event : Some a.event ≡ Some n.event = sym a.is ∙ ap (λ k. nth k r.answers) at ∙ is in
      let same : (a.event == n.event) ≡ true = eq-eqb a.event n.event (let e : a.event ≡ n.event = cc in e) in
      let here : (x.x.request == n.place) ≡ true = place_event names notes h.apart n a.event x.x.request there a.named ∙ same in
      let one : 1 ≤ count_by (λ (y : WaitingReply). y.request == n.place) (of_conn p s.replies.waiting) = in_counted (λ (y : WaitingReply). y.request == n.place) (of_conn p s.replies.waiting) x.x x.there here in
      omega (arith, one, lists_at (λ (y : WaitingReply). y.request == n.place) s.replies.waiting p)

  pub queued_counted : (p : ℕ) → p < length r.both.box.links → list_any replying (link_in r.both.box.links p).queue ≡ true → 1 ≤ count_replies n.place s
  queued_counted p within some =
      let out : Passing replying (link_in r.both.box.links p).queue = any_in replying (link_in r.both.box.links p).queue some in
      let at : SentAt n.event r.answers out.x.sent = sent_at n.event r.answers out.x.sent out.passes in
      let one : 1 ≤ count_by (is_sent_at at.place) (link_in r.both.box.links p).queue = in_counted (is_sent_at at.place) (link_in r.both.box.links p).queue out.x out.there (sent_place out.x at.place at.is) in
      reply_counted p within at.place at.answers_is (omega (arith, one))

  pub undue_counted : list_any (λ (a : Answer). replying a.out) r.both.box.undue ≡ true → 1 ≤ count_replies n.place s
  undue_counted some =
      let a : Passing (λ (x : Answer). replying x.out) r.both.box.undue = any_in (λ (x : Answer). replying x.out) r.both.box.undue some in
      let at : SentAt n.event r.answers a.x.out.sent = sent_at n.event r.answers a.x.out.sent a.passes in
      let l : PassingAt (λ (m : Link). m.conn == a.x.conn) r.both.box.links (new_link 0) = any_at (λ (m : Link). m.conn == a.x.conn) r.both.box.links (new_link 0)
      (each_in (λ (x : Answer). list_any (λ (m : Link). m.conn == x.conn) r.both.box.links ≡ true) r.both.box.undue a.x a.there h.taken) in
      let same : (a.x.conn == (link_in r.both.box.links l.place).conn) ≡ true = eq-eqb a.x.conn (link_in r.both.box.links l.place).conn (sym (eqb-true (link_in r.both.box.links l.place).conn a.x.conn l.passes)) in
      let one : 1 ≤ count_by (λ (x : Answer). x.conn == (link_in r.both.box.links l.place).conn && is_sent_at at.place x.out) r.both.box.undue
      = in_counted (λ (x : Answer). x.conn == (link_in r.both.box.links l.place).conn && is_sent_at at.place x.out) r.both.box.undue a.x a.there
      (and_from (a.x.conn == (link_in r.both.box.links l.place).conn) (is_sent_at at.place a.x.out) same (sent_place a.x.out at.place at.is)) in
      reply_counted l.place l.within at.place at.answers_is (omega (arith, one))

  -- what waits about it is its reply, or it is live
  pub waits_counted : waits n.event r ≡ true → (1 ≤ count_replies n.place s) ⊎ (is_live_event n.event r.both.trace ≡ true)
  waits_counted w =
      ⊎_elim
      (λ queued.
      let p : PassingAt (λ (l : Link). list_any (is_about n.event r) l.queue) r.both.box.links (new_link 0) = any_at (λ (l : Link). list_any (is_about n.event r) l.queue) r.both.box.links (new_link 0) queued in
      let l : Link = link_in r.both.box.links p.place in
      let c : IsConn names notes (gone p.place) s r p.place (link_in r.both.box.links p.place) = h.conns p.place p.within in
      let out : Passing (is_about n.event r) (link_in r.both.box.links p.place).queue = any_in (is_about n.event r) (link_in r.both.box.links p.place).queue p.passes in
      ⊎_elim
      (λ by_sent. inl (queued_counted p.place p.within (in_any replying (link_in r.both.box.links p.place).queue out.x out.there by_sent)))
      (λ by_ticket. ⊎_elim
      (λ found. inl (queued_counted p.place p.within found))
      (λ lives. inr lives)
      (covered_out names r.both.trace r.answers n.event h.tickets (link_in r.both.box.links p.place).queue out.x out.there c.queued.known c.queued.covered by_ticket))
      (or_cases (replying out.x) (is_part_of n.event r.both.trace out.x.ticket) out.passes))
      (λ undue.
      let a : Passing (λ (x : Answer). is_about n.event r x.out) r.both.box.undue = any_in (λ (x : Answer). is_about n.event r x.out) r.both.box.undue undue in
      let u : IsUndue names r.answers a.x = each_in (IsUndue names r.answers) r.both.box.undue a.x a.there h.undue in
      ⊎_elim
      (λ by_sent. inl (undue_counted (in_any (λ (x : Answer). replying x.out) r.both.box.undue a.x a.there by_sent)))
      (λ by_ticket. absurd (false≢true (sym (ap (is_part_of n.event r.both.trace) u.ticket) ∙ by_ticket)))
      (or_cases (replying a.x.out) (is_part_of n.event r.both.trace a.x.out.ticket) a.passes))
      (or_cases (list_any (λ (l : Link). list_any (is_about n.event r) l.queue) r.both.box.links) (list_any (λ (a : Answer). is_about n.event r a.out) r.both.box.undue) w)

  -- and its reply waits where the steps have one
  pub counted_waits : 1 ≤ count_replies n.place s → waits n.event r ≡ true
  counted_waits some =
      let at : CountedAt (λ (x : WaitingReply). x.request == n.place) s.replies.waiting = lists_counted (λ (x : WaitingReply). x.request == n.place) s.replies.waiting some in
      let within : at.place < length r.both.box.links = omega (arith, at.within, h.replies) in
      let c : IsConn names notes (gone at.place) s r at.place (link_in r.both.box.links at.place) = h.conns at.place within in
      let x : Passing (λ (y : WaitingReply). y.request == n.place) (of_conn at.place s.replies.waiting) = counted_in (λ (y : WaitingReply). y.request == n.place) (of_conn at.place s.replies.waiting) at.some in
      let a : AnswersIt names r.answers x.x.log_place x.x.request = answers_it names r.answers x.x.log_place x.x.request (each_in (λ (y : WaitingReply). IsAnswered names r.answers y.log_place y.request) (of_conn at.place s.replies.waiting) x.x x.there c.replies) in
      let event : a.event ≡ n.event = eqb-true a.event n.event (sym (place_event names notes h.apart n a.event x.x.request there a.named) ∙ x.passes) in
      let answered : nth x.x.log_place r.answers ≡ Some n.event = a.is ∙ ap (λ (v : ℕ). Some v) event in
      let one : 1 ≤ count_by (has_log_place x.x.log_place) (of_conn at.place s.replies.waiting) = in_counted (has_log_place x.x.log_place) (of_conn at.place s.replies.waiting) x.x x.there (eq-eqb x.x.log_place x.x.log_place refl) in
      ⊎_elim
      (λ queued.
      let out : Passing (is_sent_at x.x.log_place) (link_in r.both.box.links at.place).queue = counted_in (is_sent_at x.x.log_place) (link_in r.both.box.links at.place).queue queued in
      or_left (list_any (λ (l : Link). list_any (is_about n.event r) l.queue) r.both.box.links) (list_any (λ (b : Answer). is_about n.event r b.out) r.both.box.undue)
      (at_any (λ (l : Link). list_any (is_about n.event r) l.queue) r.both.box.links at.place (new_link 0) within
      (in_any (is_about n.event r) (link_in r.both.box.links at.place).queue out.x out.there
      (or_left (replying out.x) (is_part_of n.event r.both.trace out.x.ticket) (at_sent n.event r.answers out.x.sent x.x.log_place (place_sent out.x x.x.log_place out.passes) answered)))))
      (λ none.
      let u : Passing (λ (b : Answer). b.conn == (link_in r.both.box.links at.place).conn && is_sent_at x.x.log_place b.out) r.both.box.undue
      = counted_in (λ (b : Answer). b.conn == (link_in r.both.box.links at.place).conn && is_sent_at x.x.log_place b.out) r.both.box.undue (omega (arith, one, none, c.queued.sent x.x.log_place)) in
      let parts = and_parts (u.x.conn == (link_in r.both.box.links at.place).conn) (is_sent_at x.x.log_place u.x.out) u.passes in
      or_right (list_any (λ (l : Link). list_any (is_about n.event r) l.queue) r.both.box.links) (list_any (λ (b : Answer). is_about n.event r b.out) r.both.box.undue)
      (in_any (λ (b : Answer). is_about n.event r b.out) r.both.box.undue u.x u.there
      (or_left (replying u.x.out) (is_part_of n.event r.both.trace u.x.out.ticket) (at_sent n.event r.answers u.x.out.sent x.x.log_place (place_sent u.x.out x.x.log_place parts.1) answered))))
      (cases_lt 0 (count_by (is_sent_at x.x.log_place) (link_in r.both.box.links at.place).queue))
