-- A PDU of the target's own enters its queue.
use Rattle.std.proofs.Common.{◌≡◌, ℕ, ◌+◌, ◌<◌, ◌==◌, ◌||◌, cond, true, false, List, [], ◌∷◌, ◌++◌, length, Option, Some, None, is_some, refl, ap, sym, subst, ◌∙◌, arith}
use Rattle.std.proofs.lemmas.Bool.{cond_both}
use Rattle.std.proofs.lemmas.List.{length-map}
use Rattle.std.proofs.lemmas.List.Sums.{sum_by-append}
use Rattle.iscsi_rules.proofs.general.CountLemmas.{one, count-cons}
use Rattle.iscsi_outbox_rules.specs.rules.Boxes.{Box, Link, Outgoing}
use Rattle.iscsi_outbox_rules.specs.rules.Queues.{append, enter, takes_more}
use Rattle.iscsi_outbox_law.specs.private.Commands.{link_in}
use Rattle.iscsi_outbox_law.proofs.general.PairLemmas.{each-append}
use Rattle.iscsi_requests.specs.Conns.{of_conn}
use Rattle.iscsi_requests.specs.declared.replies.WaitingReply.{WaitingReply}
use Rattle.iscsi_ffi_rules.specs.rules.Calls.{Interface}
use Rattle.iscsi_ffi_rules.specs.rules.Needs.{is_noted, left_to_write}
use Rattle.iscsi_ffi_rules.specs.rules.Sides.{Side}
use Rattle.iscsi_ffi_steps.specs.Steps.{Side as StepsSide}
use Rattle.iscsi_ffi_law.specs.Parts.{IsKnownOut, IsQueued, covers, is_live_ticket, is_sent_at}
use Rattle.iscsi_ffi_law.specs.Stands.{Stands}
use Rattle.iscsi_ffi_law.proofs.calls.Moved.{IsMoved}
use Rattle.iscsi_ffi_law.proofs.sending.Queued.{covered_push, link_map}

-- ---- what enters a queue

module _ (i : Interface) (s : StepsSide) (r : Side) (h : Stands i s r) (conn : ℕ) (out : Outgoing) where
  abbrev enters : Link → Link
  enters l = cond (l.conn == conn) (append (record out { time = r.both.box.time }) l) l

  abbrev pub box_entered : Box
  box_entered = enter conn out r.both.box

  enters_conn : (l : Link) → (enters l).conn ≡ l.conn
  enters_conn l = cond_both (l.conn == conn) (append (record out { time = r.both.box.time }) l) l (λ (m : Link). m.conn ≡ l.conn)
      (λ is. cond_both (takes_more l) (record l { queue = l.queue ++ record out { time = r.both.box.time } ∷ [] }) l (λ (m : Link). m.conn ≡ l.conn) (λ may. refl) (λ may. refl)) (λ isnt. refl)

  enters_left : (l : Link) → left_to_write (enters l) ≡ left_to_write l
  enters_left l = cond_both (l.conn == conn) (append (record out { time = r.both.box.time }) l) l (λ (m : Link). left_to_write m ≡ left_to_write l)
      (λ is. cond_both (takes_more l) (record l { queue = l.queue ++ record out { time = r.both.box.time } ∷ [] }) l (λ (m : Link). left_to_write m ≡ left_to_write l) (λ may. refl) (λ may. refl)) (λ isnt. refl)

  pub many : length (enter conn out r.both.box).links ≡ length r.both.box.links
  many = length-map r.both.box.links enters

  pub link_entered : (q : ℕ) → q < length r.both.box.links → link_in (enter conn out r.both.box).links q ≡ cond ((link_in r.both.box.links q).conn == conn) (append (record out { time = r.both.box.time }) (link_in r.both.box.links q)) (link_in r.both.box.links q)
  link_entered q short = link_map enters r.both.box.links q short

  pub conn_entered : (q : ℕ) → q < length r.both.box.links → (link_in (enter conn out r.both.box).links q).conn ≡ (link_in r.both.box.links q).conn
  conn_entered q short = ap (λ (m : Link). m.conn) (link_entered q short) ∙ enters_conn (link_in r.both.box.links q)

  pub left_entered : (q : ℕ) → q < length r.both.box.links → left_to_write (link_in (enter conn out r.both.box).links q) ≡ left_to_write (link_in r.both.box.links q)
  left_entered q short = ap left_to_write (link_entered q short) ∙ enters_left (link_in r.both.box.links q)

  -- behind all that waits
  pub queued_push : (rs : List WaitingReply) (n : ℕ) (l : Link) → out.sent ≡ None → IsKnownOut h.names r.both.trace r.answers (record out { time = r.both.box.time }) → elim (out.ticket) [ Some ticket ↦ is_some out.sent || covers (is_live_ticket r.both.trace) [] ticket | None ↦ true ] ≡ true
      → IsQueued h.names r.both.trace r.answers r.both.box.undue rs n l → IsQueued h.names r.both.trace r.answers r.both.box.undue rs (n + one (is_noted out.pdu)) (record l { queue = l.queue ++ record out { time = r.both.box.time } ∷ [] })
  queued_push rs n l sent known last q = record {
    sent = λ place.
        let none : one (is_sent_at place out) ≡ 0 = ap (λ (x : Option ℕ). one (elim x [ Some k ↦ k == place | None ↦ false ])) sent in
        omega (arith, none, q.sent place, sum_by-append (λ (o : Outgoing). cond (is_sent_at place o) 1 0) l.queue (record out { time = r.both.box.time } ∷ []), count-cons (is_sent_at place) (record out { time = r.both.box.time }) []);
    noting = omega (arith, q.noting, sum_by-append (λ (o : Outgoing). cond (is_noted o.pdu) 1 0) l.queue (record out { time = r.both.box.time } ∷ []), count-cons (λ (o : Outgoing). is_noted o.pdu) (record out { time = r.both.box.time }) []);
    known = each-append (IsKnownOut h.names r.both.trace r.answers) l.queue (record out { time = r.both.box.time } ∷ []) q.known (known, tt);
    covered = covered_push (is_live_ticket r.both.trace) l.queue (record out { time = r.both.box.time }) last q.covered;
  }

  -- one of a command
  pub moved_push : out.sent ≡ None → IsKnownOut h.names r.both.trace r.answers (record out { time = r.both.box.time }) → elim (out.ticket) [ Some ticket ↦ is_some out.sent || covers (is_live_ticket r.both.trace) [] ticket | None ↦ true ] ≡ true → is_noted out.pdu ≡ false
      → IsMoved h.names s.state r (enter conn out r.both.box)
  moved_push sent known last plain = record {
    long = many;
    sent = refl;
    queued = λ q within.
        let short : q < length r.both.box.links = omega (arith, within, many) in
        let old : IsQueued h.names r.both.trace r.answers r.both.box.undue (of_conn q s.state.replies.waiting) (length (of_conn q s.state.noted.handed)) (link_in r.both.box.links q) = (h.requests.conns q short).queued in
        let none : length (of_conn q s.state.noted.handed) + one (is_noted out.pdu) ≡ length (of_conn q s.state.noted.handed) = (let z : one (is_noted out.pdu) ≡ 0 = ap one plain in omega (arith, z)) in
        subst (IsQueued h.names r.both.trace r.answers r.both.box.undue (of_conn q s.state.replies.waiting) (length (of_conn q s.state.noted.handed))) (sym (link_entered q short))
        (cond_both ((link_in r.both.box.links q).conn == conn) (append (record out { time = r.both.box.time }) (link_in r.both.box.links q)) (link_in r.both.box.links q)
        (IsQueued h.names r.both.trace r.answers r.both.box.undue (of_conn q s.state.replies.waiting) (length (of_conn q s.state.noted.handed)))
        (λ is. cond_both (takes_more (link_in r.both.box.links q)) (record (link_in r.both.box.links q) { queue = (link_in r.both.box.links q).queue ++ record out { time = r.both.box.time } ∷ [] }) (link_in r.both.box.links q)
        (IsQueued h.names r.both.trace r.answers r.both.box.undue (of_conn q s.state.replies.waiting) (length (of_conn q s.state.noted.handed)))
        (λ may. subst (λ n. IsQueued h.names r.both.trace r.answers r.both.box.undue (of_conn q s.state.replies.waiting) n (record (link_in r.both.box.links q) { queue = (link_in r.both.box.links q).queue ++ record out { time = r.both.box.time } ∷ [] })) none
        (queued_push (of_conn q s.state.replies.waiting) (length (of_conn q s.state.noted.handed)) (link_in r.both.box.links q) sent known last old)) (λ may. old)) (λ isnt. old));
    undue = h.requests.undue;
    conn = λ q within. conn_entered q (omega (arith, within, many));
    left = λ q within. left_entered q (omega (arith, within, many));
  }
