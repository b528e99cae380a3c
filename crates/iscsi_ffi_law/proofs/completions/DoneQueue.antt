-- The reply of a command that completes enters its queue: what waits is still that of requests that are kept.
use Rattle.std.proofs.Common.{◌≡◌, ℕ, zero, suc, ◌<◌, ◌==◌, ◌&&◌, ◌||◌, ⊎_elim, not, cond, Bool, true, false, List, [], ◌∷◌, ◌++◌, length, find, Option, Some, None, is_some, refl, ap, sym, subst, ◌∙◌, arith}
use Rattle.std.specs.List.{list_any}
use Rattle.std.proofs.lemmas.Bool.{and_from, cases_Bool, eqb-true, false≢true, not-true, or_cases, or_left, or_right}
use Rattle.std.proofs.lemmas.List.Folds.{list_any-append}
use Rattle.std.proofs.lemmas.List.Sums.{sum_by-append}
use Rattle.iscsi_rules.specs.rules.Trace.{Command as RulesCommand, Trace, entered, has, leaves_ticket}
use Rattle.iscsi_rules.proofs.general.BoolLemmas.{and_parts}
use Rattle.iscsi_rules.proofs.general.CountLemmas.{one, count-cons}
use Rattle.iscsi_rules.proofs.general.ElementLemmas.{In}
use Rattle.iscsi_outbox_rules.specs.promises.Scope.{nth}
use Rattle.iscsi_outbox_rules.specs.rules.Boxes.{Answer, Link, Outgoing, Task}
use Rattle.iscsi_outbox_law.specs.private.Pairs.{EachOf, InOrder}
use Rattle.iscsi_outbox_law.specs.private.Sound.{HasHome}
use Rattle.iscsi_outbox_law.proofs.general.PairLemmas.{each-append, each-weaken}
use Rattle.iscsi_requests.specs.Replies.{has_log_place}
use Rattle.iscsi_requests.specs.declared.replies.WaitingReply.{WaitingReply}
use Rattle.iscsi_ffi_rules.specs.rules.Needs.{is_noted}
use Rattle.iscsi_ffi_law.specs.Names.{Name}
use Rattle.iscsi_ffi_law.specs.Parts.{IsCovered, IsKnownOut, IsNamedEvent, IsOfCommand, IsOfReply, IsQueued, IsReplyOf, IsUndue, covers, is_live_ticket, is_sent_at}
use Rattle.iscsi_ffi_law.proofs.completions.DoneShape.{done_trace, entered_same, left_too}
use Rattle.iscsi_ffi_law.proofs.general.Members.{Passing, any_in, in_any}

-- ---- places of the log

pub nth_more : {A : Type 0} (k : ℕ) (xs ys : List A) (x : A) → nth k xs ≡ Some x → nth k (xs ++ ys) ≡ Some x
nth_more k [] ys x is = absurd cc
nth_more zero (y ∷ xs) ys x is = is
nth_more (suc k) (y ∷ xs) ys x is = nth_more k xs ys x is

pub nth_last : {A : Type 0} (xs : List A) (x : A) → nth (length xs) (xs ++ x ∷ []) ≡ Some x
nth_last [] x = refl
nth_last (y ∷ xs) x = nth_last xs x

pub nth_before : {A : Type 0} (k : ℕ) (xs ys : List A) → k < length xs → nth k (xs ++ ys) ≡ nth k xs
nth_before k [] ys below = absurd (let none : ⊥ = omega (arith, below) in none)
nth_before zero (y ∷ xs) ys below = refl
nth_before (suc k) (y ∷ xs) ys below = nth_before k xs ys (omega (arith, below))

-- ---- commands that entered, each with a ticket of its own

pub one_task : (ts : List Task) (t u : Task) → InOrder (λ (x y : Task). x.ticket < y.ticket) ts → In t ts → In u ts → t.ticket ≡ u.ticket → t ≡ u
one_task [] t u order h k same = absurd h
one_task (x ∷ ts) t u order h k same =
    ⊎_elim
    (λ first. ⊎_elim
    (λ too. sym first ∙ too)
    (λ later. absurd (below t u (ap (λ (y : Task). y.ticket) first) same (after ts u order.0 later))) k)
    (λ later. ⊎_elim
    (λ first. absurd (below u t (ap (λ (y : Task). y.ticket) first) (sym same) (after ts t order.0 later)))
    (λ too. one_task ts t u order.1 later too same) k) h
  where
    after : (us : List Task) (y : Task) → EachOf (λ (z : Task). x.ticket < z.ticket) us → In y us → x.ticket < y.ticket
    after [] y each at = absurd at
    after (z ∷ us) y each at = ⊎_elim (λ here. let e : z.ticket ≡ y.ticket = ap (λ (w : Task). w.ticket) here in let lt = each.0 in omega (arith, e, lt)) (λ later. after us y each.1 later) at

    below : (y z : Task) → x.ticket ≡ y.ticket → y.ticket ≡ z.ticket → x.ticket < z.ticket → ⊥
    below y z e f lt = omega (arith, e, f, lt)

-- ---- what waits

module _ (names : List Name) (t : Trace) (answers : List ℕ) (d : RulesCommand) (status : ℕ) where
  abbrev pub t' : Trace
  t' = done_trace t d status

  abbrev pub answers' : List ℕ
  answers' = answers ++ d.arrival.event ∷ []

  pub of_reply_more : (sent : Option ℕ) → IsOfReply names answers sent → IsOfReply names (answers ++ d.arrival.event ∷ []) sent
  of_reply_more None k = tt
  of_reply_more (Some place) k = by_event (nth place answers) refl k
    where
      by_event : (x : Option ℕ) → nth place answers ≡ x → IsNamedEvent names x → IsNamedEvent names (nth place (answers ++ d.arrival.event ∷ []))
      by_event None is named = absurd named
      by_event (Some e) is named = subst (IsNamedEvent names) (sym (nth_more place answers (d.arrival.event ∷ []) e is)) named

  of_command_more : (ticket : Option ℕ) → IsOfCommand names t ticket → IsOfCommand names (done_trace t d status) ticket
  of_command_more None k = tt
  of_command_more (Some ticket) k = (k.0, ap (find (λ (e : RulesCommand). e.ticket == ticket)) (entered_same t d status) ∙ k.1, k.2)

  reply_of_more : (sent ticket : Option ℕ) → IsReplyOf t answers sent ticket → IsReplyOf (done_trace t d status) (answers ++ d.arrival.event ∷ []) sent ticket
  reply_of_more None ticket k = tt
  reply_of_more (Some place) None k = tt
  reply_of_more (Some place) (Some ticket) k = (k.0, ap (find (λ (e : RulesCommand). e.ticket == ticket)) (entered_same t d status) ∙ k.1, nth_more place answers (d.arrival.event ∷ []) k.0.arrival.event k.2)

  pub known_more : (out : Outgoing) → IsKnownOut names t answers out → IsKnownOut names (done_trace t d status) (answers ++ d.arrival.event ∷ []) out
  known_more out k = record { of_reply = of_reply_more out.sent k.of_reply; of_command = of_command_more out.ticket k.of_command; same = reply_of_more out.sent out.ticket k.same; own = k.own }

  pub undue_more : (undue : List Answer) → EachOf (IsUndue names answers) undue → EachOf (IsUndue names (answers ++ d.arrival.event ∷ [])) undue
  undue_more undue each = each-weaken (IsUndue names answers) (IsUndue names (answers ++ d.arrival.event ∷ [])) undue (λ a k. record { own = k.own; reply = k.reply; ticket = k.ticket; of_reply = of_reply_more a.out.sent k.of_reply }) each

  -- another command is live still
  live_still : (k : ℕ) → (d.ticket == k) ≡ false → is_live_ticket t k ≡ true → is_live_ticket (done_trace t d status) k ≡ true
  live_still k other lives =
      let x : Passing (λ (e : RulesCommand). e.ticket == k && not (has (leaves_ticket e.ticket) t)) (entered t) = any_in (λ (e : RulesCommand). e.ticket == k && not (has (leaves_ticket e.ticket) t)) (entered t) lives in
      let parts = and_parts (x.x.ticket == k) (not (has (leaves_ticket x.x.ticket) t)) x.passes in
      let at : x.x.ticket ≡ k = eqb-true x.x.ticket k parts.0 in
      let still : has (leaves_ticket x.x.ticket) (done_trace t d status) ≡ false
      = left_too t d status x.x.ticket ∙ ap (λ v. v || has (leaves_ticket x.x.ticket) t) (ap (λ n. d.ticket == n) at ∙ other) ∙ not-true (has (leaves_ticket x.x.ticket) t) parts.1 in
      ap (list_any (λ (e : RulesCommand). e.ticket == k && not (has (leaves_ticket e.ticket) (done_trace t d status)))) (entered_same t d status)
      ∙ in_any (λ (e : RulesCommand). e.ticket == k && not (has (leaves_ticket e.ticket) (done_trace t d status))) (entered t) x.x x.there (and_from (x.x.ticket == k) (not (has (leaves_ticket x.x.ticket) (done_trace t d status))) parts.0 (ap not still))

  abbrev is_reply_with : ℕ → Outgoing → Bool
  is_reply_with ticket o = is_some o.sent && elim (o.ticket) [ Some k ↦ k == ticket | None ↦ false ]

  -- it covers what waits of its command
  module _ (out : Outgoing) (place : ℕ) (sent : out.sent ≡ Some place) (of_it : out.ticket ≡ Some d.ticket) where
    is_its_reply : (k : ℕ) → is_reply_with k out ≡ (d.ticket == k)
    is_its_reply k = ap (λ (x : Option ℕ). is_some x && elim (out.ticket) [ Some n ↦ n == k | None ↦ false ]) sent ∙ ap (λ (x : Option ℕ). elim x [ Some n ↦ n == k | None ↦ false ]) of_it

    covers_now : (later : List Outgoing) (k : ℕ) → covers (is_live_ticket t) later k ≡ true → covers (is_live_ticket (done_trace t d status)) (later ++ out ∷ []) k ≡ true
    covers_now later k h =
        ⊎_elim
        (λ its. or_right (is_live_ticket (done_trace t d status) k) (list_any (is_reply_with k) (later ++ out ∷ []))
        (list_any-append (is_reply_with k) later (out ∷ []) ∙ or_right (list_any (is_reply_with k) later) (list_any (is_reply_with k) (out ∷ [])) (or_left (is_reply_with k out) false (is_its_reply k ∙ its))))
        (λ other. ⊎_elim
        (λ lives. or_left (is_live_ticket (done_trace t d status) k) (list_any (is_reply_with k) (later ++ out ∷ [])) (live_still k other lives))
        (λ behind. or_right (is_live_ticket (done_trace t d status) k) (list_any (is_reply_with k) (later ++ out ∷ []))
        (list_any-append (is_reply_with k) later (out ∷ []) ∙ or_left (list_any (is_reply_with k) later) (list_any (is_reply_with k) (out ∷ [])) behind))
        (or_cases (is_live_ticket t k) (list_any (is_reply_with k) later) h))
        (cases_Bool (d.ticket == k))

    covered_now : (queue : List Outgoing) → IsCovered (is_live_ticket t) queue → IsCovered (is_live_ticket (done_trace t d status)) (queue ++ out ∷ [])
    covered_now [] h = (
      ap (λ (x : Option ℕ). elim x [ Some ticket ↦ is_some out.sent || covers (is_live_ticket (done_trace t d status)) [] ticket | None ↦ true ]) of_it
          ∙ ap (λ (x : Option ℕ). is_some x || covers (is_live_ticket (done_trace t d status)) [] d.ticket) sent,
      tt,
    )
    covered_now (o ∷ queue) h = (by_ticket o.ticket h.0, covered_now queue h.1)
      where
        by_ticket : (x : Option ℕ) → elim x [ Some ticket ↦ is_some o.sent || covers (is_live_ticket t) queue ticket | None ↦ true ] ≡ true
            → elim x [ Some ticket ↦ is_some o.sent || covers (is_live_ticket (done_trace t d status)) (queue ++ out ∷ []) ticket | None ↦ true ] ≡ true
        by_ticket None k = refl
        by_ticket (Some ticket) k =
            ⊎_elim
            (λ some. or_left (is_some o.sent) (covers (is_live_ticket (done_trace t d status)) (queue ++ out ∷ []) ticket) some)
            (λ rest. or_right (is_some o.sent) (covers (is_live_ticket (done_trace t d status)) (queue ++ out ∷ []) ticket) (covers_now queue ticket rest))
            (or_cases (is_some o.sent) (covers (is_live_ticket t) queue ticket) k)

    -- the queue that it enters
    pub queued_reply : (undue : List Answer) (rs : List WaitingReply) (x : WaitingReply) (n : ℕ) (l : Link) → x.log_place ≡ place → is_noted out.pdu ≡ false → IsKnownOut names (done_trace t d status) (answers ++ d.arrival.event ∷ []) out
        → IsQueued names t answers undue rs n l → IsQueued names (done_trace t d status) (answers ++ d.arrival.event ∷ []) undue (rs ++ x ∷ []) n (record l { queue = l.queue ++ out ∷ [] })
    queued_reply undue rs x n l at plain known q = record {
      sent = λ k.
          let here : one (has_log_place k x) ≡ one (is_sent_at k out) = ap (λ m. one (m == k)) at ∙ sym (ap (λ (y : Option ℕ). one (elim y [ Some m ↦ m == k | None ↦ false ])) sent) in
          omega (
            arith,
            q.sent k,
            here,
            sum_by-append (λ (y : WaitingReply). cond (has_log_place k y) 1 0) rs (x ∷ []),
            count-cons (has_log_place k) x [],
            sum_by-append (λ (o : Outgoing). cond (is_sent_at k o) 1 0) l.queue (out ∷ []),
            count-cons (is_sent_at k) out [],
          );
      noting =
          let none : one (is_noted out.pdu) ≡ 0 = ap one plain in
          omega (arith, q.noting, none, sum_by-append (λ (o : Outgoing). cond (is_noted o.pdu) 1 0) l.queue (out ∷ []), count-cons (λ (o : Outgoing). is_noted o.pdu) out []);
      known = each-append (IsKnownOut names (done_trace t d status) (answers ++ d.arrival.event ∷ [])) l.queue (out ∷ []) (each-weaken (IsKnownOut names t answers) (IsKnownOut names (done_trace t d status) (answers ++ d.arrival.event ∷ [])) l.queue known_more q.known) (known, tt);
      covered = covered_now l.queue q.covered;
    }

  -- ---- another queue, where nothing waits of the command

  abbrev pub IsApart : Outgoing → Type 0
  IsApart o = elim (o.ticket) [ Some k ↦ (d.ticket == k) ≡ false | None ↦ Unit {0} ]

  covered_apart : (queue : List Outgoing) → EachOf IsApart queue → IsCovered (is_live_ticket t) queue → IsCovered (is_live_ticket (done_trace t d status)) queue
  covered_apart [] apart h = tt
  covered_apart (o ∷ queue) apart h = (by_ticket o.ticket apart.0 h.0, covered_apart queue apart.1 h.1)
    where
      by_ticket : (x : Option ℕ) → elim x as (λ (y : Option ℕ). Type 0) [ Some k ↦ (d.ticket == k) ≡ false | None ↦ Unit {0} ] → elim x [ Some ticket ↦ is_some o.sent || covers (is_live_ticket t) queue ticket | None ↦ true ] ≡ true
          → elim x [ Some ticket ↦ is_some o.sent || covers (is_live_ticket (done_trace t d status)) queue ticket | None ↦ true ] ≡ true
      by_ticket None other k = refl
      by_ticket (Some ticket) other k =
          ⊎_elim
          (λ some. or_left (is_some o.sent) (covers (is_live_ticket (done_trace t d status)) queue ticket) some)
          (λ rest. or_right (is_some o.sent) (covers (is_live_ticket (done_trace t d status)) queue ticket) (⊎_elim
          (λ lives. or_left (is_live_ticket (done_trace t d status) ticket) (list_any (is_reply_with ticket) queue) (live_still ticket other lives))
          (λ behind. or_right (is_live_ticket (done_trace t d status) ticket) (list_any (is_reply_with ticket) queue) behind)
          (or_cases (is_live_ticket t ticket) (list_any (is_reply_with ticket) queue) rest)))
          (or_cases (is_some o.sent) (covers (is_live_ticket t) queue ticket) k)

  pub queued_apart : (undue : List Answer) (rs : List WaitingReply) (n : ℕ) (l : Link) → EachOf IsApart l.queue → IsQueued names t answers undue rs n l → IsQueued names (done_trace t d status) (answers ++ d.arrival.event ∷ []) undue rs n l
  queued_apart undue rs n l apart q = record {
    sent = q.sent;
    noting = q.noting;
    known = each-weaken (IsKnownOut names t answers) (IsKnownOut names (done_trace t d status) (answers ++ d.arrival.event ∷ [])) l.queue known_more q.known;
    covered = covered_apart l.queue apart q.covered;
  }

  -- what is of a command waits on the connection on which that entered
  pub apart_on : (tasks : List Task) (u : Task) → InOrder (λ (x y : Task). x.ticket < y.ticket) tasks → In u tasks → u.ticket ≡ d.ticket → (conn : ℕ) → (u.conn == conn) ≡ false → (queue : List Outgoing) → EachOf (HasHome tasks conn) queue → EachOf IsApart queue
  apart_on tasks u order there of_it conn elsewhere [] homes = tt
  apart_on tasks u order there of_it conn elsewhere (o ∷ queue) homes = (by_ticket o.ticket homes.0, apart_on tasks u order there of_it conn elsewhere queue homes.1)
    where
      by_ticket : (x : Option ℕ) → elim x as (λ (y : Option ℕ). Type 0) [ Some k ↦ list_any (λ (v : Task). v.ticket == k && v.conn == conn) tasks ≡ true | None ↦ Unit {0} ] → elim x as (λ (y : Option ℕ). Type 0) [ Some k ↦ (d.ticket == k) ≡ false | None ↦ Unit {0} ]
      by_ticket None h = tt
      by_ticket (Some k) h = by_test (d.ticket == k) refl
        where
          by_test : (v : Bool) → (d.ticket == k) ≡ v → v ≡ false
          by_test false is = refl
          by_test true is =
              let x : Passing (λ (w : Task). w.ticket == k && w.conn == conn) tasks = any_in (λ (w : Task). w.ticket == k && w.conn == conn) tasks h in
              let parts = and_parts (x.x.ticket == k) (x.x.conn == conn) x.passes in
              let same : x.x ≡ u = one_task tasks x.x u order x.there there (eqb-true x.x.ticket k parts.0 ∙ sym (eqb-true d.ticket k is) ∙ sym of_it) in
              absurd (false≢true (sym elsewhere ∙ ap (λ (w : Task). w.conn == conn) (sym same) ∙ parts.1))
