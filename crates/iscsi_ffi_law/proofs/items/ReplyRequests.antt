-- A reply of the session's more: what is kept of requests stands for it, where its request has one use that isn't any yet.
use Rattle.std.proofs.Common.{◌≡◌, ℕ, ◌+◌, ◌<◌, ◌≤◌, ◌==◌, ◌&&◌, ◌||◌, ⊎_elim, cond, Bool, true, false, List, [], ◌∷◌, ◌++◌, length, count_by, filter, Option, Some, None, refl, ap, sym, subst, ◌∙◌, arith, length-append}
use Rattle.std.proofs.lemmas.Bool.{cases_eq, cases_lt, eqb-true}
use Rattle.std.proofs.lemmas.List.{get_or-set_same, get_or-set_other}
use Rattle.std.proofs.lemmas.List.Sums.{sum_by-append}
use Rattle.iscsi_rules.specs.rules.Trace.{entered}
use Rattle.iscsi_rules.proofs.general.CountLemmas.{one, count-cons}
use Rattle.iscsi_outbox_rules.specs.promises.Scope.{nth}
use Rattle.iscsi_outbox_rules.specs.rules.Boxes.{Box, Handed, Link, Outgoing}
use Rattle.iscsi_outbox_rules.specs.rules.Run.{new_link}
use Rattle.iscsi_outbox_law.specs.private.Commands.{link_in}
use Rattle.iscsi_outbox_law.specs.private.Pairs.{EachOf, PairsOf}
use Rattle.iscsi_outbox_law.proofs.general.PairLemmas.{each-append, each-at, each-weaken, pairs-weaken}
use Rattle.iscsi_outbox_steps.specs.State.{State as OutboxState}
use Rattle.iscsi_outbox_steps.specs.Steps.{is_running_ticket}
use Rattle.iscsi_requests.specs.Conns.{of_conn}
use Rattle.iscsi_requests.specs.Replies.{WaitingReplies, has_log_place, pushed}
use Rattle.iscsi_requests.specs.declared.replies.WaitingReply.{WaitingReply}
use Rattle.iscsi_ffi_commands.specs.Commands.{is_live}
use Rattle.iscsi_ffi_rules.specs.rules.Needs.{is_about, is_ticket_of, left_to_write}
use Rattle.iscsi_ffi_rules.specs.rules.Sides.{Side}
use Rattle.iscsi_ffi_steps.specs.State.{State}
use Rattle.iscsi_ffi_law.specs.Names.{Name, Note, place_named}
use Rattle.iscsi_ffi_law.specs.Parts.{IsAbout, IsAnswered, IsAtEvent, IsBefore, IsCommand, IsConn, IsNote, IsOneUse, IsRequest, is_named, noted_in}
use Rattle.iscsi_ffi_law.specs.Stands.{AreRequests}
use Rattle.iscsi_ffi_law.specs.Uses.{count_lists, is_place}
use Rattle.iscsi_ffi_law.proofs.completions.DoneQueue.{nth_before, nth_last, nth_more}
use Rattle.iscsi_ffi_law.proofs.completions.DoneRequests.{each_left, pairs_each}
use Rattle.iscsi_ffi_law.proofs.general.Lists.{lists_set}
use Rattle.iscsi_ffi_law.proofs.general.Members.{CountedAt, Passing, counted_in, each_in, lists_counted}
use Rattle.iscsi_ffi_law.proofs.calls.Moved.{same_homes, uses_run}
use Rattle.iscsi_ffi_law.proofs.sending.Next.{nth_within}
use Rattle.iscsi_ffi_law.proofs.own_pdus.NotePlaces.{notes_same}
use Rattle.iscsi_ffi_law.proofs.sending.Queued.{AllQueued, SameOut}
use Rattle.iscsi_ffi_law.proofs.requests.Replies.{AnswersIt, answers_it}

-- the box behind it
pub record IsReplied (names : List Name) (s : State) (r : Side) (event p place : ℕ) (b : Box) : Type 0 where
  pub all : AllQueued names r.both.trace (r.answers ++ event ∷ []) (λ q. of_conn q (pushed p (record { log_place = r.both.box.sent; request = place }) s.replies).waiting) (λ q. length (of_conn q s.noted.handed)) b.links b.undue
  pub long : length b.links ≡ length r.both.box.links
  pub same : (q : ℕ) → q < length r.both.box.links → SameOut (link_in r.both.box.links q) (link_in b.links q)
  pub sent : b.sent ≡ r.both.box.sent + 1

module _ (names : List Name) (notes : List Note) (pending pending' : ℕ → ℕ) (gone : ℕ → List (Option ℕ)) (s : State) (r : Side) (a : AreRequests names notes pending gone s r) (event p place : ℕ) (less : (n : ℕ) → pending n ≡ pending' n + one (place == n))
    (within : p < length r.both.box.links) (long : length s.replies.waiting ≡ length r.both.box.links) (named_it : place_named names event ≡ Some place)
    (handed : EachOf (λ (l : Link). EachOf (λ (h : Handed). IsBefore r.both.box.sent h.out.sent) l.handed) r.both.box.links)
    (o : OutboxState) (b : Box) (runs : (ticket : ℕ) → is_running_ticket ticket o ≡ is_running_ticket ticket s.outbox) (after : IsReplied names s r event p place b) where
  abbrev pub waiting : WaitingReply
  waiting = record { log_place = r.both.box.sent; request = place }

  abbrev pub replies_then : WaitingReplies
  replies_then = pushed p (record { log_place = r.both.box.sent; request = place }) s.replies

  abbrev pub state_replied : State
  state_replied = record s { outbox = o; replies = pushed p (record { log_place = r.both.box.sent; request = place }) s.replies }

  abbrev pub side_replied : Side
  side_replied = record r { both = record r.both { box = b }; answers = r.answers ++ event ∷ [] }

  within_replies : p < length s.replies.waiting
  within_replies = omega (arith, within, long)

  replies_here : of_conn p replies_then.waiting ≡ of_conn p s.replies.waiting ++ waiting ∷ []
  replies_here = get_or-set_same s.replies.waiting p (of_conn p s.replies.waiting ++ waiting ∷ []) [] (omega (arith, within_replies))

  replies_others : (q : ℕ) → (q ≡ p → ⊥) → of_conn q replies_then.waiting ≡ of_conn q s.replies.waiting
  replies_others q other = get_or-set_other s.replies.waiting p q (of_conn p s.replies.waiting ++ waiting ∷ []) [] other

  last_answered : nth r.both.box.sent (r.answers ++ event ∷ []) ≡ Some event
  last_answered = ap (λ k. nth k (r.answers ++ event ∷ [])) (sym a.answers) ∙ nth_last r.answers event

  none_yet : count_lists (has_log_place r.both.box.sent) s.replies.waiting ≡ 0
  none_yet =
      ⊎_elim
      (λ some. absurd (
      let at : CountedAt (has_log_place r.both.box.sent) s.replies.waiting = lists_counted (has_log_place r.both.box.sent) s.replies.waiting (omega (arith, some)) in
      let short : at.place < length r.both.box.links = (let w = at.within in omega (arith, w, long)) in
      let x : Passing (has_log_place r.both.box.sent) (of_conn at.place s.replies.waiting) = counted_in (has_log_place r.both.box.sent) (of_conn at.place s.replies.waiting) at.some in
      let e : AnswersIt names r.answers x.x.log_place x.x.request
      = answers_it names r.answers x.x.log_place x.x.request (each_in (λ (y : WaitingReply). IsAnswered names r.answers y.log_place y.request) (of_conn at.place s.replies.waiting) x.x x.there (a.conns at.place short).replies) in
      let below : x.x.log_place < length r.answers = nth_within x.x.log_place r.answers e.event e.is in
      let same : x.x.log_place ≡ r.both.box.sent = eqb-true x.x.log_place r.both.box.sent x.passes in
      let many = a.answers in
      let none : ⊥ = omega (arith, below, same, many) in none))
      (λ none. omega (arith, none))
      (cases_lt 0 (count_lists (has_log_place r.both.box.sent) s.replies.waiting))

  once_now : (k : ℕ) → count_lists (has_log_place k) replies_then.waiting ≤ 1
  once_now k =
      let set_there = lists_set (has_log_place k) s.replies.waiting p (of_conn p s.replies.waiting ++ waiting ∷ []) within_replies in
      let all = sum_by-append (λ (x : WaitingReply). cond (has_log_place k x) 1 0) (of_conn p s.replies.waiting) (waiting ∷ []) in
      by_place (r.both.box.sent == k) refl set_there all
    where
      by_place : (v : Bool) → (r.both.box.sent == k) ≡ v
          → count_lists (has_log_place k) replies_then.waiting + count_by (has_log_place k) (of_conn p s.replies.waiting) ≡ count_lists (has_log_place k) s.replies.waiting + count_by (has_log_place k) (of_conn p s.replies.waiting ++ waiting ∷ [])
          → count_by (has_log_place k) (of_conn p s.replies.waiting ++ waiting ∷ []) ≡ count_by (has_log_place k) (of_conn p s.replies.waiting) + count_by (has_log_place k) (waiting ∷ [])
          → count_lists (has_log_place k) replies_then.waiting ≤ 1
      by_place true is set_there all =
          let here : one (r.both.box.sent == k) ≡ 1 = ap one is in
          let none : count_lists (has_log_place k) s.replies.waiting ≡ 0 = subst (λ n. count_lists (has_log_place n) s.replies.waiting ≡ 0) (eqb-true r.both.box.sent k is) none_yet in
          omega (arith, here, none, set_there, all, count-cons (has_log_place k) waiting [])
      by_place false is set_there all =
          let here : one (r.both.box.sent == k) ≡ 0 = ap one is in
          omega (arith, here, a.once k, set_there, all, count-cons (has_log_place k) waiting [])

  answered_more : (x : WaitingReply) → IsAnswered names r.answers x.log_place x.request → IsAnswered names (r.answers ++ event ∷ []) x.log_place x.request
  answered_more x k =
      let e : AnswersIt names r.answers x.log_place x.request = answers_it names r.answers x.log_place x.request k in
      subst (IsAtEvent names x.request) (sym (nth_more x.log_place r.answers (event ∷ []) e.event e.is)) e.named

  answered_on : (q : ℕ) → q < length r.both.box.links → EachOf (λ (x : WaitingReply). IsAnswered names (r.answers ++ event ∷ []) x.log_place x.request) (of_conn q replies_then.waiting)
  answered_on q short = ⊎_elim
      (λ (same : q ≡ p). subst (EachOf (λ (x : WaitingReply). IsAnswered names (r.answers ++ event ∷ []) x.log_place x.request)) (sym (ap (λ k. of_conn k replies_then.waiting) same ∙ replies_here))
      (each-append (λ (x : WaitingReply). IsAnswered names (r.answers ++ event ∷ []) x.log_place x.request) (of_conn p s.replies.waiting) (waiting ∷ []) (old p within) (subst (IsAtEvent names place) (sym last_answered) named_it, tt)))
      (λ (other : q ≡ p → ⊥). subst (EachOf (λ (x : WaitingReply). IsAnswered names (r.answers ++ event ∷ []) x.log_place x.request)) (sym (replies_others q other)) (old q short))
      (cases_eq q p)
    where
      old : (k : ℕ) → k < length r.both.box.links → EachOf (λ (x : WaitingReply). IsAnswered names (r.answers ++ event ∷ []) x.log_place x.request) (of_conn k s.replies.waiting)
      old k lt = each-weaken (λ (x : WaitingReply). IsAnswered names r.answers x.log_place x.request) (λ (x : WaitingReply). IsAnswered names (r.answers ++ event ∷ []) x.log_place x.request) (of_conn k s.replies.waiting) answered_more (a.conns k lt).replies

  about_same : (e : ℕ) (out : Outgoing) → IsBefore r.both.box.sent out.sent → is_about e side_replied out ≡ is_about e r out
  about_same e out before = ap (λ v. v || elim (out.ticket) as (λ (y : Option ℕ). Bool) [ Some k ↦ is_ticket_of e r.both.trace k | None ↦ false ]) (by_sent out.sent before)
    where
      by_sent : (x : Option ℕ) → IsBefore r.both.box.sent x → ◌≡◌ {A = Bool} (elim x [ Some k ↦ elim (nth k (r.answers ++ event ∷ [])) [ Some n ↦ n == e | None ↦ false ] | None ↦ false ]) (elim x [ Some k ↦ elim (nth k r.answers) [ Some n ↦ n == e | None ↦ false ] | None ↦ false ])
      by_sent None k = refl
      by_sent (Some n) k = let many = a.answers in ap (λ (x : Option ℕ). elim x as (λ (y : Option ℕ). Bool) [ Some m ↦ m == e | None ↦ false ]) (nth_before n r.answers (event ∷ []) (omega (arith, k, many)))

  short_of : (q : ℕ) → q < length b.links → q < length r.both.box.links
  short_of q inside = let many = after.long in omega (arith, inside, many)

  pub requests_replied : AreRequests names notes pending' gone state_replied side_replied
  requests_replied = record {
    asked = a.asked;
    noted = a.noted;
    apart = a.apart;
    kept = a.kept;
    counted = a.counted;
    uses = λ n.
        let set_there = lists_set (λ (x : WaitingReply). x.request == n) s.replies.waiting p (of_conn p s.replies.waiting ++ waiting ∷ []) within_replies in
        let all = sum_by-append (λ (x : WaitingReply). cond (x.request == n) 1 0) (of_conn p s.replies.waiting) (waiting ∷ []) in
        let moved = uses_run n s o runs in
        omega (arith, set_there, all, count-cons (λ (x : WaitingReply). x.request == n) waiting [], moved, less n, a.uses n);
    named = each-weaken (IsRequest s r.both.trace) (IsRequest state_replied r.both.trace) names (λ n q. record { held = q.held; waiting = q.waiting }) a.named;
    noted_apart = each-weaken (IsNote s r.both.box.links) (IsNote state_replied b.links) notes
        (λ n q. record { held = q.held; waiting = q.waiting; home = same_homes r.both.box.links b.links n.conn after.long (λ q' inside. (after.same q' (short_of q' inside)).conn) q.home }) a.noted_apart;
    tickets = a.tickets;
    commands = pairs-weaken (IsCommand names r) (IsCommand names side_replied) s.commands.items (filter (is_named names) (entered r.both.trace))
        (λ c d k. record { ticket = k.ticket; unit = k.unit; attr = k.attr; request = k.request; live = k.live; going = k.going; marked = k.marked; freed = k.freed }) a.commands;
    live_named = a.live_named;
    one_use = each-weaken (IsOneUse s.outbox) (IsOneUse o) s.commands.items (λ c k. ap (λ v. is_live c && v) (runs c.ticket) ∙ k) a.one_use;
    numbered = a.numbered;
    answers = (let all = length-append r.answers (event ∷ []) in let many = a.answers in let more = after.sent in omega (arith, all, many, more));
    once = once_now;
    last = (let all = length-append r.answers (event ∷ []) in let many = a.answers in omega (arith, all, many));
    conns = λ q inside.
        let short : q < length r.both.box.links = short_of q inside in
        let c : IsConn names notes (gone q) s r q (link_in r.both.box.links q) = a.conns q short in
        let same : SameOut (link_in r.both.box.links q) (link_in b.links q) = after.same q short in
        record {
          replies = answered_on q short;
          queued = after.all.queued q inside;
          written = subst (λ hs. PairsOf (IsAbout names notes side_replied (link_in b.links q).conn) (of_conn q s.unwritten.handed) hs) (sym same.left)
              (subst (λ k. PairsOf (IsAbout names notes side_replied k) (of_conn q s.unwritten.handed) (left_to_write (link_in r.both.box.links q))) (sym same.conn)
              (pairs_each (IsAbout names notes r (link_in r.both.box.links q).conn) (IsAbout names notes side_replied (link_in r.both.box.links q).conn) (λ (h : Handed). IsBefore r.both.box.sent h.out.sent) (of_conn q s.unwritten.handed) (left_to_write (link_in r.both.box.links q))
              (λ x y before k. record { named = each-weaken (λ (n : Name). is_about n.event r y.out ≡ is_place n.place x) (λ (n : Name). is_about n.event side_replied y.out ≡ is_place n.place x) names (λ n e. about_same n.event y.out before ∙ e) k.named; noted = k.noted })
              (each_left (λ (h : Handed). IsBefore r.both.box.sent h.out.sent) (link_in r.both.box.links q) (each-at (λ (l : Link). EachOf (λ (h : Handed). IsBefore r.both.box.sent h.out.sent) l.handed) r.both.box.links q (new_link 0) short handed)) c.written));
          noted = notes_same notes (gone q) (link_in r.both.box.links q).conn (link_in b.links q).conn (of_conn q s.noted.handed) (of_conn q s.noted.handed) (noted_in (of_conn q s.unwritten.handed) (left_to_write (link_in r.both.box.links q)))
              (noted_in (of_conn q s.unwritten.handed) (left_to_write (link_in b.links q))) same.conn refl (ap (noted_in (of_conn q s.unwritten.handed)) same.left) c.noted;
        };
    undue = after.all.undue_are;
  }
