-- A reply of the session's that goes nowhere: what is kept of requests stands for the log with it.
use Rattle.std.proofs.Common.{◌≡◌, ℕ, ◌+◌, ◌<◌, ◌≤◌, ◌==◌, ◌&&◌, ◌||◌, Bool, false, List, [], ◌∷◌, ◌++◌, length, filter, Option, Some, None, refl, ap, sym, subst, ◌∙◌, arith, length-append}
use Rattle.iscsi_rules.specs.rules.Trace.{Trace, entered}
use Rattle.iscsi_outbox_rules.specs.promises.Scope.{nth}
use Rattle.iscsi_outbox_rules.specs.rules.Boxes.{Answer, Box, Handed, Link, Outgoing}
use Rattle.iscsi_outbox_rules.specs.rules.Run.{new_link}
use Rattle.iscsi_outbox_law.specs.private.Commands.{link_in}
use Rattle.iscsi_outbox_law.specs.private.Pairs.{EachOf, PairsOf}
use Rattle.iscsi_outbox_law.proofs.general.PairLemmas.{each-at, each-weaken, pairs-weaken}
use Rattle.iscsi_outbox_steps.specs.State.{State as OutboxState}
use Rattle.iscsi_outbox_steps.specs.Steps.{is_running_ticket}
use Rattle.iscsi_requests.specs.Conns.{of_conn}
use Rattle.iscsi_requests.specs.declared.replies.WaitingReply.{WaitingReply}
use Rattle.iscsi_ffi_commands.specs.Commands.{is_live}
use Rattle.iscsi_ffi_rules.specs.rules.Needs.{is_about, is_ticket_of, left_to_write}
use Rattle.iscsi_ffi_rules.specs.rules.Sides.{Side}
use Rattle.iscsi_ffi_steps.specs.State.{State}
use Rattle.iscsi_ffi_law.specs.Names.{Name, Note}
use Rattle.iscsi_ffi_law.specs.Parts.{IsAbout, IsAnswered, IsAtEvent, IsBefore, IsCommand, IsConn, IsNote, IsOneUse, IsRequest, IsUndue, is_named, noted_in}
use Rattle.iscsi_ffi_law.specs.Stands.{AreRequests}
use Rattle.iscsi_ffi_law.specs.Uses.{is_place}
use Rattle.iscsi_ffi_law.proofs.completions.DoneQueue.{nth_before, nth_more}
use Rattle.iscsi_ffi_law.proofs.completions.DoneRequests.{each_left, pairs_each}
use Rattle.iscsi_ffi_law.proofs.calls.Moved.{same_homes, uses_run}
use Rattle.iscsi_ffi_law.proofs.own_pdus.NotePlaces.{notes_same}
use Rattle.iscsi_ffi_law.proofs.sending.Queued.{AllQueued, SameOut}
use Rattle.iscsi_ffi_law.proofs.items.ReplyQueues.{queued_more, undue_on}
use Rattle.iscsi_ffi_law.proofs.requests.Replies.{AnswersIt, answers_it}

-- the box behind it
pub record IsUnanswered (names : List Name) (s : State) (r : Side) (event : ℕ) (b : Box) : Type 0 where
  pub all : AllQueued names r.both.trace (r.answers ++ event ∷ []) (λ q. of_conn q s.replies.waiting) (λ q. length (of_conn q s.noted.handed)) b.links b.undue
  pub long : length b.links ≡ length r.both.box.links
  pub same : (q : ℕ) → q < length r.both.box.links → SameOut (link_in r.both.box.links q) (link_in b.links q)
  pub sent : b.sent ≡ r.both.box.sent + 1

before_more : (n m : ℕ) → n ≤ m → (x : Option ℕ) → IsBefore n x → IsBefore m x
before_more n m le None k = tt
before_more n m le (Some x) k = omega (arith, le, k)

-- nothing else waits for it
pub all_unanswered : (names : List Name) (t : Trace) (answers : List ℕ) (event : ℕ) (replies : ℕ → List WaitingReply) (noted : ℕ → ℕ) (links : List Link) (undue : List Answer) → AllQueued names t answers replies noted links undue → AllQueued names t (answers ++ event ∷ []) replies noted links undue
all_unanswered names t answers event replies noted links undue all = record {
  queued = λ q within. queued_more names t answers event undue (replies q) (noted q) (link_in links q) (all.queued q within);
  undue_are = each-weaken (IsUndue names answers) (IsUndue names (answers ++ event ∷ [])) undue (undue_on names t answers event) all.undue_are;
  taken = all.taken;
  apart = all.apart;
}

module _ (names : List Name) (notes : List Note) (pending : ℕ → ℕ) (gone : ℕ → List (Option ℕ)) (s : State) (r : Side) (a : AreRequests names notes pending gone s r) (event : ℕ)
    (handed : EachOf (λ (l : Link). EachOf (λ (h : Handed). IsBefore r.both.box.sent h.out.sent) l.handed) r.both.box.links)
    (o : OutboxState) (b : Box) (runs : (ticket : ℕ) → is_running_ticket ticket o ≡ is_running_ticket ticket s.outbox) (after : IsUnanswered names s r event b) where
  abbrev pub state_unanswered : State
  state_unanswered = record s { outbox = o }

  abbrev pub side_unanswered : Side
  side_unanswered = record r { both = record r.both { box = b }; answers = r.answers ++ event ∷ [] }

  answered_more : (x : WaitingReply) → IsAnswered names r.answers x.log_place x.request → IsAnswered names (r.answers ++ event ∷ []) x.log_place x.request
  answered_more x k =
      let e : AnswersIt names r.answers x.log_place x.request = answers_it names r.answers x.log_place x.request k in
      subst (IsAtEvent names x.request) (sym (nth_more x.log_place r.answers (event ∷ []) e.event e.is)) e.named

  about_same : (e : ℕ) (out : Outgoing) → IsBefore r.both.box.sent out.sent → is_about e side_unanswered out ≡ is_about e r out
  about_same e out before = ap (λ v. v || elim (out.ticket) as (λ (y : Option ℕ). Bool) [ Some k ↦ is_ticket_of e r.both.trace k | None ↦ false ]) (by_sent out.sent before)
    where
      by_sent : (x : Option ℕ) → IsBefore r.both.box.sent x → ◌≡◌ {A = Bool} (elim x [ Some k ↦ elim (nth k (r.answers ++ event ∷ [])) [ Some n ↦ n == e | None ↦ false ] | None ↦ false ]) (elim x [ Some k ↦ elim (nth k r.answers) [ Some n ↦ n == e | None ↦ false ] | None ↦ false ])
      by_sent None k = refl
      by_sent (Some n) k = let many = a.answers in ap (λ (x : Option ℕ). elim x as (λ (y : Option ℕ). Bool) [ Some m ↦ m == e | None ↦ false ]) (nth_before n r.answers (event ∷ []) (omega (arith, k, many)))

  short_of : (q : ℕ) → q < length b.links → q < length r.both.box.links
  short_of q inside = let many = after.long in omega (arith, inside, many)

  pub requests_unanswered : AreRequests names notes pending gone state_unanswered side_unanswered
  requests_unanswered = record {
    asked = a.asked;
    noted = a.noted;
    apart = a.apart;
    kept = a.kept;
    counted = a.counted;
    uses = λ n. (let moved = uses_run n s o runs in omega (arith, moved, a.uses n));
    named = each-weaken (IsRequest s r.both.trace) (IsRequest state_unanswered r.both.trace) names (λ n q. record { held = q.held; waiting = q.waiting }) a.named;
    noted_apart = each-weaken (IsNote s r.both.box.links) (IsNote state_unanswered b.links) notes
        (λ n q. record { held = q.held; waiting = q.waiting; home = same_homes r.both.box.links b.links n.conn after.long (λ q' inside. (after.same q' (short_of q' inside)).conn) q.home }) a.noted_apart;
    tickets = a.tickets;
    commands = pairs-weaken (IsCommand names r) (IsCommand names side_unanswered) s.commands.items (filter (is_named names) (entered r.both.trace))
        (λ c d k. record { ticket = k.ticket; unit = k.unit; attr = k.attr; request = k.request; live = k.live; going = k.going; marked = k.marked; freed = k.freed }) a.commands;
    live_named = a.live_named;
    one_use = each-weaken (IsOneUse s.outbox) (IsOneUse o) s.commands.items (λ c k. ap (λ v. is_live c && v) (runs c.ticket) ∙ k) a.one_use;
    numbered = a.numbered;
    answers = (let all = length-append r.answers (event ∷ []) in let many = a.answers in let more = after.sent in omega (arith, all, many, more));
    once = a.once;
    last = before_more (length r.answers) (length (r.answers ++ event ∷ [])) (let all = length-append r.answers (event ∷ []) in omega (arith, all)) s.replies.last a.last;
    conns = λ q inside.
        let short : q < length r.both.box.links = short_of q inside in
        let c : IsConn names notes (gone q) s r q (link_in r.both.box.links q) = a.conns q short in
        let same : SameOut (link_in r.both.box.links q) (link_in b.links q) = after.same q short in
        record {
          replies = each-weaken (λ (x : WaitingReply). IsAnswered names r.answers x.log_place x.request) (λ (x : WaitingReply). IsAnswered names (r.answers ++ event ∷ []) x.log_place x.request) (of_conn q s.replies.waiting) answered_more c.replies;
          queued = after.all.queued q inside;
          written = subst (λ hs. PairsOf (IsAbout names notes side_unanswered (link_in b.links q).conn) (of_conn q s.unwritten.handed) hs) (sym same.left)
              (subst (λ k. PairsOf (IsAbout names notes side_unanswered k) (of_conn q s.unwritten.handed) (left_to_write (link_in r.both.box.links q))) (sym same.conn)
              (pairs_each (IsAbout names notes r (link_in r.both.box.links q).conn) (IsAbout names notes side_unanswered (link_in r.both.box.links q).conn) (λ (h : Handed). IsBefore r.both.box.sent h.out.sent) (of_conn q s.unwritten.handed) (left_to_write (link_in r.both.box.links q))
              (λ x y before k. record { named = each-weaken (λ (n : Name). is_about n.event r y.out ≡ is_place n.place x) (λ (n : Name). is_about n.event side_unanswered y.out ≡ is_place n.place x) names (λ n e. about_same n.event y.out before ∙ e) k.named; noted = k.noted })
              (each_left (λ (h : Handed). IsBefore r.both.box.sent h.out.sent) (link_in r.both.box.links q) (each-at (λ (l : Link). EachOf (λ (h : Handed). IsBefore r.both.box.sent h.out.sent) l.handed) r.both.box.links q (new_link 0) short handed)) c.written));
          noted = notes_same notes (gone q) (link_in r.both.box.links q).conn (link_in b.links q).conn (of_conn q s.noted.handed) (of_conn q s.noted.handed) (noted_in (of_conn q s.unwritten.handed) (left_to_write (link_in r.both.box.links q)))
              (noted_in (of_conn q s.unwritten.handed) (left_to_write (link_in b.links q))) same.conn refl (ap (noted_in (of_conn q s.unwritten.handed)) same.left) c.noted;
        };
    undue = after.all.undue_are;
  }
