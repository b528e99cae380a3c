-- A call that changes the outbox, and what waits or isn't written.
use Rattle.std.proofs.Common.{◌≡◌, ℕ, ◌+◌, ◌<◌, ◌≤◌, List, length, filter, Option, ap, sym, subst, ◌∙◌}
use Rattle.iscsi_rules.specs.rules.Trace.{entered}
use Rattle.iscsi_outbox_rules.specs.rules.Boxes.{Box, Link}
use Rattle.iscsi_outbox_law.specs.private.Commands.{link_in}
use Rattle.iscsi_outbox_law.specs.private.Pairs.{EachOf, PairsOf}
use Rattle.iscsi_outbox_law.proofs.general.PairLemmas.{each-weaken, pairs-weaken}
use Rattle.iscsi_outbox_steps.specs.State.{State as OutboxState}
use Rattle.iscsi_requests.specs.Conns.{of_conn}
use Rattle.iscsi_requests.specs.Cookies.{Cookies, uses_at}
use Rattle.iscsi_requests.specs.Replies.{WaitingReplies, has_log_place}
use Rattle.iscsi_requests.specs.Unwritten.{Unwritten}
use Rattle.iscsi_requests.specs.declared.replies.WaitingReply.{WaitingReply}
use Rattle.iscsi_ffi_rules.specs.rules.Needs.{left_to_write}
use Rattle.iscsi_ffi_rules.specs.rules.Sides.{Side}
use Rattle.iscsi_ffi_steps.specs.State.{State}
use Rattle.iscsi_ffi_law.specs.Names.{Name, Note}
use Rattle.iscsi_ffi_law.specs.Parts.{AreCounted, AreKept, IsAbout, IsAnswered, IsBefore, IsCommand, IsConn, IsNote, IsOneUse, IsQueued, IsRequest, IsUndue, is_named, noted_in}
use Rattle.iscsi_ffi_law.specs.Stands.{AreRequests}
use Rattle.iscsi_ffi_law.specs.Uses.{count_lists, uses_of}
use Rattle.iscsi_ffi_law.proofs.calls.Moved.{same_homes, with_box}
use Rattle.iscsi_ffi_law.proofs.own_pdus.NotePlaces.{notes_same}

-- the state with other parts
abbrev pub changed_to : State → OutboxState → Cookies → WaitingReplies → Unwritten → Unwritten → State
changed_to s o v replies noted unwritten = record s { outbox = o; cookies = v; replies = replies; noted = noted; unwritten = unwritten }

-- what has to hold of these
pub record IsChanged (names : List Name) (notes : List Note) (pending : ℕ → ℕ) (gone : ℕ → List (Option ℕ)) (s : State) (r : Side) (o : OutboxState) (v : Cookies) (replies : WaitingReplies) (noted unwritten : Unwritten) (b : Box) : Type 0 where
  pub kept : AreKept names notes v
  pub counted : AreCounted v
  pub uses : (place : ℕ) → uses_at place v ≡ uses_of place (changed_to s o v replies noted unwritten) + pending place
  pub once : (log_place : ℕ) → count_lists (has_log_place log_place) replies.waiting ≤ 1
  pub last : IsBefore (length r.answers) replies.last
  pub one_use : EachOf (IsOneUse o) s.commands.items
  pub sent : b.sent ≡ r.both.box.sent
  pub long : length b.links ≡ length r.both.box.links
  pub conn : (p : ℕ) → p < length b.links → (link_in b.links p).conn ≡ (link_in r.both.box.links p).conn
  pub conns : (p : ℕ) → p < length b.links → IsConn names notes (gone p) (changed_to s o v replies noted unwritten) (with_box r b) p (link_in b.links p)
  pub undue : EachOf (IsUndue names r.answers) b.undue

pub requests_changed : (names : List Name) (notes : List Note) (pending pending' : ℕ → ℕ) (gone gone' : ℕ → List (Option ℕ)) (s : State) (r : Side) → AreRequests names notes pending gone s r
    → (o : OutboxState) (v : Cookies) (replies : WaitingReplies) (noted unwritten : Unwritten) (b : Box) → IsChanged names notes pending' gone' s r o v replies noted unwritten b
    → AreRequests names notes pending' gone' (changed_to s o v replies noted unwritten) (with_box r b)
requests_changed names notes pending pending' gone gone' s r a o v replies noted unwritten b c =
    let s' : State = changed_to s o v replies noted unwritten in
    record {
      asked = a.asked;
      noted = a.noted;
      apart = a.apart;
      kept = c.kept;
      counted = c.counted;
      uses = c.uses;
      named = each-weaken (IsRequest s r.both.trace) (IsRequest (changed_to s o v replies noted unwritten) r.both.trace) names (λ n q. record { held = q.held; waiting = q.waiting }) a.named;
      noted_apart = each-weaken (IsNote s r.both.box.links) (IsNote (changed_to s o v replies noted unwritten) b.links) notes (λ n q. record { held = q.held; waiting = q.waiting; home = same_homes r.both.box.links b.links n.conn c.long c.conn q.home }) a.noted_apart;
      tickets = a.tickets;
      commands = pairs-weaken (IsCommand names r) (IsCommand names (with_box r b)) s.commands.items (filter (is_named names) (entered r.both.trace))
          (λ x d k. record { ticket = k.ticket; unit = k.unit; attr = k.attr; request = k.request; live = k.live; going = k.going; marked = k.marked; freed = k.freed }) a.commands;
      live_named = a.live_named;
      one_use = c.one_use;
      numbered = a.numbered;
      answers = a.answers ∙ sym c.sent;
      once = c.once;
      last = c.last;
      conns = c.conns;
      undue = c.undue;
    }

-- a connection on which the same waits, and isn't written
pub conn_kept : (names : List Name) (notes : List Note) (gone : List (Option ℕ)) (s s' : State) (r : Side) (b : Box) (p : ℕ) (l l' : Link) → IsConn names notes gone s r p l → of_conn p s'.replies.waiting ≡ of_conn p s.replies.waiting
    → of_conn p s'.noted.handed ≡ of_conn p s.noted.handed → of_conn p s'.unwritten.handed ≡ of_conn p s.unwritten.handed → l'.conn ≡ l.conn → left_to_write l' ≡ left_to_write l
    → IsQueued names r.both.trace r.answers b.undue (of_conn p s'.replies.waiting) (length (of_conn p s'.noted.handed)) l' → IsConn names notes gone s' (with_box r b) p l'
conn_kept names notes gone s s' r b p l l' c replies noted unwritten conn left queued = record {
  replies = subst (λ xs. EachOf (λ (x : WaitingReply). IsAnswered names r.answers x.log_place x.request) xs) (sym replies) c.replies;
  queued = queued;
  written = subst (λ hs. PairsOf (IsAbout names notes (with_box r b) l'.conn) (of_conn p s'.unwritten.handed) hs) (sym left)
      (subst (λ xs. PairsOf (IsAbout names notes (with_box r b) l'.conn) xs (left_to_write l)) (sym unwritten)
      (subst (λ k. PairsOf (IsAbout names notes (with_box r b) k) (of_conn p s.unwritten.handed) (left_to_write l)) (sym conn)
      (pairs-weaken (IsAbout names notes r l.conn) (IsAbout names notes (with_box r b) l.conn) (of_conn p s.unwritten.handed) (left_to_write l) (λ x y k. record { named = k.named; noted = k.noted }) c.written)));
  noted = notes_same notes gone l.conn l'.conn (of_conn p s.noted.handed) (of_conn p s'.noted.handed) (noted_in (of_conn p s.unwritten.handed) (left_to_write l)) (noted_in (of_conn p s'.unwritten.handed) (left_to_write l')) conn noted
      (ap (λ xs. noted_in xs (left_to_write l')) unwritten ∙ ap (noted_in (of_conn p s.unwritten.handed)) left) c.noted;
}
