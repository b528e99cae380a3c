-- A call that changes the outbox alone, and nothing of what isn't written.
use Rattle.std.proofs.Common.{◌≡◌, ℕ, ◌<◌, ◌≤◌, ◌==◌, ◌&&◌, ◌||◌, true, List, length, count_by, filter, Option, refl, ap, sym, subst, ◌∙◌, arith}
use Rattle.std.specs.List.{list_any}
use Rattle.std.proofs.lemmas.Bool.{eq-eqb, eqb-true}
use Rattle.iscsi_rules.specs.rules.Trace.{entered}
use Rattle.iscsi_rules.specs.rules.Settings.{are_distinct}
use Rattle.iscsi_rules.proofs.general.BoolLemmas.{and_first}
use Rattle.iscsi_rules.proofs.general.ElementLemmas.{In}
use Rattle.iscsi_outbox_rules.specs.rules.Boxes.{Answer, Box, Link}
use Rattle.iscsi_outbox_rules.specs.rules.Run.{new_link}
use Rattle.iscsi_outbox_rules.specs.rules.Words.{is_running}
use Rattle.iscsi_outbox_law.specs.private.Commands.{is_under_way, link_in}
use Rattle.iscsi_outbox_law.specs.private.Pairs.{EachOf, PairsOf}
use Rattle.iscsi_outbox_law.specs.private.Sound.{IsAnswerSound, IsSound}
use Rattle.iscsi_outbox_law.specs.private.Stands.{Stands as OutboxStands}
use Rattle.iscsi_outbox_law.proofs.general.PairLemmas.{each-weaken, pairs-weaken}
use Rattle.iscsi_outbox_law.proofs.connections.Standing.{links_apart}
use Rattle.iscsi_outbox_law.proofs.commands.Stops.{stops_answered}
use Rattle.iscsi_outbox_steps.specs.State.{State as OutboxState}
use Rattle.iscsi_outbox_steps.specs.Steps.{is_running_ticket}
use Rattle.iscsi_requests.specs.Conns.{of_conn}
use Rattle.iscsi_requests.specs.Cookies as cookies
use Rattle.iscsi_requests.specs.Cookies.{uses_at}
use Rattle.iscsi_ffi_commands.specs.declared.command.Command.{Command}
use Rattle.iscsi_ffi_commands.specs.Commands.{is_live}
use Rattle.iscsi_ffi_rules.specs.rules.Calls.{Interface}
use Rattle.iscsi_ffi_rules.specs.rules.Needs.{left_to_write}
use Rattle.iscsi_ffi_rules.specs.rules.Sides.{Side}
use Rattle.iscsi_ffi_steps.specs.State.{State}
use Rattle.iscsi_ffi_law.specs.Names.{Name, Note}
use Rattle.iscsi_ffi_law.specs.Parts.{IsAbout, IsCommand, IsConn, IsNote, IsQueued, IsRequest, IsUndue, is_named, noted_in, IsOneUse}
use Rattle.iscsi_ffi_law.specs.Stands.{AreRequests}
use Rattle.iscsi_ffi_law.specs.Uses.{count_commands, is_used, uses_of}
use Rattle.iscsi_ffi_law.proofs.requests.Cookies.{there_used}
use Rattle.iscsi_ffi_law.proofs.requests.Kept.{count_members}
use Rattle.iscsi_ffi_law.proofs.general.Members.{Paired, Passing, counted_in, in_counted, pairs_in, at_any, any_at, PassingAt}
use Rattle.iscsi_ffi_law.proofs.requests.NameLemmas.{Named, found_named}
use Rattle.iscsi_ffi_law.proofs.own_pdus.NotePlaces.{notes_same}
use Rattle.iscsi_ffi_law.proofs.sending.Queued.{AllQueued, is_taking}

-- the side with another box
abbrev pub with_box : Side → Box → Side
with_box r b = record r { both = record r.both { box = b } }

abbrev pub with_outbox : State → OutboxState → State
with_outbox s o = record s { outbox = o }

-- so many uses of commands, where as many run
pub uses_run : (place : ℕ) (s : State) (o : OutboxState) → ((ticket : ℕ) → is_running_ticket ticket o ≡ is_running_ticket ticket s.outbox) → uses_of place (with_outbox s o) ≡ uses_of place s
uses_run place s o same =
    let e : count_commands place (with_outbox s o) ≡ count_commands place s
    = count_members (λ (c : Command). c.request == place && is_used o c) (λ (c : Command). c.request == place && is_used s.outbox c) s.commands.items (λ c there. ap (λ v. c.request == place && (is_live c || v)) (same c.ticket)) in
    omega (arith, e)

-- each command's request is kept
pub commands_known : (names : List Name) (notes : List Note) (pending : ℕ → ℕ) (gone : ℕ → List (Option ℕ)) (s : State) (r : Side) → AreRequests names notes pending gone s r → (x : Command) → In x s.commands.items → 1 ≤ uses_at x.request s.cookies
commands_known names notes pending gone s r a x there =
    let d : Paired (IsCommand names r) x (filter (is_named names) (entered r.both.trace)) = pairs_in (IsCommand names r) s.commands.items (filter (is_named names) (entered r.both.trace)) x there a.commands in
    let f : Named names d.y.arrival.event x.request = found_named names d.y.arrival.event x.request d.pair.request in
    subst (λ p. 1 ≤ uses_at p s.cookies) f.place_is (named_known f.name f.there)
  where
    named_known : (n : Name) → In n names → 1 ≤ uses_at n.place s.cookies
    named_known n in_names =
        let some : 1 ≤ count_by (λ (m : Name). m.place == n.place && m.cookie == n.cookie) names
        = in_counted (λ (m : Name). m.place == n.place && m.cookie == n.cookie) names n in_names (ap (λ v. v && n.cookie == n.cookie) (eq-eqb n.place n.place refl) ∙ eq-eqb n.cookie n.cookie refl) in
        let kept : 1 ≤ count_by (λ (q : cookies.Request). q.place == n.place && q.cookie == n.cookie) s.cookies.requests = omega (arith, some, a.kept n.place n.cookie) in
        let q : Passing (λ (y : cookies.Request). y.place == n.place && y.cookie == n.cookie) s.cookies.requests = counted_in (λ (y : cookies.Request). y.place == n.place && y.cookie == n.cookie) s.cookies.requests kept in
        subst (λ p. 1 ≤ uses_at p s.cookies) (eqb-true q.x.place n.place (and_first (q.x.place == n.place) (q.x.cookie == n.cookie) q.passes)) (there_used s.cookies a.counted q.x q.there)

-- ---- the connections

-- what waits is the same, and what isn't written
pub record IsMoved (names : List Name) (s : State) (r : Side) (b : Box) : Type 0 where
  pub long : length b.links ≡ length r.both.box.links
  pub sent : b.sent ≡ r.both.box.sent
  pub queued : (p : ℕ) → p < length b.links → IsQueued names r.both.trace r.answers b.undue (of_conn p s.replies.waiting) (length (of_conn p s.noted.handed)) (link_in b.links p)
  pub undue : EachOf (IsUndue names r.answers) b.undue
  pub conn : (p : ℕ) → p < length b.links → (link_in b.links p).conn ≡ (link_in r.both.box.links p).conn
  pub left : (p : ℕ) → p < length b.links → left_to_write (link_in b.links p) ≡ left_to_write (link_in r.both.box.links p)

-- a connection is the one with its CID
pub same_homes : (links links' : List Link) (conn : ℕ) → length links' ≡ length links → ((p : ℕ) → p < length links' → (link_in links' p).conn ≡ (link_in links p).conn) → list_any (λ (l : Link). l.conn == conn) links ≡ true → list_any (λ (l : Link). l.conn == conn) links' ≡ true
same_homes links links' conn long same h =
    let at : PassingAt (λ (l : Link). l.conn == conn) links (new_link 0) = any_at (λ (l : Link). l.conn == conn) links (new_link 0) h in
    let within : at.place < length links' = omega (arith, at.within, long) in
    at_any (λ (l : Link). l.conn == conn) links' at.place (new_link 0) within (ap (λ c. c == conn) (same at.place within) ∙ at.passes)

module _ (names : List Name) (notes : List Note) (pending : ℕ → ℕ) (gone : ℕ → List (Option ℕ)) (s : State) (r : Side) (a : AreRequests names notes pending gone s r) (o : OutboxState) (b : Box)
    (runs : (ticket : ℕ) → is_running_ticket ticket o ≡ is_running_ticket ticket s.outbox) (m : IsMoved names s r b) where
  pub requests_moved : AreRequests names notes pending gone (with_outbox s o) (with_box r b)
  requests_moved = record {
    asked = a.asked;
    noted = a.noted;
    apart = a.apart;
    kept = a.kept;
    counted = a.counted;
    uses = λ place. let e = uses_run place s o runs in omega (arith, e, a.uses place);
    named = each-weaken (IsRequest s r.both.trace) (IsRequest (with_outbox s o) r.both.trace) names (λ n q. record { held = q.held; waiting = q.waiting }) a.named;
    noted_apart = each-weaken (IsNote s r.both.box.links) (IsNote (with_outbox s o) b.links) notes (λ n q. record { held = q.held; waiting = q.waiting; home = same_homes r.both.box.links b.links n.conn m.long m.conn q.home }) a.noted_apart;
    tickets = a.tickets;
    commands = pairs-weaken (IsCommand names r) (IsCommand names (with_box r b)) s.commands.items (filter (is_named names) (entered r.both.trace))
        (λ c d k. record { ticket = k.ticket; unit = k.unit; attr = k.attr; request = k.request; live = k.live; going = k.going; marked = k.marked; freed = k.freed }) a.commands;
    live_named = a.live_named;
    one_use = each-weaken (IsOneUse s.outbox) (IsOneUse o) s.commands.items (λ c k. ap (λ v. is_live c && v) (runs c.ticket) ∙ k) a.one_use;
    numbered = a.numbered;
    answers = a.answers ∙ sym m.sent;
    once = a.once;
    last = a.last;
    conns = λ p within.
        let c : IsConn names notes (gone p) s r p (link_in r.both.box.links p) = a.conns p (omega (arith, within, m.long)) in
        record {
          replies = c.replies;
          queued = m.queued p within;
          written = subst (λ hs. PairsOf (IsAbout names notes (with_box r b) (link_in b.links p).conn) (of_conn p s.unwritten.handed) hs) (sym (m.left p within))
              (subst (λ k. PairsOf (IsAbout names notes (with_box r b) k) (of_conn p s.unwritten.handed) (left_to_write (link_in r.both.box.links p))) (sym (m.conn p within))
              (pairs-weaken (IsAbout names notes r (link_in r.both.box.links p).conn) (IsAbout names notes (with_box r b) (link_in r.both.box.links p).conn) (of_conn p s.unwritten.handed) (left_to_write (link_in r.both.box.links p))
              (λ x y k. record { named = k.named; noted = k.noted }) c.written));
          noted = notes_same notes (gone p) (link_in r.both.box.links p).conn (link_in b.links p).conn (of_conn p s.noted.handed) (of_conn p s.noted.handed) (noted_in (of_conn p s.unwritten.handed) (left_to_write (link_in r.both.box.links p)))
              (noted_in (of_conn p s.unwritten.handed) (left_to_write (link_in b.links p))) (m.conn p within) refl (ap (noted_in (of_conn p s.unwritten.handed)) (m.left p within)) c.noted;
        };
    undue = m.undue;
  }

-- as an outbox has it
pub all_queued : (i : Interface) (names : List Name) (notes : List Note) (pending : ℕ → ℕ) (gone : ℕ → List (Option ℕ)) (s : State) (r : Side) → AreRequests names notes pending gone s r → OutboxStands i.outbox s.outbox r.both.box → are_distinct i.outbox.session.conns ≡ true
    → IsSound i.outbox r.both.box → AllQueued names r.both.trace r.answers (λ p. of_conn p s.replies.waiting) (λ p. length (of_conn p s.noted.handed)) r.both.box.links r.both.box.undue
all_queued i names notes pending gone s r a h distinct sound = record {
  queued = λ p within. (a.conns p within).queued;
  undue_are = a.undue;
  taken = each-weaken (IsAnswerSound r.both.box) (λ (x : Answer). list_any (is_taking x.conn) r.both.box.links ≡ true) r.both.box.undue (λ x k. k.taken) sound.undue;
  apart = links_apart (is_under_way i.outbox r.both.box.links) i.outbox s.outbox r.both.box h distinct;
}

-- the same commands run, where they do by the rules
pub run_same : (i : Interface) (s : State) (r : Side) (o : OutboxState) (b : Box) → OutboxStands i.outbox s.outbox r.both.box → IsSound i.outbox r.both.box → OutboxStands i.outbox o b → IsSound i.outbox b → are_distinct i.outbox.session.conns ≡ true
    → ((ticket : ℕ) → is_running b ticket ≡ is_running r.both.box ticket) → (ticket : ℕ) → is_running_ticket ticket o ≡ is_running_ticket ticket s.outbox
run_same i s r o b h sound h' sound' distinct same ticket =
    stops_answered i.outbox o b h' sound' distinct ticket ∙ same ticket ∙ sym (stops_answered i.outbox s.outbox r.both.box h sound distinct ticket)
