-- An item by which no command enters or leaves: what is kept of requests stands behind it as before.
use Rattle.std.proofs.Common.{◌≡◌, ℕ, ◌+◌, ◌==◌, ◌&&◌, ◌||◌, not, Bool, true, false, List, [], ◌∷◌, ◌++◌, count_by, filter, find, Option, Some, None, is_some, refl, ap, sym, subst, ◌∙◌, arith}
use Rattle.std.specs.List.{list_any}
use Rattle.std.proofs.lemmas.Bool.{or_right}
use Rattle.std.proofs.lemmas.List.{append-nil}
use Rattle.iscsi_rules.specs.rules.Trace.{Command as RulesCommand, Mark, Trace, are_apart, entered, has, leaves_ticket, live, was_free, is_free_at}
use Rattle.iscsi_rules.proofs.general.ListLemmas.{any_same}
use Rattle.iscsi_rules.proofs.traces.NewlyLemmas.{Untouched}
use Rattle.iscsi_outbox_rules.specs.promises.Scope.{nth}
use Rattle.iscsi_outbox_rules.specs.rules.Boxes.{Answer, Link, Outgoing}
use Rattle.iscsi_outbox_law.specs.private.Commands.{link_in}
use Rattle.iscsi_outbox_law.specs.private.Pairs.{EachOf, PairsOf}
use Rattle.iscsi_outbox_law.proofs.general.PairLemmas.{each-weaken, pairs-weaken}
use Rattle.iscsi_requests.specs.Conns.{of_conn}
use Rattle.iscsi_requests.specs.Functions.{WaitingFunctions}
use Rattle.iscsi_requests.specs.declared.functions.WaitingFunction.{WaitingFunction}
use Rattle.iscsi_requests.specs.Numbers.{HeldNumbers}
use Rattle.iscsi_requests.specs.declared.replies.WaitingReply.{WaitingReply}
use Rattle.iscsi_ffi_rules.specs.rules.Needs.{is_about, is_of_event, is_ticket_of, left_to_write}
use Rattle.iscsi_ffi_rules.specs.rules.Sides.{Side}
use Rattle.iscsi_ffi_steps.specs.State.{State}
use Rattle.iscsi_ffi_law.specs.Names.{Name, Note}
use Rattle.iscsi_ffi_law.specs.Parts.{IsAbout, IsCommand, IsConn, IsCovered, IsKnownOut, IsLiveNamed, IsNote, IsOfCommand, IsQueued, IsReplyOf, IsRequest, covers, is_live_ticket, is_named}
use Rattle.iscsi_ffi_law.specs.Stands.{AreRequests}
use Rattle.iscsi_ffi_law.specs.Uses.{count_functions, count_held, count_lists, is_place}

-- ---- in the session

module _ (t : Trace) (item : List Mark) (u : Untouched item) where
  pub entered_on : entered (item ∷ t) ≡ entered t
  entered_on = ap (λ xs. entered t ++ xs) u.enters_none ∙ append-nil (entered t)

  pub left_on : (k : ℕ) → has (leaves_ticket k) (item ∷ t) ≡ has (leaves_ticket k) t
  left_on k = ap (λ v. v || has (leaves_ticket k) t) (u.leaves_no k)

  pub live_ticket_on : (k : ℕ) → is_live_ticket (item ∷ t) k ≡ is_live_ticket t k
  live_ticket_on k =
      ap (list_any (λ (d : RulesCommand). d.ticket == k && not (has (leaves_ticket d.ticket) (item ∷ t)))) entered_on
      ∙ any_same (λ (d : RulesCommand). d.ticket == k && not (has (leaves_ticket d.ticket) (item ∷ t))) (λ (d : RulesCommand). d.ticket == k && not (has (leaves_ticket d.ticket) t)) (entered t) (λ d. ap (λ v. d.ticket == k && not v) (left_on d.ticket))

  pub free_on : (c : RulesCommand) → was_free c t ≡ true → was_free c (item ∷ t) ≡ true
  free_on c was = or_right (is_free_at c (item ∷ t)) (was_free c t) was

-- ---- what waits

covers_same : (live live' : ℕ → Bool) → ((k : ℕ) → live k ≡ live' k) → (later : List Outgoing) (ticket : ℕ) → covers live later ticket ≡ covers live' later ticket
covers_same live live' same later ticket = ap (λ v. v || list_any (λ (out : Outgoing). is_some out.sent && elim (out.ticket) [ Some k ↦ k == ticket | None ↦ false ]) later) (same ticket)

pub covered_same : (live live' : ℕ → Bool) → ((k : ℕ) → live k ≡ live' k) → (queue : List Outgoing) → IsCovered live queue → IsCovered live' queue
covered_same live live' same [] h = tt
covered_same live live' same (o ∷ queue) h = (by_ticket o.ticket h.0, covered_same live live' same queue h.1)
  where
    by_ticket : (x : Option ℕ) → elim x [ Some ticket ↦ is_some o.sent || covers live queue ticket | None ↦ true ] ≡ true → elim x [ Some ticket ↦ is_some o.sent || covers live' queue ticket | None ↦ true ] ≡ true
    by_ticket None k = k
    by_ticket (Some ticket) k = ap (λ v. is_some o.sent || v) (sym (covers_same live live' same queue ticket)) ∙ k

module _ (names : List Name) (t t' : Trace) (same : entered t' ≡ entered t) (answers : List ℕ) where
  of_command_on : (ticket : Option ℕ) → IsOfCommand names t ticket → IsOfCommand names t' ticket
  of_command_on None k = tt
  of_command_on (Some ticket) k = (k.0, ap (find (λ (e : RulesCommand). e.ticket == ticket)) same ∙ k.1, k.2)

  reply_of_on : (sent ticket : Option ℕ) → IsReplyOf t answers sent ticket → IsReplyOf t' answers sent ticket
  reply_of_on None ticket k = tt
  reply_of_on (Some place) None k = tt
  reply_of_on (Some place) (Some ticket) k = (k.0, ap (find (λ (e : RulesCommand). e.ticket == ticket)) same ∙ k.1, k.2)

  pub known_on : (out : Outgoing) → IsKnownOut names t answers out → IsKnownOut names t' answers out
  known_on out k = record { of_reply = k.of_reply; of_command = of_command_on out.ticket k.of_command; same = reply_of_on out.sent out.ticket k.same; own = k.own }

module _ (names : List Name) (t t' : Trace) (same : entered t' ≡ entered t) (lives : (k : ℕ) → is_live_ticket t' k ≡ is_live_ticket t k) (answers : List ℕ) where
  pub queued_on : (undue : List Answer) (rs : List WaitingReply) (n : ℕ) (l : Link) → IsQueued names t answers undue rs n l → IsQueued names t' answers undue rs n l
  queued_on undue rs n l q = record {
    sent = q.sent;
    noting = q.noting;
    known = each-weaken (IsKnownOut names t answers) (IsKnownOut names t' answers) l.queue (known_on names t t' same answers) q.known;
    covered = covered_same (is_live_ticket t) (is_live_ticket t') (λ k. sym (lives k)) l.queue q.covered;
  }

-- ---- all of it

module _ (names : List Name) (notes : List Note) (pending : ℕ → ℕ) (gone : ℕ → List (Option ℕ)) (s : State) (r : Side) (a : AreRequests names notes pending gone s r) (item : List Mark) (u : Untouched item) (event : ℕ) where
  abbrev pub side_on : Side
  side_on = record r { both = record r.both { event = event; trace = item ∷ r.both.trace } }

  about_on : (e : ℕ) (out : Outgoing) → is_about e side_on out ≡ is_about e r out
  about_on e out = ap (λ v. elim (out.sent) as (λ (y : Option ℕ). Bool) [ Some place ↦ elim (nth place r.answers) [ Some x ↦ x == e | None ↦ false ] | None ↦ false ] || v) (by_ticket out.ticket)
    where
      by_ticket : (x : Option ℕ) → ◌≡◌ {A = Bool} (elim x [ Some k ↦ is_ticket_of e (item ∷ r.both.trace) k | None ↦ false ]) (elim x [ Some k ↦ is_ticket_of e r.both.trace k | None ↦ false ])
      by_ticket None = refl
      by_ticket (Some k) = ap (list_any (λ (c : RulesCommand). is_of_event e c.arrival && c.ticket == k)) (entered_on r.both.trace item u)

  pub requests_on : (held : HeldNumbers) (functions : WaitingFunctions) (pending' : ℕ → ℕ) → ((place : ℕ) → count_by (is_place place) held.places + count_lists (λ (f : WaitingFunction). f.request == place) functions.waiting + pending' place ≡ count_held place s + count_functions place s + pending place)
      → EachOf (IsRequest (record s { held = held; functions = functions }) (item ∷ r.both.trace)) names → EachOf (IsNote (record s { held = held; functions = functions }) r.both.box.links) notes
      → AreRequests names notes pending' gone (record s { held = held; functions = functions }) side_on
  requests_on held functions pending' uses named noted = record {
    asked = a.asked;
    noted = a.noted;
    apart = a.apart;
    kept = a.kept;
    counted = a.counted;
    uses = λ place. omega (arith, a.uses place, uses place);
    named = named;
    noted_apart = noted;
    tickets = ap are_apart (entered_on r.both.trace item u) ∙ a.tickets;
    commands = subst (λ (ds : List RulesCommand). PairsOf (IsCommand names side_on) s.commands.items (filter (is_named names) ds)) (sym (entered_on r.both.trace item u))
        (pairs-weaken (IsCommand names r) (IsCommand names side_on) s.commands.items (filter (is_named names) (entered r.both.trace))
        (λ c d k. record {
          ticket = k.ticket;
          unit = k.unit;
          attr = k.attr;
          request = k.request;
          live = k.live ∙ ap not (sym (left_on r.both.trace item u d.ticket));
          going = k.going;
          marked = k.marked;
          freed = λ told. free_on r.both.trace item u d (k.freed told);
        }) a.commands);
    live_named = subst (EachOf (IsLiveNamed names (item ∷ r.both.trace))) (sym (entered_on r.both.trace item u))
        (each-weaken (IsLiveNamed names r.both.trace) (IsLiveNamed names (item ∷ r.both.trace)) (entered r.both.trace) (λ d k lives. k (sym (left_on r.both.trace item u d.ticket) ∙ lives)) a.live_named);
    one_use = a.one_use;
    numbered = a.numbered;
    answers = a.answers;
    once = a.once;
    last = a.last;
    conns = λ q within.
        let c : IsConn names notes (gone q) s r q (link_in r.both.box.links q) = a.conns q within in
        record {
          replies = c.replies;
          queued = queued_on names r.both.trace (item ∷ r.both.trace) (entered_on r.both.trace item u) (live_ticket_on r.both.trace item u) r.answers r.both.box.undue (of_conn q s.replies.waiting) _ (link_in r.both.box.links q) c.queued;
          written = pairs-weaken (IsAbout names notes r (link_in r.both.box.links q).conn) (IsAbout names notes side_on (link_in r.both.box.links q).conn) (of_conn q s.unwritten.handed) (left_to_write (link_in r.both.box.links q))
              (λ x y k. record { named = each-weaken (λ (n : Name). is_about n.event r y.out ≡ is_place n.place x) (λ (n : Name). is_about n.event side_on y.out ≡ is_place n.place x) names (λ n e. about_on n.event y.out ∙ e) k.named; noted = k.noted }) c.written;
          noted = c.noted;
        };
    undue = a.undue;
  }
