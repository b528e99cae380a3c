-- The one reply of an item by which no command enters: it enters its queue, or waits until it is due, and then commands are enabled.
use Rattle.std.proofs.Common.{◌≡◌, ℕ, ◌+◌, ◌<◌, ◌==◌, cond, true, List, [], ◌∷◌, ◌++◌, length, map, Option, Some, None, is_some, refl, ap, sym, subst, ◌∙◌, arith}
use Rattle.std.specs.List.{list_any}
use Rattle.std.proofs.lemmas.List.{get_or-set_same, get_or-set_other, length-map}
use Rattle.iscsi_wire.specs.declared.reply.Reply.{Reply}
use Rattle.iscsi_wire.specs.declared.request.Request.{Request}
use Rattle.iscsi_outbox_rules.specs.promises.Scope.{nth}
use Rattle.iscsi_outbox_rules.specs.rules.Boxes.{Aim, Answer, Box, Link, Outgoing}
use Rattle.iscsi_outbox_rules.specs.rules.Due.{settle}
use Rattle.iscsi_outbox_rules.specs.rules.Items.{aim, answer, in_phase, outgoing, phase_enabled, send, send_as}
use Rattle.iscsi_outbox_rules.specs.rules.Queues.{append, enter, takes_more}
use Rattle.iscsi_outbox_law.specs.private.Commands.{link_in}
use Rattle.iscsi_requests.specs.Conns.{of_conn}
use Rattle.iscsi_requests.specs.Replies.{WaitingReplies, pushed}
use Rattle.iscsi_requests.specs.declared.replies.WaitingReply.{WaitingReply}
use Rattle.iscsi_ffi_rules.specs.rules.Calls.{Interface}
use Rattle.iscsi_ffi_rules.specs.rules.Sides.{Side}
use Rattle.iscsi_ffi_steps.specs.State.{State}
use Rattle.iscsi_ffi_law.specs.Names.{Name, place_named}
use Rattle.iscsi_ffi_law.specs.Parts.{IsKnownOut, IsNamedEvent, IsUndue}
use Rattle.iscsi_ffi_law.proofs.completions.DoneQueue.{nth_last}
use Rattle.iscsi_ffi_law.proofs.sending.Queued.{AllQueued, SameOut, SettledTo, is_taking, link_map, settled_to}
use Rattle.iscsi_ffi_law.proofs.calls.Quiet.{settled_sent}
use Rattle.iscsi_ffi_law.proofs.items.ReplyQueues.{all_awaited, all_replied, same_got}
use Rattle.iscsi_ffi_law.proofs.items.ReplyRequests.{IsReplied}

module _ (i : Interface) (names : List Name) (s : State) (r : Side) (many_answers : length r.answers ≡ r.both.box.sent)
    (all_before : AllQueued names r.both.trace r.answers (λ q. of_conn q s.replies.waiting) (λ q. length (of_conn q s.noted.handed)) r.both.box.links r.both.box.undue) (enabled : List ℕ) (event p place conn : ℕ) (within : p < length r.both.box.links)
    (at : (link_in r.both.box.links p).conn ≡ conn) (takes : takes_more (link_in r.both.box.links p) ≡ true) (taking : list_any (is_taking conn) r.both.box.links ≡ true) (long : length s.replies.waiting ≡ length r.both.box.links) (named : place_named names event ≡ Some place) where
  abbrev waiting : WaitingReply
  waiting = record { log_place = r.both.box.sent; request = place }

  abbrev replies_then : WaitingReplies
  replies_then = pushed p (record { log_place = r.both.box.sent; request = place }) s.replies

  here : of_conn p replies_then.waiting ≡ of_conn p s.replies.waiting ++ waiting ∷ []
  here = get_or-set_same s.replies.waiting p (of_conn p s.replies.waiting ++ waiting ∷ []) [] (omega (arith, within, long))

  others : (q : ℕ) → (q ≡ p → ⊥) → of_conn q replies_then.waiting ≡ of_conn q s.replies.waiting
  others q other = get_or-set_other s.replies.waiting p q (of_conn p s.replies.waiting ++ waiting ∷ []) [] other

  at_last : nth r.both.box.sent (r.answers ++ event ∷ []) ≡ Some event
  at_last = ap (λ k. nth k (r.answers ++ event ∷ [])) (sym many_answers) ∙ nth_last r.answers event

  of_it : IsNamedEvent names (nth r.both.box.sent (r.answers ++ event ∷ []))
  of_it = subst (IsNamedEvent names) (sym at_last) (ap is_some named)

  -- it enters its queue
  module _ (x : Option Request) (reply : Reply) (none : (outgoing r.both.box x [] reply).ticket ≡ None) where
    abbrev out : Outgoing
    out = record (outgoing r.both.box x [] reply) { time = r.both.box.time }

    abbrev replied : Box
    replied = record (enter conn (outgoing r.both.box x [] reply) r.both.box) { sent = r.both.box.sent + 1 }

    known : IsKnownOut names r.both.trace (r.answers ++ event ∷ []) out
    known = by_ticket (outgoing r.both.box x [] reply).ticket none
      where
        by_ticket : (k : Option ℕ) → k ≡ None → IsKnownOut names r.both.trace (r.answers ++ event ∷ []) (record (record (outgoing r.both.box x [] reply) { time = r.both.box.time }) { ticket = k })
        by_ticket None is = record { of_reply = of_it; of_command = tt; same = tt; own = refl }
        by_ticket (Some k) is = absurd cc

    settled : SettledTo names r.both.trace (r.answers ++ event ∷ []) (λ q. of_conn q replies_then.waiting) (λ q. length (of_conn q s.noted.handed)) (map (λ (l : Link). cond (l.conn == conn) (append out l) l) r.both.box.links) (settle i.outbox (in_phase phase_enabled enabled replied))
    settled = settled_to names r.both.trace (r.answers ++ event ∷ []) (λ q. of_conn q replies_then.waiting) (λ q. length (of_conn q s.noted.handed)) i.outbox (in_phase phase_enabled enabled replied)
        (all_replied names r.both.trace r.answers event (λ q. of_conn q s.replies.waiting) (λ q. length (of_conn q s.noted.handed)) r.both.box.links r.both.box.undue all_before conn p within at takes out waiting refl none refl known (λ q. of_conn q replies_then.waiting) here others)

    many : length (map (λ (l : Link). cond (l.conn == conn) (append out l) l) r.both.box.links) ≡ length r.both.box.links
    many = length-map r.both.box.links (λ (l : Link). cond (l.conn == conn) (append out l) l)

    enters_queue : IsReplied names s r event p place (settle i.outbox (in_phase phase_enabled enabled replied))
    enters_queue = record {
      all = settled.all;
      long = settled.long ∙ many;
      same = λ q short.
          let x' : SameOut (link_in (map (λ (l : Link). cond (l.conn == conn) (append out l) l) r.both.box.links) q) (link_in (settle i.outbox (in_phase phase_enabled enabled replied)).links q) = settled.same q (omega (arith, short, many)) in
          let y' : SameOut (link_in r.both.box.links q) (link_in (map (λ (l : Link). cond (l.conn == conn) (append out l) l) r.both.box.links) q)
          = subst (SameOut (link_in r.both.box.links q)) (sym (link_map (λ (l : Link). cond (l.conn == conn) (append out l) l) r.both.box.links q short))
          (same_got names r.both.trace r.answers event (λ k. of_conn k s.replies.waiting) (λ k. length (of_conn k s.noted.handed)) r.both.box.links r.both.box.undue all_before conn p within at takes out waiting refl none refl known (λ k. of_conn k replies_then.waiting) here others (link_in r.both.box.links q)) in
          record { conn = x'.conn ∙ y'.conn; takes = x'.takes ∙ y'.takes; left = x'.left ∙ y'.left };
      sent = settled_sent i.outbox [] r.both.box.undue (in_phase phase_enabled enabled replied);
    }

  -- .. or waits until it is due
  module _ (request : Request) (reply : Reply) (conns closes : List ℕ) (about : Aim) where
    abbrev later : Answer
    later = answer i.outbox r.both.box request conns closes conn (outgoing r.both.box (Some request) [] reply) about

    abbrev awaited : Box
    awaited = record r.both.box { undue = r.both.box.undue ++ later ∷ []; sent = r.both.box.sent + 1 }

    is_undue : IsUndue names (r.answers ++ event ∷ []) later
    is_undue = record { own = refl; reply = refl; ticket = refl; of_reply = of_it }

    settled_later : SettledTo names r.both.trace (r.answers ++ event ∷ []) (λ q. of_conn q replies_then.waiting) (λ q. length (of_conn q s.noted.handed)) r.both.box.links (settle i.outbox (in_phase phase_enabled enabled awaited))
    settled_later = settled_to names r.both.trace (r.answers ++ event ∷ []) (λ q. of_conn q replies_then.waiting) (λ q. length (of_conn q s.noted.handed)) i.outbox (in_phase phase_enabled enabled awaited)
        (all_awaited names r.both.trace r.answers event (λ q. of_conn q s.replies.waiting) (λ q. length (of_conn q s.noted.handed)) r.both.box.links r.both.box.undue all_before p within later at taking waiting refl is_undue (λ q. of_conn q replies_then.waiting) here others)

    waits_later : IsReplied names s r event p place (settle i.outbox (in_phase phase_enabled enabled awaited))
    waits_later = record { all = settled_later.all; long = settled_later.long; same = settled_later.same; sent = settled_sent i.outbox [] (r.both.box.undue ++ later ∷ []) (in_phase phase_enabled enabled awaited) }

  -- `conns`: those that its item closes; `closes`: those of them that weren't closed before
  pub sends_reply : (x : Option Request) (reply : Reply) (conns closes : List ℕ) → IsReplied names s r event p place (settle i.outbox (in_phase phase_enabled enabled (send i.outbox x [] conns closes (Some (conn, reply)) r.both.box)))
  sends_reply None reply conns closes = enters_queue None reply refl
  sends_reply (Some request) reply conns closes = by_aim (aim i.outbox (Some request) reply)
    where
      by_aim : (z : Option Aim) → IsReplied names s r event p place (settle i.outbox (in_phase phase_enabled enabled (let b' = send_as i.outbox (Some request) z conns closes conn (outgoing r.both.box (Some request) [] reply) r.both.box in record b' { sent = b'.sent + 1 })))
      by_aim None = enters_queue (Some request) reply refl
      by_aim (Some about) =
          subst (λ v. IsReplied names s r event p place (settle i.outbox (in_phase phase_enabled enabled (let b' = cond v (record r.both.box { undue = r.both.box.undue ++ later request reply conns closes about ∷ [] }) r.both.box in record b' { sent = b'.sent + 1 })))) (sym taking)
          (waits_later request reply conns closes about)
