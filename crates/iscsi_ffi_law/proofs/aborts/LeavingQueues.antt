-- Commands leave by a request: what waits of them is dropped, and all else that waits stays.
use Rattle.std.proofs.Common.{◌≡◌, ℕ, ◌<◌, ◌==◌, ◌&&◌, ◌||◌, not, cond, Bool, true, false, List, [], ◌∷◌, length, map, count_by, filter, Option, Some, None, is_some, refl, ap, sym, subst, ◌∙◌, arith}
use Rattle.std.specs.List.{list_any}
use Rattle.std.proofs.lemmas.Bool.{false≢true}
use Rattle.std.proofs.lemmas.List.{length-map}
use Rattle.iscsi_rules.specs.rules.Trace.{Trace, entered}
use Rattle.iscsi_rules.proofs.general.BoolLemmas.{and_parts}
use Rattle.iscsi_rules.proofs.general.CountLemmas.{count-filter}
use Rattle.iscsi_rules.proofs.general.ElementLemmas.{In, filter-in}
use Rattle.iscsi_outbox_rules.specs.declared.own_pdu.OwnPdu.TheVariants.{OfCommand, OfConnection}
use Rattle.iscsi_outbox_rules.specs.rules.Boxes.{Answer, Link, Notices, Outgoing, Owns, Pdu, Pings, Replies}
use Rattle.iscsi_outbox_rules.specs.rules.Queues.{without}
use Rattle.iscsi_outbox_rules.specs.rules.Run.{new_link}
use Rattle.iscsi_outbox_rules.specs.rules.Words.{contains, is_of}
use Rattle.iscsi_outbox_law.specs.private.Commands.{link_in}
use Rattle.iscsi_outbox_law.specs.private.Pairs.{EachOf}
use Rattle.iscsi_outbox_law.proofs.general.PairLemmas.{each-at, each-weaken}
use Rattle.iscsi_outbox_law.proofs.general.PlaceLemmas.{AreApart as LinksApart}
use Rattle.iscsi_requests.specs.declared.replies.WaitingReply.{WaitingReply}
use Rattle.iscsi_ffi_rules.specs.rules.Needs.{is_noted}
use Rattle.iscsi_ffi_law.specs.Names.{Name}
use Rattle.iscsi_ffi_law.specs.Parts.{IsCovered, IsKnownOut, IsOwnOut, IsQueued, covers, is_live_ticket, is_sent_at}
use Rattle.iscsi_ffi_law.proofs.requests.Kept.{count_members}
use Rattle.iscsi_ffi_law.proofs.general.Members.{Passing, any_in, each_in, in_any}
use Rattle.iscsi_ffi_law.proofs.sending.Queued.{AllQueued, any_map, conns_map, is_taking, link_map}
use Rattle.iscsi_ffi_law.proofs.items.QuietRequests.{known_on}

-- it is no reply of one of these commands
abbrev pub IsSilent : List ℕ → Outgoing → Type 0
IsSilent tickets out = (is_some out.sent && is_of (contains tickets) out) ≡ false

each_filtered : {A : Type 0} (P : A → Type 0) (p : A → Bool) (xs : List A) → EachOf P xs → EachOf P (filter p xs)
each_filtered P p [] each = tt
each_filtered P p (x ∷ xs) each = by_test (each_filtered P p xs each.1) (p x)
  where
    by_test : EachOf P (filter p xs) → (v : Bool) → EachOf P (cond v (x ∷ filter p xs) (filter p xs))
    by_test rest true = (each.0, rest)
    by_test rest false = rest

module _ (names : List Name) (t t' : Trace) (answers : List ℕ) (tickets : List ℕ) (same : entered t' ≡ entered t) (lives : (k : ℕ) → contains tickets k ≡ false → is_live_ticket t' k ≡ is_live_ticket t k) where
  abbrev keeps : Outgoing → Bool
  keeps out = not (is_of (contains tickets) out)

  -- a reply is kept
  reply_kept : (out : Outgoing) → IsSilent tickets out → is_some out.sent ≡ true → keeps out ≡ true
  reply_kept out silent some = ap not (sym (ap (λ v. v && is_of (contains tickets) out) some) ∙ silent)

  -- .. and so is what is of no command
  noted_kept : (out : Outgoing) → IsOwnOut out.pdu out.ticket out.sent → is_noted out.pdu ≡ true → keeps out ≡ true
  noted_kept out own noted = by_pdu out.pdu own noted
    where
      none : out.ticket ≡ None → keeps out ≡ true
      none is = ap (λ (x : Option ℕ). not (elim x [ Some k ↦ contains tickets k | None ↦ false ])) is

      by_pdu : (x : Pdu) → IsOwnOut x out.ticket out.sent → is_noted x ≡ true → keeps out ≡ true
      by_pdu (Owns (OfConnection conn header)) k is = none k.0
      by_pdu (Owns (OfCommand ticket header)) k is = absurd (false≢true is)
      by_pdu (Replies reply) k is = absurd (false≢true is)
      by_pdu (Pings tag) k is = absurd (false≢true is)
      by_pdu Notices k is = absurd (false≢true is)

  -- so many of them pass as did
  count_kept : (p : Outgoing → Bool) (queue : List Outgoing) → ((out : Outgoing) → In out queue → p out ≡ true → keeps out ≡ true) → count_by p (filter keeps queue) ≡ count_by p queue
  count_kept p queue kept = count-filter p keeps queue ∙ count_members (λ (out : Outgoing). keeps out && p out) p queue (λ out there. by_test out there (p out) refl)
    where
      none : (v : Bool) → (v && false) ≡ false
      none true = refl
      none false = refl

      by_test : (out : Outgoing) → In out queue → (v : Bool) → p out ≡ v → (keeps out && p out) ≡ p out
      by_test out there true is = ap (λ w. w && p out) (kept out there is)
      by_test out there false is = ap (λ w. keeps out && w) is ∙ none (keeps out) ∙ sym is

  sent_some : (place : ℕ) (out : Outgoing) → is_sent_at place out ≡ true → is_some out.sent ≡ true
  sent_some place out is = by_sent out.sent is
    where
      by_sent : (x : Option ℕ) → elim x [ Some p ↦ p == place | None ↦ false ] ≡ true → is_some x ≡ true
      by_sent (Some p) k = refl
      by_sent None k = absurd (false≢true k)

  abbrev is_reply_with : ℕ → Outgoing → Bool
  is_reply_with ticket o = is_some o.sent && elim (o.ticket) [ Some k ↦ k == ticket | None ↦ false ]

  covered_kept : (queue : List Outgoing) → EachOf (IsSilent tickets) queue → IsCovered (is_live_ticket t) queue → IsCovered (is_live_ticket t') (filter keeps queue)
  covered_kept [] silent h = tt
  covered_kept (o ∷ queue) silent h = by_kept (covered_kept queue silent.1 h.1) (keeps o) refl
    where
      replies_kept : (ticket : ℕ) → list_any (is_reply_with ticket) queue ≡ true → list_any (is_reply_with ticket) (filter keeps queue) ≡ true
      replies_kept ticket any =
          let x : Passing (is_reply_with ticket) queue = any_in (is_reply_with ticket) queue any in
          in_any (is_reply_with ticket) (filter keeps queue) x.x
          (filter-in keeps queue x.x x.there (reply_kept x.x (each_in (IsSilent tickets) queue x.x x.there silent.1) (and_parts (is_some x.x.sent) (elim (x.x.ticket) [ Some k ↦ k == ticket | None ↦ false ]) x.passes).0)) x.passes

      by_ticket : (x : Option ℕ) → not (elim x [ Some k ↦ contains tickets k | None ↦ false ]) ≡ true → elim x [ Some ticket ↦ is_some o.sent || covers (is_live_ticket t) queue ticket | None ↦ true ] ≡ true
          → elim x [ Some ticket ↦ is_some o.sent || covers (is_live_ticket t') (filter keeps queue) ticket | None ↦ true ] ≡ true
      by_ticket None kept k = refl
      by_ticket (Some ticket) kept k = by_sent (is_some o.sent) k
        where
          other : (v : Bool) → not v ≡ true → v ≡ false
          other false is = refl
          other true is = absurd (false≢true is)

          by_live : (v w : Bool) → list_any (is_reply_with ticket) queue ≡ w → (v || w) ≡ true → (v || list_any (is_reply_with ticket) (filter keeps queue)) ≡ true
          by_live true w is l = refl
          by_live false true is l = replies_kept ticket is
          by_live false false is l = absurd (false≢true l)

          by_sent : (v : Bool) → (v || covers (is_live_ticket t) queue ticket) ≡ true → (v || covers (is_live_ticket t') (filter keeps queue) ticket) ≡ true
          by_sent true l = refl
          by_sent false l =
              ap (λ v. v || list_any (is_reply_with ticket) (filter keeps queue)) (lives ticket (other (contains tickets ticket) kept))
              ∙ by_live (is_live_ticket t ticket) (list_any (is_reply_with ticket) queue) refl l

      by_kept : IsCovered (is_live_ticket t') (filter keeps queue) → (v : Bool) → keeps o ≡ v → IsCovered (is_live_ticket t') (cond v (o ∷ filter keeps queue) (filter keeps queue))
      by_kept rest true is = (by_ticket o.ticket is h.0, rest)
      by_kept rest false is = rest

  pub queued_left : (undue : List Answer) (rs : List WaitingReply) (n : ℕ) (l : Link) → EachOf (IsSilent tickets) l.queue → IsQueued names t answers undue rs n l → IsQueued names t' answers undue rs n (without (contains tickets) l)
  queued_left undue rs n l silent q = record {
    sent = λ place.
        let same_count = count_kept (is_sent_at place) l.queue (λ out there is. reply_kept out (each_in (IsSilent tickets) l.queue out there silent) (sent_some place out is)) in
        omega (arith, same_count, q.sent place);
    noting =
        let same_count = count_kept (λ (out : Outgoing). is_noted out.pdu) l.queue (λ out there is. noted_kept out (each_in (IsKnownOut names t answers) l.queue out there q.known).own is) in
        omega (arith, same_count, q.noting);
    known = each_filtered (IsKnownOut names t' answers) keeps l.queue (each-weaken (IsKnownOut names t answers) (IsKnownOut names t' answers) l.queue (known_on names t t' same answers) q.known);
    covered = covered_kept l.queue silent q.covered;
  }

  pub all_left : (replies : ℕ → List WaitingReply) (noted : ℕ → ℕ) (links : List Link) (undue : List Answer) → EachOf (λ (l : Link). EachOf (IsSilent tickets) l.queue) links → AllQueued names t answers replies noted links undue
      → AllQueued names t' answers replies noted (map (without (contains tickets)) links) undue
  all_left replies noted links undue silent all = record {
    queued = λ p within.
        let short : p < length links = omega (arith, within, length-map links (without (contains tickets))) in
        subst (IsQueued names t' answers undue (replies p) (noted p)) (sym (link_map (without (contains tickets)) links p short))
        (queued_left undue (replies p) (noted p) (link_in links p) (each-at (λ (l : Link). EachOf (IsSilent tickets) l.queue) links p (new_link 0) short silent) (all.queued p short));
    undue_are = all.undue_are;
    taken = each-weaken (λ (y : Answer). list_any (is_taking y.conn) links ≡ true) (λ (y : Answer). list_any (is_taking y.conn) (map (without (contains tickets)) links) ≡ true) undue
        (λ y k. any_map (is_taking y.conn) (without (contains tickets)) links (λ l. refl) ∙ k) all.taken;
    apart = subst LinksApart (sym (conns_map (without (contains tickets)) links (λ l. refl))) all.apart;
  }
