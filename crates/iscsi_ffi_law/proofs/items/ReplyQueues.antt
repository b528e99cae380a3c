-- A reply of no command more: what waits is still that of requests that are kept.
use Rattle.std.proofs.Common.{◌≡◌, ℕ, ◌+◌, ◌<◌, ◌==◌, ◌&&◌, ◌||◌, ⊎_elim, cond, true, false, List, [], ◌∷◌, ◌++◌, length, map, count_by, Option, Some, None, is_some, refl, ap, sym, subst, ◌∙◌, arith, ne_eqb}
use Rattle.std.specs.List.{list_any}
use Rattle.std.proofs.lemmas.Bool.{cond_both, cases_eq, eq-eqb}
use Rattle.std.proofs.lemmas.List.{length-map}
use Rattle.std.proofs.lemmas.List.Sums.{sum_by-append}
use Rattle.iscsi_rules.specs.rules.Trace.{Trace}
use Rattle.iscsi_rules.proofs.general.CountLemmas.{one, count-cons}
use Rattle.iscsi_outbox_rules.specs.promises.Scope.{nth}
use Rattle.iscsi_outbox_rules.specs.rules.Boxes.{Answer, Link, Outgoing}
use Rattle.iscsi_outbox_rules.specs.rules.Queues.{append, takes_more}
use Rattle.iscsi_outbox_law.specs.private.Commands.{link_in}
use Rattle.iscsi_outbox_law.proofs.general.PairLemmas.{each-append, each-weaken}
use Rattle.iscsi_outbox_law.proofs.general.PlaceLemmas.{AreApart as LinksApart, one_place}
use Rattle.iscsi_requests.specs.Replies.{has_log_place}
use Rattle.iscsi_requests.specs.declared.replies.WaitingReply.{WaitingReply}
use Rattle.iscsi_ffi_rules.specs.rules.Needs.{is_noted}
use Rattle.iscsi_ffi_law.specs.Names.{Name}
use Rattle.iscsi_ffi_law.specs.Parts.{IsKnownOut, IsNamedEvent, IsOfReply, IsQueued, IsReplyOf, IsUndue, covers, is_live_ticket, is_sent_at}
use Rattle.iscsi_ffi_law.proofs.completions.DoneQueue.{nth_more}
use Rattle.iscsi_ffi_law.proofs.sending.Queued.{AllQueued, SameOut, any_map, conns_map, covered_push, is_taking, link_map}

-- ---- answers of one more

module _ (names : List Name) (t : Trace) (answers : List ℕ) (event : ℕ) where
  pub of_reply_on : (sent : Option ℕ) → IsOfReply names answers sent → IsOfReply names (answers ++ event ∷ []) sent
  of_reply_on None k = tt
  of_reply_on (Some place) k = by_event (nth place answers) refl k
    where
      by_event : (x : Option ℕ) → nth place answers ≡ x → IsNamedEvent names x → IsNamedEvent names (nth place (answers ++ event ∷ []))
      by_event None is named = absurd named
      by_event (Some e) is named = subst (IsNamedEvent names) (sym (nth_more place answers (event ∷ []) e is)) named

  same_on : (sent ticket : Option ℕ) → IsReplyOf t answers sent ticket → IsReplyOf t (answers ++ event ∷ []) sent ticket
  same_on None ticket k = tt
  same_on (Some place) None k = tt
  same_on (Some place) (Some ticket) k = (k.0, k.1, nth_more place answers (event ∷ []) k.0.arrival.event k.2)

  known_on : (out : Outgoing) → IsKnownOut names t answers out → IsKnownOut names t (answers ++ event ∷ []) out
  known_on out k = record { of_reply = of_reply_on out.sent k.of_reply; of_command = k.of_command; same = same_on out.sent out.ticket k.same; own = k.own }

  pub undue_on : (a : Answer) → IsUndue names answers a → IsUndue names (answers ++ event ∷ []) a
  undue_on a k = record { own = k.own; reply = k.reply; ticket = k.ticket; of_reply = of_reply_on a.out.sent k.of_reply }

  pub queued_more : (undue : List Answer) (rs : List WaitingReply) (n : ℕ) (l : Link) → IsQueued names t answers undue rs n l → IsQueued names t (answers ++ event ∷ []) undue rs n l
  queued_more undue rs n l q = record {
    sent = q.sent;
    noting = q.noting;
    known = each-weaken (IsKnownOut names t answers) (IsKnownOut names t (answers ++ event ∷ [])) l.queue known_on q.known;
    covered = q.covered;
  }

  -- the queue that it enters
  pub queued_replied : (undue : List Answer) (rs : List WaitingReply) (x : WaitingReply) (n : ℕ) (l : Link) (out : Outgoing) → out.sent ≡ Some x.log_place → out.ticket ≡ None → is_noted out.pdu ≡ false → IsKnownOut names t (answers ++ event ∷ []) out
      → IsQueued names t answers undue rs n l → IsQueued names t (answers ++ event ∷ []) undue (rs ++ x ∷ []) n (record l { queue = l.queue ++ out ∷ [] })
  queued_replied undue rs x n l out sent none plain known q = record {
    sent = λ k.
        let here : one (has_log_place k x) ≡ one (is_sent_at k out) = sym (ap (λ (y : Option ℕ). one (elim y [ Some m ↦ m == k | None ↦ false ])) sent) in
        omega (
          arith,
          q.sent k,
          here,
          sum_by-append (λ (y : WaitingReply). cond (has_log_place k y) 1 0) rs (x ∷ []),
          count-cons (has_log_place k) x [],
          sum_by-append (λ (o : Outgoing). cond (is_sent_at k o) 1 0) l.queue (out ∷ []),
          count-cons (is_sent_at k) out [],
        );
    noting =
        let zero_more : one (is_noted out.pdu) ≡ 0 = ap one plain in
        omega (arith, q.noting, zero_more, sum_by-append (λ (o : Outgoing). cond (is_noted o.pdu) 1 0) l.queue (out ∷ []), count-cons (λ (o : Outgoing). is_noted o.pdu) out []);
    known = each-append (IsKnownOut names t (answers ++ event ∷ [])) l.queue (out ∷ []) (each-weaken (IsKnownOut names t answers) (IsKnownOut names t (answers ++ event ∷ [])) l.queue known_on q.known) (known, tt);
    covered = covered_push (is_live_ticket t) l.queue out (ap (λ (y : Option ℕ). elim y [ Some ticket ↦ is_some out.sent || covers (is_live_ticket t) [] ticket | None ↦ true ]) none) q.covered;
  }

  -- ---- all that waits, where it enters the queue of its connection

  module _ (replies : ℕ → List WaitingReply) (noted : ℕ → ℕ) (links : List Link) (undue : List Answer) (all : AllQueued names t answers replies noted links undue) (conn p : ℕ) (within : p < length links) (at : (link_in links p).conn ≡ conn)
      (takes : takes_more (link_in links p) ≡ true) (out : Outgoing) (x : WaitingReply) (sent : out.sent ≡ Some x.log_place) (none : out.ticket ≡ None) (plain : is_noted out.pdu ≡ false) (known : IsKnownOut names t (answers ++ event ∷ []) out)
      (replies' : ℕ → List WaitingReply) (here : replies' p ≡ replies p ++ x ∷ []) (others : (q : ℕ) → (q ≡ p → ⊥) → replies' q ≡ replies q) where
    abbrev pub gets : Link → Link
    gets l = cond (l.conn == conn) (append out l) l

    pub same_got : (l : Link) → SameOut l (gets l)
    same_got l =
        cond_both (l.conn == conn) (append out l) l (SameOut l)
        (λ is. cond_both (takes_more l) (record l { queue = l.queue ++ out ∷ [] }) l (SameOut l) (λ more. record { conn = refl; takes = refl; left = refl }) (λ isnt. record { conn = refl; takes = refl; left = refl }))
        (λ isnt. record { conn = refl; takes = refl; left = refl })

    link_here : link_in (map gets links) p ≡ record (link_in links p) { queue = (link_in links p).queue ++ out ∷ [] }
    link_here =
        link_map gets links p within
        ∙ ap (λ v. cond v (append out (link_in links p)) (link_in links p)) (eq-eqb (link_in links p).conn conn at)
        ∙ ap (λ v. cond v (record (link_in links p) { queue = (link_in links p).queue ++ out ∷ [] }) (link_in links p)) takes

    link_other : (q : ℕ) → q < length links → (q ≡ p → ⊥) → link_in (map gets links) q ≡ link_in links q
    link_other q short other = link_map gets links q short ∙ ap (λ v. cond v (append out (link_in links q)) (link_in links q)) (ne_eqb (link_in links q).conn conn (λ same. other (one_place links q p all.apart short within (same ∙ sym at))))

    pub all_replied : AllQueued names t (answers ++ event ∷ []) replies' noted (map gets links) undue
    all_replied = record {
      queued = λ q inside. ⊎_elim
          (λ (same : q ≡ p). subst (λ k. IsQueued names t (answers ++ event ∷ []) undue (replies' k) (noted k) (link_in (map gets links) k)) (sym same)
          (subst (λ xs. IsQueued names t (answers ++ event ∷ []) undue xs (noted p) (link_in (map gets links) p)) (sym here)
          (subst (IsQueued names t (answers ++ event ∷ []) undue (replies p ++ x ∷ []) (noted p)) (sym link_here) (queued_replied undue (replies p) x (noted p) (link_in links p) out sent none plain known (all.queued p within)))))
          (λ (other : q ≡ p → ⊥).
          let short : q < length links = omega (arith, inside, length-map links gets) in
          subst (λ xs. IsQueued names t (answers ++ event ∷ []) undue xs (noted q) (link_in (map gets links) q)) (sym (others q other))
          (subst (IsQueued names t (answers ++ event ∷ []) undue (replies q) (noted q)) (sym (link_other q short other)) (queued_more undue (replies q) (noted q) (link_in links q) (all.queued q short))))
          (cases_eq q p);
      undue_are = each-weaken (IsUndue names answers) (IsUndue names (answers ++ event ∷ [])) undue undue_on all.undue_are;
      taken = each-weaken (λ (y : Answer). list_any (is_taking y.conn) links ≡ true) (λ (y : Answer). list_any (is_taking y.conn) (map gets links) ≡ true) undue
          (λ y k. any_map (is_taking y.conn) gets links (λ l. ap (λ c. c == y.conn && takes_more (gets l)) (same_got l).conn ∙ ap (λ v. l.conn == y.conn && v) (same_got l).takes) ∙ k) all.taken;
      apart = subst LinksApart (sym (conns_map gets links (λ l. (same_got l).conn))) all.apart;
    }

  -- ---- .. and where it waits until it is due

  module _ (replies : ℕ → List WaitingReply) (noted : ℕ → ℕ) (links : List Link) (undue : List Answer) (all : AllQueued names t answers replies noted links undue) (p : ℕ) (within : p < length links) (a : Answer) (at : (link_in links p).conn ≡ a.conn)
      (takes : list_any (is_taking a.conn) links ≡ true) (x : WaitingReply) (sent : a.out.sent ≡ Some x.log_place) (u : IsUndue names (answers ++ event ∷ []) a)
      (replies' : ℕ → List WaitingReply) (here : replies' p ≡ replies p ++ x ∷ []) (others : (q : ℕ) → (q ≡ p → ⊥) → replies' q ≡ replies q) where
    counted : (place conn : ℕ) → count_by (λ (b : Answer). b.conn == conn && is_sent_at place b.out) (undue ++ a ∷ []) ≡ count_by (λ (b : Answer). b.conn == conn && is_sent_at place b.out) undue + one (a.conn == conn && is_sent_at place a.out)
    counted place conn = omega (arith, sum_by-append (λ (b : Answer). cond (b.conn == conn && is_sent_at place b.out) 1 0) undue (a ∷ []), count-cons (λ (b : Answer). b.conn == conn && is_sent_at place b.out) a [])

    pub all_awaited : AllQueued names t (answers ++ event ∷ []) replies' noted links (undue ++ a ∷ [])
    all_awaited = record {
      queued = λ q inside. ⊎_elim
          (λ (same : q ≡ p). subst (λ k. IsQueued names t (answers ++ event ∷ []) (undue ++ a ∷ []) (replies' k) (noted k) (link_in links k)) (sym same)
          (subst (λ xs. IsQueued names t (answers ++ event ∷ []) (undue ++ a ∷ []) xs (noted p) (link_in links p)) (sym here)
          (let k : IsQueued names t (answers ++ event ∷ []) undue (replies p) (noted p) (link_in links p) = queued_more undue (replies p) (noted p) (link_in links p) (all.queued p within) in
          record {
            sent = λ place.
                let this : one (has_log_place place x) ≡ one (a.conn == (link_in links p).conn && is_sent_at place a.out)
                = sym (ap (λ v. one (v && is_sent_at place a.out)) (eq-eqb a.conn (link_in links p).conn (sym at)) ∙ ap (λ (y : Option ℕ). one (elim y [ Some m ↦ m == place | None ↦ false ])) sent) in
                omega (arith, k.sent place, this, counted place (link_in links p).conn, sum_by-append (λ (y : WaitingReply). cond (has_log_place place y) 1 0) (replies p) (x ∷ []), count-cons (has_log_place place) x []);
            noting = k.noting;
            known = k.known;
            covered = k.covered;
          })))
          (λ (other : q ≡ p → ⊥).
          let k : IsQueued names t (answers ++ event ∷ []) undue (replies q) (noted q) (link_in links q) = queued_more undue (replies q) (noted q) (link_in links q) (all.queued q inside) in
          let apart : (a.conn == (link_in links q).conn) ≡ false = ne_eqb a.conn (link_in links q).conn (λ same. other (one_place links q p all.apart inside within (sym same ∙ sym at))) in
          subst (λ xs. IsQueued names t (answers ++ event ∷ []) (undue ++ a ∷ []) xs (noted q) (link_in links q)) (sym (others q other)) (record {
            sent = λ place.
                let none : one (a.conn == (link_in links q).conn && is_sent_at place a.out) ≡ 0 = ap (λ v. one (v && is_sent_at place a.out)) apart in
                omega (arith, k.sent place, none, counted place (link_in links q).conn);
            noting = k.noting;
            known = k.known;
            covered = k.covered;
          }))
          (cases_eq q p);
      undue_are = each-append (IsUndue names (answers ++ event ∷ [])) undue (a ∷ []) (each-weaken (IsUndue names answers) (IsUndue names (answers ++ event ∷ [])) undue undue_on all.undue_are) (u, tt);
      taken = each-append (λ (y : Answer). list_any (is_taking y.conn) links ≡ true) undue (a ∷ []) all.taken (takes, tt);
      apart = all.apart;
    }
