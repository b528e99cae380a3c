-- Each PDU that goes out names the command that it is of.
use Rattle.std.proofs.Common.{◌≡◌, ℕ, ◌==◌, ◌⊎◌, inl, inr, ⊎_elim, true, false, List, [], ◌∷◌, ◌++◌, length, map, filter_map, Option, Some, None, refl, ap, sym, subst, ◌∙◌}
use Rattle.std.specs.List.{cons_option}
use Rattle.iscsi_wire.specs.declared.reply.Reply.{Reply}
use Rattle.iscsi_rules.specs.declared.effect.Effect.{Effect}
use Rattle.iscsi_rules.specs.rules.Trace.{first_of}
use Rattle.iscsi_outbox_rules.specs.declared.own_pdu.OwnPdu.{OwnPdu}
use Rattle.iscsi_outbox_rules.specs.declared.own_pdu.OwnPdu.TheVariants.{OfCommand, OfConnection}
use Rattle.iscsi_outbox_rules.specs.rules.Calls.{Opening, Call}
use Rattle.iscsi_outbox_rules.specs.rules.Boxes.{Outgoing, Handed, Link, Box}
use Rattle.iscsi_outbox_rules.specs.rules.Items.{reply_sent}
use Rattle.iscsi_outbox_rules.specs.rules.Own.{own_outgoing}
use Rattle.iscsi_outbox_rules.specs.rules.Handing.{is_from_queue}
use Rattle.iscsi_outbox_rules.specs.rules.Run.{new_link, opened}
use Rattle.iscsi_outbox_rules.specs.promises.Deeds.{Deed, deeds_of, items_in, handed_in_deed, FollowsSession}
use Rattle.iscsi_outbox_rules.specs.promises.Scope.{Sent, nth, sent_by, sent_as, completed_in}
use Rattle.iscsi_outbox_rules.specs.promises.Silent.{ticket_of_own, ticket_of}
use Rattle.iscsi_outbox_rules.proofs.general.EachLemmas.{EachOf, each-append, each-filter, each-weaken, each-drop_one, each-first_of}
use Rattle.iscsi_outbox_rules.proofs.general.FirstLemmas.{firsts, firsts-more, firsts-some, first_sent, nth-first, nth-push}
use Rattle.iscsi_outbox_rules.proofs.general.Linkwise.{Linkwise, Stands}
use Rattle.iscsi_outbox_rules.proofs.general.Chosen.{FromQueue, IsPing, IsNotice, Chosen, chosen_from}
use Rattle.iscsi_outbox_rules.proofs.general.Callwise.{Callwise, call_keeps}
use Rattle.iscsi_outbox_rules.proofs.general.Cuts.{Handing, at_handing}
use Rattle.iscsi_outbox_rules.proofs.order.SentLemmas.{one_reply_before, sent_by-firsts}

-- a reply of the session, of the command whose completion its item is
pub record OfItem (items : List (List Effect)) (out : Outgoing) : Type 0 where
  pub place : ℕ
  pub reply : Sent
  pub place_is : out.sent ≡ Some place
  pub nth_is : nth place (firsts items) ≡ Some reply
  pub pdu_is : ticket_of_own out.pdu ≡ None
  pub ticket_is : out.ticket ≡ completed_in reply.item

-- a PDU of the target's own or of the outbox's
pub record OfOwn (out : Outgoing) : Type 0 where
  pub none : out.sent ≡ None
  pub ticket_is : out.ticket ≡ ticket_of_own out.pdu

abbrev pub Of : List (List Effect) → ℕ → Outgoing → Type 0
Of items conn out = OfItem items out ⊎ OfOwn out

abbrev pub OfCommands : List Deed → List (List Effect) → Link → Type 0
OfCommands ds items l = EachOf (Of items l.conn) l.queue

of_stays : (items : List (List Effect)) (item : List Effect) (conn : ℕ) (out : Outgoing) → Of items conn out → Of (items ++ item ∷ []) conn out
of_stays items item conn out e =
    ⊎_elim (λ (s : OfItem items out). inl (record {
      place = s.place;
      reply = s.reply;
      place_is = s.place_is;
      nth_is = ap (nth s.place) (firsts-more items item) ∙ nth-first s.place (firsts items) (cons_option (first_sent items item) []) s.reply s.nth_is;
      pdu_is = s.pdu_is;
      ticket_is = s.ticket_is;
    })) (λ own. inr own) e

of_times : (items : List (List Effect)) (conn : ℕ) (out : Outgoing) (t : ℕ) → Of items conn out → Of items conn (record out { time = t })
of_times items conn out t e =
    ⊎_elim (λ (s : OfItem items out). inl (record { place = s.place; reply = s.reply; place_is = s.place_is; nth_is = s.nth_is; pdu_is = s.pdu_is; ticket_is = s.ticket_is }))
    (λ (own : OfOwn out). inr (record { none = own.none; ticket_is = own.ticket_is })) e

-- a reply that is sent now
of_new : (items : List (List Effect)) (item : List Effect) (conn : ℕ) (reply : Reply) (out : Outgoing) (n : ℕ) → first_of (filter_map reply_sent item) ≡ Some (conn, reply) → n ≡ length (firsts items)
    → out.sent ≡ Some n → ticket_of_own out.pdu ≡ None → out.ticket ≡ completed_in item → Of (items ++ item ∷ []) conn out
of_new items item conn reply out n found counted sent pdu ticket =
    let as_sent : Sent = record { before = items; item = item; conn = conn; reply = reply } in
    inl (record {
      place = n;
      reply = as_sent;
      place_is = sent;
      nth_is = ap (λ k. nth k (firsts (items ++ item ∷ []))) counted ∙ ap (nth (length (firsts items))) (firsts-some items item conn reply found) ∙ nth-push (firsts items) as_sent;
      pdu_is = pdu;
      ticket_is = ticket;
    })

wise : (o : Opening) (ds : List Deed) → Linkwise o (OfCommands ds) Of
wise o ds = record {
  closes = λ items l h. h;
  cuts = λ items l h. h;
  filters = λ items l these h. each-filter (Of items l.conn) _ l.queue h;
  empties = λ items l h. tt;
  appends = λ items l out e h. each-append (Of items l.conn) l.queue (out ∷ []) h (e, tt);
  times = of_times;
  grows = λ items item l h. each-weaken (Of items l.conn) (Of (items ++ item ∷ []) l.conn) l.queue (of_stays items item l.conn) h;
  stays = of_stays;
  enters = λ items b item conn reply found counted. of_new items item conn reply _ b.sent found counted refl refl refl;
  awaits = λ items b item r conns closes conn reply about found counted. of_new items item conn reply _ b.sent found counted refl refl refl;
}

of_ping : (o : Opening) (b : Box) (l : Link) (out : Outgoing) → IsPing o b l out ⊎ IsNotice o b l out → OfOwn out
of_ping o b l out h =
    ⊎_elim (λ (p : IsPing o b l out). subst OfOwn (sym p.is) (record { none = refl; ticket_is = refl })) (λ (p : IsNotice o b l out). subst OfOwn (sym p.is) (record { none = refl; ticket_is = refl })) h

of_out : (o : Opening) (b : Box) (l : Link) (out : Outgoing) (items : List (List Effect)) → Chosen o b l out → EachOf (Of items l.conn) l.queue → Of items l.conn out
of_out o b l out items from waits =
    ⊎_elim (λ (q : FromQueue o b l out). (subst (EachOf (Of items l.conn)) q.queue_is waits).0) (λ own. inr (of_ping o b l out own)) from.source

of_put : (p : OwnPdu) → OfOwn (own_outgoing p)
of_put (OfCommand ticket header) = record { none = refl; ticket_is = refl }
of_put (OfConnection conn header) = record { none = refl; ticket_is = refl }

pub of_calls : (o : Opening) → Callwise o OfCommands Of
of_calls o = record {
  wise = wise o;
  quiet = λ ds items deed l hands joins loses h. h;
  puts = λ items conn p. inr (of_put p);
  writes = λ ds items l h. h;
  hears = λ ds items l n h. h;
  loses = λ ds items l h. h;
  joins = λ ds items l m stat_sn h k same unjoined. h;
  hands = λ ds b l m out deed queue stands h k same from is shown dropped kept.
      elim (is_from_queue out) as (λ v. is_from_queue out ≡ v → EachOf (Of (items_in ds) m.conn) queue) [
        | true ↦ λ q. subst (EachOf (Of (items_in ds) m.conn)) (sym (dropped q)) (each-drop_one (Of (items_in ds) m.conn) m.queue k)
        | false ↦ λ q. subst (EachOf (Of (items_in ds) m.conn)) (sym (kept q)) k
      ] refl;
}

abbrev pub OfStands : List Deed → Box → Type 0
OfStands ds b = Stands (OfCommands ds) Of (items_in ds) b

pub of_starts : (o : Opening) → OfStands [] (opened o)
of_starts o = record { sent = refl; links = starts o.session.conns; undue = tt }
  where
    starts : (cs : List (ℕ × ℕ)) → EachOf (OfCommands [] []) (map (λ (c : ℕ × ℕ). new_link c.0) cs)
    starts [] = tt
    starts (c ∷ cs) = (tt, starts cs)

-- the command that the box has of a PDU is the one that the deeds show
pub names_command : (o : Opening) (cs : List Call) → FollowsSession o cs → (before after : List Deed) (deed : Deed) (conn : ℕ) (h : Handed) → before ++ deed ∷ after ≡ deeds_of o cs → handed_in_deed deed ≡ Some (conn, h)
    → h.out.ticket ≡ ticket_of (items_in before) h.out
names_command o cs follows before after deed conn h whole shown =
    let items : List (List Effect) = items_in before in
    let m = at_handing o cs OfStands (λ ds b c k. call_keeps o OfCommands Of (of_calls o) ds b c k) (of_starts o) before after deed conn h whole shown in
    let b : Box = m.0 in
    let n : Handing o b conn h = m.2 in
    let waits : EachOf (Of items n.link.conn) n.link.queue = each-first_of (OfCommands before items) (λ (l : Link). l.conn == conn) b.links n.link n.found m.1.links in
    let entry : Of items n.link.conn n.out = of_out o b n.link n.out items (chosen_from o b n.link n.out n.chosen_is) waits in
    let same : sent_by items ≡ firsts items = sent_by-firsts items (one_reply_before o cs before (deed ∷ after) whole follows) in
    subst (λ (g : Handed). g.out.ticket ≡ ticket_of items g.out) (sym n.is)
    (⊎_elim
    (λ (s : OfItem items n.out).
    let as_sent : sent_as items n.out ≡ Some s.reply = ap (λ x. elim x [ Some place ↦ nth place (sent_by items) | None ↦ None ]) s.place_is ∙ ap (nth s.place) same ∙ s.nth_is in
    s.ticket_is
    ∙ sym (ap (λ x. elim x [ Some ticket ↦ Some ticket | None ↦ elim (sent_as items n.out) [ Some r ↦ completed_in r.item | None ↦ None ] ]) s.pdu_is
    ∙ ap (λ x. elim x [ Some r ↦ completed_in r.item | None ↦ None ]) as_sent))
    (λ (own : OfOwn n.out).
    let unsent : sent_as items n.out ≡ None = ap (λ x. elim x [ Some place ↦ nth place (sent_by items) | None ↦ None ]) own.none in
    own.ticket_is
    ∙ sym (ap (λ x. elim (ticket_of_own n.out.pdu) [ Some ticket ↦ Some ticket | None ↦ elim x [ Some r ↦ completed_in r.item | None ↦ None ] ]) unsent ∙ either (ticket_of_own n.out.pdu)))
    entry)
  where
    either : (x : Option ℕ) → elim x [ Some ticket ↦ Some ticket | None ↦ None ] ≡ x
    either None = refl
    either (Some ticket) = refl
