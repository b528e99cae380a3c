-- Each reply that waits, or went out, has its place among those that were sent.
use Rattle.std.proofs.Common.{◌≡◌, ℕ, ◌⊎◌, inl, inr, ⊎_elim, true, false, List, [], ◌∷◌, ◌++◌, length, map, filter_map, Some, None, refl, ap, sym, subst, ◌∙◌}
use Rattle.std.specs.List.{cons_option}
use Rattle.std.proofs.lemmas.List.{append-nil}
use Rattle.iscsi_wire.specs.declared.reply.Reply.{Reply}
use Rattle.iscsi_rules.specs.declared.effect.Effect.{Effect}
use Rattle.iscsi_rules.specs.rules.Trace.{first_of}
use Rattle.iscsi_outbox_rules.specs.rules.Calls.{Opening, Call, Joins, Loses}
use Rattle.iscsi_outbox_rules.specs.rules.Boxes.{Replies, Outgoing, Handed, Link, Box}
use Rattle.iscsi_outbox_rules.specs.rules.Items.{reply_sent}
use Rattle.iscsi_outbox_rules.specs.rules.Handing.{is_from_queue, handed_as}
use Rattle.iscsi_outbox_rules.specs.rules.Run.{Silent, Joined, new_link, opened, answered, after_call}
use Rattle.iscsi_outbox_rules.specs.promises.Deeds.{Deed, items_in, handed_on}
use Rattle.iscsi_outbox_rules.specs.promises.Scope.{Sent, nth}
use Rattle.iscsi_outbox_rules.proofs.general.EachLemmas.{EachOf, each-append, each-filter, each-weaken, each-drop_one}
use Rattle.iscsi_outbox_rules.proofs.general.FirstLemmas.{firsts, firsts-more, firsts-some, first_sent, nth-first, nth-push}
use Rattle.iscsi_outbox_rules.proofs.general.Linkwise.{Linkwise, Stands}
use Rattle.iscsi_outbox_rules.proofs.general.DeedLemmas.{handed_on-append, some_on}
use Rattle.iscsi_outbox_rules.proofs.general.Chosen.{FromQueue, IsPing, IsNotice, Chosen}
use Rattle.iscsi_outbox_rules.proofs.general.Callwise.{Callwise, call_keeps}

-- a reply of the session, with its place
pub record IsSent (items : List (List Effect)) (conn : ℕ) (out : Outgoing) : Type 0 where
  pub place : ℕ
  pub reply : Sent
  pub place_is : out.sent ≡ Some place
  pub nth_is : nth place (firsts items) ≡ Some reply
  pub conn_is : reply.conn ≡ conn
  pub pdu_is : out.pdu ≡ Replies reply.reply

-- a PDU of the target's own or of the outbox's
pub record IsOwn (out : Outgoing) : Type 0 where
  pub none : out.sent ≡ None
  pub apart : (reply : Reply) → out.pdu ≡ Replies reply → ⊥

abbrev pub Entry : List (List Effect) → ℕ → Outgoing → Type 0
Entry items conn out = IsSent items conn out ⊎ IsOwn out

pub record Placed (ds : List Deed) (items : List (List Effect)) (l : Link) : Type 0 where
  pub handed : l.handed ≡ handed_on l.conn ds
  pub waits : EachOf (Entry items l.conn) l.queue
  pub went : EachOf (λ (h : Handed). Entry items l.conn h.out) l.handed

pub entry_stays : (items : List (List Effect)) (item : List Effect) (conn : ℕ) (out : Outgoing) → Entry items conn out → Entry (items ++ item ∷ []) conn out
entry_stays items item conn out e =
    ⊎_elim (λ (s : IsSent items conn out). inl (record {
      place = s.place;
      reply = s.reply;
      place_is = s.place_is;
      nth_is = ap (nth s.place) (firsts-more items item) ∙ nth-first s.place (firsts items) (cons_option (first_sent items item) []) s.reply s.nth_is;
      conn_is = s.conn_is;
      pdu_is = s.pdu_is;
    })) (λ own. inr own) e

entry_times : (items : List (List Effect)) (conn : ℕ) (out : Outgoing) (t : ℕ) → Entry items conn out → Entry items conn (record out { time = t })
entry_times items conn out t e =
    ⊎_elim (λ (s : IsSent items conn out). inl (record { place = s.place; reply = s.reply; place_is = s.place_is; nth_is = s.nth_is; conn_is = s.conn_is; pdu_is = s.pdu_is }))
    (λ (own : IsOwn out). inr (record { none = own.none; apart = own.apart })) e

-- a reply that is sent now
entry_new : (items : List (List Effect)) (item : List Effect) (conn : ℕ) (reply : Reply) (out : Outgoing) (n : ℕ) → first_of (filter_map reply_sent item) ≡ Some (conn, reply) → n ≡ length (firsts items)
    → out.sent ≡ Some n → out.pdu ≡ Replies reply → Entry (items ++ item ∷ []) conn out
entry_new items item conn reply out n found counted sent pdu =
    let as_sent : Sent = record { before = items; item = item; conn = conn; reply = reply } in
    inl (record {
      place = n;
      reply = as_sent;
      place_is = sent;
      nth_is = ap (λ k. nth k (firsts (items ++ item ∷ []))) counted ∙ ap (nth (length (firsts items))) (firsts-some items item conn reply found) ∙ nth-push (firsts items) as_sent;
      conn_is = refl;
      pdu_is = pdu;
    })

wise : (o : Opening) (ds : List Deed) → Linkwise o (Placed ds) Entry
wise o ds = record {
  closes = λ items l h. record { handed = h.handed; waits = h.waits; went = h.went };
  cuts = λ items l h. record { handed = h.handed; waits = h.waits; went = h.went };
  filters = λ items l these h. record { handed = h.handed; waits = each-filter (Entry items l.conn) _ l.queue h.waits; went = h.went };
  empties = λ items l h. record { handed = h.handed; waits = tt; went = h.went };
  appends = λ items l out e h. record { handed = h.handed; waits = each-append (Entry items l.conn) l.queue (out ∷ []) h.waits (e, tt); went = h.went };
  times = entry_times;
  grows = λ items item l h. record {
    handed = h.handed;
    waits = each-weaken (Entry items l.conn) (Entry (items ++ item ∷ []) l.conn) l.queue (entry_stays items item l.conn) h.waits;
    went = each-weaken (λ (g : Handed). Entry items l.conn g.out) (λ (g : Handed). Entry (items ++ item ∷ []) l.conn g.out) l.handed (λ g. entry_stays items item l.conn g.out) h.went;
  };
  stays = entry_stays;
  enters = λ items b item conn reply found counted. entry_new items item conn reply _ b.sent found counted refl refl;
  awaits = λ items b item r conns closes conn reply about found counted. entry_new items item conn reply _ b.sent found counted refl refl;
}

pub own_ping : (o : Opening) (b : Box) (l : Link) (out : Outgoing) → IsPing o b l out ⊎ IsNotice o b l out → IsOwn out
own_ping o b l out h =
    ⊎_elim (λ (p : IsPing o b l out). subst IsOwn (sym p.is) (record { none = refl; apart = λ reply is. absurd cc }))
    (λ (p : IsNotice o b l out). subst IsOwn (sym p.is) (record { none = refl; apart = λ reply is. absurd cc })) h

pub entry_out : (o : Opening) (b : Box) (l : Link) (out : Outgoing) (items : List (List Effect)) → Chosen o b l out → EachOf (Entry items l.conn) l.queue → Entry items l.conn out
entry_out o b l out items from waits =
    ⊎_elim (λ (q : FromQueue o b l out). (subst (EachOf (Entry items l.conn)) q.queue_is waits).0) (λ own. inr (own_ping o b l out own)) from.source

pub place_calls : (o : Opening) → Callwise o Placed Entry
place_calls o = record {
  wise = wise o;
  quiet = λ ds items deed l hands joins loses h. record {
    handed = h.handed ∙ sym (handed_on-append l.conn ds (deed ∷ []) ∙ ap (λ hs. handed_on l.conn ds ++ hs) hands ∙ append-nil (handed_on l.conn ds));
    waits = h.waits;
    went = h.went;
  };
  puts = λ items conn p. inr (record { none = refl; apart = λ reply is. absurd cc });
  writes = λ ds items l h. record { handed = h.handed; waits = h.waits; went = h.went };
  hears = λ ds items l n h. record { handed = h.handed; waits = h.waits; went = h.went };
  loses = λ ds items l h. record { handed = h.handed ∙ sym (handed_on-append l.conn ds ((Loses l.conn, Silent) ∷ []) ∙ append-nil (handed_on l.conn ds)); waits = h.waits; went = h.went };
  joins = λ ds items l m stat_sn h k same unjoined. record { handed = h.handed ∙ sym (handed_on-append l.conn ds ((Joins l.conn stat_sn, Joined true) ∷ []) ∙ append-nil (handed_on l.conn ds)); waits = h.waits; went = h.went };
  hands = λ ds b l m out deed queue stands h k same from is shown dropped kept.
      let g : Handed = handed_as o b l out in
      let items : List (List Effect) = items_in ds in
      let entry : Entry items m.conn out = subst (λ c. Entry items c out) (sym same) (entry_out o b l out items from h.waits) in
      record {
        handed = ap (λ hs. hs ++ g ∷ []) k.handed ∙ sym (handed_on-append m.conn ds (deed ∷ []) ∙ ap (λ hs. handed_on m.conn ds ++ hs) (some_on m.conn deed g (shown ∙ ap (λ c. Some (c, g)) (sym same))));
        waits = elim (is_from_queue out) as (λ v. is_from_queue out ≡ v → EachOf (Entry items m.conn) queue) [
          | true ↦ λ q. subst (EachOf (Entry items m.conn)) (sym (dropped q)) (each-drop_one (Entry items m.conn) m.queue k.waits)
          | false ↦ λ q. subst (EachOf (Entry items m.conn)) (sym (kept q)) k.waits
        ] refl;
        went = each-append (λ (x : Handed). Entry items m.conn x.out) m.handed (g ∷ []) k.went (entry, tt);
      };
}

pub place_starts : (o : Opening) → Stands (Placed []) Entry [] (opened o)
place_starts o = record { sent = refl; links = starts o.session.conns; undue = tt }
  where
    starts : (cs : List (ℕ × ℕ)) → EachOf (Placed [] []) (map (λ (c : ℕ × ℕ). new_link c.0) cs)
    starts [] = tt
    starts (c ∷ cs) = (record { handed = refl; waits = tt; went = tt }, starts cs)

abbrev pub PlacesStand : List Deed → Box → Type 0
PlacesStand ds b = Stands (Placed ds) Entry (items_in ds) b

pub places_kept : (o : Opening) (ds : List Deed) (b : Box) (c : Call) → PlacesStand ds b → PlacesStand (ds ++ (c, answered o b c) ∷ []) (after_call o b c)
places_kept o ds b c h = call_keeps o Placed Entry (place_calls o) ds b c h
