-- The own PDUs of a connection go out as they were put, for every list of calls.
use Rattle.std.proofs.Common.{◌≡◌, ℕ, inl, inr, ⊎_elim, ◌==◌, ◌+◌, ◌&&◌, ◌||◌, not, cond, Bool, true, false, List, [], ◌∷◌, ◌++◌, map, max, drop, length, filter, filter_map, nat_lt, Option, Some, None, refl, ap, sym, subst, ◌∙◌, eq-eqb}
use Rattle.std.specs.List.{list_any, cons_option}
use Rattle.std.proofs.lemmas.Bool.{cond_both, false≢true, eqb-true, eqb-false}
use Rattle.std.proofs.lemmas.List.{append_assoc, append-nil}
use Rattle.std.proofs.lemmas.List.Concat.{flat_map-append}
use Rattle.std.proofs.lemmas.List.Elements.{filter-append, filter_map-append}
use Rattle.iscsi_rules.specs.rules.Trace.{first_of}
use Rattle.iscsi_rules.proofs.general.ListLemmas.{first_itself}
use Rattle.iscsi_outbox_rules.specs.declared.own_pdu.PutRefusal.TheVariants.{Unfit, Closed, Full}
use Rattle.iscsi_rules.proofs.general.BoolLemmas.{and_parts, or_second, not_true}
use Rattle.iscsi_outbox_rules.specs.declared.own_pdu.OwnPdu.{OwnPdu}
use Rattle.iscsi_outbox_rules.specs.declared.own_pdu.OwnPdu.TheVariants.{OfCommand, OfConnection}
use Rattle.iscsi_outbox_rules.specs.declared.own_pdu.PutRefusal.{PutRefusal}
use Rattle.iscsi_outbox_rules.specs.rules.Calls.{Opening, Call, Takes, Puts, Stops, Nexts, Writes, Hears, Joins, Loses, Clears}
use Rattle.iscsi_outbox_rules.specs.rules.Boxes.{Outgoing, Handed, Answer, Link, Box}
use Rattle.iscsi_outbox_rules.specs.rules.Words.{is_open, is_running, is_usable}
use Rattle.iscsi_outbox_rules.specs.rules.Queues.{at_link, takes_more, append, enter, drop_on}
use Rattle.iscsi_outbox_rules.specs.rules.Due.{settle}
use Rattle.iscsi_outbox_rules.specs.rules.Items.{in_phase}
use Rattle.iscsi_outbox_rules.specs.rules.Own.{is_fit, is_full, own_conn, own_outgoing, put_refusal, refusal_on}
use Rattle.iscsi_outbox_rules.specs.rules.Handing.{is_from_queue, taken_from, handed_as, after_given}
use Rattle.iscsi_outbox_rules.specs.rules.Run.{Silent, Put, new_link, opened, after_call, after_calls, answered, phase_stopped, one_written, arrived_by_stat_sn, arrived_by_ping, link_heard, may_join, link_joined, link_lost, waits_for_clear, cleared}
use Rattle.iscsi_outbox_rules.specs.promises.Deeds.{Deed, deeds_of, handed_in, handed_in_deed}
use Rattle.iscsi_outbox_rules.specs.promises.Order.{own_of, taken_by, is_of_connection, own_taken, own_handed}
use Rattle.iscsi_outbox_rules.proofs.general.EachLemmas.{each-at_link, EachOf, each-append, each-first_of, each-drop_one}
use Rattle.iscsi_outbox_rules.proofs.general.FoundLemmas.{EachFound, found-at_link, find_link, found-conn}
use Rattle.iscsi_outbox_rules.proofs.general.DeedLemmas.{handed_in-append}
use Rattle.iscsi_outbox_rules.proofs.general.Walks.{over_after, settles, event_keeps}
use Rattle.iscsi_outbox_rules.proofs.general.Chosen.{FromQueue, IsPing, IsNotice, chosen_from}
use Rattle.iscsi_outbox_rules.proofs.general.Cuts.{Cut, cut, keeps, Hand, Idle, next}
use Rattle.iscsi_outbox_rules.proofs.general.ConnLemmas.{Twins, twins_kept, HeldBy, conn_boxes}
use Rattle.iscsi_outbox_rules.proofs.general.Boxwise.{box_keeps}
use Rattle.iscsi_outbox_rules.specs.promises.Order.{KeepsConnectionOrder}
use Rattle.iscsi_outbox_rules.proofs.order.OwnRuns.{own_in, own_waiting, handed_of, taken_of, OwnEntry, LinkFits, Queued, OwnStands, own_walk, at_one, enters, append-conn}

module _ (c : ℕ) where
  handed-more : (ds : List Deed) (d : Deed) → handed_of c (ds ++ d ∷ []) ≡ handed_of c ds ++ handed_of c (d ∷ [])
  handed-more ds d =
      let f : ℕ × Handed → Option OwnPdu = λ g. own_of g.1.out.pdu in
      ap (λ gs. filter (is_of_connection c) (filter_map f gs)) (handed_in-append ds (d ∷ []))
      ∙ ap (filter (is_of_connection c)) (filter_map-append f (handed_in ds) (handed_in (d ∷ [])))
      ∙ filter-append (is_of_connection c) (own_handed ds) (own_handed (d ∷ []))

  taken-more : (ds : List Deed) (d : Deed) → taken_of c (ds ++ d ∷ []) ≡ taken_of c ds ++ taken_of c (d ∷ [])
  taken-more ds d =
      ap (filter (is_of_connection c)) (filter_map-append (λ (e : Deed). taken_by e.0 e.1) ds (d ∷ []))
      ∙ filter-append (is_of_connection c) (own_taken ds) (own_taken (d ∷ []))

  -- a deed that shows none of them
  quiet : (ds : List Deed) (d : Deed) (b : Box) → handed_of c (d ∷ []) ≡ [] → taken_of c (d ∷ []) ≡ [] → OwnStands c ds b → OwnStands c (ds ++ d ∷ []) b
  quiet ds d b handed taken h = record {
    waiting = h.waiting;
    whole =
        ap (λ xs. xs ++ h.waiting) (handed-more ds d ∙ ap (λ xs. handed_of c ds ++ xs) handed ∙ append-nil (handed_of c ds)) ∙ h.whole
        ∙ sym (taken-more ds d ∙ ap (λ xs. taken_of c ds ++ xs) taken ∙ append-nil (taken_of c ds));
    queued = h.queued;
    fits = h.fits;
    undue = h.undue;
  }

  none_handed : (d : Deed) → handed_in_deed d ≡ None → handed_of c (d ∷ []) ≡ []
  none_handed d none = ap (λ x. filter (is_of_connection c) (filter_map (λ (g : ℕ × Handed). own_of g.1.out.pdu) (cons_option x []))) none

  settled : (o : Opening) (ds : List Deed) (b : Box) → OwnStands c ds b → OwnStands c ds (settle o b)
  settled o ds b h = settles o (λ items b'. OwnStands c ds b') (own_walk c o ds) [] b h

  -- ---- handing out

  own_taken_from : (l : Link) (out : Outgoing) (rest : List Outgoing) → l.queue ≡ out ∷ rest → OwnEntry c l.conn out → own_waiting c l.queue ≡ own_in c out ++ own_waiting c (taken_from out l).queue
  own_taken_from l out rest is e =
      ⊎_elim
      (λ none. cond_both (is_from_queue out) (record l { queue = drop 1 l.queue }) l (λ (m : Link). own_waiting c l.queue ≡ own_in c out ++ own_waiting c m.queue)
      (λ q. ap (own_waiting c) is ∙ ap (λ ys. own_in c out ++ own_waiting c ys) (sym (ap (drop 1) is)))
      (λ q. ap (λ ys. ys ++ own_waiting c l.queue) (sym none)))
      (λ own. ap (own_waiting c) is ∙ ap (λ ys. own_in c out ++ own_waiting c ys) (sym (ap (λ v. (cond v (record l { queue = drop 1 l.queue }) l).queue) own.2 ∙ ap (drop 1) is)))
      e

  empty_first : (xs ys : List OwnPdu) → xs ++ ys ≡ [] → (xs ≡ []) × (ys ≡ [])
  empty_first [] ys h = (refl, h)
  empty_first (x ∷ xs) ys h = absurd cc

  some_link : (l m : Link) → Some l ≡ Some m → l ≡ m
  some_link l m h = cc

  -- what stands of the connection's queue alone
  abbrev Is : List OwnPdu → Link → Type 0
  Is waiting m = m.conn ≡ c → waiting ≡ own_waiting c m.queue

  is_queued : (waiting : List OwnPdu) (links : List Link) → EachFound (Is waiting) links → (l : Link) → find_link c links ≡ Some l → Queued c waiting l
  is_queued waiting links h l found = inl (h c l found (found-conn c links l found))

  taken-conn : (out : Outgoing) (m : Link) → (taken_from out m).conn ≡ m.conn
  taken-conn out m = cond_both (is_from_queue out) (record m { queue = drop 1 m.queue }) m (λ (x : Link). x.conn ≡ m.conn) (λ is. refl) (λ is. refl)

  taken_fits : (out : Outgoing) (m : Link) → LinkFits c m → LinkFits c (taken_from out m)
  taken_fits out m f = cond_both (is_from_queue out) (record m { queue = drop 1 m.queue }) m (LinkFits c) (λ is. (each-drop_one (OwnEntry c m.conn) m.queue f.0, f.1)) (λ is. f)

  own_hand : (o : Opening) (ds : List Deed) (b : Box) (conn : ℕ) (d : Deed) (k : Hand o b conn) → handed_in_deed d ≡ Some (conn, k.handed) → taken_of c (d ∷ []) ≡ [] → OwnStands c ds b
      → OwnStands c (ds ++ d ∷ []) (after_given o b k.handing.link k.handed)
  own_hand o ds b conn d k shown untaken h = subst (λ (x : Handed). OwnStands c (ds ++ d ∷ []) (after_given o b l x)) (sym k.handing.is) by_source
    where
      l : Link
      l = k.handing.link

      out : Outgoing
      out = k.handing.out

      g : Handed
      g = handed_as o b l out

      at : l.conn ≡ conn
      at = found-conn conn b.links l k.handing.found

      fits : LinkFits c l
      fits = each-first_of (LinkFits c) (λ (m : Link). m.conn == conn) b.links l k.handing.found h.fits

      handed : handed_of c (d ∷ []) ≡ own_in c out
      handed = ap (λ x. filter (is_of_connection c) (filter_map (λ (y : ℕ × Handed). own_of y.1.out.pdu) (cons_option x []))) shown ∙ ap (λ (x : Handed). own_in c x.out) k.handing.is

      push : Link → Link
      push m = record m { handed = m.handed ++ g ∷ [] }

      itself : (m : Link) → m.conn ≡ l.conn → find_link c b.links ≡ Some m → m ≡ l
      itself m same found = some_link m l (sym found ∙ ap (λ e. find_link e b.links) (sym (found-conn c b.links m found) ∙ same ∙ at) ∙ k.handing.found)

      -- it is none of the connection's own
      apart : own_in c out ≡ [] → own_waiting c (taken_from out l).queue ≡ own_waiting c l.queue → OwnStands c (ds ++ d ∷ []) (after_given o b l g)
      apart none same =
          let taken : OwnStands c ds (record b { links = at_link l.conn (taken_from out) b.links; undue = b.undue }) =
          at_one c ds b l.conn (taken_from out) b.undue (taken-conn out) h
          (λ m is found q. subst (λ (x : Link). Queued c h.waiting (taken_from out x)) (sym (itself m is found))
          (cond_both (is_from_queue out) (record l { queue = drop 1 l.queue }) l (λ (x : Link). own_waiting c x.queue ≡ own_waiting c l.queue → Queued c h.waiting x)
          (λ f e. again l (drop 1 l.queue) e (subst (Queued c h.waiting) (itself m is found) q)) (λ f e. subst (Queued c h.waiting) (itself m is found) q) same))
          (taken_fits out) h.undue in
          let pushed : OwnStands c ds (record b { links = at_link l.conn push (at_link l.conn (taken_from out) b.links); undue = b.undue }) =
          at_one c ds (record b { links = at_link l.conn (taken_from out) b.links; undue = b.undue }) l.conn push b.undue (λ m. refl) taken (λ m is found q. q) (λ m f. f) h.undue in
          let moved : OwnStands c ds (after_given o b l g) = record { waiting = pushed.waiting; whole = pushed.whole; queued = pushed.queued; fits = pushed.fits; undue = pushed.undue } in
          quiet ds d (after_given o b l g) (handed ∙ none) untaken moved
        where
          again : (m : Link) (queue : List Outgoing) → own_waiting c queue ≡ own_waiting c m.queue → Queued c h.waiting m → Queued c h.waiting (record m { queue = queue })
          again m queue e q = ⊎_elim (λ is. inl (is ∙ sym e)) (λ over. inr (e ∙ over.0, over.1)) q

      -- it is the first of them
      first : (rest : List Outgoing) → l.queue ≡ out ∷ rest → l.conn ≡ c → OwnEntry c l.conn out → OwnStands c (ds ++ d ∷ []) (after_given o b l g)
      first rest is here entry =
          ⊎_elim
          (λ waits. record {
            waiting = left;
            whole =
                ap (λ xs. xs ++ left) (handed-more ds d ∙ ap (λ xs. handed_of c ds ++ xs) handed) ∙ append_assoc (handed_of c ds) (own_in c out) left
                ∙ ap (λ xs. handed_of c ds ++ xs) (sym (waits ∙ parts)) ∙ h.whole
                ∙ sym (taken-more ds d ∙ ap (λ xs. taken_of c ds ++ xs) untaken ∙ append-nil (taken_of c ds));
            queued = is_queued left (after_given o b l g).links lines;
            fits = each-at_link (LinkFits c) (LinkFits c) l.conn push (at_link l.conn (taken_from out) b.links) (λ m is f. f) (λ m isnt f. f)
                (each-at_link (LinkFits c) (LinkFits c) l.conn (taken_from out) b.links (λ m is f. taken_fits out m f) (λ m isnt f. f) h.fits);
            undue = h.undue;
          })
          (λ over. let none = empty_first (own_in c out) left (sym parts ∙ over.0) in apart none.0 (none.1 ∙ sym over.0))
          (h.queued l (ap (λ e. find_link e b.links) (sym here ∙ at) ∙ k.handing.found))
        where
          left : List OwnPdu
          left = own_waiting c (taken_from out l).queue

          parts : own_waiting c l.queue ≡ own_in c out ++ left
          parts = own_taken_from l out rest is entry

          lines : EachFound (Is left) (after_given o b l g).links
          lines =
              found-at_link (Is left) (Is left) l.conn push (λ m. refl) (at_link l.conn (taken_from out) b.links) (λ m found j. j) (λ m isnt j. j)
              (found-at_link (λ (m : Link). Unit {0}) (Is left) l.conn (taken_from out) (taken-conn out) b.links
              (λ m found j. subst (λ (x : Link). Is left (taken_from out x)) (some_link l m (sym (ap (λ e. find_link e b.links) at ∙ k.handing.found) ∙ found)) (λ same. refl))
              (λ m isnt j same. absurd (eqb-false m.conn l.conn isnt (same ∙ sym here))) (λ e m found. tt))

      other : (own_in c out ≡ []) → (is_from_queue out ≡ false) → OwnStands c (ds ++ d ∷ []) (after_given o b l g)
      other none unqueued = apart none (ap (λ v. own_waiting c (cond v (record l { queue = drop 1 l.queue }) l).queue) unqueued)

      by_source : OwnStands c (ds ++ d ∷ []) (after_given o b l g)
      by_source =
          ⊎_elim
          (λ (q : FromQueue o b l out).
          let entry : OwnEntry c l.conn out = (subst (EachOf (OwnEntry c l.conn)) q.queue_is fits.0).0 in
          ⊎_elim
          (λ none. apart none (sym (own_taken_from l out q.rest q.queue_is entry ∙ ap (λ ys. ys ++ own_waiting c (taken_from out l).queue) none)))
          (λ own. first q.rest q.queue_is own.0 entry) entry)
          (⊎_elim
          (λ (p : IsPing o b l out). other (ap (own_in c) p.is) (ap is_from_queue p.is))
          (λ (p : IsNotice o b l out). other (ap (own_in c) p.is) (ap is_from_queue p.is)))
          (chosen_from o b l out k.handing.chosen_is).source

  -- ---- putting

  none_from : (v : Bool) (r : PutRefusal) (x : Option PutRefusal) → cond v (Some r) x ≡ None → x ≡ None
  none_from true r x h = absurd cc
  none_from false r x h = h

  -- an own PDU of the connection enters
  own_put : (ds : List Deed) (b : Box) (d : Deed) (p : OwnPdu) (l : Link) → Twins b.links → find_link c b.links ≡ Some l → is_usable l ≡ true → own_in c (own_outgoing p) ≡ p ∷ [] → (own_outgoing p).ticket ≡ None
      → handed_of c (d ∷ []) ≡ [] → taken_of c (d ∷ []) ≡ p ∷ [] → OwnStands c ds b → OwnStands c (ds ++ d ∷ []) (enter c (own_outgoing p) b)
  own_put ds b d p l twins found usable own ticket handed taken h = record {
    waiting = h.waiting ++ p ∷ [];
    whole =
        ap (λ xs. xs ++ (h.waiting ++ p ∷ [])) (handed-more ds d ∙ ap (λ xs. handed_of c ds ++ xs) handed ∙ append-nil (handed_of c ds))
        ∙ sym (append_assoc (handed_of c ds) h.waiting (p ∷ [])) ∙ ap (λ xs. xs ++ p ∷ []) h.whole ∙ sym (taken-more ds d ∙ ap (λ xs. taken_of c ds ++ xs) taken);
    queued = is_queued (h.waiting ++ p ∷ []) (at_link c (append out) b.links) lines;
    fits = each-at_link (LinkFits c) (LinkFits c) c (append out) b.links
        (λ m is f. cond_both (takes_more m) (record m { queue = m.queue ++ out ∷ [] }) m (LinkFits c) (λ more. (each-append (OwnEntry c m.conn) m.queue (out ∷ []) f.0 (inr (is, ticket, refl), tt), f.1)) (λ more. f)) (λ m isnt f. f) h.fits;
    undue = h.undue;
  }
    where
      out : Outgoing
      out = record (own_outgoing p) { time = b.time }

      parts : (is_open l ≡ true) × (not l.closed ≡ true)
      parts = and_parts (is_open l) (not l.closed) usable

      unlost : not l.lost ≡ true
      unlost = (and_parts l.joined (not l.lost) parts.0).1

      fits : LinkFits c l
      fits = each-first_of (LinkFits c) (λ (m : Link). m.conn == c) b.links l found h.fits

      uncut : (v : Bool) → l.cut ≡ v → not v ≡ true
      uncut false is = refl
      uncut true is = absurd (false≢true (sym (not_true l.closed parts.1) ∙ fits.1 is))

      takes : takes_more l ≡ true
      takes = ap (λ v. v && not l.cut) parts.0 ∙ uncut l.cut refl

      waits : h.waiting ≡ own_waiting c l.queue
      waits =
          ⊎_elim (λ is. is)
          (λ over. absurd (false≢true (sym (ap (λ v. v || l.lost) (not_true l.closed parts.1) ∙ not_true l.lost unlost) ∙ over.1))) (h.queued l found)

      lines : EachFound (Is (h.waiting ++ p ∷ [])) (at_link c (append out) b.links)
      lines =
          found-at_link (λ (m : Link). Unit {0}) (Is (h.waiting ++ p ∷ [])) c (append out) (append-conn c out) b.links
          (λ m there j. subst (λ (x : Link). Is (h.waiting ++ p ∷ []) (append out x)) (some_link l m (sym found ∙ there))
          (λ same. ap (λ xs. xs ++ p ∷ []) waits ∙ sym (ap (λ v. own_waiting c (cond v (record l { queue = l.queue ++ out ∷ [] }) l).queue) takes ∙ flat_map-append (own_in c) l.queue (out ∷ []) ∙ ap (λ xs. own_waiting c l.queue ++ (xs ++ [])) own)))
          (λ m isnt j same. absurd (eqb-false m.conn c isnt same)) (λ e m there. tt)

  usable_link : (o : Opening) (b : Box) (conn : ℕ) (x : Option Link) → first_of (filter (λ (l : Link). (l.conn == conn) && is_usable l) b.links) ≡ x → Twins b.links → refusal_on o b conn ≡ None
      → (l : Link) × (find_link conn b.links ≡ Some l) × (is_usable l ≡ true)
  usable_link o b conn None is twins none = absurd (let no : Some Closed ≡ None = sym (ap (λ x. elim x [ Some l ↦ cond (is_full o l) (Some Full) None | None ↦ Some Closed ]) is) ∙ none in cc)
  usable_link o b conn (Some l) is twins none =
      let test = and_parts (l.conn == conn) (is_usable l) (first_itself (λ (m : Link). (m.conn == conn) && is_usable m) b.links l is) in
      let itself : find_link l.conn b.links ≡ Some l = each-first_of (λ (m : Link). find_link m.conn b.links ≡ Some m) (λ (m : Link). (m.conn == conn) && is_usable m) b.links l is twins in
      (l, ap (λ e. find_link e b.links) (sym (eqb-true l.conn conn test.0)) ∙ itself, test.1)

  put_command : (o : Opening) (ds : List Deed) (b : Box) (ticket : ℕ) (header : List ℕ) (x : Option PutRefusal) → OwnStands c ds b
      → OwnStands c (ds ++ (Puts (OfCommand ticket header), Put x) ∷ []) (elim x [ Some refusal ↦ b | None ↦ elim (own_conn b (OfCommand ticket header)) [ Some conn ↦ enter conn (own_outgoing (OfCommand ticket header)) b | None ↦ b ] ])
  put_command o ds b ticket header (Some refusal) h = quiet ds (Puts (OfCommand ticket header), Put (Some refusal)) b refl refl h
  put_command o ds b ticket header None h =
      let p : OwnPdu = OfCommand ticket header in
      quiet ds (Puts p, Put None) (elim (own_conn b p) [ Some conn ↦ enter conn (own_outgoing p) b | None ↦ b ]) refl refl
      (elim (own_conn b p) as (λ x. OwnStands c ds (elim x [ Some conn ↦ enter conn (own_outgoing p) b | None ↦ b ])) [ Some conn ↦ enters c ds b conn (own_outgoing p) refl h | None ↦ h ])

  put_connection : (o : Opening) (ds : List Deed) (b : Box) (e : ℕ) (header : List ℕ) (x : Option PutRefusal) → put_refusal o b (OfConnection e header) ≡ x → Twins b.links → OwnStands c ds b
      → OwnStands c (ds ++ (Puts (OfConnection e header), Put x) ∷ []) (elim x [ Some refusal ↦ b | None ↦ enter e (own_outgoing (OfConnection e header)) b ])
  put_connection o ds b e header (Some refusal) is twins h = quiet ds (Puts (OfConnection e header), Put (Some refusal)) b refl refl h
  put_connection o ds b e header None is twins h =
      elim (e == c) as (λ v. (e == c) ≡ v → OwnStands c (ds ++ d ∷ []) (enter e (own_outgoing p) b)) [
        | true ↦ λ here.
            let same : e ≡ c = eqb-true e c here in
            let l = usable_link o b e _ refl twins (none_from (not (is_fit p)) Unfit (refusal_on o b e) is) in
            subst (λ k. OwnStands c (ds ++ d ∷ []) (enter k (own_outgoing p) b)) (sym same)
            (own_put ds b d p l.0 twins (ap (λ k. find_link k b.links) (sym same) ∙ l.1) l.2 (ap (λ v. cond v (p ∷ []) []) here) refl refl (ap (λ v. cond v (p ∷ []) []) here) h)
        | false ↦ λ there.
            quiet ds d (enter e (own_outgoing p) b) refl (ap (λ v. cond v (p ∷ []) []) there) (enters c ds b e (own_outgoing p) (ap (λ v. cond v (p ∷ []) []) there) h)
      ] refl
    where
      p : OwnPdu
      p = OfConnection e header

      d : Deed
      d = (Puts p, Put None)

  -- ---- the other calls

  marked : (ds : List Deed) (b : Box) (conn : ℕ) (change : Link → Link) → ((l : Link) → (change l).conn ≡ l.conn) → ((w : List OwnPdu) (l : Link) → Queued c w l → Queued c w (change l)) → ((l : Link) → LinkFits c l → LinkFits c (change l))
      → OwnStands c ds b → OwnStands c ds (record b { links = at_link conn change b.links })
  marked ds b conn change kept queued fits h =
      let k : OwnStands c ds (record b { links = at_link conn change b.links; undue = b.undue }) = at_one c ds b conn change b.undue kept h (λ l is found q. queued h.waiting l q) fits h.undue in
      record { waiting = k.waiting; whole = k.whole; queued = k.queued; fits = k.fits; undue = k.undue }

  clears : (unit : ℕ) (answers : List Answer) → EachOf (λ (a : Answer). own_in c a.out ≡ []) answers → EachOf (λ (a : Answer). own_in c a.out ≡ []) (cleared unit answers)
  clears unit [] h = tt
  clears unit (a ∷ answers) h =
      cond_both (waits_for_clear unit a) (record a { uncleared = false } ∷ answers) (a ∷ cleared unit answers) (EachOf (λ (x : Answer). own_in c x.out ≡ [])) (λ is. (h.0, h.1)) (λ is. (h.0, clears unit answers h.1))

  -- it has the same queue, and is closed or lost where it was
  write_one : (l : Link) → ((one_written l).conn ≡ l.conn) × (((w : List OwnPdu) → Queued c w l → Queued c w (one_written l)) × (LinkFits c l → LinkFits c (one_written l)))
  write_one l =
      cond_both (nat_lt l.written (length l.handed)) (record l { written = l.written + 1 }) l (λ (m : Link). (m.conn ≡ l.conn) × (((w : List OwnPdu) → Queued c w l → Queued c w m) × (LinkFits c l → LinkFits c m)))
      (λ is. (refl, ((λ w q. q), (λ f. f)))) (λ is. (refl, ((λ w q. q), (λ f. f))))

  hear_one : (exp_stat_sn tag : ℕ) (l : Link) → ((link_heard exp_stat_sn tag l).conn ≡ l.conn) × (((w : List OwnPdu) → Queued c w l → Queued c w (link_heard exp_stat_sn tag l)) × (LinkFits c l → LinkFits c (link_heard exp_stat_sn tag l)))
  hear_one exp_stat_sn tag l =
      cond_both (is_open l) (record l { arrived = max l.arrived (max (arrived_by_stat_sn l exp_stat_sn) (arrived_by_ping l tag)) }) l (λ (m : Link). (m.conn ≡ l.conn) × (((w : List OwnPdu) → Queued c w l → Queued c w m) × (LinkFits c l → LinkFits c m)))
      (λ is. (refl, ((λ w q. q), (λ f. f)))) (λ is. (refl, ((λ w q. q), (λ f. f))))

  own_loses : (o : Opening) (ds : List Deed) (b : Box) (conn : ℕ) → OwnStands c ds b → OwnStands c ds (after_call o b (Loses conn))
  own_loses o ds b conn h =
      let k : OwnStands c ds (record b { links = at_link conn link_lost b.links }) =
      marked ds b conn link_lost (λ l. refl) (λ w l q. ⊎_elim (λ same. inl same) (λ over. inr (over.0, or_second l.closed true refl)) q) (λ l f. f) h in
      let lost : Box = record b { links = at_link conn link_lost b.links; reached = 0 } in
      let stands : OwnStands c ds lost = record { waiting = k.waiting; whole = k.whole; queued = k.queued; fits = k.fits; undue = k.undue } in
      settled o ds (drop_on conn lost) ((own_walk c o ds).drops_on [] lost conn (over_after conn link_lost (λ l. or_second l.closed true refl) b.links) stands)

  own_call : (o : Opening) (ds : List Deed) (b : Box) (call : Call) → Twins b.links → OwnStands c ds b → OwnStands c (ds ++ (call, answered o b call) ∷ []) (after_call o b call)
  own_call o ds b (Takes effects numbers) twins h =
      quiet ds (Takes effects numbers, Silent) (after_call o b (Takes effects numbers)) refl refl
      (event_keeps o (λ items b'. OwnStands c ds b') (own_walk c o ds) (λ items b' exp top k. record { waiting = k.waiting; whole = k.whole; queued = k.queued; fits = k.fits; undue = k.undue }) [] b effects numbers h)
  own_call o ds b (Puts (OfCommand ticket header)) twins h = put_command o ds b ticket header (put_refusal o b (OfCommand ticket header)) h
  own_call o ds b (Puts (OfConnection e header)) twins h = put_connection o ds b e header (put_refusal o b (OfConnection e header)) refl twins h
  own_call o ds b (Stops ticket) twins h =
      quiet ds (Stops ticket, answered o b (Stops ticket)) (after_call o b (Stops ticket)) refl refl
      (cond_both (is_running b ticket) (settle o (in_phase phase_stopped (ticket ∷ []) b)) b (OwnStands c ds)
      (λ is. settled o ds (in_phase phase_stopped (ticket ∷ []) b) (record { waiting = h.waiting; whole = h.whole; queued = h.queued; fits = h.fits; undue = h.undue })) (λ is. h))
  own_call o ds b (Nexts conn) twins h =
      ⊎_elim
      (λ (k : Hand o b conn). subst (OwnStands c (ds ++ (Nexts conn, answered o b (Nexts conn)) ∷ [])) (sym k.after_is) (own_hand o ds b conn (Nexts conn, answered o b (Nexts conn)) k k.shown refl h))
      (λ (k : Idle o b conn). subst (OwnStands c (ds ++ (Nexts conn, answered o b (Nexts conn)) ∷ [])) (sym k.after_is) (quiet ds (Nexts conn, answered o b (Nexts conn)) b (none_handed (Nexts conn, answered o b (Nexts conn)) k.shown) refl h))
      (next o b conn)
  own_call o ds b (Writes conn) twins h =
      quiet ds (Writes conn, Silent) (after_call o b (Writes conn)) refl refl
      (settled o ds (record b { links = at_link conn one_written b.links }) (marked ds b conn one_written (λ l. (write_one l).0) (λ w l. (write_one l).1.0 w) (λ l. (write_one l).1.1) h))
  own_call o ds b (Hears conn exp_stat_sn tag) twins h =
      quiet ds (Hears conn exp_stat_sn tag, Silent) (after_call o b (Hears conn exp_stat_sn tag)) refl refl
      (settled o ds (record b { links = at_link conn (link_heard exp_stat_sn tag) b.links })
      (marked ds b conn (link_heard exp_stat_sn tag) (λ l. (hear_one exp_stat_sn tag l).0) (λ w l. (hear_one exp_stat_sn tag l).1.0 w) (λ l. (hear_one exp_stat_sn tag l).1.1) h))
  own_call o ds b (Joins conn stat_sn) twins h =
      quiet ds (Joins conn stat_sn, answered o b (Joins conn stat_sn)) (after_call o b (Joins conn stat_sn)) refl refl
      (cond_both (may_join b conn) (record b { links = at_link conn (link_joined stat_sn) b.links }) b (OwnStands c ds) (λ is. marked ds b conn (link_joined stat_sn) (λ l. refl) (λ w l q. q) (λ l f. f) h) (λ is. h))
  own_call o ds b (Loses conn) twins h = quiet ds (Loses conn, Silent) (after_call o b (Loses conn)) refl refl (own_loses o ds b conn h)
  own_call o ds b (Clears unit) twins h =
      quiet ds (Clears unit, Silent) (after_call o b (Clears unit)) refl refl
      (settled o ds (record b { undue = cleared unit b.undue }) (record { waiting = h.waiting; whole = h.whole; queued = h.queued; fits = h.fits; undue = clears unit b.undue h.undue }))

  -- ---- all calls

  abbrev Both : List Deed → Box → Type 0
  Both ds b = Twins b.links × OwnStands c ds b

  both_kept : (o : Opening) (ds : List Deed) (b : Box) (call : Call) → Both ds b → Both (ds ++ (call, answered o b call) ∷ []) (after_call o b call)
  both_kept o ds b call h = (box_keeps o (λ es b'. Unit {0}) (HeldBy Twins twins_kept) (conn_boxes Twins twins_kept o (λ es b'. Unit {0})) ds b call tt h.0, own_call o ds b call h.0 h.1)

  new_found : (e : ℕ) (cs : List (ℕ × ℕ)) → list_any (λ (x : ℕ × ℕ). x.0 == e) cs ≡ true → find_link e (map (λ (x : ℕ × ℕ). new_link x.0) cs) ≡ Some (new_link e)
  new_found e [] some = absurd (false≢true some)
  new_found e (x ∷ cs) some =
      elim (x.0 == e) as (λ v. (x.0 == e) ≡ v → (v || list_any (λ (y : ℕ × ℕ). y.0 == e) cs) ≡ true
      → first_of (cond v (new_link x.0 ∷ filter (λ (l : Link). l.conn == e) (map (λ (y : ℕ × ℕ). new_link y.0) cs)) (filter (λ (l : Link). l.conn == e) (map (λ (y : ℕ × ℕ). new_link y.0) cs))) ≡ Some (new_link e)) [
        | true ↦ λ is here. ap (λ k. Some (new_link k)) (eqb-true x.0 e is)
        | false ↦ λ is later. new_found e cs later
      ] refl some

  pub new_twins : (all part : List (ℕ × ℕ)) → ((e : ℕ) → list_any (λ (x : ℕ × ℕ). x.0 == e) part ≡ true → list_any (λ (x : ℕ × ℕ). x.0 == e) all ≡ true)
      → EachOf (λ (l : Link). find_link l.conn (map (λ (x : ℕ × ℕ). new_link x.0) all) ≡ Some l) (map (λ (x : ℕ × ℕ). new_link x.0) part)
  new_twins all [] among = tt
  new_twins all (x ∷ part) among =
      (new_found x.0 all (among x.0 (ap (λ v. v || list_any (λ (y : ℕ × ℕ). y.0 == x.0) part) (eq-eqb x.0 x.0 refl))), new_twins all part (λ e some. among e (or_second (x.0 == e) (list_any (λ (y : ℕ × ℕ). y.0 == e) part) some)))

  new_fits : (cs : List (ℕ × ℕ)) → EachOf (LinkFits c) (map (λ (x : ℕ × ℕ). new_link x.0) cs)
  new_fits [] = tt
  new_fits (x ∷ cs) = ((tt, (λ cut. absurd (false≢true cut))), new_fits cs)

  new_empty : (cs : List (ℕ × ℕ)) → EachOf (λ (l : Link). l.queue ≡ []) (map (λ (x : ℕ × ℕ). new_link x.0) cs)
  new_empty [] = tt
  new_empty (x ∷ cs) = (refl, new_empty cs)

  both_start : (o : Opening) → Both [] (opened o)
  both_start o = (
    new_twins o.session.conns o.session.conns (λ e some. some),
    record {
      waiting = [];
      whole = refl;
      queued = λ l found. inl (sym (ap (own_waiting c) (each-first_of (λ (m : Link). m.queue ≡ []) (λ (m : Link). m.conn == c) (opened o).links l found (new_empty o.session.conns))));
      fits = new_fits o.session.conns;
      undue = tt;
    },
  )

  pub own_order : (o : Opening) (cs : List Call) → (waiting : List OwnPdu) × (handed_of c (deeds_of o cs) ++ waiting ≡ taken_of c (deeds_of o cs))
  own_order o cs = let h : Both (deeds_of o cs) (after_calls o (opened o) cs) = keeps o Both (both_kept o) [] (opened o) cs (both_start o) in (h.1.waiting, h.1.whole)

-- the deeds up to a moment are those of the calls up to it
deeds_before : (o : Opening) (cs : List Call) (before after : List Deed) → before ++ after ≡ deeds_of o cs → (first : List Call) × (before ≡ deeds_of o first)
deeds_before o cs before [] whole = (cs, sym (append-nil before) ∙ whole)
deeds_before o cs before (d ∷ after) whole = let k : Cut o (opened o) cs before d after = cut o (opened o) cs before d after whole in (k.first, k.before_is)

pub keeps_connection_order : (o : Opening) (cs : List Call) → KeepsConnectionOrder (deeds_of o cs)
keeps_connection_order o cs before after conn whole =
    let k = deeds_before o cs before after whole in
    subst (λ ds. (waiting : List OwnPdu) × (handed_of conn ds ++ waiting ≡ taken_of conn ds)) (sym k.1) (own_order conn o k.0)
