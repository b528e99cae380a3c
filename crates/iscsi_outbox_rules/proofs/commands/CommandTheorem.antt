-- A command's own PDUs go out as they were put, for every list of calls that follows a session.
use Rattle.std.proofs.Common.{◌≡◌, ℕ, inl, inr, ⊎_elim, ◌==◌, ◌+◌, ◌≤◌, ◌&&◌, ◌||◌, not, cond, Bool, true, false, List, [], ◌∷◌, ◌++◌, map, max, drop, length, filter, filter_map, nat_lt, Option, Some, None, refl, ap, sym, subst, ◌∙◌, eq-eqb, arith}
use Rattle.std.specs.List.{cons_option}
use Rattle.std.proofs.lemmas.Bool.{cond_both, false≢true, eqb-true, eqb-false}
use Rattle.std.proofs.lemmas.List.{append_assoc, append-nil}
use Rattle.std.proofs.lemmas.List.Concat.{flat_map-append}
use Rattle.std.proofs.lemmas.List.Elements.{filter-append, filter_map-append}
use Rattle.std.proofs.lemmas.List.Sums.{sum_by-cons}
use Rattle.iscsi_rules.specs.declared.effect.Effect.{Effect}
use Rattle.iscsi_rules.specs.promises.Order.{in_parts}
use Rattle.iscsi_rules.specs.rules.Trace.{first_of}
use Rattle.iscsi_rules.proofs.general.ListLemmas.{first_itself}
use Rattle.iscsi_rules.proofs.general.BoolLemmas.{and_parts, or_second, not_true}
use Rattle.iscsi_outbox_rules.specs.declared.own_pdu.PutRefusal.TheVariants.{Unfit, Closed, Full, Gone as GoneRefusal}
use Rattle.iscsi_outbox_rules.specs.declared.own_pdu.OwnPdu.{OwnPdu}
use Rattle.iscsi_outbox_rules.specs.declared.own_pdu.OwnPdu.TheVariants.{OfCommand, OfConnection}
use Rattle.iscsi_outbox_rules.specs.declared.own_pdu.PutRefusal.{PutRefusal}
use Rattle.iscsi_outbox_rules.specs.rules.Calls.{Opening, Call, Takes, Puts, Stops, Nexts, Writes, Hears, Joins, Loses, Clears}
use Rattle.iscsi_outbox_rules.specs.rules.Boxes.{Task, Outgoing, Handed, Answer, Link, Box}
use Rattle.iscsi_outbox_rules.specs.rules.Words.{is_live_phase, is_open, is_running, is_usable}
use Rattle.iscsi_outbox_rules.specs.rules.Queues.{at_link, takes_more, append, enter, drop_on}
use Rattle.iscsi_outbox_rules.specs.rules.Due.{settle}
use Rattle.iscsi_outbox_rules.specs.rules.Items.{in_phase}
use Rattle.iscsi_outbox_rules.specs.rules.Own.{is_fit, is_full, live_task, own_conn, own_outgoing, put_refusal, refusal_on}
use Rattle.iscsi_outbox_rules.specs.rules.Handing.{is_from_queue, taken_from, handed_as, after_given}
use Rattle.iscsi_outbox_rules.specs.rules.Run.{Silent, Put, new_link, opened, after_call, after_calls, answered, phase_stopped, one_written, arrived_by_stat_sn, arrived_by_ping, link_heard, may_join, link_joined, link_lost, waits_for_clear, cleared}
use Rattle.iscsi_outbox_rules.specs.promises.Deeds.{Deed, deeds_of, items_in, items_of_call, handed_in, handed_in_deed, FollowsSession}
use Rattle.iscsi_outbox_rules.specs.promises.Order.{own_of, taken_by, is_of_command, own_taken, own_handed, KeepsCommandOrder}
use Rattle.iscsi_outbox_rules.proofs.general.EachLemmas.{each-at_link, EachOf, each-append, each-first, each-second, each-first_of, each-drop_one}
use Rattle.iscsi_outbox_rules.proofs.general.FoundLemmas.{EachFound, found-at_link, find_link, found-conn}
use Rattle.iscsi_outbox_rules.proofs.general.DeedLemmas.{handed_in-append, items_in-append, items_in-more}
use Rattle.iscsi_outbox_rules.proofs.general.Walks.{over_after}
use Rattle.iscsi_outbox_rules.proofs.general.Chosen.{FromQueue, IsPing, IsNotice, chosen_from}
use Rattle.iscsi_outbox_rules.proofs.general.Cuts.{Cut, cut, keeps, Hand, Idle, next}
use Rattle.iscsi_outbox_rules.proofs.general.ConnLemmas.{Twins, twins_kept, HeldBy, conn_boxes}
use Rattle.iscsi_outbox_rules.proofs.general.Boxwise.{box_keeps}
use Rattle.iscsi_outbox_rules.proofs.order.OwnTheorem.{new_twins}
use Rattle.iscsi_outbox_rules.proofs.commands.TicketLemmas.{with_ticket, entries, entries-append, enters_once, EntersOn, enters_on}
use Rattle.iscsi_outbox_rules.proofs.general.TaskWalks.{phased, phased_onward, task_settles, task_event}
use Rattle.iscsi_outbox_rules.proofs.commands.CommandRuns.{own_in, own_waiting, handed_of, taken_of, OwnEntry, LinkFits, IsPast, Past, Dropped, Queued, CommandStands, phases, command_walk, at_one, same_else, new_undue, enters, append-conn}

module _ (t c : ℕ) where
  pub handed-more : (ds : List Deed) (d : Deed) → handed_of t c (ds ++ d ∷ []) ≡ handed_of t c ds ++ handed_of t c (d ∷ [])
  handed-more ds d =
      let f : ℕ × Handed → Option OwnPdu = λ g. own_of g.1.out.pdu in
      ap (λ gs. filter (is_of_command t) (filter_map f gs)) (handed_in-append ds (d ∷ []))
      ∙ ap (filter (is_of_command t)) (filter_map-append f (handed_in ds) (handed_in (d ∷ [])))
      ∙ filter-append (is_of_command t) (own_handed ds) (own_handed (d ∷ []))

  pub taken-more : (ds : List Deed) (d : Deed) → taken_of t c (ds ++ d ∷ []) ≡ taken_of t c ds ++ taken_of t c (d ∷ [])
  taken-more ds d =
      ap (filter (is_of_command t)) (filter_map-append (λ (e : Deed). taken_by e.0 e.1) ds (d ∷ []))
      ∙ filter-append (is_of_command t) (own_taken ds) (own_taken (d ∷ []))

  -- a deed that shows none of them
  quiet : (n : ℕ) (ds : List Deed) (d : Deed) (b : Box) → handed_of t c (d ∷ []) ≡ [] → taken_of t c (d ∷ []) ≡ [] → CommandStands t c n ds b → CommandStands t c n (ds ++ d ∷ []) b
  quiet n ds d b handed taken h = record {
    waiting = h.waiting;
    whole = ap (λ xs. xs ++ h.waiting) (handed-more ds d ∙ ap (λ xs. handed_of t c ds ++ xs) handed ∙ append-nil (handed_of t c ds)) ∙ h.whole ∙ sym same;
    queued = h.queued;
    fits = h.fits;
    undue = h.undue;
    homes = h.homes;
    before = λ none. same ∙ h.before none;
    known = h.known;
  }
    where
      same : taken_of t c (ds ++ d ∷ []) ≡ taken_of t c ds
      same = taken-more ds d ∙ ap (λ xs. taken_of t c ds ++ xs) taken ∙ append-nil (taken_of t c ds)

  pub none_handed : (d : Deed) → handed_in_deed d ≡ None → handed_of t c (d ∷ []) ≡ []
  none_handed d none = ap (λ x. filter (is_of_command t) (filter_map (λ (g : ℕ × Handed). own_of g.1.out.pdu) (cons_option x []))) none

  settled : (o : Opening) (n : ℕ) (ds : List Deed) (b : Box) → CommandStands t c n ds b → CommandStands t c n ds (settle o b)
  settled o n ds b h = task_settles o t c (λ m b'. CommandStands t c m ds b') (command_walk t c o ds) n b h

  -- ---- handing out

  pub own_taken_from : (l : Link) (out : Outgoing) (rest : List Outgoing) → l.queue ≡ out ∷ rest → OwnEntry t c l.conn out → own_waiting t c l.queue ≡ own_in t c out ++ own_waiting t c (taken_from out l).queue
  own_taken_from l out rest is e =
      ⊎_elim
      (λ none. cond_both (is_from_queue out) (record l { queue = drop 1 l.queue }) l (λ (m : Link). own_waiting t c l.queue ≡ own_in t c out ++ own_waiting t c m.queue)
      (λ q. ap (own_waiting t c) is ∙ ap (λ ys. own_in t c out ++ own_waiting t c ys) (sym (ap (drop 1) is)))
      (λ q. ap (λ ys. ys ++ own_waiting t c l.queue) (sym none)))
      (λ own. ap (own_waiting t c) is ∙ ap (λ ys. own_in t c out ++ own_waiting t c ys) (sym (ap (λ v. (cond v (record l { queue = drop 1 l.queue }) l).queue) own.2 ∙ ap (drop 1) is)))
      e

  empty_first : (xs ys : List OwnPdu) → xs ++ ys ≡ [] → (xs ≡ []) × (ys ≡ [])
  empty_first [] ys h = (refl, h)
  empty_first (x ∷ xs) ys h = absurd cc

  some_link : (l m : Link) → Some l ≡ Some m → l ≡ m
  some_link l m h = cc

  -- what stands of the connection's queue alone
  abbrev Is : List OwnPdu → Link → Type 0
  Is waiting m = m.conn ≡ c → waiting ≡ own_waiting t c m.queue

  is_queued : (ts : List Task) (waiting : List OwnPdu) (links : List Link) → EachFound (Is waiting) links → (l : Link) → find_link c links ≡ Some l → Queued t c ts waiting l
  is_queued ts waiting links h l found = inl (h c l found (found-conn c links l found))

  taken-conn : (out : Outgoing) (m : Link) → (taken_from out m).conn ≡ m.conn
  taken-conn out m = cond_both (is_from_queue out) (record m { queue = drop 1 m.queue }) m (λ (x : Link). x.conn ≡ m.conn) (λ is. refl) (λ is. refl)

  taken_fits : (out : Outgoing) (m : Link) → LinkFits t c m → LinkFits t c (taken_from out m)
  taken_fits out m f = cond_both (is_from_queue out) (record m { queue = drop 1 m.queue }) m (LinkFits t c) (λ is. (each-drop_one (OwnEntry t c m.conn) m.queue f.0, f.1)) (λ is. f)

  own_hand : (o : Opening) (n : ℕ) (ds : List Deed) (b : Box) (conn : ℕ) (d : Deed) (k : Hand o b conn) → handed_in_deed d ≡ Some (conn, k.handed) → taken_of t c (d ∷ []) ≡ [] → CommandStands t c n ds b
      → CommandStands t c n (ds ++ d ∷ []) (after_given o b k.handing.link k.handed)
  own_hand o n ds b conn d k shown untaken h = subst (λ (x : Handed). CommandStands t c n (ds ++ d ∷ []) (after_given o b l x)) (sym k.handing.is) by_source
    where
      l : Link
      l = k.handing.link

      out : Outgoing
      out = k.handing.out

      g : Handed
      g = handed_as o b l out

      at : l.conn ≡ conn
      at = found-conn conn b.links l k.handing.found

      fits : LinkFits t c l
      fits = each-first_of (LinkFits t c) (λ (m : Link). m.conn == conn) b.links l k.handing.found h.fits

      handed : handed_of t c (d ∷ []) ≡ own_in t c out
      handed = ap (λ x. filter (is_of_command t) (filter_map (λ (y : ℕ × Handed). own_of y.1.out.pdu) (cons_option x []))) shown ∙ ap (λ (x : Handed). own_in t c x.out) k.handing.is

      push : Link → Link
      push m = record m { handed = m.handed ++ g ∷ [] }

      itself : (m : Link) → m.conn ≡ l.conn → find_link c b.links ≡ Some m → m ≡ l
      itself m same found = some_link m l (sym found ∙ ap (λ e. find_link e b.links) (sym (found-conn c b.links m found) ∙ same ∙ at) ∙ k.handing.found)

      same_taken : taken_of t c (ds ++ d ∷ []) ≡ taken_of t c ds
      same_taken = taken-more ds d ∙ ap (λ xs. taken_of t c ds ++ xs) untaken ∙ append-nil (taken_of t c ds)

      -- it is none of the command's own
      apart : own_in t c out ≡ [] → own_waiting t c (taken_from out l).queue ≡ own_waiting t c l.queue → CommandStands t c n (ds ++ d ∷ []) (after_given o b l g)
      apart none same =
          let one : Box = record b { links = at_link l.conn (taken_from out) b.links; undue = b.undue } in
          let taken : CommandStands t c n ds one =
          at_one t c n ds b l.conn (taken_from out) b.undue (taken-conn out) h
          (λ m is found q. subst (λ (x : Link). Queued t c b.tasks h.waiting (taken_from out x)) (sym (itself m is found))
          (cond_both (is_from_queue out) (record l { queue = drop 1 l.queue }) l (λ (x : Link). own_waiting t c x.queue ≡ own_waiting t c l.queue → Queued t c b.tasks h.waiting x)
          (λ f e. again l (drop 1 l.queue) e (subst (Queued t c b.tasks h.waiting) (itself m is found) q)) (λ f e. subst (Queued t c b.tasks h.waiting) (itself m is found) q) same))
          (taken_fits out) h.undue in
          let two : Box = record one { links = at_link l.conn push one.links; undue = b.undue } in
          let pushed : CommandStands t c n ds two = at_one t c n ds one l.conn push b.undue (λ m. refl) taken (λ m is found q. pushed_queued m taken.waiting q) (λ m f. f) h.undue in
          let moved : CommandStands t c n ds (after_given o b l g) = same_else t c n ds two b.sent b.time b.exp b.max (after_given o b l g).shown (after_given o b l g).reached pushed in
          quiet n ds d (after_given o b l g) (handed ∙ none) untaken moved
        where
          again : (m : Link) (queue : List Outgoing) → own_waiting t c queue ≡ own_waiting t c m.queue → Queued t c b.tasks h.waiting m → Queued t c b.tasks h.waiting (record m { queue = queue })
          again m queue e q = ⊎_elim (λ is. inl (is ∙ sym e)) (λ (x : Dropped t c b.tasks m). inr (record { empty = e ∙ x.empty; why = x.why })) q

          pushed_queued : (m : Link) (w : List OwnPdu) → Queued t c b.tasks w m → Queued t c b.tasks w (push m)
          pushed_queued m w q = ⊎_elim (λ is. inl is) (λ (x : Dropped t c b.tasks m). inr (record { empty = x.empty; why = x.why })) q

      -- it is the first of them
      first : (rest : List Outgoing) → l.queue ≡ out ∷ rest → l.conn ≡ c → OwnEntry t c l.conn out → CommandStands t c n (ds ++ d ∷ []) (after_given o b l g)
      first rest is here entry =
          ⊎_elim
          (λ waits. record {
            waiting = left;
            whole =
                ap (λ xs. xs ++ left) (handed-more ds d ∙ ap (λ xs. handed_of t c ds ++ xs) handed) ∙ append_assoc (handed_of t c ds) (own_in t c out) left
                ∙ ap (λ xs. handed_of t c ds ++ xs) (sym (waits ∙ parts)) ∙ h.whole ∙ sym same_taken;
            queued = is_queued b.tasks left (after_given o b l g).links lines;
            fits = each-at_link (LinkFits t c) (LinkFits t c) l.conn push (at_link l.conn (taken_from out) b.links) (λ m is f. f) (λ m isnt f. f)
                (each-at_link (LinkFits t c) (LinkFits t c) l.conn (taken_from out) b.links (λ m is f. taken_fits out m f) (λ m isnt f. f) h.fits);
            undue = h.undue;
            homes = h.homes;
            before = λ none. same_taken ∙ h.before none;
            known = h.known;
          })
          (λ (x : Dropped t c b.tasks l). let none = empty_first (own_in t c out) left (sym parts ∙ x.empty) in apart none.0 (none.1 ∙ sym x.empty))
          (h.queued l (ap (λ e. find_link e b.links) (sym here ∙ at) ∙ k.handing.found))
        where
          left : List OwnPdu
          left = own_waiting t c (taken_from out l).queue

          parts : own_waiting t c l.queue ≡ own_in t c out ++ left
          parts = own_taken_from l out rest is entry

          lines : EachFound (Is left) (after_given o b l g).links
          lines =
              found-at_link (Is left) (Is left) l.conn push (λ m. refl) (at_link l.conn (taken_from out) b.links) (λ m found j. j) (λ m isnt j. j)
              (found-at_link (λ (m : Link). Unit {0}) (Is left) l.conn (taken_from out) (taken-conn out) b.links
              (λ m found j. subst (λ (x : Link). Is left (taken_from out x)) (some_link l m (sym (ap (λ e. find_link e b.links) at ∙ k.handing.found) ∙ found)) (λ same. refl))
              (λ m isnt j same. absurd (eqb-false m.conn l.conn isnt (same ∙ sym here))) (λ e m found. tt))

      other : (own_in t c out ≡ []) → (is_from_queue out ≡ false) → CommandStands t c n (ds ++ d ∷ []) (after_given o b l g)
      other none unqueued = apart none (ap (λ v. own_waiting t c (cond v (record l { queue = drop 1 l.queue }) l).queue) unqueued)

      by_source : CommandStands t c n (ds ++ d ∷ []) (after_given o b l g)
      by_source =
          ⊎_elim
          (λ (q : FromQueue o b l out).
          let entry : OwnEntry t c l.conn out = (subst (EachOf (OwnEntry t c l.conn)) q.queue_is fits.0).0 in
          ⊎_elim
          (λ none. apart none (sym (own_taken_from l out q.rest q.queue_is entry ∙ ap (λ ys. ys ++ own_waiting t c (taken_from out l).queue) none)))
          (λ own. first q.rest q.queue_is own.0 entry) entry)
          (⊎_elim
          (λ (p : IsPing o b l out). other (ap (own_in t c) p.is) (ap is_from_queue p.is))
          (λ (p : IsNotice o b l out). other (ap (own_in t c) p.is) (ap is_from_queue p.is)))
          (chosen_from o b l out k.handing.chosen_is).source

  -- ---- putting

  none_from : (v : Bool) (r : PutRefusal) (x : Option PutRefusal) → cond v (Some r) x ≡ None → x ≡ None
  none_from true r x h = absurd cc
  none_from false r x h = h

  pub usable_link : (o : Opening) (b : Box) (conn : ℕ) (x : Option Link) → first_of (filter (λ (l : Link). (l.conn == conn) && is_usable l) b.links) ≡ x → Twins b.links → refusal_on o b conn ≡ None
      → (l : Link) × (find_link conn b.links ≡ Some l) × (is_usable l ≡ true)
  usable_link o b conn None is twins none = absurd (let no : Some Closed ≡ None = sym (ap (λ x. elim x [ Some l ↦ cond (is_full o l) (Some Full) None | None ↦ Some Closed ]) is) ∙ none in cc)
  usable_link o b conn (Some l) is twins none =
      let test = and_parts (l.conn == conn) (is_usable l) (first_itself (λ (m : Link). (m.conn == conn) && is_usable m) b.links l is) in
      let itself : find_link l.conn b.links ≡ Some l = each-first_of (λ (m : Link). find_link m.conn b.links ≡ Some m) (λ (m : Link). (m.conn == conn) && is_usable m) b.links l is twins in
      (l, ap (λ e. find_link e b.links) (sym (eqb-true l.conn conn test.0)) ∙ itself, test.1)

  -- a live command with the ticket
  record Live (b : Box) : Type 0 where
    task : Task
    ticket : task.ticket ≡ t
    live : is_live_phase task.phase ≡ true
    conn : task.conn ≡ c
    counted : 1 ≤ with_ticket t b.tasks
    unpast : EachOf (IsPast t c) b.tasks → ⊥

  found_counts : (ts : List Task) (x : Task) (p : Task → Bool) → ((y : Task) → p y ≡ true → y.ticket ≡ t) → first_of (filter p ts) ≡ Some x → 1 ≤ with_ticket t ts
  found_counts [] x p of found = absurd cc
  found_counts (y ∷ ts) x p of found =
      let parts : with_ticket t (y ∷ ts) ≡ cond {A = ℕ} (y.ticket == t) 1 0 + with_ticket t ts = sum_by-cons (λ (z : Task). cond (z.ticket == t) 1 0) y ts in
      elim (p y) as (λ v. p y ≡ v → first_of (cond v (y ∷ filter p ts) (filter p ts)) ≡ Some x → 1 ≤ with_ticket t (y ∷ ts)) [
        | true ↦ λ is here. let one : cond {A = ℕ} (y.ticket == t) 1 0 ≡ 1 = ap (λ v. cond {A = ℕ} v 1 0) (eq-eqb y.ticket t (of y is)) in omega (arith, parts, one)
        | false ↦ λ is later. let rest : 1 ≤ with_ticket t ts = found_counts ts x p of later in omega (arith, parts, rest)
      ] refl found

  live_one : (n : ℕ) (ds : List Deed) (b : Box) (x : Task) → live_task b t ≡ Some x → CommandStands t c n ds b → Live b
  live_one n ds b x found h =
      let p : Task → Bool = λ y. (y.ticket == t) && is_live_phase y.phase in
      let parts = and_parts (x.ticket == t) (is_live_phase x.phase) (first_itself p b.tasks x found) in
      let ticket : x.ticket ≡ t = eqb-true x.ticket t parts.0 in
      record {
        task = x;
        ticket = ticket;
        live = parts.1;
        conn = each-first_of (λ (y : Task). y.ticket ≡ t → y.conn ≡ c) p b.tasks x found h.homes ticket;
        counted = found_counts b.tasks x p (λ y is. eqb-true y.ticket t (and_parts (y.ticket == t) (is_live_phase y.phase) is).0) found;
        unpast = λ past. false≢true (sym (each-first_of (IsPast t c) p b.tasks x found past ticket) ∙ parts.1);
      }

  -- an own PDU of the command enters
  own_put : (n : ℕ) (ds : List Deed) (b : Box) (d : Deed) (p : OwnPdu) (l : Link) → Live b → find_link c b.links ≡ Some l → is_usable l ≡ true → own_in t c (own_outgoing p) ≡ p ∷ [] → (own_outgoing p).ticket ≡ Some t
      → handed_of t c (d ∷ []) ≡ [] → taken_of t c (d ∷ []) ≡ p ∷ [] → CommandStands t c n ds b → CommandStands t c n (ds ++ d ∷ []) (enter c (own_outgoing p) b)
  own_put n ds b d p l live found usable own ticket handed taken h = record {
    waiting = h.waiting ++ p ∷ [];
    whole =
        ap (λ xs. xs ++ (h.waiting ++ p ∷ [])) (handed-more ds d ∙ ap (λ xs. handed_of t c ds ++ xs) handed ∙ append-nil (handed_of t c ds))
        ∙ sym (append_assoc (handed_of t c ds) h.waiting (p ∷ [])) ∙ ap (λ xs. xs ++ p ∷ []) h.whole ∙ sym (taken-more ds d ∙ ap (λ xs. taken_of t c ds ++ xs) taken);
    queued = is_queued b.tasks (h.waiting ++ p ∷ []) (at_link c (append out) b.links) lines;
    fits = each-at_link (LinkFits t c) (LinkFits t c) c (append out) b.links
        (λ m is f. cond_both (takes_more m) (record m { queue = m.queue ++ out ∷ [] }) m (LinkFits t c) (λ more. (each-append (OwnEntry t c m.conn) m.queue (out ∷ []) f.0 (inr (is, ticket, refl), tt), f.1)) (λ more. f)) (λ m isnt f. f) h.fits;
    undue = h.undue;
    homes = h.homes;
    before = λ none. absurd (let some : 1 ≤ with_ticket t b.tasks = live.counted in omega (arith, none, some));
    known = h.known;
  }
    where
      out : Outgoing
      out = record (own_outgoing p) { time = b.time }

      parts : (is_open l ≡ true) × (not l.closed ≡ true)
      parts = and_parts (is_open l) (not l.closed) usable

      unlost : not l.lost ≡ true
      unlost = (and_parts l.joined (not l.lost) parts.0).1

      fits : LinkFits t c l
      fits = each-first_of (LinkFits t c) (λ (m : Link). m.conn == c) b.links l found h.fits

      uncut : (v : Bool) → l.cut ≡ v → not v ≡ true
      uncut false is = refl
      uncut true is = absurd (false≢true (sym (not_true l.closed parts.1) ∙ fits.1 is))

      takes : takes_more l ≡ true
      takes = ap (λ v. v && not l.cut) parts.0 ∙ uncut l.cut refl

      waits : h.waiting ≡ own_waiting t c l.queue
      waits =
          ⊎_elim (λ is. is)
          (λ (x : Dropped t c b.tasks l).
          ⊎_elim (λ over. absurd (false≢true (sym (ap (λ v. v || l.lost) (not_true l.closed parts.1) ∙ not_true l.lost unlost) ∙ over)))
          (λ (past : Past t c b.tasks). absurd (live.unpast past.past)) x.why)
          (h.queued l found)

      lines : EachFound (Is (h.waiting ++ p ∷ [])) (at_link c (append out) b.links)
      lines =
          found-at_link (λ (m : Link). Unit {0}) (Is (h.waiting ++ p ∷ [])) c (append out) (append-conn t c out) b.links
          (λ m there j. subst (λ (x : Link). Is (h.waiting ++ p ∷ []) (append out x)) (some_link l m (sym found ∙ there))
          (λ same. ap (λ xs. xs ++ p ∷ []) waits ∙ sym (ap (λ v. own_waiting t c (cond v (record l { queue = l.queue ++ out ∷ [] }) l).queue) takes ∙ flat_map-append (own_in t c) l.queue (out ∷ []) ∙ ap (λ xs. own_waiting t c l.queue ++ (xs ++ [])) own)))
          (λ m isnt j same. absurd (eqb-false m.conn c isnt same)) (λ e m there. tt)

  -- the box after a put, by what it finds
  abbrev entered_by : Box → OwnPdu → Option ℕ → Box
  entered_by b p x = elim x [ Some conn ↦ enter conn (own_outgoing p) b | None ↦ b ]

  abbrev put_by : Box → OwnPdu → Option PutRefusal → Box
  put_by b p x = elim x [ Some refusal ↦ b | None ↦ entered_by b p (own_conn b p) ]

  put_other : (n : ℕ) (ds : List Deed) (b : Box) (p : OwnPdu) (x : Option PutRefusal) → own_in t c (own_outgoing p) ≡ [] → ((y : Option PutRefusal) → taken_of t c ((Puts p, Put y) ∷ []) ≡ []) → CommandStands t c n ds b
      → CommandStands t c n (ds ++ (Puts p, Put x) ∷ []) (put_by b p x)
  put_other n ds b p (Some refusal) own untaken h = quiet n ds (Puts p, Put (Some refusal)) b refl (untaken (Some refusal)) h
  put_other n ds b p None own untaken h =
      quiet n ds (Puts p, Put None) (entered_by b p (own_conn b p)) refl (untaken None)
      (elim (own_conn b p) as (λ x. CommandStands t c n ds (entered_by b p x)) [ Some conn ↦ enters t c n ds b conn (own_outgoing p) own h | None ↦ h ])

  abbrev conn_of : Option Task → Option ℕ
  conn_of x = elim x [ Some y ↦ Some y.conn | None ↦ None ]

  abbrev by_conn : Opening → Box → Option ℕ → Option PutRefusal
  by_conn o b x = elim x [ Some conn ↦ refusal_on o b conn | None ↦ Some GoneRefusal ]

  put_own : (o : Opening) (n : ℕ) (ds : List Deed) (b : Box) (header : List ℕ) (x : Option PutRefusal) → put_refusal o b (OfCommand t header) ≡ x → Twins b.links → CommandStands t c n ds b
      → CommandStands t c n (ds ++ (Puts (OfCommand t header), Put x) ∷ []) (put_by b (OfCommand t header) x)
  put_own o n ds b header (Some refusal) is twins h = quiet n ds (Puts (OfCommand t header), Put (Some refusal)) b refl refl h
  put_own o n ds b header None is twins h = by_task (live_task b t) refl
    where
      p : OwnPdu
      p = OfCommand t header

      d : Deed
      d = (Puts p, Put None)

      itself : (t == t) ≡ true
      itself = eq-eqb t t refl

      refused : by_conn o b (own_conn b p) ≡ None
      refused = none_from (not (is_fit p)) Unfit (by_conn o b (own_conn b p)) is

      not_gone : by_conn o b None ≡ None → ⊥
      not_gone h = cc

      by_task : (x : Option Task) → live_task b t ≡ x → CommandStands t c n (ds ++ d ∷ []) (entered_by b p (own_conn b p))
      by_task None none = absurd (not_gone (sym (ap (by_conn o b) (ap conn_of none)) ∙ refused))
      by_task (Some x) found =
          let live : Live b = live_one n ds b x found h in
          let at : x.conn ≡ c = each-first_of (λ (y : Task). y.ticket ≡ t → y.conn ≡ c) (λ (y : Task). (y.ticket == t) && is_live_phase y.phase) b.tasks x found h.homes
          (eqb-true x.ticket t (and_parts (x.ticket == t) (is_live_phase x.phase) (first_itself (λ (y : Task). (y.ticket == t) && is_live_phase y.phase) b.tasks x found)).0) in
          let conn : own_conn b p ≡ Some c = ap conn_of found ∙ ap (λ k. Some k) at in
          let l = usable_link o b c _ refl twins (sym (ap (by_conn o b) conn) ∙ refused) in
          subst (λ y. CommandStands t c n (ds ++ d ∷ []) (entered_by b p y)) (sym conn)
          (own_put n ds b d p l.0 live l.1 l.2 (ap (λ v. cond v (p ∷ []) []) itself) refl refl (ap (λ v. cond v (p ∷ []) []) itself) h)

  put_command : (o : Opening) (n : ℕ) (ds : List Deed) (b : Box) (ticket : ℕ) (header : List ℕ) → Twins b.links → CommandStands t c n ds b
      → CommandStands t c n (ds ++ (Puts (OfCommand ticket header), Put (put_refusal o b (OfCommand ticket header))) ∷ []) (after_call o b (Puts (OfCommand ticket header)))
  put_command o n ds b ticket header twins h =
      elim (ticket == t) as (λ v. (ticket == t) ≡ v → CommandStands t c n (ds ++ (Puts (OfCommand ticket header), Put (put_refusal o b (OfCommand ticket header))) ∷ []) (after_call o b (Puts (OfCommand ticket header)))) [
        | true ↦ λ is.
            subst (λ k. CommandStands t c n (ds ++ (Puts (OfCommand k header), Put (put_refusal o b (OfCommand k header))) ∷ []) (after_call o b (Puts (OfCommand k header)))) (sym (eqb-true ticket t is))
            (put_own o n ds b header (put_refusal o b (OfCommand t header)) refl twins h)
        | false ↦ λ isnt.
            put_other n ds b (OfCommand ticket header) (put_refusal o b (OfCommand ticket header)) (ap (λ v. cond v (OfCommand ticket header ∷ []) []) isnt)
            (λ y. elim y as (λ z. taken_of t c ((Puts (OfCommand ticket header), Put z) ∷ []) ≡ []) [ Some refusal ↦ refl | None ↦ ap (λ v. cond v (OfCommand ticket header ∷ []) []) isnt ]) h
      ] refl

  -- ---- the other calls

  -- it has the same queue, and is closed or lost where it was
  record Kept (l m : Link) : Type 0 where
    conn : m.conn ≡ l.conn
    queue : m.queue ≡ l.queue
    cut : m.cut ≡ l.cut
    closed : m.closed ≡ l.closed
    lost : l.lost ≡ true → m.lost ≡ true

  or_lost : (x y z : Bool) → (y ≡ true → z ≡ true) → (x || y) ≡ true → (x || z) ≡ true
  or_lost true y z f h = refl
  or_lost false y z f h = f h

  kept_queued : (l m : Link) → Kept l m → (ts : List Task) (w : List OwnPdu) → Queued t c ts w l → Queued t c ts w m
  kept_queued l m k ts w q =
      ⊎_elim (λ is. inl (is ∙ ap (own_waiting t c) (sym k.queue)))
      (λ (x : Dropped t c ts l). inr (record {
        empty = ap (own_waiting t c) k.queue ∙ x.empty;
        why = ⊎_elim (λ over. inl (ap (λ v. v || m.lost) k.closed ∙ or_lost l.closed l.lost m.lost k.lost over)) (λ past. inr past) x.why;
      })) q

  kept_fits : (l m : Link) → Kept l m → LinkFits t c l → LinkFits t c m
  kept_fits l m k f = (subst (λ e. EachOf (OwnEntry t c e) m.queue) (sym k.conn) (subst (EachOf (OwnEntry t c l.conn)) (sym k.queue) f.0), (λ cut. k.closed ∙ f.1 (sym k.cut ∙ cut)))

  marked : (n : ℕ) (ds : List Deed) (b : Box) (conn : ℕ) (change : Link → Link) → ((l : Link) → Kept l (change l)) → CommandStands t c n ds b → CommandStands t c n ds (record b { links = at_link conn change b.links })
  marked n ds b conn change kept h =
      at_one t c n ds b conn change b.undue (λ l. (kept l).conn) h (λ l is found q. kept_queued l (change l) (kept l) b.tasks h.waiting q) (λ l f. kept_fits l (change l) (kept l) f) h.undue

  clears : (unit : ℕ) (answers : List Answer) → EachOf (λ (a : Answer). own_in t c a.out ≡ []) answers → EachOf (λ (a : Answer). own_in t c a.out ≡ []) (cleared unit answers)
  clears unit [] h = tt
  clears unit (a ∷ answers) h =
      cond_both (waits_for_clear unit a) (record a { uncleared = false } ∷ answers) (a ∷ cleared unit answers) (EachOf (λ (x : Answer). own_in t c x.out ≡ [])) (λ is. (h.0, h.1)) (λ is. (h.0, clears unit answers h.1))

  write_one : (l : Link) → Kept l (one_written l)
  write_one l =
      cond_both (nat_lt l.written (length l.handed)) (record l { written = l.written + 1 }) l (Kept l)
      (λ is. record { conn = refl; queue = refl; cut = refl; closed = refl; lost = λ x. x }) (λ is. record { conn = refl; queue = refl; cut = refl; closed = refl; lost = λ x. x })

  hear_one : (exp_stat_sn tag : ℕ) (l : Link) → Kept l (link_heard exp_stat_sn tag l)
  hear_one exp_stat_sn tag l =
      cond_both (is_open l) (record l { arrived = max l.arrived (max (arrived_by_stat_sn l exp_stat_sn) (arrived_by_ping l tag)) }) l (Kept l)
      (λ is. record { conn = refl; queue = refl; cut = refl; closed = refl; lost = λ x. x }) (λ is. record { conn = refl; queue = refl; cut = refl; closed = refl; lost = λ x. x })

  own_loses : (o : Opening) (n : ℕ) (ds : List Deed) (b : Box) (conn : ℕ) → CommandStands t c n ds b → CommandStands t c n ds (after_call o b (Loses conn))
  own_loses o n ds b conn h =
      let marks : Box = record b { links = at_link conn link_lost b.links } in
      let k : CommandStands t c n ds marks = marked n ds b conn link_lost (λ l. record { conn = refl; queue = refl; cut = refl; closed = refl; lost = λ x. refl }) h in
      let lost : Box = record marks { reached = 0 } in
      let stands : CommandStands t c n ds lost = same_else t c n ds marks b.sent b.time b.exp b.max b.shown 0 k in
      settled o n ds (drop_on conn lost) ((command_walk t c o ds).drops_on n lost conn (over_after conn link_lost (λ l. or_second l.closed true refl) b.links) stands)

  own_call : (o : Opening) (n : ℕ) (ds : List Deed) (b : Box) (call : Call) → n + entries t (items_of_call call) ≤ 1 → EachOf (EntersOn t c) (items_of_call call) → Twins b.links → CommandStands t c n ds b
      → CommandStands t c (n + entries t (items_of_call call)) (ds ++ (call, answered o b call) ∷ []) (after_call o b call)
  own_call o n ds b (Takes effects numbers) once on twins h =
      quiet (n + entries t (in_parts effects)) ds (Takes effects numbers, Silent) (after_call o b (Takes effects numbers)) refl refl
      (task_event o t c (λ m b'. CommandStands t c m ds b') (command_walk t c o ds) n b effects numbers once on h)
  own_call o n ds b (Puts (OfCommand ticket header)) once on twins h = more_none n (ds ++ _ ∷ []) _ (put_command o n ds b ticket header twins h)
    where
      more_none : (m : ℕ) (es : List Deed) (b' : Box) → CommandStands t c m es b' → CommandStands t c (m + 0) es b'
      more_none m es b' k = (command_walk t c o es).more m 0 b' k
  own_call o n ds b (Puts (OfConnection e header)) once on twins h =
      (command_walk t c o (ds ++ d ∷ [])).more n 0 (after_call o b (Puts (OfConnection e header)))
      (put_other n ds b (OfConnection e header) (put_refusal o b (OfConnection e header)) refl (λ y. elim y as (λ z. taken_of t c ((Puts (OfConnection e header), Put z) ∷ []) ≡ []) [ Some refusal ↦ refl | None ↦ refl ]) h)
    where
      d : Deed
      d = (Puts (OfConnection e header), answered o b (Puts (OfConnection e header)))
  own_call o n ds b (Stops ticket) once on twins h =
      (command_walk t c o (ds ++ (Stops ticket, answered o b (Stops ticket)) ∷ [])).more n 0 (after_call o b (Stops ticket))
      (quiet n ds (Stops ticket, answered o b (Stops ticket)) (after_call o b (Stops ticket)) refl refl
      (cond_both (is_running b ticket) (settle o (in_phase phase_stopped (ticket ∷ []) b)) b (CommandStands t c n ds)
      (λ is. settled o n ds (in_phase phase_stopped (ticket ∷ []) b) (phases t c n ds b (phased phase_stopped (ticket ∷ [])) (phased_onward phase_stopped (λ among stays. stays.stopped) (ticket ∷ [])) h)) (λ is. h)))
  own_call o n ds b (Nexts conn) once on twins h =
      (command_walk t c o (ds ++ (Nexts conn, answered o b (Nexts conn)) ∷ [])).more n 0 (after_call o b (Nexts conn))
      (⊎_elim
      (λ (k : Hand o b conn). subst (CommandStands t c n (ds ++ (Nexts conn, answered o b (Nexts conn)) ∷ [])) (sym k.after_is) (own_hand o n ds b conn (Nexts conn, answered o b (Nexts conn)) k k.shown refl h))
      (λ (k : Idle o b conn). subst (CommandStands t c n (ds ++ (Nexts conn, answered o b (Nexts conn)) ∷ [])) (sym k.after_is) (quiet n ds (Nexts conn, answered o b (Nexts conn)) b (none_handed (Nexts conn, answered o b (Nexts conn)) k.shown) refl h))
      (next o b conn))
  own_call o n ds b (Writes conn) once on twins h =
      (command_walk t c o (ds ++ (Writes conn, Silent) ∷ [])).more n 0 (after_call o b (Writes conn))
      (quiet n ds (Writes conn, Silent) (after_call o b (Writes conn)) refl refl (settled o n ds (record b { links = at_link conn one_written b.links }) (marked n ds b conn one_written write_one h)))
  own_call o n ds b (Hears conn exp_stat_sn tag) once on twins h =
      (command_walk t c o (ds ++ (Hears conn exp_stat_sn tag, Silent) ∷ [])).more n 0 (after_call o b (Hears conn exp_stat_sn tag))
      (quiet n ds (Hears conn exp_stat_sn tag, Silent) (after_call o b (Hears conn exp_stat_sn tag)) refl refl
      (settled o n ds (record b { links = at_link conn (link_heard exp_stat_sn tag) b.links }) (marked n ds b conn (link_heard exp_stat_sn tag) (hear_one exp_stat_sn tag) h)))
  own_call o n ds b (Joins conn stat_sn) once on twins h =
      (command_walk t c o (ds ++ (Joins conn stat_sn, answered o b (Joins conn stat_sn)) ∷ [])).more n 0 (after_call o b (Joins conn stat_sn))
      (quiet n ds (Joins conn stat_sn, answered o b (Joins conn stat_sn)) (after_call o b (Joins conn stat_sn)) refl refl
      (cond_both (may_join b conn) (record b { links = at_link conn (link_joined stat_sn) b.links }) b (CommandStands t c n ds)
      (λ is. marked n ds b conn (link_joined stat_sn) (λ l. record { conn = refl; queue = refl; cut = refl; closed = refl; lost = λ x. x }) h) (λ is. h)))
  own_call o n ds b (Loses conn) once on twins h =
      (command_walk t c o (ds ++ (Loses conn, Silent) ∷ [])).more n 0 (after_call o b (Loses conn))
      (quiet n ds (Loses conn, Silent) (after_call o b (Loses conn)) refl refl (own_loses o n ds b conn h))
  own_call o n ds b (Clears unit) once on twins h =
      (command_walk t c o (ds ++ (Clears unit, Silent) ∷ [])).more n 0 (after_call o b (Clears unit))
      (quiet n ds (Clears unit, Silent) (after_call o b (Clears unit)) refl refl
      (settled o n ds (record b { undue = cleared unit b.undue }) (new_undue t c n ds b (cleared unit b.undue) (clears unit b.undue h.undue) h)))

  -- ---- all calls

  module _ (o : Opening) (all : List (List Effect)) (once : entries t all ≤ 1) (on : EachOf (EntersOn t c) all) where
    abbrev pub Both : List Deed → Box → Type 0
    Both ds b = Twins b.links × ((rest : List (List Effect)) → items_in ds ++ rest ≡ all → CommandStands t c (entries t (items_in ds)) ds b)

    pub both_kept : (ds : List Deed) (b : Box) (call : Call) → Both ds b → Both (ds ++ (call, answered o b call) ∷ []) (after_call o b call)
    both_kept ds b call h = (
      box_keeps o (λ es b'. Unit {0}) (HeldBy Twins twins_kept) (conn_boxes Twins twins_kept o (λ es b'. Unit {0})) ds b call tt h.0,
      (λ rest whole.
          let items : List (List Effect) = items_of_call call in
          let d : Deed = (call, answered o b call) in
          let parts : items_in ds ++ (items ++ rest) ≡ all = sym (append_assoc (items_in ds) items rest) ∙ ap (λ its. its ++ rest) (sym (items_in-more ds d)) ∙ whole in
          let counted : entries t (items_in ds) + (entries t items + entries t rest) ≡ entries t all =
          ap (λ m. entries t (items_in ds) + m) (sym (entries-append t items rest)) ∙ sym (entries-append t (items_in ds) (items ++ rest)) ∙ ap (entries t) parts in
          let these : EachOf (EntersOn t c) items = each-first (EntersOn t c) items rest (each-second (EntersOn t c) (items_in ds) (items ++ rest) (subst (EachOf (EntersOn t c)) (sym parts) on)) in
          subst (λ m. CommandStands t c m (ds ++ d ∷ []) (after_call o b call)) (sym (ap (entries t) (items_in-more ds d) ∙ entries-append t (items_in ds) items))
          (own_call o (entries t (items_in ds)) ds b call (omega (arith, counted, once)) these h.0 (h.1 (items ++ rest) parts))),
    )

    new_fits : (cs : List (ℕ × ℕ)) → EachOf (LinkFits t c) (map (λ (x : ℕ × ℕ). new_link x.0) cs)
    new_fits [] = tt
    new_fits (x ∷ cs) = ((tt, (λ cut. absurd (false≢true cut))), new_fits cs)

    new_empty : (cs : List (ℕ × ℕ)) → EachOf (λ (l : Link). l.queue ≡ []) (map (λ (x : ℕ × ℕ). new_link x.0) cs)
    new_empty [] = tt
    new_empty (x ∷ cs) = (refl, new_empty cs)

    pub both_start : Both [] (opened o)
    both_start = (
      new_twins c o.session.conns o.session.conns (λ e some. some),
      (λ rest whole. record {
        waiting = [];
        whole = refl;
        queued = λ l found. inl (sym (ap (own_waiting t c) (each-first_of (λ (m : Link). m.queue ≡ []) (λ (m : Link). m.conn == c) (opened o).links l found (new_empty o.session.conns))));
        fits = new_fits o.session.conns;
        undue = tt;
        homes = tt;
        before = λ none. refl;
        known = omega arith;
      }),
    )

    pub command_stands : (cs : List Call) (rest : List (List Effect)) → items_in (deeds_of o cs) ++ rest ≡ all → CommandStands t c (entries t (items_in (deeds_of o cs))) (deeds_of o cs) (after_calls o (opened o) cs)
    command_stands cs rest whole = let h : Both (deeds_of o cs) (after_calls o (opened o) cs) = keeps o Both both_kept [] (opened o) cs both_start in h.1 rest whole

-- the deeds up to a moment are those of the calls up to it
deeds_before : (o : Opening) (cs : List Call) (before after : List Deed) → before ++ after ≡ deeds_of o cs → (first : List Call) × (before ≡ deeds_of o first)
deeds_before o cs before [] whole = (cs, sym (append-nil before) ∙ whole)
deeds_before o cs before (d ∷ after) whole = let k : Cut o (opened o) cs before d after = cut o (opened o) cs before d after whole in (k.first, k.before_is)

pub keeps_command_order : (o : Opening) (cs : List Call) → FollowsSession o cs → KeepsCommandOrder (deeds_of o cs)
keeps_command_order o cs follows before after ticket whole =
    let all : List (List Effect) = items_in (deeds_of o cs) in
    let once : entries ticket all ≤ 1 = enters_once ticket o cs follows in
    let home = enters_on ticket all once in
    let k = deeds_before o cs before after whole in
    let parts : items_in (deeds_of o k.0) ++ items_in after ≡ all = ap (λ ds. items_in ds ++ items_in after) (sym k.1) ∙ sym (items_in-append before after) ∙ ap items_in whole in
    let h : CommandStands ticket home.0 (entries ticket (items_in (deeds_of o k.0))) (deeds_of o k.0) (after_calls o (opened o) k.0) = command_stands ticket home.0 o all once home.1 k.0 (items_in after) parts in
    subst (λ ds. (waiting : List OwnPdu) × (filter (is_of_command ticket) (own_handed ds) ++ waiting ≡ filter (is_of_command ticket) (own_taken ds))) (sym k.1) (h.waiting, h.whole)
