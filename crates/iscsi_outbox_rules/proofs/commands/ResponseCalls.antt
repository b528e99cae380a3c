-- A command's own PDUs that were taken, and didn't go out, wait on its connection: so it stays through each call.
use Rattle.std.proofs.Common.{◌≡◌, ℕ, inl, inr, ⊎_elim, ◌==◌, ◌+◌, ◌&&◌, not, cond, Bool, true, false, List, [], ◌∷◌, ◌++◌, max, drop, length, filter, filter_map, nat_lt, Option, Some, None, refl, ap, sym, subst, ◌∙◌, eq-eqb}
use Rattle.std.specs.List.{cons_option}
use Rattle.std.proofs.lemmas.Bool.{cond_both, false≢true, eqb-true, eqb-false}
use Rattle.std.proofs.lemmas.List.{append_assoc, append-nil}
use Rattle.std.proofs.lemmas.List.Concat.{flat_map-append}
use Rattle.iscsi_rules.proofs.general.ListLemmas.{first_itself}
use Rattle.iscsi_rules.proofs.general.BoolLemmas.{and_first, and_parts}
use Rattle.iscsi_outbox_rules.specs.declared.own_pdu.PutRefusal.TheVariants.{Unfit, Gone as GoneRefusal}
use Rattle.iscsi_outbox_rules.specs.declared.own_pdu.OwnPdu.{OwnPdu}
use Rattle.iscsi_outbox_rules.specs.declared.own_pdu.OwnPdu.TheVariants.{OfCommand, OfConnection}
use Rattle.iscsi_outbox_rules.specs.declared.own_pdu.PutRefusal.{PutRefusal}
use Rattle.iscsi_outbox_rules.specs.rules.Calls.{Opening, Call, Takes, Puts, Stops, Nexts, Writes, Hears, Joins, Loses, Clears}
use Rattle.iscsi_outbox_rules.specs.rules.Boxes.{Task, Outgoing, Handed, Answer, Link, Box}
use Rattle.iscsi_outbox_rules.specs.rules.Words.{is_live_phase, is_open, is_running}
use Rattle.iscsi_outbox_rules.specs.rules.Queues.{at_link, takes_more, append, enter, drop_on}
use Rattle.iscsi_outbox_rules.specs.rules.Due.{settle}
use Rattle.iscsi_outbox_rules.specs.rules.Items.{in_phase}
use Rattle.iscsi_outbox_rules.specs.rules.Own.{is_fit, live_task, own_conn, own_outgoing, put_refusal, refusal_on}
use Rattle.iscsi_outbox_rules.specs.rules.Handing.{is_from_queue, taken_from, handed_as, after_given}
use Rattle.iscsi_outbox_rules.specs.rules.Run.{Silent, Put, after_call, answered, phase_stopped, one_written, arrived_by_stat_sn, arrived_by_ping, link_heard, may_join, link_joined, link_lost, waits_for_clear, cleared}
use Rattle.iscsi_outbox_rules.specs.promises.Deeds.{Deed, items_of_call, handed_in_deed}
use Rattle.iscsi_outbox_rules.specs.promises.Order.{own_of, is_of_command}
use Rattle.iscsi_outbox_rules.specs.promises.Scope.{is_taken_out_in}
use Rattle.iscsi_outbox_rules.proofs.general.EachLemmas.{EachOf, each-append, each-at_link, each-filter, each-first_of, each-drop_one, each-weaken}
use Rattle.iscsi_outbox_rules.proofs.general.FoundLemmas.{find_link, found-conn}
use Rattle.iscsi_outbox_rules.proofs.general.Chosen.{FromQueue, IsPing, IsNotice, chosen_from}
use Rattle.iscsi_outbox_rules.proofs.general.Cuts.{Hand, Idle, next}
use Rattle.iscsi_outbox_rules.proofs.general.ConnLemmas.{Twins}
use Rattle.iscsi_outbox_rules.proofs.commands.CommandRuns.{own_in, own_waiting, handed_of, taken_of, OwnEntry}
use Rattle.iscsi_outbox_rules.proofs.commands.CommandTheorem.{handed-more, taken-more, none_handed, own_taken_from, usable_link}
use Rattle.iscsi_outbox_rules.proofs.commands.TaskRuns.{entered_by, put_by}
use Rattle.iscsi_outbox_rules.proofs.commands.ResponseRuns.{Behind, is_kept, kept, NoneDue, Flows, FlowsIn, flows_emptied, flows_enter, flows_settle, flows_lost, event_flows}

each-both : {A : Type 0} (P Q : A → Type 0) (xs : List A) → EachOf P xs → EachOf Q xs → EachOf (λ (x : A). P x × Q x) xs
each-both P Q [] h k = tt
each-both P Q (x ∷ xs) h k = ((h.0, k.0), each-both P Q xs h.1 k.1)

module _ (t c : ℕ) where
  abbrev pub FlowsNow : List Deed → Box → Type 0
  FlowsNow ds b = FlowsIn t c (handed_of t c ds) (taken_of t c ds) b

  -- what a deed shows of them
  shown : (ds : List Deed) (d : Deed) (b : Box) (handed taken : List OwnPdu) → handed_of t c (d ∷ []) ≡ handed → taken_of t c (d ∷ []) ≡ taken → FlowsIn t c (handed_of t c ds ++ handed) (taken_of t c ds ++ taken) b
      → FlowsNow (ds ++ d ∷ []) b
  shown ds d b handed taken goes enters h =
      subst (λ hs. FlowsIn t c hs (taken_of t c (ds ++ d ∷ [])) b) (sym (handed-more t c ds d ∙ ap (λ xs. handed_of t c ds ++ xs) goes))
      (subst (λ ts. FlowsIn t c (handed_of t c ds ++ handed) ts b) (sym (taken-more t c ds d ∙ ap (λ xs. taken_of t c ds ++ xs) enters)) h)

  quiet : (ds : List Deed) (d : Deed) (b : Box) → handed_of t c (d ∷ []) ≡ [] → taken_of t c (d ∷ []) ≡ [] → FlowsNow ds b → FlowsNow (ds ++ d ∷ []) b
  quiet ds d b handed taken h =
      shown ds d b [] [] handed taken
      (subst (λ hs. FlowsIn t c hs (taken_of t c ds ++ []) b) (sym (append-nil (handed_of t c ds))) (subst (λ ts. FlowsIn t c (handed_of t c ds) ts b) (sym (append-nil (taken_of t c ds))) h))

  -- ---- putting

  -- no reply of the command waits
  abbrev pub Unanswered : List Outgoing → Type 0
  Unanswered queue = EachOf (λ (x : Outgoing). (place : ℕ) → x.sent ≡ Some place → x.ticket ≡ Some t → ⊥) queue

  behind-own : (queue : List Outgoing) (out : Outgoing) → Unanswered queue → Behind t c (queue ++ out ∷ [])
  behind-own [] out none = ((λ place sent ticket. refl), tt)
  behind-own (x ∷ queue) out none = ((λ place sent ticket. absurd (none.0 place sent ticket)), behind-own queue out none.1)

  -- where it is the command's connection, it has joined
  abbrev Joined : Link → Type 0
  Joined l = l.conn ≡ c → l.joined ≡ true

  own_enters : (handed taken : List OwnPdu) (b : Box) (p : OwnPdu) → own_in t c (own_outgoing p) ≡ p ∷ [] → (own_outgoing p).ticket ≡ Some t → EachOf (λ (l : Link). Unanswered l.queue) b.links → EachOf Joined b.links → FlowsIn t c handed taken b
      → FlowsIn t c handed (taken ++ p ∷ []) (enter c (own_outgoing p) b)
  own_enters handed taken b p own ticket none joined h = record {
    links = each-at_link Before After c (append out) b.links here there
        (each-both (Flows t c handed taken) (λ (l : Link). Unanswered l.queue × Joined l) b.links h.links (each-both (λ (l : Link). Unanswered l.queue) Joined b.links none joined));
    undue = h.undue;
  }
    where
      out : Outgoing
      out = record (own_outgoing p) { time = b.time }

      Before : Link → Type 0
      Before l = Flows t c handed taken l × (Unanswered l.queue × Joined l)

      After : Link → Type 0
      After l = Flows t c handed (taken ++ p ∷ []) l

      here : (l : Link) → l.conn ≡ c → Before l → After (append out l)
      here l is k =
          cond_both (takes_more l) (record l { queue = l.queue ++ out ∷ [] }) l After
          (λ more. record {
            whole = λ at still.
                ap (λ ys. handed ++ ys) (flat_map-append (own_in t c) l.queue (out ∷ []) ∙ ap (λ xs. own_waiting t c l.queue ++ (xs ++ [])) own)
                ∙ sym (append_assoc handed (own_waiting t c l.queue) (p ∷ [])) ∙ ap (λ xs. xs ++ p ∷ []) (k.0.whole is still);
            gone = λ no. absurd (false≢true (sym no ∙ kept l more));
            entries = each-append (OwnEntry t c l.conn) l.queue (out ∷ []) k.0.entries (inr (is, ticket, refl), tt);
            behind = behind-own l.queue out k.1.0;
          })
          (λ no. record { whole = λ at still. absurd (false≢true (sym no ∙ (ap (λ v. (v && not l.lost) && not l.cut) (k.1.1 is) ∙ still))); gone = k.0.gone; entries = k.0.entries; behind = k.0.behind })

      there : (l : Link) → (l.conn == c) ≡ false → Before l → After l
      there l isnt k = record { whole = λ at still. absurd (eqb-false l.conn c isnt at); gone = k.0.gone; entries = k.0.entries; behind = k.0.behind }

  put_other : (ds : List Deed) (b : Box) (p : OwnPdu) (x : Option PutRefusal) → own_in t c (own_outgoing p) ≡ [] → ((y : Option PutRefusal) → taken_of t c ((Puts p, Put y) ∷ []) ≡ []) → FlowsNow ds b
      → FlowsNow (ds ++ (Puts p, Put x) ∷ []) (put_by b p x)
  put_other ds b p (Some refusal) own untaken h = quiet ds (Puts p, Put (Some refusal)) b refl (untaken (Some refusal)) h
  put_other ds b p None own untaken h =
      quiet ds (Puts p, Put None) (entered_by b p (own_conn b p)) refl (untaken None)
      (elim (own_conn b p) as (λ x. FlowsNow ds (entered_by b p x)) [ Some conn ↦ flows_enter t c (handed_of t c ds) (taken_of t c ds) b conn (own_outgoing p) own h | None ↦ h ])

  abbrev conn_of : Option Task → Option ℕ
  conn_of x = elim x [ Some y ↦ Some y.conn | None ↦ None ]

  abbrev by_conn : Opening → Box → Option ℕ → Option PutRefusal
  by_conn o b x = elim x [ Some conn ↦ refusal_on o b conn | None ↦ Some GoneRefusal ]

  none_from : (v : Bool) (r : PutRefusal) (x : Option PutRefusal) → cond v (Some r) x ≡ None → x ≡ None
  none_from true r x h = absurd cc
  none_from false r x h = h

  -- its commands are of its connection, and none of its replies waits while it is live
  pub record AtHome (b : Box) : Type 0 where
    pub homes : EachOf (λ (x : Task). x.ticket ≡ t → x.conn ≡ c) b.tasks
    pub unanswered : (x : Task) → live_task b t ≡ Some x → EachOf (λ (l : Link). Unanswered l.queue) b.links

  some_link : (l m : Link) → Some l ≡ Some m → l ≡ m
  some_link l m h = cc

  put_own : (o : Opening) (ds : List Deed) (b : Box) (header : List ℕ) (x : Option PutRefusal) → put_refusal o b (OfCommand t header) ≡ x → AtHome b → Twins b.links → FlowsNow ds b
      → FlowsNow (ds ++ (Puts (OfCommand t header), Put x) ∷ []) (put_by b (OfCommand t header) x)
  put_own o ds b header (Some refusal) is home twins h = quiet ds (Puts (OfCommand t header), Put (Some refusal)) b refl refl h
  put_own o ds b header None is home twins h = by_task (live_task b t) refl
    where
      p : OwnPdu
      p = OfCommand t header

      d : Deed
      d = (Puts p, Put None)

      itself : (t == t) ≡ true
      itself = eq-eqb t t refl

      refused : by_conn o b (own_conn b p) ≡ None
      refused = none_from (not (is_fit p)) Unfit (by_conn o b (own_conn b p)) is

      not_gone : by_conn o b None ≡ None → ⊥
      not_gone k = cc

      by_task : (x : Option Task) → live_task b t ≡ x → FlowsNow (ds ++ d ∷ []) (entered_by b p (own_conn b p))
      by_task None none = absurd (not_gone (sym (ap (by_conn o b) (ap conn_of none)) ∙ refused))
      by_task (Some x) found =
          let q : Task → Bool = λ y. (y.ticket == t) && is_live_phase y.phase in
          let at : x.conn ≡ c = each-first_of (λ (y : Task). y.ticket ≡ t → y.conn ≡ c) q b.tasks x found home.homes (eqb-true x.ticket t (and_parts (x.ticket == t) (is_live_phase x.phase) (first_itself q b.tasks x found)).0) in
          let conn : own_conn b p ≡ Some c = ap conn_of found ∙ ap (λ k. Some k) at in
          let own : own_in t c (own_outgoing p) ≡ p ∷ [] = ap (λ v. cond v (p ∷ []) []) itself in
          let usable = usable_link t c o b c _ refl twins (sym (ap (by_conn o b) conn) ∙ refused) in
          let joined : EachOf Joined b.links =
          each-weaken (λ (m : Link). find_link m.conn b.links ≡ Some m) Joined b.links
          (λ m found_m at_m.
          ap (λ (l : Link). l.joined) (some_link m usable.0 (sym found_m ∙ ap (λ e. find_link e b.links) at_m ∙ usable.1))
          ∙ and_first usable.0.joined (not usable.0.lost) (and_first (is_open usable.0) (not usable.0.closed) usable.2)) twins in
          subst (λ y. FlowsNow (ds ++ d ∷ []) (entered_by b p y)) (sym conn)
          (shown ds d (enter c (own_outgoing p) b) [] (p ∷ []) refl (ap (λ v. cond v (p ∷ []) []) itself)
          (subst (λ hs. FlowsIn t c hs (taken_of t c ds ++ p ∷ []) (enter c (own_outgoing p) b)) (sym (append-nil (handed_of t c ds)))
          (own_enters (handed_of t c ds) (taken_of t c ds) b p own refl (home.unanswered x found) joined h)))

  put_command : (o : Opening) (ds : List Deed) (b : Box) (ticket : ℕ) (header : List ℕ) → AtHome b → Twins b.links → FlowsNow ds b
      → FlowsNow (ds ++ (Puts (OfCommand ticket header), Put (put_refusal o b (OfCommand ticket header))) ∷ []) (after_call o b (Puts (OfCommand ticket header)))
  put_command o ds b ticket header home twins h =
      elim (ticket == t) as (λ v. (ticket == t) ≡ v → FlowsNow (ds ++ (Puts (OfCommand ticket header), Put (put_refusal o b (OfCommand ticket header))) ∷ []) (after_call o b (Puts (OfCommand ticket header)))) [
        | true ↦ λ is.
            subst (λ k. FlowsNow (ds ++ (Puts (OfCommand k header), Put (put_refusal o b (OfCommand k header))) ∷ []) (after_call o b (Puts (OfCommand k header)))) (sym (eqb-true ticket t is))
            (put_own o ds b header (put_refusal o b (OfCommand t header)) refl home twins h)
        | false ↦ λ isnt.
            put_other ds b (OfCommand ticket header) (put_refusal o b (OfCommand ticket header)) (ap (λ v. cond v (OfCommand ticket header ∷ []) []) isnt)
            (λ y. elim y as (λ z. taken_of t c ((Puts (OfCommand ticket header), Put z) ∷ []) ≡ []) [ Some refusal ↦ refl | None ↦ ap (λ v. cond v (OfCommand ticket header ∷ []) []) isnt ]) h
      ] refl

  -- ---- handing out

  behind-drop : (queue : List Outgoing) → Behind t c queue → Behind t c (drop 1 queue)
  behind-drop [] h = tt
  behind-drop (x ∷ queue) h = h.1

  flows_hand : (o : Opening) (ds : List Deed) (b : Box) (conn : ℕ) (d : Deed) (k : Hand o b conn) → handed_in_deed d ≡ Some (conn, k.handed) → taken_of t c (d ∷ []) ≡ [] → Twins b.links → FlowsNow ds b
      → FlowsNow (ds ++ d ∷ []) (after_given o b k.handing.link k.handed)
  flows_hand o ds b conn d k goes untaken twins h =
      subst (λ (x : Handed). FlowsNow (ds ++ d ∷ []) (after_given o b l x)) (sym k.handing.is)
      (shown ds d (after_given o b l g) (own_in t c out) [] handed untaken (subst (λ ts. FlowsIn t c (handed_of t c ds ++ own_in t c out) ts (after_given o b l g)) (sym (append-nil (taken_of t c ds)))
      (record { links = links; undue = h.undue })))
    where
      l : Link
      l = k.handing.link

      out : Outgoing
      out = k.handing.out

      g : Handed
      g = handed_as o b l out

      at_conn : l.conn ≡ conn
      at_conn = found-conn conn b.links l k.handing.found

      stands : Flows t c (handed_of t c ds) (taken_of t c ds) l
      stands = each-first_of (Flows t c (handed_of t c ds) (taken_of t c ds)) (λ (m : Link). m.conn == conn) b.links l k.handing.found h.links

      handed : handed_of t c (d ∷ []) ≡ own_in t c out
      handed = ap (λ x. filter (is_of_command t) (filter_map (λ (y : ℕ × Handed). own_of y.1.out.pdu) (cons_option x []))) goes ∙ ap (λ (x : Handed). own_in t c x.out) k.handing.is

      After : Link → Type 0
      After m = Flows t c (handed_of t c ds ++ own_in t c out) (taken_of t c ds) m

      -- what is handed out, and what waits still
      Parted : Type 0
      Parted = OwnEntry t c l.conn out × (own_waiting t c l.queue ≡ own_in t c out ++ own_waiting t c (taken_from out l).queue)

      unqueued : own_in t c out ≡ [] → is_from_queue out ≡ false → Parted
      unqueued none unkept = (
        inl none,
        sym (ap (λ ys. ys ++ own_waiting t c (taken_from out l).queue) none ∙ ap (λ v. own_waiting t c (cond v (record l { queue = drop 1 l.queue }) l).queue) unkept),
      )

      parted : Parted
      parted =
          ⊎_elim
          (λ (q : FromQueue o b l out).
          let entry : OwnEntry t c l.conn out = (subst (EachOf (OwnEntry t c l.conn)) q.queue_is stands.entries).0 in
          (entry, own_taken_from t c l out q.rest q.queue_is entry))
          (⊎_elim (λ (p : IsPing o b l out). unqueued (ap (own_in t c) p.is) (ap is_from_queue p.is)) (λ (p : IsNotice o b l out). unqueued (ap (own_in t c) p.is) (ap is_from_queue p.is)))
          (chosen_from o b l out k.handing.chosen_is).source

      -- the rest of its queue
      rest : (queue : List Outgoing) → own_waiting t c l.queue ≡ own_in t c out ++ own_waiting t c queue → l.conn ≡ c → is_kept l ≡ true → (handed_of t c ds ++ own_in t c out) ++ own_waiting t c queue ≡ taken_of t c ds
      rest queue parts at still = append_assoc (handed_of t c ds) (own_in t c out) (own_waiting t c queue) ∙ ap (λ ys. handed_of t c ds ++ ys) (sym parts) ∙ stands.whole at still

      taken : After (taken_from out l)
      taken =
          cond_both (is_from_queue out) (record l { queue = drop 1 l.queue }) l (λ (x : Link). own_waiting t c l.queue ≡ own_in t c out ++ own_waiting t c x.queue → After x)
          (λ is parts. record {
            whole = λ at still. rest (drop 1 l.queue) parts at still;
            gone = λ no. ap (drop 1) (stands.gone no);
            entries = each-drop_one (OwnEntry t c l.conn) l.queue stands.entries;
            behind = behind-drop l.queue stands.behind;
          })
          (λ is parts. record { whole = λ at still. rest l.queue parts at still; gone = stands.gone; entries = stands.entries; behind = stands.behind })
          parted.1

      Before : Link → Type 0
      Before m = Flows t c (handed_of t c ds) (taken_of t c ds) m × (find_link m.conn b.links ≡ Some m)

      here : (m : Link) → m.conn ≡ l.conn → Before m → After (taken_from out m)
      here m is f =
          let same : m ≡ l = some_link m l (sym f.1 ∙ ap (λ e. find_link e b.links) (is ∙ at_conn) ∙ k.handing.found) in
          subst (λ (x : Link). After (taken_from out x)) (sym same) taken

      there : (m : Link) → (m.conn == l.conn) ≡ false → Before m → After m
      there m isnt f = record {
        whole = λ at still.
            ⊎_elim
            (λ none.
            ap (λ xs. (handed_of t c ds ++ xs) ++ own_waiting t c m.queue) none ∙ ap (λ hs. hs ++ own_waiting t c m.queue) (append-nil (handed_of t c ds)) ∙ f.0.whole at still)
            (λ own. absurd (eqb-false m.conn l.conn isnt (at ∙ sym own.0))) parted.0;
        gone = f.0.gone;
        entries = f.0.entries;
        behind = f.0.behind;
      }

      links : EachOf After (after_given o b l g).links
      links =
          each-at_link After After l.conn (λ m. record m { handed = m.handed ++ g ∷ [] }) (at_link l.conn (taken_from out) b.links)
          (λ m is f. record { whole = f.whole; gone = f.gone; entries = f.entries; behind = f.behind }) (λ m isnt f. f)
          (each-at_link Before After l.conn (taken_from out) b.links here there (each-both (Flows t c (handed_of t c ds) (taken_of t c ds)) (λ (m : Link). find_link m.conn b.links ≡ Some m) b.links h.links twins))

  -- ---- the other calls

  none_cleared : (unit : ℕ) (answers : List Answer) → NoneDue t c answers → NoneDue t c (cleared unit answers)
  none_cleared unit [] h = tt
  none_cleared unit (a ∷ answers) h =
      cond_both (waits_for_clear unit a) (record a { uncleared = false } ∷ answers) (a ∷ cleared unit answers) (NoneDue t c) (λ is. (h.0, h.1)) (λ is. (h.0, none_cleared unit answers h.1))

  marked : (handed taken : List OwnPdu) (b : Box) (conn : ℕ) (change : Link → Link) → ((l : Link) → Flows t c handed taken l → Flows t c handed taken (change l)) → FlowsIn t c handed taken b
      → FlowsIn t c handed taken (record b { links = at_link conn change b.links })
  marked handed taken b conn change keeps h =
      record { links = each-at_link (Flows t c handed taken) (Flows t c handed taken) conn change b.links (λ l is k. keeps l k) (λ l isnt k. k) h.links; undue = h.undue }

  pub flows_call : (o : Opening) (ds : List Deed) (b : Box) (call : Call) → Twins b.links → EachOf (λ item. is_taken_out_in t item ≡ false) (items_of_call call) → AtHome b → FlowsNow ds b
      → FlowsNow (ds ++ (call, answered o b call) ∷ []) (after_call o b call)
  flows_call o ds b (Takes effects numbers) twins apart home h =
      quiet ds (Takes effects numbers, Silent) (after_call o b (Takes effects numbers)) refl refl (event_flows t c (handed_of t c ds) (taken_of t c ds) o b effects numbers apart h)
  flows_call o ds b (Puts (OfCommand ticket header)) twins apart home h = put_command o ds b ticket header home twins h
  flows_call o ds b (Puts (OfConnection e header)) twins apart home h =
      put_other ds b (OfConnection e header) (put_refusal o b (OfConnection e header)) refl (λ y. elim y as (λ z. taken_of t c ((Puts (OfConnection e header), Put z) ∷ []) ≡ []) [ Some refusal ↦ refl | None ↦ refl ]) h
  flows_call o ds b (Stops ticket) twins apart home h =
      quiet ds (Stops ticket, answered o b (Stops ticket)) (after_call o b (Stops ticket)) refl refl
      (cond_both (is_running b ticket) (settle o (in_phase phase_stopped (ticket ∷ []) b)) b (FlowsNow ds)
      (λ is. flows_settle t c (handed_of t c ds) (taken_of t c ds) o (in_phase phase_stopped (ticket ∷ []) b) (record { links = h.links; undue = h.undue })) (λ is. h))
  flows_call o ds b (Nexts conn) twins apart home h =
      let d : Deed = (Nexts conn, answered o b (Nexts conn)) in
      ⊎_elim
      (λ (k : Hand o b conn). subst (FlowsNow (ds ++ d ∷ [])) (sym k.after_is) (flows_hand o ds b conn d k k.shown refl twins h))
      (λ (k : Idle o b conn). subst (FlowsNow (ds ++ d ∷ [])) (sym k.after_is) (quiet ds d b (none_handed t c d k.shown) refl h))
      (next o b conn)
  flows_call o ds b (Writes conn) twins apart home h =
      quiet ds (Writes conn, Silent) (after_call o b (Writes conn)) refl refl
      (flows_settle t c (handed_of t c ds) (taken_of t c ds) o (record b { links = at_link conn one_written b.links })
      (marked (handed_of t c ds) (taken_of t c ds) b conn one_written
      (λ l k. cond_both (nat_lt l.written (length l.handed)) (record l { written = l.written + 1 }) l (Flows t c (handed_of t c ds) (taken_of t c ds))
      (λ is. record { whole = k.whole; gone = k.gone; entries = k.entries; behind = k.behind }) (λ is. k)) h))
  flows_call o ds b (Hears conn exp_stat_sn tag) twins apart home h =
      quiet ds (Hears conn exp_stat_sn tag, Silent) (after_call o b (Hears conn exp_stat_sn tag)) refl refl
      (flows_settle t c (handed_of t c ds) (taken_of t c ds) o (record b { links = at_link conn (link_heard exp_stat_sn tag) b.links })
      (marked (handed_of t c ds) (taken_of t c ds) b conn (link_heard exp_stat_sn tag)
      (λ l k. cond_both (is_open l) (record l { arrived = max l.arrived (max (arrived_by_stat_sn l exp_stat_sn) (arrived_by_ping l tag)) }) l (Flows t c (handed_of t c ds) (taken_of t c ds))
      (λ is. record { whole = k.whole; gone = k.gone; entries = k.entries; behind = k.behind }) (λ is. k)) h))
  flows_call o ds b (Joins conn stat_sn) twins apart home h =
      quiet ds (Joins conn stat_sn, answered o b (Joins conn stat_sn)) (after_call o b (Joins conn stat_sn)) refl refl
      (cond_both (may_join b conn) (record b { links = at_link conn (link_joined stat_sn) b.links }) b (FlowsNow ds)
      (λ is. marked (handed_of t c ds) (taken_of t c ds) b conn (link_joined stat_sn) (λ l k. record { whole = k.whole; gone = k.gone; entries = k.entries; behind = k.behind }) h) (λ is. h))
  flows_call o ds b (Loses conn) twins apart home h =
      quiet ds (Loses conn, Silent) (after_call o b (Loses conn)) refl refl
      (flows_settle t c (handed_of t c ds) (taken_of t c ds) o (drop_on conn (record b { links = at_link conn link_lost b.links; reached = 0 })) (record {
        links = flows_emptied t c (handed_of t c ds) (taken_of t c ds) conn link_lost (λ l. refl) (flows_lost t c (handed_of t c ds) (taken_of t c ds)) b.links h.links;
        undue = each-filter (λ (a : Answer). own_in t c a.out ≡ []) (λ (a : Answer). not (a.conn == conn)) b.undue h.undue;
      }))
  flows_call o ds b (Clears unit) twins apart home h =
      quiet ds (Clears unit, Silent) (after_call o b (Clears unit)) refl refl
      (flows_settle t c (handed_of t c ds) (taken_of t c ds) o (record b { undue = cleared unit b.undue }) (record { links = h.links; undue = none_cleared unit b.undue h.undue }))
