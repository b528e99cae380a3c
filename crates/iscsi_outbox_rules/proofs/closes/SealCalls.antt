-- Call by call: behind the answer that closes a connection, and goes out there, nothing goes out on it.
use Rattle.std.proofs.Common.{◌≡◌, ℕ, ⊎_elim, ◌==◌, ◌&&◌, ◌+◌, not, cond, Bool, true, false, List, [], ◌∷◌, ◌++◌, filter, length, max, nat_lt, Option, Some, None, refl, ap, sym, subst, ◌∙◌}
use Rattle.std.specs.List.{list_any}
use Rattle.std.proofs.lemmas.Bool.{cond_both, eqb-true}
use Rattle.std.proofs.lemmas.List.{append_assoc, append-nil}
use Rattle.iscsi_rules.specs.declared.effect.Effect.{Effect}
use Rattle.iscsi_rules.specs.rules.Trace.{first_of}
use Rattle.iscsi_rules.specs.promises.Order.{in_parts}
use Rattle.iscsi_rules.proofs.general.BoolLemmas.{and_parts, and_second, not_true}
use Rattle.iscsi_rules.proofs.general.ListLemmas.{first_itself}
use Rattle.iscsi_outbox_rules.specs.declared.own_pdu.OwnPdu.{OwnPdu}
use Rattle.iscsi_outbox_rules.specs.declared.own_pdu.PutRefusal.{PutRefusal}
use Rattle.iscsi_outbox_rules.specs.declared.own_pdu.PutRefusal.TheVariants.{Unfit, Gone as GoneRefusal, Closed, Full}
use Rattle.iscsi_outbox_rules.specs.rules.Calls.{Opening, Call, Takes, Puts, Stops, Nexts, Writes, Hears, Joins, Loses, Clears}
use Rattle.iscsi_outbox_rules.specs.rules.Boxes.{Outgoing, Handed, Answer, Link, Box}
use Rattle.iscsi_outbox_rules.specs.rules.Words.{is_open, is_usable, is_running}
use Rattle.iscsi_outbox_rules.specs.rules.Queues.{at_link, enter, drop_on}
use Rattle.iscsi_outbox_rules.specs.rules.Due.{settle}
use Rattle.iscsi_outbox_rules.specs.rules.Items.{in_phase, after_items}
use Rattle.iscsi_outbox_rules.specs.rules.Own.{is_fit, is_full, own_conn, own_outgoing, refusal_on, put_refusal}
use Rattle.iscsi_outbox_rules.specs.rules.Run.{after_call, answered, phase_stopped, one_written, arrived_by_stat_sn, arrived_by_ping, link_heard, may_join, link_joined, link_lost, waits_for_clear, cleared}
use Rattle.iscsi_outbox_rules.specs.promises.Deeds.{Deed, items_in, items_of_call}
use Rattle.iscsi_outbox_rules.proofs.general.EachLemmas.{EachOf, each-first_of}
use Rattle.iscsi_outbox_rules.proofs.general.SortedLemmas.{SortedBy}
use Rattle.iscsi_outbox_rules.proofs.general.DeedLemmas.{items_in-more}
use Rattle.iscsi_outbox_rules.proofs.general.Chosen.{FromQueue, chosen_from}
use Rattle.iscsi_outbox_rules.proofs.general.Cuts.{Hand, Idle, next}
use Rattle.iscsi_outbox_rules.proofs.general.Linkwise.{Stands}
use Rattle.iscsi_outbox_rules.proofs.general.Callwise.{call_keeps}
use Rattle.iscsi_outbox_rules.proofs.general.LinkRuns.{Fit, LinkShows, Shows, FitEntry, link_calls}
use Rattle.iscsi_outbox_rules.proofs.closes.MarkRuns.{closed_by, cut_by, Marked}
use Rattle.iscsi_outbox_rules.proofs.closes.MarkItems.{MarksStand}
use Rattle.iscsi_outbox_rules.proofs.closes.MarkCalls.{marks_kept}
use Rattle.iscsi_outbox_rules.proofs.closes.SealRuns.{Shut, After, OverUndue, Sealed, entered, seal_settle, seal_drop, seal_marks}
use Rattle.iscsi_outbox_rules.proofs.closes.SealItems.{HushAll, seal_items, seal_hand}

-- an own PDU is taken where the connection takes requests
taken_on : (o : Opening) (b : Box) (p : OwnPdu) (conn : ℕ) → own_conn b p ≡ Some conn → put_refusal o b p ≡ None → refusal_on o b conn ≡ None
taken_on o b p conn is none =
    elim (is_fit p) as (λ v. cond (not v) (Some Unfit) (elim (own_conn b p) [ Some n ↦ refusal_on o b n | None ↦ Some GoneRefusal ]) ≡ None → refusal_on o b conn ≡ None) [
      | true ↦ λ fit. ap (λ x. elim x [ Some n ↦ refusal_on o b n | None ↦ Some GoneRefusal ]) (sym is) ∙ fit
      | false ↦ λ unfit. absurd cc
    ] none

-- what refuses it on this connection, if there is one
abbrev refused : Opening → Option Link → Option PutRefusal
refused o x = elim x [ Some l ↦ cond (is_full o l) (Some Full) None | None ↦ Some Closed ]

taken_open : (o : Opening) (b : Box) (cs : List ℕ) (f g : ℕ → Bool) (conn : ℕ) → EachOf (Marked cs f g) b.links → refusal_on o b conn ≡ None → f conn ≡ false
taken_open o b cs f g conn marks none = by_link (first_of (filter (λ (l : Link). (l.conn == conn) && is_usable l) b.links)) refl none
  where
    by_link : (x : Option Link) → first_of (filter (λ (l : Link). (l.conn == conn) && is_usable l) b.links) ≡ x → refused o x ≡ None → f conn ≡ false
    by_link None found is = absurd cc
    by_link (Some l) found is =
        let parts = and_parts (l.conn == conn) (is_usable l) (first_itself (λ (m : Link). (m.conn == conn) && is_usable m) b.links l found) in
        let mark : Marked cs f g l = each-first_of (Marked cs f g) (λ (m : Link). (m.conn == conn) && is_usable m) b.links l found marks in
        ap f (sym (eqb-true l.conn conn parts.0)) ∙ sym mark.closed ∙ not_true l.closed (and_second (is_open l) (not l.closed) parts.1)

module _ (c : ℕ) (o : Opening) (cs : List ℕ) (known : list_any (λ k. k == c) cs ≡ true) where
  settled : (items : List (List Effect)) (b : Box) → Sealed c items b → Sealed c items (settle o b)
  settled items b h = seal_settle c o items [] b.undue b h

  put : (items : List (List Effect)) (b : Box) (p : OwnPdu) → EachOf (Marked cs (closed_by items) (cut_by items)) b.links → Sealed c items b → Sealed c items (after_call o b (Puts p))
  put items b p marks h = by_conn (own_conn b p) refl
    where
      by_refusal : (conn : ℕ) (y : Option PutRefusal) → own_conn b p ≡ Some conn → put_refusal o b p ≡ y → Sealed c items (elim y [ Some refusal ↦ b | None ↦ enter conn (own_outgoing p) b ])
      by_refusal conn (Some refusal) on is = h
      by_refusal conn None on is =
          entered c items b conn (own_outgoing p) refl (λ at. ap (closed_by items) (sym at) ∙ taken_open o b cs (closed_by items) (cut_by items) conn marks (taken_on o b p conn on is)) h

      by_conn : (x : Option ℕ) → own_conn b p ≡ x → Sealed c items (elim (put_refusal o b p) [ Some refusal ↦ b | None ↦ elim (own_conn b p) [ Some conn ↦ enter conn (own_outgoing p) b | None ↦ b ] ])
      by_conn None is =
          subst (λ x. Sealed c items (elim (put_refusal o b p) [ Some refusal ↦ b | None ↦ elim x [ Some conn ↦ enter conn (own_outgoing p) b | None ↦ b ] ])) (sym is)
          (elim (put_refusal o b p) as (λ y. Sealed c items (elim y [ Some refusal ↦ b | None ↦ b ])) [ Some refusal ↦ h | None ↦ h ])
      by_conn (Some conn) is =
          subst (λ x. Sealed c items (elim (put_refusal o b p) [ Some refusal ↦ b | None ↦ elim x [ Some conn ↦ enter conn (own_outgoing p) b | None ↦ b ] ])) (sym is) (by_refusal conn (put_refusal o b p) is refl)

  heard : (items : List (List Effect)) (b : Box) (conn exp_stat_sn tag : ℕ) → Sealed c items b → Sealed c items (record b { links = at_link conn (link_heard exp_stat_sn tag) b.links })
  heard items b conn exp_stat_sn tag h =
      seal_marks c items conn (link_heard exp_stat_sn tag) b
      (λ l. cond_both (is_open l) (more l) l (λ (m : Link). m.conn ≡ l.conn) (λ is. refl) (λ is. refl))
      (λ l. cond_both (is_open l) (more l) l (λ (m : Link). m.handed ≡ l.handed) (λ is. refl) (λ is. refl))
      (λ l. cond_both (is_open l) (more l) l (λ (m : Link). m.queue ≡ l.queue) (λ is. refl) (λ is. refl)) h
    where
      more : Link → Link
      more l = record l { arrived = max l.arrived (max (arrived_by_stat_sn l exp_stat_sn) (arrived_by_ping l tag)) }

  wrote : (items : List (List Effect)) (b : Box) (conn : ℕ) → Sealed c items b → Sealed c items (record b { links = at_link conn one_written b.links })
  wrote items b conn h =
      seal_marks c items conn one_written b
      (λ l. cond_both (nat_lt l.written (length l.handed)) (record l { written = l.written + 1 }) l (λ (m : Link). m.conn ≡ l.conn) (λ is. refl) (λ is. refl))
      (λ l. cond_both (nat_lt l.written (length l.handed)) (record l { written = l.written + 1 }) l (λ (m : Link). m.handed ≡ l.handed) (λ is. refl) (λ is. refl))
      (λ l. cond_both (nat_lt l.written (length l.handed)) (record l { written = l.written + 1 }) l (λ (m : Link). m.queue ≡ l.queue) (λ is. refl) (λ is. refl)) h

  -- ---- clearing

  each_cleared : (P : Answer → Type 0) → ((a : Answer) → P a → P (record a { uncleared = false })) → (unit : ℕ) (answers : List Answer) → EachOf P answers → EachOf P (cleared unit answers)
  each_cleared P same unit [] h = tt
  each_cleared P same unit (a ∷ answers) h =
      cond_both (waits_for_clear unit a) (record a { uncleared = false } ∷ answers) (a ∷ cleared unit answers) (EachOf P) (λ is. (same a h.0, h.1)) (λ is. (h.0, each_cleared P same unit answers h.1))

  sorted_cleared : (unit : ℕ) (answers : List Answer) → SortedBy (After c) answers → SortedBy (After c) (cleared unit answers)
  sorted_cleared unit [] h = tt
  sorted_cleared unit (a ∷ answers) h =
      cond_both (waits_for_clear unit a) (record a { uncleared = false } ∷ answers) (a ∷ cleared unit answers) (SortedBy (After c)) (λ is. (h.0, h.1))
      (λ is. (each_cleared (After c a) (λ x k. k) unit answers h.0, sorted_cleared unit answers h.1))

  clear : (items : List (List Effect)) (b : Box) (unit : ℕ) → Sealed c items b → Sealed c items (record b { undue = cleared unit b.undue })
  clear items b unit h = record {
    lines = λ l found. let k = h.lines l found in record { last = k.last; over = k.over; clear = each_cleared (λ (a : Answer). a.conn ≡ c → EachOf (Shut c) _) (λ a e. e) unit b.undue k.clear };
    undue = sorted_cleared unit b.undue h.undue;
    undue_over = each_cleared (OverUndue c items) (λ a e. e) unit b.undue h.undue_over;
  }

  -- ---- a call

  no_items : (ds : List Deed) (deed : Deed) (b : Box) → items_of_call deed.0 ≡ [] → Sealed c (items_in ds) b → Sealed c (items_in (ds ++ deed ∷ [])) b
  no_items ds deed b none h = subst (λ its. Sealed c its b) (sym (items_in-more ds deed ∙ ap (λ its. items_in ds ++ its) none ∙ append-nil (items_in ds))) h

  hand : (ds : List Deed) (b : Box) (conn : ℕ) → Stands (Shows ds) FitEntry (items_in ds) b → EachOf (Marked cs (closed_by (items_in ds)) (cut_by (items_in ds))) b.links → Sealed c (items_in ds) b → Sealed c (items_in ds) (after_call o b (Nexts conn))
  hand ds b conn shows marks h =
      ⊎_elim
      (λ (k : Hand o b conn).
      let l : Link = k.handing.link in
      let out : Outgoing = k.handing.out in
      let fits : LinkShows ds l = each-first_of (LinkShows ds) (λ (m : Link). m.conn == conn) b.links l k.handing.found shows.links in
      subst (Sealed c (items_in ds)) (sym k.after_is)
      (seal_hand c o cs known (items_in ds) b conn l out k.handed (ap (λ (x : Handed). x.out) k.handing.is) k.handing.found marks (chosen_from o b l out k.handing.chosen_is)
      (λ (q : FromQueue o b l out). (subst (EachOf Fit) q.queue_is fits.fit).0.queued) h))
      (λ (k : Idle o b conn). subst (Sealed c (items_in ds)) (sym k.after_is) h)
      (next o b conn)

  pub record SealStand (all : List (List Effect)) (ds : List Deed) (b : Box) : Type 0 where
    pub shows : Stands (Shows ds) FitEntry (items_in ds) b
    pub marks : MarksStand cs (items_in ds) b
    pub sealed : (rest : List (List Effect)) → items_in ds ++ rest ≡ all → Sealed c (items_in ds) b

  quiet : (all : List (List Effect)) (ds : List Deed) (b b' : Box) (deed : Deed) → items_of_call deed.0 ≡ [] → (Sealed c (items_in ds) b → Sealed c (items_in ds) b') → SealStand all ds b
      → (rest : List (List Effect)) → items_in (ds ++ deed ∷ []) ++ rest ≡ all → Sealed c (items_in (ds ++ deed ∷ [])) b'
  quiet all ds b b' deed none step h rest whole =
      no_items ds deed b' none (step (h.sealed rest (ap (λ its. its ++ rest) (sym (items_in-more ds deed ∙ ap (λ its. items_in ds ++ its) none ∙ append-nil (items_in ds))) ∙ whole)))

  call_seal : (all : List (List Effect)) → HushAll c o cs known all → (ds : List Deed) (b : Box) (call : Call) → SealStand all ds b
      → (rest : List (List Effect)) → items_in (ds ++ (call, answered o b call) ∷ []) ++ rest ≡ all → Sealed c (items_in (ds ++ (call, answered o b call) ∷ [])) (after_call o b call)
  call_seal all hush ds b (Takes effects numbers) h = λ rest whole.
      let d : Deed = (Takes effects numbers, answered o b (Takes effects numbers)) in
      let whole' : items_in ds ++ (in_parts effects ++ rest) ≡ all = sym (append_assoc (items_in ds) (in_parts effects) rest) ∙ ap (λ its. its ++ rest) (sym (items_in-more ds d)) ∙ whole in
      let k : Sealed c (items_in ds ++ in_parts effects) (after_items o b (in_parts effects)) = seal_items c o cs known all hush (items_in ds) (in_parts effects) rest b whole' h.marks (h.sealed (in_parts effects ++ rest) whole') in
      subst (λ its. Sealed c its (after_call o b (Takes effects numbers))) (sym (items_in-more ds d)) (record { lines = k.lines; undue = k.undue; undue_over = k.undue_over })
  call_seal all hush ds b (Puts p) h = quiet all ds b (after_call o b (Puts p)) (Puts p, answered o b (Puts p)) refl (put (items_in ds) b p h.marks.marks) h
  call_seal all hush ds b (Stops ticket) h =
      quiet all ds b (after_call o b (Stops ticket)) (Stops ticket, answered o b (Stops ticket)) refl
      (λ k. cond_both (is_running b ticket) (settle o (in_phase phase_stopped (ticket ∷ []) b)) b (Sealed c (items_in ds))
      (λ is. settled (items_in ds) (in_phase phase_stopped (ticket ∷ []) b) (record { lines = k.lines; undue = k.undue; undue_over = k.undue_over })) (λ is. k)) h
  call_seal all hush ds b (Nexts conn) h = quiet all ds b (after_call o b (Nexts conn)) (Nexts conn, answered o b (Nexts conn)) refl (hand ds b conn h.shows h.marks.marks) h
  call_seal all hush ds b (Writes conn) h =
      quiet all ds b (after_call o b (Writes conn)) (Writes conn, answered o b (Writes conn)) refl (λ k. settled (items_in ds) (record b { links = at_link conn one_written b.links }) (wrote (items_in ds) b conn k)) h
  call_seal all hush ds b (Hears conn exp_stat_sn tag) h =
      quiet all ds b (after_call o b (Hears conn exp_stat_sn tag)) (Hears conn exp_stat_sn tag, answered o b (Hears conn exp_stat_sn tag)) refl
      (λ k. settled (items_in ds) (record b { links = at_link conn (link_heard exp_stat_sn tag) b.links }) (heard (items_in ds) b conn exp_stat_sn tag k)) h
  call_seal all hush ds b (Joins conn stat_sn) h =
      quiet all ds b (after_call o b (Joins conn stat_sn)) (Joins conn stat_sn, answered o b (Joins conn stat_sn)) refl
      (λ k. cond_both (may_join b conn) (record b { links = at_link conn (link_joined stat_sn) b.links }) b (Sealed c (items_in ds))
      (λ is. seal_marks c (items_in ds) conn (link_joined stat_sn) b (λ l. refl) (λ l. refl) (λ l. refl) k) (λ is. k)) h
  call_seal all hush ds b (Loses conn) h =
      let marked : Box = record b { links = at_link conn link_lost b.links } in
      let lost : Box = record marked { reached = 0 } in
      quiet all ds b (after_call o b (Loses conn)) (Loses conn, answered o b (Loses conn)) refl
      (λ k. settled (items_in ds) (drop_on conn lost)
      (seal_drop c (items_in ds) conn lost (let j : Sealed c (items_in ds) marked = seal_marks c (items_in ds) conn link_lost b (λ l. refl) (λ l. refl) (λ l. refl) k in record { lines = j.lines; undue = j.undue; undue_over = j.undue_over }))) h
  call_seal all hush ds b (Clears unit) h =
      quiet all ds b (after_call o b (Clears unit)) (Clears unit, answered o b (Clears unit)) refl (λ k. settled (items_in ds) (record b { undue = cleared unit b.undue }) (clear (items_in ds) b unit k)) h

  pub seal_kept : (all : List (List Effect)) → HushAll c o cs known all → (ds : List Deed) (b : Box) (call : Call) → SealStand all ds b → SealStand all (ds ++ (call, answered o b call) ∷ []) (after_call o b call)
  seal_kept all hush ds b call h = record {
    shows = call_keeps o Shows FitEntry (link_calls o) ds b call h.shows;
    marks = marks_kept o cs ds b call h.marks;
    sealed = call_seal all hush ds b call h;
  }
