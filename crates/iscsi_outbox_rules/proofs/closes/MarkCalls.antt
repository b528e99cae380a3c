-- The marks of connections stay right, call by call, so that nothing goes out where another one's Logout closed.
use Rattle.std.proofs.Common.{◌≡◌, ℕ, ⊎_elim, ◌==◌, ◌||◌, ◌&&◌, ◌+◌, not, cond, Bool, true, false, List, [], ◌∷◌, ◌++◌, map, filter, length, drop, max, nat_lt, Option, Some, None, refl, ap, sym, subst, ◌∙◌, eq-eqb}
use Rattle.std.specs.List.{list_any}
use Rattle.std.proofs.lemmas.Bool.{cond_both, false≢true, eqb-true}
use Rattle.std.proofs.lemmas.List.{append-nil}
use Rattle.iscsi_rules.specs.declared.effect.Effect.{Effect}
use Rattle.iscsi_rules.specs.rules.Trace.{first_of}
use Rattle.iscsi_rules.specs.promises.Order.{in_parts}
use Rattle.iscsi_rules.proofs.general.BoolLemmas.{and_first, and_second, or_none, or_second, not_true}
use Rattle.iscsi_rules.proofs.general.ListLemmas.{first_itself}
use Rattle.iscsi_outbox_rules.specs.rules.Calls.{Opening, Call, Takes, Puts, Stops, Nexts, Writes, Hears, Joins, Loses, Clears}
use Rattle.iscsi_outbox_rules.specs.rules.Boxes.{Outgoing, Handed, Link, Box}
use Rattle.iscsi_wire.specs.Serial.{lift}
use Rattle.iscsi_outbox_rules.specs.rules.Words.{contains, is_open, is_usable, is_running, looks_for_arrival, unarrived, max_shown}
use Rattle.iscsi_outbox_rules.specs.rules.Queues.{at_link, enter, emptied, drop_on}
use Rattle.iscsi_outbox_rules.specs.rules.Due.{settle}
use Rattle.iscsi_outbox_rules.specs.rules.Items.{executing, in_phase}
use Rattle.iscsi_outbox_rules.specs.rules.Own.{own_conn, own_outgoing, put_refusal}
use Rattle.iscsi_outbox_rules.specs.rules.Handing.{is_ping, is_behind_logout, is_asked_for, is_from_queue, taken_from}
use Rattle.iscsi_outbox_rules.specs.rules.Run.{new_link, opened, after_call, answered, phase_stopped, one_written, arrived_by_stat_sn, arrived_by_ping, link_heard, may_join, link_joined, link_lost, cleared}
use Rattle.iscsi_outbox_rules.specs.promises.Deeds.{Deed, deeds_of, items_in, items_of_call, handed_in_deed}
use Rattle.iscsi_outbox_rules.proofs.general.EachLemmas.{EachOf, each-first_of}
use Rattle.iscsi_outbox_rules.proofs.general.DeedLemmas.{items_in-more}
use Rattle.iscsi_outbox_rules.proofs.general.Chosen.{FromQueue, IsPing, IsNotice, Chosen, chosen_from}
use Rattle.iscsi_outbox_rules.proofs.general.Cuts.{Hand, Idle, next, at_handing}
use Rattle.iscsi_outbox_rules.proofs.general.Boxwise.{box_keeps}
use Rattle.iscsi_outbox_rules.proofs.general.ConnLemmas.{conns_of, HaveConns, have_conns, conn_boxes}
use Rattle.iscsi_outbox_rules.proofs.closes.MarkRuns.{is_closing, by_another, closed_by, cut_by, Marked, Keeps, marks_at, keeps_append, keeps_emptied, marks_settle}
use Rattle.iscsi_outbox_rules.proofs.closes.MarkItems.{MarksStand, items_marks}

keeps_written : Keeps one_written
keeps_written = record {
  conn = λ l. cond_both (nat_lt l.written (length l.handed)) (record l { written = l.written + 1 }) l (λ (m : Link). m.conn ≡ l.conn) (λ is. refl) (λ is. refl);
  closed = λ l. cond_both (nat_lt l.written (length l.handed)) (record l { written = l.written + 1 }) l (λ (m : Link). m.closed ≡ l.closed) (λ is. refl) (λ is. refl);
  cut = λ l. cond_both (nat_lt l.written (length l.handed)) (record l { written = l.written + 1 }) l (λ (m : Link). m.cut ≡ l.cut) (λ is. refl) (λ is. refl);
  empty = λ l cut none. cond_both (nat_lt l.written (length l.handed)) (record l { written = l.written + 1 }) l (λ (m : Link). m.queue ≡ []) (λ is. none) (λ is. none);
  idle = λ l none. cond_both (nat_lt l.written (length l.handed)) (record l { written = l.written + 1 }) l (λ (m : Link). m.joined ≡ false → m.queue ≡ []) (λ is. none) (λ is. none);
}

keeps_heard : (exp_stat_sn tag : ℕ) → Keeps (link_heard exp_stat_sn tag)
keeps_heard exp_stat_sn tag = record {
  conn = λ l. cond_both (is_open l) (record l { arrived = max l.arrived (max (arrived_by_stat_sn l exp_stat_sn) (arrived_by_ping l tag)) }) l (λ (m : Link). m.conn ≡ l.conn) (λ is. refl) (λ is. refl);
  closed = λ l. cond_both (is_open l) (record l { arrived = max l.arrived (max (arrived_by_stat_sn l exp_stat_sn) (arrived_by_ping l tag)) }) l (λ (m : Link). m.closed ≡ l.closed) (λ is. refl) (λ is. refl);
  cut = λ l. cond_both (is_open l) (record l { arrived = max l.arrived (max (arrived_by_stat_sn l exp_stat_sn) (arrived_by_ping l tag)) }) l (λ (m : Link). m.cut ≡ l.cut) (λ is. refl) (λ is. refl);
  empty = λ l cut none. cond_both (is_open l) (record l { arrived = max l.arrived (max (arrived_by_stat_sn l exp_stat_sn) (arrived_by_ping l tag)) }) l (λ (m : Link). m.queue ≡ []) (λ is. none) (λ is. none);
  idle = λ l none. cond_both (is_open l) (record l { arrived = max l.arrived (max (arrived_by_stat_sn l exp_stat_sn) (arrived_by_ping l tag)) }) l (λ (m : Link). m.joined ≡ false → m.queue ≡ []) (λ is. none) (λ is. none);
}

keeps_taken : (out : Outgoing) → Keeps (taken_from out)
keeps_taken out = record {
  conn = λ l. cond_both (is_from_queue out) (record l { queue = drop 1 l.queue }) l (λ (m : Link). m.conn ≡ l.conn) (λ is. refl) (λ is. refl);
  closed = λ l. cond_both (is_from_queue out) (record l { queue = drop 1 l.queue }) l (λ (m : Link). m.closed ≡ l.closed) (λ is. refl) (λ is. refl);
  cut = λ l. cond_both (is_from_queue out) (record l { queue = drop 1 l.queue }) l (λ (m : Link). m.cut ≡ l.cut) (λ is. refl) (λ is. refl);
  empty = λ l cut none. cond_both (is_from_queue out) (record l { queue = drop 1 l.queue }) l (λ (m : Link). m.queue ≡ []) (λ is. ap (drop 1) none) (λ is. none);
  idle = λ l none. cond_both (is_from_queue out) (record l { queue = drop 1 l.queue }) l (λ (m : Link). m.joined ≡ false → m.queue ≡ []) (λ is idle. ap (drop 1) (none idle)) (λ is. none);
}

-- ---- a call

module _ (o : Opening) (cs : List ℕ) where
  abbrev Marks : List (List Effect) → Box → Type 0
  Marks items b = EachOf (Marked cs (closed_by items) (cut_by items)) b.links

  no_items : (ds : List Deed) (deed : Deed) (b : Box) → items_of_call deed.0 ≡ [] → Marks (items_in ds) b → Marks (items_in (ds ++ deed ∷ [])) b
  no_items ds deed b none h = subst (λ its. Marks its b) (sym (items_in-more ds deed ∙ ap (λ its. items_in ds ++ its) none ∙ append-nil (items_in ds))) h

  at : (items : List (List Effect)) (conn : ℕ) (change : Link → Link) → Keeps change → (links : List Link) → EachOf (Marked cs (closed_by items) (cut_by items)) links → EachOf (Marked cs (closed_by items) (cut_by items)) (at_link conn change links)
  at items conn change k links h = marks_at cs (closed_by items) (cut_by items) conn change k links h

  settled : (items : List (List Effect)) (b : Box) → Marks items b → Marks items (settle o b)
  settled items b h = marks_settle cs (closed_by items) (cut_by items) o [] b.undue b h

  put : (items : List (List Effect)) (b : Box) (p : _) → Marks items b → Marks items (after_call o b (Puts p))
  put items b p h =
      elim (put_refusal o b p) as (λ x. Marks items (elim x [ Some refusal ↦ b | None ↦ elim (own_conn b p) [ Some conn ↦ enter conn (own_outgoing p) b | None ↦ b ] ])) [
        | Some refusal ↦ h
        | None ↦ elim (own_conn b p) as (λ x. Marks items (elim x [ Some conn ↦ enter conn (own_outgoing p) b | None ↦ b ])) [
          | Some conn ↦ at items conn _ (keeps_append cs (closed_by items) (cut_by items) (record (own_outgoing p) { time = b.time })) b.links h
          | None ↦ h
        ]
      ]

  hand : (items : List (List Effect)) (b : Box) (conn : ℕ) → Marks items b → Marks items (after_call o b (Nexts conn))
  hand items b conn h =
      ⊎_elim
      (λ (k : Hand o b conn).
      let l : Link = k.handing.link in
      subst (Marks items) (sym k.after_is)
      (at items l.conn (λ m. record m { handed = m.handed ++ k.handed ∷ [] }) (record { conn = λ m. refl; closed = λ m. refl; cut = λ m. refl; empty = λ m cut none. none; idle = λ m none. none }) (at_link l.conn (taken_from k.handed.out) b.links)
      (at items l.conn (taken_from k.handed.out) (keeps_taken k.handed.out) b.links h)))
      (λ (k : Idle o b conn). subst (Marks items) (sym k.after_is) h)
      (next o b conn)

  call_marks : (ds : List Deed) (b : Box) (c : Call) → conns_of b.links ≡ cs → Marks (items_in ds) b → Marks (items_in (ds ++ (c, answered o b c) ∷ [])) (after_call o b c)
  call_marks ds b (Takes effects numbers) conns h =
      subst (λ its. Marks its (after_call o b (Takes effects numbers))) (sym (items_in-more ds (Takes effects numbers, answered o b (Takes effects numbers))))
      (items_marks o cs (items_in ds) (in_parts effects) b (record { conns = conns; marks = h })).marks
  call_marks ds b (Puts p) conns h = no_items ds (Puts p, answered o b (Puts p)) (after_call o b (Puts p)) refl (put (items_in ds) b p h)
  call_marks ds b (Stops ticket) conns h =
      no_items ds (Stops ticket, answered o b (Stops ticket)) (after_call o b (Stops ticket)) refl
      (cond_both (is_running b ticket) (settle o (in_phase phase_stopped (ticket ∷ []) b)) b (Marks (items_in ds)) (λ is. settled (items_in ds) (in_phase phase_stopped (ticket ∷ []) b) h) (λ is. h))
  call_marks ds b (Nexts conn) conns h = no_items ds (Nexts conn, answered o b (Nexts conn)) (after_call o b (Nexts conn)) refl (hand (items_in ds) b conn h)
  call_marks ds b (Writes conn) conns h =
      no_items ds (Writes conn, answered o b (Writes conn)) (after_call o b (Writes conn)) refl
      (settled (items_in ds) (record b { links = at_link conn one_written b.links }) (at (items_in ds) conn one_written keeps_written b.links h))
  call_marks ds b (Hears conn exp_stat_sn tag) conns h =
      no_items ds (Hears conn exp_stat_sn tag, answered o b (Hears conn exp_stat_sn tag)) (after_call o b (Hears conn exp_stat_sn tag)) refl
      (settled (items_in ds) (record b { links = at_link conn (link_heard exp_stat_sn tag) b.links }) (at (items_in ds) conn (link_heard exp_stat_sn tag) (keeps_heard exp_stat_sn tag) b.links h))
  call_marks ds b (Joins conn stat_sn) conns h =
      no_items ds (Joins conn stat_sn, answered o b (Joins conn stat_sn)) (after_call o b (Joins conn stat_sn)) refl
      (cond_both (may_join b conn) (record b { links = at_link conn (link_joined stat_sn) b.links }) b (Marks (items_in ds))
      (λ is. at (items_in ds) conn (link_joined stat_sn) (record { conn = λ m. refl; closed = λ m. refl; cut = λ m. refl; empty = λ m cut none. none; idle = λ m none is. absurd (false≢true (sym is)) }) b.links h) (λ is. h))
  call_marks ds b (Loses conn) conns h =
      no_items ds (Loses conn, answered o b (Loses conn)) (after_call o b (Loses conn)) refl
      (settled (items_in ds) (drop_on conn (record b { links = at_link conn link_lost b.links; reached = 0 }))
      (at (items_in ds) conn emptied (keeps_emptied cs (closed_by (items_in ds)) (cut_by (items_in ds))) (at_link conn link_lost b.links)
      (at (items_in ds) conn link_lost (record { conn = λ m. refl; closed = λ m. refl; cut = λ m. refl; empty = λ m cut none. none; idle = λ m none. none }) b.links h)))
  call_marks ds b (Clears unit) conns h =
      no_items ds (Clears unit, answered o b (Clears unit)) (after_call o b (Clears unit)) refl (settled (items_in ds) (record b { undue = cleared unit b.undue }) h)

  pub marks_kept : (ds : List Deed) (b : Box) (c : Call) → MarksStand cs (items_in ds) b → MarksStand cs (items_in (ds ++ (c, answered o b c) ∷ [])) (after_call o b c)
  marks_kept ds b c h = record {
    conns = box_keeps o (λ (es : List Deed) (x : Box). Unit {0}) (λ its (x : Box). HaveConns cs x.links) (conn_boxes (HaveConns cs) (have_conns cs) o (λ (es : List Deed) (x : Box). Unit {0})) ds b c tt h.conns;
    marks = call_marks ds b c h.conns h.marks;
  }

pub marks_start : (o : Opening) → MarksStand (conns_of (opened o).links) [] (opened o)
marks_start o = record { conns = refl; marks = starts (conns_of (opened o).links) o.session.conns (λ c known. known) }
  where
    starts : (cs : List ℕ) (xs : List (ℕ × ℕ)) → ((c : ℕ) → list_any (λ k. k == c) (conns_of (map (λ (x : ℕ × ℕ). new_link x.0) xs)) ≡ true → list_any (λ k. k == c) cs ≡ true)
        → EachOf (Marked cs (closed_by []) (cut_by [])) (map (λ (x : ℕ × ℕ). new_link x.0) xs)
    starts cs [] known = tt
    starts cs (x ∷ xs) known = (
      record { known = known x.0 (ap (λ v. v || list_any (λ k. k == x.0) (conns_of (map (λ (y : ℕ × ℕ). new_link y.0) xs))) (eq-eqb x.0 x.0 refl)); closed = refl; cut = refl; empty = λ is. refl; idle = λ is. refl },
      starts cs xs (λ c later. known c (or_second (x.0 == c) (list_any (λ k. k == c) (conns_of (map (λ (y : ℕ × ℕ). new_link y.0) xs))) later)),
    )

-- ---- what is handed out

pub cut_closed : (items : List (List Effect)) (c : ℕ) → cut_by items c ≡ true → closed_by items c ≡ true
cut_closed [] c cut = absurd (false≢true cut)
cut_closed (item ∷ items) c cut = by_test (is_closing c item) (cut_closed items c) cut
  where
    by_test : (v : Bool) → (cut_by items c ≡ true → closed_by items c ≡ true) → cond v (by_another c (executing item)) (cut_by items c) ≡ true → (v || closed_by items c) ≡ true
    by_test true later is = refl
    by_test false later is = later is

-- a connection that another one's Logout closed gives nothing
pub gives_uncut : (o : Opening) (cs : List ℕ) (items : List (List Effect)) (b : Box) (l : Link) (out : Outgoing) → EachOf (Marked cs (closed_by items) (cut_by items)) b.links → Marked cs (closed_by items) (cut_by items) l → Chosen o b l out → l.cut ≡ false
gives_uncut o cs items b l out h m from = by_cut l.cut refl
  where
    queued : l.cut ≡ true → FromQueue o b l out → ⊥
    queued is q = let none : out ∷ q.rest ≡ [] = sym q.queue_is ∙ m.empty is in absurd cc

    pinged : l.cut ≡ true → IsPing o b l out → ⊥
    pinged is p =
        let behind : is_behind_logout l ≡ false =
        not_true (is_behind_logout l) (and_second ((looks_for_arrival o && is_asked_for o b l) && not (list_any is_ping (unarrived l))) (not (is_behind_logout l)) p.wanted) in
        false≢true (sym (or_none l.cut (list_any (λ (g : Handed). contains g.out.closes l.conn) l.handed) behind).0 ∙ is)

    usable : (x : Option Link) → first_of (filter is_usable b.links) ≡ x → elim x [ Some k ↦ k.conn == l.conn | None ↦ false ] ≡ true → l.cut ≡ true → ⊥
    usable None found same is = false≢true same
    usable (Some k) found same is =
        let mark : Marked cs (closed_by items) (cut_by items) k = each-first_of (Marked cs (closed_by items) (cut_by items)) is_usable b.links k found h in
        let open_is : k.closed ≡ false = not_true k.closed (and_second (is_open k) (not k.closed) (first_itself is_usable b.links k found)) in
        false≢true (sym open_is ∙ mark.closed ∙ ap (closed_by items) (eqb-true k.conn l.conn same) ∙ cut_closed items l.conn (sym m.cut ∙ is))

    noticed : l.cut ≡ true → IsNotice o b l out → ⊥
    noticed is p =
        let asks : Bool = elim (first_of (filter is_usable b.links)) [ Some k ↦ k.conn == l.conn | None ↦ false ] in
        usable (first_of (filter is_usable b.links)) refl
        (and_first asks (nat_lt b.reached (lift b.shown b.exp)) (and_first (asks && nat_lt b.reached (lift b.shown b.exp)) (nat_lt b.reached (max_shown o b)) p.wanted)) is

    by_cut : (v : Bool) → l.cut ≡ v → l.cut ≡ false
    by_cut false is = is
    by_cut true is = absurd (⊎_elim (queued is) (⊎_elim (pinged is) (noticed is)) from.source)

pub none_where_cut : (o : Opening) (calls : List Call) (before after : List Deed) (handing : Deed) (c : ℕ) (h : Handed)
    → before ++ handing ∷ after ≡ deeds_of o calls → handed_in_deed handing ≡ Some (c, h) → cut_by (items_in before) c ≡ false
none_where_cut o calls before after handing c h whole shown =
    let cs : List ℕ = conns_of (opened o).links in
    let n = at_handing o calls (λ (ds : List Deed) (b : Box). MarksStand cs (items_in ds) b) (marks_kept o cs) (marks_start o) before after handing c h whole shown in
    let l : Link = n.2.link in
    let mark = each-first_of (Marked cs (closed_by (items_in before)) (cut_by (items_in before))) (λ (m : Link). m.conn == c) n.0.links l n.2.found n.1.marks in
    let is : l.conn ≡ c = eqb-true l.conn c (first_itself (λ (m : Link). m.conn == c) n.0.links l n.2.found) in
    ap (cut_by (items_in before)) (sym is) ∙ sym mark.cut ∙ gives_uncut o cs (items_in before) n.0 l n.2.out n.1.marks mark (chosen_from o n.0 l n.2.out n.2.chosen_is)
