-- Through items, calls and what is handed out the answer that closes a connection stays the last one there.
use Rattle.std.proofs.Common.{◌≡◌, ℕ, ⊎_elim, ◌==◌, ◌&&◌, not, cond, Bool, true, false, List, [], ◌∷◌, ◌++◌, map, filter, filter_map, drop, nat_lt, Option, Some, None, refl, ap, sym, subst, ◌∙◌}
use Rattle.std.specs.List.{list_any}
use Rattle.std.proofs.lemmas.Bool.{cond_both, false≢true, eqb-true}
use Rattle.std.proofs.lemmas.List.{append_assoc, append-nil, map-append}
use Rattle.iscsi_wire.specs.declared.reply.Reply.{Reply}
use Rattle.iscsi_wire.specs.declared.request.Request.{Request}
use Rattle.iscsi_wire.specs.Serial.{lift}
use Rattle.iscsi_rules.specs.declared.effect.Effect.{Effect}
use Rattle.iscsi_rules.specs.rules.Trace.{first_of}
use Rattle.iscsi_rules.proofs.general.BoolLemmas.{and_first, and_second, or_none, or_second, not_true}
use Rattle.iscsi_rules.proofs.general.ListLemmas.{first_itself}
use Rattle.iscsi_outbox_rules.specs.rules.Calls.{Opening}
use Rattle.iscsi_outbox_rules.specs.rules.Boxes.{Outgoing, Handed, Answer, Link, Box}
use Rattle.iscsi_outbox_rules.specs.rules.Words.{contains, is_open, is_usable, looks_for_arrival, unarrived, max_shown}
use Rattle.iscsi_outbox_rules.specs.rules.Queues.{at_link}
use Rattle.iscsi_outbox_rules.specs.rules.Items.{executing, tickets_left, reply_sent, ticket_enabled, closed_in, newly_closed, phase_enabled, in_phase, leave, enter_tasks, close, send, after_item, after_items}
use Rattle.iscsi_outbox_rules.specs.rules.Handing.{is_ping, is_behind_logout, is_asked_for, is_from_queue, taken_from, after_given}
use Rattle.iscsi_outbox_rules.specs.promises.Scope.{closes_in}
use Rattle.iscsi_outbox_rules.proofs.general.EachLemmas.{EachOf, each-append, each-first, each-second, each-weaken, each-first_of}
use Rattle.iscsi_outbox_rules.proofs.general.SortedLemmas.{SortedBy, sorted-insert}
use Rattle.iscsi_outbox_rules.proofs.general.FoundLemmas.{find_link, found-conn, find-map}
use Rattle.iscsi_outbox_rules.proofs.order.CountRuns.{some_link}
use Rattle.iscsi_outbox_rules.proofs.general.Chosen.{FromQueue, IsPing, IsNotice, Chosen}
use Rattle.iscsi_outbox_rules.proofs.closes.MarkRuns.{closes_as, is_closing, closed_by, cut_by, closed_by-more, Marked}
use Rattle.iscsi_outbox_rules.proofs.closes.MarkItems.{newly, MarksStand, item_marks}
use Rattle.iscsi_outbox_rules.proofs.closes.SealRuns.{Shut, Last, Over, line, LineOf, Sealed, shut_line, seal_settle, seal_leave, seal_entered, seal_close, seal_send}

-- this item sends nothing on a connection that one before it closed
abbrev pub Hush : ℕ → List (List Effect) → List Effect → Type 0
Hush c items item = (s : ℕ × Reply) → first_of (filter_map reply_sent item) ≡ Some s → s.0 ≡ c → closed_by items c ≡ false

module _ (c : ℕ) (o : Opening) (cs : List ℕ) (known : list_any (λ k. k == c) cs ≡ true) where
  pub seal_item : (items : List (List Effect)) (b : Box) (item : List Effect) → Hush c items item → MarksStand cs items b → Sealed c items b → Sealed c (items ++ item ∷ []) (after_item o b item)
  seal_item items b item hush m h =
      seal_settle c o its [] (in_phase phase_enabled (filter_map ticket_enabled item) sent).undue (in_phase phase_enabled (filter_map ticket_enabled item) sent)
      (let k : Sealed c its sent = seal_send c o items item closed (executing item) (tickets_left item) (closed_in b item) closes (first_of (filter_map reply_sent item)) hush closing
      (seal_close c items (executing item) closes (enter_tasks (executing item) item (leave (executing item) (tickets_left item) b)) (seal_entered c items (executing item) item (leave (executing item) (tickets_left item) b) (seal_leave c items (executing item) (tickets_left item) b h))) in
      record { lines = k.lines; undue = k.undue; undue_over = k.undue_over })
    where
      its : List (List Effect)
      its = items ++ item ∷ []

      closes : List ℕ
      closes = newly_closed b (closed_in b item)

      closed : Box
      closed = close (executing item) closes (enter_tasks (executing item) item (leave (executing item) (tickets_left item) b))

      sent : Box
      sent = send o (executing item) (tickets_left item) (closed_in b item) closes (first_of (filter_map reply_sent item)) closed

      new : contains closes c ≡ (closes_in c item && not (closed_by items c))
      new = newly cs (closed_by items) (cut_by items) b item c m.marks (ap (list_any (λ k. k == c)) m.conns ∙ known)

      closing : (q : Request) → executing item ≡ Some q → contains closes c ≡ true → closed_by its c ≡ true
      closing q is there =
          closed_by-more items item c
          ∙ or_second (closed_by items c) (is_closing c item) (ap (λ x. closes_as c x item) is ∙ and_first (closes_in c item) (not (closed_by items c)) (sym new ∙ there))

  -- while what is taken is the beginning of all
  abbrev pub HushAll : List (List Effect) → Type 0
  HushAll all = (before rest : List (List Effect)) (item : List Effect) → before ++ item ∷ rest ≡ all → Hush c before item

  pub seal_items : (all : List (List Effect)) → HushAll all → (items more rest : List (List Effect)) (b : Box) → items ++ (more ++ rest) ≡ all → MarksStand cs items b → Sealed c items b → Sealed c (items ++ more) (after_items o b more)
  seal_items all hush items [] rest b whole m h = subst (λ its. Sealed c its b) (sym (append-nil items)) h
  seal_items all hush items (item ∷ more) rest b whole m h =
      subst (λ its. Sealed c its (after_items o (after_item o b item) more)) (append_assoc items (item ∷ []) more)
      (seal_items all hush (items ++ item ∷ []) more rest (after_item o b item) (append_assoc items (item ∷ []) (more ++ rest) ∙ whole)
      (item_marks o cs items b item m) (seal_item items b item (hush items (more ++ rest) item whole) m h))

  -- ---- handing out

  same_line : (items : List (List Effect)) (undue : List Answer) (l l' : Link) → line c l ≡ line c l' → LineOf c items undue l → LineOf c items undue l'
  same_line items undue l l' same h = record {
    last = subst (SortedBy (Last c)) same h.last;
    over = subst (EachOf (Over c items)) same h.over;
    clear = each-weaken (λ (a : Answer). a.conn ≡ c → EachOf (Shut c) (line c l)) (λ (a : Answer). a.conn ≡ c → EachOf (Shut c) (line c l')) undue (λ a k at. subst (EachOf (Shut c)) same (k at)) h.clear;
  }

  -- a NOP-In of the outbox's own goes out before what waits
  inserted : (items : List (List Effect)) (undue : List Answer) (l : Link) (g : Handed) → Shut c g.out → EachOf (Shut c) (map (λ (h : Handed). h.out) l.handed) → LineOf c items undue l
      → LineOf c items undue (record l { handed = l.handed ++ g ∷ [] })
  inserted items undue l g shut none h = record {
    last = subst (λ xs. SortedBy (Last c) (xs ++ l.queue)) pushed (sorted-insert (Last c) hs l.queue g.out h.last none (all l.queue));
    over = subst (λ xs. EachOf (Over c items) (xs ++ l.queue)) pushed (into (Over c items) (λ is. absurd (false≢true (sym shut ∙ is))) h.over);
    clear = each-weaken (λ (a : Answer). a.conn ≡ c → EachOf (Shut c) (line c l)) (λ (a : Answer). a.conn ≡ c → EachOf (Shut c) (map (λ (x : Handed). x.out) (l.handed ++ g ∷ []) ++ l.queue)) undue
        (λ a k at. subst (λ xs. EachOf (Shut c) (xs ++ l.queue)) pushed (into (Shut c) shut (k at))) h.clear;
  }
    where
      hs : List Outgoing
      hs = map (λ (x : Handed). x.out) l.handed

      pushed : hs ++ g.out ∷ [] ≡ map (λ (x : Handed). x.out) (l.handed ++ g ∷ [])
      pushed = sym (map-append (λ (x : Handed). x.out) l.handed (g ∷ []))

      all : (ys : List Outgoing) → EachOf (λ y. Last c g.out y) ys
      all [] = tt
      all (y ∷ ys) = (shut, all ys)

      into : (P : Outgoing → Type 0) → P g.out → EachOf P (hs ++ l.queue) → EachOf P ((hs ++ g.out ∷ []) ++ l.queue)
      into P here e = each-append P (hs ++ g.out ∷ []) l.queue (each-append P hs (g.out ∷ []) (each-first P hs l.queue e) (here, tt)) (each-second P hs l.queue e)

  none_of : (hs : List Handed) → list_any (λ (h : Handed). contains h.out.closes c) hs ≡ false → EachOf (Shut c) (map (λ (h : Handed). h.out) hs)
  none_of [] h = tt
  none_of (x ∷ hs) h = let parts = or_none (contains x.out.closes c) (list_any (λ (y : Handed). contains y.out.closes c) hs) h in (parts.0, none_of hs parts.1)

  -- the line of the connection that hands this out
  pub handed_last : (items : List (List Effect)) (b : Box) (l : Link) (out : Outgoing) (g : Handed) → g.out ≡ out → l.conn ≡ c → EachOf (Marked cs (closed_by items) (cut_by items)) b.links → Chosen o b l out
      → ((q : FromQueue o b l out) → is_from_queue out ≡ true) → LineOf c items b.undue l → LineOf c items b.undue (let m : Link = taken_from out l in record m { handed = m.handed ++ g ∷ [] })
  handed_last items b l out g is at marks from queued h = ⊎_elim by_queue (⊎_elim by_ping by_notice) from.source
    where
      Goal : Bool → Type 0
      Goal v = LineOf c items b.undue (let m : Link = cond v (record l { queue = drop 1 l.queue }) l in record m { handed = m.handed ++ g ∷ [] })

      by_queue : FromQueue o b l out → Goal (is_from_queue out)
      by_queue q =
          subst Goal (sym (queued q))
          (same_line items b.undue l (record l { queue = drop 1 l.queue; handed = l.handed ++ g ∷ [] })
          (ap (λ ys. hs ++ ys) (q.queue_is ∙ ap (λ x. x ∷ q.rest) (sym is)) ∙ sym (append_assoc hs (g.out ∷ []) q.rest) ∙ ap (λ xs. xs ++ q.rest) (sym (map-append (λ (x : Handed). x.out) l.handed (g ∷ [])))
          ∙ ap (λ ys. map (λ (x : Handed). x.out) (l.handed ++ g ∷ []) ++ ys) (sym (ap (drop 1) q.queue_is))) h)
        where
          hs : List Outgoing
          hs = map (λ (x : Handed). x.out) l.handed

      by_ping : IsPing o b l out → Goal (is_from_queue out)
      by_ping p =
          let behind : is_behind_logout l ≡ false =
          not_true (is_behind_logout l) (and_second ((looks_for_arrival o && is_asked_for o b l) && not (list_any is_ping (unarrived l))) (not (is_behind_logout l)) p.wanted) in
          let shut : Shut c g.out = ap (λ (x : Outgoing). contains x.closes c) (is ∙ p.is) in
          subst Goal (sym (ap is_from_queue p.is))
          (inserted items b.undue l g shut (none_of l.handed (ap (λ n. list_any (λ (x : Handed). contains x.out.closes n) l.handed) (sym at) ∙ (or_none l.cut (list_any (λ (x : Handed). contains x.out.closes l.conn) l.handed) behind).1)) h)

      usable : (x : Option Link) → first_of (filter is_usable b.links) ≡ x → elim x [ Some k ↦ k.conn == l.conn | None ↦ false ] ≡ true → closed_by items c ≡ false
      usable None found same = absurd (false≢true same)
      usable (Some k) found same =
          let mark : Marked cs (closed_by items) (cut_by items) k = each-first_of (Marked cs (closed_by items) (cut_by items)) is_usable b.links k found marks in
          let unclosed : k.closed ≡ false = not_true k.closed (and_second (is_open k) (not k.closed) (first_itself is_usable b.links k found)) in
          ap (closed_by items) (sym (eqb-true k.conn l.conn same ∙ at)) ∙ sym mark.closed ∙ unclosed

      by_notice : IsNotice o b l out → Goal (is_from_queue out)
      by_notice p =
          let asks : Bool = elim (first_of (filter is_usable b.links)) [ Some k ↦ k.conn == l.conn | None ↦ false ] in
          let unclosed : closed_by items c ≡ false =
          usable (first_of (filter is_usable b.links)) refl
          (and_first asks (nat_lt b.reached (lift b.shown b.exp)) (and_first (asks && nat_lt b.reached (lift b.shown b.exp)) (nat_lt b.reached (max_shown o b)) p.wanted)) in
          let shut : Shut c g.out = ap (λ (x : Outgoing). contains x.closes c) (is ∙ p.is) in
          subst Goal (sym (ap is_from_queue p.is))
          (inserted items b.undue l g shut (each-first (Shut c) (map (λ (x : Handed). x.out) l.handed) l.queue (shut_line c items b.undue l unclosed h)) h)

  pub seal_hand : (items : List (List Effect)) (b : Box) (conn : ℕ) (l : Link) (out : Outgoing) (g : Handed) → g.out ≡ out → find_link conn b.links ≡ Some l → EachOf (Marked cs (closed_by items) (cut_by items)) b.links → Chosen o b l out
      → ((q : FromQueue o b l out) → is_from_queue out ≡ true) → Sealed c items b → Sealed c items (after_given o b l g)
  seal_hand items b conn l out g is found marks from queued h = record { lines = lines; undue = h.undue; undue_over = h.undue_over }
    where
      push : Link → Link
      push m = record m { handed = m.handed ++ g ∷ [] }

      take : Link → Link
      take m = taken_from g.out m

      same_conn : (m : Link) → (take m).conn ≡ m.conn
      same_conn m = cond_both (is_from_queue g.out) (record m { queue = drop 1 m.queue }) m (λ (x : Link). x.conn ≡ m.conn) (λ v. refl) (λ v. refl)

      at : l.conn ≡ conn
      at = found-conn conn b.links l found

      Line : Link → Type 0
      Line m = LineOf c items b.undue m

      both : (m : Link) → find_link c b.links ≡ Some m → Line m → Line (let k : Link = cond (m.conn == l.conn) (take m) m in cond (k.conn == l.conn) (push k) k)
      both m there k =
          elim (m.conn == l.conn) as (λ v. (m.conn == l.conn) ≡ v → Line (let k : Link = cond v (take m) m in cond (k.conn == l.conn) (push k) k)) [
            | true ↦ λ here.
                let on : l.conn ≡ c = sym (eqb-true m.conn l.conn here) ∙ found-conn c b.links m there in
                let same : l ≡ m = some_link l m (sym (ap (λ n. find_link n b.links) (sym on ∙ at) ∙ found) ∙ there) in
                subst (λ v. Line (cond v (push (take m)) (take m))) (sym (ap (λ n. n == l.conn) (same_conn m) ∙ here))
                (subst (λ (x : Link). Line (push (take x))) same (subst (λ (x : Outgoing). Line (push (taken_from x l))) (sym is) (handed_last items b l out g is on marks from queued (subst Line (sym same) k))))
            | false ↦ λ apart. subst (λ v. Line (cond v (push m) m)) (sym apart) k
          ] refl

      lines : (m : Link) → find_link c (after_given o b l g).links ≡ Some m → Line m
      lines m there =
          let second = find-map (λ (k : Link). cond (k.conn == l.conn) (push k) k) (λ k. cond_both (k.conn == l.conn) (push k) k (λ (x : Link). x.conn ≡ k.conn) (λ v. refl) (λ v. refl)) (at_link l.conn take b.links) c m there in
          let first = find-map (λ (k : Link). cond (k.conn == l.conn) (take k) k) (λ k. cond_both (k.conn == l.conn) (take k) k (λ (x : Link). x.conn ≡ k.conn) (λ v. same_conn k) (λ v. refl)) b.links c second.0 second.1 in
          subst Line second.2 (subst (λ (k : Link). Line (cond (k.conn == l.conn) (push k) k)) first.2 (both first.0 first.1 (h.lines first.0 first.1)))
