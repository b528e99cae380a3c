-- A reply that didn't have to wait is there, or was handed out, call by call; and what was sent behind it entered later.
use Rattle.std.proofs.Common.{◌≡◌, ℕ, zero, suc, ◌+◌, ◌<◌, ◌≤◌, ⊎_elim, ◌==◌, ◌&&◌, ◌||◌, not, cond, Bool, true, false, List, [], ◌∷◌, ◌++◌, drop, length, max, nat_lt, count_by, Option, Some, None, refl, ap, sym, subst, ◌∙◌, arith, eq-eqb}
use Rattle.std.specs.List.{list_any}
use Rattle.std.proofs.lemmas.Bool.{cond_both, false≢true, eqb-true, eqb-false}
use Rattle.std.proofs.lemmas.List.{append_assoc, append-nil}
use Rattle.std.proofs.lemmas.List.Folds.{list_any-append}
use Rattle.std.proofs.lemmas.List.Sums.{sum_by-cons}
use Rattle.iscsi_wire.specs.declared.request.Request.{Request}
use Rattle.iscsi_rules.specs.declared.effect.Effect.{Effect}
use Rattle.iscsi_rules.specs.rules.Trace.{first_of}
use Rattle.iscsi_rules.specs.promises.Order.{in_parts}
use Rattle.iscsi_rules.proofs.general.BoolLemmas.{and_parts, or_second}
use Rattle.iscsi_outbox_rules.specs.declared.own_pdu.OwnPdu.{OwnPdu}
use Rattle.iscsi_outbox_rules.specs.rules.Calls.{Opening, Call, Takes, Puts, Stops, Nexts, Writes, Hears, Joins, Loses, Clears}
use Rattle.iscsi_outbox_rules.specs.rules.Boxes.{Outgoing, Handed, Link, Box}
use Rattle.iscsi_outbox_rules.specs.rules.Words.{contains, is_open, is_running}
use Rattle.iscsi_outbox_rules.specs.rules.Queues.{at_link, takes_more, enter, drop_on}
use Rattle.iscsi_outbox_rules.specs.rules.Due.{settle}
use Rattle.iscsi_outbox_rules.specs.rules.Items.{executing, tickets_left, in_phase}
use Rattle.iscsi_outbox_rules.specs.rules.Own.{own_conn, own_outgoing, put_refusal}
use Rattle.iscsi_outbox_rules.specs.rules.Handing.{is_from_queue, taken_from, handed_as, after_given}
use Rattle.iscsi_outbox_rules.specs.rules.Run.{after_call, answered, phase_stopped, one_written, arrived_by_stat_sn, arrived_by_ping, link_heard, may_join, link_joined, link_lost, cleared}
use Rattle.iscsi_outbox_rules.specs.promises.Deeds.{Deed, items_in, items_of_call}
use Rattle.iscsi_outbox_rules.specs.promises.Scope.{Sent, nth, aim_of_sent, completed_in}
use Rattle.iscsi_outbox_rules.proofs.general.FoundLemmas.{find_link, EachFound, found-conn, found-at_link}
use Rattle.iscsi_outbox_rules.proofs.general.FirstLemmas.{firsts, firsts-append, nth-first}
use Rattle.iscsi_outbox_rules.proofs.general.DeedLemmas.{items_in-more}
use Rattle.iscsi_outbox_rules.proofs.order.CountRuns.{is_at, some_link}
use Rattle.iscsi_outbox_rules.proofs.order.LineRuns.{sent_now}
use Rattle.iscsi_outbox_rules.proofs.commands.LeaveLemmas.{leaving, leavings, leavings-append}
use Rattle.iscsi_outbox_rules.proofs.aborts.SilentItems.{Among, firsts_among}
use Rattle.iscsi_outbox_rules.proofs.general.Chosen.{FromQueue, IsPing, IsNotice, chosen_from}
use Rattle.iscsi_outbox_rules.proofs.general.Cuts.{Handing, Hand, Idle, next}
use Rattle.iscsi_outbox_rules.proofs.general.Boxwise.{box_keeps}
use Rattle.iscsi_outbox_rules.proofs.order.PlaceTimes.{Times, timely_boxes}
use Rattle.iscsi_outbox_rules.proofs.order.PlaceHere.{is_same_ticket, is_it, is_here, Here, here_at, here_enter, here_drop, here_settle, Spares, HereStand, AllSpare, here_items}

-- ---- of lists

nth_within : {A : Type 0} (n : ℕ) (xs : List A) → n < length xs → (x : A) × (nth n xs ≡ Some x)
nth_within n [] low = absurd (omega (arith, low))
nth_within zero (x ∷ xs) low = (x, refl)
nth_within (suc n) (x ∷ xs) low = let less : n < length xs = omega (arith, low) in nth_within n xs less

none_counted : (t : ℕ) (ns : List ℕ) → count_by (λ k. k == t) ns ≤ 0 → contains ns t ≡ false
none_counted t [] none = refl
none_counted t (n ∷ ns) none =
    let counted : count_by (λ k. k == t) (n ∷ ns) ≡ cond {A = ℕ} (n == t) 1 0 + count_by (λ k. k == t) ns = sum_by-cons (λ k. cond (k == t) 1 0) n ns in
    elim (n == t) as (λ v. cond {A = ℕ} v 1 0 + count_by (λ k. k == t) ns ≤ 0 → (v || contains ns t) ≡ false) [
      | true ↦ λ h. absurd (omega (arith, h))
      | false ↦ λ h. none_counted t ns (omega (arith, h))
    ] (subst (λ m. m ≤ 0) counted none)

first_counted : (t : ℕ) (ns : List ℕ) → first_of ns ≡ Some t → 1 ≤ count_by (λ k. k == t) ns
first_counted t [] is = absurd cc
first_counted t (n ∷ ns) is =
    let same : n ≡ t = cc in
    let counted : count_by (λ k. k == t) (n ∷ ns) ≡ cond {A = ℕ} (n == t) 1 0 + count_by (λ k. k == t) ns = sum_by-cons (λ k. cond (k == t) 1 0) n ns in
    let one : cond {A = ℕ} (n == t) 1 0 ≡ 1 = ap (λ v. cond {A = ℕ} v 1 0) (eq-eqb n t same) in
    omega (arith, counted, one)

completed_leaves : (t : ℕ) (item : List Effect) → completed_in item ≡ Some t → 1 ≤ leaving t item
completed_leaves t item is = by_request (executing item) is
  where
    by_request : (x : Option Request) → elim x [ Some r ↦ None | None ↦ first_of (tickets_left item) ] ≡ Some t → 1 ≤ leaving t item
    by_request (Some r) e = absurd cc
    by_request None e = first_counted t (tickets_left item) e

-- ---- one of them

module _ (o : Opening) (all : List (List Effect)) (once : (t : ℕ) → leavings t all ≤ 1) (p : ℕ) (s : Sent) (placed : nth p (firsts all) ≡ Some s) (at_once : aim_of_sent o s ≡ None) where
  some_sent : (x y : Sent) → Some x ≡ Some y → x ≡ y
  some_sent x y is = cc

  -- it was sent by these items already
  sent_by_then : (items rest : List (List Effect)) → items ++ rest ≡ all → p < length (firsts items) → Among [] items s
  sent_by_then items rest whole low =
      let found = nth_within p (firsts items) low in
      let more = firsts-append items rest in
      let same : found.0 ≡ s = some_sent found.0 s (sym (ap (nth p) (ap firsts (sym whole) ∙ more.1) ∙ nth-first p (firsts items) more.0 found.0 found.1) ∙ placed) in
      firsts_among [] items p s (found.1 ∙ ap (λ x. Some x) same)

  -- a command whose response it is doesn't leave again
  leaves_no_more : (items rest : List (List Effect)) (item : List Effect) → items ++ item ∷ rest ≡ all → p < length (firsts items) → (t : ℕ) → completed_in s.item ≡ Some t → contains (tickets_left item) t ≡ false
  leaves_no_more items rest item whole low t completed =
      let a : Among [] items s = sent_by_then items (item ∷ rest) whole low in
      let here : 1 ≤ leaving t s.item = completed_leaves t s.item completed in
      let first : leavings t (s.before ++ s.item ∷ a.rest) ≡ leavings t s.before + leavings t (s.item ∷ a.rest) = leavings-append t s.before (s.item ∷ a.rest) in
      let so_far : leavings t (s.before ++ s.item ∷ a.rest) ≡ leavings t items = ap (leavings t) a.whole in
      let second : leavings t (items ++ item ∷ rest) ≡ leavings t items + leavings t (item ∷ rest) = leavings-append t items (item ∷ rest) in
      let in_all : leavings t (items ++ item ∷ rest) ≡ leavings t all = ap (leavings t) whole in
      let most : leavings t all ≤ 1 = once t in
      none_counted t (tickets_left item) (omega (arith, here, first, so_far, second, in_all, most))

  spares : (items rest : List (List Effect)) (item : List Effect) → items ++ item ∷ rest ≡ all → Spares o p s at_once items item
  spares items rest item whole = record {
    spare = λ low r is x it. by_tickets low x.ticket (completed_in s.item) refl (and_parts (is_at p x && x.takes) (is_same_ticket x.ticket (completed_in s.item)) it).1;
    now = λ conn reply found same. some_sent (record { before = items; item = item; conn = conn; reply = reply }) s (sym (sent_now o all items rest item conn p reply whole found (sym same)) ∙ placed);
  }
    where
      by_tickets : p < length (firsts items) → (x y : Option ℕ) → completed_in s.item ≡ y → is_same_ticket x y ≡ true → elim x [ Some ticket ↦ contains (tickets_left item) ticket | None ↦ false ] ≡ false
      by_tickets low None y is same = refl
      by_tickets low (Some t) None is same = absurd (false≢true same)
      by_tickets low (Some t) (Some u) is same = leaves_no_more items rest item whole low t (is ∙ ap (λ n. Some n) (sym (eqb-true t u same)))

  all_spare : (items more rest : List (List Effect)) → items ++ (more ++ rest) ≡ all → AllSpare o p s at_once items more
  all_spare items [] rest whole = tt
  all_spare items (item ∷ more) rest whole = (spares items (more ++ rest) item whole, all_spare (items ++ item ∷ []) more rest (append_assoc items (item ∷ []) (more ++ rest) ∙ whole))

  pub record PlaceStands (ds : List Deed) (b : Box) : Type 0 where
    pub times : Times o all p s placed at_once (items_in ds) b
    pub here : (rest : List (List Effect)) → items_in ds ++ rest ≡ all → p < length (firsts (items_in ds)) → EachFound (λ (l : Link). l.conn ≡ s.conn → is_here o p s l ≡ true) b.links

  -- ---- the other calls

  settled : (b : Box) → EachFound (Here o p s) b.links → EachFound (Here o p s) (settle o b).links
  settled b h = here_settle o p s [] b.undue b h

  -- it is taken from the queue, and handed out
  taken_out : (a b r g : Bool) → ((a || (b || r)) || g) ≡ true → (b || ((a || r) || g)) ≡ true
  taken_out true true r g h = refl
  taken_out true false r g h = refl
  taken_out false true r g h = refl
  taken_out false false r g h = h

  handed_out : (a b r g : Bool) → (b || ((a || r) || g)) ≡ true → (((a || (b || false)) || r) || g) ≡ true
  handed_out true true r g h = refl
  handed_out true false r g h = refl
  handed_out false true r g h = refl
  handed_out false false r g h = h

  -- as it is taken
  abbrev Between : ℕ → Outgoing → Link → Type 0
  Between conn out m = (m.conn ≡ s.conn → (is_it o p s out || is_here o p s m) ≡ true) × ((m.conn == conn) ≡ false → Here o p s m)

  gives : (b : Box) (conn : ℕ) (h : Handed) (n : Handing o b conn h) → EachFound (Here o p s) b.links → EachFound (Here o p s) (after_given o b n.link (handed_as o b n.link n.out)).links
  gives b conn h n each =
      found-at_link (Between l.conn out) (Here o p s) l.conn (λ m. record m { handed = m.handed ++ g ∷ [] }) (λ m. refl) (at_link l.conn (taken_from out) b.links)
      (λ m found e is.
      ap (λ v. (v || list_any (is_it o p s) m.queue) || not (takes_more m)) (list_any-append (λ (x : Handed). is_it o p s x.out) m.handed (g ∷ []))
      ∙ handed_out (list_any (λ (x : Handed). is_it o p s x.out) m.handed) (is_it o p s out) (list_any (is_it o p s) m.queue) (not (takes_more m)) (e.0 is))
      (λ m isnt e. e.1 isnt)
      (found-at_link (Here o p s) (Between l.conn out) l.conn (taken_from out) same b.links
      (λ m found e. (takes m found e, λ isnt. absurd (eqb-false (taken_from out m).conn l.conn isnt (same m ∙ found-conn l.conn b.links m found))))
      (λ m isnt e. ((λ is. or_second (is_it o p s out) (is_here o p s m) (e is)), (λ other. e))) each)
    where
      l : Link
      l = n.link

      out : Outgoing
      out = n.out

      g : Handed
      g = handed_as o b l out

      same : (m : Link) → (taken_from out m).conn ≡ m.conn
      same m = cond_both (is_from_queue out) (record m { queue = drop 1 m.queue }) m (λ (x : Link). x.conn ≡ m.conn) (λ is. refl) (λ is. refl)

      at : l.conn ≡ conn
      at = found-conn conn b.links l n.found

      waits : (m : Link) → find_link l.conn b.links ≡ Some m → is_from_queue out ≡ true → (rest : List Outgoing) × (m.queue ≡ out ∷ rest)
      waits m found from =
          let alike : l ≡ m = some_link l m (sym (ap (λ c. find_link c b.links) at ∙ n.found) ∙ found) in
          ⊎_elim (λ (q : FromQueue o b l out). (q.rest, ap (λ (x : Link). x.queue) (sym alike) ∙ q.queue_is))
          (⊎_elim (λ (k : IsPing o b l out). absurd (false≢true (sym (ap is_from_queue k.is) ∙ from))) (λ (k : IsNotice o b l out). absurd (false≢true (sym (ap is_from_queue k.is) ∙ from))))
          (chosen_from o b l out n.chosen_is).source

      takes : (m : Link) → find_link l.conn b.links ≡ Some m → Here o p s m → (taken_from out m).conn ≡ s.conn → (is_it o p s out || is_here o p s (taken_from out m)) ≡ true
      takes m found e =
          elim (is_from_queue out) as (λ v. is_from_queue out ≡ v → (cond v (record m { queue = drop 1 m.queue }) m).conn ≡ s.conn → (is_it o p s out || is_here o p s (cond v (record m { queue = drop 1 m.queue }) m)) ≡ true) [
            | true ↦ λ from is.
                let q = waits m found from in
                let a : Bool = list_any (λ (x : Handed). is_it o p s x.out) m.handed in
                ap (λ xs. is_it o p s out || ((a || list_any (is_it o p s) (drop 1 xs)) || not (takes_more m))) q.1
                ∙ taken_out a (is_it o p s out) (list_any (is_it o p s) q.0) (not (takes_more m)) (ap (λ xs. (a || list_any (is_it o p s) xs) || not (takes_more m)) (sym q.1) ∙ e is)
            | false ↦ λ from is. or_second (is_it o p s out) (is_here o p s m) (e is)
          ] refl

  nexts : (b : Box) (conn : ℕ) → EachFound (Here o p s) b.links → EachFound (Here o p s) (after_call o b (Nexts conn)).links
  nexts b conn h =
      ⊎_elim
      (λ (k : Hand o b conn). subst (λ (x : Box). EachFound (Here o p s) x.links) (sym (k.after_is ∙ ap (after_given o b k.handing.link) k.handing.is)) (gives b conn k.handed k.handing h))
      (λ (k : Idle o b conn). subst (λ (x : Box). EachFound (Here o p s) x.links) (sym k.after_is) h)
      (next o b conn)

  puts : (b : Box) (own : OwnPdu) → EachFound (Here o p s) b.links → EachFound (Here o p s) (after_call o b (Puts own)).links
  puts b own h =
      elim (put_refusal o b own) as (λ x. let b' : Box = elim x [ Some refusal ↦ b | None ↦ elim (own_conn b own) [ Some conn ↦ enter conn (own_outgoing own) b | None ↦ b ] ] in EachFound (Here o p s) b'.links) [
        | Some refusal ↦ h
        | None ↦ elim (own_conn b own) as (λ x. let b' : Box = elim x [ Some conn ↦ enter conn (own_outgoing own) b | None ↦ b ] in EachFound (Here o p s) b'.links) [
          | Some conn ↦ here_enter o p s conn (record (own_outgoing own) { time = b.time }) b.links h
          | None ↦ h
        ]
      ]

  shut : (v w : Bool) → not ((v && false) && w) ≡ true
  shut true w = refl
  shut false w = refl

  -- its connection has joined
  abbrev pub HaveJoined : List Link → Type 0
  HaveJoined links = EachFound (λ (l : Link). l.conn ≡ s.conn → l.joined ≡ true) links

  -- so it doesn't join again
  still_here : (stat_sn : ℕ) (l : Link) → l.joined ≡ true → is_here o p s l ≡ true → is_here o p s (link_joined stat_sn l) ≡ true
  still_here stat_sn l joined k =
      ap (λ v. (list_any (λ (g : Handed). is_it o p s g.out) l.handed || list_any (is_it o p s) l.queue) || not ((v && not l.lost) && not l.cut)) (sym joined) ∙ k

  -- what isn't of a session keeps it
  other_call : (b : Box) (c : Call) → items_of_call c ≡ [] → HaveJoined b.links → EachFound (Here o p s) b.links → ((effects : List Effect) (numbers : _) → c ≡ Takes effects numbers → ⊥) → EachFound (Here o p s) (after_call o b c).links
  other_call b (Takes effects numbers) none joined h no_event = absurd (no_event effects numbers refl)
  other_call b (Puts own) none joined h no_event = puts b own h
  other_call b (Stops ticket) none joined h no_event =
      cond_both (is_running b ticket) (settle o (in_phase phase_stopped (ticket ∷ []) b)) b (λ (x : Box). EachFound (Here o p s) x.links) (λ is. settled (in_phase phase_stopped (ticket ∷ []) b) h) (λ is. h)
  other_call b (Nexts conn) none joined h no_event = nexts b conn h
  other_call b (Writes conn) none joined h no_event =
      settled (record b { links = at_link conn one_written b.links })
      (here_at o p s conn one_written b.links (λ l. cond_both (nat_lt l.written (length l.handed)) (record l { written = l.written + 1 }) l (λ (m : Link). m.conn ≡ l.conn) (λ is. refl) (λ is. refl))
      (λ l k. cond_both (nat_lt l.written (length l.handed)) (record l { written = l.written + 1 }) l (λ (m : Link). is_here o p s m ≡ true) (λ is. k) (λ is. k)) h)
  other_call b (Hears conn exp_stat_sn tag) none joined h no_event =
      settled (record b { links = at_link conn (link_heard exp_stat_sn tag) b.links })
      (here_at o p s conn (link_heard exp_stat_sn tag) b.links
      (λ l. cond_both (is_open l) (record l { arrived = max l.arrived (max (arrived_by_stat_sn l exp_stat_sn) (arrived_by_ping l tag)) }) l (λ (m : Link). m.conn ≡ l.conn) (λ is. refl) (λ is. refl))
      (λ l k. cond_both (is_open l) (record l { arrived = max l.arrived (max (arrived_by_stat_sn l exp_stat_sn) (arrived_by_ping l tag)) }) l (λ (m : Link). is_here o p s m ≡ true) (λ is. k) (λ is. k)) h)
  other_call b (Joins conn stat_sn) none joined h no_event =
      cond_both (may_join b conn) (record b { links = at_link conn (link_joined stat_sn) b.links }) b (λ (x : Box). EachFound (Here o p s) x.links) (λ is. found-at_link (Here o p s) (Here o p s) conn (link_joined stat_sn) (λ l. refl) b.links (λ l found k is. still_here stat_sn l (joined conn l found is) (k is)) (λ l isnt k. k) h) (λ is. h)
  other_call b (Loses conn) none joined h no_event =
      settled (drop_on conn (record b { links = at_link conn link_lost b.links; reached = 0 })) (here_drop o p s conn link_lost b.links (λ l. refl) (λ l. shut l.joined (not l.cut)) h)
  other_call b (Clears unit) none joined h no_event = settled (record b { undue = cleared unit b.undue }) h

  -- ---- call by call

  here_call : (ds : List Deed) (b : Box) (c : Call) → HaveJoined b.links → PlaceStands ds b → (rest : List (List Effect)) → items_in (ds ++ (c, answered o b c) ∷ []) ++ rest ≡ all → p < length (firsts (items_in (ds ++ (c, answered o b c) ∷ [])))
      → EachFound (Here o p s) (after_call o b c).links
  here_call ds b c joined h rest whole low = by_call c refl
    where
      parts : items_in ds ++ (items_of_call c ++ rest) ≡ all
      parts = sym (append_assoc (items_in ds) (items_of_call c) rest) ∙ ap (λ its. its ++ rest) (sym (items_in-more ds (c, answered o b c))) ∙ whole

      low' : p < length (firsts (items_in ds ++ items_of_call c))
      low' = subst (λ its. p < length (firsts its)) (items_in-more ds (c, answered o b c)) low

      plain : items_of_call c ≡ [] → EachFound (Here o p s) b.links
      plain none =
          h.here rest (ap (λ its. items_in ds ++ (its ++ rest)) (sym none) ∙ parts) (subst (λ its. p < length (firsts its)) (append-nil (items_in ds)) (subst (λ its. p < length (firsts (items_in ds ++ its))) none low'))

      event : (effects : List Effect) (numbers : _) → c ≡ Takes effects numbers → EachFound (Here o p s) (after_call o b (Takes effects numbers)).links
      event effects numbers is =
          let ps : List (List Effect) = in_parts effects in
          let same : items_of_call c ≡ ps = ap items_of_call is in
          let whole' : items_in ds ++ (ps ++ rest) ≡ all = ap (λ its. items_in ds ++ (its ++ rest)) (sym same) ∙ parts in
          let k : HereStand o p s at_once (items_in ds ++ ps) _ = here_items o p s at_once (items_in ds) ps b (all_spare (items_in ds) ps rest whole') (record { sent = (h.times (ps ++ rest) whole').counted; here = h.here (ps ++ rest) whole' }) in
          k.here (subst (λ its. p < length (firsts (items_in ds ++ its))) same low')

      by_call : (x : Call) → c ≡ x → EachFound (Here o p s) (after_call o b x).links
      by_call (Takes effects numbers) is = event effects numbers is
      by_call (Puts own) is = other_call b (Puts own) refl joined (plain (ap items_of_call is)) (λ effects numbers no_event. absurd cc)
      by_call (Stops ticket) is = other_call b (Stops ticket) refl joined (plain (ap items_of_call is)) (λ effects numbers no_event. absurd cc)
      by_call (Nexts conn) is = other_call b (Nexts conn) refl joined (plain (ap items_of_call is)) (λ effects numbers no_event. absurd cc)
      by_call (Writes conn) is = other_call b (Writes conn) refl joined (plain (ap items_of_call is)) (λ effects numbers no_event. absurd cc)
      by_call (Hears conn exp_stat_sn tag) is = other_call b (Hears conn exp_stat_sn tag) refl joined (plain (ap items_of_call is)) (λ effects numbers no_event. absurd cc)
      by_call (Joins conn stat_sn) is = other_call b (Joins conn stat_sn) refl joined (plain (ap items_of_call is)) (λ effects numbers no_event. absurd cc)
      by_call (Loses conn) is = other_call b (Loses conn) refl joined (plain (ap items_of_call is)) (λ effects numbers no_event. absurd cc)
      by_call (Clears unit) is = other_call b (Clears unit) refl joined (plain (ap items_of_call is)) (λ effects numbers no_event. absurd cc)

  pub times_kept : (ds : List Deed) (b : Box) (c : Call) → Times o all p s placed at_once (items_in ds) b → Times o all p s placed at_once (items_in (ds ++ (c, answered o b c) ∷ [])) (after_call o b c)
  times_kept ds b c h = box_keeps o (λ (es : List Deed) (x : Box). Unit {0}) (Times o all p s placed at_once) (timely_boxes o all p s placed at_once (λ (es : List Deed) (x : Box). Unit {0})) ds b c tt h

  pub place_kept : (ds : List Deed) (b : Box) (c : Call) → HaveJoined b.links → PlaceStands ds b → PlaceStands (ds ++ (c, answered o b c) ∷ []) (after_call o b c)
  place_kept ds b c joined h = record { times = times_kept ds b c h.times; here = here_call ds b c joined h }

  -- before it is sent
  pub place_begins : (ds : List Deed) (b : Box) → Times o all p s placed at_once (items_in ds) b → length (firsts (items_in ds)) ≤ p → PlaceStands ds b
  place_begins ds b times few = record { times = times; here = λ rest whole low. absurd (omega (arith, low, few)) }
