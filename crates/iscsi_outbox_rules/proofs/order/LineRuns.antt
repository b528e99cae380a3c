-- On a connection the replies that didn't have to wait stand in the log's order.
use Rattle.std.proofs.Common.{◌≡◌, ℕ, ◌⊎◌, inl, inr, ⊎_elim, ◌==◌, ◌+◌, ◌<◌, ◌&&◌, not, cond, Bool, true, false, List, [], ◌∷◌, ◌++◌, map, drop, length, filter, filter_map, Option, Some, None, refl, ap, sym, subst, ◌∙◌, arith}
use Rattle.std.specs.List.{list_any}
use Rattle.std.proofs.lemmas.Bool.{cond_both, eqb-false}
use Rattle.std.proofs.lemmas.List.{append_assoc, map-append}
use Rattle.iscsi_wire.specs.declared.reply.Reply.{Reply}
use Rattle.iscsi_wire.specs.declared.request.Request.{Request}
use Rattle.iscsi_rules.specs.declared.effect.Effect.{Effect}
use Rattle.iscsi_rules.specs.rules.Trace.{first_of}
use Rattle.iscsi_outbox_rules.specs.rules.Calls.{Opening}
use Rattle.iscsi_outbox_rules.specs.rules.Boxes.{Outgoing, Handed, Aim, Answer, Link, Box}
use Rattle.iscsi_outbox_rules.specs.rules.Queues.{at_link, takes_more, append, enter, without, emptied}
use Rattle.iscsi_outbox_rules.specs.rules.Items.{executing, tickets_left, reply_sent, outgoing, answer, send_as, aim, send}
use Rattle.iscsi_outbox_rules.specs.rules.Own.{own_outgoing}
use Rattle.iscsi_outbox_rules.specs.rules.Handing.{is_from_queue, taken_from, handed_as, after_given}
use Rattle.iscsi_outbox_rules.specs.rules.Run.{new_link, opened, waits_for_clear, cleared}
use Rattle.iscsi_outbox_rules.specs.promises.Deeds.{Deed, items_in}
use Rattle.iscsi_outbox_rules.specs.promises.Scope.{Sent, nth, aim_of_sent}
use Rattle.iscsi_outbox_rules.proofs.general.EachLemmas.{EachOf, each-append, each-first, each-second, each-weaken, each-filter, each-first_of}
use Rattle.iscsi_outbox_rules.proofs.general.SortedLemmas.{SortedBy, sorted-push, sorted-insert, sorted-filter, sorted-fewer, each-fewer}
use Rattle.iscsi_outbox_rules.proofs.general.FirstLemmas.{firsts, firsts-none, firsts-some, firsts-append, nth-first, nth-push, length-push}
use Rattle.iscsi_outbox_rules.proofs.general.FoundLemmas.{find_link, EachFound, found-conn, found-map, found-at_link, found-weaken}
use Rattle.iscsi_outbox_rules.proofs.general.Walks.{Walk}
use Rattle.iscsi_outbox_rules.proofs.general.Chosen.{FromQueue, Chosen}
use Rattle.iscsi_outbox_rules.proofs.general.Cuts.{Handing}
use Rattle.iscsi_outbox_rules.proofs.order.PlaceRuns.{IsSent, IsOwn, Entry, Placed, PlacesStand, own_ping}
use Rattle.iscsi_outbox_rules.proofs.order.CountRuns.{from_queue, some_link}
use Rattle.iscsi_outbox_rules.proofs.general.Boxwise.{Boxwise}

module _ (o : Opening) (all : List (List Effect)) where
  -- the reply in this place didn't have to wait
  abbrev pub went_at_once : Option Sent → Bool
  went_at_once (Some s) = elim (aim_of_sent o s) [ Some about ↦ false | None ↦ true ]
  went_at_once None = false

  -- the place of a reply that didn't have to wait
  abbrev pub place_of : Option ℕ → Option ℕ
  place_of (Some p) = cond (went_at_once (nth p (firsts all))) (Some p) None
  place_of None = None

  abbrev pub Before : Outgoing → Outgoing → Type 0
  Before x y = (p q : ℕ) → place_of x.sent ≡ Some p → place_of y.sent ≡ Some q → p < q

  abbrev pub SentBelow : ℕ → Outgoing → Type 0
  SentBelow n x = (p : ℕ) → x.sent ≡ Some p → p < n

  -- what went out on a connection, and what waits
  abbrev pub line : Link → List Outgoing
  line l = map (λ (h : Handed). h.out) l.handed ++ l.queue

  abbrev pub InOrder : ℕ → Link → Type 0
  InOrder n l = SortedBy Before (line l) × EachOf (SentBelow n) (line l)

  abbrev pub Waits : ℕ → Answer → Type 0
  Waits n a = (place_of a.out.sent ≡ None) × SentBelow n a.out

  pub record LinesStand (items : List (List Effect)) (b : Box) : Type 0 where
    pub counted : b.sent ≡ length (firsts items)
    pub lines : EachFound (InOrder b.sent) b.links
    pub undue : EachOf (Waits b.sent) b.undue

  -- while what is taken is the beginning of all
  abbrev pub Lines : List (List Effect) → Box → Type 0
  Lines items b = (rest : List (List Effect)) → items ++ rest ≡ all → LinesStand items b

  pub none_some : (x : Option ℕ) (p : ℕ) → x ≡ None → x ≡ Some p → ⊥
  none_some x p none some = let no : None ≡ Some p = sym none ∙ some in absurd cc

  place_same : (x : Option ℕ) (p q : ℕ) → x ≡ Some p → place_of x ≡ Some q → p ≡ q
  place_same None p q is place = absurd cc
  place_same (Some k) p q is place =
      elim (went_at_once (nth k (firsts all))) as (λ v. cond v (Some k) None ≡ Some q → p ≡ q) [
        | true ↦ λ here. cc
        | false ↦ λ no_place. absurd cc
      ] place

  pub place_some : (x : Option ℕ) (q : ℕ) → place_of x ≡ Some q → x ≡ Some q
  place_some None q place = absurd cc
  place_some (Some k) q place =
      elim (went_at_once (nth k (firsts all))) as (λ v. cond v (Some k) None ≡ Some q → Some k ≡ Some q) [
        | true ↦ λ here. here
        | false ↦ λ no_place. absurd cc
      ] place

  pub below-more : (n : ℕ) (x : Outgoing) → SentBelow n x → SentBelow (n + 1) x
  below-more n x h p is = omega (arith, h p is)

  in_order-more : (n : ℕ) (l : Link) → InOrder n l → InOrder (n + 1) l
  in_order-more n l h = (h.0, each-weaken (SentBelow n) (SentBelow (n + 1)) (line l) (below-more n) h.1)

  pub waits-more : (n : ℕ) (answers : List Answer) → EachOf (Waits n) answers → EachOf (Waits (n + 1)) answers
  waits-more n answers h = each-weaken (Waits n) (Waits (n + 1)) answers (λ a k. (k.0, below-more n a.out k.1)) h

  -- it enters at the end
  appended : (n n' : ℕ) (l : Link) (out : Outgoing) → InOrder n' l → EachOf (λ x. Before x out) (line l) → SentBelow n' out → InOrder n' (append out l)
  appended n n' l out h before below =
      let whole : line l ++ out ∷ [] ≡ map (λ (g : Handed). g.out) l.handed ++ (l.queue ++ out ∷ []) = append_assoc (map (λ (g : Handed). g.out) l.handed) l.queue (out ∷ []) in
      cond_both (takes_more l) (record l { queue = l.queue ++ out ∷ [] }) l (InOrder n')
      (λ is. (subst (SortedBy Before) whole (sorted-push Before (line l) out h.0 before), subst (EachOf (SentBelow n')) whole (each-append (SentBelow n') (line l) (out ∷ []) h.1 (below, tt))))
      (λ is. h)

  enters : (n n' : ℕ) (conn : ℕ) (out : Outgoing) (links : List Link) → ((l : Link) → InOrder n l → InOrder n' l) → ((l : Link) → InOrder n l → EachOf (λ x. Before x out) (line l)) → SentBelow n' out
      → EachFound (InOrder n) links → EachFound (InOrder n') (at_link conn (append out) links)
  enters n n' conn out links more before below h =
      found-at_link (InOrder n) (InOrder n') conn (append out)
      (λ l. cond_both (takes_more l) (record l { queue = l.queue ++ out ∷ [] }) l (λ (m : Link). m.conn ≡ l.conn) (λ is. refl) (λ is. refl)) links
      (λ l found k. appended n n' l out (more l k) (before l k) below) (λ l isnt k. more l k) h

  -- one that has no place in the order
  before-none : (out : Outgoing) → place_of out.sent ≡ None → (xs : List Outgoing) → EachOf (λ x. Before x out) xs
  before-none out none [] = tt
  before-none out none (x ∷ xs) = ((λ p q here there. absurd (none_some (place_of out.sent) q none there)), before-none out none xs)

  none-before : (out : Outgoing) → place_of out.sent ≡ None → (xs : List Outgoing) → EachOf (Before out) xs
  none-before out none [] = tt
  none-before out none (x ∷ xs) = ((λ p q here there. absurd (none_some (place_of out.sent) p none here)), none-before out none xs)

  -- one that is sent now is behind all
  before-new : (n : ℕ) (out : Outgoing) → out.sent ≡ Some n → (xs : List Outgoing) → EachOf (SentBelow n) xs → EachOf (λ x. Before x out) xs
  before-new n out is [] h = tt
  before-new n out is (x ∷ xs) h =
      ((λ p q here there. subst (λ k. p < k) (place_same out.sent n q is there) (h.0 p (place_some x.sent p here))), before-new n out is xs h.1)

  fewer : (n : ℕ) (l : Link) (queue : List Outgoing) → ((P : Outgoing → Type 0) → EachOf P l.queue → EachOf P queue) → (SortedBy Before l.queue → SortedBy Before queue) → InOrder n l → InOrder n (record l { queue = queue })
  fewer n l queue each sorted h =
      let hs : List Outgoing = map (λ (g : Handed). g.out) l.handed in
      (sorted-fewer Before hs l.queue queue (λ x. each (Before x)) sorted h.0, each-fewer (SentBelow n) hs l.queue queue (each (SentBelow n)) h.1)

  -- ---- what an item sends

  pub sent_now : (items rest : List (List Effect)) (item : List Effect) (conn n : ℕ) (reply : Reply) → items ++ item ∷ rest ≡ all → first_of (filter_map reply_sent item) ≡ Some (conn, reply) → n ≡ length (firsts items)
      → nth n (firsts all) ≡ Some (record { before = items; item = item; conn = conn; reply = reply })
  sent_now items rest item conn n reply whole found counted =
      let s : Sent = record { before = items; item = item; conn = conn; reply = reply } in
      let more = firsts-append (items ++ item ∷ []) rest in
      ap (λ k. nth k (firsts all)) counted ∙ ap (λ its. nth (length (firsts items)) (firsts its)) (sym whole ∙ sym (append_assoc items (item ∷ []) rest)) ∙ ap (nth (length (firsts items))) more.1
      ∙ nth-first (length (firsts items)) (firsts (items ++ item ∷ [])) more.0 s (ap (nth (length (firsts items))) (firsts-some items item conn reply found) ∙ nth-push (firsts items) s)

  sends_one : (items rest : List (List Effect)) (b : Box) (item : List Effect) (conns closes : List ℕ) (x : Option (ℕ × Reply)) → first_of (filter_map reply_sent item) ≡ x → items ++ item ∷ rest ≡ all
      → LinesStand items b → LinesStand (items ++ item ∷ []) (send o (executing item) (tickets_left item) conns closes x b)
  sends_one items rest b item conns closes None none whole h = record { counted = h.counted ∙ ap length (sym (firsts-none items item none)); lines = h.lines; undue = h.undue }
  sends_one items rest b item conns closes (Some s) found whole h = by_request (executing item) refl
    where
      its : List (List Effect)
      its = items ++ item ∷ []

      n : ℕ
      n = b.sent

      counted : n + 1 ≡ length (firsts its)
      counted = ap (λ k. k + 1) h.counted ∙ sym (length-push (firsts items) _) ∙ ap length (sym (firsts-some items item s.0 s.1 found))

      below : SentBelow (n + 1) (record { time = 0; pdu = (outgoing b None [] s.1).pdu; sent = Some n; ticket = None; takes = true; fenced = false; numbered = false; scope = []; closes = [] })
      below p is = let same : n ≡ p = cc in omega (arith, same)

      entered : (r : Option Request) → LinesStand its (let b' = enter s.0 (outgoing b r (tickets_left item) s.1) b in record b' { sent = b'.sent + 1 })
      entered r =
          let out : Outgoing = record (outgoing b r (tickets_left item) s.1) { time = b.time } in
          record {
            counted = counted;
            lines = enters n (n + 1) s.0 out b.links (in_order-more n) (λ l k. before-new n out refl (line l) k.1) below h.lines;
            undue = waits-more n b.undue h.undue;
          }

      by_aim : (r : Request) → executing item ≡ Some r → (x : Option Aim) → aim o (Some r) s.1 ≡ x → LinesStand its (let b' = send_as o (Some r) x conns closes s.0 (outgoing b (Some r) (tickets_left item) s.1) b in record b' { sent = b'.sent + 1 })
      by_aim r is None none = entered (Some r)
      by_aim r is (Some about) some =
          let a : Answer = answer o b r conns closes s.0 (outgoing b (Some r) (tickets_left item) s.1) about in
          let placed : nth n (firsts all) ≡ Some (record { before = items; item = item; conn = s.0; reply = s.1 }) = sent_now items rest item s.0 n s.1 whole found h.counted in
          let late : went_at_once (nth n (firsts all)) ≡ false =
          ap went_at_once placed ∙ ap (λ x. elim x [ Some about ↦ false | None ↦ true ]) (ap (λ x. aim o x s.1) is ∙ some) in
          let none : place_of a.out.sent ≡ None = ap (λ v. cond v (Some n) None) late in
          cond_both (list_any (λ (l : Link). (l.conn == a.conn) && takes_more l) b.links) (record b { undue = b.undue ++ a ∷ [] }) b (λ (b' : Box). LinesStand its (record b' { sent = b'.sent + 1 }))
          (λ may. record { counted = counted; lines = found-weaken (InOrder n) (InOrder (n + 1)) b.links (in_order-more n) h.lines; undue = each-append (Waits (n + 1)) b.undue (a ∷ []) (waits-more n b.undue h.undue) ((none, below), tt) })
          (λ may. record { counted = counted; lines = found-weaken (InOrder n) (InOrder (n + 1)) b.links (in_order-more n) h.lines; undue = waits-more n b.undue h.undue })

      by_request : (r : Option Request) → executing item ≡ r → LinesStand its (send o r (tickets_left item) conns closes (Some s) b)
      by_request (Some r) is = by_aim r is (aim o (Some r) s.1) refl
      by_request None is = entered None

  pub line_walk : Walk o Lines
  line_walk = record {
    tasks = λ items b ts h rest whole. let k = h rest whole in record { counted = k.counted; lines = k.lines; undue = k.undue };
    drops = λ items b these h rest whole. let k = h rest whole in record {
      counted = k.counted;
      lines = found-map (InOrder b.sent) (InOrder b.sent) (without these) (λ l. refl) b.links
          (λ c l found j. fewer b.sent l (without these l).queue (λ P e. each-filter P _ l.queue e) (λ e. sorted-filter Before _ l.queue e) j) k.lines;
      undue = k.undue;
    };
    closes = λ items b conn h rest whole. let k = h rest whole in record {
      counted = k.counted;
      lines = found-at_link (InOrder b.sent) (InOrder b.sent) conn (λ l. record l { closed = true }) (λ l. refl) b.links (λ l found j. j) (λ l isnt j. j) k.lines;
      undue = k.undue;
    };
    cuts = λ items b conn h rest whole. let k = h rest whole in record {
      counted = k.counted;
      lines = found-at_link (InOrder b.sent) (InOrder b.sent) conn (λ l. record l { closed = true; cut = true }) (λ l. refl) b.links (λ l found j. j) (λ l isnt j. j) k.lines;
      undue = k.undue;
    };
    drops_on = λ items b conn over h rest whole. let k = h rest whole in record {
      counted = k.counted;
      lines = found-at_link (InOrder b.sent) (InOrder b.sent) conn emptied (λ l. refl) b.links (λ l found j. fewer b.sent l [] (λ P e. tt) (λ e. tt) j) (λ l isnt j. j) k.lines;
      undue = each-filter (Waits b.sent) (λ (a : Answer). not (a.conn == conn)) b.undue k.undue;
    };
    moves = λ items b before rest a due h more whole.
        let k = h more whole in
        let later = each-second (Waits b.sent) before (a ∷ rest) k.undue in
        record {
          counted = k.counted;
          lines = enters b.sent b.sent a.conn (record (a.out) { time = b.time }) b.links (λ l j. j) (λ l j. before-none (record (a.out) { time = b.time }) later.0.0 (line l)) later.0.1 k.lines;
          undue = each-append (Waits b.sent) before rest (each-first (Waits b.sent) before (a ∷ rest) k.undue) later.1;
        };
    sends = λ items b item conns closes h rest whole.
        let whole' : items ++ item ∷ rest ≡ all = sym (append_assoc items (item ∷ []) rest) ∙ whole in
        sends_one items rest b item conns closes (first_of (filter_map reply_sent item)) refl whole' (h (item ∷ rest) whole');
  }

  -- ---- handing out

  -- what is in the one queue is in the other, in the same order
  record Kept (n : ℕ) (queue queue' : List Outgoing) : Type 0 where
    before : (x : Outgoing) → EachOf (Before x) queue → EachOf (Before x) queue'
    below : EachOf (SentBelow n) queue → EachOf (SentBelow n) queue'
    sorted : SortedBy Before queue → SortedBy Before queue'

  chosen_first : (b : Box) (l : Link) (out : Outgoing) (items : List (List Effect)) (n : ℕ) → Chosen o b l out → EachOf (Entry items l.conn) l.queue
      → ((rest : List Outgoing) × (l.queue ≡ out ∷ rest) × ((taken_from out l).queue ≡ rest)) ⊎ ((out.sent ≡ None) × Kept n l.queue (taken_from out l).queue)
  chosen_first b l out items n from waits =
      ⊎_elim
      (λ (q : FromQueue o b l out).
      ⊎_elim
      (λ (s : IsSent items l.conn out). inl (q.rest, q.queue_is, ap (λ v. (cond v (record l { queue = drop 1 l.queue }) l).queue) (from_queue items l.conn out s) ∙ ap (drop 1) q.queue_is))
      (λ (own : IsOwn out). inr (own.none, rest_of)) (subst (EachOf (Entry items l.conn)) q.queue_is waits).0)
      (λ other. inr ((own_ping o b l out other).none, rest_of))
      from.source
    where
      each-rest : (P : Outgoing → Type 0) (xs : List Outgoing) → EachOf P xs → EachOf P (drop 1 xs)
      each-rest P [] e = tt
      each-rest P (x ∷ xs) e = e.1

      sorted-rest : (xs : List Outgoing) → SortedBy Before xs → SortedBy Before (drop 1 xs)
      sorted-rest [] e = tt
      sorted-rest (x ∷ xs) e = e.1

      rest_of : Kept n l.queue (taken_from out l).queue
      rest_of =
          cond_both (is_from_queue out) (record l { queue = drop 1 l.queue }) l (λ (m : Link). Kept n l.queue m.queue)
          (λ is. record { before = λ x e. each-rest (Before x) l.queue e; below = λ e. each-rest (SentBelow n) l.queue e; sorted = λ e. sorted-rest l.queue e })
          (λ is. record { before = λ x e. e; below = λ e. e; sorted = λ e. e })

  -- the line of a connection as it hands this out
  pub handed_line : (b : Box) (l : Link) (out : Outgoing) (g : Handed) (items : List (List Effect)) (n : ℕ) → g.out ≡ out → Chosen o b l out → EachOf (Entry items l.conn) l.queue → InOrder n l
      → SortedBy Before (map (λ (x : Handed). x.out) (l.handed ++ g ∷ []) ++ (taken_from out l).queue) × EachOf (SentBelow n) (map (λ (x : Handed). x.out) (l.handed ++ g ∷ []) ++ (taken_from out l).queue)
  handed_line b l out g items n is from waits h =
      let hs : List Outgoing = map (λ (x : Handed). x.out) l.handed in
      let pushed : map (λ (x : Handed). x.out) (l.handed ++ g ∷ []) ≡ hs ++ out ∷ [] = map-append (λ (x : Handed). x.out) l.handed (g ∷ []) ∙ ap (λ x. hs ++ x ∷ []) is in
      ⊎_elim
      (λ q.
      let same : line l ≡ map (λ (x : Handed). x.out) (l.handed ++ g ∷ []) ++ (taken_from out l).queue =
      ap (λ ys. hs ++ ys) q.1 ∙ sym (append_assoc hs (out ∷ []) q.0) ∙ ap (λ ys. (hs ++ out ∷ []) ++ ys) (sym q.2) ∙ ap (λ xs. xs ++ (taken_from out l).queue) (sym pushed) in
      (subst (SortedBy Before) same h.0, subst (EachOf (SentBelow n)) same h.1))
      (λ own.
      let queue : List Outgoing = (taken_from out l).queue in
      let none : place_of out.sent ≡ None = ap place_of own.0 in
      let sorted : SortedBy Before (hs ++ queue) = sorted-fewer Before hs l.queue queue own.1.before own.1.sorted h.0 in
      let below : EachOf (SentBelow n) (hs ++ queue) = each-fewer (SentBelow n) hs l.queue queue own.1.below h.1 in
      let here : SentBelow n out = λ p some. let no : None ≡ Some p = sym own.0 ∙ some in absurd cc in (
        subst (λ xs. SortedBy Before (xs ++ queue)) (sym pushed) (sorted-insert Before hs queue out sorted (before-none out none hs) (none-before out none queue)),
        subst (λ xs. EachOf (SentBelow n) (xs ++ queue)) (sym pushed) (each-append (SentBelow n) (hs ++ out ∷ []) queue (each-append (SentBelow n) hs (out ∷ []) (each-first (SentBelow n) hs queue below) (here, tt)) (each-second (SentBelow n) hs queue below)),
      ))
      (chosen_first b l out items n from waits)

  line_hands : (ds : List Deed) (b : Box) (conn : ℕ) (h : Handed) (n : Handing o b conn h) → Chosen o b n.link n.out → PlacesStand ds b → Lines (items_in ds) b → Lines (items_in ds) (after_given o b n.link (handed_as o b n.link n.out))
  line_hands ds b conn h n from places stands rest whole = record { counted = k.counted; lines = lines; undue = k.undue }
    where
      k : LinesStand (items_in ds) b
      k = stands rest whole

      l : Link
      l = n.link

      out : Outgoing
      out = n.out

      g : Handed
      g = handed_as o b l out

      at : l.conn ≡ conn
      at = found-conn conn b.links l n.found

      placed : Placed ds (items_in ds) l
      placed = each-first_of (Placed ds (items_in ds)) (λ (m : Link). m.conn == conn) b.links l n.found places.links

      Between : Link → Type 0
      Between m =
          (m.conn ≡ l.conn → SortedBy Before (map (λ (x : Handed). x.out) (m.handed ++ g ∷ []) ++ m.queue) × EachOf (SentBelow b.sent) (map (λ (x : Handed). x.out) (m.handed ++ g ∷ []) ++ m.queue))
          × ((m.conn == l.conn) ≡ false → InOrder b.sent m)

      same_conn : (m : Link) → (taken_from out m).conn ≡ m.conn
      same_conn m = cond_both (is_from_queue out) (record m { queue = drop 1 m.queue }) m (λ (x : Link). x.conn ≡ m.conn) (λ is. refl) (λ is. refl)

      same_handed : (taken_from out l).handed ≡ l.handed
      same_handed = cond_both (is_from_queue out) (record l { queue = drop 1 l.queue }) l (λ (x : Link). x.handed ≡ l.handed) (λ is. refl) (λ is. refl)

      taken : InOrder b.sent l → Between (taken_from out l)
      taken j =
          let now = handed_line b l out g (items_in ds) b.sent refl from placed.waits j in (
            (λ same. (
              subst (λ hs. SortedBy Before (map (λ (x : Handed). x.out) (hs ++ g ∷ []) ++ (taken_from out l).queue)) (sym same_handed) now.0,
              subst (λ hs. EachOf (SentBelow b.sent) (map (λ (x : Handed). x.out) (hs ++ g ∷ []) ++ (taken_from out l).queue)) (sym same_handed) now.1,
            )),
            (λ apart. absurd (eqb-false (taken_from out l).conn l.conn apart (same_conn l))),
          )

      lines : EachFound (InOrder b.sent) (after_given o b l g).links
      lines =
          found-at_link Between (InOrder b.sent) l.conn (λ m. record m { handed = m.handed ++ g ∷ [] }) (λ m. refl) (at_link l.conn (taken_from out) b.links)
          (λ m found j. j.0 (found-conn l.conn (at_link l.conn (taken_from out) b.links) m found)) (λ m isnt j. j.1 isnt)
          (found-at_link (InOrder b.sent) Between l.conn (taken_from out) same_conn b.links
          (λ m found j. let same : l ≡ m = some_link l m (sym (ap (λ c. find_link c b.links) at ∙ n.found) ∙ found) in subst (λ (x : Link). Between (taken_from out x)) same (taken (k.lines conn l n.found)))
          (λ m isnt j. ((λ same. absurd (eqb-false m.conn l.conn isnt same)), (λ apart. j))) k.lines)

  pub clears_waits : (n unit : ℕ) (answers : List Answer) → EachOf (Waits n) answers → EachOf (Waits n) (cleared unit answers)
  clears_waits n unit [] h = tt
  clears_waits n unit (a ∷ answers) h =
      cond_both (waits_for_clear unit a) (record a { uncleared = false } ∷ answers) (a ∷ cleared unit answers) (EachOf (Waits n)) (λ is. (h.0, h.1)) (λ is. (h.0, clears_waits n unit answers h.1))

  pub line_boxes : Boxwise o PlacesStand Lines
  line_boxes = record {
    walk = line_walk;
    numbers = λ items b exp max h rest whole. let k = h rest whole in record { counted = k.counted; lines = k.lines; undue = k.undue };
    puts = λ items b conn p h rest whole. let k = h rest whole in record {
      counted = k.counted;
      lines = enters b.sent b.sent conn (record (own_outgoing p) { time = b.time }) b.links (λ l j. j) (λ l j. before-none (record (own_outgoing p) { time = b.time }) refl (line l)) (λ q is. absurd cc) k.lines;
      undue = k.undue;
    };
    marks = λ items b conn change alike h rest whole. let k = h rest whole in record {
      counted = k.counted;
      lines = found-at_link (InOrder b.sent) (InOrder b.sent) conn change (λ l. (alike l).conn) b.links
          (λ l found j.
          let same : line (change l) ≡ line l = ap (λ hs. map (λ (g : Handed). g.out) hs ++ (change l).queue) (alike l).handed ∙ ap (λ q. map (λ (g : Handed). g.out) l.handed ++ q) (alike l).queue in
          (subst (SortedBy Before) (sym same) j.0, subst (EachOf (SentBelow b.sent)) (sym same) j.1)) (λ l isnt j. j) k.lines;
      undue = k.undue;
    };
    reaches = λ items b n h rest whole. let k = h rest whole in record { counted = k.counted; lines = k.lines; undue = k.undue };
    clears = λ items b unit h rest whole. let k = h rest whole in record { counted = k.counted; lines = k.lines; undue = clears_waits b.sent unit b.undue k.undue };
    hands = line_hands;
  }

  pub line_starts : Lines [] (opened o)
  line_starts rest whole = record { counted = refl; lines = λ conn l found. starts conn l o.session.conns found; undue = tt }
    where
      starts : (conn : ℕ) (l : Link) (cs : List (ℕ × ℕ)) → find_link conn (map (λ (c : ℕ × ℕ). new_link c.0) cs) ≡ Some l → InOrder 0 l
      starts conn l [] is = absurd cc
      starts conn l (c ∷ cs) is =
          elim (c.0 == conn) as (λ v. first_of (cond v (new_link c.0 ∷ filter (λ (m : Link). m.conn == conn) (map (λ (d : ℕ × ℕ). new_link d.0) cs)) (filter (λ (m : Link). m.conn == conn) (map (λ (d : ℕ × ℕ). new_link d.0) cs))) ≡ Some l → InOrder 0 l) [
            | true ↦ λ here. subst (InOrder 0) (some_link (new_link c.0) l here) (tt, tt)
            | false ↦ λ later. starts conn l cs later
          ] is
