-- On all connections the replies that didn't have to wait entered their queues in the log's order.
use Rattle.std.proofs.Common.{◌≡◌, ℕ, ⊎_elim, ◌==◌, ◌+◌, ◌<◌, ◌&&◌, not, cond, true, false, List, [], ◌∷◌, ◌++◌, map, drop, length, filter, filter_map, Option, Some, None, refl, ap, sym, subst, ◌∙◌, arith, eq-eqb, ne_eqb}
use Rattle.std.specs.List.{list_any}
use Rattle.std.proofs.lemmas.Bool.{cond_both, false≢true, cases_eq}
use Rattle.std.proofs.lemmas.List.{append_assoc}
use Rattle.iscsi_wire.specs.declared.reply.Reply.{Reply}
use Rattle.iscsi_wire.specs.declared.request.Request.{Request}
use Rattle.iscsi_rules.specs.declared.effect.Effect.{Effect}
use Rattle.iscsi_rules.specs.rules.Trace.{first_of}
use Rattle.iscsi_outbox_rules.specs.rules.Calls.{Opening}
use Rattle.iscsi_outbox_rules.specs.rules.Boxes.{Outgoing, Handed, Aim, Answer, Link, Box}
use Rattle.iscsi_outbox_rules.specs.rules.Queues.{at_link, takes_more, append, enter, without, emptied}
use Rattle.iscsi_outbox_rules.specs.rules.Items.{executing, tickets_left, reply_sent, outgoing, answer, send_as, aim, send}
use Rattle.iscsi_outbox_rules.specs.rules.Own.{own_outgoing}
use Rattle.iscsi_outbox_rules.specs.rules.Handing.{is_from_queue, taken_from, handed_as}
use Rattle.iscsi_outbox_rules.specs.rules.Run.{new_link, opened, cleared}
use Rattle.iscsi_outbox_rules.specs.promises.Deeds.{Deed}
use Rattle.iscsi_outbox_rules.specs.promises.Scope.{nth}
use Rattle.iscsi_outbox_rules.proofs.general.EachLemmas.{EachOf, each-append, each-first, each-second, each-weaken, each-filter, each-map, each-at_link, each-first_of, each-drop_one}
use Rattle.iscsi_outbox_rules.proofs.general.FirstLemmas.{firsts, firsts-none, firsts-some, length-push}
use Rattle.iscsi_outbox_rules.proofs.general.Walks.{Walk}
use Rattle.iscsi_outbox_rules.proofs.general.Chosen.{FromQueue, Chosen}
use Rattle.iscsi_outbox_rules.proofs.order.PlaceRuns.{own_ping}
use Rattle.iscsi_outbox_rules.proofs.order.LineRuns.{went_at_once, place_of, SentBelow, Waits, below-more, waits-more, none_some, place_some, sent_now, clears_waits}
use Rattle.iscsi_outbox_rules.proofs.general.Boxwise.{Boxwise}

module _ (o : Opening) (all : List (List Effect)) where
  abbrev pub At : ℕ → Type 0
  At p = went_at_once o all (nth p (firsts all)) ≡ true

  -- it was sent already, and entered at this time
  pub record Timed (times : ℕ → ℕ) (n : ℕ) (x : Outgoing) : Type 0 where
    pub below : SentBelow o all n x
    pub time_is : (p : ℕ) → place_of o all x.sent ≡ Some p → x.time ≡ times p

  abbrev pub LinkTimed : (ℕ → ℕ) → ℕ → Link → Type 0
  LinkTimed times n l = EachOf (Timed times n) l.queue × EachOf (λ (h : Handed). Timed times n h.out) l.handed

  pub record TimesStand (items : List (List Effect)) (b : Box) : Type 0 where
    pub counted : b.sent ≡ length (firsts items)
    pub times : ℕ → ℕ
    pub rising : (p q : ℕ) → p < q → q < b.sent → At p → At q → times p < times q
    pub past : (p : ℕ) → p < b.sent → At p → times p < b.time
    pub links : EachOf (LinkTimed times b.sent) b.links
    pub undue : EachOf (Waits o all b.sent) b.undue

  abbrev pub Times : List (List Effect) → Box → Type 0
  Times items b = (rest : List (List Effect)) → items ++ rest ≡ all → TimesStand items b

  -- only its connections are others
  with_links : (items : List (List Effect)) (b : Box) (links : List Link) (undue : List Answer) (k : TimesStand items b) → EachOf (LinkTimed k.times b.sent) links → EachOf (Waits o all b.sent) undue
      → TimesStand items (record b { links = links; undue = undue })
  with_links items b links undue k here there = record { counted = k.counted; times = k.times; rising = k.rising; past = k.past; links = here; undue = there }

  -- ---- entering

  appends : (times : ℕ → ℕ) (n conn : ℕ) (out : Outgoing) (links : List Link) → Timed times n out → EachOf (LinkTimed times n) links → EachOf (LinkTimed times n) (at_link conn (append out) links)
  appends times n conn out links new h =
      each-at_link (LinkTimed times n) (LinkTimed times n) conn (append out) links
      (λ l is k. cond_both (takes_more l) (record l { queue = l.queue ++ out ∷ [] }) l (LinkTimed times n) (λ more. (each-append (Timed times n) l.queue (out ∷ []) k.0 (new, tt), k.1)) (λ more. k))
      (λ l isnt k. k) h

  -- what has no place in the order enters at any time
  enters_late : (items : List (List Effect)) (b : Box) (conn : ℕ) (out : Outgoing) → place_of o all out.sent ≡ None → SentBelow o all b.sent out → TimesStand items b → TimesStand items (enter conn out b)
  enters_late items b conn out none below k = record {
    counted = k.counted;
    times = k.times;
    rising = k.rising;
    past = λ p less went. omega (arith, k.past p less went);
    links = appends k.times b.sent conn (record out { time = b.time }) b.links (record { below = below; time_is = λ p place. absurd (none_some o all (place_of o all out.sent) p none place) }) k.links;
    undue = k.undue;
  }

  -- ---- what an item sends

  -- the times with one more
  abbrev with_time : (ℕ → ℕ) → ℕ → ℕ → ℕ → ℕ
  with_time times n t p = cond (p == n) t (times p)

  time_new : (times : ℕ → ℕ) (n t : ℕ) → with_time times n t n ≡ t
  time_new times n t = ap (λ v. cond v t (times n)) (eq-eqb n n refl)

  time_old : (times : ℕ → ℕ) (n t p : ℕ) → p < n → with_time times n t p ≡ times p
  time_old times n t p less = ap (λ v. cond v t (times p)) (ne_eqb p n (λ same. omega (arith, less, same)))

  timed_more : (times : ℕ → ℕ) (n t : ℕ) (x : Outgoing) → Timed times n x → Timed (with_time times n t) (n + 1) x
  timed_more times n t x k = record {
    below = below-more o all n x k.below;
    time_is = λ p place. k.time_is p place ∙ sym (time_old times n t p (k.below p (place_some o all x.sent p place)));
  }

  links_more : (times : ℕ → ℕ) (n t : ℕ) (links : List Link) → EachOf (LinkTimed times n) links → EachOf (LinkTimed (with_time times n t) (n + 1)) links
  links_more times n t links h =
      each-weaken (LinkTimed times n) (LinkTimed (with_time times n t) (n + 1)) links
      (λ l k. (
        each-weaken (Timed times n) (Timed (with_time times n t) (n + 1)) l.queue (timed_more times n t) k.0,
        each-weaken (λ (g : Handed). Timed times n g.out) (λ (g : Handed). Timed (with_time times n t) (n + 1) g.out) l.handed (λ g. timed_more times n t g.out) k.1,
      )) h

  sends_one : (items rest : List (List Effect)) (b : Box) (item : List Effect) (conns closes : List ℕ) (x : Option (ℕ × Reply)) → first_of (filter_map reply_sent item) ≡ x → items ++ item ∷ rest ≡ all
      → TimesStand items b → TimesStand (items ++ item ∷ []) (send o (executing item) (tickets_left item) conns closes x b)
  sends_one items rest b item conns closes None none whole h =
      record { counted = h.counted ∙ ap length (sym (firsts-none items item none)); times = h.times; rising = h.rising; past = h.past; links = h.links; undue = h.undue }
  sends_one items rest b item conns closes (Some s) found whole h = by_request (executing item) refl
    where
      its : List (List Effect)
      its = items ++ item ∷ []

      n : ℕ
      n = b.sent

      times : ℕ → ℕ
      times = with_time h.times n b.time

      counted : n + 1 ≡ length (firsts its)
      counted = ap (λ k. k + 1) h.counted ∙ sym (length-push (firsts items) _) ∙ ap length (sym (firsts-some items item s.0 s.1 found))

      some_same : (p q : ℕ) → Some p ≡ Some q → p ≡ q
      some_same p q is = cc

      below_now : (x : Outgoing) → x.sent ≡ Some n → SentBelow o all (n + 1) x
      below_now x is p sent = omega (arith, some_same n p (sym is ∙ sent))

      rising : (p q : ℕ) → p < q → q < n + 1 → At p → At q → times p < times q
      rising p q less top here there =
          ⊎_elim
          (λ same.
          let low : p < n = omega (arith, less, same) in
          subst (λ t. t < times q) (sym (time_old h.times n b.time p low)) (subst (λ t. h.times p < t) (sym (ap times same ∙ time_new h.times n b.time)) (h.past p low here)))
          (λ apart.
          let high : q < n = omega (arith, top, apart) in
          let low : p < n = omega (arith, less, high) in
          subst (λ t. t < times q) (sym (time_old h.times n b.time p low)) (subst (λ t. h.times p < t) (sym (time_old h.times n b.time q high)) (h.rising p q less high here there)))
          (cases_eq q n)

      past : (p : ℕ) → p < n + 1 → At p → times p < b.time + 1
      past p top here =
          ⊎_elim
          (λ same. subst (λ t. t < b.time + 1) (sym (ap times same ∙ time_new h.times n b.time)) (omega arith))
          (λ apart. let low : p < n = omega (arith, top, apart) in subst (λ t. t < b.time + 1) (sym (time_old h.times n b.time p low)) (omega (arith, h.past p low here)))
          (cases_eq p n)

      entered : (r : Option Request) → TimesStand its (let b' = enter s.0 (outgoing b r (tickets_left item) s.1) b in record b' { sent = b'.sent + 1 })
      entered r =
          let out : Outgoing = record (outgoing b r (tickets_left item) s.1) { time = b.time } in
          record {
            counted = counted;
            times = times;
            rising = rising;
            past = past;
            links = appends times (n + 1) s.0 out b.links
                (record { below = below_now out refl; time_is = λ p place. sym (ap times (sym (some_same n p (place_some o all (Some n) p place))) ∙ time_new h.times n b.time) }) (links_more h.times n b.time b.links h.links);
            undue = waits-more o all n b.undue h.undue;
          }

      -- it waits: it has no place in the order
      waits : (b' : Box) → b'.sent ≡ n → b'.time ≡ b.time → b'.links ≡ b.links → went_at_once o all (nth n (firsts all)) ≡ false → EachOf (Waits o all (n + 1)) b'.undue → TimesStand its (record b' { sent = b'.sent + 1 })
      waits b' same_sent same_time same_links late undue = record {
        counted = ap (λ k. k + 1) same_sent ∙ counted;
        times = times;
        rising = λ p q less top here there. rising p q less (omega (arith, top, same_sent)) here there;
        past = λ p top here.
            ⊎_elim
            (λ same. absurd (false≢true (sym late ∙ ap (λ k. went_at_once o all (nth k (firsts all))) (sym same) ∙ here)))
            (λ apart. let low : p < n = omega (arith, top, apart, same_sent) in subst (λ t. t < b'.time) (sym (time_old h.times n b.time p low)) (omega (arith, h.past p low here, same_time)))
            (cases_eq p n);
        links = subst (λ ls. EachOf (LinkTimed times (b'.sent + 1)) ls) (sym same_links) (subst (λ k. EachOf (LinkTimed times (k + 1)) b.links) (sym same_sent) (links_more h.times n b.time b.links h.links));
        undue = subst (λ k. EachOf (Waits o all (k + 1)) b'.undue) (sym same_sent) undue;
      }

      by_aim : (r : Request) → executing item ≡ Some r → (x : Option Aim) → aim o (Some r) s.1 ≡ x → TimesStand its (let b' = send_as o (Some r) x conns closes s.0 (outgoing b (Some r) (tickets_left item) s.1) b in record b' { sent = b'.sent + 1 })
      by_aim r is None none = entered (Some r)
      by_aim r is (Some about) some =
          let a : Answer = answer o b r conns closes s.0 (outgoing b (Some r) (tickets_left item) s.1) about in
          let placed : nth n (firsts all) ≡ Some (record { before = items; item = item; conn = s.0; reply = s.1 }) = sent_now o all items rest item s.0 n s.1 whole found h.counted in
          let late : went_at_once o all (nth n (firsts all)) ≡ false =
          ap (went_at_once o all) placed ∙ ap (λ x. elim x [ Some about ↦ false | None ↦ true ]) (ap (λ x. aim o x s.1) is ∙ some) in
          let none : place_of o all a.out.sent ≡ None = ap (λ v. cond v (Some n) None) late in
          cond_both (list_any (λ (l : Link). (l.conn == a.conn) && takes_more l) b.links) (record b { undue = b.undue ++ a ∷ [] }) b (λ (b' : Box). TimesStand its (record b' { sent = b'.sent + 1 }))
          (λ may. waits (record b { undue = b.undue ++ a ∷ [] }) refl refl refl late (each-append (Waits o all (n + 1)) b.undue (a ∷ []) (waits-more o all n b.undue h.undue) ((none, below_now a.out refl), tt)))
          (λ may. waits b refl refl refl late (waits-more o all n b.undue h.undue))

      by_request : (r : Option Request) → executing item ≡ r → TimesStand its (send o r (tickets_left item) conns closes (Some s) b)
      by_request (Some r) is = by_aim r is (aim o (Some r) s.1) refl
      by_request None is = entered None

  pub time_walk : Walk o Times
  time_walk = record {
    tasks = λ items b ts h rest whole. let k = h rest whole in record { counted = k.counted; times = k.times; rising = k.rising; past = k.past; links = k.links; undue = k.undue };
    drops = λ items b these h rest whole. let k = h rest whole in
        with_links items b (map (without these) b.links) b.undue k
        (each-map (LinkTimed k.times b.sent) (LinkTimed k.times b.sent) (without these) b.links (λ l j. (each-filter (Timed k.times b.sent) _ l.queue j.0, j.1)) k.links) k.undue;
    closes = λ items b conn h rest whole. let k = h rest whole in
        with_links items b (at_link conn (λ l. record l { closed = true }) b.links) b.undue k
        (each-at_link (LinkTimed k.times b.sent) (LinkTimed k.times b.sent) conn (λ l. record l { closed = true }) b.links (λ l is j. j) (λ l is j. j) k.links) k.undue;
    cuts = λ items b conn h rest whole. let k = h rest whole in
        with_links items b (at_link conn (λ l. record l { closed = true; cut = true }) b.links) b.undue k
        (each-at_link (LinkTimed k.times b.sent) (LinkTimed k.times b.sent) conn (λ l. record l { closed = true; cut = true }) b.links (λ l is j. j) (λ l is j. j) k.links) k.undue;
    drops_on = λ items b conn over h rest whole. let k = h rest whole in
        with_links items b (at_link conn emptied b.links) (filter (λ (a : Answer). not (a.conn == conn)) b.undue) k
        (each-at_link (LinkTimed k.times b.sent) (LinkTimed k.times b.sent) conn emptied b.links (λ l is j. (tt, j.1)) (λ l is j. j) k.links)
        (each-filter (Waits o all b.sent) (λ (a : Answer). not (a.conn == conn)) b.undue k.undue);
    moves = λ items b before rest a due h more whole.
        let k = h more whole in
        let later = each-second (Waits o all b.sent) before (a ∷ rest) k.undue in
        enters_late items (record b { undue = before ++ rest }) a.conn a.out later.0.0 later.0.1
        (record { counted = k.counted; times = k.times; rising = k.rising; past = k.past; links = k.links; undue = each-append (Waits o all b.sent) before rest (each-first (Waits o all b.sent) before (a ∷ rest) k.undue) later.1 });
    sends = λ items b item conns closes h rest whole.
        let whole' : items ++ item ∷ rest ≡ all = sym (append_assoc items (item ∷ []) rest) ∙ whole in
        sends_one items rest b item conns closes (first_of (filter_map reply_sent item)) refl whole' (h (item ∷ rest) whole');
  }

  -- ---- the other calls

  timed_none : (times : ℕ → ℕ) (n : ℕ) (x : Outgoing) → x.sent ≡ None → Timed times n x
  timed_none times n x none = record {
    below = λ p is. absurd (none_some o all x.sent p none is);
    time_is = λ p place. absurd (none_some o all (place_of o all x.sent) p (ap (place_of o all) none) place);
  }

  timed_out : (times : ℕ → ℕ) (n : ℕ) (b : Box) (l : Link) (out : Outgoing) → Chosen o b l out → EachOf (Timed times n) l.queue → Timed times n out
  timed_out times n b l out from queue =
      ⊎_elim (λ (q : FromQueue o b l out). (subst (EachOf (Timed times n)) q.queue_is queue).0) (λ other. timed_none times n out (own_ping o b l out other).none) from.source

  -- whatever else stands
  pub time_boxes : (J : List Deed → Box → Type 0) → Boxwise o J Times
  time_boxes J = record {
    walk = time_walk;
    numbers = λ items b exp max h rest whole. let k = h rest whole in record { counted = k.counted; times = k.times; rising = k.rising; past = k.past; links = k.links; undue = k.undue };
    puts = λ items b conn p h rest whole. enters_late items b conn (own_outgoing p) refl (λ q is. absurd cc) (h rest whole);
    marks = λ items b conn change alike h rest whole. let k = h rest whole in
        with_links items b (at_link conn change b.links) b.undue k
        (each-at_link (LinkTimed k.times b.sent) (LinkTimed k.times b.sent) conn change b.links
        (λ l is j. (subst (EachOf (Timed k.times b.sent)) (sym (alike l).queue) j.0, subst (EachOf (λ (g : Handed). Timed k.times b.sent g.out)) (sym (alike l).handed) j.1)) (λ l isnt j. j) k.links) k.undue;
    reaches = λ items b n h rest whole. let k = h rest whole in record { counted = k.counted; times = k.times; rising = k.rising; past = k.past; links = k.links; undue = k.undue };
    clears = λ items b unit h rest whole. let k = h rest whole in with_links items b b.links (cleared unit b.undue) k k.links (clears_waits o all b.sent unit b.undue k.undue);
    hands = λ ds b conn h n from j stands rest whole. let k = stands rest whole in
        let l : Link = n.link in
        let out : Outgoing = n.out in
        let g : Handed = handed_as o b l out in
        let here : LinkTimed k.times b.sent l = each-first_of (LinkTimed k.times b.sent) (λ (m : Link). m.conn == conn) b.links l n.found k.links in
        let new : Timed k.times b.sent out = timed_out k.times b.sent b l out from here.0 in
        let taken : EachOf (LinkTimed k.times b.sent) (at_link l.conn (taken_from out) b.links) =
        each-at_link (LinkTimed k.times b.sent) (LinkTimed k.times b.sent) l.conn (taken_from out) b.links
        (λ m is i. cond_both (is_from_queue out) (record m { queue = drop 1 m.queue }) m (LinkTimed k.times b.sent) (λ q. (each-drop_one (Timed k.times b.sent) m.queue i.0, i.1)) (λ q. i)) (λ m isnt i. i) k.links in
        record {
          counted = k.counted;
          times = k.times;
          rising = k.rising;
          past = k.past;
          links = each-at_link (LinkTimed k.times b.sent) (LinkTimed k.times b.sent) l.conn (λ m. record m { handed = m.handed ++ g ∷ [] }) (at_link l.conn (taken_from out) b.links)
              (λ m is i. (i.0, each-append (λ (x : Handed). Timed k.times b.sent x.out) m.handed (g ∷ []) i.1 (new, tt))) (λ m isnt i. i) taken;
          undue = k.undue;
        };
  }

  pub time_starts : Times [] (opened o)
  time_starts rest whole = record {
    counted = refl;
    times = λ p. 0;
    rising = λ p q less top here there. absurd (omega (arith, top));
    past = λ p top here. absurd (omega (arith, top));
    links = starts o.session.conns;
    undue = tt;
  }
    where
      starts : (cs : List (ℕ × ℕ)) → EachOf (LinkTimed (λ p. 0) 0) (map (λ (c : ℕ × ℕ). new_link c.0) cs)
      starts [] = tt
      starts (c ∷ cs) = ((tt, tt), starts cs)
