-- Of the PDUs that wait: each queue is in the order in which they entered; and of a reply that didn't have to wait, the times at
-- which those that were sent behind it entered are later than its own.
use Rattle.std.proofs.Common.{◌≡◌, ◌≢◌, ℕ, ◌+◌, ◌<◌, ◌≤◌, ⊎_elim, ◌==◌, ◌&&◌, not, Bool, true, false, List, [], ◌∷◌, ◌++◌, map, filter, filter_map, drop, length, Option, Some, None, refl, ap, sym, subst, ◌∙◌, arith}
use Rattle.std.specs.List.{list_any}
use Rattle.std.proofs.lemmas.Bool.{cond_both, cases_eq}
use Rattle.std.proofs.lemmas.List.{append_assoc}
use Rattle.iscsi_wire.specs.declared.reply.Reply.{Reply}
use Rattle.iscsi_wire.specs.declared.request.Request.{Request}
use Rattle.iscsi_rules.specs.declared.effect.Effect.{Effect}
use Rattle.iscsi_rules.specs.rules.Trace.{first_of}
use Rattle.iscsi_outbox_rules.specs.rules.Calls.{Opening}
use Rattle.iscsi_outbox_rules.specs.rules.Boxes.{Outgoing, Handed, Aim, Answer, Link, Box}
use Rattle.iscsi_outbox_rules.specs.rules.Words.{is_of}
use Rattle.iscsi_outbox_rules.specs.rules.Queues.{at_link, takes_more, append, enter, without, emptied}
use Rattle.iscsi_outbox_rules.specs.rules.Items.{executing, tickets_left, reply_sent, outgoing, answer, send_as, aim, send}
use Rattle.iscsi_outbox_rules.specs.rules.Own.{own_outgoing}
use Rattle.iscsi_outbox_rules.specs.rules.Handing.{is_from_queue, taken_from, handed_as}
use Rattle.iscsi_outbox_rules.specs.rules.Run.{new_link, opened, waits_for_clear, cleared}
use Rattle.iscsi_outbox_rules.specs.promises.Deeds.{Deed}
use Rattle.iscsi_outbox_rules.specs.promises.Scope.{Sent, nth, aim_of_sent}
use Rattle.iscsi_outbox_rules.proofs.general.EachLemmas.{EachOf, each-append, each-first, each-second, each-weaken, each-map, each-filter, each-at_link, each-drop_one}
use Rattle.iscsi_outbox_rules.proofs.general.FirstLemmas.{firsts, firsts-none, firsts-some, length-push}
use Rattle.iscsi_outbox_rules.proofs.general.Walks.{Walk}
use Rattle.iscsi_outbox_rules.proofs.general.Boxwise.{Boxwise}
use Rattle.iscsi_outbox_rules.proofs.order.LineRuns.{sent_now}

-- ---- queues in order

abbrev pub InTime : List Outgoing → Type 0
InTime [] = Unit {0}
InTime (x ∷ xs) = EachOf (λ (y : Outgoing). x.time < y.time) xs × InTime xs

in_time_push : (xs : List Outgoing) (y : Outgoing) → EachOf (λ (x : Outgoing). x.time < y.time) xs → InTime xs → InTime (xs ++ y ∷ [])
in_time_push [] y low h = (tt, tt)
in_time_push (x ∷ xs) y low h = (each-append (λ (z : Outgoing). x.time < z.time) xs (y ∷ []) h.0 (low.0, tt), in_time_push xs y low.1 h.1)

in_time_filter : (p : Outgoing → Bool) (xs : List Outgoing) → InTime xs → InTime (filter p xs)
in_time_filter p [] h = tt
in_time_filter p (x ∷ xs) h =
    cond_both (p x) (x ∷ filter p xs) (filter p xs) InTime (λ is. (each-filter (λ (y : Outgoing). x.time < y.time) p xs h.0, in_time_filter p xs h.1)) (λ is. in_time_filter p xs h.1)

in_time_drop : (xs : List Outgoing) → InTime xs → InTime (drop 1 xs)
in_time_drop [] h = tt
in_time_drop (x ∷ xs) h = h.1

same_place : (p q : ℕ) → Some p ≡ Some q → p ≡ q
same_place p q is = cc

-- the reply `s` at the place `p` of the log didn't have to wait
module _ (o : Opening) (all : List (List Effect)) (p : ℕ) (s : Sent) (placed : nth p (firsts all) ≡ Some s) (at_once : aim_of_sent o s ≡ None) where
  -- `n` replies were sent so far; the reply entered before `bound`, and what was sent behind it not before that
  pub record Timely (n bound now : ℕ) (x : Outgoing) : Type 0 where
    pub below : (q : ℕ) → x.sent ≡ Some q → q < n
    pub past : x.time < now
    pub early : x.sent ≡ Some p → x.time < bound
    pub late : (q : ℕ) → x.sent ≡ Some q → p < q → bound ≤ x.time

  abbrev pub LineTimely : ℕ → ℕ → ℕ → Link → Type 0
  LineTimely n bound now l = EachOf (Timely n bound now) l.queue × InTime l.queue

  abbrev OthersWait : ℕ → Answer → Type 0
  OthersWait n a = (q : ℕ) → a.out.sent ≡ Some q → (q < n) × (q ≢ p)

  pub record TimelyStand (items : List (List Effect)) (b : Box) : Type 0 where
    pub counted : b.sent ≡ length (firsts items)
    pub bound : ℕ
    pub high : bound ≤ b.time
    pub lines : EachOf (LineTimely b.sent bound b.time) b.links
    pub undue : EachOf (λ (a : Answer). (q : ℕ) → a.out.sent ≡ Some q → (q < b.sent) × (q ≢ p)) b.undue

  abbrev pub Times : List (List Effect) → Box → Type 0
  Times items b = (more : List (List Effect)) → items ++ more ≡ all → TimelyStand items b

  -- ---- entering

  later : (n bound now : ℕ) (x : Outgoing) → Timely n bound now x → Timely n bound (now + 1) x
  later n bound now x k = record { below = k.below; past = (let z : x.time < now + 1 = omega (arith, k.past) in z); early = k.early; late = k.late }

  lines_later : (n bound now : ℕ) (l : Link) → LineTimely n bound now l → LineTimely n bound (now + 1) l
  lines_later n bound now l k = (each-weaken (Timely n bound now) (Timely n bound (now + 1)) l.queue (later n bound now) k.0, k.1)

  appends : (n bound now conn : ℕ) (out : Outgoing) (links : List Link) → out.time ≡ now → Timely n bound (now + 1) out → EachOf (LineTimely n bound now) links → EachOf (LineTimely n bound (now + 1)) (at_link conn (append out) links)
  appends n bound now conn out links is new h =
      each-at_link (LineTimely n bound now) (LineTimely n bound (now + 1)) conn (append out) links
      (λ l at k. cond_both (takes_more l) (record l { queue = l.queue ++ out ∷ [] }) l (LineTimely n bound (now + 1))
      (λ more. (
        each-append (Timely n bound (now + 1)) l.queue (out ∷ []) (lines_later n bound now l k).0 (new, tt),
        in_time_push l.queue out (each-weaken (Timely n bound now) (λ (x : Outgoing). x.time < out.time) l.queue (λ x e. subst (λ m. x.time < m) (sym is) e.past) k.0) k.1,
      )) (λ more. lines_later n bound now l k))
      (λ l isnt k. lines_later n bound now l k) h

  enters_other : (items : List (List Effect)) (b : Box) (conn : ℕ) (out : Outgoing) → ((q : ℕ) → out.sent ≡ Some q → (q < b.sent) × (q ≢ p)) → TimelyStand items b → TimelyStand items (enter conn out b)
  enters_other items b conn out other k = record {
    counted = k.counted;
    bound = k.bound;
    high = (let z : k.bound ≤ b.time + 1 = omega (arith, k.high) in z);
    lines = appends b.sent k.bound b.time conn (record out { time = b.time }) b.links refl
        (record { below = λ q is. (other q is).0; past = (let z : b.time < b.time + 1 = omega arith in z); early = λ is. absurd ((other p is).1 refl); late = λ q is low. k.high }) k.lines;
    undue = k.undue;
  }

  -- ---- what an item sends

  grown : (n bound now : ℕ) (x : Outgoing) → Timely n bound now x → Timely (n + 1) bound now x
  grown n bound now x k = record { below = λ q is. (let z : q < n + 1 = omega (arith, k.below q is) in z); past = k.past; early = k.early; late = k.late }

  -- none of these is the reply, or was sent behind it
  rebound : (n bound new now : ℕ) (x : Outgoing) → n ≡ p → Timely n bound now x → Timely (n + 1) new now x
  rebound n bound new now x is k = record {
    below = λ q at. (let z : q < n + 1 = omega (arith, k.below q at) in z);
    past = k.past;
    early = λ at. absurd (omega (arith, k.below p at, is));
    late = λ q at low. absurd (omega (arith, k.below q at, is, low));
  }

  others_more : (n : ℕ) (answers : List Answer) → EachOf (OthersWait n) answers → EachOf (OthersWait (n + 1)) answers
  others_more n answers h = each-weaken (OthersWait n) (OthersWait (n + 1)) answers (λ a e q is. ((let k = e q is in let z : q < n + 1 = omega (arith, k.0) in z), (e q is).1)) h

  module _ (items rest : List (List Effect)) (item : List Effect) (r : ℕ × Reply) (found : first_of (filter_map reply_sent item) ≡ Some r) (whole : items ++ item ∷ rest ≡ all) (b : Box) (h : TimelyStand items b) where
    abbrev its : List (List Effect)
    its = items ++ item ∷ []

    counted : b.sent + 1 ≡ length (firsts its)
    counted = ap (λ k. k + 1) h.counted ∙ sym (length-push (firsts items) _) ∙ ap length (sym (firsts-some items item r.0 r.1 found))

    now_placed : nth b.sent (firsts all) ≡ Some (record { before = items; item = item; conn = r.0; reply = r.1 })
    now_placed = sent_now o all items rest item r.0 b.sent r.1 whole found h.counted

    entered : (q : Option Request) → TimelyStand its (let b' = enter r.0 (outgoing b q (tickets_left item) r.1) b in record b' { sent = b'.sent + 1 })
    entered q = ⊎_elim here there (cases_eq b.sent p)
      where
        here : b.sent ≡ p → TimelyStand its (let b' = enter r.0 (outgoing b q (tickets_left item) r.1) b in record b' { sent = b'.sent + 1 })
        here is = record {
          counted = counted;
          bound = b.time + 1;
          high = (let z : b.time + 1 ≤ b.time + 1 = omega arith in z);
          lines = appends (b.sent + 1) (b.time + 1) b.time r.0 (record (outgoing b q (tickets_left item) r.1) { time = b.time }) b.links refl
              (record {
                below = λ k at. (let same : b.sent ≡ k = same_place b.sent k at in let z : k < b.sent + 1 = omega (arith, same) in z);
                past = (let z : b.time < b.time + 1 = omega arith in z);
                early = λ at. (let z : b.time < b.time + 1 = omega arith in z);
                late = λ k at low. absurd (let same : b.sent ≡ k = same_place b.sent k at in omega (arith, same, is, low));
              })
              (each-weaken (LineTimely b.sent h.bound b.time) (LineTimely (b.sent + 1) (b.time + 1) b.time) b.links
              (λ l k. (each-weaken (Timely b.sent h.bound b.time) (Timely (b.sent + 1) (b.time + 1) b.time) l.queue (λ x e. rebound b.sent h.bound (b.time + 1) b.time x is e) k.0, k.1)) h.lines);
          undue = others_more b.sent b.undue h.undue;
        }

        there : b.sent ≢ p → TimelyStand its (let b' = enter r.0 (outgoing b q (tickets_left item) r.1) b in record b' { sent = b'.sent + 1 })
        there isnt = record {
          counted = counted;
          bound = h.bound;
          high = (let z : h.bound ≤ b.time + 1 = omega (arith, h.high) in z);
          lines = appends (b.sent + 1) h.bound b.time r.0 (record (outgoing b q (tickets_left item) r.1) { time = b.time }) b.links refl
              (record {
                below = λ k at. (let same : b.sent ≡ k = same_place b.sent k at in let z : k < b.sent + 1 = omega (arith, same) in z);
                past = (let z : b.time < b.time + 1 = omega arith in z);
                early = λ at. absurd (isnt (same_place b.sent p at));
                late = λ k at low. h.high;
              })
              (each-weaken (LineTimely b.sent h.bound b.time) (LineTimely (b.sent + 1) h.bound b.time) b.links
              (λ l k. (each-weaken (Timely b.sent h.bound b.time) (Timely (b.sent + 1) h.bound b.time) l.queue (grown b.sent h.bound b.time) k.0, k.1)) h.lines);
          undue = others_more b.sent b.undue h.undue;
        }

    -- one that waits is another
    waits : (undue : List Answer) → EachOf (OthersWait (b.sent + 1)) undue → TimelyStand its (record b { undue = undue; sent = b.sent + 1 })
    waits undue others = record {
      counted = counted;
      bound = h.bound;
      high = h.high;
      lines = each-weaken (LineTimely b.sent h.bound b.time) (LineTimely (b.sent + 1) h.bound b.time) b.links
          (λ l k. (each-weaken (Timely b.sent h.bound b.time) (Timely (b.sent + 1) h.bound b.time) l.queue (grown b.sent h.bound b.time) k.0, k.1)) h.lines;
      undue = others;
    }

    some_sent : (x y : Sent) → Some x ≡ Some y → x ≡ y
    some_sent x y is = cc

    another : (about : Aim) → aim o (executing item) r.1 ≡ Some about → b.sent ≢ p
    another about some is =
        let same : record { before = items; item = item; conn = r.0; reply = r.1 } ≡ s = some_sent (record { before = items; item = item; conn = r.0; reply = r.1 }) s (sym now_placed ∙ ap (λ k. nth k (firsts all)) is ∙ placed) in
        let no : Some about ≡ None = sym some ∙ ap (aim_of_sent o) same ∙ at_once in cc

    by_aim : (conns closes : List ℕ) (q : Request) → executing item ≡ Some q → (x : Option Aim) → aim o (Some q) r.1 ≡ x
        → TimelyStand its (let b' = send_as o (Some q) x conns closes r.0 (outgoing b (Some q) (tickets_left item) r.1) b in record b' { sent = b'.sent + 1 })
    by_aim conns closes q is None none = entered (Some q)
    by_aim conns closes q is (Some about) some =
        let a : Answer = answer o b q conns closes r.0 (outgoing b (Some q) (tickets_left item) r.1) about in
        cond_both (list_any (λ (l : Link). (l.conn == a.conn) && takes_more l) b.links) (record b { undue = b.undue ++ a ∷ [] }) b (λ (b' : Box). TimelyStand its (record b' { sent = b'.sent + 1 }))
        (λ may. waits (b.undue ++ a ∷ []) (each-append (OthersWait (b.sent + 1)) b.undue (a ∷ []) (others_more b.sent b.undue h.undue) (
          (λ k at. (
            (let same : b.sent ≡ k = same_place b.sent k at in let z : k < b.sent + 1 = omega (arith, same) in z),
            λ same. another about (ap (λ y. aim o y r.1) is ∙ some) (same_place b.sent k at ∙ same),
          )),
          tt,
        )))
        (λ may. waits b.undue (others_more b.sent b.undue h.undue))

    sends_some : (conns closes : List ℕ) (q : Option Request) → executing item ≡ q → TimelyStand its (send o q (tickets_left item) conns closes (Some r) b)
    sends_some conns closes (Some q) is = by_aim conns closes q is (aim o (Some q) r.1) refl
    sends_some conns closes None is = entered None

  sends_one : (items rest : List (List Effect)) (b : Box) (item : List Effect) (conns closes : List ℕ) (x : Option (ℕ × Reply)) → first_of (filter_map reply_sent item) ≡ x → items ++ item ∷ rest ≡ all
      → TimelyStand items b → TimelyStand (items ++ item ∷ []) (send o (executing item) (tickets_left item) conns closes x b)
  sends_one items rest b item conns closes None none whole h = record { counted = h.counted ∙ ap length (sym (firsts-none items item none)); bound = h.bound; high = h.high; lines = h.lines; undue = h.undue }
  sends_one items rest b item conns closes (Some r) found whole h = sends_some items rest item r found whole b h conns closes (executing item) refl

  -- ---- each step

  -- where no queue has more
  fewer : (items : List (List Effect)) (b : Box) (links : List Link) (undue : List Answer) (k : TimelyStand items b) → EachOf (LineTimely b.sent k.bound b.time) links → EachOf (OthersWait b.sent) undue → TimelyStand items (record b { links = links; undue = undue })
  fewer items b links undue k lines others = record { counted = k.counted; bound = k.bound; high = k.high; lines = lines; undue = others }

  time_walk : Walk o Times
  time_walk = record {
    tasks = λ items b ts h more whole. let k = h more whole in record { counted = k.counted; bound = k.bound; high = k.high; lines = k.lines; undue = k.undue };
    drops = λ items b these h more whole. let k = h more whole in
        fewer items b (map (without these) b.links) b.undue k
        (each-map (LineTimely b.sent k.bound b.time) (LineTimely b.sent k.bound b.time) (without these) b.links
        (λ l j. (each-filter (Timely b.sent k.bound b.time) (λ out. not (is_of these out)) l.queue j.0, in_time_filter (λ out. not (is_of these out)) l.queue j.1)) k.lines) k.undue;
    closes = λ items b conn h more whole. let k = h more whole in
        fewer items b (at_link conn (λ l. record l { closed = true }) b.links) b.undue k
        (each-at_link (LineTimely b.sent k.bound b.time) (LineTimely b.sent k.bound b.time) conn (λ l. record l { closed = true }) b.links (λ l is j. j) (λ l is j. j) k.lines) k.undue;
    cuts = λ items b conn h more whole. let k = h more whole in
        fewer items b (at_link conn (λ l. record l { closed = true; cut = true }) b.links) b.undue k
        (each-at_link (LineTimely b.sent k.bound b.time) (LineTimely b.sent k.bound b.time) conn (λ l. record l { closed = true; cut = true }) b.links (λ l is j. j) (λ l is j. j) k.lines) k.undue;
    drops_on = λ items b conn over h more whole. let k = h more whole in
        fewer items b (at_link conn emptied b.links) (filter (λ (a : Answer). not (a.conn == conn)) b.undue) k
        (each-at_link (LineTimely b.sent k.bound b.time) (LineTimely b.sent k.bound b.time) conn emptied b.links (λ l is j. (tt, tt)) (λ l is j. j) k.lines)
        (each-filter (OthersWait b.sent) (λ (a : Answer). not (a.conn == conn)) b.undue k.undue);
    moves = λ items b before after a due h more whole.
        let k = h more whole in
        let behind = each-second (OthersWait b.sent) before (a ∷ after) k.undue in
        enters_other items (record b { undue = before ++ after }) a.conn a.out behind.0
        (record { counted = k.counted; bound = k.bound; high = k.high; lines = k.lines; undue = each-append (OthersWait b.sent) before after (each-first (OthersWait b.sent) before (a ∷ after) k.undue) behind.1 });
    sends = λ items b item conns closes h more whole.
        let whole' : items ++ item ∷ more ≡ all = sym (append_assoc items (item ∷ []) more) ∙ whole in
        sends_one items more b item conns closes (first_of (filter_map reply_sent item)) refl whole' (h (item ∷ more) whole');
  }

  clears : (n unit : ℕ) (answers : List Answer) → EachOf (OthersWait n) answers → EachOf (OthersWait n) (cleared unit answers)
  clears n unit [] h = tt
  clears n unit (a ∷ answers) h = cond_both (waits_for_clear unit a) (record a { uncleared = false } ∷ answers) (a ∷ cleared unit answers) (EachOf (OthersWait n)) (λ is. h) (λ is. (h.0, clears n unit answers h.1))

  pub timely_boxes : (J : List Deed → Box → Type 0) → Boxwise o J Times
  timely_boxes J = record {
    walk = time_walk;
    numbers = λ items b exp max h more whole. let k = h more whole in record { counted = k.counted; bound = k.bound; high = k.high; lines = k.lines; undue = k.undue };
    puts = λ items b conn own h more whole. enters_other items b conn (own_outgoing own) (λ q is. absurd cc) (h more whole);
    marks = λ items b conn change alike h more whole. let k = h more whole in
        fewer items b (at_link conn change b.links) b.undue k
        (each-at_link (LineTimely b.sent k.bound b.time) (LineTimely b.sent k.bound b.time) conn change b.links
        (λ l is j. subst (λ (xs : List Outgoing). EachOf (Timely b.sent k.bound b.time) xs × InTime xs) (sym (alike l).queue) j) (λ l isnt j. j) k.lines) k.undue;
    reaches = λ items b n h more whole. let k = h more whole in record { counted = k.counted; bound = k.bound; high = k.high; lines = k.lines; undue = k.undue };
    clears = λ items b unit h more whole. let k = h more whole in fewer items b b.links (cleared unit b.undue) k k.lines (clears b.sent unit b.undue k.undue);
    hands = λ ds b conn h n from j stands more whole. let k = stands more whole in
        let l : Link = n.link in
        let out : Outgoing = n.out in
        let g : Handed = handed_as o b l out in
        let taken : EachOf (LineTimely b.sent k.bound b.time) (at_link l.conn (taken_from out) b.links) =
        each-at_link (LineTimely b.sent k.bound b.time) (LineTimely b.sent k.bound b.time) l.conn (taken_from out) b.links
        (λ m is i. cond_both (is_from_queue out) (record m { queue = drop 1 m.queue }) m (LineTimely b.sent k.bound b.time) (λ q. (each-drop_one (Timely b.sent k.bound b.time) m.queue i.0, in_time_drop m.queue i.1)) (λ q. i)) (λ m isnt i. i) k.lines in
        record {
          counted = k.counted;
          bound = k.bound;
          high = k.high;
          lines = each-at_link (LineTimely b.sent k.bound b.time) (LineTimely b.sent k.bound b.time) l.conn (λ m. record m { handed = m.handed ++ g ∷ [] }) (at_link l.conn (taken_from out) b.links) (λ m is i. i) (λ m isnt i. i) taken;
          undue = k.undue;
        };
  }

  pub timely_start : Times [] (opened o)
  timely_start more whole = record { counted = refl; bound = 0; high = (let z : 0 ≤ 0 = omega arith in z); lines = starts o.session.conns; undue = tt }
    where
      starts : (xs : List (ℕ × ℕ)) → EachOf (LineTimely 0 0 0) (map (λ (x : ℕ × ℕ). new_link x.0) xs)
      starts [] = tt
      starts (x ∷ xs) = ((tt, tt), starts xs)
