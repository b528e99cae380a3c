-- A reply that didn't have to wait goes out before each fenced answer that was sent behind it, where its connection takes it.
use Rattle.std.proofs.Common.{◌≡◌, ℕ, zero, suc, ◌⊎◌, ◌<◌, ◌≤◌, ⊎_elim, ◌==◌, ◌&&◌, ◌||◌, not, cond, Bool, true, false, List, [], ◌∷◌, ◌++◌, map, filter, length, nat_lt, Option, Some, None, refl, ap, sym, subst, ◌∙◌, arith, lt-ltb, ne_eqb}
use Rattle.std.specs.List.{list_any}
use Rattle.std.proofs.lemmas.Bool.{false≢true, eqb-true, cases_eq}
use Rattle.std.proofs.lemmas.List.{append_assoc}
use Rattle.iscsi_rules.specs.declared.effect.Effect.{Effect}
use Rattle.iscsi_rules.proofs.general.BoolLemmas.{and_parts, and_first, and_both, not_true, or_first, or_second}
use Rattle.iscsi_outbox_rules.specs.rules.Calls.{Opening, Call, Takes, Puts, Stops, Nexts, Writes, Hears, Joins, Loses, Clears}
use Rattle.iscsi_outbox_rules.specs.rules.Boxes.{Outgoing, Handed, Link, Box}
use Rattle.iscsi_outbox_rules.specs.rules.Words.{is_open, under_way}
use Rattle.iscsi_outbox_rules.specs.rules.Handing.{lets_pass, is_clear, takes_handed}
use Rattle.iscsi_outbox_rules.specs.rules.Run.{opened, after_call, after_calls, answered, may_join}
use Rattle.iscsi_outbox_rules.specs.promises.Deeds.{Deed, FollowsSession, deeds_from, deeds_of, handed_in_deed, handed_in, handed_on, items_in, is_join_of, has_joined, was_lost}
use Rattle.iscsi_outbox_rules.specs.promises.Scope.{Sent, nth, sent_by, aim_of_sent, cut_by}
use Rattle.iscsi_outbox_rules.specs.promises.Fence.{is_fenced, is_handed, FenceFirst}
use Rattle.iscsi_outbox_rules.proofs.general.EachLemmas.{EachOf, each-any, each-first_of}
use Rattle.iscsi_outbox_rules.proofs.general.FoundLemmas.{find_link, found-conn}
use Rattle.iscsi_outbox_rules.proofs.general.FirstLemmas.{firsts, firsts-append, nth-first}
use Rattle.iscsi_outbox_rules.proofs.general.DeedLemmas.{has_joined-more, items_in-append}
use Rattle.iscsi_outbox_rules.proofs.general.ConnLemmas.{conns_of}
use Rattle.iscsi_outbox_rules.proofs.order.CountRuns.{is_at, some_link}
use Rattle.iscsi_outbox_rules.proofs.general.Chosen.{Chosen, FromQueue, IsPing, IsNotice, chosen_from}
use Rattle.iscsi_outbox_rules.proofs.general.Cuts.{Cut, cut, keeps, Handing, handed-next}
use Rattle.iscsi_outbox_rules.proofs.general.LinkRuns.{LinkShows}
use Rattle.iscsi_outbox_rules.proofs.commands.LeaveLemmas.{leaves_once}
use Rattle.iscsi_outbox_rules.proofs.order.SentLemmas.{one_reply_before, sent_by-firsts}
use Rattle.iscsi_outbox_rules.proofs.closes.MarkRuns.{Marked, closed_by}
use Rattle.iscsi_outbox_rules.proofs.arrivals.ArriveThrough.{ArriveStand, arrive_kept, arrive_start, find_known}
use Rattle.iscsi_outbox_rules.proofs.fences.FenceTheorem.{went_fenced, found_all, either_way, all_pass}
use Rattle.iscsi_outbox_rules.proofs.order.PlaceTimes.{InTime, Timely, TimelyStand, Times, timely_start}
use Rattle.iscsi_outbox_rules.proofs.order.PlaceHere.{is_it, is_here}
use Rattle.iscsi_outbox_rules.proofs.order.PlaceCalls.{PlaceStands, times_kept, place_kept, place_begins}

-- ---- of lists

pub nth_low : {A : Type 0} (n : ℕ) (xs : List A) (x : A) → nth n xs ≡ Some x → n < length xs
nth_low n [] x is = absurd cc
nth_low zero (y ∷ xs) x is = omega arith
nth_low (suc n) (y ∷ xs) x is = let rest : n < length xs = nth_low n xs x is in omega (arith, rest)

nth_none : {A : Type 0} (n : ℕ) (xs : List A) → nth n xs ≡ None → length xs ≤ n
nth_none n [] none = omega arith
nth_none zero (x ∷ xs) none = absurd cc
nth_none (suc n) (x ∷ xs) none = let rest : length xs ≤ n = nth_none n xs none in omega (arith, rest)

-- what was handed out on a connection was handed out
pub on_handed : (p q : Handed → Bool) (c : ℕ) (gs : List (ℕ × Handed)) → ((g : Handed) → p g ≡ true → q g ≡ true) → list_any p (map (λ (g : ℕ × Handed). g.1) (filter (λ (g : ℕ × Handed). g.0 == c) gs)) ≡ true → list_any (λ (g : ℕ × Handed). q g.1) gs ≡ true
on_handed p q c [] f some = some
on_handed p q c (g ∷ gs) f some =
    elim (g.0 == c) as (λ v. list_any p (map (λ (x : ℕ × Handed). x.1) (cond v (g ∷ filter (λ (x : ℕ × Handed). x.0 == c) gs) (filter (λ (x : ℕ × Handed). x.0 == c) gs))) ≡ true → (q g.1 || list_any (λ (x : ℕ × Handed). q x.1) gs) ≡ true) [
      | true ↦ λ h.
          elim (p g.1) as (λ v. p g.1 ≡ v → (v || list_any p (map (λ (x : ℕ × Handed). x.1) (filter (λ (x : ℕ × Handed). x.0 == c) gs))) ≡ true → (q g.1 || list_any (λ (x : ℕ × Handed). q x.1) gs) ≡ true) [
            | true ↦ λ is here. or_first (q g.1) (list_any (λ (x : ℕ × Handed). q x.1) gs) (f g.1 is)
            | false ↦ λ is later. or_second (q g.1) (list_any (λ (x : ℕ × Handed). q x.1) gs) (on_handed p q c gs f later)
          ] refl h
      | false ↦ λ h. or_second (q g.1) (list_any (λ (x : ℕ × Handed). q x.1) gs) (on_handed p q c gs f h)
    ] some

known_any : (c : ℕ) (q : Link → Bool) (links : List Link) → ((l : Link) → q l ≡ true → (l.conn == c) ≡ true) → list_any q links ≡ true → list_any (λ k. k == c) (conns_of links) ≡ true
known_any c q [] f some = some
known_any c q (l ∷ links) f some =
    elim (q l) as (λ v. q l ≡ v → (v || list_any q links) ≡ true → ((l.conn == c) || list_any (λ k. k == c) (conns_of links)) ≡ true) [
      | true ↦ λ is here. or_first (l.conn == c) (list_any (λ k. k == c) (conns_of links)) (f l is)
      | false ↦ λ is later. or_second (l.conn == c) (list_any (λ k. k == c) (conns_of links)) (known_any c q links f later)
    ] refl some

-- ---- a connection that joined is one of the session

record JoinStand (o : Opening) (c : ℕ) (ds : List Deed) (b : Box) : Type 0 where
  arrive : ArriveStand o ds b
  known : has_joined ds c ≡ true → list_any (λ k. k == c) (conns_of (opened o).links) ≡ true

join_kept : (o : Opening) (c : ℕ) (ds : List Deed) (b : Box) (call : Call) → JoinStand o c ds b → JoinStand o c (ds ++ (call, answered o b call) ∷ []) (after_call o b call)
join_kept o c ds b call h = record { arrive = arrive_kept o ds b call h.arrive; known = λ joined. by_first (has_joined ds c) refl (sym (has_joined-more ds (call, answered o b call) c) ∙ joined) }
  where
    now : (x : Call) → is_join_of c (x, answered o b x) ≡ true → list_any (λ k. k == c) (conns_of (opened o).links) ≡ true
    now (Takes effects numbers) is = absurd (false≢true is)
    now (Puts p) is = absurd (false≢true is)
    now (Stops ticket) is = absurd (false≢true is)
    now (Nexts conn) is = absurd (false≢true is)
    now (Writes conn) is = absurd (false≢true is)
    now (Hears conn exp_stat_sn tag) is = absurd (false≢true is)
    now (Joins conn stat_sn) is =
        let parts = and_parts (conn == c) (may_join b conn) is in
        ap (list_any (λ k. k == c)) (sym h.arrive.marks.conns)
        ∙ known_any c (λ (l : Link). (((l.conn == conn) && not l.joined) && not l.closed) && not l.lost) b.links
        (λ l k.
        ap (λ n. n == c) (eqb-true l.conn conn (and_first (l.conn == conn) (not l.joined) (and_first ((l.conn == conn) && not l.joined) (not l.closed) (and_first (((l.conn == conn) && not l.joined) && not l.closed) (not l.lost) k))))
        ∙ parts.0) parts.1
    now (Loses conn) is = absurd (false≢true is)
    now (Clears unit) is = absurd (false≢true is)

    by_first : (v : Bool) → has_joined ds c ≡ v → (v || is_join_of c (call, answered o b call)) ≡ true → list_any (λ k. k == c) (conns_of (opened o).links) ≡ true
    by_first true is either = h.known is
    by_first false is later = now call later

join_start : (o : Opening) (c : ℕ) → JoinStand o c [] (opened o)
join_start o c = record { arrive = arrive_start o; known = λ is. absurd (false≢true is) }

-- ---- deeds in two parts

pub record Parted (o : Opening) (b : Box) (cs : List Call) (ds es : List Deed) : Type 0 where
  pub first : List Call
  pub second : List Call
  pub first_is : ds ≡ deeds_from o b first
  pub second_is : es ≡ deeds_from o (after_calls o b first) second

pub part : (o : Opening) (b : Box) (cs : List Call) (ds es : List Deed) → ds ++ es ≡ deeds_from o b cs → Parted o b cs ds es
part o b cs [] es whole = record { first = []; second = cs; first_is = refl; second_is = whole }
part o b [] (d ∷ ds) es whole = absurd cc
part o b (c ∷ cs) (d ∷ ds) es whole =
    let head : d ≡ (c, answered o b c) = cc in
    let k : Parted o (after_call o b c) cs ds es = part o (after_call o b c) cs ds es cc in
    record { first = c ∷ k.first; second = k.second; first_is = ap (λ x. x ∷ ds) head ∙ ap (λ xs. (c, answered o b c) ∷ xs) k.first_is; second_is = k.second_is }

-- ---- the theorem

-- `first` are the deeds before it was sent
module _ (o : Opening) (calls : List Call) (follows : FollowsSession o calls) (first since earlier after : List Deed) (split : first ++ since ≡ earlier) (answer : Deed) (c : ℕ) (h : Handed) (place behind : ℕ) (s : Sent) (whole : earlier ++ answer ∷ after ≡ deeds_of o calls)
    (shown : handed_in_deed answer ≡ Some (c, h)) (fenced : is_fenced o (items_in earlier) h ≡ true) (sent : h.out.sent ≡ Some behind) (less : place < behind)
    (nth_is : nth place (sent_by (items_in earlier)) ≡ Some s) (unsent : nth place (sent_by (items_in first)) ≡ None) (at_once : aim_of_sent o s ≡ None) where
  abbrev pub items : List (List Effect)
  items = items_in earlier

  abbrev pub all : List (List Effect)
  all = items_in (deeds_of o calls)

  abbrev pub rest : List (List Effect)
  rest = items_in (answer ∷ after)

  pub parts : items ++ rest ≡ all
  parts = sym (items_in-append earlier (answer ∷ after)) ∙ ap items_in whole

  in_items : nth place (firsts items) ≡ Some s
  in_items = ap (nth place) (sym (sent_by-firsts items (one_reply_before o calls earlier (answer ∷ after) whole follows))) ∙ nth_is

  pub in_all : nth place (firsts all) ≡ Some s
  in_all = let more = firsts-append items rest in ap (λ its. nth place (firsts its)) (sym parts) ∙ ap (nth place) more.1 ∙ nth-first place (firsts items) more.0 s in_items

  abbrev pub It : Outgoing → Bool
  It x = is_it o place s x

  -- before it is sent
  record Early (ds : List Deed) (b : Box) : Type 0 where
    joins : JoinStand o s.conn ds b
    times : Times o all place s in_all at_once (items_in ds) b

  early_kept : (ds : List Deed) (b : Box) (call : Call) → Early ds b → Early (ds ++ (call, answered o b call) ∷ []) (after_call o b call)
  early_kept ds b call k = record { joins = join_kept o s.conn ds b call k.joins; times = times_kept o all (λ t. leaves_once t o calls follows) place s in_all at_once ds b call k.times }

  early_start : Early [] (opened o)
  early_start = record { joins = join_start o s.conn; times = timely_start o all place s in_all at_once }

  record Both (ds : List Deed) (b : Box) : Type 0 where
    joins : JoinStand o s.conn ds b
    joined : has_joined ds s.conn ≡ true
    places : PlaceStands o all (λ t. leaves_once t o calls follows) place s in_all at_once ds b

  both_kept : (ds : List Deed) (b : Box) (call : Call) → Both ds b → Both (ds ++ (call, answered o b call) ∷ []) (after_call o b call)
  both_kept ds b call k = record {
    joins = join_kept o s.conn ds b call k.joins;
    joined = has_joined-more ds (call, answered o b call) s.conn ∙ or_first (has_joined ds s.conn) (is_join_of s.conn (call, answered o b call)) k.joined;
    places = place_kept o all (λ t. leaves_once t o calls follows) place s in_all at_once ds b call
        (λ conn l found at. (each-first_of (LinkShows ds) (λ (m : Link). m.conn == conn) b.links l found k.joins.arrive.shows.links).joined ∙ ap (has_joined ds) at ∙ k.joined) k.places;
  }

  module _ (joined_first : has_joined first s.conn ≡ true) where
    whole_first : first ++ (since ++ answer ∷ after) ≡ deeds_of o calls
    whole_first = sym (append_assoc first since (answer ∷ after)) ∙ ap (λ ds. ds ++ answer ∷ after) split ∙ whole

    moment : (b : Box) × Both earlier b × Handing o b c h
    moment = (b₂, both₂, (handed-next o b₂ k₂.call c h (ap handed_in_deed (sym k₂.deed_is) ∙ shown)).1)
      where
        k₁ : Parted o (opened o) calls first (since ++ answer ∷ after)
        k₁ = part o (opened o) calls first (since ++ answer ∷ after) whole_first

        b₁ : Box
        b₁ = after_calls o (opened o) k₁.first

        few : length (firsts (items_in first)) ≤ place
        few = nth_none place (firsts (items_in first)) (ap (nth place) (sym (sent_by-firsts (items_in first) (one_reply_before o calls first (since ++ answer ∷ after) whole_first follows))) ∙ unsent)

        early₁ : Early first b₁
        early₁ = subst (λ ds. Early ds b₁) (sym k₁.first_is) (keeps o Early early_kept [] (opened o) k₁.first early_start)

        both₁ : Both first b₁
        both₁ = record { joins = early₁.joins; joined = joined_first; places = place_begins o all (λ t. leaves_once t o calls follows) place s in_all at_once first b₁ early₁.times few }

        k₂ : Cut o b₁ k₁.second since answer after
        k₂ = cut o b₁ k₁.second since answer after k₁.second_is

        b₂ : Box
        b₂ = after_calls o b₁ k₂.first

        both₂ : Both earlier b₂
        both₂ = subst (λ ds. Both ds b₂) (ap (λ ds. first ++ ds) (sym k₂.before_is) ∙ split) (keeps o Both both_kept first b₁ k₂.first both₁)

  module _ (b : Box) (arrive : ArriveStand o earlier b) (times : TimelyStand o all place s in_all at_once items b) (n : Handing o b c h) where
    out_is : n.out ≡ h.out
    out_is = sym (ap (λ (x : Handed). x.out) n.is)

    is_fenced_out : (n.out.fenced ≡ true) × (n.out.takes ≡ true)
    is_fenced_out = let k = went_fenced o calls follows earlier after answer c h whole shown fenced in (ap (λ (x : Outgoing). x.fenced) out_is ∙ k.0, ap (λ (x : Outgoing). x.takes) out_is ∙ k.1)

    out_sent : n.out.sent ≡ Some behind
    out_sent = ap (λ (x : Outgoing). x.sent) out_is ∙ sent

    from : Chosen o b n.link n.out
    from = chosen_from o b n.link n.out n.chosen_is

    queued : FromQueue o b n.link n.out
    queued =
        ⊎_elim (λ q. q)
        (⊎_elim (λ (k : IsPing o b n.link n.out). absurd (let none : None ≡ Some behind = sym (ap (λ (x : Outgoing). x.sent) k.is) ∙ out_sent in cc))
        (λ (k : IsNotice o b n.link n.out). absurd (let none : None ≡ Some behind = sym (ap (λ (x : Outgoing). x.sent) k.is) ∙ out_sent in cc))) from.source

    -- it entered when the other had
    head : (EachOf (Timely o all place s in_all at_once b.sent times.bound b.time) (n.out ∷ queued.rest)) × InTime (n.out ∷ queued.rest)
    head =
        subst (λ xs. EachOf (Timely o all place s in_all at_once b.sent times.bound b.time) xs × InTime xs) queued.queue_is
        (each-first_of (λ (l : Link). EachOf (Timely o all place s in_all at_once b.sent times.bound b.time) l.queue × InTime l.queue) (λ (m : Link). m.conn == c) b.links n.link n.found times.lines)

    late : times.bound ≤ n.out.time
    late = head.0.0.late behind out_sent less

    at_place : (x : Outgoing) → It x ≡ true → x.sent ≡ Some place
    at_place x it = by_sent x.sent (and_first (is_at place x) x.takes (and_first (is_at place x && x.takes) _ it))
      where
        by_sent : (y : Option ℕ) → elim y [ Some q ↦ q == place | None ↦ false ] ≡ true → y ≡ Some place
        by_sent None e = absurd (false≢true e)
        by_sent (Some q) e = ap (λ k. Some k) (eqb-true q place e)

    -- on the same connection it would stand before it
    not_behind : list_any It (n.out ∷ queued.rest) ≡ true → ⊥
    not_behind some = by_first (It n.out) refl some
      where
        by_first : (v : Bool) → It n.out ≡ v → (v || list_any It queued.rest) ≡ true → ⊥
        by_first true is either = let same : Some behind ≡ Some place = sym out_sent ∙ at_place n.out is in let equal : behind ≡ place = cc in omega (arith, equal, less)
        by_first false is later =
            let x = each-any (λ (y : Outgoing). Timely o all place s in_all at_once b.sent times.bound b.time y × (n.out.time < y.time)) It queued.rest later (both_of queued.rest head.0.1 head.1.0) in
            let early : x.0.time < times.bound = x.2.0.early (at_place x.0 x.1) in
            omega (arith, early, late, x.2.1)
          where
            both_of : (xs : List Outgoing) → EachOf (Timely o all place s in_all at_once b.sent times.bound b.time) xs → EachOf (λ (y : Outgoing). n.out.time < y.time) xs
                → EachOf (λ (y : Outgoing). Timely o all place s in_all at_once b.sent times.bound b.time y × (n.out.time < y.time)) xs
            both_of [] f g = tt
            both_of (y ∷ xs) f g = ((f.0, g.0), both_of xs f.1 g.1)

    -- on another one that is open it would be waited for
    not_elsewhere : (m : Link) → find_link s.conn b.links ≡ Some m → is_open m ≡ true → (s.conn ≡ c → ⊥) → list_any It m.queue ≡ true → ⊥
    not_elsewhere m found opens apart some =
        let at : m.conn ≡ s.conn = found-conn s.conn b.links m found in
        let other : (m.conn == n.link.conn) ≡ false = ne_eqb m.conn n.link.conn (λ same. apart (sym at ∙ same ∙ found-conn c b.links n.link n.found)) in
        let passes : (lets_pass o n.out m && (not n.out.fenced || is_clear o n.out m)) ≡ true =
        found_all (λ k. is_open k && not (k.conn == n.link.conn)) (λ k. lets_pass o n.out k && (not n.out.fenced || is_clear o n.out k)) s.conn b.links m (all_pass o b n.link n.out is_fenced_out.1 from) found
        (and_both (is_open m) (not (m.conn == n.link.conn)) opens (ap (λ v. not v) other)) in
        let clear : is_clear o n.out m ≡ true = either_way n.out.fenced (is_clear o n.out m) is_fenced_out.0 (and_parts (lets_pass o n.out m) (not n.out.fenced || is_clear o n.out m) passes).1 in
        let none : list_any (λ (x : Outgoing). x.takes && nat_lt x.time n.out.time) m.queue ≡ false =
        not_true (list_any (λ (x : Outgoing). x.takes && nat_lt x.time n.out.time) m.queue) (and_first (not (list_any (λ (x : Outgoing). x.takes && nat_lt x.time n.out.time) m.queue)) (not (list_any takes_handed (under_way o m))) clear) in
        let line : EachOf (Timely o all place s in_all at_once b.sent times.bound b.time) m.queue × InTime m.queue =
        each-first_of (λ (l : Link). EachOf (Timely o all place s in_all at_once b.sent times.bound b.time) l.queue × InTime l.queue) (λ (k : Link). k.conn == s.conn) b.links m found times.lines in
        false≢true (sym none ∙ before_it m.queue line.0 some)
      where
        before_it : (xs : List Outgoing) → EachOf (Timely o all place s in_all at_once b.sent times.bound b.time) xs → list_any It xs ≡ true → list_any (λ (x : Outgoing). x.takes && nat_lt x.time n.out.time) xs ≡ true
        before_it [] each is = is
        before_it (x ∷ xs) each is =
            elim (It x) as (λ v. It x ≡ v → (v || list_any It xs) ≡ true → ((x.takes && nat_lt x.time n.out.time) || list_any (λ (y : Outgoing). y.takes && nat_lt y.time n.out.time) xs) ≡ true) [
              | true ↦ λ it here.
                  or_first (x.takes && nat_lt x.time n.out.time) (list_any (λ (y : Outgoing). y.takes && nat_lt y.time n.out.time) xs)
                  (and_both x.takes (nat_lt x.time n.out.time) (and_parts (is_at place x) x.takes (and_first (is_at place x && x.takes) _ it)).1
                  (lt-ltb x.time n.out.time (let early : x.time < times.bound = each.0.early (at_place x it) in let z : x.time < n.out.time = omega (arith, early, late) in z)))
              | false ↦ λ it later. or_second (x.takes && nat_lt x.time n.out.time) (list_any (λ (y : Outgoing). y.takes && nat_lt y.time n.out.time) xs) (before_it xs each.1 later)
            ] refl is

    -- so it waits nowhere
    pub none_waits : (m : Link) → find_link s.conn b.links ≡ Some m → m.lost ≡ false → list_any It m.queue ≡ true → ⊥
    none_waits m found unlost some = by_joined m.joined refl
      where
        mark : Marked (conns_of (opened o).links) (closed_by items) (cut_by items) m
        mark = each-first_of (Marked (conns_of (opened o).links) (closed_by items) (cut_by items)) (λ (l : Link). l.conn == s.conn) b.links m found arrive.marks.marks

        by_same : m.joined ≡ true → (s.conn ≡ c) ⊎ (s.conn ≡ c → ⊥) → ⊥
        by_same joined is =
            ⊎_elim
            (λ same.
            let alike : m ≡ n.link = some_link m n.link (sym found ∙ ap (λ k. find_link k b.links) same ∙ n.found) in
            not_behind (ap (list_any It) (sym (ap (λ (x : Link). x.queue) alike ∙ queued.queue_is)) ∙ some))
            (λ apart. not_elsewhere m found (and_both m.joined (not m.lost) joined (ap (λ v. not v) unlost)) apart some) is

        by_joined : (v : Bool) → m.joined ≡ v → ⊥
        by_joined true joined = by_same joined (cases_eq s.conn c)
        by_joined false unjoined = false≢true (ap (list_any It) (sym (mark.idle unjoined)) ∙ some)

  module _ (b : Box) (stands : Both earlier b) (n : Handing o b c h) where
    times : TimelyStand o all place s in_all at_once items b
    times = stands.places.times rest parts

    -- ---- where it is

    abbrev Goal : Type 0
    Goal = (((is_handed place earlier || not (has_joined first s.conn)) || was_lost earlier s.conn) || cut_by items s.conn) ≡ true

    goal_handed : is_handed place earlier ≡ true → Goal
    goal_handed is = or_first ((is_handed place earlier || not (has_joined first s.conn)) || was_lost earlier s.conn) (cut_by items s.conn) (or_first (is_handed place earlier || not (has_joined first s.conn)) (was_lost earlier s.conn) (or_first (is_handed place earlier) (not (has_joined first s.conn)) is))

    goal_lost : was_lost earlier s.conn ≡ true → Goal
    goal_lost is = or_first ((is_handed place earlier || not (has_joined first s.conn)) || was_lost earlier s.conn) (cut_by items s.conn) (or_second (is_handed place earlier || not (has_joined first s.conn)) (was_lost earlier s.conn) is)

    goal_cut : cut_by items s.conn ≡ true → Goal
    goal_cut is = or_second ((is_handed place earlier || not (has_joined first s.conn)) || was_lost earlier s.conn) (cut_by items s.conn) is

    module _ (m : Link) (found : find_link s.conn b.links ≡ Some m) where
      at : m.conn ≡ s.conn
      at = found-conn s.conn b.links m found

      shows : LinkShows earlier m
      shows = each-first_of (LinkShows earlier) (λ (l : Link). l.conn == s.conn) b.links m found stands.joins.arrive.shows.links

      joined_here : m.joined ≡ true
      joined_here = shows.joined ∙ ap (has_joined earlier) at ∙ stands.joined

      mark : Marked (conns_of (opened o).links) (closed_by items) (cut_by items) m
      mark = each-first_of (Marked (conns_of (opened o).links) (closed_by items) (cut_by items)) (λ (l : Link). l.conn == s.conn) b.links m found stands.joins.arrive.marks.marks

      handed_here : list_any (λ (g : Handed). It g.out) m.handed ≡ true → Goal
      handed_here some =
          goal_handed
          (on_handed (λ (g : Handed). It g.out) (λ (g : Handed). elim (g.out.sent) [ Some k ↦ k == place | None ↦ false ]) s.conn (handed_in earlier) (λ g it. and_first (is_at place g.out) g.out.takes (and_first (is_at place g.out && g.out.takes) _ it))
          (ap (list_any (λ (g : Handed). It g.out)) (sym (shows.handed ∙ ap (λ k. handed_on k earlier) at)) ∙ some))

      lost_here : m.lost ≡ true → Goal
      lost_here is = goal_lost (ap (was_lost earlier) (sym at) ∙ sym shows.lost ∙ is)

      waits_here : list_any It m.queue ≡ true → Goal
      waits_here some = by_lost m.lost refl
        where
          by_lost : (v : Bool) → m.lost ≡ v → Goal
          by_lost true is = lost_here is
          by_lost false is = absurd (none_waits b stands.joins.arrive times n m found is some)

      cut_here : m.cut ≡ true → Goal
      cut_here is = goal_cut (ap (cut_by items) (sym at) ∙ sym mark.cut ∙ is)

      here : is_here o place s m ≡ true → Goal
      here is = by_handed (list_any (λ (g : Handed). It g.out) m.handed) refl (list_any It m.queue) refl m.lost refl m.cut refl (ap (λ v. (list_any (λ (g : Handed). It g.out) m.handed || list_any It m.queue) || not ((v && not m.lost) && not m.cut)) (sym joined_here) ∙ is)
        where
          by_handed : (u : Bool) → list_any (λ (g : Handed). It g.out) m.handed ≡ u → (v : Bool) → list_any It m.queue ≡ v → (w : Bool) → m.lost ≡ w → (x : Bool) → m.cut ≡ x → ((u || v) || not (not w && not x)) ≡ true → Goal
          by_handed true e v f w g x i k = handed_here e
          by_handed false e true f w g x i k = waits_here f
          by_handed false e false f true g x i k = lost_here g
          by_handed false e false f false g true i k = cut_here i
          by_handed false e false f false g false i k = absurd (false≢true k)

    goes_first : Goal
    goes_first =
        let link = find_known s.conn b.links (ap (list_any (λ k. k == s.conn)) stands.joins.arrive.marks.conns ∙ stands.joins.known stands.joined) in
        here link.0 link.1 (stands.places.here rest parts (nth_low place (firsts items) s in_items) s.conn link.0 link.1 (found-conn s.conn b.links link.0 link.1))

pub fence_first : (o : Opening) (calls : List Call) → FollowsSession o calls → FenceFirst o (deeds_of o calls)
fence_first o calls follows earlier since after answer c h place behind s whole shown fenced sent less unsent nth_is at_once = by_joined (has_joined earlier s.conn) refl
  where
    all : List Deed
    all = earlier ++ since

    goal : Bool → Type 0
    goal v = (((is_handed place all || not v) || was_lost all s.conn) || cut_by (items_in all) s.conn) ≡ true

    by_joined : (v : Bool) → has_joined earlier s.conn ≡ v → goal v
    by_joined false is = or_first ((is_handed place all || true) || was_lost all s.conn) (cut_by (items_in all) s.conn) (or_first (is_handed place all || true) (was_lost all s.conn) (or_second (is_handed place all) true refl))
    by_joined true is =
        let m = moment o calls follows earlier since all after refl answer c h place behind s whole shown fenced sent less nth_is unsent at_once is in
        subst goal is (goes_first o calls follows earlier since all after refl answer c h place behind s whole shown fenced sent less nth_is unsent at_once m.0 m.1 m.2)
