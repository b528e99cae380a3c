-- Of the answer to a function of several tasks and what takes a StatSN on another connection, the one that entered first goes first.
use Rattle.std.proofs.Common.{◌≡◌, ◌≢◌, ℕ, ◌⊎◌, inl, inr, ⊎_elim, ◌==◌, ◌&&◌, ◌||◌, ◌+◌, ◌<◌, ◌≤◌, not, cond, Bool, true, false, List, [], ◌∷◌, ◌++◌, map, filter, nat_lt, Some, refl, ap, sym, subst, ◌∙◌, arith, eq-eqb, ne_eqb, ltb-false}
use Rattle.std.specs.List.{list_any, list_all}
use Rattle.std.proofs.lemmas.Bool.{false≢true, cases_order, eqb-true, eqb-false}
use Rattle.std.proofs.lemmas.List.{append_assoc}
use Rattle.std.proofs.lemmas.List.Folds.{list_any-append}
use Rattle.iscsi_rules.proofs.general.BoolLemmas.{and_parts, and_both, not_true, or_none}
use Rattle.iscsi_rules.specs.declared.effect.Effect.{Effect}
use Rattle.iscsi_outbox_rules.specs.rules.Calls.{Opening, Call}
use Rattle.iscsi_outbox_rules.specs.rules.Boxes.{Outgoing, Handed, Link, Box}
use Rattle.iscsi_outbox_rules.specs.rules.Words.{is_open, looks_for_arrival, unarrived, under_way}
use Rattle.iscsi_outbox_rules.specs.rules.Handing.{takes_handed, fenced_handed, lets_pass, is_clear}
use Rattle.iscsi_outbox_rules.specs.rules.Run.{new_link, opened, after_call, after_calls}
use Rattle.iscsi_outbox_rules.specs.promises.Deeds.{Deed, deeds_of, handed_in_deed, items_in, is_lose_of, was_lost, FollowsSession}
use Rattle.iscsi_outbox_rules.specs.promises.Fence.{is_fenced, FenceInOrder}
use Rattle.iscsi_outbox_rules.proofs.general.EachLemmas.{EachOf, each-first_of, each-weaken}
use Rattle.iscsi_outbox_rules.proofs.general.Cuts.{Cut, cut, keeps, Handing, handed-next}
use Rattle.iscsi_outbox_rules.proofs.general.Chosen.{FromQueue, IsPing, IsNotice, Chosen, chosen_from}
use Rattle.iscsi_outbox_rules.proofs.general.FoundLemmas.{found-conn}
use Rattle.iscsi_outbox_rules.proofs.general.LinkRuns.{LinkShows, link_starts}
use Rattle.iscsi_outbox_rules.proofs.numbers.NumberTheorem.{BoxShows, box_shows, none_lost}
use Rattle.iscsi_outbox_rules.proofs.general.ConnLemmas.{conns_of}
use Rattle.iscsi_outbox_rules.proofs.closes.MarkRuns.{Marked, closed_by, cut_by}
use Rattle.iscsi_outbox_rules.proofs.closes.MarkItems.{MarksStand}
use Rattle.iscsi_outbox_rules.proofs.closes.MarkCalls.{marks_kept, marks_start}
use Rattle.iscsi_outbox_rules.proofs.fences.FenceEntries.{Entrywise, Entries, entries_kept}
use Rattle.iscsi_outbox_rules.proofs.fences.FenceTheorem.{LetsAllPass, all_pass, either_way, went_fenced}

-- ---- each entry has a moment of its own

-- the moment is past, and was of this connection
pub record Owned (owner : ℕ → ℕ) (now conn : ℕ) (x : Outgoing) : Type 0 where
  pub past : x.time < now
  pub owned : owner x.time ≡ conn

abbrev with_owner : (ℕ → ℕ) → ℕ → ℕ → ℕ → ℕ
with_owner owner now conn t = cond (t == now) conn (owner t)

owned_wise : Entrywise (ℕ → ℕ) (λ n. Unit {0}) Owned
owned_wise = record {
  step = with_owner;
  later = λ n k. tt;
  stays = λ owner n conn into x k. record {
    past = (let z : x.time < n + 1 = omega (arith, k.past) in z);
    owned = ap (λ v. cond v into (owner x.time)) (ne_eqb x.time n (λ same. omega (arith, k.past, same))) ∙ k.owned;
  };
  enters = λ owner n conn x k is. record {
    past = (let z : x.time < n + 1 = omega (arith, is) in z);
    owned = ap (λ v. cond v conn (owner x.time)) (eq-eqb x.time n is);
  };
}

abbrev OwnedBox : Opening → Box → Type 0
OwnedBox o b = Entries (ℕ → ℕ) (λ n. Unit {0}) Owned owned_wise o b

owned_start : (o : Opening) → OwnedBox o (opened o)
owned_start o = record { state = λ t. 0; now = tt; links = starts o.session.conns }
  where
    starts : (xs : List (ℕ × ℕ)) → EachOf (λ (l : Link). EachOf (Owned (λ t. 0) 0 l.conn) l.queue) (map (λ (x : ℕ × ℕ). new_link x.0) xs)
    starts [] = tt
    starts (x ∷ xs) = (tt, starts xs)

-- ---- what goes behind a PDU

-- on a connection each entry that takes a StatSN, where one of the two is fenced, entered after it
abbrev Behind : Outgoing → ℕ → Unit {0} → ℕ → ℕ → Outgoing → Type 0
Behind h d s now conn x = conn ≡ d → x.takes ≡ true → (h.fenced ≡ true) ⊎ (x.fenced ≡ true) → h.time < x.time

behind_wise : (h : Outgoing) (d : ℕ) → Entrywise (Unit {0}) (λ n. h.time < n) (Behind h d)
behind_wise h d = record {
  step = λ s n conn. tt;
  later = λ n k. (let z : h.time < n + 1 = omega (arith, k) in z);
  stays = λ s n conn into x k. k;
  enters = λ s n conn x k is on takes fenced. subst (λ m. h.time < m) (sym is) k;
}

each_none : {A : Type 0} (p : A → Bool) (xs : List A) → list_any p xs ≡ false → EachOf (λ x. p x ≡ false) xs
each_none p [] h = tt
each_none p (x ∷ xs) h = let parts = or_none (p x) (list_any p xs) h in (parts.0, each_none p xs parts.1)

-- an entry that isn't before it, and is of another connection
after_it : (owner : ℕ → ℕ) (now c d : ℕ) (h x : Outgoing) → d ≢ c → Owned owner now c h → Owned owner now d x → nat_lt x.time h.time ≡ false → h.time < x.time
after_it owner now c d h x apart first second low =
    ⊎_elim (λ same. absurd (apart (sym second.owned ∙ ap owner (sym same) ∙ first.owned))) (λ either. ⊎_elim (λ less. less) (λ more. absurd (let up : h.time ≤ x.time = ltb-false x.time h.time low in omega (arith, up, more))) either)
    (cases_order h.time x.time)

queue_behind : (owner : ℕ → ℕ) (now c d conn : ℕ) (h : Outgoing) → d ≢ c → conn ≡ d → Owned owner now c h → (queue : List Outgoing) → EachOf (Owned owner now conn) queue
    → list_any (λ (y : Outgoing). y.fenced && nat_lt y.time h.time) queue ≡ false → (h.fenced ≡ true → list_any (λ (y : Outgoing). y.takes && nat_lt y.time h.time) queue ≡ false) → EachOf (Behind h d tt now conn) queue
queue_behind owner now c d conn h apart at mine [] owned fenced clear = tt
queue_behind owner now c d conn h apart at mine (x ∷ queue) owned fenced clear =
    let here = or_none (x.fenced && nat_lt x.time h.time) (list_any (λ (y : Outgoing). y.fenced && nat_lt y.time h.time) queue) fenced in (
      (λ on takes either.
          let its : Owned owner now d x = subst (λ k. Owned owner now k x) at owned.0 in
          ⊎_elim
          (λ is. after_it owner now c d h x apart mine its (passed x.takes (nat_lt x.time h.time) takes (or_none (x.takes && nat_lt x.time h.time) (list_any (λ (y : Outgoing). y.takes && nat_lt y.time h.time) queue) (clear is)).0))
          (λ is. after_it owner now c d h x apart mine its (passed x.fenced (nat_lt x.time h.time) is here.0)) either),
      queue_behind owner now c d conn h apart at mine queue owned.1 here.1 (λ is. (or_none (x.takes && nat_lt x.time h.time) (list_any (λ (y : Outgoing). y.takes && nat_lt y.time h.time) queue) (clear is)).1),
    )
  where
    passed : (v w : Bool) → v ≡ true → (v && w) ≡ false → w ≡ false
    passed true w is k = k
    passed false w is k = absurd (false≢true is)

-- where a connection hasn't joined nothing waits
abbrev Idle : Link → Type 0
Idle l = l.joined ≡ false → l.queue ≡ []

-- the connections with this CID, which weren't lost
links_behind : (o : Opening) (ds : List Deed) (owner : ℕ → ℕ) (now c d : ℕ) (h : Outgoing) (conn : ℕ) → d ≢ c → conn ≡ c → was_lost ds d ≡ false → Owned owner now c h → (links : List Link)
    → list_all (λ k. lets_pass o h k && (not h.fenced || is_clear o h k)) (filter (λ k. is_open k && not (k.conn == conn)) links) ≡ true → EachOf (LinkShows ds) links → EachOf Idle links
    → EachOf (λ (l : Link). EachOf (Owned owner now l.conn) l.queue) links
    → EachOf (λ (l : Link). EachOf (Behind h d tt now l.conn) l.queue) links
links_behind o ds owner now c d h conn apart at unlost mine [] all shows idle owned = tt
links_behind o ds owner now c d h conn apart at unlost mine (m ∷ links) all shows idle owned = (
  by_conn (m.conn == d) refl,
  links_behind o ds owner now c d h conn apart at unlost mine links (rest (is_open m && not (m.conn == conn)) all) shows.1 idle.1 owned.1,
)
  where
    p : Link → Bool
    p k = is_open k && not (k.conn == conn)

    q : Link → Bool
    q k = lets_pass o h k && (not h.fenced || is_clear o h k)

    rest : (v : Bool) → list_all q (cond v (m ∷ filter p links) (filter p links)) ≡ true → list_all q (filter p links) ≡ true
    rest true each = (and_parts (q m) (list_all q (filter p links)) each).1
    rest false each = each

    first : (v : Bool) → v ≡ true → list_all q (cond v (m ∷ filter p links) (filter p links)) ≡ true → q m ≡ true
    first true passes each = (and_parts (q m) (list_all q (filter p links)) each).0
    first false passes each = absurd (false≢true passes)

    elsewhere : (queue : List Outgoing) → (m.conn ≡ d → ⊥) → EachOf (Behind h d tt now m.conn) queue
    elsewhere [] isnt = tt
    elsewhere (x ∷ queue) isnt = ((λ on takes either. absurd (isnt on)), elsewhere queue isnt)

    here : m.conn ≡ d → m.joined ≡ true → EachOf (Behind h d tt now m.conn) m.queue
    here is joined =
        let opens : is_open m ≡ true = and_both m.joined (not m.lost) joined (ap (λ v. not v) (shows.0.lost ∙ ap (was_lost ds) is ∙ unlost)) in
        let other : not (m.conn == conn) ≡ true = ap (λ v. not v) (ne_eqb m.conn conn (λ same. apart (sym is ∙ same ∙ at))) in
        let passes : q m ≡ true = first (p m) (and_both (is_open m) (not (m.conn == conn)) opens other) all in
        let parts = and_parts (lets_pass o h m) (not h.fenced || is_clear o h m) passes in
        let fence = and_parts (not (list_any (λ (y : Outgoing). y.fenced && nat_lt y.time h.time) m.queue)) (not (looks_for_arrival o && list_any fenced_handed (unarrived m))) parts.0 in
        queue_behind owner now c d m.conn h apart is mine m.queue owned.0 (not_true (list_any (λ (y : Outgoing). y.fenced && nat_lt y.time h.time) m.queue) fence.0)
        (λ fenced. not_true (list_any (λ (y : Outgoing). y.takes && nat_lt y.time h.time) m.queue)
        (and_parts (not (list_any (λ (y : Outgoing). y.takes && nat_lt y.time h.time) m.queue)) (not (list_any takes_handed (under_way o m))) (either_way h.fenced (is_clear o h m) fenced parts.1)).0)

    by_joined : (v : Bool) → m.joined ≡ v → m.conn ≡ d → EachOf (Behind h d tt now m.conn) m.queue
    by_joined true joined is = here is joined
    by_joined false unjoined is = subst (EachOf (Behind h d tt now m.conn)) (sym (idle.0 unjoined)) tt

    by_conn : (v : Bool) → (m.conn == d) ≡ v → EachOf (Behind h d tt now m.conn) m.queue
    by_conn true is = by_joined m.joined refl (eqb-true m.conn d is)
    by_conn false is = elsewhere m.queue (λ same. eqb-false m.conn d is same)

-- ---- the theorem

module _ (o : Opening) (calls : List Call) (follows : FollowsSession o calls) (earlier since after : List Deed) (handing later : Deed) (c d : ℕ) (h g : Handed) (whole : earlier ++ handing ∷ (since ++ later ∷ after) ≡ deeds_of o calls)
    (shown : handed_in_deed handing ≡ Some (c, h)) (shown_later : handed_in_deed later ≡ Some (d, g)) where
  abbrev ds : List Deed
  ds = earlier ++ handing ∷ since

  whole' : ds ++ later ∷ after ≡ deeds_of o calls
  whole' = append_assoc earlier (handing ∷ since) (later ∷ after) ∙ whole

  fenced_either : (is_fenced o (items_in earlier) h || is_fenced o (items_in ds) g) ≡ true → (h.out.fenced ≡ true) ⊎ (g.out.fenced ≡ true)
  fenced_either is = by_first (is_fenced o (items_in earlier) h) refl is
    where
      by_first : (v : Bool) → is_fenced o (items_in earlier) h ≡ v → (v || is_fenced o (items_in ds) g) ≡ true → (h.out.fenced ≡ true) ⊎ (g.out.fenced ≡ true)
      by_first true first either = inl (went_fenced o calls follows earlier (since ++ later ∷ after) handing c h whole shown first).0
      by_first false first either = inr (went_fenced o calls follows ds after later d g whole' shown_later either).0

  unlost : was_lost earlier d ≡ false
  unlost = (or_none (was_lost earlier d) (was_lost (handing ∷ since) d) (sym (list_any-append (λ (e : Deed). is_lose_of d e.0) earlier (handing ∷ since)) ∙ none_lost o calls ds after later d g whole' shown_later)).0

  -- what waits first on the connection that hands it out
  from_queue : (b : Box) (conn : ℕ) (k : Handed) → k.out.takes ≡ true → (n : Handing o b conn k) → (P : Outgoing → Type 0) → EachOf P n.link.queue → P k.out
  from_queue b conn k takes n P each =
      let out : n.out ≡ k.out = sym (ap (λ (x : Handed). x.out) n.is) in
      let taking : n.out.takes ≡ true = ap (λ (x : Outgoing). x.takes) out ∙ takes in
      subst P out
      (⊎_elim (λ (q : FromQueue o b n.link n.out). (subst (EachOf P) q.queue_is each).0)
      (⊎_elim (λ (p : IsPing o b n.link n.out). absurd (false≢true (sym (ap (λ (x : Outgoing). x.takes) p.is) ∙ taking))) (λ (p : IsNotice o b n.link n.out). absurd (false≢true (sym (ap (λ (x : Outgoing). x.takes) p.is) ∙ taking))))
      (chosen_from o b n.link n.out n.chosen_is).source)

  in_order : d ≢ c → h.out.takes ≡ true → g.out.takes ≡ true → (is_fenced o (items_in earlier) h || is_fenced o (items_in ds) g) ≡ true → h.out.time < g.out.time
  in_order apart takes takes_later fenced =
      from_queue b₂ d g takes_later n₂ (Behind h.out d tt b₂.time n₂.link.conn) behind₂ (found-conn d b₂.links n₂.link n₂.found) takes_later (fenced_either fenced)
    where
      k₁ : Cut o (opened o) calls earlier handing (since ++ later ∷ after)
      k₁ = cut o (opened o) calls earlier handing (since ++ later ∷ after) whole

      b₁ : Box
      b₁ = after_calls o (opened o) k₁.first

      b₁' : Box
      b₁' = after_call o b₁ k₁.call

      k₂ : Cut o b₁' k₁.rest since later after
      k₂ = cut o b₁' k₁.rest since later after k₁.after_is

      b₂ : Box
      b₂ = after_calls o b₁' k₂.first

      n₁ : Handing o b₁ c h
      n₁ = (handed-next o b₁ k₁.call c h (ap handed_in_deed (sym k₁.deed_is) ∙ shown)).1

      n₂ : Handing o b₂ d g
      n₂ = (handed-next o b₂ k₂.call d g (ap handed_in_deed (sym k₂.deed_is) ∙ shown_later)).1

      at₁ : n₁.link.conn ≡ c
      at₁ = found-conn c b₁.links n₁.link n₁.found

      shows₁ : BoxShows earlier b₁
      shows₁ = subst (λ es. BoxShows es b₁) (sym k₁.before_is) (keeps o BoxShows (box_shows o) [] (opened o) k₁.first (link_starts o))

      marks₁ : MarksStand (conns_of (opened o).links) (items_in (deeds_of o k₁.first)) b₁
      marks₁ = keeps o (λ es b. MarksStand (conns_of (opened o).links) (items_in es) b) (marks_kept o (conns_of (opened o).links)) [] (opened o) k₁.first (marks_start o)

      idle₁ : EachOf Idle b₁.links
      idle₁ =
          let items : List (List Effect) = items_in (deeds_of o k₁.first) in
          each-weaken (Marked (conns_of (opened o).links) (closed_by items) (cut_by items)) Idle b₁.links (λ l m. m.idle) marks₁.marks

      owned₁ : OwnedBox o b₁
      owned₁ = keeps o (λ es b. OwnedBox o b) (λ es b call k. entries_kept (ℕ → ℕ) (λ n. Unit {0}) Owned owned_wise o b call k) [] (opened o) k₁.first (owned_start o)

      mine : Owned owned₁.state b₁.time c h.out
      mine =
          subst (λ k. Owned owned₁.state b₁.time k h.out) at₁
          (from_queue b₁ c h takes n₁ (Owned owned₁.state b₁.time n₁.link.conn) (each-first_of (λ (l : Link). EachOf (Owned owned₁.state b₁.time l.conn) l.queue) (λ (l : Link). l.conn == c) b₁.links n₁.link n₁.found owned₁.links))

      passes : LetsAllPass o b₁ n₁.link h.out
      passes =
          let out : n₁.out ≡ h.out = sym (ap (λ (x : Handed). x.out) n₁.is) in
          all_pass o b₁ n₁.link h.out takes (subst (Chosen o b₁ n₁.link) out (chosen_from o b₁ n₁.link n₁.out n₁.chosen_is))

      BehindBox : Box → Type 0
      BehindBox b = Entries (Unit {0}) (λ n. h.out.time < n) (Behind h.out d) (behind_wise h.out d) o b

      kept : (b : Box) (call : Call) → BehindBox b → BehindBox (after_call o b call)
      kept b call k = entries_kept (Unit {0}) (λ n. h.out.time < n) (Behind h.out d) (behind_wise h.out d) o b call k

      start : BehindBox b₁
      start = record {
        state = tt;
        now = mine.past;
        links = links_behind o earlier owned₁.state b₁.time c d h.out n₁.link.conn apart at₁ unlost mine b₁.links passes shows₁.links idle₁ owned₁.links;
      }

      later₂ : BehindBox b₂
      later₂ = keeps o (λ es b. BehindBox b) (λ es b call k. kept b call k) [] b₁' k₂.first (kept b₁ k₁.call start)

      behind₂ : EachOf (Behind h.out d tt b₂.time n₂.link.conn) n₂.link.queue
      behind₂ = each-first_of (λ (l : Link). EachOf (Behind h.out d tt b₂.time l.conn) l.queue) (λ (l : Link). l.conn == d) b₂.links n₂.link n₂.found later₂.links

pub fence_in_order : (o : Opening) (calls : List Call) → FollowsSession o calls → FenceInOrder o (deeds_of o calls)
fence_in_order o calls follows earlier since after handing later c d h g whole shown shown_later apart takes takes_later fenced =
    in_order o calls follows earlier since after handing later c d h g whole shown shown_later apart takes takes_later fenced
