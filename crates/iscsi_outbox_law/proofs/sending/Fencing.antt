-- The first PDU of a connection passes the fence in both.
use Rattle.std.proofs.Common.{◌≡◌, ℕ, zero, suc, ◌+◌, ◌<◌, ◌==◌, ◌&&◌, ◌||◌, not, cond, nat_lt, Bool, true, false, List, [], ◌∷◌, length, drop, filter, count_by, Option, Some, None, refl, ap, sym, subst, ◌∙◌, arith, le-ltb}
use Rattle.std.specs.List.{list_any}
use Rattle.std.proofs.lemmas.Bool.{or_parts}
use Rattle.std.proofs.lemmas.List.Sums.{sum_by-cons}
use Rattle.iscsi_rules.specs.rules.Settings.{are_distinct}
use Rattle.iscsi_arrivals.specs.declared.stamp.Stamp.{Stamp}
use Rattle.iscsi_arrivals.specs.Counts.{Counts, has_arrived_by, is_busy_by, is_open_by}
use Rattle.iscsi_arrivals.specs.Standing.{StandsFor}
use Rattle.iscsi_arrivals.proofs.LastLemmas.{last_unarrived}
use Rattle.iscsi_arrivals.proofs.SinceLemmas.{arrived_is, busy_is}
use Rattle.iscsi_arrivals.proofs.StandingLemmas.{open_is}
use Rattle.iscsi_fences.specs.Passing.{Among, any_waits, count_waits, fenced_before, is_busy_on, is_fence_out, takes_before}
use Rattle.iscsi_fences.proofs.PassingLemmas.{fence_parts, others_busy, same_waits, waits_elsewhere}
use Rattle.iscsi_outbox_rules.specs.rules.Calls.{Opening}
use Rattle.iscsi_outbox_rules.specs.rules.Boxes.{Outgoing, Link, Box}
use Rattle.iscsi_outbox_rules.specs.rules.Words.{is_open, looks_for_arrival, unarrived}
use Rattle.iscsi_outbox_rules.specs.rules.Handing.{fenced_handed, others, passes_fence}
use Rattle.iscsi_outbox_rules.specs.rules.Run.{new_link}
use Rattle.iscsi_outbox_state.specs.Waits.{Entry, any_in, count_in, is_fenced_before, is_taking_before, queue_at}
use Rattle.iscsi_outbox_steps.specs.declared.sent.Sent.{Sent}
use Rattle.iscsi_outbox_steps.specs.State.{State, Limits, is_busy_elsewhere, is_fence_elsewhere, link_at, looks, passes}
use Rattle.iscsi_outbox_law.specs.private.Pairs.{EachOf, InOrder}
use Rattle.iscsi_outbox_law.specs.private.Links.{IsEntry, IsQueue}
use Rattle.iscsi_outbox_law.specs.private.Commands.{is_under_way, link_in}
use Rattle.iscsi_outbox_law.specs.private.Fences.{IsFence, IsLastFence}
use Rattle.iscsi_outbox_law.specs.private.Stands.{Stands}
use Rattle.iscsi_outbox_law.specs.private.Sound.{IsLinkSound, IsSound}
use Rattle.iscsi_outbox_law.proofs.general.PairLemmas.{each-at, each-weaken, pairs-at, pairs-count}
use Rattle.iscsi_outbox_law.proofs.general.PlaceLemmas.{AreApart, conns_of, none_of_any, only_at, other_first, same_conn}
use Rattle.iscsi_outbox_law.proofs.connections.Standing.{counts_at, links_apart}
use Rattle.iscsi_outbox_law.proofs.queues.Waiting.{queue_counted, queues_any, queues_counted}

-- ---- among others

any_conns : (cid : ℕ) (links : List Link) → list_any (λ (m : Link). m.conn == cid) links ≡ list_any (λ k. k == cid) (conns_of links)
any_conns cid [] = refl
any_conns cid (l ∷ links) = ap (λ (v : Bool). (l.conn == cid) || v) (any_conns cid links)

pub among : (links : List Link) (p : ℕ) → AreApart (conns_of links) → p < length links → Among (link_in links p) links
among [] p apart lt = absurd (omega (arith, lt))
among (l ∷ links) zero apart lt = record { before = []; after = links; whole = refl; apart_before = refl; apart_after = any_conns l.conn links ∙ apart.0 }
among (l ∷ links) (suc p) apart lt =
    let rest : Among (link_in links p) links = among links p apart.1 (omega (arith, lt)) in
    record {
      before = l ∷ rest.before;
      after = rest.after;
      whole = ap (λ ls. l ∷ ls) rest.whole;
      apart_before = ap (λ (v : Bool). v || list_any (λ (m : Link). m.conn == (link_in links p).conn) rest.before) (other_first l links (link_in links p).conn p apart (omega (arith, lt)) refl) ∙ rest.apart_before;
      apart_after = rest.apart_after;
    }

pub open_any : (test : Outgoing → Bool) (links : List Link) → EachOf (λ (l : Link). is_open l ≡ false → l.queue ≡ []) links → any_waits test (filter is_open links) ≡ any_waits test links
open_any test [] idle = refl
open_any test (l ∷ links) idle =
    let rest = open_any test links idle.1 in
    elim (is_open l) as (λ v. (v ≡ false → l.queue ≡ []) → any_waits test (cond v (l ∷ filter is_open links) (filter is_open links)) ≡ (list_any test l.queue || any_waits test links)) [
      | true ↦ λ none. ap (λ (v : Bool). list_any test l.queue || v) rest
      | false ↦ λ none. rest ∙ sym (ap (λ (q : List Outgoing). list_any test q || any_waits test links) (none refl))
    ] idle.0

pub open_count : (test : Outgoing → Bool) (links : List Link) → EachOf (λ (l : Link). is_open l ≡ false → l.queue ≡ []) links → count_waits test (filter is_open links) ≡ count_waits test links
open_count test [] idle = refl
open_count test (l ∷ links) idle =
    let rest = open_count test links idle.1 in
    let counted : Link → ℕ = λ m. count_by test m.queue in
    elim (is_open l) as (λ v. (v ≡ false → l.queue ≡ []) → count_waits test (cond v (l ∷ filter is_open links) (filter is_open links)) ≡ count_waits test (l ∷ links)) [
      | true ↦ λ none. sum_by-cons (λ (m : Link). count_by test m.queue) l (filter is_open links) ∙ ap (λ n. count_by test l.queue + n) rest ∙ sym (sum_by-cons (λ (m : Link). count_by test m.queue) l links)
      | false ↦ λ none.
          rest ∙ (let z : count_waits test links ≡ count_by test l.queue + count_waits test links = omega (arith, ap (λ (q : List Outgoing). count_by test q) (none refl)) in z)
          ∙ sym (sum_by-cons (λ (m : Link). count_by test m.queue) l links)
    ] idle.0

-- ---- lists

any_filter : {A : Type 0} (p q : A → Bool) (xs : List A) → list_any q (filter p xs) ≡ list_any (λ x. p x && q x) xs
any_filter p q [] = refl
any_filter p q (x ∷ xs) =
    let rest = any_filter p q xs in
    elim (p x) as (λ v. list_any q (cond v (x ∷ filter p xs) (filter p xs)) ≡ ((v && q x) || list_any (λ y. p y && q y) xs)) [
      | true ↦ ap (λ (v : Bool). q x || v) rest
      | false ↦ rest
    ]

pub any_drop : {A : Type 0} (p : A → Bool) (n : ℕ) (xs : List A) → list_any p xs ≡ false → list_any p (drop n xs) ≡ false
any_drop p zero xs none = none
any_drop p (suc n) [] none = refl
any_drop p (suc n) (x ∷ xs) none = any_drop p n xs (or_parts (p x) (list_any p xs) none).1

none_earlier : (test : Outgoing → Bool) (time : ℕ) (outs : List Outgoing) → EachOf (λ (y : Outgoing). time < y.time) outs → list_any (λ (x : Outgoing). test x && nat_lt x.time time) outs ≡ false
none_earlier test time [] later = refl
none_earlier test time (x ∷ outs) later =
    ap (λ (v : Bool). (test x && v) || list_any (λ (y : Outgoing). test y && nat_lt y.time time) outs) (le-ltb x.time time (omega (arith, later.0)))
    ∙ ap (λ (v : Bool). v || list_any (λ (y : Outgoing). test y && nat_lt y.time time) outs) (no_and (test x)) ∙ none_earlier test time outs later.1
  where
    no_and : (v : Bool) → (v && false) ≡ false
    no_and true = refl
    no_and false = refl

none_before : (test : Outgoing → Bool) (out : Outgoing) (rest : List Outgoing) → EachOf (λ (y : Outgoing). out.time < y.time) rest
    → list_any (λ (x : Outgoing). test x && nat_lt x.time out.time) (out ∷ rest) ≡ false
none_before test out rest later =
    ap (λ (v : Bool). (test out && v) || list_any (λ (y : Outgoing). test y && nat_lt y.time out.time) rest) (le-ltb out.time out.time (omega arith))
    ∙ ap (λ (v : Bool). v || list_any (λ (y : Outgoing). test y && nat_lt y.time out.time) rest) (no_and (test out)) ∙ none_earlier test out.time rest later
  where
    no_and : (v : Bool) → (v && false) ≡ false
    no_and true = refl
    no_and false = refl

turned : (x y z : Bool) → (not x && (y && z)) ≡ ((y && not x) && z)
turned true true z = refl
turned true false z = refl
turned false true z = refl
turned false false z = refl

-- ---- the fence

module _ (o : Opening) (s : State) (b : Box) (h : Stands o s b) (sound : IsSound o b) (distinct : are_distinct o.session.conns ≡ true) where
  pub looks_is : looks s ≡ looks_for_arrival o
  looks_is = ap (λ (l : Limits). l.looks) h.sizes.limits

  pub apart : AreApart (conns_of b.links)
  apart = links_apart (is_under_way o b.links) o s b h distinct

  pub idle : EachOf (λ (l : Link). is_open l ≡ false → l.queue ≡ []) b.links
  idle = each-weaken (IsLinkSound o b.tasks) (λ (l : Link). is_open l ≡ false → l.queue ≡ []) b.links (λ l k. k.idle) sound.links

  module _ (p : ℕ) (within : p < length b.links) (opens : is_open (link_in b.links p) ≡ true) where
    abbrev l : Link
    l = link_in b.links p

    pub mine : Among (link_in b.links p) b.links
    mine = among b.links p apart within

    -- ---- what waits elsewhere

    waits_before : (test : Outgoing → Bool) (entry : Entry → Bool) (out : Outgoing) (rest : List Outgoing) → l.queue ≡ out ∷ rest
        → ((cid : ℕ) (e : Entry) (x : Outgoing) → IsEntry s.tracked cid e x → entry e ≡ (test x && nat_lt x.time out.time))
        → any_in entry s.waits ≡ any_waits (λ (x : Outgoing). test x && nat_lt x.time out.time) (others b l)
    waits_before test entry out rest first alike =
        let before : Outgoing → Bool = λ x. test x && nat_lt x.time out.time in
        let sl : IsLinkSound o b.tasks l = each-at (IsLinkSound o b.tasks) b.links p (new_link 0) within sound.links in
        let times : InOrder (λ (x y : Outgoing). x.time < y.time) (out ∷ rest) = subst (InOrder (λ (x y : Outgoing). x.time < y.time)) first sl.times in
        let none : list_any before l.queue ≡ false = ap (list_any before) first ∙ none_before test out rest times.0 in
        queues_any s.tracked entry before alike s.waits.queues b.links h.queues
        ∙ sym (open_any before b.links idle) ∙ sym (same_waits before b l mine opens none)

    pub counted_elsewhere : (test : Outgoing → Bool) (entry : Entry → Bool) → ((cid : ℕ) (e : Entry) (x : Outgoing) → IsEntry s.tracked cid e x → entry e ≡ test x)
        → nat_lt (count_by entry (queue_at s.waits p)) (count_in entry s.waits) ≡ any_waits test (others b l)
    counted_elsewhere test entry alike =
        ap (λ n. nat_lt n (count_in entry s.waits)) (queue_counted s.tracked entry test alike (queue_at s.waits p) l (pairs-at (IsQueue s.tracked) s.waits.queues b.links p [] (new_link 0) within h.queues))
        ∙ ap (nat_lt (count_by test l.queue)) (queues_counted s.tracked entry test alike s.waits.queues b.links h.queues ∙ sym (open_count test b.links idle))
        ∙ sym (waits_elsewhere test b l mine opens)

    -- ---- the last fenced answer

    elsewhere : Link → Bool
    elsewhere m = (is_open m && not (m.conn == (link_in b.links p).conn)) && list_any fenced_handed (unarrived m)

    out_elsewhere : is_fence_out (others b l) ≡ list_any elsewhere b.links
    unfolding elsewhere
    out_elsewhere = any_filter (λ (m : Link). is_open m && not (m.conn == (link_in b.links p).conn)) (λ (m : Link). list_any fenced_handed (unarrived m)) b.links

    no_fence : EachOf (λ (m : Link). list_any fenced_handed m.handed ≡ false) b.links → (n : ℕ) → n < length b.links → list_any fenced_handed (unarrived (link_in b.links n)) ≡ false
    no_fence none n lt = any_drop fenced_handed (link_in b.links n).arrived (link_in b.links n).handed (each-at (λ (m : Link). list_any fenced_handed m.handed ≡ false) b.links n (new_link 0) lt none)

    and_no : (v : Bool) → (v && false) ≡ false
    and_no true = refl
    and_no false = refl

    pub arrived_last : (f : Sent) (k : IsLastFence s.limits.looks b.links f)
        → (is_open_by (link_at s f.conn) && not (has_arrived_by f.stamp (link_at s f.conn))) ≡ (is_open (link_in b.links f.conn) && list_any fenced_handed (unarrived (link_in b.links f.conn)))
    arrived_last f k =
        let lf : Link = link_in b.links f.conn in
        let cf : Counts = link_at s f.conn in
        let st : StandsFor cf lf = counts_at (is_under_way o b.links) o s b h f.conn k.conn in
        ap (λ (v : Bool). v && not (has_arrived_by f.stamp cf)) (open_is cf lf st)
        ∙ ap (λ (stamp : Stamp). is_open lf && not (has_arrived_by stamp cf)) k.stamp
        ∙ ap (λ (v : Bool). is_open lf && not v) (arrived_is cf lf st k.place)
        ∙ ap (λ (v : Bool). is_open lf && v) (sym (last_unarrived fenced_handed lf k.place k.last))

    fence_elsewhere : (f : Option Sent) → s.limits.looks ≡ true → IsFence s.limits.looks b.links f
        → elim f [ Some g ↦ not (g.conn == p) && (is_open_by (link_at s g.conn) && not (has_arrived_by g.stamp (link_at s g.conn))) | None ↦ false ] ≡ is_fence_out (others b l)
    unfolding elsewhere
    fence_elsewhere None looking none =
        sym (out_elsewhere ∙ none_of_any elsewhere b.links (λ n lt. ap (λ (v : Bool). (is_open (link_in b.links n) && not ((link_in b.links n).conn == l.conn)) && v) (no_fence none n lt)
        ∙ and_no (is_open (link_in b.links n) && not ((link_in b.links n).conn == l.conn))))
    fence_elsewhere (Some f) looking k =
        ap (λ (v : Bool). not (f.conn == p) && v) (arrived_last f k)
        ∙ turned (f.conn == p) (is_open (link_in b.links f.conn)) (list_any fenced_handed (unarrived (link_in b.links f.conn)))
        ∙ ap (λ (v : Bool). (is_open (link_in b.links f.conn) && not v) && list_any fenced_handed (unarrived (link_in b.links f.conn))) (sym (same_conn b.links f.conn p apart k.conn within))
        ∙ sym (only_at elsewhere b.links f.conn k.conn (λ n lt other. none_there n lt other (is_open (link_in b.links n)) refl)) ∙ sym out_elsewhere
      where
        none_there : (n : ℕ) → n < length b.links → (n ≡ f.conn → ⊥) → (v : Bool) → is_open (link_in b.links n) ≡ v
            → ((v && not ((link_in b.links n).conn == l.conn)) && list_any fenced_handed (unarrived (link_in b.links n))) ≡ false
        none_there n lt other true is =
            ap (λ (v : Bool). not ((link_in b.links n).conn == l.conn) && v) (k.others looking n lt other is) ∙ and_no (not ((link_in b.links n).conn == l.conn))
        none_there n lt other false is = refl

    pub fence_out_is : (looks s && is_fence_elsewhere p s) ≡ (looks_for_arrival o && is_fence_out (others b l))
    fence_out_is = by_looks (looks s) refl ∙ ap (λ (v : Bool). v && is_fence_out (others b l)) looks_is
      where
        by_looks : (v : Bool) → looks s ≡ v → (v && is_fence_elsewhere p s) ≡ (v && is_fence_out (others b l))
        by_looks true is = fence_elsewhere (s.fence) is h.fence
        by_looks false is = refl

    -- ---- what is under way elsewhere

    busy_elsewhere : is_busy_elsewhere p s ≡ list_any (is_busy_on o) (others b l)
    busy_elsewhere =
        let busy_as : (c : Counts) (m : Link) → StandsFor c m → is_busy_by (looks s) c ≡ is_busy_on o m = λ c m st. ap (λ (v : Bool). is_busy_by v c) looks_is ∙ busy_is c m st o in
        ap (λ (v : Bool). nat_lt (cond v 1 0) (count_by (λ (c : Counts). is_busy_by (looks s) c) s.links)) (busy_as (link_at s p) l (counts_at (is_under_way o b.links) o s b h p within))
        ∙ ap (nat_lt (cond (is_busy_on o l) 1 0)) (pairs-count StandsFor (λ (c : Counts). is_busy_by (looks s) c) (is_busy_on o) s.links b.links busy_as h.links.each)
        ∙ sym (others_busy o b l mine)

    pub passes_is : (e : Entry) (out : Outgoing) (rest : List Outgoing) → l.queue ≡ out ∷ rest → IsEntry s.tracked l.conn e out
        → passes p (record { time = e.time; takes = e.item.takes; fenced = e.item.fenced }) s ≡ passes_fence o b l out
    passes_is e out rest first k =
        ap (λ (v : Bool). not v || ((not (any_in (is_fenced_before e.time) s.waits) && not (looks s && is_fence_elsewhere p s)) && (not e.item.fenced || (not (any_in (is_taking_before e.time) s.waits) && not (is_busy_elsewhere p s))))) k.takes
        ∙ ap (λ (v : Bool). not out.takes || ((not v && not (looks s && is_fence_elsewhere p s)) && (not e.item.fenced || (not (any_in (is_taking_before e.time) s.waits) && not (is_busy_elsewhere p s)))))
        (waits_before (λ (x : Outgoing). x.fenced) (is_fenced_before e.time) out rest first (λ cid f x kx. ap (λ (v : Bool). v && nat_lt f.time e.time) kx.fenced ∙ ap (λ n. x.fenced && nat_lt n e.time) kx.time ∙ ap (λ n. x.fenced && nat_lt x.time n) k.time))
        ∙ ap (λ (v : Bool). not out.takes || ((not (any_waits (fenced_before out.time) (others b l)) && not v) && (not e.item.fenced || (not (any_in (is_taking_before e.time) s.waits) && not (is_busy_elsewhere p s))))) fence_out_is
        ∙ ap (λ (v : Bool). not out.takes || ((not (any_waits (fenced_before out.time) (others b l)) && not (looks_for_arrival o && is_fence_out (others b l))) && (not v || (not (any_in (is_taking_before e.time) s.waits) && not (is_busy_elsewhere p s))))) k.fenced
        ∙ ap (λ (v : Bool). not out.takes || ((not (any_waits (fenced_before out.time) (others b l)) && not (looks_for_arrival o && is_fence_out (others b l))) && (not out.fenced || (not v && not (is_busy_elsewhere p s)))))
        (waits_before (λ (x : Outgoing). x.takes) (is_taking_before e.time) out rest first (λ cid f x kx. ap (λ (v : Bool). v && nat_lt f.time e.time) kx.takes ∙ ap (λ n. x.takes && nat_lt n e.time) kx.time ∙ ap (λ n. x.takes && nat_lt x.time n) k.time))
        ∙ ap (λ (v : Bool). not out.takes || ((not (any_waits (fenced_before out.time) (others b l)) && not (looks_for_arrival o && is_fence_out (others b l))) && (not out.fenced || (not (any_waits (takes_before out.time) (others b l)) && not v)))) busy_elsewhere
        ∙ sym (fence_parts o b l out)
