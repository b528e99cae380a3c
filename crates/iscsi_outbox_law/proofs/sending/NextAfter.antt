-- The state after the next PDU was asked for stands for the box after it.
use Rattle.std.proofs.Common.{◌≡◌, ℕ, ◌<◌, ◌==◌, ◌&&◌, ◌||◌, ◌^◌, ⊎_elim, not, cond, nat_lt, Bool, true, false, List, [], ◌∷◌, ◌++◌, length, drop, set, Option, Some, None, refl, ap, sym, subst, ◌∙◌, arith, ne_eqb}
use Rattle.std.specs.List.{list_all, list_any}
use Rattle.std.proofs.lemmas.Bool.{and_from, and_parts, eq-eqb, not-true}
use Rattle.std.proofs.lemmas.List.{get_or-set_other, get_or-set_same, length-set, set-get_or}
use Rattle.iscsi_rules.specs.rules.Settings.{are_distinct}
use Rattle.iscsi_arrivals.specs.declared.stamp.Stamp.{Stamp}
use Rattle.iscsi_arrivals.specs.Counts.{Counts, handed_by, pinged_by, stamp_by}
use Rattle.iscsi_arrivals.specs.Stamps.{handed_out as handed_out_on, stamp_at}
use Rattle.iscsi_arrivals.specs.Standing.{StandsFor}
use Rattle.iscsi_arrivals.proofs.SinceLemmas.{asking_is, stamp_is}
use Rattle.iscsi_arrivals.proofs.StandingLemmas.{stands_handed, stands_pinged}
use Rattle.iscsi_outbox_rules.specs.rules.Calls.{Opening}
use Rattle.iscsi_outbox_rules.specs.rules.Boxes.{Pdu, Replies, Owns, Pings, Notices, Handed, Outgoing, Link, Box}
use Rattle.iscsi_outbox_rules.specs.rules.Words.{contains, is_open, looks_for_arrival, max_shown, unarrived}
use Rattle.iscsi_outbox_rules.specs.rules.Queues.{at_link}
use Rattle.iscsi_outbox_rules.specs.rules.Handing.{Given as RulesGiven, Hands as RulesHands, Nothing as RulesNothing, IsOver as RulesIsOver, after_given, chosen as chosen_by_rules, fenced_handed, first_waiting, given_on as given_on_by_rules, handed_as, is_asked_for, is_behind_logout, is_clear, is_over, is_ping, lets_pass, nop_in, others, ping, wants_ping, without_chosen, is_from_queue}
use Rattle.iscsi_outbox_rules.specs.rules.Run.{after_next, new_link}
use Rattle.iscsi_outbox_state.specs.declared.waiting.Content.{Content}
use Rattle.iscsi_outbox_state.specs.declared.waiting.Content.TheVariants.{Reply as IsReply, Own as IsOwn}
use Rattle.iscsi_outbox_state.specs.declared.waiting.Waiting.{Waiting}
use Rattle.iscsi_outbox_state.specs.Waits.{queue_at}
use Rattle.iscsi_outbox_steps.specs.declared.sent.Sent.{Sent}
use Rattle.iscsi_outbox_steps.specs.State.{State, link_at, max_shown as max_shown_steps, place_of, with_link}
use Rattle.iscsi_outbox_steps.specs.Steps.{Out, Waited, Pinged, Noticed, after_out, chosen, next, of_command, of_fence, shows}
use Rattle.iscsi_tracked.specs.Tracked.{handed_out, has_place, is_at}
use Rattle.iscsi_outbox_law.specs.private.Pairs.{EachOf}
use Rattle.iscsi_outbox_law.specs.private.Links.{pdu_of}
use Rattle.iscsi_outbox_law.specs.private.Commands.{is_under_way, link_in}
use Rattle.iscsi_outbox_law.specs.private.Fences.{IsFence}
use Rattle.iscsi_outbox_law.specs.private.Sound.{IsFenceFit, IsLinkSound, IsSound}
use Rattle.iscsi_outbox_law.specs.private.Stands.{Stands}
use Rattle.iscsi_outbox_law.proofs.general.PairLemmas.{each-at}
use Rattle.iscsi_outbox_law.proofs.general.Members.{In, any_from, each-in, filter_in, index_in}
use Rattle.iscsi_outbox_law.proofs.general.PlaceLemmas.{AreApart, IsPlace, at_place, conns_of, same_conn}
use Rattle.iscsi_outbox_law.proofs.connections.Standing.{counts_at, links_apart, stands_there}
use Rattle.iscsi_outbox_law.proofs.queues.Waiting.{max_shown_is}
use Rattle.iscsi_outbox_law.proofs.sending.Fencing.{apart, looks_is}
use Rattle.iscsi_outbox_law.proofs.sending.HandedLemmas.{fence_kept, fence_new}
use Rattle.iscsi_outbox_law.proofs.sending.Giving.{SameChosen, SameOut, WaitsFirst, chosen_is, link_nowhere, link_there, popped_stands, queued_pdu, taken_at}
use Rattle.iscsi_outbox_law.proofs.sending.Nexts.{hand_command, hand_plain}
use Rattle.iscsi_outbox_law.proofs.sending.NextStands.{OfLive, OfNone, first_in, next_plain, of_what}

all_in : {A : Type 0} (p : A → Bool) (xs : List A) (x : A) → list_all p xs ≡ true → In x xs → p x ≡ true
all_in p [] x all at = absurd at
all_in p (y ∷ xs) x all at =
    let parts = and_parts (p y) (list_all p xs) all in
    ⊎_elim (λ same. ap p same ∙ parts.0) (λ later. all_in p xs x parts.1 later) at

unpinged : (c : Content) (pdu : Pdu) → pdu_of c ≡ pdu → (elim pdu as (λ (x : Pdu). Bool) [ Pings tag ↦ true | Replies reply ↦ false | Owns q ↦ false | Notices ↦ false ]) ≡ false
unpinged (IsReply reply) pdu is = sym (ap (λ (x : Pdu). elim x as (λ (y : Pdu). Bool) [ Pings tag ↦ true | Replies r ↦ false | Owns q ↦ false | Notices ↦ false ]) is)
unpinged (IsOwn own) pdu is = sym (ap (λ (x : Pdu). elim x as (λ (y : Pdu). Bool) [ Pings tag ↦ true | Replies r ↦ false | Owns q ↦ false | Notices ↦ false ]) is)

module _ (o : Opening) (s : State) (b : Box) (h : Stands o s b) (sound : IsSound o b) (distinct : are_distinct o.session.conns ≡ true) (p : ℕ) (within : p < length b.links) (opens : is_open (link_in b.links p) ≡ true) where
  abbrev l : Link
  l = link_in b.links p

  -- ---- the box after it

  -- what is handed out on the connection
  abbrev pushed : Box → Handed → Box
  pushed b' g = record b' { links = set b'.links p (handed_out_on g (link_in b'.links p)); shown = max_shown o b'; reached = max_shown o b' }

  pushed_at : (b' : Box) (g : Handed) → AreApart (conns_of b'.links) → p < length b'.links → (link_in b'.links p).conn ≡ l.conn
      → record b' { links = at_link l.conn (λ m. record m { handed = m.handed ++ g ∷ [] }) b'.links; shown = max_shown o b'; reached = max_shown o b' } ≡ pushed b' g
  pushed_at b' g apart' lt is =
      ap (λ (ls : List Link). record b' { links = ls; shown = max_shown o b'; reached = max_shown o b' }) (at_place (λ m. record m { handed = m.handed ++ g ∷ [] }) b'.links l.conn p apart' lt is)

  given_as : (b' : Box) (g : Handed) → without_chosen b l g.out ≡ b' → AreApart (conns_of b'.links) → p < length b'.links → (link_in b'.links p).conn ≡ l.conn → after_given o b l g ≡ pushed b' g
  given_as b' g without_is apart' lt is =
      ap (λ (x : Box). record x { links = at_link l.conn (λ m. record m { handed = m.handed ++ g ∷ [] }) x.links; shown = max_shown o x; reached = max_shown o x }) without_is
      ∙ pushed_at b' g apart' lt is

  unqueued : (out : Outgoing) → is_from_queue out ≡ false → without_chosen b l out ≡ b
  unqueued out isnt =
      ap (λ (ls : List Link). record b { links = ls }) (taken_at o s b h sound distinct p within out ∙ ap (λ (v : Bool). set b.links p (cond v (record l { queue = drop 1 l.queue }) l)) isnt ∙ set-get_or b.links p (new_link 0))

  joined : l.joined ≡ true
  joined = (and_parts l.joined (not l.lost) opens).0

  st : StandsFor (link_at s p) (link_in b.links p)
  st = counts_at (is_under_way o b.links) o s b h p within

  -- ---- a notice and a ping

  noticed : Stands o (after_out p Noticed s) (after_given o b l (handed_as o b l (nop_in b Notices)))
  noticed =
      let g : Handed = handed_as o b l (nop_in b Notices) in
      subst (Stands o (after_out p Noticed s)) (sym (given_as b (handed_as o b l (nop_in b Notices)) (unqueued (nop_in b Notices) refl) (apart o s b h sound distinct) within refl))
      (next_plain o s b h sound distinct p within (handed_as o b l (nop_in b Notices)) (handed_by false false (link_at s p)) opens
      (stands_handed (link_at s p) l st (handed_as o b l (nop_in b Notices)) false false joined refl refl refl) refl refl)

  pinged : (tag : ℕ) → wants_ping o b l ≡ true → Stands o (after_out p (Pinged tag) s) (after_given o b l (handed_as o b l (ping b l)))
  pinged tag wants =
      subst (Stands o (after_out p (Pinged tag) s)) (sym (given_as b (handed_as o b l (ping b l)) (unqueued (ping b l) refl) (apart o s b h sound distinct) within refl))
      (next_plain o s b h sound distinct p within (handed_as o b l (ping b l)) (pinged_by (link_at s p)) opens
      (stands_pinged (link_at s p) l st (handed_as o b l (ping b l)) joined (asking_is (link_at s p) l st ∙ none_asking) refl refl refl) refl refl)
    where
      none_asking : list_any is_ping (unarrived (link_in b.links p)) ≡ false
      none_asking =
          let parts = and_parts ((looks_for_arrival o && is_asked_for o b (link_in b.links p)) && not (list_any is_ping (unarrived (link_in b.links p)))) (not (is_behind_logout (link_in b.links p))) wants in
          not-true (list_any is_ping (unarrived (link_in b.links p))) (and_parts (looks_for_arrival o && is_asked_for o b (link_in b.links p)) (not (list_any is_ping (unarrived (link_in b.links p)))) parts.0).1

  -- ---- what waited

  module _ (item : Waiting) (out : Outgoing) (w : WaitsFirst o s b l p item out) where
    abbrev s1 : State
    s1 = record s { waits = record s.waits { queues = set s.waits.queues p (drop 1 (queue_at s.waits p)) } }

    abbrev b1 : Box
    b1 = record b { links = set b.links p (record l { queue = drop 1 l.queue }) }

    abbrev g : Handed
    g = handed_as o b l out

    st1 : Stands o s1 b1
    st1 = popped_stands o s b h sound distinct p within

    within1 : p < length b1.links
    within1 = omega (arith, within, length-set b.links p (record l { queue = drop 1 l.queue }))

    at1 : link_in b1.links p ≡ record l { queue = drop 1 l.queue }
    at1 = get_or-set_same b.links p (record l { queue = drop 1 l.queue }) (new_link 0) within

    opens1 : is_open (link_in b1.links p) ≡ true
    opens1 = ap is_open at1 ∙ opens

    was1 : StandsFor (link_at s1 p) (link_in b1.links p)
    was1 = counts_at (is_under_way o b1.links) o s1 b1 st1 p within1

    abbrev c' : Counts
    c' = handed_by item.takes item.ends (link_at s p)

    counts1 : StandsFor c' (handed_out_on g (link_in b1.links p))
    counts1 =
        stands_handed (link_at s1 p) (link_in b1.links p) was1 g item.takes item.ends (and_parts (link_in b1.links p).joined (not (link_in b1.links p).lost) opens1).0
        (sym w.is.takes ∙ ap (λ (i : Waiting). i.takes) w.item_is)
        (ap (λ (m : Link). contains out.closes m.conn) at1 ∙ sym w.is.ends ∙ ap (λ (i : Waiting). i.ends) w.item_is)
        (unpinged (w.entry.item.content) (out.pdu) w.is.pdu)

    abbrev stamp : Stamp
    stamp = stamp_by (link_at s p)

    stamp_here : stamp_by (link_at s p) ≡ stamp_at (link_in b1.links p) (length (link_in b1.links p).handed)
    stamp_here = stamp_is (link_at s1 p) (link_in b1.links p) was1

    fit : out.fenced ≡ true → out.takes ≡ true
    fit = let sl : IsLinkSound o b.tasks l = each-at (IsLinkSound o b.tasks) b.links p (new_link 0) within sound.links in each-in IsFenceFit l.queue out (first_in o s b h sound distinct p within item out w) sl.fenced

    -- all other fenced answers arrived
    others_arrived : out.fenced ≡ true → s.limits.looks ≡ true → (n : ℕ) → n < length b1.links → (n ≡ p → ⊥) → is_open (link_in b1.links n) ≡ true → list_any fenced_handed (unarrived (link_in b1.links n)) ≡ false
    others_arrived fenced looking n lt other opened =
        ap (λ (m : Link). list_any fenced_handed (unarrived m)) there
        ∙ (let one = and_parts (lets_pass o out (link_in b.links n)) (not out.fenced || is_clear o out (link_in b.links n))
        (all_in (λ m. lets_pass o out m && (not out.fenced || is_clear o out m)) (others b l) (link_in b.links n) passing member) in
        let two = and_parts (not (list_any (λ (before : Outgoing). before.fenced && nat_lt before.time out.time) (link_in b.links n).queue)) (not (looks_for_arrival o && list_any fenced_handed (unarrived (link_in b.links n)))) one.0 in
        ap (λ (v : Bool). v && list_any fenced_handed (unarrived (link_in b.links n))) (sym (sym (looks_is o s b h sound distinct) ∙ looking)) ∙ not-true (looks_for_arrival o && list_any fenced_handed (unarrived (link_in b.links n))) two.1)
      where
        there : link_in b1.links n ≡ link_in b.links n
        there = get_or-set_other b.links p n (record (link_in b.links p) { queue = drop 1 (link_in b.links p).queue }) (new_link 0) other

        lt0 : n < length b.links
        lt0 = omega (arith, lt, length-set b.links p (record (link_in b.links p) { queue = drop 1 (link_in b.links p).queue }))

        passing : list_all (λ m. lets_pass o out m && (not out.fenced || is_clear o out m)) (others b (link_in b.links p)) ≡ true
        passing = sym (ap (λ (v : Bool). not v || list_all (λ m. lets_pass o out m && (not out.fenced || is_clear o out m)) (others b (link_in b.links p))) (fit fenced)) ∙ w.passes

        member : In (link_in b.links n) (others b (link_in b.links p))
        member =
            filter_in (λ (m : Link). is_open m && not (m.conn == (link_in b.links p).conn)) b.links (link_in b.links n) (index_in b.links n (new_link 0) lt0)
            (and_from (is_open (link_in b.links n)) (not ((link_in b.links n).conn == (link_in b.links p).conn)) (sym (ap is_open there) ∙ opened)
            (ap not (same_conn b.links n p (apart o s b h sound distinct) lt0 within ∙ ne_eqb n p other)))

    abbrev fence_after : Bool → Option Sent
    fence_after v = cond v (Some (record { conn = p; stamp = stamp_by (link_at s p) })) s.fence

    fence_is : (v : Bool) → out.fenced ≡ v → IsFence s.limits.looks (set b1.links p (handed_out_on g (link_in b1.links p))) (fence_after v)
    fence_is true is = fence_new o b1.links p g within1 opens1 was1.within was1.few_written s.limits.looks (stamp_by (link_at s p)) is stamp_here (others_arrived is)
    fence_is false is = fence_kept o b1.links p g within1 opens1 was1.within was1.few_written s.limits.looks s.fence is st1.fence

    -- the state after it, by the command and by the fence
    abbrev state_of : Option ℕ → Bool → State
    state_of command v = with_link p (handed_by item.takes item.ends) (of_fence p v (stamp_by (link_at s p)) (of_command command (stamp_by (link_at s p)) (shows s1)))

    abbrev state_at : ℕ → Bool → Bool → State
    state_at place there v =
        with_link p (handed_by item.takes item.ends) (of_fence p v (stamp_by (link_at s p)) (cond there (record (shows s1) { tracked = handed_out place (stamp_by (link_at s p)) s.tracked }) (shows s1)))

    shown1 : max_shown_steps s1 ≡ max_shown o b1
    shown1 = max_shown_is o s1 b1 st1

    abbrev box_of : ℕ → Box
    box_of n = record b1 { links = set b1.links p (handed_out_on g (link_in b1.links p)); shown = n; reached = n }

    of_none : OfNone b item out → (v : Bool) → out.fenced ≡ v → Stands o (state_of None v) (box_of (max_shown_steps s1))
    of_none k true is = hand_plain o s1 b1 st1 p g within1 opens1 c' counts1 k.none (fence_after true) (max_shown_steps s1) (fence_is true is)
    of_none k false is = hand_plain o s1 b1 st1 p g within1 opens1 c' counts1 k.none (fence_after false) (max_shown_steps s1) (fence_is false is)

    of_live : (k : OfLive s.tracked b p item out) (v : Bool) → out.fenced ≡ v → Stands o (state_at k.of.place true v) (box_of (max_shown_steps s1))
    of_live k true is = hand_command o s1 b1 st1 p g within1 opens1 c' counts1 k.of k.kept k.live k.conn_is k.ticket (stamp_by (link_at s p)) stamp_here k.none (fence_after true) (max_shown_steps s1) (fence_is true is)
    of_live k false is = hand_command o s1 b1 st1 p g within1 opens1 c' counts1 k.of k.kept k.live k.conn_is k.ticket (stamp_by (link_at s p)) stamp_here k.none (fence_after false) (max_shown_steps s1) (fence_is false is)

    item_fenced : out.fenced ≡ item.fenced
    item_fenced = sym w.is.fenced ∙ ap (λ (i : Waiting). i.fenced) w.item_is

    stepped : Stands o (after_out p (Waited item) s) (box_of (max_shown_steps s1))
    stepped = ⊎_elim
        (λ (k : OfNone b item out). subst (λ (c : Option ℕ). Stands o (state_of c item.fenced) (box_of (max_shown_steps s1))) (sym k.command) (of_none k item.fenced item_fenced))
        (λ (k : OfLive s.tracked b p item out).
        let there : has_place k.of.place s.tracked ≡ true = any_from (is_at k.of.place) s.tracked.commands k.of k.kept (eq-eqb k.of.place k.of.place refl) in
        subst (λ (c : Option ℕ). Stands o (state_of c item.fenced) (box_of (max_shown_steps s1))) (sym k.command)
        (subst (λ v. Stands o (state_at k.of.place v item.fenced) (box_of (max_shown_steps s1))) (sym there) (of_live k item.fenced item_fenced)))
        (of_what o s b h sound distinct p within item out w)

    without_is : without_chosen b l out ≡ b1
    without_is = ap (λ (ls : List Link). record b { links = ls }) (taken_at o s b h sound distinct p within out ∙ ap (λ (v : Bool). set b.links p (cond v (record l { queue = drop 1 l.queue }) l)) (queued_pdu o s b h sound distinct p within (w.entry.item.content) out w.is.pdu))

    waited : Stands o (after_out p (Waited item) s) (after_given o b l (handed_as o b l out))
    waited =
        subst (Stands o (after_out p (Waited item) s)) (sym (given_as b1 g without_is (links_apart (is_under_way o b1.links) o s1 b1 st1 distinct) within1 (ap (λ (m : Link). m.conn) at1)))
        (subst (λ n. Stands o (after_out p (Waited item) s) (box_of n)) shown1 stepped)

  pub out_stands : (x : Out) (out : Outgoing) → SameOut o s b l p x out → Stands o (after_out p x s) (after_given o b l (handed_as o b l out))
  out_stands (Waited item) out w = waited item out w
  out_stands (Pinged tag) out k = subst (λ (y : Outgoing). Stands o (after_out p (Pinged tag) s) (after_given o b l (handed_as o b l y))) k.1 (pinged tag k.2)
  out_stands Noticed out k = subst (λ (y : Outgoing). Stands o (after_out p Noticed s) (after_given o b l (handed_as o b l y))) k noticed

-- ---- by its CID

module _ (o : Opening) (s : State) (b : Box) (h : Stands o s b) (sound : IsSound o b) (distinct : are_distinct o.session.conns ≡ true) (few : EachOf (λ (l : Link). length l.handed < 2 ^ 63) b.links) (cid : ℕ) where
  unopened : (p : ℕ) → (x : Outgoing) → chosen_by_rules o b (link_in b.links p) ≡ Some x → is_open (link_in b.links p) ≡ true
  unopened p x some = by_open (is_open (link_in b.links p)) refl some
    where
      by_open : (v : Bool) → is_open (link_in b.links p) ≡ v → cond v (cond (wants_ping o b (link_in b.links p)) (Some (ping b (link_in b.links p))) (first_waiting o b (link_in b.links p) (link_in b.links p).queue)) None ≡ Some x
          → is_open (link_in b.links p) ≡ true
      by_open true is k = is
      by_open false is k = absurd cc

  on_link : (p : ℕ) → p < length b.links → (x : Option Out) (y : Option Outgoing) → chosen_by_rules o b (link_in b.links p) ≡ y → SameChosen o s b (link_in b.links p) p x y
      → Stands o (elim x as (λ (z : Option Out). State) [ Some out ↦ after_out p out s | None ↦ s ])
      (elim (elim y as (λ (z : Option Outgoing). RulesGiven) [ Some out ↦ RulesHands (handed_as o b (link_in b.links p) out) | None ↦ cond (is_over b (link_in b.links p)) RulesIsOver RulesNothing ])
      as (λ (z : RulesGiven). Box) [ RulesHands g ↦ after_given o b (link_in b.links p) g | RulesNothing ↦ b | RulesIsOver ↦ b ])
  on_link p within None None is k =
      elim (is_over b (link_in b.links p)) as (λ v. Stands o s (elim (cond v RulesIsOver RulesNothing) as (λ (z : RulesGiven). Box) [ RulesHands g ↦ after_given o b (link_in b.links p) g | RulesNothing ↦ b | RulesIsOver ↦ b ])) [ true ↦ h | false ↦ h ]
  on_link p within (Some x) (Some out) is k = out_stands o s b h sound distinct p within (unopened p out is) x out k
  on_link p within None (Some out) is k = absurd k
  on_link p within (Some x) None is k = absurd k

  abbrev after_link : Option Link → Box
  after_link x = elim x as (λ (y : Option Link). Box) [
    | Some l ↦ elim (elim x as (λ (y : Option Link). RulesGiven) [ Some m ↦ given_on_by_rules o b m | None ↦ RulesNothing ]) as (λ (z : RulesGiven). Box) [ RulesHands g ↦ after_given o b l g | RulesNothing ↦ b | RulesIsOver ↦ b ]
    | None ↦ b
  ]

  pub nexts_stands : Stands o (next cid s) (after_next o b cid)
  nexts_stands = by_place (place_of s cid) refl
    where
      by_place : (x : Option ℕ) → place_of s cid ≡ x
          → Stands o (elim x as (λ (y : Option ℕ). State) [ Some p ↦ elim (chosen p s) as (λ (z : Option Out). State) [ Some out ↦ after_out p out s | None ↦ s ] | None ↦ s ]) (after_next o b cid)
      by_place (Some p) found =
          let at : IsPlace b.links cid p = stands_there (is_under_way o b.links) o s b h cid p found in
          subst (λ (x : Option Link). Stands o (elim (chosen p s) as (λ (z : Option Out). State) [ Some out ↦ after_out p out s | None ↦ s ]) (after_link x)) (sym (link_there o s b h sound distinct few cid p found))
          (on_link p at.within (chosen p s) (chosen_by_rules o b (link_in b.links p)) refl
          (chosen_is o s b h sound distinct p at.within (each-at (λ (l : Link). length l.handed < 2 ^ 63) b.links p (new_link 0) at.within few)))
      by_place None none = subst (λ (x : Option Link). Stands o s (after_link x)) (sym (link_nowhere o s b h sound distinct few cid none)) h
