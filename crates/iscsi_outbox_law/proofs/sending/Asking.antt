-- When a ping or a notice goes out, and when nothing more does: the same in both.
use Rattle.std.proofs.Common.{◌≡◌, ℕ, suc, ◌+◌, ◌<◌, ◌==◌, ◌&&◌, ◌||◌, not, cond, nat_lt, nat_le, Bool, true, false, List, [], ◌∷◌, length, filter, count_by, Option, Some, None, refl, ap, sym, ◌∙◌, arith, lt-ltb, le-ltb, ⊎_elim}
use Rattle.std.specs.List.{list_all, list_any, position_or_len}
use Rattle.std.proofs.lemmas.Bool.{cases_lt, eqb-false, eqb-true, ltb-true}
use Rattle.iscsi_wire.specs.Serial.{lift}
use Rattle.iscsi_rules.specs.rules.Settings.{are_distinct}
use Rattle.iscsi_rules.specs.rules.Trace.{first_of}
use Rattle.iscsi_arrivals.specs.Counts.{Counts, has_arrived_by, is_behind_logout_by, is_open_by, is_usable_by}
use Rattle.iscsi_arrivals.specs.Standing.{StandsFor}
use Rattle.iscsi_arrivals.proofs.CountLemmas.{any-count}
use Rattle.iscsi_arrivals.proofs.SinceLemmas.{all_written_is, asking_is, behind_logout_is, unarrived_is, usable_is}
use Rattle.iscsi_arrivals.proofs.StandingLemmas.{open_is}
use Rattle.iscsi_fences.specs.Passing.{any_waits}
use Rattle.iscsi_outbox_rules.specs.rules.Calls.{Opening}
use Rattle.iscsi_outbox_rules.specs.rules.Boxes.{Outgoing, Answer, Link, Box}
use Rattle.iscsi_outbox_rules.specs.rules.Words.{has_under_way, is_left, is_open, is_usable, looks_for_arrival, unarrived}
use Rattle.iscsi_outbox_rules.specs.rules.Handing.{fenced_handed, is_asked_for, is_over, is_ping, others, takes_handed, wants_notice, wants_ping}
use Rattle.iscsi_outbox_rules.specs.rules.Run.{new_link}
use Rattle.iscsi_outbox_state.specs.declared.lane.Undue.{Undue}
use Rattle.iscsi_outbox_state.specs.declared.lane.Standing.{Standing}
use Rattle.iscsi_outbox_state.specs.Waits.{Entry, count_in as count_waits, is_fenced, is_taking, queue_at}
use Rattle.iscsi_outbox_state.specs.Lane.{goes_out_on, is_under_way_on}
use Rattle.iscsi_tracked.specs.Tracked.{Tracked}
use Rattle.iscsi_outbox_steps.specs.declared.sent.Sent.{Sent}
use Rattle.iscsi_outbox_steps.specs.State.{State, first_usable, is_asked_for as is_asked_for_steps, is_fence_here, is_over as is_over_steps, link_at, looks, max_shown as max_shown_steps, wants_notice as wants_notice_steps, wants_ping as wants_ping_steps}
use Rattle.iscsi_outbox_law.specs.private.Pairs.{PairsOf}
use Rattle.iscsi_outbox_law.specs.private.Links.{IsEntry, IsQueue}
use Rattle.iscsi_outbox_law.specs.private.Commands.{is_under_way, link_in}
use Rattle.iscsi_outbox_law.specs.private.Fences.{IsFence}
use Rattle.iscsi_outbox_law.specs.private.Lanes.{IsAnswer}
use Rattle.iscsi_outbox_law.specs.private.Sound.{IsSound}
use Rattle.iscsi_outbox_law.specs.private.Stands.{Stands}
use Rattle.iscsi_outbox_law.proofs.general.PairLemmas.{each-at, pairs-at, pairs-length}
use Rattle.iscsi_outbox_law.proofs.general.PlaceLemmas.{IsPlace, place_found, same_conn}
use Rattle.iscsi_outbox_law.proofs.connections.Standing.{counts_at}
use Rattle.iscsi_outbox_law.proofs.queues.Waiting.{answers_any, max_shown_is}
use Rattle.iscsi_outbox_law.proofs.sending.Fencing.{any_drop, apart, arrived_last, counted_elsewhere, looks_is}
use Rattle.iscsi_outbox_law.proofs.commands.LeftOut.{left_out}

-- ---- the first that passes

next_lt : (k n : ℕ) → nat_lt (1 + k) (suc n) ≡ nat_lt k n
next_lt k n =
    ⊎_elim (λ lt. lt-ltb (1 + k) (suc n) (omega (arith, lt)) ∙ sym (lt-ltb k n lt)) (λ ge. le-ltb (1 + k) (suc n) (omega (arith, ge)) ∙ sym (le-ltb k n ge)) (cases_lt k n)

first_there : (p : Link → Bool) (links : List Link) → first_of (filter p links) ≡ cond (nat_lt (position_or_len p links) (length links)) (Some (link_in links (position_or_len p links))) None
first_there p [] = refl
first_there p (l ∷ links) =
    let rest = first_there p links in
    let k : ℕ = position_or_len p links in
    elim (p l) as (λ v. first_of (cond v (l ∷ filter p links) (filter p links)) ≡ cond (nat_lt (cond (not v) (1 + position_or_len p links) 0) (suc (length links))) (Some (link_in (l ∷ links) (cond (not v) (1 + position_or_len p links) 0))) None) [
      | true ↦ sym (ap (λ (v : Bool). cond v (Some l) None) (lt-ltb 0 (suc (length links)) (omega arith)))
      | false ↦ rest
          ∙ ap (λ (v : Bool). cond v (Some (link_in links (position_or_len p links))) None) (sym (next_lt (position_or_len p links) (length links)))
          ∙ ap (λ n. cond (nat_lt (1 + position_or_len p links) (suc (length links))) (Some (link_in (l ∷ links) n)) None) (let z : suc (position_or_len p links) ≡ 1 + position_or_len p links = omega arith in z)
    ]

first_pairs : (cs : List Counts) (ls : List Link) → PairsOf StandsFor cs ls → position_or_len is_usable_by cs ≡ position_or_len is_usable ls
first_pairs [] [] h = refl
first_pairs (c ∷ cs) (l ∷ ls) h = ap (λ (v : Bool). cond (not v) (1 + position_or_len is_usable_by cs) 0) (usable_is c l h.0) ∙ ap (λ n. cond (not (is_usable l)) (1 + n) 0) (first_pairs cs ls h.1)
first_pairs [] (l ∷ ls) h = absurd h
first_pairs (c ∷ cs) [] h = absurd h

module _ (o : Opening) (s : State) (b : Box) (h : Stands o s b) (sound : IsSound o b) (distinct : are_distinct o.session.conns ≡ true) (p : ℕ) (within : p < length b.links) (opens : is_open (link_in b.links p) ≡ true) where
  abbrev l : Link
  l = link_in b.links p

  st : StandsFor (link_at s p) (link_in b.links p)
  st = counts_at (is_under_way o b.links) o s b h p within

  -- ---- pings

  fence_here : (f : Option Sent) → s.limits.looks ≡ true → IsFence s.limits.looks b.links f
      → (elim f as (λ (x : Option Sent). Bool) [ Some g ↦ (g.conn == p) && (is_open_by (link_at s g.conn) && not (has_arrived_by g.stamp (link_at s g.conn))) | None ↦ false ]) ≡ list_any fenced_handed (unarrived l)
  fence_here None looking none = sym (any_drop fenced_handed l.arrived l.handed (each-at (λ (m : Link). list_any fenced_handed m.handed ≡ false) b.links p (new_link 0) within none))
  fence_here (Some f) looking k = ap (λ (v : Bool). (f.conn == p) && v) (arrived_last o s b h sound distinct p within opens f k) ∙ by_place (f.conn == p) refl
    where
      by_place : (v : Bool) → (f.conn == p) ≡ v → (v && (is_open (link_in b.links f.conn) && list_any fenced_handed (unarrived (link_in b.links f.conn)))) ≡ list_any fenced_handed (unarrived l)
      by_place true is =
          ap (λ n. is_open (link_in b.links n) && list_any fenced_handed (unarrived (link_in b.links n))) (eqb-true f.conn p is)
          ∙ ap (λ (v : Bool). v && list_any fenced_handed (unarrived l)) opens
      by_place false is = sym (k.others looking p within (λ same. eqb-false f.conn p is (sym same)) opens)

  asked_is : s.limits.looks ≡ true → is_asked_for_steps p s ≡ is_asked_for o b l
  asked_is looking =
      let fenced_elsewhere : nat_lt (count_by is_fenced (queue_at s.waits p)) (count_waits is_fenced s.waits) ≡ any_waits (λ (out : Outgoing). out.fenced) (others b l) =
      counted_elsewhere o s b h sound distinct p within opens (λ (out : Outgoing). out.fenced) is_fenced (λ cid e x k. k.fenced) in
      let taking_elsewhere : nat_lt (count_by is_taking (queue_at s.waits p)) (count_waits is_taking s.waits) ≡ any_waits (λ (out : Outgoing). out.takes) (others b l) =
      counted_elsewhere o s b h sound distinct p within opens (λ (out : Outgoing). out.takes) is_taking (λ cid e x k. k.takes) in
      let second : Bool = nat_lt (link_at s p).acknowledged (link_at s p).next && nat_lt (count_by is_fenced (queue_at s.waits p)) (count_waits is_fenced s.waits) in
      let third : Bool = is_fence_here p s && nat_lt (count_by is_taking (queue_at s.waits p)) (count_waits is_taking s.waits) in
      ap (λ (v : Bool). (v || second) || third) (sym (any-count (is_under_way_on p) s.lane.items) ∙ left_out o s b h sound.homes (apart o s b h sound distinct) p within)
      ∙ ap (λ (v : Bool). (has_under_way o (is_left b) l || (v && nat_lt (count_by is_fenced (queue_at s.waits p)) (count_waits is_fenced s.waits))) || third) (unarrived_is (link_at s p) l st)
      ∙ ap (λ (v : Bool). (has_under_way o (is_left b) l || (list_any takes_handed (unarrived l) && v)) || third) fenced_elsewhere
      ∙ ap (λ (v : Bool). (has_under_way o (is_left b) l || (list_any takes_handed (unarrived l) && any_waits (λ (out : Outgoing). out.fenced) (others b l))) || (v && nat_lt (count_by is_taking (queue_at s.waits p)) (count_waits is_taking s.waits)))
      (fence_here (s.fence) looking h.fence)
      ∙ ap (λ (v : Bool). (has_under_way o (is_left b) l || (list_any takes_handed (unarrived l) && any_waits (λ (out : Outgoing). out.fenced) (others b l))) || (list_any fenced_handed (unarrived l) && v)) taking_elsewhere

  asked_where_looked : (looks s && is_asked_for_steps p s) ≡ (looks_for_arrival o && is_asked_for o b l)
  asked_where_looked = by_looks (looks s) refl ∙ ap (λ (v : Bool). v && is_asked_for o b l) (looks_is o s b h sound distinct)
    where
      by_looks : (v : Bool) → looks s ≡ v → (v && is_asked_for_steps p s) ≡ (v && is_asked_for o b l)
      by_looks true is = asked_is is
      by_looks false is = refl

  pub ping_is : wants_ping_steps p s ≡ wants_ping o b l
  ping_is =
      ap (λ (v : Bool). (v && not (nat_lt (link_at s p).answered (link_at s p).pings)) && not (is_behind_logout_by (link_at s p))) asked_where_looked
      ∙ ap (λ (v : Bool). ((looks_for_arrival o && is_asked_for o b l) && not v) && not (is_behind_logout_by (link_at s p))) (asking_is (link_at s p) l st)
      ∙ ap (λ (v : Bool). ((looks_for_arrival o && is_asked_for o b l) && not (list_any is_ping (unarrived l))) && not v) (behind_logout_is (link_at s p) l st)

  -- ---- notices

  first_is : (elim (first_usable s) as (λ (x : Option ℕ). Bool) [ Some q ↦ q == p | None ↦ false ]) ≡ (elim (first_of (filter is_usable b.links)) as (λ (x : Option Link). Bool) [ Some m ↦ m.conn == l.conn | None ↦ false ])
  first_is =
      ap (λ k. here (nat_lt k (length s.links)) k) (first_pairs s.links b.links h.links.each)
      ∙ ap (λ n. here (nat_lt (position_or_len is_usable b.links) n) (position_or_len is_usable b.links)) (pairs-length StandsFor s.links b.links h.links.each)
      ∙ by_test (nat_lt (position_or_len is_usable b.links) (length b.links)) refl
      ∙ sym (ap (λ (x : Option Link). elim x as (λ (y : Option Link). Bool) [ Some m ↦ m.conn == (link_in b.links p).conn | None ↦ false ]) (first_there is_usable b.links))
    where
      here : Bool → ℕ → Bool
      here v k = elim (cond v (Some k) None) as (λ (x : Option ℕ). Bool) [ Some q ↦ q == p | None ↦ false ]

      by_test : (v : Bool) → nat_lt (position_or_len is_usable b.links) (length b.links) ≡ v
          → (elim (cond v (Some (position_or_len is_usable b.links)) None) as (λ (x : Option ℕ). Bool) [ Some q ↦ q == p | None ↦ false ])
          ≡ (elim (cond v (Some (link_in b.links (position_or_len is_usable b.links))) None) as (λ (x : Option Link). Bool) [ Some m ↦ m.conn == (link_in b.links p).conn | None ↦ false ])
      by_test true is = sym (same_conn b.links (position_or_len is_usable b.links) p (apart o s b h sound distinct) (ltb-true (position_or_len is_usable b.links) (length b.links) is) within)
      by_test false is = refl

  pub notice_is : wants_notice_steps p s ≡ wants_notice o b l
  notice_is =
      ap (λ (v : Bool). (v && nat_lt s.reached (lift s.shown s.exp)) && nat_lt s.reached (max_shown_steps s)) first_is
      ∙ ap (λ n. (first && nat_lt n (lift s.shown s.exp)) && nat_lt n (max_shown_steps s)) h.numbers.reached
      ∙ ap (λ n. (first && nat_lt b.reached (lift n s.exp)) && nat_lt b.reached (max_shown_steps s)) h.numbers.shown
      ∙ ap (λ n. (first && nat_lt b.reached (lift b.shown n)) && nat_lt b.reached (max_shown_steps s)) h.numbers.exp
      ∙ ap (λ n. (first && nat_lt b.reached (lift b.shown b.exp)) && nat_lt b.reached n) (max_shown_is o s b h)
    where
      first : Bool
      first = elim (first_of (filter is_usable b.links)) as (λ (x : Option Link). Bool) [ Some m ↦ m.conn == (link_in b.links p).conn | None ↦ false ]

  -- ---- the end

  none_waits : (v : Tracked) (queue : List Entry) (outs : List Outgoing) → PairsOf (IsEntry v l.conn) queue outs
      → (elim queue as (λ (q : List Entry). Bool) [ [] ↦ true | e ∷ es ↦ false ]) ≡ list_all (λ (out : Outgoing). false) outs
  none_waits v [] [] k = refl
  none_waits v (e ∷ es) (out ∷ outs) k = refl
  none_waits v [] (out ∷ outs) k = absurd k
  none_waits v (e ∷ es) [] k = absurd k

  answers_go : list_any (goes_out_on p) s.lane.items ≡ list_any (λ (a : Answer). a.conn == l.conn) b.undue
  answers_go =
      answers_any s.limits.cids s.tracked (goes_out_on p) (λ (a : Answer). a.conn == l.conn) (λ c. refl) goes [] s.lane.items b.undue h.answers
    where
      goes : (before : List Standing) (a : Undue) (answer : Answer) → IsAnswer s.limits.cids s.tracked before a answer → (a.conn == p) ≡ (answer.conn == (link_in b.links p).conn)
      goes before a answer k =
          let at : IsPlace b.links answer.conn a.conn = place_found s.limits.cids b.links answer.conn a.conn h.links.conns k.conn in
          sym (same_conn b.links a.conn p (apart o s b h sound distinct) at.within within) ∙ ap (λ c. c == (link_in b.links p).conn) at.is

  pub over_is : is_over_steps p s ≡ is_over b l
  over_is =
      let c : Counts = link_at s p in
      let empty : Bool = elim (queue_at s.waits p) as (λ (q : List Entry). Bool) [ [] ↦ true | e ∷ es ↦ false ] in
      let goes : Bool = list_any (goes_out_on p) s.lane.items in
      let written : Bool = nat_le c.handed c.written in
      ap (λ (v : Bool). (((v && c.closed) && empty) && not goes) && (c.cut || written)) (open_is c l st)
      ∙ ap (λ (v : Bool). (((is_open l && v) && empty) && not goes) && (c.cut || written)) st.closed
      ∙ ap (λ (v : Bool). (((is_open l && l.closed) && v) && not goes) && (c.cut || written)) (none_waits s.tracked (queue_at s.waits p) l.queue (pairs-at (IsQueue s.tracked) s.waits.queues b.links p [] (new_link 0) within h.queues))
      ∙ ap (λ (v : Bool). (((is_open l && l.closed) && list_all (λ (out : Outgoing). false) l.queue) && not v) && (c.cut || written)) answers_go
      ∙ ap (λ (v : Bool). (((is_open l && l.closed) && list_all (λ (out : Outgoing). false) l.queue) && not (list_any (λ (a : Answer). a.conn == l.conn) b.undue)) && (v || written)) st.cut
      ∙ ap (λ (v : Bool). (((is_open l && l.closed) && list_all (λ (out : Outgoing). false) l.queue) && not (list_any (λ (a : Answer). a.conn == l.conn) b.undue)) && (l.cut || v)) (all_written_is c l st)
