-- A PDU of the target's own.
use Rattle.std.proofs.Common.{◌≡◌, ℕ, zero, suc, ◌+◌, ◌*◌, ◌<◌, ◌≤◌, ◌==◌, ◌&&◌, ◌⊎◌, inl, inr, ⊎_elim, cond, nat_le, Bool, true, false, List, [], ◌∷◌, length, filter, count_by, Option, Some, None, refl, ap, sym, ◌∙◌, arith}
use Rattle.std.specs.List.{find, list_any}
use Rattle.std.proofs.lemmas.Bool.{and_from, and_parts, eq-eqb, eqb-true, or_parts, true≢false}
use Rattle.std.proofs.lemmas.List.Sums.{sum_by-cons}
use Rattle.iscsi_rules.specs.rules.Settings.{are_distinct}
use Rattle.iscsi_rules.specs.rules.Trace.{first_of}
use Rattle.iscsi_arrivals.proofs.SinceLemmas.{usable_is}
use Rattle.iscsi_outbox_rules.specs.declared.own_pdu.PutRefusal.{PutRefusal}
use Rattle.iscsi_outbox_rules.specs.declared.own_pdu.PutRefusal.TheVariants.{Closed, Full}
use Rattle.iscsi_outbox_rules.specs.rules.Calls.{Opening}
use Rattle.iscsi_outbox_rules.specs.rules.Boxes.{Task, Outgoing, Link, Box}
use Rattle.iscsi_outbox_rules.specs.rules.Words.{is_live_phase, is_usable}
use Rattle.iscsi_outbox_rules.specs.rules.Own.{is_full as is_full_box, is_own, live_task, refusal_on as refusal_on_box}
use Rattle.iscsi_outbox_rules.specs.rules.Run.{new_link}
use Rattle.iscsi_outbox_state.specs.declared.waiting.Content.{Content}
use Rattle.iscsi_outbox_state.specs.declared.waiting.Content.TheVariants.{Reply, Own}
use Rattle.iscsi_outbox_state.specs.Waits.{is_own as is_own_entry, queue_at}
use Rattle.iscsi_outbox_steps.specs.State.{State, Limits, link_at, place_of}
use Rattle.iscsi_outbox_steps.specs.Steps.{is_full, is_live, live_command, refusal_on}
use Rattle.iscsi_tracked.specs.declared.command.Command.{Command}
use Rattle.iscsi_tracked.specs.Tracked.{find_ticket}
use Rattle.iscsi_outbox_law.specs.private.Pairs.{EachOf}
use Rattle.iscsi_outbox_law.specs.private.Links.{IsQueue, pdu_of}
use Rattle.iscsi_outbox_law.specs.private.Commands.{IsCommand, is_kept, is_under_way, link_in}
use Rattle.iscsi_outbox_law.specs.private.Sound.{IsSound}
use Rattle.iscsi_outbox_law.specs.private.Stands.{Stands}
use Rattle.iscsi_outbox_law.proofs.general.PairLemmas.{pairs-at}
use Rattle.iscsi_outbox_law.proofs.general.Members.{In, filter_in, find_in, in_filter, pair_for, pair_of}
use Rattle.iscsi_outbox_law.proofs.general.PlaceLemmas.{AreApart, IsPlace, conns_of, none_behind, other_first}
use Rattle.iscsi_outbox_law.proofs.connections.Standing.{counts_at, links_apart, stands_nowhere}
use Rattle.iscsi_outbox_law.proofs.queues.Waiting.{live_as, queue_counted}
use Rattle.iscsi_outbox_law.proofs.sending.NextStands.{found_ticket, live_kept}
use Rattle.iscsi_outbox_law.proofs.queues.Rooms.{own_bound, own_on, own_queued}

-- ---- lists

first_find : {A : Type 0} (p : A → Bool) (xs : List A) → first_of (filter p xs) ≡ find p xs
first_find p [] = refl
first_find p (x ∷ xs) =
    let rest = first_find p xs in
    elim (p x) as (λ v. first_of (cond v (x ∷ filter p xs) (filter p xs)) ≡ cond v (Some x) (find p xs)) [ true ↦ refl | false ↦ rest ]

find_none : {A : Type 0} (p : A → Bool) (xs : List A) (x : A) → find p xs ≡ None → In x xs → p x ≡ true → ⊥
find_none p [] x none at is = at
find_none p (y ∷ xs) x none at is =
    let rest : find p xs ≡ None → In x xs → ⊥ = λ e later. find_none p xs x e later is in
    elim (p y) as (λ v. p y ≡ v → cond v (Some y) (find p xs) ≡ None → ⊥) [
      | true ↦ λ here e. absurd cc
      | false ↦ λ there e. ⊎_elim (λ same. true≢false (sym is ∙ ap p same ∙ there)) (λ later. rest e later) at
    ] refl none

none_usable : (test : Link → Bool) (links : List Link) (cid : ℕ) → list_any (λ k. k == cid) (conns_of links) ≡ false → first_of (filter (λ (l : Link). (l.conn == cid) && test l) links) ≡ None
none_usable test [] cid none = refl
none_usable test (l ∷ links) cid none =
    let parts = or_parts (l.conn == cid) (list_any (λ k. k == cid) (conns_of links)) none in
    ap (λ (v : Bool). first_of (cond (v && test l) (l ∷ filter (λ (m : Link). (m.conn == cid) && test m) links) (filter (λ (m : Link). (m.conn == cid) && test m) links))) parts.0 ∙ none_usable test links cid parts.1

found_usable : (test : Link → Bool) (links : List Link) (cid p : ℕ) → AreApart (conns_of links) → p < length links → (link_in links p).conn ≡ cid
    → first_of (filter (λ (l : Link). (l.conn == cid) && test l) links) ≡ cond (test (link_in links p)) (Some (link_in links p)) None
found_usable test [] cid p apart lt is = absurd (omega (arith, lt))
found_usable test (l ∷ links) cid zero apart lt is =
    let rest = none_usable test links cid (none_behind l links cid apart is) in
    ap (λ (v : Bool). first_of (cond (v && test l) (l ∷ filter (λ (m : Link). (m.conn == cid) && test m) links) (filter (λ (m : Link). (m.conn == cid) && test m) links))) (eq-eqb l.conn cid is)
    ∙ elim (test l) as (λ v. first_of (cond v (l ∷ filter (λ (m : Link). (m.conn == cid) && test m) links) (filter (λ (m : Link). (m.conn == cid) && test m) links)) ≡ cond v (Some l) None) [ true ↦ refl | false ↦ rest ]
found_usable test (l ∷ links) cid (suc p) apart lt is =
    ap (λ (v : Bool). first_of (cond (v && test l) (l ∷ filter (λ (m : Link). (m.conn == cid) && test m) links) (filter (λ (m : Link). (m.conn == cid) && test m) links))) (other_first l links cid p apart (omega (arith, lt)) is)
    ∙ found_usable test links cid p apart.1 (omega (arith, lt)) is

pub own_less : (own : ℕ) (links : List Link) (p : ℕ) → p < length links → own_on (link_in links p) < own → EachOf (λ (l : Link). own_on l ≤ own) links → own_queued links < own * length links
own_less own [] p lt less h = absurd (omega (arith, lt))
own_less own (l ∷ links) zero lt less h =
    let rest = own_bound own links h.1 in
    let whole = sum_by-cons (λ (m : Link). count_by (λ (out : Outgoing). is_own out.pdu) m.queue) l links in
    let more = times_next own (length links) in omega (arith, rest, whole, more, less)
  where
    times_next : (a n : ℕ) → a * suc n ≡ a + a * n
    times_next a n = grind arith
own_less own (l ∷ links) (suc p) lt less h =
    let rest = own_less own links p (omega (arith, lt)) less h.1 in
    let whole = sum_by-cons (λ (m : Link). count_by (λ (out : Outgoing). is_own out.pdu) m.queue) l links in
    let more = times_next own (length links) in omega (arith, rest, whole, more, h.0)
  where
    times_next : (a n : ℕ) → a * suc n ≡ a + a * n
    times_next a n = grind arith

own_as : (c : Content) → (elim c as (λ (x : Content). Bool) [ Reply reply ↦ false | Own own ↦ true ]) ≡ is_own (pdu_of c)
own_as (Reply reply) = refl
own_as (Own own) = refl

-- ---- the live command with a ticket

pub record AreLive (o : Opening) (s : State) (b : Box) (ticket : ℕ) : Type 0 where
  pub command : Command
  pub task : Task
  pub found : live_command s ticket ≡ Some command
  pub found_task : live_task b ticket ≡ Some task
  pub is : IsCommand (is_under_way o b.links) s.limits.cids b.links command task
  pub live : is_live command ≡ true
  pub ticket_is : find_ticket ticket s.tracked ≡ Some command

pub record NoneLive (s : State) (b : Box) (ticket : ℕ) : Type 0 where
  pub found : live_command s ticket ≡ None
  pub found_task : live_task b ticket ≡ None

module _ (o : Opening) (s : State) (b : Box) (h : Stands o s b) (sound : IsSound o b) (distinct : are_distinct o.session.conns ≡ true) where
  apart : AreApart (conns_of b.links)
  apart = links_apart (is_under_way o b.links) o s b h distinct

  pub both_live : (ticket : ℕ) → AreLive o s b ticket ⊎ NoneLive s b ticket
  both_live ticket = by_task (find (λ (t : Task). t.ticket == ticket && is_live_phase t.phase) b.tasks) refl
    where
      by_command : (x : Option Command) (v : Command → Bool) → find_ticket ticket s.tracked ≡ x → find (λ (t : Task). t.ticket == ticket && is_live_phase t.phase) b.tasks ≡ None
          → (elim x as (λ (y : Option Command). Option Command) [ Some c ↦ cond (is_live c) (Some c) None | None ↦ None ]) ≡ None
      by_command None v found none = refl
      by_command (Some c) v found none = ap (λ (u : Bool). cond u (Some c) None) (dead (is_live c) refl)
        where
          dead : (u : Bool) → is_live c ≡ u → is_live c ≡ false
          dead false is = is
          dead true is =
              let at = find_in (λ (x : Command). x.ticket == ticket) s.tracked.commands c found in
              let k : (t : Task) × In t (filter (is_kept (is_under_way o b.links)) b.tasks) × IsCommand (is_under_way o b.links) s.limits.cids b.links c t =
              pair_of (IsCommand (is_under_way o b.links) s.limits.cids b.links) s.tracked.commands (filter (is_kept (is_under_way o b.links)) b.tasks) c at.0 h.commands in
              absurd (find_none (λ (t : Task). t.ticket == ticket && is_live_phase t.phase) b.tasks k.0 none (in_filter (is_kept (is_under_way o b.links)) b.tasks k.0 k.1).0
              (and_from (k.0.ticket == ticket) (is_live_phase k.0.phase) (eq-eqb k.0.ticket ticket (sym k.2.ticket ∙ eqb-true c.ticket ticket at.1)) (sym (live_as c k.0 k.2.phase) ∙ is)))

      by_task : (x : Option Task) → find (λ (t : Task). t.ticket == ticket && is_live_phase t.phase) b.tasks ≡ x → AreLive o s b ticket ⊎ NoneLive s b ticket
      by_task None none =
          inr (record {
            found = by_command (find_ticket ticket s.tracked) is_live refl none;
            found_task = first_find (λ (t : Task). t.ticket == ticket && is_live_phase t.phase) b.tasks ∙ none;
          })
      by_task (Some t) found =
          let at = find_in (λ (x : Task). x.ticket == ticket && is_live_phase x.phase) b.tasks t found in
          let parts = and_parts (t.ticket == ticket) (is_live_phase t.phase) at.1 in
          let x : (c : Command) × In c s.tracked.commands × IsCommand (is_under_way o b.links) s.limits.cids b.links c t =
          pair_for (IsCommand (is_under_way o b.links) s.limits.cids b.links) s.tracked.commands (filter (is_kept (is_under_way o b.links)) b.tasks) t
          (filter_in (is_kept (is_under_way o b.links)) b.tasks t at.0 (live_kept (is_under_way o b.links) t parts.1)) h.commands in
          let it : find_ticket ticket s.tracked ≡ Some x.0 = found_ticket s.tracked x.0 ticket h.placed x.1 (x.2.ticket ∙ eqb-true t.ticket ticket parts.0) in
          let lives : is_live x.0 ≡ true = live_as x.0 t x.2.phase ∙ parts.1 in
          inl (record {
            command = x.0;
            task = t;
            found = ap (λ (y : Option Command). elim y as (λ (z : Option Command). Option Command) [ Some c ↦ cond (is_live c) (Some c) None | None ↦ None ]) it ∙ ap (λ (u : Bool). cond u (Some x.0) None) lives;
            found_task = first_find (λ (y : Task). y.ticket == ticket && is_live_phase y.phase) b.tasks ∙ found;
            is = x.2;
            live = lives;
            ticket_is = it;
          })

  -- ---- a connection

  pub full_is : (p : ℕ) → p < length b.links → is_full p s ≡ is_full_box o (link_in b.links p)
  full_is p within =
      ap (λ n. nat_le n (count_by is_own_entry (queue_at s.waits p))) (ap (λ (x : Limits). x.own) h.sizes.limits)
      ∙ ap (nat_le o.own) (queue_counted s.tracked is_own_entry (λ (out : Outgoing). is_own out.pdu) (λ cid e out k. own_as (e.item.content) ∙ ap is_own k.pdu) (queue_at s.waits p) (link_in b.links p)
      (pairs-at (IsQueue s.tracked) s.waits.queues b.links p [] (new_link 0) within h.queues))

  pub refused_there : (cid p : ℕ) → IsPlace b.links cid p → refusal_on p s ≡ refusal_on_box o b cid
  refused_there cid p at =
      ap (λ (v : Bool). cond v (cond (is_full p s) (Some Full) None) (Some Closed)) (usable_is (link_at s p) (link_in b.links p) (counts_at (is_under_way o b.links) o s b h p at.within))
      ∙ ap (λ (v : Bool). cond (is_usable (link_in b.links p)) (cond v (Some Full) None) (Some Closed)) (full_is p at.within)
      ∙ turned (is_usable (link_in b.links p))
      ∙ sym (ap (λ (x : Option Link). elim x as (λ (y : Option Link). Option PutRefusal) [ Some l ↦ cond (is_full_box o l) (Some Full) None | None ↦ Some Closed ]) (found_usable is_usable b.links cid p apart at.within at.is))
    where
      turned : (v : Bool) → cond v (cond (is_full_box o (link_in b.links p)) (Some Full) None) (Some Closed)
          ≡ (elim (cond v (Some (link_in b.links p)) None) as (λ (y : Option Link). Option PutRefusal) [ Some l ↦ cond (is_full_box o l) (Some Full) None | None ↦ Some Closed ])
      turned true = refl
      turned false = refl

  pub refused_nowhere : (cid : ℕ) → place_of s cid ≡ None → Some Closed ≡ refusal_on_box o b cid
  refused_nowhere cid none =
      sym (ap (λ (x : Option Link). elim x as (λ (y : Option Link). Option PutRefusal) [ Some l ↦ cond (is_full_box o l) (Some Full) None | None ↦ Some Closed ])
      (none_usable is_usable b.links cid (stands_nowhere (is_under_way o b.links) o s b h cid none)))
