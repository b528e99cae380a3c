-- A connection joins.
use Rattle.std.proofs.Common.{◌≡◌, ℕ, ◌==◌, ◌&&◌, not, cond, Bool, true, false, [], length, drop, set, Option, Some, None, refl, ap, sym, subst, ◌∙◌, arith}
use Rattle.std.specs.List.{list_any}
use Rattle.std.proofs.lemmas.Bool.{and_parts, not-true}
use Rattle.std.proofs.lemmas.List.{drop_all, set-get_or}
use Rattle.iscsi_wire.specs.Serial.{number_of_first}
use Rattle.iscsi_rules.specs.rules.Settings.{are_distinct}
use Rattle.iscsi_arrivals.specs.Counts.{Counts, may_join_by, joined_by, new_counts}
use Rattle.iscsi_arrivals.specs.Standing.{StandsFor, may_join_now}
use Rattle.iscsi_outbox_rules.specs.rules.Calls.{Opening}
use Rattle.iscsi_outbox_rules.specs.rules.Boxes.{Handed, Link, Box}
use Rattle.iscsi_outbox_rules.specs.rules.Words.{has_under_way, is_of, is_open, looks_for_arrival}
use Rattle.iscsi_outbox_rules.specs.rules.Queues.{at_link}
use Rattle.iscsi_outbox_rules.specs.rules.Handing.{fenced_handed}
use Rattle.iscsi_outbox_rules.specs.rules.Run.{link_joined, may_join as may_join_box, new_link}
use Rattle.iscsi_outbox_steps.specs.State.{State, link_at, place_of}
use Rattle.iscsi_outbox_steps.specs.Steps.{joined, may_join}
use Rattle.iscsi_outbox_law.specs.private.Commands.{is_under_way, link_in}
use Rattle.iscsi_outbox_law.specs.private.Stands.{Stands}
use Rattle.iscsi_outbox_law.proofs.general.PairLemmas.{any-set}
use Rattle.iscsi_outbox_law.proofs.general.PlaceLemmas.{any_at, any_nowhere, at_place, IsPlace}
use Rattle.iscsi_outbox_law.proofs.connections.LinkChanges.{Moves, stands_moved, stands_under}
use Rattle.iscsi_outbox_law.proofs.connections.CountChanges.{stands_joined}
use Rattle.iscsi_outbox_law.proofs.connections.Standing.{any_same, counts_at, links_apart, stands_nowhere, stands_there}

-- nothing is under way where nothing was handed out
none_out : (o : Opening) (these : ℕ → Bool) (m : Link) → m.handed ≡ [] → has_under_way o these m ≡ false
none_out o these m empty = by_tests (is_open m) (looks_for_arrival o)
  where
    none_left : (n : ℕ) → list_any (λ (h : Handed). is_of these h.out) (drop n m.handed) ≡ false
    none_left n = ap (list_any (λ (h : Handed). is_of these h.out)) (ap (drop n) empty ∙ drop_all n [] (omega arith))

    by_tests : (v w : Bool) → list_any (λ (h : Handed). is_of these h.out) (cond v (cond w (drop m.arrived m.handed) (drop m.written m.handed)) []) ≡ false
    by_tests true true = none_left m.arrived
    by_tests true false = none_left m.written
    by_tests false w = refl

grouped : (v : Bool) (l : Link) → (((v && not l.joined) && not l.closed) && not l.lost) ≡ (v && may_join_now l)
grouped true l = refl
grouped false l = refl

module _ (o : Opening) (s : State) (b : Box) (h : Stands o s b) (distinct : are_distinct o.session.conns ≡ true) (cid : ℕ) where
  box_may : may_join_box b cid ≡ list_any (λ (l : Link). (l.conn == cid) && may_join_now l) b.links
  box_may = any_same (λ (l : Link). (((l.conn == cid) && not l.joined) && not l.closed) && not l.lost) (λ (l : Link). (l.conn == cid) && may_join_now l) b.links (λ l. grouped (l.conn == cid) l)

  may_there : (p : ℕ) → place_of s cid ≡ Some p → may_join_by (link_at s p) ≡ may_join_box b cid
  may_there p found =
      let at : IsPlace b.links cid p = stands_there (is_under_way o b.links) o s b h cid p found in
      let st : StandsFor (link_at s p) (link_in b.links p) = counts_at (is_under_way o b.links) o s b h p at.within in
      ap (λ (v : Bool). (not v && not (link_at s p).closed) && not (link_at s p).lost) st.joined
      ∙ ap (λ (v : Bool). (not (link_in b.links p).joined && not v) && not (link_at s p).lost) st.closed
      ∙ ap (λ (v : Bool). (not (link_in b.links p).joined && not (link_in b.links p).closed) && not v) st.lost
      ∙ sym (any_at may_join_now b.links cid p (links_apart (is_under_way o b.links) o s b h distinct) at.within at.is) ∙ sym box_may

  may_nowhere : place_of s cid ≡ None → false ≡ may_join_box b cid
  may_nowhere none = sym (box_may ∙ any_nowhere may_join_now b.links cid (stands_nowhere (is_under_way o b.links) o s b h cid none))

  pub joins_answered : may_join cid s ≡ may_join_box b cid
  joins_answered = by_place (place_of s cid) refl
    where
      by_place : (x : Option ℕ) → place_of s cid ≡ x → elim x [ Some p ↦ may_join_by (link_at s p) | None ↦ false ] ≡ may_join_box b cid
      by_place (Some p) found = may_there p found
      by_place None none = may_nowhere none

  -- ---- the state after it

  module _ (n : ℕ) where
    abbrev pub after : Bool → Box
    after v = cond v (record b { links = at_link cid (link_joined n) b.links }) b

    moves : (l : Link) → l.handed ≡ [] → Moves l (link_joined n l)
    moves l empty = record {
      conn = refl;
      handed = refl;
      stamps = λ place lt. absurd (omega (arith, lt, ap length empty));
      fence = λ none opens. ap (list_any fenced_handed) (ap (drop l.arrived) empty ∙ drop_all l.arrived [] (omega arith));
    }

    joins_there : (p : ℕ) (v : Bool) → place_of s cid ≡ Some p → may_join_by (link_at s p) ≡ v
        → Stands o (record s { links = set s.links p (cond v (record (link_at s p) { joined = true; next = number_of_first n; acknowledged = number_of_first n }) (link_at s p)) }) (after v)
    joins_there p false found may = subst (λ cs. Stands o (record s { links = cs }) b) (sym (set-get_or s.links p new_counts)) h
    joins_there p true found may =
        subst (λ ls. Stands o s' (record b { links = ls })) (sym (at_place (link_joined n) b.links cid p (links_apart (is_under_way o b.links) o s b h distinct) at.within at.is))
        (stands_under (is_under_way o b.links) (is_under_way o (set b.links p m)) o s' (record b { links = set b.links p m }) same
        (stands_moved (is_under_way o b.links) o s b p c' m h at.within (moves l empty) refl (stands_joined (link_at s p) l st n unjoined)))
      where
        at : IsPlace b.links cid p
        at = stands_there (is_under_way o b.links) o s b h cid p found

        l : Link
        l = link_in b.links p

        m : Link
        m = link_joined n (link_in b.links p)

        st : StandsFor (link_at s p) (link_in b.links p)
        st = counts_at (is_under_way o b.links) o s b h p (stands_there (is_under_way o b.links) o s b h cid p found).within

        c' : Counts
        c' = record (link_at s p) { joined = true; next = number_of_first n; acknowledged = number_of_first n }

        s' : State
        s' = record s { links = set s.links p c' }

        unjoined : l.joined ≡ false
        unjoined =
            let parts = and_parts (not (link_at s p).joined && not (link_at s p).closed) (not (link_at s p).lost) may in
            let first = and_parts (not (link_at s p).joined) (not (link_at s p).closed) parts.0 in
            sym st.joined ∙ not-true (link_at s p).joined first.0

        empty : l.handed ≡ []
        empty = st.unjoined unjoined

        same : (t : ℕ) → is_under_way o b.links t ≡ is_under_way o (set b.links p m) t
        same t = sym (any-set (has_under_way o (λ k. k == t)) b.links p m (new_link 0) (none_out o (λ k. k == t) m empty ∙ sym (none_out o (λ k. k == t) l empty)))

    pub joins_stands : Stands o (joined cid n s) (after (may_join_box b cid))
    joins_stands = by_place (place_of s cid) refl
      where
        by_place : (x : Option ℕ) → place_of s cid ≡ x → Stands o (elim x [ Some p ↦ record s { links = set s.links p (joined_by n (link_at s p)) } | None ↦ s ]) (after (may_join_box b cid))
        by_place (Some p) found = subst (λ v. Stands o (record s { links = set s.links p (joined_by n (link_at s p)) }) (after v)) (may_there p found) (joins_there p (may_join_by (link_at s p)) found refl)
        by_place None none = subst (λ v. Stands o s (after v)) (may_nowhere none) h
