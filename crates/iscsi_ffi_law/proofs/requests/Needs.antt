-- A request is needed by the rules just where its place is used by the steps.
use Rattle.std.proofs.Common.{◌≡◌, ℕ, ◌<◌, ◌≤◌, ◌==◌, ◌||◌, ◌⊎◌, inl, inr, ⊎_elim, nat_lt, Bool, true, false, List, ◌++◌, length, count_by, Option, Some, None, refl, ap, sym, ◌∙◌, arith, lt-ltb}
use Rattle.std.specs.List.{list_any}
use Rattle.std.proofs.lemmas.Bool.{false≢true, eqb-true, eq-eqb, ltb-true, or_cases, or_left, or_right, cases_lt, cases_Bool, le-ltb}
use Rattle.iscsi_rules.proofs.general.ElementLemmas.{In, append-in_second}
use Rattle.iscsi_outbox_rules.specs.rules.Boxes.{Handed, Link}
use Rattle.iscsi_outbox_rules.specs.rules.Run.{new_link}
use Rattle.iscsi_outbox_law.specs.private.Commands.{link_in}
use Rattle.iscsi_outbox_law.proofs.general.PairLemmas.{pairs-any}
use Rattle.iscsi_requests.specs.Conns.{of_conn}
use Rattle.iscsi_ffi_rules.specs.rules.Needs.{is_about, is_being_written, is_held, is_live as is_live_event, is_needed, is_waiting, left_to_write, runs, waits}
use Rattle.iscsi_ffi_rules.specs.rules.Sides.{Side}
use Rattle.iscsi_ffi_steps.specs.State.{State}
use Rattle.iscsi_ffi_law.specs.Names.{Name, Note, asked_of}
use Rattle.iscsi_ffi_law.specs.Parts.{IsAbout, IsConn, IsRequest, noted_in}
use Rattle.iscsi_ffi_law.specs.Uses.{count_commands, count_functions, count_held, count_noted, count_replies, count_unwritten, is_place, uses_of}
use Rattle.iscsi_ffi_law.proofs.general.Lists.{lists_at}
use Rattle.iscsi_ffi_law.proofs.general.Members.{CountedAt, Passing, PassingAt, any_at, any_counted, at_any, counted_in, each_in, in_counted, lists_counted}
use Rattle.iscsi_ffi_law.proofs.own_pdus.NotePlaces.{note_there}
use Rattle.iscsi_ffi_law.proofs.requests.Replies.{HaveConns, counted_waits, waits_counted}

pub placed_some : (place : ℕ) (x : Option ℕ) → is_place place x ≡ true → x ≡ Some place
placed_some place None h = absurd (false≢true h)
placed_some place (Some p) h = ap (λ (v : ℕ). Some v) (eqb-true p place h)

module _ (names : List Name) (notes : List Note) (gone : ℕ → List (Option ℕ)) (s : State) (r : Side) (h : HaveConns names notes gone s r) (n : Name) (there : In n names) where
  -- what isn't written
  written_counted : is_being_written n.event r ≡ true → 1 ≤ count_unwritten n.place s
  written_counted w =
      let p : PassingAt (λ (l : Link). list_any (λ (x : Handed). is_about n.event r x.out) (left_to_write l)) r.both.box.links (new_link 0) = any_at (λ (l : Link). list_any (λ (x : Handed). is_about n.event r x.out) (left_to_write l)) r.both.box.links (new_link 0) w in
      let c : IsConn names notes (gone p.place) s r p.place (link_in r.both.box.links p.place) = h.conns p.place p.within in
      let same : list_any (is_place n.place) (of_conn p.place s.unwritten.handed) ≡ list_any (λ (x : Handed). is_about n.event r x.out) (left_to_write (link_in r.both.box.links p.place))
      = pairs-any (IsAbout names notes r (link_in r.both.box.links p.place).conn) (is_place n.place) (λ (x : Handed). is_about n.event r x.out) (of_conn p.place s.unwritten.handed) (left_to_write (link_in r.both.box.links p.place))
      (λ x y k. sym (each_in (λ (m : Name). is_about m.event r y.out ≡ is_place m.place x) names n there k.named)) c.written in
      let x : Passing (is_place n.place) (of_conn p.place s.unwritten.handed) = any_in_list p.place (same ∙ p.passes) in
      let one : 1 ≤ count_by (is_place n.place) (of_conn p.place s.unwritten.handed) = in_counted (is_place n.place) (of_conn p.place s.unwritten.handed) x.x x.there x.passes in
      omega (arith, one, lists_at (is_place n.place) s.unwritten.handed p.place)
    where
      any_in_list : (p : ℕ) → list_any (is_place n.place) (of_conn p s.unwritten.handed) ≡ true → Passing (is_place n.place) (of_conn p s.unwritten.handed)
      any_in_list p k = counted_in (is_place n.place) (of_conn p s.unwritten.handed) (let lt : 0 < count_by (is_place n.place) (of_conn p s.unwritten.handed) = ltb-true 0 (count_by (is_place n.place) (of_conn p s.unwritten.handed)) (sym (any_counted (is_place n.place) (of_conn p s.unwritten.handed)) ∙ k) in omega (arith, lt))

  counted_written : 1 ≤ count_unwritten n.place s → is_being_written n.event r ≡ true
  counted_written some =
      let at : CountedAt (is_place n.place) s.unwritten.handed = lists_counted (is_place n.place) s.unwritten.handed some in
      let within : at.place < length r.both.box.links = omega (arith, at.within, h.unwritten) in
      let c : IsConn names notes (gone at.place) s r at.place (link_in r.both.box.links at.place) = h.conns at.place within in
      let same : list_any (is_place n.place) (of_conn at.place s.unwritten.handed) ≡ list_any (λ (x : Handed). is_about n.event r x.out) (left_to_write (link_in r.both.box.links at.place))
      = pairs-any (IsAbout names notes r (link_in r.both.box.links at.place).conn) (is_place n.place) (λ (x : Handed). is_about n.event r x.out) (of_conn at.place s.unwritten.handed) (left_to_write (link_in r.both.box.links at.place))
      (λ x y k. sym (each_in (λ (m : Name). is_about m.event r y.out ≡ is_place m.place x) names n there k.named)) c.written in
      at_any (λ (l : Link). list_any (λ (x : Handed). is_about n.event r x.out) (left_to_write l)) r.both.box.links at.place (new_link 0) within
      (sym same ∙ any_counted (is_place n.place) (of_conn at.place s.unwritten.handed) ∙ lt-ltb 0 (count_by (is_place n.place) (of_conn at.place s.unwritten.handed)) (omega (arith, at.some)))

  -- the place is that of no own PDU
  none_noted : count_noted n.place s ≡ 0
  none_noted =
      ⊎_elim
      (λ some.
      let at : CountedAt (is_place n.place) s.noted.handed = lists_counted (is_place n.place) s.noted.handed (omega (arith, some)) in
      let within : at.place < length r.both.box.links = omega (arith, at.within, h.noted) in
      let l : Link = link_in r.both.box.links at.place in
      let c : IsConn names notes (gone at.place) s r at.place (link_in r.both.box.links at.place) = h.conns at.place within in
      let x : Passing (is_place n.place) (of_conn at.place s.noted.handed) = counted_in (is_place n.place) (of_conn at.place s.noted.handed) at.some in
      let m = note_there notes (link_in r.both.box.links at.place).conn (gone at.place) (of_conn at.place s.noted.handed) (noted_in (of_conn at.place s.unwritten.handed) (left_to_write (link_in r.both.box.links at.place))) c.noted x.x
      (append-in_second (gone at.place) (noted_in (of_conn at.place s.unwritten.handed) (left_to_write (link_in r.both.box.links at.place)) ++ of_conn at.place s.noted.handed) x.x
      (append-in_second (noted_in (of_conn at.place s.unwritten.handed) (left_to_write (link_in r.both.box.links at.place))) (of_conn at.place s.noted.handed) x.x x.there)) in
      let is : m.0.place ≡ n.place = (let same : Some m.0.place ≡ Some n.place = m.3 ∙ placed_some n.place x.x x.passes in cc) in
      let one : 1 ≤ count_by (λ (y : Note). y.place == n.place) notes = in_counted (λ (y : Note). y.place == n.place) notes m.0 m.1 (eq-eqb m.0.place n.place is) in
      let two : 1 ≤ count_by (λ (y : Name). y.place == n.place) names = in_counted (λ (y : Name). y.place == n.place) names n there (eq-eqb n.place n.place refl) in
      absurd (let none : ⊥ = omega (arith, one, two, h.apart.places n.place) in none))
      (λ none. omega (arith, none))
      (cases_lt 0 (count_noted n.place s))

  module _ (q : IsRequest s r.both.trace n) (commands : (is_live_event n.event r.both.trace || runs n.event r.both.trace r.both.box) ≡ nat_lt 0 (count_commands n.place s)) where
    some_of : (x : ℕ) → nat_lt 0 x ≡ true → 1 ≤ x
    some_of x is = let lt : 0 < x = ltb-true 0 x is in omega (arith, lt)

    live_used : (is_live_event n.event r.both.trace || runs n.event r.both.trace r.both.box) ≡ true → 1 ≤ count_commands n.place s
    live_used is = some_of (count_commands n.place s) (sym commands ∙ is)

    needed_used : is_needed r (asked_of n) ≡ true → 1 ≤ uses_of n.place s
    needed_used k =
        ⊎_elim
        (λ k1. ⊎_elim
        (λ k2. ⊎_elim
        (λ k3. ⊎_elim
        (λ k4. ⊎_elim
        (λ held. let one : 1 ≤ count_held n.place s = some_of (count_held n.place s) (sym q.held ∙ held) in omega (arith, one))
        (λ waiting. let one : 1 ≤ count_functions n.place s = some_of (count_functions n.place s) (sym q.waiting ∙ waiting) in omega (arith, one))
        (or_cases (is_held n.event r.both.trace) (is_waiting n.event r.both.trace) k4))
        (λ lives. let one : 1 ≤ count_commands n.place s = live_used (or_left (is_live_event n.event r.both.trace) (runs n.event r.both.trace r.both.box) lives) in omega (arith, one))
        (or_cases (is_held n.event r.both.trace || is_waiting n.event r.both.trace) (is_live_event n.event r.both.trace) k3))
        (λ running. let one : 1 ≤ count_commands n.place s = live_used (or_right (is_live_event n.event r.both.trace) (runs n.event r.both.trace r.both.box) running) in omega (arith, one))
        (or_cases ((is_held n.event r.both.trace || is_waiting n.event r.both.trace) || is_live_event n.event r.both.trace) (runs n.event r.both.trace r.both.box) k2))
        (λ waiting. ⊎_elim
        (λ one. omega (arith, one))
        (λ lives. let one : 1 ≤ count_commands n.place s = live_used (or_left (is_live_event n.event r.both.trace) (runs n.event r.both.trace r.both.box) lives) in omega (arith, one))
        (waits_counted names notes gone s r h n there waiting))
        (or_cases (((is_held n.event r.both.trace || is_waiting n.event r.both.trace) || is_live_event n.event r.both.trace) || runs n.event r.both.trace r.both.box) (waits n.event r) k1))
        (λ written. let one : 1 ≤ count_unwritten n.place s = written_counted written in omega (arith, one))
        (or_cases ((((is_held n.event r.both.trace || is_waiting n.event r.both.trace) || is_live_event n.event r.both.trace) || runs n.event r.both.trace r.both.box) || waits n.event r) (is_being_written n.event r) k)

    needed_by : (a b c d e f : Bool) → ((a ≡ true) ⊎ ((b ≡ true) ⊎ (((c || d) ≡ true) ⊎ ((e ≡ true) ⊎ (f ≡ true))))) → (((((a || b) || c) || d) || e) || f) ≡ true
    needed_by true b c d e f h = refl
    needed_by false true c d e f h = refl
    needed_by false false true d e f h = refl
    needed_by false false false true e f h = refl
    needed_by false false false false true f h = refl
    needed_by false false false false false true h = refl
    needed_by false false false false false false h = ⊎_elim (λ k. k) (λ k1. ⊎_elim (λ k. k) (λ k2. ⊎_elim (λ k. k) (λ k3. ⊎_elim (λ k. k) (λ k. k) k3) k2) k1) h

    is_some : (x : ℕ) → 0 < x → nat_lt 0 x ≡ true
    is_some x lt = lt-ltb 0 x lt

    used_needed : 1 ≤ uses_of n.place s → is_needed r (asked_of n) ≡ true
    used_needed k = needed_by (is_held n.event r.both.trace) (is_waiting n.event r.both.trace) (is_live_event n.event r.both.trace) (runs n.event r.both.trace r.both.box) (waits n.event r) (is_being_written n.event r) by_count
      where
        by_count : (is_held n.event r.both.trace ≡ true) ⊎ ((is_waiting n.event r.both.trace ≡ true) ⊎ (((is_live_event n.event r.both.trace || runs n.event r.both.trace r.both.box) ≡ true) ⊎ ((waits n.event r ≡ true) ⊎ (is_being_written n.event r ≡ true))))
        by_count =
            ⊎_elim (λ one. inl (q.held ∙ is_some (count_held n.place s) one))
            (λ none_held. ⊎_elim (λ one. inr (inl (q.waiting ∙ is_some (count_functions n.place s) one)))
            (λ none_waiting. ⊎_elim (λ one. inr (inr (inl (commands ∙ is_some (count_commands n.place s) one))))
            (λ none_live. ⊎_elim (λ one. inr (inr (inr (inl (counted_waits names notes gone s r h n there (omega (arith, one)))))))
            (λ none_replied. inr (inr (inr (inr (counted_written (omega (arith, k, none_held, none_waiting, none_live, none_replied, none_noted)))))))
            (cases_lt 0 (count_replies n.place s))) (cases_lt 0 (count_commands n.place s))) (cases_lt 0 (count_functions n.place s))) (cases_lt 0 (count_held n.place s))

    pub is_needed_used : is_needed r (asked_of n) ≡ nat_lt 0 (uses_of n.place s)
    is_needed_used =
        ⊎_elim
        (λ some. used_needed (omega (arith, some)) ∙ sym (lt-ltb 0 (uses_of n.place s) some))
        (λ none. ⊎_elim
        (λ needed. absurd (let one : 1 ≤ uses_of n.place s = needed_used needed in let no : ⊥ = omega (arith, one, none) in no))
        (λ needless. needless ∙ sym (le-ltb 0 (uses_of n.place s) none))
        (cases_Bool (is_needed r (asked_of n))))
        (cases_lt 0 (uses_of n.place s))
