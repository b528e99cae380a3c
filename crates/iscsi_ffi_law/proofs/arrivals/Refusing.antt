-- A request, or the loss of a connection, is refused: nothing changes.
use Rattle.std.proofs.Common.{◌≡◌, ℕ, ◌+◌, ◌<◌, ◌==◌, ◌&&◌, not, cond, nat_le, Bool, true, false, List, [], ◌∷◌, length, Option, Some, None, refl, ap, sym, subst, ◌∙◌, arith, zero, suc, ◌||◌, ◌++◌}
use Rattle.std.specs.List.{list_any}
use Rattle.std.proofs.lemmas.Bool.{false≢true, eq-eqb, or_right}
use Rattle.iscsi_rules.specs.rules.Settings.{is_known}
use Rattle.iscsi_arrivals.specs.Counts.{is_open_by}
use Rattle.iscsi_arrivals.specs.Standing.{StandsFor}
use Rattle.iscsi_outbox_rules.specs.rules.Boxes.{Link}
use Rattle.iscsi_outbox_rules.specs.rules.Handing.{link_of}
use Rattle.iscsi_outbox_rules.specs.rules.Words.{is_open, may_take}
use Rattle.iscsi_outbox_law.specs.private.Commands.{is_under_way, link_in}
use Rattle.iscsi_outbox_law.proofs.general.PlaceLemmas.{IsPlace, conns_of, found_at, known_any}
use Rattle.iscsi_outbox_law.proofs.connections.Standing.{counts_at, links_apart, stands_nowhere, stands_there}
use Rattle.iscsi_outbox_law.proofs.queues.Waiting.{may_take_is}
use Rattle.iscsi_outbox_steps.specs.State.{Limits, link_at, place_of}
use Rattle.iscsi_outbox_steps.specs.State as steps_box
use Rattle.iscsi_ffi_rules.specs.declared.refusal.Refusal.{Refusal}
use Rattle.iscsi_ffi_rules.specs.declared.refusal.Refusal.TheVariants.{UnknownConnection, NotJoined, Exhausted, Busy}
use Rattle.iscsi_ffi_rules.specs.rules.Calls.{Interface, Arrives, Loses}
use Rattle.iscsi_ffi_rules.specs.rules.Run as rules
use Rattle.iscsi_outbox_rules.specs.rules.Calls as outbox
use Rattle.iscsi_rules.specs.rules.Trace.{is_closed}
use Rattle.iscsi_requests.specs.Conns.{of_conn}
use Rattle.iscsi_outbox_steps.specs.Steps.{lost as lost_box}
use Rattle.iscsi_ffi_rules.specs.rules.Run.{cids, is_joined, is_lost, kept_back, parting}
use Rattle.iscsi_ffi_rules.specs.rules.Sides.{Side}
use Rattle.iscsi_ffi_steps.specs.Steps.{Answered, Refused, Side as StepsSide, arrive, going, lose, lose_on, refusal_of, refusal_on, says, done, arriving, changed, heard_first, drop_unwritten, happens as steps_happen}
use Rattle.iscsi_ffi_steps.specs.Steps.{known as known_as}
use Rattle.iscsi_ffi_steps.specs.Walk.{in_state, drop_waiting}
use Rattle.iscsi_ffi_rules.specs.rules.Happening.{happens, other, quiet}
use Rattle.iscsi_rules.specs.declared.event.Event.TheVariants.{Arrive}
use Rattle.iscsi_ffi_law.specs.Alike.{GoesAlike}
use Rattle.iscsi_ffi_law.specs.Stands.{Stands}
use Rattle.iscsi_ffi_law.proofs.calls.Ends.{EndsAlike, GoesTo, IsLeft, moved_ends}
use Rattle.iscsi_requests.specs.Cookies.{next_place}

module _ (i : Interface) (s : StepsSide) (r : Side) (h : Stands i s r) (left : IsLeft i r.both.box) where
  -- nothing changes
  pub unchanged : EndsAlike i (going s) r []
  unchanged = moved_ends i s r h s.state.outbox r.both.box left h.outbox h.counts.tracked (λ k. refl) (record {
    long = refl;
    sent = refl;
    queued = λ q within. (h.requests.conns q within).queued;
    undue = h.requests.undue;
    conn = λ q within. refl;
    left = λ q within. refl;
  })

  conns_are : conns_of r.both.box.links ≡ cids i
  conns_are = h.outbox.links.conns ∙ ap (λ (l : Limits). l.cids) h.outbox.sizes.limits

  known_is : (cid : ℕ) → is_known cid i.outbox.session.conns ≡ list_any (λ k. k == cid) (conns_of r.both.box.links)
  known_is cid = known_any cid i.outbox.session.conns ∙ ap (list_any (λ k. k == cid)) (sym conns_are)

  pub unknown : (cid : ℕ) → place_of s.state.outbox cid ≡ None → is_known cid i.outbox.session.conns ≡ false
  unknown cid none = known_is cid ∙ stands_nowhere (is_under_way i.outbox r.both.box.links) i.outbox s.state.outbox r.both.box h.outbox cid none

  any_conn : (links : List Link) (p cid : ℕ) → p < length links → (link_in links p).conn ≡ cid → list_any (λ k. k == cid) (conns_of links) ≡ true
  any_conn [] p cid within is = absurd (let none : ⊥ = omega (arith, within) in none)
  any_conn (l ∷ links) zero cid within is = ap (λ v. v || list_any (λ k. k == cid) (conns_of links)) (eq-eqb l.conn cid is)
  any_conn (l ∷ links) (suc p) cid within is = or_right (l.conn == cid) (list_any (λ k. k == cid) (conns_of links)) (any_conn links p cid (omega (arith, within)) is)

  module _ (cid p : ℕ) (found : place_of s.state.outbox cid ≡ Some p) where
    at : IsPlace r.both.box.links cid p
    at = stands_there (is_under_way i.outbox r.both.box.links) i.outbox s.state.outbox r.both.box h.outbox cid p found

    known : is_known cid i.outbox.session.conns ≡ true
    known = known_is cid ∙ any_conn r.both.box.links p cid at.within at.is

    link_is : link_of r.both.box cid ≡ Some (link_in r.both.box.links p)
    link_is = found_at r.both.box.links cid p (links_apart (is_under_way i.outbox r.both.box.links) i.outbox s.state.outbox r.both.box h.outbox left.distinct) at.within at.is

    st : StandsFor (link_at s.state.outbox p) (link_in r.both.box.links p)
    st = counts_at (is_under_way i.outbox r.both.box.links) i.outbox s.state.outbox r.both.box h.outbox p at.within

    joined_same : is_open_by (link_at s.state.outbox p) ≡ is_joined r cid
    joined_same =
        ap (λ v. v && not (link_at s.state.outbox p).lost) st.joined ∙ ap (λ v. (link_in r.both.box.links p).joined && not v) st.lost
        ∙ sym (ap (λ (x : Option Link). elim x [ Some l ↦ is_open l | None ↦ false ]) link_is)

    lost_same : (link_at s.state.outbox p).lost ≡ is_lost r cid
    lost_same = st.lost ∙ sym (ap (λ (x : Option Link). elim x [ Some l ↦ l.lost | None ↦ true ]) link_is)

    refused_there : refusal_on i s p ≡ rules.refusal_of i r cid
    refused_there =
        ap (λ v. cond (not v) (Some NotJoined) (cond (nat_le i.outbox.session.events (s.event + kept_back i.outbox.session)) (Some Exhausted) (cond (not (steps_box.may_take s.state.outbox)) (Some Busy) None))) joined_same
        ∙ ap (λ n. cond (not (is_joined r cid)) (Some NotJoined) (cond (nat_le i.outbox.session.events (n + kept_back i.outbox.session)) (Some Exhausted) (cond (not (steps_box.may_take s.state.outbox)) (Some Busy) None))) h.event
        ∙ ap (λ v. cond (not (is_joined r cid)) (Some NotJoined) (cond (nat_le i.outbox.session.events (r.both.event + kept_back i.outbox.session)) (Some Exhausted) (cond (not v) (Some Busy) None))) (may_take_is i.outbox s.state.outbox r.both.box h.outbox)
        ∙ sym (ap (λ v. cond (not v) (Some UnknownConnection) (cond (not (is_joined r cid)) (Some NotJoined) (cond (nat_le i.outbox.session.events (r.both.event + kept_back i.outbox.session)) (Some Exhausted) (cond (not (may_take i.outbox r.both.box)) (Some Busy) None)))) known)

  -- a request is refused alike
  pub refused_same : (cid : ℕ) → refusal_of i s cid ≡ rules.refusal_of i r cid
  refused_same cid = by_place (place_of s.state.outbox cid) refl
    where
      by_place : (x : Option ℕ) → place_of s.state.outbox cid ≡ x → elim x [ Some conn ↦ refusal_on i s conn | None ↦ Some UnknownConnection ] ≡ rules.refusal_of i r cid
      by_place (Some p) found = refused_there cid p found
      by_place None none = sym (ap (λ v. cond (not v) (Some UnknownConnection) (cond (not (is_joined r cid)) (Some NotJoined) (cond (nat_le i.outbox.session.events (r.both.event + kept_back i.outbox.session)) (Some Exhausted) (cond (not (may_take i.outbox r.both.box)) (Some Busy) None)))) (unknown cid none))

  pub arrives_refused : (cid : ℕ) (header : List ℕ) (cookie : ℕ) (why : Refusal) → rules.refusal_of i r cid ≡ Some why → GoesAlike i s r (Arrives cid header cookie)
  arrives_refused cid header cookie why is =
      let e = unchanged in
      let by_steps : arrive i cid header cookie s ≡ says s (Refused why) = ap (arriving_by cid header cookie) (refused_same cid ∙ is) in
      let by_rules : rules.arrive i r cid header cookie ≡ rules.answers r (rules.Refused why) = ap (arriving_by_rules cid header cookie) is in
      let g : GoesTo i (arrive i cid header cookie s) (rules.arrive i r cid header cookie)
      = subst (λ (x : Answered). GoesTo i x (rules.arrive i r cid header cookie)) (sym by_steps) (subst (GoesTo i (says s (Refused why))) (sym by_rules) (record { answer = refl; tells = e.tells; stands = e.stands })) in
      record { answer = g.answer; tells = g.tells; stands = g.stands }
    where
      arriving_by : (c : ℕ) (head : List ℕ) (word : ℕ) → Option Refusal → Answered
      arriving_by c head word x = elim x [
        | Some refusal ↦ says s (Refused refusal)
        | None ↦ let place = next_place s.state.cookies in done (arriving i c head place (known_as word place (changed (in_state (heard_first c head)) (going s))))
      ]

      arriving_by_rules : (c : ℕ) (head : List ℕ) (word : ℕ) → Option Refusal → rules.Answered
      arriving_by_rules c head word x = elim x [
        | Some refusal ↦ rules.answers r (rules.Refused refusal)
        | None ↦
            let s' = rules.heard_in i r c head in
            rules.done (happens i (record s' { asked = s'.asked ++ record { event = s'.both.event; cookie = word } ∷ [] }) (Arrive c head))
      ]

  -- and so is a loss
  losing_by : ℕ → Bool → Bool → rules.Answered
  losing_by c v w =
      cond (not v) (rules.answers r (rules.Refused UnknownConnection)) (cond w (rules.answers r (rules.Refused NotJoined))
      (let s' = other i r (outbox.Loses c) in rules.done (cond (is_closed c s'.both.trace) (quiet s') (happens i s' (Arrive c (parting c))))))

  pub loses_unknown : (cid : ℕ) → is_known cid i.outbox.session.conns ≡ false → GoesAlike i s r (Loses cid)
  unfolding losing_by
  loses_unknown cid none = by_place (place_of s.state.outbox cid) refl
    where
      by_place : (x : Option ℕ) → place_of s.state.outbox cid ≡ x → GoesAlike i s r (Loses cid)
      by_place (Some p) found = absurd (false≢true (sym none ∙ known cid p found))
      by_place None found =
          let e = unchanged in
          let g : GoesTo i (lose i cid s) (rules.lose i r cid)
          = subst (λ (x : Option ℕ). GoesTo i (elim x [ Some conn ↦ lose_on i cid conn s | None ↦ says s (Refused UnknownConnection) ]) (rules.lose i r cid)) (sym found)
          (subst (λ v. GoesTo i (says s (Refused UnknownConnection)) (losing_by cid v (is_lost r cid))) (sym none) (record { answer = refl; tells = e.tells; stands = e.stands })) in
          record { answer = g.answer; tells = g.tells; stands = g.stands }

  pub loses_lost : (cid : ℕ) → is_lost r cid ≡ true → GoesAlike i s r (Loses cid)
  unfolding losing_by
  loses_lost cid lost = by_place (place_of s.state.outbox cid) refl
    where
      by_place : (x : Option ℕ) → place_of s.state.outbox cid ≡ x → GoesAlike i s r (Loses cid)
      by_place None found = loses_unknown cid (unknown cid found)
      by_place (Some p) found =
          let e = unchanged in
          let g : GoesTo i (lose i cid s) (rules.lose i r cid)
          = subst (λ (x : Option ℕ). GoesTo i (elim x [ Some conn ↦ lose_on i cid conn s | None ↦ says s (Refused UnknownConnection) ]) (rules.lose i r cid)) (sym found)
          (subst (λ v. GoesTo i (cond v (says s (Refused NotJoined)) (losing_now p)) (rules.lose i r cid)) (sym (lost_same cid p found ∙ lost))
          (subst (λ v. GoesTo i (says s (Refused NotJoined)) (losing_by cid v (is_lost r cid))) (sym (known cid p found))
          (subst (λ v. GoesTo i (says s (Refused NotJoined)) (losing_by cid true v)) (sym lost) (record { answer = refl; tells = e.tells; stands = e.stands })))) in
          record { answer = g.answer; tells = g.tells; stands = g.stands }
        where
          losing_now : ℕ → Answered
          losing_now conn =
              let g = changed (λ d.
              let d' = drop_waiting conn (in_state (λ t. record t { outbox = lost_box cid t.outbox }) d) in
              drop_unwritten (length (of_conn conn d'.state.unwritten.handed)) conn d') (going s) in
              done (cond (link_at s.state.outbox conn).closed g (steps_happen i None (Arrive cid (parting cid)) g))
