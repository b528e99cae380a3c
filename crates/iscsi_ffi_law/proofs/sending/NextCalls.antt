-- The next PDU of a connection is asked for: whether it is blocked, and what it gives.
use Rattle.std.proofs.Common.{◌≡◌, ℕ, ◌^◌, ◌<◌, ◌==◌, ◌&&◌, not, cond, nat_le, Bool, true, false, [], length, get_or, Option, Some, None, refl, ap, sym, subst, ◌∙◌, arith}
use Rattle.std.specs.List.{list_any}
use Rattle.std.proofs.lemmas.Bool.{leb-false, not-true}
use Rattle.std.proofs.lemmas.List.{get_or-map}
use Rattle.iscsi_rules.proofs.general.BoolLemmas.{and_parts}
use Rattle.iscsi_arrivals.specs.Counts.{is_open_by}
use Rattle.iscsi_arrivals.specs.Standing.{StandsFor}
use Rattle.iscsi_outbox_rules.specs.rules.Calls as outbox
use Rattle.iscsi_outbox_rules.specs.rules.Boxes.{Box, Handed, Link, Outgoing}
use Rattle.iscsi_outbox_rules.specs.rules.Handing.{Given, Hands, IsOver, Nothing, chosen, given, given_on, handed_as, is_over, link_of}
use Rattle.iscsi_outbox_rules.specs.rules.Run.{after_call, new_link}
use Rattle.iscsi_outbox_rules.specs.rules.Words.{is_open, unwritten}
use Rattle.iscsi_outbox_rules.proofs.general.Chosen.{chosen_from}
use Rattle.iscsi_outbox_law.specs.private.Commands.{is_under_way, link_in}
use Rattle.iscsi_outbox_law.specs.rules.Said.{given_said, handed_said}
use Rattle.iscsi_outbox_law.proofs.sending.Giving.{gives_answered}
use Rattle.iscsi_outbox_law.proofs.general.PairLemmas.{pairs-length}
use Rattle.iscsi_outbox_law.proofs.general.PlaceLemmas.{AreApart as LinksApart, IsPlace, conns_of, found_at, found_nowhere}
use Rattle.iscsi_outbox_law.proofs.connections.Standing.{counts_at, links_apart, stands_nowhere, stands_there}
use Rattle.iscsi_outbox_steps.specs.declared.given.Given.{Given as StepsGiven}
use Rattle.iscsi_outbox_steps.specs.declared.given.Given.TheVariants.{Hands as StepsHands, IsOver as StepsIsOver, Nothing as StepsNothing}
use Rattle.iscsi_outbox_steps.specs.State.{Limits, link_at, place_of}
use Rattle.iscsi_outbox_steps.specs.Steps as steps_box
use Rattle.iscsi_requests.specs.Conns.{of_conn}
use Rattle.iscsi_requests.specs.Cookies.{uses_at}
use Rattle.iscsi_ffi_rules.specs.rules.Calls.{Interface, Nexts}
use Rattle.iscsi_ffi_rules.specs.rules.Happening.{other, quiet}
use Rattle.iscsi_ffi_rules.specs.rules.Needs.{left_to_write}
use Rattle.iscsi_ffi_rules.specs.rules.Run as rules
use Rattle.iscsi_ffi_rules.specs.rules.Run.{cids}
use Rattle.iscsi_ffi_rules.specs.rules.Sides.{Side}
use Rattle.iscsi_ffi_steps.specs.Steps.{Blocked, NoneGoes, NoneIsLeft, Side as StepsSide, asleep, going, hand_out, is_blocked, next_on, says}
use Rattle.iscsi_ffi_law.specs.Alike.{GoesAlike}
use Rattle.iscsi_ffi_law.specs.Fit.{IsFit}
use Rattle.iscsi_ffi_law.specs.Parts.{IsAbout}
use Rattle.iscsi_ffi_law.specs.Stands.{Stands}
use Rattle.iscsi_ffi_law.proofs.calls.Ends.{EndsAlike, GoesTo, IsLeft, found_fit}
use Rattle.iscsi_ffi_law.proofs.calls.Moved.{with_box}
use Rattle.iscsi_ffi_law.proofs.sending.Next.{box_is, hand_out_goes, idle_ends}
use Rattle.iscsi_ffi_law.proofs.sending.Sleeping.{sleeps_nowhere, sleeps_there}
use Rattle.iscsi_ffi_law.proofs.calls.Finish.{as_many_links}

module _ (i : Interface) (s : StepsSide) (r : Side) (h : Stands i s r) (cid : ℕ) (fit : IsFit i r.both.box (after_call i.outbox r.both.box (outbox.Nexts cid)))
    (few_uses : (place : ℕ) → uses_at place s.state.cookies < 4294967295) (few_replies : r.both.box.sent < 2 ^ 64) where
  apart_links : LinksApart (conns_of r.both.box.links)
  apart_links = links_apart (is_under_way i.outbox r.both.box.links) i.outbox s.state.outbox r.both.box h.outbox fit.distinct

  conns_are : conns_of r.both.box.links ≡ cids i
  conns_are = h.outbox.links.conns ∙ ap (λ (l : Limits). l.cids) h.outbox.sizes.limits

  left : IsLeft i r.both.box
  left = found_fit i r.both.box (after_call i.outbox r.both.box (outbox.Nexts cid)) fit

  -- what the rules do, by what is found
  abbrev rest_of : Given → rules.Answered
  rest_of x = elim x [
    | Hands g ↦ record { told = quiet (rules.handed_on cid g.out (other i r (outbox.Nexts cid))); answer = rules.Goes g (rules.cookie_handed r cid g.out) }
    | Nothing ↦ rules.answers (rules.asleep cid r) rules.NoneGoes
    | IsOver ↦ rules.answers (rules.asleep cid r) rules.NoneIsLeft
  ]

  module _ (p : ℕ) (at : IsPlace r.both.box.links cid p) where
    abbrev l : Link
    l = link_in r.both.box.links p

    found : link_of r.both.box cid ≡ Some (link_in r.both.box.links p)
    found = found_at r.both.box.links cid p apart_links at.within at.is

    st : StandsFor (link_at s.state.outbox p) (link_in r.both.box.links p)
    st = counts_at (is_under_way i.outbox r.both.box.links) i.outbox s.state.outbox r.both.box h.outbox p at.within

    open_same : is_open_by (link_at s.state.outbox p) ≡ is_open (link_in r.both.box.links p)
    open_same = ap (λ v. v && not (link_at s.state.outbox p).lost) st.joined ∙ ap (λ v. (link_in r.both.box.links p).joined && not v) st.lost

    abbrev blocked : Bool
    blocked = is_open (link_in r.both.box.links p) && nat_le i.unwritten (length (unwritten (link_in r.both.box.links p)))

    many_same : is_open (link_in r.both.box.links p) ≡ true → length (of_conn p s.state.unwritten.handed) ≡ length (unwritten (link_in r.both.box.links p))
    many_same opens =
        let kept : (link_in r.both.box.links p).lost ≡ false = not-true (link_in r.both.box.links p).lost (and_parts (link_in r.both.box.links p).joined (not (link_in r.both.box.links p).lost) opens).1 in
        pairs-length (IsAbout h.names h.notes r (link_in r.both.box.links p).conn) (of_conn p s.state.unwritten.handed) (left_to_write (link_in r.both.box.links p)) (h.requests.conns p at.within).written
        ∙ ap (λ v. length (cond v [] (unwritten (link_in r.both.box.links p)))) kept

    blocked_same : is_blocked i p s.state ≡ (is_open (link_in r.both.box.links p) && nat_le i.unwritten (length (unwritten (link_in r.both.box.links p))))
    blocked_same = ap (λ v. v && nat_le i.unwritten (length (of_conn p s.state.unwritten.handed))) open_same ∙ by_open (is_open (link_in r.both.box.links p)) refl
      where
        by_open : (v : Bool) → is_open (link_in r.both.box.links p) ≡ v → (v && nat_le i.unwritten (length (of_conn p s.state.unwritten.handed))) ≡ (v && nat_le i.unwritten (length (unwritten (link_in r.both.box.links p))))
        by_open false is = refl
        by_open true is = ap (nat_le i.unwritten) (many_same is)

    blocked_by_rules : rules.is_blocked i r cid ≡ (is_open (link_in r.both.box.links p) && nat_le i.unwritten (length (unwritten (link_in r.both.box.links p))))
    blocked_by_rules = ap (λ (x : Option Link). elim x [ Some m ↦ is_open m && nat_le i.unwritten (length (unwritten m)) | None ↦ false ]) found

    given_is : given i.outbox r.both.box cid ≡ given_on i.outbox r.both.box (link_in r.both.box.links p)
    given_is = ap (λ (x : Option Link). elim x [ Some m ↦ given_on i.outbox r.both.box m | None ↦ Nothing ]) found

    -- what is handed out was chosen
    picked : (g : Handed) → given i.outbox r.both.box cid ≡ Hands g → chosen i.outbox r.both.box (link_in r.both.box.links p) ≡ Some g.out
    picked g gives = by_chosen (chosen i.outbox r.both.box (link_in r.both.box.links p)) refl
      where
        by_chosen : (x : Option Outgoing) → chosen i.outbox r.both.box (link_in r.both.box.links p) ≡ x → chosen i.outbox r.both.box (link_in r.both.box.links p) ≡ Some g.out
        by_chosen (Some out) is =
            let same : Hands (handed_as i.outbox r.both.box (link_in r.both.box.links p) out) ≡ Hands g
            = sym (ap (λ (x : Option Outgoing). elim x [ Some o ↦ Hands (handed_as i.outbox r.both.box (link_in r.both.box.links p) o) | None ↦ cond (is_over r.both.box (link_in r.both.box.links p)) IsOver Nothing ]) is) ∙ sym given_is ∙ gives in
            let it : handed_as i.outbox r.both.box (link_in r.both.box.links p) out ≡ g = cc in
            is ∙ ap (λ (x : Handed). Some x.out) it
        by_chosen None is =
            let same : cond (is_over r.both.box (link_in r.both.box.links p)) IsOver Nothing ≡ Hands g
            = sym (ap (λ (x : Option Outgoing). elim x [ Some o ↦ Hands (handed_as i.outbox r.both.box (link_in r.both.box.links p) o) | None ↦ cond (is_over r.both.box (link_in r.both.box.links p)) IsOver Nothing ]) is) ∙ sym given_is ∙ gives in
            absurd (neither (is_over r.both.box (link_in r.both.box.links p)) same)
          where
            neither : (v : Bool) → cond v IsOver Nothing ≡ Hands g → ⊥
            neither true e = cc
            neither false e = cc

    cid_there : get_or (cids i) p 0 ≡ cid
    cid_there = ap (λ cs. get_or cs p 0) (sym conns_are) ∙ get_or-map (λ (m : Link). m.conn) r.both.box.links p (new_link 0) 0 at.within ∙ at.is

    apart_cids : LinksApart (cids i)
    apart_cids = subst LinksApart conns_are apart_links

    short : p < length (cids i)
    short = let many = as_many_links i s.state r h.outbox in omega (arith, many, at.within)

    sleeping : EndsAlike i (going (asleep p s)) (rules.asleep cid r) []
    sleeping = sleeps_there i s r h left p cid apart_cids short cid_there

    -- by what is given
    given_goes : (is_open (link_in r.both.box.links p) && nat_le i.unwritten (length (unwritten (link_in r.both.box.links p)))) ≡ false → (x : Given) → given i.outbox r.both.box cid ≡ x
        → GoesTo i (elim (given_said x) [ StepsHands g ↦ hand_out cid p g s | StepsNothing ↦ says (asleep p s) NoneGoes | StepsIsOver ↦ says (asleep p s) NoneIsLeft ]) (rest_of x)
    given_goes free Nothing is = let e = sleeping in record { answer = refl; tells = e.tells; stands = e.stands }
    given_goes free IsOver is = let e = sleeping in record { answer = refl; tells = e.tells; stands = e.stands }
    given_goes free (Hands g) is =
        let picks = picked g is in
        let opens : is_open (link_in r.both.box.links p) ≡ true = (chosen_from i.outbox r.both.box (link_in r.both.box.links p) g.out picks).open_is in
        let few : nat_le i.unwritten (length (unwritten (link_in r.both.box.links p))) ≡ false = sym (ap (λ v. v && nat_le i.unwritten (length (unwritten (link_in r.both.box.links p)))) opens) ∙ free in
        let less : length (unwritten (link_in r.both.box.links p)) < i.unwritten = leb-false i.unwritten (length (unwritten (link_in r.both.box.links p))) few in
        subst (λ (b : Box). GoesTo i (hand_out cid p (handed_said g) s) (record { told = quiet (rules.handed_on cid g.out (with_box r b)); answer = rules.Goes g (rules.cookie_handed r cid g.out) }))
        (sym (box_is i s r h cid fit few_uses few_replies p at opens (omega (arith, less, many_same opens)) g is picks))
        (hand_out_goes i s r h cid fit few_uses few_replies p at opens (omega (arith, less, many_same opens)) g is picks)

    there_goes : GoesTo i (next_on i cid p s) (rules.next i r cid)
    there_goes = by_blocked (is_open (link_in r.both.box.links p) && nat_le i.unwritten (length (unwritten (link_in r.both.box.links p)))) refl
      where
        by_blocked : (v : Bool) → (is_open (link_in r.both.box.links p) && nat_le i.unwritten (length (unwritten (link_in r.both.box.links p)))) ≡ v → GoesTo i (next_on i cid p s) (rules.next i r cid)
        by_blocked true is =
            let e = idle_ends i s r h cid fit few_uses few_replies in
            subst (λ v. GoesTo i (cond v (says s Blocked) (elim (steps_given) [ StepsHands g ↦ hand_out cid p g s | StepsNothing ↦ says (asleep p s) NoneGoes | StepsIsOver ↦ says (asleep p s) NoneIsLeft ])) (rules.next i r cid)) (sym (blocked_same ∙ is))
            (subst (λ v. GoesTo i (says s Blocked) (cond v (rules.answers r rules.Blocked) (rest_of (given i.outbox r.both.box cid)))) (sym (blocked_by_rules ∙ is)) (record { answer = refl; tells = e.tells; stands = e.stands }))
          where
            steps_given : StepsGiven
            steps_given = steps_box.given cid s.state.outbox
        by_blocked false is =
            subst (λ v. GoesTo i (cond v (says s Blocked) (elim (steps_box.given cid s.state.outbox) [ StepsHands g ↦ hand_out cid p g s | StepsNothing ↦ says (asleep p s) NoneGoes | StepsIsOver ↦ says (asleep p s) NoneIsLeft ])) (rules.next i r cid)) (sym (blocked_same ∙ is))
            (subst (λ v. GoesTo i (elim (steps_box.given cid s.state.outbox) [ StepsHands g ↦ hand_out cid p g s | StepsNothing ↦ says (asleep p s) NoneGoes | StepsIsOver ↦ says (asleep p s) NoneIsLeft ]) (cond v (rules.answers r rules.Blocked) (rest_of (given i.outbox r.both.box cid)))) (sym (blocked_by_rules ∙ is))
            (subst (λ (x : StepsGiven). GoesTo i (elim x [ StepsHands g ↦ hand_out cid p g s | StepsNothing ↦ says (asleep p s) NoneGoes | StepsIsOver ↦ says (asleep p s) NoneIsLeft ]) (rest_of (given i.outbox r.both.box cid)))
            (sym (gives_answered i.outbox s.state.outbox r.both.box h.outbox fit.sound fit.distinct fit.few cid)) (given_goes is (given i.outbox r.both.box cid) refl)))

  nowhere_goes : place_of s.state.outbox cid ≡ None → GoesTo i (says s NoneGoes) (rules.next i r cid)
  nowhere_goes none =
      let absent : list_any (λ k. k == cid) (conns_of r.both.box.links) ≡ false = stands_nowhere (is_under_way i.outbox r.both.box.links) i.outbox s.state.outbox r.both.box h.outbox cid none in
      let e = sleeps_nowhere i s r h left cid (subst (λ cs. list_any (λ k. k == cid) cs ≡ false) conns_are absent) in
      let missing : link_of r.both.box cid ≡ None = found_nowhere r.both.box.links cid absent in
      let rules_are : rules.next i r cid ≡ rules.answers (rules.asleep cid r) rules.NoneGoes
      = ap (λ (x : Option Link). cond (elim x [ Some m ↦ is_open m && nat_le i.unwritten (length (unwritten m)) | None ↦ false ]) (rules.answers r rules.Blocked) (rest_of (elim x [ Some m ↦ given_on i.outbox r.both.box m | None ↦ Nothing ]))) missing in
      subst (GoesTo i (says s NoneGoes)) (sym rules_are) (record { answer = refl; tells = e.tells; stands = e.stands })

  all_goes : (y : Option ℕ) → place_of s.state.outbox cid ≡ y → GoesTo i (elim y [ Some conn ↦ next_on i cid conn s | None ↦ says s NoneGoes ]) (rules.next i r cid)
  all_goes None none = nowhere_goes none
  all_goes (Some p) found = there_goes p (stands_there (is_under_way i.outbox r.both.box.links) i.outbox s.state.outbox r.both.box h.outbox cid p found)

  pub nexts_alike : GoesAlike i s r (Nexts cid)
  nexts_alike = let e = all_goes (place_of s.state.outbox cid) refl in record { answer = e.answer; tells = e.tells; stands = e.stands }
