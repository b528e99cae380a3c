-- Nothing of a command goes out after the answer to an abort or a Logout by which it is over.
use Rattle.std.proofs.Common.{◌≡◌, ℕ, ◌==◌, ◌+◌, ◌≤◌, ◌||◌, ⊎_elim, cond, true, false, List, [], ◌∷◌, ◌++◌, Option, Some, None, refl, ap, sym, subst, ◌∙◌, arith, eq-eqb}
use Rattle.std.specs.List.{list_any}
use Rattle.std.proofs.lemmas.List.{append_assoc}
use Rattle.std.proofs.lemmas.List.Folds.{list_any-append}
use Rattle.iscsi_rules.specs.declared.effect.Effect.{Effect}
use Rattle.iscsi_outbox_rules.specs.declared.own_pdu.OwnPdu.TheVariants.{OfCommand, OfConnection}
use Rattle.iscsi_outbox_rules.specs.rules.Calls.{Opening, Call}
use Rattle.iscsi_outbox_rules.specs.rules.Boxes.{Pdu, Replies, Owns, Pings, Notices, Outgoing, Handed, Link, Box}
use Rattle.iscsi_outbox_rules.specs.rules.Words.{is_left_phase}
use Rattle.iscsi_outbox_rules.specs.rules.Run.{opened, after_calls}
use Rattle.iscsi_outbox_rules.specs.promises.Deeds.{Deed, deeds_of, items_in, handed_in_deed, FollowsSession}
use Rattle.iscsi_outbox_rules.specs.promises.Scope.{Sent, sent_as, is_taken_out_in, completed_in, says_taken_out}
use Rattle.iscsi_outbox_rules.specs.promises.Silent.{ticket_of, ticket_of_own}
use Rattle.iscsi_outbox_rules.proofs.general.EachLemmas.{EachOf, each-second, each-first_of}
use Rattle.iscsi_outbox_rules.proofs.general.DeedLemmas.{items_in-append}
use Rattle.iscsi_outbox_rules.proofs.general.Chosen.{FromQueue, IsPing, IsNotice, chosen_from}
use Rattle.iscsi_outbox_rules.proofs.general.Cuts.{Cut, cut, Handing, handed-next}
use Rattle.iscsi_outbox_rules.proofs.commands.TicketLemmas.{entries, enters_once, EntersOn, enters_on}
use Rattle.iscsi_outbox_rules.proofs.commands.LeaveLemmas.{leavings, leavings-append, leaves_once}
use Rattle.iscsi_outbox_rules.proofs.commands.CommandRuns.{own_in, own_waiting}
use Rattle.iscsi_outbox_rules.proofs.commands.LeftRuns.{IsSilent, two_empty}
use Rattle.iscsi_outbox_rules.proofs.commands.TaskRuns.{AreIn}
use Rattle.iscsi_outbox_rules.proofs.commands.TaskFits.{Fits, fits-first, fits_all}
use Rattle.iscsi_outbox_rules.proofs.commands.TaskLives.{Lives, lives_calls, lives_start}
use Rattle.iscsi_outbox_rules.proofs.aborts.SilentCalls.{silent_after}
use Rattle.iscsi_outbox_rules.proofs.aborts.SilentItems.{sent_split, said_over, Uncompleted, none_completes}

-- what stands first and is the command's own is seen
shows_own : (t c : ℕ) (out : Outgoing) → ticket_of_own out.pdu ≡ Some t → own_in t c out ≡ [] → ⊥
shows_own t c out is none = by_pdu (out.pdu) is none
  where
    by_pdu : (p : Pdu) → ticket_of_own p ≡ Some t → own_in t c (record out { pdu = p }) ≡ [] → ⊥
    by_pdu (Replies reply) e empty = cc
    by_pdu (Owns (OfCommand ticket header)) e empty =
        let same : ticket ≡ t = cc in
        let shown : own_in t c (record out { pdu = Owns (OfCommand ticket header) }) ≡ OfCommand ticket header ∷ [] = ap (λ v. cond v (OfCommand ticket header ∷ []) []) (eq-eqb ticket t same) in
        let no : OfCommand ticket header ∷ [] ≡ [] = sym shown ∙ empty in
        cc
    by_pdu (Owns (OfConnection conn header)) e empty = cc
    by_pdu (Pings tag) e empty = cc
    by_pdu Notices e empty = cc

module _ (o : Opening) (cs : List Call) (follows : FollowsSession o cs) (t : ℕ) (since after : List Deed) (later : Deed) (d : ℕ) (g : Handed)
    (whole : since ++ later ∷ after ≡ deeds_of o cs) (shown : handed_in_deed later ≡ Some (d, g)) (taken : list_any (is_taken_out_in t) (items_in since) ≡ true) where
  parts : items_in since ++ items_in (later ∷ after) ≡ items_in (deeds_of o cs)
  parts = sym (items_in-append since (later ∷ after)) ∙ ap items_in whole

  -- no SCSI Response of the command
  no_response : (s : Sent) → sent_as (items_in since) g.out ≡ Some s → completed_in s.item ≡ Some t → ⊥
  no_response s is completed =
      let k = sent_split (items_in since) g.out s is in
      let once : leavings t (items_in (deeds_of o cs)) ≤ 1 = leaves_once t o cs follows in
      let counted : leavings t (items_in since ++ items_in (later ∷ after)) ≡ leavings t (items_in since) + leavings t (items_in (later ∷ after)) = leavings-append t (items_in since) (items_in (later ∷ after)) in
      let same : leavings t (items_in since ++ items_in (later ∷ after)) ≡ leavings t (items_in (deeds_of o cs)) = ap (leavings t) parts in
      let none : EachOf (Uncompleted t) (items_in since) = none_completes t (items_in since) (omega (arith, once, counted, same)) taken in
      (each-second (Uncompleted t) s.before (s.item ∷ k.0) (subst (EachOf (Uncompleted t)) (sym k.1) none)).0 completed

  -- no own PDU of it
  no_own : ticket_of_own g.out.pdu ≡ Some t → ⊥
  no_own own =
      ⊎_elim
      (λ (q : FromQueue o b link out).
      let queue : own_in t home.0 out ++ own_waiting t home.0 q.rest ≡ [] = sym (ap (own_waiting t home.0) q.queue_is) ∙ silent in
      shows_own t home.0 out own' (two_empty t home.0 (own_in t home.0 out) (own_waiting t home.0 q.rest) queue).0)
      (⊎_elim
      (λ (p : IsPing o b link out). let no : None ≡ Some t = sym (ap (λ (x : Outgoing). ticket_of_own x.pdu) p.is) ∙ own' in cc)
      (λ (p : IsNotice o b link out). let no : None ≡ Some t = sym (ap (λ (x : Outgoing). ticket_of_own x.pdu) p.is) ∙ own' in cc))
      (chosen_from o b link out n.chosen_is).source
    where
      k : Cut o (opened o) cs since later after
      k = cut o (opened o) cs since later after whole

      b : Box
      b = after_calls o (opened o) k.first

      n : Handing o b d g
      n = (handed-next o b k.call d g (ap handed_in_deed (sym k.deed_is) ∙ shown)).1

      link : Link
      link = n.link

      out : Outgoing
      out = n.out

      own' : ticket_of_own out.pdu ≡ Some t
      own' = ap (λ (x : Handed). ticket_of_own x.out.pdu) (sym n.is) ∙ own

      items : List (List Effect)
      items = items_in (deeds_of o k.first)

      split : items ++ items_in (later ∷ after) ≡ items_in (deeds_of o cs)
      split = ap (λ ds. items_in ds ++ items_in (later ∷ after)) (sym k.before_is) ∙ parts

      once : entries t (items_in (deeds_of o cs)) ≤ 1
      once = enters_once t o cs follows

      home : (c : ℕ) × EachOf (EntersOn t c) (items_in (deeds_of o cs))
      home = enters_on t (items_in (deeds_of o cs)) once

      lives : Lives t (0 + leavings t items) (list_any (is_taken_out_in t) items) b.tasks
      lives = lives_calls t o 0 false (opened o) k.first (fits-first t 0 items (items_in (later ∷ after)) (subst (Fits t 0) (sym split) (fits_all t o cs follows))) (lives_start t)

      left : AreIn is_left_phase t b.tasks
      left = lives.left (ap (λ ds. list_any (is_taken_out_in t) (items_in ds)) (sym k.before_is) ∙ taken)

      silent : own_waiting t home.0 link.queue ≡ []
      silent = each-first_of (IsSilent t home.0) (λ (m : Link). m.conn == d) b.links link n.found (silent_after t home.0 o (items_in (deeds_of o cs)) once home.1 k.first (items_in (later ∷ after)) split left)

-- nothing of a command goes out once it was taken out
pub none_goes : (o : Opening) (cs : List Call) → FollowsSession o cs → (t : ℕ) (since after : List Deed) (later : Deed) (d : ℕ) (g : Handed) → since ++ later ∷ after ≡ deeds_of o cs → handed_in_deed later ≡ Some (d, g)
    → list_any (is_taken_out_in t) (items_in since) ≡ true → ticket_of (items_in since) g.out ≡ Some t → ⊥
none_goes o cs follows t since after later d g whole shown taken of = by_own (ticket_of_own g.out.pdu) refl of
  where
    by_sent : (x : Option Sent) → sent_as (items_in since) g.out ≡ x → elim x [ Some s ↦ completed_in s.item | None ↦ None ] ≡ Some t → ⊥
    by_sent None is e = cc
    by_sent (Some s) is e = no_response o cs follows t since after later d g whole shown taken s is e

    by_own : (x : Option ℕ) → ticket_of_own g.out.pdu ≡ x → elim x [ Some ticket ↦ Some ticket | None ↦ elim (sent_as (items_in since) g.out) [ Some s ↦ completed_in s.item | None ↦ None ] ] ≡ Some t → ⊥
    by_own (Some ticket) is e = no_own o cs follows t since after later d g whole shown taken (is ∙ e)
    by_own None is e = by_sent (sent_as (items_in since) g.out) refl e

-- nor after the answer by which it is over, as that
pub taken_out_silent : (o : Opening) (cs : List Call) → FollowsSession o cs → (before between after : List Deed) (answer later : Deed) (c d : ℕ) (h g : Handed) (t : ℕ) → before ++ answer ∷ (between ++ later ∷ after) ≡ deeds_of o cs
    → handed_in_deed answer ≡ Some (c, h) → handed_in_deed later ≡ Some (d, g) → says_taken_out o (items_in before) h.out t ≡ true → ticket_of (items_in (before ++ answer ∷ between)) g.out ≡ Some t → ⊥
taken_out_silent o cs follows before between after answer later c d h g t whole shown shown_later over of = none_goes o cs follows t since after later d g whole' shown_later taken of
  where
    since : List Deed
    since = before ++ answer ∷ between

    whole' : since ++ later ∷ after ≡ deeds_of o cs
    whole' = append_assoc before (answer ∷ between) (later ∷ after) ∙ whole

    taken : list_any (is_taken_out_in t) (items_in since) ≡ true
    taken =
        ap (list_any (is_taken_out_in t)) (items_in-append before (answer ∷ between)) ∙ list_any-append (is_taken_out_in t) (items_in before) (items_in (answer ∷ between))
        ∙ ap (λ v. v || list_any (is_taken_out_in t) (items_in (answer ∷ between))) (said_over t o (items_in before) h.out over)
