-- As a command's SCSI Response goes out none of its own PDUs waits: all that were taken were handed out.
use Rattle.std.proofs.Common.{◌≡◌, ℕ, ⊎_elim, ◌==◌, ◌+◌, ◌≤◌, ◌&&◌, ◌||◌, not, Bool, true, false, List, [], ◌∷◌, ◌++◌, map, filter, Option, Some, None, refl, ap, sym, subst, ◌∙◌, arith}
use Rattle.std.specs.List.{list_any}
use Rattle.std.proofs.lemmas.Bool.{false≢true, eqb-true}
use Rattle.std.proofs.lemmas.List.{append_assoc, append-nil}
use Rattle.std.proofs.lemmas.List.Folds.{list_any-append}
use Rattle.iscsi_rules.specs.declared.effect.Effect.{Effect}
use Rattle.iscsi_rules.proofs.general.BoolLemmas.{and_parts, or_none}
use Rattle.iscsi_rules.proofs.general.ListLemmas.{first_itself}
use Rattle.iscsi_outbox_rules.specs.rules.Calls.{Opening, Call}
use Rattle.iscsi_outbox_rules.specs.rules.Boxes.{Pdu, Task, Outgoing, Handed, Link, Box}
use Rattle.iscsi_outbox_rules.specs.rules.Words.{is_live_phase}
use Rattle.iscsi_outbox_rules.specs.rules.Own.{live_task}
use Rattle.iscsi_outbox_rules.specs.rules.Run.{new_link, opened, after_call, after_calls, answered}
use Rattle.iscsi_outbox_rules.specs.promises.Deeds.{Deed, deeds_of, items_in, items_of_call, handed_in_deed, FollowsSession}
use Rattle.iscsi_outbox_rules.specs.promises.Order.{is_of_command, own_handed, own_taken, completes}
use Rattle.iscsi_outbox_rules.specs.promises.Scope.{Sent, nth, sent_by, sent_as, is_taken_out_in, completed_in}
use Rattle.iscsi_outbox_rules.specs.promises.Silent.{ticket_of_own}
use Rattle.iscsi_outbox_rules.proofs.general.EachLemmas.{EachOf, each-first, each-second, each-weaken, each-first_of}
use Rattle.iscsi_outbox_rules.proofs.general.Cuts.{Cut, cut, keeps, Handing, handed-next}
use Rattle.iscsi_outbox_rules.proofs.general.FoundLemmas.{found-conn}
use Rattle.iscsi_outbox_rules.proofs.general.DeedLemmas.{items_in-append, items_in-more}
use Rattle.iscsi_outbox_rules.proofs.general.Chosen.{FromQueue, IsPing, IsNotice, chosen_from}
use Rattle.iscsi_outbox_rules.proofs.general.Callwise.{call_keeps}
use Rattle.iscsi_outbox_rules.proofs.order.SentLemmas.{one_reply_before, sent_by-firsts}
use Rattle.iscsi_outbox_rules.proofs.order.PlaceRuns.{IsSent, IsOwn}
use Rattle.iscsi_outbox_rules.proofs.order.OnceTheorem.{Reply_moment, reply_moment}
use Rattle.iscsi_outbox_rules.proofs.commands.TicketLemmas.{entries, enters_once, EntersOn}
use Rattle.iscsi_outbox_rules.proofs.commands.LeaveLemmas.{leaving, leavings, leavings-append, leaves_once}
use Rattle.iscsi_outbox_rules.proofs.commands.CommandRuns.{own_in, own_waiting, handed_of, taken_of, CommandStands}
use Rattle.iscsi_outbox_rules.proofs.commands.CommandTheorem.{Both, both_kept, both_start}
use Rattle.iscsi_outbox_rules.proofs.general.TaskWalks.{is_past_phase}
use Rattle.iscsi_outbox_rules.proofs.commands.TaskRuns.{AreIn}
use Rattle.iscsi_outbox_rules.proofs.commands.TicketRuns.{OfItem, OfOwn, Of, OfCommands, OfStands, of_calls, of_starts, names_command}
use Rattle.iscsi_outbox_rules.proofs.commands.TaskFits.{Fits, fits-first, fits-second, fits_all}
use Rattle.iscsi_outbox_rules.proofs.commands.TaskLives.{Lives, moved, lives_call, lives_start}
use Rattle.iscsi_outbox_rules.proofs.aborts.SilentItems.{some_sent, Among, firsts_among, Uncompleted, completed_leaves, none_completes}
use Rattle.iscsi_outbox_rules.proofs.commands.ResponseHomes.{StaysHome, homes}
use Rattle.iscsi_outbox_rules.proofs.commands.ResponseRuns.{Behind, is_kept, Flows}
use Rattle.iscsi_outbox_rules.proofs.commands.ResponseCalls.{FlowsNow, Unanswered, AtHome, flows_call}

-- ---- through all calls

module _ (t c : ℕ) where
  -- no reply of it waits while it is live
  unanswered : (ds : List Deed) (items : List (List Effect)) (b : Box) → EachOf (OfCommands ds items) b.links → (1 ≤ leavings t items → AreIn is_past_phase t b.tasks) → (x : Task) → live_task b t ≡ Some x
      → EachOf (λ (l : Link). Unanswered t c l.queue) b.links
  unanswered ds items b waits past x found =
      each-weaken (OfCommands ds items) (λ (l : Link). Unanswered t c l.queue) b.links
      (λ l k. each-weaken (Of items l.conn) (λ (y : Outgoing). (place : ℕ) → y.sent ≡ Some place → y.ticket ≡ Some t → ⊥) l.queue
      (λ y e place sent ticket. ⊎_elim (λ (s : OfItem items y). completed y s ticket) (λ (own : OfOwn y). let no : None ≡ Some place = sym own.none ∙ sent in cc) e) k) waits
    where
      live : ((x.ticket == t) ≡ true) × (is_live_phase x.phase ≡ true)
      live = and_parts (x.ticket == t) (is_live_phase x.phase) (first_itself (λ (y : Task). (y.ticket == t) && is_live_phase y.phase) b.tasks x found)

      unpast : (v : Bool) → v ≡ true → not v ≡ true → ⊥
      unpast true is isnt = false≢true isnt
      unpast false is isnt = false≢true is

      completed : (y : Outgoing) → OfItem items y → y.ticket ≡ Some t → ⊥
      completed y s ticket =
          let a : Among [] items s.reply = firsts_among [] items s.place s.reply s.nth_is in
          let itself : 1 ≤ leaving t s.reply.item = completed_leaves t s.reply.item (sym s.ticket_is ∙ ticket) in
          let counted : leavings t (s.reply.before ++ s.reply.item ∷ a.rest) ≡ leavings t s.reply.before + leavings t (s.reply.item ∷ a.rest) = leavings-append t s.reply.before (s.reply.item ∷ a.rest) in
          let same : leavings t (s.reply.before ++ s.reply.item ∷ a.rest) ≡ leavings t items = ap (leavings t) a.whole in
          let left : 1 ≤ leavings t items = omega (arith, itself, counted, same) in
          unpast (is_live_phase x.phase) live.1
          (each-first_of (λ (y : Task). y.ticket ≡ t → is_past_phase y.phase ≡ true) (λ (y : Task). (y.ticket == t) && is_live_phase y.phase) b.tasks x found (past left) (eqb-true x.ticket t live.0))

  module _ (o : Opening) (all : List (List Effect)) (once : entries t all ≤ 1) (on : EachOf (EntersOn t c) all) (fits : Fits t 0 all) (apart : EachOf (λ item. is_taken_out_in t item ≡ false) all) where
    abbrev LivesNow : List Deed → Box → Type 0
    LivesNow ds b = Lives t (leavings t (items_in ds)) (list_any (is_taken_out_in t) (items_in ds)) b.tasks

    -- what stands while more may come
    abbrev Onward : List Deed → Box → Type 0
    Onward ds b = (rest : List (List Effect)) → items_in ds ++ rest ≡ all → LivesNow ds b × FlowsNow t c ds b

    abbrev Holds : List Deed → Box → Type 0
    Holds ds b = Both t c o all once on ds b × (OfStands ds b × Onward ds b)

    kept : (ds : List Deed) (b : Box) (call : Call) → Holds ds b → Holds (ds ++ (call, answered o b call) ∷ []) (after_call o b call)
    kept ds b call h = (both_kept t c o all once on ds b call h.0, (call_keeps o OfCommands Of (of_calls o) ds b call h.1.0, onward))
      where
        items : List (List Effect)
        items = items_of_call call

        d : Deed
        d = (call, answered o b call)

        p : List Effect → Bool
        p = is_taken_out_in t

        onward : Onward (ds ++ d ∷ []) (after_call o b call)
        onward rest whole = (lives, flows_call t c o ds b call h.0.0 these home now.1)
          where
            parts : items_in ds ++ (items ++ rest) ≡ all
            parts = sym (append_assoc (items_in ds) items rest) ∙ ap (λ its. its ++ rest) (sym (items_in-more ds d)) ∙ whole

            now : LivesNow ds b × FlowsNow t c ds b
            now = h.1.1 (items ++ rest) parts

            these : EachOf (λ item. is_taken_out_in t item ≡ false) items
            these = each-first (λ item. is_taken_out_in t item ≡ false) items rest (each-second (λ item. is_taken_out_in t item ≡ false) (items_in ds) (items ++ rest) (subst (EachOf (λ item. is_taken_out_in t item ≡ false)) (sym parts) apart))

            stands : CommandStands t c (entries t (items_in ds)) ds b
            stands = h.0.1 (items ++ rest) parts

            home : AtHome t c b
            home = record { homes = stands.homes; unanswered = unanswered ds (items_in ds) b h.1.0.links now.0.past }

            fit : Fits t (leavings t (items_in ds)) items
            fit =
                fits-first t (leavings t (items_in ds)) items rest
                (subst (λ l. Fits t l (items ++ rest)) (let z : 0 + leavings t (items_in ds) ≡ leavings t (items_in ds) = omega arith in z) (fits-second t 0 (items_in ds) (items ++ rest) (subst (Fits t 0) (sym parts) fits)))

            lives : LivesNow (ds ++ d ∷ []) (after_call o b call)
            lives =
                moved t (leavings t (items_in ds) + leavings t items) (leavings t (items_in (ds ++ d ∷ []))) (list_any p (items_in ds) || list_any p items) (list_any p (items_in (ds ++ d ∷ []))) (after_call o b call).tasks
                (sym (ap (leavings t) (items_in-more ds d) ∙ leavings-append t (items_in ds) items)) (sym (ap (list_any p) (items_in-more ds d) ∙ list_any-append p (items_in ds) items))
                (lives_call t o (leavings t (items_in ds)) (list_any p (items_in ds)) b call fit now.0)

    new_flows : (cs : List (ℕ × ℕ)) → EachOf (Flows t c [] []) (map (λ (x : ℕ × ℕ). new_link x.0) cs)
    new_flows [] = tt
    new_flows (x ∷ cs) = (record { whole = λ at still. refl; gone = λ no. refl; entries = tt; behind = tt }, new_flows cs)

    start : Holds [] (opened o)
    start = (both_start t c o all once on, (of_starts o, (λ rest whole. (lives_start t, record { links = new_flows o.session.conns; undue = tt }))))

    pub flows_after : (cs : List Call) (rest : List (List Effect)) → items_in (deeds_of o cs) ++ rest ≡ all → FlowsNow t c (deeds_of o cs) (after_calls o (opened o) cs)
    flows_after cs rest whole = let h : Holds (deeds_of o cs) (after_calls o (opened o) cs) = keeps o Holds kept [] (opened o) cs start in (h.1.1 rest whole).1

-- ---- the response

-- a command that completes in one of these items isn't taken out in any
pub untaken : (t : ℕ) (items : List (List Effect)) → list_any (is_taken_out_in t) items ≡ false → EachOf (λ item. is_taken_out_in t item ≡ false) items
untaken t [] none = tt
untaken t (item ∷ items) none = let parts = or_none (is_taken_out_in t item) (list_any (is_taken_out_in t) items) none in (parts.0, untaken t items parts.1)

module _ (o : Opening) (cs : List Call) (follows : FollowsSession o cs) (before after : List Deed) (handing : Deed) (conn : ℕ) (h : Handed) (t : ℕ) (whole : before ++ handing ∷ after ≡ deeds_of o cs)
    (shown : handed_in_deed handing ≡ Some (conn, h)) (s : Sent) (is_sent : sent_as (items_in before) h.out ≡ Some s) (completed : completed_in s.item ≡ Some t) where
  abbrev all : List (List Effect)
  all = items_in (deeds_of o cs)

  parts : items_in before ++ items_in (handing ∷ after) ≡ all
  parts = sym (items_in-append before (handing ∷ after)) ∙ ap items_in whole

  itself : IsSent (items_in before) conn h.out
  itself =
      let m : Reply_moment o before conn h = reply_moment o cs before after handing conn h whole shown in
      ⊎_elim (λ (e : IsSent (items_in before) conn h.out). e)
      (λ (own : IsOwn h.out).
      let no : None ≡ Some s = sym (ap (λ x. elim x [ Some place ↦ nth place (sent_by (items_in before)) | None ↦ None ]) own.none) ∙ is_sent in absurd cc) m.entry

  same_sent : itself.reply ≡ s
  same_sent =
      some_sent itself.reply s
      (sym (ap (λ x. elim x [ Some place ↦ nth place (sent_by (items_in before)) | None ↦ None ]) itself.place_is
      ∙ ap (nth itself.place) (sent_by-firsts (items_in before) (one_reply_before o cs before (handing ∷ after) whole follows)) ∙ itself.nth_is) ∙ is_sent)

  among : Among [] (items_in before) s
  among = subst (Among [] (items_in before)) same_sent (firsts_among [] (items_in before) itself.place itself.reply itself.nth_is)

  in_all : s.before ++ s.item ∷ (among.rest ++ items_in (handing ∷ after)) ≡ all
  in_all = sym (append_assoc s.before (s.item ∷ among.rest) (items_in (handing ∷ after))) ∙ ap (λ its. its ++ items_in (handing ∷ after)) among.whole ∙ parts

  -- what holds of each item holds of its own
  at_item : (P : List Effect → Type 0) → EachOf P all → P s.item
  at_item P each = (each-second P s.before (s.item ∷ (among.rest ++ items_in (handing ∷ after))) (subst (EachOf P) (sym in_all) each)).0

  apart : EachOf (λ item. is_taken_out_in t item ≡ false) all
  apart = untaken t all (by_taken (list_any (is_taken_out_in t) all) refl)
    where
      by_taken : (v : Bool) → list_any (is_taken_out_in t) all ≡ v → list_any (is_taken_out_in t) all ≡ false
      by_taken false is = is
      by_taken true is = absurd (at_item (Uncompleted t) (none_completes t all (leaves_once t o cs follows) is) completed)

  home : (c : ℕ) × EachOf (StaysHome t (λ e. e ≡ c)) all
  home = homes o cs follows t

  at_home : conn ≡ home.0
  at_home = sym (ap (λ (x : Sent). x.conn) (sym same_sent) ∙ itself.conn_is) ∙ (at_item (StaysHome t (λ e. e ≡ home.0)) home.1).1 completed s.conn s.reply among.first

  of_command : h.out.ticket ≡ Some t
  of_command =
      names_command o cs follows before after handing conn h whole shown
      ∙ ap (λ (p : Pdu). elim (ticket_of_own p) [ Some ticket ↦ Some ticket | None ↦ elim (sent_as (items_in before) h.out) [ Some r ↦ completed_in r.item | None ↦ None ] ]) itself.pdu_is
      ∙ ap (λ (x : Option Sent). elim x [ Some r ↦ completed_in r.item | None ↦ None ]) is_sent ∙ completed

  all_went : handed_of t home.0 before ≡ taken_of t home.0 before
  all_went =
      ⊎_elim queued
      (⊎_elim
      (λ (p : IsPing o b link out). let no : None ≡ Some itself.place = sym (ap (λ (x : Outgoing). x.sent) p.is) ∙ sent in absurd cc)
      (λ (p : IsNotice o b link out). let no : None ≡ Some itself.place = sym (ap (λ (x : Outgoing). x.sent) p.is) ∙ sent in absurd cc))
      (chosen_from o b link out n.chosen_is).source
    where
      k : Cut o (opened o) cs before handing after
      k = cut o (opened o) cs before handing after whole

      b : Box
      b = after_calls o (opened o) k.first

      n : Handing o b conn h
      n = (handed-next o b k.call conn h (ap handed_in_deed (sym k.deed_is) ∙ shown)).1

      link : Link
      link = n.link

      out : Outgoing
      out = n.out

      same_out : h.out ≡ out
      same_out = ap (λ (x : Handed). x.out) n.is

      sent : out.sent ≡ Some itself.place
      sent = ap (λ (x : Outgoing). x.sent) (sym same_out) ∙ itself.place_is

      ticket : out.ticket ≡ Some t
      ticket = ap (λ (x : Outgoing). x.ticket) (sym same_out) ∙ of_command

      split : items_in (deeds_of o k.first) ++ items_in (handing ∷ after) ≡ all
      split = ap (λ ds. items_in ds ++ items_in (handing ∷ after)) (sym k.before_is) ∙ parts

      flows : Flows t home.0 (handed_of t home.0 before) (taken_of t home.0 before) link
      flows =
          subst (λ ds. Flows t home.0 (handed_of t home.0 ds) (taken_of t home.0 ds) link) (sym k.before_is)
          (each-first_of (Flows t home.0 (handed_of t home.0 (deeds_of o k.first)) (taken_of t home.0 (deeds_of o k.first))) (λ (m : Link). m.conn == conn) b.links link n.found
          (flows_after t home.0 o all (enters_once t o cs follows) (each-weaken (StaysHome t (λ e. e ≡ home.0)) (EntersOn t home.0) all (λ item e. e.0) home.1) (fits_all t o cs follows) apart k.first (items_in (handing ∷ after)) split).links)

      queued : FromQueue o b link out → handed_of t home.0 before ≡ taken_of t home.0 before
      queued q =
          sym (ap (λ ys. handed_of t home.0 before ++ ys) (ap (own_waiting t home.0) q.queue_is ∙ ap (λ ys. ys ++ own_waiting t home.0 q.rest) reply ∙ none) ∙ append-nil (handed_of t home.0 before))
          ∙ flows.whole (found-conn conn b.links link n.found ∙ at_home) (still (is_kept link) refl)
        where
          -- the response itself is no own PDU, and none waits behind it
          reply : own_in t home.0 out ≡ []
          reply = ap (own_in t home.0) (sym same_out) ∙ ap (λ (p : Pdu). own_in t home.0 (record (h.out) { pdu = p })) itself.pdu_is

          none : own_waiting t home.0 q.rest ≡ []
          none = (subst (Behind t home.0) q.queue_is flows.behind).0 itself.place sent ticket

          still : (v : Bool) → is_kept link ≡ v → is_kept link ≡ true
          still true is = is
          still false is = absurd (let no : out ∷ q.rest ≡ [] = sym q.queue_is ∙ flows.gone is in cc)

pub sends_all_before : (o : Opening) (cs : List Call) → FollowsSession o cs → (before after : List Deed) (handing : Deed) (c : ℕ) (h : Handed) (ticket : ℕ) → before ++ handing ∷ after ≡ deeds_of o cs
    → handed_in_deed handing ≡ Some (c, h) → completes (items_in before) h ≡ Some ticket → filter (is_of_command ticket) (own_handed before) ≡ filter (is_of_command ticket) (own_taken before)
sends_all_before o cs follows before after handing c h ticket whole shown is = by_sent (sent_as (items_in before) h.out) refl is
  where
    by_sent : (x : Option Sent) → sent_as (items_in before) h.out ≡ x → elim x [ Some s ↦ completed_in s.item | None ↦ None ] ≡ Some ticket
        → filter (is_of_command ticket) (own_handed before) ≡ filter (is_of_command ticket) (own_taken before)
    by_sent None same e = absurd cc
    by_sent (Some s) same e = all_went o cs follows before after handing c h ticket whole shown s same e
