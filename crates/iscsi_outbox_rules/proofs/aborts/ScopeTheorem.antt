-- When the answer by which a command is over goes out, a command that was told to its unit before was reported stopped.
use Rattle.std.proofs.Common.{◌≡◌, ℕ, ⊎_elim, ◌==◌, ◌+◌, ◌≤◌, ◌&&◌, Bool, true, false, List, [], ◌∷◌, ◌++◌, map, Option, Some, None, refl, ap, sym, subst, ◌∙◌, arith}
use Rattle.std.specs.Prelude.{Contains}
use Rattle.std.specs.List.{list_any, flat_map}
use Rattle.std.proofs.lemmas.Bool.{false≢true, eqb-true}
use Rattle.std.proofs.lemmas.List.{append_assoc}
use Rattle.std.proofs.lemmas.List.Concat.{flat_map-append}
use Rattle.iscsi_rules.specs.declared.effect.Effect.{Effect}
use Rattle.iscsi_rules.specs.rules.Settings.{is_known}
use Rattle.iscsi_rules.specs.rules.Trace.{Command}
use Rattle.iscsi_rules.specs.rules.Run.{trace_of}
use Rattle.iscsi_rules.proofs.general.BoolLemmas.{and_parts, and_first}
use Rattle.iscsi_outbox_rules.specs.rules.Calls.{Opening, Call, Stops}
use Rattle.iscsi_outbox_rules.specs.rules.Boxes.{Task, Aim, Outgoing, Handed, Link, Box}
use Rattle.iscsi_outbox_rules.specs.rules.Words.{contains, is_running_phase}
use Rattle.iscsi_outbox_rules.specs.rules.Run.{Stopped, opened, after_call, after_calls}
use Rattle.iscsi_outbox_rules.specs.promises.Deeds.{Deed, deeds_from, deeds_of, items_of_call, items_in, handed_in_deed, FollowsSession, FollowsKnown}
use Rattle.iscsi_outbox_rules.specs.promises.Scope.{Sent, Entered, nth, sent_by, sent_as, entered_in, is_taken_out_in, is_about, aim_of_sent, is_taken_out_by, says_taken_out}
use Rattle.iscsi_outbox_rules.specs.promises.Still.{enabled_in, left_in, StopsBefore}
use Rattle.iscsi_outbox_rules.proofs.general.EachLemmas.{EachOf, each-first, each-weaken, each-first_of, each-any}
use Rattle.iscsi_outbox_rules.proofs.general.Chosen.{FromQueue, IsPing, IsNotice, chosen_from}
use Rattle.iscsi_outbox_rules.proofs.general.Cuts.{Cut, cut, Handing, handed-next}
use Rattle.iscsi_outbox_rules.proofs.general.DeedLemmas.{items_in-append}
use Rattle.iscsi_outbox_rules.proofs.general.FirstLemmas.{firsts}
use Rattle.iscsi_outbox_rules.proofs.order.SentLemmas.{one_reply_before, sent_by-firsts}
use Rattle.iscsi_outbox_rules.proofs.commands.TicketLemmas.{EntersOn}
use Rattle.iscsi_outbox_rules.proofs.commands.LeaveLemmas.{leaving, leavings, leavings-append, leaves_once}
use Rattle.iscsi_outbox_rules.proofs.general.TaskWalks.{is_over_phase}
use Rattle.iscsi_outbox_rules.proofs.commands.TaskRuns.{AreIn}
use Rattle.iscsi_outbox_rules.proofs.commands.TaskFits.{Fits, fits-first, fits_all}
use Rattle.iscsi_outbox_rules.proofs.aborts.SilentItems.{some_sent, sent_split, said_over}
use Rattle.iscsi_outbox_rules.proofs.commands.ResponseHomes.{StaysHome, logged, homes}
use Rattle.iscsi_outbox_rules.proofs.aborts.ScopeConns.{IsKnown, trace_known, commands_known}
use Rattle.iscsi_outbox_rules.proofs.aborts.ScopeTasks.{is_task_of, any_same}
use Rattle.iscsi_outbox_rules.proofs.aborts.ScopeWakes.{Rises, rises-first, rises_all}
use Rattle.iscsi_outbox_rules.proofs.aborts.ScopeRuns.{Says, Told}
use Rattle.iscsi_outbox_rules.proofs.aborts.ScopeItems.{ScopeStands}
use Rattle.iscsi_outbox_rules.proofs.aborts.ScopeCalls.{scope_stands}
use Rattle.iscsi_outbox_rules.proofs.aborts.ScopeLeaves.{each-in, calls_append, new_conns, not_both, entered_by, stops_or_runs}

-- ---- the answer

module _ (o : Opening) (cs : List Call) (of : FollowsKnown o cs) (before after : List Deed) (answer : Deed) (conn : ℕ) (h : Handed) (t : ℕ) (whole : before ++ answer ∷ after ≡ deeds_of o cs)
    (shown : handed_in_deed answer ≡ Some (conn, h)) (s : Sent) (is_sent : sent_as (items_in before) h.out ≡ Some s) (over : is_taken_out_by o s t ≡ true) where
  follows : FollowsSession o cs
  follows = (of.events, of.follows)

  abbrev all : List (List Effect)
  all = items_in (deeds_of o cs)

  abbrev cids : List ℕ
  cids = map (λ (x : ℕ × ℕ). x.0) o.session.conns

  parts : items_in before ++ items_in (answer ∷ after) ≡ all
  parts = sym (items_in-append before (answer ∷ after)) ∙ ap items_in whole

  home : (c : ℕ) × EachOf (StaysHome t (λ e. e ≡ c)) all
  home = homes o cs follows t

  knowns : EachOf (StaysHome t (λ e. is_known e o.session.conns ≡ true)) all
  knowns =
      logged o cs of.events of.follows t (λ e. is_known e o.session.conns ≡ true)
      (λ d there same. each-in (λ (c : Command). IsKnown o.session c.arrival) _ d there (commands_known o.session (trace_of o.session of.events) (trace_known o.session of.events of.known)))

  both_of : {A : Type 0} (P Q : A → Type 0) (xs : List A) → EachOf P xs → EachOf Q xs → EachOf (λ (x : A). P x × Q x) xs
  both_of P Q [] f g = tt
  both_of P Q (x ∷ xs) f g = ((f.0, g.0), both_of P Q xs f.1 g.1)

  -- ---- what it is about

  abbrev first : List (List Effect)
  first = s.before ++ s.item ∷ []

  prefix : (rest : List (List Effect)) × (first ++ rest ≡ items_in before)
  prefix = let k = sent_split (items_in before) h.out s is_sent in (k.0, append_assoc s.before (s.item ∷ []) k.0 ∙ k.1)

  at_first : (P : List Effect → Type 0) → EachOf P all → EachOf P first
  at_first P each = each-first P first prefix.0 (subst (EachOf P) (sym prefix.1) (each-first P (items_in before) (items_in (answer ∷ after)) (subst (EachOf P) (sym parts) each)))

  abbrev tests : Option Aim → Bool
  tests x = elim x [ Some about ↦ list_any (λ (e : Entered). (e.ticket == t) && is_about about s.item e) (flat_map entered_in first) | None ↦ false ]

  aimed : (about : Aim) × (list_any (λ (e : Entered). (e.ticket == t) && is_about about s.item e) (flat_map entered_in first) ≡ true)
  aimed = by_aim (aim_of_sent o s) (and_parts (list_any (is_taken_out_in t) first) (tests (aim_of_sent o s)) over).1
    where
      by_aim : (x : Option Aim) → tests x ≡ true → (about : Aim) × (list_any (λ (e : Entered). (e.ticket == t) && is_about about s.item e) (flat_map entered_in first) ≡ true)
      by_aim None e = absurd (false≢true e)
      by_aim (Some about) e = (about, e)

  known : contains cids home.0 ≡ true
  known =
      entered_by t (contains cids home.0 ≡ true) (λ item. StaysHome t (λ e. e ≡ home.0) item × StaysHome t (λ e. is_known e o.session.conns ≡ true) item)
      (λ item r k is some.
      any_same (λ j. j == home.0) (λ (x : ℕ × ℕ). x.0 == home.0) (λ (x : ℕ × ℕ). x.0) o.session.conns (λ x. refl) ∙ ap (λ e. is_known e o.session.conns) (sym (k.0.0 r is some)) ∙ k.1.0 r is some)
      (λ e. is_about aimed.0 s.item e) first
      (both_of (StaysHome t (λ e. e ≡ home.0)) (StaysHome t (λ e. is_known e o.session.conns ≡ true)) first (at_first (StaysHome t (λ e. e ≡ home.0)) home.1) (at_first (StaysHome t (λ e. is_known e o.session.conns ≡ true)) knowns))
      aimed.1

  -- ---- what stands as it goes out

  abbrev moment : Cut o (opened o) cs before answer after
  moment = cut o (opened o) cs before answer after whole

  abbrev box : Box
  box = after_calls o (opened o) moment.first

  abbrev so_far : List (List Effect)
  so_far = items_in (deeds_of o moment.first)

  stands : ScopeStands t home.0 o cids known so_far box
  stands =
      scope_stands t home.0 o cids known all (fits_all t o cs follows) (each-weaken (StaysHome t (λ e. e ≡ home.0)) (EntersOn t home.0) all (λ item e. e.0) home.1) (new_conns o.session.conns) moment.first (items_in (answer ∷ after))
      (ap (λ ds. items_in ds ++ items_in (answer ∷ after)) (sym moment.before_is) ∙ parts)

  placed : (p : ℕ) × ((h.out.sent ≡ Some p) × (nth p (sent_by (items_in before)) ≡ Some s))
  placed = by_place (h.out.sent) refl is_sent
    where
      by_place : (x : Option ℕ) → h.out.sent ≡ x → elim x [ Some p ↦ nth p (sent_by (items_in before)) | None ↦ None ] ≡ Some s → (p : ℕ) × ((h.out.sent ≡ Some p) × (nth p (sent_by (items_in before)) ≡ Some s))
      by_place None e k = absurd cc
      by_place (Some p) e k = (p, (e, k))

  same_place : (p q : ℕ) → Some p ≡ Some q → p ≡ q
  same_place p q e = cc

  -- the command is over in the box, and the answer has it in its scope
  ends : AreIn is_over_phase t box.tasks × (contains h.out.scope t ≡ true)
  ends =
      ⊎_elim queued
      (⊎_elim (λ (p : IsPing o box link out). unsent (ap (λ (x : Outgoing). x.sent) p.is)) (λ (p : IsNotice o box link out). unsent (ap (λ (x : Outgoing). x.sent) p.is))) (chosen_from o box link out n.chosen_is).source
    where
      n : Handing o box conn h
      n = (handed-next o box moment.call conn h (ap handed_in_deed (sym moment.deed_is) ∙ shown)).1

      link : Link
      link = n.link

      out : Outgoing
      out = n.out

      sent : out.sent ≡ Some placed.0
      sent = ap (λ (x : Handed). x.out.sent) (sym n.is) ∙ placed.1.0

      Ends : Type 0
      Ends = AreIn is_over_phase t box.tasks × (contains h.out.scope t ≡ true)

      unsent : out.sent ≡ None → Ends
      unsent none = absurd (let no : None ≡ Some placed.0 = sym none ∙ sent in cc)

      said : Says o t so_far (AreIn is_over_phase t box.tasks × (contains out.scope t ≡ true)) out → Ends
      said y =
          let place : y.place ≡ placed.0 = same_place y.place placed.0 (sym y.place_is ∙ sent) in
          let same : y.reply ≡ s =
          some_sent y.reply s
          (sym y.nth_is ∙ ap (λ ds. nth y.place (firsts (items_in ds))) (sym moment.before_is) ∙ ap (λ p. nth p (firsts (items_in before))) place
          ∙ ap (nth placed.0) (sym (sent_by-firsts (items_in before) (one_reply_before o cs before (answer ∷ after) whole follows))) ∙ placed.1.1) in
          let both = y.over (subst (λ r. is_taken_out_by o r t ≡ true) (sym same) over) in
          (both.0, ap (λ (x : Handed). contains x.out.scope t) n.is ∙ both.1)

      queued : FromQueue o box link out → Ends
      queued q =
          ⊎_elim said unsent
          (subst (EachOf (Told o t so_far (AreIn is_over_phase t box.tasks))) q.queue_is
          (each-first_of (λ (l : Link). EachOf (Told o t so_far (AreIn is_over_phase t box.tasks)) l.queue) (λ (m : Link). m.conn == conn) box.links link n.found stands.waits.queues)).0

  -- so it doesn't run
  stopped_now : AreIn is_running_phase t box.tasks → ⊥
  stopped_now runs =
      let have : EachOf (λ (e : Entered). list_any (is_task_of e) box.tasks ≡ true) (flat_map entered_in first ++ flat_map entered_in prefix.0) =
      subst (EachOf (λ (e : Entered). list_any (is_task_of e) box.tasks ≡ true)) (ap (flat_map entered_in) (ap items_in (sym moment.before_is) ∙ sym prefix.1) ∙ flat_map-append entered_in first prefix.0) stands.tasks.have in
      let e = each-any (λ (x : Entered). list_any (is_task_of x) box.tasks ≡ true) (λ (x : Entered). (x.ticket == t) && is_about aimed.0 s.item x) (flat_map entered_in first) aimed.1
      (each-first (λ (x : Entered). list_any (is_task_of x) box.tasks ≡ true) (flat_map entered_in first) (flat_map entered_in prefix.0) have) in
      let x = each-any (λ (y : Task). (y.ticket ≡ t → is_running_phase y.phase ≡ true) × (y.ticket ≡ t → is_over_phase y.phase ≡ true)) (is_task_of e.0) box.tasks e.2
      (both_of (λ (y : Task). y.ticket ≡ t → is_running_phase y.phase ≡ true) (λ (y : Task). y.ticket ≡ t → is_over_phase y.phase ≡ true) box.tasks runs ends.0) in
      let at : x.0.ticket ≡ t = eqb-true x.0.ticket e.0.ticket (and_first (x.0.ticket == e.0.ticket) _ x.1) ∙ eqb-true e.0.ticket t (and_first (e.0.ticket == t) _ e.1) in
      not_both x.0.phase (x.2.0 at) (x.2.1 at)

  was_stopped : (earlier since : List Deed) (leaving : Deed) → earlier ++ leaving ∷ since ≡ before → left_in t leaving ≡ true → list_any (enabled_in t) earlier ≡ true → Contains since (Stops t, Stopped true)
  was_stopped earlier since leaving split left told =
      ⊎_elim (λ found. subst (λ ds. Contains ds (Stops t, Stopped true)) (sym k.after_is) found)
      (λ runs. absurd (stopped_now (subst (λ (x : Box). AreIn is_running_phase t x.tasks) (sym (ap (after_calls o (opened o)) k.calls_are ∙ calls_append o (opened o) k.first (k.call ∷ k.rest))) runs)))
      (stops_or_runs t o k.first k.rest k.call
      (subst (Fits t 0) (sym items) (fits-first t 0 (items_in before) (items_in (answer ∷ after)) (subst (Fits t 0) (sym parts) (fits_all t o cs follows))))
      (subst (Rises t false) (sym items) (rises-first t false (items_in before) (items_in (answer ∷ after)) (subst (Rises t false) (sym parts) (rises_all t o cs follows))))
      once (ap (list_any (is_taken_out_in t)) items ∙ taken) (ap (left_in t) (sym k.deed_is) ∙ left) (ap (list_any (enabled_in t)) (sym k.before_is) ∙ told))
    where
      k : Cut o (opened o) moment.first earlier leaving since
      k = cut o (opened o) moment.first earlier leaving since (split ∙ moment.before_is)

      later : List Deed
      later = deeds_from o (after_call o (after_calls o (opened o) k.first) k.call) k.rest

      items : items_in (deeds_of o k.first) ++ (items_of_call k.call ++ items_in later) ≡ items_in before
      items =
          ap (λ ds. items_in ds ++ (items_of_call k.call ++ items_in later)) (sym k.before_is)
          ∙ ap (λ (d : Deed). items_in earlier ++ (items_of_call d.0 ++ items_in later)) (sym k.deed_is)
          ∙ ap (λ ds. items_in earlier ++ (items_of_call leaving.0 ++ items_in ds)) (sym k.after_is)
          ∙ sym (items_in-append earlier (leaving ∷ since)) ∙ ap items_in split

      once : leavings t (items_in (deeds_of o k.first) ++ (items_of_call k.call ++ items_in later)) ≤ 1
      once =
          let all_once : leavings t all ≤ 1 = leaves_once t o cs follows in
          let same : leavings t (items_in before ++ items_in (answer ∷ after)) ≡ leavings t all = ap (leavings t) parts in
          let counted : leavings t (items_in before ++ items_in (answer ∷ after)) ≡ leavings t (items_in before) + leavings t (items_in (answer ∷ after)) = leavings-append t (items_in before) (items_in (answer ∷ after)) in
          subst (λ its. leavings t its ≤ 1) (sym items) (omega (arith, all_once, same, counted))

      taken : list_any (is_taken_out_in t) (items_in before) ≡ true
      taken = said_over t o (items_in before) h.out (ap (λ x. elim x [ Some r ↦ is_taken_out_by o r t | None ↦ false ]) is_sent ∙ over)

-- the scope that the box has of an answer has each command that is over by it
pub over_in_scope : (o : Opening) (cs : List Call) → FollowsKnown o cs → (before after : List Deed) (answer : Deed) (conn : ℕ) (h : Handed) (ticket : ℕ) → before ++ answer ∷ after ≡ deeds_of o cs
    → handed_in_deed answer ≡ Some (conn, h) → says_taken_out o (items_in before) h.out ticket ≡ true → contains h.out.scope ticket ≡ true
over_in_scope o cs of before after answer conn h ticket whole shown over = by_sent (sent_as (items_in before) h.out) refl over
  where
    by_sent : (x : Option Sent) → sent_as (items_in before) h.out ≡ x → elim x [ Some s ↦ is_taken_out_by o s ticket | None ↦ false ] ≡ true → contains h.out.scope ticket ≡ true
    by_sent None is e = absurd (false≢true e)
    by_sent (Some s) is e = (ends o cs of before after answer conn h ticket whole shown s is e).1

pub stops_before : (o : Opening) (cs : List Call) → FollowsKnown o cs → StopsBefore o (deeds_of o cs)
stops_before o cs of before after answer conn h ticket whole shown over earlier since leaving split left told = by_sent (sent_as (items_in before) h.out) refl over
  where
    by_sent : (x : Option Sent) → sent_as (items_in before) h.out ≡ x → elim x [ Some s ↦ is_taken_out_by o s ticket | None ↦ false ] ≡ true → Contains since (Stops ticket, Stopped true)
    by_sent None is e = absurd (false≢true e)
    by_sent (Some s) is e = was_stopped o cs of before after answer conn h ticket whole shown s is e earlier since leaving split left told
