-- No call that takes no event adds to the commands that are live or owe, where what was taken before is what a session gives.
use Rattle.std.proofs.Common.{◌≡◌, ℕ, ◌≤◌, ◌==◌, ⊎_elim, Bool, true, false, List, [], ◌∷◌, ◌++◌, Option, Some, None, refl, ap, sym, subst, ◌∙◌, arith}
use Rattle.std.specs.List.{list_any, flat_map}
use Rattle.std.proofs.lemmas.Bool.{cond_both, false≢true, eqb-true}
use Rattle.std.proofs.lemmas.List.{append-nil}
use Rattle.iscsi_outbox_rules.specs.declared.own_pdu.OwnPdu.{OwnPdu}
use Rattle.iscsi_outbox_rules.specs.rules.Calls.{Opening, Call, Takes, Puts, Stops, Nexts, Writes, Hears, Joins, Loses, Clears}
use Rattle.iscsi_outbox_rules.specs.rules.Boxes.{Phase, Dormant, Fresh, Started, Completed, Running, Gone, Task, Outgoing, Handed, Link, Box}
use Rattle.iscsi_outbox_rules.specs.rules.Words.{is_left_phase, is_running, is_of, has_under_way}
use Rattle.iscsi_outbox_rules.specs.rules.Queues.{at_link, takes_more, append, enter, emptied, drop_on}
use Rattle.iscsi_outbox_rules.specs.rules.Due.{settle}
use Rattle.iscsi_outbox_rules.specs.rules.Items.{in_phase}
use Rattle.iscsi_outbox_rules.specs.rules.Own.{own_conn, own_outgoing, put_refusal}
use Rattle.iscsi_outbox_rules.specs.rules.Handing.{handed_as, after_given}
use Rattle.iscsi_outbox_rules.specs.rules.Run.{opened, after_call, after_calls, answered, phase_stopped, one_written, link_heard, may_join, link_joined, link_lost, cleared}
use Rattle.iscsi_outbox_rules.specs.promises.Deeds.{Deed, deeds_from, deeds_of, items_in, entry_taken, FollowsSession}
use Rattle.iscsi_outbox_rules.specs.promises.Scope.{is_taken_out_in}
use Rattle.iscsi_outbox_rules.specs.promises.Room.{is_other, tasks_kept}
use Rattle.iscsi_outbox_rules.proofs.general.EachLemmas.{each-weaken}
use Rattle.iscsi_outbox_rules.proofs.general.Walks.{settles}
use Rattle.iscsi_outbox_rules.proofs.general.Cuts.{keeps, Hand, Idle, next}
use Rattle.iscsi_outbox_rules.proofs.general.Callwise.{call_keeps}
use Rattle.iscsi_outbox_rules.proofs.general.Linkwise.{Stands}
use Rattle.iscsi_outbox_rules.proofs.general.LinkRuns.{LinkShows, Shows, FitEntry, link_calls, link_starts}
use Rattle.iscsi_outbox_rules.proofs.commands.TicketRuns.{names_command}
use Rattle.iscsi_outbox_rules.proofs.aborts.SilentTheorem.{none_goes}
use Rattle.iscsi_outbox_rules.proofs.commands.TaskLives.{settled_tasks}
use Rattle.iscsi_outbox_rules.proofs.room.RoomTaken.{AllTaken, taken_call}
use Rattle.iscsi_outbox_rules.proofs.room.RoomOwing.{SameWay, way_walk, weighs, weight, kept_weighs, lighter}
use Rattle.iscsi_outbox_rules.proofs.room.RoomWeights.{weight_less}
use Rattle.iscsi_outbox_rules.proofs.room.RoomCalls.{NoMoreOf, less_at, plain_at, less_wrote, less_heard, less_lost, less_joined, less_given, weight_each}

stopped_less : (p : Phase) (u : Bool) → weighs (phase_stopped p) u ≡ true → weighs p u ≡ true
stopped_less Dormant u h = h
stopped_less Fresh u h = h
stopped_less Started u h = h
stopped_less Completed u h = h
stopped_less Running u h = refl
stopped_less Gone u h = h

-- ---- the deeds with one more

deeds_push : (o : Opening) (b : Box) (cs : List Call) (c : Call) → deeds_from o b (cs ++ c ∷ []) ≡ deeds_from o b cs ++ (c, answered o (after_calls o b cs) c) ∷ []
deeds_push o b [] c = refl
deeds_push o b (x ∷ cs) c = ap (λ ds. (x, answered o b x) ∷ ds) (deeds_push o (after_call o b x) cs c)

pub untaken : (cs : List Call) (c : Call) → entry_taken c ≡ [] → flat_map entry_taken (cs ++ c ∷ []) ≡ flat_map entry_taken cs
untaken [] c none = append-nil (entry_taken c) ∙ none
untaken (x ∷ cs) c none = ap (λ es. entry_taken x ++ es) (untaken cs c none)

module _ (o : Opening) where
  kept_less : (b b' : Box) → ((these : ℕ → Bool) → NoMoreOf o these b.links b'.links) → b'.tasks ≡ b.tasks → tasks_kept o b' ≤ tasks_kept o b
  kept_less b b' less same =
      let was : ℕ → Bool = λ n. list_any (has_under_way o (λ ticket. ticket == n)) b.links in
      let is : ℕ → Bool = λ n. list_any (has_under_way o (λ ticket. ticket == n)) b'.links in
      omega (arith, kept_weighs o b', ap (weight is) same, weight_less is was (λ n. less (λ ticket. ticket == n)) b.tasks, kept_weighs o b)

  settled_kept : (b : Box) → tasks_kept o (settle o b) ≤ tasks_kept o b
  settled_kept b =
      let same : SameWay o b.links (settle o b).links = settles o (λ items x. SameWay o b.links x.links) (way_walk o b.links) [] b (λ these. refl) in
      kept_less b (settle o b) (λ these h. sym (same these) ∙ h) (settled_tasks o b)

  stopped_kept : (b : Box) (ticket : ℕ) → tasks_kept o (in_phase phase_stopped (ticket ∷ []) b) ≤ tasks_kept o b
  stopped_kept b ticket =
      let was : ℕ → Bool = λ n. list_any (has_under_way o (λ k. k == n)) b.links in
      omega (arith, kept_weighs o (in_phase phase_stopped (ticket ∷ []) b), lighter was phase_stopped stopped_less (ticket ∷ []) b.tasks, kept_weighs o b)

  put_kept : (b : Box) (p : OwnPdu) → tasks_kept o (after_call o b (Puts p)) ≤ tasks_kept o b
  put_kept b p =
      elim (put_refusal o b p) as (λ x. tasks_kept o (elim x [ Some refusal ↦ b | None ↦ elim (own_conn b p) [ Some conn ↦ enter conn (own_outgoing p) b | None ↦ b ] ]) ≤ tasks_kept o b) [
        | Some refusal ↦ omega arith
        | None ↦ elim (own_conn b p) as (λ x. tasks_kept o (elim x [ Some conn ↦ enter conn (own_outgoing p) b | None ↦ b ]) ≤ tasks_kept o b) [
          | Some conn ↦ kept_less b (enter conn (own_outgoing p) b) (λ these. entered these conn (record (own_outgoing p) { time = b.time })) refl
          | None ↦ omega arith
        ]
      ]
    where
      entered : (these : ℕ → Bool) (conn : ℕ) (out : Outgoing) → NoMoreOf o these b.links (at_link conn (append out) b.links)
      entered these conn out =
          plain_at o these conn (append out)
          (λ l. cond_both (takes_more l) (record l { queue = l.queue ++ out ∷ [] }) l (λ (m : Link). has_under_way o these m ≡ true → has_under_way o these l ≡ true) (λ is h. h) (λ is h. h)) b.links

  lost_kept : (b : Box) (conn : ℕ) → tasks_kept o (after_call o b (Loses conn)) ≤ tasks_kept o b
  lost_kept b conn =
      let lost : Box = drop_on conn (record b { links = at_link conn link_lost b.links; reached = 0 }) in
      omega (
        arith,
        settled_kept lost,
        kept_less b lost (λ these h. plain_at o these conn link_lost (less_lost o these) b.links (plain_at o these conn emptied (λ l k. k) (at_link conn link_lost b.links) h)) refl,
      )

  -- ---- the next PDU

  module _ (cs : List Call) (follows : FollowsSession o cs) where
    abbrev pub b : Box
    b = after_calls o (opened o) cs

    abbrev ds : List Deed
    ds = deeds_of o cs

    all_taken : AllTaken (items_in ds) b.tasks
    all_taken = keeps o (λ es x. AllTaken (items_in es) x.tasks) (taken_call o) [] (opened o) cs tt

    links : Stands (Shows ds) FitEntry (items_in ds) b
    links = keeps o (λ es x. Stands (Shows es) FitEntry (items_in es) x) (λ es x c k. call_keeps o Shows FitEntry (link_calls o) es x c k) [] (opened o) cs (link_starts o)

    handed_kept : (conn : ℕ) (k : Hand o b conn) → tasks_kept o (after_call o b (Nexts conn)) ≤ tasks_kept o b
    handed_kept conn k =
        let l : Link = k.handing.link in
        let after : Box = after_given o b l (handed_as o b l k.handing.out) in
        let was : ℕ → Bool = λ n. list_any (has_under_way o (λ ticket. ticket == n)) b.links in
        let is : ℕ → Bool = λ n. list_any (has_under_way o (λ ticket. ticket == n)) after.links in
        subst (λ x. tasks_kept o x ≤ tasks_kept o b) (sym (k.after_is ∙ ap (after_given o b l) k.handing.is))
        (omega (
          arith,
          kept_weighs o after,
          weight_each is was b.tasks
              (each-weaken (λ (x : Task). is_left_phase x.phase ≡ true → list_any (is_taken_out_in x.ticket) (items_in ds) ≡ true) (λ (x : Task). is_left_phase x.phase ≡ true → is x.ticket ≡ true → was x.ticket ≡ true) b.tasks
              (λ x taken left. less_given o (λ ticket. ticket == x.ticket) b l k.handing.out (other x.ticket (taken left))) all_taken),
          kept_weighs o b,
        ))
      where
        deed : Deed
        deed = (Nexts conn, answered o b (Nexts conn))

        follows' : FollowsSession o (cs ++ Nexts conn ∷ [])
        follows' = (follows.0, untaken cs (Nexts conn) refl ∙ follows.1)

        whole : ds ++ deed ∷ [] ≡ deeds_of o (cs ++ Nexts conn ∷ [])
        whole = sym (deeds_push o (opened o) cs (Nexts conn))

        -- it is of no command that was taken out
        other : (t : ℕ) → list_any (is_taken_out_in t) (items_in ds) ≡ true → is_of (λ ticket. ticket == t) k.handing.out ≡ false
        other t taken = by_ticket (k.handing.out.ticket) refl
          where
            by_ticket : (y : Option ℕ) → k.handing.out.ticket ≡ y → elim y [ Some ticket ↦ ticket == t | None ↦ false ] ≡ false
            by_ticket None e = refl
            by_ticket (Some n) e =
                elim (n == t) as (λ v. (n == t) ≡ v → v ≡ false) [
                  | true ↦ λ same.
                      absurd (none_goes o (cs ++ Nexts conn ∷ []) follows' t ds [] deed conn k.handed whole k.shown taken
                      (sym (names_command o (cs ++ Nexts conn ∷ []) follows' ds [] deed conn k.handed whole k.shown) ∙ ap (λ (h : Handed). h.out.ticket) k.handing.is ∙ e ∙ ap Some (eqb-true n t same)))
                  | false ↦ λ apart. refl
                ] refl

    pub call_kept : (c : Call) → is_other c ≡ true → tasks_kept o (after_call o b c) ≤ tasks_kept o b
    call_kept (Takes effects numbers) is = absurd (false≢true is)
    call_kept (Puts p) is = put_kept b p
    call_kept (Stops ticket) is =
        cond_both (is_running b ticket) (settle o (in_phase phase_stopped (ticket ∷ []) b)) b (λ (x : Box). tasks_kept o x ≤ tasks_kept o b)
        (λ runs. omega (arith, settled_kept (in_phase phase_stopped (ticket ∷ []) b), stopped_kept b ticket)) (λ runs. omega arith)
    call_kept (Nexts conn) is =
        ⊎_elim (handed_kept conn) (λ (k : Idle o b conn). let same : tasks_kept o (after_call o b (Nexts conn)) ≡ tasks_kept o b = ap (tasks_kept o) k.after_is in omega (arith, same)) (next o b conn)
    call_kept (Writes conn) is =
        let wrote : Box = record b { links = at_link conn one_written b.links } in
        omega (arith, settled_kept wrote, kept_less b wrote (λ these. plain_at o these conn one_written (less_wrote o these) b.links) refl)
    call_kept (Hears conn exp_stat_sn tag) is =
        let heard : Box = record b { links = at_link conn (link_heard exp_stat_sn tag) b.links } in
        omega (arith, settled_kept heard, kept_less b heard (λ these. plain_at o these conn (link_heard exp_stat_sn tag) (less_heard o these exp_stat_sn tag) b.links) refl)
    call_kept (Joins conn stat_sn) is =
        cond_both (may_join b conn) (record b { links = at_link conn (link_joined stat_sn) b.links }) b (λ (x : Box). tasks_kept o x ≤ tasks_kept o b)
        (λ may.
        kept_less b (record b { links = at_link conn (link_joined stat_sn) b.links })
        (λ these. less_at o these (λ (l : Link). LinkShows ds l) conn (link_joined stat_sn) (λ l shows. less_joined o these stat_sn l shows.empty) b.links links.links) refl)
        (λ may. omega arith)
    call_kept (Loses conn) is = lost_kept b conn
    call_kept (Clears unit) is =
        let clear : Box = record b { undue = cleared unit b.undue } in
        omega (arith, settled_kept clear, kept_less b clear (λ these h. h) refl)
