-- Through all calls of a session no own PDU waits of a command that left.
use Rattle.std.proofs.Common.{◌≡◌, ℕ, ⊎_elim, ◌==◌, ◌+◌, ◌≤◌, true, false, List, [], ◌∷◌, ◌++◌, map, max, drop, length, not, nat_lt, refl, ap, sym, subst, ◌∙◌, arith}
use Rattle.std.proofs.lemmas.Bool.{cond_both}
use Rattle.std.proofs.lemmas.List.{append_assoc}
use Rattle.iscsi_rules.specs.declared.effect.Effect.{Effect}
use Rattle.iscsi_outbox_rules.specs.rules.Calls.{Opening, Call, Takes, Puts, Stops, Nexts, Writes, Hears, Joins, Loses, Clears}
use Rattle.iscsi_outbox_rules.specs.rules.Boxes.{Phase, Dormant, Fresh, Started, Completed, Running, Gone, Task, Outgoing, Handed, Answer, Link, Box}
use Rattle.iscsi_outbox_rules.specs.rules.Words.{contains, is_left_phase, is_open, is_running}
use Rattle.iscsi_outbox_rules.specs.rules.Queues.{at_link, enter, emptied, drop_on}
use Rattle.iscsi_outbox_rules.specs.rules.Due.{is_due, settle_from, settle}
use Rattle.iscsi_outbox_rules.specs.rules.Items.{in_phase}
use Rattle.iscsi_outbox_rules.specs.rules.Handing.{is_from_queue, taken_from, after_given}
use Rattle.iscsi_outbox_rules.specs.rules.Run.{new_link, opened, after_call, after_calls, answered, phase_stopped, one_written, arrived_by_stat_sn, arrived_by_ping, link_heard, may_join, link_joined, link_lost, waits_for_clear, cleared}
use Rattle.iscsi_outbox_rules.specs.promises.Deeds.{Deed, deeds_of, items_in, items_of_call}
use Rattle.iscsi_outbox_rules.proofs.general.EachLemmas.{EachOf, each-first, each-second, each-filter}
use Rattle.iscsi_outbox_rules.proofs.general.DeedLemmas.{items_in-more}
use Rattle.iscsi_outbox_rules.proofs.general.Cuts.{keeps, Hand, Idle, next}
use Rattle.iscsi_outbox_rules.proofs.commands.TicketLemmas.{entries, entries-append, EntersOn}
use Rattle.iscsi_outbox_rules.proofs.general.TaskWalks.{phased, phased_onward, task_event}
use Rattle.iscsi_outbox_rules.proofs.commands.CommandRuns.{own_in, own_waiting, CommandStands}
use Rattle.iscsi_outbox_rules.proofs.commands.CommandTheorem.{Both, both_kept, both_start}
use Rattle.iscsi_outbox_rules.proofs.commands.LeftRuns.{IsSilent, Silenced, LeftStands, left_walk, two_empty, at_conn, silent_enters}
use Rattle.iscsi_outbox_rules.proofs.commands.LeftPuts.{silent_put}

-- what stops has left before
unleft_stopped : (p : Phase) → is_left_phase (phase_stopped p) ≡ true → is_left_phase p ≡ true
unleft_stopped Dormant h = h
unleft_stopped Fresh h = h
unleft_stopped Started h = h
unleft_stopped Completed h = h
unleft_stopped Running h = h
unleft_stopped Gone h = h

unleft : (tickets : List ℕ) (x : Task) → is_left_phase (phased phase_stopped tickets x).phase ≡ true → is_left_phase x.phase ≡ true
unleft tickets x =
    cond_both (contains tickets x.ticket) (record x { phase = phase_stopped x.phase }) x (λ (y : Task). is_left_phase y.phase ≡ true → is_left_phase x.phase ≡ true) (λ is. unleft_stopped x.phase) (λ is h. h)

module _ (t c : ℕ) where
  -- ---- what is due

  abbrev NoneDue : List Answer → Type 0
  NoneDue answers = EachOf (λ (a : Answer). own_in t c a.out ≡ []) answers

  silent_settles_from : (o : Opening) (before rest : List Answer) (b : Box) → NoneDue rest → Silenced t c b → Silenced t c (settle_from o before rest b)
  silent_settles_from o before [] b none h = h
  silent_settles_from o before (a ∷ rest) b none h =
      cond_both (is_due o b before a) (settle_from o before rest (enter a.conn a.out b)) (settle_from o (before ++ a ∷ []) rest b) (Silenced t c)
      (λ due. silent_settles_from o before rest (enter a.conn a.out b) none.1 (silent_enters t c b a.conn a.out none.0 h))
      (λ undue. silent_settles_from o (before ++ a ∷ []) rest b none.1 h)

  silent_settles : (o : Opening) (b : Box) → NoneDue b.undue → Silenced t c b → Silenced t c (settle o b)
  silent_settles o b none h = silent_settles_from o [] b.undue b none h

  none_cleared : (unit : ℕ) (answers : List Answer) → NoneDue answers → NoneDue (cleared unit answers)
  none_cleared unit [] h = tt
  none_cleared unit (a ∷ answers) h =
      cond_both (waits_for_clear unit a) (record a { uncleared = false } ∷ answers) (a ∷ cleared unit answers) NoneDue (λ is. (h.0, h.1)) (λ is. (h.0, none_cleared unit answers h.1))

  -- ---- one call

  first_goes : (queue : List Outgoing) → own_waiting t c queue ≡ [] → own_waiting t c (drop 1 queue) ≡ []
  first_goes [] h = h
  first_goes (x ∷ queue) h = (two_empty t c (own_in t c x) (own_waiting t c queue) h).1

  silent_given : (o : Opening) (b : Box) (l : Link) (g : Handed) → Silenced t c b → Silenced t c (after_given o b l g)
  silent_given o b l g h left =
      at_conn t c l.conn (λ m. record m { handed = m.handed ++ g ∷ [] }) (at_link l.conn (taken_from g.out) b.links) (λ m k. k)
      (at_conn t c l.conn (taken_from g.out) b.links
      (λ m k. cond_both (is_from_queue g.out) (record m { queue = drop 1 m.queue }) m (IsSilent t c) (λ is. first_goes m.queue k) (λ is. k)) (h left))

  silent_call : (o : Opening) (n : ℕ) (ds : List Deed) (b : Box) (call : Call) → n + entries t (items_of_call call) ≤ 1 → EachOf (EntersOn t c) (items_of_call call) → CommandStands t c n ds b → Silenced t c b
      → Silenced t c (after_call o b call)
  silent_call o n ds b (Takes effects numbers) once on k h = (task_event o t c (LeftStands t c ds) (left_walk t c o ds) n b effects numbers once on (k, h)).1
  silent_call o n ds b (Puts p) once on k h = silent_put t c o b p h
  silent_call o n ds b (Stops ticket) once on k h =
      let stopped : Box = in_phase phase_stopped (ticket ∷ []) b in
      let left : LeftStands t c ds n stopped =
      (left_walk t c o ds).phases n b (phased phase_stopped (ticket ∷ [])) (phased_onward phase_stopped (λ among stays. stays.stopped) (ticket ∷ [])) (unleft (ticket ∷ [])) (k, h) in
      cond_both (is_running b ticket) (settle o stopped) b (Silenced t c) (λ is. silent_settles o stopped k.undue left.1) (λ is. h)
  silent_call o n ds b (Nexts conn) once on k h =
      ⊎_elim
      (λ (g : Hand o b conn). subst (Silenced t c) (sym g.after_is) (silent_given o b g.handing.link g.handed h))
      (λ (g : Idle o b conn). subst (Silenced t c) (sym g.after_is) h)
      (next o b conn)
  silent_call o n ds b (Writes conn) once on k h =
      silent_settles o (record b { links = at_link conn one_written b.links }) k.undue
      (λ left. at_conn t c conn one_written b.links (λ l s. cond_both (nat_lt l.written (length l.handed)) (record l { written = l.written + 1 }) l (IsSilent t c) (λ is. s) (λ is. s)) (h left))
  silent_call o n ds b (Hears conn exp_stat_sn tag) once on k h =
      silent_settles o (record b { links = at_link conn (link_heard exp_stat_sn tag) b.links }) k.undue
      (λ left. at_conn t c conn (link_heard exp_stat_sn tag) b.links
      (λ l s. cond_both (is_open l) (record l { arrived = max l.arrived (max (arrived_by_stat_sn l exp_stat_sn) (arrived_by_ping l tag)) }) l (IsSilent t c) (λ is. s) (λ is. s)) (h left))
  silent_call o n ds b (Joins conn stat_sn) once on k h =
      cond_both (may_join b conn) (record b { links = at_link conn (link_joined stat_sn) b.links }) b (Silenced t c)
      (λ is left. at_conn t c conn (link_joined stat_sn) b.links (λ l s. s) (h left)) (λ is. h)
  silent_call o n ds b (Loses conn) once on k h =
      let lost : Box = record b { links = at_link conn link_lost b.links; reached = 0 } in
      silent_settles o (drop_on conn lost) (each-filter (λ (a : Answer). own_in t c a.out ≡ []) (λ (a : Answer). not (a.conn == conn)) b.undue k.undue)
      (λ left. at_conn t c conn emptied lost.links (λ l s. refl) (at_conn t c conn link_lost b.links (λ l s. s) (h left)))
  silent_call o n ds b (Clears unit) once on k h = silent_settles o (record b { undue = cleared unit b.undue }) (none_cleared unit b.undue k.undue) h

  -- ---- all calls

  module _ (o : Opening) (all : List (List Effect)) (once : entries t all ≤ 1) (on : EachOf (EntersOn t c) all) where
    abbrev SilentBoth : List Deed → Box → Type 0
    SilentBoth ds b = Both t c o all once on ds b × ((rest : List (List Effect)) → items_in ds ++ rest ≡ all → Silenced t c b)

    silent_kept : (ds : List Deed) (b : Box) (call : Call) → SilentBoth ds b → SilentBoth (ds ++ (call, answered o b call) ∷ []) (after_call o b call)
    silent_kept ds b call h = (
      both_kept t c o all once on ds b call h.0,
      (λ rest whole.
          let items : List (List Effect) = items_of_call call in
          let d : Deed = (call, answered o b call) in
          let parts : items_in ds ++ (items ++ rest) ≡ all = sym (append_assoc (items_in ds) items rest) ∙ ap (λ its. its ++ rest) (sym (items_in-more ds d)) ∙ whole in
          let counted : entries t (items_in ds) + (entries t items + entries t rest) ≡ entries t all =
          ap (λ m. entries t (items_in ds) + m) (sym (entries-append t items rest)) ∙ sym (entries-append t (items_in ds) (items ++ rest)) ∙ ap (entries t) parts in
          let these : EachOf (EntersOn t c) items = each-first (EntersOn t c) items rest (each-second (EntersOn t c) (items_in ds) (items ++ rest) (subst (EachOf (EntersOn t c)) (sym parts) on)) in
          silent_call o (entries t (items_in ds)) ds b call (omega (arith, counted, once)) these (h.0.1 (items ++ rest) parts) (h.1 (items ++ rest) parts)),
    )

    new_silent : (cs : List (ℕ × ℕ)) → EachOf (IsSilent t c) (map (λ (x : ℕ × ℕ). new_link x.0) cs)
    new_silent [] = tt
    new_silent (x ∷ cs) = (refl, new_silent cs)

    silent_start : SilentBoth [] (opened o)
    silent_start = (both_start t c o all once on, (λ rest whole left. new_silent o.session.conns))

    pub silent_after : (cs : List Call) (rest : List (List Effect)) → items_in (deeds_of o cs) ++ rest ≡ all → Silenced t c (after_calls o (opened o) cs)
    silent_after cs rest whole = let h : SilentBoth (deeds_of o cs) (after_calls o (opened o) cs) = keeps o SilentBoth silent_kept [] (opened o) cs silent_start in h.1 rest whole
