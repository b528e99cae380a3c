-- What the box keeps of commands, and of answers to aborts and Logouts, stays what the log says of them through all calls.
use Rattle.std.proofs.Common.{◌≡◌, ℕ, inr, ⊎_elim, ◌+◌, true, false, List, [], ◌∷◌, ◌++◌, length, map, max, nat_lt, Some, None, refl, ap, sym, subst, ◌∙◌, arith}
use Rattle.std.proofs.lemmas.Bool.{cond_both}
use Rattle.std.proofs.lemmas.List.{append_assoc, append-nil}
use Rattle.iscsi_rules.specs.declared.effect.Effect.{Effect}
use Rattle.iscsi_outbox_rules.specs.declared.own_pdu.OwnPdu.{OwnPdu}
use Rattle.iscsi_outbox_rules.specs.rules.Calls.{Opening, Call, Takes, Puts, Stops, Nexts, Writes, Hears, Joins, Loses, Clears}
use Rattle.iscsi_outbox_rules.specs.rules.Boxes.{Outgoing, Answer, Link, Box}
use Rattle.iscsi_outbox_rules.specs.rules.Words.{contains, is_open, is_running}
use Rattle.iscsi_outbox_rules.specs.rules.Queues.{at_link, enter, drop_on}
use Rattle.iscsi_outbox_rules.specs.rules.Due.{settle}
use Rattle.iscsi_outbox_rules.specs.rules.Items.{in_phase}
use Rattle.iscsi_outbox_rules.specs.rules.Own.{own_conn, own_outgoing, put_refusal}
use Rattle.iscsi_outbox_rules.specs.rules.Run.{new_link, opened, after_call, after_calls, answered, phase_stopped, one_written, arrived_by_stat_sn, arrived_by_ping, link_heard, may_join, link_joined, link_lost, waits_for_clear, cleared}
use Rattle.iscsi_outbox_rules.specs.promises.Deeds.{Deed, deeds_of, items_in, items_of_call}
use Rattle.iscsi_outbox_rules.proofs.general.EachLemmas.{EachOf, each-first, each-second}
use Rattle.iscsi_outbox_rules.proofs.general.ConnLemmas.{HaveConns}
use Rattle.iscsi_outbox_rules.proofs.general.Cuts.{keeps, Hand, Idle, next}
use Rattle.iscsi_outbox_rules.proofs.general.DeedLemmas.{items_in-more}
use Rattle.iscsi_outbox_rules.proofs.general.FirstLemmas.{firsts}
use Rattle.iscsi_outbox_rules.proofs.commands.TicketLemmas.{EntersOn}
use Rattle.iscsi_outbox_rules.proofs.commands.LeaveLemmas.{leaving, leavings, leavings-append}
use Rattle.iscsi_outbox_rules.proofs.general.TaskWalks.{is_over_phase, phased, phased_onward}
use Rattle.iscsi_outbox_rules.proofs.commands.TaskRuns.{AreIn}
use Rattle.iscsi_outbox_rules.proofs.commands.TaskFits.{Fits, fits-first, fits-second}
use Rattle.iscsi_outbox_rules.proofs.commands.TaskLives.{phased_live, live_stopped, lives_start}
use Rattle.iscsi_outbox_rules.proofs.aborts.ScopeTasks.{phased_task}
use Rattle.iscsi_outbox_rules.proofs.aborts.ScopeBoxes.{EachQueue, kept_at, kept_enter, kept_drop_on, kept_given}
use Rattle.iscsi_outbox_rules.proofs.aborts.ScopeRuns.{Told, Scoped}
use Rattle.iscsi_outbox_rules.proofs.aborts.ScopeItems.{ScopeStands, scope_settle, scope_turn, AllFit, scope_event}

module _ (t c : ℕ) (o : Opening) (cs : List ℕ) (known : contains cs c ≡ true) where
  -- ---- one call

  -- its connections change, and not what waits there
  marked : (items : List (List Effect)) (b : Box) (conn : ℕ) (change : Link → Link) → ((l : Link) → (change l).conn ≡ l.conn) → ((l : Link) → (change l).queue ≡ l.queue) → ScopeStands t c o cs known items b
      → ScopeStands t c o cs known items (record b { links = at_link conn change b.links })
  marked items b conn change same queue h = record {
    tasks = h.tasks;
    waits = kept_at cs (Told o t items (AreIn is_over_phase t b.tasks)) (Scoped o t items) (length (firsts items)) b conn change same
        (λ l at k. subst (EachOf (Told o t items (AreIn is_over_phase t b.tasks))) (sym (queue l)) k) h.waits;
  }

  settled : (items : List (List Effect)) (b : Box) → ScopeStands t c o cs known items b → ScopeStands t c o cs known items (settle o b)
  settled items b h = scope_settle t c o cs known items b h

  puts : (items : List (List Effect)) (b : Box) (p : OwnPdu) → ScopeStands t c o cs known items b → ScopeStands t c o cs known items (after_call o b (Puts p))
  puts items b p h =
      elim (put_refusal o b p) as (λ x. ScopeStands t c o cs known items (elim x [ Some refusal ↦ b | None ↦ elim (own_conn b p) [ Some conn ↦ enter conn (own_outgoing p) b | None ↦ b ] ])) [
        | Some refusal ↦ h
        | None ↦ elim (own_conn b p) as (λ x. ScopeStands t c o cs known items (elim x [ Some conn ↦ enter conn (own_outgoing p) b | None ↦ b ])) [
          | Some conn ↦ record {
            tasks = h.tasks;
            waits = kept_enter cs (Told o t items (AreIn is_over_phase t b.tasks)) (Scoped o t items) (length (firsts items)) b conn (own_outgoing p) (inr refl) h.waits;
          }
          | None ↦ h
        ]
      ]

  clears : (items : List (List Effect)) (unit : ℕ) (answers : List Answer) → EachOf (Scoped o t items) answers → EachOf (Scoped o t items) (cleared unit answers)
  clears items unit [] h = tt
  clears items unit (a ∷ answers) h =
      cond_both (waits_for_clear unit a) (record a { uncleared = false } ∷ answers) (a ∷ cleared unit answers) (EachOf (Scoped o t items))
      (λ is. (record { place = h.0.place; reply = h.0.reply; place_is = h.0.place_is; nth_is = h.0.nth_is; over = h.0.over }, h.1)) (λ is. (h.0, clears items unit answers h.1))

  loses : (items : List (List Effect)) (b : Box) (conn : ℕ) → ScopeStands t c o cs known items b → ScopeStands t c o cs known items (after_call o b (Loses conn))
  loses items b conn h =
      let n : ℕ = length (firsts items) in
      let one : Box = record b { links = at_link conn link_lost b.links } in
      let lost : Box = record one { reached = 0 } in
      let k : ScopeStands t c o cs known items one = marked items b conn link_lost (λ l. refl) (λ l. refl) h in
      settled items (drop_on conn lost) (record {
        tasks = k.tasks;
        waits = kept_drop_on cs (Told o t items (AreIn is_over_phase t b.tasks)) (Scoped o t items) n lost conn (record { queues = k.waits.queues; undue = k.waits.undue; conns = k.waits.conns; sent = k.waits.sent });
      })

  -- the items of the call fit a session
  scope_call : (items : List (List Effect)) (b : Box) (call : Call) → AllFit t c o cs known items (items_of_call call) → ScopeStands t c o cs known items b → ScopeStands t c o cs known (items ++ items_of_call call) (after_call o b call)
  scope_call items b (Takes effects numbers) fit h = scope_event t c o cs known items b effects numbers fit h
  scope_call items b (Puts p) fit h = subst (λ its. ScopeStands t c o cs known its (after_call o b (Puts p))) (sym (append-nil items)) (puts items b p h)
  scope_call items b (Stops ticket) fit h =
      subst (λ its. ScopeStands t c o cs known its (after_call o b (Stops ticket))) (sym (append-nil items))
      (cond_both (is_running b ticket) (settle o (in_phase phase_stopped (ticket ∷ []) b)) b (ScopeStands t c o cs known items)
      (λ is. settled items (in_phase phase_stopped (ticket ∷ []) b)
      (scope_turn t c o cs known items b (phased phase_stopped (ticket ∷ [])) (phased_onward phase_stopped (λ among stays. stays.stopped) (ticket ∷ [])) (phased_live phase_stopped live_stopped (ticket ∷ [])) (phased_task phase_stopped (ticket ∷ [])) h))
      (λ is. h))
  scope_call items b (Nexts conn) fit h =
      subst (λ its. ScopeStands t c o cs known its (after_call o b (Nexts conn))) (sym (append-nil items))
      (⊎_elim
      (λ (k : Hand o b conn). subst (ScopeStands t c o cs known items) (sym k.after_is) (record {
        tasks = h.tasks;
        waits = kept_given cs (Told o t items (AreIn is_over_phase t b.tasks)) (Scoped o t items) (length (firsts items)) o b k.handing.link k.handed h.waits;
      }))
      (λ (k : Idle o b conn). subst (ScopeStands t c o cs known items) (sym k.after_is) h)
      (next o b conn))
  scope_call items b (Writes conn) fit h =
      subst (λ its. ScopeStands t c o cs known its (after_call o b (Writes conn))) (sym (append-nil items))
      (settled items (record b { links = at_link conn one_written b.links })
      (marked items b conn one_written (λ l. cond_both (nat_lt l.written (length l.handed)) (record l { written = l.written + 1 }) l (λ (m : Link). m.conn ≡ l.conn) (λ is. refl) (λ is. refl))
      (λ l. cond_both (nat_lt l.written (length l.handed)) (record l { written = l.written + 1 }) l (λ (m : Link). m.queue ≡ l.queue) (λ is. refl) (λ is. refl)) h))
  scope_call items b (Hears conn exp_stat_sn tag) fit h =
      subst (λ its. ScopeStands t c o cs known its (after_call o b (Hears conn exp_stat_sn tag))) (sym (append-nil items))
      (settled items (record b { links = at_link conn (link_heard exp_stat_sn tag) b.links })
      (marked items b conn (link_heard exp_stat_sn tag)
      (λ l. cond_both (is_open l) (record l { arrived = max l.arrived (max (arrived_by_stat_sn l exp_stat_sn) (arrived_by_ping l tag)) }) l (λ (m : Link). m.conn ≡ l.conn) (λ is. refl) (λ is. refl))
      (λ l. cond_both (is_open l) (record l { arrived = max l.arrived (max (arrived_by_stat_sn l exp_stat_sn) (arrived_by_ping l tag)) }) l (λ (m : Link). m.queue ≡ l.queue) (λ is. refl) (λ is. refl)) h))
  scope_call items b (Joins conn stat_sn) fit h =
      subst (λ its. ScopeStands t c o cs known its (after_call o b (Joins conn stat_sn))) (sym (append-nil items))
      (cond_both (may_join b conn) (record b { links = at_link conn (link_joined stat_sn) b.links }) b (ScopeStands t c o cs known items)
      (λ is. marked items b conn (link_joined stat_sn) (λ l. refl) (λ l. refl) h) (λ is. h))
  scope_call items b (Loses conn) fit h = subst (λ its. ScopeStands t c o cs known its (after_call o b (Loses conn))) (sym (append-nil items)) (loses items b conn h)
  scope_call items b (Clears unit) fit h =
      subst (λ its. ScopeStands t c o cs known its (after_call o b (Clears unit))) (sym (append-nil items))
      (settled items (record b { undue = cleared unit b.undue }) (record {
        tasks = h.tasks;
        waits = record { queues = h.waits.queues; undue = clears items unit b.undue h.waits.undue; conns = h.waits.conns; sent = h.waits.sent };
      }))

  -- ---- all calls

  all_fit : (items more : List (List Effect)) → Fits t (leavings t items) more → EachOf (EntersOn t c) more → AllFit t c o cs known items more
  all_fit items [] fits on = tt
  all_fit items (item ∷ more) fits on =
      let same : leavings t items + leaving t item ≡ leavings t (items ++ item ∷ []) = omega (arith, leavings-append t items (item ∷ [])) in
      (record { once = fits.0; fresh = fits.1.0; on = on.0 }, all_fit (items ++ item ∷ []) more (subst (λ l. Fits t l more) same fits.1.1) on.1)

  module _ (all : List (List Effect)) (fits : Fits t 0 all) (on : EachOf (EntersOn t c) all) where
    abbrev Onward : List Deed → Box → Type 0
    Onward ds b = (rest : List (List Effect)) → items_in ds ++ rest ≡ all → ScopeStands t c o cs known (items_in ds) b

    onward_kept : (ds : List Deed) (b : Box) (call : Call) → Onward ds b → Onward (ds ++ (call, answered o b call) ∷ []) (after_call o b call)
    onward_kept ds b call h rest whole =
        let items : List (List Effect) = items_of_call call in
        let d : Deed = (call, answered o b call) in
        let parts : items_in ds ++ (items ++ rest) ≡ all = sym (append_assoc (items_in ds) items rest) ∙ ap (λ its. its ++ rest) (sym (items_in-more ds d)) ∙ whole in
        let z : 0 + leavings t (items_in ds) ≡ leavings t (items_in ds) = omega arith in
        let later : Fits t (leavings t (items_in ds)) (items ++ rest) = subst (λ l. Fits t l (items ++ rest)) z (fits-second t 0 (items_in ds) (items ++ rest) (subst (Fits t 0) (sym parts) fits)) in
        let these : EachOf (EntersOn t c) items = each-first (EntersOn t c) items rest (each-second (EntersOn t c) (items_in ds) (items ++ rest) (subst (EachOf (EntersOn t c)) (sym parts) on)) in
        subst (λ its. ScopeStands t c o cs known its (after_call o b call)) (sym (items_in-more ds d))
        (scope_call (items_in ds) b call (all_fit (items_in ds) items (fits-first t (leavings t (items_in ds)) items rest later) these) (h (items ++ rest) parts))

    module _ (conns : HaveConns cs (opened o).links) where
      none_waits : (P : Outgoing → Type 0) (xs : List (ℕ × ℕ)) → EachQueue P (map (λ (x : ℕ × ℕ). new_link x.0) xs)
      none_waits P [] = tt
      none_waits P (x ∷ xs) = (tt, none_waits P xs)

      onward_start : Onward [] (opened o)
      onward_start rest whole = record {
        tasks = record { have = tt; homes = tt; lives = lives_start t };
        waits = record { queues = none_waits (Told o t [] (AreIn is_over_phase t [])) o.session.conns; undue = tt; conns = conns; sent = refl };
      }

      pub scope_stands : (calls : List Call) (rest : List (List Effect)) → items_in (deeds_of o calls) ++ rest ≡ all → ScopeStands t c o cs known (items_in (deeds_of o calls)) (after_calls o (opened o) calls)
      scope_stands calls rest whole = let h : Onward (deeds_of o calls) (after_calls o (opened o) calls) = keeps o Onward onward_kept [] (opened o) calls onward_start in h rest whole
