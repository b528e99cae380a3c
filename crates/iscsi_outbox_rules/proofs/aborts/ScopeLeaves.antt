-- A command that was told to its unit before the event in which an abort or a Logout took it out runs, until it is reported stopped.
use Rattle.std.proofs.Common.{◌≡◌, ℕ, ◌⊎◌, ⊎_elim, ◌==◌, ◌+◌, ◌≤◌, ◌&&◌, ◌||◌, cond, Bool, true, false, List, [], ◌∷◌, ◌++◌, map, filter_map, Option, Some, None, refl, ap, sym, subst, ◌∙◌, arith}
use Rattle.std.specs.Prelude.{Contains}
use Rattle.std.specs.List.{list_any, flat_map, cons_option}
use Rattle.std.proofs.lemmas.Bool.{false≢true}
use Rattle.std.proofs.lemmas.List.Folds.{list_any-append}
use Rattle.std.proofs.lemmas.List.Sums.{sum_by-cons}
use Rattle.iscsi_wire.specs.declared.request.Request.{Request}
use Rattle.iscsi_rules.specs.declared.effect.Effect.{Effect}
use Rattle.iscsi_rules.specs.declared.effect.Effect.TheVariants.{Deliver, Immediate, Wait, Void, Empty, Enter, Enable, Leave, Send, CloseConn, CloseSession, Ignore}
use Rattle.iscsi_rules.specs.promises.Lives.{tickets_entered}
use Rattle.iscsi_rules.specs.promises.Order.{in_parts}
use Rattle.iscsi_rules.proofs.general.ElementLemmas.{In}
use Rattle.iscsi_outbox_rules.specs.rules.Calls.{Opening, Call, Takes, Puts, Stops, Nexts, Writes, Hears, Joins, Loses, Clears}
use Rattle.iscsi_outbox_rules.specs.rules.Boxes.{Phase, Dormant, Fresh, Started, Completed, Running, Gone, Box}
use Rattle.iscsi_outbox_rules.specs.rules.Words.{is_running_phase}
use Rattle.iscsi_outbox_rules.specs.rules.Items.{executing, tickets_left}
use Rattle.iscsi_outbox_rules.specs.rules.Run.{Stopped, new_link, opened, after_call, after_calls}
use Rattle.iscsi_outbox_rules.specs.promises.Deeds.{Deed, deeds_from, deeds_of, effects_taken, items_of_call, items_in}
use Rattle.iscsi_outbox_rules.specs.promises.Scope.{Entered, entered_as, entered_in, is_taken_out_in}
use Rattle.iscsi_outbox_rules.specs.promises.Still.{leaves, enabled_in}
use Rattle.iscsi_outbox_rules.proofs.general.EachLemmas.{EachOf}
use Rattle.iscsi_outbox_rules.proofs.general.ConnLemmas.{conns_of}
use Rattle.iscsi_outbox_rules.proofs.commands.TicketLemmas.{parts_whole, entered}
use Rattle.iscsi_outbox_rules.proofs.commands.LeaveLemmas.{leaving, leavings, leavings-append, leavings_flat}
use Rattle.iscsi_outbox_rules.proofs.general.TaskWalks.{is_over_phase}
use Rattle.iscsi_outbox_rules.proofs.commands.TaskRuns.{AreIn}
use Rattle.iscsi_outbox_rules.proofs.commands.TaskFits.{Fits, fits-first, fits-second}
use Rattle.iscsi_outbox_rules.proofs.commands.TaskLives.{Lives, lives_calls, lives_start}
use Rattle.iscsi_outbox_rules.proofs.aborts.SilentItems.{any_leaves}
use Rattle.iscsi_outbox_rules.proofs.aborts.ScopeWakes.{wakes, Rises, rises-first, rises-second, Woken, woken_event}
use Rattle.iscsi_outbox_rules.proofs.aborts.ScopeRunning.{wakes_call, HasStarted, has_started, running_since}

-- ---- of lists and calls

pub each-in : {A : Type 0} (P : A → Type 0) (xs : List A) (x : A) → In x xs → EachOf P xs → P x
each-in P [] x there h = absurd there
each-in P (y ∷ xs) x there h = ⊎_elim (λ here. subst P here h.0) (λ later. each-in P xs x later h.1) there

pub calls_append : (o : Opening) (b : Box) (xs ys : List Call) → after_calls o b (xs ++ ys) ≡ after_calls o (after_calls o b xs) ys
calls_append o b [] ys = refl
calls_append o b (x ∷ xs) ys = calls_append o (after_call o b x) xs ys

pub new_conns : (cs : List (ℕ × ℕ)) → conns_of (map (λ (x : ℕ × ℕ). new_link x.0) cs) ≡ map (λ (x : ℕ × ℕ). x.0) cs
new_conns [] = refl
new_conns (x ∷ cs) = ap (λ ks. x.0 ∷ ks) (new_conns cs)

pub not_both : (p : Phase) → is_running_phase p ≡ true → is_over_phase p ≡ true → ⊥
not_both Dormant h k = false≢true h
not_both Fresh h k = false≢true h
not_both Started h k = false≢true h
not_both Completed h k = false≢true h
not_both Running h k = false≢true k
not_both Gone h k = false≢true h

module _ (t : ℕ) where
  -- ---- what items show of it

  leaves_some : (es : List Effect) → list_any (leaves t) es ≡ true → 1 ≤ leaving t es
  leaves_some [] h = absurd (false≢true h)
  leaves_some (e ∷ es) h = by_effect e (leaves_some es) h
    where
      by_effect : (x : Effect) → (list_any (leaves t) es ≡ true → 1 ≤ leaving t es) → (leaves t x || list_any (leaves t) es) ≡ true → 1 ≤ leaving t (x ∷ es)
      by_effect (Deliver r) go k = go k
      by_effect (Immediate r) go k = go k
      by_effect (Wait r) go k = go k
      by_effect (Void n) go k = go k
      by_effect (Empty n) go k = go k
      by_effect (Enter ticket u attr) go k = go k
      by_effect (Enable ticket u) go k = go k
      by_effect (Leave ticket u) go k =
          let counted : leaving t (Leave ticket u ∷ es) ≡ cond {A = ℕ} (ticket == t) 1 0 + leaving t es = sum_by-cons (λ j. cond (j == t) 1 0) ticket (tickets_left es) in
          elim (ticket == t) as (λ v. (ticket == t) ≡ v → (v || list_any (leaves t) es) ≡ true → 1 ≤ leaving t (Leave ticket u ∷ es)) [
            | true ↦ λ is here. let one : cond {A = ℕ} (ticket == t) 1 0 ≡ 1 = ap (λ v. cond {A = ℕ} v 1 0) is in omega (arith, counted, one)
            | false ↦ λ is later. let rest : 1 ≤ leaving t es = go later in omega (arith, counted, rest)
          ] refl k
      by_effect (Send conn stat_sn reply) go k = go k
      by_effect (CloseConn conn) go k = go k
      by_effect CloseSession go k = go k
      by_effect (Ignore why) go k = go k

  enters_some : (r : Request) (q : Entered → Bool) (item : List Effect) → list_any (λ (e : Entered). (e.ticket == t) && q e) (filter_map (entered_as r) item) ≡ true → 1 ≤ entered t item
  enters_some r q [] h = absurd (false≢true h)
  enters_some r q (e ∷ item) h = by_effect e (enters_some r q item) h
    where
      rest : List Entered
      rest = filter_map (entered_as r) item

      by_effect : (x : Effect) → (list_any (λ (n : Entered). (n.ticket == t) && q n) rest ≡ true → 1 ≤ entered t item) → list_any (λ (n : Entered). (n.ticket == t) && q n) (cons_option (entered_as r x) rest) ≡ true → 1 ≤ entered t (x ∷ item)
      by_effect (Deliver y) go k = go k
      by_effect (Immediate y) go k = go k
      by_effect (Wait y) go k = go k
      by_effect (Void n) go k = go k
      by_effect (Empty n) go k = go k
      by_effect (Enter ticket u attr) go k =
          let counted : entered t (Enter ticket u attr ∷ item) ≡ cond {A = ℕ} (ticket == t) 1 0 + entered t item = sum_by-cons (λ j. cond (j == t) 1 0) ticket (tickets_entered item) in
          elim (ticket == t) as (λ v. (ticket == t) ≡ v → ((v && q (record { ticket = ticket; unit = u; request = r })) || list_any (λ (n : Entered). (n.ticket == t) && q n) rest) ≡ true → 1 ≤ entered t (Enter ticket u attr ∷ item)) [
            | true ↦ λ is here. let one : cond {A = ℕ} (ticket == t) 1 0 ≡ 1 = ap (λ v. cond {A = ℕ} v 1 0) is in omega (arith, counted, one)
            | false ↦ λ is later. let more : 1 ≤ entered t item = go later in omega (arith, counted, more)
          ] refl k
      by_effect (Enable ticket u) go k = go k
      by_effect (Leave ticket u) go k = go k
      by_effect (Send conn stat_sn reply) go k = go k
      by_effect (CloseConn conn) go k = go k
      by_effect CloseSession go k = go k
      by_effect (Ignore why) go k = go k

  -- one of these items is that by which it entered
  pub entered_by : (G : Type 0) (P : List Effect → Type 0) → ((item : List Effect) (r : Request) → P item → executing item ≡ Some r → 1 ≤ entered t item → G) → (q : Entered → Bool) (items : List (List Effect)) → EachOf P items
      → list_any (λ (e : Entered). (e.ticket == t) && q e) (flat_map entered_in items) ≡ true → G
  entered_by G P f q [] h some = absurd (false≢true some)
  entered_by G P f q (item ∷ items) h some = by_first (list_any p (entered_in item)) (entered_by G P f q items h.1) refl (sym (list_any-append p (entered_in item) (flat_map entered_in items)) ∙ some)
    where
      p : Entered → Bool
      p e = (e.ticket == t) && q e

      by_request : (x : Option Request) → executing item ≡ x → list_any (λ (e : Entered). (e.ticket == t) && q e) (elim x [ Some r ↦ filter_map (entered_as r) item | None ↦ [] ]) ≡ true → G
      by_request (Some r) is there = f item r h.0 is (enters_some r q item there)
      by_request None is there = absurd (false≢true there)

      by_first : (v : Bool) → (list_any p (flat_map entered_in items) ≡ true → G) → list_any p (entered_in item) ≡ v → (v || list_any p (flat_map entered_in items)) ≡ true → G
      by_first true go is either = by_request (executing item) refl is
      by_first false go is later = go later

  wakes_deeds : (ds : List Deed) → list_any (wakes t) (items_in ds) ≡ list_any (enabled_in t) ds
  wakes_deeds [] = refl
  wakes_deeds (d ∷ ds) = list_any-append (wakes t) (items_of_call d.0) (items_in ds) ∙ ap (λ v. v || list_any (wakes t) (items_in ds)) (wakes_call t d.0) ∙ ap (λ v. enabled_in t d || v) (wakes_deeds ds)

  woken_start : HasStarted t 0 false []
  woken_start = record { fits = λ is. absurd (false≢true is); started = λ is. absurd (false≢true is); awake = λ is. absurd (false≢true is); runs = λ is. absurd (false≢true is) }

  -- in the middle of three, where it leaves once
  middle_taken : (xs ys zs : List (List Effect)) → 1 ≤ leavings t ys → leavings t (xs ++ (ys ++ zs)) ≤ 1 → list_any (is_taken_out_in t) (xs ++ (ys ++ zs)) ≡ true → list_any (is_taken_out_in t) ys ≡ true
  middle_taken xs ys zs some once taken = by_first (list_any p xs) refl (sym (list_any-append p xs (ys ++ zs)) ∙ taken)
    where
      p : List Effect → Bool
      p = is_taken_out_in t

      first : leavings t (xs ++ (ys ++ zs)) ≡ leavings t xs + leavings t (ys ++ zs)
      first = leavings-append t xs (ys ++ zs)

      second : leavings t (ys ++ zs) ≡ leavings t ys + leavings t zs
      second = leavings-append t ys zs

      by_second : (v : Bool) → list_any p ys ≡ v → (v || list_any p zs) ≡ true → list_any p ys ≡ true
      by_second true is either = is
      by_second false is later = let more : 1 ≤ leavings t zs = any_leaves t zs later in absurd (omega (arith, first, second, some, once, more))

      by_first : (v : Bool) → list_any p xs ≡ v → (v || list_any p (ys ++ zs)) ≡ true → list_any p ys ≡ true
      by_first true is either = let more : 1 ≤ leavings t xs = any_leaves t xs is in absurd (omega (arith, first, second, some, once, more))
      by_first false is later = by_second (list_any p ys) refl (sym (list_any-append p ys zs) ∙ later)

  -- ---- it runs from the event in which it left until it is reported stopped

  pub stops_or_runs : (o : Opening) (first rest : List Call) (call : Call) → let b = after_calls o (opened o) first in let before = items_in (deeds_of o first) in let since = items_in (deeds_from o (after_call o b call) rest) in
      Fits t 0 (before ++ (items_of_call call ++ since)) → Rises t false (before ++ (items_of_call call ++ since)) → leavings t (before ++ (items_of_call call ++ since)) ≤ 1
      → list_any (is_taken_out_in t) (before ++ (items_of_call call ++ since)) ≡ true → list_any (leaves t) (effects_taken call) ≡ true → list_any (enabled_in t) (deeds_of o first) ≡ true
      → Contains (deeds_from o (after_call o b call) rest) (Stops t, Stopped true) ⊎ AreIn is_running_phase t (after_calls o (after_call o b call) rest).tasks
  stops_or_runs o first rest (Takes effects numbers) fits rises once taken left told =
      running_since t o ((0 + l) + leavings t parts) (after_call o b call) rest (omega (arith, some)) (fits-second t (0 + l) parts since (fits-second t 0 before (parts ++ since) fits)) (event.runs (ap (λ v. v && list_any (is_taken_out_in t) parts) told ∙ here))
    where
      call : Call
      call = Takes effects numbers

      b : Box
      b = after_calls o (opened o) first

      before : List (List Effect)
      before = items_in (deeds_of o first)

      parts : List (List Effect)
      parts = in_parts effects

      since : List (List Effect)
      since = items_in (deeds_from o (after_call o b call) rest)

      l : ℕ
      l = leavings t before

      some : 1 ≤ leavings t parts
      some = subst (λ n. 1 ≤ n) (sym (leavings_flat t parts ∙ ap (leaving t) (parts_whole effects))) (leaves_some effects left)

      here : list_any (is_taken_out_in t) parts ≡ true
      here = middle_taken before parts since some once taken

      lives : Lives t (0 + l) (list_any (is_taken_out_in t) before) b.tasks
      lives = lives_calls t o 0 false (opened o) first (fits-first t 0 before (parts ++ since) fits) (lives_start t)

      started : HasStarted t (0 + l) (list_any (enabled_in t) (deeds_of o first)) b.tasks
      started = has_started t o 0 false false (opened o) first (fits-first t 0 before (parts ++ since) fits) (rises-first t false before (parts ++ since) rises) (lives_start t) woken_start

      rising : Rises t (list_any (enabled_in t) (deeds_of o first)) parts
      rising = rises-first t (list_any (enabled_in t) (deeds_of o first)) parts since (subst (λ v. Rises t v (parts ++ since)) (wakes_deeds (deeds_of o first)) (rises-second t false before (parts ++ since) rises))

      event : Woken t ((0 + l) + leavings t parts) (list_any (enabled_in t) (deeds_of o first) || list_any (wakes t) parts) false (list_any (enabled_in t) (deeds_of o first) && list_any (is_taken_out_in t) parts) (after_call o b call).tasks
      event = woken_event t o (0 + l) (list_any (is_taken_out_in t) before) (list_any (enabled_in t) (deeds_of o first)) false b effects numbers (fits-first t (0 + l) parts since (fits-second t 0 before (parts ++ since) fits)) rising lives started
  stops_or_runs o first rest (Puts p) fits rises once taken left told = absurd (false≢true left)
  stops_or_runs o first rest (Stops ticket) fits rises once taken left told = absurd (false≢true left)
  stops_or_runs o first rest (Nexts conn) fits rises once taken left told = absurd (false≢true left)
  stops_or_runs o first rest (Writes conn) fits rises once taken left told = absurd (false≢true left)
  stops_or_runs o first rest (Hears conn exp_stat_sn tag) fits rises once taken left told = absurd (false≢true left)
  stops_or_runs o first rest (Joins conn stat_sn) fits rises once taken left told = absurd (false≢true left)
  stops_or_runs o first rest (Loses conn) fits rises once taken left told = absurd (false≢true left)
  stops_or_runs o first rest (Clears unit) fits rises once taken left told = absurd (false≢true left)
