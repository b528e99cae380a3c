-- A command that was taken out stops: its request is used once less.
use Rattle.std.proofs.Common.{◌≡◌, ℕ, ◌+◌, ◌<◌, ◌≤◌, ◌==◌, ◌&&◌, ◌||◌, inl, inr, not, cond, Bool, true, false, List, [], ◌∷◌, length, map, count_by, filter, Option, Some, None, refl, ap, sym, subst, ◌∙◌, arith, ne_eqb}
use Rattle.std.specs.List.{list_any}
use Rattle.std.proofs.lemmas.Bool.{false≢true, eqb-true, eq-eqb, and_from}
use Rattle.iscsi_rules.specs.rules.Trace.{Command as RulesCommand, entered, first_of, has, leaves_ticket, live, was_free}
use Rattle.iscsi_rules.proofs.general.BoolLemmas.{and_parts, and_first, and_second}
use Rattle.iscsi_rules.proofs.general.CountLemmas.{one, count-cons, count-weaker}
use Rattle.iscsi_rules.proofs.general.ElementLemmas.{In, filter-in, in-filter}
use Rattle.iscsi_outbox_rules.specs.rules.Calls as outbox
use Rattle.iscsi_outbox_rules.specs.rules.Boxes.{Box, Completed, Dormant, Fresh, Gone, Phase, Running, Started, Task}
use Rattle.iscsi_outbox_rules.specs.rules.Due.{settle}
use Rattle.iscsi_outbox_rules.specs.rules.Items.{in_phase}
use Rattle.iscsi_outbox_rules.specs.rules.Run.{after_call, phase_stopped}
use Rattle.iscsi_outbox_rules.specs.rules.Words.{contains, is_running, is_running_phase}
use Rattle.iscsi_outbox_law.specs.private.Commands.{link_in}
use Rattle.iscsi_outbox_law.specs.private.Pairs.{EachOf}
use Rattle.iscsi_outbox_law.specs.private.Stands.{Stands as OutboxStands}
use Rattle.iscsi_outbox_law.proofs.general.PairLemmas.{each-weaken}
use Rattle.iscsi_outbox_law.proofs.commands.Stops.{stops_answered, stops_stands}
use Rattle.iscsi_outbox_law.proofs.commands.TurningCount.{call_last}
use Rattle.iscsi_outbox_steps.specs.Steps.{is_running_ticket, stopped}
use Rattle.iscsi_requests.specs.Conns.{of_conn}
use Rattle.iscsi_requests.specs.Cookies.{uses_at}
use Rattle.iscsi_ffi_commands.specs.declared.command.Command.{Command}
use Rattle.iscsi_ffi_commands.specs.Commands.{find_ticket, has_ticket, is_going, is_live, is_marked}
use Rattle.iscsi_ffi_rules.specs.rules.Calls.{Interface, Completes, Stops}
use Rattle.iscsi_ffi_rules.specs.rules.Clearing.{TASK_ABORTED}
use Rattle.iscsi_ffi_rules.specs.rules.Happening.{happens, other, quiet}
use Rattle.iscsi_rules.specs.declared.event.Event.TheVariants.{Done}
use Rattle.iscsi_ffi_rules.specs.rules.Run as rules
use Rattle.iscsi_ffi_rules.specs.rules.Sides.{Side}
use Rattle.iscsi_ffi_steps.specs.Steps.{Answered, Side as StepsSide, Stale, complete, complete_as, done, going, happens as steps_happen, says, stop, stop_as, stop_running}
use Rattle.iscsi_ffi_steps.specs.Walk.{Doing, release, release_if}
use Rattle.iscsi_ffi_law.specs.Alike.{GoesAlike}
use Rattle.iscsi_ffi_law.specs.Fit.{IsFit}
use Rattle.iscsi_ffi_law.specs.Parts.{IsCommand, IsOneUse, is_named}
use Rattle.iscsi_ffi_law.specs.Stands.{Stands}
use Rattle.iscsi_ffi_law.specs.Uses.{count_commands, is_used, uses_of}
use Rattle.iscsi_ffi_law.proofs.calls.Changed.{IsChanged, conn_kept, requests_changed}
use Rattle.iscsi_ffi_law.proofs.calls.Ends.{EndsAlike, GoesTo, ends_alike, moved_ends, found_fit}
use Rattle.iscsi_ffi_law.proofs.requests.Kept.{count_members, count_nothing}
use Rattle.iscsi_ffi_law.proofs.general.Members.{Paired, each_in, find_in, in_counted, in_find, pairs_in, two_counted}
use Rattle.iscsi_ffi_law.proofs.calls.Moved.{all_queued, with_box, with_outbox}
use Rattle.iscsi_ffi_law.proofs.sending.Queued.{SettledTo, settled_to}
use Rattle.iscsi_ffi_law.proofs.calls.Quiet.{settled_sent, settled_tasks}
use Rattle.iscsi_ffi_law.proofs.requests.Releasing.{ending}

-- ---- which commands run

stopped_run : (ticket k : ℕ) (tasks : List Task) → list_any (λ (t : Task). t.ticket == k && is_running_phase t.phase) (map (λ (t : Task). cond (contains (ticket ∷ []) t.ticket) (record t { phase = phase_stopped t.phase }) t) tasks)
    ≡ (list_any (λ (t : Task). t.ticket == k && is_running_phase t.phase) tasks && not (k == ticket))
stopped_run ticket k [] = refl
stopped_run ticket k (t ∷ tasks) = ap (λ v. one_runs (cond (contains (ticket ∷ []) t.ticket) (record t { phase = phase_stopped t.phase }) t) || v) (stopped_run ticket k tasks) ∙ by_tests (ticket == t.ticket) refl (t.ticket == k) refl
  where
    one_runs : Task → Bool
    one_runs u = u.ticket == k && is_running_phase u.phase

    never : (p : Phase) → is_running_phase (phase_stopped p) ≡ false
    never Dormant = refl
    never Fresh = refl
    never Started = refl
    never Completed = refl
    never Running = refl
    never Gone = refl

    rest : Bool
    rest = list_any (λ (u : Task). u.ticket == k && is_running_phase u.phase) tasks

    by_tests : (v : Bool) → (ticket == t.ticket) ≡ v → (w : Bool) → (t.ticket == k) ≡ w
        → ((cond (v || false) (record t { phase = phase_stopped t.phase }) t).ticket == k && is_running_phase (cond (v || false) (record t { phase = phase_stopped t.phase }) t).phase || (list_any (λ (u : Task). u.ticket == k && is_running_phase u.phase) tasks && not (k == ticket)))
        ≡ ((t.ticket == k && is_running_phase t.phase || list_any (λ (u : Task). u.ticket == k && is_running_phase u.phase) tasks) && not (k == ticket))
    by_tests true is true at =
        let same : (k == ticket) ≡ true = eq-eqb k ticket (sym (eqb-true t.ticket k at) ∙ sym (eqb-true ticket t.ticket is)) in
        ap (λ v. (t.ticket == k && v) || (rest && not (k == ticket))) (never t.phase) ∙ ap (λ v. (v && false) || (rest && not (k == ticket))) at ∙ ap (λ v. rest && not v) same ∙ none rest ∙ sym (ap (λ v. ((t.ticket == k && is_running_phase t.phase) || rest) && not v) same ∙ none ((t.ticket == k && is_running_phase t.phase) || rest))
      where
        none : (v : Bool) → (v && false) ≡ false
        none true = refl
        none false = refl
    by_tests true is false at = ap (λ w. (w && is_running_phase (phase_stopped t.phase)) || (rest && not (k == ticket))) at ∙ sym (ap (λ w. ((w && is_running_phase t.phase) || rest) && not (k == ticket)) at)
    by_tests false is true at =
        let other : (k == ticket) ≡ false = ne_eqb k ticket (λ same. false≢true (sym is ∙ eq-eqb ticket t.ticket (sym same ∙ sym (eqb-true t.ticket k at)))) in
        ap (λ v. (t.ticket == k && is_running_phase t.phase) || (rest && not v)) other ∙ both (t.ticket == k && is_running_phase t.phase) rest ∙ sym (ap (λ v. ((t.ticket == k && is_running_phase t.phase) || rest) && not v) other)
      where
        both : (a b : Bool) → (a || (b && true)) ≡ ((a || b) && true)
        both true b = refl
        both false b = refl
    by_tests false is false at = ap (λ w. (w && is_running_phase t.phase) || (rest && not (k == ticket))) at ∙ sym (ap (λ w. ((w && is_running_phase t.phase) || rest) && not (k == ticket)) at)

-- ---- uses

pub count_sum : {A : Type 0} (p q e : A → Bool) (xs : List A) → ((x : A) → In x xs → one (p x) ≡ one (q x) + one (e x)) → count_by p xs ≡ count_by q xs + count_by e xs
count_sum p q e [] same = refl
count_sum p q e (x ∷ xs) same =
    let rest : count_by p xs ≡ count_by q xs + count_by e xs = count_sum p q e xs (λ y k. same y (inr k)) in
    omega (arith, rest, same x (inl refl), count-cons p x xs, count-cons q x xs, count-cons e x xs)

module _ (i : Interface) (s : StepsSide) (r : Side) (h : Stands i s r) (ticket : ℕ) (fit : IsFit i r.both.box (after_call i.outbox r.both.box (outbox.Stops ticket))) where
  runs_now : is_running_ticket ticket s.state.outbox ≡ is_running r.both.box ticket
  runs_now = stops_answered i.outbox s.state.outbox r.both.box h.outbox fit.sound fit.distinct ticket

  stands : OutboxStands i.outbox (stopped ticket s.state.outbox) (after_call i.outbox r.both.box (outbox.Stops ticket))
  stands = stops_stands i.outbox s.state.outbox r.both.box h.outbox fit.sound fit.distinct ticket fit.fits fit.short.time

  -- ---- it runs

  module _ (is : is_running r.both.box ticket ≡ true) where
    abbrev settled : Box
    settled = settle i.outbox (in_phase phase_stopped (ticket ∷ []) r.both.box)

    same_box : after_call i.outbox r.both.box (outbox.Stops ticket) ≡ settle i.outbox (in_phase phase_stopped (ticket ∷ []) r.both.box)
    same_box = ap (λ v. cond v (settle i.outbox (in_phase phase_stopped (ticket ∷ []) r.both.box)) r.both.box) is

    stands' : OutboxStands i.outbox (stopped ticket s.state.outbox) (settle i.outbox (in_phase phase_stopped (ticket ∷ []) r.both.box))
    stands' = subst (OutboxStands i.outbox (stopped ticket s.state.outbox)) same_box stands

    fit' : IsFit i r.both.box (settle i.outbox (in_phase phase_stopped (ticket ∷ []) r.both.box))
    fit' = subst (IsFit i r.both.box) same_box fit

    runs_after : (k : ℕ) → is_running_ticket k (stopped ticket s.state.outbox) ≡ (is_running_ticket k s.state.outbox && not (k == ticket))
    runs_after k =
        stops_answered i.outbox (stopped ticket s.state.outbox) settled stands' fit'.sound_after fit.distinct k
        ∙ ap (λ ts. is_running (record r.both.box { tasks = ts }) k) (settled_tasks i.outbox [] r.both.box.undue (in_phase phase_stopped (ticket ∷ []) r.both.box))
        ∙ stopped_run ticket k r.both.box.tasks ∙ ap (λ v. v && not (k == ticket)) (sym (stops_answered i.outbox s.state.outbox r.both.box h.outbox fit.sound fit.distinct k))

    k : SettledTo h.names r.both.trace r.answers (λ p. of_conn p s.state.replies.waiting) (λ p. length (of_conn p s.state.noted.handed)) r.both.box.links (settle i.outbox (in_phase phase_stopped (ticket ∷ []) r.both.box))
    k = settled_to h.names r.both.trace r.answers (λ p. of_conn p s.state.replies.waiting) (λ p. length (of_conn p s.state.noted.handed)) i.outbox (in_phase phase_stopped (ticket ∷ []) r.both.box)
        (all_queued i h.names h.notes (λ place. 0) (λ p. []) s.state r h.requests h.outbox fit.distinct fit.sound)

    still_one : EachOf (IsOneUse (stopped ticket s.state.outbox)) s.state.commands.items
    still_one = each-weaken (IsOneUse s.state.outbox) (IsOneUse (stopped ticket s.state.outbox)) s.state.commands.items
        (λ c one. ap (λ v. is_live c && v) (runs_after c.ticket) ∙ less (is_live c) (is_running_ticket c.ticket s.state.outbox) (not (c.ticket == ticket)) one) h.requests.one_use
      where
        less : (a b c : Bool) → (a && b) ≡ false → (a && (b && c)) ≡ false
        less true true c none = absurd (false≢true (sym none))
        less true false c none = refl
        less false b c none = refl

    -- what changes
    changed_now : (x : Option ℕ) → ((place : ℕ) → uses_at place s.state.cookies ≡ uses_of place (with_outbox s.state (stopped ticket s.state.outbox)) + ending x place)
        → IsChanged h.names h.notes (ending x) (λ p. []) s.state r (stopped ticket s.state.outbox) s.state.cookies s.state.replies s.state.noted s.state.unwritten (settle i.outbox (in_phase phase_stopped (ticket ∷ []) r.both.box))
    changed_now x uses = record {
      kept = h.requests.kept;
      counted = h.requests.counted;
      uses = uses;
      once = h.requests.once;
      last = h.requests.last;
      one_use = still_one;
      sent = settled_sent i.outbox [] r.both.box.undue (in_phase phase_stopped (ticket ∷ []) r.both.box);
      long = k.long;
      conn = λ p within. (k.same p (omega (arith, within, k.long))).conn;
      conns = λ p within.
          let short : p < length r.both.box.links = omega (arith, within, k.long) in
          conn_kept h.names h.notes [] s.state (with_outbox s.state (stopped ticket s.state.outbox)) r settled p (link_in r.both.box.links p) (link_in settled.links p) (h.requests.conns p short) refl refl refl
          (k.same p short).conn (k.same p short).left (k.all.queued p within);
      undue = k.all.undue_are;
    }

    ends : (x : Option ℕ) → ((place : ℕ) → uses_at place s.state.cookies ≡ uses_of place (with_outbox s.state (stopped ticket s.state.outbox)) + ending x place)
        → EndsAlike i (record { event = s.event; trace = s.trace; doing = release_if x (record { state = with_outbox s.state (stopped ticket s.state.outbox); actions = []; forgets = [] }) }) (with_box r (settle i.outbox (in_phase phase_stopped (ticket ∷ []) r.both.box))) []
    ends x uses =
        ends_alike i h.names h.notes (λ p. []) x (with_outbox s.state (stopped ticket s.state.outbox)) (with_box r settled) (record {
          outbox = stands';
          sound = fit'.sound_after;
          few = fit'.short.handed;
          distinct = fit.distinct;
          sizes = record { room = h.sizes.room; functions = h.sizes.functions; replies = h.sizes.replies; noted = h.sizes.noted; unwritten = h.sizes.unwritten; noted_room = h.sizes.noted_room; unwritten_room = h.sizes.unwritten_room; replies_room = h.sizes.replies_room; slots = h.sizes.slots; few = h.sizes.few };
          flags = record { awake = h.flags.awake; over = h.flags.over };
          requests = requests_changed h.names h.notes (λ place. 0) (ending x) (λ p. []) (λ p. []) s.state r h.requests (stopped ticket s.state.outbox) s.state.cookies s.state.replies s.state.noted s.state.unwritten settled (changed_now x uses);
          counts = record { units = h.counts.units; last = h.counts.last; tracked = subst (λ (x : Box). (stopped ticket s.state.outbox).tracked.last ≤ length x.tasks) same_box (call_last i.outbox s.state.outbox r.both.box (outbox.Stops ticket) h.counts.tracked tt) };
          withheld = h.withheld;
          calm = h.calm;
          slots = h.slots;
          functions = h.functions;
        }) fit.some (record { event = s.event; trace = s.trace; doing = release_if x (record { state = with_outbox s.state (stopped ticket s.state.outbox); actions = []; forgets = [] }) }) refl h.event h.trace

    -- its request is used once less
    uses_found : (c : Command) → find_ticket ticket s.state.commands ≡ Some c → (place : ℕ) → uses_at place s.state.cookies ≡ uses_of place (with_outbox s.state (stopped ticket s.state.outbox)) + one (c.request == place)
    uses_found c found place =
        let there = find_in (has_ticket ticket) s.state.commands.items c found in
        let at : c.ticket ≡ ticket = eqb-true c.ticket ticket there.1 in
        let all : count_commands place s.state ≡ count_commands place (with_outbox s.state (stopped ticket s.state.outbox)) + count_by (λ (x : Command). x.ticket == ticket && x.request == place) s.state.commands.items
        = count_sum (λ (x : Command). x.request == place && is_used s.state.outbox x) (λ (x : Command). x.request == place && is_used (stopped ticket s.state.outbox) x) (λ (x : Command). x.ticket == ticket && x.request == place) s.state.commands.items
        (λ x k. by_ticket c found x k (x.ticket == ticket) refl) in
        let only : count_by (λ (x : Command). x.ticket == ticket && x.request == place) s.state.commands.items ≡ one (c.request == place) = one_there c found (c.request == place) refl in
        omega (arith, all, only, h.requests.uses place)
      where
        by_ticket : (c' : Command) → find_ticket ticket s.state.commands ≡ Some c' → (x : Command) → In x s.state.commands.items → (v : Bool) → (x.ticket == ticket) ≡ v
            → one (x.request == place && is_used s.state.outbox x) ≡ one (x.request == place && is_used (stopped ticket s.state.outbox) x) + one ((x.ticket == ticket) && x.request == place)
        by_ticket c' found' x k false is' =
            let same : is_running_ticket x.ticket (stopped ticket s.state.outbox) ≡ is_running_ticket x.ticket s.state.outbox = runs_after x.ticket ∙ ap (λ v. is_running_ticket x.ticket s.state.outbox && not v) is' ∙ whole (is_running_ticket x.ticket s.state.outbox) in
            let eq : one (x.request == place && is_used (stopped ticket s.state.outbox) x) ≡ one (x.request == place && is_used s.state.outbox x) = ap (λ v. one (x.request == place && (is_live x || v))) same in
            let none : one ((x.ticket == ticket) && x.request == place) ≡ 0 = ap (λ v. one (v && x.request == place)) is' in
            omega (arith, eq, none)
          where
            whole : (v : Bool) → (v && true) ≡ v
            whole true = refl
            whole false = refl
        by_ticket c' found' x k true is' =
            let running : is_running_ticket x.ticket s.state.outbox ≡ true = ap (λ t. is_running_ticket t s.state.outbox) (eqb-true x.ticket ticket is') ∙ runs_now ∙ is in
            let dead : is_live x ≡ false = sym (whole (is_live x)) ∙ ap (λ v. is_live x && v) (sym running) ∙ each_in (IsOneUse s.state.outbox) s.state.commands.items x k h.requests.one_use in
            let over : is_running_ticket x.ticket (stopped ticket s.state.outbox) ≡ false = runs_after x.ticket ∙ ap (λ v. is_running_ticket x.ticket s.state.outbox && not v) is' ∙ none (is_running_ticket x.ticket s.state.outbox) in
            let before : one (x.request == place && is_used s.state.outbox x) ≡ one (x.request == place) = ap (λ v. one (x.request == place && (is_live x || v))) running ∙ ap (λ v. one (x.request == place && v)) (always (is_live x)) ∙ ap one (whole (x.request == place)) in
            let after' : one (x.request == place && is_used (stopped ticket s.state.outbox) x) ≡ 0 = ap (λ v. one (x.request == place && (is_live x || v))) over ∙ ap (λ v. one (x.request == place && (v || false))) dead ∙ ap one (none (x.request == place)) in
            let last : one ((x.ticket == ticket) && x.request == place) ≡ one (x.request == place) = ap (λ v. one (v && x.request == place)) is' in
            omega (arith, before, after', last)
          where
            whole : (v : Bool) → (v && true) ≡ v
            whole true = refl
            whole false = refl

            always : (v : Bool) → (v || true) ≡ true
            always true = refl
            always false = refl

            none : (v : Bool) → (v && false) ≡ false
            none true = refl
            none false = refl

        one_there : (c' : Command) → find_ticket ticket s.state.commands ≡ Some c' → (v : Bool) → (c'.request == place) ≡ v → count_by (λ (x : Command). x.ticket == ticket && x.request == place) s.state.commands.items ≡ one v
        one_there c' found' true is' =
            let there = find_in (has_ticket ticket) s.state.commands.items c' found' in
            let some : 1 ≤ count_by (λ (x : Command). x.ticket == ticket && x.request == place) s.state.commands.items = in_counted (λ (x : Command). x.ticket == ticket && x.request == place) s.state.commands.items c' there.0 (and_from (c'.ticket == ticket) (c'.request == place) there.1 is') in
            let few : count_by (λ (x : Command). x.ticket == ticket && x.request == place) s.state.commands.items ≤ count_by (has_ticket ticket) s.state.commands.items
            = count-weaker (λ (x : Command). x.ticket == ticket && x.request == place) (has_ticket ticket) s.state.commands.items (λ x both. and_first (x.ticket == ticket) (x.request == place) both) in
            omega (arith, some, few, h.requests.numbered ticket)
        one_there c' found' false is' =
            let there = find_in (has_ticket ticket) s.state.commands.items c' found' in
            count_nothing (λ (x : Command). x.ticket == ticket && x.request == place) s.state.commands.items (λ x k. by_place x k (x.ticket == ticket) refl there.0 there.1)
          where
            by_place : (x : Command) → In x s.state.commands.items → (v : Bool) → (x.ticket == ticket) ≡ v → In c' s.state.commands.items → has_ticket ticket c' ≡ true → (x.ticket == ticket && x.request == place) ≡ false
            by_place x k false at in_c has_c = ap (λ v. v && x.request == place) at
            by_place x k true at in_c has_c = ap (λ v. v && x.request == place) at ∙ ap (λ (y : Command). y.request == place) (two_counted (has_ticket ticket) s.state.commands.items x c' (h.requests.numbered ticket) k in_c at has_c) ∙ is'

    -- none is kept with this ticket
    uses_missing : find_ticket ticket s.state.commands ≡ None → (place : ℕ) → uses_at place s.state.cookies ≡ uses_of place (with_outbox s.state (stopped ticket s.state.outbox)) + 0
    uses_missing none place =
        let same : count_commands place s.state ≡ count_commands place (with_outbox s.state (stopped ticket s.state.outbox))
        = count_members (λ (x : Command). x.request == place && is_used s.state.outbox x) (λ (x : Command). x.request == place && is_used (stopped ticket s.state.outbox) x) s.state.commands.items
        (λ x k. ap (λ v. x.request == place && (is_live x || v)) (sym (runs_after x.ticket ∙ ap (λ v. is_running_ticket x.ticket s.state.outbox && not v) (not_here x k (x.ticket == ticket) refl) ∙ whole (is_running_ticket x.ticket s.state.outbox)))) in
        omega (arith, same, h.requests.uses place)
      where
        whole : (v : Bool) → (v && true) ≡ v
        whole true = refl
        whole false = refl

        not_here : (x : Command) → In x s.state.commands.items → (v : Bool) → (x.ticket == ticket) ≡ v → (x.ticket == ticket) ≡ false
        not_here x k false at = at
        not_here x k true at = absurd (let y = in_find (has_ticket ticket) s.state.commands.items x k at in let no : None ≡ Some y.0 = sym none ∙ y.1 in cc)

    -- what the steps do then
    abbrev doing_now : Doing
    doing_now = record { state = with_outbox s.state (stopped ticket s.state.outbox); actions = []; forgets = [] }

    found_ends : (y : Option Command) → find_ticket ticket s.state.commands ≡ y
        → EndsAlike i (elim y [ Some c ↦ record { event = s.event; trace = s.trace; doing = release c.request doing_now } | None ↦ record { event = s.event; trace = s.trace; doing = doing_now } ]) (with_box r settled) []
    found_ends None none = ends None (uses_missing none)
    found_ends (Some c) found = ends (Some c.request) (uses_found c found)

  -- ---- either way

  idle_ends : is_running r.both.box ticket ≡ false → EndsAlike i (going s) r []
  idle_ends none = moved_ends i s r h s.state.outbox r.both.box (found_fit i r.both.box (after_call i.outbox r.both.box (outbox.Stops ticket)) fit) h.outbox h.counts.tracked (λ k. refl) (record {
    long = refl;
    sent = refl;
    queued = λ p within. (h.requests.conns p within).queued;
    undue = h.requests.undue;
    conn = λ p within. refl;
    left = λ p within. refl;
  })

  -- what the steps do, by whether it runs
  abbrev done_now : Option Command → Answered
  done_now y = done (elim y [
    | Some c ↦ record { event = s.event; trace = s.trace; doing = release c.request (record { state = with_outbox s.state (stopped ticket s.state.outbox); actions = []; forgets = [] }) }
    | None ↦ record { event = s.event; trace = s.trace; doing = record { state = with_outbox s.state (stopped ticket s.state.outbox); actions = []; forgets = [] } }
  ])

  pub stopped_to : GoesTo i (stop_running ticket s) (rules.stopped i r ticket)
  stopped_to = by_run (is_running r.both.box ticket) refl
    where
      steps_are : (v : Bool) → is_running r.both.box ticket ≡ v → stop_running ticket s ≡ cond v (done_now (find_ticket ticket s.state.commands)) (says s Stale)
      steps_are v is = ap (λ w. cond w (done_now (find_ticket ticket s.state.commands)) (says s Stale)) (runs_now ∙ is)

      by_run : (v : Bool) → is_running r.both.box ticket ≡ v → GoesTo i (stop_running ticket s) (rules.stopped i r ticket)
      by_run false is =
          let e = idle_ends is in
          subst (λ (x : Answered). GoesTo i x (rules.stopped i r ticket)) (sym (steps_are false is))
          (subst (λ v. GoesTo i (says s Stale) (cond v (rules.done (quiet (other i r (outbox.Stops ticket)))) (rules.answers r rules.Stale))) (sym is) (record { answer = refl; tells = e.tells; stands = e.stands }))
      by_run true is =
          let e = found_ends is (find_ticket ticket s.state.commands) refl in
          subst (λ (x : Answered). GoesTo i x (rules.stopped i r ticket)) (sym (steps_are true is))
          (subst (λ v. GoesTo i (done_now (find_ticket ticket s.state.commands)) (cond v (rules.done (quiet (other i r (outbox.Stops ticket)))) (rules.answers r rules.Stale))) (sym is)
          (subst (λ (b : Box). GoesTo i (done_now (find_ticket ticket s.state.commands)) (rules.done (quiet (with_box r b)))) (sym (same_box is)) (record { answer = refl; tells = e.tells; stands = e.stands })))

  -- ---- which one it is

  -- one that was told to start, and goes on, does so by the rules
  going_by_rules : (c : Command) → find_ticket ticket s.state.commands ≡ Some c → is_going c ≡ true → rules.is_going r ticket ≡ true
  going_by_rules c found is =
      let there = find_in (has_ticket ticket) s.state.commands.items c found in
      let d : Paired (IsCommand h.names r) c (filter (is_named h.names) (entered r.both.trace)) = pairs_in (IsCommand h.names r) s.state.commands.items (filter (is_named h.names) (entered r.both.trace)) c there.0 h.requests.commands in
      let at : d.y.ticket ≡ ticket = sym d.pair.ticket ∙ eqb-true c.ticket ticket there.1 in
      let parts = and_parts (is_live c) (contains r.told d.y.ticket) (sym d.pair.going ∙ is) in
      let alive : In d.y (live r.both.trace) = filter-in (λ (x : RulesCommand). not (has (leaves_ticket x.ticket) r.both.trace)) (entered r.both.trace) d.y (in-filter (is_named h.names) (entered r.both.trace) d.y d.there).0 (sym d.pair.live ∙ parts.0) in
      let passes : In d.y (filter (λ (x : RulesCommand). x.ticket == ticket && was_free x r.both.trace) (live r.both.trace))
      = filter-in (λ (x : RulesCommand). x.ticket == ticket && was_free x r.both.trace) (live r.both.trace) d.y alive (and_from (d.y.ticket == ticket) (was_free d.y r.both.trace) (eq-eqb d.y.ticket ticket at) (d.pair.freed parts.1)) in
      some_first (filter (λ (x : RulesCommand). x.ticket == ticket && was_free x r.both.trace) (live r.both.trace)) d.y passes (ap (contains r.told) (sym at) ∙ parts.1)
    where
      some_first : (xs : List RulesCommand) (d : RulesCommand) → In d xs → contains r.told ticket ≡ true → elim (first_of xs) [ Some c' ↦ contains r.told ticket | None ↦ false ] ≡ true
      some_first [] d there is' = absurd there
      some_first (x ∷ xs) d there is' = is'

  marked_by_rules : (c : Command) → find_ticket ticket s.state.commands ≡ Some c → is_marked c ≡ true → contains r.marked ticket ≡ true
  marked_by_rules c found is =
      let there = find_in (has_ticket ticket) s.state.commands.items c found in
      let d : Paired (IsCommand h.names r) c (filter (is_named h.names) (entered r.both.trace)) = pairs_in (IsCommand h.names r) s.state.commands.items (filter (is_named h.names) (entered r.both.trace)) c there.0 h.requests.commands in
      ap (contains r.marked) (sym (eqb-true c.ticket ticket there.1) ∙ d.pair.ticket) ∙ and_second (is_live c) (contains r.marked d.y.ticket) (sym d.pair.marked ∙ is)

  false_by : (v w : Bool) → (v ≡ true → w ≡ true) → w ≡ false → v ≡ false
  false_by true w turns none = absurd (false≢true (sym none ∙ turns refl))
  false_by false w turns none = refl

  pub stops_alike : (rules.is_going r ticket && contains r.marked ticket) ≡ false → GoesAlike i s r (Stops ticket)
  stops_alike calm =
      let e : GoesTo i (stop i ticket s) (rules.stops i r ticket) = subst (λ (x : Answered). GoesTo i x (rules.stops i r ticket)) (sym (steps_are (find_ticket ticket s.state.commands) refl))
      (subst (λ v. GoesTo i (stop_running ticket s) (cond v (rules.done (happens i r (Done ticket TASK_ABORTED))) (rules.stopped i r ticket))) (sym calm) stopped_to) in
      record { answer = e.answer; tells = e.tells; stands = e.stands }
    where
      steps_are : (y : Option Command) → find_ticket ticket s.state.commands ≡ y → elim y [ Some c ↦ stop_as i c s | None ↦ stop_running ticket s ] ≡ stop_running ticket s
      steps_are None found = refl
      steps_are (Some c) found =
          let idle : (is_going c && is_marked c) ≡ false = false_by (is_going c && is_marked c) (rules.is_going r ticket && contains r.marked ticket)
          (λ both. let parts = and_parts (is_going c) (is_marked c) both in and_from (rules.is_going r ticket) (contains r.marked ticket) (going_by_rules c found parts.0) (marked_by_rules c found parts.1)) calm in
          ap (λ v. cond v (done (steps_happen i None (Done c.ticket TASK_ABORTED) (going s))) (stop_running c.ticket s)) idle ∙ ap (λ t. stop_running t s) (eqb-true c.ticket ticket (find_in (has_ticket ticket) s.state.commands.items c found).1)

  pub completes_alike : (status : ℕ) → rules.is_going r ticket ≡ false → GoesAlike i s r (Completes ticket status)
  completes_alike status calm =
      let e : GoesTo i (complete i ticket status s) (rules.complete i r ticket status) = subst (λ (x : Answered). GoesTo i x (rules.complete i r ticket status)) (sym (steps_are (find_ticket ticket s.state.commands) refl))
      (subst (λ v. GoesTo i (stop_running ticket s) (cond v (rules.done (happens i r (Done ticket (cond (contains r.marked ticket) TASK_ABORTED status)))) (rules.stopped i r ticket))) (sym calm) stopped_to) in
      record { answer = e.answer; tells = e.tells; stands = e.stands }
    where
      steps_are : (y : Option Command) → find_ticket ticket s.state.commands ≡ y → elim y [ Some c ↦ complete_as i c status s | None ↦ stop_running ticket s ] ≡ stop_running ticket s
      steps_are None found = refl
      steps_are (Some c) found =
          let idle : is_going c ≡ false = false_by (is_going c) (rules.is_going r ticket) (going_by_rules c found) calm in
          ap (λ v. cond v (done (steps_happen i None (Done c.ticket (cond (is_marked c) TASK_ABORTED status)) (going s))) (stop_running c.ticket s)) idle ∙ ap (λ t. stop_running t s) (eqb-true c.ticket ticket (find_in (has_ticket ticket) s.state.commands.items c found).1)
