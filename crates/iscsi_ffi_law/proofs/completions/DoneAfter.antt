-- A command completes also where uses have ended before: these have nothing to do with it.
use Rattle.std.proofs.Common.{◌≡◌, ℕ, ◌+◌, ◌%◌, ◌^◌, ◌≤◌, ◌==◌, ◌&&◌, ◌||◌, cond, Bool, true, false, List, [], ◌∷◌, ◌++◌, length, map, count_by, filter, filter_map, Option, Some, None, refl, ap, sym, ◌∙◌, arith, lt-ltb}
use Rattle.std.specs.List.{flat_map}
use Rattle.std.proofs.lemmas.Bool.{cond_both, eq-eqb}
use Rattle.iscsi_wire.specs.Fields.{connection_of}
use Rattle.iscsi_rules.specs.declared.event.Event.TheVariants.{Done}
use Rattle.iscsi_rules.specs.rules.Execution.{completion}
use Rattle.iscsi_rules.specs.rules.Run.{after_event, entry_of, numbers_of}
use Rattle.iscsi_rules.specs.rules.Trace.{Command as RulesCommand, after_items}
use Rattle.iscsi_rules.proofs.general.ElementLemmas.{In}
use Rattle.iscsi_outbox_rules.specs.rules.Items.{ticket_enabled}
use Rattle.iscsi_outbox_steps.specs.Steps.{as_list, is_running_ticket, taken}
use Rattle.iscsi_requests.specs.Cookies.{Cookies, has_place, uses_at}
use Rattle.iscsi_requests.specs.Replies.{pushed}
use Rattle.iscsi_ffi_commands.specs.declared.command.Command.{Command}
use Rattle.iscsi_ffi_commands.specs.declared.command.Stage.TheVariants.{Over}
use Rattle.iscsi_ffi_commands.specs.Commands.{find_ticket, has_ticket, in_stage, is_live}
use Rattle.iscsi_ffi_rules.specs.declared.action.Action.{Action}
use Rattle.iscsi_ffi_rules.specs.rules.Calls.{Interface}
use Rattle.iscsi_ffi_rules.specs.rules.Sides.{Side}
use Rattle.iscsi_ffi_steps.specs.State.{State}
use Rattle.iscsi_ffi_steps.specs.Steps.{Going, happening, resets_in, start_each, takes, walk_from}
use Rattle.iscsi_ffi_steps.specs.Walk.{Doing, Walk, drop_waiting, in_state, leave, leave_as, may_wait, on_effects, release_if, release_one, send, send_as, sweep, tell_all, touched_by, walking}
use Rattle.iscsi_ffi_law.specs.Names.{Name, Note}
use Rattle.iscsi_ffi_law.specs.Stands.{AreRequests}
use Rattle.iscsi_ffi_law.specs.Uses.{is_used, uses_of}
use Rattle.iscsi_ffi_law.proofs.completions.DoneBox.{IsFound, b, p, place_is}
use Rattle.iscsi_ffi_law.proofs.completions.DoneRequests.{done_side, have_over, requests_done}
use Rattle.iscsi_ffi_law.proofs.completions.DoneRoom.{may_wait_more}
use Rattle.iscsi_ffi_law.proofs.completions.DoneShape.{done_effects, done_entry, done_trace, enabled_tickets, enables, entry_is, gives_none, news, tickets_of}
use Rattle.iscsi_ffi_law.proofs.completions.DoneWalk.{enables_walked, kept_there, place_after, resets_none, sent_is, state_done}
use Rattle.iscsi_ffi_law.proofs.own_pdus.Flags.{is_used_place}
use Rattle.iscsi_ffi_law.proofs.general.Members.{in_counted}
use Rattle.iscsi_ffi_law.proofs.calls.Moved.{commands_known}
use Rattle.iscsi_ffi_law.proofs.requests.Releases.{all_released, endings, releases}
use Rattle.iscsi_ffi_law.proofs.requests.Releasing.{Released}
use Rattle.iscsi_ffi_law.proofs.commands.Staging.{restaged}
use Rattle.iscsi_ffi_law.proofs.commands.StartsAfter.{cookies_all, filter_restaged, find_one_left, forgets_all, keeps_all, kept_used, rel, rel_is, starts_released}

module _ (i : Interface) (names : List Name) (notes : List Note) (s : State) (r : Side) (d : RulesCommand) (status : ℕ) (f : IsFound i names notes s r d status) (acts : List Action) where
  module _ (v' : Cookies) (keep : ℕ → Bool) (fs : List Action) (kept : keep (b i names notes s r d status f).c.request ≡ true) where
    abbrev here : Doing
    here = record { state = record s { cookies = v'; commands = record s.commands { items = filter (λ (c : Command). keep c.request) s.commands.items } }; actions = acts; forgets = fs }

    found_left : find_ticket d.ticket (record s.commands { items = filter (λ (c : Command). keep c.request) s.commands.items }) ≡ Some ((b i names notes s r d status f).c)
    found_left = find_one_left (has_ticket d.ticket) (λ (c : Command). keep c.request) s.commands.items (b i names notes s r d status f).c (f.requests.numbered d.ticket) ((b i names notes s r d status f).found s.commands refl)
        ∙ ap (λ v. cond v (Some ((b i names notes s r d status f).c)) None) kept

    abbrev after_leave : ℕ → Walk
    after_leave k = record {
      doing = record { state = record s { cookies = v'; commands = record s.commands { items = map (restaged Over k) (filter (λ (c : Command). keep c.request) s.commands.items) } }; actions = acts; forgets = fs };
      current = Some ((b i names notes s r d status f).c.request);
      own = None;
      by = None;
      sent = s.outbox.sent;
    }

    leave_is : leave d.ticket (walk_from None here) ≡ after_leave d.ticket
    leave_is = ap (λ (x : Option Command). elim x as (λ (y : Option Command). Walk) [ Some c ↦ leave_as None c (walk_from None here) | None ↦ walk_from None here ]) found_left ∙ ap after_leave (b i names notes s r d status f).is.ticket

    abbrev after_send : ℕ → Walk
    after_send n = record {
      doing = record {
        state = record s {
          cookies = v';
          commands = record s.commands { items = map (restaged Over d.ticket) (filter (λ (c : Command). keep c.request) s.commands.items) };
          replies = pushed (p i names notes s r d status f) (record { log_place = n; request = (b i names notes s r d status f).c.request }) s.replies;
        };
        actions = acts;
        forgets = fs;
      };
      current = None;
      own = None;
      by = None;
      sent = (s.outbox.sent + 1) % 2 ^ 64;
    }

    send_is : send (connection_of d.arrival.request) (after_leave d.ticket) ≡ after_send r.both.box.sent
    send_is = ap by_place (place_is i names notes s r d status f) ∙ ap by_room room ∙ ap after_send (sent_is i names notes s r d status f)
      where
        by_place : Option ℕ → Walk
        by_place y = let w' = send_as y (Some ((b i names notes s r d status f).c.request)) (after_leave d.ticket) in record w' { sent = (s.outbox.sent + 1) % 2 ^ 64 }

        by_room : Bool → Walk
        by_room v =
            let w : Walk = after_leave d.ticket in
            let w' = cond v (walking (in_state (λ t. record t { replies = pushed (p i names notes s r d status f) (record { log_place = s.outbox.sent; request = (b i names notes s r d status f).c.request }) t.replies })) (record w { current = None; own = None })) w in
            record w' { sent = (s.outbox.sent + 1) % 2 ^ 64 }

        room : may_wait s.outbox.sent s.replies ≡ true
        room = ap (λ n. may_wait n s.replies) (sent_is i names notes s r d status f) ∙ may_wait_more i names notes f.pending f.gone s r f.requests f.outbox f.sizes f.fit.sent f.fit.replies

    abbrev with_items : List Command → Doing
    with_items cs = record {
      state = record s { cookies = v'; commands = record s.commands { items = cs }; replies = pushed (p i names notes s r d status f) (record { log_place = r.both.box.sent; request = (b i names notes s r d status f).c.request }) s.replies };
      actions = acts;
      forgets = fs;
    }

    walk_is : (on_effects true (done_effects i.outbox.session r.both.trace d status) (walk_from None here)).doing ≡ with_items (filter (λ (c : Command). keep c.request) (map (restaged Over d.ticket) s.commands.items))
    walk_is =
        ap (λ (w : Walk). (on_effects false (enables (news i.outbox.session r.both.trace d status)) (send (connection_of d.arrival.request) w)).doing) leave_is
        ∙ ap (λ (w : Walk). (on_effects false (enables (news i.outbox.session r.both.trace d status)) w).doing) send_is
        ∙ ap (λ (w : Walk). w.doing) (enables_walked (news i.outbox.session r.both.trace d status) false (after_send r.both.box.sent))
        ∙ ap with_items (filter_restaged keep (restaged Over d.ticket) s.commands.items (λ c. cond_both (has_ticket d.ticket c) (in_stage Over c) c (λ (x : Command). x.request ≡ c.request) (λ is. refl) (λ isnt. refl)))

    -- all of it
    abbrev done_rel : Doing
    done_rel = rel v' keep fs (record { state = state_done i names notes s r d status f; actions = acts; forgets = [] })

    touched_is : flat_map (touched_by done_rel.state) (done_effects i.outbox.session r.both.trace d status) ≡ p i names notes s r d status f ∷ []
    touched_is =
        ap (λ (y : Option ℕ). as_list y ++ flat_map (touched_by done_rel.state) (enables (news i.outbox.session r.both.trace d status))) (place_after i names notes s r d status f acts [])
        ∙ ap (λ xs. p i names notes s r d status f ∷ xs) (gives_none (touched_by done_rel.state) (news i.outbox.session r.both.trace d status) (λ ticket unit. refl))

    pub takes_rel : takes None (done_entry i.outbox.session r.both.trace d status) (rel v' keep fs (record { state = s; actions = acts; forgets = [] })) ≡ start_each (tickets_of (news i.outbox.session r.both.trace d status)) done_rel
    takes_rel =
        ap behind walk_is
        ∙ ap (λ conns. start_all (sweep conns done_rel)) touched_is
        ∙ ap (λ v. start_all (cond v done_rel (drop_waiting (p i names notes s r d status f) done_rel))) (kept_there i names notes s r d status f acts [])
        ∙ ap (λ xs. start_each (filter_map ticket_enabled (done_effects i.outbox.session r.both.trace d status)) (tell_all xs done_rel)) (resets_none i names notes s r d status f acts [] done_rel.state)
        ∙ ap (λ ks. start_each ks done_rel) (enabled_tickets (news i.outbox.session r.both.trace d status))
      where
        start_all : Doing → Doing
        start_all swept = start_each (filter_map ticket_enabled (done_effects i.outbox.session r.both.trace d status)) (tell_all (resets_in swept.state (done_effects i.outbox.session r.both.trace d status)) swept)

        behind : Doing → Doing
        behind d0 =
            let d' = in_state (λ t. record t { outbox = taken (done_effects i.outbox.session r.both.trace d status) (numbers_of i.outbox.session (done_trace r.both.trace d status)) t.outbox }) d0 in
            start_all (sweep (flat_map (touched_by d'.state) (done_effects i.outbox.session r.both.trace d status)) d')

  -- ---- where these uses have ended

  module _ (xs : List (Option ℕ)) (room : length xs ≤ s.room) (uses : (place : ℕ) → uses_at place s.cookies ≡ uses_of place s + endings xs place) (pending : (place : ℕ) → f.pending place ≡ endings xs place) where
    released : Released s acts (releases xs (record { state = s; actions = acts; forgets = [] }))
    released = all_released s acts f.requests.counted (commands_known names notes f.pending f.gone s r f.requests) xs room uses

    used_now : (t : State) (c : Command) → In c t.commands.items → is_live c ≡ true → is_used_place t c.request ≡ true
    used_now t c there lives =
        let some : 1 ≤ count_by (λ (x : Command). x.request == c.request && is_used t.outbox x) t.commands.items
        = in_counted (λ (x : Command). x.request == c.request && is_used t.outbox x) t.commands.items c there (ap (λ v. v && is_used t.outbox c) (eq-eqb c.request c.request refl) ∙ ap (λ v. v || is_running_ticket c.ticket t.outbox) lives) in
        lt-ltb 0 (uses_of c.request t) (omega (arith, some))

    pub kept_one : (c : Command) → In c s.commands.items → is_live c ≡ true → keeps_all xs s.cookies c.request ≡ true
    kept_one c there lives = kept_used s acts xs f.requests.counted released c there (used_now s c there lives)

    abbrev t : State
    t = state_done i names notes s r d status f

    requests_now : AreRequests names notes f.pending f.gone t (done_side i names notes s r d status f)
    requests_now = requests_done i names notes s r d status f r.told s.withheld (map (restaged Over d.ticket) s.commands.items) (have_over i names notes s r d status f)

    released_now : Released t acts (releases xs (record { state = t; actions = acts; forgets = [] }))
    released_now = all_released t acts f.requests.counted (commands_known names notes f.pending f.gone t (done_side i names notes s r d status f) requests_now) xs room
        (λ q. requests_now.uses q ∙ ap (λ n. uses_of q t + n) (pending q))

    pub takes_after : takes None (done_entry i.outbox.session r.both.trace d status) (releases xs (record { state = s; actions = acts; forgets = [] }))
        ≡ start_each (tickets_of (news i.outbox.session r.both.trace d status)) (releases xs (record { state = state_done i names notes s r d status f; actions = acts; forgets = [] }))
    takes_after =
        ap (takes None (done_entry i.outbox.session r.both.trace d status)) (rel_is s acts xs)
        ∙ takes_rel (cookies_all xs s.cookies) (keeps_all xs s.cookies) (forgets_all s.room xs s.cookies []) (kept_one (b i names notes s r d status f).c (b i names notes s r d status f).there (b i names notes s r d status f).lives)
        ∙ ap (start_each (tickets_of (news i.outbox.session r.both.trace d status))) (sym (rel_is t acts xs))

    pub starts_after : (e : Doing) → start_each (tickets_of (news i.outbox.session r.both.trace d status)) (record { state = state_done i names notes s r d status f; actions = acts; forgets = [] }) ≡ e → e.state.cookies ≡ s.cookies → e.state.room ≡ s.room → e.forgets ≡ []
        → takes None (done_entry i.outbox.session r.both.trace d status) (releases xs (record { state = s; actions = acts; forgets = [] })) ≡ releases xs e
    starts_after e is cookies same none =
        takes_after
        ∙ starts_released t acts xs f.requests.counted released_now (tickets_of (news i.outbox.session r.both.trace d status)) (used_now t) (commands_known names notes f.pending f.gone t (done_side i names notes s r d status f) requests_now) requests_now.numbered
        (ap (λ (x : Doing). x.state.cookies) is ∙ cookies) (ap (λ (x : Doing). x.state.room) is ∙ same) (ap (λ (x : Doing). x.forgets) is ∙ none)
        ∙ ap (releases xs) is

    -- an event
    pub happens_after : (e : Doing) → takes None (done_entry i.outbox.session r.both.trace d status) (releases xs (record { state = s; actions = acts; forgets = [] })) ≡ e
        → happening i None (Done d.ticket status) (record { event = r.both.event; trace = r.both.trace; doing = releases xs (record { state = s; actions = acts; forgets = [] }) })
        ≡ record { event = r.both.event + 1; trace = done_trace r.both.trace d status; doing = e }
    happens_after e is =
        ap (λ v. cond v next before) (lt-ltb r.both.event i.outbox.session.events f.fit.events)
        ∙ ap (λ (x : Option RulesCommand). record { event = r.both.event + 1; trace = after_items (completion status x) r.both.trace; doing = takes None (entry_of i.outbox.session r.both.event r.both.trace (Done d.ticket status)) before.doing }) f.command
        ∙ ap (λ x. record { event = r.both.event + 1; trace = done_trace r.both.trace d status; doing = takes None x before.doing }) (entry_is i.outbox.session r.both.event r.both.trace d status f.command)
        ∙ ap (λ (x : Doing). record { event = r.both.event + 1; trace = done_trace r.both.trace d status; doing = x }) is
      where
        before : Going
        before = record { event = r.both.event; trace = r.both.trace; doing = releases xs (record { state = s; actions = acts; forgets = [] }) }

        next : Going
        next = record { event = r.both.event + 1; trace = after_event i.outbox.session r.both.event r.both.trace (Done d.ticket status); doing = takes None (entry_of i.outbox.session r.both.event r.both.trace (Done d.ticket status)) before.doing }

-- ---- what is withheld

withheld_one : (x : Option ℕ) (ts : List ℕ) (d : Doing) → in_state (λ s. record s { withheld = ts }) (release_if x d) ≡ release_if x (in_state (λ s. record s { withheld = ts }) d)
withheld_one None ts d = refl
withheld_one (Some place) ts d =
    cond_both (has_place place d.state.cookies) (release_one place d) d (λ (e : Doing). in_state (λ s. record s { withheld = ts }) e ≡ release_if (Some place) (in_state (λ s. record s { withheld = ts }) d))
    (λ has. sym (ap (λ v. cond v (release_one place (in_state (λ s. record s { withheld = ts }) d)) (in_state (λ s. record s { withheld = ts }) d)) has))
    (λ none. sym (ap (λ v. cond v (release_one place (in_state (λ s. record s { withheld = ts }) d)) (in_state (λ s. record s { withheld = ts }) d)) none))

pub withheld_on : (xs : List (Option ℕ)) (ts : List ℕ) (d : Doing) → in_state (λ s. record s { withheld = ts }) (releases xs d) ≡ releases xs (in_state (λ s. record s { withheld = ts }) d)
withheld_on [] ts d = refl
withheld_on (x ∷ xs) ts d = withheld_on xs ts (release_if x d) ∙ ap (releases xs) (withheld_one x ts d)
