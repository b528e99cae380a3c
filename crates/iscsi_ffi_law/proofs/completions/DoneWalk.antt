-- What the steps make of the effects of a completion, up to the commands that it enables.
use Rattle.std.proofs.Common.{◌≡◌, ℕ, ◌+◌, ◌%◌, ◌^◌, ◌<◌, ◌==◌, ◌&&◌, not, cond, Bool, true, false, List, [], ◌∷◌, ◌++◌, length, map, filter_map, Option, Some, None, refl, ap, sym, ◌∙◌, arith}
use Rattle.std.specs.List.{flat_map, position}
use Rattle.iscsi_wire.specs.Fields.{connection_of}
use Rattle.iscsi_rules.specs.rules.Run.{numbers_of}
use Rattle.iscsi_rules.specs.rules.Trace.{Command as RulesCommand}
use Rattle.iscsi_arrivals.specs.Standing.{StandsFor}
use Rattle.iscsi_outbox_rules.specs.rules.Items.{ticket_enabled}
use Rattle.iscsi_outbox_law.specs.private.Commands.{is_under_way, link_in}
use Rattle.iscsi_outbox_law.proofs.connections.Standing.{counts_at}
use Rattle.iscsi_outbox_steps.specs.State.{Limits, State as OutboxState, link_at, place_of}
use Rattle.iscsi_outbox_steps.specs.Steps.{as_list, taken}
use Rattle.iscsi_requests.specs.Replies.{pushed}
use Rattle.iscsi_ffi_commands.specs.declared.command.Command.{Command}
use Rattle.iscsi_ffi_commands.specs.declared.command.Stage.TheVariants.{Over}
use Rattle.iscsi_ffi_rules.specs.declared.action.Action.{Action}
use Rattle.iscsi_ffi_rules.specs.rules.Calls.{Interface}
use Rattle.iscsi_ffi_rules.specs.rules.Sides.{Side}
use Rattle.iscsi_ffi_steps.specs.State.{State}
use Rattle.iscsi_ffi_steps.specs.Steps.{reset_in, resets_in, start_each, takes, walk_from}
use Rattle.iscsi_ffi_steps.specs.Walk.{Doing, Walk, drop_waiting, end_item, in_state, keeps, leave, leave_as, may_wait, on_effects, send, send_as, sweep, tell_all, touched_by, walking}
use Rattle.iscsi_ffi_law.specs.Names.{Name, Note}
use Rattle.iscsi_ffi_law.proofs.completions.DoneBox.{IsFound, b, box_after, many_after, p, place, place_is, same_after, stands_after, takes_it}
use Rattle.iscsi_ffi_law.proofs.completions.DoneRoom.{may_wait_more}
use Rattle.iscsi_ffi_law.proofs.completions.DoneShape.{done_effects, done_entry, done_trace, enabled_tickets, enables, gives_none, news, one_part, tickets_of}
use Rattle.iscsi_ffi_law.proofs.sending.Queued.{SameOut}
use Rattle.iscsi_ffi_law.proofs.commands.Staging.{restaged}

-- what is enabled changes nothing yet
pub enables_walked : (ns : List RulesCommand) (first : Bool) (w : Walk) → on_effects first (enables ns) w ≡ end_item w
enables_walked [] first w = refl
enables_walked (n ∷ ns) first w = enables_walked ns false w

module _ (i : Interface) (names : List Name) (notes : List Note) (s : State) (r : Side) (d : RulesCommand) (status : ℕ) (f : IsFound i names notes s r d status) where
  pub sent_is : s.outbox.sent ≡ r.both.box.sent
  sent_is = let e = f.outbox.numbers.sent in let lt = f.fit.sent in omega (arith, e, lt)

  abbrev pub outbox_after : OutboxState
  outbox_after = taken (done_effects i.outbox.session r.both.trace d status) (numbers_of i.outbox.session (done_trace r.both.trace d status)) s.outbox

  -- the state behind its item
  abbrev pub state_done : State
  state_done = record s {
    outbox = taken (done_effects i.outbox.session r.both.trace d status) (numbers_of i.outbox.session (done_trace r.both.trace d status)) s.outbox;
    commands = record s.commands { items = map (restaged Over d.ticket) s.commands.items };
    replies = pushed (p i names notes s r d status f) (record { log_place = r.both.box.sent; request = (b i names notes s r d status f).c.request }) s.replies;
  }

  module _ (acts forgets : List Action) where
    abbrev here : Doing
    here = record { state = s; actions = acts; forgets = forgets }

    abbrev after_leave : ℕ → Walk
    after_leave k = record {
      doing = record { state = record s { commands = record s.commands { items = map (restaged Over k) s.commands.items } }; actions = acts; forgets = forgets };
      current = Some ((b i names notes s r d status f).c.request);
      own = None;
      by = None;
      sent = s.outbox.sent;
    }

    leave_is : leave d.ticket (walk_from None here) ≡ after_leave d.ticket
    leave_is = ap (λ (x : Option Command). elim x as (λ (y : Option Command). Walk) [ Some c ↦ leave_as None c (walk_from None here) | None ↦ walk_from None here ]) ((b i names notes s r d status f).found s.commands refl) ∙ ap after_leave (b i names notes s r d status f).is.ticket

    abbrev after_send : ℕ → Walk
    after_send n = record {
      doing = record {
        state = record s { commands = record s.commands { items = map (restaged Over d.ticket) s.commands.items }; replies = pushed (p i names notes s r d status f) (record { log_place = n; request = (b i names notes s r d status f).c.request }) s.replies };
        actions = acts;
        forgets = forgets;
      };
      current = None;
      own = None;
      by = None;
      sent = (s.outbox.sent + 1) % 2 ^ 64;
    }

    send_is : send (connection_of d.arrival.request) (after_leave d.ticket) ≡ after_send r.both.box.sent
    send_is = ap by_place (place_is i names notes s r d status f) ∙ ap by_room room ∙ ap after_send sent_is
      where
        by_place : Option ℕ → Walk
        by_place y = let w' = send_as y (Some ((b i names notes s r d status f).c.request)) (after_leave d.ticket) in record w' { sent = (s.outbox.sent + 1) % 2 ^ 64 }

        by_room : Bool → Walk
        by_room v =
            let w : Walk = after_leave d.ticket in
            let w' = cond v (walking (in_state (λ t. record t { replies = pushed (p i names notes s r d status f) (record { log_place = s.outbox.sent; request = (b i names notes s r d status f).c.request }) t.replies })) (record w { current = None; own = None })) w in
            record w' { sent = (s.outbox.sent + 1) % 2 ^ 64 }

        room : may_wait s.outbox.sent s.replies ≡ true
        room = ap (λ n. may_wait n s.replies) sent_is ∙ may_wait_more i names notes f.pending f.gone s r f.requests f.outbox f.sizes f.fit.sent f.fit.replies

    walk_is : (on_effects true (done_effects i.outbox.session r.both.trace d status) (walk_from None here)).doing
        ≡ record { state = record s { commands = record s.commands { items = map (restaged Over d.ticket) s.commands.items }; replies = pushed (p i names notes s r d status f) (record { log_place = r.both.box.sent; request = (b i names notes s r d status f).c.request }) s.replies }; actions = acts; forgets = forgets }
    walk_is =
        ap (λ (w : Walk). (on_effects false (enables (news i.outbox.session r.both.trace d status)) (send (connection_of d.arrival.request) w)).doing) leave_is
        ∙ ap (λ (w : Walk). (on_effects false (enables (news i.outbox.session r.both.trace d status)) w).doing) send_is
        ∙ ap (λ (w : Walk). w.doing) (enables_walked (news i.outbox.session r.both.trace d status) false (after_send r.both.box.sent))

    -- its connection keeps what waits there
    pub kept_there : keeps (link_at outbox_after (p i names notes s r d status f)) ≡ true
    kept_there =
        let short : p i names notes s r d status f < length (box_after i names notes s r d status f).links = (let w = (place i names notes s r d status f).within in let m = many_after i names notes s r d status f in omega (arith, w, m)) in
        let st : StandsFor (link_at outbox_after (p i names notes s r d status f)) (link_in (box_after i names notes s r d status f).links (p i names notes s r d status f))
        = counts_at (is_under_way i.outbox (box_after i names notes s r d status f).links) i.outbox outbox_after (box_after i names notes s r d status f) (stands_after i names notes s r d status f) (p i names notes s r d status f) short in
        let same : SameOut (link_in r.both.box.links (p i names notes s r d status f)) (link_in (box_after i names notes s r d status f).links (p i names notes s r d status f)) = same_after i names notes s r d status f (p i names notes s r d status f) (place i names notes s r d status f).within in
        ap (λ v. (v && not (link_at outbox_after (p i names notes s r d status f)).lost) && not (link_at outbox_after (p i names notes s r d status f)).cut) st.joined
        ∙ ap (λ v. ((link_in (box_after i names notes s r d status f).links (p i names notes s r d status f)).joined && not v) && not (link_at outbox_after (p i names notes s r d status f)).cut) st.lost
        ∙ ap (λ v. ((link_in (box_after i names notes s r d status f).links (p i names notes s r d status f)).joined && not (link_in (box_after i names notes s r d status f).links (p i names notes s r d status f)).lost) && not v) st.cut
        ∙ same.takes ∙ takes_it i names notes s r d status f

    -- .. and so the outbox's place
    pub place_after : place_of outbox_after (connection_of d.arrival.request) ≡ Some (p i names notes s r d status f)
    place_after =
        ap (λ (l : Limits). position (λ (c : ℕ). c == connection_of d.arrival.request) l.cids) ((stands_after i names notes s r d status f).sizes.limits ∙ sym f.outbox.sizes.limits)
        ∙ place_is i names notes s r d status f

    -- ---- all of it

    touched_is : flat_map (touched_by state_done) (done_effects i.outbox.session r.both.trace d status) ≡ p i names notes s r d status f ∷ []
    touched_is =
        ap (λ (y : Option ℕ). as_list y ++ flat_map (touched_by state_done) (enables (news i.outbox.session r.both.trace d status))) place_after
        ∙ ap (λ xs. p i names notes s r d status f ∷ xs) (gives_none (touched_by state_done) (news i.outbox.session r.both.trace d status) (λ ticket unit. refl))

    pub resets_none : (t : State) → resets_in t (done_effects i.outbox.session r.both.trace d status) ≡ []
    resets_none t =
        ap (λ items. cond t.outbox.limits.shared (flat_map (reset_in t.outbox.limits.units) items) []) (one_part i.outbox.session r.both.trace d status) ∙ by_test t.outbox.limits.shared
      where
        by_test : (v : Bool) → cond v (flat_map (reset_in t.outbox.limits.units) (done_effects i.outbox.session r.both.trace d status ∷ [])) [] ≡ []
        by_test true = refl
        by_test false = refl

    pub takes_is : takes None (done_entry i.outbox.session r.both.trace d status) (record { state = s; actions = acts; forgets = forgets })
        ≡ start_each (tickets_of (news i.outbox.session r.both.trace d status)) (record { state = state_done; actions = acts; forgets = forgets })
    takes_is =
        ap behind walk_is
        ∙ ap (λ conns. start_all (sweep conns done_now)) touched_is
        ∙ ap (λ v. start_all (cond v done_now (drop_waiting (p i names notes s r d status f) done_now))) kept_there
        ∙ ap (λ xs. start_each (filter_map ticket_enabled (done_effects i.outbox.session r.both.trace d status)) (tell_all xs done_now)) (resets_none state_done)
        ∙ ap (λ ks. start_each ks done_now) (enabled_tickets (news i.outbox.session r.both.trace d status))
      where
        done_now : Doing
        done_now = record { state = state_done; actions = acts; forgets = forgets }

        start_all : Doing → Doing
        start_all swept = start_each (filter_map ticket_enabled (done_effects i.outbox.session r.both.trace d status)) (tell_all (resets_in swept.state (done_effects i.outbox.session r.both.trace d status)) swept)

        behind : Doing → Doing
        behind d0 =
            let d' = in_state (λ t. record t { outbox = taken (done_effects i.outbox.session r.both.trace d status) (numbers_of i.outbox.session (done_trace r.both.trace d status)) t.outbox }) d0 in
            start_all (sweep (flat_map (touched_by d'.state) (done_effects i.outbox.session r.both.trace d status)) d')
