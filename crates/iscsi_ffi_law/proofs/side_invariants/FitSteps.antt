-- What each change of a state keeps, every call of the steps keeps.
use Rattle.std.proofs.Common.{◌≡◌, ℕ, zero, suc, ◌+◌, ◌^◌, ◌&&◌, not, cond, nat_lt, Bool, true, false, List, [], ◌∷◌, length, filter_map, Option, Some, None, is_some, refl}
use Rattle.std.specs.List.{flat_map}
use Rattle.std.proofs.lemmas.Bool.{and_parts, cond_both}
use Rattle.iscsi_ffi_commands.specs.Commands.{entered as command_entered, find_ticket, forgotten, is_going, is_live, is_marked, may_enter, staged}
use Rattle.iscsi_ffi_commands.specs.declared.command.Command.{Command}
use Rattle.iscsi_ffi_commands.specs.declared.command.Stage.{Stage}
use Rattle.iscsi_ffi_commands.specs.declared.command.Stage.TheVariants.{Entered, Over, Started}
use Rattle.iscsi_ffi_rules.specs.declared.action.Action.{Action}
use Rattle.iscsi_ffi_rules.specs.declared.action.Action.TheVariants.{Start, Stop}
use Rattle.iscsi_ffi_rules.specs.declared.action.StopReason.{StopReason}
use Rattle.iscsi_ffi_rules.specs.rules.Calls.{Interface}
use Rattle.iscsi_ffi_steps.specs.State.{State, inserted, is_withheld, withhold}
use Rattle.iscsi_ffi_steps.specs.Steps.{Going, changed, happening, happens, pushed_with_room, resets_in, start, start_each, status_of, takes, walk_from, withholding}
use Rattle.iscsi_ffi_steps.specs.Walk.{Doing, Walk, conn_of, conns_closed, deliver, drop_each_function, drop_functions, drop_functions_on, drop_noted, drop_replies, drop_waiting, empty, end_item, enter, executes, function_on, immediate, in_state, keeps, leave, leave_as, may_wait, on_effect, on_effects, release, release_if, release_one, send, send_as, sweep, take_out, tell, tell_all, told_to_stop, touched_by, wait, wait_on, walking, with_stage}
use Rattle.iscsi_rules.specs.declared.effect.Effect.{Effect}
use Rattle.iscsi_rules.specs.declared.effect.Effect.TheVariants.{CloseConn, CloseSession, Deliver, Empty, Enable, Enter, Ignore, Immediate, Leave, Send, Void, Wait}
use Rattle.iscsi_rules.specs.declared.entry.Entry.{Entry}
use Rattle.iscsi_rules.specs.declared.event.Event.{Event}
use Rattle.iscsi_rules.specs.declared.event.Event.TheVariants.{Done}
use Rattle.iscsi_rules.specs.rules.Run.{entry_of}
use Rattle.iscsi_outbox_rules.specs.rules.Items.{ticket_enabled}
use Rattle.iscsi_outbox_steps.specs.State.{State as OutboxState, link_at, place_of}
use Rattle.iscsi_outbox_steps.specs.Steps.{taken}
use Rattle.iscsi_requests.specs.Conns.{count_all, of_conn, oldest}
use Rattle.iscsi_requests.specs.Cookies.{cookie_at, entered, has_place, last_cookie, next_place, used_less, used_more}
use Rattle.iscsi_requests.specs.Functions.{first_request as first_function, popped as function_popped, pushed as function_pushed, taken as function_taken}
use Rattle.iscsi_requests.specs.Numbers.{held_at, with_held}
use Rattle.iscsi_requests.specs.Replies.{first_request as first_reply, popped as reply_popped, pushed as reply_pushed, taken as reply_taken}
use Rattle.iscsi_requests.specs.Unwritten.{popped as handed_popped}
use Rattle.iscsi_requests.specs.declared.functions.WaitingFunction.{WaitingFunction}
use Rattle.iscsi_requests.specs.declared.replies.WaitingReply.{WaitingReply}
use Rattle.iscsi_tasks.specs.declared.task.Attr.{Attr}
use Rattle.iscsi_wire.specs.Fields.{cmd_sn}
use Rattle.iscsi_wire.specs.declared.request.Request.{Request}

-- what holds of a state, through each change of it
pub record StateWalk (P : State → Type 0) : Type 0 where
  pub outbox : (s : State) (x : OutboxState) → P s → P (record s { outbox = x })
  pub aside : (s : State) (withheld : List ℕ) (awake over : List Bool) → P s → P (record s { withheld = withheld; awake = awake; over = over })
  pub enters : (s : State) (cookie place : ℕ) → next_place s.cookies ≡ Some place → P s → P (record s { cookies = entered cookie place s.cookies })
  pub used : (s : State) (place : ℕ) → P s → P (record s { cookies = used_more place s.cookies })
  pub released : (s : State) (request : ℕ) → has_place request s.cookies ≡ true → P s
      → P (record s { cookies = used_less request s.cookies; commands = cond (is_some (last_cookie request s.cookies)) (forgotten request s.commands) s.commands })
  pub held : (s : State) (number : ℕ) (x : Option ℕ) → P s → P (record s { held = with_held number x s.held })
  pub function_pushed : (s : State) (conn : ℕ) (f : WaitingFunction) → nat_lt (count_all s.functions.waiting) s.functions.room ≡ true → P s → P (record s { functions = function_pushed conn f s.functions })
  pub function_taken : (s : State) (conn number : ℕ) → P s → P (record s { functions = function_taken conn number s.functions })
  pub function_popped : (s : State) (conn : ℕ) → P s → P (record s { functions = function_popped conn s.functions })
  pub command_entered : (s : State) (c : Command) → may_enter c s.commands ≡ true → P s → P (record s { commands = command_entered c s.commands })
  pub staged : (s : State) (stage : Stage) (ticket : ℕ) → P s → P (record s { commands = staged stage ticket s.commands })
  pub reply_pushed : (s : State) (conn : ℕ) (x : WaitingReply) → nat_lt (count_all s.replies.waiting) s.replies.room ≡ true → P s → P (record s { replies = reply_pushed conn x s.replies })
  pub reply_popped : (s : State) (conn : ℕ) → P s → P (record s { replies = reply_popped conn s.replies })
  pub reply_taken : (s : State) (place : ℕ) → P s → P (record s { replies = reply_taken place s.replies })
  pub noted_pushed : (s : State) (conn : ℕ) (x : Option ℕ) → P s → P (record s { noted = pushed_with_room conn x s.noted })
  pub noted_popped : (s : State) (conn : ℕ) → P s → P (record s { noted = handed_popped conn s.noted })
  pub unwritten_pushed : (s : State) (conn : ℕ) (x : Option ℕ) → P s → P (record s { unwritten = pushed_with_room conn x s.unwritten })
  pub unwritten_popped : (s : State) (conn : ℕ) → P s → P (record s { unwritten = handed_popped conn s.unwritten })

module _ (P : State → Type 0) (w : StateWalk P) where
  -- ---- what is told

  pub on_told : (actions : List Action) (d : Doing) → P d.state → P (tell_all actions d).state
  on_told [] d h = h
  on_told (action ∷ actions) d h = on_told actions (tell action d) h

  -- ---- uses

  pub on_release : (request : ℕ) (d : Doing) → P d.state → P (release request d).state
  on_release request d h = by_place (has_place request d.state.cookies) refl
    where
      by_place : (v : Bool) → has_place request d.state.cookies ≡ v → P (cond v (release_one request d) d).state
      by_place true is = w.released d.state request is h
      by_place false is = h

  pub on_release_if : (x : Option ℕ) (d : Doing) → P d.state → P (release_if x d).state
  on_release_if (Some request) d h = on_release request d h
  on_release_if None d h = h

  on_functions : (n conn : ℕ) (d : Doing) → P d.state → P (drop_functions n conn d).state
  on_functions zero conn d h = h
  on_functions (suc n) conn d h =
      let d' : Doing = release_if (first_function conn d.state.functions) (in_state (λ s. record s { functions = function_popped conn s.functions }) d) in
      on_functions n conn d' (on_release_if (first_function conn d.state.functions) (in_state (λ s. record s { functions = function_popped conn s.functions }) d) (w.function_popped d.state conn h))

  on_each_function : (conns : List ℕ) (d : Doing) → P d.state → P (drop_each_function conns d).state
  on_each_function [] d h = h
  on_each_function (conn ∷ conns) d h = on_each_function conns (drop_functions_on conn d) (on_functions (length (of_conn conn d.state.functions.waiting)) conn d h)

  on_replies : (n conn : ℕ) (d : Doing) → P d.state → P (drop_replies n conn d).state
  on_replies zero conn d h = h
  on_replies (suc n) conn d h =
      let d' : Doing = release_if (first_reply conn d.state.replies) (in_state (λ s. record s { replies = reply_popped conn s.replies }) d) in
      on_replies n conn d' (on_release_if (first_reply conn d.state.replies) (in_state (λ s. record s { replies = reply_popped conn s.replies }) d) (w.reply_popped d.state conn h))

  on_noted : (n conn : ℕ) (d : Doing) → P d.state → P (drop_noted n conn d).state
  on_noted zero conn d h = h
  on_noted (suc n) conn d h = by_oldest (on_noted n conn) (oldest (of_conn conn d.state.noted.handed))
    where
      popped : Doing
      popped = in_state (λ s. record s { noted = handed_popped conn s.noted }) d

      by_oldest : ((d' : Doing) → P d'.state → P (drop_noted n conn d').state) → (x : Option (Option ℕ))
          → P (drop_noted n conn (elim x as (λ y. Doing) [ Some request ↦ release_if request (in_state (λ s. record s { noted = handed_popped conn s.noted }) d) | None ↦ d ])).state
      by_oldest further (Some request) = further (release_if request popped) (on_release_if request popped (w.noted_popped d.state conn h))
      by_oldest further None = further d h

  pub on_waiting : (conn : ℕ) (d : Doing) → P d.state → P (drop_waiting conn d).state
  on_waiting conn d h =
      let d' : Doing = drop_replies (length (of_conn conn d.state.replies.waiting)) conn d in
      on_noted (length (of_conn conn d'.state.noted.handed)) conn d' (on_replies (length (of_conn conn d.state.replies.waiting)) conn d h)

  -- ---- an item

  abbrev On : Walk → Type 0
  On k = P k.doing.state

  on_end : (k : Walk) → P k.doing.state → P (end_item k).doing.state
  on_end k h = on_release_if k.current k.doing h

  on_deliver : (r : Request) (k : Walk) → P k.doing.state → P (deliver r k).doing.state
  on_deliver r k h = w.held (end_item k).doing.state (cmd_sn r) None (on_end k h)

  on_function : (r : Request) (x : Option ℕ) (k : Walk) → P k.doing.state → P (function_on r x k).doing.state
  on_function r (Some conn) k h = w.function_taken k.doing.state conn (cmd_sn r) h
  on_function r None k h = h

  on_immediate : (arrived : Bool) (r : Request) (k : Walk) → P k.doing.state → P (immediate arrived r k).doing.state
  on_immediate arrived r k h = by_own (end_item k) (on_end k h) ((end_item k).own) arrived
    where
      by_own : (k' : Walk) → P k'.doing.state → (x : Option ℕ) (v : Bool)
          → P (elim x as (λ y. Walk) [ Some request ↦ executes r (Some request) (record k' { own = None }) | None ↦ cond v (executes r None k') (function_on r (conn_of k'.doing.state r) k') ]).doing.state
      by_own k' h' (Some request) v = h'
      by_own k' h' None true = h'
      by_own k' h' None false = on_function r (conn_of k'.doing.state r) k' h'

  on_wait : (r : Request) (k : Walk) → P k.doing.state → P (wait r k).doing.state
  on_wait r k h = by_places (end_item k) (on_end k h) (conn_of (end_item k).doing.state r) ((end_item k).own)
    where
      by_places : (k' : Walk) → P k'.doing.state → (x y : Option ℕ) → P (wait_on r x y k').doing.state
      by_places k' h' None None = h'
      by_places k' h' None (Some request) = h'
      by_places k' h' (Some conn) None = h'
      by_places k' h' (Some conn) (Some request) = by_room (nat_lt (count_all k'.doing.state.functions.waiting) k'.doing.state.functions.room) refl
        where
          by_room : (v : Bool) → nat_lt (count_all k'.doing.state.functions.waiting) k'.doing.state.functions.room ≡ v
              → P (cond v (walking (in_state (λ s. record s { functions = function_pushed conn (record { number = cmd_sn r; request = request }) s.functions })) (record k' { own = None })) k').doing.state
          by_room true is = w.function_pushed k'.doing.state conn (record { number = cmd_sn r; request = request }) is h'
          by_room false is = h'

  on_empty : (number : ℕ) (k : Walk) → P k.doing.state → P (empty number k).doing.state
  on_empty number k h = on_release_if (held_at number k.doing.state.held) (in_state (λ s. record s { held = with_held number None s.held }) k.doing) (w.held k.doing.state number None h)

  on_enter : (ticket unit : ℕ) (attr : Attr) (x : Option ℕ) (k : Walk) → P k.doing.state → P (enter ticket unit attr x k).doing.state
  on_enter ticket unit attr None k h = h
  on_enter ticket unit attr (Some request) k h = by_test (may_enter c k.doing.state.commands) refl
    where
      c : Command
      c = record { ticket = ticket; request = request; unit = unit; attr = attr; stage = Entered }

      by_test : (v : Bool) → may_enter c k.doing.state.commands ≡ v → P (cond v (walking (in_state (λ s. record s { commands = command_entered c s.commands })) (record k { current = None })) k).doing.state
      by_test true is = w.command_entered k.doing.state c is h
      by_test false is = h

  on_stop : (c : Command) (why : StopReason) (d : Doing) → P d.state → P (told_to_stop c why d).state
  on_stop c why d h = cond_both (is_going c && not (is_marked c)) (tell (Stop c.ticket (cookie_at c.request d.state.cookies) why) d) d (λ (x : Doing). P x.state) (λ is. h) (λ is. h)

  on_take_out : (c : Command) (why : StopReason) (d : Doing) → P d.state → P (take_out c why d).state
  on_take_out c why d h =
      let d' : Doing = in_state (with_stage Over c.ticket) (told_to_stop c why d) in
      let h' : P d'.state = w.staged (told_to_stop c why d).state Over c.ticket (on_stop c why d h) in
      cond_both (is_going c) d' (release c.request d') (λ (x : Doing). P x.state) (λ is. h') (λ is. on_release c.request d' h')

  on_leave : (ticket : ℕ) (k : Walk) → P k.doing.state → P (leave ticket k).doing.state
  on_leave ticket k h = by_command (find_ticket ticket k.doing.state.commands)
    where
      by_reason : (x : Option StopReason) (c : Command) → P (leave_as x c k).doing.state
      by_reason (Some why) c = on_take_out c why k.doing h
      by_reason None c = w.staged k.doing.state Over c.ticket h

      by_command : (x : Option Command) → P (elim x as (λ y. Walk) [ Some c ↦ leave_as (k.by) c k | None ↦ k ]).doing.state
      by_command (Some c) = by_reason (k.by) c
      by_command None = h

  on_send : (cid : ℕ) (k : Walk) → P k.doing.state → P (send cid k).doing.state
  on_send cid k h = by_places (place_of k.doing.state.outbox cid) _
    where
      by_places : (x y : Option ℕ) → P (send_as x y k).doing.state
      by_places None None = h
      by_places None (Some request) = h
      by_places (Some conn) None = h
      by_places (Some conn) (Some request) = by_room (may_wait k.sent k.doing.state.replies) refl
        where
          by_room : (v : Bool) → may_wait k.sent k.doing.state.replies ≡ v
              → P (cond v (walking (in_state (λ s. record s { replies = reply_pushed conn (record { log_place = k.sent; request = request }) s.replies })) (record k { current = None; own = None })) k).doing.state
          by_room true is =
              let parts = and_parts (nat_lt (count_all k.doing.state.replies.waiting) k.doing.state.replies.room && nat_lt (k.sent + 1) (2 ^ 64)) _ is in
              w.reply_pushed k.doing.state conn (record { log_place = k.sent; request = request }) (and_parts (nat_lt (count_all k.doing.state.replies.waiting) k.doing.state.replies.room) (nat_lt (k.sent + 1) (2 ^ 64)) parts.0).0 h
          by_room false is = h

  on_effect_is : (first : Bool) (effect : Effect) (k : Walk) → P k.doing.state → P (on_effect first effect k).doing.state
  on_effect_is first (Deliver r) k h = on_deliver r k h
  on_effect_is first (Immediate r) k h = on_immediate first r k h
  on_effect_is first (Wait r) k h = on_wait r k h
  on_effect_is first (Void number) k h = h
  on_effect_is first (Empty number) k h = on_empty number k h
  on_effect_is first (Enter ticket unit attr) k h = on_enter ticket unit attr k.current k h
  on_effect_is first (Enable ticket unit) k h = h
  on_effect_is first (Leave ticket unit) k h = on_leave ticket k h
  on_effect_is first (Send cid stat_sn reply) k h = on_send cid k h
  on_effect_is first (CloseConn cid) k h = on_each_function (conns_closed k.doing.state (CloseConn cid)) k.doing h
  on_effect_is first CloseSession k h = on_each_function (conns_closed k.doing.state CloseSession) k.doing h
  on_effect_is first (Ignore why) k h = on_release_if k.own k.doing h

  on_all_effects : (first : Bool) (effects : List Effect) (k : Walk) → P k.doing.state → P (on_effects first effects k).doing.state
  on_all_effects first [] k h = on_end k h
  on_all_effects first (effect ∷ effects) k h = on_all_effects false effects (on_effect first effect k) (on_effect_is first effect k h)

  on_sweep : (conns : List ℕ) (d : Doing) → P d.state → P (sweep conns d).state
  on_sweep [] d h = h
  on_sweep (conn ∷ conns) d h =
      on_sweep conns (cond (keeps (link_at d.state.outbox conn)) d (drop_waiting conn d))
      (cond_both (keeps (link_at d.state.outbox conn)) d (drop_waiting conn d) (λ (x : Doing). P x.state) (λ is. h) (λ is. on_waiting conn d h))

  -- ---- an event

  on_withhold : (ticket : ℕ) (s : State) → P s → P (withhold ticket s)
  on_withhold ticket s h =
      cond_both (nat_lt (length s.withheld) s.room) (record s { withheld = inserted ticket s.withheld }) s P (λ is. w.aside s (inserted ticket s.withheld) s.awake s.over h) (λ is. h)

  on_start : (c : Command) (d : Doing) → P d.state → P (start c d).state
  on_start c d h =
      cond_both (is_withheld d.state c) (in_state (withhold c.ticket) d) (in_state (with_stage Started c.ticket) (tell (Start c.ticket c.unit c.attr (cookie_at c.request d.state.cookies)) d)) (λ (x : Doing). P x.state)
      (λ is. on_withhold c.ticket d.state h) (λ is. w.staged d.state Started c.ticket h)

  on_starts : (tickets : List ℕ) (d : Doing) → P d.state → P (start_each tickets d).state
  on_starts [] d h = h
  on_starts (ticket ∷ tickets) d h = by_command (on_starts tickets) (find_ticket ticket d.state.commands)
    where
      by_command : ((d' : Doing) → P d'.state → P (start_each tickets d').state) → (x : Option Command) → P (start_each tickets (elim x as (λ y. Doing) [ Some c ↦ cond (is_live c) (start c d) d | None ↦ d ])).state
      by_command further (Some c) = further (cond (is_live c) (start c d) d) (cond_both (is_live c) (start c d) d (λ (x : Doing). P x.state) (λ is. on_start c d h) (λ is. h))
      by_command further None = further d h

  on_takes : (own : Option ℕ) (entry : Entry) (d : Doing) → P d.state → P (takes own entry d).state
  on_takes own entry d h =
      let k : Walk = on_effects true entry.effects (walk_from own d) in
      let d' : Doing = in_state (λ s. record s { outbox = taken entry.effects entry.numbers s.outbox }) k.doing in
      let h' : P d'.state = w.outbox k.doing.state (taken entry.effects entry.numbers k.doing.state.outbox) (on_all_effects true entry.effects (walk_from own d) h) in
      let swept : Doing = sweep (flat_map (touched_by d'.state) entry.effects) d' in
      let h'' : P swept.state = on_sweep (flat_map (touched_by d'.state) entry.effects) d' h' in
      on_starts (filter_map ticket_enabled entry.effects) (tell_all (resets_in swept.state entry.effects) swept) (on_told (resets_in swept.state entry.effects) swept h'')

  pub on_happening : (i : Interface) (own : Option ℕ) (e : Event) (g : Going) → P g.doing.state → P (happening i own e g).doing.state
  on_happening i own e g h =
      cond_both (nat_lt g.event i.outbox.session.events) _ g (λ (x : Going). P x.doing.state) (λ is. on_takes own (entry_of i.outbox.session g.event g.trace e) g.doing h) (λ is. h)

  on_withholding : (i : Interface) (n : ℕ) (g : Going) → P g.doing.state → P (withholding i n g).doing.state
  on_withholding i zero g h = h
  on_withholding i (suc n) g h = by_tickets (on_withholding i n) (g.doing.state.withheld)
    where
      by_tickets : ((x : Going) → P x.doing.state → P (withholding i n x).doing.state) → (ts : List ℕ) → P (elim ts as (λ y. Going) [
        | [] ↦ g
        | ticket ∷ tickets ↦
            let status = status_of g.doing.state ticket in
            withholding i n (happening i None (Done ticket status) (changed (in_state (λ s. record s { withheld = tickets })) g))
      ]).doing.state
      by_tickets further [] = h
      by_tickets further (ticket ∷ tickets) =
          let e : Event = Done ticket (status_of g.doing.state ticket) in
          let g' : Going = changed (in_state (λ s. record s { withheld = tickets })) g in
          further (happening i None e g') (on_happening i None e g' (w.aside g.doing.state tickets g.doing.state.awake g.doing.state.over h))

  pub on_happens : (i : Interface) (own : Option ℕ) (e : Event) (g : Going) → P g.doing.state → P (happens i own e g).doing.state
  on_happens i own e g h = let g' : Going = happening i own e g in on_withholding i (length g'.doing.state.commands.items) g' (on_happening i own e g h)
