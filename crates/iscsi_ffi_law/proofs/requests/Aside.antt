-- What the effects of an event make of a state has nothing to do with the replies and the own PDUs that wait, but for the replies that they add.
use Rattle.std.proofs.Common.{◌≡◌, ℕ, zero, suc, ◌&&◌, not, cond, nat_lt, Bool, true, false, List, [], ◌∷◌, length, Option, Some, None, refl, ap, sym, ◌∙◌}
use Rattle.std.proofs.lemmas.Bool.{false≢true}
use Rattle.iscsi_wire.specs.declared.request.Request.{Request}
use Rattle.iscsi_wire.specs.Fields.{cmd_sn}
use Rattle.iscsi_tasks.specs.declared.task.Attr.{Attr}
use Rattle.iscsi_rules.specs.declared.effect.Effect.{Effect}
use Rattle.iscsi_rules.specs.declared.effect.Effect.TheVariants.{CloseConn, CloseSession, Deliver, Empty, Enable, Enter, Ignore, Immediate, Leave, Send, Void, Wait}
use Rattle.iscsi_outbox_steps.specs.State.{State as OutboxState, place_of}
use Rattle.iscsi_requests.specs.Conns.{count_all, of_conn}
use Rattle.iscsi_requests.specs.Cookies.{cookie_at, has_place}
use Rattle.iscsi_requests.specs.Functions.{first_request as first_function, popped as function_popped, pushed as function_pushed}
use Rattle.iscsi_requests.specs.Numbers.{held_at, with_held}
use Rattle.iscsi_requests.specs.Replies.{WaitingReplies, pushed as reply_pushed}
use Rattle.iscsi_requests.specs.Unwritten.{Unwritten}
use Rattle.iscsi_ffi_rules.specs.declared.action.Action.TheVariants.{Stop}
use Rattle.iscsi_ffi_rules.specs.declared.action.StopReason.{StopReason}
use Rattle.iscsi_ffi_commands.specs.declared.command.Command.{Command}
use Rattle.iscsi_ffi_commands.specs.declared.command.Stage.TheVariants.{Entered, Over}
use Rattle.iscsi_ffi_commands.specs.Commands.{entered as command_entered, find_ticket, is_going, is_marked, may_enter}
use Rattle.iscsi_ffi_steps.specs.State.{State}
use Rattle.iscsi_ffi_steps.specs.Walk.{Doing, Walk, answering, conn_of, conns_closed, deliver, drop_each_function, drop_functions, drop_functions_on, empty, end_item, enter, executes, function_on, immediate, in_state, leave, leave_as, may_wait, on_effect, release_if, release_one, send_as, take_out, tell, told_to_stop, wait, wait_on, walking, with_stage}

abbrev pub set_waiting : WaitingReplies → Unwritten → Doing → Doing
set_waiting replies noted d = record d { state = record d.state { replies = replies; noted = noted } }

abbrev pub set_walk : WaitingReplies → Unwritten → Walk → Walk
set_walk replies noted w = record w { doing = set_waiting replies noted w.doing }

abbrev pub is_send : Effect → Bool
is_send (Send cid sn reply) = true
is_send _ = false

either : {A : Type 0} (f : A → A) (v : Bool) (a b c d : A) → c ≡ f a → d ≡ f b → cond v c d ≡ f (cond v a b)
either f true a b c d first second = first
either f false a b c d first second = second

module _ (replies : WaitingReplies) (noted : Unwritten) where
  abbrev aside : Doing → Doing
  aside d = set_waiting replies noted d

  abbrev aside_walk : Walk → Walk
  aside_walk w = set_walk replies noted w

  pub release_aside : (x : Option ℕ) (d : Doing) → release_if x (set_waiting replies noted d) ≡ set_waiting replies noted (release_if x d)
  release_aside None d = refl
  release_aside (Some q) d = either aside (has_place q d.state.cookies) (release_one q d) d (release_one q (aside d)) (aside d) refl refl

  -- ---- an item

  pub end_aside : (w : Walk) → end_item (set_walk replies noted w) ≡ set_walk replies noted (end_item w)
  end_aside w = ap (λ (d : Doing). record w { doing = d; current = None; by = None }) (release_aside w.current w.doing)

  deliver_aside : (r : Request) (w : Walk) → deliver r (aside_walk w) ≡ aside_walk (deliver r w)
  deliver_aside r w = ap behind (end_aside w)
    where
      behind : Walk → Walk
      behind w' = executes r (held_at (cmd_sn r) w'.doing.state.held) (walking (in_state (λ (s : State). record s { held = with_held (cmd_sn r) None s.held })) w')

  function_aside : (r : Request) (x : Option ℕ) (w : Walk) → function_on r x (aside_walk w) ≡ aside_walk (function_on r x w)
  function_aside r (Some conn) w = refl
  function_aside r None w = refl

  immediate_aside : (first : Bool) (r : Request) (w : Walk) → immediate first r (aside_walk w) ≡ aside_walk (immediate first r w)
  immediate_aside first r w = ap behind (end_aside w) ∙ by_own (end_item w) ((end_item w).own) first
    where
      at : Walk → Option ℕ → Bool → Walk
      at w' x v = elim x as (λ (y : Option ℕ). Walk) [ Some request ↦ executes r (Some request) (record w' { own = None }) | None ↦ cond v (executes r None w') (function_on r (conn_of w'.doing.state r) w') ]

      behind : Walk → Walk
      behind w' = at w' w'.own first

      by_own : (w' : Walk) (x : Option ℕ) (v : Bool) → at (aside_walk w') x v ≡ aside_walk (at w' x v)
      by_own w' (Some request) v = refl
      by_own w' None true = refl
      by_own w' None false = function_aside r (conn_of w'.doing.state r) w'

  wait_aside : (r : Request) (w : Walk) → wait r (aside_walk w) ≡ aside_walk (wait r w)
  wait_aside r w = ap (λ (w' : Walk). wait_on r (conn_of w'.doing.state r) w'.own w') (end_aside w) ∙ by_places (end_item w) (conn_of (end_item w).doing.state r) ((end_item w).own)
    where
      by_places : (w' : Walk) (x y : Option ℕ) → wait_on r x y (aside_walk w') ≡ aside_walk (wait_on r x y w')
      by_places w' None None = refl
      by_places w' None (Some request) = refl
      by_places w' (Some conn) None = refl
      by_places w' (Some conn) (Some request) =
          let put : Walk → Walk = λ (u : Walk). walking (in_state (λ (s : State). record s { functions = function_pushed conn (record { number = cmd_sn r; request = request }) s.functions })) (record u { own = None }) in
          either aside_walk (nat_lt (count_all w'.doing.state.functions.waiting) w'.doing.state.functions.room) (put w') w' (put (aside_walk w')) (aside_walk w') refl refl

  empty_aside : (number : ℕ) (w : Walk) → empty number (aside_walk w) ≡ aside_walk (empty number w)
  empty_aside number w = ap (λ (d : Doing). record w { doing = d }) (release_aside (held_at number w.doing.state.held) (in_state (λ (s : State). record s { held = with_held number None s.held }) w.doing))

  enter_aside : (ticket unit : ℕ) (attr : Attr) (x : Option ℕ) (w : Walk) → enter ticket unit attr x (aside_walk w) ≡ aside_walk (enter ticket unit attr x w)
  enter_aside ticket unit attr None w = refl
  enter_aside ticket unit attr (Some request) w =
      let c : Command = record { ticket = ticket; request = request; unit = unit; attr = attr; stage = Entered } in
      let put : Walk → Walk = λ (u : Walk). walking (in_state (λ (s : State). record s { commands = command_entered c s.commands })) (record u { current = None }) in
      either aside_walk (may_enter c w.doing.state.commands) (put w) w (put (aside_walk w)) (aside_walk w) refl refl

  told_aside : (c : Command) (why : StopReason) (d : Doing) → told_to_stop c why (aside d) ≡ aside (told_to_stop c why d)
  told_aside c why d =
      either aside (is_going c && not (is_marked c)) (tell (Stop c.ticket (cookie_at c.request d.state.cookies) why) d) d (tell (Stop c.ticket (cookie_at c.request d.state.cookies) why) (aside d)) (aside d) refl refl

  out_aside : (c : Command) (why : StopReason) (d : Doing) → take_out c why (aside d) ≡ aside (take_out c why d)
  out_aside c why d =
      ap behind (told_aside c why d)
      ∙ either aside (is_going c) (staged (told_to_stop c why d)) (release_if (Some (c.request)) (staged (told_to_stop c why d))) (aside (staged (told_to_stop c why d))) (release_if (Some (c.request)) (aside (staged (told_to_stop c why d)))) refl
      (release_aside (Some (c.request)) (staged (told_to_stop c why d)))
    where
      staged : Doing → Doing
      staged e = in_state (with_stage Over c.ticket) e

      behind : Doing → Doing
      behind e = cond (is_going c) (staged e) (release_if (Some (c.request)) (staged e))

  leave_aside : (ticket : ℕ) (w : Walk) → leave ticket (aside_walk w) ≡ aside_walk (leave ticket w)
  leave_aside ticket w = by_command (find_ticket ticket w.doing.state.commands)
    where
      by_reason : (x : Option StopReason) (c : Command) → leave_as x c (aside_walk w) ≡ aside_walk (leave_as x c w)
      by_reason (Some why) c = ap (λ (d : Doing). record w { doing = d }) (out_aside c why w.doing)
      by_reason None c = refl

      by_command : (x : Option Command) → elim x as (λ (y : Option Command). Walk) [ Some c ↦ leave_as w.by c (aside_walk w) | None ↦ aside_walk w ] ≡ aside_walk (elim x as (λ (y : Option Command). Walk) [ Some c ↦ leave_as w.by c w | None ↦ w ])
      by_command (Some c) = by_reason w.by c
      by_command None = refl

  functions_aside : (n conn : ℕ) (d : Doing) → drop_functions n conn (aside d) ≡ aside (drop_functions n conn d)
  functions_aside zero conn d = refl
  functions_aside (suc n) conn d =
      let popped : Doing = in_state (λ (s : State). record s { functions = function_popped conn s.functions }) d in
      ap (drop_functions n conn) (release_aside (first_function conn d.state.functions) popped) ∙ functions_aside n conn (release_if (first_function conn d.state.functions) popped)

  each_aside : (conns : List ℕ) (d : Doing) → drop_each_function conns (aside d) ≡ aside (drop_each_function conns d)
  each_aside [] d = refl
  each_aside (conn ∷ conns) d = ap (drop_each_function conns) (functions_aside (length (of_conn conn d.state.functions.waiting)) conn d) ∙ each_aside conns (drop_functions_on conn d)

  -- any effect but a reply
  pub effect_aside : (first : Bool) (e : Effect) (w : Walk) → is_send e ≡ false → on_effect first e (set_walk replies noted w) ≡ set_walk replies noted (on_effect first e w)
  effect_aside first (Deliver r) w other = deliver_aside r w
  effect_aside first (Immediate r) w other = immediate_aside first r w
  effect_aside first (Wait r) w other = wait_aside r w
  effect_aside first (Void n) w other = refl
  effect_aside first (Empty n) w other = empty_aside n w
  effect_aside first (Enter ticket unit attr) w other = enter_aside ticket unit attr w.current w
  effect_aside first (Enable ticket unit) w other = refl
  effect_aside first (Leave ticket unit) w other = leave_aside ticket w
  effect_aside first (Send cid sn reply) w other = absurd (false≢true (sym other))
  effect_aside first (CloseConn cid) w other = ap (λ (d : Doing). record w { doing = d }) (each_aside (conns_closed w.doing.state (CloseConn cid)) w.doing)
  effect_aside first CloseSession w other = ap (λ (d : Doing). record w { doing = d }) (each_aside (conns_closed w.doing.state CloseSession) w.doing)
  effect_aside first (Ignore why) w other = ap (λ (d : Doing). record w { doing = d; own = None }) (release_aside w.own w.doing)

-- ..: what waits is the same behind it
pub effect_kept : (first : Bool) (e : Effect) (w : Walk) → is_send e ≡ false → ((on_effect first e w).doing.state.replies ≡ w.doing.state.replies) × ((on_effect first e w).doing.state.noted ≡ w.doing.state.noted)
effect_kept first e w other =
    let same : on_effect first e w ≡ set_walk w.doing.state.replies w.doing.state.noted (on_effect first e w) = effect_aside w.doing.state.replies w.doing.state.noted first e w other in
    (ap (λ (u : Walk). u.doing.state.replies) same, ap (λ (u : Walk). u.doing.state.noted) same)

-- ---- the outbox

-- both come to the same
alike : {A B : Type 0} (f : A → B) (v : Bool) (a b : A) (x : B) → f a ≡ x → f b ≡ x → f (cond v a b) ≡ x
alike f true a b x first second = first
alike f false a b x first second = second

abbrev outbox_of : Doing → OutboxState
outbox_of d = d.state.outbox

abbrev outbox_in : Walk → OutboxState
outbox_in w = w.doing.state.outbox

pub release_outbox : (x : Option ℕ) (d : Doing) → (release_if x d).state.outbox ≡ d.state.outbox
release_outbox None d = refl
release_outbox (Some q) d = alike outbox_of (has_place q d.state.cookies) (release_one q d) d d.state.outbox refl refl

functions_outbox : (n conn : ℕ) (d : Doing) → (drop_functions n conn d).state.outbox ≡ d.state.outbox
functions_outbox zero conn d = refl
functions_outbox (suc n) conn d =
    let popped : Doing = in_state (λ (s : State). record s { functions = function_popped conn s.functions }) d in
    functions_outbox n conn (release_if (first_function conn d.state.functions) popped) ∙ release_outbox (first_function conn d.state.functions) popped

each_outbox : (conns : List ℕ) (d : Doing) → (drop_each_function conns d).state.outbox ≡ d.state.outbox
each_outbox [] d = refl
each_outbox (conn ∷ conns) d = each_outbox conns (drop_functions_on conn d) ∙ functions_outbox (length (of_conn conn d.state.functions.waiting)) conn d

out_outbox : (c : Command) (why : StopReason) (d : Doing) → (take_out c why d).state.outbox ≡ d.state.outbox
out_outbox c why d =
    let staged : Doing = in_state (with_stage Over c.ticket) (told_to_stop c why d) in
    let told : (told_to_stop c why d).state.outbox ≡ d.state.outbox = alike outbox_of (is_going c && not (is_marked c)) (tell (Stop c.ticket (cookie_at c.request d.state.cookies) why) d) d d.state.outbox refl refl in
    alike outbox_of (is_going c) staged (release_if (Some (c.request)) staged) d.state.outbox told (release_outbox (Some (c.request)) staged ∙ told)

-- it is the one that the event found
pub effect_outbox : (first : Bool) (e : Effect) (w : Walk) → (on_effect first e w).doing.state.outbox ≡ w.doing.state.outbox
effect_outbox first (Deliver r) w = release_outbox w.current w.doing
effect_outbox first (Immediate r) w = by_own (end_item w) ((end_item w).own) first ∙ release_outbox w.current w.doing
  where
    by_function : (x : Option ℕ) (w' : Walk) → outbox_in (function_on r x w') ≡ outbox_in w'
    by_function (Some conn) w' = refl
    by_function None w' = refl

    by_own : (w' : Walk) (x : Option ℕ) (v : Bool)
        → outbox_in (elim x as (λ (y : Option ℕ). Walk) [ Some request ↦ executes r (Some request) (record w' { own = None }) | None ↦ cond v (executes r None w') (function_on r (conn_of w'.doing.state r) w') ]) ≡ outbox_in w'
    by_own w' (Some request) v = refl
    by_own w' None true = refl
    by_own w' None false = by_function (conn_of w'.doing.state r) w'
effect_outbox first (Wait r) w = by_places (end_item w) (conn_of (end_item w).doing.state r) ((end_item w).own) ∙ release_outbox w.current w.doing
  where
    by_places : (w' : Walk) (x y : Option ℕ) → outbox_in (wait_on r x y w') ≡ outbox_in w'
    by_places w' None None = refl
    by_places w' None (Some request) = refl
    by_places w' (Some conn) None = refl
    by_places w' (Some conn) (Some request) =
        alike outbox_in (nat_lt (count_all w'.doing.state.functions.waiting) w'.doing.state.functions.room)
        (walking (in_state (λ (s : State). record s { functions = function_pushed conn (record { number = cmd_sn r; request = request }) s.functions })) (record w' { own = None })) w' (outbox_in w') refl refl
effect_outbox first (Void n) w = refl
effect_outbox first (Empty n) w = release_outbox (held_at n w.doing.state.held) (in_state (λ (s : State). record s { held = with_held n None s.held }) w.doing)
effect_outbox first (Enter ticket unit attr) w = by_current w.current
  where
    by_current : (x : Option ℕ) → outbox_in (enter ticket unit attr x w) ≡ outbox_in w
    by_current None = refl
    by_current (Some request) =
        let c : Command = record { ticket = ticket; request = request; unit = unit; attr = attr; stage = Entered } in
        alike outbox_in (may_enter c w.doing.state.commands) (walking (in_state (λ (s : State). record s { commands = command_entered c s.commands })) (record w { current = None })) w (outbox_in w) refl refl
effect_outbox first (Enable ticket unit) w = refl
effect_outbox first (Leave ticket unit) w = by_command (find_ticket ticket w.doing.state.commands)
  where
    by_reason : (x : Option StopReason) (c : Command) → outbox_in (leave_as x c w) ≡ outbox_in w
    by_reason (Some why) c = out_outbox c why w.doing
    by_reason None c = refl

    by_command : (x : Option Command) → outbox_in (elim x as (λ (y : Option Command). Walk) [ Some c ↦ leave_as w.by c w | None ↦ w ]) ≡ outbox_in w
    by_command (Some c) = by_reason w.by c
    by_command None = refl
effect_outbox first (Send cid sn reply) w = by_places (place_of w.doing.state.outbox cid) (answering w)
  where
    by_places : (x y : Option ℕ) → outbox_in (send_as x y w) ≡ outbox_in w
    by_places None None = refl
    by_places None (Some request) = refl
    by_places (Some conn) None = refl
    by_places (Some conn) (Some request) =
        alike outbox_in (may_wait w.sent w.doing.state.replies)
        (walking (in_state (λ (s : State). record s { replies = reply_pushed conn (record { log_place = w.sent; request = request }) s.replies })) (record w { current = None; own = None })) w (outbox_in w) refl refl
effect_outbox first (CloseConn cid) w = each_outbox (conns_closed w.doing.state (CloseConn cid)) w.doing
effect_outbox first CloseSession w = each_outbox (conns_closed w.doing.state CloseSession) w.doing
effect_outbox first (Ignore why) w = release_outbox w.own w.doing
