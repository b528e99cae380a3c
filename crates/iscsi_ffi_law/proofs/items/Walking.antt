-- The walk over the effects of an item, from between two items of an event to between the next two.
use Rattle.std.proofs.Common.{◌≡◌, ℕ, ◌+◌, ◌%◌, ◌^◌, cond, Bool, true, false, List, [], ◌∷◌, ◌++◌, Option, Some, None, refl, ap, sym, ◌∙◌}
use Rattle.std.proofs.lemmas.Bool.{false≢true}
use Rattle.iscsi_wire.specs.declared.reply.Reply.{Reply}
use Rattle.iscsi_rules.specs.declared.effect.Effect.{Effect}
use Rattle.iscsi_rules.specs.declared.effect.Effect.TheVariants.{CloseConn, CloseSession, Deliver, Empty, Enable, Enter, Ignore, Immediate, Leave, Send, Void, Wait}
use Rattle.iscsi_rules.specs.promises.Order.{is_request}
use Rattle.iscsi_rules.specs.rules.Trace.{Command as RulesCommand}
use Rattle.iscsi_outbox_steps.specs.State.{State as OutboxState, place_of}
use Rattle.iscsi_requests.specs.Replies.{pushed}
use Rattle.iscsi_ffi_commands.specs.declared.command.Command.{Command}
use Rattle.iscsi_ffi_commands.specs.declared.command.Stage.TheVariants.{Entered}
use Rattle.iscsi_ffi_commands.specs.Commands.{may_enter}
use Rattle.iscsi_ffi_commands.specs.Commands as commands
use Rattle.iscsi_ffi_rules.specs.declared.action.Action.{Action}
use Rattle.iscsi_ffi_rules.specs.declared.action.StopReason.{StopReason}
use Rattle.iscsi_ffi_steps.specs.State.{State}
use Rattle.iscsi_ffi_steps.specs.Walk.{Doing, Walk, end_item, in_state, may_wait, on_effect, on_effects, send_as, walking}
use Rattle.iscsi_ffi_law.proofs.requests.Core.{Core, all_core, core_more, entered_all, may_all, one_released}
use Rattle.iscsi_ffi_law.proofs.completions.DoneShape.{enables}
use Rattle.iscsi_ffi_law.proofs.requests.Releases.{endings}

-- what is kept with these uses ended
abbrev pub core_at : State → List (Option ℕ) → Core
core_at s xs = all_core s.room xs (record { cookies = s.cookies; commands = s.commands; forgets = [] })

-- a walk in an item, over the outbox that the event found; `xs`: the uses that ended so far
abbrev pub walk_in : OutboxState → State → List Action → List (Option ℕ) → (current own : Option ℕ) → Option StopReason → ℕ → Walk
walk_in o s acts xs current own by sent = record {
  doing = record {
    state = record s { outbox = o; cookies = (core_at s xs).cookies; commands = (core_at s xs).commands };
    actions = acts;
    forgets = (core_at s xs).forgets;
  };
  current = current;
  own = own;
  by = by;
  sent = sent;
}

-- .. between two items
abbrev pub walk_at : OutboxState → State → List Action → List (Option ℕ) → Option ℕ → ℕ → Walk
walk_at o s acts xs own sent = walk_in o s acts xs None own None sent

-- ---- the end of an item

-- a request begins the next item, if there is one
abbrev pub is_led : List Effect → Bool
is_led [] = true
is_led (e ∷ es) = is_request e

pub led_end : (rest : List Effect) → is_led rest ≡ true → (w : Walk) → on_effects false rest w ≡ on_effects false rest (end_item w)
led_end [] led w = refl
led_end (Deliver r ∷ es) led w = refl
led_end (Immediate r ∷ es) led w = refl
led_end (Wait r ∷ es) led w = refl
led_end (Void n ∷ es) led w = absurd (false≢true led)
led_end (Empty n ∷ es) led w = absurd (false≢true led)
led_end (Enter k u attr ∷ es) led w = absurd (false≢true led)
led_end (Enable k u ∷ es) led w = absurd (false≢true led)
led_end (Leave k u ∷ es) led w = absurd (false≢true led)
led_end (Send cid n reply ∷ es) led w = absurd (false≢true led)
led_end (CloseConn cid ∷ es) led w = absurd (false≢true led)
led_end (CloseSession ∷ es) led w = absurd (false≢true led)
led_end (Ignore why ∷ es) led w = absurd (false≢true led)

-- what was enabled says nothing of requests
pub enables_past : (ns : List RulesCommand) (rest : List Effect) (w : Walk) → on_effects false (enables ns ++ rest) w ≡ on_effects false rest w
enables_past [] rest w = refl
enables_past (n ∷ ns) rest w = enables_past ns rest w

module _ (o : OutboxState) (s : State) (acts : List Action) (xs : List (Option ℕ)) where
  -- the request that executed and wasn't answered is over
  pub ends_with_it : (x own : Option ℕ) (by : Option StopReason) (sent : ℕ) → end_item (walk_in o s acts xs x own by sent) ≡ walk_at o s acts (xs ++ x ∷ []) own sent
  ends_with_it x own by sent =
      ap (λ (d : Doing). record { doing = d; current = None; own = own; by = None; sent = sent }) (one_released x (walk_in o s acts xs x own by sent).doing)
      ∙ ap (λ (k : Core). record {
        doing = record { state = record s { outbox = o; cookies = k.cookies; commands = k.commands }; actions = acts; forgets = k.forgets };
        current = None;
        own = own;
        by = None;
        sent = sent;
      }) (sym (core_more s.room xs x (record { cookies = s.cookies; commands = s.commands; forgets = [] })))

  pub ends_without : (own : Option ℕ) (by : Option StopReason) (sent : ℕ) → end_item (walk_in o s acts xs None own by sent) ≡ walk_at o s acts xs own sent
  ends_without own by sent = refl

  -- ---- a command enters

  pub enters_walk : (ticket unit request : ℕ) (c : Command) → c ≡ record { ticket = ticket; request = request; unit = unit; attr = c.attr; stage = Entered } → may_enter c s.commands ≡ true → endings xs c.request ≡ 0 → (own : Option ℕ) (by : Option StopReason) (sent : ℕ)
      → on_effect false (Enter ticket unit c.attr) (walk_in o s acts xs (Some request) own by sent) ≡ walk_in o (record s { commands = commands.entered c s.commands }) acts xs None own by sent
  enters_walk ticket unit request c is may other own by sent =
      ap by_command (sym is)
      ∙ ap (λ v. cond v (entered_as (commands.entered c (core_at s xs).commands)) (walk_in o s acts xs (Some request) own by sent)) (may_all s.room c xs (record { cookies = s.cookies; commands = s.commands; forgets = [] }) may)
      ∙ ap (λ (k : Core). record {
        doing = record { state = record s { outbox = o; cookies = k.cookies; commands = k.commands }; actions = acts; forgets = k.forgets };
        current = None;
        own = own;
        by = by;
        sent = sent;
      }) (sym (entered_all s.room c xs (record { cookies = s.cookies; commands = s.commands; forgets = [] }) other))
    where
      entered_as : commands.Commands → Walk
      entered_as v = record { doing = record { state = record s { outbox = o; cookies = (core_at s xs).cookies; commands = v }; actions = acts; forgets = (core_at s xs).forgets }; current = None; own = own; by = by; sent = sent }

      by_command : Command → Walk
      by_command d =
          let w = walk_in o s acts xs (Some request) own by sent in
          cond (may_enter d w.doing.state.commands) (walking (in_state (λ t. record t { commands = commands.entered d t.commands })) (record w { current = None })) w

  -- ---- a reply goes out

  pub sends_walk : (cid n p place : ℕ) (reply : Reply) (current own : Option ℕ) (by : Option StopReason) (sent : ℕ) → place_of o cid ≡ Some p → ◌≡◌ {A = Option ℕ} (elim current [ Some k ↦ Some k | None ↦ own ]) (Some place) → may_wait sent s.replies ≡ true → (sent + 1) % 2 ^ 64 ≡ sent + 1
      → on_effect false (Send cid n reply) (walk_in o s acts xs current own by sent) ≡ walk_in o (record s { replies = pushed p (record { log_place = sent; request = place }) s.replies }) acts xs None None by (sent + 1)
  sends_walk cid n p place reply current own by sent at of_it may small =
      ap by_place at ∙ ap by_request of_it ∙ ap by_room may ∙ ap by_count small
    where
      w : Walk
      w = walk_in o s acts xs current own by sent

      counted : Walk → Walk
      counted w' = record w' { sent = (sent + 1) % 2 ^ 64 }

      by_place : Option ℕ → Walk
      by_place z = counted (send_as z (elim current [ Some k ↦ Some k | None ↦ own ]) w)

      by_request : Option ℕ → Walk
      by_request z = counted (send_as (Some p) z w)

      by_room : Bool → Walk
      by_room v = counted (cond v (walking (in_state (λ t. record t { replies = pushed p (record { log_place = sent; request = place }) t.replies })) (record w { current = None; own = None })) w)

      by_count : ℕ → Walk
      by_count k = record (walk_in o (record s { replies = pushed p (record { log_place = sent; request = place }) s.replies }) acts xs None None by sent) { sent = k }
