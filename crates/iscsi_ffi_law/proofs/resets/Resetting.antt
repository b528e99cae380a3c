-- Another session's reset, where nothing is withheld: it marks, and tells to stop.
use Rattle.std.proofs.Common.{◌≡◌, ℕ, zero, suc, ◌+◌, ◌*◌, ◌≤◌, ◌==◌, ◌&&◌, ◌||◌, cond, Bool, true, false, List, [], ◌∷◌, ◌++◌, length, map, filter, Option, Some, None, refl, ap, sym, subst, ◌∙◌, arith, length-append}
use Rattle.iscsi_rules.specs.declared.event.Event.TheVariants.{Done}
use Rattle.iscsi_rules.specs.rules.Trace.{Command as RulesCommand, entered, live}
use Rattle.iscsi_rules.proofs.general.ElementLemmas.{in-filter}
use Rattle.iscsi_outbox_law.specs.private.Commands.{link_in}
use Rattle.iscsi_outbox_law.specs.private.Pairs.{EachOf}
use Rattle.iscsi_outbox_law.proofs.general.PairLemmas.{each-weaken, pairs-weaken}
use Rattle.iscsi_outbox_steps.specs.State.{State as OutboxState}
use Rattle.iscsi_outbox_steps.specs.Steps.{is_running_ticket}
use Rattle.iscsi_requests.specs.Conns.{of_conn}
use Rattle.iscsi_requests.specs.Cookies.{Cookies}
use Rattle.iscsi_ffi_commands.specs.declared.command.Command.{Command}
use Rattle.iscsi_ffi_commands.specs.Commands.{has_ticket, is_live}
use Rattle.iscsi_ffi_rules.specs.declared.action.Action.{Action}
use Rattle.iscsi_ffi_rules.specs.declared.action.StopReason.TheVariants.{Cleared as ClearedReason}
use Rattle.iscsi_ffi_rules.specs.rules.Calls.{Interface, Clears}
use Rattle.iscsi_ffi_rules.specs.rules.Clearing.{next_withheld, status_of}
use Rattle.iscsi_ffi_rules.specs.rules.Happening.{Told, happening, is_started, stop, withholding}
use Rattle.iscsi_ffi_rules.specs.rules.Needs.{left_to_write}
use Rattle.iscsi_ffi_rules.specs.rules.Run as rules
use Rattle.iscsi_ffi_rules.specs.rules.Run.{cids}
use Rattle.iscsi_ffi_rules.specs.rules.Sides.{Side}
use Rattle.iscsi_ffi_steps.specs.State.{State}
use Rattle.iscsi_ffi_steps.specs.Steps.{Side as StepsSide, after, clear, ended, told}
use Rattle.iscsi_ffi_law.specs.Alike.{GoesAlike, TellAlike}
use Rattle.iscsi_ffi_law.specs.Fit.{IsFit}
use Rattle.iscsi_ffi_law.specs.Parts.{IsAbout, IsCommand, IsConn, IsNote, IsOneUse, IsRequest, is_named}
use Rattle.iscsi_ffi_law.specs.Stands.{AreRequests, Stands}
use Rattle.iscsi_ffi_law.specs.Uses.{is_used, uses_of}
use Rattle.iscsi_ffi_law.proofs.resets.Clearing.{cleared_to, few_told, marked_in, marked_next, same_request, same_ticket, stop_told, stops_told, with_items}
use Rattle.iscsi_ffi_law.proofs.calls.Ends.{EndsAlike}
use Rattle.iscsi_ffi_law.proofs.calls.Finish.{IsAtEnd, stands_ended, tells_alike}
use Rattle.iscsi_ffi_law.proofs.calls.Fitting.{count_map}
use Rattle.iscsi_ffi_law.proofs.requests.Kept.{count_members}
use Rattle.iscsi_ffi_law.proofs.resets.Marking.{command_marked, marked_side, next_live, pairs_mapped, stops_alike, these}
use Rattle.iscsi_ffi_law.proofs.calls.Moved.{commands_known}
use Rattle.iscsi_ffi_law.proofs.requests.Releases.{all_released, endings, releases}
use Rattle.iscsi_ffi_law.proofs.requests.Releasing.{Released}

each_mapped : {A : Type 0} (P Q : A → Type 0) (f : A → A) (xs : List A) → ((x : A) → P x → Q (f x)) → EachOf P xs → EachOf Q (map f xs)
each_mapped P Q f [] k h = tt
each_mapped P Q f (x ∷ xs) k h = (k x h.0, each_mapped P Q f xs k h.1)

-- ---- a command

ticket_kept : (unit : ℕ) (c : Command) → (marked_in unit c).ticket ≡ c.ticket
ticket_kept unit c = by_unit (c.unit == unit)
  where
    by_unit : (v : Bool) → (cond v (marked_next c) c).ticket ≡ c.ticket
    by_unit true = same_ticket c
    by_unit false = refl

request_kept : (unit : ℕ) (c : Command) → (marked_in unit c).request ≡ c.request
request_kept unit c = by_unit (c.unit == unit)
  where
    by_unit : (v : Bool) → (cond v (marked_next c) c).request ≡ c.request
    by_unit true = same_request c
    by_unit false = refl

live_kept : (unit : ℕ) (c : Command) → is_live (marked_in unit c) ≡ is_live c
live_kept unit c = by_unit (c.unit == unit)
  where
    by_unit : (v : Bool) → is_live (cond v (marked_next c) c) ≡ is_live c
    by_unit true = next_live c
    by_unit false = refl

used_kept : (o : OutboxState) (unit : ℕ) (c : Command) → is_used o (marked_in unit c) ≡ is_used o c
used_kept o unit c = ap (λ v. v || is_running_ticket (marked_in unit c).ticket o) (live_kept unit c) ∙ ap (λ n. is_live c || is_running_ticket n o) (ticket_kept unit c)

few_stops : (v : Cookies) (unit : ℕ) (cs : List Command) → length (stops_told v (filter (λ (c : Command). c.unit == unit) cs)) ≤ length cs
few_stops v unit [] = omega arith
few_stops v unit (c ∷ cs) = by_unit (c.unit == unit) (few_stops v unit cs)
  where
    by_unit : (u : Bool) → length (stops_told v (filter (λ (c : Command). c.unit == unit) cs)) ≤ length cs → length (stops_told v (cond u (c ∷ filter (λ (c : Command). c.unit == unit) cs) (filter (λ (c : Command). c.unit == unit) cs))) ≤ length (c ∷ cs)
    by_unit true rest =
        let all = length-append (stop_told v c) (stops_told v (filter (λ (c : Command). c.unit == unit) cs)) in
        omega (arith, rest, all, few_told v c)
    by_unit false rest = omega (arith, rest)

few_of_unit : (unit : ℕ) (cs : List Command) → length (filter (λ (c : Command). c.unit == unit) cs) ≤ length cs
few_of_unit unit [] = omega arith
few_of_unit unit (c ∷ cs) = by_unit (c.unit == unit) (few_of_unit unit cs)
  where
    by_unit : (u : Bool) → length (filter (λ (c : Command). c.unit == unit) cs) ≤ length cs → length (cond u (c ∷ filter (λ (c : Command). c.unit == unit) cs) (filter (λ (c : Command). c.unit == unit) cs)) ≤ length (c ∷ cs)
    by_unit true rest = omega (arith, rest)
    by_unit false rest = omega (arith, rest)

-- nothing is withheld
pub calm : (i : Interface) (n : ℕ) (w : Told) → next_withheld w.side ≡ None → withholding i n w ≡ w
calm i zero w none = refl
calm i (suc n) w none = ap (λ (x : Option RulesCommand). elim x [
  | Some c ↦ let g = happening i w.side (Done c.ticket (status_of w.side c)) in withholding i n (record { side = g.side; actions = w.actions ++ g.actions })
  | None ↦ w
]) none

-- ---- the call

module _ (i : Interface) (s : StepsSide) (r : Side) (h : Stands i s r) (unit : ℕ) (fit : IsFit i r.both.box r.both.box) (room : length s.state.commands.items + 2 * length (cids i) ≤ s.state.room) where
  abbrev s' : State
  s' = with_items (map (marked_in unit) s.state.commands.items) s.state

  abbrev r' : Side
  r' = marked_side r unit

  abbrev acts : List Action
  acts = map (stop r ClearedReason) (filter (is_started r) (these r unit))

  uses_now : (place : ℕ) → uses_of place s' ≡ uses_of place s.state
  uses_now place =
      let mapped = count_map (marked_in unit) (λ (c : Command). c.request == place && is_used s.state.outbox c) s.state.commands.items in
      let same = count_members (λ (c : Command). (marked_in unit c).request == place && is_used s.state.outbox (marked_in unit c)) (λ (c : Command). c.request == place && is_used s.state.outbox c) s.state.commands.items
      (λ c there. ap (λ n. n == place && is_used s.state.outbox (marked_in unit c)) (request_kept unit c) ∙ ap (λ v. c.request == place && v) (used_kept s.state.outbox unit c)) in
      omega (arith, mapped, same)

  requests_now : AreRequests h.names h.notes (endings []) (λ p. []) s' r'
  requests_now = record {
    asked = h.requests.asked;
    noted = h.requests.noted;
    apart = h.requests.apart;
    kept = h.requests.kept;
    counted = h.requests.counted;
    uses = λ place. let same = uses_now place in omega (arith, same, h.requests.uses place);
    named = each-weaken (IsRequest s.state r.both.trace) (IsRequest s' r.both.trace) h.names (λ n q. record { held = q.held; waiting = q.waiting }) h.requests.named;
    noted_apart = each-weaken (IsNote s.state r.both.box.links) (IsNote s' r.both.box.links) h.notes (λ n q. record { held = q.held; waiting = q.waiting; home = q.home }) h.requests.noted_apart;
    tickets = h.requests.tickets;
    commands = pairs_mapped (IsCommand h.names r) (IsCommand h.names r') (marked_in unit) s.state.commands.items (filter (is_named h.names) (entered r.both.trace))
        (λ c d there k. command_marked r unit h.requests.tickets h.names c d (in-filter (is_named h.names) (entered r.both.trace) d there).0 k) h.requests.commands;
    live_named = h.requests.live_named;
    one_use = each_mapped (IsOneUse s.state.outbox) (IsOneUse s.state.outbox) (marked_in unit) s.state.commands.items
        (λ c k. ap (λ v. v && is_running_ticket (marked_in unit c).ticket s.state.outbox) (live_kept unit c) ∙ ap (λ n. is_live c && is_running_ticket n s.state.outbox) (ticket_kept unit c) ∙ k) h.requests.one_use;
    numbered = λ ticket.
        let mapped = count_map (marked_in unit) (has_ticket ticket) s.state.commands.items in
        let same = count_members (λ (c : Command). has_ticket ticket (marked_in unit c)) (has_ticket ticket) s.state.commands.items (λ c there. ap (λ n. n == ticket) (ticket_kept unit c)) in
        omega (arith, mapped, same, h.requests.numbered ticket);
    answers = h.requests.answers;
    once = h.requests.once;
    last = h.requests.last;
    conns = λ p within.
        let c : IsConn h.names h.notes [] s.state r p (link_in r.both.box.links p) = h.requests.conns p within in
        record {
          replies = c.replies;
          queued = c.queued;
          written = pairs-weaken (IsAbout h.names h.notes r (link_in r.both.box.links p).conn) (IsAbout h.names h.notes r' (link_in r.both.box.links p).conn) (of_conn p s.state.unwritten.handed) (left_to_write (link_in r.both.box.links p)) (λ x y k. record { named = k.named; noted = k.noted }) c.written;
          noted = c.noted;
        };
    undue = h.requests.undue;
  }

  at_end : IsAtEnd i h.names h.notes (endings []) (λ p. []) s' r'
  at_end = record {
    outbox = h.outbox;
    sound = fit.sound;
    few = fit.few;
    distinct = fit.distinct;
    sizes = record { room = h.sizes.room; functions = h.sizes.functions; replies = h.sizes.replies; noted = h.sizes.noted; unwritten = h.sizes.unwritten; noted_room = h.sizes.noted_room; unwritten_room = h.sizes.unwritten_room; replies_room = h.sizes.replies_room; slots = h.sizes.slots; few = h.sizes.few };
    flags = record { awake = h.flags.awake; over = h.flags.over };
    requests = requests_now;
    counts = record { units = h.counts.units; last = h.counts.last; tracked = h.counts.tracked };
    withheld = h.withheld;
    calm = h.calm;
    slots = h.slots;
    functions = h.functions;
  }

  clear_ends : EndsAlike i (clear unit s).going r' acts
  clear_ends =
      let few = few_stops s.state.cookies unit s.state.commands.items in
      let same = ap length (stops_alike i s r h unit) in
      let rel : Released s' acts (releases [] (record { state = s'; actions = acts; forgets = [] }))
      = all_released s' acts requests_now.counted (commands_known h.names h.notes (endings []) (λ p. []) s' r' requests_now) [] (omega arith) requests_now.uses in
      let doing : (clear unit s).going.doing ≡ record { state = s'; actions = acts; forgets = [] }
      = cleared_to unit s.state.commands.items h.requests.numbered (record { state = s.state; actions = []; forgets = [] }) refl (omega (arith, room, few_of_unit unit s.state.commands.items))
      ∙ ap (λ (xs : List Action). record { state = s'; actions = xs; forgets = [] }) (stops_alike i s r h unit) in
      record {
        tells = tells_alike i h.names h.notes (endings []) (λ p. []) s' r' at_end rel.cookies rel.forgets acts rel.released (omega (arith, room, few, same)) (clear unit s).going (doing ∙ rel.is) h.event h.trace;
        stands = stands_ended i h.names h.notes (endings []) (λ p. []) s' r' at_end rel.cookies rel.forgets acts rel.released (omega (arith, room, few, same)) (clear unit s).going (doing ∙ rel.is) h.event h.trace;
      }

  pub clears_alike : GoesAlike i s r (Clears unit)
  clears_alike =
      let same : withholding i (length (live r.both.trace)) (record { side = r'; actions = acts }) ≡ record { side = r'; actions = acts } = calm i (length (live r.both.trace)) (record { side = r'; actions = acts }) h.calm in
      record {
        answer = refl;
        tells = subst (λ (w : Told). TellAlike (told (ended (clear unit s).going)) (rules.ended i w).actions) (sym same) clear_ends.tells;
        stands = subst (λ (w : Told). Stands i (after (ended (clear unit s).going)) (rules.ended i w).side) (sym same) clear_ends.stands;
      }
