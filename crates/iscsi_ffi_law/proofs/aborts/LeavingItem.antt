-- An item by which commands leave: what holds behind them, before its request is answered, or is over.
use Rattle.std.proofs.Common.{◌≡◌, ℕ, ◌+◌, ◌≤◌, ◌==◌, ◌&&◌, Bool, true, false, List, [], ◌∷◌, ◌++◌, length, map, count_by, Option, Some, None, option_map, ap, sym, subst, ◌∙◌, arith}
use Rattle.iscsi_ffi_law.proofs.aborts.LeavingBy.{LeavesBy, few2 as few_by, leaves_on, over2 as over_by, queued2 as queued_by, requests2 as requests_by, those as those_by}
use Rattle.iscsi_ffi_law.proofs.items.TakingOut.{IsOut}
use Rattle.std.specs.List.{list_any}
use Rattle.std.proofs.lemmas.List.{append_assoc, append-nil}
use Rattle.iscsi_wire.specs.declared.reply.Reply.{Reply}
use Rattle.iscsi_wire.specs.Fields.{connection_of}
use Rattle.iscsi_rules.specs.declared.effect.Effect.{Effect}
use Rattle.iscsi_rules.specs.rules.Run.{newly_enabled, stat_sn_of}
use Rattle.iscsi_rules.specs.rules.Settings.{are_distinct}
use Rattle.iscsi_rules.specs.rules.Trace.{Arrival, Command as RulesCommand, Mark, live}
use Rattle.iscsi_rules.proofs.general.CountLemmas.{one}
use Rattle.iscsi_rules.proofs.items.Forms.{Start}
use Rattle.iscsi_outbox_rules.specs.rules.Boxes.{Box}
use Rattle.iscsi_outbox_rules.specs.rules.Due.{settle}
use Rattle.iscsi_outbox_rules.specs.rules.Items.{after_item, in_phase, phase_enabled, send}
use Rattle.iscsi_outbox_law.specs.private.Sound.{IsSound}
use Rattle.iscsi_outbox_steps.specs.State.{State as OutboxState}
use Rattle.iscsi_outbox_steps.specs.Steps.{after_item as steps_after_item}
use Rattle.iscsi_requests.specs.Conns.{of_conn}
use Rattle.iscsi_requests.specs.declared.functions.WaitingFunction.{WaitingFunction}
use Rattle.iscsi_ffi_commands.specs.Commands.{is_going, is_live}
use Rattle.iscsi_ffi_rules.specs.declared.action.Action.{Action}
use Rattle.iscsi_ffi_rules.specs.rules.Calls.{Interface}
use Rattle.iscsi_ffi_rules.specs.rules.Happening.{stops_in}
use Rattle.iscsi_ffi_rules.specs.rules.Sides.{Side}
use Rattle.iscsi_ffi_steps.specs.State.{State}
use Rattle.iscsi_ffi_steps.specs.Walk.{Walk, on_effects}
use Rattle.iscsi_ffi_law.specs.Arrived.{IsStepFit, effects_by, is_late, side_behind}
use Rattle.iscsi_ffi_law.specs.Names.{Name, Note}
use Rattle.iscsi_ffi_law.specs.Stands.{AreRequests}
use Rattle.iscsi_ffi_law.specs.Uses.{count_lists, is_place}
use Rattle.iscsi_ffi_law.proofs.items.Between.{IsBetween, IsFound, IsHeaded, pending_as}
use Rattle.iscsi_ffi_law.proofs.events.Unswept.{unswept_at}
use Rattle.iscsi_ffi_law.proofs.completions.DonePhases.{runs_at}
use Rattle.iscsi_ffi_law.proofs.completions.DoneShape.{enables, tickets_of}
use Rattle.iscsi_ffi_law.proofs.aborts.Leaving.{effects_left, enters_left, executed_left, leave_effects, leaving_left, left_effects, left_item, tickets_left_by}
use Rattle.iscsi_ffi_law.proofs.aborts.LeavingBox.{IsLeavingPart, leaves_item, leaves_runs, leaving_part, left_box}
use Rattle.iscsi_ffi_law.proofs.aborts.LeavingCommands.{ended_by, gone_by}
use Rattle.iscsi_ffi_law.proofs.aborts.LeavingRequests.{AreLeaving}
use Rattle.iscsi_ffi_law.proofs.items.Plain.{send_effects, void_effects}
use Rattle.iscsi_ffi_law.proofs.sending.Queued.{AllQueued}
use Rattle.iscsi_ffi_law.proofs.requests.Releases.{endings}
use Rattle.iscsi_ffi_law.proofs.items.TailOver.{voids_past}
use Rattle.iscsi_ffi_law.proofs.items.TailSends.{over_still}
use Rattle.iscsi_ffi_law.proofs.items.Walking.{walk_at, walk_in}

-- ---- the item

module _ (i : Interface) (names : List Name) (notes : List Note) (s : State) (r : Side) (own : Option ℕ) (xs : List (Option ℕ)) (k : IsBetween i names notes s r own xs) (start : Start) (a : Arrival) (void : Option ℕ) (cs : List RulesCommand) (reply : Option Reply)
    (fit : IsStepFit i r (left_item start a void cs reply)) (distinct : are_distinct i.outbox.session.conns ≡ true) (sound : IsSound i.outbox (side_behind i r (left_item start a void cs reply)).both.box)
    (h : IsHeaded i names notes s r own xs (left_item start a void cs reply) start a) (each : (p : RulesCommand → Bool) → count_by p cs ≤ count_by p (live r.both.trace)) where
  abbrev pub item : List Mark
  item = left_item start a void cs reply

  abbrev pub sn : ℕ
  sn = stat_sn_of i.outbox.session r.both.trace (connection_of a.request)

  abbrev pub ns : List RulesCommand
  ns = newly_enabled i.outbox.session r.both.trace (left_item start a void cs reply)

  abbrev pub es : List Effect
  es = left_effects sn start a void cs reply ns

  pub effects_are : effects_by i r (left_item start a void cs reply) ≡ es
  effects_are = effects_left i.outbox.session r.both.trace start a void cs reply

  pub part : IsLeavingPart es a.request cs ns (option_map (λ (x : Reply). (connection_of a.request, x)) reply)
  part = leaving_part sn start a void cs reply ns

  abbrev pub dropped : Box
  dropped = left_box r.both.box a.request cs

  pub box_is : after_item i.outbox r.both.box (effects_by i r (left_item start a void cs reply)) ≡ settle i.outbox (in_phase phase_enabled (tickets_of ns) (send i.outbox (Some (a.request)) [] [] [] (option_map (λ (x : Reply). (connection_of a.request, x)) reply) dropped))
  box_is = ap (after_item i.outbox r.both.box) effects_are ∙ leaves_item i.outbox r.both.box a.request cs ns (option_map (λ (x : Reply). (connection_of a.request, x)) reply) es part

  abbrev pub outbox' : OutboxState
  outbox' = steps_after_item (effects_by i r (left_item start a void cs reply)) s.outbox

  leaves_by : LeavesBy i names notes s r own xs (left_item start a void cs reply) a cs (Some (h.place)) h.by h.held h.functions []
  leaves_by = record {
    none_enters = enters_left start a void cs reply;
    left_by = λ n. tickets_left_by n start a void cs reply;
    leaving_is = leaving_left start a void cs reply;
    executed = executed_left start a void cs reply;
    others_run = λ n other. ap (λ (b : Box). list_any (runs_at n) b.tasks) (ap (after_item i.outbox r.both.box) effects_are) ∙ leaves_runs i.outbox r.both.box a.request cs ns (option_map (λ (x : Reply). (connection_of a.request, x)) reply) es part n other;
    named = h.named;
    why = h.why;
    out = subst (λ (ys : List (Option ℕ)). IsOut i names notes s r own xs (item ∷ r.both.trace) (Some (h.place)) ys h.held h.functions) (sym (append-nil xs)) (record {
      long = h.long;
      long_functions = h.long_functions;
      functions_are = h.functions_are;
      uses = h.uses;
      fewer = (let few = h.fewer in omega (arith, few));
      requests = h.requests;
      noted = h.noted;
      slots = h.slots;
      distinct = h.distinct;
      over = over_still i names notes s r own xs k item start a h;
    });
  }

  pub those : AreLeaving names s r (left_item start a void cs reply) outbox' cs
  those = those_by i names notes s r own xs k item a cs (Some (h.place)) h.by h.held h.functions [] fit.fit fit.leaves distinct sound leaves_by each

  abbrev pub s2 : State
  s2 = record s { held = h.held; functions = h.functions; commands = record s.commands { items = map (gone_by cs) s.commands.items }; outbox = outbox' }

  abbrev pub r2 : Side
  r2 = record r { both = record r.both { trace = item ∷ r.both.trace; box = dropped } }

  pub requests2 : AreRequests names notes (λ q. one (h.place == q) + endings (xs ++ ended_by names r cs) q + unswept_at k.unswept q) k.gone s2 r2
  requests2 = pending_as names notes (λ q. one (h.place == q) + (endings (xs ++ ended_by names r cs) q + endings [] q) + unswept_at k.unswept q) (λ q. one (h.place == q) + endings (xs ++ ended_by names r cs) q + unswept_at k.unswept q) k.gone s2 r2 (λ q. omega arith)
      (requests_by i names notes s r own xs k item a cs (Some (h.place)) h.by h.held h.functions [] fit.fit fit.leaves distinct sound leaves_by each)

  pub queued2 : AllQueued names (item ∷ r.both.trace) r.answers (λ q. of_conn q s.replies.waiting) (λ q. length (of_conn q s.noted.handed)) dropped.links r.both.box.undue
  queued2 = queued_by i names notes s r own xs k item a cs (Some (h.place)) h.by h.held h.functions [] fit.fit fit.leaves distinct sound leaves_by each

  -- uses that have ended are of requests that aren't held
  pub over2 : (q : ℕ) → 1 ≤ endings (xs ++ ended_by names r cs) q → count_by (is_place q) h.held.places + count_lists (λ (f : WaitingFunction). f.request == q) h.functions.waiting ≡ 0
  over2 q some = over_by i names notes s r own xs k item a cs (Some (h.place)) h.by h.held h.functions [] fit.fit fit.leaves distinct sound leaves_by each q (omega (arith, some))

  pub few2 : (length (xs ++ ended_by names r cs) + count_by is_live (map (gone_by cs) s.commands.items) ≤ length xs + count_by is_live s.commands.items)
      × (length (stops_in r (left_item start a void cs reply)) + count_by is_going (map (gone_by cs) s.commands.items) ≤ count_by is_going s.commands.items)
  few2 = few_by i names notes s r own xs k item a cs (Some (h.place)) h.by h.held h.functions [] fit.fit fit.leaves distinct sound leaves_by each

  -- ---- the walk up to there

  abbrev pub s1' : State
  s1' = record s { held = h.held; functions = h.functions; commands = record s.commands { items = map (gone_by cs) s.commands.items } }

  abbrev pub last : List Effect
  last = send_effects (connection_of a.request) sn reply ++ enables ns

  pub leaves_past : (o : OutboxState) → IsFound i o → (acts : List Action) (first : Bool) → (first && is_late r.both.event item) ≡ false → length acts + length (stops_in r item) ≤ s.room → (rest : List Effect)
      → on_effects first (effects_by i r (left_item start a void cs reply) ++ rest) (walk_at o s acts xs own r.both.box.sent)
      ≡ on_effects false (last ++ rest) (walk_in o s1' (acts ++ stops_in r (left_item start a void cs reply)) (xs ++ ended_by names r cs) (Some (h.place)) None (Some (h.by)) r.both.box.sent)
  leaves_past o limits acts first late room rest =
      ap (λ fs. on_effects first (fs ++ rest) (walk_at o s acts xs own r.both.box.sent)) effects_are
      ∙ ap (λ w. on_effects false ((void_effects void ++ (leave_effects cs ++ last)) ++ rest) w) (h.walk o limits acts first r.both.box.sent late)
      ∙ ap (λ fs. on_effects false fs after_head) (append_assoc (void_effects void) (leave_effects cs ++ last) rest ∙ ap (λ fs. void_effects void ++ fs) (append_assoc (leave_effects cs) last rest))
      ∙ voids_past void (leave_effects cs ++ (last ++ rest)) after_head
      ∙ leaves_on i names notes s r own xs k item a cs (Some (h.place)) h.by h.held h.functions [] fit.fit fit.leaves distinct sound leaves_by each h.held h.functions o acts room (last ++ rest)
    where
      after_head : Walk
      after_head = walk_in o (record s { held = h.held; functions = h.functions }) acts xs (Some (h.place)) None (Some (h.by)) r.both.box.sent
