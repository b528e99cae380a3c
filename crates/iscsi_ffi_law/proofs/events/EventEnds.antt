-- An event by the steps as by the rules, from the end of its items to that of the call.
use Rattle.std.proofs.Common.{◌≡◌, ℕ, ◌+◌, ◌-◌, ◌*◌, ◌<◌, ◌≤◌, ◌==◌, ◌&&◌, ◌||◌, ◌^◌, not, cond, Bool, true, false, List, [], ◌∷◌, ◌++◌, length, map, count_by, filter, filter_map, Option, None, refl, ap, sym, subst, ◌∙◌, arith, lt-ltb, eq-eqb, length-append, ◌⊎◌, ⊎_elim, inl, inr}
use Rattle.iscsi_ffi_law.proofs.requests.KeptCounts.{held_or_waiting}
use Rattle.std.specs.List.{flat_map, list_all, list_any}
use Rattle.std.proofs.lemmas.Bool.{eqb-true, false≢true, not-true}
use Rattle.std.proofs.lemmas.List.{length-map}
use Rattle.iscsi_wire.specs.Serial.{lift}
use Rattle.iscsi_rules.specs.declared.effect.Effect.{Effect}
use Rattle.iscsi_rules.specs.declared.effect.Numbers.{Numbers}
use Rattle.iscsi_rules.specs.declared.event.Event.{Event}
use Rattle.iscsi_rules.specs.promises.Order.{in_parts}
use Rattle.iscsi_rules.specs.rules.Agenda.{items_of}
use Rattle.iscsi_rules.specs.rules.Run.{effects_of, numbers_of}
use Rattle.iscsi_rules.specs.rules.Trace.{Command as RulesCommand, Mark, Trace, after_items, entered, has, leaves_ticket, live, was_free}
use Rattle.iscsi_rules.proofs.general.CountLemmas.{count-weaker}
use Rattle.iscsi_rules.proofs.general.ElementLemmas.{In, in-filter}
use Rattle.iscsi_rules.proofs.general.ListLemmas.{filter-shorter}
use Rattle.iscsi_arrivals.specs.Standing.{StandsFor}
use Rattle.iscsi_outbox_rules.specs.promises.Room.{places}
use Rattle.iscsi_outbox_rules.specs.rules.Boxes.{Box, Task}
use Rattle.iscsi_outbox_rules.specs.rules.Items.{after_event, after_items as box_after_items, phase_told, ticket_enabled}
use Rattle.iscsi_outbox_rules.specs.rules.Words.{contains, replies_waiting}
use Rattle.iscsi_outbox_rules.proofs.closes.ClosedParts.{effects_each}
use Rattle.iscsi_outbox_law.specs.private.Commands.{link_in}
use Rattle.iscsi_outbox_law.specs.private.Sound.{IsSound, NoneIsFresh}
use Rattle.iscsi_outbox_law.specs.private.Stands.{Stands as OutboxStands}
use Rattle.iscsi_outbox_law.proofs.general.PairLemmas.{each-weaken, pairs-length, pairs-weaken}
use Rattle.iscsi_outbox_law.proofs.commands.TurningEach.{event_stands}
use Rattle.iscsi_outbox_law.proofs.commands.TurningFresh.{event_fresh}
use Rattle.iscsi_outbox_law.proofs.commands.TurningLast.{tell_last}
use Rattle.iscsi_outbox_steps.specs.State.{Limits, State as OutboxState}
use Rattle.iscsi_outbox_steps.specs.Steps.{after_items as steps_after_items, is_running_ticket, taken}
use Rattle.iscsi_requests.specs.Conns.{count_all, of_conn}
use Rattle.iscsi_ffi_commands.specs.declared.command.Command.{Command}
use Rattle.iscsi_ffi_commands.specs.declared.command.Stage.{Stage}
use Rattle.iscsi_ffi_commands.specs.declared.command.Stage.TheVariants.{Cleared, Entered, Marked, Over, Started}
use Rattle.iscsi_ffi_commands.specs.Commands.{has_ticket, is_going, is_live}
use Rattle.iscsi_ffi_rules.specs.declared.action.Action.{Action}
use Rattle.iscsi_ffi_rules.specs.rules.Calls.{Interface}
use Rattle.iscsi_ffi_rules.specs.rules.Happening.{answers_in, resets_in as resets_there, stepped, stops_in}
use Rattle.iscsi_ffi_rules.specs.rules.Needs.{left_to_write}
use Rattle.iscsi_ffi_rules.specs.rules.Run.{cids}
use Rattle.iscsi_ffi_rules.specs.rules.Sides.{Side}
use Rattle.iscsi_ffi_steps.specs.State.{State}
use Rattle.iscsi_ffi_steps.specs.Steps.{reset_in, resets_in, start_each, takes, walk_from}
use Rattle.iscsi_ffi_steps.specs.Walk.{Doing, Walk, in_state, on_effects, sweep, tell_all, touched_by}
use Rattle.iscsi_ffi_law.specs.Arrived.{starts_late}
use Rattle.iscsi_ffi_law.specs.Done.{IsRegular}
use Rattle.iscsi_ffi_law.specs.Fit.{IsFit}
use Rattle.iscsi_ffi_law.specs.Names.{Name, Note}
use Rattle.iscsi_ffi_law.specs.Parts.{IsAbout, IsCommand, IsConn, IsNote, IsRequest, is_named}
use Rattle.iscsi_ffi_law.specs.Stands.{AreRequests, AreSizes}
use Rattle.iscsi_ffi_law.specs.Uses.{is_used, uses_of}
use Rattle.iscsi_ffi_law.proofs.items.Between.{IsBetween, IsFound, pending_as, pending_of}
use Rattle.iscsi_ffi_law.proofs.requests.Core.{Core, all_released_core}
use Rattle.iscsi_ffi_law.proofs.completions.DonePhases.{runs_at, told_runs}
use Rattle.iscsi_ffi_law.proofs.completions.DoneShape.{tickets_of}
use Rattle.iscsi_ffi_law.proofs.events.EventNews.{entered_by, live_news, news_entered}
use Rattle.iscsi_ffi_law.proofs.events.EventGoes.{box_parts, outbox_first, outbox_parts, parts}
use Rattle.iscsi_ffi_law.proofs.events.EventRules.{admits_alone, all_enabled, all_resets, few_resets, news_of, side_is}
use Rattle.iscsi_ffi_law.proofs.calls.Finish.{as_many_links}
use Rattle.iscsi_ffi_law.proofs.own_pdus.Flags.{is_used_place}
use Rattle.iscsi_ffi_law.proofs.items.ItemsGo.{FirstGo, side_after}
use Rattle.iscsi_ffi_law.proofs.general.Members.{Paired, find_in, in_counted, pairs_in}
use Rattle.iscsi_ffi_law.proofs.calls.Moved.{IsMoved, commands_known, requests_moved, run_same}
use Rattle.iscsi_ffi_law.proofs.requests.NameLemmas.{found_named}
use Rattle.iscsi_ffi_law.proofs.calls.EndsWith.{told_all}
use Rattle.iscsi_ffi_law.proofs.requests.Releases.{all_released, endings, releases}
use Rattle.iscsi_ffi_law.proofs.requests.Releasing.{Released}
use Rattle.iscsi_ffi_law.proofs.sending.Sources.{cookie_named}
use Rattle.iscsi_ffi_law.proofs.commands.Staging.{HaveCommands}
use Rattle.iscsi_ffi_law.proofs.commands.Starting.{Starts, all_start}
use Rattle.iscsi_ffi_law.proofs.commands.StartsAfter.{starts_released}
use Rattle.iscsi_ffi_law.proofs.commands.StartsOver.{alive_start}
use Rattle.iscsi_ffi_law.proofs.events.Sweeping.{all_cleared, all_gone, all_uses, few_uses, none_left, swept, uses_end}
use Rattle.iscsi_ffi_law.proofs.events.Unswept.{Unswept, joined_nothing, none_at, none_unswept, nothing_counted, put_state, with_noted}
use Rattle.iscsi_ffi_law.proofs.items.Framing.{touched_as, touched_in}
use Rattle.iscsi_ffi_law.proofs.logouts.Dropping.{endings_append, releases_append}
use Rattle.iscsi_requests.specs.declared.replies.WaitingReply.{WaitingReply}
use Rattle.iscsi_outbox_rules.specs.rules.Queues.{takes_more}
use Rattle.iscsi_ffi_law.proofs.items.Walking.{core_at, walk_at}

-- ---- commands are told to start

pub requests_started : (names : List Name) (notes : List Note) (pending : ℕ → ℕ) (gone : ℕ → List (Option ℕ)) (s : State) (r : Side) (event : ℕ) (told : List ℕ) (before items : List Command) → AreRequests names notes pending gone s r → before ≡ s.commands.items → HaveCommands names (record r { both = record r.both { event = event }; told = told }) s.outbox before items
    → AreRequests names notes pending gone (record s { commands = record s.commands { items = items } }) (record r { both = record r.both { event = event }; told = told })
requests_started names notes pending gone s r event told before items a same have = record {
  asked = a.asked;
  noted = a.noted;
  apart = a.apart;
  kept = a.kept;
  counted = a.counted;
  uses = λ p. let used = have.used p in let more = ap (λ (xs : List Command). count_by (λ (x : Command). x.request == p && is_used s.outbox x) xs) same in omega (arith, a.uses p, used, more);
  named = each-weaken (IsRequest s r.both.trace) (IsRequest (record s { commands = record s.commands { items = items } }) r.both.trace) names (λ n k. record { held = k.held; waiting = k.waiting }) a.named;
  noted_apart = each-weaken (IsNote s r.both.box.links) (IsNote (record s { commands = record s.commands { items = items } }) r.both.box.links) notes (λ n k. record { held = k.held; waiting = k.waiting; home = k.home }) a.noted_apart;
  tickets = a.tickets;
  commands = have.commands;
  live_named = a.live_named;
  one_use = have.one_use;
  numbered = have.numbered;
  answers = a.answers;
  once = a.once;
  last = a.last;
  conns = λ k within.
      let x : IsConn names notes (gone k) s r k (link_in r.both.box.links k) = a.conns k within in
      record {
        replies = x.replies;
        queued = x.queued;
        written = pairs-weaken (IsAbout names notes r (link_in r.both.box.links k).conn) (IsAbout names notes (record r { both = record r.both { event = event }; told = told }) (link_in r.both.box.links k).conn) (of_conn k s.unwritten.handed) (left_to_write (link_in r.both.box.links k)) (λ y h e. record { named = e.named; noted = e.noted }) x.written;
        noted = x.noted;
      };
  undue = a.undue;
}

-- what is asked of an event
pub record IsEventOf (i : Interface) (r : Side) (e : Event) : Type 0 where
  pub fit : IsFit i r.both.box (after_event i.outbox r.both.box (effects_of i.outbox.session r.both.trace (items_of i.outbox.session r.both.event r.both.trace e)) (numbers_of i.outbox.session (after_items (items_of i.outbox.session r.both.event r.both.trace e) r.both.trace)))
  pub stale : NoneIsFresh r.both.box
  pub events : r.both.event < i.outbox.session.events
  pub sent : r.both.box.sent < 2 ^ 64 - 1
  pub short : length (items_of i.outbox.session r.both.event r.both.trace e) ≤ places i.outbox
  pub enabled : length (filter_map ticket_enabled (effects_of i.outbox.session r.both.trace (items_of i.outbox.session r.both.event r.both.trace e))) ≤ places i.outbox
  pub prompt : starts_late r.both.event (items_of i.outbox.session r.both.event r.both.trace e) ≡ false
  pub few : length (live (stepped i r e).both.trace) ≤ places i.outbox
  pub regular : IsRegular i (stepped i r e)
  -- those that enter weren't told to start
  pub untold : (c : RulesCommand) → In c (entered_by (items_of i.outbox.session r.both.event r.both.trace e)) → contains r.told c.ticket ≡ false
  pub alone : list_all admits_alone (items_of i.outbox.session r.both.event r.both.trace e) ≡ true
  pub behind : IsSound i.outbox (side_after i r (items_of i.outbox.session r.both.event r.both.trace e)).both.box

-- what is known of commands, and of what waits, before it; `before`: the uses that have ended already
pub record AreBegun (i : Interface) (s : State) (r : Side) (before : List (Option ℕ)) : Type 0 where
  pub waits : count_all s.replies.waiting ≤ replies_waiting r.both.box
  pub replies_room : s.replies.room ≡ places i.outbox
  pub rooms : length before + (count_all s.replies.waiting + count_all s.noted.handed) + 4 * places i.outbox ≤ s.room
  pub few : count_by is_live s.commands.items ≤ places i.outbox
  pub kept : held_or_waiting s.held s.functions ≤ places i.outbox
  -- those that were told to start were free
  pub freed : (c : RulesCommand) → In c (entered r.both.trace) → has (leaves_ticket c.ticket) r.both.trace ≡ false → contains r.told c.ticket ≡ true → was_free c r.both.trace ≡ true

going_live : (c : Command) → is_going c ≡ true → is_live c ≡ true
going_live c h = by_stage c.stage h
  where
    by_stage : (x : Stage) → elim x [ Entered ↦ false | Marked ↦ false | Started ↦ true | Cleared ↦ true | Over ↦ false ] ≡ true → elim x [ Entered ↦ true | Marked ↦ true | Started ↦ true | Cleared ↦ true | Over ↦ false ] ≡ true
    by_stage Entered k = refl
    by_stage Marked k = refl
    by_stage Started k = refl
    by_stage Cleared k = refl
    by_stage Over k = absurd (false≢true k)

module _ (i : Interface) (names : List Name) (notes : List Note) (s : State) (r : Side) (own : Option ℕ) (before : List (Option ℕ)) (e : Event) (fit : IsEventOf i r e) (first : AreBegun i s r before) (k : OutboxStands i.outbox s.outbox r.both.box)
    (go : FirstGo i names notes (none_unswept s) (record s { outbox = outbox_first i r e (parts i r e).lead s.outbox }) r own before (items_of i.outbox.session r.both.event r.both.trace e)) where
  abbrev pub items : List (List Mark)
  items = items_of i.outbox.session r.both.event r.both.trace e

  abbrev pub effects : List Effect
  effects = effects_of i.outbox.session r.both.trace (items_of i.outbox.session r.both.event r.both.trace e)

  abbrev pub each : List (List Effect)
  each = effects_each i.outbox.session r.both.trace (items_of i.outbox.session r.both.event r.both.trace e)

  abbrev pub t' : Trace
  t' = after_items (items_of i.outbox.session r.both.event r.both.trace e) r.both.trace

  abbrev pub numbers : Numbers
  numbers = numbers_of i.outbox.session (after_items (items_of i.outbox.session r.both.event r.both.trace e) r.both.trace)

  abbrev pub out' : OutboxState
  out' = taken effects numbers s.outbox

  abbrev pub box' : Box
  box' = after_event i.outbox r.both.box effects numbers

  abbrev pub answers' : List ℕ
  answers' = r.answers ++ flat_map (answers_in r.both.event) items

  -- the side behind the items
  abbrev pub side_n : Side
  side_n = record r { both = record r.both { trace = t'; box = box_after_items i.outbox r.both.box each }; answers = answers' }

  pub both_n : (k' : IsBetween i names notes go.state side_n None go.ended) × (k'.unswept ≡ go.between.unswept)
  both_n = subst (λ (x : Side). (k' : IsBetween i names notes go.state x None go.ended) × (k'.unswept ≡ go.between.unswept)) (side_is i r items) (go.between, refl)

  abbrev pub between_n : IsBetween i names notes go.state side_n None go.ended
  between_n = both_n.0

  same_unswept : go.between.unswept ≡ both_n.0.unswept
  same_unswept = sym both_n.1

  sound_n : IsSound i.outbox (box_after_items i.outbox r.both.box each)
  sound_n = subst (λ (x : Side). IsSound i.outbox x.both.box) (side_is i r items) fit.behind

  -- ---- the outbox

  pub same_box : box_after_items i.outbox r.both.box (in_parts effects) ≡ box_after_items i.outbox r.both.box each
  same_box = box_parts i r e fit.fit.sound

  same_out : go.state.outbox ≡ steps_after_items (in_parts effects) s.outbox
  same_out = go.outbox ∙ sym (outbox_parts i r e s.outbox)

  stands_parts : OutboxStands i.outbox (steps_after_items (in_parts effects) s.outbox) (box_after_items i.outbox r.both.box (in_parts effects))
  stands_parts = subst (λ (o : OutboxState). OutboxStands i.outbox o (box_after_items i.outbox r.both.box (in_parts effects))) same_out (subst (OutboxStands i.outbox go.state.outbox) (sym same_box) between_n.outbox)

  pub stands' : OutboxStands i.outbox out' box'
  stands' = event_stands i.outbox s.outbox r.both.box effects numbers stands_parts (event_fresh i.outbox r.both.box effects fit.stale) fit.fit.short.max

  pub tracked' : out'.tracked.last ≤ length box'.tasks
  tracked' =
      let told = tell_last (filter_map ticket_enabled effects) (steps_after_items (in_parts effects) s.outbox) in
      let same = ap (λ (o : OutboxState). o.tracked.last) same_out in
      let before = between_n.counts.tracked in
      let box = ap (λ (b : Box). length b.tasks) same_box in
      let long = length-map (box_after_items i.outbox r.both.box (in_parts effects)).tasks (λ (t : Task). record t { phase = phase_told t.phase }) in
      omega (arith, told, same, before, box, long)

  runs : (ticket : ℕ) → is_running_ticket ticket out' ≡ is_running_ticket ticket go.state.outbox
  runs = run_same i go.state side_n out' box' between_n.outbox sound_n stands' fit.fit.sound_after fit.fit.distinct
      (λ ticket. told_runs ticket (box_after_items i.outbox r.both.box (in_parts effects)).tasks ∙ ap (λ (b : Box). list_any (runs_at ticket) b.tasks) same_box)

  abbrev over : Box → Box
  over b = record b { tasks = map (λ (t : Task). record t { phase = phase_told t.phase }) b.tasks; exp = numbers.exp; max = lift b.max numbers.max }

  moved : IsMoved names go.state side_n box'
  moved = subst (λ (b : Box). IsMoved names go.state side_n (over b)) (sym same_box)
      (record { long = refl; sent = refl; queued = λ q within. (between_n.requests.conns q within).queued; undue = between_n.requests.undue; conn = λ q within. refl; left = λ q within. refl })

  abbrev pub state2 : State
  state2 = record go.state { outbox = out' }

  abbrev pub side_e : Side
  side_e = record r { both = record r.both { trace = t'; box = box' }; answers = answers' }

  abbrev u : Unswept
  u = between_n.unswept

  requests1 : AreRequests names notes (pending_of u None go.ended) between_n.gone state2 side_e
  requests1 = requests_moved names notes (pending_of u None go.ended) between_n.gone go.state side_n between_n.requests out' box' runs moved

  -- ---- what is swept

  pub found' : IsFound i out'
  found' = record { limits = stands'.sizes.limits; many = pairs-length StandsFor out'.links box'.links stands'.links.each ∙ as_many_links i state2 side_e stands' }

  abbrev swept_places : List ℕ
  swept_places = flat_map (touched_in out') effects

  -- all that is to be swept is there
  each_there : (p : ℕ) → ((of_conn p u.replies ≡ []) × (of_conn p u.noted ≡ [])) ⊎ In p (flat_map (touched_in out') effects)
  each_there p =
      subst (λ (x : Unswept). ((of_conn p x.replies ≡ []) × (of_conn p x.noted ≡ [])) ⊎ In p (flat_map (touched_in out') effects)) same_unswept
      (⊎_elim (λ same. inl (same.0 ∙ none_at s.replies.waiting p, same.1 ∙ none_at s.noted.handed p)) (λ there. inr there) (go.touched out' found' p))

  -- the uses that have ended, with those of what is swept
  abbrev pub all_ended : List (Option ℕ)
  all_ended = go.ended ++ all_uses (flat_map (touched_in out') effects) between_n.unswept

  pub requests2 : AreRequests names notes (endings all_ended) between_n.gone state2 side_e
  requests2 = pending_as names notes (pending_of u None go.ended) (endings all_ended) between_n.gone state2 side_e
      (λ p.
      let gone = none_left (all_cleared swept_places u) (λ q. all_gone swept_places u q (each_there q)) p in
      let uses = uses_end swept_places u p in
      omega (arith, gone, uses, endings_append go.ended (all_uses swept_places u) p)) requests1

  -- ---- what starts

  -- what it enabled, and of that what is live
  abbrev all_news : List RulesCommand
  all_news = news_of i.outbox.session r.both.trace items

  abbrev pub ns : List RulesCommand
  ns = live_news i.outbox.session r.both.trace items

  abbrev pub side2 : Side
  side2 = record r { both = record { event = r.both.event + 1; trace = t'; box = box' }; answers = answers' }

  abbrev pub resets : List Action
  resets = flat_map (resets_there i.outbox) items

  abbrev pub stops : List Action
  stops = flat_map (stops_in r) items

  abbrev pub d3 : Doing
  d3 = record { state = state2; actions = stops ++ resets; forgets = [] }

  pub many : length ns ≤ places i.outbox
  many =
      let same = ap length (all_enabled i.outbox.session r.both.trace items) in
      let long = length-map all_news (λ (c : RulesCommand). c.ticket) in
      let fewer = filter-shorter (λ (c : RulesCommand). not (has (leaves_ticket c.ticket) t')) all_news in
      let few = fit.enabled in
      omega (arith, same, long, fewer, few)

  pub wide : 21 * (places i.outbox) + 6 * length (cids i) ≤ 3 * go.state.room
  wide = let conns = length-map i.outbox.session.conns (λ (x : ℕ × ℕ). x.0) in let all = between_n.sizes.room in omega (arith, all, conns)

  pub few_reset : length resets ≤ places i.outbox
  few_reset = let few = few_resets i.outbox items in let short = fit.short in omega (arith, few, short)

  -- those that stop were live
  pub few_stopped : length stops ≤ places i.outbox
  few_stopped =
      let stopped = go.stops in
      let fewer = count-weaker is_going is_live s.commands.items going_live in
      let few = first.few in
      omega (arith, stopped, fewer, few)

  few_told : length (stops ++ resets) ≤ 2 * places i.outbox
  few_told = let long = length-append stops resets in omega (arith, few_reset, few_stopped, long)

  pub few_ended : length all_ended ≤ go.state.room
  few_ended =
      let few = go.few in
      let short = fit.short in
      let lives = first.few in
      let kept = first.kept in
      let waits = go.waits in
      let begun = first.waits in
      let replies_few = go.replies in
      let noted = go.notes_kept in
      let rooms = first.rooms in
      let same = go.room in
      let sweeps = few_uses swept_places u in
      let replies = ap (λ (x : Unswept). count_all x.replies) same_unswept in
      let others = ap (λ (x : Unswept). count_all x.noted) same_unswept in
      omega (arith, few, short, lives, kept, waits, begun, replies_few, noted, rooms, same, sweeps, replies, others, nothing_counted s.replies.waiting, nothing_counted s.noted.handed, length-append go.ended (all_uses swept_places u))

  pub news_are : (x : RulesCommand) → In x ns → In x (entered t') × (has (leaves_ticket x.ticket) t' ≡ false) × (was_free x t' ≡ true)
  news_are x at =
      let y = in-filter (λ (c : RulesCommand). not (has (leaves_ticket c.ticket) t')) all_news x at in
      let z = news_entered i.outbox.session items r.both.trace x y.0 in
      (z.0, not-true (has (leaves_ticket x.ticket) t') y.1, z.1)

  -- of all that it enabled just those that are live start
  alive_starts : start_each (tickets_of all_news) d3 ≡ start_each (tickets_of ns) d3
  alive_starts = alive_start (λ n. not (has (leaves_ticket n) t')) all_news d3 (λ x there dead c found.
      let at = find_in (has_ticket x.ticket) state2.commands.items c found in
      let d : Paired (IsCommand names side_e) c (filter (is_named names) (entered t')) = pairs_in (IsCommand names side_e) state2.commands.items (filter (is_named names) (entered t')) c at.0 requests2.commands in
      d.pair.live ∙ ap (λ n. not (has (leaves_ticket n) t')) (sym d.pair.ticket ∙ eqb-true c.ticket x.ticket at.1) ∙ dead)

  pub q : Starts names side2 out' state2.commands.items ns d3 (start_each (tickets_of ns) d3)
  q = all_start names out' state2.commands.items ns side2 requests2.tickets requests2.live_named (λ x at. let y = news_are x at in record { there = y.0; lives = y.1; free = y.2 }) d3
      (λ event at named. cookie_named names notes state2.cookies r.asked requests2.apart requests2.kept requests2.counted requests2.asked event at (found_named names event at named))
      (record {
        commands = pairs-weaken (IsCommand names side_e) (IsCommand names side2) state2.commands.items (filter (is_named names) (entered t')) (λ c d h. record { ticket = h.ticket; unit = h.unit; attr = h.attr; request = h.request; live = h.live; going = h.going; marked = h.marked; freed = h.freed }) requests2.commands;
        one_use = requests2.one_use;
        numbered = requests2.numbered;
        used = λ p. refl;
      })
      (omega (arith, few_told, many, wide))
      (let none = ap length between_n.withheld in omega (arith, none, many, wide))

  -- ---- the walk

  abbrev K : Core
  K = core_at go.state go.ended

  abbrev walked_to : Doing
  walked_to = record { state = record (put_state go.between.unswept go.state) { outbox = s.outbox; cookies = K.cookies; commands = K.commands }; actions = stops; forgets = K.forgets }

  sent_is : s.outbox.sent ≡ r.both.box.sent
  sent_is = let e' = k.numbers.sent in let lt = fit.sent in omega (arith, e', lt)

  found : IsFound i s.outbox
  found = record { limits = k.sizes.limits; many = pairs-length StandsFor s.outbox.links r.both.box.links k.links.each ∙ as_many_links i s r k }

  abbrev begins : Doing
  begins = releases before (record { state = s; actions = []; forgets = [] })

  walked : (on_effects true effects (walk_from own begins)).doing ≡ walked_to
  walked =
      ap (λ (d : Doing). (on_effects true effects (record { doing = d; current = None; own = own; by = None; sent = d.state.outbox.sent })).doing) (all_released_core before (record { state = s; actions = []; forgets = [] }))
      ∙ ap (λ n. (on_effects true effects (walk_at s.outbox s0 [] before own n)).doing) sent_is
      ∙ ap (λ (x : State). (on_effects true effects (walk_at s.outbox x [] before own r.both.box.sent)).doing) (sym nothing_put)
      ∙ ap (λ (w : Walk). w.doing) (go.walk s.outbox found [] fit.prompt (let same = go.room in omega (arith, few_stopped, wide, same)) (let waits = first.waits in let replies = go.replies in let room = first.replies_room in omega (arith, waits, replies, room, nothing_counted s.replies.waiting)))
    where
      s0 : State
      s0 = record s { outbox = outbox_first i r e (parts i r e).lead s.outbox }

      -- nothing is to be swept before it
      nothing_put : put_state (none_unswept s) s0 ≡ s0
      nothing_put =
          ap (λ (ls : List (List WaitingReply)). record s0 { replies = record s.replies { waiting = ls }; noted = with_noted (none_unswept s) s.noted }) (joined_nothing s.replies.waiting (none_unswept s).replies (none_at s.replies.waiting))
          ∙ ap (λ (ls : List (List (Option ℕ))). record s0 { noted = record s.noted { handed = ls } }) (joined_nothing s.noted.handed (none_unswept s).noted (none_at s.noted.handed))

  abbrev K2 : Core
  K2 = core_at state2 all_ended

  abbrev taken_in : Doing
  taken_in = record { state = record state2 { cookies = K2.cookies; commands = K2.commands }; actions = stops; forgets = K2.forgets }

  -- the outbox takes it in, and what is to be swept is
  abbrev unswept_in : Doing
  unswept_in = record { state = record (put_state u state2) { cookies = K.cookies; commands = K.commands }; actions = stops; forgets = K.forgets }

  sizes2 : AreSizes i state2
  sizes2 =
      let z = between_n.sizes in
      record { room = z.room; functions = z.functions; replies = z.replies; noted = z.noted; unwritten = z.unwritten; noted_room = z.noted_room; unwritten_room = z.unwritten_room; replies_room = z.replies_room; slots = z.slots; few = z.few }

  places_touched : (es : List Effect) (t : State) → t.outbox ≡ out' → flat_map (touched_by t) es ≡ flat_map (touched_in out') es
  places_touched [] t same = refl
  places_touched (x ∷ es) t same = ap (λ ps. ps ++ flat_map (touched_by t) es) (touched_as t x ∙ ap (λ (o : OutboxState). touched_in o x) same) ∙ ap (λ ps. touched_in out' x ++ ps) (places_touched es t same)

  sweeps : sweep (flat_map (touched_by unswept_in.state) effects) unswept_in ≡ taken_in
  sweeps =
      ap (λ ps. sweep ps unswept_in) (places_touched effects unswept_in.state refl)
      ∙ swept i names notes (endings all_ended) between_n.gone state2 side_e requests2 stands' sizes2 fit.fit.sound_after fit.fit.emptied fit.fit.distinct swept_places u cleared_in between_n.long_replies between_n.long_noted clear_links each_there refl
      ∙ ap (releases (all_uses swept_places u)) (sym (all_released_core go.ended (record { state = state2; actions = stops; forgets = [] })))
      ∙ sym (releases_append go.ended (all_uses swept_places u) (record { state = state2; actions = stops; forgets = [] }))
      ∙ all_released_core all_ended (record { state = state2; actions = stops; forgets = [] })
    where
      cleared_in : Doing
      cleared_in = record { state = record state2 { cookies = K.cookies; commands = K.commands }; actions = stops; forgets = K.forgets }

      clear_links : (p : ℕ) → p < length box'.links → takes_more (link_in box'.links p) ≡ true → (of_conn p u.replies ≡ []) × (of_conn p u.noted ≡ [])
      clear_links = subst (λ (b : Box). (p : ℕ) → p < length b.links → takes_more (link_in b.links p) ≡ true → (of_conn p u.replies ≡ []) × (of_conn p u.noted ≡ [])) (sym same_box) between_n.clear

  resets_are : resets_in taken_in.state effects ≡ resets
  resets_are =
      ap (λ (l : Limits). cond l.shared (flat_map (reset_in l.units) (in_parts effects)) []) stands'.sizes.limits
      ∙ ap (λ ps. cond i.outbox.shared (flat_map (reset_in i.outbox.session.units) ps) []) (parts i r e).are
      ∙ by_lead (parts i r e).lead ∙ all_resets i.outbox r.both.trace items fit.alone
    where
      by_lead : (v : Bool) → cond i.outbox.shared (flat_map (reset_in i.outbox.session.units) (cond v ([] ∷ each) each)) [] ≡ cond i.outbox.shared (flat_map (reset_in i.outbox.session.units) each) []
      by_lead true = refl
      by_lead false = refl

  released : Released state2 (stops ++ resets) (releases all_ended d3)
  released = all_released state2 (stops ++ resets) requests2.counted (commands_known names notes (endings all_ended) between_n.gone state2 side_e requests2) all_ended few_ended requests2.uses

  live_used : (c : Command) → In c state2.commands.items → is_live c ≡ true → is_used_place state2 c.request ≡ true
  live_used c there lives =
      let some : 1 ≤ count_by (λ (x : Command). x.request == c.request && is_used state2.outbox x) state2.commands.items
      = in_counted (λ (x : Command). x.request == c.request && is_used state2.outbox x) state2.commands.items c there (ap (λ v. v && is_used state2.outbox c) (eq-eqb c.request c.request refl) ∙ ap (λ v. v || is_running_ticket c.ticket state2.outbox) lives) in
      lt-ltb 0 (uses_of c.request state2) (omega (arith, some))

  pub takes_is : takes own (record { numbers = numbers; effects = effects }) (releases before (record { state = s; actions = []; forgets = [] })) ≡ releases all_ended (start_each (tickets_of ns) d3)
  takes_is =
      ap behind walked
      ∙ ap from_swept (ap (λ (x : Unswept). swept_in (unswept_with x)) same_unswept ∙ sweeps)
      ∙ ap (λ told. start_each (filter_map ticket_enabled effects) (tell_all told taken_in)) resets_are
      ∙ ap (start_each (filter_map ticket_enabled effects)) (told_all resets taken_in (let long = length-append stops resets in omega (arith, few_told, wide, long)))
      ∙ ap (λ ks. start_each ks (record taken_in { actions = stops ++ resets })) (all_enabled i.outbox.session r.both.trace items)
      ∙ ap (start_each (tickets_of all_news)) (sym (all_released_core all_ended d3))
      ∙ starts_released state2 (stops ++ resets) all_ended requests2.counted released (tickets_of all_news) live_used (commands_known names notes (endings all_ended) between_n.gone state2 side_e requests2) requests2.numbered
      (ap (λ (d : Doing). d.state.cookies) (alive_starts ∙ q.is)) (ap (λ (d : Doing). d.state.room) (alive_starts ∙ q.is)) (ap (λ (d : Doing). d.forgets) (alive_starts ∙ q.is))
      ∙ ap (releases all_ended) alive_starts
    where
      swept_in : Doing → Doing
      swept_in d' = sweep (flat_map (touched_by d'.state) effects) d'

      from_swept : Doing → Doing
      from_swept swept = start_each (filter_map ticket_enabled effects) (tell_all (resets_in swept.state effects) swept)

      behind : Doing → Doing
      behind d0 =
          let d' = in_state (λ t. record t { outbox = taken effects numbers t.outbox }) d0 in
          from_swept (swept_in d')

      unswept_with : Unswept → Doing
      unswept_with x = record { state = record (put_state x state2) { cookies = K.cookies; commands = K.commands }; actions = stops; forgets = K.forgets }
