-- From between two items of an event to between the next two: the outbox, and what is asked of all that is kept.
use Rattle.std.proofs.Common.{◌≡◌, ℕ, ◌+◌, ◌<◌, ◌≤◌, ◌==◌, ◌&&◌, Bool, true, false, List, [], ◌++◌, ◌⊎◌, inl, length, count_by, Option, None, ap, sym, subst, ◌∙◌, arith}
use Rattle.iscsi_ffi_law.proofs.requests.KeptCounts.{held_or_waiting}
use Rattle.std.specs.List.{filter_map, flat_map, position}
use Rattle.std.proofs.lemmas.List.{append-nil, length-map}
use Rattle.iscsi_rules.specs.declared.effect.Effect.{Effect}
use Rattle.iscsi_rules.specs.rules.Settings.{are_distinct}
use Rattle.iscsi_rules.specs.rules.Trace.{Mark}
use Rattle.iscsi_outbox_rules.specs.rules.Boxes.{Box, Link}
use Rattle.iscsi_outbox_rules.specs.rules.Calls.{Opening}
use Rattle.iscsi_outbox_rules.specs.rules.Items.{after_item, reply_sent}
use Rattle.iscsi_outbox_rules.specs.rules.Words.{is_open, is_running}
use Rattle.iscsi_outbox_rules.specs.rules.Queues.{takes_more}
use Rattle.iscsi_outbox_law.specs.private.Commands.{link_in}
use Rattle.iscsi_ffi_law.proofs.outbox_invariants.FitLinks.{IsCloseRule, Moves, moved_item}
use Rattle.iscsi_ffi_law.proofs.sending.Queued.{link_map}
use Rattle.iscsi_outbox_law.specs.private.Sound.{IsSound}
use Rattle.iscsi_outbox_law.specs.private.Stands.{Stands as OutboxStands}
use Rattle.iscsi_outbox_law.proofs.items.TakesItem.{item_stands}
use Rattle.iscsi_outbox_law.proofs.commands.TurningCount.{item_last, newest_item}
use Rattle.iscsi_outbox_steps.specs.State.{Limits, State as OutboxState, place_of}
use Rattle.iscsi_outbox_steps.specs.Steps.{after_item as steps_after_item, is_running_ticket}
use Rattle.iscsi_requests.specs.Conns.{count_all, of_conn}
use Rattle.iscsi_requests.specs.Unwritten.{Unwritten}
use Rattle.iscsi_rules.proofs.general.BoolLemmas.{and_parts}
use Rattle.iscsi_rules.proofs.general.ElementLemmas.{In}
use Rattle.std.proofs.lemmas.Bool.{false≢true}
use Rattle.iscsi_ffi_commands.specs.Commands.{is_going, is_live}
use Rattle.iscsi_ffi_rules.specs.declared.action.Action.{Action}
use Rattle.iscsi_ffi_rules.specs.rules.Calls.{Interface}
use Rattle.iscsi_ffi_rules.specs.rules.Happening.{leaving, stops_in}
use Rattle.iscsi_ffi_rules.specs.rules.Sides.{Side}
use Rattle.iscsi_ffi_steps.specs.State.{State}
use Rattle.iscsi_ffi_steps.specs.Walk.{on_effects}
use Rattle.iscsi_ffi_law.specs.Arrived.{IsItemFit, effects_by, is_late, side_behind}
use Rattle.iscsi_ffi_law.specs.Names.{Name, Note}
use Rattle.iscsi_ffi_law.proofs.items.Between.{IsBetween, IsFound}
use Rattle.iscsi_ffi_law.proofs.calls.Moved.{run_same}
use Rattle.iscsi_ffi_law.proofs.items.QuietItems.{stops_none}
use Rattle.iscsi_ffi_law.proofs.items.Framing.{touched_in}
use Rattle.iscsi_ffi_law.proofs.events.Unswept.{Unswept, is_some_effect, put_state}
use Rattle.iscsi_ffi_law.proofs.items.Walking.{is_led, walk_at}

-- what takes more behind an item took it before
abbrev TookBefore : Link → Link → Type 0
TookBefore l m = takes_more m ≡ true → takes_more l ≡ true

took_close : IsCloseRule TookBefore
took_close = record {
  queue = record { same = λ l h. h; queued = λ l queue may h. h; then = λ l m n f g h. f (g h) };
  closed = λ l h. h;
  cut = λ l h. absurd (false≢true (and_parts (is_open l) false h).1);
}

pub took_before : (o : Opening) (b : Box) (item : List Effect) (p : ℕ) → p < length (after_item o b item).links → takes_more (link_in (after_item o b item).links p) ≡ true → (p < length b.links) × (takes_more (link_in b.links p) ≡ true)
took_before o b item p within takes =
    let v : Moves TookBefore b.links (after_item o b item).links = moved_item o TookBefore took_close b item in
    let short : p < length b.links = (let same = ap length v.is in let many = length-map b.links v.by in omega (arith, within, same, many)) in
    (short, v.each (link_in b.links p) (ap takes_more (sym (link_map v.by b.links p short)) ∙ ap (λ (ls : List Link). takes_more (link_in ls p)) (sym v.is) ∙ takes))

-- what has ended was live, held or waited, but for one request; what was told to stop was told to start
pub record AreFewer (xs ended : List (Option ℕ)) (stops : ℕ) (before after : State) : Type 0 where
  pub lives : length ended + count_by is_live after.commands.items + held_or_waiting after.held after.functions ≤ length xs + count_by is_live before.commands.items + held_or_waiting before.held before.functions + 1
  pub going : stops + count_by is_going after.commands.items ≤ count_by is_going before.commands.items

-- what an item comes to by which no command leaves: the walk goes on, and the same holds behind it; `u`: what is still to be swept
pub record GoesOn (i : Interface) (names : List Name) (notes : List Note) (u : Unswept) (s : State) (r : Side) (own : Option ℕ) (xs : List (Option ℕ)) (item : List Mark) : Type 0 where
  pub state : State
  pub ended : List (Option ℕ)
  pub between : IsBetween i names notes state (side_behind i r item) None ended
  pub same : between.unswept ≡ u
  pub begins : is_some_effect (effects_by i r item) ≡ true
  pub waits : count_all state.replies.waiting ≤ count_all s.replies.waiting + length (filter_map reply_sent (effects_by i r item))
  pub notes_kept : state.noted ≡ s.noted
  pub outbox : state.outbox ≡ steps_after_item (effects_by i r item) s.outbox
  pub room : state.room ≡ s.room
  pub few : AreFewer xs ended 0 s state
  pub walk : (o : OutboxState) → IsFound i o → (acts : List Action) (first : Bool) → (first && is_late r.both.event item) ≡ false → (rest : List Effect) → is_led rest ≡ true
      → on_effects first (effects_by i r item ++ rest) (walk_at o s acts xs own r.both.box.sent) ≡ on_effects false rest (walk_at o state acts ended None (side_behind i r item).both.box.sent)

-- .. and any item: with what it tells to stop. `still`: the state with what is to be swept by it
pub record ItemGoes (i : Interface) (names : List Name) (notes : List Note) (u : Unswept) (s : State) (r : Side) (own : Option ℕ) (xs : List (Option ℕ)) (item : List Mark) : Type 0 where
  pub state : State
  pub ended : List (Option ℕ)
  pub still : State
  pub between : IsBetween i names notes state (side_behind i r item) None ended
  pub put : put_state u still ≡ put_state between.unswept state
  pub begins : is_some_effect (effects_by i r item) ≡ true
  pub waits : count_all state.replies.waiting + count_all between.unswept.replies ≤ count_all s.replies.waiting + count_all u.replies + length (filter_map reply_sent (effects_by i r item))
  pub notes_kept : count_all state.noted.handed + count_all between.unswept.noted ≡ count_all s.noted.handed + count_all u.noted
  -- what is to be swept since is on a connection that it closes
  pub touched : (o : OutboxState) → IsFound i o → (p : ℕ) → ((of_conn p between.unswept.replies ≡ of_conn p u.replies) × (of_conn p between.unswept.noted ≡ of_conn p u.noted)) ⊎ In p (flat_map (touched_in o) (effects_by i r item))
  pub outbox : state.outbox ≡ steps_after_item (effects_by i r item) s.outbox
  pub room : state.room ≡ s.room
  pub few : AreFewer xs ended (length (stops_in r item)) s state
  pub walk : (o : OutboxState) → IsFound i o → (acts : List Action) (first : Bool) → (first && is_late r.both.event item) ≡ false → length acts + length (stops_in r item) ≤ s.room → (rest : List Effect) → is_led rest ≡ true
      → on_effects first (effects_by i r item ++ rest) (walk_at o s acts xs own r.both.box.sent) ≡ on_effects false rest (walk_at o still (acts ++ stops_in r item) ended None (side_behind i r item).both.box.sent)

pub plain_goes : (i : Interface) (names : List Name) (notes : List Note) (u : Unswept) (s : State) (r : Side) (own : Option ℕ) (xs : List (Option ℕ)) (item : List Mark) → filter_map leaving item ≡ [] → GoesOn i names notes u s r own xs item → ItemGoes i names notes u s r own xs item
plain_goes i names notes u s r own xs item none g = record {
  state = g.state;
  ended = g.ended;
  still = g.state;
  between = g.between;
  put = ap (λ (x : Unswept). put_state x g.state) (sym g.same);
  begins = g.begins;
  waits = (let same = ap (λ (x : Unswept). count_all x.replies) g.same in let few = g.waits in omega (arith, same, few));
  notes_kept = (let same = ap (λ (x : Unswept). count_all x.noted) g.same in let kept = ap (λ (x : Unwritten). count_all x.handed) g.notes_kept in omega (arith, same, kept));
  touched = λ o found p. inl (ap (λ (x : Unswept). of_conn p x.replies) g.same, ap (λ (x : Unswept). of_conn p x.noted) g.same);
  outbox = g.outbox;
  room = g.room;
  few = subst (λ (as' : List Action). AreFewer xs g.ended (length as') s g.state) (sym (stops_none r item none)) g.few;
  walk = λ o limits acts first late room rest led.
      g.walk o limits acts first late rest led
      ∙ ap (λ as'. on_effects false rest (walk_at o g.state as' g.ended None (side_behind i r item).both.box.sent)) (sym (ap (λ as'. acts ++ as') (stops_none r item none) ∙ append-nil acts));
}

module _ (i : Interface) (names : List Name) (notes : List Note) (s : State) (r : Side) (own : Option ℕ) (xs : List (Option ℕ)) (k : IsBetween i names notes s r own xs) (item : List Mark) (fit : IsItemFit i.outbox r.both.box (effects_by i r item)) (distinct : are_distinct i.outbox.session.conns ≡ true)
    (sound : IsSound i.outbox (side_behind i r item).both.box) where
  abbrev pub es : List Effect
  es = effects_by i r item

  abbrev pub box_then : Box
  box_then = after_item i.outbox r.both.box (effects_by i r item)

  abbrev pub outbox_then : OutboxState
  outbox_then = steps_after_item (effects_by i r item) s.outbox

  pub stands_then : OutboxStands i.outbox (steps_after_item (effects_by i r item) s.outbox) (after_item i.outbox r.both.box (effects_by i r item))
  stands_then = item_stands i.outbox s.outbox r.both.box k.outbox fit.sound distinct (effects_by i r item) fit.item_sound (newest_item s.outbox r.both.box (effects_by i r item) k.counts.tracked fit.item_sound.next) fit.fits fit.time

  pub last_then : (steps_after_item (effects_by i r item) s.outbox).tracked.last ≤ length (after_item i.outbox r.both.box (effects_by i r item)).tasks
  last_then = item_last i.outbox s.outbox r.both.box (effects_by i r item) k.counts.tracked fit.item_sound.next

  pub runs_then : ((ticket : ℕ) → is_running (after_item i.outbox r.both.box (effects_by i r item)) ticket ≡ is_running r.both.box ticket) → (ticket : ℕ) → is_running_ticket ticket (steps_after_item (effects_by i r item) s.outbox) ≡ is_running_ticket ticket s.outbox
  runs_then same = run_same i s r (steps_after_item (effects_by i r item) s.outbox) (after_item i.outbox r.both.box (effects_by i r item)) k.outbox fit.sound stands_then sound distinct same

  -- a connection has the same place in the outbox that the event found
  pub places_same : (o : OutboxState) → IsFound i o → (cid : ℕ) → place_of o cid ≡ place_of s.outbox cid
  places_same o limits cid = ap (λ (l : Limits). position (λ (c : ℕ). c == cid) l.cids) (limits.limits ∙ sym k.outbox.sizes.limits)

  -- nothing is left to be swept where something goes out still
  pub still_clear : (p : ℕ) → p < length (after_item i.outbox r.both.box (effects_by i r item)).links → takes_more (link_in (after_item i.outbox r.both.box (effects_by i r item)).links p) ≡ true → (of_conn p k.unswept.replies ≡ []) × (of_conn p k.unswept.noted ≡ [])
  still_clear p within takes = let before = took_before i.outbox r.both.box (effects_by i r item) p within takes in k.clear p before.0 before.1
