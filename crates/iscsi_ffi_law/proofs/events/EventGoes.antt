-- An event by the steps as by the rules, where its items go alike: its parts, and what holds before the items.
use Rattle.std.proofs.Common.{◌≡◌, ℕ, ◌-◌, ◌<◌, ◌≤◌, ◌^◌, cond, Bool, true, false, List, [], ◌∷◌, length, Option, refl, ap, sym, subst, ◌∙◌, arith}
use Rattle.iscsi_rules.specs.declared.effect.Effect.{Effect}
use Rattle.iscsi_rules.specs.declared.event.Event.{Event}
use Rattle.iscsi_rules.specs.promises.Order.{in_parts}
use Rattle.iscsi_rules.specs.rules.Agenda.{items_of}
use Rattle.iscsi_rules.specs.rules.Run.{effects_of}
use Rattle.iscsi_rules.specs.rules.Trace.{Mark}
use Rattle.iscsi_outbox_rules.specs.promises.Room.{Fits}
use Rattle.iscsi_outbox_rules.specs.rules.Boxes.{Box}
use Rattle.iscsi_outbox_rules.specs.rules.Items.{after_item, after_items as box_after_items}
use Rattle.iscsi_outbox_rules.proofs.closes.ClosedParts.{Parts, effects_each, event_parts}
use Rattle.iscsi_outbox_rules.proofs.room.RoomSends.{Formed, event_going as event_sends}
use Rattle.iscsi_outbox_law.specs.private.Sound.{IsItemSound, IsSound}
use Rattle.iscsi_outbox_law.specs.private.Stands.{Stands as OutboxStands}
use Rattle.iscsi_outbox_law.proofs.items.TakesItem.{item_stands}
use Rattle.iscsi_outbox_law.proofs.commands.TurningCount.{item_last}
use Rattle.iscsi_outbox_steps.specs.State.{State as OutboxState}
use Rattle.iscsi_outbox_steps.specs.Steps.{after_item as steps_after_item, after_items as steps_after_items}
use Rattle.iscsi_ffi_rules.specs.rules.Calls.{Interface}
use Rattle.iscsi_ffi_rules.specs.rules.Sides.{Side}
use Rattle.iscsi_ffi_steps.specs.State.{State}
use Rattle.iscsi_ffi_law.specs.Fit.{IsFit}
use Rattle.iscsi_ffi_law.specs.Names.{Name, Note}
use Rattle.iscsi_ffi_law.proofs.items.Between.{IsBetween}
use Rattle.iscsi_ffi_law.proofs.calls.Moved.{requests_moved, run_same}
use Rattle.iscsi_ffi_law.proofs.items.QuietBox.{empty_item}

-- ---- the parts of an event

-- an empty part before the items does nothing
module _ (i : Interface) (r : Side) (e : Event) where
  abbrev pub items : List (List Mark)
  items = items_of i.outbox.session r.both.event r.both.trace e

  abbrev pub effects : List Effect
  effects = effects_of i.outbox.session r.both.trace (items_of i.outbox.session r.both.event r.both.trace e)

  pub parts : Parts i.outbox.session r.both.trace (items_of i.outbox.session r.both.event r.both.trace e)
  parts = event_parts i.outbox.session (Formed i.outbox.session (λ c. false)) (λ t item f. f) r.both.event r.both.trace e (event_sends i.outbox.session (λ c. false) r.both.event r.both.trace e).each

  -- the outbox that the items begin with
  abbrev pub outbox_first : Bool → OutboxState → OutboxState
  outbox_first lead o = cond lead (steps_after_item [] o) o

  pub outbox_parts : (o : OutboxState) → steps_after_items (in_parts (effects_of i.outbox.session r.both.trace (items_of i.outbox.session r.both.event r.both.trace e))) o
      ≡ steps_after_items (effects_each i.outbox.session r.both.trace (items_of i.outbox.session r.both.event r.both.trace e)) (outbox_first parts.lead o)
  outbox_parts o = ap (λ ps. steps_after_items ps o) parts.are ∙ by_lead parts.lead
    where
      by_lead : (v : Bool) → steps_after_items (cond v ([] ∷ effects_each i.outbox.session r.both.trace (items_of i.outbox.session r.both.event r.both.trace e)) (effects_each i.outbox.session r.both.trace (items_of i.outbox.session r.both.event r.both.trace e))) o
          ≡ steps_after_items (effects_each i.outbox.session r.both.trace (items_of i.outbox.session r.both.event r.both.trace e)) (cond v (steps_after_item [] o) o)
      by_lead true = refl
      by_lead false = refl

  pub box_parts : IsSound i.outbox r.both.box → box_after_items i.outbox r.both.box (in_parts (effects_of i.outbox.session r.both.trace (items_of i.outbox.session r.both.event r.both.trace e)))
      ≡ box_after_items i.outbox r.both.box (effects_each i.outbox.session r.both.trace (items_of i.outbox.session r.both.event r.both.trace e))
  box_parts sound = ap (box_after_items i.outbox r.both.box) parts.are ∙ by_lead parts.lead
    where
      by_lead : (v : Bool) → box_after_items i.outbox r.both.box (cond v ([] ∷ effects_each i.outbox.session r.both.trace (items_of i.outbox.session r.both.event r.both.trace e)) (effects_each i.outbox.session r.both.trace (items_of i.outbox.session r.both.event r.both.trace e)))
          ≡ box_after_items i.outbox r.both.box (effects_each i.outbox.session r.both.trace (items_of i.outbox.session r.both.event r.both.trace e))
      by_lead true = ap (λ b. box_after_items i.outbox b (effects_each i.outbox.session r.both.trace (items_of i.outbox.session r.both.event r.both.trace e))) (empty_item i.outbox r.both.box sound)
      by_lead false = refl

-- ---- the outbox before the items

none_sound : (i : Interface) (b : Box) → IsItemSound i.outbox b []
none_sound i b = record {
  left = tt;
  entered = tt;
  ascending = tt;
  next = tt;
  known = λ r is. absurd (let no : ⊥ = cc in no);
  replies = λ conn reply sent. absurd (let no : ⊥ = cc in no);
  one_close = omega arith;
  closing = λ conn reply sent. absurd (let no : ⊥ = cc in no);
  logout = λ r conn reply is. absurd (let no : ⊥ = cc in no);
}

-- an empty part is taken in as nothing
pub first_between : (i : Interface) (names : List Name) (notes : List Note) (s : State) (r : Side) (own : Option ℕ) (xs : List (Option ℕ)) (left : Box) → IsFit i r.both.box left → (lead : Bool) → IsBetween i names notes s r own xs → IsBetween i names notes (record s { outbox = cond lead (steps_after_item [] s.outbox) s.outbox }) r own xs
first_between i names notes s r own xs left fit false k = record {
  requests = requests_moved names notes _ k.gone s r k.requests s.outbox r.both.box (λ ticket. refl) (record { long = refl; sent = refl; queued = λ q within. (k.requests.conns q within).queued; undue = k.requests.undue; conn = λ q within. refl; left = λ q within. refl });
  slots = k.slots;
  functions = k.functions;
  outbox = k.outbox;
  sizes = record { room = k.sizes.room; functions = k.sizes.functions; replies = k.sizes.replies; noted = k.sizes.noted; unwritten = k.sizes.unwritten; noted_room = k.sizes.noted_room; unwritten_room = k.sizes.unwritten_room; replies_room = k.sizes.replies_room; slots = k.sizes.slots; few = k.sizes.few };
  flags = record { awake = k.flags.awake; over = k.flags.over };
  counts = record { units = k.counts.units; last = k.counts.last; tracked = k.counts.tracked };
  withheld = k.withheld;
  distinct = k.distinct;
  over = k.over;
  own_named = k.own_named;
  own_unheld = k.own_unheld;
  own_first = k.own_first;
  unswept = k.unswept;
  gone = k.gone;
  long_replies = k.long_replies;
  long_noted = k.long_noted;
  clear = k.clear;
}
first_between i names notes s r own xs left fit true k =
    let b : Box = after_item i.outbox r.both.box [] in
    let same : after_item i.outbox r.both.box [] ≡ r.both.box = empty_item i.outbox r.both.box fit.sound in
    let stands : OutboxStands i.outbox (steps_after_item [] s.outbox) r.both.box
    = subst (OutboxStands i.outbox (steps_after_item [] s.outbox)) same
    (item_stands i.outbox s.outbox r.both.box k.outbox fit.sound fit.distinct [] (none_sound i r.both.box) tt (subst (Fits i.outbox) (sym same) fit.fits) (subst (λ (c : Box). c.time < 2 ^ 64 - 1) (sym same) fit.time)) in
    let last : (steps_after_item [] s.outbox).tracked.last ≤ length r.both.box.tasks = subst (λ (c : Box). (steps_after_item [] s.outbox).tracked.last ≤ length c.tasks) same (item_last i.outbox s.outbox r.both.box [] k.counts.tracked tt) in
    record {
      requests = requests_moved names notes _ k.gone s r k.requests (steps_after_item [] s.outbox) r.both.box
          (run_same i s r (steps_after_item [] s.outbox) r.both.box k.outbox fit.sound stands fit.sound fit.distinct (λ ticket. refl))
          (record { long = refl; sent = refl; queued = λ q within. (k.requests.conns q within).queued; undue = k.requests.undue; conn = λ q within. refl; left = λ q within. refl });
      slots = k.slots;
      functions = k.functions;
      outbox = stands;
      sizes = record { room = k.sizes.room; functions = k.sizes.functions; replies = k.sizes.replies; noted = k.sizes.noted; unwritten = k.sizes.unwritten; noted_room = k.sizes.noted_room; unwritten_room = k.sizes.unwritten_room; replies_room = k.sizes.replies_room; slots = k.sizes.slots; few = k.sizes.few };
      flags = record { awake = k.flags.awake; over = k.flags.over };
      counts = record { units = k.counts.units; last = k.counts.last; tracked = last };
      withheld = k.withheld;
      distinct = k.distinct;
      over = k.over;
      own_named = k.own_named;
      own_unheld = k.own_unheld;
      own_first = k.own_first;
      unswept = k.unswept;
      gone = k.gone;
      long_replies = k.long_replies;
      long_noted = k.long_noted;
      clear = k.clear;
    }

-- the same is to be swept
pub first_unswept : (i : Interface) (names : List Name) (notes : List Note) (s : State) (r : Side) (own : Option ℕ) (xs : List (Option ℕ)) (left : Box) (fit : IsFit i r.both.box left) (lead : Bool) (k : IsBetween i names notes s r own xs) → (first_between i names notes s r own xs left fit lead k).unswept ≡ k.unswept
unfolding first_between
first_unswept i names notes s r own xs left fit false k = refl
first_unswept i names notes s r own xs left fit true k = refl
