-- A request executes, and is neither answered nor enters: it is over.
use Rattle.std.proofs.Common.{◌≡◌, ℕ, ◌+◌, ◌≤◌, ◌==◌, ◌&&◌, ⊎_elim, Bool, true, false, List, [], ◌∷◌, ◌++◌, length, count_by, Option, Some, None, refl, ap, sym, subst, ◌∙◌, arith, length-append}
use Rattle.std.proofs.lemmas.Bool.{cases_eq, eqb-true}
use Rattle.std.proofs.lemmas.List.{append-nil}
use Rattle.iscsi_wire.specs.Fields.{connection_of}
use Rattle.iscsi_rules.specs.declared.effect.Effect.{Effect}
use Rattle.iscsi_rules.specs.rules.Settings.{are_distinct}
use Rattle.iscsi_rules.specs.rules.Trace.{Arrival, Mark}
use Rattle.iscsi_rules.specs.rules.Run.{stat_sn_of}
use Rattle.iscsi_rules.proofs.general.CountLemmas.{one}
use Rattle.iscsi_rules.proofs.items.Forms.{Start}
use Rattle.iscsi_rules.proofs.traces.NewlyLemmas.{Untouched, newly-untouched}
use Rattle.iscsi_outbox_rules.specs.rules.Boxes.{Box}
use Rattle.iscsi_outbox_rules.specs.rules.Items.{after_item}
use Rattle.iscsi_outbox_rules.specs.rules.Words.{is_running}
use Rattle.iscsi_outbox_law.specs.private.Sound.{IsSound}
use Rattle.iscsi_outbox_steps.specs.State.{State as OutboxState}
use Rattle.iscsi_outbox_steps.specs.Steps.{after_item as steps_after_item}
use Rattle.iscsi_requests.specs.declared.functions.WaitingFunction.{WaitingFunction}
use Rattle.iscsi_ffi_rules.specs.declared.action.Action.{Action}
use Rattle.iscsi_ffi_rules.specs.rules.Calls.{Interface}
use Rattle.iscsi_ffi_rules.specs.rules.Sides.{Side}
use Rattle.iscsi_ffi_steps.specs.State.{State}
use Rattle.iscsi_ffi_steps.specs.Walk.{Walk, on_effects}
use Rattle.iscsi_ffi_law.specs.Arrived.{IsStepFit, effects_by, is_late, side_behind}
use Rattle.iscsi_ffi_law.specs.Names.{Name, Note}
use Rattle.iscsi_ffi_law.specs.Stands.{AreRequests}
use Rattle.iscsi_ffi_law.specs.Uses.{count_functions, count_held, count_lists, is_place}
use Rattle.iscsi_ffi_law.proofs.items.Between.{IsBetween, IsFound, IsHeaded, pending_of}
use Rattle.iscsi_ffi_law.proofs.requests.Core.{endings_more}
use Rattle.iscsi_ffi_law.proofs.calls.Moved.{IsMoved, requests_moved}
use Rattle.iscsi_ffi_law.proofs.items.Plain.{answers_plain, effects_plain, plain_effects, plain_item, quiet_plain, untouched_plain, void_effects}
use Rattle.iscsi_ffi_law.proofs.items.QuietBox.{quiet_item}
use Rattle.iscsi_ffi_law.proofs.items.QuietRequests.{entered_on, requests_on}
use Rattle.iscsi_ffi_law.proofs.requests.Releases.{endings}
use Rattle.iscsi_ffi_law.proofs.requests.Releasing.{ending}
use Rattle.iscsi_ffi_law.proofs.items.Stepping.{GoesOn, last_then, runs_then, stands_then, still_clear}
use Rattle.iscsi_ffi_law.proofs.events.Unswept.{is_some_effect}
use Rattle.iscsi_ffi_law.proofs.items.Walking.{ends_with_it, is_led, led_end, walk_at, walk_in}

-- a number that is voided says nothing of requests
pub voids_past : (void : Option ℕ) (rest : List Effect) (w : Walk) → on_effects false (void_effects void ++ rest) w ≡ on_effects false rest w
voids_past None rest w = refl
voids_past (Some n) rest w = refl

module _ (i : Interface) (names : List Name) (notes : List Note) (s : State) (r : Side) (own : Option ℕ) (xs : List (Option ℕ)) (k : IsBetween i names notes s r own xs) (start : Start) (a : Arrival) (void : Option ℕ)
    (fit : IsStepFit i r (plain_item start a void None None)) (distinct : are_distinct i.outbox.session.conns ≡ true) (sound : IsSound i.outbox (side_behind i r (plain_item start a void None None)).both.box)
    (h : IsHeaded i names notes s r own xs (plain_item start a void None None) start a) where
  abbrev item : List Mark
  item = plain_item start a void None None

  u : Untouched (plain_item start a void None None)
  u = untouched_plain start a void None

  effects_are : effects_by i r (plain_item start a void None None) ≡ plain_effects (stat_sn_of i.outbox.session r.both.trace (connection_of a.request)) start a void None None []
  effects_are = effects_plain i.outbox.session r.both.trace start a void None None
      ∙ ap (plain_effects (stat_sn_of i.outbox.session r.both.trace (connection_of a.request)) start a void None None) (newly-untouched i.outbox.session r.both.trace (plain_item start a void None None) u)

  box_same : after_item i.outbox r.both.box (effects_by i r (plain_item start a void None None)) ≡ r.both.box
  box_same = ap (after_item i.outbox r.both.box) effects_are
      ∙ quiet_item i.outbox r.both.box (plain_effects (stat_sn_of i.outbox.session r.both.trace (connection_of a.request)) start a void None None []) (Some (a.request)) None (quiet_plain (stat_sn_of i.outbox.session r.both.trace (connection_of a.request)) start a void None)
      ∙ fit.fit.sound.settled

  abbrev outbox' : OutboxState
  outbox' = steps_after_item (effects_by i r item) s.outbox

  abbrev xs' : List (Option ℕ)
  xs' = xs ++ Some (h.place) ∷ []

  abbrev s1 : State
  s1 = record s { held = h.held; functions = h.functions }

  abbrev r1 : Side
  r1 = record r { both = record r.both { trace = item ∷ r.both.trace } }

  abbrev state' : State
  state' = record s { held = h.held; functions = h.functions; outbox = steps_after_item (effects_by i r item) s.outbox }

  requests1 : AreRequests names notes (pending_of k.unswept None (xs ++ Some (h.place) ∷ [])) k.gone s1 r1
  requests1 = requests_on names notes (pending_of k.unswept own xs) k.gone s r k.requests item u r.both.event h.held h.functions (pending_of k.unswept None (xs ++ Some (h.place) ∷ []))
      (λ p. omega (arith, h.uses p, endings_more xs (Some (h.place)) p)) h.requests h.noted

  moved : IsMoved names s1 r1 (after_item i.outbox r.both.box (effects_by i r (plain_item start a void None None)))
  moved = subst (IsMoved names s1 r1) (sym box_same) (record { long = refl; sent = refl; queued = λ q within. (requests1.conns q within).queued; undue = requests1.undue; conn = λ q within. refl; left = λ q within. refl })

  answers_are : r.answers ++ [] ≡ (side_behind i r item).answers
  answers_are = ap (λ as'. r.answers ++ as') (sym (answers_plain r.both.event start a void None None))

  requests2 : AreRequests names notes (pending_of k.unswept None (xs ++ Some (h.place) ∷ [])) k.gone state' (side_behind i r item)
  requests2 = subst (λ as'. AreRequests names notes (pending_of k.unswept None (xs ++ Some (h.place) ∷ [])) k.gone state' (record (side_behind i r item) { answers = as' })) (sym (append-nil r.answers) ∙ answers_are)
      (requests_moved names notes (pending_of k.unswept None (xs ++ Some (h.place) ∷ [])) k.gone s1 r1 requests1 outbox' (after_item i.outbox r.both.box (effects_by i r item))
      (runs_then i names notes s r own xs k item fit.fit distinct sound (λ ticket. ap (λ (b : Box). is_running b ticket) box_same)) moved)

  abbrev left_of : ℕ → ℕ
  left_of p = count_by (is_place p) h.held.places + count_lists (λ (f : WaitingFunction). f.request == p) h.functions.waiting

  over : (p : ℕ) → 1 ≤ endings (xs ++ Some (h.place) ∷ []) p → left_of p ≡ 0
  over p some = ⊎_elim
      (λ (same : h.place ≡ p). subst (λ q. left_of q ≡ 0) same h.over)
      (λ other. by_test (h.place == p) refl other)
      (cases_eq h.place p)
    where
      by_test : (v : Bool) → (h.place == p) ≡ v → (h.place ≡ p → ⊥) → left_of p ≡ 0
      by_test true is other = absurd (other (eqb-true h.place p is))
      by_test false is other =
          let none : one (h.place == p) ≡ 0 = ap one is in
          let before : count_held p s + count_functions p s ≡ 0 = k.over p (omega (arith, some, none, endings_more xs (Some (h.place)) p)) in
          by_own own refl none before
        where
          by_own : (x : Option ℕ) → own ≡ x → one (h.place == p) ≡ 0 → count_held p s + count_functions p s ≡ 0 → left_of p ≡ 0
          by_own None is_own none before = let nothing : ending own p ≡ 0 = ap (λ z. ending z p) is_own in omega (arith, h.uses p, none, before, nothing)
          by_own (Some q) is_own none before = absurd (let first : endings xs p ≡ 0 = ap (λ ys. endings ys p) (k.own_first q is_own) in let no : ⊥ = omega (arith, some, none, first, endings_more xs (Some (h.place)) p) in no)

  between : IsBetween i names notes state' (side_behind i r item) None (xs ++ Some (h.place) ∷ [])
  between = record {
    requests = requests2;
    slots = h.slots;
    functions = h.functions_are;
    unswept = k.unswept;
    gone = k.gone;
    long_replies = k.long_replies;
    long_noted = k.long_noted;
    clear = still_clear i names notes s r own xs k item fit.fit distinct sound;
    outbox = stands_then i names notes s r own xs k item fit.fit distinct sound;
    sizes = record {
      room = k.sizes.room;
      functions = h.long_functions ∙ k.sizes.functions;
      replies = k.sizes.replies;
      noted = k.sizes.noted;
      unwritten = k.sizes.unwritten;
      noted_room = k.sizes.noted_room;
      unwritten_room = k.sizes.unwritten_room;
      replies_room = k.sizes.replies_room;
      slots = (let long = h.long in let some = k.sizes.slots in omega (arith, long, some));
      few = k.sizes.few;
    };
    flags = record { awake = k.flags.awake; over = k.flags.over };
    counts = record { units = k.counts.units; last = (let same = ap length (entered_on r.both.trace item u) in let below = k.counts.last in omega (arith, same, below)); tracked = last_then i names notes s r own xs k item fit.fit distinct sound };
    withheld = k.withheld;
    distinct = h.distinct;
    over = over;
    own_named = λ p none. absurd (let no : ⊥ = cc in no);
    own_unheld = λ p none. absurd (let no : ⊥ = cc in no);
    own_first = λ p none. absurd (let no : ⊥ = cc in no);
  }

  walk : (o : OutboxState) → IsFound i o → (acts : List Action) (first : Bool) → (first && is_late r.both.event item) ≡ false → (rest : List Effect) → is_led rest ≡ true
      → on_effects first (effects_by i r item ++ rest) (walk_at o s acts xs own r.both.box.sent) ≡ on_effects false rest (walk_at o state' acts (xs ++ Some (h.place) ∷ []) None (side_behind i r item).both.box.sent)
  walk o limits acts first late rest led =
      ap (λ es. on_effects first (es ++ rest) (walk_at o s acts xs own r.both.box.sent)) effects_are
      ∙ ap (λ w. on_effects false ((void_effects void ++ []) ++ rest) w) (h.walk o limits acts first r.both.box.sent late)
      ∙ ap (λ es. on_effects false (es ++ rest) after_head) (append-nil (void_effects void))
      ∙ voids_past void rest after_head
      ∙ led_end rest led after_head
      ∙ ap (on_effects false rest) (ends_with_it o s1 acts xs (Some (h.place)) None (Some (h.by)) r.both.box.sent)
      ∙ ap (λ (b : Box). on_effects false rest (walk_at o state' acts (xs ++ Some (h.place) ∷ []) None b.sent)) (sym box_same)
    where
      after_head : Walk
      after_head = walk_in o s1 acts xs (Some (h.place)) None (Some (h.by)) r.both.box.sent

  pub goes_over : GoesOn i names notes k.unswept s r own xs (plain_item start a void None None)
  unfolding between
  goes_over = record {
    state = state';
    ended = xs ++ Some (h.place) ∷ [];
    between = between;
    outbox = refl;
    room = refl;
    few = record { lives = (let long = length-append xs (Some (h.place) ∷ []) in let fewer = h.fewer in omega (arith, long, fewer)); going = omega arith };
    same = refl;
    begins = ap is_some_effect effects_are;
    waits = omega arith;
    notes_kept = refl;
    walk = λ o limits acts first late rest led. walk o limits acts first late rest led;
  }
