-- Commands count as started once their event is over, in both; and the numbers that an event shows.
use Rattle.std.proofs.Common.{◌≡◌, ℕ, ◌<◌, ◌&&◌, ◌||◌, ◌^◌, nat_lt, cond, Bool, true, false, List, [], ◌∷◌, map, filter_map, refl, ap, sym, subst, ◌∙◌, lt-ltb}
use Rattle.std.proofs.lemmas.Bool.{false≢true, true≢false}
use Rattle.iscsi_wire.specs.Serial.{lift}
use Rattle.iscsi_rules.specs.declared.effect.Effect.{Effect}
use Rattle.iscsi_rules.specs.declared.effect.Numbers.{Numbers}
use Rattle.iscsi_rules.specs.promises.Order.{in_parts}
use Rattle.iscsi_outbox_rules.specs.rules.Calls.{Opening}
use Rattle.iscsi_outbox_rules.specs.rules.Boxes.{Phase, Dormant, Fresh, Started, Completed, Running, Gone, Task, Box}
use Rattle.iscsi_outbox_rules.specs.rules.Words.{contains, is_left_phase, is_live_phase, is_running_phase}
use Rattle.iscsi_outbox_rules.specs.rules.Items.{after_event, after_items as box_after_items, in_phase as tasks_in_phase, phase_told, ticket_enabled}
use Rattle.iscsi_outbox_steps.specs.State.{State}
use Rattle.iscsi_outbox_steps.specs.Steps.{after_items, in_phase_if, is_fresh, taken, tell}
use Rattle.iscsi_tracked.specs.declared.command.Phase.{Phase as KeptPhase}
use Rattle.iscsi_tracked.specs.declared.command.Phase.TheVariants.{Dormant as KeptDormant, Fresh as KeptFresh, Started as KeptStarted, Running as KeptRunning, Gone as KeptGone}
use Rattle.iscsi_outbox_law.specs.private.Pairs.{EachOf}
use Rattle.iscsi_outbox_law.specs.private.Commands.{is_under_way, phase_of}
use Rattle.iscsi_outbox_law.specs.private.Sound.{is_fresh_phase}
use Rattle.iscsi_outbox_law.specs.private.Stands.{Stands, StandsWith}
use Rattle.iscsi_outbox_law.proofs.commands.Turning.{IsLiveTurn, one_stands, phases_one, turned_by}

-- ---- the phases

tells : IsLiveTurn is_fresh KeptStarted phase_told
tells = record {
  live = λ d is. live_too (d.phase) is;
  after = λ d. refl;
  turned = λ d is. turned_from (d.phase) is;
  stays = λ d isnt. stays_from (d.phase) isnt;
  kept = kept_too;
  twice = again;
}
  where
    live_too : (p : KeptPhase) → (elim p as (λ (q : KeptPhase). Bool) [ KeptFresh ↦ true | KeptDormant ↦ false | KeptStarted ↦ false | KeptRunning ↦ false | KeptGone ↦ false ]) ≡ true
        → (elim p as (λ (q : KeptPhase). Bool) [ KeptDormant ↦ true | KeptFresh ↦ true | KeptStarted ↦ true | KeptRunning ↦ false | KeptGone ↦ false ]) ≡ true
    live_too KeptDormant is = refl
    live_too KeptFresh is = refl
    live_too KeptStarted is = refl
    live_too KeptRunning is = is
    live_too KeptGone is = is

    turned_from : (p : KeptPhase) → (elim p as (λ (q : KeptPhase). Bool) [ KeptFresh ↦ true | KeptDormant ↦ false | KeptStarted ↦ false | KeptRunning ↦ false | KeptGone ↦ false ]) ≡ true → Started ≡ phase_told (phase_of p)
    turned_from KeptDormant is = absurd (false≢true is)
    turned_from KeptFresh is = refl
    turned_from KeptStarted is = refl
    turned_from KeptRunning is = absurd (false≢true is)
    turned_from KeptGone is = absurd (false≢true is)

    stays_from : (p : KeptPhase) → (elim p as (λ (q : KeptPhase). Bool) [ KeptFresh ↦ true | KeptDormant ↦ false | KeptStarted ↦ false | KeptRunning ↦ false | KeptGone ↦ false ]) ≡ false → phase_of p ≡ phase_told (phase_of p)
    stays_from KeptDormant isnt = refl
    stays_from KeptFresh isnt = absurd (true≢false isnt)
    stays_from KeptStarted isnt = refl
    stays_from KeptRunning isnt = refl
    stays_from KeptGone isnt = refl

    kept_too : (p : Phase) (w : Bool) → (is_live_phase (phase_told p) || (is_running_phase (phase_told p) || (is_left_phase (phase_told p) && w))) ≡ (is_live_phase p || (is_running_phase p || (is_left_phase p && w)))
    kept_too Dormant w = refl
    kept_too Fresh w = refl
    kept_too Started w = refl
    kept_too Completed w = refl
    kept_too Running w = refl
    kept_too Gone w = refl

    again : (p : Phase) → phase_told (phase_told p) ≡ phase_told p
    again Dormant = refl
    again Fresh = refl
    again Started = refl
    again Completed = refl
    again Running = refl
    again Gone = refl

-- ---- all tickets

none_named : (change : Phase → Phase) (ts : List Task) → map (turned_by change []) ts ≡ ts
none_named change [] = refl
none_named change (t ∷ ts) = ap (λ xs. t ∷ xs) (none_named change ts)

tell_with : (under : ℕ → Bool) (o : Opening) (tickets : List ℕ) (s : State) (b : Box) → StandsWith under o s b → StandsWith under o (tell tickets s) (tasks_in_phase phase_told tickets b)
tell_with under o [] s b h = subst (λ ts. StandsWith under o s (record b { tasks = ts })) (sym (none_named phase_told b.tasks)) h
tell_with under o (ticket ∷ tickets) s b h =
    subst (StandsWith under o (tell tickets (in_phase_if is_fresh KeptStarted ticket s))) (phases_one is_fresh KeptStarted phase_told tells ticket tickets b)
    (tell_with under o tickets (in_phase_if is_fresh KeptStarted ticket s) (tasks_in_phase phase_told (ticket ∷ []) b) (one_stands is_fresh KeptStarted phase_told tells under o s b h ticket))

-- ---- an event is over

-- no other command was enabled by it
abbrev pub AreFreshOf : List ℕ → List Task → Type 0
AreFreshOf tickets ts = EachOf (λ (t : Task). is_fresh_phase t.phase ≡ true → contains tickets t.ticket ≡ true) ts

abbrev told : Task → Task
told t = record t { phase = phase_told t.phase }

told_by : (tickets : List ℕ) (ts : List Task) → AreFreshOf tickets ts → map (turned_by phase_told tickets) ts ≡ map told ts
told_by tickets [] h = refl
told_by tickets (t ∷ ts) h = ap (λ x. x ∷ map (turned_by phase_told tickets) ts) (one (contains tickets t.ticket) refl) ∙ ap (λ xs. told t ∷ xs) (told_by tickets ts h.1)
  where
    same_phase : (p : Phase) → (is_fresh_phase p ≡ true → false ≡ true) → p ≡ phase_told p
    same_phase Dormant k = refl
    same_phase Fresh k = absurd (false≢true (k refl))
    same_phase Started k = refl
    same_phase Completed k = refl
    same_phase Running k = refl
    same_phase Gone k = refl

    one : (w : Bool) → contains tickets t.ticket ≡ w → cond w (told t) t ≡ told t
    one true is = refl
    one false isnt = ap (λ p. record t { phase = p }) (same_phase t.phase (λ is. sym isnt ∙ h.0 is))

pub tell_stands : (under : ℕ → Bool) (o : Opening) (tickets : List ℕ) (s : State) (b : Box) → StandsWith under o s b → AreFreshOf tickets b.tasks → StandsWith under o (tell tickets s) (record b { tasks = map (λ (t : Task). record t { phase = phase_told t.phase }) b.tasks })
tell_stands under o tickets s b h fresh = subst (λ ts. StandsWith under o (tell tickets s) (record b { tasks = ts })) (told_by tickets b.tasks fresh) (tell_with under o tickets s b h)

-- what an event shows
shows : (under : ℕ → Bool) (o : Opening) (s : State) (b : Box) (n : Numbers) → StandsWith under o s b → lift b.max n.max < 2 ^ 63
    → StandsWith under o (record s { exp = n.exp; max = cond (nat_lt (lift s.max n.max) (2 ^ 63)) (lift s.max n.max) s.max }) (record b { exp = n.exp; max = lift b.max n.max })
shows under o s b n h small = record {
  sizes = record { limits = h.sizes.limits; waits = h.sizes.waits; answers = h.sizes.answers; commands = h.sizes.commands; trails = h.sizes.trails };
  numbers = record {
    time = h.numbers.time;
    exp = refl;
    max = ap (λ m. cond (nat_lt (lift m n.max) (2 ^ 63)) (lift m n.max) m) h.numbers.max ∙ ap (λ (v : Bool). cond v (lift b.max n.max) b.max) (lt-ltb (lift b.max n.max) (2 ^ 63) small);
    shown = h.numbers.shown;
    reached = h.numbers.reached;
    sent = h.numbers.sent;
  };
  links = h.links;
  queues = h.queues;
  commands = h.commands;
  placed = h.placed;
  trails = h.trails;
  left = h.left;
  answers = h.answers;
  fence = h.fence;
}

-- the whole event, once its items are taken
pub event_stands : (o : Opening) (s : State) (b : Box) (effects : List Effect) (n : Numbers) → Stands o (after_items (in_parts effects) s) (box_after_items o b (in_parts effects))
    → AreFreshOf (filter_map ticket_enabled effects) (box_after_items o b (in_parts effects)).tasks → (after_event o b effects n).max < 2 ^ 63 → Stands o (taken effects n s) (after_event o b effects n)
event_stands o s b effects n h fresh small =
    shows (is_under_way o (box_after_items o b (in_parts effects)).links) o (tell (filter_map ticket_enabled effects) (after_items (in_parts effects) s)) (record (box_after_items o b (in_parts effects)) { tasks = map (λ (t : Task). record t { phase = phase_told t.phase }) (box_after_items o b (in_parts effects)).tasks }) n
    (tell_stands (is_under_way o (box_after_items o b (in_parts effects)).links) o (filter_map ticket_enabled effects) (after_items (in_parts effects) s) (box_after_items o b (in_parts effects)) h fresh) small
