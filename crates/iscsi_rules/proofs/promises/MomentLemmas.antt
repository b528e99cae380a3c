-- Moments: what the log shows of enabled commands, and the rule as a law.
use Rattle.std.proofs.Common.{arith, ◌≡◌, ℕ, ◌+◌, ◌==◌, ◌||◌, ◌&&◌, not, Bool, true, false, List, [], ◌∷◌, ◌++◌, map, refl, ap, sym, ◌∙◌, ◌↔◌, append_assoc}
use Rattle.std.specs.List.{list_any, flat_map}
use Rattle.std.proofs.lemmas.Bool.{false≢true}
use Rattle.std.proofs.lemmas.List.{append-nil}
use Rattle.std.proofs.lemmas.List.Folds.{list_any-append}
use Rattle.iscsi_rules.specs.declared.effect.Effect.{Effect}
use Rattle.iscsi_rules.specs.declared.effect.Effect.TheVariants.{Enable}
use Rattle.iscsi_rules.specs.rules.Settings.{Setting}
use Rattle.iscsi_rules.specs.rules.Trace.{Command, Mark, Trace, has, entered, leaves_ticket, live, is_among, is_free_at, was_free, after_items}
use Rattle.iscsi_rules.specs.rules.Run.{newly_enabled, after_event, after_events, effects_of_mark, effects_of_item, effects_of, entries_from}
use Rattle.iscsi_rules.proofs.general.BoolLemmas.{or_first, or_second}
use Rattle.iscsi_rules.specs.declared.event.Event.{Event}
use Rattle.iscsi_rules.specs.promises.Enabling.{effects_so_far, is_enable, FreeMoment, effects_in}
use Rattle.iscsi_rules.proofs.general.ListLemmas.{list_any-map, any_filter}

-- one that is in its set and free now was free at some moment so far
pub free_now : (c : Command) (t : Trace) → is_free_at c t ≡ true → was_free c t ≡ true
free_now c [] h = absurd (false≢true h)
free_now c (item ∷ t) h = or_first (is_free_at c (item ∷ t)) (was_free c t) h

abbrev pub enables : List Command → List Effect
enables cs = map (λ (c : Command). Enable c.ticket c.unit) cs

-- ---- what an item shows

-- a test of effects, by what it is of marks
pub enables_none : (p : Effect → Bool) → ((ticket unit : ℕ) → p (Enable ticket unit) ≡ false) → (cs : List Command) → list_any p (map (λ (c : Command). Enable c.ticket c.unit) cs) ≡ false
enables_none p none [] = refl
enables_none p none (c ∷ cs) = ap (λ b. b || list_any p (map (λ (d : Command). Enable d.ticket d.unit) cs)) (none c.ticket c.unit) ∙ enables_none p none cs

module _ (o : Setting) (p : Effect → Bool) (q : Mark → Bool) (none : (ticket unit : ℕ) → p (Enable ticket unit) ≡ false) (same : (t : Trace) (m : Mark) → list_any p (effects_of_mark o t m) ≡ q m) where
  pub shown_marks : (t : Trace) (ms : List Mark) → list_any p (flat_map (effects_of_mark o t) ms) ≡ list_any q ms
  shown_marks t [] = refl
  shown_marks t (m ∷ ms) = grind (arith, shown_marks t ms)

  pub shown_item : (t : Trace) (item : List Mark) → list_any p (effects_of_item o t item) ≡ list_any q item
  shown_item t item = grind (arith, list_any-append p (flat_map (effects_of_mark o t) item), enables_none p none (newly_enabled o t item), shown_marks t item)

  pub shown_so_far : (t : Trace) → list_any p (effects_so_far o t) ≡ has q t
  shown_so_far [] = refl
  shown_so_far (item ∷ t) = grind (arith, shown_so_far t, list_any-append, shown_item)

pub item_enables : (o : Setting) (t : Trace) (item : List Mark) (k : ℕ) → list_any (is_enable k) (effects_of_item o t item) ≡ is_among k (newly_enabled o t item)
item_enables o t item k =
    grind (arith, list_any-append, enabled_marks item, list_any-map (is_enable k) (λ (c : Command). Enable c.ticket c.unit) (newly_enabled o t item))
  where
    enabled_marks : (ms : List Mark) → list_any (is_enable k) (flat_map (effects_of_mark o t) ms) ≡ false
    enabled_marks [] = refl
    enabled_marks (m ∷ ms) = grind (arith, enabled_marks ms)

-- a command is live where it entered and hasn't left
pub live_among : (k : ℕ) (t : Trace) → is_among k (live t) ≡ (is_among k (entered t) && not (has (leaves_ticket k) t))
live_among k t = any_filter (λ (c : Command). c.ticket == k) (λ (c : Command). not (has (leaves_ticket c.ticket) t)) (entered t) ∙ by_ticket (entered t)
  where
    by_ticket : (cs : List Command) → list_any (λ c. not (has (leaves_ticket c.ticket) t) && (c.ticket == k)) cs ≡ (is_among k cs && not (has (leaves_ticket k) t))
    by_ticket [] = refl
    by_ticket (c ∷ cs) = grind (arith, by_ticket cs)

-- nothing that left is live
pub left_unlive : (t : Trace) (k : ℕ) → has (leaves_ticket k) t ≡ true → is_among k (live t) ≡ false
left_unlive t k left = grind (arith, live_among k t)

-- ---- the log

items_effects : (o : Setting) (t : Trace) (items : List (List Mark)) → effects_so_far o (after_items items t) ≡ effects_so_far o t ++ effects_of o t items
items_effects o t [] = sym (append-nil (effects_so_far o t))
items_effects o t (item ∷ items) = items_effects o (item ∷ t) items ∙ append_assoc (effects_so_far o t) (effects_of_item o t item) (effects_of o (item ∷ t) items)

pub log_effects : (o : Setting) (event : ℕ) (t : Trace) (h : List Event) → effects_so_far o (after_events o event t h) ≡ effects_so_far o t ++ effects_in (entries_from o event t h)
log_effects o event t [] = sym (append-nil (effects_so_far o t))
log_effects o event t (e ∷ h) = grind (arith, log_effects o (event + 1) (after_event o event t e) h, items_effects, append_assoc)

-- ---- the rule

or_cases : (a b : Bool) (P : Type 0) → (a ≡ true → P) → (b ≡ true → P) → (a || b) ≡ true → P
or_cases a b P f g h = grind arith

moment_of : (c : Command) (t : Trace) → was_free c t ≡ true → FreeMoment c t
moment_of c [] h = absurd (false≢true h)
moment_of c (item ∷ t) h =
    or_cases (is_free_at c (item ∷ t)) (was_free c t) (FreeMoment c (item ∷ t))
    (λ now. record { later = []; moment = item ∷ t; split = refl; free = now })
    (λ before. let m : FreeMoment c t = moment_of c t before in record { later = item ∷ m.later; moment = m.moment; split = ap (λ s. item ∷ s) m.split; free = m.free })
    h

free_since : (c : Command) (later moment : Trace) → is_free_at c moment ≡ true → was_free c (later ++ moment) ≡ true
free_since c [] moment h = free_now c moment h
free_since c (item ∷ later) moment h = or_second (is_free_at c (item ∷ later ++ moment)) (was_free c (later ++ moment)) (free_since c later moment h)

pub rule_means : (c : Command) (t : Trace) → (was_free c t ≡ true) ↔ FreeMoment c t
rule_means c t = (moment_of c t, λ m. ap (was_free c) (sym m.split) ∙ free_since c m.later m.moment m.free)
