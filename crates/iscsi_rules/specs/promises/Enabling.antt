-- Enabling: the commands that a log enables, against the rule, at each moment (SAM-5 section 8).
use Rattle.std.specs.Prelude.{◌≡◌, ◌↔◌, ℕ, ◌==◌, ◌&&◌, not, Bool, true, false, List, [], ◌∷◌, ◌++◌}
use Rattle.std.specs.List.{list_any, flat_map}
use Rattle.iscsi_rules.specs.declared.effect.Effect.{Effect}
use Rattle.iscsi_rules.specs.declared.effect.Effect.TheVariants.{Enable, Leave}
use Rattle.iscsi_rules.specs.declared.event.Event.{Event}
use Rattle.iscsi_rules.specs.declared.entry.Entry.{Entry}
use Rattle.iscsi_rules.specs.rules.Settings.{Setting}
use Rattle.iscsi_rules.specs.rules.Trace.{Command, Trace, live, is_free_at, was_free}
use Rattle.iscsi_rules.specs.rules.Run.{trace_of, effects_of_item}

-- the effects up to a moment, in order
abbrev pub effects_so_far : Setting → Trace → List Effect
effects_so_far o [] = []
effects_so_far o (item ∷ t) = effects_so_far o t ++ effects_of_item o t item

abbrev pub is_enable : ℕ → Effect → Bool
is_enable ticket (Enable t unit) = t == ticket
is_enable ticket _ = false

abbrev pub is_leave : ℕ → Effect → Bool
is_leave ticket (Leave t unit) = t == ticket
is_leave ticket _ = false

-- there was an Enable of the ticket, and no Leave
abbrev pub is_shown_enabled : ℕ → List Effect → Bool
is_shown_enabled ticket es = list_any (is_enable ticket) es && not (list_any (is_leave ticket) es)

-- some moment so far at which the command was in its set, and free
pub record FreeMoment (c : Command) (t : Trace) : Type 0 where
  pub later : Trace
  pub moment : Trace
  pub split : later ++ moment ≡ t
  pub free : is_free_at c moment ≡ true

-- the ticket is that of a live command that was free at some moment so far
abbrev pub is_enabled : ℕ → Trace → Bool
is_enabled ticket t = list_any (λ c. c.ticket == ticket && was_free c t) (live t)

-- up to each moment, the commands with an Enable and no Leave are those that the rule enables
abbrev pub EnabledSoFar : Setting → Trace → Type 0
EnabledSoFar o t = (later moment : Trace) → later ++ moment ≡ t → (ticket : ℕ) → is_shown_enabled ticket (effects_so_far o moment) ≡ is_enabled ticket moment

-- the effects of a log
abbrev pub effects_in : List Entry → List Effect
effects_in log = flat_map (λ (e : Entry). e.effects) log

pub record EnablesByTheRule (o : Setting) (h : List Event) (log : List Entry) : Type 0 where
  -- the log has the effects of all moments, one after the other
  pub whole : effects_in log ≡ effects_so_far o (trace_of o h)
  pub exact : EnabledSoFar o (trace_of o h)
  -- what the rule computes is what it says
  pub means : (c : Command) (t : Trace) → (was_free c t ≡ true) ↔ FreeMoment c t
