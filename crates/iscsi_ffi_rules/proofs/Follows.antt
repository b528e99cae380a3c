-- The trace of a side is that of the events that were taken.
use Rattle.std.proofs.Common.{◌≡◌, List, [], ◌∷◌, ◌++◌, length, refl, ap, sym, ◌∙◌, subst, arith, length-append}
use Rattle.iscsi_rules.specs.declared.event.Event.{Event}
use Rattle.iscsi_rules.specs.rules.Settings.{Setting}
use Rattle.iscsi_rules.specs.rules.Run.{after_event, trace_of}
use Rattle.iscsi_rules.proofs.items.Forms.{HaveForms}
use Rattle.iscsi_rules.proofs.items.FormRuns.{trace_has_forms}
use Rattle.iscsi_rules.proofs.traces.RunLemmas.{trace_of-push}
use Rattle.iscsi_outbox_rules.specs.rules.Calls.{Opening}
use Rattle.iscsi_outbox_rules.specs.promises.Room.{Happens, Both, after_step, begun}

pub record Follows (o : Setting) (b : Both) : Type 0 where
  pub events : List Event
  pub at : b.event ≡ length events
  pub is : b.trace ≡ trace_of o events

pub follows_begun : (o : Opening) → Follows o.session (begun o)
follows_begun o = record { events = []; at = refl; is = refl }

pub follows_event : (o : Opening) (b : Both) (e : Event) → Follows o.session b → Follows o.session (after_step o b (Happens e))
follows_event o b e f = record {
  events = f.events ++ e ∷ [];
  at = omega (arith, f.at, length-append f.events (e ∷ []));
  is =
      ap (λ n. after_event o.session n b.trace e) f.at
      ∙ ap (λ t. after_event o.session (length f.events) t e) f.is
      ∙ sym (trace_of-push o.session f.events e);
}

-- so each item of it has a form
pub follows_forms : (o : Setting) (b : Both) → Follows o b → HaveForms o b.event b.trace
follows_forms o b f = subst (λ n. HaveForms o n b.trace) (sym f.at) (subst (HaveForms o (length f.events)) (sym f.is) (trace_has_forms o f.events))
