-- What is known of the event by which the session hears that a connection was lost.
use Rattle.std.proofs.Common.{◌≡◌, ℕ, ◌+◌, ◌≤◌, ◌++◌, not, true, false, List, [], ◌∷◌, Some, refl, ap, subst, ◌∙◌}
use Rattle.std.specs.List.{list_all}
use Rattle.std.proofs.lemmas.Bool.{eq-eqb}
use Rattle.iscsi_wire.specs.Fields.{itt}
use Rattle.iscsi_wire.specs.declared.reply.Reply.TheVariants.{Logout}
use Rattle.iscsi_rules.specs.declared.event.Event.TheVariants.{Arrive}
use Rattle.iscsi_rules.specs.rules.Execution.{exp_of}
use Rattle.iscsi_rules.specs.rules.Settings.{is_known}
use Rattle.iscsi_rules.specs.rules.Trace.{Arrival, Command, Mark, is_closed, waiting}
use Rattle.iscsi_rules.proofs.general.ElementLemmas.{In}
use Rattle.iscsi_rules.proofs.items.Forms.{AtArrival}
use Rattle.iscsi_outbox_law.specs.private.Pairs.{EachOf}
use Rattle.iscsi_outbox_law.specs.private.Sound.{IsSound}
use Rattle.iscsi_ffi_rules.specs.rules.Calls.{Interface}
use Rattle.iscsi_ffi_rules.specs.rules.Run.{parting}
use Rattle.iscsi_ffi_rules.specs.rules.Sides.{Side}
use Rattle.iscsi_ffi_law.specs.Arrived.{items_then, starts_late}
use Rattle.iscsi_ffi_law.specs.Sides.{IsPartingFit}
use Rattle.iscsi_ffi_law.proofs.events.EventEnds.{IsEventOf}
use Rattle.iscsi_ffi_law.proofs.events.EventNews.{entered_by}
use Rattle.iscsi_ffi_law.proofs.events.EventRules.{admits_alone}
use Rattle.iscsi_ffi_law.proofs.items.ItemsGo.{side_after}
use Rattle.iscsi_ffi_law.proofs.losses.LossItem.{a, bs, cs, ends, one_item, the_item}
use Rattle.iscsi_ffi_law.proofs.logouts.Parting.{enters_parted}

module _ (i : Interface) (r : Side) (cid : ℕ) (known : is_known cid i.outbox.session.conns ≡ true) (unclosed : is_closed cid r.both.trace ≡ false) (ahead : EachOf (λ (b : Arrival). exp_of i.outbox.session r.both.trace + 1 ≤ b.number) (waiting r.both.trace)) (f : IsPartingFit i r cid) (behind : IsSound i.outbox (side_after i r (items_then i r cid (parting cid))).both.box) where
  abbrev the : List Mark
  the = the_item i.outbox.session r.both.event r.both.trace cid known unclosed ahead

  is : items_then i r cid (parting cid) ≡ the ∷ []
  is = one_item i.outbox.session r.both.event r.both.trace cid known unclosed ahead

  none_enters : entered_by (the ∷ []) ≡ []
  none_enters =
      ap (λ (xs : List Command). xs ++ [])
      (enters_parted AtArrival (a i.outbox.session r.both.event r.both.trace cid known unclosed ahead) (cs i.outbox.session r.both.event r.both.trace cid known unclosed ahead) (bs i.outbox.session r.both.event r.both.trace cid known unclosed ahead)
      (Logout (itt (a i.outbox.session r.both.event r.both.trace cid known unclosed ahead).request) 0) (Some cid) (ends i.outbox.session r.both.event r.both.trace cid known unclosed ahead))

  pub loss_event : IsEventOf i r (Arrive cid (parting cid))
  loss_event = record {
    fit = f.fit;
    stale = f.stale;
    events = f.events;
    sent = f.sent;
    short = f.short;
    enabled = f.enabled;
    prompt = ap (starts_late r.both.event) is ∙ ap not (eq-eqb r.both.event r.both.event refl);
    few = f.few;
    regular = f.regular;
    untold = λ c there. absurd (subst (In c) (ap entered_by is ∙ none_enters) there);
    alone = ap (list_all admits_alone) is;
    behind = behind;
  }
