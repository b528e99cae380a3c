-- The number of a held request that is taken out is as it came.
use Rattle.std.proofs.Common.{◌≡◌, ℕ, List, ◌∷◌, sym, subst}
use Rattle.std.specs.List.{filter_map}
use Rattle.std.proofs.lemmas.List.{append-nil}
use Rattle.iscsi_wire.specs.Fields.{cmd_sn}
use Rattle.iscsi_wire.specs.Serial.{wire}
use Rattle.iscsi_rules.specs.rules.Settings.{Setting}
use Rattle.iscsi_rules.specs.rules.Trace.{Arrival, Mark, Trace, shown}
use Rattle.iscsi_rules.proofs.general.ElementLemmas.{In}
use Rattle.iscsi_rules.proofs.items.Forms.{AfterWaiting, AtArrival, AtTurn, Completed, Deeds, Executed, Form, HasForm, Ignored, IsFormed, Postponed, Received, Rejected, Start, begun, marks_done, marks_of_form, start_mark}
use Rattle.iscsi_outbox_law.specs.private.Pairs.{EachOf}
use Rattle.iscsi_ffi_rules.specs.rules.Needs.{admitted_by}
use Rattle.iscsi_ffi_law.specs.Arrived.{emptying}
use Rattle.iscsi_ffi_law.proofs.session_invariants.FitArrivals.{AllAre}
use Rattle.iscsi_ffi_law.proofs.session_invariants.FitReceived.{IsWired}
use Rattle.iscsi_ffi_law.proofs.general.Members.{each_in, in_each}
use Rattle.iscsi_ffi_law.proofs.arrivals.Opens.{emptied_seen}
use Rattle.iscsi_ffi_law.proofs.arrivals.Slots.{held_in}

abbrev IsAsItCame : Arrival → Type 0
IsAsItCame b = wire b.number ≡ cmd_sn b.request

pub emptied_fit : (o : Setting) (now : ℕ) (t : Trace) (item : List Mark) → HasForm o now t item → AllAre IsWired t → EachOf (λ (b : Arrival). wire b.number ≡ cmd_sn b.request) (filter_map emptying item)
emptied_fit o now t item f all = subst (λ ms. EachOf IsAsItCame (filter_map emptying ms)) (sym f.is) (by_form f.form f.formed)
  where
    begun_same : (start : Start) (a : Arrival) → shown admitted_by (begun start a t) ≡ shown admitted_by t
    begun_same AtTurn a = append-nil (shown admitted_by t)
    begun_same AtArrival a = append-nil (shown admitted_by t)
    begun_same AfterWaiting a = append-nil (shown admitted_by t)

    by_start : (start : Start) (a : Arrival) (d : Deeds) → filter_map emptying (start_mark start a ∷ marks_done a d) ≡ d.emptied
    by_start AtTurn a d = emptied_seen a d
    by_start AtArrival a d = emptied_seen a d
    by_start AfterWaiting a d = emptied_seen a d

    by_form : (form : Form) → IsFormed o now t form → EachOf IsAsItCame (filter_map emptying (marks_of_form form))
    by_form (Ignored why) formed = tt
    by_form (Rejected a) formed = tt
    by_form (Received a) formed = tt
    by_form (Postponed a) formed = tt
    by_form (Completed c status) formed = tt
    by_form (Executed start a d) formed =
        subst (EachOf IsAsItCame) (sym (by_start start a d))
        (in_each IsAsItCame d.emptied (λ b there. let w : IsWired b = each_in IsWired (shown admitted_by t) b (subst (In b) (begun_same start a) (held_in (begun start a t) b.number b (formed.1.empties b there))) all.admitted in w.same))
