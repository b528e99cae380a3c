-- The Logout by which the session hears that a connection was lost begins to execute.
use Rattle.std.proofs.Common.{◌≡◌, ℕ, ◌<◌, ◌==◌, not, List, ◌∷◌, count_by, Option, None, refl, ap, sym, subst, ◌∙◌, arith, ne_eqb}
use Rattle.std.specs.List.{list_any}
use Rattle.iscsi_rules.specs.rules.Trace.{Arrival, waiting}
use Rattle.iscsi_rules.proofs.items.Forms.{AtArrival}
use Rattle.iscsi_outbox_law.specs.private.Pairs.{EachOf}
use Rattle.iscsi_outbox_law.proofs.general.PairLemmas.{each-weaken}
use Rattle.iscsi_requests.specs.Numbers.{size_for}
use Rattle.iscsi_ffi_rules.specs.rules.Calls.{Interface}
use Rattle.iscsi_ffi_rules.specs.rules.Needs.{is_of_event}
use Rattle.iscsi_ffi_rules.specs.rules.Run.{cids}
use Rattle.iscsi_ffi_rules.specs.rules.Sides.{Side}
use Rattle.iscsi_ffi_steps.specs.State.{State}
use Rattle.iscsi_ffi_law.specs.Names.{Name, Note}
use Rattle.iscsi_ffi_law.specs.Parts.{AreFunctions, IsRequest}
use Rattle.iscsi_ffi_law.proofs.requests.Kept.{filter_all}
use Rattle.iscsi_ffi_law.proofs.general.Members.{each_in}
use Rattle.iscsi_ffi_law.proofs.items.Plain.{plain_item, waits_arrival}
use Rattle.iscsi_ffi_law.proofs.items.QuietItems.{IsUnheld, is_held_on}
use Rattle.iscsi_ffi_law.proofs.arrivals.Slots.{slots_same}
use Rattle.iscsi_ffi_law.proofs.items.Between.{IsBetween, arrival_unheld, distinct_same, held_same}
use Rattle.iscsi_ffi_law.proofs.items.TakingOut.{IsOut}

module _ (i : Interface) (names : List Name) (notes : List Note) (s : State) (r : Side) (xs : List (Option ℕ)) (k : IsBetween i names notes s r None xs) (a : Arrival) (now : a.event ≡ r.both.event)
    (before : EachOf (λ (b : Arrival). b.event < r.both.event) (waiting r.both.trace)) where
  u : IsUnheld (plain_item AtArrival a None None None)
  u = arrival_unheld a None None None

  waits : waiting (plain_item AtArrival a None None None ∷ r.both.trace) ≡ waiting r.both.trace
  waits = waits_arrival r.both.trace a None None None
      ∙ filter_all (λ (b : Arrival). not (b.event == a.event)) (waiting r.both.trace)
      (λ b there. ap not (ne_eqb b.event a.event (λ same. let lt : b.event < r.both.event = each_in (λ (x : Arrival). x.event < r.both.event) (waiting r.both.trace) b there before in let none : ⊥ = omega (arith, same, lt, now) in none)))

  -- it has begun to execute, and has no request
  pub lost_begun : IsOut i names notes s r None xs (plain_item AtArrival a None None None ∷ r.both.trace) None xs s.held s.functions
  lost_begun = record {
    long = refl;
    long_functions = refl;
    functions_are = subst (AreFunctions (cids i) names s.functions) (sym waits) k.functions;
    uses = λ p. refl;
    fewer = omega arith;
    requests = each-weaken (IsRequest s r.both.trace) (IsRequest s (plain_item AtArrival a None None None ∷ r.both.trace)) names
        (λ n e. record { held = is_held_on r.both.trace (plain_item AtArrival a None None None) u n.event ∙ e.held; waiting = ap (list_any (is_of_event n.event)) waits ∙ e.waiting }) k.requests.named;
    noted = k.requests.noted_apart;
    slots = slots_same (size_for i.outbox.session.window) s.commands.room names s.held r.both.trace (plain_item AtArrival a None None None ∷ r.both.trace) (held_same r.both.trace (plain_item AtArrival a None None None) u) k.slots;
    distinct = distinct_same r.both.trace (plain_item AtArrival a None None None) u (λ e. let same = ap (count_by (λ (x : Arrival). x.event == e)) waits in omega (arith, same)) k.distinct;
    over = k.over;
  }
