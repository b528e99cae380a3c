-- A request executes by which commands leave: its head is that of an item by which none does.
use Rattle.std.proofs.Common.{◌≡◌, ℕ, ◌+◌, ◌≤◌, ◌==◌, ◌&&◌, ◌||◌, cond, Bool, false, List, ◌∷◌, ◌++◌, count_by, filter_map, find, Option, Some, None, is_some, refl, ap, sym, subst, ◌∙◌}
use Rattle.std.specs.List.{list_any}
use Rattle.iscsi_wire.specs.declared.reply.Reply.{Reply}
use Rattle.iscsi_rules.specs.rules.Trace.{Arrival, Command as RulesCommand, Mark, Trace, admits_at, delivers_number, empties_number, first_of, held, is_delivered, is_emptied, shown, waiting}
use Rattle.iscsi_rules.proofs.items.Forms.{AfterWaiting, AtArrival, AtTurn, Start}
use Rattle.iscsi_outbox_law.proofs.general.PairLemmas.{each-weaken}
use Rattle.iscsi_requests.specs.Numbers.{size_for}
use Rattle.iscsi_ffi_rules.specs.rules.Calls.{Interface}
use Rattle.iscsi_ffi_rules.specs.rules.Needs.{admitted_by, is_held, is_of_event}
use Rattle.iscsi_ffi_rules.specs.rules.Run.{cids}
use Rattle.iscsi_ffi_rules.specs.rules.Sides.{Side}
use Rattle.iscsi_ffi_steps.specs.State.{State}
use Rattle.iscsi_ffi_law.specs.Arrived.{AreDistinct, is_late}
use Rattle.iscsi_ffi_law.specs.Names.{Name, Note}
use Rattle.iscsi_ffi_law.specs.Parts.{AreFunctions, IsRequest}
use Rattle.iscsi_ffi_law.proofs.items.Between.{IsHeaded}
use Rattle.iscsi_ffi_law.proofs.aborts.Leaving.{any_plain, left_item, shows_plain, waits_plain}
use Rattle.iscsi_ffi_law.proofs.items.Plain.{plain_item}
use Rattle.iscsi_ffi_law.proofs.arrivals.Slots.{slots_same}

module _ (t : Trace) (start : Start) (a : Arrival) (void : Option ℕ) (cs : List RulesCommand) (reply : Option Reply) where
  abbrev left : List Mark
  left = left_item start a void cs reply

  abbrev plain : List Mark
  plain = plain_item start a void None reply

  admitted_same : shown admitted_by (left_item start a void cs reply ∷ t) ≡ shown admitted_by (plain_item start a void None reply ∷ t)
  admitted_same = ap (λ xs. shown admitted_by t ++ xs) (shows_plain admitted_by (λ c. refl) start a void cs reply)

  held_same : (n : ℕ) → held (left_item start a void cs reply ∷ t) n ≡ held (plain_item start a void None reply ∷ t) n
  held_same n =
      ap (λ v. cond ((v || is_delivered t n) || (list_any (empties_number n) left || is_emptied t n)) None (first_of (shown (admits_at n) t ++ filter_map (admits_at n) left))) (any_plain (delivers_number n) (λ c. refl) start a void cs reply)
      ∙ ap (λ v. cond ((list_any (delivers_number n) plain || is_delivered t n) || (v || is_emptied t n)) None (first_of (shown (admits_at n) t ++ filter_map (admits_at n) left))) (any_plain (empties_number n) (λ c. refl) start a void cs reply)
      ∙ ap (λ xs. cond ((list_any (delivers_number n) plain || is_delivered t n) || (list_any (empties_number n) plain || is_emptied t n)) None (first_of (shown (admits_at n) t ++ xs))) (shows_plain (admits_at n) (λ c. refl) start a void cs reply)

  is_held_same : (event : ℕ) → is_held event (left_item start a void cs reply ∷ t) ≡ is_held event (plain_item start a void None reply ∷ t)
  is_held_same event = ap by_shown admitted_same ∙ by_found (find (is_of_event event) (shown admitted_by (plain_item start a void None reply ∷ t)))
    where
      by_shown : List Arrival → Bool
      by_shown xs = elim (find (is_of_event event) xs) [ Some b ↦ is_some (held (left_item start a void cs reply ∷ t) b.number) | None ↦ false ]

      by_found : (x : Option Arrival) → ◌≡◌ {A = Bool} (elim x [ Some b ↦ is_some (held (left_item start a void cs reply ∷ t) b.number) | None ↦ false ]) (elim x [ Some b ↦ is_some (held (plain_item start a void None reply ∷ t) b.number) | None ↦ false ])
      by_found None = refl
      by_found (Some b) = ap is_some (held_same b.number)

  distinct_left : AreDistinct (plain_item start a void None reply ∷ t) → AreDistinct (left_item start a void cs reply ∷ t)
  distinct_left d = record {
    numbers = λ n. subst (λ xs. count_by (λ (x : Arrival). x.number == n) xs ≤ 1) (sym admitted_same) (d.numbers n);
    events = λ e. subst (λ xs. count_by (λ (x : Arrival). x.event == e) xs + count_by (λ (x : Arrival). x.event == e) (waiting (left_item start a void cs reply ∷ t)) ≤ 1) (sym admitted_same)
        (subst (λ ws. count_by (λ (x : Arrival). x.event == e) (shown admitted_by (plain_item start a void None reply ∷ t)) + count_by (λ (x : Arrival). x.event == e) ws ≤ 1) (sym (waits_plain t start a void cs reply)) (d.events e));
  }

late_same : (now : ℕ) (start : Start) (a : Arrival) (void : Option ℕ) (cs : List RulesCommand) (reply : Option Reply) → is_late now (left_item start a void cs reply) ≡ is_late now (plain_item start a void None reply)
late_same now AtTurn a void cs reply = refl
late_same now AtArrival a void cs reply = refl
late_same now AfterWaiting a void cs reply = refl

module _ (i : Interface) (names : List Name) (notes : List Note) (s : State) (r : Side) (own : Option ℕ) (xs : List (Option ℕ)) (start : Start) (a : Arrival) (void : Option ℕ) (cs : List RulesCommand) (reply : Option Reply)
    (h : IsHeaded i names notes s r own xs (plain_item start a void None reply) start a) where
  pub headed_left : IsHeaded i names notes s r own xs (left_item start a void cs reply) start a
  headed_left = record {
    held = h.held;
    functions = h.functions;
    place = h.place;
    long = h.long;
    long_functions = h.long_functions;
    functions_are = subst (AreFunctions (cids i) names h.functions) (sym (waits_plain r.both.trace start a void cs reply)) h.functions_are;
    named = h.named;
    uses = h.uses;
    fewer = h.fewer;
    requests = each-weaken (IsRequest (record s { held = h.held; functions = h.functions }) (plain_item start a void None reply ∷ r.both.trace)) (IsRequest (record s { held = h.held; functions = h.functions }) (left_item start a void cs reply ∷ r.both.trace)) names
        (λ n e. record { held = is_held_same r.both.trace start a void cs reply n.event ∙ e.held; waiting = ap (list_any (is_of_event n.event)) (waits_plain r.both.trace start a void cs reply) ∙ e.waiting }) h.requests;
    noted = h.noted;
    slots = slots_same (size_for i.outbox.session.window) s.commands.room names h.held (plain_item start a void None reply ∷ r.both.trace) (left_item start a void cs reply ∷ r.both.trace) (held_same r.both.trace start a void cs reply) h.slots;
    distinct = distinct_left r.both.trace start a void cs reply h.distinct;
    fresh = h.fresh;
    over = h.over;
    by = h.by;
    why = h.why;
    walk = λ o limits acts first sent late. h.walk o limits acts first sent (ap (λ v. first && v) (sym (late_same r.both.event start a void cs reply)) ∙ late);
  }
