-- An item by which no number is received or taken out: what is held stays held; and where no command leaves, none stops.
use Rattle.std.proofs.Common.{◌≡◌, ℕ, ◌||◌, cond, Bool, false, List, [], ◌∷◌, ◌++◌, map, filter, filter_map, find, Option, Some, None, is_some, refl, ap, ◌∙◌}
use Rattle.std.specs.List.{list_any}
use Rattle.std.proofs.lemmas.List.{append-nil}
use Rattle.iscsi_rules.specs.promises.Replies.{executed_in}
use Rattle.iscsi_rules.specs.rules.Trace.{Arrival, Mark, Trace, admits_at, delivers_number, empties_number, first_of, held, is_delivered, is_emptied, shown}
use Rattle.iscsi_ffi_rules.specs.declared.action.Action.{Action}
use Rattle.iscsi_ffi_rules.specs.rules.Happening.{is_started, leaving, reason_of, stop, stops_in}
use Rattle.iscsi_ffi_rules.specs.rules.Needs.{admitted_by, is_held, is_of_event}
use Rattle.iscsi_ffi_rules.specs.rules.Sides.{Side}

-- ---- the session

-- nothing is received by it, or taken out of what is held
pub record IsUnheld (item : List Mark) : Type 0 where
  pub admits : filter_map admitted_by item ≡ []
  pub admits_none : (n : ℕ) → filter_map (admits_at n) item ≡ []
  pub delivers : (n : ℕ) → list_any (delivers_number n) item ≡ false
  pub empties : (n : ℕ) → list_any (empties_number n) item ≡ false

module _ (t : Trace) (item : List Mark) (u : IsUnheld item) where
  held_on : (n : ℕ) → held (item ∷ t) n ≡ held t n
  held_on n =
      ap (λ v. cond ((v || is_delivered t n) || (list_any (empties_number n) item || is_emptied t n)) None (first_of (shown (admits_at n) t ++ filter_map (admits_at n) item))) (u.delivers n)
      ∙ ap (λ v. cond (is_delivered t n || (v || is_emptied t n)) None (first_of (shown (admits_at n) t ++ filter_map (admits_at n) item))) (u.empties n)
      ∙ ap (λ xs. cond (is_delivered t n || is_emptied t n) None (first_of (shown (admits_at n) t ++ xs))) (u.admits_none n)
      ∙ ap (λ xs. cond (is_delivered t n || is_emptied t n) None (first_of xs)) (append-nil (shown (admits_at n) t))

  pub is_held_on : (event : ℕ) → is_held event (item ∷ t) ≡ is_held event t
  is_held_on event = ap (λ xs. by_shown (shown admitted_by t ++ xs)) u.admits ∙ ap by_shown (append-nil (shown admitted_by t)) ∙ by_found (find (is_of_event event) (shown admitted_by t))
    where
      by_shown : List Arrival → Bool
      by_shown xs = elim (find (is_of_event event) xs) [ Some a ↦ is_some (held (item ∷ t) a.number) | None ↦ false ]

      by_found : (x : Option Arrival) → ◌≡◌ {A = Bool} (elim x [ Some a ↦ is_some (held (item ∷ t) a.number) | None ↦ false ]) (elim x [ Some a ↦ is_some (held t a.number) | None ↦ false ])
      by_found None = refl
      by_found (Some a) = ap is_some (held_on a.number)

-- ---- what stops

-- nothing stops by an item by which no command leaves
pub stops_none : (r : Side) (item : List Mark) → filter_map leaving item ≡ [] → stops_in r item ≡ []
stops_none r item none = ap (λ cs. elim (executed_in item) as (λ (z : Option Arrival). List Action) [ Some a ↦ map (stop r (reason_of r.asked a)) (filter (is_started r) cs) | None ↦ [] ]) none ∙ by_executed (executed_in item)
  where
    by_executed : (z : Option Arrival) → ◌≡◌ {A = List Action} (elim z [ Some a ↦ map (stop r (reason_of r.asked a)) (filter (is_started r) []) | None ↦ [] ]) []
    by_executed None = refl
    by_executed (Some a) = refl
