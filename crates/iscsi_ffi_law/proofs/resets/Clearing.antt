-- Another session's reset marks the commands of a unit: each that isn't marked yet, and those that were told to start are told to stop.
use Rattle.std.proofs.Common.{◌≡◌, ℕ, ◌+◌, ◌<◌, ◌≤◌, ◌==◌, ◌&&◌, inl, inr, ⊎_elim, not, cond, Bool, true, false, List, [], ◌∷◌, ◌++◌, length, map, filter, count_by, refl, ap, sym, ◌∙◌, arith, lt-ltb, length-append}
use Rattle.std.proofs.lemmas.Bool.{false≢true, eqb-true, eq-eqb}
use Rattle.std.proofs.lemmas.List.{append_assoc, append-nil}
use Rattle.iscsi_rules.proofs.general.CountLemmas.{one, count-cons, count-filter, count-split, count-weaker}
use Rattle.iscsi_rules.proofs.general.BoolLemmas.{and_parts}
use Rattle.iscsi_rules.proofs.general.ElementLemmas.{In, filter-in}
use Rattle.iscsi_requests.specs.Cookies.{Cookies, cookie_at}
use Rattle.iscsi_ffi_rules.specs.declared.action.Action.{Action}
use Rattle.iscsi_ffi_rules.specs.declared.action.Action.TheVariants.{Stop}
use Rattle.iscsi_ffi_rules.specs.declared.action.StopReason.TheVariants.{Cleared as ClearedReason}
use Rattle.iscsi_ffi_commands.specs.declared.command.Command.{Command}
use Rattle.iscsi_ffi_commands.specs.declared.command.Stage.{Stage}
use Rattle.iscsi_ffi_commands.specs.declared.command.Stage.TheVariants.{Entered, Marked, Started, Cleared, Over}
use Rattle.iscsi_ffi_commands.specs.Commands.{has_ticket, in_stage}
use Rattle.iscsi_ffi_steps.specs.State.{State}
use Rattle.iscsi_ffi_steps.specs.Steps.{clear_each, clear_one}
use Rattle.iscsi_ffi_law.proofs.general.Members.{in_counted}
use Rattle.iscsi_ffi_steps.specs.Walk.{Doing, in_state, tell, with_stage}

-- what a command becomes
abbrev pub next_as : Command → Stage → Command
next_as c g = elim g [ Entered ↦ in_stage Marked c | Started ↦ in_stage Cleared c | Marked ↦ c | Cleared ↦ c | Over ↦ c ]

abbrev pub marked_next : Command → Command
marked_next c = next_as c c.stage

-- and what is told of it
abbrev pub stop_as : Cookies → Command → Stage → List Action
stop_as v c g = elim g [ Started ↦ Stop c.ticket (cookie_at c.request v) ClearedReason ∷ [] | Entered ↦ [] | Marked ↦ [] | Cleared ↦ [] | Over ↦ [] ]

abbrev pub stop_told : Cookies → Command → List Action
stop_told v c = stop_as v c c.stage

abbrev pub stops_told : Cookies → List Command → List Action
stops_told v [] = []
stops_told v (c ∷ cs) = stop_told v c ++ stops_told v cs

-- a command of the state, as this one is marked
abbrev marked_as : ℕ → Stage → Command → Command
marked_as ticket g x = elim g [ Entered ↦ cond (has_ticket ticket x) (in_stage Marked x) x | Started ↦ cond (has_ticket ticket x) (in_stage Cleared x) x | Marked ↦ x | Cleared ↦ x | Over ↦ x ]

abbrev one_marked : Command → Command → Command
one_marked c x = marked_as c.ticket c.stage x

abbrev all_marked : List Command → Command → Command
all_marked [] x = x
all_marked (c ∷ cs) x = all_marked cs (one_marked c x)

abbrev pub with_items : List Command → State → State
with_items items s = record s { commands = record s.commands { items = items } }

map_same : {A : Type 0} (f : A → A) (xs : List A) → ((x : A) → f x ≡ x) → map f xs ≡ xs
map_same f [] same = refl
map_same f (x ∷ xs) same = ap (λ y. y ∷ map f xs) (same x) ∙ ap (λ ys. x ∷ ys) (map_same f xs same)

map_twice : {A : Type 0} (f g : A → A) (xs : List A) → map g (map f xs) ≡ map (λ x. g (f x)) xs
map_twice f g [] = refl
map_twice f g (x ∷ xs) = ap (λ ys. g (f x) ∷ ys) (map_twice f g xs)

abbrev clear_as : Command → Doing → Stage → Doing
clear_as c d g = elim g [
  | Entered ↦ in_state (with_stage Marked c.ticket) d
  | Started ↦ in_state (with_stage Cleared c.ticket) (tell (Stop c.ticket (cookie_at c.request d.state.cookies) ClearedReason) d)
  | Marked ↦ d
  | Cleared ↦ d
  | Over ↦ d
]

one_done : (c : Command) (d : Doing) → length d.actions < d.state.room
    → clear_one c d ≡ record { state = with_items (map (one_marked c) d.state.commands.items) d.state; actions = d.actions ++ stop_told d.state.cookies c; forgets = d.forgets }
one_done c d room = by_stage (c.stage)
  where
    nothing : d ≡ record { state = with_items (map (λ (x : Command). x) d.state.commands.items) d.state; actions = d.actions ++ []; forgets = d.forgets }
    nothing =
        ap (λ xs. record { state = with_items xs d.state; actions = d.actions; forgets = d.forgets }) (sym (map_same (λ (x : Command). x) d.state.commands.items (λ x. refl)))
        ∙ ap (λ (xs : List Action). record { state = with_items (map (λ (x : Command). x) d.state.commands.items) d.state; actions = xs; forgets = d.forgets }) (sym (append-nil d.actions))

    by_stage : (g : Stage) → clear_as c d g ≡ record { state = with_items (map (marked_as c.ticket g) d.state.commands.items) d.state; actions = d.actions ++ stop_as d.state.cookies c g; forgets = d.forgets }
    by_stage Entered = ap (λ (xs : List Action). record { state = with_items (map (marked_as c.ticket Entered) d.state.commands.items) d.state; actions = xs; forgets = d.forgets }) (sym (append-nil d.actions))
    by_stage Started = ap (λ v. record { state = with_items (map (marked_as c.ticket Started) d.state.commands.items) d.state; actions = cond v (d.actions ++ Stop c.ticket (cookie_at c.request d.state.cookies) ClearedReason ∷ []) d.actions; forgets = d.forgets }) (lt-ltb (length d.actions) d.state.room room)
    by_stage Marked = nothing
    by_stage Cleared = nothing
    by_stage Over = nothing

pub few_told : (v : Cookies) (c : Command) → length (stop_told v c) ≤ 1
few_told v c = by_stage (c.stage)
  where
    by_stage : (g : Stage) → length (stop_as v c g) ≤ 1
    by_stage Entered = omega arith
    by_stage Started = omega arith
    by_stage Marked = omega arith
    by_stage Cleared = omega arith
    by_stage Over = omega arith

-- all of these are
all_done : (cs : List Command) (d : Doing) → length d.actions + length cs ≤ d.state.room
    → clear_each cs d ≡ record { state = with_items (map (all_marked cs) d.state.commands.items) d.state; actions = d.actions ++ stops_told d.state.cookies cs; forgets = d.forgets }
all_done [] d room =
    ap (λ xs. record { state = with_items xs d.state; actions = d.actions; forgets = d.forgets }) (sym (map_same (λ (x : Command). x) d.state.commands.items (λ x. refl)))
    ∙ ap (λ (xs : List Action). record { state = with_items (map (λ (x : Command). x) d.state.commands.items) d.state; actions = xs; forgets = d.forgets }) (sym (append-nil d.actions))
all_done (c ∷ cs) d room =
    let long : length (d.actions ++ stop_told d.state.cookies c) ≡ length d.actions + length (stop_told d.state.cookies c) = length-append d.actions (stop_told d.state.cookies c) in
    let d' : Doing = record { state = with_items (map (one_marked c) d.state.commands.items) d.state; actions = d.actions ++ stop_told d.state.cookies c; forgets = d.forgets } in
    ap (clear_each cs) (one_done c d (omega (arith, room)))
    ∙ all_done cs d' (omega (arith, room, long, few_told d.state.cookies c))
    ∙ ap (λ xs. record { state = with_items xs d.state; actions = (d.actions ++ stop_told d.state.cookies c) ++ stops_told d.state.cookies cs; forgets = d.forgets }) (map_twice (one_marked c) (all_marked cs) d.state.commands.items)
    ∙ ap (λ (xs : List Action). record { state = with_items (map (all_marked (c ∷ cs)) d.state.commands.items) d.state; actions = xs; forgets = d.forgets }) (append_assoc d.actions (stop_told d.state.cookies c) (stops_told d.state.cookies cs))

-- ---- each of the unit, once

map_members : {A : Type 0} (f g : A → A) (xs : List A) → ((x : A) → In x xs → f x ≡ g x) → map f xs ≡ map g xs
map_members f g [] same = refl
map_members f g (x ∷ xs) same = ap (λ y. y ∷ map f xs) (same x (inl refl)) ∙ ap (λ ys. g x ∷ ys) (map_members f g xs (λ y there. same y (inr there)))

pub same_ticket : (c : Command) → (marked_next c).ticket ≡ c.ticket
same_ticket c = by_stage (c.stage)
  where
    by_stage : (g : Stage) → (next_as c g).ticket ≡ c.ticket
    by_stage Entered = refl
    by_stage Started = refl
    by_stage Marked = refl
    by_stage Cleared = refl
    by_stage Over = refl

pub same_unit : (c : Command) → (marked_next c).unit ≡ c.unit
same_unit c = by_stage (c.stage)
  where
    by_stage : (g : Stage) → (next_as c g).unit ≡ c.unit
    by_stage Entered = refl
    by_stage Started = refl
    by_stage Marked = refl
    by_stage Cleared = refl
    by_stage Over = refl

pub same_attr : (c : Command) → (marked_next c).attr ≡ c.attr
same_attr c = by_stage (c.stage)
  where
    by_stage : (g : Stage) → (next_as c g).attr ≡ c.attr
    by_stage Entered = refl
    by_stage Started = refl
    by_stage Marked = refl
    by_stage Cleared = refl
    by_stage Over = refl

pub same_request : (c : Command) → (marked_next c).request ≡ c.request
same_request c = by_stage (c.stage)
  where
    by_stage : (g : Stage) → (next_as c g).request ≡ c.request
    by_stage Entered = refl
    by_stage Started = refl
    by_stage Marked = refl
    by_stage Cleared = refl
    by_stage Over = refl

by_itself : (c : Command) → one_marked c c ≡ marked_next c
by_itself c = by_stage (c.stage)
  where
    by_stage : (g : Stage) → marked_as c.ticket g c ≡ next_as c g
    by_stage Entered = ap (λ v. cond v (in_stage Marked c) c) (eq-eqb c.ticket c.ticket refl)
    by_stage Started = ap (λ v. cond v (in_stage Cleared c) c) (eq-eqb c.ticket c.ticket refl)
    by_stage Marked = refl
    by_stage Cleared = refl
    by_stage Over = refl

by_another : (c x : Command) → has_ticket c.ticket x ≡ false → one_marked c x ≡ x
by_another c x other = by_stage (c.stage)
  where
    by_stage : (g : Stage) → marked_as c.ticket g x ≡ x
    by_stage Entered = ap (λ v. cond v (in_stage Marked x) x) other
    by_stage Started = ap (λ v. cond v (in_stage Cleared x) x) other
    by_stage Marked = refl
    by_stage Cleared = refl
    by_stage Over = refl

-- the two ways round
turned : (a b : ℕ) → (a == b) ≡ false → (b == a) ≡ false
turned a b other = by_test (b == a) refl
  where
    by_test : (v : Bool) → (b == a) ≡ v → (b == a) ≡ false
    by_test true same = absurd (false≢true (sym other ∙ eq-eqb a b (sym (eqb-true b a same))))
    by_test false is = is

-- none of these is it
left_alone : (cs : List Command) (x : Command) → count_by (has_ticket x.ticket) cs ≡ 0 → all_marked cs x ≡ x
left_alone [] x none = refl
left_alone (c ∷ cs) x none =
    by_test (has_ticket x.ticket c) refl (left_alone cs x (omega (arith, none, count-cons (has_ticket x.ticket) c cs)))
  where
    by_test : (v : Bool) → has_ticket x.ticket c ≡ v → all_marked cs x ≡ x → all_marked (c ∷ cs) x ≡ x
    by_test true same rest = absurd (let here : one (has_ticket x.ticket c) ≡ 1 = ap one same in let wrong : ⊥ = omega (arith, here, none, count-cons (has_ticket x.ticket) c cs) in wrong)
    by_test false other rest = ap (all_marked cs) (by_another c x (turned c.ticket x.ticket other)) ∙ rest

one_none : (v : Bool) → one v ≡ 0 → v ≡ false
one_none true e = absurd (let wrong : ⊥ = omega (arith, e) in wrong)
one_none false e = refl

-- one of these is it
marked_once : (cs : List Command) (x : Command) → count_by (has_ticket x.ticket) cs ≤ 1 → In x cs → all_marked cs x ≡ marked_next x
marked_once [] x once there = absurd there
marked_once (c ∷ cs) x once there = ⊎_elim (λ same. here same) (λ later. behind later (marked_once cs x (omega (arith, once, count-cons (has_ticket x.ticket) c cs)) later)) there
  where
    here : c ≡ x → all_marked (c ∷ cs) x ≡ marked_next x
    here same =
        let first : one (has_ticket x.ticket c) ≡ 1 = ap one (eq-eqb c.ticket x.ticket (ap (λ (y : Command). y.ticket) same)) in
        let none : count_by (has_ticket x.ticket) cs ≡ 0 = omega (arith, first, once, count-cons (has_ticket x.ticket) c cs) in
        ap (λ y. all_marked cs (one_marked y x)) same ∙ ap (all_marked cs) (by_itself x)
        ∙ left_alone cs (marked_next x) (ap (λ t. count_by (has_ticket t) cs) (same_ticket x) ∙ none)

    behind : In x cs → all_marked cs x ≡ marked_next x → all_marked (c ∷ cs) x ≡ marked_next x
    behind later rest =
        let some : 1 ≤ count_by (has_ticket x.ticket) cs = in_counted (has_ticket x.ticket) cs x later (eq-eqb x.ticket x.ticket refl) in
        let first : one (has_ticket x.ticket c) ≡ 0 = omega (arith, some, once, count-cons (has_ticket x.ticket) c cs) in
        ap (all_marked cs) (by_another c x (turned c.ticket x.ticket (one_none (has_ticket x.ticket c) first))) ∙ rest

-- a command, as those of this unit are marked
abbrev pub marked_in : ℕ → Command → Command
marked_in unit c = cond (c.unit == unit) (marked_next c) c

module _ (unit : ℕ) (items : List Command) (numbered : (ticket : ℕ) → count_by (has_ticket ticket) items ≤ 1) where
  these_marked : map (all_marked (filter (λ (c : Command). c.unit == unit) items)) items ≡ map (marked_in unit) items
  these_marked = map_members (all_marked (filter (λ (c : Command). c.unit == unit) items)) (marked_in unit) items (λ x there. by_unit x there (x.unit == unit) refl)
    where
      fewer : (x : Command) → count_by (has_ticket x.ticket) (filter (λ (c : Command). c.unit == unit) items) ≤ count_by (has_ticket x.ticket) items
      fewer x =
          omega (arith, count-filter (has_ticket x.ticket) (λ (c : Command). c.unit == unit) items, count-weaker (λ (c : Command). (c.unit == unit) && has_ticket x.ticket c) (has_ticket x.ticket) items (λ c k. (and_parts (c.unit == unit) (has_ticket x.ticket c) k).1))

      by_unit : (x : Command) → In x items → (v : Bool) → (x.unit == unit) ≡ v → all_marked (filter (λ (c : Command). c.unit == unit) items) x ≡ cond v (marked_next x) x
      by_unit x there true is = marked_once (filter (λ (c : Command). c.unit == unit) items) x (omega (arith, fewer x, numbered x.ticket)) (filter-in (λ (c : Command). c.unit == unit) items x there is)
      by_unit x there false is =
          left_alone (filter (λ (c : Command). c.unit == unit) items) x (others x there is)
        where
          others : (y : Command) → In y items → (y.unit == unit) ≡ false → count_by (has_ticket y.ticket) (filter (λ (c : Command). c.unit == unit) items) ≡ 0
          others y at isnt =
              let split = count-split (has_ticket y.ticket) (λ (c : Command). c.unit == unit) items in
              let here : 1 ≤ count_by (has_ticket y.ticket) (filter (λ (c : Command). not (c.unit == unit)) items)
              = in_counted (has_ticket y.ticket) (filter (λ (c : Command). not (c.unit == unit)) items) y (filter-in (λ (c : Command). not (c.unit == unit)) items y at (ap not isnt)) (eq-eqb y.ticket y.ticket refl) in
              omega (arith, split, here, numbered y.ticket, count-filter (has_ticket y.ticket) (λ (c : Command). not (c.unit == unit)) items, count-filter (has_ticket y.ticket) (λ (c : Command). c.unit == unit) items)

  -- what becomes of the commands, and what is told
  pub cleared_to : (d : Doing) → d.state.commands.items ≡ items → length d.actions + length (filter (λ (c : Command). c.unit == unit) items) ≤ d.state.room
      → clear_each (filter (λ (c : Command). c.unit == unit) items) d ≡ record { state = with_items (map (marked_in unit) items) d.state; actions = d.actions ++ stops_told d.state.cookies (filter (λ (c : Command). c.unit == unit) items); forgets = d.forgets }
  cleared_to d same room =
      all_done (filter (λ (c : Command). c.unit == unit) items) d room
      ∙ ap (λ xs. record { state = with_items xs d.state; actions = d.actions ++ stops_told d.state.cookies (filter (λ (c : Command). c.unit == unit) items); forgets = d.forgets })
      (ap (map (all_marked (filter (λ (c : Command). c.unit == unit) items))) same ∙ these_marked)
