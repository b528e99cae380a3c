-- A command is found by its ticket, since tickets go up along the set.
use Rattle.std.proofs.Common.{◌≡◌, ℕ, ◌<◌, ◌==◌, ◌&&◌, ◌≢◌, cond, Bool, true, false, List, [], ◌∷◌, length, map, find, position, get_or, All, Some, None, option_map, slice_get, refl, ap, ◌∙◌, arith, ⊎_elim, ne_eqb, eq-eqb}
use Rattle.std.specs.List.{list_any, position_or_len}
use Rattle.std.proofs.lemmas.Bool.{cases_Bool, and_from, and_left, and_right}
use Rattle.std.proofs.lemmas.List.{get_or_default}
use Rattle.std.proofs.lemmas.Option.{slice_get-get_or}
use Rattle.std.proofs.lemmas.List.Folds.{find_at, list_any_at, list_any_none}
use Rattle.std.proofs.lemmas.List.Elements.{All-head, All-tail}
use Rattle.iscsi_tasks.proofs.Names.{nat_tests, Member, InOrder, is_enabled_with, is_enabled_in, with_ticket}
use Rattle.iscsi_tasks.proofs.ListLemmas.{find-map}
use Rattle.iscsi_tasks.proofs.PlaceLemmas.{place_is, no_place, position_of, position_none}

-- ---- the command at a place

-- the first that passes is the one at the first place that does
pub find_place : {X : Type 0} (p : X → Bool) (xs : List X) (k : ℕ) (d : X) → position_or_len p xs ≡ k → k < length xs → find p xs ≡ Some (get_or xs k d)
find_place p xs k d is within = find_at p xs ∙ ap (slice_get xs) is ∙ slice_get-get_or xs k d within

pub find_nowhere : {X : Type 0} (p : X → Bool) (xs : List X) → All (λ x. p x ≡ false) xs → find p xs ≡ None
find_nowhere p [] none = refl
find_nowhere p (x ∷ xs) none = ap (λ b. cond b (Some x) (find p xs)) (All-head (λ y. p y ≡ false) x xs none) ∙ find_nowhere p xs (All-tail (λ y. p y ≡ false) x xs none)

module _ (list : List Member) (order : InOrder list) (ticket k : ℕ) (within : k < length list) (here : (d : Member) → (get_or list k d).task.ticket ≡ ticket) where
  apart : (j : ℕ) (d : Member) → j < length list → j ≢ k → ((get_or list j d).task.ticket == ticket) ≡ false
  apart j d l ne = grind (arith, nat_tests, ne_eqb)

  pub found : (d : Member) → with_ticket ticket (map (λ m. m.task) list) ≡ Some (get_or list k d).task
  found d = grind (arith, nat_tests, place_is, apart, eq-eqb, find-map, find_place)

  pub enabled_at : (d : Member) → (get_or list k d).enabled ≡ is_enabled_in ticket list
  enabled_at d = grind (arith, nat_tests, list_any_at, and_from, eq-eqb, list_any_none, and_right, get_or_default, and_left, apart)

  -- and of the one that was read there
  pub enabled_read : (m : Member) → ((d : Member) → m ≡ get_or list k d) → m.enabled ≡ is_enabled_in ticket list
  enabled_read m read = ap (λ (x : Member). x.enabled) (read m) ∙ enabled_at m

pub not_found : (list : List Member) (ticket : ℕ) → All (λ m. (m.task.ticket == ticket) ≡ false) list → with_ticket ticket (map (λ m. m.task) list) ≡ None
not_found list ticket none = find-map (λ t. t.ticket == ticket) (λ m. m.task) list ∙ ap (option_map (λ (m : Member). m.task)) (find_nowhere (λ m. m.task.ticket == ticket) list none)

pub not_enabled : (list : List Member) (ticket : ℕ) → All (λ m. (m.task.ticket == ticket) ≡ false) list → is_enabled_in ticket list ≡ false
not_enabled list ticket none = list_any_none (λ m. m.task.ticket == ticket && m.enabled) list (λ j e l. and_left _ _ (none j e l))

-- where no element passes, none at a place does
none_passes : {X : Type 0} (p : X → Bool) (xs : List X) → list_any p xs ≡ false → (k : ℕ) (d : X) → k < length xs → p (get_or xs k d) ≡ false
none_passes p xs none k d within = ⊎_elim (λ passes. absurd (let yes = list_any_at p xs k d within passes in cc)) (λ fails. fails) (cases_Bool (p (get_or xs k d)))

-- so there is no place of one that is enabled
pub enabled_nowhere : (list : List Member) (ticket : ℕ) → is_enabled_in ticket list ≡ false → None ≡ position (is_enabled_with ticket) list
enabled_nowhere list ticket off = position_none (is_enabled_with ticket) list (no_place (is_enabled_with ticket) list (λ j d l. none_passes (is_enabled_with ticket) list off j d l))

-- and else it is that of the command with the ticket
pub enabled_here : (list : List Member) (order : InOrder list) (ticket k : ℕ) (within : k < length list) (here : (d : Member) → (get_or list k d).task.ticket ≡ ticket) (d : Member) → (get_or list k d).enabled ≡ true → Some k ≡ position (is_enabled_with ticket) list
enabled_here list order ticket k within here d is =
    position_of (is_enabled_with ticket) list k
    (place_is (is_enabled_with ticket) list k d within (λ j l. and_left _ _ (apart list order ticket k within here j d (omega arith) (λ e. omega arith))) (and_from _ _ (eq-eqb _ _ (here d)) is))
    within
