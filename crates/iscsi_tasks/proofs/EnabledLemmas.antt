-- A flag tells that there was a moment.
use Rattle.std.proofs.Common.{◌≡◌, ◌↔◌, ℕ, ◌<◌, ◌==◌, ◌&&◌, Bool, IsTrue, true, false, List, [], ◌∷◌, ◌++◌, length, get_or, ap, sym, ◌∙◌, arith}
use Rattle.std.proofs.lemmas.Bool.{or_cases, or_left, or_right, and_parts, eqb-true}
use Rattle.std.proofs.lemmas.List.{length-map, get_or-map}
use Rattle.std.proofs.lemmas.List.Folds.{Any-from_list_any, list_any_at}
use Rattle.iscsi_tasks.proofs.Names.{nat_tests, Task, Member, Members, is_enabled_in, Change, Entered, Left, Gave, live, is_free_in, was_free, IsMoment}
use Rattle.iscsi_tasks.proofs.Names.{WasFree, IsEnabled, StandsFor}

WasFree-more : (task : Task) (c : Change) (h : List Change) → WasFree task h → WasFree task (c ∷ h)
WasFree-more task c h (later, earlier, parts, moment, free) = (c ∷ later, earlier, ap (λ r. c ∷ r) parts, moment, free)

-- a flag that is set has its moment
pub moment_of : (task : Task) (h : List Change) → was_free task h ≡ true → WasFree task h
moment_of task [] was = cc
moment_of task (Entered t ∷ h) was = grind (arith, nat_tests, moment_of task h, WasFree-more, or_cases)
moment_of task (Left ticket ∷ h) was = grind (arith, nat_tests, moment_of task h, WasFree-more, or_cases)
moment_of task (Gave ticket ∷ h) was = WasFree-more task (Gave ticket) h (moment_of task h was)

at_moment : (task : Task) (h : List Change) → IsMoment h → is_free_in task (live h) ≡ true → was_free task h ≡ true
at_moment task h moment free = grind (arith, nat_tests, or_left)

stays : (task : Task) (later earlier : List Change) → was_free task earlier ≡ true → was_free task (later ++ earlier) ≡ true
stays task [] earlier was = was
stays task (Entered t ∷ later) earlier was = or_right _ _ (stays task later earlier was)
stays task (Left ticket ∷ later) earlier was = or_right _ _ (stays task later earlier was)
stays task (Gave ticket ∷ later) earlier was = stays task later earlier was

-- and a moment sets the flag
pub flag_of : (task : Task) (h : List Change) → WasFree task h → was_free task h ≡ true
flag_of task h (later, earlier, parts, moment, free) = ap (was_free task) parts ∙ stays task later earlier (at_moment task earlier moment free)

-- ---- the members of a set

module _ (s : Members) (h : List Change) (st : StandsFor s h) where
  long : length (live h) ≡ length s.list
  long = ap length (sym st.tasks) ∙ length-map s.list (λ m. m.task)

  task_at : (k : ℕ) (d : Member) → k < length s.list → get_or (live h) k d.task ≡ (get_or s.list k d).task
  task_at k d within = ap (λ ts. get_or ts k d.task) (sym st.tasks) ∙ get_or-map (λ m. m.task) s.list k d d.task within

  pub enabled_told : (ticket : ℕ) → is_enabled_in ticket s.list ≡ true → IsEnabled ticket h
  enabled_told ticket told = grind (arith, nat_tests, Any-from_list_any, and_parts, task_at, long, eqb-true, moment_of)

  pub told_enabled : (ticket : ℕ) → IsEnabled ticket h → is_enabled_in ticket s.list ≡ true
  told_enabled ticket (task, same, (k, inside, in_live), was) =
      let within : k < length s.list = omega (arith, long) in
      let d : Member = record { task = task; enabled = false; given = false } in
      grind (arith, nat_tests, task_at k d within, flag_of task h was, st.enabled k d within, list_any_at (λ x. x.task.ticket == ticket && x.enabled) s.list k d within)

-- the flag, in terms of the history
pub enabled_is : (s : Members) (ticket : ℕ) (b : Bool) → b ≡ is_enabled_in ticket s.list → (h : List Change) → StandsFor s h → IsTrue b ↔ IsEnabled ticket h
enabled_is s ticket b is h st = (λ on. enabled_told s h st ticket (sym is ∙ on), λ enabled. is ∙ told_enabled s h st ticket enabled)
