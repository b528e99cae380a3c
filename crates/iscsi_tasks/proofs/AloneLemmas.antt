-- A command enters a set in which none waits for its ticket to be given, and its own is given at once if it is enabled.
use Rattle.std.proofs.Common.{◌≡◌, ◌∙◌, ◌++◌, ◌<◌, cond, Bool, false, List, [], ◌∷◌, All, Some, None, Option, ℕ, refl, ap, sym, subst, arith}
use Rattle.std.proofs.lemmas.List.Elements.{All-head, All-tail}
use Rattle.std.proofs.lemmas.List.Quantifiers.{all_pairs_push}
use Rattle.iscsi_tasks.proofs.Names.{nat_tests, Task, Member, Members, InOrder, IsNewest, entered_to, is_new, given_in, given_by, next_in, Change, Entered}
use Rattle.iscsi_tasks.proofs.Names.{AllBelow, StandsFor, next_after, after_giving, taken_in}
use Rattle.iscsi_tasks.proofs.GivingLemmas.{given_in_old, next_in_old, StandsFor-giving}
use Rattle.iscsi_tasks.proofs.HistoryLemmas.{StandsFor-entered}

given_last : (list : List Member) (m : Member) → All (λ x. is_new x ≡ false) list → given_in (list ++ m ∷ []) ≡ list ++ given_in (m ∷ [])
given_last [] m none = refl
given_last (x ∷ xs) m none =
    given_in_old x (xs ++ m ∷ []) (All-head (λ y. is_new y ≡ false) x xs none) ∙ ap (λ r. x ∷ r) (given_last xs m (All-tail (λ y. is_new y ≡ false) x xs none))

next_last : (list : List Member) (m : Member) → All (λ x. is_new x ≡ false) list → next_in (list ++ m ∷ []) ≡ next_in (m ∷ [])
next_last [] m none = refl
next_last (x ∷ xs) m none =
    next_in_old x (xs ++ m ∷ []) (All-head (λ y. is_new y ≡ false) x xs none) ∙ next_last xs m (All-tail (λ y. is_new y ≡ false) x xs none)

module _ (s : Members) (task : Task) (none : All (λ m. is_new m ≡ false) s.list) where
  taken_given : (e : Bool) → given_by (taken_in s task e false) ≡ taken_in s task e e
  taken_given e = grind (arith, nat_tests, given_last)

  taken_next : (e : Bool) → next_in (taken_in s task e false).list ≡ cond e (Some task.ticket) None
  taken_next e = grind (arith, nat_tests, next_last)

  module _ (e : Bool) (entered : entered_to s task ≡ taken_in s task e false) where
    -- the set, once it is given
    pub alone_state : given_by (entered_to s task) ≡ taken_in s task e e
    alone_state = ap given_by entered ∙ taken_given e

    -- its ticket is the next one
    pub alone_next : next_in (entered_to s task).list ≡ cond e (Some task.ticket) None
    alone_next = ap (λ (t : Members). next_in t.list) entered ∙ taken_next e

    pub alone_stands : InOrder s.list → IsNewest task.ticket s → (h : List Change) → StandsFor s h → AllBelow task.ticket h → (r : Option ℕ) (new : Members) → r ≡ next_in (entered_to s task).list → new ≡ given_by (entered_to s task) → (r ≡ next_after (Entered task ∷ h)) × StandsFor new (after_giving r (Entered task ∷ h))
    alone_stands order newest h st below r new next state =
        let last : Member = record { task = task; enabled = e; given = false } in
        let up : InOrder (entered_to s task).list = subst (λ (t : Members). InOrder t.list) (sym entered) (all_pairs_push (λ (a b : Member). a.task.ticket < b.task.ticket) s.list last order newest) in
        let both = StandsFor-giving (entered_to s task) (Entered task ∷ h) up (StandsFor-entered s task h st below) in
        grind (arith, nat_tests)
