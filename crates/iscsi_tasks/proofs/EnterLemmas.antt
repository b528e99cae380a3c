-- A command enters: it alone may become enabled.
use Rattle.std.proofs.Common.{◌≡◌, ℕ, ◌<◌, ◌==◌, ◌||◌, ◌&&◌, ◌≢◌, Bool, true, false, List, [], ◌∷◌, ◌++◌, length, get_or, All, refl, ap, sym, ◌∙◌, arith, ⊎_elim, ne_eqb, eq-eqb}
use Rattle.std.specs.List.{position_or_len}
use Rattle.std.proofs.lemmas.Bool.{cases_eq, or_left, not-false, and_left, and_right, and_from}
use Rattle.std.proofs.lemmas.List.{map-append, get_or_append_left, length_push, get_or_default}
use Rattle.std.proofs.lemmas.List.Elements.{All-push}
use Rattle.std.proofs.lemmas.List.Folds.{list_any-append, Any-from_list_any}
use Rattle.std.proofs.lemmas.List.Sums.{fails_before_first, passes_at_first}
use Rattle.iscsi_tasks.proofs.Names.{nat_tests, Attr, Simple, Ordered, Task, Member, is_head_of, queued, is_free, is_free_among, after_moment, Counts}
use Rattle.iscsi_tasks.proofs.Names.{IsCounted, IsSettled, is_head_in, is_ordered_in, is_free_behind}
use Rattle.iscsi_tasks.proofs.MomentLemmas.{bars_in, free_among, free_none, free_barred, free_head, head_bars, ordered_bars, older_bars, younger_passes, simple_passes, none_counted, some_counted, map-looked_same}
use Rattle.iscsi_tasks.proofs.CountLemmas.{first-le}

still_settled : (list : List Member) (m : Member) → IsSettled list → All (λ x. (x.enabled || is_free_among x.task (list ++ m ∷ [])) ≡ x.enabled) list
still_settled list m settled k d l = grind (arith, nat_tests, or_left, bars_in, not-false, free_among, list_any-append)

module _ (c : Counts) (task : Task) where
  -- ORDERED is free where it is alone
  free_ordered : (list : List Member) → task.attr ≡ Ordered → All (λ m. m.task.ticket < task.ticket) list → is_free_among task (list ++ record { task = task; enabled = false; given = false } ∷ []) ≡ (length list == 0)
  free_ordered [] is newest =
      free_none task (record { task = task; enabled = false; given = false } ∷ []) (All-push (λ m. bars_in task m ≡ false) [] (record { task = task; enabled = false; given = false }) (λ k d l. absurd (omega arith)) (younger_passes Ordered task (record { task = task; enabled = false; given = false }) is (ap is_head_of is) (omega arith)))
  free_ordered (x ∷ xs) is newest = grind (arith, nat_tests, free_barred, ne_eqb, older_bars task x is (newest 0 x (omega arith)))

  -- SIMPLE is free where no HEAD OF QUEUE and no ORDERED is in front
  free_simple : (list : List Member) → IsCounted c list → task.attr ≡ Simple → All (λ m. m.task.ticket < task.ticket) list → is_free_among task (list ++ record { task = task; enabled = false; given = false } ∷ []) ≡ (c.heads == 0 && c.ordered_at == length list)
  free_simple list counted is newest =
      let last : Member = record { task = task; enabled = false; given = false } in
      let barred : (k : ℕ) → k < length list → bars_in task (get_or list k last) ≡ true → is_free_among task (list ++ last ∷ []) ≡ false =
      λ k l bars. free_barred task (list ++ last ∷ []) k last (omega (arith, length_push list last)) (ap (bars_in task) (get_or_append_left list (last ∷ []) last k l) ∙ bars) in
      ⊎_elim
      (λ none. ⊎_elim
      (λ end.
      let plain = none_counted is_head_in list (sym counted.heads ∙ none) in
      free_none task (list ++ last ∷ []) (All-push (λ m. bars_in task m ≡ false) list last
      (λ k d l. simple_passes task (get_or list k d) is (plain k d l) (fails_before_first is_ordered_in list k d (omega (arith, counted.ordered_at))))
      (younger_passes Simple task last is (ap is_head_of is) (omega arith)))
      ∙ sym (and_from _ _ (eq-eqb _ _ none) (eq-eqb _ _ end)))
      (λ before.
      let inside : position_or_len is_ordered_in list < length list = let le = first-le is_ordered_in list in omega (arith, le, counted.ordered_at) in
      barred (position_or_len is_ordered_in list) inside (ordered_bars Simple task (get_or list (position_or_len is_ordered_in list) last) is refl (passes_at_first is_ordered_in list last inside) (newest (position_or_len is_ordered_in list) last inside))
      ∙ sym (and_right _ _ (ne_eqb _ _ before)))
      (cases_eq c.ordered_at (length list)))
      (λ some.
      let (h, x, inside, read, head) = Any-from_list_any is_head_in list (some_counted is_head_in list (omega (arith, counted.heads))) in
      let there : is_head_in (get_or list h last) ≡ true = ap is_head_in (get_or_default list h last x inside ∙ read) ∙ head in
      let apart : (get_or list h last).task.ticket ≢ task.ticket = λ e. let up : (get_or list h last).task.ticket < task.ticket = newest h last inside in omega arith in
      barred h inside (head_bars Simple task (get_or list h last) is refl there apart)
      ∙ sym (and_left _ _ (ne_eqb _ _ some)))
      (cases_eq c.heads 0)

  free_last : (a : Attr) (list : List Member) → IsCounted c list → task.attr ≡ a → All (λ m. m.task.ticket < task.ticket) list → is_free_among task (list ++ record { task = task; enabled = false; given = false } ∷ []) ≡ is_free_behind c (length list) a
  free_last a list counted is newest = grind (arith, nat_tests, free_head, free_ordered, free_simple)

  -- the set after the moment: the command stands last, enabled where it is free
  pub moment_entered : (list : List Member) → IsCounted c list → IsSettled list → All (λ m. m.task.ticket < task.ticket) list → after_moment (list ++ record { task = task; enabled = false; given = false } ∷ []) ≡ list ++ record { task = task; enabled = is_free_behind c (length list) task.attr; given = false } ∷ []
  moment_entered list counted settled newest = grind (arith, nat_tests, map-append, map-looked_same, still_settled, free_last)

  -- and every command that is free is enabled still
  pub settled_entered : (list : List Member) → IsCounted c list → IsSettled list → All (λ m. m.task.ticket < task.ticket) list → (enabled given : Bool) → enabled ≡ is_free_behind c (length list) task.attr → IsSettled (list ++ record { task = task; enabled = enabled; given = given } ∷ [])
  settled_entered list counted settled newest enabled given is =
      let m : Member = record { task = task; enabled = enabled; given = given } in
      let fresh : Member = record { task = task; enabled = false; given = false } in
      let free : is_free_among task (list ++ m ∷ []) ≡ enabled =
      ap (is_free (queued task)) (map-append (λ (x : Member). queued x.task) list (m ∷ []) ∙ sym (map-append (λ (x : Member). queued x.task) list (fresh ∷ [])))
      ∙ free_last task.attr list counted refl newest ∙ sym is in
      All-push (λ x. (x.enabled || is_free_among x.task (list ++ m ∷ [])) ≡ x.enabled) list m (still_settled list m settled) (ap (λ b. enabled || b) free ∙ or_same enabled)
    where
      or_same : (b : Bool) → (b || b) ≡ b
      or_same b = grind (arith, nat_tests)
