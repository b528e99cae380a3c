-- Lists of effects, one part after the other, and the jobs that wait, whose tickets go up.
use Rattle.std.specs.Prelude.{◌≡◌, ℕ, ◌+◌, ◌<◌, ◌≤◌, false, List, [], ◌∷◌, ◌++◌, length, Option, Some, None, Result, Ok, Err, position, All, refl}
use Rattle.std.specs.List.{remove, range_with_len}
use Rattle.std.specs.List.Sorted.{IsSearchInRange, IsBinarySearchResult, IsNonDecreasingBy}
use Rattle.std.specs.Ordering.{nat_cmp, ordering_index}
use Rattle.std.specs.Result.{result_ok}
use Rattle.std.proofs.Common.{ap, sym, ◌∙◌, arith, append_assoc, append-nil, subst, get_or, ⊎_elim, ne_eqb, eq-eqb}
use Rattle.std.proofs.lemmas.Cmp.{ranked}
use Rattle.std.proofs.lemmas.Bool.{cases_eq, cases_lt}
use Rattle.std.proofs.lemmas.Bool.Decides.{nat_tests}
use Rattle.std.proofs.lemmas.List.Edits.{get_or-remove_below, get_or-remove_above, length-remove}
use Rattle.std.proofs.lemmas.List.Elements.{All-append, All-cons, All-nil}
use Rattle.std.proofs.lemmas.List.Quantifiers.{all_pairs_push, all_pairs_remove, position-Some}
use Rattle.iscsi_wire.specs.declared.request.Request.{Request}
use Rattle.iscsi_tasks.specs.declared.task.Attr.{Attr}
use Rattle.iscsi_tasks.specs.declared.task.Attr.TheVariants.{Simple}
use Rattle.iscsi_tasks.proofs.PlaceLemmas.{place_is, no_place, position_of, position_none}
use Rattle.iscsi_rules.specs.declared.effect.Effect.{Effect}
use Rattle.iscsi_rules.specs.declared.effect.Effect.TheVariants.{Enter, Enable, Leave}
use Rattle.iscsi_rules.specs.promises.Lives.{tickets_entered}
use Rattle.iscsi_threads.specs.declared.job.Job.{Job}
use Rattle.iscsi_threads.specs.rules.Desks.{Known, is_for, without, job_for, entered, after_effect, job_at, listed, jobs_from, known_after, InOrderOfTickets, EnterAbove}

pub known_after-append : (k : Known) (es fs : List Effect) → known_after k (es ++ fs) ≡ known_after (known_after k es) fs
known_after-append k [] fs = refl
known_after-append k (e ∷ es) fs = known_after-append (after_effect k e) es fs

pub jobs_from-append : (k : Known) (es fs : List Effect) → jobs_from k (es ++ fs) ≡ jobs_from k es ++ jobs_from (known_after k es) fs
jobs_from-append k [] fs = refl
jobs_from-append k (e ∷ es) fs =
    ap (λ (l : List Job). listed (job_at k e) ++ l) (jobs_from-append (after_effect k e) es fs)
    ∙ sym (append_assoc (listed (job_at k e)) (jobs_from (after_effect k e) es) (jobs_from (known_after (after_effect k e) es) fs))

-- ---- a job is found by its ticket

-- some job, for where a list is empty
pub some_job : Job
some_job = record { ticket = 0; unit = 0; itt = 0; attr = Simple; cdb = [] }

module _ (js : List Job) (order : InOrderOfTickets js) (ticket : ℕ) where
  -- the comparisons with the ticket rise along the jobs, as a binary search asks
  comparisons_rise : IsNonDecreasingBy (λ j. ordering_index (nat_cmp j.ticket ticket)) js
  comparisons_rise i k d le within =
      let tickets_rise : (get_or js i d).ticket ≤ (get_or js k d).ticket = ⊎_elim
      (λ same. subst (λ n. (get_or js i d).ticket ≤ (get_or js n d).ticket) same (omega arith))
      (λ apart. let up : (get_or js i d).ticket < (get_or js k d).ticket = order i k d (omega arith) within in omega arith)
      (cases_eq i k)
      in
      grind (arith, nat_tests)

  pub searched : (r : Result ℕ ℕ) → IsSearchInRange r (length js) → IsBinarySearchResult (λ j. nat_cmp j.ticket ticket) js r → result_ok r ≡ position (is_for ticket) js
  searched (Ok k) within equal =
      let here : (get_or js k some_job).ticket ≡ ticket = ranked _ ticket _ (sym (equal some_job)) in
      let before : (i : ℕ) → i < k → is_for ticket (get_or js i some_job) ≡ false =
      λ i lt. let up : (get_or js i some_job).ticket < (get_or js k some_job).ticket = order i k some_job lt within in ne_eqb _ _ (λ e. omega (arith, here))
      in
      position_of (is_for ticket) js k (place_is (is_for ticket) js k some_job within before (eq-eqb _ _ here)) within
  searched (Err k) within parted = position_none (is_for ticket) js (no_place (is_for ticket) js (λ i d lt. ⊎_elim
      (λ below. let lower : (get_or js i d).ticket < ticket = ranked _ ticket _ (sym ((parted comparisons_rise).0 i d (omega arith) below)) in ne_eqb _ _ (λ e. omega arith))
      (λ above. let higher : ticket < (get_or js i d).ticket = ranked _ ticket _ (sym ((parted comparisons_rise).1 i d above lt)) in ne_eqb _ _ (λ e. omega arith))
      (cases_lt i k)))

-- ---- an effect leaves the jobs in order

all_remove : {A : Type 0} (P : A → Type 0) (xs : List A) (n : ℕ) → n < length xs → All P xs → All P (remove xs n)
all_remove P xs n lt all k d within =
    let size = length-remove xs n lt in ⊎_elim
    (λ below. subst P (sym (get_or-remove_below xs n d k below lt)) (all k d (omega arith)))
    (λ above. subst P (sym (get_or-remove_above xs n d k above lt)) (all (k + 1) d (omega arith)))
    (cases_lt k n)

-- what holds of the jobs, and of those that one of them leaves, holds without a ticket
without_kept : (Q : List Job → Type 0) (ticket : ℕ) (js : List Job) → Q js → ((n : ℕ) → n < length js → Q (remove js n)) → Q (without ticket js)
without_kept Q ticket js all left = by_place (position (is_for ticket) js) refl
  where
    by_place : (x : Option ℕ) → position (is_for ticket) js ≡ x → Q (let ks : List Job = elim x [ Some i ↦ remove js i | None ↦ js ] in ks)
    by_place None is = all
    by_place (Some i) is = left i (position-Some (is_for ticket) js i some_job is).0

module _ (k : Known) (es : List Effect) where
  -- where a job leaves, if one does
  left_above : (ticket first : ℕ) → InOrderOfTickets k.dormant → All (λ j. j.ticket < first) k.dormant → tickets_entered es ≡ range_with_len first (length (tickets_entered es))
      → EnterAbove (record k { dormant = without ticket k.dormant }) es
  left_above ticket first rising below entered = record {
    first = first;
    rising = without_kept InOrderOfTickets ticket k.dormant rising (λ n lt. all_pairs_remove (λ a b. a.ticket < b.ticket) k.dormant n lt rising);
    below = without_kept (All (λ j. j.ticket < first)) ticket k.dormant below (λ n lt. all_remove (λ j. j.ticket < first) k.dormant n lt below);
    entered = entered;
  }

  -- where the next command enters, which has the first ticket
  entered_above : (ticket unit : ℕ) (attr : Attr) → EnterAbove k (Enter ticket unit attr ∷ es) → EnterAbove (record k { dormant = k.dormant ++ entered k.last ticket unit attr }) es
  entered_above ticket unit attr above = by_last k.last
    where
      next : ℕ
      next = above.first + 1

      tickets : ticket ∷ tickets_entered es ≡ above.first ∷ range_with_len next (length (tickets_entered es))
      tickets = above.entered

      same : ticket ≡ above.first
      same = let both = tickets in cc

      others : tickets_entered es ≡ range_with_len next (length (tickets_entered es))
      others = let both = tickets in cc

      older : All (λ j. j.ticket < next) k.dormant
      older i d lt = let low : (get_or k.dormant i d).ticket < above.first = above.below i d lt in omega arith

      by_last : (x : Option Request) → EnterAbove (record k { dormant = k.dormant ++ entered x ticket unit attr }) es
      by_last None = record {
        first = next;
        rising = subst InOrderOfTickets (sym (append-nil k.dormant)) above.rising;
        below = subst (All (λ j. j.ticket < next)) (sym (append-nil k.dormant)) older;
        entered = others;
      }
      by_last (Some r) = record {
        first = next;
        rising = all_pairs_push (λ a b. a.ticket < b.ticket) k.dormant (job_for r ticket unit attr) above.rising (λ i d lt. let low : (get_or k.dormant i d).ticket < above.first = above.below i d lt in omega (arith, same));
        below = All-append (λ j. j.ticket < next) k.dormant (job_for r ticket unit attr ∷ []) older (All-cons (λ j. j.ticket < next) (job_for r ticket unit attr) [] (omega (arith, same)) (All-nil (λ j. j.ticket < next)));
        entered = others;
      }

-- the rest of the effects goes on from what the first one leaves
pub rest_above : (k : Known) (e : Effect) (es : List Effect) → EnterAbove k (e ∷ es) → EnterAbove (after_effect k e) es
rest_above k (Enter ticket unit attr) es above = entered_above k es ticket unit attr above
rest_above k (Enable ticket unit) es above = left_above k es ticket above.first above.rising above.below above.entered
rest_above k (Leave ticket unit) es above = left_above k es ticket above.first above.rising above.below above.entered
rest_above k e es above = record { first = above.first; rising = above.rising; below = above.below; entered = above.entered }

pub after_above : (k : Known) (es fs : List Effect) → EnterAbove k (es ++ fs) → EnterAbove (known_after k es) fs
after_above k [] fs above = above
after_above k (e ∷ es) fs above = after_above (after_effect k e) es fs (rest_above k e (es ++ fs) above)
