-- A command that is enabled as it enters: its job never waits.
use Rattle.std.specs.Prelude.{◌≡◌, ℕ, ◌<◌, ◌≤◌, ◌-◌, false, List, [], ◌∷◌, ◌++◌, length, Option, Some, None, position, find, All, refl}
use Rattle.std.specs.List.{remove}
use Rattle.std.proofs.Common.{ap, sym, ◌∙◌, arith, get_or, ne_eqb, eq-eqb, append-nil, subst}
use Rattle.std.proofs.Math.ListN.{get_or-append}
use Rattle.std.proofs.Math.Seq.{get_or-append_seam}
use Rattle.std.proofs.lemmas.List.{length-append}
use Rattle.std.proofs.lemmas.List.Edits.{remove-append_right}
use Rattle.iscsi_wire.specs.declared.request.Request.{Request}
use Rattle.iscsi_tasks.specs.declared.task.Attr.{Attr}
use Rattle.iscsi_tasks.proofs.PlaceLemmas.{place_is, position_of}
use Rattle.iscsi_rules.specs.declared.effect.Effect.{Effect}
use Rattle.iscsi_rules.specs.declared.effect.Effect.TheVariants.{Deliver, Enter, Enable}
use Rattle.iscsi_rules.proofs.general.PlaceLemmas.{found_there}
use Rattle.iscsi_threads.specs.declared.job.Job.{Job}
use Rattle.iscsi_threads.specs.rules.Desks.{Known, is_for, without, job_for, listed, jobs_from, known_after, EnterAbove}
use Rattle.iscsi_threads.proofs.DeskLemmas.{some_job}

-- a job behind those of lower tickets
module _ (js : List Job) (j : Job) (ticket : ℕ) (below : All (λ (o : Job). o.ticket < ticket) js) (own : j.ticket ≡ ticket) where
  last_place : position (is_for ticket) (js ++ j ∷ []) ≡ Some (length js)
  last_place =
      let all : List Job = js ++ j ∷ [] in
      let within : length js < length all = omega (arith, length-append js (j ∷ [])) in
      let before : (i : ℕ) → i < length js → is_for ticket (get_or all i some_job) ≡ false =
      λ i lt. ap (is_for ticket) (get_or-append js (j ∷ []) some_job i lt) ∙ ne_eqb _ _ (λ e. let low : (get_or js i some_job).ticket < ticket = below i some_job lt in omega (arith, e))
      in
      let here = ap (is_for ticket) (get_or-append_seam js j [] some_job) ∙ eq-eqb _ _ own in
      sym (position_of (is_for ticket) all (length js) (place_is (is_for ticket) all (length js) some_job within before here) within)

  pub last_found : find (is_for ticket) (js ++ j ∷ []) ≡ Some j
  last_found = found_there (is_for ticket) (js ++ j ∷ []) (length js) some_job last_place ∙ ap (λ (x : Job). Some x) (get_or-append_seam js j [] some_job)

  pub last_leaves : without ticket (js ++ j ∷ []) ≡ js
  last_leaves =
      ap (λ (x : Option ℕ). let ks : List Job = elim x [ Some i ↦ remove (js ++ j ∷ []) i | None ↦ js ++ j ∷ [] ] in ks) last_place
      ∙ remove-append_right js (j ∷ []) (length js) (length js) refl (omega arith)
      ∙ ap (λ i. js ++ remove (j ∷ []) i) none_before ∙ append-nil js
    where
      none_before : length js - length js ≡ 0
      none_before = omega arith

module _ (k : Known) (r : Request) (t u x : ℕ) (a : Attr) (above : EnterAbove k (Deliver r ∷ Enter t u a ∷ Enable t x ∷ [])) where
  own : t ≡ above.first
  own = let e : t ∷ [] ≡ above.first ∷ [] = above.entered in cc

  lower : All (λ (o : Job). o.ticket < t) k.dormant
  lower i d lt = let low : (get_or k.dormant i d).ticket < above.first = above.below i d lt in omega (arith, own)

  straight_job : jobs_from k (Deliver r ∷ Enter t u a ∷ Enable t x ∷ []) ≡ job_for r t u a ∷ []
  straight_job = ap (λ (y : Option Job). listed y ++ []) (last_found k.dormant (job_for r t u a) t lower refl)

  straight_known : known_after k (Deliver r ∷ Enter t u a ∷ Enable t x ∷ []) ≡ record { last = Some r; dormant = k.dormant }
  straight_known = ap (λ (l : List Job). let y : Known = record { last = Some r; dormant = l } in y) (last_leaves k.dormant (job_for r t u a) t lower refl)

-- three effects: a command executes, enters, and is enabled
module _ (k : Known) (es : List Effect) (d e f : Effect) (r : Request) (t u n x : ℕ) (a : Attr) (low : 3 ≤ length es) (high : length es < 4)
    (first : get_or es 0 d ≡ Deliver r) (second : get_or es 1 e ≡ Enter t u a) (third : get_or es 2 f ≡ Enable n x) (same : n ≡ t) (above : EnterAbove k es) where
  are_three : (xs : List Effect) → 3 ≤ length xs → length xs < 4 → get_or xs 0 d ≡ Deliver r → get_or xs 1 e ≡ Enter t u a → get_or xs 2 f ≡ Enable n x
      → xs ≡ Deliver r ∷ Enter t u a ∷ Enable n x ∷ []
  are_three [] lo hi p q s = absurd (omega (arith, lo))
  are_three (w ∷ []) lo hi p q s = absurd (omega (arith, lo))
  are_three (w ∷ y ∷ []) lo hi p q s = absurd (omega (arith, lo))
  are_three (w ∷ y ∷ z ∷ []) lo hi p q s = ap (λ v. v ∷ y ∷ z ∷ []) p ∙ ap (λ v. Deliver r ∷ v ∷ z ∷ []) q ∙ ap (λ v. Deliver r ∷ Enter t u a ∷ v ∷ []) s
  are_three (w ∷ y ∷ z ∷ v ∷ vs) lo hi p q s = absurd (omega (arith, hi))

  are : es ≡ Deliver r ∷ Enter t u a ∷ Enable t x ∷ []
  are = are_three es low high first second third ∙ ap (λ m. Deliver r ∷ Enter t u a ∷ Enable m x ∷ []) same

  numbered : EnterAbove k (Deliver r ∷ Enter t u a ∷ Enable t x ∷ [])
  numbered = subst (EnterAbove k) are above

  pub job_goes_out : jobs_from k es ≡ job_for r t u a ∷ []
  job_goes_out = ap (jobs_from k) are ∙ straight_job k r t u x a numbered

  pub none_waits : known_after k es ≡ record { last = Some r; dormant = k.dormant }
  none_waits = ap (known_after k) are ∙ straight_known k r t u x a numbered
