-- Behind the items of an event just those commands are enabled, live and not told to start that it enabled.
use Rattle.std.proofs.Common.{◌≡◌, ℕ, ◌==◌, ◌&&◌, ◌||◌, ⊎_elim, not, Bool, true, false, List, [], ◌∷◌, ◌++◌, count_by, filter, None, nat_lt, refl, ap, sym, subst, ◌∙◌}
use Rattle.std.specs.List.{filter_map, list_all, list_any}
use Rattle.std.proofs.lemmas.Bool.{and_from, eq-eqb, eqb-true, false≢true, not-true}
use Rattle.std.proofs.lemmas.List.Folds.{list_any-append}
use Rattle.iscsi_rules.specs.rules.Trace.{Command, Mark, Trace, after_items, are_apart, entered, enters, has, leaves_ticket, live, was_free}
use Rattle.iscsi_rules.proofs.general.BoolLemmas.{and_parts}
use Rattle.iscsi_rules.proofs.general.CountLemmas.{count-filter}
use Rattle.iscsi_rules.proofs.general.ElementLemmas.{In, filter-in, in-append, in-filter}
use Rattle.iscsi_rules.proofs.general.ListLemmas.{count_by-map, list_any-map}
use Rattle.iscsi_rules.proofs.traces.NewlyLemmas.{filter-twice, never_free}
use Rattle.iscsi_outbox_rules.specs.rules.Words.{contains}
use Rattle.iscsi_ffi_rules.specs.rules.Calls.{Interface}
use Rattle.iscsi_ffi_rules.specs.rules.Clearing.{next_withheld}
use Rattle.iscsi_ffi_rules.specs.rules.Sides.{Side}
use Rattle.iscsi_ffi_law.specs.Arrived.{AreStepsFit, IsFreshCommand, side_behind}
use Rattle.iscsi_ffi_law.proofs.general.Ascending.{times}
use Rattle.iscsi_ffi_law.proofs.commands.Commands.{one_command}
use Rattle.iscsi_ffi_law.proofs.completions.DoneChain.{none_first}
use Rattle.iscsi_ffi_law.proofs.completions.DoneHeld.{held_of}
use Rattle.iscsi_ffi_law.proofs.completions.DoneShape.{tickets_of}
use Rattle.iscsi_ffi_law.proofs.events.EventNews.{apart_both, entered_by, entered_is, held_at, left_later}
use Rattle.iscsi_ffi_law.proofs.requests.Kept.{filter_members}
use Rattle.iscsi_ffi_law.proofs.general.Members.{Passing, any_counted, any_in, in_any}

-- one command enters by it, if any does
abbrev pub one_at_most : List Command → Bool
one_at_most [] = true
one_at_most (c ∷ []) = true
one_at_most (c ∷ d ∷ cs) = false

abbrev pub enters_once : List Mark → Bool
enters_once item = one_at_most (filter_map enters item)

-- ---- who was told to start

-- no command was that enters by these items
pub fresh_untold : (i : Interface) (items : List (List Mark)) (r : Side) → AreStepsFit i r items → list_all enters_once items ≡ true → (c : Command) → In c (entered_by items) → contains r.told c.ticket ≡ false
fresh_untold i [] r fit once c there = absurd there
fresh_untold i (item ∷ items) r fit once c there =
    let parts = and_parts (enters_once item) (list_all enters_once items) once in
    ⊎_elim (λ here. by_entering (filter_map enters item) refl here parts.0) (λ later. fresh_untold i items (side_behind i r item) fit.1 parts.1 c later) (in-append (filter_map enters item) (entered_by items) c there)
  where
    by_entering : (cs : List Command) → filter_map enters item ≡ cs → In c cs → one_at_most cs ≡ true → contains r.told c.ticket ≡ false
    by_entering [] is here few = absurd here
    by_entering (d ∷ e ∷ cs) is here few = absurd (false≢true few)
    by_entering (d ∷ []) is here few = ⊎_elim (λ (same : d ≡ c). (let k : IsFreshCommand r d = fit.0.enters d is in ap (λ (x : Command). contains r.told x.ticket) (sym same) ∙ k.untold)) (λ none. absurd none) here

-- one that is live behind the items was just where it was free before them
pub told_free : (i : Interface) (items : List (List Mark)) (r : Side) → ((c : Command) → In c (entered_by items) → contains r.told c.ticket ≡ false) → are_apart (entered (after_items items r.both.trace)) ≡ true → next_withheld r ≡ None
    → ((c : Command) → In c (entered r.both.trace) → has (leaves_ticket c.ticket) r.both.trace ≡ false → contains r.told c.ticket ≡ true → was_free c r.both.trace ≡ true)
    → (c : Command) → In c (entered (after_items items r.both.trace)) → has (leaves_ticket c.ticket) (after_items items r.both.trace) ≡ false → contains r.told c.ticket ≡ was_free c r.both.trace
told_free i items r untold apart calm freed c there lives =
    ⊎_elim
    (λ before. by_tests before (contains r.told c.ticket) refl (was_free c r.both.trace) refl)
    (λ later. untold c later ∙ sym (never_free c r.both.trace (apart_both (entered r.both.trace) (entered_by items) (ap are_apart (sym (entered_is items r.both.trace)) ∙ apart) c later)))
    (in-append (entered r.both.trace) (entered_by items) c (subst (In c) (entered_is items r.both.trace) there))
  where
    lived : has (leaves_ticket c.ticket) r.both.trace ≡ false
    lived = left_later items r.both.trace c.ticket lives

    by_tests : In c (entered r.both.trace) → (u : Bool) → contains r.told c.ticket ≡ u → (v : Bool) → was_free c r.both.trace ≡ v → contains r.told c.ticket ≡ was_free c r.both.trace
    by_tests before true is true free = is ∙ sym free
    by_tests before false is false free = is ∙ sym free
    by_tests before true is false free = absurd (false≢true (sym free ∙ freed c before lived is))
    by_tests before false is true free = absurd (
        let waits : In c (held_of r)
        = filter-in (λ (d : Command). was_free d r.both.trace && not (contains r.told d.ticket)) (live r.both.trace) c (filter-in (λ (d : Command). not (has (leaves_ticket d.ticket) r.both.trace)) (entered r.both.trace) c before (ap not lived)) (and_from (was_free c r.both.trace) (not (contains r.told c.ticket)) free (ap not is)) in
        subst (In c) (none_first (held_of r) calm) waits
        )

-- ---- those that are withheld

-- those that weren't told to start are the others
pub withheld_left : (held : Command → Bool) (told : List ℕ) (t : Trace) (news : List Command) → held_at told t ≡ news → are_apart (entered t) ≡ true
    → filter held news ≡ held_at (told ++ tickets_of (filter (λ (c : Command). not (held c)) news)) t
withheld_left held told t news is apart =
    filter_members held (λ (c : Command). not (contains starting c.ticket)) news (λ c there. sym (one c there (held c) refl))
    ∙ ap (filter (λ (c : Command). not (contains starting c.ticket))) (sym is)
    ∙ filter-twice (λ (c : Command). not (contains starting c.ticket)) (λ (c : Command). was_free c t && not (contains told c.ticket)) (live t)
    ∙ filter_members (λ (c : Command). (was_free c t && not (contains told c.ticket)) && not (contains starting c.ticket)) (λ (c : Command). was_free c t && not (contains (told ++ starting) c.ticket)) (live t)
    (λ c there. both (was_free c t) (contains told c.ticket) (contains starting c.ticket) ∙ ap (λ v. was_free c t && not v) (sym (list_any-append (λ k. k == c.ticket) told starting)))
  where
    starting : List ℕ
    starting = tickets_of (filter (λ (c : Command). not (held c)) news)

    both : (u v w : Bool) → ((u && not v) && not w) ≡ (u && not (v || w))
    both true true w = refl
    both true false w = refl
    both false v w = refl

    entered_one : (c : Command) → In c news → In c (entered t)
    entered_one c there = (in-filter (λ (d : Command). not (has (leaves_ticket d.ticket) t)) (entered t) c (in-filter (λ (d : Command). was_free d t && not (contains told d.ticket)) (live t) c (subst (In c) (sym is) there)).0).0

    mapped : (c : Command) → contains starting c.ticket ≡ list_any (λ (d : Command). d.ticket == c.ticket) (filter (λ (d : Command). not (held d)) news)
    mapped c = list_any-map (λ k. k == c.ticket) (λ (d : Command). d.ticket) (filter (λ (d : Command). not (held d)) news)

    one : (c : Command) → In c news → (v : Bool) → held c ≡ v → not (contains starting c.ticket) ≡ held c
    one c there true it = ap not (by_test (contains starting c.ticket) refl) ∙ sym it
      where
        by_test : (w : Bool) → contains starting c.ticket ≡ w → w ≡ false
        by_test false e = refl
        by_test true e =
            let x : Passing (λ (d : Command). d.ticket == c.ticket) (filter (λ (d : Command). not (held d)) news) = any_in (λ (d : Command). d.ticket == c.ticket) (filter (λ (d : Command). not (held d)) news) (sym (mapped c) ∙ e) in
            let g = in-filter (λ (d : Command). not (held d)) news x.x x.there in
            let same : x.x ≡ c = one_command (entered t) x.x c apart (entered_one x.x g.0) (entered_one c there) (eqb-true x.x.ticket c.ticket x.passes) in
            absurd (false≢true (sym (not-true (held x.x) g.1) ∙ ap held same ∙ it))
    one c there false it =
        ap not (mapped c ∙ in_any (λ (d : Command). d.ticket == c.ticket) (filter (λ (d : Command). not (held d)) news) c (filter-in (λ (d : Command). not (held d)) news c there (ap not it)) (eq-eqb c.ticket c.ticket refl)) ∙ sym it

-- .. in whichever order they were enabled
pub held_counts : (held : Command → Bool) (told : List ℕ) (t : Trace) (news : List Command) → ((q : Command → Bool) → count_by q news ≡ count_by q (held_at told t)) → are_apart (entered t) ≡ true
    → (n : ℕ) → times n (tickets_of (filter held news)) ≡ times n (tickets_of (held_at (told ++ tickets_of (filter (λ (c : Command). not (held c)) news)) t))
held_counts held told t news same apart n =
    count_by-map (λ (k : ℕ). k == n) (λ (c : Command). c.ticket) (filter held news)
    ∙ count-filter (λ (c : Command). c.ticket == n) held news
    ∙ same (λ (c : Command). held c && c.ticket == n)
    ∙ sym (count_by-map (λ (k : ℕ). k == n) (λ (c : Command). c.ticket) (filter held (held_at told t)) ∙ count-filter (λ (c : Command). c.ticket == n) held (held_at told t))
    ∙ ap (λ cs. times n (tickets_of cs)) (withheld_left held told t (held_at told t) refl apart)
    ∙ ap (λ cs. times n (tickets_of cs))
    (filter_members (λ (c : Command). was_free c t && not (contains (told ++ tickets_of (filter (λ (d : Command). not (held d)) (held_at told t))) c.ticket)) (λ (c : Command). was_free c t && not (contains (told ++ tickets_of (filter (λ (d : Command). not (held d)) news)) c.ticket)) (live t)
    (λ c there. ap (λ v. was_free c t && not v) (contains_same c.ticket)))
  where
    among : (cs : List Command) (k : ℕ) → contains (tickets_of (filter (λ (d : Command). not (held d)) cs)) k ≡ nat_lt 0 (count_by (λ (d : Command). not (held d) && d.ticket == k) cs)
    among cs k =
        list_any-map (λ (m : ℕ). m == k) (λ (d : Command). d.ticket) (filter (λ (d : Command). not (held d)) cs)
        ∙ any_counted (λ (d : Command). d.ticket == k) (filter (λ (d : Command). not (held d)) cs)
        ∙ ap (nat_lt 0) (count-filter (λ (d : Command). d.ticket == k) (λ (d : Command). not (held d)) cs)

    contains_same : (k : ℕ) → contains (told ++ tickets_of (filter (λ (d : Command). not (held d)) (held_at told t))) k ≡ contains (told ++ tickets_of (filter (λ (d : Command). not (held d)) news)) k
    contains_same k =
        list_any-append (λ m. m == k) told (tickets_of (filter (λ (d : Command). not (held d)) (held_at told t)))
        ∙ ap (λ v. contains told k || v) (among (held_at told t) k ∙ ap (nat_lt 0) (sym (same (λ (d : Command). not (held d) && d.ticket == k))) ∙ sym (among news k))
        ∙ sym (list_any-append (λ m. m == k) told (tickets_of (filter (λ (d : Command). not (held d)) news)))
