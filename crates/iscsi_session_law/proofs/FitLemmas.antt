-- What is admitted is numbered, and what waits may wait: the marks of each item fit.
use Rattle.std.proofs.Common.{arith, ◌≡◌, ℕ, not, Bool, true, false, List, [], ◌∷◌, Some, refl, ◌∙◌, ⊎_elim}
use Rattle.std.specs.List.{list_all, list_any, filter_map}
use Rattle.std.proofs.lemmas.List.Folds.{list_all-append}
use Rattle.iscsi_wire.specs.Fields.{is_immediate}
use Rattle.iscsi_rules.specs.rules.Trace.{Arrival, Mark, Admits, Waits, Trace, has, shown, first_of, admits_at, admitted, waiting, waiting_by, waiting_through}
use Rattle.iscsi_rules.specs.rules.Management.{may_wait}
use Rattle.iscsi_rules.proofs.general.BoolLemmas.{or_none}
use Rattle.iscsi_rules.proofs.general.ListLemmas.{list_all-filter}
use Rattle.iscsi_rules.proofs.traces.HeldLemmas.{first_of-append, first_of-cons}
use Rattle.iscsi_rules.proofs.items.Forms.{Start, start_mark, Deeds, marks_done}
use Rattle.iscsi_rules.proofs.items.DeedLemmas.{begun_any, none_done}

-- an immediate request is received, or one waits that mayn't
abbrev pub misfits : Mark → Bool
misfits (Admits a) = is_immediate a.request
misfits (Waits a) = not (may_wait a.request)
misfits _ = false

-- ---- what is admitted is numbered

mark_fits : (n : ℕ) (m : Mark) (a : Arrival) → misfits m ≡ false → admits_at n m ≡ Some a → is_immediate a.request ≡ false
mark_fits n m a fits there = grind arith

item_fits : (n : ℕ) (ms : List Mark) (a : Arrival) → list_any misfits ms ≡ false → first_of (filter_map (admits_at n) ms) ≡ Some a → is_immediate a.request ≡ false
item_fits n [] a fits there = absurd cc
item_fits n (m ∷ ms) a fits there =
    let both = or_none (misfits m) (list_any misfits ms) fits in
    ⊎_elim (λ here. mark_fits n m a both.0 here) (λ later. item_fits n ms a both.1 later) (first_of-cons (admits_at n m) (filter_map (admits_at n) ms) a there)

pub admitted_numbered : (t : Trace) (n : ℕ) (a : Arrival) → has misfits t ≡ false → admitted t n ≡ Some a → is_immediate a.request ≡ false
admitted_numbered [] n a fits there = absurd cc
admitted_numbered (item ∷ t) n a fits there =
    let both = or_none (list_any misfits item) (has misfits t) fits in
    ⊎_elim (λ before. admitted_numbered t n a both.1 before) (λ now. item_fits n item a both.0 now) (first_of-append (shown (admits_at n) t) (filter_map (admits_at n) item) a there)

-- ---- what waits may wait

abbrev may : Arrival → Bool
may a = may_wait a.request

mark_waits : (m : Mark) (ws : List Arrival) → misfits m ≡ false → list_all may ws ≡ true → list_all may (waiting_by m ws) ≡ true
mark_waits m ws fits all = grind (arith, list_all-filter, list_all-append)

marks_wait : (ms : List Mark) (ws : List Arrival) → list_any misfits ms ≡ false → list_all may ws ≡ true → list_all may (waiting_through ms ws) ≡ true
marks_wait [] ws fits all = all
marks_wait (m ∷ ms) ws fits all =
    let both = or_none (misfits m) (list_any misfits ms) fits in
    marks_wait ms (waiting_by m ws) both.1 (mark_waits m ws both.0 all)

pub waiting_may : (t : Trace) → has misfits t ≡ false → list_all (λ a. may_wait a.request) (waiting t) ≡ true
waiting_may [] fits = refl
waiting_may (item ∷ t) fits =
    let both = or_none (list_any misfits item) (has misfits t) fits in
    marks_wait item (waiting t) both.0 (waiting_may t both.1)

-- ---- the marks of a request that executes

pub executed_fits : (start : Start) (a : Arrival) (d : Deeds) → list_any misfits (start_mark start a ∷ marks_done a d) ≡ false
executed_fits start a d =
    begun_any misfits start a (marks_done a d) refl refl
    ∙ none_done a d misfits (λ n is. refl) (λ c there. refl) (λ b there. refl) (λ c is. refl) (λ reply is. refl) (λ conn is. refl) (λ is. refl)
