-- How many numbered commands are unfinished after an item more.
use Rattle.std.proofs.Common.{arith, ◌≡◌, ◌+◌, ◌≤◌, not, cond, Bool, List, [], ◌∷◌, filter, count_by, Option, Some, None, ap}
use Rattle.std.specs.List.{list_any, filter_map}
use Rattle.std.proofs.lemmas.List.Sums.{sum_by-append}
use Rattle.iscsi_wire.specs.Fields.{is_immediate}
use Rattle.iscsi_rules.specs.rules.Settings.{Setting}
use Rattle.iscsi_rules.specs.rules.Trace.{Arrival, Command, Mark, Trace, has, enters, leaves_ticket, live}
use Rattle.iscsi_rules.specs.rules.Execution.{unfinished}
use Rattle.iscsi_rules.proofs.general.CountLemmas.{one, count-cons}
use Rattle.iscsi_rules.proofs.general.ListLemmas.{fewer_counted}
use Rattle.iscsi_rules.proofs.traces.TraceLemmas.{live-item}
use Rattle.iscsi_rules.proofs.items.Forms.{Start, start_mark, Deeds, marks_done, Executed, Each, EntersAs}
use Rattle.iscsi_rules.proofs.items.FormItems.{Does}
use Rattle.iscsi_rules.proofs.items.DeedLemmas.{to_list}
use Rattle.iscsi_rules.proofs.items.TouchLemmas.{enters_form}

abbrev is_numbered : Command → Bool
is_numbered c = not (is_immediate c.arrival.request)

-- no more than were before, and those that enter in the item
pub unfinished_item : (item : List Mark) (t : Trace) → unfinished (item ∷ t) ≤ unfinished t + count_by is_numbered (filter_map enters item)
unfinished_item item t =
    let stayed : List Command = filter (λ c. not (list_any (leaves_ticket c.ticket) item)) (live t) in
    let entered_now : List Command = filter (λ c. not (has (leaves_ticket c.ticket) (item ∷ t))) (filter_map enters item) in
    omega (
      arith,
      ap (count_by is_numbered) (live-item item t),
      sum_by-append (λ c. cond (is_numbered c) 1 0) stayed entered_now,
      fewer_counted is_numbered (λ c. not (list_any (leaves_ticket c.ticket) item)) (live t),
      fewer_counted is_numbered (λ c. not (has (leaves_ticket c.ticket) (item ∷ t))) (filter_map enters item),
    )

-- none enters
pub unfinished_none : (item : List Mark) (t : Trace) → filter_map enters item ≡ [] → unfinished (item ∷ t) ≤ unfinished t
unfinished_none item t none = omega (arith, unfinished_item item t, ap (count_by is_numbered) none)

-- the one that a request becomes counts if the request is numbered
entering_counts : (o : Setting) (t : Trace) (a : Arrival) (d : Deeds) (x : Option Command) → Each (EntersAs o t a d) x → count_by is_numbered (to_list x) ≤ one (not (is_immediate a.request))
entering_counts o t a d None e = omega arith
entering_counts o t a d (Some c) e =
    omega (arith, count-cons is_numbered c [], ap (λ (x : Command). one (is_numbered x)) e.next)

pub unfinished_executed : (o : Setting) (t : Trace) (start : Start) (a : Arrival) (ms : List Mark) → Does o t start a ms → unfinished ((start_mark start a ∷ ms) ∷ t) ≤ unfinished t + one (not (is_immediate a.request))
unfinished_executed o t start a ms does =
    let item : List Mark = start_mark start a ∷ marks_done a does.deeds in
    let same : start_mark start a ∷ ms ≡ item = ap (λ xs. start_mark start a ∷ xs) does.is in
    omega (
      arith,
      unfinished_item item t,
      ap (λ (x : List Mark). unfinished (x ∷ t)) same,
      ap (count_by is_numbered) (enters_form (Executed start a does.deeds)),
      entering_counts o t a does.deeds does.deeds.entering does.done.enters,
    )
