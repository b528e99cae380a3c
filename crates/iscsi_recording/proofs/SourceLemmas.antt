-- Events that come one after another: those before, the next one, and those after it.
use Rattle.std.proofs.Common.{◌≡◌, List, [], ◌∷◌, ◌++◌, sym, ap, ◌∙◌, append-nil, append_assoc}
use Rattle.iscsi_rules.specs.declared.event.Event.{Event}

-- the next one comes after those before it
pub with_next : (all before rest after : List Event) (e : Event) → all ≡ before ++ rest → rest ≡ e ∷ after → all ≡ before ++ e ∷ after
with_next all before rest after e whole next = whole ∙ ap (λ l. before ++ l) next

-- once it came it is one of those before
pub past_next : (all before rest after : List Event) (e : Event) → all ≡ before ++ rest → rest ≡ e ∷ after → all ≡ (before ++ e ∷ []) ++ after
past_next all before rest after e whole next = with_next all before rest after e whole next ∙ sym (append_assoc before (e ∷ []) after)

-- where none come any more, those before are all
pub all_came : (all before rest : List Event) → all ≡ before ++ rest → rest ≡ [] → before ≡ all
all_came all before rest whole none = sym (whole ∙ ap (λ l. before ++ l) none ∙ append-nil before)
