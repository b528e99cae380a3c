-- What comes first of some events.
use Rattle.std.specs.Prelude.{Bool, true, false, List, [], ◌∷◌}
use Rattle.iscsi_rules.specs.declared.event.Event.{Event}
use Rattle.iscsi_rules.specs.declared.event.Event.TheVariants.{Arrive, Done}

abbrev pub begins_with_arrival : List Event → Bool
begins_with_arrival [] = false
begins_with_arrival (Arrive conn header ∷ events) = true
begins_with_arrival (Done ticket status ∷ events) = false

abbrev pub begins_with_completion : List Event → Bool
begins_with_completion [] = false
begins_with_completion (Arrive conn header ∷ events) = false
begins_with_completion (Done ticket status ∷ events) = true
