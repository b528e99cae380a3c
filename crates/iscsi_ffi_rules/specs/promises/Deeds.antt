-- Calls with what they answered and told, and the state after them.
use Rattle.std.specs.Prelude.{List, [], ◌∷◌}
use Rattle.std.specs.List.{flat_map}
use Rattle.iscsi_ffi_rules.specs.declared.action.Action.{Action}
use Rattle.iscsi_ffi_rules.specs.rules.Calls.{Interface, Call}
use Rattle.iscsi_ffi_rules.specs.rules.Sides.{Side, opened}
use Rattle.iscsi_ffi_rules.specs.rules.Run.{Answer, after_call}

pub record Deed : Type 0 where
  pub call : Call
  pub answer : Answer
  pub actions : List Action

abbrev pub deeds_from : Interface → Side → List Call → List Deed
deeds_from i s [] = []
deeds_from i s (c ∷ cs) = let a = after_call i s c in record { call = c; answer = a.answer; actions = a.told.actions } ∷ deeds_from i a.told.side cs

-- what was called, answered and told, in order
abbrev pub deeds_of : Interface → List Call → List Deed
deeds_of i cs = deeds_from i (opened i) cs

-- all that was told, in order
abbrev pub told_in : List Deed → List Action
told_in ds = flat_map (λ (d : Deed). d.actions) ds

abbrev pub side_after : Interface → Side → List Call → Side
side_after i s [] = s
side_after i s (c ∷ cs) = side_after i (after_call i s c).told.side cs

-- the state after these calls
abbrev pub side_of : Interface → List Call → Side
side_of i cs = side_after i (opened i) cs
