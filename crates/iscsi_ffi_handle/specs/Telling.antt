-- What is handed over of what a side tells.
use Rattle.std.specs.Prelude.{ℕ, zero, suc, min, List, ◌++◌, length, map, take, drop}
use Rattle.iscsi_ffi_rules.specs.declared.action.Action.{Action}
use Rattle.iscsi_ffi.specs.Standing.{Sided, taken_one, waiting}
use Rattle.iscsi_ffi_handle.specs.declared.plain.PlainAction.{PlainAction}
use Rattle.iscsi_ffi_handle.specs.declared.plain.PlainTold.{PlainTold}
use Rattle.iscsi_ffi_handle.specs.Plain.{plain_action}

-- as many are handed over, or as wait
abbrev pub taken_many : ℕ → Sided → Sided
taken_many zero v = v
taken_many (suc n) v = taken_one (taken_many n v)

-- actions in the first places, and what stood there in the others
abbrev pub written_over : List PlainAction → List Action → List PlainAction
written_over old actions = map plain_action actions ++ drop (length actions) old

-- so many are handed over at once at the most
abbrev pub room_in : List PlainAction → ℕ
room_in places = min (length places) 4294967295

-- ---- once a call has been taken

abbrev pub side_after : List PlainAction → Sided → Sided
side_after places v = taken_many (room_in places) v

abbrev pub places_after : List PlainAction → Sided → List PlainAction
places_after places v = written_over places (take (room_in places) (waiting v))

abbrev pub told_after : List PlainAction → Sided → PlainTold
told_after places v = record {
  count = min (length (waiting v)) (room_in places);
  waiting = min (length (waiting (side_after places v))) 4294967295;
}
