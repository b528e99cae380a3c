-- What opening a side answers.
use Rattle.std.specs.Prelude.{◌≡◌, Bool, true, false, Result, Ok, Err, ⊤}
use Rattle.iscsi_ffi.specs.declared.answer.Answer.{Answer}
use Rattle.iscsi_ffi.specs.declared.answer.Answer.TheVariants.{BadOptions, NoMemory}

-- it is refused just as it must be; where it mustn't, only for want of memory
abbrev pub RefusesAs : {A : Type 0} → Bool → Result A Answer → Type 0
RefusesAs true (Ok x) = ⊤
RefusesAs true (Err e) = e ≡ NoMemory
RefusesAs false (Ok x) = ⊥
RefusesAs false (Err e) = e ≡ BadOptions
