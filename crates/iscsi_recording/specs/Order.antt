-- The order in which a reading meets faults: a fault is answered as soon as the bytes that were read make it certain.
use Rattle.std.specs.Prelude.{◌≡◌, ◌⊎◌, ℕ, ◌≤◌, List, [], ◌++◌, length, Option, Result, Ok, Err, ⊤}
use Rattle.std.specs.Io.KnownBytes.{Consumes, IsAtEnd}
use Rattle.iscsi_recording.specs.Recorded.{Recorded}
use Rattle.iscsi_recording.specs.declared.fault.ReplayFault.{ReplayFault}
use Rattle.iscsi_recording.specs.declared.fault.ReplayFault.TheVariants as fault

-- the bytes seen make the fault certain: whatever bytes come after them, reading all of them gives it
abbrev pub IsDue : (List ℕ → Result Recorded ReplayFault) → List ℕ → ReplayFault → Type 0
IsDue reads seen f = (more : List ℕ) → reads (seen ++ more) ≡ Err f

-- the bytes seen make no fault certain
abbrev pub NoneIsDue : (List ℕ → Result Recorded ReplayFault) → List ℕ → Type 0
NoneIsDue reads seen = (f : ReplayFault) → IsDue reads seen f → ⊥

-- reading gives this fault for just the bytes seen, and the reader has no more
pub record IsDueAtEnd (reads : List ℕ → Result Recorded ReplayFault) (seen : List ℕ) (new : Option (List ℕ)) (f : ReplayFault) : Type 0 where
  pub fault : reads seen ≡ Err f
  pub ended : IsAtEnd new

-- when each answer may come, after these bytes were seen. `Read` comes only where they make no fault certain. A fault of
-- the bytes comes where they make it certain, or at the end of the input. `Ok`, `Write` and the refusals of threads come
-- at the end of the input, and `BadSettings` before any byte.
abbrev pub ComesInOrder : (List ℕ → Result Recorded ReplayFault) → Result (Unit {0}) ReplayFault → List ℕ → Option (List ℕ) → Type 0
ComesInOrder reads (Ok x) seen new = IsAtEnd new
ComesInOrder reads (Err fault.Read) seen new = NoneIsDue reads seen
ComesInOrder reads (Err fault.NoMemory) seen new = ⊤
ComesInOrder reads (Err fault.Write) seen new = IsAtEnd new
ComesInOrder reads (Err fault.BadSettings) seen new = seen ≡ []
ComesInOrder reads (Err fault.NoThread) seen new = IsAtEnd new
ComesInOrder reads (Err fault.Exhausted) seen new = IsAtEnd new
ComesInOrder reads (Err e) seen new = IsDue reads seen e ⊎ IsDueAtEnd reads seen new e

-- the known bytes lost a front that was seen, and the answer comes in its order. No fault was certain before the last
-- chunk of what was seen: after a chunk that makes one certain no other is read.
pub record ReadsInOrder (reads : List ℕ → Result Recorded ReplayFault) (answer : Result (Unit {0}) ReplayFault) (old new : Option (List ℕ)) : Type 0 where
  pub before : List ℕ
  pub last : List ℕ
  pub seen : Consumes old new (before ++ last)
  pub chunk : length last ≤ 65536
  pub early : NoneIsDue reads before
  pub order : ComesInOrder reads answer (before ++ last) new
