-- What a writer takes.
use Rattle.std.specs.Prelude.{◌≡◌, ℕ, ◌==◌, ◌&&◌, not, Bool, true, List, ◌++◌, Option, Result, Ok, Err}
use Rattle.std.specs.Io.KnownBytes.{Appends}
use Rattle.iscsi_recording.specs.Recorded.{is_empty}

-- a write that answered an error, or took nothing of some bytes
abbrev pub is_failed_write : {E : Type 0} → Result ℕ E → List ℕ → Bool
is_failed_write (Ok n) bytes = n == 0 && not (is_empty bytes)
is_failed_write (Err e) bytes = true

-- the known bytes grow by a front of these
pub record AppendsFront (old new : Option (List ℕ)) (bytes : List ℕ) : Type 0 where
  pub front : List ℕ
  pub back : List ℕ
  pub whole : bytes ≡ front ++ back
  pub appended : Appends old new front

-- the known bytes grow by all of these but the ones that wait, which are their end
pub record AppendsBut (old new : Option (List ℕ)) (waiting bytes : List ℕ) : Type 0 where
  pub front : List ℕ
  pub whole : bytes ≡ front ++ waiting
  pub appended : Appends old new front
