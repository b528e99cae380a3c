use Rattle.std.proofs.Common.{◌≡◌, ◌<◌, ◌^◌, drop}
use Rattle.iscsi_recording.specs.Fields.{digits_after}
use Rattle.iscsi_recording.proofs.parse.few_digits.Given as goal

abbrev pub invariant-loop-d : goal.invariant-loop-d
invariant-loop-d l = record { read : digits_after l.n (drop l.d-index l.text) ≡ digits_after 0 l.text; small : l.n < 10 ^ l.d-index }
