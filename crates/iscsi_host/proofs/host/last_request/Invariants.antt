use Rattle.std.proofs.Common.{◌≡◌, ◌≤◌, take, length}
use Rattle.iscsi_host.specs.Plain.{last_executing}
use Rattle.iscsi_host.proofs.host.last_request.Given as goal

-- none of the effects from here on executes a request
abbrev pub invariant-loop-before : goal.invariant-loop-before
invariant-loop-before l = record {
  last : last_executing (take l.before l.effects) ≡ last_executing l.effects;
  within : l.before ≤ length l.effects;
}

abbrev pub decreases-loop-before : goal.decreases-loop-before
decreases-loop-before l = l.before
