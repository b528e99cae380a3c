use Rattle.std.proofs.Common.{ℕ, ◌+◌, take, length-take, length-drop, rules, arith}
use Rattle.iscsi_recording.proofs.Written.{front_of, more_of}
use Rattle.std.proofs.KnownBytes.{Appends-kept}
use Rattle.iscsi_recording.proofs.sink.put_all.Goals as goal

pub returns-in-Ok-eq0-clause-front : goal.returns-in-Ok-eq0-clause-front
returns-in-Ok-eq0-clause-front g c =
    let k = c.in-Ok-eq0.field-0 in
    front_of _ _ c.args.bytes.now (c.writes.at + k) (more_of _ _ _ c.args.bytes.now c.writes.at k c.writes.invariant.written c.in-Ok-eq0.ensures.bytes)

pub writes-preserved : goal.writes-preserved
writes-preserved g c = record {
  fresh = search rules;
  within = let took = c.in-Ok.ensures.bound in omega (arith, took, length-take {A = ℕ}, length-drop {A = ℕ});
  written = more_of _ _ _ c.args.bytes.now c.writes.at c.in-Ok.n c.writes.invariant.written c.in-Ok.ensures.bytes;
}

pub returns-in-Err-clause-front : goal.returns-in-Err-clause-front
returns-in-Err-clause-front g c =
    front_of _ _ c.args.bytes.now c.writes.at (Appends-kept _ _ _ (take c.writes.at c.args.bytes.now) c.writes.invariant.written c.in-Err.ensures.bytes)
