use Rattle.std.proofs.Common.{◌≡◌, ◌≤◌, ◌+◌, ◌*◌, ◌++◌, length, take}
use Rattle.std.specs.List.{flat_map}
use Rattle.iscsi_report.specs.Lines.{effect_line}
use Rattle.iscsi_report.proofs.entry_line.write_all.Given as goal

abbrev pub invariant-effects : goal.invariant-effects
invariant-effects l = record {
  bound : l.end + 256 * length l.rest ≤ l.fn.at + 256 * length l.effects;
  written : take l.end l.line ++ flat_map (λ effect. effect_line effect l.numbers) l.rest
      ≡ take l.fn.at l.fn.line ++ flat_map (λ effect. effect_line effect l.numbers) l.effects;
}

abbrev pub decreases-effects : goal.decreases-effects
decreases-effects l = length l.rest
