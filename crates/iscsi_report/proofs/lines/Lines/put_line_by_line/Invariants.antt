use Rattle.std.proofs.Common.{◌≡◌, ◌++◌, take}
use Rattle.std.specs.List.{flat_map}
use Rattle.iscsi_report.specs.Lines.{event_line, effect_line}
use Rattle.iscsi_report.proofs.lines.Lines.put_line_by_line.Given as goal

abbrev pub invariant-loop-effect : goal.invariant-loop-effect
invariant-loop-effect l =
    l.self ≡ l.fn.self ++ (event_line l.event ++ flat_map (λ effect. effect_line effect l.numbers) (take l.effect-index l.effects))
