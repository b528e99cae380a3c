use Rattle.std.proofs.Common.{ℕ, List, ◌++◌, ◌-◌, take, drop, length, ap, ◌∙◌, arith}
use Rattle.std.proofs.lemmas.List.{length-take, length-drop}
use Rattle.iscsi_report.proofs.EntryLemmas.{lines_of, lines_of_both}
use Rattle.iscsi_report.proofs.entry_line.write_all.Goals as goal

pub effects-preserved : goal.effects-preserved
effects-preserved c =
    let k = c.write_first-count.result.0 in
    let rest = c.effects.rest.now in
    record {
      bound = omega (
        arith,
        c.effects.invariant.bound,
        c.write_first-count.ensures.count,
        c.write_first-count.ensures.end,
        length-drop k rest,
        length-take (length rest - k) (drop k rest),
      );
      written = ap (λ (l : List ℕ). l ++ lines_of c.args.numbers (take (length rest - k) (drop k rest))) c.write_first-count.ensures.written
          ∙ lines_of_both c.args.numbers k rest _ ∙ c.effects.invariant.written;
    }
