use Rattle.std.proofs.Common.{◌≡◌, [], rules, arith, true, sym, subst}
use Rattle.std.specs.Prelude.{pos}
use Rattle.iscsi_tasks.proofs.Names.{Marks, Chained, chained, IsKeptLinked}
use Rattle.iscsi_tasks.proofs.LinkedSetLemmas.{kept_none_yet}
use Rattle.iscsi_tasks.proofs.linked_tasks.LinkedTasks.open.Goals as goal

pub invariant_of-result : goal.invariant_of-result
invariant_of-result c =
    let most = pos 9223372036854775807 in
    let empty : c.in_ok-chain.chain ≡ chained [] [] c.args.depth = search rules in
    subst (λ (v : Chained). IsKeptLinked c.args.depth v.room most true most c.new.result v.slots v.members) (sym empty)
    (subst (λ (m : Marks). IsKeptLinked c.args.depth c.args.depth most true most m [] []) (sym c.new.ensures)
    (kept_none_yet c.args.depth most most (omega arith) (omega arith)))
