use Rattle.std.proofs.Common.{◌≡◌, sym, subst}
use Rattle.iscsi_rules.specs.rules.Settings.{Setting}
use Rattle.iscsi_session.specs.promises.Settings.{setting_of}
use Rattle.iscsi_threads.specs.rules.Loops.{setting}
use Rattle.iscsi_threads.specs.promises.Serving.{Ran}
use Rattle.iscsi_threads.proofs.ServedLemmas.{served_by}
use Rattle.iscsi_threads.proofs.serving.serve.Goals as goal

pub returns-clause-served : goal.returns-clause-served
returns-clause-served g c =
    let l = c.in_ok-core.core in let lists = c.args.lists.items in let x = c.in-Ok.outcome in
    let ran = rw c.deref.ensures.value at c.in_ok-core.ensures.ran in
    let f = c.in-Ok.ensures.ok in
    let same : setting l ≡ setting_of c.args.options = ran.setting_is in
    let ran' : Ran (setting l) lists l c.in_ok-core.ports.items c.in_ok-core.units.items = subst (λ (o : Setting). Ran o lists l c.in_ok-core.ports.items c.in_ok-core.units.items) (sym same) ran in
    record {
      log_is = rw (f.journal_is, ← same) f.log_is;
      keeps = rw (f.journal_is, ← same) f.keeps;
      served = rw (f.journal_is, f.sources_are, ← same) (served_by l lists _ _ ran' _ _ _ f.accounted);
    }
