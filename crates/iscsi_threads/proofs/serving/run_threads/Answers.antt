use Rattle.std.proofs.Common.{◌≡◌, ◌∙◌, ap, sym, subst, rules, arith, length, vec_len, []}
use Rattle.std.proofs.lemmas.List.{length-map, length-replicate}
use Rattle.iscsi_rules.specs.rules.Settings.{Setting, is_valid}
use Rattle.iscsi_session.specs.promises.Settings.{setting_of}
use Rattle.iscsi_threads.specs.declared.serving.End.{End}
use Rattle.iscsi_threads.specs.declared.serving.End.TheVariants.{Full}
use Rattle.iscsi_threads.specs.rules.Loops.{Opened, setting}
use Rattle.iscsi_threads.specs.promises.Serving.{Together}
use Rattle.iscsi_threads.specs.promises.Full.{FillsJournal}
use Rattle.iscsi_threads.specs.rules.Ports.{posted}
use Rattle.iscsi_threads.proofs.ServedLemmas.{fits_opened, full_of}
use Rattle.iscsi_threads.proofs.serving.run_threads.Goals as goal

pub run_opened-requires-after_bounds : goal.run_opened-requires-after_bounds
run_opened-requires-after_bounds g c = λ lifetimes inside.
    let o : Setting = setting_of c.args.options in
    let opened = c.in_ok-core.ensures.opened in
    let same : length o.conns ≡ length c.args.lists.now = search rules in
    let ports = c.in_ok-core.ports in
    let many : vec_len ports ≡ length ports.items = search rules in
    let count : length ports.items ≡ length o.conns = sym (length-map ports.items posted) ∙ ap length opened.posted_are ∙ length-replicate _ [] in (
      subst (λ (s : Setting). Opened s c.in_ok-core.core ports.items c.in_ok-core.units.items) (sym opened.setting_is) opened,
      omega (arith, same, many, count),
    )

pub returns-in-Ok-clause-bad : goal.returns-in-Ok-clause-bad
returns-in-Ok-clause-bad g c = λ unfit.
    let o : Setting = setting_of c.args.options in
    let same : length o.conns ≡ length c.args.lists.now = search rules in
    fits_opened (is_valid o) _ _ c.open.result _ c.open.ensures.bad c.in_ok-core.was same unfit

pub returns-in-Err-clause-bad : goal.returns-in-Err-clause-bad
returns-in-Err-clause-bad g c = λ unfit.
    let o : Setting = setting_of c.args.options in
    let same : length o.conns ≡ length c.args.lists.now = search rules in
    fits_opened (is_valid o) _ _ c.open.result _ c.open.ensures.bad c.in_ok-core.was same unfit

pub returns-in-Ok-clause-full : goal.returns-in-Ok-clause-full
returns-in-Ok-clause-full g c = λ full.
    let s = c.in-Ok.stopped in let lists = c.args.lists.now in
    let gone = c.settle.ensures.emptied full in
    let o : Setting = setting c.in_ok-core.core in
    let back : Together o lists s.core s.ports.items s.units.items Full = subst (λ (x : End). Together o lists s.core s.ports.items s.units.items x) gone.0 c.in-Ok.ensures in
    subst (λ (x : Setting). FillsJournal x lists) c.in_ok-core.ensures.opened.setting_is (full_of o s.core lists s.ports.items s.units.items back gone.1)
