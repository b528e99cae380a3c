use Rattle.std.proofs.Common.{◌≡◌, ◌∙◌, ◌∷◌, ◌++◌, [], List, ap, sym, rules}
use Rattle.iscsi_threads.specs.declared.job.Job.{Job}
use Rattle.iscsi_threads.specs.rules.Desks.{seen}
use Rattle.iscsi_threads.proofs.StraightLemmas.{job_goes_out, none_waits}
use Rattle.iscsi_threads.proofs.desk.note_all.Goals as goal

pub returns-clause-jobs : goal.returns-clause-jobs
returns-clause-jobs c =
    let same : c.in-Enable.enabled ≡ c.in-Enter.ticket = search rules in
    let out = job_goes_out (seen c.args.desk.now) c.args.effects.now _ _ _ c.in-Deliver.request c.in-Enter.ticket c.in-Enter.unit c.in-Enable.enabled c.in-Enable.unit c.in-Enter.attr
    c.in-len3.len_at_least c.in-len3.len_below c.in-Deliver.is c.in-Enter.is c.in-Enable.is same c.requires.numbered in
    c.push_back_reserved.ensures.items ∙ ap (λ (l : List Job). c.args.fresh.now.items ++ l) (ap (λ (j : Job). j ∷ []) c.job_of.ensures ∙ sym out)

pub returns-clause-known : goal.returns-clause-known
returns-clause-known c =
    let same : c.in-Enable.enabled ≡ c.in-Enter.ticket = search rules in
    sym (none_waits (seen c.args.desk.now) c.args.effects.now _ _ _ c.in-Deliver.request c.in-Enter.ticket c.in-Enter.unit c.in-Enable.enabled c.in-Enable.unit c.in-Enter.attr
    c.in-len3.len_at_least c.in-len3.len_below c.in-Deliver.is c.in-Enter.is c.in-Enable.is same c.requires.numbered)
