use Rattle.std.proofs.Common.{◌∙◌, rules, subst}
use Rattle.std.specs.List.Sorted.{IsSearchInRange}
use Rattle.std.proofs.lemmas.List.Sorted.{answers_always}
use Rattle.iscsi_threads.proofs.DeskLemmas.{searched}
use Rattle.iscsi_threads.proofs.desk.place_of.Goals as goal

pub returns : goal.returns
returns c =
    let facts = c.binary_search_by_key.ensures in
    let by_key = facts.position (λ j. j.ticket) (answers_always _ _ _ (λ f a r g called. search rules)) in
    let bound = subst (λ n. IsSearchInRange c.binary_search_by_key.result n) c.args.jobs.now.ok.0 facts.bound in
    c.ok.ensures.value ∙ searched c.args.jobs.now.items c.requires c.args.ticket c.binary_search_by_key.result bound by_key
