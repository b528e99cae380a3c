use Rattle.std.proofs.Common.{◌++◌, ◌∷◌, [], ◌∙◌, List, ℕ, ap, sym, map}
use Rattle.std.proofs.lemmas.List.{map-append}
use Rattle.iscsi_threads.specs.rules.Ports.{taken}
use Rattle.iscsi_threads.specs.promises.Outcomes.{ticket_of}
use Rattle.iscsi_threads.specs.rules.Works.{ticket_answered}
use Rattle.iscsi_threads.proofs.working.work_all.Goals as goal

-- the job in hand is the last one that was taken
pub returns-then-not-answer_one-clause-order : goal.returns-then-not-answer_one-clause-order
returns-then-not-answer_one-clause-order g c =
    let job = c.in-Some-take.job in
    let answers = ap (map ticket_answered) (c.answer_one.ensures.stopped c.if-not-answer_one.true ∙ c.take.ensures.answered) ∙ c.loop.invariant.turn in
    let jobs = ap (map ticket_of) (c.answer_one.ensures.taken ∙ c.in-Some-take.ensures.some) ∙ map-append ticket_of (taken c.loop.port) (job ∷ []) in
    (job.ticket ∷ [], ap (λ (l : List ℕ). l ++ job.ticket ∷ []) answers ∙ sym jobs)
