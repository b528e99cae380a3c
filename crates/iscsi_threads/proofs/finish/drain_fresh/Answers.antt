use Rattle.std.proofs.Common.{◌≡◌, ℕ, ◌+◌, ◌<◌, ◌≤◌, ◌∙◌, List, [], ◌∷◌, ◌++◌, append-nil, ap, sym, length, map, arith, get_or, vec_len, vec_capacity, Vec}
use Rattle.std.proofs.lemmas.List.{nil_from_length}
use Rattle.std.specs.VecDeque.{deque_len}
use Rattle.std.specs.declared.alloc.Global.{Global}
use Rattle.iscsi_threads.specs.declared.job.Job.{Job}
use Rattle.iscsi_threads.specs.rules.Journal.{jobs_of}
use Rattle.iscsi_threads.specs.promises.Outcomes.{ticket_of}
use Rattle.iscsi_threads.proofs.Lists.{each_set}
use Rattle.iscsi_threads.proofs.FinishLemmas.{noted_next, not_of}
use Rattle.iscsi_threads.proofs.finish.drain_fresh.Goals as goal
use Rattle.iscsi_threads.proofs.finish.drain_fresh.Goals.{then-unit-len, else-unit-len}

pub loop-preserved : goal.loop-preserved
loop-preserved c =
    let v = c.loop.invariant in
    let old = c.loop.untaken.items in let all = c.loop.fresh.items in let js = c.pop_front.new.self.items in let job = c.in-Some.job in
    let split : all ≡ job ∷ js = c.in-Some.ensures.items in
    let fewer : deque_len c.pop_front.new.self + 1 ≡ deque_len c.loop.fresh = omega (arith, c.in-Some.ensures.len) in
    let count : deque_len c.pop_front.new.self + (c.loop.counter + 1) ≡ deque_len c.args.fresh.now = omega arith in
    elim c.if-unit-len.branch [
      | then-unit-len w ↦
          let unit = c.from-unit.result in let x = w.index_mut.result.now in let t = w.push_reserved.new.self in
          let below : unit < length old = omega arith in
          rw w.untaken-is (record {
            moved = λ u v' w' lt.
                noted_next old unit job js x t u w' c.from-unit.ensures below w.index_mut.ensures.value w.push_reserved.ensures.items
                ∙ ap (λ (l : List Job). (get_or old u w').items ++ map ticket_of (jobs_of u l)) (sym split)
                ∙ v.moved u v' w' lt;
            room = each_set (λ (z : Vec ℕ Global). vec_len z + deque_len c.loop.fresh ≤ vec_capacity z) (λ (z : Vec ℕ Global). vec_len z + deque_len c.pop_front.new.self ≤ vec_capacity z)
                old unit x t w.index_mut.ensures.value below (λ z h. omega arith) (λ h. omega arith) v.room;
            len = v.len;
            count = count;
          })
      | else-unit-len w ↦
          rw w.untaken-is (record {
            moved = λ u v' w' lt.
                ap (λ (l : List Job). (get_or old u w').items ++ map ticket_of l) (not_of job js u (length old) (omega arith) (omega arith))
                ∙ ap (λ (l : List Job). (get_or old u w').items ++ map ticket_of (jobs_of u l)) (sym split)
                ∙ v.moved u v' w' lt;
            room = λ i d lt. let h = v.room i d lt in omega arith;
            len = v.len;
            count = count;
          })
    ]

pub returns-clause-noted : goal.returns-clause-noted
returns-clause-noted c = λ u v w lt.
    let none : c.loop.fresh.items ≡ [] = nil_from_length c.loop.fresh.items (omega arith) in
    let here = (get_or c.loop.untaken.items u w).items in
    sym (append-nil here)
    ∙ ap (λ (l : List Job). here ++ map ticket_of (jobs_of u l)) (sym none)
    ∙ c.loop.invariant.moved u v w lt
