use Rattle.std.proofs.Common.{refl, ◌≡◌, ℕ, ◌+◌, ◌∙◌, ◌∷◌, sym, drop, get_or, below_more, rules, arith, vec_len}
use Rattle.std.specs.Vec.Iter.{into_iter_items}
use Rattle.std.specs.declared.thread.PromisedHandle.{PromisedHandle}
use Rattle.iscsi_threads.specs.declared.port.UnitPort.{UnitPort}
use Rattle.iscsi_threads.specs.declared.working.Works.{Works}
use Rattle.iscsi_threads.specs.rules.Ports.{unit_rings}
use Rattle.iscsi_threads.specs.rules.Works.{InTurn}
use Rattle.iscsi_threads.proofs.Steps.{next_of, rest_of}
use Rattle.iscsi_threads.proofs.working.join_works.Goals as goal

pub loop-handle-preserved : goal.loop-handle-preserved
loop-handle-preserved g c =
    let v = c.loop-handle.invariant in let i = vec_len c.loop-handle.ports in let xs = c.args.handles.items in
    let e = c.in-Ok.ensures in let ys = c.push.new.self.items in
    let steps = c.in-Some.ensures.steps in
    let next : drop i xs ≡ c.in-Some.handle ∷ into_iter_items c.next.new.self = sym v.rest ∙ steps.0 in
    let more : vec_len c.push.new.self ≡ i + 1 = e.len in
    record {
      rest = rw more (rest_of xs i _ _ next);
      left = omega (arith, steps.1, v.left, more);
      room = search rules;
      done = λ k h q lo. below_more (λ (j : ℕ). (h' : PromisedHandle UnitPort Works) (q' : UnitPort) →
          (unit_rings (get_or ys j q') ≡ unit_rings (get_or xs j h').promise.port.value) × InTurn (get_or ys j q')) i
          (λ j l h' q'. let at : get_or ys j q' ≡ _ = e.by_index.0 j q' l in rw at (v.done j h' q' l))
          (λ h' q'.
          let at : get_or ys i q' ≡ c.join-port.result = e.by_index.1 q' refl in
          let here : c.in-Some.handle ≡ get_or xs i h' = next_of xs i _ h' _ next in
          rw (at, ← here) c.join-port.ensures)
          k (rw more at lo) h q;
    }

pub returns : goal.returns
returns g c =
    let v = c.loop-handle.invariant in
    let last : vec_len c.loop-handle.ports ≡ vec_len c.args.handles = omega (arith, c.in-None.ensures.steps.0, v.left) in
    (last, rw (← last) v.done)
