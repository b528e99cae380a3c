use Rattle.std.proofs.Common.{refl, ◌≡◌, ℕ, ◌∙◌, ◌∷◌, ap, sym, drop, get_or, below_more, rules, arith}
use Rattle.std.specs.Vec.Iter.{into_iter_items}
use Rattle.std.specs.declared.thread.PromisedHandle.{PromisedHandle}
use Rattle.iscsi_threads.specs.declared.port.UnitPort.{UnitPort}
use Rattle.iscsi_threads.specs.declared.working.Works.{Works}
use Rattle.iscsi_threads.proofs.Steps.{next_of, rest_of}
use Rattle.iscsi_threads.proofs.working.start_works.Goals as goal

pub loop-port-preserved : goal.loop-port-preserved
loop-port-preserved g c =
    let v = c.loop-port.invariant in let i = c.loop-port.unit in let xs = c.args.ports.items in
    let steps = c.in-Some.ensures.steps in
    let e = c.in-Ok-push.ensures in
    let hs = c.push.new.self.items in
    let next : drop i xs ≡ c.in-Some.port ∷ into_iter_items c.next.new.self = sym v.rest ∙ steps.0 in
    record {
      count = search rules;
      rest = rest_of xs i _ _ next;
      left = search rules;
      room = search rules;
      started = λ k h p lo. below_more (λ (j : ℕ). (h' : PromisedHandle UnitPort Works) (p' : UnitPort) → (get_or hs j h').promise.port.value ≡ get_or xs j p') i
          (λ j l h' p'. let at : get_or hs j h' ≡ _ = e.by_index.0 j h' (omega arith) in rw at (v.started j h' p' l))
          (λ h' p'.
          let at : get_or hs i h' ≡ c.in-Ok.handle = ap (λ (n : ℕ). get_or hs n h') (sym v.count) ∙ e.by_index.1 h' refl in
          rw at (ap (λ (w : Works). w.port.value) c.in-Ok.ensures.ok ∙ c.of.ensures ∙ next_of xs i _ p' _ next))
          k lo h p;
    }
