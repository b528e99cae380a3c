use Rattle.std.proofs.Common.{refl, ◌≡◌, ℕ, List, ◌<◌, ◌∙◌, ◌∷◌, ap, sym, drop, get_or, below_more, rules, arith, length, vec_len, Vec}
use Rattle.std.proofs.lemmas.List.{get_or_default}
use Rattle.std.specs.Vec.Iter.{into_iter_items}
use Rattle.std.specs.declared.alloc.Global.{Global}
use Rattle.std.specs.declared.thread.PromisedHandle.{PromisedHandle}
use Rattle.iscsi_threads.specs.declared.port.Port.{Port}
use Rattle.iscsi_threads.specs.declared.posting.Posted.{Posted}
use Rattle.iscsi_threads.specs.declared.posting.Posts.{Posts}
use Rattle.iscsi_threads.proofs.Steps.{next_of, rest_of}
use Rattle.iscsi_threads.proofs.posting.start_posts.Goals as goal

pub loop-port-preserved : goal.loop-port-preserved
loop-port-preserved g c =
    let v = c.loop-port.invariant in let i = c.loop-port.i in let xs = c.args.ports.items in let ls = c.args.lists.now in
    let steps = c.in-Some.ensures.steps in
    let e = c.in-Ok-push.ensures in
    let hs = c.push.new.self.items in
    let lt : i < length ls = search rules in
    let next : drop i xs ≡ c.in-Some.port ∷ into_iter_items c.next.new.self = sym v.rest ∙ steps.0 in
    record {
      count = search rules;
      rest = rest_of xs i _ _ next;
      left = search rules;
      room = search rules;
      started = λ k h p l lo. below_more (λ (j : ℕ). (h' : PromisedHandle Posted Posts) (p' : Port) (l' : Vec (List ℕ) Global) →
          ((get_or hs j h').promise.port.value ≡ get_or xs j p') × ((get_or hs j h').promise.list.now ≡ (get_or ls j l').items)) i
          (λ j lo' h' p' l'. let at : get_or hs j h' ≡ _ = e.by_index.0 j h' (omega arith) in rw at (v.started j h' p' l' lo'))
          (λ h' p' l'.
          let at : get_or hs i h' ≡ c.in-Ok.handle = ap (λ (n : ℕ). get_or hs n h') (sym v.count) ∙ e.by_index.1 h' refl in
          let list : c.index-lists-i.result ≡ get_or ls i l' = c.index-lists-i.is ∙ get_or_default ls i c.index-lists-i.result l' lt in
          rw at (
            ap (λ (w : Posts). w.port.value) c.in-Ok.ensures.ok ∙ c.of.ensures ∙ next_of xs i _ p' _ next,
            ap (λ (w : Posts). w.list.now) c.in-Ok.ensures.ok ∙ c.as_slice-list.ensures.value ∙ ap (λ (w : Vec (List ℕ) Global). w.items) list,
          ))
          k lo h p l;
    }

pub returns-clause-posts : goal.returns-clause-posts
returns-clause-posts g c =
    let v = c.loop-port.invariant in
    let last : c.loop-port.i ≡ vec_len c.args.ports = omega (arith, c.in-None.ensures.steps.0, v.left) in
    (v.count ∙ last, rw (← last) v.started)
