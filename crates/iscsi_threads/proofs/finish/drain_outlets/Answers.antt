use Rattle.std.proofs.Common.{◌≡◌, ◌≢◌, ℕ, ◌<◌, ◌≤◌, ◌∙◌, ap, sym, length, rules, arith, get_or, set, below_more, Vec}
use Rattle.std.proofs.lemmas.List.{get_or-set_other, get_or-set_same}
use Rattle.std.specs.declared.alloc.Global.{Global}
use Rattle.iscsi_threads.specs.declared.port.UnitPort.{UnitPort}
use Rattle.iscsi_threads.specs.declared.outlet.Outlet.{Outlet}
use Rattle.iscsi_threads.specs.rules.Ports.{Answer, unit_rings}
use Rattle.iscsi_threads.specs.rules.Outlets.{outlet_rings}
use Rattle.iscsi_threads.specs.private.Finishing.{UnitLeft}
use Rattle.iscsi_threads.proofs.Lists.{map_at, get_same}
use Rattle.iscsi_threads.proofs.finish.drain_outlets.Goals as goal

pub drain_outlet-requires-clause-pair : goal.drain_outlet-requires-clause-pair
drain_outlet-requires-clause-pair c =
    let i = c.loop-i.i in
    let units = c.args.units.now.items in let outlets = c.args.outlets.now.items in
    let q = c.index_mut-in-loop-i.result.now in let o = c.index_mut.result.now in
    let lt : i < length units = search rules in
    let lt' : i < length outlets = search rules in
    let same : i ≤ i = omega arith in
    ap unit_rings (c.index_mut-in-loop-i.ensures.value ∙ c.loop-i.invariant.units i q same)
    ∙ map_at unit_rings outlet_rings units outlets i q o c.requires.pairs lt lt'
    ∙ sym (ap outlet_rings (c.index_mut.ensures.value ∙ c.loop-i.invariant.outlets i o same))

pub loop-i-preserved : goal.loop-i-preserved
loop-i-preserved c =
    let v = c.loop-i.invariant in let i = c.loop-i.i in
    let units = c.args.units.now.items in let outlets = c.args.outlets.now.items in let rooms = c.args.untaken.now.items in
    let untaken = c.loop-i.untaken.items in let unread = c.loop-i.unread.items in
    let t = c.drain_outlet.new.untaken in let r = c.drain_outlet.new.unread in
    let q = c.index_mut-in-loop-i.result.now in let o = c.index_mut.result.now in let b = c.index_mut-in-loop-i-2.result.now in
    let same : i ≤ i = omega arith in
    let lt : i < length units = search rules in
    let lt' : i < length outlets = search rules in
    let lt_b : i < length rooms = search rules in
    let lt_t : i < length untaken = search rules in
    let lt_r : i < length unread = search rules in
    let P : ℕ → Type 0 = λ k. (q' : UnitPort) (o' : Outlet) (b' v' : Vec ℕ Global) (w : Vec Answer Global) →
    UnitLeft (get_or units k q') (get_or outlets k o') (get_or rooms k b') (get_or (set untaken i t) k v') (get_or (set unread i r) k w)
    in
    record {
      done = λ k q' o' b' v' w lo. below_more P i
          (λ j h q'' o'' b'' v'' w''.
          let ne : j ≢ i = omega arith in
          rw (get_or-set_other untaken i j t v'' ne, get_or-set_other unread i j r w'' ne) (v.done j q'' o'' b'' v'' w'' h))
          (λ q'' o'' b'' v'' w''.
          let is_q : q ≡ get_or units i q'' = c.index_mut-in-loop-i.ensures.value ∙ v.units i q same ∙ get_same units i q q'' lt in
          let is_o : o ≡ get_or outlets i o'' = c.index_mut.ensures.value ∙ v.outlets i o same ∙ get_same outlets i o o'' lt' in
          let is_b : b ≡ get_or rooms i b'' = c.index_mut-in-loop-i-2.ensures.value ∙ v.untaken i b same ∙ get_same rooms i b b'' lt_b in
          let e = c.drain_outlet.ensures in
          let whole : UnitLeft q o b t r = record { taken_first = e.taken; all_given = e.untaken; few = e.few.0; capacity = e.few.1; all_answers = e.unread } in
          rw (get_or-set_same untaken i t v'' lt_t, get_or-set_same unread i r w'' lt_r, ← is_q, ← is_o, ← is_b) whole)
          k lo q' o' b' v' w;
      units = λ k d le. let ne : k ≢ i = omega arith in rw get_or-set_other (v.units k d (omega arith));
      outlets = λ k d le. let ne : k ≢ i = omega arith in rw get_or-set_other (v.outlets k d (omega arith));
      untaken = λ k d le. let ne : k ≢ i = omega arith in rw get_or-set_other (v.untaken k d (omega arith));
      unread = λ k d le. let ne : k ≢ i = omega arith in rw get_or-set_other (v.unread k d (omega arith));
      units_len = search rules;
      outlets_len = search rules;
      untaken_len = search rules;
      unread_len = search rules;
    }
