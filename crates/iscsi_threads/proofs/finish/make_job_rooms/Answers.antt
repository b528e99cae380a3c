use Rattle.std.proofs.Common.{◌≡◌, ℕ, ◌+◌, ◌<◌, ◌≤◌, ◌∙◌, List, [], ◌∷◌, ◌++◌, ap, length, rules, arith, get_or, below_more, Option, None, Some, SomeIff, Vec, vec_capacity, sym}
use Rattle.std.proofs.Math.ListN.{get_or-append}
use Rattle.std.proofs.Math.Seq.{get_or-append_seam}
use Rattle.std.specs.VecDeque.{deque_len}
use Rattle.std.specs.declared.alloc.Global.{Global}
use Rattle.iscsi_threads.specs.declared.outlet.Outlet.{Outlet}
use Rattle.iscsi_threads.proofs.Lists.{get_same}
use Rattle.iscsi_threads.proofs.finish.make_job_rooms.Goals as goal

-- what a checked sum gives
sum_is : (P : Type 0) (n m : ℕ) (r : Option ℕ) → SomeIff r P n → r ≡ Some m → m ≡ n
sum_is P n m None is gives = absurd cc
sum_is P n m (Some k) is gives = cc

pub loop-outlet-preserved : goal.loop-outlet-preserved
loop-outlet-preserved c =
    let v = c.loop-outlet.invariant in let i = c.loop-outlet.outlet-index in
    let outlets = c.args.outlets.now in let old = c.loop-outlet.rooms.items in let rooms = c.push_reserved.new.self.items in let room = c.in_ok-room.room in
    let lt : i < length outlets = search rules in
    let len : length old ≡ i = omega arith in
    let beside : c.in_ok-beside.beside ≡ c.args.fresh + 64 = sum_is _ _ _ c.checked_add.result c.checked_add.ensures c.in_ok-beside.ensures.ok_part in
    let count : c.in_ok-count.count ≡ c.len.result + c.in_ok-beside.beside = sum_is _ _ _ c.checked_add-in-loop-outlet.result c.checked_add-in-loop-outlet.ensures c.in_ok-count.ensures.ok_part in
    let P : ℕ → Type 0 = λ k. (o : Outlet) (w : Vec ℕ Global) →
    ((get_or rooms k w).items ≡ []) × (64 + deque_len (get_or outlets k o).backlog + c.args.fresh ≤ vec_capacity (get_or rooms k w))
    in
    record {
      len = search rules;
      ready = λ k o w lo. below_more P i
          (λ j h o' w'.
          let at : get_or rooms j w' ≡ get_or old j w' = ap (λ (l : List (Vec ℕ Global)). get_or l j w') c.push_reserved.ensures.items ∙ get_or-append old (room ∷ []) w' j (omega arith) in
          rw at (v.ready j o' w' h))
          (λ o' w'.
          let at : get_or rooms i w' ≡ room = ap (λ (l : List (Vec ℕ Global)). get_or l i w') c.push_reserved.ensures.items ∙ ap (λ (k : ℕ). get_or (old ++ room ∷ []) k w') (sym len) ∙ get_or-append_seam old room [] w' in
          let is : c.outlet-item.result ≡ get_or outlets i o' = c.outlet-item.is ∙ get_same outlets i c.outlet-item.result o' lt in
          rw (at, ← is) (c.in_ok-room.ensures.items, omega (arith, c.in_ok-room.ensures.exact)))
          k lo o w;
      room = search rules;
    }

pub returns : goal.returns
returns c = let same : c.loop-outlet.outlet-index ≡ length c.args.outlets.now = omega arith in (c.loop-outlet.invariant.len ∙ same, rw (← same) c.loop-outlet.invariant.ready)
