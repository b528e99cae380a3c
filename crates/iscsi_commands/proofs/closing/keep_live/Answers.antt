use Rattle.std.proofs.Common.{◌≡◌, ◌≢◌, ℕ, ◌<◌, ◌+◌, List, length, get_or, set, ap, sym, subst, ◌∙◌, arith}
use Rattle.std.proofs.lemmas.Bool.Decides.{nat_tests}
use Rattle.std.proofs.lemmas.List.{get_or_default, length-set}
use Rattle.iscsi_commands.specs.declared.entry.Entry.{Entry}
use Rattle.iscsi_commands.specs.Log.{IsLiveAt, entry_at, group_of, tag_at, rank}
use Rattle.iscsi_commands.proofs.LogLemmas.{group_below}
use Rattle.iscsi_commands.proofs.RankLemmas.{AreRenumbered, closing_ended, closing_live, rank_below, renumbered_here, renumbered_past}
use Rattle.iscsi_commands.proofs.closing.keep_live.Goals as goal
use Rattle.iscsi_commands.proofs.closing.keep_live.Goals.{then-index, then-from-k, else-from-k, else-index}

pub index_mut-requires-then-index : goal.index_mut-requires-then-index
index_mut-requires-then-index c =
    let closing = c.loop-k.invariant.closing in
    omega (arith, c.loop-k.log.ok.0, c.args.log.now.ok.0, closing.long, closing.next, rank_below c.args.log.now.items c.loop-k.k, c.loop-k-test.true, c.len-k-end.ensures)

pub loop-k-preserved : goal.loop-k-preserved
loop-k-preserved c =
    let old : List Entry = c.args.log.now.items in
    let k : ℕ = c.loop-k.k in
    let closing = c.loop-k.invariant.closing in
    let inside : k < length old = omega (arith, c.args.log.now.ok.0, c.loop-k-test.true, c.len-k-end.ensures) in
    let read : (x : Entry) → x ≡ get_or c.loop-k.log.items k x → x ≡ entry_at old k = λ x is. grind (arith, nat_tests, is, get_or_default, closing.back k, closing.long, inside) in
    let tested : c.index.result.now ≡ entry_at old k = read c.index.result.now c.index.ensures in
    elim c.if-index.branch [
      | then-index w ↦
          let entry : w.index-entry.result.now ≡ entry_at old k = read w.index-entry.result.now w.index-entry.ensures in
          let here : IsLiveAt old k = sym (ap (λ (e : Entry). e.is_live) tested) ∙ w.if-index.true in
          let group : w.group_of-group.result ≡ group_of (tag_at old k) = w.group_of-group.ensures ∙ ap (λ (e : Entry). group_of e.command.itt) entry in
          let held : (x : ℕ) → x ≡ get_or c.loop-k.places.items w.group_of-group.result x → x ≡ get_or c.loop-k.places.items w.group_of-group.result 0 = λ x is. grind (arith, nat_tests, is, get_or_default, group, group_below, closing.renumbered.size) in
          let ranked : c.loop-k.live ≡ rank old k = closing.next in
          let few : c.loop-k.live < 65536 = omega (arith, ranked, rank_below old k, inside, c.requires.short) in
          let places : AreRenumbered old (k + 1) c.args.places.now.items c.if-index.places.items = elim w.if-from-k.branch [
            | then-from-k v ↦
                let there : get_or c.loop-k.places.items w.group_of-group.result 0 ≡ k = sym (held w.index-then-index.result.now w.index-then-index.ensures) ∙ sym w.from.ensures ∙ v.if-from-k.true in
                let are : c.if-index.places.items ≡ set c.loop-k.places.items w.group_of-group.result c.loop-k.live = grind (arith, nat_tests, w.places-is, v.places-is, few) in
                subst (AreRenumbered old (k + 1) c.args.places.now.items) (sym are) (renumbered_here old k w.group_of-group.result closing.renumbered group there c.loop-k.live ranked)
            | else-from-k v ↦
                let away : get_or c.loop-k.places.items w.group_of-group.result 0 ≢ k = λ is. v.if-from-k.false (w.from.ensures ∙ held w.index-then-index.result.now w.index-then-index.ensures ∙ is) in
                let are : c.if-index.places.items ≡ c.loop-k.places.items = cc (w.places-is, v.places-is) in
                subst (AreRenumbered old (k + 1) c.args.places.now.items) (sym are) (renumbered_past old k w.group_of-group.result closing.renumbered group away)
          ] in
          let log : c.if-index.log.items ≡ set c.loop-k.log.items c.loop-k.live (entry_at old k) = grind (arith, nat_tests, w.log-is, entry) in
          let hints : length c.if-index.hints ≡ 4096 = grind (arith, nat_tests, w.hints-is, length-set, closing.hinted) in
          let live : c.if-index.live ≡ c.loop-k.live + 1 = cc w.live-is in
          record {
            closing = rw (log, live) (closing_live closing inside here c.if-index.places.items c.if-index.hints hints places);
            capacity = grind (arith, nat_tests, w.log-is, c.loop-k.invariant.capacity);
          }
      | else-index w ↦
          let over = ap (λ (e : Entry). e.is_live) (sym tested) ∙ w.if-index.false in
          record {
            closing = rw (w.log-is, w.hints-is, w.places-is, w.live-is) (closing_ended closing inside over);
            capacity = rw w.log-is c.loop-k.invariant.capacity;
          }
    ]
