use Rattle.std.proofs.Common.{◌≡◌, ◌<◌, ◌+◌, ℕ, Bool, List, true, false, length, get_or, set, ap, sym, ◌∙◌, arith}
use Rattle.std.proofs.lemmas.List.{length-set, get_or-set_same, get_or-set_other}
use Rattle.std.proofs.lemmas.Bool.Decides.{nat_tests}
use Rattle.iscsi_slots.proofs.SlotLemmas.{stands}
use Rattle.iscsi_commands.specs.declared.entry.Entry.{Entry}
use Rattle.iscsi_commands.specs.Log.{group_of, tag_at, IsOfOne}
use Rattle.iscsi_commands.proofs.LogLemmas.{group_below}
use Rattle.iscsi_commands.proofs.TagIndexLemmas.{mark_stays}
use Rattle.iscsi_commands.proofs.tag_index.mark.Goals as goal

-- the group of one more is marked
marked_more : (log : List Entry) (crowded : List Bool) (others : List ℕ) (i group : ℕ) → length crowded ≡ 4096 → ((j : ℕ) → j < i → get_or crowded (group_of (tag_at log (get_or others j 0))) false ≡ true)
    → group ≡ group_of (tag_at log (get_or others i 0)) → (j : ℕ) → j < i + 1 → get_or (set crowded group true) (group_of (tag_at log (get_or others j 0))) false ≡ true
marked_more log crowded others i group groups before is j l =
    grind (arith, nat_tests, group_below (tag_at log (get_or others i 0)), mark_stays, get_or-set_same)

-- and no other one
alone_more : (log : List Entry) (crowded : List Bool) (others : List ℕ) (i group : ℕ) → ((g : ℕ) → get_or crowded g false ≡ true → IsOfOne log others i g)
    → group ≡ group_of (tag_at log (get_or others i 0)) → (g : ℕ) → get_or (set crowded group true) g false ≡ true → IsOfOne log others (i + 1) g
alone_more log crowded others i group before is g marked = grind (arith, nat_tests, get_or-set_other)

pub loop-i-preserved : goal.loop-i-preserved
loop-i-preserved c = grind (arith, nat_tests, length-set c.loop-i.crowded c.group_of.result true, alone_more, marked_more)

pub returns-clause-marked : goal.returns-clause-marked
returns-clause-marked c = λ k some.
    let s = stands k c.args.others.now.items some in
    let inside = s.inside in let over = c.loop-i-test.false in let long = c.len-i-end.ensures.len in
    let within : s.place < c.loop-i.i = omega (arith, inside, over, long) in
    ap (λ n. get_or c.loop-i.crowded (group_of (tag_at c.args.log.now n)) false) (sym s.there) ∙ c.loop-i.invariant.marked s.place within
