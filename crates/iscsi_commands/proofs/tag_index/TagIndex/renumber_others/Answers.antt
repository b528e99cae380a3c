use Rattle.std.proofs.Common.{ℕ, sym, subst, arith}
use Rattle.iscsi_slots.specs.Queued.{Queued}
use Rattle.iscsi_commands.specs.Log.{AreMoved}
use Rattle.iscsi_commands.proofs.TagIndexLemmas.{other_within}
use Rattle.iscsi_commands.proofs.RankLemmas.{moved_by}
use Rattle.iscsi_commands.proofs.tag_index.TagIndex.renumber_others.Goals as goal

pub mark-requires-clause-within : goal.mark-requires-clause-within
mark-requires-clause-within c = other_within c.requires.tagged

pub put_in_place-requires : goal.put_in_place-requires
put_in_place-requires c = λ i l. omega (arith, other_within c.requires.tagged i l, c.requires.size, c.note_ranks.ensures.size)

pub returns-clause-others : goal.returns-clause-others
returns-clause-others c =
    subst (λ (o : Queued ℕ). AreMoved c.args.log.now c.args.self.now.others.items o.items) (sym c.put_in_place.ensures)
    (moved_by c.args.log.now c.note_ranks.new.ranks c.args.self.now.others.items c.note_ranks.ensures.ranks (other_within c.requires.tagged))
