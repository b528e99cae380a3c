use Rattle.iscsi_session.proofs.Names.{◌≡◌, ◌+◌, count_by, ◌≤◌, is_new, Continues, all_given, enable_effects}
use Rattle.iscsi_session.proofs.session.sets.enable_new.Given as goal

-- what was given and what is new still are the whole
abbrev pub invariant-loop-ticket : goal.invariant-loop-ticket
invariant-loop-ticket over l = record {
  set : all_given l.set ≡ all_given l.initial.set;
  effects : Continues over.S.EffectSink.has (enable_effects l.unit l.initial.set.list) (enable_effects l.unit l.set.list) l.initial.out l.out;
  spent : over.S.EffectSink.len l.out + count_by is_new l.set.list ≤ over.S.EffectSink.len l.initial.out + count_by is_new l.initial.set.list;
  capacity : over.S.EffectSink.capacity l.out ≡ over.S.EffectSink.capacity l.initial.out;
}

abbrev pub decreases-loop-ticket : goal.decreases-loop-ticket
decreases-loop-ticket over l = count_by is_new l.set.list
