use Rattle.std.proofs.Common.{ap, length, ◌∙◌, arith}
use Rattle.iscsi_lists.specs.Lists.{Listed}
use Rattle.iscsi_lists.proofs.PlaceLemmas.{fewer_free}
use Rattle.iscsi_waiting.specs.Marks.{slots_at}
use Rattle.iscsi_waiting.proofs.EnterLemmas.{counted_long, lists_long, none_at, no_slots, pushed_first}
use Rattle.iscsi_waiting.proofs.slots.all_in_first.Goals as goal

pub loop-init : goal.loop-init
loop-init c =
    let state = c.in_ok-slots.ensures in
    record {
      free = let a = ap (λ (s : Listed _). length s.free) state in let b = counted_long 1 c.args.room in omega (arith, a, b);
      none = λ list low. ap (λ (s : Listed _). slots_at s list) state ∙ none_at c.args.lists list;
      count = ap (λ (s : Listed _). length s.lists) state ∙ lists_long c.args.lists;
      room = ap (λ (s : Listed _). s.room) state;
      within = omega arith;
    }

pub loop-preserved : goal.loop-preserved
loop-preserved c =
    let state = c.push_back.ensures.state in
    let i = c.loop.invariant in
    let free = ap (λ (s : Listed _). length s.free) state in
    let fewer = fewer_free c.loop.slots c.known.ensures.apart c.push_back.result c.push_back.ensures.slot c.push_back.ensures.fresh in
    record {
      free = let before = i.free in omega (arith, free, fewer, before);
      none = λ list low. ap (λ (s : Listed _). slots_at s list) state ∙ pushed_first c.push_back.result list c.loop.slots.lists low ∙ i.none list low;
      count = c.push_back.ensures.count ∙ i.count;
      room = ap (λ (s : Listed _). s.room) state ∙ i.room;
      within = let more = c.loop-test.true in omega (arith, more);
    }

pub returns : goal.returns
returns c =
    let i = c.loop.invariant in
    record {
      all = no_slots c.loop.slots.free (let a = i.free in let b = c.loop-test.false in omega (arith, a, b));
      room = i.room;
      lists = i.count;
      none = i.none;
    }
