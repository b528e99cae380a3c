use Rattle.std.proofs.Common.{◌≡◌, ◌+◌, ◌-◌, ◌≤◌, ◌++◌, take, drop, length}
use Rattle.std.specs.VecDeque.{deque_len, deque_capacity}
use Rattle.iscsi_threads.specs.rules.Desks.{seen, jobs_from, known_after, EnterAbove}
use Rattle.iscsi_threads.proofs.desk.note_each.Given as goal

abbrev pub invariant-loop-effect : goal.invariant-loop-effect
invariant-loop-effect l = record {
  jobs : l.fresh.items ≡ l.initial.fresh.items ++ jobs_from (seen l.initial.desk) (take l.effect-index l.effects);
  known : seen l.desk ≡ known_after (seen l.initial.desk) (take l.effect-index l.effects);
  numbered : EnterAbove (seen l.desk) (drop l.effect-index l.effects);
  dormant : deque_len l.desk.dormant + (length l.effects - l.effect-index) ≤ deque_capacity l.desk.dormant;
  room : deque_len l.fresh + (length l.effects - l.effect-index) ≤ deque_capacity l.fresh;
}
