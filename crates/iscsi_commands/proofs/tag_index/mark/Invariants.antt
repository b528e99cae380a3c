use Rattle.std.proofs.Common.{◌≡◌, ◌<◌, ℕ, true, false, length, get_or}
use Rattle.iscsi_commands.specs.Log.{tag_at, group_of, IsOfOne}
use Rattle.iscsi_commands.proofs.tag_index.mark.Given as goal

abbrev pub invariant-loop-i : goal.invariant-loop-i
invariant-loop-i l = record {
  groups : length l.crowded ≡ 4096;
  alone : (group : ℕ) → get_or l.crowded group false ≡ true → IsOfOne l.log l.others.items l.i group;
  marked : (j : ℕ) → j < l.i → get_or l.crowded (group_of (tag_at l.log (get_or l.others.items j 0))) false ≡ true;
}
