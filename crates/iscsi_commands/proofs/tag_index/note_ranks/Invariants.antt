use Rattle.std.proofs.Common.{◌≡◌, ◌<◌, ℕ, List, length, get_or}
use Rattle.iscsi_commands.specs.declared.entry.Entry.{Entry}
use Rattle.iscsi_commands.specs.Log.{rank}
use Rattle.iscsi_commands.proofs.tag_index.note_ranks.Given as goal

-- the places before this one have their ranks
pub record AreRanked (log : List Entry) (n all : ℕ) (ranks : List ℕ) (before : ℕ) : Type 0 where
  pub size : length ranks ≡ all
  pub next : before ≡ rank log n
  pub ranked : (k : ℕ) → k < n → get_or ranks k 0 ≡ rank log k

abbrev pub invariant-loop-k : goal.invariant-loop-k
invariant-loop-k l = AreRanked l.log l.k (length l.fn.ranks) l.ranks l.before
