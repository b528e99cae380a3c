use Rattle.std.proofs.Common.{◌≡◌, nat_le, find, drop}
use Rattle.iscsi_requests.proofs.numbers.first_not_below.Given as goal

-- none so far will do
abbrev pub invariant-loop-size : goal.invariant-loop-size
invariant-loop-size l = find (λ size. nat_le l.window size) l.sizes ≡ find (λ size. nat_le l.window size) (drop l.size-index l.sizes)
