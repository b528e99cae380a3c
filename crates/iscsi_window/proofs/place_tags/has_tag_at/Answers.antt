use Rattle.std.proofs.Common.{arith, rules, w64}
use Rattle.std.proofs.lemmas.Nat.Bits.{bit_at-trailing_zeros}
use Rattle.std.proofs.lemmas.Bool.Decides.{nat_tests}
use Rattle.iscsi_window.proofs.FilledLemmas.{bit_taken}
use Rattle.iscsi_window.proofs.place_tags.has_tag_at.Goals as goal

pub bits-smaller : goal.bits-smaller
bits-smaller c = grind (arith, nat_tests, bit_at-trailing_zeros w64 c.bits.left (omega arith) (search rules), bit_taken)

pub bits-preserved : goal.bits-preserved
bits-preserved c = grind (arith, nat_tests, bit_at-trailing_zeros w64 c.bits.left (omega arith) (search rules), bit_taken)
