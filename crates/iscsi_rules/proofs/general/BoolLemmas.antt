-- Tests joined by "and" and "or".
pub use Rattle.std.proofs.lemmas.Bool.{and_parts, and_from as and_both, or_parts as or_none, or_left as or_first, or_right as or_second, not-true as not_true}
pub use Rattle.std.proofs.Math.Bool.{and_comm, or_comm, and-true as and_true, and-false as and_false, or-false as or_false}
use Rattle.std.proofs.Common.{arith, ◌≡◌, ◌&&◌, not, Bool, true, cond}

pub and_first : (a b : Bool) → (a && b) ≡ true → a ≡ true
and_first a b h = grind arith

pub and_second : (a b : Bool) → (a && b) ≡ true → b ≡ true
and_second a b h = grind arith

pub not_flip : (b v : Bool) → v ≡ not b → b ≡ not v
not_flip b v is = grind arith

abbrev pub alike : Bool → Bool → Bool
alike a b = cond a b (not b)

pub alike_same : (a b : Bool) → alike a b ≡ true → a ≡ b
alike_same a b h = grind arith

pub same_alike : (a b : Bool) → a ≡ b → alike a b ≡ true
same_alike a b h = grind arith
