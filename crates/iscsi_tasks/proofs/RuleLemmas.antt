-- Laws of the rules themselves.
use Rattle.std.proofs.Common.{◌≡◌, not, Bool, false, List, [], ◌∷◌, filter, refl, ap, arith}
use Rattle.std.specs.List.{list_any}
use Rattle.std.proofs.lemmas.Bool.{or_parts, or_from, not-true}
use Rattle.iscsi_tasks.proofs.Names.{nat_tests, bars, StaysFree}

none_kept : {X : Type 0} (p q : X → Bool) (xs : List X) → list_any p xs ≡ false → list_any p (filter q xs) ≡ false
none_kept p q [] none = refl
none_kept p q (x ∷ xs) none = grind (arith, nat_tests, none_kept p q xs, or_parts, or_from)

-- a command that is free stays free when others leave
pub stays_free : StaysFree
stays_free command set stays free = ap not (none_kept (bars command) stays set (not-true (list_any (bars command) set) free))
