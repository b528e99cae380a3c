-- Where no part has a thing, nothing has it: marks and commands one after the other.
use Rattle.std.proofs.Common.{arith, ◌≡◌, ℕ, Bool, false, List, [], ◌∷◌, map, Option, None, refl}
use Rattle.std.specs.List.{list_any, filter_map, flat_map}
use Rattle.std.proofs.lemmas.List.Folds.{list_any-append}
use Rattle.iscsi_rules.proofs.items.DeedLemmas.{views, tests}
use Rattle.iscsi_rules.specs.rules.Trace.{Command, Mark, is_among}

pub none_among : (k : ℕ) (f : ℕ → List Command) (units : List ℕ) → ((unit : ℕ) → is_among k (f unit) ≡ false) → is_among k (flat_map f units) ≡ false
none_among k f [] none = refl
none_among k f (unit ∷ units) none = grind (arith, none_among k f units, list_any-append)

pub none_mapped : {A : Type 0} (p : Mark → Bool) (f : A → Mark) (xs : List A) → ((x : A) → p (f x) ≡ false) → list_any p (map f xs) ≡ false
none_mapped p f xs none = simp (tests, none)

pub none_viewed : {A B : Type 0} (view : Mark → Option B) (f : A → Mark) (xs : List A) → ((x : A) → view (f x) ≡ None) → filter_map view (map f xs) ≡ []
none_viewed view f xs none = simp (views, none)
