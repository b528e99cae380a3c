-- Worked places, computed.
use Rattle.std.specs.Prelude.{◌≡◌, ℕ, List, [], ◌∷◌, Some, None, refl}
use Rattle.iscsi_cids.specs.Cids.{place_of}

abbrev pub three : List ℕ
three = 7 ∷ 0 ∷ 300 ∷ []

pub first : place_of 7 three ≡ Some 0
first = refl

pub last : place_of 300 three ≡ Some 2
last = refl

pub nobody : place_of 1 three ≡ None
nobody = refl
