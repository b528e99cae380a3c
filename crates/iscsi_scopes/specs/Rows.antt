-- Worked lines by key, computed: slots 1, 2 and 3.
use Rattle.std.specs.Prelude.{◌≡◌, List, [], ◌∷◌, refl}
use Rattle.iscsi_scopes.specs.Scopes.{Keyed, entered, keyed, left, slots_of, times_over}

-- slots 3 and 1 stand in the line of key 9, and slot 2 in that of key 4
abbrev pub three : List Keyed
three = entered 9 1 (entered 4 2 (entered 9 3 []))

pub in_order_of_keys : three ≡ keyed 4 (2 ∷ []) ∷ keyed 9 (3 ∷ 1 ∷ []) ∷ []
in_order_of_keys = refl

pub as_they_came : slots_of 9 three ≡ 3 ∷ 1 ∷ []
as_they_came = refl

pub of_no_line : slots_of 5 three ≡ []
of_no_line = refl

pub once : times_over 3 three ≡ 1
once = refl

-- one leaves, and the other stays
pub stays : left 9 3 three ≡ keyed 4 (2 ∷ []) ∷ keyed 9 (1 ∷ []) ∷ []
stays = refl

-- a line without a slot is none
pub gone : left 4 2 three ≡ keyed 9 (3 ∷ 1 ∷ []) ∷ []
gone = refl
