-- Two lists that go together, place by place; what holds of each element of a list.
use Rattle.std.specs.Prelude.{ℕ, ◌==◌, List, [], ◌∷◌, Option}
use Rattle.std.specs.List.{position}

-- as many of the one as of the other, and the two in each place belong together
abbrev pub PairsOf : {A B : Type 0} → (A → B → Type 0) → List A → List B → Type 0
PairsOf R [] [] = Unit {0}
PairsOf R (x ∷ xs) (y ∷ ys) = R x y × PairsOf R xs ys
PairsOf R [] (y ∷ ys) = ⊥
PairsOf R (x ∷ xs) [] = ⊥

abbrev pub EachOf : {A : Type 0} → (A → Type 0) → List A → Type 0
EachOf P [] = Unit {0}
EachOf P (x ∷ xs) = P x × EachOf P xs

-- the place of a CID among those of a session
abbrev pub place_in : List ℕ → ℕ → Option ℕ
place_in cids cid = position (λ (c : ℕ). c == cid) cids

-- each element goes before each later one in this way
abbrev pub InOrder : {A : Type 0} → (A → A → Type 0) → List A → Type 0
InOrder R [] = Unit {0}
InOrder R (x ∷ xs) = EachOf (R x) xs × InOrder R xs
