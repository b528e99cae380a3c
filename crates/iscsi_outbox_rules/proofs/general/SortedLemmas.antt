-- Lists in which each element stands in a relation to those behind it.
use Rattle.std.proofs.Common.{Bool, List, [], ◌∷◌, ◌++◌, filter}
use Rattle.std.proofs.lemmas.Bool.{cond_both}
use Rattle.iscsi_outbox_rules.proofs.general.EachLemmas.{EachOf, each-append, each-first, each-second, each-filter}

abbrev pub SortedBy : {A : Type 0} → (A → A → Type 0) → List A → Type 0
SortedBy R [] = Unit {0}
SortedBy R (x ∷ xs) = EachOf (R x) xs × SortedBy R xs

pub sorted-push : {A : Type 0} (R : A → A → Type 0) (xs : List A) (y : A) → SortedBy R xs → EachOf (λ x. R x y) xs → SortedBy R (xs ++ y ∷ [])
sorted-push R [] y h k = (tt, tt)
sorted-push R (x ∷ xs) y h k = (each-append (R x) xs (y ∷ []) h.0 (k.0, tt), sorted-push R xs y h.1 k.1)

-- one more, between those of before
pub sorted-insert : {A : Type 0} (R : A → A → Type 0) (xs ys : List A) (y : A) → SortedBy R (xs ++ ys) → EachOf (λ x. R x y) xs → EachOf (R y) ys → SortedBy R ((xs ++ y ∷ []) ++ ys)
sorted-insert R [] ys y h k j = (j, h)
sorted-insert R (x ∷ xs) ys y h k j =
    (each-append (R x) (xs ++ y ∷ []) ys (each-append (R x) xs (y ∷ []) (each-first (R x) xs ys h.0) (k.0, tt)) (each-second (R x) xs ys h.0), sorted-insert R xs ys y h.1 k.1 j)

pub sorted-filter : {A : Type 0} (R : A → A → Type 0) (p : A → Bool) (xs : List A) → SortedBy R xs → SortedBy R (filter p xs)
sorted-filter R p [] h = tt
sorted-filter R p (x ∷ xs) h = cond_both (p x) (x ∷ filter p xs) (filter p xs) (SortedBy R) (λ is. (each-filter (R x) p xs h.0, sorted-filter R p xs h.1)) (λ is. sorted-filter R p xs h.1)

-- fewer at the end
pub each-fewer : {A : Type 0} (P : A → Type 0) (xs ys ys' : List A) → (EachOf P ys → EachOf P ys') → EachOf P (xs ++ ys) → EachOf P (xs ++ ys')
each-fewer P xs ys ys' f h = each-append P xs ys' (each-first P xs ys h) (f (each-second P xs ys h))

pub sorted-fewer : {A : Type 0} (R : A → A → Type 0) (xs ys ys' : List A) → ((x : A) → EachOf (R x) ys → EachOf (R x) ys') → (SortedBy R ys → SortedBy R ys') → SortedBy R (xs ++ ys) → SortedBy R (xs ++ ys')
sorted-fewer R [] ys ys' f g h = g h
sorted-fewer R (x ∷ xs) ys ys' f g h = (each-fewer (R x) xs ys ys' (f x) h.0, sorted-fewer R xs ys ys' f g h.1)

-- of two elements in a list the first stands in the relation to the second
pub sorted-at : {A : Type 0} (R : A → A → Type 0) (xs ys zs : List A) (x y : A) → SortedBy R (xs ++ x ∷ (ys ++ y ∷ zs)) → R x y
sorted-at R [] ys zs x y h = (each-second (R x) ys (y ∷ zs) h.0).0
sorted-at R (w ∷ xs) ys zs x y h = sorted-at R xs ys zs x y h.1
