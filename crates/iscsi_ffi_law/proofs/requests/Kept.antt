-- What is kept at the end of a call: the requests, and the own PDUs, whose places are used.
use Rattle.std.proofs.Common.{◌≡◌, ℕ, suc, ◌<◌, ◌==◌, ◌&&◌, inl, inr, cond, Bool, true, false, List, [], ◌∷◌, length, count_by, filter, get_or, Option, Some, None, is_some, refl, ap, sym, ◌∙◌, arith}
use Rattle.std.proofs.lemmas.Bool.{false≢true, eqb-true}
use Rattle.iscsi_rules.proofs.general.CountLemmas.{one, count-cons, count-filter}
use Rattle.iscsi_rules.proofs.general.ElementLemmas.{In, filter-in, in-filter}
use Rattle.iscsi_rules.proofs.general.ListLemmas.{fewer_counted}
use Rattle.iscsi_outbox_law.specs.private.Pairs.{EachOf}
use Rattle.iscsi_ffi_law.specs.Names.{Name, Note, place_named}
use Rattle.iscsi_ffi_law.specs.Parts.{AreApart}
use Rattle.iscsi_ffi_law.proofs.requests.NameLemmas.{Named, found_named, name_place}

pub filter_members : {A : Type 0} (p q : A → Bool) (xs : List A) → ((x : A) → In x xs → p x ≡ q x) → filter p xs ≡ filter q xs
filter_members p q [] same = refl
filter_members p q (x ∷ xs) same = ap (λ v. cond v (x ∷ filter p xs) (filter p xs)) (same x (inl refl)) ∙ ap (λ ys. cond (q x) (x ∷ ys) ys) (filter_members p q xs (λ y k. same y (inr k)))

pub filter_all : {A : Type 0} (p : A → Bool) (xs : List A) → ((x : A) → In x xs → p x ≡ true) → filter p xs ≡ xs
filter_all p [] all = refl
filter_all p (x ∷ xs) all = ap (λ v. cond v (x ∷ filter p xs) (filter p xs)) (all x (inl refl)) ∙ ap (λ ys. x ∷ ys) (filter_all p xs (λ y k. all y (inr k)))

pub filter_nothing : {A : Type 0} (p : A → Bool) (xs : List A) → ((x : A) → In x xs → p x ≡ false) → filter p xs ≡ []
filter_nothing p [] none = refl
filter_nothing p (x ∷ xs) none = ap (λ v. cond v (x ∷ filter p xs) (filter p xs)) (none x (inl refl)) ∙ filter_nothing p xs (λ y k. none y (inr k))

pub each_place : {A : Type 0} (P : A → Type 0) (xs : List A) (d : A) → ((p : ℕ) → p < length xs → P (get_or xs p d)) → EachOf P xs
each_place P [] d all = tt
each_place P (x ∷ xs) d all = (all 0 (omega arith), each_place P xs d (λ p lt. all (suc p) (omega (arith, lt))))

pub count_members : {A : Type 0} (p q : A → Bool) (xs : List A) → ((x : A) → In x xs → p x ≡ q x) → count_by p xs ≡ count_by q xs
count_members p q [] same = refl
count_members p q (x ∷ xs) same =
    let here : one (p x) ≡ one (q x) = ap one (same x (inl refl)) in
    let rest : count_by p xs ≡ count_by q xs = count_members p q xs (λ y k. same y (inr k)) in
    omega (arith, here, rest, count-cons p x xs, count-cons q x xs)

pub count_nothing : {A : Type 0} (p : A → Bool) (xs : List A) → ((x : A) → In x xs → p x ≡ false) → count_by p xs ≡ 0
count_nothing p [] none = refl
count_nothing p (x ∷ xs) none =
    let here : one (p x) ≡ 0 = ap one (none x (inl refl)) in
    let rest : count_by p xs ≡ 0 = count_nothing p xs (λ y k. none y (inr k)) in
    omega (arith, here, rest, count-cons p x xs)

-- of what has a place, so much is kept
pub count_used : {A : Type 0} (at : A → ℕ) (used : ℕ → Bool) (test : A → Bool) (place : ℕ) (xs : List A)
    → count_by (λ x. at x == place && test x) (filter (λ x. used (at x)) xs) ≡ cond (used place) (count_by (λ x. at x == place && test x) xs) 0
count_used {A = A} at used test place xs = count-filter (λ x. at x == place && test x) (λ x. used (at x)) xs ∙ by_test (used place) refl
  where
    none : (u : Bool) → (u && false) ≡ false
    none true = refl
    none false = refl

    one_used : (v : Bool) → used place ≡ v → (x : A) (w : Bool) → (at x == place) ≡ w → (used (at x) && ((at x == place) && test x)) ≡ (v && ((at x == place) && test x))
    one_used v is x true same = ap (λ u. u && ((at x == place) && test x)) (ap used (eqb-true (at x) place same) ∙ is)
    one_used v is x false same = ap (λ w. used (at x) && (w && test x)) same ∙ none (used (at x)) ∙ sym (ap (λ w. v && (w && test x)) same ∙ none v)

    by_test : (v : Bool) → used place ≡ v → count_by (λ x. used (at x) && (at x == place && test x)) xs ≡ cond v (count_by (λ x. at x == place && test x) xs) 0
    by_test true is = count_members (λ x. used (at x) && (at x == place && test x)) (λ x. at x == place && test x) xs (λ x k. one_used true is x (at x == place) refl)
    by_test false is = count_nothing (λ x. used (at x) && (at x == place && test x)) xs (λ x k. one_used false is x (at x == place) refl)

-- ---- names

module _ (used : ℕ → Bool) (names : List Name) (notes : List Note) (apart : AreApart names notes) where
  abbrev pub names_used : List Name
  names_used = filter (λ (n : Name). used n.place) names

  abbrev pub notes_used : List Note
  notes_used = filter (λ (n : Note). used n.place) notes

  pub apart_used : AreApart (filter (λ (n : Name). used n.place) names) (filter (λ (n : Note). used n.place) notes)
  apart_used = record {
    places = λ place. omega (arith, apart.places place, fewer_counted (λ (n : Name). n.place == place) (λ (n : Name). used n.place) names, fewer_counted (λ (n : Note). n.place == place) (λ (n : Note). used n.place) notes);
    events = λ event. omega (arith, apart.events event, fewer_counted (λ (n : Name). n.event == event) (λ (n : Name). used n.place) names);
  }

  -- a request that is used has its place still
  pub named_used : (event place : ℕ) → place_named names event ≡ Some place → used place ≡ true → place_named (filter (λ (n : Name). used n.place) names) event ≡ Some place
  named_used event place named is =
      let f : Named names event place = found_named names event place named in
      let there : In f.name (filter (λ (n : Name). used n.place) names) = filter-in (λ (n : Name). used n.place) names f.name f.there (ap used f.place_is ∙ is) in
      ap (place_named (filter (λ (n : Name). used n.place) names)) (sym f.event_is) ∙ name_place (filter (λ (n : Name). used n.place) names) (filter (λ (n : Note). used n.place) notes) apart_used f.name there ∙ ap (λ (v : ℕ). Some v) f.place_is

  -- and no other one has
  pub used_named : (event place : ℕ) → place_named (filter (λ (n : Name). used n.place) names) event ≡ Some place → (place_named names event ≡ Some place) × (used place ≡ true)
  used_named event place named =
      let f : Named (filter (λ (n : Name). used n.place) names) event place = found_named (filter (λ (n : Name). used n.place) names) event place named in
      let parts = in-filter (λ (n : Name). used n.place) names f.name f.there in
      (ap (place_named names) (sym f.event_is) ∙ name_place names notes apart f.name parts.0 ∙ ap (λ (v : ℕ). Some v) f.place_is, ap used (sym f.place_is) ∙ parts.1)

  pub is_named_used : (event place : ℕ) → place_named names event ≡ Some place → is_some (place_named (filter (λ (n : Name). used n.place) names) event) ≡ used place
  is_named_used event place named = by_test (used place) refl (place_named (filter (λ (n : Name). used n.place) names) event) refl
    where
      by_test : (v : Bool) → used place ≡ v → (x : Option ℕ) → place_named (filter (λ (n : Name). used n.place) names) event ≡ x → is_some x ≡ used place
      by_test true is x found = ap is_some (sym found ∙ named_used event place named is) ∙ sym is
      by_test false is None found = sym is
      by_test false is (Some p) found =
          let k = used_named event p found in
          let same : p ≡ place = (let e : Some p ≡ Some place = sym k.0 ∙ named in cc) in
          absurd (false≢true (sym is ∙ ap used (sym same) ∙ k.1))
