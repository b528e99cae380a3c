-- What one deed more shows.
use Rattle.std.proofs.Common.{◌≡◌, ℕ, ◌⊎◌, inl, inr, ⊎_elim, ◌==◌, ◌||◌, cond, true, false, List, [], ◌∷◌, ◌++◌, map, filter, filter_map, Option, Some, None, refl, ap, sym, ◌∙◌, ne_eqb, eq-eqb}
use Rattle.std.specs.List.{list_any, cons_option}
use Rattle.std.proofs.lemmas.Bool.{false≢true, eqb-false, cases_eq}
use Rattle.std.proofs.lemmas.List.{append-nil, map-append}
use Rattle.std.proofs.lemmas.List.Elements.{filter_map-append, filter-append}
use Rattle.std.proofs.lemmas.List.Concat.{flat_map-append}
use Rattle.std.proofs.lemmas.List.Folds.{list_any-append}
use Rattle.iscsi_rules.specs.rules.Trace.{first_of}
use Rattle.iscsi_rules.proofs.general.BoolLemmas.{or_false, or_none}
use Rattle.iscsi_outbox_rules.specs.rules.Boxes.{Handed}
use Rattle.iscsi_outbox_rules.specs.promises.Deeds.{Deed, items_of_call, items_in, handed_in_deed, handed_in, handed_on, is_join_of, is_lose_of, has_joined, was_lost}
use Rattle.iscsi_outbox_rules.specs.promises.Numbers.{stat_sn_of_join, joined_with}

pub has_joined-more : (ds : List Deed) (d : Deed) (c : ℕ) → has_joined (ds ++ d ∷ []) c ≡ (has_joined ds c || is_join_of c d)
has_joined-more ds d c = list_any-append (is_join_of c) ds (d ∷ []) ∙ ap (λ b. has_joined ds c || b) (or_false (is_join_of c d))

pub was_lost-more : (ds : List Deed) (d : Deed) (c : ℕ) → was_lost (ds ++ d ∷ []) c ≡ (was_lost ds c || is_lose_of c d.0)
was_lost-more ds d c = list_any-append (λ (e : Deed). is_lose_of c e.0) ds (d ∷ []) ∙ ap (λ b. was_lost ds c || b) (or_false (is_lose_of c d.0))

pub handed_in-append : (ds es : List Deed) → handed_in (ds ++ es) ≡ handed_in ds ++ handed_in es
handed_in-append ds es = filter_map-append handed_in_deed ds es

pub handed_on-append : (c : ℕ) (ds es : List Deed) → handed_on c (ds ++ es) ≡ handed_on c ds ++ handed_on c es
handed_on-append c ds es =
    ap (λ gs. map (λ (g : ℕ × Handed). g.1) (filter (λ (g : ℕ × Handed). g.0 == c) gs)) (handed_in-append ds es)
    ∙ ap (map (λ (g : ℕ × Handed). g.1)) (filter-append (λ (g : ℕ × Handed). g.0 == c) (handed_in ds) (handed_in es))
    ∙ map-append (λ (g : ℕ × Handed). g.1) (filter (λ (g : ℕ × Handed). g.0 == c) (handed_in ds)) (filter (λ (g : ℕ × Handed). g.0 == c) (handed_in es))

pub items_in-append : (ds es : List Deed) → items_in (ds ++ es) ≡ items_in ds ++ items_in es
items_in-append ds es = flat_map-append (λ (d : Deed). items_of_call d.0) ds es

pub items_in-more : (ds : List Deed) (d : Deed) → items_in (ds ++ d ∷ []) ≡ items_in ds ++ items_of_call d.0
items_in-more ds d = items_in-append ds (d ∷ []) ∙ ap (λ its. items_in ds ++ its) (append-nil (items_of_call d.0))

-- a deed that hands out nothing shows nothing on a connection
pub none_on : (c : ℕ) (d : Deed) → handed_in_deed d ≡ None → handed_on c (d ∷ []) ≡ []
none_on c d none = ap (λ x. map (λ (g : ℕ × Handed). g.1) (filter (λ (g : ℕ × Handed). g.0 == c) (cons_option x []))) none

pub some_on : (c : ℕ) (d : Deed) (h : Handed) → handed_in_deed d ≡ Some (c, h) → handed_on c (d ∷ []) ≡ h ∷ []
some_on c d h some =
    ap (λ x. map (λ (g : ℕ × Handed). g.1) (filter (λ (g : ℕ × Handed). g.0 == c) (cons_option x []))) some
    ∙ ap (λ v. map (λ (g : ℕ × Handed). g.1) (cond v ((c, h) ∷ []) [])) (eq-eqb c c refl)

pub other_on : (c e : ℕ) (d : Deed) (h : Handed) → handed_in_deed d ≡ Some (e, h) → (c == e) ≡ false → handed_on c (d ∷ []) ≡ []
other_on c e d h some apart =
    ap (λ x. map (λ (g : ℕ × Handed). g.1) (filter (λ (g : ℕ × Handed). g.0 == c) (cons_option x []))) some
    ∙ ap (λ v. map (λ (g : ℕ × Handed). g.1) (cond v ((e, h) ∷ []) [])) (ne_eqb e c (λ same. eqb-false c e apart (sym same)))

-- ---- joining

abbrev pub joined_by : ℕ → Deed → Option ℕ
joined_by c d = cond (is_join_of c d) (Some (stat_sn_of_join d.0)) None

abbrev pub or_else : {A : Type 0} → Option A → Option A → Option A
or_else (Some x) y = Some x
or_else None y = y

pub first_of-append : {A : Type 0} (xs ys : List A) → first_of (xs ++ ys) ≡ or_else (first_of xs) (first_of ys)
first_of-append [] ys = refl
first_of-append (x ∷ xs) ys = refl

joined_with-more : (c : ℕ) (ds : List Deed) (d : Deed) → joined_with c (ds ++ d ∷ []) ≡ or_else (joined_with c ds) (first_of (cons_option (joined_by c d) []))
joined_with-more c ds d = ap first_of (filter_map-append (joined_by c) ds (d ∷ [])) ∙ first_of-append (filter_map (joined_by c) ds) (cons_option (joined_by c d) [])

or_none_else : {A : Type 0} (x : Option A) → or_else x None ≡ x
or_none_else None = refl
or_none_else (Some x) = refl

pub joined_with-same : (c : ℕ) (ds : List Deed) (d : Deed) → is_join_of c d ≡ false → joined_with c (ds ++ d ∷ []) ≡ joined_with c ds
joined_with-same c ds d isnt =
    joined_with-more c ds d ∙ ap (λ v. or_else (joined_with c ds) (first_of (cons_option (cond v (Some (stat_sn_of_join d.0)) None) []))) isnt ∙ or_none_else (joined_with c ds)

pub joined_with-now : (c : ℕ) (ds : List Deed) (d : Deed) → joined_with c ds ≡ None → is_join_of c d ≡ true → joined_with c (ds ++ d ∷ []) ≡ Some (stat_sn_of_join d.0)
joined_with-now c ds d none is =
    joined_with-more c ds d ∙ ap (λ x. or_else x (first_of (cons_option (joined_by c d) []))) none
    ∙ ap (λ v. first_of (cons_option (cond v (Some (stat_sn_of_join d.0)) None) [])) is

pub unjoined_with : (c : ℕ) (ds : List Deed) → has_joined ds c ≡ false → joined_with c ds ≡ None
unjoined_with c [] isnt = refl
unjoined_with c (d ∷ ds) isnt =
    let parts = or_none (is_join_of c d) (list_any (is_join_of c) ds) isnt in
    ap (λ v. first_of (cons_option (cond v (Some (stat_sn_of_join d.0)) None) (filter_map (joined_by c) ds))) parts.0 ∙ unjoined_with c ds parts.1

pub has_joined_with : (c : ℕ) (ds : List Deed) → has_joined ds c ≡ true → (s : ℕ) × (joined_with c ds ≡ Some s)
has_joined_with c [] is = absurd (false≢true is)
has_joined_with c (d ∷ ds) is =
    elim (is_join_of c d) as (λ v. (v || list_any (is_join_of c) ds) ≡ true → (s : ℕ) × (first_of (cons_option (cond v (Some (stat_sn_of_join d.0)) None) (filter_map (joined_by c) ds)) ≡ Some s)) [
      | true ↦ λ here. (stat_sn_of_join d.0, refl)
      | false ↦ λ later. has_joined_with c ds later
    ] is

pub joined_with-stays : (c : ℕ) (ds es : List Deed) (s : ℕ) → joined_with c ds ≡ Some s → joined_with c (ds ++ es) ≡ Some s
joined_with-stays c ds es s is =
    ap first_of (filter_map-append (joined_by c) ds es) ∙ first_of-append (filter_map (joined_by c) ds) (filter_map (joined_by c) es)
    ∙ ap (λ x. or_else x (first_of (filter_map (joined_by c) es))) is

-- ---- the last PDU that was handed out on a connection

pub record Last (c : ℕ) (ds : List Deed) : Type 0 where
  pub before : List Deed
  pub deed : Deed
  pub after : List Deed
  pub handed : Handed
  pub whole : before ++ deed ∷ after ≡ ds
  pub shown : handed_in_deed deed ≡ Some (c, handed)
  pub none_after : handed_on c after ≡ []

on_later : (c : ℕ) (d : Deed) (ds : List Deed) → handed_on c (d ∷ []) ≡ [] → handed_on c (d ∷ ds) ≡ handed_on c ds
on_later c d ds none = handed_on-append c (d ∷ []) ds ∙ ap (λ hs. hs ++ handed_on c ds) none

pub on_one : (c : ℕ) (d : Deed) → (handed_on c (d ∷ []) ≡ []) ⊎ ((h : Handed) × (handed_in_deed d ≡ Some (c, h)))
on_one c d = by_shown (handed_in_deed d) refl
  where
    by_shown : (x : Option (ℕ × Handed)) → handed_in_deed d ≡ x → (handed_on c (d ∷ []) ≡ []) ⊎ ((h : Handed) × (handed_in_deed d ≡ Some (c, h)))
    by_shown None is = inl (none_on c d is)
    by_shown (Some g) is =
        ⊎_elim (λ same. inr (g.1, is ∙ ap (λ e. Some (e, g.1)) (sym same)))
        (λ apart. inl (other_on c g.0 d g.1 is (ne_eqb c g.0 apart)))
        (cases_eq c g.0)

pub last_on : (c : ℕ) (ds : List Deed) → (handed_on c ds ≡ []) ⊎ Last c ds
last_on c [] = inl refl
last_on c (d ∷ ds) =
    ⊎_elim
    (λ none. ⊎_elim (λ here. inl (on_later c d ds here ∙ none)) (λ here. inr (record { before = []; deed = d; after = ds; handed = here.0; whole = refl; shown = here.1; none_after = none })) (on_one c d))
    (λ (l : Last c ds). inr (record { before = d ∷ l.before; deed = l.deed; after = l.after; handed = l.handed; whole = ap (λ es. d ∷ es) l.whole; shown = l.shown; none_after = l.none_after }))
    (last_on c ds)
