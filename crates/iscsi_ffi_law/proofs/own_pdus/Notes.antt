-- The own PDUs that are of no command: which ones the rules need no more, by how many of each connection are left.
use Rattle.std.proofs.Common.{◌≡◌, ℕ, zero, suc, ◌+◌, ◌-◌, ◌==◌, ◌&&◌, ◌||◌, ⊎_elim, not, cond, Bool, true, false, List, [], ◌∷◌, ◌++◌, length, map, filter, replicate, refl, ap, sym, ◌∙◌, arith, length-append, ne_eqb}
use Rattle.std.specs.List.{list_any}
use Rattle.std.proofs.lemmas.Bool.{false≢true, eqb-true, eqb-false, eq-eqb, or_parts, cases_eq}
use Rattle.std.proofs.lemmas.List.{length-map, length-replicate}
use Rattle.iscsi_outbox_rules.specs.rules.Boxes.{Link}
use Rattle.iscsi_outbox_law.specs.private.Pairs.{EachOf}
use Rattle.iscsi_outbox_law.proofs.general.PlaceLemmas.{AreApart, conns_of}
use Rattle.iscsi_ffi_rules.specs.rules.Needs.{needless_on, noted_on, without_first}
use Rattle.iscsi_ffi_rules.specs.rules.Run.{parted}
use Rattle.iscsi_ffi_rules.specs.rules.Sides.{Noted}
use Rattle.iscsi_ffi_law.specs.Names.{Note, noted_of}

pub noted_here : (conn : ℕ) (notes : List Note) → noted_on conn (map noted_of notes) ≡ map noted_of (filter (λ (n : Note). n.conn == conn) notes)
noted_here conn [] = refl
noted_here conn (n ∷ notes) = by_test (noted_here conn notes) (n.conn == conn)
  where
    by_test : noted_on conn (map noted_of notes) ≡ map noted_of (filter (λ (m : Note). m.conn == conn) notes) → (v : Bool)
        → cond v (noted_of n ∷ noted_on conn (map noted_of notes)) (noted_on conn (map noted_of notes)) ≡ map noted_of (cond v (n ∷ filter (λ (m : Note). m.conn == conn) notes) (filter (λ (m : Note). m.conn == conn) notes))
    by_test later true = ap (λ ns. noted_of n ∷ ns) later
    by_test later false = later

module _ (left : Link → ℕ) (used : Note → Bool) where
  is_out : ℕ → Note → Bool
  is_out conn n = n.conn == conn && not (used n)

  -- the first ones of a connection are those that aren't used
  abbrev are_flags : ℕ → List Note → ℕ → ℕ → Type 0
  are_flags conn notes unused many = map used (filter (λ (n : Note). n.conn == conn) notes) ≡ replicate unused false ++ replicate many true

  without_unused : (conn unused many : ℕ) (notes : List Note) → are_flags conn notes unused many
      → without_first conn unused (map noted_of notes) ≡ map noted_of (filter (λ (n : Note). not (n.conn == conn && not (used n))) notes)
  without_unused conn unused many [] h = refl
  without_unused conn unused many (n ∷ notes) h = by_test (λ k m. without_unused conn k m notes) (n.conn == conn) unused many refl h
    where
      this : Bool → Bool → List Noted
      this v w = map noted_of (cond (not (v && not w)) (n ∷ filter (λ (m : Note). not (m.conn == conn && not (used m))) notes) (filter (λ (m : Note). not (m.conn == conn && not (used m))) notes))

      by_test : ((k m : ℕ) → are_flags conn notes k m → without_first conn k (map noted_of notes) ≡ map noted_of (filter (λ (x : Note). not (x.conn == conn && not (used x))) notes)) → (v : Bool) (k m : ℕ) → (n.conn == conn) ≡ v
          → map used (cond v (n ∷ filter (λ (x : Note). x.conn == conn) notes) (filter (λ (x : Note). x.conn == conn) notes)) ≡ replicate k false ++ replicate m true
          → cond (v && not (k == 0)) (without_first conn (k - 1) (map noted_of notes)) (noted_of n ∷ without_first conn k (map noted_of notes))
          ≡ map noted_of (cond (not (v && not (used n))) (n ∷ filter (λ (x : Note). not (x.conn == conn && not (used x))) notes) (filter (λ (x : Note). not (x.conn == conn && not (used x))) notes))
      by_test later false k m is flags = ap (λ ns. noted_of n ∷ ns) (later k m flags)
      by_test later true zero zero is flags = absurd cc
      by_test later true zero (suc m) is flags =
          let here : used n ≡ true = cc in
          let rest : map used (filter (λ (x : Note). x.conn == conn) notes) ≡ replicate m true = cc in
          ap (λ ns. noted_of n ∷ ns) (later zero m rest)
          ∙ ap (λ w. map noted_of (cond (not (not w)) (n ∷ filter (λ (x : Note). not (x.conn == conn && not (used x))) notes) (filter (λ (x : Note). not (x.conn == conn && not (used x))) notes))) (sym here)
      by_test later true (suc k) m is flags =
          let here : used n ≡ false = cc in
          let rest : map used (filter (λ (x : Note). x.conn == conn) notes) ≡ replicate k false ++ replicate m true = cc in
          let less : suc k - 1 ≡ k = omega arith in
          ap (λ v. cond (not v) (without_first conn (suc k - 1) (map noted_of notes)) (noted_of n ∷ without_first conn (suc k) (map noted_of notes))) (ne_eqb (suc k) 0 (λ same. omega (arith, same)))
          ∙ ap (λ j. without_first conn j (map noted_of notes)) less ∙ later k m rest
          ∙ ap (λ w. map noted_of (cond (not (not w)) (n ∷ filter (λ (x : Note). not (x.conn == conn && not (used x))) notes) (filter (λ (x : Note). not (x.conn == conn && not (used x))) notes))) (sym here)

  -- those of a connection, as the rules count them
  pub record HasFlags (notes : List Note) (l : Link) : Type 0 where
    pub unused : ℕ
    pub flags : map used (filter (λ (n : Note). n.conn == l.conn) notes) ≡ replicate unused false ++ replicate (left l) true

  needless_flags : (notes : List Note) (l : Link) (f : HasFlags notes l) → needless_on left l (map noted_of notes) ≡ f.unused
  needless_flags notes l f =
      let long : length (noted_on l.conn (map noted_of notes)) ≡ length (filter (λ (n : Note). n.conn == l.conn) notes)
      = ap length (noted_here l.conn notes) ∙ length-map (filter (λ (n : Note). n.conn == l.conn) notes) noted_of in
      let many : length (map used (filter (λ (n : Note). n.conn == l.conn) notes)) ≡ f.unused + left l
      = ap length f.flags ∙ length-append (replicate f.unused false) (replicate (left l) true) ∙ ap (λ k. k + length (replicate (left l) true)) (length-replicate f.unused false) ∙ ap (λ k. f.unused + k) (length-replicate (left l) true) in
      omega (arith, long, many, length-map (filter (λ (n : Note). n.conn == l.conn) notes) used)

  -- of connections that were passed
  abbrev is_left : List Link → Note → Bool
  is_left links n = not (list_any (λ (l : Link). l.conn == n.conn) links && not (used n))

  -- of another connection the same ones are left
  same_on : (other conn : ℕ) (notes : List Note) → (conn == other) ≡ false → filter (λ (n : Note). n.conn == other) (filter (λ (n : Note). not (n.conn == conn && not (used n))) notes) ≡ filter (λ (n : Note). n.conn == other) notes
  same_on other conn [] apart = refl
  same_on other conn (n ∷ notes) apart = by_test (same_on other conn notes apart) (n.conn == other) refl
    where
      rest : List Note
      rest = filter (λ (x : Note). not (x.conn == conn && not (used x))) notes

      by_test : filter (λ (x : Note). x.conn == other) (filter (λ (x : Note). not (x.conn == conn && not (used x))) notes) ≡ filter (λ (x : Note). x.conn == other) notes → (v : Bool) → (n.conn == other) ≡ v
          → filter (λ (x : Note). x.conn == other) (cond (not (n.conn == conn && not (used n))) (n ∷ filter (λ (x : Note). not (x.conn == conn && not (used x))) notes) (filter (λ (x : Note). not (x.conn == conn && not (used x))) notes))
          ≡ cond v (n ∷ filter (λ (x : Note). x.conn == other) notes) (filter (λ (x : Note). x.conn == other) notes)
      by_test later true is =
          let there : n.conn ≡ other = eqb-true n.conn other is in
          let elsewhere : (n.conn == conn) ≡ false = isnt (n.conn == conn) refl there in
          ap (λ v. filter (λ (x : Note). x.conn == other) (cond (not (v && not (used n))) (n ∷ filter (λ (x : Note). not (x.conn == conn && not (used x))) notes) (filter (λ (x : Note). not (x.conn == conn && not (used x))) notes))) elsewhere
          ∙ ap (λ v. cond v (n ∷ filter (λ (x : Note). x.conn == other) (filter (λ (x : Note). not (x.conn == conn && not (used x))) notes)) (filter (λ (x : Note). x.conn == other) (filter (λ (x : Note). not (x.conn == conn && not (used x))) notes))) is
          ∙ ap (λ xs. n ∷ xs) later
        where
          isnt : (v : Bool) → (n.conn == conn) ≡ v → n.conn ≡ other → v ≡ false
          isnt false same at = refl
          isnt true same at = absurd (false≢true (sym apart ∙ eq-eqb conn other (sym (eqb-true n.conn conn same) ∙ at)))
      by_test later false is = either (not (n.conn == conn && not (used n)))
        where
          either : (w : Bool) → filter (λ (x : Note). x.conn == other) (cond w (n ∷ filter (λ (x : Note). not (x.conn == conn && not (used x))) notes) (filter (λ (x : Note). not (x.conn == conn && not (used x))) notes)) ≡ filter (λ (x : Note). x.conn == other) notes
          either true = ap (λ v. cond v (n ∷ filter (λ (x : Note). x.conn == other) (filter (λ (x : Note). not (x.conn == conn && not (used x))) notes)) (filter (λ (x : Note). x.conn == other) (filter (λ (x : Note). not (x.conn == conn && not (used x))) notes))) is ∙ later
          either false = later

  flags_on : (links : List Link) (conn : ℕ) (notes : List Note) → list_any (λ k. k == conn) (conns_of links) ≡ false → EachOf (HasFlags notes) links → EachOf (HasFlags (filter (λ (n : Note). not (n.conn == conn && not (used n))) notes)) links
  flags_on [] conn notes none all = tt
  flags_on (l ∷ links) conn notes none all =
      let parts = or_parts (l.conn == conn) (list_any (λ k. k == conn) (conns_of links)) none in
      let apart : (conn == l.conn) ≡ false = turned conn l.conn parts.0 in
      (record { unused = all.0.unused; flags = ap (map used) (same_on l.conn conn notes apart) ∙ all.0.flags }, flags_on links conn notes parts.1 all.1)
    where
      turned : (a b : ℕ) → (b == a) ≡ false → (a == b) ≡ false
      turned a b h = ne_eqb a b (λ same. eqb-false b a h (sym same))

  filter_twice : (p q both : Note → Bool) (notes : List Note) → ((n : Note) → both n ≡ (q n && p n)) → filter p (filter q notes) ≡ filter both notes
  filter_twice p q both [] same = refl
  filter_twice p q both (n ∷ notes) same = by_test (filter_twice p q both notes same) (q n) refl
    where
      by_test : filter p (filter q notes) ≡ filter both notes → (v : Bool) → q n ≡ v → filter p (cond v (n ∷ filter q notes) (filter q notes)) ≡ filter both (n ∷ notes)
      by_test later true is = ap (λ xs. cond (p n) (n ∷ xs) xs) later ∙ ap (λ v. cond v (n ∷ filter both notes) (filter both notes)) (sym (same n ∙ ap (λ v. v && p n) is))
      by_test later false is = later ∙ ap (λ v. cond v (n ∷ filter both notes) (filter both notes)) (sym (same n ∙ ap (λ v. v && p n) is))

  pub parted_needed : (links : List Link) (notes : List Note) → AreApart (conns_of links) → EachOf (HasFlags notes) links → (parted left links (map noted_of notes)).needed ≡ map noted_of (filter (is_left links) notes)
  parted_needed [] notes apart all = ap (map noted_of) (sym (every notes))
    where
      every : (ns : List Note) → filter (is_left []) ns ≡ ns
      every [] = refl
      every (n ∷ ns) = ap (λ xs. n ∷ xs) (every ns)
  parted_needed (l ∷ links) notes apart all =
      let here : without_first l.conn (needless_on left l (map noted_of notes)) (map noted_of notes) ≡ map noted_of (filter (λ (n : Note). not (n.conn == l.conn && not (used n))) notes)
      = ap (λ k. without_first l.conn k (map noted_of notes)) (needless_flags notes l all.0) ∙ without_unused l.conn all.0.unused (left l) notes all.0.flags in
      ap (λ ns. (parted left links ns).needed) here
      ∙ parted_needed links (filter (λ (n : Note). not (n.conn == l.conn && not (used n))) notes) apart.1 (flags_on links l.conn notes apart.0 all.1)
      ∙ ap (map noted_of) (filter_twice (is_left links) (λ (n : Note). not (n.conn == l.conn && not (used n))) (is_left (l ∷ links)) notes both)
    where
      turned : (a b : ℕ) → (a == b) ≡ (b == a)
      turned a b = ⊎_elim (λ same. eq-eqb a b same ∙ sym (eq-eqb b a (sym same))) (λ other. ne_eqb a b other ∙ sym (ne_eqb b a (λ same. other (sym same)))) (cases_eq a b)

      by_tests : (v w u : Bool) → not ((v || w) && not u) ≡ (not (v && not u) && not (w && not u))
      by_tests true true true = refl
      by_tests true true false = refl
      by_tests true false true = refl
      by_tests true false false = refl
      by_tests false w true = same w
        where
          same : (x : Bool) → not (x && false) ≡ not (x && false)
          same x = refl
      by_tests false w false = refl

      both : (n : Note) → is_left (l ∷ links) n ≡ (not (n.conn == l.conn && not (used n)) && is_left links n)
      both n = ap (λ v. not ((v || list_any (λ (m : Link). m.conn == n.conn) links) && not (used n))) (turned l.conn n.conn) ∙ by_tests (n.conn == l.conn) (list_any (λ (m : Link). m.conn == n.conn) links) (used n)

  -- where each is of one of the connections, those that are used
  pub all_left : (links : List Link) (notes : List Note) → EachOf (λ (n : Note). list_any (λ (l : Link). l.conn == n.conn) links ≡ true) notes → filter (is_left links) notes ≡ filter used notes
  all_left links [] homes = refl
  all_left links (n ∷ notes) homes =
      ap (λ xs. cond (is_left links n) (n ∷ xs) xs) (all_left links notes homes.1)
      ∙ ap (λ v. cond v (n ∷ filter used notes) (filter used notes)) (ap (λ v. not (v && not (used n))) homes.0 ∙ twice (used n))
    where
      twice : (v : Bool) → not (not v) ≡ v
      twice true = refl
      twice false = refl
