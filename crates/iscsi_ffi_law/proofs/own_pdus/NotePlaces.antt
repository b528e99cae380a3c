-- The places of own PDUs of a connection that are of no command.
use Rattle.std.proofs.Common.{◌≡◌, ℕ, ◌+◌, ◌==◌, ◌&&◌, ⊎_elim, not, cond, Bool, true, false, List, [], ◌∷◌, ◌++◌, map, count_by, filter, Option, Some, refl, ap, sym, subst, ◌∙◌, arith}
use Rattle.std.proofs.lemmas.Bool.{eqb-true}
use Rattle.std.proofs.lemmas.List.{append-nil, map-append}
use Rattle.std.proofs.lemmas.List.Elements.{filter-append}
use Rattle.std.proofs.lemmas.List.Sums.{sum_by-append}
use Rattle.iscsi_rules.proofs.general.CountLemmas.{count-filter, count-split}
use Rattle.iscsi_rules.proofs.general.ElementLemmas.{In, append-in_first, append-in_second, in-append, in-filter}
use Rattle.iscsi_rules.proofs.general.ListLemmas.{count_by-map}
use Rattle.iscsi_ffi_rules.specs.rules.Sides.{Noted}
use Rattle.iscsi_ffi_law.specs.Names.{AreNoted, Note, handed_notes, note_places, noted_of, waiting_notes}
use Rattle.iscsi_ffi_law.specs.Parts.{AreNotesOn}
use Rattle.iscsi_ffi_law.proofs.general.Members.{map_in}

pub notes_same : (notes : List Note) (gone : List (Option ℕ)) (conn conn' : ℕ) (waiting waiting' unwritten unwritten' : List (Option ℕ)) → conn' ≡ conn → waiting' ≡ waiting → unwritten' ≡ unwritten
    → AreNotesOn notes conn gone waiting unwritten → AreNotesOn notes conn' gone waiting' unwritten'
notes_same notes gone conn conn' waiting waiting' unwritten unwritten' same waits left a = record {
  gone_handed = a.gone_handed;
  gone_waiting = a.gone_waiting;
  gone_are = a.gone_are;
  waiting_are = ap (λ c. note_places c (waiting_notes notes)) same ∙ a.waiting_are ∙ ap (λ xs. a.gone_waiting ++ xs) (sym waits);
  handed_are = ap (λ c. note_places c (handed_notes notes)) same ∙ a.handed_are ∙ ap (λ xs. a.gone_handed ++ xs) (sym left);
}

-- ---- where none is gone

none_first : {A : Type 0} (xs ys : List A) → [] ≡ xs ++ ys → xs ≡ []
none_first [] ys none = refl
none_first (x ∷ xs) ys none = absurd cc

none_second : {A : Type 0} (xs ys : List A) → [] ≡ xs ++ ys → ys ≡ []
none_second [] ys none = sym none
none_second (x ∷ xs) ys none = absurd cc

module _ (notes : List Note) (conn : ℕ) (waiting unwritten : List (Option ℕ)) where
  pub waiting_whole : AreNotesOn notes conn [] waiting unwritten → note_places conn (waiting_notes notes) ≡ waiting
  waiting_whole a = a.waiting_are ∙ ap (λ xs. xs ++ waiting) (none_second a.gone_handed a.gone_waiting a.gone_are)

  pub handed_whole : AreNotesOn notes conn [] waiting unwritten → note_places conn (handed_notes notes) ≡ unwritten
  handed_whole a = a.handed_are ∙ ap (λ xs. xs ++ unwritten) (none_first a.gone_handed a.gone_waiting a.gone_are)

  pub notes_whole : note_places conn (waiting_notes notes) ≡ waiting → note_places conn (handed_notes notes) ≡ unwritten → AreNotesOn notes conn [] waiting unwritten
  notes_whole waits left = record { gone_handed = []; gone_waiting = []; gone_are = refl; waiting_are = waits; handed_are = left }

-- ---- one of them

module _ (notes : List Note) (conn : ℕ) (gone waiting unwritten : List (Option ℕ)) (a : AreNotesOn notes conn gone waiting unwritten) where
  among : (kind : Note → Bool) (xs : List (Option ℕ)) → note_places conn (filter kind notes) ≡ xs → (x : Option ℕ) → In x xs → (n : Note) × In n notes × (n.conn ≡ conn) × (Some n.place ≡ x)
  among kind xs are x there =
      let m = map_in (λ (n : Note). Some n.place) (filter (λ (n : Note). n.conn == conn) (filter kind notes)) x (subst (In x) (sym are) there) in
      let here = in-filter (λ (n : Note). n.conn == conn) (filter kind notes) m.0 m.1 in
      (m.0, (in-filter kind notes m.0 here.0).0, eqb-true m.0.conn conn here.1, m.2)

  waits_there : (x : Option ℕ) → In x (a.gone_waiting ++ waiting) → (n : Note) × In n notes × (n.conn ≡ conn) × (Some n.place ≡ x)
  waits_there = among (λ (n : Note). n.waits) (a.gone_waiting ++ waiting) a.waiting_are

  handed_there : (x : Option ℕ) → In x (a.gone_handed ++ unwritten) → (n : Note) × In n notes × (n.conn ≡ conn) × (Some n.place ≡ x)
  handed_there = among (λ (n : Note). not n.waits) (a.gone_handed ++ unwritten) a.handed_are

  pub note_there : (x : Option ℕ) → In x (gone ++ (unwritten ++ waiting)) → (n : Note) × In n notes × (n.conn ≡ conn) × (Some n.place ≡ x)
  note_there x there =
      ⊎_elim
      (λ over. ⊎_elim
      (λ k. handed_there x (append-in_first a.gone_handed unwritten x k)) (λ k. waits_there x (append-in_first a.gone_waiting waiting x k))
      (in-append a.gone_handed a.gone_waiting x (subst (In x) a.gone_are over)))
      (λ left. ⊎_elim
      (λ k. handed_there x (append-in_second a.gone_handed unwritten x k)) (λ k. waits_there x (append-in_second a.gone_waiting waiting x k))
      (in-append unwritten waiting x left))
      (in-append gone (unwritten ++ waiting) x there)

  -- ---- how many there are

  places_counted : (q : Option ℕ → Bool) (kind : Note → Bool) (xs ys : List (Option ℕ)) → note_places conn (filter kind notes) ≡ xs ++ ys
      → count_by q xs + count_by q ys ≡ count_by (λ (n : Note). kind n && (n.conn == conn && q (Some n.place))) notes
  places_counted q kind xs ys are =
      sym (sum_by-append (λ (x : Option ℕ). cond (q x) 1 0) xs ys) ∙ ap (count_by q) (sym are) ∙ count_by-map q (λ (n : Note). Some n.place) (filter (λ (n : Note). n.conn == conn) (filter kind notes))
      ∙ count-filter (λ (n : Note). q (Some n.place)) (λ (n : Note). n.conn == conn) (filter kind notes) ∙ count-filter (λ (n : Note). n.conn == conn && q (Some n.place)) kind notes

  pub notes_counted : (q : Option ℕ → Bool) → count_by q gone + count_by q (unwritten ++ waiting) ≡ count_by (λ (n : Note). n.conn == conn && q (Some n.place)) notes
  notes_counted q =
      let over : count_by q gone ≡ count_by q a.gone_handed + count_by q a.gone_waiting = ap (count_by q) a.gone_are ∙ sum_by-append (λ (x : Option ℕ). cond (q x) 1 0) a.gone_handed a.gone_waiting in
      let left : count_by q (unwritten ++ waiting) ≡ count_by q unwritten + count_by q waiting = sum_by-append (λ (x : Option ℕ). cond (q x) 1 0) unwritten waiting in
      omega (
        arith,
        over,
        left,
        places_counted q (λ (n : Note). n.waits) a.gone_waiting waiting a.waiting_are,
        places_counted q (λ (n : Note). not n.waits) a.gone_handed unwritten a.handed_are,
        count-split (λ (n : Note). n.conn == conn && q (Some n.place)) (λ (n : Note). n.waits) notes,
      )

-- ---- one more waits

module _ (notes : List Note) (place conn cookie : ℕ) where
  waiting_entered : waiting_notes (notes ++ record { place = place; conn = conn; cookie = cookie; waits = true } ∷ []) ≡ waiting_notes notes ++ record { place = place; conn = conn; cookie = cookie; waits = true } ∷ []
  waiting_entered = filter-append (λ (n : Note). n.waits) notes (record { place = place; conn = conn; cookie = cookie; waits = true } ∷ [])

  handed_entered : handed_notes (notes ++ record { place = place; conn = conn; cookie = cookie; waits = true } ∷ []) ≡ handed_notes notes
  handed_entered = filter-append (λ (n : Note). not n.waits) notes (record { place = place; conn = conn; cookie = cookie; waits = true } ∷ []) ∙ append-nil (handed_notes notes)

  pub noted_entered : (waiting handed : List Noted) → AreNoted notes waiting handed → AreNoted (notes ++ record { place = place; conn = conn; cookie = cookie; waits = true } ∷ []) (waiting ++ record { conn = conn; cookie = cookie } ∷ []) handed
  noted_entered waiting handed a = record {
    waiting_are =
        ap (map noted_of) waiting_entered ∙ map-append noted_of (waiting_notes notes) (record { place = place; conn = conn; cookie = cookie; waits = true } ∷ [])
        ∙ ap (λ ns. ns ++ record { conn = conn; cookie = cookie } ∷ []) a.waiting_are;
    handed_are = ap (map noted_of) handed_entered ∙ a.handed_are;
  }

  pub places_entered : (c : ℕ) (waiting unwritten : List (Option ℕ)) → AreNotesOn notes c [] waiting unwritten
      → AreNotesOn (notes ++ record { place = place; conn = conn; cookie = cookie; waits = true } ∷ []) c [] (waiting ++ cond (conn == c) (Some place ∷ []) []) unwritten
  places_entered c waiting unwritten a =
      notes_whole (notes ++ record { place = place; conn = conn; cookie = cookie; waits = true } ∷ []) c (waiting ++ cond (conn == c) (Some place ∷ []) []) unwritten
      (ap (note_places c) waiting_entered
      ∙ ap (map (λ (n : Note). Some n.place)) (filter-append (λ (n : Note). n.conn == c) (waiting_notes notes) (record { place = place; conn = conn; cookie = cookie; waits = true } ∷ []))
      ∙ map-append (λ (n : Note). Some n.place) (filter (λ (n : Note). n.conn == c) (waiting_notes notes)) (cond (conn == c) (record { place = place; conn = conn; cookie = cookie; waits = true } ∷ []) [])
      ∙ ap (λ xs. note_places c (waiting_notes notes) ++ xs) (by_test (conn == c)) ∙ ap (λ xs. xs ++ cond (conn == c) (Some place ∷ []) []) (waiting_whole notes c waiting unwritten a))
      (ap (note_places c) handed_entered ∙ handed_whole notes c waiting unwritten a)
    where
      by_test : (v : Bool) → map (λ (n : Note). Some n.place) (cond v (record { place = place; conn = conn; cookie = cookie; waits = true } ∷ []) []) ≡ cond v (Some place ∷ []) []
      by_test true = refl
      by_test false = refl

-- as many by both
pub noted_counted : (p : Noted → Bool) (notes : List Note) (waiting handed : List Noted) → AreNoted notes waiting handed → count_by p waiting + count_by p handed ≡ count_by (λ (n : Note). p (noted_of n)) notes
noted_counted p notes waiting handed a =
    let waits : count_by p waiting ≡ count_by (λ (n : Note). n.waits && p (noted_of n)) notes
    = ap (count_by p) (sym a.waiting_are) ∙ count_by-map p noted_of (waiting_notes notes) ∙ count-filter (λ (n : Note). p (noted_of n)) (λ (n : Note). n.waits) notes in
    let left : count_by p handed ≡ count_by (λ (n : Note). not n.waits && p (noted_of n)) notes
    = ap (count_by p) (sym a.handed_are) ∙ count_by-map p noted_of (handed_notes notes) ∙ count-filter (λ (n : Note). p (noted_of n)) (λ (n : Note). not n.waits) notes in
    omega (arith, waits, left, count-split (λ (n : Note). p (noted_of n)) (λ (n : Note). n.waits) notes)
