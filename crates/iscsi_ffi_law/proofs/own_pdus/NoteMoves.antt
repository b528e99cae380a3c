-- An own PDU that is of no command is handed out: the first one of its connection waits no more.
use Rattle.std.proofs.Common.{◌≡◌, ℕ, ◌+◌, ◌-◌, ◌==◌, ◌&&◌, inl, inr, ⊎_elim, not, cond, find, Bool, true, false, List, [], ◌∷◌, ◌++◌, map, count_by, filter, Option, Some, refl, ap, sym, subst, ◌∙◌, arith}
use Rattle.std.specs.List.{list_any}
use Rattle.std.proofs.lemmas.List.{append-nil, map-append}
use Rattle.std.proofs.lemmas.List.Elements.{filter-append}
use Rattle.std.proofs.lemmas.List.Sums.{sum_by-append}
use Rattle.iscsi_rules.proofs.general.CountLemmas.{count-cons}
use Rattle.iscsi_rules.proofs.general.ElementLemmas.{In, append-in_first, append-in_second, in-append}
use Rattle.iscsi_outbox_rules.specs.rules.Boxes.{Handed, Link}
use Rattle.iscsi_outbox_law.specs.private.Pairs.{EachOf}
use Rattle.iscsi_ffi_rules.specs.rules.Needs.{first_noted, is_noted, noted_on, without_first}
use Rattle.iscsi_ffi_rules.specs.rules.Sides.{Noted, Side}
use Rattle.iscsi_ffi_steps.specs.State.{State}
use Rattle.iscsi_requests.specs.Cookies.{Cookies}
use Rattle.iscsi_ffi_law.specs.Names.{AreNoted, Name, Note, handed_notes, note_places, noted_of, waiting_notes}
use Rattle.iscsi_ffi_law.specs.Parts.{AreApart, AreKept, IsAbout, IsNote}
use Rattle.iscsi_ffi_law.specs.Uses.{count_functions, count_held, is_place}
use Rattle.iscsi_ffi_law.proofs.general.Members.{each_in, in_each}
use Rattle.iscsi_ffi_law.proofs.own_pdus.Notes.{noted_here}

-- ---- the same ones, but for whether they wait

pub record AreRenoted (notes notes' : List Note) : Type 0 where
  pub counted : (test : ℕ → ℕ → Bool) → count_by (λ (n : Note). test n.place n.cookie) notes' ≡ count_by (λ (n : Note). test n.place n.cookie) notes
  pub from : (n : Note) → In n notes' → (m : Note) × In m notes × (m.place ≡ n.place) × (m.conn ≡ n.conn)

pub same_notes : (notes : List Note) → AreRenoted notes notes
same_notes notes = record { counted = λ test. refl; from = λ n there. (n, there, refl, refl) }

module _ (names : List Name) (notes notes' : List Note) (k : AreRenoted notes notes') where
  pub apart_renoted : AreApart names notes → AreApart names notes'
  apart_renoted a = record { places = λ place. omega (arith, a.places place, k.counted (λ p c. p == place)); events = a.events }

  pub kept_renoted : (v : Cookies) → AreKept names notes v → AreKept names notes' v
  kept_renoted v kept place cookie = kept place cookie ∙ ap (λ n. count_by (λ (m : Name). m.place == place && m.cookie == cookie) names + n) (sym (k.counted (λ p c. p == place && c == cookie)))

  pub each_renoted : (s : State) (links : List Link) → EachOf (IsNote s links) notes → EachOf (IsNote s links) notes'
  each_renoted s links each = in_each (IsNote s links) notes' (λ n there.
      let m = k.from n there in
      let q : IsNote s links m.0 = each_in (IsNote s links) notes m.0 m.1 each in
      record {
        held = ap (λ p. count_held p s) (sym m.2) ∙ q.held;
        waiting = ap (λ p. count_functions p s) (sym m.2) ∙ q.waiting;
        home = subst (λ c. list_any (λ (l : Link). l.conn == c) links ≡ true) m.3 q.home;
      })

  pub about_renoted : (r : Side) (conn : ℕ) (x : Option ℕ) (g : Handed) → IsAbout names notes r conn x g → IsAbout names notes' r conn x g
  about_renoted r conn x g a = record {
    named = a.named;
    noted = in_each (λ (n : Note). is_place n.place x ≡ true → (is_noted g.out.pdu ≡ true) × (n.conn ≡ conn)) notes' (λ n there same.
        let m = k.from n there in
        let q = each_in (λ (n : Note). is_place n.place x ≡ true → (is_noted g.out.pdu ≡ true) × (n.conn ≡ conn)) notes m.0 m.1 a.noted (subst (λ p. is_place p x ≡ true) (sym m.2) same) in
        (q.0, sym m.3 ∙ q.1));
  }

-- ---- in the lists of the rules

module _ (conn : ℕ) where
  without_none : (noted : List Noted) → without_first conn 0 noted ≡ noted
  without_none [] = refl
  without_none (n ∷ noted) = by_conn (n.conn == conn) (without_none noted)
    where
      by_conn : (v : Bool) → without_first conn 0 noted ≡ noted → cond (v && not (0 == 0)) (without_first conn (0 - 1) noted) (n ∷ without_first conn 0 noted) ≡ n ∷ noted
      by_conn true later = ap (λ ns. n ∷ ns) later
      by_conn false later = ap (λ ns. n ∷ ns) later

  first_none : (noted : List Noted) → first_noted conn 0 noted ≡ []
  first_none [] = refl
  first_none (n ∷ noted) = by_conn (n.conn == conn) (first_none noted)
    where
      by_conn : (v : Bool) → first_noted conn 0 noted ≡ [] → cond v (cond (0 == 0) [] (n ∷ first_noted conn (0 - 1) noted)) (first_noted conn 0 noted) ≡ []
      by_conn true later = refl
      by_conn false later = later

  module _ (n : Noted) (ys : List Noted) (here : (n.conn == conn) ≡ true) where
    without_behind : (xs : List Noted) → noted_on conn xs ≡ [] → without_first conn 1 (xs ++ n ∷ ys) ≡ xs ++ ys
    without_behind [] none = ap (λ v. cond (v && not (1 == 0)) (without_first conn (1 - 1) ys) (n ∷ without_first conn 1 ys)) here ∙ without_none ys
    without_behind (x ∷ xs) none = by_conn (x.conn == conn) none (without_behind xs)
      where
        by_conn : (v : Bool) → cond v (x ∷ noted_on conn xs) (noted_on conn xs) ≡ [] → (noted_on conn xs ≡ [] → without_first conn 1 (xs ++ n ∷ ys) ≡ xs ++ ys)
            → cond (v && not (1 == 0)) (without_first conn (1 - 1) (xs ++ n ∷ ys)) (x ∷ without_first conn 1 (xs ++ n ∷ ys)) ≡ x ∷ xs ++ ys
        by_conn true some later = absurd cc
        by_conn false gone later = ap (λ ns. x ∷ ns) (later gone)

    first_behind : (xs : List Noted) → noted_on conn xs ≡ [] → first_noted conn 1 (xs ++ n ∷ ys) ≡ n ∷ []
    first_behind [] none = ap (λ v. cond v (cond (1 == 0) [] (n ∷ first_noted conn (1 - 1) ys)) (first_noted conn 1 ys)) here ∙ ap (λ ns. n ∷ ns) (first_none ys)
    first_behind (x ∷ xs) none = by_conn (x.conn == conn) none (first_behind xs)
      where
        by_conn : (v : Bool) → cond v (x ∷ noted_on conn xs) (noted_on conn xs) ≡ [] → (noted_on conn xs ≡ [] → first_noted conn 1 (xs ++ n ∷ ys) ≡ n ∷ [])
            → cond v (cond (1 == 0) [] (x ∷ first_noted conn (1 - 1) (xs ++ n ∷ ys))) (first_noted conn 1 (xs ++ n ∷ ys)) ≡ n ∷ []
        by_conn true some later = absurd cc
        by_conn false gone later = later gone

    found_behind : (xs : List Noted) → noted_on conn xs ≡ [] → find (λ (m : Noted). m.conn == conn) (xs ++ n ∷ ys) ≡ Some n
    found_behind [] none = ap (λ v. cond v (Some n) (find (λ (m : Noted). m.conn == conn) ys)) here
    found_behind (x ∷ xs) none = by_conn (x.conn == conn) none (found_behind xs)
      where
        by_conn : (v : Bool) → cond v (x ∷ noted_on conn xs) (noted_on conn xs) ≡ [] → (noted_on conn xs ≡ [] → find (λ (m : Noted). m.conn == conn) (xs ++ n ∷ ys) ≡ Some n)
            → cond v (Some x) (find (λ (m : Noted). m.conn == conn) (xs ++ n ∷ ys)) ≡ Some n
        by_conn true some later = absurd cc
        by_conn false gone later = later gone

-- ---- the first one that waits

pub record IsFirst (conn : ℕ) (note : Note) (rest notes : List Note) : Type 0 where
  pub before : List Note
  pub after : List Note
  pub is : notes ≡ before ++ note ∷ after
  pub waits : note.waits ≡ true
  pub here : (note.conn == conn) ≡ true
  pub none : filter (λ (n : Note). n.conn == conn) (waiting_notes before) ≡ []
  pub rest_is : filter (λ (n : Note). n.conn == conn) (waiting_notes after) ≡ rest

pub first_split : (conn : ℕ) (note : Note) (rest notes : List Note) → filter (λ (n : Note). n.conn == conn) (waiting_notes notes) ≡ note ∷ rest → IsFirst conn note rest notes
first_split conn note rest [] all = absurd cc
first_split conn note rest (n ∷ notes) all = by_tests (first_split conn note rest notes) n.waits refl (n.conn == conn) refl all
  where
    on_it : List Note → List Note
    on_it ns = filter (λ (m : Note). m.conn == conn) ns

    by_tests : (filter (λ (m : Note). m.conn == conn) (waiting_notes notes) ≡ note ∷ rest → IsFirst conn note rest notes) → (v : Bool) → n.waits ≡ v → (w : Bool) → (n.conn == conn) ≡ w
        → filter (λ (m : Note). m.conn == conn) (cond v (n ∷ waiting_notes notes) (waiting_notes notes)) ≡ note ∷ rest → IsFirst conn note rest (n ∷ notes)
    by_tests later true is true at all =
        let both : n ∷ on_it (waiting_notes notes) ≡ note ∷ rest = sym (ap (λ u. cond u (n ∷ on_it (waiting_notes notes)) (on_it (waiting_notes notes))) at) ∙ all in
        let same : n ≡ note = cc in
        let left : on_it (waiting_notes notes) ≡ rest = cc in
        record {
          before = [];
          after = notes;
          is = ap (λ m. m ∷ notes) same;
          waits = ap (λ (m : Note). m.waits) (sym same) ∙ is;
          here = ap (λ (m : Note). m.conn == conn) (sym same) ∙ at;
          none = refl;
          rest_is = left;
        }
    by_tests later true is false at all =
        let k = later (sym (ap (λ u. cond u (n ∷ on_it (waiting_notes notes)) (on_it (waiting_notes notes))) at) ∙ all) in
        record {
          before = n ∷ k.before;
          after = k.after;
          is = ap (λ ns. n ∷ ns) k.is;
          waits = k.waits;
          here = k.here;
          none = ap (λ u. on_it (cond u (n ∷ waiting_notes k.before) (waiting_notes k.before))) is ∙ ap (λ u. cond u (n ∷ on_it (waiting_notes k.before)) (on_it (waiting_notes k.before))) at ∙ k.none;
          rest_is = k.rest_is;
        }
    by_tests later false is w at all =
        let k = later all in
        record {
          before = n ∷ k.before;
          after = k.after;
          is = ap (λ ns. n ∷ ns) k.is;
          waits = k.waits;
          here = k.here;
          none = ap (λ u. on_it (cond u (n ∷ waiting_notes k.before) (waiting_notes k.before))) is ∙ k.none;
          rest_is = k.rest_is;
        }

module _ (conn : ℕ) (note : Note) (rest notes : List Note) (f : IsFirst conn note rest notes) where
  -- it is behind all others then
  abbrev pub moved : List Note
  moved = (f.before ++ f.after) ++ record note { waits = false } ∷ []

  pub first_there : In note notes
  first_there = subst (In note) (sym f.is) (append-in_second f.before (note ∷ f.after) note (inl refl))

  pub moved_renoted : AreRenoted notes moved
  moved_renoted = record {
    counted = λ test.
        let all : count_by (λ (n : Note). test n.place n.cookie) notes ≡ count_by (λ (n : Note). test n.place n.cookie) (f.before ++ note ∷ f.after) = ap (count_by (λ (n : Note). test n.place n.cookie)) f.is in
        omega (
          arith,
          all,
          sum_by-append (λ (n : Note). cond (test n.place n.cookie) 1 0) f.before (note ∷ f.after),
          count-cons (λ (n : Note). test n.place n.cookie) note f.after,
          sum_by-append (λ (n : Note). cond (test n.place n.cookie) 1 0) (f.before ++ f.after) (record note { waits = false } ∷ []),
          sum_by-append (λ (n : Note). cond (test n.place n.cookie) 1 0) f.before f.after,
          count-cons (λ (n : Note). test n.place n.cookie) (record note { waits = false }) [],
        );
    from = λ n there. ⊎_elim
        (λ old. (n, subst (In n) (sym f.is) (⊎_elim (λ k. append-in_first f.before (note ∷ f.after) n k) (λ k. append-in_second f.before (note ∷ f.after) n (inr k)) (in-append f.before f.after n old)), refl, refl))
        (λ new. ⊎_elim (λ same. (note, first_there, ap (λ (m : Note). m.place) same, ap (λ (m : Note). m.conn) same)) (λ never. absurd never) new)
        (in-append (f.before ++ f.after) (record note { waits = false } ∷ []) n there);
  }

  waiting_before : waiting_notes notes ≡ waiting_notes f.before ++ note ∷ waiting_notes f.after
  waiting_before =
      ap waiting_notes f.is ∙ filter-append (λ (n : Note). n.waits) f.before (note ∷ f.after) ∙ ap (λ v. waiting_notes f.before ++ cond v (note ∷ waiting_notes f.after) (waiting_notes f.after)) f.waits

  waiting_now : waiting_notes moved ≡ waiting_notes f.before ++ waiting_notes f.after
  waiting_now =
      filter-append (λ (n : Note). n.waits) (f.before ++ f.after) (record note { waits = false } ∷ []) ∙ append-nil (waiting_notes (f.before ++ f.after)) ∙ filter-append (λ (n : Note). n.waits) f.before f.after

  handed_before : handed_notes notes ≡ handed_notes f.before ++ handed_notes f.after
  handed_before =
      ap handed_notes f.is ∙ filter-append (λ (n : Note). not n.waits) f.before (note ∷ f.after) ∙ ap (λ v. handed_notes f.before ++ cond (not v) (note ∷ handed_notes f.after) (handed_notes f.after)) f.waits

  handed_now : handed_notes moved ≡ handed_notes notes ++ record note { waits = false } ∷ []
  handed_now =
      filter-append (λ (n : Note). not n.waits) (f.before ++ f.after) (record note { waits = false } ∷ [])
      ∙ ap (λ ns. ns ++ record note { waits = false } ∷ []) (filter-append (λ (n : Note). not n.waits) f.before f.after ∙ sym handed_before)

  -- ---- by the rules

  none_noted : noted_on conn (map noted_of (waiting_notes f.before)) ≡ []
  none_noted = noted_here conn (waiting_notes f.before) ∙ ap (map noted_of) f.none

  module _ (waiting handed : List Noted) (a : AreNoted notes waiting handed) where
    all_noted : waiting ≡ map noted_of (waiting_notes f.before) ++ noted_of note ∷ map noted_of (waiting_notes f.after)
    all_noted = sym a.waiting_are ∙ ap (map noted_of) waiting_before ∙ map-append noted_of (waiting_notes f.before) (note ∷ waiting_notes f.after)

    pub noted_moved : AreNoted moved (without_first conn 1 waiting) (handed ++ first_noted conn 1 waiting)
    noted_moved = record {
      waiting_are =
          ap (map noted_of) waiting_now ∙ map-append noted_of (waiting_notes f.before) (waiting_notes f.after)
          ∙ sym (ap (without_first conn 1) all_noted ∙ without_behind conn (noted_of note) (map noted_of (waiting_notes f.after)) f.here (map noted_of (waiting_notes f.before)) none_noted);
      handed_are =
          ap (map noted_of) handed_now ∙ map-append noted_of (handed_notes notes) (record note { waits = false } ∷ []) ∙ ap (λ ns. ns ++ noted_of note ∷ []) a.handed_are
          ∙ ap (λ ns. handed ++ ns) (sym (ap (first_noted conn 1) all_noted ∙ first_behind conn (noted_of note) (map noted_of (waiting_notes f.after)) f.here (map noted_of (waiting_notes f.before)) none_noted));
    }

    pub found_first : find (λ (n : Noted). n.conn == conn) waiting ≡ Some (noted_of note)
    found_first =
        ap (find (λ (n : Noted). n.conn == conn)) all_noted ∙ found_behind conn (noted_of note) (map noted_of (waiting_notes f.after)) f.here (map noted_of (waiting_notes f.before)) none_noted

  -- ---- by connection

  pub waiting_here : note_places conn (waiting_notes moved) ≡ map (λ (n : Note). Some n.place) rest
  waiting_here =
      ap (note_places conn) waiting_now
      ∙ ap (map (λ (n : Note). Some n.place))
      (filter-append (λ (n : Note). n.conn == conn) (waiting_notes f.before) (waiting_notes f.after) ∙ ap (λ ns. ns ++ filter (λ (n : Note). n.conn == conn) (waiting_notes f.after)) f.none ∙ f.rest_is)

  pub handed_here : note_places conn (handed_notes moved) ≡ note_places conn (handed_notes notes) ++ Some note.place ∷ []
  handed_here =
      ap (note_places conn) handed_now
      ∙ ap (map (λ (n : Note). Some n.place))
      (filter-append (λ (n : Note). n.conn == conn) (handed_notes notes) (record note { waits = false } ∷ [])
      ∙ ap (λ v. filter (λ (n : Note). n.conn == conn) (handed_notes notes) ++ cond v (record note { waits = false } ∷ []) []) f.here)
      ∙ map-append (λ (n : Note). Some n.place) (filter (λ (n : Note). n.conn == conn) (handed_notes notes)) (record note { waits = false } ∷ [])

  module _ (other : ℕ) (apart : (note.conn == other) ≡ false) where
    pub waiting_elsewhere : note_places other (waiting_notes moved) ≡ note_places other (waiting_notes notes)
    waiting_elsewhere =
        ap (map (λ (n : Note). Some n.place))
        (ap (filter (λ (n : Note). n.conn == other)) waiting_now ∙ filter-append (λ (n : Note). n.conn == other) (waiting_notes f.before) (waiting_notes f.after)
        ∙ sym (ap (filter (λ (n : Note). n.conn == other)) waiting_before ∙ filter-append (λ (n : Note). n.conn == other) (waiting_notes f.before) (note ∷ waiting_notes f.after)
        ∙ ap (λ v. filter (λ (n : Note). n.conn == other) (waiting_notes f.before) ++ cond v (note ∷ filter (λ (n : Note). n.conn == other) (waiting_notes f.after)) (filter (λ (n : Note). n.conn == other) (waiting_notes f.after))) apart))

    pub handed_elsewhere : note_places other (handed_notes moved) ≡ note_places other (handed_notes notes)
    handed_elsewhere =
        ap (map (λ (n : Note). Some n.place))
        (ap (filter (λ (n : Note). n.conn == other)) handed_now ∙ filter-append (λ (n : Note). n.conn == other) (handed_notes notes) (record note { waits = false } ∷ [])
        ∙ ap (λ v. filter (λ (n : Note). n.conn == other) (handed_notes notes) ++ cond v (record note { waits = false } ∷ []) []) apart ∙ append-nil (filter (λ (n : Note). n.conn == other) (handed_notes notes)))
