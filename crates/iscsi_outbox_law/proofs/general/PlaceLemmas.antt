-- A connection by its place.
use Rattle.std.proofs.Common.{◌≡◌, ℕ, zero, suc, ◌+◌, ◌<◌, ◌==◌, ◌&&◌, ◌||◌, not, nat_lt, cond, Bool, true, false, List, [], ◌∷◌, length, map, filter, get_or, set, position, Some, None, refl, ap, sym, subst, ◌∙◌, arith, ne_eqb, lt-ltb, le-ltb, ⊎_elim}
use Rattle.std.specs.List.{list_any, position_or_len}
use Rattle.std.proofs.lemmas.Bool.{cases_eq, cases_lt, eq-eqb, eqb-true, eqb-false, or_parts, false≢true}
use Rattle.std.proofs.lemmas.List.{get_or-map, length-map}
use Rattle.std.proofs.lemmas.List.Quantifiers.{position-Some}
use Rattle.iscsi_rules.specs.rules.Settings.{are_distinct, is_known}
use Rattle.iscsi_rules.specs.rules.Trace.{first_of}
use Rattle.iscsi_outbox_rules.specs.rules.Boxes.{Link}
use Rattle.iscsi_outbox_rules.specs.rules.Queues.{at_link}
use Rattle.iscsi_outbox_rules.specs.rules.Run.{new_link}
use Rattle.iscsi_outbox_law.specs.private.Pairs.{place_in}
use Rattle.iscsi_outbox_law.specs.private.Commands.{link_in}

abbrev pub conns_of : List Link → List ℕ
conns_of links = map (λ (l : Link). l.conn) links

-- no CID stands twice
abbrev pub AreApart : List ℕ → Type 0
AreApart [] = Unit {0}
AreApart (c ∷ cs) = (list_any (λ k. k == c) cs ≡ false) × AreApart cs

pub known_any : (cid : ℕ) (cs : List (ℕ × ℕ)) → is_known cid cs ≡ list_any (λ k. k == cid) (map (λ (c : ℕ × ℕ). c.0) cs)
known_any cid [] = refl
known_any cid (c ∷ cs) = ap (λ (v : Bool). (c.0 == cid) || v) (known_any cid cs)

pub distinct_apart : (cs : List (ℕ × ℕ)) → are_distinct cs ≡ true → AreApart (map (λ (c : ℕ × ℕ). c.0) cs)
distinct_apart [] h = tt
distinct_apart (c ∷ cs) h = by_first (is_known c.0 cs) refl h (distinct_apart cs)
  where
    by_first : (v : Bool) → is_known c.0 cs ≡ v → (not v && are_distinct cs) ≡ true → (are_distinct cs ≡ true → AreApart (map (λ (d : ℕ × ℕ). d.0) cs)) → AreApart (map (λ (d : ℕ × ℕ). d.0) (c ∷ cs))
    by_first true is k rest = absurd (false≢true k)
    by_first false is k rest = (sym (known_any c.0 cs) ∙ is, rest k)

-- ---- the place of a CID

module _ {A : Type 0} (p : A → Bool) where
  pub first_any : (xs : List A) → nat_lt (position_or_len p xs) (length xs) ≡ list_any p xs
  first_any [] = refl
  first_any (x ∷ xs) =
      let rest = first_any xs in
      elim (p x) as (λ v. nat_lt (cond (not v) (1 + position_or_len p xs) 0) (suc (length xs)) ≡ (v || list_any p xs)) [
        | true ↦ lt-ltb 0 (suc (length xs)) (omega arith)
        | false ↦ ⊎_elim
            (λ lt. lt-ltb (1 + position_or_len p xs) (suc (length xs)) (omega (arith, lt)) ∙ sym (lt-ltb (position_or_len p xs) (length xs) lt) ∙ rest)
            (λ ge. le-ltb (1 + position_or_len p xs) (suc (length xs)) (omega (arith, ge)) ∙ sym (le-ltb (position_or_len p xs) (length xs) ge) ∙ rest)
            (cases_lt (position_or_len p xs) (length xs))
      ]

  pub none_passes : (xs : List A) → position p xs ≡ None → list_any p xs ≡ false
  none_passes xs none = by_any (nat_lt (position_or_len p xs) (length xs)) none (first_any xs)
    where
      by_any : (v : Bool) → cond v (Some (position_or_len p xs)) None ≡ None → v ≡ list_any p xs → list_any p xs ≡ false
      by_any true e is = absurd cc
      by_any false e is = sym is

-- the connection with this CID stands in this place
pub record IsPlace (links : List Link) (cid p : ℕ) : Type 0 where
  pub within : p < length links
  pub is : (link_in links p).conn ≡ cid

pub place_found : (cids : List ℕ) (links : List Link) (cid p : ℕ) → conns_of links ≡ cids → place_in cids cid ≡ Some p → IsPlace links cid p
place_found cids links cid p same found =
    let at = position-Some (λ (c : ℕ). c == cid) cids p 0 found in
    let long : length links ≡ length cids = sym (length-map links (λ (l : Link). l.conn)) ∙ ap length same in
    let within : p < length links = omega (arith, at.0, long) in
    record {
      within = within;
      is = sym (get_or-map (λ (l : Link). l.conn) links p (new_link 0) 0 within) ∙ ap (λ cs. get_or cs p 0) same ∙ eqb-true (get_or cids p 0) cid at.1;
    }

pub place_nowhere : (cids : List ℕ) (links : List Link) (cid : ℕ) → conns_of links ≡ cids → place_in cids cid ≡ None → list_any (λ k. k == cid) (conns_of links) ≡ false
place_nowhere cids links cid same none = ap (list_any (λ k. k == cid)) same ∙ none_passes (λ (c : ℕ). c == cid) cids none

-- ---- what is done there

pub none_here : (links : List Link) (cid p : ℕ) → list_any (λ k. k == cid) (conns_of links) ≡ false → p < length links → (link_in links p).conn ≡ cid → ⊥
none_here [] cid p none lt is = omega arith
none_here (l ∷ links) cid zero none lt is = eqb-false l.conn cid (or_parts (l.conn == cid) (list_any (λ k. k == cid) (conns_of links)) none).0 is
none_here (l ∷ links) cid (suc p) none lt is = none_here links cid p (or_parts (l.conn == cid) (list_any (λ k. k == cid) (conns_of links)) none).1 (omega (arith, lt)) is

pub at_none : (f : Link → Link) (links : List Link) (cid : ℕ) → list_any (λ k. k == cid) (conns_of links) ≡ false → at_link cid f links ≡ links
at_none f [] cid none = refl
at_none f (l ∷ links) cid none =
    let parts = or_parts (l.conn == cid) (list_any (λ k. k == cid) (conns_of links)) none in
    ap (λ (v : Bool). cond v (f l) l ∷ at_link cid f links) parts.0 ∙ ap (λ ls. l ∷ ls) (at_none f links cid parts.1)

-- the first one has another CID than one behind it
pub other_first : (l : Link) (links : List Link) (cid p : ℕ) → AreApart (conns_of (l ∷ links)) → p < length links → (link_in links p).conn ≡ cid → (l.conn == cid) ≡ false
other_first l links cid p apart lt is = ne_eqb l.conn cid (λ same. none_here links l.conn p apart.0 lt (is ∙ sym same))

pub none_behind : (l : Link) (links : List Link) (cid : ℕ) → AreApart (conns_of (l ∷ links)) → l.conn ≡ cid → list_any (λ k. k == cid) (conns_of links) ≡ false
none_behind l links cid apart is = subst (λ c. list_any (λ k. k == c) (conns_of links) ≡ false) is apart.0

pub at_place : (f : Link → Link) (links : List Link) (cid p : ℕ) → AreApart (conns_of links) → p < length links → (link_in links p).conn ≡ cid → at_link cid f links ≡ set links p (f (link_in links p))
at_place f [] cid p apart lt is = refl
at_place f (l ∷ links) cid zero apart lt is =
    ap (λ (v : Bool). cond v (f l) l ∷ at_link cid f links) (eq-eqb l.conn cid is) ∙ ap (λ ls. f l ∷ ls) (at_none f links cid (none_behind l links cid apart is))
at_place f (l ∷ links) cid (suc p) apart lt is =
    ap (λ (v : Bool). cond v (f l) l ∷ at_link cid f links) (other_first l links cid p apart (omega (arith, lt)) is) ∙ ap (λ ls. l ∷ ls) (at_place f links cid p apart.1 (omega (arith, lt)) is)

any_none : (test : Link → Bool) (links : List Link) (cid : ℕ) → list_any (λ k. k == cid) (conns_of links) ≡ false → list_any (λ (l : Link). (l.conn == cid) && test l) links ≡ false
any_none test [] cid none = refl
any_none test (l ∷ links) cid none =
    let parts = or_parts (l.conn == cid) (list_any (λ k. k == cid) (conns_of links)) none in
    ap (λ (v : Bool). (v && test l) || list_any (λ (m : Link). (m.conn == cid) && test m) links) parts.0 ∙ any_none test links cid parts.1

pub any_nowhere : (test : Link → Bool) (links : List Link) (cid : ℕ) → list_any (λ k. k == cid) (conns_of links) ≡ false → list_any (λ (l : Link). (l.conn == cid) && test l) links ≡ false
any_nowhere = any_none

pub or_no : (v : Bool) → (v || false) ≡ v
or_no true = refl
or_no false = refl

pub any_at : (test : Link → Bool) (links : List Link) (cid p : ℕ) → AreApart (conns_of links) → p < length links → (link_in links p).conn ≡ cid → list_any (λ (l : Link). (l.conn == cid) && test l) links ≡ test (link_in links p)
any_at test [] cid p apart lt is = absurd (omega (arith, lt))
any_at test (l ∷ links) cid zero apart lt is =
    ap (λ (v : Bool). (v && test l) || list_any (λ (m : Link). (m.conn == cid) && test m) links) (eq-eqb l.conn cid is)
    ∙ ap (λ (v : Bool). test l || v) (any_none test links cid (none_behind l links cid apart is)) ∙ or_no (test l)
any_at test (l ∷ links) cid (suc p) apart lt is =
    ap (λ (v : Bool). (v && test l) || list_any (λ (m : Link). (m.conn == cid) && test m) links) (other_first l links cid p apart (omega (arith, lt)) is)
    ∙ any_at test links cid p apart.1 (omega (arith, lt)) is

pub found_nowhere : (links : List Link) (cid : ℕ) → list_any (λ k. k == cid) (conns_of links) ≡ false → first_of (filter (λ (l : Link). l.conn == cid) links) ≡ None
found_nowhere [] cid none = refl
found_nowhere (l ∷ links) cid none =
    let parts = or_parts (l.conn == cid) (list_any (λ k. k == cid) (conns_of links)) none in
    ap (λ (v : Bool). first_of (cond v (l ∷ filter (λ (m : Link). m.conn == cid) links) (filter (λ (m : Link). m.conn == cid) links))) parts.0 ∙ found_nowhere links cid parts.1

pub found_at : (links : List Link) (cid p : ℕ) → AreApart (conns_of links) → p < length links → (link_in links p).conn ≡ cid → first_of (filter (λ (l : Link). l.conn == cid) links) ≡ Some (link_in links p)
found_at [] cid p apart lt is = absurd (omega (arith, lt))
found_at (l ∷ links) cid zero apart lt is =
    ap (λ (v : Bool). first_of (cond v (l ∷ filter (λ (m : Link). m.conn == cid) links) (filter (λ (m : Link). m.conn == cid) links))) (eq-eqb l.conn cid is)
found_at (l ∷ links) cid (suc p) apart lt is =
    ap (λ (v : Bool). first_of (cond v (l ∷ filter (λ (m : Link). m.conn == cid) links) (filter (λ (m : Link). m.conn == cid) links))) (other_first l links cid p apart (omega (arith, lt)) is)
    ∙ found_at links cid p apart.1 (omega (arith, lt)) is

-- no two places have one CID
pub one_place : (links : List Link) (n p : ℕ) → AreApart (conns_of links) → n < length links → p < length links → (link_in links n).conn ≡ (link_in links p).conn → n ≡ p
one_place [] n p apart lt lt' same = absurd (omega (arith, lt))
one_place (l ∷ links) zero zero apart lt lt' same = refl
one_place (l ∷ links) zero (suc p) apart lt lt' same = absurd (none_here links l.conn p apart.0 (omega (arith, lt')) (sym same))
one_place (l ∷ links) (suc n) zero apart lt lt' same = absurd (none_here links l.conn n apart.0 (omega (arith, lt)) same)
one_place (l ∷ links) (suc n) (suc p) apart lt lt' same = ap suc (one_place links n p apart.1 (omega (arith, lt)) (omega (arith, lt')) same)

pub same_conn : (links : List Link) (n p : ℕ) → AreApart (conns_of links) → n < length links → p < length links → ((link_in links n).conn == (link_in links p).conn) ≡ (n == p)
same_conn links n p apart lt lt' =
    ⊎_elim
    (λ same. eq-eqb (link_in links n).conn (link_in links p).conn (ap (λ k. (link_in links k).conn) same) ∙ sym (eq-eqb n p same))
    (λ other. ne_eqb (link_in links n).conn (link_in links p).conn (λ same. other (one_place links n p apart lt lt' same)) ∙ sym (ne_eqb n p other))
    (cases_eq n p)

pub none_of_any : (test : Link → Bool) (links : List Link) → ((n : ℕ) → n < length links → test (link_in links n) ≡ false) → list_any test links ≡ false
none_of_any test [] none = refl
none_of_any test (l ∷ links) none =
    ap (λ (v : Bool). v || list_any test links) (none 0 (omega arith)) ∙ none_of_any test links (λ n lt. none (suc n) (omega (arith, lt)))

-- one place alone can pass
pub only_at : (test : Link → Bool) (links : List Link) (k : ℕ) → k < length links → ((n : ℕ) → n < length links → (n ≡ k → ⊥) → test (link_in links n) ≡ false) → list_any test links ≡ test (link_in links k)
only_at test [] k lt none = absurd (omega (arith, lt))
only_at test (l ∷ links) zero lt none =
    ap (λ (v : Bool). test l || v) (none_of_any test links (λ n within. none (suc n) (omega (arith, within)) (λ same. omega (arith, same)))) ∙ or_no (test l)
only_at test (l ∷ links) (suc k) lt none =
    ap (λ (v : Bool). v || list_any test links) (none 0 (omega arith) (λ same. omega (arith, same)))
    ∙ only_at test links k (omega (arith, lt)) (λ n within other. none (suc n) (omega (arith, within)) (λ same. other (omega (arith, same))))
