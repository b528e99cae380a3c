-- The fence by all open connections.
use Rattle.std.proofs.Common.{◌≡◌, ℕ, ◌+◌, ◌==◌, ◌&&◌, ◌||◌, not, nat_lt, cond, Bool, true, false, List, [], ◌∷◌, ◌++◌, filter, count_by, refl, ap, sym, ◌∙◌, arith, eq-eqb, ⊎_elim, lt-ltb, le-ltb}
use Rattle.std.specs.List.{list_all, list_any}
use Rattle.std.proofs.lemmas.Bool.{or_parts, or_left, cases_lt}
use Rattle.std.proofs.lemmas.List.Elements.{filter-append}
use Rattle.std.proofs.lemmas.List.Folds.{list_any-append}
use Rattle.std.proofs.lemmas.List.Sums.{sum_by-cons, sum_by-append}
use Rattle.iscsi_outbox_rules.specs.rules.Calls.{Opening}
use Rattle.iscsi_outbox_rules.specs.rules.Boxes.{Outgoing, Link, Box}
use Rattle.iscsi_outbox_rules.specs.rules.Words.{is_open, looks_for_arrival, unarrived, unwritten}
use Rattle.iscsi_outbox_rules.specs.rules.Handing.{takes_handed, fenced_handed, others, lets_pass, is_clear, passes_fence}
use Rattle.iscsi_arrivals.proofs.CountLemmas.{any-count, count-append, count-cons, lt_rest}
use Rattle.iscsi_fences.specs.Passing.{fenced_before, takes_before, any_waits, count_waits, is_fence_out, is_busy_on, passes_by, open_links, Among}

-- ---- tests of all

module _ {A : Type 0} where
  all_and : (p q : A → Bool) (xs : List A) → list_all (λ x. p x && q x) xs ≡ (list_all p xs && list_all q xs)
  all_and p q [] = refl
  all_and p q (x ∷ xs) = ap (λ (v : Bool). (p x && q x) && v) (all_and p q xs) ∙ swapped (p x) (q x) (list_all p xs) (list_all q xs)
    where
      swapped : (a b c d : Bool) → ((a && b) && (c && d)) ≡ ((a && c) && (b && d))
      swapped true true c d = refl
      swapped true false true d = refl
      swapped true false false d = refl
      swapped false b c d = refl

  all_not : (p : A → Bool) (xs : List A) → list_all (λ x. not (p x)) xs ≡ not (list_any p xs)
  all_not p [] = refl
  all_not p (x ∷ xs) = ap (λ (v : Bool). not (p x) && v) (all_not p xs) ∙ joined (p x) (list_any p xs)
    where
      joined : (a b : Bool) → (not a && not b) ≡ not (a || b)
      joined true b = refl
      joined false b = refl

  all_true : (xs : List A) → list_all (λ (x : A). true) xs ≡ true
  all_true [] = refl
  all_true (x ∷ xs) = all_true xs

  -- where this is asked for, none of them passes the test
  all_unless : (v : Bool) (p : A → Bool) (xs : List A) → list_all (λ x. not (v && p x)) xs ≡ not (v && list_any p xs)
  all_unless true p xs = all_not p xs
  all_unless false p xs = all_true xs

  all_or : (v : Bool) (p : A → Bool) (xs : List A) → list_all (λ x. not v || p x) xs ≡ (not v || list_all p xs)
  all_or true p xs = refl
  all_or false p xs = all_true xs

pub fence_parts : (o : Opening) (b : Box) (l : Link) (out : Outgoing) → passes_fence o b l out ≡ (not out.takes || passes_by o (others b l) out)
fence_parts o b l out = ap (λ (v : Bool). not out.takes || v) (by_parts (others b l))
  where
    waits : (Outgoing → Bool) → Link → Bool
    waits test m = list_any test m.queue

    by_parts : (links : List Link) → list_all (λ m. lets_pass o out m && (not out.fenced || is_clear o out m)) links ≡ passes_by o links out
    by_parts links =
        all_and (λ m. lets_pass o out m) (λ m. not out.fenced || is_clear o out m) links
        ∙ ap (λ (v : Bool). v && list_all (λ m. not out.fenced || is_clear o out m) links)
        (all_and (λ m. not (waits (fenced_before out.time) m)) (λ m. not (looks_for_arrival o && list_any fenced_handed (unarrived m))) links
        ∙ ap (λ (v : Bool). v && list_all (λ m. not (looks_for_arrival o && list_any fenced_handed (unarrived m))) links) (all_not (waits (fenced_before out.time)) links)
        ∙ ap (λ (v : Bool). not (any_waits (fenced_before out.time) links) && v) (all_unless (looks_for_arrival o) (λ (m : Link). list_any fenced_handed (unarrived m)) links))
        ∙ ap (λ (v : Bool). (not (any_waits (fenced_before out.time) links) && not (looks_for_arrival o && is_fence_out links)) && v)
        (all_or out.fenced (λ m. is_clear o out m) links
        ∙ ap (λ (v : Bool). not out.fenced || v)
        (all_and (λ m. not (waits (takes_before out.time) m)) (λ m. not (is_busy_on o m)) links
        ∙ ap (λ (v : Bool). v && list_all (λ m. not (is_busy_on o m)) links) (all_not (waits (takes_before out.time)) links)
        ∙ ap (λ (v : Bool). not (any_waits (takes_before out.time) links) && v) (all_not (is_busy_on o) links)))

-- ---- the other connections

module _ (l : Link) where
  abbrev same : Link → Bool
  same m = m.conn == l.conn

  abbrev other : Link → Bool
  other m = is_open m && not (m.conn == l.conn)

  -- among connections without its CID
  all_others : (links : List Link) → list_any same links ≡ false → filter other links ≡ filter is_open links
  all_others [] none = refl
  all_others (m ∷ links) none =
      let parts = or_parts (same m) (list_any same links) none in
      let rest : filter other links ≡ filter is_open links = all_others links parts.1 in
      ap (λ (v : Bool). cond (is_open m && not v) (m ∷ filter other links) (filter other links)) parts.0
      ∙ by_open m links (is_open m) rest
    where
      by_open : (m : Link) (links : List Link) (v : Bool) → filter other links ≡ filter is_open links → cond (v && true) (m ∷ filter other links) (filter other links) ≡ cond v (m ∷ filter is_open links) (filter is_open links)
      by_open m links true rest = ap (λ (ms : List Link). m ∷ ms) rest
      by_open m links false rest = rest

  other_links : (b : Box) (a : Among l b.links) → others b l ≡ filter is_open a.before ++ filter is_open a.after
  other_links b a =
      ap (filter other) (sym a.whole) ∙ filter-append other a.before (l ∷ a.after)
      ∙ ap (λ (ms : List Link). ms ++ filter other (l ∷ a.after)) (all_others a.before a.apart_before)
      ∙ ap (λ (ms : List Link). filter is_open a.before ++ ms) (itself ∙ all_others a.after a.apart_after)
    where
      itself : filter other (l ∷ a.after) ≡ filter other a.after
      itself =
          ap (λ (v : Bool). cond (is_open l && not v) (l ∷ filter other a.after) (filter other a.after)) (eq-eqb l.conn l.conn refl)
          ∙ never (is_open l)
        where
          never : (v : Bool) → cond (v && false) (l ∷ filter other a.after) (filter other a.after) ≡ filter other a.after
          never true = refl
          never false = refl

pub same_waits : (test : Outgoing → Bool) (b : Box) (l : Link) → Among l b.links → is_open l ≡ true → list_any test l.queue ≡ false → any_waits test (others b l) ≡ any_waits test (open_links b)
same_waits test b l a opens none =
    ap (any_waits test) (other_links l b a) ∙ list_any-append waits (filter is_open a.before) (filter is_open a.after)
    ∙ ap (λ (v : Bool). any_waits test (filter is_open a.before) || v) (sym with_itself)
    ∙ sym (list_any-append waits (filter is_open a.before) (filter is_open (l ∷ a.after)))
    ∙ ap (any_waits test) (sym (filter-append is_open a.before (l ∷ a.after)) ∙ ap (filter is_open) a.whole)
  where
    waits : Link → Bool
    waits m = list_any test m.queue

    with_itself : any_waits test (filter is_open (l ∷ a.after)) ≡ any_waits test (filter is_open a.after)
    with_itself =
        ap (λ (v : Bool). any_waits test (cond v (l ∷ filter is_open a.after) (filter is_open a.after))) opens
        ∙ ap (λ (v : Bool). v || any_waits test (filter is_open a.after)) none

-- ---- how many wait

or_sum : (a b : ℕ) → (nat_lt 0 a || nat_lt 0 b) ≡ nat_lt 0 (a + b)
or_sum a b =
    ⊎_elim (λ some. or_left (nat_lt 0 a) (nat_lt 0 b) (lt-ltb 0 a some) ∙ sym (lt-ltb 0 (a + b) (omega (arith, some))))
    (λ none. ap (λ (v : Bool). v || nat_lt 0 b) (le-ltb 0 a none) ∙ ap (nat_lt 0) (let same : b ≡ a + b = omega (arith, none) in same))
    (cases_lt 0 a)

any_counted : (test : Outgoing → Bool) (links : List Link) → any_waits test links ≡ nat_lt 0 (count_waits test links)
any_counted test [] = refl
any_counted test (m ∷ links) =
    let rest : any_waits test links ≡ nat_lt 0 (count_waits test links) = any_counted test links in
    ap (λ (v : Bool). v || any_waits test links) (any-count test m.queue) ∙ ap (λ (v : Bool). nat_lt 0 (count_by test m.queue) || v) rest
    ∙ or_sum (count_by test m.queue) (count_waits test links) ∙ ap (nat_lt 0) (sym (sum_by-cons (λ (x : Link). count_by test x.queue) m links))

pub waits_elsewhere : (test : Outgoing → Bool) (b : Box) (l : Link) → Among l b.links → is_open l ≡ true → any_waits test (others b l) ≡ nat_lt (count_by test l.queue) (count_waits test (open_links b))
waits_elsewhere test b l a opens =
    ap (any_waits test) (other_links l b a) ∙ any_counted test (filter is_open a.before ++ filter is_open a.after)
    ∙ lt_rest (count_by test l.queue) (count_waits test (filter is_open a.before ++ filter is_open a.after)) (count_waits test (open_links b)) counted
  where
    each : Link → ℕ
    each m = count_by test m.queue

    counted : count_by test l.queue + count_waits test (filter is_open a.before ++ filter is_open a.after) ≡ count_waits test (open_links b)
    counted =
        let opened : open_links b ≡ filter is_open a.before ++ (l ∷ filter is_open a.after) =
        sym (ap (filter is_open) a.whole) ∙ filter-append is_open a.before (l ∷ a.after)
        ∙ ap (λ (v : Bool). filter is_open a.before ++ cond v (l ∷ filter is_open a.after) (filter is_open a.after)) opens in
        let parts : count_waits test (filter is_open a.before ++ filter is_open a.after) ≡ count_waits test (filter is_open a.before) + count_waits test (filter is_open a.after) =
        sum_by-append each (filter is_open a.before) (filter is_open a.after) in
        let whole : count_waits test (filter is_open a.before ++ (l ∷ filter is_open a.after)) ≡ count_waits test (filter is_open a.before) + count_waits test (l ∷ filter is_open a.after) =
        sum_by-append each (filter is_open a.before) (l ∷ filter is_open a.after) in
        let itself : count_waits test (l ∷ filter is_open a.after) ≡ count_by test l.queue + count_waits test (filter is_open a.after) = sum_by-cons each l (filter is_open a.after) in
        let same : count_waits test (open_links b) ≡ count_waits test (filter is_open a.before ++ (l ∷ filter is_open a.after)) = ap (count_waits test) opened in
        omega (arith, parts, whole, itself, same)

-- ---- busy connections

-- nothing is under way on a connection that isn't open
still : (o : Opening) (links : List Link) → list_any (is_busy_on o) (filter is_open links) ≡ list_any (is_busy_on o) links
still o [] = refl
still o (m ∷ links) = by_open (is_open m) refl (still o links)
  where
    by_open : (v : Bool) → is_open m ≡ v → list_any (is_busy_on o) (filter is_open links) ≡ list_any (is_busy_on o) links
        → list_any (is_busy_on o) (cond v (m ∷ filter is_open links) (filter is_open links)) ≡ (is_busy_on o m || list_any (is_busy_on o) links)
    by_open true opens rest = ap (λ (v : Bool). is_busy_on o m || v) rest
    by_open false opens rest =
        let none : is_busy_on o m ≡ false = ap (λ (v : Bool). list_any takes_handed (cond v (cond (looks_for_arrival o) (unarrived m) (unwritten m)) [])) opens in
        rest ∙ sym (ap (λ (v : Bool). v || list_any (is_busy_on o) links) none)

pub others_busy : (o : Opening) (b : Box) (l : Link) → Among l b.links → list_any (is_busy_on o) (others b l) ≡ nat_lt (cond (is_busy_on o l) 1 0) (count_by (is_busy_on o) b.links)
others_busy o b l a =
    ap (list_any (is_busy_on o)) (other_links l b a) ∙ list_any-append (is_busy_on o) (filter is_open a.before) (filter is_open a.after)
    ∙ ap (λ (v : Bool). v || list_any (is_busy_on o) (filter is_open a.after)) (still o a.before) ∙ ap (λ (v : Bool). list_any (is_busy_on o) a.before || v) (still o a.after)
    ∙ sym (list_any-append (is_busy_on o) a.before a.after) ∙ any-count (is_busy_on o) (a.before ++ a.after)
    ∙ lt_rest (cond (is_busy_on o l) 1 0) (count_by (is_busy_on o) (a.before ++ a.after)) (count_by (is_busy_on o) b.links) counted
  where
    counted : cond (is_busy_on o l) 1 0 + count_by (is_busy_on o) (a.before ++ a.after) ≡ count_by (is_busy_on o) b.links
    counted =
        let parts : count_by (is_busy_on o) (a.before ++ a.after) ≡ count_by (is_busy_on o) a.before + count_by (is_busy_on o) a.after = count-append (is_busy_on o) a.before a.after in
        let whole : count_by (is_busy_on o) (a.before ++ l ∷ a.after) ≡ count_by (is_busy_on o) a.before + count_by (is_busy_on o) (l ∷ a.after) = count-append (is_busy_on o) a.before (l ∷ a.after) in
        let itself : count_by (is_busy_on o) (l ∷ a.after) ≡ cond (is_busy_on o l) 1 0 + count_by (is_busy_on o) a.after = count-cons (is_busy_on o) l a.after in
        let same : count_by (is_busy_on o) (a.before ++ l ∷ a.after) ≡ count_by (is_busy_on o) b.links = ap (count_by (is_busy_on o)) a.whole in
        omega (arith, parts, whole, itself, same)
