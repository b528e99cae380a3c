-- How many stand there of each connection, as one comes, owes less, or goes.
use Rattle.std.proofs.Common.{◌≡◌, ◌≢◌, ℕ, ◌+◌, ◌-◌, ◌<◌, ◌≤◌, ◌==◌, ◌&&◌, ◌||◌, not, cond, Bool, true, false, List, [], ◌∷◌, ◌++◌, length, map, filter, set, get_or, Option, Some, None, refl, ap, sym, subst, ◌∙◌, arith, ⊎_elim, eq-eqb, ne_eqb}
use Rattle.std.specs.Prelude.{nat_lt}
use Rattle.std.specs.List.{list_any}
use Rattle.std.specs.Option.{is_some}
use Rattle.std.proofs.lemmas.Bool.{and_right, cases_Bool, cases_eq, cases_lt, eqb-true, false≢true, lt-ltb, or_parts, or_right, true≢false}
use Rattle.std.proofs.lemmas.List.{append-nil, append_assoc, get_or_past, get_or-set_same, get_or-set_other, length-set}
use Rattle.iscsi_outbox_state.specs.declared.lane.Left.{Left}
use Rattle.iscsi_outbox_state.specs.declared.lane.Undue.{Undue}
use Rattle.iscsi_outbox_state.specs.declared.lane.Standing.{Standing}
use Rattle.iscsi_outbox_state.specs.declared.lane.Standing.TheVariants.{Left as IsLeft, Undue as IsUndue}
use Rattle.iscsi_outbox_state.specs.Lane.{as_cleared, cleared_in, due_behind, goes_out_on, is_command, is_due, is_under_way_on, not_running, not_under_way, others_behind, still_owes, waits_for_clear, with_left}
use Rattle.iscsi_lane.specs.Standings.{AreApart, AreWithin, conn_of, left_in, tally}
use Rattle.iscsi_lane.specs.Counting.{AreCounts}
use Rattle.iscsi_lane.proofs.StandLemmas.{one_if, tally_append}

-- ---- counts by connection

and_true : (c : Bool) → one_if (c && true) ≡ one_if c
and_true true = refl
and_true false = refl

module _ (test : ℕ → Standing → Bool) (xs ys : List Standing) (n : ℕ) (counts : List ℕ) (are : AreCounts test xs n counts) where
  pub counts_same : ((k : ℕ) → tally (test k) ys ≡ tally (test k) xs) → AreCounts test ys n counts
  counts_same same = record { long = are.long; each = λ k l. are.each k l ∙ sym (same k) }

  module _ (conn m : ℕ) (b : Bool) (is : m ≡ one_if b) where
    here : (k : ℕ) → k ≡ conn → one_if (b && (conn == k)) ≡ m
    here k same = ap (λ e. one_if (b && e)) (eq-eqb conn k (sym same)) ∙ and_true b ∙ sym is

    elsewhere : (k : ℕ) → k ≢ conn → one_if (b && (conn == k)) ≡ 0
    elsewhere k other = ap one_if (and_right b (conn == k) (ne_eqb conn k (λ e. other (sym e))))

    pub counts_more : ((k : ℕ) → tally (test k) ys ≡ tally (test k) xs + one_if (b && (conn == k))) → conn < n → AreCounts test ys n (set counts conn (get_or counts conn 0 + m))
    counts_more more l = record {
      long = length-set counts conn (get_or counts conn 0 + m) ∙ are.long;
      each = λ k low. ⊎_elim
          (λ (same : k ≡ conn).
          let e = subst (λ i. get_or (set counts conn (get_or counts conn 0 + m)) i 0 ≡ get_or counts i 0 + m) (sym same) (get_or-set_same counts conn (get_or counts conn 0 + m) 0 (let a = are.long in omega (arith, a, l))) in
          let d = are.each k low in let f = more k in let g = here k same in omega (arith, e, d, f, g))
          (λ other.
          let e = get_or-set_other counts conn k (get_or counts conn 0 + m) 0 other in
          let d = are.each k low in let f = more k in let g = elsewhere k other in omega (arith, e, d, f, g))
          (cases_eq k conn);
    }

    module _ (fewer : (k : ℕ) → tally (test k) ys + one_if (b && (conn == k)) ≡ tally (test k) xs) (l : conn < n) where
      pub counts_some : m ≤ get_or counts conn 0
      counts_some = let d = are.each conn l in let f = fewer conn in let g = here conn refl in omega (arith, d, f, g)

      pub counts_fewer : AreCounts test ys n (set counts conn (get_or counts conn 0 - m))
      counts_fewer = record {
        long = length-set counts conn (get_or counts conn 0 - m) ∙ are.long;
        each = λ k low. ⊎_elim
            (λ (same : k ≡ conn).
            let e = subst (λ i. get_or (set counts conn (get_or counts conn 0 - m)) i 0 ≡ get_or counts i 0 - m) (sym same) (get_or-set_same counts conn (get_or counts conn 0 - m) 0 (let a = are.long in omega (arith, a, l))) in
            let d = are.each k low in let f = fewer k in let g = here k same in omega (arith, e, d, f, g))
            (λ other.
            let e = get_or-set_other counts conn k (get_or counts conn 0 - m) 0 other in
            let d = are.each k low in let f = fewer k in let g = elsewhere k other in omega (arith, e, d, f, g))
            (cases_eq k conn);
      }

  module _ (conn : ℕ) (none : tally (test conn) ys ≡ 0) (others : (k : ℕ) → k ≢ conn → tally (test k) ys ≡ tally (test k) xs) where
    pub counts_none : conn < length counts → AreCounts test ys n (set counts conn 0)
    counts_none l = record {
      long = length-set counts conn 0 ∙ are.long;
      each = λ k low. ⊎_elim
          (λ (same : k ≡ conn). subst (λ i. get_or (set counts conn 0) i 0 ≡ tally (test i) ys) (sym same) (get_or-set_same counts conn 0 0 l ∙ sym none))
          (λ other. get_or-set_other counts conn k 0 0 other ∙ are.each k low ∙ sym (others k other))
          (cases_eq k conn);
    }

    pub counts_beside : length counts ≤ conn → AreCounts test ys n counts
    counts_beside past = record {
      long = are.long;
      each = λ k low. are.each k low ∙ sym (others k (λ same. let a = are.long in omega (arith, a, low, past, same)));
    }

-- ---- all are of the session's connections

pub within_push : (n : ℕ) (xs : List Standing) (x : Standing) → AreWithin n xs → conn_of x < n → AreWithin n (xs ++ x ∷ [])
within_push n [] x all l = (l, tt)
within_push n (y ∷ ys) x all l = (all.0, within_push n ys x all.1 l)

pub within_append : (n : ℕ) (xs ys : List Standing) → AreWithin n xs → AreWithin n ys → AreWithin n (xs ++ ys)
within_append n [] ys a b = b
within_append n (x ∷ xs) ys a b = (a.0, within_append n xs ys a.1 b)

pub within_filter : (n : ℕ) (test : Standing → Bool) (xs : List Standing) → AreWithin n xs → AreWithin n (filter test xs)
within_filter n test [] all = tt
within_filter n test (x ∷ xs) all = ⊎_elim
    (λ on. subst (AreWithin n) (sym (ap (λ b. cond b (x ∷ filter test xs) (filter test xs)) on)) (all.0, within_filter n test xs all.1))
    (λ off. subst (AreWithin n) (sym (ap (λ b. cond b (x ∷ filter test xs) (filter test xs)) off)) (within_filter n test xs all.1))
    (cases_Bool (test x))

pub within_map : (n : ℕ) (f : Standing → Standing) → ((x : Standing) → conn_of (f x) ≡ conn_of x) → (xs : List Standing) → AreWithin n xs → AreWithin n (map f xs)
within_map n f same [] all = tt
within_map n f same (x ∷ xs) all = (subst (λ k. k < n) (sym (same x)) all.0, within_map n f same xs all.1)

-- none of another connection
pub past_none : (test : Standing → Bool) (n k : ℕ) → ((x : Standing) → test x ≡ true → conn_of x ≡ k) → n ≤ k → (xs : List Standing) → AreWithin n xs → tally test xs ≡ 0
past_none test n k of_it past [] all = refl
past_none test n k of_it past (x ∷ xs) all =
    let rest = past_none test n k of_it past xs all.1 in
    ⊎_elim
    (λ on. let a = of_it x on in let b = all.0 in absurd (omega (arith, a, b, past)))
    (λ off. let a = ap one_if off in omega (arith, a, rest))
    (cases_Bool (test x))

of_and : (b : Bool) (conn k : ℕ) → (b && (conn == k)) ≡ true → conn ≡ k
of_and true conn k on = eqb-true conn k on
of_and false conn k on = absurd (false≢true on)

pub under_way_of : (k : ℕ) (x : Standing) → is_under_way_on k x ≡ true → conn_of x ≡ k
under_way_of k (IsLeft c) on = of_and c.under_way c.conn k on
under_way_of k (IsUndue a) on = absurd (false≢true on)

pub going_out_of : (k : ℕ) (x : Standing) → goes_out_on k x ≡ true → conn_of x ≡ k
going_out_of k (IsLeft c) on = absurd (false≢true on)
going_out_of k (IsUndue a) on = eqb-true a.conn k on

-- what is counted of any connection
pub count_at : (test : ℕ → Standing → Bool) (xs : List Standing) (n : ℕ) (counts : List ℕ) → AreCounts test xs n counts → AreWithin n xs → ((k : ℕ) (x : Standing) → test k x ≡ true → conn_of x ≡ k) → (k : ℕ) → get_or counts k 0 ≡ tally (test k) xs
count_at test xs n counts are within of_it k = ⊎_elim
    (λ low. are.each k low)
    (λ high. get_or_past counts k 0 (let a = are.long in omega (arith, a, high)) ∙ sym (past_none (test k) n k (of_it k) (omega (arith, high)) xs within))
    (cases_lt k n)

pub any_tally : (test : Standing → Bool) (xs : List Standing) → list_any test xs ≡ nat_lt 0 (tally test xs)
any_tally test [] = refl
any_tally test (x ∷ xs) = ⊎_elim
    (λ on. ap (λ b. b || list_any test xs) on ∙ sym (lt-ltb 0 (tally test (x ∷ xs)) (let a = ap one_if on in omega (arith, a))))
    (λ off. ap (λ b. b || list_any test xs) off ∙ any_tally test xs ∙ ap (nat_lt 0) (let a = ap one_if off in omega (arith, a)))
    (cases_Bool (test x))

-- ---- one comes

pub comes : (test : Standing → Bool) (xs : List Standing) (x : Standing) → tally test (xs ++ x ∷ []) ≡ tally test xs + one_if (test x)
comes test xs x = let a = tally_append test xs (x ∷ []) in omega (arith, a)

-- ---- a command owes less

pub tally_filter : (test keep : Standing → Bool) → ((x : Standing) → test x ≡ true → keep x ≡ true) → (xs : List Standing) → tally test (filter keep xs) ≡ tally test xs
tally_filter test keep sure [] = refl
tally_filter test keep sure (x ∷ xs) =
    let rest = tally_filter test keep sure xs in
    ⊎_elim
    (λ on. let a = ap (λ b. tally test (cond b (x ∷ filter keep xs) (filter keep xs))) on in omega (arith, a, rest))
    (λ off.
    let a = ap (λ b. tally test (cond b (x ∷ filter keep xs) (filter keep xs))) off in
    ⊎_elim
    (λ yes. absurd (true≢false (sym (sure x yes) ∙ off)))
    (λ no. let d = ap one_if no in omega (arith, a, d, rest))
    (cases_Bool (test x)))
    (cases_Bool (keep x))

pub tally_map : (test : Standing → Bool) (f : Standing → Standing) → ((x : Standing) → test (f x) ≡ test x) → (xs : List Standing) → tally test (map f xs) ≡ tally test xs
tally_map test f same [] = refl
tally_map test f same (x ∷ xs) = let rest = tally_map test f same xs in let a = ap one_if (same x) in omega (arith, a, rest)

under_way_owes : (running under_way on : Bool) → (under_way && on) ≡ true → (running || under_way) ≡ true
under_way_owes running true on e = or_right running true refl
under_way_owes running false on e = absurd (false≢true e)

pub owes_still : (k : ℕ) (x : Standing) → is_under_way_on k x ≡ true → still_owes x ≡ true
owes_still k (IsLeft c) on = under_way_owes c.running c.under_way (c.conn == k) on
owes_still k (IsUndue a) on = refl

pub waits_still : (k : ℕ) (x : Standing) → goes_out_on k x ≡ true → still_owes x ≡ true
waits_still k (IsLeft c) on = absurd (false≢true on)
waits_still k (IsUndue a) on = refl

pub waits_as_before : (change : Left → Left) (place k : ℕ) (x : Standing) → goes_out_on k (with_left change place x) ≡ goes_out_on k x
waits_as_before change place k (IsLeft c) = ⊎_elim
    (λ on. ap (λ b. goes_out_on k (cond b (IsLeft (change c)) (IsLeft c))) on)
    (λ off. ap (λ b. goes_out_on k (cond b (IsLeft (change c)) (IsLeft c))) off)
    (cases_Bool (c.command == place))
waits_as_before change place k (IsUndue a) = refl

pub owes_as_before : (place k : ℕ) (x : Standing) → is_under_way_on k (with_left not_running place x) ≡ is_under_way_on k x
owes_as_before place k (IsLeft c) = ⊎_elim
    (λ on. ap (λ b. is_under_way_on k (cond b (IsLeft (not_running c)) (IsLeft c))) on)
    (λ off. ap (λ b. is_under_way_on k (cond b (IsLeft (not_running c)) (IsLeft c))) off)
    (cases_Bool (c.command == place))
owes_as_before place k (IsUndue a) = refl

pub conn_as_before : (change : Left → Left) → ((c : Left) → (change c).conn ≡ c.conn) → (place : ℕ) (x : Standing) → conn_of (with_left change place x) ≡ conn_of x
conn_as_before change same place (IsLeft c) = ⊎_elim
    (λ on. ap (λ b. conn_of (cond b (IsLeft (change c)) (IsLeft c))) on ∙ same c)
    (λ off. ap (λ b. conn_of (cond b (IsLeft (change c)) (IsLeft c))) off)
    (cases_Bool (c.command == place))
conn_as_before change same place (IsUndue a) = refl

none_changed : (change : Left → Left) (place : ℕ) (xs : List Standing) → list_any (is_command place) xs ≡ false → map (with_left change place) xs ≡ xs
none_changed change place [] none = refl
none_changed change place (IsLeft c ∷ xs) none =
    let parts = or_parts (c.command == place) (list_any (is_command place) xs) none in
    ap (λ b. cond b (IsLeft (change c)) (IsLeft c) ∷ map (with_left change place) xs) parts.0 ∙ ap (λ r. IsLeft c ∷ r) (none_changed change place xs parts.1)
none_changed change place (IsUndue a ∷ xs) none = ap (λ r. IsUndue a ∷ r) (none_changed change place xs none)

pub none_left : (place : ℕ) (xs : List Standing) → left_in place xs ≡ None → list_any (is_command place) xs ≡ false
none_left place [] none = refl
none_left place (IsLeft c ∷ xs) none = ⊎_elim
    (λ on. let e = sym (ap (λ b. cond b (Some c) (left_in place xs)) on) ∙ none in absurd (cc))
    (λ off. ap (λ b. b || list_any (is_command place) xs) off ∙ none_left place xs (sym (ap (λ b. cond b (Some c) (left_in place xs)) off) ∙ none))
    (cases_Bool (c.command == place))
none_left place (IsUndue a ∷ xs) none = none_left place xs none

pub is_no_command : (o : Option Left) → is_some o ≡ false → o ≡ None
is_no_command None none = refl
is_no_command (Some c) none = absurd (true≢false none)

some_left_same : (c d : Left) → Some c ≡ Some d → c ≡ d
some_left_same c d e = cc

pub found_within : (n place : ℕ) (xs : List Standing) (c : Left) → left_in place xs ≡ Some c → AreWithin n xs → c.conn < n
found_within n place [] c is all = absurd (cc)
found_within n place (IsLeft d ∷ xs) c is all = ⊎_elim
    (λ on. subst (λ (e : Left). e.conn < n) (some_left_same d c (sym (ap (λ b. cond b (Some d) (left_in place xs)) on) ∙ is)) all.0)
    (λ off. found_within n place xs c (sym (ap (λ b. cond b (Some d) (left_in place xs)) off) ∙ is) all.1)
    (cases_Bool (d.command == place))
found_within n place (IsUndue a ∷ xs) c is all = found_within n place xs c is all.1

-- nothing of it is under way any more
pub arrives : (n place k : ℕ) (xs : List Standing) (c : Left) → AreApart n xs → left_in place xs ≡ Some c
    → tally (is_under_way_on k) (map (with_left not_under_way place) xs) + one_if (c.under_way && (c.conn == k)) ≡ tally (is_under_way_on k) xs
arrives n place k [] c apart is = absurd (cc)
arrives n place k (IsLeft d ∷ xs) c apart is = ⊎_elim
    (λ on.
    let same : d ≡ c = some_left_same d c (sym (ap (λ b. cond b (Some d) (left_in place xs)) on) ∙ is) in
    let others = subst (λ m. list_any (is_command m) xs ≡ false) (eqb-true d.command place on) apart.0 in
    let a = ap (λ r. tally (is_under_way_on k) r) (none_changed not_under_way place xs others) in
    let b = ap (λ v. one_if (is_under_way_on k (cond v (IsLeft (not_under_way d)) (IsLeft d)))) on in
    let e = ap (λ (v : Left). one_if (v.under_way && (v.conn == k))) same in omega (arith, a, b, e))
    (λ off.
    let rest = arrives n place k xs c apart.1.1 (sym (ap (λ b. cond b (Some d) (left_in place xs)) off) ∙ is) in
    let b = ap (λ v. one_if (is_under_way_on k (cond v (IsLeft (not_under_way d)) (IsLeft d)))) off in omega (arith, b, rest))
    (cases_Bool (d.command == place))
arrives n place k (IsUndue a ∷ xs) c apart is = let rest = arrives n place k xs c apart is in omega (arith, rest)

pub arrives_none : (place k : ℕ) (xs : List Standing) → left_in place xs ≡ None → tally (is_under_way_on k) (map (with_left not_under_way place) xs) ≡ tally (is_under_way_on k) xs
arrives_none place k xs none = ap (tally (is_under_way_on k)) (none_changed not_under_way place xs (none_left place xs none))

-- each owes something
pub all_owe : (n : ℕ) (xs : List Standing) → AreApart n xs → filter still_owes xs ≡ xs
all_owe n [] apart = refl
all_owe n (IsLeft c ∷ xs) apart = ap (λ b. cond b (IsLeft c ∷ filter still_owes xs) (filter still_owes xs)) apart.1.0.1.1 ∙ ap (λ r. IsLeft c ∷ r) (all_owe n xs apart.1.1)
all_owe n (IsUndue a ∷ xs) apart = ap (λ r. IsUndue a ∷ r) (all_owe n xs apart)

-- so where there is no such command, nothing changes
pub none_less : (change : Left → Left) (n place : ℕ) (xs : List Standing) → AreApart n xs → left_in place xs ≡ None → filter still_owes (map (with_left change place) xs) ≡ xs
none_less change n place xs apart none = ap (filter still_owes) (none_changed change place xs (none_left place xs none)) ∙ all_owe n xs apart

-- ---- the first answer that is due goes

-- a command that comes behind all makes none due
pub left_none_due : (before xs : List Standing) (c : Left) → due_behind before (xs ++ IsLeft c ∷ []) ≡ due_behind before xs
left_none_due before [] c = refl
left_none_due before (IsLeft d ∷ xs) c = left_none_due (before ++ IsLeft d ∷ []) xs c
left_none_due before (IsUndue a ∷ xs) c = ap (λ r. cond (is_due before a) (Some a) r) (left_none_due (before ++ IsUndue a ∷ []) xs c)

some_answer_same : (a b : Undue) → Some a ≡ Some b → a ≡ b
some_answer_same a b e = cc

pub due_goes : (test : Standing → Bool) (before xs : List Standing) (a : Undue) → due_behind before xs ≡ Some a → tally test (others_behind before xs) + one_if (test (IsUndue a)) ≡ tally test (before ++ xs)
due_goes test before [] a due = absurd (cc)
due_goes test before (IsLeft c ∷ xs) a due =
    let rest = due_goes test (before ++ IsLeft c ∷ []) xs a due in let e = ap (tally test) (append_assoc before (IsLeft c ∷ []) xs) in omega (arith, rest, e)
due_goes test before (IsUndue b ∷ xs) a due = ⊎_elim
    (λ on.
    let same : b ≡ a = some_answer_same b a (sym (ap (λ v. cond v (Some b) (due_behind (before ++ IsUndue b ∷ []) xs)) on) ∙ due) in
    let e = ap (λ v. tally test (cond v (before ++ xs) (others_behind (before ++ IsUndue b ∷ []) xs))) on in
    let d = tally_append test before xs in let f = tally_append test before (IsUndue b ∷ xs) in
    let g = ap (λ v. one_if (test (IsUndue v))) same in omega (arith, e, d, f, g))
    (λ off.
    let rest = due_goes test (before ++ IsUndue b ∷ []) xs a (sym (ap (λ v. cond v (Some b) (due_behind (before ++ IsUndue b ∷ []) xs)) off) ∙ due) in
    let e = ap (λ v. tally test (cond v (before ++ xs) (others_behind (before ++ IsUndue b ∷ []) xs))) off in
    let d = ap (tally test) (append_assoc before (IsUndue b ∷ []) xs) in omega (arith, rest, e, d))
    (cases_Bool (is_due before b))

pub due_none : (before xs : List Standing) → due_behind before xs ≡ None → others_behind before xs ≡ before ++ xs
due_none before [] none = sym (append-nil before)
due_none before (IsLeft c ∷ xs) none = due_none (before ++ IsLeft c ∷ []) xs none ∙ append_assoc before (IsLeft c ∷ []) xs
due_none before (IsUndue b ∷ xs) none = ⊎_elim
    (λ on. let e = sym (ap (λ v. cond v (Some b) (due_behind (before ++ IsUndue b ∷ []) xs)) on) ∙ none in absurd (cc))
    (λ off.
    ap (λ v. cond v (before ++ xs) (others_behind (before ++ IsUndue b ∷ []) xs)) off
    ∙ due_none (before ++ IsUndue b ∷ []) xs (sym (ap (λ v. cond v (Some b) (due_behind (before ++ IsUndue b ∷ []) xs)) off) ∙ none)
    ∙ append_assoc before (IsUndue b ∷ []) xs)
    (cases_Bool (is_due before b))

pub due_within : (n : ℕ) (before xs : List Standing) (a : Undue) → due_behind before xs ≡ Some a → AreWithin n xs → a.conn < n
due_within n before [] a due all = absurd (cc)
due_within n before (IsLeft c ∷ xs) a due all = due_within n (before ++ IsLeft c ∷ []) xs a due all.1
due_within n before (IsUndue b ∷ xs) a due all = ⊎_elim
    (λ on. subst (λ (v : Undue). v.conn < n) (some_answer_same b a (sym (ap (λ v. cond v (Some b) (due_behind (before ++ IsUndue b ∷ []) xs)) on) ∙ due)) all.0)
    (λ off. due_within n (before ++ IsUndue b ∷ []) xs a (sym (ap (λ v. cond v (Some b) (due_behind (before ++ IsUndue b ∷ []) xs)) off) ∙ due) all.1)
    (cases_Bool (is_due before b))

pub others_within : (n : ℕ) (before xs : List Standing) → AreWithin n before → AreWithin n xs → AreWithin n (others_behind before xs)
others_within n before [] fore all = fore
others_within n before (IsLeft c ∷ xs) fore all = others_within n (before ++ IsLeft c ∷ []) xs (within_push n before (IsLeft c) fore all.0) all.1
others_within n before (IsUndue b ∷ xs) fore all = ⊎_elim
    (λ on. subst (AreWithin n) (sym (ap (λ v. cond v (before ++ xs) (others_behind (before ++ IsUndue b ∷ []) xs)) on)) (within_append n before xs fore all.1))
    (λ off. subst (AreWithin n) (sym (ap (λ v. cond v (before ++ xs) (others_behind (before ++ IsUndue b ∷ []) xs)) off)) (others_within n (before ++ IsUndue b ∷ []) xs (within_push n before (IsUndue b) fore all.0) all.1))
    (cases_Bool (is_due before b))

-- ---- the answers on a connection are dropped

pub none_dropped : (test : Standing → Bool) (xs : List Standing) → tally test (filter (λ s. not (test s)) xs) ≡ 0
none_dropped test [] = refl
none_dropped test (x ∷ xs) =
    let rest = none_dropped test xs in
    ⊎_elim
    (λ on. let a = ap (λ b. tally test (cond (not b) (x ∷ filter (λ s. not (test s)) xs) (filter (λ s. not (test s)) xs))) on in omega (arith, a, rest))
    (λ off.
    let a = ap (λ b. tally test (cond (not b) (x ∷ filter (λ s. not (test s)) xs) (filter (λ s. not (test s)) xs))) off in
    let d = ap one_if off in omega (arith, a, d, rest))
    (cases_Bool (test x))

pub under_way_stays : (conn k : ℕ) (x : Standing) → is_under_way_on k x ≡ true → not (goes_out_on conn x) ≡ true
under_way_stays conn k (IsLeft c) on = refl
under_way_stays conn k (IsUndue a) on = absurd (false≢true on)

pub others_stay : (conn k : ℕ) → k ≢ conn → (x : Standing) → goes_out_on k x ≡ true → not (goes_out_on conn x) ≡ true
others_stay conn k other (IsLeft c) on = refl
others_stay conn k other (IsUndue a) on = ap not (ne_eqb a.conn conn (λ e. other (sym (eqb-true a.conn k on) ∙ e)))

-- ---- one waits for other sessions no more

pub cleared_tally : (test : Standing → Bool) → ((a : Undue) → test (IsUndue (as_cleared a)) ≡ test (IsUndue a)) → (unit : ℕ) (xs : List Standing) → tally test (cleared_in unit xs) ≡ tally test xs
cleared_tally test same unit [] = refl
cleared_tally test same unit (IsLeft c ∷ xs) = let rest = cleared_tally test same unit xs in omega (arith, rest)
cleared_tally test same unit (IsUndue a ∷ xs) =
    let rest = cleared_tally test same unit xs in
    ⊎_elim
    (λ on. let e = ap (λ b. tally test (cond b (IsUndue (as_cleared a) ∷ xs) (IsUndue a ∷ cleared_in unit xs))) on in let d = ap one_if (same a) in omega (arith, e, d))
    (λ off. let e = ap (λ b. tally test (cond b (IsUndue (as_cleared a) ∷ xs) (IsUndue a ∷ cleared_in unit xs))) off in omega (arith, e, rest))
    (cases_Bool (waits_for_clear unit a))

pub cleared_within : (n unit : ℕ) (xs : List Standing) → AreWithin n xs → AreWithin n (cleared_in unit xs)
cleared_within n unit [] all = tt
cleared_within n unit (IsLeft c ∷ xs) all = (all.0, cleared_within n unit xs all.1)
cleared_within n unit (IsUndue a ∷ xs) all = ⊎_elim
    (λ on. subst (AreWithin n) (sym (ap (λ b. cond b (IsUndue (as_cleared a) ∷ xs) (IsUndue a ∷ cleared_in unit xs)) on)) all)
    (λ off. subst (AreWithin n) (sym (ap (λ b. cond b (IsUndue (as_cleared a) ∷ xs) (IsUndue a ∷ cleared_in unit xs)) off)) (all.0, cleared_within n unit xs all.1))
    (cases_Bool (waits_for_clear unit a))
