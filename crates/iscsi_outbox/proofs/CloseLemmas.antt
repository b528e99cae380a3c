-- Which connections an item closes.
use Rattle.std.proofs.Common.{◌≡◌, ◌<◌, ◌≤◌, ℕ, suc, ◌+◌, ◌==◌, ◌||◌, ◌∙◌, not, cond, Bool, true, false, List, [], ◌∷◌, ◌++◌, length, filter, drop, get_or, Option, Some, None, refl, sym, ap, arith, ⊎_elim, eq-eqb, ne_eqb, if◌then◌else◌, add-one}
use Rattle.std.specs.List.{list_any, position}
use Rattle.std.proofs.lemmas.Bool.{cases_eq, false≢true}
use Rattle.std.proofs.lemmas.List.{length-set}
use Rattle.std.proofs.lemmas.List.Elements.{filter-append}
use Rattle.std.proofs.lemmas.List.Folds.{list_any-append}
use Rattle.std.proofs.lemmas.List.Quantifiers.{position-Some}
use Rattle.std.proofs.Math.ListN.{drop_of_length-le}
use Rattle.std.proofs.Math.Seq.{drop-cons}
use Rattle.iscsi_wire.specs.declared.request.Request.{Request}
use Rattle.iscsi_wire.specs.Fields.{connection_of}
use Rattle.iscsi_rules.specs.declared.effect.Effect.{Effect}
use Rattle.iscsi_rules.specs.declared.effect.Effect.TheVariants.{Deliver, Immediate, Wait, Void, Empty, Enter, Enable, Leave, Send, CloseConn, CloseSession, Ignore}
use Rattle.iscsi_arrivals.specs.Counts.{Counts, new_counts}
use Rattle.iscsi_outbox_steps.specs.State.{Limits, State, link_at, place_of}
use Rattle.iscsi_outbox_steps.specs.Steps.{as_list, close, close_each, close_itself, close_one, close_other, closed_by, closed_in, counted_from, newly_closed}
use Rattle.iscsi_outbox.specs.private.Walks.{close_where, is_close}

-- ---- places

pub counted_has : (conn n : ℕ) (ls : List Counts) → n ≤ conn → conn < n + length ls → list_any (λ p. p == conn) (counted_from n ls) ≡ true
counted_has conn n [] low high = absurd (omega (arith, low, high))
counted_has conn n (l ∷ ls) low high = ⊎_elim
    (λ same. ap (λ b. b || list_any (λ p. p == conn) (counted_from (n + 1) ls)) (eq-eqb n conn same))
    (λ other. ap (λ b. b || list_any (λ p. p == conn) (counted_from (n + 1) ls)) (ne_eqb n conn other) ∙ counted_has conn (n + 1) ls (omega (arith, low, other)) (omega (arith, high)))
    (cases_eq n conn)

counted_same : (n : ℕ) (ls ms : List Counts) → length ls ≡ length ms → counted_from n ls ≡ counted_from n ms
counted_same n [] [] e = refl
counted_same n [] (m ∷ ms) e = absurd (omega (arith, e))
counted_same n (l ∷ ls) [] e = absurd (omega (arith, e))
counted_same n (l ∷ ls) (m ∷ ms) e = ap (λ r. n ∷ r) (counted_same (n + 1) ls ms (omega (arith, e)))

pub closed_same : (s t : State) (e : Effect) → s.limits ≡ t.limits → length s.links ≡ length t.links → closed_by s e ≡ closed_by t e
closed_same s t (CloseConn cid) limits links = ap (λ (o : Limits). as_list (position (λ (c : ℕ). c == cid) o.cids)) limits
closed_same s t CloseSession limits links = counted_same 0 s.links t.links links
closed_same s t (Deliver r) limits links = refl
closed_same s t (Immediate r) limits links = refl
closed_same s t (Wait r) limits links = refl
closed_same s t (Void sn) limits links = refl
closed_same s t (Empty sn) limits links = refl
closed_same s t (Enter ticket unit attr) limits links = refl
closed_same s t (Enable ticket unit) limits links = refl
closed_same s t (Leave ticket unit) limits links = refl
closed_same s t (Send conn stat_sn reply) limits links = refl
closed_same s t (Ignore why) limits links = refl

pub closed_all_same : (s t : State) (es : List Effect) → s.limits ≡ t.limits → length s.links ≡ length t.links → closed_in s es ≡ closed_in t es
closed_all_same s t [] limits links = refl
closed_all_same s t (e ∷ es) limits links = ap (λ r. r ++ closed_in s es) (closed_same s t e limits links) ∙ ap (λ r. closed_by t e ++ r) (closed_all_same s t es limits links)

-- ---- one of some

pub none_filtered : (conn : ℕ) (test : ℕ → Bool) (xs : List ℕ) → test conn ≡ false → list_any (λ p. p == conn) (filter test xs) ≡ false
none_filtered conn test [] out = refl
none_filtered conn test (x ∷ xs) out =
    let rest = none_filtered conn test xs out in
    elim (test x) as (λ b. test x ≡ b → list_any (λ p. p == conn) (cond b (x ∷ filter test xs) (filter test xs)) ≡ false) [
      | true ↦ λ is. ⊎_elim
          (λ same. absurd (false≢true (sym out ∙ ap test (sym same) ∙ is)))
          (λ other. ap (λ b. b || list_any (λ p. p == conn) (filter test xs)) (ne_eqb x conn other) ∙ rest)
          (cases_eq x conn)
      | false ↦ λ is. rest
    ] refl

pub same_filtered : (conn : ℕ) (test : ℕ → Bool) (xs : List ℕ) → test conn ≡ true → list_any (λ p. p == conn) (filter test xs) ≡ list_any (λ p. p == conn) xs
same_filtered conn test [] out = refl
same_filtered conn test (x ∷ xs) out =
    let rest = same_filtered conn test xs out in
    elim (test x) as (λ b. test x ≡ b → list_any (λ p. p == conn) (cond b (x ∷ filter test xs) (filter test xs)) ≡ ((x == conn) || list_any (λ p. p == conn) xs)) [
      | true ↦ λ is. ap (λ b. (x == conn) || b) rest
      | false ↦ λ is. ⊎_elim
          (λ same. absurd (false≢true (sym is ∙ ap test same ∙ out)))
          (λ other. rest ∙ sym (ap (λ b. b || list_any (λ p. p == conn) xs) (ne_eqb x conn other)))
          (cases_eq x conn)
    ] refl

-- ---- all are within

abbrev pub AllBelow : ℕ → List ℕ → Type 0
AllBelow n [] = Unit {0}
AllBelow n (x ∷ xs) = (x < n) × AllBelow n xs

below_append : (n : ℕ) (xs ys : List ℕ) → AllBelow n xs → AllBelow n ys → AllBelow n (xs ++ ys)
below_append n [] ys a b = b
below_append n (x ∷ xs) ys a b = (a.0, below_append n xs ys a.1 b)

counted_below : (n k : ℕ) (ls : List Counts) → k + length ls ≤ n → AllBelow n (counted_from k ls)
counted_below n k [] l = tt
counted_below n k (x ∷ ls) l = (omega (arith, l), counted_below n (k + 1) ls (omega (arith, l)))

found_below : (n : ℕ) (o : Option ℕ) → ((k : ℕ) → o ≡ Some k → k < n) → AllBelow n (as_list o)
found_below n None f = tt
found_below n (Some k) f = (f k refl, tt)

by_below : (s : State) (e : Effect) → length s.links ≡ length s.limits.cids → AllBelow (length s.limits.cids) (closed_by s e)
by_below s (CloseConn cid) same = found_below (length s.limits.cids) (place_of s cid) (λ k is. (position-Some (λ (c : ℕ). c == cid) s.limits.cids k 0 is).0)
by_below s CloseSession same = counted_below (length s.limits.cids) 0 s.links (omega (arith, same))
by_below s (Deliver r) same = tt
by_below s (Immediate r) same = tt
by_below s (Wait r) same = tt
by_below s (Void sn) same = tt
by_below s (Empty sn) same = tt
by_below s (Enter ticket unit attr) same = tt
by_below s (Enable ticket unit) same = tt
by_below s (Leave ticket unit) same = tt
by_below s (Send conn stat_sn reply) same = tt
by_below s (Ignore why) same = tt

closed_below : (s : State) (es : List Effect) → length s.links ≡ length s.limits.cids → AllBelow (length s.limits.cids) (closed_in s es)
closed_below s [] same = tt
closed_below s (e ∷ es) same = below_append (length s.limits.cids) (closed_by s e) (closed_in s es) (by_below s e same) (closed_below s es same)

filter_below : (f g : ℕ → Bool) (n : ℕ) (xs : List ℕ) → ((k : ℕ) → k < n → f k ≡ g k) → AllBelow n xs → filter f xs ≡ filter g xs
filter_below f g n [] same a = refl
filter_below f g n (x ∷ xs) same a =
    ap (λ b. cond b (x ∷ filter f xs) (filter f xs)) (same x a.0) ∙ ap (λ r. cond (g x) (x ∷ r) r) (filter_below f g n xs same a.1)

-- ---- closing one after the other

each_append : (by : ℕ) (xs ys : List ℕ) (s : State) → close_each by (xs ++ ys) s ≡ close_each by ys (close_each by xs s)
each_append by [] ys s = refl
each_append by (x ∷ xs) ys s = each_append by xs ys (close_one by x s)

pub where_append : (by : ℕ) (before : List Bool) (xs ys : List ℕ) (s : State) → close_where by before (xs ++ ys) s ≡ close_where by before ys (close_where by before xs s)
where_append by before xs ys s =
    let open_before = λ (conn : ℕ). not (get_or before conn false) in
    ap (λ r. close_each by r s) (filter-append open_before xs ys) ∙ each_append by (filter open_before xs) (filter open_before ys) s

one_limits : (by conn : ℕ) (s : State) → (close_one by conn s).limits ≡ s.limits
one_limits by conn s = elim (conn == by) as (λ b. (if b then close_itself conn s else close_other conn s).limits ≡ s.limits) [ true ↦ refl | false ↦ refl ]

one_links : (by conn : ℕ) (s : State) → length (close_one by conn s).links ≡ length s.links
one_links by conn s = elim (conn == by) as (λ b. length (if b then close_itself conn s else close_other conn s).links ≡ length s.links) [
  | true ↦ length-set s.links conn (record (link_at s conn) { closed = true })
  | false ↦ length-set s.links conn (record (link_at s conn) { closed = true; cut = true })
]

pub each_limits : (by : ℕ) (xs : List ℕ) (s : State) → (close_each by xs s).limits ≡ s.limits
each_limits by [] s = refl
each_limits by (x ∷ xs) s = each_limits by xs (close_one by x s) ∙ one_limits by x s

each_links : (by : ℕ) (xs : List ℕ) (s : State) → length (close_each by xs s).links ≡ length s.links
each_links by [] s = refl
each_links by (x ∷ xs) s = each_links by xs (close_one by x s) ∙ one_links by x s

pub where_limits : (by : ℕ) (before : List Bool) (xs : List ℕ) (s : State) → (close_where by before xs s).limits ≡ s.limits
where_limits by before xs s = each_limits by (filter (λ (conn : ℕ). not (get_or before conn false)) xs) s

pub where_links : (by : ℕ) (before : List Bool) (xs : List ℕ) (s : State) → length (close_where by before xs s).links ≡ length s.links
where_links by before xs s = each_links by (filter (λ (conn : ℕ). not (get_or before conn false)) xs) s

-- ---- all of an item

no_close : (s : State) (e : Effect) → is_close e ≡ false → closed_by s e ≡ []
no_close s (CloseConn cid) none = cc
no_close s CloseSession none = cc
no_close s (Deliver r) none = refl
no_close s (Immediate r) none = refl
no_close s (Wait r) none = refl
no_close s (Void sn) none = refl
no_close s (Empty sn) none = refl
no_close s (Enter ticket unit attr) none = refl
no_close s (Enable ticket unit) none = refl
no_close s (Leave ticket unit) none = refl
no_close s (Send conn stat_sn reply) none = refl
no_close s (Ignore why) none = refl

neither : (a b : Bool) → (a || b) ≡ false → (a ≡ false) × (b ≡ false)
neither true b e = cc
neither false b e = (refl, e)

none_closed : (s : State) (es : List Effect) → list_any is_close es ≡ false → closed_in s es ≡ []
none_closed s [] none = refl
none_closed s (e ∷ es) none =
    let both = neither (is_close e) (list_any is_close es) none in
    ap (λ r. r ++ closed_in s es) (no_close s e both.0) ∙ none_closed s es both.1

pub close_nothing : (r : Option Request) (s : State) → close r [] s ≡ s
close_nothing None s = refl
close_nothing (Some r) s = elim (place_of s (connection_of r)) as (λ (o : Option ℕ). elim o as (λ (q : Option ℕ). State) [ Some by ↦ s | None ↦ s ] ≡ s) [ Some by ↦ refl | None ↦ refl ]

pub closes_nothing : (r : Option Request) (s : State) (es : List Effect) → list_any is_close es ≡ false → close r (newly_closed s (closed_in s es)) s ≡ s
closes_nothing r s es none = ap (λ conns. close r (newly_closed s conns) s) (none_closed s es none) ∙ close_nothing r s

pub close_at : (r : Request) (by : ℕ) (conns : List ℕ) (s : State) → place_of s (connection_of r) ≡ Some by → close (Some r) conns s ≡ close_each by conns s
close_at r by conns s at = ap (λ (o : Option ℕ). elim o as (λ (q : Option ℕ). State) [ Some n ↦ close_each n conns s | None ↦ s ]) at

pub close_nowhere : (r : Request) (conns : List ℕ) (s : State) → place_of s (connection_of r) ≡ None → close (Some r) conns s ≡ s
close_nowhere r conns s at = ap (λ (o : Option ℕ). elim o as (λ (q : Option ℕ). State) [ Some n ↦ close_each n conns s | None ↦ s ]) at

-- what was closed before is told by a list
pub newly_where : (s : State) (es : List Effect) (before : List Bool) (by : ℕ) → length s.links ≡ length s.limits.cids → ((k : ℕ) → k < length s.limits.cids → get_or before k false ≡ (link_at s k).closed)
    → close_where by before (closed_in s es) s ≡ close_each by (newly_closed s (closed_in s es)) s
newly_where s es before by same told =
    ap (λ conns. close_each by conns s) (filter_below (λ (conn : ℕ). not (get_or before conn false)) (λ (conn : ℕ). not (link_at s conn).closed) (length s.limits.cids) (closed_in s es) (λ k l. ap not (told k l)) (closed_below s es same))

-- ---- a walk over the effects

any_or : (a b : Bool) → a ≡ true → (a || b) ≡ true
any_or true b e = refl
any_or false b e = cc

-- an effect closes the connection, so those from it on do
pub closed_here : (conn i : ℕ) (s : State) (es : List Effect) (d : Effect) → i < length es → list_any (λ p. p == conn) (closed_by s (get_or es i d)) ≡ true → list_any (λ p. p == conn) (closed_in s (drop i es)) ≡ true
closed_here conn i s es d l is =
    let e = get_or es i d in
    ap (λ xs. list_any (λ p. p == conn) (closed_in s xs)) (drop-cons es i d l)
    ∙ list_any-append (λ (p : ℕ). p == conn) (closed_by s e) (closed_in s (drop (suc i) es))
    ∙ any_or (list_any (λ p. p == conn) (closed_by s e)) (list_any (λ p. p == conn) (closed_in s (drop (suc i) es))) is

pub closed_past : (conn i : ℕ) (s : State) (es : List Effect) → length es ≤ i → list_any (λ p. p == conn) (closed_in s (drop i es)) ≡ false
closed_past conn i s es l = ap (λ xs. list_any (λ p. p == conn) (closed_in s xs)) (drop_of_length-le es l)

-- one more effect is walked over, in a state of the same connections
pub where_step : (by i : ℕ) (before : List Bool) (first now new : State) (es : List Effect) (d : Effect) → i < length es
    → first.limits ≡ now.limits → length first.links ≡ length now.links
    → new ≡ close_where by before (closed_by now (get_or es i d)) now
    → close_where by before (closed_in first (drop (i + 1) es)) new ≡ close_where by before (closed_in first (drop i es)) now
where_step by i before first now new es d l limits links is =
    let e = get_or es i d in
    ap (λ s. close_where by before (closed_in first (drop (i + 1) es)) s) (is ∙ ap (λ xs. close_where by before xs now) (sym (closed_same first now e limits links)))
    ∙ ap (λ n. close_where by before (closed_in first (drop n es)) (close_where by before (closed_by first e) now)) (add-one i)
    ∙ sym (where_append by before (closed_by first e) (closed_in first (drop (suc i) es)) now)
    ∙ sym (ap (λ xs. close_where by before (closed_in first xs) now) (drop-cons es i d l))

-- one more connection is walked over
pub all_step : (by i : ℕ) (before : List Bool) (now new : State) (ls : List Counts) → i < length ls → new ≡ close_where by before (i ∷ []) now
    → close_where by before (counted_from (i + 1) (drop (i + 1) ls)) new ≡ close_where by before (counted_from i (drop i ls)) now
all_step by i before now new ls l is =
    ap (λ s. close_where by before (counted_from (i + 1) (drop (i + 1) ls)) s) is
    ∙ ap (λ n. close_where by before (counted_from (i + 1) (drop n ls)) (close_where by before (i ∷ []) now)) (add-one i)
    ∙ sym (where_append by before (i ∷ []) (counted_from (i + 1) (drop (suc i) ls)) now)
    ∙ sym (ap (λ xs. close_where by before (counted_from i xs) now) (drop-cons ls i new_counts l))
