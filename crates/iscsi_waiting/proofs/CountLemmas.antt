-- How many of each kind wait, as one comes and as one goes.
use Rattle.std.proofs.Common.{◌≡◌, ℕ, ◌+◌, ◌-◌, ◌<◌, ◌≤◌, ◌^◌, cond, Bool, not, List, [], ◌∷◌, ◌++◌, length, map, get_or, set, count_by, refl, ap, sym, subst, ◌∙◌, arith, ⊎_elim}
use Rattle.std.proofs.lemmas.Bool.{cases_eq}
use Rattle.std.proofs.lemmas.List.{get_or-map, length-map, map-set}
use Rattle.std.proofs.lemmas.List.Sums.{count_by-le-length, get_or-le-sum_by, sum_by-cons, sum_by-set, sum_by_push}
use Rattle.iscsi_slots.specs.Slots.{times}
use Rattle.iscsi_lists.specs.Lists.{total, without}
use Rattle.iscsi_lists.proofs.WithoutLemmas.{times_same, times_other, without_none, without_same, without_other}
use Rattle.iscsi_outbox_state.specs.declared.waiting.Content.TheVariants.{Reply, Own}
use Rattle.iscsi_outbox_state.specs.declared.waiting.Waiting.{Waiting}
use Rattle.iscsi_outbox_state.specs.Waits.{Entry, entry, is_any, is_fenced, is_numbered, is_own, is_reply, is_taking}
use Rattle.iscsi_waiting.specs.Counting.{HasOne, HasPlace, counts, counts_in, counts_of, is_own_item, total_by, with_one, without_one}
use Rattle.iscsi_waiting.specs.declared.counts.Counts.{Counts}
use Rattle.iscsi_waiting.proofs.ShownLemmas.{shown}

-- what isn't the target's own is a reply
pub reply_not_own : (w : Waiting) → is_reply (entry 0 w) ≡ not (is_own_item w)
reply_not_own w = elim (w.content) as (λ c. is_reply (entry 0 (record w { content = c })) ≡ not (is_own_item (record w { content = c }))) [ Reply r ↦ refl | Own o ↦ refl ]

pub counts_same : (a b : Counts) → a.own ≡ b.own → a.replies ≡ b.replies → a.taking ≡ b.taking → a.fenced ≡ b.fenced → a.numbered ≡ b.numbered → a ≡ b
counts_same a b own replies taking fenced numbered =
    ap (λ n. counts n a.replies a.taking a.fenced a.numbered) own ∙ ap (λ n. counts b.own n a.taking a.fenced a.numbered) replies
    ∙ ap (λ n. counts b.own b.replies n a.fenced a.numbered) taking ∙ ap (λ n. counts b.own b.replies b.taking n a.numbered) fenced
    ∙ ap (λ n. counts b.own b.replies b.taking b.fenced n) numbered

abbrev one_where : Bool → ℕ
one_where b = cond b 1 0

module _ (test : Entry → Bool) where
  pub count_push : (q : List Entry) (e : Entry) → count_by test (q ++ e ∷ []) ≡ count_by test q + cond (test e) 1 0
  count_push q e = sum_by_push (λ (x : Entry). cond (test x) 1 0) q e

  pub count_cons : (e : Entry) (q : List Entry) → count_by test (e ∷ q) ≡ cond (test e) 1 0 + count_by test q
  count_cons e q = sum_by-cons (λ (x : Entry). cond (test x) 1 0) e q

  -- one queue changes
  pub total_set : (qs : List (List Entry)) (conn : ℕ) (q : List Entry) → conn < length qs → total_by test (set qs conn q) + count_by test (get_or qs conn []) ≡ total_by test qs + count_by test q
  total_set qs conn q l = sum_by-set (λ (x : List Entry). count_by test x) qs conn q [] l

  pub count_within : (qs : List (List Entry)) (conn : ℕ) → conn < length qs → count_by test (get_or qs conn []) ≤ total_by test qs
  count_within qs conn l = get_or-le-sum_by (λ (x : List Entry). count_by test x) qs conn [] l

  module _ (g : ℕ → Entry) where
    -- a slot that stands there once goes
    pub count_out : (slot : ℕ) (slots : List ℕ) → times slot slots ≡ 1 → count_by test (map g (without slot slots)) + cond (test (g slot)) 1 0 ≡ count_by test (map g slots)
    count_out slot [] one = absurd (omega (arith, one))
    count_out slot (s ∷ slots) one = ⊎_elim
        (λ (same : s ≡ slot).
        let a = times_same slot s slots same in
        let b = ap (λ (xs : List ℕ). count_by test (map g xs)) (without_same slot s slots same ∙ without_none slot slots (omega (arith, a, one))) in
        let c = count_cons (g s) (map g slots) in
        let d = ap (λ n. one_where (test (g n))) same in omega (arith, b, c, d))
        (λ other.
        let a = times_other slot s slots other in
        let b = ap (λ (xs : List ℕ). count_by test (map g xs)) (without_other slot s slots other) in
        let c = count_cons (g s) (map g (without slot slots)) in
        let d = count_cons (g s) (map g slots) in
        let f = count_out slot slots (omega (arith, a, one)) in omega (arith, b, c, d, f))
        (cases_eq s slot)

    -- no more than there are slots
    pub total_within : (lists : List (List ℕ)) → total_by test (shown g lists) ≤ total lists
    total_within [] = omega arith
    total_within (xs ∷ lists) =
        let a = sum_by-cons (λ (x : List Entry). count_by test x) (map g xs) (shown g lists) in
        let b = count_by-le-length test (map g xs) in let c = length-map xs g in let d = total_within lists in omega (arith, a, b, c, d)

-- just as many as there are slots
count_all : (q : List Entry) → count_by is_any q ≡ length q
count_all [] = refl
count_all (e ∷ q) = let a = count_cons is_any e q in let b = count_all q in omega (arith, a, b)

pub total_all : (g : ℕ → Entry) (lists : List (List ℕ)) → total_by is_any (shown g lists) ≡ total lists
total_all g [] = refl
total_all g (xs ∷ lists) =
    let a = sum_by-cons (λ (x : List Entry). count_by is_any x) (map g xs) (shown g lists) in
    let b = count_all (map g xs) in let c = length-map xs g in let d = total_all g lists in omega (arith, a, b, c, d)

-- what a connection has counted
pub counted_at : (cs : List Counts) (qs : List (List Entry)) (conn : ℕ) (d : Counts) → cs ≡ map counts_of qs → conn < length qs → get_or cs conn d ≡ counts_of (get_or qs conn [])
counted_at cs qs conn d are l = ap (λ (xs : List Counts). get_or xs conn d) are ∙ get_or-map counts_of qs conn [] d l

-- ---- one comes

module _ (qs : List (List Entry)) (conn : ℕ) (time : ℕ) (item : Waiting) (l : conn < length qs) where
  abbrev longer : List Entry
  longer = get_or qs conn [] ++ entry time item ∷ []

  counts_longer : counts_of longer ≡ with_one item (counts_of (get_or qs conn []))
  counts_longer =
      let q = get_or qs conn [] in let e = entry time item in
      counts_same (counts_of longer) (with_one item (counts_of q)) (count_push is_own q e) (count_push is_reply q e) (count_push is_taking q e) (count_push is_fenced q e) (count_push is_numbered q e)

  pub conns_more : (cs : List Counts) (each : Counts) → cs ≡ map counts_of qs → each ≡ with_one item (counts_of (get_or qs conn [])) → set cs conn each ≡ map counts_of (set qs conn longer)
  conns_more cs each are is =
      ap (λ (xs : List Counts). set xs conn each) are ∙ ap (λ (c : Counts). set (map counts_of qs) conn c) (is ∙ sym counts_longer)
      ∙ sym (map-set counts_of qs conn longer)

  more_of : (test : Entry → Bool) → total_by test (set qs conn longer) ≡ total_by test qs + cond (test (entry time item)) 1 0
  more_of test = let a = total_set test qs conn longer l in let b = count_push test (get_or qs conn []) (entry time item) in omega (arith, a, b)

  pub total_more : (all : Counts) (more : Counts) → all ≡ counts_in qs → more ≡ with_one item all → more ≡ counts_in (set qs conn longer)
  total_more all more are is =
      is ∙ ap (with_one item) are
      ∙ sym (counts_same (counts_in (set qs conn longer)) (with_one item (counts_in qs)) (more_of is_own) (more_of is_reply) (more_of is_taking) (more_of is_fenced) (more_of is_numbered))

-- there is place for it
module _ (g : ℕ → Entry) (lists : List (List ℕ)) (few : total lists < 4294967296) where
  place_in : (test : Entry → Bool) → total_by test (shown g lists) + 1 < 2 ^ 64
  place_in test = let a = total_within test g lists in omega (arith, a, few)

  place_at : (test : Entry → Bool) (conn : ℕ) → conn < length (shown g lists) → count_by test (get_or (shown g lists) conn []) + 1 < 2 ^ 64
  place_at test conn l = let a = place_in test in let b = count_within test (shown g lists) conn l in omega (arith, a, b)

  pub all_place : (all : Counts) → all ≡ counts_in (shown g lists) → HasPlace all
  all_place all are = subst HasPlace (sym are)
      (record { own = place_in is_own; replies = place_in is_reply; taking = place_in is_taking; fenced = place_in is_fenced; numbered = place_in is_numbered })

  pub conn_place : (each : Counts) (conn : ℕ) → conn < length (shown g lists) → each ≡ counts_of (get_or (shown g lists) conn []) → HasPlace each
  conn_place each conn l is = subst HasPlace (sym is)
      (record { own = place_at is_own conn l; replies = place_at is_reply conn l; taking = place_at is_taking conn l; fenced = place_at is_fenced conn l; numbered = place_at is_numbered conn l })

-- ---- one goes

module _ (g : ℕ → Entry) (lists : List (List ℕ)) (conn slot : ℕ) (l : conn < length (shown g lists)) (slots : List ℕ) (queue_is : get_or (shown g lists) conn [] ≡ map g slots) (once : times slot slots ≡ 1)
    (time : ℕ) (item : Waiting) (is : g slot ≡ entry time item) where
  abbrev shorter : List Entry
  shorter = map g (without slot slots)

  fewer_at : (test : Entry → Bool) → count_by test shorter + cond (test (entry time item)) 1 0 ≡ count_by test (get_or (shown g lists) conn [])
  fewer_at test = ap (λ (e : Entry). count_by test shorter + cond (test e) 1 0) (sym is) ∙ count_out test g slot slots once ∙ ap (count_by test) (sym queue_is)

  less_at : (test : Entry → Bool) → count_by test shorter ≡ count_by test (get_or (shown g lists) conn []) - cond (test (entry time item)) 1 0
  less_at test = let a = fewer_at test in omega (arith, a)

  some_at : (test : Entry → Bool) → cond (test (entry time item)) 1 0 ≤ count_by test (get_or (shown g lists) conn [])
  some_at test = let a = fewer_at test in omega (arith, a)

  some_in : (test : Entry → Bool) → cond (test (entry time item)) 1 0 ≤ total_by test (shown g lists)
  some_in test = let a = some_at test in let b = count_within test (shown g lists) conn l in omega (arith, a, b)

  less_in : (test : Entry → Bool) → total_by test (set (shown g lists) conn shorter) ≡ total_by test (shown g lists) - cond (test (entry time item)) 1 0
  less_in test = let a = total_set test (shown g lists) conn shorter l in let b = fewer_at test in omega (arith, a, b)

  pub conn_one : (each : Counts) → each ≡ counts_of (get_or (shown g lists) conn []) → HasOne item each
  conn_one each are = subst (HasOne item) (sym are)
      (record { own = some_at is_own; replies = some_at is_reply; taking = some_at is_taking; fenced = some_at is_fenced; numbered = some_at is_numbered })

  pub all_one : (all : Counts) → all ≡ counts_in (shown g lists) → HasOne item all
  all_one all are = subst (HasOne item) (sym are)
      (record { own = some_in is_own; replies = some_in is_reply; taking = some_in is_taking; fenced = some_in is_fenced; numbered = some_in is_numbered })

  pub conns_fewer : (cs : List Counts) (each : Counts) → cs ≡ map counts_of (shown g lists) → each ≡ without_one item (counts_of (get_or (shown g lists) conn [])) → set cs conn each ≡ map counts_of (set (shown g lists) conn shorter)
  conns_fewer cs each are is_less =
      ap (λ (xs : List Counts). set xs conn each) are
      ∙ ap (λ (c : Counts). set (map counts_of (shown g lists)) conn c)
      (is_less ∙ sym (counts_same (counts_of shorter) (without_one item (counts_of (get_or (shown g lists) conn []))) (less_at is_own) (less_at is_reply) (less_at is_taking) (less_at is_fenced) (less_at is_numbered)))
      ∙ sym (map-set counts_of (shown g lists) conn shorter)

  pub total_fewer : (all fewer : Counts) → all ≡ counts_in (shown g lists) → fewer ≡ without_one item all → fewer ≡ counts_in (set (shown g lists) conn shorter)
  total_fewer all fewer are is_less =
      is_less ∙ ap (without_one item) are
      ∙ sym (counts_same (counts_in (set (shown g lists) conn shorter)) (without_one item (counts_in (shown g lists))) (less_in is_own) (less_in is_reply) (less_in is_taking) (less_in is_fenced) (less_in is_numbered))

-- ---- what a slot has is of no command any more

count_alike : (test : Entry → Bool) (g h : ℕ → Entry) → ((s : ℕ) → test (h s) ≡ test (g s)) → (slots : List ℕ) → count_by test (map h slots) ≡ count_by test (map g slots)
count_alike test g h same [] = refl
count_alike test g h same (s ∷ slots) =
    let a = count_cons test (h s) (map h slots) in let b = count_cons test (g s) (map g slots) in
    let c = ap one_where (same s) in let d = count_alike test g h same slots in omega (arith, a, b, c, d)

total_alike : (test : Entry → Bool) (g h : ℕ → Entry) → ((s : ℕ) → test (h s) ≡ test (g s)) → (lists : List (List ℕ)) → total_by test (shown h lists) ≡ total_by test (shown g lists)
total_alike test g h same [] = refl
total_alike test g h same (xs ∷ lists) =
    let a = sum_by-cons (λ (x : List Entry). count_by test x) (map h xs) (shown h lists) in
    let b = sum_by-cons (λ (x : List Entry). count_by test x) (map g xs) (shown g lists) in
    let c = count_alike test g h same xs in let d = total_alike test g h same lists in omega (arith, a, b, c, d)

-- all tests that are counted give the same
pub record CountsAlike (g h : ℕ → Entry) : Type 0 where
  pub own : (s : ℕ) → is_own (h s) ≡ is_own (g s)
  pub replies : (s : ℕ) → is_reply (h s) ≡ is_reply (g s)
  pub taking : (s : ℕ) → is_taking (h s) ≡ is_taking (g s)
  pub fenced : (s : ℕ) → is_fenced (h s) ≡ is_fenced (g s)
  pub numbered : (s : ℕ) → is_numbered (h s) ≡ is_numbered (g s)

module _ (g h : ℕ → Entry) (same : CountsAlike g h) where
  conn_alike : (slots : List ℕ) → counts_of (map h slots) ≡ counts_of (map g slots)
  conn_alike slots = counts_same (counts_of (map h slots)) (counts_of (map g slots)) (count_alike is_own g h same.own slots) (count_alike is_reply g h same.replies slots)
      (count_alike is_taking g h same.taking slots) (count_alike is_fenced g h same.fenced slots) (count_alike is_numbered g h same.numbered slots)

  pub conns_alike : (lists : List (List ℕ)) → map counts_of (shown h lists) ≡ map counts_of (shown g lists)
  conns_alike [] = refl
  conns_alike (xs ∷ lists) =
      ap (λ (c : Counts). c ∷ map counts_of (shown h lists)) (conn_alike xs) ∙ ap (λ (cs : List Counts). counts_of (map g xs) ∷ cs) (conns_alike lists)

  pub totals_alike : (lists : List (List ℕ)) → counts_in (shown h lists) ≡ counts_in (shown g lists)
  totals_alike lists = counts_same (counts_in (shown h lists)) (counts_in (shown g lists)) (total_alike is_own g h same.own lists) (total_alike is_reply g h same.replies lists)
      (total_alike is_taking g h same.taking lists) (total_alike is_fenced g h same.fenced lists) (total_alike is_numbered g h same.numbered lists)
