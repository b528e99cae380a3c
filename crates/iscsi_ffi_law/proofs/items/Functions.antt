-- Functions that wait: what is kept of them as one more waits, and as one has waited and executes.
use Rattle.std.proofs.Common.{◌≡◌, ℕ, ◌+◌, ◌<◌, ◌≤◌, ◌==◌, ◌&&◌, ◌||◌, ⊎_elim, not, cond, Bool, true, false, List, [], ◌∷◌, length, count_by, filter, find, get_or, Some, option_map, refl, ap, sym, subst, ◌∙◌, arith, ne_eqb, eq-eqb, length-set}
use Rattle.std.specs.List.{list_any}
use Rattle.std.proofs.lemmas.Bool.{cases_eq, eqb-true, false≢true}
use Rattle.std.proofs.lemmas.List.{get_or-set_other, get_or-set_same}
use Rattle.iscsi_wire.specs.Fields.{cmd_sn, connection_of}
use Rattle.iscsi_rules.specs.rules.Trace.{Arrival}
use Rattle.iscsi_rules.proofs.general.CountLemmas.{one, count-cons}
use Rattle.iscsi_rules.proofs.general.ElementLemmas.{In, in-filter}
use Rattle.iscsi_outbox_law.specs.private.Pairs.{PairsOf}
use Rattle.iscsi_requests.specs.Conns.{of_conn}
use Rattle.iscsi_requests.specs.Functions.{WaitingFunctions, find_number, has_number, taken, without_number}
use Rattle.iscsi_requests.specs.declared.functions.WaitingFunction.{WaitingFunction}
use Rattle.iscsi_ffi_law.specs.Names.{Name, Note}
use Rattle.iscsi_ffi_law.specs.Parts.{AreFunctions, IsFunctionAt}
use Rattle.iscsi_ffi_law.specs.Uses.{count_lists}
use Rattle.iscsi_ffi_law.proofs.requests.Kept.{filter_all}
use Rattle.iscsi_ffi_law.proofs.general.Lists.{lists_set}
use Rattle.iscsi_ffi_law.proofs.general.Members.{find_in, in_counted, two_counted}

-- ---- lists

-- found among those that pass
find_both : (p q : Arrival → Bool) (ws : List Arrival) (a : Arrival) → find (λ (b : Arrival). p b && q b) ws ≡ Some a → find q (filter p ws) ≡ Some a
find_both p q [] a is = absurd (let no : ⊥ = cc in no)
find_both p q (b ∷ ws) a is = by_tests (find_both p q ws a) (p b) (q b) refl is
  where
    by_tests : (find (λ (c : Arrival). p c && q c) ws ≡ Some a → find q (filter p ws) ≡ Some a) → (v w : Bool) → q b ≡ w → cond (v && w) (Some b) (find (λ (c : Arrival). p c && q c) ws) ≡ Some a → find q (cond v (b ∷ filter p ws) (filter p ws)) ≡ Some a
    by_tests later true true k h = ap (λ u. cond u (Some b) (find q (filter p ws))) k ∙ h
    by_tests later true false k h = ap (λ u. cond u (Some b) (find q (filter p ws))) k ∙ later h
    by_tests later false true k h = later h
    by_tests later false false k h = later h

module _ (names : List Name) (a : Arrival) where
  abbrev n : ℕ
  n = cmd_sn a.request

  -- what is found by both
  pub record FoundBoth (fs : List WaitingFunction) : Type 0 where
    pub f : WaitingFunction
    pub found : find (has_number n) fs ≡ Some f
    pub is : IsFunctionAt names f a

  pub found_both : (fs : List WaitingFunction) (ws : List Arrival) → PairsOf (IsFunctionAt names) fs ws → find (λ (b : Arrival). cmd_sn b.request == n) ws ≡ Some a → FoundBoth fs
  found_both [] [] pairs is = absurd (let no : ⊥ = cc in no)
  found_both [] (b ∷ ws) pairs is = absurd pairs
  found_both (f ∷ fs) [] pairs is = absurd pairs
  found_both (f ∷ fs) (b ∷ ws) pairs is = by_test (found_both fs ws pairs.1) (cmd_sn b.request == n) refl is
    where
      by_test : (find (λ (c : Arrival). cmd_sn c.request == n) ws ≡ Some a → FoundBoth fs) → (v : Bool) → (cmd_sn b.request == n) ≡ v → cond v (Some b) (find (λ (c : Arrival). cmd_sn c.request == n) ws) ≡ Some a → FoundBoth (f ∷ fs)
      by_test later true k h =
          let same : b ≡ a = cc in
          record { f = f; found = ap (λ v. cond v (Some f) (find (has_number n) fs)) (ap (λ m. m == n) pairs.0.number ∙ k); is = subst (IsFunctionAt names f) same pairs.0 }
      by_test later false k h =
          let r : FoundBoth fs = later h in
          record { f = r.f; found = ap (λ v. cond v (Some f) (find (has_number n) fs)) (ap (λ m. m == n) pairs.0.number ∙ k) ∙ r.found; is = r.is }

  -- without it, by both
  pub without_both : (fs : List WaitingFunction) (ws : List Arrival) → PairsOf (IsFunctionAt names) fs ws → find (λ (b : Arrival). cmd_sn b.request == n) ws ≡ Some a → count_by (λ (b : Arrival). b.event == a.event) ws ≤ 1
      → PairsOf (IsFunctionAt names) (without_number n fs) (filter (λ (b : Arrival). not (b.event == a.event)) ws)
  without_both [] [] pairs is few = absurd (let no : ⊥ = cc in no)
  without_both [] (b ∷ ws) pairs is few = absurd pairs
  without_both (f ∷ fs) [] pairs is few = absurd pairs
  without_both (f ∷ fs) (b ∷ ws) pairs is few = by_test (without_both fs ws pairs.1) (cmd_sn b.request == n) refl is
    where
      by_test : (find (λ (c : Arrival). cmd_sn c.request == n) ws ≡ Some a → count_by (λ (c : Arrival). c.event == a.event) ws ≤ 1 → PairsOf (IsFunctionAt names) (without_number n fs) (filter (λ (c : Arrival). not (c.event == a.event)) ws)) → (v : Bool) → (cmd_sn b.request == n) ≡ v
          → cond v (Some b) (find (λ (c : Arrival). cmd_sn c.request == n) ws) ≡ Some a
          → PairsOf (IsFunctionAt names) (cond (has_number n f) fs (f ∷ without_number n fs)) (cond (not (b.event == a.event)) (b ∷ filter (λ (c : Arrival). not (c.event == a.event)) ws) (filter (λ (c : Arrival). not (c.event == a.event)) ws))
      by_test later true k h =
          let same : b ≡ a = cc in
          let here : one (b.event == a.event) ≡ 1 = ap one (eq-eqb b.event a.event (ap (λ (x : Arrival). x.event) same)) in
          let none : count_by (λ (c : Arrival). c.event == a.event) ws ≡ 0 = omega (arith, few, here, count-cons (λ (c : Arrival). c.event == a.event) b ws) in
          subst (λ v. PairsOf (IsFunctionAt names) (cond v fs (f ∷ without_number n fs)) (cond (not (b.event == a.event)) (b ∷ filter (λ (c : Arrival). not (c.event == a.event)) ws) (filter (λ (c : Arrival). not (c.event == a.event)) ws))) (sym (ap (λ m. m == n) pairs.0.number ∙ k))
          (subst (λ v. PairsOf (IsFunctionAt names) fs (cond (not v) (b ∷ filter (λ (c : Arrival). not (c.event == a.event)) ws) (filter (λ (c : Arrival). not (c.event == a.event)) ws))) (sym (eq-eqb b.event a.event (ap (λ (x : Arrival). x.event) same)))
          (subst (PairsOf (IsFunctionAt names) fs) (sym (filter_all (λ (c : Arrival). not (c.event == a.event)) ws (λ c there. ap not (other c there none)))) pairs.1))
        where
          other : (c : Arrival) → In c ws → count_by (λ (x : Arrival). x.event == a.event) ws ≡ 0 → (c.event == a.event) ≡ false
          other c there none = by_event (c.event == a.event) refl
            where
              by_event : (v : Bool) → (c.event == a.event) ≡ v → v ≡ false
              by_event false e = refl
              by_event true e = absurd (let some = in_counted (λ (x : Arrival). x.event == a.event) ws c there e in let no : ⊥ = omega (arith, some, none) in no)
      by_test later false k h =
          let at = find_in (λ (c : Arrival). cmd_sn c.request == n) ws a h in
          let some : 1 ≤ count_by (λ (c : Arrival). c.event == a.event) ws = in_counted (λ (c : Arrival). c.event == a.event) ws a at.0 (eq-eqb a.event a.event refl) in
          let apart : (b.event == a.event) ≡ false = ne_eqb b.event a.event (λ same. let here : one (b.event == a.event) ≡ 1 = ap one (eq-eqb b.event a.event same) in let no : ⊥ = omega (arith, few, here, some, count-cons (λ (c : Arrival). c.event == a.event) b ws) in no) in
          subst (λ v. PairsOf (IsFunctionAt names) (cond v fs (f ∷ without_number n fs)) (cond (not (b.event == a.event)) (b ∷ filter (λ (c : Arrival). not (c.event == a.event)) ws) (filter (λ (c : Arrival). not (c.event == a.event)) ws))) (sym (ap (λ m. m == n) pairs.0.number ∙ k))
          (subst (λ v. PairsOf (IsFunctionAt names) (f ∷ without_number n fs) (cond (not v) (b ∷ filter (λ (c : Arrival). not (c.event == a.event)) ws) (filter (λ (c : Arrival). not (c.event == a.event)) ws))) (sym apart)
          (pairs.0, later h (omega (arith, few, count-cons (λ (c : Arrival). c.event == a.event) b ws))))

-- one is counted less
without_counted : (n : ℕ) (test : WaitingFunction → Bool) (fs : List WaitingFunction) (f : WaitingFunction) → find (has_number n) fs ≡ Some f → count_by test (without_number n fs) + one (test f) ≡ count_by test fs
without_counted n test [] f is = absurd (let no : ⊥ = cc in no)
without_counted n test (g ∷ fs) f is = by_test (without_counted n test fs f) (has_number n g) is
  where
    by_test : (find (has_number n) fs ≡ Some f → count_by test (without_number n fs) + one (test f) ≡ count_by test fs) → (v : Bool) → cond v (Some g) (find (has_number n) fs) ≡ Some f → count_by test (cond v fs (g ∷ without_number n fs)) + one (test f) ≡ count_by test (g ∷ fs)
    by_test later true h = let same : g ≡ f = cc in let one_more : one (test g) ≡ one (test f) = ap (λ (x : WaitingFunction). one (test x)) same in omega (arith, one_more, count-cons test g fs)
    by_test later false h = let rest = later h in omega (arith, rest, count-cons test g fs, count-cons test g (without_number n fs))

-- ---- one that has waited executes

module _ (cids : List ℕ) (names : List Name) (notes : List Note) (v : WaitingFunctions) (ws : List Arrival) (h : AreFunctions cids names v ws) (long : length v.waiting ≡ length cids) (distinct : (e : ℕ) → count_by (λ (b : Arrival). b.event == e) ws ≤ 1)
    (a : Arrival) (first : find (λ (b : Arrival). connection_of b.request == connection_of a.request && cmd_sn b.request == cmd_sn a.request) ws ≡ Some a)
    (p : ℕ) (within : p < length cids) (at : get_or cids p 0 ≡ connection_of a.request) (apart : (q : ℕ) → q < length cids → get_or cids q 0 ≡ connection_of a.request → q ≡ p) where
  abbrev of_it : Arrival → Bool
  of_it b = connection_of b.request == get_or cids p 0

  abbrev others : List Arrival
  others = filter (λ (b : Arrival). not (b.event == a.event)) ws

  found_there : find (λ (b : Arrival). cmd_sn b.request == cmd_sn a.request) (filter of_it ws) ≡ Some a
  found_there = find_both of_it (λ (b : Arrival). cmd_sn b.request == cmd_sn a.request) ws a (ap (λ m. find (λ (b : Arrival). connection_of b.request == m && cmd_sn b.request == cmd_sn a.request) ws) at ∙ first)

  pub both : FoundBoth names a (of_conn p v.waiting)
  both = found_both names a (of_conn p v.waiting) (filter of_it ws) (h.each p within) found_there

  pub number_found : find_number p (cmd_sn a.request) v ≡ Some (both.f.request)
  number_found = ap (option_map (λ (g : WaitingFunction). g.request)) both.found

  abbrev pub left : WaitingFunctions
  left = taken p (cmd_sn a.request) v

  pub count_left : (q : ℕ) → count_lists (λ (f : WaitingFunction). f.request == q) left.waiting + one (both.f.request == q) ≡ count_lists (λ (f : WaitingFunction). f.request == q) v.waiting
  count_left q =
      let put = lists_set (λ (f : WaitingFunction). f.request == q) v.waiting p (without_number (cmd_sn a.request) (of_conn p v.waiting)) (omega (arith, within, long)) in
      let less = without_counted (cmd_sn a.request) (λ (f : WaitingFunction). f.request == q) (of_conn p v.waiting) both.f both.found in
      omega (arith, put, less)

  -- one waits less
  pub less_left : count_lists (λ (f : WaitingFunction). true) left.waiting + 1 ≡ count_lists (λ (f : WaitingFunction). true) v.waiting
  less_left =
      let put = lists_set (λ (f : WaitingFunction). true) v.waiting p (without_number (cmd_sn a.request) (of_conn p v.waiting)) (omega (arith, within, long)) in
      let less = without_counted (cmd_sn a.request) (λ (f : WaitingFunction). true) (of_conn p v.waiting) both.f both.found in
      omega (arith, put, less)

  pub long_left : length left.waiting ≡ length v.waiting
  long_left = length-set v.waiting p (without_number (cmd_sn a.request) (of_conn p v.waiting))

  pub it_waits : In a ws
  it_waits = (find_in (λ (b : Arrival). connection_of b.request == connection_of a.request && cmd_sn b.request == cmd_sn a.request) ws a first).0

  swapped : (q : ℕ) → filter (λ (b : Arrival). connection_of b.request == get_or cids q 0) others ≡ filter (λ (b : Arrival). not (b.event == a.event)) (filter (λ (b : Arrival). connection_of b.request == get_or cids q 0) ws)
  swapped q = twice (λ (b : Arrival). connection_of b.request == get_or cids q 0) (λ (b : Arrival). not (b.event == a.event)) ws
    where
      twice : (x y : Arrival → Bool) (bs : List Arrival) → filter x (filter y bs) ≡ filter y (filter x bs)
      twice x y [] = refl
      twice x y (b ∷ bs) = by_tests (twice x y bs) (x b) (y b) refl refl
        where
          by_tests : filter x (filter y bs) ≡ filter y (filter x bs) → (u w : Bool) → x b ≡ u → y b ≡ w → filter x (cond w (b ∷ filter y bs) (filter y bs)) ≡ filter y (cond u (b ∷ filter x bs) (filter x bs))
          by_tests rest true true k l = ap (λ z. cond z (b ∷ filter x (filter y bs)) (filter x (filter y bs))) k ∙ ap (λ zs. b ∷ zs) rest ∙ ap (λ z. cond z (b ∷ filter y (filter x bs)) (filter y (filter x bs))) (sym l)
          by_tests rest true false k l = rest ∙ ap (λ z. cond z (b ∷ filter y (filter x bs)) (filter y (filter x bs))) (sym l)
          by_tests rest false true k l = ap (λ z. cond z (b ∷ filter x (filter y bs)) (filter x (filter y bs))) k ∙ rest
          by_tests rest false false k l = rest

  fewer_events : (x : Arrival → Bool) (bs : List Arrival) → count_by (λ (b : Arrival). b.event == a.event) (filter x bs) ≤ count_by (λ (b : Arrival). b.event == a.event) bs
  fewer_events x [] = omega arith
  fewer_events x (b ∷ bs) = by_test (fewer_events x bs) (x b)
    where
      by_test : count_by (λ (c : Arrival). c.event == a.event) (filter x bs) ≤ count_by (λ (c : Arrival). c.event == a.event) bs → (u : Bool) → count_by (λ (c : Arrival). c.event == a.event) (cond u (b ∷ filter x bs) (filter x bs)) ≤ count_by (λ (c : Arrival). c.event == a.event) (b ∷ bs)
      by_test rest true = omega (arith, rest, count-cons (λ (c : Arrival). c.event == a.event) b (filter x bs), count-cons (λ (c : Arrival). c.event == a.event) b bs)
      by_test rest false = omega (arith, rest, count-cons (λ (c : Arrival). c.event == a.event) b bs)

  pub left_are : AreFunctions cids names left others
  left_are = record {
    each = λ q short. ⊎_elim (λ same. here q short same) (λ other. there q short other) (cases_eq q p);
    once = λ q. let n = h.once q in omega (arith, n, count_left q);
    room = h.room;
  }
    where
      here : (q : ℕ) → q < length cids → q ≡ p → PairsOf (IsFunctionAt names) (of_conn q left.waiting) (filter (λ (b : Arrival). connection_of b.request == get_or cids q 0) others)
      here q short same = subst (λ m. PairsOf (IsFunctionAt names) (of_conn m left.waiting) (filter (λ (b : Arrival). connection_of b.request == get_or cids m 0) others)) (sym same)
          (subst (λ fs. PairsOf (IsFunctionAt names) fs (filter of_it others)) (sym (get_or-set_same v.waiting p (without_number (cmd_sn a.request) (of_conn p v.waiting)) [] (omega (arith, within, long))))
          (subst (PairsOf (IsFunctionAt names) (without_number (cmd_sn a.request) (of_conn p v.waiting))) (sym (swapped p))
          (without_both names a (of_conn p v.waiting) (filter of_it ws) (h.each p within) found_there (let d = distinct a.event in omega (arith, d, fewer_events of_it ws)))))

      there : (q : ℕ) → q < length cids → (q ≡ p → ⊥) → PairsOf (IsFunctionAt names) (of_conn q left.waiting) (filter (λ (b : Arrival). connection_of b.request == get_or cids q 0) others)
      there q short other =
          subst (λ fs. PairsOf (IsFunctionAt names) fs (filter (λ (b : Arrival). connection_of b.request == get_or cids q 0) others)) (sym (get_or-set_other v.waiting p q (without_number (cmd_sn a.request) (of_conn p v.waiting)) [] other))
          (subst (PairsOf (IsFunctionAt names) (of_conn q v.waiting)) (sym (swapped q ∙ filter_all (λ (b : Arrival). not (b.event == a.event)) (filter (λ (b : Arrival). connection_of b.request == get_or cids q 0) ws) (λ b inside. ap not (not_it b inside)))) (h.each q short))
        where
          not_it : (b : Arrival) → In b (filter (λ (c : Arrival). connection_of c.request == get_or cids q 0) ws) → (b.event == a.event) ≡ false
          not_it b inside =
              let k = in-filter (λ (c : Arrival). connection_of c.request == get_or cids q 0) ws b inside in
              ne_eqb b.event a.event (λ same.
              let one_arrival : b ≡ a = two_counted (λ (c : Arrival). c.event == a.event) ws b a (distinct a.event) k.0 it_waits (eq-eqb b.event a.event same) (eq-eqb a.event a.event refl) in
              other (apart q short (sym (eqb-true (connection_of b.request) (get_or cids q 0) k.1) ∙ ap (λ (c : Arrival). connection_of c.request) one_arrival)))

  -- it waits no more, and the others wait still
  gone_waits : (e : ℕ) → (a.event == e) ≡ true → list_any (λ (b : Arrival). b.event == e) others ≡ false
  gone_waits e same = nothing ws
    where
      nothing : (bs : List Arrival) → list_any (λ (b : Arrival). b.event == e) (filter (λ (b : Arrival). not (b.event == a.event)) bs) ≡ false
      nothing [] = refl
      nothing (b ∷ bs) = by_test (nothing bs) (b.event == a.event) refl
        where
          by_test : list_any (λ (c : Arrival). c.event == e) (filter (λ (c : Arrival). not (c.event == a.event)) bs) ≡ false → (u : Bool) → (b.event == a.event) ≡ u → list_any (λ (c : Arrival). c.event == e) (cond (not u) (b ∷ filter (λ (c : Arrival). not (c.event == a.event)) bs) (filter (λ (c : Arrival). not (c.event == a.event)) bs)) ≡ false
          by_test rest true k = rest
          by_test rest false k = ap (λ u. u || list_any (λ (c : Arrival). c.event == e) (filter (λ (c : Arrival). not (c.event == a.event)) bs)) (ne_eqb b.event e (λ is. false≢true (sym k ∙ eq-eqb b.event a.event (is ∙ sym (eqb-true a.event e same))))) ∙ rest

  still_waits : (e : ℕ) → (a.event == e) ≡ false → list_any (λ (b : Arrival). b.event == e) others ≡ list_any (λ (b : Arrival). b.event == e) ws
  still_waits e other = all ws
    where
      all : (bs : List Arrival) → list_any (λ (b : Arrival). b.event == e) (filter (λ (b : Arrival). not (b.event == a.event)) bs) ≡ list_any (λ (b : Arrival). b.event == e) bs
      all [] = refl
      all (b ∷ bs) = by_test (all bs) (b.event == a.event) refl
        where
          by_test : list_any (λ (c : Arrival). c.event == e) (filter (λ (c : Arrival). not (c.event == a.event)) bs) ≡ list_any (λ (c : Arrival). c.event == e) bs → (u : Bool) → (b.event == a.event) ≡ u
              → list_any (λ (c : Arrival). c.event == e) (cond (not u) (b ∷ filter (λ (c : Arrival). not (c.event == a.event)) bs) (filter (λ (c : Arrival). not (c.event == a.event)) bs)) ≡ ((b.event == e) || list_any (λ (c : Arrival). c.event == e) bs)
          by_test rest true k = rest ∙ ap (λ u. u || list_any (λ (c : Arrival). c.event == e) bs) (sym (ne_eqb b.event e (λ is. false≢true (sym other ∙ eq-eqb a.event e (sym (eqb-true b.event a.event k) ∙ is)))))
          by_test rest false k = ap (λ u. (b.event == e) || u) rest

  pub waits_left : (e : ℕ) (v' : Bool) → (a.event == e) ≡ v' → list_any (λ (b : Arrival). b.event == e) others ≡ cond v' false (list_any (λ (b : Arrival). b.event == e) ws)
  waits_left e true is = gone_waits e is
  waits_left e false is = still_waits e is
