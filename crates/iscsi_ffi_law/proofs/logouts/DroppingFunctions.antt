-- The functions that wait on a connection are dropped as it is closed: each waits no more, and its use ends.
use Rattle.std.proofs.Common.{◌≡◌, ℕ, zero, suc, ◌+◌, ◌<◌, ◌≤◌, ◌==◌, ◌&&◌, ⊎_elim, inl, not, cond, Bool, true, false, List, [], ◌∷◌, ◌++◌, length, map, count_by, filter, find, get_or, set, nat_lt, is_some, Option, Some, None, refl, ap, sym, subst, ◌∙◌, arith, append_assoc, eq-eqb, le-ltb, lt-ltb, inr, length-append}
use Rattle.std.proofs.lemmas.Bool.{cases_lt, eqb-true, false≢true}
use Rattle.std.proofs.lemmas.List.{append-nil, get_or-set_same, set-get_or}
use Rattle.iscsi_wire.specs.Fields.{cmd_sn, connection_of}
use Rattle.iscsi_rules.specs.rules.Trace.{Arrival, Executes, Mark, Trace, held, shown, waiting, ClosesConn}
use Rattle.iscsi_rules.proofs.general.CountLemmas.{one}
use Rattle.iscsi_rules.proofs.general.ElementLemmas.{In, in-filter}
use Rattle.iscsi_rules.proofs.general.ListLemmas.{fewer_counted}
use Rattle.iscsi_outbox_law.specs.private.Pairs.{PairsOf}
use Rattle.iscsi_outbox_law.proofs.general.PairLemmas.{each-weaken}
use Rattle.iscsi_requests.specs.Conns.{behind_oldest, of_conn, oldest}
use Rattle.iscsi_requests.specs.Cookies.{has_place}
use Rattle.iscsi_requests.specs.Functions.{WaitingFunctions, first_request, has_number, popped, request_of, without_number}
use Rattle.iscsi_requests.specs.Numbers.{HeldNumbers, size_for}
use Rattle.iscsi_requests.specs.declared.functions.WaitingFunction.{WaitingFunction}
use Rattle.iscsi_ffi_rules.specs.rules.Calls.{Interface}
use Rattle.iscsi_ffi_rules.specs.rules.Needs.{admitted_by, is_held, is_of_event, is_waiting}
use Rattle.iscsi_ffi_rules.specs.rules.Run.{cids}
use Rattle.iscsi_ffi_rules.specs.rules.Sides.{Side}
use Rattle.iscsi_ffi_steps.specs.State.{State}
use Rattle.iscsi_ffi_steps.specs.Walk.{Doing, drop_functions, release_if, release_one}
use Rattle.iscsi_ffi_law.specs.Names.{Name, Note, place_named}
use Rattle.iscsi_ffi_law.specs.Parts.{IsFunctionAt, IsNote, IsRequest}
use Rattle.iscsi_ffi_law.specs.Uses.{count_functions, count_held, count_lists, is_place}
use Rattle.iscsi_ffi_law.proofs.arrivals.Asked.{find_nothing}
use Rattle.iscsi_ffi_law.proofs.items.Between.{IsBetween, distinct_same, held_same}
use Rattle.iscsi_ffi_law.proofs.requests.Core.{endings_more}
use Rattle.iscsi_ffi_law.proofs.items.Functions.{both, count_left, it_waits, left, left_are, long_left, waits_left, less_left}
use Rattle.iscsi_ffi_law.proofs.general.Members.{each_in, in_counted, in_each, two_counted}
use Rattle.iscsi_ffi_law.proofs.requests.NameLemmas.{Named, found_named, place_event}
use Rattle.iscsi_ffi_law.proofs.items.QuietItems.{IsUnheld, is_held_on}
use Rattle.iscsi_ffi_law.proofs.requests.Releases.{endings, releases}
use Rattle.iscsi_ffi_law.proofs.arrivals.Slots.{slots_same}
use Rattle.iscsi_ffi_law.proofs.items.TakingOut.{IsOut, out_as}
use Rattle.iscsi_ffi_law.proofs.items.Waited.{IsCid}

-- ---- what the steps do

abbrev pub put_functions : WaitingFunctions → Doing → Doing
put_functions v d = record d { state = record d.state { functions = v } }

pub release_put : (x : Option ℕ) (v : WaitingFunctions) (d : Doing) → release_if x (put_functions v d) ≡ put_functions v (release_if x d)
release_put None v d = refl
release_put (Some q) v d = by_place (has_place q d.state.cookies)
  where
    by_place : (w : Bool) → cond w (release_one q (put_functions v d)) (put_functions v d) ≡ put_functions v (cond w (release_one q d) d)
    by_place true = refl
    by_place false = refl

abbrev pub without_functions : ℕ → WaitingFunctions → WaitingFunctions
without_functions p v = record v { waiting = set v.waiting p [] }

abbrev pub places_of : List WaitingFunction → List (Option ℕ)
places_of fs = map (λ (f : WaitingFunction). Some f.request) fs

module _ (p : ℕ) where
  set_twice : (lists : List (List WaitingFunction)) (k : ℕ) (xs : List WaitingFunction) → set (set lists k xs) k [] ≡ set lists k []
  set_twice [] k xs = refl
  set_twice (ys ∷ lists) zero xs = refl
  set_twice (ys ∷ lists) (suc k) xs = ap (λ ls. ys ∷ ls) (set_twice lists k xs)

  pub length_kept : (lists : List (List WaitingFunction)) (k : ℕ) (xs : List WaitingFunction) → length (set lists k xs) ≡ length lists
  length_kept [] k xs = refl
  length_kept (ys ∷ lists) zero xs = refl
  length_kept (ys ∷ lists) (suc k) xs = ap suc (length_kept lists k xs)

  pub functions_dropped : (fs : List WaitingFunction) (d : Doing) → p < length d.state.functions.waiting → of_conn p d.state.functions.waiting ≡ fs → drop_functions (length fs) p d ≡ releases (places_of fs) (put_functions (without_functions p d.state.functions) d)
  functions_dropped [] d within is = ap (λ ls. put_functions (record d.state.functions { waiting = ls }) d) (sym (ap (set d.state.functions.waiting p) (sym is) ∙ set-get_or d.state.functions.waiting p []))
  functions_dropped (f ∷ fs) d within is =
      let first : release_if (first_request p d.state.functions) (put_functions (popped p d.state.functions) d) ≡ put_functions (popped p d.state.functions) (release_if (Some f.request) d)
      = ap (λ ys. release_if (request_of_first ys) (put_functions (popped p d.state.functions) d)) is ∙ release_put (Some f.request) (popped p d.state.functions) d in
      let rest : of_conn p (popped p d.state.functions).waiting ≡ fs = get_or-set_same d.state.functions.waiting p (behind_oldest (of_conn p d.state.functions.waiting)) [] within ∙ ap behind_oldest is in
      ap (drop_functions (length fs) p) first
      ∙ functions_dropped fs (put_functions (popped p d.state.functions) (release_if (Some f.request) d)) (omega (arith, within, length_kept d.state.functions.waiting p (behind_oldest (of_conn p d.state.functions.waiting)))) rest
      ∙ ap (λ ls. releases (places_of fs) (put_functions (record d.state.functions { waiting = ls }) (release_if (Some f.request) d))) (set_twice d.state.functions.waiting p (behind_oldest (of_conn p d.state.functions.waiting)))
      ∙ ap (releases (places_of fs)) (sym (release_put (Some f.request) (without_functions p d.state.functions) d))
    where
      request_of_first : List WaitingFunction → Option ℕ
      request_of_first ys = request_of (oldest ys)

-- ---- what is kept

-- the first one that passes is found
head_found : (p q : Arrival → Bool) (ws as' : List Arrival) (a : Arrival) → filter p ws ≡ a ∷ as' → q a ≡ true → find (λ (b : Arrival). p b && q b) ws ≡ Some a
head_found p q [] as' a is passes = absurd (let no : ⊥ = cc in no)
head_found p q (b ∷ ws) as' a is passes = by_test (λ h. head_found p q ws as' a h passes) (p b) refl is
  where
    by_test : (filter p ws ≡ a ∷ as' → find (λ (c : Arrival). p c && q c) ws ≡ Some a) → (v : Bool) → p b ≡ v → cond v (b ∷ filter p ws) (filter p ws) ≡ a ∷ as' → cond (p b && q b) (Some b) (find (λ (c : Arrival). p c && q c) ws) ≡ Some a
    by_test later true k h =
        let same : b ≡ a = cc in
        ap (λ v. cond (v && q b) (Some b) (find (λ (c : Arrival). p c && q c) ws)) k ∙ ap (λ v. cond v (Some b) (find (λ (c : Arrival). p c && q c) ws)) (ap q same ∙ passes) ∙ ap (λ (x : Arrival). let y : Option Arrival = Some x in y) same
    by_test later false k h = ap (λ v. cond (v && q b) (Some b) (find (λ (c : Arrival). p c && q c) ws)) k ∙ later h

-- the first of those that wait on a connection, by both
pub record IsFirst (names : List Name) (f : WaitingFunction) (ws : List Arrival) : Type 0 where
  pub a : Arrival
  pub others : List Arrival
  pub are : ws ≡ a ∷ others
  pub is : IsFunctionAt names f a

first_pair : (names : List Name) (f : WaitingFunction) (fs : List WaitingFunction) (ws : List Arrival) → PairsOf (IsFunctionAt names) (f ∷ fs) ws → IsFirst names f ws
first_pair names f fs [] pairs = absurd pairs
first_pair names f fs (a ∷ ws) pairs = record { a = a; others = ws; are = refl; is = pairs.0 }

module _ (i : Interface) (names : List Name) (notes : List Note) (s : State) (r : Side) (own : Option ℕ) (xs : List (Option ℕ)) (k : IsBetween i names notes s r own xs) (cid p : ℕ) (c : IsCid i cid p) where
  module _ (t : Trace) (place : Option ℕ) (ended : List (Option ℕ)) (v : HeldNumbers) (fs : WaitingFunctions) (h : IsOut i names notes s r own xs t place ended v fs) (f : WaitingFunction) (rest : List WaitingFunction) (of_p : of_conn p fs.waiting ≡ f ∷ rest) where
    abbrev s1 : State
    s1 = record s { held = v; functions = fs }

    pub first : IsFirst names f (filter (λ (b : Arrival). connection_of b.request == get_or (cids i) p 0) (waiting t))
    first = first_pair names f rest (filter (λ (b : Arrival). connection_of b.request == get_or (cids i) p 0) (waiting t))
        (subst (λ ys. PairsOf (IsFunctionAt names) ys (filter (λ (b : Arrival). connection_of b.request == get_or (cids i) p 0) (waiting t))) of_p (h.functions_are.each p c.within))

    abbrev a : Arrival
    a = first.a

    of_it : (connection_of a.request == get_or (cids i) p 0) ≡ true
    of_it = (in-filter (λ (b : Arrival). connection_of b.request == get_or (cids i) p 0) (waiting t) first.a (subst (In first.a) (sym first.are) (inl refl))).1

    at : get_or (cids i) p 0 ≡ connection_of a.request
    at = sym (eqb-true (connection_of a.request) (get_or (cids i) p 0) of_it)

    apart : (q : ℕ) → q < length (cids i) → get_or (cids i) q 0 ≡ connection_of a.request → q ≡ p
    apart q short same = c.apart q short (same ∙ sym at ∙ c.at)

    found : find (λ (b : Arrival). connection_of b.request == connection_of a.request && cmd_sn b.request == cmd_sn a.request) (waiting t) ≡ Some first.a
    found = ap (λ n. find (λ (b : Arrival). connection_of b.request == n && cmd_sn b.request == cmd_sn a.request) (waiting t)) (sym at)
        ∙ head_found (λ (b : Arrival). connection_of b.request == get_or (cids i) p 0) (λ (b : Arrival). cmd_sn b.request == cmd_sn a.request) (waiting t) first.others first.a first.are (eq-eqb (cmd_sn a.request) (cmd_sn a.request) refl)

    once : (e : ℕ) → count_by (λ (b : Arrival). b.event == e) (waiting t) ≤ 1
    once e = let d = h.distinct.events e in omega (arith, d)

    long : length fs.waiting ≡ length (cids i)
    long = h.long_functions ∙ k.sizes.functions

    abbrev its : WaitingFunction
    its = (both (cids i) names notes fs (waiting t) h.functions_are long once a found p c.within at apart).f

    it_has : has_number (cmd_sn a.request) f ≡ true
    it_has = ap (λ n. n == cmd_sn a.request) first.is.number ∙ eq-eqb (cmd_sn a.request) (cmd_sn a.request) refl

    -- it is the oldest one
    its_is : its ≡ f
    its_is =
        let there : find (has_number (cmd_sn a.request)) (f ∷ rest) ≡ Some its = ap (find (has_number (cmd_sn a.request))) (sym of_p) ∙ (both (cids i) names notes fs (waiting t) h.functions_are long once a found p c.within at apart).found in
        let here : find (has_number (cmd_sn a.request)) (f ∷ rest) ≡ Some f = ap (λ v'. cond v' (Some f) (find (has_number (cmd_sn a.request)) rest)) it_has in
        let same : Some its ≡ Some f = sym there ∙ here in
        cc

    abbrev fs' : WaitingFunctions
    fs' = left (cids i) names notes fs (waiting t) h.functions_are long once a found p c.within at apart

    -- it is popped
    popped_is : fs' ≡ popped p fs
    popped_is = ap (λ ys. record fs { waiting = set fs.waiting p ys }) (ap (without_number (cmd_sn a.request)) of_p ∙ ap (λ v'. cond v' rest (f ∷ without_number (cmd_sn a.request) rest)) it_has ∙ sym (ap behind_oldest of_p))

    counted : (q : ℕ) → count_lists (λ (g : WaitingFunction). g.request == q) fs'.waiting + one (its.request == q) ≡ count_lists (λ (g : WaitingFunction). g.request == q) fs.waiting
    counted q = count_left (cids i) names notes fs (waiting t) h.functions_are long once a found p c.within at apart q

    abbrev out : List Mark
    out = Executes a ∷ []

    u : IsUnheld out
    u = record { admits = refl; admits_none = λ n. refl; delivers = λ n. refl; empties = λ n. refl }

    named : place_named names a.event ≡ Some (its.request)
    named = (both (cids i) names notes fs (waiting t) h.functions_are long once a found p c.within at apart).is.named

    there : In a (waiting t)
    there = it_waits (cids i) names notes fs (waiting t) h.functions_are long once a found p c.within at apart

    -- what waits isn't held
    unheld : count_by (is_place its.request) v.places ≡ 0
    unheld =
        let g : Named names a.event its.request = found_named names a.event its.request named in
        let q : IsRequest s1 t g.name = each_in (IsRequest s1 t) names g.name g.there h.requests in
        let some : 1 ≤ count_by (λ (b : Arrival). b.event == a.event) (waiting t) = in_counted (λ (b : Arrival). b.event == a.event) (waiting t) a there (eq-eqb a.event a.event refl) in
        let none_shown : count_by (λ (b : Arrival). b.event == a.event) (shown admitted_by t) ≡ 0 = (let d = h.distinct.events a.event in omega (arith, d, some)) in
        let none_found : find (is_of_event a.event) (shown admitted_by t) ≡ None = find_nothing (is_of_event a.event) (shown admitted_by t) (λ b inside. by_test b inside none_shown (b.event == a.event) refl) in
        let not_held : is_held a.event t ≡ false = ap (λ (x : Option Arrival). elim x as (λ (y : Option Arrival). Bool) [ Some b ↦ is_some (held t b.number) | None ↦ false ]) none_found in
        let none : nat_lt 0 (count_held g.name.place s1) ≡ false = sym q.held ∙ ap (λ e. is_held e t) g.event_is ∙ not_held in
        ⊎_elim
        (λ more. absurd (false≢true (sym none ∙ lt-ltb 0 (count_held g.name.place s1) (subst (λ m. 0 < count_held m s1) (sym g.place_is) more))))
        (λ less. omega (arith, less)) (cases_lt 0 (count_held its.request s1))
      where
        by_test : (b : Arrival) → In b (shown admitted_by t) → count_by (λ (d : Arrival). d.event == a.event) (shown admitted_by t) ≡ 0 → (w : Bool) → (b.event == a.event) ≡ w → (b.event == a.event) ≡ false
        by_test b inside none false is = is
        by_test b inside none true is = absurd (let some = in_counted (λ (d : Arrival). d.event == a.event) (shown admitted_by t) b inside is in let no : ⊥ = omega (arith, some, none) in no)

    still : (n : Name) → In n names → IsRequest s1 t n → (w : Bool) → (a.event == n.event) ≡ w → is_waiting n.event (out ∷ t) ≡ nat_lt 0 (count_lists (λ (g : WaitingFunction). g.request == n.place) fs'.waiting)
    still n inside q true is =
        let same : one (its.request == n.place) ≡ 1 = ap one (place_event names notes k.requests.apart n a.event its.request inside named ∙ is) in
        waits_left (cids i) names notes fs (waiting t) h.functions_are long once a found p c.within at apart n.event true is
        ∙ sym (le-ltb 0 (count_lists (λ (g : WaitingFunction). g.request == n.place) fs'.waiting) (let o = h.functions_are.once n.place in omega (arith, same, o, counted n.place)))
    still n inside q false is =
        let none : one (its.request == n.place) ≡ 0 = ap one (place_event names notes k.requests.apart n a.event its.request inside named ∙ is) in
        let same : count_functions n.place s1 ≡ count_lists (λ (g : WaitingFunction). g.request == n.place) fs'.waiting = omega (arith, none, counted n.place) in
        waits_left (cids i) names notes fs (waiting t) h.functions_are long once a found p c.within at apart n.event false is
        ∙ q.waiting ∙ ap (nat_lt 0) same

    over' : (q : ℕ) → 1 ≤ endings (ended ++ Some (its.request) ∷ []) q → count_by (is_place q) v.places + count_lists (λ (g : WaitingFunction). g.request == q) fs'.waiting ≡ 0
    over' q more = by_place (its.request == q) refl
      where
        by_place : (w : Bool) → (its.request == q) ≡ w → count_by (is_place q) v.places + count_lists (λ (g : WaitingFunction). g.request == q) fs'.waiting ≡ 0
        by_place true same =
            let here : one (its.request == q) ≡ 1 = ap one same in
            let none : count_by (is_place q) v.places ≡ 0 = subst (λ m. count_by (is_place m) v.places ≡ 0) (eqb-true its.request q same) unheld in
            let o = h.functions_are.once q in
            omega (arith, here, none, counted q, o)
        by_place false other =
            let nothing : one (its.request == q) ≡ 0 = ap one other in
            let before = h.over q (omega (arith, more, endings_more ended (Some (its.request)) q, nothing)) in
            omega (arith, before, counted q, nothing)

    its_out : IsOut i names notes s r own xs (out ∷ t) place (ended ++ Some (its.request) ∷ []) v fs'
    its_out = record {
      long = h.long;
      long_functions = long_left (cids i) names notes fs (waiting t) h.functions_are long once a found p c.within at apart ∙ h.long_functions;
      functions_are = left_are (cids i) names notes fs (waiting t) h.functions_are long once a found p c.within at apart;
      uses = λ q. omega (arith, h.uses q, counted q, endings_more ended (Some (its.request)) q);
      fewer = (let few = h.fewer in let less = less_left (cids i) names notes fs (waiting t) h.functions_are long once a found p c.within at apart in let more = length-append ended (Some (its.request) ∷ []) in omega (arith, few, less, more));
      requests = in_each (IsRequest (record s { held = v; functions = fs' }) (out ∷ t)) names
          (λ n inside. let q : IsRequest s1 t n = each_in (IsRequest s1 t) names n inside h.requests in record { held = is_held_on t out u n.event ∙ q.held; waiting = still n inside q (a.event == n.event) refl });
      noted = each-weaken (IsNote s1 r.both.box.links) (IsNote (record s { held = v; functions = fs' }) r.both.box.links) notes (λ n q. let none = q.waiting in record { held = q.held; waiting = omega (arith, none, counted n.place); home = q.home }) h.noted;
      slots = slots_same (size_for i.outbox.session.window) s.commands.room names v t (out ∷ t) (held_same t out u) h.slots;
      distinct = distinct_same t out u (λ e. let fewer = fewer_counted (λ (x : Arrival). x.event == e) (λ (b : Arrival). not (b.event == a.event)) (waiting t) in omega (arith, fewer)) h.distinct;
      over = over';
    }

    -- the oldest one is dropped
    pub oldest_out : IsOut i names notes s r own xs ((Executes a ∷ []) ∷ t) place (ended ++ Some f.request ∷ []) v (popped p fs)
    oldest_out = subst (λ (g : WaitingFunction). IsOut i names notes s r own xs (out ∷ t) place (ended ++ Some g.request ∷ []) v (popped p fs)) its_is (subst (IsOut i names notes s r own xs (out ∷ t) place (ended ++ Some (its.request) ∷ []) v) popped_is its_out)

  -- ---- all of them

  abbrev of_cid : Arrival → Bool
  of_cid b = connection_of b.request == cid

  -- those of other connections wait still
  others_wait : (ws : List Arrival) (b : Arrival) → (of_cid b ≡ true) → In b ws → ((e : ℕ) → count_by (λ (x : Arrival). x.event == e) ws ≤ 1) → filter (λ (x : Arrival). not (of_cid x)) (filter (λ (x : Arrival). not (x.event == b.event)) ws) ≡ filter (λ (x : Arrival). not (of_cid x)) ws
  others_wait ws b here inside once = all ws (λ x there. there)
    where
      one_apart : (x : Arrival) → In x ws → of_cid x ≡ false → (x.event == b.event) ≡ false
      one_apart x there other = by_event (x.event == b.event) refl
        where
          by_event : (w : Bool) → (x.event == b.event) ≡ w → (x.event == b.event) ≡ false
          by_event false is = is
          by_event true is =
              let same : x ≡ b = two_counted (λ (y : Arrival). y.event == b.event) ws x b (once b.event) there inside is (eq-eqb b.event b.event refl) in
              absurd (false≢true (sym other ∙ ap of_cid same ∙ here))

      all : (us : List Arrival) → ((x : Arrival) → In x us → In x ws) → filter (λ (x : Arrival). not (of_cid x)) (filter (λ (x : Arrival). not (x.event == b.event)) us) ≡ filter (λ (x : Arrival). not (of_cid x)) us
      all [] sub = refl
      all (x ∷ us) sub = by_tests (all us (λ y there. sub y (inr there))) (of_cid x) refl (x.event == b.event) refl
        where
          by_tests : filter (λ (y : Arrival). not (of_cid y)) (filter (λ (y : Arrival). not (y.event == b.event)) us) ≡ filter (λ (y : Arrival). not (of_cid y)) us → (u : Bool) → of_cid x ≡ u → (w : Bool) → (x.event == b.event) ≡ w
              → filter (λ (y : Arrival). not (of_cid y)) (cond (not w) (x ∷ filter (λ (y : Arrival). not (y.event == b.event)) us) (filter (λ (y : Arrival). not (y.event == b.event)) us)) ≡ cond (not u) (x ∷ filter (λ (y : Arrival). not (of_cid y)) us) (filter (λ (y : Arrival). not (of_cid y)) us)
          by_tests later true is true e = later
          by_tests later true is false e = ap (λ z. cond (not z) (x ∷ filter (λ (y : Arrival). not (of_cid y)) (filter (λ (y : Arrival). not (y.event == b.event)) us)) (filter (λ (y : Arrival). not (of_cid y)) (filter (λ (y : Arrival). not (y.event == b.event)) us))) is ∙ later
          by_tests later false is true e = absurd (false≢true (sym (one_apart x (sub x (inl refl)) is) ∙ e))
          by_tests later false is false e = ap (λ z. cond (not z) (x ∷ filter (λ (y : Arrival). not (of_cid y)) (filter (λ (y : Arrival). not (y.event == b.event)) us)) (filter (λ (y : Arrival). not (of_cid y)) (filter (λ (y : Arrival). not (y.event == b.event)) us))) is ∙ ap (λ zs. x ∷ zs) later

  none_left : (ws : List Arrival) → filter (λ (b : Arrival). connection_of b.request == get_or (cids i) p 0) ws ≡ [] → filter (λ (x : Arrival). not (of_cid x)) ws ≡ ws
  none_left [] none = refl
  none_left (b ∷ ws) none = by_test (none_left ws) (connection_of b.request == get_or (cids i) p 0) refl none
    where
      by_test : (filter (λ (x : Arrival). connection_of x.request == get_or (cids i) p 0) ws ≡ [] → filter (λ (x : Arrival). not (of_cid x)) ws ≡ ws) → (w : Bool) → (connection_of b.request == get_or (cids i) p 0) ≡ w → cond w (b ∷ filter (λ (x : Arrival). connection_of x.request == get_or (cids i) p 0) ws) (filter (λ (x : Arrival). connection_of x.request == get_or (cids i) p 0) ws) ≡ [] → filter (λ (x : Arrival). not (of_cid x)) (b ∷ ws) ≡ b ∷ ws
      by_test later true is k = absurd (let z : ⊥ = cc in z)
      by_test later false is k = ap (λ z. cond (not z) (b ∷ filter (λ (x : Arrival). not (of_cid x)) ws) (filter (λ (x : Arrival). not (of_cid x)) ws)) (ap (λ n. connection_of b.request == n) (sym c.at) ∙ is) ∙ ap (λ xs'. b ∷ xs') (later k)

  -- the trace in which each of them has executed
  record AreDropped (t : Trace) (place : Option ℕ) (ended : List (Option ℕ)) (v : HeldNumbers) (fs : WaitingFunctions) (list : List WaitingFunction) : Type 0 where
    then : Trace
    holds : (n : ℕ) → held then n ≡ held t n
    admitted : shown admitted_by then ≡ shown admitted_by t
    waits : waiting then ≡ filter (λ (x : Arrival). not (of_cid x)) (waiting t)
    out : IsOut i names notes s r own xs then place (ended ++ places_of list) v (without_functions p fs)

  all_dropped : (list : List WaitingFunction) (t : Trace) (place : Option ℕ) (ended : List (Option ℕ)) (v : HeldNumbers) (fs : WaitingFunctions) → IsOut i names notes s r own xs t place ended v fs → of_conn p fs.waiting ≡ list → AreDropped t place ended v fs list
  all_dropped [] t place ended v fs h is = record {
    then = t;
    holds = λ n. refl;
    admitted = refl;
    waits = sym (none_left (waiting t) (no_pairs (filter (λ (b : Arrival). connection_of b.request == get_or (cids i) p 0) (waiting t)) (subst (λ ys. PairsOf (IsFunctionAt names) ys (filter (λ (b : Arrival). connection_of b.request == get_or (cids i) p 0) (waiting t))) is (h.functions_are.each p c.within))));
    out = subst (λ ys. IsOut i names notes s r own xs t place ys v (without_functions p fs)) (sym (append-nil ended)) (subst (λ ls. IsOut i names notes s r own xs t place ended v (record fs { waiting = ls })) (sym (ap (set fs.waiting p) (sym is) ∙ set-get_or fs.waiting p [])) h);
  }
    where
      no_pairs : (ws : List Arrival) → PairsOf (IsFunctionAt names) [] ws → ws ≡ []
      no_pairs [] pairs = refl
      no_pairs (b ∷ ws) pairs = absurd pairs
  all_dropped (f ∷ list) t place ended v fs h is =
      let b : Arrival = (first t place ended v fs h f list is).a in
      let t' : Trace = (Executes b ∷ []) ∷ t in
      let within : p < length fs.waiting = (let l = long t place ended v fs h f list is in let w = c.within in omega (arith, l, w)) in
      let later : AreDropped t' place (ended ++ Some f.request ∷ []) v (popped p fs) list
      = all_dropped list t' place (ended ++ Some f.request ∷ []) v (popped p fs) (oldest_out t place ended v fs h f list is) (get_or-set_same fs.waiting p (behind_oldest (of_conn p fs.waiting)) [] within ∙ ap behind_oldest is) in
      let u : IsUnheld (Executes b ∷ []) = record { admits = refl; admits_none = λ n. refl; delivers = λ n. refl; empties = λ n. refl } in
      record {
        then = later.then;
        holds = λ n. later.holds n ∙ held_same t (Executes b ∷ []) u n;
        admitted = later.admitted ∙ append-nil (shown admitted_by t);
        waits = later.waits ∙ others_wait (waiting t) b (ap (λ n. connection_of b.request == n) (sym c.at) ∙ of_it t place ended v fs h f list is) (there t place ended v fs h f list is) (once t place ended v fs h f list is);
        out = subst (λ ls. IsOut i names notes s r own xs later.then place (ended ++ places_of (f ∷ list)) v (record fs { waiting = ls })) (set_twice p fs.waiting p (behind_oldest (of_conn p fs.waiting)))
            (subst (λ ys. IsOut i names notes s r own xs later.then place ys v (without_functions p (popped p fs))) (append_assoc ended (Some f.request ∷ []) (places_of list)) later.out);
      }

  -- the connection is closed
  pub closed_out : (t : Trace) (place : Option ℕ) (ended : List (Option ℕ)) (v : HeldNumbers) (fs : WaitingFunctions) → IsOut i names notes s r own xs t place ended v fs
      → IsOut i names notes s r own xs ((ClosesConn cid ∷ []) ∷ t) place (ended ++ places_of (of_conn p fs.waiting)) v (without_functions p fs)
  closed_out t place ended v fs h =
      let d : AreDropped t place ended v fs (of_conn p fs.waiting) = all_dropped (of_conn p fs.waiting) t place ended v fs h refl in
      let u : IsUnheld (ClosesConn cid ∷ []) = record { admits = refl; admits_none = λ n. refl; delivers = λ n. refl; empties = λ n. refl } in
      out_as i names notes s r own xs k d.then ((ClosesConn cid ∷ []) ∷ t) place (ended ++ places_of (of_conn p fs.waiting)) v (without_functions p fs) (λ n. held_same t (ClosesConn cid ∷ []) u n ∙ sym (d.holds n)) (append-nil (shown admitted_by t) ∙ sym d.admitted) (sym d.waits) d.out
