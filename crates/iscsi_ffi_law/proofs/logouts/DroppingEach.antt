-- The functions that wait on several connections are dropped, as they are closed one after the other.
use Rattle.std.proofs.Common.{◌≡◌, ℕ, suc, ◌+◌, ◌<◌, ◌==◌, not, cond, Bool, true, false, filter, List, [], ◌∷◌, ◌++◌, length, get_or, Option, Some, None, refl, ap, sym, subst, ◌∙◌, arith, append_assoc}
use Rattle.std.proofs.lemmas.List.{append-nil}
use Rattle.iscsi_arrivals.specs.Counts.{Counts}
use Rattle.iscsi_rules.specs.rules.Settings.{are_distinct}
use Rattle.iscsi_rules.specs.rules.Trace.{Arrival, ClosesConn, Trace, waiting_through}
use Rattle.iscsi_outbox_rules.specs.rules.Words.{contains}
use Rattle.iscsi_outbox_law.specs.private.Pairs.{EachOf, PairsOf}
use Rattle.iscsi_outbox_law.proofs.general.PairLemmas.{each-filter, each-weaken}
use Rattle.iscsi_outbox_steps.specs.Steps.{counted_from}
use Rattle.iscsi_requests.specs.Conns.{of_conn}
use Rattle.iscsi_requests.specs.Functions.{WaitingFunctions}
use Rattle.iscsi_requests.specs.Numbers.{HeldNumbers}
use Rattle.iscsi_wire.specs.Fields.{connection_of}
use Rattle.iscsi_ffi_rules.specs.rules.Calls.{Interface}
use Rattle.iscsi_ffi_rules.specs.rules.Run.{cids}
use Rattle.iscsi_ffi_rules.specs.rules.Sides.{Side}
use Rattle.iscsi_ffi_steps.specs.State.{State}
use Rattle.iscsi_ffi_steps.specs.Walk.{Doing, drop_each_function, release_if}
use Rattle.iscsi_ffi_law.specs.Names.{Name, Note}
use Rattle.iscsi_ffi_law.proofs.items.Between.{IsBetween}
use Rattle.iscsi_ffi_law.proofs.logouts.ClosingTrace.{closes_each, none_off, waiting_off}
use Rattle.iscsi_ffi_law.proofs.logouts.Dropping.{releases_append}
use Rattle.iscsi_ffi_law.proofs.logouts.DroppingFunctions.{closed_out, functions_dropped, length_kept, places_of, put_functions, release_put, without_functions}
use Rattle.iscsi_ffi_law.proofs.logouts.Parting.{as_conns, close_marks}
use Rattle.iscsi_ffi_law.proofs.requests.Releases.{releases}
use Rattle.iscsi_ffi_law.proofs.items.TakingOut.{IsOut}
use Rattle.iscsi_ffi_law.proofs.items.Waited.{IsCid, cid_at}

-- without those of the connections in these places, and the requests of those
abbrev pub functions_off : List ℕ → WaitingFunctions → WaitingFunctions
functions_off [] v = v
functions_off (p ∷ ps) v = functions_off ps (without_functions p v)

abbrev pub places_off : List ℕ → WaitingFunctions → List (Option ℕ)
places_off [] v = []
places_off (p ∷ ps) v = places_of (of_conn p v.waiting) ++ places_off ps (without_functions p v)

pub functions_both : (ps qs : List ℕ) (v : WaitingFunctions) → functions_off (ps ++ qs) v ≡ functions_off qs (functions_off ps v)
functions_both [] qs v = refl
functions_both (p ∷ ps) qs v = functions_both ps qs (without_functions p v)

pub places_both : (ps qs : List ℕ) (v : WaitingFunctions) → places_off (ps ++ qs) v ≡ places_off ps v ++ places_off qs (functions_off ps v)
places_both [] qs v = refl
places_both (p ∷ ps) qs v =
    ap (λ xs. places_of (of_conn p v.waiting) ++ xs) (places_both ps qs (without_functions p v))
    ∙ sym (append_assoc (places_of (of_conn p v.waiting)) (places_off ps (without_functions p v)) (places_off qs (functions_off ps (without_functions p v))))

pub long_off : (ps : List ℕ) (v : WaitingFunctions) → length (functions_off ps v).waiting ≡ length v.waiting
long_off [] v = refl
long_off (p ∷ ps) v = long_off ps (without_functions p v) ∙ length_kept p v.waiting p []

-- ---- what the steps do

put_released : (xs : List (Option ℕ)) (v : WaitingFunctions) (d : Doing) → releases xs (put_functions v d) ≡ put_functions v (releases xs d)
put_released [] v d = refl
put_released (x ∷ xs) v d = ap (releases xs) (release_put x v d) ∙ put_released xs v (release_if x d)

pub each_dropped : (ps : List ℕ) (d : Doing) → EachOf (λ p. p < length d.state.functions.waiting) ps → drop_each_function ps d ≡ releases (places_off ps d.state.functions) (put_functions (functions_off ps d.state.functions) d)
each_dropped [] d within = refl
each_dropped (p ∷ ps) d within =
    let xs : List (Option ℕ) = places_of (of_conn p d.state.functions.waiting) in
    let v : WaitingFunctions = without_functions p d.state.functions in
    let long : length v.waiting ≡ length d.state.functions.waiting = length_kept p d.state.functions.waiting p [] in
    ap (drop_each_function ps) (functions_dropped p (of_conn p d.state.functions.waiting) d within.0 refl ∙ put_released xs v d)
    ∙ each_dropped ps (put_functions v (releases xs d)) (each-weaken (λ q. q < length d.state.functions.waiting) (λ q. q < length v.waiting) ps (λ q lt. omega (arith, lt, long)) within.1)
    ∙ ap (releases (places_off ps v)) (sym (put_released xs (functions_off ps v) d))
    ∙ sym (releases_append xs (places_off ps v) (put_functions (functions_off ps v) d))

-- ---- what is kept

module _ (i : Interface) (names : List Name) (notes : List Note) (s : State) (r : Side) (own : Option ℕ) (xs : List (Option ℕ)) (k : IsBetween i names notes s r own xs) where
  -- these are closed; `ps`: their places
  pub each_out : (conns ps : List ℕ) → PairsOf (IsCid i) conns ps → (t : Trace) (place : Option ℕ) (ended : List (Option ℕ)) (v : HeldNumbers) (fs : WaitingFunctions) → IsOut i names notes s r own xs t place ended v fs
      → IsOut i names notes s r own xs (closes_each conns t) place (ended ++ places_off ps fs) v (functions_off ps fs)
  each_out [] [] pairs t place ended v fs h = subst (λ (ys : List (Option ℕ)). IsOut i names notes s r own xs t place ys v fs) (sym (append-nil ended)) h
  each_out [] (p ∷ ps) pairs t place ended v fs h = absurd pairs
  each_out (conn ∷ conns) [] pairs t place ended v fs h = absurd pairs
  each_out (conn ∷ conns) (p ∷ ps) pairs t place ended v fs h =
      let fs' : WaitingFunctions = without_functions p fs in
      subst (λ (ys : List (Option ℕ)). IsOut i names notes s r own xs (closes_each (conn ∷ conns) t) place ys v (functions_off ps fs')) (append_assoc ended (places_of (of_conn p fs.waiting)) (places_off ps fs'))
      (each_out conns ps pairs.1 ((ClosesConn conn ∷ []) ∷ t) place (ended ++ places_of (of_conn p fs.waiting)) v fs' (closed_out i names notes s r own xs k conn p pairs.0 t place ended v fs h))

-- ---- the connections of a session

-- the places of these, from this one on
abbrev pub places_from : ℕ → List ℕ → List ℕ
places_from n [] = []
places_from n (conn ∷ conns) = n ∷ places_from (n + 1) conns

pub counted_as : (n : ℕ) (links : List Counts) (conns : List ℕ) → length links ≡ length conns → counted_from n links ≡ places_from n conns
counted_as n [] [] same = refl
counted_as n [] (conn ∷ conns) same = absurd (let none : ⊥ = omega (arith, same) in none)
counted_as n (l ∷ links) [] same = absurd (let none : ⊥ = omega (arith, same) in none)
counted_as n (l ∷ links) (conn ∷ conns) same = ap (λ ps. n ∷ ps) (counted_as (n + 1) links conns (omega (arith, same)))

module _ (i : Interface) (names : List Name) (notes : List Note) (s : State) (r : Side) (own : Option ℕ) (xs : List (Option ℕ)) (k : IsBetween i names notes s r own xs) (distinct : are_distinct i.outbox.session.conns ≡ true) where
  pairs_from : (n : ℕ) (conns : List ℕ) → ((m : ℕ) → m < length conns → IsCid i (get_or conns m 0) (n + m)) → PairsOf (IsCid i) conns (places_from n conns)
  pairs_from n [] each = tt
  pairs_from n (conn ∷ conns) each = (
    subst (IsCid i conn) (let same : n + 0 ≡ n = omega arith in same) (each 0 (omega arith)),
    pairs_from (n + 1) conns (λ m lt. subst (IsCid i (get_or conns m 0)) (let same : n + suc m ≡ n + 1 + m = omega arith in same) (each (suc m) (omega (arith, lt)))),
  )

  pub all_cids : PairsOf (IsCid i) (cids i) (places_from 0 (cids i))
  all_cids = pairs_from 0 (cids i) (λ m lt. subst (IsCid i (get_or (cids i) m 0)) (let same : m ≡ 0 + m = omega arith in same) (cid_at i names notes s r own xs k distinct m lt))

-- what the marks that close leave waiting, where all wait on the session's connections
pub marks_drop : (conns : List ℕ) (closing : Option ℕ) (ends : Bool) (ws : List Arrival) → EachOf (λ (b : Arrival). contains conns (connection_of b.request) ≡ true) ws
    → waiting_through (close_marks closing ends) ws ≡ waiting_off (as_conns closing ++ cond ends conns []) ws
marks_drop conns (Some conn) true ws known = sym (none_off conns (filter (λ (b : Arrival). not (connection_of b.request == conn)) ws) (each-filter (λ (b : Arrival). contains conns (connection_of b.request) ≡ true) (λ (b : Arrival). not (connection_of b.request == conn)) ws known))
marks_drop conns (Some conn) false ws known = refl
marks_drop conns None true ws known = sym (none_off conns ws known)
marks_drop conns None false ws known = refl
